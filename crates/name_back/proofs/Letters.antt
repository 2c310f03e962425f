-- Lawful letters have at most one of O, S and L. Assumes nothing.
use Prim.Native.Nat.{ℕ}
use mathlib.Core.Path.{◌≡◌, refl, sym, ap, ◌∙◌}
use mathlib.Core.Bool.{Bool, true, false, ◌&&◌, ◌||◌, not}
use mathlib.Core.List.{List, [], ◌∷◌}
use lib.Dec.{eqb}
use borrow.Author.Tests.{eqb-true, eqb-false, ne_eqb, not-true}
use Rattle.text.specs.Bytes.{bytes}
use Rattle.text.specs.Pick.{pick, among}
use Rattle.text.proofs.Texts.{and_left, and_right}
use Rattle.rules.specs.Columns.{word}
use Rattle.rules.specs.Conditions.{letters_in, unrepeated, none_of, at_most_one, lawful_letters}
use Rattle.text.proofs.Booleans.{false_true}
use Rattle.name_back.specs.Cut.{one_sold}

-- two letters of which one is of the group are not the same
apart : (g : List ℕ) (c x : ℕ) → among c g ≡ true → among x g ≡ false → eqb c x ≡ false
apart g c x h k = ne_eqb c x (λ e. false_true (sym k ∙ (ap (λ z. among z g) (sym e) ∙ h)))

none_of_lem : (g s : List ℕ) (c : ℕ) → none_of g s ≡ true → among c g ≡ true → among c s ≡ false
unfolding none_of among
none_of_lem g [] c h k = refl
none_of_lem g (x ∷ s) c h k =
    let n = not-true (among x g) (and_left (not (among x g)) (none_of g s) h) in
    rw (apart g c x k n, none_of_lem g s c (and_right (not (among x g)) (none_of g s) h) k)

-- two letters of the group do not both stand in the text
pub at_most_one_lem : (g s : List ℕ) (c d : ℕ) → at_most_one g s ≡ true → among c g ≡ true → among d g ≡ true → eqb c d ≡ false → (among c s && among d s) ≡ false
unfolding at_most_one among pick
at_most_one_lem g [] c d h i j k = refl
at_most_one_lem g (x ∷ s) c d h i j k = go (among x g) refl (at_most_one_lem g s c d)
  where
    first : (b : Bool) → eqb c x ≡ b → none_of g s ≡ true → ((eqb c x || among c s) && (eqb d x || among d s)) ≡ false
    first false e n = rw (e, none_of_lem g s c n i)
    first true e n =
        let f : eqb d x ≡ false = ne_eqb d x (λ z. eqb-false c d k (eqb-true c x e ∙ sym z)) in
        rw (e, f, none_of_lem g s d n j)

    go : (b : Bool) → among x g ≡ b → (at_most_one g s ≡ true → among c g ≡ true → among d g ≡ true → eqb c d ≡ false → (among c s && among d s) ≡ false) → ((eqb c x || among c s) && (eqb d x || among d s)) ≡ false
    go true e ih = first (eqb c x) refl (rw e at h)
    go false e ih = rw (apart g c x i e, apart g d x j e) (ih (rw e at h) i j k)

pub lawful_one_sold : (field : List ℕ) → lawful_letters field ≡ true → one_sold (letters_in field) ≡ true
unfolding lawful_letters one_sold letters_in among
lawful_one_sold field h =
    let w = word field in
    let a = and_left (at_most_one (bytes "OSL") w) (at_most_one (bytes "NMCKR") w) (and_right (unrepeated w) (at_most_one (bytes "OSL") w && at_most_one (bytes "NMCKR") w) h) in
    rw (at_most_one_lem (bytes "OSL") w 79 83 a refl refl refl, at_most_one_lem (bytes "OSL") w 79 76 a refl refl refl, at_most_one_lem (bytes "OSL") w 83 76 a refl refl refl)
