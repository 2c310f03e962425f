-- The head of a correcting trade: found where it stands, and what is found stands there. Assumes nothing.
use Prim.Native.Nat.{ℕ, suc, ◌≤◌}
use native.Mathlib.Omega.{arith}
use mathlib.Core.Path.{◌≡◌, refl, sym, ap, ◌∙◌, subst}
use mathlib.Core.Bool.{Bool, true, false}
use mathlib.Core.List.{List, [], ◌∷◌, ◌++◌}
use lib.Dec.{leb}
use lib.ListN.{length, take, drop, length-append, length-take}
use lib.Seq.{take-append_seam, drop-append_seam}
use Rattle.std.specs.Prelude.{Option, Some, None}
use Rattle.text.specs.Pick.{pick, opt, all, same}
use Rattle.text.specs.Reading.{heads, starts}
use Rattle.text.proofs.Reading.{starts_append}
use Rattle.text.proofs.Tests.{is_le}
use Rattle.text.proofs.Parts.{all_append}
use Rattle.rules.specs.Tape.{is_upper}
use Rattle.rules.specs.Conditions.{after_name}
use Rattle.rules.specs.declared.Letters.{Letters}
use Rattle.text.proofs.Booleans.{false_true}
use Rattle.name_back.specs.Cut.{one_sold}
use Rattle.name_back.proofs.Parts.{front_is}
use Rattle.name_back.proofs.Back.{conditions_upper}
use Rattle.read_name.specs.Head.{letters_after, sold_in, after_in, upper_count, again_by, again_in, again_at}
use Rattle.read_name.specs.declared.AgainRead.{AgainRead}
use Rattle.read_name.proofs.Count.{count_within}
use Rattle.claim_names.proofs.Counts.{count_all}
use Rattle.claim_names.proofs.Head.{after_back, after_short, after_told}

-- ---- it is found

unfoldable pub again_read : List ℕ → Letters → AgainRead
again_read text x = record { used = length (text ++ after_name x); letters = letters_after x.m x.o x.s x.l }

some_front : (t u : List ℕ) → 1 ≤ length t → again_in t (t ++ u) ≡ again_by (length (t ++ u)) (after_in (drop (length t) (t ++ u)))
unfolding again_in pick
some_front [] u h = absurd (omega (h, arith))
some_front (c ∷ t) u h = rw (starts_append (c ∷ t) u)

module _ (x : Letters) (z : x.n ≡ false) (o : one_sold x ≡ true) (s : List ℕ) (l : heads is_upper s ≡ false) where
  run_is : (t : List ℕ) → all is_upper t ≡ true → length t ≤ 22 → take (upper_count ((t ++ after_name x) ++ s)) ((t ++ after_name x) ++ s) ≡ t ++ after_name x
  run_is t u k = rw (count_all is_upper 35 (t ++ after_name x) s (all_append is_upper t (after_name x) u (conditions_upper x)) (omega (length-append t (after_name x), after_short x z o, k, arith)) l) (take-append_seam (t ++ after_name x) s)

  -- with the name again
  pub again_found : (t : List ℕ) → all is_upper t ≡ true → length t ≤ 22 → 1 ≤ length t → again_at t ((t ++ after_name x) ++ s) ≡ Some (again_read t x)
  unfolding again_at again_read again_by
  again_found t u k i = rw (run_is t u k, some_front t (after_name x) i, drop-append_seam t (after_name x), after_back x z o)

  -- without it, where there is no condition after it either
  pub again_none : (t : List ℕ) → after_name x ≡ [] → again_at t s ≡ Some (record { used = 0; letters = letters_after false false false false })
  unfolding again_at again_in again_by after_in sold_in starts same pick all
  again_none t e = rw (count_all is_upper 35 [] s refl (omega arith) l)

-- ---- what is found stands there

pub record AgainTold (name s : List ℕ) (h : AgainRead) : Type 0 where
  pub within : h.used ≤ length s
  pub repeated : Bool
  pub repeats : leb 1 h.used ≡ repeated
  pub text : take h.used s ≡ opt repeated name ++ after_name h.letters
  pub none : repeated ≡ false → h.letters ≡ letters_after false false false false
  pub sold : one_sold h.letters ≡ true
  pub only : h.letters ≡ letters_after h.letters.m h.letters.o h.letters.s h.letters.l

again_of : Option AgainRead → AgainRead
again_of (Some h) = h
again_of None = again_read [] (letters_after false false false false)

is_again : Option AgainRead → Bool
is_again (Some h) = true
is_again None = false

not_again : (h : AgainRead) → None ≡ Some h → ⊥
unfolding is_again
not_again h e = false_true (ap is_again e)

module _ (name s : List ℕ) where
  run_length : length (take (upper_count s) s) ≡ upper_count s
  run_length = omega (length-take (upper_count s) s, count_within is_upper 35 s, arith)

  told_nothing : (h : AgainRead) → again_by 0 (after_in []) ≡ Some h → AgainTold name s h
  unfolding again_by after_in sold_in starts same pick again_of letters_after after_name opt one_sold
  told_nothing h k =
      subst (AgainTold name s) (ap again_of k)
      (record { within = omega arith; repeated = false; repeats = refl; text = refl; none = λ x. refl; sold = refl; only = refl })

  told_again : (c : ℕ) (run : List ℕ) → take (upper_count s) s ≡ c ∷ run → starts name (c ∷ run) ≡ true → (y : Option Letters) → after_in (drop (length name) (c ∷ run)) ≡ y → (h : AgainRead) → again_by (length (c ∷ run)) y ≡ Some h → AgainTold name s h
  unfolding again_by again_of opt
  told_again c run e b None f h k = absurd (not_again h k)
  told_again c run e b (Some x) f h k =
      let t = after_told (drop (length name) (c ∷ run)) x f in
      let n : length (c ∷ run) ≡ upper_count s = ap length (sym e) ∙ run_length in
      subst (AgainTold name s) (ap again_of k)
      (record {
        within = omega (n, count_within is_upper 35 s, arith);
        repeated = true;
        repeats = sym (is_le 1 (suc (length run)) (omega arith));
        text = ap (λ j. take j s) n ∙ e ∙ front_is name (c ∷ run) b ∙ ap (λ z. name ++ z) t.text;
        none = λ q. absurd (false_true (sym q));
        sold = t.sold;
        only = t.only;
      })

  told_pick : (c : ℕ) (run : List ℕ) → take (upper_count s) s ≡ c ∷ run → (h : AgainRead) (b : Bool) → starts name (c ∷ run) ≡ b → pick b (again_by (length (c ∷ run)) (after_in (drop (length name) (c ∷ run)))) None ≡ Some h → AgainTold name s h
  unfolding pick
  told_pick c run e h true b k = told_again c run e b (after_in (drop (length name) (c ∷ run))) refl h k
  told_pick c run e h false b k = absurd (not_again h k)

  told_run : (run : List ℕ) → take (upper_count s) s ≡ run → (h : AgainRead) → again_in name run ≡ Some h → AgainTold name s h
  unfolding again_in
  told_run [] e h k = told_nothing h k
  told_run (c ∷ run) e h k = told_pick c run e h (starts name (c ∷ run)) refl k

  pub again_told : (h : AgainRead) → again_at name s ≡ Some h → AgainTold name s h
  unfolding again_at
  again_told h k = told_run (take (upper_count s) s) refl h k
