-- A name whose temporary suffix is not shown prints as the name without it, which an S line can enter too. Assumes nothing.
use Prim.Native.Nat.{ℕ}
use native.Mathlib.Omega.{arith}
use mathlib.Core.Path.{◌≡◌, refl, ap, ◌∙◌}
use mathlib.Core.Bool.{Bool, true, false, ◌&&◌, not}
use mathlib.Core.List.{List, [], ◌∷◌, ◌++◌}
use lib.ListN.{length, take, drop}
use Rattle.text.specs.Pick.{pick, opt, all, same}
use Rattle.text.specs.Reading.{span}
use Rattle.text.proofs.Parts.{all_append, all_take, all_drop}
use Rattle.rules.specs.Columns.{between, word, blank, is_blank, filled, left_justified, is_root}
use Rattle.rules.specs.Line.{is_printable}
use Rattle.rules.specs.Names.{root_field, suffix_field, temporary_field, appendage_field, part_text, name_text, lawful_field, lawful_name, is_reserved, is_suffix, is_temporary, is_appendage}
use Rattle.text.proofs.Booleans.{false_true}
use Rattle.line_owed.specs.Shown.{Enterable}

-- a name of 19 columns
data Nineteen : List ℕ → Type 0 where
  nineteen : (a b c d e f g h i j k l m n o p q r s : ℕ) → Nineteen (a ∷ b ∷ c ∷ d ∷ e ∷ f ∷ g ∷ h ∷ i ∷ j ∷ k ∷ l ∷ m ∷ n ∷ o ∷ p ∷ q ∷ r ∷ s ∷ [])

nineteen_is : (name : List ℕ) → length name ≡ 19 → Nineteen name
nineteen_is [] z = absurd (omega (z, arith))
nineteen_is (a ∷ []) z = absurd (omega (z, arith))
nineteen_is (a ∷ b ∷ []) z = absurd (omega (z, arith))
nineteen_is (a ∷ b ∷ c ∷ []) z = absurd (omega (z, arith))
nineteen_is (a ∷ b ∷ c ∷ d ∷ []) z = absurd (omega (z, arith))
nineteen_is (a ∷ b ∷ c ∷ d ∷ e ∷ []) z = absurd (omega (z, arith))
nineteen_is (a ∷ b ∷ c ∷ d ∷ e ∷ f ∷ []) z = absurd (omega (z, arith))
nineteen_is (a ∷ b ∷ c ∷ d ∷ e ∷ f ∷ g ∷ []) z = absurd (omega (z, arith))
nineteen_is (a ∷ b ∷ c ∷ d ∷ e ∷ f ∷ g ∷ h ∷ []) z = absurd (omega (z, arith))
nineteen_is (a ∷ b ∷ c ∷ d ∷ e ∷ f ∷ g ∷ h ∷ i ∷ []) z = absurd (omega (z, arith))
nineteen_is (a ∷ b ∷ c ∷ d ∷ e ∷ f ∷ g ∷ h ∷ i ∷ j ∷ []) z = absurd (omega (z, arith))
nineteen_is (a ∷ b ∷ c ∷ d ∷ e ∷ f ∷ g ∷ h ∷ i ∷ j ∷ k ∷ []) z = absurd (omega (z, arith))
nineteen_is (a ∷ b ∷ c ∷ d ∷ e ∷ f ∷ g ∷ h ∷ i ∷ j ∷ k ∷ l ∷ []) z = absurd (omega (z, arith))
nineteen_is (a ∷ b ∷ c ∷ d ∷ e ∷ f ∷ g ∷ h ∷ i ∷ j ∷ k ∷ l ∷ m ∷ []) z = absurd (omega (z, arith))
nineteen_is (a ∷ b ∷ c ∷ d ∷ e ∷ f ∷ g ∷ h ∷ i ∷ j ∷ k ∷ l ∷ m ∷ n ∷ []) z = absurd (omega (z, arith))
nineteen_is (a ∷ b ∷ c ∷ d ∷ e ∷ f ∷ g ∷ h ∷ i ∷ j ∷ k ∷ l ∷ m ∷ n ∷ o ∷ []) z = absurd (omega (z, arith))
nineteen_is (a ∷ b ∷ c ∷ d ∷ e ∷ f ∷ g ∷ h ∷ i ∷ j ∷ k ∷ l ∷ m ∷ n ∷ o ∷ p ∷ []) z = absurd (omega (z, arith))
nineteen_is (a ∷ b ∷ c ∷ d ∷ e ∷ f ∷ g ∷ h ∷ i ∷ j ∷ k ∷ l ∷ m ∷ n ∷ o ∷ p ∷ q ∷ []) z = absurd (omega (z, arith))
nineteen_is (a ∷ b ∷ c ∷ d ∷ e ∷ f ∷ g ∷ h ∷ i ∷ j ∷ k ∷ l ∷ m ∷ n ∷ o ∷ p ∷ q ∷ r ∷ []) z = absurd (omega (z, arith))
nineteen_is (a ∷ b ∷ c ∷ d ∷ e ∷ f ∷ g ∷ h ∷ i ∷ j ∷ k ∷ l ∷ m ∷ n ∷ o ∷ p ∷ q ∷ r ∷ s ∷ []) z = nineteen a b c d e f g h i j k l m n o p q r s
nineteen_is (a ∷ b ∷ c ∷ d ∷ e ∷ f ∷ g ∷ h ∷ i ∷ j ∷ k ∷ l ∷ m ∷ n ∷ o ∷ p ∷ q ∷ r ∷ s ∷ t ∷ u) z = absurd (omega (z, arith))

-- its columns, the four of the temporary suffix blank
pub unsuffixed : List ℕ → List ℕ
unsuffixed name = take 13 name ++ (32 ∷ 32 ∷ 32 ∷ 32 ∷ drop 17 name)

blank_part : part_text (word (32 ∷ 32 ∷ 32 ∷ 32 ∷ [])) ≡ []
unfolding part_text word span pick is_blank
blank_part = refl

blank_lawful : lawful_field is_temporary (32 ∷ 32 ∷ 32 ∷ 32 ∷ []) ≡ true
unfolding lawful_field left_justified filled blank all word span pick same is_blank
blank_lawful = refl

text_of : (name : List ℕ) → Nineteen name → name_text true (unsuffixed name) ≡ name_text false name
unfolding unsuffixed name_text opt
text_of _ (nineteen a b c d e f g h i j k l m n o p q r s) = rw blank_part

root_of : (name : List ℕ) → Nineteen name → root_field (unsuffixed name) ≡ root_field name
unfolding unsuffixed
root_of _ (nineteen a b c d e f g h i j k l m n o p q r s) = refl

suffix_of : (name : List ℕ) → Nineteen name → suffix_field (unsuffixed name) ≡ suffix_field name
unfolding unsuffixed
suffix_of _ (nineteen a b c d e f g h i j k l m n o p q r s) = refl

temporary_of : (name : List ℕ) → Nineteen name → temporary_field (unsuffixed name) ≡ 32 ∷ 32 ∷ 32 ∷ 32 ∷ []
unfolding unsuffixed
temporary_of _ (nineteen a b c d e f g h i j k l m n o p q r s) = refl

appendage_of : (name : List ℕ) → Nineteen name → appendage_field (unsuffixed name) ≡ appendage_field name
unfolding unsuffixed
appendage_of _ (nineteen a b c d e f g h i j k l m n o p q r s) = refl

without : (u v w x : Bool) → (u && (v && (w && x))) ≡ true → (u && (v && x)) ≡ true
without true true true x y = y
without true true false x y = absurd (false_true y)
without true false w x y = y
without false v w x y = y

lawful_of : (network : ℕ) (name : List ℕ) → Nineteen name → lawful_name network name ≡ true → lawful_name network (unsuffixed name) ≡ true
unfolding lawful_name
lawful_of network name y z =
    rw (root_of name y, suffix_of name y, temporary_of name y, appendage_of name y, blank_lawful)
    (without (not (is_reserved (word (root_field name)))) (lawful_field is_suffix (suffix_field name)) (lawful_field is_temporary (temporary_field name)) (lawful_field (is_appendage network) (appendage_field name)) z)

sized_of : (name : List ℕ) → Nineteen name → length (unsuffixed name) ≡ 19
unfolding unsuffixed
sized_of _ (nineteen a b c d e f g h i j k l m n o p q r s) = refl

printable_of : (name : List ℕ) → all is_printable name ≡ true → all is_printable (unsuffixed name) ≡ true
unfolding unsuffixed
printable_of name z = all_append is_printable (take 13 name) _ (all_take is_printable 13 name z) (blanks_printable (drop 17 name) (all_drop is_printable 17 name z))
  where
    blanks_printable : (s : List ℕ) → all is_printable s ≡ true → all is_printable (32 ∷ 32 ∷ 32 ∷ 32 ∷ s) ≡ true
    blanks_printable s y = unfold all is_printable between in y

-- ---- the name that is printed, with its temporary suffix or without

pub printed_name : Bool → List ℕ → List ℕ
printed_name true name = name
printed_name false name = unsuffixed name

pub printed_text : (shown : Bool) (name : List ℕ) → length name ≡ 19 → name_text true (printed_name shown name) ≡ name_text shown name
unfolding printed_name
printed_text true name z = refl
printed_text false name z = text_of name (nineteen_is name z)

pub printed_enterable : {network unit : ℕ} (shown : Bool) (name : List ℕ) → Enterable network unit name → Enterable network unit (printed_name shown name)
unfolding printed_name
printed_enterable true name z = z
printed_enterable {network} {unit} false name z =
    let y = nineteen_is name z.sized in
    record {
      on = z.on;
      trades_in = z.trades_in;
      plain = record { root = ap is_root (root_of name y) ∙ z.plain.root; lawful = lawful_of network name y z.plain.lawful };
      sized = sized_of name y;
      printable = printable_of name z.printable;
    }
