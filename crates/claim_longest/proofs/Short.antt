-- No normal print is longer than `longest_print` bytes. Assumes nothing.
use Prim.Native.Nat.{ℕ, ◌≤◌}
use native.Mathlib.Omega.{arith}
use mathlib.Core.Path.{◌≡◌, refl}
use mathlib.Core.Bool.{Bool, true, false}
use mathlib.Core.List.{List, []}
use lib.ListN.{length, length-append}
use Rattle.text.specs.Pick.{opt}
use Rattle.rules.specs.Names.{name_text}
use Rattle.rules.specs.Side.{side_text}
use Rattle.rules.specs.Announcement.{mode_text, level_text}
use Rattle.rules.specs.Correction.{repeats_name, cancel_text, correction_text, cancel_opening, error_opening}
use Rattle.rules.specs.NormalPrint.{ReadFact, NormalPrint}
use Rattle.rules.specs.declared.Side.{Side}
use Rattle.rules.specs.Sizes.{longest_print}
use Rattle.print_side.proofs.Short.{side_short}
use Rattle.read_announcement.specs.Announced.{mode, level}
use Rattle.read_announcement.proofs.Back.{announced_most}
use Rattle.name_text.proofs.Text.{name_most}
use Rattle.line_owed.specs.Shown.{Showable}
use Rattle.claim_compose.specs.Printable.{Printable, by_mode, by_level, by_trade, by_cancel, by_error, by_correction}
use Rattle.line_owed.proofs.Below.{in_range}
use Rattle.line_owed.proofs.Shown.{shown_owed}
use Rattle.claim_normal.proofs.Normal.{normal_printable}
use Rattle.claim_longest.proofs.CancelBack.{pair_short}
use Rattle.rules.specs.declared.PriceForm.TheVariants.{Full}

module _ (network : ℕ) (x : Side) (h : Showable network x) where
  -- with a name of at most 22 bytes
  side_most : (name : List ℕ) (unit : ℕ) → length name ≤ 22 → length (side_text name network unit Full true x) ≤ 183
  side_most name unit l = omega (arith, side_short x (shown_owed network x h) name network unit Full true)

  -- the name may be left out
  again_most : (name : List ℕ) (unit : ℕ) → length name ≤ 22 → (b : Bool) → length (side_text (opt b name) network unit Full true x) ≤ 183
  unfolding opt
  again_most name unit l true = side_most name unit l
  again_most name unit l false = side_most [] unit (omega arith)

  cancel_most : (opening : List ℕ) → length opening ≡ 6 → (name : List ℕ) (unit : ℕ) → length name ≤ 22 → length (cancel_text opening name network unit Full true x) ≤ 191
  unfolding cancel_text
  cancel_most opening six name unit l = simp length-append (omega (arith, six, side_most name unit l, pair_short x))

correction_most : (network unit : ℕ) (name : List ℕ) (x y : Side) → Showable network x → Showable network y → length name ≤ 22 → length (correction_text name network unit Full true x y) ≤ longest_print
unfolding correction_text
correction_most network unit name x y h k l =
    simp length-append (omega (arith, side_most network x h name unit l, again_most network y k name unit l (repeats_name y.letters), pair_short y))

printable_short : {t n : List ℕ} {f : ReadFact} → Printable t n f → length t ≤ longest_print
printable_short (by_mode m n h) = let k = in_range 1 100 n h in omega (arith, announced_most (mode_text m n) (mode m n k.0 k.1 refl))
printable_short (by_level n h) = let k = in_range 5000 100000 n h in omega (arith, announced_most (level_text n) (level n k.0 k.1 refl))
printable_short (by_trade network unit name x e h) = omega (arith, side_most network x h (name_text true name) unit (name_most true name))
printable_short (by_cancel network unit name x e h) = omega (arith, cancel_most network x h cancel_opening refl (name_text false name) unit (name_most false name))
printable_short (by_error network unit name x e h) = omega (arith, cancel_most network x h error_opening refl (name_text false name) unit (name_most false name))
printable_short (by_correction network unit name x y e h k) = correction_most network unit (name_text false name) x y h k (name_most false name)

-- A NORMAL PRINT HAS AT MOST `longest_print` BYTES
pub print_short : {text name : List ℕ} {fact : ReadFact} → NormalPrint text name fact → length text ≤ longest_print
print_short p = printable_short (normal_printable p)
