-- Any line, kind by kind. Assumes nothing.
use Prim.Native.Nat.{ℕ}
use mathlib.Core.Path.{◌≡◌}
use mathlib.Core.Bool.{true}
use mathlib.Core.List.{List}
use lib.Dec.{eqb}
use Rattle.text.proofs.Booleans.{pick_cases}
use Rattle.rules.specs.declared.Parsed.{Parsed}
use Rattle.rules.specs.Line.{as_date, as_listing, as_mode, as_level, as_step, as_trade, as_cancel, as_error, as_correction, of_kind}

-- WHAT HOLDS OF EACH KIND HOLDS OF EVERY LINE. A kind more is a premise more here, and a case more wherever this is cited
pub by_kind : (P : Parsed → Type 0) (kind : ℕ) (line : List ℕ)
    → (eqb kind 68 ≡ true → P (as_date line))
    → (eqb kind 83 ≡ true → P (as_listing line))
    → (eqb kind 77 ≡ true → P (as_mode line))
    → (eqb kind 86 ≡ true → P (as_level line))
    → (eqb kind 80 ≡ true → P (as_step line))
    → (eqb kind 84 ≡ true → P (as_trade line))
    → (eqb kind 88 ≡ true → P (as_cancel line))
    → (eqb kind 69 ≡ true → P (as_error line))
    → P (as_correction line) → P (of_kind kind line)
unfolding of_kind
by_kind P kind line date listing mode level step trade cancel error correction =
    pick_cases P _ _ _ date (λ a.
    pick_cases P _ _ _ listing (λ b.
    pick_cases P _ _ _ mode (λ c.
    pick_cases P _ _ _ level (λ d.
    pick_cases P _ _ _ step (λ e.
    pick_cases P _ _ _ trade (λ f.
    pick_cases P _ _ _ cancel (λ g.
    pick_cases P _ _ _ error (λ h. correction))))))))
