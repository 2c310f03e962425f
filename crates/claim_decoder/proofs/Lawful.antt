-- A side that a line can have is lawful, and so is one whose letters are shown so. Assumes nothing.
use Prim.Native.Nat.{ℕ, ◌-◌, ◌*◌, ◌^◌}
use native.Mathlib.Nat.{zero-mul}
use mathlib.Core.Path.{◌≡◌, ap, ◌∙◌}
use mathlib.Core.Bool.{false}
use Rattle.rules.specs.Price.{units}
use Rattle.rules.specs.Shown.{shown_letters}
use Rattle.rules.specs.declared.Side.{Side}
use Rattle.name_back.specs.Cut.{one_sold}
use Rattle.line_owed.specs.Shown.{Showable, shown_side}
use Rattle.line_owed.specs.Owed.{OwedSide}
use Rattle.line_owed.proofs.Shown.{shown_owed, shown_sold, days_none, previous_none}
use Rattle.claim_decoder.specs.Lawful.{LawfulSide}

module _ (network : ℕ) (x : Side) (h : Showable network x) where
  no_units : x.letters.g ≡ false → units x.previous ≡ 0
  unfolding units
  no_units e = ap (λ n. n * 10 ^ (8 - x.previous.d)) (previous_none network x h e).0 ∙ zero-mul _

  pub lawful : LawfulSide x
  lawful = record { owed = shown_owed network x h; sold = shown_sold network x h; days = days_none network x h; last = no_units }

pub lawful_shown : (network : ℕ) (x : Side) → OwedSide x → Showable network (shown_side x) → LawfulSide x
unfolding shown_side shown_letters one_sold
lawful_shown network x o h = let l = lawful network (shown_side x) h in record { owed = o; sold = l.sold; days = l.days; last = l.last }
