-- What the plan of any line owes: a place in the tables, a unit, few decimals. Assumes nothing.
use Prim.Native.Nat.{ℕ, ◌≤◌}
use native.Mathlib.Omega.{arith}
use mathlib.Core.Path.{◌≡◌, refl}
use mathlib.Core.Bool.{Bool, true, false, not}
use mathlib.Core.List.{List}
use lib.Dec.{eqb}
use lib.ListN.{length}
use borrow.Author.Tests.{eqb-false, not-true, not-false}
use Rattle.rules.specs.Line.{is_shaped, line_of, name_columns, first_side, second_side}
use Rattle.rules.specs.Day.{is_entered}
use Rattle.rules.specs.declared.Listing.{Listing}
use Rattle.rules.specs.declared.Trade.{Trade}
use Rattle.rules.specs.declared.Correction.{Correction}
use Rattle.rules.specs.declared.Line.{Line}
use Rattle.rules.specs.declared.Line.TheVariants.{Dated, Listed, Moded, Leveled, Stepped, Traded, Cancelled, Erred, Corrected}
use Rattle.rules.specs.declared.Settings.{Settings}
use Rattle.rules.specs.declared.Security.{Security}
use Rattle.rules.specs.Sizes.{width}
use Rattle.text.proofs.Booleans.{pick_cases, nonzero}
use Rattle.call_plan.specs.declared.Plan.{Plan}
use Rattle.call_plan.specs.Plan.{date_plan, listing_plan, unless_stopped, print_plan, trade_plan, cancel_of, cancel_plan, correction_of, correction_plan, line_plan, read_plan, plan_of}
use Rattle.call_plan.proofs.Read.{shaped}
use Rattle.line_owed.specs.Owed.{OwedListing, OwedTrade, OwedCorrection, OwedLine, SideColumns, StandsLine}
use Rattle.line_owed.proofs.Below.{in_range}
use Rattle.line_owed.proofs.Owed.{owed_line, stands_line}
use Rattle.call_print.specs.Print.{SoundPlan}

pub has_unit : (s : Security) → not (is_entered s) ≡ false → 1 ≤ s.issue.unit
unfolding is_entered
has_unit s h = let z = eqb-false s.issue.unit 0 (not-true (eqb s.issue.unit 0) (not-false (not (eqb s.issue.unit 0)) h)) in nonzero s.issue.unit z

module _ (st : Settings) (table names line : List ℕ) where
  date_sound : (n : ℕ) → SoundPlan line (date_plan st n)
  unfolding date_plan SoundPlan
  date_sound n = pick_cases (SoundPlan line) _ _ _ (λ z. tt) (λ e. tt)

  listing_sound : (name : List ℕ) (l : Listing) → OwedListing l → length line ≡ width → SoundPlan line (listing_plan table names name l)
  unfolding listing_plan SoundPlan
  listing_sound name l h k =
      pick_cases (SoundPlan line) _ _ _ (λ z. tt) (λ e.
      pick_cases (SoundPlan line) _ _ _ (λ z. tt) (λ f.
      pick_cases (SoundPlan line) _ _ _ (λ z. tt) (λ g. (omega (arith, h.low, h.high), k))))

  stops_sound : (s : Security) (lawful matched : Bool) (p : Plan) → (1 ≤ s.issue.unit → SoundPlan line p) → SoundPlan line (unless_stopped s lawful matched p)
  unfolding unless_stopped SoundPlan
  stops_sound s lawful matched p h =
      pick_cases (SoundPlan line) _ _ _ (λ z. tt) (λ e.
      pick_cases (SoundPlan line) _ _ _ (λ z. tt) (λ f.
      pick_cases (SoundPlan line) _ _ _ (λ z. tt) (λ g. h (has_unit s e))))

  module _ (k : length line ≡ width) where
    trade_sound : (s : Security) (t : Trade) → OwedTrade t → SideColumns (first_side line) t.side → SoundPlan line (trade_plan st s t)
    unfolding trade_plan print_plan SoundPlan
    trade_sound s t h w = stops_sound s _ _ _ (λ u. record { place_is = omega (arith, h.low, h.high); unit_is = u; line_is = k; stands = w })

    cancel_sound : (error : Bool) (s : Security) (t : Trade) → OwedTrade t → SideColumns (first_side line) t.side → SoundPlan line (cancel_plan error st s t)
    unfolding cancel_plan cancel_of SoundPlan
    cancel_sound error s t h w = stops_sound s _ _ _ (λ u. record { place_is = omega (arith, h.low, h.high); unit_is = u; line_is = k; stands = w })

    correction_sound : (s : Security) (c : Correction) → OwedCorrection c → SideColumns (first_side line) c.original × SideColumns (second_side line) c.correcting → SoundPlan line (correction_plan st s c)
    unfolding correction_plan correction_of SoundPlan
    correction_sound s c h w = stops_sound s _ _ _ (λ u. record { place_is = omega (arith, h.low, h.high); unit_is = u; line_is = k; original_stands = w.0; correcting_stands = w.1 })

    line_sound : (name : List ℕ) (l : Line) → OwedLine l → StandsLine line l → SoundPlan line (line_plan st table names name l)
    unfolding line_plan OwedLine StandsLine SoundPlan
    line_sound name (Dated n) h w = date_sound n
    line_sound name (Listed l) h w = listing_sound name l h k
    line_sound name (Moded m) h w = tt
    line_sound name (Leveled n) h w = (in_range 5000 100000 n h).1
    line_sound name (Stepped n) h w = (in_range 1 100 n h).1
    line_sound name (Traded t) h w = trade_sound _ t h w
    line_sound name (Cancelled t) h w = cancel_sound false _ t h w
    line_sound name (Erred t) h w = cancel_sound true _ t h w
    line_sound name (Corrected c) h w = correction_sound _ c h w

  read_sound : length line ≡ width → SoundPlan line (read_plan st table names line)
  unfolding read_plan SoundPlan
  read_sound k =
      pick_cases (SoundPlan line) _ _ _ (λ z. tt) (λ e.
      pick_cases (SoundPlan line) _ _ _ (λ z. tt) (λ f.
      line_sound k (name_columns line) (line_of line) (owed_line line (not-false _ f)) (stands_line line k (not-false _ e) (not-false _ f))))

  plan_sound : SoundPlan line (plan_of st table names line)
  unfolding plan_of SoundPlan
  plan_sound =
      pick_cases (SoundPlan line) _ _ _ (λ z. tt) (λ e.
      pick_cases (SoundPlan line) _ _ _ (λ z. tt) (λ f.
      pick_cases (SoundPlan line) _ _ _ (λ z. tt) (λ g. read_sound (shaped line (is_shaped line) refl e))))

  pub sound_asked : (p : Plan) → p ≡ plan_of st table names line → SoundPlan line p
  sound_asked p e = rw e plan_sound
