-- No print of a sound plan is longer than `longest_print` bytes. Assumes nothing.
use Prim.Native.Nat.{ℕ, ◌*◌, ◌/◌, ◌^◌, ◌≤◌, ◌<◌}
use native.Mathlib.Nat.{div-le_self}
use native.Mathlib.Omega.{arith}
use mathlib.Core.Path.{◌≡◌, refl, sym}
use mathlib.Core.Bool.{Bool, not}
use mathlib.Core.List.{List, []}
use lib.ListN.{length, length-append}
use Rattle.text.specs.Bytes.{bytes}
use Rattle.text.specs.Pick.{opt}
use Rattle.text.specs.Decimal.{decimal}
use Rattle.text.proofs.Decimal.{length_decimal, length_places}
use Rattle.text.proofs.Parts.{opt_most, pick_most}
use Rattle.rules.specs.Volume.{group, full_volume}
use Rattle.rules.specs.Price.{whole_text}
use Rattle.rules.specs.Side.{side_text}
use Rattle.rules.specs.Correction.{repeats_name, end_pair, cancel_text, correction_text}
use Rattle.rules.specs.Announcement.{minimum_dollars, minimum_text, mode_text, level_text, step_text}
use Rattle.rules.specs.declared.Mode.{Mode}
use Rattle.rules.specs.declared.Mode.TheVariants.{Normal, Dvd, Rpo, Mpv}
use Rattle.rules.specs.declared.Side.{Side}
use Rattle.rules.specs.declared.Settings.{Settings}
use Rattle.rules.specs.Sizes.{longest_print}
use Rattle.line_owed.specs.Owed.{OwedSide}
use Rattle.print_side.proofs.Short.{side_short}
use Rattle.print_amendment.proofs.Amended.{opening_length}
use Rattle.call_plan.specs.declared.Plan.{Plan}
use Rattle.call_plan.specs.declared.Plan.TheVariants.{Stop, Open, Enter, Change, Level, Step, Print, Cancel, Correct}
use Rattle.call_print.specs.Print.{print_text, cancelled, corrected, text_of, fitted_of, SoundPlan}
use Rattle.call_print.proofs.Room.{told_fits}
use Rattle.rules.specs.declared.PriceForm.{PriceForm}

-- ---- trades, cancels, corrections

pair_most : (x : Side) → length (end_pair x) ≤ 2
unfolding end_pair
pair_most x = opt_most (not x.letters.g) (bytes ">>") 2 (omega arith)

module _ (x : Side) (h : OwedSide x) (name : List ℕ) (l : length name ≤ 22) (network unit : ℕ) (form : PriceForm) (shows : Bool) where
  side_most : length (side_text name network unit form shows x) ≤ 183
  side_most = omega (arith, side_short x h name network unit form shows)

  pub trade_most : (b : Bool) → length (opt b (side_text name network unit form shows x)) ≤ longest_print
  trade_most b = opt_most b _ longest_print (omega (arith, side_most))

  pub cancel_most : (opening : List ℕ) → length opening ≡ 6 → length (cancel_text opening name network unit form shows x) ≤ longest_print
  unfolding cancel_text
  cancel_most opening six = simp length-append (omega (arith, six, side_most, pair_most x))

module _ (x y : Side) (h : OwedSide x) (k : OwedSide y) (name : List ℕ) (l : length name ≤ 22) (network unit : ℕ) (form : PriceForm) (shows : Bool) where
  both_most : length (correction_text name network unit form shows x y) ≤ longest_print
  unfolding correction_text
  both_most =
      simp length-append
      (omega (arith, side_most x h name l network unit form shows, side_most y k (opt (repeats_name y.letters) name) (opt_most (repeats_name y.letters) name 22 l) network unit form shows, pair_most y))

  pub correction_most : (b : Bool) → length (opt b (correction_text name network unit form shows x y)) ≤ longest_print
  correction_most b = opt_most b _ longest_print both_most

-- ---- announcements of numbers of at most twenty digits

digits_most : (n k : ℕ) → n < 10 ^ 20 → length (decimal (n / k)) ≤ 20
digits_most n k h = length_decimal 19 (n / k) (omega (arith, div-le_self n k))

group_length : (n : ℕ) → length (group n) ≡ 4
unfolding group
group_length n = rw (length-append, length_places 3 n)

volume_most : (n : ℕ) → n < 10 ^ 20 → length (full_volume n) ≤ 28
unfolding full_volume
volume_most n h =
    pick_most _ _ _ 28 (omega (arith, length_decimal 19 n h))
    (pick_most _ _ _ 28 (simp length-append (omega (arith, digits_most n 1000 h, group_length n)))
    (simp length-append (omega (arith, digits_most n 1000000 h, group_length (n / 1000), group_length n))))

pub level_most : (n : ℕ) → n < 10 ^ 20 → length (level_text n) ≤ longest_print
unfolding level_text
level_most n h = simp length-append (omega (arith, volume_most n h))

whole_most : (n : ℕ) → n < 10 ^ 20 → length (whole_text n) ≤ 20
unfolding whole_text
whole_most n h = pick_most _ [] _ 20 (omega arith) (length_decimal 19 n h)

minimum_most : (n : ℕ) → n < 10 ^ 20 → length (minimum_text n) ≤ longest_print
unfolding minimum_text minimum_dollars
minimum_most n h = simp length-append (omega (arith, whole_most (5 * n / 100) (omega arith), length_places 2 (5 * n)))

pub mode_most : (m : Mode) (n : ℕ) → n < 10 ^ 20 → length (mode_text m n) ≤ longest_print
unfolding mode_text
mode_most Normal n h = omega arith
mode_most Dvd n h = omega arith
mode_most Rpo n h = omega arith
mode_most Mpv n h = minimum_most n h

pub step_most : (m : Mode) (n : ℕ) → n < 10 ^ 20 → length (step_text m n) ≤ longest_print
unfolding step_text
step_most Normal n h = omega arith
step_most Dvd n h = omega arith
step_most Rpo n h = omega arith
step_most Mpv n h = minimum_most n h

-- ---- a sound plan

module _ (st : Settings) (name line : List ℕ) (set : st.minimum < 10 ^ 20) (l : length name ≤ 22) where
  text_most : (p : Plan) → SoundPlan line p → length (text_of st name p) ≤ longest_print
  unfolding text_of SoundPlan print_text cancelled corrected
  text_most (Stop r) h = omega arith
  text_most (Open n) h = omega arith
  text_most (Enter i s) h = omega arith
  text_most (Change m) h = mode_most m st.minimum set
  text_most (Level n) h = level_most n (omega arith)
  text_most (Step n) h = step_most st.mode n (omega arith)
  text_most (Print t) h = trade_most t.side h.stands.owed name l _ _ _ _ t.prints
  text_most (Cancel t) h = cancel_most t.side h.stands.owed name l _ _ _ _ _ (sym (opening_length t.error))
  text_most (Correct c) h = correction_most c.original c.correcting h.original_stands.owed h.correcting_stands.owed name l _ _ _ _ c.prints

  pub any_fits : (p : Plan) (room : ℕ) → SoundPlan line p → longest_print ≤ room → p ≡ fitted_of st name p room
  any_fits p room h r = told_fits st name p room (length (text_of st name p)) refl (omega (arith, text_most p h))
