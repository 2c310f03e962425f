-- What is explained as announced or printed puts at least one byte on the tape; with `silent`, exactly that puts any. Assumes nothing.
use Prim.Native.Nat.{ℕ, ◌≤◌}
use native.Mathlib.Omega.{arith}
use mathlib.Core.Path.{◌≡◌, refl, sym}
use mathlib.Core.Bool.{Bool, true, false, false≢true}
use mathlib.Core.List.{List, []}
use mathlib.Core.Option.{Option, none, some}
use lib.Dec.{leb}
use lib.ListN.{length}
use borrow.Author.Tests.{le-leb}
use Rattle.text.specs.Pick.{pick, opt}
use Rattle.rules.specs.Trade.{prints_trade}
use Rattle.rules.specs.Correction.{cancel_opening, error_opening, prints_correction, is_mpv}
use Rattle.rules.specs.Announcement.{step_text}
use Rattle.rules.specs.Line.{line_of, name_columns}
use Rattle.rules.specs.Day.{Day, Call, security_at, trade_print, cancel_print, correction_print, print_of, refusal_of, tape_of}
use Rattle.rules.specs.declared.Mode.{Mode}
use Rattle.rules.specs.declared.Mode.TheVariants.{Normal, Dvd, Rpo, Mpv}
use Rattle.rules.specs.declared.Line.{Line}
use Rattle.rules.specs.declared.Line.TheVariants.{Dated, Listed, Moded, Leveled, Stepped, Traded, Cancelled, Erred, Corrected}
use Rattle.rules.specs.declared.Refusal.{Refusal}
use Rattle.rules.proofs.Some.{some_minimum, some_mode, some_level, some_side, some_cancel, some_correction}
use Rattle.line_owed.specs.Accepted.{AcceptedLine}
use Rattle.line_owed.proofs.Accepted.{accepted}
use Rattle.explain_fate.specs.Explained.{security_of, trade_fate, cancel_fate, correction_fate, step_fate, fate_at, fate_of, fate_by, is_on_tape}
use Rattle.explain_fate.specs.declared.Reasons.{Reasons}
use Rattle.explain_fate.specs.declared.Fate.TheVariants.{Refused, LeftOff, Printed}
use Rattle.explain_fate.proofs.Exactly.{silent}

-- ---- a step that is announced

some_step : (m : Mode) (n : ℕ) → is_on_tape (step_fate m) ≡ true → 1 ≤ length (step_text m n)
unfolding step_fate is_mpv pick is_on_tape step_text
some_step Normal n h = absurd (false≢true h)
some_step Dvd n h = absurd (false≢true h)
some_step Rpo n h = absurd (false≢true h)
some_step Mpv n h = some_minimum n

-- ---- what is explained as announced or printed is on the tape

if_shown : (b : Bool) (r : Reasons) (text : List ℕ) → 1 ≤ length text → is_on_tape (pick b (Printed r) LeftOff) ≡ true → 1 ≤ length (opt b text)
unfolding pick is_on_tape opt
if_shown true r text l h = l
if_shown false r text l h = absurd (false≢true h)

line_shown : (day : Day) (name : List ℕ) (l : Line) → AcceptedLine day name l → is_on_tape (fate_of day l) ≡ true → 1 ≤ length (print_of day l)
unfolding AcceptedLine fate_of fate_at is_on_tape print_of security_of trade_fate cancel_fate correction_fate trade_print cancel_print correction_print
line_shown day name (Dated n) p h = absurd (false≢true h)
line_shown day name (Listed l) p h = absurd (false≢true h)
line_shown day name (Moded m) p h = some_mode m day.settings.minimum
line_shown day name (Leveled n) p h = some_level n
line_shown day name (Stepped n) p h = some_step day.settings.mode n h
line_shown day name (Traded t) p h = if_shown (prints_trade day.settings (security_at day t.security) t.market t.side) _ _ (some_side _ _ _ _ _ t.side p.owed.side.priced) h
line_shown day name (Cancelled t) p h = some_cancel cancel_opening _ _ _ _ _ t.side (omega arith)
line_shown day name (Erred t) p h = some_cancel error_opening _ _ _ _ _ t.side (omega arith)
line_shown day name (Corrected c) p h = if_shown (prints_correction day.settings (security_at day c.security) c.original c.correcting) _ _ (some_correction _ _ _ _ _ c.original c.correcting) h

pub printed_shows : (day : Day) (c : Call) → is_on_tape (fate_by day c) ≡ true → 1 ≤ length (tape_of day c)
unfolding fate_by tape_of is_on_tape
printed_shows day c h = go (refusal_of day c.line c.room) refl h
  where
    go : (o : Option Refusal) → refusal_of day c.line c.room ≡ o → is_on_tape (elim o [ some r ↦ Refused r | none ↦ fate_of day (line_of c.line) ]) ≡ true → 1 ≤ length {A = ℕ} (elim o [ some r ↦ [] | none ↦ print_of day (line_of c.line) ])
    go (some r) e k = absurd (false≢true k)
    go none e k = line_shown day (name_columns c.line) (line_of c.line) (accepted day c.line c.room e).owes k

-- ---- exactly that

pub on_tape_exactly : (day : Day) (c : Call) → is_on_tape (fate_by day c) ≡ leb 1 (length (tape_of day c))
on_tape_exactly day c = go (is_on_tape (fate_by day c)) refl
  where
    go : (b : Bool) → is_on_tape (fate_by day c) ≡ b → b ≡ leb 1 (length (tape_of day c))
    go true e = sym (le-leb 1 (length (tape_of day c)) (printed_shows day c e))
    go false e = rw (silent day c e)
