-- How long a line of the shown facts is: at most 186 bytes beside the text of an announcement. Assumes nothing.
use Prim.Native.Nat.{ℕ, ◌+◌, ◌^◌, ◌≤◌, ◌<◌}
use native.Mathlib.Omega.{arith}
use mathlib.Core.Path.{◌≡◌}
use mathlib.Core.Bool.{Bool}
use mathlib.Core.List.{List}
use mathlib.Core.Option.{Option, none, some}
use lib.ListN.{length, length-append}
use Rattle.text.specs.Bytes.{bytes}
use Rattle.text.specs.Decimal.{decimal}
use Rattle.text.proofs.Decimal.{length_decimal}
use Rattle.text.proofs.Parts.{pick_most}
use Rattle.rules.specs.Shown.{Conditions, Part, in_full, bare, Fact, announced, traded, cancelled, erred, corrected}
use Rattle.facts_entry.specs.Entry.{fact_in}
use Rattle.facts_entry.specs.Short.{ShortConditions, ShortPart, ShortVolume, ShortFact, ShortShown}
use Rattle.facts_entry.specs.declared.Entry.{Entry}
use Rattle.facts_entry.specs.declared.Entry.TheVariants.{Silent, Announced, Traded, Cancelled, Erred, Corrected}
use Rattle.facts_side.specs.Sides.{part_text, volume_text}
use Rattle.facts_side.proofs.Short.{conditions_short, priced_short, full_short}
use Rattle.facts_line.specs.Lines.{flag_text, trade_head, trade_tail, trade_text, sided_text, amended_text, correction_text, announced_text, fact_line, line_of}

-- ---- a side, a line

part_short : (x : Part) → ShortPart x → length (part_text x) ≤ 81
unfolding part_text ShortPart
part_short (in_full price c volume) h = full_short price c volume h.0 h.1.0.days_is h.1.0.previous_is h.1.1
part_short (bare c) h = omega (arith, conditions_short c h.days_is h.previous_is)

volume_short : (v : Option ℕ) → ShortVolume v → length (volume_text v) ≤ 9
unfolding volume_text ShortVolume
volume_short none h = omega arith
volume_short (some n) h = length_decimal 8 n h

security_short : (i : ℕ) → i ≤ 512 → length (decimal i) ≤ 3
security_short i h = length_decimal 2 i (omega arith)

flag_short : (b : Bool) → length (flag_text b) ≤ 1
unfolding flag_text
flag_short b = pick_most b _ _ 1 (omega arith) (omega arith)

head_short : (i : ℕ) (b : Bool) → i ≤ 512 → length (trade_head i b) ≤ 15
unfolding trade_head
head_short i b h = simp length-append (omega (arith, security_short i h, flag_short b))

tail_short : (price : ℕ) (c : Conditions) (v : Option ℕ) → price < 10 ^ 14 → ShortConditions c → ShortVolume v → length (trade_tail price c v) ≤ 82
unfolding trade_tail
tail_short price c v h k l = simp length-append (omega (arith, priced_short price c h k.days_is k.previous_is, volume_short v l))

sided_short : (opening : List ℕ) (i : ℕ) (label : List ℕ) (x : Part) → length opening ≤ 6 → length label ≤ 6 → i ≤ 512 → ShortPart x → length (sided_text opening i label x) ≤ 96
unfolding sided_text
sided_short opening i label x o l h k = simp length-append (omega (arith, o, l, security_short i h, part_short x k))

amended_short : (opening : List ℕ) (i : ℕ) (x : Part) → length opening ≤ 6 → i ≤ 512 → ShortPart x → length (amended_text opening i x) ≤ 98
unfolding amended_text
amended_short opening i x o h k = simp length-append (omega (arith, sided_short opening i (bytes " side(") x o (omega arith) h k))

-- the bytes of an announcement
abbrev pub announcement : Option Fact → ℕ
announcement none = 0
announcement (some (announced text)) = length text
announcement (some (traded i temporary price c volume)) = 0
announcement (some (cancelled i x)) = 0
announcement (some (erred i x)) = 0
announcement (some (corrected i x y)) = 0

pub line_short : (o : Option Fact) → ShortShown o → length (line_of o) ≤ 186 + announcement o
unfolding line_of fact_line ShortShown ShortFact announced_text trade_text correction_text
line_short none h = omega arith
line_short (some (announced text)) h = simp length-append (omega arith)
line_short (some (traded i temporary price c volume)) h = simp length-append (omega (arith, head_short i temporary h.0, tail_short price c volume h.1.0 h.1.1.0 h.1.1.1))
line_short (some (cancelled i x)) h = omega (arith, amended_short (bytes "X sec=") i x (omega arith) h.0 h.1)
line_short (some (erred i x)) h = omega (arith, amended_short (bytes "E sec=") i x (omega arith) h.0 h.1)
line_short (some (corrected i x y)) h = simp length-append (omega (arith, sided_short (bytes "C sec=") i (bytes " orig(") x (omega arith) (omega arith) h.0 h.1.0, part_short y h.1.1))

-- an announcement is the call's print
announced_text_lem : (text : List ℕ) (e : Entry) → announcement (fact_in text e) ≤ length text
unfolding fact_in
announced_text_lem text Silent = omega arith
announced_text_lem text Announced = omega arith
announced_text_lem text (Traded t) = omega arith
announced_text_lem text (Cancelled i x) = omega arith
announced_text_lem text (Erred i x) = omega arith
announced_text_lem text (Corrected i x y) = omega arith

pub entry_short : (text : List ℕ) (e : Entry) (o : Option Fact) → fact_in text e ≡ o → ShortShown o → length (line_of (fact_in text e)) ≤ 186 + length text
entry_short text e o h k = omega (arith, line_short (fact_in text e) (rw h k), announced_text_lem text e)
