-- How long a line is: at most 205 bytes more than the rest of the tape. Assumes nothing.
use Prim.Native.Nat.{ℕ, ◌+◌, ◌^◌, ◌≤◌, ◌<◌}
use native.Mathlib.Omega.{arith}
use mathlib.Core.Path.{refl, ap}
use mathlib.Core.List.{List}
use lib.ListN.{length, drop, length-append, length-take, length-drop}
use Rattle.std.specs.Prelude.{Result, Ok, Err}
use Rattle.text.specs.Bytes.{bytes}
use Rattle.text_right.specs.Justified.{right}
use Rattle.text_right.proofs.Writes.{length_right}
use Rattle.rules.specs.Price.{units}
use Rattle.rules.specs.Shown.{conditions_of}
use Rattle.rules.specs.declared.Side.{Side}
use Rattle.rules.specs.declared.Refusal.{Refusal}
use Rattle.print_price.proofs.Texts.{units_small}
use Rattle.facts_side.specs.Sides.{part_text}
use Rattle.facts_side.proofs.Short.{full_short}
use Rattle.reader.specs.declared.Print.TheVariants.{Announcement, Trade, Cancel, Error, Correction}
use Rattle.reader.specs.declared.PrintRead.{PrintRead}
use Rattle.reader.specs.Read.{print_at}
use Rattle.reader.specs.Told.{length_of, name_from, name_length, name_in, part_in, fact_in}
use Rattle.reader.proofs.Bounds.{print_within}
use Rattle.reader.specs.declared.Print.{Print}
use Rattle.facts_side.specs.Sound.{SoundSide}
use Rattle.read_told.specs.Lines.{announcement_text, among_text, correction_text, fact_text, facts_text, place_text, name_text, line_text, print_line, told_line}
use Rattle.read_told.proofs.Sound.{SoundAnswer, answer_sound}
use Rattle.read_told.proofs.Lines.{facts_trade}

-- ---- the facts

side_short : (x : Side) → SoundSide x → length (part_text (part_in x)) ≤ 81
unfolding part_text conditions_of
side_short x h = full_short (units x.price) (conditions_of x) x.volume (units_small x.price h.price_is) h.days_is (units_small x.previous h.previous_is) h.volume_is

module _ (s : List ℕ) where
  name_short : (r : Result Print Refusal) → length (name_in s r) ≤ length s
  unfolding name_in
  name_short r = omega (arith, length-take (name_length r) (drop (name_from r) s), length-drop (name_from r) s)

  trade_short : (x : PrintRead) → SoundSide x.side → length (facts_text (fact_in s (Ok (Trade x)))) ≤ 83
  trade_short x h = omega (arith, ap length (facts_trade s 0 (Ok (Trade x)) (Trade x) refl x refl), length-append (bytes "T ") (part_text (part_in x.side)), side_short x.side h)

  -- an announcement has no name
  facts_short : (r : Result Print Refusal) → SoundAnswer r → length (name_in s r) + length (facts_text (fact_in s r)) ≤ 177 + length s
  unfolding SoundAnswer name_in name_from name_length facts_text fact_in fact_text announcement_text among_text correction_text
  facts_short (Ok (Announcement n)) h = simp length-append (omega (arith, length-take n s))
  facts_short (Ok (Trade x)) h = omega (arith, name_short (Ok (Trade x)), trade_short x h)
  facts_short (Ok (Cancel x)) h = simp length-append (omega (arith, name_short (Ok (Cancel x)), side_short x.side h))
  facts_short (Ok (Error x)) h = simp length-append (omega (arith, name_short (Ok (Error x)), side_short x.side h))
  facts_short (Ok (Correction x)) h = simp length-append (omega (arith, name_short (Ok (Correction x)), side_short x.original h.0, side_short x.correcting h.1))
  facts_short (Err r) h = omega (arith, name_short (Err r))

-- ---- the line

place_short : (place n : ℕ) → place < 10 ^ 10 → n < 10 ^ 10 → length (place_text place n) ≤ 20
unfolding place_text
place_short place n h k = omega (arith, length-append (right 10 place) (right 10 n), length_right 9 place h, length_right 9 n k)

line_short : (place n : ℕ) (name facts : List ℕ) → place < 10 ^ 10 → n < 10 ^ 10 → length (line_text place n name facts) ≤ 28 + length name + length facts
unfolding line_text name_text
line_short place n name facts h k = simp length-append (omega (arith, place_short place n h k))

pub print_short : (place : ℕ) (s : List ℕ) → place < 10 ^ 10 → length s < 10 ^ 10 → length (print_line place s) ≤ 205 + length s
unfolding print_line
print_short place s h k =
    let r = print_at s in
    let n : length_of r < 10 ^ 10 = omega (arith, (print_within s).print) in
    omega (arith, line_short place (length_of r) (name_in s r) (facts_text (fact_in s r)) h n, facts_short s r (answer_sound s))

pub told_short : (tape : List ℕ) (place : ℕ) → place < 10 ^ 10 → length tape < 10 ^ 10 → length (told_line tape place) ≤ 205 + length tape
unfolding told_line
told_short tape place h k = let l = length-drop place tape in omega (arith, print_short place (drop place tape) h (omega (arith, l)), l)
