-- The line's length. Assumes nothing.
use Prim.Native.Nat.{ℕ, ◌^◌, ◌≤◌, ◌<◌}
use native.Mathlib.Omega.{arith}
use mathlib.Core.Path.{◌≡◌, sym, ap, ◌∙◌}
use mathlib.Core.Bool.{Bool, true, false}
use mathlib.Core.List.{List}
use lib.ListN.{length, take, length-append}
use lib.Seq.{take_at}
use Rattle.text.specs.Pick.{pick}
use Rattle.text.specs.Put.{put, Written}
use Rattle.text.proofs.Decimal.{length_decimal}
use Rattle.feed_trouble.specs.Trouble.{what_text, trouble_text}

what_short : (reading : Bool) → length (what_text reading) ≤ 37
unfolding what_text pick
what_short true = omega arith
what_short false = omega arith

pub trouble_short : (name unit : List ℕ) (reading : Bool) (after : ℕ) → length name ≤ 16 → length unit ≤ 8 → after < 2 ^ 64 → length (trouble_text name reading unit after) ≤ 96
unfolding trouble_text
trouble_short name unit reading after a b c = simp length-append (omega (arith, what_short reading, length_decimal 19 after (omega arith)))

-- what is written is so many bytes of the memory
pub said : (t b a : List ℕ) (n : ℕ) → Written t b a n → n ≡ length (take n a)
unfolding put
said t b a n w = w.count_is ∙ sym (ap length (ap (take n) w.tape ∙ take_at t _ n (sym w.count_is)))
