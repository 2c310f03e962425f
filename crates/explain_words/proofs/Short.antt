-- How long the text of reasons is: at most 219 bytes. Assumes nothing.
use Prim.Native.Nat.{◌≤◌}
use native.Mathlib.Omega.{arith}
use lib.ListN.{length, length-append}
use Rattle.text.specs.Bytes.{bytes}
use Rattle.text.proofs.Parts.{opt_short, pick_most}
use Rattle.explain_reasons.specs.Reasons.{some_full, some_volume}
use Rattle.explain_reasons.specs.declared.PrintReasons.{PrintReasons}
use Rattle.explain_reasons.specs.declared.FullReasons.{FullReasons}
use Rattle.explain_reasons.specs.declared.VolumeReasons.{VolumeReasons}
use Rattle.explain_words.specs.Text.{three, print_reasons, price_word, full_reasons, price_text, volume_word, volume_reasons, volume_text, reasons_text}

print_short : (r : PrintReasons) → length (print_reasons r) ≤ 104
unfolding print_reasons three
print_short r =
    simp length-append
    (omega (
      arith,
      opt_short r.every (bytes ":every"),
      opt_short r.high (bytes ":high"),
      opt_short r.low (bytes ":low"),
      opt_short r.price (bytes ":price"),
      opt_short r.distance (bytes ":distance"),
      opt_short r.first (bytes ":first"),
      opt_short r.six (bytes ":six"),
      opt_short r.level (bytes ":level"),
      opt_short r.unit (bytes ":unit"),
      opt_short r.rule (bytes ":rule"),
      opt_short r.differ (bytes ":differ"),
      opt_short r.seller (bytes ":seller"),
      opt_short r.last (bytes ":last"),
      opt_short r.original_level (bytes ":original-level"),
      opt_short r.original_rule (bytes ":original-rule"),
    ))

price_short : (r : FullReasons) → length (price_text r) ≤ 67
unfolding price_text price_word full_reasons three
price_short r =
    simp length-append
    (omega (
      arith,
      pick_most (some_full r) (bytes "full") (bytes "short") 5 (omega arith) (omega arith),
      opt_short r.normal (bytes ":normal"),
      opt_short r.none (bytes ":none"),
      opt_short r.tens (bytes ":tens"),
      opt_short r.zero (bytes ":zero"),
      opt_short r.unit (bytes ":unit"),
      opt_short r.thousand (bytes ":thousand"),
      opt_short r.six (bytes ":six"),
      opt_short r.whole (bytes ":whole"),
      opt_short r.original (bytes ":original"),
    ))

volume_short : (r : VolumeReasons) → length (volume_text r) ≤ 41
unfolding volume_text volume_word volume_reasons three
volume_short r =
    simp length-append
    (omega (
      arith,
      pick_most (some_volume r) (bytes "shown") (bytes "off") 5 (omega arith) (omega arith),
      opt_short r.normal (bytes ":normal"),
      opt_short r.level (bytes ":level"),
      opt_short r.first (bytes ":first"),
      opt_short r.six (bytes ":six"),
      opt_short r.rule (bytes ":rule"),
    ))

pub reasons_short : (p : PrintReasons) (f : FullReasons) (v : VolumeReasons) → length (reasons_text p f v) ≤ 219
unfolding reasons_text
reasons_short p f v = simp length-append (omega (arith, print_short p, price_short f, volume_short v))
