-- The text of reasons: a colon and its name for each that is given. Assumes nothing.
use Rattle.std.specs.Prelude.{ℕ, Bool, List, ◌++◌}
use Rattle.text.specs.Bytes.{bytes}
use Rattle.text.specs.Pick.{pick, opt}
use Rattle.explain_reasons.specs.Reasons.{some_full, some_volume}
use Rattle.explain_reasons.specs.declared.PrintReasons.{PrintReasons}
use Rattle.explain_reasons.specs.declared.FullReasons.{FullReasons}
use Rattle.explain_reasons.specs.declared.VolumeReasons.{VolumeReasons}

-- three reasons, each where it is given
unfoldable pub three : Bool → List ℕ → Bool → List ℕ → Bool → List ℕ → List ℕ
three a first b second c third = opt a first ++ opt b second ++ opt c third

-- ---- why it prints

abbrev pub range_reasons : PrintReasons → List ℕ
range_reasons r = three r.every (bytes ":every") r.high (bytes ":high") r.low (bytes ":low")

abbrev pub first_reasons : PrintReasons → List ℕ
first_reasons r = three r.price (bytes ":price") r.distance (bytes ":distance") r.first (bytes ":first")

abbrev pub unit_reasons : PrintReasons → List ℕ
unit_reasons r = three r.six (bytes ":six") r.level (bytes ":level") r.unit (bytes ":unit")

abbrev pub rule_reasons : PrintReasons → List ℕ
rule_reasons r = three r.rule (bytes ":rule") r.differ (bytes ":differ") r.seller (bytes ":seller")

abbrev pub last_reasons : PrintReasons → List ℕ
last_reasons r = three r.last (bytes ":last") r.original_level (bytes ":original-level") r.original_rule (bytes ":original-rule")

unfoldable pub print_reasons : PrintReasons → List ℕ
print_reasons r = range_reasons r ++ first_reasons r ++ unit_reasons r ++ rule_reasons r ++ last_reasons r

-- ---- why its price is in full; short where there is no reason

unfoldable pub price_word : FullReasons → List ℕ
price_word r = pick (some_full r) (bytes "full") (bytes "short")

abbrev pub tens_reasons : FullReasons → List ℕ
tens_reasons r = three r.normal (bytes ":normal") r.none (bytes ":none") r.tens (bytes ":tens")

abbrev pub whole_reasons : FullReasons → List ℕ
whole_reasons r = three r.zero (bytes ":zero") r.unit (bytes ":unit") r.thousand (bytes ":thousand")

abbrev pub side_reasons : FullReasons → List ℕ
side_reasons r = three r.six (bytes ":six") r.whole (bytes ":whole") r.original (bytes ":original")

unfoldable pub full_reasons : FullReasons → List ℕ
full_reasons r = tens_reasons r ++ whole_reasons r ++ side_reasons r

unfoldable pub price_text : FullReasons → List ℕ
price_text r = bytes " price=" ++ price_word r ++ full_reasons r

-- ---- why its volume is shown; off where there is no reason

unfoldable pub volume_word : VolumeReasons → List ℕ
volume_word r = pick (some_volume r) (bytes "shown") (bytes "off")

abbrev pub level_reasons : VolumeReasons → List ℕ
level_reasons r = three r.normal (bytes ":normal") r.level (bytes ":level") r.first (bytes ":first")

unfoldable pub volume_reasons : VolumeReasons → List ℕ
volume_reasons r = level_reasons r ++ opt r.six (bytes ":six") ++ opt r.rule (bytes ":rule")

unfoldable pub volume_text : VolumeReasons → List ℕ
volume_text r = bytes " volume=" ++ volume_word r ++ volume_reasons r

-- ---- all three

unfoldable pub reasons_text : PrintReasons → FullReasons → VolumeReasons → List ℕ
reasons_text prints full shows = bytes "printed" ++ print_reasons prints ++ price_text full ++ volume_text shows
