-- The premise is needed: two days whose tapes are equal and whose facts are not, computed. Assumes nothing.
use Prim.Native.Nat.{ℕ, ◌-◌}
use Prim.Native.String.{String}
use native.Mathlib.Omega.{arith}
use mathlib.Core.Path.{◌≡◌, refl, ap, sym, ◌∙◌}
use mathlib.Core.List.{List, [], ◌∷◌, ◌++◌}
use lib.ListN.{length, replicate}
use Rattle.text.specs.Bytes.{bytes}
use Rattle.rules.specs.Day.{Call}
use Rattle.rules.specs.Shown.{Fact, announced, traded, cancelled, erred, corrected}
use Rattle.text.specs.Pick as text·Pick
use Rattle.text.specs.Decimal as text·Decimal
use Rattle.text.specs.Reading as text·Reading
use Rattle.rules.specs.Tape as rules·Tape
use Rattle.rules.specs.Columns as rules·Columns
use Rattle.rules.specs.Names as rules·Names
use Rattle.rules.specs.Volume as rules·Volume
use Rattle.rules.specs.Price as rules·Price
use Rattle.rules.specs.Conditions as rules·Conditions
use Rattle.rules.specs.Qualifying as rules·Qualifying
use Rattle.rules.specs.Side as rules·Side
use Rattle.rules.specs.Trade as rules·Trade
use Rattle.rules.specs.Announcement as rules·Announcement
use Rattle.rules.specs.Line as rules·Line
use Rattle.rules.specs.Refusal as rules·Refusal
use Rattle.rules.specs.Day as rules·Day
use Rattle.rules.specs.Shown as rules·Shown
use Rattle.rules.specs.Sizes.{width}
use Rattle.claim_wholeday.specs.Decodes.{tape}

-- a line with its trailing blanks drawn
abbrev padded : String → Call
padded s = record { line = bytes s ++ replicate (width - length (bytes s)) 32; room = 197 }

-- a security that printed 45.69 in normal mode, then DVD, then one trade
abbrev day_of : String → List Call
day_of trade =
    padded "D20030321"
    ∷ padded "S   1ABC                100AN0"
    ∷ padded "T   1N     1000          45692"
    ∷ padded "MD"
    ∷ padded trade
    ∷ []

-- 5.55, which the premise rules out: in full, since the tens differ
pub low : List Call
low = day_of "T   1N     4900           5552"

-- 45.55, short
pub high : List Call
high = day_of "T   1N     4900          45552"

-- both tapes end ABC5,55
pub same_tape : tape rules·Day.fresh low ≡ tape rules·Day.fresh high
unfolding low high tape text·Pick.pick text·Pick.opt text·Pick.all text·Pick.same text·Pick.among text·Pick.member text·Decimal.places text·Decimal.digits_up text·Decimal.decimal text·Reading.is_digit text·Reading.number text·Reading.span text·Reading.starts text·Reading.past text·Reading.taken text·Reading.dot_digit rules·Tape.is_letter rules·Tape.is_upper rules·Tape.is_lower rules·Tape.is_raised rules·Columns.is_blank rules·Columns.blank rules·Columns.justified rules·Columns.digits_from rules·Columns.zero_alone rules·Columns.numeral rules·Columns.number_in rules·Columns.is_number rules·Columns.number_or_blank rules·Columns.value_of rules·Columns.passes rules·Columns.between rules·Columns.word rules·Columns.filled rules·Columns.left_justified rules·Columns.is_root rules·Columns.is_leap rules·Columns.days_in rules·Columns.is_date rules·Names.part_text rules·Names.name_text rules·Names.has_temporary rules·Names.listed_suffixes rules·Names.is_class rules·Names.is_series rules·Names.is_preferred rules·Names.is_suffix rules·Names.is_temporary rules·Names.is_appendage rules·Names.is_reserved rules·Names.lawful_field rules·Names.lawful_name rules·Names.same_name rules·Volume.group rules·Volume.full_volume rules·Volume.is_round rules·Volume.in_shares rules·Volume.in_hundreds rules·Volume.in_tens rules·Volume.volume_text rules·Price.whole_part rules·Price.fraction rules·Price.units rules·Price.whole_text rules·Price.fraction_text rules·Price.short_whole rules·Price.dollars_text rules·Price.price_text rules·Price.form_by rules·Conditions.is_condition rules·Conditions.letters_formed rules·Conditions.letters_in rules·Conditions.unrepeated rules·Conditions.none_of rules·Conditions.at_most_one rules·Conditions.lawful_letters rules·Conditions.on_network rules·Conditions.has_rule rules·Conditions.after_name rules·Conditions.after_price rules·Conditions.seller_text rules·Conditions.previous_text rules·Conditions.at_end rules·Qualifying.for_neither rules·Qualifying.for_range_only rules·Qualifying.for_range rules·Qualifying.for_last rules·Side.head_text rules·Side.tail_text rules·Side.side_text rules·Trade.six rules·Trade.at_level rules·Trade.first_qualifying rules·Trade.new_high rules·Trade.new_low rules·Trade.new_range rules·Trade.tens rules·Trade.ends_in_zero rules·Trade.dollars rules·Trade.full_at rules·Trade.full_price rules·Trade.shows_volume rules·Trade.prints_anyhow rules·Trade.unlike_printed rules·Trade.distance rules·Trade.far_from_printed rules·Trade.prints_trade rules·Trade.is_normal rules·Trade.trade_full rules·Trade.trade_form rules·Trade.trade_shows rules·Trade.range_after rules·Trade.printed_after rules·Trade.counted rules·Trade.counts_after rules·Trade.after_trade rules·Announcement.minimum_dollars rules·Announcement.minimum_text rules·Announcement.mode_text rules·Announcement.level_text rules·Announcement.step_text rules·Line.is_printable rules·Line.is_shaped rules·Line.is_kind rules·Line.is_market rules·Line.is_network rules·Line.is_mode rules·Line.mode_of rules·Line.formed_by rules·Line.side_formed rules·Line.is_price rules·Line.previous_ranged rules·Line.ranged_by rules·Line.side_ranged rules·Line.side_by rules·Line.side_of rules·Line.alike rules·Line.matched_by rules·Line.side_matched rules·Line.date_formed rules·Line.listing_formed rules·Line.mode_formed rules·Line.level_formed rules·Line.step_formed rules·Line.trade_formed rules·Line.correction_formed rules·Line.is_security_number rules·Line.is_unit rules·Line.date_ranged rules·Line.listing_ranged rules·Line.level_ranged rules·Line.step_ranged rules·Line.trade_ranged rules·Line.correction_ranged rules·Line.listing_of rules·Line.trade_of rules·Line.correction_of rules·Line.of_kind rules·Line.is_formed rules·Line.is_ranged rules·Line.line_of rules·Refusal.number_of rules·Refusal.refuse rules·Day.vacant rules·Day.no_name rules·Day.opened rules·Day.cleared rules·Day.fresh rules·Day.is_entered rules·Day.shows_temporary rules·Day.trade_print rules·Day.cancel_print rules·Day.correction_print rules·Day.print_of rules·Day.taken_name rules·Day.listing_refusal rules·Day.trade_refusal rules·Day.correction_refusal rules·Day.date_refusal rules·Day.state_refusal rules·Day.undated rules·Day.refusal_of rules·Day.entered rules·Day.after_line rules·Day.tape_of rules·Day.after rules·Shown.shown_letters rules·Shown.conditions_of rules·Shown.part_of rules·Shown.shown_volume rules·Shown.trade_fact rules·Shown.announced_if rules·Shown.fact_of rules·Shown.shown_by rules·Shown.shown
same_tape = refl

price_of : List Fact → ℕ
price_of [] = 0
price_of (announced t ∷ l) = price_of l
price_of (traded i b price c v ∷ []) = price
price_of (traded i b price c v ∷ (f ∷ l)) = price_of (f ∷ l)
price_of (cancelled i p ∷ l) = price_of l
price_of (erred i p ∷ l) = price_of l
price_of (corrected i p q ∷ l) = price_of l

low_price : price_of (rules·Shown.shown rules·Day.fresh low) ≡ 555000000
unfolding low price_of text·Pick.pick text·Pick.opt text·Pick.all text·Pick.same text·Pick.among text·Pick.member text·Decimal.places text·Decimal.digits_up text·Decimal.decimal text·Reading.is_digit text·Reading.number text·Reading.span text·Reading.starts text·Reading.past text·Reading.taken text·Reading.dot_digit rules·Tape.is_letter rules·Tape.is_upper rules·Tape.is_lower rules·Tape.is_raised rules·Columns.is_blank rules·Columns.blank rules·Columns.justified rules·Columns.digits_from rules·Columns.zero_alone rules·Columns.numeral rules·Columns.number_in rules·Columns.is_number rules·Columns.number_or_blank rules·Columns.value_of rules·Columns.passes rules·Columns.between rules·Columns.word rules·Columns.filled rules·Columns.left_justified rules·Columns.is_root rules·Columns.is_leap rules·Columns.days_in rules·Columns.is_date rules·Names.part_text rules·Names.name_text rules·Names.has_temporary rules·Names.listed_suffixes rules·Names.is_class rules·Names.is_series rules·Names.is_preferred rules·Names.is_suffix rules·Names.is_temporary rules·Names.is_appendage rules·Names.is_reserved rules·Names.lawful_field rules·Names.lawful_name rules·Names.same_name rules·Volume.group rules·Volume.full_volume rules·Volume.is_round rules·Volume.in_shares rules·Volume.in_hundreds rules·Volume.in_tens rules·Volume.volume_text rules·Price.whole_part rules·Price.fraction rules·Price.units rules·Price.whole_text rules·Price.fraction_text rules·Price.short_whole rules·Price.dollars_text rules·Price.price_text rules·Price.form_by rules·Conditions.is_condition rules·Conditions.letters_formed rules·Conditions.letters_in rules·Conditions.unrepeated rules·Conditions.none_of rules·Conditions.at_most_one rules·Conditions.lawful_letters rules·Conditions.on_network rules·Conditions.has_rule rules·Conditions.after_name rules·Conditions.after_price rules·Conditions.seller_text rules·Conditions.previous_text rules·Conditions.at_end rules·Qualifying.for_neither rules·Qualifying.for_range_only rules·Qualifying.for_range rules·Qualifying.for_last rules·Side.head_text rules·Side.tail_text rules·Side.side_text rules·Trade.six rules·Trade.at_level rules·Trade.first_qualifying rules·Trade.new_high rules·Trade.new_low rules·Trade.new_range rules·Trade.tens rules·Trade.ends_in_zero rules·Trade.dollars rules·Trade.full_at rules·Trade.full_price rules·Trade.shows_volume rules·Trade.prints_anyhow rules·Trade.unlike_printed rules·Trade.distance rules·Trade.far_from_printed rules·Trade.prints_trade rules·Trade.is_normal rules·Trade.trade_full rules·Trade.trade_form rules·Trade.trade_shows rules·Trade.range_after rules·Trade.printed_after rules·Trade.counted rules·Trade.counts_after rules·Trade.after_trade rules·Announcement.minimum_dollars rules·Announcement.minimum_text rules·Announcement.mode_text rules·Announcement.level_text rules·Announcement.step_text rules·Line.is_printable rules·Line.is_shaped rules·Line.is_kind rules·Line.is_market rules·Line.is_network rules·Line.is_mode rules·Line.mode_of rules·Line.formed_by rules·Line.side_formed rules·Line.is_price rules·Line.previous_ranged rules·Line.ranged_by rules·Line.side_ranged rules·Line.side_by rules·Line.side_of rules·Line.alike rules·Line.matched_by rules·Line.side_matched rules·Line.date_formed rules·Line.listing_formed rules·Line.mode_formed rules·Line.level_formed rules·Line.step_formed rules·Line.trade_formed rules·Line.correction_formed rules·Line.is_security_number rules·Line.is_unit rules·Line.date_ranged rules·Line.listing_ranged rules·Line.level_ranged rules·Line.step_ranged rules·Line.trade_ranged rules·Line.correction_ranged rules·Line.listing_of rules·Line.trade_of rules·Line.correction_of rules·Line.of_kind rules·Line.is_formed rules·Line.is_ranged rules·Line.line_of rules·Refusal.number_of rules·Refusal.refuse rules·Day.vacant rules·Day.no_name rules·Day.opened rules·Day.cleared rules·Day.fresh rules·Day.is_entered rules·Day.shows_temporary rules·Day.trade_print rules·Day.cancel_print rules·Day.correction_print rules·Day.print_of rules·Day.taken_name rules·Day.listing_refusal rules·Day.trade_refusal rules·Day.correction_refusal rules·Day.date_refusal rules·Day.state_refusal rules·Day.undated rules·Day.refusal_of rules·Day.entered rules·Day.after_line rules·Day.tape_of rules·Day.after rules·Shown.shown_letters rules·Shown.conditions_of rules·Shown.part_of rules·Shown.shown_volume rules·Shown.trade_fact rules·Shown.announced_if rules·Shown.fact_of rules·Shown.shown_by rules·Shown.shown
low_price = refl

high_price : price_of (rules·Shown.shown rules·Day.fresh high) ≡ 4555000000
unfolding high price_of text·Pick.pick text·Pick.opt text·Pick.all text·Pick.same text·Pick.among text·Pick.member text·Decimal.places text·Decimal.digits_up text·Decimal.decimal text·Reading.is_digit text·Reading.number text·Reading.span text·Reading.starts text·Reading.past text·Reading.taken text·Reading.dot_digit rules·Tape.is_letter rules·Tape.is_upper rules·Tape.is_lower rules·Tape.is_raised rules·Columns.is_blank rules·Columns.blank rules·Columns.justified rules·Columns.digits_from rules·Columns.zero_alone rules·Columns.numeral rules·Columns.number_in rules·Columns.is_number rules·Columns.number_or_blank rules·Columns.value_of rules·Columns.passes rules·Columns.between rules·Columns.word rules·Columns.filled rules·Columns.left_justified rules·Columns.is_root rules·Columns.is_leap rules·Columns.days_in rules·Columns.is_date rules·Names.part_text rules·Names.name_text rules·Names.has_temporary rules·Names.listed_suffixes rules·Names.is_class rules·Names.is_series rules·Names.is_preferred rules·Names.is_suffix rules·Names.is_temporary rules·Names.is_appendage rules·Names.is_reserved rules·Names.lawful_field rules·Names.lawful_name rules·Names.same_name rules·Volume.group rules·Volume.full_volume rules·Volume.is_round rules·Volume.in_shares rules·Volume.in_hundreds rules·Volume.in_tens rules·Volume.volume_text rules·Price.whole_part rules·Price.fraction rules·Price.units rules·Price.whole_text rules·Price.fraction_text rules·Price.short_whole rules·Price.dollars_text rules·Price.price_text rules·Price.form_by rules·Conditions.is_condition rules·Conditions.letters_formed rules·Conditions.letters_in rules·Conditions.unrepeated rules·Conditions.none_of rules·Conditions.at_most_one rules·Conditions.lawful_letters rules·Conditions.on_network rules·Conditions.has_rule rules·Conditions.after_name rules·Conditions.after_price rules·Conditions.seller_text rules·Conditions.previous_text rules·Conditions.at_end rules·Qualifying.for_neither rules·Qualifying.for_range_only rules·Qualifying.for_range rules·Qualifying.for_last rules·Side.head_text rules·Side.tail_text rules·Side.side_text rules·Trade.six rules·Trade.at_level rules·Trade.first_qualifying rules·Trade.new_high rules·Trade.new_low rules·Trade.new_range rules·Trade.tens rules·Trade.ends_in_zero rules·Trade.dollars rules·Trade.full_at rules·Trade.full_price rules·Trade.shows_volume rules·Trade.prints_anyhow rules·Trade.unlike_printed rules·Trade.distance rules·Trade.far_from_printed rules·Trade.prints_trade rules·Trade.is_normal rules·Trade.trade_full rules·Trade.trade_form rules·Trade.trade_shows rules·Trade.range_after rules·Trade.printed_after rules·Trade.counted rules·Trade.counts_after rules·Trade.after_trade rules·Announcement.minimum_dollars rules·Announcement.minimum_text rules·Announcement.mode_text rules·Announcement.level_text rules·Announcement.step_text rules·Line.is_printable rules·Line.is_shaped rules·Line.is_kind rules·Line.is_market rules·Line.is_network rules·Line.is_mode rules·Line.mode_of rules·Line.formed_by rules·Line.side_formed rules·Line.is_price rules·Line.previous_ranged rules·Line.ranged_by rules·Line.side_ranged rules·Line.side_by rules·Line.side_of rules·Line.alike rules·Line.matched_by rules·Line.side_matched rules·Line.date_formed rules·Line.listing_formed rules·Line.mode_formed rules·Line.level_formed rules·Line.step_formed rules·Line.trade_formed rules·Line.correction_formed rules·Line.is_security_number rules·Line.is_unit rules·Line.date_ranged rules·Line.listing_ranged rules·Line.level_ranged rules·Line.step_ranged rules·Line.trade_ranged rules·Line.correction_ranged rules·Line.listing_of rules·Line.trade_of rules·Line.correction_of rules·Line.of_kind rules·Line.is_formed rules·Line.is_ranged rules·Line.line_of rules·Refusal.number_of rules·Refusal.refuse rules·Day.vacant rules·Day.no_name rules·Day.opened rules·Day.cleared rules·Day.fresh rules·Day.is_entered rules·Day.shows_temporary rules·Day.trade_print rules·Day.cancel_print rules·Day.correction_print rules·Day.print_of rules·Day.taken_name rules·Day.listing_refusal rules·Day.trade_refusal rules·Day.correction_refusal rules·Day.date_refusal rules·Day.state_refusal rules·Day.undated rules·Day.refusal_of rules·Day.entered rules·Day.after_line rules·Day.tape_of rules·Day.after rules·Shown.shown_letters rules·Shown.conditions_of rules·Shown.part_of rules·Shown.shown_volume rules·Shown.trade_fact rules·Shown.announced_if rules·Shown.fact_of rules·Shown.shown_by rules·Shown.shown
high_price = refl

-- and the facts are not the same
pub other_facts : rules·Shown.shown rules·Day.fresh low ≡ rules·Shown.shown rules·Day.fresh high → ⊥
other_facts h = let e : ◌≡◌ {A = ℕ} 555000000 4555000000 = sym low_price ∙ (ap price_of h ∙ high_price) in omega arith
