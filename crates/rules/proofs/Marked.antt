-- Document 01, "Marked prints": one list, held against the definitions by computation. Assumes nothing.
use Prim.Native.Nat.{ℕ, ◌-◌}
use Prim.Native.String.{String}
use mathlib.Core.Path.{◌≡◌, refl}
use mathlib.Core.List.{List, [], ◌∷◌, ◌++◌, map}
use lib.ListN.{length, replicate}
use Rattle.text.specs.Bytes.{bytes}
use Rattle.text.specs.Pick as text·Pick
use Rattle.text.specs.Decimal as text·Decimal
use Rattle.text.specs.Reading as text·Reading
use Rattle.rules.specs.Sizes.{width}
use Rattle.rules.specs.Tape
use Rattle.rules.specs.Columns
use Rattle.rules.specs.Names
use Rattle.rules.specs.Volume
use Rattle.rules.specs.Price
use Rattle.rules.specs.Conditions
use Rattle.rules.specs.Qualifying
use Rattle.rules.specs.Side
use Rattle.rules.specs.Trade
use Rattle.rules.specs.Announcement
use Rattle.rules.specs.Correction
use Rattle.rules.specs.Line
use Rattle.rules.specs.Refusal
use Rattle.rules.specs.Day
use Rattle.rules.specs.Day.{Day}

-- a line with its trailing blanks drawn
pub padded : String → List ℕ
padded s = bytes s ++ replicate (width - length (bytes s)) 32

-- the tape of a list of lines, each with room for its print
pub tape : Day → List String → List ℕ
tape day [] = []
tape day (s ∷ l) = Day.tape_of day (record { line = padded s; room = 197 }) ++ tape (Day.after day (record { line = padded s; room = 197 })) l

-- a day that holds ABC, with the unit and the network of columns 25 to 28, and one line more
pub one : String → String → List String
one listing line = "D20030321" ∷ listing ∷ line ∷ []

pub lists : List (List String)
lists =
    one "S   1ABC                100AN0" "T   1N      100          45692"
    ∷ one "S   1ABC                100AN0" "T   1N      200          45692"
    ∷ one "S   1ABC                100AN0" "T   1N     9900          45692"
    ∷ one "S   1ABC                100AN0" "T   1N    10000          45692"
    ∷ one "S   1ABC                100AN0" "T   1N      185          45692"
    ∷ one "S   1ABC                 10AN0" "T   1N      990          45692"
    ∷ one "S   1ABC                 25AN0" "T   1N       25          45692"
    ∷ one "S   1ABC                100AN0" "T   1N     5500             21"
    ∷ one "S   1ABC                100AN0" "T   1N    50000            540SJ"
    ∷ one "S   1ABC                100BA0" "T   1A     1000            450G                44252"
    ∷ one "S   1ABC                100AN0" "C   1N      400            420                            500            430"
    ∷ []

pub prints : List String
prints =
    "ABC45,69"
    ∷ "ABC2s45,69"
    ∷ "ABC99s45,69"
    ∷ "ABC10,000s45,69"
    ∷ "ABC185SHRS45,69"
    ∷ "ABC99$45,69"
    ∷ "ABC25SHRS45,69"
    ∷ "ABC55s,2"
    ∷ "ABC.SLD50,000s54RULE127"
    ∷ "ABC10s45>>PREV.LAST44,25>>"
    ∷ "<<CORR.ABC4s42WAS.5s43>>"
    ∷ []

pub marked : map (tape Day.fresh) lists ≡ map bytes prints
unfolding padded tape one lists prints text·Decimal.places text·Decimal.digits_up text·Decimal.decimal text·Pick.pick text·Pick.opt text·Pick.all text·Pick.same text·Pick.among text·Pick.member text·Reading.is_digit text·Reading.number text·Reading.span text·Reading.starts text·Reading.past Announcement.minimum_dollars Announcement.minimum_text Announcement.mode_text Announcement.level_text Announcement.step_text Columns.is_blank Columns.blank Columns.justified Columns.digits_from Columns.zero_alone Columns.numeral Columns.number_in Columns.is_number Columns.number_or_blank Columns.value_of Columns.passes Columns.between Columns.word Columns.filled Columns.left_justified Columns.is_root Columns.is_leap Columns.days_in Columns.is_date Conditions.is_condition Conditions.letters_formed Conditions.letters_in Conditions.unrepeated Conditions.none_of Conditions.at_most_one Conditions.lawful_letters Conditions.on_network Conditions.has_rule Conditions.after_name Conditions.after_price Conditions.seller_text Conditions.previous_text Conditions.at_end Correction.repeats_name Correction.end_pair Correction.correction_text Correction.cancel_text Correction.prices_differ Correction.prints_in_dvd Correction.unlike_last Correction.prints_in_both Correction.prints_correction Correction.is_mpv Correction.whole_in_full Correction.full_prices Correction.shows_volumes Correction.correction_full Correction.correction_form Correction.correction_shows Correction.cancel_full Correction.cancel_form Correction.cancel_shows Correction.after_correction Day.vacant Day.no_name Day.opened Day.cleared Day.fresh Day.is_entered Day.shows_temporary Day.trade_print Day.cancel_print Day.correction_print Day.print_of Day.taken_name Day.listing_refusal Day.trade_refusal Day.correction_refusal Day.date_refusal Day.state_refusal Day.undated Day.refusal_of Day.entered Day.after_line Day.tape_of Day.after Line.is_printable Line.is_shaped Line.is_kind Line.is_market Line.is_network Line.is_mode Line.mode_of Line.formed_by Line.side_formed Line.is_price Line.previous_ranged Line.ranged_by Line.side_ranged Line.side_by Line.side_of Line.alike Line.matched_by Line.side_matched Line.date_formed Line.listing_formed Line.mode_formed Line.level_formed Line.step_formed Line.trade_formed Line.correction_formed Line.is_security_number Line.is_unit Line.date_ranged Line.listing_ranged Line.level_ranged Line.step_ranged Line.trade_ranged Line.correction_ranged Line.listing_of Line.trade_of Line.correction_of Line.of_kind Line.is_formed Line.is_ranged Line.line_of Names.part_text Names.name_text Names.has_temporary Names.listed_suffixes Names.is_class Names.is_series Names.is_preferred Names.is_suffix Names.is_temporary Names.is_appendage Names.is_reserved Names.lawful_field Names.lawful_name Names.same_name Price.whole_part Price.fraction Price.units Price.whole_text Price.fraction_text Price.short_whole Price.dollars_text Price.price_text Price.form_by Qualifying.for_neither Qualifying.for_range_only Qualifying.for_range Qualifying.for_last Refusal.number_of Refusal.refuse Side.head_text Side.tail_text Side.side_text Tape.is_letter Tape.is_upper Tape.is_lower Tape.is_raised Trade.six Trade.at_level Trade.first_qualifying Trade.new_high Trade.new_low Trade.new_range Trade.tens Trade.ends_in_zero Trade.dollars Trade.full_at Trade.full_price Trade.shows_volume Trade.prints_anyhow Trade.unlike_printed Trade.distance Trade.far_from_printed Trade.prints_trade Trade.is_normal Trade.trade_full Trade.trade_form Trade.trade_shows Trade.range_after Trade.printed_after Trade.counted Trade.counts_after Trade.after_trade Volume.group Volume.full_volume Volume.is_round Volume.in_shares Volume.in_hundreds Volume.in_tens Volume.volume_text
marked = refl
