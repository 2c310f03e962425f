-- A line's answers as functions of what its fields hold, each field read once. Assumes nothing.
use Rattle.std.specs.Prelude.{ℕ, Bool, ◌&&◌, not, List, Result, Ok, Err}
use Rattle.text.specs.Pick.{pick}
use Rattle.rules.specs.Columns.{column, is_number}
use Rattle.rules.specs.Line.{is_market, is_security_number, trade_formed, trade_ranged, trade_of, correction_formed, correction_ranged, correction_of, is_shaped, is_kind, is_formed, is_ranged, line_of}
use Rattle.rules.specs.declared.Number.{Number}
use Rattle.rules.specs.declared.Parsed.{Parsed}
use Rattle.rules.specs.declared.Line.{Line}
use Rattle.rules.specs.declared.Refusal.{Refusal}
use Rattle.rules.specs.declared.Line.TheVariants.{Corrected}
use Rattle.rules.specs.declared.Refusal.TheVariants.{Shape, Kind, Form, Value}
use Rattle.line_kinds.specs.declared.TradeRead.{TradeRead}

-- ---- T, X, E and C lines: the side, and what follows it

unfoldable pub trade_formed_by : Number → ℕ → Bool → Bool → Bool
trade_formed_by security market side rest = is_number security && (is_market market && (side && rest))

unfoldable pub trade_ranged_by : ℕ → Bool → Bool
trade_ranged_by security sides = is_security_number security && sides

unfoldable pub trade_read : List ℕ → TradeRead
trade_read line = record { formed = trade_formed line; ranged = trade_ranged line; trade = trade_of line }

-- ---- the line of each kind, as `of_kind` has it

abbrev pub said_by : TradeRead → Line → Parsed
said_by read line = record { formed = read.formed; ranged = read.ranged; line = line }

abbrev pub corrected_read : List ℕ → Parsed
corrected_read line = record { formed = correction_formed line; ranged = correction_ranged line; line = Corrected (correction_of line) }

-- ---- any bytes, of any length: refusals 1, 2, 4 and 5 in that order, or the line

unfoldable pub reading_of : List ℕ → Result Line Refusal
reading_of line =
    pick (not (is_shaped line)) (Err Shape)
    (pick (not (is_kind (column 1 line))) (Err Kind)
    (pick (not (is_formed line)) (Err Form)
    (pick (not (is_ranged line)) (Err Value)
    (Ok (line_of line)))))
