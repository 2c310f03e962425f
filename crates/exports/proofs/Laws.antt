-- What an outcome says as numbers, and a whole call on them. Assumes nothing.
use Prim.Native.Nat.{ℕ}
use mathlib.Core.Path.{◌≡◌, ◌∙◌, ap}
use mathlib.Core.List.{List}
use Rattle.std.specs.Prelude.{Result}
use Rattle.rules.specs.Day.{tape_of}
use Rattle.rules.specs.Refusal.{number_of}
use Rattle.rules.specs.Shown.{shown_by}
use Rattle.rules.specs.declared.Refusal.{Refusal}
use Rattle.rules.specs.declared.Settings.{Settings}
use Rattle.call_table.specs.Rows.{day_of}
use Rattle.facts_entry.specs.declared.Entry.{Entry}
use Rattle.facts_entry.specs.Entry.{fact_in}
use Rattle.facts_numbers.specs.Numbers.{entry_numbers}
use Rattle.engine.specs.declared.Answer.{Answer}
use Rattle.engine.specs.Taken.{Taken, answer_of, count_of}
use Rattle.reader.specs.Read.{read_at}
use Rattle.reader.specs.Told.{answer_number}
use Rattle.reader.specs.declared.Print.{Print}
use Rattle.read_numbers.specs.Numbers.{numbers_at}
use Rattle.exports.specs.Numbers.{numbers_of, settings_of, left_by, TakenNumbers}
use Rattle.exports.specs.Reading.{ReadNumbers}

pub numbers_are : (st after : Settings) (numbers' : List ℕ) → st ≡ after → numbers' ≡ numbers_of st → numbers' ≡ numbers_of after
numbers_are st after numbers' e f = rw (← e) f

-- the engine's call on the settings that the numbers are
pub taken_numbers : (numbers table names line tape numbers' table' names' tape' : List ℕ) (count answer : ℕ) (st : Settings) (a : Answer)
    → st ≡ settings_of numbers → Taken st table names line tape table' names' tape' a
    → numbers' ≡ left_by a.outcome numbers a.settings → count ≡ count_of a.outcome → answer ≡ answer_of a.outcome
    → TakenNumbers numbers table names line tape numbers' table' names' tape' count answer
taken_numbers numbers table names line tape numbers' table' names' tape' count answer st a e t left count_is answer_is =
    let u : Taken (settings_of numbers) table names line tape table' names' tape' a = rw e at t in
    record {
      answer_is = answer_is ∙ ap answer_of u.outcome;
      count_is = count_is ∙ ap count_of u.outcome;
      numbers_are = rw (← u.outcome, ← u.settings) left;
      table_is = u.table_is;
      names_is = u.names_is;
      tape_is = u.tape_is;
    }

-- ---- shown facts

pub shown_numbers : (numbers table names line : List ℕ) (room : ℕ) (st : Settings) (e : Entry) (numbers' : List ℕ) → st ≡ settings_of numbers
    → fact_in (tape_of (day_of st table names) (record { line = line; room = room })) e ≡ shown_by (day_of st table names) (record { line = line; room = room })
    → ((text : List ℕ) → numbers' ≡ entry_numbers (fact_in text e))
    → numbers' ≡ entry_numbers (shown_by (day_of (settings_of numbers) table names) (record { line = line; room = room }))
shown_numbers numbers table names line room st e numbers' g f h =
    rw (← g) (h (tape_of (day_of st table names) (record { line = line; room = room })) ∙ ap entry_numbers f)

-- ---- the reader

pub read_numbers : (tape : List ℕ) (place : ℕ) (r : Result Print Refusal) (numbers' : List ℕ) (answer : ℕ) → r ≡ read_at tape place → numbers' ≡ numbers_at tape place → answer ≡ answer_number r → ReadNumbers tape place numbers' answer
read_numbers tape place r numbers' answer e f g = record { numbers_are = f; answer_is = rw (← e) g }
