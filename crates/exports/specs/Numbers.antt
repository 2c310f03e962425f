-- A day's settings as four numbers, and one call of the engine on them. Assumes nothing.
use Rattle.std.specs.Prelude.{ℕ, ◌≡◌, List, [], ◌∷◌, Result, Ok, Err, length, get_or}
use Rattle.text.specs.Put.{put}
use Rattle.rules.specs.Line.{mode_of}
use Rattle.rules.specs.declared.Mode.{Mode}
use Rattle.rules.specs.declared.Mode.TheVariants.{Normal, Dvd, Rpo, Mpv}
use Rattle.rules.specs.declared.Settings.{Settings}
use Rattle.rules.specs.declared.Refusal.{Refusal}
use Rattle.engine.specs.Taken.{asked, outcome_of, answer_of, count_of}
use Rattle.call_print.specs.Print.{print_of}
use Rattle.call_state.specs.After.{settings_after, table_after, names_after}

-- ---- settings: date (0 before a D is accepted), the letter of an M line, delete level, MPV level

-- the letter of the M line that sets the mode
abbrev pub letter_of : Mode → ℕ
letter_of Normal = 78
letter_of Dvd = 68
letter_of Rpo = 82
letter_of Mpv = 80

abbrev pub numbers_of : Settings → List ℕ
numbers_of st = st.date ∷ letter_of st.mode ∷ st.level ∷ st.minimum ∷ []

-- any four numbers are settings; a mode that is none of the letters is normal
abbrev pub settings_of : List ℕ → Settings
settings_of numbers = record { date = get_or numbers 0 0; mode = mode_of (get_or numbers 1 0); level = get_or numbers 2 0; minimum = get_or numbers 3 0 }

-- ---- an answer

-- a refused line leaves the four numbers as they are
abbrev pub left_by : Result ℕ Refusal → List ℕ → Settings → List ℕ
left_by (Ok n) numbers st = numbers_of st
left_by (Err r) numbers st = numbers

-- the outcome of a call that is lent these settings, tables, line and tape
abbrev pub outcome_at : List ℕ → List ℕ → List ℕ → List ℕ → List ℕ → Result ℕ Refusal
outcome_at numbers table names line tape =
    let p = asked (settings_of numbers) table names line (length tape) in
    outcome_of p (length (print_of (settings_of numbers) names p))

-- ---- a call: numbers, tables, line and tape at entry; numbers, tables, tape, count and answer at exit
pub record TakenNumbers (numbers table names line tape numbers' table' names' tape' : List ℕ) (count answer : ℕ) : Type 0 where
  pub answer_is : answer ≡ answer_of (outcome_at numbers table names line tape)
  pub count_is : count ≡ count_of (outcome_at numbers table names line tape)
  pub numbers_are : numbers' ≡ left_by (outcome_at numbers table names line tape) numbers (settings_after (settings_of numbers) (asked (settings_of numbers) table names line (length tape)))
  pub table_is : table' ≡ table_after table (asked (settings_of numbers) table names line (length tape))
  pub names_is : names' ≡ names_after names line (asked (settings_of numbers) table names line (length tape))
  pub tape_is : tape' ≡ put (print_of (settings_of numbers) names (asked (settings_of numbers) table names line (length tape))) tape

-- nothing moved: what every refused line leaves (proofs/Calls, `refused_keeps`)
pub record Kept (numbers table names tape numbers' table' names' tape' : List ℕ) (count : ℕ) : Type 0 where
  pub numbers_kept : numbers' ≡ numbers
  pub table_kept : table' ≡ table
  pub names_kept : names' ≡ names
  pub tape_kept : tape' ≡ tape
  pub count_none : count ≡ 0
