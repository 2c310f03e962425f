-- A block and a last line, after the look for trades. Assumes nothing.
use Prim.Native.Nat.{ℕ, ◌+◌, ◌-◌, ◌≤◌, ◌<◌}
use mathlib.Core.Path.{◌≡◌}
use mathlib.Core.Bool.{Bool, false, true, not}
use mathlib.Core.List.{List}
use lib.ListN.{length, take, drop}
use Rattle.rules.specs.declared.Settings.{Settings}
use Rattle.feed_blocks.specs.Lines.{line_end}
use Rattle.feed_gather.specs.Gather.{Progress, room_left, Stands, Steps, Here}
use Rattle.feed_gather.specs.declared.Fed.{Fed}
use Rattle.feed_gather.proofs.Blocks.{Turn, turn_of, turn_none, last_goal, last_start, last_over, last_on}
use Rattle.feed_lines.specs.Feed.{day_program, Runs}

pub turn_run : {block out₀ err₀ : List ℕ} {goal : Progress} {table names tape refusals : List ℕ} {f : Fed} → Turn day_program block out₀ err₀ goal table names tape refusals f
    → {table₁ tape₁ : List ℕ} {r : Fed} → Runs false block names refusals table tape f table₁ tape₁ r → Turn day_program block out₀ err₀ goal table₁ names tape₁ refusals r
turn_run {block} {out₀} {err₀} {goal} h w = turn_of (w.to out₀ err₀ goal h.here)

pub last_run : {st : Settings} {line table names tape refusals : List ℕ} {number : ℕ} {table₁ tape₁ : List ℕ} {f : Fed}
    → Runs true line names refusals table tape (record { settings = st; number = number; at = 0; out = 0; err = 0 }) table₁ tape₁ f → Here day_program true line tape refusals (last_goal day_program st line table names tape refusals number) table₁ names tape₁ refusals f
last_run {st} {line} {table} {names} {tape} {refusals} {number} w = w.to tape refusals _ (last_start day_program st line table names tape refusals number)

-- no line feed is left behind the trades
pub trades_none : {block out₀ err₀ : List ℕ} {goal : Progress} {table names tape refusals : List ℕ} {f : Fed} → Turn day_program block out₀ err₀ goal table names tape refusals f
    → {table₁ tape₁ : List ℕ} {r : Fed} → Runs false block names refusals table tape f table₁ tape₁ r → {end : ℕ} → end ≡ line_end block r.at → length block ≤ end → Stands out₀ err₀ goal table₁ names tape₁ refusals r
trades_none h w is l = turn_none (turn_run h w) is l

module _ {st : Settings} {line table names tape refusals : List ℕ} {number : ℕ} {table₁ tape₁ : List ℕ} {f : Fed}
    (w : Runs true line names refusals table tape (record { settings = st; number = number; at = 0; out = 0; err = 0 }) table₁ tape₁ f) where
  -- the last line was a trade
  pub last_trade : length line < f.at → Stands tape refusals (last_goal day_program st line table names tape refusals number) table₁ names tape₁ refusals f
  last_trade l = last_over (last_run w) l

  -- it was none
  pub last_line : f.at ≤ length line → {t : Bool} → t ≡ room_left day_program (length tape₁) (length refusals) f.out f.err f.number → not t ≡ false
      → (table' names' tape' refusals' : List ℕ) (r : Fed) → Steps day_program (take (length line - f.at) (drop f.at line)) table₁ names tape₁ refusals f table' names' tape' refusals' r → r.at ≡ length line + 1
      → Stands tape refusals (last_goal day_program st line table names tape refusals number) table' names' tape' refusals' r
  last_line left tells room table' names' tape' refusals' r s past = last_on (last_run w) left tells room table' names' tape' refusals' r s past
