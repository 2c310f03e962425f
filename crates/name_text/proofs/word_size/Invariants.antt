-- The loop's invariant: the columns from i on are looked at, and their text ends before column n. Assumes nothing.
use Prim.Native.Nat.{◌-◌, ◌≤◌}
use lib.ListN.{length, drop}
use Rattle.name_words.specs.Word.{WordOf}
use Rattle.name_text.proofs.word_size.Given as goal

abbrev pub invariant-loop-i : goal.invariant-loop-i
invariant-loop-i l = (l.i ≤ l.n) × (l.n ≤ length l.field) × WordOf (drop l.i l.field) (l.n - l.i)
