-- The loop's invariant: what is left of the digits is the fraction's text, and nothing is written. Assumes nothing.
use mathlib.Core.Path.{◌≡◌}
use Rattle.facts_value.specs.Values.{trimmed}
use Rattle.facts_value.proofs.write_trimmed.Given as goal

abbrev pub invariant-loop-k : goal.invariant-loop-k
invariant-loop-k l = (trimmed l.k l.m ≡ trimmed 8 l.f) × (l.rest ≡ l.initial.rest)
