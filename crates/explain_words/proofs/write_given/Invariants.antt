-- The loop's invariant: what is written is the names of the reasons before it that are given. Assumes nothing.
use lib.ListN.{take}
use Rattle.std.specs.List.{flat_map}
use Rattle.text.specs.Pick.{opt}
use Rattle.text.specs.Put.{Written}
use Rattle.explain_words.proofs.write_given.Given as goal

abbrev pub invariant-loop-given : goal.invariant-loop-given
invariant-loop-given l = Written (flat_map (λ r. opt r.0 r.1.now) (take l.given-index l.reasons)) l.initial.rest l.rest l.count
