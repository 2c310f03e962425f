-- Where a program stands behind a step, as the code has it. Assumes nothing.
use Prim.Native.Nat.{ℕ}
use mathlib.Core.Path.{◌≡◌, refl, ◌∙◌}
use mathlib.Core.Bool.{Bool}
use mathlib.Core.List.{List}
use Rattle.feed_gather.specs.declared.Fed.{Fed}
use Rattle.feed_input.specs.Place.{GoesOn}
use Rattle.feed_input.specs.declared.Place.{Place}
use Rattle.feed_step.specs.Step.{used_by, passing_by, reads_by, is_over, Settles}
use Rattle.feed_step.specs.declared.Way.{Way}

pub settled : (passing : Bool) (p place : Place) (way : Way) (f : Fed) (block block' : List ℕ) (n : ℕ) (reads next over : Bool)
    → n ≡ used_by way f.at → reads ≡ reads_by way → GoesOn reads p n block block' place → next ≡ passing_by way passing → over ≡ is_over way
    → Settles passing p way f block block' (record { standing = record { place = place; settings = f.settings; number = f.number; passing = next }; out = f.out; err = f.err; over = over })
settled passing p place way f block block' n reads next over a b c d e =
    record {
      standing_is = rw (c.place_is, a, b, d);
      block_is = c.block_is ∙ rw (a, b);
      out_is = refl;
      err_is = refl;
      over_is = e;
    }
