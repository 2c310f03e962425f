use Prim.Native.Nat.{ℕ}
use mathlib.Core.Path.{◌≡◌, sym, ap, ◌∙◌}
use lib.ListN.{replicate, length-replicate}
use lib.Seq.{length-take-le}
use Rattle.text.specs.Put.{put}
use Rattle.text_right.proofs.write_blanks.Goals as goal

pub returns : goal.returns
unfolding put
returns c =
    let k = c.args.k in
    let b = c.args.rest.now in
    let e : c.fill.new.self ≡ replicate k 32 = c.fill.ensures.after (λ y p. cc) ∙ ap (λ (n : ℕ). replicate n 32) (length-take-le k b c.requires) in
    record { tape = rw (e, length-replicate); count_is = sym (length-replicate k 32); within = c.requires }
