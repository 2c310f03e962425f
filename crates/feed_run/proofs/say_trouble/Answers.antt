use Rattle.std.proofs.Common.{arith, length-take, take}
use Rattle.feed_trouble.proofs.Short.{trouble_short}
use Rattle.feed_run.proofs.say_trouble.Goals as goal

pub write_trouble-n-requires : goal.write_trouble-n-requires
write_trouble-n-requires g c = trouble_short (take c.min.result c.args.name.now) _ _ _ (grind (arith, length-take)) (omega arith) (omega (arith, c.ranges.after.fits))
