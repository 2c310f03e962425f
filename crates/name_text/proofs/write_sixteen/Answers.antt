use native.Mathlib.Omega.{arith}
use Rattle.name_text.proofs.Layers.{put_back}
use Rattle.name_text.proofs.write_sixteen.Goals as goal

pub returns : goal.returns
returns c = put_back 16 c.args.n c.args.laid.now c.args.rest.now c.taken-new.result c.taken-kept.result _ _ _ _ c.taken-new.ensures c.taken-kept.ensures c.write_bytes.ensures c.write_bytes-2.ensures (omega arith) (omega arith) (omega arith)
