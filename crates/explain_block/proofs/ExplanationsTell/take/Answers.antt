use Rattle.explain_block.proofs.Calls.{line_room, call_explained}
use Rattle.explain_block.proofs.ExplanationsTell.take.Goals as goal

pub write_explanation-requires : goal.write_explanation-requires
write_explanation-requires c = search line_room

pub returns : goal.returns
returns c = search call_explained
