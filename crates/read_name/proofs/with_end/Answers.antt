use Rattle.read_name.proofs.Ends.{with_is}
use Rattle.read_name.proofs.with_end.Goals as goal

pub returns-in-Some : goal.returns-in-Some
returns-in-Some c = let h = c.in-Some.ensures.cases in with_is _ _ _ h.0 h.1 h.2 _ c.suffix_text.ensures
