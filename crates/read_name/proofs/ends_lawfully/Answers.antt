use Rattle.read_name.proofs.Ends.{lawful_is}
use Rattle.read_name.proofs.ends_lawfully.Goals as goal

pub returns-in-Some : goal.returns-in-Some
returns-in-Some c = let h = c.in-Some.ensures.cases in lawful_is _ _ _ h.0 h.1 h.2 _ _ _ c.plain_end.ensures c.if-plain_end.false c.plain_end-in-Some.ensures
