use Rattle.facts_entry.proofs.Agree.{sound_asked, told, entry_told}
use Rattle.facts_entry.proofs.entry_of.Goals as goal

pub plan_entry-requires : goal.plan_entry-requires
plan_entry-requires c = search sound_asked

pub returns : goal.returns
returns c = (search entry_told, search told)
