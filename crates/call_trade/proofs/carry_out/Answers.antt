use Rattle.call_trade.proofs.Carried.{unmarked, other_network, carried}
use borrow.Author.Rules.{rules}
use Rattle.call_trade.proofs.carry_out.Goals as goal

pub is_on_network-requires : goal.is_on_network-requires
is_on_network-requires c = search unmarked

pub returns-then-not-is_on_network : goal.returns-then-not-is_on_network
returns-then-not-is_on_network c = search other_network

pub decide-requires : goal.decide-requires
decide-requires c = (search rules, search rules, search rules, search unmarked)

pub returns : goal.returns
returns c = search carried
