-- The 257 bits written are the state.
use Rattle.std.proofs.Common.{rules}
use Rattle.duplex.proofs.StateLaws.{state_all}
use Rattle.plain.proofs.round.apply.Goals as goal

pub returns : goal.returns
returns g c = search (rules, state_all)
