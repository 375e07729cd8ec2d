-- The law of the run at one byte.
use Rattle.console.proofs.RunLaws.{byte_prints}
use Rattle.console.proofs.run.Console.push.Goals as goal

pub returns-clause-prints : goal.returns-clause-prints
returns-clause-prints g c = byte_prints _ _ _ _ c.take_byte.ensures.moved c.take_byte.ensures.value
