-- The law of the run at its end.
use Rattle.console.proofs.RunLaws.{end_prints}
use Rattle.console.proofs.run.Console.finish.Goals as goal

pub returns-clause-prints : goal.returns-clause-prints
returns-clause-prints g c = end_prints _ _ c.take_end.ensures.value
