-- A new bench will print the transcript.
use Rattle.std.proofs.Common.{ap₂}
use Rattle.console.specs.Runs.{run_state}
use Rattle.console.proofs.RunLaws.{start_prints}
use Rattle.console.proofs.run.Console.new.Goals as goal

pub returns-clause-prints : goal.returns-clause-prints
returns-clause-prints g c = start_prints _ (ap₂ (λ s l. run_state s l 0) c.new.ensures c.new-2.ensures)
