-- The place of the first byte that ends the run, or the end of the text.
use Rattle.std.proofs.Common.{◌∙◌}
use Rattle.wording.proofs.RunLaws.{run_found}
use Rattle.wording.proofs.runs.run_length.Goals as goal

pub returns-clause-value : goal.returns-clause-value
returns-clause-value c = c.unwrap_or.ensures ∙ run_found c.args.stop c.args.text.now c.first_stop.result c.first_stop.ensures
