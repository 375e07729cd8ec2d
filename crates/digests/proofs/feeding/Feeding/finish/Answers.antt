-- Eight empty steps after the last end.
use Rattle.std.proofs.Common.{ap, ◌∙◌}
use Rattle.duplex.specs.Strings.{after_blanks}
use Rattle.digests.proofs.feeding.Feeding.finish.Goals as goal

pub returns : goal.returns
returns g c = c.blank.ensures ∙ ap after_blanks c.end_open.ensures
