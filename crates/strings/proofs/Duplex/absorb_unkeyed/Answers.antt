-- What was appended is absorbed once the string has ended.
use Rattle.std.proofs.Common.{ap, ◌∙◌}
use Rattle.duplex.specs.Strings.{blanked}
use Rattle.strings.proofs.Readings.{appended-ended}
use Rattle.strings.proofs.Duplex.absorb_unkeyed.Goals as goal

pub returns : goal.returns
returns g c = c.blank.ensures ∙ ap (λ s. blanked s 2) c.append_unkeyed.ensures ∙ appended-ended _ c.args.text.now
