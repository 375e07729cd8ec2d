-- The byte of the kind that is named.
use Rattle.std.proofs.Common.{Some, ap, ◌∙◌}
use Rattle.wording.proofs.KindLaws.{named}
use Rattle.wording.proofs.terms.kind_byte.Goals as goal

pub returns-in-Some : goal.returns-in-Some
returns-in-Some c = ap Some c.from.ensures ∙ named c.args.word.now (Some c.in-Some.kind) c.in-Some.ensures
