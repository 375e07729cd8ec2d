-- The rest of the line, by its first byte.
use Rattle.std.proofs.Common.{◌∙◌, rules}
use Rattle.commands.specs.Lines.{with_count}
use Rattle.commands.proofs.LineLaws.{count_follows, count_no_blank}
use Rattle.commands.proofs.reading.with_number.Goals as goal

pub returns-in_default : goal.returns-in_default
unfolding with_count
returns-in_default c = search rules

pub returns-then-blank-ne32 : goal.returns-then-blank-ne32
returns-then-blank-ne32 c = search (rules, count_no_blank)

pub returns : goal.returns
returns c = c.count.ensures ∙ count_follows c.args.rest.now (search rules) c.if-blank-ne32.false
