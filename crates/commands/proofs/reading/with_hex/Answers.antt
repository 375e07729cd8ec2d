-- The rest of the line, by its first byte.
use Rattle.std.proofs.Common.{rules}
use Rattle.commands.specs.Lines.{with_string}
use Rattle.commands.proofs.LineLaws.{string_digits, string_no_blank}
use Rattle.commands.proofs.reading.with_hex.Goals as goal

pub returns-in_default : goal.returns-in_default
unfolding with_string
returns-in_default c = search rules

pub returns-then-blank-ne32 : goal.returns-then-blank-ne32
returns-then-blank-ne32 c = search (rules, string_no_blank)

pub returns-in-Some : goal.returns-in-Some
returns-in-Some c = string_digits c.args.command c.args.rest.now _ (search rules) c.if-blank-ne32.false c.in-Some.ensures

pub returns-in-None : goal.returns-in-None
returns-in-None c = string_digits c.args.command c.args.rest.now _ (search rules) c.if-blank-ne32.false c.in-None.ensures
