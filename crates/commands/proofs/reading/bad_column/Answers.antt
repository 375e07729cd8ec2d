-- No digits, or their first bad place.
use Rattle.std.proofs.Common.{◌∙◌, arith, rules}
use Rattle.digits.specs.declared.single.Letters.TheVariants.{Lower}
use Rattle.digits.proofs.HexLaws.{bad_within}
use Rattle.commands.proofs.LineLaws.{column_of, column_none}
use Rattle.commands.proofs.reading.bad_column.Goals as goal

pub returns-then-is_empty : goal.returns-then-is_empty
returns-then-is_empty c = column_none c.args.digits.now (search rules)

pub returns-in_err-place : goal.returns-in_err-place
returns-in_err-place c = c.from_residual.ensures ∙ column_of c.args.digits.now _ (search rules) c.in_err-place.ensures

pub overflow_add-result : goal.overflow_add-result
overflow_add-result c = omega (arith, bad_within Lower c.args.digits.now c.in_ok-place.place c.in_ok-place.ensures)

pub returns : goal.returns
returns c = column_of c.args.digits.now _ (search rules) c.in_ok-place.ensures
