-- A bad place is at most past the end.
use Rattle.std.proofs.Common.{arith}
use Rattle.digits.specs.declared.single.Letters.TheVariants.{Either}
use Rattle.digits.proofs.HexLaws.{bad_within}
use Rattle.sealed.proofs.words.check.Goals as goal

pub overflow_add-column : goal.overflow_add-column
overflow_add-column c = omega (arith, bad_within Either c.args.digits.now c.in-Some.place c.in-Some.ensures)
