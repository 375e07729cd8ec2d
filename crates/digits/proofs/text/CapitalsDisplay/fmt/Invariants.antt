-- The bytes so far are printed.
use Rattle.std.proofs.Common.{take}
use Rattle.std.specs.Fmt.{HasWritten, IsPlainFormatter}
use Rattle.digits.specs.Pairs.{capital_hex}
use Rattle.digits.proofs.text.CapitalsDisplay.fmt.Given as goal

abbrev pub invariant-loop-b : goal.invariant-loop-b
invariant-loop-b g l =
    IsPlainFormatter l.initial.f → HasWritten g.W.Write.write_str_gives l.initial.f (capital_hex (take l.b-index l.b-items)) l.f
