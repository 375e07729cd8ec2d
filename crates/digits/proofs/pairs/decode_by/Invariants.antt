-- The bytes so far, and what is left of the digits, give all bytes.
use Rattle.std.proofs.Common.{◌≡◌, ◌*◌, ◌++◌, take, drop}
use Rattle.digits.specs.Pairs.{unhex_by, laid}
use Rattle.digits.proofs.pairs.decode_by.Given as goal

abbrev pub invariant-loop-i : goal.invariant-loop-i
invariant-loop-i l = take l.i l.out ++ laid (unhex_by l.letters (drop (2 * l.i) l.digits)) (drop l.i l.out) ≡ laid (unhex_by l.letters l.digits) l.initial.out
