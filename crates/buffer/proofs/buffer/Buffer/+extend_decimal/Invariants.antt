-- The number falls.
use Rattle.buffer.proofs.buffer.Buffer.+extend_decimal.Given as goal

abbrev pub decreases-extend-decimal : goal.decreases-extend-decimal
decreases-extend-decimal l = l.n
