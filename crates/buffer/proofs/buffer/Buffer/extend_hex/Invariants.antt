-- What is left to write gives the whole.
use Rattle.std.proofs.Common.{◌≡◌, drop}
use Rattle.digits.specs.Pairs.{hex}
use Rattle.buffer.specs.Buffers.{held, kept}
use Rattle.buffer.proofs.buffer.Buffer.extend_hex.Given as goal

abbrev pub invariant-loop-b : goal.invariant-loop-b
invariant-loop-b l = kept (held l.self) (hex (drop l.b-index l.bytes)) ≡ kept (held l.initial.self) (hex l.bytes)
