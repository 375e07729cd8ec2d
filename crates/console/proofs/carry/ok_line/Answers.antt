-- Three bytes fit.
use Rattle.std.proofs.Common.{arith}
use Rattle.buffer.proofs.BufferLaws.{kept_new}
use Rattle.console.proofs.carry.ok_line.Goals as goal

pub returns : goal.returns
returns c = kept_new _ _ _ c.new-reply.ensures c.extend.ensures (omega arith)
