-- 64 bytes as hex and a line feed fit.
use Rattle.std.proofs.Common.{arith}
use Rattle.std.proofs.lemmas.List.{length-append}
use Rattle.buffer.proofs.BufferLaws.{kept_then, kept_new}
use Rattle.digits.proofs.HexLaws.{length-hex}
use Rattle.console.proofs.carry.hex_line.Goals as goal

pub returns : goal.returns
returns c =
    kept_new _ _ _ c.new-reply.ensures (kept_then _ _ _ _ _ c.extend_hex.ensures c.push.ensures)
    (simp length-append (omega (arith, length-hex c.args.bytes.now)))
