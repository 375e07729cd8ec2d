-- Four bytes a turn, and then the last bit.
use Rattle.std.proofs.Common.{◌/◌, length, ◌∙◌, arith, length-set}
use Rattle.words.proofs.ByteLaws.{word_bytes_more, last_word}
use Rattle.words.proofs.vector.Words.from_bytes.Goals as goal

pub loop-k-preserved : goal.loop-k-preserved
loop-k-preserved c = (
  length-set c.loop-k.array c.loop-k.k _ ∙ c.loop-k.invariant.0,
  word_bytes_more c.loop-k.array c.args.bytes.now c.as_chunks.result.0.now (length c.args.bytes.now / 4) c.loop-k.k _ c.as_chunks.ensures.front (omega arith) (omega arith) c.fits-bytes c.loop-k.invariant.1 c.from_le_bytes.ensures,
)

pub returns : goal.returns
returns c = (last_word c.loop-k.array c.args.bytes.now _ c.loop-k.invariant.0 c.from.ensures (λ m h. c.loop-k.invariant.1 m (omega arith))).1
