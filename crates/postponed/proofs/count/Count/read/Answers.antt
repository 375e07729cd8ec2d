-- The remainder's word, turned by the quotient.
use Rattle.std.proofs.Common.{arith}
use Rattle.words.specs.Packing.{state_of_words}
use Rattle.words.specs.StateLaw.{words-state}
use Rattle.postponed.proofs.TurnLaws.{count_read}
use Rattle.postponed.proofs.count.Count.read.Goals as goal

pub returns : goal.returns
returns c =
    let ws = c.args.words.now.array in
    count_read (state_of_words ws) c.args.self.value _ _ _ (words-state ws) c.rotate_right.ensures c.read_at.ensures (omega arith)
