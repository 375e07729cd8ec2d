-- Four times eight bits.
use Rattle.std.proofs.Common.{arith}
use Rattle.duplex.specs.State.{read_bit, reading}
use Rattle.words.specs.Packing.{state_of_words, stretch}
use Rattle.words.proofs.ReadLaws.{stretched-binary, bits_or}
use Rattle.words.proofs.vector.Words.read_by.Goals as goal

pub returns : goal.returns
unfolding reading
returns g c =
    let k = g.P.Places.factor c.args.places.now in
    let ws = c.args.self.now.array in
    let more = bits_or (read_bit (stretch k (state_of_words ws))) (stretched-binary k ws) in
    more 24 8 0 _ _ (omega arith) (more 16 8 0 _ _ (omega arith) (more 8 8 0 _ _ (omega arith) c.read_eight.ensures c.read_eight-2.ensures) c.read_eight-3.ensures) c.read_eight-4.ensures
