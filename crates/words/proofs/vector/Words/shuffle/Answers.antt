-- pi is the stretch by 12.
use Rattle.duplex.specs.State.{pi}
use Rattle.words.specs.Packing.{stretch}
use Rattle.words.proofs.vector.Words.shuffle.Goals as goal

pub returns : goal.returns
unfolding pi stretch
returns c = c.stretch_by.ensures
