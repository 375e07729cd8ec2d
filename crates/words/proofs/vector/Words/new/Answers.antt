-- Words that are zero hold zeros.
use Rattle.words.proofs.WordLaws.{words-zeros}
use Rattle.words.proofs.vector.Words.new.Goals as goal

pub returns : goal.returns
returns c = words-zeros
