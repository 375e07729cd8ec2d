-- The bit of the word is the bit of the state.
use Rattle.std.proofs.Common.{◌/◌, ◌%◌, ◌^◌, get_or, sym, ◌∙◌, arith}
use Rattle.std.proofs.lemmas.Nat.{and_mask}
use Rattle.words.proofs.WordLaws.{getD_words}
use Rattle.words.proofs.vector.Words.bit.Goals as goal

pub returns : goal.returns
returns c =
    let w = c.args.self.now.array in
    let p = c.args.p.value in
    and_mask (get_or w (p / 32) 0 / 2 ^ (p % 32)) 1 ∙ sym (getD_words w p (omega arith))
