-- Both copies have the bit.
use Rattle.std.proofs.Common.{◌/◌, ◌%◌, ◌^◌, get_or, sym, ◌∙◌, arith}
use Rattle.std.proofs.lemmas.Nat.{and_mask}
use Rattle.words.proofs.WordLaws.{getD_words}
use Rattle.words.proofs.doubled.Doubled.bit.Goals as goal

pub returns : goal.returns
returns c =
    let row = c.args.self.now in
    let p = c.args.p in
    and_mask (get_or row.array (p / 32) 0 / 2 ^ (p % 32)) 1 ∙ (row.twice p c.requires ∙ sym (getD_words row.array (p % 257) (omega arith)))
