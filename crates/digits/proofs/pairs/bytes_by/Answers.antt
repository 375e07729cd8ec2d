-- The vector is as long as the bytes are many.
use Rattle.std.proofs.Common.{sym, ◌∙◌}
use Rattle.std.proofs.lemmas.List.{take_at}
use Rattle.digits.proofs.HexLaws.{laid_whole, length-unhex}
use Rattle.digits.proofs.pairs.bytes_by.Goals as goal

pub returns : goal.returns
returns c =
    let room = c.as_mut_slice.ensures.len in
    take_at c.decode_by.new.out _ _ (c.decode_by.auto.out ∙ room)
    ∙ c.decode_by.ensures
    ∙ laid_whole _ _ (length-unhex c.args.letters c.args.digits.now ∙ sym (room ∙ c.in_ok-bytes.ensures.len))
