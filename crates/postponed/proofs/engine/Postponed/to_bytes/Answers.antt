-- Stretching by the power of the count carries out the shuffles.
use Rattle.std.proofs.Common.{◌^◌, ap, ◌∙◌}
use Rattle.words.specs.Packing.{state_of_words, stretch}
use Rattle.duplex.specs.Bytes.{bytes_of_state}
use Rattle.words.proofs.StretchLaws.{stretch-cut}
use Rattle.postponed.proofs.engine.Postponed.to_bytes.Goals as goal

pub returns : goal.returns
returns c =
    let e = c.args.self.now in
    let shuffled = c.stretch_by.ensures ∙ (ap (λ f. stretch f (state_of_words e.words.array)) c.power.ensures ∙ stretch-cut (12 ^ e.count.value) (state_of_words e.words.array)) in
    record { value = c.to_bytes.ensures.value ∙ ap bytes_of_state shuffled; back = c.to_bytes.ensures.back ∙ shuffled }
