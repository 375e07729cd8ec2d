-- The round at the factor of the count, the injection at that of the next count.
use Rattle.std.proofs.Common.{◌^◌, sym, ap, ◌∙◌}
use Rattle.words.specs.Packing.{state_of_words, stretch, inject_by, round_by}
use Rattle.postponed.specs.Powers.{power_of_12}
use Rattle.postponed.proofs.PowerLaws.{next-count}
use Rattle.postponed.proofs.StretchLaws.{invertible_power, step_stretched}
use Rattle.postponed.proofs.engine.PostponedEngine.step.Goals as goal

pub returns : goal.returns
returns c =
    let e = c.args.self.now in
    let n = e.count.value in
    let n' = c.next-count.result.value in
    let x = c.args.block in
    let moved = c.inject.ensures ∙ ap (λ t. inject_by (12 ^ n') t x) c.round_by-words.ensures in
    record {
      means =
          ap (stretch (12 ^ n')) moved
          ∙ step_stretched (12 ^ n) _ (12 ^ n') (state_of_words e.words.array) x (invertible_power n) c.power.ensures
          (next-count n ∙ ap power_of_12 (sym c.next-count.ensures));
      count = c.next-count.ensures;
      words = moved ∙ ap (λ f. inject_by (12 ^ n') (round_by f (state_of_words e.words.array)) x) c.power.ensures;
    }
