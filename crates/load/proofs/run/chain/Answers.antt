-- The turns are a chain from zero.
use Rattle.std.proofs.Common.{ap, ◌∙◌}
use Rattle.load.specs.Chains.{chained}
use Rattle.load.proofs.ChainLaws.{chain_whole}
use Rattle.load.proofs.run.chain.Goals as goal

pub returns : goal.returns
returns g c =
    chain_whole (λ p. g.E.Engine.bits p.0.engine) (λ p. p.0.word) _ (λ a b turn. (turn.0, turn.1)) c.args.count _ _ c.repeat.ensures
    ∙ ap (λ s. chained s 0 c.args.count) c.new.ensures
