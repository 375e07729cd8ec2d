-- Sums are place by place.
use Rattle.std.proofs.Common.{ap, ◌∙◌}
use lib.Bits.{bit_xor, xor_lt}
use Rattle.duplex.specs.State.{bit}
use Rattle.words.proofs.BitLaws.{bit-bit_xor}
use Rattle.words.proofs.round.ThetaMix.word.Goals as goal

pub returns : goal.returns
returns c =
    record {
      places = λ j. bit-bit_xor _ c.args.y j ∙ ap (λ n. bit_xor n (bit c.args.y j)) (bit-bit_xor c.args.a c.args.x j);
      narrow = λ ha hx hy. xor_lt 1 _ c.args.y (xor_lt 1 c.args.a c.args.x ha hx) hy;
    }
