-- The last digit, after the others where there are some.
use Rattle.std.proofs.Common.{◌+◌, ◌%◌, [], ◌∷◌, ap, ◌∙◌}
use Rattle.buffer.specs.Buffers.{held, kept}
use Rattle.buffer.proofs.BufferLaws.{last_digit, one_digit}
use Rattle.buffer.proofs.buffer.Buffer.+extend_decimal.Goals as goal
use Rattle.buffer.proofs.buffer.Buffer.+extend_decimal.Goals.{then-n-ge10, else-n-ge10}

pub returns : goal.returns
returns t c =
    let n = c.args.n in
    let h = held c.args.self.now in
    elim c.if-n-ge10.branch [
      | then-n-ge10 w ↦ last_digit h (held c.if-n-ge10.self) _ n c.ranges.n.fits w.if-n-ge10.true (ap held w.self-is ∙ w.extend_decimal.ensures) c.push.ensures
      | else-n-ge10 w ↦ one_digit h _ n w.if-n-ge10.false (c.push.ensures ∙ ap (λ b. kept (held b) ((48 + n % 10) ∷ [])) w.self-is)
    ]
