-- Seven pieces, one after the other; they fit.
use Rattle.std.proofs.Common.{[], ◌∷◌, ◌++◌, decimal, ap, ◌∙◌, arith}
use Rattle.buffer.specs.Buffers.{held, kept}
use Rattle.console.specs.Replies.{refused, line_feed}
use Rattle.buffer.proofs.BufferLaws.{kept_then, kept_new}
use Rattle.console.proofs.ReplyLaws.{length-refused}
use Rattle.console.proofs.carry.refusal_line.Goals as goal

pub returns : goal.returns
returns c =
    let r = c.from-refusal.result in
    let n = c.args.number in
    let first = c.extend_decimal.ensures ∙ ap (λ m. kept (held c.extend.new.self) (decimal m)) c.from.ensures in
    let pieces = kept_then _ _ _ _ _ (kept_then _ _ _ _ _ (kept_then _ _ _ _ _ (kept_then _ _ _ _ _ (kept_then _ _ _ _ _ (kept_then _ _ _ _ _
    c.extend.ensures first) c.push.ensures) c.extend_decimal-2.ensures) c.push-2.ensures) c.extend_decimal-3.ensures) c.push-3.ensures in
    kept_new _ (refused n r ++ line_feed ∷ []) _ c.new-reply.ensures pieces (length-refused n r (omega arith) (omega arith) (omega arith))
    ∙ ap (λ r. refused n r ++ line_feed ∷ []) c.from-refusal.ensures
