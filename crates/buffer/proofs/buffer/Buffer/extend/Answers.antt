-- One byte more, and the end.
use Rattle.std.proofs.Common.{◌+◌, [], ◌∷◌, get_or, drop, sym, ap, ◌∙◌}
use Rattle.std.proofs.lemmas.List.{at_drop_more, at_drop_all}
use Rattle.buffer.specs.Buffers.{held, kept}
use Rattle.buffer.proofs.BufferLaws.{kept_kept, held_all}
use Rattle.buffer.proofs.buffer.Buffer.extend.Goals as goal

pub loop-b-preserved : goal.loop-b-preserved
loop-b-preserved c =
    let xs = c.args.bytes.now in
    let i = c.loop-b.b-index in
    let h = held c.loop-b.self in
    ap (λ h. kept h (drop (i + 1) xs)) c.push.ensures
    ∙ kept_kept h (get_or xs i 0 ∷ []) (drop (i + 1) xs)
    ∙ sym (at_drop_more (kept h) xs i 0 c.loop-b-test.true)
    ∙ c.loop-b.invariant

pub returns : goal.returns
returns c =
    sym (at_drop_all (kept (held c.loop-b.self)) c.args.bytes.now c.loop-b.b-index c.loop-b-test.false ∙ held_all c.loop-b.self)
    ∙ c.loop-b.invariant
