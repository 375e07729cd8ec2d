-- Two digits more, and the end.
use Rattle.std.proofs.Common.{◌≡◌, ◌+◌, ◌/◌, get_or, drop, sym, ap, ◌∙◌, arith}
use Rattle.std.proofs.lemmas.List.{at_drop_more, at_drop_all}
use Rattle.digits.specs.Digits.{hex_digit}
use Rattle.digits.specs.Pairs.{hex}
use Rattle.buffer.specs.Buffers.{held, kept}
use Rattle.buffer.proofs.BufferLaws.{two_more, held_all}
use Rattle.buffer.proofs.buffer.Buffer.extend_hex.Goals as goal

pub loop-b-preserved : goal.loop-b-preserved
loop-b-preserved c =
    let xs = c.args.bytes.now in
    let i = c.loop-b.b-index in
    let h = held c.loop-b.self in
    let rest = hex (drop (i + 1) xs) in
    let b = get_or xs i 0 in
    let high : c.hex_digit.result ≡ hex_digit (b / 16) = c.hex_digit.ensures ∙ ap hex_digit (omega (arith, (c.type_inv.bytes i).fits)) in
    two_more h (held c.push.new.self) (held c.push-in-loop-b.new.self) rest _ _ _ _ high c.hex_digit-in-loop-b.ensures c.push.ensures c.push-in-loop-b.ensures
    ∙ sym (at_drop_more (λ bs. kept h (hex bs)) xs i 0 c.loop-b-test.true)
    ∙ c.loop-b.invariant

pub returns : goal.returns
returns c =
    sym (at_drop_all (λ bs. kept (held c.loop-b.self) (hex bs)) c.args.bytes.now c.loop-b.b-index c.loop-b-test.false ∙ held_all c.loop-b.self)
    ∙ c.loop-b.invariant
