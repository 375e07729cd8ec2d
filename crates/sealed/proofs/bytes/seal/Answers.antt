-- The ciphertext in the vector, and the tag after it.
use Rattle.std.proofs.Common.{◌++◌, ap, ◌∙◌, ap₂, arith}
use Rattle.sealed.specs.Bytes.{sealed_bytes}
use Rattle.sealed.proofs.SealedBytes.{sealed_front, never_short}
use Rattle.sealed.proofs.bytes.seal.Goals as goal

pub returns : goal.returns
returns c =
    let value = c.in_ok-seal.ensures.value in
    let length-is = c.in_ok-sealed.ensures.len in
    c.in_ok-extend_from_slice.ensures.items
    ∙ (ap₂ (λ x y. x ++ y)
    (sealed_front _ _ _ _ _ _ _ _ length-is c.as_mut_slice.ensures.len value c.in_ok-seal.ensures.out)
    c.in_ok-seal.ensures.tag
    ∙ ap (λ s. sealed_bytes s c.args.ad.now c.args.text.now) c.begin-session.ensures)

pub returns-in_err-seal : goal.returns-in_err-seal
returns-in_err-seal c =
    let length-is = c.in_ok-sealed.ensures.len in
    let room = c.as_mut_slice.ensures.len in
    absurd (never_short c.args.text.now _ _ (omega arith) c.in_err-seal.ensures.value)
