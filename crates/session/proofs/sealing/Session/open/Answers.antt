-- The two theorems: of an opening that has no room for what sealing wrote, and of one that has.
use Rattle.std.proofs.Common.{ap, ap₂, ◌++◌, drop, length, arith}
use native.Mathlib.Nat.{sub-zero}
use Rattle.session.proofs.SessionLaws.{length-cipher, reads_back, only_sealed}
use Rattle.session.proofs.sealing.Session.open.Goals as goal

pub returns-then-out-ciphertext-clause-back : goal.returns-then-out-ciphertext-clause-back
returns-then-out-ciphertext-clause-back g c text e t h = absurd (omega (arith, ap length e, length-cipher))

pub returns-clause-back : goal.returns-clause-back
returns-clause-back g c =
    reads_back _ _ _ _ c.args.out.now _ _ _ c.open_whole.ensures.value c.open_whole.ensures.moved (ap₂ (λ x n. x ++ drop n c.args.out.now) c.open_whole.ensures.text (sub-zero (length c.args.ciphertext.now)))

pub returns-clause-only : goal.returns-clause-only
returns-clause-only g c =
    only_sealed _ _ _ _ c.args.out.now _ _ _ c.open_whole.ensures.value c.open_whole.ensures.moved (ap₂ (λ x n. x ++ drop n c.args.out.now) c.open_whole.ensures.text (sub-zero (length c.args.ciphertext.now)))
