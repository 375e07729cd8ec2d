-- The mark, the bits and the number fill the memory, and are found there again.
use Rattle.std.proofs.Common.{◌≡◌, ◌∷◌, ◌++◌, drop, sym, ap, ◌∙◌, subst, ap₂, arith}
use borrow.Rule.Slice.PartMut.{put_mid}
use Rattle.duplex.specs.Bytes.{bytes_of_state, state_of_bytes}
use Rattle.duplex.specs.Strings.{word_bytes}
use Rattle.postponed.specs.Meaning.{meant}
use Rattle.link.specs.Frames.{Standing, standing_of}
use Rattle.link.specs.Calls.{stands}
use Rattle.cowslip.specs.Memory.{kept_end, end_in}
use Rattle.cowslip.proofs.MemoryLaws.{marked, number_put, end_found}
use Rattle.cowslip.proofs.memory.store_end.Goals as goal

pub returns : goal.returns
returns g c =
    let old = c.args.memory.now in
    let m = stands meant c.args.end in
    let n = c.suspend-number.result.1 in
    let e = meant c.suspend.result in
    let parts : standing_of e n ≡ m = ap (λ s. standing_of s n) c.suspend.ensures ∙ c.suspend-number.ensures in
    let back : state_of_bytes (bytes_of_state e) ≡ e = sym (ap state_of_bytes c.to_bytes.ensures.value) ∙ c.to_bytes.ensures.back in
    let made =
    ap₂ (put_mid 34 4) (marked c.MARK.result _ old (omega arith) ∙ ap (λ b. c.MARK.result ∷ (b ++ drop 34 old)) (c.copy_from_slice.ensures.after ∙ c.to_bytes.ensures.value)) (c.copy_from_slice-2.ensures.after ∙ c.to_le_bytes.ensures)
    ∙ (number_put c.MARK.result e old (word_bytes n) c.told-memory ∙ ap₂ kept_end c.MARK.ensures parts) in
    record {
      memory = made;
      back = ap (end_in g.D.Direction.MARK) made ∙ end_found g.D.Direction.MARK m (subst (λ (x : Standing). state_of_bytes (bytes_of_state x.state) ≡ x.state) parts back) c.args.end.number.within;
    }
