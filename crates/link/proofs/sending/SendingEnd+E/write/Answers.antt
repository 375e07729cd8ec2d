-- What a refusal by a check tells, and the part of the buffer that the frame fills.
use Rattle.std.proofs.Common.{arith, rules}
use Rattle.std.proofs.lemmas.List.{length-take}
use Rattle.link.proofs.Tellings.{write_tells}
use Rattle.link.proofs.Writings.{readied}
use Rattle.link.proofs.sending.SendingEnd+E.write.Goals as goal

pub returns-in_err-known-clause-tells : goal.returns-in_err-known-clause-tells
returns-in_err-known-clause-tells g c = write_tells _ _ _ _ (omega arith) _ (search rules)

pub lay-requires : goal.lay-requires
lay-requires g c =
    let r = readied _ _ _ _ _ c.in_ok-known.ensures in
    let size = r.size in
    let roomy = r.roomy in
    simp length-take (omega arith)

pub slice_bounds-lay-end-2 : goal.slice_bounds-lay-end-2
slice_bounds-lay-end-2 g c =
    let e = lay-requires g c in
    omega arith
