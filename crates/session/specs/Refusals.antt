-- The refusals of a session: number, layer and place of each, and when a call refuses.
use Rattle.std.specs.Prelude.{ℕ, not, List, [], ◌∷◌, length, nat_lt}
use Rattle.refusals.specs.declared.Layer.TheVariants.{Session}
use Rattle.refusals.specs.declared.Refusal.{Refusal}
use Rattle.refusals.specs.Tables.{Table, refusal_of}
use Rattle.session.specs.declared.fault.SessionFault.{SessionFault}
use Rattle.session.specs.declared.fault.SessionFault.TheVariants.{Short, Tag}
use Rattle.session.specs.Sessions.{opens}

abbrev pub told : SessionFault → Refusal
told (Short room) = refusal_of Session 5 room
told (Tag ciphertext) = refusal_of Session 7 ciphertext

-- sealing a text with room for so many bytes
unfoldable pub seal_table : List ℕ → ℕ → Table
seal_table text room = (nat_lt room (length text), refusal_of Session 5 room) ∷ []

-- opening a ciphertext c and a tag at the bits s, with associated data ad and room for so many bytes
unfoldable pub open_table : List ℕ → List ℕ → List ℕ → List ℕ → ℕ → Table
open_table s ad c tag room =
    (nat_lt room (length c), refusal_of Session 5 room)
    ∷ (not (opens s ad c tag), refusal_of Session 7 (length c))
    ∷ []
