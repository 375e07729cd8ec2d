-- What is printed of a session's fault.
use Rattle.std.specs.Prelude.{ℕ, List, codes}
use Rattle.session.specs.declared.fault.SessionFault.{SessionFault}
use Rattle.session.specs.declared.fault.SessionFault.TheVariants.{Short, Tag}

abbrev pub fault_text : SessionFault → List ℕ
fault_text (Short room) = codes "the buffer is too short"
fault_text (Tag ciphertext) = codes "the tag differs"
