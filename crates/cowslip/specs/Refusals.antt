-- The refusals that a C caller meets: number and place of each.
use Rattle.std.specs.Prelude.{ℕ}
use Rattle.refusals.specs.declared.Refusal.{Refusal}
use Rattle.session.specs.Refusals as session
use Rattle.link.specs.Refusals as link
use Rattle.digests.specs.Entries as entries
use Rattle.cowslip.specs.declared.fault.Told.{Told}
use Rattle.cowslip.specs.declared.fault.CallFault.{CallFault}
use Rattle.cowslip.specs.declared.fault.CallFault.TheVariants.{ArgumentLength, NoState, Session, Link, Entries}

abbrev pub told_as : ℕ → ℕ → Told
told_as number place = record { number = number; place = place }

-- a refusal of another layer, without its layer
abbrev pub without_layer : Refusal → Told
without_layer refusal = told_as refusal.number refusal.place

-- two refusals of the interface itself; the others are told as the call that refuses tells them
abbrev pub told : CallFault → Told
told (ArgumentLength argument) = told_as 30 argument
told NoState = told_as 31 0
told (Session fault) = without_layer (session.told fault)
told (Link fault) = without_layer (link.told fault)
told (Entries fault) = without_layer (entries.told fault)
