-- Each name is computed.
use Rattle.std.proofs.Common.{◌≡◌, Some, refl}
use Rattle.link.specs.declared.kind.Kind.{Kind}
use Rattle.link.specs.declared.kind.Kind.TheVariants.{PollValue, Alarm, Output, Clock, ZoneName, Heartbeat}
use Rattle.link.specs.Kinds.{kind_byte}
use Rattle.wording.specs.Terms.{name_of, byte_named}
use Rattle.wording.proofs.terms.names_read_back.Goals as goal

named : (kind : Kind) → byte_named (name_of kind) ≡ Some (kind_byte kind)
named PollValue = refl
named Alarm = refl
named Output = refl
named Clock = refl
named ZoneName = refl
named Heartbeat = refl

pub returns : goal.returns
returns c = named
