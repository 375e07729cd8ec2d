-- The whole table is computed and compared; the rules are those of the powers.
use Rattle.std.proofs.Common.{refl}
use Rattle.postponed.specs.Powers.{powers_of_12}
use Rattle.postponed.proofs.PowerLaws.{powers_rules}
use Rattle.postponed.proofs.table.powers.Goals as goal

pub returns : goal.returns
unfolding powers_of_12
returns c = record { value = refl; rules = powers_rules }
