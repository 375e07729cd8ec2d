-- Digit by digit.
use Rattle.digits.proofs.HexLaws.{sound-hex, unhex-hex, sound-capitals, unhex-capitals}
use Rattle.digits.proofs.pairs.digits_read_back.Goals as goal

pub returns : goal.returns
returns c = record { sound = sound-hex; same = unhex-hex; capitals_sound = sound-capitals; capitals_same = unhex-capitals }
