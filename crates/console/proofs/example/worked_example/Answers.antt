-- The example is computed from the definitions.
use Rattle.std.proofs.Common.{refl}
use Rattle.std.specs.Fmt.{digits}
use Rattle.duplex.specs.State.{state, chi, iota, theta, pi, round, position, inject, step, reading}
use Rattle.duplex.specs.Strings.{absorbed, encrypted, decrypted, blanked, readings, squeezed, after_squeezing}
use Rattle.commands.specs.Lines.{hex_fault, with_string, with_count}
use Rattle.console.specs.Replies.{line_bits, printed}
use Rattle.console.specs.Runs.{lines_of, replies}
use Rattle.console.proofs.example.worked_example.Goals as goal

pub returns : goal.returns
unfolding digits state chi iota theta pi round position inject step reading absorbed encrypted decrypted blanked readings squeezed after_squeezing hex_fault with_string with_count line_bits printed lines_of replies
returns c = refl
