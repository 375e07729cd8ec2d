-- What is left to add gives the whole injection.
use Rattle.std.proofs.Common.{◌≡◌, ◌-◌}
use Rattle.std.specs.List.{range_with_len}
use Rattle.duplex.specs.State.{position, add_bits, inject}
use Rattle.plain.proofs.add_block.Given as goal

abbrev pub invariant-loop-j : goal.invariant-loop-j
invariant-loop-j l = add_bits position l.block l.cells (range_with_len l.j (33 - l.j)) ≡ inject l.initial.cells l.block
