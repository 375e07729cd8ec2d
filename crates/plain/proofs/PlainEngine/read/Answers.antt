-- Each turn reads one more bit, which is 0 or 1 as the cells are.
use Rattle.std.proofs.Common.{◌≡◌, ℕ, ◌-◌, ◌%◌, ◌<◌, map, get_or, ap, ◌∙◌, arith}
use lib.Bits.{xor_lt}
use Rattle.std.specs.List.{range_with_len}
use Rattle.duplex.specs.State.{◌⊕◌, number, read_bit, reading}
use Rattle.duplex.proofs.StepLaws.{read_more}
use Rattle.plain.specs.declared.Plain.{Plain}
use Rattle.plain.proofs.PlainEngine.read.Goals as goal

binary : (e : Plain) (p q : ℕ) → get_or e.cells p 0 ⊕ get_or e.cells q 0 < 2
binary e p q = xor_lt 1 (get_or e.cells p 0) (get_or e.cells q 0) (e.binary p) (e.binary q)

pub loop-j-preserved : goal.loop-j-preserved
loop-j-preserved c =
    let e = c.args.self.now in
    let p = c.place-p.result in
    let within : (p ≡ p % 257) × (257 - p ≡ (257 - p) % 257) = (omega arith, omega arith) in
    read_more (read_bit e.cells) c.loop-j.j c.loop-j.out (get_or e.cells p 0 ⊕ get_or e.cells (257 - p) 0) c.loop-j-test.true c.loop-j.invariant (binary e p (257 - p))
    (ap (λ n. get_or e.cells n 0 ⊕ get_or e.cells (257 - p) 0) within.0
    ∙ (ap (λ n. get_or e.cells (p % 257) 0 ⊕ get_or e.cells n 0) within.1
    ∙ ap (λ n. get_or e.cells (n % 257) 0 ⊕ get_or e.cells ((257 - n) % 257) 0) c.place-p.ensures.value))

pub returns : goal.returns
unfolding reading
returns c =
    let all : c.loop-j.j ≡ 32 = omega arith in
    c.loop-j.invariant.1 ∙ ap (λ n. number (map (read_bit c.args.self.now.cells) (range_with_len 0 n))) all
