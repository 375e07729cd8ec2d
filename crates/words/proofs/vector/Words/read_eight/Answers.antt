-- Each turn reads one bit, below the others.
use Rattle.std.proofs.Common.{◌≡◌, ◌+◌, ◌-◌, ap, ◌∙◌, arith}
use Rattle.duplex.specs.State.{read_bit}
use Rattle.words.specs.Packing.{state_of_words, stretch, number_from}
use Rattle.words.proofs.ReadLaws.{stretched-binary, bits_first}
use Rattle.words.proofs.vector.Words.read_eight.Goals as goal

pub loop-k-preserved : goal.loop-k-preserved
loop-k-preserved g c =
    let place = g.P.Places.factor c.args.places.now in
    let ws = c.args.self.now.array in
    let f = read_bit (stretch place (state_of_words ws)) in
    let k = c.loop-k.k in
    let a = c.args.j + (k - 1) in
    let above : c.loop-k.out ≡ number_from f (a + 1) (8 - k) = c.loop-k.invariant ∙ ap (λ i. number_from f i (8 - k)) (omega arith) in
    let more : 1 + (8 - k) ≡ 8 - (k - 1) = omega arith in
    bits_first f (stretched-binary place ws) (8 - k) a _ _ (omega arith) c.read_one.ensures above ∙ ap (number_from f a) more

pub returns : goal.returns
returns g c =
    let f = read_bit (stretch (g.P.Places.factor c.args.places.now) (state_of_words c.args.self.now.array)) in
    let e : c.loop-k.k ≡ 0 = omega arith in
    c.loop-k.invariant ∙ (ap (λ k. number_from f (c.args.j + k) (8 - k)) e ∙ ap (λ i. number_from f i 8) (omega arith))
