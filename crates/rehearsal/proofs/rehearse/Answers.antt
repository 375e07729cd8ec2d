-- The parts of the law, from the three runs.
use Rattle.std.proofs.Common.{ℕ, List, map, refl, ap, subst, arith}
use Rattle.link.specs.Frames.{Standing, started}
use Rattle.link.proofs.Suite.{only}
use Rattle.rehearsal.specs.Law.{Run, Place, place_of, Call, ReceivingRun, SendingRun}
use Rattle.rehearsal.specs.Rehearsals.{ReceivingCall, asked, said, SendingCall, ordered, done, Roomy, taking, writing, Answered, Agreed}
use Rattle.rehearsal.proofs.Receiving.{receiving_run, pruned, determined}
use Rattle.rehearsal.proofs.Sending.{sending_run}
use Rattle.rehearsal.proofs.Together.{together, delivered, started_zero}
use Rattle.rehearsal.proofs.rehearse.Goals as goal

module _ (key nonce : List ℕ) where
  received : (xs ys : List ReceivingCall) (m : Standing) → Run (Answered taking) (started key nonce) xs ys m → Roomy xs → ReceivingRun (place_of (started key nonce) 0) (map asked xs) (map said ys) (place_of m m.number)
  received xs ys m h room = subst (λ (n : ℕ). ReceivingRun (place_of (started key nonce) n) (map asked xs) (map said ys) (place_of m m.number)) (started_zero key nonce) (receiving_run h room)

  sent : (xs ys : List SendingCall) (m : Standing) → Run (Answered writing) (started key nonce) xs ys m → SendingRun (place_of (started key nonce) 0) (map ordered xs) (map done ys) (place_of m m.number)
  sent xs ys m h = subst (λ (n : ℕ). SendingRun (place_of (started key nonce) n) (map ordered xs) (map done ys) (place_of m m.number)) (started_zero key nonce) (sending_run (omega (arith, started_zero key nonce)) h)

  agreed : (calls calls' again again' : List ReceivingCall) (orders orders' : List SendingCall) (first second sender : Standing)
      → Run (Answered taking) (started key nonce) calls calls' first → Run (Answered taking) (started key nonce) again again' second → Run (Answered writing) (started key nonce) orders orders' sender
      → Agreed key nonce calls calls' again again' orders orders' first second sender
  agreed calls calls' again again' orders orders' first second sender a b w =
      record {
        exact = received calls calls' first a;
        one_fits = only;
        alike = λ room rooms e.
            let h = subst (λ (x : List Call). ReceivingRun (place_of (started key nonce) 0) x (map said again') (place_of second second.number)) e (received again again' second b rooms) in
            let d = determined refl h (pruned (received calls calls' first a room)) in
            (d.0, ap (λ (x : Place). x.sender) d.1);
        same = sent orders orders' sender w;
        delivered = λ room e. delivered (received calls calls' first a room) (sent orders orders' sender w) e;
        together = λ room e. together (received calls calls' first a room) (sent orders orders' sender w) (started_zero key nonce) e;
      }

pub returns : goal.returns
returns g c = record {
  each = record { each_call = c.play-first.ensures; each_again = c.play-second.ensures; each_order = c.play-sender.ensures };
  law = agreed _ _ _ _ _ _ _ _ _ _ _ c.play-first.ensures c.play-second.ensures c.play-sender.ensures;
}
