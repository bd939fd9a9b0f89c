-- The number of a note is one of its thread's word, after every lawful step.
use Rattle.um_refinement.proofs.Words.{◌≡◌, inl, inr, ℕ, ◌<◌, ◌≤◌, Some, arith, THREADS, State, Context, FineStep, Fine, word}
use Rattle.um_refinement.specs.Stops.{LiesAt}
use Rattle.um_refinement.proofs.Erased.{around}
use Rattle.um_refinement.proofs.Leaves.{Lawful, Leaves}
use Rattle.um_refinement.proofs.LooksPart.{number-grows}
use Rattle.um_refinement.proofs.Lying.{Before, lay-before}

module _ (f : Fine) (m : State) (e : FineStep) (law : Lawful f m e) (s : State) (how : Leaves f m e s) (t : ℕ) (few : t < THREADS) where
  open around f e use {later}

  pub note-number : (c : Context) (n : ℕ) → LiesAt later t c → c.noted ≡ Some n → n ≤ (word later t).number
  note-number c n lies noted = by (lay-before f m e law s how t few n c lies noted)
    where
      by : Before f m e law s how t few n → n ≤ (word later t).number
      by (inl (d, lay, same)) =
          let old = (law.rel.threads t few).note.number d n lay same in
          let grows = number-grows f m e law s how t few in
          omega (arith, old, grows)
      by (inr new) = let number = new.0 in omega (arith, number)
