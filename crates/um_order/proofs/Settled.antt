-- A processor without a list has settled each mark that it armed: where it is the only one, all are settled.
use Rattle.std.proofs.Common.{◌≡◌, ℕ, ◌+◌, Bool, true, false, List, [], ◌∷◌, refl, ap, arith, eq-eqb}
use Rattle.std.specs.Prelude.{◌&&◌, not, if◌then◌else◌}
use Rattle.std.specs.List.{list_all}
use Rattle.std.proofs.lemmas.Bool.{and_from, false≢true}
use Rattle.um_machine.specs.State.{State}
use Rattle.um_words.specs.declared.fine.Mark.{Mark}
use Rattle.um_fine.specs.Clock.{Marked}
use Rattle.um_fine.specs.Places.{Todos}
use Rattle.um_refinement.specs.Fine.{Fine, clock}
use Rattle.um_refinement.specs.Lists.{counted}
use Rattle.um_refinement.specs.Relation.{Rel}
use Rattle.um_refinement.specs.Timing.{is_open, open_marks, settles}
use Rattle.um_refinement.proofs.MarkFacts.{same-itself}
use Rattle.um_order.proofs.ArmingOrder.{AreSettled}
use Rattle.um_order.proofs.ParkedThreads.{one-part}

-- where no mark is open for any deadline, each is settled
none-open : (ms : List Marked) → ((d : ℕ) (mark : Mark) → open_marks d mark ms ≡ 0) → AreSettled ms
none-open [] h = refl
none-open (m ∷ ms) h = and_from m.settled (list_all (λ (m : Marked). m.settled) ms) (first m.settled refl) (none-open ms (λ d mark. later d mark (is_open d mark m) (h d mark)))
  where
    later : (d : ℕ) (mark : Mark) (b : Bool) → (if b then open_marks d mark ms + 1 else open_marks d mark ms) ≡ 0 → open_marks d mark ms ≡ 0
    later d mark true k = absurd (omega (arith, k))
    later d mark false k = k

    first : (b : Bool) → m.settled ≡ b → b ≡ true
    first true k = refl
    first false k =
        let here : is_open m.deadline m.mark m ≡ true = λ i. (not (k i) && eq-eqb m.deadline m.deadline refl i) && same-itself m.mark i in
        let none = h m.deadline m.mark in
        absurd (some (is_open m.deadline m.mark m) here none)
      where
        some : (b : Bool) → b ≡ true → (if b then open_marks m.deadline m.mark ms + 1 else open_marks m.deadline m.mark ms) ≡ 0 → ⊥
        some true e k = omega (arith, k)
        some false e k = false≢true e

pub idle-settled : (f : Fine) (s : State) → Rel f s → f.cpus ≡ 1 → (f.processors 0).todo ≡ [] → AreSettled (clock f).marks
idle-settled f s rel one idle =
    none-open (clock f).marks
    (λ d mark.
    let all = rel.marks.unsettled d mark in
    let sum = one-part (λ k. counted (settles d mark) (f.processors k).todo) f.cpus one in
    let none = ap (λ (z : Todos). counted (settles d mark) z) idle in
    omega (arith, all, sum, none))
