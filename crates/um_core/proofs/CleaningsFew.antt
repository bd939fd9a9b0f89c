-- A processor has no more objects to clean than there are dynamic rows: an object that is gone is a dynamic one, and one processor cleans it.
use Rattle.std.proofs.Common.{◌≡◌, ℕ, ◌-◌, ◌<◌, ◌≤◌, arith}
use Rattle.um_base.specs.declared.limits.TheConstants.{ROWS, STATIC_ROWS}
use Rattle.um_machine.specs.State.{State}
use Rattle.um_fine.specs.Places.{cleanings}
use Rattle.um_fine.specs.Processor.{Processor}
use Rattle.um_refinement.specs.Fine.{Fine}
use Rattle.um_refinement.specs.Lists.{counted, is_recycle}
use Rattle.um_refinement.proofs.CleanRoom.{recyclers-few, recyclers-static}
use Rattle.um_refinement.proofs.MemorySteps.{part-total}
use Rattle.um_refinement.proofs.Totals.{recycles-total, total-late}
use Rattle.um_core.proofs.LeftKnown.{IsLeft}

module _ (f : Fine) (m : State) (is : IsLeft f m) where
  pub cleanings-few : (k : ℕ) → k < f.cpus → cleanings (f.processors k).todo ≤ ROWS - STATIC_ROWS
  cleanings-few k l =
      let count = recycles-total p.todo (is.rel.processors k l).rows in
      let most = total-late (λ x. counted (is_recycle x) p.todo) ROWS STATIC_ROWS (omega arith) static few in
      omega (arith, count, most)
    where
      p : Processor
      p = f.processors k

      static : (x : ℕ) → x < STATIC_ROWS → counted (is_recycle x) p.todo ≡ 0
      static x low =
          let part = part-total (λ j. counted (is_recycle x) (f.processors j).todo) f.cpus k l in
          let none = recyclers-static f m is.rel is.sound x low in
          omega (arith, part, none)

      few : (x : ℕ) → x < ROWS → counted (is_recycle x) p.todo ≤ 1
      few x low =
          let part = part-total (λ j. counted (is_recycle x) (f.processors j).todo) f.cpus k l in
          let most = recyclers-few f m is.rel is.sound x low in
          omega (arith, part, most)
