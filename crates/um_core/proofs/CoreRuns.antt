-- A core goes on, one step after another, as an order of processors picks them. Its run is over when all processors halt.
use Rattle.std.proofs.Common.{◌≡◌, ℕ, suc, ◌+◌, ◌<◌, ◌≤◌, List, [], ◌∷◌, ◌++◌, length, Option, length-append, refl, sym, ap, ◌∙◌, subst, arith, mod-lt}
use Rattle.std.specs.Prelude.{IsTrue, replicate}
use Rattle.um_base.specs.declared.image.Image.{Image}
use Rattle.um_base.specs.Weight.{weight}
use Rattle.um_invariants.specs.Described.{IsDescribed}
use Rattle.um_fine.specs.Erasure.{shown}
use Rattle.um_fine.specs.Opening.{s_start}
use Rattle.um_fine.specs.Processor.{idle}
use Rattle.um_fine.specs.Sites.{is_site}
use Rattle.um_fine.specs.Steps.{FineStep, Site}
use Rattle.um_core.specs.declared.order.Order.{Order}
use Rattle.um_core.specs.Order.{coming, preferred}
use Rattle.um_core.proofs.OrderLemmas.{Left, all-left, none-preferred, order-first, order-left}
use Rattle.um_tables.specs.Sited.{IsSized, state_at}
use Rattle.um_tables.proofs.Noted.{made-most}
use Rattle.um_refinement.specs.Room.{CanRun}
use Rattle.um_core.specs.CoreSteps.{AllHalt, FirstSteps, GoesOn, Halts, IsCoreOf, Steps}
use Rattle.um_core.specs.Cores.{Core, Stands}
use Rattle.um_core.specs.PickedRun.{ArePicked, IsPicked, IsPickedRun, NoneIsNext, behind}
use Rattle.um_core.proofs.CoreExact.{goes-on, halts-none}
use Rattle.um_core.proofs.Picked.{picked-push, reached}
use Rattle.um_core.proofs.Refusals.{AreShort, nobody-steps}
use Rattle.um_core.proofs.StepsOn.{stands-first}

-- the steps of a core so far, which are this many, and what its order still prefers
pub record SoFar (image : Image) (cpus : ℕ) (pick : Option ℕ) (count : ℕ) (core : Core) (order : Order) : Type 0 where
  pub done : List FineStep
  pub counted : length done ≡ count
  pub picked : ArePicked image cpus [] (preferred cpus pick (length done)) done
  pub left : Left cpus pick (length done) order
  pub stands : Stands image cpus done core

pub so-opens : (image : Image) (cpus : ℕ) (pick : Option ℕ) (core : Core) (order : Order) → ((n : ℕ) → coming cpus order n ≡ preferred cpus pick n)
    → ((i : Site) → IsTrue (is_site i) → state_at core.sites i ≡ s_start image i) → IsSized core.sites → core.sites.log ≡ [] → core.processors ≡ replicate cpus idle
    → SoFar image cpus pick 0 core order
so-opens image cpus pick core order all at sized log processors =
    record {
      done = [];
      counted = refl;
      picked = subst (λ firsts. ArePicked image cpus [] firsts []) (sym (none-preferred cpus pick)) tt;
      left = all-left cpus pick order all;
      stands = subst (λ (q : Core). Stands image cpus [] q) (λ i. record { sites = core.sites; processors = sym processors i }) (stands-first image cpus core.sites at sized log);
    }

module _ (image : Image) (cpus : ℕ) (described : IsDescribed image) (can : CanRun image cpus) (short : AreShort) (pick : Option ℕ) (count : ℕ) (core : Core) (order : Order)
    (so : SoFar image cpus pick count core order) (room : weight image ≤ core.sites.most) where
  abbrev done : List FineStep
  done = so.done

  is : IsCoreOf image cpus done core
  is = record { described = described; can = can; stands = so.stands; room = room }

  within : (first n : ℕ) → behind cpus first n < cpus
  within first n = mod-lt (first + n) can.some

  none-of : (first n : ℕ) → Halts image core (behind (length core.processors) first n) → NoneIsNext image cpus done (behind cpus first n)
  none-of first n halts =
      halts-none image cpus done core is (behind cpus first n) (within first n) short (subst (λ c. Halts image core (behind c first n)) so.stands.count halts)

  -- all processors halt: the run is over
  pub so-over : (first : ℕ) → first < cpus → AllHalt image first core → IsPickedRun image cpus pick done × (core.sites.log ≡ shown done)
  so-over first near halt = (record { picked = so.picked; over = nobody-steps image cpus described can short done so.stands.run none }, so.stands.log)
    where
      none : (k : ℕ) → k < cpus → NoneIsNext image cpus done k
      none k l =
          let there = reached cpus first k near l in
          subst (λ j. NoneIsNext image cpus done j) there.2 (none-of first there.0 (halt there.0 (subst (λ c. there.0 < c) (sym so.stands.count) there.1)))

  -- one more step
  module _ (first : ℕ) (new : Core) (next : FirstSteps image first core new) where
    abbrev k : ℕ
    k = behind cpus first next.turn

    step : Steps image k core new
    step = subst (λ c. Steps image (behind c first next.turn) core new) so.stands.count next.steps

    more : GoesOn image cpus done k new
    more = goes-on image cpus done core is k (within first next.turn) short new step

    abbrev e : FineStep
    e = more.made

    pub new-most : new.sites.most ≡ core.sites.most
    new-most = made-most image core.sites step.made new.sites step.makes.taken

    is-picked : IsPicked image cpus first done e
    is-picked =
        record {
          next = more.next;
          turn = next.turn;
          within = subst (λ c. next.turn < c) so.stands.count next.within;
          made_by = more.maker;
          others = λ n g less same. none-of first n (next.others n less) g same;
        }

    pub so-short : count + 1 ≤ weight image
    so-short =
        let most = short image cpus (done ++ e ∷ []) described can.few more.stands.run in
        let long = length-append done (e ∷ []) in
        let counted = so.counted in
        omega (arith, most, long, counted)

    pub so-goes : (order2 : Order) → ((n : ℕ) → coming cpus order (suc n) ≡ first ∷ coming cpus order2 n) → SoFar image cpus pick (count + 1) new order2
    so-goes order2 on =
        record {
          done = done ++ e ∷ [];
          counted = long ∙ ap (λ n. n + 1) so.counted;
          picked =
              subst (λ firsts. ArePicked image cpus [] firsts (done ++ e ∷ [])) (sym (ap (preferred cpus pick) long ∙ order-first cpus pick (length done) first order order2 so.left on))
              (picked-push image cpus [] (preferred cpus pick (length done)) done first e so.picked is-picked);
          left = subst (λ n. Left cpus pick n order2) (sym long) (order-left cpus pick (length done) first order order2 so.left on);
          stands = more.stands;
        }
      where
        long : length (done ++ e ∷ []) ≡ length done + 1
        long = length-append done (e ∷ [])
