-- If a core is as a fine run has left it, each step of its processors continues the run and is chosen, and a processor that halts has none that is next.
use Rattle.std.proofs.Common.{◌≡◌, ◌≢◌, ◌⊎◌, inl, inr, ℕ, ◌<◌, Bool, true, false, List, [], ◌∷◌, ◌++◌, length, refl, sym, ap, ◌∙◌, subst, arith}
use Rattle.std.proofs.lemmas.Bool.{true≢false}
use Rattle.um_base.specs.declared.image.Image.{Image}
use Rattle.um_machine.specs.State.{State}
use Rattle.um_fine.specs.Answers.{is_due_act, is_tick}
use Rattle.um_fine.specs.Asks.{made_by}
use Rattle.um_fine.specs.FineRun.{IsFineRun}
use Rattle.um_fine.specs.Places.{Todos}
use Rattle.um_fine.specs.Processor.{Processor}
use Rattle.um_fine.specs.Scheduler.{Scheduler}
use Rattle.um_fine.specs.Steps.{FineStep, Site}
use Rattle.um_refinement.specs.After.{left_by}
use Rattle.um_refinement.specs.Choice.{IsChosen}
use Rattle.um_refinement.specs.Fine.{Fine, scheduler, scheduler_state}
use Rattle.um_refinement.proofs.ErasedRuns.{no-steps, none-or-some}
use Rattle.um_refinement.specs.Lists.{has_steps}
use Rattle.um_core.specs.CoreSteps.{GoesOn, Halts, HasNone, IsCoreOf, IsRefused, LetsStand, StandsStill, Steps, Tends, WasChosen, processor_at, scheduler_there}
use Rattle.um_core.specs.CoreSteps as C
use Rattle.um_core.specs.Cores.{Core, Stands}
use Rattle.um_core.specs.PickedRun.{MayFollow, NoneIsNext, processor_after}
use Rattle.um_core.proofs.ChoiceKnown.{due-none, ready-none}
use Rattle.um_core.proofs.Chosen.{both-alike, due-no-tick, listed-untimed, tick-no-due, turn-untimed}
use Rattle.um_core.proofs.CoreRefusals.{has-none, is-p, shut-none}
use Rattle.um_core.proofs.LeftKnown.{IsLeft, left-some}
use Rattle.um_core.proofs.OneRun.{fine-more}
use Rattle.um_core.proofs.Refusals.{AreShort, NoneFollows, counts-known, may}
use Rattle.um_core.proofs.StepsOn.{follows, steps-on}

module _ (image : Image) (cpus : ℕ) (done : List FineStep) (core : Core) (is : IsCoreOf image cpus done core) (k : ℕ) (l : k < cpus) (short : AreShort) where
  abbrev f : Fine
  f = left_by image cpus done

  same-scheduler : scheduler_there core ≡ scheduler f
  same-scheduler = ap scheduler_state (is.stands.at Site.scheduler refl)

  none-shut : (e : FineStep) → IsRefused image core k e → (due tick : Bool) → is_due_act e.act ≡ due → is_tick e.act ≡ tick → (g : FineStep) → g.cpu ≡ k → is_due_act g.act ≡ due → is_tick g.act ≡ tick
      → MayFollow image cpus done g → ⊥
  none-shut e refused due tick h n g same i j may =
      shut-none image cpus is.described is.can done core is.stands k l e refused g same (both-alike e g due tick h i n j) may

  nothing-left : HasNone image core k → NoneFollows image cpus done k
  nothing-left has =
      has-none image cpus is.described is.can done core is.stands k l (λ steps run. let most = short image cpus steps is.described is.can.few run in let room = is.room in omega (arith, most, room)) has

  -- The step that it makes is chosen.

  untimed-chosen : (e : FineStep) → (is_due_act e.act ≡ false) × (is_tick e.act ≡ false) → IsChosen f e
  untimed-chosen e plain = record { due = λ h. absurd (true≢false (sym h ∙ plain.0)); tick = λ h. absurd (true≢false (sym h ∙ plain.1)) }

  -- where a turn is refused, none is ready; and where a mark is refused too, none is due
  module _ (m : State) (left : IsLeft f m) (empty : (processor_at core k).todo ≡ []) (e : FineStep) (turn : (is_due_act e.act ≡ false) × (is_tick e.act ≡ false)) (refused : IsRefused image core k e) where
    here : (processor_after image done k).todo ≡ []
    here = ap (λ (q : Processor). q.todo) (sym (is-p image cpus is.described is.can done core is.stands k l)) ∙ empty

    ready : (scheduler f).ready ≡ []
    ready =
        ready-none image cpus is.can done m left (counts-known image cpus is.described is.can.few short done is.stands.run) k l here
        (λ g same h n may. none-shut e refused false false turn.0 turn.1 g same h n may)

    tends-chosen : (made : FineStep) → Tends image core k made → IsChosen f made
    tends-chosen made (C.gives due) = record { due = λ h. ready; tick = λ h. absurd (true≢false (sym h ∙ due-no-tick made.act due)) }
    tends-chosen made (C.passes g due shut still) =
        record {
          due = λ h. ready;
          tick = λ h. (
            ready,
            due-none image cpus is.can done m left (counts-known image cpus is.described is.can.few short done is.stands.run) k l here ready
                (λ x same i may. none-shut g shut true false due (due-no-tick g.act due) x same i (due-no-tick x.act i) may),
            sym (ap (λ (s : Scheduler). s.running) same-scheduler) ∙ still,
          );
        }

  was-chosen : (m : State) → IsLeft f m → (made : FineStep) → made_by image (processor_at core k) made ≡ made → WasChosen image core k made → IsChosen f made
  was-chosen m left made makes (C.turns passes) = by (processor_at core k).todo refl
    where
      by : (todo : Todos) → (processor_at core k).todo ≡ todo → IsChosen f made
      by [] at = untimed-chosen made (turn-untimed made.act (passes at))
      by (q ∷ todo) at = untimed-chosen made (listed-untimed image (processor_at core k) (λ none. true≢false (ap has_steps (sym at ∙ none))) made makes)
  was-chosen m left made makes (C.tends e empty turn tends) = tends-chosen m left empty e (turn-untimed e.act (turn.0 empty)) turn.1 made tends

  -- an image without objects has no step
  none-first : length image.objects ≡ 0 → (e : FineStep) → MayFollow image cpus done e → ⊥
  none-first none e may = by done (fine-more image cpus done e is.stands.run may)
    where
      by : (steps : List FineStep) → IsFineRun image cpus (steps ++ e ∷ []) → ⊥
      by [] run = no-steps image cpus is.described none e [] run
      by (x ∷ steps) run = no-steps image cpus is.described none x (steps ++ e ∷ []) run

  pub goes-on : (new : Core) → Steps image k core new → GoesOn image cpus done k new
  goes-on new step =
      record {
        made = step.made;
        maker = step.makes.asks.maker;
        next = record { follows = may-follow; chosen = by (none-or-some (length image.objects)) };
        stands = subst (λ (q : Core). Stands image cpus (done ++ step.made ∷ []) q) (λ i. record { sites = new.sites; processors = sym step.makes.leaves i })
            (steps-on image cpus is.described is.can done core is.stands k l step.made step.makes.asks new.sites step.makes.taken);
      }
    where
      may-follow : MayFollow image cpus done step.made
      may-follow = follows image cpus is.described is.can done core is.stands k l step.made step.makes.asks new.sites step.makes.taken

      by : (length image.objects ≡ 0) ⊎ (0 < length image.objects) → IsChosen f step.made
      by (inl none) = absurd (none-first none step.made may-follow)
      by (inr some) =
          let left = left-some image cpus is.described is.can some done is.stands.run in was-chosen left.0 left.1 step.made step.makes.asks.makes step.chosen

  -- One that halts has no step that is next.

  lets-none : (g : FineStep) → g.cpu ≡ k → LetsStand image core k → is_due_act g.act ≡ true → MayFollow image cpus done g → ⊥
  lets-none g same (C.LetsStand.waits e due refused stands) h may = none-shut e refused true false due (due-no-tick e.act due) g same h (due-no-tick g.act h) may
  lets-none g same (C.LetsStand.none has) h may = nothing-left has g same may

  still-none : (g : FineStep) → g.cpu ≡ k → StandsStill image core k → is_tick g.act ≡ true → (scheduler f).running ≡ 0 → MayFollow image cpus done g → ⊥
  still-none g same (C.StandsStill.runs running) h still may =
      let is-same = ap (λ (s : Scheduler). s.running) same-scheduler in omega (arith, running, is-same, still)
  still-none g same (C.StandsStill.waits x tick shut) h still may = none-shut x shut false true (tick-no-due x.act tick) tick g same (tick-no-due g.act h) h may
  still-none g same (C.StandsStill.none has) h still may = nothing-left has g same may

  stands-none : (g : FineStep) → g.cpu ≡ k → LetsStand image core k → is_tick g.act ≡ true → (scheduler f).running ≡ 0 → MayFollow image cpus done g → ⊥
  stands-none g same (C.LetsStand.waits e due refused stands) h still may = still-none g same stands h still may
  stands-none g same (C.LetsStand.none has) h still may = nothing-left has g same may

  pub halts-none : Halts image core k → NoneIsNext image cpus done k
  halts-none (C.refused e some refused) g same next =
      let one = listed-untimed image (processor_at core k) some e refused.asks.makes in
      let here : (processor_after image done k).todo ≢ [] = λ none. some (ap (λ (q : Processor). q.todo) (is-p image cpus is.described is.can done core is.stands k l) ∙ none) in
      let other = listed-untimed image (processor_after image done k) here g (may image cpus done k g same next.follows).makes in
      none-shut e refused false false one.0 one.1 g same other.0 other.1 next.follows
  halts-none (C.idles e empty turn lets) g same next = by (is_due_act g.act) (is_tick g.act) refl refl
    where
      by : (due tick : Bool) → is_due_act g.act ≡ due → is_tick g.act ≡ tick → ⊥
      by false false h n = let plain = turn-untimed e.act (turn.0 empty) in none-shut e turn.1 false false plain.0 plain.1 g same h n next.follows
      by true tick h n = lets-none g same lets h next.follows
      by false true h n = stands-none g same lets n (next.chosen.tick n).2 next.follows
  halts-none (C.Halts.none has) g same next = nothing-left has g same next.follows
