-- A step that the scheduler's cell takes is made there and leaves its contents. One that it doesn't take isn't made.
use Rattle.std.proofs.Common.{◌≡◌, ◌<◌, ℕ, ◌+◌, Bool, true, false, List, [], ◌∷◌, Option, Some, None, IsTrue, ap, refl, ◌∙◌, nat_lt, unwrap_or, ◌&&◌}
use Rattle.std.proofs.lemmas.Bool.{lt-ltb}
use Rattle.um_base.specs.declared.act.Event.{Event}
use Rattle.um_base.specs.declared.ask.Told.{Told}
use Rattle.um_base.specs.declared.image.Image.{Image}
use Rattle.um_base.specs.declared.names.ThreadIx.{ThreadIx}
use Rattle.um_words.specs.declared.fine.FineAct.{FineAct}
use Rattle.um_words.specs.declared.fine.Unseen.{Unseen}
use Rattle.um_fine.specs.Cells.{Cell}
use Rattle.um_fine.specs.Context.{Context, no_context}
use Rattle.um_fine.specs.Scheduler.{Scheduler, first_ready, first_taken, has_ready, is_cut, parked_at, sched_after, sched_moves, sched_says, sched_takes, takes_turn, to_kill, told_at, turn_in}
use Rattle.um_fine.specs.Sites.{SiteState}
use Rattle.um_fine.specs.Steps.{Exchange, Site}
use Rattle.um_fine.proofs.Filled.{filled-twice}
use Rattle.um_tables.specs.Asked.{asked, event_of}
use Rattle.um_tables.specs.SchedulerActs.{scheduler_made}
use Rattle.um_tables.specs.Sited.{IsShut, Sited, WasMade, logged, state_at}
use Rattle.um_tables.proofs.Tabled.{refused, taken}

pub scheduler-taken : (image : Image) (old p : Sited) → p ≡ old → (cpu : ℕ) (z : Scheduler) (u : Unseen) (moved : Exchange) → p.scheduler_steps < 268435455
    → IsTrue (sched_takes p.scheduler (sched_says p.scheduler moved (FineAct.Unseen u)))
    → z ≡ sched_after p.scheduler (sched_says p.scheduler moved (FineAct.Unseen u)) (sched_moves p.scheduler (FineAct.Unseen u) moved)
    → (log : List Event) (most : ℕ) → log ≡ logged p.log (event_of (sched_says p.scheduler moved (FineAct.Unseen u))) → most ≡ p.most
    → WasMade image old (scheduler_made image cpu p.scheduler_steps p.scheduler u moved)
    (record p { scheduler = z; scheduler_steps = p.scheduler_steps + 1; log = log; most = most })
scheduler-taken image old p v cpu z u moved room takes leaves log most l m =
    let n = p.scheduler_steps in
    let s = SiteState.cell n (Cell.scheduler p.scheduler) in
    taken image old p v (scheduler_made image cpu n p.scheduler u moved) s (SiteState.cell (n + 1) (Cell.scheduler z)) refl
    (record {
      may = record {
        takes = ap (λ (b : Bool). b && sched_takes p.scheduler (sched_says p.scheduler moved (FineAct.Unseen u))) (lt-ltb n 268435455 room) ∙ takes;
        filled_in = filled-twice image s (asked cpu Site.scheduler (FineAct.Unseen u) moved);
      };
      leaves = ap (λ (t : Scheduler). SiteState.cell (n + 1) (Cell.scheduler t)) leaves;
    })
    log most l m

and-no : (b : Bool) → (b && false) ≡ false
and-no true = refl
and-no false = refl

pub scheduler-refused : (image : Image) (old p : Sited) → p ≡ old → (cpu : ℕ) (u : Unseen) (moved : Exchange)
    → sched_takes p.scheduler (sched_says p.scheduler moved (FineAct.Unseen u)) ≡ false
    → IsShut image (state_at old Site.scheduler) (scheduler_made image cpu p.scheduler_steps p.scheduler u moved)
scheduler-refused image old p v cpu u moved denied =
    let n = p.scheduler_steps in
    refused image old p v (scheduler_made image cpu n p.scheduler u moved) (SiteState.cell n (Cell.scheduler p.scheduler)) refl
    (ap (λ (b : Bool). nat_lt n 268435455 && b) denied ∙ and-no (nat_lt n 268435455))
    (filled-twice image (SiteState.cell n (Cell.scheduler p.scheduler)) (asked cpu Site.scheduler (FineAct.Unseen u) moved))
    tt

pub scheduler-ends : (image : Image) (old p : Sited) → p ≡ old → (cpu : ℕ) (u : Unseen) (moved : Exchange) → nat_lt p.scheduler_steps 268435455 ≡ false
    → IsShut image (state_at old Site.scheduler) (scheduler_made image cpu p.scheduler_steps p.scheduler u moved)
scheduler-ends image old p v cpu u moved denied =
    let n = p.scheduler_steps in
    refused image old p v (scheduler_made image cpu n p.scheduler u moved) (SiteState.cell n (Cell.scheduler p.scheduler)) refl
    (ap (λ (b : Bool). b && sched_takes p.scheduler (sched_says p.scheduler moved (FineAct.Unseen u))) denied)
    (filled-twice image (SiteState.cell n (Cell.scheduler p.scheduler)) (asked cpu Site.scheduler (FineAct.Unseen u) moved))
    tt

-- a thread that was woken is taken where another one would be
turn-takes : (s : Scheduler) (c : Context) (told : Option Told) → sched_takes s (takes_turn c told) ≡ has_ready s s.ready
turn-takes s c None = refl
turn-takes s c (Some told) = refl

first-takes : (s : Scheduler) (who : ThreadIx) (ready : List ℕ) → sched_takes s (turn_in (FineAct.Unseen (Unseen.Next who)) (first_ready s ready)) ≡ has_ready s s.ready
first-takes s who [] = refl
first-takes s who (t ∷ ready) = turn-takes s (to_kill (is_cut s t) (unwrap_or (parked_at s t) no_context)) (told_at s t)

pub next-takes : (s : Scheduler) (who : ThreadIx) → sched_takes s (sched_says s Exchange.nothing (FineAct.Unseen (Unseen.Next who))) ≡ has_ready s s.ready
next-takes s who = first-takes s who s.ready

turn-after : (s : Scheduler) (c : Context) (told : Option Told) (moved : Exchange) → sched_after s (takes_turn c told) moved ≡ first_taken s s.ready
turn-after s c None moved = refl
turn-after s c (Some told) moved = refl

first-after : (s : Scheduler) (who : ThreadIx) (ready : List ℕ) (moved : Exchange) → sched_after s (turn_in (FineAct.Unseen (Unseen.Next who)) (first_ready s ready)) moved ≡ first_taken s s.ready
first-after s who [] moved = refl
first-after s who (t ∷ ready) moved = turn-after s (to_kill (is_cut s t) (unwrap_or (parked_at s t) no_context)) (told_at s t) moved

pub next-after : (s : Scheduler) (who : ThreadIx) (moved : Exchange) → sched_after s (sched_says s Exchange.nothing (FineAct.Unseen (Unseen.Next who))) moved ≡ first_taken s s.ready
next-after s who moved = first-after s who s.ready moved

-- contents that are as before leave all as before
pub kept : (old p : Sited) → p ≡ old → (t : Scheduler) → t ≡ p.scheduler → record p { scheduler = t } ≡ old
kept old p v t same = ap (λ (u : Scheduler). record p { scheduler = u }) same ∙ v
