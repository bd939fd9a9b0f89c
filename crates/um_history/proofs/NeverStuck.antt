-- A processor of a fine run always has a step that it could ask for: its site and the threads that it names exist, and there is room for
-- its event.
use Rattle.std.proofs.Common.{◌≡◌, ℕ, ◌<◌, ◌≤◌, Bool, false, true, List, [], ◌∷◌, ⊎_elim, length, refl, sym, ap, ◌∙◌, subst, arith}
use Rattle.std.specs.Prelude.{is_some}
use Rattle.std.specs.List.{list_all}
use Rattle.std.proofs.lemmas.Bool.{and_parts, le-leb, lt-ltb, true≢false}
use Rattle.um_base.specs.declared.image.Image.{Image}
use Rattle.um_machine.specs.declared.pending.Pending.{Pending}
use Rattle.um_machine.specs.declared.thread.Thread.{Thread}
use Rattle.um_machine.specs.Order.{Steps}
use Rattle.um_machine.specs.State.{State, instruction_at, thread_at}
use Rattle.um_invariants.specs.Described.{IsDescribed}
use Rattle.um_words.specs.declared.fine.FineAct.{FineAct}
use Rattle.um_words.specs.declared.fine.Unseen.{Unseen}
use Rattle.um_fine.specs.Asks.{has_room}
use Rattle.um_fine.specs.Context.{Context}
use Rattle.um_fine.specs.FineRun.{IsFineRun}
use Rattle.um_fine.specs.Places.{Todo, Todos}
use Rattle.um_fine.specs.Processor.{Processor}
use Rattle.um_fine.specs.Steps.{FineStep}
use Rattle.um_refinement.specs.After.{left_by}
use Rattle.um_refinement.specs.Fine.{Fine}
use Rattle.um_refinement.specs.Offers as O
use Rattle.um_refinement.specs.Offers.{Fits, IsOffered}
use Rattle.um_refinement.specs.Room.{CanRun}
use Rattle.um_refinement.specs.Threads.{IsOf, as_cut}
use Rattle.um_words.specs.Context.{as_thread}
use Rattle.um_fine.specs.Scheduler.{waits}
use Rattle.um_refinement.proofs.Offered.{not-cut}
use Rattle.um_refinement.proofs.CallBounds.{Bounded}
use Rattle.um_refinement.proofs.ListSingles.{is_single, shows_single}
use Rattle.um_refinement.proofs.StepsLeft.{offered-on}
use Rattle.um_refinement.proofs.CallSteps.{Proper}
use Rattle.um_processor.specs.Processors.{IsStuck, fits_next, full, is_event, no_event, no_look, no_room, no_site, no_thread, shows_event}
use Rattle.um_processor.specs.declared.cleaning.TheConstants.{MOST}
use Rattle.um_core.specs.PickedRun.{processor_after}
use Rattle.um_core.proofs.LeftKnown.{IsLeft, left-known}
use Rattle.um_core.proofs.Refusals as R
use Rattle.um_core.proofs.SitesThere.{run-at}

module _ (f : Fine) (m : State) (is : IsLeft f m) (k : ℕ) (l : k < f.cpus) where
  abbrev p : Processor
  p = f.processors k

  abbrev c : Context
  c = p.context

  offered : (q : Pending) (rest : Steps) (todo : Todos) → p.todo ≡ Todo.show q rest ∷ todo → IsOffered f.image c q rest
  offered q rest todo at = (subst (Fits f.image c) at (is.rel.processors k l).list.fits).0

  bounded : (q : Pending) (rest : Steps) (todo : Todos) → p.todo ≡ Todo.show q rest ∷ todo → Bounded f.image (length c.claims) c.pending
  bounded q rest todo at = (is.bounds.running k l (run-at f m is k l (Todo.show q rest) todo at (λ hand. hand))).steps

  -- A call that checks holds one object at most, a load is of four bytes at most, and a line that begins stands.

  module _ (h : Bounded f.image (length c.claims) c.pending) where
    check-room : (a : _) (kind : _) (want : _) (refusal : _) (rest : Steps) → IsOffered f.image c (Pending.Check a kind want refusal) rest → length c.claims < 2
    check-room a kind want refusal rest (O.goes e) = (subst (Bounded f.image (length c.claims)) e h).0
    check-room a kind want refusal rest (O.passed {who} e) = (subst (Bounded f.image (length c.claims)) e h).0
    check-room a kind want refusal rest (O.dropped {from} e) = (subst (Bounded f.image (length c.claims)) e h).0

    load-room : (to : _) (a : _) (n : ℕ) (rest : Steps) → IsOffered f.image c (Pending.Load to a n) rest → n ≤ 4
    load-room to a n rest (O.goes e) = (subst (Bounded f.image (length c.claims)) e h).0
    load-room to a n rest (O.passed {who} e) = (subst (Bounded f.image (length c.claims)) e h).0
    load-room to a n rest (O.dropped {from} e) = (subst (Bounded f.image (length c.claims)) e h).0

    begin-room : (rest : Steps) → IsOffered f.image c Pending.Begin rest → is_some (instruction_at f.image c.place) ≡ true
    begin-room rest (O.goes e) = absurd (subst (Bounded f.image (length c.claims)) e h)
    begin-room rest (O.passed {who} e) = absurd (subst (Bounded f.image (length c.claims)) e h)
    begin-room rest (O.dropped {from} e) = absurd (subst (Bounded f.image (length c.claims)) e h)
    begin-room _ (O.begins e on i) = i

    has-room : (q : Pending) (rest : Steps) → IsOffered f.image c q rest → has_room f.image p q ≡ true
    has-room (Pending.Check a kind want refusal) rest o = lt-ltb (length c.claims) 2 (check-room a kind want refusal rest o)
    has-room (Pending.Load to a n) rest o = le-leb n 4 (load-room to a n rest o)
    has-room Pending.Begin rest o = begin-room rest o
    has-room q rest o = refl

  fits-left : (todo : Todos) → p.todo ≡ todo → fits_next f.image p todo ≡ true
  fits-left (Todo.show q rest ∷ todo) at = has-room (bounded q rest todo at) q rest (offered q rest todo at)
  fits-left todo at = refl

  pub fits-here : fits_next f.image p p.todo ≡ true
  fits-here = fits-left p.todo refl

  -- Nobody is offered a step of its own that tends to others, or tells who joins it; turns, inheritances and ends are made as visits.

  is-of : (q : Pending) (rest : Steps) (todo : Todos) → p.todo ≡ Todo.show q rest ∷ todo → IsOf f m c
  is-of q rest todo at = (is.rel.contexts.running k l (run-at f m is k l (Todo.show q rest) todo at (λ hand. hand))).of (offered-on f.image c q rest (offered q rest todo at))

  -- of one that waits the machine may have left only that it is killed
  proper-at : IsOf f m c → (steps : Steps) → c.pending ≡ steps → waits steps ≡ false → Proper m.image (thread_at m c.thread).checked steps
  proper-at of steps e awake =
      let left : (thread_at m c.thread).pending ≡ steps = sym (ap (λ (z : Thread). z.pending) of.own) ∙ (ap (λ n. (as_thread (as_cut n c)).pending) (not-cut of (ap waits e ∙ awake)) ∙ e) in
      subst (Proper m.image (thread_at m c.thread).checked) left (is.proper c.thread).0

  never : (q : Pending) (rest : Steps) → is_event q ≡ false → waits (q ∷ rest) ≡ false → ((checked : List Bool) → Proper m.image checked (q ∷ rest) → ⊥) → IsOf f m c → IsOffered f.image c q rest → ⊥
  never q rest off awake none of (O.goes e) = none (thread_at m c.thread).checked (proper-at of (q ∷ rest) e awake)
  never q rest off awake none of (O.passed {who} e) = none (thread_at m c.thread).checked (proper-at of (Pending.Inherit who ∷ q ∷ rest) e refl).1
  never q rest off awake none of (O.dropped {from} e) = none (thread_at m c.thread).checked (proper-at of (Pending.Drops from ∷ q ∷ rest) e refl)
  never _ _ off awake none of (O.begins e on i) = absurd (true≢false off)
  never _ _ off awake none of (O.exits e on i) = absurd (true≢false off)

  single : (q : Pending) (rest : Steps) (todo : Todos) → p.todo ≡ Todo.show q rest ∷ todo → is_single q ≡ true
  single q rest todo at = (and_parts (is_single q) _ (sym (ap (list_all shows_single) at) ∙ is.bounds.single k l)).0

  event : (q : Pending) (rest : Steps) (todo : Todos) → p.todo ≡ Todo.show q rest ∷ todo → is_event q ≡ true
  event Pending.Resume rest todo at = single Pending.Resume rest todo at
  event (Pending.Inherit who) rest todo at = single (Pending.Inherit who) rest todo at
  event (Pending.Drops from) rest todo at = single (Pending.Drops from) rest todo at
  event (Pending.CleanPair who) rest todo at = absurd (never (Pending.CleanPair who) rest refl refl (λ checked h. h) (is-of (Pending.CleanPair who) rest todo at) (offered (Pending.CleanPair who) rest todo at))
  event Pending.Recycle rest todo at = absurd (never Pending.Recycle rest refl refl (λ checked h. h) (is-of Pending.Recycle rest todo at) (offered Pending.Recycle rest todo at))
  event Pending.Left rest todo at = absurd (never Pending.Left rest refl refl (λ checked h. h) (is-of Pending.Left rest todo at) (offered Pending.Left rest todo at))
  event Pending.Tick rest todo at = absurd (never Pending.Tick rest refl refl (λ checked h. h) (is-of Pending.Tick rest todo at) (offered Pending.Tick rest todo at))
  event (Pending.TimeOut who) rest todo at = absurd (never (Pending.TimeOut who) rest refl refl (λ checked h. h) (is-of (Pending.TimeOut who) rest todo at) (offered (Pending.TimeOut who) rest todo at))
  event Pending.Expire rest todo at = absurd (never Pending.Expire rest refl refl (λ checked h. h) (is-of Pending.Expire rest todo at) (offered Pending.Expire rest todo at))
  event (Pending.Cut who) rest todo at = absurd (never (Pending.Cut who) rest refl refl (λ checked h. h) (is-of (Pending.Cut who) rest todo at) (offered (Pending.Cut who) rest todo at))
  event q rest todo at = refl

  event-left : (todo : Todos) → p.todo ≡ todo → shows_event todo ≡ true
  event-left (Todo.show q rest ∷ todo) at = event q rest todo at
  event-left todo at = refl

  pub event-here : shows_event p.todo ≡ true
  event-here = event-left p.todo refl

module _ (image : Image) (cpus : ℕ) (described : IsDescribed image) (can : CanRun image cpus) (done : List FineStep) (run : IsFineRun image cpus done) (k : ℕ) (l : k < cpus) where
  abbrev after : Processor
  after = processor_after image done k

  -- at the opening it has no thread
  by-left : (Q : Processor → Type 0) → Q (processor_after image [] k) → ((m : State) → IsLeft (left_by image cpus done) m → Q after) → Q after
  by-left Q first more = ⊎_elim (λ none. subst (λ d. Q (processor_after image d k)) (sym none) first) (λ r. more r.0 r.1) (left-known image cpus described can done run)

  fits-after : fits_next image after after.todo ≡ true
  fits-after = by-left (λ q. fits_next image q q.todo ≡ true) refl (λ m is. fits-here (left_by image cpus done) m is k l)

  event-after : shows_event after.todo ≡ true
  event-after = by-left (λ q. shows_event q.todo ≡ true) refl (λ m is. event-here (left_by image cpus done) m is k l)

  pub never-stuck : IsStuck image after → ⊥
  never-stuck (no_room none) = true≢false (sym fits-after ∙ none)
  never-stuck (no_event none) = true≢false (sym event-after ∙ none)
  never-stuck (no_site none) = R.no-site image cpus described can done run k l (FineAct.Unseen Unseen.Done) none
  never-stuck (no_look none) = R.no-look image cpus described can done run k l none
  never-stuck (no_thread none) = R.no-thread image cpus described can done run k l none
  never-stuck (full many) = R.not-full image cpus described can done run k l MOST (omega arith) many
