-- Of threads that rest or wait: which steps such a thread makes, and that one that is woken or cut is parked.
use Rattle.std.proofs.Common.{◌≡◌, ℕ, zero, suc, ◌+◌, ◌<◌, Bool, true, false, List, [], ◌∷◌, Option, Some, None, refl, sym, ap, ◌∙◌, subst, arith}
use Rattle.std.specs.Prelude.{◌==◌, ◌||◌, not, is_some}
use Rattle.std.proofs.lemmas.Bool.{and_parts, eqb-true, false≢true, not-true, true≢false}
use Rattle.um_base.specs.declared.image.Image.{Image}
use Rattle.um_base.specs.declared.limits.TheConstants.{THREADS}
use Rattle.um_base.specs.declared.names.ThreadIx.{ThreadIx}
use Rattle.um_machine.specs.declared.pending.Pending.{Pending}
use Rattle.um_machine.specs.declared.thread.Thread.{Thread}
use Rattle.um_machine.specs.Order.{Steps}
use Rattle.um_machine.specs.Services.{is_empty}
use Rattle.um_machine.specs.State.{State, thread_at}
use Rattle.um_invariants.specs.InOrder.{Point}
use Rattle.um_fine.specs.Context.{Context}
use Rattle.um_fine.specs.Answers.{is_word_read}
use Rattle.um_fine.specs.Asks.{says_show}
use Rattle.um_fine.specs.Joins.{asleep_at}
use Rattle.um_fine.specs.Places.{Todo, Todos}
use Rattle.um_fine.specs.Scheduler.{Scheduler, parked_at, waits}
use Rattle.um_fine.specs.Steps.{FineStep}
use Rattle.um_refinement.specs.Fine.{Fine, joins, one_if, scheduler, total}
use Rattle.um_refinement.specs.Frames.{Behind}
use Rattle.um_refinement.specs.Lists.{adders, of_thread, runs, runs_thread}
use Rattle.um_refinement.specs.Offers as O
use Rattle.um_refinement.specs.Offers.{Fits, IsOffered, is_over}
use Rattle.um_refinement.specs.Threads as R
use Rattle.um_refinement.specs.Threads.{IsOf, IsRun, as_cut, places, runs_on}
use Rattle.um_refinement.proofs.AwayPart.{none-left}
use Rattle.um_refinement.proofs.Bounds.{AreBounded}
use Rattle.um_refinement.proofs.CallSteps.{Proper}
use Rattle.um_refinement.proofs.CallsProper.{AreProper}
use Rattle.um_refinement.proofs.CleanSteps.{adds-one}
use Rattle.um_refinement.proofs.Erased.{around}
use Rattle.um_refinement.proofs.Leaves.{Lawful}
use Rattle.um_refinement.proofs.ListWakes.{wakers}
use Rattle.um_refinement.proofs.Offered.{own-unless, runs-first}
use Rattle.um_refinement.proofs.ResumeSteps.{TellsWaiters}
use Rattle.um_refinement.proofs.SchedulerSteps.{made-says}
use Rattle.um_refinement.proofs.StepReads.{is-behind}
use Rattle.um_refinement.proofs.StepsLeft.{offered-on}
use Rattle.um_order.proofs.Standing.{ComeAlone, cutters}

-- the steps that a thread at rest makes
abbrev pub is_rest : Pending → Bool
is_rest Pending.Begin = true
is_rest Pending.Exit = true
is_rest q = false

-- an instruction has no such step
no-first : (image : Image) (checked : List Bool) (q : Pending) (rest : Steps) → is_rest q ≡ true → Proper image checked (q ∷ rest) → ⊥
no-first image checked Pending.Begin rest h p = p
no-first image checked Pending.Exit rest h p = p
no-first image checked q rest h p = false≢true h

no-second : (image : Image) (checked : List Bool) (who : ThreadIx) (q : Pending) (rest : Steps) → is_rest q ≡ true → Proper image checked (Pending.Inherit who ∷ q ∷ rest) → ⊥
no-second image checked who Pending.Begin rest h p = p.0
no-second image checked who Pending.Exit rest h p = p.0
no-second image checked who q rest h p = false≢true h

pub rest-offered : (image : Image) (checked : List Bool) (c : Context) {q : Pending} {rest : Steps} → IsOffered image c q rest → is_rest q ≡ true → Proper image checked c.pending → c.pending ≡ []
rest-offered image checked c (O.goes {q} {rest} e) h p = absurd (no-first image checked q rest h (subst (Proper image checked) e p))
rest-offered image checked c (O.passed {who} {q} {rest} e) h p = absurd (no-second image checked who q rest h (subst (Proper image checked) e p))
rest-offered image checked c (O.dropped {from} {q} {rest} e) h p = absurd (no-first image checked q rest h (subst (Proper image checked) e p))
rest-offered image checked c (O.begins e on i) h p = e
rest-offered image checked c (O.exits e on i) h p = e

awake-rest : (q : Pending) (rest : Steps) → is_rest q ≡ true → waits (q ∷ rest) ≡ false
awake-rest Pending.Resume rest h = absurd (false≢true h)
awake-rest q rest h = refl

-- and a thread that waits makes none
offered-awake : (image : Image) (c : Context) {q : Pending} {rest : Steps} → IsOffered image c q rest → is_rest q ≡ true → waits c.pending ≡ false
offered-awake image c (O.goes {q} {rest} e) h = ap waits e ∙ awake-rest q rest h
offered-awake image c (O.passed e) h = ap waits e
offered-awake image c (O.dropped e) h = ap waits e
offered-awake image c (O.begins e on i) h = ap waits e
offered-awake image c (O.exits e on i) h = ap waits e

pub waits-left : (steps : Steps) → waits steps ≡ true → is_empty steps ≡ false
waits-left [] h = absurd (false≢true h)
waits-left (q ∷ rest) h = refl

pub come-alone : (x y : Todos) → wakers x ≡ wakers y → cutters x ≡ cutters y → adders x ≡ adders y → ComeAlone y → ComeAlone x
come-alone x y w c a alone = (λ some. w ∙ alone.0 (ap is_empty (sym c) ∙ some), λ some. let none = alone.1 (ap is_empty (sym a) ∙ some) in (w ∙ none.0, c ∙ none.1))

-- where the machine's thread waits, its own part does, and wasn't cut
as-waits : (n : ℕ) (c : Context) → waits (as_cut n c).pending ≡ true → waits c.pending ≡ true
as-waits zero c h = h
as-waits (suc n) c h = absurd (false≢true h)

pub own-waits : {f : Fine} {m : State} {c : Context} → IsOf f m c → waits (thread_at m c.thread).pending ≡ true → waits c.pending ≡ true
own-waits {f} {m} {c} of waiting = as-waits (R.cutters f c.thread) c (ap (λ (th : Thread). waits th.pending) of.own ∙ waiting)

-- a call that is over has no step left
pub over-rests : (c : Context) → is_over c ≡ true → c.pending ≡ []
over-rests c over = none-left c.pending (and_parts c.ended (is_empty c.pending) over).1

pub or-later : (a b : Bool) → (a || b) ≡ false → b ≡ false
or-later true b h = absurd (true≢false h)
or-later false b h = h

pub one-part : (g : ℕ → ℕ) (n : ℕ) → n ≡ 1 → total g n ≡ g 0
one-part g n h = subst (λ k. total g k ≡ g 0) (sym h) (omega arith)

module _ (f : Fine) (at : Point) (e : FineStep) (law : Lawful f at.state e) (one : f.cpus ≡ 1) (tells : TellsWaiters at.state) (proper : AreProper at.state.image at.state) (bounds : AreBounded f) where
  open around f e use {later, processor as p, now}

  abbrev s : Scheduler
  s = scheduler f

  abbrev t : ℕ
  t = p.context.thread

  frame : (q : Todo) (todo : Todos) → p.todo ≡ q ∷ todo → Behind f.image q todo
  frame = (is-behind f at.state e law).frame

  fits-at : (todo : Todos) → p.todo ≡ todo → Fits f.image p.context todo
  fits-at todo h = subst (Fits f.image p.context) h (law.rel.processors e.cpu law.by.named).list.fits

  -- where a step only reads the word of its thread, the thread is at rest
  pub read-rests : (q : Pending) (rest : Steps) (todo : Todos) → p.todo ≡ Todo.show q rest ∷ todo → is_word_read e.act ≡ true → p.context.pending ≡ []
  read-rests q rest todo list read = rest-offered f.image (thread_at at.state t).checked p.context fits rests steps
    where
      fits : IsOffered f.image p.context q rest
      fits = (fits-at (Todo.show q rest ∷ todo) list).0

      is : (q : Pending) → e.act ≡ says_show f.image p q e.act → is_rest q ≡ true
      is Pending.Begin said = refl
      is Pending.Exit said = refl
      is q said = absurd (true≢false (sym read ∙ ap is_word_read said))

      over : is_rest q ≡ true → (b : Bool) → is_over p.context ≡ b → Proper f.image (thread_at at.state t).checked p.context.pending
      over rests true o = subst (Proper f.image (thread_at at.state t).checked) (sym (over-rests p.context o)) (absurd (true≢false (sym o ∙ offered-on f.image p.context q rest fits)))
      over rests false o =
          let of = (law.rel.contexts.running e.cpu law.by.named (runs-first law.rel law.by.named (Todo.show q rest) todo list (λ hand. hand))).of o in
          let own = own-unless of (offered-awake f.image p.context fits rests) in
          subst (λ (i : Image). Proper i (thread_at at.state t).checked p.context.pending) law.rel.image
          (subst (Proper at.state.image (thread_at at.state t).checked) (sym (ap (λ (z : Thread). z.pending) own)) (proper t).0)

      rests : is_rest q ≡ true
      rests = is q (made-says f at.state e law (Todo.show q rest ∷ todo) list)

      steps : Proper f.image (thread_at at.state t).checked p.context.pending
      steps = over rests (is_over p.context) refl

  -- Who is woken or cut is parked.

  first : e.cpu ≡ 0
  first = let l = law.by.named in omega (arith, l, one)

  abbrev part : ℕ → ℕ → ℕ
  part who k = one_if (runs_on who (f.processors k)) + of_thread who (adders (f.processors k).todo)

  -- one that has a step left, and lies neither with the processor nor asleep
  pub lies-parked : (who : ℕ) → who < THREADS → (is_empty (thread_at at.state who).pending ≡ false) → runs_on who p ≡ false → of_thread who (adders p.todo) ≡ 0 → is_some (asleep_at (joins f) who) ≡ false
      → is_some (parked_at s who) ≡ true
  lies-parked who few left not-mine not-new awake = by (is_some (parked_at s who)) refl
    where
      all : places f who ≡ part who e.cpu + one_if (is_some (parked_at s who)) + one_if (is_some (asleep_at (joins f) who))
      all =
          let whole : places f who ≡ total (part who) f.cpus + one_if (is_some (parked_at s who)) + one_if (is_some (asleep_at (joins f) who)) = refl in
          let sum = one-part (part who) f.cpus one ∙ ap (part who) (sym first) in
          whole ∙ ap (λ n. n + one_if (is_some (parked_at s who)) + one_if (is_some (asleep_at (joins f) who))) sum

      by : (b : Bool) → is_some (parked_at s who) ≡ b → b ≡ true
      by true h = refl
      by false h =
          let mine = ap one_if not-mine in
          let new = not-new in
          let rests = ap one_if h in
          let sleepless = ap one_if awake in
          let none = (law.rel.threads who few).away.away (omega (arith, all, mine, new, rests, sleepless)) in
          absurd (true≢false (ap is_empty (sym none.1) ∙ left))

  -- of whom an own part at rest would be, lies elsewhere
  pub not-added : (who : ℕ) → ((c : Context) → c.thread ≡ who → IsOf f at.state c → c.pending ≡ [] → ⊥) → of_thread who (adders p.todo) ≡ 0
  not-added who none = which (of_thread who (adders p.todo)) refl
    where
      which : (n : ℕ) → of_thread who (adders p.todo) ≡ n → n ≡ 0
      which zero h = refl
      which (suc n) h =
          let d = adds-one who p.todo (omega (arith, h)) in
          let added = law.rel.contexts.added e.cpu d.0 law.by.named d.1 in
          absurd (none d.0 d.2 added.0 added.2)

  pub not-asleep : (who : ℕ) → ((c : Context) → c.thread ≡ who → IsOf f at.state c → c.pending ≡ [] → ⊥) → is_some (asleep_at (joins f) who) ≡ false
  not-asleep who none = which (asleep_at (joins f) who) refl
    where
      which : (o : Option Context) → asleep_at (joins f) who ≡ o → is_some o ≡ false
      which None h = refl
      which (Some c) h = let there = law.rel.contexts.asleep who c h in absurd (none c there.1 there.0 there.3)

  pub not-run : (who : ℕ) → (is_over p.context ≡ false → t ≡ who → IsOf f at.state p.context → ⊥) → runs_on who p ≡ false
  not-run who none = which (runs_on who p) refl
    where
      which : (b : Bool) → runs_on who p ≡ b → b ≡ false
      which false h = refl
      which true h =
          let parts = and_parts (runs_thread who p) (not (is_over p.context)) h in
          let is = and_parts (runs p) (t == who) parts.0 in
          let on = not-true (is_over p.context) parts.1 in
          absurd (none on (eqb-true t who is.1) ((law.rel.contexts.running e.cpu law.by.named is.0).of on))
