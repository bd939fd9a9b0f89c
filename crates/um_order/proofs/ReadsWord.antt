-- A processor is to read its thread's word once more only where that thread waits.
use Rattle.std.specs.List.{list_any}
use Rattle.std.specs.Prelude.{if◌then◌else◌, is_some}
use Rattle.std.proofs.Common.{◌≡◌, ℕ, Bool, true, false, [], ◌∷◌, ◌++◌, Option, Some, None, refl, sym, ap, ◌∙◌, subst}
use Rattle.std.proofs.lemmas.Bool.{false≢true, true≢false}
use Rattle.um_base.specs.Places.{thread_of_row}
use Rattle.um_base.specs.declared.act.Act.{Act}
use Rattle.um_base.specs.declared.act.Answer.{Answer}
use Rattle.um_base.specs.declared.image.Image.{Image}
use Rattle.um_machine.specs.Goes.{work_way, asked_way, Next, work_change}
use Rattle.um_machine.specs.Order.{Steps}
use Rattle.um_machine.specs.State.{State}
use Rattle.um_machine.specs.declared.pending.Pending.{Pending}
use Rattle.um_fine.specs.Answers.{is_word_read, thread_in, domain_in, act_in, answer_in}
use Rattle.um_fine.specs.Asks.{begins_cleaning}
use Rattle.um_fine.specs.Context.{Context, as_thread}
use Rattle.um_fine.specs.Continues.{continues, came_in, gone_part}
use Rattle.um_fine.specs.Follows.{goes_on_by, after_claim, after_show, shown_step, behind_step, filled_up, waits_behind, rereads, with_cleaned, row_number}
use Rattle.um_fine.specs.Places.{Todo, Todos, put_away, noted_cell, next_steps, fine_steps, end_of_turn, cleaning_of, is_cleaning_todo, settling, armed_for}
use Rattle.um_fine.specs.Processor.{Processor}
use Rattle.um_fine.specs.Scheduler.{waits}
use Rattle.um_fine.specs.Steps.{Exchange, FineStep}
use Rattle.um_refinement.specs.Fine.{Fine}
use Rattle.um_refinement.specs.Frames.{AreFramed}
use Rattle.um_refinement.specs.Lists.{names_row}
use Rattle.um_refinement.specs.Offers.{behind_shown, Fits}
use Rattle.um_refinement.specs.Relation.{ProcessorIs}
use Rattle.um_refinement.proofs.Erased.{around}
use Rattle.um_refinement.proofs.Leaves.{Lawful}
use Rattle.um_refinement.proofs.ListGrips.{next-context}
use Rattle.um_refinement.proofs.ListGrowth.{behind-kept, cleaning-kept, ends-always, filled-kept, forms-kept, is_errand, looks-kept, next-kept, quiet-kept, take-kept, turn-kept, visits_row}
use Rattle.um_order.proofs.ListShapes.{acted-list}
use Rattle.um_order.proofs.Standing.{is_show}

abbrev pub is_reading : Todo → Bool
is_reading (Todo.reread site) = true
is_reading q = false

abbrev pub NoReading : Todos → Type 0
NoReading todo = list_any is_reading todo ≡ false

abbrev pub ReadsWaiting : Processor → Type 0
ReadsWaiting p = waits p.context.pending ≡ false → NoReading p.todo

module _ (image : Image) where
  abbrev Awake : Context → Type 0
  Awake c = waits c.pending ≡ false

  away-no-reading : (doomed : Bool) → NoReading (put_away doomed)
  away-no-reading true = refl
  away-no-reading false = refl

  visit-put : (q : Todo) (todo : Todos) → visits_row q ≡ true → names_row q ≡ true → NoReading todo → NoReading (q ∷ todo)
  visit-put (Todo.reread site) todo visit few h = absurd (false≢true visit)
  visit-put q todo visit few h = h

  errand-put : (q : Todo) (todo : Todos) → is_errand q ≡ true → NoReading todo → NoReading (q ∷ todo)
  errand-put (Todo.reread site) todo errand h = absurd (false≢true errand)
  errand-put q todo errand h = h

  fine-no-reading : (c : Context) (q : Pending) (rest : Steps) → NoReading (fine_steps image c q rest)
  fine-no-reading = forms-kept image NoReading
      (record {
        note = λ site todo h. h;
        act = λ q rest. refl;
        settles = λ q rest deadline mark. refl;
        access = λ q rest. refl;
        access_settles = λ q rest deadline mark. refl;
        look = λ x todo h. h;
        owe = λ q rest. refl;
        leave = λ a rest. refl;
        edit = λ d q rest. refl;
        move = λ d who rest. refl;
        start = λ who q rest c. refl;
      })

  expands : (c : Context) → Awake c → NoReading [] → NoReading (next_steps image c c.pending)
  expands c of h = next-kept image NoReading visit-put fine-no-reading (λ b. elim b as (λ b. NoReading (end_of_turn image b)) [ true ↦ refl | false ↦ refl ]) c c.pending

  cleaned-no-reading : (p : Processor) (e : FineStep) (b : Bool) → NoReading p.todo → NoReading (with_cleaned image p e b).todo
  cleaned-no-reading p e true h = cleaning-kept image (λ old new. NoReading old → NoReading new) (row_number e.site) first later p.todo h
    where
      first : (o : Option ℕ) (todo : Todos) → thread_of_row image (row_number e.site) ≡ o → NoReading todo → NoReading (cleaning_of (row_number e.site) o ++ todo)
      first None todo at h = h
      first (Some who) todo at h = h

      later : (q : Todo) (old new : Todos) → is_cleaning_todo q ≡ true → (NoReading old → NoReading new) → NoReading (q ∷ old) → NoReading (q ∷ new)
      later (Todo.reread site) old new c more h = absurd (false≢true c)
      later q old new c more h = more h
  cleaned-no-reading p e false h = h

  -- behind an act that is to wait its thread does
  waits-then : (c : Context) (q : Pending) (rest : Steps) (act : Act) (moved : Exchange) (site : ℕ) → noted_cell image (q ∷ []) ≡ Some site → answer_in act ≡ Answer.Wait → waits (continues image c 0 q rest act moved).pending ≡ true
  waits-then c (Pending.Work a ask) rest act moved site noted wait =
      subst (λ answer. waits (gone_part image rest (Next.on (work_change answer (came_in (Pending.Work a ask) moved)) (work_way (as_thread c).mode ask answer)) c).pending ≡ true) (sym wait) refl
  waits-then c (Pending.Join who timeout) rest act moved site noted wait =
      subst (λ answer. waits (gone_part image rest (Next.on (work_change answer []) (asked_way answer)) c).pending ≡ true) (sym wait) refl
  waits-then c (Pending.FutexWait a value timeout) rest act moved site noted wait =
      subst (λ answer. waits (gone_part image rest (Next.on (work_change answer []) (asked_way answer)) c).pending ≡ true) (sym wait) refl
  waits-then c q rest act moved site noted wait = absurd (false≢true (ap is_some noted))

  goes-no-reading : (p : Processor) (e : FineStep) (q : Todo) (todo : Todos) → is_show q ≡ false → Awake (goes_on_by image p e (q ∷ todo)).context → NoReading todo
      → NoReading (goes_on_by image p e (q ∷ todo)).todo
  goes-no-reading p e (Todo.show r rest) todo quiet of h = absurd (true≢false quiet)
  goes-no-reading p e q todo quiet of h =
      quiet-kept image NoReading Awake expands p errand-put visit-put (λ who x z few k. k) (λ z k. k) (λ d z k. k) e q todo refl of (ends-always NoReading refl away-no-reading (λ c z k. k) e q) h

  event-no-reading : (p : Processor) (e : FineStep) (q : Pending) (rest : Steps) (todo : Todos) → Awake (goes_on_by image p e (Todo.show q rest ∷ todo)).context → NoReading todo
      → NoReading (goes_on_by image p e (Todo.show q rest ∷ todo)).todo
  event-no-reading p e q rest todo of h = by (is_word_read e.act) of
    where
      made : Pending
      made = shown_step image q e.act

      c : Context
      c = continues image p.context 0 made rest (act_in e.act) e.moved

      there : Awake c → (answer : Answer) → answer_in (act_in e.act) ≡ answer → (site : Option ℕ) → noted_cell image (made ∷ []) ≡ site → NoReading (rereads image answer site todo)
      there awake Answer.Wait wait (Some site) noted = absurd (true≢false (sym (waits-then p.context made rest (act_in e.act) e.moved site noted wait) ∙ awake))
      there awake Answer.Wait wait None noted = h
      there awake (Answer.Now reply) now site noted = h

      by : (b : Bool) → Awake (if b then record p { todo = put_away (thread_in e.word).doomed } else after_show image p e made rest todo).context
          → NoReading (if b then record p { todo = put_away (thread_in e.word).doomed } else after_show image p e made rest todo).todo
      by true awake = away-no-reading (thread_in e.word).doomed
      by false awake =
          let filled = filled-kept image NoReading Awake expands p c awake (waits_behind image made e todo) (there awake (answer_in (act_in e.act)) refl (noted_cell image (made ∷ [])) refl) in
          looks-kept image NoReading errand-put (λ x z k. k) p.context made e (behind_step image p.context made e.moved (filled_up image c (waits_behind image made e todo)))
          (behind-kept image NoReading errand-put (λ x z k. k) p.context made e.moved (filled_up image c (waits_behind image made e todo)) filled)

  taken-no-reading : (p : Processor) (e : FineStep) → p.todo ≡ [] → Awake (goes_on_by image p e []).context → NoReading (goes_on_by image p e []).todo
  taken-no-reading p e idle of =
      take-kept image NoReading Awake expands p (turn-kept image NoReading refl refl) (λ deadline mark. refl) e.moved of refl (ap (list_any is_reading) idle)

  -- what stands behind an event reads no word
  settling-no-reading : (c : Context) (until : Option ℕ) (q : Pending) → NoReading (settling image c until q)
  settling-no-reading c None q = refl
  settling-no-reading c (Some deadline) q = refl

  shown-no-reading : (c : Context) (q : Pending) → NoReading (behind_shown image c q)
  shown-no-reading c (Pending.Work a ask) = settling-no-reading c (armed_for image c (Pending.Work a ask)) (Pending.Work a ask)
  shown-no-reading c (Pending.Join who timeout) = settling-no-reading c (armed_for image c (Pending.Join who timeout)) (Pending.Join who timeout)
  shown-no-reading c (Pending.FutexWait a value timeout) = settling-no-reading c (armed_for image c (Pending.FutexWait a value timeout)) (Pending.FutexWait a value timeout)
  shown-no-reading c q = refl

  -- what stands behind a step, where its thread doesn't wait then
  tail-no-reading : (p : Processor) (e : FineStep) (q : Todo) (todo : Todos) → Fits image p.context (q ∷ todo) → AreFramed image (q ∷ todo) → (waits p.context.pending ≡ false → NoReading (q ∷ todo))
      → Awake (goes_on_by image p e (q ∷ todo)).context → NoReading todo
  tail-no-reading p e (Todo.show q rest) todo fits frames was of = subst NoReading (sym fits.1) (shown-no-reading p.context q)
  tail-no-reading p e (Todo.pass who x) todo fits frames was of = subst NoReading (sym fits.0.behind) (fine-no-reading p.context fits.0.step fits.0.rest)
  tail-no-reading p e (Todo.drop x) todo fits frames was of = subst NoReading (sym fits.behind) (fine-no-reading p.context fits.step fits.rest)
  tail-no-reading p e Todo.park todo fits frames was of = subst NoReading (sym frames.0) refl
  tail-no-reading p e Todo.done todo fits frames was of = subst NoReading (sym frames.0) refl
  tail-no-reading p e Todo.sleep todo fits frames was of = subst NoReading (sym frames.0) refl
  tail-no-reading p e (Todo.reread site) todo fits frames was of = subst NoReading (sym frames.0) refl
  tail-no-reading p e (Todo.read_claim None) todo fits frames was of = was of
  tail-no-reading p e (Todo.read_claim (Some d)) todo fits frames was of = was (elim (domain_in e.word).init as (λ b. Awake (after_claim p d b 0 todo).context → Awake p.context) [ true ↦ λ k. k | false ↦ λ k. k ] of)
  tail-no-reading p e q todo fits frames was of = was of

module _ (f : Fine) (m : State) (e : FineStep) (law : Lawful f m e) (was : ReadsWaiting (f.processors e.cpu)) where
  open around f e use {processor as p, now}

  pub reads-next : ReadsWaiting now
  reads-next awake =
      ap (list_any is_reading) (acted-list f.image (with_cleaned f.image (goes_on_by f.image p e p.todo) e (begins_cleaning e)) e.act)
      ∙ cleaned-no-reading f.image (goes_on_by f.image p e p.todo) e (begins_cleaning e) (by p.todo refl (ap (λ (c : Context). waits c.pending) (sym (next-context f.image p e)) ∙ awake))
    where
      by : (todo : Todos) → p.todo ≡ todo → waits (goes_on_by f.image p e p.todo).context.pending ≡ false → NoReading (goes_on_by f.image p e p.todo).todo
      by [] at of =
          subst (λ (z : Todos). NoReading (goes_on_by f.image p e z).todo) (sym at) (taken-no-reading f.image p e at (subst (λ (z : Todos). waits (goes_on_by f.image p e z).context.pending ≡ false) at of))
      by (q ∷ todo) at of = subst (λ (z : Todos). NoReading (goes_on_by f.image p e z).todo) (sym at) (which q (is_show q) refl tail of_at)
        where
          of_at : waits (goes_on_by f.image p e (q ∷ todo)).context.pending ≡ false
          of_at = subst (λ (z : Todos). waits (goes_on_by f.image p e z).context.pending ≡ false) at of

          k : ProcessorIs f m e.cpu
          k = law.rel.processors e.cpu law.by.named

          tail : NoReading todo
          tail =
              tail-no-reading f.image p e q todo (subst (Fits f.image p.context) at k.list.fits) (subst (AreFramed f.image) at k.frames) (λ a. subst (λ (z : Todos). list_any is_reading z ≡ false) at (was a)) of_at

          which : (q : Todo) → (b : Bool) → is_show q ≡ b → NoReading todo → waits (goes_on_by f.image p e (q ∷ todo)).context.pending ≡ false → NoReading (goes_on_by f.image p e (q ∷ todo)).todo
          which (Todo.show r rest) b s h a = event-no-reading f.image p e r rest todo a h
          which q true s h a = goes-no-reading f.image p e q todo refl a h
          which q false s h a = goes-no-reading f.image p e q todo s a h
