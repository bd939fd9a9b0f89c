-- Where no act is on its processor's list no deadline is armed for a thread's next step, after every lawful step.
use Rattle.um_refinement.proofs.Words.{has_steps, Act, by_me, ◌≡◌, ℕ, ◌+◌, ◌<◌, Bool, true, false, cond, List, [], ◌∷◌, ◌++◌, Option, Some, None, refl, sym, ap, ◌∙◌, subst, ◌==◌, ◌||◌, IsTrue, list_any, if◌then◌else◌, is_some, and_parts, eqb-true, false≢true, true≢false, Image, Told, thread_of_row, ROWS, Pending, Thread, Steps, State, FineAct, Unseen, act_in, is_visit, is_word_read, thread_in, begins_cleaning, says_show, shows, Context, no_context, after_show, after_take, answer_in, continues, filled_up, next_steps, dropped_at, goes_on_by, p_next, row_number, with_cleaned, refilled_by, Todo, Todos, cleaning_of, is_cleaning_todo, turn, Processor, Exchange, FineStep, Fine, scheduler, first_ready, has_ready, parked_at, told_at, waits, is_empty, Behind, AreFramed, Fits, Drops, IsOffered, behind_shown, IsOf, unwrap_or, nat_lt, as_thread}
use Rattle.um_fine.specs.Follows.{rereads, shown_step}
use Rattle.um_fine.specs.Answers.{is_killed}
use Rattle.um_fine.specs.Asks as A
use Rattle.um_fine.specs.Places.{armed_for, noted_cell, noting, on_memory, put_away, settling}
use Rattle.um_words.specs.declared.fine.Mark.{Mark}
use Rattle.um_fine.specs.Scheduler.{is_cut, to_kill}
use Rattle.um_base.specs.declared.act.Answer.{Answer}
use Rattle.um_refinement.specs.Lists.{is_arm}
use Rattle.um_refinement.specs.Threads.{as_cut}
use Rattle.um_refinement.specs.Timing.{IsUnarmed, armed_next, is_act, shows_act}
use Rattle.um_refinement.proofs.ArmSteps.{Acts, Timed}
use Rattle.um_refinement.proofs.ArmsGone.{IsNone, arming-acts, event-unarmed, offered-none, put-back-none, resumed-none}
use Rattle.um_refinement.proofs.ArmsKnown.{AreTimed, Stands, offered-timed}
use Rattle.um_refinement.proofs.Erased.{around}
use Rattle.um_refinement.proofs.Kept.{IdleStep, gives, idle-step, ticks as time_goes, turns}
use Rattle.um_refinement.proofs.Leaves.{Beside, Lawful, Leaves, beside, cuts, expires, leaves as tells_left, ticks as time_passes, times_out, cleans, drops, event, nothing, passes, recycles, resumes}
use Rattle.um_refinement.proofs.ListGrips.{next-context}
use Rattle.um_refinement.proofs.ListGrowth.{EndsWell, ReadsLast, acted-kept, claim-kept, claim-context, cleaning-kept, drop-kept, either, ends-behind, goes-kept, is_errand, is_shown, pass-kept}
use Rattle.um_refinement.proofs.Offered.{NotKilled, Shows, at-made, behind-is, own-same, shown-offers, own-unless, runs-first}
use Rattle.um_refinement.proofs.ResumeSteps.{TellsWaiters, first-taken, resume-step, takes-turn}
use Rattle.um_refinement.proofs.SchedulerSteps.{made-says}
use Rattle.um_refinement.proofs.StepsLeft.{offered-on}

-- the first step on a list arms a deadline
abbrev pub arms_first : Todo → Bool
arms_first (Todo.show q rest) = is_arm q
arms_first q = false

abbrev first_arms : Todos → Bool
first_arms [] = false
first_arms (q ∷ todo) = arms_first q

abbrev heads_show : Todos → Bool
heads_show [] = false
heads_show (q ∷ todo) = is_shown q

-- an act that stands behind a step stays on the list
module _ (image : Image) where
  abbrev HasAct : Todos → Type 0
  HasAct todo = list_any shows_act todo ≡ true

  behind-first : (q : Todo) (todo : Todos) → HasAct todo → HasAct (q ∷ todo)
  behind-first q todo h = elim (shows_act q) as (λ b. (b || list_any shows_act todo) ≡ true) [ true ↦ refl | false ↦ h ]

  abbrev All : Context → Type 0
  All c = Unit {0}

  nothing-left : {A : Type 0} → HasAct [] → A
  nothing-left h = absurd (false≢true h)

  errand : (q : Todo) (todo : Todos) → is_errand q ≡ true → HasAct todo → HasAct (q ∷ todo)
  errand q todo on h = behind-first q todo h

  acts-stay : (p : Processor) (e : FineStep) (q : Todo) (todo : Todos) → is_shown q ≡ false → Behind image q todo → ReadsLast e q todo → HasAct todo → HasAct (goes_on_by image p e (q ∷ todo)).todo
  acts-stay p e q todo quiet over last h = by q quiet (ends-behind image HasAct (λ k doomed. nothing-left k) (λ c z k. k) e q todo over last h)
    where
      by : (q : Todo) → is_shown q ≡ false → EndsWell HasAct e q → HasAct (goes_on_by image p e (q ∷ todo)).todo
      by (Todo.show q rest) quiet ends = absurd (true≢false quiet)
      by (Todo.read_claim d) quiet ends = claim-kept image HasAct (λ z k. k) p e d todo (λ x some. h) h
      by (Todo.pass who x) quiet ends = pass-kept image HasAct All (λ c of k. nothing-left k) p who x todo (λ y few k. k) tt h
      by (Todo.drop x) quiet ends = drop-kept image HasAct All (λ c of k. nothing-left k) p (dropped_at image p.context x (is_visit e.act)) x todo (λ y few k. k) tt h
      by (Todo.clean_pair who x) quiet ends = either image HasAct (nat_lt (x + 1) ROWS) (Todo.clean_pair who (x + 1)) todo (λ few k. k) h
      by q quiet ends = goes-kept image HasAct All (λ c of k. nothing-left k) p errand e q todo refl tt ends h

  noted-act : (c : Context) (site : Option ℕ) (todo : Todos) → HasAct todo → HasAct (noting image c site todo)
  noted-act c None todo h = h
  noted-act c (Some site) todo h = elim (is_some c.noted) as (λ b. HasAct (if b then todo else Todo.note site ∷ todo)) [ true ↦ h | false ↦ h ]

  -- an act that comes next is shown where the steps are expanded
  acts-shown : (c : Context) (steps : Steps) → Acts steps → HasAct (next_steps image c steps)
  acts-shown c (Pending.Work a ask ∷ rest) h =
      let q = Pending.Work a ask in noted-act c (noted_cell image (q ∷ [])) (Todo.show q rest ∷ settling image c (armed_for image c q) q) refl
  acts-shown c (Pending.Join who timeout ∷ rest) h =
      let q = Pending.Join who timeout in noted-act c (noted_cell image (q ∷ [])) (Todo.show q rest ∷ settling image c (armed_for image c q) q) refl
  acts-shown c (Pending.FutexWait a value timeout ∷ rest) h =
      let q = Pending.FutexWait a value timeout in noted-act c (noted_cell image (q ∷ [])) (on_memory q rest ++ settling image c (armed_for image c q) q) refl
  acts-shown c steps h = absurd h

  no-reread : (answer : Answer) (todo : Todos) → rereads image answer None todo ≡ todo
  no-reread Answer.Wait todo = refl
  no-reread (Answer.Now reply) todo = refl

  -- so it is behind a step that arms a deadline for it
  armed-shown : (p : Processor) (e : FineStep) (q : Pending) (rest : Steps) → is_arm q ≡ true
      → Acts (continues image p.context 0 q rest (act_in e.act) e.moved).pending → HasAct (after_show image p e q rest []).todo
  armed-shown p e (Pending.Arm ticks) rest on acts =
      let c = continues image p.context 0 (Pending.Arm ticks) rest (act_in e.act) e.moved in
      subst (λ (z : Todos). HasAct (filled_up image c z)) (sym (no-reread (answer_in (act_in e.act)) [])) (acts-shown c c.pending acts)
  armed-shown p e (Pending.ArmTimer ticks) rest on acts =
      let c = continues image p.context 0 (Pending.ArmTimer ticks) rest (act_in e.act) e.moved in
      subst (λ (z : Todos). HasAct (filled_up image c z)) (sym (no-reread (answer_in (act_in e.act)) [])) (acts-shown c c.pending acts)
  armed-shown p e q rest on acts = absurd (false≢true on)

  cleaned-act : (p : Processor) (e : FineStep) (b : Bool) → HasAct p.todo → HasAct (with_cleaned image p e b).todo
  cleaned-act p e false h = h
  cleaned-act p e true h = cleaning-kept image (λ old new. HasAct old → HasAct new) (row_number e.site) first later p.todo h
    where
      first : (o : Option ℕ) (todo : Todos) → thread_of_row image (row_number e.site) ≡ o → HasAct todo → HasAct (cleaning_of (row_number e.site) o ++ todo)
      first None todo at k = k
      first (Some who) todo at k = k

      later : (q : Todo) (old new : Todos) → is_cleaning_todo q ≡ true → (HasAct old → HasAct new) → HasAct (q ∷ old) → HasAct (q ∷ new)
      later (Todo.show q rest) old new c more k = absurd (false≢true c)
      later q old new c more k = behind-first q new (more (unshown q old c k))
        where
          unshown : (q : Todo) (old : Todos) → is_cleaning_todo q ≡ true → HasAct (q ∷ old) → HasAct old
          unshown (Todo.show q rest) old c k = absurd (false≢true c)
          unshown q old c k = k

  pub next-has : (p : Processor) (e : FineStep) → HasAct (goes_on_by image p e p.todo).todo → HasAct (p_next image p e).todo
  next-has p e h =
      acted-kept image HasAct (with_cleaned image (goes_on_by image p e p.todo) e (begins_cleaning e)) e.act
      (cleaned-act (goes_on_by image p e p.todo) e (begins_cleaning e) h)

module _ (f : Fine) (m : State) (e : FineStep) (law : Lawful f m e) (tells : TellsWaiters m) (timed : AreTimed m) where
  open around f e use {later, processor as p, now}

  own : IsUnarmed f e.cpu
  own = (law.rel.processors e.cpu law.by.named).unarmed

  framed : (q : Todo) (todo : Todos) → p.todo ≡ q ∷ todo → Behind f.image q todo
  framed q todo at = (subst (AreFramed f.image) at (law.rel.processors e.cpu law.by.named).frames).0

  -- an own part that doesn't wait stands to its deadline as the machine's thread does
  timed-awake : {c : Context} → IsOf f m c → waits c.pending ≡ false → Timed c.until c.pending
  timed-awake {c} of awake =
      let same = own-unless of awake in
      subst (λ (z : Option ℕ × Steps). Timed z.0 z.1) (λ i. ((sym same i).until, (sym same i).pending)) (timed c.thread)

  waits-none : (c : Context) → waits c.pending ≡ true → IsNone f.image c
  waits-none c waiting = by c.pending waiting
    where
      by : (steps : Steps) → waits steps ≡ true → armed_next f.image c steps ≡ None
      by (Pending.Resume ∷ rest) h = refl
      by steps h = absurd (false≢true h)

  context-is : (todo : Todos) → p.todo ≡ todo → now.context ≡ (goes_on_by f.image p e todo).context
  context-is todo at = next-context f.image p e ∙ ap (λ (z : Todos). (goes_on_by f.image p e z).context) at

  moved-to : (todo : Todos) → p.todo ≡ todo → IsNone f.image (goes_on_by f.image p e todo).context → IsNone f.image now.context
  moved-to todo at h = subst (IsNone f.image) (sym (context-is todo at)) h

  -- a thread is taken
  taken-context : (c : Context) → (after_take f.image p (Exchange.thread c None)).context ≡ c
  taken-context c =
      elim (is_empty c.pending) as (λ b. (if b then record p { context = c; todo = turn f.image c } else refilled_by f.image (record p { context = c }) []).context ≡ c) [ true ↦ refl | false ↦ refl ]

  takes : p.todo ≡ [] → IsNone f.image (after_take f.image p e.moved).context
  takes at = by (idle-step f m law.rel p e law.by.may law.taken at)
    where
      before : IsNone f.image p.context
      before = own (ap (list_any shows_act) at)

      parked : (t : ℕ) (ready : List ℕ) → IsTrue (has_ready (scheduler f) (t ∷ ready)) → (told : Option Told) → told_at (scheduler f) t ≡ told
          → first_ready (scheduler f) (t ∷ ready) ≡ e.moved → IsNone f.image (after_take f.image p e.moved).context
      parked t ready has None told moved = subst (λ (z : Exchange). IsNone f.image (after_take f.image p z).context) (sym at-none) (which (parked_at (scheduler f) t) refl)
        where
          c : Context
          c = to_kill (is_cut (scheduler f) t) (unwrap_or (parked_at (scheduler f) t) no_context)

          at-none : e.moved ≡ Exchange.thread c None
          at-none = sym moved ∙ ap (Exchange.thread c) told

          which : (o : Option Context) → parked_at (scheduler f) t ≡ o → IsNone f.image (after_take f.image p (Exchange.thread c None)).context
          which None none = absurd (false≢true (sym (ap is_some none) ∙ (and_parts _ _ has).0))
          which (Some d) some =
              let put = (law.rel.contexts.parked t d some).3 in
              subst (IsNone f.image) (sym (taken-context c))
              (subst (λ (o : Option Context). IsNone f.image (to_kill (is_cut (scheduler f) t) (unwrap_or o no_context))) (sym some) (put-back-none f.image (is_cut (scheduler f) t) d put))
      parked t ready has (Some w) told moved =
          let c = to_kill (is_cut (scheduler f) t) (unwrap_or (parked_at (scheduler f) t) no_context) in
          let given : e.moved ≡ Exchange.thread c (Some w) = sym moved ∙ ap (Exchange.thread c) told in
          let idles = takes-turn (idle-step f m law.rel p e law.by.may law.taken at) given in
          let is = first-taken f m law.rel (scheduler f).ready c w idles.1 (idles.2 ∙ given) in
          let goes = resume-step f m law.rel c w law.by.named at law.by.may law.taken given tells in
          let same = ap (λ n. as_thread (as_cut n c)) (sym is.uncut) ∙ is.of.own in
          let here : Timed c.until c.pending = subst (λ (z : Option ℕ × Steps). Timed z.0 z.1) (λ i. ((sym same i).until, (sym same i).pending)) (timed c.thread) in
          subst (λ (z : Exchange). IsNone f.image (after_take f.image p z).context) (sym given) (resumed-none f.image c w goes.0 goes.1 here)

      by : IdleStep f p e → IsNone f.image (after_take f.image p e.moved).context
      by (gives x site said due moved) = subst (λ (z : Exchange). IsNone f.image (after_take f.image p z).context) (sym moved) before
      by (time_goes n site said next moved) = subst (λ (z : Exchange). IsNone f.image (after_take f.image p z).context) (sym moved) before
      by (turns site said ready moved) = which (scheduler f).ready ready moved
        where
          which : (list : List ℕ) → IsTrue (has_ready (scheduler f) list) → first_ready (scheduler f) list ≡ e.moved → IsNone f.image (after_take f.image p e.moved).context
          which [] has moved = absurd (false≢true has)
          which (t ∷ list) has moved = parked t list has (told_at (scheduler f) t) refl moved

  -- a step that is no event
  dropped-none : (x : ℕ) (todo : Todos) → p.todo ≡ Todo.drop x ∷ todo → IsNone f.image p.context → (b : Bool) → IsNone f.image (dropped_at f.image p.context x b)
  dropped-none x todo at none true = none
  dropped-none x todo at none false =
      let d : Drops f.image p.context todo = subst (Fits f.image p.context) at (law.rel.processors e.cpu law.by.named).list.fits in
      let was : armed_next f.image p.context (Pending.Drops d.from ∷ d.step ∷ d.rest) ≡ None = ap (armed_next f.image p.context) (sym d.pending) ∙ none in
      subst (λ (steps : Steps). IsNone f.image (dropped_at f.image (record p.context { pending = steps }) x false)) (sym d.pending) was

  kept-none : (q : Todo) (todo : Todos) → p.todo ≡ q ∷ todo → is_shown q ≡ false → list_any shows_act todo ≡ false → IsNone f.image now.context
  kept-none q todo at off gone = moved-to (q ∷ todo) at (by q at off)
    where
      unshown : (q : Todo) → is_shown q ≡ false → list_any shows_act (q ∷ todo) ≡ false
      unshown (Todo.show q rest) off = absurd (true≢false off)
      unshown q off = gone

      before : IsNone f.image p.context
      before = own (ap (list_any shows_act) at ∙ unshown q off)

      by : (q : Todo) → p.todo ≡ q ∷ todo → is_shown q ≡ false → IsNone f.image (goes_on_by f.image p e (q ∷ todo)).context
      by (Todo.show q rest) at off = absurd (true≢false off)
      by (Todo.drop x) at off = dropped-none x todo at before (is_visit e.act)
      by Todo.park at off = refl
      by Todo.done at off = refl
      by Todo.sleep at off = refl
      by (Todo.read_claim d) at off = subst (IsNone f.image) (sym (claim-context f.image p e d todo)) before
      by q at off = before

  quiet : (q : Todo) (todo : Todos) → p.todo ≡ q ∷ todo → is_shown q ≡ false → list_any shows_act now.todo ≡ false → IsNone f.image now.context
  quiet q todo at off none = kept-none q todo at off gone
    where
      gone : list_any shows_act todo ≡ false
      gone = which (list_any shows_act todo) refl
        where
          which : (b : Bool) → list_any shows_act todo ≡ b → b ≡ false
          which false h = refl
          which true h =
              absurd (true≢false
              (sym (next-has f.image p e (subst (λ (z : Todos). HasAct f.image (goes_on_by f.image p e z).todo) (sym at) (acts-stay f.image p e q todo off (framed q todo at) (last q off) h)))
              ∙ none))
            where
              last : (q : Todo) → is_shown q ≡ false → ReadsLast e q todo
              last (Todo.show q rest) off = absurd (true≢false off)
              last q off = tt

  -- an event
  read-none : (q : Pending) (rest : Steps) (todo : Todos) → p.todo ≡ Todo.show q rest ∷ todo → is_act q ≡ false → IsNone f.image p.context
  read-none q rest todo at off = by (waits p.context.pending) refl
    where
      offered : IsOffered f.image p.context q rest
      offered = (subst (Fits f.image p.context) at (law.rel.processors e.cpu law.by.named).list.fits).0

      by : (b : Bool) → waits p.context.pending ≡ b → IsNone f.image p.context
      by true waiting = waits-none p.context waiting
      by false awake =
          let of = (law.rel.contexts.running e.cpu law.by.named (runs-first law.rel law.by.named (Todo.show q rest) todo at (λ hand. hand))).of (offered-on f.image p.context q rest offered) in
          offered-none f.image p.context (timed-awake of awake) q rest off offered

  module _ (q : Pending) (rest : Steps) (todo : Todos) (h : Shows f m e.cpu e q rest todo) where
    c : Context
    c = continues f.image p.context 0 q rest (act_in e.act) e.moved

    goes-on : goes_on_by f.image p e (Todo.show h.listed rest ∷ todo) ≡ after_show f.image p e q rest todo
    goes-on = λ i. if h.shown i then record p { todo = put_away (thread_in e.word).doomed } else after_show f.image p e (h.made i) rest todo

    stands-so : Stands p.context.until q rest
    stands-so = subst (λ (until : Option ℕ). Stands until q rest) (sym (ap (λ (th : Thread). th.until) (own-same h))) (offered-timed m p.context.thread 0 (timed p.context.thread) q rest (shown-offers h))

    arms : is_arm q ≡ true → HasAct f.image now.todo
    arms on =
        let acts = arming-acts f.image p.context q rest (act_in e.act) e.moved on stands-so in
        let alone : todo ≡ [] = behind-is h ∙ nothing-behind q on in
        next-has f.image p e
        (subst (λ (z : Todos). HasAct f.image (goes_on_by f.image p e z).todo) (sym h.at)
        (subst (λ (r : Processor). HasAct f.image r.todo) (sym goes-on)
        (subst (λ (z : Todos). HasAct f.image (after_show f.image p e q rest z).todo) (sym alone) (armed-shown f.image p e q rest on acts))))
      where
        nothing-behind : (q : Pending) → is_arm q ≡ true → behind_shown f.image p.context q ≡ []
        nothing-behind (Pending.Arm ticks) on = refl
        nothing-behind (Pending.ArmTimer ticks) on = refl
        nothing-behind q on = absurd (false≢true on)

    event-calm : is_arm q ≡ false → IsNone f.image now.context
    event-calm off =
        moved-to (Todo.show h.listed rest ∷ todo) h.at
        (subst (λ (r : Processor). IsNone f.image r.context) (sym goes-on)
        (event-unarmed f.image p.context q rest (act_in e.act) e.moved off stands-so (λ quiet other. read-none q rest todo (at-made h other) quiet)))

    event-none : list_any shows_act now.todo ≡ false → IsNone f.image now.context
    event-none none = by (is_arm q) refl
      where
        by : (b : Bool) → is_arm q ≡ b → IsNone f.image now.context
        by true on = absurd (true≢false (sym (arms on) ∙ none))
        by false off = event-calm off

    -- where the list arms none first
    event-first : (head : Todo) (behind : Todos) → p.todo ≡ head ∷ behind → arms_first head ≡ false → IsNone f.image now.context
    event-first head behind at off = by (is_arm q) refl
      where
        listed : (q : Pending) → is_arm q ≡ true → NotKilled q
        listed Pending.Killed on = absurd (false≢true on)
        listed q on = tt

        by : (b : Bool) → is_arm q ≡ b → IsNone f.image now.context
        by true on = absurd (true≢false (sym on ∙ (ap first_arms (sym (at-made h (listed q on)) ∙ at) ∙ off)))
        by false off = event-calm off

  abbrev is_unseen : FineAct → Bool
  is_unseen (FineAct.Shown v more) = false
  is_unseen (FineAct.Unseen u) = true

  shown-says : (q : Pending) (act : FineAct) → is_word_read act ≡ false → is_unseen (says_show f.image p q act) ≡ false
  shown-says Pending.Begin act off = begins-says Pending.Begin act off
    where
      begins-says : (q : Pending) (act : FineAct) → is_word_read act ≡ false → is_unseen (A.begins f.image p q act) ≡ false
      begins-says q act off =
          ap (λ b. is_unseen (if b then FineAct.Unseen Unseen.WordRead else if is_killed act then by_me f.image p Act.Killed else shows f.image p q act)) off
          ∙ elim (is_killed act) as (λ b. is_unseen (if b then by_me f.image p Act.Killed else shows f.image p q act) ≡ false) [ true ↦ refl | false ↦ refl ]
  shown-says Pending.Exit act off =
      ap (λ b. is_unseen (if b then FineAct.Unseen Unseen.WordRead else if is_killed act then by_me f.image p Act.Killed else shows f.image p Pending.Exit act)) off
      ∙ elim (is_killed act) as (λ b. is_unseen (if b then by_me f.image p Act.Killed else shows f.image p Pending.Exit act) ≡ false) [ true ↦ refl | false ↦ refl ]
  shown-says q act off = refl

  read-no-act : (q : Pending) (act : FineAct) → is_word_read (says_show f.image p q act) ≡ true → is_act q ≡ false
  read-no-act (Pending.Work a ask) act h = absurd (false≢true h)
  read-no-act (Pending.Join who timeout) act h = absurd (false≢true h)
  read-no-act (Pending.FutexWait a value timeout) act h = absurd (false≢true h)
  read-no-act q act h = refl

  read-calm : (q : Pending) (rest : Steps) (todo : Todos) → p.todo ≡ Todo.show q rest ∷ todo → (u : Unseen) → e.act ≡ FineAct.Unseen u → IsNone f.image now.context
  read-calm q rest todo at u said = which (is_word_read e.act) refl
    where
      says : e.act ≡ says_show f.image p q e.act
      says = made-says f m e law (Todo.show q rest ∷ todo) at

      which : (b : Bool) → is_word_read e.act ≡ b → IsNone f.image now.context
      which true read =
          moved-to (Todo.show q rest ∷ todo) at
          (subst (λ b. IsNone f.image (if b then record p { todo = put_away (thread_in e.word).doomed } else after_show f.image p e (shown_step f.image q e.act) rest todo).context) (sym read)
          (read-none q rest todo at (read-no-act q e.act (sym (ap is_word_read says) ∙ read))))
      which false off = absurd (false≢true (sym (shown-says q e.act off) ∙ (sym (ap is_unseen says) ∙ ap is_unseen said)))

  -- a step that no trace shows
  unseen-none : (u : Unseen) → e.act ≡ FineAct.Unseen u → list_any shows_act now.todo ≡ false → IsNone f.image now.context
  unseen-none u said none = by p.todo refl
    where
      by : (todo : Todos) → p.todo ≡ todo → IsNone f.image now.context
      by [] at = moved-to [] at (takes at)
      by (Todo.show q rest ∷ todo) at = read-calm q rest todo at u said
      by (q ∷ todo) at = quiet q todo at refl none

  unarmed-now : (s : State) → Leaves f m e s → list_any shows_act now.todo ≡ false → IsNone f.image now.context
  unarmed-now _ (nothing u said) none = unseen-none u said none
  unarmed-now _ (event q rest todo x h shown is) none = event-none q rest todo h none
  unarmed-now _ (resumes c told rest idle moved said) none = moved-to [] idle (takes idle)
  unarmed-now _ (passes who x rest todo v said) none = quiet (Todo.pass who x) todo v.at refl none
  unarmed-now _ (drops from x rest todo v said) none = quiet (Todo.drop x) todo v.at refl none
  unarmed-now _ (cleans who x rest todo v said) none = quiet (Todo.clean_pair who x) todo v.at refl none
  unarmed-now _ (recycles x rest todo at few said chosen) none = quiet (Todo.recycle x) todo at refl none
  unarmed-now _ (beside t x q how chosen started) none = by how
    where
      by : {t x : ℕ} {q : Pending} → Beside f m e t x q → IsNone f.image now.context
      by (cuts who site before x todo at same few said) = quiet (Todo.look who site before) todo at refl none
      by (times_out deadline site x who todo at same few said) = quiet (Todo.handle deadline (Mark.Thread who site)) todo at refl none
      by (expires deadline x todo at few said) = quiet (Todo.handle deadline (Mark.Timer x)) todo at refl none
      by (time_passes at said) = moved-to [] at (takes at)
      by (tells_left todo at said) = quiet Todo.leave todo at refl none

  -- Where nothing stands behind a step that arms none, none is armed then, whatever comes next.
  pub calm-now : (s : State) → Leaves f m e s → (q : Todo) → p.todo ≡ q ∷ [] → arms_first q ≡ false → IsNone f.image now.context
  calm-now s leaves q at off = by q at off s leaves
    where
      calmly : (q : Todo) → p.todo ≡ q ∷ [] → is_shown q ≡ false → IsNone f.image now.context
      calmly q at off = kept-none q [] at off refl

      by : (q : Todo) → p.todo ≡ q ∷ [] → arms_first q ≡ false → (s : State) → Leaves f m e s → IsNone f.image now.context
      by (Todo.show q rest) at off _ (nothing u said) = read-calm q rest [] at u said
      by (Todo.show q rest) at off _ (event r left todo x h shown is) = event-first r left todo h (Todo.show q rest) [] at off
      by (Todo.show q rest) at off _ (resumes c told left idle moved said) = absurd (false≢true (ap has_steps (sym idle ∙ at)))
      by (Todo.show q rest) at off _ (passes who x left todo v said) = absurd (false≢true (ap heads_show (sym v.at ∙ at)))
      by (Todo.show q rest) at off _ (drops from x left todo v said) = absurd (false≢true (ap heads_show (sym v.at ∙ at)))
      by (Todo.show q rest) at off _ (cleans who x left todo v said) = absurd (false≢true (ap heads_show (sym v.at ∙ at)))
      by (Todo.show q rest) at off _ (recycles x left todo there few said chosen) = absurd (false≢true (ap heads_show (sym there ∙ at)))
      by (Todo.show q rest) at off _ (beside t x r how chosen started) = absurd (false≢true (sym (beside-quiet how) ∙ ap heads_show at))
        where
          beside-quiet : {t x : ℕ} {q : Pending} → Beside f m e t x q → heads_show p.todo ≡ false
          beside-quiet (cuts who site before x todo at same few said) = ap heads_show at
          beside-quiet (times_out deadline site x who todo at same few said) = ap heads_show at
          beside-quiet (expires deadline x todo at few said) = ap heads_show at
          beside-quiet (time_passes at said) = ap heads_show at
          beside-quiet (tells_left todo at said) = ap heads_show at
      by q at off s leaves = calmly q at refl

  pub takes-none : p.todo ≡ [] → IsNone f.image (after_take f.image p e.moved).context
  takes-none at = takes at

  pub unarmed-part : (s : State) → Leaves f m e s → (k : ℕ) → k < f.cpus → IsUnarmed later k
  unarmed-part s leaves k l = by (e.cpu == k) refl
    where
      by : (b : Bool) → (e.cpu == k) ≡ b → list_any shows_act (cond b (p_next f.image (f.processors k) e) (f.processors k)).todo ≡ false
          → IsNone f.image (cond b (p_next f.image (f.processors k) e) (f.processors k)).context
      by true q = subst (λ j. list_any shows_act (p_next f.image (f.processors j) e).todo ≡ false → IsNone f.image (p_next f.image (f.processors j) e).context) (eqb-true e.cpu k q) (unarmed-now s leaves)
      by false q = (law.rel.processors k l).unarmed
