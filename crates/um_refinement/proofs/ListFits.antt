-- Each step leaves a list that fits: what is on it of the thread's own steps is what the thread is offered.
use Rattle.um_refinement.proofs.Words.{◌≢◌, arith, ◌≡◌, inl, inr, List, ℕ, ◌+◌, Bool, true, false, [], ◌∷◌, ◌++◌, Option, Some, None, refl, sym, ap, ◌∙◌, subst, ◌==◌, if◌then◌else◌, nat_lt, is_some, eqb-false, eqb-true, false≢true, Image, Instr, ROWS, own_row, row_named, thread_of_row, Addr, Answer, ThreadIx, Told, is_empty, Pending, Steps, instruction_at, act_in, answer_in, context_in, is_visit, is_word_read, thread_in, woken_in, behind_step, no_context, on_memory, wakes, Context, FineAct, Exchange, FineStep, continues, resumed, waits, Todo, Todos, but, cleaning_of, drops, end_of_turn, fine_steps, next_steps, passes, turn_of, is_cleaning_todo, Processor, after_show, after_take, dropped_at, filled_up, goes_on_by, p_next, row_number, with_cleaned, begins_cleaning, Drops, behind_shown, Fits, IsOffered, ListIs, Passes, turn, refilled_by}
use Rattle.um_words.specs.Threads.{is_awake}
use Rattle.um_fine.specs.Answers.{is_void}
use Rattle.um_fine.specs.Follows.{rereads, shown_step, told_all, told_marked, waits_behind, with_actor}
use Rattle.um_fine.specs.Places.{armed_for, clearing, noted_cell, noting, put_away, settling}
use Rattle.um_refinement.specs.Offers.{ClearsOwn, IsNotedBy}
use Rattle.um_refinement.proofs.StepsLeft.{rests-on, steps-on}
use Rattle.um_refinement.specs.Offers.{Bare, begins, dropped, exits, goes, passed}
use Rattle.um_refinement.proofs.ListGrowth.{behind-kept, claim-context, cleaning-kept, either-look, claim-kept, either, is_errand, looks-kept, unless}

-- a thread that is taken without being told anything, and with no step left, is at rest and hasn't ended
abbrev pub IsAtRest : Exchange → Type 0
IsAtRest (Exchange.thread c None) = is_empty c.pending ≡ true → (c.pending ≡ []) × (c.ended ≡ false)
IsAtRest moved = Unit {0}

-- a row that isn't the own one
but-other : (own x : ℕ) → but own x ≢ own
but-other own x = by (x == own) refl
  where
    by : (b : Bool) → (x == own) ≡ b → (if b then x + 1 else x) ≢ own
    by true e h = let same = eqb-true x own e in omega (arith, h, same)
    by false e h = eqb-false x own e h

module _ (image : Image) where
  bare-clears : (c : Context) (todo : Todos) → Bare image todo → ClearsOwn image c todo
  bare-clears c [] h = tt
  bare-clears c (Todo.show q rest ∷ todo) h = absurd h
  bare-clears c (q ∷ todo) h = tt

  bare-fits : (c : Context) (todo : Todos) → Bare image todo → Fits image c todo
  bare-fits c [] h = tt
  bare-fits c (Todo.show q rest ∷ todo) h = absurd h
  bare-fits c (Todo.pass who x ∷ todo) h = absurd h
  bare-fits c (Todo.drop x ∷ todo) h = absurd h
  bare-fits c (Todo.add d ∷ todo) h = (h.0, bare-fits c todo h.1)
  bare-fits c (Todo.park ∷ todo) h = absurd h
  bare-fits c (Todo.sleep ∷ todo) h = absurd h
  bare-fits c (Todo.note site ∷ todo) h = λ number. bare-fits (record c { noted = Some number }) todo h
  bare-fits c (Todo.leave ∷ todo) h = (bare-clears c todo h, bare-fits c todo h)
  bare-fits c (q ∷ todo) h = bare-fits c todo h

  settling-bare : (c : Context) (until : Option ℕ) (q : Pending) → Bare image (settling image c until q)
  settling-bare c None q = tt
  settling-bare c (Some deadline) q = tt

  pub behind-bare : (c : Context) (q : Pending) → Bare image (behind_shown image c q)
  behind-bare c (Pending.Start who script stack priority mode) = (refl, tt)
  behind-bare c (Pending.Work a ask) = settling-bare c (armed_for image c (Pending.Work a ask)) (Pending.Work a ask)
  behind-bare c (Pending.Join who timeout) = settling-bare c (armed_for image c (Pending.Join who timeout)) (Pending.Join who timeout)
  behind-bare c (Pending.FutexWait a value timeout) = settling-bare c (armed_for image c (Pending.FutexWait a value timeout)) (Pending.FutexWait a value timeout)
  behind-bare c q = tt

  -- Expansions.

  -- what a thread is offered, it is with a note
  offered-noted : (c : Context) (number : ℕ) {q : Pending} {rest : Steps} → IsOffered image c q rest → IsOffered image (record c { noted = Some number }) q rest
  offered-noted c number (goes e) = goes e
  offered-noted c number (passed e) = passed e
  offered-noted c number (dropped e) = dropped e
  offered-noted c number (begins e on i) = begins e on i
  offered-noted c number (exits e on i) = exits e on i

  noting-fits : (c : Context) (site : Option ℕ) (todo : Todos) → ((number : ℕ) → Fits image (record c { noted = Some number }) todo)
      → (((there : ℕ) → site ≡ Some there → is_some c.noted ≡ true) → Fits image c todo) → Fits image c (noting image c site todo)
  noting-fits c None todo noted h = h (λ there k. absurd (false≢true (ap is_some k)))
  noting-fits c (Some site) todo noted h = by (is_some c.noted) refl
    where
      by : (b : Bool) → is_some c.noted ≡ b → Fits image c (if b then todo else Todo.note site ∷ todo)
      by true k = h (λ there z. k)
      by false k = noted

  -- a step before which no cell is noted
  unnoted : (c : Context) (q : Pending) → noted_cell image (q ∷ []) ≡ None → IsNotedBy image c q
  unnoted c q none site h = absurd (false≢true (ap is_some (sym none ∙ h)))

  clear-fits : (c : Context) (own : Bool) (a : Addr) (rest : Steps) → (row_named image a == own_row image c.thread) ≡ own → IsOffered image c (Pending.ClearInit a) rest → Fits image c (clearing image own (Pending.ClearInit a) rest)
  clear-fits c true a rest own h = (own, (h, refl, unnoted c (Pending.ClearInit a) refl))
  clear-fits c false a rest own h = (h, refl, unnoted c (Pending.ClearInit a) refl)

  fine-fits : (c : Context) (q : Pending) (rest : Steps) → IsOffered image c q rest → Fits image c (fine_steps image c q rest)
  fine-fits c (Pending.Work a ask) rest h =
      let q = Pending.Work a ask in noting-fits c (noted_cell image (q ∷ [])) (Todo.show q rest ∷ settling image c (armed_for image c q) q) (λ number. (offered-noted c number h, refl, λ there k. refl)) (λ has. (h, refl, has))
  fine-fits c (Pending.Join who timeout) rest h =
      let q = Pending.Join who timeout in noting-fits c (noted_cell image (q ∷ [])) (Todo.show q rest ∷ settling image c (armed_for image c q) q) (λ number. (offered-noted c number h, refl, λ there k. refl)) (λ has. (h, refl, has))
  fine-fits c (Pending.FutexWait a value timeout) rest h =
      let q = Pending.FutexWait a value timeout in noting-fits c (noted_cell image (q ∷ [])) (on_memory q rest ++ settling image c (armed_for image c q) q) (λ number. (offered-noted c number h, refl, λ there k. refl)) (λ has. (h, refl, has))
  fine-fits c (Pending.Arm ticks) rest h = noting-fits c (noted_cell image rest) (Todo.owe ∷ Todo.show (Pending.Arm ticks) rest ∷ []) (λ number. (offered-noted c number h, refl, λ there k. refl)) (λ has. (h, refl, unnoted c (Pending.Arm ticks) refl))
  fine-fits c (Pending.ClearInit a) rest h = clear-fits c (row_named image a == own_row image c.thread) a rest refl h
  fine-fits c (Pending.Probe a amount) rest h = either-look image (Fits image c) amount _ (λ x k. k) (h, refl, unnoted c (Pending.Probe a amount) refl)
  fine-fits c (Pending.CopyIn a amount) rest h = either-look image (Fits image c) amount _ (λ x k. k) (h, refl, unnoted c (Pending.CopyIn a amount) refl)
  fine-fits c q rest h = (h, refl, unnoted c q refl)

  -- the fine steps of a step are by what of the thread stays in its visits
  fine-same : (c : Context) (steps : Steps) (q : Pending) (rest : Steps) → fine_steps image (record c { pending = steps }) q rest ≡ fine_steps image c q rest
  fine-same c steps (Pending.Probe a amount) rest = refl
  fine-same c steps q rest = refl

  passes-fit : (c : Context) (who x : ℕ) (todo : Todos) → Passes image c who todo → x ≢ own_row image c.thread → Fits image c (passes who x todo)
  passes-fit c who x todo h other =
      elim (nat_lt x ROWS) as (λ b. Fits image c (if b then Todo.pass who x ∷ todo else todo)) [
        | true ↦ (h, other)
        | false ↦ subst (Fits image c) (sym h.behind) (fine-fits c h.step h.rest (passed h.pending))
      ]

  drops-fit : (c : Context) (x : ℕ) (todo : Todos) → Drops image c todo → Fits image c (drops x todo)
  drops-fit c x todo h =
      elim (nat_lt x ROWS) as (λ b. Fits image c (if b then Todo.drop x ∷ todo else todo)) [
        | true ↦ h
        | false ↦ subst (Fits image c) (sym h.behind) (fine-fits c h.step h.rest (dropped h.pending))
      ]

  turn-ends : (c : Context) (b : Bool) → c.ended ≡ b → c.pending ≡ [] → Fits image c (end_of_turn image b)
  turn-ends c true e h = tt
  turn-ends c false e h = (inl h, rests-on c e, refl)

  next-fits : (c : Context) (steps : Steps) → c.pending ≡ steps → Fits image c (next_steps image c steps)
  next-fits c [] h = turn-ends c c.ended refl h
  next-fits c (Pending.Resume ∷ rest) h = (inr (ap waits h), steps-on c Pending.Resume rest h, refl)
  next-fits c (Pending.Inherit who ∷ q ∷ rest) h =
      passes-fit c who.0 (but (own_row image c.thread) 0) (fine_steps image c q rest)
      (record { child = who; step = q; rest = rest; pending = h; same = refl; behind = refl }) (but-other (own_row image c.thread) 0)
  next-fits c (Pending.Drops from ∷ q ∷ rest) h =
      drops-fit c from (fine_steps image c q rest) (record { from = from; step = q; rest = rest; pending = h; behind = refl })
  next-fits c (Pending.Probe a amount ∷ rest) h = fine-fits c (Pending.Probe a amount) rest (goes h)
  next-fits c (Pending.CopyIn a amount ∷ rest) h = fine-fits c (Pending.CopyIn a amount) rest (goes h)
  next-fits c (q ∷ rest) h = fine-fits c q rest (goes h)

  filled-fits : (c : Context) (todo : Todos) → Fits image c todo → Fits image c (filled_up image c todo)
  filled-fits c [] h = next-fits c c.pending refl
  filled-fits c (q ∷ todo) h = h

  -- An errand stands in front.

  errand-fits : (c : Context) (q : Todo) (todo : Todos) → is_errand q ≡ true → Fits image c todo → Fits image c (q ∷ todo)
  errand-fits c (Todo.wake who told) todo on h = h
  errand-fits c (Todo.look who site before) todo on h = h
  errand-fits c (Todo.tell_cut who) todo on h = h
  errand-fits c (Todo.rouse who) todo on h = h
  errand-fits c q todo on h = absurd (false≢true on)

  wakes-fit : (c : Context) (ws : List (ThreadIx × Told)) (todo : Todos) → Fits image c todo → Fits image c (wakes ws todo)
  wakes-fit c [] todo h = h
  wakes-fit c (w ∷ ws) todo h = wakes-fit c ws todo h

  -- A cleaning stands in front.

  first-fits : (c : Context) (x : ℕ) (o : Option ℕ) (todo : Todos) → thread_of_row image x ≡ o → Fits image c todo → Fits image c (cleaning_of x o ++ todo)
  first-fits c x None todo at h = h
  first-fits c x (Some who) todo at h = h

  later-fits : (c : Context) (q : Todo) (old new : Todos) → is_cleaning_todo q ≡ true → (Fits image c old → Fits image c new) → Fits image c (q ∷ old) → Fits image c (q ∷ new)
  later-fits c (Todo.clean_pair who y) old new k more h = more h
  later-fits c (Todo.wipe y) old new k more h = more h
  later-fits c (Todo.vacate y) old new k more h = more h
  later-fits c (Todo.recycle y) old new k more h = more h
  later-fits c q old new k more h = absurd (false≢true k)

  -- A step.

  turn-fits : (c : Context) → (c.pending ≡ []) × (c.ended ≡ false) → Fits image c (turn image c)
  turn-fits c h = by (instruction_at image c.place) refl
    where
      by : (instr : Option Instr) → instruction_at image c.place ≡ instr → Fits image c (turn_of image instr)
      by None e = (exits h.0 h.1 e, refl, unnoted c Pending.Exit refl)
      by (Some instr) e = (begins h.0 h.1 (ap is_some e), refl, unnoted c Pending.Begin refl)

  take-fits : (p : Processor) (moved : Exchange) → p.todo ≡ [] → IsAtRest moved → ListIs image (after_take image p moved)
  take-fits p (Exchange.thread c None) idle h = by (is_empty c.pending) refl
    where
      by : (b : Bool) → is_empty c.pending ≡ b → ListIs image (if b then record p { context = c; todo = turn image c } else refilled_by image (record p { context = c }) [])
      by true e = record { fits = turn-fits c (h e) }
      by false e = record { fits = filled-fits c [] tt }
  take-fits p (Exchange.mark deadline mark) idle h = record { fits = tt }
  take-fits p (Exchange.thread c (Some told)) idle h = record { fits = filled-fits (resumed image c told) [] tt }
  take-fits p moved idle h = record { fits = subst (Fits image p.context) (sym idle) tt }

  dropped-drops : (c : Context) (x : ℕ) (todo : Todos) (b : Bool) → Drops image c todo → Drops image (dropped_at image c x b) todo
  dropped-drops c x todo true h = h
  dropped-drops c x todo false h =
      record {
        from = x + 1;
        step = h.step;
        rest = h.rest;
        pending = ap (λ (steps : Steps). (dropped_at image (record c { pending = steps }) x false).pending) h.pending;
        behind = h.behind ∙ sym (fine-same c (dropped_at image c x false).pending h.step h.rest);
      }

  -- what stands behind a step that was shown, with the own word to be read once more
  bare-behind : (todo : Todos) (site : ℕ) → Bare image todo → Bare image (todo ++ Todo.reread site ∷ [])
  bare-behind [] site h = tt
  bare-behind (Todo.show q rest ∷ todo) site h = absurd h
  bare-behind (Todo.pass who x ∷ todo) site h = absurd h
  bare-behind (Todo.drop x ∷ todo) site h = absurd h
  bare-behind (Todo.park ∷ todo) site h = absurd h
  bare-behind (Todo.sleep ∷ todo) site h = absurd h
  bare-behind (Todo.add d ∷ todo) site h = (h.0, bare-behind todo site h.1)
  bare-behind (q ∷ todo) site h = bare-behind todo site h

  waits-bare : (q : Pending) (e : FineStep) (todo : Todos) → Bare image todo → Bare image (waits_behind image q e todo)
  waits-bare q e todo h = by (answer_in (act_in e.act)) (noted_cell image (q ∷ []))
    where
      by : (answer : Answer) (site : Option ℕ) → Bare image (rereads image answer site todo)
      by Answer.Wait (Some site) = bare-behind todo site h
      by Answer.Wait None = h
      by (Answer.Now reply) site = h

  show-fits : (p : Processor) (e : FineStep) (q : Pending) (rest : Steps) (todo : Todos) → Bare image todo → ListIs image (after_show image p e q rest todo)
  show-fits p e q rest todo h =
      let c = continues image p.context 0 q rest (act_in e.act) e.moved in
      let there = waits_behind image q e todo in
      record {
        fits = looks-kept image (Fits image c) (errand-fits c) (λ x z k. k) p.context q e (behind_step image p.context q e.moved (filled_up image c there))
            (behind-kept image (Fits image c) (errand-fits c) (λ x z k. k) p.context q e.moved (filled_up image c there) (filled-fits c there (bare-fits c there (waits-bare q e todo h))));
      }

  -- one that is found suspended at the begin of its turn is at rest
  away-fits : (c : Context) (doomed : Bool) → (c.pending ≡ []) × (c.ended ≡ false) → Fits image c (put_away doomed)
  away-fits c true h = tt
  away-fits c false h = (h.0, h.1, refl)

  begin-fits : (p : Processor) (e : FineStep) (q : Pending) (rest : Steps) (todo : Todos) (b : Bool) → (b ≡ true → (p.context.pending ≡ []) × (p.context.ended ≡ false)) → Bare image todo
      → ListIs image (if b then record p { todo = put_away (thread_in e.word).doomed } else after_show image p e (shown_step image q e.act) rest todo)
  begin-fits p e q rest todo true rests h = record { fits = away-fits p.context (thread_in e.word).doomed (rests refl) }
  begin-fits p e q rest todo false rests h = show-fits p e (shown_step image q e.act) rest todo h

  refilled-fits : (p : Processor) (todo : Todos) → Fits image p.context todo → ListIs image (refilled_by image p todo)
  refilled-fits p todo h = record { fits = filled-fits p.context todo h }

  -- what is known of a step: a thread that is taken, or roused, and one whose word is read at the begin of its turn, is at rest
  pub record Rests (p : Processor) (e : FineStep) : Type 0 where
    pub taken : p.todo ≡ [] → IsAtRest e.moved
    pub roused : (who : ℕ) (todo : Todos) → p.todo ≡ Todo.rouse who ∷ todo → is_void e.act ≡ false → (context_in e.moved).pending ≡ []
    pub read : (q : Pending) (rest : Steps) (todo : Todos) → p.todo ≡ Todo.show q rest ∷ todo → is_word_read e.act ≡ true → (p.context.pending ≡ []) × (p.context.ended ≡ false)

  goes-fits : (p : Processor) (e : FineStep) (todo : Todos) → p.todo ≡ todo → Rests p e → Fits image p.context todo → ListIs image (goes_on_by image p e todo)
  goes-fits p e [] at r h = take-fits p e.moved at (r.taken at)
  goes-fits p e (Todo.show q rest ∷ todo) at r h =
      begin-fits p e q rest todo (is_word_read e.act) (r.read q rest todo at) (subst (Bare image) (sym h.1) (behind-bare p.context q))
  goes-fits p e (Todo.hold ∷ todo) at r h = record { fits = h }
  goes-fits p e (Todo.let_go ∷ todo) at r h = refilled-fits p todo h
  goes-fits p e (Todo.read_claim d ∷ todo) at r h =
      record { fits = subst (λ (c : Context). Fits image c (goes_on_by image p e (Todo.read_claim d ∷ todo)).todo) (sym (claim-context image p e d todo)) (claim-kept image (Fits image p.context) (λ z k. k) p e d todo (λ x some. h) h) }
  goes-fits p e (Todo.read_done d ∷ todo) at r h = refilled-fits p todo h
  goes-fits p e (Todo.region_load ∷ todo) at r h = record { fits = h }
  goes-fits p e (Todo.write_claim d ∷ todo) at r h = record { fits = h }
  goes-fits p e (Todo.edit d q ∷ todo) at r h = record { fits = h }
  goes-fits p e (Todo.size_look x ∷ todo) at r h = record { fits = h }
  goes-fits p e (Todo.end_call x ∷ todo) at r h = refilled-fits p todo h
  goes-fits p e (Todo.wake who told ∷ todo) at r h = refilled-fits p todo h
  goes-fits p e (Todo.add c ∷ todo) at r h = refilled-fits p todo h.1
  goes-fits p e (Todo.pass who x ∷ todo) at r h =
      let next = but (own_row image p.context.thread) (x + 1) in refilled-fits p (passes who next todo) (passes-fit p.context who next todo h.0 (but-other (own_row image p.context.thread) (x + 1)))
  goes-fits p e (Todo.drop x ∷ todo) at r h =
      let c = dropped_at image p.context x (is_visit e.act) in
      refilled-fits (record p { context = c }) (drops (x + 1) todo) (drops-fit c (x + 1) todo (dropped-drops p.context x todo (is_visit e.act) h))
  goes-fits p e (Todo.clean_pair who x ∷ todo) at r h = record { fits = either image (Fits image p.context) (nat_lt (x + 1) ROWS) (Todo.clean_pair who (x + 1)) todo (λ few k. k) h }
  goes-fits p e (Todo.wipe x ∷ todo) at r h = record { fits = h }
  goes-fits p e (Todo.vacate x ∷ todo) at r h = record { fits = h }
  goes-fits p e (Todo.recycle x ∷ todo) at r h = refilled-fits p todo h
  goes-fits p e (Todo.park ∷ todo) at r h = record { fits = tt }
  goes-fits p e (Todo.done ∷ todo) at r h = record { fits = tt }
  goes-fits p e (Todo.note site ∷ todo) at r h = record { fits = h (thread_in e.word).number }
  goes-fits p e (Todo.owe ∷ todo) at r h = record { fits = h }
  goes-fits p e (Todo.settle deadline mark ∷ todo) at r h = refilled-fits p todo h
  goes-fits p e (Todo.reread site ∷ todo) at r h =
      let w = thread_in e.word in
      let q = Todo.look p.context.thread site w.number in refilled-fits p (if w.aborted then q ∷ todo else todo) (either image (Fits image p.context) w.aborted q todo (λ b k. k) h)
  goes-fits p e (Todo.look who site before ∷ todo) at r h =
      refilled-fits p (if is_void e.act then todo else Todo.tell_cut who ∷ todo) (unless image (Fits image p.context) (is_void e.act) (Todo.tell_cut who) todo (λ b k. k) h)
  goes-fits p e (Todo.tell_cut who ∷ todo) at r h = refilled-fits p todo h
  goes-fits p e (Todo.rouse who ∷ todo) at r h =
      let q = Todo.add (context_in e.moved) in
      refilled-fits p (if is_void e.act then todo else q ∷ todo) (unless image (Fits image p.context) (is_void e.act) q todo (λ b k. (r.roused who todo at b, k)) h)
  goes-fits p e (Todo.sleep ∷ todo) at r h = record { fits = subst (Fits image (record no_context { thread = p.context.thread; ended = true })) (sym h.2) tt }
  goes-fits p e (Todo.reread_asleep ∷ todo) at r h =
      record { fits = either image (Fits image p.context) (is_awake (thread_in e.word)) (Todo.rouse p.context.thread) todo (λ b k. k) h }
  goes-fits p e (Todo.unshut who ∷ todo) at r h = record { fits = h }
  goes-fits p e (Todo.leave ∷ todo) at r h = record { fits = wakes-fit p.context (told_all (woken_in (act_in e.act))) todo h.1 }
  goes-fits p e (Todo.handle deadline mark ∷ todo) at r h = by (is_void e.act)
    where
      by : (b : Bool) → ListIs image (record p { todo = if b then todo else wakes (told_marked mark (woken_in (act_in e.act))) todo })
      by true = record { fits = h }
      by false = record { fits = wakes-fit p.context (told_marked mark (woken_in (act_in e.act))) todo h }
  goes-fits p e (Todo.paid ∷ todo) at r h = record { fits = tt }

  with-cleaned-fits : (p : Processor) (e : FineStep) (b : Bool) → ListIs image p → ListIs image (with_cleaned image p e b)
  with-cleaned-fits p e false h = h
  with-cleaned-fits p e true h =
      let x = row_number e.site in record { fits = cleaning-kept image (λ old new. Fits image p.context old → Fits image p.context new) x (first-fits p.context x) (later-fits p.context) p.todo h.fits }

  -- A processor that takes threads at rest has a list that fits, after each of its steps.
  pub list-next : (p : Processor) (e : FineStep) → ListIs image p → Rests p e → ListIs image (p_next image p e)
  list-next p e was rest = acted-fits e.act (with-cleaned-fits (goes_on_by image p e p.todo) e (begins_cleaning e) (goes-fits p e p.todo refl rest was.fits))
    where
      acted-fits : {q : Processor} → (act : FineAct) → ListIs image q → ListIs image (with_actor image q act)
      acted-fits (FineAct.Shown event more) h = record { fits = h.fits }
      acted-fits (FineAct.Unseen unseen) h = h
