-- The note in a thread's word is of a cell in which threads wait, after every lawful step.
use Rattle.um_refinement.proofs.Words.{◌≡◌, ℕ, ◌+◌, ◌<◌, Bool, true, false, [], ◌∷◌, Option, Some, None, refl, sym, ap, ◌∙◌, subst, if◌then◌else◌, unwrap_or, ltb-true, true≢false, ROWS, THREADS, Act, Exchange, FineAct, FineStep, Unseen, Pending, Steps, ThreadWord, thread_after, says_show, says, same_site, Site, Todo, Todos, Fine, State, word, row_named, is_word_read, is_visit}
use Rattle.um_machine.specs.State.{is_living}
use Rattle.um_words.specs.Threads.{thread_after_act}
use Rattle.um_fine.specs.Answers.{is_due_act, is_killed, is_shut_act, is_tick, is_void}
use Rattle.um_fine.specs.Asks.{begins, says_turn}
use Rattle.um_fine.specs.Places.{if_patient, is_patient, may_wait, noted_cell}
use Rattle.um_refinement.specs.Frames.{IsNoted, accesses, acts, arming}
use Rattle.um_refinement.specs.Stops.{is_waiting_site}
use Rattle.um_refinement.proofs.Erased.{around}
use Rattle.um_refinement.proofs.First.{none-some}
use Rattle.um_refinement.proofs.Leaves.{Lawful}
use Rattle.um_refinement.proofs.MarksPart.{object-waits}
use Rattle.um_refinement.proofs.RowsPart.{named-below}
use Rattle.um_refinement.proofs.SchedulerSteps.{made-says}
use Rattle.um_refinement.proofs.SleepFlags.{word-else, word-here}
use Rattle.um_refinement.proofs.StepReads.{is-behind}

some-one : {a b : ℕ} → Some a ≡ Some b → a ≡ b
some-one {a} h = ap (λ (o : Option ℕ). unwrap_or o a) h

abbrev pub is_note : FineAct → Bool
is_note (FineAct.Unseen (Unseen.Note site)) = true
is_note act = false

abbrev pub is_note_step : Todo → Bool
is_note_step (Todo.note site) = true
is_note_step q = false

either-plain : (b : Bool) (one other : FineAct) → is_note one ≡ false → is_note other ≡ false → is_note (if b then one else other) ≡ false
either-plain true one other h k = h
either-plain false one other h k = k

-- a step but a note puts none into a word
note-left : (w : ThreadWord) (act : FineAct) (site : ℕ) → is_note act ≡ false → (thread_after w act).note ≡ Some site → w.note ≡ Some site
note-left w (FineAct.Shown said more) site plain h = by said.act h
  where
    flag : (b : Bool) (z : ThreadWord) → z.note ≡ w.note → (if b then z else w).note ≡ Some site → w.note ≡ Some site
    flag true z same h = sym same ∙ h
    flag false z same h = h

    by : (act : Act) → (thread_after_act w more act).note ≡ Some site → w.note ≡ Some site
    by Act.Exit h = absurd (none-some h)
    by (Act.Fatal reason cause) h = absurd (none-some h)
    by Act.Killed h = absurd (none-some h)
    by (Act.Answered reply) h = absurd (none-some h)
    by (Act.Start who) h = absurd (none-some h)
    by (Act.Abort who done) h = flag (is_living w.life) (record w { aborted = true }) refl h
    by (Act.Suspend who done) h = flag (is_living w.life) (record w { suspended = true }) refl h
    by (Act.Continue who done) h = flag (is_living w.life) (record w { suspended = false }) refl h
    by act h = h
note-left w (FineAct.Unseen Unseen.Hold) site plain h = h
note-left w (FineAct.Unseen Unseen.LetGo) site plain h = h
note-left w (FineAct.Unseen (Unseen.Note there)) site plain h = absurd (true≢false plain)
note-left w (FineAct.Unseen u) site plain h = h

module _ (f : Fine) (m : State) (e : FineStep) (law : Lawful f m e) where
  open around f e use {later, processor as p}
  open is-behind f m e law use {frame}

  -- the cell that an act which may wait notes
  pub noted-well : (steps : Steps) (site : ℕ) → noted_cell f.image steps ≡ Some site → is_waiting_site site ≡ true
  noted-well [] site h = absurd (none-some h)
  noted-well (Pending.Work a ask ∷ rest) site h = by (may_wait ask) h
    where
      by : (b : Bool) → if_patient b (168 + row_named f.image a) ≡ Some site → is_waiting_site site ≡ true
      by true k = subst (λ n. is_waiting_site n ≡ true) (some-one k) (object-waits f m e law (row_named f.image a) (ltb-true (row_named f.image a) ROWS (named-below f m e law a)))
      by false k = absurd (none-some k)
  noted-well (Pending.Join who timeout ∷ rest) site h = by (is_patient timeout) h
    where
      by : (b : Bool) → if_patient b 308 ≡ Some site → is_waiting_site site ≡ true
      by true k = subst (λ n. is_waiting_site n ≡ true) (some-one k) refl
      by false k = absurd (none-some k)
  noted-well (Pending.FutexWait a value timeout ∷ rest) site h = by (is_patient timeout) h
    where
      by : (b : Bool) → if_patient b 304 ≡ Some site → is_waiting_site site ≡ true
      by true k = subst (λ n. is_waiting_site n ≡ true) (some-one k) refl
      by false k = absurd (none-some k)
  noted-well (q ∷ rest) site h = absurd (none-some h)

  pub plain-act : (q : Todo) (todo : Todos) → p.todo ≡ q ∷ todo → is_note_step q ≡ false → is_note e.act ≡ false
  plain-act q todo at other = ap is_note (made-says f m e law (q ∷ todo) at) ∙ by q other
    where
      rests : (r : Pending) → is_note (begins f.image p r e.act) ≡ false
      rests r = either-plain (is_word_read e.act) _ _ refl (either-plain (is_killed e.act) _ _ refl refl)

      shown : (r : Pending) → is_note (says_show f.image p r e.act) ≡ false
      shown Pending.Begin = rests Pending.Begin
      shown Pending.Exit = rests Pending.Exit
      shown r = refl

      by : (q : Todo) → is_note_step q ≡ false → is_note (says f.image p (q ∷ todo) e.act e.moved) ≡ false
      by (Todo.note site) h = absurd (true≢false h)
      by (Todo.show r rest) h = shown r
      by (Todo.rouse who) h = either-plain (is_void e.act) _ _ refl refl
      by (Todo.look who site before) h = either-plain (is_void e.act) _ _ refl refl
      by Todo.leave h = either-plain (is_shut_act e.act) _ _ refl refl
      by (Todo.handle deadline mark) h = either-plain (is_void e.act) _ _ refl refl
      by (Todo.pass who x) h = either-plain (is_visit e.act) _ _ refl refl
      by (Todo.drop x) h = either-plain (is_visit e.act) _ _ refl refl
      by (Todo.clean_pair who x) h = either-plain (is_visit e.act) _ _ refl refl
      by q h = refl

  pub idle-plain : p.todo ≡ [] → is_note e.act ≡ false
  idle-plain at = ap is_note (made-says f m e law [] at) ∙ either-plain (is_due_act e.act) _ _ refl (either-plain (is_tick e.act) _ _ refl (turn e.moved))
    where
      turn : (moved : Exchange) → is_note (says_turn f.image p moved) ≡ false
      turn (Exchange.thread c None) = refl
      turn (Exchange.thread c (Some told)) = refl
      turn moved = refl

  pub note-cell : (t : ℕ) → t < THREADS → (site : ℕ) → (word later t).note ≡ Some site → is_waiting_site site ≡ true
  note-cell t few site h = by (same_site e.site (Site.thread t)) refl
    where
      old : (word f t).note ≡ Some site → is_waiting_site site ≡ true
      old = (law.rel.threads t few).note.cell site

      on-word : same_site e.site (Site.thread t) ≡ true → (thread_after (word f t) e.act).note ≡ Some site
      on-word on = sym (ap (λ (w : ThreadWord). w.note) (word-here f m e law t few on)) ∙ h

      noted : (there : ℕ) (todo : Todos) → p.todo ≡ Todo.note there ∷ todo → (thread_after (word f t) e.act).note ≡ Some site → is_waiting_site site ≡ true
      noted there todo at k =
          let is : Some there ≡ Some site = sym (ap (λ a. (thread_after (word f t) a).note) (made-says f m e law (Todo.note there ∷ todo) at)) ∙ k in
          subst (λ n. is_waiting_site n ≡ true) (some-one is) (in-frame (frame (Todo.note there) todo at))
        where
          in-frame : {todo : Todos} → IsNoted f.image there todo → is_waiting_site there ≡ true
          in-frame (acts {q} is) = noted-well (q ∷ []) there is
          in-frame (accesses {q} is) = noted-well (q ∷ []) there is
          in-frame (arming {q} {rest} arms is) = noted-well rest there is

      here : (todo : Todos) → p.todo ≡ todo → (thread_after (word f t) e.act).note ≡ Some site → is_waiting_site site ≡ true
      here [] at k = old (note-left (word f t) e.act site (idle-plain at) k)
      here (Todo.note there ∷ todo) at k = noted there todo at k
      here (q ∷ todo) at k = old (note-left (word f t) e.act site (plain-act q todo at refl) k)

      by : (b : Bool) → same_site e.site (Site.thread t) ≡ b → is_waiting_site site ≡ true
      by true on = here p.todo refl (on-word on)
      by false off = old (sym (ap (λ (w : ThreadWord). w.note) (word-else f m e law t few off)) ∙ h)
