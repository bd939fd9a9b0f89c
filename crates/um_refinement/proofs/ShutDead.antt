-- An index that is shut doesn't live, after every lawful step.
use Rattle.um_refinement.proofs.Words.{Mode, Row, ℤ, allows, by_me, ◌≡◌, ◌≢◌, ◌⊎◌, inl, inr, ℕ, ◌<◌, Bool, true, false, List, [], ◌∷◌, Some, None, refl, sym, ap, ◌∙◌, subst, arith, ◌==◌, if◌then◌else◌, and_parts, eqb-false, eqb-true, get_or-set_other, get_or-set_same, same-sound, slice_index_or, slice_set, false≢true, true≢false, THREADS, Act, Answer, Exchange, FineAct, FineStep, Life, Unseen, Pending, Steps, ThreadIx, ThreadWord, State, thread_at, thread_after, to_thread, act_in, answer_in, says, says_show, is_word_read, is_visit, same_site, Site, Todo, Todos, Fine, word}
use Rattle.um_base.specs.declared.names.Access.TheVariants as Access
use Rattle.um_machine.specs.Joins as Plain
use Rattle.um_machine.specs.State.{is_living}
use Rattle.um_words.specs.Threads.{counted_thread, thread_after_act}
use Rattle.um_fine.specs.Answers.{is_due_act, is_killed, is_shut_act, is_tick, is_void, woken_in}
use Rattle.um_fine.specs.Asks.{begins, says_turn}
use Rattle.um_fine.specs.Joins.{Joins, begins_waiting, is_shut, join_after}
use Rattle.um_refinement.specs.Fine.{joins}
use Rattle.um_refinement.specs.Stops.{starts}
use Rattle.um_refinement.proofs.CallsProper.{AreProper}
use Rattle.um_refinement.proofs.Erased.{around}
use Rattle.um_refinement.proofs.JoinsPart.{cell-untouched}
use Rattle.um_refinement.proofs.LeaveSteps.{leave-ending}
use Rattle.um_refinement.proofs.Leaves.{Beside, Lawful, Leaves, beside as beside_it, cleans, cuts, drops, event, expires, leaves as leaves_it, nothing, passes, recycles, resumes, ticks, times_out}
use Rattle.um_refinement.proofs.Offered.{IsStep, Shows, at-made, either-act, site-is}
use Rattle.um_refinement.proofs.ParkedPart.{joins-else, joins-later}
use Rattle.um_refinement.proofs.SchedulerSteps.{made-says}
use Rattle.um_refinement.proofs.SleepFlags.{word-else, word-here}
use Rattle.um_refinement.proofs.WordsKept.{IsShown}
use Rattle.um_refinement.proofs.WordsPart.{words-part}

abbrev starts_leaving : Todos → Bool
starts_leaving (Todo.leave ∷ todo) = true
starts_leaving todo = false

abbrev is_start_act : Act → Bool
is_start_act (Act.Start who) = true
is_start_act act = false

abbrev is_start : FineAct → Bool
is_start (FineAct.Shown said more) = is_start_act said.act
is_start act = false

-- only a start makes a thread live
life-left : (w : ThreadWord) (act : FineAct) → is_start act ≡ false → is_living (thread_after w act).life ≡ true → is_living w.life ≡ true
life-left w (FineAct.Shown said more) plain h = by said.act plain h
  where
    flag : (b : Bool) (z : ThreadWord) → z.life ≡ w.life → is_living (if b then z else w).life ≡ true → is_living w.life ≡ true
    flag true z same h = ap is_living (sym same) ∙ h
    flag false z same h = h

    by : (act : Act) → is_start_act act ≡ false → is_living (thread_after_act w more act).life ≡ true → is_living w.life ≡ true
    by Act.Exit plain h = absurd (false≢true h)
    by (Act.Fatal reason cause) plain h = absurd (false≢true h)
    by Act.Killed plain h = absurd (false≢true h)
    by (Act.Start who) plain h = absurd (true≢false plain)
    by (Act.Abort who done) plain h = flag (is_living w.life) (record w { aborted = true }) refl h
    by (Act.Suspend who done) plain h = flag (is_living w.life) (record w { suspended = true }) refl h
    by (Act.Continue who done) plain h = flag (is_living w.life) (record w { suspended = false }) refl h
    by act plain h = h
life-left w (FineAct.Unseen Unseen.Hold) plain h = h
life-left w (FineAct.Unseen Unseen.LetGo) plain h = h
life-left w (FineAct.Unseen (Unseen.Note site)) plain h = h
life-left w (FineAct.Unseen u) plain h = h

abbrev who_shut : FineAct → ℕ
who_shut (FineAct.Unseen (Unseen.Shut who)) = who.0
who_shut act = 0

abbrev is_leave : Todo → Bool
is_leave Todo.leave = true
is_leave q = false

either-plain : (b : Bool) (one other : FineAct) → is_shut_act one ≡ false → is_shut_act other ≡ false → is_shut_act (if b then one else other) ≡ false
either-plain true one other h k = h
either-plain false one other h k = k

not-living : (life : Life) → Plain.has_ended life ≡ true → is_living life ≡ false
not-living Life.Ended h = refl
not-living Life.Living h = absurd (false≢true h)
not-living Life.Unborn h = absurd (false≢true h)

module _ (f : Fine) (m : State) (e : FineStep) (law : Lawful f m e) (proper : AreProper m.image m) (t : ℕ) (few : t < THREADS) where
  open around f e use {later, processor as p}

  stays-act : (q : Todo) (todo : Todos) → p.todo ≡ q ∷ todo → is_leave q ≡ false → is_shut_act e.act ≡ false
  stays-act q todo at other = ap is_shut_act (made-says f m e law (q ∷ todo) at) ∙ by q other
    where
      rests : (r : Pending) → is_shut_act (begins f.image p r e.act) ≡ false
      rests r = either-plain (is_word_read e.act) _ _ refl (either-plain (is_killed e.act) _ _ refl refl)

      shown : (r : Pending) → is_shut_act (says_show f.image p r e.act) ≡ false
      shown Pending.Begin = rests Pending.Begin
      shown Pending.Exit = rests Pending.Exit
      shown r = refl

      by : (q : Todo) → is_leave q ≡ false → is_shut_act (says f.image p (q ∷ todo) e.act e.moved) ≡ false
      by Todo.leave h = absurd (true≢false h)
      by (Todo.show r rest) h = shown r
      by (Todo.rouse who) h = either-plain (is_void e.act) _ _ refl refl
      by (Todo.look who site before) h = either-plain (is_void e.act) _ _ refl refl
      by (Todo.handle deadline mark) h = either-plain (is_void e.act) _ _ refl refl
      by (Todo.pass who x) h = either-plain (is_visit e.act) _ _ refl refl
      by (Todo.drop x) h = either-plain (is_visit e.act) _ _ refl refl
      by (Todo.clean_pair who x) h = either-plain (is_visit e.act) _ _ refl refl
      by q h = refl

  idle-stays : p.todo ≡ [] → is_shut_act e.act ≡ false
  idle-stays at = ap is_shut_act (made-says f m e law [] at) ∙ either-plain (is_due_act e.act) _ _ refl (either-plain (is_tick e.act) _ _ refl (turn e.moved))
    where
      turn : (moved : Exchange) → is_shut_act (says_turn f.image p moved) ≡ false
      turn (Exchange.thread c None) = refl
      turn (Exchange.thread c (Some told)) = refl
      turn moved = refl

  -- who tells those that wait for its end has ended
  leaving : (todo : Todos) → p.todo ≡ Todo.leave ∷ todo → p.context.thread ≡ t → is_living (thread_at m t).life ≡ false
  leaving todo at same =
      let ending = leave-ending f m law.rel law.sound proper e.cpu law.by.named e law.by.may law.taken todo at in
      subst (λ n. is_living (thread_at m n).life ≡ false) same (not-living (thread_at m p.context.thread).life (and_parts (Plain.has_ended (thread_at m p.context.thread).life) _ ending).0)

  Leaving : Type 0
  Leaving = (todo : Todos) × (p.todo ≡ Todo.leave ∷ todo) × (p.context.thread ≡ t)

  -- where a step shuts an index or leaves all
  by-site : (act : FineAct) → e.act ≡ act → (e.site ≡ Site.joins → is_shut (join_after (joins f) act e.moved) t ≡ true → (is_shut (joins f) t ≡ true) ⊎ Leaving) → is_shut (joins later) t ≡ true
      → (is_shut (joins f) t ≡ true) ⊎ Leaving
  by-site act said here shut = by (same_site e.site Site.joins) refl
    where
      by : (b : Bool) → same_site e.site Site.joins ≡ b → (is_shut (joins f) t ≡ true) ⊎ Leaving
      by true on = let at = same-sound e.site Site.joins on in here at (sym (ap (λ (j : Joins). is_shut j t) (joins-later f m e law at act said)) ∙ shut)
      by false off = inl (sym (ap (λ (j : Joins). is_shut j t) (joins-else f m e law off)) ∙ shut)

  sets : (who : ℕ) (todo : Todos) → p.todo ≡ Todo.leave ∷ todo → who ≡ p.context.thread → slice_index_or (slice_set (joins f).shut who true) t true ≡ true → (is_shut (joins f) t ≡ true) ⊎ Leaving
  unfolding Leaving
  sets who todo at own shut = by (who == t) refl
    where
      by : (b : Bool) → (who == t) ≡ b → (is_shut (joins f) t ≡ true) ⊎ Leaving
      by true k = inr (todo, at, sym own ∙ eqb-true who t k)
      by false k = inl (sym (get_or-set_other (joins f).shut who t true true (λ z. eqb-false who t k (sym z))) ∙ shut)

  Where : Type 0
  Where = is_shut (joins later) t ≡ true → (is_shut (joins f) t ≡ true) ⊎ Leaving

  quiet : (act : FineAct) → e.act ≡ act → ((j : Joins) → join_after j act e.moved ≡ j) → Where
  unfolding Where
  quiet act said same = by-site act said (λ at shut. inl (sym (ap (λ (j : Joins). is_shut j t) (same (joins f))) ∙ shut))

  same-shut : (act : FineAct) → e.act ≡ act → ((j : Joins) → (join_after j act e.moved).shut ≡ j.shut) → Where
  unfolding Where
  same-shut act said same = by-site act said (λ at shut. inl (sym (ap (λ (l : List Bool). slice_index_or l t true) (same (joins f))) ∙ shut))

  unseen-where : (u : Unseen) → e.act ≡ FineAct.Unseen u → Where
  unfolding Where
  unseen-where (Unseen.Shut who) said = by-site (FineAct.Unseen (Unseen.Shut who)) said (λ at shut. by p.todo refl shut)
    where
      by : (todo : Todos) → p.todo ≡ todo → slice_index_or (slice_set (joins f).shut who.0 true) t true ≡ true → (is_shut (joins f) t ≡ true) ⊎ Leaving
      by [] at shut = absurd (true≢false (sym (ap is_shut_act said) ∙ idle-stays at))
      by (Todo.leave ∷ todo) at shut = sets who.0 todo at (ap who_shut (sym said ∙ (made-says f m e law (Todo.leave ∷ todo) at ∙ ap (λ b. if b then FineAct.Unseen (Unseen.Shut (to_thread p.context.thread)) else by_me f.image p (Act.Left (to_thread p.context.thread) (woken_in (act_in e.act)))) (ap is_shut_act said)))) shut
      by (q ∷ todo) at shut = absurd (true≢false (sym (ap is_shut_act said) ∙ stays-act q todo at refl))
  unseen-where (Unseen.Unshut who) said = by-site (FineAct.Unseen (Unseen.Unshut who)) said (λ at shut. inl (by (who.0 == t) refl shut))
    where
      by : (b : Bool) → (who.0 == t) ≡ b → slice_index_or (slice_set (joins f).shut who.0 false) t true ≡ true → is_shut (joins f) t ≡ true
      by true k shut =
          let long = law.rel.joins.shut in
          absurd (true≢false (sym shut ∙ (ap (λ n. slice_index_or (slice_set (joins f).shut n false) t true) (eqb-true who.0 t k) ∙ get_or-set_same (joins f).shut t false true (omega (arith, few, long)))))
      by false k shut = sym (get_or-set_other (joins f).shut who.0 t false true (λ z. eqb-false who.0 t k (sym z))) ∙ shut
  unseen-where Unseen.Sleep said = same-shut (FineAct.Unseen Unseen.Sleep) said (λ j. refl)
  unseen-where (Unseen.Rouse who) said = same-shut (FineAct.Unseen (Unseen.Rouse who)) said (λ j. refl)
  unseen-where u said = same-shut (FineAct.Unseen u) said (λ j. refl)

  by-event : (q : Pending) (rest : Steps) (todo : Todos) (x : ℕ) → Shows f m e.cpu e q rest todo → IsShown q → IsStep f m e.cpu e x q → Where
  by-event (Pending.Join who timeout) rest todo x h shown is = same-shut _ is.said (λ j. begun j (answer_in (act_in e.act)))
    where
      begun : (j : Joins) (a : Answer) → (begins_waiting j e.moved a).shut ≡ j.shut
      begun j Answer.Wait = refl
      begun j (Answer.Now reply) = refl
  by-event Pending.Left rest todo x h shown is = absurd shown
  by-event (Pending.TimeOut who) rest todo x h shown is = absurd shown
  by-event (Pending.Cut who) rest todo x h shown is = absurd shown
  by-event q rest todo x h shown is = quiet _ is.said (λ j. cell-untouched f.image p j e.moved q (act_in e.act) tt)

  on-beside : {u x : ℕ} {q : Pending} → Beside f m e u x q → Where
  unfolding Where
  on-beside (cuts who site before x todo at place within said) = same-shut _ said (λ j. refl)
  on-beside (times_out deadline site x who todo at place within said) = same-shut _ said (λ j. refl)
  on-beside (expires deadline x todo at within said) = quiet _ said (λ j. refl)
  on-beside (ticks at said) = quiet _ said (λ j. refl)
  on-beside (leaves_it todo at said) = by-site _ said (λ there shut. sets p.context.thread todo at refl shut)

  -- who is shut now was, or tells those that wait for its end
  shut-where : (s : State) → Leaves f m e s → Where
  shut-where _ (nothing u said) = unseen-where u said
  shut-where _ (event q rest todo x h shown is) = by-event q rest todo x h shown is
  shut-where _ (resumes c told rest idle moved said) = quiet _ said (λ j. refl)
  shut-where _ (passes who x rest todo h said) = quiet _ said (λ j. refl)
  shut-where _ (drops from x rest todo h said) = quiet _ said (λ j. refl)
  shut-where _ (cleans who x rest todo h said) = quiet _ said (λ j. refl)
  shut-where _ (recycles x rest todo at l said chosen) = quiet _ said (λ j. refl)
  shut-where _ (beside_it u x q how chosen started) = on-beside how

  pub shut-by : (s : State) → Leaves f m e s → is_shut (joins later) t ≡ true → (is_shut (joins f) t ≡ true) ⊎ ((todo : Todos) × (p.todo ≡ Todo.leave ∷ todo) × (p.context.thread ≡ t))
  unfolding Where Leaving
  shut-by s left shut = shut-where s left shut

  -- Who lives after a step lived, or is started by it.

  Starting : Type 0
  Starting = (who : ThreadIx) × (script : ℕ) × (stack : Row) × (priority : ℤ) × (mode : Mode) × (rest : Steps) × (todo : Todos) × (p.todo ≡ Todo.show (Pending.Start who script stack priority mode) rest ∷ todo) × (who.0 ≡ t)

  life-by : (act : FineAct) → e.act ≡ act → is_start act ≡ false → is_living (word later t).life ≡ true → is_living (word f t).life ≡ true
  life-by act said plain lives = by (same_site e.site (Site.thread t)) refl
    where
      by : (b : Bool) → same_site e.site (Site.thread t) ≡ b → is_living (word f t).life ≡ true
      by true on = life-left (word f t) act plain (sym (ap (λ (w : ThreadWord). is_living w.life) (word-here f m e law t few on ∙ ap (λ a. counted_thread (thread_after (word f t) a)) said)) ∙ lives)
      by false off = sym (ap (λ (w : ThreadWord). is_living w.life) (word-else f m e law t few off)) ∙ lives

  lives-by : (q : Pending) (rest : Steps) (todo : Todos) (x : ℕ) → Shows f m e.cpu e q rest todo → IsStep f m e.cpu e x q → is_living (word later t).life ≡ true → (is_living (word f t).life ≡ true) ⊎ Starting
  unfolding Starting
  lives-by (Pending.Start who script stack priority mode) rest todo x h is lives = by (who.0 == t) refl
    where
      by : (b : Bool) → (who.0 == t) ≡ b → (is_living (word f t).life ≡ true) ⊎ Starting
      by true k = inr (who, script, stack, priority, mode, rest, todo, at-made h tt, eqb-true who.0 t k)
      by false k = inl (sym (ap (λ (w : ThreadWord). is_living w.life) (word-else f m e law t few (ap (λ i. same_site i (Site.thread t)) (site-is h) ∙ k))) ∙ lives)
  lives-by (Pending.Load to a n) rest todo x h is lives = inl (life-by _ is.said (either-act is_start_act false (allows f.image p Access.Read a.0 n) _ _ refl refl) lives)
  lives-by (Pending.Store a n value) rest todo x h is lives = inl (life-by _ is.said (either-act is_start_act false (allows f.image p Access.Write a.0 n) _ _ refl refl) lives)
  lives-by (Pending.Fetch a) rest todo x h is lives = inl (life-by _ is.said (either-act is_start_act false (allows f.image p Access.Exec a.0 4) _ _ refl refl) lives)
  lives-by q rest todo x h is lives = inl (life-by _ is.said refl lives)

  lived : (s : State) → Leaves f m e s → is_living (word later t).life ≡ true → (is_living (word f t).life ≡ true) ⊎ Starting
  lived _ (nothing u said) lives = inl (life-by (FineAct.Unseen u) said refl lives)
  lived _ (event q rest todo x h shown is) lives = lives-by q rest todo x h is lives
  lived _ (resumes c told rest idle moved said) lives = inl (life-by _ said refl lives)
  lived _ (passes who x rest todo h said) lives = inl (life-by _ said refl lives)
  lived _ (drops from x rest todo h said) lives = inl (life-by _ said refl lives)
  lived _ (cleans who x rest todo h said) lives = inl (life-by _ said refl lives)
  lived _ (recycles x rest todo at l said chosen) lives = inl (life-by _ said refl lives)
  lived _ (beside_it u x q how chosen started) lives = by how
    where
      by : {u x : ℕ} {q : Pending} → Beside f m e u x q → (is_living (word f t).life ≡ true) ⊎ Starting
      by (cuts who site before x todo at place within said) = inl (life-by _ said refl lives)
      by (times_out deadline site x who todo at place within said) = inl (life-by _ said refl lives)
      by (expires deadline x todo at within said) = inl (life-by _ said refl lives)
      by (ticks at said) = inl (life-by _ said refl lives)
      by (leaves_it todo at said) = inl (life-by _ said refl lives)

  pub shut-dead : (s : State) → Leaves f m e s → is_shut (joins later) t ≡ true → (thread_at s t).life ≢ Life.Living
  unfolding Where Starting Leaving
  shut-dead s left shut = λ alive. by (shut-where s left shut) (lived s left (ap is_living ((words-part f m e law t few s left).life ∙ alive)))
    where
      word-life : (word f t).life ≡ (thread_at m t).life
      word-life = (law.rel.threads t few).word.life

      is-living : (life : Life) → is_living life ≡ true → life ≡ Life.Living
      is-living Life.Living h = refl
      is-living Life.Unborn h = absurd (false≢true h)
      is-living Life.Ended h = absurd (false≢true h)

      by : (is_shut (joins f) t ≡ true) ⊎ Leaving → (is_living (word f t).life ≡ true) ⊎ Starting → ⊥
      by (inl was) (inl lives) = (law.rel.threads t few).shut.dead was (is-living (thread_at m t).life (ap is_living (sym word-life) ∙ lives))
      by (inl was) (inr (who, script, stack, priority, mode, rest, todo, at, same)) =
          true≢false (sym was ∙ (law.rel.threads t few).shut.begins e.cpu law.by.named (ap starts at ∙ ap Some same))
      by (inr (todo, at, own)) (inl lives) = false≢true (sym (leaving todo at own) ∙ (ap is_living (sym word-life) ∙ lives))
      by (inr (todo, at, own)) (inr (who, script, stack, priority, mode, rest, list, there, same)) = true≢false (ap starts_leaving (sym at ∙ there))
