-- The clock has the machine's time and deadlines, after every lawful step.
use Rattle.um_refinement.proofs.Words.{◌≡◌, ℕ, Bool, true, false, [], ◌∷◌, ◌++◌, Some, Option, None, refl, sym, ap, ◌∙◌, false≢true, unwrap_or, Act, Pending, Steps, State, thread_at, FineAct, More, Unseen, to_thread, act_in, says_step, Exchange, FineStep, Site, Fine, Todo, Todos, same_site, same-sound}
use Rattle.um_machine.specs.Table as T
use Rattle.um_machine.specs.Time.{next_deadline}
use Rattle.um_fine.specs.Answers.{deadline_in, due_in, is_tick, mark_in}
use Rattle.um_fine.specs.Asks.{by_actor, says_turn}
use Rattle.um_fine.specs.Clock.{Clock, clock_after, deadlines}
use Rattle.um_refinement.specs.Fine.{clock}
use Rattle.um_refinement.specs.Lists.{is_arm}
use Rattle.um_refinement.specs.Timing.{ClockIs}
use Rattle.um_refinement.proofs.ClockSteps.{clock-else, clock-later, off-clock}
use Rattle.um_refinement.proofs.Erased.{around}
use Rattle.um_refinement.proofs.Kept.{IdleStep, gives, idle-step, ticks as time_goes, turns}
use Rattle.um_refinement.proofs.Leaves.{Beside, Lawful, Leaves, acting, beside, cleans, cuts, drops, event, expires, leaves as tells_left, mine, nothing, passes, recycles, resumes, ticks as time_passes, times_out}
use Rattle.um_refinement.proofs.MarkFacts.{deadlines-armed, deadlines-given, deadlines-settled}
use Rattle.um_refinement.proofs.MarksPart.{untimed}
use Rattle.um_refinement.proofs.Offered.{IsStep, Shows, act-is, site-is}
use Rattle.um_refinement.proofs.WordsKept.{IsShown}
use Rattle.um_refinement.proofs.Writes.{Makes, Part, read-same, reads-keeping, times}

-- all that a step may write but time
abbrev NoTimes : Part → Bool
NoTimes times = false
NoTimes part = true

module _ (m : State) (t x : ℕ) (q : Pending) (rest : Steps) (makes : Makes NoTimes q) where
  now-same : (T.after m t x q rest).now ≡ m.now
  now-same =
      read-same NoTimes (λ s. s.now) m
      (reads-keeping NoTimes (λ s. s.now) m.now (λ s threads. refl) (λ s objects. refl) (λ s bytes. (refl, refl)) (λ may s u y there. refl) (λ may s left. refl) (λ may s d ps. refl) (λ may s joins futexes. refl) (λ may s now armed. absurd may))
      t x q rest makes

  armed-same : (T.after m t x q rest).armed ≡ m.armed
  armed-same =
      read-same NoTimes (λ s. s.armed) m
      (reads-keeping NoTimes (λ s. s.armed) m.armed (λ s threads. refl) (λ s objects. refl) (λ s bytes. (refl, refl)) (λ may s u y there. refl) (λ may s left. refl) (λ may s d ps. refl) (λ may s joins futexes. refl) (λ may s now armed. absurd may))
      t x q rest makes

module _ (f : Fine) (m : State) (e : FineStep) (law : Lawful f m e) where
  open around f e use {later, processor as p}

  was : ClockIs f m
  was = law.rel.clock

  abbrev Same : Type 0
  Same = ((clock later).now ≡ (clock f).now) × (deadlines (clock later).marks ≡ deadlines (clock f).marks)

  -- where both keep time and deadlines
  kept : (s : State) → Same → s.now ≡ m.now → s.armed ≡ m.armed → ClockIs later s
  kept s same now armed = record { now = same.0 ∙ (was.now ∙ sym now); armed = same.1 ∙ (was.armed ∙ sym armed) }

  kept-by : (q : Pending) (t x : ℕ) (rest : Steps) → Same → Makes NoTimes q → ClockIs later (T.after m t x q rest)
  kept-by q t x rest same makes = kept (T.after m t x q rest) same (now-same m t x q rest makes) (armed-same m t x q rest makes)

  at-clock : (act : FineAct) → e.act ≡ act → ((clock_after (clock f) act e.moved).now ≡ (clock f).now) → (deadlines (clock_after (clock f) act e.moved).marks ≡ deadlines (clock f).marks) → Same
  at-clock act said now marks = by (same_site e.site Site.clock) refl
    where
      by : (b : Bool) → same_site e.site Site.clock ≡ b → Same
      by true q =
          let is = clock-later f m e law (same-sound e.site Site.clock q) act said in
          (ap (λ (c : Clock). c.now) is ∙ now, ap (λ (c : Clock). deadlines c.marks) is ∙ marks)
      by false q = let is = clock-else f m e law q in (ap (λ (c : Clock). c.now) is, ap (λ (c : Clock). deadlines c.marks) is)

  unseen : (u : Unseen) → e.act ≡ FineAct.Unseen u → Same
  unseen Unseen.Settle said = at-clock (FineAct.Unseen Unseen.Settle) said refl (deadlines-settled (due_in e.moved) (mark_in e.moved) (clock f).marks)
  unseen Unseen.Due said = at-clock (FineAct.Unseen Unseen.Due) said refl (deadlines-given (clock f).now (clock f).marks)
  unseen u said = at-clock (FineAct.Unseen u) said refl refl

  -- a deadline is armed
  armed-by : (q : Pending) (rest : Steps) (todo : Todos) (x ticks deadline : ℕ) → Shows f m e.cpu e q rest todo → e.site ≡ Site.clock
      → e.act ≡ FineAct.Shown (record { thread = to_thread (mine f m e); act = Act.Arm deadline }) More.Nothing → (s : State) → s.now ≡ m.now → s.armed ≡ m.armed ++ deadline ∷ [] → ClockIs later s
  armed-by q rest todo x ticks deadline h site said s now armed =
      let is = clock-later f m e law site _ said in
      record {
        now = ap (λ (c : Clock). c.now) is ∙ (was.now ∙ sym now);
        armed = ap (λ (c : Clock). deadlines c.marks) is ∙ (deadlines-armed (clock f).marks _ ∙ (ap (λ ds. ds ++ deadline ∷ []) was.armed ∙ sym armed));
      }

  event-part : (q : Pending) (rest : Steps) (todo : Todos) (x : ℕ) → Shows f m e.cpu e q rest todo → IsShown q → IsStep f m e.cpu e x q → ClockIs later (T.after m (mine f m e) x q rest)
  event-part q rest todo x h shown is = by q h shown is
    where
      off : (q : Pending) → Shows f m e.cpu e q rest todo → is_arm q ≡ false → Same
      off q h none =
          let is = clock-else f m e law (ap (λ i. same_site i Site.clock) (site-is h) ∙ off-clock f.image p (Todo.show q rest) todo (untimed f m e law q rest none) tt) in
          (ap (λ (c : Clock). c.now) is, ap (λ (c : Clock). deadlines c.marks) is)

      deadline-is : (q : Pending) → IsStep f m e.cpu e x q → deadline_in (says_step f.image p q (act_in e.act)) ≡ deadline_in (T.act_of m (mine f m e) x q)
      deadline-is q is = ap deadline_in is.says

      by : (q : Pending) → Shows f m e.cpu e q rest todo → IsShown q → IsStep f m e.cpu e x q → ClockIs later (T.after m (mine f m e) x q rest)
      by (Pending.Arm ticks) h shown is =
          armed-by (Pending.Arm ticks) rest todo x ticks (deadline_in (act_in e.act)) h (site-is h) (act-is h) (T.after m (mine f m e) x (Pending.Arm ticks) rest) refl
          (ap (λ d. m.armed ++ d ∷ []) (sym (deadline-is (Pending.Arm ticks) is)))
      by (Pending.ArmTimer ticks) h shown is =
          armed-by (Pending.ArmTimer ticks) rest todo x ticks (deadline_in (act_in e.act)) h (site-is h) (act-is h) (T.after m (mine f m e) x (Pending.ArmTimer ticks) rest) refl
          (ap (λ d. m.armed ++ d ∷ []) (sym (deadline-is (Pending.ArmTimer ticks) is)))
      by Pending.Tick h shown is = absurd shown
      by q h shown is = kept-by q (mine f m e) x rest (off q h refl) tt

  -- time goes on
  turn-no-tick : (moved : Exchange) → is_tick (says_turn f.image p moved) ≡ false
  turn-no-tick (Exchange.thread c None) = refl
  turn-no-tick (Exchange.thread c (Some told)) = refl
  turn-no-tick moved = refl

  tick-part : (rest : Steps) (t : ℕ) → p.todo ≡ [] → is_tick e.act ≡ true → ClockIs later (T.after m t 0 Pending.Tick rest)
  tick-part rest t at tick = by (idle-step f m law.rel p e law.by.may law.taken at)
    where
      by : IdleStep f p e → ClockIs later (T.after m t 0 Pending.Tick rest)
      by (turns site said ready moved) = absurd (false≢true (sym (turn-no-tick e.moved) ∙ (sym (ap is_tick said) ∙ tick)))
      by (gives x site said due moved) = absurd (false≢true (sym (ap is_tick said) ∙ tick))
      by (time_goes n site said next moved) =
          let is = clock-later f m e law site (by_actor f.image p (Act.Tick n)) said in
          let here : next_deadline m.now m.armed ≡ Some n = (λ i. next_deadline (sym was.now i) (sym was.armed i)) ∙ next in
          record {
            now = ap (λ (c : Clock). c.now) is ∙ sym (ap (λ (o : Option ℕ). unwrap_or o m.now) here);
            armed = ap (λ (c : Clock). deadlines c.marks) is ∙ was.armed;
          }

  pub clock-part : (s : State) → Leaves f m e s → ClockIs later s
  clock-part _ (nothing u said) = kept m (unseen u said) refl refl
  clock-part _ (event q rest todo x h shown is) = event-part q rest todo x h shown is
  clock-part _ (resumes c told rest idle moved said) = kept-by Pending.Resume c.thread 0 rest (at-clock _ said refl refl) tt
  clock-part _ (passes who x rest todo v said) = kept-by (Pending.Inherit (to_thread who)) (mine f m e) x rest (at-clock _ said refl refl) tt
  clock-part _ (drops from x rest todo v said) = kept-by (Pending.Drops from) (mine f m e) x rest (at-clock _ said refl refl) tt
  clock-part _ (cleans who x rest todo v said) = kept-by (Pending.CleanPair (to_thread who)) (mine f m e) x rest (at-clock _ said refl refl) tt
  clock-part _ (recycles x rest todo at few said chosen) = kept-by Pending.Recycle (mine f m e) x rest (at-clock _ said refl refl) tt
  clock-part _ (beside t x q how chosen started) = by how
    where
      by : {t x : ℕ} {q : Pending} → Beside f m e t x q → ClockIs later (T.after m t x q (thread_at m t).pending)
      by (cuts who site before x todo at same few said) = kept-by (Pending.Cut (to_thread who)) (mine f m e) x (thread_at m (mine f m e)).pending (at-clock _ said refl refl) tt
      by (times_out deadline site x who todo at same few said) = kept-by (Pending.TimeOut who) (acting f m e) x (thread_at m (acting f m e)).pending (at-clock _ said refl refl) tt
      by (expires deadline x todo at few said) = kept-by Pending.Expire (acting f m e) x.0 (thread_at m (acting f m e)).pending (at-clock _ said refl refl) tt
      by (time_passes at said) = tick-part (thread_at m (acting f m e)).pending (acting f m e) at (ap is_tick said)
      by (tells_left todo at said) = kept-by Pending.Left (mine f m e) 0 (thread_at m (mine f m e)).pending (at-clock _ said refl refl) tt
