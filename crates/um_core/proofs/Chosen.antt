-- The choice is between kinds of steps: of one processor at one moment, two lawful steps that are chosen are of one kind. Who has a list takes no part in
-- it. Of the others, one that takes a thread has one that is ready, and one that is given a mark has one that is due.
use Rattle.std.proofs.Common.{◌≡◌, ◌≢◌, ℕ, Bool, true, false, List, [], ◌∷◌, Option, Some, None, refl, sym, ap, ◌∙◌, subst}
use Rattle.std.specs.Prelude.{◌||◌, not, IsTrue, if◌then◌else◌, is_some}
use Rattle.std.proofs.lemmas.Bool.{and_parts, false≢true, true≢false}
use Rattle.um_base.specs.declared.act.Act.{Act}
use Rattle.um_base.specs.declared.image.Image.{Image}
use Rattle.um_base.specs.declared.names.Access.TheVariants as Access
use Rattle.um_machine.specs.declared.pending.Pending.{Pending}
use Rattle.um_words.specs.declared.fine.FineAct.{FineAct}
use Rattle.um_words.specs.declared.fine.Mark.{Mark}
use Rattle.um_words.specs.declared.fine.More.{More}
use Rattle.um_words.specs.declared.fine.Unseen.{Unseen}
use Rattle.um_fine.specs.Answers.{act_in, is_due_act, is_killed, is_shut_act, is_tick, is_visit, is_void, is_word_read, now_in}
use Rattle.um_fine.specs.Asks.{CpuMay, allows, by_actor, made_by, marks_end, me, says, says_idle, says_show, says_turn, site_by}
use Rattle.um_fine.specs.Cells.{Cell}
use Rattle.um_fine.specs.Clock.{Clock, clock_takes, first_due}
use Rattle.um_fine.specs.Places.{Todo, Todos}
use Rattle.um_fine.specs.Processor.{Processor}
use Rattle.um_fine.specs.Scheduler.{Scheduler, has_ready, sched_takes}
use Rattle.um_fine.specs.Sites.{SiteMay, SiteState, is_sort, site_takes}
use Rattle.um_fine.specs.Steps.{Exchange, FineStep, Site}
use Rattle.um_processor.specs.Idles.{is_turn}
use Rattle.um_refinement.specs.Choice.{IsChosen}
use Rattle.um_refinement.specs.Lists.{has_steps}
use Rattle.um_refinement.specs.Fine.{Fine, clock, clock_state, scheduler, scheduler_state}
use Rattle.um_core.specs.Moments.{AreAlike, AreSorted}

-- a step at the clock by a processor without a thread
abbrev is_timed : FineAct → Bool
is_timed act = is_due_act act || is_tick act

either : {A : Type 0} (test : A → Bool) (b : Bool) (one two : A) → test one ≡ false → test two ≡ false → test (if b then one else two) ≡ false
either test true one two h k = h
either test false one two h k = k

-- No step on a list is one.

shown-plain : (image : Image) (p : Processor) (q : Pending) (act : FineAct) → is_timed (says_show image p q act) ≡ false
shown-plain image p Pending.Begin act = either is_timed (is_word_read act) _ _ refl (either is_timed (is_killed act) _ _ refl refl)
shown-plain image p Pending.Exit act = either is_timed (is_word_read act) _ _ refl (either is_timed (is_killed act) _ _ refl refl)
shown-plain image p (Pending.Load to a n) act =
    either (λ (x : Act). is_timed (FineAct.Shown (record { thread = me image p; act = x }) More.Nothing)) (allows image p Access.Read a.0 n) _ _ refl refl
shown-plain image p (Pending.Store a n value) act =
    either (λ (x : Act). is_timed (FineAct.Shown (record { thread = me image p; act = x }) More.Nothing)) (allows image p Access.Write a.0 n) _ _ refl refl
shown-plain image p (Pending.Fetch a) act =
    either (λ (x : Act). is_timed (FineAct.Shown (record { thread = me image p; act = x }) More.Nothing)) (allows image p Access.Exec a.0 4) _ _ refl refl
shown-plain image p q act = refl

mark-plain : (image : Image) (p : Processor) (mark : Mark) (act : FineAct) → is_timed (by_actor image p (marks_end image p mark act)) ≡ false
mark-plain image p (Mark.Thread who site) act = refl
mark-plain image p (Mark.Timer x) act = refl

listed-plain : (image : Image) (p : Processor) (q : Todo) (todo : Todos) (e : FineStep) → is_timed (says image p (q ∷ todo) e.act e.moved) ≡ false
listed-plain image p (Todo.show q rest) todo e = shown-plain image p q e.act
listed-plain image p (Todo.pass who x) todo e = either is_timed (is_visit e.act) _ _ refl refl
listed-plain image p (Todo.drop x) todo e = either is_timed (is_visit e.act) _ _ refl refl
listed-plain image p (Todo.clean_pair who x) todo e = either is_timed (is_visit e.act) _ _ refl refl
listed-plain image p (Todo.look who site before) todo e = either is_timed (is_void e.act) _ _ refl refl
listed-plain image p (Todo.rouse who) todo e = either is_timed (is_void e.act) _ _ refl refl
listed-plain image p (Todo.handle deadline mark) todo e = either is_timed (is_void e.act) _ _ refl (mark-plain image p mark e.act)
listed-plain image p Todo.leave todo e = either is_timed (is_shut_act e.act) _ _ refl refl
listed-plain image p q todo e = refl

-- what is neither given a mark nor lets time go on, and what is one of the two
pub untimed : (due tick : Bool) → (due || tick) ≡ false → (due ≡ false) × (tick ≡ false)
untimed false tick h = (refl, h)
untimed true tick h = absurd (true≢false h)

pub turn-untimed : (act : FineAct) → is_turn act ≡ true → (is_due_act act ≡ false) × (is_tick act ≡ false)
turn-untimed act h = untimed (is_due_act act) (is_tick act) (by (is_due_act act || is_tick act) h)
  where
    by : (b : Bool) → not b ≡ true → b ≡ false
    by true h = absurd (false≢true h)
    by false h = refl

pub due-no-tick : (act : FineAct) → is_due_act act ≡ true → is_tick act ≡ false
due-no-tick (FineAct.Shown event more) h = absurd (false≢true h)
due-no-tick (FineAct.Unseen unseen) h = refl

pub tick-no-due : (act : FineAct) → is_tick act ≡ true → is_due_act act ≡ false
tick-no-due (FineAct.Shown event more) h = refl
tick-no-due (FineAct.Unseen unseen) h = absurd (false≢true h)

pub both-alike : (e g : FineStep) (due tick : Bool) → is_due_act e.act ≡ due → is_due_act g.act ≡ due → is_tick e.act ≡ tick → is_tick g.act ≡ tick → AreAlike e g
both-alike e g due tick h k l m = record { due = h ∙ sym k; tick = l ∙ sym m }

module _ (image : Image) (p : Processor) where
  pub listed-untimed : p.todo ≢ [] → (e : FineStep) → made_by image p e ≡ e → (is_due_act e.act ≡ false) × (is_tick e.act ≡ false)
  listed-untimed some e makes = by p.todo refl (ap (λ (x : FineStep). x.act) makes)
    where
      by : (todo : Todos) → p.todo ≡ todo → says image p todo e.act e.moved ≡ e.act → (is_due_act e.act ≡ false) × (is_tick e.act ≡ false)
      by [] at h = absurd (some at)
      by (q ∷ todo) at h = untimed (is_due_act e.act) (is_tick e.act) (ap is_timed (sym h) ∙ listed-plain image p q todo e)

  -- who takes a thread has one that is ready
  turn-takes : (t : Scheduler) (moved : Exchange) → sched_takes t (says_turn image p moved) ≡ has_ready t t.ready
  turn-takes t (Exchange.thread c None) = refl
  turn-takes t (Exchange.thread c (Some told)) = refl
  turn-takes t moved = refl

  abbrev list_head : List ℕ → Option ℕ
  list_head [] = None
  list_head (x ∷ xs) = Some x

  ready-some : (t : Scheduler) (ready : List ℕ) → has_ready t ready ≡ true → ready ≢ []
  ready-some t [] h = absurd (false≢true h)
  ready-some t (x ∷ ready) h = λ e. true≢false (ap (λ ready. is_some (list_head ready)) e)

  -- and who is given a mark has one that is due
  due-takes : (c : Clock) (act : FineAct) → is_due_act act ≡ true → IsTrue (clock_takes c act) → is_some (first_due c.now c.marks) ≡ true
  due-takes c (FineAct.Unseen Unseen.Due) h takes = takes
  due-takes c (FineAct.Unseen unseen) h takes = absurd (false≢true h)
  due-takes c (FineAct.Shown event more) h takes = absurd (false≢true h)

  at-scheduler : (s : SiteState) (e : FineStep) → IsTrue (is_sort Site.scheduler s) → says_turn image p e.moved ≡ e.act → IsTrue (site_takes s e.act) → (scheduler_state s).ready ≢ []
  at-scheduler (SiteState.cell n (Cell.scheduler t)) e sort h takes =
      ready-some t t.ready (sym (turn-takes t e.moved) ∙ (ap (sched_takes t) h ∙ (and_parts _ _ takes).1))
  at-scheduler s e sort h takes = absurd (false≢true sort)

  at-clock : (s : SiteState) (e : FineStep) → IsTrue (is_sort Site.clock s) → is_due_act e.act ≡ true → IsTrue (site_takes s e.act)
      → is_some (first_due (clock_state s).now (clock_state s).marks) ≡ true
  at-clock (SiteState.cell n (Cell.clock c)) e sort h takes = due-takes c e.act h (and_parts _ _ takes).1
  at-clock s e sort h takes = absurd (false≢true sort)

  module _ (f : Fine) (sorts : AreSorted f.sites) (empty : p.todo ≡ []) where
    says-idle : (e : FineStep) → made_by image p e ≡ e → says_idle image p e.act e.moved ≡ e.act
    says-idle e makes = sym (ap (λ (z : Todos). says image p z e.act e.moved) empty) ∙ ap (λ (x : FineStep). x.act) makes

    idle-at : (e : FineStep) → made_by image p e ≡ e → (if is_due_act e.act || is_tick e.act then Site.clock else Site.scheduler) ≡ e.site
    idle-at e makes = sym (ap (λ (z : Todos). site_by image p z e.act) empty) ∙ ap (λ (x : FineStep). x.site) makes

    pub turn-ready : (e : FineStep) → made_by image p e ≡ e → SiteMay image (f.sites e.site) e → is_due_act e.act ≡ false → is_tick e.act ≡ false → (scheduler f).ready ≢ []
    turn-ready e makes taken h k =
        let site : e.site ≡ Site.scheduler = sym ((λ i. if sym h i || sym k i then Site.clock else Site.scheduler) ∙ idle-at e makes) in
        at-scheduler (f.sites Site.scheduler) e (sorts Site.scheduler)
        ((λ i. if sym h i then FineAct.Unseen Unseen.Due else if sym k i then by_actor image p (Act.Tick (now_in (act_in e.act))) else says_turn image p e.moved)
        ∙ says-idle e makes)
        (subst (λ i. IsTrue (site_takes (f.sites i) e.act)) site taken.takes)

    pub due-some : (e : FineStep) → made_by image p e ≡ e → SiteMay image (f.sites e.site) e → is_due_act e.act ≡ true → is_some (first_due (clock f).now (clock f).marks) ≡ true
    due-some e makes taken h =
        let site : e.site ≡ Site.clock = sym (ap (λ b. if b || is_tick e.act then Site.clock else Site.scheduler) (sym h) ∙ idle-at e makes) in
        at-clock (f.sites Site.clock) e (sorts Site.clock) h (subst (λ i. IsTrue (site_takes (f.sites i) e.act)) site taken.takes)

  -- what is chosen
  none-some : {A : Type 0} (o : Option A) → o ≡ None → is_some o ≡ true → ⊥
  none-some o none some = false≢true (sym (ap is_some none) ∙ some)

  pub chosen-alike : (f : Fine) → AreSorted f.sites → (e g : FineStep) → CpuMay image p e → SiteMay image (f.sites e.site) e → CpuMay image p g → SiteMay image (f.sites g.site) g
      → IsChosen f e → IsChosen f g → AreAlike e g
  chosen-alike f sorts e g may taken may' taken' chosen chosen' = by p.todo refl
    where
      kinds : p.todo ≡ [] → (b c d h : Bool) → is_due_act e.act ≡ b → is_tick e.act ≡ c → is_due_act g.act ≡ d → is_tick g.act ≡ h → AreAlike e g
      kinds empty true c true h l m n o =
          both-alike e g true false l n (due-no-tick e.act l) (due-no-tick g.act n)
      kinds empty false true false true l m n o = both-alike e g false true l n m o
      kinds empty false false false false l m n o = both-alike e g false false l n m o
      kinds empty false false true h l m n o = absurd (turn-ready f sorts empty e may.makes taken l m (chosen'.due n))
      kinds empty false false false true l m n o = absurd (turn-ready f sorts empty e may.makes taken l m (chosen'.tick o).0)
      kinds empty true c false false l m n o = absurd (turn-ready f sorts empty g may'.makes taken' n o (chosen.due l))
      kinds empty false true false false l m n o = absurd (turn-ready f sorts empty g may'.makes taken' n o (chosen.tick m).0)
      kinds empty true c false true l m n o = absurd (none-some (first_due (clock f).now (clock f).marks) (chosen'.tick o).1 (due-some f sorts empty e may.makes taken l))
      kinds empty false true true h l m n o = absurd (none-some (first_due (clock f).now (clock f).marks) (chosen.tick m).1 (due-some f sorts empty g may'.makes taken' n))

      by : (todo : Todos) → p.todo ≡ todo → AreAlike e g
      by [] at = kinds at (is_due_act e.act) (is_tick e.act) (is_due_act g.act) (is_tick g.act) refl refl refl refl
      by (q ∷ todo) at =
          let some : p.todo ≢ [] = λ none. true≢false (ap has_steps (sym at ∙ none)) in
          let one = listed-untimed some e may.makes in
          let other = listed-untimed some g may'.makes in
          both-alike e g false false one.0 other.0 one.1 other.1
