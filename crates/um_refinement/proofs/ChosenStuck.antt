-- Where no processor has a step that is chosen, none has any step. Who has a list has only chosen steps, so none of those can step, and none has a list. Then a
-- thread that is ready would be taken, and so would a mark that is due; and time would go on, since none runs.
use Rattle.um_refinement.proofs.Words.{◌⊎◌, inl, inr, eq-eqb, eqb-true, length, cpu_of, is_opening, is_sited, left_by, p_next, p_start, s_next, s_start, same-itself, same-sound, same_cpu, shown, site_of, IsFineRun, ◌≡◌, ℕ, ◌<◌, Bool, true, false, List, [], ◌∷◌, None, refl, sym, ap, ◌∙◌, subst, arith, ◌&&◌, ◌||◌, not, if◌then◌else◌, is_some, false≢true, true≢false, Act, Image, Pending, opening, State, core_of, IsKnown, IsDescribed, FineAct, More, ByOneOf, Todo, Todos, Processor, SiteMay, SiteState, FineStep, Site, Fine, one_if, scheduler, has_steps, runs, Rel, CanCount, CanRun, IsStuck, says, says_show, is_visit, is_word_read, allows, same_site}
use Rattle.um_base.specs.declared.names.Access.TheVariants as Access
use Rattle.um_words.specs.declared.fine.Mark.{Mark}
use Rattle.um_fine.specs.Answers.{is_due_act, is_killed, is_shut_act, is_tick, is_void}
use Rattle.um_fine.specs.Asks.{by_actor, marks_end, me}
use Rattle.um_fine.specs.Clock.{first_due}
use Rattle.um_refinement.specs.Choice.{IsChosen, NoneChosen}
use Rattle.um_refinement.specs.Fine.{clock}
use Rattle.um_refinement.specs.Lists.{times}
use Rattle.um_fine.proofs.FineRuns.{runs_push}
use Rattle.um_refinement.proofs.BoundedRuns.{bounded-runs}
use Rattle.um_refinement.proofs.Bounds.{AreBounded, ReadyThreads}
use Rattle.um_refinement.proofs.CallsProper.{AreProper}
use Rattle.um_refinement.proofs.ChildrenKnown.{children-known}
use Rattle.um_refinement.proofs.DomainsKnown.{started-placed}
use Rattle.um_refinement.proofs.Erased.{IsReachable, fine}
use Rattle.um_refinement.proofs.ErasedRuns.{no-steps, none-or-some}
use Rattle.um_refinement.proofs.HeldRows.{total-zero}
use Rattle.um_refinement.proofs.MemoryPart.{InDomains}
use Rattle.um_refinement.proofs.Reachable.{IsSound, reachable-sound}
use Rattle.um_refinement.proofs.RoomKnown.{events-stand, has-room}
use Rattle.um_refinement.proofs.Stuck.{HasRoom}
use Rattle.um_refinement.proofs.StuckComplete.{due-lawful, first-lawful, none-there}
use Rattle.um_refinement.proofs.StuckEvents.{AreOrderly, EventsStand}
use Rattle.um_refinement.proofs.StuckLists.{IsHalting, stuck-empty}
use Rattle.um_refinement.proofs.SuitsKnown.{kept-known, proper-known, tells-known}

-- a step at the clock by a processor without a thread
abbrev is_timed : FineAct → Bool
is_timed act = is_due_act act || is_tick act

either : {A : Type 0} (test : A → Bool) (b : Bool) (one two : A) → test one ≡ false → test two ≡ false → test (if b then one else two) ≡ false
either test true one two h k = h
either test false one two h k = k

-- No step on a list is one.

shown-plain : (image : Image) (p : Processor) (q : Pending) (act : FineAct) → is_timed (says_show image p q act) ≡ false
shown-plain image p Pending.Begin act = either is_timed (is_word_read act) _ _ refl (either is_timed (is_killed act) _ _ refl refl)
shown-plain image p Pending.Exit act = either is_timed (is_word_read act) _ _ refl (either is_timed (is_killed act) _ _ refl refl)
shown-plain image p (Pending.Load to a n) act =
    either (λ (x : Act). is_timed (FineAct.Shown (record { thread = me image p; act = x }) More.Nothing)) (allows image p Access.Read a.0 n) _ _ refl refl
shown-plain image p (Pending.Store a n value) act =
    either (λ (x : Act). is_timed (FineAct.Shown (record { thread = me image p; act = x }) More.Nothing)) (allows image p Access.Write a.0 n) _ _ refl refl
shown-plain image p (Pending.Fetch a) act =
    either (λ (x : Act). is_timed (FineAct.Shown (record { thread = me image p; act = x }) More.Nothing)) (allows image p Access.Exec a.0 4) _ _ refl refl
shown-plain image p q act = refl

mark-plain : (image : Image) (p : Processor) (mark : Mark) (act : FineAct) → is_timed (by_actor image p (marks_end image p mark act)) ≡ false
mark-plain image p (Mark.Thread who site) act = refl
mark-plain image p (Mark.Timer x) act = refl

listed-plain : (image : Image) (p : Processor) (q : Todo) (todo : Todos) (e : FineStep) → is_timed (says image p (q ∷ todo) e.act e.moved) ≡ false
listed-plain image p (Todo.show q rest) todo e = shown-plain image p q e.act
listed-plain image p (Todo.pass who x) todo e = either is_timed (is_visit e.act) _ _ refl refl
listed-plain image p (Todo.drop x) todo e = either is_timed (is_visit e.act) _ _ refl refl
listed-plain image p (Todo.clean_pair who x) todo e = either is_timed (is_visit e.act) _ _ refl refl
listed-plain image p (Todo.look who site before) todo e = either is_timed (is_void e.act) _ _ refl refl
listed-plain image p (Todo.rouse who) todo e = either is_timed (is_void e.act) _ _ refl refl
listed-plain image p (Todo.handle deadline mark) todo e = either is_timed (is_void e.act) _ _ refl (mark-plain image p mark e.act)
listed-plain image p Todo.leave todo e = either is_timed (is_shut_act e.act) _ _ refl refl
listed-plain image p q todo e = refl

-- what isn't timed is neither given a mark nor lets time go on
untimed : (due tick : Bool) → (due || tick) ≡ false → (due ≡ false) × (tick ≡ false)
untimed false tick h = (refl, h)
untimed true tick h = absurd (true≢false h)

module _ (f : Fine) (e : FineStep) where
  chosen-untimed : is_timed e.act ≡ false → IsChosen f e
  chosen-untimed plain =
      let parts = untimed (is_due_act e.act) (is_tick e.act) plain in
      record { due = λ h. absurd (true≢false (sym h ∙ parts.0)); tick = λ h. absurd (true≢false (sym h ∙ parts.1)) }

-- what is made at the scheduler isn't
scheduled-plain : (image : Image) (p : Processor) (timed : Bool) → (if timed then Site.clock else Site.scheduler) ≡ Site.scheduler → timed ≡ false
scheduled-plain image p false h = refl
scheduled-plain image p true h = absurd (false≢true (ap (λ i. same_site i Site.scheduler) h))

module _ (f : Fine) (m : State) (rel : Rel f m) (proper : AreProper m.image m) (all : InDomains f m) (sound : IsSound m) (room : HasRoom f) (events : EventsStand f) (orderly : AreOrderly m)
    (threads : ReadyThreads f) (none : NoneChosen f) where
  -- a lawful step of a processor with a list is chosen
  halting : IsHalting f
  halting k l some = record { inside = l; stuck = λ e same may taken. by e same may taken (f.processors k).todo refl }
    where
      by : (e : FineStep) → e.cpu ≡ k → ByOneOf f.image f.cpus (f.processors k) e → SiteMay f.image (f.sites e.site) e → (todo : Todos) → (f.processors k).todo ≡ todo → ⊥
      by e same may taken [] at = false≢true (sym (ap has_steps at) ∙ some)
      by e same may taken (q ∷ todo) at =
          let plain : is_timed e.act ≡ false =
          ap is_timed (sym (ap (λ (s : FineStep). s.act) may.may.makes) ∙ ap (λ (z : Todos). says f.image (f.processors k) z e.act e.moved) at) ∙ listed-plain f.image (f.processors k) q todo e in
          none e (subst (λ n. ByOneOf f.image f.cpus (f.processors n) e) (sym same) may) taken (chosen-untimed f e plain)

  -- so none has a list, and none runs
  empty : (k : ℕ) → k < f.cpus → (f.processors k).todo ≡ []
  empty = stuck-empty f m rel proper all sound room events orderly halting

  none-runs : (scheduler f).running ≡ 0
  none-runs = rel.running.running ∙ total-zero (λ k. one_if (runs (f.processors k))) f.cpus (λ k l. ap (λ todo. one_if (has_steps todo && not (times todo))) (empty k l))

  -- a step of the processor k, as one of the processor that makes it
  at-cpu : (e : FineStep) (k : ℕ) → e.cpu ≡ k → ByOneOf f.image f.cpus (f.processors k) e → ByOneOf f.image f.cpus (f.processors e.cpu) e
  at-cpu e k same by = subst (λ n. ByOneOf f.image f.cpus (f.processors n) e) (sym same) by

  module _ (k : ℕ) (l : k < f.cpus) where
    none-ready : (scheduler f).ready ≡ []
    none-ready = by (scheduler f).ready refl
      where
        by : (ready : List ℕ) → (scheduler f).ready ≡ ready → ready ≡ []
        by [] e = refl
        by (t ∷ ready) e =
            let (step, same, site, lawful) = first-lawful f m rel room threads k l (empty k l) (omega (arith, none-runs)) t ready e in
            absurd (none step (at-cpu step k same lawful.by) lawful.taken
            (chosen-untimed f step (scheduled-plain f.image (f.processors k) (is_timed step.act) (lawful.there ∙ site))))

    none-due : first_due (clock f).now (clock f).marks ≡ None
    none-due = none-there f m rel room threads (first_due (clock f).now (clock f).marks) given
      where
        given : is_some (first_due (clock f).now (clock f).marks) ≡ true → ⊥
        given some =
            let (step, same, tick, lawful) = due-lawful f m rel room threads k l (empty k l) some in
            none step (at-cpu step k same lawful.by) lawful.taken (record { due = λ h. none-ready; tick = λ h. absurd (true≢false (sym h ∙ tick)) })

  pub chosen-stuck : IsStuck f
  chosen-stuck e may taken =
      let ready = none-ready e.cpu may.named in
      none e may taken (record { due = λ h. ready; tick = λ h. (ready, none-due e.cpu may.named, none-runs) })

-- What a fine run leaves, and a state that its events reach.
pub chosen-known : (image : Image) (cpus : ℕ) → IsDescribed image → IsKnown (core_of (opening image)) → CanRun image cpus
    → (ps : ℕ → Processor) (ss : Site → SiteState) (m : State)
    → let f = fine image cpus ps ss in Rel f m → IsReachable image cpus m → AreBounded f → CanCount f → NoneChosen f → IsStuck f
chosen-known image cpus described known can ps ss m rel reach bounds counts none =
    let f = fine image cpus ps ss in
    let proper = proper-known image cpus described known m reach in
    let sound = reachable-sound image cpus described.few m reach known in
    let room = has-room f m rel proper sound bounds (tells-known image cpus described known m reach) (children-known image cpus m reach) can counts in
    chosen-stuck f m rel proper (λ t l started. started-placed image cpus described m reach t started) sound room (events-stand f m rel proper sound bounds)
    (λ t. ((kept-known image cpus described known m reach).orderly t).steps) bounds.ready none

-- Behind each fine run of a described image, while each site can count one step more: where no processor has a step that is chosen, none has any.
pub chosen-runs : (image : Image) (cpus : ℕ) → IsDescribed image → CanRun image cpus → (h : List FineStep) → IsFineRun image cpus h
    → CanCount (left_by image cpus h) → NoneChosen (left_by image cpus h) → IsStuck (left_by image cpus h)
chosen-runs image cpus described can = by (none-or-some (length image.objects))
  where
    by : (length image.objects ≡ 0) ⊎ (0 < length image.objects) → (h : List FineStep) → IsFineRun image cpus h → CanCount (left_by image cpus h) → NoneChosen (left_by image cpus h)
        → IsStuck (left_by image cpus h)
    by (inl none) [] run counts chosen = λ e may taken.
        no-steps image cpus described none e []
        (record {
          processors = runs_push same_cpu (λ k. eq-eqb k k refl) (λ j k q. eqb-true j k q) cpu_of (ByOneOf image cpus) (p_next image) p_start [] e run.processors may;
          sites = runs_push same_site same-itself same-sound site_of (SiteMay image) (s_next image) (s_start image) [] e run.sites taken;
        })
    by (inl none) (x ∷ h) run counts chosen = λ e may taken. no-steps image cpus described none x h run
    by (inr some) h run counts chosen =
        let known = (is_opening image (is_sited image described.lawful described.few some) described.lawful).known in
        let r = bounded-runs image cpus described known h run in chosen-known image cpus described known can _ _ r.0 r.2 (shown h, r.1) r.3 counts chosen
