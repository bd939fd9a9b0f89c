-- A deadline that a thread arms is the last of the clock's marks, and the last of the point's armings. No other event of a pending step arms one.
use Rattle.std.proofs.Common.{◌≡◌, ℕ, ◌+◌, ◌<◌, Bool, true, false, [], ◌∷◌, ◌++◌, Some, refl, sym, ap, ◌∙◌, subst, arith, ne_eqb}
use Rattle.std.specs.Prelude.{if◌then◌else◌, slice_get}
use Rattle.std.proofs.lemmas.Bool.{ltb-true, true≢false}
use Rattle.um_base.specs.declared.act.Act.{Act}
use Rattle.um_base.specs.declared.ask.Ask.{Ask}
use Rattle.um_base.specs.declared.image.Image.{Image}
use Rattle.um_base.specs.declared.limits.TheConstants.{FUTEX_CELL, JOIN_CELL, ROWS}
use Rattle.um_base.specs.declared.names.Access.{Access}
use Rattle.um_base.specs.declared.names.Addr.{Addr}
use Rattle.um_base.specs.Lawful.{IsLawful}
use Rattle.um_machine.specs.declared.pending.Pending.{Pending}
use Rattle.um_machine.specs.declared.thread.Thread.{Thread}
use Rattle.um_machine.specs.Order.{Steps, to_deadline, to_row, to_thread}
use Rattle.um_machine.specs.Outcomes.{deadline_in}
use Rattle.um_machine.specs.State.{State, thread_at}
use Rattle.um_machine.specs.Table as T
use Rattle.um_invariants.specs.Armings.{Aim, aim_of, armings_after}
use Rattle.um_invariants.specs.InOrder.{Point}
use Rattle.um_invariants.proofs.ThreadWords.{AreKept}
use Rattle.um_words.specs.declared.fine.FineAct.{FineAct}
use Rattle.um_words.specs.declared.fine.Mark.{Mark}
use Rattle.um_words.specs.declared.fine.More.{More}
use Rattle.um_fine.specs.Addresses.{row_named}
use Rattle.um_fine.specs.Answers.{act_in, mark_in}
use Rattle.um_fine.specs.Asks.{allows, moves_show, says_step, shows, site_of_step}
use Rattle.um_fine.specs.Clock.{Clock}
use Rattle.um_fine.specs.Continues.{continues}
use Rattle.um_fine.specs.Context.{Context}
use Rattle.um_fine.specs.Places.{Todo, Todos, is_timer_start, mark_for}
use Rattle.um_fine.specs.Steps.{FineStep, Site}
use Rattle.um_refinement.specs.Fine.{Fine, clock}
use Rattle.um_refinement.specs.Lists.{is_arm}
use Rattle.um_refinement.specs.Stops.{cell_site}
use Rattle.um_refinement.specs.Threads.{cutters as cuts}
use Rattle.um_refinement.proofs.ChildrenKnown.{AllCreate}
use Rattle.um_refinement.proofs.ClockSteps.{clock-later}
use Rattle.um_refinement.proofs.Erased.{around}
use Rattle.um_refinement.proofs.FirstWaits.{image-stays}
use Rattle.um_refinement.proofs.LawfulSteps.{Suits}
use Rattle.um_refinement.proofs.Leaves.{Lawful}
use Rattle.um_refinement.proofs.MarksPart.{clock-same, untimed}
use Rattle.um_refinement.proofs.MemoryPart.{InDomains}
use Rattle.um_refinement.proofs.RowsPart.{named-below}
use Rattle.um_refinement.proofs.Offered.{IsStep, IsStopping, Shows, act-is, by-made, moved-made, site-is}
use Rattle.um_refinement.proofs.WordsKept.{IsShown}
use Rattle.um_order.proofs.ArmingOrder.{IsAim, Plain, arms-plain}
use Rattle.um_order.proofs.EventLines.{own-is}
use Rattle.um_order.proofs.ShowSteps.{context, of, thread, uncut}
use Rattle.um_order.proofs.ShownLists.{stirs}

-- a mark and an aim are for the same
cell-is : (x : ℕ) → x < ROWS → 168 + x ≡ cell_site x
cell-is x few = λ i. if sym (ne_eqb x JOIN_CELL (λ same. omega (arith, few, same))) i then 308 else if sym (ne_eqb x FUTEX_CELL (λ same. omega (arith, few, same))) i then 304 else 168 + x

aim-is : (s : State) (image : Image) (t : ℕ) (steps : Steps) → s.image ≡ image → ((a : Addr) → row_named image a < ROWS) → IsAim (mark_for image t steps) (aim_of s (to_thread t) (slice_get steps 0))
aim-is s image t [] same few = (refl, refl, omega arith)
aim-is s image t (Pending.Work a ask ∷ rest) same few = by ask
  where
    row : row_named image a ≡ T.row_of s a
    row = ap (λ (i : Image). row_named i a) (sym same)

    by : (ask : Ask) → IsAim (if is_timer_start ask then Mark.Timer (to_row (row_named image a)) else Mark.Thread (to_thread t) (168 + row_named image a)) (aim_of s (to_thread t) (Some (Pending.Work a ask)))
    by (Ask.TimerStart deadline) = row
    by ask = let l = few a in (refl, ap (λ n. 168 + n) row ∙ cell-is (T.row_of s a) (omega (arith, l, row)), omega (arith, l, row))
aim-is s image t (Pending.Join who timeout ∷ rest) same few = (refl, refl, omega arith)
aim-is s image t (q ∷ rest) same few = (refl, refl, omega arith)

-- a timer's start gets its deadline, and is for the same timer
aimed : (s : State) (t deadline : ℕ) (rest : Steps) → aim_of s (to_thread t) (slice_get (to_deadline deadline rest) 0) ≡ aim_of s (to_thread t) (slice_get rest 0)
aimed s t deadline [] = refl
aimed s t deadline (Pending.Work a ask ∷ rest) = by ask
  where
    by : (ask : Ask) → aim_of s (to_thread t) (slice_get (to_deadline deadline (Pending.Work a ask ∷ rest)) 0) ≡ aim_of s (to_thread t) (Some (Pending.Work a ask))
    by (Ask.TimerStart d) = refl
    by ask = refl
aimed s t deadline (q ∷ rest) = refl

module _ (f : Fine) (at : Point) (e : FineStep) (law : Lawful f at.state e) (one : f.cpus ≡ 1) (orderly : AllCreate at.state) (kept : AreKept at.state) (lawful : IsLawful at.state.image) (suits : Suits f at.state)
    (all : InDomains f at.state) (q : Pending) (rest : Steps) (todo : Todos) (x : ℕ) (h : Shows f at.state e.cpu e q rest todo) (shown : IsShown q) (is : IsStep f at.state e.cpu e x q)
    (calm : stirs q (act_in e.act) ≡ false) where
  open around f e use {later, processor as p, now}

  abbrev m : State
  m = at.state

  abbrev t : ℕ
  t = p.context.thread

  abbrev s2 : State
  s2 = T.after m t x q rest

  pending : (thread_at s2 t).pending ≡ (continues f.image p.context 0 q rest (act_in e.act) e.moved).pending
  pending =
      let is-thread = thread f at e law one orderly kept lawful suits all q rest todo x h shown is calm in
      let own = of f at e law one orderly kept lawful suits all q rest todo x h shown is calm in
      let whole = ap (cuts later) is-thread ∙ uncut f at e law one orderly kept lawful suits all q rest todo x h shown is calm in
      ap (λ n. (thread_at s2 n).pending) (sym is-thread)
      ∙ (sym (ap (λ (th : Thread). th.pending) (own-is later s2 now.context own whole)) ∙ ap (λ (c : Context). c.pending) (context f at e law one orderly kept lawful suits all q rest todo x h shown is calm))

  named : (a : Addr) → row_named f.image a < ROWS
  named a = ltb-true (row_named f.image a) ROWS (named-below f m e law a)

  image : s2.image ≡ f.image
  image = image-stays m t x q rest ∙ law.rel.image

  module _ (plain : Plain (clock f).marks at.armings) where
    -- an event that arms none
    unarmed : (z : Pending) → IsStopping z → is_arm z ≡ false
    unarmed Pending.Begin s = refl
    unarmed Pending.Exit s = refl
    unarmed Pending.Killed s = refl
    unarmed z s = absurd s

    listed-off : is_arm q ≡ false → is_arm h.listed ≡ false
    listed-off off = by-made h (λ z. is_arm z ≡ false → is_arm h.listed ≡ false) (λ killed k. k) (λ killed stopping k. unarmed h.listed stopping) off

    timeless : is_arm q ≡ false → Plain (clock later).marks at.armings
    timeless off = subst (λ (c : Clock). Plain c.marks at.armings) (sym (clock-same f m e law (Todo.show h.listed rest) todo h.at (untimed f m e law h.listed rest (listed-off off)))) plain

    same-armings : (r : Pending) → is_arm r ≡ false → armings_after at.armings (to_thread t) (says_step f.image p r (act_in e.act)) s2 ≡ at.armings
    same-armings (Pending.Arm ticks) off = absurd (true≢false off)
    same-armings (Pending.ArmTimer ticks) off = absurd (true≢false off)
    same-armings (Pending.Load to a n) off = quiet (allows f.image p Access.Read a.0 n) _ _ refl refl
      where
        quiet : (b : Bool) (a c : Act) → armings_after at.armings (to_thread t) a s2 ≡ at.armings → armings_after at.armings (to_thread t) c s2 ≡ at.armings → armings_after at.armings (to_thread t) (if b then a else c) s2 ≡ at.armings
        quiet true a c ha hc = ha
        quiet false a c ha hc = hc
    same-armings (Pending.Store a n value) off = quiet (allows f.image p Access.Write a.0 n) _ _ refl refl
      where
        quiet : (b : Bool) (a c : Act) → armings_after at.armings (to_thread t) a s2 ≡ at.armings → armings_after at.armings (to_thread t) c s2 ≡ at.armings → armings_after at.armings (to_thread t) (if b then a else c) s2 ≡ at.armings
        quiet true a c ha hc = ha
        quiet false a c ha hc = hc
    same-armings (Pending.Fetch a) off = quiet (allows f.image p Access.Exec a.0 4) _ _ refl refl
      where
        quiet : (b : Bool) (a c : Act) → armings_after at.armings (to_thread t) a s2 ≡ at.armings → armings_after at.armings (to_thread t) c s2 ≡ at.armings → armings_after at.armings (to_thread t) (if b then a else c) s2 ≡ at.armings
        quiet true a c ha hc = ha
        quiet false a c ha hc = hc
    same-armings r off = refl

    -- one that does
    arms-by : (ticks : ℕ) (steps : Steps) → e.site ≡ Site.clock → e.act ≡ FineAct.Shown (record { thread = to_thread t; act = Act.Arm (deadline_in (act_in e.act)) }) More.Nothing
        → mark_in e.moved ≡ mark_for f.image t rest → (thread_at s2 t).pending ≡ steps → aim_of s2 (to_thread t) (slice_get steps 0) ≡ aim_of s2 (to_thread t) (slice_get rest 0)
        → Plain (clock later).marks (at.armings ++ record { deadline = deadline_in (act_in e.act); aim = aim_of s2 (to_thread t) (slice_get (thread_at s2 t).pending 0) } ∷ [])
    arms-by ticks steps site said moved left aim =
        subst (λ (c : Clock). Plain c.marks (at.armings ++ record { deadline = deadline_in (act_in e.act); aim = aim_of s2 (to_thread t) (slice_get (thread_at s2 t).pending 0) } ∷ [])) (sym (clock-later f m e law site _ said))
        (arms-plain (clock f).marks at.armings (record { deadline = deadline_in (act_in e.act); mark = mark_in e.moved; settled = false; given = false }) _
        (record {
          deadline_is = refl;
          aim_is = subst (λ (z : Mark × Aim). IsAim z.0 z.1) (λ i. (sym moved i, sym (ap (λ (steps : Steps). aim_of s2 (to_thread t) (slice_get steps 0)) left ∙ aim) i))
              (aim-is s2 f.image t rest image named);
        })
        refl plain)

    pub arms : Plain (clock later).marks (armings_after at.armings (to_thread t) (says_step f.image p q (act_in e.act)) s2)
    arms = by q refl
      where
        by : (r : Pending) → q ≡ r → Plain (clock later).marks (armings_after at.armings (to_thread t) (says_step f.image p q (act_in e.act)) s2)
        by (Pending.Arm ticks) w =
            subst (λ (r : Pending). Plain (clock later).marks (armings_after at.armings (to_thread t) (says_step f.image p r (act_in e.act)) s2)) (sym w)
            (arms-by ticks rest (site-is h ∙ ap (λ (r : Pending). site_of_step f.image p r) w) (act-is h ∙ ap (λ (r : Pending). shows f.image p r e.act) w)
            (ap mark_in (moved-made h ∙ ap (λ (r : Pending). moves_show f.image p r rest e.moved) w))
            (pending ∙ ap (λ (r : Pending). (continues f.image p.context 0 r rest (act_in e.act) e.moved).pending) w) refl)
        by (Pending.ArmTimer ticks) w =
            subst (λ (r : Pending). Plain (clock later).marks (armings_after at.armings (to_thread t) (says_step f.image p r (act_in e.act)) s2)) (sym w)
            (arms-by ticks (to_deadline (deadline_in (act_in e.act)) rest) (site-is h ∙ ap (λ (r : Pending). site_of_step f.image p r) w) (act-is h ∙ ap (λ (r : Pending). shows f.image p r e.act) w)
            (ap mark_in (moved-made h ∙ ap (λ (r : Pending). moves_show f.image p r rest e.moved) w))
            (pending ∙ ap (λ (r : Pending). (continues f.image p.context 0 r rest (act_in e.act) e.moved).pending) w) (aimed s2 t (deadline_in (act_in e.act)) rest))
        by r w = subst (Plain (clock later).marks) (sym (same-armings q (ap is_arm w))) (timeless (ap is_arm w))
