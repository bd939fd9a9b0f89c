-- That an end is told to those who wait for it is that step of the machine, where the relation holds: it stands on the list of a thread that has ended,
-- right before the clearing of its own object; and where the own object is cleared nobody waits any more.
use Rattle.um_refinement.proofs.Words.{IsRun, Reply, Waiter, and_from, filter, in_order, map, ◌≡◌, ℕ, ◌<◌, Bool, true, false, [], ◌∷◌, refl, sym, ap, ◌∙◌, subst, ◌==◌, IsTrue, if◌then◌else◌, list_any, eq-eqb, eqb-true, false≢true, true≢false, unwrap_or, Act, Addr, own_row, thread_of_addr, thread_of_row, Life, Pending, Steps, Thread, is_living, is_started, to_thread, MayChoose, State, thread_at, Call, call_at, call_is, core_of, claims, IsClearing, Shaped, FineAct, Unseen, SiteMay, CpuMay, Site, SiteState, site_answers, act_in, woken_in, by_me, is_empty, row_named, Context, IsOffered, IsOf, FineStep, Todo, Todos, Fine, Rel, Fits, AreFramed}
use Rattle.um_machine.specs.Joins as Plain
use Rattle.um_machine.specs.Run.{leaves}
use Rattle.um_machine.specs.Services.{told}
use Rattle.um_machine.specs.Table as T
use Rattle.um_fine.specs.Asks.{site_by}
use Rattle.um_fine.specs.Joins.{all_joined, is_joined, left_or_shut}
use Rattle.um_refinement.specs.Fine.{joins}
use Rattle.um_refinement.specs.Offers as O
use Rattle.um_refinement.proofs.CallsProper.{AreProper}
use Rattle.um_refinement.proofs.CallSteps.{Proper}
use Rattle.um_refinement.proofs.Erased.{Goes, GoesBy}
use Rattle.um_refinement.proofs.Kept.{joins-sort}
use Rattle.um_refinement.proofs.Offered.{own-unless, runs-first}
use Rattle.um_refinement.proofs.Reachable.{IsSound}
use Rattle.um_refinement.proofs.StepsLeft.{offered-awake, offered-on}

-- the steps of an end, from the clearing of a mark on
pub data IsAtEnd (a : Addr) (rest : Steps) : Steps → Type 0 where
  now : IsAtEnd a rest (Pending.ClearInit a ∷ rest)
  behind : {from : ℕ} → IsAtEnd a rest (Pending.Drops from ∷ Pending.ClearInit a ∷ rest)

module _ (m : State) (sound : IsSound m) (t : ℕ) (a : Addr) (rest : Steps) (steps : Steps) (pending : (thread_at m t).pending ≡ steps) (at_end : IsAtEnd a rest steps) where
  call-pending : (call_at (core_of m) t).pending ≡ steps
  call-pending = ap (λ (call : Call). call.pending) (call_is m t) ∙ pending

  clearing : IsClearing m.image t (call_at (core_of m) t).living (call_at (core_of m) t).checked a rest
  clearing = by at_end (subst (Shaped m.image t (call_at (core_of m) t).living (call_at (core_of m) t).checked) call-pending (sound.known.claimed.shaped t))
    where
      by : {steps : Steps} → IsAtEnd a rest steps → Shaped m.image t (call_at (core_of m) t).living (call_at (core_of m) t).checked steps
          → IsClearing m.image t (call_at (core_of m) t).living (call_at (core_of m) t).checked a rest
      by now h = h
      by behind h = h

  at-end-is : Plain.is_end steps ≡ true
  at-end-is = by at_end
    where
      by : {steps : Steps} → IsAtEnd a rest steps → Plain.is_end steps ≡ true
      by now = refl
      by behind = refl

  keeps : (call_at (core_of m) t).keeps ≡ true
  keeps = by (call_at (core_of m) t).keeps refl
    where
      empty : {steps : Steps} → IsAtEnd a rest steps → steps ≡ [] → ⊥
      empty now e = false≢true (ap is_empty e)
      empty behind e = false≢true (ap is_empty e)

      by : (b : Bool) → (call_at (core_of m) t).keeps ≡ b → b ≡ true
      by true q = refl
      by false q = absurd (empty at_end (sym call-pending ∙ sound.known.claimed.idle t q))

  -- a creation that is taken back clears the mark of another thread's object
  other-claimed : (w : ℕ) → claims m.image w steps ≡ true → own_row m.image w ≡ own_row m.image t → ⊥
  other-claimed w claim same =
      let claims-it : claims m.image w (call_at (core_of m) t).pending ≡ true = ap (claims m.image w) call-pending ∙ claim in
      let one = (sound.known.claimed.claimed t w claims-it).1 in
      let two = (sound.known.claimed.real t keeps).1 in
      let at : w ≡ t = ap (λ o. unwrap_or o w) (sym one ∙ (ap (thread_of_row m.image) same ∙ two)) in
      true≢false (sym keeps ∙ (ap (λ n. (call_at (core_of m) n).keeps) (sym at) ∙ sound.known.claimed.free t w claims-it))

  -- one that clears its own object doesn't live
  pub own-dead : row_named m.image a ≡ own_row m.image t → is_living (thread_at m t).life ≡ false
  own-dead own = ap (λ (call : Call). call.living) (sym (call_is m t)) ∙ by rest refl clearing
    where
      by : (z : Steps) → rest ≡ z → IsClearing m.image t (call_at (core_of m) t).living (call_at (core_of m) t).checked a z → (call_at (core_of m) t).living ≡ false
      by [] same h = h.0.0
      by (Pending.ClearInit b ∷ []) same h = h.0.0
      by (Pending.Fatal reason cause ∷ more) same h =
          let w = thread_of_addr m.image a.0 in
          absurd (other-claimed w (claimed at_end same) (sym (ap (λ o. unwrap_or o 0) h) ∙ own))
        where
          claimed : {steps : Steps} → IsAtEnd a rest steps → rest ≡ Pending.Fatal reason cause ∷ more → claims m.image (thread_of_addr m.image a.0) steps ≡ true
          claimed now e = ap (λ (z : Steps). claims m.image (thread_of_addr m.image a.0) (Pending.ClearInit a ∷ z)) e ∙ eq-eqb (thread_of_addr m.image a.0) (thread_of_addr m.image a.0) refl
          claimed behind e = ap (λ (z : Steps). claims m.image (thread_of_addr m.image a.0) (Pending.ClearInit a ∷ z)) e ∙ eq-eqb (thread_of_addr m.image a.0) (thread_of_addr m.image a.0) refl
      by (q ∷ z) same h = absurd h

  pub ending : row_named m.image a ≡ own_row m.image t → IsTrue (is_started (thread_at m t).life) → IsTrue (Plain.is_ending (thread_at m t))
  ending own started = and_from _ _ (ended (thread_at m t).life started (own-dead own)) (ap Plain.is_end pending ∙ at-end-is)
    where
      ended : (life : Life) → IsTrue (is_started life) → is_living life ≡ false → Plain.has_ended life ≡ true
      ended Life.Unborn s d = absurd (false≢true s)
      ended Life.Living s d = absurd (true≢false d)
      ended Life.Ended s d = refl

module _ (f : Fine) (m : State) (rel : Rel f m) (sound : IsSound m) (proper : AreProper m.image m) (k : ℕ) (l : k < f.cpus) (e : FineStep) (may : CpuMay f.image (f.processors k) e)
    (taken : SiteMay f.image (f.sites e.site) e) (todo : Todos) (at : (f.processors k).todo ≡ Todo.leave ∷ todo) where
  c : Context
  c = (f.processors k).context

  abbrev t : ℕ
  t = (f.processors k).context.thread

  -- what stands behind it
  record Clears : Type 0 where
    addr : Addr
    rest : Steps
    offered : IsOffered f.image (f.processors k).context (Pending.ClearInit addr) rest
    own : (row_named f.image addr == own_row f.image (f.processors k).context.thread) ≡ true

  clears : Clears
  clears =
      let frame = (subst (AreFramed f.image) at (rel.processors k l).frames).0 in
      let fits = subst (Fits f.image (f.processors k).context) at (rel.processors k l).list.fits in
      let behind = subst (λ (z : Todos). O.ClearsOwn f.image (f.processors k).context z × Fits f.image (f.processors k).context z) frame.2 fits in
      record { addr = frame.0; rest = frame.1; offered = behind.1.0; own = behind.0 }

  run : IsRun f m (f.processors k).context
  run = rel.contexts.running k l (runs-first rel l Todo.leave todo at (λ hand. hand))

  pub leave-started : IsTrue (is_started (thread_at m (f.processors k).context.thread).life)
  leave-started = run.started

  pub leave-ending : IsTrue (Plain.is_ending (thread_at m (f.processors k).context.thread))
  leave-ending = by clears.offered
    where
      of : IsOf f m (f.processors k).context
      of = run.of (offered-on f.image (f.processors k).context (Pending.ClearInit clears.addr) clears.rest clears.offered)

      same : (f.processors k).context.pending ≡ (thread_at m (f.processors k).context.thread).pending
      same = ap (λ (z : Thread). z.pending) (own-unless of (offered-awake f.image (f.processors k).context (Pending.ClearInit clears.addr) clears.rest clears.offered refl))

      mine : row_named m.image clears.addr ≡ own_row m.image (f.processors k).context.thread
      mine = (λ i. row_named (rel.image i) clears.addr) ∙ (eqb-true _ _ clears.own ∙ λ i. own_row (sym rel.image i) (f.processors k).context.thread)

      by : IsOffered f.image (f.processors k).context (Pending.ClearInit clears.addr) clears.rest → IsTrue (Plain.is_ending (thread_at m (f.processors k).context.thread))
      by (O.goes p) = ending m sound t clears.addr clears.rest (Pending.ClearInit clears.addr ∷ clears.rest) (sym same ∙ p) now mine leave-started
      by (O.dropped {from} p) = ending m sound t clears.addr clears.rest (Pending.Drops from ∷ Pending.ClearInit clears.addr ∷ clears.rest) (sym same ∙ p) behind mine leave-started
      by (O.passed {who} p) =
          absurd (subst (Proper m.image (thread_at m (f.processors k).context.thread).checked) (sym same ∙ p) (proper (f.processors k).context.thread).0).0

  module _ (said : e.act ≡ by_me f.image (f.processors k) (Act.Left (to_thread (f.processors k).context.thread) (woken_in (act_in e.act)))) where
    here : left_or_shut (joins f) (to_thread t) ≡ by_me f.image (f.processors k) (Act.Left (to_thread (f.processors k).context.thread) (woken_in (act_in e.act)))
    here =
        let act = by_me f.image (f.processors k) (Act.Left (to_thread (f.processors k).context.thread) (woken_in (act_in e.act))) in
        let site : e.site ≡ Site.joins = sym (ap (λ (s : FineStep). s.site) may.makes) ∙ ap (λ (z : Todos). site_by f.image (f.processors k) z e.act) at in
        subst (λ (s : SiteState). site_answers f.image s e.moved act ≡ act) (joins-sort (f.sites Site.joins) (rel.sorts Site.joins)).1
        (subst (λ (z : Site × FineAct). site_answers f.image (f.sites z.0) e.moved z.1 ≡ z.1) (λ j. (site j, said j)) (ap (λ (s : FineStep). s.act) taken.filled_in))

    joined : is_joined (joins f) t ≡ true
    joined = by (is_joined (joins f) t) refl
      where
        by : (b : Bool) → is_joined (joins f) t ≡ b → b ≡ true
        by true e = refl
        by false e =
            absurd (subst (λ (z : FineAct). elim z as (λ _. Type 0) [ FineAct.Unseen u ↦ Unit {0} | FineAct.Shown a b ↦ ⊥ ])
            (sym (ap (λ b. if b then shown else FineAct.Unseen (Unseen.Shut (to_thread t))) e) ∙ here) tt)
          where
            shown : FineAct
            shown = by_me f.image (f.processors k) (Act.Left (to_thread t) (T.replies_of (all_joined (joins f) t)))

    pub tells : T.replies_of (all_joined (joins f) t) ≡ woken_in (act_in e.act)
    tells =
        ap (λ z. woken_in (act_in z))
        (ap (λ b. if b then by_me f.image (f.processors k) (Act.Left (to_thread t) (T.replies_of (all_joined (joins f) t))) else FineAct.Unseen (Unseen.Shut (to_thread t))) (sym joined) ∙ here)

    -- somebody waits for that
    pub left-chosen : MayChoose m (f.processors k).context.thread 0 Pending.Left
    left-chosen = ap (λ ws. list_any (Plain.joins t) ws) (sym rel.joins.waiters) ∙ joined

    pub left-step : Goes m e (T.after m (f.processors k).context.thread 0 Pending.Left (thread_at m (f.processors k).context.thread).pending)
    left-step =
        subst (λ a. GoesBy m a (T.after m t 0 Pending.Left (thread_at m t).pending)) (sym said)
        (record {
          step = Pending.Left;
          rest = (thread_at m t).pending;
          row = 0;
          offered = leaves leave-ending;
          chosen = left-chosen;
          says = ap (Act.Left (to_thread t)) (sym tells ∙ ap (λ ws. T.replies_of (map (λ (w : Waiter). told w (Reply.Num 0) []) (in_order (filter (Plain.joins t) ws)))) rel.joins.waiters);
          leaves = refl;
        })
