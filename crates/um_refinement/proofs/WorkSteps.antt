-- A processor's event on the contents of an object that its thread holds is that step of the machine, where the relation holds. So is a
-- copy or a probe of a queue's message, whose size it has looked at, and a move to a domain, which it has claimed.
use Rattle.um_refinement.proofs.Words.{◌≡◌, ℕ, ◌<◌, Bool, true, false, ◌∷◌, Some, refl, sym, ap, ◌∙◌, subst, length, IsTrue, slice_index_or, false≢true, Act, Ask, ROWS, Access, Addr, ThreadIx, Pending, Thread, allowed, Steps, Acted, acted, State, object_at, thread_at, row_named, act_in, outcome_in, Cell, ObjectCell, work_on, Exchange, FineStep, Site, SiteState, is_sort, site_answers, Todo, Todos, allows, shows, Fine, object, looked, moving, answer_in, caller_in, woken_in, caller, object_state}
use Rattle.um_machine.specs.declared.pending.Amount.TheVariants as Amount
use Rattle.um_machine.specs.Table as T
use Rattle.um_refinement.proofs.HeldRows.{checked-claimed, claimed-whole}
use Rattle.um_refinement.proofs.MemorySteps.{allows-it}
use Rattle.um_fine.specs.Asks.{note_number}
use Rattle.um_refinement.specs.Frames.{nothing}
use Rattle.um_refinement.proofs.Offered.{IsStep, Shows, act-is, behind-is, NotKilled, at-made, machine-step, moved-made, own-same, says-at, shown-on, shows-runs, site-is}
use Rattle.um_refinement.proofs.RowSteps.{named-row}
use Rattle.um_refinement.proofs.Says.{work-agrees}

pub object-sort : (x : ℕ) (s : SiteState) → IsTrue (is_sort (Site.object x) s) → (n : ℕ) × (s ≡ SiteState.cell n (Cell.object (object_state s)))
object-sort x (SiteState.cell n (Cell.object o)) h = (n, refl)
object-sort x s h = absurd (false≢true h)

-- what an act of work says that has come out so
abbrev worked : Addr → Acted → Act
worked a w = Act.Work a w.answer (T.replies_of w.woken)

module _ {f : Fine} {m : State} {k : ℕ} {e : FineStep} {rest : Steps} {todo : Todos} where
  -- the work of a call whose object its thread holds
  pub work-step : (a : Addr) (ask : Ask) → row_named f.image a < ROWS
      → slice_index_or (thread_at m (f.processors k).context.thread).checked (row_named f.image a) false ≡ true → Shows f m k e (Pending.Work a ask) rest todo
      → IsStep f m k e 0 (Pending.Work a ask)
  work-step a ask few held h =
      let p = f.processors k in
      let x = row_named f.image a in
      let act = shows f.image p (Pending.Work a ask) e.act in
      let cell = object-sort x (f.sites (Site.object x)) (h.rel.sorts (Site.object x)) in
      let here = subst (λ (s : SiteState). site_answers f.image s e.moved act ≡ act) cell.1 (says-at h (Site.object x) act (site-is h) (act-is h)) in
      let says : worked a (work_on (object f x) e.moved) ≡ Act.Work a (answer_in (act_in e.act)) (woken_in (act_in e.act)) = ap act_in here in
      let moved : e.moved ≡ Exchange.asked (caller f.image p ask) (note_number f.image p) (outcome_in e.moved) =
      moved-made h in
      let whole = claimed-whole f m h.rel x few (checked-claimed f m h.rel k x h.there few (shows-runs h) (shown-on h) held) in
      let contents = (h.rel.rows x few).contents in
      let own = own-same h in
      let same = work-agrees m p.context.thread x a ask (object f x) p.context (sym (named-row f m h.rel a)) (ap (λ (z : ObjectCell). z.contents) (contents.whole whole)) (ap (λ (z : ObjectCell). z.waiters) (contents.whole whole))
      (ap (λ (z : Thread). z.priority) own) (ap (λ (z : Thread). z.buffer) own) (ap (λ (z : Thread). z.until) own) in
      machine-step h 0 (act-is h) tt
      (sym says ∙ ap (worked a) (ap (λ z. acted (object f x).contents (object f x).waiters (caller_in z)) moved ∙ same))

  -- the size of a message is the machine's
  size-is : (q : Pending) (b : Addr) → NotKilled q → looked (Todo.show q rest ∷ todo) ≡ Some b → Shows f m k e q rest todo → (f.processors k).size ≡ T.amount_of m (Amount.MessageOf b)
  size-is q b other at h =
      (h.rel.processors k h.there).looks.size b (ap looked (at-made h other) ∙ at) ∙ ap (λ x. T.message_size (object_at m x).contents) (sym (named-row f m h.rel b))

  -- what is said of a message's size, and of whether so many bytes may be accessed, is what the machine says
  sized-says : (said : ℕ → Bool → Act) (access : Access) (q : Pending) (a b : Addr) → NotKilled q → looked (Todo.show q rest ∷ todo) ≡ Some b → (h : Shows f m k e q rest todo)
      → allows f.image (f.processors k) access a.0 (f.processors k).size ≡ allowed m (f.processors k).context.thread access a.0 (f.processors k).size
      → said (f.processors k).size (allows f.image (f.processors k) access a.0 (f.processors k).size)
      ≡ said (T.amount_of m (Amount.MessageOf b)) (allowed m (f.processors k).context.thread access a.0 (T.amount_of m (Amount.MessageOf b)))
  sized-says said access q a b other at h may = ap (said (f.processors k).size) may ∙ ap (λ n. said n (allowed m (f.processors k).context.thread access a.0 n)) (size-is q b other at h)

  pub put-copy-step : (a b : Addr) → (f.processors k).domain < length f.image.domains → Shows f m k e (Pending.CopyIn a (Amount.MessageOf b)) rest todo
      → IsStep f m k e 0 (Pending.CopyIn a (Amount.MessageOf b))
  put-copy-step a b few h =
      machine-step h 0 (act-is h) tt
      (sized-says (Act.CopyIn a) Access.Read (Pending.CopyIn a (Amount.MessageOf b)) a b tt refl h (allows-it h tt nothing (behind-is h) few Access.Read a.0 (f.processors k).size))

  pub get-probe-step : (a b : Addr) → (f.processors k).domain < length f.image.domains → Shows f m k e (Pending.Probe a (Amount.MessageOf b)) rest todo
      → IsStep f m k e 0 (Pending.Probe a (Amount.MessageOf b))
  get-probe-step a b few h =
      machine-step h 0 (act-is h) tt
      (sized-says (Act.Probe a) Access.Write (Pending.Probe a (Amount.MessageOf b)) a b tt refl h (allows-it h tt nothing (behind-is h) few Access.Write a.0 (f.processors k).size))

  pub move-step : (d : ℕ) (who : ThreadIx) → Shows f m k e (Pending.DomMove d who) rest todo
      → IsStep f m k e 0 (Pending.DomMove d who)
  move-step d who h = machine-step h 0 (act-is h) tt (ap (Act.DomMove d who) ((h.rel.processors k h.there).looks.reply d (ap moving (at-made h tt))))
