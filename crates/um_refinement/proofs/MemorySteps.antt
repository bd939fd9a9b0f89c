-- A processor's access to memory is that step of the machine, where the relation holds: its region table has the regions of its thread.
use Rattle.um_refinement.proofs.Words.{access_over, ◌≡◌, ℕ, zero, suc, ◌+◌, ◌<◌, ◌≤◌, Bool, true, false, ◌∷◌, length, refl, sym, ap, ◌∙◌, subst, arith, ◌⊎◌, inl, inr, eq-eqb, eq-or-lt_of_le, ◌==◌, ◌&&◌, ◌||◌, not, IsTrue, if◌then◌else◌, list_any, eqb-false, eqb-true, false≢true, Act, Image, Access, Addr, Mode, Pending, Thread, allowed, bytes_at, Steps, to_thread, State, is_user, thread_at, FineAct, More, act_in, FineStep, Site, read, Cell, SiteState, is_sort, site_answers, Todo, Todos, allows, Fine, bytes, bytes_state, domain, one_if, total, has_claimed, has_held, is_let_go, is_hold, is_own_claim, is_own_done, is_region_load, moves_to, reads, regions, le_value, partitions_of, regions_of, value_in, has_loaded}
use Rattle.um_machine.specs.declared.pending.Amount.TheVariants as Amount
use Rattle.um_fine.specs.Processor.{loaded, mode_of}
use Rattle.um_refinement.specs.Frames.{IsWaitOver, both, nothing, rereads, settled}
use Rattle.um_refinement.proofs.Offered.{IsStep, Shows, act-is, behind-is, NotKilled, at-made, machine-step, own-part, own-same, says-at, site-is}
use Rattle.um_refinement.proofs.Says.{allowed-agrees, read-agrees}

lt-else : (k n : ℕ) → k < n + 1 → (k ≡ n → ⊥) → k < n
lt-else k n l ne = by (eq-or-lt_of_le (omega (arith, l)))
  where
    by : (k ≡ n) ⊎ (k < n) → k < n
    by (inl e) = absurd (ne e)
    by (inr less) = less

-- a part of a sum is at most the sum
pub part-total : (g : ℕ → ℕ) (n k : ℕ) → k < n → g k ≤ total g n
part-total g zero k l = absurd (omega arith)
part-total g (suc n) k l = by (k == n) refl (part-total g n k)
  where
    by : (b : Bool) → (k == n) ≡ b → (k < n → g k ≤ total g n) → g k ≤ total g n + g n
    by true e more = let same : g k ≡ g n = ap g (eqb-true k n e) in omega (arith, same)
    by false e more = let h = more (lt-else k n (omega (arith, l)) (eqb-false k n e)) in omega (arith, h)

mode-back : (mode : Mode) → mode_of (is_user mode) ≡ mode
mode-back Mode.User = refl
mode-back Mode.Supervisor = refl

module _ {f : Fine} {m : State} {k : ℕ} {e : FineStep} {q : Pending} {rest : Steps} {todo : Todos} (h : Shows f m k e q rest todo)
    (other : NotKilled q) {over : Todos} (waits : IsWaitOver over) (behind : todo ≡ access_over over) where
  list-is : (f.processors k).todo ≡ Todo.show q rest ∷ access_over over
  list-is = at-made h other ∙ ap (λ (l : Todos). Todo.show q rest ∷ l) behind

  -- the end of a wait has none of these steps
  over-none : {l : Todos} → IsWaitOver l → (list_any is_hold l ≡ false) × (list_any is_own_claim l ≡ false) × (list_any is_region_load l ≡ false)
  over-none nothing = (refl, refl, refl)
  over-none settled = (refl, refl, refl)
  over-none rereads = (refl, refl, refl)
  over-none both = (refl, refl, refl)

  held : has_held (f.processors k) ≡ true
  held = ap (λ (l : Todos). list_any is_let_go l && not (list_any is_hold l)) list-is ∙ ap not (over-none waits).0

  claimed : has_claimed (f.processors k) ≡ true
  claimed = ap (λ (l : Todos). list_any is_own_done l && not (list_any is_own_claim l)) list-is ∙ ap not (over-none waits).1

  table-loaded : has_loaded (f.processors k) ≡ true
  table-loaded =
      ap (λ (l : Todos). (list_any is_own_done l && not (list_any is_own_claim l)) && not (list_any is_region_load l)) list-is
      ∙ (λ i. not ((over-none waits).1 i) && not ((over-none waits).2 i))

  -- nobody writes the domain, since this processor reads it
  reads-it : reads (f.processors k).domain (f.processors k) ≡ true
  reads-it =
      ap (λ b. (b && ((f.processors k).domain == (f.processors k).domain)) || moves_to (f.processors k).domain (f.processors k).reply (f.processors k).todo) claimed
      ∙ ap (λ b. b || moves_to (f.processors k).domain (f.processors k).reply (f.processors k).todo) (eq-eqb (f.processors k).domain (f.processors k).domain refl)

  unwritten : (f.processors k).domain < length f.image.domains → (domain f (f.processors k).domain).writer ≡ false
  unwritten few = by (domain f (f.processors k).domain).writer refl
    where
      d : ℕ
      d = (f.processors k).domain

      by : (b : Bool) → (domain f (f.processors k).domain).writer ≡ b → b ≡ false
      by false w = refl
      by true w =
          let is = h.rel.domains (f.processors k).domain few in
          let none = is.apart w in
          let sum = is.readers in
          let mine : one_if (reads (f.processors k).domain (f.processors k)) ≡ 1 = ap one_if reads-it in
          let part = part-total (λ j. one_if (reads (f.processors k).domain (f.processors j))) f.cpus k h.there in
          absurd (omega (arith, none, sum, mine, part))

  -- the table has the regions of the thread
  pub regions-loaded : (f.processors k).domain < length f.image.domains → loaded f.image (f.processors k).table ≡ regions_of m (f.processors k).context.thread
  regions-loaded few =
      let p = f.processors k in
      let t = p.context.thread in
      let is = (h.rel.processors k h.there).table in
      let found = is.loaded table-loaded in
      let table = found.0 in
      let key = found.2 in
      let of = own-part h in
      let there = ap (λ z. z.domain) key in
      let version = ap (λ z. z.version) key ∙ (is.present claimed ∙ ap (λ d. (domain f d).version) (sym there)) in
      let unwritten-there = ap (λ d. (domain f d).writer) there ∙ unwritten few in
      let parts = is.right table found.1 version unwritten-there in
      let domains = there ∙ ((h.rel.processors k h.there).domain.kept held ∙ (h.rel.threads t of.index).word.domain) in
      let mode : mode_of table.key.user ≡ (thread_at m t).mode = ap (λ z. mode_of z.user) key ∙ (mode-back p.context.mode ∙ ap (λ (z : Thread). z.mode) (own-same h)) in
      let stack : table.key.stack ≡ (thread_at m t).stack.0 = ap (λ z. z.stack) key ∙ ap (λ (z : Thread). z.stack.0) (own-same h) in
      ap (loaded f.image) found.1
      ∙ λ i. regions (sym h.rel.image i) (mode i) (stack i) ((parts ∙ ap (partitions_of m) domains) i)

  pub allows-it : (f.processors k).domain < length f.image.domains → (access : Access) (a n : ℕ)
      → allows f.image (f.processors k) access a n ≡ allowed m (f.processors k).context.thread access a n
  allows-it few access a n =
      ap (λ (i : Image). allows i (f.processors k) access a n) (sym h.rel.image)
      ∙ allowed-agrees m (f.processors k) (f.processors k).context.thread access a n
      (ap (λ (i : Image). loaded i (f.processors k).table) h.rel.image ∙ regions-loaded few)

pub memory-sort : (s : SiteState) → IsTrue (is_sort Site.memory s) → (n : ℕ) × (s ≡ SiteState.cell n (Cell.memory (bytes_state s)))
memory-sort (SiteState.cell n (Cell.memory m)) h = (n, refl)
memory-sort s h = absurd (false≢true h)

-- what a load says, by whether it is allowed and what is read
abbrev load_said : Addr → ℕ → Bool → ℕ → Act
load_said a n b value = if b then Act.Load a n value else Act.Fault Access.Read a n

abbrev by_thread : ℕ → Act → FineAct
by_thread t act = FineAct.Shown (record { thread = to_thread t; act = act }) More.Nothing

module _ {f : Fine} {m : State} {k : ℕ} {e : FineStep} {rest : Steps} {todo : Todos} (few : (f.processors k).domain < length f.image.domains) where
  pub store-step : (a : Addr) (n value : ℕ) → Shows f m k e (Pending.Store a n value) rest todo
      → IsStep f m k e 0 (Pending.Store a n value)
  store-step a n value h =
      machine-step h 0 (act-is h) tt
      (ap (λ b. if b then Act.Store a n value else Act.Fault Access.Write a n) (allows-it h tt nothing (behind-is h) few Access.Write a.0 n))

  pub fetch-step : (a : Addr) → Shows f m k e (Pending.Fetch a) rest todo → IsStep f m k e 0 (Pending.Fetch a)
  fetch-step a h =
      machine-step h 0 (act-is h) tt
      (ap (λ b. if b then Act.Fetch a else Act.Fault Access.Exec a 4) (allows-it h tt nothing (behind-is h) few Access.Exec a.0 4))

  pub probe-step : (a : Addr) (n : ℕ) → Shows f m k e (Pending.Probe a (Amount.Bytes n)) rest todo
      → IsStep f m k e 0 (Pending.Probe a (Amount.Bytes n))
  probe-step a n h = machine-step h 0 (act-is h) tt (ap (Act.Probe a n) (allows-it h tt nothing (behind-is h) few Access.Write a.0 n))

  pub copy-in-step : (a : Addr) (n : ℕ) → Shows f m k e (Pending.CopyIn a (Amount.Bytes n)) rest todo
      → IsStep f m k e 0 (Pending.CopyIn a (Amount.Bytes n))
  copy-in-step a n h = machine-step h 0 (act-is h) tt (ap (Act.CopyIn a n) (allows-it h tt nothing (behind-is h) few Access.Read a.0 n))

  pub copy-out-step : (a : Addr) → Shows f m k e (Pending.CopyOut a) rest todo → IsStep f m k e 0 (Pending.CopyOut a)
  copy-out-step a h =
      let c = (f.processors k).context in
      let own = own-same h in
      machine-step h 0 (act-is h) tt
      (ap (Act.CopyOut a (length c.buffer)) (allows-it h tt nothing (behind-is h) few Access.Write a.0 (length c.buffer))
      ∙ ap (λ (z : Thread). Act.CopyOut a (length z.buffer) (allowed m c.thread Access.Write a.0 (length z.buffer))) own)

  -- a load that is allowed reads what the machine's memory has
  load-value : (to : ℕ) (a : Addr) (n : ℕ) → Shows f m k e (Pending.Load to a n) rest todo → allows f.image (f.processors k) Access.Read a.0 n ≡ true
      → value_in (act_in e.act) ≡ le_value (bytes_at m a.0 n)
  load-value to a n h good =
      let act = by_thread (f.processors k).context.thread (Act.Load a n (value_in (act_in e.act))) in
      let memory = memory-sort (f.sites Site.memory) (h.rel.sorts Site.memory) in
      let said = act-is h ∙ ap (λ b. by_thread (f.processors k).context.thread (load_said a n b (value_in (act_in e.act)))) good in
      let here = subst (λ (s : SiteState). site_answers f.image s e.moved act ≡ act) memory.1 (says-at h Site.memory act (site-is h) said) in
      sym (ap (λ z. value_in (act_in z)) here)
      ∙ ap le_value (ap (λ (i : Image). read i (bytes f) a.0 n) (sym h.rel.image) ∙ read-agrees m (bytes f) a.0 n h.rel.memory.memory h.rel.memory.stacks)

  pub load-step : (to : ℕ) (a : Addr) (n : ℕ) → Shows f m k e (Pending.Load to a n) rest todo
      → IsStep f m k e 0 (Pending.Load to a n)
  load-step to a n h = machine-step h 0 (act-is h) tt (by (allows f.image (f.processors k) Access.Read a.0 n) refl)
    where
      same : allows f.image (f.processors k) Access.Read a.0 n ≡ allowed m (f.processors k).context.thread Access.Read a.0 n
      same = allows-it h tt nothing (behind-is h) few Access.Read a.0 n

      by : (b : Bool) → allows f.image (f.processors k) Access.Read a.0 n ≡ b
          → load_said a n (allows f.image (f.processors k) Access.Read a.0 n) (value_in (act_in e.act))
          ≡ load_said a n (allowed m (f.processors k).context.thread Access.Read a.0 n) (le_value (bytes_at m a.0 n))
      by true good = let v = load-value to a n h good in λ i. load_said a n (same i) (v i)
      by false bad =
          ap (λ b. load_said a n b (value_in (act_in e.act))) bad
          ∙ sym (ap (λ b. load_said a n b (le_value (bytes_at m a.0 n))) (sym same ∙ bad))
