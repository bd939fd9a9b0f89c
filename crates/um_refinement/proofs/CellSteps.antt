-- What a step makes of the cell of an object: only a step that is made there changes it; and how many processors have still to clear it.
use Rattle.um_refinement.proofs.Words.{◌≡◌, ℕ, zero, suc, ◌+◌, ◌<◌, ◌≤◌, Bool, true, false, cond, [], ◌∷◌, length, Option, Some, None, refl, sym, ap, ◌∙◌, subst, arith, eq-eqb, ◌==◌, ◌&&◌, not, if◌then◌else◌, eqb-false, eqb-true, Image, ROWS, row_at, Pending, State, object_at, FineAct, Unseen, Act, ◌||◌, act_in, is_dying, begins_cleaning, check_site, site_of_step, p_next, row_number, Todo, Todos, Processor, fails, SiteState, s_next, same_site, site_after, Exchange, FineStep, Site, AreBlocks, Fine, object, one_if, over_processors, row, total, counted, is_recycle, is_wipe, recyclers, wipers, object_after, object_state}
use Rattle.um_machine.specs.Objects as Plain
use Rattle.um_fine.specs.Answers.{is_due_act, is_tick, now_in}
use Rattle.um_fine.specs.Asks.{by_actor, idle_site, says_turn}
use Rattle.um_refinement.proofs.CleanersSteps.{gain}
use Rattle.um_refinement.proofs.DomainFacts.{two-parts}
use Rattle.um_refinement.proofs.Erased.{around}
use Rattle.um_refinement.proofs.FirstThreads.{one-most}
use Rattle.um_refinement.proofs.HeldRows.{total-zero}
use Rattle.um_refinement.proofs.Leaves.{Lawful}
use Rattle.um_refinement.proofs.ListCounts.{begun, cleans-none, count-cons, next-counts, wipes-of}
use Rattle.um_refinement.proofs.ListGrowth.{ReadsLast}
use Rattle.um_refinement.proofs.MemorySteps.{part-total}
use Rattle.um_refinement.proofs.SchedulerSteps.{made-at, made-says}
use Rattle.um_refinement.proofs.StepReads.{is-behind}
use Rattle.um_refinement.proofs.Sums.{over-changed}
use Rattle.um_refinement.proofs.WorkSteps.{object-sort}

-- A list has no more clearings of a cell than ends of cleanings of that object: each has one behind it.
pub clears-few : (image : Image) (x n : ℕ) (todo : Todos) → length todo ≤ n → AreBlocks image todo → counted (is_wipe x) todo ≤ counted (is_recycle x) todo
clears-few image x n [] l h = omega arith
clears-few image x zero (q ∷ todo) l h = absurd (omega (arith, l))
clears-few image x (suc n) (Todo.wipe z ∷ todo) l h =
    let rest = h.0.0 in
    let at : todo ≡ Todo.vacate z ∷ Todo.recycle z ∷ rest = h.0.1 in
    let blocks = (subst (AreBlocks image) at h.1).1 in
    let long : length todo ≡ suc (suc (length rest)) = ap length at in
    let more = clears-few image x n rest (omega (arith, l, long)) blocks in
    let wipes : counted (is_wipe x) todo ≡ counted (is_wipe x) rest = ap (counted (is_wipe x)) at in
    let recycles : counted (is_recycle x) todo ≡ one_if (x == z) + counted (is_recycle x) rest = ap (counted (is_recycle x)) at ∙ count-cons (is_recycle x) (Todo.recycle z) rest in
    let all = count-cons (is_wipe x) (Todo.wipe z) todo in
    omega (arith, more, wipes, recycles, all)
clears-few image x (suc n) (Todo.recycle z ∷ todo) l h =
    let more = clears-few image x n todo (omega (arith, l)) h in
    let all = count-cons (is_recycle x) (Todo.recycle z) todo in
    omega (arith, more, all)
clears-few image x (suc n) (Todo.vacate z ∷ todo) l h = clears-few image x n todo (omega (arith, l)) h.1
clears-few image x (suc n) (Todo.clean_pair who y ∷ todo) l h = clears-few image x n todo (omega (arith, l)) h.1
clears-few image x (suc n) (q ∷ todo) l h = clears-few image x n todo (omega (arith, l)) h

total-most : (g h : ℕ → ℕ) (n : ℕ) → ((k : ℕ) → k < n → g k ≤ h k) → total g n ≤ total h n
total-most g h zero few = omega arith
total-most g h (suc n) few =
    let before = total-most g h n (λ k l. few k (omega (arith, l))) in
    let last = few n (omega arith) in
    omega (arith, before, last)

-- no event of a pending step is made there, but work and a name
abbrev pub is_on_cell : Pending → Bool
is_on_cell (Pending.Work a ask) = true
is_on_cell (Pending.Named who) = true
is_on_cell q = false

pub off-cell : (image : Image) (p : Processor) (q : Pending) (x : ℕ) → is_on_cell q ≡ false → same_site (site_of_step image p q) (Site.object x) ≡ false
off-cell image p (Pending.Check a kind want refusal) x h = by (row_at image a.0)
  where
    by : (o : Option ℕ) → same_site (check_site image p o) (Site.object x) ≡ false
    by None = refl
    by (Some y) = refl
off-cell image p (Pending.DomMove d who) x h =
    elim (fails p.reply) as (λ b. same_site (if b then Site.domain d else Site.thread who.0) (Site.object x) ≡ false) [ true ↦ refl | false ↦ refl ]
off-cell image p (Pending.Work a ask) x h = absurd (subst (λ (b : Bool). elim b as (λ _. Type 0) [ true ↦ Unit {0} | false ↦ ⊥ ]) h tt)
off-cell image p (Pending.Named who) x h = absurd (subst (λ (b : Bool). elim b as (λ _. Type 0) [ true ↦ Unit {0} | false ↦ ⊥ ]) h tt)
off-cell image p q x h = refl

module _ (f : Fine) (m : State) (e : FineStep) (law : Lawful f m e) (x : ℕ) (few : x < ROWS) where
  open around f e use {later, processor as p}
  open is-behind f m e law use {frame}

  -- a step that takes a thread begins no cleaning
  pub takes-quiet : p.todo ≡ [] → begins_cleaning e ≡ false
  takes-quiet at = ap (λ a. begins_cleaning (record e { act = a })) (made-says f m e law [] at) ∙ by (is_due_act e.act) (is_tick e.act)
    where
      turn : (moved : Exchange) → begins_cleaning (record e { act = says_turn f.image p moved }) ≡ false
      turn (Exchange.thread c None) = refl
      turn (Exchange.thread c (Some told)) = refl
      turn moved = refl

      by : (due tick : Bool) → begins_cleaning (record e {
        act = if due then FineAct.Unseen Unseen.Due else if tick then by_actor f.image p (Act.Tick (now_in (act_in e.act))) else says_turn f.image p e.moved;
      }) ≡ false
      by true tick = refl
      by false true = refl
      by false false = turn e.moved

  -- and it is made at the scheduler, or at the clock
  pub takes-off : p.todo ≡ [] → same_site e.site (Site.row x) ≡ false
  takes-off at = ap (λ i. same_site i (Site.row x)) (made-at f m e law [] at) ∙ by (is_due_act e.act || is_tick e.act)
    where
      by : (b : Bool) → same_site (if b then Site.clock else Site.scheduler) (Site.row x) ≡ false
      by true = refl
      by false = refl

  -- or at any site but those
  pub takes-apart : (site : Site) → ((act : FineAct) → same_site Site.clock site ≡ false → same_site Site.scheduler site ≡ false → same_site (idle_site f.image p act) site ≡ false)
  takes-apart site act clock scheduler = by (is_due_act act || is_tick act)
    where
      by : (b : Bool) → same_site (if b then Site.clock else Site.scheduler) site ≡ false
      by true = clock
      by false = scheduler

  pub cell-else : same_site e.site (Site.object x) ≡ false → object later x ≡ object f x
  cell-else off = ap (λ b. object_state (cond b (s_next f.image (f.sites (Site.object x)) e) (f.sites (Site.object x)))) off

  pub cell-here : same_site e.site (Site.object x) ≡ true → (act : FineAct) → e.act ≡ act → object later x ≡ object_after (object f x) act e.moved
  cell-here on act said =
      let cell = object-sort x (f.sites (Site.object x)) (law.rel.sorts (Site.object x)) in
      ap (λ b. object_state (cond b (s_next f.image (f.sites (Site.object x)) e) (f.sites (Site.object x)))) on
      ∙ (ap (λ (z : SiteState). object_state (site_after f.image z e.act e.moved)) cell.1
      ∙ ap (λ a. object_after (object f x) a e.moved) said)

  -- How many have still to clear it.

  pub wipes-gain : (b : Bool) → begun (is_wipe x) (wipes-of x) f.image e b ≡ gain f m e law x few b (row_number e.site)
  wipes-gain true = elim (x == row_number e.site) as (λ c. (if c then 0 + 1 else 0) ≡ one_if c) [ true ↦ refl | false ↦ refl ]
  wipes-gain false = refl

  pub wipe-sum : (q : Todo) (todo : Todos) → p.todo ≡ q ∷ todo → ReadsLast e q todo
      → wipers later x + one_if (is_wipe x q) ≡ wipers f x + gain f m e law x few (begins_cleaning e) (row_number e.site)
  wipe-sum q todo at last =
      let all = over-changed f e (λ z. counted (is_wipe x) z.todo) law.by.named in
      let before = ap (counted (is_wipe x)) at ∙ count-cons (is_wipe x) q todo in
      let after = next-counts (is_wipe x) (wipes-of x) f.image p e q todo at (frame q todo at) last in
      let more = wipes-gain (begins_cleaning e) in
      omega (arith, all, before, after, more)

  pub idle-count : (test : Todo → Bool) → counted test (p_next f.image p e).todo ≡ 0 → p.todo ≡ []
      → over_processors later (λ z. counted test z.todo) ≡ over_processors f (λ z. counted test z.todo)
  idle-count test none at =
      let all = over-changed f e (λ z. counted test z.todo) law.by.named in
      let before = ap (counted test) at in
      omega (arith, all, before, none)

  -- no more than those that recycle the object
  pub wipers-few : wipers f x ≤ recyclers f x
  wipers-few =
      total-most (λ k. counted (is_wipe x) (f.processors k).todo) (λ k. counted (is_recycle x) (f.processors k).todo) f.cpus
      (λ k l. clears-few f.image x (length (f.processors k).todo) (f.processors k).todo (omega arith) (law.rel.processors k l).blocks)

  -- where an object isn't gone, or is still claimed, nobody does either
  pub none-wipes : recyclers f x ≡ 0 → wipers f x ≡ 0
  none-wipes none = let most = wipers-few in omega (arith, none, most)

  -- The processor that recycles the object next is the only one, and has cleared the cell.
  pub recycles-cleared : (todo : Todos) → p.todo ≡ Todo.recycle x ∷ todo → (recyclers f x ≡ 1) × (wipers f x ≡ 0)
  recycles-cleared todo at = (omega (arith, part, here, most), total-zero (λ k. counted (is_wipe x) (f.processors k).todo) f.cpus (λ k l. by k l (e.cpu == k) refl))
    where
      here : counted (is_recycle x) p.todo ≡ counted (is_recycle x) todo + 1
      here = ap (counted (is_recycle x)) at ∙ ap (λ b. if b then counted (is_recycle x) todo + 1 else counted (is_recycle x) todo) (eq-eqb x x refl)

      most : recyclers f x ≤ 1
      most =
          let c = (law.rel.rows x few).cleaners.cleaner in
          let o = one-most (Plain.is_gone (object_at m x).status && not (is_dying (row f x).stage)) in
          omega (arith, c, o)

      part : counted (is_recycle x) p.todo ≤ recyclers f x
      part = part-total (λ j. counted (is_recycle x) (f.processors j).todo) f.cpus e.cpu law.by.named

      by : (k : ℕ) → k < f.cpus → (b : Bool) → (e.cpu == k) ≡ b → counted (is_wipe x) (f.processors k).todo ≡ 0
      by k l true q =
          ap (λ n. counted (is_wipe x) (f.processors n).todo) (sym (eqb-true e.cpu k q))
          ∙ (ap (counted (is_wipe x)) at
          ∙ (cleans-none f.image x todo (subst (AreBlocks f.image) at (law.rel.processors e.cpu law.by.named).blocks) (omega (arith, part, here, most))).0)
      by k l false q =
          let both = two-parts (λ j. counted (is_recycle x) (f.processors j).todo) f.cpus e.cpu k law.by.named l (eqb-false e.cpu k q) in
          (cleans-none f.image x (f.processors k).todo (law.rel.processors k l).blocks (omega (arith, both, here, most))).0
