-- No step of a processor may follow where its site refuses one of that kind that it asks for, or where it has nothing that it could ask for. Where none of
-- any processor is next, the run is over.
use Rattle.std.proofs.Common.{◌≡◌, ℕ, ◌-◌, ◌<◌, ◌≤◌, true, false, List, ◌∷◌, length, refl, sym, ap, ◌∙◌, subst, arith}
use Rattle.std.specs.Prelude.{IsTrue, nat_le}
use Rattle.std.proofs.lemmas.Bool.{and_parts, false≢true, leb-true, lt-ltb, true≢false}
use Rattle.um_base.specs.declared.act.Act.{Act}
use Rattle.um_base.specs.declared.image.Image.{Image}
use Rattle.um_base.specs.declared.limits.TheConstants.{ROWS, STATIC_ROWS}
use Rattle.um_base.specs.Weight.{weight}
use Rattle.um_base.specs.declared.names.ThreadIx.{ThreadIx}
use Rattle.um_machine.specs.declared.pending.Pending.{Pending}
use Rattle.um_machine.specs.Order.{Steps}
use Rattle.um_invariants.specs.Described.{IsDescribed}
use Rattle.um_words.specs.declared.fine.FineAct.{FineAct}
use Rattle.um_words.specs.declared.fine.More.{More}
use Rattle.um_fine.specs.Asks.{CpuMay, fits_step, made_by, me, next_site, says, site_at, site_by}
use Rattle.um_fine.specs.Cells.{Cell}
use Rattle.um_fine.specs.FineRun.{IsFineRun}
use Rattle.um_fine.specs.Places.{Todo, Todos, cleanings}
use Rattle.um_fine.specs.Processor.{Processor}
use Rattle.um_fine.specs.Sites.{SiteMay, SiteState, filled, is_site, is_sort, site_takes}
use Rattle.um_fine.specs.Steps.{FineStep, Site}
use Rattle.um_refinement.specs.After.{left_by}
use Rattle.um_refinement.specs.Room.{CanCount, CanRun}
use Rattle.um_refinement.proofs.ChosenStuck.{chosen-runs}
use Rattle.um_processor.specs.Processors.{fits_next, has_thread, is_event, looks_well, shows_event}
use Rattle.um_processor.specs.Wants.{wants_step}
use Rattle.um_tables.specs.Sited.{IsSeen}
use Rattle.um_core.specs.Moments.{AreAlike}
use Rattle.um_core.specs.PickedRun.{IsOver, MayFollow, NoneIsNext, processor_after, site_after}
use Rattle.um_core.proofs.Counts.{can-count}
use Rattle.um_core.proofs.MomentsKnown.{add-there, cut-known, few-cleanings, look-known, rouse-known, site-there, wake-there}
use Rattle.um_core.proofs.OneStep.{refused-none}
use Rattle.um_core.proofs.Sorts.{sorts-after}

-- the cell of memory takes no exit
exit-refused : (s : SiteState) → IsTrue (is_sort Site.memory s) → (thread : ThreadIx) → site_takes s (FineAct.Shown (record { thread = thread; act = Act.Exit }) More.Nothing) ≡ true → ⊥
exit-refused (SiteState.cell n (Cell.memory m)) sort thread takes = false≢true (and_parts _ _ takes).1
exit-refused s sort thread takes = false≢true sort

module _ (image : Image) (cpus : ℕ) (done : List FineStep) (k : ℕ) where
  abbrev p : Processor
  p = processor_after image done k

  abbrev sites : Site → SiteState
  sites = site_after image done

  -- no step of it may follow
  abbrev pub NoneFollows : Type 0
  NoneFollows = (e : FineStep) → e.cpu ≡ k → MayFollow image cpus done e → ⊥

  pub may : (e : FineStep) → e.cpu ≡ k → MayFollow image cpus done e → CpuMay image p e
  may e same follows = subst (λ j. CpuMay image (processor_after image done j) e) same follows.makes.may

  takes : (e : FineStep) → made_by image p e ≡ e → SiteMay image (sites e.site) e → SiteMay image (sites (next_site image p e.act)) e
  takes e makes taken = subst (λ i. SiteMay image (sites i) e) (sym (ap (λ (x : FineStep). x.site) makes)) taken

  -- its site refuses a step of that kind
  pub busy-none : (e : FineStep) → made_by image p e ≡ e → IsTrue (wants_step image p p.todo e) → filled image (sites e.site) e ≡ e → IsSeen (sites e.site) e.act
      → site_takes (sites e.site) e.act ≡ false → (g : FineStep) → g.cpu ≡ k → AreAlike e g → MayFollow image cpus done g → ⊥
  busy-none e makes wants fills seen refused g same alike follows =
      refused-none image p sites (sorts-after image done) e makes wants fills seen refused g alike (record { makes = may g same follows; takes = follows.takes })

  -- its next step has no room
  no-room : (todo : Todos) → fits_next image p todo ≡ false → (e : FineStep) → IsTrue (fits_step image p todo e) → ⊥
  no-room (Todo.show q rest ∷ todo) none e fit = false≢true (sym none ∙ (and_parts _ _ fit).1)
  no-room todo none e fit = true≢false none

  pub roomless-none : fits_next image p p.todo ≡ false → NoneFollows
  roomless-none none e same follows = no-room p.todo none e (and_parts _ _ (may e same follows).fit).0

  -- its next step has no event
  no-exit : (e : FineStep) → FineAct.Shown (record { thread = me image p; act = Act.Exit }) More.Nothing ≡ e.act → IsTrue (site_takes (sites Site.memory) e.act) → ⊥
  no-exit e says takes = exit-refused (sites Site.memory) (sorts-after image done Site.memory) (me image p) (subst (λ a. IsTrue (site_takes (sites Site.memory) a)) (sym says) takes)

  no-event : (q : Pending) (rest : Steps) (todo : Todos) → is_event q ≡ false → (e : FineStep) → says image p (Todo.show q rest ∷ todo) e.act e.moved ≡ e.act
      → IsTrue (site_takes (sites (site_at image p (Todo.show q rest ∷ todo))) e.act) → ⊥
  no-event Pending.Resume rest todo none e says takes = no-exit e says takes
  no-event (Pending.Inherit who) rest todo none e says takes = no-exit e says takes
  no-event (Pending.Drops from) rest todo none e says takes = no-exit e says takes
  no-event (Pending.CleanPair who) rest todo none e says takes = no-exit e says takes
  no-event Pending.Recycle rest todo none e says takes = no-exit e says takes
  no-event Pending.Left rest todo none e says takes = no-exit e says takes
  no-event Pending.Tick rest todo none e says takes = no-exit e says takes
  no-event (Pending.TimeOut who) rest todo none e says takes = no-exit e says takes
  no-event Pending.Expire rest todo none e says takes = no-exit e says takes
  no-event (Pending.Cut who) rest todo none e says takes = no-exit e says takes
  no-event q rest todo none e says takes = true≢false none

  no-shown : (todo : Todos) → shows_event todo ≡ false → (e : FineStep) → says image p todo e.act e.moved ≡ e.act → IsTrue (site_takes (sites (site_by image p todo e.act)) e.act) → ⊥
  no-shown (Todo.show q rest ∷ todo) none e says takes = no-event q rest todo none e says takes
  no-shown todo none e says takes = true≢false none

  pub eventless-none : shows_event p.todo ≡ false → NoneFollows
  eventless-none none e same follows =
      let lawful = may e same follows in
      no-shown p.todo none e (ap (λ (x : FineStep). x.act) lawful.makes) (takes e lawful.makes follows.takes).takes

-- Other causes for which it has nothing to ask for don't come up in a run.

module _ (image : Image) (cpus : ℕ) (described : IsDescribed image) (can : CanRun image cpus) (done : List FineStep) (run : IsFineRun image cpus done) (k : ℕ) (l : k < cpus) where
  -- its next step is at a site that isn't there
  pub no-site : (act : FineAct) → is_site (next_site image (processor_after image done k) act) ≡ false → ⊥
  no-site act none = false≢true (sym none ∙ site-there image cpus described can done run k l act)

  -- it looks where nobody can wait
  pub no-look : looks_well (processor_after image done k).todo ≡ false → ⊥
  no-look none = false≢true (sym none ∙ look-known image cpus described can done run k l)

  -- it wakes, cuts, rouses or adds a thread that isn't there
  pub no-thread : has_thread (processor_after image done k).todo ≡ false → ⊥
  no-thread none = by (processor_after image done k).todo refl none
    where
      by : (todo : Todos) → (processor_after image done k).todo ≡ todo → has_thread todo ≡ false → ⊥
      by (Todo.wake who told ∷ todo) at none = false≢true (sym none ∙ lt-ltb _ _ (wake-there image cpus described can done run k l who told todo at))
      by (Todo.add c ∷ todo) at none = false≢true (sym none ∙ lt-ltb _ _ (add-there image cpus described can done run k l c todo at))
      by (Todo.tell_cut who ∷ todo) at none = false≢true (sym none ∙ lt-ltb _ _ (cut-known image cpus described can done run k l who todo at))
      by (Todo.rouse who ∷ todo) at none = false≢true (sym none ∙ rouse-known image cpus described can done run k l who todo at)
      by todo at none = true≢false none

  -- it has more objects to clean than there are dynamic rows
  pub not-full : (n : ℕ) → ROWS - STATIC_ROWS < n → nat_le n (cleanings (processor_after image done k).todo) ≡ true → ⊥
  not-full n more full =
      let few = few-cleanings image cpus described can done run k l in
      let many = leb-true n (cleanings (processor_after image done k).todo) full in
      omega (arith, few, many, more)

-- How long fine runs are.
abbrev pub AreShort : Type 0
AreShort = (image : Image) (cpus : ℕ) (steps : List FineStep) → IsDescribed image → cpus ≤ 8 → IsFineRun image cpus steps → length steps ≤ weight image

-- so no word of one comes to the end of what it counts
pub counts-known : (image : Image) (cpus : ℕ) → IsDescribed image → cpus ≤ 8 → AreShort → (done : List FineStep) → IsFineRun image cpus done → CanCount (left_by image cpus done)
counts-known image cpus described few short done run =
    let most = short image cpus done described few run in let light = described.lawful.light in can-count image done (omega (arith, most, light)) cpus

-- where no step of any processor is next, the run is over
pub nobody-steps : (image : Image) (cpus : ℕ) → IsDescribed image → CanRun image cpus → AreShort → (done : List FineStep) → IsFineRun image cpus done
    → ((k : ℕ) → k < cpus → NoneIsNext image cpus done k) → IsOver image cpus done
nobody-steps image cpus described can short done run none e follows =
    chosen-runs image cpus described can done run (counts-known image cpus described can.few short done run)
    (λ g by takes chosen. none g.cpu by.named g refl (record { follows = record { makes = by; takes = takes }; chosen = chosen })) e follows.makes follows.takes
