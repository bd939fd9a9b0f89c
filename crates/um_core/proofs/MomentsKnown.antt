-- What a fine run of a described image leaves of each processor: the site of its next step and the threads that the step names exist, and it looks where
-- threads wait; and
-- the step that it asks for is lawful if its site takes it, since its list has room for each object whose cleaning it begins.
use Rattle.std.proofs.Common.{◌≡◌, ⊎_elim, ℕ, ◌-◌, ◌<◌, ◌≤◌, Bool, true, false, List, [], ◌∷◌, refl, sym, ap, ◌∙◌, subst, arith}
use Rattle.std.specs.Prelude.{◌&&◌, ◌||◌, if◌then◌else◌, not, nat_lt, IsTrue}
use Rattle.std.specs.List.{list_all}
use Rattle.std.proofs.lemmas.Bool.{and_parts, false≢true, lt-ltb}
use Rattle.um_base.specs.declared.ask.Told.{Told}
use Rattle.um_base.specs.declared.image.Image.{Image}
use Rattle.um_base.specs.declared.limits.TheConstants.{ROWS, STATIC_ROWS, THREADS}
use Rattle.um_machine.specs.State.{State}
use Rattle.um_invariants.specs.Described.{IsDescribed}
use Rattle.um_words.specs.declared.fine.FineAct.{FineAct}
use Rattle.um_fine.specs.Answers.{is_due_act, is_tick}
use Rattle.um_fine.specs.Asks.{CpuMay, begins_cleaning, fits_step, made_by, next_site}
use Rattle.um_fine.specs.Context.{Context}
use Rattle.um_fine.specs.FineRun.{IsFineRun}
use Rattle.um_fine.specs.Places.{Todo, Todos, cleanings}
use Rattle.um_fine.specs.Processor.{Processor}
use Rattle.um_fine.specs.Sites.{SiteMay, is_site}
use Rattle.um_fine.specs.Steps.{FineStep, Site}
use Rattle.um_refinement.specs.After.{left_by}
use Rattle.um_refinement.specs.Lists.{has_steps}
use Rattle.um_refinement.specs.Room.{CanRun}
use Rattle.um_processor.specs.Processors.{looks_well}
use Rattle.um_refinement.proofs.CleanRoom.{clean-room}
use Rattle.um_core.specs.PickedRun.{processor_after, site_after}
use Rattle.um_core.proofs.CleaningsFew.{cleanings-few}
use Rattle.um_core.proofs.LeftKnown.{IsLeft, left-known}
use Rattle.um_core.proofs.RousesKept.{rouses_well}
use Rattle.um_core.proofs.RousesKnown.{rouses-known}
use Rattle.um_core.proofs.SitesThere.{added-there, cut-there, looks-there, next-there, woken-there}

module _ (image : Image) (cpus : ℕ) (described : IsDescribed image) (can : CanRun image cpus) (done : List FineStep) (run : IsFineRun image cpus done) (k : ℕ) (l : k < cpus) where
  abbrev p : Processor
  p = processor_after image done k

  -- at the opening it has no thread
  by-left : (Q : Processor → Type 0) → Q (processor_after image [] k) → ((m : State) → IsLeft (left_by image cpus done) m → Q p) → Q p
  by-left Q first more = ⊎_elim (λ none. subst (λ d. Q (processor_after image d k)) (sym none) first) (λ r. more r.0 r.1) (left-known image cpus described can done run)

  pub site-there : (act : FineAct) → IsTrue (is_site (next_site image p act))
  site-there act =
      by-left (λ q. IsTrue (is_site (next_site image q act)))
      (elim (is_due_act act || is_tick act) as (λ b. IsTrue (is_site (if b then Site.clock else Site.scheduler))) [ true ↦ refl | false ↦ refl ])
      (λ m is. next-there (left_by image cpus done) m is k l act)

  pub wake-there : (who : ℕ) (told : Told) (todo : Todos) → p.todo ≡ Todo.wake who told ∷ todo → who < THREADS
  wake-there who told todo =
      by-left (λ q. q.todo ≡ Todo.wake who told ∷ todo → who < THREADS) (λ at. absurd (false≢true (ap has_steps at)))
      (λ m is at. woken-there (left_by image cpus done) m is k l who told todo at)

  pub add-there : (c : Context) (todo : Todos) → p.todo ≡ Todo.add c ∷ todo → c.thread < THREADS
  add-there c todo =
      by-left (λ q. q.todo ≡ Todo.add c ∷ todo → c.thread < THREADS) (λ at. absurd (false≢true (ap has_steps at)))
      (λ m is at. added-there (left_by image cpus done) m is k l c todo at)

  pub cut-known : (who : ℕ) (todo : Todos) → p.todo ≡ Todo.tell_cut who ∷ todo → who < THREADS
  cut-known who todo =
      by-left (λ q. q.todo ≡ Todo.tell_cut who ∷ todo → who < THREADS) (λ at. absurd (false≢true (ap has_steps at)))
      (λ m is at. cut-there (left_by image cpus done) m is k l who todo at)

  pub rouse-known : (who : ℕ) (todo : Todos) → p.todo ≡ Todo.rouse who ∷ todo → nat_lt who THREADS ≡ true
  rouse-known who todo at = (and_parts _ _ (sym (ap (list_all rouses_well) at) ∙ rouses-known image cpus described can done run k l)).0

  -- where it looks threads wait
  pub look-known : looks_well p.todo ≡ true
  look-known = by-left (λ q. looks_well q.todo ≡ true) refl (λ m is. looks-there (left_by image cpus done) m is k l)

  pub few-cleanings : cleanings p.todo ≤ ROWS - STATIC_ROWS
  few-cleanings =
      by-left (λ q. cleanings q.todo ≤ ROWS - STATIC_ROWS) (let none : 0 ≤ ROWS - STATIC_ROWS = omega arith in none)
      (λ m is. cleanings-few (left_by image cpus done) m is k l)

  pub cleaning-room : (e : FineStep) → made_by image p e ≡ e → SiteMay image (site_after image done e.site) e → begins_cleaning e ≡ true → cleanings p.todo < ROWS - STATIC_ROWS
  cleaning-room e makes taken begins =
      by-left (λ q. made_by image q e ≡ e → cleanings q.todo < ROWS - STATIC_ROWS) (λ first. let none : 0 < ROWS - STATIC_ROWS = omega arith in none)
      (λ m is made. clean-room (left_by image cpus done) m is.rel is.sound k l e made taken begins) makes

  pub asked-may : (e : FineStep) → made_by image p e ≡ e → IsTrue (fits_step image p p.todo e) → SiteMay image (site_after image done e.site) e → CpuMay image p e
  asked-may e makes fit taken = record { makes = makes; fit = λ i. fit i && room i }
    where
      by : (b : Bool) → begins_cleaning e ≡ b → (not b || nat_lt (cleanings p.todo) (ROWS - STATIC_ROWS)) ≡ true
      by false begins = refl
      by true begins = lt-ltb (cleanings p.todo) (ROWS - STATIC_ROWS) (cleaning-room e makes taken begins)

      room : (not (begins_cleaning e) || nat_lt (cleanings p.todo) (ROWS - STATIC_ROWS)) ≡ true
      room = by (begins_cleaning e) refl
