-- What comes of the turn of a processor that a core lends out: a step; or none, and the core is as before.
use Rattle.std.proofs.Common.{◌≡◌, ◌≢◌, ℕ, ◌<◌, Bool, true, List, [], ◌∷◌, length, map, refl, sym, ap, ◌∙◌, subst, slice_index_or, slice_set}
use Rattle.std.proofs.lemmas.Bool.{true≢false}
use Rattle.std.proofs.lemmas.List.{get_or-map, map-set, set-get_or}
use Rattle.um_base.specs.declared.image.Image.{Image}
use Rattle.um_words.specs.declared.fine.FineAct.{FineAct}
use Rattle.um_fine.specs.Follows.{p_next}
use Rattle.um_fine.specs.Places.{Todos}
use Rattle.um_fine.specs.Processor.{Processor, idle}
use Rattle.um_fine.specs.Steps.{FineStep, Site}
use Rattle.um_processor.specs.declared.phase.Turn.{Turn}
use Rattle.um_processor.specs.declared.processor.Processor.{Processor as Kept}
use Rattle.um_processor.specs.Idles.{is_turn}
use Rattle.um_processor.specs.Processors.{Goes, IsStuck, Turned, TurnedAt, UnlessMade}
use Rattle.um_processor.specs.Standing.{whole}
use Rattle.um_processor.specs.Wants.{Wants}
use Rattle.um_refinement.specs.Lists.{has_steps}
use Rattle.um_tables.specs.Sited.{IsFull, IsShut, Sited, WasMade, state_at}
use Rattle.um_core.specs.CoreSteps.{HasTurned, IsRefused, Makes, processor_at}
use Rattle.um_core.specs.CoreSteps as C
use Rattle.um_core.specs.Cores.{Core}

-- the core that these fields stand for
abbrev pub core_of : Sited → List Kept → Core
core_of sites kept = record { sites = sites; processors = map whole kept }

module _ (image : Image) (k : ℕ) (kept : List Kept) (before after : Sited) (p z : Kept) (few : k < length kept) (here : p ≡ slice_index_or kept k p) where
  abbrev old : Core
  old = core_of before kept

  abbrev new : Core
  new = core_of after (slice_set kept k z)

  at : whole p ≡ slice_index_or (map whole kept) k idle
  at = ap whole here ∙ sym (get_or-map whole kept k p idle few)

  makes : (e : FineStep) → WasMade image before e after → Goes k image (whole p) e (whole z) → Makes image k e old new
  makes e taken goes =
      record {
        asks = subst (λ (q : Processor). Wants k image q e) at goes.asks;
        taken = taken;
        leaves = map-set whole kept k z ∙ ap (slice_set (map whole kept) k) (goes.next ∙ ap (λ (q : Processor). p_next image q e) at);
      }

  refused : (e : FineStep) → Wants k image (whole p) e → IsShut image (state_at before e.site) e → IsRefused image old k e
  refused e asks shut = record { asks = subst (λ (q : Processor). Wants k image q e) at asks; shut = shut }

  same-core : whole z ≡ whole p → after ≡ before → new ≡ old
  same-core same sites =
      let processors : map whole (slice_set kept k z) ≡ map whole kept =
      map-set whole kept k z ∙ (ap (slice_set (map whole kept) k) (same ∙ at) ∙ set-get_or (map whole kept) k idle) in
      λ i. record { sites = sites i; processors = processors i }

  -- what a processor of tables tells of its turn
  abbrev pub Tells : Turn → Type 0
  Tells turn =
      Turned turn k image (whole p) (whole z) (λ e. WasMade image before e after) (λ e. (after ≡ before) × IsShut image (state_at before e.site) e)
      (λ (site : Site). (after ≡ before) × IsFull before) (after ≡ before)

  -- and one without a thread, of its turn at a site, for a step that passes a test
  abbrev pub Idles : Site → (FineAct → Bool) → Turn → Type 0
  Idles site test turn =
      TurnedAt site turn k image (whole p) (whole z) (λ e. (test e.act ≡ true) × WasMade image before e after)
      (λ e. (e.site ≡ site) × (test e.act ≡ true) × (after ≡ before) × IsShut image (state_at before e.site) e)
      (λ (site : Site). (after ≡ before) × IsFull before) (after ≡ before)

  pub idle-turned : (site : Site) (test : FineAct → Bool) (turn : Turn) → Idles site test turn → UnlessMade turn (whole z ≡ whole p) → HasTurned test turn image k old new
  idle-turned site test Turn.Made (e, taken, goes) same = (e, (λ empty. taken.0), makes e taken.1 goes)
  idle-turned site test Turn.Busy (e, shut, asks) same = (e, same-core same shut.2, (λ empty. shut.1), refused e asks shut.3)
  idle-turned site test Turn.Changed told same = (same-core same told.0, C.full told.1)
  idle-turned site test Turn.Stuck told same = (same-core same told.0, C.stuck (subst (IsStuck image) at told.1))

  busy-turned : (processor_at old k).todo ≢ [] → (test : FineAct → Bool) (turn : Turn) → Tells turn → UnlessMade turn (whole z ≡ whole p) → HasTurned test turn image k old new
  busy-turned some test Turn.Made (e, taken, goes) same = (e, (λ empty. absurd (some empty)), makes e taken goes)
  busy-turned some test Turn.Busy (e, shut, asks) same = (e, same-core same shut.0, (λ empty. absurd (some empty)), refused e asks shut.1)
  busy-turned some test Turn.Changed told same = (same-core same told.0, C.full told.1)
  busy-turned some test Turn.Stuck told same = (same-core same told.0, C.stuck (subst (IsStuck image) at told.1))

  -- one with a list makes the first step on it, and one without takes a thread
  pub has-turned : (turn : Turn) → Tells turn → ((whole p).todo ≡ [] → Idles Site.scheduler is_turn turn) → UnlessMade turn (whole z ≡ whole p) → HasTurned is_turn turn image k old new
  has-turned turn told takes same = by (whole p).todo refl
    where
      by : (todo : Todos) → (whole p).todo ≡ todo → HasTurned is_turn turn image k old new
      by [] empty = idle-turned Site.scheduler is_turn turn (takes empty) same
      by (q ∷ todo) full =
          busy-turned (λ none. true≢false (ap has_steps (sym full ∙ (ap (λ (x : Processor). x.todo) at ∙ none)))) is_turn turn told same

  -- the processor of that number
  pub kept-at : processor_at old k ≡ whole p
  kept-at = sym at
