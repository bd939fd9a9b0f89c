-- What is noted along a fine run of a described image is the machine's: the last state of the machine with which the sites are related has
-- the priorities noted, and agrees with the state that is read off. Where no processor can make another step, the run is complete.
use Rattle.std.specs.Prelude.{slice_index_or}
use Rattle.std.proofs.Common.{◌<◌, ◌∙◌, ◌∷◌, ◌≡◌, ◌≤◌, ◌⊎◌, List, [], ap, arith, eq-eqb, false, inl, inr, length, refl, subst, sym, ℕ}
use Rattle.std.proofs.Math.ListN.{get_or-map}
use Rattle.std.proofs.lemmas.Bool.{eqb-true, true≢false}
use Rattle.std.proofs.lemmas.List.{length-map}
use Rattle.std.proofs.lemmas.Option.{slice_get_within}
use Rattle.um_base.specs.declared.image.Image.{Image}
use Rattle.um_machine.specs.Run.{IsComplete, Runs, objects_from, opening}
use Rattle.um_machine.specs.State.{State, nobody, vacant}
use Rattle.um_machine.specs.declared.object.Object.{Object}
use Rattle.um_invariants.specs.Described.{IsDescribed}
use Rattle.um_invariants.proofs.Cores.{core_of, status_is}
use Rattle.um_invariants.proofs.Opening.{is_opening}
use Rattle.um_invariants.proofs.SitedImages.{is_sited}
use Rattle.um_invariants.proofs.Turns.{IsKnown}
use Rattle.um_fine.specs.Erasure.{shown}
use Rattle.um_fine.specs.FineRun.{ByOneOf, IsFineRun, cpu_of, p_start, same_cpu, site_of}
use Rattle.um_fine.specs.Follows.{p_next}
use Rattle.um_fine.specs.Opening.{s_start}
use Rattle.um_fine.specs.Places.{Todos}
use Rattle.um_fine.specs.Processor.{Processor}
use Rattle.um_fine.specs.Sites.{SiteMay, SiteState, s_next, same_site}
use Rattle.um_fine.specs.Steps.{FineStep, Site}
use Rattle.um_fine.proofs.FineRuns.{along}
use Rattle.um_fine.proofs.Keys.{same-itself, same-sound}
use Rattle.um_refinement.specs.After.{left_by}
use Rattle.um_refinement.specs.Fine.{Fine}
use Rattle.um_refinement.specs.Lists.{adders, of_thread}
use Rattle.um_refinement.specs.Relation.{Rel}
use Rattle.um_refinement.specs.Room.{CanCount, CanRun, IsStuck}
use Rattle.um_refinement.proofs.BoundedRuns.{bounded-runs}
use Rattle.um_refinement.proofs.ChildrenKnown.{children-known}
use Rattle.um_refinement.proofs.CompleteRuns.{complete-runs}
use Rattle.um_refinement.proofs.DomainsKnown.{started-placed}
use Rattle.um_refinement.proofs.Erased.{Goes, IsReachable, along-runs, fine, reach-on, stepped}
use Rattle.um_refinement.proofs.ErasedRuns.{no-steps, none-or-some}
use Rattle.um_refinement.proofs.FirstLawful.{opens-described}
use Rattle.um_refinement.proofs.FirstObjects.{Stood, opening-image, opening-objects, stood-or-none}
use Rattle.um_refinement.proofs.Leaves.{Lawful}
use Rattle.um_refinement.proofs.Parts.{kept-step}
use Rattle.um_refinement.proofs.Reachable.{opening-wide, reachable-sound}
use Rattle.um_refinement.proofs.RoomKnown.{events-stand, has-room}
use Rattle.um_refinement.proofs.StuckComplete.{stuck-complete}
use Rattle.um_refinement.proofs.StuckLists.{halts, stuck-empty}
use Rattle.um_refinement.proofs.SuitsKnown.{kept-known, proper-known, tells-known}
use Rattle.um_closing.specs.Agreement.{AgreeInDump}
use Rattle.um_closing.specs.Idle.{AreIdle}
use Rattle.um_closing.specs.ReadOff.{closing_state}
use Rattle.um_closing.proofs.Agreed.{IsPlaced, agreed}
use Rattle.um_closing.proofs.NotedSteps.{IsNoted, noted-step}
use Rattle.um_closing.proofs.Priorities.{priority_of}
use Rattle.um_machine.specs.Objects as Plain

-- What holds of processors, sites and the machine's state along a fine run.
record Holds (f : Fine) (m : State) : Type 0 where
  rel : Rel f m
  reach : IsReachable f.image f.cpus m
  noted : IsNoted f m

-- What a fine run leaves: a state that its events lead to, with which processors and sites are related, and whose priorities are noted. A state
-- that its events lead to has its objects where they may stand. Where no processor can make another step, none has a step left, and the run is
-- complete.
pub record Left (image : Image) (cpus : ℕ) (h : List FineStep) : Type 0 where
  pub last : State
  pub run : Runs (opening image) (shown h) last
  pub rel : Rel (left_by image cpus h) last
  pub noted : IsNoted (left_by image cpus h) last
  pub placed : (m : State) → Runs (opening image) (shown h) m → IsPlaced m
  pub ends : CanRun image cpus → IsStuck (left_by image cpus h) → CanCount (left_by image cpus h) → AreIdle (left_by image cpus h) × IsComplete last

-- So the state read off agrees with it where no processor has a step left.
pub closes : (image : Image) (cpus : ℕ) (h : List FineStep) (left : Left image cpus h) → AreIdle (left_by image cpus h) → AgreeInDump image (closing_state image cpus h) left.last
closes image cpus h left idle =
    agreed (left_by image cpus h) left.last left.rel (left.placed left.last left.run) idle
    (λ t few started. left.noted.noted t few (λ k l. ap (λ (todo : Todos). of_thread t (adders todo)) (idle k l)))

module _ (image : Image) (cpus : ℕ) (described : IsDescribed image) where
  -- the opening has the priorities of all its threads
  noted-first : IsNoted (fine image cpus p_start (s_start image)) (opening image)
  noted-first =
      let threads = (opening image).threads in
      record {
        wide = length-map threads priority_of ∙ (opening-wide image described.few).threads;
        noted = λ t few added. get_or-map priority_of threads t nobody;
      }

  module _ (known : IsKnown (core_of (opening image))) where
    step-kept : (ps : ℕ → Processor) (ss : Site → SiteState) (m : State) (e : FineStep) → Holds (fine image cpus ps ss) m → ByOneOf image cpus (ps (cpu_of e)) e → SiteMay image (ss (site_of e)) e
        → (m2 : State) × Goes m e m2 × Holds (stepped image cpus ps ss e) m2
    step-kept ps ss m e holds by taken =
        let f = fine image cpus ps ss in
        let next = kept-step image cpus described known ps ss m e holds.rel holds.reach by taken in
        let law : Lawful f m e = record { rel = holds.rel; sound = reachable-sound image cpus described.few m holds.reach known; by = by; taken = taken } in (
          next.state,
          next.goes,
          record { rel = next.related; reach = reach-on image cpus m next.state e.act holds.reach next.goes; noted = noted-step f m e law holds.noted next.state next.leaves },
        )

    placed-known : (m : State) → IsReachable image cpus m → IsPlaced m
    placed-known m reach =
        let sound = reachable-sound image cpus described.few m reach known in
        record {
          wide = sound.wide;
          live = λ x l. ap Plain.is_live (sym (status_is m x)) ∙ sound.known.reached.static x l;
          used = λ x free. sound.known.reached.used x (ap Plain.is_free (status_is m x) ∙ free);
        }

    ends-known : (h : List FineStep) → IsFineRun image cpus h → (m : State) → IsReachable image cpus m → Rel (left_by image cpus h) m
        → CanRun image cpus → IsStuck (left_by image cpus h) → CanCount (left_by image cpus h) → AreIdle (left_by image cpus h) × IsComplete m
    ends-known h run m reach rel can stuck counts =
        let f = left_by image cpus h in
        let bounds = (bounded-runs image cpus described known h run).3 in
        let proper = proper-known image cpus described known m reach in
        let sound = reachable-sound image cpus described.few m reach known in
        let room = has-room f m rel proper sound bounds (tells-known image cpus described known m reach) (children-known image cpus m reach) can counts in (
          stuck-empty f m rel proper (λ t l started. started-placed image cpus described m reach t started) sound room (events-stand f m rel proper sound bounds) (λ t. ((kept-known image cpus described known m reach).orderly t).steps) (λ k l some. halts f stuck k l),
          stuck-complete image cpus described known can f.processors f.sites m rel reach bounds counts stuck,
        )

    left-known : (h : List FineStep) → IsFineRun image cpus h → Left image cpus h
    left-known h run =
        let first : Holds (fine image cpus p_start (s_start image)) (opening image) = record { rel = opens-described image described cpus; reach = ([], refl); noted = noted-first } in
        let a = along same_cpu (λ k. eq-eqb k k refl) (λ j k q. eqb-true j k q) same_site same-itself same-sound cpu_of site_of
        (ByOneOf image cpus) (p_next image) p_start (SiteMay image) (s_next image) (s_start image)
        Goes (opening image) (λ ps ss m. Holds (fine image cpus ps ss) m) first step-kept h run.processors run.sites in
        record {
          last = a.0;
          run = along-runs (opening image) a.0 h a.1;
          rel = a.2.rel;
          noted = a.2.noted;
          placed = λ m runs. placed-known m (shown h, runs);
          ends = ends-known h run a.0 a.2.reach a.2.rel;
        }

  -- without an object there is no thread, and no step
  module _ (none : length image.objects ≡ 0) where
    placed-none : IsPlaced (opening image)
    placed-none =
        record {
          wide = opening-wide image described.few;
          live = λ x l.
              let few = subst (λ (i : Image). x < length i.objects) (opening-image image) l in absurd (omega (arith, few, none));
          used = λ x free. absurd (by x (stood-or-none image.boots 0 image.objects x) (ap (λ (os : List Object). Plain.is_free (slice_index_or os x vacant).status) (sym (opening-objects image)) ∙ free));
        }
      where
        by : (x : ℕ) → Stood image.boots 0 image.objects x ⊎ ((slice_index_or (objects_from image.boots 0 image.objects) x vacant ≡ vacant) × (length image.objects ≤ x))
            → Plain.is_free (slice_index_or (objects_from image.boots 0 image.objects) x vacant).status ≡ false → ⊥
        by x (inl stood) free = let within = slice_get_within image.objects x stood.0 stood.1 in omega (arith, within, none)
        by x (inr r) free = true≢false (ap (λ (o : Object). Plain.is_free o.status) (sym r.0) ∙ free)

    left-none : (h : List FineStep) → IsFineRun image cpus h → Left image cpus h
    left-none [] run =
        record {
          last = opening image;
          run = refl;
          rel = opens-described image described cpus;
          noted = noted-first;
          placed = λ m runs. subst IsPlaced (sym runs) placed-none;
          ends = λ can stuck counts. let one = complete-runs image cpus described can [] run counts stuck in (λ k l. refl, subst IsComplete one.1 one.2);
        }
    left-none (e ∷ h) run = absurd (no-steps image cpus described none e h run)

  pub leaves-noted : (h : List FineStep) → IsFineRun image cpus h → Left image cpus h
  leaves-noted = by (none-or-some (length image.objects))
    where
      by : (length image.objects ≡ 0) ⊎ (0 < length image.objects) → (h : List FineStep) → IsFineRun image cpus h → Left image cpus h
      by (inl none) = left-none none
      by (inr some) = left-known (is_opening image (is_sited image described.lawful described.few some) described.lawful).known
