-- The events of a fine run by one processor are in order.
use Rattle.std.proofs.Common.{ℕ, true, ◌≡◌, append_assoc, ◌⊎◌, inl, inr, ◌<◌, List, [], ◌∷◌, ◌++◌, length, refl, sym, subst, eq-eqb, append-nil}
use Rattle.std.proofs.lemmas.Bool.{eqb-true}
use Rattle.um_base.specs.declared.act.Event.{Event}
use Rattle.um_base.specs.declared.image.Image.{Image}
use Rattle.um_machine.specs.Run.{opening}
use Rattle.um_invariants.specs.Described.{IsDescribed}
use Rattle.um_invariants.specs.InOrder.{AreInOrder, IsInOrder, Point, opening_point, Follows}
use Rattle.um_invariants.proofs.Cores.{core_of}
use Rattle.um_invariants.proofs.Opening.{is_opening}
use Rattle.um_invariants.proofs.SitedImages.{is_sited}
use Rattle.um_invariants.proofs.Turns.{IsKnown}
use Rattle.um_words.specs.declared.fine.FineAct.{FineAct}
use Rattle.um_fine.specs.Erasure.{shown, shown_by}
use Rattle.um_fine.specs.FineRun.{ByOneOf, IsFineRun, cpu_of, p_start, same_cpu, site_of}
use Rattle.um_fine.specs.Follows.{p_next}
use Rattle.um_fine.specs.Opening.{s_start}
use Rattle.um_fine.specs.Processor.{Processor}
use Rattle.um_fine.specs.Runs.{RunsAt, state_at}
use Rattle.um_fine.specs.Sites.{SiteMay, s_next, same_site, SiteState}
use Rattle.um_fine.specs.Steps.{FineStep, Site}
use Rattle.um_fine.proofs.FineRuns.{by_last, runs_pop, state_push}
use Rattle.um_fine.proofs.Keys.{same-itself, same-sound}
use Rattle.um_refinement.specs.After.{left_by}
use Rattle.um_refinement.specs.Choice.{AreChosen, AreChosenBehind, IsChosen}
use Rattle.um_refinement.proofs.Erased.{shown-append}
use Rattle.um_refinement.proofs.ErasedRuns.{no-steps, none-or-some}
use Rattle.um_refinement.proofs.FirstBounds.{bounded-first}
use Rattle.um_refinement.proofs.FirstLawful.{opens-described}
use Rattle.um_order.proofs.ArmingOrder.{nothing}
use Rattle.um_order.proofs.FirstPoint.{ready-first}
use Rattle.um_order.proofs.Follow.{FollowsBy}
use Rattle.um_order.proofs.KeptSteps.{opening-keeps}
use Rattle.um_order.proofs.OneKept.{step-kept, Holds}
use Rattle.um_order.proofs.Standing.{idles}

-- these events follow one another from one point to another
abbrev Leads : Point → List Event → Point → Type 0
Leads at [] to = to ≡ at
Leads at (event ∷ events) to = (mid : Point) × Follows at event mid × Leads mid events to

leads-append : (at mid to : Point) (xs ys : List Event) → Leads at xs mid → Leads mid ys to → Leads at (xs ++ ys) to
leads-append at mid to [] ys l r = subst (λ (z : Point). Leads z ys to) l r
leads-append at mid to (x ∷ xs) ys l r = (l.0, l.1, leads-append l.0 mid to xs ys l.2 r)

in-order : (at to : Point) (events : List Event) → Leads at events to → AreInOrder at events
in-order at to [] l = tt
in-order at to (event ∷ events) l = (l.0, l.1, in-order l.0 to events l.2)

one-leads : (s at to : Point) (h : List FineStep) (act : FineAct) → Leads s (shown h) at → FollowsBy at act to → Leads s (shown h ++ shown_by act []) to
one-leads s at to h (FineAct.Shown event more) l q = leads-append s at to (shown h) (event ∷ []) l (to, q, refl)
one-leads s at to h (FineAct.Unseen unseen) l q =
    subst (λ (z : Point). Leads s (shown h ++ []) z) (sym q) (subst (λ (l : List Event). Leads s l at) (sym (append-nil (shown h))) l)

-- a run of chosen steps ends with one
chosen-last : (image : Image) (cpus : ℕ) (done h : List FineStep) (e : FineStep) → AreChosenBehind image cpus done (h ++ e ∷ []) → AreChosenBehind image cpus done h × IsChosen (left_by image cpus (done ++ h)) e
chosen-last image cpus done [] e c = (tt, subst (λ (z : List FineStep). IsChosen (left_by image cpus z) e) (sym (append-nil done)) c.0)
chosen-last image cpus done (x ∷ h) e c =
    let rest = chosen-last image cpus (done ++ x ∷ []) h e c.1 in
    ((c.0, rest.0), subst (λ (z : List FineStep). IsChosen (left_by image cpus z) e) (append_assoc done (x ∷ []) h) rest.1)

module _ (image : Image) (described : IsDescribed image) where
  first-holds : IsKnown (core_of (opening image)) → Holds image p_start (s_start image) (opening_point image)
  first-holds known =
      record {
        rel = opens-described image described 1;
        reach = ([], refl);
        bounds = bounded-first image described 1;
        stands = idles (record { list = refl; skipped = []; still = tt; ready = ready-first image described; inside = refl; cut = refl; armings = inl nothing });
        full = λ runs. tt;
        keeps = opening-keeps image;
      }

  -- what goes along a fine run
  abbrev Goes : List FineStep → Type 0
  Goes h =
      RunsAt same_cpu cpu_of (ByOneOf image 1) (p_next image) p_start h → RunsAt same_site site_of (SiteMay image) (s_next image) (s_start image) h → AreChosen image 1 h
      → (at : Point) × Leads (opening_point image) (shown h) at × Holds image (state_at same_cpu cpu_of (p_next image) p_start h) (state_at same_site site_of (s_next image) (s_start image) h) at

  itself-cpu : (k : ℕ) → same_cpu k k ≡ true
  itself-cpu k = eq-eqb k k refl

  sound-cpu : (j k : ℕ) → same_cpu j k ≡ true → j ≡ k
  sound-cpu j k q = eqb-true j k q

  goes-on : IsKnown (core_of (opening image)) → (h : List FineStep) (e : FineStep) → Goes h → Goes (h ++ e ∷ [])
  goes-on known h e before r q c =
      let a = runs_pop same_cpu itself-cpu sound-cpu cpu_of (ByOneOf image 1) (p_next image) p_start h e r in
      let b = runs_pop same_site same-itself same-sound site_of (SiteMay image) (s_next image) (s_start image) h e q in
      let chosen = chosen-last image 1 [] h e c in
      let was = before a.0 b.0 chosen.0 in
      let next = step-kept image described known (state_at same_cpu cpu_of (p_next image) p_start h) (state_at same_site site_of (s_next image) (s_start image) h) was.0 e was.2 a.1 b.1 chosen.1 in (
        next.0,
        subst (λ (l : List Event). Leads (opening_point image) l next.0) (sym (shown-append h (e ∷ []))) (one-leads (opening_point image) was.0 next.0 h e.act was.1 next.1),
        subst (λ (z : (ℕ → Processor) × (Site → SiteState)). Holds image z.0 z.1 next.0)
            (λ i. (
              (λ k. sym (state_push same_cpu itself-cpu sound-cpu cpu_of (ByOneOf image 1) (p_next image) p_start h e k) i),
              λ k. sym (state_push same_site same-itself same-sound site_of (SiteMay image) (s_next image) (s_start image) h e k) i,
            )) next.2,
      )

  pub one-in-order : (steps : List FineStep) → IsFineRun image 1 steps → AreChosen image 1 steps → IsInOrder image (shown steps)
  one-in-order steps run chosen = by (none-or-some (length image.objects)) steps run chosen
    where
      by : (length image.objects ≡ 0) ⊎ (0 < length image.objects) → (h : List FineStep) → IsFineRun image 1 h → AreChosen image 1 h → IsInOrder image (shown h)
      by (inl none) [] run c = tt
      by (inl none) (e ∷ h) run c = absurd (no-steps image 1 described none e h run)
      by (inr some) h run c =
          let known = (is_opening image (is_sited image described.lawful described.few some) described.lawful).known in
          let a = by_last Goes (λ r q c. (opening_point image, refl, first-holds known)) (goes-on known) h run.processors run.sites c in
          in-order (opening_point image) a.0 (shown h) a.1
