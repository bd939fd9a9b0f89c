-- The bounds hold at the opening of a described image.
use Rattle.um_refinement.proofs.Words.{◌≡◌, ℕ, zero, suc, ◌<◌, Bool, true, List, [], ◌∷◌, length, map, Some, refl, sym, ap, ◌∙◌, subst, arith, nat_lt, slice_get, slice_index_or, list_all, and_from, and_parts, false≢true, lt-ltb, Boot, Image, ObjectDef, THREADS, is_lawful_boot, object_passes, Thread, blank, boot_thread, booted, booted_one, loaded, opening, State, is_living, nobody, thread_at, at_set, IsDescribed, real-below, Context, parked_at, scheduler}
use Rattle.um_refinement.proofs.Bounds.{AreBounded}
use Rattle.um_refinement.proofs.CallBounds.{Bounded}
use Rattle.um_refinement.proofs.CallBoundsKept.{IsBounded}
use Rattle.um_refinement.proofs.First.{first, none-some}
use Rattle.um_refinement.proofs.FirstLawful.{boot-is}
use Rattle.um_refinement.proofs.FirstObjects.{opening-image}
use Rattle.um_refinement.proofs.FirstReady.{entry, threads-are}
use Rattle.um_refinement.proofs.FirstThreads.{no-sleeper, uncut-first, loaded-threads, new-thread, nobodies, parked-first}

passes-inside : (p : ObjectDef → Bool) (os : List ObjectDef) (x : ℕ) → object_passes p (slice_get os x) ≡ true → x < length os
passes-inside p [] x h = absurd (false≢true h)
passes-inside p (o ∷ os) zero h = omega arith
passes-inside p (o ∷ os) (suc x) h = let l = passes-inside p os x h in omega (arith, l)

module _ (image : Image) (described : IsDescribed image) where
  -- the stack of a thread is one of the image's objects
  abbrev Stacked : Thread → Type 0
  Stacked me = is_living me.life ≡ true → me.stack.0 < length image.objects

  booted-stacks : (boots : List Boot) (s : State) (u : ℕ) → list_all (is_lawful_boot image) boots ≡ true → Stacked (thread_at s u) → Stacked (thread_at (booted boots s) u)
  booted-stacks [] s u h before = before
  booted-stacks (boot ∷ boots) s u h before =
      let parts = and_parts (is_lawful_boot image boot) _ h in
      let passes = and_parts _ _ (and_parts _ _ (and_parts _ _ (and_parts _ _ (and_parts _ _ (and_parts _ _ parts.0).0).0).0).0).0 in
      booted-stacks boots (booted_one boot s) u parts.1
      (subst (λ (xs : List Thread). Stacked (slice_index_or xs u nobody)) (sym (threads-are image boot s))
      (at_set (λ n (me : Thread). Stacked me) s.threads (entry s.image boot) u (boot_thread s.image boot) nobody (λ lives. passes-inside _ image.objects boot.stack.0 passes.1) before))

  opening-stacks : (u : ℕ) → Stacked (thread_at (opening image) u)
  unfolding blank
  opening-stacks u =
      booted-stacks image.boots (loaded image.partitions (blank image)) u described.lawful.boots
      (subst (λ (xs : List Thread). Stacked (slice_index_or xs u nobody)) (sym (loaded-threads image.partitions (blank image)))
      (nobodies Stacked THREADS u (λ lives. absurd (false≢true lives))))

  entries-below : (boots : List Boot) → list_all (is_lawful_boot image) boots ≡ true → list_all (λ t. nat_lt t THREADS) (map (entry image) boots) ≡ true
  entries-below [] h = refl
  entries-below (boot ∷ boots) h =
      let parts = and_parts (is_lawful_boot image boot) _ h in
      and_from _ _ (lt-ltb (entry image boot) THREADS (real-below image described.lawful (entry image boot) (boot-is image described boot parts.0).real)) (entries-below boots parts.1)

  module _ (cpus : ℕ) where
    parked-bounded : (t : ℕ) (c : Context) → parked_at (scheduler (first image cpus)) t ≡ Some c → IsBounded image c
    parked-bounded t c h =
        let r = parked-first image cpus t c h in
        subst (IsBounded image) (sym r.1)
        (record { stack = opening-stacks t r.0; steps = subst (Bounded image 0) (sym (new-thread image t).rests) (omega arith) })

    pub bounded-first : AreBounded (first image cpus)
    bounded-first =
        record {
          single = λ k l. refl;
          ends = λ k x l. omega arith;
          wakes = λ k l. refl;
          running = λ k l h. absurd (false≢true h);
          parked = parked-bounded;
          added = λ k c l h. absurd h;
          asleep = λ t c h. absurd (none-some (sym (no-sleeper THREADS t) ∙ h));
          uncut = λ t past. uncut-first image cpus t;
          inside = λ t h. refl;
          ready = ap (λ (i : Image). list_all (λ t. nat_lt t THREADS) (map (entry i) i.boots)) (opening-image image) ∙ entries-below image.boots described.lawful.boots;
        }
