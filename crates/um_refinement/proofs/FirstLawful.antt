-- The relation holds at the opening of every image that a description can give: its boot entries have a thread each, whose object stands.
use Rattle.um_refinement.proofs.Words.{IsTrue, Life, eq-eqb, ◌≡◌, ◌⊎◌, inl, inr, ℕ, ◌+◌, ◌<◌, ◌≤◌, Bool, true, false, List, [], ◌∷◌, length, refl, sym, ap, ◌∙◌, subst, arith, ◌==◌, ◌||◌, if◌then◌else◌, slice_get, slice_index_or, list_all, list_any, and_parts, eqb-false, eqb-true, false≢true, not-true, true≢false, Boot, Image, ObjectDef, THREADS, is_lawful_boot, object_passes, own_row, Object, Thread, blank, boot_thread, booted, booted_one, loaded, objects_from, opening, Runs, State, nobody, object_at, thread_at, vacant, with_thread, IsDescribed, is_sited, FineStep, s_next, same_site, s_start, p_next, state_at, IsFineRun, cpu_of, p_start, same_cpu, site_of, shown, Rel, occurs, are_distinct, IsBoot, is_boot, map}
use Rattle.um_machine.specs.Objects as Plain
use Rattle.um_machine.specs.Run.{boots_row, is_set_up}
use Rattle.um_machine.specs.State.{is_living, is_started}
use Rattle.um_invariants.proofs.ThreadStarts.{real-below}
use Rattle.um_fine.specs.Processor.{first_boot}
use Rattle.um_refinement.proofs.Erased.{Keeps, erased, fine}
use Rattle.um_refinement.proofs.First.{first}
use Rattle.um_refinement.proofs.FirstObjects.{OwnStands, Stood, opening-objects, stood-or-none}
use Rattle.um_refinement.proofs.FirstOwned.{owned-first}
use Rattle.um_refinement.proofs.FirstReady.{OneEach, blank-image, entry, living-first, one-more, positive, threads-are}
use Rattle.um_refinement.proofs.FirstStops.{HasActor, OwnMarked}
use Rattle.um_refinement.proofs.FirstThreads.{granted-image, loaded-threads, nobodies}
use Rattle.um_refinement.proofs.Opens.{opens}
use Rattle.um_refinement.proofs.ThreadLists.{set-else}

pub some-objects : (p : ObjectDef → Bool) (os : List ObjectDef) (x : ℕ) → object_passes p (slice_get os x) ≡ true → 0 < length os
some-objects p [] x h = absurd (false≢true h)
some-objects p (o ∷ os) x h = omega arith

module _ (image : Image) (described : IsDescribed image) where
  pub boot-is : (boot : Boot) → is_lawful_boot image boot ≡ true → IsBoot image boot
  boot-is boot h =
      let passes = and_parts _ _ (and_parts _ _ (and_parts _ _ (and_parts _ _ (and_parts _ _ (and_parts _ _ h).0).0).0).0).0 in
      is_boot image (is_sited image described.lawful described.few (some-objects _ image.objects boot.thread.0 passes.0)) boot passes.0 passes.1

  -- a thread that none of these entries has
  none-have : (boots : List Boot) (t : ℕ) → list_all (is_lawful_boot image) boots ≡ true → list_any (λ y. own_row image t == y) (map (λ (b : Boot). b.thread.0) boots) ≡ false
      → occurs t (map (entry image) boots) ≡ 0
  none-have [] t h none = refl
  none-have (boot ∷ boots) t h none = by (t == entry image boot) refl (none-have boots t (and_parts _ _ h).1 (later _ _ none))
    where
      later : (a b : Bool) → (a || b) ≡ false → b ≡ false
      later true b e = absurd (true≢false e)
      later false b e = e

      sooner : (a b : Bool) → (a || b) ≡ false → a ≡ false
      sooner true b e = absurd (true≢false e)
      sooner false b e = refl

      by : (b : Bool) → (t == entry image boot) ≡ b → occurs t (map (entry image) boots) ≡ 0
          → (if t == entry image boot then occurs t (map (entry image) boots) + 1 else occurs t (map (entry image) boots)) ≡ 0
      by true q more =
          absurd (eqb-false (own_row image t) boot.thread.0 (sooner _ _ none) (ap (own_row image) (eqb-true t (entry image boot) q) ∙ (boot-is boot (and_parts _ _ h).0).own))
      by false q more = ap (λ c. if c then occurs t (map (entry image) boots) + 1 else occurs t (map (entry image) boots)) q ∙ more

  one-has : (boots : List Boot) (t : ℕ) → list_all (is_lawful_boot image) boots ≡ true → are_distinct (map (λ (b : Boot). b.thread.0) boots) ≡ true
      → occurs t (map (entry image) boots) ≤ 1
  one-has [] t h apart = omega arith
  one-has (boot ∷ boots) t h apart = by (t == entry image boot) refl (one-has boots t (and_parts _ _ h).1 (and_parts _ _ apart).1)
    where
      by : (b : Bool) → (t == entry image boot) ≡ b → occurs t (map (entry image) boots) ≤ 1
          → (if t == entry image boot then occurs t (map (entry image) boots) + 1 else occurs t (map (entry image) boots)) ≤ 1
      by true q more =
          let row : own_row image t ≡ boot.thread.0 = ap (own_row image) (eqb-true t (entry image boot) q) ∙ (boot-is boot (and_parts _ _ h).0).own in
          let none = none-have boots t (and_parts _ _ h).1
          (ap (λ x. list_any (λ y. x == y) (map (λ (b : Boot). b.thread.0) boots)) row ∙ not-true _ (and_parts _ _ apart).0) in
          subst (λ c. (if c then occurs t (map (entry image) boots) + 1 else occurs t (map (entry image) boots)) ≤ 1) (sym q) (omega (arith, none))
      by false q more = subst (λ c. (if c then occurs t (map (entry image) boots) + 1 else occurs t (map (entry image) boots)) ≤ 1) (sym q) more

  -- who keeps a claim on the own object is the thread of a boot entry

  keeper-is : (boots : List Boot) (s : State) (t : ℕ) → s.image ≡ image → list_all (is_lawful_boot image) boots ≡ true → (thread_at (booted boots s) t).keeps_own ≡ true
      → ((boot : Boot) × (is_lawful_boot image boot ≡ true) × (entry image boot ≡ t)) ⊎ ((thread_at s t).keeps_own ≡ true)
  keeper-is [] s t at h keeps = inr keeps
  keeper-is (boot ∷ boots) s t at h keeps =
      by (keeper-is boots (booted_one boot s) t
      (granted-image (entry s.image boot) (boot.thread ∷ boot.grants) (with_thread s (entry s.image boot) (boot_thread s.image boot)) ∙ at)
      (and_parts _ _ h).1 keeps)
    where
      own : (b : Bool) → (entry s.image boot == t) ≡ b → (thread_at (booted_one boot s) t).keeps_own ≡ true
          → ((boot : Boot) × (is_lawful_boot image boot ≡ true) × (entry image boot ≡ t)) ⊎ ((thread_at s t).keeps_own ≡ true)
      own true q k = inl (boot, (and_parts _ _ h).0, ap (λ (i : Image). entry i boot) (sym at) ∙ eqb-true (entry s.image boot) t q)
      own false q k =
          inr (sym (ap (λ (xs : List Thread). (slice_index_or xs t nobody).keeps_own) (threads-are image boot s)
          ∙ ap (λ (z : Thread). z.keeps_own) (set-else s.threads (entry s.image boot) t (boot_thread s.image boot) (eqb-false (entry s.image boot) t q))) ∙ k)

      by : ((b : Boot) × (is_lawful_boot image b ≡ true) × (entry image b ≡ t)) ⊎ ((thread_at (booted_one boot s) t).keeps_own ≡ true)
          → ((b : Boot) × (is_lawful_boot image b ≡ true) × (entry image b ≡ t)) ⊎ ((thread_at s t).keeps_own ≡ true)
      by (inl r) = inl r
      by (inr k) = own (entry s.image boot == t) refl k

  -- before any entry nobody keeps one
  keeps-none : (t : ℕ) → (thread_at (loaded image.partitions (blank image)) t).keeps_own ≡ false
  unfolding blank
  keeps-none t =
      subst (λ (xs : List Thread). (slice_index_or xs t nobody).keeps_own ≡ false) (sym (loaded-threads image.partitions (blank image)))
      (nobodies (λ me. me.keeps_own ≡ false) THREADS t refl)

  live-at : (x : ℕ) → x < length image.objects → Plain.is_live (object_at (opening image) x).status ≡ true
  live-at x l =
      subst (λ (os : List Object). Plain.is_live (slice_index_or os x vacant).status ≡ true) (sym (opening-objects image)) (by (stood-or-none image.boots 0 image.objects x))
    where
      by : Stood image.boots 0 image.objects x ⊎ ((slice_index_or (objects_from image.boots 0 image.objects) x vacant ≡ vacant) × (length image.objects ≤ x))
          → Plain.is_live (slice_index_or (objects_from image.boots 0 image.objects) x vacant).status ≡ true
      by (inl r) = ap (λ (o : Object). Plain.is_live o.status) r.2
      by (inr r) = let past = r.1 in absurd (omega (arith, l, past))

  -- an object that a boot entry has as its thread or its stack is marked
  marked-at : (x : ℕ) → x < length image.objects → list_any (boots_row x) image.boots ≡ true → (object_at (opening image) x).init ≡ true
  marked-at x l boots =
      subst (λ (os : List Object). (slice_index_or os x vacant).init ≡ true) (sym (opening-objects image)) (by (stood-or-none image.boots 0 image.objects x))
    where
      or-last : (a b : Bool) → b ≡ true → (a || b) ≡ true
      or-last true b h = refl
      or-last false b h = h

      by : Stood image.boots 0 image.objects x ⊎ ((slice_index_or (objects_from image.boots 0 image.objects) x vacant ≡ vacant) × (length image.objects ≤ x))
          → (slice_index_or (objects_from image.boots 0 image.objects) x vacant).init ≡ true
      by (inl r) =
          let at : x ≡ 0 + x = omega arith in
          ap (λ (o : Object). o.init) r.2 ∙ or-last (is_set_up r.0.setup) (list_any (boots_row (0 + x)) image.boots) (ap (λ n. list_any (boots_row n) image.boots) (sym at) ∙ boots)
      by (inr r) = let past = r.1 in absurd (omega (arith, l, past))

  -- a thread of these entries is one of a lawful entry
  booter : (boots : List Boot) (t : ℕ) → list_all (is_lawful_boot image) boots ≡ true → positive (occurs t (map (entry image) boots)) ≡ true
      → (boot : Boot) × (is_lawful_boot image boot ≡ true) × (entry image boot ≡ t) × (list_any (boots_row boot.thread.0) boots ≡ true)
  booter [] t h some = absurd (false≢true some)
  booter (boot ∷ boots) t h some = by (t == entry image boot) refl (booter boots t (and_parts _ _ h).1)
    where
      or-last : (a b : Bool) → b ≡ true → (a || b) ≡ true
      or-last true b h = refl
      or-last false b h = h

      by : (b : Bool) → (t == entry image boot) ≡ b
          → (positive (occurs t (map (entry image) boots)) ≡ true → (z : Boot) × (is_lawful_boot image z ≡ true) × (entry image z ≡ t) × (list_any (boots_row z.thread.0) boots ≡ true))
          → (z : Boot) × (is_lawful_boot image z ≡ true) × (entry image z ≡ t) × (list_any (boots_row z.thread.0) (boot ∷ boots) ≡ true)
      by true q more =
          (boot, (and_parts _ _ h).0, sym (eqb-true t (entry image boot) q), ap (λ b. (b || boot.stack.0 == boot.thread.0) || list_any (boots_row boot.thread.0) boots) (eq-eqb boot.thread.0 boot.thread.0 refl))
      by false q more =
          let r = more (sym (ap (λ c. positive (if c then occurs t (map (entry image) boots) + 1 else occurs t (map (entry image) boots))) q) ∙ some) in
          (r.0, r.1, r.2, or-last (boots_row r.0.thread.0 boot) _ r.3)

  -- the thread of the first entry is one of them
  first-lives : (boots : List Boot) → list_all (is_lawful_boot image) boots ≡ true → 0 < length boots
      → (positive (occurs (first_boot image boots) (map (entry image) boots)) ≡ true) × (first_boot image boots < THREADS)
  first-lives [] h some = absurd (omega (arith, some))
  first-lives (boot ∷ boots) h some =
      let t = entry image boot in (
        ap (λ c. positive (if c then occurs t (map (entry image) boots) + 1 else occurs t (map (entry image) boots))) (eq-eqb t t refl) ∙ one-more (occurs t (map (entry image) boots)),
        real-below image described.lawful t (boot-is boot (and_parts _ _ h).0).real,
      )

  module _ (cpus : ℕ) where
    one-each : OneEach image cpus
    one-each t = one-has image.boots t described.lawful.boots described.lawful.boot_threads

    own-stands : OwnStands image cpus
    own-stands t keeps = by (keeper-is image.boots (loaded image.partitions (blank image)) t (blank-image image) described.lawful.boots keeps)
      where
        by : ((boot : Boot) × (is_lawful_boot image boot ≡ true) × (entry image boot ≡ t)) ⊎ ((thread_at (loaded image.partitions (blank image)) t).keeps_own ≡ true)
            → Plain.is_live (object_at (opening image) (own_row image t)).status ≡ true
        by (inl r) =
            let boot = boot-is r.0 r.1 in
            subst (λ x. Plain.is_live (object_at (opening image) x).status ≡ true) (sym boot.own ∙ ap (own_row image) r.2) (live-at r.0.thread.0 boot.inside)
        by (inr k) = absurd (true≢false (sym k ∙ keeps-none t))

    own-marked : OwnMarked image
    own-marked t few lives =
        let r = booter image.boots t described.lawful.boots (sym (living-first image cpus t few) ∙ lives) in
        let boot = boot-is r.0 r.1 in
        subst (λ x. (object_at (opening image) x).init ≡ true) (sym boot.own ∙ ap (own_row image) r.2) (marked-at r.0.thread.0 boot.inside r.3)

    has-actor : HasActor image
    has-actor some =
        let r = first-lives image.boots described.lawful.boots some in
        started (thread_at (opening image) (first_boot image image.boots)).life (living-first image cpus (first_boot image image.boots) r.1 ∙ r.0)
      where
        started : (life : Life) → is_living life ≡ true → IsTrue (is_started life)
        started Life.Living h = refl
        started Life.Unborn h = absurd (false≢true h)
        started Life.Ended h = absurd (false≢true h)

    pub opens-described : Rel (first image cpus) (opening image)
    opens-described = opens image cpus described.few one-each own-stands own-marked (λ t few own init. owned-first image described boot-is t few own init) has-actor

    -- so the events of every fine run are a run of the access-matrix machine, where each lawful step keeps the relation
    pub erased-described : Keeps image cpus → (h : List FineStep) → IsFineRun image cpus h
        → (m : State) × Runs (opening image) (shown h) m
        × Rel (fine image cpus (state_at same_cpu cpu_of (p_next image) p_start h) (state_at same_site site_of (s_next image) (s_start image) h)) m
    erased-described keeps h run = erased image cpus opens-described keeps h run
