-- Objects and rows at the opening: each is that of the image, which stands, or none. So their status, contents, claims, costs and free
-- addresses, and their cleaning, are as the relation says.
use Rattle.um_refinement.proofs.Words.{◌≡◌, ◌≢◌, ◌⊎◌, inl, inr, ℕ, zero, suc, ◌+◌, ◌<◌, ◌≤◌, Bool, true, false, List, [], ◌∷◌, length, replicate, Option, Some, None, refl, sym, ap, ◌∙◌, subst, arith, length-map, ◌==◌, ◌&&◌, ◌||◌, not, is_some, nat_le, slice_get, slice_index_or, and_parts, eqb-true, false≢true, leb-true, Boot, Image, ObjectDef, ROWS, STATIC_ROWS, THREADS, own_row, Object, Thread, blank, loaded, objects_from, opening, State, nobody, object_at, thread_at, vacant, Stage, is_dying, is_free, Context, kind_of, parked_at, one_if, over_processors, row, scheduler, total, call_claims, context_claims, CleanersAre, PairsAre, cell_of, is_reserved, recyclers, status_of, vacaters, HeapIs, occurs, Partition, opening_object, count, indexed, stage_of, CleanerIs, ContentsAre, StatusIs, empty_cell, ◌-◌, map}
use Rattle.um_machine.specs.declared.object.Status.TheVariants as Status
use Rattle.um_machine.specs.Objects as Plain
use Rattle.um_fine.specs.Opening.{no_notes}
use Rattle.um_fine.specs.Processor.{kind_in}
use Rattle.um_refinement.specs.Claims.{ClaimsAre, claims, creates}
use Rattle.um_refinement.proofs.First.{first, total-none}
use Rattle.um_refinement.proofs.FirstThreads.{booted-read, copies-long, loaded-read, new-thread, parked-first, threads-long}
use Rattle.um_refinement.proofs.HeldRows.{none-flagged, some-part, total-zero}
use Rattle.um_refinement.proofs.Sums.{one-true}

-- Boot entries and partitions leave the objects, and the image.

pub loaded-image : (ps : List Partition) (s : State) → (loaded ps s).image ≡ s.image
loaded-image ps s = loaded-read (λ z. z.image) (λ z bytes. (refl, refl)) ps s

pub opening-image : (image : Image) → (opening image).image ≡ image
unfolding blank
opening-image image =
    booted-read (λ z. z.image) (λ z pairs. refl) (λ z threads. refl) image.boots (loaded image.partitions (blank image)) ∙ loaded-image image.partitions (blank image)

pub opening-objects : (image : Image) → (opening image).objects ≡ objects_from image.boots 0 image.objects
unfolding blank
opening-objects image =
    booted-read (λ z. z.objects) (λ z pairs. refl) (λ z threads. refl) image.boots (loaded image.partitions (blank image))
    ∙ loaded-read (λ z. z.objects) (λ z bytes. (refl, refl)) image.partitions (blank image)

-- Each object is that of the image at its row, or none.

no-objects : (n x : ℕ) → slice_index_or (replicate n vacant) x vacant ≡ vacant
no-objects zero x = refl
no-objects (suc n) zero = refl
no-objects (suc n) (suc x) = no-objects n x

abbrev pub Stood : List Boot → ℕ → List ObjectDef → ℕ → Type 0
Stood boots i os x = (o : ObjectDef) × (slice_get os x ≡ Some o) × (slice_index_or (objects_from boots i os) x vacant ≡ opening_object boots (i + x) o)

pub stood-or-none : (boots : List Boot) (i : ℕ) (os : List ObjectDef) (x : ℕ)
    → Stood boots i os x ⊎ ((slice_index_or (objects_from boots i os) x vacant ≡ vacant) × (length os ≤ x))
stood-or-none boots i [] x = inr (no-objects (ROWS - i) x, omega arith)
stood-or-none boots i (o ∷ os) zero = let at : i ≡ i + 0 = omega arith in inl (o, refl, ap (λ n. opening_object boots n o) at)
stood-or-none boots i (o ∷ os) (suc x) = by (stood-or-none boots (i + 1) os x)
  where
    by : Stood boots (i + 1) os x ⊎ ((slice_index_or (objects_from boots (i + 1) os) x vacant ≡ vacant) × (length os ≤ x))
        → Stood boots i (o ∷ os) (suc x) ⊎ ((slice_index_or (objects_from boots i (o ∷ os)) (suc x) vacant ≡ vacant) × (length (o ∷ os) ≤ suc x))
    by (inl r) = let at : i + 1 + x ≡ i + suc x = omega arith in inl (r.0, r.1, r.2 ∙ ap (λ n. opening_object boots n r.0) at)
    by (inr r) = let l = r.1 in inr (r.0, omega (arith, l))

abbrev not_clean : Stage → Type 0
not_clean Stage.Cleaning = ⊥
not_clean _ = Unit {0}

-- What is so of each object at the opening.
record IsSet (image : Image) (x : ℕ) (o : Object) : Type 0 where
  status : o.status ≡ status_of (stage_of o) (is_reserved o.status)
  stage : (stage_of o ≡ Stage.Live) ⊎ (stage_of o ≡ Stage.Free)
  bare : stage_of o ≡ Stage.Free → (o.init ≡ false) × (o.public ≡ false)
  gone : Plain.is_gone o.status ≡ false
  kind : o.status ≢ Status.Free → o.kind ≡ kind_of image x
  cost : o.cost ≡ None
  cleaner : o.cleaner ≡ None
  vacant : (noted : List ℕ) → Plain.is_free o.status ≡ true → cell_of noted o ≡ empty_cell noted
  dynamic : length image.objects ≤ x → Plain.is_free o.status ≡ true

new-object : (image : Image) (x : ℕ) → IsSet image x (object_at (opening image) x)
new-object image x =
    subst (λ (os : List Object). IsSet image x (slice_index_or os x vacant)) (sym (opening-objects image)) (by (stood-or-none image.boots 0 image.objects x))
  where
    found : (os : List ObjectDef) (y : ℕ) (o : ObjectDef) → slice_get os y ≡ Some o → y < length os
    found [] y o h = absurd (false≢true (ap is_some h))
    found (d ∷ os) zero o h = omega arith
    found (d ∷ os) (suc y) o h = let l = found os y o h in omega (arith, l)

    by : Stood image.boots 0 image.objects x ⊎ ((slice_index_or (objects_from image.boots 0 image.objects) x vacant ≡ vacant) × (length image.objects ≤ x))
        → IsSet image x (slice_index_or (objects_from image.boots 0 image.objects) x vacant)
    by (inl r) =
        subst (IsSet image x) (sym r.2)
        (record {
          status = refl;
          stage = inl refl;
          bare = λ free. absurd (false≢true (ap is_free free));
          gone = refl;
          kind = λ free. sym (ap (λ o. kind_in o x) r.1);
          cost = refl;
          cleaner = refl;
          vacant = λ noted free. absurd (false≢true free);
          dynamic = λ past. let l = found image.objects x r.0 r.1 in absurd (omega (arith, l, past));
        })
    by (inr r) =
        subst (IsSet image x) (sym r.0)
        (record { status = refl; stage = inr refl; bare = λ free. (refl, refl); gone = refl; kind = λ free. absurd (free refl); cost = refl; cleaner = refl; vacant = λ noted free. refl; dynamic = λ past. refl })

module _ (image : Image) (cpus : ℕ) where
  none-vacates : (x : ℕ) → vacaters (first image cpus) x ≡ 0
  none-vacates x = total-none cpus

  none-recycles : (x : ℕ) → recyclers (first image cpus) x ≡ 0
  none-recycles x = total-none cpus

  pub status-first : (x : ℕ) → StatusIs (first image cpus) (opening image) x
  status-first x =
      let o = new-object image x in
      record {
        status = λ h. o.status;
        vacated = λ h. let v = none-vacates x in let r = none-recycles x in absurd (omega (arith, h, v, r));
        init = λ h. refl;
        public = λ h. refl;
        bare = o.bare;
        kind = o.kind;
      }

  pub contents-first : (x : ℕ) → ContentsAre (first image cpus) (opening image) x
  contents-first x =
      record {
        whole = λ h. refl;
        cleared = λ h. let r = none-recycles x in absurd (omega (arith, h, r));
        vacant = (new-object image x).vacant no_notes;
      }

  -- no row is in cleaning
  not_cleaning : (x : ℕ) → (row (first image cpus) x).stage ≡ Stage.Cleaning → ⊥
  not_cleaning x h = by (new-object image x).stage
    where
      by : (stage_of (object_at (opening image) x) ≡ Stage.Live) ⊎ (stage_of (object_at (opening image) x) ≡ Stage.Free) → ⊥
      by (inl e) = subst not_clean (sym e ∙ h) tt
      by (inr e) = subst not_clean (sym e ∙ h) tt

  pub cleaners-first : (x : ℕ) → CleanersAre (first image cpus) (opening image) x
  cleaners-first x =
      record {
        unclaimed = λ h. absurd (not_cleaning x h);
        cleaning = λ h. absurd (not_cleaning x h);
        order = let v = none-vacates x in let r = none-recycles x in omega (arith, v, r);
        cleaner = none-recycles x ∙ sym (ap (λ b. one_if (b && not (is_dying (row (first image cpus) x).stage))) (new-object image x).gone);
      }

  pub cleaner-first : (x : ℕ) → CleanerIs (first image cpus) (opening image) x
  cleaner-first x = record { none = λ h. (new-object image x).cleaner }

  -- a dynamic row has no object
  pub pairs-all-first : length image.objects ≤ STATIC_ROWS → (x : ℕ) → PairsAre (first image cpus) (opening image) x
  pairs-all-first few x = record { pairs = refl; dynamic = by (nat_le STATIC_ROWS x) refl }
    where
      free : Plain.is_free (object_at (opening image) x).status ≡ true → is_free (stage_of (object_at (opening image) x)) ≡ true
      free h = by-status (object_at (opening image) x).status h
        where
          by-status : (s : _) → Plain.is_free s ≡ true → is_free (elim (Plain.is_live s) as (λ _. Stage) [ true ↦ Stage.Live | false ↦ Stage.Free ]) ≡ true
          by-status Status.Free e = refl
          by-status Status.Reserved e = absurd (false≢true e)
          by-status Status.Live e = absurd (false≢true e)
          by-status Status.Gone e = absurd (false≢true e)

      by : (b : Bool) → nat_le STATIC_ROWS x ≡ b → false ≡ (b && not (is_free (row (first image cpus) x).stage))
      by false e = refl
      by true e = let l = leb-true STATIC_ROWS x e in sym (ap not (free ((new-object image x).dynamic (omega (arith, few, l)))))

-- The heap.

objects-long : (boots : List Boot) (i : ℕ) (os : List ObjectDef) → i + length os ≤ ROWS → length (objects_from boots i os) + i ≡ ROWS
objects-long boots i [] h = let n = copies-long (ROWS - i) vacant in omega (arith, n, h)
objects-long boots i (o ∷ os) h = let r = objects-long boots (i + 1) os (omega (arith, h)) in omega (arith, r)

cost-of : (os : List Object) (x : ℕ) → slice_index_or (map (λ (o : Object). o.cost) os) x None ≡ (slice_index_or os x vacant).cost
cost-of [] x = refl
cost-of (o ∷ os) zero = refl
cost-of (o ∷ os) (suc x) = cost-of os x

numbered : (f : ℕ → Bool) (i : ℕ) (os : List Object) (x : ℕ) → x < length os → slice_index_or (indexed (λ n (o : Object). f n) i os) x false ≡ f (i + x)
numbered f i [] x l = absurd (omega (arith, l))
numbered f i (o ∷ os) zero l = let at : i ≡ i + 0 = omega arith in ap f at
numbered f i (o ∷ os) (suc x) l = let at : i + 1 + x ≡ i + suc x = omega arith in numbered f (i + 1) os x (omega (arith, l)) ∙ ap f at

numbered-long : (f : ℕ → Bool) (i : ℕ) (os : List Object) → length (indexed (λ n (o : Object). f n) i os) ≡ length os
numbered-long f i [] = refl
numbered-long f i (o ∷ os) = ap suc (numbered-long f (i + 1) os)

module _ (image : Image) (cpus : ℕ) (few : length image.objects ≤ STATIC_ROWS) where
  pub all-objects : length (opening image).objects ≡ ROWS
  all-objects =
      let n = objects-long image.boots 0 image.objects (omega (arith, few)) in
      ap length (opening-objects image) ∙ omega (arith, n)

  -- nothing cost anything yet, and the dynamic addresses are free
  pub heap-first : HeapIs (first image cpus) (opening image)
  heap-first =
      record {
        pools = refl;
        cost = λ x l. cost-of (opening image).objects x;
        free = λ x l.
            let long = all-objects in
            let at : 0 + x ≡ x = omega arith in
            numbered (λ n. nat_le STATIC_ROWS n) 0 (opening image).objects x (omega (arith, l, long)) ∙ (ap (nat_le STATIC_ROWS) at ∙ by x (nat_le STATIC_ROWS x) refl);
        costs = length-map (opening image).objects (λ (o : Object). o.cost) ∙ all-objects;
        frees = numbered-long (λ n. nat_le STATIC_ROWS n) 0 (opening image).objects ∙ all-objects;
      }
    where
      by : (x : ℕ) (b : Bool) → nat_le STATIC_ROWS x ≡ b → b ≡ (b && Plain.is_free (object_at (opening image) x).status)
      by x false e = refl
      by x true e = let l = leb-true STATIC_ROWS x e in sym ((new-object image x).dynamic (omega (arith, few, l)))

-- Claims.

total-shift : (g : ℕ → ℕ) (n : ℕ) → total g (suc n) ≡ g 0 + total (λ k. g (suc k)) n
total-shift g zero = omega arith
total-shift g (suc n) = let h = total-shift g n in omega (arith, h)

total-same : (g h : ℕ → ℕ) (n : ℕ) → ((k : ℕ) → g k ≡ h k) → total g n ≡ total h n
total-same g h n e = ap (λ (f : ℕ → ℕ). total f n) (λ i k. e k i)

-- the flags that a word counts are the holds of all threads
counts-all : (f : ℕ → Thread → Bool) (i : ℕ) (ts : List Thread) → count (indexed f i ts) ≡ total (λ j. one_if (f (i + j) (slice_index_or ts j nobody))) (length ts)
counts-all f i [] = refl
counts-all f i (me ∷ ts) =
    let here : i ≡ i + 0 = omega arith in
    let more = counts-all f (i + 1) ts in
    let shift = total-shift (λ j. one_if (f (i + j) (slice_index_or (me ∷ ts) j nobody))) (length ts) in
    let same = total-same (λ j. one_if (f (i + 1 + j) (slice_index_or ts j nobody))) (λ j. one_if (f (i + suc j) (slice_index_or ts j nobody))) (length ts)
    (λ j. let at : i + 1 + j ≡ i + suc j = omega arith in ap (λ n. one_if (f n (slice_index_or ts j nobody))) at) in
    let step = flag (f i me) (indexed f (i + 1) ts) in
    let first-one : one_if (f i me) ≡ one_if (f (i + 0) me) = ap (λ n. one_if (f n me)) here in
    omega (arith, more, shift, same, step, first-one)
  where
    flag : (b : Bool) (bs : List Bool) → count (b ∷ bs) ≡ one_if b + count bs
    flag true bs = omega arith
    flag false bs = omega arith

module _ (image : Image) (cpus : ℕ) where
  holds-own : (x t : ℕ) → Plain.thread_holds (opening image).image x t (thread_at (opening image) t) ≡ ((thread_at (opening image) t).keeps_own && (own_row image t == x))
  holds-own x t =
      let me = thread_at (opening image) t in
      ap (λ (flags : List Bool). slice_index_or flags x false || (me.keeps_own && (own_row (opening image).image t == x))) (new-thread image t).checked
      ∙ (ap (λ b. b || (me.keeps_own && (own_row (opening image).image t == x))) (none-flagged ROWS x)
      ∙ ap (λ (i : Image). me.keeps_own && (own_row i t == x)) (opening-image image))

  -- the claims of a row are those of lives
  row-lives : (x : ℕ) → (row (first image cpus) x).claims ≡ total (λ t. one_if ((thread_at (opening image) t).keeps_own && (own_row image t == x))) THREADS
  row-lives x =
      counts-all (Plain.thread_holds (opening image).image x) 0 (opening image).threads
      ∙ (ap (total (λ j. one_if (Plain.thread_holds (opening image).image x (0 + j) (thread_at (opening image) j)))) (threads-long image)
      ∙ total-same (λ j. one_if (Plain.thread_holds (opening image).image x (0 + j) (thread_at (opening image) j)))
      (λ t. one_if ((thread_at (opening image) t).keeps_own && (own_row image t == x))) THREADS
      (λ j. let at : 0 + j ≡ j = omega arith in ap (λ n. one_if (Plain.thread_holds (opening image).image x n (thread_at (opening image) j))) at ∙ ap one_if (holds-own x j)))

  parked-claims : (x t : ℕ) → context_claims x (parked_at (scheduler (first image cpus)) t) ≡ 0
  parked-claims x t = by (parked_at (scheduler (first image cpus)) t) refl
    where
      by : (o : Option Context) → parked_at (scheduler (first image cpus)) t ≡ o → context_claims x o ≡ 0
      by None e = refl
      by (Some c) e = ap (λ (z : Context). occurs x z.claims) (parked-first image cpus t c e).1

  pub claimed-first : (x : ℕ) → (row (first image cpus) x).claims ≡ claims (first image cpus) (opening image) x
  claimed-first x =
      let calls : over_processors (first image cpus) (call_claims x) ≡ 0 = total-none cpus in
      let parked = total-zero (λ t. context_claims x (parked_at (scheduler (first image cpus)) t)) THREADS (λ t l. parked-claims x t) in
      let children = total-zero (λ t. one_if (creates image x (thread_at (opening image) t).child)) THREADS (λ t l. ap (λ o. one_if (creates image x o)) (new-thread image t).child) in
      let own = row-lives x in
      omega (arith, calls, parked, children, own)

  -- a living object stands at the row of each thread's own object
  abbrev pub OwnStands : Type 0
  OwnStands = (t : ℕ) → (thread_at (opening image) t).keeps_own ≡ true → Plain.is_live (object_at (opening image) (own_row image t)).status ≡ true

  pub claims-first : OwnStands → (x : ℕ) → ClaimsAre (first image cpus) (opening image) x
  claims-first stands x =
      record { claimed = claimed-first x; dying = λ h. absurd (not-dying (new-object image x).stage h); free = λ h. none-held h (row (first image cpus) x).claims refl }
    where
      not-dying : (stage_of (object_at (opening image) x) ≡ Stage.Live) ⊎ (stage_of (object_at (opening image) x) ≡ Stage.Free) → (row (first image cpus) x).stage ≡ Stage.Dying → ⊥
      not-dying (inl e) h = false≢true (ap is_dying (sym e ∙ h))
      not-dying (inr e) h = false≢true (ap is_dying (sym e ∙ h))

      none-held : (row (first image cpus) x).stage ≡ Stage.Free → (n : ℕ) → (row (first image cpus) x).claims ≡ n → (row (first image cpus) x).claims ≡ 0
      none-held h zero e = e
      none-held h (suc n) e =
          let own = row-lives x in
          let t = some-part (λ t. one_if ((thread_at (opening image) t).keeps_own && (own_row image t == x))) THREADS (omega (arith, own, e)) in
          let holds = and_parts _ _ (one-true ((thread_at (opening image) t.0).keeps_own && (own_row image t.0 == x)) t.2) in
          let at = eqb-true (own_row image t.0) x holds.1 in
          let live : Plain.is_live (object_at (opening image) x).status ≡ true = ap (λ y. Plain.is_live (object_at (opening image) y).status) (sym at) ∙ stands t.0 holds.0 in
          let stage : stage_of (object_at (opening image) x) ≡ Stage.Live = ap (λ b. elim b as (λ _. Stage) [ true ↦ Stage.Live | false ↦ Stage.Free ]) live in
          absurd (false≢true (ap is_free (sym stage ∙ h)))
