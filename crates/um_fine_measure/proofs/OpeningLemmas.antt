-- What is left at the opening of a lawful image is no more than its weight.
use Rattle.std.proofs.Common.{◌≡◌, ◌<◌, ◌≤◌, ℕ, zero, suc, ◌+◌, ◌-◌, Bool, true, false, List, [], ◌∷◌, length, replicate, refl, sym, ap, ◌∙◌, subst, arith, slice_index, slice_index_or, slice_set, None, if◌then◌else◌}
use Rattle.std.specs.Prelude.{nat_lt}
use Rattle.std.specs.List.{list_all}
use Rattle.std.proofs.lemmas.Bool.{and_parts, ltb-true}
use Rattle.um_base.specs.Lawful.{IsLawful, is_lawful_boot}
use Rattle.um_base.specs.Places.{thread_of_row}
use Rattle.um_base.specs.Weight.{boots_weight, weight, weights_from}
use Rattle.um_base.specs.declared.image.Boot.{Boot}
use Rattle.um_base.specs.declared.image.Image.{Image}
use Rattle.um_base.specs.declared.image.ObjectDef.{ObjectDef}
use Rattle.um_base.specs.declared.image.Partition.{Partition}
use Rattle.um_base.specs.declared.limits.TheConstants.{ROWS, STACK_AREA, THREADS}
use Rattle.um_base.specs.declared.names.Row.{Row}
use Rattle.um_machine.specs.declared.object.Object.{Object}
use Rattle.um_machine.specs.declared.thread.Thread.{Thread}
use Rattle.um_machine.specs.Memory.{with_bytes}
use Rattle.um_machine.specs.Objects as Objects
use Rattle.um_machine.specs.Run.{blank, boot_thread, booted, booted_one, granted, index_or, loaded, objects_from, opening}
use Rattle.um_machine.specs.State.{State, first_place, is_living, nobody, object_at, vacant, with_pair, with_thread}
use Rattle.um_measure.specs.Measure.{lines_left, total}
use Rattle.um_words.specs.declared.row_word.Stage.{Stage}
use Rattle.um_fine.specs.Context.{context_of}
use Rattle.um_fine.specs.Opening.{indexed, parked_if, s_start, stage_of}
use Rattle.um_fine.specs.Steps.{Site}
use Rattle.um_refinement.specs.After.{left_by}
use Rattle.um_refinement.specs.Fine.{one_if}
use Rattle.um_fine_measure.specs.Whole.{may_rouse, may_sleep, rouses_left, sleeps_left, whole_cost}
use Rattle.um_fine_measure.specs.Measure.{place_cost, site_cost, stage_cost, told_cost}
use Rattle.um_measure.proofs.NextLemmas.{first-stands}
use Rattle.um_measure.proofs.ScriptLemmas.{weight-script}
use Rattle.um_measure.proofs.TotalLemmas.{total-set}
use Rattle.um_fine_measure.proofs.SumLemmas.{total-none}

total-replicate : {A : Type 0} (f : A → ℕ) (x : A) → f x ≡ 0 → (n : ℕ) → total f (replicate n x) ≡ 0
total-replicate f x h zero = refl
total-replicate f x h (suc n) = let rest = total-replicate f x h n in omega (arith, h, rest)

module _ (image : Image) where
  -- what a thread costs that is parked at the opening, if it is
  abbrev pub opening_cost : Thread → ℕ
  opening_cost me = place_cost image (parked_if (is_living me.life) (context_of 0 me))

  indexed-cost : (n : ℕ) (threads : List Thread) → total (place_cost image) (indexed (λ t (me : Thread). parked_if (is_living me.life) (context_of t me)) n threads) ≡ total opening_cost threads
  indexed-cost n [] = refl
  indexed-cost n (me ∷ threads) = let here = by (is_living me.life) in let rest = indexed-cost (n + 1) threads in omega (arith, here, rest)
    where
      by : (b : Bool) → place_cost image (parked_if b (context_of n me)) ≡ place_cost image (parked_if b (context_of 0 me))
      by true = refl
      by false = refl

  -- A state on the way to the opening one, whose threads cost so much at most.
  record IsOpening (most : ℕ) (s : State) : Type 0 where
    image_is : s.image ≡ image
    objects_are : s.objects ≡ objects_from image.boots 0 image.objects
    cost : total opening_cost s.threads ≤ most

  record IsGranted (s s2 : State) : Type 0 where
    image_is : s2.image ≡ s.image
    threads_are : s2.threads ≡ s.threads
    objects_are : s2.objects ≡ s.objects

  grants : (t : ℕ) (rows : List Row) (s : State) → IsGranted s (granted t rows s)
  grants t [] s = record { image_is = refl; threads_are = refl; objects_are = refl }
  grants t (x ∷ rows) s = let rest = grants t rows (with_pair s t x.0 true) in record { image_is = rest.image_is; threads_are = rest.threads_are; objects_are = rest.objects_are }

  boot-script : (boot : Boot) → is_lawful_boot image boot ≡ true → boot.script < length image.scripts
  boot-script boot h =
      let grants = and_parts _ _ h in
      let pool = and_parts _ _ grants.0 in
      let domain = and_parts _ _ pool.0 in
      let priority = and_parts _ _ domain.0 in
      let script = and_parts _ _ priority.0 in ltb-true boot.script (length image.scripts) script.1

  boots-one : IsLawful image → (boot : Boot) → is_lawful_boot image boot ≡ true → (most : ℕ) (s : State) → IsOpening most s
      → IsOpening (slice_index (weights_from 0 image.scripts) boot.script + most) (booted_one boot s)
  boots-one lawful boot h most s o =
      let t = index_or (thread_of_row s.image boot.thread.0) in
      let me = boot_thread s.image boot in
      let g = grants t (boot.thread ∷ boot.grants) (with_thread s t me) in
      let first = first-stands image lawful boot.script in
      let weighs = weight-script image boot.script (boot-script boot h) in
      let place : lines_left image me.place ≡ lines_left image (first_place image boot.script) = ap (λ (i : Image). lines_left image (first_place i boot.script)) o.image_is in
      let set = total-set opening_cost nobody refl s.threads t me in
      let threads : total opening_cost (booted_one boot s).threads ≡ total opening_cost (slice_set s.threads t me) = ap (total opening_cost) g.threads_are in
      let cost = o.cost in
      let dear = first.cost in
      record { image_is = g.image_is ∙ o.image_is; objects_are = g.objects_are ∙ o.objects_are; cost = omega (arith, weighs, place, set, threads, cost, dear) }

  boots-all : IsLawful image → (boots : List Boot) → list_all (is_lawful_boot image) boots ≡ true → (most : ℕ) (s : State) → IsOpening most s
      → IsOpening (boots_weight (weights_from 0 image.scripts) boots + most) (booted boots s)
  boots-all lawful [] h most s o = record { image_is = o.image_is; objects_are = o.objects_are; cost = let cost = o.cost in omega (arith, cost) }
  boots-all lawful (boot ∷ boots) h most s o =
      let parts = and_parts _ _ h in
      let next = boots-one lawful boot parts.0 most s o in
      let rest = boots-all lawful boots parts.1 (slice_index (weights_from 0 image.scripts) boot.script + most) (booted_one boot s) next in
      record { image_is = rest.image_is; objects_are = rest.objects_are; cost = let cost = rest.cost in omega (arith, cost) }

  bytes-if : (most : ℕ) (s : State) (memory stacks : List ℕ) (b : Bool) → IsOpening most s → IsOpening most (if b then record s { memory = memory } else record s { stacks = stacks })
  bytes-if most s memory stacks true o = record { image_is = o.image_is; objects_are = o.objects_are; cost = o.cost }
  bytes-if most s memory stacks false o = record { image_is = o.image_is; objects_are = o.objects_are; cost = o.cost }

  loads-all : (most : ℕ) (ps : List Partition) (s : State) → IsOpening most s → IsOpening most (loaded ps s)
  loads-all most [] s o = o
  loads-all most (p ∷ ps) s o = loads-all most ps (with_bytes s p.range.start.0 p.bytes) (bytes-if most s _ _ (nat_lt p.range.start.0 STACK_AREA) o)

  blank-opens : IsOpening 0 (blank image)
  unfolding blank
  blank-opens = record { image_is = refl; objects_are = refl; cost = let none = total-replicate opening_cost nobody refl THREADS in omega (arith, none) }

  opens : IsLawful image → IsOpening (weight image) (opening image)
  opens lawful =
      let o = boots-all lawful image.boots lawful.boots 0 (loaded image.partitions (blank image)) (loads-all 0 image.partitions (blank image) blank-opens) in
      record { image_is = o.image_is; objects_are = o.objects_are; cost = let cost = o.cost in omega (arith, cost) }

  -- nobody waits on an object
  none-wait : (boots : List Boot) (i : ℕ) (os : List ObjectDef) (x : ℕ) → length (slice_index_or (objects_from boots i os) x vacant).waiters ≡ 0
  none-wait boots i [] x = none (ROWS - i) x
    where
      none : (n x : ℕ) → length (slice_index_or (replicate n vacant) x vacant).waiters ≡ 0
      none zero x = refl
      none (suc n) zero = refl
      none (suc n) (suc x) = none n x
  none-wait boots i (o ∷ os) zero = refl
  none-wait boots i (o ∷ os) (suc x) = none-wait boots (i + 1) os x

  static-cost : (o : Object) (claims : ℕ) → stage_cost (stage_of o) false claims ≡ 0
  static-cost o claims = by (Objects.is_live o.status)
    where
      by : (b : Bool) → stage_cost (elim b as (λ _. Stage) [ true ↦ Stage.Live | false ↦ Stage.Free ]) false claims ≡ 0
      by true = refl
      by false = refl

  -- the scheduler alone has something left
  abbrev CostsNothing : Site → Type 0
  CostsNothing Site.scheduler = Unit {0}
  CostsNothing site = site_cost image (s_start image site) ≡ 0

  others-start : IsLawful image → (site : Site) → CostsNothing site
  others-start lawful (Site.row x) = static-cost (object_at (opening image) x) _
  others-start lawful (Site.thread t) = refl
  others-start lawful (Site.domain d) = refl
  others-start lawful (Site.object x) =
      let none : length (object_at (opening image) x).waiters ≡ 0
      = subst (λ (os : List Object). length (slice_index_or os x vacant).waiters ≡ 0) (sym (opens lawful).objects_are) (none-wait image.boots 0 image.objects x) in
      omega (arith, none)
  others-start lawful (Site.parts d) = refl
  others-start lawful Site.memory = refl
  others-start lawful Site.clock = refl
  others-start lawful Site.joins = let none = total-replicate (place_cost image) None refl THREADS in omega (arith, none)
  others-start lawful Site.heap = refl
  others-start lawful Site.scheduler = tt

  pub others-nothing : IsLawful image → (site : Site) → (site ≡ Site.scheduler → ⊥) → site_cost image (s_start image site) ≡ 0
  others-nothing lawful site other = by site (others-start lawful site) other
    where
      by : (site : Site) → CostsNothing site → (site ≡ Site.scheduler → ⊥) → site_cost image (s_start image site) ≡ 0
      by Site.scheduler h other = absurd (other refl)
      by site h other = h

  pub scheduler-start : IsLawful image → site_cost image (s_start image Site.scheduler) ≤ weight image
  scheduler-start lawful =
      let cost = (opens lawful).cost in
      let parked = indexed-cost 0 (opening image).threads in
      let told = total-replicate told_cost None refl THREADS in omega (arith, cost, parked, told)

  -- and nobody is suspended, and no processor has a list
  pub whole-start : (cpus : ℕ) → whole_cost (left_by image cpus []) ≡ 0
  unfolding sleeps_left rouses_left
  whole-start cpus =
      let f = left_by image cpus [] in
      let sleeps = total-none (λ t. one_if (may_sleep f t)) THREADS (λ t few. refl) in
      let rouses = total-none (λ k. one_if (may_rouse f (f.processors k))) cpus (λ k few. refl) in omega (arith, sleeps, rouses)
