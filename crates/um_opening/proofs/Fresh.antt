-- The state at an image's opening: threads at rest, in domains, with indices, and the objects of the description.
use Rattle.std.proofs.Common.{◌≡◌, ◌<◌, ◌≤◌, ◌+◌, ◌-◌, ℕ, zero, suc, Bool, true, false, List, [], ◌∷◌, length, refl, sym, ap, ◌∙◌, subst, arith}
use Rattle.std.specs.Prelude.{IsTrue, Some, None, if◌then◌else◌, map, nat_lt, slice_get, slice_index_or, slice_set}
use Rattle.std.specs.List.{All, list_all}
use Rattle.std.proofs.lemmas.Bool.{and_parts, eqb-true, false≢true}
use Rattle.std.proofs.lemmas.Bool.Decides.{nat_tests}
use Rattle.std.proofs.lemmas.List.{length-map, length-replicate, length-set}
use Rattle.std.proofs.lemmas.List.Elements.{All-replicate, All-same, All-set}
use Rattle.um_base.specs.declared.image.Boot.{Boot}
use Rattle.um_base.specs.declared.image.DomainDef.{DomainDef}
use Rattle.um_base.specs.declared.image.Image.{Image}
use Rattle.um_base.specs.declared.image.ObjectDef.{ObjectDef}
use Rattle.um_base.specs.declared.image.Partition.{Partition}
use Rattle.um_base.specs.declared.image.Setup.{Setup}
use Rattle.um_base.specs.declared.limits.TheConstants.{PARTITION_AREA, STACK_AREA, STATIC_ROWS, STATIC_THREADS, THREADS}
use Rattle.um_base.specs.declared.names.Row.{Row}
use Rattle.um_base.specs.Lawful.{IsLawful, has_index, has_indices, index_after, is_initialised, is_lawful_boot}
use Rattle.um_base.specs.Places.{setup_thread, thread_of_row}
use Rattle.um_machine.specs.declared.thread.Thread.{Thread}
use Rattle.um_machine.specs.Memory.{put_bytes, with_bytes}
use Rattle.um_machine.specs.Run.{blank, boot_thread, booted, booted_one, granted, index_or, loaded, objects_from, opening, parts_of}
use Rattle.um_machine.specs.State.{State, nobody, with_pair, with_thread}
use Rattle.um_tables.specs.Contexts.{rests}
use Rattle.um_opening.specs.Opened.{IsFresh, in_a_domain}

-- What a boot leaves as it was.

abbrev Alike : State → State → Type 0
Alike s s2 = (s2.image ≡ s.image) × (s2.objects ≡ s.objects) × (s2.domains ≡ s.domains)

next : (s s2 s3 : State) → Alike s s2 → Alike s2 s3 → Alike s s3
next s s2 s3 a b = (b.0 ∙ a.0, b.1 ∙ a.1, b.2 ∙ a.2)

granted-alike : (t : ℕ) (rows : List Row) (s : State) → Alike s (granted t rows s)
granted-alike t [] s = (refl, refl, refl)
granted-alike t (x ∷ rows) s = granted-alike t rows (with_pair s t x.0 true)

granted-threads : (t : ℕ) (rows : List Row) (s : State) → (granted t rows s).threads ≡ s.threads
granted-threads t [] s = refl
granted-threads t (x ∷ rows) s = granted-threads t rows (with_pair s t x.0 true)

bytes-alike : (s : State) (a : ℕ) (bs : List ℕ) → Alike s (with_bytes s a bs)
bytes-alike s a bs = by (nat_lt a STACK_AREA)
  where
    by : (c : Bool) → Alike s (if c then record s { memory = put_bytes s.memory (a - PARTITION_AREA) bs } else record s { stacks = put_bytes s.stacks (a - STACK_AREA) bs })
    by true = (refl, refl, refl)
    by false = (refl, refl, refl)

bytes-threads : (s : State) (a : ℕ) (bs : List ℕ) → (with_bytes s a bs).threads ≡ s.threads
bytes-threads s a bs = by (nat_lt a STACK_AREA)
  where
    by : (c : Bool) → (if c then record s { memory = put_bytes s.memory (a - PARTITION_AREA) bs } else record s { stacks = put_bytes s.stacks (a - STACK_AREA) bs }).threads ≡ s.threads
    by true = refl
    by false = refl

loaded-alike : (ps : List Partition) (s : State) → Alike s (loaded ps s)
loaded-alike [] s = (refl, refl, refl)
loaded-alike (p ∷ ps) s =
    let one = with_bytes s p.range.start.0 p.bytes in
    next s one (loaded ps one) (bytes-alike s p.range.start.0 p.bytes) (loaded-alike ps one)

loaded-threads : (ps : List Partition) (s : State) → (loaded ps s).threads ≡ s.threads
loaded-threads [] s = refl
loaded-threads (p ∷ ps) s = loaded-threads ps (with_bytes s p.range.start.0 p.bytes) ∙ bytes-threads s p.range.start.0 p.bytes

booted-alike : (boots : List Boot) (s : State) → Alike s (booted boots s)
booted-alike [] s = (refl, refl, refl)
booted-alike (boot ∷ boots) s =
    let t = index_or (thread_of_row s.image boot.thread.0) in
    next s (booted_one boot s) (booted boots (booted_one boot s)) (granted-alike t (boot.thread ∷ boot.grants) (with_thread s t (boot_thread s.image boot)))
    (booted-alike boots (booted_one boot s))

opening-alike : (image : Image) → Alike (blank image) (opening image)
opening-alike image =
    let s = loaded image.partitions (blank image) in
    next (blank image) s (booted image.boots s) (loaded-alike image.partitions (blank image)) (booted-alike image.boots s)

-- What holds of a thread on which nobody was started, and of those of the boot entries, holds of all.
module _ (image : Image) (P : Thread → Type 0) (boots-are : (other : Image) (boot : Boot) → IsTrue (is_lawful_boot image boot) → P (boot_thread other boot)) where
  booted-all : (boots : List Boot) (s : State) → IsTrue (list_all (is_lawful_boot image) boots) → All P s.threads → All P (booted boots s).threads
  booted-all [] s lawful all = all
  booted-all (boot ∷ boots) s lawful all =
      let t = index_or (thread_of_row s.image boot.thread.0) in
      let me = boot_thread s.image boot in
      let parts = and_parts (is_lawful_boot image boot) (list_all (is_lawful_boot image) boots) lawful in
      booted-all boots (booted_one boot s) parts.1
      (All-same P (booted_one boot s).threads (slice_set s.threads t me) (granted-threads t (boot.thread ∷ boot.grants) (with_thread s t me))
      (All-set P s.threads t me (boots-are s.image boot parts.0) all))

  opening-all : P nobody → IsTrue (list_all (is_lawful_boot image) image.boots) → All P (opening image).threads
  unfolding blank
  opening-all none lawful =
      booted-all image.boots (loaded image.partitions (blank image)) lawful
      (All-same P (loaded image.partitions (blank image)).threads (blank image).threads (loaded-threads image.partitions (blank image)) (All-replicate P THREADS nobody none))

-- Domains of boot entries.

initialised-within : (ds : List DomainDef) (d : ℕ) → is_initialised (slice_get ds d) ≡ true → d < length ds
initialised-within [] d h = absurd (false≢true h)
initialised-within (one ∷ ds) zero h = omega arith
initialised-within (one ∷ ds) (suc d) h = let later = initialised-within ds d h in omega (arith, later)

boot-domain : (image : Image) (boot : Boot) → IsTrue (is_lawful_boot image boot) → boot.domain < length image.domains
boot-domain image boot h = initialised-within image.domains boot.domain (and_parts _ _ (and_parts _ _ (and_parts _ _ h).0).0).1

blank-image : (image : Image) → (blank image).image ≡ image
unfolding blank
blank-image image = refl

blank-objects : (image : Image) → (blank image).objects ≡ objects_from image.boots 0 image.objects
unfolding blank
blank-objects image = refl

many-domains : (image : Image) → length (blank image).domains ≡ length image.domains
unfolding blank
many-domains image = length-map image.domains (λ (d : DomainDef). parts_of image d.parts)

-- Indices of the threads of boot entries.

indices-end : (os : List ObjectDef) (t : ℕ) → has_indices os t ≡ true → t ≤ STATIC_THREADS
indices-end [] t h = grind (arith, nat_tests)
indices-end (o ∷ os) t h = by o.setup (and_parts _ _ h).1 (λ more. indices-end os (t + 1) more) (λ more. indices-end os t more)
  where
    by : (setup : Setup) → has_indices os (index_after setup t) ≡ true → (has_indices os (t + 1) ≡ true → t + 1 ≤ STATIC_THREADS) → (has_indices os t ≡ true → t ≤ STATIC_THREADS)
        → t ≤ STATIC_THREADS
    by (Setup.Thread index) more next same = let later = next more in omega (arith, later)
    by (Setup.ThreadStack range declared) more next same = same more
    by (Setup.Sem count limit) more next same = same more
    by Setup.Mutex more next same = same more
    by (Setup.Msgq size most) more next same = same more
    by (Setup.Stack entries) more next same = same more
    by (Setup.Pipe size) more next same = same more
    by Setup.Timer more next same = same more
    by Setup.Bare more next same = same more

small-setup : (setup : Setup) (os : List ObjectDef) (t : ℕ) → has_index setup t ≡ true → has_indices os (index_after setup t) ≡ true → index_or (setup_thread setup) < THREADS
small-setup (Setup.Thread index) os t here more =
    let same = eqb-true index.0 t here in let later = indices-end os (t + 1) more in omega (arith, same, later)
small-setup (Setup.ThreadStack range declared) os t here more = omega arith
small-setup (Setup.Sem count limit) os t here more = omega arith
small-setup Setup.Mutex os t here more = omega arith
small-setup (Setup.Msgq size most) os t here more = omega arith
small-setup (Setup.Stack entries) os t here more = omega arith
small-setup (Setup.Pipe size) os t here more = omega arith
small-setup Setup.Timer os t here more = omega arith
small-setup Setup.Bare os t here more = omega arith

small-static : (os : List ObjectDef) (t x : ℕ) → has_indices os t ≡ true → index_or (setup_thread (slice_index_or (map (λ (o : ObjectDef). o.setup) os) x Setup.Bare)) < THREADS
small-static [] t x h = omega arith
small-static (o ∷ os) t zero h = let parts = and_parts (has_index o.setup t) (has_indices os (index_after o.setup t)) h in small-setup o.setup os t parts.0 parts.1
small-static (o ∷ os) t (suc x) h = small-static os (index_after o.setup t) x (and_parts (has_index o.setup t) (has_indices os (index_after o.setup t)) h).1

small-index : (image : Image) (x : ℕ) → IsTrue (has_indices image.objects 0) → index_or (thread_of_row image x) < THREADS
small-index image x lawful = by (nat_lt x STATIC_ROWS) (nat_lt (STATIC_THREADS + (x - STATIC_ROWS)) THREADS) refl
  where
    by : (b c : Bool) → nat_lt (STATIC_THREADS + (x - STATIC_ROWS)) THREADS ≡ c
        → index_or (if b then setup_thread (slice_index_or (map (λ (o : ObjectDef). o.setup) image.objects) x Setup.Bare) else if c then Some (STATIC_THREADS + (x - STATIC_ROWS)) else None) < THREADS
    by true c h = small-static image.objects 0 x lawful
    by false true h = grind (arith, nat_tests)
    by false false h = omega arith

pub opening-image : (image : Image) → (opening image).image ≡ image
opening-image image = (opening-alike image).0 ∙ blank-image image

pub opening-domains : (image : Image) → length (opening image).domains ≡ length image.domains
opening-domains image = ap length (opening-alike image).2 ∙ many-domains image

booted-long : (boots : List Boot) (s : State) → length (booted boots s).threads ≡ length s.threads
booted-long [] s = refl
booted-long (boot ∷ boots) s =
    let t = index_or (thread_of_row s.image boot.thread.0) in
    let me = boot_thread s.image boot in
    booted-long boots (booted_one boot s) ∙ ap length (granted-threads t (boot.thread ∷ boot.grants) (with_thread s t me)) ∙ length-set s.threads t me

-- there are as many threads as indices
pub opening-threads : (image : Image) → length (opening image).threads ≡ THREADS
unfolding blank
opening-threads image =
    booted-long image.boots (loaded image.partitions (blank image)) ∙ ap length (loaded-threads image.partitions (blank image)) ∙ length-replicate THREADS nobody

pub opening-fresh : (image : Image) → IsLawful image → IsFresh (opening image)
opening-fresh image lawful =
    let alike = opening-alike image in
    let same : image ≡ (opening image).image = sym (opening-image image) in
    record {
      rest = opening-all image rests (λ other boot h. refl) refl lawful.boots;
      named = λ few.
          let many = opening-domains image in
          opening-all image in_a_domain (λ other boot h. let within = boot-domain image boot h in omega (arith, many, few, within)) (omega arith) lawful.boots;
      boots = subst (λ (i : Image). All (λ (boot : Boot). index_or (thread_of_row i boot.thread.0) < THREADS) i.boots) same (λ k d h. small-index image (slice_index_or image.boots k d).thread.0 lawful.indices);
      objects = alike.1 ∙ blank-objects image ∙ ap (λ (i : Image). objects_from i.boots 0 i.objects) same;
    }
