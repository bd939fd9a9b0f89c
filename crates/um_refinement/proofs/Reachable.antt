-- What holds of the states that a run of the access-matrix machine reaches: how many threads, rows and objects they have, what um_invariants knows
-- of them, and that permissions are of live objects.
use Rattle.um_refinement.proofs.Words.{◌≡◌, ℕ, zero, suc, ◌<◌, ◌≤◌, Bool, true, false, List, [], ◌∷◌, length, refl, sym, ap, ◌∙◌, subst, arith, slice_set, if◌then◌else◌, nat_lt, slice_index_or, length-map, length-set, Event, Boot, Image, ROWS, STATIC_ROWS, THREADS, Row, thread_of_row, Pending, Runs, blank, boot_thread, booted, booted_one, index_or, loaded, opening, State, with_pair, with_thread, at_set, core_of, status_is, IsKnown, DomainDef, PARTITION_AREA, STACK_AREA, put_bytes, granted, parts_of, known_run, ◌-◌, replicate}
use Rattle.um_machine.specs.Objects as Plain
use Rattle.um_refinement.proofs.DropSteps.{Held}
use Rattle.um_refinement.proofs.Erased.{IsReachable}
use Rattle.um_refinement.proofs.FirstObjects.{all-objects, opening-image}
use Rattle.um_refinement.proofs.FirstThreads.{booted-read, copies-long, loaded-read, threads-long}
use Rattle.um_refinement.proofs.ThreadLists.{dues-long, set-long}
use Rattle.um_refinement.proofs.Writes.{Keeping, Makes, Part, after-kept}

-- any write may be made
abbrev pub Any : Part → Bool
Any part = true

pub makes-any : (q : Pending) → Makes Any q
makes-any Pending.Recycle = tt
makes-any q = tt

-- as many threads, rows of permissions and objects as there are indices, and in each row one permission a thread
pub record IsWide (s : State) : Type 0 where
  pub threads : length s.threads ≡ THREADS
  pub rows : length s.pairs ≡ ROWS
  pub objects : length s.objects ≡ ROWS
  pub flags : (x : ℕ) → x < ROWS → length (slice_index_or s.pairs x []) ≡ THREADS
  pub domains : length s.domains ≡ length s.image.domains

abbrev Flags : State → Type 0
Flags s = (x : ℕ) → x < ROWS → length (slice_index_or s.pairs x []) ≡ THREADS

flags-pair : (s : State) (u x : ℕ) (there : Bool) → Flags s → Flags (with_pair s u x there)
flags-pair s u x there h y =
    at_set (λ n (flags : List Bool). n < ROWS → length flags ≡ THREADS) s.pairs x y (slice_set (slice_index_or s.pairs x []) u there) []
    (λ l. length-set (slice_index_or s.pairs x []) u there ∙ h x l) (h y)

wide-keeping : Keeping Any IsWide
wide-keeping =
    record {
      own = λ s u th e k. record { threads = set-long s.threads u th ∙ k.threads; rows = k.rows; objects = k.objects; flags = k.flags; domains = k.domains };
      word = λ may s u th k. record { threads = set-long s.threads u th ∙ k.threads; rows = k.rows; objects = k.objects; flags = k.flags; domains = k.domains };
      object = λ may s x o e q k. record { threads = k.threads; rows = k.rows; objects = length-set s.objects x o ∙ k.objects; flags = k.flags; domains = k.domains };
      status = λ may s x o e k. record { threads = k.threads; rows = k.rows; objects = length-set s.objects x o ∙ k.objects; flags = k.flags; domains = k.domains };
      birth = λ may s x o k. record { threads = k.threads; rows = k.rows; objects = length-set s.objects x o ∙ k.objects; flags = k.flags; domains = k.domains };
      pair = λ may s u x there k.
          record {
            threads = dues-long x 0 (slice_index_or (with_pair s u x there).pairs x []) s.threads ∙ k.threads;
            rows = length-set s.pairs x _ ∙ k.rows;
            objects = k.objects;
            flags = flags-pair s u x there k.flags;
            domains = k.domains;
          };
      bytes = λ may s a bs k.
          elim (nat_lt a STACK_AREA) as (λ c. IsWide (if c then record s { memory = put_bytes s.memory (a - PARTITION_AREA) bs } else record s { stacks = put_bytes s.stacks (a - STACK_AREA) bs })) [
            | true ↦ record { threads = k.threads; rows = k.rows; objects = k.objects; flags = k.flags; domains = k.domains }
            | false ↦ record { threads = k.threads; rows = k.rows; objects = k.objects; flags = k.flags; domains = k.domains }
          ];
      pool = λ may s left k. record { threads = k.threads; rows = k.rows; objects = k.objects; flags = k.flags; domains = k.domains };
      parts = λ may s d ps k. record { threads = k.threads; rows = k.rows; objects = k.objects; flags = k.flags; domains = length-set s.domains d ps ∙ k.domains };
      queue = λ may s joins futexes k. record { threads = k.threads; rows = k.rows; objects = k.objects; flags = k.flags; domains = k.domains };
      clock = λ may s now armed k. record { threads = k.threads; rows = k.rows; objects = k.objects; flags = k.flags; domains = k.domains };
    }

wide-run : (s : State) (events : List Event) (s2 : State) → IsWide s → Runs s events s2 → IsWide s2
wide-run s [] s2 k run = subst IsWide (sym run) k
wide-run s (event ∷ events) s2 k (mid, step, rest) =
    wide-run mid events s2
    (subst IsWide (sym step.leaves) (after-kept Any IsWide wide-keeping s event.thread.0 k step.row step.step step.rest (makes-any step.step))) rest

-- The opening.

granted-rows : (t : ℕ) (rows : List Row) (s : State) → length (granted t rows s).pairs ≡ length s.pairs
granted-rows t [] s = refl
granted-rows t (x ∷ rows) s = granted-rows t rows (with_pair s t x.0 true) ∙ length-set s.pairs x.0 _

booted-rows : (boots : List Boot) (s : State) → length (booted boots s).pairs ≡ length s.pairs
booted-rows [] s = refl
booted-rows (boot ∷ boots) s =
    let t = index_or (thread_of_row s.image boot.thread.0) in
    booted-rows boots (booted_one boot s) ∙ granted-rows t (boot.thread ∷ boot.grants) (with_thread s t (boot_thread s.image boot))

granted-flags : (t : ℕ) (rows : List Row) (s : State) → Flags s → Flags (granted t rows s)
granted-flags t [] s h = h
granted-flags t (x ∷ rows) s h = granted-flags t rows (with_pair s t x.0 true) (flags-pair s t x.0 true h)

booted-flags : (boots : List Boot) (s : State) → Flags s → Flags (booted boots s)
booted-flags [] s h = h
booted-flags (boot ∷ boots) s h =
    let t = index_or (thread_of_row s.image boot.thread.0) in
    booted-flags boots (booted_one boot s) (granted-flags t (boot.thread ∷ boot.grants) (with_thread s t (boot_thread s.image boot)) h)

loaded-pairs : (image : Image) → (loaded image.partitions (blank image)).pairs ≡ (blank image).pairs
loaded-pairs image = loaded-read (λ z. z.pairs) (λ z bytes. (refl, refl)) image.partitions (blank image)

copies-at : (n x : ℕ) (flags : List Bool) → x < n → slice_index_or (replicate n flags) x [] ≡ flags
copies-at zero x flags l = absurd (omega (arith, l))
copies-at (suc n) zero flags l = refl
copies-at (suc n) (suc x) flags l = copies-at n x flags (omega (arith, l))

-- as many domains as the image has
opening-domains : (image : Image) → length (opening image).domains ≡ length (opening image).image.domains
unfolding blank
opening-domains image =
    ap length
    (booted-read (λ z. z.domains) (λ z pairs. refl) (λ z threads. refl) image.boots (loaded image.partitions (blank image))
    ∙ loaded-read (λ z. z.domains) (λ z bytes. (refl, refl)) image.partitions (blank image))
    ∙ (length-map image.domains (λ (d : DomainDef). parts_of image d.parts) ∙ ap (λ (i : Image). length i.domains) (sym (opening-image image)))

pub opening-wide : (image : Image) → length image.objects ≤ STATIC_ROWS → IsWide (opening image)
unfolding blank
opening-wide image few =
    record {
      threads = threads-long image;
      rows = booted-rows image.boots (loaded image.partitions (blank image))
          ∙ (ap length (loaded-pairs image) ∙ copies-long ROWS (replicate THREADS false));
      objects = all-objects image 0 few;
      domains = opening-domains image;
      flags = booted-flags image.boots (loaded image.partitions (blank image))
          (λ x l. ap (λ (ps : List (List Bool)). length (slice_index_or ps x [])) (loaded-pairs image) ∙ (ap length (copies-at ROWS x (replicate THREADS false) l) ∙ copies-long THREADS false));
    }

-- What is known of a state.
pub record IsSound (m : State) : Type 0 where
  pub wide : IsWide m
  pub known : IsKnown (core_of m)

module _ (image : Image) (cpus : ℕ) (few : length image.objects ≤ STATIC_ROWS) (m : State) (reach : IsReachable image cpus m) where
  pub reachable-wide : IsWide m
  reachable-wide = wide-run (opening image) reach.0 m (opening-wide image few) reach.1

  -- it is known of each state that a run reaches
  pub reachable-sound : IsKnown (core_of (opening image)) → IsSound m
  reachable-sound known = record { wide = reachable-wide; known = known_run (opening image) reach.0 m known reach.1 }

module _ (m : State) (sound : IsSound m) where
  -- permissions are of live objects
  pub sound-held : (x who : ℕ) → x < ROWS → Held m x who
  sound-held x who few =
      let rows = sound.wide.rows in
      record { lives = λ h. ap Plain.is_live (sym (status_is m x)) ∙ sound.known.reached.living who x h; listed = omega (arith, rows, few) }
