-- At the opening each boot thread is at its script's first line, in no call, and nobody waits.
use Rattle.std.proofs.Common.{◌≡◌, ◌<◌, ℕ, zero, suc, ◌+◌, ◌-◌, true, false, nat_lt, List, [], ◌∷◌, length, refl, sym, ap, subst, ◌∙◌, arith, Some, None, slice_index_or, if◌then◌else◌}
use Rattle.std.specs.Prelude.{IsTrue}
use Rattle.std.proofs.lemmas.List.{length-set, length-replicate}
use Rattle.um_base.specs.declared.image.Boot.{Boot}
use Rattle.um_base.specs.declared.image.Image.{Image}
use Rattle.um_base.specs.declared.image.ObjectDef.{ObjectDef}
use Rattle.um_base.specs.declared.image.Partition.{Partition}
use Rattle.um_base.specs.declared.limits.TheConstants.{STACK_AREA, PARTITION_AREA, ROWS, THREADS}
use Rattle.um_base.specs.declared.names.Row.{Row}
use Rattle.um_base.specs.Lawful.{is_lawful_boot}
use Rattle.um_base.specs.Places.{thread_of_row}
use Rattle.um_machine.specs.declared.object.Object.{Object}
use Rattle.um_machine.specs.declared.thread.Thread.{Thread}
use Rattle.um_machine.specs.Memory.{with_bytes, put_bytes}
use Rattle.um_machine.specs.Run.{blank, opening, loaded, booted, booted_one, granted, boot_thread, index_or, objects_from}
use Rattle.um_machine.specs.State.{State, nobody, vacant, no_rows, thread_at, with_thread, with_pair}
use Rattle.um_invariants.specs.Described.{IsDescribed}
use Rattle.um_invariants.proofs.BootClaims.{replicate_at}
use Rattle.um_invariants.proofs.Cores.{at_set}
use Rattle.um_invariants.proofs.Facts.{none_checked}
use Rattle.um_invariants.proofs.Opening.{is_boot, boot_parts, passes_within}
use Rattle.um_invariants.proofs.SitedImages.{is_sited}
use Rattle.um_invariants.proofs.ThreadCells.{cell}
use Rattle.um_invariants.proofs.ThreadWaits.{times}
use Rattle.um_invariants.proofs.ThreadWords.{AreKept}
use Rattle.um_invariants.proofs.ThreadStarts.{real-below}

-- a thread in no call, which has nothing due
pub record IsBare (me : Thread) : Type 0 where
  pub pending : me.pending ≡ []
  pub told : me.told ≡ None
  pub due : (r : ℕ) → slice_index_or me.due r false ≡ false

-- a state where some boot threads are started
pub record IsOpened (image : Image) (s : State) : Type 0 where
  pub image_is : s.image ≡ image
  pub many : length s.threads ≡ THREADS
  pub bare : (u : ℕ) → IsBare (thread_at s u)
  pub waiters : (x u : ℕ) → times u (cell s x) ≡ 0

no-due : (r : ℕ) → slice_index_or no_rows r false ≡ false
no-due r = none_checked r ROWS

bare-nobody : IsBare nobody
bare-nobody = record { pending = refl; told = refl; due = no-due }

-- Nobody is started.

none-wait : (bs : List Boot) (x : ℕ) (os : List ObjectDef) (y u : ℕ) → times u (slice_index_or (objects_from bs x os) y vacant).waiters ≡ 0
none-wait bs x [] y u = ap (λ (o : Object). times u o.waiters) (replicate_at (ROWS - x) y vacant)
none-wait bs x (o ∷ os) zero u = refl
none-wait bs x (o ∷ os) (suc y) u = none-wait bs (x + 1) os y u

none-wait-in : (image : Image) (x u : ℕ) → times u (cell (blank image) x) ≡ 0
unfolding blank
none-wait-in image zero u = refl
none-wait-in image (suc zero) u = refl
none-wait-in image (suc (suc x)) u = none-wait image.boots 0 image.objects x u

blank-opened : (image : Image) → IsOpened image (blank image)
unfolding blank
blank-opened image = record {
  image_is = refl;
  many = length-replicate THREADS nobody;
  bare = λ u. subst (λ (th : Thread). IsBare th) (sym (replicate_at THREADS u nobody)) bare-nobody;
  waiters = none-wait-in image;
}

-- the same threads and cells
same-opened : (image : Image) (s s2 : State) → s2.image ≡ s.image → s2.threads ≡ s.threads → ((x : ℕ) → cell s2 x ≡ cell s x) → IsOpened image s → IsOpened image s2
same-opened image s s2 images threads cells o = record {
  image_is = images ∙ o.image_is;
  many = ap (λ (ts : List Thread). length ts) threads ∙ o.many;
  bare = λ u. subst (λ (ts : List Thread). IsBare (slice_index_or ts u nobody)) (sym threads) (o.bare u);
  waiters = λ x u. ap (times u) (cells x) ∙ o.waiters x u;
}

bytes-opened : (image : Image) (s : State) (a : ℕ) (bytes : List ℕ) → IsOpened image s → IsOpened image (with_bytes s a bytes)
bytes-opened image s a bytes o =
    elim (nat_lt a STACK_AREA) as (λ b. IsOpened image (if b then record s { memory = put_bytes s.memory (a - PARTITION_AREA) bytes } else record s { stacks = put_bytes s.stacks (a - STACK_AREA) bytes })) [
      | true ↦ same-opened image s (record s { memory = put_bytes s.memory (a - PARTITION_AREA) bytes }) refl refl (λ x. refl) o
      | false ↦ same-opened image s (record s { stacks = put_bytes s.stacks (a - STACK_AREA) bytes }) refl refl (λ x. refl) o
    ]

loaded-opened : (image : Image) (ps : List Partition) (s : State) → IsOpened image s → IsOpened image (loaded ps s)
loaded-opened image [] s o = o
loaded-opened image (p ∷ ps) s o = loaded-opened image ps (with_bytes s p.range.start.0 p.bytes) (bytes-opened image s p.range.start.0 p.bytes o)

-- Boot threads.

granted-opened : (image : Image) (t : ℕ) (xs : List Row) (s : State) → IsOpened image s → IsOpened image (granted t xs s)
granted-opened image t [] s o = o
granted-opened image t (x ∷ xs) s o = granted-opened image t xs (with_pair s t x.0 true) (same-opened image s (with_pair s t x.0 true) refl refl (λ x. refl) o)

started-opened : (image : Image) (s : State) (t : ℕ) (boot : Boot) → IsOpened image s → IsOpened image (with_thread s t (boot_thread s.image boot))
started-opened image s t boot o =
    let me = boot_thread s.image boot in
    record {
      image_is = o.image_is;
      many = length-set s.threads t me ∙ o.many;
      bare = λ u. at_set (λ n (other : Thread). IsBare other) s.threads t u me nobody (record { pending = refl; told = refl; due = no-due }) (o.bare u);
      waiters = o.waiters;
    }

booted-opened : (image : Image) (bs : List Boot) (s : State) → IsOpened image s → IsOpened image (booted bs s)
booted-opened image [] s o = o
booted-opened image (boot ∷ bs) s o =
    let t = index_or (thread_of_row s.image boot.thread.0) in
    booted-opened image bs (booted_one boot s)
    (granted-opened image t (boot.thread ∷ boot.grants) (with_thread s t (boot_thread s.image boot)) (started-opened image s t boot o))

-- the loaded state, before its first boot entry
pub loads : (image : Image) → IsOpened image (loaded image.partitions (blank image))
loads image = loaded-opened image image.partitions (blank image) (blank-opened image)

pub opens : (image : Image) → IsOpened image (opening image)
opens image = booted-opened image image.boots (loaded image.partitions (blank image)) (loads image)

-- a boot entry's thread is one of the machine's
pub booted-index : (image : Image) → IsDescribed image → (boot : Boot) → IsTrue (is_lawful_boot image boot) → (t : ℕ) × (thread_of_row image boot.thread.0 ≡ Some t) × (t < THREADS)
booted-index image given boot lawful =
    let parts = boot_parts _ _ _ _ _ _ _ lawful in
    let inside = passes_within _ image.objects boot.thread.0 parts.0 in
    let sited = is_sited image given.lawful given.few (omega (arith, inside)) in
    let b = is_boot image sited boot parts.0 parts.2 in
    let t = index_or (thread_of_row image boot.thread.0) in
    (t, subst (λ (x : ℕ). thread_of_row image x ≡ Some t) b.own b.real.1, real-below image given.lawful t b.real)

-- What is kept holds at the opening.
pub opening-kept : (image : Image) → AreKept (opening image)
opening-kept image = let o = opens image in record {
  many = o.many;
  orderly = λ u. (let b = o.bare u in record { steps = rw b.pending refl; from = rw b.pending tt; told = λ e. b.told });
  due = λ u r h. absurd (let b = o.bare u in let off = b.due r in let bad : true ≡ false = sym h ∙ off in cc);
  waits = λ x u h. absurd (let none = o.waiters x u in omega (arith, none, h));
  once = λ x u. (let none = o.waiters x u in omega (arith, none));
  sole = λ x y u h g. absurd (let none = o.waiters x u in omega (arith, none, h));
}
