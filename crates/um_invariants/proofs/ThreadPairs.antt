-- Pairs come and go, and what is due stays what a thread can pass on or drop.
use Rattle.std.proofs.Common.{◌≡◌, ◌≢◌, ◌⊎◌, inl, inr, ℕ, zero, suc, ◌+◌, ◌-◌, Bool, true, false, ◌&&◌, not, List, [], ◌∷◌, length, refl, sym, ap, subst, ◌∙◌, arith, Option, Some, None, slice_index_or, slice_set, if◌then◌else◌, nat_le, nat_lt}
use Rattle.std.specs.List.{list_all}
use Rattle.std.proofs.lemmas.Bool.{not-true, true≢false}
use Rattle.std.proofs.lemmas.List.{length-set, get_or-set_other}
use Rattle.um_base.specs.declared.act.Leftover.{Leftover}
use Rattle.um_base.specs.declared.image.Image.{Image}
use Rattle.um_base.specs.declared.limits.TheConstants.{ROWS, STATIC_ROWS, PARTITION_AREA, STACK_AREA}
use Rattle.um_base.specs.declared.names.ThreadIx.{ThreadIx}
use Rattle.um_machine.specs.declared.thread.Thread.{Thread}
use Rattle.um_machine.specs.Objects.{has_no_pair}
use Rattle.um_machine.specs.State.{State, nobody, vacant, no_rows, thread_at, object_at, with_object, with_thread, pair_at, with_pair}
use Rattle.um_machine.specs.Memory.{put_bytes}
use Rattle.um_machine.specs.Table.{with_due, with_dues, stays_due, paired, dropped}
use Rattle.um_machine.specs.Writes.{Edit, Effect, Effects, Flag, drops, edited, effect, flagged, wrote}
use Rattle.um_machine.proofs.EffectLemmas.{all-wrote}
use Rattle.um_invariants.proofs.Cores.{at_set}
use Rattle.um_invariants.proofs.Facts.{both_of, each-of, none_checked, set-less}
use Rattle.um_invariants.proofs.ThreadCounts.{equal_or_not}
use Rattle.um_invariants.proofs.ThreadWords.{has_pair, MayPass, AreDue, AreKept, IsAlike, IsBase}
use Rattle.um_invariants.proofs.ThreadFrames.{alike-due, alike-self, alike-then, base-self, base-same, base-object, base-kept, fewer-wait}

-- what a row's change does to a thread at an index
dues-at : (x u : ℕ) (holders : List Bool) (ts : List Thread) (t : ℕ) → (slice_index_or (with_dues x u holders ts) t nobody ≡ with_due x (u + t) holders (slice_index_or ts t nobody)) ⊎ (slice_index_or (with_dues x u holders ts) t nobody ≡ nobody)
dues-at x u holders [] t = inr refl
dues-at x u holders (me ∷ ts) zero = let here : u ≡ u + 0 = omega arith in inl (ap (λ (n : ℕ). with_due x n holders me) here)
dues-at x u holders (me ∷ ts) (suc t) =
    let next : u + 1 + t ≡ u + suc t = omega arith in
    subst (λ (n : ℕ). (slice_index_or (with_dues x (u + 1) holders ts) t nobody ≡ with_due x n holders (slice_index_or ts t nobody)) ⊎ (slice_index_or (with_dues x (u + 1) holders ts) t nobody ≡ nobody)) next (dues-at x (u + 1) holders ts t)

length-dues : (x u : ℕ) (holders : List Bool) (ts : List Thread) → length (with_dues x u holders ts) ≡ length ts
length-dues x u holders [] = refl
length-dues x u holders (me ∷ ts) = let rest = length-dues x (u + 1) holders ts in omega (arith, rest)

-- a thread of a list is like the one before, where it has no more due
dues-alike : (x u : ℕ) (holders : List Bool) (ts : List Thread) (t : ℕ) → IsAlike (slice_index_or ts t nobody) (slice_index_or (with_dues x u holders ts) t nobody)
dues-alike x u holders [] t = alike-self nobody
dues-alike x u holders (me ∷ ts) zero =
    record { life = refl; doomed = refl; pending = refl; told = refl; child = refl; due = λ r h. set-less me.due x r (stays_due u me.child holders) h }
dues-alike x u holders (me ∷ ts) (suc t) = dues-alike x (u + 1) holders ts t

-- the flag of the row that changed
flag-here : (due : List Bool) (x : ℕ) (stays : Bool) → slice_index_or (slice_set due x (slice_index_or due x false && stays)) x false ≡ true → (slice_index_or due x false ≡ true) × (stays ≡ true)
flag-here [] x stays h = cc
flag-here (flag ∷ due) zero stays h = both_of flag stays h
flag-here (flag ∷ due) (suc x) stays h = flag-here due x stays h

stays-pass : (image : Image) (pairs pairs0 : List (List Bool)) (x t : ℕ) (child : Option ThreadIx) → stays_due t child (slice_index_or pairs x []) ≡ true → MayPass image pairs0 t child x → MayPass image pairs t child x
stays-pass image pairs pairs0 x t None stays was = stays
stays-pass image pairs pairs0 x t (Some who) stays was = let two = both_of _ _ stays in (two.0, not-true _ two.1, was.2)

other-pass : (image : Image) (pairs0 : List (List Bool)) (x : ℕ) (row : List Bool) (t r : ℕ) (child : Option ThreadIx) → r ≢ x → MayPass image pairs0 t child r → MayPass image (slice_set pairs0 x row) t child r
other-pass image pairs0 x row t r None other was = rw (get_or-set_other pairs0 x r row [] other) was
other-pass image pairs0 x row t r (Some who) other was = let same = get_or-set_other pairs0 x r row [] other in (rw same was.0, rw same was.1, was.2)

due-with : (image : Image) (pairs0 : List (List Bool)) (x : ℕ) (row : List Bool) (t : ℕ) (me : Thread) → AreDue image pairs0 t me → AreDue image (slice_set pairs0 x row) t (with_due x t (slice_index_or (slice_set pairs0 x row) x []) me)
due-with image pairs0 x row t me due r h =
    elim (equal_or_not r x) [
      | inl same ↦ (
          let here = flag-here me.due x (stays_due t me.child (slice_index_or (slice_set pairs0 x row) x [])) (subst (λ (n : ℕ). slice_index_or (with_due x t (slice_index_or (slice_set pairs0 x row) x []) me).due n false ≡ true) same h) in
          subst (λ (n : ℕ). MayPass image (slice_set pairs0 x row) t me.child n) (sym same) (stays-pass image (slice_set pairs0 x row) pairs0 x t me.child here.1 (due x here.0)))
      | inr other ↦ other-pass image pairs0 x row t r me.child other (due r (sym (get_or-set_other me.due x r (slice_index_or me.due x false && stays_due t me.child (slice_index_or (slice_set pairs0 x row) x [])) false other) ∙ h))
    ]

nobody-due : (image : Image) (pairs : List (List Bool)) (t : ℕ) → AreDue image pairs t nobody
nobody-due image pairs t r h = absurd (let none : slice_index_or no_rows r false ≡ false = none_checked r ROWS in let bad : true ≡ false = sym h ∙ none in cc)

pub base-paired : (s : State) → AreKept s → (w x : ℕ) (there : Bool) → IsBase s (paired s w x there)
base-paired s kept w x there =
    let row = slice_set (slice_index_or s.pairs x []) w there in
    let pairs = slice_set s.pairs x row in
    let holders = slice_index_or pairs x [] in
    record {
      image = refl;
      many = length-dues x 0 holders s.threads;
      alike = λ u. dues-alike x 0 holders s.threads u;
      due = λ u. elim (dues-at x 0 holders s.threads u) [
        | inl same ↦ (let zeroth : 0 + u ≡ u = omega arith in
            let here : thread_at (paired s w x there) u ≡ with_due x u holders (thread_at s u) = subst (λ (n : ℕ). thread_at (paired s w x there) u ≡ with_due x n holders (thread_at s u)) zeroth same in
            subst (λ (th : Thread). AreDue s.image pairs u th) (sym here) (due-with s.image s.pairs x row u (thread_at s u) (kept.due u)))
        | inr none ↦ subst (λ (th : Thread). AreDue s.image pairs u th) (sym none) (nobody-due s.image pairs u)
      ];
      waiters = λ y u. omega arith;
    }

pub base-compose : (s s1 s2 : State) → IsBase s s1 → IsBase s1 s2 → IsBase s s2
base-compose s s1 s2 one two = record {
  image = two.image ∙ one.image;
  many = two.many ∙ one.many;
  alike = λ u. alike-then (thread_at s u) (thread_at s1 u) (thread_at s2 u) (one.alike u) (two.alike u);
  due = two.due;
  waiters = λ x u. (let first = one.waiters x u in let later = two.waiters x u in omega (arith, first, later));
}

-- a write that wakes, dooms, starts and cuts nobody, and leaves who waits
abbrev pub is_calm : Effect → Bool
is_calm (Effect.wakes woken) = false
is_calm (Effect.dooms who) = false
is_calm (Effect.starts who thread) = false
is_calm (Effect.cuts who) = false
is_calm (Effect.waiters c ws) = false
is_calm (Effect.object x (Edit.works contents waiters buffer)) = false
is_calm (Effect.object x (Edit.runs_out contents waiters)) = false
is_calm e = true

base-edited : (s : State) → AreKept s → (y : ℕ) (edit : Edit) → is_calm (Effect.object y edit) ≡ true → IsBase s (effect (Effect.object y edit) s)
base-edited s kept y (Edit.works contents waiters buffer) h = absurd (true≢false (sym h))
base-edited s kept y (Edit.runs_out contents waiters) h = absurd (true≢false (sym h))
base-edited s kept y (Edit.reserved kind cost) h =
    let o = edited (Edit.reserved kind cost) (object_at s y) in base-same s (with_object s y o) kept refl refl refl (fewer-wait s y o (λ u. omega arith))
base-edited s kept y Edit.vacates h = base-same s (with_object s y vacant) kept refl refl refl (fewer-wait s y vacant (λ u. omega arith))
base-edited s kept y edit h = base-object s kept y (edited edit (object_at s y)) refl

-- a thread is written, of which nothing is kept
base-written : (s : State) → AreKept s → (who : ℕ) (me : Thread) → IsAlike (thread_at s who) me → IsBase s (with_thread s who me)
base-written s kept who me alike =
    record {
      image = refl;
      many = length-set s.threads who me;
      alike = λ u. at_set (λ n (other : Thread). IsAlike (thread_at s n) other) s.threads who u me nobody alike (alike-self (thread_at s u));
      due = λ u. at_set (λ n (other : Thread). AreDue s.image s.pairs n other) s.threads who u me nobody (alike-due s.image s.pairs who (thread_at s who) me alike (kept.due who)) (kept.due u);
      waiters = λ x u. omega arith;
    }

base-flagged : (s : State) → AreKept s → (who : ℕ) (flag : Flag) → IsBase s (effect (Effect.flags who flag) s)
base-flagged s kept who Flag.aborted = base-written s kept who (flagged Flag.aborted (thread_at s who)) (record { life = refl; doomed = refl; pending = refl; told = refl; child = refl; due = λ r h. h })
base-flagged s kept who (Flag.suspended on) =
    base-written s kept who (flagged (Flag.suspended on) (thread_at s who)) (record { life = refl; doomed = refl; pending = refl; told = refl; child = refl; due = λ r h. h })

base-effect : (s : State) → AreKept s → (e : Effect) → is_calm e ≡ true → IsBase s (effect e s)
base-effect s kept (Effect.wakes woken) h = absurd (true≢false (sym h))
base-effect s kept (Effect.dooms who) h = absurd (true≢false (sym h))
base-effect s kept (Effect.starts who thread) h = absurd (true≢false (sym h))
base-effect s kept (Effect.cuts who) h = absurd (true≢false (sym h))
base-effect s kept (Effect.waiters c ws) h = absurd (true≢false (sym h))
base-effect s kept (Effect.moves who d) h = base-written s kept who (record (thread_at s who) { domain = d }) (record { life = refl; doomed = refl; pending = refl; told = refl; child = refl; due = λ r h. h })
base-effect s kept (Effect.flags who flag) h = base-flagged s kept who flag
base-effect s kept (Effect.pair who x there) h = base-paired s kept who x there
base-effect s kept (Effect.object y edit) h = base-edited s kept y edit h
base-effect s kept (Effect.bytes a bs) h =
    elim (nat_lt a STACK_AREA) as (λ b. IsBase s (if b then record s { memory = put_bytes s.memory (a - PARTITION_AREA) bs } else record s { stacks = put_bytes s.stacks (a - STACK_AREA) bs })) [
      | true ↦ base-same s _ kept refl refl refl (λ y u. omega arith)
      | false ↦ base-same s _ kept refl refl refl (λ y u. omega arith)
    ]
base-effect s kept e h = base-same s (effect e s) kept refl refl refl (λ y u. omega arith)

pub base-wrote : (s : State) → AreKept s → (ws : Effects) → list_all (λ (w : Bool × Effect). is_calm w.1) ws ≡ true → IsBase s (wrote ws s)
base-wrote s kept ws h =
    all-wrote (IsBase s) (λ e. is_calm e ≡ true) (λ e u calm base. base-compose s u (effect e u) base (base-effect u (base-kept s u kept base) e calm)) ws s (each-of is_calm (λ e. is_calm e ≡ true) (λ e calm. calm) ws h) (base-self s kept)

-- a pair that was dropped is gone
set-off : (pairs : List (List Bool)) (t x : ℕ) → has_pair (slice_set pairs x (slice_set (slice_index_or pairs x []) t false)) t x ≡ false
set-off [] t x = refl
set-off (row ∷ pairs) t zero = flag-off row t
  where
    flag-off : (row : List Bool) (t : ℕ) → slice_index_or (slice_set row t false) t false ≡ false
    flag-off [] t = refl
    flag-off (flag ∷ row) zero = refl
    flag-off (flag ∷ row) (suc t) = flag-off row t
set-off (row ∷ pairs) t (suc x) = set-off pairs t x

pub drop-off : (s : State) (t x : ℕ) → has_pair (wrote (drops t x (dropped s t x)) s).pairs t x ≡ false
drop-off s t x =
    let Off = λ (l : Leftover). has_pair (wrote (drops t x l) s).pairs t x ≡ false in
    elim (pair_at s t x) as (λ b. pair_at s t x ≡ b → Off (if not b then Leftover.NoPair else if nat_le STATIC_ROWS x && has_no_pair (with_pair s t x false) x then Leftover.Gone else Leftover.Kept)) [
      | false ↦ λ e. e
      | true ↦ λ e. elim (nat_le STATIC_ROWS x && has_no_pair (with_pair s t x false) x) as (λ b. Off (if b then Leftover.Gone else Leftover.Kept)) [
        | true ↦ set-off s.pairs t x
        | false ↦ set-off s.pairs t x
      ]
    ] refl

-- what may be passed on or dropped is held
pub pass-held : (image : Image) (pairs : List (List Bool)) (t : ℕ) (child : Option ThreadIx) (r : ℕ) → MayPass image pairs t child r → has_pair pairs t r ≡ true
pass-held image pairs t None r h = h
pass-held image pairs t (Some who) r h = h.0

-- it may be dropped where it may be passed on
pub pass-dropped : (image : Image) (pairs : List (List Bool)) (t : ℕ) (child : Option ThreadIx) (r : ℕ) → MayPass image pairs t child r → MayPass image pairs t None r
pass-dropped image pairs t child r h = pass-held image pairs t child r h
