-- What the writes of a step leave: threads that are no dearer, pairs of the same size, and a store that costs more by what each write adds.
use Rattle.std.proofs.Common.{◌≡◌, ◌≤◌, ℕ, ◌+◌, ◌-◌, Bool, true, false, List, [], ◌∷◌, length, length-append, refl, arith, Some, if◌then◌else◌}
use Rattle.std.specs.Prelude.{nat_lt}
use Rattle.std.specs.List.{list_all}
use Rattle.std.proofs.lemmas.Bool.{and_parts, false≢true}
use Rattle.um_base.specs.declared.act.Leftover.{Leftover}
use Rattle.um_base.specs.declared.ask.Told.{Told}
use Rattle.um_base.specs.declared.names.ThreadIx.{ThreadIx}
use Rattle.um_base.specs.declared.limits.TheConstants.{PARTITION_AREA, STACK_AREA}
use Rattle.um_machine.specs.declared.object.Status.{Status}
use Rattle.um_machine.specs.declared.thread.Thread.{Thread}
use Rattle.um_machine.specs.Memory.{put_bytes}
use Rattle.um_machine.specs.Readings.{dropped}
use Rattle.um_machine.specs.State.{State, thread_at, object_at, with_thread}
use Rattle.um_machine.specs.Writes.{Edit, Effect, Effects, Flag, all_woken, drops, edited, effect, flagged, paired, write, wrote}
use Rattle.um_machine.proofs.EffectLemmas.{woken-by}
use Rattle.um_measure.specs.Measure.{object_cost}
use Rattle.um_measure.specs.Reached.{AreSized}
use Rattle.um_measure.proofs.EasedLemmas.{IsEased, AreEased, all-same, all-set, all-then, eased-paired}
use Rattle.um_measure.proofs.StoreLemmas.{store_of, ahead-more, store-pair, store-set, store-drop, sized-pair}

-- a state whose threads are eased, whose store costs at most so much more, and that has at most so many more deadlines
pub record IsBase (s u : State) (extra : ℕ) : Type 0 where
  pub image : u.image ≡ s.image
  pub eased : AreEased s.threads u.threads
  pub sized : AreSized u.pairs
  pub store : store_of u ≤ store_of s + extra
  pub armed : length u.armed ≤ length s.armed + extra

pub base-self : (s : State) → AreSized s.pairs → IsBase s s 0
base-self s sized = record { image = refl; eased = all-same s.threads; sized = sized; store = omega arith; armed = omega arith }

-- the same, where the bound isn't lower
pub base-more : (s u : State) (n m : ℕ) → n ≤ m → IsBase s u n → IsBase s u m
base-more s u n m h base = record { image = base.image; eased = base.eased; sized = base.sized; store = omega (arith, base.store, h); armed = omega (arith, base.armed, h) }

-- what a write adds to the cost of the store
abbrev pub added : Effect → ℕ
added (Effect.pair who x true) = 2
added (Effect.object x (Edit.becomes Status.Gone)) = 1
added (Effect.arms deadline) = 1
added e = 0

abbrev pub all_added : Effects → ℕ
all_added [] = 0
all_added (w ∷ ws) = added w.1 + all_added ws

-- whether a write has such a bound, and starts and cuts nobody
abbrev pub is_bounded : Effect → Bool
is_bounded (Effect.starts who thread) = false
is_bounded (Effect.cuts who) = false
is_bounded (Effect.object x (Edit.works contents waiters buffer)) = false
is_bounded (Effect.object x (Edit.runs_out contents waiters)) = false
is_bounded (Effect.waiters c ws) = false
is_bounded (Effect.passes now) = false
is_bounded e = true

module _ (s u : State) (n : ℕ) (base : IsBase s u n) where
  base-thread : (who : ℕ) (me : Thread) → IsEased (thread_at u who) me → IsBase s (with_thread u who me) n
  base-thread who me same =
      record { image = base.image; eased = all-then s.threads u.threads (with_thread u who me).threads base.eased (all-set u.threads who me same); sized = base.sized; store = base.store; armed = base.armed }

  base-paired : (who x : ℕ) (there : Bool) (m : ℕ) → store_of (paired u who x there) ≤ store_of u + m → IsBase s (paired u who x there) (n + m)
  base-paired who x there m store =
      record {
        image = base.image;
        eased = all-then s.threads u.threads (paired u who x there).threads base.eased (eased-paired u who x there);
        sized = sized-pair u who x there base.sized;
        store = omega (arith, store, base.store);
        armed = omega (arith, base.armed);
      }

  base-object : (x : ℕ) (edit : Edit) → object_cost (edited edit (object_at u x)) ≤ object_cost (object_at u x) + added (Effect.object x edit) → IsBase s (effect (Effect.object x edit) u) (n + added (Effect.object x edit))
  base-object x edit cost =
      let set = store-set u.pairs u.objects x (edited edit (object_at u x)) in record { image = base.image; eased = base.eased; sized = base.sized; store = omega (arith, set, cost, base.store); armed = omega (arith, base.armed) }

  base-edited : (x : ℕ) (edit : Edit) → is_bounded (Effect.object x edit) ≡ true → IsBase s (effect (Effect.object x edit) u) (n + added (Effect.object x edit))
  base-edited x (Edit.works contents waiters buffer) h = absurd (false≢true h)
  base-edited x (Edit.runs_out contents waiters) h = absurd (false≢true h)
  base-edited x (Edit.becomes Status.Gone) h = base-object x (Edit.becomes Status.Gone) (omega arith)
  base-edited x (Edit.becomes status) h = base-object x (Edit.becomes status) (omega arith)
  base-edited x edit h = base-object x edit (omega arith)

  base-flagged : (who : ℕ) (flag : Flag) → IsBase s (effect (Effect.flags who flag) u) n
  base-flagged who Flag.aborted = base-thread who (flagged Flag.aborted (thread_at u who)) (record { life = refl; place = refl; pending = refl; child = refl; due = omega arith })
  base-flagged who (Flag.suspended on) = base-thread who (flagged (Flag.suspended on) (thread_at u who)) (record { life = refl; place = refl; pending = refl; child = refl; due = omega arith })

  pub base-woken : (woken : List (ThreadIx × Told)) → IsBase s (all_woken woken u) n
  base-woken woken =
      woken-by (λ (v : State). IsBase s v n) (λ v who told b. record {
        image = b.image;
        eased = all-then s.threads v.threads (with_thread v who (record (thread_at v who) { told = Some told })).threads b.eased (all-set v.threads who (record (thread_at v who) { told = Some told }) (record { life = refl; place = refl; pending = refl; child = refl; due = omega arith }));
        sized = b.sized;
        store = b.store;
        armed = b.armed;
      }) woken u base

base-effect : (s u : State) (n : ℕ) → IsBase s u n → (e : Effect) → is_bounded e ≡ true → IsBase s (effect e u) (n + added e)
base-effect s u n base (Effect.wakes woken) h = base-more s (all_woken woken u) n (n + 0) (omega arith) (base-woken s u n base woken)
base-effect s u n base (Effect.moves who d) h = base-thread s u (n + 0) (base-more s u n (n + 0) (omega arith) base) who (record (thread_at u who) { domain = d }) (record { life = refl; place = refl; pending = refl; child = refl; due = omega arith })
base-effect s u n base (Effect.dooms who) h = base-thread s u (n + 0) (base-more s u n (n + 0) (omega arith) base) who (record (thread_at u who) { doomed = true }) (record { life = refl; place = refl; pending = refl; child = refl; due = omega arith })
base-effect s u n base (Effect.flags who flag) h = base-more s (effect (Effect.flags who flag) u) n (n + 0) (omega arith) (base-flagged s u n base who flag)
base-effect s u n base (Effect.arms deadline) h =
    record { image = base.image; eased = base.eased; sized = base.sized; store = (let more = ahead-more u.now u.armed deadline in let store = base.store in omega (arith, store, more)); armed = (let last = length-append {A = ℕ} u.armed (deadline ∷ []) in omega (arith, last, base.armed)) }
base-effect s u n base (Effect.waiters c ws) h = absurd (false≢true h)
base-effect s u n base (Effect.passes now) h = absurd (false≢true h)
base-effect s u n base (Effect.cuts who) h = absurd (false≢true h)
base-effect s u n base (Effect.starts who thread) h = absurd (false≢true h)
base-effect s u n base (Effect.pair who x true) h = base-paired s u n base who x true 2 (omega (arith, store-pair u who x true))
base-effect s u n base (Effect.pair who x false) h = base-paired s u n base who x false 0 (omega (arith, store-pair u who x false))
base-effect s u n base (Effect.object x edit) h = base-edited s u n base x edit h
base-effect s u n base (Effect.bytes a bs) h =
    elim (nat_lt a STACK_AREA) as (λ b. IsBase s (if b then record u { memory = put_bytes u.memory (a - PARTITION_AREA) bs } else record u { stacks = put_bytes u.stacks (a - STACK_AREA) bs }) (n + 0)) [
      | true ↦ record { image = base.image; eased = base.eased; sized = base.sized; store = omega (arith, base.store); armed = omega (arith, base.armed) }
      | false ↦ record { image = base.image; eased = base.eased; sized = base.sized; store = omega (arith, base.store); armed = omega (arith, base.armed) }
    ]
base-effect s u n base e h = record { image = base.image; eased = base.eased; sized = base.sized; store = omega (arith, base.store); armed = omega (arith, base.armed) }

base-write : (s u : State) (n : ℕ) → IsBase s u n → (b : Bool) (e : Effect) → is_bounded e ≡ true → IsBase s (write (b, e) u) (n + added e)
base-write s u n base true e h = base-effect s u n base e h
base-write s u n base false e h = base-more s u n (n + added e) (omega arith) base

abbrev pub AreBounded : Effects → Type 0
AreBounded ws = list_all (λ (w : Bool × Effect). is_bounded w.1) ws ≡ true

base-all : (s u : State) (n : ℕ) → IsBase s u n → (ws : Effects) → AreBounded ws → IsBase s (wrote ws u) (n + all_added ws)
base-all s u n base [] h = base-more s u n (n + 0) (omega arith) base
base-all s u n base ((b, e) ∷ ws) h =
    let parts = and_parts (is_bounded e) (list_all (λ (w : Bool × Effect). is_bounded w.1) ws) h in
    let all = base-all s (write (b, e) u) (n + added e) (base-write s u n base b e parts.0) ws parts.1 in
    record { image = all.image; eased = all.eased; sized = all.sized; store = omega (arith, all.store); armed = omega (arith, all.armed) }

pub base-wrote : (s : State) → AreSized s.pairs → (ws : Effects) → AreBounded ws → IsBase s (wrote ws s) (all_added ws)
base-wrote s sized ws h = base-more s (wrote ws s) (0 + all_added ws) (all_added ws) (omega arith) (base-all s s 0 (base-self s sized) ws h)

-- a pair that is dropped arms nothing
pub drops-armed : (s : State) (who x : ℕ) (left : Leftover) → (wrote (drops who x left) s).armed ≡ s.armed
drops-armed s who x Leftover.NoPair = refl
drops-armed s who x Leftover.Kept = refl
drops-armed s who x Leftover.Gone = refl

-- a pair is dropped
pub base-drop : (s : State) (who x : ℕ) → AreSized s.pairs → IsBase s (wrote (drops who x (dropped s who x)) s) 0
base-drop s who x sized =
    let all = base-wrote s sized (drops who x (dropped s who x)) refl in
    record { image = all.image; eased = all.eased; sized = all.sized; store = omega (arith, store-drop s who x); armed = rw (drops-armed s who x (dropped s who x)) (omega arith) }
