-- The state after a step is what it writes, and how its thread goes on. What is written leaves all else as it was.
use Rattle.std.proofs.Common.{◌≡◌, ℕ, zero, suc, true, false, List, [], ◌∷◌, refl}
use Rattle.std.specs.Prelude.{if◌then◌else◌, ◌-◌, nat_lt, slice_index_or, slice_set}
use Rattle.um_base.specs.declared.limits.TheConstants.{PARTITION_AREA, STACK_AREA}
use Rattle.um_machine.specs.declared.pending.Pending.{Pending}
use Rattle.um_machine.specs.Goes.{went}
use Rattle.um_machine.specs.Memory.{put_bytes, with_bytes}
use Rattle.um_machine.specs.Order.{Steps}
use Rattle.um_machine.specs.State.{State, thread_at}
use Rattle.um_machine.specs.Table.{act_of, after, came_with, continues, effects}
use Rattle.um_machine.specs.Writes.{wrote}

-- what is written reads as what stood there leaves all that is read
pub read-set : {A K : Type 0} (read : A → K) (d : A) (xs : List A) (u t : ℕ) (x : A) → read x ≡ read (slice_index_or xs u d) → read (slice_index_or (slice_set xs u x) t d) ≡ read (slice_index_or xs t d)
read-set read d [] u t x e = refl
read-set read d (y ∷ ys) zero zero x e = e
read-set read d (y ∷ ys) zero (suc t) x e = refl
read-set read d (y ∷ ys) (suc u) zero x e = refl
read-set read d (y ∷ ys) (suc u) (suc t) x e = read-set read d ys u t x e

-- bytes leave what is read of anything else
pub bytes-leave : {A : Type 0} (f : State → A) → ((s : State) (bs : List ℕ) → f (record s { memory = bs }) ≡ f s) → ((s : State) (bs : List ℕ) → f (record s { stacks = bs }) ≡ f s)
    → (s : State) (a : ℕ) (bs : List ℕ) → f (with_bytes s a bs) ≡ f s
bytes-leave f memory stacks s a bs =
    elim (nat_lt a STACK_AREA) as (λ b. f (if b then record s { memory = put_bytes s.memory (a - PARTITION_AREA) bs } else record s { stacks = put_bytes s.stacks (a - STACK_AREA) bs }) ≡ f s) [
      | true ↦ memory s _
      | false ↦ stacks s _
    ]

pub after-is : (s : State) (t x : ℕ) (q : Pending) (left : Steps) → after s t x q left
    ≡ went left (wrote (effects s t x q (act_of s t x q)) s) t (continues s.image t (thread_at s t) x q (act_of s t x q) (came_with s t q))
after-is s t x q left = refl
