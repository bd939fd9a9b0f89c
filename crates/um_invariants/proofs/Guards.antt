-- The steps that are left of an instruction name only objects that were checked before, and none of them cleans.
use Rattle.std.proofs.Common.{◌≡◌, ◌⊎◌, ℕ, ◌<◌, ◌≤◌, Bool, true, false, List, [], ◌∷◌, length, refl, Option, Some, None, slice_index_or, slice_set, slice_get, if◌then◌else◌}
use Rattle.um_base.specs.declared.image.Image.{Image}
use Rattle.um_base.specs.declared.limits.TheConstants.{STATIC_ROWS, ROWS}
use Rattle.um_base.specs.declared.names.Policy.{Policy}
use Rattle.um_base.specs.declared.image.ObjectDef.{ObjectDef}
use Rattle.um_base.specs.declared.names.Kind.{Kind}
use Rattle.um_base.specs.Places.{row_at, addr_of, own_row, thread_of_row, thread_of_addr, dynamic_kind}
use Rattle.um_machine.specs.declared.pending.Pending.{Pending}
use Rattle.um_machine.specs.declared.thread.Thread.{Thread}
use Rattle.um_machine.specs.Order.{Steps, end_steps, fatal_steps}
use Rattle.um_machine.specs.State.{no_rows}
use Rattle.um_invariants.proofs.Cores.{at_set}

-- a row at which an object can stand: a static one, or a dynamic one
abbrev pub IsRow : Image → ℕ → Type 0
IsRow image x = (x < length image.objects) ⊎ ((STATIC_ROWS ≤ x) × (x < ROWS))

-- the kind of the objects of a row
abbrev pub kind_in : Option ObjectDef → ℕ → Kind
kind_in None x = dynamic_kind x
kind_in (Some o) x = o.kind

abbrev pub row_kind : Image → ℕ → Kind
row_kind image x = kind_in (slice_get image.objects x) x

-- a thread object's row is that of its index
abbrev pub IsThreadRow : Image → ℕ → Type 0
IsThreadRow image x = (w : ℕ) × (thread_of_row image x ≡ Some w) × (own_row image w ≡ x)

-- each row has an address of its own, rows of threads and indices belong to each other, and rows of stacks have none
pub record IsSited (image : Image) : Type 0 where
  pub few : length image.objects ≤ STATIC_ROWS
  pub rows : (x : ℕ) → IsRow image x → row_at image (addr_of image x) ≡ Some x
  pub found : (a x : ℕ) → row_at image a ≡ Some x → IsRow image x × (addr_of image x ≡ a)
  pub owns : (a x : ℕ) → row_at image a ≡ Some x → (own_row image (thread_of_addr image a) < length image.objects) ⊎ (own_row image (thread_of_addr image a) ≡ x)
  pub threads : (x : ℕ) → IsRow image x → row_kind image x ≡ Kind.Thread → IsThreadRow image x
  pub stacks : (x : ℕ) → IsRow image x → row_kind image x ≡ Kind.ThreadStack → thread_of_row image x ≡ None

-- an address is that of a row that was checked
abbrev pub Names : Image → List Bool → ℕ → Type 0
Names image checked a = (x : ℕ) × (row_at image a ≡ Some x) × (slice_index_or checked x false ≡ true)

abbrev pub IsStatic : Image → List Bool → ℕ → Type 0
IsStatic image checked x = (x < length image.objects) ⊎ (IsRow image x × (slice_index_or checked x false ≡ true))

abbrev pub Guarded : Image → List Bool → Steps → Type 0
Guarded image checked [] = Unit {0}
Guarded image checked (Pending.Check a kind want refusal ∷ rest) =
    (x : ℕ) → row_at image a.0 ≡ Some x → slice_index_or (slice_set checked x true) x false ≡ true → Guarded image (slice_set checked x true) rest
Guarded image checked (Pending.Answer reply to ∷ rest) = Guarded image no_rows rest
Guarded image checked (Pending.Grant who a ∷ rest) = Names image checked a.0 × Guarded image checked rest
Guarded image checked (Pending.DropPair who a ∷ rest) = Names image checked a.0 × Guarded image checked rest
Guarded image checked (Pending.Own who ∷ rest) = IsStatic image checked (own_row image who.0) × Guarded image checked rest
Guarded image checked (Pending.Start who script stack priority mode ∷ rest) = (other : List Bool) → Guarded image other rest
Guarded image checked (Pending.Born a ∷ rest) = ⊥
Guarded image checked (Pending.CleanPair who ∷ rest) = ⊥
Guarded image checked (Pending.Recycle ∷ rest) = ⊥
Guarded image checked (p ∷ rest) = Guarded image checked rest

-- the address of an object that is to be born, and the steps behind that
abbrev pub bearing : Steps → Option ℕ
bearing (Pending.Born a ∷ rest) = Some a.0
bearing steps = None

abbrev pub behind_birth : Steps → Steps
behind_birth (Pending.Born a ∷ rest) = rest
behind_birth steps = steps

pub bears_none : (image : Image) (checked : List Bool) (steps : Steps) → Guarded image checked steps → bearing steps ≡ None
bears_none image checked [] g = refl
bears_none image checked (Pending.Born a ∷ rest) g = absurd g
bears_none image checked (p ∷ rest) g = refl

pub all_behind : (image : Image) (checked : List Bool) (steps : Steps) → Guarded image checked steps → Guarded image checked (behind_birth steps)
all_behind image checked [] g = g
all_behind image checked (Pending.Born a ∷ rest) g = absurd g
all_behind image checked (p ∷ rest) g = g

pub keeps : (checked : List Bool) (x y : ℕ) → slice_index_or checked x false ≡ true → slice_index_or (slice_set checked y true) x false ≡ true
keeps checked x y h = at_set (λ n b. b ≡ true) checked y x true false refl h

guarded_abort : (image : Image) (t : ℕ) (me : Thread) (panics : Bool) → Guarded image no_rows (if panics then Pending.Dooms 0 ∷ [] else end_steps image t me)
guarded_abort image t me true = tt
guarded_abort image t me false = tt

pub guarded_fatal : (image : Image) (t : ℕ) (me : Thread) (reason : ℕ) (policy : Policy) → Guarded image no_rows (fatal_steps image t me reason policy)
guarded_fatal image t me reason Policy.Halt = tt
guarded_fatal image t me reason Policy.Abort = guarded_abort image t me _
