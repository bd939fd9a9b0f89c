-- Who claims a thread object: the thread that it is of, or a thread that creates that one.
use Rattle.std.proofs.Common.{◌≡◌, ◌⊎◌, ℕ, Bool, true, false, ◌==◌, List, [], ◌∷◌, Some, None, slice_index_or, slice_set}
use Rattle.um_base.specs.declared.image.Image.{Image}
use Rattle.um_base.specs.declared.names.Addr.{Addr}
use Rattle.um_base.specs.Places.{row_at, own_row, thread_of_row, thread_of_addr}
use Rattle.um_machine.specs.declared.pending.Pending.{Pending}
use Rattle.um_machine.specs.Objects.{has_kind}
use Rattle.um_machine.specs.Order.{Steps}
use Rattle.um_invariants.proofs.Cores.{Core, call_at}
use Rattle.um_invariants.proofs.Guards.{IsRow, IsStatic, Guarded, row_kind}

-- a thread index with a row of its own, and a row that is no thread's
abbrev pub IsReal : Image → ℕ → Type 0
IsReal image w = IsRow image (own_row image w) × (thread_of_row image (own_row image w) ≡ Some w)

abbrev pub IsStackRow : Image → ℕ → Type 0
IsStackRow image y = IsRow image y × (thread_of_row image y ≡ None)

-- whether a clearing takes a creation back
abbrev pub undoes : Image → ℕ → Addr → Steps → Bool
undoes image w a (Pending.Fatal reason cause ∷ rest) = thread_of_addr image a.0 == w
undoes image w a rest = false

-- whether steps claim a thread's object: it is marked, and they start the thread, or clear the mark again
abbrev pub claims : Image → ℕ → Steps → Bool
claims image w [] = false
claims image w (Pending.Start who script stack priority mode ∷ rest) = who.0 == w
claims image w (Pending.SetInit a strict None ∷ rest) = false
claims image w (Pending.ClearInit a ∷ rest) = undoes image w a rest
claims image w (Pending.Answer reply to ∷ rest) = false
claims image w (Pending.Fatal reason cause ∷ rest) = false
claims image w (p ∷ rest) = claims image w rest

-- a call that is over, with nothing checked
abbrev pub IsBare : Bool → List Bool → Type 0
IsBare living checked = (living ≡ false) × ((x : ℕ) → slice_index_or checked x false ≡ false)

-- a clearing takes a creation back, or it is of the stack, or of the own object, at the end of a thread
abbrev pub IsClearing : Image → ℕ → Bool → List Bool → Addr → Steps → Type 0
IsClearing image t living checked a [] = IsBare living checked × (row_at image a.0 ≡ Some (own_row image t))
IsClearing image t living checked a (Pending.Fatal reason cause ∷ rest) = row_at image a.0 ≡ Some (own_row image (thread_of_addr image a.0))
IsClearing image t living checked a (Pending.ClearInit b ∷ []) =
    IsBare living checked × ((y : ℕ) × (row_at image a.0 ≡ Some y) × (thread_of_row image y ≡ None)) × (row_at image b.0 ≡ Some (own_row image t))
IsClearing image t living checked a rest = ⊥

-- a mark after which steps claim a thread's object is strict, and on that object, which is checked
abbrev pub IsClaim : Image → List Bool → Addr → Bool → ℕ → Type 0
IsClaim image checked a strict w = (strict ≡ true) × IsReal image w × (row_at image a.0 ≡ Some (own_row image w)) × (slice_index_or checked (own_row image w) false ≡ true)

-- a pair is dropped of the thread itself, or of one whose object is a static one, or is checked
abbrev pub IsDropper : Image → ℕ → List Bool → ℕ → Type 0
IsDropper image t checked w = (w ≡ t) ⊎ IsStatic image checked (own_row image w)

abbrev pub Shaped : Image → ℕ → Bool → List Bool → Steps → Type 0
Shaped image t living checked [] = Unit {0}
Shaped image t living checked (Pending.Check a kind want refusal ∷ rest) =
    (x : ℕ) → row_at image a.0 ≡ Some x → has_kind kind (Some (row_kind image x)) ≡ true → slice_index_or (slice_set checked x true) x false ≡ true
    → Shaped image t living (slice_set checked x true) rest
Shaped image t living checked (Pending.Answer reply to ∷ rest) = rest ≡ []
Shaped image t living checked (Pending.Fatal reason cause ∷ rest) = Unit {0}
Shaped image t living checked (Pending.Start who script stack priority mode ∷ rest) =
    IsStackRow image stack.0 × ((w : ℕ) → claims image w rest ≡ false) × ((other : List Bool) → Shaped image t living other rest)
Shaped image t living checked (Pending.SetInit a strict None ∷ rest) = ((w : ℕ) → claims image w rest ≡ true → IsClaim image checked a strict w) × Shaped image t living checked rest
Shaped image t living checked (Pending.SetInit b strict (Some a) ∷ rest) =
    (row_at image a.0 ≡ Some (own_row image (thread_of_addr image a.0))) × (claims image (thread_of_addr image a.0) rest ≡ true) × Shaped image t living checked rest
Shaped image t living checked (Pending.DropPair who a ∷ rest) = IsDropper image t checked who.0 × Shaped image t living checked rest
Shaped image t living checked (Pending.ClearInit a ∷ rest) = IsClearing image t living checked a rest
Shaped image t living checked (p ∷ rest) = Shaped image t living checked rest

-- steps with which a thread may go on: they claim no more than those that it had
abbrev pub Follows : Core → ℕ → Steps → Type 0
Follows c t steps =
    Shaped c.image t (call_at c t).living (call_at c t).checked steps × ((w : ℕ) → claims c.image w steps ≡ true → claims c.image w (call_at c t).pending ≡ true) × ((call_at c t).keeps ≡ true)

abbrev pub Fits : Core → ℕ → Steps → Type 0
Fits c t steps = Guarded c.image (call_at c t).checked steps × Follows c t steps
