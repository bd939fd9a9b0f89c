-- What is read of a list of what its processor knows for the event on it: the domain to which a thread moves, and the queue that is looked at.
use Rattle.um_refinement.proofs.Words.{◌≡◌, ℕ, Bool, true, false, is_some, if◌then◌else◌, ◌==◌, own_row, row_named, on_memory, [], ◌∷◌, ◌++◌, Option, Some, None, refl, ap, false≢true, Image, Addr, Amount, Pending, Steps, Context, Todo, Todos, fine_steps, looked, moving, behind_shown}
use Rattle.um_fine.specs.Places.{armed_for, clearing, noted_cell, noting, settling}
use Rattle.um_refinement.specs.Frames.{IsActOver, access_alone, access_settled, act_alone, act_settled}
use Rattle.um_refinement.proofs.ListTails.{Reads, is_passed, reads-through}

abbrev known : Todos → Option ℕ × Option Addr
known todo = (moving todo, looked todo)

known-passed : (q : Todo) (todo : Todos) → is_passed q ≡ true → known (q ∷ todo) ≡ known todo
known-passed (Todo.read_claim d) todo h = absurd (false≢true h)
known-passed (Todo.read_done d) todo h = absurd (false≢true h)
known-passed (Todo.size_look x) todo h = absurd (false≢true h)
known-passed (Todo.show q rest) todo h = absurd (false≢true h)
known-passed q todo h = refl

known-noting : (image : Image) (c : Context) (site : Option ℕ) (todo : Todos) → known todo ≡ (None, None) → known (noting image c site todo) ≡ (None, None)
known-noting image c None todo h = h
known-noting image c (Some site) todo h = elim (is_some c.noted) as (λ b. known (if b then todo else Todo.note site ∷ todo) ≡ (None, None)) [ true ↦ h | false ↦ h ]

known-clearing : (image : Image) (own : Bool) (a : Addr) (rest : Steps) → known (clearing image own (Pending.ClearInit a) rest) ≡ (None, None)
known-clearing image true a rest = refl
known-clearing image false a rest = refl

known-none : (image : Image) (c : Context) (q : Pending) (rest : Steps) → known (fine_steps image c q rest) ≡ (None, None)
known-none image c (Pending.Probe a (Amount.Bytes n)) rest = refl
known-none image c (Pending.Probe a (Amount.MessageOf b)) rest = refl
known-none image c (Pending.CopyIn a (Amount.Bytes n)) rest = refl
known-none image c (Pending.CopyIn a (Amount.MessageOf b)) rest = refl
known-none image c (Pending.Work a ask) rest =
    let q = Pending.Work a ask in known-noting image c (noted_cell image (q ∷ [])) (Todo.show q rest ∷ settling image c (armed_for image c q) q) refl
known-none image c (Pending.Join who timeout) rest =
    let q = Pending.Join who timeout in known-noting image c (noted_cell image (q ∷ [])) (Todo.show q rest ∷ settling image c (armed_for image c q) q) refl
known-none image c (Pending.FutexWait a value timeout) rest =
    let q = Pending.FutexWait a value timeout in known-noting image c (noted_cell image (q ∷ [])) (on_memory q rest ++ settling image c (armed_for image c q) q) refl
known-none image c (Pending.Arm ticks) rest = known-noting image c (noted_cell image rest) (Todo.owe ∷ Todo.show (Pending.Arm ticks) rest ∷ []) refl
known-none image c (Pending.ClearInit a) rest = known-clearing image (row_named image a == own_row image c.thread) a rest
known-none image c q rest = refl

known-waited : (site : ℕ) (todo : Todos) → IsActOver todo → known (todo ++ Todo.reread site ∷ []) ≡ known todo
known-waited site _ act_alone = refl
known-waited site _ act_settled = refl
known-waited site _ access_alone = refl
known-waited site _ access_settled = refl

known-reads : (image : Image) → Reads image known (None, None)
known-reads image = record { empty = refl; passed = known-passed; expanded = known-none image; begins = refl; exits = refl; waited = known-waited }

pub moving-reads : (image : Image) → Reads image moving None
moving-reads image = reads-through (λ (k : Option ℕ × Option Addr). k.0) (known-reads image)

pub looked-reads : (image : Image) → Reads image looked None
looked-reads image = reads-through (λ (k : Option ℕ × Option Addr). k.1) (known-reads image)

known-settling : (image : Image) (c : Context) (until : Option ℕ) (q : Pending) → known (settling image c until q) ≡ (None, None)
known-settling image c None q = refl
known-settling image c (Some deadline) q = refl

known-after : (image : Image) (c : Context) (q : Pending) → known (behind_shown image c q) ≡ (None, None)
known-after image c (Pending.Work a ask) = known-settling image c (armed_for image c (Pending.Work a ask)) (Pending.Work a ask)
known-after image c (Pending.Join who timeout) = known-settling image c (armed_for image c (Pending.Join who timeout)) (Pending.Join who timeout)
known-after image c (Pending.FutexWait a value timeout) = known-settling image c (armed_for image c (Pending.FutexWait a value timeout)) (Pending.FutexWait a value timeout)
known-after image c q = refl

pub known-behind : (image : Image) (c : Context) (q : Pending) → (moving (behind_shown image c q) ≡ None) × (looked (behind_shown image c q) ≡ None)
known-behind image c q =
    let k = known-after image c q in (ap (λ (x : Option ℕ × Option Addr). x.0) k, ap (λ (x : Option ℕ × Option Addr). x.1) k)
