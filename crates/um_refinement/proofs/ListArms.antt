-- Whether a deadline is armed next on a processor's list, after a step of it: as it is on the list behind that step.
use Rattle.um_refinement.proofs.Words.{◌≡◌, ℕ, Bool, true, false, ◌∷◌, ◌++◌, [], Option, Some, None, refl, false≢true, is_some, if◌then◌else◌, ◌==◌, own_row, row_named, Addr, Amount, Image, Pending, Steps, Context, Todo, Todos, fine_steps, on_memory, p_next, Processor, FineStep, Behind, behind_shown}
use Rattle.um_fine.specs.Places.{armed_for, clearing, noted_cell, noting, settling}
use Rattle.um_refinement.specs.Frames.{IsActOver, access_alone, access_settled, act_alone, act_settled}
use Rattle.um_refinement.specs.Timing.{arms}
use Rattle.um_refinement.proofs.ListGrowth.{ReadsLast}
use Rattle.um_refinement.proofs.ListTails.{Reads, adds-pass, is_passed, takes-read, whole-read}

passed : (q : Todo) (todo : Todos) → is_passed q ≡ true → arms (q ∷ todo) ≡ arms todo
passed (Todo.show q rest) todo h = absurd (false≢true h)
passed Todo.owe todo h = absurd (false≢true h)
passed q todo h = refl

module _ (image : Image) where
  noting-none : (c : Context) (site : Option ℕ) (todo : Todos) → arms todo ≡ false → arms (noting image c site todo) ≡ false
  noting-none c None todo h = h
  noting-none c (Some site) todo h = elim (is_some c.noted) as (λ b. arms (if b then todo else Todo.note site ∷ todo) ≡ false) [ true ↦ h | false ↦ h ]

  clearing-none : (own : Bool) (a : Addr) (rest : Steps) → arms (clearing image own (Pending.ClearInit a) rest) ≡ false
  clearing-none true a rest = refl
  clearing-none false a rest = refl

  expanded : (c : Context) (q : Pending) (rest : Steps) → arms (fine_steps image c q rest) ≡ false
  expanded c (Pending.Probe a (Amount.Bytes n)) rest = refl
  expanded c (Pending.Probe a (Amount.MessageOf b)) rest = refl
  expanded c (Pending.CopyIn a (Amount.Bytes n)) rest = refl
  expanded c (Pending.CopyIn a (Amount.MessageOf b)) rest = refl
  expanded c (Pending.Work a ask) rest =
      let q = Pending.Work a ask in noting-none c (noted_cell image (q ∷ [])) (Todo.show q rest ∷ settling image c (armed_for image c q) q) refl
  expanded c (Pending.Join who timeout) rest =
      let q = Pending.Join who timeout in noting-none c (noted_cell image (q ∷ [])) (Todo.show q rest ∷ settling image c (armed_for image c q) q) refl
  expanded c (Pending.FutexWait a value timeout) rest =
      let q = Pending.FutexWait a value timeout in noting-none c (noted_cell image (q ∷ [])) (on_memory q rest ++ settling image c (armed_for image c q) q) refl
  expanded c (Pending.Arm ticks) rest = noting-none c (noted_cell image rest) (Todo.owe ∷ Todo.show (Pending.Arm ticks) rest ∷ []) refl
  expanded c (Pending.ClearInit a) rest = clearing-none (row_named image a == own_row image c.thread) a rest
  expanded c q rest = refl

  waited : (site : ℕ) (todo : Todos) → IsActOver todo → arms (todo ++ Todo.reread site ∷ []) ≡ arms todo
  waited site _ act_alone = refl
  waited site _ act_settled = refl
  waited site _ access_alone = refl
  waited site _ access_settled = refl

  arms-reads : Reads image arms false
  arms-reads = record { empty = refl; passed = passed; expanded = expanded; begins = refl; exits = refl; waited = waited }

  pub next-arms : (p : Processor) (e : FineStep) (q : Todo) (todo : Todos) → p.todo ≡ q ∷ todo → Behind image q todo → ReadsLast e q todo
      → arms (p_next image p e).todo ≡ arms todo
  next-arms p e q todo at h last = whole-read image arms false arms-reads (λ z. refl) (λ d z. refl) p e q todo at (adds-pass image arms false arms-reads (λ c z. refl) q) h last

  pub takes-arms : (p : Processor) (e : FineStep) → p.todo ≡ [] → arms (p_next image p e).todo ≡ false
  takes-arms p e at = takes-read image arms false arms-reads p e at

  settling-none : (c : Context) (until : Option ℕ) (q : Pending) → arms (settling image c until q) ≡ false
  settling-none c None q = refl
  settling-none c (Some deadline) q = refl

  -- none is armed behind an event
  pub behind-arms : (c : Context) (q : Pending) → arms (behind_shown image c q) ≡ false
  behind-arms c (Pending.Work a ask) = settling-none c (armed_for image c (Pending.Work a ask)) (Pending.Work a ask)
  behind-arms c (Pending.Join who timeout) = settling-none c (armed_for image c (Pending.Join who timeout)) (Pending.Join who timeout)
  behind-arms c (Pending.FutexWait a value timeout) = settling-none c (armed_for image c (Pending.FutexWait a value timeout)) (Pending.FutexWait a value timeout)
  behind-arms c q = refl
