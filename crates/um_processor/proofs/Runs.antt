-- A list that was filled up has a step, and its processor a thread.
use Rattle.std.proofs.Common.{◌≡◌, ℕ, Bool, true, false, [], ◌∷◌, refl, ap, ◌∙◌}
use Rattle.std.specs.Prelude.{◌==◌, nat_lt, if◌then◌else◌, is_some, Option, Some, None}
use Rattle.um_fine.specs.Addresses.{row_named}
use Rattle.um_base.specs.declared.image.Image.{Image}
use Rattle.um_base.specs.declared.limits.TheConstants.{ROWS}
use Rattle.um_base.specs.Places.{own_row}
use Rattle.um_machine.specs.declared.pending.Amount.{Amount}
use Rattle.um_machine.specs.declared.pending.Pending.{Pending}
use Rattle.um_machine.specs.Order.{Steps}
use Rattle.um_fine.specs.Context.{Context}
use Rattle.um_fine.specs.Follows.{filled_up}
use Rattle.um_fine.specs.Places.{Todo, Todos, but, clearing, drops, end_of_turn, fine_steps, next_steps, noted_cell, noting}
use Rattle.um_fine.specs.Processor.{Processor}
use Rattle.um_processor.specs.declared.phase.Phase.{Phase}
use Rattle.um_processor.specs.declared.running.Running.{Running}
use Rattle.um_processor.specs.Events.{behind_event, left_behind, todo_after}
use Rattle.um_processor.specs.Phases.{is_idle}
use Rattle.um_processor.specs.Processors.{errands_of, processor_of, ready_of, todo_behind, visiting}
use Rattle.um_processor.proofs.Phased.{dropped}

-- whether a step is left
abbrev is_full : Todos → Bool
is_full [] = false
is_full (q ∷ todo) = true

full-if : (b : Bool) (q : Todo) (todo : Todos) → is_full todo ≡ true → is_full (if b then q ∷ todo else todo) ≡ true
full-if true q todo h = refl
full-if false q todo h = h

full-end : (image : Image) (ended : Bool) → is_full (end_of_turn image ended) ≡ true
full-end image true = refl
full-end image false = refl

module _ (image : Image) (c : Context) where
  full-noting : (cell : Option ℕ) (q : Todo) (todo : Todos) → is_full (noting image c cell (q ∷ todo)) ≡ true
  full-noting None q todo = refl
  full-noting (Some site) q todo = by (is_some c.noted)
    where
      by : (b : Bool) → is_full (if b then q ∷ todo else Todo.note site ∷ q ∷ todo) ≡ true
      by true = refl
      by false = refl

  full-steps : (p : Pending) (rest : Steps) → is_full (fine_steps image c p rest) ≡ true
  full-steps (Pending.Probe a (Amount.Bytes n)) rest = refl
  full-steps (Pending.Probe a (Amount.MessageOf b)) rest = refl
  full-steps (Pending.CopyIn a (Amount.Bytes n)) rest = refl
  full-steps (Pending.CopyIn a (Amount.MessageOf b)) rest = refl
  full-steps (Pending.Work a ask) rest = full-noting (noted_cell image (Pending.Work a ask ∷ [])) _ _
  full-steps (Pending.Join who timeout) rest = full-noting (noted_cell image (Pending.Join who timeout ∷ [])) _ _
  full-steps (Pending.FutexWait a value timeout) rest = full-noting (noted_cell image (Pending.FutexWait a value timeout ∷ [])) _ _
  full-steps (Pending.Arm ticks) rest = full-noting (noted_cell image rest) _ _
  full-steps (Pending.ClearInit a) rest = by (row_named image a == own_row image c.thread)
    where
      by : (b : Bool) → is_full (clearing image b (Pending.ClearInit a) rest) ≡ true
      by true = refl
      by false = refl
  full-steps p rest = refl

  full-next : (steps : Steps) → is_full (next_steps image c steps) ≡ true
  full-next [] = full-end image c.ended
  full-next (Pending.Inherit who ∷ []) = refl
  full-next (Pending.Inherit who ∷ p ∷ rest) =
      full-if (nat_lt (but (own_row image c.thread) 0) ROWS) (Todo.pass who.0 (but (own_row image c.thread) 0)) (fine_steps image c p rest) (full-steps p rest)
  full-next (Pending.Drops from ∷ []) = refl
  full-next (Pending.Drops from ∷ p ∷ rest) = full-if (nat_lt from ROWS) (Todo.drop from) (fine_steps image c p rest) (full-steps p rest)
  full-next (p ∷ rest) = full-steps p rest

  full-filled : (todo : Todos) → is_full (filled_up image c todo) ≡ true
  full-filled [] = full-next c.pending
  full-filled (q ∷ todo) = refl

-- where a step is left, there is a thread
has-thread : (phase : Phase) (r : Running) → is_full (errands_of phase r) ≡ true → is_idle phase ≡ false
has-thread Phase.Idle r h = absurd (cc)
has-thread phase r h = refl

runs-as : (z : Running) (p : Processor) → processor_of z ≡ p → is_full p.todo ≡ true → is_idle z.phase ≡ false
runs-as z p e h = has-thread z.phase z (ap (λ (q : Processor). is_full q.todo) e ∙ h)

pub runs-next : (image : Image) (c : Context) (z : Running) → (processor_of z).todo ≡ next_steps image c c.pending → is_idle z.phase ≡ false
runs-next image c z e = has-thread z.phase z (ap is_full e ∙ full-next image c c.pending)

pub runs-behind : (image : Image) (phase : Phase) (c : Context) (r z : Running) → processor_of z ≡ behind_event image phase c r → is_idle z.phase ≡ false
runs-behind image phase c r z e = runs-as z (behind_event image phase c r) e (full-filled image c (todo_after phase [] (ready_of r)))

-- the same of what is left behind an event
pub runs-left : (image : Image) (todo : Todos) (c : Context) (t : ℕ) (r z : Running) → processor_of z ≡ left_behind image todo c t r → is_idle z.phase ≡ false
runs-left image todo c t r z e = runs-as z (left_behind image todo c t r) e (full-filled image c todo)

pub runs-visiting : (image : Image) (row : ℕ) (r z : Running) → z ≡ visiting row Phase.Drop r → is_idle z.phase ≡ false
runs-visiting image row r z e =
    runs-as z _ (ap processor_of e ∙ dropped image r row) (full-filled image r.context.value (drops row (todo_behind r)))
