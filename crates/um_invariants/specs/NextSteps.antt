-- The step that a thread makes next, and the row that this takes.
use Rattle.std.specs.Prelude.{◌≡◌, ◌⊎◌, ℕ, ◌<◌, Bool, true, false, ◌&&◌, not, IsTrue, if◌then◌else◌, drop, Option, Some, None, slice_get}
use Rattle.um_base.specs.declared.act.Act.{Act}
use Rattle.um_base.specs.declared.instr.Instr.{Instr}
use Rattle.um_machine.specs.declared.pending.Pending.{Pending}
use Rattle.um_machine.specs.Joins.{is_ending}
use Rattle.um_machine.specs.Run.{ChoosesDue, MayChoose, may_go, must_stop, none_due}
use Rattle.um_machine.specs.State.{State, instruction_at, is_living, thread_at}
use Rattle.um_machine.specs.Table.{act_of, after}

-- what a thread at rest does next, by the instruction at its place: it begins it, or exits where there is none. One that is aborted ends
abbrev pub line_step : Option Instr → Pending
line_step (Some instr) = Pending.Begin
line_step None = Pending.Exit

abbrev pub rest_step : State → ℕ → Option Pending
rest_step s t =
    let me = thread_at s t in
    if not (is_living me.life) then None
    else if may_go me then Some (line_step (instruction_at s.image me.place))
    else if must_stop me then Some Pending.Killed
    else None

-- the next step of a thread: of its instruction, or at rest
abbrev pub first_or : Option Pending → Option Pending → Option Pending
first_or None rest = rest
first_or (Some p) rest = Some p

abbrev pub first_step : State → ℕ → Option Pending
first_step s t = first_or (slice_get (thread_at s t).pending 0) (rest_step s t)

-- the step after an inheritance or the drops of an end, where nothing is due
abbrev pub is_skipped : Option Pending → Bool
is_skipped (Some (Pending.Inherit who)) = true
is_skipped (Some (Pending.Drops from)) = true
is_skipped _ = false

abbrev pub second_step : State → ℕ → Option Pending
second_step s t =
    let me = thread_at s t in if is_skipped (slice_get me.pending 0) && none_due me then slice_get me.pending 1 else None

-- a row that a step may take: one that it may choose, and for an inheritance one that is due
abbrev pub MayTake : State → ℕ → Pending → ℕ → Type 0
MayTake s t step x = MayChoose s t x step × ChoosesDue s t step x

abbrev pub TakesNone : State → ℕ → Pending → Type 0
TakesNone s t step = (x : ℕ) → MayTake s t step x → ⊥

-- the least row that a step may take
abbrev pub IsLeast : State → ℕ → Pending → ℕ → Type 0
IsLeast s t step x = MayTake s t step x × ((y : ℕ) → y < x → MayTake s t step y → ⊥)

-- a thread's next step can take no row, nor can the one after it
abbrev pub NoFirst : State → ℕ → Type 0
NoFirst s t = (step : Pending) → first_step s t ≡ Some step → TakesNone s t step

abbrev pub NoSecond : State → ℕ → Type 0
NoSecond s t = (step : Pending) → second_step s t ≡ Some step → TakesNone s t step

-- a thread makes its next step, or, if that can take no row, the one after it; if neither can, one that ends tells those who wait for it.
-- `taken` of its pending steps are over then
abbrev pub IsNextStep : State → ℕ → Pending → ℕ → Type 0
IsNextStep s t step taken =
    ((taken ≡ 1) × (first_step s t ≡ Some step)) ⊎ ((taken ≡ 2) × (second_step s t ≡ Some step) × NoFirst s t)
    ⊎ ((taken ≡ 0) × (step ≡ Pending.Left) × IsTrue (is_ending (thread_at s t)) × NoFirst s t × NoSecond s t)

-- What a thread says and leaves by the step that it makes next, with the least row that this may take.
pub record IsNext (s : State) (t : ℕ) (act : Act) (s2 : State) : Type 0 where
  pub step : Pending
  pub row : ℕ
  pub taken : ℕ
  pub next : IsNextStep s t step taken
  pub least : IsLeast s t step row
  pub says : act ≡ act_of s t row step
  pub leaves : s2 ≡ after s t row step (drop taken (thread_at s t).pending)
