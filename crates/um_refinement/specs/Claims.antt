-- Claims of rows: what each one is held for.
use Rattle.std.specs.Prelude.{◌≡◌, ℕ, ◌+◌, ◌<◌, Bool, false, ◌==◌, ◌&&◌, [], Option, Some, None}
use Rattle.um_base.specs.declared.image.Image.{Image}
use Rattle.um_base.specs.declared.names.ThreadIx.{ThreadIx}
use Rattle.um_base.specs.declared.limits.TheConstants.{THREADS}
use Rattle.um_base.specs.Places.{own_row}
use Rattle.um_machine.specs.State.{State, thread_at}
use Rattle.um_words.specs.declared.row_word.Stage.{Stage}
use Rattle.um_fine.specs.Context.{Context}
use Rattle.um_fine.specs.Scheduler.{parked_at}
use Rattle.um_fine.specs.Processor.{Processor}
use Rattle.um_refinement.specs.Fine.{Fine, one_if, over_processors, row, scheduler, total}
use Rattle.um_refinement.specs.Lists.{counted, is_end_call, runs}
use Rattle.um_refinement.specs.Threads.{occurs}

-- the claims of a row that a processor has still to end: those of its thread's call, and those on its list
abbrev pub call_claims : ℕ → Processor → ℕ
call_claims x p = occurs x p.context.claims + counted (is_end_call x) p.todo

abbrev pub context_claims : ℕ → Option Context → ℕ
context_claims x None = 0
context_claims x (Some c) = occurs x c.claims

-- whether a thread creates the one whose object has this row: between `own` and `start` the life claim is the creator's
abbrev pub creates : Image → ℕ → Option ThreadIx → Bool
creates image x None = false
creates image x (Some who) = own_row image who.0 == x

-- all claims of a row: of calls of threads that run and that are parked, of lives, and of lives that are about to begin
abbrev pub claims : Fine → State → ℕ → ℕ
claims f m x =
    over_processors f (call_claims x)
    + total (λ t. context_claims x (parked_at (scheduler f) t)) THREADS
    + total (λ t. one_if ((thread_at m t).keeps_own && (own_row f.image t == x))) THREADS
    + total (λ t. one_if (creates f.image x (thread_at m t).child)) THREADS

-- The word of a row counts all claims. A dying object has at least one, and a row without an object has none.
pub record ClaimsAre (f : Fine) (m : State) (x : ℕ) : Type 0 where
  pub claimed : (row f x).claims ≡ claims f m x
  pub dying : (row f x).stage ≡ Stage.Dying → 0 < (row f x).claims
  pub free : (row f x).stage ≡ Stage.Free → (row f x).claims ≡ 0

-- A processor without a thread holds nothing.
pub record IdleIs (f : Fine) (k : ℕ) : Type 0 where
  pub idle : runs (f.processors k) ≡ false → (f.processors k).context.claims ≡ []
