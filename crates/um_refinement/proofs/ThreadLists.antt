-- Lists of threads of which one is written, or of which dues leave.
use Rattle.um_refinement.proofs.Words.{◌≡◌, ℕ, zero, suc, ◌+◌, ◌<◌, Bool, true, false, List, [], ◌∷◌, length, refl, ap, arith, slice_index_or, slice_set, Thread, State, nobody, thread_at, Effect, key-same, keys-wrote, false≢true, does}
use Rattle.um_machine.specs.Table as T
pub use Rattle.um_machine.proofs.AfterLemmas.{read-set}

pub at-here : (xs : List Thread) (t : ℕ) (x : Thread) → t < length xs → slice_index_or (slice_set xs t x) t nobody ≡ x
at-here [] t x h = absurd (omega arith)
at-here (y ∷ ys) zero x h = refl
at-here (y ∷ ys) (suc t) x h = at-here ys t x (omega arith)

pub set-long : (xs : List Thread) (u : ℕ) (th : Thread) → length (slice_set xs u th) ≡ length xs
set-long [] u th = refl
set-long (y ∷ ys) zero th = refl
set-long (y ∷ ys) (suc u) th = ap suc (set-long ys u th)

pub set-else : (xs : List Thread) (u t : ℕ) (th : Thread) → (u ≡ t → ⊥) → slice_index_or (slice_set xs u th) t nobody ≡ slice_index_or xs t nobody
set-else [] u t th ne = refl
set-else (y ∷ ys) zero zero th ne = absurd (ne refl)
set-else (y ∷ ys) zero (suc t) th ne = refl
set-else (y ∷ ys) (suc u) zero th ne = refl
set-else (y ∷ ys) (suc u) (suc t) th ne = set-else ys u t th (λ e. ne (ap suc e))

pub dues-long : (x i : ℕ) (holders : List Bool) (xs : List Thread) → length (T.with_dues x i holders xs) ≡ length xs
dues-long x i holders [] = refl
dues-long x i holders (y ∷ ys) = ap suc (dues-long x (i + 1) holders ys)

-- what is read of each thread beside what is due stays where a pair comes or goes
pub paired-same : {K : Type 0} (of : Thread → K) → ((me : Thread) (due : List Bool) → of (record me { due = due }) ≡ of me) → (s : State) (who x : ℕ) (there : Bool) (u : ℕ)
    → of (thread_at (T.paired s who x there) u) ≡ of (thread_at s u)
paired-same of due s who x there =
    key-same of s (T.paired s who x there)
    (keys-wrote of (record { due = true; told = false; domain = false; doomed = false; flagged = false })
    (record { due = λ h. due; told = λ h. absurd (false≢true h); domain = λ h. absurd (false≢true h); doomed = λ h. absurd (false≢true h); flagged = λ h. absurd (false≢true h) }) (does (Effect.pair who x there) ∷ []) s refl)
