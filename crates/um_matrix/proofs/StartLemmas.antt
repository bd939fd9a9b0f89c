-- A new thread is started, and its creator goes on.
use Rattle.std.proofs.Common.{◌≡◌, ◌≢◌, ◌⊎◌, inl, inr, ℕ, zero, suc, ◌<◌, true, false, ◌==◌, List, [], ◌∷◌, length, drop, refl, sym, subst, ap, ◌∙◌, slice_set, if◌then◌else◌}
use Rattle.std.proofs.lemmas.List.{get_or-set_same, get_or-set_other}
use Rattle.std.proofs.lemmas.Bool.Decides.{eqb_tells}
use Rattle.um_machine.specs.declared.thread.Thread.{Thread}
use Rattle.um_machine.specs.State.{State, nobody, thread_at, with_thread}
use Rattle.um_machine.specs.Order.{Steps}
use Rattle.um_machine.specs.Goes.{Next, went}

-- the last write to a place counts
set-twice : (ts : List Thread) (t : ℕ) (a b : Thread) → slice_set (slice_set ts t a) t b ≡ slice_set ts t b
set-twice [] t a b = refl
set-twice (x ∷ ts) zero a b = refl
set-twice (x ∷ ts) (suc t) a b = ap (λ (rest : List Thread). x ∷ rest) (set-twice ts t a b)

-- a thread goes on that has just started another one
abbrev pub goes_on_started : State → ℕ → Steps → State
goes_on_started s t rest = went rest s t Next.starts

itself : (s : State) (t : ℕ) (born : Thread) (rest : Steps) → t < length s.threads
    → goes_on_started (with_thread s t (record born { pending = (thread_at s t).pending })) t rest ≡ goes_on_started (with_thread s t born) t rest
itself s t born rest h =
    rw (get_or-set_same s.threads t (record born { pending = (thread_at s t).pending }) nobody h, get_or-set_same s.threads t born nobody h)
    (ap (λ (ts : List Thread). record s { threads = ts }) (set-twice s.threads t _ _ ∙ sym (set-twice s.threads t _ _)))

-- what stands under the index of a new thread: one that starts itself keeps the steps that are left
abbrev pub started_as : State → ℕ → ℕ → Thread → Thread
started_as s t who born = if who == t then record born { pending = (thread_at s t).pending } else born

started-at : (s : State) (t who : ℕ) (born : Thread) (taken : ℕ) → t < length s.threads → ((who == t) ≡ true) × (who ≡ t) ⊎ ((who == t) ≡ false) × (who ≢ t)
    → goes_on_started (with_thread s who (started_as s t who born)) t (drop taken (thread_at (with_thread s who (started_as s t who born)) t).pending)
    ≡ goes_on_started (with_thread s who born) t (drop taken (thread_at s t).pending)
started-at s t who born taken h (inl same) =
    let kept : Thread = record born { pending = (thread_at s t).pending } in
    let left : drop taken (thread_at (with_thread s t kept) t).pending ≡ drop taken (thread_at s t).pending =
    ap (λ (me : Thread). drop taken me.pending) (get_or-set_same s.threads t kept nobody h) in
    let here : goes_on_started (with_thread s t kept) t (drop taken (thread_at (with_thread s t kept) t).pending) ≡ goes_on_started (with_thread s t born) t (drop taken (thread_at s t).pending) =
    ap (λ (rest : Steps). goes_on_started (with_thread s t kept) t rest) left ∙ itself s t born (drop taken (thread_at s t).pending) h in
    rw same.0
    (subst (λ (u : ℕ). goes_on_started (with_thread s u kept) t (drop taken (thread_at (with_thread s u kept) t).pending) ≡ goes_on_started (with_thread s u born) t (drop taken (thread_at s t).pending)) (sym same.1) here)
started-at s t who born taken h (inr other) =
    let differs : t ≢ who = λ e. other.1 (sym e) in
    rw other.0
    (ap (λ (me : Thread). goes_on_started (with_thread s who born) t (drop taken me.pending)) (get_or-set_other s.threads who t born nobody differs))

pub started : (s : State) (t who : ℕ) (born : Thread) (taken : ℕ) → t < length s.threads
    → goes_on_started (with_thread s who (started_as s t who born)) t (drop taken (thread_at (with_thread s who (started_as s t who born)) t).pending)
    ≡ goes_on_started (with_thread s who born) t (drop taken (thread_at s t).pending)
started s t who born taken h = started-at s t who born taken h (eqb_tells who t)
