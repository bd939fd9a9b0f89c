-- Those who wait for something among all, one after another, and those who are woken.
use Rattle.std.proofs.Common.{◌≡◌, ◌∙◌, ℕ, zero, suc, ◌+◌, ◌<◌, Bool, true, false, cond, List, [], ◌∷◌, ◌++◌, length, filter, take, get_or, refl, sym, ap, arith, append_assoc, append-nil}
use Rattle.std.specs.Prelude.{◌==◌}
use Rattle.std.proofs.lemmas.Bool.Decides.{nat_tests}
use Rattle.std.proofs.lemmas.List.{take_more}
use Rattle.std.proofs.lemmas.List.Elements.{filter-append}
use Rattle.um_base.specs.declared.ask.Told.{Told}
use Rattle.um_base.specs.declared.ask.Waiter.{Waiter}
use Rattle.um_base.specs.declared.names.Reply.TheVariants as Reply
use Rattle.um_base.specs.declared.names.ThreadIx.{ThreadIx}
use Rattle.um_machine.specs.Services.{told, without}
use Rattle.um_machine.specs.Waiting.{IsApart, AreWaiters}
use Rattle.um_machine.proofs.WaiterLemmas.{IsApart-filter, apart-same}
use Rattle.um_service.specs.Awaits.{all_well}

apart-at : (t : ℕ) (ws : List Waiter) (i : ℕ) (d : Waiter) → IsApart t ws → i < length ws → ((get_or ws i d).thread.0 == t) ≡ false
apart-at t [] i d h inside = absurd (omega arith)
apart-at t (w ∷ ws) zero d h inside = h.0
apart-at t (w ∷ ws) (suc i) d h inside = let within : i < length ws = omega arith in apart-at t ws i d h.1 within

-- the waiter at a place is none of those before it
apart-before : (n : ℕ) (ws : List Waiter) (i : ℕ) (d : Waiter) → AreWaiters n ws → i < length ws → IsApart (get_or ws i d).thread.0 (take i ws)
apart-before n [] i d h inside = absurd (omega arith)
apart-before n (w ∷ ws) zero d h inside = tt
apart-before n (w ∷ ws) (suc i) d h inside =
    let within : i < length ws = omega arith in
    let other : ((get_or ws i d).thread.0 == w.thread.0) ≡ false = apart-at w.thread.0 ws i d h.1 within in
    (grind (arith, nat_tests), apart-before n ws i d h.2 within)

-- the waiter at a place is a thread
pub below-at : (n : ℕ) (ws : List Waiter) (i : ℕ) (d : Waiter) → AreWaiters n ws → i < length ws → (get_or ws i d).thread.0 < n
below-at n [] i d h inside = absurd (omega arith)
below-at n (w ∷ ws) zero d h inside = h.0
below-at n (w ∷ ws) (suc i) d h inside = let within : i < length ws = omega arith in below-at n ws i d h.2 within

-- one more of those is found, or one that is none of them
pub one-found : (n : ℕ) (p : Waiter → Bool) (ws : List Waiter) (i : ℕ) (d : Waiter) (found : List Waiter) → AreWaiters n ws → i < length ws → d ≡ get_or ws i d → p d ≡ true
    → found ≡ filter p (take i ws) → without d.thread.0 found ++ d ∷ [] ≡ filter p (take (i + 1) ws)
one-found n p ws i d found h inside at wanted so_far =
    let apart : IsApart d.thread.0 (take i ws) = rw (← at) at (apart-before n ws i d h inside) in
    let same : without d.thread.0 (filter p (take i ws)) ≡ filter p (take i ws) = apart-same d.thread.0 (filter p (take i ws)) (IsApart-filter p d.thread.0 (take i ws) apart) in
    let split : take (i + 1) ws ≡ take i ws ++ d ∷ [] = rw (take_more ws i d inside, ← at) refl in
    rw (so_far, same, split, filter-append p (take i ws) (d ∷ []), wanted) refl

pub none-found : (p : Waiter → Bool) (ws : List Waiter) (i : ℕ) (d : Waiter) → i < length ws → d ≡ get_or ws i d → p d ≡ false → filter p (take i ws) ≡ filter p (take (i + 1) ws)
none-found p ws i d inside at other =
    let split : take (i + 1) ws ≡ take i ws ++ d ∷ [] = rw (take_more ws i d inside, ← at) refl in
    rw (split, filter-append p (take i ws) (d ∷ []), other) (sym (append-nil (filter p (take i ws))))

-- one more is woken, or all are
pub one-well : (woken whole : List (ThreadIx × Told)) (before after : List Waiter) (w : Waiter) → before ≡ w ∷ after → woken ++ all_well before ≡ whole
    → (woken ++ told w (Reply.Num 0) [] ∷ []) ++ all_well after ≡ whole
one-well woken whole before after w split h = append_assoc woken (told w (Reply.Num 0) [] ∷ []) (all_well after) ∙ (rw split at h)

pub all-well : (woken whole : List (ThreadIx × Told)) (before : List Waiter) → before ≡ [] → woken ++ all_well before ≡ whole → woken ≡ whole
all-well woken whole before none h = sym (append-nil woken) ∙ (rw none at h)
