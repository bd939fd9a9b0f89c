-- What those are told who wait for no object, and those whom nobody joins.
use Rattle.std.proofs.Common.{◌≡◌, ℕ, Bool, true, false, not, List, [], ◌∷◌, map, filter, refl, ap, sym}
use Rattle.std.specs.Prelude.{◌||◌, ◌==◌}
use Rattle.std.specs.List.{list_any}
use Rattle.std.proofs.lemmas.Bool.{false≢true}
use Rattle.um_base.specs.declared.ask.Told.{Told}
use Rattle.um_base.specs.declared.ask.Waiter.{Waiter}
use Rattle.um_base.specs.declared.names.Reply.{Reply}
use Rattle.um_base.specs.declared.names.ThreadIx.{ThreadIx}
use Rattle.um_machine.specs.Services.{runs_out, told}
use Rattle.um_machine.specs.Table.{replies_of}
use Rattle.um_fine.specs.Follows.{told_all}
use Rattle.um_fine.specs.Memory.{still_there}
use Rattle.um_machine.specs.Services.{still_waiting}

-- those who take nothing are told their replies
pub told-well : (ws : List Waiter) → let woken = map (λ (w : Waiter). told w (Reply.Num 0) []) ws in told_all (replies_of woken) ≡ woken
told-well [] = refl
told-well (w ∷ ws) = ap (λ (rest : List (ThreadIx × Told)). told w (Reply.Num 0) [] ∷ rest) (told-well ws)

pub told-run-out : (ws order : List Waiter) → told_all (replies_of (runs_out ws order).2) ≡ (runs_out ws order).2
told-run-out ws [] = refl
told-run-out ws (first ∷ rest) = refl

or-parts : (a b : Bool) → (a || b) ≡ false → (a ≡ false) × (b ≡ false)
or-parts true b h = absurd (false≢true (sym h))
or-parts false b h = (refl, h)

-- by a test that nobody passes
pub none_chosen : (p : Waiter → Bool) (ws : List Waiter) → list_any p ws ≡ false → filter p ws ≡ []
none_chosen p [] h = refl
none_chosen p (w ∷ ws) h = let parts = or-parts (p w) (list_any p ws) h in rw parts.0 (none_chosen p ws parts.1)

pub all_others : (p : Waiter → Bool) (ws : List Waiter) → list_any p ws ≡ false → filter (λ w. not (p w)) ws ≡ ws
all_others p [] h = refl
all_others p (w ∷ ws) h =
    let parts = or-parts (p w) (list_any p ws) h in rw parts.0 (ap (λ (rest : List Waiter). w ∷ rest) (all_others p ws parts.1))

any-replied : (t : ℕ) (woken : List (ThreadIx × Told))
    → list_any (λ (p : ThreadIx × Reply). p.0.0 == t) (replies_of woken) ≡ list_any (λ (p : ThreadIx × Told). p.0.0 == t) woken
any-replied t [] = refl
any-replied t (p ∷ rest) = ap (λ (b : Bool). (p.0.0 == t) || b) (any-replied t rest)

-- who is woken is the same by the replies alone
pub nobody_less : (ws : List Waiter) → still_there [] ws ≡ ws
nobody_less [] = refl
nobody_less (w ∷ ws) = ap (λ (rest : List Waiter). w ∷ rest) (nobody_less ws)

pub same_others : (woken : List (ThreadIx × Told)) (ws : List Waiter) → still_there (replies_of woken) ws ≡ still_waiting woken ws
same_others woken ws = λ i. filter (λ (w : Waiter). not (any-replied w.thread.0 woken i)) ws
