-- Facts about the steps that are left, which are kept with the last one first.
use Rattle.std.proofs.Common.{◌≡◌, ℕ, ◌+◌, ◌-◌, ◌<◌, arith, drop, List, [], ◌∷◌, length, take, reverse, get_or, ap, ◌∙◌, refl, slice_set, All}
use Rattle.std.proofs.lemmas.List.{take_more, take_more_set, reverse-append, drop-drop}
use Rattle.std.proofs.lemmas.List.Elements.{All-set, All-get_or}
use Rattle.um_machine.specs.declared.pending.Pending.{Pending}
use Rattle.um_machine.specs.Limits.{IsSound}

-- one more at the end of the room is the first step
pub front_more : {A : Type 0} (xs : List A) (n : ℕ) (d : A) → n < length xs → reverse (take (n + 1) xs) ≡ get_or xs n d ∷ reverse (take n xs)
front_more xs n d h = ap reverse (take_more xs n d h) ∙ reverse-append (take n xs) (get_or xs n d ∷ [])

pub front_set : {A : Type 0} (xs : List A) (n : ℕ) (x : A) → n < length xs → reverse (take (n + 1) (slice_set xs n x)) ≡ x ∷ reverse (take n xs)
front_set xs n x h = ap reverse (take_more_set xs n x h) ∙ reverse-append (take n xs) (x ∷ [])

-- a step of sound ones is sound, and they stay so where a sound one is written
pub sound_at : (steps : List Pending) (i : ℕ) (d : Pending) → i < length steps → All IsSound steps → IsSound (get_or steps i d)
sound_at = All-get_or IsSound

pub sound_set : (steps : List Pending) (i : ℕ) (step : Pending) → IsSound step → All IsSound steps → All IsSound (slice_set steps i step)
sound_set = All-set IsSound

-- so many steps but one, and then one, are left out
pub drop_all : (steps : List Pending) (n : ℕ) → 0 < n → drop 1 (drop (n - 1) steps) ≡ drop n steps
drop_all steps n h = let e : n - 1 + 1 ≡ n = omega arith in rw (drop-drop 1 (n - 1) steps, e) refl
