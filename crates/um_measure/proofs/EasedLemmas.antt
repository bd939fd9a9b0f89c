-- Threads that are as they were, or have less due: what a step changes at the others.
use Rattle.std.proofs.Common.{◌≡◌, ◌≤◌, ℕ, zero, suc, ◌+◌, Bool, true, false, ◌&&◌, List, [], ◌∷◌, refl, ◌∙◌, arith, Option, Some, None, slice_index_or, slice_set}
use Rattle.um_base.specs.declared.image.Image.{Image}
use Rattle.um_base.specs.declared.names.ThreadIx.{ThreadIx}
use Rattle.um_machine.specs.declared.thread.Thread.{Thread}
use Rattle.um_machine.specs.State.{State, nobody}
use Rattle.um_machine.specs.Writes.{with_dues, stays_due, paired}
use Rattle.um_measure.specs.Measure.{total, flags_set, due_cost, thread_cost}
use Rattle.um_measure.specs.Reached.{IsSound}
use Rattle.um_measure.proofs.TotalLemmas.{total-set}

pub record IsEased (x y : Thread) : Type 0 where
  pub life : y.life ≡ x.life
  pub place : y.place ≡ x.place
  pub pending : y.pending ≡ x.pending
  pub child : y.child ≡ x.child
  pub due : flags_set y.due ≤ flags_set x.due

abbrev pub AreEased : List Thread → List Thread → Type 0
AreEased [] [] = Unit {0}
AreEased (x ∷ xs) (y ∷ ys) = IsEased x y × AreEased xs ys
AreEased _ _ = ⊥

pub eased-same : (x : Thread) → IsEased x x
eased-same x = record { life = refl; place = refl; pending = refl; child = refl; due = omega arith }

pub eased-then : (x y z : Thread) → IsEased x y → IsEased y z → IsEased x z
eased-then x y z h g = record {
  life = g.life ∙ h.life;
  place = g.place ∙ h.place;
  pending = g.pending ∙ h.pending;
  child = g.child ∙ h.child;
  due = omega (arith, h.due, g.due);
}

pub all-same : (xs : List Thread) → AreEased xs xs
all-same [] = tt
all-same (x ∷ xs) = (eased-same x, all-same xs)

pub all-then : (xs ys zs : List Thread) → AreEased xs ys → AreEased ys zs → AreEased xs zs
all-then [] [] [] h g = tt
all-then (x ∷ xs) (y ∷ ys) (z ∷ zs) h g = (eased-then x y z h.0 g.0, all-then xs ys zs h.1 g.1)
all-then [] [] (z ∷ zs) h g = absurd g
all-then [] (y ∷ ys) zs h g = absurd h
all-then (x ∷ xs) [] zs h g = absurd h
all-then (x ∷ xs) (y ∷ ys) [] h g = absurd g

pub all-set : (xs : List Thread) (t : ℕ) (y : Thread) → IsEased (slice_index_or xs t nobody) y → AreEased xs (slice_set xs t y)
all-set [] t y h = tt
all-set (x ∷ xs) zero y h = (h, all-same xs)
all-set (x ∷ xs) (suc t) y h = (eased-same x, all-set xs t y h)

pub at-eased : (xs ys : List Thread) → AreEased xs ys → (t : ℕ) → IsEased (slice_index_or xs t nobody) (slice_index_or ys t nobody)
at-eased [] [] h t = eased-same nobody
at-eased (x ∷ xs) (y ∷ ys) h zero = h.0
at-eased (x ∷ xs) (y ∷ ys) h (suc t) = at-eased xs ys h.1 t
at-eased [] (y ∷ ys) h t = absurd h
at-eased (x ∷ xs) [] h t = absurd h

-- What eased threads cost.

pub due-le : (child : Option ThreadIx) (a b : List Bool) → flags_set a ≤ flags_set b → due_cost child a ≤ due_cost child b
due-le None a b h = omega arith
due-le (Some child) a b h = omega (arith, h)

pub cost-eased : (image : Image) (x y : Thread) → IsEased x y → thread_cost image y ≤ thread_cost image x
unfolding thread_cost
cost-eased image x y h = rw (h.life, h.place, h.pending, h.child) (omega (arith, due-le x.child y.due x.due h.due))

pub total-eased : (image : Image) (xs ys : List Thread) → AreEased xs ys → total (thread_cost image) ys ≤ total (thread_cost image) xs
total-eased image [] [] h = omega arith
total-eased image (x ∷ xs) (y ∷ ys) h = omega (arith, cost-eased image x y h.0, total-eased image xs ys h.1)
total-eased image [] (y ∷ ys) h = absurd h
total-eased image (x ∷ xs) [] h = absurd h

-- of eased threads one is taken out
pub total-eased_at : (image : Image) (xs ys : List Thread) → AreEased xs ys → (t : ℕ)
    → total (thread_cost image) ys + thread_cost image (slice_index_or xs t nobody) ≤ total (thread_cost image) xs + thread_cost image (slice_index_or ys t nobody)
total-eased_at image [] [] h t = omega arith
total-eased_at image (x ∷ xs) (y ∷ ys) h zero = omega (arith, total-eased image xs ys h.1)
total-eased_at image (x ∷ xs) (y ∷ ys) h (suc t) = omega (arith, cost-eased image x y h.0, total-eased_at image xs ys h.1 t)
total-eased_at image [] (y ∷ ys) h t = absurd h
total-eased_at image (x ∷ xs) [] h t = absurd h

pub cost-nobody : (image : Image) → thread_cost image nobody ≡ 0
unfolding thread_cost
cost-nobody image = refl

-- one of the threads is written, where the others are eased
pub total-set_eased : (image : Image) (xs ys : List Thread) → AreEased xs ys → (t : ℕ) (me : Thread)
    → total (thread_cost image) (slice_set ys t me) + thread_cost image (slice_index_or xs t nobody) ≤ total (thread_cost image) xs + thread_cost image me
total-set_eased image xs ys h t me =
    let set = total-set (thread_cost image) nobody (cost-nobody image) ys t me in
    omega (arith, set, total-eased_at image xs ys h t)

pub sound-eased : (image : Image) (x y : Thread) → IsEased x y → IsSound image x → IsSound image y
sound-eased image x y h sound = record {
  place = rw (h.life, h.place) sound.place;
  waits = rw (h.life, h.pending) sound.waits;
  passes = rw (h.child, h.pending) sound.passes;
}

pub sound-set : (image : Image) (xs : List Thread) (t : ℕ) (me : Thread) → IsSound image me → ((u : ℕ) → IsSound image (slice_index_or xs u nobody)) → (u : ℕ) → IsSound image (slice_index_or (slice_set xs t me) u nobody)
sound-set image [] t me h all u = all u
sound-set image (x ∷ xs) zero me h all zero = h
sound-set image (x ∷ xs) zero me h all (suc u) = all (suc u)
sound-set image (x ∷ xs) (suc t) me h all zero = all zero
sound-set image (x ∷ xs) (suc t) me h all (suc u) = sound-set image xs t me h (λ v. all (suc v)) u

-- What a pair that comes or goes eases.

set-and : (c : Bool) (due : List Bool) (x : ℕ) → flags_set (slice_set due x (slice_index_or due x false && c)) ≤ flags_set due
set-and c [] x = omega arith
set-and true (true ∷ due) zero = omega arith
set-and true (false ∷ due) zero = omega arith
set-and false (true ∷ due) zero = omega arith
set-and false (false ∷ due) zero = omega arith
set-and c (flag ∷ due) (suc x) = omega (arith, set-and c due x)

all-with_dues : (x t : ℕ) (holders : List Bool) (xs : List Thread) → AreEased xs (with_dues x t holders xs)
all-with_dues x t holders [] = tt
all-with_dues x t holders (me ∷ xs) =
    (record { life = refl; place = refl; pending = refl; child = refl; due = set-and (stays_due t me.child holders) me.due x }, all-with_dues x (t + 1) holders xs)

pub eased-paired : (s : State) (u x : ℕ) (there : Bool) → AreEased s.threads (paired s u x there).threads
eased-paired s u x there = all-with_dues x 0 _ s.threads
