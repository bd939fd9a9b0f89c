-- Where a step leads: a state that a run may reach, with a lower measure.
use Rattle.std.proofs.Common.{◌≡◌, ◌<◌, ◌≤◌, ℕ, ◌+◌, true, false, [], ◌∷◌, length, refl, sym, ◌∙◌, subst, arith, slice_index_or, if◌then◌else◌}
use Rattle.std.specs.Prelude.{IsTrue}
use Rattle.std.specs.List.{list_all}
use Rattle.std.proofs.lemmas.Bool.{and_parts, false≢true}
use Rattle.um_base.specs.Lawful.{IsLawful}
use Rattle.um_base.specs.declared.image.Image.{Image}
use Rattle.um_machine.specs.declared.pending.Pending.{Pending}
use Rattle.um_machine.specs.declared.thread.Life.{Life}
use Rattle.um_machine.specs.declared.thread.Place.{Place}
use Rattle.um_machine.specs.declared.thread.Thread.{Thread}
use Rattle.um_machine.specs.Order.{Steps}
use Rattle.um_machine.specs.Services.{is_empty}
use Rattle.um_machine.specs.State.{State, thread_at, with_thread, is_living, next_place}
use Rattle.um_machine.specs.Goes.{at_steps}
use Rattle.um_measure.specs.Measure.{total, step_cost, life_cost, due_cost, thread_cost, measure, armings}
use Rattle.um_measure.specs.Reached.{IsPlace, is_of_living, is_of_end, may_wait, passes_on, IsSound, AreSized, IsReached}
use Rattle.um_measure.proofs.EasedLemmas.{at-eased, total-eased, total-set_eased, sound-eased, sound-set}
use Rattle.um_measure.proofs.NextLemmas.{next-stands}
use Rattle.um_measure.proofs.StoreLemmas.{store_of}
use Rattle.um_measure.proofs.WriteLemmas.{IsBase}

-- a step that is due lowers the measure, and each step keeps what the states of a run have in common, and raises no bound on the deadlines
pub record IsMade (s s2 : State) (Due : Type 0) : Type 0 where
  pub image_is : s2.image ≡ s.image
  pub sized : AreSized s2.pairs
  pub sound : (t : ℕ) → IsSound s.image (thread_at s2 t)
  pub falls : Due → measure s2 < measure s
  pub arms : armings s2 ≤ armings s

-- a thread makes one of its steps: what it has pending is no cheaper than that step and those behind it, which are its own
pub record IsReady (s : State) (t : ℕ) (step : Pending) (rest : Steps) : Type 0 where
  pub first : Pending
  pub others : Steps
  pub are : (thread_at s t).pending ≡ first ∷ others
  pub cost : total (step_cost s.image) (step ∷ rest) ≤ total (step_cost s.image) (thread_at s t).pending
  pub waits : list_all (may_wait (thread_at s t).life) (step ∷ rest) ≡ true
  pub passes : passes_on (thread_at s t).child (step ∷ rest) ≡ true

-- what a thread's life costs once its instruction is begun
abbrev pub begun_cost : Image → Life → Place → ℕ
begun_cost image life place = life_cost image life place (Pending.Exit ∷ [])

begun-any : (image : Image) (life : Life) (place : Place) (first : Pending) (others : Steps) → life_cost image life place (first ∷ others) ≡ begun_cost image life place
begun-any image Life.Unborn place first others = refl
begun-any image Life.Living place first others = refl
begun-any image Life.Ended place first others = refl

begun-steps : (image : Image) (life : Life) (place : Place) (steps : Steps) → life_cost image life (if is_empty steps then next_place image place else place) steps ≡ begun_cost image life place
begun-steps image Life.Unborn place [] = refl
begun-steps image Life.Living place [] = refl
begun-steps image Life.Ended place [] = refl
begun-steps image life place (first ∷ others) = begun-any image life place first others

-- what a thread costs that goes on with these steps
pub cost-at_steps : (image : Image) (me : Thread) (steps : Steps) → thread_cost image (at_steps image me steps) ≡ begun_cost image me.life me.place + total (step_cost image) steps + due_cost me.child me.due
unfolding thread_cost
cost-at_steps image me steps = rw (begun-steps image me.life me.place steps) refl

-- and what one costs that has steps pending
pub cost-pending : (image : Image) (me : Thread) (first : Pending) (others : Steps) → me.pending ≡ first ∷ others
    → thread_cost image me ≡ begun_cost image me.life me.place + total (step_cost image) me.pending + due_cost me.child me.due
unfolding thread_cost
cost-pending image me first others h = let begun = begun-any image me.life me.place first others in rw (h, begun) refl

stands-steps : (image : Image) → IsLawful image → (place : Place) (steps : Steps) → IsPlace image place → IsPlace image (if is_empty steps then next_place image place else place)
stands-steps image lawful place [] h = (next-stands image lawful place h).stands
stands-steps image lawful place (first ∷ others) h = h

pub sound-at_steps : (image : Image) → IsLawful image → (me : Thread) (steps : Steps) → (IsTrue (is_living me.life) → IsPlace image me.place)
    → list_all (may_wait me.life) steps ≡ true → passes_on me.child steps ≡ true → IsSound image (at_steps image me steps)
sound-at_steps image lawful me steps place waits passes = record { place = λ living. stands-steps image lawful me.place steps (place living); waits = waits; passes = passes }

-- one thread is written, which pays for what was armed, and the others are eased
pub writes : (s : State) → IsReached s → (t : ℕ) (u : State) (n : ℕ) → IsBase s u n → (me : Thread) (Due : Type 0) → IsSound s.image me
    → (Due → store_of u + thread_cost s.image me < store_of s + thread_cost s.image (thread_at s t))
    → length u.armed + thread_cost s.image me ≤ length s.armed + thread_cost s.image (thread_at s t)
    → IsMade s (with_thread u t me) Due
unfolding measure armings
writes s reached t u n base me Due sound cost arms = record {
  image_is = base.image;
  sized = base.sized;
  sound = sound-set s.image u.threads t me sound (λ v. sound-eased s.image (thread_at s v) (slice_index_or u.threads v _) (at-eased s.threads u.threads base.eased v) (reached.sound v));
  falls = λ due. rw base.image (omega (arith, total-set_eased s.image s.threads u.threads base.eased t me, cost due));
  arms = rw base.image (omega (arith, total-set_eased s.image s.threads u.threads base.eased t me, arms));
}

-- a thread goes on with these steps
pub goes : (s : State) → IsReached s → (t : ℕ) (step : Pending) (rest : Steps) → IsReady s t step rest → (u : State) (extra : ℕ) → IsBase s u extra → (me : Thread) (steps : Steps)
    → me.life ≡ (thread_at s t).life → me.place ≡ (thread_at s t).place
    → total (step_cost s.image) steps + due_cost me.child me.due + extra < total (step_cost s.image) (step ∷ rest) + due_cost (thread_at s t).child (thread_at s t).due
    → list_all (may_wait (thread_at s t).life) steps ≡ true → passes_on me.child steps ≡ true
    → IsMade s (with_thread u t (at_steps u.image me steps)) (Unit {0})
goes s reached t step rest ready u extra base me steps life place cost waits passes =
    let before = cost-pending s.image (thread_at s t) ready.first ready.others ready.are in
    let after = cost-at_steps s.image me steps in
    let begun : begun_cost s.image me.life me.place ≡ begun_cost s.image (thread_at s t).life (thread_at s t).place = rw (life, place) refl in
    let less = ready.cost in
    let store = base.store in
    let armed = base.armed in
    let sound = sound-at_steps s.image reached.lawful me steps (rw (life, place) (reached.sound t).place) (rw life waits) passes in
    subst (λ (i : Image). IsMade s (with_thread u t (at_steps i me steps)) (Unit {0})) (sym base.image)
    (writes s reached t u extra base (at_steps s.image me steps) (Unit {0}) sound (λ due. omega (arith, before, after, begun, less, cost, store)) (omega (arith, before, after, begun, less, cost, armed)))

-- no thread is written, and nothing is armed
pub lowers : (s : State) → IsReached s → (u : State) (n : ℕ) → IsBase s u n → store_of u < store_of s → length u.armed ≤ length s.armed → IsMade s u (Unit {0})
unfolding measure armings
lowers s reached u n base store armed = record {
  image_is = base.image;
  sized = base.sized;
  sound = λ v. sound-eased s.image (thread_at s v) (thread_at u v) (at-eased s.threads u.threads base.eased v) (reached.sound v);
  falls = λ due. rw base.image (omega (arith, total-eased s.image s.threads u.threads base.eased, store));
  arms = rw base.image (omega (arith, total-eased s.image s.threads u.threads base.eased, armed));
}

-- Lives.

living-of : (life : Life) (step : Pending) → may_wait life step ≡ true → is_of_end step ≡ false → life ≡ Life.Living
living-of Life.Unborn step h e = absurd (false≢true (sym e ∙ h))
living-of Life.Living step h e = refl
living-of Life.Ended step h e = absurd (false≢true (sym e ∙ h))

pub ready-living : (s : State) (t : ℕ) (step : Pending) (rest : Steps) → IsReady s t step rest → is_of_end step ≡ false → (thread_at s t).life ≡ Life.Living
ready-living s t step rest ready e = living-of (thread_at s t).life step (and_parts _ _ ready.waits).0 e

pub ready-rest : (s : State) (t : ℕ) (step : Pending) (rest : Steps) → IsReady s t step rest → list_all (may_wait (thread_at s t).life) rest ≡ true
ready-rest s t step rest ready = (and_parts (may_wait (thread_at s t).life step) _ ready.waits).1

pub living-waits : (life : Life) (steps : Steps) → life ≡ Life.Living → list_all is_of_living steps ≡ true → list_all (may_wait life) steps ≡ true
living-waits life steps e h = rw e h
