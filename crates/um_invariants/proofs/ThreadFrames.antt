-- A thread is written, and what holds of all threads is kept.
use Rattle.std.proofs.Common.{◌≡◌, ◌≢◌, inl, ◌≤◌, ℕ, zero, suc, Bool, true, false, List, [], ◌∷◌, refl, sym, ap, subst, ◌∙◌, arith, slice_index_or}
use Rattle.std.proofs.lemmas.List.{length-set, get_or-set_other}
use Rattle.um_base.specs.declared.image.Image.{Image}
use Rattle.um_machine.specs.declared.object.Object.{Object}
use Rattle.um_machine.specs.declared.pending.Pending.{Pending}
use Rattle.um_machine.specs.declared.thread.Thread.{Thread}
use Rattle.um_machine.specs.Order.{Steps}
use Rattle.um_machine.specs.State.{State, nobody, vacant, thread_at, object_at, with_thread, with_object}
use Rattle.um_invariants.proofs.Cores.{at_set}
use Rattle.um_invariants.proofs.Facts.{both_of}
use Rattle.um_invariants.proofs.ThreadCells.{cell}
use Rattle.um_invariants.proofs.ThreadWaits.{times}
use Rattle.um_invariants.proofs.ThreadWords.{is_on, may_step, may_stand, IsFramed, are_plain, are_orderly, DueFrom, is_resume, IsOrderly, AreDue, AreKept, IsMade, IsAlike, IsBase, IsOffered}

-- Threads.

pub alike-self : (x : Thread) → IsAlike x x
alike-self x = record { life = refl; doomed = refl; pending = refl; told = refl; child = refl; due = λ r h. h }

pub alike-then : (x y z : Thread) → IsAlike x y → IsAlike y z → IsAlike x z
alike-then x y z h g = record {
  life = g.life ∙ h.life;
  doomed = g.doomed ∙ h.doomed;
  pending = g.pending ∙ h.pending;
  told = g.told ∙ h.told;
  child = g.child ∙ h.child;
  due = λ r f. h.due r (g.due r f);
}

from-less : (steps : Steps) (due less : List Bool) → ((r : ℕ) → slice_index_or less r false ≡ true → slice_index_or due r false ≡ true) → DueFrom steps due → DueFrom steps less
from-less [] due less fewer h = tt
from-less (Pending.Drops from ∷ rest) due less fewer h = λ r f. h r (fewer r f)
from-less (p ∷ rest) due less fewer h = tt

alike-orderly : (x y : Thread) → IsAlike x y → IsOrderly x → IsOrderly y
alike-orderly x y a h = record {
  steps = rw a.pending h.steps;
  from = from-less y.pending x.due y.due a.due (rw a.pending h.from);
  told = λ e. a.told ∙ h.told (ap is_resume (sym a.pending) ∙ e);
}

-- what is due may be passed on, where fewer rows are
pub alike-due : (image : Image) (pairs : List (List Bool)) (t : ℕ) (x y : Thread) → IsAlike x y → AreDue image pairs t x → AreDue image pairs t y
alike-due image pairs t x y a due r h = rw a.child (due r (a.due r h))

pub alike-framed : (x y : Thread) → IsAlike x y → IsFramed x false y
alike-framed x y a =
    let on : is_on y ≡ is_on x = rw (a.told, a.pending) refl in
    let step : may_step y ≡ may_step x = rw (a.life, a.doomed, a.told, a.pending) refl in
    let stand : may_stand y ≡ may_stand x = rw (a.life, a.doomed, a.told, a.pending) refl in
    record {
      runs = λ h. (on ∙ h, refl);
      goes = λ h. inl (sym step ∙ h);
      stays = λ h. stand ∙ h;
      comes = λ h. cc;
    }

-- Steps.

pub plain-orderly : (steps : Steps) → are_plain steps ≡ true → are_orderly steps ≡ true
plain-orderly [] h = refl
plain-orderly (Pending.Drops from ∷ rest) h = cc
plain-orderly (p ∷ rest) h = h

pub plain-from : (steps : Steps) (due : List Bool) → are_plain steps ≡ true → DueFrom steps due
plain-from [] due h = tt
plain-from (Pending.Drops from ∷ rest) due h = cc
plain-from (p ∷ rest) due h = tt

pub orderly-rest : (p : Pending) (rest : Steps) → are_orderly (p ∷ rest) ≡ true → are_plain rest ≡ true
orderly-rest (Pending.Drops from) rest h = (both_of _ _ h).1
orderly-rest (Pending.Inherit who) rest h = (both_of _ _ h).1
orderly-rest (Pending.CleanPair who) rest h = cc
orderly-rest Pending.Recycle rest h = cc
orderly-rest p rest h = h

-- States.

pub base-same : (s s1 : State) → AreKept s → s1.image ≡ s.image → s1.threads ≡ s.threads → s1.pairs ≡ s.pairs → ((x u : ℕ) → times u (cell s1 x) ≤ times u (cell s x)) → IsBase s s1
base-same s s1 kept image threads pairs waiters = record {
  image = image;
  many = rw threads refl;
  alike = λ u. rw threads (alike-self (thread_at s u));
  due = λ u. rw (image, threads, pairs) (kept.due u);
  waiters = waiters;
}

pub base-self : (s : State) → AreKept s → IsBase s s
base-self s kept = base-same s s kept refl refl refl (λ x u. omega arith)

-- an object is written, on which nobody else waits
pub fewer-wait : (s : State) (y : ℕ) (o : Object) → ((u : ℕ) → times u o.waiters ≤ times u (object_at s y).waiters) → (x u : ℕ) → times u (cell (with_object s y o) x) ≤ times u (cell s x)
fewer-wait s y o fewer zero u = omega arith
fewer-wait s y o fewer (suc zero) u = omega arith
fewer-wait s y o fewer (suc (suc x)) u =
    at_set (λ n (other : Object). times u other.waiters ≤ times u (object_at s n).waiters) s.objects y x o vacant (fewer u) (omega arith)

pub base-object : (s : State) → AreKept s → (y : ℕ) (o : Object) → o.waiters ≡ (object_at s y).waiters → IsBase s (with_object s y o)
base-object s kept y o same = base-same s (with_object s y o) kept refl refl refl (fewer-wait s y o (λ u. rw same (omega arith)))

-- all that is kept is, where nothing else than a base changes
pub base-kept : (s s1 : State) → AreKept s → IsBase s s1 → AreKept s1
base-kept s s1 kept base =
    let waiting : (x u : ℕ) → 1 ≤ times u (cell s1 x) → 1 ≤ times u (cell s x) = λ x u h. (let less = base.waiters x u in omega (arith, less, h)) in
    record {
      many = base.many ∙ kept.many;
      orderly = λ u. alike-orderly (thread_at s u) (thread_at s1 u) (base.alike u) (kept.orderly u);
      due = base.due;
      waits = λ x u h. (let was = kept.waits x u (waiting x u h) in let a = base.alike u in (ap is_resume a.pending ∙ was.0, a.told ∙ was.1));
      once = λ x u. (let less = base.waiters x u in let one = kept.once x u in omega (arith, less, one));
      sole = λ x y u h g. kept.sole x y u (waiting x u h) (waiting y u g);
    }

-- a thread is written that doesn't wait
pub written-kept : (s : State) (t : ℕ) (me : Thread) → AreKept s → ((x : ℕ) → times t (cell s x) ≡ 0) → IsOrderly me → AreDue s.image s.pairs t me → AreKept (with_thread s t me)
written-kept s t me kept apart orderly due = record {
  many = length-set s.threads t me ∙ kept.many;
  orderly = λ u. at_set (λ n (other : Thread). IsOrderly other) s.threads t u me nobody orderly (kept.orderly u);
  due = λ u. at_set (λ n (other : Thread). AreDue s.image s.pairs n other) s.threads t u me nobody due (kept.due u);
  waits = λ x u h. (
      let other : u ≢ t = λ same. (let none = apart x in let some : 1 ≤ times t (cell s x) = subst (λ (n : ℕ). 1 ≤ times n (cell s x)) same h in omega (arith, none, some)) in
      let was = kept.waits x u h in
      let here : thread_at (with_thread s t me) u ≡ thread_at s u = get_or-set_other s.threads t u me nobody other in
      (ap (λ (th : Thread). is_resume th.pending) here ∙ was.0, ap (λ (th : Thread). th.told) here ∙ was.1));
  once = kept.once;
  sole = kept.sole;
}

pub others-alike : (s s1 : State) (t : ℕ) (me : Thread) → IsBase s s1 → (u : ℕ) → u ≢ t → IsFramed (thread_at s u) false (thread_at (with_thread s1 t me) u)
others-alike s s1 t me base u other =
    let here : thread_at (with_thread s1 t me) u ≡ thread_at s1 u = get_or-set_other s1.threads t u me nobody other in
    subst (λ (th : Thread). IsFramed (thread_at s u) false th) (sym here) (alike-framed (thread_at s u) (thread_at s1 u) (base.alike u))

-- One step of a thread, which starts and wakes nobody.
module _ (s : State) (kept : AreKept s) (t : ℕ) (p : Pending) (rest : Steps) (offered : IsOffered s t p rest) where
  pub writes : (s1 : State) (me : Thread) → IsBase s s1 → IsOrderly me → AreDue s1.image s1.pairs t me → IsMade s t [] (with_thread s1 t me)
  writes s1 me base orderly due = record {
    kept = written-kept s1 t me (base-kept s s1 kept base) (λ x. (let less = base.waiters x t in let none = offered.apart x in omega (arith, less, none))) orderly due;
    others = λ u other. others-alike s s1 t me base u other;
    apart = refl;
  }
