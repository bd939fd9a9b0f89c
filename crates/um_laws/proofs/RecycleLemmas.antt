-- Recycling and inheriting: an object that is recycled is gone and unheld; a permission that is inherited is one that the creator has.
use Rattle.std.proofs.Common.{ℕ, refl, sym, subst}
use Rattle.um_base.specs.declared.act.Act.{Act}
use Rattle.um_base.specs.declared.act.Event.{Event}
use Rattle.um_base.specs.declared.names.Access.TheVariants as Access
use Rattle.um_machine.specs.declared.pending.Pending.{Pending}
use Rattle.um_machine.specs.State.{State}
use Rattle.um_machine.specs.Memory.{allowed, bytes_at, le_value}
use Rattle.um_machine.specs.Run.{MayChoose, Step}
use Rattle.um_machine.specs.Table.{act_of}
use Rattle.um_laws.proofs.ActLemmas.{either_act}
use Rattle.um_laws.specs.Laws.{Recycles, IsUnheld, Inherits, IsOfItsCreator}

recycles : (s : State) (t x : ℕ) (p : Pending) → MayChoose s t x p → Recycles s (act_of s t x p)
recycles s t x (Pending.Load to a n) h =
    either_act (Recycles s) (allowed s t Access.Read a.0 n) (Act.Load a n (le_value (bytes_at s a.0 n))) (Act.Fault Access.Read a n) tt tt
recycles s t x (Pending.Store a n value) h = either_act (Recycles s) (allowed s t Access.Write a.0 n) (Act.Store a n value) (Act.Fault Access.Write a n) tt tt
recycles s t x (Pending.Fetch a) h = either_act (Recycles s) (allowed s t Access.Exec a.0 4) (Act.Fetch a) (Act.Fault Access.Exec a 4) tt tt
recycles s t x Pending.Recycle h = (x, refl, h.0.0, h.0.1)
recycles s t x _ h = tt

pub is_unheld : (s s2 : State) (event : Event) → Step s event s2 → IsUnheld s event
is_unheld s s2 event step = subst (λ (act : Act). Recycles s act) (sym step.says) (recycles s event.thread.0 step.row step.step step.chosen)

inherits : (s : State) (t x : ℕ) (p : Pending) → MayChoose s t x p → Inherits s t (act_of s t x p)
inherits s t x (Pending.Load to a n) h =
    either_act (Inherits s t) (allowed s t Access.Read a.0 n) (Act.Load a n (le_value (bytes_at s a.0 n))) (Act.Fault Access.Read a n) tt tt
inherits s t x (Pending.Store a n value) h = either_act (Inherits s t) (allowed s t Access.Write a.0 n) (Act.Store a n value) (Act.Fault Access.Write a n) tt tt
inherits s t x (Pending.Fetch a) h = either_act (Inherits s t) (allowed s t Access.Exec a.0 4) (Act.Fetch a) (Act.Fault Access.Exec a 4) tt tt
inherits s t x (Pending.Inherit who) h = (x, refl, h.0, h.1, h.2)
inherits s t x _ h = tt

pub is_of_its_creator : (s s2 : State) (event : Event) → Step s event s2 → IsOfItsCreator s event
is_of_its_creator s s2 event step = subst (λ (act : Act). Inherits s event.thread.0 act) (sym step.says) (inherits s event.thread.0 step.row step.step step.chosen)
