-- Facts of the steps that are left, each proved once for each way to go on, and of what a thread keeps on its way.
use Rattle.std.proofs.Common.{◌≡◌, ℕ, Bool, true, List, [], ◌∷◌, Option, Some, None, refl}
use Rattle.std.specs.Prelude.{slice_set}
use Rattle.um_base.specs.declared.act.Cause.{Cause}
use Rattle.um_base.specs.declared.ask.Ask.{Ask}
use Rattle.um_base.specs.declared.names.Addr.{Addr}
use Rattle.um_base.specs.declared.names.Errno.{Errno}
use Rattle.um_base.specs.declared.names.Reply.{Reply}
use Rattle.um_machine.specs.declared.pending.Pending.{Pending}
use Rattle.um_machine.specs.declared.thread.Thread.{Thread}
use Rattle.um_machine.specs.Goes.{Change, Way, changed, held, steps_by}
use Rattle.um_machine.specs.Order.{Steps, to_deadline}
use Rattle.um_machine.specs.Table as T

-- A property of the steps left that each way to go on keeps: those of a call, which skip a copy, wait or bear an object, where the steps behind
-- have it; a timer's start, whatever its deadline; and those that end a call, by an answer or a fatal error, at once or after what they undo, by themselves.
pub record HoldsOfWays (P : Steps → Type 0) : Type 0 where
  pub call : ((a : Addr) (left : Steps) → P (Pending.CopyOut a ∷ left) → P left) × ((left : Steps) → P left → P (Pending.Resume ∷ left)) × ((a : Addr) (left : Steps) → P left → P (Pending.Born a ∷ left))
  pub runs_to : (a : Addr) (before deadline : ℕ) (left : Steps) → P (Pending.Work a (Ask.TimerStart before) ∷ left) → P (Pending.Work a (Ask.TimerStart deadline) ∷ left)
  pub replies : (reply : Reply) → P (Pending.Answer (Some reply) None ∷ [])
  pub fails : (reason : ℕ) (cause : Cause) → P (Pending.Fatal reason cause ∷ []) × ((size : ℕ) → P (Pending.Unbuffer size ∷ Pending.Fatal reason cause ∷ [])) × ((a : Addr) → P (Pending.ClearInit a ∷ Pending.Fatal reason cause ∷ []))

module _ (P : Steps → Type 0) (holds : HoldsOfWays P) where
  without-copy : (left : Steps) → P left → P (T.without_copy left)
  without-copy [] h = h
  without-copy (Pending.CopyOut a ∷ left) h = holds.call.0 a left h
  without-copy (q ∷ left) h = h

  to-deadline : (deadline : ℕ) (left : Steps) → P left → P (to_deadline deadline left)
  to-deadline deadline [] h = h
  to-deadline deadline (Pending.Work a (Ask.TimerStart before) ∷ left) h = holds.runs_to a before deadline left h
  to-deadline deadline (q ∷ left) h = h

  pub way-left : (left : Steps) (way : Way) → P left → P (steps_by left way)
  way-left left Way.rest h = h
  way-left left Way.skips_copy h = without-copy left h
  way-left left Way.waits h = holds.call.1 left h
  way-left left (Way.bears a) h = holds.call.2 a left h
  way-left left (Way.runs_to deadline) h = to-deadline deadline left h
  way-left left (Way.replies reply) h = holds.replies reply
  way-left left (Way.fails reason cause) h = (holds.fails reason cause).0
  way-left left (Way.gives_back size reason cause) h = (holds.fails reason cause).1 size
  way-left left (Way.clears a reason cause) h = (holds.fails reason cause).2 a

-- What is read of a thread beside what its call works out, and beside what its call holds.
pub changed-same : {K : Type 0} (of : Thread → K)
    → ((me : Thread) (registers : List ℕ) (reply : Reply) (buffer : List ℕ) (until : Option ℕ) → of (record me { registers = registers; reply = reply; buffer = buffer; until = until }) ≡ of me)
    → (change : Change) (me : Thread) → of (changed change me) ≡ of me
changed-same of same Change.nothing me = refl
changed-same of same (Change.register to value) me = same me (slice_set me.registers to value) me.reply me.buffer me.until
changed-same of same (Change.copies bs) me = same me me.registers me.reply bs me.until
changed-same of same (Change.says reply) me = same me me.registers reply me.buffer me.until
changed-same of same (Change.outcome reply taken) me = same me me.registers reply taken me.until
changed-same of same (Change.until deadline) me = same me me.registers me.reply me.buffer deadline

pub held-same : {K : Type 0} (of : Thread → K) → ((me : Thread) (checked : List Bool) → of (record me { checked = checked }) ≡ of me)
    → (x : ℕ) (v : Option Errno) (me : Thread) → of (held x v me) ≡ of me
held-same of same x None me = same me (slice_set me.checked x true)
held-same of same x (Some e) me = refl
