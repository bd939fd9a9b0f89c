-- What is said of an event in the state in which it stands.
use Rattle.std.specs.Prelude.{◌≡◌, ◌≢◌, ℕ, ◌+◌, ◌≤◌, true, not, IsTrue}
use Rattle.um_base.specs.Places.{addr_of, own_row}
use Rattle.um_base.specs.declared.act.Act.{Act}
use Rattle.um_base.specs.declared.act.Answer.{Answer}
use Rattle.um_base.specs.declared.names.Errno.{Errno}
use Rattle.um_base.specs.declared.names.Reply.{Reply}
use Rattle.um_base.specs.declared.act.Event.{Event}
use Rattle.um_base.specs.declared.act.Found.{Found}
use Rattle.um_base.specs.declared.names.Access.TheVariants as Access
use Rattle.um_machine.specs.State.{State, object_at, pair_at}
use Rattle.um_machine.specs.Memory.{allowed}
use Rattle.um_machine.specs.Objects.{verdict, is_gone, is_held}
use Rattle.um_machine.specs.Order.{to_addr}

-- each byte of a string was readable by itself, up to the zero after it
abbrev pub WasReadable : State → ℕ → ℕ → Found → Type 0
WasReadable s t a (Found.Length n) = (i : ℕ) → i ≤ n → IsTrue (allowed s t Access.Read (a + i) 1)
WasReadable s t a found = Unit {0}

-- a thread was allowed the access that an act says it made; a call on a futex that isn't refused for that reads it
abbrev pub Allows : State → ℕ → Act → Type 0
Allows s t (Act.Load a n value) = IsTrue (allowed s t Access.Read a.0 n)
Allows s t (Act.Store a n value) = IsTrue (allowed s t Access.Write a.0 n)
Allows s t (Act.Fetch a) = IsTrue (allowed s t Access.Exec a.0 4)
Allows s t (Act.CopyIn a n true) = IsTrue (allowed s t Access.Read a.0 n)
Allows s t (Act.CopyOut a n true) = IsTrue (allowed s t Access.Write a.0 n)
Allows s t (Act.CopyStr a found) = WasReadable s t a.0 found
Allows s t (Act.FutexWait a value (Answer.Now (Reply.Fail Errno.EACCES))) = Unit {0}
Allows s t (Act.FutexWait a value answer) = IsTrue (allowed s t Access.Read a.0 4)
Allows s t (Act.FutexWake a (Answer.Now (Reply.Fail Errno.EACCES)) woken) = Unit {0}
Allows s t (Act.FutexWake a answer woken) = IsTrue (allowed s t Access.Read a.0 4)
Allows s t act = Unit {0}

abbrev pub WasAllowed : State → Event → Type 0
WasAllowed s event = Allows s event.thread.0 event.act

-- what a check says is the verdict
abbrev pub SaysVerdict : State → ℕ → Act → Type 0
SaysVerdict s t (Act.Check a kind want said) = said ≡ verdict s t a.0 kind want
SaysVerdict s t act = Unit {0}

abbrev pub IsVerdict : State → Event → Type 0
IsVerdict s event = SaysVerdict s event.thread.0 event.act

-- What a new thread inherits is a permission that its creator has there, and not the one on the creator's own object.
abbrev pub Inherits : State → ℕ → Act → Type 0
Inherits s t (Act.Inherit who a) =
    (x : ℕ) × (a ≡ to_addr (addr_of s.image x)) × IsTrue (pair_at s t x) × IsTrue (not (pair_at s who.0 x)) × (x ≢ own_row s.image t)
Inherits s t act = Unit {0}

abbrev pub IsOfItsCreator : State → Event → Type 0
IsOfItsCreator s event = Inherits s event.thread.0 event.act

-- an object that is recycled is gone, and no thread holds it
abbrev pub Recycles : State → Act → Type 0
Recycles s (Act.Recycle a) =
    (x : ℕ) × (a ≡ to_addr (addr_of s.image x)) × IsTrue (is_gone (object_at s x).status) × IsTrue (not (is_held s x))
Recycles s act = Unit {0}

abbrev pub IsUnheld : State → Event → Type 0
IsUnheld s event = Recycles s event.act
