-- Which events leave nothing more to do, and which do.
use Rattle.std.specs.Prelude.{Bool, true, false, ◌||◌}
use Rattle.um_machine.specs.declared.pending.Pending.{Pending}

-- the thread needs nothing of what the site says: of an access to memory that reads nothing ..
abbrev pub is_access : Pending → Bool
is_access (Pending.Store addr size value) = true
is_access (Pending.Fetch addr) = true
is_access (Pending.Probe addr amount) = true
is_access _ = false

-- .. of a call on a domain, whose claim ends ..
abbrev pub is_edit : Pending → Bool
is_edit (Pending.DomInit domain parts) = true
is_edit (Pending.DomAdd domain range attr) = true
is_edit (Pending.DomRemove domain range attr) = true
is_edit (Pending.DomMove domain who) = true
is_edit _ = false

-- .. and of others
abbrev pub is_quiet : Pending → Bool
is_quiet (Pending.Grant who addr) = true
is_quiet (Pending.Own who) = true
is_quiet (Pending.Publish addr) = true
is_quiet (Pending.Born addr) = true
is_quiet (Pending.Erase stack) = true
is_quiet (Pending.Unbuffer size) = true
is_quiet (Pending.Start who script stack priority mode) = true
is_quiet (Pending.EnterUser script) = true
is_quiet (Pending.Dooms from) = true
is_quiet step = is_access step || is_edit step

-- the thread goes on at once: after an access to memory, a change of who may use an object or of its mark, a call on a domain, bytes that a
-- pool gives or gets, and after a thread is started, named or doomed, or drops into user mode
abbrev pub is_plain : Pending → Bool
is_plain (Pending.Load to addr size) = true
is_plain (Pending.CopyIn addr amount) = true
is_plain (Pending.CopyOut addr) = true
is_plain (Pending.CopyStr addr) = true
is_plain (Pending.Check addr kind want refusal) = true
is_plain (Pending.SetInit addr strict undo) = true
is_plain (Pending.Reserve kind) = true
is_plain (Pending.Buffer size) = true
is_plain (Pending.Named who) = true
is_plain (Pending.Arm ticks) = true
is_plain (Pending.ArmTimer ticks) = true
is_plain (Pending.Abort who) = true
is_plain (Pending.Suspend who) = true
is_plain (Pending.Continue who) = true
is_plain (Pending.Join who timeout) = true
is_plain (Pending.FutexWait addr value timeout) = true
is_plain step = is_quiet step

-- claims end
abbrev pub ends_claims : Pending → Bool
ends_claims (Pending.Answer reply to) = true
ends_claims (Pending.Fatal reason cause) = true
ends_claims (Pending.ClearInit addr) = true
ends_claims Pending.Killed = true
ends_claims _ = false
