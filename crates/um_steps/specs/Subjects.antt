-- What instructions are about.
use Rattle.std.specs.Prelude.{Bool, true, false, ◌||◌, not}
use Rattle.um_base.specs.declared.instr.Instr.{Instr}

-- loads, stores and executes in memory
abbrev pub is_access : Instr → Bool
is_access (Instr.Load to addr size) = true
is_access (Instr.Store addr size value) = true
is_access (Instr.Exec addr) = true
is_access _ = false

-- calls a memory domain
abbrev pub is_on_domain : Instr → Bool
is_on_domain (Instr.DomainInit domain parts) = true
is_on_domain (Instr.DomainAdd domain part) = true
is_on_domain (Instr.DomainRemove domain part) = true
is_on_domain (Instr.DomainMove domain thread) = true
is_on_domain _ = false

-- reserves an object, or changes who may use one
abbrev pub is_on_object : Instr → Bool
is_on_object (Instr.ObjectAlloc kind to) = true
is_on_object (Instr.Grant object thread) = true
is_on_object (Instr.Revoke object thread) = true
is_on_object (Instr.Release object) = true
is_on_object (Instr.AllGrant object) = true
is_on_object _ = false

-- creates a thread, drops into user mode or names a thread
abbrev pub is_on_thread : Instr → Bool
is_on_thread (Instr.Create thread stack size script priority options) = true
is_on_thread (Instr.UserMode script) = true
is_on_thread (Instr.NameSet thread addr) = true
is_on_thread _ = false

-- works out a register, goes on in a script, or fails
abbrev pub is_alone : Instr → Bool
is_alone (Instr.Set to value) = true
is_alone (Instr.Add to value) = true
is_alone Instr.End = true
is_alone (Instr.Repeat times) = true
is_alone Instr.Oops = true
is_alone Instr.Panic = true
is_alone _ = false

-- aborts, suspends or resumes a thread, or waits for its end
abbrev pub is_on_life : Instr → Bool
is_on_life (Instr.Abort thread) = true
is_on_life (Instr.Join thread timeout) = true
is_on_life (Instr.Suspend thread) = true
is_on_life (Instr.Continue thread) = true
is_on_life _ = false

-- calls a timer
abbrev pub is_on_timer : Instr → Bool
is_on_timer (Instr.TimerStart object ticks) = true
is_on_timer (Instr.TimerStop object) = true
is_on_timer (Instr.TimerStatus object to) = true
is_on_timer (Instr.TimerSync object to) = true
is_on_timer _ = false

-- waits on a futex, or wakes who waits on one
abbrev pub is_on_futex : Instr → Bool
is_on_futex (Instr.FutexWait addr value timeout) = true
is_on_futex (Instr.FutexWake addr all) = true
is_on_futex _ = false

-- calls a semaphore, a mutex, a message queue, a stack or a pipe
abbrev pub is_service : Instr → Bool
is_service instr =
    not (
    is_alone instr || is_access instr || is_on_domain instr || is_on_object instr || is_on_thread instr || is_on_life instr || is_on_timer instr
    || is_on_futex instr)
