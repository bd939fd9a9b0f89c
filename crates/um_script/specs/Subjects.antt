-- What instructions are about, as their words begin.
use Rattle.std.specs.Prelude.{ℕ, List, take, length, codes, bytes_eq, Bool, true, false, ◌||◌}
use Rattle.um_script.specs.declared.mnemonic.Mnemonic.{Mnemonic}
use Rattle.um_script.specs.Instructions.{spelling}

-- its word begins so
abbrev pub is_of : List ℕ → Mnemonic → Bool
is_of family mnemonic = bytes_eq (take (length family) (spelling mnemonic)) family

-- calls the kernel
abbrev pub is_call : Mnemonic → Bool
is_call mnemonic = is_of (codes "k_") mnemonic

-- calls a service by which threads pass data
abbrev pub is_data_passing : Mnemonic → Bool
is_data_passing mnemonic = is_of (codes "k_msgq_") mnemonic || is_of (codes "k_stack_") mnemonic || is_of (codes "k_pipe_") mnemonic

-- calls one of the five services, or a timer
abbrev pub is_service : Mnemonic → Bool
is_service mnemonic = is_of (codes "k_sem_") mnemonic || is_of (codes "k_mutex_") mnemonic || is_of (codes "k_timer_") mnemonic || is_data_passing mnemonic

-- stops another thread, lets it go on, or waits for its end
abbrev pub is_stop : Mnemonic → Bool
is_stop Mnemonic.Abort = true
is_stop Mnemonic.Join = true
is_stop Mnemonic.Suspend = true
is_stop Mnemonic.Continue = true
is_stop _ = false

-- waits on a futex, or wakes who waits on one
abbrev pub is_on_futex : Mnemonic → Bool
is_on_futex mnemonic = is_of (codes "k_futex_") mnemonic

-- is none of the calls that name memory domains, objects that are tracked, or new threads
abbrev pub is_later_call : Mnemonic → Bool
is_later_call mnemonic = is_stop mnemonic || is_on_futex mnemonic || is_service mnemonic
