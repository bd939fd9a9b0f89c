-- The words of the texts: of each value the word that it is written as, and of a text the value that it names.
use Rattle.std.specs.Prelude.{ℕ, List, [], ◌∷◌, codes, bytes_eq, find, Bool, ◌==◌, ◌||◌, if◌then◌else◌, Option}
use Rattle.um_base.specs.Lawful.{is_name}
use Rattle.um_base.specs.declared.attr.Attr.{Attr}
use Rattle.um_base.specs.declared.names.Access.{Access}
use Rattle.um_base.specs.declared.names.Errno.{Errno}
use Rattle.um_base.specs.declared.names.Kind.{Kind}
use Rattle.um_base.specs.declared.names.Mode.{Mode}
use Rattle.um_base.specs.declared.names.Mpu.{Mpu}
use Rattle.um_base.specs.declared.names.Policy.{Policy}
use Rattle.um_base.specs.declared.names.Want.{Want}

-- what a place stands in: an object, a partition, or the read-only data
abbrev pub is_place_name : List ℕ → Bool
is_place_name bytes = is_name bytes || bytes_eq bytes (codes "rodata")

-- the one of these that a text spells
abbrev pub spelled : {A : Type 0} → (A → List ℕ) → List A → List ℕ → Option A
spelled spelling xs s = find (λ x. bytes_eq s (spelling x)) xs

-- the profile of the memory protection unit
abbrev pub mpu_word : Mpu → List ℕ
mpu_word Mpu.V7 = codes "pmsav7"
mpu_word Mpu.V8 = codes "pmsav8"

abbrev pub mpu_named : List ℕ → Option Mpu
mpu_named s = spelled mpu_word (Mpu.V7 ∷ Mpu.V8 ∷ []) s

-- what an oops does
abbrev pub policy_word : Policy → List ℕ
policy_word Policy.Abort = codes "abort"
policy_word Policy.Halt = codes "halt"

abbrev pub policy_named : List ℕ → Option Policy
policy_named s = spelled policy_word (Policy.Abort ∷ Policy.Halt ∷ []) s

-- whose rights a thread has
abbrev pub mode_word : Mode → List ℕ
mode_word Mode.User = codes "user"
mode_word Mode.Supervisor = codes "supervisor"

abbrev pub mode_named : List ℕ → Option Mode
mode_named s = spelled mode_word (Mode.User ∷ Mode.Supervisor ∷ []) s

-- the attributes of partitions by their names (Zephyr: User Mode, Memory Protection Design); other rights have none
abbrev pub attr_word : Attr → List ℕ
attr_word attr =
    if attr.0 == 27 then codes "P_RW_U_RW" else (if attr.0 == 11 then codes "P_RW_U_RO" else (if attr.0 == 3 then codes "P_RW_U_NA"
    else (if attr.0 == 9 then codes "P_RO_U_RO" else (if attr.0 == 1 then codes "P_RO_U_NA" else (if attr.0 == 45 then codes "P_RX_U_RX"
    else (if attr.0 == 63 then codes "P_RWX_U_RWX" else []))))))

-- a description gives all but the one that lets the same thread write and execute; a line of a script gives any
abbrev pub given_attrs : List Attr
given_attrs = record { 0 = 27 } ∷ record { 0 = 11 } ∷ record { 0 = 3 } ∷ record { 0 = 9 } ∷ record { 0 = 1 } ∷ record { 0 = 45 } ∷ []

abbrev pub attrs : List Attr
attrs =
    record { 0 = 27 } ∷ record { 0 = 11 } ∷ record { 0 = 3 } ∷ record { 0 = 9 } ∷ record { 0 = 1 } ∷ record { 0 = 45 } ∷ record { 0 = 63 } ∷ []

abbrev pub given_attr_named : List ℕ → Option Attr
given_attr_named s = spelled attr_word given_attrs s

abbrev pub attr_named : List ℕ → Option Attr
attr_named s = spelled attr_word attrs s

-- the kinds of objects
abbrev pub kind_word : Kind → List ℕ
kind_word Kind.Thread = codes "thread"
kind_word Kind.ThreadStack = codes "thread_stack"
kind_word Kind.Sem = codes "sem"
kind_word Kind.Mutex = codes "mutex"
kind_word Kind.Msgq = codes "msgq"
kind_word Kind.Stack = codes "stack"
kind_word Kind.Pipe = codes "pipe"
kind_word Kind.Timer = codes "timer"

-- a line of a script gives those that can be allocated: all but thread stacks and timers
abbrev pub dynamic_kinds : List Kind
dynamic_kinds = Kind.Thread ∷ Kind.Sem ∷ Kind.Mutex ∷ Kind.Msgq ∷ Kind.Stack ∷ Kind.Pipe ∷ []

abbrev pub kinds : List Kind
kinds = Kind.Thread ∷ Kind.ThreadStack ∷ Kind.Sem ∷ Kind.Mutex ∷ Kind.Msgq ∷ Kind.Stack ∷ Kind.Pipe ∷ Kind.Timer ∷ []

abbrev pub dynamic_kind_named : List ℕ → Option Kind
dynamic_kind_named s = spelled kind_word dynamic_kinds s

abbrev pub kind_named : List ℕ → Option Kind
kind_named s = spelled kind_word kinds s

-- Words that only traces have: no text that is read gives them.

abbrev pub errno_word : Errno → List ℕ
errno_word Errno.EPERM = codes "EPERM"
errno_word Errno.EBADF = codes "EBADF"
errno_word Errno.EINVAL = codes "EINVAL"
errno_word Errno.EADDRINUSE = codes "EADDRINUSE"
errno_word Errno.EFAULT = codes "EFAULT"
errno_word Errno.EBUSY = codes "EBUSY"
errno_word Errno.EAGAIN = codes "EAGAIN"
errno_word Errno.ENOMEM = codes "ENOMEM"
errno_word Errno.ENOMSG = codes "ENOMSG"
errno_word Errno.ENOSPC = codes "ENOSPC"
errno_word Errno.ENOENT = codes "ENOENT"
errno_word Errno.EPIPE = codes "EPIPE"
errno_word Errno.ECANCELED = codes "ECANCELED"
errno_word Errno.EDEADLK = codes "EDEADLK"
errno_word Errno.EACCES = codes "EACCES"
errno_word Errno.ETIMEDOUT = codes "ETIMEDOUT"

abbrev pub errnos : List Errno
errnos =
    Errno.EPERM ∷ Errno.EBADF ∷ Errno.EINVAL ∷ Errno.EADDRINUSE ∷ Errno.EFAULT ∷ Errno.EBUSY ∷ Errno.EAGAIN ∷ Errno.ENOMEM ∷ Errno.ENOMSG
    ∷ Errno.ENOSPC ∷ Errno.ENOENT ∷ Errno.EPIPE ∷ Errno.ECANCELED ∷ Errno.EDEADLK ∷ Errno.EACCES ∷ Errno.ETIMEDOUT ∷ []

abbrev pub errno_named : List ℕ → Option Errno
errno_named s = spelled errno_word errnos s

-- the state of an object that a check asks for
abbrev pub want_word : Want → List ℕ
want_word Want.Init = codes "init"
want_word Want.Uninit = codes "uninit"
want_word Want.Any = codes "any"

abbrev pub want_named : List ℕ → Option Want
want_named s = spelled want_word (Want.Init ∷ Want.Uninit ∷ Want.Any ∷ []) s

-- what an instruction does with memory
abbrev pub access_word : Access → List ℕ
access_word Access.Read = codes "read"
access_word Access.Write = codes "write"
access_word Access.Exec = codes "exec"

abbrev pub access_named : List ℕ → Option Access
access_named s = spelled access_word (Access.Read ∷ Access.Write ∷ Access.Exec ∷ []) s
