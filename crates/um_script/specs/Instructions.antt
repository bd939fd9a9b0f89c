-- The instructions: the word of each, the forms of its operands, and what it is with their values.
use Rattle.std.specs.Prelude.{ℕ, List, [], ◌∷◌, codes, Bool, true, false}
use Rattle.um_base.specs.declared.instr.Instr.{Instr}
use Rattle.um_script.specs.declared.mnemonic.Mnemonic.{Mnemonic}
use Rattle.um_script.specs.Operands.{Times, Register, Size, AnyTerm, Named, Part, Parts, ObjectKind, Wait, HowMany, Priority, OptionSet, Syntax, takes, makes}

-- of each: the word that its line begins with; and its operands, from left to right, and what it is with their values
abbrev pub row : Mnemonic → List ℕ × Syntax
row Mnemonic.End = (codes "end", makes Instr.End)
row Mnemonic.Oops = (codes "k_oops", makes Instr.Oops)
row Mnemonic.Panic = (codes "k_panic", makes Instr.Panic)
row Mnemonic.Repeat = (codes "repeat", takes Times (λ times. makes (Instr.Repeat times)))
row Mnemonic.Set = (codes "set", takes Register (λ to. takes AnyTerm (λ value. makes (Instr.Set to value))))
row Mnemonic.Add = (codes "add", takes Register (λ to. takes AnyTerm (λ value. makes (Instr.Add to value))))
row Mnemonic.Load = (codes "load", takes Register (λ to. takes AnyTerm (λ addr. takes Size (λ size. makes (Instr.Load to addr size)))))
row Mnemonic.Store = (codes "store", takes AnyTerm (λ addr. takes Size (λ size. takes AnyTerm (λ value. makes (Instr.Store addr size value)))))
row Mnemonic.Exec = (codes "exec", takes AnyTerm (λ addr. makes (Instr.Exec addr)))
row Mnemonic.DomainInit = (codes "k_mem_domain_init", takes Named (λ domain. takes Parts (λ parts. makes (Instr.DomainInit domain parts))))
row Mnemonic.DomainAdd = (codes "k_mem_domain_add_partition", takes Named (λ domain. takes Part (λ part. makes (Instr.DomainAdd domain part))))
row Mnemonic.DomainRemove = (codes "k_mem_domain_remove_partition", takes Named (λ domain. takes Part (λ part. makes (Instr.DomainRemove domain part))))
row Mnemonic.DomainMove = (codes "k_mem_domain_add_thread", takes Named (λ domain. takes AnyTerm (λ thread. makes (Instr.DomainMove domain thread))))
row Mnemonic.ObjectAlloc = (codes "k_object_alloc", takes ObjectKind (λ kind. takes Register (λ to. makes (Instr.ObjectAlloc kind to))))
row Mnemonic.Grant = (codes "k_object_access_grant", takes AnyTerm (λ object. takes AnyTerm (λ thread. makes (Instr.Grant object thread))))
row Mnemonic.Revoke = (codes "k_object_access_revoke", takes AnyTerm (λ object. takes AnyTerm (λ thread. makes (Instr.Revoke object thread))))
row Mnemonic.Release = (codes "k_object_release", takes AnyTerm (λ object. makes (Instr.Release object)))
row Mnemonic.AllGrant = (codes "k_object_access_all_grant", takes AnyTerm (λ object. makes (Instr.AllGrant object)))
row Mnemonic.Create = (codes "k_thread_create", takes AnyTerm (λ thread. takes AnyTerm (λ stack. takes AnyTerm (λ size. takes Named (λ script. takes Priority (λ priority. takes OptionSet (λ options. makes (Instr.Create thread stack size script priority options))))))))
row Mnemonic.UserMode = (codes "k_thread_user_mode_enter", takes Named (λ script. makes (Instr.UserMode script)))
row Mnemonic.NameSet = (codes "k_thread_name_set", takes AnyTerm (λ thread. takes AnyTerm (λ addr. makes (Instr.NameSet thread addr))))
row Mnemonic.SemInit = (codes "k_sem_init", takes AnyTerm (λ object. takes AnyTerm (λ count. takes AnyTerm (λ limit. makes (Instr.SemInit object count limit)))))
row Mnemonic.SemTake = (codes "k_sem_take", takes AnyTerm (λ object. takes Wait (λ timeout. makes (Instr.SemTake object timeout))))
row Mnemonic.SemGive = (codes "k_sem_give", takes AnyTerm (λ object. makes (Instr.SemGive object)))
row Mnemonic.SemReset = (codes "k_sem_reset", takes AnyTerm (λ object. makes (Instr.SemReset object)))
row Mnemonic.SemCount = (codes "k_sem_count_get", takes AnyTerm (λ object. takes Register (λ to. makes (Instr.SemCount object to))))
row Mnemonic.MutexInit = (codes "k_mutex_init", takes AnyTerm (λ object. makes (Instr.MutexInit object)))
row Mnemonic.MutexLock = (codes "k_mutex_lock", takes AnyTerm (λ object. takes Wait (λ timeout. makes (Instr.MutexLock object timeout))))
row Mnemonic.MutexUnlock = (codes "k_mutex_unlock", takes AnyTerm (λ object. makes (Instr.MutexUnlock object)))
row Mnemonic.MsgqInit = (codes "k_msgq_alloc_init", takes AnyTerm (λ object. takes AnyTerm (λ msg_size. takes AnyTerm (λ max_msgs. makes (Instr.MsgqInit object msg_size max_msgs)))))
row Mnemonic.MsgqPut = (codes "k_msgq_put", takes AnyTerm (λ object. takes AnyTerm (λ addr. takes Wait (λ timeout. makes (Instr.MsgqPut object addr timeout)))))
row Mnemonic.MsgqGet = (codes "k_msgq_get", takes AnyTerm (λ object. takes AnyTerm (λ addr. takes Wait (λ timeout. makes (Instr.MsgqGet object addr timeout)))))
row Mnemonic.MsgqPeek = (codes "k_msgq_peek", takes AnyTerm (λ object. takes AnyTerm (λ addr. makes (Instr.MsgqPeek object addr))))
row Mnemonic.MsgqPurge = (codes "k_msgq_purge", takes AnyTerm (λ object. makes (Instr.MsgqPurge object)))
row Mnemonic.MsgqUsed = (codes "k_msgq_num_used_get", takes AnyTerm (λ object. takes Register (λ to. makes (Instr.MsgqUsed object to))))
row Mnemonic.StackInit = (codes "k_stack_alloc_init", takes AnyTerm (λ object. takes AnyTerm (λ entries. makes (Instr.StackInit object entries))))
row Mnemonic.StackPush = (codes "k_stack_push", takes AnyTerm (λ object. takes AnyTerm (λ value. makes (Instr.StackPush object value))))
row Mnemonic.StackPop = (codes "k_stack_pop", takes AnyTerm (λ object. takes AnyTerm (λ addr. takes Wait (λ timeout. makes (Instr.StackPop object addr timeout)))))
row Mnemonic.PipeInit = (codes "k_pipe_init", takes AnyTerm (λ object. takes AnyTerm (λ size. makes (Instr.PipeInit object size))))
row Mnemonic.PipeWrite = (codes "k_pipe_write", takes AnyTerm (λ object. takes AnyTerm (λ addr. takes AnyTerm (λ length. takes Wait (λ timeout. makes (Instr.PipeWrite object addr length timeout))))))
row Mnemonic.PipeRead = (codes "k_pipe_read", takes AnyTerm (λ object. takes AnyTerm (λ addr. takes AnyTerm (λ length. takes Wait (λ timeout. makes (Instr.PipeRead object addr length timeout))))))
row Mnemonic.PipeReset = (codes "k_pipe_reset", takes AnyTerm (λ object. makes (Instr.PipeReset object)))
row Mnemonic.PipeClose = (codes "k_pipe_close", takes AnyTerm (λ object. makes (Instr.PipeClose object)))
row Mnemonic.TimerStart = (codes "k_timer_start", takes AnyTerm (λ object. takes AnyTerm (λ ticks. makes (Instr.TimerStart object ticks))))
row Mnemonic.TimerStop = (codes "k_timer_stop", takes AnyTerm (λ object. makes (Instr.TimerStop object)))
row Mnemonic.TimerStatus = (codes "k_timer_status_get", takes AnyTerm (λ object. takes Register (λ to. makes (Instr.TimerStatus object to))))
row Mnemonic.TimerSync = (codes "k_timer_status_sync", takes AnyTerm (λ object. takes Register (λ to. makes (Instr.TimerSync object to))))
row Mnemonic.Abort = (codes "k_thread_abort", takes AnyTerm (λ thread. makes (Instr.Abort thread)))
row Mnemonic.Join = (codes "k_thread_join", takes AnyTerm (λ thread. takes Wait (λ timeout. makes (Instr.Join thread timeout))))
row Mnemonic.Suspend = (codes "k_thread_suspend", takes AnyTerm (λ thread. makes (Instr.Suspend thread)))
row Mnemonic.Continue = (codes "k_thread_resume", takes AnyTerm (λ thread. makes (Instr.Continue thread)))
row Mnemonic.FutexWait = (codes "k_futex_wait", takes AnyTerm (λ addr. takes AnyTerm (λ value. takes Wait (λ timeout. makes (Instr.FutexWait addr value timeout)))))
row Mnemonic.FutexWake = (codes "k_futex_wake", takes AnyTerm (λ addr. takes HowMany (λ all. makes (Instr.FutexWake addr all))))

abbrev pub spelling : Mnemonic → List ℕ
spelling mnemonic = (row mnemonic).0

abbrev pub syntax : Mnemonic → Syntax
syntax mnemonic = (row mnemonic).1

-- all, the shortest words first
abbrev pub mnemonics : List Mnemonic
mnemonics =
    Mnemonic.End ∷ Mnemonic.Set ∷ Mnemonic.Add
    ∷ Mnemonic.Load ∷ Mnemonic.Exec
    ∷ Mnemonic.Store
    ∷ Mnemonic.Oops ∷ Mnemonic.Repeat
    ∷ Mnemonic.Panic
    ∷ Mnemonic.SemInit ∷ Mnemonic.SemTake ∷ Mnemonic.SemGive ∷ Mnemonic.MsgqPut ∷ Mnemonic.MsgqGet
    ∷ Mnemonic.SemReset ∷ Mnemonic.MsgqPeek ∷ Mnemonic.StackPop ∷ Mnemonic.PipeInit ∷ Mnemonic.PipeRead
    ∷ Mnemonic.MutexInit ∷ Mnemonic.MutexLock ∷ Mnemonic.MsgqPurge ∷ Mnemonic.StackPush ∷ Mnemonic.PipeWrite ∷ Mnemonic.PipeReset ∷ Mnemonic.PipeClose ∷ Mnemonic.TimerStop ∷ Mnemonic.FutexWait ∷ Mnemonic.FutexWake
    ∷ Mnemonic.TimerStart ∷ Mnemonic.Join
    ∷ Mnemonic.ObjectAlloc ∷ Mnemonic.MutexUnlock ∷ Mnemonic.Abort
    ∷ Mnemonic.Create ∷ Mnemonic.SemCount ∷ Mnemonic.Continue
    ∷ Mnemonic.Release ∷ Mnemonic.Suspend
    ∷ Mnemonic.DomainInit ∷ Mnemonic.NameSet ∷ Mnemonic.MsgqInit
    ∷ Mnemonic.StackInit ∷ Mnemonic.TimerStatus ∷ Mnemonic.MsgqUsed ∷ Mnemonic.TimerSync ∷ Mnemonic.Grant ∷ Mnemonic.Revoke ∷ Mnemonic.DomainMove ∷ Mnemonic.UserMode ∷ Mnemonic.AllGrant ∷ Mnemonic.DomainAdd ∷ Mnemonic.DomainRemove ∷ []
