-- The names in script lines: where they stand in a line, and what they name.
use Rattle.std.specs.Prelude.{ℕ, zero, suc, ◌+◌, List, [], ◌∷◌, ◌++◌, map, filter, Bool, codes, bytes_eq, ◌&&◌, ◌||◌, not, length, ◌==◌}
use Rattle.um_base.specs.declared.instr.Instr.{Instr}
use Rattle.um_base.specs.declared.names.PartRef.{PartRef}
use Rattle.um_base.specs.declared.names.Ref.{Ref}
use Rattle.um_base.specs.declared.names.Term.{Term}
use Rattle.std.specs.List.{list_any}
use Rattle.um_document.specs.declared.description.Description.{Description}
use Rattle.um_document.specs.declared.description.PartitionEntry.{PartitionEntry}
use Rattle.um_script.specs.Words.{Words, ends, word, words_of_line}
use Rattle.um_description.specs.declared.mentions.Wanted.{Wanted}
use Rattle.um_description.specs.Names.{Text, is_among, variable_names, partition_names, domain_names, object_names, script_names, futex_names}

-- a name, the number of its word in the line, counted from 0, and what it is to name
pub record Mention : Type 0 where
  pub at : ℕ
  pub wanted : Wanted
  pub name : Text

abbrev pub in_term : ℕ → Term → List Mention
in_term at (Term.Place name offset) = record { at = at; wanted = Wanted.Place; name = name } ∷ []
in_term at _ = []

abbrev pub in_ref : Wanted → ℕ → Ref → List Mention
in_ref wanted at (Ref.Named name) = record { at = at; wanted = wanted; name = name } ∷ []
in_ref wanted at (Ref.At i) = []

abbrev pub in_part : ℕ → PartRef → List Mention
in_part at (PartRef.Named name) = record { at = at; wanted = Wanted.Partition; name = name } ∷ []
in_part at _ = []

abbrev pub in_parts : ℕ → List PartRef → List Mention
in_parts at [] = []
in_parts at (p ∷ ps) = in_part at p ++ in_parts (at + 1) ps

-- the names of an instruction, from the left
abbrev pub mentions : Instr → List Mention
mentions (Instr.Set to value) = in_term 2 value
mentions (Instr.Add to value) = in_term 2 value
mentions (Instr.Load to addr size) = in_term 2 addr
mentions (Instr.Store addr size value) = in_term 1 addr ++ in_term 3 value
mentions (Instr.Exec addr) = in_term 1 addr
mentions (Instr.DomainInit m parts) = in_ref Wanted.Domain 1 m ++ in_parts 2 parts
mentions (Instr.DomainAdd m part) = in_ref Wanted.Domain 1 m ++ in_part 2 part
mentions (Instr.DomainRemove m part) = in_ref Wanted.Domain 1 m ++ in_part 2 part
mentions (Instr.DomainMove m thread) = in_ref Wanted.Domain 1 m ++ in_term 2 thread
mentions (Instr.Grant object thread) = in_term 1 object ++ in_term 2 thread
mentions (Instr.Revoke object thread) = in_term 1 object ++ in_term 2 thread
mentions (Instr.Release object) = in_term 1 object
mentions (Instr.AllGrant object) = in_term 1 object
mentions (Instr.SemGive object) = in_term 1 object
mentions (Instr.SemReset object) = in_term 1 object
mentions (Instr.MutexInit object) = in_term 1 object
mentions (Instr.MutexUnlock object) = in_term 1 object
mentions (Instr.MsgqPurge object) = in_term 1 object
mentions (Instr.PipeReset object) = in_term 1 object
mentions (Instr.PipeClose object) = in_term 1 object
mentions (Instr.Create thread stack size s priority options) = in_term 1 thread ++ in_term 2 stack ++ in_term 3 size ++ in_ref Wanted.Script 4 s
mentions (Instr.UserMode s) = in_ref Wanted.Script 1 s
mentions (Instr.NameSet thread addr) = in_term 1 thread ++ in_term 2 addr
mentions (Instr.SemInit object count limit) = in_term 1 object ++ in_term 2 count ++ in_term 3 limit
mentions (Instr.SemTake object timeout) = in_term 1 object
mentions (Instr.MutexLock object timeout) = in_term 1 object
mentions (Instr.SemCount object to) = in_term 1 object
mentions (Instr.MsgqUsed object to) = in_term 1 object
mentions (Instr.MsgqInit object size most) = in_term 1 object ++ in_term 2 size ++ in_term 3 most
mentions (Instr.MsgqPut object addr timeout) = in_term 1 object ++ in_term 2 addr
mentions (Instr.MsgqGet object addr timeout) = in_term 1 object ++ in_term 2 addr
mentions (Instr.StackPop object addr timeout) = in_term 1 object ++ in_term 2 addr
mentions (Instr.MsgqPeek object addr) = in_term 1 object ++ in_term 2 addr
mentions (Instr.StackInit object entries) = in_term 1 object ++ in_term 2 entries
mentions (Instr.StackPush object value) = in_term 1 object ++ in_term 2 value
mentions (Instr.PipeInit object size) = in_term 1 object ++ in_term 2 size
mentions (Instr.PipeWrite object addr n timeout) = in_term 1 object ++ in_term 2 addr ++ in_term 3 n
mentions (Instr.PipeRead object addr n timeout) = in_term 1 object ++ in_term 2 addr ++ in_term 3 n
mentions (Instr.TimerStart object ticks) = in_term 1 object ++ in_term 2 ticks
mentions (Instr.TimerStop object) = in_term 1 object
mentions (Instr.TimerStatus object to) = in_term 1 object
mentions (Instr.TimerSync object to) = in_term 1 object
mentions (Instr.Abort thread) = in_term 1 thread
mentions (Instr.Join thread timeout) = in_term 1 thread
mentions (Instr.Suspend thread) = in_term 1 thread
mentions (Instr.Continue thread) = in_term 1 thread
mentions (Instr.FutexWait addr value timeout) = in_term 1 addr ++ in_term 2 value
mentions (Instr.FutexWake addr all) = in_term 1 addr
mentions _ = []

-- the column of a word of a line
abbrev pub column_at : Words → ℕ → ℕ
column_at (ends column) n = column
column_at (word bytes column rest) zero = column
column_at (word bytes column rest) (suc n) = column_at rest n

abbrev pub column_of : Text → ℕ → ℕ
column_of line n = column_at (words_of_line line) n

-- the read-only data has a name where there is any
abbrev pub names_rodata : Description → Text → Bool
names_rodata d name = bytes_eq name (codes "rodata") && not (length d.rodata == 0)

-- a partition lists a variable of this name
abbrev pub names_variable : List PartitionEntry → Text → Bool
names_variable ps name = list_any (λ (p : PartitionEntry). is_among name (variable_names p)) ps

abbrev pub is_known : Description → Wanted → Text → Bool
is_known d Wanted.Place name =
    is_among name (object_names d) || is_among name (partition_names d) || names_variable d.partitions name || names_rodata d name || is_among name (futex_names d)
is_known d Wanted.Domain name = is_among name (domain_names d)
is_known d Wanted.Partition name = is_among name (partition_names d)
is_known d Wanted.Script name = is_among name (script_names d)

abbrev pub is_stranger : Description → Mention → Bool
is_stranger d m = not (is_known d m.wanted m.name)

-- the words of names that name nothing of the kind wanted
unfoldable pub strangers : Description → List Mention → List ℕ
strangers d ms = map (λ (m : Mention). m.at) (filter (is_stranger d) ms)
