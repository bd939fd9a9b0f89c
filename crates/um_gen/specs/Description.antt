-- A generated description: eight threads with scripts of drawn lines over four semaphores and two message queues.
use Rattle.std.specs.Prelude.{ℕ, ◌==◌, if◌then◌else◌, List, [], ◌∷◌, codes}
use Prim.Native.String.{String}
use Rattle.std.specs.List.{join_by}
use Rattle.rand_pcg.specs.Lcg.{Lcg}
use Rattle.um_gen.specs.Draws.{started_from, draw, drawn}
use Rattle.um_gen.specs.Pieces.{Piece, plain, number, drawn_number, drawn_offset, in_turn, each}

abbrev pub words : String → Piece
words text = plain (codes text)

-- what stands before the objects
unfoldable pub head : Piece
head = in_turn (
    words "version = 1\nmpu = \"pmsav7\"\nregions = 8\noops = \"abort\"\n"
    ∷ words "pool = [{name = \"heap\", size = 4096}]\n"
    ∷ words "partition = [{name = \"p0\", size = 256, attr = \"P_RW_U_RW\"}, {name = \"p1\", size = 256, attr = \"P_RW_U_RO\"}]\n"
    ∷ words "domain = [{name = \"d0\", partitions = [\"p0\", \"p1\"]}, {name = \"d1\", partitions = [\"p1\"]}]\n"
    ∷ [])

-- the i-th thread and its stack
unfoldable pub thread : ℕ → Piece
thread i = in_turn (
    words "{name = \"t" ∷ number i ∷ words "\", kind = \"thread\"},\n"
    ∷ words "{name = \"k" ∷ number i ∷ words "\", kind = \"thread_stack\", size = 128},\n" ∷ [])

unfoldable pub semaphore : ℕ → Piece
semaphore j = in_turn (words "{name = \"s" ∷ number j ∷ words "\", kind = \"sem\", count = 1, limit = 4},\n" ∷ [])

unfoldable pub queue : ℕ → Piece
queue j = in_turn (words "{name = \"q" ∷ number j ∷ words "\", kind = \"msgq\", msg_size = 4, max_msgs = 4},\n" ∷ [])

unfoldable pub objects : Piece
objects = in_turn (words "object = [\n" ∷ each thread 8 ∷ each semaphore 4 ∷ each queue 2 ∷ words "]\n" ∷ [])

-- of these names each is kept where a draw of 8 isn't 0
abbrev pub kept : List (List ℕ) → Lcg → List (List ℕ) × Lcg
kept [] g = ([], g)
kept (name ∷ names) g =
    let rest = kept names (drawn g) in
    (if draw 8 g == 0 then rest.0 else name ∷ rest.0, rest.1)

-- those, with a comma and a space between each two
abbrev pub kept_text : List (List ℕ) → Piece
kept_text names g = let some = kept names g in (join_by (λ (name : List ℕ). name) (codes ", ") some.0, some.1)

-- what a thread may be granted
abbrev pub grantable : List (List ℕ)
grantable = codes "\"s0\"" ∷ codes "\"s1\"" ∷ codes "\"s2\"" ∷ codes "\"s3\"" ∷ codes "\"q0\"" ∷ codes "\"q1\"" ∷ []

-- what it is granted
unfoldable pub grants : Piece
grants = kept_text grantable

-- the i-th thread's boot entry
unfoldable pub boot : ℕ → Piece
boot i = in_turn (
    words "[[boot]]\nthread = \"t" ∷ number i ∷ words "\"\nstack = \"k" ∷ number i ∷ words "\"\nscript = \"c" ∷ number i
    ∷ words "\"\npriority = " ∷ number i ∷ words "\ndomain = \"d" ∷ drawn_number 2 ∷ words "\"\npool = \"heap\"\ngrants = ["
    ∷ grants ∷ words "]\n" ∷ [])

-- what the i-th script does in a drawn line
abbrev pub take : Piece
take = in_turn (words "k_sem_take @s" ∷ drawn_number 4 ∷ words " K_NO_WAIT" ∷ [])

abbrev pub give : Piece
give = in_turn (words "k_sem_give @s" ∷ drawn_number 4 ∷ [])

abbrev pub store : ℕ → Piece
store i = in_turn (words "store @k" ∷ number i ∷ words "+" ∷ drawn_offset ∷ words " 4 " ∷ drawn_number 65536 ∷ [])

abbrev pub load : ℕ → Piece
load i = in_turn (words "load r0 @k" ∷ number i ∷ words "+" ∷ drawn_offset ∷ words " 4" ∷ [])

abbrev pub send : ℕ → Piece
send i = in_turn (words "k_msgq_put @q" ∷ drawn_number 2 ∷ words " @k" ∷ number i ∷ words " K_NO_WAIT" ∷ [])

abbrev pub receive : ℕ → Piece
receive i = in_turn (words "k_msgq_get @q" ∷ drawn_number 2 ∷ words " @k" ∷ number i ∷ words " K_NO_WAIT" ∷ [])

-- the call that a draw of 6 chooses
abbrev pub call : ℕ → ℕ → Piece
call i d =
    if d == 0 then take else if d == 1 then give else if d == 2 then store i
    else if d == 3 then load i else if d == 4 then send i else receive i

unfoldable pub drawn_call : ℕ → Piece
drawn_call i g = call i (draw 6 g) (drawn g)

-- a drawn line of the i-th script
unfoldable pub drawn_line : ℕ → Piece
drawn_line i = in_turn (words "\"" ∷ drawn_call i ∷ words "\",\n" ∷ [])

-- the i-th script
unfoldable pub script : ℕ → Piece
script i = in_turn (
    words "[[script]]\nname = \"c" ∷ number i ∷ words "\"\nlines = [\n"
    ∷ words "\"k_object_alloc sem r1\",\n\"k_sem_init r1 1 1\",\n\"k_object_release r1\",\n\"repeat 20\",\n"
    ∷ each (λ line. drawn_line i) 30 ∷ words "\"end\",\n]\n" ∷ [])

unfoldable pub whole : Piece
whole = in_turn (head ∷ objects ∷ each boot 8 ∷ each script 8 ∷ [])

-- the description of a number
unfoldable pub description : ℕ → List ℕ
description number = (whole (started_from number)).0
