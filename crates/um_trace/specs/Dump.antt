-- What is printed of a state: its threads, objects, domains, pools and memory.
use Rattle.std.specs.Prelude.{ℕ, ◌+◌, ◌*◌, ◌/◌, Bool, true, false, ◌==◌, ◌||◌, not, nat_lt, if◌then◌else◌, List, [], ◌∷◌, ◌++◌, length, codes, decimal, filter, Option, Some, None, position, slice_get, slice_index, slice_index_or}
use Rattle.std.specs.Fmt.{signed_decimal}
use Rattle.std.specs.List.{flat_map, join_by, list_all, list_any, range_with_len, slice_range}
use Rattle.um_base.specs.declared.ask.Ask.{Ask}
use Rattle.um_base.specs.declared.ask.Waiter.{Waiter}
use Rattle.um_base.specs.declared.attr.Attr.{Attr}
use Rattle.um_base.specs.declared.image.Image.{Image}
use Rattle.um_base.specs.declared.image.Pool.{Pool}
use Rattle.um_base.specs.declared.limits.TheConstants.{ROWS, THREADS, PARTITION_AREA, STACK_AREA, AREA_SIZE}
use Rattle.um_base.specs.declared.names.Kind.{Kind}
use Rattle.um_base.specs.declared.names.Range.{Range}
use Rattle.um_base.specs.declared.names.ThreadIx.{ThreadIx}
use Rattle.um_base.specs.Places.{thread_of_row}
use Rattle.um_base.specs.Regions.{Partitions}
use Rattle.um_machine.specs.declared.contents.Contents.{Contents}
use Rattle.um_machine.specs.declared.object.Object.{Object}
use Rattle.um_machine.specs.declared.thread.Life.{Life}
use Rattle.um_machine.specs.declared.thread.Thread.{Thread}
use Rattle.um_machine.specs.State.{State, thread_at, object_at, pair_at, is_started}
use Rattle.um_machine.specs.Objects.{is_free, is_gone}
use Rattle.um_machine.specs.Order.{to_row}
use Rattle.um_trace.specs.declared.dump.standing.Standing.{Standing}
use Rattle.um_trace.specs.Digits.{address, hex2}
use Rattle.um_trace.specs.Words.{any_kind_word}
use Rattle.um_vocabulary.specs.Words.{mode_word}
use Rattle.um_trace.specs.Names.{row_text, thread_text, domain_text, part_text}

-- the numbers below n, ascending
unfoldable pub numbers : ℕ → List ℕ
numbers n = range_with_len 0 n

-- whether a row is shown: one of a static object, or a dynamic one that isn't free
unfoldable pub is_shown : Image → State → ℕ → Bool
is_shown image s x = nat_lt x (length image.objects) || not (is_free (object_at s x).status)

-- these, with a comma before each but the first
abbrev pub joined : {A : Type 0} → (A → List ℕ) → List A → List ℕ
joined f xs = join_by f (codes ",") xs

-- the same, or a dash for none
abbrev pub listed : {A : Type 0} → (A → List ℕ) → List A → List ℕ
listed f [] = codes "-"
listed f (x ∷ xs) = joined f (x ∷ xs)

-- what stands before a piece of such a list
abbrev pub lead : Bool → List ℕ
lead true = []
lead false = codes ","

-- a share: a count, and the number that it is out of
unfoldable pub share_text : ℕ → ℕ → List ℕ
share_text part whole = decimal part ++ codes "/" ++ decimal whole

-- Threads.

abbrev pub is_waiter : ℕ → Waiter → Bool
is_waiter t waiter = waiter.thread.0 == t

-- the row of the object in whose list of waiters a thread stands
abbrev pub awaited : List Object → ℕ → Option ℕ
awaited objects t = position (λ (o : Object). list_any (is_waiter t) o.waiters) objects

-- what a thread asks that stands in a list of waiters
abbrev pub asked_in : ℕ → List Waiter → Option Ask
asked_in t [] = None
asked_in t (w ∷ ws) = if is_waiter t w then Some w.ask else asked_in t ws

-- how a thread is that waits for no object, by what it asks among those who wait for an end, and among those who wait on a futex
abbrev pub watches : Option Ask → Standing
watches (Some (Ask.FutexWait a)) = Standing.Watches a
watches _ = Standing.Ready

abbrev pub joins_or : Option Ask → Standing → Standing
joins_or (Some (Ask.Join who)) other = Standing.Joins who
joins_or _ other = other

abbrev pub waits : Option ℕ → Standing → Standing
waits (Some x) other = Standing.Waits (to_row x)
waits None other = other

abbrev pub is_ended : Life → Bool
is_ended Life.Ended = true
is_ended _ = false

-- how a thread is: the first of these that holds
unfoldable pub standing_of : State → ℕ → Thread → Standing
standing_of s t me =
    if not (is_started me.life) then Standing.Unborn else if me.doomed then Standing.Doomed
    else if is_ended me.life then Standing.Ended
    else waits (awaited s.objects t) (joins_or (asked_in t s.joins) (watches (asked_in t s.futexes)))

unfoldable pub standing_text : Image → Standing → List ℕ
standing_text image Standing.Unborn = codes "unborn"
standing_text image Standing.Doomed = codes "doomed"
standing_text image Standing.Ended = codes "ended"
standing_text image (Standing.Waits row) = codes "waits:" ++ row_text image row.0
standing_text image (Standing.Joins who) = codes "waits:" ++ thread_text image who.0
standing_text image (Standing.Watches a) = codes "waits:" ++ address a.0
standing_text image Standing.Ready = codes "ready"

-- the mode, the priority and the domain of a thread that was started
unfoldable pub rights_text : Image → Thread → List ℕ
rights_text image me =
    if is_started me.life then codes " " ++ mode_word me.mode ++ codes " " ++ signed_decimal me.priority ++ codes " " ++ domain_text image me.domain
    else []

-- what follows the object of a thread
unfoldable pub life_text : Image → State → ℕ → Thread → List ℕ
life_text image s t me = standing_text image (standing_of s t me) ++ rights_text image me

unfoldable pub thread_line : Image → State → ℕ → ℕ → List ℕ
thread_line image s x t = codes "thread " ++ row_text image x ++ codes " " ++ life_text image s t (thread_at s t) ++ codes "\n"

abbrev pub thread_line_in : Image → State → ℕ → Option ℕ → List ℕ
thread_line_in image s x (Some t) = thread_line image s x t
thread_line_in image s x None = []

-- the thread that is shown for a row: the one whose object stands there
unfoldable pub shown_thread : Image → State → ℕ → Option ℕ
shown_thread image s x = if is_shown image s x then thread_of_row image x else None

-- its line
unfoldable pub thread_line_of : Image → State → ℕ → List ℕ
thread_line_of image s x = thread_line_in image s x (shown_thread image s x)

-- the lines of all threads, by the rows of their objects
unfoldable pub threads_text : Image → State → List ℕ
threads_text image s = flat_map (thread_line_of image s) (numbers ROWS)

-- Objects.

unfoldable pub state_word : Object → List ℕ
state_word o = if is_gone o.status then codes "gone" else if o.init then codes "init" else codes "uninit"

unfoldable pub flag_word : Bool → List ℕ
flag_word true = codes "public"
flag_word false = codes "private"

-- an object's kind, state and flag
unfoldable pub marks_text : Object → List ℕ
marks_text o = any_kind_word o.kind ++ codes " " ++ state_word o ++ codes " " ++ flag_word o.public

-- the threads with an index below n that have a pair with an object, ascending
abbrev pub holders_below : State → ℕ → ℕ → List ℕ
holders_below s x n = filter (λ t. pair_at s t x) (numbers n)

unfoldable pub holders_text : Image → State → ℕ → List ℕ
holders_text image s x = listed (thread_text image) (holders_below s x THREADS)

unfoldable pub owner_text : Image → Option ThreadIx → ℕ → List ℕ
owner_text image None depth = codes "free"
owner_text image (Some owner) depth = thread_text image owner.0 ++ codes "*" ++ decimal depth

-- what an initialised object keeps
unfoldable pub kept_text : Image → Contents → List ℕ
kept_text image Contents.Nothing = codes "-"
kept_text image (Contents.Named name) = codes "-"
kept_text image (Contents.Sem count limit) = share_text count limit
kept_text image (Contents.Mutex owner depth) = owner_text image owner depth
kept_text image (Contents.Msgq q) = share_text (length q.messages) q.most
kept_text image (Contents.Stack s) = share_text (length s.values) s.most
kept_text image (Contents.Pipe p) = if p.closed then codes "closed" else share_text (length p.bytes) p.size
kept_text image (Contents.Stopped status) = decimal status ++ codes "/stopped"
kept_text image (Contents.Running deadline) = codes "0/running"

-- a name in digits, or a dash for none
unfoldable pub digits_text : List ℕ → List ℕ
digits_text [] = codes "-"
digits_text (b ∷ bs) = flat_map hex2 (b ∷ bs)

-- a thread's name, which stays when the thread ends
unfoldable pub name_text : Contents → List ℕ
name_text (Contents.Named name) = digits_text name
name_text _ = codes "-"

abbrev pub is_thread : Option Kind → Bool
is_thread (Some Kind.Thread) = true
is_thread _ = false

unfoldable pub content_text : Image → Object → List ℕ
content_text image o =
    if is_gone o.status then codes "-" else if is_thread o.kind then name_text o.contents
    else if o.init then kept_text image o.contents else codes "-"

unfoldable pub object_line : Image → State → ℕ → List ℕ
object_line image s x =
    codes "object " ++ row_text image x ++ codes " " ++ marks_text (object_at s x) ++ codes " " ++ holders_text image s x ++ codes " "
    ++ content_text image (object_at s x) ++ codes "\n"

-- the line of a row, where an object stands there
unfoldable pub object_line_of : Image → State → ℕ → List ℕ
object_line_of image s x = if is_shown image s x then object_line image s x else []

-- Domains and pools.

abbrev pub part_of : Range × Attr → List ℕ
part_of part = part_text part.0 part.1

unfoldable pub parts_text : Option Partitions → List ℕ
parts_text None = codes "uninit"
parts_text (Some parts) = listed part_of parts

unfoldable pub domain_line : Image → State → ℕ → List ℕ
domain_line image s d = codes "domain " ++ domain_text image d ++ codes " " ++ parts_text (slice_index_or s.domains d None) ++ codes "\n"

-- a pool: what is left of its bytes
unfoldable pub pool_text : Pool → ℕ → List ℕ
pool_text pool left = codes "pool " ++ pool.name ++ codes " " ++ share_text left pool.size ++ codes "\n"

abbrev pub pool_line_in : Option Pool → ℕ → List ℕ
pool_line_in (Some pool) left = pool_text pool left
pool_line_in None left = []

unfoldable pub pool_line : Image → State → ℕ → List ℕ
pool_line image s i = pool_line_in (slice_get image.pools i) (slice_index s.pools i)

-- Memory.

-- the k-th 32 bytes of an area
unfoldable pub block : List ℕ → ℕ → List ℕ
block bytes k = slice_range bytes (32 * k) (32 * k + 32)

-- their line, unless they are all zero
unfoldable pub block_line : ℕ → List ℕ → ℕ → List ℕ
block_line area bytes k =
    if list_all (λ b. b == 0) (block bytes k) then []
    else codes "memory " ++ address (area + 32 * k) ++ codes " " ++ flat_map hex2 (block bytes k) ++ codes "\n"

-- the lines of an area, which has a block for each 32 of its bytes
unfoldable pub area_lines : ℕ → List ℕ → List ℕ
area_lines area bytes = flat_map (block_line area bytes) (numbers (AREA_SIZE / 32))

-- The dump: threads by index, objects by row, domains, pools, and both areas of memory.
unfoldable pub dump : Image → State → List ℕ
dump image s =
    codes "dump\n" ++ flat_map (thread_line_of image s) (numbers ROWS) ++ flat_map (object_line_of image s) (numbers ROWS)
    ++ flat_map (domain_line image s) (numbers (length image.domains)) ++ flat_map (pool_line image s) (numbers (length image.pools))
    ++ area_lines PARTITION_AREA s.memory ++ area_lines STACK_AREA s.stacks
