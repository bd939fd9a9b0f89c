-- Where objects stand: the addresses of rows, the rows at addresses, and the thread indices of thread objects.
use Rattle.std.specs.Prelude.{ℕ, ◌+◌, ◌-◌, ◌*◌, ◌/◌, ◌%◌, Bool, false, ◌==◌, ◌&&◌, nat_lt, nat_le, if◌then◌else◌, map, Option, Some, None, unwrap_or, position, slice_get, slice_index_or}
use Rattle.std.specs.Option.{option_and_then}
use Rattle.um_base.specs.declared.limits.TheConstants.{STATIC_THREADS, STATIC_ROWS, ROWS, THREADS, DYNAMIC_OBJECTS, OBJECT_STEP}
use Rattle.um_base.specs.declared.names.Kind.{Kind}
use Rattle.um_base.specs.declared.image.Image.{Image}
use Rattle.um_base.specs.declared.image.ObjectDef.{ObjectDef}
use Rattle.um_base.specs.declared.image.Setup.{Setup}

-- the address of a row: a static object's own, or that of the dynamic row
abbrev pub addr_in : Option ObjectDef → ℕ → ℕ
addr_in None x = DYNAMIC_OBJECTS + OBJECT_STEP * (x - STATIC_ROWS)
addr_in (Some o) x = o.addr.0

abbrev pub addr_of : Image → ℕ → ℕ
addr_of image x = addr_in (slice_get image.objects x) x

-- the dynamic row at an address
abbrev pub dynamic_row : ℕ → Option ℕ
dynamic_row a =
    if nat_le DYNAMIC_OBJECTS a && nat_lt a (DYNAMIC_OBJECTS + OBJECT_STEP * (ROWS - STATIC_ROWS)) && (a - DYNAMIC_OBJECTS) % OBJECT_STEP == 0
    then Some (STATIC_ROWS + (a - DYNAMIC_OBJECTS) / OBJECT_STEP) else None

abbrev pub or_else : Option ℕ → Option ℕ → Option ℕ
or_else None other = other
or_else (Some x) other = Some x

-- the row whose address is exactly this
abbrev pub row_at : Image → ℕ → Option ℕ
row_at image a = or_else (position (λ (o : ObjectDef). o.addr.0 == a) image.objects) (dynamic_row a)

-- the kind of the j-th dynamic address
abbrev pub dynamic_kind_at : ℕ → Kind
dynamic_kind_at j =
    if nat_lt j 4 then Kind.Thread else if nat_lt j 12 then Kind.Sem else if nat_lt j 16 then Kind.Mutex
    else if nat_lt j 24 then Kind.Msgq else if nat_lt j 28 then Kind.Stack else Kind.Pipe

-- the kind of a dynamic row
abbrev pub dynamic_kind : ℕ → Kind
dynamic_kind x = dynamic_kind_at (x - STATIC_ROWS)

abbrev pub setup_at : Image → ℕ → Setup
setup_at image x = slice_index_or (map (λ (o : ObjectDef). o.setup) image.objects) x Setup.Bare

-- the thread index of a static thread object
abbrev pub setup_thread : Setup → Option ℕ
setup_thread (Setup.Thread index) = Some index.0
setup_thread _ = None

-- the thread index of a row: the indices behind those of static threads belong to the first dynamic rows
abbrev pub thread_of_row : Image → ℕ → Option ℕ
thread_of_row image x =
    if nat_lt x STATIC_ROWS then setup_thread (setup_at image x)
    else if nat_lt (STATIC_THREADS + (x - STATIC_ROWS)) THREADS then Some (STATIC_THREADS + (x - STATIC_ROWS)) else None

abbrev pub is_thread_index : ℕ → ObjectDef → Bool
is_thread_index t o = unwrap_or (option_and_then (λ (i : ℕ). Some (i == t)) (setup_thread o.setup)) false

-- the row of a thread's own object
abbrev pub own_row : Image → ℕ → ℕ
own_row image t =
    if nat_lt t STATIC_THREADS then unwrap_or (position (is_thread_index t) image.objects) 0 else STATIC_ROWS + (t - STATIC_THREADS)

-- the thread whose object is at an address
abbrev pub thread_of_addr : Image → ℕ → ℕ
thread_of_addr image a = unwrap_or (option_and_then (thread_of_row image) (row_at image a)) 0
