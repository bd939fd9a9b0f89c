-- What the words of a question name: objects, threads and places, as trace lines and descriptions name them.
use Rattle.std.specs.Prelude.{ℕ, ◌-◌, Bool, nat_lt, if◌then◌else◌, List, ◌++◌, bytes_eq, codes, decimal, Option, Some, None, find, position}
use Rattle.std.specs.List.{range_with_len}
use Rattle.std.specs.Option.{option_and_then, option_map}
use Rattle.um_base.specs.declared.image.Image.{Image}
use Rattle.um_base.specs.declared.image.ObjectDef.{ObjectDef}
use Rattle.um_base.specs.declared.image.Partition.{Partition}
use Rattle.um_base.specs.declared.image.Setup.{Setup}
use Rattle.um_base.specs.declared.limits.TheConstants.{OBJECT_STEP, ROWS, STATIC_ROWS, THREADS}
use Rattle.um_base.specs.declared.names.Range.{Range}
use Rattle.um_base.specs.Places.{addr_of, setup_at, thread_of_row}
use Rattle.um_question.specs.Numbers.{range_spelled}

-- the second, where the first is none
abbrev pub otherwise : {A : Type 0} → Option A → Option A → Option A
otherwise None other = other
otherwise (Some x) other = Some x

-- the row of a static object: by its name
abbrev pub static_named : Image → List ℕ → Option ℕ
static_named image word = position (λ (o : ObjectDef). bytes_eq word o.name) image.objects

-- the row of the dynamic address j: by #j
abbrev pub is_dynamic_name : List ℕ → ℕ → Bool
is_dynamic_name word x = bytes_eq word (codes "#" ++ decimal (x - STATIC_ROWS))

abbrev pub dynamic_named : List ℕ → Option ℕ
dynamic_named word = find (is_dynamic_name word) (range_with_len STATIC_ROWS (ROWS - STATIC_ROWS))

-- the row of an object
abbrev pub row_named : Image → List ℕ → Option ℕ
row_named image word = otherwise (static_named image word) (dynamic_named word)

-- a thread, by the row of its object
abbrev pub thread_index : ℕ → Option ℕ
thread_index t = if nat_lt t THREADS then Some t else None

abbrev pub thread_named : Image → List ℕ → Option ℕ
thread_named image word = option_and_then (λ (x : ℕ). option_and_then thread_index (thread_of_row image x)) (row_named image word)

-- the range of a partition: by its name
abbrev pub partition_named : Image → List ℕ → Option Range
partition_named image word = option_map (λ (p : Partition). p.range) (find (λ (p : Partition). bytes_eq word p.name) image.partitions)

-- where an object stands: the bytes of a thread stack, or those from another object's address to the next one's
abbrev pub object_range : ℕ → Setup → Range
object_range addr (Setup.ThreadStack range declared) = range
object_range addr _ = record { start = record { 0 = addr }; size = OBJECT_STEP }

abbrev pub object_place : Image → List ℕ → Option Range
object_place image word = option_map (λ (x : ℕ). object_range (addr_of image x) (setup_at image x)) (row_named image word)

-- a place: a partition, an object, or a range that the word itself spells
abbrev pub place_named : Image → List ℕ → Option Range
place_named image word = otherwise (partition_named image word) (otherwise (object_place image word) (range_spelled word))
