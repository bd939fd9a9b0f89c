-- How threads, objects, domains, ranges and replies are shown.
use Rattle.std.specs.Prelude.{ℕ, ◌-◌, List, [], ◌++◌, codes, decimal, Option, Some, None, slice_get}
use Rattle.um_base.specs.declared.attr.Attr.{Attr}
use Rattle.um_base.specs.declared.image.DomainDef.{DomainDef}
use Rattle.um_base.specs.declared.image.Image.{Image}
use Rattle.um_base.specs.declared.image.ObjectDef.{ObjectDef}
use Rattle.um_base.specs.declared.image.Script.{Script}
use Rattle.um_base.specs.declared.limits.TheConstants.{STATIC_ROWS}
use Rattle.um_base.specs.declared.names.Range.{Range}
use Rattle.um_base.specs.declared.names.Reply.{Reply}
use Rattle.um_base.specs.Places.{row_at, own_row}
use Rattle.um_trace.specs.Digits.{address}
use Rattle.um_vocabulary.specs.Words.{errno_word, attr_word}

-- the object of a row: a static one by its name, the dynamic address j as #j
abbrev pub row_in : Option ObjectDef → ℕ → List ℕ
row_in (Some o) x = o.name
row_in None x = codes "#" ++ decimal (x - STATIC_ROWS)

unfoldable pub row_text : Image → ℕ → List ℕ
row_text image x = row_in (slice_get image.objects x) x

-- a thread, by its thread object
unfoldable pub thread_text : Image → ℕ → List ℕ
thread_text image t = row_text image (own_row image t)

-- an object by its address, which is shown as it is where no object stands at it
abbrev pub object_in : Image → ℕ → Option ℕ → List ℕ
object_in image a (Some x) = row_text image x
object_in image a None = address a

unfoldable pub object_text : Image → ℕ → List ℕ
object_text image a = object_in image a (row_at image a)

abbrev pub domain_in : Option DomainDef → List ℕ
domain_in (Some domain) = domain.name
domain_in None = []

unfoldable pub domain_text : Image → ℕ → List ℕ
domain_text image d = domain_in (slice_get image.domains d)

abbrev pub script_in : Option Script → List ℕ
script_in (Some script) = script.name
script_in None = []

unfoldable pub script_text : Image → ℕ → List ℕ
script_text image i = script_in (slice_get image.scripts i)

-- a range with its rights
unfoldable pub part_text : Range → Attr → List ℕ
part_text range attr = address range.start.0 ++ codes "/" ++ decimal range.size ++ codes "/" ++ attr_word attr

unfoldable pub reply_text : Image → Reply → List ℕ
reply_text image Reply.Void = codes "void"
reply_text image (Reply.Num n) = decimal n
reply_text image (Reply.At a) = object_text image a.0
reply_text image Reply.Null = codes "NULL"
reply_text image (Reply.Fail e) = errno_word e
