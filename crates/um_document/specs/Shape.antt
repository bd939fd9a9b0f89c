-- The shape of a description: which keys stand where, what their values are, and which of them have to be there.
use Rattle.std.specs.Prelude.{ℕ, List, [], ◌∷◌, codes}
use Rattle.um_base.specs.declared.names.Kind.{Kind}
use Rattle.um_document.specs.declared.shape.Choice.{Choice}
use Rattle.um_document.specs.declared.shape.Form.{Form}
use Rattle.um_document.specs.declared.shape.Key.{Key}
use Rattle.um_document.specs.declared.shape.Key.TheVariants as key
use Rattle.um_document.specs.declared.shape.Need.{Need}
use Rattle.um_document.specs.declared.shape.Section.{Section}

-- a key, what its value is, and whether it has to be there
abbrev pub Field : Type 0
Field = Key × Form × Need

-- a key as it is written
abbrev pub word : Key → List ℕ
word key.Version = codes "version"
word key.Mpu = codes "mpu"
word key.Regions = codes "regions"
word key.Oops = codes "oops"
word key.Rodata = codes "rodata"
word key.Pool = codes "pool"
word key.Partition = codes "partition"
word key.Domain = codes "domain"
word key.Object = codes "object"
word key.Boot = codes "boot"
word key.Script = codes "script"
word key.Name = codes "name"
word key.Size = codes "size"
word key.Attr = codes "attr"
word key.Data = codes "data"
word key.Vars = codes "vars"
word key.Align = codes "align"
word key.Partitions = codes "partitions"
word key.Kind = codes "kind"
word key.Public = codes "public"
word key.Count = codes "count"
word key.Limit = codes "limit"
word key.Init = codes "init"
word key.MsgSize = codes "msg_size"
word key.MaxMsgs = codes "max_msgs"
word key.Entries = codes "entries"
word key.Thread = codes "thread"
word key.Stack = codes "stack"
word key.Priority = codes "priority"
word key.Mode = codes "mode"
word key.Grants = codes "grants"
word key.Lines = codes "lines"
word key.Futex = codes "futex"
word key.Offset = codes "offset"

abbrev pub required : Key → Form → Field
required k form = (k, form, Need.Required)

abbrev pub optional : Key → Form → Field
optional k form = (k, form, Need.Optional)

-- a key that goes together with another
abbrev pub paired : Key → Form → Key → Field
paired k form other = (k, form, Need.With other)

abbrev pub top_fields : List Field
top_fields =
    required key.Version Form.Number
    ∷ required key.Mpu (Form.Word Choice.Mpu)
    ∷ required key.Regions Form.Number
    ∷ required key.Oops (Form.Word Choice.Policy)
    ∷ optional key.Rodata Form.Digits
    ∷ optional key.Pool Form.Tables
    ∷ optional key.Partition Form.Tables
    ∷ optional key.Domain Form.Tables
    ∷ optional key.Object Form.Tables
    ∷ optional key.Boot Form.Tables
    ∷ optional key.Script Form.Tables
    ∷ optional key.Futex Form.Tables
    ∷ []

-- the sections, in their order, where partitions have this form, each at its key
abbrev pub sections_with : Section → List Section
sections_with partitions = Section.Pool ∷ partitions ∷ Section.Domain ∷ Section.Object ∷ Section.Boot ∷ Section.Script ∷ Section.Futex ∷ []

abbrev pub section_key : Section → Key
section_key Section.Pool = key.Pool
section_key Section.Partition = key.Partition
section_key Section.PackedPartition = key.Partition
section_key Section.Domain = key.Domain
section_key Section.Object = key.Object
section_key Section.Boot = key.Boot
section_key Section.Script = key.Script
section_key Section.Futex = key.Futex

-- the keys of each entry, of an object those of any kind
abbrev pub section_fields : Section → List Field
section_fields Section.Pool = required key.Name Form.Name ∷ required key.Size Form.Number ∷ []
section_fields Section.Partition =
    required key.Name Form.Name ∷ required key.Size Form.Number ∷ required key.Attr (Form.Word Choice.Attr) ∷ optional key.Data Form.Digits ∷ []
section_fields Section.PackedPartition =
    required key.Name Form.Name ∷ required key.Attr (Form.Word Choice.Attr) ∷ required key.Vars Form.Variables ∷ []
section_fields Section.Domain = required key.Name Form.Name ∷ optional key.Partitions Form.Texts ∷ []
section_fields Section.Object =
    required key.Name Form.Name ∷ required key.Kind (Form.Word Choice.Kind) ∷ optional key.Public Form.Truth ∷ []
section_fields Section.Boot =
    required key.Thread Form.Text
    ∷ required key.Stack Form.Text
    ∷ required key.Script Form.Text
    ∷ required key.Priority Form.Number
    ∷ required key.Domain Form.Text
    ∷ optional key.Mode (Form.Word Choice.Mode)
    ∷ optional key.Pool Form.Text
    ∷ optional key.Grants Form.Texts
    ∷ []
section_fields Section.Script = required key.Name Form.Name ∷ required key.Lines Form.Texts ∷ []
section_fields Section.Futex = required key.Name Form.Name ∷ required key.Partition Form.Text ∷ required key.Offset Form.Number ∷ []

-- the keys of a variable
abbrev pub variable_fields : List Field
variable_fields =
    required key.Name Form.Name ∷ required key.Size Form.Number ∷ optional key.Align Form.Alignment ∷ optional key.Data Form.Digits ∷ []

-- the further keys of an object of a kind
abbrev pub kind_fields : Kind → List Field
kind_fields Kind.Thread = []
kind_fields Kind.ThreadStack = required key.Size Form.Number ∷ []
kind_fields Kind.Sem = paired key.Count Form.Number key.Limit ∷ paired key.Limit Form.Number key.Count ∷ []
kind_fields Kind.Mutex = optional key.Init Form.Truth ∷ []
kind_fields Kind.Msgq = paired key.MsgSize Form.Number key.MaxMsgs ∷ paired key.MaxMsgs Form.Number key.MsgSize ∷ []
kind_fields Kind.Stack = optional key.Entries Form.Number ∷ []
kind_fields Kind.Pipe = optional key.Size Form.Number ∷ []
kind_fields Kind.Timer = []
