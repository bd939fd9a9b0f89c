-- What is wrong with script lines, in the order of the places.
use Rattle.std.specs.Prelude.{ℕ, ◌+◌, List, [], ◌∷◌, ◌++◌, map, take, Bool, true, false, not, ◌||◌, if◌then◌else◌, Option, Some, None, Result, Ok, Err}
use Rattle.std.specs.List.{list_any}
use Rattle.um_base.specs.declared.instr.Instr.{Instr}
use Rattle.um_document.specs.declared.description.Description.{Description}
use Rattle.um_document.specs.declared.description.ScriptEntry.{ScriptEntry}
use Rattle.um_document.specs.declared.place.Place.{Place}
use Rattle.um_document.specs.declared.shape.Key.{Key}
use Rattle.um_document.specs.declared.shape.Section.{Section}
use Rattle.um_script.specs.declared.fault.LineFault.{LineFault}
use Rattle.um_script.specs.Lines.{line_of}
use Rattle.um_description.specs.declared.blocks.Bracket.{Bracket}
use Rattle.um_description.specs.declared.flaw.Flaw.{Flaw}
use Rattle.um_base.specs.declared.names.Ref.{Ref}
use Rattle.um_description.specs.Mentions.{Mention, mentions, column_of, strangers}
use Rattle.um_description.specs.Names.{Text, each, is_among}

abbrev pub line_place : ℕ → ℕ → Place
line_place i j = Place.Item Section.Script i Key.Lines j

-- a line that can't be read
abbrev pub unread : Place → Result Instr LineFault → List Flaw
unread place (Ok instr) = []
unread place (Err fault) = Flaw.Line fault.kind place fault.column ∷ []

unfoldable pub unread_at : ℕ → ℕ → Text → List Flaw
unread_at i j line = unread (line_place i j) (line_of line)

unfoldable pub unread_in : ℕ → List Text → List Flaw
unread_in i lines = each (unread_at i) 0 lines

abbrev pub unread_lines : ℕ → ScriptEntry → List Flaw
unread_lines i s = unread_in i s.lines

-- what a line says, where it can be read
abbrev pub instruction : Text → Option Instr
instruction line = elim (line_of line) as (λ _. Option Instr) [ Ok instr ↦ Some instr | Err fault ↦ None ]

-- what a line is to the blocks of its script
abbrev pub bracket_of : Option Instr → Bracket
bracket_of (Some (Instr.Repeat times)) = Bracket.Opens
bracket_of (Some Instr.End) = Bracket.Closes
bracket_of _ = Bracket.Stays

unfoldable pub bracket_at : Text → Bracket
bracket_at line = bracket_of (instruction line)

abbrev pub closing : Bracket → Bool
closing Bracket.Closes = true
closing _ = false

abbrev pub begins_closing : List Bracket → Bool
begins_closing [] = false
begins_closing (b ∷ behind) = closing b

-- an `end` stands right behind a `repeat`, or none behind it at all
abbrev pub closes_badly : List Bracket → Bool
closes_badly behind = begins_closing behind || not (list_any closing behind)

abbrev pub if_bad : Bool → Place → List Place
if_bad bad place = if bad then place ∷ [] else []

-- the lines from the j-th on that break a block: they stand within a `repeat` or not. A `repeat` ends at the first `end` behind it
abbrev pub broken_blocks : Bool → ℕ → ℕ → List Bracket → List Place
broken_blocks within i j [] = []
broken_blocks within i j (Bracket.Stays ∷ behind) = broken_blocks within i (j + 1) behind
broken_blocks within i j (Bracket.Closes ∷ behind) = if_bad (not within) (line_place i j) ++ broken_blocks false i (j + 1) behind
broken_blocks within i j (Bracket.Opens ∷ behind) = if_bad (if within then true else closes_badly behind) (line_place i j) ++ broken_blocks true i (j + 1) behind

unfoldable pub blocks_in : ℕ → List Text → List Place
blocks_in i lines = broken_blocks false i 0 (map bracket_at lines)

abbrev pub blocks_of : ℕ → ScriptEntry → List Place
blocks_of i s = blocks_in i s.lines

-- the names of a line
abbrev pub mentioned : Option Instr → List Mention
mentioned None = []
mentioned (Some instr) = mentions instr

-- those that name nothing of the kind wanted
abbrev pub unknown_in_line : Description → Place → Text → List Flaw
unknown_in_line d place line = map (λ (at : ℕ). Flaw.LineName place (column_of line at)) (strangers d (mentioned (instruction line)))

unfoldable pub unknown_at : Description → ℕ → ℕ → Text → List Flaw
unknown_at d i j line = unknown_in_line d (line_place i j) line

unfoldable pub unknown_in : Description → ℕ → List Text → List Flaw
unknown_in d i lines = each (unknown_at d i) 0 lines

abbrev pub unknown_in_script : Description → ℕ → ScriptEntry → List Flaw
unknown_in_script d i s = unknown_in d i s.lines

-- the name of the script that a line names
abbrev pub name_in : Ref → Option Text
name_in (Ref.Named name) = Some name
name_in (Ref.At i) = None

abbrev pub script_in : Instr → Option Text
script_in (Instr.Create thread stack size s priority options) = name_in s
script_in (Instr.UserMode s) = name_in s
script_in _ = None

-- the names of the scripts up to the i-th, which a line of that one can't name
abbrev pub scripts_up_to : Description → ℕ → List Text
scripts_up_to d i = map (λ (s : ScriptEntry). s.name) (take (i + 1) d.scripts)

abbrev pub is_misordered : Description → ℕ → Option Text → Bool
is_misordered d i None = false
is_misordered d i (Some name) = is_among name (scripts_up_to d i)

abbrev pub script_of_line : Option Instr → Option Text
script_of_line None = None
script_of_line (Some instr) = script_in instr

abbrev pub script_named : Text → Option Text
script_named line = script_of_line (instruction line)

unfoldable pub misordered_at : Description → ℕ → ℕ → Text → List Place
misordered_at d i j line = if_bad (is_misordered d i (script_named line)) (line_place i j)

unfoldable pub misordered_in : Description → ℕ → List Text → List Place
misordered_in d i lines = each (misordered_at d i) 0 lines

abbrev pub misordered_script : Description → ℕ → ScriptEntry → List Place
misordered_script d i s = misordered_in d i s.lines
