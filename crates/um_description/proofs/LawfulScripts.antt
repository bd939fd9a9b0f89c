-- Scripts whose lines are read, known, ordered and closed are lawful.
use Rattle.std.proofs.Common.{◌≡◌, ℕ, ◌+◌, ◌≤◌, true, false, ◌&&◌, nat_le, List, [], ◌∷◌, ◌++◌, length, map, IsTrue, Option, Some, None, option_map, Result, Ok, Err, pos, refl, ap, ◌∙◌, arith}
use Rattle.std.specs.List.{list_all, flat_map}
use Rattle.std.proofs.lemmas.Bool.Decides.{nat_tests}
use Rattle.std.proofs.lemmas.List.Folds.{list_all-append}
use Rattle.um_base.specs.declared.image.Image.{Image}
use Rattle.um_base.specs.declared.instr.Instr.{Instr}
use Rattle.um_base.specs.declared.limits.TheConstants.{SCRIPTS, LINES}
use Rattle.um_base.specs.declared.names.Range.{Range}
use Rattle.um_base.specs.Lawful.{is_lawful_line, is_closed, outside, is_lawful_script, are_lawful_scripts}
use Rattle.um_document.specs.declared.description.Description.{Description}
use Rattle.um_document.specs.declared.description.ScriptEntry.{ScriptEntry}
use Rattle.um_document.specs.declared.place.Place.{Place}
use Rattle.um_document.specs.declared.shape.Key.{Key}
use Rattle.um_document.specs.declared.shape.Section.{Section}
use Rattle.um_script.specs.declared.fault.LineFault.{LineFault}
use Rattle.um_script.specs.Lines.{line_of}
use Rattle.um_description.specs.declared.blocks.Bracket.{Bracket}
use Rattle.um_description.specs.declared.flaw.Flaw.{Flaw}
use Rattle.um_description.specs.Limits.{outside as out_of, one_too_many, script_limits}
use Rattle.um_description.specs.Lines.{line_place, unread, unread_at, unread_in, unread_lines, bracket_of, bracket_at, blocks_in, blocks_of, mentioned, unknown_at, unknown_in, unknown_in_script, script_of_line, is_misordered, misordered_at, misordered_in, misordered_script}
use Rattle.um_description.specs.Mentions.{column_of, strangers}
use Rattle.um_description.specs.Names.{Text, each}
use Rattle.um_description.specs.Resolve.{resolved, option_list, read_line, script_of, without_scripts, image_in}
use Rattle.um_description.proofs.LawfulBlocks.{bracket, closed_by, closed_outside, closed_again, bracket_again}
use Rattle.um_description.proofs.LawfulLines.{AreAsMany, all_known, line_lawful}
use Rattle.um_description.proofs.LawfulLists.{no_front, no_back, none_mapped, none_if, both_true}
use Rattle.um_description.proofs.LawfulRanges.{natural_in}
use Rattle.um_script.specs.Writable.{is_line}
use Rattle.um_script.proofs.ReadWritable.{gives, gives_line}

-- what a reading says, where it says something
abbrev read_of : Result Instr LineFault → Option Instr
read_of r = elim r as (λ _. Option Instr) [ Ok instr ↦ Some instr | Err fault ↦ None ]

-- ---- the lines of a script

one_line : (d : Description) (ps ss : List Range) (i : ℕ) (place : Place) (r : Result Instr LineFault) → AreAsMany d ps ss → unread place r ≡ [] → IsTrue (gives is_line r)
    → strangers d (mentioned (read_of r)) ≡ [] → is_misordered d i (script_of_line (read_of r)) ≡ false
    → IsTrue (list_all (is_lawful_line (image_in d ps ss) i) (option_list (option_map (resolved (without_scripts d ps ss) d) (read_of r))))
one_line d ps ss i place (Ok line) many h readable known order =
    both_true (is_lawful_line (image_in d ps ss) i (resolved (without_scripts d ps ss) d line)) true (line_lawful d ps ss i line many readable (all_known d (mentioned (Some line)) known) order) refl
one_line d ps ss i place (Err fault) many h readable known order = absurd cc

line_passes : (d : Description) (ps ss : List Range) (i j : ℕ) (line : Text) → AreAsMany d ps ss → unread_at i j line ≡ [] → unknown_at d i j line ≡ [] → misordered_at d i j line ≡ []
    → IsTrue (list_all (is_lawful_line (image_in d ps ss) i) (read_line (without_scripts d ps ss) d line))
unfolding unread_at unknown_at misordered_at
line_passes d ps ss i j line many h known order =
    one_line d ps ss i (line_place i j) (line_of line) many h (gives_line line)
    (none_mapped (λ (at : ℕ). Flaw.LineName (line_place i j) (column_of line at)) (strangers d (mentioned (read_of (line_of line)))) known)
    (none_if (is_misordered d i (script_of_line (read_of (line_of line)))) (line_place i j) order)

lines_lawful : (d : Description) (ps ss : List Range) (i j : ℕ) (lines : List Text) → AreAsMany d ps ss → each (unread_at i) j lines ≡ [] → each (unknown_at d i) j lines ≡ [] → each (misordered_at d i) j lines ≡ []
    → IsTrue (list_all (is_lawful_line (image_in d ps ss) i) (flat_map (read_line (without_scripts d ps ss) d) lines))
lines_lawful d ps ss i j [] many h known order = refl
lines_lawful d ps ss i j (line ∷ lines) many h known order =
    let q = is_lawful_line (image_in d ps ss) i in
    let front = read_line (without_scripts d ps ss) d line in
    let back = flat_map (read_line (without_scripts d ps ss) d) lines in
    list_all-append q front back
    ∙ both_true (list_all q front) (list_all q back)
    (line_passes d ps ss i j line many (no_front (unread_at i j line) (each (unread_at i) (j + 1) lines) h) (no_front (unknown_at d i j line) (each (unknown_at d i) (j + 1) lines) known)
    (no_front (misordered_at d i j line) (each (misordered_at d i) (j + 1) lines) order))
    (lines_lawful d ps ss i (j + 1) lines many (no_back (unread_at i j line) (each (unread_at i) (j + 1) lines) h) (no_back (unknown_at d i j line) (each (unknown_at d i) (j + 1) lines) known)
    (no_back (misordered_at d i j line) (each (misordered_at d i) (j + 1) lines) order))

-- ---- there is one

one_read : (image : Image) (d : Description) (place : Place) (r : Result Instr LineFault) (rest : List Instr) → unread place r ≡ [] → 1 ≤ length (option_list (option_map (resolved image d) (read_of r)) ++ rest)
one_read image d place (Ok line) rest h = omega arith
one_read image d place (Err fault) rest h = absurd cc

some_lines : (image : Image) (d : Description) (i j : ℕ) (lines : List Text) → 1 ≤ length lines → each (unread_at i) j lines ≡ [] → 1 ≤ length (flat_map (read_line image d) lines)
unfolding unread_at
some_lines image d i j [] some h = absurd (omega (arith, some))
some_lines image d i j (line ∷ lines) some h =
    one_read image d (line_place i j) (line_of line) (flat_map (read_line image d) lines) (no_front (unread_at i j line) (each (unread_at i) (j + 1) lines) h)

-- ---- their blocks

bracket_by : (image : Image) (d : Description) (place : Place) (r : Result Instr LineFault) (rest : List Instr) (brackets : List Bracket) → unread place r ≡ [] → map bracket rest ≡ brackets
    → map bracket (option_list (option_map (resolved image d) (read_of r)) ++ rest) ≡ bracket_of (read_of r) ∷ brackets
bracket_by image d place (Ok line) rest brackets h same = rw (bracket_again image d line, same) refl
bracket_by image d place (Err fault) rest brackets h same = absurd cc

brackets_again : (image : Image) (d : Description) (i j : ℕ) (lines : List Text) → each (unread_at i) j lines ≡ [] → map bracket (flat_map (read_line image d) lines) ≡ map bracket_at lines
unfolding unread_at bracket_at
brackets_again image d i j [] h = refl
brackets_again image d i j (line ∷ lines) h =
    bracket_by image d (line_place i j) (line_of line) (flat_map (read_line image d) lines) (map bracket_at lines) (no_front (unread_at i j line) (each (unread_at i) (j + 1) lines) h)
    (brackets_again image d i (j + 1) lines (no_back (unread_at i j line) (each (unread_at i) (j + 1) lines) h))

lines_closed : (image : Image) (d : Description) (i : ℕ) (lines : List Text) → each (unread_at i) 0 lines ≡ [] → blocks_in i lines ≡ [] → IsTrue (is_closed outside (flat_map (read_line image d) lines))
unfolding blocks_in
lines_closed image d i lines h blocks =
    closed_again outside (flat_map (read_line image d) lines) ∙ ap (closed_by outside) (brackets_again image d i 0 lines h) ∙ closed_outside i (map bracket_at lines) blocks

-- ---- scripts

-- nothing is wrong with the lines of a script
record IsWell (d : Description) (i : ℕ) (s : ScriptEntry) : Type 0 where
  limits : script_limits i s ≡ []
  read : unread_lines i s ≡ []
  blocks : blocks_of i s ≡ []
  known : unknown_in_script d i s ≡ []
  order : misordered_script d i s ≡ []

lines_given : (i : ℕ) (s : ScriptEntry) → script_limits i s ≡ [] → 1 ≤ length s.lines
unfolding script_limits
lines_given i s h =
    (natural_in Key.Lines 1 LINES (Place.Field Section.Script i Key.Lines) (pos (length s.lines))
    (no_back (one_too_many Section.Script SCRIPTS i) (out_of Key.Lines (pos 1) (pos LINES) (Place.Field Section.Script i Key.Lines) (pos (length s.lines))) h)).least

script_lawful : (d : Description) (ps ss : List Range) (i : ℕ) (s : ScriptEntry) → AreAsMany d ps ss → IsWell d i s → IsTrue (is_lawful_script (image_in d ps ss) i (script_of (without_scripts d ps ss) d s))
unfolding unread_in unknown_in misordered_in
script_lawful d ps ss i s many well =
    let lines = flat_map (read_line (without_scripts d ps ss) d) s.lines in
    let some = some_lines (without_scripts d ps ss) d i 0 s.lines (lines_given i s well.limits) well.read in
    let first : IsTrue (nat_le 1 (length lines)) = grind (arith, nat_tests, some) in
    both_true (nat_le 1 (length lines) && list_all (is_lawful_line (image_in d ps ss) i) lines) (is_closed outside lines)
    (both_true (nat_le 1 (length lines)) (list_all (is_lawful_line (image_in d ps ss) i) lines) first (lines_lawful d ps ss i 0 s.lines many well.read well.known well.order))
    (lines_closed (without_scripts d ps ss) d i s.lines well.read well.blocks)

-- the scripts from the i-th on
pub record AreWell (d : Description) (i : ℕ) (scripts : List ScriptEntry) : Type 0 where
  pub limits : each script_limits i scripts ≡ []
  pub read : each unread_lines i scripts ≡ []
  pub blocks : each blocks_of i scripts ≡ []
  pub known : each (unknown_in_script d) i scripts ≡ []
  pub order : each (misordered_script d) i scripts ≡ []

pub scripts_lawful : (d : Description) (ps ss : List Range) (i : ℕ) (scripts : List ScriptEntry) → AreAsMany d ps ss → AreWell d i scripts
    → IsTrue (are_lawful_scripts (image_in d ps ss) i (map (script_of (without_scripts d ps ss) d) scripts))
scripts_lawful d ps ss i [] many well = refl
scripts_lawful d ps ss i (s ∷ scripts) many well =
    both_true (is_lawful_script (image_in d ps ss) i (script_of (without_scripts d ps ss) d s)) (are_lawful_scripts (image_in d ps ss) (i + 1) (map (script_of (without_scripts d ps ss) d) scripts))
    (script_lawful d ps ss i s many (record {
      limits = no_front (script_limits i s) (each script_limits (i + 1) scripts) well.limits;
      read = no_front (unread_lines i s) (each unread_lines (i + 1) scripts) well.read;
      blocks = no_front (blocks_of i s) (each blocks_of (i + 1) scripts) well.blocks;
      known = no_front (unknown_in_script d i s) (each (unknown_in_script d) (i + 1) scripts) well.known;
      order = no_front (misordered_script d i s) (each (misordered_script d) (i + 1) scripts) well.order;
    }))
    (scripts_lawful d ps ss (i + 1) scripts many (record {
      limits = no_back (script_limits i s) (each script_limits (i + 1) scripts) well.limits;
      read = no_back (unread_lines i s) (each unread_lines (i + 1) scripts) well.read;
      blocks = no_back (blocks_of i s) (each blocks_of (i + 1) scripts) well.blocks;
      known = no_back (unknown_in_script d i s) (each (unknown_in_script d) (i + 1) scripts) well.known;
      order = no_back (misordered_script d i s) (each (misordered_script d) (i + 1) scripts) well.order;
    }))
