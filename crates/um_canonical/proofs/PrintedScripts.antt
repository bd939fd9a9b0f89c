-- The lines of a script, printed from its image, have no flaw where the description's had none, and say the same.
use Rattle.std.proofs.Common.{◌≡◌, ℕ, ◌+◌, true, List, [], ◌∷◌, map, length, Option, Some, None, option_map, IsTrue, Result, Ok, Err, refl, sym, ap, ◌∙◌, subst, arith}
use Rattle.std.specs.List.{list_all, flat_map}
use Rattle.um_base.specs.declared.image.Image.{Image}
use Rattle.um_base.specs.declared.instr.Instr.{Instr}
use Rattle.um_document.specs.declared.description.Description.{Description}
use Rattle.um_document.proofs.EmptyLists.{and_true, no_front, no_back, none_mapped}
use Rattle.um_script.specs.Canonical.{canonical}
use Rattle.um_script.specs.declared.fault.LineFault.{LineFault}
use Rattle.um_script.specs.Lines.{line_of}
use Rattle.um_script.specs.Writable.{is_line}
use Rattle.um_description.specs.declared.flaw.Flaw.{Flaw}
use Rattle.um_description.specs.Lines.{line_place, unread, unread_at, instruction, bracket_of, bracket_at, mentioned, unknown_at, script_of_line, misordered_at, is_misordered, if_bad}
use Rattle.um_description.specs.Mentions.{Mention, mentions, strangers, column_of}
use Rattle.um_description.specs.Names.{Text, each}
use Rattle.um_description.specs.Resolve.{resolved, read_line, option_list}
use Rattle.um_description.proofs.LawfulLines.{knows, all_known}
use Rattle.um_canonical.proofs.NamedAlike.{AreNamedAlike}
use Rattle.um_canonical.proofs.PrintedLines.{shown_in, line_shown, line_again}
use Rattle.um_script.proofs.ReadWritable.{gives, gives_line}
use Rattle.um_canonical.proofs.PlainLines.{line_plain}
use Rattle.um_canonical.proofs.Toml.Values.{is_plain, ArePlain}

abbrev pub printed : Description → Instr → Text
printed d line = canonical (shown_in d line)

said_in : Result Instr LineFault → Option Instr
said_in r = elim r as (λ _. Option Instr) [ Ok instr ↦ Some instr | Err fault ↦ None ]

instruction_is : (line : Text) (instr : Instr) → line_of line ≡ Ok instr → instruction line ≡ Some instr
unfolding said_in
instruction_is line instr says = ap said_in says

-- known names are no strangers
no_strangers : (d : Description) (ms : List Mention) → IsTrue (list_all (knows d) ms) → strangers d ms ≡ []
unfolding strangers
no_strangers d [] h = refl
no_strangers d (m ∷ ms) h =
    let both = and_true (knows d m) (list_all (knows d) ms) h in
    rw (both.0) (no_strangers d ms both.1)

-- a line without a flaw of its own
record IsGood (d : Description) (line : Text) (instr : Instr) : Type 0 where
  says : line_of line ≡ Ok instr
  writable : IsTrue (is_line instr)
  known : IsTrue (list_all (knows d) (mentions instr))

good_by : (d : Description) (i j : ℕ) (line : Text) (r : Result Instr LineFault) → line_of line ≡ r → unread (line_place i j) r ≡ [] → strangers d (mentioned (instruction line)) ≡ []
    → (instr : Instr) × IsGood d line instr
good_by d i j line (Ok instr) is read known =
    let same : strangers d (mentions instr) ≡ [] = subst (λ (o : Option Instr). strangers d (mentioned o) ≡ []) (instruction_is line instr is) known in (
      instr,
      record {
        says = is;
        writable = subst (λ (x : Result Instr LineFault). IsTrue (gives is_line x)) is (gives_line line);
        known = all_known d (mentions instr) same;
      },
    )
good_by d i j line (Err fault) is read known = absurd cc

good : (d : Description) (i j : ℕ) (line : Text) → unread_at i j line ≡ [] → unknown_at d i j line ≡ [] → (instr : Instr) × IsGood d line instr
unfolding unread_at unknown_at
good d i j line read known =
    good_by d i j line (line_of line) refl read
    (none_mapped (λ (at : ℕ). Flaw.LineName (line_place i j) (column_of line at)) (strangers d (mentioned (instruction line))) known)

-- what is printed for such a line
record IsBack (image : Image) (e d : Description) (line new : Text) : Type 0 where
  same : read_line image e new ≡ read_line image d line
  read : (i j : ℕ) → unread_at i j new ≡ []
  known : (i j : ℕ) → unknown_at e i j new ≡ []
  bracket : bracket_at new ≡ bracket_at line
  order : (i j : ℕ) → misordered_at d i j new ≡ misordered_at d i j line
  plain : is_plain new ≡ true

line_back : (image : Image) (e d : Description) → AreNamedAlike e d → (line : Text) (instr : Instr) → IsGood d line instr → IsBack image e d line (printed d (resolved image d instr))
unfolding unread_at unknown_at bracket_at misordered_at
line_back image e d alike line instr h =
    let new = printed d (resolved image d instr) in
    let reads = line_again image e d alike instr h.writable h.known in
    let says = instruction_is new (shown_in d (resolved image d instr)) reads in
    let was = instruction_is line instr h.says in
    let shown = line_shown image e d alike instr h.writable h.known in
    let quiet = no_strangers e (mentions (shown_in d (resolved image d instr))) shown.known in
    record {
      same =
          ap (λ (o : Option Instr). option_list (option_map (resolved image e) o)) says
          ∙ ap (λ (x : Instr). x ∷ []) shown.again
          ∙ sym (ap (λ (o : Option Instr). option_list (option_map (resolved image d) o)) was);
      read = λ i j. ap (unread (line_place i j)) reads;
      known = λ i j. ap (λ (o : Option Instr). map (λ (at : ℕ). Flaw.LineName (line_place i j) (column_of new at)) (strangers e (mentioned o))) says
          ∙ ap (λ (xs : List ℕ). map (λ (at : ℕ). Flaw.LineName (line_place i j) (column_of new at)) xs) quiet;
      bracket = ap bracket_of says ∙ shown.bracket ∙ sym (ap bracket_of was);
      order = λ i j.
          ap (λ (o : Option Instr). if_bad (is_misordered d i (script_of_line o)) (line_place i j)) says
          ∙ ap (λ (o : Option Text). if_bad (is_misordered d i o) (line_place i j)) shown.script
          ∙ sym (ap (λ (o : Option Instr). if_bad (is_misordered d i (script_of_line o)) (line_place i j)) was);
      plain = line_plain (shown_in d (resolved image d instr)) shown.writable;
    }

-- ---- all lines of a script

abbrev pub printed_lines : Image → Description → List Text → List Text
printed_lines image d lines = map (printed d) (flat_map (read_line image d) lines)

pub record AreBack (image : Image) (e d : Description) (i j : ℕ) (lines : List Text) : Type 0 where
  pub same : flat_map (read_line image e) (printed_lines image d lines) ≡ flat_map (read_line image d) lines
  pub read : each (unread_at i) j (printed_lines image d lines) ≡ []
  pub known : each (unknown_at e i) j (printed_lines image d lines) ≡ []
  pub brackets : map bracket_at (printed_lines image d lines) ≡ map bracket_at lines
  pub order : each (misordered_at d i) j (printed_lines image d lines) ≡ each (misordered_at d i) j lines
  pub long : length (printed_lines image d lines) ≡ length lines
  pub plain : ArePlain (printed_lines image d lines)

one_more : (image : Image) (e d : Description) (i j : ℕ) (line : Text) (instr : Instr) (lines : List Text) → line_of line ≡ Ok instr → IsBack image e d line (printed d (resolved image d instr)) → AreBack image e d i (j + 1) lines
    → AreBack image e d i j (line ∷ lines)
one_more image e d i j line instr lines says here more =
    let first : read_line image d line ≡ resolved image d instr ∷ [] = ap (λ (o : Option Instr). option_list (option_map (resolved image d) o)) (instruction_is line instr says) in
    let new = printed d (resolved image d instr) in
    let split : printed_lines image d (line ∷ lines) ≡ new ∷ printed_lines image d lines = rw first refl in
    record {
      same = rw (split, here.same, more.same) refl;
      read = rw (split, here.read i j, more.read) refl;
      known = rw (split, here.known i j, more.known) refl;
      brackets = rw (split, here.bracket, more.brackets) refl;
      order = rw (split, here.order i j, more.order) refl;
      long = rw split (omega (arith, more.long));
      plain = rw split (here.plain, more.plain);
    }

pub lines_back : (image : Image) (e d : Description) → AreNamedAlike e d → (i j : ℕ) (lines : List Text) → each (unread_at i) j lines ≡ [] → each (unknown_at d i) j lines ≡ [] → AreBack image e d i j lines
lines_back image e d alike i j [] read known = record { same = refl; read = refl; known = refl; brackets = refl; order = refl; long = refl; plain = tt }
lines_back image e d alike i j (line ∷ lines) read known =
    let (instr, h) = good d i j line (no_front (unread_at i j line) (each (unread_at i) (j + 1) lines) read) (no_front (unknown_at d i j line) (each (unknown_at d i) (j + 1) lines) known) in
    let more = lines_back image e d alike i (j + 1) lines (no_back (unread_at i j line) (each (unread_at i) (j + 1) lines) read) (no_back (unknown_at d i j line) (each (unknown_at d i) (j + 1) lines) known) in
    one_more image e d i j line instr lines h.says (line_back image e d alike line instr h) more
