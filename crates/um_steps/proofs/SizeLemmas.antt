-- The lines of a lawful image load and store a word at most.
use Rattle.std.proofs.Common.{◌≡◌, ℕ, zero, suc, ◌+◌, Bool, true, false, ◌&&◌, List, [], ◌∷◌, length, refl, subst, arith, Option, Some, None, slice_get}
use Rattle.std.specs.Prelude.{IsTrue, IfSome, nat_le}
use Rattle.std.specs.List.{list_all}
use Rattle.std.proofs.lemmas.Bool.{and_parts}
use Rattle.std.proofs.lemmas.Bool.Decides.{nat_tests}
use Rattle.um_base.specs.Lawful.{is_register, is_operand, is_size, is_lawful_line, is_lawful_script, are_lawful_scripts, is_closed, outside}
use Rattle.um_base.specs.declared.image.Image.{Image}
use Rattle.um_base.specs.declared.image.Script.{Script}
use Rattle.um_base.specs.declared.instr.Instr.{Instr}
use Rattle.um_machine.specs.declared.thread.Place.{Place}
use Rattle.um_machine.specs.State.{lines_of, instruction_at}
use Rattle.um_steps.specs.Accesses.{is_sized}
use Rattle.um_steps.specs.Given.{IsGiven}

small : (n : ℕ) → IsTrue (is_size n) → IsTrue (nat_le n 4)
small n h = grind (arith, nat_tests)

sized-line : (image : Image) (i : ℕ) (line : Instr) → IsTrue (is_lawful_line image i line) → IsTrue (is_sized line)
sized-line image i (Instr.Load to addr size) h = small size (and_parts (is_register to && is_operand addr) (is_size size) h).1
sized-line image i (Instr.Store addr size value) h = small size (and_parts (is_operand addr) (is_size size) (and_parts (is_operand addr && is_size size) (is_operand value) h).0).1
sized-line image i _ h = refl

sized-lines : (image : Image) (i : ℕ) (lines : List Instr) → IsTrue (list_all (is_lawful_line image i) lines) → (n : ℕ) (line : Instr) → slice_get lines n ≡ Some line → IsTrue (is_sized line)
sized-lines image i [] h n line e = cc
sized-lines image i (l ∷ lines) h zero line e =
    let same : l ≡ line = cc in
    subst (λ (a : Instr). IsTrue (is_sized a)) same (sized-line image i l (and_parts (is_lawful_line image i l) (list_all (is_lawful_line image i) lines) h).0)
sized-lines image i (l ∷ lines) h (suc n) line e = sized-lines image i lines (and_parts (is_lawful_line image i l) (list_all (is_lawful_line image i) lines) h).1 n line e

sized-scripts : (image : Image) (i : ℕ) (scripts : List Script) → IsTrue (are_lawful_scripts image i scripts) → (k n : ℕ) (line : Instr) → slice_get (lines_of (slice_get scripts k)) n ≡ Some line → IsTrue (is_sized line)
sized-scripts image i [] h k n line e = cc
sized-scripts image i (s ∷ scripts) h zero n line e =
    let script = (and_parts (is_lawful_script image i s) (are_lawful_scripts image (i + 1) scripts) h).0 in
    sized-lines image i s.lines
    (and_parts (nat_le 1 (length s.lines)) (list_all (is_lawful_line image i) s.lines) (and_parts (nat_le 1 (length s.lines) && list_all (is_lawful_line image i) s.lines) (is_closed outside s.lines) script).0).1 n line e
sized-scripts image i (s ∷ scripts) h (suc k) n line e =
    sized-scripts image (i + 1) scripts (and_parts (is_lawful_script image i s) (are_lawful_scripts image (i + 1) scripts) h).1 k n line e

sized-option : (image : Image) → IsGiven image → (place : Place) (o : Option Instr) → instruction_at image place ≡ o → IfSome o (λ i. IsTrue (is_sized i))
unfolding IsGiven
sized-option image given place None e = tt
sized-option image given place (Some line) e = sized-scripts image 0 image.scripts given.scripts place.script place.line line e

-- the instruction at a place loads or stores a word at most
pub sized_instruction : (image : Image) (place : Place) → IsGiven image → IfSome (instruction_at image place) (λ i. IsTrue (is_sized i))
sized_instruction image place given = sized-option image given place (instruction_at image place) refl
