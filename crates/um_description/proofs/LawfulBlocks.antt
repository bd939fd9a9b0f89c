-- Lines that break no block are closed.
use Rattle.std.proofs.Common.{◌≡◌, ℕ, ◌+◌, Bool, true, false, not, List, [], ◌∷◌, map, IsTrue, Some, refl, ◌∙◌}
use Rattle.std.specs.List.{list_any}
use Rattle.std.proofs.lemmas.Bool.{false≢true, true≢false, or_parts}
use Rattle.um_base.specs.declared.image.Image.{Image}
use Rattle.um_base.specs.declared.instr.Instr.{Instr}
use Rattle.um_base.specs.Lawful.{Block, outside, opened, inside, is_closed}
use Rattle.um_document.specs.declared.description.Description.{Description}
use Rattle.um_description.specs.declared.blocks.Bracket.{Bracket}
use Rattle.um_description.specs.Lines.{bracket_of, closing, begins_closing, closes_badly, if_bad, broken_blocks, line_place}
use Rattle.um_description.specs.Resolve.{resolved}
use Rattle.um_description.proofs.LawfulLists.{no_front, no_back, none_if}

-- the same of what lines are to blocks
abbrev pub closed_by : Block → List Bracket → Bool
closed_by outside [] = true
closed_by outside (b ∷ bs) = elim b as (λ _. Bool) [ Bracket.Opens ↦ closed_by opened bs | Bracket.Closes ↦ false | Bracket.Stays ↦ closed_by outside bs ]
closed_by opened [] = false
closed_by opened (b ∷ bs) = elim b as (λ _. Bool) [ Bracket.Opens ↦ false | Bracket.Closes ↦ false | Bracket.Stays ↦ closed_by inside bs ]
closed_by inside [] = false
closed_by inside (b ∷ bs) = elim b as (λ _. Bool) [ Bracket.Opens ↦ false | Bracket.Closes ↦ closed_by outside bs | Bracket.Stays ↦ closed_by inside bs ]

not_false : (a : Bool) → not a ≡ false → IsTrue a
not_false true h = refl
not_false false h = absurd (true≢false h)

record Closed (i : ℕ) (bs : List Bracket) : Type 0 where
  behind : (j : ℕ) → broken_blocks false i j bs ≡ [] → IsTrue (closed_by outside bs)
  begun : (j : ℕ) → broken_blocks true i j bs ≡ [] → begins_closing bs ≡ false → IsTrue (list_any closing bs) → IsTrue (closed_by opened bs)
  within : (j : ℕ) → broken_blocks true i j bs ≡ [] → IsTrue (list_any closing bs) → IsTrue (closed_by inside bs)

closed : (i : ℕ) (bs : List Bracket) → Closed i bs
closed i [] = record { behind = λ j h. refl; begun = λ j h k some. absurd (false≢true some); within = λ j h some. absurd (false≢true some) }
closed i (Bracket.Stays ∷ bs) =
    let rest = closed i bs in record { behind = λ j h. rest.behind (j + 1) h; begun = λ j h k some. rest.within (j + 1) h some; within = λ j h some. rest.within (j + 1) h some }
closed i (Bracket.Closes ∷ bs) =
    let rest = closed i bs in
    record {
      behind = λ j h. absurd (true≢false (none_if true (line_place i j) (no_front (if_bad true (line_place i j)) (broken_blocks false i (j + 1) bs) h)));
      begun = λ j h k some. absurd (true≢false k);
      within = λ j h some. rest.behind (j + 1) h;
    }
closed i (Bracket.Opens ∷ bs) =
    let rest = closed i bs in
    record {
      behind = λ j h.
          let well = or_parts (begins_closing bs) (not (list_any closing bs)) (none_if (closes_badly bs) (line_place i j) (no_front (if_bad (closes_badly bs) (line_place i j)) (broken_blocks true i (j + 1) bs) h)) in
          rest.begun (j + 1) (no_back (if_bad (closes_badly bs) (line_place i j)) (broken_blocks true i (j + 1) bs) h) well.0 (not_false (list_any closing bs) well.1);
      begun = λ j h k some. absurd (true≢false (none_if true (line_place i j) (no_front (if_bad true (line_place i j)) (broken_blocks true i (j + 1) bs) h)));
      within = λ j h some. absurd (true≢false (none_if true (line_place i j) (no_front (if_bad true (line_place i j)) (broken_blocks true i (j + 1) bs) h)));
    }

pub closed_outside : (i : ℕ) (bs : List Bracket) → broken_blocks false i 0 bs ≡ [] → IsTrue (closed_by outside bs)
closed_outside i bs h = (closed i bs).behind 0 h

-- ---- instructions

abbrev pub bracket : Instr → Bracket
bracket instr = bracket_of (Some instr)

step_outside : (line : Instr) (lines : List Instr) → is_closed outside (line ∷ lines) ≡ elim (bracket line) as (λ _. Bool) [ Bracket.Opens ↦ is_closed opened lines | Bracket.Closes ↦ false | Bracket.Stays ↦ is_closed outside lines ]
step_outside (Instr.Repeat times) lines = refl
step_outside Instr.End lines = refl
step_outside line lines = refl

step_opened : (line : Instr) (lines : List Instr) → is_closed opened (line ∷ lines) ≡ elim (bracket line) as (λ _. Bool) [ Bracket.Opens ↦ false | Bracket.Closes ↦ false | Bracket.Stays ↦ is_closed inside lines ]
step_opened (Instr.Repeat times) lines = refl
step_opened Instr.End lines = refl
step_opened line lines = refl

step_inside : (line : Instr) (lines : List Instr) → is_closed inside (line ∷ lines) ≡ elim (bracket line) as (λ _. Bool) [ Bracket.Opens ↦ false | Bracket.Closes ↦ is_closed outside lines | Bracket.Stays ↦ is_closed inside lines ]
step_inside (Instr.Repeat times) lines = refl
step_inside Instr.End lines = refl
step_inside line lines = refl

-- one of three answers, by what a line is
abbrev by_bracket : Bool → Bool → Bool → Bracket → Bool
by_bracket opens closes stays b = elim b as (λ _. Bool) [ Bracket.Opens ↦ opens | Bracket.Closes ↦ closes | Bracket.Stays ↦ stays ]

same_by_bracket : (b : Bracket) (p q r s t u : Bool) → p ≡ s → q ≡ t → r ≡ u → by_bracket p q r b ≡ by_bracket s t u b
same_by_bracket Bracket.Opens p q r s t u e f g = e
same_by_bracket Bracket.Closes p q r s t u e f g = f
same_by_bracket Bracket.Stays p q r s t u e f g = g

pub closed_again : (block : Block) (lines : List Instr) → is_closed block lines ≡ closed_by block (map bracket lines)
closed_again outside [] = refl
closed_again opened [] = refl
closed_again inside [] = refl
closed_again outside (line ∷ lines) =
    step_outside line lines
    ∙ same_by_bracket (bracket line) (is_closed opened lines) false (is_closed outside lines) (closed_by opened (map bracket lines)) false (closed_by outside (map bracket lines)) (closed_again opened lines) refl (closed_again outside lines)
closed_again opened (line ∷ lines) =
    step_opened line lines ∙ same_by_bracket (bracket line) false false (is_closed inside lines) false false (closed_by inside (map bracket lines)) refl refl (closed_again inside lines)
closed_again inside (line ∷ lines) =
    step_inside line lines
    ∙ same_by_bracket (bracket line) false (is_closed outside lines) (is_closed inside lines) false (closed_by outside (map bracket lines)) (closed_by inside (map bracket lines)) refl (closed_again outside lines) (closed_again inside lines)

-- resolving leaves the blocks as they are
pub bracket_again : (image : Image) (d : Description) (instr : Instr) → bracket (resolved image d instr) ≡ bracket instr
bracket_again image d (Instr.Repeat times) = refl
bracket_again image d Instr.End = refl
bracket_again image d instr = refl
