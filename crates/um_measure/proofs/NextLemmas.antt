-- The next place of a thread: the lines that are left from there, and the line between, are left from here.
use Rattle.std.proofs.Common.{◌≡◌, ◌≤◌, ℕ, suc, ◌+◌, ◌-◌, max, true, false, List, ◌∷◌, refl, subst, arith, add-one, Option, Some, None, slice_get, drop}
use Rattle.std.proofs.lemmas.Bool.{false≢true}
use Rattle.um_base.specs.Lawful.{Block, outside, opened, inside, IsLawful}
use Rattle.um_base.specs.Weight.{line_cost, lines_cost, turns_after}
use Rattle.um_base.specs.declared.image.Image.{Image}
use Rattle.um_base.specs.declared.instr.Instr.{Instr}
use Rattle.um_machine.specs.declared.thread.Place.{Place}
use Rattle.um_machine.specs.State.{script_lines, is_repeat, settled, first_place, instruction_at, next_place}
use Rattle.um_measure.specs.Measure.{weights_behind, turn_cost, cost_from, lines_left}
use Rattle.um_measure.specs.Reached.{block_after, block_at, makes_steps, IsPlace}
use Rattle.um_measure.proofs.PlaceLemmas.{front, drop-split}
use Rattle.um_measure.proofs.SettledLemmas.{HasTurns, settled-script, settled-turns, settled-makes, settled-cost}
use Rattle.um_measure.proofs.ScriptLemmas.{closed-lines, turns-lines}

makes-once : (turns : ℕ) (line : Instr) → makes_steps (Some line) ≡ true → turns_after turns line ≡ turns
makes-once turns (Instr.Repeat times) h = absurd (false≢true h)
makes-once turns Instr.End h = absurd (false≢true h)
makes-once turns line h = refl

makes-no-repeat : (line : Instr) → makes_steps (Some line) ≡ true → is_repeat (Some line) ≡ false
makes-no-repeat (Instr.Repeat times) h = absurd (false≢true h)
makes-no-repeat line h = refl

still-outside : (block : Block) (line : Instr) → makes_steps (Some line) ≡ true → block_after block (Some line) ≡ outside → block ≡ outside
still-outside outside line h e = refl
still-outside opened (Instr.Repeat times) h e = absurd (false≢true h)
still-outside opened Instr.End h e = absurd (false≢true h)
still-outside opened line h e = cc
still-outside inside (Instr.Repeat times) h e = absurd (false≢true h)
still-outside inside Instr.End h e = absurd (false≢true h)
still-outside inside line h e = cc

abbrev pub onward : Place → Place
onward place = record { script = place.script; line = place.line + 1; left = place.left }

onward-turns : (lines : List Instr) (place : Place) (line : Instr) → slice_get lines place.line ≡ Some line → makes_steps (Some line) ≡ true → HasTurns lines place → HasTurns lines (onward place)
onward-turns lines place line e makes turns out =
    let behind : block_after (block_at lines place.line) (Some line) ≡ outside = subst (λ (o : Option Instr). block_after (block_at lines place.line) o ≡ outside) e (rw add-one at out) in
    turns (still-outside (block_at lines place.line) line makes behind)

onward-cost : (later : List ℕ) (lines : List Instr) (place : Place) (line : Instr) → slice_get lines place.line ≡ Some line → makes_steps (Some line) ≡ true
    → cost_from later lines (onward place) + line_cost later place.script line ≡ cost_from later lines place
onward-cost later lines place line e makes =
    let split : drop place.line lines ≡ line ∷ drop (suc place.line) lines = subst (λ (o : Option Instr). drop place.line lines ≡ front o (drop (suc place.line) lines)) e (drop-split lines place.line) in
    let turn : turn_cost later place.script lines (suc place.line) ≡ turn_cost later place.script lines place.line + line_cost later place.script line = rw (e, makes-no-repeat line makes) refl in
    let turns : max 1 place.left ≡ place.left - 1 + 1 = omega arith in
    rw (split, add-one place.line, turn, turns, makes-once (place.left - 1 + 1) line makes) (omega arith)

-- a place where a thread can be, from which the lines that are left cost no more than so much
pub record IsNext (image : Image) (place : Place) (most : ℕ) : Type 0 where
  pub stands : IsPlace image place
  pub cost : lines_left image place ≤ most

settled-next : (image : Image) → IsLawful image → (place : Place) → HasTurns (script_lines image place.script) place → IsNext image (settled (script_lines image place.script) place) (lines_left image place)
unfolding lines_left
settled-next image lawful place turns =
    let lines = script_lines image place.script in
    let closed = closed-lines image lawful place.script in
    let same = settled-script lines place in
    record {
      stands = record {
        makes = rw same (settled-makes lines closed place turns);
        turns = rw same (settled-turns lines closed place turns);
      };
      cost = rw same (rw same at (settled-cost (weights_behind image place.script) lines closed (turns-lines image lawful place.script) place));
    }

-- the next place, and what the line between costs
pub next-line : (image : Image) → IsLawful image → (place : Place) → IsPlace image place → (line : Instr) → instruction_at image place ≡ Some line
    → IsPlace image (next_place image place) × (lines_left image (next_place image place) + line_cost (weights_behind image place.script) place.script line ≤ lines_left image place)
unfolding lines_left
next-line image lawful place stands line e =
    let lines = script_lines image place.script in
    let makes : makes_steps (Some line) ≡ true = subst (λ (o : Option Instr). makes_steps o ≡ true) e stands.makes in
    let next = settled-next image lawful (onward place) (onward-turns lines place line e makes stands.turns) in
    let cost = onward-cost (weights_behind image place.script) lines place line e makes in
    let same : next_place image place ≡ settled lines (onward place) = rw e refl in
    rw same (next.stands, omega (arith, next.cost, cost))

next-at : (image : Image) → IsLawful image → (place : Place) → IsPlace image place → (line : Option Instr) → instruction_at image place ≡ line → IsNext image (next_place image place) (lines_left image place)
next-at image lawful place stands None e = let same : next_place image place ≡ place = rw e refl in rw same (record { stands = stands; cost = omega arith })
next-at image lawful place stands (Some line) e =
    let next = next-line image lawful place stands line e in record { stands = next.0; cost = omega (arith, next.1) }

pub next-stands : (image : Image) → IsLawful image → (place : Place) → IsPlace image place → IsNext image (next_place image place) (lines_left image place)
next-stands image lawful place stands = next-at image lawful place stands (instruction_at image place) refl

-- the first place of a script
pub first-stands : (image : Image) → IsLawful image → (script : ℕ) → IsNext image (first_place image script) (lines_cost (weights_behind image script) script 1 (script_lines image script))
unfolding lines_left
first-stands image lawful script =
    let next = settled-next image lawful (record { script = script; line = 0; left = 0 }) (λ out. refl) in
    record { stands = next.stands; cost = omega (arith, next.cost) }
