-- From an end to the next turn or past it, and from a repeat to its first line: nothing is made, and nothing is dearer.
use Rattle.std.proofs.Common.{◌≡◌, ◌≢◌, ◌<◌, ◌≤◌, ℕ, suc, ◌+◌, ◌-◌, ◌*◌, max, Bool, true, false, List, ◌∷◌, refl, sym, ◌∙◌, subst, arith, add-one, Option, Some, None, slice_get, drop, if◌then◌else◌}
use Rattle.std.specs.Prelude.{nat_le}
use Rattle.std.proofs.lemmas.Bool.{false≢true, leb-true, leb-false}
use Rattle.um_base.specs.Lawful.{outside, opened, is_closed}
use Rattle.um_base.specs.Weight.{lines_cost}
use Rattle.um_base.specs.declared.instr.Instr.{Instr}
use Rattle.um_machine.specs.declared.thread.Place.{Place}
use Rattle.um_machine.specs.State.{is_repeat, repeat_before, past_end, into_repeat, settled}
use Rattle.um_measure.specs.Measure.{turn_cost, cost_from}
use Rattle.um_measure.specs.Reached.{block_after, block_at, makes_steps}
use Rattle.um_measure.proofs.PlaceLemmas.{front, drop-split, Stands, stands-at, opens-block, repeat-stands, turn-back, turn-none}

-- no turns are left outside of a repeat
abbrev pub HasTurns : List Instr → Place → Type 0
HasTurns lines place = block_at lines place.line ≡ outside → place.left ≡ 0

abbrev pub is_end : Option Instr → Bool
is_end (Some Instr.End) = true
is_end _ = false

opened-outside : opened ≢ outside
opened-outside p = cc

block-behind : (lines : List Instr) (n : ℕ) (line : Option Instr) → slice_get lines n ≡ line → block_at lines (n + 1) ≡ block_after (block_at lines n) line
block-behind lines n line e = rw (add-one n, e) refl

-- Past an end.

-- the block before an end is open
end-open : (lines : List Instr) → is_closed outside lines ≡ true → (n : ℕ) → slice_get lines n ≡ Some Instr.End → block_at lines n ≢ outside
end-open lines closed n e p = subst (λ (o : Option Instr). Stands outside o) e (subst (λ b. Stands b (slice_get lines n)) p (stands-at lines closed n))

-- what is left of a place where its line is an end: the lines behind the end, and the turns
at-end : (later : List ℕ) (lines : List Instr) (place : Place) → slice_get lines place.line ≡ Some Instr.End
    → cost_from later lines place ≡ lines_cost later place.script 1 (drop (suc place.line) lines) + (place.left - 1) * turn_cost later place.script lines place.line
at-end later lines place e =
    let split : drop place.line lines ≡ Instr.End ∷ drop (suc place.line) lines = subst (λ (o : Option Instr). drop place.line lines ≡ front o (drop (suc place.line) lines)) e (drop-split lines place.line) in
    rw split (omega arith)

-- back to the first line of the repeat
turn-again : (later : List ℕ) (i : ℕ) (lines : List Instr) (n left : ℕ) → 1 < left → slice_get lines n ≡ Some Instr.End → block_at lines n ≢ outside
    → lines_cost later i (max 1 (left - 1)) (drop (repeat_before lines n + 1) lines) + (left - 1 - 1) * turn_cost later i lines (repeat_before lines n + 1)
    ≡ lines_cost later i 1 (drop (suc n) lines) + (left - 1) * turn_cost later i lines n
turn-again later i lines n left h e open' =
    let split : drop n lines ≡ Instr.End ∷ drop (suc n) lines = subst (λ (o : Option Instr). drop n lines ≡ front o (drop (suc n) lines)) e (drop-split lines n) in
    let turns : max 1 (left - 1) ≡ left - 1 = omega (arith, h) in
    let none = turn-none later i lines (repeat_before lines n) (repeat-stands lines n open') in
    let back = turn-back later i (left - 1) lines n open' in
    rw (add-one (repeat_before lines n), turns, none, back, split) (omega arith)

past-cost-if : (later : List ℕ) (lines : List Instr) → is_closed outside lines ≡ true → (place : Place) → slice_get lines place.line ≡ Some Instr.End → (b : Bool) → nat_le place.left 1 ≡ b
    → cost_from later lines (if b then record { script = place.script; line = place.line + 1; left = 0 } else record { script = place.script; line = repeat_before lines place.line + 1; left = place.left - 1 })
    ≡ cost_from later lines place
past-cost-if later lines closed place e true h =
    let few = leb-true place.left 1 h in
    let none : place.left - 1 ≡ 0 = omega (arith, few) in
    rw (at-end later lines place e, add-one place.line, none) (omega arith)
past-cost-if later lines closed place e false h =
    rw (at-end later lines place e) (turn-again later place.script lines place.line place.left (leb-false place.left 1 h) e (end-open lines closed place.line e))

past-cost-at : (later : List ℕ) (lines : List Instr) → is_closed outside lines ≡ true → (place : Place) → (line : Option Instr) → slice_get lines place.line ≡ line
    → cost_from later lines (past_end lines place line) ≡ cost_from later lines place
past-cost-at later lines closed place None e = refl
past-cost-at later lines closed place (Some Instr.End) e = past-cost-if later lines closed place e (nat_le place.left 1) refl
past-cost-at later lines closed place (Some line) e = refl

-- one of two places has what both have
either : (P : Place → Type 0) (b : Bool) (x y : Place) → (b ≡ true → P x) → (b ≡ false → P y) → P (if b then x else y)
either P true x y f g = f refl
either P false x y f g = g refl

past-script : (lines : List Instr) (place : Place) (line : Option Instr) → (past_end lines place line).script ≡ place.script
past-script lines place None = refl
past-script lines place (Some Instr.End) = either (λ (p : Place). p.script ≡ place.script) (nat_le place.left 1) _ _ (λ h. refl) (λ h. refl)
past-script lines place (Some line) = refl

-- behind a repeat a block is open, and its first line makes steps
repeat-open : (lines : List Instr) (n : ℕ) → is_repeat (slice_get lines n) ≡ true → block_at lines (n + 1) ≡ opened
repeat-open lines n h = rw (add-one n) (opens-block (block_at lines n) (slice_get lines n) h)

stands-makes : (line : Option Instr) → Stands opened line → makes_steps line ≡ true
stands-makes None h = absurd h
stands-makes (Some line) h = h

first-makes : (lines : List Instr) → is_closed outside lines ≡ true → (n : ℕ) → is_repeat (slice_get lines n) ≡ true → makes_steps (slice_get lines (n + 1)) ≡ true
first-makes lines closed n h = stands-makes (slice_get lines (n + 1)) (subst (λ b. Stands b (slice_get lines (n + 1))) (repeat-open lines n h) (stands-at lines closed (n + 1)))

opened-turns : (lines : List Instr) (place : Place) → block_at lines place.line ≡ opened → HasTurns lines place
opened-turns lines place h out = absurd (opened-outside (sym h ∙ out))

makes-not-end : (line : Option Instr) → makes_steps line ≡ true → is_end line ≡ false
makes-not-end None h = refl
makes-not-end (Some Instr.End) h = absurd (false≢true h)
makes-not-end (Some line) h = refl

stands-not-end : (line : Option Instr) → Stands outside line → is_end line ≡ false
stands-not-end None h = refl
stands-not-end (Some Instr.End) h = absurd h
stands-not-end (Some line) h = refl

end-behind : (lines : List Instr) (n : ℕ) → slice_get lines n ≡ Some Instr.End → block_at lines (n + 1) ≡ outside
end-behind lines n e = block-behind lines n (Some Instr.End) e

abbrev IsPast : List Instr → Place → Type 0
IsPast lines place = HasTurns lines place × (is_end (slice_get lines place.line) ≡ false)

past-at : (lines : List Instr) → is_closed outside lines ≡ true → (place : Place) → HasTurns lines place → (line : Option Instr) → slice_get lines place.line ≡ line → IsPast lines (past_end lines place line)
past-at lines closed place turns None e = (turns, rw e refl)
past-at lines closed place turns (Some Instr.End) e =
    let back = repeat_before lines place.line in
    let stands = repeat-stands lines place.line (end-open lines closed place.line e) in
    either (IsPast lines) (nat_le place.left 1) _ _
    (λ h. (λ out. refl, stands-not-end (slice_get lines (place.line + 1)) (subst (λ b. Stands b (slice_get lines (place.line + 1))) (end-behind lines place.line e) (stands-at lines closed (place.line + 1)))))
    (λ h. (opened-turns lines (record { script = place.script; line = back + 1; left = place.left - 1 }) (repeat-open lines back stands), makes-not-end (slice_get lines (back + 1)) (first-makes lines closed back stands)))
past-at lines closed place turns (Some line) e = (turns, rw e refl)

-- Into a repeat.

abbrev pub has_turn : Option Instr → Bool
has_turn (Some (Instr.Repeat times)) = nat_le 1 times
has_turn _ = true

into-cost-at : (later : List ℕ) (lines : List Instr) (place : Place) (line : Option Instr) → slice_get lines place.line ≡ line → has_turn line ≡ true
    → cost_from later lines (into_repeat place line) ≤ cost_from later lines place
into-cost-at later lines place None e h = omega arith
into-cost-at later lines place (Some (Instr.Repeat times)) e h =
    let split : drop place.line lines ≡ Instr.Repeat times ∷ drop (suc place.line) lines = subst (λ (o : Option Instr). drop place.line lines ≡ front o (drop (suc place.line) lines)) e (drop-split lines place.line) in
    let some : 1 ≤ times = leb-true 1 times h in
    let turns : max 1 times ≡ times = omega (arith, some) in
    let none = turn-none later place.script lines place.line (rw e refl) in
    rw (split, add-one place.line, none, turns) (omega arith)
into-cost-at later lines place (Some line) e h = omega arith

into-script : (place : Place) (line : Option Instr) → (into_repeat place line).script ≡ place.script
into-script place None = refl
into-script place (Some (Instr.Repeat times)) = refl
into-script place (Some line) = refl

into-turns : (lines : List Instr) (place : Place) → HasTurns lines place → (line : Option Instr) → slice_get lines place.line ≡ line → HasTurns lines (into_repeat place line)
into-turns lines place turns None e = turns
into-turns lines place turns (Some (Instr.Repeat times)) e = opened-turns lines (record { script = place.script; line = place.line + 1; left = times }) (repeat-open lines place.line (rw e refl))
into-turns lines place turns (Some line) e = turns

into-makes : (lines : List Instr) → is_closed outside lines ≡ true → (place : Place) (line : Option Instr) → slice_get lines place.line ≡ line → is_end line ≡ false → makes_steps (slice_get lines (into_repeat place line).line) ≡ true
into-makes lines closed place None e h = rw e refl
into-makes lines closed place (Some (Instr.Repeat times)) e h = first-makes lines closed place.line (rw e refl)
into-makes lines closed place (Some Instr.End) e h = absurd (false≢true (sym h))
into-makes lines closed place (Some line) e h = rw e refl

-- Settled.

pub settled-script : (lines : List Instr) (place : Place) → (settled lines place).script ≡ place.script
settled-script lines place = into-script _ _ ∙ past-script lines place (slice_get lines place.line)

pub settled-turns : (lines : List Instr) → is_closed outside lines ≡ true → (place : Place) → HasTurns lines place → HasTurns lines (settled lines place)
settled-turns lines closed place turns =
    let past = past-at lines closed place turns (slice_get lines place.line) refl in into-turns lines (past_end lines place (slice_get lines place.line)) past.0 _ refl

pub settled-makes : (lines : List Instr) → is_closed outside lines ≡ true → (place : Place) → HasTurns lines place → makes_steps (slice_get lines (settled lines place).line) ≡ true
settled-makes lines closed place turns =
    let past = past-at lines closed place turns (slice_get lines place.line) refl in into-makes lines closed (past_end lines place (slice_get lines place.line)) _ refl past.1

pub settled-cost : (later : List ℕ) (lines : List Instr) → is_closed outside lines ≡ true → ((n : ℕ) → has_turn (slice_get lines n) ≡ true) → (place : Place)
    → cost_from later lines (settled lines place) ≤ cost_from later lines place
settled-cost later lines closed turn place =
    let past = past_end lines place (slice_get lines place.line) in
    let same : cost_from later lines past ≡ cost_from later lines place = past-cost-at later lines closed place (slice_get lines place.line) refl in
    let into : cost_from later lines (settled lines place) ≤ cost_from later lines past = into-cost-at later lines past (slice_get lines past.line) refl (turn past.line) in
    omega (arith, same, into)
