-- Places of threads in their scripts: the next one costs less by the line between them.
use Rattle.std.proofs.Common.{◌≡◌, ◌≢◌, ℕ, zero, suc, ◌+◌, ◌*◌, true, List, [], ◌∷◌, refl, sym, ◌∙◌, subst, arith, Option, Some, None, slice_get, drop, if◌then◌else◌}
use Rattle.std.proofs.lemmas.Bool.{false≢true}
use Rattle.um_base.specs.Lawful.{Block, outside, opened, inside, is_closed}
use Rattle.um_base.specs.Weight.{lines_cost}
use Rattle.um_base.specs.declared.instr.Instr.{Instr}
use Rattle.um_machine.specs.State.{is_repeat, repeat_before}
use Rattle.um_measure.specs.Measure.{cost_of_line, turn_cost}
use Rattle.um_measure.specs.Reached.{block_after, block_at, makes_steps}

-- Lines one by one.

abbrev pub front : {A : Type 0} → Option A → List A → List A
front None xs = xs
front (Some x) xs = x ∷ xs

pub drop-split : {A : Type 0} (xs : List A) (n : ℕ) → drop n xs ≡ front (slice_get xs n) (drop (suc n) xs)
drop-split [] zero = refl
drop-split [] (suc n) = refl
drop-split (x ∷ xs) zero = refl
drop-split (x ∷ xs) (suc n) = drop-split xs n

pub drop-none : {A : Type 0} (xs : List A) (n : ℕ) → slice_get xs n ≡ None → drop n xs ≡ []
drop-none [] zero h = refl
drop-none [] (suc n) h = refl
drop-none (x ∷ xs) zero h = cc
drop-none (x ∷ xs) (suc n) h = drop-none xs n h

-- Blocks.

closed-front : (block : Block) (line : Option Instr) (lines : List Instr) → is_closed block (front line lines) ≡ true → is_closed (block_after block line) lines ≡ true
closed-front block None lines h = h
closed-front outside (Some Instr.End) lines h = absurd (false≢true h)
closed-front outside (Some (Instr.Repeat times)) lines h = h
closed-front outside (Some line) lines h = h
closed-front opened (Some Instr.End) lines h = absurd (false≢true h)
closed-front opened (Some (Instr.Repeat times)) lines h = absurd (false≢true h)
closed-front opened (Some line) lines h = h
closed-front inside (Some Instr.End) lines h = h
closed-front inside (Some (Instr.Repeat times)) lines h = absurd (false≢true h)
closed-front inside (Some line) lines h = h

-- at each line the lines from there on close what is open
pub closed-at : (lines : List Instr) → is_closed outside lines ≡ true → (n : ℕ) → is_closed (block_at lines n) (drop n lines) ≡ true
closed-at lines h zero = h
closed-at lines h (suc n) =
    closed-front (block_at lines n) (slice_get lines n) (drop (suc n) lines)
    (subst (λ rest. is_closed (block_at lines n) rest ≡ true) (drop-split lines n) (closed-at lines h n))

-- what stands at a line of a closed block
abbrev pub Stands : Block → Option Instr → Type 0
Stands outside (Some Instr.End) = ⊥
Stands outside _ = Unit {0}
Stands opened None = ⊥
Stands opened (Some line) = makes_steps (Some line) ≡ true
Stands inside None = ⊥
Stands inside (Some (Instr.Repeat times)) = ⊥
Stands inside (Some line) = Unit {0}

stands-front : (block : Block) (line : Option Instr) (lines : List Instr) → (line ≡ None → lines ≡ []) → is_closed block (front line lines) ≡ true → Stands block line
stands-front outside None lines e h = tt
stands-front outside (Some Instr.End) lines e h = absurd (false≢true h)
stands-front outside (Some line) lines e h = tt
stands-front opened None lines e h = absurd (false≢true (subst (λ rest. is_closed opened rest ≡ true) (e refl) h))
stands-front opened (Some Instr.End) lines e h = absurd (false≢true h)
stands-front opened (Some (Instr.Repeat times)) lines e h = absurd (false≢true h)
stands-front opened (Some line) lines e h = refl
stands-front inside None lines e h = absurd (false≢true (subst (λ rest. is_closed inside rest ≡ true) (e refl) h))
stands-front inside (Some (Instr.Repeat times)) lines e h = absurd (false≢true h)
stands-front inside (Some line) lines e h = tt

pub stands-at : (lines : List Instr) → is_closed outside lines ≡ true → (n : ℕ) → Stands (block_at lines n) (slice_get lines n)
stands-at lines h n =
    stands-front (block_at lines n) (slice_get lines n) (drop (suc n) lines)
    (λ e. let split : drop n lines ≡ front None (drop (suc n) lines) = subst (λ (o : Option Instr). drop n lines ≡ front o (drop (suc n) lines)) e (drop-split lines n) in sym split ∙ drop-none lines n e)
    (subst (λ rest. is_closed (block_at lines n) rest ≡ true) (drop-split lines n) (closed-at lines h n))

-- Turns.

-- a line that is a repeat opens its block
pub opens-block : (block : Block) (line : Option Instr) → is_repeat line ≡ true → block_after block line ≡ opened
opens-block block None h = absurd (false≢true h)
opens-block block (Some (Instr.Repeat times)) h = refl
opens-block block (Some line) h = absurd (false≢true h)

repeat-step : (line : Option Instr) (block : Block) (lines : List Instr) (n back : ℕ) → slice_get lines n ≡ line
    → (block ≢ outside → is_repeat (slice_get lines back) ≡ true) → block_after block line ≢ outside
    → is_repeat (slice_get lines (if is_repeat line then n else back)) ≡ true
repeat-step None block lines n back e h open' = h open'
repeat-step (Some (Instr.Repeat times)) block lines n back e h open' = rw e refl
repeat-step (Some Instr.End) block lines n back e h open' = absurd (open' refl)
repeat-step (Some line) outside lines n back e h open' = absurd (open' refl)
repeat-step (Some line) opened lines n back e h open' = h (λ p. cc)
repeat-step (Some line) inside lines n back e h open' = h (λ p. cc)

-- inside of a block the last repeat before a line is one
pub repeat-stands : (lines : List Instr) (n : ℕ) → block_at lines n ≢ outside → is_repeat (slice_get lines (repeat_before lines n)) ≡ true
repeat-stands lines zero h = absurd (h refl)
repeat-stands lines (suc n) h = repeat-step (slice_get lines n) (block_at lines n) lines n (repeat_before lines n) refl (repeat-stands lines n) h

turn-step : (later : List ℕ) (i turns : ℕ) (line : Option Instr) (block : Block) (lines rest : List Instr) (n back cost : ℕ)
    → (block ≢ outside → lines_cost later i turns (drop (suc back) lines) ≡ turns * cost + lines_cost later i turns (front line rest))
    → lines_cost later i turns (drop (suc n) lines) ≡ lines_cost later i turns rest
    → block_after block line ≢ outside
    → lines_cost later i turns (drop (suc (if is_repeat line then n else back)) lines)
    ≡ turns * (if is_repeat line then 0 else cost + cost_of_line later i line) + lines_cost later i turns rest
turn-step later i turns None block lines rest n back cost h e open' = omega (arith, h open')
turn-step later i turns (Some (Instr.Repeat times)) block lines rest n back cost h e open' = omega (arith, e)
turn-step later i turns (Some Instr.End) block lines rest n back cost h e open' = absurd (open' refl)
turn-step later i turns (Some line) outside lines rest n back cost h e open' = absurd (open' refl)
turn-step later i turns (Some line) opened lines rest n back cost h e open' = let same = h (λ p. cc) in omega (arith, same)
turn-step later i turns (Some line) inside lines rest n back cost h e open' = let same = h (λ p. cc) in omega (arith, same)

-- the lines from the last repeat on are those up to a line, and those from there on
pub turn-back : (later : List ℕ) (i turns : ℕ) (lines : List Instr) (n : ℕ) → block_at lines n ≢ outside
    → lines_cost later i turns (drop (suc (repeat_before lines n)) lines) ≡ turns * turn_cost later i lines n + lines_cost later i turns (drop n lines)
turn-back later i turns lines zero h = absurd (h refl)
turn-back later i turns lines (suc n) h =
    turn-step later i turns (slice_get lines n) (block_at lines n) lines (drop (suc n) lines) n (repeat_before lines n) (turn_cost later i lines n)
    (λ open'. subst (λ rest. lines_cost later i turns (drop (suc (repeat_before lines n)) lines) ≡ turns * turn_cost later i lines n + lines_cost later i turns rest) (drop-split lines n)
    (turn-back later i turns lines n open'))
    refl h

pub turn-none : (later : List ℕ) (i : ℕ) (lines : List Instr) (n : ℕ) → is_repeat (slice_get lines n) ≡ true → turn_cost later i lines (suc n) ≡ 0
turn-none later i lines n h = rw h refl
