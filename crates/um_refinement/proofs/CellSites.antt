-- The sites of the cells in which threads wait, by the numbers of the cells: of an object, of the joins, of the futexes.
use Rattle.um_refinement.proofs.Words.{◌≡◌, ℕ, ◌+◌, ◌-◌, ◌<◌, Bool, true, false, refl, ap, ◌∙◌, arith, ◌==◌, if◌then◌else◌, nat_lt, eqb-false, ltb-true, lt-ltb, ROWS, Site}
use Rattle.um_base.specs.declared.limits.TheConstants.{FUTEX_CELL, JOIN_CELL}
use Rattle.um_fine.specs.Sites.{site_numbered}
use Rattle.um_refinement.specs.Stops.{cell_site}

-- the site of such a cell
abbrev pub waiting_cell : ℕ → Site
waiting_cell c = if c == JOIN_CELL then Site.joins else if c == FUTEX_CELL then Site.memory else Site.object c

not-below : (n m : ℕ) → (n < m → ⊥) → nat_lt n m ≡ false
not-below n m h = by (nat_lt n m) refl
  where
    by : (b : Bool) → nat_lt n m ≡ b → b ≡ false
    by true e = absurd (h (ltb-true n m e))
    by false e = refl

object-site : (c : ℕ) → c < ROWS → site_numbered (168 + c) ≡ Site.object c
object-site c few =
    ap (λ b. if b then Site.row (168 + c) else if nat_lt (168 + c) 160 then Site.thread (168 + c - 128) else rest) (not-below (168 + c) 128 (λ l. omega (arith, l)))
    ∙ (ap (λ b. if b then Site.thread (168 + c - 128) else rest) (not-below (168 + c) 160 (λ l. omega (arith, l)))
    ∙ (ap (λ b. if b then Site.domain (168 + c - 160) else if nat_lt (168 + c) 296 then Site.object (168 + c - 168) else beyond) (not-below (168 + c) 168 (λ l. omega (arith, l)))
    ∙ (ap (λ b. if b then Site.object (168 + c - 168) else beyond) (lt-ltb (168 + c) 296 (omega (arith, few))) ∙ ap Site.object (omega arith))))
  where
    beyond : Site
    beyond =
        if nat_lt (168 + c) 304 then Site.parts (168 + c - 296) else if 168 + c == 304 then Site.memory else if 168 + c == 305 then Site.heap else if 168 + c == 306 then Site.scheduler
        else if 168 + c == 307 then Site.clock
        else Site.joins

    rest : Site
    rest = if nat_lt (168 + c) 168 then Site.domain (168 + c - 160) else if nat_lt (168 + c) 296 then Site.object (168 + c - 168) else beyond

pub site-of-cell : (c : ℕ) → c < ROWS + 2 → site_numbered (cell_site c) ≡ waiting_cell c
site-of-cell c few = by (c == JOIN_CELL) refl (c == FUTEX_CELL) refl
  where
    by : (a : Bool) → (c == JOIN_CELL) ≡ a → (b : Bool) → (c == FUTEX_CELL) ≡ b → site_numbered (if a then 308 else if b then 304 else 168 + c) ≡ (if a then Site.joins else if b then Site.memory else Site.object c)
    by true p b q = refl
    by false p true q = refl
    by false p false q = let one = eqb-false c JOIN_CELL p in let two = eqb-false c FUTEX_CELL q in object-site c (omega (arith, few, one, two))
