-- The contents with which the cells of a board open.
use Rattle.std.proofs.Common.{◌≡◌, ℕ, ◌+◌, ◌<◌, ◌≤◌, ◌++◌, List, [], ◌∷◌, ⊎_elim, refl, sym, ap, ◌∙◌, subst, arith, length, length-append}
use Rattle.std.specs.Prelude.{IsTrue, slice_index_or}
use Rattle.std.proofs.Math.Seq.{get_or-append_seam}
use Rattle.std.proofs.lemmas.Bool.Decides.{nat_tests}
use mathlib.Core.Option.{some-ne-none}
use lib.ListN.{get_elem?}
use Rattle.um_base.specs.declared.image.Image.{Image}
use Rattle.um_base.specs.declared.limits.TheConstants.{DOMAINS, ROWS}
use Rattle.um_site.proofs.Joining.{at_end}
use Rattle.um_fine.specs.Cells.{Cell}
use Rattle.um_fine.specs.Opening.{new_cell, object_cell, s_start}
use Rattle.um_fine.specs.Sites.{SiteState, is_site, site_number, site_numbered}
use Rattle.um_fine.specs.Steps.{Site}
use Rattle.um_fine.proofs.Keys.{number-back}
use Rattle.um_machine.specs.Run.{opening}
use Rattle.um_machine.specs.Table.{domain_at}
use Rattle.um_tables.specs.ObjectCells.{cleared, kept_in}
use Rattle.um_tables.specs.Sited.{domain_cell_state, no_domain_cell, object_state}
use Rattle.um_tables.specs.declared.domain_cell.DomainCell.{DomainCell}
use Rattle.um_tables.specs.declared.object_cell.ObjectCell.{ObjectCell}
use Rattle.um_opening.specs.Opened.{AreParts}
use Rattle.um_board.specs.Contents.{Known, Opens}
use Rattle.um_board.specs.Opening.{AreFirst}

abbrev cell_in : Cell → SiteState → Cell
cell_in other (SiteState.cell n c) = c
cell_in other state = other

-- a cell that has taken no step has taken none, however its contents are found
pub opened : (s : SiteState) (n : ℕ) (c d : Cell) → s ≡ new_cell d → SiteState.cell n c ≡ s → s ≡ SiteState.cell 0 c
opened s n c d new is = new ∙ ap (SiteState.cell 0) (sym (ap (cell_in c) (is ∙ new)))

-- one more after those that open so
pub one-more : (image : Image) (cs ds : List Known) (c : Known) → ds ≡ cs ++ c ∷ [] → AreFirst image cs → Opens image (168 + length cs) c → AreFirst image ds
one-more image cs ds c is first here k x at = ⊎_elim
    (λ old. first k x old)
    (λ last. subst (λ (p : ℕ × Known). Opens image (168 + p.0) p.1) (λ i. ((sym last.0) i, last.1 i)) here)
    (at_end cs c x k (ap (λ l. get_elem? l k) (sym is) ∙ at))

-- the site of a number among the cells
pub cell-site : (image : Image) (i : ℕ) (s : Site) → IsTrue (is_site s) → i ≡ site_number s → s_start image (site_numbered i) ≡ s_start image s
cell-site image i s there e = ap (s_start image) (ap site_numbered e ∙ number-back s there)

pub none-first : (image : Image) → AreFirst image []
none-first image k c at = absurd (some-ne-none c (sym at))

-- the objects from this one on open so
abbrev pub AreObjectsFrom : Image → ℕ → List ObjectCell → Type 0
AreObjectsFrom image x objects = (k : ℕ) → x ≤ k → k < ROWS → object_state (slice_index_or objects k (cleared 0)) ≡ s_start image (Site.object k)

-- the next object
pub object-opens : (image : Image) (objects : List ObjectCell) (o : ObjectCell) (n x : ℕ) → AreObjectsFrom image x objects → x < ROWS → o ≡ slice_index_or objects x (cleared 0) → n ≡ x
    → s_start image (site_numbered (168 + n)) ≡ SiteState.cell 0 (Cell.object (kept_in o))
object-opens image objects o n x are low read many =
    ap (λ (k : ℕ). s_start image (site_numbered (168 + k))) many
    ∙ cell-site image (168 + x) (Site.object x) (grind (arith, nat_tests)) refl
    ∙ opened (s_start image (Site.object x)) o.steps (Cell.object (kept_in o)) (object_cell (opening image) x) refl (ap object_state read ∙ are x (omega arith) low)

-- the objects after one that was taken
pub objects-left : (image : Image) (old new : List ObjectCell) (x : ℕ) → ((k : ℕ) → x < k → slice_index_or new k (cleared 0) ≡ slice_index_or old k (cleared 0)) → AreObjectsFrom image x old → AreObjectsFrom image (x + 1) new
objects-left image old new x same are k past low = ap object_state (same k (omega (arith, past))) ∙ are k (omega (arith, past)) low

-- the next domain of a list of all
pub parts-open : (image : Image) (cells front rest : List DomainCell) (c : DomainCell) (n : ℕ) → AreParts (opening image) DOMAINS cells → length cells ≡ DOMAINS → cells ≡ front ++ c ∷ rest → n ≡ ROWS + length front
    → s_start image (site_numbered (168 + n)) ≡ SiteState.cell 0 (Cell.parts c.parts)
parts-open image cells front rest c n are all split many =
    let m = length front in
    let low : m < DOMAINS = let l = ap (λ (xs : List DomainCell). length xs) split in omega (arith, all, l, length-append front (c ∷ rest)) in
    let read : slice_index_or cells m no_domain_cell ≡ c = ap (λ (xs : List DomainCell). slice_index_or xs m no_domain_cell) split ∙ get_or-append_seam front c rest no_domain_cell in
    let past : n ≡ 128 + m = many in
    ap (λ (k : ℕ). s_start image (site_numbered (168 + k))) past
    ∙ cell-site image (168 + (128 + m)) (Site.parts m) (grind (arith, nat_tests)) (omega arith)
    ∙ opened (s_start image (Site.parts m)) c.steps (Cell.parts c.parts) (Cell.parts (domain_at (opening image) m)) refl (ap domain_cell_state (sym read) ∙ are m low)
