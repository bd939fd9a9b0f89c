-- A step that a cell of tables takes is made there, leaves its contents, and appends its event to the log. After the last step number no
-- step is made.
use Rattle.std.proofs.Common.{◌≡◌, ◌<◌, ℕ, ◌+◌, Bool, true, false, IsTrue, List, ap, refl, ◌∙◌, nat_lt, ◌&&◌, slice_index_or, slice_set, length}
use Rattle.std.proofs.lemmas.Bool.{lt-ltb}
use Rattle.std.proofs.lemmas.List.{get_or_read, set-get_or}
use Rattle.um_base.specs.declared.act.Event.{Event}
use Rattle.um_base.specs.declared.image.Image.{Image}
use Rattle.um_words.specs.declared.fine.FineAct.{FineAct}
use Rattle.um_fine.specs.Cells.{Cell, cell_after, cell_moves, cell_says, cell_takes}
use Rattle.um_fine.specs.Clock.{Clock}
use Rattle.um_fine.specs.Sites.{SiteState}
use Rattle.um_fine.specs.Steps.{Exchange, Site}
use Rattle.um_fine.proofs.Filled.{filled-twice}
use Rattle.um_tables.specs.Asked.{asked, cell_made, event_of}
use Rattle.um_tables.specs.declared.domain_cell.DomainCell.{DomainCell}
use Rattle.um_tables.specs.declared.object_cell.ObjectCell.{ObjectCell}
use Rattle.um_tables.specs.ObjectCells.{cleared, kept_in}
use Rattle.um_tables.specs.Sited.{IsShut, Sited, WasMade, domain_cell_state, logged, no_domain_cell, object_state, state_at, with_state}
use Rattle.um_tables.proofs.Tabled.{refused, taken}

pub cell-taken : (image : Image) (old p : Sited) → p ≡ old → (cpu : ℕ) (site : Site) (n : ℕ) (c z : Cell) (act : FineAct) (moved : Exchange)
    → SiteState.cell n c ≡ state_at p site → n < 268435455
    → IsTrue (cell_takes c (cell_says image c moved act))
    → z ≡ cell_after image c (cell_says image c moved act) (cell_moves image c act moved)
    → (log : List Event) (most : ℕ) → log ≡ logged p.log (event_of (cell_says image c moved act)) → most ≡ p.most
    → WasMade image old (cell_made image cpu site n c act moved) (with_state (record p { log = log; most = most }) site (SiteState.cell (n + 1) z))
cell-taken image old p v cpu site n c z act moved here room takes leaves log most l m =
    taken image old p v (cell_made image cpu site n c act moved) (SiteState.cell n c) (SiteState.cell (n + 1) z) here
    (record {
      may = record {
        takes = ap (λ (b : Bool). b && cell_takes c (cell_says image c moved act)) (lt-ltb n 268435455 room) ∙ takes;
        filled_in = filled-twice image (SiteState.cell n c) (asked cpu site act moved);
      };
      leaves = ap (λ (t : Cell). SiteState.cell (n + 1) t) leaves;
    })
    log most l m

pub cell-ends : (image : Image) (old p : Sited) → p ≡ old → (cpu : ℕ) (site : Site) (n : ℕ) (c : Cell) (act : FineAct) (moved : Exchange)
    → SiteState.cell n c ≡ state_at p site → nat_lt n 268435455 ≡ false
    → IsShut image (state_at old site) (cell_made image cpu site n c act moved)
cell-ends image old p v cpu site n c act moved here denied =
    refused image old p v (cell_made image cpu site n c act moved) (SiteState.cell n c) here
    (ap (λ (b : Bool). b && cell_takes c (cell_says image c moved act)) denied)
    (filled-twice image (SiteState.cell n c) (asked cpu site act moved))
    tt

and-no : (b : Bool) → (b && false) ≡ false
and-no true = refl
and-no false = refl

pub cell-refused : (image : Image) (old p : Sited) → p ≡ old → (cpu : ℕ) (site : Site) (n : ℕ) (c : Cell) (act : FineAct) (moved : Exchange)
    → SiteState.cell n c ≡ state_at p site → cell_takes c (cell_says image c moved act) ≡ false
    → IsShut image (state_at old site) (cell_made image cpu site n c act moved)
cell-refused image old p v cpu site n c act moved here denied =
    refused image old p v (cell_made image cpu site n c act moved) (SiteState.cell n c) here
    (ap (λ (b : Bool). nat_lt n 268435455 && b) denied ∙ and-no (nat_lt n 268435455))
    (filled-twice image (SiteState.cell n c) (asked cpu site act moved))
    tt

-- a clock that is as before leaves all as before
pub clock-kept : (old p : Sited) → p ≡ old → (c : Clock) → c ≡ p.clock → record p { clock = c } ≡ old
clock-kept old p v c same = ap (λ (z : Clock). record p { clock = z }) same ∙ v

-- an object's cell that is written back as it was leaves all as before
pub object-kept : (old p : Sited) → p ≡ old → (x : ℕ) (c : ObjectCell) → c ≡ slice_index_or p.objects x (cleared 0) → record p { objects = slice_set p.objects x c } ≡ old
object-kept old p v x c here =
    ap (λ (o : List ObjectCell). record p { objects = o }) (ap (slice_set p.objects x) here ∙ set-get_or p.objects x (cleared 0)) ∙ v

-- the same of a domain's cell
pub domain-kept : (old p : Sited) → p ≡ old → (d : ℕ) (c : DomainCell) → c ≡ slice_index_or p.domain_cells d no_domain_cell → record p { domain_cells = slice_set p.domain_cells d c } ≡ old
domain-kept old p v d c here =
    ap (λ (o : List DomainCell). record p { domain_cells = o }) (ap (slice_set p.domain_cells d) here ∙ set-get_or p.domain_cells d no_domain_cell) ∙ v

-- the state of a domain's cell is that of the cell that was read
pub domain-read : (cells : List DomainCell) (d : ℕ) (c : DomainCell) → d < length cells → c ≡ slice_index_or cells d c
    → domain_cell_state c ≡ domain_cell_state (slice_index_or cells d no_domain_cell)
domain-read cells d c short read = ap domain_cell_state (get_or_read cells d c short read no_domain_cell)

-- an object's cell after its last step number: it is written back, and refuses the step
pub object-ends : (image : Image) (old p : Sited) → p ≡ old → (cpu x : ℕ) (c : ObjectCell) (act : FineAct) (moved : Exchange)
    → c ≡ slice_index_or p.objects x (cleared 0) → nat_lt c.steps 268435455 ≡ false
    → (record p { objects = slice_set p.objects x c } ≡ old)
    × IsShut image (state_at old (Site.object x)) (cell_made image cpu (Site.object x) c.steps (Cell.object (kept_in c)) act moved)
object-ends image old p v cpu x c act moved read denied =
    (object-kept old p v x c read, cell-ends image old p v cpu (Site.object x) c.steps (Cell.object (kept_in c)) act moved (ap object_state read) denied)

-- the same of a domain's cell
pub domain-ends : (image : Image) (old p : Sited) → p ≡ old → (cpu d : ℕ) (c : DomainCell) (act : FineAct) (moved : Exchange)
    → d < length p.domain_cells → c ≡ slice_index_or p.domain_cells d c → nat_lt c.steps 268435455 ≡ false
    → (record p { domain_cells = slice_set p.domain_cells d c } ≡ old)
    × IsShut image (state_at old (Site.parts d)) (cell_made image cpu (Site.parts d) c.steps (Cell.parts c.parts) act moved)
domain-ends image old p v cpu d c act moved short read denied =
    (domain-kept old p v d c (get_or_read p.domain_cells d c short read no_domain_cell), cell-ends image old p v cpu (Site.parts d) c.steps (Cell.parts c.parts) act moved (domain-read p.domain_cells d c short read) denied)
