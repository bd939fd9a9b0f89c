-- The contents of a cell are of its site's kind and of the board's image, since its steps keep both.
use Rattle.std.proofs.Common.{◌≡◌, ℕ, ◌+◌, ◌==◌, ◌<◌, ◌≤◌, Bool, true, false, List, [], ◌∷◌, Option, Some, None, nat_lt, if◌then◌else◌, refl, sym, ap, ◌∙◌, subst, arith}
use Rattle.std.proofs.lemmas.Bool.{lt-ltb}
use Rattle.std.proofs.lemmas.Bool.Decides.{nat_tests}
use Rattle.atomic_table.specs.Seated.{TableId}
use Rattle.atomic_table.specs.Table.{rest}
use Rattle.um_base.specs.declared.image.Image.{Image}
use Rattle.um_words.specs.declared.fine.FineAct.{FineAct}
use Rattle.um_words.specs.declared.kind.CellKind.{CellKind}
use Rattle.um_words.specs.declared.made.Made.{Made}
use Rattle.um_words.specs.Packed.{cell_of}
use Rattle.um_words.specs.Steps.{cell_kind_at}
use Rattle.um_fine.specs.Cells.{Cell, cell_after, cell_word, quiet_word}
use Rattle.um_fine.specs.Steps.{Exchange}
use Rattle.um_site.specs.Calls.{SameSeat}
use Rattle.um_site.specs.Cells.{AmongCells, ContentsAre, Follow}
use Rattle.um_site.specs.Tells.{HasTurn, taking}
use Rattle.um_site.specs.declared.seat.Seat.{Seat}
use Rattle.um_site.specs.declared.view.View.{View}
use Rattle.um_cell.specs.declared.cells.Cells.{Cells}
use Rattle.um_board.specs.Contents.{Follows, Known, Opens}
use Rattle.um_board.specs.Seated.{KeptPlace}
use Rattle.um_board.specs.Turned.{InTurn, IsPlaced, kind_of}
use Rattle.um_board.proofs.Keeping.{taken-turn}
use Rattle.um_board.proofs.OpeningKinds.{kind-opens}

kind-after : (image : Image) (c : Cell) (act : FineAct) (moved : Exchange) → kind_of (cell_after image c act moved) ≡ kind_of c
kind-after image (Cell.object o) act moved = refl
kind-after image (Cell.parts d) act moved = refl
kind-after image (Cell.memory m) act moved = refl
kind-after image (Cell.heap h) act moved = refl
kind-after image (Cell.scheduler s) act moved = refl
kind-after image (Cell.clock k) act moved = refl
kind-after image (Cell.joins j) act moved = refl

kind-follow : (x z : Known) (ms : List Made) → Follow Opens Follows x ms z → (z.image ≡ x.image) × (kind_of z.cell ≡ kind_of x.cell)
kind-follow x z [] f = (ap (λ (k : Known). k.image) (sym f), ap (λ (k : Known). kind_of k.cell) (sym f))
kind-follow x z (m ∷ ms) f =
    let e = kind-follow f.0 z ms f.2 in (
      e.0 ∙ f.1.of,
      e.1 ∙ (ap kind_of f.1.leaves ∙ kind-after x.image x.cell m.act m.moved),
    )

known_in : Known → Option Known → Known
known_in c (Some x) = x
known_in c None = c

pub contents-known : (image : Image) (i : ℕ) (c : Known) (ms : List Made) → 168 ≤ i → i < 309 → ContentsAre Opens Follows image i ms (Some c) → (c.image ≡ image) × (kind_of c.cell ≡ cell_kind_at i)
unfolding known_in
contents-known image i c ms low high k =
    let is : c ≡ k.0 = ap (known_in c) k.2 in
    let f = kind-follow k.1 k.0 ms k.4 in (
      ap (λ (x : Known). x.image) is ∙ (f.0 ∙ k.3.of),
      ap (λ (x : Known). kind_of x.cell) is ∙ (f.1 ∙ kind-opens image i k.1 low high k.3),
    )

-- the kind of a cell's site, by the first two tests
abbrev kind_by : ℕ → Bool → Bool → CellKind
kind_by site object parts =
    if object then CellKind.Object
    else if parts then CellKind.Domain
    else if site == 304 then CellKind.Memory
    else if site == 305 then CellKind.Heap
    else if site == 306 then CellKind.Scheduler
    else if site == 307 then CellKind.Clock
    else if site == 308 then CellKind.Join
    else CellKind.Unused

-- the kinds of the sites of objects and of domains
pub object-kind : (x : ℕ) → x < 128 → cell_kind_at (168 + x) ≡ CellKind.Object
object-kind x low = ap (λ (b : Bool). kind_by (168 + x) b (nat_lt (168 + x) 304)) (lt-ltb (168 + x) 296 (omega arith))

pub parts-kind : (d : ℕ) → d < 8 → cell_kind_at (296 + d) ≡ CellKind.Domain
parts-kind d low =
    let a : nat_lt (296 + d) 296 ≡ false = grind (arith, nat_tests) in
    let b : nat_lt (296 + d) 304 ≡ true = lt-ltb (296 + d) 304 (omega arith) in
    λ i. kind_by (296 + d) (a i) (b i)

-- what was taken with a turn is of the board's image, and of the kind that its site has
pub taken-known : (image : Image) (s t : Seat Known) (site word : ℕ) (c : Known) (past : List Made) → s.token.me.0.image ≡ image → 168 ≤ site → site < 309
    → HasTurn Opens Follows t.token.me site word None c → t.token.me.0 ≡ taking s.token.me.0 site word past → (c.image ≡ image) × (kind_of c.cell ≡ cell_kind_at site)
taken-known image s t site word c past is low high turn now =
    let known = contents-known t.token.me.0.image site c turn.turn.past low high turn.contents in
    (known.0 ∙ (ap (λ (v : View). v.image) now ∙ is), known.1)

-- a turn was taken
pub in-turn : (image : Image) (board : TableId) (cells : Cells Known) (rodata : List ℕ) (s t : Seat Known) (most site word number ready running owed : ℕ) (c : Known) (cell : Cell) (past : List Made)
    → IsPlaced image board cells rodata s most → 168 ≤ site → site < 309 → SameSeat s t → HasTurn Opens Follows t.token.me site word None c → t.token.me.0 ≡ taking s.token.me.0 site word past
    → rest t.token.me.1 ≡ s.token.me.1 → cell_of word ≡ quiet_word ready running owed number → ((n : ℕ) → cell_word c.cell n ≡ quiet_word ready running owed n) → number < 268435455 → c.cell ≡ cell
    → InTurn image board cells rodata t most site word number cell
in-turn image board cells rodata s t most site word number ready running owed c cell past p low high same turn now slots says counts room is =
    let k = (taken-turn s t site word past [] same now).keeps in
    let b = p.seated in
    let taken = taken-known image s t site word c past b.image_is low high turn now in
    record {
      here = ap (λ (q : KeptPlace). q.board) k ∙ b.here;
      words = b.words;
      first = b.first;
      count = b.count;
      filled = λ i h. subst (λ (q : KeptPlace). AmongCells q.filled i) (sym k) (b.filled i h);
      image_is = ap (λ (q : KeptPlace). q.image) k ∙ b.image_is;
      rodata_is = p.rodata_is;
      enough = p.enough;
      low = low;
      high = high;
      turn = subst (λ (x : Known). HasTurn Opens Follows t.token.me site word None x) (λ i. record { image = taken.0 i; cell = is i }) turn;
      rest_is = slots ∙ b.empty;
      kind = ap kind_of (sym is) ∙ taken.1;
      says = says ∙ (sym (counts number) ∙ ap (λ (x : Cell). cell_word x number) is);
      room = room;
    }
