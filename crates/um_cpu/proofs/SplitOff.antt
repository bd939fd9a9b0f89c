-- The processors of a board before their first turn: the first one at the board's first seat, and the others at seats that this one splits off.
use Rattle.std.proofs.Common.{◌≡◌, ℕ, zero, suc, ◌+◌, ◌<◌, List, [], ◌∷◌, ◌++◌, None, length, length-append, length-set, set, inl, inr, refl, sym, ap, ◌∙◌, subst, arith}
use Rattle.std.specs.Prelude.{slice_index_or}
use Rattle.std.proofs.lemmas.Bool.Decides.{leb_tells}
use Rattle.std.proofs.lemmas.List.{get_or_append_left, get_or_at}
use Rattle.atomic_table.specs.Seated.{TableId}
use Rattle.um_base.specs.Weight.{weight}
use Rattle.um_base.specs.declared.image.Image.{Image}
use Rattle.um_machine.specs.Memory.{rodata_of}
use Rattle.um_fine.specs.Processor.{idle}
use Rattle.um_processor.specs.Standing.{whole}
use Rattle.um_site.specs.Cells.{AmongCells}
use Rattle.um_site.specs.History.{child, newborn, splitter}
use Rattle.um_site.specs.declared.seat.Seat.{Seat}
use Rattle.um_site.specs.declared.view.View.{View}
use Rattle.um_cell.specs.declared.cells.Cells.{Cells}
use Rattle.um_board.specs.Contents.{Known}
use Rattle.um_board.specs.NextSteps.{seat_name}
use Rattle.um_board.specs.Opening.{AreOpening, IsFirst}
use Rattle.um_board.specs.Seated.{IsSeated}
use Rattle.um_board.specs.Turned.{IsPlaced}
use Rattle.um_cpu.specs.Ended.{Begins, EachAt, HasSplit, first_names}
use Rattle.um_cpu.specs.declared.cpu.Cpu.{Cpu}

-- the processor with another seat
abbrev pub with_seat : Cpu → Seat Known → Cpu
with_seat c t = record c { place = record c.place { seat = t } }

-- The processor of this number is new: it has no thread, is at this seat, and has an empty log with room.
pub record IsNew (image : Image) (board : TableId) (cells : Cells Known) (rodata : List ℕ) (own : Seat Known) (n : ℕ) (c : Cpu) : Type 0 where
  pub number : c.number ≡ n
  pub fresh : whole c.processor ≡ idle
  pub seat : c.place.seat ≡ own
  pub board_is : c.place.board.now.table.shared.table_id ≡ board
  pub cells_are : c.place.cells.now ≡ cells
  pub rodata_is : c.place.rodata.now ≡ rodata
  pub log : c.place.log.items ≡ []
  pub room : weight image < c.place.log.room

placed-same : (image : Image) (b b2 : TableId) (c c2 : Cells Known) (r r2 : List ℕ) (s s2 : Seat Known) (most : ℕ) → b2 ≡ b → c2 ≡ c → r2 ≡ r → s2 ≡ s → IsPlaced image b c r s most → IsPlaced image b2 c2 r2 s2 most
placed-same image b b2 c c2 r r2 s s2 most p q m n it =
    subst (λ (x : TableId). IsPlaced image x c2 r2 s2 most) (sym p) (subst (λ (x : Cells Known). IsPlaced image b x r2 s2 most) (sym q)
    (subst (λ (x : List ℕ). IsPlaced image b c x s2 most) (sym m) (subst (λ (x : Seat Known). IsPlaced image b c r x most) (sym n) it)))

-- another seat at the board, which knows the same cells as filled, has no turn and nothing with it
seated-as : (image : Image) (board : TableId) (cells : Cells Known) (s t : Seat Known) → t.token.table_id ≡ s.token.table_id → t.token.me.0.filled ≡ s.token.me.0.filled → t.token.me.0.image ≡ s.token.me.0.image
    → t.token.me.0.turn ≡ None → t.token.me.1 ≡ [] → IsSeated image board cells s → IsSeated image board cells t
seated-as image board cells s t here same of idle none seated =
    record {
      here = here ∙ seated.here;
      words = seated.words;
      first = seated.first;
      count = seated.count;
      filled = λ i is. subst (λ (filled : List ℕ). AmongCells filled i) (sym same) (seated.filled i is);
      image_is = of ∙ seated.image_is;
      idle = idle;
      empty = none;
    }

-- the same seat by the numbers of other cells, which are the same
numbered-as : (image : Image) (board other : TableId) (cells more : Cells Known) (s t : Seat Known) → IsSeated image board cells s → IsSeated image other more t → s.token.table_id ≡ other → IsSeated image other more s
numbered-as image board other cells more s t seated at here =
    record {
      here = here;
      words = at.words;
      first = at.first;
      count = at.count;
      filled = λ i is.
          let a = at.first in
          let b = at.count in
          let p = seated.first in
          let q = seated.count in
          seated.filled i (omega (arith, is.0, a, p), omega (arith, is.1, a, b, p, q));
      image_is = seated.image_is;
      idle = seated.idle;
      empty = seated.empty;
    }

-- a new processor at a seat that has made no step
module _ (image : Image) (board : TableId) (cells : Cells Known) (rodata : List ℕ) (own : Seat Known) (cpus n : ℕ) (c : Cpu) (new : IsNew image board cells rodata own n c) (rodata-is : rodata ≡ rodata_of image)
    (seated : IsSeated image board cells own) where
  begins-at : n < 8 → own.token.me.0.name ≡ seat_name n → AreOpening image own.token.me.0.opening → HasSplit n own cpus → own.joined ≡ 0 → own.token.me.0.joined ≡ [] → own.token.me.0.made ≡ [] → Begins image board cpus n c
  begins-at few name opening split joined lists made =
      record {
        sits = record {
          number = new.number;
          place = placed-same image board c.place.board.now.table.shared.table_id cells c.place.cells.now rodata c.place.rodata.now own c.place.seat c.place.log.room new.board_is new.cells_are new.rodata_is new.seat
              (record { seated = seated; rodata_is = rodata-is; enough = new.room });
          here = ap (λ (x : Seat Known). x.token.table_id) new.seat ∙ seated.here;
          name = ap (λ (x : Seat Known). x.token.me.0.name) new.seat ∙ name;
          opening = subst (λ (x : Seat Known). AreOpening image x.token.me.0.opening) (sym new.seat) opening;
          split = subst (λ (x : Seat Known). HasSplit n x cpus) (sym new.seat) split;
          joined = ap (λ (x : Seat Known). x.joined) new.seat ∙ joined;
          lists = ap (λ (x : Seat Known). x.token.me.0.joined) new.seat ∙ lists;
        };
        few = few;
        idle_is = new.fresh;
        made = ap (λ (x : Seat Known). x.token.me.0.made) new.seat ∙ made;
        log = new.log;
      }

-- the first processor, before its seat has split off any
pub begins-first : (image : Image) (board : TableId) (cells : Cells Known) (rodata : List ℕ) (s : Seat Known) (c : Cpu) → IsNew image board cells rodata s 0 c → rodata ≡ rodata_of image
    → IsSeated image board cells s → IsFirst s → AreOpening image s.token.me.0.opening → Begins image board 1 0 c
begins-first image board cells rodata s c new rodata-is seated first opening =
    begins-at image board cells rodata s 1 0 c new rodata-is seated (omega arith) first.name opening
    (record { first = first.first; split = (let none = first.split in omega (arith, none)); splits = first.splits ∙ sym first.split; children = first.children ∙ sym (ap first_names first.split) })
    first.joined first.lists first.made

-- Where the first seat has split off the others of so many processors, this is the name of the next one.
child-is : (v : View) (n k : ℕ) → v.name ≡ [] → v.splits ≡ n → n ≡ k → child v ≡ k ∷ []
child-is v n k name splits same = ap (λ (m : List ℕ × ℕ). m.0 ++ m.1 ∷ []) (λ i. (name i, (splits ∙ same) i))

module _ (image : Image) (board : TableId) (first : Cpu) where
  -- one more processor, at the seat that the first one has split off
  pub begins-next : (cells : Cells Known) (rodata : List ℕ) (s own : Seat Known) (n : ℕ) (c : Cpu) → Begins image board n 0 first → n < 8 → rodata ≡ rodata_of image → IsSeated image board cells s
      → own.token.table_id ≡ first.place.seat.token.table_id → own.token.me.0 ≡ newborn first.place.seat.token.me.0 → own.token.me.1 ≡ [] → own.split ≡ 0 → own.joined ≡ 0
      → IsNew image board cells rodata own n c → Begins image board (n + 1) n c
  begins-next cells rodata s own zero c begins few rodata-is seated here born none split joined new = let some = begins.sits.split.split in absurd (omega (arith, some))
  begins-next cells rodata s own (suc k) c begins few rodata-is seated here born none split joined new =
      let sits = begins.sits in
      let v = first.place.seat.token.me.0 in
      let at = sits.place.seated in
      let known = seated-as image first.place.board.now.table.shared.table_id first.place.cells.now first.place.seat own here (ap (λ (x : View). x.filled) born) (ap (λ (x : View). x.image) born) (ap (λ (x : View). x.turn) born) none at in
      let there = numbered-as image first.place.board.now.table.shared.table_id board first.place.cells.now cells own s known seated (here ∙ sits.here) in
      let last : first.place.seat.split ≡ k = (let all = sits.split.split in omega (arith, all)) in
      begins-at image board cells rodata own (suc k + 1) (suc k) c new rodata-is there few
      (ap (λ (x : View). x.name) born ∙ child-is v first.place.seat.split k sits.name sits.split.splits last)
      (subst (AreOpening image) (sym (ap (λ (x : View). x.opening) born)) sits.opening)
      (record { split = split; children = ap (λ (x : View). x.children) born })
      joined (ap (λ (x : View). x.joined) born) (ap (λ (x : View). x.made) born)

  -- the first one, behind that split
  pub begins-still : (t : Seat Known) (n : ℕ) → Begins image board n 0 first → t.token.table_id ≡ first.place.seat.token.table_id → t.token.me.0 ≡ splitter first.place.seat.token.me.0
      → t.token.me.1 ≡ first.place.seat.token.me.1 → t.split ≡ first.place.seat.split + 1 → t.joined ≡ first.place.seat.joined → t.first ≡ first.place.seat.first → Begins image board (n + 1) 0 (with_seat first t)
  begins-still t n begins here now none split joined is-first =
      let sits = begins.sits in
      let s = first.place.seat in
      let v = s.token.me.0 in
      let at = sits.place in
      let more : suc s.split ≡ t.split = omega (arith, split) in
      record {
        sits = record {
          number = sits.number;
          place = record {
            seated = seated-as image first.place.board.now.table.shared.table_id first.place.cells.now s t here (ap (λ (x : View). x.filled) now) (ap (λ (x : View). x.image) now)
                (ap (λ (x : View). x.turn) now ∙ at.seated.idle) (none ∙ at.seated.empty) at.seated;
            rodata_is = at.rodata_is;
            enough = at.enough;
          };
          here = here ∙ sits.here;
          name = ap (λ (x : View). x.name) now ∙ sits.name;
          opening = subst (AreOpening image) (sym (ap (λ (x : View). x.opening) now)) sits.opening;
          split = record {
            first = is-first ∙ sits.split.first;
            split = (let all = sits.split.split in omega (arith, all, split));
            splits = ap (λ (x : View). x.splits) now ∙ (ap (λ m. m + 1) sits.split.splits ∙ sym split);
            children = ap (λ (x : View). x.children) now ∙ ((λ i. child-is v s.split s.split sits.name sits.split.splits refl i ∷ sits.split.children i) ∙ ap first_names more);
          };
          joined = joined ∙ sits.joined;
          lists = ap (λ (x : View). x.joined) now ∙ sits.lists;
        };
        few = begins.few;
        idle_is = begins.idle_is;
        made = ap (λ (x : View). x.made) now ∙ begins.made;
        log = begins.log;
      }

-- what another one has doesn't depend on how many there are
begins-beside : (image : Image) (board : TableId) (cpus more k : ℕ) (c : Cpu) → Begins image board cpus (suc k) c → Begins image board more (suc k) c
begins-beside image board cpus more k c begins =
    let sits = begins.sits in
    record {
      sits = record { number = sits.number; place = sits.place; here = sits.here; name = sits.name; opening = sits.opening; split = sits.split; joined = sits.joined; lists = sits.lists };
      few = begins.few;
      idle_is = begins.idle_is;
      made = begins.made;
      log = begins.log;
    }

-- Lists of processors.

pub each-more : (P : ℕ → Cpu → Type 0) (xs : List Cpu) (x : Cpu) → EachAt P xs → P (length xs) x → EachAt P (xs ++ x ∷ [])
each-more P xs x each last k d less =
    elim (leb_tells (length xs) k) [
      | inl from ↦ (
          let long = length-append xs (x ∷ []) in
          let same : length xs ≡ k = omega (arith, long, less, from.1) in
          subst (P k) (sym (get_or_at xs x [] d k same)) (subst (λ (m : ℕ). P m x) same last)
          )
      | inr below ↦ subst (P k) (sym (get_or_append_left xs (x ∷ []) d k below.1)) (each k d below.1)
    ]

pub each-but-last : (P : ℕ → Cpu → Type 0) (xs : List Cpu) (x : Cpu) → EachAt P (xs ++ x ∷ []) → EachAt P xs
each-but-last P xs x each k d less =
    let long = length-append xs (x ∷ []) in
    subst (P k) (get_or_append_left xs (x ∷ []) d k less) (each k d (omega (arith, long, less)))

pub the-last : (P : ℕ → Cpu → Type 0) (xs : List Cpu) (x : Cpu) → EachAt P (xs ++ x ∷ []) → P (length xs) x
the-last P xs x each =
    let long = length-append xs (x ∷ []) in
    subst (P (length xs)) (get_or_at xs x [] x (length xs) refl) (each (length xs) x (omega (arith, long)))

-- another one stands first
each-first : (P Q : ℕ → Cpu → Type 0) (xs : List Cpu) (y : Cpu) → 0 < length xs → EachAt P xs → Q 0 y → ((k : ℕ) (c : Cpu) → P (suc k) c → Q (suc k) c) → EachAt Q (set xs 0 y)
each-first P Q [] y some each now beside = absurd (omega (arith, some))
each-first P Q (x ∷ xs) y some each now beside = at
  where
    at : (k : ℕ) (d : Cpu) → k < length (y ∷ xs) → Q k (slice_index_or (y ∷ xs) k d)
    at zero d less = now
    at (suc k) d less = beside k (slice_index_or xs k d) (each (suc k) d less)

-- All processors when the first one has split off one more, and that one has its place.
pub all-begin : (image : Image) (board : TableId) (cells : Cells Known) (rodata : List ℕ) (s : Seat Known) (n : ℕ) (all : List Cpu) (first : Cpu) (t own : Seat Known) (c : Cpu)
    → EachAt (Begins image board n) all → length all ≡ n → 0 < n → n < 8 → first ≡ slice_index_or all 0 first → rodata ≡ rodata_of image → IsSeated image board cells s
    → (t.token.table_id ≡ first.place.seat.token.table_id) × (t.token.me.0 ≡ splitter first.place.seat.token.me.0) × (t.token.me.1 ≡ first.place.seat.token.me.1)
    → (t.split ≡ first.place.seat.split + 1) × (t.joined ≡ first.place.seat.joined) × (t.first ≡ first.place.seat.first)
    → (own.token.table_id ≡ first.place.seat.token.table_id) × (own.token.me.0 ≡ newborn first.place.seat.token.me.0) × (own.token.me.1 ≡ []) → (own.split ≡ 0) × (own.joined ≡ 0)
    → IsNew image board cells rodata own n c → EachAt (Begins image board (n + 1)) (set all 0 (with_seat first t) ++ c ∷ [])
all-begin image board cells rodata s n all first t own c begins count some few is rodata-is seated (here, now, none) (split, joined, is-first) (own-here, born, own-none) (own-split, own-joined) new =
    let there : 0 < length all = omega (arith, count, some) in
    let was = subst (Begins image board n 0) (sym is) (begins 0 first there) in
    let still = begins-still image board first t n was here now none split joined is-first in
    let next = begins-next image board first cells rodata s own n c was few rodata-is seated own-here born own-none own-split own-joined new in
    let others = each-first (Begins image board n) (Begins image board (n + 1)) all (with_seat first t) there begins still (begins-beside image board n (n + 1)) in
    let long : n ≡ length (set all 0 (with_seat first t)) = sym (length-set all 0 (with_seat first t) ∙ count) in
    each-more (Begins image board (n + 1)) (set all 0 (with_seat first t)) c others (subst (λ (m : ℕ). Begins image board (n + 1) m c) long next)
