-- What a seat saw where no step was made, and what its processor may do next when it has looked.
use Rattle.std.proofs.Common.{◌≡◌, ◌≢◌, ◌≤◌, ℕ, ◌&&◌, Bool, true, false, List, [], ◌∷◌, ◌++◌, inl, inr, refl, sym, ap, ◌∙◌, subst, append_assoc}
use Rattle.std.specs.Prelude.{nat_lt, Option, Some, None}
use Rattle.um_base.specs.declared.image.Image.{Image}
use Rattle.um_words.specs.Packed.{cell_of}
use Rattle.um_words.specs.declared.fine.FineAct.{FineAct}
use Rattle.um_fine.specs.Cells.{Cell, cell_says, cell_takes, cell_word}
use Rattle.um_fine.specs.Scheduler.{Scheduler}
use Rattle.um_fine.specs.Sites.{SiteState, site_number}
use Rattle.um_fine.specs.Steps.{Exchange, Site}
use Rattle.um_merge.specs.Logs.{Log}
use Rattle.um_merge.specs.declared.logged.Logged.{Logged}
use Rattle.um_fine.proofs.Filled.{filled-twice}
use Rattle.um_tables.specs.Asked.{asked, cell_made}
use Rattle.um_tables.specs.Sited.{IsShut}
use Rattle.um_tables.specs.SchedulerActs.{taken_made}
use Rattle.um_site.specs.declared.seat.Seat.{Seat}
use Rattle.um_board.specs.Contents.{Known, known}
use Rattle.um_board.specs.Placed.{AsksTurn, HasMadeNone}
use Rattle.um_board.specs.Saw.{Got, GotSince, Hinders, OthersAt, SawAt, SawCell, SawShut, WasGot}
use Rattle.um_board.specs.Seated.{KeptPlace, Unnoted}
use Rattle.um_board.specs.declared.seated.Seated.{Seated}
use Rattle.um_board.specs.declared.seated.Turn.{Turn}
use Rattle.um_board.proofs.Keeping.{unnoted-then}

-- Words that were got.

pub got-behind : (more got : List (ℕ × ℕ)) (i w : ℕ) → WasGot got i w → WasGot (more ++ got) i w
got-behind [] got i w was = was
got-behind (e ∷ more) got i w was = inr (got-behind more got i w was)

pub got-before : (got more : List (ℕ × ℕ)) (i w : ℕ) → WasGot got i w → WasGot (got ++ more) i w
got-before [] more i w was = absurd was
got-before (e ∷ got) more i w (inl is) = inl is
got-before (e ∷ got) more i w (inr behind) = inr (got-before got more i w behind)

pub got-one : (old new : List (ℕ × ℕ)) (i w : ℕ) → new ≡ (i, w) ∷ old → GotSince old new i w
got-one old new i w now = ((i, w) ∷ [], now, inl (refl, refl))

-- more words after that one, or before it
pub got-more : (old mid new more : List (ℕ × ℕ)) (i w : ℕ) → new ≡ more ++ mid → GotSince old mid i w → GotSince old new i w
got-more old mid new more i w now (own, is, was) =
    (more ++ own, now ∙ (ap (λ g. more ++ g) is ∙ sym (append_assoc more own old)), got-behind more own i w was)

pub got-first : (old mid new looked : List (ℕ × ℕ)) (i w : ℕ) → mid ≡ looked ++ old → GotSince mid new i w → GotSince old new i w
got-first old mid new looked i w first (own, is, was) =
    (own ++ looked, is ∙ (ap (λ g. own ++ g) first ∙ sym (append_assoc own looked old)), got-before own looked i w was)

-- the same moment, where the seat looked before
abbrev pub saw-first : (s mid : Seat Known) (a b : List Logged) (i w : ℕ) → Unnoted s a mid b → SawAt mid i w → SawAt s i w
saw-first s mid a b i w u saw =
    let k = u.keeps in
    let of = saw.of in
    record {
      view = saw.view;
      of = record {
        image = of.image ∙ ap (λ (q : KeptPlace). q.image) k;
        opening = of.opening ∙ ap (λ (q : KeptPlace). q.opening) k;
        name = of.name ∙ ap (λ (q : KeptPlace). q.name) k;
        made = of.made ∙ u.made;
        children = of.children ∙ ap (λ (q : KeptPlace). q.children) k;
        lists = of.lists ∙ ap (λ (q : KeptPlace). q.lists) k;
        filled = of.filled ∙ ap (λ (q : KeptPlace). q.filled) k;
      };
      moment = saw.moment;
    }

pub cell-first : (s mid : Seat Known) (a b : List Logged) (i w : ℕ) (c : Known) → Unnoted s a mid b → SawCell mid i w c → SawCell s i w c
cell-first s mid a b i w c u saw = record { saw = saw-first s mid a b i w u saw.saw; free = saw.free; contents = saw.contents }

others-first : (s mid t : Seat Known) (a b : List Logged) (i : ℕ) → Unnoted s a mid b → OthersAt mid t i → OthersAt s t i
others-first s mid t a b i u (OthersAt.out w cell got out) = OthersAt.out w cell (got-first _ _ _ u.got.0 i w u.got.1 got) out
others-first s mid t a b i u (OthersAt.moved w z got now other) = OthersAt.moved w z (got-first _ _ _ u.got.0 i w u.got.1 got) (got-first _ _ _ u.got.0 i z u.got.1 now) other

-- the same cause
hinders-first : (room : ℕ) (log : List Logged) (s mid t : Seat Known) (a b : List Logged) (i : ℕ) → Unnoted s a mid b → Hinders room log mid t i → Hinders room log s t i
hinders-first room log s mid t a b i u (Hinders.others others) = Hinders.others (others-first s mid t a b i u others)
hinders-first room log s mid t a b i u (Hinders.full w saw full) = Hinders.full w (saw-first s mid a b i w u saw) full
hinders-first room log s mid t a b i u (Hinders.no_thread n w less is saw none) = Hinders.no_thread n w less is (saw-first s mid a b i w u saw) none
hinders-first room log s mid t a b i u (Hinders.no_domain n w less is saw none) = Hinders.no_domain n w less is (saw-first s mid a b i w u saw) none
hinders-first room log s mid t a b i u (Hinders.worn w c cell saw counts) = Hinders.worn w c cell (cell-first s mid a b i w c u saw) counts
hinders-first room log s mid t a b i u (Hinders.crowded w image c at saw many) = Hinders.crowded w image c at (cell-first s mid a b i w (known image (Cell.clock c)) u saw) many

-- the same of a place, whose log stayed as it was
pub hindered-first : (s mid t : Seated) (i : ℕ) → HasMadeNone s mid → mid.log ≡ s.log → Hinders mid.log.room mid.log.items mid.seat t.seat i → Hinders s.log.room s.log.items s.seat t.seat i
hindered-first s mid t i looked same why =
    hinders-first _ _ _ _ _ _ _ i looked (subst (λ (l : Log). Hinders l.room l.items mid.seat t.seat i) same why)

-- the turn that was asked for after a look
pub asked-first : {K : Type 0} (cell_of : K → Cell) (room_of : K → Option ℕ) (image : Image) (s mid t : Seated) (i : ℕ) (r : Option (Turn K × K)) → HasMadeNone s mid → mid.log ≡ s.log
    → AsksTurn cell_of room_of image mid i r t → AsksTurn cell_of room_of image s i r t
asked-first cell_of room_of image s mid t i None looked same asked = (asked.0, hindered-first s mid t i looked same asked.1)
asked-first cell_of room_of image s mid t i (Some x) looked same (is, taken) =
    (is, record { turn = taken.turn; free = taken.free; got = got-first _ _ _ looked.got.0 _ _ looked.got.1 taken.got; saw = cell-first _ _ _ _ _ _ _ looked taken.saw; marks = taken.marks })

-- another word stood at the site than the one that was looked at
pub moved-on : (room : ℕ) (log a b d : List Logged) (s mid t : Seat Known) (i w z : ℕ) → Unnoted s a mid b → Unnoted mid b t d
    → mid.token.me.0.got ≡ (i, w) ∷ s.token.me.0.got → t.token.me.0.got ≡ (i, z) ∷ mid.token.me.0.got → z ≢ w → Unnoted s a t d × Hinders room log s t i
moved-on room log a b d s mid t i w z first none looked now other = (
  unnoted-then s mid t a b d first none,
  Hinders.others (OthersAt.moved w z (got-more _ _ _ ((i, z) ∷ []) i w now (got-one _ _ i w looked)) (got-first _ _ _ ((i, w) ∷ []) i z looked (got-one _ _ i z now)) other),
)

-- Steps that a cell refuses.

pub and-no : (b : Bool) → (b && false) ≡ false
and-no true = refl
and-no false = refl

-- a step that a cell refuses, after which the turn is given back
pub refused : (image : Image) (cpu : ℕ) (at : Site) (n w : ℕ) (z : Cell) (act : FineAct) (moved : Exchange) (s mid t : Seat Known) (a b d : List Logged) → Unnoted s a mid b → Unnoted mid b t d
    → 168 ≤ site_number at
    → cell_of w ≡ cell_word z n → Got s mid (site_number at) w → SawCell s (site_number at) w (known image z)
    → cell_takes z (cell_says image z moved act) ≡ false → Unnoted s a t d × SawShut image s t (cell_made image cpu at n z act moved)
refused image cpu at n w z act moved s mid t a b d taken back low says got saw denied =
    let shut : IsShut image (SiteState.cell n z) (cell_made image cpu at n z act moved) = record {
      refuses = ap (λ (b : Bool). nat_lt n 268435455 && b) denied ∙ and-no (nat_lt n 268435455);
      filled_in = filled-twice image (SiteState.cell n z) (asked cpu at act moved);
      seen = tt;
    } in (
      unnoted-then s mid t a b d taken back,
      SawShut.cell_refused n w (known image z) low (got-more _ _ _ back.got.0 _ _ back.got.1 got) saw says shut,
    )

-- a scheduler without threads
abbrev pub nobody : Scheduler
nobody = record { ready = []; parked = []; told = []; priorities = []; cuts = []; running = 0; owed = 0 }

pub none-shut : (image : Image) (cpu w : ℕ) (s t : Seat Known) → Got s t 306 w → SawAt s 306 w → (cell_of w).ready ≡ 0 → SawShut image s t (taken_made image cpu 0 nobody)
none-shut image cpu w s t got saw none = SawShut.none_ready w refl got saw none refl
