-- The cells of a board: sites from 168 on, of which the site 168 + k has its contents in the slot k while nobody has its turn.
use Rattle.std.specs.Prelude.{◌≡◌, ◌≢◌, ℕ, ◌+◌, ◌-◌, ◌%◌, ◌<◌, ◌≤◌, ◌⊎◌, true, List, [], ◌∷◌, length, slice_index, Option, Some}
use mathlib.Core.Option as found
use mathlib.Core.Option.{some}
use lib.ListN.{get_elem?}
use Rattle.um_base.specs.declared.image.Image.{Image}
use Rattle.um_words.specs.declared.fine.FineAct.{FineAct}
use Rattle.um_words.specs.declared.made.Made.{Made}
use Rattle.um_words.specs.Exchanges.{Exchange}
use Rattle.um_site.specs.declared.turn.Turn.{Turn}
use Rattle.um_site.specs.declared.view.View.{View}
use Rattle.um_words.specs.History.{Entry, IsHistory, by_seat, by_site}
use Rattle.um_site.specs.History.{Has, Kept, Knows, Tidy}

abbrev pub AmongCells : List ℕ → ℕ → Type 0
AmongCells [] i = ⊥
AmongCells (c ∷ cs) i = (c ≡ i) ⊎ AmongCells cs i

-- no step of the site i
abbrev pub NoSteps : ℕ → List Made → Type 0
NoSteps i [] = Unit {0}
NoSteps i (m ∷ ms) = (m.site ≢ i) × NoSteps i ms

-- no step of it in lists under names
abbrev pub NoneOfThem : ℕ → List (List ℕ × List Made) → Type 0
NoneOfThem i [] = Unit {0}
NoneOfThem i (e ∷ es) = NoSteps i e.1 × NoneOfThem i es

-- a turn that is out: the cell's word has its bit set and is as it was otherwise, and no step was made at the cell since
pub record IsTurn (words : List ℕ) (slots : ℕ) (h : List Entry) (t : Turn) : Type 0 where
  pub cell : 168 ≤ t.site
  pub inside : t.site < length words
  pub slot : t.site < 168 + slots
  pub free : t.word % 2 ≡ 0
  pub taken : slice_index words t.site ≡ t.word + 1
  pub past : by_site t.site h ≡ t.past

module _ {T : Type 0} (opens : Image → ℕ → T → Type 0) (follows : T → FineAct → Exchange → T → Type 0) where
  -- the contents x become z by these steps
  abbrev pub Follow : T → List Made → T → Type 0
  Follow x [] z = x ≡ z
  Follow x (m ∷ ms) z = (y : T) × follows x m.act m.moved y × Follow y ms z

  -- the contents of the cell i after these steps
  abbrev pub ContentsAre : Image → ℕ → List Made → Option T → Type 0
  ContentsAre image i ms y = (x : T) × (first : T) × (y ≡ Some x) × opens image i first × Follow first ms x

  -- If nobody has a cell's turn, its contents are in its slot; if a seat knows the cell as filled, they follow from the cell's steps.
  -- Otherwise exactly one seat has the turn; and if a seat knows the cell as filled, the contents that go with the turn follow from the
  -- steps before it.
  pub record CellsAre (image : Image) (words : List ℕ) (homes : List (found.Option (Option T))) (h : List Entry) (views : List View) : Type 0 where
    pub home : (k : ℕ) → k < length homes → 168 + k < length words → slice_index words (168 + k) % 2 ≡ 0
        → (y : Option T) × (get_elem? homes k ≡ some (some y)) × ((id : ℕ) (v : View) → get_elem? views id ≡ some v → v.live ≡ true → AmongCells v.filled (168 + k) → ContentsAre image (168 + k) (by_site (168 + k) h) y)
    pub held : (i : ℕ) → 168 ≤ i → i < length words → slice_index words i % 2 ≡ 1
        → (id : ℕ) × (v : View) × (t : Turn) × (get_elem? views id ≡ some v) × (v.live ≡ true) × (v.turn ≡ Some t) × (t.site ≡ i)
    pub turns : (id : ℕ) (v : View) → get_elem? views id ≡ some v → v.live ≡ true → (t : Turn) → v.turn ≡ Some t → IsTurn words (length homes) h t
    pub one : (i j : ℕ) (v w : View) → get_elem? views i ≡ some v → get_elem? views j ≡ some w → v.live ≡ true → w.live ≡ true
        → (t u : Turn) → v.turn ≡ Some t → w.turn ≡ Some u → t.site ≡ u.site → i ≡ j
    pub known : (i j : ℕ) (v w : View) → get_elem? views i ≡ some v → get_elem? views j ≡ some w → v.live ≡ true → w.live ≡ true
        → (t : Turn) → v.turn ≡ Some t → AmongCells w.filled t.site → (y : Option T) × ContentsAre image t.site t.past y
    pub filled : (id : ℕ) (v : View) → get_elem? views id ≡ some v → v.live ≡ true → (i : ℕ) → AmongCells v.filled i → (168 ≤ i) × (i < length words) × (i < 168 + length homes)

  -- the rule of a board: one history for the words, the seats and the contents of the cells
  abbrev pub Rule : (List ℕ → List Made → Made → Type 0) → Image → List ℕ → List ℕ → List (found.Option (Option T)) → List View → Type 0
  Rule goes image opening words homes views = (h : List Entry) × Kept goes image opening words h views × CellsAre image words homes h views

  -- A moment: the board's rule held, with the word w at the site i, and a seat in use had the view v.
  pub record Moment (goes : Image → List ℕ → List Made → Made → Type 0) (v : View) (i w : ℕ) : Type 0 where
    pub words : List ℕ
    pub homes : List (found.Option (Option T))
    pub views : List View
    pub history : List Entry
    pub kept : Kept (goes v.image) v.image v.opening words history views
    pub cells : CellsAre v.image words homes history views
    pub seat : ℕ
    pub there : get_elem? views seat ≡ some v
    pub live : v.live ≡ true
    pub inside : i < length words
    pub word : slice_index words i ≡ w

  -- the words and slots of a closed board, and what its first seat has: there is one history, whose steps stand in that seat's lists and
  -- nowhere else, and each cell that the seat knows as filled has its contents in its slot, as they follow from the cell's steps
  pub record IsClosedWithCells (goes : Image → List ℕ → List Made → Made → Type 0) (v : View) (words : List ℕ) (slots : List (Option T)) : Type 0 where
    pub history : List Entry
    pub stands : IsHistory (goes v.image) v.opening words history
    pub knows : Knows v.image v.opening words history v
    pub tidy : Tidy v
    pub only : (n : List ℕ) → (by_seat n history ≡ []) ⊎ Has v n
    pub contents : (i : ℕ) → AmongCells v.filled i → (y : Option T) × (get_elem? slots (i - 168) ≡ some y) × ContentsAre v.image i (by_site i history) y
