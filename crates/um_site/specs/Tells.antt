-- What a step on a board tells its caller.
use Rattle.std.specs.Prelude.{◌≡◌, ◌≢◌, ℕ, ◌+◌, ◌-◌, ◌%◌, ◌≤◌, ◌<◌, List, [], ◌∷◌, ◌++◌, length, slice_index, slice_set, Option, Some, None, if◌then◌else◌, ◌==◌}
use Rattle.atomic_table.specs.Table.{Me, Step, rest}
use Rattle.um_words.specs.Steps.{WordMay, number}
use Rattle.um_words.specs.declared.fine.FineAct.{FineAct}
use Rattle.um_words.specs.declared.made.Made.{Made}
use Rattle.um_words.specs.Exchanges.{Exchange}
use Rattle.um_base.specs.declared.image.Image.{Image}
use Rattle.um_site.specs.declared.turn.Turn.{Turn}
use Rattle.um_site.specs.declared.view.View.{View}
use Rattle.um_words.specs.History.{Entry, by_site, IsHistory}
use Rattle.um_site.specs.History.{Knows, with_cells}
use Rattle.um_site.specs.Cells.{ContentsAre, Moment}

abbrev pub made : ℕ → FineAct → ℕ → Made
made i act next = record { site = i; act = act; word = next; moved = Exchange.nothing }

abbrev pub with_got : View → ℕ → ℕ → View
with_got v i w = record v { got = (i, w) ∷ v.got }

abbrev pub with_made : View → Made → View
with_made v m = record v { made = v.made ++ m ∷ []; got = (m.site, m.word) ∷ v.got }

-- the word is no older than any that was got or left at the site
abbrev pub NoOlder : List (ℕ × ℕ) → ℕ → ℕ → Type 0
NoOlder [] i w = Unit {0}
NoOlder (e ∷ es) i w = (e.0 ≡ i → number i e.1 ≤ number i w) × NoOlder es i w

module _ (goes : Image → List ℕ → List Made → Made → Type 0) where
  -- one history stands, in which the seat has its steps; the site's word in it is w
  abbrev pub Stands : View → ℕ → ℕ → Type 0
  Stands v i w = (words : List ℕ) × (h : List Entry) × IsHistory (goes v.image) v.opening words h × Knows v.image v.opening words h v × (i < length words) × (slice_index words i ≡ w)

  -- one history stood, and goes on with the step
  abbrev pub GoesOn : View → Made → ℕ → Type 0
  GoesOn v m seen = (words : List ℕ) × (h : List Entry) × IsHistory (goes v.image) v.opening words h × Knows v.image v.opening words h v × (m.site < length words) × (slice_index words m.site ≡ seen)
      × IsHistory (goes v.image) v.opening (slice_set words m.site m.word) (h ++ (v.name, m) ∷ [])
      × Knows v.image v.opening (slice_set words m.site m.word) (h ++ (v.name, m) ∷ []) (with_made v m)

  abbrev pub Looked : View → ℕ → ℕ → View → Type 0
  Looked v i r w = NoOlder v.got i r × Stands v i r × (w ≡ with_got v i r)

  -- the step was recorded, with the number n
  abbrev pub Steps : View → ℕ → FineAct → ℕ → ℕ → View → Type 0
  Steps v i act seen n w = (next : ℕ) × WordMay i seen act next × (n ≡ number i next) × GoesOn v (made i act next) seen × (w ≡ with_made v (made i act next))

  module _ {S : Type 0} where
    abbrev pub stepped_by : Made → Step S → Me S View → ℕ → Me S View → Type 0
    stepped_by m st me r me' = (me'.1 ≡ me.1) × (r ≡ st.first → GoesOn me.0 m st.first × (me'.0 ≡ with_made me.0 m)) × (r ≢ st.first → Looked me.0 st.word r me'.0)

-- the seat has the turn of the cell i, whose word was w, after these steps of it
abbrev pub taking : View → ℕ → ℕ → List Made → View
taking v i w past = with_cells (with_got v i w) (Some (record { site = i; word = w; past = past })) v.filled

-- the step is recorded, and the turn given back
abbrev pub recording : View → Made → View
recording v m = with_cells (with_made v m) None v.filled

-- the turn is given back with the word w, and these cells have their contents
abbrev pub returning : View → ℕ → ℕ → List ℕ → View
returning v i w filled = with_cells (with_got v i w) None filled

module _ {T : Type 0} (opens : Image → ℕ → T → Type 0) (follows : T → FineAct → Exchange → T → Type 0) (goes : Image → List ℕ → List Made → Made → Type 0) where
  -- the site was looked at, at some moment
  abbrev pub looked : {S : Type 0} → Step S → Me S View → ℕ → Me S View → Type 0
  looked st me r me' = (me'.1 ≡ me.1) × Looked goes me.0 st.word r me'.0 × Moment opens follows goes me.0 st.word r

  -- at some moment the turn was free, with the word r; the slot had the contents that the cell's steps leave; and the word counts these
  -- steps
  pub record Took (v : View) (i r : ℕ) (y : Option T) (w : View) : Type 0 where
    pub newer : NoOlder v.got i r
    pub moment : Moment opens follows goes v i r
    pub counted : number i r ≡ length (by_site i moment.history)
    pub contents : ContentsAre opens follows v.image i (by_site i moment.history) y
    pub now : w ≡ taking v i r (by_site i moment.history)

  abbrev pub took : Step (Option T) → Me (Option T) View → ℕ → Me (Option T) View → Type 0
  took st me r me' =
      (r % 2 ≡ 0 → (y : Option T) × (me'.1 ≡ (st.word - 168, y) ∷ me.1) × Took me.0 st.word r y me'.0)
      × (r % 2 ≢ 0 → (me'.1 ≡ me.1) × Looked goes me.0 st.word r me'.0)

  -- the step was made on the word of the take, which had the turn's bit
  abbrev pub recorded_by : Made → Step (Option T) → Me (Option T) View → ℕ → Me (Option T) View → Type 0
  recorded_by m st me r me' = (me'.1 ≡ rest me.1) × (me'.0 ≡ recording me.0 m) × ((t : Turn) → me.0.turn ≡ Some t → GoesOn goes me.0 m (t.word + 1))

module _ {T : Type 0} where
  -- the turn of a cell that has taken no step was free
  abbrev pub reached : Step (Option T) → Me (Option T) View → ℕ → Me (Option T) View → Type 0
  reached st me r me' = (r % 2 ≡ 0) × ((y : Option T) × (me'.1 ≡ (st.word - 168, y) ∷ me.1)) × (me'.0 ≡ taking me.0 st.word r [])

  -- the turn was given back, and no step was recorded
  abbrev pub returned : List ℕ → Step (Option T) → Me (Option T) View → ℕ → Me (Option T) View → Type 0
  returned filled st me r me' = (me'.1 ≡ rest me.1) × (me'.0 ≡ returning me.0 st.word r filled)

-- The seat has the turn of this cell since it was taken at this word, when its contents were x. Its slot has y now.
pub record HasTurn {T : Type 0} (opens : Image → ℕ → T → Type 0) (follows : T → FineAct → Exchange → T → Type 0) (me : Me (Option T) View) (cell word : ℕ) (y : Option T) (x : T) : Type 0 where
  pub turn : Turn
  pub has : me.0.turn ≡ Some turn
  pub site : turn.site ≡ cell
  pub at : turn.word ≡ word
  pub slot : me.1 ≡ (cell - 168, y) ∷ rest me.1
  pub contents : ContentsAre opens follows me.0.image cell turn.past (Some x)

-- the word that was got or left last at the site
abbrev pub last_got : List (ℕ × ℕ) → ℕ → Option ℕ
last_got [] i = None
last_got (e ∷ es) i = if e.0 == i then Some e.1 else last_got es i
