-- What seats know of the history of a board.
use Rattle.std.specs.Prelude.{◌≡◌, ℕ, ◌+◌, ◌<◌, ◌≤◌, ◌⊎◌, true, false, cond, List, [], ◌∷◌, ◌++◌, length, slice_index, Option, None}
use mathlib.Core.Option.{some}
use lib.ListN.{get_elem?}
use Rattle.um_words.specs.Sublists.{same_name}
use Rattle.um_words.specs.History.{Entry, bare, by_seat, IsHistory}
use Rattle.um_words.specs.Steps.{number}
use Rattle.um_words.specs.declared.made.Made.{Made}
use Rattle.um_base.specs.declared.image.Image.{Image}
use Rattle.um_machine.specs.State.{no_image}
use Rattle.um_site.specs.declared.turn.Turn.{Turn}
use Rattle.um_site.specs.declared.view.View.{View}

-- the names under which lists stand in a view
abbrev pub Among : List (List ℕ × List Made) → List ℕ → Type 0
Among [] n = ⊥
Among (e ∷ es) n = (e.0 ≡ n) ⊎ Among es n

abbrev pub Distinct : List (List ℕ × List Made) → Type 0
Distinct [] = Unit {0}
Distinct (e ∷ es) = (Among es e.0 → ⊥) × Distinct es

abbrev pub Has : View → List ℕ → Type 0
Has v n = (v.name ≡ n) ⊎ Among v.joined n

-- the name of a seat that the seat p splits off, at its k-th split or later, or of one split off from such a seat
abbrev pub Later : List ℕ → ℕ → List ℕ → Type 0
Later p k n = (j : ℕ) × (r : List ℕ) × (k ≤ j) × (n ≡ p ++ j ∷ r)

abbrev pub AmongNames : List (List ℕ) → List ℕ → Type 0
AmongNames [] n = ⊥
AmongNames (k ∷ ks) n = (k ≡ n) ⊎ AmongNames ks n

abbrev pub Owns : View → List ℕ → Type 0
Owns v n = Has v n ⊎ Later v.name v.splits n

abbrev pub Apart : View → View → Type 0
Apart v w = (n : List ℕ) → Owns v n → Owns w n → ⊥

-- each list of the view has the steps that the history has under its name
abbrev pub Told : List Entry → List (List ℕ × List Made) → Type 0
Told h [] = Unit {0}
Told h (e ∷ es) = (by_seat e.0 h ≡ e.1) × Told h es

-- a word that was read is no newer than the word that stands; if it is as new, it is that word, a cell's turn aside
pub record IsNoNewer (words : List ℕ) (i w : ℕ) : Type 0 where
  pub older : number i w ≤ number i (slice_index words i)
  pub same : number i w ≡ number i (slice_index words i) → bare i w ≡ bare i (slice_index words i)

-- so is each word that was read
abbrev pub Fresh : List ℕ → List (ℕ × ℕ) → Type 0
Fresh words [] = Unit {0}
Fresh words (e ∷ es) = IsNoNewer words e.0 e.1 × Fresh words es

-- what a view of a seat in use says of the history
pub record Knows (image : Image) (opening words : List ℕ) (h : List Entry) (v : View) : Type 0 where
  pub image_is : v.image ≡ image
  pub opening_is : v.opening ≡ opening
  pub mine : by_seat v.name h ≡ v.made
  pub theirs : Told h v.joined
  pub fresh : Fresh words v.got

-- no name stands twice in a view, and none is a name that its seat may still give
pub record Tidy (v : View) : Type 0 where
  pub own : Among v.joined v.name → ⊥
  pub distinct : Distinct v.joined
  pub later : (n : List ℕ) → Has v n → Later v.name v.splits n → ⊥
  pub below : (n : List ℕ) → AmongNames v.children n → length v.name < length n

abbrev pub AllKnow : Image → List ℕ → List ℕ → List Entry → List View → Type 0
AllKnow image opening words h views = (id : ℕ) (v : View) → get_elem? views id ≡ some v → v.live ≡ true → Knows image opening words h v

abbrev pub AllTidy : List View → Type 0
AllTidy views = (id : ℕ) (v : View) → get_elem? views id ≡ some v → v.live ≡ true → Tidy v

-- no two seats own one name
abbrev pub AllApart : List View → Type 0
AllApart views = (i j : ℕ) (v w : View) → get_elem? views i ≡ some v → get_elem? views j ≡ some w → v.live ≡ true → w.live ≡ true → ¬ (i ≡ j) → Apart v w

-- some seat has the list of this name
abbrev pub Somewhere : List View → List ℕ → Type 0
Somewhere views n = (id : ℕ) × (v : View) × (get_elem? views id ≡ some v) × (v.live ≡ true) × Has v n

-- each step stands in the list of a seat
abbrev pub AllTold : List Entry → List View → Type 0
AllTold h views = (n : List ℕ) → (by_seat n h ≡ []) ⊎ Somewhere views n

-- each seat but the first is still to be joined in by another
abbrev pub AllOwned : List View → Type 0
AllOwned views = (id : ℕ) (v : View) → get_elem? views id ≡ some v → v.live ≡ true → (v.name ≡ []) ⊎ ((j : ℕ) × (w : View) × (get_elem? views j ≡ some w) × (w.live ≡ true) × AmongNames w.children v.name)

-- one history for the words and the seats
pub record Kept (goes : List ℕ → List Made → Made → Type 0) (image : Image) (opening words : List ℕ) (h : List Entry) (views : List View) : Type 0 where
  pub stands : IsHistory goes opening words h
  pub know : AllKnow image opening words h views
  pub tidy : AllTidy views
  pub apart : AllApart views
  pub told : AllTold h views
  pub owned : AllOwned views

abbrev pub opening_view : Image → List ℕ → View
opening_view image opening = record { live = true; image = image; opening = opening; name = []; splits = 0; made = []; joined = []; got = []; children = []; turn = None; filled = [] }

-- the name of the next seat that is split off
abbrev pub child : View → List ℕ
child v = v.name ++ v.splits ∷ []

abbrev pub splitter : View → View
splitter v = record v { splits = v.splits + 1; children = child v ∷ v.children }

abbrev pub newborn : View → View
newborn v = record { live = true; image = v.image; opening = v.opening; name = child v; splits = 0; made = []; joined = []; got = []; children = []; turn = None; filled = v.filled }

-- the same seat with this turn, where these cells have their contents
abbrev pub with_cells : View → Option Turn → List ℕ → View
with_cells v turn filled = record v { turn = turn; filled = filled }

-- the names without the first that is n
abbrev pub without : List ℕ → List (List ℕ) → List (List ℕ)
without n [] = []
without n (k ∷ ks) = cond (same_name k n) ks (k ∷ without n ks)

abbrev pub joiner : View → View → View
joiner v w = record v { joined = v.joined ++ (w.name, w.made) ∷ w.joined; got = v.got ++ w.got; children = without w.name v.children ++ w.children; filled = v.filled ++ w.filled }

-- a seat that was joined in
abbrev pub spent : View
spent = record { live = false; image = no_image; opening = []; name = []; splits = 0; made = []; joined = []; got = []; children = []; turn = None; filled = [] }

abbrev pub shadow_of : View → View
shadow_of v = record v { live = false }

-- the words of a closed board, and what its first seat has: there is one history, whose steps stand in that seat's lists and nowhere else
abbrev pub IsClosed : (Image → List ℕ → List Made → Made → Type 0) → View → List ℕ → Type 0
IsClosed goes v words = (h : List Entry) × IsHistory (goes v.image) v.opening words h × Knows v.image v.opening words h v × Tidy v × ((n : List ℕ) → (by_seat n h ≡ []) ⊎ Has v n)
