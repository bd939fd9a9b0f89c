-- The lives of a row's object, as the row's steps tell them: it is born, it is gone with its last permission, it is cleaned once no claim is out, and it leaves the row.
use Rattle.std.specs.Prelude.{◌≡◌, ℕ, ◌+◌, ◌<◌, ◌≤◌, Bool, true, false, ◌==◌, ◌&&◌, not, if◌then◌else◌, List, [], ◌∷◌, ◌++◌, length, slice_index}
use Rattle.std.specs.List.{list_all}
use Rattle.um_base.specs.declared.act.Act.{Act}
use Rattle.um_base.specs.declared.act.Leftover.{Leftover}
use Rattle.um_base.specs.declared.image.Image.{Image}
use Rattle.um_words.specs.declared.fine.FineAct.{FineAct}
use Rattle.um_words.specs.declared.fine.Unseen.{Unseen}
use Rattle.um_words.specs.declared.made.Made.{Made}
use Rattle.um_words.specs.declared.row_word.RowWord.{RowWord}
use Rattle.um_words.specs.declared.row_word.Stage.{Stage}
use Rattle.um_words.specs.Bits.{bit}
use Rattle.um_words.specs.Packed.{row_of}
use Rattle.um_words.specs.Rows.{is_live, is_cleaning}
use Rattle.um_site.specs.declared.view.View.{View}
use Rattle.um_words.specs.History.{Entry, by_site, IsHistory}

-- Nobody has a permission on an object that doesn't stand. A dying one has claims, and one that is cleaned has none.

abbrev pub IsBare : RowWord → Type 0
IsBare r = list_all not r.permissions ≡ true

abbrev pub IsSoundAt : Stage → RowWord → Type 0
IsSoundAt Stage.Live r = Unit {0}
IsSoundAt Stage.Free r = IsBare r × (r.claims ≡ 0)
IsSoundAt Stage.Dying r = IsBare r × (0 < r.claims)
IsSoundAt Stage.Cleaning r = IsBare r × (r.claims ≡ 0)

abbrev pub IsSound : RowWord → Type 0
IsSound r = IsSoundAt r.stage r

abbrev pub stage : ℕ → Stage
stage w = (row_of w).stage

-- Which steps begin a cleaning, end one, and begin a life.

abbrev pub begins_cleaning : Stage → Stage → Bool
begins_cleaning before after = not (is_cleaning before) && is_cleaning after

abbrev pub is_vacate : FineAct → Bool
is_vacate (FineAct.Unseen Unseen.Vacate) = true
is_vacate act = false

abbrev pub is_birth_act : Act → Bool
is_birth_act (Act.Born addr) = true
is_birth_act act = false

abbrev pub is_birth : FineAct → Bool
is_birth (FineAct.Shown event more) = is_birth_act event.act
is_birth (FineAct.Unseen unseen) = false

-- how many of a row's steps do that, where the first one starts from the word w
abbrev pub cleanings : ℕ → List Made → ℕ
cleanings w [] = 0
cleanings w (m ∷ ms) = bit (begins_cleaning (stage w) (stage m.word)) + cleanings m.word ms

abbrev pub vacates : List Made → ℕ
vacates [] = 0
vacates (m ∷ ms) = bit (is_vacate m.act) + vacates ms

abbrev pub births : List Made → ℕ
births [] = 0
births (m ∷ ms) = bit (is_birth m.act) + births ms

abbrev pub word_after : ℕ → List Made → ℕ
word_after w [] = w
word_after w (m ∷ ms) = word_after m.word ms

abbrev pub AreSound : List Made → Type 0
AreSound [] = Unit {0}
AreSound (m ∷ ms) = IsSound (row_of m.word) × AreSound ms

-- In each life at most one step begins the cleaning; in a life that ended with a vacated row exactly one does. A life is a stretch of the
-- row's steps in which nothing is born.
pub record IsCleanedOnce (w : ℕ) (ms : List Made) : Type 0 where
  pub sound : AreSound ms
  pub once : (xs ys zs : List Made) → ms ≡ xs ++ (ys ++ zs) → births ys ≡ 0 → cleanings (word_after w xs) ys ≤ 1
  pub exactly : (xs ys zs : List Made) → ms ≡ xs ++ (ys ++ zs) → births ys ≡ 0 → is_live (stage (word_after w xs)) ≡ true → 0 < vacates ys → cleanings (word_after w xs) ys ≡ 1

-- each history of the board in which the row opens sound has its object cleaned once in each life
abbrev pub CleansOnce : (Image → List ℕ → List Made → Made → Type 0) → View → ℕ → Type 0
CleansOnce goes v row =
    (words : List ℕ) (h : List Entry) → IsHistory (goes v.image) v.opening words h → row < length words → IsSound (row_of (slice_index v.opening row)) → IsCleanedOnce (slice_index v.opening row) (by_site row h)

-- What a seat's own list says of a row that it has to clean.

-- a last permission or a last claim may be taken by it
abbrev pub takes_last_act : Act → Bool
takes_last_act (Act.DropPair who addr Leftover.Gone) = true
takes_last_act act = false

abbrev pub takes_last : FineAct → Bool
takes_last (FineAct.Shown event more) = takes_last_act event.act
takes_last (FineAct.Unseen Unseen.EndCall) = true
takes_last act = false

abbrev pub begins_at : ℕ → Made → Bool
begins_at row m = (m.site == row) && takes_last m.act && is_cleaning (stage m.word)

abbrev pub ends_at : ℕ → Made → Bool
ends_at row m = (m.site == row) && is_vacate m.act

-- whether the seat has to clean the row after these steps, given whether it had to before them
abbrev pub cleans_after : ℕ → Bool → List Made → Bool
cleans_after row before [] = before
cleans_after row before (m ∷ ms) = cleans_after row (if begins_at row m then true else before && not (ends_at row m)) ms

-- its list has the step that moved the row to cleaning, and no vacate of the row after it
abbrev pub Cleans : ℕ → View → Type 0
Cleans row v = cleans_after row false v.made ≡ true
