-- The calls on permissions and on the state of an object: the step of each on a row's word, its answer, and what it asks of the word.
use Rattle.std.specs.Prelude.{◌≡◌, ℕ, Bool, true, false, ◌==◌, ◌&&◌, ◌||◌, not, nat_lt, if◌then◌else◌}
use Rattle.um_base.specs.declared.names.Addr.{Addr}
use Rattle.um_base.specs.declared.names.Errno.{Errno}
use Rattle.um_base.specs.declared.names.ThreadIx.{ThreadIx}
use Rattle.um_base.specs.declared.act.Act.{Act}
use Rattle.um_base.specs.declared.act.Leftover.{Leftover}
use Rattle.um_base.specs.declared.act.SetSaid.{SetSaid}
use Rattle.um_words.specs.declared.fine.FineAct.{FineAct}
use Rattle.um_words.specs.declared.fine.More.{More}
use Rattle.um_words.specs.declared.fine.Unseen.{Unseen}
use Rattle.um_words.specs.declared.row_act.RowAct.{RowAct}
use Rattle.um_words.specs.declared.row_act.RowSaid.{RowSaid}
use Rattle.um_words.specs.declared.row_word.Stage.{Stage}
use Rattle.um_words.specs.declared.row_word.RowWord.{RowWord}
use Rattle.um_words.specs.Rows.{is_free, is_cleaning, has, given_of, left_of, set_of}
use Rattle.um_site.specs.declared.view.View.{View}
use Rattle.um_site.specs.Calls.{shown}
use Rattle.um_site.specs.Tells.{made, with_made}
use Rattle.um_site.specs.Lives.{stage, begins_cleaning}
use Rattle.um_perm.specs.declared.answer.Answer.{Answer}
use Rattle.um_perm.specs.declared.answer.Passed.{Passed}
use Rattle.um_perm.specs.declared.answer.Set.{Set}
use Rattle.um_perm.specs.declared.answer.Dropped.{Dropped}
use Rattle.um_perm.specs.declared.calls.RowCall.{RowCall}

abbrev pub visit : FineAct
visit = FineAct.Unseen Unseen.Visit

-- The steps. A visit gives and takes nothing, and no trace shows it.

-- whether the parent has a permission that the child hasn't
abbrev pub passes : RowWord → ℕ → ℕ → Bool
passes w parent child = has w parent && not (has w child)

abbrev pub drop_act : ThreadIx → ThreadIx → Bool → Addr → RowWord → FineAct
drop_act by who is_shown addr w = if has w who.0 || is_shown then shown by (Act.DropPair who addr (left_of w who.0)) else visit

abbrev pub row_act : ThreadIx → RowCall → RowWord → FineAct
row_act by (RowCall.Grant who addr) w = shown by (Act.Grant who addr (given_of w))
row_act by (RowCall.Own who) w = shown by (Act.Own who (given_of w))
row_act by (RowCall.Inherit child addr) w = if passes w by.0 child.0 then shown by (Act.Inherit child addr) else visit
row_act by (RowCall.Publish addr) w = shown by (Act.Publish addr (given_of w))
row_act by (RowCall.Drop who is_shown addr) w = drop_act by who is_shown addr w
row_act by (RowCall.SetInit strict addr) w = FineAct.Shown (record { thread = by; act = Act.SetInit addr (set_of w strict) }) (More.Strict strict)
row_act by (RowCall.ClearInit addr) w = shown by (Act.ClearInit addr)
row_act by (RowCall.Born addr) w = shown by (Act.Born addr)
row_act by RowCall.Vacate w = FineAct.Unseen Unseen.Vacate

-- what each asks of the word
abbrev pub fits_row : RowCall → RowWord → Bool
fits_row (RowCall.Own who) w = nat_lt w.claims 127 && not (is_free w.stage) && not (is_cleaning w.stage)
fits_row (RowCall.Inherit child addr) w = true
fits_row (RowCall.Drop who is_shown addr) w = true
fits_row (RowCall.Born addr) w = is_free w.stage
fits_row RowCall.Vacate w = is_cleaning w.stage && (w.claims == 0)
fits_row call w = not (is_free w.stage)

-- what each asks of the body that steps the word
abbrev pub asked_of : ThreadIx → RowCall → RowAct
asked_of by (RowCall.Grant who addr) = RowAct.Grant by who addr
asked_of by (RowCall.Own who) = RowAct.Own by who
asked_of by (RowCall.Inherit child addr) = RowAct.Pass by child addr
asked_of by (RowCall.Publish addr) = RowAct.Publish by addr
asked_of by (RowCall.Drop who true addr) = RowAct.DropPair by who addr
asked_of by (RowCall.Drop who false addr) = RowAct.Sweep by who addr
asked_of by (RowCall.SetInit strict addr) = RowAct.SetInit by addr strict
asked_of by (RowCall.ClearInit addr) = RowAct.ClearInit by addr
asked_of by (RowCall.Born addr) = RowAct.Born by addr
asked_of by RowCall.Vacate = RowAct.Vacate

-- The answers.

abbrev pub passed_of : Bool → Passed
passed_of passes = if passes then Passed.Pair else Passed.Nothing

abbrev pub marked_of : SetSaid → Set
marked_of SetSaid.Done = Set.Done
marked_of (SetSaid.Fail Errno.EADDRINUSE) = Set.Already
marked_of _ = Set.Gone

-- an object that lost its last permission is to be cleaned at once where no claim is out
abbrev pub dropped_by : Leftover → Bool → Dropped
dropped_by Leftover.NoPair clean = Dropped.NoPair
dropped_by Leftover.Kept clean = Dropped.Kept
dropped_by Leftover.Gone clean = Dropped.Gone clean

abbrev pub dropped_of : Leftover → ℕ → Dropped
dropped_of left claims = dropped_by left (claims == 0)

abbrev pub answer_of : ThreadIx → RowCall → RowWord → Answer
answer_of by (RowCall.Grant who addr) w = Answer.Given (given_of w)
answer_of by (RowCall.Own who) w = Answer.Given (given_of w)
answer_of by (RowCall.Inherit child addr) w = Answer.Passed (passed_of (passes w by.0 child.0))
answer_of by (RowCall.Publish addr) w = Answer.Given (given_of w)
answer_of by (RowCall.Drop who is_shown addr) w = Answer.Dropped (dropped_of (left_of w who.0) w.claims)
answer_of by (RowCall.SetInit strict addr) w = Answer.Set (marked_of (set_of w strict))
answer_of by call w = Answer.Done

-- the answer by what the word says
abbrev pub answer_by : RowCall → RowSaid → Answer
answer_by (RowCall.Grant who addr) said = Answer.Given said.given
answer_by (RowCall.Own who) said = Answer.Given said.given
answer_by (RowCall.Inherit child addr) said = Answer.Passed (if said.visits then Passed.Nothing else Passed.Pair)
answer_by (RowCall.Publish addr) said = Answer.Given said.given
answer_by (RowCall.Drop who is_shown addr) said = Answer.Dropped (dropped_by said.left said.cleans)
answer_by (RowCall.SetInit strict addr) said = Answer.Set (marked_of said.set)
answer_by call said = Answer.Done

-- What a drop says of the cleaning.

abbrev pub IfDropped : Answer → (Dropped → Type 0) → Type 0
IfDropped (Answer.Dropped dropped) says = says dropped
IfDropped answer says = Unit {0}

-- this seat has to clean the object
abbrev pub is_to_clean : Dropped → Bool
is_to_clean (Dropped.Gone clean) = clean
is_to_clean dropped = false

-- what the drop does to the object's stage
abbrev pub Leaves : Dropped → Stage → Stage → Type 0
Leaves (Dropped.Gone clean) before after = (before ≡ Stage.Live) × (after ≡ (if clean then Stage.Cleaning else Stage.Dying))
Leaves dropped before after = after ≡ before

-- the drop says so exactly where it begins the cleaning
abbrev pub TellsCleaning : ℕ → ℕ → FineAct → View → Dropped → View → Type 0
TellsCleaning row seen act v dropped w =
    (next : ℕ) × (w ≡ with_made v (made row act next)) × Leaves dropped (stage seen) (stage next) × (begins_cleaning (stage seen) (stage next) ≡ is_to_clean dropped)
