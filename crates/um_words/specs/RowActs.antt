-- What is asked of the word of a row: the step that it stands for, when the word takes it, and what the word says.
use Rattle.std.specs.Prelude.{Bool, true, false, ◌&&◌, not, nat_lt, if◌then◌else◌, Option, Some, None}
use Rattle.um_base.specs.declared.act.Act.{Act}
use Rattle.um_base.specs.declared.act.Event.{Event}
use Rattle.um_base.specs.declared.act.Given.{Given}
use Rattle.um_base.specs.declared.act.Leftover.{Leftover}
use Rattle.um_base.specs.declared.act.SetSaid.{SetSaid}
use Rattle.um_words.specs.declared.fine.FineAct.{FineAct}
use Rattle.um_words.specs.declared.fine.More.{More}
use Rattle.um_words.specs.declared.fine.Unseen.{Unseen}
use Rattle.um_words.specs.declared.row_act.RowAct.{RowAct}
use Rattle.um_words.specs.declared.row_act.RowSaid.{RowSaid}
use Rattle.um_words.specs.declared.row_word.RowWord.{RowWord}
use Rattle.um_words.specs.Rows.{call_ended, dropped, given_of, has, is_cleaning, left_of, row_says, row_takes, set_of, verdict_of}
use Rattle.um_words.specs.ShownActs.{by_thread, shown}

-- the act without the answers of the word: a visit makes an event where the word has a permission to pass on or to drop
abbrev pub row_act : RowWord → RowAct → FineAct
row_act w (RowAct.Check t a kind want mode fits) = shown t (Act.Check a kind want None) (More.By mode fits)
row_act w (RowAct.Grant t who a) = shown t (Act.Grant who a Given.Done) More.Nothing
row_act w (RowAct.Own t who) = shown t (Act.Own who Given.Done) More.Nothing
row_act w (RowAct.Pass t who a) =
    if has w t.0 && not (has w who.0) then shown t (Act.Inherit who a) More.Nothing else FineAct.Unseen Unseen.Visit
row_act w (RowAct.DropPair t who a) = shown t (Act.DropPair who a Leftover.NoPair) More.Nothing
row_act w (RowAct.Sweep t who a) =
    if has w who.0 then shown t (Act.DropPair who a Leftover.NoPair) More.Nothing else FineAct.Unseen Unseen.Visit
row_act w (RowAct.Publish t a) = shown t (Act.Publish a Given.Done) More.Nothing
row_act w (RowAct.SetInit t a strict) = shown t (Act.SetInit a SetSaid.Done) (More.Strict strict)
row_act w (RowAct.ClearInit t a) = shown t (Act.ClearInit a) More.Nothing
row_act w (RowAct.Born t a) = shown t (Act.Born a) More.Nothing
row_act w RowAct.EndCall = FineAct.Unseen Unseen.EndCall
row_act w RowAct.Vacate = FineAct.Unseen Unseen.Vacate

-- the act that is made of it at a row with this word, with the word's answers
abbrev pub row_act_at : RowWord → RowAct → FineAct
row_act_at w act = row_says w (row_act w act)

-- whether a row with this word takes the step, and has room for its number
abbrev pub row_takes_at : RowWord → RowAct → Bool
row_takes_at w act = nat_lt w.number 1048575 && row_takes w (row_act_at w act)

-- What the word says.

abbrev pub quiet : RowSaid
quiet = record { verdict = None; given = Given.Done; left = Leftover.NoPair; set = SetSaid.Done; visits = false; cleans = false }

-- of a drop, by the word that is left
abbrev pub cleans_by : Leftover → RowWord → Bool
cleans_by Leftover.Gone w = is_cleaning w.stage
cleans_by left w = false

abbrev pub drop_said : Leftover → RowWord → RowSaid
drop_said left w = record quiet { left = left; cleans = cleans_by left w }

abbrev pub row_answers : RowWord → RowAct → RowSaid
row_answers w (RowAct.Check t a kind want mode fits) = record quiet { verdict = verdict_of w t.0 mode fits want }
row_answers w (RowAct.Grant t who a) = record quiet { given = given_of w }
row_answers w (RowAct.Own t who) = record quiet { given = given_of w }
row_answers w (RowAct.Pass t who a) = record quiet { visits = not (has w t.0 && not (has w who.0)) }
row_answers w (RowAct.DropPair t who a) = drop_said (left_of w who.0) (dropped w who.0)
row_answers w (RowAct.Sweep t who a) =
    if has w who.0 then drop_said (left_of w who.0) (dropped w who.0) else record quiet { visits = true }
row_answers w (RowAct.Publish t a) = record quiet { given = given_of w }
row_answers w (RowAct.SetInit t a strict) = record quiet { set = set_of w strict }
row_answers w (RowAct.ClearInit t a) = quiet
row_answers w (RowAct.Born t a) = quiet
row_answers w RowAct.EndCall = record quiet { cleans = is_cleaning (call_ended w).stage }
row_answers w RowAct.Vacate = quiet

-- the event of the step, by what the word says, if a trace shows it
abbrev pub row_event : RowAct → RowSaid → Option Event
row_event (RowAct.Check t a kind want mode fits) said = Some (by_thread t (Act.Check a kind want said.verdict))
row_event (RowAct.Grant t who a) said = Some (by_thread t (Act.Grant who a said.given))
row_event (RowAct.Own t who) said = Some (by_thread t (Act.Own who said.given))
row_event (RowAct.Pass t who a) said = if said.visits then None else Some (by_thread t (Act.Inherit who a))
row_event (RowAct.DropPair t who a) said = Some (by_thread t (Act.DropPair who a said.left))
row_event (RowAct.Sweep t who a) said = if said.visits then None else Some (by_thread t (Act.DropPair who a said.left))
row_event (RowAct.Publish t a) said = Some (by_thread t (Act.Publish a said.given))
row_event (RowAct.SetInit t a strict) said = Some (by_thread t (Act.SetInit a said.set))
row_event (RowAct.ClearInit t a) said = Some (by_thread t (Act.ClearInit a))
row_event (RowAct.Born t a) said = Some (by_thread t (Act.Born a))
row_event RowAct.EndCall said = None
row_event RowAct.Vacate said = None
