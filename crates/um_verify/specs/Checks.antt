-- Checks of objects, and the ends of calls, as steps of a row's word.
use Rattle.std.specs.Prelude.{◌≡◌, ℕ, Bool, ◌==◌, ◌&&◌, if◌then◌else◌, Option, Some, None}
use Rattle.um_base.specs.declared.names.Addr.{Addr}
use Rattle.um_base.specs.declared.names.Errno.{Errno}
use Rattle.um_base.specs.declared.names.Kind.{Kind}
use Rattle.um_base.specs.declared.names.Mode.{Mode}
use Rattle.um_base.specs.declared.names.ThreadIx.{ThreadIx}
use Rattle.um_base.specs.declared.names.Want.{Want}
use Rattle.um_base.specs.declared.act.Act.{Act}
use Rattle.um_words.specs.declared.fine.FineAct.{FineAct}
use Rattle.um_words.specs.declared.fine.More.{More}
use Rattle.um_words.specs.declared.fine.Unseen.{Unseen}
use Rattle.um_words.specs.declared.row_word.Stage.{Stage}
use Rattle.um_words.specs.Packed.{row_of}
use Rattle.um_words.specs.Rows.{verdict_of, is_dying}
use Rattle.um_site.specs.declared.view.View.{View}
use Rattle.um_site.specs.Tells.{made, with_made}
use Rattle.um_site.specs.Lives.{stage, begins_cleaning}
use Rattle.um_verify.specs.declared.verify.Checked.{Checked}

-- the check with the verdict of the word
abbrev pub check_act : ThreadIx → Mode → Option Kind → Bool → Want → Addr → ℕ → FineAct
check_act who mode kind fits want addr seen =
    FineAct.Shown (record { thread = who; act = Act.Check addr kind want (verdict_of (row_of seen) who.0 mode fits want) }) (More.By mode fits)

abbrev pub checked_of : Option Errno → Checked
checked_of None = Checked.Held
checked_of (Some e) = Checked.Refused e

abbrev pub end_act : FineAct
end_act = FineAct.Unseen Unseen.EndCall

-- whether the end of a claim leaves the object to be cleaned
abbrev pub cleans : ℕ → Bool
cleans seen = is_dying (row_of seen).stage && ((row_of seen).claims == 1)

-- the end says so exactly where it begins the cleaning
abbrev pub TellsCleaning : ℕ → ℕ → View → Bool → View → Type 0
TellsCleaning row seen v clean w =
    (next : ℕ) × (w ≡ with_made v (made row end_act next)) × (stage next ≡ (if clean then Stage.Cleaning else stage seen)) × (begins_cleaning (stage seen) (stage next) ≡ clean)
