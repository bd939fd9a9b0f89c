-- A step at the word of a row as a processor asks for it, and what the word says, by the step.
use Rattle.std.specs.Prelude.{ℕ}
use Rattle.um_base.specs.declared.image.Image.{Image}
use Rattle.um_words.specs.declared.row_act.RowAct.{RowAct}
use Rattle.um_words.specs.declared.row_act.RowSaid.{RowSaid}
use Rattle.um_words.specs.declared.row_word.RowWord.{RowWord}
use Rattle.um_words.specs.RowActs.{row_act}
use Rattle.um_fine.specs.Answers.{act_in, given_in, is_visit, leftover_in, set_in, verdict_in}
use Rattle.um_fine.specs.Asks.{begins_cleaning}
use Rattle.um_fine.specs.Sites.{SiteState, filled}
use Rattle.um_fine.specs.Steps.{Exchange, FineStep, Site}
use Rattle.um_tables.specs.Asked.{asked}

-- the step as it is made at a row with this word
abbrev pub row_made : Image → ℕ → ℕ → RowWord → RowAct → FineStep
row_made image cpu x w act = filled image (SiteState.row w) (asked cpu (Site.row x) (row_act w act) Exchange.nothing)

-- what the word says, by the step
abbrev pub row_said : FineStep → RowSaid
row_said e =
    record {
      verdict = verdict_in (act_in e.act);
      given = given_in (act_in e.act);
      left = leftover_in (act_in e.act);
      set = set_in (act_in e.act);
      visits = is_visit e.act;
      cleans = begins_cleaning e;
    }
