-- A step at the word of a thread index as a processor asks for it.
use Rattle.std.specs.Prelude.{ℕ}
use Rattle.um_base.specs.declared.image.Image.{Image}
use Rattle.um_words.specs.declared.thread_act.ThreadAct.{ThreadAct}
use Rattle.um_words.specs.declared.thread_word.ThreadWord.{ThreadWord}
use Rattle.um_words.specs.ThreadActs.{thread_act}
use Rattle.um_fine.specs.Sites.{SiteState, filled}
use Rattle.um_fine.specs.Steps.{Exchange, FineStep, Site}
use Rattle.um_tables.specs.Asked.{asked}

-- the step as it is made at a thread index with this word
abbrev pub thread_made : Image → ℕ → ℕ → ThreadWord → ThreadAct → FineStep
thread_made image cpu t w act = filled image (SiteState.thread w) (asked cpu (Site.thread t) (thread_act act) Exchange.nothing)
