-- A step at the word of a domain as a processor asks for it.
use Rattle.std.specs.Prelude.{ℕ}
use Rattle.um_base.specs.declared.image.Image.{Image}
use Rattle.um_words.specs.declared.dom_word.DomWord.{DomWord}
use Rattle.um_words.specs.declared.domain_act.DomainAct.{DomainAct}
use Rattle.um_words.specs.DomainActs.{domain_act}
use Rattle.um_fine.specs.Sites.{SiteState, filled}
use Rattle.um_fine.specs.Steps.{Exchange, FineStep, Site}
use Rattle.um_tables.specs.Asked.{asked}

-- the step as it is made at a domain with this word
abbrev pub domain_made : Image → ℕ → ℕ → DomWord → DomainAct → FineStep
domain_made image cpu d w act = filled image (SiteState.domain w) (asked cpu (Site.domain d) (domain_act act) Exchange.nothing)
