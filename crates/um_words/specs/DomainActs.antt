-- What is asked of the word of a domain: the step that it stands for, and when the word takes it.
use Rattle.std.specs.Prelude.{Bool, ◌&&◌, nat_lt}
use Rattle.um_base.specs.declared.act.Act.{Act}
use Rattle.um_words.specs.declared.dom_word.DomWord.{DomWord}
use Rattle.um_words.specs.declared.domain_act.DomainAct.{DomainAct}
use Rattle.um_words.specs.declared.fine.FineAct.{FineAct}
use Rattle.um_words.specs.declared.fine.More.{More}
use Rattle.um_words.specs.declared.fine.Unseen.{Unseen}
use Rattle.um_words.specs.Domains.{domain_takes}
use Rattle.um_words.specs.ShownActs.{shown}

abbrev pub domain_act : DomainAct → FineAct
domain_act DomainAct.ReadClaim = FineAct.Unseen Unseen.ReadClaim
domain_act DomainAct.ReadDone = FineAct.Unseen Unseen.ReadDone
domain_act DomainAct.WriteClaim = FineAct.Unseen Unseen.WriteClaim
domain_act (DomainAct.DomInit t d reply) = shown t (Act.DomInit d reply) More.Nothing
domain_act (DomainAct.DomAdd t d range attr reply) = shown t (Act.DomAdd d range attr reply) More.Nothing
domain_act (DomainAct.DomRemove t d range attr reply) = shown t (Act.DomRemove d range attr reply) More.Nothing
domain_act (DomainAct.DomMove t d who reply) = shown t (Act.DomMove d who reply) More.Nothing

-- whether a domain with this word takes the step, and has room for its number
abbrev pub domain_takes_at : DomWord → DomainAct → Bool
domain_takes_at w act = nat_lt w.number 268435455 && domain_takes w (domain_act act)
