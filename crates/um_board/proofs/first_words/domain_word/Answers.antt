use Rattle.std.proofs.Common.{refl, subst}
use Rattle.um_board.specs.Opening.{IsFirstWord}
use Rattle.um_board.proofs.FirstWords.{domain-fits, domain-here, domain-packed}
use Rattle.um_board.proofs.first_words.domain_word.Goals as goal

pub pack-requires : goal.pack-requires
pack-requires c = let a = c.args in let r = c.requires in
    domain-fits a.image.now a.domain _ (domain-here a.image.now a.domains.now a.domain _ _ r.domains r.all r.site.0 refl)

pub returns : goal.returns
returns c = let a = c.args in let r = c.requires in
    subst (λ n. IsFirstWord a.image.now n c.pack.result) r.site.1
    (domain-packed a.image.now a.domain c.pack.result _ c.pack.ensures.back c.pack.ensures.value r.site.0 (domain-here a.image.now a.domains.now a.domain _ _ r.domains r.all r.site.0 refl))
