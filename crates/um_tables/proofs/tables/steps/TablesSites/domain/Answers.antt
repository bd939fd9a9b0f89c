use Rattle.std.proofs.Common.{arith, ◌≡◌, ◌∙◌, ap, refl, slice_index_or}
use Rattle.std.proofs.lemmas.List.{get_or_read}
use Rattle.um_fine.proofs.Filled.{filled-twice}
use Rattle.um_fine.specs.Answers.{domain_in, no_domain}
use Rattle.um_fine.specs.Sites.{SiteState, word_of}
use Rattle.um_fine.specs.Steps.{Exchange, Site}
use Rattle.um_tables.specs.Asked.{asked}
use Rattle.um_words.specs.DomainActs.{domain_act}
use Rattle.um_tables.specs.DomainActs.{domain_made}
use Rattle.um_tables.specs.Sited.{logged}
use Rattle.um_tables.proofs.Tabled.{refused, taken}
use Rattle.um_tables.proofs.WordActs.{domain-refuses, domain-takes}
use Rattle.um_tables.proofs.tables.steps.TablesSites.domain.Goals as goal

pub returns-clause-said : goal.returns-clause-said
returns-clause-said c =
    let w = c.index.result.now in
    let here : w ≡ slice_index_or c.self.inside.domains.items c.args.domain no_domain = get_or_read c.self.inside.domains.items _ _ (omega arith) c.index.ensures no_domain in
    let e = domain_made c.args.here.now.image.now c.args.here.now.cpu c.args.domain w c.args.act.now in
    let t = domain-takes c.args.here.now.image.now c.args.here.now.cpu c.args.domain w c.args.act.now _ c.in-Some.ensures in
    let log = c.self.inside.log.items in (
      w,
      taken c.args.here.now.image.now _ _ c.self.view_is e (SiteState.domain w) (SiteState.domain c.in-Some.next) (ap SiteState.domain here) t
          _
          _
          (c.note.ensures.events ∙ ap (logged log) c.event.ensures)
          c.note.ensures.room,
      ap (λ (s : SiteState). domain_in (word_of s)) t.leaves,
    )

pub returns-in-None-clause-said : goal.returns-in-None-clause-said
returns-in-None-clause-said c =
    let w = c.index.result.now in
    let here : w ≡ slice_index_or c.self.inside.domains.items c.args.domain no_domain = get_or_read c.self.inside.domains.items _ _ (omega arith) c.index.ensures no_domain in
    let e = domain_made c.args.here.now.image.now c.args.here.now.cpu c.args.domain w c.args.act.now in
    let r = domain-refuses c.args.here.now.image.now c.args.here.now.cpu c.args.domain w c.args.act.now c.in-None.ensures in
    let fill = filled-twice c.args.here.now.image.now (SiteState.domain w) (asked c.args.here.now.cpu (Site.domain c.args.domain) (domain_act c.args.act.now) Exchange.nothing) in
    (w, refl, refused c.args.here.now.image.now _ _ c.self.view_is e (SiteState.domain w) (ap SiteState.domain here) r fill tt)
