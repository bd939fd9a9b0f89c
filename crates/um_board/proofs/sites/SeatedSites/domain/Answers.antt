use Rattle.std.proofs.Common.{◌≡◌, ◌+◌, ap, refl, sym, ◌∙◌, ◌<◌, arith}
use Rattle.um_fine.specs.Answers.{domain_in}
use Rattle.um_fine.specs.Steps.{Exchange, Site, Word}
use Rattle.um_fine.proofs.Filled.{filled-twice}
use Rattle.um_tables.specs.Asked.{asked}
use Rattle.um_words.specs.DomainActs.{domain_act}
use Rattle.um_tables.specs.DomainActs.{domain_made}
use Rattle.um_tables.proofs.WordActs.{domain-refuses, domain-takes}
use Rattle.um_board.specs.Noted.{number_of, packed}
use Rattle.um_board.proofs.Keeping.{noted-then}
use Rattle.um_board.proofs.WordSteps.{domain-lawful, domain-left, domain-number, domain-packs, domain-read, domain-reads-back}
use Rattle.um_fine.specs.Sites.{SiteState}
use Rattle.um_board.specs.Saw.{Hinders, SawShut}
use Rattle.um_board.proofs.Saws.{got-one, moved-on}
use Rattle.um_board.proofs.NextRuns.{next-then}
use Rattle.um_board.proofs.sites.SeatedSites.domain.Goals as goal

pub pack-requires : goal.pack-requires
pack-requires c =
    let t = domain-takes c.args.here.now.image.now c.args.here.now.cpu c.args.domain c.in-Some-unpack.word c.args.act.now _ c.in-Some-make.ensures in
    domain-packs c.args.here.now.image.now (domain_made c.args.here.now.image.now c.args.here.now.cpu c.args.domain c.in-Some-unpack.word c.args.act.now) _ _ c.in-Some-unpack.ensures.fits t

pub step-requires-clause-step : goal.step-requires-clause-step
step-requires-clause-step c =
    let e = domain_made c.args.here.now.image.now c.args.here.now.cpu c.args.domain c.in-Some-unpack.word c.args.act.now in
    let t = domain-takes c.args.here.now.image.now c.args.here.now.cpu c.args.domain c.in-Some-unpack.word c.args.act.now _ c.in-Some-make.ensures in
    let left : packed e.word ≡ c.pack.result = ap packed (domain-left c.args.here.now.image.now e _ _ t).0 ∙ sym c.pack.ensures.value in
    λ i. record { site = 160 + c.args.domain; act = e.act; word = left i; moved = Exchange.nothing }

pub step-requires-clause-numbered : goal.step-requires-clause-numbered
step-requires-clause-numbered c =
    let e = domain_made c.args.here.now.image.now c.args.here.now.cpu c.args.domain c.in-Some-unpack.word c.args.act.now in
    let t = domain-takes c.args.here.now.image.now c.args.here.now.cpu c.args.domain c.in-Some-unpack.word c.args.act.now _ c.in-Some-make.ensures in
    domain-number c.args.domain _ _ c.requires.domain c.pack.ensures.back ∙ ap number_of (sym (domain-left c.args.here.now.image.now e _ _ t).0)

pub step-requires-clause-back : goal.step-requires-clause-back
step-requires-clause-back c =
    let e = domain_made c.args.here.now.image.now c.args.here.now.cpu c.args.domain c.in-Some-unpack.word c.args.act.now in
    let t = domain-takes c.args.here.now.image.now c.args.here.now.cpu c.args.domain c.in-Some-unpack.word c.args.act.now _ c.in-Some-make.ensures in
    domain-reads-back e c.args.domain _ _ refl c.requires.domain (domain-left c.args.here.now.image.now e _ _ t).0 c.pack.ensures.value c.pack.ensures.back

pub step-requires-clause-event : goal.step-requires-clause-event
step-requires-clause-event c = c.event-event.ensures

pub step-requires-clause-lawful : goal.step-requires-clause-lawful
step-requires-clause-lawful c =
    let e = domain_made c.args.here.now.image.now c.args.here.now.cpu c.args.domain c.in-Some-unpack.word c.args.act.now in
    let t = domain-takes c.args.here.now.image.now c.args.here.now.cpu c.args.domain c.in-Some-unpack.word c.args.act.now _ c.in-Some-make.ensures in
    domain-lawful c.args.here.now.image.now e c.args.domain c.in-Some.seen _ _ c.requires.domain (sym c.in-Some-unpack.ensures.value) t _ c.pack.ensures.value

pub step-requires-clause-goes : goal.step-requires-clause-goes
step-requires-clause-goes c = next-then _ _ _ _ _ _ c.in-Some.ensures.unnoted (c.requires.goes c.in-Some-unpack.word)

pub returns-clause-said : goal.returns-clause-said
returns-clause-said c =
    let e = domain_made c.args.here.now.image.now c.args.here.now.cpu c.args.domain c.in-Some-unpack.word c.args.act.now in
    let t = domain-takes c.args.here.now.image.now c.args.here.now.cpu c.args.domain c.in-Some-unpack.word c.args.act.now _ c.in-Some-make.ensures in
    (c.in-Some-unpack.word, noted-then _ _ _ _ _ _ e c.in-Some.ensures.unnoted (c.if-not-step.ensures.made refl), sym (ap domain_in (domain-left c.args.here.now.image.now e _ _ t).0))

pub returns-in-None-make-clause-said : goal.returns-in-None-make-clause-said
returns-in-None-make-clause-said c =
    let w = c.in-Some-unpack.word in
    let got = got-one _ _ _ _ c.in-Some.ensures.seen.got in
    let low : 160 + c.args.domain < 168 = let less = c.requires.domain in omega (arith, less) in
    let filled = filled-twice c.args.here.now.image.now (SiteState.domain w) (asked c.args.here.now.cpu (Site.domain c.args.domain) (domain_act c.args.act.now) Exchange.nothing) in
    let shut = SawShut.word_refused (SiteState.domain w) c.in-Some.seen low got c.in-Some.ensures.seen.saw (ap Word.domain (domain-read c.in-Some.seen w (sym c.in-Some-unpack.ensures.value))) (record { refuses = (domain-refuses c.args.here.now.image.now c.args.here.now.cpu c.args.domain c.in-Some-unpack.word c.args.act.now c.in-None-make.ensures); filled_in = filled; seen = tt }) in
    (w, c.in-Some.ensures.unnoted, shut)

pub returns-in-None-clause-said : goal.returns-in-None-clause-said
returns-in-None-clause-said c =
    (c.in-Some.ensures.unnoted, Hinders.no_domain c.args.domain c.in-Some.seen c.requires.domain refl c.in-Some.ensures.seen.saw (sym c.in-None.ensures.value))

pub returns-then-not-step-clause-said : goal.returns-then-not-step-clause-said
returns-then-not-step-clause-said c =
    let m = c.if-not-step.ensures.moved refl in
    moved-on _ _ _ _ _ c.args.self.now.seat c.look_to_step.new.self.seat c.step.new.self.seat _ _ m.0 c.in-Some.ensures.unnoted (c.if-not-step.ensures.changed refl) c.in-Some.ensures.seen.got m.2 m.1
