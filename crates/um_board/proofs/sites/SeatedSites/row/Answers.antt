use Rattle.std.proofs.Common.{◌≡◌, ap, refl, sym, ◌∙◌, ◌<◌, arith}
use Rattle.um_words.specs.Packed.{row_of}
use Rattle.um_fine.specs.Steps.{Exchange, Site, Word}
use Rattle.um_fine.proofs.Filled.{filled-twice}
use Rattle.um_tables.specs.Asked.{asked}
use Rattle.um_words.specs.RowActs.{row_act, row_event}
use Rattle.um_tables.specs.RowActs.{row_made}
use Rattle.um_tables.proofs.Noted.{row-event, row-seen}
use Rattle.um_tables.proofs.WordActs.{row-refuses}
use Rattle.um_board.specs.Noted.{number_of, packed}
use Rattle.um_board.proofs.Keeping.{noted-then}
use Rattle.um_board.proofs.WordSteps.{row-lawful, row-left, row-number, row-packs, row-reads-back, row-read}
use Rattle.um_fine.specs.Sites.{SiteState}
use Rattle.um_board.specs.Saw.{SawShut}
use Rattle.um_board.proofs.Saws.{got-one, moved-on}
use Rattle.um_board.proofs.NextRuns.{next-then}
use Rattle.um_board.proofs.sites.SeatedSites.row.Goals as goal

pub pack-requires : goal.pack-requires
pack-requires c =
    let t = row-read c.args.here.now.image.now c.args.here.now.cpu c.args.row.0 _ _ c.args.act.now _ _ c.read-word.ensures.value c.in-Some-make.ensures in
    row-packs c.args.here.now.image.now (row_made c.args.here.now.image.now c.args.here.now.cpu c.args.row.0 (row_of c.in-Some.seen) c.args.act.now) _ _ t.0

pub step-requires-clause-step : goal.step-requires-clause-step
step-requires-clause-step c =
    let e = row_made c.args.here.now.image.now c.args.here.now.cpu c.args.row.0 (row_of c.in-Some.seen) c.args.act.now in
    let t = row-read c.args.here.now.image.now c.args.here.now.cpu c.args.row.0 _ _ c.args.act.now _ _ c.read-word.ensures.value c.in-Some-make.ensures in
    let left : packed e.word ≡ c.pack.result = ap packed (row-left c.args.here.now.image.now e _ _ t.0).0 ∙ sym c.pack.ensures.value in
    λ i. record { site = c.args.row.0; act = e.act; word = left i; moved = Exchange.nothing }

pub step-requires-clause-numbered : goal.step-requires-clause-numbered
step-requires-clause-numbered c =
    let e = row_made c.args.here.now.image.now c.args.here.now.cpu c.args.row.0 (row_of c.in-Some.seen) c.args.act.now in
    let t = row-read c.args.here.now.image.now c.args.here.now.cpu c.args.row.0 _ _ c.args.act.now _ _ c.read-word.ensures.value c.in-Some-make.ensures in
    row-number c.args.row.0 _ _ c.requires.row c.pack.ensures.back ∙ ap number_of (sym (row-left c.args.here.now.image.now e _ _ t.0).0)

pub step-requires-clause-back : goal.step-requires-clause-back
step-requires-clause-back c =
    let e = row_made c.args.here.now.image.now c.args.here.now.cpu c.args.row.0 (row_of c.in-Some.seen) c.args.act.now in
    let t = row-read c.args.here.now.image.now c.args.here.now.cpu c.args.row.0 _ _ c.args.act.now _ _ c.read-word.ensures.value c.in-Some-make.ensures in
    row-reads-back e c.args.row.0 _ _ refl c.requires.row (row-left c.args.here.now.image.now e _ _ t.0).0 c.pack.ensures.value c.pack.ensures.back

pub step-requires-clause-event : goal.step-requires-clause-event
step-requires-clause-event c =
    let t = row-read c.args.here.now.image.now c.args.here.now.cpu c.args.row.0 _ _ c.args.act.now _ _ c.read-word.ensures.value c.in-Some-make.ensures in
    c.event-event.ensures ∙ (ap (row_event c.args.act.now) t.1 ∙ row-event c.args.here.now.image.now c.args.here.now.cpu c.args.row.0 (row_of c.in-Some.seen) c.args.act.now)

pub step-requires-clause-lawful : goal.step-requires-clause-lawful
step-requires-clause-lawful c =
    let e = row_made c.args.here.now.image.now c.args.here.now.cpu c.args.row.0 (row_of c.in-Some.seen) c.args.act.now in
    let t = row-read c.args.here.now.image.now c.args.here.now.cpu c.args.row.0 _ _ c.args.act.now _ _ c.read-word.ensures.value c.in-Some-make.ensures in
    row-lawful c.args.here.now.image.now e c.args.row.0 c.in-Some.seen _ c.requires.row t.0 _ c.pack.ensures.value

pub step-requires-clause-goes : goal.step-requires-clause-goes
step-requires-clause-goes c = next-then _ _ _ _ _ _ c.in-Some.ensures.unnoted (c.requires.goes (row_of c.in-Some.seen))

pub returns-clause-said : goal.returns-clause-said
returns-clause-said c =
    let e = row_made c.args.here.now.image.now c.args.here.now.cpu c.args.row.0 (row_of c.in-Some.seen) c.args.act.now in
    let t = row-read c.args.here.now.image.now c.args.here.now.cpu c.args.row.0 _ _ c.args.act.now _ _ c.read-word.ensures.value c.in-Some-make.ensures in
    (row_of c.in-Some.seen, noted-then _ _ _ _ _ _ e c.in-Some.ensures.unnoted (c.if-not-step.ensures.made refl), t.1)

pub returns-in-None-clause-said : goal.returns-in-None-clause-said
returns-in-None-clause-said c =
    let w = c.read-word.result in
    let got = got-one _ _ _ _ c.in-Some.ensures.seen.got in
    let low : c.args.row.0 < 168 = let less = c.requires.row in omega (arith, less) in
    let filled = filled-twice c.args.here.now.image.now (SiteState.row w) (asked c.args.here.now.cpu (Site.row c.args.row.0) (row_act w c.args.act.now) Exchange.nothing) in
    let shut = SawShut.word_refused (SiteState.row w) c.in-Some.seen low got c.in-Some.ensures.seen.saw (ap Word.row (sym c.read-word.ensures.value)) (record { refuses = row-refuses c.args.here.now.image.now c.args.here.now.cpu c.args.row.0 w c.args.act.now c.in-None.ensures; filled_in = filled; seen = row-seen c.args.here.now.image.now c.args.here.now.cpu c.args.row.0 w c.args.act.now }) in
    (w, c.in-Some.ensures.unnoted, shut)

pub returns-then-not-step-clause-said : goal.returns-then-not-step-clause-said
returns-then-not-step-clause-said c =
    let m = c.if-not-step.ensures.moved refl in
    moved-on _ _ _ _ _ c.args.self.now.seat c.look_to_step.new.self.seat c.step.new.self.seat _ _ m.0 c.in-Some.ensures.unnoted (c.if-not-step.ensures.changed refl) c.in-Some.ensures.seen.got m.2 m.1
