use Rattle.std.proofs.Common.{◌≡◌, ◌+◌, ap, refl, sym, ◌∙◌, ◌<◌, arith}
use Rattle.um_words.specs.declared.thread_word.ThreadWord.{ThreadWord}
use Rattle.um_fine.specs.Answers.{thread_in}
use Rattle.um_fine.specs.Steps.{Exchange, Site, Word}
use Rattle.um_fine.proofs.Filled.{filled-twice}
use Rattle.um_tables.specs.Asked.{asked}
use Rattle.um_words.specs.ThreadActs.{thread_act, thread_event}
use Rattle.um_tables.specs.ThreadActs.{thread_made}
use Rattle.um_tables.proofs.Noted.{thread-event}
use Rattle.um_tables.proofs.WordActs.{thread-refuses, thread-takes}
use Rattle.um_board.specs.Noted.{number_of, packed}
use Rattle.um_board.proofs.Keeping.{noted-then}
use Rattle.um_board.proofs.WordSteps.{thread-lawful, thread-left, thread-number, thread-packs, thread-read, thread-reads-back}
use Rattle.um_fine.specs.Sites.{SiteState}
use Rattle.um_board.specs.Saw.{Hinders, SawShut}
use Rattle.um_board.proofs.Saws.{got-one, moved-on}
use Rattle.um_board.proofs.NextRuns.{next-then}
use Rattle.um_board.proofs.sites.SeatedSites.thread.Goals as goal

pub pack-requires : goal.pack-requires
pack-requires c =
    let t = thread-takes c.args.here.now.image.now c.args.here.now.cpu c.args.thread.0 c.in-Some-unpack.word c.args.act.now _ c.in-Some-make.ensures.made in
    thread-packs c.args.here.now.image.now (thread_made c.args.here.now.image.now c.args.here.now.cpu c.args.thread.0 c.in-Some-unpack.word c.args.act.now) _ _ c.in-Some-unpack.ensures.fits t

pub step-requires-clause-step : goal.step-requires-clause-step
step-requires-clause-step c =
    let e = thread_made c.args.here.now.image.now c.args.here.now.cpu c.args.thread.0 c.in-Some-unpack.word c.args.act.now in
    let t = thread-takes c.args.here.now.image.now c.args.here.now.cpu c.args.thread.0 c.in-Some-unpack.word c.args.act.now _ c.in-Some-make.ensures.made in
    let left : packed e.word ≡ c.pack.result = ap packed (thread-left c.args.here.now.image.now e _ _ t).0 ∙ sym c.pack.ensures.value in
    λ i. record { site = 128 + c.args.thread.0; act = e.act; word = left i; moved = Exchange.nothing }

pub step-requires-clause-numbered : goal.step-requires-clause-numbered
step-requires-clause-numbered c =
    let e = thread_made c.args.here.now.image.now c.args.here.now.cpu c.args.thread.0 c.in-Some-unpack.word c.args.act.now in
    let t = thread-takes c.args.here.now.image.now c.args.here.now.cpu c.args.thread.0 c.in-Some-unpack.word c.args.act.now _ c.in-Some-make.ensures.made in
    thread-number c.args.thread.0 _ _ c.requires.thread c.pack.ensures.back ∙ ap number_of (sym (thread-left c.args.here.now.image.now e _ _ t).0)

pub step-requires-clause-back : goal.step-requires-clause-back
step-requires-clause-back c =
    let e = thread_made c.args.here.now.image.now c.args.here.now.cpu c.args.thread.0 c.in-Some-unpack.word c.args.act.now in
    let t = thread-takes c.args.here.now.image.now c.args.here.now.cpu c.args.thread.0 c.in-Some-unpack.word c.args.act.now _ c.in-Some-make.ensures.made in
    thread-reads-back e c.args.thread.0 _ _ refl c.requires.thread (thread-left c.args.here.now.image.now e _ _ t).0 c.pack.ensures.value c.pack.ensures.back

pub step-requires-clause-event : goal.step-requires-clause-event
step-requires-clause-event c =
    let e = thread_made c.args.here.now.image.now c.args.here.now.cpu c.args.thread.0 c.in-Some-unpack.word c.args.act.now in
    let t = thread-takes c.args.here.now.image.now c.args.here.now.cpu c.args.thread.0 c.in-Some-unpack.word c.args.act.now _ c.in-Some-make.ensures.made in
    c.event-event.ensures
    ∙ (ap (λ (w : ThreadWord). thread_event c.args.act.now w) (sym (ap thread_in (thread-left c.args.here.now.image.now e _ _ t).0)) ∙ thread-event c.args.here.now.image.now c.args.here.now.cpu c.args.thread.0 c.in-Some-unpack.word c.args.act.now)

pub step-requires-clause-lawful : goal.step-requires-clause-lawful
step-requires-clause-lawful c =
    let e = thread_made c.args.here.now.image.now c.args.here.now.cpu c.args.thread.0 c.in-Some-unpack.word c.args.act.now in
    let t = thread-takes c.args.here.now.image.now c.args.here.now.cpu c.args.thread.0 c.in-Some-unpack.word c.args.act.now _ c.in-Some-make.ensures.made in
    thread-lawful c.args.here.now.image.now e c.args.thread.0 c.in-Some.seen _ _ c.requires.thread (sym c.in-Some-unpack.ensures.value) t _ c.pack.ensures.value

pub step-requires-clause-goes : goal.step-requires-clause-goes
step-requires-clause-goes c = next-then _ _ _ _ _ _ c.in-Some.ensures.unnoted (c.requires.goes c.in-Some-unpack.word)

pub returns-clause-said : goal.returns-clause-said
returns-clause-said c =
    let e = thread_made c.args.here.now.image.now c.args.here.now.cpu c.args.thread.0 c.in-Some-unpack.word c.args.act.now in
    let t = thread-takes c.args.here.now.image.now c.args.here.now.cpu c.args.thread.0 c.in-Some-unpack.word c.args.act.now _ c.in-Some-make.ensures.made in
    (c.in-Some-unpack.word, noted-then _ _ _ _ _ _ e c.in-Some.ensures.unnoted (c.if-not-step.ensures.made refl), sym (ap thread_in (thread-left c.args.here.now.image.now e _ _ t).0))

pub returns-in-None-make-clause-said : goal.returns-in-None-make-clause-said
returns-in-None-make-clause-said c =
    let w = c.in-Some-unpack.word in
    let got = got-one _ _ _ _ c.in-Some.ensures.seen.got in
    let low : 128 + c.args.thread.0 < 168 = let less = c.requires.thread in omega (arith, less) in
    let filled = filled-twice c.args.here.now.image.now (SiteState.thread w) (asked c.args.here.now.cpu (Site.thread c.args.thread.0) (thread_act c.args.act.now) Exchange.nothing) in
    let shut = SawShut.word_refused (SiteState.thread w) c.in-Some.seen low got c.in-Some.ensures.seen.saw (ap Word.thread (thread-read c.in-Some.seen w (sym c.in-Some-unpack.ensures.value))) (record { refuses = (thread-refuses c.args.here.now.image.now c.args.here.now.cpu c.args.thread.0 c.in-Some-unpack.word c.args.act.now c.in-None-make.ensures.made); filled_in = filled; seen = tt }) in
    (w, c.in-Some.ensures.unnoted, shut)

pub returns-in-None-clause-said : goal.returns-in-None-clause-said
returns-in-None-clause-said c =
    (c.in-Some.ensures.unnoted, Hinders.no_thread c.args.thread.0 c.in-Some.seen c.requires.thread refl c.in-Some.ensures.seen.saw (sym c.in-None.ensures.value))

pub returns-then-not-step-clause-said : goal.returns-then-not-step-clause-said
returns-then-not-step-clause-said c =
    let m = c.if-not-step.ensures.moved refl in
    moved-on _ _ _ _ _ c.args.self.now.seat c.look_to_step.new.self.seat c.step.new.self.seat _ _ m.0 c.in-Some.ensures.unnoted (c.if-not-step.ensures.changed refl) c.in-Some.ensures.seen.got m.2 m.1
