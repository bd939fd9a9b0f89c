use Rattle.std.proofs.Common.{refl, ap, subst, sym, ◌∙◌}
use Rattle.std.proofs.lemmas.Bool.{le-ltb}
use Rattle.um_fine.specs.Processor.{Processor}
use Rattle.um_processor.specs.Processors.{IsStuck, has_thread, site_next}
use Rattle.um_processor.proofs.Wholes.{next-told, wake-first, wake-goes}
use Rattle.um_processor.proofs.processor.Processor.wake.Goals as goal

pub returns : goal.returns
returns g c =
    let h = c.in-Made.ensures.said in
    let k = c.args.self.now in
    let next = next-told k.outcome.woken k.told _ c.requires.woken (rw c.as_slice.ensures.value at c.index-as_slice-self.is) in
    let goes = wake-goes c.args.here.now.image.now c.args.here.now.cpu k.running c.requires.runs k.cleans k.ends.items _ _ _ h.0 h.1 c.requires.cleans c.requires.ends next in
    record { turn = (c.in-Made.ensures.image, tt, (_, h.2, goes)) }

pub returns-in-Busy : goal.returns-in-Busy
returns-in-Busy g c =
    let h = c.in-Busy.ensures.said in
    let k = c.args.self.now in
    let next = next-told k.outcome.woken k.told _ c.requires.woken (rw c.as_slice.ensures.value at c.index-as_slice-self.is) in
    let goes = wake-goes c.args.here.now.image.now c.args.here.now.cpu k.running c.requires.runs k.cleans k.ends.items _ _ _ h.0 h.1 c.requires.cleans c.requires.ends next in
    record { turn = (c.in-Busy.ensures.image, refl, (_, (h.2, h.3), goes.asks)) }

pub returns-then-who-ge-THREADS : goal.returns-then-who-ge-THREADS
returns-then-who-ge-THREADS g c =
    let k = c.args.self.now in
    let next = next-told k.outcome.woken k.told _ c.requires.woken (rw c.as_slice.ensures.value at c.index-as_slice-self.is) in
    let first = wake-first c.args.here.now.image.now c.args.here.now.cpu k.running c.requires.runs k.cleans k.ends.items _ _ _ c.requires.cleans c.requires.ends next in
    record { turn = (c.requires.goes.0, refl, (refl, IsStuck.no_thread (ap (λ (q : Processor). has_thread q.todo) first ∙ le-ltb _ _ c.if-who-ge-THREADS.true))) }

pub wake-requires-clause-goes : goal.wake-requires-clause-goes
wake-requires-clause-goes g c = λ n s.
    let k = c.args.self.now in
    let next = next-told k.outcome.woken k.told _ c.requires.woken (rw c.as_slice.ensures.value at c.index-as_slice-self.is) in
    let goes = wake-goes c.args.here.now.image.now c.args.here.now.cpu k.running c.requires.runs k.cleans k.ends.items _ _ _ n s c.requires.cleans c.requires.ends next in
    c.requires.goes.1 _ goes.asks

pub returns-in-Changed : goal.returns-in-Changed
returns-in-Changed g c =
    let k = c.args.self.now in
    let next = next-told k.outcome.woken k.told _ c.requires.woken (rw c.as_slice.ensures.value at c.index-as_slice-self.is) in
    let first = wake-first c.args.here.now.image.now c.args.here.now.cpu k.running c.requires.runs k.cleans k.ends.items _ _ _ c.requires.cleans c.requires.ends next in
    let late =
    subst (λ (p : Processor). g.S.Sites.Kept c.args.sites.now c.wake.new.self × g.S.Sites.Contended c.args.here.now.image.now c.args.sites.now (site_next c.args.here.now.image.now p) c.wake.new.self)
    (sym first)
    c.in-Changed.ensures.said in
    record { turn = (c.in-Changed.ensures.image, refl, late) }
