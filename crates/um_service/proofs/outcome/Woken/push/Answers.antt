-- One more at the end of the front, whose reply is short.
use Rattle.std.proofs.Common.{◌≡◌, ◌∙◌, ◌+◌, ◌<◌, ◌∷◌, ◌++◌, [], ap, add-one, arith, length, length-take, take, slice_set}
use Rattle.std.proofs.Math.Seq.{take-suc-set}
use Rattle.std.proofs.lemmas.List.{length-set}
use Rattle.um_base.specs.declared.ask.Told.{Told}
use Rattle.um_base.specs.declared.limits.TheConstants.{THREADS}
use Rattle.um_base.specs.declared.names.ThreadIx.{ThreadIx}
use Rattle.um_service.proofs.ToldLemmas.{one-more-short}
use Rattle.um_service.proofs.outcome.Woken.push.Goals as goal

pub invariant_of-self : goal.invariant_of-self
invariant_of-self c =
    let items = c.self.inside.items in
    let len = c.self.inside.len in
    let one : ThreadIx × Told = (c.args.thread, c.args.told.now) in
    let room : len < THREADS = omega (arith, length-take len items, ap length c.self.view_is, c.self.invariant.0, c.self.invariant.1, c.requires.room) in
    let inside : len < length items = omega (arith, room, c.self.invariant.1) in
    let front : take (len + 1) (slice_set items len one) ≡ take len items ++ one ∷ [] = rw (add-one len) (take-suc-set items len one inside) in
    (omega (arith, room), length-set items len one ∙ c.self.invariant.1, rw front (one-more-short (take len items) one c.self.invariant.2 c.requires.short))
