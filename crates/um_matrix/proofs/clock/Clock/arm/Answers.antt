use Rattle.std.proofs.Common.{◌+◌, ◌*◌, ◌∙◌, ◌++◌, ◌∷◌, [], ℕ, List, ap, arith, length, length-append}
use Rattle.um_matrix.proofs.ClockLemmas.{armed-ahead, ascending, same-ahead}
use Rattle.um_matrix.proofs.clock.Clock.arm.Goals as goal

pub put-requires-clause-ascend : goal.put-requires-clause-ascend
put-requires-clause-ascend c = ascending c.self.inside.present (length c.self.inside.armed.items * 4294967296) c.self.inside.ahead.items c.self.invariant.4.ascend

pub invariant_of-self : goal.invariant_of-self
invariant_of-self c =
    let present = c.self.inside.present in
    let armed = c.self.inside.armed.items in
    let ahead = c.self.inside.ahead.items in
    let deadline = present + c.args.ticks in
    let items = c.push_reserved.ensures.items in
    let long = ap (λ (ds : List ℕ). length ds) items ∙ length-append armed (deadline ∷ []) in
    let few = ap (λ (k : ℕ × List ℕ). length k.1) c.self.view_is in
    let soon = c.self.invariant.3 in
    let room = c.self.invariant.1 in
    let room_ahead = c.self.invariant.2 in (
      omega (arith, long, few, c.requires),
      omega (arith, room, c.push_reserved.ensures.capacity),
      omega (arith, room_ahead, c.put.ensures.room),
      omega (arith, long, soon),
      same-ahead present (armed ++ deadline ∷ []) _ _ _ items c.put.ensures.items
          (armed-ahead present deadline armed ahead soon (omega (arith, c.ranges.ticks.fits)) c.self.invariant.4),
    )
