use Rattle.std.proofs.Common.{◌≡◌, ◌≤◌, ◌+◌, ◌∷◌, ◌++◌, ◌∙◌, [], ℕ, ap, arith, length}
use Rattle.um_fine.specs.Clock.{Marked}
use Rattle.um_tables.specs.Timed.{Timed, not_settled, not_given}
use Rattle.um_tables.proofs.ListedMarks.{armed-listed, listed-few, same-listed}
use Rattle.um_tables.proofs.clock.Clock.arm.Goals as goal

pub overflow_add-deadline : goal.overflow_add-deadline
overflow_add-deadline c =
    let long = ap (λ (t : Timed). length t.clock.marks) c.self.view_is in
    let near = c.self.invariant.near.0 in
    omega (arith, long, near, c.requires.few, c.ranges.ticks.fits)

pub push_reserved-requires : goal.push_reserved-requires
push_reserved-requires c =
    let long = ap (λ (t : Timed). length t.clock.marks) c.self.view_is in
    let most = ap (λ (t : Timed). t.most) c.self.view_is in
    let few = listed-few not_given c.self.inside.marks.items c.self.inside.ungiven.items c.self.invariant.lists_ungiven in
    omega (arith, long, most, few, c.self.invariant.ungiven_room, c.requires.room, c.self.inside.ungiven.ok.0)

pub push_reserved-requires-2 : goal.push_reserved-requires-2
push_reserved-requires-2 c =
    let long = ap (λ (t : Timed). length t.clock.marks) c.self.view_is in
    let most = ap (λ (t : Timed). t.most) c.self.view_is in
    let few = listed-few not_settled c.self.inside.marks.items c.self.inside.unsettled.items c.self.invariant.lists_unsettled in
    omega (arith, long, most, few, c.self.invariant.unsettled_room, c.requires.room, c.self.inside.unsettled.ok.0)

pub invariant_of-self : goal.invariant_of-self
invariant_of-self c =
    let time = c.self.inside.time in
    let ms = c.self.inside.marks.items in
    let ungiven = c.self.inside.ungiven.items in
    let unsettled = c.self.inside.unsettled.items in
    let m = c.new.result in
    let deadline = ap (λ (n : Marked). n.deadline) c.new.ensures in
    let soon : m.deadline ≤ time + 4294967295 = omega (arith, deadline, c.ranges.ticks.fits) in
    let place : c.len-place.result ≡ length ms = omega (arith, c.len-place.ensures, c.self.inside.marks.ok.0) in
    same-listed time (ms ++ m ∷ []) _ (ungiven ++ length ms ∷ []) _ (unsettled ++ length ms ∷ []) _ _ _ _ _ _ _ c.push_reserved-3.ensures.items
    (c.push_reserved.ensures.items ∙ ap (λ (n : ℕ). ungiven ++ n ∷ []) place) (c.push_reserved-2.ensures.items ∙ ap (λ (n : ℕ). unsettled ++ n ∷ []) place)
    c.push_reserved-3.ensures.capacity c.push_reserved.ensures.capacity c.push_reserved-2.ensures.capacity
    (armed-listed (record { now = time; marks = ms }) ungiven unsettled _ _ _ m c.self.invariant soon (ap (λ (n : Marked). n.settled) c.new.ensures) (ap (λ (n : Marked). n.given) c.new.ensures))
