use Rattle.std.proofs.Common.{◌∙◌, ℕ, List, ap, arith, subst, sym}
use Rattle.um_machine.specs.Time.{next_deadline}
use Rattle.um_matrix.specs.Ahead.{IsAhead}
use Rattle.um_matrix.proofs.ClockLemmas.{ahead-soon, ahead-some, ticked-ahead}
use Rattle.um_matrix.proofs.clock.Clock.tick.Goals as goal

pub remove-requires : goal.remove-requires
remove-requires c =
    let some = c.in-Some.ensures ∙ ap (λ (k : ℕ × List ℕ). next_deadline k.0 k.1) (sym c.self.view_is) in
    let more = ahead-some c.self.inside.present c.in-Some.next c.self.inside.armed.items c.self.inside.ahead.items c.self.invariant.4 some in
    omega (arith, more, c.self.inside.ahead.ok.0)

pub invariant_of-self : goal.invariant_of-self
invariant_of-self c =
    let present = c.self.inside.present in
    let next = c.in-Some.next in
    let armed = c.self.inside.armed.items in
    let ahead = c.self.inside.ahead.items in
    let some = c.in-Some.ensures ∙ ap (λ (k : ℕ × List ℕ). next_deadline k.0 k.1) (sym c.self.view_is) in
    let room = c.self.invariant.2 in (
      c.self.invariant.0,
      c.self.invariant.1,
      omega (arith, room, c.remove.ensures.capacity),
      ahead-soon present next armed ahead c.self.invariant.4 some,
      subst (λ (ds : List ℕ). IsAhead next armed ds) (sym c.remove.ensures.items) (ticked-ahead present next armed ahead c.self.invariant.4 some),
    )
