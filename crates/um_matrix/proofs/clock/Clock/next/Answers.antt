use Rattle.std.proofs.Common.{◌∙◌, ℕ, List, ap}
use Rattle.std.specs.Prelude.{slice_get}
use Rattle.um_machine.specs.Time.{next_deadline}
use Rattle.um_matrix.proofs.ClockLemmas.{next-ahead}
use Rattle.um_matrix.proofs.clock.Clock.next.Goals as goal

pub returns : goal.returns
returns c =
    c.copied.ensures ∙ c.first.ensures.value ∙ ap (λ (ds : List ℕ). slice_get ds 0) c.deref.ensures.value
    ∙ next-ahead c.self.inside.present c.self.inside.armed.items c.self.inside.ahead.items c.self.invariant.4
    ∙ ap (λ (k : ℕ × List ℕ). next_deadline k.0 k.1) c.self.view_is
