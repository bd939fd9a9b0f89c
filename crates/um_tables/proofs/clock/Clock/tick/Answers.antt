use Rattle.std.proofs.Common.{◌∙◌, ap, sym}
use Rattle.um_tables.specs.Timed.{later_of}
use Rattle.um_tables.proofs.ListedMarks.{ticked-listed}
use Rattle.um_tables.proofs.clock.Clock.tick.Goals as goal

pub invariant_of-self : goal.invariant_of-self
invariant_of-self c =
    ticked-listed (record { now = c.self.inside.time; marks = c.self.inside.marks.items }) c.in-Some.next _ _ _ _ _ c.self.invariant
    (sym c.in-Some.is ∙ c.later.ensures ∙ ap later_of (sym c.self.view_is))
