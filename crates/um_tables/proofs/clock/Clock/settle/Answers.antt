use Rattle.std.proofs.Common.{◌≡◌, ◌∙◌, ap, length, refl, rules, sym}
use Rattle.um_fine.specs.Clock.{settle_first}
use Rattle.um_tables.specs.Timed.{not_settled, places}
use Rattle.um_tables.proofs.ListedMarks.{same-listed, settled-listed, taken-listed}
use Rattle.um_tables.proofs.clock.Clock.settle.Goals as goal

pub settle_first-requires : goal.settle_first-requires
settle_first-requires c =
    let same : c.deref_mut.result.now ≡ c.self.inside.marks.items = search rules in record {
      listed = c.self.invariant.lists_unsettled ∙ ap (places not_settled 0) (sym same);
    }

pub invariant_of-self : goal.invariant_of-self
invariant_of-self c =
    let time = c.self.inside.time in
    let ms = c.self.inside.marks.items in
    let same : c.deref_mut.result.now ≡ ms = search rules in
    let long : length c.settle_first.new.marks ≡ c.self.inside.marks.len = search rules in
    let left = c.settle_first.ensures.left ∙ ap (settle_first c.args.deadline c.args.mark) same in
    taken-listed time c.self.inside.marks.len c.settle_first.new.marks _ _ _ _ _ _ long
    (same-listed time (settle_first c.args.deadline c.args.mark ms) c.settle_first.new.marks c.self.inside.ungiven.items c.self.inside.ungiven.items c.settle_first.new.unsettled.items c.settle_first.new.unsettled.items _ _ _ _ _ _
    left refl refl refl refl c.settle_first.ensures.room
    (settled-listed (record { now = time; marks = ms }) c.args.deadline c.args.mark c.self.inside.ungiven.items c.self.inside.unsettled.items c.settle_first.new.unsettled.items _ _ _ c.self.invariant
    (c.settle_first.ensures.listed ∙ ap (places not_settled 0) left)))
