use Rattle.std.proofs.Common.{◌≡◌, ◌∙◌, ap, length, refl, rules, sym}
use Rattle.um_fine.specs.Clock.{give_first}
use Rattle.um_tables.specs.Timed.{not_given, places}
use Rattle.um_tables.proofs.ListedMarks.{given-listed, same-listed, taken-listed}
use Rattle.um_tables.proofs.clock.Clock.give.Goals as goal

pub give_first-requires : goal.give_first-requires
give_first-requires c =
    let same : c.deref_mut.result.now ≡ c.self.inside.marks.items = search rules in record {
      listed = c.self.invariant.lists_ungiven ∙ ap (places not_given 0) (sym same);
    }

pub invariant_of-self : goal.invariant_of-self
invariant_of-self c =
    let time = c.self.inside.time in
    let ms = c.self.inside.marks.items in
    let same : c.deref_mut.result.now ≡ ms = search rules in
    let long : length c.give_first.new.marks ≡ c.self.inside.marks.len = search rules in
    let left = c.give_first.ensures.left ∙ ap (give_first time) same in
    taken-listed time c.self.inside.marks.len c.give_first.new.marks _ _ _ _ _ _ long
    (same-listed time (give_first time ms) c.give_first.new.marks c.give_first.new.ungiven.items c.give_first.new.ungiven.items c.self.inside.unsettled.items c.self.inside.unsettled.items _ _ _ _ _ _
    left refl refl refl c.give_first.ensures.room refl
    (given-listed (record { now = time; marks = ms }) c.self.inside.ungiven.items c.self.inside.unsettled.items c.give_first.new.ungiven.items _ _ _ c.self.invariant
    (c.give_first.ensures.listed ∙ ap (places not_given 0) left)))
