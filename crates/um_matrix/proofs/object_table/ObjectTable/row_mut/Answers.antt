use Rattle.std.proofs.Common.{◌∙◌, List, ap, arith, refl, slice_index_or, slice_set}
use Rattle.um_machine.specs.declared.object.Object.{Object}
use Rattle.um_machine.specs.State.{vacant}
use Rattle.um_steps.proofs.PaddedLemmas.{set-static, set-dynamic, read-static, read-dynamic}
use Rattle.um_matrix.proofs.object_table.ObjectTable.row_mut.Goals as goal

pub returns-then-x-lt-STATIC_ROWS : goal.returns-then-x-lt-STATIC_ROWS
returns-then-x-lt-STATIC_ROWS c =
    let x = c.args.x in
    let statics = c.self.inside.statics.items in
    let dynamics = c.self.inside.dynamics.items in
    let rows = c.fill.new.rows.items in (
      (refl, λ (w : Object). set-static vacant 96 32 x statics dynamics rows w (omega arith) (omega arith) c.fill.ensures.items ∙ ap (λ (all : List Object). slice_set all x w) c.self.view_is),
      record {
        lends = record {};
        value = read-static vacant 96 32 x statics dynamics rows c.index_mut.result.now (omega arith) (omega arith) (omega arith) c.fill.ensures.items c.index_mut.ensures.value
            ∙ ap (λ (all : List Object). slice_index_or all x vacant) c.self.view_is;
      },
    )

pub returns-else-x-lt-STATIC_ROWS : goal.returns-else-x-lt-STATIC_ROWS
returns-else-x-lt-STATIC_ROWS c =
    let x = c.args.x in
    let statics = c.self.inside.statics.items in
    let dynamics = c.self.inside.dynamics.items in
    let fill = c.fill-else-x-lt-STATIC_ROWS in
    let rows = fill.new.rows.items in
    let lent = c.index_mut-else-x-lt-STATIC_ROWS in (
      (refl, λ (w : Object). set-dynamic vacant 96 32 x statics dynamics rows w (omega arith) (omega arith) (omega arith) (omega arith) fill.ensures.items ∙ ap (λ (all : List Object). slice_set all x w) c.self.view_is),
      record {
        lends = record {};
        value = read-dynamic vacant 96 32 x statics dynamics rows lent.result.now (omega arith) (omega arith) (omega arith) (omega arith) fill.ensures.items lent.ensures.value
            ∙ ap (λ (all : List Object). slice_index_or all x vacant) c.self.view_is;
      },
    )
