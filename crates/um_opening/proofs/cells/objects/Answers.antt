use Rattle.std.proofs.Common.{◌≡◌, ◌<◌, ◌∙◌, ◌+◌, List, ap, arith, length, slice_index_or, subst, sym}
use Rattle.std.proofs.lemmas.List.{length-set}
use Rattle.um_base.specs.declared.image.ObjectDef.{ObjectDef}
use Rattle.um_machine.specs.Run.{opening_object}
use Rattle.um_tables.specs.declared.object_cell.ObjectCell.{ObjectCell}
use Rattle.um_opening.specs.Opened.{kept_by, opened}
use Rattle.um_opening.proofs.Lists.{AreOpenTo, all-open, next-empty, none-open, one-more}
use Rattle.um_opening.proofs.cells.objects.Goals as goal

pub loop-x-init : goal.loop-x-init
loop-x-init c = record { open_to = none-open c.args.image.now.boots c.args.image.now.objects c.in_ok-cells.cells c.in_ok-cells.ensures; all = ap (λ (cells : List ObjectCell). length cells) c.in_ok-cells.ensures }

pub open_cell-requires-clause-empty : goal.open_cell-requires-clause-empty
open_cell-requires-clause-empty c =
    next-empty c.args.image.now.boots c.args.image.now.objects c.loop-x.x c.loop-x.cells c.loop-x.invariant.open_to (omega arith)

pub loop-x-preserved : goal.loop-x-preserved
loop-x-preserved c =
    let x = c.loop-x.x in
    let boots = c.args.image.now.boots in
    let objects = c.args.image.now.objects in
    let object = c.object-item.result in
    let all = c.as_slice-object-items.ensures.value in
    let many : length objects ≡ length c.as_slice-object-items.result.now = ap (λ (os : List ObjectDef). length os) (sym all) in
    let there : x < length objects = omega (arith, many, c.loop-x-test.true) in
    let here : object ≡ slice_index_or objects x object = c.object-item.is ∙ ap (λ (os : List ObjectDef). slice_index_or os x object) all in
    let written : opened object.setup ≡ kept_by (opening_object boots x (slice_index_or objects x object)) = ap (λ (d : ObjectDef). kept_by (opening_object boots x d)) here in
    record {
      open_to = subst (λ (cells : List ObjectCell). AreOpenTo boots objects (x + 1) cells) (sym c.open_cell.ensures)
          (one-more boots objects x c.loop-x.cells object (opened object.setup) c.loop-x.invariant.open_to (omega arith) there written);
      all = ap (λ (cells : List ObjectCell). length cells) c.open_cell.ensures ∙ length-set c.loop-x.cells x (opened object.setup) ∙ c.loop-x.invariant.all;
    }

pub returns-clause-cells : goal.returns-clause-cells
returns-clause-cells c =
    let objects = c.args.image.now.objects in
    let many : length objects ≡ length c.as_slice-object-items.result.now = ap (λ (os : List ObjectDef). length os) (sym c.as_slice-object-items.ensures.value) in
    all-open c.args.image.now.boots objects c.loop-x.x c.loop-x.cells c.loop-x.invariant.open_to (omega (arith, many, c.loop-x-test.false))
