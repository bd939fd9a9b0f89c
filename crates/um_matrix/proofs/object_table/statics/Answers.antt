use Rattle.std.proofs.Common.{◌≡◌, ◌<◌, ◌+◌, ◌++◌, ◌∙◌, List, [], ◌∷◌, ap, append_assoc, arith, drop, length, length-append, slice_index_or, slice_set, sym}
use Rattle.std.proofs.lemmas.List.{drop_more}
use Rattle.um_base.specs.declared.image.Boot.{Boot}
use Rattle.um_base.specs.declared.image.ObjectDef.{ObjectDef}
use Rattle.um_machine.specs.declared.object.Object.{Object}
use Rattle.um_machine.specs.Run.{objects_from, opening_object}
use Rattle.um_matrix.proofs.TableLemmas.{filled_last}
use Rattle.um_matrix.proofs.object_table.statics.Goals as goal

pub loop-x-preserved : goal.loop-x-preserved
loop-x-preserved c =
    let rows = c.loop-x.all.items in
    let x = c.loop-x.x in
    let boots = c.args.image.now.boots in
    let objects = c.args.image.now.objects in
    let o = c.open_object.new.row in
    let object = c.object-item.result in
    let all = c.as_slice-object-items.ensures.value in
    let many : length objects ≡ length c.as_slice-object-items.result.now = ap (λ (os : List ObjectDef). length os) (sym all) in
    let within : x < length objects = omega (arith, many, c.loop-x-test.true) in
    let here : object ≡ slice_index_or objects x object = c.object-item.is ∙ ap (λ (os : List ObjectDef). slice_index_or os x object) all in
    let opened : o ≡ opening_object boots x (slice_index_or objects x object) =
    c.open_object.ensures ∙ ap (λ (bs : List Boot). opening_object bs x object) c.as_slice.ensures.value ∙ ap (λ (d : ObjectDef). opening_object boots x d) here in
    let pushed : slice_set c.fill.new.rows.items x o ≡ rows ++ o ∷ [] = ap (λ (rs : List Object). slice_set rs x o) c.fill.ensures.items ∙ filled_last rows x o c.loop-x.invariant.count in
    let others = objects_from boots (x + 1) (drop (x + 1) objects) in
    record {
      whole = ap (λ (rs : List Object). rs ++ others) pushed ∙ append_assoc rows (o ∷ []) others ∙ ap (λ (r : Object). rows ++ r ∷ others) opened
          ∙ ap (λ (os : List ObjectDef). rows ++ objects_from boots x os) (sym (drop_more objects x object within)) ∙ c.loop-x.invariant.whole;
      count = rw pushed (omega (arith, length-append {A = Object}, c.loop-x.invariant.count));
      room = omega arith;
    }
