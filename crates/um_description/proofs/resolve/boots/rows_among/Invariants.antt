use Rattle.std.proofs.Common.{◌≡◌, ◌≤◌, ◌++◌, drop, length, map}
use Rattle.um_document.specs.declared.description.ObjectEntry.{ObjectEntry}
use Rattle.um_description.specs.Resolve.{rows_among}
use Rattle.um_description.proofs.resolve.boots.rows_among.Given as goal

abbrev pub invariant-loop-x : goal.invariant-loop-x
invariant-loop-x l = record {
  whole : l.all ++ rows_among l.texts l.x (map (λ (o : ObjectEntry). o.name) (drop l.x l.objects)) ≡ rows_among l.texts 0 (map (λ (o : ObjectEntry). o.name) l.objects);
  few : length l.all ≤ l.x;
}
