use Rattle.std.proofs.Common.{Result, Option, Ok, Err, ◌≡◌, refl, ◌∙◌}
use Rattle.um_base.specs.declared.out_of_memory.OutOfMemory.{OutOfMemory}
use Rattle.std.specs.Prelude.{IfOk}
use Rattle.um_document.specs.declared.place.Place.{Place}
use Rattle.um_document.specs.First.{first_of}
use Rattle.um_description.specs.Duplicates.{partition_again, variables_again}
use Rattle.um_description.specs.Names.{variables_of}
use Rattle.um_description.proofs.AgainLemmas.{partition_passed, partition_put}
use Rattle.um_description.proofs.duplicates.partition_found.Goals as goal

found_by : (r : Result (Option Place) OutOfMemory) (f g : Option Place) → IfOk r (λ found. found ≡ f) → f ≡ g → IfOk r (λ found. found ≡ g)
found_by (Ok found) f g h is = h ∙ is
found_by (Err e) f g h is = h

pub returns-clause-found : goal.returns-clause-found
returns-clause-found c =
    found_by c.contents_again.result (first_of (variables_again c.add.new.self c.args.index 0 (variables_of c.args.partition.now.contents))) (first_of (partition_again c.args.seen.now c.args.index c.args.partition.now))
    c.contents_again.ensures.found
    (partition_passed c.args.seen.now c.add.new.self c.args.index c.args.partition.now c.as_slice.result.now c.in_ok-add.field-0 _
    c.as_slice.ensures.value c.in_ok-add.ensures.again c.if-branch.false c.in_ok-add.ensures.added refl)

pub returns-clause-added : goal.returns-clause-added
returns-clause-added c = λ none.
    partition_put c.args.seen.now c.add.new.self c.contents_again.new.seen c.args.partition.now c.as_slice.result.now c.as_slice.ensures.value c.in_ok-add.ensures.added (c.contents_again.ensures.added none)
