use Rattle.std.proofs.Common.{◌≡◌, arith}
use Rattle.std.proofs.lemmas.Result.{on_ok_weaker}
use Rattle.um_base.specs.declared.image.Setup.{Setup}
use Rattle.um_base.specs.declared.names.Kind.{Kind}
use Rattle.um_canonical.specs.Entries.{details_by}
use Rattle.um_canonical.specs.Objects.{kind_of_details}
use Rattle.um_canonical.proofs.EntryTexts.{object_is}
use Rattle.um_canonical.proofs.objects.put_object.Goals as goal

kind_is : (kind : Kind) (setup : Setup) → kind_of_details (details_by kind setup) ≡ kind
kind_is kind setup = grind arith

pub returns : goal.returns
returns c =
    let o = c.args.object.now in
    let name = rw c.as_slice.ensures.value at c.in_ok-put_text.ensures in
    let kind = rw c.kind_word.ensures.value at c.in_ok-put_text-2.ensures in
    on_ok_weaker c.put_details.result (object_is _ _ _ _ _ _ o (kind_is o.kind o.setup) c.in_ok-put_header.ensures name kind c.in_ok-put_truth.ensures) c.put_details.ensures
