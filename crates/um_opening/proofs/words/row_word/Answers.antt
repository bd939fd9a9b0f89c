use Rattle.std.proofs.Common.{◌≡◌, ◌∙◌, Bool, false, List, [], ap, slice_get, slice_index_or, sym}
use Rattle.um_base.specs.declared.image.Image.{Image}
use Rattle.um_machine.specs.declared.object.Object.{Object}
use Rattle.um_machine.specs.declared.thread.Thread.{Thread}
use Rattle.um_machine.specs.Objects.{thread_holds}
use Rattle.um_machine.specs.State.{object_at}
use Rattle.um_fine.specs.Opening.{count, indexed, stage_of}
use Rattle.um_fine.specs.Sites.{SiteState}
use Rattle.um_opening.specs.Opened.{object_of}
use Rattle.um_opening.proofs.Lists.{object-is}
use Rattle.um_opening.proofs.words.row_word.Goals as goal

pub returns : goal.returns
returns c =
    let s = c.args.state.now in
    let x = c.args.x in
    let image = c.image-image.result.now in
    let here : object_of image.boots x (slice_get image.objects x) ≡ object_at s x =
    ap (λ (i : Image). object_of i.boots x (slice_get i.objects x)) c.image-image.ensures.value ∙ sym (object-is s x c.image-image.ensures.objects) in
    let permissions = c.permissions.ensures ∙ ap (λ (pairs : List (List Bool)). slice_index_or pairs x []) c.pairs.ensures.value in
    let init = c.is_init.ensures ∙ ap (λ (o : Object). o.init) here in
    let public = c.is_public.ensures ∙ ap (λ (o : Object). o.public) here in
    let stage = c.stage_of.ensures ∙ ap stage_of here in
    let claims = c.claims.ensures ∙ ap (λ (i : Image). count (indexed (thread_holds i x) 0 c.threads.result.now)) c.image-image.ensures.value
    ∙ ap (λ (threads : List Thread). count (indexed (thread_holds s.image x) 0 threads)) c.threads.ensures.value in
    λ j. SiteState.row (record { permissions = permissions j; init = init j; public = public j; dynamic = false; stage = stage j; claims = claims j; number = 0 })
