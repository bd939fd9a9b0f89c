use Rattle.std.proofs.Common.{◌≡◌, ◌<◌, ◌≤◌, ◌∙◌, ◌+◌, ◌++◌, ◌∷◌, [], Bool, List, ap, append-nil, append_assoc, arith, drop, length, not, slice_get, sym, take, ℕ}
use Rattle.std.proofs.lemmas.List.{drop_all, drop_more, length-set, take_all, take_more_set}
use Rattle.um_base.specs.Places.{own_row}
use Rattle.um_base.specs.declared.image.Image.{Image}
use Rattle.um_base.specs.declared.limits.TheConstants.{THREADS}
use Rattle.um_machine.specs.declared.object.Object.{Object}
use Rattle.um_machine.specs.declared.thread.Thread.{Thread}
use Rattle.um_machine.specs.State.{nobody, object_at}
use Rattle.um_fine.specs.Opening.{indexed, is_shut_at}
use Rattle.um_opening.specs.Opened.{object_of}
use Rattle.um_opening.proofs.Lists.{object-is}
use Rattle.um_opening.proofs.cells.shut.Goals as goal

pub loop-t-preserved : goal.loop-t-preserved
loop-t-preserved c =
    let s = c.args.state.now in
    let t = c.loop-t.t in
    let b = not c.is_init.result in
    let image = c.image-image.result.now in
    let f = is_shut_at s in
    let long : length s.threads ≡ THREADS = ap (λ (ts : List Thread). length ts) (sym c.threads-threads.ensures.value) ∙ c.threads-threads.ensures.all in
    let here : t < length s.threads = omega (arith, c.loop-t-test.true, long, c.threads-threads.ensures.all) in
    let inside : t < length c.loop-t.shut = omega (arith, here, long, c.loop-t.invariant.long) in
    let is : b ≡ not (object_at s (own_row s.image t)).init =
    ap not (c.is_init.ensures
    ∙ ap (λ (x : ℕ). (object_of image.boots x (slice_get image.objects x)).init) c.own_row.ensures.value
    ∙ ap (λ (i : Image). (object_of i.boots (own_row i t) (slice_get i.objects (own_row i t))).init) c.image-image.ensures.value
    ∙ ap (λ (o : Object). o.init) (sym (object-is s (own_row s.image t) c.image-image.ensures.objects))) in
    record {
      so_far =
          ap (λ (front : List Bool). front ++ indexed f (t + 1) (drop (t + 1) s.threads)) (take_more_set c.loop-t.shut t b inside)
          ∙ append_assoc (take t c.loop-t.shut) (b ∷ []) (indexed f (t + 1) (drop (t + 1) s.threads))
          ∙ ap (λ (one : Bool). take t c.loop-t.shut ++ one ∷ indexed f (t + 1) (drop (t + 1) s.threads)) is
          ∙ ap (λ (ts : List Thread). take t c.loop-t.shut ++ indexed f t ts) (sym (drop_more s.threads t nobody here))
          ∙ c.loop-t.invariant.so_far;
      long = length-set c.loop-t.shut t b ∙ c.loop-t.invariant.long;
    }

pub returns : goal.returns
returns c =
    let s = c.args.state.now in
    let t = c.loop-t.t in
    let long : length s.threads ≡ THREADS = ap (λ (ts : List Thread). length ts) (sym c.threads-threads.ensures.value) ∙ c.threads-threads.ensures.all in
    let past : length s.threads ≤ t = omega (arith, c.loop-t-test.false, long, c.threads-threads.ensures.all) in
    let whole : length c.loop-t.shut ≤ t = omega (arith, past, long, c.loop-t.invariant.long) in
    sym (take_all t c.loop-t.shut whole) ∙ sym (append-nil (take t c.loop-t.shut))
    ∙ ap (λ (ts : List Thread). take t c.loop-t.shut ++ indexed (is_shut_at s) t ts) (sym (drop_all t s.threads past)) ∙ c.loop-t.invariant.so_far
