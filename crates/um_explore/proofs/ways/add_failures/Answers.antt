use Rattle.std.proofs.Common.{◌∙◌, ◌++◌, ap, arith, List, None, Some, sym, ℕ, Vec, Global, vec_capacity}
use Rattle.std.proofs.lemmas.List.{append-nil}
use Rattle.um_explore.proofs.ways.add_failures.Goals as goal
use Rattle.um_explore.proofs.ways.add_failures.Goals.{in-Some+in_ok-extend_from_slice-in-Some, in-None}
use Rattle.um_explore.proofs.EndLemmas.{failures-next}

pub loop-t-preserved : goal.loop-t-preserved
loop-t-preserved c =
    let image = c.args.image.now in
    let so_far = c.loop-t.invariant in
    let room = so_far.room in
    let more = so_far.more in
    let before = c.loop-t.text.items in
    elim c.match-note.branch [
      | in-Some+in_ok-extend_from_slice-in-Some w ↦
          (let same = ap (λ (v : Vec ℕ Global). vec_capacity v) w.room-is in
          let wider = w.line_text.ensures.capacity in
          record {
            room = omega (arith, room, same, wider);
            more = omega (arith, more, same, wider);
            text = failures-next image c.args.text.now.items before c.match-note.text.items c.args.notes.now c.loop-t.t (Some w.in-Some.failure) c.loop-t-test.true w.in-Some.is so_far.text
                (ap (λ (v : Vec ℕ Global). v.items) w.text-is ∙ w.in_ok-extend_from_slice-in-Some.ensures.items ∙ ap (λ (bytes : List ℕ). before ++ bytes) (w.as_slice.ensures.value ∙ w.line_text.ensures.text));
          })
      | in-None w ↦
          (let same = ap (λ (v : Vec ℕ Global). vec_capacity v) w.room-is in
          record {
            room = omega (arith, room, same);
            more = omega (arith, more, same);
            text = failures-next image c.args.text.now.items before c.match-note.text.items c.args.notes.now c.loop-t.t None c.loop-t-test.true w.in-None.is so_far.text
                (ap (λ (v : Vec ℕ Global). v.items) w.text-is ∙ sym (append-nil before));
          })
    ]
