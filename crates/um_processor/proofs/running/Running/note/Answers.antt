use Rattle.std.proofs.Common.{rules, ◌≡◌, Some, ap, ◌∙◌}
use Rattle.std.specs.Box.{with_value}
use Rattle.um_fine.specs.Context.{Context}
use Rattle.um_processor.specs.declared.phase.Phase.{Phase}
use Rattle.um_processor.specs.Processors.{processor_of}
use Rattle.um_processor.proofs.Lifted.{goes-as}
use Rattle.um_processor.proofs.Noted.{note-goes}
use Rattle.um_processor.proofs.running.Running.note.Goals as goal

pub returns : goal.returns
returns g c =
    let h = c.in-Made.ensures.said in
    let r = c.args.self.now in
    let own : c.deref_mut.result.now ≡ r.context.value = search rules in
    let left = c.notes.ensures ∙ ap (λ (x : Context). record x { noted = Some c.in-Made.said.number }) own in
    let noted = note-goes c.args.here.now.image.now c.args.here.now.cpu r h.0 c.thread-thread.result.0 c.in-Made.said c.notes.new.self c.thread-thread.ensures.value h.2 left in
    let phase = ap (λ (k : Phase). processor_of (record r { context = with_value r.context c.notes.new.self; phase = k })) c.noted_phase-self.ensures in
    let goes = goes-as c.args.here.now.cpu c.args.here.now.image.now _ _ _ _ phase noted in
    record { turn = (c.in-Made.ensures.image, tt, (_, h.1, goes)) }
