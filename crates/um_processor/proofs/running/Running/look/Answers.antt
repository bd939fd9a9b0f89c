use Rattle.std.proofs.Common.{sym, ap, ◌∙◌}
use Rattle.um_processor.specs.Processors.{processor_of}
use Rattle.um_processor.proofs.Looked.{after_look, look-goes}
use Rattle.um_processor.proofs.running.Running.look.Goals as goal

pub returns-else-found : goal.returns-else-found
returns-else-found g c =
    let h = c.in-Made.ensures.said in
    let image = c.args.here.now.image.now in
    let r = c.args.self.now in
    let left = c.ends_errand.ensures ∙ ap (after_look image c.args.here.now.cpu r) (sym c.if-found.false) in
    let goes =
    look-goes image c.args.here.now.cpu r c.in-Some.cell h.0 h.1 c.thread-thread.result.0 c.in-Some.ensures.site c.thread-thread.ensures.value _ h.3 (processor_of c.ends_errand.new.self) left in
    record { turn = (c.in-Made.ensures.image, tt, (_, h.2, goes)) }
