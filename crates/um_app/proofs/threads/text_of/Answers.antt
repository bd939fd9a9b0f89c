use Rattle.std.proofs.Common.{◌≡◌, ◌∙◌, ◌++◌, [], ap}
use Rattle.um_closing.specs.ReadOff.{read_off}
use Rattle.um_cpu.specs.Standing.{standing}
use Rattle.um_trace.specs.Text.{text}
use Rattle.um_app.proofs.threads.text_of.Goals as goal

pub returns : goal.returns
returns c =
    let first : c.in_ok-text.text.items ≡ [] = c.in_ok-text.ensures.items in
    let state : read_off c.new.result.image.now (standing c.new.result.sites.now.closed.now) ≡ read_off c.args.image.now (standing c.args.closed.now) =
    c.new.ensures ∙ ap (λ board. read_off c.args.image.now (standing board)) c.new-board.ensures in
    c.trace_text.ensures.text ∙ (λ i. first i ++ text c.args.image.now c.args.events.now (state i))
