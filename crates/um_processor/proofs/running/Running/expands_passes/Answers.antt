use Rattle.std.proofs.Common.{rules, ◌≡◌, ℕ, ap, ◌∙◌}
use Rattle.um_base.specs.Places.{own_row}
use Rattle.um_fine.specs.Places.{but}
use Rattle.um_processor.specs.Processors.{processor_of}
use Rattle.um_processor.proofs.Expanded.{passes_goes}
use Rattle.um_processor.proofs.running.Running.expands_passes.Goals as goal

pub returns-in-Some : goal.returns-in-Some
returns-in-Some c =
    let image = c.args.image.now in
    let r = c.args.self.now in
    let z = c.readies-in-Some.new.self in
    let thread : c.thread.result ≡ r.context.value.thread = search rules in
    let row = c.but.ensures ∙ ap (λ (own : ℕ). but own 0) c.own_row-own.ensures.value ∙ ap (λ (t : ℕ). but (own_row image t) 0) thread in
    ap processor_of c.visits.ensures
    ∙ passes_goes image r z c.args.who c.in-Some.second c.third_step-third.result c.but.result c.requires.at (search rules) (search rules) (search rules) (search rules) row
