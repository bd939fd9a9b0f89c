use Rattle.std.proofs.Common.{ap, length, List, sym, ◌∙◌}
use Rattle.um_machine.specs.declared.pending.Pending.TheVariants as Pending
use Rattle.um_machine.specs.declared.thread.Thread.{Thread}
use Rattle.um_explore.proofs.StepLemmas.{all-tend, both-so, further, ok-so, step-kept}
use Rattle.um_explore.proofs.steps.add_all_tending.Goals as goal

pub returns-clause-goes : goal.returns-clause-goes
returns-clause-goes c =
    let s = c.args.tables.now in
    let one = c.add_cleaning.new.events.items in
    let two = c.add_tending.new.events.items in
    let three = c.add_tending-2.new.events.items in
    let so_far = further s c.args.events.now.items one three c.in_ok-add_cleaning.ensures.goes (further s one two three c.in_ok-add_tending.ensures.goes c.in_ok-add_tending-2.ensures.goes) in
    ok-so _ _ c.add_others.result c.add_others.ensures.goes (λ on. further s c.args.events.now.items three c.add_others.new.events.items so_far on)

pub returns-clause-has : goal.returns-clause-has
returns-clause-has c =
    let s = c.args.tables.now in
    let t = c.args.t in
    let one = c.add_cleaning.new.events.items in
    let two = c.add_tending.new.events.items in
    let three = c.add_tending-2.new.events.items in
    let four = c.add_others.new.events.items in
    let whole = ap (λ (ts : List Thread). length ts) (sym c.threads-threads.ensures.value) ∙ c.threads-threads.ensures.all in
    both-so _ _ _ c.add_others.result c.add_others.ensures.goes c.add_others.ensures.has
    (λ on others.
    let from_two = further s two three four c.in_ok-add_tending-2.ensures.goes on in
    let from_one = further s one two four c.in_ok-add_tending.ensures.goes from_two in
    λ started step tends.
    all-tend s t four whole
    (λ who. step-kept s t one four (Pending.CleanPair who) from_one (c.in_ok-add_cleaning.ensures.pairs who))
    (step-kept s t one four Pending.Recycle from_one c.in_ok-add_cleaning.ensures.recycles)
    (step-kept s t two four Pending.Tick from_two c.in_ok-add_tending.ensures.has)
    (step-kept s t three four Pending.Expire on c.in_ok-add_tending-2.ensures.has)
    others step tends)
