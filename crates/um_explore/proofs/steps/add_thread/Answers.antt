use Rattle.um_machine.specs.declared.pending.Pending.TheVariants as Pending
use Rattle.um_explore.proofs.StepLemmas.{both-so, further, ok-so, step-kept, thread-has}
use Rattle.um_explore.proofs.steps.add_thread.Goals as goal

pub returns-clause-goes : goal.returns-clause-goes
returns-clause-goes c =
    let s = c.args.tables.now in
    let one = c.add_first.new.events.items in
    let two = c.add_second.new.events.items in
    let three = c.add_leaving.new.events.items in
    let so_far = further s c.args.events.now.items one three c.in_ok-add_first.ensures.goes (further s one two three c.in_ok-add_second.ensures.goes c.in_ok-add_leaving.ensures.goes) in
    ok-so _ _ c.add_all_tending.result c.add_all_tending.ensures.goes (λ on. further s c.args.events.now.items three c.add_all_tending.new.events.items so_far on)

pub returns-clause-has : goal.returns-clause-has
returns-clause-has c =
    let s = c.args.tables.now in
    let t = c.args.t in
    let one = c.add_first.new.events.items in
    let two = c.add_second.new.events.items in
    let three = c.add_leaving.new.events.items in
    let four = c.add_all_tending.new.events.items in
    both-so _ _ _ c.add_all_tending.result c.add_all_tending.ensures.goes c.add_all_tending.ensures.has
    (λ on tends.
    let from_two = further s two three four c.in_ok-add_leaving.ensures.goes on in
    let from_one = further s one two four c.in_ok-add_second.ensures.goes from_two in
    thread-has s t four
    (λ p e. step-kept s t one four p from_one (c.in_ok-add_first.ensures.has p e))
    (λ p e. step-kept s t two four p from_two (c.in_ok-add_second.ensures.has p e))
    (λ ending. step-kept s t three four Pending.Left on (c.in_ok-add_leaving.ensures.has ending))
    tends)
