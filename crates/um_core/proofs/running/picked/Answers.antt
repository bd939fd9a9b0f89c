use Rattle.std.proofs.Common.{◌∙◌, ap, arith}
use Rattle.um_steps.specs.Given.{IsGiven}
use Rattle.um_tables.specs.Sited.{Sited, state_at}
use Rattle.um_core.specs.Cores.{Core}
use Rattle.um_core.proofs.CoreRuns.{new-most, so-goes, so-opens, so-over, so-short}
use Rattle.um_core.proofs.running.picked.Goals as goal

pub turns-init : goal.turns-init
turns-init c =
    let opened = c.in_ok-core.ensures in
    record {
      so_far = so-opens c.args.image.now c.args.cpus c.args.pick c.in_ok-core.core c.new-order.result (c.new-order.ensures c.args.cpus) opened.sites opened.sized opened.log opened.processors;
      rodata = opened.rodata;
      room = omega (arith, opened.room, c.requires.room);
    }

pub next-requires-in-turns-clause-given : goal.next-requires-in-turns-clause-given
unfolding IsGiven
next-requires-in-turns-clause-given c = c.requires.described.lawful

pub next-requires-in-turns-clause-few : goal.next-requires-in-turns-clause-few
next-requires-in-turns-clause-few c =
    let count = c.turns.invariant.so_far.stands.count in
    let few = c.requires.can.few in
    omega (arith, count, few)

pub overflow_add-count : goal.overflow_add-count
overflow_add-count c =
    let more = so-short c.args.image.now c.args.cpus c.requires.described c.requires.can c.longest_fine_run.ensures c.args.pick c.turns.count c.turns.core c.turns.order c.turns.invariant.so_far c.turns.invariant.room
    c.next.result c.next-in-turns.new.self (c.next-in-turns.ensures.steps c.turns-test.true) in
    omega (arith, more, c.requires.room)

pub turns-smaller : goal.turns-smaller
turns-smaller c =
    let more = so-short c.args.image.now c.args.cpus c.requires.described c.requires.can c.longest_fine_run.ensures c.args.pick c.turns.count c.turns.core c.turns.order c.turns.invariant.so_far c.turns.invariant.room
    c.next.result c.next-in-turns.new.self (c.next-in-turns.ensures.steps c.turns-test.true) in
    omega (arith, more)

pub turns-preserved : goal.turns-preserved
turns-preserved c =
    let steps = c.next-in-turns.ensures.steps c.turns-test.true in
    let most = new-most c.args.image.now c.args.cpus c.requires.described c.requires.can c.longest_fine_run.ensures c.args.pick c.turns.count c.turns.core c.turns.order c.turns.invariant.so_far c.turns.invariant.room
    c.next.result c.next-in-turns.new.self steps in
    record {
      so_far = so-goes c.args.image.now c.args.cpus c.requires.described c.requires.can c.longest_fine_run.ensures c.args.pick c.turns.count c.turns.core c.turns.order c.turns.invariant.so_far c.turns.invariant.room
          c.next.result c.next-in-turns.new.self steps c.next.new.self c.next.ensures.first;
      rodata = c.next-in-turns.ensures.rodata;
      room = let room = c.turns.invariant.room in omega (arith, most, room);
    }

pub returns : goal.returns
returns c =
    let so = c.turns.invariant.so_far in
    let over = so-over c.args.image.now c.args.cpus c.requires.described c.requires.can c.longest_fine_run.ensures c.args.pick c.turns.count c.turns.core c.turns.order so c.turns.invariant.room
    c.next.result c.next.ensures.within (c.next-in-turns.ensures.halts c.turns-test.false) in
    let same = c.into_sites.ensures ∙ ap (λ (core : Core). core.sites) (c.next-in-turns.ensures.same c.turns-test.false) in
    record {
      steps = so.done;
      picked = over.0;
      shows = ap (λ (sites : Sited). sites.log) same ∙ over.1;
      at = λ i there. ap (λ (sites : Sited). state_at sites i) same ∙ so.stands.at i there;
    }
