use Rattle.std.proofs.Common.{◌∙◌, ap, arith}
use Rattle.um_steps.specs.Given.{IsGiven}
use Rattle.um_core.specs.Cores.{Core}
use Rattle.um_core.proofs.AloneRuns.{alone-goes, alone-is, alone-opens, alone-over, alone-room, alone-short}
use Rattle.um_core.proofs.running.alone.Goals as goal

pub steps-init : goal.steps-init
steps-init c = record { so_far = alone-opens c.args.image.now c.args.core c.requires.stands; rodata = c.requires.rodata; room = c.requires.room }

pub step-requires-clause-given : goal.step-requires-clause-given
unfolding IsGiven
step-requires-clause-given c = c.requires.described.lawful

pub step-requires-clause-cpu : goal.step-requires-clause-cpu
step-requires-clause-cpu c = let count = c.steps.invariant.so_far.stands.count in omega (arith, count)

pub overflow_add-count : goal.overflow_add-count
overflow_add-count c =
    let image = c.args.image.now in
    let so = c.steps.invariant.so_far in
    let is = alone-is image c.requires.described c.requires.can c.longest_fine_run.ensures c.steps.count c.steps.core so c.steps.invariant.room in
    let more = alone-short image c.requires.described c.requires.can c.longest_fine_run.ensures c.steps.count c.steps.core so c.steps.invariant.room c.step.new.self
    (c.step.ensures.goes 1 so.done is (omega arith) c.steps-test.true) in
    let light = c.requires.described.lawful.light in
    omega (arith, more, light)

pub steps-smaller : goal.steps-smaller
steps-smaller c =
    let image = c.args.image.now in
    let so = c.steps.invariant.so_far in
    let is = alone-is image c.requires.described c.requires.can c.longest_fine_run.ensures c.steps.count c.steps.core so c.steps.invariant.room in
    let more = alone-short image c.requires.described c.requires.can c.longest_fine_run.ensures c.steps.count c.steps.core so c.steps.invariant.room c.step.new.self
    (c.step.ensures.goes 1 so.done is (omega arith) c.steps-test.true) in
    omega (arith, more)

pub steps-preserved : goal.steps-preserved
steps-preserved c =
    let image = c.args.image.now in
    let so = c.steps.invariant.so_far in
    let is = alone-is image c.requires.described c.requires.can c.longest_fine_run.ensures c.steps.count c.steps.core so c.steps.invariant.room in
    let most = alone-room image c.requires.described c.requires.can c.longest_fine_run.ensures c.steps.count c.steps.core so c.steps.invariant.room c.step.new.self (c.step.ensures.steps c.steps-test.true) in
    record {
      so_far = alone-goes image c.requires.described c.requires.can c.longest_fine_run.ensures c.steps.count c.steps.core so c.steps.invariant.room c.step.new.self
          (c.step.ensures.goes 1 so.done is (omega arith) c.steps-test.true);
      rodata = c.step.ensures.rodata;
      room = let room = c.steps.invariant.room in omega (arith, most, room);
    }

pub returns : goal.returns
returns c =
    let image = c.args.image.now in
    let so = c.steps.invariant.so_far in
    let is = alone-is image c.requires.described c.requires.can c.longest_fine_run.ensures c.steps.count c.steps.core so c.steps.invariant.room in
    λ pick. alone-over image c.requires.described c.requires.can c.longest_fine_run.ensures c.steps.count c.steps.core so c.steps.invariant.room
    (c.step.ensures.none 1 so.done is (omega arith) c.steps-test.false) _ (c.into_sites.ensures ∙ ap (λ (core : Core). core.sites) (c.step.ensures.same c.steps-test.false)) pick
