use Rattle.std.proofs.Common.{List, ap, arith, length, ◌<◌, ◌≤◌, subst}
use Rattle.um_machine.specs.State.{State}
use Rattle.um_question.specs.Asked.{is_met}
use Rattle.um_explore.specs.declared.met.Link.{Link}
use Rattle.um_explore.proofs.MetLemmas.{near-next}
use Rattle.um_explore.proofs.SearchLemmas.{alone-are, alone-layered, alone-near, done-kept, done-last, done-more}
use Rattle.um_explore.proofs.StepLemmas.{none-below}
use Rattle.um_explore.proofs.search.search.Goals as goal

pub loop-k-init : goal.loop-k-init
loop-k-init c =
    let image = c.args.asked.now.image.now in
    let links = c.args.met.now.links.items in
    let none = ap (λ (ls : List Link). length ls) c.requires.opening in
    record {
      room = c.requires.room;
      are = alone-are image links c.requires.described c.requires.opening;
      rooms = c.requires.rooms;
      layered = alone-layered links c.requires.opening;
      near = alone-near links c.requires.opening;
      few = omega (arith, none);
      within = omega arith;
      done = λ k events s less led. absurd (none-below k less);
    }

pub loop-k-preserved-in-Done : goal.loop-k-preserved-in-Done
loop-k-preserved-in-Done c =
    let image = c.args.asked.now.image.now in
    let test = is_met image c.args.asked.now.question.now in
    let k = c.loop-k.k in
    let before = c.loop-k.met.links.items in
    let links = c.expand.new.met.links.items in
    let went = c.in_ok-expand.ensures in
    let so_far = c.loop-k.invariant in
    let within = subst (λ (ls : List Link). k ≤ length ls) c.as_slice.ensures.value c.loop-k-test.true in
    let longer = went.grows.more in
    let room = so_far.room in
    let wider = went.capacity in
    let expands = rw c.in-Done.is at went.expands in
    record {
      room = omega (arith, room, wider);
      are = went.are;
      rooms = went.rooms;
      layered = went.layered;
      near = near-next image links k went.are (omega (arith, within, longer)) went.layered went.near;
      few = went.few;
      within = omega (arith, within, longer);
      done = done-more image test before links k so_far.are went.grows within so_far.done expands.2;
    }

pub loop-k-preserved : goal.loop-k-preserved
loop-k-preserved c =
    let image = c.args.asked.now.image.now in
    let test = is_met image c.args.asked.now.question.now in
    let k = c.loop-k.k in
    let before = c.loop-k.met.links.items in
    let links = c.expand.new.met.links.items in
    let went = c.in_ok-expand.ensures in
    let so_far = c.loop-k.invariant in
    let within = subst (λ (ls : List Link). k ≤ length ls) c.as_slice.ensures.value c.loop-k-test.true in
    let longer = went.grows.more in
    let room = so_far.room in
    let wider = went.capacity in
    let expands = rw c.in-Last.is at went.expands in
    record {
      room = omega (arith, room, wider);
      are = went.are;
      rooms = went.rooms;
      layered = went.layered;
      near = near-next image links k went.are (omega (arith, within, longer)) went.layered went.near;
      few = went.few;
      within = omega (arith, within, longer);
      done = done-more image test before links k so_far.are went.grows within so_far.done (done-last image test links k c.expand.new.rooms.here so_far.are.described expands.0 expands.1);
    }

pub returns-in-Hit-clause-ends : goal.returns-in-Hit-clause-ends
returns-in-Hit-clause-ends c =
    let image = c.args.asked.now.image.now in
    let test = is_met image c.args.asked.now.question.now in
    let k = c.loop-k.k in
    let before = c.loop-k.met.links.items in
    let links = c.expand.new.met.links.items in
    let went = c.in_ok-expand.ensures in
    let within = subst (λ (ls : List Link). k ≤ length ls) c.as_slice.ensures.value c.loop-k-test.true in
    let longer = went.grows.more in
    let hit = rw c.in-Hit.is at went.expands in
    (omega (arith, within, longer), hit, done-kept image test before links k c.loop-k.invariant.are went.grows (omega (arith, within)) c.loop-k.invariant.done)
