use Rattle.std.proofs.Common.{◌≡◌, ◌<◌, ◌≤◌, ◌+◌, Global, List, Vec, ap, arith, length, subst, sym, vec_capacity, ℕ}
use Rattle.um_question.specs.Asked.{is_met}
use Rattle.um_question.specs.declared.question.Question.{Question}
use Rattle.um_explore.specs.Ends.{AreWays}
use Rattle.um_explore.specs.Met.{AreDone, Leads}
use Rattle.um_explore.specs.declared.met.Link.{Link}
use Rattle.um_explore.specs.declared.ways.Way.{Way}
use Rattle.um_explore.specs.declared.ways.Ways.{Ways}
use Rattle.um_explore.proofs.MetLemmas.{near-next}
use Rattle.um_explore.proofs.SearchLemmas.{alone-are, alone-layered, alone-near, done-last, done-more}
use Rattle.um_explore.proofs.StepLemmas.{none-below}
use Rattle.um_explore.proofs.EndLemmas.{ways-kept, ways-none, ways-unfinished}
use Rattle.um_explore.proofs.ending.find_ways.Goals as goal
use Rattle.um_explore.proofs.ending.find_ways.Goals.{in-Done, in-Last+in_ok-add-in-Last}

pub loop-k-init : goal.loop-k-init
loop-k-init c =
    let image = c.args.asked.now.image.now in
    let links = c.args.met.now.links.items in
    let none = ap (λ (ls : List Link). length ls) c.requires.opening in
    record {
      line = c.requires.line;
      room = c.requires.room;
      more = omega arith;
      are = alone-are image links c.requires.described c.requires.opening;
      rooms = c.requires.rooms;
      layered = alone-layered links c.requires.opening;
      near = alone-near links c.requires.opening;
      few = omega (arith, none);
      within = omega arith;
      done = λ k events s less led. absurd (none-below k less);
      known = ways-none image links c.args.ways.now.ways.items c.requires.none;
    }

pub loop-k-preserved : goal.loop-k-preserved
loop-k-preserved c =
    let image = c.args.asked.now.image.now in
    let asked = is_met image c.args.asked.now.question.now in
    let is = c.requires.described in
    let k = c.loop-k.k in
    let before = c.loop-k.met.links.items in
    let links = c.expand.new.met.links.items in
    let here = c.expand.new.rooms.here in
    let ways = c.loop-k.ways.ways.items in
    let went = c.in_ok-expand.ensures in
    let so_far = c.loop-k.invariant in
    let line = so_far.line in
    let room = so_far.room in
    let more = so_far.more in
    let wider = went.capacity in
    let within = subst (λ (ls : List Link). k ≤ length ls) c.as_slice.ensures.value c.loop-k-test.true in
    let longer = went.grows.more in
    let near = near-next image links k went.are (omega (arith, within, longer)) went.layered went.near in
    let kept = ways-kept image before links k ways so_far.are went.grows (omega (arith, within)) so_far.known in
    elim c.match-branch-2.branch [
      | in-Done w ↦
          (let on = rw w.in-Done.is at went.expands in
          let same = ap (λ (v : Vec ℕ Global). vec_capacity v) w.room-is in
          let found = ap (λ (s : Ways). s.ways.items) w.ways-is in
          record {
            line = omega (arith, line, wider, same);
            room = omega (arith, room, wider, same);
            more = omega (arith, more, wider, same);
            are = went.are;
            rooms = went.rooms;
            layered = went.layered;
            near = near;
            few = went.few;
            within = omega (arith, within, longer);
            done = done-more image asked before links k so_far.are went.grows within so_far.done on.2;
            known = subst (λ (ws : List Way). AreWays image links (k + 1) ws) (sym found) (ways-unfinished image links k ways here is on.0 on.1 kept);
          })
      | in-Last+in_ok-add-in-Last w ↦
          (let on = rw w.in-Last.is at went.expands in
          let same = ap (λ (v : Vec ℕ Global). vec_capacity v) w.room-is in
          let much = w.in_ok-add-in-Last.ensures.capacity in
          let found = ap (λ (s : Ways). s.ways.items) w.ways-is in
          record {
            line = omega (arith, line, wider, much, same);
            room = omega (arith, room, wider, much, same);
            more = omega (arith, more, wider, much, same);
            are = went.are;
            rooms = went.rooms;
            layered = went.layered;
            near = near;
            few = went.few;
            within = omega (arith, within, longer);
            done = done-more image asked before links k so_far.are went.grows within so_far.done (done-last image asked links k here is on.0 on.1);
            known = subst (λ (ws : List Way). AreWays image links (k + 1) ws) (sym found) (subst (λ (ls : List Link). AreWays image ls (k + 1) w.add.new.self.ways.items) w.as_slice-in-Last.ensures.value w.in_ok-add-in-Last.ensures.ways);
          })
    ]

pub returns-clause-all : goal.returns-clause-all
returns-clause-all c =
    let image = c.args.asked.now.image.now in
    let links = c.loop-k.met.links.items in
    let so_far = c.loop-k.invariant in
    record {
      n = c.loop-k.k;
      past = subst (λ (ls : List Link). length ls < c.loop-k.k) c.as_slice.ensures.value c.loop-k-test.false;
      done = subst (λ (q : Question). AreDone image (is_met image q) links c.loop-k.k) c.requires.nothing so_far.done;
      known = so_far.known;
      layered = so_far.layered;
    }

pub add-requires-clause-ways : goal.add-requires-clause-ways
add-requires-clause-ways c =
    let image = c.args.asked.now.image.now in
    let k = c.loop-k.k in
    let before = c.loop-k.met.links.items in
    let links = c.expand.new.met.links.items in
    let ways = c.loop-k.ways.ways.items in
    let so_far = c.loop-k.invariant in
    let within = subst (λ (ls : List Link). k ≤ length ls) c.as_slice.ensures.value c.loop-k-test.true in
    subst (λ (ls : List Link). AreWays image ls k ways) (sym c.as_slice-in-Last.ensures.value) (ways-kept image before links k ways so_far.are c.in_ok-expand.ensures.grows (omega (arith, within)) so_far.known)
