use Rattle.std.proofs.Common.{List, ◌<◌, length, subst}
use Rattle.um_explore.specs.declared.met.Link.{Link}
use Rattle.um_explore.proofs.MetLemmas.{are-add, few-add, grows-add, grows-none, known-add, layered-add, leads-led, leads-on, near-add}
use Rattle.um_explore.proofs.met.Met.take.Goals as goal

pub returns-then-branch-clause-leads : goal.returns-then-branch-clause-leads
returns-then-branch-clause-leads c _ =
    let image = c.args.image.now in
    let links = c.args.self.now.links.items in
    let led = c.requires.led in
    leads-on image links links c.args.parent c.args.event.now led.0 c.args.notes.now c.args.rooms.now.here c.args.rooms.now.there c.requires.are (grows-none image links) c.requires.near led.1 led.2 c.requires.step
    (c.in_ok-knows.ensures.known c.if-branch.true)

pub returns-clause-are : goal.returns-clause-are
returns-clause-are c =
    let image = c.args.image.now in
    let before = c.args.self.now.links.items in
    let led = c.requires.led in
    are-add image before c.add.new.self.links.items c.args.parent c.args.event.now c.args.rooms.now.here c.args.rooms.now.there c.requires.are c.in_ok-add.ensures c.requires.met
    (leads-led image before c.args.parent led.0 c.args.rooms.now.here led.1) c.requires.step

pub returns-clause-layered : goal.returns-clause-layered
returns-clause-layered c = layered-add c.args.self.now.links.items c.add.new.self.links.items c.args.parent c.args.event.now c.in_ok-add.ensures c.requires.layered c.requires.near

pub returns-clause-near : goal.returns-clause-near
returns-clause-near c = near-add c.args.self.now.links.items c.add.new.self.links.items c.args.parent c.args.event.now c.in_ok-add.ensures c.requires.met c.requires.near

pub returns-clause-few : goal.returns-clause-few
returns-clause-few c = few-add c.args.self.now.links.items c.add.new.self.links.items c.args.parent c.args.most c.args.event.now c.in_ok-add.ensures (subst (λ (ls : List Link). length ls < c.args.most) c.as_slice.ensures.value c.if-as_slice-most.false)

pub returns-clause-grows : goal.returns-clause-grows
returns-clause-grows c = grows-add c.args.image.now c.args.self.now.links.items c.add.new.self.links.items c.args.parent c.args.event.now c.in_ok-add.ensures

pub returns-clause-leads : goal.returns-clause-leads
returns-clause-leads c _ =
    let image = c.args.image.now in
    let before = c.args.self.now.links.items in
    let links = c.add.new.self.links.items in
    let parent = c.args.parent in
    let event = c.args.event.now in
    let s = c.args.rooms.now.here in
    let s2 = c.args.rooms.now.there in
    let led = c.requires.led in
    let leads = leads-led image before parent led.0 s led.1 in
    leads-on image before links parent event led.0 c.args.notes.now s s2 (are-add image before links parent event s s2 c.requires.are c.in_ok-add.ensures c.requires.met leads c.requires.step)
    (grows-add image before links parent event c.in_ok-add.ensures) (near-add before links parent event c.in_ok-add.ensures c.requires.met c.requires.near) led.1 led.2 c.requires.step
    (known-add image before links parent event led.0 c.args.notes.now s s2 c.in_ok-add.ensures c.requires.met led.1 led.2 c.requires.step)
