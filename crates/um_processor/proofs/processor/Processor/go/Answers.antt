use Rattle.std.proofs.Common.{refl, sym, ◌∙◌}
use Rattle.um_processor.specs.declared.phase.Phase.TheVariants as Phase
use Rattle.um_processor.proofs.Lifted.{event-in, stepped-from, stood-in}
use Rattle.um_processor.proofs.processor.Processor.go.Goals as goal

pub returns-in-Access : goal.returns-in-Access
returns-in-Access g c =
    record { turn = stepped-from g.S.Sites c.show.result c.args.here.now c.args.sites.now c.show.new.sites _ _ _ _ (event-in c.args.self.now Phase.Access c.requires.clear refl (sym c.phase.ensures ∙ c.in-Access.is)) c.show.ensures.turn }

pub returns-in-Start : goal.returns-in-Start
returns-in-Start g c =
    record { turn = stepped-from g.S.Sites c.show-in-Start.result c.args.here.now c.args.sites.now c.show-in-Start.new.sites _ _ _ _ (event-in c.args.self.now Phase.Start c.requires.clear refl (sym c.phase.ensures ∙ c.in-Start.is)) c.show-in-Start.ensures.turn }

pub returns-in-Show : goal.returns-in-Show
returns-in-Show g c =
    record { turn = stepped-from g.S.Sites c.show-in-Show.result c.args.here.now c.args.sites.now c.show-in-Show.new.sites _ _ _ _ (event-in c.args.self.now Phase.Show c.requires.clear refl (sym c.phase.ensures ∙ c.in-Show.is)) c.show-in-Show.ensures.turn }

pub returns-in-Exit : goal.returns-in-Exit
returns-in-Exit g c =
    let clear = c.requires.clear in
    let at = stood-in c.args.self.now.running Phase.Exit _ _ _ (sym c.phase.ensures ∙ c.in-Exit.is) clear.cleans clear.ends clear.woken in
    record { turn = stepped-from g.S.Sites c.exit.result c.args.here.now c.args.sites.now c.exit.new.sites _ _ _ _ at c.exit.ensures.turn }

pub returns-in-Drop : goal.returns-in-Drop
returns-in-Drop g c =
    let clear = c.requires.clear in
    let at = stood-in c.args.self.now.running Phase.Drop _ _ _ (sym c.phase.ensures ∙ c.in-Drop.is) clear.cleans clear.ends clear.woken in
    record { turn = stepped-from g.S.Sites c.drop_permission.result c.args.here.now c.args.sites.now c.drop_permission.new.sites _ _ _ _ at c.drop_permission.ensures.turn }

pub returns-in-Act : goal.returns-in-Act
returns-in-Act g c =
    record { turn = stepped-from g.S.Sites c.show-in-Act.result c.args.here.now c.args.sites.now c.show-in-Act.new.sites _ _ _ _ (event-in c.args.self.now Phase.Act c.requires.clear refl (sym c.phase.ensures ∙ c.in-Act.is)) c.show-in-Act.ensures.turn }

pub returns-in-Begin : goal.returns-in-Begin
returns-in-Begin g c =
    let clear = c.requires.clear in
    let at = stood-in c.args.self.now.running Phase.Begin _ _ _ (sym c.phase.ensures ∙ c.in-Begin.is) clear.cleans clear.ends clear.woken in
    record { turn = stepped-from g.S.Sites c.begin.result c.args.here.now c.args.sites.now c.begin.new.sites _ _ _ _ at c.begin.ensures.turn }

pub returns-in-Leave : goal.returns-in-Leave
returns-in-Leave g c =
    let clear = c.requires.clear in
    let at = stood-in c.args.self.now.running Phase.Leave _ _ _ (sym c.phase.ensures ∙ c.in-Leave.is) clear.cleans clear.ends clear.woken in
    record { turn = stepped-from g.S.Sites c.leave.result c.args.here.now c.args.sites.now c.leave.new.sites _ _ _ _ at c.leave.ensures.turn }

pub returns-in-Handle : goal.returns-in-Handle
returns-in-Handle g c =
    let clear = c.requires.clear in
    let at = stood-in c.args.self.now.running Phase.Handle _ _ _ (sym c.phase.ensures ∙ c.in-Handle.is) clear.cleans clear.ends clear.woken in
    record { turn = stepped-from g.S.Sites c.handle.result c.args.here.now c.args.sites.now c.handle.new.sites _ _ _ _ at c.handle.ensures.turn }
