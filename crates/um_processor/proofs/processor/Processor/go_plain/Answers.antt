use Rattle.um_processor.proofs.Lifted.{bare, stepped-bare, stepped-from}
use Rattle.um_processor.proofs.processor.Processor.go_plain.Goals as goal

pub returns : goal.returns
returns g c =
    let clear = c.requires.clear in
    let bared = stepped-bare g.S.Sites c.go.result c.args.here.now c.args.sites.now c.go.new.sites _ c.args.self.now c.go.new.self clear c.go.ensures.turn in
    record { turn = stepped-from g.S.Sites c.go.result c.args.here.now c.args.sites.now c.go.new.sites _ _ _ _ (bare _ _ _ _ clear.cleans clear.ends clear.woken) bared }
