use Rattle.um_processor.proofs.Lifted.{stepped-ends}
use Rattle.um_processor.proofs.processor.Processor.exit.Goals as goal

pub returns : goal.returns
returns g c =
    let e = c.exit.ensures in
    record {
      turn =
          stepped-ends g.S.Sites c.exit.result c.args.here.now c.args.sites.now c.exit.new.sites _ c.args.self.now c.exit.new.self _ c.requires.clear
          (record { image = e.image; ends = e.ends; same = e.same; runs = e.runs; turn = e.turn });
    }
