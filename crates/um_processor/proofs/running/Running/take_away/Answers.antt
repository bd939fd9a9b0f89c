use Rattle.std.proofs.Common.{refl, ap}
use Rattle.um_words.specs.declared.row_act.RowSaid.{RowSaid}
use Rattle.um_processor.proofs.Runs.{runs-behind}
use Rattle.um_processor.proofs.Shown.{taken-goes}
use Rattle.um_processor.proofs.running.Running.take_away.Goals as goal

pub returns : goal.returns
returns g c =
    let h = c.in-Made.ensures.said in
    let image = c.args.here.now.image.now in
    let r = c.args.self.now in
    let goes = taken-goes image c.args.here.now.cpu r r.phase c.args.who c.args.addr h.0 _ _ _ _ c.thread-thread.ensures.value c.row_named.ensures.value (ap (λ (s : RowSaid). s.cleans) h.2) c.goes_on.ensures in
    record { cleans = record { image = c.in-Made.ensures.image; cleans = tt; same = tt; runs = runs-behind image r.phase _ r _ c.goes_on.ensures; turn = (_, h.1, goes) } }

pub returns-in-Busy : goal.returns-in-Busy
returns-in-Busy g c =
    let h = c.in-Busy.ensures.said in
    let r = c.args.self.now in
    let goes = taken-goes c.args.here.now.image.now c.args.here.now.cpu r r.phase c.args.who c.args.addr h.0 _ _ _ _ c.thread-thread.ensures.value c.row_named.ensures.value refl refl in
    record { cleans = record { image = c.in-Busy.ensures.image; cleans = refl; same = refl; runs = tt; turn = (_, (h.1, h.2), goes.asks) } }
