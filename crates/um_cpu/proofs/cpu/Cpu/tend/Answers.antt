use Rattle.std.proofs.Common.{◌≡◌, ◌<◌, ◌≤◌, refl, subst, arith}
use Rattle.std.proofs.lemmas.Bool.{false≢true}
use Rattle.um_words.specs.Packed.{cell_of}
use Rattle.um_words.specs.declared.cell_word.CellWord.{CellWord}
use Rattle.um_processor.specs.Standing.{whole}
use Rattle.um_cpu.specs.Cpus.{HasTended}
use Rattle.um_cpu.proofs.Advances.{stands-next, stands-on}
use Rattle.um_cpu.proofs.Runs.{runs-known}
use Rattle.um_cpu.proofs.WholeTurns.{behind, gave-asked, gave-goes, gave-keeps, is-same, looked, stands-running, stands-waiting, ticked-asked, ticked-goes, ticked-keeps, waits-looked, waits-same}
use Rattle.um_cpu.proofs.cpu.Cpu.tend.Goals as goal

pub give-requires-clause-goes : goal.give-requires-clause-goes
give-requires-clause-goes c =
    let self = c.args.self.now in
    stands-next c.args.image.now self.number (whole self.processor) self.place.seat self.place.log.items c.requires.can.stands

pub returns-in-Made : goal.returns-in-Made
returns-in-Made c =
    let image = c.args.image.now in
    let self = c.args.self.now in
    let can = c.requires.can in
    let runs = runs-known image c.requires.can.described c.requires.can.can c.longest_fine_run.ensures c.every_fine_run.ensures.run c.every_fine_run.ensures.waits c.every_deadline.ensures in
    let keeps = gave-keeps image runs self can.place can.stands c.requires.empty c.args.word c.requires.saw c.requires.none c.give.new.sites (whole c.give.new.self) c.give.result c.give.ensures.same c.give.ensures.turn in
    let goes = gave-goes image runs self can.place can.stands c.requires.empty c.args.word c.requires.saw c.requires.none c.give.new.sites (whole c.give.new.self) c.give.result c.give.ensures.same c.give.ensures.turn in
    record {
      number = refl;
      place = c.give.ensures.image;
      keeps = keeps;
      goes = goes;
      tended = λ e. HasTended.gave (gave-asked image runs self can.place can.stands c.requires.empty c.args.word c.requires.saw c.requires.none c.give.new.sites (whole c.give.new.self) c.give.result c.give.ensures.same c.give.ensures.turn);
      waited = λ e. absurd (false≢true e);
      stands = stands-on image self.number (whole self.processor) (whole c.give.new.self) self.place.seat self.place.log.items c.give.new.sites.seat c.give.new.sites.log.items can.stands keeps goes;
    }

pub returns-then-read-gt0-clause-goes : goal.returns-then-read-gt0-clause-goes
returns-then-read-gt0-clause-goes c =
    let image = c.args.image.now in
    let self = c.args.self.now in
    let can = c.requires.can in
    let runs = runs-known image c.requires.can.described c.requires.can.can c.longest_fine_run.ensures c.every_fine_run.ensures.run c.every_fine_run.ensures.waits c.every_deadline.ensures in
    gave-goes image runs self can.place can.stands c.requires.empty c.args.word c.requires.saw c.requires.none c.give.new.sites (whole c.give.new.self) c.give.result c.give.ensures.same c.give.ensures.turn

pub returns-then-read-gt0-clause-waited : goal.returns-then-read-gt0-clause-waited
returns-then-read-gt0-clause-waited c =
    let image = c.args.image.now in
    let self = c.args.self.now in
    let can = c.requires.can in
    let runs = runs-known image c.requires.can.described c.requires.can.can c.longest_fine_run.ensures c.every_fine_run.ensures.run c.every_fine_run.ensures.waits c.every_deadline.ensures in
    let some = subst (λ (w : CellWord). 0 < w.running) c.read.ensures.value c.if-read-gt0.true in
    λ e. (is-same image runs self can.place can.stands c.requires.empty c.args.word c.requires.saw c.requires.none c.give.new.sites (whole c.give.new.self) c.give.result c.in-Busy.is c.give.ensures.same c.give.ensures.turn, looked image runs self can.place can.stands c.requires.empty c.args.word c.requires.saw c.requires.none c.give.new.sites (whole c.give.new.self) c.give.result c.in-Busy.is c.give.ensures.same c.give.ensures.turn, stands-running image runs self can.place can.stands c.requires.empty c.args.word c.requires.saw c.requires.none c.give.new.sites (whole c.give.new.self) c.give.result c.in-Busy.is c.give.ensures.same c.give.ensures.turn some)

pub returns-then-read-gt0-clause-stands : goal.returns-then-read-gt0-clause-stands
returns-then-read-gt0-clause-stands c =
    let image = c.args.image.now in
    let self = c.args.self.now in
    let can = c.requires.can in
    let runs = runs-known image c.requires.can.described c.requires.can.can c.longest_fine_run.ensures c.every_fine_run.ensures.run c.every_fine_run.ensures.waits c.every_deadline.ensures in
    behind image runs self can.place can.stands c.requires.empty c.args.word c.requires.saw c.requires.none c.give.new.sites (whole c.give.new.self) c.give.result c.in-Busy.is c.give.ensures.same c.give.ensures.turn

pub tick-requires-clause-goes : goal.tick-requires-clause-goes
tick-requires-clause-goes c =
    let image = c.args.image.now in
    let self = c.args.self.now in
    let can = c.requires.can in
    let runs = runs-known image c.requires.can.described c.requires.can.can c.longest_fine_run.ensures c.every_fine_run.ensures.run c.every_fine_run.ensures.waits c.every_deadline.ensures in
    stands-next image self.number (whole c.give.new.self) c.give.new.sites.seat c.give.new.sites.log.items
    (behind image runs self can.place can.stands c.requires.empty c.args.word c.requires.saw c.requires.none c.give.new.sites (whole c.give.new.self) c.give.result c.in-Busy.is c.give.ensures.same c.give.ensures.turn)

pub returns-in-Busy-tick-clause-goes : goal.returns-in-Busy-tick-clause-goes
returns-in-Busy-tick-clause-goes c =
    let image = c.args.image.now in
    let self = c.args.self.now in
    let can = c.requires.can in
    let runs = runs-known image c.requires.can.described c.requires.can.can c.longest_fine_run.ensures c.every_fine_run.ensures.run c.every_fine_run.ensures.waits c.every_deadline.ensures in
    let still : (cell_of c.args.word).running ≡ 0 = (let read = subst (λ (w : CellWord). w.running ≤ 0) c.read.ensures.value c.if-read-gt0.false in omega (arith, read)) in
    ticked-goes image runs self can.place can.stands c.requires.empty c.args.word c.requires.saw c.requires.none c.give.new.sites (whole c.give.new.self) c.give.result c.in-Busy.is c.give.ensures.same c.give.ensures.turn still c.give.ensures.image c.tick.new.sites (whole c.tick.new.self) c.tick.result c.tick.ensures.same c.tick.ensures.turn

pub returns-in-Busy-tick-clause-waited : goal.returns-in-Busy-tick-clause-waited
returns-in-Busy-tick-clause-waited c =
    let image = c.args.image.now in
    let self = c.args.self.now in
    let can = c.requires.can in
    let runs = runs-known image c.requires.can.described c.requires.can.can c.longest_fine_run.ensures c.every_fine_run.ensures.run c.every_fine_run.ensures.waits c.every_deadline.ensures in
    let still : (cell_of c.args.word).running ≡ 0 = (let read = subst (λ (w : CellWord). w.running ≤ 0) c.read.ensures.value c.if-read-gt0.false in omega (arith, read)) in
    λ e. (waits-same image runs self can.place can.stands c.requires.empty c.args.word c.requires.saw c.requires.none c.give.new.sites (whole c.give.new.self) c.give.result c.in-Busy.is c.give.ensures.same c.give.ensures.turn still c.give.ensures.image c.tick.new.sites (whole c.tick.new.self) c.tick.result c.tick.ensures.same c.tick.ensures.turn c.in-Busy-tick.is, waits-looked image runs self can.place can.stands c.requires.empty c.args.word c.requires.saw c.requires.none c.give.new.sites (whole c.give.new.self) c.give.result c.in-Busy.is c.give.ensures.same c.give.ensures.turn still c.give.ensures.image c.tick.new.sites (whole c.tick.new.self) c.tick.result c.tick.ensures.same c.tick.ensures.turn c.in-Busy-tick.is, stands-waiting image runs self can.place can.stands c.requires.empty c.args.word c.requires.saw c.requires.none c.give.new.sites (whole c.give.new.self) c.give.result c.in-Busy.is c.give.ensures.same c.give.ensures.turn still c.give.ensures.image c.tick.new.sites (whole c.tick.new.self) c.tick.result c.tick.ensures.same c.tick.ensures.turn c.in-Busy-tick.is)

pub returns-in-Busy-tick-clause-stands : goal.returns-in-Busy-tick-clause-stands
returns-in-Busy-tick-clause-stands c =
    let image = c.args.image.now in
    let self = c.args.self.now in
    let can = c.requires.can in
    let runs = runs-known image c.requires.can.described c.requires.can.can c.longest_fine_run.ensures c.every_fine_run.ensures.run c.every_fine_run.ensures.waits c.every_deadline.ensures in
    let still : (cell_of c.args.word).running ≡ 0 = (let read = subst (λ (w : CellWord). w.running ≤ 0) c.read.ensures.value c.if-read-gt0.false in omega (arith, read)) in
    stands-on image self.number (whole self.processor) (whole c.tick.new.self) self.place.seat self.place.log.items c.tick.new.sites.seat c.tick.new.sites.log.items can.stands
    (ticked-keeps image runs self can.place can.stands c.requires.empty c.args.word c.requires.saw c.requires.none c.give.new.sites (whole c.give.new.self) c.give.result c.in-Busy.is c.give.ensures.same c.give.ensures.turn still c.give.ensures.image c.tick.new.sites (whole c.tick.new.self) c.tick.result c.tick.ensures.same c.tick.ensures.turn)
    (ticked-goes image runs self can.place can.stands c.requires.empty c.args.word c.requires.saw c.requires.none c.give.new.sites (whole c.give.new.self) c.give.result c.in-Busy.is c.give.ensures.same c.give.ensures.turn still c.give.ensures.image c.tick.new.sites (whole c.tick.new.self) c.tick.result c.tick.ensures.same c.tick.ensures.turn)

pub returns-in-Made-tick : goal.returns-in-Made-tick
returns-in-Made-tick c =
    let image = c.args.image.now in
    let self = c.args.self.now in
    let can = c.requires.can in
    let runs = runs-known image c.requires.can.described c.requires.can.can c.longest_fine_run.ensures c.every_fine_run.ensures.run c.every_fine_run.ensures.waits c.every_deadline.ensures in
    let still : (cell_of c.args.word).running ≡ 0 = (let read = subst (λ (w : CellWord). w.running ≤ 0) c.read.ensures.value c.if-read-gt0.false in omega (arith, read)) in
    let keeps = ticked-keeps image runs self can.place can.stands c.requires.empty c.args.word c.requires.saw c.requires.none c.give.new.sites (whole c.give.new.self) c.give.result c.in-Busy.is c.give.ensures.same c.give.ensures.turn still c.give.ensures.image c.tick.new.sites (whole c.tick.new.self) c.tick.result c.tick.ensures.same c.tick.ensures.turn in
    let goes = ticked-goes image runs self can.place can.stands c.requires.empty c.args.word c.requires.saw c.requires.none c.give.new.sites (whole c.give.new.self) c.give.result c.in-Busy.is c.give.ensures.same c.give.ensures.turn still c.give.ensures.image c.tick.new.sites (whole c.tick.new.self) c.tick.result c.tick.ensures.same c.tick.ensures.turn in
    record {
      number = refl;
      place = c.tick.ensures.image;
      keeps = keeps;
      goes = goes;
      tended = λ e. ticked-asked image runs self can.place can.stands c.requires.empty c.args.word c.requires.saw c.requires.none c.give.new.sites (whole c.give.new.self) c.give.result c.in-Busy.is c.give.ensures.same c.give.ensures.turn still c.give.ensures.image c.tick.new.sites (whole c.tick.new.self) c.tick.result c.tick.ensures.same c.tick.ensures.turn;
      waited = λ e. absurd (false≢true e);
      stands = stands-on image self.number (whole self.processor) (whole c.tick.new.self) self.place.seat self.place.log.items c.tick.new.sites.seat c.tick.new.sites.log.items can.stands keeps goes;
    }
