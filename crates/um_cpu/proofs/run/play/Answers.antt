use Rattle.std.proofs.Common.{ℕ, subst, sym}
use Rattle.um_processor.specs.Standing.{whole}
use Rattle.um_cpu.specs.Cpus.{Stands}
use Rattle.um_cpu.proofs.Advances.{stands-first}
use Rattle.um_cpu.proofs.LastTurn.{ends-there}
use Rattle.um_cpu.proofs.run.play.Goals as goal

pub turns-requires : goal.turns-requires
turns-requires g c =
    let it = c.requires.begins in
    let cpu = c.args.cpu.now in
    record {
      given = c.requires.given;
      described = c.requires.described;
      can = c.requires.can;
      place = it.sits.place;
      stands = subst (λ (k : ℕ). Stands c.args.image.now k (whole cpu.processor) cpu.place.seat cpu.place.log.items) (sym it.sits.number)
          (stands-first c.args.image.now c.args.number (whole cpu.processor) cpu.place.seat cpu.place.log.items it.few it.sits.name it.sits.opening it.idle_is it.made it.log);
    }

pub returns : goal.returns
returns g c = let e = c.turns.ensures in ends-there c.args.image.now c.args.board.now.table.shared.table_id c.args.cpus c.args.number c.args.cpu.now c.turns.new.cpu c.requires.begins e.number e.place e.keeps e.out
