use Rattle.std.proofs.Common.{◌≡◌, ◌+◌, ◌<◌, List, [], ◌∷◌, ◌++◌, length, length-append, length-set, set, ap, arith, subst, sym}
use Rattle.um_cpu.specs.Ended.{Begins, EachAt}
use Rattle.um_cpu.specs.declared.cpu.Cpu.{Cpu}
use Rattle.um_cpu.proofs.SplitOff.{all-begin, with_seat}
use Rattle.um_cpu.proofs.seats.seats.Goals as goal

pub loop-number-preserved : goal.loop-number-preserved
loop-number-preserved c =
    let image = c.args.image.now in
    let board = c.args.board.now.table.shared.table_id in
    let before = c.loop-number.invariant in
    let all = c.loop-number.all.items in
    let first = c.index_mut.result.now in
    let t = c.split-own.new.seat in
    let own = c.split-own.result in
    let split = c.split-own.ensures in
    let cpu = c.in_ok-placed-2.field-0 in
    let made = c.in_ok-placed-2.ensures in
    let number = c.loop-number.number in
    let pushed = c.push_reserved-in-loop-number.ensures in
    let now : c.push_reserved-in-loop-number.new.self.items ≡ set all 0 (with_seat first t) ++ cpu ∷ [] = pushed.items in
    let few : number < 8 = (let test = c.loop-number-test.true in let cpus = c.requires.few in omega (arith, test, cpus)) in
    record {
      some = omega arith;
      count =
          let more = ap length now in
          let longer = length-append (set all 0 (with_seat first t)) (cpu ∷ []) in
          let kept = length-set all 0 (with_seat first t) in
          let count = before.count in
          omega (arith, more, longer, kept, count);
      room = let kept = pushed.capacity in let room = before.room in omega (arith, kept, room);
      begins = subst (λ (l : List Cpu). EachAt (Begins image board (number + 1)) l) (sym now)
          (all-begin image board c.args.cells.now c.args.rodata.now c.args.seat number all first t own cpu before.begins before.count before.some few
          c.index_mut.ensures.value c.requires.rodata c.requires.seated
          (split.same.0, split.kept, split.slots) (split.counts.0, split.counts.1, split.counts.2) (split.new.0, split.new.1, split.new.2) (split.nothing.0, split.nothing.1)
          (record {
            number = made.number;
            fresh = made.fresh;
            seat = made.seat;
            board_is = ap (λ b. b.table.shared.table_id) made.place.0;
            cells_are = made.place.1;
            rodata_is = made.place.2;
            log = made.log;
            room = made.room;
          }));
    }
