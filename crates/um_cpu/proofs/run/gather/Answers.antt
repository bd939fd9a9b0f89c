use Rattle.std.proofs.Common.{◌≡◌, ◌<◌, ◌≤◌, List, [], ◌∷◌, length, length-append, length-set, set, ap, arith, refl, subst, sym, ◌∙◌}
use Rattle.std.specs.Prelude.{reverse}
use Rattle.std.proofs.lemmas.List.{reverse-append}
use Rattle.um_merge.specs.Logs.{Log}
use Rattle.um_site.specs.History.{AmongNames}
use Rattle.um_site.specs.declared.seat.Seat.{Seat}
use Rattle.um_board.specs.Contents.{Known}
use Rattle.um_cpu.specs.Ended.{Gathered}
use Rattle.um_cpu.specs.declared.cpu.Cpu.{Cpu}
use Rattle.um_cpu.proofs.Gathers.{AreGathering, ends-apart, gathered, gathers-first, gathers-on, joins-out}
use Rattle.um_cpu.proofs.SplitOff.{with_seat}
use Rattle.um_cpu.proofs.run.gather.Goals as goal

pub loop-cpus-init : goal.loop-cpus-init
loop-cpus-init c =
    let image = c.args.image.now in
    let board = c.args.board.now.table.shared.table_id in
    let items = c.args.cpus.now.items in
    record {
      gathering = subst (λ (l : List Log). AreGathering image board (length items) items (reverse l)) (sym c.requires.empty) (gathers-first image board (length items) items c.requires.ends c.requires.some refl);
      room = let none = ap length c.requires.empty in let room = c.requires.room in omega (arith, none, room);
    }

pub join-requires-clause-here : goal.join-requires-clause-here
join-requires-clause-here c =
    let image = c.args.image.now in
    let board = c.args.board.now.table.shared.table_id in
    let cpus = length c.args.cpus.now.items in
    let logs = reverse c.loop-cpus.logs.items in
    let rest = c.pop.new.self.items in
    let are = subst (λ (l : List Cpu). AreGathering image board cpus l logs) c.in-Some.ensures.items c.loop-cpus.invariant.gathering in
    let some : 0 < length rest = (let test = c.loop-cpus-test.true in let value = c.len.ensures in let ok = c.loop-cpus.cpus.ok.0 in let same = ap length c.in-Some.ensures.items in let long = length-append rest (c.in-Some.cpu ∷ []) in omega (arith, test, value, ok, same, long)) in
    let apart = ends-apart image board cpus rest c.index_mut.result.now c.in-Some.cpu logs are some c.index_mut.ensures.value in
    (apart.1.here, ap (λ (x : Seat Known). x.token.table_id) c.into_parts-own.ensures.0 ∙ apart.2.sits.here)

pub join-requires-clause-room : goal.join-requires-clause-room
join-requires-clause-room c =
    let image = c.args.image.now in
    let board = c.args.board.now.table.shared.table_id in
    let cpus = length c.args.cpus.now.items in
    let logs = reverse c.loop-cpus.logs.items in
    let rest = c.pop.new.self.items in
    let are = subst (λ (l : List Cpu). AreGathering image board cpus l logs) c.in-Some.ensures.items c.loop-cpus.invariant.gathering in
    let some : 0 < length rest = (let test = c.loop-cpus-test.true in let value = c.len.ensures in let ok = c.loop-cpus.cpus.ok.0 in let same = ap length c.in-Some.ensures.items in let long = length-append rest (c.in-Some.cpu ∷ []) in omega (arith, test, value, ok, same, long)) in
    let apart = ends-apart image board cpus rest c.index_mut.result.now c.in-Some.cpu logs are some c.index_mut.ensures.value in
    let few = c.requires.few in
    let split = apart.1.split in
    let own-split = ap (λ (x : Seat Known). x.split) c.into_parts-own.ensures.0 ∙ apart.2.sits.split.split in
    let joined = apart.1.joined in
    let count = apart.1.knows.count in
    let own-joined = ap (λ (x : Seat Known). x.joined) c.into_parts-own.ensures.0 ∙ apart.2.sits.joined in
    (omega (arith, few, split, own-split), omega (arith, few, joined, count, own-joined))

pub join-requires-clause-out : goal.join-requires-clause-out
join-requires-clause-out c =
    let image = c.args.image.now in
    let board = c.args.board.now.table.shared.table_id in
    let cpus = length c.args.cpus.now.items in
    let logs = reverse c.loop-cpus.logs.items in
    let rest = c.pop.new.self.items in
    let first = c.index_mut.result.now in
    let are = subst (λ (l : List Cpu). AreGathering image board cpus l logs) c.in-Some.ensures.items c.loop-cpus.invariant.gathering in
    let some : 0 < length rest = (let test = c.loop-cpus-test.true in let value = c.len.ensures in let ok = c.loop-cpus.cpus.ok.0 in let same = ap length c.in-Some.ensures.items in let long = length-append rest (c.in-Some.cpu ∷ []) in omega (arith, test, value, ok, same, long)) in
    let apart = ends-apart image board cpus rest first c.in-Some.cpu logs are some c.index_mut.ensures.value in
    subst (λ (x : Seat Known). AmongNames first.place.seat.token.me.0.children x.token.me.0.name) (sym c.into_parts-own.ensures.0) (joins-out image board cpus apart.0 first c.in-Some.cpu logs apart.1 apart.2)

pub join-requires-clause-empty : goal.join-requires-clause-empty
join-requires-clause-empty c =
    let image = c.args.image.now in
    let board = c.args.board.now.table.shared.table_id in
    let cpus = length c.args.cpus.now.items in
    let logs = reverse c.loop-cpus.logs.items in
    let rest = c.pop.new.self.items in
    let are = subst (λ (l : List Cpu). AreGathering image board cpus l logs) c.in-Some.ensures.items c.loop-cpus.invariant.gathering in
    let some : 0 < length rest = (let test = c.loop-cpus-test.true in let value = c.len.ensures in let ok = c.loop-cpus.cpus.ok.0 in let same = ap length c.in-Some.ensures.items in let long = length-append rest (c.in-Some.cpu ∷ []) in omega (arith, test, value, ok, same, long)) in
    let seated = (ends-apart image board cpus rest c.index_mut.result.now c.in-Some.cpu logs are some c.index_mut.ensures.value).2.sits.place.seated in
    (ap (λ (x : Seat Known). x.token.me.1) c.into_parts-own.ensures.0 ∙ seated.empty, ap (λ (x : Seat Known). x.token.me.0.turn) c.into_parts-own.ensures.0 ∙ seated.idle)

pub loop-cpus-preserved : goal.loop-cpus-preserved
loop-cpus-preserved c =
    let image = c.args.image.now in
    let board = c.args.board.now.table.shared.table_id in
    let cpus = length c.args.cpus.now.items in
    let before = c.loop-cpus.logs.items in
    let rest = c.pop.new.self.items in
    let first = c.index_mut.result.now in
    let cpu = c.in-Some.cpu in
    let t = c.join.new.seat in
    let log = c.into_parts-own.result.1 in
    let pushed = c.push_reserved.ensures in
    let are = subst (λ (l : List Cpu). AreGathering image board cpus l (reverse before)) c.in-Some.ensures.items c.loop-cpus.invariant.gathering in
    let same = ap length c.in-Some.ensures.items in
    let long = length-append rest (cpu ∷ []) in
    let some : 0 < length rest = (let test = c.loop-cpus-test.true in let value = c.len.ensures in let ok = c.loop-cpus.cpus.ok.0 in omega (arith, test, value, ok, same, long)) in
    let logs-are : reverse c.push_reserved.new.self.items ≡ cpu.place.log ∷ reverse before = ap reverse pushed.items ∙ (reverse-append before (log ∷ []) ∙ ap (λ (l : Log). l ∷ reverse before) c.into_parts-own.ensures.1) in
    let join = c.join.ensures in
    record {
      gathering = subst (λ (l : List Log). AreGathering image board cpus (set rest 0 (with_seat first t)) l) (sym logs-are)
          (gathers-on image board cpus rest first cpu (reverse before) t c.into_parts-own.result.0 are some c.index_mut.ensures.value c.into_parts-own.ensures.0 (join.same.0, join.same.2) (join.counts.0, join.counts.1) join.both);
      room =
          let was = c.loop-cpus.invariant.room in
          let more = ap length pushed.items in
          let longer = length-append before (log ∷ []) in
          let kept = pushed.capacity in
          let set-long = length-set rest 0 (with_seat first t) in
          omega (arith, was, same, long, more, longer, kept, set-long);
    }

pub returns : goal.returns
returns c =
    let image = c.args.image.now in
    let board = c.args.board.now.table.shared.table_id in
    let cpus = length c.args.cpus.now.items in
    let items = c.loop-cpus.cpus.items in
    let own = c.into_parts-seat.result.0 in
    let one : length items ≤ 1 = (let test = c.loop-cpus-test.false in let value = c.len.ensures in let ok = c.loop-cpus.cpus.ok.0 in omega (arith, test, value, ok)) in
    subst (λ (l : List Log). Gathered image board own cpus l) (sym (c.reverse.ensures.items ∙ ap reverse c.push_reserved-2.ensures.items))
    (gathered image board cpus items c.pop-2.new.self.items c.in-Some-pop.first c.loop-cpus.logs.items own c.into_parts-seat.result.1 c.loop-cpus.invariant.gathering c.in-Some-pop.ensures.items one
    c.into_parts-seat.ensures.0 c.into_parts-seat.ensures.1)
