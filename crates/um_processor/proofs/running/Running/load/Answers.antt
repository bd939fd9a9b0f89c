use Rattle.std.proofs.Common.{ap, arith}
use Rattle.std.proofs.lemmas.Bool.{le-leb}
use Rattle.um_tables.specs.declared.memory_act.MemorySaid.{MemorySaid}
use Rattle.um_processor.proofs.Accesses.{load-goes}
use Rattle.um_processor.proofs.running.Running.load.Goals as goal

pub returns : goal.returns
returns g c =
    let h = c.in-Made.ensures.said in
    let few = le-leb c.args.size 4 (omega (arith, c.if-size-gt4.false)) in
    let thread = c.thread-thread.ensures.value in
    let goes = load-goes c.args.here.now.image.now c.args.here.now.cpu h.0 h.1 c.args.self.now c.args.self.now.phase _ c.args.to c.args.size c.args.addr _ in
    let value = ap (λ (s : MemorySaid). s.value) h.3.said_is in
    let made = goes c.allows-allowed.result _ _ _ thread few c.allows-allowed.ensures c.or_fault-act.ensures value c.loads_or_faults.ensures in
    record { turn = (c.in-Made.ensures.image, tt, (_, h.2, made)) }
