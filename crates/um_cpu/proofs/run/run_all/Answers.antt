use denote.Param.Send.{sendable}
use Rattle.um_base.proofs.image.Image.TheSendSync as Image
use Rattle.um_cpu.proofs.Crosses.{board_sync, cpu_send}
use Rattle.um_cpu.proofs.run.run_all.Goals as goal

pub for_each_mut-requires-send-T : goal.for_each_mut-requires-send-T
for_each_mut-requires-send-T g c κs within = search (sendable, cpu_send) depth 10

pub for_each_mut-requires-sync-F : goal.for_each_mut-requires-sync-F
for_each_mut-requires-sync-F g c κs within = search (sendable, board_sync, Image.the_sync) depth 30
