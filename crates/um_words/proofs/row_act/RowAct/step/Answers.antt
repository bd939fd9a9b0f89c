use Rattle.um_words.proofs.RowsLeft.{row-left-fits}
use Rattle.um_words.proofs.row_act.RowAct.step.Goals as goal

pub pack-requires : goal.pack-requires
pack-requires c = row-left-fits c.args.seen c.read-word.result c.in-Some.made.0 _ c.read-word.ensures.value c.in-Some.ensures.0
