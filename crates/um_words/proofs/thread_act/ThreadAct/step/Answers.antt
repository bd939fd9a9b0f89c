use Rattle.um_words.specs.WordFacts.{thread-left}
use Rattle.um_words.proofs.thread_act.ThreadAct.step.Goals as goal

pub pack-requires : goal.pack-requires
pack-requires c = thread-left c.in-Some.word c.in-Some-make.next _ c.in-Some.ensures.fits c.in-Some-make.ensures.made
