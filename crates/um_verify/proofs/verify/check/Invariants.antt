use Rattle.um_words.specs.Packed.{row_of}
use Rattle.um_words.specs.RowActs.{row_act_at}
use Rattle.um_site.specs.Calls.{site_of}
use Rattle.um_site.specs.Tells.{made}
use Rattle.um_verify.proofs.verify.check.Given as goal

abbrev pub ghosts-step_at : goal.ghosts-step_at
ghosts-step_at g a = record { made = made (site_of a.place) (row_act_at (row_of a.seen) a.about.now) a.next }
