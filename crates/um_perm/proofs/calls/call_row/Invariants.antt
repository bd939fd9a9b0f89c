use Rattle.um_words.specs.Packed.{row_of}
use Rattle.um_site.specs.Calls.{site_of}
use Rattle.um_site.specs.Tells.{made}
use Rattle.um_perm.specs.Pairs.{row_act}
use Rattle.um_perm.proofs.calls.call_row.Given as goal

abbrev pub ghosts-step_at : goal.ghosts-step_at
ghosts-step_at g a = record { made = made (site_of a.place) (row_act a.about.now.0 a.about.now.1 (row_of a.seen)) a.next }
