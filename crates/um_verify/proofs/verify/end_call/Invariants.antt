use Rattle.um_site.specs.Calls.{site_of}
use Rattle.um_site.specs.Tells.{made}
use Rattle.um_verify.specs.Checks.{end_act}
use Rattle.um_verify.proofs.verify.end_call.Given as goal

abbrev pub ghosts-step_at : goal.ghosts-step_at
ghosts-step_at g a = record { made = made (site_of a.place) end_act a.next }
