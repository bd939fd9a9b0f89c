use Rattle.um_words.specs.Packed.{thread_in}
use Rattle.um_site.specs.Calls.{site_of}
use Rattle.um_site.specs.Tells.{made}
use Rattle.um_thread.specs.Acts.{thread_act}
use Rattle.um_thread.proofs.threads.call_thread.Given as goal

abbrev pub ghosts-step_at : goal.ghosts-step_at
ghosts-step_at g a = record { made = made (site_of a.place) (thread_act (thread_in a.seen) a.about.now.0 a.about.now.1 a.about.now.2) a.next }
