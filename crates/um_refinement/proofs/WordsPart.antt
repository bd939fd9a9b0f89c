-- The words of threads say what the machine's threads are after every lawful step.
use Rattle.um_refinement.proofs.Words.{thread_at, ℕ, ◌<◌, refl, THREADS, Pending, Steps, to_thread, State, More, FineStep, Todos, Fine, WordIs}
use Rattle.um_machine.specs.Table as T
use Rattle.um_refinement.proofs.Erased.{stepped}
use Rattle.um_refinement.proofs.Leaves.{Beside, Lawful, Leaves, acting, beside, cleans, cuts, drops, event, expires, leaves, mine, nothing, passes, recycles, resumes, ticks, times_out}
use Rattle.um_refinement.proofs.Offered.{IsStep, Shows}
use Rattle.um_refinement.proofs.Quiet.{words-quiet}
use Rattle.um_refinement.proofs.WordsKept.{IsShown, abort-words, continue-words, doom-words, exit-words, fatal-words, killed-words, move-words, start-words, suspend-words, user-words, words-beside, words-kept}

module _ (f : Fine) (m : State) (e : FineStep) (law : Lawful f m e) (u : ℕ) (l : u < THREADS) where
  abbrev Kept : State → Type 0
  Kept s = WordIs (stepped f.image f.cpus f.processors f.sites e) s u

  by-event : (q : Pending) (rest : Steps) (todo : Todos) (x : ℕ) → Shows f m e.cpu e q rest todo → IsShown q → IsStep f m e.cpu e x q → Kept (T.after m (mine f m e) x q rest)
  by-event Pending.Exit rest todo x h shown is = exit-words law.sound.wide.threads x u l h
  by-event Pending.Killed rest todo x h shown is = killed-words law.sound.wide.threads x u l h
  by-event (Pending.Abort who) rest todo x h shown is = abort-words law.sound.wide.threads u l x who h
  by-event (Pending.Suspend who) rest todo x h shown is = suspend-words law.sound.wide.threads u l x who h
  by-event (Pending.Continue who) rest todo x h shown is = continue-words law.sound.wide.threads u l x who h
  by-event (Pending.Fatal reason cause) rest todo x h shown is = fatal-words law.sound.wide.threads x u l reason cause h
  by-event (Pending.EnterUser script) rest todo x h shown is = user-words law.sound.wide.threads x u l script h
  by-event (Pending.Dooms from) rest todo x h shown is = doom-words law.sound.wide.threads x u l from h
  by-event (Pending.Start who script stack priority mode) rest todo x h shown is = start-words law.sound.wide.threads x u l who script stack priority mode h
  by-event (Pending.DomMove d who) rest todo x h shown is = move-words law.sound.wide.threads x u l d who h
  by-event q rest todo x h shown is = words-kept h x u l is.said shown tt

  on-beside : (t x : ℕ) (q : Pending) → Beside f m e t x q → Kept (T.after m t x q (thread_at m t).pending)
  on-beside _ _ _ (cuts who site before x todo at place inside said) = words-beside f m law.rel e _ More.Nothing said (Pending.Cut (to_thread who)) (thread_at m (mine f m e)).pending (mine f m e) x u l (λ w. refl) tt
  on-beside _ _ _ (times_out deadline site x who todo at place inside said) = words-beside f m law.rel e _ More.Nothing said (Pending.TimeOut who) (thread_at m (acting f m e)).pending (acting f m e) x u l (λ w. refl) tt
  on-beside _ _ _ (expires deadline x todo at inside said) = words-beside f m law.rel e _ More.Nothing said Pending.Expire (thread_at m (acting f m e)).pending (acting f m e) x.0 u l (λ w. refl) tt
  on-beside _ _ _ (ticks at said) = words-beside f m law.rel e _ More.Nothing said Pending.Tick (thread_at m (acting f m e)).pending (acting f m e) 0 u l (λ w. refl) tt
  on-beside _ _ _ (leaves todo at said) = words-beside f m law.rel e _ More.Nothing said Pending.Left (thread_at m (mine f m e)).pending (mine f m e) 0 u l (λ w. refl) tt

  pub words-part : (s : State) → Leaves f m e s → Kept s
  words-part _ (nothing v said) = words-quiet f m law.rel e v said u l
  words-part _ (event q rest todo x h shown is) = by-event q rest todo x h shown is
  words-part _ (resumes c told rest idle moved said) = words-beside f m law.rel e _ More.Nothing said Pending.Resume rest c.thread 0 u l (λ w. refl) tt
  words-part _ (passes who x rest todo h said) = words-beside f m law.rel e _ More.Nothing said (Pending.Inherit (to_thread who)) rest (mine f m e) x u l (λ w. refl) tt
  words-part _ (drops from x rest todo h said) = words-beside f m law.rel e _ More.Nothing said (Pending.Drops from) rest (mine f m e) x u l (λ w. refl) tt
  words-part _ (cleans who x rest todo h said) =
      words-beside f m law.rel e _ More.Nothing said (Pending.CleanPair (to_thread who)) rest (mine f m e) x u l (λ w. refl) tt
  words-part _ (recycles x rest todo at few said chosen) = words-beside f m law.rel e _ More.Nothing said Pending.Recycle rest (mine f m e) x u l (λ w. refl) tt
  words-part _ (beside t x q how chosen started) = on-beside t x q how
