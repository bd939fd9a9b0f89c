-- A thread that waits has noted its cell, after every lawful step: who waited before keeps its note, since only its own steps change it.
use Rattle.um_refinement.proofs.Words.{◌≡◌, ◌⊎◌, inl, inr, ℕ, ◌+◌, ◌<◌, true, false, [], ◌∷◌, Some, refl, sym, ap, ◌∙◌, subst, false≢true, true≢false, and_parts, is_some, not, ROWS, THREADS, Pending, Steps, Thread, to_thread, State, thread_at, Image, Context, Todo, Todos, FineStep, Fine, Fits, IsOffered, is_over, waits, word}
use Rattle.um_machine.specs.State.{is_to_resume, waiters_in}
use Rattle.um_machine.specs.Table as T
use Rattle.um_fine.specs.Places.{noted_cell}
use Rattle.um_fine.specs.Seeking.{stands_in}
use Rattle.um_refinement.specs.Frames.{IsNoted, accesses, acts, arming}
use Rattle.um_refinement.specs.Lists.{is_arm}
use Rattle.um_refinement.specs.Stops.{cell_site, waits_at}
use Rattle.um_refinement.proofs.CallsKnown.{starts-known}
use Rattle.um_refinement.proofs.EachUncut.{NotCut}
use Rattle.um_refinement.proofs.Erased.{around}
use Rattle.um_refinement.proofs.First.{none-some}
use Rattle.um_refinement.proofs.Leaves.{Beside, Lawful, Leaves, beside, cleans, cuts, drops, event, expires, leaves as tells_left, mine, nothing, passes, recycles, resumes, ticks as time_passes, times_out}
use Rattle.um_refinement.proofs.NoteSteps.{Noting, finals, note-same, notes, noting, starts as starts_now, stays, thread_of}
use Rattle.um_refinement.proofs.Offered.{IsStep, Shows, own-part, own-unless, runs-first, shown-offers}
use Rattle.um_refinement.proofs.Others.{starts_other}
use Rattle.um_refinement.proofs.SchedulerSteps.{made-at}
use Rattle.um_refinement.proofs.StepReads.{is-behind}
use Rattle.um_refinement.proofs.StepsLeft.{offered-awake, offered-on}
use Rattle.um_refinement.proofs.WaitersFound.{WaitersWait}
use Rattle.um_refinement.proofs.WaitSteps.{Begins, stood}

-- a thread that isn't to be resumed doesn't wait
awake-not : (steps : Steps) → waits steps ≡ false → is_to_resume steps ≡ true → ⊥
awake-not (Pending.Resume ∷ rest) awake h = true≢false awake
awake-not [] awake h = false≢true h
awake-not (q ∷ rest) awake h = false≢true h

-- a step before which a cell is noted is none that resumes
pub noted-awake : (image : Image) (q : Pending) (rest : Steps) (site : ℕ) → noted_cell image (q ∷ []) ≡ Some site → waits (q ∷ rest) ≡ false
noted-awake image Pending.Resume rest site h = absurd (none-some h)
noted-awake image q rest site h = refl

pub arm-awake : (q : Pending) (rest : Steps) → is_arm q ≡ true → waits (q ∷ rest) ≡ false
arm-awake Pending.Resume rest h = absurd (false≢true h)
arm-awake q rest h = refl

module _ (f : Fine) (m : State) (e : FineStep) (t : ℕ) where
  -- that the thread begins to wait in a cell with this step
  pub data Begun (c : ℕ) : Type 0 where
    begun : (q : Pending) (rest : Steps) (todo : Todos) (x : ℕ) → Shows f m e.cpu e q rest todo → IsStep f m e.cpu e x q → t ≡ mine f m e → Begins m (mine f m e) x q c → Begun c

module _ (f : Fine) (m : State) (e : FineStep) (law : Lawful f m e) (wait : WaitersWait m) (t : ℕ) (few : t < THREADS) (s : State) (left : Leaves f m e s) where
  open around f e use {later, processor as p}
  open is-behind f m e law use {frame}

  to-resume : (c : ℕ) → waits_at m t c ≡ true → is_to_resume (thread_at m t).pending ≡ true
  to-resume c was = (and_parts (is_to_resume (thread_at m t).pending) (not (is_some (thread_at m t).told)) (wait c t was)).0

  -- who waits makes no event, is not started, and notes nothing
  pub never-shows : (c : ℕ) → waits_at m t c ≡ true → (q : Pending) (rest : Steps) (todo : Todos) → Shows f m e.cpu e q rest todo → p.context.thread ≡ t → ⊥
  never-shows c was q rest todo h same =
      let own = ap (λ (z : Thread). z.pending) (own-unless (own-part h) h.awake) in
      awake-not (thread_at m t).pending (subst (λ n. waits (thread_at m n).pending ≡ false) same (sym (ap waits own) ∙ h.awake)) (to-resume c was)

  never-starts : (c : ℕ) → waits_at m t c ≡ true → (q : Pending) (rest : Steps) (todo : Todos) → Shows f m e.cpu e q rest todo → NotCut q → starts_other t q
  never-starts c was (Pending.Start who script stack priority mode) rest todo h uncut = λ same.
      let new = starts-known m law.sound p.context.thread who script stack priority mode rest (shown-offers h) in
      false≢true (sym (ap is_to_resume (ap (λ n. (thread_at m n).pending) (sym same) ∙ new.1)) ∙ to-resume c was)
  never-starts c was (Pending.Cut who) rest todo h uncut = absurd uncut
  never-starts c was q rest todo h uncut = tt

  pub never-notes : (c : ℕ) → waits_at m t c ≡ true → (site : ℕ) (todo : Todos) → p.todo ≡ Todo.note site ∷ todo → p.context.thread ≡ t → ⊥
  never-notes c was site todo at same =
      let of = (law.rel.contexts.running e.cpu law.by.named (runs-first law.rel law.by.named (Todo.note site) todo at (λ hand. hand))).of is.1 in
      let own = ap (λ (z : Thread). z.pending) (own-unless of is.0) in
      awake-not (thread_at m t).pending (subst (λ n. waits (thread_at m n).pending ≡ false) same (sym (ap waits own) ∙ is.0)) (to-resume c was)
    where
      z : Context
      z = record p.context { noted = Some 0 }

      offered : (q : Pending) (rest : Steps) → IsOffered f.image z q rest → waits (q ∷ rest) ≡ false → (waits p.context.pending ≡ false) × (is_over p.context ≡ false)
      offered q rest o awake = (offered-awake f.image z q rest o awake, offered-on f.image z q rest o)

      by : {todo : Todos} → IsNoted f.image site todo → Fits f.image z todo → (waits p.context.pending ≡ false) × (is_over p.context ≡ false)
      by (acts {q} {rest} there) fits = offered q rest fits.0 (noted-awake f.image q rest site there)
      by (accesses {q} {rest} there) fits = offered q rest fits.0 (noted-awake f.image q rest site there)
      by (arming {q} {rest} arms there) fits = offered q rest fits.0 (arm-awake q rest arms)

      is : (waits p.context.pending ≡ false) × (is_over p.context ≡ false)
      is = by (frame (Todo.note site) todo at) (subst (Fits f.image p.context) at (law.rel.processors e.cpu law.by.named).list.fits 0)

  -- the note of a thread that waits stays
  pub note-stays : (c : ℕ) → waits_at m t c ≡ true → (word later t).note ≡ (word f t).note
  note-stays c was = by (noting f m e law t few s left)
    where
      by : Noting f m e law t few → (word later t).note ≡ (word f t).note
      by (stays kept) = kept
      by (notes site todo at on is) = absurd (never-notes c was site todo at (ap thread_of (sym (made-at f m e law (Todo.note site ∷ todo) at) ∙ on)))
      by (finals q rest todo h fin own is) = absurd (never-shows c was q rest todo h own)
      by (starts_now q rest todo h other uncut is) = absurd (other (never-starts c was q rest todo h uncut))

  -- a thread that waits now waited, or begins to
  pub waited : (c : ℕ) → waits_at s t c ≡ true → (waits_at m t c ≡ true) ⊎ Begun f m e t c
  waited c h = before s left h
    where
      idle : (u x : ℕ) (q : Pending) (rest : Steps) → (Begins m u x q c → ⊥) → waits_at (T.after m u x q rest) t c ≡ true → (waits_at m t c ≡ true) ⊎ Begun f m e t c
      idle u x q rest none h = by (stood m u x q rest t c h)
        where
          by : (stands_in t (waiters_in m c) ≡ true) ⊎ ((t ≡ u) × Begins m u x q c) → (waits_at m t c ≡ true) ⊎ Begun f m e t c
          by (inl was) = inl was
          by (inr (same, starts)) = absurd (none starts)

      before : (z : State) → Leaves f m e z → waits_at z t c ≡ true → (waits_at m t c ≡ true) ⊎ Begun f m e t c
      before _ (nothing u said) h = inl h
      before _ (event q rest todo x shows shown is) h = by (stood m (mine f m e) x q rest t c h)
        where
          by : (stands_in t (waiters_in m c) ≡ true) ⊎ ((t ≡ mine f m e) × Begins m (mine f m e) x q c) → (waits_at m t c ≡ true) ⊎ Begun f m e t c
          by (inl was) = inl was
          by (inr (same, starts)) = inr (begun q rest todo x shows is same starts)
      before _ (resumes o told rest at moved said) h = idle o.thread 0 Pending.Resume rest (λ starts. starts) h
      before _ (passes who x rest todo v said) h = idle (mine f m e) x (Pending.Inherit (to_thread who)) rest (λ starts. starts) h
      before _ (drops source x rest todo v said) h = idle (mine f m e) x (Pending.Drops source) rest (λ starts. starts) h
      before _ (cleans who x rest todo v said) h = idle (mine f m e) x (Pending.CleanPair (to_thread who)) rest (λ starts. starts) h
      before _ (recycles x rest todo at inside said chosen) h = idle (mine f m e) x Pending.Recycle rest (λ starts. starts) h
      before _ (beside who x q how chosen started) h = idle who x q (thread_at m who).pending (quiet how) h
        where
          quiet : {who x : ℕ} {q : Pending} → Beside f m e who x q → Begins m who x q c → ⊥
          quiet (cuts v site older x todo at same few said) starts = starts
          quiet (times_out deadline site x v todo at same few said) starts = starts
          quiet (expires deadline x todo at few said) starts = starts
          quiet (time_passes at said) starts = starts
          quiet (tells_left todo at said) starts = starts

  -- a step with which a thread begins to wait leaves the notes of words
  pub begun-stays : (c : ℕ) → Begun f m e t c → (word later t).note ≡ (word f t).note
  begun-stays c (begun (Pending.Work a ask) rest todo x h is same starts) = note-same f m e law t few _ is.said (λ w. refl)
  begun-stays c (begun (Pending.Join who timeout) rest todo x h is same starts) = note-same f m e law t few _ is.said (λ w. refl)
  begun-stays c (begun (Pending.FutexWait a value timeout) rest todo x h is same starts) = note-same f m e law t few _ is.said (λ w. refl)
  begun-stays c (begun q rest todo x h is same starts) = absurd starts

  -- where one that begins to wait noted its cell, each that waits then did
  pub waits-noted : ((c : ℕ) → c < ROWS + 2 → Begun f m e t c → (word f t).note ≡ Some (cell_site c)) → (c : ℕ) → c < ROWS + 2 → waits_at s t c ≡ true → (word later t).note ≡ Some (cell_site c)
  waits-noted begins c inside stands = by (waited c stands)
    where
      by : (waits_at m t c ≡ true) ⊎ Begun f m e t c → (word later t).note ≡ Some (cell_site c)
      by (inl was) = note-stays c was ∙ (law.rel.threads t few).note.waits c inside was
      by (inr new) = begun-stays c new ∙ begins c inside new
