-- Each step that a thread makes by itself keeps what holds of the threads.
use Rattle.std.proofs.Common.{◌≡◌, inl, inr, ℕ, Bool, true, false, not, List, [], ◌∷◌, refl, sym, ap, subst, ◌∙◌, arith, Some, None, if◌then◌else◌}
use Rattle.std.proofs.lemmas.Bool.{cases_Bool}
use Rattle.um_base.specs.declared.act.Act.{Act}
use Rattle.um_base.specs.declared.ask.Told.{Told}
use Rattle.um_base.specs.declared.names.Access.TheVariants as Access
use Rattle.um_base.specs.Lawful.{IsLawful}
use Rattle.um_machine.specs.declared.pending.Pending.{Pending}
use Rattle.um_machine.specs.declared.thread.Thread.{Thread}
use Rattle.um_machine.specs.Memory.{allowed, bytes_at, le_value}
use Rattle.um_machine.specs.Order.{Steps}
use Rattle.um_machine.specs.Run.{is_tending, Offers, goes, skips_inherit, skips_drops, begins, exits, stops, leaves, tends, MayChoose}
use Rattle.um_machine.specs.Services.{is_empty}
use Rattle.um_machine.specs.State.{State, thread_at, is_living}
use Rattle.um_machine.specs.Table.{after, act_of}
use Rattle.um_invariants.specs.Ready.{readied}
use Rattle.um_invariants.proofs.Claims.{claims}
use Rattle.um_invariants.proofs.Cores.{core_of}
use Rattle.um_invariants.proofs.Turns.{IsKnown}
use Rattle.um_invariants.proofs.ThreadCounts.{equal_or_not}
use Rattle.um_invariants.proofs.ThreadCells.{cell}
use Rattle.um_invariants.proofs.ThreadWaits.{times}
use Rattle.um_invariants.proofs.ThreadWords.{is_beside, are_plain, are_orderly, DueFrom, is_resume, AreKept, IsMade, IsOffered}
use Rattle.um_invariants.proofs.ThreadFrames.{plain-orderly, plain-from, orderly-rest}
use Rattle.um_invariants.proofs.ThreadMoves.{calm-made}
use Rattle.um_invariants.proofs.ThreadStarts.{start-made, doom-made}
use Rattle.um_invariants.proofs.ThreadWorks.{futex-wait-made, futex-wake-made, inside-of, join-made, work-made}

-- who isn't to resume waits on nothing, and neither does one that was told
not-waiting : (s : State) (t : ℕ) → AreKept s → is_resume (thread_at s t).pending ≡ false → (x : ℕ) → times t (cell s x) ≡ 0
not-waiting s t kept e x =
    elim (equal_or_not (times t (cell s x)) 0) [
      | inl none ↦ none
      | inr some ↦ absurd (let waits = kept.waits x t (omega (arith, some)) in let bad : true ≡ false = sym waits.0 ∙ e in cc)
    ]

told-apart : (s : State) (t : ℕ) → AreKept s → (told : Told) → (thread_at s t).told ≡ Some told → (x : ℕ) → times t (cell s x) ≡ 0
told-apart s t kept told e x =
    elim (equal_or_not (times t (cell s x)) 0) [
      | inl none ↦ none
      | inr some ↦ absurd (let waits = kept.waits x t (omega (arith, some)) in let bad : Some told ≡ None = sym e ∙ waits.1 in cc)
    ]

resumed-told : (s : State) (t x : ℕ) (p : Pending) (rest : Steps) → is_resume (p ∷ rest) ≡ true → MayChoose s t x p → (told : Told) × ((thread_at s t).told ≡ Some told)
resumed-told s t x Pending.Resume rest h chosen = chosen
resumed-told s t x p rest h chosen = cc

-- a thread's step is one of its own
module _ (s : State) (t x : ℕ) (kept : AreKept s) where
  goes-offered : (p : Pending) (rest : Steps) → (thread_at s t).pending ≡ p ∷ rest → MayChoose s t x p → IsOffered s t p rest
  goes-offered p rest e chosen =
      let was = kept.orderly t in
      let first : are_orderly (p ∷ rest) ≡ true = subst (λ (steps : Steps). are_orderly steps ≡ true) e was.steps in
      record {
        first = first;
        behind = orderly-rest p rest first;
        from = subst (λ (steps : Steps). DueFrom steps (thread_at s t).due) e was.from;
        told = λ h. was.told (ap is_resume e ∙ h);
        apart = elim (cases_Bool (is_resume (p ∷ rest))) [
          | inl waits ↦ (let (told, known) = resumed-told s t x p rest waits chosen in told-apart s t kept told known)
          | inr other ↦ not-waiting s t kept (ap is_resume e ∙ other)
        ];
        claim = λ w h. subst (λ (steps : Steps). claims s.image w steps ≡ true) (sym e) h;
        inside = inside-of (λ (th : Thread). not (is_empty th.pending)) refl s.threads t (ap (λ (steps : Steps). not (is_empty steps)) e);
      }

  skips-offered : (q p : Pending) (rest : Steps) → (thread_at s t).pending ≡ q ∷ p ∷ rest → is_resume (q ∷ p ∷ rest) ≡ false → ((w : ℕ) → claims s.image w (p ∷ rest) ≡ true → claims s.image w (q ∷ p ∷ rest) ≡ true) → IsOffered s t p rest
  skips-offered q p rest e other claim =
      let was = kept.orderly t in
      let plain : are_plain (p ∷ rest) ≡ true = orderly-rest q (p ∷ rest) (subst (λ (steps : Steps). are_orderly steps ≡ true) e was.steps) in
      let first = plain-orderly (p ∷ rest) plain in
      record {
        first = first;
        behind = orderly-rest p rest first;
        from = plain-from (p ∷ rest) (thread_at s t).due plain;
        told = λ h. was.told (ap is_resume e ∙ other);
        apart = not-waiting s t kept (ap is_resume e ∙ other);
        claim = λ w h. subst (λ (steps : Steps). claims s.image w steps ≡ true) (sym e) (claim w h);
        inside = inside-of (λ (th : Thread). not (is_empty th.pending)) refl s.threads t (ap (λ (steps : Steps). not (is_empty steps)) e);
      }

  rests-offered : (p : Pending) → (thread_at s t).pending ≡ [] → is_living (thread_at s t).life ≡ true → are_orderly (p ∷ []) ≡ true → DueFrom (p ∷ []) (thread_at s t).due → ((w : ℕ) → claims s.image w (p ∷ []) ≡ false) → IsOffered s t p []
  rests-offered p e living first from none = record {
    first = first;
    behind = refl;
    from = from;
    told = λ h. (kept.orderly t).told (ap is_resume e);
    apart = not-waiting s t kept (ap is_resume e);
    claim = λ w h. absurd (let off = none w in let bad : true ≡ false = sym h ∙ off in cc);
    inside = inside-of (λ (th : Thread). is_living th.life) refl s.threads t living;
  }

  pub offered : (p : Pending) (rest : Steps) → Offers s t p rest → is_beside p ≡ false → MayChoose s t x p → IsOffered s t p rest
  offered p rest (goes e) own chosen = goes-offered p rest e chosen
  offered p rest (skips_inherit {who = who} e due) own chosen = skips-offered (Pending.Inherit who) p rest e refl (λ w h. h)
  offered p rest (skips_drops {from = from} e due) own chosen = skips-offered (Pending.Drops from) p rest e refl (λ w h. h)
  offered _ _ (begins e living well line) own chosen = rests-offered Pending.Begin e living refl tt (λ w. refl)
  offered _ _ (exits e living well line) own chosen = rests-offered Pending.Exit e living refl tt (λ w. refl)
  offered _ _ (stops e living must) own chosen = rests-offered Pending.Killed e living refl tt (λ w. refl)
  offered _ _ (leaves ending) own chosen = cc
  offered p _ (tends is started) own chosen = tending p is own
    where
      tending : (p : Pending) → is_tending p ≡ true → is_beside p ≡ false → IsOffered s t p (thread_at s t).pending
      tending Pending.Left h own = cc
      tending p h own = absurd (let bad : true ≡ false = sym h ∙ own in cc)

-- an access is made or not, and wakes nobody
either-made : (s s2 : State) (t : ℕ) (b : Bool) (one other : Act) → readied one ≡ [] → readied other ≡ [] → IsMade s t [] s2 → IsMade s t (readied (if b then one else other)) s2
either-made s s2 t true one other f g h = subst (λ (line : List ℕ). IsMade s t line s2) (sym f) h
either-made s s2 t false one other f g h = subst (λ (line : List ℕ). IsMade s t line s2) (sym g) h

pub made : (s : State) (t x : ℕ) (p : Pending) (rest : Steps) → AreKept s → IsKnown (core_of s) → IsLawful s.image → is_beside p ≡ false → MayChoose s t x p → IsOffered s t p rest → IsMade s t (readied (act_of s t x p)) (after s t x p rest)
made s t x (Pending.Load to a n) rest kept known lawful own_step chosen o =
    either-made s (after s t x (Pending.Load to a n) rest) t (allowed s t Access.Read a.0 n) (Act.Load a n (le_value (bytes_at s a.0 n))) (Act.Fault Access.Read a n) refl refl (calm-made s t x (Pending.Load to a n) rest kept o refl chosen)
made s t x (Pending.Store a n value) rest kept known lawful own_step chosen o =
    either-made s (after s t x (Pending.Store a n value) rest) t (allowed s t Access.Write a.0 n) (Act.Store a n value) (Act.Fault Access.Write a n) refl refl (calm-made s t x (Pending.Store a n value) rest kept o refl chosen)
made s t x (Pending.Fetch a) rest kept known lawful own_step chosen o =
    either-made s (after s t x (Pending.Fetch a) rest) t (allowed s t Access.Exec a.0 4) (Act.Fetch a) (Act.Fault Access.Exec a 4) refl refl (calm-made s t x (Pending.Fetch a) rest kept o refl chosen)
made s t x (Pending.Work a ask) rest kept known lawful own_step chosen o = work-made s t x a ask rest kept o
made s t x (Pending.Start who script stack priority mode) rest kept known lawful own_step chosen o = start-made s t x who script stack priority mode rest kept known lawful o
made s t x (Pending.Dooms from) rest kept known lawful own_step chosen o = doom-made s t x from rest kept o
made s t x (Pending.Join who timeout) rest kept known lawful own_step chosen o = join-made s t x who timeout rest kept o
made s t x (Pending.FutexWait a value timeout) rest kept known lawful own_step chosen o = futex-wait-made s t x a value timeout rest kept o
made s t x (Pending.FutexWake a all) rest kept known lawful own_step chosen o = futex-wake-made s t x a all rest kept o
made s t x (Pending.CleanPair who) rest kept known lawful own_step chosen o = cc
made s t x Pending.Recycle rest kept known lawful own_step chosen o = cc
made s t x Pending.Left rest kept known lawful own_step chosen o = cc
made s t x Pending.Tick rest kept known lawful own_step chosen o = cc
made s t x (Pending.TimeOut who) rest kept known lawful own_step chosen o = cc
made s t x Pending.Expire rest kept known lawful own_step chosen o = cc
made s t x (Pending.Cut who) rest kept known lawful own_step chosen o = cc
made s t x p rest kept known lawful own_step chosen o = calm-made s t x p rest kept o refl chosen
