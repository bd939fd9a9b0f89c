-- What the body that steps a thread's word makes of a call that the word doesn't forbid is the call's step.
use Rattle.std.proofs.Common.{◌≡◌, ℕ, Bool, true, false, Option, Some, None, refl, sym, ap, ◌∙◌, subst}
use Rattle.std.specs.Prelude.{if◌then◌else◌, ◌||◌}
use Rattle.um_base.specs.declared.act.Act.{Act}
use Rattle.um_base.specs.declared.names.ThreadIx.{ThreadIx}
use Rattle.um_words.specs.declared.fine.FineAct.{FineAct}
use Rattle.um_words.specs.declared.fine.Unseen.{Unseen}
use Rattle.um_words.specs.declared.thread_word.ThreadWord.{ThreadWord}
use Rattle.um_words.specs.Packed.{is_thread, thread_in}
use Rattle.um_words.specs.Steps.{ThreadStep}
use Rattle.um_words.specs.ThreadActs.{thread_act_at, unless_stopped}
use Rattle.um_words.specs.Threads.{ThreadMay}
use Rattle.um_site.specs.Calls.{shown}
use Rattle.um_thread.specs.declared.threads.ThreadCall.{ThreadCall}
use Rattle.um_thread.specs.Acts.{asked_of_thread, forbids_thread, is_stopped, thread_act}

-- what was read of a word that says something
pub read-of : {W : Type 0} (w z : W) (found : Option W) (says : Bool) → says ≡ true → found ≡ (if says then Some w else None) → found ≡ Some z → z ≡ w
read-of w z found says sound value is = let e : Some z ≡ Some w = sym is ∙ (value ∙ ap (λ b. if b then Some w else None) sound) in cc

said-is : {W : Type 0} (b : Bool) (all said : W) → (if b then Some all else None) ≡ Some said → said ≡ all
said-is true all said e = cc
said-is false all said e = absurd (cc)

-- a thread that nothing stops begins, or ends by itself
unstopped : (doomed aborted suspended : Bool) (read killed act : FineAct) → doomed || aborted || suspended ≡ false
    → (if doomed then read else if aborted then killed else if suspended then read else act) ≡ act
unstopped true aborted suspended read killed act e = absurd (cc)
unstopped false true suspended read killed act e = absurd (cc)
unstopped false false true read killed act e = absurd (cc)
unstopped false false false read killed act e = refl

module _ (by who : ThreadIx) (w z : ThreadWord) where
  goes-on : (act : FineAct) → is_stopped w ≡ false → ThreadMay w (unless_stopped w by act) z → ThreadMay w act z
  goes-on act may m = subst (λ made. ThreadMay w made z) (unstopped w.doomed w.aborted w.suspended (FineAct.Unseen Unseen.WordRead) (shown by Act.Killed) act may) m

  leaves : (call : ThreadCall) → forbids_thread call w ≡ false → ThreadMay w (thread_act_at w (asked_of_thread by who call)) z → ThreadMay w (thread_act w by who call) z
  leaves (ThreadCall.Begin script line) may m = goes-on (shown by (Act.Begin script line)) may m
  leaves ThreadCall.Exit may m = goes-on (shown by Act.Exit) may m
  leaves (ThreadCall.Miss addr kind want) may m = record { room = m.room; takes = refl; says = refl; leaves = m.leaves }
  leaves (ThreadCall.Start mode domain) may m = m
  leaves (ThreadCall.Reply reply) may m = m
  leaves (ThreadCall.Fatal reason cause) may m = m
  leaves ThreadCall.Doom may m = m
  leaves ThreadCall.Hold may m = m
  leaves ThreadCall.LetGo may m = m
  leaves (ThreadCall.Move domain) may m = m
  leaves ThreadCall.EnterUser may m = m
  leaves ThreadCall.Abort may m = m
  leaves ThreadCall.Suspend may m = m
  leaves ThreadCall.Continue may m = m
  leaves ThreadCall.Killed may m = m
  leaves (ThreadCall.Note site) may m = m
  leaves ThreadCall.ReadWord may m = m

-- the step of the bits is the call's
pub thread-leaves : (by who : ThreadIx) (seen next : ℕ) (call : ThreadCall) → forbids_thread call (thread_in seen) ≡ false
    → ThreadStep seen (thread_act_at (thread_in seen) (asked_of_thread by who call)) next → ThreadStep seen (thread_act (thread_in seen) by who call) next
thread-leaves by who seen next call may s =
    let is = said-is (is_thread seen) (thread_in seen) s.found s.reads in
    let m = subst (λ (w : ThreadWord). ThreadMay w (thread_act_at (thread_in seen) (asked_of_thread by who call)) s.left) is s.may in
    record { found = s.found; reads = s.reads; left = s.left; may = subst (λ (w : ThreadWord). ThreadMay w (thread_act (thread_in seen) by who call) s.left) (sym is) (leaves by who (thread_in seen) s.left call may m); is = s.is }
