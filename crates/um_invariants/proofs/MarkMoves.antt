-- Rows that are marked as initialised, and marks that are cleared.
use Rattle.um_invariants.proofs.Claims.{IsReal, claims}
use Rattle.um_base.specs.declared.act.Cause.{Cause}
use Rattle.std.proofs.Common.{◌≡◌, inl, inr, ℕ, Bool, true, false, not, ◌==◌, ◌&&◌, [], ◌∷◌, refl, sym, ap, subst, ◌∙◌, Option, Some, None, slice_index_or, if◌then◌else◌, ◌≢◌}
use Rattle.um_base.specs.declared.act.Act.{Act}
use Rattle.um_base.specs.declared.act.SetSaid.{SetSaid}
use Rattle.um_base.specs.declared.image.Image.{Image}
use Rattle.um_base.specs.declared.names.Addr.{Addr}
use Rattle.um_base.specs.declared.names.Errno.{Errno}
use Rattle.um_base.specs.Places.{own_row, thread_of_row, thread_of_addr}
use Rattle.um_machine.specs.declared.pending.Pending.{Pending}
use Rattle.um_machine.specs.declared.thread.Thread.{Thread}
use Rattle.um_machine.specs.Objects.{is_gone}
use Rattle.um_machine.specs.Order.{Steps, refuses}
use Rattle.um_machine.specs.State.{State, thread_at, object_at, with_thread, with_object}
use Rattle.um_machine.specs.Goes.{Change, Next, at_steps, set_way, went}
use Rattle.um_machine.specs.Writes.{Edit, Effect, is_done, only, wrote}
use Rattle.um_machine.specs.Table.{after, set_said, row_of}
use Rattle.um_invariants.proofs.Cores.{Call, Core, call_of, core_of, call_at, call_is, core-thread, rest_of, with_init, init_is, core-init}
use Rattle.um_invariants.proofs.Guards.{Guarded}
use Rattle.um_invariants.proofs.Moves.{is_quiet, Move, goes, marks, Marks, sets, clears, leaves}
use Rattle.um_invariants.proofs.Facts.{is_equal, differs, equals, and_not, and_is}
use Rattle.um_invariants.proofs.Turns.{IsKnown, IsReady, mine, turn, row_is}

-- a row is marked, or its mark is cleared
pub mark_moves : (s : State) (t : ℕ) (act : Act) (y : ℕ) (init : Bool) (me : Thread) (rest : Steps) → is_quiet act ≡ true → (call_at (core_of s) t).keeps ≡ true
    → rest_of (record (call_of me) { keeps = true }) ≡ rest_of (record (call_of (thread_at s t)) { keeps = true }) → me.pending ≡ rest → Guarded s.image (call_at (core_of s) t).checked rest
    → Marks (core_of s) t rest me.keeps_own y init → Move (core_of s) t act (core_of (with_thread (with_object s y (record (object_at s y) { init = init })) t me))
mark_moves s t act y init me rest q keeps f h g m =
    let o = record (object_at s y) { init = init } in
    let call : Call = record (call_at (core_of s) t) { pending = rest; keeps = me.keeps_own } in
    let kept : rest_of (record (call_of me) { keeps = true }) ≡ rest_of (record (call_at (core_of s) t) { keeps = true }) = f ∙ ap (λ (cl : Call). rest_of (record cl { keeps = true })) (sym (call_is s t)) in
    subst (λ (c : Core). Move (core_of s) t act c)
    (sym (core-thread (with_object s y o) (with_init (core_of s) y init) t me call (core-init s y o refl refl) (λ i. record (kept i) { pending = h i; keeps = me.keeps_own })))
    (marks rest me.keeps_own y init q g keeps m)

pub done_init : (gone strict init : Bool) (e f : Errno) → (if gone then (if strict then SetSaid.Fail e else SetSaid.Gone) else if strict && init then SetSaid.Fail f else SetSaid.Done) ≡ SetSaid.Done
    → strict ≡ true → init ≡ false
done_init true true init e f h k = cc
done_init true false init e f h k = cc
done_init false true true e f h k = cc
done_init false true false e f h k = refl
done_init false false init e f h k = cc

pub gone_loose : (gone strict init : Bool) (e f : Errno) → (if gone then (if strict then SetSaid.Fail e else SetSaid.Gone) else if strict && init then SetSaid.Fail f else SetSaid.Done) ≡ SetSaid.Gone → strict ≡ false
gone_loose true true init e f h = cc
gone_loose true false init e f h = refl
gone_loose false true true e f h = cc
gone_loose false true false e f h = cc
gone_loose false false init e f h = refl

pub set_moves : (s : State) (t : ℕ) (a : Addr) (strict : Bool) (undo : Option Addr) (rest : Steps) (said : SetSaid) → set_said (object_at s (row_of s a)) strict ≡ said → IsReady (core_of s) t (Pending.SetInit a strict undo) rest
    → Move (core_of s) t (Act.SetInit a said) (core_of (went rest (wrote (only (is_done said) (Effect.object (row_of s a) (Edit.inits true)) ∷ []) s) t (Next.on Change.nothing (set_way (thread_at s t).mode undo said))))
set_moves s t a strict None rest SetSaid.Done said ready =
    let y = row_of s a in
    let keeps = ready.1.2 in
    let own : (thread_at s t).keeps_own ≡ true = ap (λ (call : Call). call.keeps) (mine s t) ∙ keeps in
    mark_moves s t (Act.SetInit a SetSaid.Done) y true (at_steps s.image (thread_at s t) rest) rest refl keeps refl refl ready.0
    (sets own ready.1.0.1
    (λ w h.
    let (tight, real, there, held) = ready.1.0.0 w h in
    let same_row = row_is s a (own_row s.image w) there in
    inr (
      real,
      sym same_row,
      subst (λ (n : ℕ). slice_index_or (call_at (core_of s) t).checked n false ≡ true) (sym same_row) held,
      init_is s y ∙ done_init (is_gone (object_at s y).status) strict (object_at s y).init Errno.EBADF Errno.EADDRINUSE said tight,
    )))
set_moves s t a strict (Some b) rest SetSaid.Done said ready =
    let keeps = ready.1.2 in
    let own : (thread_at s t).keeps_own ≡ true = ap (λ (call : Call). call.keeps) (mine s t) ∙ keeps in
    mark_moves s t (Act.SetInit a SetSaid.Done) (row_of s a) true (at_steps s.image (thread_at s t) rest) rest refl keeps refl refl ready.0 (sets own ready.1.0.2 (λ w h. inl (ready.1.1 w h)))
set_moves s t a strict None rest SetSaid.Gone said ready =
    let y = row_of s a in
    let loose = gone_loose (is_gone (object_at s y).status) strict (object_at s y).init Errno.EBADF Errno.EADDRINUSE said in
    goes refl (turn s t (at_steps s.image (thread_at s t) rest) rest refl refl (ready.0, (ready.1.0.1, (λ w h. let tight = (ready.1.0.0 w h).0 in cc), ready.1.2)))
set_moves s t a strict (Some b) rest SetSaid.Gone said ready = goes refl (turn s t (at_steps s.image (thread_at s t) rest) rest refl refl (ready.0, (ready.1.0.2, ready.1.1, ready.1.2)))
set_moves s t a strict None rest (SetSaid.Fail e) said ready =
    goes refl (turn s t (at_steps s.image (thread_at s t) (refuses (thread_at s t).mode (Cause.Refused e))) (refuses (thread_at s t).mode (Cause.Refused e)) refl refl (tt, (tt, (λ w h. cc), ready.1.2)))
set_moves s t a strict (Some b) rest (SetSaid.Fail e) said ready =
    let (there, claimed, shaped) = ready.1.0 in
    let steps = Pending.ClearInit b ∷ refuses (thread_at s t).mode (Cause.Refused e) in
    goes refl (turn s t (at_steps s.image (thread_at s t) steps) steps refl refl
    (tt, (there, (λ w h. ready.1.1 w (subst (λ (n : ℕ). claims s.image n rest ≡ true) (is_equal (thread_of_addr s.image b.0) w h) claimed)), ready.1.2)))

-- two indices with one row of their own are one
pub one_owner : (image : Image) (v w : ℕ) → IsReal image v → IsReal image w → own_row image v ≡ own_row image w → v ≡ w
one_owner image v w one two e = let again : thread_of_row image (own_row image w) ≡ Some v = subst (λ (x : ℕ). thread_of_row image x ≡ Some v) e one.1 in some_index (again) two.1
  where
    some_index : thread_of_row image (own_row image w) ≡ Some v → thread_of_row image (own_row image w) ≡ Some w → v ≡ w
    some_index h k = cc

pub clear_moves : (s : State) (t : ℕ) (a : Addr) (rest : Steps) → IsKnown (core_of s) → IsReady (core_of s) t (Pending.ClearInit a) rest
    → Move (core_of s) t (Act.ClearInit a) (core_of (after s t 0 (Pending.ClearInit a) rest))
clear_moves s t a [] inv ready =
    let me = thread_at s t in
    let y = row_of s a in
    let own = row_is s a (own_row s.image t) ready.1.0.1 in
    mark_moves s t (Act.ClearInit a) y false (at_steps s.image (record me { keeps_own = me.keeps_own && not (y == own_row s.image t) }) []) [] refl ready.1.2 refl refl ready.0
    (leaves (and_is me.keeps_own (y == own_row s.image t) (equals y (own_row s.image t) own)) own refl ready.1.0.0)
clear_moves s t a (Pending.Fatal reason cause ∷ rest) inv ready =
    let me = thread_at s t in
    let c = core_of s in
    let y = row_of s a in
    let who = thread_of_addr s.image a.0 in
    let keeps = ready.1.2 in
    let own : me.keeps_own ≡ true = ap (λ (call : Call). call.keeps) (mine s t) ∙ keeps in
    let there : y ≡ own_row s.image who = row_is s a (own_row s.image who) ready.1.0 in
    let claimed : claims s.image who (call_at c t).pending ≡ true = ready.1.1 who (equals who who refl) in
    let real = inv.claimed.claimed t who claimed in
    let free = inv.claimed.free t who claimed in
    let apart : (w : ℕ) → (call_at c w).keeps ≡ true → own_row s.image w ≢ y =
    λ w k e. let one = one_owner s.image w who (inv.claimed.real w k) real (e ∙ there) in let kept : (call_at c who).keeps ≡ true = subst (λ (n : ℕ). (call_at c n).keeps ≡ true) one k in absurd (cc) in
    mark_moves s t (Act.ClearInit a) y false (at_steps s.image (record me { keeps_own = me.keeps_own && not (y == own_row s.image t) }) (Pending.Fatal reason cause ∷ rest)) (Pending.Fatal reason cause ∷ rest)
    refl keeps refl refl ready.0
    (clears (and_not me.keeps_own (y == own_row s.image t) own (differs y (own_row s.image t) (λ e. apart t keeps (sym e)))) tt (λ w. refl) apart
    (λ u w h e. let one = one_owner s.image w who (inv.claimed.claimed u w h) real (e ∙ there) in inv.claimed.sole u t who (subst (λ (n : ℕ). claims s.image n (call_at c u).pending ≡ true) one h) claimed))
clear_moves s t a (Pending.ClearInit b ∷ []) inv ready =
    let me = thread_at s t in
    let c = core_of s in
    let y = row_of s a in
    let keeps = ready.1.2 in
    let own : me.keeps_own ≡ true = ap (λ (call : Call). call.keeps) (mine s t) ∙ keeps in
    let (bare, (z, e, none), last) = ready.1.0 in
    let there : y ≡ z = row_is s a z e in
    let no_real = λ (w : ℕ) (real : IsReal s.image w) (f : own_row s.image w ≡ y). no_index s.image w z real none (f ∙ there) in
    let apart : (w : ℕ) → (call_at c w).keeps ≡ true → own_row s.image w ≢ y = λ w k f. no_real w (inv.claimed.real w k) f in
    mark_moves s t (Act.ClearInit a) y false (at_steps s.image (record me { keeps_own = me.keeps_own && not (y == own_row s.image t) }) (Pending.ClearInit b ∷ [])) (Pending.ClearInit b ∷ [])
    refl keeps refl refl ready.0
    (clears (and_not me.keeps_own (y == own_row s.image t) own (differs y (own_row s.image t) (λ f. apart t keeps (sym f)))) (bare, last) (λ w. refl) apart
    (λ u w h f. absurd (no_real w (inv.claimed.claimed u w h) f)))
  where
    no_index : (image : Image) (w z : ℕ) → IsReal image w → thread_of_row image z ≡ None → own_row image w ≡ z → ⊥
    no_index image w z real none e = let again : thread_of_row image z ≡ Some w = subst (λ (x : ℕ). thread_of_row image x ≡ Some w) e real.1 in cc
clear_moves s t a (Pending.ClearInit b ∷ p ∷ rest) inv ready = absurd ready.1.0
clear_moves s t a (p ∷ rest) inv ready = absurd ready.1.0
