-- Steps of a thread that start, doom and wake nobody: what holds of the threads is kept by each way to go on.
use Rattle.std.proofs.Common.{◌≡◌, ◌≢◌, ◌≤◌, ℕ, zero, suc, ◌+◌, Bool, true, false, ◌&&◌, not, List, [], ◌∷◌, map, take, refl, sym, subst, ◌∙◌, arith, Option, Some, None, slice_index_or, slice_set}
use Rattle.std.proofs.lemmas.Bool.{not-true, true≢false}
use Rattle.std.specs.List.{list_all}
use Rattle.std.proofs.lemmas.List.{get_or-set_other}
use Rattle.um_base.specs.declared.names.Errno.{Errno}
use Rattle.um_base.specs.declared.names.ThreadIx.{ThreadIx}
use Rattle.um_base.specs.Places.{own_row}
use Rattle.um_machine.specs.declared.pending.Pending.{Pending}
use Rattle.um_machine.specs.declared.thread.Thread.{Thread}
use Rattle.um_machine.specs.Goes.{Change, Next, at_end, at_steps, changed, gone, held, rows_to_pass, steps_by, told_way, went, with_answer, with_begin}
use Rattle.um_machine.specs.Order.{Steps, steps_of, end_steps, fatal_steps}
use Rattle.um_machine.specs.Run.{MayChoose}
use Rattle.um_machine.specs.State.{State, no_rows, thread_at, with_thread}
use Rattle.um_machine.specs.Table.{after}
use Rattle.um_machine.specs.Writes.{Effect, wrote}
use Rattle.um_machine.proofs.AfterLemmas.{after-is}
use Rattle.um_machine.proofs.EffectLemmas.{effects_of, next_of}
use Rattle.um_invariants.proofs.Facts.{both_of}
use Rattle.um_invariants.proofs.ThreadWords.{are_plain, are_orderly, DueFrom, is_resume, AreDue, AreKept, IsMade, IsBase, IsOffered}
use Rattle.um_invariants.proofs.ThreadFrames.{alike-framed, plain-orderly, plain-from, base-kept, writes}
use Rattle.um_invariants.proofs.ThreadPairs.{is_calm, base-wrote, drop-off, pass-held}
use Rattle.um_invariants.proofs.ThreadSteps.{plain-steps, plain-way, fatal-orderly, end-orderly, IsEnd}

-- flags of rows by a test of each
held-flag : (f : List Bool → Bool) → f [] ≡ false → (pairs : List (List Bool)) (r : ℕ) → slice_index_or (map f pairs) r false ≡ true → f (slice_index_or pairs r []) ≡ true
held-flag f none [] r h = absurd (let bad : true ≡ false = sym h in cc)
held-flag f none (row ∷ pairs) zero h = h
held-flag f none (row ∷ pairs) (suc r) h = held-flag f none pairs r h

set-false : (flags : List Bool) (x : ℕ) → slice_index_or (slice_set flags x false) x false ≡ false
set-false [] x = refl
set-false (flag ∷ flags) zero = refl
set-false (flag ∷ flags) (suc x) = set-false flags x

-- before the first of some flags none is set
none-before : (flags : List Bool) (x r : ℕ) → list_all not (take x flags) ≡ true → slice_index_or flags r false ≡ true → x ≤ r
none-before [] x r h g = absurd (let bad : true ≡ false = sym g in cc)
none-before (flag ∷ flags) zero r h g = omega arith
none-before (flag ∷ flags) (suc x) zero h g = absurd (let off = not-true flag (both_of _ _ h).0 in let bad : true ≡ false = sym g ∙ off in cc)
none-before (flag ∷ flags) (suc x) (suc r) h g = let rest = none-before flags x r (both_of _ _ h).1 g in omega (arith, rest)

module _ (s : State) (kept : AreKept s) (t : ℕ) (p : Pending) (rest : Steps) (o : IsOffered s t p rest) where
  module _ (u : State) (base : IsBase s u) where
    -- what the step gives, for each way to go on
    abbrev Goes : Next → Type 0
    Goes (Next.resumes told) = Unit {0}
    Goes (Next.inherits who) = (is_resume (p ∷ rest) ≡ false) × (are_orderly (Pending.Inherit who ∷ rest) ≡ true)
    Goes (Next.drops from) = (is_resume (p ∷ rest) ≡ false) × (are_orderly (Pending.Drops from ∷ rest) ≡ true) × DueFrom (Pending.Drops from ∷ rest) (thread_at u t).due
    Goes Next.starts = ⊥
    Goes (Next.dooms from) = ⊥
    Goes next = is_resume (p ∷ rest) ≡ false

    untold : is_resume (p ∷ rest) ≡ false → (thread_at u t).told ≡ None
    untold e = (base.alike t).told ∙ o.told e

    -- it has other steps, and the same due
    on : (me : Thread) (steps : Steps) → me.told ≡ None → me.child ≡ (thread_at u t).child → me.due ≡ (thread_at u t).due → are_plain steps ≡ true → IsMade s t [] (with_thread u t (at_steps u.image me steps))
    on me steps told child due plain =
        writes s kept t p rest o u (at_steps u.image me steps) base (record { steps = plain-orderly steps plain; from = plain-from steps me.due plain; told = λ e. told })
        (λ r h. rw child (base.due t r (rw due at h)))

    changes : (change : Change) (steps : Steps) → is_resume (p ∷ rest) ≡ false → are_plain steps ≡ true → IsMade s t [] (with_thread u t (at_steps u.image (changed change (thread_at u t)) steps))
    changes Change.nothing steps e plain = on (thread_at u t) steps (untold e) refl refl plain
    changes change steps e plain = on (changed change (thread_at u t)) steps (untold e) refl refl plain

    checks : (x : ℕ) (v : Option Errno) (steps : Steps) → is_resume (p ∷ rest) ≡ false → are_plain steps ≡ true → IsMade s t [] (with_thread u t (at_steps u.image (held x v (thread_at u t)) steps))
    checks x None steps e plain = on (held x None (thread_at u t)) steps (untold e) refl refl plain
    checks x (Some error) steps e plain = on (thread_at u t) steps (untold e) refl refl plain

    creates : (who : ThreadIx) → is_resume (p ∷ rest) ≡ false → IsMade s t [] (went rest u t (Next.creates who))
    creates who e =
        let mine = own_row u.image t in
        let rows = rows_to_pass u t who.0 in
        let me = gone rest u t (Next.creates who) (thread_at u t) in
        let passes : AreDue u.image u.pairs t me = λ r h. (
        let other : r ≢ mine = λ same. (let here : slice_index_or (slice_set rows mine false) mine false ≡ true = subst (λ (n : ℕ). slice_index_or (slice_set rows mine false) n false ≡ true) same h in let off = set-false rows mine in absurd (let bad : true ≡ false = sym here ∙ off in cc)) in
        let row : slice_index_or rows r false ≡ true = sym (get_or-set_other rows mine r false false other) ∙ h in
        let two = both_of _ _ (held-flag (λ (holders : List Bool). slice_index_or holders t false && not (slice_index_or holders who.0 false)) refl u.pairs r row) in
        (two.0, not-true _ two.1, other)) in
        writes s kept t p rest o u me base (record { steps = plain-orderly rest o.behind; from = plain-from rest me.due o.behind; told = λ f. untold e }) passes

    ends : (steps : Steps) → IsEnd steps → IsMade s t [] (with_thread u t (at_end u t (thread_at u t) steps))
    ends steps end =
        let me = at_end u t (thread_at u t) steps in
        writes s kept t p rest o u me base (record { steps = end.0; from = end.1 me.due; told = λ e. refl }) (λ r h. held-flag (λ (flags : List Bool). slice_index_or flags t false) refl u.pairs r h)

    stays : IsMade s t [] u
    stays = record { kept = base-kept s u kept base; others = λ v other. alike-framed (thread_at s v) (thread_at u v) (base.alike v); apart = refl }

    -- however it goes on
    goes-made : (next : Next) → Goes next → IsMade s t [] (went rest u t next)
    goes-made Next.stays h = stays
    goes-made (Next.begins None) h = stays
    goes-made (Next.resumes None) h = stays
    goes-made (Next.on change way) h = changes change (steps_by rest way) h (plain-way rest way o.behind)
    goes-made (Next.checks x v way) h = checks x v (steps_by rest way) h (plain-way rest way o.behind)
    goes-made (Next.answers to reply) h =
        on (record (thread_at u t) { checked = no_rows; until = None; registers = with_answer (thread_at u t).registers to reply }) rest (untold h) refl refl o.behind
    goes-made (Next.owns keeps) h = on (record (thread_at u t) { keeps_own = (thread_at u t).keeps_own && keeps }) rest (untold h) refl refl o.behind
    goes-made (Next.begins (Some instr)) h =
        let me = thread_at u t in on (record me { registers = with_begin me.registers instr }) (steps_of u.image t me instr) (untold h) refl refl (plain-steps u.image t me instr)
    goes-made (Next.resumes (Some told)) h =
        on (record (thread_at u t) { told = None; reply = told.reply; buffer = told.taken }) (steps_by rest (told_way told.reply)) refl refl refl (plain-way rest (told_way told.reply) o.behind)
    goes-made (Next.creates who) h = creates who h
    goes-made Next.starts h = absurd h
    goes-made (Next.inherits who) h = writes s kept t p rest o u (gone rest u t (Next.inherits who) (thread_at u t)) base (record { steps = h.1; from = tt; told = λ e. untold h.0 }) (base.due t)
    goes-made (Next.drops from) h = writes s kept t p rest o u (gone rest u t (Next.drops from) (thread_at u t)) base (record { steps = h.1; from = h.2; told = λ e. untold h.0 }) (base.due t)
    goes-made (Next.dooms from) h = absurd h
    goes-made (Next.enters script) h = writes s kept t p rest o u (gone rest u t (Next.enters script) (thread_at u t)) base (record { steps = refl; from = tt; told = λ e. untold h }) (base.due t)
    goes-made Next.exits h = ends (end_steps u.image t (thread_at u t)) (end-orderly u.image t (thread_at u t))
    goes-made (Next.fatal reason) h = ends (fatal_steps u.image t (thread_at u t) reason u.image.policy) (fatal-orderly u.image t (thread_at u t) reason u.image.policy)

  -- no row before the one that is dropped is due, and that one isn't any more
  drops-later : (x from : ℕ) → MayChoose s t x (Pending.Drops from) → IsBase s (wrote (effects_of s t x (Pending.Drops from)) s)
      → DueFrom (Pending.Drops (x + 1) ∷ rest) (thread_at (wrote (effects_of s t x (Pending.Drops from)) s) t).due
  drops-later x from chosen base r h =
      let u = wrote (effects_of s t x (Pending.Drops from)) s in
      let least : x ≤ r = none-before (thread_at s t).due x r chosen.2 ((base.alike t).due r h) in
      let other : r ≢ x = λ same. (
      let here : slice_index_or (thread_at u t).due x false ≡ true = subst (λ (n : ℕ). slice_index_or (thread_at u t).due n false ≡ true) same h in
      let held = pass-held u.image u.pairs t (thread_at u t).child x (base.due t x here) in
      let off = drop-off s t x in absurd (let bad : true ≡ false = sym held ∙ off in cc)) in
      omega (arith, least, other)

abbrev IsCalm : State → ℕ → ℕ → Pending → Type 0
IsCalm s t x p = list_all (λ (w : Bool × Effect). is_calm w.1) (effects_of s t x p) ≡ true

fits : (s : State) (kept : AreKept s) (t x : ℕ) (p : Pending) (rest : Steps) (o : IsOffered s t p rest) (base : IsBase s (wrote (effects_of s t x p) s)) → IsCalm s t x p → MayChoose s t x p
    → Goes s kept t p rest o (wrote (effects_of s t x p) s) base (next_of s t x p)
fits s kept t x Pending.Resume rest o base calm chosen = tt
fits s kept t x (Pending.Inherit who) rest o base calm chosen = (refl, o.first)
fits s kept t x (Pending.Drops from) rest o base calm chosen = (refl, o.first, drops-later s kept t (Pending.Drops from) rest o x from chosen base)
fits s kept t x (Pending.Start who script stack priority mode) rest o base calm chosen = absurd (true≢false (sym calm))
fits s kept t x (Pending.Dooms from) rest o base calm chosen = absurd (true≢false (sym calm))
fits s kept t x p rest o base calm chosen = refl

pub calm-made : (s : State) (t x : ℕ) (p : Pending) (rest : Steps) → AreKept s → IsOffered s t p rest → IsCalm s t x p → MayChoose s t x p → IsMade s t [] (after s t x p rest)
calm-made s t x p rest kept o calm chosen =
    let u = wrote (effects_of s t x p) s in
    let base = base-wrote s kept (effects_of s t x p) calm in
    subst (IsMade s t []) (sym (after-is s t x p rest)) (goes-made s kept t p rest o u base (next_of s t x p) (fits s kept t x p rest o base calm chosen))
