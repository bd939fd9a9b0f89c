-- A thread is started, and threads are doomed.
use Rattle.std.proofs.Common.{◌≡◌, ◌≢◌, inl, inr, ◌≤◌, ◌<◌, ℕ, ◌+◌, ◌-◌, Bool, true, false, ◌==◌, ◌&&◌, ◌||◌, not, nat_lt, [], ◌∷◌, length, refl, sym, ap, subst, ◌∙◌, arith, Some, None, slice_index_or, if◌then◌else◌}
use Rattle.std.proofs.lemmas.List.{length-set, get_or-set_other, get_or-set_same}
use Rattle.std.proofs.lemmas.Bool.{ltb-true}
use Rattle.um_base.specs.declared.image.Image.{Image}
use Rattle.um_base.specs.declared.limits.TheConstants.{STATIC_THREADS, STATIC_ROWS, ROWS, THREADS}
use Rattle.um_base.specs.declared.names.Mode.{Mode}
use Rattle.um_base.specs.declared.names.Row.{Row}
use Rattle.um_base.specs.declared.names.ThreadIx.{ThreadIx}
use Rattle.um_base.specs.Lawful.{IsLawful}
use Rattle.um_base.specs.Places.{setup_at, setup_thread, own_row}
use Rattle.um_machine.specs.declared.pending.Pending.{Pending}
use Rattle.um_machine.specs.declared.thread.Life.TheVariants as Life
use Rattle.um_machine.specs.declared.thread.Thread.{Thread}
use Rattle.um_machine.specs.Order.{Steps}
use Rattle.um_machine.specs.State.{State, nobody, no_rows, thread_at, with_thread, is_living}
use Rattle.um_machine.specs.Table.{after, at_steps, newborn, next_doom}
use Rattle.um_invariants.specs.Lines.{stands}
use Rattle.um_invariants.proofs.Claims.{claims, IsReal}
use Rattle.um_invariants.proofs.Cores.{at_set, Call, core_of, call_at, call_is}
use Rattle.um_invariants.proofs.Facts.{is_not, itself, differs, none_checked}
use Rattle.um_invariants.proofs.SitedImages.{index_small}
use Rattle.um_invariants.proofs.Turns.{IsKnown}
use Rattle.um_invariants.proofs.ThreadCounts.{equal_or_not}
use Rattle.um_invariants.proofs.ThreadCells.{cell}
use Rattle.um_invariants.proofs.ThreadWaits.{times}
use Rattle.um_invariants.proofs.ThreadPairs.{pass-dropped}
use Rattle.um_invariants.proofs.ThreadSteps.{plain-dooms}
use Rattle.um_invariants.proofs.ThreadWords.{is_on, is_resting, may_stand, IsFramed, are_plain, is_resume, IsOrderly, AreDue, AreKept, IsMade, IsOffered}
use Rattle.um_invariants.proofs.ThreadFrames.{alike-self, alike-framed, plain-orderly, plain-from, written-kept}

-- a thread with a row of its own is one of the machine's
real-inside : (image : Image) → IsLawful image → (x w : ℕ) (low inside : Bool) → nat_lt x STATIC_ROWS ≡ low → nat_lt (STATIC_THREADS + (x - STATIC_ROWS)) THREADS ≡ inside
    → (if low then setup_thread (setup_at image x) else if inside then Some (STATIC_THREADS + (x - STATIC_ROWS)) else None) ≡ Some w → w < THREADS
real-inside image lawful x w true inside e f h = let small = index_small image.objects 0 x w lawful.indices h in omega (arith, small)
real-inside image lawful x w false true e f h =
    let below : STATIC_THREADS + (x - STATIC_ROWS) < THREADS = ltb-true (STATIC_THREADS + (x - STATIC_ROWS)) THREADS f in
    let same : STATIC_THREADS + (x - STATIC_ROWS) ≡ w = cc in omega (arith, below, same)
real-inside image lawful x w false false e f h = cc

pub real-below : (image : Image) → IsLawful image → (w : ℕ) → IsReal image w → w < THREADS
real-below image lawful w real =
    let x = own_row image w in real-inside image lawful x w (nat_lt x STATIC_ROWS) (nat_lt (STATIC_THREADS + (x - STATIC_ROWS)) THREADS) refl refl real.1

-- who is claimed is in no call and doesn't live
record IsFree (s : State) (t who : ℕ) : Type 0 where
  below : who < THREADS
  rests : (thread_at s who).pending ≡ []
  lives : is_living (thread_at s who).life ≡ false

claimed-free : (s : State) (t who : ℕ) → IsKnown (core_of s) → IsLawful s.image → claims s.image who (thread_at s t).pending ≡ true → IsFree s t who
claimed-free s t who known lawful h =
    let claim : claims s.image who (call_at (core_of s) t).pending ≡ true = ap (λ (call : Call). claims s.image who call.pending) (call_is s t) ∙ h in
    let free = known.claimed.free t who claim in
    record {
      below = real-below s.image lawful who (known.claimed.claimed t who claim);
      rests = ap (λ (call : Call). call.pending) (sym (call_is s who)) ∙ known.claimed.idle who free;
      lives = ap (λ (call : Call). call.living) (sym (call_is s who)) ∙ is_not (call_at (core_of s) who).living (λ yes. (let keeps = known.claimed.living who yes in absurd (let bad : true ≡ false = sym keeps ∙ free in cc)));
    }

-- a thread that begins to live goes on with its line, or stands still
born-stands : (me : Thread) → me.pending ≡ [] → me.life ≡ Life.Living → (doomed : Bool) → me.doomed ≡ doomed → may_stand me ≡ true
born-stands me e f true d = rw (e, f, d) refl
born-stands me e f false d = rw (e, f, d) refl

pub idle-off : (me : Thread) → me.pending ≡ [] → is_on me ≡ false
idle-off me e = rw e refl

born-framed : (x y : Thread) → x.pending ≡ [] → may_stand y ≡ true → IsFramed x true y
born-framed x y e h = record {
  runs = λ on. absurd (let bad : true ≡ false = sym on ∙ idle-off x e in cc);
  goes = λ step. inr refl;
  stays = λ stand. h;
  comes = λ came. h;
}

no-due : (r : ℕ) → slice_index_or no_rows r false ≡ true → ⊥
no-due r h = let none : slice_index_or no_rows r false ≡ false = none_checked r ROWS in absurd (let bad : true ≡ false = sym h ∙ none in cc)

pub start-made : (s : State) (t x : ℕ) (who : ThreadIx) (script : ℕ) (stack : Row) (priority : _) (mode : Mode) (rest : Steps) → AreKept s → IsKnown (core_of s) → IsLawful s.image
    → IsOffered s t (Pending.Start who script stack priority mode) rest → IsMade s t (who.0 ∷ []) (after s t x (Pending.Start who script stack priority mode) rest)
start-made s t x who script stack priority mode rest kept known lawful offered =
    let u0 = who.0 in
    let claim : claims s.image u0 (thread_at s t).pending ≡ true = offered.claim u0 (itself u0) in
    let free = claimed-free s t u0 known lawful claim in
    let child = newborn s (thread_at s t) u0 script (Pending.Start who script stack priority mode) in
    let s2 = with_thread s u0 child in
    let other : t ≢ u0 = λ same. (let none : (thread_at s t).pending ≡ [] = subst (λ (n : ℕ). (thread_at s n).pending ≡ []) (sym same) free.rests in
    let claim_none : claims s.image u0 [] ≡ true = subst (λ (steps : Steps). claims s.image u0 steps ≡ true) none claim in cc) in
    let awake : (y : ℕ) → times u0 (cell s y) ≡ 0 = λ y. elim (equal_or_not (times u0 (cell s y)) 0) [
      | inl none ↦ none
      | inr some ↦ absurd (let waits = kept.waits y u0 (omega (arith, some)) in let bad : is_resume [] ≡ true = subst (λ (steps : Steps). is_resume steps ≡ true) free.rests waits.0 in cc)
    ] in
    let kept2 : AreKept s2 = written-kept s u0 child kept awake (record { steps = refl; from = tt; told = λ e. refl }) (λ r h. absurd (no-due r h)) in
    let mine_is : thread_at s2 t ≡ thread_at s t = get_or-set_other s.threads u0 t child nobody other in
    let me = at_steps s2.image (record (thread_at s2 t) { child = None }) rest in
    let told : (thread_at s2 t).told ≡ None = ap (λ (th : Thread). th.told) mine_is ∙ offered.told refl in
    record {
      kept = written-kept s2 t me kept2 offered.apart (record { steps = plain-orderly rest offered.behind; from = plain-from rest me.due offered.behind; told = λ e. told })
          (λ r h. pass-dropped s.image s.pairs t (thread_at s2 t).child r (kept2.due t r h));
      others = λ u apart. (
          let here : thread_at (with_thread s2 t me) u ≡ thread_at s2 u = get_or-set_other s2.threads t u me nobody apart in
          subst (λ (th : Thread). IsFramed (thread_at s u) (stands (u0 ∷ []) u) th) (sym here) (
          elim (equal_or_not u u0) [
            | inl same ↦ (
                let within : u0 < length s.threads = let many = kept.many in let below = free.below in omega (arith, many, below) in
                let new : thread_at s2 u0 ≡ child = get_or-set_same s.threads u0 child nobody within in
                let framed : IsFramed (thread_at s u0) true (thread_at s2 u0) = born-framed (thread_at s u0) (thread_at s2 u0) free.rests (rw new (born-stands child refl refl child.doomed refl)) in
                let listed : stands (u0 ∷ []) u0 ≡ true = rw (itself u0) refl in
                subst (λ (n : ℕ). IsFramed (thread_at s n) (stands (u0 ∷ []) n) (thread_at s2 n)) (sym same) (subst (λ (b : Bool). IsFramed (thread_at s u0) b (thread_at s2 u0)) (sym listed) framed))
            | inr apart_from ↦ (
                let old : thread_at s2 u ≡ thread_at s u = get_or-set_other s.threads u0 u child nobody apart_from in
                let unlisted : stands (u0 ∷ []) u ≡ false = rw (differs u u0 apart_from) refl in
                subst (λ (b : Bool). IsFramed (thread_at s u) b (thread_at s2 u)) (sym unlisted) (subst (λ (th : Thread). IsFramed (thread_at s u) false th) (sym old) (alike-framed (thread_at s u) (thread_at s u) (alike-self (thread_at s u)))))
          ]));
      apart = rw (differs t u0 other) refl;
    }

-- Dooms.

-- a thread is doomed, and what is kept doesn't tell
doomed-kept : (s : State) (from : ℕ) → AreKept s → AreKept (with_thread s from (record (thread_at s from) { doomed = true }))
doomed-kept s from kept =
    let me = record (thread_at s from) { doomed = true } in
    let was = kept.orderly from in
    record {
      many = length-set s.threads from me ∙ kept.many;
      orderly = λ u. at_set (λ n (other : Thread). IsOrderly other) s.threads from u me nobody (record { steps = was.steps; from = was.from; told = was.told }) (kept.orderly u);
      due = λ u. at_set (λ n (other : Thread). AreDue s.image s.pairs n other) s.threads from u me nobody (kept.due from) (kept.due u);
      waits = λ x u h. at_set (λ n (other : Thread). 1 ≤ times n (cell s x) → (is_resume other.pending ≡ true) × (other.told ≡ None)) s.threads from u me nobody (kept.waits x from) (kept.waits x u) h;
      once = kept.once;
      sole = kept.sole;
    }

doomed-step : (on resting empty doomed : Bool) → (on || (resting && not true)) ≡ true → (on || (resting && not doomed)) ≡ true
doomed-step true resting empty doomed h = refl
doomed-step false true empty doomed h = cc
doomed-step false false empty doomed h = cc

doomed-stand : (on lives empty doomed : Bool) → ((on || ((lives && empty) && not doomed)) || (doomed && empty)) ≡ true → ((on || ((lives && empty) && not true)) || (true && empty)) ≡ true
doomed-stand true lives empty doomed h = refl
doomed-stand false lives true doomed h = last lives
  where
    last : (lives : Bool) → ((lives && true) && false || true) ≡ true
    last true = refl
    last false = refl
doomed-stand false true false true h = cc
doomed-stand false true false false h = cc
doomed-stand false false false true h = cc
doomed-stand false false false false h = cc

doomed-framed : (x : Thread) → IsFramed x false (record x { doomed = true })
doomed-framed x = record {
  runs = λ h. (h, refl);
  goes = λ h. inl (doomed-step (is_on x) (is_resting x) true x.doomed h);
  stays = λ h. doomed-stand (is_on x) (is_living x.life) (length x.pending == 0) x.doomed h;
  comes = λ h. cc;
}

pub doom-made : (s : State) (t x from : ℕ) (rest : Steps) → AreKept s → IsOffered s t (Pending.Dooms from) rest → IsMade s t [] (after s t x (Pending.Dooms from) rest)
doom-made s t x from rest kept offered =
    let doomed = record (thread_at s from) { doomed = true } in
    let s2 = with_thread s from doomed in
    let steps = next_doom from in
    let me = record (thread_at s2 t) { pending = steps } in
    let plain : are_plain steps ≡ true = plain-dooms (nat_lt (from + 1) THREADS) from in
    let told : (thread_at s2 t).told ≡ None = at_set (λ n (other : Thread). (thread_at s n).told ≡ None → other.told ≡ None) s.threads from t doomed nobody (λ e. e) (λ e. e) (offered.told refl) in
    let kept2 = doomed-kept s from kept in
    record {
      kept = written-kept s2 t me kept2 offered.apart (record { steps = plain-orderly steps plain; from = plain-from steps me.due plain; told = λ e. told }) (kept2.due t);
      others = λ u apart. (
          let here : thread_at (with_thread s2 t me) u ≡ thread_at s2 u = get_or-set_other s2.threads t u me nobody apart in
          subst (λ (th : Thread). IsFramed (thread_at s u) false th) (sym here)
          (at_set (λ n (other : Thread). IsFramed (thread_at s n) false other) s.threads from u doomed nobody (doomed-framed (thread_at s from)) (alike-framed (thread_at s u) (thread_at s u) (alike-self (thread_at s u)))));
      apart = refl;
    }
