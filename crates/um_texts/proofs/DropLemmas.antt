-- A drop is known by its thread and its object, whichever step makes it.
use Rattle.std.proofs.Common.{◌≡◌, inl, inr, ℕ, ◌+◌, ◌-◌, ◌<◌, ◌≤◌, Bool, true, false, ◌&&◌, ◌||◌, List, [], ◌∷◌, length, refl, sym, ap, ◌∙◌, arith, Option, Some, None, map, unwrap_or}
use Rattle.std.specs.Prelude.{nat_lt, nat_le, position}
use Rattle.std.proofs.Math.Seq.{map-set_same}
use Rattle.std.proofs.lemmas.Bool.{and_parts, cases_lt}
use Rattle.std.proofs.lemmas.Bool.Decides.{nat_tests}
use Rattle.std.proofs.lemmas.List.Quantifiers.{position-Some}
use Rattle.um_base.specs.declared.act.Act.{Act}
use Rattle.um_base.specs.declared.image.Image.{Image}
use Rattle.um_base.specs.declared.image.ObjectDef.{ObjectDef}
use Rattle.um_base.specs.declared.image.Setup.{Setup}
use Rattle.um_base.specs.declared.limits.TheConstants.{STATIC_ROWS, ROWS, STATIC_THREADS}
use Rattle.um_base.specs.declared.names.Addr.{Addr}
use Rattle.um_base.specs.declared.names.Kind.{Kind}
use Rattle.um_base.specs.declared.names.Reply.{Reply}
use Rattle.um_base.specs.declared.names.ThreadIx.{ThreadIx}
use Rattle.um_base.specs.Places.{addr_of, own_row, row_at, is_thread_index}
use Rattle.um_machine.specs.declared.object.Object.{Object}
use Rattle.um_machine.specs.declared.pending.Pending.{Pending}
use Rattle.um_machine.specs.declared.thread.Thread.{Thread}
use Rattle.um_machine.specs.State.{State, nobody, vacant, thread_at, object_at, pair_at, with_thread, with_object}
use Rattle.um_machine.specs.Objects.{is_gone}
use Rattle.um_machine.specs.Order.{Steps, to_addr, to_thread}
use Rattle.um_machine.specs.Run.{Offers, goes, skips_inherit, skips_drops, tends, MayChoose}
use Rattle.um_machine.specs.Goes.{at_steps}
use Rattle.um_machine.specs.Readings.{dropped, row_of}
use Rattle.um_machine.specs.Table.{act_of, after}
use Rattle.um_machine.specs.Writes.{drops as drop_writes, wrote}
use Rattle.um_texts.proofs.IdentityLemmas.{is_real, has_own, static_own, dynamic_own}
use Rattle.um_texts.proofs.StateLemmas.{IsKept, is_answer_void, begins_with_start, begins_with_clear, are_fit}
use Rattle.um_texts.proofs.OwnLemmas.{IsSound}
use Rattle.um_texts.proofs.AddressLemmas.{row_found}
use Rattle.um_texts.proofs.CoreLemmas.{core, core_thread, core_object, settled}
use Rattle.um_texts.proofs.AfterLemmas.{same_wrote}
use Rattle.um_texts.proofs.MarkLemmas.{drops, mark_step}
use Rattle.um_machine.proofs.EffectLemmas.{all_other, key-same, keys-wrote}

-- the state after a drop
abbrev pub dropping : State → ℕ → ℕ → State
dropping s t x = wrote (drop_writes t x (dropped s t x)) s

-- a thread drops a pair of a thread with the object at an address
pub record IsDrop (image : Image) (s : State) (act : Act) (s2 : State) : Type 0 where
  pub who : ThreadIx
  pub addr : Addr
  pub own : has_own image who.0 ≡ true
  pub says : act ≡ Act.DropPair who addr (dropped s who.0 (row_of s addr))
  pub leaves : core s2 ≡ core (dropping s who.0 (row_of s addr))

pub same_dropping : (s2 s : State) → core s2 ≡ core s → (t x : ℕ) → core (dropping s2 t x) ≡ core (dropping s t x)
same_dropping s2 s e t x = ap (λ (k : State). core (wrote (drop_writes t x (dropped k t x)) s2)) e ∙ same_wrote (drop_writes t x (dropped s t x)) s2 s e

-- What is left of an instruction when a pair is dropped.

pending_drop : (s : State) (t x u : ℕ) → (thread_at (dropping s t x) u).pending ≡ (thread_at s u).pending
pending_drop s t x u =
    let ws = drop_writes t x (dropped s t x) in
    key-same of s (wrote ws s) (keys-wrote of all_other (record { due = λ h me due. refl; told = λ h me told. refl; domain = λ h me domain. refl; doomed = λ h me. refl; flagged = λ h me aborted suspended. refl }) ws s refl) u
  where
    of : Thread → Steps
    of me = me.pending

-- a thread is written whose core is the same
unwritten : (s : State) (t : ℕ) (me : Thread) → core_thread me ≡ core_thread (thread_at s t) → core (with_thread s t me) ≡ core s
unwritten s t me h = ap (λ (ts : List Thread). record s { threads = ts; objects = map core_object s.objects }) (map-set_same core_thread s.threads t me nobody h)

unwritten_object : (s : State) (x : ℕ) (o : Object) → core_object o ≡ core_object (object_at s x) → core (with_object s x o) ≡ core s
unwritten_object s x o h = ap (λ (os : List Object). record s { threads = map core_thread s.threads; objects = os }) (map-set_same core_object s.objects x o vacant h)

void_is : (rest : Steps) → is_answer_void rest ≡ true → rest ≡ Pending.Answer (Some Reply.Void) None ∷ []
void_is (Pending.Answer (Some Reply.Void) None ∷ []) h = refl
void_is rest h = cc

-- a drop that is done leaves what is counted as left
drop_done : (image : Image) (m : Thread) (who : ThreadIx) (a : Addr) (rest : Steps) → m.pending ≡ Pending.DropPair who a ∷ rest → rest ≡ Pending.Answer (Some Reply.Void) None ∷ [] → core_thread (at_steps image m rest) ≡ core_thread m
drop_done image m who a rest e void =
    ap (λ (steps : Steps). core_thread (at_steps image m steps)) void ∙ sym (ap (λ (steps : Steps). record m { pending = settled steps }) e)

drops_done : (m : Thread) (from x : ℕ) (rest : Steps) → m.pending ≡ Pending.Drops from ∷ rest → core_thread (record m { pending = Pending.Drops x ∷ rest }) ≡ core_thread m
drops_done m from x rest e = sym (ap (λ (steps : Steps). record m { pending = settled steps }) e)

-- only a dynamic thread's object is gone
gone_own : (image : Image) → length image.objects ≤ STATIC_ROWS → (who : ℕ) → STATIC_ROWS ≤ own_row image who → own_row image who < ROWS → has_own image who ≡ true
gone_own image few who low high =
    elim (cases_lt who STATIC_THREADS) [
      | inl less ↦ absurd (static (position (is_thread_index who) image.objects) refl less)
      | inr more ↦ let is = dynamic_own image who more in dynamic more (omega (arith, is, high))
    ]
  where
    blank : ObjectDef
    blank = record { name = []; kind = Kind.Mutex; addr = record { 0 = 0 }; public = false; setup = Setup.Bare }

    none : who < STATIC_THREADS → position (is_thread_index who) image.objects ≡ None → own_row image who ≡ 0
    none less e = let below : nat_lt who STATIC_THREADS ≡ true = grind (arith, nat_tests) in rw (below, e) refl

    static : (o : Option ℕ) → position (is_thread_index who) image.objects ≡ o → who < STATIC_THREADS → ⊥
    static (Some x) e less =
        let own = static_own image who x less e in
        let is = position-Some (is_thread_index who) image.objects x blank e in let within = is.0 in omega (arith, own, within, low, few)
    static None e less = let own = none less e in omega (arith, own, low)

    or_true : (b : Bool) → (b || true) ≡ true
    or_true true = refl
    or_true false = refl

    dynamic : STATIC_THREADS ≤ who → who < STATIC_THREADS + (ROWS - STATIC_ROWS) → has_own image who ≡ true
    dynamic more less =
        let a : nat_le STATIC_THREADS who ≡ true = grind (arith, nat_tests) in
        let b : nat_lt who (STATIC_THREADS + (ROWS - STATIC_ROWS)) ≡ true = grind (arith, nat_tests) in rw (a, b) (or_true _)

some_row : (o : Option ℕ) (x : ℕ) → o ≡ Some x → unwrap_or o 0 ≡ x
some_row o x e = rw e refl

-- the row at a row's address
row_there : (image : Image) → IsSound image → (s : State) → s.image ≡ image → (x : ℕ) → is_real image x ≡ true → row_of s (to_addr (addr_of s.image x)) ≡ x
row_there image sound s e x real =
    ap (λ (i : Image). unwrap_or (row_at i (addr_of i x)) 0) e ∙ some_row (row_at image (addr_of image x)) x (row_found image sound x real)

-- what the steps say that may follow
cons_head : (p q : Pending) (xs ys : Steps) → p ∷ xs ≡ q ∷ ys → p ≡ q
cons_head p q xs ys h = cc

start_no_drop : (who : ThreadIx) (a : Addr) (rest : Steps) → begins_with_start (Pending.DropPair who a ∷ rest) ≡ true → ⊥
start_no_drop who a rest h = cc

clear_no_drop : (who : ThreadIx) (a : Addr) (rest : Steps) → begins_with_clear (Pending.DropPair who a ∷ rest) ≡ true → ⊥
clear_no_drop who a rest h = cc

start_no_drops : (from : ℕ) (rest : Steps) → begins_with_start (Pending.Drops from ∷ rest) ≡ true → ⊥
start_no_drops from rest h = cc

clear_no_drops : (from : ℕ) (rest : Steps) → begins_with_clear (Pending.Drops from ∷ rest) ≡ true → ⊥
clear_no_drops from rest h = cc

-- what stands behind an inheritance, and behind the drops of an end
pub behind_inherit : (image : Image) (s : State) → IsKept image s → (t : ℕ) (who : ThreadIx) (rest : Steps) → (thread_at s t).pending ≡ Pending.Inherit who ∷ rest → begins_with_start rest ≡ true
behind_inherit image s kept t who rest e =
    let fit : are_fit image (Pending.Inherit who ∷ rest) ≡ true = rw e at (kept.fit t) in (and_parts (begins_with_start rest) (are_fit image rest) fit).0

pub behind_drops : (image : Image) (s : State) → IsKept image s → (t from : ℕ) (rest : Steps) → (thread_at s t).pending ≡ Pending.Drops from ∷ rest → begins_with_clear rest ≡ true
behind_drops image s kept t from rest e =
    let fit : are_fit image (Pending.Drops from ∷ rest) ≡ true = rw e at (kept.fit t) in (and_parts (begins_with_clear rest) (are_fit image rest) fit).0

pub drop_next : (image : Image) (s : State) → IsKept image s → (t : ℕ) (who : ThreadIx) (a : Addr) (rest : Steps) → Offers s t (Pending.DropPair who a) rest → (thread_at s t).pending ≡ Pending.DropPair who a ∷ rest
drop_next image s kept t who a rest (goes e) = e
drop_next image s kept t who a rest (skips_inherit e h) = absurd (start_no_drop who a rest (behind_inherit image s kept t _ _ e))
drop_next image s kept t who a rest (skips_drops e h) = absurd (clear_no_drop who a rest (behind_drops image s kept t _ _ e))
drop_next image s kept t who a _ (tends is started) = cc

pub drops_next : (image : Image) (s : State) → IsKept image s → (t from : ℕ) (rest : Steps) → Offers s t (Pending.Drops from) rest → (thread_at s t).pending ≡ Pending.Drops from ∷ rest
drops_next image s kept t from rest (goes e) = e
drops_next image s kept t from rest (skips_inherit e h) = absurd (start_no_drops from rest (behind_inherit image s kept t _ _ e))
drops_next image s kept t from rest (skips_drops e h) = absurd (clear_no_drops from rest (behind_drops image s kept t _ _ e))
drops_next image s kept t from _ (tends is started) = cc

pair_drop : (image : Image) (s : State) → IsKept image s → (t : ℕ) (who : ThreadIx) (a : Addr) (rest : Steps) (x : ℕ) → (thread_at s t).pending ≡ Pending.DropPair who a ∷ rest
    → IsDrop image s (act_of s t x (Pending.DropPair who a)) (after s t x (Pending.DropPair who a) rest)
pair_drop image s kept t who a rest x e =
    let fit : are_fit image (Pending.DropPair who a ∷ rest) ≡ true = rw e at (kept.fit t) in
    let here = (and_parts (has_own image who.0 && is_answer_void rest) (are_fit image rest) fit).0 in
    let void = void_is rest (and_parts (has_own image who.0) (is_answer_void rest) here).1 in
    let s2 = dropping s who.0 (row_of s a) in
    record {
      who = who;
      addr = a;
      own = (and_parts (has_own image who.0) (is_answer_void rest) here).0;
      says = refl;
      leaves = unwritten s2 t _ (drop_done s2.image (thread_at s2 t) who a rest (pending_drop s who.0 (row_of s a) t ∙ e) void);
    }

end_drop : (image : Image) → IsSound image → (s : State) → IsKept image s → (t from : ℕ) (rest : Steps) (x : ℕ) → has_own image t ≡ true → (thread_at s t).pending ≡ Pending.Drops from ∷ rest → pair_at s t x ≡ true
    → IsDrop image s (act_of s t x (Pending.Drops from)) (after s t x (Pending.Drops from) rest)
end_drop image sound s kept t from rest x own e pair =
    let row = row_there image sound s kept.image_is x (kept.real t x pair) in
    let s2 = dropping s t x in
    record {
      who = to_thread t;
      addr = to_addr (addr_of s.image x);
      own = own;
      says = ap (λ (y : ℕ). Act.DropPair (to_thread t) (to_addr (addr_of s.image x)) (dropped s t y)) (sym row);
      leaves = unwritten s2 t _ (drops_done (thread_at s2 t) from (x + 1) rest (pending_drop s t x t ∙ e)) ∙ ap (λ (y : ℕ). core (dropping s t y)) (sym row);
    }

clean_drop : (image : Image) → IsSound image → (s : State) → IsKept image s → (t : ℕ) (who : ThreadIx) (rest : Steps) (x : ℕ) → is_gone (object_at s (own_row s.image who.0)).status ≡ true → pair_at s who.0 x ≡ true
    → IsDrop image s (act_of s t x (Pending.CleanPair who)) (after s t x (Pending.CleanPair who) rest)
clean_drop image sound s kept t who rest x gone pair =
    let row = row_there image sound s kept.image_is x (kept.real who.0 x pair) in
    let y = own_row s.image who.0 in
    let within = kept.gone y gone in
    let same : own_row s.image who.0 ≡ own_row image who.0 = ap (λ (i : Image). own_row i who.0) kept.image_is in
    let low = within.0 in
    let high = within.1 in
    record {
      who = who;
      addr = to_addr (addr_of s.image x);
      own = gone_own image sound.few who.0 (rw same at low) (rw same at high);
      says = ap (λ (z : ℕ). Act.DropPair who (to_addr (addr_of s.image x)) (dropped s who.0 z)) (sym row);
      leaves =
          same_wrote (drop_writes who.0 x (dropped s who.0 x)) (with_object s y (record (object_at s y) { cleaner = Some (to_thread t) })) s
          (unwritten_object s y (record (object_at s y) { cleaner = Some (to_thread t) }) refl)
          ∙ ap (λ (z : ℕ). core (dropping s who.0 z)) (sym row);
    }

pub drop_step : (image : Image) → IsSound image → (s : State) → IsKept image s → (t x : ℕ) (p : Pending) (rest : Steps) → has_own image t ≡ true → Offers s t p rest → MayChoose s t x p → mark_step p ≡ drops
    → IsDrop image s (act_of s t x p) (after s t x p rest)
drop_step image sound s kept t x (Pending.DropPair who a) rest own offered may h = pair_drop image s kept t who a rest x (drop_next image s kept t who a rest offered)
drop_step image sound s kept t x (Pending.Drops from) rest own offered may h = end_drop image sound s kept t from rest x own (drops_next image s kept t from rest offered) may.1
drop_step image sound s kept t x (Pending.CleanPair who) rest own offered may h = clean_drop image sound s kept t who rest x may.0.0 may.1
drop_step image sound s kept t x p rest own offered may h = cc
