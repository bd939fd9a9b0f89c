-- A line leads to one state: two steps of a state that a run reaches, with the same line, leave the same state.
use Rattle.std.proofs.Common.{◌≡◌, ◌⊎◌, inl, inr, ℕ, zero, suc, ◌+◌, ◌<◌, ◌≤◌, Bool, true, false, List, ◌∷◌, length, refl, sym, ap, ◌∙◌, subst, arith, Option, Some, None, if◌then◌else◌}
use Rattle.std.specs.Prelude.{◌==◌, not, IsTrue}
use Rattle.std.proofs.lemmas.Bool.{and_parts}
use Rattle.std.proofs.lemmas.Bool.Decides.{nat_tests}
use Rattle.um_base.specs.declared.act.Act.{Act}
use Rattle.um_base.specs.declared.act.Answer.{Answer}
use Rattle.um_base.specs.declared.act.Event.{Event}
use Rattle.um_base.specs.declared.act.Leftover.{Leftover}
use Rattle.um_base.specs.declared.image.Image.{Image}
use Rattle.um_base.specs.declared.names.Addr.{Addr}
use Rattle.um_base.specs.declared.names.Errno.{Errno}
use Rattle.um_base.specs.declared.names.Kind.{Kind}
use Rattle.um_base.specs.declared.names.Reply.{Reply}
use Rattle.um_base.specs.declared.names.ThreadIx.{ThreadIx}
use Rattle.um_base.specs.declared.names.Timeout.{Timeout}
use Rattle.um_base.specs.declared.limits.TheConstants.{STATIC_ROWS, ROWS}
use Rattle.um_base.specs.Places.{addr_of, row_at, own_row}
use Rattle.um_machine.specs.declared.pending.Pending.{Pending}
use Rattle.um_machine.specs.State.{State, thread_at, object_at, waiters_in, is_waiting}
use Rattle.um_machine.specs.Joins.{deadlocks, not_over}
use Rattle.um_machine.specs.Objects.{is_held}
use Rattle.um_machine.specs.Order.{Steps, to_addr, to_thread}
use Rattle.um_machine.specs.Table.{act_of, after}
use Rattle.um_machine.specs.Run.{Offers, MayChoose, MayClean, Runs, opening, stands_in, waits_at}
use Rattle.um_machine.specs.Time.{has_come}
use Rattle.um_invariants.proofs.Cores.{call_at, core_of}
use Rattle.um_invariants.proofs.Claims.{IsDropper}
use Rattle.um_invariants.proofs.Facts.{is_false}
use Rattle.um_invariants.proofs.StepMoves.{unchecked, unkept}
use Rattle.um_invariants.proofs.Turns.{IsKnown}
use Rattle.um_invariants.proofs.RunMoves.{keeps_now, shaped_now}
use Rattle.um_invariants.proofs.ThreadRuns.{reached-kept}
use Rattle.um_invariants.proofs.ThreadWords.{AreKept}
use Rattle.um_texts.proofs.NameLemmas.{AreNamed}
use Rattle.um_texts.proofs.IdentityLemmas.{is_real}
use Rattle.um_texts.proofs.StateLemmas.{IsKept}
use Rattle.um_texts.proofs.CellLemmas.{sole-cell}
use Rattle.um_texts.proofs.KeptLemmas.{ran}
use Rattle.um_texts.proofs.OpeningLemmas.{kept_opening}
use Rattle.um_texts.proofs.OwnLemmas.{IsSound, real_dynamic}
use Rattle.um_texts.proofs.AddressLemmas.{row_found}
use Rattle.um_texts.proofs.MarkLemmas.{Mark, cuts, drops, expires, frees, inherits, is_own, lates, others, tells, ticks, mark_of, mark_step, mark_made}
use Rattle.um_texts.proofs.RowLemmas.{after_free}
use Rattle.um_texts.proofs.ReadLemmas.{is_reserved}
use Rattle.um_texts.proofs.DropLemmas.{drop_next, drops_next}
use Rattle.um_texts.proofs.StepLemmas.{AreBoth, same_step}

-- What is known of a state that a run of an image reaches.
pub record IsGood (image : Image) (s : State) : Type 0 where
  pub sound : IsSound image
  pub named : AreNamed image
  pub kept : IsKept image s
  pub known : IsKnown (core_of s)
  pub opened : IsKnown (core_of (opening image))
  pub events : List Event
  pub led : Runs (opening image) events s

-- what is known of its threads
threads_kept : (image : Image) (s : State) → IsGood image s → AreKept s
threads_kept image s good =
    reached-kept image (record { lawful = good.sound.lawful; few = good.sound.few }) good.opened (rw (kept_opening image good.sound).image_is good.sound.lawful) good.events s good.led

-- Rows are known by their addresses.

some_row : (o : Option ℕ) (x y : ℕ) → o ≡ Some x → o ≡ Some y → x ≡ y
some_row o x y e f = cc

row_same : (image : Image) → IsSound image → (x y : ℕ) → is_real image x ≡ true → is_real image y ≡ true → addr_of image x ≡ addr_of image y → x ≡ y
row_same image sound x y real other e =
    some_row (row_at image (addr_of image x)) x y (row_found image sound x real) (ap (row_at image) e ∙ row_found image sound y other)

-- the same of a state of that image
row_known : (image : Image) (s : State) → IsGood image s → (x y : ℕ) → is_real image x ≡ true → is_real image y ≡ true → addr_of s.image x ≡ addr_of s.image y → x ≡ y
row_known image s good x y real other e =
    row_same image good.sound x y real other (ap (λ (i : Image). addr_of i x) (sym good.kept.image_is) ∙ e ∙ ap (λ (i : Image). addr_of i y) good.kept.image_is)

-- what equal acts have in common
drop_act : (w v : ThreadIx) (a b : Addr) (l m : Leftover) → Act.DropPair w a l ≡ Act.DropPair v b m → (w ≡ v) × (a.0 ≡ b.0)
drop_act w v a b l m h = (cc, let same : a ≡ b = cc in ap (λ (x : Addr). x.0) same)

inherit_act : (w v : ThreadIx) (a b : Addr) → Act.Inherit w a ≡ Act.Inherit v b → a.0 ≡ b.0
inherit_act w v a b h = let same : a ≡ b = cc in ap (λ (x : Addr). x.0) same

recycle_act : (a b : Addr) → Act.Recycle a ≡ Act.Recycle b → a.0 ≡ b.0
recycle_act a b h = let same : a ≡ b = cc in ap (λ (x : Addr). x.0) same

late_act : (w v : ThreadIx) → Act.TimedOut w ≡ Act.TimedOut v → w ≡ v
late_act w v h = cc

cut_act : (w v : ThreadIx) → Act.Cut w ≡ Act.Cut v → w ≡ v
cut_act w v h = cc

expire_act : (a b : Addr) (l m : List (ThreadIx × Reply)) → Act.Expire a l ≡ Act.Expire b m → a.0 ≡ b.0
expire_act a b l m h = let same : a ≡ b = cc in ap (λ (x : Addr). x.0) same

reserve_act : (k l : Kind) (a b : Option Addr) → Act.Reserve k a ≡ Act.Reserve l b → a ≡ b
reserve_act k l a b h = cc

-- An object that a step of a thread's call, or of its end, drops a pair of isn't to be cleaned.

held_own : (image : Image) (s : State) → IsGood image s → (t : ℕ) (p : Pending) (rest : Steps) → (thread_at s t).pending ≡ p ∷ rest → IsTrue (not (is_held s (own_row s.image t))) → ⊥
held_own image s good t p rest e free =
    let zeroth : 0 + t ≡ t = omega arith in
    unkept s.image (own_row s.image t) 0 s.threads (is_false (is_held s (own_row s.image t)) free) t (keeps_now s t p rest good.known e) (ap (own_row s.image) zeroth)

held_by : (image : Image) (s : State) → IsGood image s → (t w : ℕ) (p : Pending) (rest : Steps) → (thread_at s t).pending ≡ p ∷ rest → IsDropper s.image t (call_at (core_of s) t).checked w → MayClean s t (own_row s.image w) → ⊥
held_by image s good t w p rest e (inl same) may = held_own image s good t p rest e (subst (λ (n : ℕ). IsTrue (not (is_held s (own_row s.image n)))) same may.1)
held_by image s good t w p rest e (inr (inl static)) may =
    let low = good.kept.gone (own_row s.image w) may.0 in
    let few : length s.image.objects ≤ STATIC_ROWS = subst (λ (i : Image). length i.objects ≤ STATIC_ROWS) (sym good.kept.image_is) good.kept.few in
    omega (arith, static, low.0, few)
held_by image s good t w p rest e (inr (inr checked)) may =
    let none = unchecked s.image (own_row s.image w) 0 s.threads (is_false (is_held s (own_row s.image w)) may.1) t in let yes = checked.1 in cc

held_call : (image : Image) (s : State) → IsGood image s → (t : ℕ) (who : ThreadIx) (a : Addr) (rest : Steps) → (thread_at s t).pending ≡ Pending.DropPair who a ∷ rest → MayClean s t (own_row s.image who.0) → ⊥
held_call image s good t who a rest e may =
    let shaped = shaped_now s t (Pending.DropPair who a ∷ rest) good.known e in held_by image s good t who.0 (Pending.DropPair who a) rest e shaped.0 may

-- The step after an act, and the state after it.

pub record IsChosen (s : State) (t : ℕ) (p : Pending) (rest : Steps) (x : ℕ) : Type 0 where
  pub offered : Offers s t p rest
  pub may : MayChoose s t x p

pub to_both : (image : Image) (s : State) → IsGood image s → AreBoth image s s
to_both image s good = record { sound = good.sound; named = good.named; first = good.kept; second = good.kept; same = refl; sole = sole-cell s (threads_kept image s good) }

dynamic_some : (z : ℕ) → STATIC_ROWS ≤ z → (z == 0) ≡ false
dynamic_some z low = grind (arith, nat_tests)

addr_some : (s : State) (z : ℕ) → STATIC_ROWS ≤ z → (if z == 0 then None else Some (to_addr (addr_of s.image z))) ≡ Some (to_addr (addr_of s.image z))
addr_some s z low = let apart = dynamic_some z low in rw apart refl

addr_none : (s : State) (z : ℕ) → z ≡ 0 → (if z == 0 then None else Some (to_addr (addr_of s.image z))) ≡ None
addr_none s z e = rw e refl

reserve_row : (image : Image) (s : State) → IsGood image s → (t x y : ℕ) (kind : Kind) → MayChoose s t x (Pending.Reserve kind) → MayChoose s t y (Pending.Reserve kind)
    → act_of s t x (Pending.Reserve kind) ≡ act_of s t y (Pending.Reserve kind) → x ≡ y
reserve_row image s good t x y kind may other h =
    by (is_reserved s t x kind may) (is_reserved s t y kind other) (reserve_act kind kind _ _ h)
  where
    by : ((STATIC_ROWS ≤ x) × (x < ROWS)) ⊎ (x ≡ 0) → ((STATIC_ROWS ≤ y) × (y < ROWS)) ⊎ (y ≡ 0)
        → (if x == 0 then None else Some (to_addr (addr_of s.image x))) ≡ (if y == 0 then None else Some (to_addr (addr_of s.image y))) → x ≡ y
    by (inl a) (inl b) same =
        let both : Some (to_addr (addr_of s.image x)) ≡ Some (to_addr (addr_of s.image y)) = sym (addr_some s x a.0) ∙ same ∙ addr_some s y b.0 in
        let one : to_addr (addr_of s.image x) ≡ to_addr (addr_of s.image y) = cc in
        row_known image s good x y (real_dynamic image x a.0 a.1) (real_dynamic image y b.0 b.1) (ap (λ (z : Addr). z.0) one)
    by (inl a) (inr b) same = absurd (let bad : Some (to_addr (addr_of s.image x)) ≡ None = sym (addr_some s x a.0) ∙ same ∙ addr_none s y b in cc)
    by (inr a) (inl b) same = absurd (let bad : None ≡ Some (to_addr (addr_of s.image y)) = sym (addr_none s x a) ∙ same ∙ addr_some s y b.0 in cc)
    by (inr a) (inr b) same = a ∙ sym b

not_own : false ≡ true → ⊥
not_own h = cc

-- what a join says tells which answer it chose
over_not : (s : State) (t who : ℕ) (timeout : Timeout) → not_over s t who timeout ≡ Answer.Now (Reply.Num 0) → ⊥
over_not s t who timeout h = by timeout h
  where
    waits : (b : Bool) → (if b then Answer.Now (Reply.Fail Errno.EDEADLK) else Answer.Wait) ≡ Answer.Now (Reply.Num 0) → ⊥
    waits true k = cc
    waits false k = cc

    by : (timeout : Timeout) → not_over s t who timeout ≡ Answer.Now (Reply.Num 0) → ⊥
    by Timeout.NoWait k = cc
    by Timeout.Forever k = waits (deadlocks s t who) k
    by (Timeout.Ticks n) k = waits (deadlocks s t who) k

join_act : (w v : ThreadIx) (a b : Answer) → Act.Join w a ≡ Act.Join v b → a ≡ b
join_act w v a b h = cc

join_after : (s : State) (t x y : ℕ) (who : ThreadIx) (timeout : Timeout) (rest : Steps) → act_of s t x (Pending.Join who timeout) ≡ act_of s t y (Pending.Join who timeout)
    → after s t x (Pending.Join who timeout) rest ≡ after s t y (Pending.Join who timeout) rest
join_after s t zero zero who timeout rest h = refl
join_after s t (suc n) (suc m) who timeout rest h = refl
join_after s t zero (suc m) who timeout rest h = absurd (over_not s t who.0 timeout (join_act who who _ _ h))
join_after s t (suc n) zero who timeout rest h = absurd (over_not s t who.0 timeout (sym (join_act who who _ _ h)))

-- the same step, with rows that say the same
chosen_after : (image : Image) (s : State) → IsGood image s → (t x y : ℕ) (p : Pending) (rest : Steps) → is_own (mark_step p) ≡ true → MayChoose s t x p → MayChoose s t y p
    → act_of s t x p ≡ act_of s t y p → after s t x p rest ≡ after s t y p rest
chosen_after image s good t x y (Pending.Inherit who) rest own may other h =
    ap (λ (z : ℕ). after s t z (Pending.Inherit who) rest)
    (row_known image s good x y (good.kept.real t x may.0) (good.kept.real t y other.0) (inherit_act who who (to_addr (addr_of s.image x)) (to_addr (addr_of s.image y)) h))
chosen_after image s good t x y (Pending.Reserve kind) rest own may other h =
    ap (λ (z : ℕ). after s t z (Pending.Reserve kind) rest) (reserve_row image s good t x y kind may other h)
chosen_after image s good t x y (Pending.DropPair who a) rest own may other h = absurd (not_own own)
chosen_after image s good t x y (Pending.Drops from) rest own may other h = absurd (not_own own)
chosen_after image s good t x y (Pending.CleanPair who) rest own may other h = absurd (not_own own)
chosen_after image s good t x y Pending.Recycle rest own may other h = absurd (not_own own)
chosen_after image s good t x y (Pending.TimeOut who) rest own may other h = absurd (not_own own)
chosen_after image s good t x y Pending.Expire rest own may other h = absurd (not_own own)
chosen_after image s good t x y (Pending.Cut who) rest own may other h = absurd (not_own own)
chosen_after image s good t x y (Pending.Join who timeout) rest own may other h = join_after s t x y who timeout rest h
chosen_after image s good t x y p rest own may other h = after_free s t x y p rest refl

moved_after : (image : Image) (s : State) → IsGood image s → (t x y : ℕ) (p q : Pending) (rest more : Steps) → p ≡ q → rest ≡ more → is_own (mark_step p) ≡ true → MayChoose s t x p → MayChoose s t y q
    → act_of s t x p ≡ act_of s t y q → after s t x p rest ≡ after s t y q more
moved_after image s good t x y p q rest more pq rm own may other h =
    subst (λ (z : Pending). MayChoose s t y z → act_of s t x p ≡ act_of s t y z → after s t x p rest ≡ after s t y z more) pq
    (λ m k. subst (λ (z : Steps). after s t x p rest ≡ after s t y p z) rm (chosen_after image s good t x y p rest own may m k)) other h

-- an object that is recycled
recycled_after : (image : Image) (s : State) → IsGood image s → (t x y : ℕ) (p q : Pending) (rest more : Steps) → mark_step p ≡ frees → mark_step q ≡ frees → MayChoose s t x p → MayChoose s t y q
    → act_of s t x p ≡ act_of s t y q → after s t x p rest ≡ after s t y q more
recycled_after image s good t x y Pending.Recycle Pending.Recycle rest more mp mq may other h =
    let a = good.kept.gone x may.0.0 in
    let b = good.kept.gone y other.0.0 in
    ap (λ (z : ℕ). after s t z Pending.Recycle more)
    (row_known image s good x y (real_dynamic image x a.0 a.1) (real_dynamic image y b.0 b.1) (recycle_act (to_addr (addr_of s.image x)) (to_addr (addr_of s.image y)) h))
recycled_after image s good t x y Pending.Recycle q rest more mp mq may other h = cc
recycled_after image s good t x y p q rest more mp mq may other h = cc

-- Drops.

data DropStep (s : State) (t : ℕ) : Pending → Steps → Type 0 where
  call : {who : ThreadIx} {a : Addr} {rest : Steps} → (thread_at s t).pending ≡ Pending.DropPair who a ∷ rest → DropStep s t (Pending.DropPair who a) rest
  end : {from : ℕ} {rest : Steps} → (thread_at s t).pending ≡ Pending.Drops from ∷ rest → DropStep s t (Pending.Drops from) rest
  clean : {who : ThreadIx} {rest : Steps} → DropStep s t (Pending.CleanPair who) rest

drop_step : (image : Image) (s : State) → IsGood image s → (t : ℕ) (p : Pending) (rest : Steps) → mark_step p ≡ drops → Offers s t p rest → DropStep s t p rest
drop_step image s good t (Pending.DropPair who a) rest h offered = call (drop_next image s good.kept t who a rest offered)
drop_step image s good t (Pending.Drops from) rest h offered = end (drops_next image s good.kept t from rest offered)
drop_step image s good t (Pending.CleanPair who) rest h offered = clean
drop_step image s good t p rest h offered = cc

dropped_after : (image : Image) (s : State) → IsGood image s → (t x y : ℕ) (p q : Pending) (rest more : Steps) → DropStep s t p rest → DropStep s t q more → MayChoose s t x p → MayChoose s t y q
    → act_of s t x p ≡ act_of s t y q → after s t x p rest ≡ after s t y q more
dropped_after image s good t x y _ _ rest more (call {who} {a} e) (call {who = whom} {a = b} f) may other h =
    let same : Pending.DropPair who a ∷ rest ≡ Pending.DropPair whom b ∷ more = sym e ∙ f in
    let step : Pending.DropPair who a ≡ Pending.DropPair whom b = cc in
    let left : rest ≡ more = cc in
    ap (λ (z : Pending). after s t x z rest) step ∙ ap (λ (z : Steps). after s t x (Pending.DropPair whom b) z) left
dropped_after image s good t x y _ _ rest more (call {who} {a} e) (end {from} f) may other h = absurd (let bad : Pending.DropPair who a ∷ rest ≡ Pending.Drops from ∷ more = sym e ∙ f in cc)
dropped_after image s good t x y _ _ rest more (end {from} e) (call {who} {a} f) may other h = absurd (let bad : Pending.Drops from ∷ rest ≡ Pending.DropPair who a ∷ more = sym e ∙ f in cc)
dropped_after image s good t x y _ _ rest more (call {who} {a} e) (clean {who = whom}) may other h =
    let same = drop_act who whom a (to_addr (addr_of s.image y)) _ _ h in
    absurd (held_call image s good t who a rest e (subst (λ (w : ThreadIx). MayClean s t (own_row s.image w.0)) (sym same.0) other.0))
dropped_after image s good t x y _ _ rest more (clean {who}) (call {who = whom} {a} f) may other h =
    let same = drop_act who whom (to_addr (addr_of s.image x)) a _ _ h in
    absurd (held_call image s good t whom a more f (subst (λ (w : ThreadIx). MayClean s t (own_row s.image w.0)) same.0 may.0))
dropped_after image s good t x y _ _ rest more (end {from} e) (end {from = later} f) may other h =
    let same : Pending.Drops from ∷ rest ≡ Pending.Drops later ∷ more = sym e ∙ f in
    let left : rest ≡ more = cc in
    let row = row_known image s good x y (good.kept.real t x may.1) (good.kept.real t y other.1)
    (drop_act (to_thread t) (to_thread t) (to_addr (addr_of s.image x)) (to_addr (addr_of s.image y)) _ _ h).1 in
    ap (λ (z : ℕ). after s t z (Pending.Drops from) rest) row ∙ ap (λ (z : Steps). after s t y (Pending.Drops from) z) left
dropped_after image s good t x y _ _ rest more (end {from} e) (clean {who}) may other h =
    let same = drop_act (to_thread t) who (to_addr (addr_of s.image x)) (to_addr (addr_of s.image y)) _ _ h in
    absurd (held_own image s good t (Pending.Drops from) rest e (subst (λ (w : ThreadIx). IsTrue (not (is_held s (own_row s.image w.0)))) (sym same.0) other.0.1))
dropped_after image s good t x y _ _ rest more (clean {who}) (end {from} f) may other h =
    let same = drop_act who (to_thread t) (to_addr (addr_of s.image x)) (to_addr (addr_of s.image y)) _ _ h in
    absurd (held_own image s good t (Pending.Drops from) more f (subst (λ (w : ThreadIx). IsTrue (not (is_held s (own_row s.image w.0)))) same.0 may.0.1))
dropped_after image s good t x y _ _ rest more (clean {who}) (clean {who = whom}) may other h =
    let same = drop_act who whom (to_addr (addr_of s.image x)) (to_addr (addr_of s.image y)) _ _ h in
    let row = row_known image s good x y (good.kept.real who.0 x may.1) (good.kept.real whom.0 y other.1) same.1 in
    ap (λ (w : ThreadIx). after s t x (Pending.CleanPair w) rest) same.0 ∙ ap (λ (z : ℕ). after s t z (Pending.CleanPair whom) more) row

-- Steps that aren't of an instruction.

-- one that leaves a cell chose the cell in which its thread waits
cell_known : (image : Image) (s : State) → IsGood image s → (u x y : ℕ) → waits_at s u x ≡ true → waits_at s u y ≡ true → x ≡ y
cell_known image s good u x y here there =
    sole-cell s (threads_kept image s good) u x y (and_parts (is_waiting (thread_at s u)) (stands_in u (waiters_in s x)) here).1 (and_parts (is_waiting (thread_at s u)) (stands_in u (waiters_in s y)) there).1

abbrev Leaves : State → ℕ → ℕ → ℕ → Pending → Pending → Steps → Steps → Type 0
Leaves s t x y p q rest more = MayChoose s t x p → MayChoose s t y q → act_of s t x p ≡ act_of s t y q → after s t x p rest ≡ after s t y q more

beside_same : (image : Image) (s : State) → IsGood image s → (t x y : ℕ) (p q : Pending) (rest more : Steps) → is_own (mark_step p) ≡ false → mark_step p ≡ mark_step q → (mark_step p ≡ drops → ⊥) → (mark_step p ≡ frees → ⊥)
    → Leaves s t x y p q rest more
beside_same image s good t x y Pending.Tick Pending.Tick rest more own same nd nf may other h = refl
beside_same image s good t x y Pending.Left Pending.Left rest more own same nd nf may other h = refl
beside_same image s good t x y (Pending.TimeOut who) (Pending.TimeOut whom) rest more own same nd nf may other h =
    let thread = late_act who whom h in
    let there = (and_parts (has_come s.now (thread_at s who.0).until) _ may).1 in
    let here = subst (λ (w : ThreadIx). waits_at s w.0 y ≡ true) (sym thread) (and_parts (has_come s.now (thread_at s whom.0).until) _ other).1 in
    ap (λ (w : ThreadIx). after s t x (Pending.TimeOut w) rest) thread ∙ ap (λ (n : ℕ). after s t n (Pending.TimeOut whom) more) (cell_known image s good who.0 x y there here)
beside_same image s good t x y (Pending.Cut who) (Pending.Cut whom) rest more own same nd nf may other h =
    let thread = cut_act who whom h in
    let there = (and_parts (thread_at s who.0).aborted _ may).1 in
    let here = subst (λ (w : ThreadIx). waits_at s w.0 y ≡ true) (sym thread) (and_parts (thread_at s whom.0).aborted _ other).1 in
    ap (λ (w : ThreadIx). after s t x (Pending.Cut w) rest) thread ∙ ap (λ (n : ℕ). after s t n (Pending.Cut whom) more) (cell_known image s good who.0 x y there here)
beside_same image s good t x y Pending.Expire Pending.Expire rest more own same nd nf may other h =
    ap (λ (n : ℕ). after s t n Pending.Expire more)
    (row_known image s good x y (good.kept.timers x (ran s.now (object_at s x).contents may)) (good.kept.timers y (ran s.now (object_at s y).contents other))
    (expire_act (to_addr (addr_of s.image x)) (to_addr (addr_of s.image y)) _ _ h))
beside_same image s good t x y (Pending.DropPair who a) q rest more own same nd nf may other h = absurd (nd refl)
beside_same image s good t x y (Pending.Drops from) q rest more own same nd nf may other h = absurd (nd refl)
beside_same image s good t x y (Pending.CleanPair who) q rest more own same nd nf may other h = absurd (nd refl)
beside_same image s good t x y Pending.Recycle q rest more own same nd nf may other h = absurd (nf refl)
beside_same image s good t x y p q rest more own same nd nf may other h = cc

-- Two steps that say the same leave the same.
pub same_state : (image : Image) (s : State) → IsGood image s → (t x y : ℕ) (p q : Pending) (rest more : Steps) → Offers s t p rest → Offers s t q more → MayChoose s t x p → MayChoose s t y q
    → act_of s t x p ≡ act_of s t y q → after s t x p rest ≡ after s t y q more
same_state image s good t x y p q rest more offered offers may other h = by (mark_step p) refl
  where
    marks : mark_step p ≡ mark_step q
    marks = sym (mark_made s t x p) ∙ ap mark_of h ∙ mark_made s t y q

    beside : is_own (mark_step p) ≡ false → (mark_step p ≡ drops → ⊥) → (mark_step p ≡ frees → ⊥) → after s t x p rest ≡ after s t y q more
    beside own nd nf = beside_same image s good t x y p q rest more own marks nd nf may other h

    apart : is_own (mark_step p) ≡ true → after s t x p rest ≡ after s t y q more
    apart own =
        let owns : is_own (mark_step q) ≡ true = ap is_own (sym marks) ∙ own in
        let same = same_step image s s (to_both image s good) t p q rest more offered offers marks own owns in
        moved_after image s good t x y p q rest more same.step same.left own may other h

    other_mark : (m n : Mark) → mark_step p ≡ m → (m ≡ n → ⊥) → mark_step p ≡ n → ⊥
    other_mark m n k apart l = apart (sym k ∙ l)

    by : (m : Mark) → mark_step p ≡ m → after s t x p rest ≡ after s t y q more
    by drops k = dropped_after image s good t x y p q rest more (drop_step image s good t p rest k offered) (drop_step image s good t q more (sym marks ∙ k) offers) may other h
    by frees k = recycled_after image s good t x y p q rest more k (sym marks ∙ k) may other h
    by inherits k = apart (ap is_own k)
    by others k = apart (ap is_own k)
    by ticks k = beside (ap is_own k) (other_mark ticks drops k (λ e. cc)) (other_mark ticks frees k (λ e. cc))
    by lates k = beside (ap is_own k) (other_mark lates drops k (λ e. cc)) (other_mark lates frees k (λ e. cc))
    by expires k = beside (ap is_own k) (other_mark expires drops k (λ e. cc)) (other_mark expires frees k (λ e. cc))
    by cuts k = beside (ap is_own k) (other_mark cuts drops k (λ e. cc)) (other_mark cuts frees k (λ e. cc))
    by tells k = beside (ap is_own k) (other_mark tells drops k (λ e. cc)) (other_mark tells frees k (λ e. cc))
