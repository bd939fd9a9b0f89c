-- Two steps with equal lines, from states with one core, are one event, and lead to states with one core.
use Rattle.std.proofs.Common.{◌≡◌, ℕ, zero, suc, Bool, true, false, ◌&&◌, not, List, [], ◌∷◌, ◌++◌, refl, sym, ap, ◌∙◌, subst, arith, Option, Some, None, if◌then◌else◌}
use Rattle.std.specs.Prelude.{IsTrue, ◌==◌, ◌||◌, codes, is_some}
use Rattle.std.proofs.lemmas.Bool.{and_parts}
use Rattle.std.proofs.lemmas.Fmt.{decimal_digit}
use Rattle.std.proofs.lemmas.List.{append_cancel_left}
use Rattle.um_base.specs.declared.act.Act.{Act}
use Rattle.um_base.specs.declared.act.Answer.{Answer}
use Rattle.um_base.specs.declared.ask.Waiter.{Waiter}
use Rattle.um_base.specs.declared.names.Errno.{Errno}
use Rattle.um_base.specs.declared.names.Reply.{Reply}
use Rattle.um_base.specs.declared.names.Timeout.{Timeout}
use Rattle.um_base.specs.declared.act.Event.{Event}
use Rattle.um_base.specs.declared.image.Image.{Image}
use Rattle.um_base.specs.declared.instr.Instr.{Instr}
use Rattle.um_base.specs.declared.names.Addr.{Addr}
use Rattle.um_base.specs.declared.names.Kind.{Kind}
use Rattle.um_base.specs.declared.names.ThreadIx.{ThreadIx}
use Rattle.um_base.specs.Places.{addr_of}
use Rattle.um_machine.specs.declared.pending.Pending.{Pending}
use Rattle.um_machine.specs.declared.thread.Thread.{Thread}
use Rattle.um_machine.specs.State.{State, thread_at, object_at, pair_at, waiters_in, is_waiting, instruction_at}
use Rattle.um_machine.specs.Objects.{is_gone}
use Rattle.um_machine.specs.Order.{Steps, to_addr}
use Rattle.um_machine.specs.Run.{Offers, goes, skips_inherit, skips_drops, begins, exits, stops, leaves, is_tending, may_go, must_stop, stands_in, tends, waits_at, MayChoose, Step}
use Rattle.um_machine.specs.Table.{act_of, after, dropped, replies_of, row_of}
use Rattle.um_machine.specs.Joins.{deadlocks, not_over}
use Rattle.um_machine.specs.Services.{in_order, runs_out}
use Rattle.um_machine.specs.Time.{has_come}
use Rattle.um_trace.specs.Acts.{stop_act_text, time_act_text, thread_act_text, domain_act_text, pair_act_text, heap_act_text, object_act_text, wake_act_text, act_text, answer_text}
use Rattle.um_trace.specs.Names.{thread_text, reply_text}
use Rattle.um_texts.proofs.NameLemmas.{AreNamed}
use Rattle.um_texts.proofs.IdentityLemmas.{has_own, thread_known}
use Rattle.um_texts.proofs.StateLemmas.{IsKept, begins_with_start, begins_with_clear, are_fit}
use Rattle.um_texts.proofs.OwnLemmas.{IsSound, real_dynamic}
use Rattle.um_texts.proofs.OpeningLemmas.{offered_acting}
use Rattle.um_texts.proofs.KeptLemmas.{kept_after, ran, waits_acting}
use Rattle.um_texts.proofs.CoreLemmas.{core, core_thread, settled, same_thread}
use Rattle.um_texts.proofs.SaidLemmas.{core_waiting, same_act}
use Rattle.um_texts.proofs.AfterLemmas.{same_after}
use Rattle.um_texts.proofs.MarkLemmas.{Mark, cuts, drops, expires, frees, inherits, lates, others, tells, ticks, is_own, mark_step, mark_made, own-drops, same_mark}
use Rattle.um_texts.proofs.RowLemmas.{chooses, act_free, after_free, settled_other}
use Rattle.um_texts.proofs.ReadLemmas.{drop_known, expire_known, recycle_known, inherit_known, reserve_known, is_reserved}
use Rattle.um_texts.proofs.DropLemmas.{IsDrop, drop_step, dropping, same_dropping, behind_inherit}

-- The same step: of two threads that have the same left.

pub record AreSame (p q : Pending) (rest more : Steps) : Type 0 where
  pub step : p ≡ q
  pub left : rest ≡ more

cons_same : (p q : Pending) (xs ys : Steps) → p ∷ xs ≡ q ∷ ys → AreSame p q xs ys
cons_same p q xs ys h = record { step = cc; left = cc }

cons_none : (p : Pending) (xs : Steps) → p ∷ xs ≡ [] → ⊥
cons_none p xs h = cc

-- an inheritance is no start, and what may be skipped to is another step
not_start : (who : ThreadIx) (q : Pending) (more : Steps) → mark_step (Pending.Inherit who) ≡ mark_step q → begins_with_start (q ∷ more) ≡ true → ⊥
not_start who (Pending.Start whom script stack priority mode) more h k = cc
not_start who q more h k = cc

-- what two threads have left, where what is settled is the same
abbrev IsLeft : State → State → ℕ → Type 0
IsLeft s s2 t = settled (thread_at s t).pending ≡ settled (thread_at s2 t).pending

settled_goes : (s : State) (t : ℕ) (p : Pending) (rest : Steps) → (mark_step p ≡ drops → ⊥) → (thread_at s t).pending ≡ p ∷ rest → settled (thread_at s t).pending ≡ p ∷ rest
settled_goes s t p rest h e = ap settled e ∙ settled_other p rest h

settled_inherit : (s : State) (t : ℕ) (who : ThreadIx) (rest : Steps) → (thread_at s t).pending ≡ Pending.Inherit who ∷ rest → settled (thread_at s t).pending ≡ Pending.Inherit who ∷ rest
settled_inherit s t who rest e = ap settled e

settled_drops : (s : State) (t from : ℕ) (rest : Steps) → (thread_at s t).pending ≡ Pending.Drops from ∷ rest → settled (thread_at s t).pending ≡ Pending.Drops 0 ∷ rest
settled_drops s t from rest e = ap settled e

settled_none : (s : State) (t : ℕ) → (thread_at s t).pending ≡ [] → settled (thread_at s t).pending ≡ []
settled_none s t e = ap settled e

-- who may go on where another skips an inheritance
no_inherit : (image : Image) (s : State) → IsKept image s → (t : ℕ) (who : ThreadIx) (p q : Pending) (rest more : Steps) → (thread_at s t).pending ≡ Pending.Inherit who ∷ q ∷ more
    → Pending.Inherit who ∷ q ∷ more ≡ p ∷ rest → mark_step p ≡ mark_step q → ⊥
no_inherit image s kept t who p q rest more e same marks =
    let first = (cons_same (Pending.Inherit who) p (q ∷ more) rest same).step in
    not_start who q more (ap mark_step first ∙ marks) (behind_inherit image s kept t who (q ∷ more) e)

no_drops : (p : Pending) (rest more : Steps) → Pending.Drops 0 ∷ more ≡ p ∷ rest → (mark_step p ≡ drops → ⊥) → ⊥
no_drops p rest more same other = other (ap mark_step (sym (cons_same (Pending.Drops 0) p more rest same).step))

unlike : (who : ThreadIx) (xs ys : Steps) → Pending.Inherit who ∷ xs ≡ Pending.Drops 0 ∷ ys → ⊥
unlike who xs ys h = cc

-- which instruction comes next
next_same : (s s2 : State) → core s ≡ core s2 → (t : ℕ) → instruction_at s.image (thread_at s t).place ≡ instruction_at s2.image (thread_at s2 t).place
next_same s s2 e t =
    ap (λ (k : State). instruction_at k.image (thread_at s t).place) e ∙ ap (λ (m : Thread). instruction_at s2.image m.place) (same_thread s s2 e t)

no_end : (o : Option Instr) → IsTrue (is_some o) → o ≡ None → ⊥
no_end (Some instr) h e = cc
no_end None h e = cc

-- One record for what is known of both.
pub record AreBoth (image : Image) (s s2 : State) : Type 0 where
  pub sound : IsSound image
  pub named : AreNamed image
  pub first : IsKept image s
  pub second : IsKept image s2
  pub same : core s ≡ core s2
  -- a thread waits in one cell
  pub sole : (u x y : ℕ) → stands_in u (waiters_in s2 x) ≡ true → stands_in u (waiters_in s2 y) ≡ true → x ≡ y

left_same : (image : Image) (s s2 : State) → AreBoth image s s2 → (t : ℕ) → IsLeft s s2 t
left_same image s s2 both t = ap (λ (m : Thread). m.pending) (same_thread s s2 both.same t)

-- what has nothing left isn't what has a step
not_idle : (image : Image) (s s2 : State) → AreBoth image s s2 → (t : ℕ) → (thread_at s t).pending ≡ [] → (p : Pending) (rest : Steps) → settled (thread_at s2 t).pending ≡ p ∷ rest → ⊥
not_idle image s s2 both t none p rest some = cons_none p rest (sym some ∙ sym (left_same image s s2 both t) ∙ settled_none s t none)

-- a step that isn't of an instruction has a mark of its own
not_own : false ≡ true → ⊥
not_own h = cc

not_tending : (p : Pending) → IsTrue (is_tending p) → is_own (mark_step p) ≡ true → ⊥
not_tending (Pending.CleanPair who) is own = not_own own
not_tending Pending.Recycle is own = not_own own
not_tending Pending.Tick is own = not_own own
not_tending (Pending.TimeOut who) is own = not_own own
not_tending Pending.Expire is own = not_own own
not_tending (Pending.Cut who) is own = not_own own
not_tending p is own = cc

-- who may go isn't killed
not_killed : (doomed aborted suspended : Bool) → not (doomed || aborted || suspended) ≡ true → (not doomed && aborted) ≡ true → ⊥
not_killed true aborted suspended h k = cc
not_killed false true suspended h k = cc
not_killed false false suspended h k = cc

not_both : (m m2 : Thread) → core_thread m ≡ core_thread m2 → may_go m ≡ true → must_stop m2 ≡ true → ⊥
not_both m m2 same go stop = not_killed m.doomed m.aborted m.suspended go (ap (λ (u : Thread). not u.doomed && u.aborted) same ∙ stop)

pub same_step : (image : Image) (s s2 : State) → AreBoth image s s2 → (t : ℕ) (p q : Pending) (rest more : Steps) → Offers s t p rest → Offers s2 t q more → mark_step p ≡ mark_step q
    → is_own (mark_step p) ≡ true → is_own (mark_step q) ≡ true → AreSame p q rest more
same_step image s s2 both t p q rest more (goes e) (goes f) marks own owns =
    cons_same p q rest more (sym (settled_goes s t p rest (own-drops (mark_step p) own) e) ∙ left_same image s s2 both t ∙ settled_goes s2 t q more (own-drops (mark_step q) owns) f)
same_step image s s2 both t p q rest more (goes e) (skips_inherit {who = who} f g) marks own owns =
    absurd (no_inherit image s2 both.second t who p q rest more f (sym (settled_inherit s2 t who (q ∷ more) f) ∙ sym (left_same image s s2 both t) ∙ settled_goes s t p rest (own-drops (mark_step p) own) e) marks)
same_step image s s2 both t p q rest more (goes e) (skips_drops {from = from} f g) marks own owns =
    absurd (no_drops p rest (q ∷ more) (sym (settled_drops s2 t from (q ∷ more) f) ∙ sym (left_same image s s2 both t) ∙ settled_goes s t p rest (own-drops (mark_step p) own) e) (own-drops (mark_step p) own))
same_step image s s2 both t p q rest more (goes e) (begins f g h i) marks own owns =
    absurd (cons_none p rest (sym (settled_goes s t p rest (own-drops (mark_step p) own) e) ∙ left_same image s s2 both t ∙ settled_none s2 t f))
same_step image s s2 both t p q rest more (goes e) (exits f g h i) marks own owns =
    absurd (cons_none p rest (sym (settled_goes s t p rest (own-drops (mark_step p) own) e) ∙ left_same image s s2 both t ∙ settled_none s2 t f))
same_step image s s2 both t p q rest more (skips_inherit {who = who} e g) (goes f) marks own owns =
    absurd (no_inherit image s both.first t who q p more rest e (sym (settled_inherit s t who (p ∷ rest) e) ∙ left_same image s s2 both t ∙ settled_goes s2 t q more (own-drops (mark_step q) owns) f) (sym marks))
same_step image s s2 both t p q rest more (skips_inherit {who = who} e g) (skips_inherit {who = whom} f h) marks own owns =
    let same = cons_same (Pending.Inherit who) (Pending.Inherit whom) (p ∷ rest) (q ∷ more) (sym (settled_inherit s t who (p ∷ rest) e) ∙ left_same image s s2 both t ∙ settled_inherit s2 t whom (q ∷ more) f) in
    cons_same p q rest more same.left
same_step image s s2 both t p q rest more (skips_inherit {who = who} e g) (skips_drops {from = from} f h) marks own owns =
    absurd (unlike who (p ∷ rest) (q ∷ more) (sym (settled_inherit s t who (p ∷ rest) e) ∙ left_same image s s2 both t ∙ settled_drops s2 t from (q ∷ more) f))
same_step image s s2 both t p q rest more (skips_inherit {who = who} e g) (begins f h i j) marks own owns =
    absurd (cons_none (Pending.Inherit who) (p ∷ rest) (sym (settled_inherit s t who (p ∷ rest) e) ∙ left_same image s s2 both t ∙ settled_none s2 t f))
same_step image s s2 both t p q rest more (skips_inherit {who = who} e g) (exits f h i j) marks own owns =
    absurd (cons_none (Pending.Inherit who) (p ∷ rest) (sym (settled_inherit s t who (p ∷ rest) e) ∙ left_same image s s2 both t ∙ settled_none s2 t f))
same_step image s s2 both t p q rest more (skips_drops {from = from} e g) (goes f) marks own owns =
    absurd (no_drops q more (p ∷ rest) (sym (settled_drops s t from (p ∷ rest) e) ∙ left_same image s s2 both t ∙ settled_goes s2 t q more (own-drops (mark_step q) owns) f) (own-drops (mark_step q) owns))
same_step image s s2 both t p q rest more (skips_drops {from = from} e g) (skips_inherit {who = who} f h) marks own owns =
    absurd (unlike who (q ∷ more) (p ∷ rest) (sym (settled_inherit s2 t who (q ∷ more) f) ∙ sym (left_same image s s2 both t) ∙ settled_drops s t from (p ∷ rest) e))
same_step image s s2 both t p q rest more (skips_drops {from = from} e g) (skips_drops {from = other} f h) marks own owns =
    let same = cons_same (Pending.Drops 0) (Pending.Drops 0) (p ∷ rest) (q ∷ more) (sym (settled_drops s t from (p ∷ rest) e) ∙ left_same image s s2 both t ∙ settled_drops s2 t other (q ∷ more) f) in
    cons_same p q rest more same.left
same_step image s s2 both t p q rest more (skips_drops {from = from} e g) (begins f h i j) marks own owns =
    absurd (cons_none (Pending.Drops 0) (p ∷ rest) (sym (settled_drops s t from (p ∷ rest) e) ∙ left_same image s s2 both t ∙ settled_none s2 t f))
same_step image s s2 both t p q rest more (skips_drops {from = from} e g) (exits f h i j) marks own owns =
    absurd (cons_none (Pending.Drops 0) (p ∷ rest) (sym (settled_drops s t from (p ∷ rest) e) ∙ left_same image s s2 both t ∙ settled_none s2 t f))
same_step image s s2 both t p q rest more (begins e g h i) (goes f) marks own owns = absurd (not_idle image s s2 both t e q more (settled_goes s2 t q more (own-drops (mark_step q) owns) f))
same_step image s s2 both t p q rest more (begins e g h i) (skips_inherit {who = who} f j) marks own owns = absurd (not_idle image s s2 both t e (Pending.Inherit who) (q ∷ more) (settled_inherit s2 t who (q ∷ more) f))
same_step image s s2 both t p q rest more (begins e g h i) (skips_drops {from = from} f j) marks own owns = absurd (not_idle image s s2 both t e (Pending.Drops 0) (q ∷ more) (settled_drops s2 t from (q ∷ more) f))
same_step image s s2 both t p q rest more (begins e g h i) (begins f j k l) marks own owns = record { step = refl; left = refl }
same_step image s s2 both t p q rest more (begins e g h i) (exits f j k l) marks own owns = absurd (no_end (instruction_at s.image (thread_at s t).place) i (next_same s s2 both.same t ∙ l))
same_step image s s2 both t p q rest more (exits e g h i) (goes f) marks own owns = absurd (not_idle image s s2 both t e q more (settled_goes s2 t q more (own-drops (mark_step q) owns) f))
same_step image s s2 both t p q rest more (exits e g h i) (skips_inherit {who = who} f j) marks own owns = absurd (not_idle image s s2 both t e (Pending.Inherit who) (q ∷ more) (settled_inherit s2 t who (q ∷ more) f))
same_step image s s2 both t p q rest more (exits e g h i) (skips_drops {from = from} f j) marks own owns = absurd (not_idle image s s2 both t e (Pending.Drops 0) (q ∷ more) (settled_drops s2 t from (q ∷ more) f))
same_step image s s2 both t p q rest more (exits e g h i) (begins f j k l) marks own owns =
    absurd (no_end (instruction_at s2.image (thread_at s2 t).place) l (sym (next_same s s2 both.same t) ∙ i))
same_step image s s2 both t p q rest more (exits e g h i) (exits f j k l) marks own owns = record { step = refl; left = refl }
same_step image s s2 both t p q rest more (goes e) (stops f g h) marks own owns =
    absurd (cons_none p rest (sym (settled_goes s t p rest (own-drops (mark_step p) own) e) ∙ left_same image s s2 both t ∙ settled_none s2 t f))
same_step image s s2 both t p q rest more (skips_inherit {who = who} e g) (stops f h i) marks own owns =
    absurd (cons_none (Pending.Inherit who) (p ∷ rest) (sym (settled_inherit s t who (p ∷ rest) e) ∙ left_same image s s2 both t ∙ settled_none s2 t f))
same_step image s s2 both t p q rest more (skips_drops {from = from} e g) (stops f h i) marks own owns =
    absurd (cons_none (Pending.Drops 0) (p ∷ rest) (sym (settled_drops s t from (p ∷ rest) e) ∙ left_same image s s2 both t ∙ settled_none s2 t f))
same_step image s s2 both t p q rest more (begins e g h i) (stops f j k) marks own owns = absurd (not_both (thread_at s t) (thread_at s2 t) (same_thread s s2 both.same t) h k)
same_step image s s2 both t p q rest more (exits e g h i) (stops f j k) marks own owns = absurd (not_both (thread_at s t) (thread_at s2 t) (same_thread s s2 both.same t) h k)
same_step image s s2 both t p q rest more (stops e g h) (goes f) marks own owns = absurd (not_idle image s s2 both t e q more (settled_goes s2 t q more (own-drops (mark_step q) owns) f))
same_step image s s2 both t p q rest more (stops e g h) (skips_inherit {who = who} f j) marks own owns = absurd (not_idle image s s2 both t e (Pending.Inherit who) (q ∷ more) (settled_inherit s2 t who (q ∷ more) f))
same_step image s s2 both t p q rest more (stops e g h) (skips_drops {from = from} f j) marks own owns = absurd (not_idle image s s2 both t e (Pending.Drops 0) (q ∷ more) (settled_drops s2 t from (q ∷ more) f))
same_step image s s2 both t p q rest more (stops e g h) (begins f j k l) marks own owns = absurd (not_both (thread_at s2 t) (thread_at s t) (sym (same_thread s s2 both.same t)) k h)
same_step image s s2 both t p q rest more (stops e g h) (exits f j k l) marks own owns = absurd (not_both (thread_at s2 t) (thread_at s t) (sym (same_thread s s2 both.same t)) k h)
same_step image s s2 both t p q rest more (stops e g h) (stops f j k) marks own owns = record { step = refl; left = refl }
same_step image s s2 both t p q rest more (leaves e) offered marks own owns = absurd (not_own own)
same_step image s s2 both t p q rest more offered (leaves f) marks own owns = absurd (not_own owns)
same_step image s s2 both t p q rest more (tends e started) offered marks own owns = absurd (not_tending p e own)
same_step image s s2 both t p q rest more offered (tends f started) marks own owns = absurd (not_tending q f owns)

-- One event, and one core after it.
pub record IsOne (a b : Act) (m m2 : State) : Type 0 where
  pub act : a ≡ b
  pub after : core m ≡ core m2

thread_same : (a b : ThreadIx) → a.0 ≡ b.0 → a ≡ b
thread_same a b h = ap (λ (n : ℕ). record { 0 = n }) h

addr_same : (a b : Addr) → a.0 ≡ b.0 → a ≡ b
addr_same a b h = ap (λ (n : ℕ). record { 0 = n }) h

one_drop : (image : Image) (s s2 : State) → AreBoth image s s2 → (a b : Act) (m m2 : State) → IsDrop image s a m → IsDrop image s2 b m2 → act_text image a ≡ act_text image b → IsOne a b m m2
one_drop image s s2 both a b m m2 d f h =
    let first = dropped s d.who.0 (row_of s d.addr) in
    let second = dropped s2 f.who.0 (row_of s2 f.addr) in
    let texts : act_text image (Act.DropPair d.who d.addr first) ≡ act_text image (Act.DropPair f.who f.addr second) =
    ap (act_text image) (sym d.says) ∙ h ∙ ap (act_text image) f.says in
    let known = drop_known image both.sound both.named d.who f.who d.addr f.addr first second d.own f.own texts in
    let who : d.who ≡ f.who = thread_same d.who f.who known.0 in
    let addr : d.addr ≡ f.addr = addr_same d.addr f.addr known.1 in
    let row : row_of s d.addr ≡ row_of s2 f.addr = ap (λ (k : State). row_of k d.addr) both.same ∙ ap (λ (x : Addr). row_of s2 x) addr in
    let left : first ≡ second =
    ap (λ (k : State). dropped k d.who.0 (row_of s d.addr)) both.same ∙ ap (λ (n : ℕ). dropped s2 n (row_of s d.addr)) known.0 ∙ ap (λ (n : ℕ). dropped s2 f.who.0 n) row in
    record {
      act =
          d.says ∙ ap (λ (x : ThreadIx). Act.DropPair x d.addr first) who ∙ ap (λ (x : Addr). Act.DropPair f.who x first) addr
          ∙ ap (λ x. Act.DropPair f.who f.addr x) left ∙ sym f.says;
      after =
          d.leaves ∙ same_dropping s s2 both.same d.who.0 (row_of s d.addr) ∙ ap (λ (n : ℕ). core (dropping s2 n (row_of s d.addr))) known.0
          ∙ ap (λ (n : ℕ). core (dropping s2 f.who.0 n)) row ∙ sym f.leaves;
    }

-- a row that is chosen
one_row : (s s2 : State) → core s ≡ core s2 → (t x y : ℕ) (p : Pending) (rest : Steps) → x ≡ y → IsOne (act_of s t x p) (act_of s2 t y p) (after s t x p rest) (after s2 t y p rest)
one_row s s2 e t x y p rest same = record {
  act = same_act s s2 e t x p ∙ ap (λ (z : ℕ). act_of s2 t z p) same;
  after = same_after s s2 e t x p rest ∙ ap (λ (z : ℕ). core (after s2 t z p rest)) same;
}

one_free : (s s2 : State) → core s ≡ core s2 → (t x y : ℕ) (p : Pending) (rest : Steps) → chooses p ≡ false → IsOne (act_of s t x p) (act_of s2 t y p) (after s t x p rest) (after s2 t y p rest)
one_free s s2 e t x y p rest free = record {
  act = same_act s s2 e t x p ∙ act_free s2 t x y p free;
  after = same_after s s2 e t x p rest ∙ ap core (after_free s2 t x y p rest free);
}

one_inherit : (image : Image) (s s2 : State) → AreBoth image s s2 → (t x y : ℕ) (who : ThreadIx) → pair_at s t x ≡ true → pair_at s2 t y ≡ true
    → act_text image (act_of s t x (Pending.Inherit who)) ≡ act_text image (act_of s2 t y (Pending.Inherit who)) → x ≡ y
one_inherit image s s2 both t x y who may may2 h =
    let shown : Image → ℕ → List ℕ = λ i z. act_text image (Act.Inherit who (to_addr (addr_of i z))) in
    inherit_known image both.sound both.named who x y (both.first.real t x may) (both.second.real t y may2)
    (sym (ap (λ (i : Image). shown i x) both.first.image_is) ∙ h ∙ ap (λ (i : Image). shown i y) both.second.image_is)

one_reserve : (image : Image) (s s2 : State) → AreBoth image s s2 → (t x y : ℕ) (kind : Kind) → MayChoose s t x (Pending.Reserve kind) → MayChoose s2 t y (Pending.Reserve kind)
    → act_text image (act_of s t x (Pending.Reserve kind)) ≡ act_text image (act_of s2 t y (Pending.Reserve kind)) → x ≡ y
one_reserve image s s2 both t x y kind may may2 h =
    let shown : Image → ℕ → List ℕ = λ i z. act_text image (Act.Reserve kind (if z == 0 then None else Some (to_addr (addr_of i z)))) in
    reserve_known image both.sound both.named kind x y (is_reserved s t x kind may) (is_reserved s2 t y kind may2)
    (sym (ap (λ (i : Image). shown i x) both.first.image_is) ∙ h ∙ ap (λ (i : Image). shown i y) both.second.image_is)

-- a join's answer tells which one it chose
over_apart : (image : Image) (s : State) (t who : ℕ) (timeout : Timeout) → answer_text image (not_over s t who timeout) ≡ answer_text image (Answer.Now (Reply.Num 0)) → ⊥
unfolding answer_text reply_text
over_apart image s t who timeout h = by timeout (h ∙ decimal_digit 0 (omega arith))
  where
    waits : (b : Bool) → answer_text image (if b then Answer.Now (Reply.Fail Errno.EDEADLK) else Answer.Wait) ≡ 48 ∷ [] → ⊥
    waits true k = cc
    waits false k = cc

    by : (timeout : Timeout) → answer_text image (not_over s t who timeout) ≡ 48 ∷ [] → ⊥
    by Timeout.NoWait k = cc
    by Timeout.Forever k = waits (deadlocks s t who) k
    by (Timeout.Ticks n) k = waits (deadlocks s t who) k

join_words : (image : Image) (who : ThreadIx) (a b : Answer) → act_text image (Act.Join who a) ≡ act_text image (Act.Join who b) → answer_text image a ≡ answer_text image b
unfolding act_text wake_act_text object_act_text heap_act_text pair_act_text domain_act_text thread_act_text time_act_text stop_act_text
join_words image who a b h = append_cancel_left (codes "join " ++ thread_text image who.0 ++ codes " ") (answer_text image a) (answer_text image b) h

one_join : (image : Image) (s s2 : State) → core s ≡ core s2 → (t x y : ℕ) (who : ThreadIx) (timeout : Timeout) (rest : Steps)
    → act_text image (act_of s t x (Pending.Join who timeout)) ≡ act_text image (act_of s2 t y (Pending.Join who timeout))
    → IsOne (act_of s t x (Pending.Join who timeout)) (act_of s2 t y (Pending.Join who timeout)) (after s t x (Pending.Join who timeout) rest) (after s2 t y (Pending.Join who timeout) rest)
one_join image s s2 e t zero zero who timeout rest h = one_row s s2 e t zero zero (Pending.Join who timeout) rest refl
one_join image s s2 e t (suc n) (suc m) who timeout rest h = record { act = refl; after = same_after s s2 e t (suc n) (Pending.Join who timeout) rest }
one_join image s s2 e t zero (suc m) who timeout rest h = absurd (over_apart image s t who.0 timeout (join_words image who _ _ h))
one_join image s s2 e t (suc n) zero who timeout rest h = absurd (over_apart image s2 t who.0 timeout (sym (join_words image who _ _ h)))

one_choice : (image : Image) (s s2 : State) → AreBoth image s s2 → (t x y : ℕ) (p : Pending) (rest : Steps) → is_own (mark_step p) ≡ true → MayChoose s t x p → MayChoose s2 t y p
    → act_text image (act_of s t x p) ≡ act_text image (act_of s2 t y p) → IsOne (act_of s t x p) (act_of s2 t y p) (after s t x p rest) (after s2 t y p rest)
one_choice image s s2 both t x y (Pending.Inherit who) rest own may may2 h =
    one_row s s2 both.same t x y (Pending.Inherit who) rest (one_inherit image s s2 both t x y who may.0 may2.0 h)
one_choice image s s2 both t x y (Pending.Reserve kind) rest own may may2 h = one_row s s2 both.same t x y (Pending.Reserve kind) rest (one_reserve image s s2 both t x y kind may may2 h)
one_choice image s s2 both t x y (Pending.DropPair who a) rest own may may2 h = absurd (not_own own)
one_choice image s s2 both t x y (Pending.Drops from) rest own may may2 h = absurd (not_own own)
one_choice image s s2 both t x y (Pending.CleanPair who) rest own may may2 h = absurd (not_own own)
one_choice image s s2 both t x y Pending.Recycle rest own may may2 h = absurd (not_own own)
one_choice image s s2 both t x y (Pending.TimeOut who) rest own may may2 h = absurd (not_own own)
one_choice image s s2 both t x y Pending.Expire rest own may may2 h = absurd (not_own own)
one_choice image s s2 both t x y (Pending.Cut who) rest own may may2 h = absurd (not_own own)
one_choice image s s2 both t x y (Pending.Join who timeout) rest own may may2 h = one_join image s s2 both.same t x y who timeout rest h
one_choice image s s2 both t x y p rest own may may2 h = one_free s s2 both.same t x y p rest refl

-- an object that is recycled
one_recycle : (image : Image) (s s2 : State) → AreBoth image s s2 → (t x y : ℕ) (rest more : Steps) → is_gone (object_at s x).status ≡ true → is_gone (object_at s2 y).status ≡ true
    → act_text image (act_of s t x Pending.Recycle) ≡ act_text image (act_of s2 t y Pending.Recycle)
    → IsOne (act_of s t x Pending.Recycle) (act_of s2 t y Pending.Recycle) (after s t x Pending.Recycle rest) (after s2 t y Pending.Recycle more)
one_recycle image s s2 both t x y rest more gone gone2 h =
    let shown : Image → ℕ → List ℕ = λ i z. act_text image (Act.Recycle (to_addr (addr_of i z))) in
    let a = both.first.gone x gone in
    let b = both.second.gone y gone2 in
    let same = recycle_known image both.sound both.named x y (real_dynamic image x a.0 a.1) (real_dynamic image y b.0 b.1)
    (sym (ap (λ (i : Image). shown i x) both.first.image_is) ∙ h ∙ ap (λ (i : Image). shown i y) both.second.image_is) in
    one_row s s2 both.same t x y Pending.Recycle more same

recycle_is : (p : Pending) → mark_step p ≡ frees → p ≡ Pending.Recycle
recycle_is Pending.Recycle h = refl
recycle_is p h = cc

-- a step of a thread that makes an act
pub record IsMade (s : State) (t : ℕ) (act : Act) (s2 : State) : Type 0 where
  pub step : Pending
  pub rest : Steps
  pub row : ℕ
  pub offered : Offers s t step rest
  pub chosen : MayChoose s t row step
  pub says : act ≡ act_of s t row step
  pub leaves : s2 ≡ after s t row step rest

pub made_by : (s : State) (e : Event) (s2 : State) → Step s e s2 → IsMade s e.thread.0 e.act s2
made_by s e s2 step = record { step = step.step; rest = step.rest; row = step.row; offered = step.offered; chosen = step.chosen; says = step.says; leaves = step.leaves }

acting_own : (image : Image) (s : State) → IsKept image s → (t : ℕ) (p : Pending) (rest : Steps) → Offers s t p rest → has_own image t ≡ true
acting_own image s kept t p rest offered = kept.own t (offered_acting s t p rest offered)

-- the same acts and states
one_as : (a b a2 b2 : Act) (m n m2 n2 : State) → a2 ≡ a → b2 ≡ b → m2 ≡ m → n2 ≡ n → IsOne a b m n → IsOne a2 b2 m2 n2
one_as a b a2 b2 m n m2 n2 e f g h one = record { act = e ∙ one.act ∙ sym f; after = ap core g ∙ one.after ∙ sym (ap core h) }

-- an equation of steps carries what is said of them
moved_choice : (image : Image) (s s2 : State) → AreBoth image s s2 → (t x y : ℕ) (p q : Pending) (rest more : Steps) → p ≡ q → rest ≡ more → is_own (mark_step p) ≡ true → MayChoose s t x p → MayChoose s2 t y q
    → act_text image (act_of s t x p) ≡ act_text image (act_of s2 t y q) → IsOne (act_of s t x p) (act_of s2 t y q) (after s t x p rest) (after s2 t y q more)
moved_choice image s s2 both t x y p q rest more pq rm own may may2 h =
    subst (λ (z : Pending). MayChoose s2 t y z → act_text image (act_of s t x p) ≡ act_text image (act_of s2 t y z) → IsOne (act_of s t x p) (act_of s2 t y z) (after s t x p rest) (after s2 t y z more)) pq
    (λ m k. subst (λ (z : Steps). IsOne (act_of s t x p) (act_of s2 t y p) (after s t x p rest) (after s2 t y p z)) rm (one_choice image s s2 both t x y p rest own may m k)) may2 h

one_recycled : (image : Image) (s s2 : State) → AreBoth image s s2 → (t x y : ℕ) (p q : Pending) (rest more : Steps) → p ≡ Pending.Recycle → q ≡ Pending.Recycle → MayChoose s t x p → MayChoose s2 t y q
    → act_text image (act_of s t x p) ≡ act_text image (act_of s2 t y q) → IsOne (act_of s t x p) (act_of s2 t y q) (after s t x p rest) (after s2 t y q more)
one_recycled image s s2 both t x y p q rest more ep eq may may2 h =
    subst (λ (z : Pending). MayChoose s t x z → act_text image (act_of s t x z) ≡ act_text image (act_of s2 t y q) → IsOne (act_of s t x z) (act_of s2 t y q) (after s t x z rest) (after s2 t y q more)) (sym ep)
    (λ m k. subst (λ (z : Pending). MayChoose s2 t y z → act_text image (act_of s t x Pending.Recycle) ≡ act_text image (act_of s2 t y z) → IsOne (act_of s t x Pending.Recycle) (act_of s2 t y z) (after s t x Pending.Recycle rest) (after s2 t y z more)) (sym eq)
    (λ n l. one_recycle image s s2 both t x y rest more m.0.0 n.0.0 l) may2 k) may h

-- Steps that aren't of an instruction: what is left of one stays, so it doesn't matter to them.

tick_is : (p : Pending) → mark_step p ≡ ticks → p ≡ Pending.Tick
tick_is Pending.Tick h = refl
tick_is p h = cc

tell_is : (p : Pending) → mark_step p ≡ tells → p ≡ Pending.Left
tell_is Pending.Left h = refl
tell_is p h = cc

expire_is : (p : Pending) → mark_step p ≡ expires → p ≡ Pending.Expire
expire_is Pending.Expire h = refl
expire_is p h = cc

late_is : (p : Pending) → mark_step p ≡ lates → (who : ThreadIx) × (p ≡ Pending.TimeOut who)
late_is (Pending.TimeOut who) h = (who, refl)
late_is p h = cc

cut_is : (p : Pending) → mark_step p ≡ cuts → (who : ThreadIx) × (p ≡ Pending.Cut who)
cut_is (Pending.Cut who) h = (who, refl)
cut_is p h = cc

-- of two steps that are these
abbrev Ones : State → State → ℕ → ℕ → ℕ → Steps → Steps → Pending → Pending → Type 0
Ones s s2 t x y rest more p q = IsOne (act_of s t x p) (act_of s2 t y q) (after s t x p rest) (after s2 t y q more)

ones_of : (s s2 : State) (t x y : ℕ) (rest more : Steps) (p q p2 q2 : Pending) → p ≡ p2 → q ≡ q2 → Ones s s2 t x y rest more p2 q2 → Ones s s2 t x y rest more p q
ones_of s s2 t x y rest more p q p2 q2 e f one =
    subst (λ (z : Pending). Ones s s2 t x y rest more z q) (sym e) (subst (λ (z : Pending). Ones s s2 t x y rest more p2 z) (sym f) one)

one_tick : (s s2 : State) → core s ≡ core s2 → (t x y : ℕ) (p q : Pending) (rest more : Steps) → p ≡ Pending.Tick → q ≡ Pending.Tick → Ones s s2 t x y rest more p q
one_tick s s2 same t x y p q rest more e f =
    ones_of s s2 t x y rest more p q Pending.Tick Pending.Tick e f (record { act = same_act s s2 same t x Pending.Tick; after = same_after s s2 same t x Pending.Tick rest })

one_tell : (s s2 : State) → core s ≡ core s2 → (t x y : ℕ) (p q : Pending) (rest more : Steps) → p ≡ Pending.Left → q ≡ Pending.Left → Ones s s2 t x y rest more p q
one_tell s s2 same t x y p q rest more e f =
    ones_of s s2 t x y rest more p q Pending.Left Pending.Left e f (record { act = same_act s s2 same t x Pending.Left; after = same_after s s2 same t x Pending.Left rest })

-- who is named by a line waits, so it has an object of its own; it waits in one cell
cell_same : (image : Image) (s s2 : State) → AreBoth image s s2 → (u x y : ℕ) → stands_in u (waiters_in s x) ≡ true → stands_in u (waiters_in s2 y) ≡ true → x ≡ y
cell_same image s s2 both u x y here there =
    let same : waiters_in s x ≡ waiters_in s2 x = sym (core_waiting s x) ∙ ap (λ (k : State). waiters_in k x) both.same ∙ core_waiting s2 x in
    both.sole u x y (subst (λ (ws : List Waiter). stands_in u ws ≡ true) same here) there

waiter_same : (image : Image) (s s2 : State) → AreBoth image s s2 → (who whom : ThreadIx) (x y : ℕ) → waits_at s who.0 x ≡ true → waits_at s2 whom.0 y ≡ true → thread_text image who.0 ≡ thread_text image whom.0
    → (who ≡ whom) × (x ≡ y)
waiter_same image s s2 both who whom x y may may2 h =
    let own = both.first.own who.0 (waits_acting s who.0 x may) in
    let owns = both.second.own whom.0 (waits_acting s2 whom.0 y may2) in
    let number = thread_known image both.sound.lawful both.named both.sound.few who.0 whom.0 own owns h in
    let here = (and_parts (is_waiting (thread_at s who.0)) (stands_in who.0 (waiters_in s x)) may).1 in
    let there = (and_parts (is_waiting (thread_at s2 whom.0)) (stands_in whom.0 (waiters_in s2 y)) may2).1 in
    (thread_same who whom number, cell_same image s s2 both whom.0 x y (subst (λ (n : ℕ). stands_in n (waiters_in s x) ≡ true) number here) there)

late_words : (image : Image) (who whom : ThreadIx) → act_text image (Act.TimedOut who) ≡ act_text image (Act.TimedOut whom) → thread_text image who.0 ≡ thread_text image whom.0
unfolding act_text wake_act_text object_act_text heap_act_text pair_act_text domain_act_text thread_act_text time_act_text
late_words image who whom h = append_cancel_left (codes "timeout ") (thread_text image who.0) (thread_text image whom.0) h

cut_words : (image : Image) (who whom : ThreadIx) → act_text image (Act.Cut who) ≡ act_text image (Act.Cut whom) → thread_text image who.0 ≡ thread_text image whom.0
unfolding act_text wake_act_text object_act_text heap_act_text pair_act_text domain_act_text thread_act_text time_act_text stop_act_text
cut_words image who whom h = append_cancel_left (codes "cut ") (thread_text image who.0) (thread_text image whom.0) h

one_late : (image : Image) (s s2 : State) → AreBoth image s s2 → (t x y : ℕ) (who whom : ThreadIx) (p q : Pending) (rest more : Steps) → p ≡ Pending.TimeOut who → q ≡ Pending.TimeOut whom → MayChoose s t x p → MayChoose s2 t y q
    → act_text image (act_of s t x p) ≡ act_text image (act_of s2 t y q) → Ones s s2 t x y rest more p q
one_late image s s2 both t x y who whom p q rest more e f may may2 h =
    let chosen = subst (λ (z : Pending). MayChoose s t x z) e may in
    let chosen2 = subst (λ (z : Pending). MayChoose s2 t y z) f may2 in
    let words = ap (λ (z : Pending). act_text image (act_of s t x z)) (sym e) ∙ h ∙ ap (λ (z : Pending). act_text image (act_of s2 t y z)) f in
    let same = waiter_same image s s2 both who whom x y (and_parts (has_come s.now (thread_at s who.0).until) _ chosen).1 (and_parts (has_come s2.now (thread_at s2 whom.0).until) _ chosen2).1 (late_words image who whom words) in
    ones_of s s2 t x y rest more p q (Pending.TimeOut who) (Pending.TimeOut whom) e f (record {
      act = ap (λ (z : ThreadIx). Act.TimedOut z) same.0;
      after =
          same_after s s2 both.same t x (Pending.TimeOut who) rest ∙ ap (λ (z : ThreadIx). core (after s2 t x (Pending.TimeOut z) more)) same.0
          ∙ ap (λ (n : ℕ). core (after s2 t n (Pending.TimeOut whom) more)) same.1;
    })

one_cut : (image : Image) (s s2 : State) → AreBoth image s s2 → (t x y : ℕ) (who whom : ThreadIx) (p q : Pending) (rest more : Steps) → p ≡ Pending.Cut who → q ≡ Pending.Cut whom → MayChoose s t x p → MayChoose s2 t y q
    → act_text image (act_of s t x p) ≡ act_text image (act_of s2 t y q) → Ones s s2 t x y rest more p q
one_cut image s s2 both t x y who whom p q rest more e f may may2 h =
    let chosen = subst (λ (z : Pending). MayChoose s t x z) e may in
    let chosen2 = subst (λ (z : Pending). MayChoose s2 t y z) f may2 in
    let words = ap (λ (z : Pending). act_text image (act_of s t x z)) (sym e) ∙ h ∙ ap (λ (z : Pending). act_text image (act_of s2 t y z)) f in
    let same = waiter_same image s s2 both who whom x y (and_parts (thread_at s who.0).aborted _ chosen).1 (and_parts (thread_at s2 whom.0).aborted _ chosen2).1 (cut_words image who whom words) in
    ones_of s s2 t x y rest more p q (Pending.Cut who) (Pending.Cut whom) e f (record {
      act = ap (λ (z : ThreadIx). Act.Cut z) same.0;
      after =
          same_after s s2 both.same t x (Pending.Cut who) rest ∙ ap (λ (z : ThreadIx). core (after s2 t x (Pending.Cut z) more)) same.0
          ∙ ap (λ (n : ℕ). core (after s2 t n (Pending.Cut whom) more)) same.1;
    })

-- a timer that runs out stands at a row
one_expire : (image : Image) (s s2 : State) → AreBoth image s s2 → (t x y : ℕ) (p q : Pending) (rest more : Steps) → p ≡ Pending.Expire → q ≡ Pending.Expire → MayChoose s t x p → MayChoose s2 t y q
    → act_text image (act_of s t x p) ≡ act_text image (act_of s2 t y q) → Ones s s2 t x y rest more p q
one_expire image s s2 both t x y p q rest more e f may may2 h =
    let chosen = subst (λ (z : Pending). MayChoose s t x z) e may in
    let chosen2 = subst (λ (z : Pending). MayChoose s2 t y z) f may2 in
    let words = ap (λ (z : Pending). act_text image (act_of s t x z)) (sym e) ∙ h ∙ ap (λ (z : Pending). act_text image (act_of s2 t y z)) f in
    let shown : Image → ℕ → List (ThreadIx × Reply) → List ℕ = λ i z woken. act_text image (Act.Expire (to_addr (addr_of i z)) woken) in
    let out = replies_of (runs_out (object_at s x).waiters (in_order (object_at s x).waiters)).2 in
    let out2 = replies_of (runs_out (object_at s2 y).waiters (in_order (object_at s2 y).waiters)).2 in
    let same = expire_known image both.sound both.named x y out out2 (both.first.timers x (ran s.now (object_at s x).contents chosen)) (both.second.timers y (ran s2.now (object_at s2 y).contents chosen2))
    (sym (ap (λ (i : Image). shown i x out) both.first.image_is) ∙ words ∙ ap (λ (i : Image). shown i y out2) both.second.image_is) in
    ones_of s s2 t x y rest more p q Pending.Expire Pending.Expire e f (record {
      act = same_act s s2 both.same t x Pending.Expire ∙ ap (λ (n : ℕ). act_of s2 t n Pending.Expire) same;
      after = same_after s s2 both.same t x Pending.Expire rest ∙ ap (λ (n : ℕ). core (after s2 t n Pending.Expire more)) same;
    })

pub one_made : (image : Image) (s s2 : State) → AreBoth image s s2 → (t : ℕ) (a b : Act) (m m2 : State) → IsMade s t a m → IsMade s2 t b m2 → act_text image a ≡ act_text image b → IsOne a b m m2
one_made image s s2 both t a b m m2 one two h =
    let p = one.step in
    let q = two.step in
    let texts : act_text image (act_of s t one.row p) ≡ act_text image (act_of s2 t two.row q) = ap (act_text image) (sym one.says) ∙ h ∙ ap (act_text image) two.says in
    let marks : mark_step p ≡ mark_step q =
    sym (mark_made s t one.row p) ∙ same_mark image (act_of s t one.row p) (act_of s2 t two.row q) texts ∙ mark_made s2 t two.row q in
    one_as (act_of s t one.row p) (act_of s2 t two.row q) a b (after s t one.row p one.rest) (after s2 t two.row q two.rest) m m2 one.says two.says one.leaves two.leaves
    (by (mark_step p) refl marks texts)
  where
    chosen : is_own (mark_step one.step) ≡ true → is_own (mark_step two.step) ≡ true → mark_step one.step ≡ mark_step two.step
        → act_text image (act_of s t one.row one.step) ≡ act_text image (act_of s2 t two.row two.step)
        → IsOne (act_of s t one.row one.step) (act_of s2 t two.row two.step) (after s t one.row one.step one.rest) (after s2 t two.row two.step two.rest)
    chosen own owns marks texts =
        let same = same_step image s s2 both t one.step two.step one.rest two.rest one.offered two.offered marks own owns in
        moved_choice image s s2 both t one.row two.row one.step two.step one.rest two.rest same.step same.left own one.chosen two.chosen texts

    by : (mark : Mark) → mark_step one.step ≡ mark → mark_step one.step ≡ mark_step two.step → act_text image (act_of s t one.row one.step) ≡ act_text image (act_of s2 t two.row two.step)
        → IsOne (act_of s t one.row one.step) (act_of s2 t two.row two.step) (after s t one.row one.step one.rest) (after s2 t two.row two.step two.rest)
    by drops k marks texts =
        one_drop image s s2 both _ _ _ _
        (drop_step image both.sound s both.first t one.row one.step one.rest (acting_own image s both.first t one.step one.rest one.offered) one.offered one.chosen k)
        (drop_step image both.sound s2 both.second t two.row two.step two.rest (acting_own image s2 both.second t two.step two.rest two.offered) two.offered two.chosen (sym marks ∙ k)) texts
    by frees k marks texts =
        one_recycled image s s2 both t one.row two.row one.step two.step one.rest two.rest (recycle_is one.step k) (recycle_is two.step (sym marks ∙ k)) one.chosen two.chosen texts
    by ticks k marks texts = one_tick s s2 both.same t one.row two.row one.step two.step one.rest two.rest (tick_is one.step k) (tick_is two.step (sym marks ∙ k))
    by tells k marks texts = one_tell s s2 both.same t one.row two.row one.step two.step one.rest two.rest (tell_is one.step k) (tell_is two.step (sym marks ∙ k))
    by lates k marks texts =
        let (who, e) = late_is one.step k in
        let (whom, f) = late_is two.step (sym marks ∙ k) in one_late image s s2 both t one.row two.row who whom one.step two.step one.rest two.rest e f one.chosen two.chosen texts
    by cuts k marks texts =
        let (who, e) = cut_is one.step k in
        let (whom, f) = cut_is two.step (sym marks ∙ k) in one_cut image s s2 both t one.row two.row who whom one.step two.step one.rest two.rest e f one.chosen two.chosen texts
    by expires k marks texts =
        one_expire image s s2 both t one.row two.row one.step two.step one.rest two.rest (expire_is one.step k) (expire_is two.step (sym marks ∙ k)) one.chosen two.chosen texts
    by inherits k marks texts = chosen (ap is_own k) (ap is_own (sym marks ∙ k)) marks texts
    by others k marks texts = chosen (ap is_own k) (ap is_own (sym marks ∙ k)) marks texts

-- A step keeps what holds in each state of a run.
offered_fit : (image : Image) (s : State) → IsKept image s → (t : ℕ) (p : Pending) (rest : Steps) → Offers s t p rest → are_fit image (p ∷ rest) ≡ true
offered_fit image s kept t p rest (goes e) = rw e at (kept.fit t)
offered_fit image s kept t p rest (skips_inherit {who = who} e h) =
    let fit : are_fit image (Pending.Inherit who ∷ p ∷ rest) ≡ true = rw e at (kept.fit t) in (and_parts (begins_with_start (p ∷ rest)) (are_fit image (p ∷ rest)) fit).1
offered_fit image s kept t p rest (skips_drops {from = from} e h) =
    let fit : are_fit image (Pending.Drops from ∷ p ∷ rest) ≡ true = rw e at (kept.fit t) in (and_parts (begins_with_clear (p ∷ rest)) (are_fit image (p ∷ rest)) fit).1
offered_fit image s kept t p rest (begins e h k l) = refl
offered_fit image s kept t p rest (exits e h k l) = refl
offered_fit image s kept t p rest (stops e h k) = refl
offered_fit image s kept t p rest (leaves h) = kept.fit t
offered_fit image s kept t (Pending.CleanPair who) rest (tends is h) = kept.fit t
offered_fit image s kept t Pending.Recycle rest (tends is h) = kept.fit t
offered_fit image s kept t Pending.Tick rest (tends is h) = kept.fit t
offered_fit image s kept t (Pending.TimeOut who) rest (tends is h) = kept.fit t
offered_fit image s kept t Pending.Expire rest (tends is h) = kept.fit t
offered_fit image s kept t (Pending.Cut who) rest (tends is h) = kept.fit t
offered_fit image s kept t p rest (tends is h) = cc

pub kept_made : (image : Image) → IsSound image → (s : State) → IsKept image s → (t : ℕ) (a : Act) (m : State) → IsMade s t a m → IsKept image m
kept_made image sound s kept t a m made =
    subst (λ (z : State). IsKept image z) (sym made.leaves)
    (kept_after image sound s kept t made.row made.step made.rest (acting_own image s kept t made.step made.rest made.offered) (offered_fit image s kept t made.step made.rest made.offered) made.chosen)
