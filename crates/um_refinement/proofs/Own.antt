-- The own part of a thread goes on as the machine's thread does: both are made of the same data.
use Rattle.um_refinement.proofs.Words.{◌≡◌, ℕ, ◌<◌, Bool, true, false, List, [], ◌∷◌, length, map, Option, Some, None, refl, sym, ap, ◌∙◌, subst, if◌then◌else◌, slice_set, take, length-map, Act, Found, Image, Instr, Addr, Errno, Mode, Policy, Told, Exchange, outcome_in, outcome_of, Pending, Thread, wrote, Change, Next, Way, changed, gone, held, steps_by, told_way, went, allowed, bytes_at, string_bytes, Steps, end_steps, fatal_steps, steps_of, is_empty, State, thread_at, Ignores, all_other, effects_of, key-same, keys-wrote, next_of, Context, as_thread, own_part, PIECE, Outcome, copied, text_change, text_way, work_change, work_way, string_read, first_place, next_place, after-is, image-wrote}
use Rattle.um_base.specs.declared.names.Access.TheVariants as Access
use Rattle.um_machine.specs.Writes.{cut}
use Rattle.um_machine.specs.Table.{continues}
use Rattle.um_machine.specs.Table as T
use Rattle.um_fine.specs.Continues as C
use Rattle.um_refinement.proofs.ThreadLists.{at-here, set-else, set-long}

-- with other steps, at rest where none is left
abbrev on_with : Image → Steps → Thread → Thread
on_with image rest me = record me { pending = rest; place = if is_empty rest then next_place image me.place else me.place }

own-steps : (image : Image) (t : ℕ) (me : Thread) (instr : Instr) → steps_of image t (own_part me) instr ≡ steps_of image t me instr
own-steps image t me Instr.End = refl
own-steps image t me instr = refl

own-fatal : (image : Image) (t : ℕ) (me : Thread) (policy : Policy) (reason : ℕ) → fatal_steps image t (own_part me) reason policy ≡ fatal_steps image t me reason policy
own-fatal image t me Policy.Halt reason = refl
own-fatal image t me Policy.Abort reason = refl

-- A thread and its own part go on alike.
module _ (u : State) (t : ℕ) (c : Context) (me : Thread) (own : as_thread c ≡ own_part me) (index : c.thread ≡ t) where
  own-changed : (change : Change) → as_thread (C.changed_part change c) ≡ own_part (changed change me)
  own-changed Change.nothing = own
  own-changed (Change.register to value) = ap (λ (z : Thread). record z { registers = slice_set z.registers to value }) own
  own-changed (Change.copies bs) = ap (λ (z : Thread). record z { buffer = bs }) own
  own-changed (Change.says reply) = ap (λ (z : Thread). record z { reply = reply }) own
  own-changed (Change.until deadline) = ap (λ (z : Thread). record z { until = deadline }) own
  own-changed (Change.outcome reply taken) = ap (λ (z : Thread). record z { reply = reply; buffer = taken }) own

  own-held : (x : ℕ) (v : Option Errno) → as_thread (C.held_part x v c) ≡ own_part (held x v me)
  own-held x None = own
  own-held x (Some e) = own

  on : (left : Steps) (d : Context) (th : Thread) → as_thread d ≡ own_part th → as_thread (C.goes_on u.image d left) ≡ own_part (T.at_steps u.image th left)
  on left d th e = ap (on_with u.image left) e

  pub own-gone : (left : Steps) (next : Next) → as_thread (C.gone_part u.image left next c) ≡ own_part (gone left u t next me)
  own-gone left (Next.on change way) = ap (on_with u.image (steps_by left way)) (own-changed change)
  own-gone left (Next.checks x v way) = ap (on_with u.image (steps_by left way)) (own-held x v)
  own-gone left (Next.answers to reply) = ap (λ (z : Thread). on_with u.image left (record z { until = None; registers = T.with_answer z.registers to reply })) own
  own-gone left (Next.begins (Some instr)) =
      (λ i. on_with u.image (steps_of u.image (index i) (own i) instr) (record (own i) { registers = T.with_begin (own i).registers instr }))
      ∙ ap (λ (steps : Steps). on_with u.image steps (own_part (record me { registers = T.with_begin me.registers instr }))) (own-steps u.image t me instr)
  own-gone left (Next.begins None) = own
  own-gone left (Next.resumes (Some told)) = ap (λ (z : Thread). on_with u.image (steps_by left (told_way told.reply)) (record z { reply = told.reply; buffer = told.taken })) own
  own-gone left (Next.resumes None) = own
  own-gone left (Next.inherits who) = ap (λ (z : Thread). record z { pending = Pending.Inherit who ∷ left }) own
  own-gone left (Next.drops from) = ap (λ (z : Thread). record z { pending = Pending.Drops from ∷ left }) own
  own-gone left (Next.dooms from) = ap (λ (z : Thread). record z { pending = T.next_doom from }) own
  own-gone left (Next.enters script) = ap (λ (z : Thread). record z { mode = Mode.User; place = first_place u.image script; pending = [] }) own
  own-gone left Next.exits = λ i. record (own i) { until = None; pending = end_steps u.image (index i) (own i) }
  own-gone left (Next.fatal reason) =
      (λ i. record (own i) { until = None; pending = fatal_steps u.image (index i) (own i) reason u.image.policy })
      ∙ ap (λ (steps : Steps). record (own_part me) { until = None; pending = steps }) (own-fatal u.image t me u.image.policy reason)
  own-gone left Next.stays = own
  own-gone left next = ap (on_with u.image left) own

module _ (m : State) (t : ℕ) where
  -- the bytes that come with a step, and nobody starts or cuts itself
  abbrev Comes : Pending → List ℕ → Type 0
  Comes (Pending.CopyIn a amount) came = allowed m t Access.Read a.0 (T.amount_of m amount) ≡ true → came ≡ take PIECE (bytes_at m a.0 (T.amount_of m amount))
  Comes (Pending.CopyStr a) came = (n : ℕ) → string_read m t a.0 32 ≡ Found.Length n → came ≡ string_bytes m a.0 n
  Comes (Pending.Work a ask) came = came ≡ (T.work_of m t a ask).taken
  Comes (Pending.Start who script stack priority mode) came = who.0 ≡ t → ⊥
  Comes (Pending.Cut who) came = who.0 ≡ t → ⊥
  Comes Pending.Resume came = ⊥
  Comes q came = Unit {0}

  module _ (x : ℕ) where
    abbrev me : Thread
    me = thread_at m t

    copy-came : (mode : Mode) (act : Bool → Act) (b : Bool) (came bs : List ℕ) → (b ≡ true → came ≡ bs)
        → Next.on (if b then Change.copies came else Change.nothing) (copied mode b) ≡ Next.on (if b then Change.copies bs else Change.nothing) (copied mode b)
    copy-came mode act true came bs h = ap (λ (bs : List ℕ). Next.on (Change.copies bs) Way.rest) (h refl)
    copy-came mode act false came bs h = refl

    text-came : (a : Addr) (found : Found) (came : List ℕ) → ((n : ℕ) → found ≡ Found.Length n → came ≡ string_bytes m a.0 n)
        → Next.on (text_change came found) (text_way found)
        ≡ Next.on (text_change (elim found as (λ _. List ℕ) [ Found.Length n ↦ string_bytes m a.0 n | _ ↦ [] ]) found) (text_way found)
    text-came a (Found.Length n) came h = ap (λ (bs : List ℕ). Next.on (Change.copies bs) Way.rest) (h n refl)
    text-came a Found.Unreadable came h = refl
    text-came a Found.TooLong came h = refl

    -- its own part says the same of how it goes on
    own-next : (q : Pending) (came : List ℕ) → Comes q came → continues m.image t (own_part me) x q (T.act_of m t x q) came ≡ next_of m t x q
    own-next (Pending.CopyIn a amount) came h = copy-came me.mode (Act.CopyIn a (T.amount_of m amount)) (allowed m t Access.Read a.0 (T.amount_of m amount)) came _ h
    own-next (Pending.CopyStr a) came h = text-came a (string_read m t a.0 32) came h
    own-next (Pending.Work a ask) came h = let w = T.work_of m t a ask in ap (λ (taken : List ℕ). Next.on (work_change w.answer taken) (work_way me.mode ask w.answer)) h
    own-next Pending.Resume came h = absurd h
    own-next q came h = refl

    -- the writes leave it
    ignores : Ignores own_part all_other
    ignores = record { due = λ h me due. refl; told = λ h me told. refl; domain = λ h me domain. refl; doomed = λ h me. refl; flagged = λ h me aborted suspended. refl }

    record Quiet (u : State) : Type 0 where
      long : length u.threads ≡ length m.threads
      part : own_part (thread_at u t) ≡ own_part me

    quiet : (u : State) → map own_part u.threads ≡ map own_part m.threads → Quiet u
    quiet u e = record { long = sym (length-map u.threads own_part) ∙ (ap length e ∙ length-map m.threads own_part); part = key-same own_part m u e t }

    quietly : (q : Pending) (came : List ℕ) → Comes q came → Quiet (wrote (effects_of m t x q) m)
    quietly (Pending.Start who script stack priority mode) came h =
        let th = T.newborn m me who.0 script (Pending.Start who script stack priority mode) in
        record { long = set-long m.threads who.0 th; part = ap own_part (set-else m.threads who.0 t th h) }
    quietly (Pending.Cut who) came h =
        let th = cut (thread_at m who.0) in record { long = set-long m.threads who.0 th; part = ap own_part (set-else m.threads who.0 t th h) }
    quietly q came h = quiet (wrote (effects_of m t x q) m) (keys-wrote own_part all_other ignores (effects_of m t x q) m refl)

pub went-here : (left : Steps) (u : State) (t : ℕ) (next : Next) → t < length u.threads → thread_at (went left u t next) t ≡ gone left u t next (thread_at u t)
went-here left u t Next.stays h = refl
went-here left u t (Next.begins None) h = refl
went-here left u t (Next.resumes None) h = refl
went-here left u t next h = at-here u.threads t (gone left u t next (thread_at u t)) h

module _ (m : State) (t : ℕ) (c : Context) (own : as_thread c ≡ own_part (thread_at m t)) (index : c.thread ≡ t) (room : t < length m.threads) where
  -- What goes with a step beside its act: the bytes that are copied in, a text, what came of work; and nobody starts itself.
  abbrev pub Carries : Pending → Exchange → Type 0
  Carries (Pending.Work a ask) moved = outcome_in moved ≡ outcome_of (T.work_of m t a ask)
  Carries q moved = Comes m t q (C.came_in q moved)

  comes : (q : Pending) (moved : Exchange) → Carries q moved → Comes m t q (C.came_in q moved)
  comes (Pending.Work a ask) moved h = ap (λ (w : Outcome). w.taken) h
  comes Pending.Begin moved h = h
  comes q moved h = h

  -- the own part after any step
  pub own-after : (x : ℕ) (q : Pending) (rest : Steps) (moved : Exchange) → Carries q moved
      → as_thread (C.continues m.image c x q rest (T.act_of m t x q) moved) ≡ own_part (thread_at (T.after m t x q rest) t)
  own-after x q rest moved h =
      let came = C.came_in q moved in
      let here = comes q moved h in
      let act = T.act_of m t x q in
      let u = wrote (effects_of m t x q) m in
      let still = quietly m t x q came here in
      (λ i. as_thread (C.gone_part (sym (image-wrote (effects_of m t x q) m) i) rest (continues m.image (index i) (own i) x q act came) c))
      ∙ (ap (λ (next : Next). as_thread (C.gone_part u.image rest next c)) (own-next m t x q came here)
      ∙ (own-gone u t c (thread_at u t) (own ∙ sym still.part) index rest (next_of m t x q)
      ∙ (ap own_part (sym (went-here rest u t (next_of m t x q) (subst (λ n. t < n) (sym still.long) room)))
      ∙ ap (λ (s : State). own_part (thread_at s t)) (sym (after-is m t x q rest)))))

-- and after a call is resumed
pub own-resumed : (m : State) (t : ℕ) (c : Context) → as_thread c ≡ own_part (thread_at m t) → c.thread ≡ t → t < length m.threads → (told : Told) (rest : Steps)
    → (thread_at m t).told ≡ Some told → as_thread (C.resumed_at m.image c told (Pending.Resume ∷ rest)) ≡ own_part (thread_at (T.after m t 0 Pending.Resume rest) t)
own-resumed m t c own index room told rest tells =
    let next : Option Told → Next = λ o. Next.resumes o in
    own-gone m t c (thread_at m t) own index rest (next (Some told))
    ∙ (ap own_part (sym (went-here rest m t (next (Some told)) room)) ∙ ap (λ (o : Option Told). own_part (thread_at (went rest m t (next o)) t)) (sym tells))
