-- Own parts and deadlines: after an event no deadline is armed for a thread's next step, unless that event armed one for the act that comes next.
use Rattle.um_refinement.proofs.Words.{◌≡◌, inl, inr, ℕ, ◌+◌, Bool, true, false, List, [], ◌∷◌, Option, Some, None, refl, sym, ap, subst, nat_lt, not, not-true, false≢true, true≢false, Act, Ask, Image, Addr, Told, THREADS, Pending, Steps, Change, Next, Way, told_way, steps_by, way-left, Context, as_thread, came_in, changed_part, continues, gone_part, resumed, resumed_at, Exchange, IsOffered, IsPutBack, IsTrue}
use Rattle.um_machine.specs.Table as T
use Rattle.um_fine.specs.Continues.{goes_on}
use Rattle.um_fine.specs.Places.{armed_for, is_timer_start}
use Rattle.um_fine.specs.Scheduler.{to_kill}
use Rattle.um_fine.specs.Scheduler.{waits as is_waiting}
use Rattle.um_refinement.specs.Lists.{is_arm}
use Rattle.um_refinement.specs.Offers as O
use Rattle.um_refinement.specs.Timing.{armed_next, armed_step, is_act}
use Rattle.um_refinement.proofs.Offered.{NotKilled}
use Rattle.um_refinement.proofs.ArmSteps.{Acts, Timed, Unarmed, calm-steps, unarmed-ways}
use Rattle.um_refinement.proofs.ArmsKnown.{Fits, GoesOn, Stands, arms, at-rest, dooms-calm, ends-calm, fits, keeps, keeps-if, keeps-reserve, keeps-text, keeps-work, passed-drops, passed-inherit, sets_until, stands}

module _ (image : Image) where
  work-unarmed : (c : Context) (a : Addr) (ask : Ask) → is_timer_start ask ≡ false → c.until ≡ None → armed_for image c (Pending.Work a ask) ≡ None
  work-unarmed c a (Ask.TimerStart deadline) off none = absurd (true≢false off)
  work-unarmed c a ask off none = none

  step-unarmed : (c : Context) (q : Pending) (rest : Steps) → Unarmed c.until (q ∷ rest) → armed_step image c q ≡ None
  step-unarmed c (Pending.Work a ask) rest (inl h) = work-unarmed c a ask h.1.0 h.0
  step-unarmed c (Pending.Work a ask) rest (inr h) = absurd h
  step-unarmed c (Pending.Join who timeout) rest (inl h) = h.0
  step-unarmed c (Pending.Join who timeout) rest (inr h) = absurd h
  step-unarmed c (Pending.FutexWait a value timeout) rest (inl h) = h.0
  step-unarmed c (Pending.FutexWait a value timeout) rest (inr h) = absurd h
  step-unarmed c q rest h = refl

  -- no deadline is armed for what comes next
  pub next-unarmed : (c : Context) (steps : Steps) → Unarmed c.until steps → armed_next image c steps ≡ None
  next-unarmed c [] h = refl
  next-unarmed c (Pending.Inherit who ∷ []) h = refl
  next-unarmed c (Pending.Inherit who ∷ q ∷ rest) h = step-unarmed c q rest h
  next-unarmed c (Pending.Drops from ∷ []) h = refl
  next-unarmed c (Pending.Drops from ∷ q ∷ rest) h = step-unarmed c q rest h
  next-unarmed c (Pending.Work a ask ∷ rest) h = step-unarmed c (Pending.Work a ask) rest h
  next-unarmed c (Pending.Join who timeout ∷ rest) h = step-unarmed c (Pending.Join who timeout) rest h
  next-unarmed c (Pending.FutexWait a value timeout ∷ rest) h = step-unarmed c (Pending.FutexWait a value timeout) rest h
  next-unarmed c (q ∷ rest) h = refl

  abbrev pub IsNone : Context → Type 0
  IsNone c = armed_next image c c.pending ≡ None

  until-same : (change : Change) (c : Context) → sets_until change ≡ false → (changed_part change c).until ≡ c.until
  until-same Change.nothing c off = refl
  until-same (Change.until deadline) c off = absurd (true≢false off)
  until-same change c off = refl

  part-calm : (d : Context) → Unarmed d.until d.pending → IsNone d
  part-calm d h = next-unarmed d d.pending h

  part-on : (c : Context) (left : Steps) (change : Change) (way : Way) → sets_until change ≡ false → GoesOn c.until left change way
      → IsNone (goes_on image (changed_part change c) (steps_by left way))
  part-on c left change way other (keeps off h) =
      part-calm (goes_on image (changed_part change c) (steps_by left way))
      (subst (λ (until : Option ℕ). Unarmed until (steps_by left way)) (sym (until-same change c off)) (way-left (Unarmed c.until) (unarmed-ways c.until) left way h))
  part-on c left _ way other (arms acts) = absurd (true≢false other)

  -- a way to go on that arms no deadline
  abbrev keeps_next : Next → Bool
  keeps_next (Next.on change way) = not (sets_until change)
  keeps_next next = true

  off-keeps : (change : Change) → not (sets_until change) ≡ true → sets_until change ≡ false
  off-keeps change h = not-true (sets_until change) h

  part-after : (c : Context) (left : Steps) (next : Next) → keeps_next next ≡ true → Fits c.until left next → IsNone c → IsNone (gone_part image left next c)
  part-after c left Next.stays k h was = was
  part-after c left (Next.on change way) k h was = part-on c left change way (off-keeps change k) h
  part-after c left (Next.checks x None way) k h was = part-calm (gone_part image left (Next.checks x None way) c) (way-left (Unarmed c.until) (unarmed-ways c.until) left way h)
  part-after c left (Next.checks x (Some e) way) k h was = part-calm (gone_part image left (Next.checks x (Some e) way) c) (way-left (Unarmed c.until) (unarmed-ways c.until) left way h)
  part-after c left (Next.answers to reply) k h was = part-calm (gone_part image left (Next.answers to reply) c) (inl (refl, h))
  part-after c left (Next.owns kept) k h was = part-calm (gone_part image left (Next.owns kept) c) h
  part-after c left (Next.begins None) k h was = was
  part-after c left (Next.begins (Some instr)) k h was = part-calm (gone_part image left (Next.begins (Some instr)) c) (inl (h, calm-steps image c.thread (as_thread c) instr))
  part-after c left (Next.resumes None) k h was = was
  part-after c left (Next.resumes (Some told)) k h was = part-calm (gone_part image left (Next.resumes (Some told)) c) (way-left (Unarmed c.until) (unarmed-ways c.until) left (told_way told.reply) h)
  part-after c left (Next.creates who) k h was = part-calm (gone_part image left (Next.creates who) c) h
  part-after c left Next.starts k h was = part-calm (gone_part image left Next.starts c) h
  part-after c left (Next.inherits who) k h was = part-calm (gone_part image left (Next.inherits who) c) h
  part-after c left (Next.drops from) k h was = part-calm (gone_part image left (Next.drops from) c) h
  part-after c left (Next.dooms from) k h was = part-calm (gone_part image left (Next.dooms from) c) (inl (h, dooms-calm (nat_lt (from + 1) THREADS) from))
  part-after c left (Next.enters script) k h was = part-calm (gone_part image left (Next.enters script) c) (inl (h, tt))
  part-after c left Next.exits k h was = part-calm (gone_part image left Next.exits c) (inl (refl, tt))
  part-after c left (Next.fatal reason) k h was = part-calm (gone_part image left (Next.fatal reason) c) (inl (refl, ends-calm image c.thread (as_thread c) reason image.policy))

  step-keeps : (c : Context) (q : Pending) (act : Act) (came : List ℕ) → is_arm q ≡ false → keeps_next (T.continues image c.thread (as_thread c) 0 q act came) ≡ true
  step-keeps c (Pending.Arm ticks) act came off = absurd (true≢false off)
  step-keeps c (Pending.ArmTimer ticks) act came off = absurd (true≢false off)
  step-keeps c (Pending.Load to a n) act came off = ap not (keeps-if _ Change.nothing (Change.register to _) refl refl)
  step-keeps c (Pending.CopyIn a amount) act came off = ap not (keeps-if _ (Change.copies came) Change.nothing refl refl)
  step-keeps c (Pending.CopyStr a) act came off = ap not (keeps-text _ _)
  step-keeps c (Pending.Work a ask) act came off = ap not (keeps-work _ _)
  step-keeps c (Pending.Join who timeout) act came off = ap not (keeps-work _ _)
  step-keeps c (Pending.FutexWait a value timeout) act came off = ap not (keeps-work _ _)
  step-keeps c (Pending.FutexWake a all) act came off = ap not (keeps-work _ _)
  step-keeps c (Pending.Reserve kind) act came off = ap not (keeps-reserve _)
  step-keeps c q act came off = refl

  -- after the event of a step that arms none, where none is armed for one that is no act
  pub event-unarmed : (c : Context) (q : Pending) (rest : Steps) (act : Act) (moved : Exchange) → is_arm q ≡ false → Stands c.until q rest → (is_act q ≡ false → NotKilled q → IsNone c)
      → IsNone (continues image c 0 q rest act moved)
  event-unarmed c (Pending.Work a ask) rest act moved off h none =
      let came = came_in (Pending.Work a ask) moved in
      part-on c rest _ _ (keeps-work _ _) (fits c.until image c.thread (as_thread c) 0 act came (Pending.Work a ask) rest h)
  event-unarmed c (Pending.Join who timeout) rest act moved off h none =
      part-on c rest _ _ (keeps-work _ _) (fits c.until image c.thread (as_thread c) 0 act (came_in (Pending.Join who timeout) moved) (Pending.Join who timeout) rest h)
  event-unarmed c (Pending.FutexWait a value timeout) rest act moved off h none =
      part-on c rest _ _ (keeps-work _ _) (fits c.until image c.thread (as_thread c) 0 act (came_in (Pending.FutexWait a value timeout) moved) (Pending.FutexWait a value timeout) rest h)
  event-unarmed c Pending.Killed rest act moved off h none = part-calm (continues image c 0 Pending.Killed rest act moved) (inl (refl, tt))
  event-unarmed c q rest act moved off h none =
      let came = came_in q moved in
      part-after c rest (T.continues image c.thread (as_thread c) 0 q act came) (step-keeps c q act came off) (fits c.until image c.thread (as_thread c) 0 act came q rest h) (none refl tt)

  -- after a step that arms one an act comes next
  pub arming-acts : (c : Context) (q : Pending) (rest : Steps) (act : Act) (moved : Exchange) → is_arm q ≡ true → Stands c.until q rest → Acts (continues image c 0 q rest act moved).pending
  arming-acts c (Pending.Arm ticks) rest act moved on h = acts (fits c.until image c.thread (as_thread c) 0 act (came_in (Pending.Arm ticks) moved) (Pending.Arm ticks) rest h)
    where
      acts : {until : Option ℕ} {left : Steps} {deadline : Option ℕ} {way : Way} → GoesOn until left (Change.until deadline) way → Acts (steps_by left way)
      acts (arms a) = a
      acts (keeps off u) = absurd (true≢false off)
  arming-acts c (Pending.ArmTimer ticks) rest act moved on h = acts (fits c.until image c.thread (as_thread c) 0 act (came_in (Pending.ArmTimer ticks) moved) (Pending.ArmTimer ticks) rest h)
    where
      acts : {until : Option ℕ} {left : Steps} {deadline : Option ℕ} {way : Way} → GoesOn until left (Change.until deadline) way → Acts (steps_by left way)
      acts (arms a) = a
      acts (keeps off u) = absurd (true≢false off)
  arming-acts c q rest act moved on h = absurd (false≢true on)

  -- a step that is offered stands so to its call's deadline
  pub offered-stands : (c : Context) → Timed c.until c.pending → (q : Pending) (rest : Steps) → IsOffered image c q rest → Stands c.until q rest
  offered-stands c h q rest (O.goes e) = stands c.until q rest (subst (Timed c.until) e h)
  offered-stands c h q rest (O.passed {who} e) = stands c.until q rest (passed-inherit c.until who (q ∷ rest) (subst (Timed c.until) e h))
  offered-stands c h q rest (O.dropped {from} e) = stands c.until q rest (passed-drops c.until from (q ∷ rest) (subst (Timed c.until) e h))
  offered-stands c h _ _ (O.begins e on i) = at-rest c.until (subst (Timed c.until) e h)
  offered-stands c h _ _ (O.exits e on i) = tt

  no-act : (q : Pending) (rest : Steps) → is_act q ≡ false → Acts (q ∷ rest) → ⊥
  no-act (Pending.Work a ask) rest off h = true≢false off
  no-act (Pending.Join who timeout) rest off h = true≢false off
  no-act (Pending.FutexWait a value timeout) rest off h = true≢false off
  no-act q rest off h = h

  -- where a step that is no act is offered, none is armed
  pub offered-none : (c : Context) → Timed c.until c.pending → (q : Pending) (rest : Steps) → is_act q ≡ false → IsOffered image c q rest → IsNone c
  offered-none c (inl h) q rest off offered = next-unarmed c c.pending h
  offered-none c (inr h) q rest off (O.goes e) = absurd (no-act q rest off (subst Acts e h))
  offered-none c (inr h) q rest off (O.passed {who} e) = absurd (subst Acts e h)
  offered-none c (inr h) q rest off (O.dropped {from} e) = absurd (subst Acts e h)
  offered-none c (inr h) _ _ off (O.begins e on i) = absurd (subst Acts e h)
  offered-none c (inr h) _ _ off (O.exits e on i) = absurd (subst Acts e h)

  -- one that was woken goes on with none
  pub resumed-none : (c : Context) (told : Told) (rest : Steps) → c.pending ≡ Pending.Resume ∷ rest → Timed c.until c.pending → IsNone (resumed image c told)
  resumed-none c told rest at timed = subst (λ (steps : Steps). IsNone (resumed_at image c told steps)) (sym at) (by (subst (Timed c.until) at timed))
    where
      by : Timed c.until (Pending.Resume ∷ rest) → IsNone (resumed_at image c told (Pending.Resume ∷ rest))
      by (inl h) = part-calm (resumed_at image c told (Pending.Resume ∷ rest)) (way-left (Unarmed c.until) (unarmed-ways c.until) rest (told_way told.reply) h)
      by (inr h) = absurd h

  -- none is armed for who is put back, or is to be killed
  pub put-back-none : (cut : Bool) (c : Context) → IsPutBack c → IsNone (to_kill cut c)
  put-back-none true c h = refl
  put-back-none false c (inl none) = ap (armed_next image c) none
  put-back-none false c (inr waits) = by c.pending waits
    where
      by : (steps : Steps) → IsTrue (is_waiting steps) → armed_next image c steps ≡ None
      by (Pending.Resume ∷ rest) h = refl
      by steps h = absurd (false≢true h)
