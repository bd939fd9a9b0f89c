-- Each step keeps what holds in each state of a run: its writes do, and so does the way in which its thread goes on.
use Rattle.std.proofs.Common.{◌≡◌, ℕ, ◌<◌, ◌≤◌, Bool, true, false, ◌&&◌, not, [], ◌∷◌, ◌++◌, length, refl, Some, None, if◌then◌else◌, arith, slice_set}
use Rattle.std.specs.Prelude.{◌||◌, nat_le}
use Rattle.std.proofs.lemmas.Bool.{and_parts}
use Rattle.std.proofs.lemmas.Bool.Decides.{nat_tests}
use Rattle.um_base.specs.declared.act.Leftover.{Leftover}
use Rattle.um_base.specs.declared.image.Image.{Image}
use Rattle.um_base.specs.declared.limits.TheConstants.{STATIC_ROWS, ROWS}
use Rattle.um_base.specs.declared.names.Addr.{Addr}
use Rattle.um_base.specs.Places.{own_row}
use Rattle.um_machine.specs.declared.contents.Contents.{Contents}
use Rattle.um_machine.specs.declared.pending.Pending.{Pending}
use Rattle.um_machine.specs.declared.thread.Thread.{Thread}
use Rattle.um_machine.specs.Goes.{Next, gone, told_way, went}
use Rattle.um_machine.specs.Objects.{has_no_pair, is_gone}
use Rattle.um_machine.specs.Order.{Steps}
use Rattle.um_machine.specs.Readings.{dropped, row_of}
use Rattle.um_machine.specs.Run.{MayChoose, waits_at}
use Rattle.um_machine.specs.State.{State, object_at, pair_at, thread_at, with_pair, is_started, is_to_resume}
use Rattle.um_machine.specs.Table.{after}
use Rattle.um_machine.specs.Time.{has_run_out}
use Rattle.um_machine.specs.Writes.{Edit, Effect, Effects, Flag, cut, drops, edited, is_last, paid_back, paid_from, write, wrote}
use Rattle.um_machine.proofs.EffectLemmas.{effects_of, next_of, woken-by}
use Rattle.um_machine.proofs.WayLemmas.{way-left}
use Rattle.um_texts.proofs.IdentityLemmas.{is_real, has_own, own_real}
use Rattle.um_texts.proofs.StateLemmas.{IsKept, fits, are_fit, is_acting, runs, kept_time, kept_waiters, kept_thread, kept_same, kept_object, kept_paired, kept_bytes, kept_beside}
use Rattle.um_texts.proofs.OwnLemmas.{IsSound, real_of_addr}
use Rattle.um_texts.proofs.FitLemmas.{fit_steps, fit_ways, fit_fatal, fit_doom}

-- The writes.

abbrev IsDynamic : ℕ → Type 0
IsDynamic x = (STATIC_ROWS ≤ x) × (x < ROWS)

-- what writes have to say of whom they start, of the rows that get a pair, and of the objects that are gone then
abbrev AreLawful : Image → Effects → Type 0
AreLawful image [] = Unit {0}
AreLawful image ((made, Effect.starts who thread) ∷ ws) = (has_own image who ≡ true) × ((are_fit image thread.pending ≡ true) × AreLawful image ws)
AreLawful image ((made, Effect.cuts who) ∷ ws) = (has_own image who ≡ true) × AreLawful image ws
AreLawful image ((made, Effect.pair who x there) ∷ ws) = (there ≡ true → is_real image x ≡ true) × AreLawful image ws
AreLawful image ((made, Effect.object x (Edit.becomes status)) ∷ ws) = (made ≡ true → is_gone status ≡ true → IsDynamic x) × AreLawful image ws
AreLawful image ((made, Effect.object x (Edit.works contents waiters buffer)) ∷ ws) = (is_real image x ≡ true) × AreLawful image ws
AreLawful image ((made, Effect.object x (Edit.runs_out contents waiters)) ∷ ws) = (is_real image x ≡ true) × AreLawful image ws
AreLawful image (w ∷ ws) = AreLawful image ws

lawful_rest : (image : Image) (made : Bool) (e : Effect) (ws : Effects) → AreLawful image ((made, e) ∷ ws) → AreLawful image ws
lawful_rest image made (Effect.starts who thread) ws lawful = lawful.1.1
lawful_rest image made (Effect.cuts who) ws lawful = lawful.1
lawful_rest image made (Effect.pair who x there) ws lawful = lawful.1
lawful_rest image made (Effect.object x (Edit.becomes status)) ws lawful = lawful.1
lawful_rest image made (Effect.object x (Edit.works contents waiters buffer)) ws lawful = lawful.1
lawful_rest image made (Effect.object x (Edit.runs_out contents waiters)) ws lawful = lawful.1
lawful_rest image made (Effect.object x edit) ws lawful = lawful
lawful_rest image made e ws lawful = lawful

none_gone : false ≡ true → ⊥
none_gone h = cc

or-true : (b : Bool) → (b || true) ≡ true
or-true true = refl
or-true false = refl

kept_write : (image : Image) (made : Bool) (e : Effect) (ws : Effects) (s : State) → AreLawful image ((made, e) ∷ ws) → IsKept image s → IsKept image (write (made, e) s)
kept_write image false e ws s lawful kept = kept
kept_write image true (Effect.wakes woken) ws s lawful kept =
    woken-by (IsKept image) (λ s u told kept. kept_same image s u (record (thread_at s u) { told = Some told }) kept refl refl) woken s kept
kept_write image true (Effect.moves who d) ws s lawful kept = kept_same image s who (record (thread_at s who) { domain = d }) kept refl refl
kept_write image true (Effect.dooms who) ws s lawful kept = kept_same image s who (record (thread_at s who) { doomed = true }) kept refl refl
kept_write image true (Effect.flags who Flag.aborted) ws s lawful kept = kept_same image s who (record (thread_at s who) { aborted = true }) kept refl refl
kept_write image true (Effect.flags who (Flag.suspended on)) ws s lawful kept = kept_same image s who (record (thread_at s who) { suspended = on }) kept refl refl
kept_write image true (Effect.cuts who) ws s lawful kept = kept_thread image s who (cut (thread_at s who)) kept (λ h. lawful.0) refl
kept_write image true (Effect.waiters c ws2) ws s lawful kept = kept_waiters image s c ws2 kept
kept_write image true (Effect.arms deadline) ws s lawful kept = kept_time image s s.now (s.armed ++ deadline ∷ []) kept
kept_write image true (Effect.passes now) ws s lawful kept = kept_time image s now s.armed kept
kept_write image true (Effect.starts who thread) ws s lawful kept = kept_thread image s who thread kept (λ h. lawful.0) lawful.1.0
kept_write image true (Effect.pair who x there) ws s lawful kept = kept_paired image s who x there kept lawful.0
kept_write image true (Effect.object x (Edit.becomes status)) ws s lawful kept = kept_object image s x _ kept (lawful.0 refl) (kept.timers x)
kept_write image true (Effect.object x (Edit.reserved kind cost)) ws s lawful kept = kept_object image s x _ kept (λ h. absurd (none_gone h)) (λ h. absurd (none_gone h))
kept_write image true (Effect.object x Edit.vacates) ws s lawful kept = kept_object image s x _ kept (λ h. absurd (none_gone h)) (λ h. absurd (none_gone h))
kept_write image true (Effect.object x (Edit.works contents waiters buffer)) ws s lawful kept = kept_object image s x _ kept (kept.gone x) (λ h. lawful.0)
kept_write image true (Effect.object x (Edit.runs_out contents waiters)) ws s lawful kept = kept_object image s x _ kept (kept.gone x) (λ h. lawful.0)
kept_write image true (Effect.object x (Edit.named text)) ws s lawful kept = kept_object image s x _ kept (kept.gone x) (λ h. absurd (none_gone h))
kept_write image true (Effect.object x edit) ws s lawful kept = kept_object image s x (edited edit (object_at s x)) kept (kept.gone x) (kept.timers x)
kept_write image true (Effect.bytes a bs) ws s lawful kept = kept_bytes image s a bs kept
kept_write image true (Effect.takes pool size) ws s lawful kept = kept_beside image s s.memory s.stacks (paid_from pool size s.pools) s.domains kept
kept_write image true (Effect.returns cost) ws s lawful kept = kept_beside image s s.memory s.stacks (paid_back cost s.pools) s.domains kept
kept_write image true (Effect.edits d parts) ws s lawful kept = kept_beside image s s.memory s.stacks s.pools (slice_set s.domains d parts) kept

kept_wrote : (image : Image) (ws : Effects) (s : State) → AreLawful image ws → IsKept image s → IsKept image (wrote ws s)
kept_wrote image [] s lawful kept = kept
kept_wrote image ((made, e) ∷ ws) s lawful kept = kept_wrote image ws (write (made, e) s) (lawful_rest image made e ws lawful) (kept_write image made e ws s lawful kept)

-- only a dynamic object loses its last pair
low_row : (x : ℕ) → nat_le STATIC_ROWS x ≡ true → STATIC_ROWS ≤ x
low_row x h = grind (arith, nat_tests)

below : (image : Image) (x : ℕ) → length image.objects ≤ STATIC_ROWS → is_real image x ≡ true → STATIC_ROWS ≤ x → x < ROWS
below image x few real low = grind (arith, nat_tests)

last_is : (pair low none : Bool) → is_last (if not pair then Leftover.NoPair else if low && none then Leftover.Gone else Leftover.Kept) ≡ true → (pair ≡ true) × (low ≡ true)
last_is true true true h = (refl, refl)
last_is true true false h = cc
last_is true false none h = cc
last_is false low none h = cc

lawful_drops : (image : Image) (s : State) → IsKept image s → (t x : ℕ) → AreLawful image (drops t x (dropped s t x))
lawful_drops image s kept t x = (λ h. absurd (none_gone h), (λ last h. dynamic (last_is (pair_at s t x) (nat_le STATIC_ROWS x) (has_no_pair (with_pair s t x false) x) last), tt))
  where
    dynamic : (pair_at s t x ≡ true) × (nat_le STATIC_ROWS x ≡ true) → IsDynamic x
    dynamic is = (low_row x is.1, below image x kept.few (kept.real t x is.0) (low_row x is.1))

real_row : (image : Image) → IsSound image → (s : State) → IsKept image s → (a : Addr) → is_real image (row_of s a) ≡ true
real_row image sound s kept a = rw kept.image_is (real_of_addr image sound a.0)

-- a timer that runs out runs
pub ran : (now : ℕ) (contents : Contents) → has_run_out now contents ≡ true → runs contents ≡ true
ran now (Contents.Running deadline) h = refl
ran now contents h = absurd (none_gone h)

-- who waits has steps left
pub waits_acting : (s : State) (t c : ℕ) → waits_at s t c ≡ true → is_acting (thread_at s t) ≡ true
waits_acting s t c h = by (thread_at s t).pending refl (and_parts _ _ (and_parts _ _ h).0).0
  where
    by : (steps : Steps) → (thread_at s t).pending ≡ steps → is_to_resume steps ≡ true → is_acting (thread_at s t) ≡ true
    by (p ∷ rest) e k = rw e (or-true (is_started (thread_at s t).life))
    by [] e k = absurd (none_gone k)

lawful_effects : (image : Image) → IsSound image → (s : State) → IsKept image s → (t x : ℕ) (p : Pending) (rest : Steps) → are_fit image (p ∷ rest) ≡ true → MayChoose s t x p
    → AreLawful image (effects_of s t x p)
lawful_effects image sound s kept t x (Pending.Grant who a) rest fit may = (λ h. real_row image sound s kept a, tt)
lawful_effects image sound s kept t x (Pending.Own who) rest fit may =
    let whose = (and_parts (has_own image who.0) (are_fit image rest) fit).0 in
    let real : is_real image (own_row s.image who.0) ≡ true = rw kept.image_is (own_real image who.0 whose) in (λ h. real, tt)
lawful_effects image sound s kept t x (Pending.Inherit who) rest fit may = (λ h. kept.real t x may.0, tt)
lawful_effects image sound s kept t x (Pending.DropPair who a) rest fit may = lawful_drops image s kept who.0 (row_of s a)
lawful_effects image sound s kept t x (Pending.Born a) rest fit may = (λ made h. absurd (none_gone h), (λ h. real_row image sound s kept a, tt))
lawful_effects image sound s kept t x (Pending.Start who script stack priority mode) rest fit may = ((and_parts (has_own image who.0) (are_fit image rest) fit).0, (refl, tt))
lawful_effects image sound s kept t x (Pending.Drops from) rest fit may = lawful_drops image s kept t x
lawful_effects image sound s kept t x (Pending.CleanPair who) rest fit may = lawful_drops image s kept who.0 x
lawful_effects image sound s kept t x (Pending.Work a ask) rest fit may = (real_row image sound s kept a, tt)
lawful_effects image sound s kept t x Pending.Expire rest fit may = (kept.timers x (ran s.now (object_at s x).contents may), tt)
lawful_effects image sound s kept t x (Pending.Cut who) rest fit may = (kept.own who.0 (waits_acting s who.0 x (and_parts _ _ may).1), tt)
lawful_effects image sound s kept t x p rest fit may = tt

-- How the thread goes on.

-- what its steps have to say of those behind
abbrev IsBehind : Image → Steps → Next → Type 0
IsBehind image left (Next.inherits who) = are_fit image (Pending.Inherit who ∷ left) ≡ true
IsBehind image left (Next.drops from) = are_fit image (Pending.Drops from ∷ left) ≡ true
IsBehind image left next = are_fit image left ≡ true

behind_step : (image : Image) (s : State) (t x : ℕ) (p : Pending) (rest : Steps) → are_fit image (p ∷ rest) ≡ true → IsBehind image rest (next_of s t x p)
behind_step image s t x (Pending.Own who) rest fit = (and_parts (has_own image who.0) (are_fit image rest) fit).1
behind_step image s t x (Pending.DropPair who a) rest fit = (and_parts (fits image (Pending.DropPair who a) rest) (are_fit image rest) fit).1
behind_step image s t x (Pending.Start who script stack priority mode) rest fit = (and_parts (has_own image who.0) (are_fit image rest) fit).1
behind_step image s t x p rest fit = fit

fit_gone : (image : Image) → IsSound image → (left : Steps) (s : State) → s.image ≡ image → (t : ℕ) → has_own image t ≡ true → (next : Next) → IsBehind image left next
    → (me : Thread) → are_fit image me.pending ≡ true → are_fit image (gone left s t next me).pending ≡ true
fit_gone image sound left s same t own (Next.on change way) behind me fit = way-left (λ (left : Steps). are_fit image left ≡ true) (fit_ways image) left way behind
fit_gone image sound left s same t own (Next.checks x verdict way) behind me fit = way-left (λ (left : Steps). are_fit image left ≡ true) (fit_ways image) left way behind
fit_gone image sound left s same t own (Next.begins None) behind me fit = fit
fit_gone image sound left s same t own (Next.begins (Some instr)) behind me fit = rw same (fit_steps image sound t me instr own)
fit_gone image sound left s same t own (Next.resumes None) behind me fit = fit
fit_gone image sound left s same t own (Next.resumes (Some told)) behind me fit =
    way-left (λ (left : Steps). are_fit image left ≡ true) (fit_ways image) left (told_way told.reply) behind
fit_gone image sound left s same t own Next.stays behind me fit = fit
fit_gone image sound left s same t own (Next.dooms from) behind me fit = fit_doom image from
fit_gone image sound left s same t own (Next.enters script) behind me fit = refl
fit_gone image sound left s same t own Next.exits behind me fit = refl
fit_gone image sound left s same t own (Next.fatal reason) behind me fit = rw same (fit_fatal image t me reason image.policy)
fit_gone image sound left s same t own next behind me fit = behind

kept_went : (image : Image) → IsSound image → (left : Steps) (s : State) → IsKept image s → (t : ℕ) → has_own image t ≡ true → (next : Next) → IsBehind image left next → IsKept image (went left s t next)
kept_went image sound left s kept t own Next.stays behind = kept
kept_went image sound left s kept t own (Next.begins None) behind = kept
kept_went image sound left s kept t own (Next.resumes None) behind = kept
kept_went image sound left s kept t own next behind =
    let me = thread_at s t in kept_thread image s t (gone left s t next me) kept (λ h. own) (fit_gone image sound left s kept.image_is t own next behind me (kept.fit t))

pub kept_after : (image : Image) → IsSound image → (s : State) → IsKept image s → (t x : ℕ) (p : Pending) (rest : Steps) → has_own image t ≡ true → are_fit image (p ∷ rest) ≡ true → MayChoose s t x p
    → IsKept image (after s t x p rest)
kept_after image sound s kept t x p rest own fit may =
    let ws = effects_of s t x p in
    let now = kept_wrote image ws s (lawful_effects image sound s kept t x p rest fit may) kept in
    kept_went image sound rest (wrote ws s) now t own (next_of s t x p) (behind_step image s t x p rest fit)
