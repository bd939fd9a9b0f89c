-- What the machine's steps make of what is due of its threads: only a thread's own permission on a new thread's object and its end make rows due,
-- and those are rows; each other step leaves what is due, or fewer rows of it.
use Rattle.um_refinement.proofs.Words.{list_all, ◌≡◌, ℕ, zero, suc, ◌+◌, ◌≤◌, Bool, true, false, List, [], ◌∷◌, length, None, refl, sym, ap, ◌∙◌, subst, arith, ◌&&◌, not, slice_index_or, slice_set, false≢true, true≢false, length-map, length-set, Event, Leftover, Image, ROWS, STATIC_ROWS, ThreadIx, own_row, Pending, Thread, with_bytes, Steps, Runs, opening, State, no_rows, nobody, thread_at, with_pair, with_thread, Effect, effect, wrote, Next, gone, went, bytes-leave, OfEach, all_other, effects_of, next_of, woken-by, at_set, all-wrote, is_spared, changed-same, held-same}
use Rattle.um_machine.specs.Table as T
use Rattle.um_machine.specs.Writes.{Effects}
use Rattle.um_refinement.proofs.Others.{NoTurn}
use Rattle.um_machine.specs.Writes.{Flag, flagged}
use Rattle.um_invariants.proofs.Facts.{set-less as flags-less}
use Rattle.um_refinement.proofs.CallsProper.{none-held}
use Rattle.um_refinement.proofs.Erased.{IsReachable}
use Rattle.um_refinement.proofs.FirstThreads.{copies-long, new-thread}
use Rattle.um_refinement.proofs.Reachable.{opening-wide}
use Rattle.um_refinement.proofs.ThreadLists.{set-else}
use Rattle.um_refinement.proofs.Writes.{each-of, with_cleaner, with_left}

-- a fact about states that is kept by what a step of this thread makes of what is due
pub record DuesKeeping (t : ℕ) (Same : State → Type 0) : Type 0 where
  -- a thread is written with what is due of it, or is new
  pub same : (s : State) (v : ℕ) (th : Thread) → th.due ≡ (thread_at s v).due → Same s → Same (with_thread s v th)
  pub fresh : (s : State) (v : ℕ) (th : Thread) → th.due ≡ no_rows → Same s → Same (with_thread s v th)
  -- the thread of the step ends, or is to pass on what it holds
  pub ends : (s : State) (th : Thread) → th.due ≡ T.rows_held s t → Same s → Same (with_thread s t th)
  pub owns : (s : State) (who r : ℕ) (th : Thread) → th.due ≡ slice_set (T.rows_to_pass s t who) r false → Same s → Same (with_thread s t th)
  pub pair : (s : State) (who x : ℕ) (there : Bool) → Same s → Same (T.paired s who x there)
  pub beside : (s z : State) → z.threads ≡ s.threads → z.pairs ≡ s.pairs → Same s → Same z

module _ (t : ℕ) (Same : State → Type 0) (kept : DuesKeeping t Same) where
  -- one that is started has nothing due
  abbrev IsFresh : Effect → Type 0
  IsFresh (Effect.starts who thread) = thread.due ≡ no_rows
  IsFresh e = Unit {0}

  bytes-beside : (s : State) (a : ℕ) (bs : List ℕ) → Same s → Same (with_bytes s a bs)
  bytes-beside s a bs k = kept.beside s (with_bytes s a bs) (bytes-leave (λ (z : State). z.threads) (λ z b. refl) (λ z b. refl) s a bs) (bytes-leave (λ (z : State). z.pairs) (λ z b. refl) (λ z b. refl) s a bs) k

  flag-due : (flag : Flag) (me : Thread) → (flagged flag me).due ≡ me.due
  flag-due Flag.aborted me = refl
  flag-due (Flag.suspended on) me = refl

  effect-kept : (e : Effect) (s : State) → IsFresh e → Same s → Same (effect e s)
  effect-kept (Effect.wakes woken) s h k = woken-by Same (λ s u told k. kept.same s u _ refl k) woken s k
  effect-kept (Effect.moves who d) s h k = kept.same s who _ refl k
  effect-kept (Effect.dooms who) s h k = kept.same s who _ refl k
  effect-kept (Effect.flags who flag) s h k = kept.same s who _ (flag-due flag (thread_at s who)) k
  effect-kept (Effect.cuts who) s h k = kept.same s who _ refl k
  effect-kept (Effect.starts who thread) s h k = kept.fresh s who thread h k
  effect-kept (Effect.pair who x there) s h k = kept.pair s who x there k
  effect-kept (Effect.bytes a bs) s h k = bytes-beside s a bs k
  effect-kept e s h k = kept.beside s (effect e s) refl refl k

  went-kept : (left : Steps) (s : State) (next : Next) → Same s → Same (went left s t next)
  went-kept left s Next.stays k = k
  went-kept left s (Next.begins None) k = k
  went-kept left s (Next.resumes None) k = k
  went-kept left s (Next.on change way) k = kept.same s t _ (changed-same (λ me. me.due) (λ me registers reply buffer until. refl) change (thread_at s t)) k
  went-kept left s (Next.checks x v way) k = kept.same s t _ (held-same (λ me. me.due) (λ me checked. refl) x v (thread_at s t)) k
  went-kept left s (Next.creates who) k = kept.owns s who.0 (own_row s.image t) _ refl k
  went-kept left s Next.exits k = kept.ends s _ refl k
  went-kept left s (Next.fatal reason) k = kept.ends s _ refl k
  went-kept left s next k = kept.same s t (gone left s t next (thread_at s t)) refl k

  fresh-each : (m : State) (x : ℕ) (q : Pending) → OfEach IsFresh (effects_of m t x q)
  fresh-each m x (Pending.Start who script stack priority mode) = (refl, tt)
  fresh-each m x (Pending.Cut who) = (tt, (tt, tt))
  fresh-each m x q = each-of (is_spared all_other) IsFresh no-start (effects_of m t x q) refl
    where
      no-start : (e : Effect) → is_spared all_other e ≡ true → IsFresh e
      no-start (Effect.starts who thread) h = absurd (true≢false (sym h))
      no-start e h = tt

pub dues-kept : (m : State) (t x : ℕ) (Same : State → Type 0) → DuesKeeping t Same → Same m → (q : Pending) (rest : Steps) → Same (T.after m t x q rest)
dues-kept m t x Same kept first q rest =
    let ws = effects_of m t x q in
    went-kept t Same kept rest (wrote ws m) (next_of m t x q) (all-wrote Same (IsFresh t Same kept) (effect-kept t Same kept) ws m (fresh-each t Same kept m x q) first)

-- What is due of another thread.

dues-less : (r i : ℕ) (holders : List Bool) (ts : List Thread) (u x : ℕ) → slice_index_or (slice_index_or (T.with_dues r i holders ts) u nobody).due x false ≡ true
    → slice_index_or (slice_index_or ts u nobody).due x false ≡ true
dues-less r i holders [] u x h = h
dues-less r i holders (th ∷ ts) zero x h = flags-less th.due r x (T.stays_due i th.child holders) h
dues-less r i holders (th ∷ ts) (suc u) x h = dues-less r (i + 1) holders ts u x h

abbrev pub is_due : State → ℕ → ℕ → Bool
is_due s u x = slice_index_or (thread_at s u).due x false

-- no row is due of a thread that wasn't
abbrev pub IsLess : State → ℕ → State → Type 0
IsLess m u s = (x : ℕ) → is_due s u x ≡ true → is_due m u x ≡ true

pair-less : (s : State) (who r : ℕ) (there : Bool) (u : ℕ) → IsLess s u (T.paired s who r there)
pair-less s who r there u x d = dues-less r 0 (slice_index_or (with_pair s who r there).pairs r []) s.threads u x d

set-less : (m : State) (u : ℕ) (s : State) (v : ℕ) (th : Thread) → ((x : ℕ) → slice_index_or th.due x false ≡ true → is_due s v x ≡ true) → IsLess m u s → IsLess m u (with_thread s v th)
set-less m u s v th less k x d =
    k x (at_set (λ n (z : Thread). slice_index_or z.due x false ≡ true → is_due s n x ≡ true) s.threads v u th nobody (less x) (λ h. h) d)

-- what a thread passes on is due no more, and nothing new is
pub inherit-less : (m : State) (t x : ℕ) (who : ThreadIx) (rest : Steps) (u : ℕ) → IsLess m u (T.after m t x (Pending.Inherit who) rest)
inherit-less m t x who rest u =
    let s = T.paired m who.0 x true in set-less m u s t (record (thread_at s t) { pending = Pending.Inherit who ∷ rest }) (λ y d. d) (pair-less m who.0 x true u)

-- and nor is by the cleaning of an object
pub clean-less : (m : State) (t x : ℕ) (who : ThreadIx) (rest : Steps) (u : ℕ) → IsLess m u (T.after m t x (Pending.CleanPair who) rest)
clean-less m t x who rest u =
    let s = with_cleaner m t (own_row m.image who.0) in
    elim (T.dropped m who.0 x) as (λ l. IsLess m u (with_left l s who.0 x)) [
      | Leftover.NoPair ↦ λ y d. d
      | Leftover.Kept ↦ pair-less s who.0 x false u
      | Leftover.Gone ↦ pair-less s who.0 x false u
    ]

module _ (m : State) (t u : ℕ) (ne : t ≡ u → ⊥) where
  own-less : (s : State) (th : Thread) → IsLess m u s → IsLess m u (with_thread s t th)
  own-less s th k x d = k x (sym (ap (λ (z : Thread). slice_index_or z.due x false) (set-else s.threads t u th ne)) ∙ d)

  less-keeping : DuesKeeping t (IsLess m u)
  less-keeping =
      record {
        same = λ s v th e k. set-less m u s v th (λ x h. ap (λ (due : List Bool). slice_index_or due x false) (sym e) ∙ h) k;
        fresh = λ s v th e k. set-less m u s v th (λ x h. absurd (false≢true (sym (none-held x) ∙ (ap (λ (due : List Bool). slice_index_or due x false) (sym e) ∙ h)))) k;
        ends = λ s th e k. own-less s th k;
        owns = λ s who r th e k. own-less s th k;
        pair = λ s who r there k x d. k x (pair-less s who r there u x d);
        beside = λ s z threads pairs k x d. k x (ap (λ (ts : List Thread). slice_index_or (slice_index_or ts u nobody).due x false) (sym threads) ∙ d);
      }

  -- a step of one thread makes nothing due of another
  pub others-less : (x : ℕ) (q : Pending) (rest : Steps) → IsLess m u (T.after m t x q rest)
  others-less x q rest = dues-kept m t x (IsLess m u) less-keeping (λ y d. d) q rest

-- and so do the steps by which no thread goes on, of any thread
module _ (m : State) (u : ℕ) where
  apart : suc u ≡ u → ⊥
  apart h = omega (arith, h)

  writes-less : (ws : Effects) → OfEach (IsFresh (suc u) (IsLess m u) (less-keeping m (suc u) u apart)) ws → IsLess m u (wrote ws m)
  writes-less ws fresh = all-wrote (IsLess m u) (IsFresh (suc u) (IsLess m u) (less-keeping m (suc u) u apart)) (effect-kept (suc u) (IsLess m u) (less-keeping m (suc u) u apart)) ws m fresh (λ y d. d)

  plain-less : (ws : Effects) → list_all (λ (w : Bool × Effect). is_spared all_other w.1) ws ≡ true → IsLess m u (wrote ws m)
  plain-less ws h = writes-less ws (each-of (is_spared all_other) (IsFresh (suc u) (IsLess m u) (less-keeping m (suc u) u apart)) no-start ws h)
    where
      no-start : (e : Effect) → is_spared all_other e ≡ true → IsFresh (suc u) (IsLess m u) (less-keeping m (suc u) u apart) e
      no-start (Effect.starts who thread) h = absurd (true≢false (sym h))
      no-start e h = tt

  pub beside-less : (t x : ℕ) (q : Pending) (rest : Steps) → NoTurn m t u q → IsLess m u (T.after m t x q rest)
  beside-less t x (Pending.Cut who) rest h = writes-less (effects_of m t x (Pending.Cut who)) (tt, (tt, tt))
  beside-less t x (Pending.TimeOut who) rest h = plain-less (effects_of m t x (Pending.TimeOut who)) refl
  beside-less t x Pending.Expire rest h = plain-less (effects_of m t x Pending.Expire) refl
  beside-less t x Pending.Tick rest h = plain-less (effects_of m t x Pending.Tick) refl
  beside-less t x Pending.Left rest h = plain-less (effects_of m t x Pending.Left) refl
  beside-less t x q rest h = absurd h

-- Only rows are due.

-- as many rows have permissions as there are, and no more of them are due
pub record IsShort (s : State) : Type 0 where
  pub rows : length s.pairs ≡ ROWS
  pub dues : (u : ℕ) → length (thread_at s u).due ≤ ROWS

dues-long : (r i : ℕ) (holders : List Bool) (ts : List Thread) (u : ℕ) → length (slice_index_or (T.with_dues r i holders ts) u nobody).due ≡ length (slice_index_or ts u nobody).due
dues-long r i holders [] u = refl
dues-long r i holders (th ∷ ts) zero = length-set th.due r _
dues-long r i holders (th ∷ ts) (suc u) = dues-long r (i + 1) holders ts u

set-short : (s : State) (v : ℕ) (th : Thread) → length th.due ≤ ROWS → IsShort s → IsShort (with_thread s v th)
set-short s v th l k = record { rows = k.rows; dues = λ u. at_set (λ n (z : Thread). length z.due ≤ ROWS) s.threads v u th nobody l (k.dues u) }

short-keeping : (t : ℕ) → DuesKeeping t IsShort
short-keeping t =
    record {
      same = λ s v th e k. set-short s v th (subst (λ (due : List Bool). length due ≤ ROWS) (sym e) (k.dues v)) k;
      fresh = λ s v th e k. let l = ap length e ∙ copies-long ROWS false in set-short s v th (omega (arith, l)) k;
      ends = λ s th e k. let l = ap length e ∙ (length-map s.pairs (λ (flags : List Bool). slice_index_or flags t false) ∙ k.rows) in set-short s t th (omega (arith, l)) k;
      owns = λ s who r th e k.
          let l = ap length e ∙ (length-set (T.rows_to_pass s t who) r false ∙ (length-map s.pairs (λ (holders : List Bool). slice_index_or holders t false && not (slice_index_or holders who false)) ∙ k.rows)) in
          set-short s t th (omega (arith, l)) k;
      pair = λ s who r there k.
          record {
            rows = length-set s.pairs r _ ∙ k.rows;
            dues = λ u. subst (λ n. n ≤ ROWS) (sym (dues-long r 0 (slice_index_or (with_pair s who r there).pairs r []) s.threads u)) (k.dues u);
          };
      beside = λ s z threads pairs k.
          record { rows = ap length pairs ∙ k.rows; dues = λ u. subst (λ (ts : List Thread). length (slice_index_or ts u nobody).due ≤ ROWS) (sym threads) (k.dues u) };
    }

short-run : (s : State) (events : List Event) (s2 : State) → IsShort s → Runs s events s2 → IsShort s2
short-run s [] s2 k run = subst IsShort (sym run) k
short-run s (event ∷ events) s2 k (mid, step, rest) =
    short-run mid events s2 (subst IsShort (sym step.leaves) (dues-kept s event.thread.0 step.row IsShort (short-keeping event.thread.0) k step.step step.rest)) rest

pub short-known : (image : Image) (cpus : ℕ) → length image.objects ≤ STATIC_ROWS → (m : State) → IsReachable image cpus m → IsShort m
short-known image cpus few m reach =
    short-run (opening image) reach.0 m (record { rows = (opening-wide image few).rows; dues = λ u. let n = (new-thread image u).due in omega (arith, n) }) reach.1

-- a row that is due is one
pub due-row : (s : State) → IsShort s → (u x : ℕ) → is_due s u x ≡ true → suc x ≤ ROWS
due-row s short u x d = by (thread_at s u).due x d (short.dues u)
  where
    within : (due : List Bool) (x : ℕ) → slice_index_or due x false ≡ true → suc x ≤ length due
    within [] x h = absurd (false≢true h)
    within (b ∷ due) zero h = omega arith
    within (b ∷ due) (suc x) h = let l = within due x h in omega (arith, l)

    by : (due : List Bool) (x : ℕ) → slice_index_or due x false ≡ true → length due ≤ ROWS → suc x ≤ ROWS
    by due x h l = let w = within due x h in omega (arith, w, l)
