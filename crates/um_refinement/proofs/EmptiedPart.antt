-- The pairs that a processor has visited of a thread whose object it cleans stay gone, after every lawful step: nobody gives that thread a
-- permission, since nobody holds its object.
use Rattle.um_refinement.proofs.Words.{waits, runs, ◌≡◌, ◌⊎◌, inl, inr, ℕ, zero, suc, ◌+◌, ◌<◌, ◌≤◌, Bool, true, false, cond, List, [], ◌∷◌, Some, refl, sym, ap, ◌∙◌, subst, arith, eq-eqb, eq-or-lt_of_le, ◌==◌, ◌&&◌, not, if◌then◌else◌, nat_lt, slice_index_or, slice_set, list_all, and_parts, eqb-false, eqb-true, false≢true, ltb-true, not-true, true≢false, nat_tests, Leftover, Image, ROWS, THREADS, Addr, ThreadIx, own_row, thread_of_row, Status, Pending, Thread, Steps, to_thread, Offers, begins, exits, goes, skips_drops, skips_inherit, is_empty, State, object_at, pair_at, thread_at, with_object, claims, Call, at_set, call_at, call_is, core_of, status_is, IsStatic, IsKnown, FineAct, Unseen, RowWord, has, is_dying, row_in, begins_cleaning, fits, Context, goes_on_by, p_next, row_number, with_cleaned, Todo, Todos, cleaning, with_cleaning, Processor, same_site, FineStep, Site, AreBlocks, Cleans, Fine, one_if, row, cleaned_pairs, counted, is_recycle, names_row, recyclers, Fits, Passes, is_over, keeps_now, fits_visit, clean_pairs, IsEmptied, tends}
use Rattle.um_words.specs.declared.fine.Mark.{Mark}
use Rattle.um_machine.specs.Run.{stops}
use Rattle.um_machine.specs.Run as Run
use Rattle.um_refinement.specs.Frames.{AreFramed}
use Rattle.um_refinement.proofs.ListGrowth.{acted-kept}
use Rattle.um_machine.specs.Objects as Plain
use Rattle.um_machine.specs.Table as T
use Rattle.um_refinement.proofs.CallSteps.{StartsOne}
use Rattle.um_refinement.proofs.CellSteps.{takes-quiet}
use Rattle.um_refinement.proofs.CleanersPart.{cleaners-part, visit-is}
use Rattle.um_refinement.proofs.CleanersSteps.{gain, recycles-gain, row-here, word-here}
use Rattle.um_refinement.proofs.CleanSteps.{OwnRows}
use Rattle.um_refinement.proofs.CleaningFacts.{is_birth}
use Rattle.um_refinement.proofs.Erased.{around, later}
use Rattle.um_refinement.proofs.FirstThreads.{one-most}
use Rattle.um_refinement.proofs.HeldRows.{checked-claimed, claimed-kept}
use Rattle.um_refinement.proofs.Leaves.{Beside, Lawful, Leaves, cuts, expires, ticks, times_out}
use Rattle.um_refinement.proofs.Leaves as L
use Rattle.um_refinement.proofs.ListBlocks.{goes-blocks}
use Rattle.um_refinement.proofs.ListCounts.{count-cons, goes-count, next-counts, recycles-of, takes-counts}
use Rattle.um_refinement.proofs.ListGrowth.{ReadsLast, is_clean_pair}
use Rattle.um_refinement.proofs.ListVisits.{cleaned-apart, cleaned-bounded, cleaned-first, goes-visits, skips-visit}
use Rattle.um_refinement.proofs.MemorySteps.{part-total}
use Rattle.um_refinement.proofs.Offered.{own-unless, runs-first, IsStep, Shows, own-part, shown-offers, shown-on}
use Rattle.um_refinement.proofs.PairsKept.{pairs-same}
use Rattle.um_refinement.proofs.PairsPart.{dropped-pairs}
use Rattle.um_refinement.proofs.RowsPart.{rows-part}
use Rattle.um_refinement.proofs.SchedulerSteps.{made-at, made-says}
use Rattle.um_refinement.proofs.StepReads.{is-behind}
use Rattle.um_refinement.proofs.Sums.{over-changed, one-true}
use Rattle.um_refinement.proofs.VisitSteps.{pair-is}
use Rattle.um_refinement.proofs.WordsKept.{IsShown}
use Rattle.um_refinement.proofs.Writes.{with_dropped, with_given, with_given_if, with_cleaner, with_left}

-- Who gets a permission: a thread whose object the call holds, or that is static, and a thread that is started next.
pub record GivesHeld (m : State) : Type 0 where
  pub grants : (t : ℕ) (who : ThreadIx) (a : Addr) (rest : Steps) → Offers m t (Pending.Grant who a) rest → IsStatic m.image (thread_at m t).checked (own_row m.image who.0)
  pub passes : (t : ℕ) (who : ThreadIx) (rest : Steps) → (thread_at m t).pending ≡ Pending.Inherit who ∷ rest → StartsOne who rest

-- Pairs.

set-false : (flags : List Bool) (u v : ℕ) (there : Bool) → (there ≡ true → u ≡ v → ⊥) → slice_index_or flags v false ≡ false → slice_index_or (slice_set flags u there) v false ≡ false
set-false [] u v there ne h = h
set-false (b ∷ flags) zero zero true ne h = absurd (ne refl refl)
set-false (b ∷ flags) zero zero false ne h = refl
set-false (b ∷ flags) zero (suc v) there ne h = h
set-false (b ∷ flags) (suc u) zero there ne h = h
set-false (b ∷ flags) (suc u) (suc v) there ne h = set-false flags u v there (λ k same. ne k (ap suc same)) h

-- a permission that isn't given stays away
pair-away : (s : State) (u r : ℕ) (there : Bool) (v y : ℕ) → (there ≡ true → u ≡ v → ⊥) → pair_at s v y ≡ false → pair_at (T.paired s u r there) v y ≡ false
pair-away s u r there v y ne h =
    at_set (λ n (flags : List Bool). n ≡ y → slice_index_or flags v false ≡ false) s.pairs r y (slice_set (slice_index_or s.pairs r []) u there) []
    (λ e. set-false (slice_index_or s.pairs r []) u v there ne (ap (λ n. slice_index_or (slice_index_or s.pairs n []) v false) e ∙ h)) (λ e. h) refl

drop-away : (s : State) (u r v y : ℕ) → pair_at s v y ≡ false → pair_at (with_dropped s u r) v y ≡ false
drop-away s u r v y h = by (T.dropped s u r)
  where
    by : (l : Leftover) → pair_at (with_left l s u r) v y ≡ false
    by Leftover.NoPair = h
    by Leftover.Kept = pair-away s u r false v y (λ k same. true≢false (sym k)) h
    by Leftover.Gone = pair-away s u r false v y (λ k same. true≢false (sym k)) h

live-gone : (s : Status) → Plain.is_live s ≡ true → Plain.is_gone s ≡ true → ⊥
live-gone Status.Live l g = false≢true g
live-gone Status.Free l g = false≢true l
live-gone Status.Reserved l g = false≢true l
live-gone Status.Gone l g = false≢true l

-- a thread that is offered the birth of an object keeps its own
keeps-own : (m : State) → IsKnown (core_of m) → (t : ℕ) (q : Pending) (rest : Steps) → Offers m t q rest → is_birth q ≡ true → (call_at (core_of m) t).keeps ≡ true
keeps-own m known t q rest (goes e) h = keeps_now m t q rest known e
keeps-own m known t q rest (skips_inherit {who} e due) h = keeps_now m t (Pending.Inherit who) (q ∷ rest) known e
keeps-own m known t q rest (skips_drops {from} e due) h = keeps_now m t (Pending.Drops from) (q ∷ rest) known e
keeps-own m known t _ _ (begins e lives doomed there) h = absurd (false≢true h)
keeps-own m known t _ _ (exits e lives doomed there) h = absurd (false≢true h)
keeps-own m known t _ _ (stops rests lives must) h = absurd (false≢true h)
keeps-own m known t _ _ (Run.leaves ending) h = absurd (false≢true h)
keeps-own m known t (Pending.CleanPair who) _ (tends is started) h = absurd (false≢true h)
keeps-own m known t Pending.Recycle _ (tends is started) h = absurd (false≢true h)
keeps-own m known t q _ (tends is started) h = cc

-- what is passed on is passed on to a thread that is claimed
starts-claimed : (image : Image) (who : ThreadIx) (steps : Steps) → StartsOne who steps → claims image who.0 (Pending.Inherit who ∷ steps) ≡ true
starts-claimed image who (Pending.Start w script stack priority mode ∷ rest) h = eq-eqb w.0 who.0 (ap (λ (z : ThreadIx). z.0) h)
starts-claimed image who steps h = absurd h

over-not : (c : Context) (q : Pending) (steps : Steps) → c.pending ≡ q ∷ steps → is_over c ≡ false
over-not c q steps e = ap (λ (z : Steps). c.ended && is_empty z) e ∙ no c.ended
  where
    no : (b : Bool) → (b && false) ≡ false
    no true = refl
    no false = refl

module _ (f : Fine) (m : State) (e : FineStep) (law : Lawful f m e) (gives : GivesHeld m) (own : OwnRows f.image) (x : ℕ) (few : x < ROWS) (who : ℕ) (thread : thread_of_row f.image x ≡ Some who) where
  open around f e use {processor as p, now}
  open is-behind f m e law use {frame, last-shown}

  abbrev Recs : Todos → ℕ
  Recs todo = counted (is_recycle x) todo

  abbrev At : Todos → ℕ
  At todo = cleaned_pairs who todo

  -- the row of the thread's own object
  mine-row : own_row f.image who ≡ x
  mine-row = (own x who thread).0

  same-row : own_row m.image who ≡ x
  same-row = ap (λ (i : Image). own_row i who) law.rel.image ∙ mine-row

  -- Nobody gives a permission to a thread whose object is cleaned.

  module _ (some : 0 < recyclers f x) where
    gone : Plain.is_gone (object_at m x).status ≡ true
    gone =
        let c = (law.rel.rows x few).cleaners.cleaner in
        (and_parts (Plain.is_gone (object_at m x).status) _ (one-true (Plain.is_gone (object_at m x).status && not (is_dying (row f x).stage)) (omega (arith, some, c)))).0

    unclaimed : 0 < (row f x).claims → ⊥
    unclaimed claimed = let none = (claimed-kept f m law.rel x few claimed).1 in omega (arith, some, none)

    -- the call of the thread that makes the step doesn't hold it
    unheld : runs p ≡ true → is_over p.context ≡ false → slice_index_or (thread_at m p.context.thread).checked x false ≡ true → ⊥
    unheld running on held = unclaimed (checked-claimed f m law.rel e.cpu x law.by.named few running on held)

    unnamed : runs p ≡ true → is_over p.context ≡ false → IsStatic m.image (thread_at m p.context.thread).checked x → ⊥
    unnamed running on (inl l) = live-gone (object_at m x).status (ap Plain.is_live (sym (status_is m x)) ∙ law.sound.known.reached.static x l) gone
    unnamed running on (inr r) = unheld running on r.1

    -- and that isn't the thread that makes an object
    unliving : (t : ℕ) → t < THREADS → (thread_at m t).keeps_own ≡ true → own_row f.image t ≡ x → ⊥
    unliving t small keeps at =
        let all = (law.rel.rows x few).claims.claimed in
        let one : one_if ((thread_at m t).keeps_own && (own_row f.image t == x)) ≡ 1 = λ i. one_if (keeps i && eq-eqb (own_row f.image t) x at i) in
        let part = part-total (λ u. one_if ((thread_at m u).keeps_own && (own_row f.image u == x))) THREADS t small in
        unclaimed (omega (arith, all, one, part))

    away-event : (q : Pending) (rest : Steps) (todo : Todos) (n : ℕ) → Shows f m e.cpu e q rest todo → IsShown q → IsStep f m e.cpu e n q → (y : ℕ) → pair_at m who y ≡ false
        → pair_at (T.after m p.context.thread n q rest) who y ≡ false
    away-event (Pending.Grant w a) rest todo n h shown is y away = by (Plain.is_gone (object_at m (T.row_of m a)).status)
      where
        other : w.0 ≡ who → ⊥
        other same =
            unnamed (runs-first law.rel law.by.named (Todo.show h.listed rest) todo h.at (λ hand. hand)) (shown-on h)
            (subst (IsStatic m.image (thread_at m p.context.thread).checked) (ap (own_row m.image) same ∙ same-row) (gives.grants p.context.thread w a rest (shown-offers h)))

        by : (b : Bool) → pair_at (with_given_if b m w.0 (T.row_of m a)) who y ≡ false
        by true = away
        by false = pair-away m w.0 (T.row_of m a) true who y (λ k. other) away
    away-event (Pending.Own w) rest todo n h shown is y away = by (w.0 == who) refl
      where
        by : (b : Bool) → (w.0 == who) ≡ b → pair_at (with_given m w.0 (own_row m.image w.0)) who y ≡ false
        by true k =
            subst (λ (s : State). pair_at s who y ≡ false)
            (sym (ap (λ b. with_given_if b m w.0 (own_row m.image w.0)) (ap (λ r. Plain.is_gone (object_at m r).status) (ap (own_row m.image) (eqb-true w.0 who k) ∙ same-row) ∙ gone))) away
        by false k = either (Plain.is_gone (object_at m (own_row m.image w.0)).status)
          where
            either : (b : Bool) → pair_at (with_given_if b m w.0 (own_row m.image w.0)) who y ≡ false
            either true = away
            either false = pair-away m w.0 (own_row m.image w.0) true who y (λ j. eqb-false w.0 who k) away
    away-event (Pending.Born a) rest todo n h shown is y away =
        pair-away (with_object m (T.row_of m a) (record (object_at m (T.row_of m a)) { status = Status.Live })) p.context.thread (T.row_of m a) true who y (λ k. other) away
      where
        other : p.context.thread ≡ who → ⊥
        other same =
            unliving p.context.thread (own-part h).index (sym (ap (λ (c : Call). c.keeps) (call_is m p.context.thread)) ∙ keeps-own m law.sound.known p.context.thread (Pending.Born a) rest (shown-offers h) refl)
            (ap (own_row f.image) same ∙ mine-row)
    away-event (Pending.DropPair w a) rest todo n h shown is y away = drop-away m w.0 (T.row_of m a) who y away
    away-event (Pending.Inherit w) rest todo n h shown is y away = absurd shown
    away-event (Pending.Drops from) rest todo n h shown is y away = absurd shown
    away-event (Pending.CleanPair w) rest todo n h shown is y away = absurd shown
    away-event q rest todo n h shown is y away = ap (λ (all : List (List Bool)). slice_index_or (slice_index_or all y []) who false) (pairs-same m p.context.thread n q rest tt) ∙ away

    -- permissions are passed on to a thread whose object is held
    passes-on : (w y : ℕ) (todo : Todos) → p.todo ≡ Todo.pass w y ∷ todo → w ≡ who → ⊥
    passes-on w y todo at same =
        unheld (runs-first law.rel law.by.named (Todo.pass w y) todo at (λ hand. hand)) on
        (sym (ap (λ (c : Call). slice_index_or c.checked x false) (call_is m p.context.thread))
        ∙ (ap (λ r. slice_index_or (call_at (core_of m) p.context.thread).checked r false) (sym (ap (own_row m.image) (fits.same ∙ same) ∙ same-row)) ∙ held))
      where
        fits : Passes f.image p.context w todo
        fits = (subst (Fits f.image p.context) at (law.rel.processors e.cpu law.by.named).list.fits).0

        on : is_over p.context ≡ false
        on = over-not p.context (Pending.Inherit fits.child) (fits.step ∷ fits.rest) fits.pending

        pending : (thread_at m p.context.thread).pending ≡ Pending.Inherit fits.child ∷ fits.step ∷ fits.rest
        pending =
            let of = (law.rel.contexts.running e.cpu law.by.named (runs-first law.rel law.by.named (Todo.pass w y) todo at (λ hand. hand))).of on in
            sym (ap (λ (z : Thread). z.pending) (own-unless of (ap waits fits.pending))) ∙ fits.pending

        held : slice_index_or (call_at (core_of m) p.context.thread).checked (own_row m.image fits.child.0) false ≡ true
        held =
            law.sound.known.claimed.held p.context.thread fits.child.0
            (ap (λ (c : Call). claims m.image fits.child.0 c.pending) (call_is m p.context.thread)
            ∙ (ap (claims m.image fits.child.0) pending ∙ starts-claimed m.image fits.child (fits.step ∷ fits.rest) (gives.passes p.context.thread fits.child (fits.step ∷ fits.rest) pending)))

    away : (s : State) → Leaves f m e s → (y : ℕ) → pair_at m who y ≡ false → pair_at s who y ≡ false
    away _ (L.nothing u said) y h = h
    away _ (L.event q rest todo n shows shown is) y h = away-event q rest todo n shows shown is y h
    away _ (L.resumes c told rest at moved said) y h =
        ap (λ (all : List (List Bool)). slice_index_or (slice_index_or all y []) who false) (pairs-same m c.thread 0 Pending.Resume rest tt) ∙ h
    away _ (L.passes w z rest todo v said) y h = pair-away m w z true who y (λ k. passes-on w z todo v.at) h
    away _ (L.drops from z rest todo v said) y h = drop-away m p.context.thread z who y h
    away _ (L.cleans w z rest todo v said) y h = drop-away (with_cleaner m p.context.thread (own_row m.image w)) w z who y h
    away _ (L.recycles z rest todo at l said chosen) y h = h
    away _ (L.beside t n q how chosen started) y h = ap (λ (all : List (List Bool)). slice_index_or (slice_index_or all y []) who false) (on-beside t n q how) ∙ h
      where
        on-beside : (t n : ℕ) (q : Pending) → Beside f m e t n q → (T.after m t n q (thread_at m t).pending).pairs ≡ m.pairs
        on-beside t n _ (cuts w site before _ todo at place inside said) = pairs-same m t n (Pending.Cut (to_thread w)) (thread_at m t).pending tt
        on-beside t n _ (times_out deadline site _ w todo at place inside said) = pairs-same m t n (Pending.TimeOut w) (thread_at m t).pending tt
        on-beside t n _ (expires deadline z todo at inside said) = pairs-same m t n Pending.Expire (thread_at m t).pending tt
        on-beside t n _ (ticks at said) = pairs-same m t n Pending.Tick (thread_at m t).pending tt
        on-beside t n _ (L.leaves todo at said) = pairs-same m t n Pending.Left (thread_at m t).pending tt

  -- How far the visits are.

  most-later : (s : State) → Leaves f m e s → recyclers (later f e) x ≤ 1
  most-later s leaves =
      let c = (cleaners-part f m e law x few s leaves).cleaner in
      let o = one-most (Plain.is_gone (object_at s x).status && not (is_dying (row (later f e) x).stage)) in
      omega (arith, c, o)

  was : IsEmptied f m e.cpu x
  was = ((law.rel.processors e.cpu law.by.named).cleaning x few).emptied

  bounded : At now.todo ≤ ROWS
  bounded =
      cleaned-bounded who now.todo
      (subst (λ (z : Processor). list_all names_row z.todo ≡ true) (ap (λ b. cond b now p) (eq-eqb e.cpu e.cpu refl)) (rows-part f m e law e.cpu law.by.named))

  module _ (s : State) (leaves : Leaves f m e s) (some : 0 < Recs now.todo) where
    -- the object's cleaning begins, or the list has the visits that the step leaves
    visits-now : (q : Todo) (todo : Todos) → p.todo ≡ q ∷ todo → ReadsLast e q todo
        → (At now.todo ≡ 0) ⊎ ((At now.todo ≡ At (goes_on_by f.image p e (q ∷ todo)).todo) × (0 < Recs p.todo))
    visits-now q todo at last = by (begins_cleaning e) refl
      where
        left : Todos
        left = (goes_on_by f.image p e (q ∷ todo)).todo

        recs : Recs now.todo ≡ gain f m e law x few (begins_cleaning e) (row_number e.site) + Recs todo
        recs =
            let all = next-counts (is_recycle x) (recycles-of x) f.image p e q todo at (frame q todo at) last in
            let more = recycles-gain f m e law x few (begins_cleaning e) in
            omega (arith, all, more)

        before : Recs todo ≤ Recs p.todo
        before = let c = ap Recs at ∙ count-cons (is_recycle x) q todo in omega (arith, c)

        list : (b : Bool) → begins_cleaning e ≡ b → now.todo ≡ (with_cleaned f.image (goes_on_by f.image p e (q ∷ todo)) e b).todo
        list b k =
            acted-kept f.image (λ (z : Todos). z ≡ (with_cleaned f.image (goes_on_by f.image p e (q ∷ todo)) e b).todo) (with_cleaned f.image (goes_on_by f.image p e p.todo) e (begins_cleaning e)) e.act
            (λ i. (with_cleaned f.image (goes_on_by f.image p e (at i)) e (k i)).todo)

        by-row : begins_cleaning e ≡ true → (b : Bool) → (x == row_number e.site) ≡ b
            → (At now.todo ≡ 0) ⊎ ((At now.todo ≡ At (goes_on_by f.image p e (q ∷ todo)).todo) × (0 < Recs p.todo))
        by-row k true r =
            let g : gain f m e law x few (begins_cleaning e) (row_number e.site) ≡ 1 = ap (λ b. gain f m e law x few b (row_number e.site)) k ∙ ap one_if r in
            let one = most-later s leaves in
            let changed = over-changed f e (λ z. Recs z.todo) law.by.named in
            let part = part-total (λ j. Recs (f.processors j).todo) f.cpus e.cpu law.by.named in
            let counted-left : Recs (goes_on_by f.image p e (q ∷ todo)).todo ≡ Recs todo = goes-count (is_recycle x) (recycles-of x) f.image p e q todo (frame q todo at) last in
            let blocks = (law.rel.processors e.cpu law.by.named).blocks in
            inl
            (ap At (list true k)
            ∙ (ap (λ n. At (with_cleaning (cleaning f.image n) (goes_on_by f.image p e (q ∷ todo)).todo)) (sym (eqb-true x (row_number e.site) r))
            ∙ cleaned-first f.image who x own thread (goes_on_by f.image p e (q ∷ todo)).todo (goes-blocks f.image p e (q ∷ todo) (subst (AreFramed f.image) at (law.rel.processors e.cpu law.by.named).frames) blocks (subst (AreBlocks f.image) at blocks))
            (omega (arith, counted-left, recs, g, one, changed, part))))
        by-row k false r =
            let g : gain f m e law x few (begins_cleaning e) (row_number e.site) ≡ 0 = ap (λ b. gain f m e law x few b (row_number e.site)) k ∙ ap one_if r in
            let c = before in
            inr (
              ap At (list true k)
                  ∙ cleaned-apart f.image who (row_number e.site) (λ same. eqb-false x (row_number e.site) r (sym mine-row ∙ (own (row_number e.site) who same).0))
                  (goes_on_by f.image p e (q ∷ todo)).todo,
              omega (arith, recs, g, c, some),
            )

        by : (b : Bool) → begins_cleaning e ≡ b → (At now.todo ≡ 0) ⊎ ((At now.todo ≡ At (goes_on_by f.image p e (q ∷ todo)).todo) × (0 < Recs p.todo))
        by true k = by-row k (x == row_number e.site) refl
        by false k =
            let g : gain f m e law x few (begins_cleaning e) (row_number e.site) ≡ 0 = ap (λ b. gain f m e law x few b (row_number e.site)) k in
            let c = before in
            inr (ap At (list false k), omega (arith, recs, g, c, some))

    one-of : 0 < Recs p.todo → 0 < recyclers f x
    one-of here = let part = part-total (λ j. Recs (f.processors j).todo) f.cpus e.cpu law.by.named in omega (arith, part, here)

    -- a step that is no visit
    plain : (q : Todo) (todo : Todos) → p.todo ≡ q ∷ todo → ReadsLast e q todo → is_clean_pair q ≡ false → (y : ℕ) → y < At now.todo → pair_at s who y ≡ false
    plain q todo at last free y l = by (visits-now q todo at last)
      where
        by : (At now.todo ≡ 0) ⊎ ((At now.todo ≡ At (goes_on_by f.image p e (q ∷ todo)).todo) × (0 < Recs p.todo)) → pair_at s who y ≡ false
        by (inl none) = absurd (omega (arith, l, none))
        by (inr (same, here)) =
            let list : At now.todo ≡ At p.todo = same ∙ (goes-visits f.image who p e q todo free (frame q todo at) last ∙ (sym (skips-visit f.image who q todo free) ∙ ap At (sym at))) in
            away (one-of here) s leaves y (was who thread here y (omega (arith, l, list)))

    -- a visit
    visit : (u z : ℕ) (todo : Todos) → p.todo ≡ Todo.clean_pair u z ∷ todo → (u ≡ who → pair_at s who z ≡ false) → (y : ℕ) → y < At now.todo → pair_at s who y ≡ false
    visit u z todo at visited y l = by (visits-now (Todo.clean_pair u z) todo at tt)
      where
        by-thread : (b : Bool) → (u == who) ≡ b → At now.todo ≡ At (clean_pairs u (z + 1) todo) → 0 < Recs p.todo → pair_at s who y ≡ false
        by-thread false k same here =
            let next : At (clean_pairs u (z + 1) todo) ≡ At todo =
            elim (nat_lt (z + 1) ROWS) as (λ b. At (if b then Todo.clean_pair u (z + 1) ∷ todo else todo) ≡ At todo) [ true ↦ ap (λ b. if b then z + 1 else At todo) k | false ↦ refl ] in
            let old : At p.todo ≡ At todo = ap At at ∙ ap (λ b. if b then z else At todo) k in
            away (one-of here) s leaves y (was who thread here y (omega (arith, l, same, next, old)))
        by-thread true k same here = which (eq-or-lt_of_le (up-to (nat_lt (z + 1) ROWS) refl))
          where
            up-to : (b : Bool) → nat_lt (z + 1) ROWS ≡ b → y ≤ z
            up-to true j =
                let next : At (clean_pairs u (z + 1) todo) ≡ z + 1 = ap (λ b. At (if b then Todo.clean_pair u (z + 1) ∷ todo else todo)) j ∙ ap (λ b. if b then z + 1 else At todo) k in
                omega (arith, l, same, next)
            up-to false j = let most = bounded in let past = past-rows j in omega (arith, l, most, past)
              where
                past-rows : nat_lt (z + 1) ROWS ≡ false → ROWS ≤ z + 1
                past-rows q = grind (arith, nat_tests)

            old : At p.todo ≡ z
            old = ap At at ∙ ap (λ b. if b then z else At todo) k

            which : (y ≡ z) ⊎ (y < z) → pair_at s who y ≡ false
            which (inl same-row) = ap (pair_at s who) same-row ∙ visited (eqb-true u who k)
            which (inr less) = let before = old in away (one-of here) s leaves y (was who thread here y (omega (arith, less, before)))

        by : (At now.todo ≡ 0) ⊎ ((At now.todo ≡ At (clean_pairs u (z + 1) todo)) × (0 < Recs p.todo)) → pair_at s who y ≡ false
        by (inl none) = absurd (omega (arith, l, none))
        by (inr (same, here)) = by-thread (u == who) refl same here

    none-taken : {A : Type 0} → p.todo ≡ [] → A
    none-taken at = let none = takes-counts (is_recycle x) (recycles-of x) f.image p e at (takes-quiet f m e law x few at) in absurd (omega (arith, none, some))

  -- What a visit leaves.

  row-first : (q : Todo) (todo : Todos) → p.todo ≡ q ∷ todo → names_row q ≡ true
  row-first q todo at = (and_parts (names_row q) (list_all names_row todo) (subst (λ (z : Todos). list_all names_row z ≡ true) at (law.rel.processors e.cpu law.by.named).rows)).0

  -- a look finds no permission
  looked-none : (u z : ℕ) (todo : Todos) → p.todo ≡ Todo.clean_pair u z ∷ todo → e.act ≡ FineAct.Unseen Unseen.Visit → pair_at m u z ≡ false
  looked-none u z todo at said =
      sym (pair-is f m law.rel z u small)
      ∙ (sym (ap (λ (w : RowWord). has w u) (word-here f m e law z small on ∙ row-here f m e law z small on (FineAct.Unseen Unseen.Visit) said)) ∙ found)
    where
      small : z < ROWS
      small = ltb-true z ROWS (row-first (Todo.clean_pair u z) todo at)

      on : same_site e.site (Site.row z) ≡ true
      on = ap (λ i. same_site i (Site.row z)) (made-at f m e law (Todo.clean_pair u z ∷ todo) at) ∙ eq-eqb z z refl

      found : has (row_in e.word) u ≡ false
      found =
          not-true (has (row_in e.word) u)
          (ap (λ a. fits_visit (record e { act = a }) (has (row_in e.word) u)) (sym said)
          ∙ (and_parts (fits_visit e (has (row_in e.word) u)) _ (subst (λ (t : Todos). fits f.image p t e ≡ true) at law.by.may.fit)).0)

  set-here : (flags : List Bool) (v : ℕ) → slice_index_or (slice_set flags v false) v false ≡ false
  set-here [] v = refl
  set-here (b ∷ flags) zero = refl
  set-here (b ∷ flags) (suc v) = set-here flags v

  emptied-mine : (s : State) → Leaves f m e s → 0 < Recs now.todo → (y : ℕ) → y < At now.todo → pair_at s who y ≡ false
  emptied-mine _ (L.nothing u said) some y l = by p.todo refl
    where
      by : (todo : Todos) → p.todo ≡ todo → pair_at m who y ≡ false
      by [] at = none-taken m (L.nothing u said) some at
      by (Todo.show q rest ∷ todo) at = plain m (L.nothing u said) some (Todo.show q rest) todo at (last-shown q rest todo at) refl y l
      by (Todo.clean_pair v z ∷ todo) at =
          visit m (L.nothing u said) some v z todo at
          (λ same. ap (λ n. pair_at m n z) (sym same) ∙ looked-none v z todo at (visit-is f m e law x few u _ said (made-says f m e law (Todo.clean_pair v z ∷ todo) at))) y l
      by (q ∷ todo) at = plain m (L.nothing u said) some q todo at tt refl y l
  emptied-mine s (L.event q rest todo n h shown is) some y l = plain _ (L.event q rest todo n h shown is) some (Todo.show h.listed rest) todo h.at (last-shown h.listed rest todo h.at) refl y l
  emptied-mine s (L.resumes c told rest at moved said) some y l = none-taken _ (L.resumes c told rest at moved said) some at
  emptied-mine s (L.passes w z rest todo h said) some y l = plain _ (L.passes w z rest todo h said) some (Todo.pass w z) todo h.at tt refl y l
  emptied-mine s (L.drops from z rest todo h said) some y l = plain _ (L.drops from z rest todo h said) some (Todo.drop z) todo h.at tt refl y l
  emptied-mine s (L.cleans w z rest todo h said) some y l = visit _ (L.cleans w z rest todo h said) some w z todo h.at dropped y l
    where
      dropped : w ≡ who → pair_at (T.after m p.context.thread z (Pending.CleanPair (to_thread w)) rest) who z ≡ false
      dropped same =
          let long = law.sound.wide.rows in
          let small = h.few in
          ap (λ (flags : List Bool). slice_index_or flags who false) (dropped-pairs (with_cleaner m p.context.thread (own_row m.image w)) w z (omega (arith, long, small)))
          ∙ (ap (λ n. slice_index_or (slice_set (slice_index_or m.pairs z []) n false) who false) same ∙ set-here (slice_index_or m.pairs z []) who)
  emptied-mine s (L.recycles z rest todo at small said chosen) some y l = plain _ (L.recycles z rest todo at small said chosen) some (Todo.recycle z) todo at tt refl y l
  emptied-mine s (L.beside t n q how chosen started) some y l = on-beside t n q how (L.beside t n q how chosen started) some
    where
      on-beside : (t n : ℕ) (q : Pending) → Beside f m e t n q → Leaves f m e (T.after m t n q (thread_at m t).pending) → 0 < Recs now.todo → pair_at (T.after m t n q (thread_at m t).pending) who y ≡ false
      on-beside t n _ (cuts w site before _ todo at place inside said) left some = plain _ left some (Todo.look w site before) todo at tt refl y l
      on-beside t n _ (times_out deadline site _ w todo at place inside said) left some = plain _ left some (Todo.handle deadline (Mark.Thread w site)) todo at tt refl y l
      on-beside t n _ (expires deadline z todo at inside said) left some = plain _ left some (Todo.handle deadline (Mark.Timer z)) todo at tt refl y l
      on-beside t n _ (ticks at said) left some = none-taken _ left some at
      on-beside t n _ (L.leaves todo at said) left some = plain _ left some Todo.leave todo at tt refl y l

  pub emptied-part : (s : State) → Leaves f m e s → (k : ℕ) → k < f.cpus → Cleans (later f e) k x → (y : ℕ) → y < cleaned_pairs who ((later f e).processors k).todo → pair_at s who y ≡ false
  emptied-part s leaves k l = by (e.cpu == k) refl
    where
      kth : Bool → Processor
      kth b = cond b (p_next f.image (f.processors k) e) (f.processors k)

      Emptied : Processor → Type 0
      Emptied z = 0 < Recs z.todo → (y : ℕ) → y < At z.todo → pair_at s who y ≡ false

      by : (b : Bool) → (e.cpu == k) ≡ b → Emptied (kth (e.cpu == k))
      by true q = subst Emptied (sym (ap kth q ∙ ap (λ (z : Processor). p_next f.image z e) (sym (ap f.processors (eqb-true e.cpu k q))))) (emptied-mine s leaves)
      by false q =
          subst Emptied (sym (ap kth q))
          (λ some y less.
          let part = part-total (λ j. Recs (f.processors j).todo) f.cpus k l in
          away (omega (arith, some, part)) s leaves y (((law.rel.processors k l).cleaning x few).emptied who thread some y less))
