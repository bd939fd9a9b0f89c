-- A processor's drop of a permission is that step of the machine, where the relation holds and permissions are of live objects alone: a
-- release or a revocation, and what a thread's end drops.
use Rattle.um_refinement.proofs.Words.{waits, ◌≡◌, ◌⊎◌, inl, inr, ℕ, zero, suc, ◌<◌, ◌≤◌, Bool, true, false, List, [], ◌∷◌, length, refl, sym, ap, ◌∙◌, subst, arith, eq-or-lt_of_le, ◌&&◌, not, nat_le, if◌then◌else◌, slice_index_or, slice_set, take, list_all, and_from, and_parts, false≢true, not_from_false, true≢false, get_or-set_same, Act, Leftover, ROWS, STATIC_ROWS, Addr, ThreadIx, Pending, Thread, Steps, to_thread, goes, State, object_at, pair_at, thread_at, with_pair, FineAct, Stage, has, is_free, is_last, is_live, left_of, address_of, row_named, act_in, leftover_in, row_in, FineStep, Site, SiteState, site_answers, Todo, Todos, by_me, fits, is_dropped, shows, Fine, row, visited, recyclers, vacaters, is_visiting, Drops, Fits, Rel}
use Rattle.um_machine.specs.Objects as Plain
use Rattle.um_machine.specs.Table as T
use Rattle.um_refinement.proofs.StepsLeft.{drops-on}
use Rattle.um_refinement.proofs.Erased.{Goes, GoesBy}
use Rattle.um_refinement.proofs.Offered.{IsStep, Shows, act-is, machine-step, own-unless, site-is}
use Rattle.um_refinement.proofs.RowSteps.{named-row, row-says, row-stands, stands-at}
use Rattle.um_refinement.proofs.Says.{left-agrees, live}
use Rattle.um_refinement.proofs.VisitSteps.{Visits, pair-is, visit-act, visit-part, visit-runs, visit-shows, visit-site}

-- what is known of the machine's permissions: they are of live objects, and each row has a list of holders
pub record Held (m : State) (x who : ℕ) : Type 0 where
  pub lives : pair_at m who x ≡ true → Plain.is_live (object_at m x).status ≡ true
  pub listed : x < length m.pairs

live-not-free : (s : Stage) → is_live s ≡ true → is_free s ≡ false
live-not-free Stage.Free h = absurd (false≢true h)
live-not-free Stage.Live h = refl
live-not-free Stage.Dying h = absurd (false≢true h)
live-not-free Stage.Cleaning h = absurd (false≢true h)

and-true : (a b : Bool) → b ≡ false → (a && not b) ≡ a
and-true true b h = ap not h
and-true false b h = refl

-- whether a drop finds a permission, and what it leaves
abbrev left_by : Bool → Bool → Leftover
left_by there last = if not there then Leftover.NoPair else if last then Leftover.Gone else Leftover.Kept

pub dropped-has : (there last : Bool) → is_dropped (left_by there last) ≡ true → there ≡ true
dropped-has true last h = refl
dropped-has false last h = absurd (false≢true h)

module _ (f : Fine) (m : State) (rel : Rel f m) where
  -- a row whose object is live isn't between its `vacate` and its `recycle`
  live-settled : (x : ℕ) → x < ROWS → Plain.is_live (object_at m x).status ≡ true → vacaters f x ≡ recyclers f x
  live-settled x few lives = by (eq-or-lt_of_le (rel.rows x few).cleaners.order)
    where
      by : (vacaters f x ≡ recyclers f x) ⊎ (vacaters f x < recyclers f x) → vacaters f x ≡ recyclers f x
      by (inl e) = e
      by (inr less) = absurd (true≢false (sym lives ∙ ap Plain.is_live ((rel.rows x few).status.vacated less).1))

  pub left-here : (x who : ℕ) → x < ROWS → Held m x who → left_of (row f x) who ≡ T.dropped m who x
  left-here x who few held = by (pair_at m who x) refl
    where
      same : Plain.has_no_pair (with_pair m who x false) x ≡ list_all not (slice_set (slice_index_or m.pairs x []) who false)
      same = ap (list_all not) (get_or-set_same m.pairs x (slice_set (slice_index_or m.pairs x []) who false) [] held.listed)

      by : (b : Bool) → pair_at m who x ≡ b → left_of (row f x) who ≡ T.dropped m who x
      by true p =
          let s = stands-at f m rel x few (live-settled x few (held.lives p)) in
          let free = live-not-free (row f x).stage (live s ∙ held.lives p) in
          left-agrees who s ((rel.rows x few).pairs.dynamic ∙ and-true (nat_le STATIC_ROWS x) (is_free (row f x).stage) free) held.lives same
      by false p =
          ap (λ b. left_by b (is_last (row f x) who)) (pair-is f m rel x who few ∙ p)
          ∙ sym (ap (λ b. left_by b (nat_le STATIC_ROWS x && Plain.has_no_pair (with_pair m who x false) x)) p)

pub drop-pair-step : {f : Fine} {m : State} {k : ℕ} {e : FineStep} {rest : Steps} {todo : Todos} (who : ThreadIx) (a : Addr) → row_named f.image a < ROWS
    → Held m (row_named f.image a) who.0 → Shows f m k e (Pending.DropPair who a) rest todo
    → IsStep f m k e 0 (Pending.DropPair who a)
drop-pair-step {f} {m} {k} {e} who a few held h =
    let x = row_named f.image a in
    let says = ap (λ act. leftover_in (act_in act)) (row-says h x (shows f.image (f.processors k) (Pending.DropPair who a) e.act) (site-is h) (act-is h)) in
    machine-step h 0 (act-is h) tt
    (ap (Act.DropPair who a) (sym says ∙ (left-here f m h.rel x who.0 few held ∙ ap (T.dropped m who.0) (sym (named-row f m h.rel a)))))

-- what is below a row and isn't due
pub clear-below : (xs : List Bool) (n : ℕ) → ((y : ℕ) → y < n → slice_index_or xs y false ≡ false) → list_all not (take n xs) ≡ true
clear-below [] zero h = refl
clear-below [] (suc n) h = refl
clear-below (b ∷ bs) zero h = refl
clear-below (b ∷ bs) (suc n) h = and_from _ _ (not_from_false b (h 0 (omega arith))) (clear-below bs n (λ y l. h (suc y) (omega (arith, l))))

module _ {f : Fine} {m : State} {k : ℕ} {e : FineStep} {x : ℕ} {step : Todo} {todo : Todos} (h : Visits f m k e x step todo) where
  -- what a dropped permission leaves is what the word of the row tells
  pub left-there : (who : ℕ) → e.site ≡ Site.row x → e.act ≡ by_me f.image (f.processors k) (Act.DropPair (to_thread who) (address_of f.image x) (leftover_in (act_in e.act)))
      → left_of (row f x) who ≡ leftover_in (act_in e.act)
  left-there who site said =
      let act = Act.DropPair (to_thread who) (address_of f.image x) (leftover_in (act_in e.act)) in
      ap (λ z. leftover_in (act_in z))
      (subst (λ (s : SiteState). site_answers f.image s e.moved (by_me f.image (f.processors k) act) ≡ by_me f.image (f.processors k) act) (row-stands f m h.rel x)
      (subst (λ (z : Site × FineAct). site_answers f.image (f.sites z.0) e.moved z.1 ≡ z.1) (λ j. (site j, said j)) (ap (λ (s : FineStep). s.act) h.taken.filled_in)))

module _ {f : Fine} {m : State} {k : ℕ} {e : FineStep} {x : ℕ} {todo : Todos} (h : Visits f m k e x (Todo.drop x) todo) where
  drop-fits : Drops f.image (f.processors k).context todo
  drop-fits = subst (Fits f.image (f.processors k).context) h.at (h.rel.processors k h.there).list.fits

  pub due-below : (y : ℕ) → y < x → slice_index_or (thread_at m (f.processors k).context.thread).due y false ≡ false
  due-below y less = by (slice_index_or (thread_at m (f.processors k).context.thread).due y false) refl
    where
      by : (b : Bool) → slice_index_or (thread_at m (f.processors k).context.thread).due y false ≡ b → b ≡ false
      by false d = refl
      by true d =
          let least = (h.rel.processors k h.there).dues.passes (visit-runs h (λ hand. hand)) (ap is_visiting drop-fits.pending) y d in
          let here : visited (f.processors k).todo ≡ x = ap visited h.at in absurd (omega (arith, least, here, less))

  pub drop-step : Held m x (f.processors k).context.thread
      → (from : ℕ) × (rest : Steps) × ((f.processors k).context.pending ≡ Pending.Drops from ∷ rest) × Goes m e (T.after m (f.processors k).context.thread x (Pending.Drops from) rest)
  drop-step held =
      let t = (f.processors k).context.thread in
      let act = Act.DropPair (to_thread t) (address_of f.image x) (leftover_in (act_in e.act)) in
      let said = visit-shows h act (visit-act h) in
      let left = left-there h t (visit-site h) said in
      let fit : is_dropped (leftover_in (act_in e.act)) ≡ true = drop-found in
      let there : has (row f x) t ≡ true = dropped-has (has (row f x) t) (is_last (row f x) t) (ap is_dropped left ∙ fit) in
      let dues = (h.rel.processors k h.there).dues in
      let own = own-unless ((visit-part h (λ hand. hand)).of (drops-on f.image (f.processors k).context todo drop-fits)) (ap waits drop-fits.pending) in
      let least : drop-fits.from ≤ x =
      (let low = dues.drops drop-fits.from (drop-fits.step ∷ drop-fits.rest) (visit-runs h (λ hand. hand)) drop-fits.pending in
      let at : visited (f.processors k).todo ≡ x = ap visited h.at in omega (arith, low, at)) in (
        drop-fits.from,
        drop-fits.step ∷ drop-fits.rest,
        drop-fits.pending,
        subst (λ a. GoesBy m a (T.after m t x (Pending.Drops drop-fits.from) (drop-fits.step ∷ drop-fits.rest))) (sym said)
            (record {
              step = Pending.Drops drop-fits.from;
              rest = drop-fits.step ∷ drop-fits.rest;
              row = x;
              offered = goes (sym (ap (λ (z : Thread). z.pending) own) ∙ drop-fits.pending);
              chosen = (least, sym (pair-is f m h.rel x t h.few) ∙ there, clear-below (thread_at m t).due x due-below);
              says = (λ i. Act.DropPair (to_thread t) (address_of (sym h.rel.image i) x) ((sym left ∙ left-here f m h.rel x t h.few held) i));
              leaves = refl;
            }),
      )
    where
      drop-found : is_dropped (leftover_in (act_in e.act)) ≡ true
      drop-found =
          sym (ap (λ b. if b then not (has (row_in e.word) (f.processors k).context.thread) else is_dropped (leftover_in (act_in e.act))) h.shown)
          ∙ (and_parts _ _ (subst (λ (l : Todos). fits f.image (f.processors k) l e ≡ true) h.at h.may.fit)).0
