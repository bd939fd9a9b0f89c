-- Lists by what stands at each number, and what the cells of the scheduler and the heap keep of all threads and all objects.
use Rattle.std.proofs.Common.{◌≡◌, ◌<◌, ◌≤◌, ◌+◌, ◌-◌, ◌++◌, ℕ, ℤ, zero, suc, Bool, true, false, List, [], ◌∷◌, length, length-append, refl, sym, ap, ◌∙◌, subst, append_assoc, arith, drop, map, take, replicate}
use Rattle.std.specs.Prelude.{Option, None, Result, Ok, Err, IfOk, nat_le, slice_get, slice_index_or, slice_set}
use Rattle.std.proofs.lemmas.Bool.{false≢true}
use Rattle.std.proofs.lemmas.List.{drop_all, drop_more, get_or_append_left, get_or-append_right, get_or_push, length-take-le, set-get_or, set_at, take_more}
use borrow.Author.Count.{below_more}
use Rattle.um_base.specs.declared.ask.Told.{Told}
use Rattle.um_base.specs.declared.image.Boot.{Boot}
use Rattle.um_base.specs.declared.image.ObjectDef.{ObjectDef}
use Rattle.um_base.specs.declared.image.Setup.{Setup}
use Rattle.um_base.specs.declared.limits.TheConstants.{ROWS, STATIC_ROWS}
use Rattle.um_machine.specs.declared.contents.Contents.{Contents}
use Rattle.um_machine.specs.declared.object.Cost.{Cost}
use Rattle.um_machine.specs.declared.object.Object.{Object}
use Rattle.um_machine.specs.declared.thread.Thread.{Thread}
use Rattle.um_machine.specs.Run.{is_set_up, objects_from, opening_object, setup_contents}
use Rattle.um_machine.specs.State.{State, is_living, object_at, vacant}
use Rattle.um_fine.specs.Context.{Context, context_of}
use Rattle.um_fine.specs.Cells.{Cell}
use Rattle.um_fine.specs.Opening.{boot_index, count, heap_cell, indexed, parked_if}
use Rattle.um_tables.specs.Parked.{context_at, cut_at, priority_at, resting, scheduler_of, told_at}
use Rattle.um_tables.specs.ObjectCells.{cleared}
use Rattle.um_tables.specs.declared.object_cell.ObjectCell.{ObjectCell}
use Rattle.um_opening.specs.Opened.{heap_of, kept_by, object_of, opened}

-- one more item at the end of a list of items that are as they have to be
pub each-more : {A : Type 0} (P : ℕ → A → Type 0) (d x : A) (xs ys : List A) (n : ℕ) → ys ≡ xs ++ x ∷ [] → length xs ≡ n → P n x
    → ((k : ℕ) → k < n → P k (slice_index_or xs k d)) → (k : ℕ) → k < n + 1 → P k (slice_index_or ys k d)
each-more {A} P d x xs ys n push long here before =
    below_more (λ (k : ℕ). P k (slice_index_or ys k d)) n
    (λ k h. subst (P k) (sym (ap (λ (zs : List A). slice_index_or zs k d) push ∙ get_or_append_left xs (x ∷ []) d k (omega (arith, long, h)))) (before k h))
    (subst (P n) (sym (ap (λ (zs : List A). slice_index_or zs n d) push ∙ get_or_push xs x d n long)) here)

-- what follows of the value of an answer
pub ok-more : {A E : Type 0} (P Q : A → Type 0) → ((x : A) → P x → Q x) → (r : Result A E) → IfOk r P → IfOk r Q
ok-more P Q more (Ok x) p = more x p
ok-more P Q more (Err e) p = tt

-- Flags and counts.

-- flags are taken over one after another
pub flag_more : (xs : List Bool) (n t : ℕ) (d : Bool) → t < n → length xs ≡ n
    → slice_set (take t xs ++ replicate {A = Bool} (n - t) false) t (slice_index_or xs t d) ≡ take (t + 1) xs ++ replicate {A = Bool} (n - (t + 1)) false
flag_more xs n t d h long =
    let b = slice_index_or xs t d in
    let one : n - t ≡ suc (n - (t + 1)) = omega arith in
    let few : length (take t xs) ≡ t = length-take-le t xs (omega arith) in
    ap (λ (k : ℕ). slice_set (take t xs ++ replicate {A = Bool} k false) t b) one
    ∙ set_at (take t xs) false (replicate {A = Bool} (n - (t + 1)) false) b t few
    ∙ sym (ap (λ (ys : List Bool). ys ++ replicate {A = Bool} (n - (t + 1)) false) (take_more xs t d (omega arith))
    ∙ append_assoc (take t xs) (b ∷ []) (replicate {A = Bool} (n - (t + 1)) false))

count-cons : (b : Bool) (bs : List Bool) → count (b ∷ bs) ≡ count (b ∷ []) + count bs
count-cons true bs = omega arith
count-cons false bs = omega arith

pub count_more : {A : Type 0} (f : ℕ → A → Bool) (xs : List A) (t : ℕ) (d : A) → t < length xs
    → count (indexed f t (drop t xs)) ≡ count (f t (slice_index_or xs t d) ∷ []) + count (indexed f (t + 1) (drop (t + 1) xs))
count_more {A} f xs t d h =
    ap (λ (ys : List A). count (indexed f t ys)) (drop_more xs t d h) ∙ count-cons (f t (slice_index_or xs t d)) (indexed f (t + 1) (drop (t + 1) xs))

-- The heap's cell.

-- what is made of the numbers alone
numbers-alone : {A B : Type 0} (f : ℕ → B) (i : ℕ) (xs : List A) (d : A) → indexed (λ n (x : A). f n) i xs ≡ indexed (λ n (x : A). f n) i (replicate (length xs) d)
numbers-alone f i [] d = refl
numbers-alone {A} {B} f i (x ∷ xs) d = ap (λ (ys : List B). f i ∷ ys) (numbers-alone f (i + 1) xs d)

free-rows : (os : List Object) → length os ≡ ROWS → indexed (λ x (o : Object). nat_le STATIC_ROWS x) 0 os ≡ replicate {A = Bool} STATIC_ROWS false ++ replicate {A = Bool} (ROWS - STATIC_ROWS) true
free-rows os all =
    numbers-alone (nat_le STATIC_ROWS) 0 os vacant ∙ ap (λ (n : ℕ). indexed (λ x (o : Object). nat_le STATIC_ROWS x) 0 (replicate n vacant)) all

cost-none : (n : ℕ) → map (λ (o : Object). o.cost) (replicate n vacant) ≡ replicate (length (replicate n vacant)) None
cost-none zero = refl
cost-none (suc n) = ap (λ (cs : List (Option Cost)). None ∷ cs) (cost-none n)

costs-none : (boots : List Boot) (x : ℕ) (os : List ObjectDef) → map (λ (o : Object). o.cost) (objects_from boots x os) ≡ replicate (length (objects_from boots x os)) None
costs-none boots x [] = cost-none (ROWS - x)
costs-none boots x (o ∷ os) = ap (λ (cs : List (Option Cost)). None ∷ cs) (costs-none boots (x + 1) os)

pub heap-is : (s : State) (pools : List ℕ) → pools ≡ s.pools → s.objects ≡ objects_from s.image.boots 0 s.image.objects → length s.objects ≡ ROWS → Cell.heap (heap_of pools) ≡ heap_cell s
heap-is s pools p is all =
    let free = free-rows s.objects all in
    let costs : map (λ (o : Object). o.cost) s.objects ≡ replicate {A = Option Cost} ROWS None =
    ap (map (λ (o : Object). o.cost)) is ∙ costs-none s.image.boots 0 s.image.objects ∙ ap (λ (os : List Object). replicate {A = Option Cost} (length os) None) (sym is)
    ∙ ap (λ (n : ℕ). replicate {A = Option Cost} n None) all in
    λ j. Cell.heap (record { pools = p j; free = sym free j; costs = sym costs j })

-- The objects at the opening.

objects-at : (boots : List Boot) (i : ℕ) (os : List ObjectDef) (x : ℕ) → slice_index_or (objects_from boots i os) x vacant ≡ object_of boots (i + x) (slice_get os x)
objects-at boots i [] x = vacant-at (ROWS - i) x
  where
    vacant-at : (n x : ℕ) → slice_index_or (replicate n vacant) x vacant ≡ vacant
    vacant-at zero x = refl
    vacant-at (suc n) zero = refl
    vacant-at (suc n) (suc x) = vacant-at n x
objects-at boots i (o ∷ os) zero = let e : i ≡ i + 0 = omega arith in ap (λ (n : ℕ). opening_object boots n o) e
objects-at boots i (o ∷ os) (suc x) =
    let e : i + 1 + x ≡ i + suc x = omega arith in objects-at boots (i + 1) os x ∙ ap (λ (n : ℕ). object_of boots n (slice_get os x)) e

-- each row has the object of its description
pub object-is : (s : State) (x : ℕ) → s.objects ≡ objects_from s.image.boots 0 s.image.objects → object_at s x ≡ object_of s.image.boots x (slice_get s.image.objects x)
object-is s x is =
    let e : 0 + x ≡ x = omega arith in
    ap (λ (os : List Object). slice_index_or os x vacant) is ∙ objects-at s.image.boots 0 s.image.objects x
    ∙ ap (λ (n : ℕ). object_of s.image.boots n (slice_get s.image.objects x)) e

-- The scheduler's cell.

parked-all : (i : ℕ) (xs : List Thread) → map context_at (indexed resting i xs) ≡ indexed (λ t (me : Thread). parked_if (is_living me.life) (context_of t me)) i xs
parked-all i [] = refl
parked-all i (x ∷ xs) = ap (λ (cs : List (Option Context)). parked_if (is_living x.life) (context_of i x) ∷ cs) (parked-all (i + 1) xs)

told-none : (i : ℕ) (xs : List Thread) → map told_at (indexed resting i xs) ≡ replicate (length xs) None
told-none i [] = refl
told-none i (x ∷ xs) = ap (λ (ts : List (Option Told)). None ∷ ts) (told-none (i + 1) xs)

noted-all : (i : ℕ) (xs : List Thread) → map priority_at (indexed resting i xs) ≡ map (λ (me : Thread). me.priority) xs
noted-all i [] = refl
noted-all i (x ∷ xs) = ap (λ (ps : List ℤ). x.priority ∷ ps) (noted-all (i + 1) xs)

cuts-none : (i : ℕ) (xs : List Thread) → map cut_at (indexed resting i xs) ≡ replicate (length xs) false
cuts-none i [] = refl
cuts-none i (x ∷ xs) = ap (λ (bs : List Bool). false ∷ bs) (cuts-none (i + 1) xs)

pub scheduler-is : (s : State) (n : ℕ) → length s.threads ≡ n
    → scheduler_of (map (boot_index s) s.image.boots) (indexed resting 0 s.threads) 0 0
    ≡ record {
      ready = map (boot_index s) s.image.boots;
      parked = indexed (λ t (me : Thread). parked_if (is_living me.life) (context_of t me)) 0 s.threads;
      told = replicate n None;
      priorities = map (λ (me : Thread). me.priority) s.threads;
      cuts = replicate n false;
      running = 0;
      owed = 0;
    }
scheduler-is s n long =
    let told : map told_at (indexed resting 0 s.threads) ≡ replicate n None = told-none 0 s.threads ∙ ap (λ (k : ℕ). replicate k None) long in
    let cuts : map cut_at (indexed resting 0 s.threads) ≡ replicate n false = cuts-none 0 s.threads ∙ ap (λ (k : ℕ). replicate {A = Bool} k false) long in
    λ i. record {
      ready = map (boot_index s) s.image.boots;
      parked = parked-all 0 s.threads i;
      told = told i;
      priorities = noted-all 0 s.threads i;
      cuts = cuts i;
      running = 0;
      owed = 0;
    }

-- The cells of objects.

-- an object that isn't set up has no contents
no-contents : (setup : Setup) → is_set_up setup ≡ false → setup_contents setup ≡ Contents.Nothing
no-contents (Setup.Thread index) h = refl
no-contents (Setup.ThreadStack range declared) h = refl
no-contents Setup.Bare h = refl
no-contents setup h = absurd (false≢true (sym h))

-- its cell stays as it was
pub stays_empty : (cells : List ObjectCell) (x : ℕ) (setup : Setup) → is_set_up setup ≡ false → slice_index_or cells x (cleared 0) ≡ cleared 0 → cells ≡ slice_set cells x (opened setup)
stays_empty cells x setup h empty =
    sym (ap (λ (contents : Contents). slice_set cells x (record (cleared 0) { contents = contents })) (no-contents setup h)
    ∙ ap (slice_set cells x) (sym empty) ∙ set-get_or cells x (cleared 0))

pub none-kept : (n : ℕ) → map kept_by (replicate n vacant) ≡ replicate n (cleared 0)
none-kept zero = refl
none-kept (suc n) = ap (λ (cs : List ObjectCell). cleared 0 ∷ cs) (none-kept n)

module _ (boots : List Boot) (objects : List ObjectDef) where
  -- the first x cells are those of described objects, and the others are empty
  pub record AreOpenTo (x : ℕ) (cells : List ObjectCell) : Type 0 where
    pub front : List ObjectCell
    pub cells_are : cells ≡ front ++ replicate (ROWS - x) (cleared 0)
    pub long : length front ≡ x
    pub whole : front ++ map kept_by (objects_from boots x (drop x objects)) ≡ map kept_by (objects_from boots 0 objects)

  pub none-open : (cells : List ObjectCell) → cells ≡ replicate ROWS (cleared 0) → AreOpenTo 0 cells
  none-open cells none = record { front = []; cells_are = none; long = refl; whole = refl }

  -- the next cell is empty
  pub next-empty : (x : ℕ) (cells : List ObjectCell) → AreOpenTo x cells → x < ROWS → slice_index_or cells x (cleared 0) ≡ cleared 0
  next-empty x cells so_far within =
      let one : ROWS - x ≡ suc (ROWS - (x + 1)) = omega arith in
      let first : x - x ≡ 0 = omega arith in
      ap (λ (cs : List ObjectCell). slice_index_or cs x (cleared 0)) so_far.cells_are
      ∙ get_or-append_right so_far.front (replicate (ROWS - x) (cleared 0)) x x (cleared 0) so_far.long (omega arith)
      ∙ ap (λ (k : ℕ). slice_index_or (replicate (ROWS - x) (cleared 0)) k (cleared 0)) first
      ∙ ap (λ (k : ℕ). slice_index_or (replicate k (cleared 0)) 0 (cleared 0)) one

  -- and is written
  pub one-more : (x : ℕ) (cells : List ObjectCell) (d : ObjectDef) (cell : ObjectCell) → AreOpenTo x cells → x < ROWS → x < length objects
      → cell ≡ kept_by (opening_object boots x (slice_index_or objects x d)) → AreOpenTo (x + 1) (slice_set cells x cell)
  one-more x cells d cell so_far within there is =
      let one : ROWS - x ≡ suc (ROWS - (x + 1)) = omega arith in
      let rest = replicate (ROWS - (x + 1)) (cleared 0) in
      let others = map kept_by (objects_from boots (x + 1) (drop (x + 1) objects)) in
      record {
        front = so_far.front ++ cell ∷ [];
        cells_are = ap (λ (cs : List ObjectCell). slice_set cs x cell) so_far.cells_are ∙ ap (λ (k : ℕ). slice_set (so_far.front ++ replicate k (cleared 0)) x cell) one
            ∙ set_at so_far.front (cleared 0) rest cell x so_far.long ∙ sym (append_assoc so_far.front (cell ∷ []) rest);
        long = omega (arith, length-append so_far.front (cell ∷ []), so_far.long);
        whole = append_assoc so_far.front (cell ∷ []) others ∙ ap (λ (c : ObjectCell). so_far.front ++ c ∷ others) is
            ∙ ap (λ (os : List ObjectDef). so_far.front ++ map kept_by (objects_from boots x os)) (sym (drop_more objects x d there)) ∙ so_far.whole;
      }

  -- behind the last one no object is described
  pub all-open : (x : ℕ) (cells : List ObjectCell) → AreOpenTo x cells → length objects ≤ x → cells ≡ map kept_by (objects_from boots 0 objects)
  all-open x cells so_far few =
      so_far.cells_are ∙ ap (λ (cs : List ObjectCell). so_far.front ++ cs) (sym (none-kept (ROWS - x)))
      ∙ ap (λ (os : List ObjectDef). so_far.front ++ map kept_by (objects_from boots x os)) (sym (drop_all x objects few)) ∙ so_far.whole

pub kept-at : (xs : List Object) (x : ℕ) → slice_index_or (map kept_by xs) x (cleared 0) ≡ kept_by (slice_index_or xs x vacant)
kept-at [] x = refl
kept-at (o ∷ xs) zero = refl
kept-at (o ∷ xs) (suc x) = kept-at xs x
