-- The clock's marks: the first of a sort, the least deadline, and how far time is.
use Rattle.std.proofs.Common.{◌≡◌, ℕ, zero, suc, ◌+◌, ◌*◌, ◌<◌, ◌≤◌, Bool, true, false, List, [], ◌∷◌, ◌++◌, length, length-append, drop, take, get_or, Option, Some, None, refl, sym, ap, subst, arith, if◌then◌else◌, slice_set}
use Rattle.std.specs.Prelude.{IsTrue, nat_lt, is_some, unwrap_or}
use Rattle.std.proofs.lemmas.List.{drop_more, get_or_read, take_all, take_more}
use Rattle.std.proofs.Math.Nat.{min-le_left}
use Rattle.um_machine.specs.Time.{least, next_deadline}
use Rattle.um_words.specs.declared.fine.Mark.{Mark}
use Rattle.um_fine.specs.Clock.{Clock, Marked, deadlines, first_due, give_first, is_due, is_unsettled, settle_first}
use Rattle.um_fine.specs.Steps.{Exchange}
use Rattle.um_fine.specs.Clock.{mark_given}
use Rattle.um_tables.specs.Timed.{AllNear, AreNear, given_of}

pub nearer : (now : ℕ) (ms : List Marked) (i d : ℕ) (m : Marked) (behind : Option ℕ) → i < length ms → m ≡ get_or ms i m → d ≡ m.deadline → behind ≡ next_deadline now (deadlines (drop (i + 1) ms))
    → (if nat_lt now d then least d behind else behind) ≡ next_deadline now (deadlines (drop i ms))
nearer now ms i d m behind inside at is h = rw (drop_more ms i m inside, ← at, is, h) refl

-- who is given, where one is or none
pub given-is : (o : Option Marked) (given : ℕ × Mark) → Some given ≡ given_of o → IsTrue (is_some o) × (mark_given o ≡ Exchange.mark given.0 given.1)
given-is None given h = absurd (cc)
given-is (Some m) given h =
    (refl, ap (λ (o : Option (ℕ × Mark)). let g = unwrap_or o given in Exchange.mark g.0 g.1) (sym h))

pub none-given : (o : Option Marked) → None ≡ given_of o → is_some o ≡ false
none-given None h = refl
none-given (Some m) h = absurd (cc)

-- no mark is of this sort
abbrev pub NoneOf : (Marked → Bool) → List Marked → Type 0
NoneOf p [] = Unit {0}
NoneOf p (m ∷ ms) = (p m ≡ false) × NoneOf p ms

none-append : (p : Marked → Bool) (ms others : List Marked) → NoneOf p ms → NoneOf p others → NoneOf p (ms ++ others)
none-append p [] others h k = k
none-append p (m ∷ ms) others h k = (h.0, none-append p ms others h.1 k)

pub none-whole : (p : Marked → Bool) (ms : List Marked) (i : ℕ) → length ms ≤ i → NoneOf p (take i ms) → NoneOf p ms
none-whole p ms i past h = subst (NoneOf p) (take_all i ms past) h

-- the mark that was read at a place stands there
pub same-at : (ms : List Marked) (i : ℕ) (m : Marked) → i < length ms → m ≡ get_or ms i m → (d : Marked) → get_or ms i d ≡ m
same-at ms i m inside is d = sym (get_or_read ms i m inside is d)

-- the first mark that is due stands at a place
pub given-at : (now : ℕ) (ms : List Marked) (i : ℕ) (d : Marked) → i < length ms → NoneOf (is_due now) (take i ms) → is_due now (get_or ms i d) ≡ true
    → (give_first now ms ≡ slice_set ms i (record (get_or ms i d) { given = true })) × (first_due now ms ≡ Some (get_or ms i d))
given-at now [] i d inside none due = absurd (omega arith)
given-at now (m ∷ ms) zero d inside none due = (rw due refl, rw due refl)
given-at now (m ∷ ms) (suc i) d inside none due =
    let within : i < length ms = omega arith in
    let rest = given-at now ms i d within none.1 due in
    (rw none.0 (ap (λ (tail : List Marked). m ∷ tail) rest.0), rw none.0 rest.1)

pub given-none : (now : ℕ) (ms : List Marked) → NoneOf (is_due now) ms → first_due now ms ≡ None
given-none now [] none = refl
given-none now (m ∷ ms) none = rw none.0 (given-none now ms none.1)

pub given-same : (now : ℕ) (ms : List Marked) → NoneOf (is_due now) ms → give_first now ms ≡ ms
given-same now [] none = refl
given-same now (m ∷ ms) none = rw none.0 (ap (λ (tail : List Marked). m ∷ tail) (given-same now ms none.1))

-- the same of the first one with a deadline and a mark that isn't settled
pub settled-at : (deadline : ℕ) (mark : Mark) (ms : List Marked) (i : ℕ) (d : Marked) → i < length ms → NoneOf (is_unsettled deadline mark) (take i ms)
    → is_unsettled deadline mark (get_or ms i d) ≡ true → settle_first deadline mark ms ≡ slice_set ms i (record (get_or ms i d) { settled = true })
settled-at deadline mark [] i d inside none is = absurd (omega arith)
settled-at deadline mark (m ∷ ms) zero d inside none is = rw is refl
settled-at deadline mark (m ∷ ms) (suc i) d inside none is =
    let within : i < length ms = omega arith in
    rw none.0 (ap (λ (tail : List Marked). m ∷ tail) (settled-at deadline mark ms i d within none.1 is))

pub settled-none : (deadline : ℕ) (mark : Mark) (ms : List Marked) → NoneOf (is_unsettled deadline mark) ms → settle_first deadline mark ms ≡ ms
settled-none deadline mark [] none = refl
settled-none deadline mark (m ∷ ms) none = rw none.0 (ap (λ (tail : List Marked). m ∷ tail) (settled-none deadline mark ms none.1))

-- one more mark isn't of a sort
pub none-more : (p : Marked → Bool) (ms : List Marked) (i : ℕ) (d : Marked) → i < length ms → NoneOf p (take i ms) → p (get_or ms i d) ≡ false
    → NoneOf p (take (i + 1) ms)
none-more p ms i d inside none other =
    rw (take_more ms i d inside) (none-append p (take i ms) (get_or ms i d ∷ []) none (other, tt))

-- How far deadlines are: none is lost as more are armed, settled or given.
pub near-more : (n : ℕ) (ms : List Marked) → AllNear n ms → AllNear (n + 1) ms
near-more n [] h = tt
near-more n (m ∷ ms) h = let first = h.0 in (omega (arith, first), near-more n ms h.1)

pub near-given : (now n : ℕ) (ms : List Marked) → AllNear n ms → AllNear n (give_first now ms) × (length (give_first now ms) ≡ length ms)
near-given now n [] h = (tt, refl)
near-given now n (m ∷ ms) h = by (near-given now n ms h.1) (is_due now m)
  where
    by : AllNear n (give_first now ms) × (length (give_first now ms) ≡ length ms) → (b : Bool)
        → let left = if b then record m { given = true } ∷ ms else m ∷ give_first now ms in AllNear n left × (length left ≡ length (m ∷ ms))
    by rest true = (h, refl)
    by rest false = ((h.0, rest.0), ap (λ (k : ℕ). suc k) rest.1)

pub near-settled : (deadline : ℕ) (mark : Mark) (n : ℕ) (ms : List Marked) → AllNear n ms
    → AllNear n (settle_first deadline mark ms) × (length (settle_first deadline mark ms) ≡ length ms)
near-settled deadline mark n [] h = (tt, refl)
near-settled deadline mark n (m ∷ ms) h = by (near-settled deadline mark n ms h.1) (is_unsettled deadline mark m)
  where
    by : AllNear n (settle_first deadline mark ms) × (length (settle_first deadline mark ms) ≡ length ms) → (b : Bool)
        → let left = if b then record m { settled = true } ∷ ms else m ∷ settle_first deadline mark ms in AllNear n left × (length left ≡ length (m ∷ ms))
    by rest true = (h, refl)
    by rest false = ((h.0, rest.0), ap (λ (k : ℕ). suc k) rest.1)

-- the next deadline is no further
Within : ℕ → Option ℕ → Type 0
Within n None = Unit {0}
Within n (Some d) = d ≤ n

within-least : (n d : ℕ) (o : Option ℕ) → d ≤ n → Within n o → Within n (least d o)
unfolding Within
within-least n d None h k = h
within-least n d (Some e) h k = let less = min-le_left d e in omega (arith, less)

within-next : (n now : ℕ) (ms : List Marked) → AllNear n ms → Within (n * 4294967296) (next_deadline now (deadlines ms))
unfolding Within
within-next n now [] h = tt
within-next n now (m ∷ ms) h = by (within-next n now ms h.1) (nat_lt now m.deadline)
  where
    by : Within (n * 4294967296) (next_deadline now (deadlines ms)) → (b : Bool) → Within (n * 4294967296) (if b then least m.deadline (next_deadline now (deadlines ms)) else next_deadline now (deadlines ms))
    by rest true = within-least (n * 4294967296) m.deadline (next_deadline now (deadlines ms)) h.0 rest
    by rest false = rest

pub near-next : (n now d : ℕ) (ms : List Marked) → AllNear n ms → Some d ≡ next_deadline now (deadlines ms) → d ≤ n * 4294967296
unfolding Within
near-next n now d ms h e = subst (Within (n * 4294967296)) (sym e) (within-next n now ms h)

near-append : (n : ℕ) (ms others : List Marked) → AllNear n ms → AllNear n others → AllNear n (ms ++ others)
near-append n [] others h k = k
near-append n (m ∷ ms) others h k = (h.0, near-append n ms others h.1 k)

-- Clocks.

pub armed-near : (c : Clock) (m : Marked) → AreNear c → m.deadline ≤ c.now + 4294967295 → AreNear (record c { marks = c.marks ++ m ∷ [] })
armed-near c m h k =
    let long : length (c.marks ++ m ∷ []) ≡ length c.marks + 1 = length-append c.marks (m ∷ []) in
    let all = near-append (length c.marks + 1) c.marks (m ∷ []) (near-more (length c.marks) c.marks h.1) (let now = h.0 in omega (arith, now, k), tt) in
    rw long (let now = h.0 in omega (arith, now), all)

pub given-near : (c : Clock) → AreNear c → AreNear (record c { marks = give_first c.now c.marks })
given-near c h = let left = near-given c.now (length c.marks) c.marks h.1 in rw left.1 (h.0, left.0)

pub settled-near : (c : Clock) (deadline : ℕ) (mark : Mark) → AreNear c → AreNear (record c { marks = settle_first deadline mark c.marks })
settled-near c deadline mark h = let left = near-settled deadline mark (length c.marks) c.marks h.1 in rw left.1 (h.0, left.0)

pub ticked-near : (c : Clock) (next : ℕ) → AreNear c → Some next ≡ next_deadline c.now (deadlines c.marks) → AreNear (record c { now = next })
ticked-near c next h is = (near-next (length c.marks) c.now next c.marks h.1 is, h.1)

-- marks that are written back over the first so many
pub take-front : (ms rest : List Marked) → take (length ms) (ms ++ rest) ≡ ms
take-front [] rest = refl
take-front (m ∷ ms) rest = ap (λ (all : List Marked). m ∷ all) (take-front ms rest)
