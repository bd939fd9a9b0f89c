-- The clock's marks of a sort by their places: what is found among them, and what a change of one mark leaves of them.
use Rattle.std.proofs.Common.{◌≡◌, ℕ, zero, suc, ◌+◌, ◌<◌, ◌≤◌, Bool, true, false, List, [], ◌∷◌, ◌++◌, length, take, get_or, Option, Some, None, refl, sym, ap, ◌∙◌, subst, arith, if◌then◌else◌, slice_set}
use Rattle.std.specs.Prelude.{◌&&◌, filter, remove, nat_lt, nat_le, not}
use Rattle.std.proofs.lemmas.Bool.{le-ltb, leb-true, ltb-true}
use Rattle.std.proofs.Math.Bool.{true≢false}
use Rattle.std.proofs.Math.Nat.{le-min}
use Rattle.um_machine.specs.Time.{least, next_deadline}
use Rattle.um_words.specs.declared.fine.Mark.{Mark}
use Rattle.um_fine.specs.Clock.{Clock, Marked, deadlines, give_first, is_due, is_unsettled, settle_first}
use Rattle.um_tables.specs.Timed.{HaveCome, IsListed, not_settled, not_given, places}
use Rattle.um_tables.proofs.Timing.{NoneOf, armed-near, given-near, settled-near, take-front, ticked-near}

-- the place of the j-th mark of a sort: that of the first mark, if it is of the sort and j is 0, and else one behind it
abbrev pub place_from : Bool → ℕ → (ℕ → ℕ) → ℕ
place_from true zero behind = 0
place_from true (suc j) behind = suc (behind j)
place_from false j behind = suc (behind j)

abbrev pub place_of : (Marked → Bool) → List Marked → ℕ → ℕ
place_of p [] j = 0
place_of p (m ∷ ms) j = place_from (p m) j (place_of p ms)

-- there are as many places as marks of the sort, and no more than marks
pub places-long : (p : Marked → Bool) (k : ℕ) (ms : List Marked) → length (places p k ms) ≡ length (filter p ms)
places-long p k [] = refl
places-long p k (m ∷ ms) = by (places-long p (k + 1) ms) (p m)
  where
    by : length (places p (k + 1) ms) ≡ length (filter p ms) → (b : Bool)
        → length (if b then k ∷ places p (k + 1) ms else places p (k + 1) ms) ≡ length (if b then m ∷ filter p ms else filter p ms)
    by rest true = ap (λ (n : ℕ). suc n) rest
    by rest false = rest

pub places-few : (p : Marked → Bool) (k : ℕ) (ms : List Marked) → length (places p k ms) ≤ length ms
places-few p k [] = omega arith
places-few p k (m ∷ ms) = by (places-few p (k + 1) ms) (p m)
  where
    by : length (places p (k + 1) ms) ≤ length ms → (b : Bool) → length (if b then k ∷ places p (k + 1) ms else places p (k + 1) ms) ≤ suc (length ms)
    by rest true = omega (arith, rest)
    by rest false = omega (arith, rest)

-- the j-th place is that of the j-th mark of the sort
pub places-at : (p : Marked → Bool) (k : ℕ) (ms : List Marked) (j d : ℕ) → j < length (places p k ms) → get_or (places p k ms) j d ≡ k + place_of p ms j
places-at p k [] j d inside = absurd (omega (arith, inside))
places-at p k (m ∷ ms) j d inside = by (p m) j (λ i l. places-at p (k + 1) ms i d l) inside
  where
    by : (b : Bool) (i : ℕ) → ((n : ℕ) → n < length (places p (k + 1) ms) → get_or (places p (k + 1) ms) n d ≡ (k + 1) + place_of p ms n)
        → i < length (if b then k ∷ places p (k + 1) ms else places p (k + 1) ms)
        → get_or (if b then k ∷ places p (k + 1) ms else places p (k + 1) ms) i d ≡ k + place_from b i (place_of p ms)
    by true zero rest l = omega arith
    by true (suc i) rest l = let next = rest i (omega (arith, l)) in omega (arith, next)
    by false i rest l = let next = rest i l in omega (arith, next)

pub place-inside : (p : Marked → Bool) (ms : List Marked) (j : ℕ) → j < length (filter p ms) → place_of p ms j < length ms
place-inside p [] j inside = absurd (omega (arith, inside))
place-inside p (m ∷ ms) j inside = by (p m) j (λ i l. place-inside p ms i l) inside
  where
    by : (b : Bool) (i : ℕ) → ((n : ℕ) → n < length (filter p ms) → place_of p ms n < length ms)
        → i < length (if b then m ∷ filter p ms else filter p ms) → place_from b i (place_of p ms) < suc (length ms)
    by true zero rest l = omega arith
    by true (suc i) rest l = let next = rest i (omega (arith, l)) in omega (arith, next)
    by false i rest l = let next = rest i l in omega (arith, next)

pub place-read : (p : Marked → Bool) (ms : List Marked) (j : ℕ) (d : Marked) → j < length (filter p ms) → get_or (filter p ms) j d ≡ get_or ms (place_of p ms j) d
place-read p [] j d inside = absurd (omega (arith, inside))
place-read p (m ∷ ms) j d inside = by (p m) j (λ i l. place-read p ms i d l) inside
  where
    by : (b : Bool) (i : ℕ) → ((n : ℕ) → n < length (filter p ms) → get_or (filter p ms) n d ≡ get_or ms (place_of p ms n) d)
        → i < length (if b then m ∷ filter p ms else filter p ms)
        → get_or (if b then m ∷ filter p ms else filter p ms) i d ≡ get_or (m ∷ ms) (place_from b i (place_of p ms)) d
    by true zero rest l = refl
    by true (suc i) rest l = rest i (omega (arith, l))
    by false i rest l = rest i l

-- What only marks of a sort can be, no mark is before a place, if no mark of the sort before it is.
pub none-between : (p q : Marked → Bool) → ((m : Marked) → p m ≡ false → q m ≡ false) → (ms : List Marked) (j : ℕ) → NoneOf q (take j (filter p ms))
    → NoneOf q (take (place_of p ms j) ms)
none-between p q only [] j none = tt
none-between p q only (m ∷ ms) j none = by (p m) refl j (λ i h. none-between p q only ms i h) none
  where
    by : (b : Bool) → p m ≡ b → (i : ℕ) → ((n : ℕ) → NoneOf q (take n (filter p ms)) → NoneOf q (take (place_of p ms n) ms))
        → NoneOf q (take i (if b then m ∷ filter p ms else filter p ms)) → NoneOf q (take (place_from b i (place_of p ms)) (m ∷ ms))
    by true is zero rest h = tt
    by true is (suc i) rest h = (h.0, rest i h.1)
    by false is i rest h = (only m is, rest i h)

pub none-outside : (p q : Marked → Bool) → ((m : Marked) → p m ≡ false → q m ≡ false) → (ms : List Marked) → NoneOf q (filter p ms) → NoneOf q ms
none-outside p q only [] none = tt
none-outside p q only (m ∷ ms) none = by (p m) refl (λ h. none-outside p q only ms h) none
  where
    by : (b : Bool) → p m ≡ b → (NoneOf q (filter p ms) → NoneOf q ms) → NoneOf q (if b then m ∷ filter p ms else filter p ms) → NoneOf q (m ∷ ms)
    by true is rest h = (h.0, rest h.1)
    by false is rest h = (only m is, rest h)

-- Where the j-th mark of a sort is no longer of it, its place goes.
pub places-removed : (p : Marked → Bool) (other : Marked) → p other ≡ false → (k : ℕ) (ms : List Marked) (j : ℕ) → j < length (filter p ms)
    → remove (places p k ms) j ≡ places p k (slice_set ms (place_of p ms j) other)
places-removed p other gone k [] j inside = absurd (omega (arith, inside))
places-removed p other gone k (m ∷ ms) j inside = by (p m) refl j (λ i l. places-removed p other gone (k + 1) ms i l) inside
  where
    by : (b : Bool) → p m ≡ b → (i : ℕ)
        → ((n : ℕ) → n < length (filter p ms) → remove (places p (k + 1) ms) n ≡ places p (k + 1) (slice_set ms (place_of p ms n) other))
        → i < length (if b then m ∷ filter p ms else filter p ms)
        → remove (if b then k ∷ places p (k + 1) ms else places p (k + 1) ms) i ≡ places p k (slice_set (m ∷ ms) (place_from b i (place_of p ms)) other)
    by true is zero rest l = rw gone refl
    by true is (suc i) rest l = rw is (ap (λ (ks : List ℕ). k ∷ ks) (rest i (omega (arith, l))))
    by false is i rest l = rw is (rest i l)

-- Where one more mark of the sort is armed, its place comes last.
pub places-more : (p : Marked → Bool) (other : Marked) → p other ≡ true → (k : ℕ) (ms : List Marked)
    → places p k ms ++ (k + length ms) ∷ [] ≡ places p k (ms ++ other ∷ [])
places-more p other is k [] = rw is (let same : k + 0 ≡ k = omega arith in ap (λ (n : ℕ). n ∷ []) same)
places-more p other is k (m ∷ ms) = by (places-more p other is (k + 1) ms) (p m)
  where
    shifted : (k + 1) + length ms ≡ k + suc (length ms)
    shifted = omega arith

    by : places p (k + 1) ms ++ ((k + 1) + length ms) ∷ [] ≡ places p (k + 1) (ms ++ other ∷ []) → (b : Bool)
        → (if b then k ∷ places p (k + 1) ms else places p (k + 1) ms) ++ (k + suc (length ms)) ∷ []
        ≡ (if b then k ∷ places p (k + 1) (ms ++ other ∷ []) else places p (k + 1) (ms ++ other ∷ []))
    by rest true = ap (λ (ks : List ℕ). k ∷ ks) (ap (λ (n : ℕ). places p (k + 1) ms ++ n ∷ []) (sym shifted) ∙ rest)
    by rest false = ap (λ (n : ℕ). places p (k + 1) ms ++ n ∷ []) (sym shifted) ∙ rest

-- who isn't ungiven isn't due, and who isn't unsettled isn't to be settled
pub given-due : (now : ℕ) (m : Marked) → not_given m ≡ false → is_due now m ≡ false
given-due now m is = by (nat_le m.deadline now) m.settled m.given is
  where
    by : (a b g : Bool) → not g ≡ false → (a && b && not g) ≡ false
    by true true g isnt = isnt
    by true false g isnt = refl
    by false b g isnt = refl

pub settled-same : (deadline : ℕ) (mark : Mark) (m : Marked) → not_settled m ≡ false → is_unsettled deadline mark m ≡ false
settled-same deadline mark m is = rw is refl

-- a mark that is given is settled as before, and one that is settled is given as before
pub given-unsettled : (now k : ℕ) (ms : List Marked) → places not_settled k (give_first now ms) ≡ places not_settled k ms
given-unsettled now k [] = refl
given-unsettled now k (m ∷ ms) = by (given-unsettled now (k + 1) ms) (is_due now m)
  where
    by : places not_settled (k + 1) (give_first now ms) ≡ places not_settled (k + 1) ms → (b : Bool)
        → places not_settled k (if b then record m { given = true } ∷ ms else m ∷ give_first now ms) ≡ places not_settled k (m ∷ ms)
    by rest true = refl
    by rest false = ap (λ (ks : List ℕ). if not_settled m then k ∷ ks else ks) rest

pub settled-ungiven : (deadline : ℕ) (mark : Mark) (k : ℕ) (ms : List Marked) → places not_given k (settle_first deadline mark ms) ≡ places not_given k ms
settled-ungiven deadline mark k [] = refl
settled-ungiven deadline mark k (m ∷ ms) = by (settled-ungiven deadline mark (k + 1) ms) (is_unsettled deadline mark m)
  where
    by : places not_given (k + 1) (settle_first deadline mark ms) ≡ places not_given (k + 1) ms → (b : Bool)
        → places not_given k (if b then record m { settled = true } ∷ ms else m ∷ settle_first deadline mark ms) ≡ places not_given k (m ∷ ms)
    by rest true = refl
    by rest false = ap (λ (ks : List ℕ). if not_given m then k ∷ ks else ks) rest

-- The deadlines of marks that are given.
due-come : (now : ℕ) (m : Marked) → is_due now m ≡ true → m.deadline ≤ now
due-come now m due = by (nat_le m.deadline now) refl due
  where
    by : (a : Bool) → nat_le m.deadline now ≡ a → (a && m.settled && not m.given) ≡ true → m.deadline ≤ now
    by true is h = leb-true m.deadline now is
    by false is h = absurd (true≢false (sym h))

pub come-more : (now : ℕ) (ms : List Marked) (m : Marked) → m.given ≡ false → HaveCome now ms → HaveCome now (ms ++ m ∷ [])
come-more now [] m isnt h = ((λ is. absurd (true≢false (sym is ∙ isnt))), tt)
come-more now (n ∷ ms) m isnt h = (h.0, come-more now ms m isnt h.1)

pub come-later : (now next : ℕ) (ms : List Marked) → now ≤ next → HaveCome now ms → HaveCome next ms
come-later now next [] on h = tt
come-later now next (m ∷ ms) on h = ((λ is. let past = h.0 is in omega (arith, past, on)), come-later now next ms on h.1)

pub come-given : (now : ℕ) (ms : List Marked) → HaveCome now ms → HaveCome now (give_first now ms)
come-given now [] h = tt
come-given now (m ∷ ms) h = by (come-given now ms h.1) (is_due now m) refl
  where
    by : HaveCome now (give_first now ms) → (b : Bool) → is_due now m ≡ b → HaveCome now (if b then record m { given = true } ∷ ms else m ∷ give_first now ms)
    by rest true due = ((λ is. due-come now m due), h.1)
    by rest false due = (h.0, rest)

pub come-settled : (now deadline : ℕ) (mark : Mark) (ms : List Marked) → HaveCome now ms → HaveCome now (settle_first deadline mark ms)
come-settled now deadline mark [] h = tt
come-settled now deadline mark (m ∷ ms) h = by (come-settled now deadline mark ms h.1) (is_unsettled deadline mark m)
  where
    by : HaveCome now (settle_first deadline mark ms) → (b : Bool) → HaveCome now (if b then record m { settled = true } ∷ ms else m ∷ settle_first deadline mark ms)
    by rest true = (h.0, h.1)
    by rest false = (h.0, rest)

-- The next deadline is one of a mark that isn't given, and lies ahead.
pub next-ungiven : (now : ℕ) (ms : List Marked) → HaveCome now ms → next_deadline now (deadlines (filter not_given ms)) ≡ next_deadline now (deadlines ms)
next-ungiven now [] h = refl
next-ungiven now (m ∷ ms) h = by (next-ungiven now ms h.1) m.given h.0
  where
    by : next_deadline now (deadlines (filter not_given ms)) ≡ next_deadline now (deadlines ms) → (g : Bool) → (g ≡ true → m.deadline ≤ now)
        → next_deadline now (deadlines (if not g then m ∷ filter not_given ms else filter not_given ms)) ≡ next_deadline now (deadlines (m ∷ ms))
    by rest true come = rest ∙ rw (le-ltb now m.deadline (come refl)) refl
    by rest false come = ap (λ (o : Option ℕ). if nat_lt now m.deadline then least m.deadline o else o) rest

Beyond : ℕ → Option ℕ → Type 0
Beyond n None = Unit {0}
Beyond n (Some d) = n ≤ d

beyond-least : (n d : ℕ) (o : Option ℕ) → n ≤ d → Beyond n o → Beyond n (least d o)
unfolding Beyond
beyond-least n d None h k = h
beyond-least n d (Some e) h k = le-min h k

beyond-next : (now : ℕ) (ms : List Marked) → Beyond now (next_deadline now (deadlines ms))
unfolding Beyond
beyond-next now [] = tt
beyond-next now (m ∷ ms) = by (beyond-next now ms) (nat_lt now m.deadline) refl
  where
    by : Beyond now (next_deadline now (deadlines ms)) → (b : Bool) → nat_lt now m.deadline ≡ b
        → Beyond now (if b then least m.deadline (next_deadline now (deadlines ms)) else next_deadline now (deadlines ms))
    by rest true is = let ahead = ltb-true now m.deadline is in beyond-least now m.deadline (next_deadline now (deadlines ms)) (omega (arith, ahead)) rest
    by rest false is = rest

pub next-ahead : (now d : ℕ) (ms : List Marked) → Some d ≡ next_deadline now (deadlines ms) → now ≤ d
unfolding Beyond
next-ahead now d ms e = subst (Beyond now) (sym e) (beyond-next now ms)

-- A list that is that of the places of a sort.
pub listed-long : (p : Marked → Bool) (ms : List Marked) (ks : List ℕ) → ks ≡ places p 0 ms → length ks ≡ length (filter p ms)
listed-long p ms ks is = ap (λ (all : List ℕ). length all) is ∙ places-long p 0 ms

pub listed-few : (p : Marked → Bool) (ms : List Marked) (ks : List ℕ) → ks ≡ places p 0 ms → length ks ≤ length ms
listed-few p ms ks is = let few = places-few p 0 ms in let long = ap (λ (all : List ℕ). length all) is in omega (arith, few, long)

pub listed-at : (p : Marked → Bool) (ms : List Marked) (ks : List ℕ) (j d : ℕ) → ks ≡ places p 0 ms → j < length ks → get_or ks j d ≡ place_of p ms j
listed-at p ms ks j d is inside =
    let within : j < length (places p 0 ms) = subst (λ (all : List ℕ). j < length all) is inside in
    let first : 0 + place_of p ms j ≡ place_of p ms j = omega arith in
    ap (λ (all : List ℕ). get_or all j d) is ∙ places-at p 0 ms j d within ∙ first

-- What stands at the place of the j-th mark of a sort.
pub at-inside : (p : Marked → Bool) (ms : List Marked) (j i : ℕ) → j < length (filter p ms) → i ≡ place_of p ms j → i < length ms
at-inside p ms j i inside at = let place = place-inside p ms j inside in omega (arith, at, place)

pub at-read : (p : Marked → Bool) (ms : List Marked) (j i : ℕ) (m : Marked) → j < length (filter p ms) → i ≡ place_of p ms j → get_or (filter p ms) j m ≡ get_or ms i m
at-read p ms j i m inside at = place-read p ms j m inside ∙ ap (λ (n : ℕ). get_or ms n m) (sym at)

pub at-none : (p q : Marked → Bool) → ((m : Marked) → p m ≡ false → q m ≡ false) → (ms : List Marked) (j i : ℕ) → i ≡ place_of p ms j
    → NoneOf q (take j (filter p ms)) → NoneOf q (take i ms)
at-none p q only ms j i at none = subst (λ (n : ℕ). NoneOf q (take n ms)) (sym at) (none-between p q only ms j none)

pub at-removed : (p : Marked → Bool) (other : Marked) → p other ≡ false → (ms : List Marked) (ks : List ℕ) (j i : ℕ) → ks ≡ places p 0 ms → j < length (filter p ms) → i ≡ place_of p ms j
    → remove ks j ≡ places p 0 (slice_set ms i other)
at-removed p other gone ms ks j i is inside at =
    ap (λ (all : List ℕ). remove all j) is ∙ places-removed p other gone 0 ms j inside ∙ ap (λ (n : ℕ). places p 0 (slice_set ms n other)) (sym at)

-- Clocks.

pub opened-listed : (most ungiven_most unsettled_most : ℕ) → most ≤ ungiven_most → most ≤ unsettled_most → IsListed (record { now = 0; marks = [] }) [] [] most ungiven_most unsettled_most
opened-listed most ungiven_most unsettled_most h k = record {
  near = (omega arith, tt);
  come = tt;
  lists_ungiven = refl;
  lists_unsettled = refl;
  ungiven_room = h;
  unsettled_room = k;
}

pub armed-listed : (c : Clock) (ungiven unsettled : List ℕ) (most ungiven_most unsettled_most : ℕ) (m : Marked) → IsListed c ungiven unsettled most ungiven_most unsettled_most → m.deadline ≤ c.now + 4294967295
    → m.settled ≡ false → m.given ≡ false → IsListed (record c { marks = c.marks ++ m ∷ [] }) (ungiven ++ length c.marks ∷ []) (unsettled ++ length c.marks ∷ []) most ungiven_most unsettled_most
armed-listed c ungiven unsettled most ungiven_most unsettled_most m h soon new_s new_g =
    let last : length c.marks ≡ 0 + length c.marks = omega arith in record {
      near = armed-near c m h.near soon;
      come = come-more c.now c.marks m new_g h.come;
      lists_ungiven =
          ap (λ (ks : List ℕ). ks ++ length c.marks ∷ []) h.lists_ungiven ∙ ap (λ (n : ℕ). places not_given 0 c.marks ++ n ∷ []) last
          ∙ places-more not_given m (ap (λ (b : Bool). not b) new_g) 0 c.marks;
      lists_unsettled =
          ap (λ (ks : List ℕ). ks ++ length c.marks ∷ []) h.lists_unsettled ∙ ap (λ (n : ℕ). places not_settled 0 c.marks ++ n ∷ []) last
          ∙ places-more not_settled m (ap (λ (b : Bool). not b) new_s) 0 c.marks;
      ungiven_room = h.ungiven_room;
      unsettled_room = h.unsettled_room;
    }

pub given-listed : (c : Clock) (ungiven unsettled rest : List ℕ) (most ungiven_most unsettled_most : ℕ) → IsListed c ungiven unsettled most ungiven_most unsettled_most → rest ≡ places not_given 0 (give_first c.now c.marks)
    → IsListed (record c { marks = give_first c.now c.marks }) rest unsettled most ungiven_most unsettled_most
given-listed c ungiven unsettled rest most ungiven_most unsettled_most h is = record {
  near = given-near c h.near;
  come = come-given c.now c.marks h.come;
  lists_ungiven = is;
  lists_unsettled = h.lists_unsettled ∙ sym (given-unsettled c.now 0 c.marks);
  ungiven_room = h.ungiven_room;
  unsettled_room = h.unsettled_room;
}

pub settled-listed : (c : Clock) (deadline : ℕ) (mark : Mark) (ungiven unsettled rest : List ℕ) (most ungiven_most unsettled_most : ℕ) → IsListed c ungiven unsettled most ungiven_most unsettled_most
    → rest ≡ places not_settled 0 (settle_first deadline mark c.marks) → IsListed (record c { marks = settle_first deadline mark c.marks }) ungiven rest most ungiven_most unsettled_most
settled-listed c deadline mark ungiven unsettled rest most ungiven_most unsettled_most h is = record {
  near = settled-near c deadline mark h.near;
  come = come-settled c.now deadline mark c.marks h.come;
  lists_ungiven = h.lists_ungiven ∙ sym (settled-ungiven deadline mark 0 c.marks);
  lists_unsettled = is;
  ungiven_room = h.ungiven_room;
  unsettled_room = h.unsettled_room;
}

pub ticked-listed : (c : Clock) (next : ℕ) (ungiven unsettled : List ℕ) (most ungiven_most unsettled_most : ℕ) → IsListed c ungiven unsettled most ungiven_most unsettled_most
    → Some next ≡ next_deadline c.now (deadlines c.marks) → IsListed (record c { now = next }) ungiven unsettled most ungiven_most unsettled_most
ticked-listed c next ungiven unsettled most ungiven_most unsettled_most h is = record {
  near = ticked-near c next h.near is;
  come = come-later c.now next c.marks (next-ahead c.now next c.marks is) h.come;
  lists_ungiven = h.lists_ungiven;
  lists_unsettled = h.lists_unsettled;
  ungiven_room = h.ungiven_room;
  unsettled_room = h.unsettled_room;
}

pub same-listed : (time : ℕ) (ms mt : List Marked) (ungiven ungiven_on unsettled unsettled_on : List ℕ) (most most_on ungiven_most ungiven_most_on unsettled_most unsettled_most_on : ℕ)
    → mt ≡ ms → ungiven_on ≡ ungiven → unsettled_on ≡ unsettled → most_on ≡ most → ungiven_most_on ≡ ungiven_most → unsettled_most_on ≡ unsettled_most
    → IsListed (record { now = time; marks = ms }) ungiven unsettled most ungiven_most unsettled_most → IsListed (record { now = time; marks = mt }) ungiven_on unsettled_on most_on ungiven_most_on unsettled_most_on
same-listed time ms mt ungiven ungiven_on unsettled unsettled_on most most_on ungiven_most ungiven_most_on unsettled_most unsettled_most_on a b c d e f h = rw (a, b, c, d, e, f) h

-- marks that are written back over the first so many
pub taken-listed : (time n : ℕ) (ms rest : List Marked) (ungiven unsettled : List ℕ) (most ungiven_most unsettled_most : ℕ) → length ms ≡ n
    → IsListed (record { now = time; marks = ms }) ungiven unsettled most ungiven_most unsettled_most → IsListed (record { now = time; marks = take n (ms ++ rest) }) ungiven unsettled most ungiven_most unsettled_most
taken-listed time n ms rest ungiven unsettled most ungiven_most unsettled_most long h =
    subst (λ (all : List Marked). IsListed (record { now = time; marks = all }) ungiven unsettled most ungiven_most unsettled_most)
    (sym (ap (λ (k : ℕ). take k (ms ++ rest)) (sym long) ∙ take-front ms rest)) h
