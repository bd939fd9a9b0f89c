-- The next deadline is the first one of those that lie ahead; arming and ticking keep them.
use Rattle.std.proofs.Common.{◌≡◌, ℕ, zero, suc, ◌+◌, ◌*◌, ◌<◌, ◌≤◌, Bool, true, false, List, [], ◌∷◌, ◌++◌, ◌∙◌, length, get_or, refl, sym, ap, subst, arith, Option, Some, None, if◌then◌else◌}
use Rattle.std.specs.Prelude.{◌==◌, insert, min, nat_lt, remove, slice_get}
use Rattle.std.proofs.lemmas.Bool.{eq-eqb, eqb-false, eqb-true, le-ltb, lt-ltb, ltb-false, ltb-true, ne_eqb}
use Rattle.std.proofs.lemmas.List.{length-append}
use Rattle.std.proofs.Math.Nat.{min-eq_left, min-eq_right, min-le_left, min_comm}
use Rattle.um_machine.specs.Time.{least, next_deadline}
use Rattle.um_matrix.specs.Ahead.{AreAscending, Ascend, IsAhead, with_deadline}

-- The least deadline of some is that of the same in another order.
min-swap : (a b c : ℕ) → min a (min b c) ≡ min b (min a c)
min-swap a b c = omega arith

min-twice : (a c : ℕ) → min a (min a c) ≡ min a c
min-twice a c = min-eq_right (min-le_left a c)

least-swap : (a b : ℕ) (o : Option ℕ) → least a (least b o) ≡ least b (least a o)
least-swap a b None = ap Some (min_comm a b)
least-swap a b (Some c) = ap Some (min-swap a b c)

least-twice : (a : ℕ) (o : Option ℕ) → least a (least a o) ≡ least a o
least-twice a None = ap Some (min-eq_left (omega arith))
least-twice a (Some c) = ap Some (min-twice a c)

next-swap : (now d e : ℕ) (ds : List ℕ) → next_deadline now (d ∷ e ∷ ds) ≡ next_deadline now (e ∷ d ∷ ds)
next-swap now d e ds = by (nat_lt now d) (nat_lt now e) (next_deadline now ds)
  where
    by : (a b : Bool) (o : Option ℕ) → (if a then least d (if b then least e o else o) else if b then least e o else o) ≡ (if b then least e (if a then least d o else o) else if a then least d o else o)
    by true true o = least-swap d e o
    by true false o = refl
    by false true o = refl
    by false false o = refl

next-twice : (now d : ℕ) (ds : List ℕ) → next_deadline now (d ∷ ds) ≡ next_deadline now (d ∷ d ∷ ds)
next-twice now d ds = by (nat_lt now d) (next_deadline now ds)
  where
    by : (a : Bool) (o : Option ℕ) → (if a then least d o else o) ≡ (if a then least d (if a then least d o else o) else if a then least d o else o)
    by true o = sym (least-twice d o)
    by false o = refl

next-behind : (now e : ℕ) (ds es : List ℕ) → next_deadline now ds ≡ next_deadline now es → next_deadline now (e ∷ ds) ≡ next_deadline now (e ∷ es)
next-behind now e ds es same = ap (λ (o : Option ℕ). if nat_lt now e then least e o else o) same

-- The least one of deadlines with one more, at the end or at its place, is that with it in front.
next-last : (now d : ℕ) (ds : List ℕ) → next_deadline now (ds ++ d ∷ []) ≡ next_deadline now (d ∷ ds)
next-last now d [] = refl
next-last now d (e ∷ ds) = next-behind now e (ds ++ d ∷ []) (d ∷ ds) (next-last now d ds) ∙ next-swap now e d ds

next-placed : (now d : ℕ) (ds : List ℕ) → next_deadline now (with_deadline d ds) ≡ next_deadline now (d ∷ ds)
next-placed now d [] = refl
next-placed now d (e ∷ ds) = by (nat_lt e d) (e == d) refl (next-placed now d ds)
  where
    by : (a b : Bool) → (e == d) ≡ b → next_deadline now (with_deadline d ds) ≡ next_deadline now (d ∷ ds)
        → next_deadline now (if a then e ∷ with_deadline d ds else if b then e ∷ ds else d ∷ e ∷ ds) ≡ next_deadline now (d ∷ e ∷ ds)
    by true b is rest = next-behind now e (with_deadline d ds) (d ∷ ds) rest ∙ next-swap now e d ds
    by false true is rest = let same : e ≡ d = eqb-true e d is in subst (λ (n : ℕ). next_deadline now (n ∷ ds) ≡ next_deadline now (d ∷ n ∷ ds)) (sym same) (next-twice now d ds)
    by false false is rest = refl

-- a deadline that has come is none of those ahead
next-passed : (now d : ℕ) (ds : List ℕ) → d ≤ now → next_deadline now (d ∷ ds) ≡ next_deadline now ds
next-passed now d ds come = rw (le-ltb now d come) refl

-- of ascending ones, the first is the least
next-first : (now low most d : ℕ) (ds : List ℕ) → now ≤ low → Ascend low most (d ∷ ds) → next_deadline now (d ∷ ds) ≡ Some d
next-first now low most d [] on up = rw (lt-ltb now d (let ahead = up.0 in omega (arith, on, ahead))) refl
next-first now low most d (e ∷ ds) on up =
    let ahead = up.0 in
    let above = up.2.0 in
    let rest = next-first now d most e ds (omega (arith, on, ahead)) up.2 in
    rw (lt-ltb now d (omega (arith, on, ahead))) (ap (least d) rest ∙ ap Some (min-eq_left (omega (arith, above))))

-- Ascending deadlines with one more, and with room for later ones.
ascend-more : (low most more : ℕ) (ds : List ℕ) → most ≤ more → Ascend low most ds → Ascend low more ds
ascend-more low most more [] on up = tt
ascend-more low most more (d ∷ ds) on up = let below = up.1 in (up.0, omega (arith, below, on), ascend-more d most more ds on up.2)

ascend-placed : (low most d : ℕ) (ds : List ℕ) → low < d → d ≤ most → Ascend low most ds → Ascend low most (with_deadline d ds)
ascend-placed low most d [] above below up = (above, below, tt)
ascend-placed low most d (e ∷ ds) above below up = by (nat_lt e d) (e == d) refl refl (λ less. ascend-placed e most d ds less below up.2)
  where
    by : (a b : Bool) → nat_lt e d ≡ a → (e == d) ≡ b → (e < d → Ascend e most (with_deadline d ds)) → Ascend low most (if a then e ∷ with_deadline d ds else if b then e ∷ ds else d ∷ e ∷ ds)
    by true b less is rest = (up.0, up.1, rest (ltb-true e d less))
    by false true less is rest = up
    by false false less is rest =
        let least_so = ltb-false e d less in
        let other = eqb-false e d is in (above, below, (omega (arith, least_so, other), up.1, up.2))

placed-few : (d : ℕ) (ds : List ℕ) → length (with_deadline d ds) ≤ suc (length ds)
placed-few d [] = omega arith
placed-few d (e ∷ ds) = by (nat_lt e d) (e == d) (placed-few d ds)
  where
    by : (a b : Bool) → length (with_deadline d ds) ≤ suc (length ds) → length (if a then e ∷ with_deadline d ds else if b then e ∷ ds else d ∷ e ∷ ds) ≤ suc (suc (length ds))
    by true b rest = omega (arith, rest)
    by false true rest = omega arith
    by false false rest = omega arith

above-low : (low most : ℕ) (ds : List ℕ) (j : ℕ) → Ascend low most ds → j < length ds → low < get_or ds j 0
above-low low most [] j up inside = absurd (omega (arith, inside))
above-low low most (d ∷ ds) zero up inside = up.0
above-low low most (d ∷ ds) (suc j) up inside =
    let rest = above-low d most ds j up.2 (omega (arith, inside)) in
    let first = up.0 in omega (arith, rest, first)

pub ascending : (low most : ℕ) (ds : List ℕ) → Ascend low most ds → AreAscending ds
ascending low most [] up i j on inside = absurd (omega (arith, inside))
ascending low most (d ∷ ds) up zero zero on inside = omega arith
ascending low most (d ∷ ds) up zero (suc j) on inside = let rest = above-low d most ds j up.2 (omega (arith, inside)) in omega (arith, rest)
ascending low most (d ∷ ds) up (suc i) zero on inside = absurd (omega (arith, on))
ascending low most (d ∷ ds) up (suc i) (suc j) on inside = ascending d most ds up.2 i j (omega (arith, on)) (omega (arith, inside))

-- What a search finds: the deadline itself, or the place behind those below it and before those above it.
pub placed-among : (d : ℕ) (ds : List ℕ) (i : ℕ) → AreAscending ds → i < length ds → get_or ds i 0 ≡ d → with_deadline d ds ≡ ds
placed-among d [] i up inside at = absurd (omega (arith, inside))
placed-among d (e ∷ ds) zero up inside at = rw (le-ltb e d (omega (arith, at)), eq-eqb e d at) refl
placed-among d (e ∷ ds) (suc i) up inside at =
    by (nat_lt e d) refl (placed-among d ds i (λ j k on within. up (suc j) (suc k) (omega (arith, on)) (omega (arith, within))) (omega (arith, inside)) at) (up 0 (suc i) (omega arith) inside)
  where
    by : (b : Bool) → nat_lt e d ≡ b → with_deadline d ds ≡ ds → e ≤ get_or ds i 0 → (if b then e ∷ with_deadline d ds else if e == d then e ∷ ds else d ∷ e ∷ ds) ≡ e ∷ ds
    by true below rest first = ap (λ (es : List ℕ). e ∷ es) rest
    by false below rest first = let least_so = ltb-false e d below in rw (eq-eqb e d (omega (arith, least_so, first, at))) refl

pub placed-between : (d : ℕ) (ds : List ℕ) (i : ℕ) → i ≤ length ds → ((k : ℕ) → k < i → get_or ds k 0 < d) → ((k : ℕ) → i ≤ k → k < length ds → d < get_or ds k 0)
    → with_deadline d ds ≡ insert ds i d
placed-between d [] zero inside below above = refl
placed-between d [] (suc i) inside below above = absurd (omega (arith, inside))
placed-between d (e ∷ ds) zero inside below above =
    let first : d < e = above 0 (omega arith) (omega arith) in rw (le-ltb e d (omega (arith, first)), ne_eqb e d (λ same. omega (arith, first, same))) refl
placed-between d (e ∷ ds) (suc i) inside below above =
    let first : e < d = below 0 (omega arith) in
    rw (lt-ltb e d first)
    (ap (λ (es : List ℕ). e ∷ es)
    (placed-between d ds i (omega (arith, inside)) (λ k l. below (suc k) (omega (arith, l))) (λ k l m. above (suc k) (omega (arith, l)) (omega (arith, m)))))

-- What lies ahead of a moment.
pub opened-ahead : IsAhead 0 [] []
opened-ahead = record { few = omega arith; ascend = tt; same = λ later on. refl }

pub armed-ahead : (now d : ℕ) (armed ahead : List ℕ) → now ≤ length armed * 4294967296 → d ≤ now + 4294967295 → IsAhead now armed ahead
    → IsAhead now (armed ++ d ∷ []) (if nat_lt now d then with_deadline d ahead else ahead)
armed-ahead now d armed ahead soon near is = by (nat_lt now d) refl
  where
    long : length (armed ++ d ∷ []) ≡ length armed + 1
    long = length-append armed (d ∷ [])

    up : Ascend now (length (armed ++ d ∷ []) * 4294967296) ahead
    up = ascend-more now (length armed * 4294967296) (length (armed ++ d ∷ []) * 4294967296) ahead (omega (arith, long)) is.ascend

    by : (b : Bool) → nat_lt now d ≡ b → IsAhead now (armed ++ d ∷ []) (if b then with_deadline d ahead else ahead)
    by true before =
        let few = is.few in
        let more = placed-few d ahead in record {
          few = omega (arith, few, more, long);
          ascend = ascend-placed now (length (armed ++ d ∷ []) * 4294967296) d ahead (ltb-true now d before) (omega (arith, long, soon, near)) up;
          same = λ later on. next-placed later d ahead ∙ next-behind later d ahead armed (is.same later on) ∙ sym (next-last later d armed);
        }
    by false before =
        let few = is.few in
        let come = ltb-false now d before in record {
          few = omega (arith, few, long);
          ascend = up;
          same = λ later on. is.same later on ∙ sym (next-passed later d armed (omega (arith, come, on))) ∙ sym (next-last later d armed);
        }

pub next-ahead : (now : ℕ) (armed ahead : List ℕ) → IsAhead now armed ahead → slice_get ahead 0 ≡ next_deadline now armed
next-ahead now armed [] is = is.same now (omega arith)
next-ahead now armed (d ∷ ds) is = sym (next-first now now (length armed * 4294967296) d ds (omega arith) is.ascend) ∙ is.same now (omega arith)

pub ahead-some : (now next : ℕ) (armed ahead : List ℕ) → IsAhead now armed ahead → Some next ≡ next_deadline now armed → 0 < length ahead
ahead-some now next armed [] is some = let none : None ≡ Some next = next-ahead now armed [] is ∙ sym some in cc
ahead-some now next armed (d ∷ ds) is some = omega arith

pub ahead-soon : (now next : ℕ) (armed ahead : List ℕ) → IsAhead now armed ahead → Some next ≡ next_deadline now armed → next ≤ length armed * 4294967296
ahead-soon now next armed [] is some = let none : None ≡ Some next = next-ahead now armed [] is ∙ sym some in cc
ahead-soon now next armed (d ∷ ds) is some =
    let first : Some d ≡ Some next = next-ahead now armed (d ∷ ds) is ∙ sym some in
    let same : d ≡ next = cc in
    let below = is.ascend.1 in omega (arith, same, below)

pub ticked-ahead : (now next : ℕ) (armed ahead : List ℕ) → IsAhead now armed ahead → Some next ≡ next_deadline now armed → IsAhead next armed (remove ahead 0)
ticked-ahead now next armed [] is some = let none : None ≡ Some next = next-ahead now armed [] is ∙ sym some in cc
ticked-ahead now next armed (d ∷ ds) is some =
    let first : Some d ≡ Some next = next-ahead now armed (d ∷ ds) is ∙ sym some in
    let same : d ≡ next = cc in subst (λ (n : ℕ). IsAhead n armed ds) same on
  where
    on : IsAhead d armed ds
    on =
        let few = is.few in
        let above = is.ascend.0 in record {
          few = omega (arith, few);
          ascend = is.ascend.2;
          same = λ later h. sym (next-passed later d ds h) ∙ is.same later (omega (arith, above, h));
        }

pub same-ahead : (now : ℕ) (armed armed_on ahead ahead_on : List ℕ) → armed_on ≡ armed → ahead_on ≡ ahead → IsAhead now armed ahead → IsAhead now armed_on ahead_on
same-ahead now armed armed_on ahead ahead_on a b h = rw (a, b) h
