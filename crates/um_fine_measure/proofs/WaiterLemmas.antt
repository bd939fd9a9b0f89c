-- The waiters on an object together with those whom an act wakes are no more than the waiters before, and the caller if it waits.
use Rattle.std.proofs.Common.{◌≡◌, ◌≤◌, ℕ, ◌+◌, Bool, true, false, refl, subst, arith, if◌then◌else◌, List, [], ◌∷◌, filter, length, length-append, int_lt}
use Rattle.std.specs.Prelude.{◌==◌, ◌||◌, not}
use Rattle.std.specs.List.{list_any}
use Rattle.std.proofs.lemmas.Bool.{eq-eqb}
use Rattle.std.proofs.lemmas.List.{length-map}
use Rattle.um_base.specs.declared.act.Answer.{Answer}
use Rattle.um_base.specs.declared.ask.Told.{Told}
use Rattle.um_base.specs.declared.ask.Waiter.{Waiter}
use Rattle.um_base.specs.declared.names.Errno.{Errno}
use Rattle.um_base.specs.declared.names.Reply.{Reply}
use Rattle.um_base.specs.declared.names.ThreadIx.{ThreadIx}
use Rattle.um_machine.specs.declared.contents.Contents.{Contents}
use Rattle.um_machine.specs.declared.served.Served.{Served}
use Rattle.um_machine.specs.Services.{acted, all_told, in_order, is_getter, is_putter, is_reader, is_writer, told, with_waiter, without}
use Rattle.um_machine.specs.Serving.{served}
use Rattle.um_measure.specs.Measure.{one_if, total}
use Rattle.um_invariants.proofs.Outcomes.{IsFront, Outcome, fronts, nobody, one_more, outcome, purges, serves, stays, tells, waits}
use Rattle.um_fine_measure.proofs.Between.{joins}

-- Counts of waiters.

abbrev pub count : (Waiter → Bool) → List Waiter → ℕ
count p ws = total (λ w. one_if (p w)) ws

-- those that pass a test, and those that don't
pub parts : (p : Waiter → Bool) (ws : List Waiter) → length (filter (λ w. not (p w)) ws) + count p ws ≡ length ws
parts p [] = refl
parts p (w ∷ ws) = by (p w) (parts p ws)
  where
    by : (b : Bool) → length (filter (λ v. not (p v)) ws) + count p ws ≡ length ws
        → length (if not b then w ∷ filter (λ v. not (p v)) ws else filter (λ v. not (p v)) ws) + (one_if b + count p ws) ≡ length (w ∷ ws)
    by true rest = omega (arith, rest)
    by false rest = omega (arith, rest)

pub passing : (p : Waiter → Bool) (ws : List Waiter) → length (filter p ws) ≡ count p ws
passing p [] = refl
passing p (w ∷ ws) = by (p w) (passing p ws)
  where
    by : (b : Bool) → length (filter p ws) ≡ count p ws → length (if b then w ∷ filter p ws else filter p ws) ≡ one_if b + count p ws
    by true rest = omega (arith, rest)
    by false rest = omega (arith, rest)

inserted : (p : Waiter → Bool) (w : Waiter) (ws : List Waiter) → count p (with_waiter w ws) ≡ one_if (p w) + count p ws
inserted p w [] = refl
inserted p w (v ∷ ws) = by (int_lt v.priority w.priority) (inserted p w ws)
  where
    by : (b : Bool) → count p (with_waiter w ws) ≡ one_if (p w) + count p ws
        → count p (if b then v ∷ with_waiter w ws else w ∷ v ∷ ws) ≡ one_if (p w) + count p (v ∷ ws)
    by true rest = omega (arith, rest)
    by false rest = refl

pub ordered : (p : Waiter → Bool) (ws : List Waiter) → count p (in_order ws) ≡ count p ws
ordered p [] = refl
ordered p (w ∷ ws) = let here = inserted p w (in_order ws) in let rest = ordered p ws in omega (arith, here, rest)

pub filtered : (p q : Waiter → Bool) (ws : List Waiter) → count p (filter q ws) ≤ count p ws
filtered p q [] = omega arith
filtered p q (w ∷ ws) = by (q w) (filtered p q ws)
  where
    by : (b : Bool) → count p (filter q ws) ≤ count p ws → count p (if b then w ∷ filter q ws else filter q ws) ≤ one_if (p w) + count p ws
    by true rest = omega (arith, rest)
    by false rest = omega (arith, rest)

pub every : (ws : List Waiter) → count (λ w. true) ws ≡ length ws
every [] = refl
every (w ∷ ws) = let rest = every ws in omega (arith, rest)

pub told-all : (e : Errno) (ws : List Waiter) → length (all_told e ws) ≡ length ws
told-all e ws =
    let same = ordered (λ w. true) ws in
    let before = every ws in
    let after = every (in_order ws) in
    let long = length-map (in_order ws) (λ (w : Waiter). told w (Reply.Fail e) []) in omega (arith, same, before, after, long)

-- one that is served first of some of them
pub one-less : (ws vs rest : List Waiter) (first : Waiter) → in_order vs ≡ first ∷ rest → ((p : Waiter → Bool) → count p vs ≤ count p ws)
    → length (without first.thread.0 ws) + 1 ≤ length ws
one-less ws vs rest first e few =
    let p = λ (w : Waiter). w.thread.0 == first.thread.0 in
    let here : count p (first ∷ rest) ≡ count p vs = subst (λ (us : List Waiter). count p us ≡ count p vs) e (ordered p vs) in
    let itself : one_if (p first) ≡ 1 = rw (eq-eqb first.thread.0 first.thread.0 refl) refl in
    let less = few p in
    let split = parts p ws in omega (arith, here, itself, less, split)

-- Who is served of those in order, each of whom waits no more.

abbrev pub is_among : List (ThreadIx × Told) → Waiter → Bool
is_among woken w = list_any (λ (p : ThreadIx × Told). p.0.0 == w.thread.0) woken

more-among : (woken : List (ThreadIx × Told)) (p : ThreadIx × Told) (ws : List Waiter) → count (is_among woken) ws ≤ count (is_among (p ∷ woken)) ws
more-among woken p [] = omega arith
more-among woken p (w ∷ ws) = by (p.0.0 == w.thread.0) (is_among woken w) (more-among woken p ws)
  where
    by : (b c : Bool) → count (is_among woken) ws ≤ count (is_among (p ∷ woken)) ws
        → one_if c + count (is_among woken) ws ≤ one_if (b || c) + count (is_among (p ∷ woken)) ws
    by true true rest = omega (arith, rest)
    by true false rest = omega (arith, rest)
    by false c rest = omega (arith, rest)

-- as many of those in order as are told something
pub served-front : (order : List Waiter) (woken : List (ThreadIx × Told)) → IsFront order woken → length woken ≤ count (is_among woken) order
served-front order _ nobody = omega arith
served-front _ _ (one_more w told {order = order} {woken = woken} front) =
    let itself : one_if (w.thread.0 == w.thread.0 || is_among woken w) ≡ 1 = rw (eq-eqb w.thread.0 w.thread.0 refl) refl in
    let more = more-among woken (w.thread, told) order in
    let rest = served-front order woken front in omega (arith, itself, more, rest)

-- those whom an act serves are no more than those who wait
pub few-served : (which : Served) (ws : List Waiter) (p : Waiter → Bool) → count p (served which ws) ≤ count p ws
few-served Served.All ws p = omega arith
few-served Served.Getters ws p = filtered p is_getter ws
few-served Served.Putters ws p = filtered p is_putter ws
few-served Served.Readers ws p = filtered p is_reader ws
few-served Served.Writers ws p = filtered p is_writer ws

pays : (ws left : List Waiter) (answer : Answer) (woken : List (ThreadIx × Told)) → Outcome ws left answer woken → length left + length woken ≤ length ws + joins answer
pays ws _ answer _ stays = omega arith
pays ws _ _ _ (waits who) =
    let long = length-append (without who.thread.0 ws) (who ∷ []) in
    let split = parts (λ (w : Waiter). w.thread.0 == who.thread.0) ws in omega (arith, long, split)
pays ws _ answer _ (serves which first rest told e) = let less = one-less ws (served which ws) rest first e (few-served which ws) in omega (arith, less)
pays ws _ answer _ (tells e) = let long = told-all e ws in omega (arith, long)
pays ws _ answer _ (purges e) =
    let long = told-all e (filter is_putter ws) in
    let some = passing is_putter ws in
    let split = parts is_putter ws in omega (arith, long, some, split)
pays ws _ answer woken (fronts which front) =
    let all = served-front (in_order (served which ws)) woken front in
    let split = parts (is_among woken) ws in
    let same = ordered (is_among woken) (served which ws) in
    let less = few-served which ws (is_among woken) in omega (arith, all, split, same, less)

pub waiters-pay : (contents : Contents) (ws : List Waiter) (who : Waiter) → length (acted contents ws who).waiters + length (acted contents ws who).woken ≤ length ws + joins (acted contents ws who).answer
waiters-pay contents ws who = let a = acted contents ws who in pays ws a.waiters a.answer a.woken (outcome contents ws who who.ask)
