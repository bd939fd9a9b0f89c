-- Whom an act wakes of those who wait on an object, and who waits then.
use Rattle.std.proofs.Common.{◌≡◌, ◌≢◌, ◌⊎◌, inl, inr, ◌≤◌, ℕ, ◌+◌, ◌-◌, Bool, true, false, not, ◌||◌, cond, List, [], ◌∷◌, ◌++◌, length, filter, map, take, drop, refl, sym, ap, subst, ◌∙◌, arith, if◌then◌else◌, nat_le}
use Rattle.std.specs.Prelude.{◌==◌, int_lt}
use Rattle.std.proofs.lemmas.Bool.{cases_Bool}
use Rattle.std.specs.List.{list_any}
use Rattle.um_base.specs.declared.act.Answer.{Answer}
use Rattle.um_base.specs.declared.ask.Told.{Told}
use Rattle.um_base.specs.declared.ask.Waiter.{Waiter}
use Rattle.um_base.specs.declared.names.Errno.{Errno}
use Rattle.um_base.specs.declared.names.Reply.{Reply}
use Rattle.um_base.specs.declared.names.ThreadIx.{ThreadIx}
use Rattle.um_base.specs.declared.names.Timeout.{Timeout}
use Rattle.um_machine.specs.declared.contents.Contents.{Contents}
use Rattle.um_machine.specs.Services.{Acted, with_waiter, in_order, without, told, all_told, blocks, read_length, readers_served, writers_served, still_waiting}
use Rattle.um_invariants.specs.Lines.{stands}
use Rattle.um_invariants.specs.Counts.{one_if}
use Rattle.um_invariants.proofs.Facts.{is_equal, differs, itself, is_not}
use Rattle.um_invariants.proofs.ThreadCounts.{count, count-filter, count-split, count-append, equal_or_not}

-- whether a waiter is this thread, and how often that one waits
abbrev pub is_of : ℕ → Waiter → Bool
is_of t w = w.thread.0 == t

abbrev pub times : ℕ → List Waiter → ℕ
times t ws = count (is_of t) ws

abbrev pub numbers : List (ThreadIx × Told) → List ℕ
numbers woken = map (λ (p : ThreadIx × Told). p.0.0) woken

-- how often a thread is woken
abbrev pub wakings : ℕ → List (ThreadIx × Told) → ℕ
wakings u woken = count (λ (p : ThreadIx × Told). p.0.0 == u) woken

-- what an act of a thread does with those who wait: whom it wakes has waited as often, and who waits then waited and isn't woken, or is that thread
pub record IsServed (ws : List Waiter) (t : ℕ) (w : Acted) : Type 0 where
  pub woken : (u : ℕ) → stands (numbers w.woken) u ≡ true → 1 ≤ times u ws
  pub often : (u : ℕ) → wakings u w.woken ≤ times u ws
  pub left : (u : ℕ) → 1 ≤ times u w.waiters → ((1 ≤ times u ws) × (stands (numbers w.woken) u ≡ false)) ⊎ ((u ≡ t) × (w.answer ≡ Answer.Wait))
  pub apart : (u : ℕ) → times u w.waiters ≤ 1

-- each waits once at most
abbrev pub AreApart : List Waiter → Type 0
AreApart ws = (u : ℕ) → times u ws ≤ 1

pub times-without : (t : ℕ) (ws : List Waiter) → times t (without t ws) ≡ 0
times-without t [] = refl
times-without t (w ∷ ws) =
    elim (w.thread.0 == t) as (λ b. (w.thread.0 == t) ≡ b → times t (cond (not b) (w ∷ without t ws) (without t ws)) ≡ 0) [
      | true ↦ λ e. times-without t ws
      | false ↦ λ e. rw e (omega (arith, times-without t ws))
    ] refl

times-with : (u : ℕ) (w : Waiter) (ws : List Waiter) → times u (with_waiter w ws) ≡ times u (w ∷ ws)
times-with u w [] = refl
times-with u w (v ∷ ws) =
    elim (int_lt v.priority w.priority) as (λ b. times u (if b then v ∷ with_waiter w ws else w ∷ v ∷ ws) ≡ times u (w ∷ v ∷ ws)) [
      | true ↦ omega (arith, times-with u w ws)
      | false ↦ refl
    ]

times-order : (u : ℕ) (ws : List Waiter) → times u (in_order ws) ≡ times u ws
times-order u [] = refl
times-order u (w ∷ ws) = omega (arith, times-with u w (in_order ws), times-order u ws)

pub times-first : (w : Waiter) (ws : List Waiter) → 1 ≤ times w.thread.0 (w ∷ ws)
times-first w ws = rw (itself w.thread.0) (omega arith)

-- the first of some of those who wait
abbrev pub Among : List Waiter → List Waiter → Type 0
Among some ws = (u : ℕ) → times u some ≤ times u ws

pub all-order : (ws : List Waiter) → Among (in_order ws) ws
all-order ws u = omega (arith, times-order u ws)

pub some-order : (p : Waiter → Bool) (ws : List Waiter) → Among (in_order (filter p ws)) ws
some-order p ws u = omega (arith, times-order u (filter p ws), count-filter (is_of u) p ws)

other_way : (a b : ℕ) → (a == b) ≡ (b == a)
other_way a b =
    elim (equal_or_not a b) [
      | inl same ↦ rw same refl
      | inr other ↦ differs a b other ∙ sym (differs b a (λ same. other (sym same)))
    ]

-- Nobody is woken.
pub served-none : (ws : List Waiter) (t : ℕ) (w : Acted) → AreApart ws → w.woken ≡ [] → w.waiters ≡ ws → IsServed ws t w
served-none ws t w apart e f = record {
  woken = λ u h. (let none : false ≡ true = subst (λ (l : List (ThreadIx × Told)). stands (numbers l) u ≡ true) e h in cc);
  often = λ u. (let none : wakings u w.woken ≡ 0 = ap (wakings u) e in omega (arith, none));
  left = λ u h. inl (subst (λ (l : List Waiter). 1 ≤ times u l) f h, rw e refl);
  apart = λ u. rw f (apart u);
}

-- The caller waits, behind all others.
abbrev pub waited : Contents → List Waiter → Waiter → Acted
waited contents ws who = record { contents = contents; waiters = without who.thread.0 ws ++ who ∷ []; answer = Answer.Wait; taken = []; woken = [] }

pub served-waits : (ws : List Waiter) (who : Waiter) (contents : Contents) → AreApart ws → IsServed ws who.thread.0 (waited contents ws who)
served-waits ws who contents apart =
    let t = who.thread.0 in
    let both : (u : ℕ) → times u (without t ws ++ who ∷ []) ≡ times u (without t ws) + (one_if (t == u) + 0) = λ u. count-append (is_of u) (without t ws) (who ∷ []) in
    let fewer : (u : ℕ) → times u (without t ws) ≤ times u ws = λ u. count-filter (is_of u) (λ (w : Waiter). not (w.thread.0 == t)) ws in
    record {
      woken = λ u h. cc;
      often = λ u. omega arith;
      left = λ u h. elim (equal_or_not u t) [
        | inl same ↦ inr (same, refl)
        | inr other ↦ (let apart_from : (t == u) ≡ false = differs t u (λ e. other (sym e)) in inl ((let some = both u in let less = fewer u in let none : one_if (t == u) ≡ 0 = rw apart_from refl in omega (arith, h, some, less, none)), refl))
      ];
      apart = λ u. elim (equal_or_not u t) [
        | inl same ↦ (let none = times-without t ws in let some = both t in let one : one_if (t == t) ≡ 1 = rw (itself t) refl in rw same (omega (arith, none, some, one)))
        | inr other ↦ (let apart_from : (t == u) ≡ false = differs t u (λ e. other (sym e)) in let some = both u in let less = fewer u in let none : one_if (t == u) ≡ 0 = rw apart_from refl in let once = apart u in omega (arith, some, less, none, once))
      ];
    }

pub served-blocks : (ws : List Waiter) (who : Waiter) (contents : Contents) (timeout : Timeout) (e : Errno) → AreApart ws → IsServed ws who.thread.0 (blocks contents ws who timeout e)
served-blocks ws who contents Timeout.NoWait e apart = served-none ws who.thread.0 (blocks contents ws who Timeout.NoWait e) apart refl refl
served-blocks ws who contents Timeout.Forever e apart = served-waits ws who contents apart
served-blocks ws who contents (Timeout.Ticks n) e apart = served-waits ws who contents apart

-- One is woken, who was first.
wakings-numbers : (u : ℕ) (woken : List (ThreadIx × Told)) → wakings u woken ≡ count (λ x. x == u) (numbers woken)
wakings-numbers u [] = refl
wakings-numbers u (p ∷ woken) = ap (λ n. one_if (p.0.0 == u) + n) (wakings-numbers u woken)

pub served-one : (ws : List Waiter) (t : ℕ) (first : Waiter) (w : Acted) → AreApart ws → 1 ≤ times first.thread.0 ws → numbers w.woken ≡ first.thread.0 ∷ [] → w.waiters ≡ without first.thread.0 ws → IsServed ws t w
served-one ws t first w apart there e f =
    let x = first.thread.0 in
    let fewer : (u : ℕ) → times u (without x ws) ≤ times u ws = λ u. count-filter (is_of u) (λ (v : Waiter). not (v.thread.0 == x)) ws in
    record {
      often = λ u. (let all : wakings u w.woken ≡ one_if (x == u) + 0 = wakings-numbers u w.woken ∙ ap (count (λ n. n == u)) e in
          elim (equal_or_not x u) [
            | inl same ↦ (let here : 1 ≤ times u ws = subst (λ n. 1 ≤ times n ws) same there in let one : one_if (x == u) ≡ 1 = rw (same, itself u) refl in omega (arith, all, here, one))
            | inr other ↦ (let none : one_if (x == u) ≡ 0 = rw (differs x u other) refl in omega (arith, all, none))
          ]);
      woken = λ u h. (let same : u ≡ x = one_stands u x (subst (λ (l : List ℕ). stands l u ≡ true) e h) in rw same there);
      left = λ u h. (let some : 1 ≤ times u (without x ws) = subst (λ (l : List Waiter). 1 ≤ times u l) f h in
          elim (equal_or_not u x) [
            | inl same ↦ absurd (let none = times-without x ws in let here : 1 ≤ times x (without x ws) = subst (λ (n : ℕ). 1 ≤ times n (without x ws)) same some in omega (arith, none, here))
            | inr other ↦ inl ((let less = fewer u in omega (arith, some, less)), rw (e, differs u x other) refl)
          ]);
      apart = λ u. rw f (let less = fewer u in let once = apart u in omega (arith, less, once));
    }
  where
    one_stands : (u x : ℕ) → stands (x ∷ []) u ≡ true → u ≡ x
    one_stands u x h =
        elim (u == x) as (λ b. (u == x) ≡ b → (b || false) ≡ true → u ≡ x) [
          | true ↦ λ e g. is_equal u x e
          | false ↦ λ e g. cc
        ] refl h

-- All of some are woken.
pub told-times : (reply : Reply) (vs : List Waiter) (u : ℕ) → stands (numbers (map (λ (w : Waiter). told w reply []) vs)) u ≡ true → 1 ≤ times u vs
told-times reply [] u h = cc
told-times reply (v ∷ vs) u h =
    elim (cases_Bool (u == v.thread.0)) [
      | inl here ↦ (let same : u ≡ v.thread.0 = is_equal u v.thread.0 here in subst (λ (n : ℕ). 1 ≤ times n (v ∷ vs)) (sym same) (times-first v vs))
      | inr later ↦ (let rest = told-times reply vs u (subst (λ (b : Bool). (b || stands (numbers (map (λ (w : Waiter). told w reply []) vs)) u) ≡ true) later h) in omega (arith, rest))
    ]

pub told-wakings : (reply : Reply) (vs : List Waiter) (u : ℕ) → wakings u (map (λ (w : Waiter). told w reply []) vs) ≡ times u vs
told-wakings reply [] u = refl
told-wakings reply (v ∷ vs) u = ap (λ n. one_if (v.thread.0 == u) + n) (told-wakings reply vs u)

pub served-all : (ws : List Waiter) (t : ℕ) (e : Errno) (w : Acted) → AreApart ws → w.woken ≡ all_told e ws → w.waiters ≡ [] → IsServed ws t w
served-all ws t e w apart f g = record {
  woken = λ u h. (let some = told-times (Reply.Fail e) (in_order ws) u (subst (λ (l : List (ThreadIx × Told)). stands (numbers l) u ≡ true) f h) in let same = times-order u ws in omega (arith, some, same));
  often = λ u. (let all = ap (wakings u) f ∙ told-wakings (Reply.Fail e) (in_order ws) u in let same = times-order u ws in omega (arith, all, same));
  left = λ u h. absurd (let none : 1 ≤ times u [] = subst (λ (l : List Waiter). 1 ≤ times u l) g h in omega (arith, none));
  apart = λ u. rw g (omega arith);
}

-- of those who wait, the ones that a test finds are woken with this reply
pub served-some : (ws : List Waiter) (t : ℕ) (reply : Reply) (p : Waiter → Bool) (w : Acted) → AreApart ws → w.woken ≡ map (λ (v : Waiter). told v reply []) (in_order (filter p ws)) → w.waiters ≡ filter (λ v. not (p v)) ws → IsServed ws t w
served-some ws t reply p w apart f g =
    let found : (u : ℕ) → stands (numbers w.woken) u ≡ true → 1 ≤ times u (filter p ws) = λ u h. (
    let some = told-times reply (in_order (filter p ws)) u (subst (λ (l : List (ThreadIx × Told)). stands (numbers l) u ≡ true) f h) in let same = times-order u (filter p ws) in omega (arith, some, same)) in
    let parts : (u : ℕ) → times u (filter p ws) + times u (filter (λ v. not (p v)) ws) ≡ times u ws = λ u. count-split (is_of u) p ws in
    record {
      woken = λ u h. (let some = found u h in let both = parts u in omega (arith, some, both));
      often = λ u. (let all = ap (wakings u) f ∙ told-wakings reply (in_order (filter p ws)) u in let same = times-order u (filter p ws) in let both = parts u in omega (arith, all, same, both));
      left = λ u h. (let there : 1 ≤ times u (filter (λ v. not (p v)) ws) = subst (λ (l : List Waiter). 1 ≤ times u l) g h in let both = parts u in let once = apart u in
          inl (omega (arith, there, both), is_not (stands (numbers w.woken) u) (λ yes. (let some = found u yes in omega (arith, some, there, both, once)))));
      apart = λ u. rw g (let both = parts u in let once = apart u in omega (arith, both, once));
    }

woken-is : (woken : List (ThreadIx × Told)) (x : ℕ) → list_any (λ (p : ThreadIx × Told). p.0.0 == x) woken ≡ stands (numbers woken) x
woken-is [] x = refl
woken-is (p ∷ woken) x = rw (other_way p.0.0 x, woken-is woken x) refl

times-still : (woken : List (ThreadIx × Told)) (u : ℕ) (ws : List Waiter) → stands (numbers woken) u ≡ true → times u (still_waiting woken ws) ≡ 0
times-still woken u [] h = refl
times-still woken u (w ∷ ws) h =
    elim (list_any (λ (p : ThreadIx × Told). p.0.0 == w.thread.0) woken) as (λ b. list_any (λ (p : ThreadIx × Told). p.0.0 == w.thread.0) woken ≡ b → times u (cond (not b) (w ∷ still_waiting woken ws) (still_waiting woken ws)) ≡ 0) [
      | true ↦ λ e. times-still woken u ws h
      | false ↦ λ e. (
          let apart : w.thread.0 ≢ u = λ same. (let there : list_any (λ (p : ThreadIx × Told). p.0.0 == w.thread.0) woken ≡ true = woken-is woken w.thread.0 ∙ subst (λ (n : ℕ). stands (numbers woken) n ≡ true) (sym same) h in cc) in
          rw (differs w.thread.0 u apart) (omega (arith, times-still woken u ws h)))
    ] refl

-- those who are woken leave
pub served-still : (ws : List Waiter) (t : ℕ) (w : Acted) → AreApart ws → ((u : ℕ) → stands (numbers w.woken) u ≡ true → 1 ≤ times u ws) → ((u : ℕ) → wakings u w.woken ≤ times u ws) → w.waiters ≡ still_waiting w.woken ws → IsServed ws t w
served-still ws t w apart found few g =
    let fewer : (u : ℕ) → times u (still_waiting w.woken ws) ≤ times u ws = λ u. count-filter (is_of u) (λ (v : Waiter). not (list_any (λ (p : ThreadIx × Told). p.0.0 == v.thread.0) w.woken)) ws in
    record {
      woken = found;
      often = few;
      left = λ u h. (let there : 1 ≤ times u (still_waiting w.woken ws) = subst (λ (l : List Waiter). 1 ≤ times u l) g h in let less = fewer u in
          inl (omega (arith, there, less), is_not (stands (numbers w.woken) u) (λ yes. (let none = times-still w.woken u ws yes in omega (arith, none, there)))));
      apart = λ u. rw g (let less = fewer u in let once = apart u in omega (arith, less, once));
    }

pub readers-times : (vs : List Waiter) (bytes : List ℕ) (u : ℕ) → stands (numbers (readers_served vs bytes).1) u ≡ true → 1 ≤ times u vs
readers-times [] bytes u h = cc
readers-times (v ∷ vs) [] u h = cc
readers-times (v ∷ vs) (b ∷ bytes) u h =
    elim (cases_Bool (u == v.thread.0)) [
      | inl here ↦ (let same : u ≡ v.thread.0 = is_equal u v.thread.0 here in subst (λ (n : ℕ). 1 ≤ times n (v ∷ vs)) (sym same) (times-first v vs))
      | inr later ↦ (let more = drop (read_length v.ask) (b ∷ bytes) in
          let rest = readers-times vs more u (subst (λ (c : Bool). (c || stands (numbers (readers_served vs more).1) u) ≡ true) later h) in omega (arith, rest))
    ]

pub writers-times : (size : ℕ) (vs : List Waiter) (bytes : List ℕ) (u : ℕ) → stands (numbers (writers_served size vs bytes).1) u ≡ true → 1 ≤ times u vs
writers-times size [] bytes u h = cc
writers-times size (v ∷ vs) bytes u h =
    let put = take (size - length bytes) v.bytes in
    let rest = writers_served size vs (bytes ++ put) in
    let found : List (ThreadIx × Told) = told v (Reply.Num (length put)) [] ∷ rest.1 in
    elim (nat_le size (length bytes)) as (λ b. stands (numbers (let both : List ℕ × List (ThreadIx × Told) = if b then (bytes, []) else (rest.0, found) in both.1)) u ≡ true → 1 ≤ times u (v ∷ vs)) [
      | true ↦ λ g. cc
      | false ↦ λ g. elim (cases_Bool (u == v.thread.0)) [
        | inl here ↦ (let same : u ≡ v.thread.0 = is_equal u v.thread.0 here in subst (λ (n : ℕ). 1 ≤ times n (v ∷ vs)) (sym same) (times-first v vs))
        | inr later ↦ (let more = writers-times size vs (bytes ++ put) u (subst (λ (c : Bool). (c || stands (numbers rest.1) u) ≡ true) later g) in omega (arith, more))
      ]
    ] h

-- each is woken once at most
pub readers-few : (vs : List Waiter) (bytes : List ℕ) (u : ℕ) → wakings u (readers_served vs bytes).1 ≤ times u vs
readers-few [] bytes u = omega arith
readers-few (v ∷ vs) [] u = omega arith
readers-few (v ∷ vs) (b ∷ bytes) u = let rest = readers-few vs (drop (read_length v.ask) (b ∷ bytes)) u in omega (arith, rest)

pub writers-few : (size : ℕ) (vs : List Waiter) (bytes : List ℕ) (u : ℕ) → wakings u (writers_served size vs bytes).1 ≤ times u vs
writers-few size [] bytes u = omega arith
writers-few size (v ∷ vs) bytes u =
    let put = take (size - length bytes) v.bytes in
    let rest = writers_served size vs (bytes ++ put) in
    let found : List (ThreadIx × Told) = told v (Reply.Num (length put)) [] ∷ rest.1 in
    elim (nat_le size (length bytes)) as (λ b. wakings u (let both : List ℕ × List (ThreadIx × Told) = if b then (bytes, []) else (rest.0, found) in both.1) ≤ times u (v ∷ vs)) [
      | true ↦ omega arith
      | false ↦ (let more = writers-few size vs (bytes ++ put) u in omega (arith, more))
    ]

pub wakings-more : (u : ℕ) (p : ThreadIx × Told) (woken : List (ThreadIx × Told)) → wakings u (p ∷ woken) ≡ (if p.0.0 == u then wakings u woken + 1 else wakings u woken)
wakings-more u p woken =
    elim (p.0.0 == u) as (λ b. one_if b + wakings u woken ≡ (if b then wakings u woken + 1 else wakings u woken)) [ true ↦ omega arith | false ↦ omega arith ]
