-- What a step does to the measure of the cells of memory and of the joins: those who wait, and those who sleep.
use Rattle.std.proofs.Common.{◌≡◌, ◌≤◌, ℕ, ◌+◌, Bool, true, false, List, [], ◌∷◌, filter, length, length-append, map, refl, ap, ◌∙◌, subst, arith, if◌then◌else◌, Option, Some, None}
use Rattle.std.specs.Prelude.{◌==◌, ◌&&◌, ◌||◌, not, is_some}
use Rattle.std.specs.List.{list_any}
use Rattle.std.proofs.lemmas.Bool.{and_parts, eqb-true, false≢true, true≢false}
use Rattle.std.proofs.lemmas.List.{length-map}
use Rattle.um_base.specs.declared.act.Act.{Act}
use Rattle.um_base.specs.declared.act.Answer.{Answer}
use Rattle.um_base.specs.declared.ask.Told.{Told}
use Rattle.um_base.specs.declared.ask.Waiter.{Waiter}
use Rattle.um_base.specs.declared.image.Image.{Image}
use Rattle.um_base.specs.declared.names.Errno.{Errno}
use Rattle.um_base.specs.declared.names.Reply.{Reply}
use Rattle.um_base.specs.declared.names.ThreadIx.{ThreadIx}
use Rattle.um_machine.specs.Futexes.{is_on, some_of}
use Rattle.um_machine.specs.Joins.{joins as is_joining}
use Rattle.um_machine.specs.Services.{in_order, runs_out, told, without}
use Rattle.um_machine.specs.Table.{replies_of}
use Rattle.um_measure.specs.Measure.{one_if}
use Rattle.um_measure.proofs.TotalLemmas.{total-set}
use Rattle.um_invariants.proofs.Outcomes.{IsFront, nobody, one_more}
use Rattle.um_words.specs.CellActs.{join_takes, memory_takes}
use Rattle.um_words.specs.Extra.{all_in, allowed_in}
use Rattle.um_words.specs.declared.fine.FineAct.{FineAct}
use Rattle.um_words.specs.declared.fine.Mark.{Mark}
use Rattle.um_words.specs.declared.fine.More.{More}
use Rattle.um_words.specs.declared.fine.Unseen.{Unseen}
use Rattle.um_fine.specs.Answers.{act_in, caller_in, context_in, is_shut_act, is_void, woken_in}
use Rattle.um_fine.specs.Context.{Context}
use Rattle.um_fine.specs.Joins.{Joins, all_joined, asleep_at, join_after, join_finds, join_moves, is_joined, join_says, roused, sleeps}
use Rattle.um_fine.specs.Memory.{Bytes, memory_after, memory_says, refusal_of, still_there, woken_on}
use Rattle.um_fine.specs.Seeking.{deadline_of, finds, is_number, is_older, looked_for, stands_in}
use Rattle.um_fine.specs.Steps.{Exchange}
use Rattle.um_fine_measure.specs.Measure.{joins_cost, memory_cost, parked_cost, place_cost}
use Rattle.um_fine_measure.proofs.Between.{given_by, is_marked, is_sought, taken_by}
use Rattle.um_fine_measure.proofs.WaiterLemmas.{count, every, filtered, is_among, one-less, ordered, parts, passing, served-front}

-- One that is taken out.

some-counted : (p : Waiter → Bool) (ws : List Waiter) → list_any p ws ≡ true → 1 ≤ count p ws
some-counted p [] h = absurd (false≢true h)
some-counted p (w ∷ ws) h = by (p w) h (some-counted p ws)
  where
    by : (b : Bool) → (b || list_any p ws) ≡ true → (list_any p ws ≡ true → 1 ≤ count p ws) → 1 ≤ one_if b + count p ws
    by true e rest = omega arith
    by false e rest = let more = rest e in omega (arith, more)

less-without : (t : ℕ) (ws : List Waiter) → stands_in t ws ≡ true → length (without t ws) + 1 ≤ length ws
less-without t ws h =
    let split = parts (λ (w : Waiter). w.thread.0 == t) ws in
    let some = some-counted (λ (w : Waiter). w.thread.0 == t) ws h in omega (arith, split, some)

few-without : (t : ℕ) (ws : List Waiter) → length (without t ws) ≤ length ws
few-without t ws = let split = parts (λ (w : Waiter). w.thread.0 == t) ws in omega (arith, split)

-- who has this deadline stands there
number-stands : (d t : ℕ) (ws : List Waiter) → is_number d (deadline_of t ws) ≡ true → stands_in t ws ≡ true
number-stands d t [] h = absurd (false≢true h)
number-stands d t (w ∷ ws) h = by (w.thread.0 == t) h (number-stands d t ws)
  where
    by : (b : Bool) → is_number d (if b then w.until else deadline_of t ws) ≡ true → (is_number d (deadline_of t ws) ≡ true → stands_in t ws ≡ true) → (b || stands_in t ws) ≡ true
    by true e rest = refl
    by false e rest = rest e

-- a look finds who is looked for: it isn't void then
pub looks-found : (found : Bool) (t : ThreadIx) (more : More) (act : Act) (said : FineAct) → looked_for found (FineAct.Shown (record { thread = t; act = act }) more) ≡ said → is_void said ≡ false → found ≡ true
looks-found true t more act said h shown = refl
looks-found false t more act said h shown = absurd (true≢false (ap is_void h ∙ shown))

-- who waits in a cell, with what a look takes of them
module _ (ws : List Waiter) (noted : List ℕ) where
  pub cut-less : (who : ThreadIx) (moved : Exchange) → (is_sought who moved ≡ true → finds ws noted moved ≡ true) → length (without who.0 ws) + one_if (is_sought who moved) ≤ length ws
  cut-less who (Exchange.sought thread (Some before)) found = by (thread.0 == who.0) refl found
    where
      by : (b : Bool) → (thread.0 == who.0) ≡ b → (b ≡ true → (stands_in thread.0 ws && is_older noted thread.0 (Some before)) ≡ true) → length (without who.0 ws) + one_if b ≤ length ws
      by true e f =
          let stands = (and_parts (stands_in thread.0 ws) _ (f refl)).0 in
          less-without who.0 ws (subst (λ (t : ℕ). stands_in t ws ≡ true) (eqb-true thread.0 who.0 e) stands)
      by false e f = let few = few-without who.0 ws in omega (arith, few)
  cut-less who (Exchange.sought thread None) found = let few = few-without who.0 ws in omega (arith, few)
  cut-less who moved found = let few = few-without who.0 ws in omega (arith, few)

  pub late-less : (who : ThreadIx) (moved : Exchange) → (is_marked who moved ≡ true → finds ws noted moved ≡ true) → length (without who.0 ws) + one_if (is_marked who moved) ≤ length ws
  late-less who (Exchange.mark deadline (Mark.Thread thread site)) found = by (thread.0 == who.0) refl found
    where
      by : (b : Bool) → (thread.0 == who.0) ≡ b → (b ≡ true → is_number deadline (deadline_of thread.0 ws) ≡ true) → length (without who.0 ws) + one_if b ≤ length ws
      by true e f =
          let stands = number-stands deadline thread.0 ws (f refl) in
          less-without who.0 ws (subst (λ (t : ℕ). stands_in t ws ≡ true) (eqb-true thread.0 who.0 e) stands)
      by false e f = let few = few-without who.0 ws in omega (arith, few)
  late-less who (Exchange.mark deadline (Mark.Timer x)) found = let few = few-without who.0 ws in omega (arith, few)
  late-less who moved found = let few = few-without who.0 ws in omega (arith, few)

-- a timer that runs out wakes one at most
pub out-less : (ws order : List Waiter) → in_order ws ≡ order → length (runs_out ws order).1 + length (replies_of (runs_out ws order).2) ≤ length ws
out-less ws [] e = omega arith
out-less ws (first ∷ rest) e = let less = one-less ws ws rest first e (λ p. omega arith) in omega (arith, less)

-- The futexes.

first-told : (all : Bool) (order : List Waiter) → IsFront order (map (λ (w : Waiter). told w (Reply.Num 0) []) (some_of all order))
first-told true [] = nobody
first-told true (w ∷ order) = one_more w _ (first-told true order)
first-told false [] = nobody
first-told false (w ∷ order) = one_more w _ nobody

among-same : (w : Waiter) (woken : List (ThreadIx × Told)) → list_any (λ (p : ThreadIx × Reply). p.0.0 == w.thread.0) (replies_of woken) ≡ is_among woken w
among-same w [] = refl
among-same w (p ∷ woken) = ap (λ b. (p.0.0 == w.thread.0) || b) (among-same w woken)

woken-less : (ws order : List Waiter) (woken : List (ThreadIx × Told)) → IsFront order woken → count (is_among woken) order ≤ count (is_among woken) ws → length (still_there (replies_of woken) ws) + length (replies_of woken) ≤ length ws
woken-less ws order woken front few =
    let all = served-front order woken front in
    let split = parts (is_among woken) ws in
    let same : length (still_there (replies_of woken) ws) ≡ length (filter (λ w. not (is_among woken w)) ws) = ap (λ (p : Waiter → Bool). length (filter (λ w. not (p w)) ws)) (λ i w. among-same w woken i) in
    let long = length-map {A = ThreadIx × Told} {B = ThreadIx × Reply} woken (λ p. (p.0, p.1.reply)) in omega (arith, all, split, few, same, long)

module _ (image : Image) (m : Bytes) where
  wakes-less : (more : More) (a : ℕ) → length (still_there (replies_of (woken_on image m more a)) m.futexes) + length (replies_of (woken_on image m more a)) ≤ length m.futexes
  wakes-less more a = by (refusal_of image (allowed_in more) a)
    where
      by : (refused : Option Errno)
          → let served = elim refused as (λ _. List Waiter) [ Some e ↦ [] | None ↦ some_of (all_in more) (in_order (filter (is_on a) m.futexes)) ] in
          let woken = map (λ (w : Waiter). told w (Reply.Num 0) []) served in
          length (still_there (replies_of woken) m.futexes) + length (replies_of woken) ≤ length m.futexes
      by (Some e) = woken-less m.futexes [] [] nobody (omega arith)
      by None =
          let order = in_order (filter (is_on a) m.futexes) in
          let woken = map (λ (w : Waiter). told w (Reply.Num 0) []) (some_of (all_in more) order) in
          let same = ordered (is_among woken) (filter (is_on a) m.futexes) in
          let few = filtered (is_among woken) (is_on a) m.futexes in
          woken-less m.futexes order woken (first-told (all_in more) order) (omega (arith, same, few))

  abbrev pub MemoryFalls : FineAct → Exchange → Type 0
  MemoryFalls act moved = memory_cost (memory_after image m (act_in act) moved) + taken_by image act moved ≤ memory_cost m + given_by image act moved

  memory-shown : (moved : Exchange) (t : ThreadIx) (more : More) (act : Act) → memory_takes (FineAct.Shown (record { thread = t; act = act }) more) ≡ true
      → memory_says image m moved (FineAct.Shown (record { thread = t; act = act }) more) ≡ FineAct.Shown (record { thread = t; act = act }) more
      → MemoryFalls (FineAct.Shown (record { thread = t; act = act }) more) moved
  memory-shown moved t more (Act.Load a n value) takes says = omega arith
  memory-shown moved t more (Act.Store a n value) takes says = omega arith
  memory-shown moved t more (Act.Fetch a) takes says = omega arith
  memory-shown moved t more (Act.Fault access a n) takes says = omega arith
  memory-shown moved t more (Act.Probe a n fits) takes says = omega arith
  memory-shown moved t more (Act.CopyIn a n fits) takes says = omega arith
  memory-shown moved t more (Act.CopyOut a n true) takes says = omega arith
  memory-shown moved t more (Act.CopyOut a n false) takes says = omega arith
  memory-shown moved t more (Act.CopyStr a found) takes says = omega arith
  memory-shown moved t more (Act.Erase stack) takes says = omega arith
  memory-shown moved t more (Act.FutexWait a value Answer.Wait) takes says =
      let w = caller_in moved in
      let few = few-without w.thread.0 m.futexes in
      let long = length-append (without w.thread.0 m.futexes) (w ∷ []) in omega (arith, few, long)
  memory-shown moved t more (Act.FutexWait a value (Answer.Now reply)) takes says = omega arith
  memory-shown moved t more (Act.FutexWake a answer woken) takes says =
      let same : replies_of (woken_on image m more a.0) ≡ woken = ap (λ (act : FineAct). woken_in (act_in act)) says in
      let less = subst (λ (told : List (ThreadIx × Reply)). length (still_there told m.futexes) + length told ≤ length m.futexes) same (wakes-less more a.0) in omega (arith, less)
  memory-shown moved t more (Act.TimedOut who) takes says =
      let found = looks-found (finds m.futexes m.noted moved) t more (Act.TimedOut who) _ says refl in
      let less = late-less m.futexes m.noted who moved (λ is. found) in omega (arith, less)
  memory-shown moved t more (Act.Cut who) takes says =
      let found = looks-found (finds m.futexes m.noted moved) t more (Act.Cut who) _ says refl in
      let less = cut-less m.futexes m.noted who moved (λ is. found) in omega (arith, less)
  memory-shown moved t more act takes says = absurd (false≢true takes)

  pub memory-falls : (act : FineAct) (moved : Exchange) → memory_takes act ≡ true → memory_says image m moved act ≡ act → MemoryFalls act moved
  memory-falls (FineAct.Shown event more) moved takes says = memory-shown moved event.thread more event.act takes says
  memory-falls (FineAct.Unseen Unseen.Void) moved takes says = omega arith
  memory-falls (FineAct.Unseen unseen) moved takes says = absurd (false≢true takes)

-- The joins.

joined-less : (who : ℕ) (ws : List Waiter) → length (filter (λ w. not (is_joining who w)) ws) + length (replies_of (map (λ (w : Waiter). told w (Reply.Num 0) []) (in_order (filter (is_joining who) ws)))) ≤ length ws
joined-less who ws =
    let here = filter (is_joining who) ws in
    let tells = λ (w : Waiter). told w (Reply.Num 0) [] in
    let split = parts (is_joining who) ws in
    let some = passing (is_joining who) ws in
    let same = ordered (λ w. true) here in
    let before = every here in
    let after = every (in_order here) in
    let told-long = length-map {A = Waiter} {B = ThreadIx × Told} (in_order here) tells in
    let said-long = length-map {A = ThreadIx × Told} {B = ThreadIx × Reply} (map tells (in_order here)) (λ p. (p.0, p.1.reply)) in
    omega (arith, split, some, same, before, after, told-long, said-long)

few-joined : (who : ℕ) (ws : List Waiter) → length (filter (λ w. not (is_joining who w)) ws) ≤ length ws
few-joined who ws = let split = parts (is_joining who) ws in omega (arith, split)

module _ (image : Image) (j : Joins) where
  abbrev pub JoinFalls : FineAct → Exchange → Type 0
  JoinFalls act moved = joins_cost image (join_after j act moved) + taken_by image act moved ≤ joins_cost image j + given_by image act moved

  left-told : (who : ThreadIx) (joined : Bool) (said : FineAct)
      → (if joined then FineAct.Shown (record { thread = who; act = Act.Left who (replies_of (all_joined j who.0)) }) More.Nothing else FineAct.Unseen (Unseen.Shut who)) ≡ said
      → is_shut_act said ≡ false → replies_of (all_joined j who.0) ≡ woken_in (act_in said)
  left-told who true said h shown = ap (λ (act : FineAct). woken_in (act_in act)) h
  left-told who false said h shown = absurd (true≢false (ap is_shut_act h ∙ shown))

  sought-there : (who : ThreadIx) (moved : Exchange) → join_finds j moved ≡ true → is_sought who moved ≡ true → finds j.waiters j.noted moved ≡ true
  sought-there who (Exchange.sought thread None) found is = absurd (false≢true is)
  sought-there who (Exchange.sought thread (Some before)) found is = found
  sought-there who moved found is = absurd (false≢true is)

  marked-there : (who : ThreadIx) (moved : Exchange) → join_finds j moved ≡ true → is_marked who moved ≡ true → finds j.waiters j.noted moved ≡ true
  marked-there who (Exchange.mark deadline mark) found is = found
  marked-there who moved found is = absurd (false≢true is)

  join-shown : (moved : Exchange) (t : ThreadIx) (more : More) (act : Act) → join_takes (FineAct.Shown (record { thread = t; act = act }) more) ≡ true
      → join_says j moved (FineAct.Shown (record { thread = t; act = act }) more) ≡ FineAct.Shown (record { thread = t; act = act }) more
      → JoinFalls (FineAct.Shown (record { thread = t; act = act }) more) moved
  join-shown moved t more (Act.Join who Answer.Wait) takes says =
      let w = caller_in moved in
      let few = few-without w.thread.0 j.waiters in
      let long = length-append (without w.thread.0 j.waiters) (w ∷ []) in omega (arith, few, long)
  join-shown moved t more (Act.Join who (Answer.Now reply)) takes says = omega arith
  join-shown moved t more (Act.Left who woken) takes says =
      let same = left-told who (is_joined j who.0) (FineAct.Shown (record { thread = t; act = Act.Left who woken }) more) says refl in
      let less = joined-less who.0 j.waiters in
      let long : length (replies_of (all_joined j who.0)) ≡ length woken = ap length same in omega (arith, less, long)
  join-shown moved t more (Act.TimedOut who) takes says =
      let found = looks-found (join_finds j moved) t more (Act.TimedOut who) _ says refl in
      let less = late-less j.waiters j.noted who moved (marked-there who moved found) in omega (arith, less)
  join-shown moved t more (Act.Cut who) takes says =
      let found = looks-found (join_finds j moved) t more (Act.Cut who) _ says refl in
      let less = cut-less j.waiters j.noted who moved (sought-there who moved found) in omega (arith, less)
  join-shown moved t more act takes says = absurd (false≢true takes)

  roused-cost : (who : ThreadIx) (there : Option Context) → is_some there ≡ true → parked_cost image (context_in (roused who there)) ≡ place_cost image there
  roused-cost who None h = absurd (false≢true h)
  roused-cost who (Some c) h = refl

  rouses : (who : ThreadIx) (b : Bool) → (if b then FineAct.Unseen (Unseen.Rouse who) else FineAct.Unseen Unseen.Void) ≡ FineAct.Unseen (Unseen.Rouse who) → b ≡ true
  rouses who true h = refl
  rouses who false h = absurd (true≢false (ap is_void h))

  pub join-falls : (act : FineAct) (moved : Exchange) → join_takes act ≡ true → join_says j moved act ≡ act → join_moves j act moved ≡ moved → JoinFalls act moved
  join-falls (FineAct.Shown event more) moved takes says moves = join-shown moved event.thread more event.act takes says
  join-falls (FineAct.Unseen Unseen.Void) moved takes says moves = omega arith
  join-falls (FineAct.Unseen (Unseen.Shut who)) moved takes says moves = let few = few-joined who.0 j.waiters in omega (arith, few)
  join-falls (FineAct.Unseen (Unseen.Unshut who)) moved takes says moves = omega arith
  join-falls (FineAct.Unseen Unseen.Sleep) moved takes says moves =
      let set = total-set (place_cost image) None refl j.asleep (context_in moved).thread (Some (context_in moved)) in omega (arith, set)
  join-falls (FineAct.Unseen (Unseen.Rouse who)) moved takes says moves =
      let set = total-set (place_cost image) None refl j.asleep who.0 None in
      let same = roused-cost who (asleep_at j who.0) (rouses who (sleeps j who.0) says) in
      let there : parked_cost image (context_in (roused who (asleep_at j who.0))) ≡ parked_cost image (context_in moved) = ap (λ (m : Exchange). parked_cost image (context_in m)) moves in
      omega (arith, set, same, there)
  join-falls (FineAct.Unseen unseen) moved takes says moves = absurd (false≢true takes)
