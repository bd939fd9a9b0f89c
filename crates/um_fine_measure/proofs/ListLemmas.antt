-- What a processor's list costs: the fine steps of a pending step, the claims and wakes after an event, and the cleaning of an object.
use Rattle.std.proofs.Common.{◌≡◌, ◌<◌, ◌≤◌, ℕ, suc, ◌+◌, ◌-◌, ◌*◌, Bool, true, false, List, [], ◌∷◌, ◌++◌, length, refl, ap, arith, if◌then◌else◌, Option, Some, None}
use Rattle.std.specs.Prelude.{◌==◌, ◌&&◌, not, is_some, nat_lt}
use Rattle.std.specs.List.{list_all}
use Rattle.std.proofs.lemmas.Bool.{and_from, and_parts, false≢true, ltb-true}
use Rattle.um_base.specs.declared.act.Act.{Act}
use Rattle.um_base.specs.declared.act.Answer.{Answer}
use Rattle.um_base.specs.declared.ask.Told.{Told}
use Rattle.um_base.specs.declared.names.Addr.{Addr}
use Rattle.um_base.specs.declared.names.Reply.{Reply}
use Rattle.um_base.specs.declared.image.Image.{Image}
use Rattle.um_base.specs.declared.limits.TheConstants.{ROWS}
use Rattle.um_base.specs.declared.names.ThreadIx.{ThreadIx}
use Rattle.um_base.specs.Places.{own_row}
use Rattle.um_machine.specs.declared.pending.Amount.{Amount}
use Rattle.um_machine.specs.declared.pending.Pending.{Pending}
use Rattle.um_machine.specs.Order.{Steps}
use Rattle.um_fine.specs.Addresses.{row_named}
use Rattle.um_fine.specs.Answers.{act_in, answer_in, is_done_in, outcome_in, thread_in, woken_in}
use Rattle.um_fine.specs.Context.{Context}
use Rattle.um_fine.specs.Follows.{behind_step, end_calls, filled_up, looks_behind, looks_for, rereads, told_all, unless_loaded, waits_behind, wakes}
use Rattle.um_fine.specs.Places.{Todo, Todos, armed_for, but, clean_pairs, cleaning_of, clearing, drops, end_of_turn, fine_steps, next_steps, noted_cell, noting, on_memory, passes, settling, sized, with_cleaning}
use Rattle.um_fine.specs.Steps.{Exchange, FineStep}
use Rattle.um_fine_measure.specs.Measure.{ahead_cost, cleaning_cost, cost_if_running, list_cost, rest_cost, running_cost, fine_cost, steps_cost, todos_cost, put_back_cost, reread_cost, rouse_cost, waiting_cost}
use Rattle.um_fine_measure.specs.Ready.{is_round}

-- what stands after an event because of it
abbrev pub behind_cost : Context → Pending → Exchange → ℕ
behind_cost c (Pending.Work a ask) moved = waiting_cost * length (outcome_in moved).woken
behind_cost c Pending.Exit moved = length c.claims
behind_cost c Pending.Killed moved = length c.claims
behind_cost c (Pending.Answer reply to) moved = length c.claims
behind_cost c (Pending.Fatal reason cause) moved = length c.claims
behind_cost c (Pending.ClearInit a) moved = 1
behind_cost c q moved = 0

-- what comes for others because of it: a look for one who is stopped, and the wakes of a futex
abbrev pub looks_cost : Pending → Act → ℕ
looks_cost (Pending.Abort who) act = rouse_cost
looks_cost (Pending.Continue who) act = rouse_cost
looks_cost (Pending.FutexWake a all) act = waiting_cost * length (woken_in act)
looks_cost q act = 0

-- where an act that may wait is to wait, the own word is read once more
abbrev pub again_cost : Answer → ℕ
again_cost Answer.Wait = reread_cost
again_cost answer = 0

abbrev pub waits_cost : Pending → Act → ℕ
waits_cost (Pending.Work a ask) act = again_cost (answer_in act)
waits_cost (Pending.Join who timeout) act = again_cost (answer_in act)
waits_cost (Pending.FutexWait a value timeout) act = again_cost (answer_in act)
waits_cost q act = 0

pub told-long : (woken : List (ThreadIx × Reply)) → length (told_all woken) ≡ length woken
told-long [] = refl
told-long (w ∷ woken) = ap suc (told-long woken)

module _ (image : Image) where
  module _ (ahead rest : ℕ) where
    abbrev cost : Todos → ℕ
    cost todo = list_cost image ahead rest todo

    -- Visits.

    -- a visit of a row costs one, and there are as many as rows from it on
    visit-cost : (x : ℕ) (q : Todo) (todo : Todos) → (x < ROWS → cost (q ∷ todo) ≤ ROWS - x + cost todo) → cost (if nat_lt x ROWS then q ∷ todo else todo) ≤ ROWS - x + cost todo
    visit-cost x q todo here = by (nat_lt x ROWS) refl
      where
        by : (b : Bool) → nat_lt x ROWS ≡ b → cost (if b then q ∷ todo else todo) ≤ ROWS - x + cost todo
        by true h = here (ltb-true x ROWS h)
        by false h = omega arith

    pub passes-cost : (who x : ℕ) (todo : Todos) → cost (passes who x todo) ≤ ROWS - x + cost todo
    passes-cost who x todo = visit-cost x (Todo.pass who x) todo (λ below. omega (arith, below))

    pub drops-cost : (x : ℕ) (todo : Todos) → cost (drops x todo) ≤ ROWS - x + cost todo
    drops-cost x todo = visit-cost x (Todo.drop x) todo (λ below. omega (arith, below))

    pub clean-cost : (who x : ℕ) (todo : Todos) → cost (clean_pairs who x todo) ≤ ROWS - x + cost todo
    clean-cost who x todo = visit-cost x (Todo.clean_pair who x) todo (λ below. omega (arith, below))

    -- The fine steps of a pending step.

    sized-cost : (amount : Amount) (todo : Todos) → cost (sized image amount todo) ≤ 1 + cost todo
    sized-cost (Amount.Bytes n) todo = omega arith
    sized-cost (Amount.MessageOf a) todo = omega arith

    noting-cost : (c : Context) (site : Option ℕ) (todo : Todos) → cost (noting image c site todo) ≤ 1 + cost todo
    noting-cost c None todo = omega arith
    noting-cost c (Some site) todo = by (is_some c.noted)
      where
        by : (b : Bool) → cost (if b then todo else Todo.note site ∷ todo) ≤ 1 + cost todo
        by true = omega arith
        by false = omega arith

    settling-cost : (c : Context) (until : Option ℕ) (q : Pending) → todos_cost image (settling image c until q) ≤ 1
    settling-cost c None q = omega arith
    settling-cost c (Some deadline) q = omega arith

    clearing-cost : (own : Bool) (a : Addr) (steps : Steps) → cost (clearing image own (Pending.ClearInit a) steps) ≤ ahead + fine_cost image (Pending.ClearInit a) + steps_cost image steps + put_back_cost
    clearing-cost true a steps = omega arith
    clearing-cost false a steps = omega arith

    fine-cost : (c : Context) (q : Pending) (steps : Steps) → cost (fine_steps image c q steps) ≤ ahead + fine_cost image q + steps_cost image steps + put_back_cost
    fine-cost c (Pending.Probe a amount) steps = let sized = sized-cost amount (on_memory (Pending.Probe a amount) steps) in omega (arith, sized)
    fine-cost c (Pending.CopyIn a amount) steps = let sized = sized-cost amount (on_memory (Pending.CopyIn a amount) steps) in omega (arith, sized)
    fine-cost c (Pending.Work a ask) steps =
        let q = Pending.Work a ask in
        let noted = noting-cost c (noted_cell image (q ∷ [])) (Todo.show q steps ∷ settling image c (armed_for image c q) q) in
        let settled = settling-cost c (armed_for image c q) q in omega (arith, noted, settled)
    fine-cost c (Pending.Join who timeout) steps =
        let q = Pending.Join who timeout in
        let noted = noting-cost c (noted_cell image (q ∷ [])) (Todo.show q steps ∷ settling image c (armed_for image c q) q) in
        let settled = settling-cost c (armed_for image c q) q in omega (arith, noted, settled)
    fine-cost c (Pending.FutexWait a value timeout) steps =
        let q = Pending.FutexWait a value timeout in
        let noted = noting-cost c (noted_cell image (q ∷ [])) (on_memory q steps ++ settling image c (armed_for image c q) q) in
        let settled = settling-cost c (armed_for image c q) q in omega (arith, noted, settled)
    fine-cost c (Pending.Arm ticks) steps =
        let noted = noting-cost c (noted_cell image steps) (Todo.owe ∷ Todo.show (Pending.Arm ticks) steps ∷ []) in omega (arith, noted)
    fine-cost c (Pending.ClearInit a) steps = clearing-cost (row_named image a == own_row image c.thread) a steps
    fine-cost c q steps = omega arith

    turn-end : (ended : Bool) → 1 ≤ rest → cost (end_of_turn image ended) ≤ rest
    turn-end true some = omega (arith, some)
    turn-end false some = omega arith

    -- the fine steps of what a thread has to make next
    pub next-cost : (c : Context) (steps : Steps) → ahead + steps_cost image steps + put_back_cost ≤ rest → cost (next_steps image c steps) ≤ rest
    next-cost c [] h = turn-end c.ended (omega (arith, h))
    next-cost c (Pending.Resume ∷ steps) h = omega arith
    next-cost c (Pending.Inherit who ∷ q ∷ steps) h =
        let visits = passes-cost who.0 (but (own_row image c.thread) 0) (fine_steps image c q steps) in
        let fine = fine-cost c q steps in omega (arith, visits, fine, h)
    next-cost c (Pending.Drops from ∷ q ∷ steps) h =
        let visits = drops-cost from (fine_steps image c q steps) in
        let fine = fine-cost c q steps in omega (arith, visits, fine, h)
    next-cost c (q ∷ steps) h = let fine = fine-cost c q steps in omega (arith, fine, h)

    -- What stands after an event.

    wakes-cost : (ws : List (ThreadIx × Told)) (todo : Todos) → cost (wakes ws todo) ≡ waiting_cost * length ws + cost todo
    wakes-cost [] todo = omega arith
    wakes-cost (w ∷ ws) todo = let more = wakes-cost ws todo in omega (arith, more)

    ends-cost : (xs : List ℕ) (todo : Todos) → cost (end_calls xs todo) ≡ length xs + cost todo
    ends-cost [] todo = omega arith
    ends-cost (x ∷ xs) todo = let more = ends-cost xs todo in omega (arith, more)

    pub behind-cost : (c : Context) (q : Pending) (moved : Exchange) (todo : Todos) → cost (behind_step image c q moved todo) ≤ behind_cost c q moved + cost todo
    behind-cost c (Pending.Work a ask) moved todo = let more = wakes-cost (outcome_in moved).woken todo in omega (arith, more)
    behind-cost c Pending.Exit moved todo = let more = ends-cost c.claims todo in omega (arith, more)
    behind-cost c Pending.Killed moved todo = let more = ends-cost c.claims todo in omega (arith, more)
    behind-cost c (Pending.Answer reply to) moved todo = let more = ends-cost c.claims todo in omega (arith, more)
    behind-cost c (Pending.Fatal reason cause) moved todo = let more = ends-cost c.claims todo in omega (arith, more)
    behind-cost c (Pending.ClearInit a) moved todo = by (row_named image a == own_row image c.thread)
      where
        by : (b : Bool) → cost (if b then Todo.end_call (own_row image c.thread) ∷ todo else todo) ≤ 1 + cost todo
        by true = omega arith
        by false = omega arith
    behind-cost c q moved todo = omega arith

    pub told-cost : (woken : List (ThreadIx × Reply)) (todo : Todos) → cost (wakes (told_all woken) todo) ≡ waiting_cost * length woken + cost todo
    told-cost woken todo = let more = wakes-cost (told_all woken) todo in let long = told-long woken in omega (arith, more, long)

    pub looks-cost : (c : Context) (q : Pending) (e : FineStep) (todo : Todos) → cost (looks_behind image c q e todo) ≤ looks_cost q (act_in e.act) + cost todo
    looks-cost c (Pending.Abort who) e todo = by (is_done_in (act_in e.act) && not (who.0 == c.thread))
      where
        noted : (note : Option ℕ) → cost (elim note as (λ _. Todos) [ Some site ↦ Todo.look who.0 site (thread_in e.word).number ∷ todo | None ↦ Todo.rouse who.0 ∷ todo ]) ≤ rouse_cost + cost todo
        noted None = omega arith
        noted (Some site) = omega arith

        by : (b : Bool) → cost (if b then looks_for image who.0 (thread_in e.word) todo else todo) ≤ rouse_cost + cost todo
        by true = noted (thread_in e.word).note
        by false = omega arith
    looks-cost c (Pending.Continue who) e todo = by (is_done_in (act_in e.act))
      where
        by : (b : Bool) → cost (if b then Todo.rouse who.0 ∷ todo else todo) ≤ rouse_cost + cost todo
        by true = omega arith
        by false = omega arith
    looks-cost c (Pending.FutexWake a all) e todo = let more = told-cost (woken_in (act_in e.act)) todo in omega (arith, more)
    looks-cost c q e todo = omega arith

    pub unless-cost : (loaded : Bool) (todo : Todos) → cost (unless_loaded loaded todo) ≤ cost todo
    unless-cost true (Todo.region_load ∷ todo) = omega arith
    unless-cost loaded todo = omega arith

    -- a list of steps round an event alone
    pub round-cost : (todo : Todos) → list_all is_round todo ≡ true → cost todo ≡ rest + todos_cost image todo
    round-cost [] h = omega arith
    round-cost (Todo.show q steps ∷ todo) h = absurd (false≢true h)
    round-cost (Todo.park ∷ todo) h = absurd (false≢true h)
    round-cost (Todo.done ∷ todo) h = absurd (false≢true h)
    round-cost (Todo.sleep ∷ todo) h = absurd (false≢true h)
    round-cost (Todo.paid ∷ todo) h = absurd (false≢true h)
    round-cost (q ∷ todo) h = let more = round-cost todo h in omega (arith, more)

    -- a list of such steps, with a read of the own word behind them
    total-append : (todo more : Todos) → todos_cost image (todo ++ more) ≡ todos_cost image todo + todos_cost image more
    total-append [] more = omega arith
    total-append (q ∷ todo) more = let rest = total-append todo more in omega (arith, rest)

    all-append : (todo more : Todos) → list_all is_round todo ≡ true → list_all is_round more ≡ true → list_all is_round (todo ++ more) ≡ true
    all-append [] more h k = k
    all-append (q ∷ todo) more h k = let parts = and_parts (is_round q) (list_all is_round todo) h in and_from (is_round q) (list_all is_round (todo ++ more)) parts.0 (all-append todo more parts.1 k)

    rereads-cost : (answer : Answer) (site : Option ℕ) (todo : Todos) → list_all is_round todo ≡ true → cost (rereads image answer site todo) ≤ rest + todos_cost image todo + again_cost answer
    rereads-cost Answer.Wait (Some site) todo h =
        let all = round-cost (todo ++ Todo.reread site ∷ []) (all-append todo (Todo.reread site ∷ []) h refl) in
        let more = total-append todo (Todo.reread site ∷ []) in omega (arith, all, more)
    rereads-cost Answer.Wait None todo h = let all = round-cost todo h in omega (arith, all)
    rereads-cost (Answer.Now reply) site todo h = let all = round-cost todo h in omega (arith, all)

    unread : (answer : Answer) (todo : Todos) → cost (rereads image answer None todo) ≡ cost todo
    unread Answer.Wait todo = refl
    unread (Answer.Now reply) todo = refl

    pub waits-cost : (q : Pending) (e : FineStep) (todo : Todos) → list_all is_round todo ≡ true → cost (waits_behind image q e todo) ≤ rest + todos_cost image todo + waits_cost q (act_in e.act)
    waits-cost (Pending.Work a ask) e todo h = rereads-cost (answer_in (act_in e.act)) (noted_cell image (Pending.Work a ask ∷ [])) todo h
    waits-cost (Pending.Join who timeout) e todo h = rereads-cost (answer_in (act_in e.act)) (noted_cell image (Pending.Join who timeout ∷ [])) todo h
    waits-cost (Pending.FutexWait a value timeout) e todo h = rereads-cost (answer_in (act_in e.act)) (noted_cell image (Pending.FutexWait a value timeout ∷ [])) todo h
    waits-cost q e todo h =
        let all = round-cost todo h in
        let none = unread (answer_in (act_in e.act)) todo in omega (arith, all, none)

    -- The cleaning of an object.

    block-cost : (x : ℕ) (who : Option ℕ) (todo : Todos) → cost (cleaning_of x who ++ todo) ≤ cleaning_cost + cost todo
    block-cost x None todo = omega arith
    block-cost x (Some who) todo = omega arith

    pub cleaning-cost : (x : ℕ) (who : Option ℕ) (todo : Todos) → cost (with_cleaning (cleaning_of x who) todo) ≤ cleaning_cost + cost todo
    cleaning-cost x None [] = omega arith
    cleaning-cost x (Some who) [] = omega arith
    cleaning-cost x who (Todo.clean_pair u y ∷ todo) = let more = cleaning-cost x who todo in omega (arith, more)
    cleaning-cost x who (Todo.wipe y ∷ todo) = let more = cleaning-cost x who todo in omega (arith, more)
    cleaning-cost x who (Todo.vacate y ∷ todo) = let more = cleaning-cost x who todo in omega (arith, more)
    cleaning-cost x who (Todo.recycle y ∷ todo) = let more = cleaning-cost x who todo in omega (arith, more)
    cleaning-cost x who (q ∷ todo) = block-cost x who (q ∷ todo)

  -- Whole lists.

  abbrev pub left_on : Context → Todos → ℕ
  left_on c todo = list_cost image (ahead_cost image c) (rest_cost image c) todo

  pub filled-cost : (c : Context) (todo : Todos) → left_on c (filled_up image c todo) ≤ left_on c todo
  filled-cost c [] = next-cost (ahead_cost image c) (rest_cost image c) c c.pending (omega arith)
  filled-cost c (q ∷ todo) = omega arith

  pub running-most : (c : Context) (todo : Todos) → cost_if_running image c todo ≤ running_cost image c todo
  running-most c [] = omega arith
  running-most c (q ∷ todo) = omega arith
