-- The first phase of a step is the first of its fine steps.
use Rattle.std.proofs.Common.{◌≡◌, ℕ, ◌+◌, Bool, true, false, [], ◌∷◌, drop, refl, sym, ap, ◌∙◌, not, Option, Some, None}
use Rattle.std.specs.Prelude.{◌==◌, nat_lt, if◌then◌else◌, is_some, unwrap_or}
use Rattle.std.proofs.lemmas.Bool.{and_parts, false≢true}
use Rattle.um_base.specs.declared.ask.Ask.{Ask}
use Rattle.um_base.specs.declared.image.Image.{Image}
use Rattle.um_base.specs.declared.limits.TheConstants.{ROWS}
use Rattle.um_base.specs.declared.names.Addr.{Addr}
use Rattle.um_base.specs.Places.{own_row}
use Rattle.um_machine.specs.declared.pending.Amount.{Amount}
use Rattle.um_machine.specs.declared.pending.Pending.{Pending}
use Rattle.um_machine.specs.Order.{Steps}
use Rattle.um_fine.specs.Addresses.{row_named}
use Rattle.um_fine.specs.Context.{Context}
use Rattle.um_fine.specs.Follows.{filled_up}
use Rattle.um_fine.specs.Places.{Todo, Todos, armed_for, clearing, drops, fine_steps, if_patient, is_timer_start, may_wait, noted_cell, noting, passes, settling}
use Rattle.um_processor.specs.declared.phase.Phase.{Phase}
use Rattle.um_processor.specs.declared.running.Running.{Running}
use Rattle.um_processor.specs.Phases.{act_phase, clearing_phase, first_of, first_phase, is_own, is_untimed, noting_phase, own_phase, passed_to, settled_mark, showing}
use Rattle.um_tables.specs.Contexts.{steps_behind}
use Rattle.um_processor.specs.Processors.{Ready, acting_by, in_phase, processor_of, ready_for, ready_of, settles_if, todo_behind, todo_in, visiting, with_todo}

-- the mark that is ready is the one to settle
settles : (image : Image) (c : Context) (p : Pending) (o : Option ℕ) → settles_if (is_some o) (unwrap_or o 0) (settled_mark image c p) ≡ settling image c o p
settles image c p None = refl
settles image c p (Some d) = refl

-- an act that may wait in a cell: the cell is noted first, where it isn't yet
noted-places : (image : Image) (c : Context) (cell : Option ℕ) (phase : Phase) (k : Ready) (steps : Steps) (tail : Todos) → k.cell ≡ unwrap_or cell 0
    → todo_in phase steps k ≡ tail → acting_by (first_of steps) steps k ≡ tail → todo_in (noting_phase c cell phase) steps k ≡ noting image c cell tail
noted-places image c None phase k steps tail at here acts = here
noted-places image c (Some site) phase k steps tail at here acts = by (is_some c.noted)
  where
    by : (b : Bool) → todo_in (if b then phase else Phase.Note) steps k ≡ (if b then tail else Todo.note site ∷ tail)
    by true = here
    by false = λ i. Todo.note (at i) ∷ acts i

armed-is : (image : Image) (c : Context) (a : Addr) (ask : Ask) → is_timer_start ask ≡ false → armed_for image c (Pending.Work a ask) ≡ c.until
armed-is image c a (Ask.TimerStart d) h = absurd (false≢true (sym h))
armed-is image c a ask h = refl

noted-first : (image : Image) (steps : Steps) → noted_cell image (first_of steps ∷ []) ≡ noted_cell image steps
noted-first image [] = refl
noted-first image (Pending.Work a ask ∷ rest) = refl
noted-first image (Pending.Join who timeout ∷ rest) = refl
noted-first image (Pending.FutexWait a value timeout ∷ rest) = refl
noted-first image (p ∷ rest) = refl

not-true : (b : Bool) → not b ≡ true → b ≡ false
not-true true h = absurd (false≢true h)
not-true false h = refl

no-some : {A : Type 0} (o : Option A) → is_some o ≡ false → o ≡ None
no-some None h = refl
no-some (Some x) h = absurd (false≢true (sym h))

module _ (image : Image) (c : Context) (rest : Steps) where
  -- an act that can't wait, for which nothing is armed, stands alone
  pub untimed-shows : (a : Addr) (ask : Ask) → is_untimed c ask ≡ true → let p = Pending.Work a ask in Todo.show p rest ∷ [] ≡ fine_steps image c p rest
  untimed-shows a ask h =
      let p = Pending.Work a ask in
      let parts = and_parts _ _ h in
      let waits : may_wait ask ≡ false = not-true (may_wait ask) (and_parts _ _ parts.0).0 in
      let starts : is_timer_start ask ≡ false = not-true (is_timer_start ask) (and_parts _ _ parts.0).1 in
      let none : armed_for image c p ≡ None = armed-is image c a ask starts ∙ no-some c.until (not-true (is_some c.until) parts.1) in
      sym ((λ i. noting image c (if_patient (waits i) (168 + row_named image a)) (Todo.show p rest ∷ settling image c (none i) p)))

  work-places : (a : Addr) (ask : Ask) (b : Bool) → is_untimed c ask ≡ b
      → let p = Pending.Work a ask in todo_in (act_phase image c p b) (p ∷ rest) (ready_for image c p (first_of rest)) ≡ fine_steps image c p rest
  work-places a ask true h = untimed-shows a ask h
  work-places a ask false h =
      let p = Pending.Work a ask in
      let tail = ap (λ (todo : Todos). Todo.show p rest ∷ todo) (settles image c p (armed_for image c p)) in
      noted-places image c (noted_cell image (p ∷ [])) Phase.Act (ready_for image c p (first_of rest)) (p ∷ rest) _ refl tail tail

  -- the fine steps of a step are those from its first phase on
  pub places : (p : Pending) → todo_in (first_phase image c p (first_of rest)) (p ∷ rest) (ready_for image c p (first_of rest)) ≡ fine_steps image c p rest
  places (Pending.Probe a (Amount.Bytes n)) = refl
  places (Pending.Probe a (Amount.MessageOf b)) = refl
  places (Pending.CopyIn a (Amount.Bytes n)) = refl
  places (Pending.CopyIn a (Amount.MessageOf b)) = refl
  places (Pending.Work a ask) = work-places a ask (is_untimed c ask) refl
  places (Pending.Join who timeout) =
      let p = Pending.Join who timeout in
      let tail = ap (λ (todo : Todos). Todo.show p rest ∷ todo) (settles image c p (armed_for image c p)) in
      noted-places image c (noted_cell image (p ∷ [])) Phase.Act (ready_for image c p (first_of rest)) (p ∷ rest) _ refl tail tail
  places (Pending.FutexWait a value timeout) =
      let p = Pending.FutexWait a value timeout in
      let tail = ap (λ (todo : Todos). Todo.hold ∷ Todo.read_claim None ∷ Todo.region_load ∷ Todo.show p rest ∷ Todo.read_done None ∷ Todo.let_go ∷ todo) (settles image c p (armed_for image c p)) in
      noted-places image c (noted_cell image (p ∷ [])) Phase.Hold (ready_for image c p (first_of rest)) (p ∷ rest) _ refl tail tail
  places (Pending.Arm ticks) =
      let p = Pending.Arm ticks in
      noted-places image c (noted_cell image (first_of rest ∷ [])) Phase.Owe (ready_for image c p (first_of rest)) (p ∷ rest) _ refl refl refl
      ∙ ap (λ (cell : Option ℕ). noting image c cell (Todo.owe ∷ Todo.show p rest ∷ [])) (noted-first image rest)
  places (Pending.ClearInit a) = by (row_named image a == own_row image c.thread)
    where
      by : (b : Bool) → let p = Pending.ClearInit a in todo_in (clearing_phase b) (p ∷ rest) (ready_for image c p (first_of rest)) ≡ clearing image b p rest
      by true = refl
      by false = refl
  places p = refl

-- a step is always left
full-showing : (image : Image) (c : Context) (steps : Steps) (todo : Todos) → filled_up image c (showing steps todo) ≡ showing steps todo
full-showing image c [] todo = refl
full-showing image c (p ∷ rest) todo = refl

pub full : (image : Image) (c : Context) (phase : Phase) (steps : Steps) (k : Ready)
    → filled_up image c (todo_in phase steps k) ≡ todo_in phase steps k
full image c Phase.Access steps k = full-showing image c steps _
full image c Phase.Start steps k = full-showing image c steps _
full image c Phase.Act steps k = full-showing image c steps _
full image c Phase.Show steps k = full-showing image c steps _
full image c phase steps k = refl

-- a phase of the thread's own next step, and any other, in which the thread is put back
pub own-is : (phase : Phase) (r : Running) → is_own phase ≡ true → in_phase phase r ≡ with_todo r (todo_in phase (steps_behind r.visited r.context.value.pending) (ready_of r))
own-is Phase.Idle r h = absurd (false≢true h)
own-is Phase.Pass r h = absurd (false≢true h)
own-is Phase.Drop r h = absurd (false≢true h)
own-is Phase.Look r h = absurd (false≢true h)
own-is Phase.TellCut r h = absurd (false≢true h)
own-is Phase.Rouse r h = absurd (false≢true h)
own-is Phase.AddRoused r h = absurd (false≢true h)
own-is Phase.Handle r h = absurd (false≢true h)
own-is Phase.Paid r h = absurd (false≢true h)
own-is phase r h = refl

-- a first phase is such a phase
noting-own : (c : Context) (cell : Option ℕ) (phase : Phase) → is_own phase ≡ true → is_own (noting_phase c cell phase) ≡ true
noting-own c None phase h = h
noting-own c (Some site) phase h = by (is_some c.noted)
  where
    by : (b : Bool) → is_own (if b then phase else Phase.Note) ≡ true
    by true = h
    by false = refl

pub first-own : (image : Image) (c : Context) (p later : Pending) → is_own (first_phase image c p later) ≡ true
first-own image c (Pending.Probe a (Amount.Bytes n)) later = refl
first-own image c (Pending.Probe a (Amount.MessageOf b)) later = refl
first-own image c (Pending.CopyIn a (Amount.Bytes n)) later = refl
first-own image c (Pending.CopyIn a (Amount.MessageOf b)) later = refl
first-own image c (Pending.Arm ticks) later = noting-own c (noted_cell image (later ∷ [])) Phase.Owe refl
first-own image c (Pending.FutexWait a value timeout) later = noting-own c (noted_cell image (Pending.FutexWait a value timeout ∷ [])) Phase.Hold refl
first-own image c (Pending.Join who timeout) later = noting-own c (noted_cell image (Pending.Join who timeout ∷ [])) Phase.Act refl
first-own image c (Pending.Work a ask) later = by (is_untimed c ask)
  where
    by : (b : Bool) → is_own (act_phase image c (Pending.Work a ask) b) ≡ true
    by true = refl
    by false = noting-own c (noted_cell image (Pending.Work a ask ∷ [])) Phase.Act refl
first-own image c (Pending.ClearInit a) later = by (row_named image a == own_row image c.thread)
  where
    by : (b : Bool) → is_own (clearing_phase b) ≡ true
    by true = refl
    by false = refl
first-own image c p later = refl

-- a processor that is ready for a step
pub readied : (image : Image) (r : Running) (p : Pending) (rest : Steps) → r.phase ≡ first_phase image r.context.value p (first_of rest)
    → ready_of r ≡ ready_for image r.context.value p (first_of rest) → steps_behind r.visited r.context.value.pending ≡ p ∷ rest
    → processor_of r ≡ with_todo r (fine_steps image r.context.value p rest)
readied image r p rest phase ready steps =
    let c = r.context.value in
    (λ i. in_phase (phase i) r)
    ∙ (own-is (first_phase image c p (first_of rest)) r (first-own image c p (first_of rest))
    ∙ ap (with_todo r) ((λ i. todo_in (first_phase image c p (first_of rest)) (steps i) (ready i)) ∙ places image c rest p))

own-list : (phase : Phase) (r : Running) → in_phase (own_phase phase) r ≡ with_todo r (todo_in phase (steps_behind r.visited r.context.value.pending) (ready_of r))
own-list Phase.Idle r = refl
own-list Phase.Pass r = refl
own-list Phase.Drop r = refl
own-list Phase.Look r = refl
own-list Phase.TellCut r = refl
own-list Phase.Rouse r = refl
own-list Phase.AddRoused r = refl
own-list Phase.Handle r = refl
own-list Phase.Paid r = refl
own-list phase r = refl

-- after a visit the next one comes, or the step
step-behind : (image : Image) (r : Running) (row : ℕ) → let z = record r { row = row; visited = true; phase = own_phase r.next } in
    processor_of z ≡ with_todo r (filled_up image r.context.value (todo_behind r))
step-behind image r row =
    own-list r.next (record r { row = row; visited = true; phase = own_phase r.next })
    ∙ ap (with_todo r) (sym (full image r.context.value r.next (drop 1 r.context.value.pending) (ready_of r)))

pub passed : (image : Image) (r : Running) (row : ℕ)
    → processor_of (visiting row Phase.Pass r) ≡ with_todo r (filled_up image r.context.value (passes (passed_to r.context.value.pending) row (todo_behind r)))
passed image r row = by (nat_lt row ROWS)
  where
    by : (b : Bool) → let phase = if b then Phase.Pass else own_phase r.next in
        processor_of (record r { row = row; visited = true; phase = phase })
        ≡ with_todo r (filled_up image r.context.value (if b then Todo.pass (passed_to r.context.value.pending) row ∷ todo_behind r else todo_behind r))
    by true = refl
    by false = step-behind image r row

pub dropped : (image : Image) (r : Running) (row : ℕ)
    → processor_of (visiting row Phase.Drop r) ≡ with_todo r (filled_up image r.context.value (drops row (todo_behind r)))
dropped image r row = by (nat_lt row ROWS)
  where
    by : (b : Bool) → let phase = if b then Phase.Drop else own_phase r.next in
        processor_of (record r { row = row; visited = true; phase = phase })
        ≡ with_todo r (filled_up image r.context.value (if b then Todo.drop row ∷ todo_behind r else todo_behind r))
    by true = refl
    by false = step-behind image r row
