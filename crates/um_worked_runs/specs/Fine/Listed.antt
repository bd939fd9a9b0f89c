-- The list of a processor, tested: what stands behind each step that belongs to an event, that a cleaning stands together, and that the thread's own
-- steps are those that the machine offers it. Where a part of the relation equates lists of steps, their lengths are compared.
use Rattle.std.specs.Prelude.{ℕ, ◌+◌, Bool, true, false, ◌==◌, ◌&&◌, ◌||◌, not, [], ◌∷◌, length, Some, None, is_some}
use Rattle.um_base.specs.declared.image.Image.{Image}
use Rattle.um_base.specs.Places.{own_row, thread_of_row}
use Rattle.um_machine.specs.declared.pending.Pending.{Pending}
use Rattle.um_machine.specs.Order.{Steps}
use Rattle.um_machine.specs.State.{instruction_at}
use Rattle.um_fine.specs.Addresses.{row_named}
use Rattle.um_fine.specs.Context.{Context}
use Rattle.um_fine.specs.Places.{Todo, Todos, fine_steps, noted_cell}
use Rattle.um_fine.specs.Scheduler.{waits}
use Rattle.um_refinement.specs.Frames.{starts_one}
use Rattle.um_refinement.specs.Lists.{edits_step, has_steps, is_arm, looked}
use Rattle.um_refinement.specs.Offers.{behind_shown, is_over}
use Rattle.um_worked_runs.specs.Fine.Compared.{implies, same_option}

-- What stands behind a step that belongs to an event.

abbrev pub is_on_memory : Pending → Bool
is_on_memory (Pending.Load to a n) = true
is_on_memory (Pending.Store a n value) = true
is_on_memory (Pending.Fetch a) = true
is_on_memory (Pending.Probe a amount) = true
is_on_memory (Pending.CopyIn a amount) = true
is_on_memory (Pending.CopyOut a) = true
is_on_memory (Pending.CopyStr a) = true
is_on_memory (Pending.FutexWait a value timeout) = true
is_on_memory (Pending.FutexWake a all) = true
is_on_memory q = false

abbrev pub is_wait_over : Todos → Bool
is_wait_over [] = true
is_wait_over (Todo.settle deadline mark ∷ []) = true
is_wait_over (Todo.reread site ∷ []) = true
is_wait_over (Todo.settle deadline mark ∷ Todo.reread site ∷ []) = true
is_wait_over todo = false

abbrev pub is_settled_alone : Todos → Bool
is_settled_alone [] = true
is_settled_alone (Todo.settle deadline mark ∷ []) = true
is_settled_alone todo = false

-- behind an act that may wait
abbrev pub is_act_over : Todos → Bool
is_act_over (Todo.read_done None ∷ Todo.let_go ∷ todo) = is_settled_alone todo
is_act_over todo = is_settled_alone todo

abbrev pub is_access : Todos → Bool
is_access (Todo.show q rest ∷ Todo.read_done None ∷ Todo.let_go ∷ todo) = is_on_memory q && is_wait_over todo
is_access todo = false

abbrev pub is_start : ℕ → Todos → Bool
is_start who (Todo.show q rest ∷ Todo.let_go ∷ Todo.add c ∷ []) = starts_one who q
is_start who todo = false

abbrev pub is_held : Todos → Bool
is_held (Todo.read_claim None ∷ Todo.region_load ∷ todo) = is_access todo
is_held (Todo.unshut who ∷ todo) = is_start who todo
is_held todo = false

abbrev pub is_let_go : Todos → Bool
is_let_go (Todo.add c ∷ []) = true
is_let_go todo = is_wait_over todo

abbrev pub is_move : ℕ → Todos → Bool
is_move d (Todo.show (Pending.DomMove e who) rest ∷ []) = d == e
is_move d todo = false

abbrev pub is_claimed : Todos → Bool
is_claimed (Todo.region_load ∷ todo) = is_access todo
is_claimed todo = false

abbrev pub is_read_over : Todos → Bool
is_read_over (Todo.let_go ∷ todo) = is_wait_over todo
is_read_over todo = false

abbrev pub is_edit : ℕ → Todos → Bool
is_edit d (Todo.edit e q ∷ Todo.show r rest ∷ []) = d == e && edits_step d q && edits_step d r
is_edit d todo = false

abbrev pub is_edited : ℕ → Pending → Todos → Bool
is_edited d q (Todo.show r rest ∷ []) = edits_step d q && edits_step d r
is_edited d q todo = false

abbrev pub is_owed : Todos → Bool
is_owed (Todo.show q rest ∷ []) = is_arm q
is_owed todo = false

abbrev pub is_settled : Todos → Bool
is_settled [] = true
is_settled (Todo.reread site ∷ []) = true
is_settled todo = false

abbrev pub is_asleep : Todos → Bool
is_asleep (Todo.reread_asleep ∷ Todo.done ∷ []) = true
is_asleep todo = false

abbrev pub is_done_next : Todos → Bool
is_done_next (Todo.done ∷ []) = true
is_done_next todo = false

abbrev pub is_paid_next : Todos → Bool
is_paid_next (Todo.paid ∷ []) = true
is_paid_next todo = false

abbrev pub is_cleared_next : Todos → Bool
is_cleared_next (Todo.show (Pending.ClearInit a) rest ∷ []) = true
is_cleared_next todo = false

module _ (image : Image) where
  -- what a note is made for: the act that may wait in the cell of this site, or the arming of its deadline
  abbrev pub notes_for : ℕ → Steps → Bool
  notes_for site steps = same_option (noted_cell image steps) (Some site)

  abbrev pub is_noted : ℕ → Todos → Bool
  is_noted site (Todo.show q rest ∷ todo) = notes_for site (q ∷ [])
  is_noted site (Todo.hold ∷ Todo.read_claim None ∷ Todo.region_load ∷ Todo.show q rest ∷ Todo.read_done None ∷ Todo.let_go ∷ todo) = notes_for site (q ∷ [])
  is_noted site (Todo.owe ∷ Todo.show q rest ∷ []) = is_arm q && notes_for site rest
  is_noted site todo = false

  abbrev pub is_behind : Todo → Todos → Bool
  is_behind (Todo.show q rest) todo = not (is_some (noted_cell image (q ∷ []))) || is_act_over todo
  is_behind Todo.hold todo = is_held todo
  is_behind Todo.let_go todo = is_let_go todo
  is_behind (Todo.read_claim None) todo = is_claimed todo
  is_behind (Todo.read_claim (Some d)) todo = is_move d todo
  is_behind (Todo.read_done None) todo = is_read_over todo
  is_behind (Todo.read_done (Some d)) todo = is_move d todo
  is_behind Todo.region_load todo = is_access todo
  is_behind (Todo.write_claim d) todo = is_edit d todo
  is_behind (Todo.edit d q) todo = is_edited d q todo
  is_behind (Todo.size_look x) todo = elim (looked todo) as (λ _. Bool) [ None ↦ false | Some a ↦ x == row_named image a ]
  is_behind (Todo.add c) todo = length c.claims == 0
  is_behind Todo.park todo = not (has_steps todo)
  is_behind Todo.done todo = not (has_steps todo)
  is_behind (Todo.note site) todo = is_noted site todo
  is_behind (Todo.unshut who) todo = is_start who todo
  is_behind Todo.owe todo = is_owed todo
  is_behind (Todo.settle deadline mark) todo = is_settled todo
  is_behind (Todo.reread site) todo = not (has_steps todo)
  is_behind Todo.sleep todo = is_asleep todo
  is_behind Todo.reread_asleep todo = is_done_next todo
  is_behind (Todo.handle deadline mark) todo = is_paid_next todo
  is_behind Todo.paid todo = not (has_steps todo)
  is_behind Todo.leave todo = is_cleared_next todo
  is_behind q todo = true

  abbrev pub is_framed : Todos → Bool
  is_framed [] = true
  is_framed (q ∷ todo) = is_behind q todo && is_framed todo

  -- the rest of a cleaning stands right behind each of its steps
  abbrev pub is_block : Todo → Todos → Bool
  is_block (Todo.clean_pair who z) (Todo.wipe x ∷ Todo.vacate y ∷ todo) = x == y && same_option (thread_of_row image x) (Some who)
  is_block (Todo.clean_pair who z) todo = false
  is_block (Todo.wipe x) (Todo.vacate y ∷ todo) = x == y
  is_block (Todo.wipe x) todo = false
  is_block (Todo.vacate x) (Todo.recycle y ∷ todo) = x == y
  is_block (Todo.vacate x) todo = false
  is_block q todo = true

  abbrev pub are_blocks : Todos → Bool
  are_blocks [] = true
  are_blocks (q ∷ todo) = is_block q todo && are_blocks todo

  -- The thread's own steps.

  -- a step that it makes next, behind which these are left
  abbrev pub is_offered_of : Context → Pending → Steps → Steps → Bool
  is_offered_of c Pending.Begin rest [] = not c.ended && length rest == 0 && is_some (instruction_at image c.place)
  is_offered_of c Pending.Exit rest [] = not c.ended && length rest == 0 && not (is_some (instruction_at image c.place))
  is_offered_of c q rest [] = false
  is_offered_of c q rest (Pending.Inherit who ∷ steps) = length steps == length rest + 1
  is_offered_of c q rest (Pending.Drops from ∷ steps) = length steps == length rest + 1
  is_offered_of c q rest (p ∷ steps) = length steps == length rest

  abbrev pub passes_on : Context → ℕ → Todos → Steps → Bool
  passes_on c who todo (Pending.Inherit child ∷ q ∷ rest) = child.0 == who && length todo == length (fine_steps image c q rest)
  passes_on c who todo steps = false

  abbrev pub drops_own : Context → Todos → Steps → Bool
  drops_own c todo (Pending.Drops from ∷ q ∷ rest) = length todo == length (fine_steps image c q rest)
  drops_own c todo steps = false

  -- those who wait for the end of a thread are told right before its own object is cleared
  abbrev pub is_own_cleared : Context → Todos → Bool
  is_own_cleared c (Todo.show (Pending.ClearInit a) rest ∷ todo) = row_named image a == own_row image c.thread
  is_own_cleared c todo = true

  abbrev pub is_put_back : Context → Bool
  is_put_back c = length c.pending == 0 || waits c.pending

  abbrev pub fits : Context → Todos → Bool
  fits c [] = true
  fits c (Todo.show q rest ∷ todo) =
      is_offered_of c q rest c.pending && length todo == length (behind_shown image c q) && implies (is_some (noted_cell image (q ∷ []))) (is_some c.noted)
  fits c (Todo.pass who x ∷ todo) = passes_on c who todo c.pending && not (x == own_row image c.thread)
  fits c (Todo.drop x ∷ todo) = drops_own c todo c.pending
  fits c (Todo.park ∷ todo) = is_put_back c && not (is_over c) && not (has_steps todo)
  fits c (Todo.sleep ∷ todo) = length c.pending == 0 && not c.ended && is_asleep todo
  fits c (Todo.note site ∷ todo) = fits (record c { noted = Some 0 }) todo
  fits c (Todo.add d ∷ todo) = length d.pending == 0 && fits c todo
  fits c (Todo.leave ∷ todo) = is_own_cleared c todo && fits c todo
  fits c (q ∷ todo) = fits c todo
