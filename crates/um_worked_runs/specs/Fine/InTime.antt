-- The relation's parts on time, aborts, sleepers, joins and futexes, tested after each step of a worked run.
use Rattle.std.specs.Prelude.{ℕ, ◌+◌, Bool, true, false, ◌==◌, ◌&&◌, ◌||◌, not, nat_le, nat_lt, List, [], ◌∷◌, ◌++◌, length, Option, Some, None, is_some}
use Rattle.std.specs.List.{list_all, list_any}
use Rattle.um_base.specs.declared.image.Image.{Image}
use Rattle.um_base.specs.declared.limits.TheConstants.{FUTEX_CELL, JOIN_CELL, THREADS}
use Rattle.um_base.specs.Places.{own_row, thread_of_row}
use Rattle.um_machine.specs.declared.contents.Contents.{Contents}
use Rattle.um_machine.specs.declared.pending.Pending.{Pending}
use Rattle.um_machine.specs.declared.thread.Life.{Life}
use Rattle.um_machine.specs.State.{State, is_started, object_at, thread_at, waiters_in}
use Rattle.um_machine.specs.Order.{Steps, to_row, to_thread}
use Rattle.um_words.specs.declared.fine.Mark.{Mark}
use Rattle.um_fine.specs.Clock.{Marked, deadlines}
use Rattle.um_fine.specs.Context.{Context}
use Rattle.um_fine.specs.Joins.{asleep_at, is_joined, is_shut}
use Rattle.um_fine.specs.Places.{Todo, Todos, is_paid, noted_cell}
use Rattle.um_fine.specs.Processor.{Processor, actor_or}
use Rattle.um_fine.specs.Scheduler.{parked_at}
use Rattle.um_fine.specs.Seeking.{deadline_of}
use Rattle.um_refinement.specs.Fine.{Fine, bytes, clock, joins, one_if, over_processors, scheduler, word}
use Rattle.um_refinement.specs.Lists.{counted, runs_thread, times}
use Rattle.um_refinement.specs.Objects.{recyclers, wipers}
use Rattle.um_refinement.specs.Threads.{cutters, runs_on, told_by}
use Rattle.um_refinement.specs.Stops.{cell_site, clears_own, is_look, is_reread, is_reread_asleep, is_rouse, is_waiting_site, looks_well, noted_at, notes_in, starts, waits_at}
use Rattle.um_refinement.specs.Timing.{armed_next, arms, handles, is_left, is_placed, is_sound, left_marks, open_marks, settles, shows_act}
use Rattle.um_worked_runs.specs.Evaluate.{numbers}
use Rattle.um_worked_runs.specs.Fine.Compared.{Tested, implies, same_bool, same_numbers, same_option, same_waiters}

abbrev pub lives : Life → Bool
lives Life.Living = true
lives _ = false

abbrev pub has_none : Steps → Bool
has_none [] = true
has_none _ = false

-- from here on a call makes no act and arms no deadline, and it ends
abbrev pub ends : Steps → Bool
ends [] = false
ends (Pending.Begin ∷ rest) = false
ends (Pending.Exit ∷ rest) = false
ends (Pending.Work a ask ∷ rest) = false
ends (Pending.Join who timeout ∷ rest) = false
ends (Pending.FutexWait a value timeout ∷ rest) = false
ends (Pending.Arm ticks ∷ rest) = false
ends (Pending.ArmTimer ticks ∷ rest) = false
ends (Pending.Dooms from ∷ rest) = false
ends (Pending.EnterUser script ∷ rest) = false
ends (Pending.Answer reply to ∷ rest) = has_none rest
ends (Pending.Fatal reason cause ∷ rest) = true
ends (Pending.Killed ∷ rest) = true
ends (q ∷ rest) = ends rest

-- the next step is an act that may wait in the cell of this site, and behind it the call ends
abbrev pub acts_in : Image → ℕ → Steps → Bool
acts_in image site [] = false
acts_in image site (Pending.Inherit who ∷ rest) = acts_in image site rest
acts_in image site (Pending.Drops from ∷ rest) = acts_in image site rest
acts_in image site (Pending.Arm ticks ∷ rest) = acts_in image site rest
acts_in image site (q ∷ rest) = same_option (noted_cell image (q ∷ [])) (Some site) && ends rest

abbrev pub has_noted : Image → ℕ → Steps → Bool
has_noted image site steps = ends steps || acts_in image site steps

abbrev pub is_to_kill : Steps → Bool
is_to_kill (Pending.Killed ∷ []) = true
is_to_kill _ = false

-- the cells in which threads wait
abbrev pub cells : Tested → List ℕ
cells n = n.rows ++ JOIN_CELL ∷ FUTEX_CELL ∷ []

-- the list of a processor with a mark in its hand: it handles the mark, wakes, and pays
abbrev pub is_paying : Todos → Bool
is_paying (Todo.wake who told ∷ todo) = is_paying todo
is_paying (Todo.paid ∷ []) = true
is_paying _ = false

abbrev pub is_hand : Todos → Bool
is_hand (Todo.handle deadline mark ∷ Todo.paid ∷ []) = true
is_hand todo = is_paying todo

-- the number of a note isn't below this one
abbrev pub not_older : ℕ → Option ℕ → Bool
not_older before None = true
not_older before (Some number) = nat_le before number

module _ (n : Tested) (f : Fine) (m : State) where
  abbrev pub cpus : List ℕ
  cpus = numbers 0 n.cpus

  abbrev pub some_list : (Processor → Bool) → Bool
  some_list test = list_any (λ k. test (f.processors k)) cpus

  -- the own part of a thread, wherever it lies
  abbrev pub fits_note : ℕ → Context → Bool
  fits_note t c =
      same_bool (is_some (word f t).note) (is_some c.noted)
      && elim c.noted as (λ _. Bool) [ None ↦ true | Some number ↦ nat_le number (word f t).number ]

  abbrev pub fits_if : ℕ → Option Context → Bool
  fits_if t None = true
  fits_if t (Some c) = fits_note t c && c.thread == t

  -- the own part of a thread that has a step left, wherever it lies, passes a test
  abbrev pub if_there : (Context → Bool) → Option Context → Bool
  if_there test None = true
  if_there test (Some c) = test c

  abbrev pub lies_well : (Context → Bool) → ℕ → Bool
  lies_well test t =
      if_there test (parked_at (scheduler f) t) && if_there test (asleep_at (joins f) t)
      && list_all (λ k. implies (runs_on t (f.processors k)) (test (f.processors k).context)) cpus

  -- the cell in which a thread waits keeps the number of its note
  abbrev pub is_kept : ℕ → ℕ → Bool
  is_kept t x = implies (waits_at m t x) (lies_well (λ c. same_option c.noted (Some (noted_at f x t))) t)

  -- a look is for a step of the word that was made; where the thread's note is older, the thread is aborted
  abbrev pub look_fits : ℕ → Todo → Bool
  look_fits t (Todo.look who site before) =
      implies (who == t) (nat_le before (word f t).number && ((word f t).aborted || lies_well (λ c. not_older before c.noted) t))
  look_fits t q = true

  abbrev pub looks_fit : ℕ → Bool
  looks_fit t = list_all (λ k. list_all (look_fits t) (f.processors k).todo) cpus

  abbrev pub note_is : ℕ → Bool
  note_is t =
      let v = word f t in
      fits_if t (parked_at (scheduler f) t) && fits_if t (asleep_at (joins f) t)
      && list_all (λ k. implies (runs_on t (f.processors k)) (fits_note t (f.processors k).context)) cpus
      && list_all (λ c. implies (waits_at m t c) (same_option v.note (Some (cell_site c)))) (cells n) && list_all (is_kept t) (cells n)
      && elim v.note as (λ _. Bool) [ None ↦ true | Some site ↦ is_waiting_site site && has_noted f.image site (thread_at m t).pending ]

  abbrev pub cut_is : ℕ → Bool
  cut_is t =
      let count = cutters f t in
      nat_le count 1
      && implies (nat_lt 0 count) (is_to_kill (thread_at m t).pending && not (is_some (told_by f t n.cpus)))
      && implies (is_to_kill (thread_at m t).pending) (word f t).aborted

  abbrev pub cut_comes : ℕ → ℕ → Bool
  cut_comes t c =
      implies ((word f t).aborted && waits_at m t c)
      (some_list (λ p. list_any (is_look t (cell_site c) (noted_at f c t)) p.todo || (runs_thread t p && list_any (is_reread (cell_site c)) p.todo)))

  abbrev pub sleep_is : ℕ → Bool
  sleep_is t =
      let v = word f t in
      implies (is_some (asleep_at (joins f) t))
      ((v.suspended && not v.aborted) || some_list (λ p. list_any (is_rouse t) p.todo || (p.context.thread == t && list_any is_reread_asleep p.todo)))

  abbrev pub shut_is : ℕ → Bool
  shut_is t =
      let shut = is_shut (joins f) t in
      implies shut (not (lives (thread_at m t).life) && not (is_joined (joins f) t))
      && implies (not shut && same_option (thread_of_row f.image (own_row f.image t)) (Some t)) ((thread_at m t).keeps_own || some_list (λ p. same_option (starts p.todo) (Some t)))
      && implies (some_list (λ p. runs_thread t p && clears_own f p p.todo)) shut
      && implies (some_list (λ p. same_option (starts p.todo) (Some t))) (not shut)

  abbrev pub comes : ℕ → Mark → Bool
  comes deadline mark = list_any (is_left deadline mark) (clock f).marks || some_list (λ p. list_any (handles deadline mark) p.todo)

  abbrev pub timeout_comes : ℕ → ℕ → Bool
  timeout_comes t c =
      implies (waits_at m t c)
      (same_option (deadline_of t (waiters_in m c)) (thread_at m t).until
      && elim (thread_at m t).until as (λ _. Bool) [ None ↦ true | Some d ↦ comes d (Mark.Thread (to_thread t) (cell_site c)) ])

  abbrev pub runs_out : ℕ → Contents → Bool
  runs_out x (Contents.Running d) = comes d (Mark.Timer (to_row x))
  runs_out x contents = true

  abbrev pub in_time : ℕ → Bool
  in_time t =
      let v = word f t in
      let me = thread_at m t in
      same_bool v.aborted me.aborted && same_bool v.suspended me.suspended
      && note_is t && looks_fit t && cut_is t && sleep_is t && shut_is t
      && list_all (cut_comes t) (cells n) && list_all (timeout_comes t) (cells n)

  -- a timer that runs has its mark, unless its cell was cleared
  abbrev pub expires : ℕ → Bool
  expires x = implies (wipers f x == recyclers f x) (runs_out x (object_at m x).contents)

  abbrev pub are_unsettled : ℕ → Mark → Bool
  are_unsettled deadline mark = open_marks deadline mark (clock f).marks == over_processors f (λ p. counted (settles deadline mark) p.todo)

  abbrev pub mark_is : Marked → Bool
  mark_is x = is_sound (clock f).now x && is_placed x.mark && are_unsettled x.deadline x.mark

  -- a mark on a list: one that is to be settled is in the clock as often, and the deadline of one in a hand has come
  abbrev pub on_list : Todo → Bool
  on_list (Todo.settle deadline mark) = are_unsettled deadline mark
  on_list (Todo.handle deadline mark) = nat_le deadline (clock f).now && is_placed mark
  on_list q = true

  abbrev pub times_rightly : ℕ → Bool
  times_rightly k =
      let p = f.processors k in
      implies (nat_lt 0 (length f.image.boots)) (is_started (thread_at m (actor_or f.image p.actor)).life)
      && implies (times p.todo) (is_hand p.todo) && list_all on_list p.todo && list_all looks_well p.todo
      && (list_any shows_act p.todo || not (is_some (armed_next f.image p.context p.context.pending)))

  abbrev pub is_in_time : Bool
  is_in_time =
      list_all in_time n.threads && list_all expires n.rows && list_all times_rightly cpus
      && list_all mark_is (clock f).marks
      && (clock f).now == m.now && same_numbers (deadlines (clock f).marks) m.armed
      && (scheduler f).owed == over_processors f (λ p. one_if (arms p.todo) + counted is_paid p.todo) + left_marks (clock f).marks
      && same_waiters (joins f).waiters m.joins && same_waiters (bytes f).futexes m.futexes
      && length (scheduler f).cuts == THREADS && length (joins f).shut == THREADS && length (joins f).asleep == THREADS
      && list_all (λ c. length (notes_in f c) == THREADS) (cells n)
