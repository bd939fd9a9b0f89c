-- The relation of um_refinement, tested after each step of a worked run for some threads, rows and domains. Where a part of it equates
-- lists of records, their lengths are compared.
use Rattle.std.specs.Prelude.{ℕ, ◌+◌, Bool, true, false, ◌==◌, ◌&&◌, ◌||◌, not, nat_le, nat_lt, List, [], ◌∷◌, length, Option, Some, None, is_some, slice_index_or, if◌then◌else◌}
use Rattle.std.specs.List.{list_all, list_any}
use Rattle.um_base.specs.declared.image.Image.{Image}
use Rattle.um_base.specs.declared.limits.TheConstants.{ROWS, STATIC_ROWS, THREADS}
use Rattle.um_base.specs.declared.names.Addr.{Addr}
use Rattle.um_base.specs.Places.{thread_of_row}
use Rattle.um_machine.specs.Domains.{domain_after}
use Rattle.um_machine.specs.Memory.{partitions_of}
use Rattle.um_machine.specs.Order.{Steps}
use Rattle.um_machine.specs.Objects.{is_free, is_gone}
use Rattle.um_machine.specs.Run.{opening}
use Rattle.um_machine.specs.declared.pending.Pending.{Pending}
use Rattle.um_machine.specs.State.{State, is_started, is_user, object_at, pair_at, thread_at}
use Rattle.um_machine.specs.Table.{after, domain_at, message_size}
use Rattle.um_words.specs.declared.fine.FineAct.{FineAct}
use Rattle.um_words.specs.Rows.{is_dying}
use Rattle.um_fine.specs.declared.table.Table.{Table}
use Rattle.um_fine.specs.Addresses.{row_named}
use Rattle.um_fine.specs.Context.{Context}
use Rattle.um_fine.specs.Steps.{FineStep}
use Rattle.um_fine.specs.Heap.{cost_at}
use Rattle.um_fine.specs.Scheduler.{is_cut, parked_at, told_at, waits}
use Rattle.um_fine.specs.Joins.{asleep_at}
use Rattle.um_fine.specs.Places.{Todo, Todos}
use Rattle.um_fine.specs.Processor.{Processor, edit_of, fails, key_of, same_key}
use Rattle.um_refinement.specs.Fine.{Fine, domain, heap, joins, object, one_if, over_processors, parts, row, scheduler, word}
use Rattle.um_refinement.specs.Lists.{cleaned_pairs, counted, edited, edits, has_claimed, has_held, has_loaded, is_cleared, is_done, is_move_done, is_recycle, is_sleep, is_wipe, looked, moving, names_row, runs, runs_thread, visited}
use Rattle.um_refinement.specs.Offers.{is_over}
use Rattle.um_refinement.specs.Threads.{as_cut, cutters, flags_of, is_ended, is_ending, is_ready_there, occurs, places, tellers, told_by}
use Rattle.um_refinement.specs.Claims.{claims}
use Rattle.um_refinement.specs.Objects.{is_reserved, recyclers, status_of, vacaters, wipers}
use Rattle.um_refinement.specs.Dues.{is_visiting}
use Rattle.um_refinement.specs.Domains.{reads}
use Rattle.um_worked_runs.specs.Evaluate.{Choice, Offer, numbers, offered}
use Rattle.um_worked_runs.specs.Fine.Compared.{Tested, fine_of, implies, is_empty, life_number, parts_length, same_bool, same_bools, same_cost, same_numbers, stage_number, status_number}
use Rattle.um_worked_runs.specs.Fine.Evaluate.{Board, next_made, opening_board, stepped}
use Rattle.um_worked_runs.specs.Fine.InTime.{is_in_time}
use Rattle.um_worked_runs.specs.Fine.Listed.{are_blocks, fits, is_framed, is_put_back}

module _ (n : Tested) (f : Fine) (m : State) where
  abbrev pub cpus : List ℕ
  cpus = numbers 0 n.cpus

  abbrev pub is_of : Context → Bool
  is_of there =
      let c = as_cut (cutters f there.thread) there in
      let me = thread_at m c.thread in
      same_numbers c.registers me.registers && length c.pending == length me.pending && same_numbers c.buffer me.buffer
      && c.place.script == me.place.script && c.place.line == me.place.line && c.place.left == me.place.left
      && same_bool (is_user c.mode) (is_user me.mode) && c.stack.0 == me.stack.0
      && same_bool c.ended (is_ended me.life) && is_started me.life
      && list_all (λ x. same_bool (slice_index_or (flags_of c.claims) x false) (slice_index_or me.checked x false)) n.rows
      && list_all (λ x. nat_lt x ROWS) c.claims && implies (nat_lt 0 (cutters f c.thread)) (waits there.pending)

  -- of a thread that a processor runs
  abbrev pub run_is : Context → Bool
  run_is c = if is_over c then length c.claims == 0 && is_started (thread_at m c.thread).life else is_of c

  -- a turn ends with a thread that is at rest, and has ended or is doomed
  abbrev pub done_is : Context → Bool
  done_is c = length c.pending == 0 && (c.ended || (thread_at m c.thread).doomed)

  abbrev pub parked_is : ℕ → Option Context → Bool
  parked_is t None = true
  parked_is t (Some c) = is_of c && c.thread == t && not c.ended && is_put_back f.image c

  -- one that sleeps is at rest, and holds nothing
  abbrev pub asleep_is : ℕ → Option Context → Bool
  asleep_is t None = true
  asleep_is t (Some c) = is_of c && c.thread == t && not c.ended && length c.pending == 0 && length c.claims == 0

  abbrev pub thread_is : ℕ → Bool
  thread_is t =
      let me = thread_at m t in
      let v = word f t in
      let there = places f t in
      let parked = parked_at (scheduler f) t in
      life_number v.life == life_number me.life && same_bool v.doomed me.doomed && same_bool (is_user v.mode) (is_user me.mode)
      && v.domain == me.domain && nat_le there 1
      && implies (there == 0) ((not (life_number me.life == 1) || me.doomed) && length me.pending == 0)
      && same_bool (is_some me.told) (is_some (told_by f t n.cpus)) && nat_le (tellers f t) 1
      && one_if v.held == over_processors f (λ p. one_if (runs_thread t p && has_held p))
      && parked_is t parked && asleep_is t (asleep_at (joins f) t)
      && occurs t (scheduler f).ready == one_if (is_ready_there parked (told_at (scheduler f) t) (is_cut (scheduler f) t))

  abbrev pub cleans_it : ℕ → ℕ → Bool
  cleans_it x k = nat_lt 0 (counted (is_recycle x) (f.processors k).todo)

  abbrev pub objects_are : ℕ → Bool
  objects_are x =
      let o = object_at m x in
      let v = row f x in
      let recycling = recyclers f x in
      let vacating = vacaters f x in
      same_bools v.permissions (slice_index_or m.pairs x [])
      && same_bool v.dynamic (nat_le STATIC_ROWS x && not (stage_number v.stage == 0))
      && implies (vacating == recycling)
      (status_number o.status == status_number (status_of v.stage (is_reserved o.status)) && same_bool v.init o.init && same_bool v.public o.public)
      && implies (nat_lt vacating recycling) (stage_number v.stage == 0 && is_gone o.status)
      && implies (wipers f x == recycling) (length (object f x).waiters == length o.waiters && same_cost (object f x).buffer o.buffer)
      && implies (nat_lt (wipers f x) recycling || is_free o.status) (is_empty (object f x))
      && implies (stage_number v.stage == 0) (not v.init && not v.public)
      && same_cost (cost_at (heap f) x) o.cost
      && same_bool (slice_index_or (heap f).free x false) (nat_le STATIC_ROWS x && is_free o.status)

  abbrev pub begun_by : ℕ → Bool
  begun_by x =
      let o = object_at m x in
      elim o.cleaner as (λ _. Bool) [ None ↦ true | Some t ↦ list_all (λ k. implies (cleans_it x k) ((f.processors k).context.thread == t.0)) cpus ]

  -- the pairs of a thread object's thread that a processor has visited in cleaning
  abbrev pub emptied : ℕ → Option ℕ → Bool
  emptied x None = true
  emptied x (Some who) =
      list_all (λ k. implies (cleans_it x k) (list_all (λ y. implies (nat_lt y (cleaned_pairs who (f.processors k).todo)) (not (pair_at m who y))) n.rows)) cpus

  abbrev pub cleaning_is : ℕ → Bool
  cleaning_is x =
      let o = object_at m x in
      let v = row f x in
      v.claims == claims f m x
      && implies (stage_number v.stage == 2) (nat_lt 0 v.claims)
      && implies (stage_number v.stage == 0) (v.claims == 0)
      && implies (stage_number v.stage == 3) (v.claims == 0 && vacaters f x == 1)
      && nat_le (vacaters f x) (recyclers f x) && nat_le (wipers f x) (vacaters f x)
      && recyclers f x == one_if (is_gone o.status && not (is_dying v.stage))
      && begun_by x
      && implies (recyclers f x == 0) (not (is_some o.cleaner))
      && list_all (λ k. let todo = (f.processors k).todo in counted (is_recycle x) todo == counted (is_wipe x) todo + one_if (is_cleared x todo)) cpus
      && list_all (λ k. implies (cleans_it x k && counted (is_wipe x) (f.processors k).todo == 0) (same_cost (f.processors k).charge o.buffer)) cpus
      && emptied x (thread_of_row f.image x)

  abbrev pub edits_there : ℕ → ℕ → Bool
  edits_there d k =
      elim (edited d (f.processors k).todo) as (λ _. Bool) [
        | None ↦ true
        | Some q ↦ parts_length (parts f d) == parts_length (domain_after (domain_at m d) (edit_of f.image q (domain_at m d)))
      ]

  abbrev pub domain_is : ℕ → Bool
  domain_is d =
      let v = domain f d in
      same_bool v.init (is_some (domain_at m d))
      && one_if v.writer == over_processors f (λ p. one_if (edits d p.todo))
      && v.readers == over_processors f (λ p. one_if (reads d p))
      && implies v.writer (v.readers == 0)
      && implies (list_all (λ k. not (is_some (edited d (f.processors k).todo))) cpus) (parts_length (parts f d) == parts_length (domain_at m d))
      && list_all (edits_there d) cpus

  -- a table of the version that stands has the partitions that stand
  abbrev pub table_stands : Option Table → Bool
  table_stands None = true
  table_stands (Some table) =
      let v = domain f table.key.domain in
      nat_le table.key.version v.version
      && implies (table.key.version == v.version && not v.writer) (length table.parts == length (partitions_of m table.key.domain))

  abbrev pub table_loaded : Processor → Option Table → Bool
  table_loaded p None = false
  table_loaded p (Some table) = same_key table.key (key_of p)

  -- what a processor was told for its next event
  abbrev pub size_is : Processor → Option Addr → Bool
  size_is p None = true
  size_is p (Some a) = p.size == message_size (object_at m (row_named f.image a)).contents

  abbrev pub reply_is : Processor → Option ℕ → Bool
  reply_is p None = true
  reply_is p (Some d) = same_bool (fails p.reply) (not (is_some (domain_at m d)))

  -- the own parts of threads that were started or roused and are still to be added: they have no note
  abbrev pub added_are : Todos → Bool
  added_are [] = true
  added_are (Todo.add c ∷ todo) = is_of c && not c.ended && length c.pending == 0 && not (is_some c.noted) && added_are todo
  added_are (Todo.show q rest ∷ todo) = true
  added_are (q ∷ todo) = added_are todo

  -- the drops of an end begin at the row that is visited next, or at a lower one
  abbrev pub drops_from : ℕ → Steps → Bool
  drops_from x (Pending.Drops from ∷ rest) = nat_le from x
  drops_from x steps = true

  abbrev pub processor_is : ℕ → Bool
  processor_is k =
      let p = f.processors k in
      let me = thread_at m p.context.thread in
      implies (runs p) (run_is p.context) && implies (list_any is_done p.todo && not (list_any is_sleep p.todo)) (done_is p.context) && added_are p.todo && list_all names_row p.todo
      && is_framed f.image p.todo && are_blocks f.image p.todo && fits f.image p.context p.todo && size_is p (looked p.todo) && reply_is p (moving p.todo)
      && implies (has_held p) (p.domain == (word f p.context.thread).domain)
      && implies (list_any is_move_done p.todo) (not (fails p.reply))
      && implies (not (runs p)) (length p.context.claims == 0)
      && implies (has_held p) (not p.context.ended)
      && implies p.context.ended (list_all is_ending p.context.pending)
      && implies (has_claimed p) (p.version == (domain f p.domain).version)
      && table_stands p.table
      && implies (has_loaded p) (table_loaded p p.table)
      && implies (runs p && is_visiting p.context.pending) (list_all (λ x. implies (slice_index_or me.due x false) (nat_le (visited p.todo) x)) n.rows)
      && implies (runs p) (drops_from (visited p.todo) p.context.pending) && nat_le (length me.due) ROWS

  abbrev pub is_related : Bool
  is_related =
      list_all thread_is n.threads && list_all objects_are n.rows && list_all cleaning_is n.rows && list_all domain_is n.domains
      && list_all processor_is cpus
      && same_numbers (heap f).pools m.pools
      && length (heap f).free == ROWS && length (heap f).costs == ROWS
      && length (scheduler f).parked == THREADS && length (scheduler f).told == THREADS
      && (scheduler f).running == over_processors f (λ p. one_if (runs p))
      && is_in_time n f m

-- The access-matrix machine along a run: its state, and the choices of the steps to come.
pub record Below : Type 0 where
  pub state : State
  pub choices : List Choice

abbrev pub below_by : State → Choice → Offer → State
below_by s c None = s
below_by s c (Some step) = after s c.thread c.row step.0 step.1

abbrev pub one_more : Below → List Choice → Below
one_more q [] = q
one_more q (c ∷ cs) = record { state = below_by q.state c (offered q.state c.thread c.way); choices = cs }

-- an event is the step of the next choice
abbrev pub follows : Below → FineAct → Below
follows q (FineAct.Shown event more) = one_more q q.choices
follows q (FineAct.Unseen unseen) = q

abbrev pub related_by : Image → Board → Below → (Board → Below → ℕ) → Option FineStep → ℕ
related_by image b q go None = 0
related_by image b q go (Some e) = go (stepped image b e) (follows q e.act)

-- how many steps the relation holds for, before the first that breaks it
abbrev pub related_for : Image → Tested → List ℕ → Board → Below → ℕ
related_for image n [] b q = if is_related n (fine_of image n b) q.state then 1 else 0
related_for image n (k ∷ ks) b q =
    if is_related n (fine_of image n b) q.state then related_by image b q (related_for image n ks) (next_made image b k) + 1 else 0

-- the same for a run from the opening, by these processors, whose events are the steps of these choices
abbrev pub related_steps : Image → Tested → List ℕ → List Choice → ℕ
related_steps image n ks cs = related_for image n ks (opening_board image n.cpus) (record { state = opening image; choices = cs })
