-- The words that the proofs of this crate cite all the time, passed on from one place. Declares nothing.
pub use Rattle.std.proofs.Common.{Bool, List, None, Option, Some, [], ap, arith, cond, eq-eqb, eq-or-lt_of_le, false, inl, inr, length, map, ne_eqb, refl, replicate, subst, suc, sym, true, zero, ℕ, ◌*◌, ◌++◌, ◌+◌, ◌-◌, ◌<◌, ◌∙◌, ◌∷◌, ◌≡◌, ◌≢◌, ◌≤◌, ◌⊎◌, append-nil, ⊎_elim}
pub use Rattle.std.proofs.Math.Bool.{and-false, or-false, or-true}
pub use Rattle.std.proofs.lemmas.Bool.{and_from, and_parts, eqb-false, eqb-true, false≢true, leb-true, lt-ltb, ltb-true, not-true, not_from_false, true≢false, ltb-false, le-leb}
pub use Rattle.std.proofs.lemmas.Bool.Decides.{nat_tests}
pub use Rattle.std.proofs.lemmas.Grind.{get_or-set_at}
pub use Rattle.std.proofs.lemmas.List.{get_or-set_other, get_or-set_same, length-map, length-set, length-append, set-get_or}
pub use Rattle.std.specs.List.{list_all, list_any}
pub use Rattle.std.specs.Prelude.{IsTrue, if◌then◌else◌, is_some, nat_le, nat_lt, not, slice_get, slice_index_or, slice_set, take, unwrap_or, ℤ, ◌&&◌, ◌==◌, ◌||◌, Result, Ok, Err, filter, slice_index}
pub use Rattle.um_base.specs.Lawful.{IsLawful, is_lawful_boot, is_lawful_line, is_within, object_passes, is_size, are_lawful_scripts, is_lawful_script, is_number_below, is_setup_of, is_initialised, are_distinct, is_stack, is_thread}
pub use Rattle.um_base.specs.Places.{addr_of, own_row, row_at, thread_of_addr, thread_of_row, dynamic_kind_at, is_thread_index, setup_at, setup_thread, dynamic_kind}
pub use Rattle.um_base.specs.Regions.{Partitions, regions, stack_range, regions_allow}
pub use Rattle.um_base.specs.declared.act.Act.{Act}
pub use Rattle.um_base.specs.declared.act.Answer.{Answer}
pub use Rattle.um_base.specs.declared.act.Cause.{Cause}
pub use Rattle.um_base.specs.declared.act.Event.{Event}
pub use Rattle.um_base.specs.declared.act.Found.{Found}
pub use Rattle.um_base.specs.declared.act.Given.{Given}
pub use Rattle.um_base.specs.declared.act.Leftover.{Leftover}
pub use Rattle.um_base.specs.declared.act.SetSaid.{SetSaid}
pub use Rattle.um_base.specs.declared.ask.Ask.{Ask}
pub use Rattle.um_base.specs.declared.ask.Told.{Told}
pub use Rattle.um_base.specs.declared.ask.Waiter.{Waiter}
pub use Rattle.um_base.specs.declared.image.Boot.{Boot}
pub use Rattle.um_base.specs.declared.image.Image.{Image}
pub use Rattle.um_base.specs.declared.image.ObjectDef.{ObjectDef}
pub use Rattle.um_base.specs.declared.instr.Instr.{Instr}
pub use Rattle.um_base.specs.declared.instr.Options.{Options}
pub use Rattle.um_base.specs.declared.limits.TheConstants.{ROWS, STATIC_ROWS, THREADS, STATIC_THREADS, PARTITION_AREA, STACK_AREA, PIECE, DOMAINS}
pub use Rattle.um_base.specs.declared.names.Access.{Access}
pub use Rattle.um_base.specs.declared.names.Addr.{Addr}
pub use Rattle.um_base.specs.declared.names.Errno.{Errno}
pub use Rattle.um_base.specs.declared.names.Kind.{Kind}
pub use Rattle.um_base.specs.declared.names.Mode.{Mode}
pub use Rattle.um_base.specs.declared.names.Policy.{Policy}
pub use Rattle.um_base.specs.declared.names.Range.{Range}
pub use Rattle.um_base.specs.declared.names.Reply.{Reply}
pub use Rattle.um_base.specs.declared.names.Row.{Row}
pub use Rattle.um_base.specs.declared.names.ThreadIx.{ThreadIx}
pub use Rattle.um_base.specs.declared.names.Want.{Want}
pub use Rattle.um_machine.proofs.AfterLemmas.{bytes-leave, after-is}
pub use Rattle.um_machine.proofs.EffectLemmas.{Ignores, OfEach, all_other, each-after, effects_of, key-same, keys-wrote, next_of, woken-by, IsAsBefore, shared-went, all-wrote, is_spared, keys, set-keys, keys-after, image-wrote, Other}
pub use Rattle.um_machine.proofs.WayLemmas.{HoldsOfWays, changed-same, held-same, way-left}
pub use Rattle.um_machine.specs.Domains.{reply_to}
pub use Rattle.um_machine.specs.Goes.{Change, Next, Way, changed, checked_way, gone, held, steps_by, told_way, went, work_change, copied, text_change, text_way, work_way}
pub use Rattle.um_machine.specs.Memory.{allowed, bytes_at, string_bytes, with_bytes, le_value, partitions_of, regions_of, le_bytes, put_bytes, string_read, parts_or_none, string_from}
pub use Rattle.um_machine.specs.Objects.{has_kind, verdict, is_gone}
pub use Rattle.um_machine.specs.Order.{Steps, answer_error, answer_zero, buffered, creates, end_steps, fatal_steps, privileged, steps_of, to_addr, to_thread, work, number_of}
pub use Rattle.um_machine.specs.Run.{IsComplete, MayChoose, Offers, Runs, begins, boot_thread, booted, booted_one, exits, goes, index_or, loaded, objects_from, opening, skips_drops, skips_inherit, MayClean, NoPairsOf, Step, opening_object, granted, is_free_for, none_due, boots_row, is_set_up, setup_contents, parts_of, is_tending, may_go, tends}
unfoldable pub use Rattle.um_machine.specs.Run.{blank}
pub use Rattle.um_machine.specs.Services.{Acted, acted, is_empty, queue, fills, answers, blocks, in_order, is_getter, is_putter, msgq_get, msgq_peek, msgq_put, msgq_take}
pub use Rattle.um_machine.specs.State.{State, instruction_at, is_living, is_started, is_user, no_rows, nobody, object_at, pair_at, thread_at, vacant, value_of, with_object, with_pair, with_thread, lines_of, script_lines, first_place, next_place}
pub use Rattle.um_machine.specs.Writes.{Edit, Effect, effect, wrote, start_of, zeros_of, does}
pub use Rattle.um_machine.specs.declared.contents.Contents.{Contents}
pub use Rattle.um_machine.specs.declared.object.Object.{Object}
pub use Rattle.um_machine.specs.declared.object.Status.{Status}
pub use Rattle.um_machine.specs.declared.pending.Amount.{Amount}
pub use Rattle.um_machine.specs.declared.pending.Pending.{Pending}
pub use Rattle.um_machine.specs.declared.pending.Refusal.{Refusal}
pub use Rattle.um_machine.specs.declared.thread.Life.{Life}
pub use Rattle.um_machine.specs.declared.thread.Thread.{Thread}
pub use Rattle.um_invariants.proofs.Claims.{claims, IsClearing, Shaped}
pub use Rattle.um_invariants.proofs.Cores.{Call, at_set, call_at, call_is, core_of, status_is, kind_is, call_of, map_at}
pub use Rattle.um_invariants.proofs.Guards.{Guarded, IsRow, IsSited, IsStatic, behind_birth, kind_in, row_kind, Names, keeps, bearing, all_behind}
pub use Rattle.um_invariants.proofs.Opening.{is_opening, IsBoot, is_boot, boot_parts}
pub use Rattle.um_invariants.proofs.SitedImages.{is_sited}
pub use Rattle.um_invariants.proofs.ThreadStarts.{real-below}
pub use Rattle.um_invariants.proofs.ThreadWords.{AreKept, are_orderly, is_resume, DueFrom, MayPass, are_plain, clears_one, starts_one}
pub use Rattle.um_invariants.proofs.Turns.{IsKnown, below_rows, passed, row_is, row_has, is_lively}
pub use Rattle.um_invariants.specs.Described.{IsDescribed}
pub use Rattle.um_words.specs.Rows.{after_verdict, dropped, given_of, gone_stage, has, is_cleaning, is_dying, is_free, is_last, is_live, left_of, permitted, row_after, row_after_act, row_says, row_takes, verdict_of, call_ended, counted_row, after_set, row_after_unseen, row_takes_unseen, row_says_act, row_takes_act, set_of}
pub use Rattle.um_words.specs.Threads.{thread_after, thread_after_act, thread_after_unseen, thread_takes}
pub use Rattle.um_words.specs.declared.dom_word.DomWord.{DomWord}
pub use Rattle.um_words.specs.declared.fine.FineAct.{FineAct}
pub use Rattle.um_words.specs.declared.fine.More.{More}
pub use Rattle.um_words.specs.declared.fine.Unseen.{Unseen}
pub use Rattle.um_words.specs.declared.row_word.RowWord.{RowWord}
pub use Rattle.um_words.specs.declared.row_word.Stage.{Stage}
pub use Rattle.um_words.specs.declared.thread_word.ThreadWord.{ThreadWord}
pub use Rattle.um_fine.proofs.Keys.{same-itself, same-sound}
pub use Rattle.um_fine.specs.Addresses.{address_of, row_named, address_or}
pub use Rattle.um_fine.specs.Answers.{act_in, bytes_in, charge_in, context_in, domain_in, given_in, is_visit, is_word_read, leftover_in, outcome_in, ready_in, row_in, set_in, verdict_in, caller_in, before_in, thread_in, fits_in, reserved_in, value_in, limit_in, wake_in, size_in, no_event, no_row, parts_in, found_in, answer_in, woken_in}
pub use Rattle.um_fine.specs.Asks.{CpuMay, allows, begins_cleaning, by_me, check_site, fits, is_dropped, more_of, moves, says, says_idle, says_show, says_step, shows, site_at, site_of_step, made_by, fits_kind, visits, fits_visit, amount, caller, me, readable, fits_step, claimed_domain}
pub use Rattle.um_fine.specs.Cells.{Cell}
pub use Rattle.um_fine.specs.Context.{Context, as_thread, no_context, context_of}
pub use Rattle.um_fine.specs.Continues.{came_in, changed_part, continues, gone_part, held_part, newborn, resumed, resumed_at, goes_on, reply_of}
pub use Rattle.um_fine.specs.Erasure.{shown, shown_by}
pub use Rattle.um_fine.specs.FineRun.{ByOneOf, IsFineRun, cpu_of, p_start, same_cpu, site_of}
pub use Rattle.um_fine.specs.Follows.{after_claim, after_show, after_take, behind_step, dropped_at, end_calls, filled_up, goes_on_by, p_next, row_number, unless_loaded, wakes, with_cleaned, refilled_by}
pub use Rattle.um_fine.specs.Heap.{Heap, cost_at, heap_after, paid, can_pay, is_open, least_open}
pub use Rattle.um_fine.specs.Memory.{Bytes, memory_after, read, bytes_of, with_memory, write, text_bytes, memory_says_act, text_found}
pub use Rattle.um_fine.specs.Objects.{ObjectCell, outcome_of, work_on, object_after, parts_after, parts_moves}
pub use Rattle.um_fine.specs.Opening.{boot_index, s_start, count, indexed, stage_of, parked_if}
pub use Rattle.um_fine.specs.Places.{Todo, Todos, but, cleaning, cleaning_of, cleanings, drops, emptying, end_of_turn, fine_steps, is_cleaning_todo, next_steps, passes, turn_of, with_cleaning, clean_pairs, turn, on_memory, sized}
pub use Rattle.um_fine.specs.Processor.{Processor, edit_of, fails, is_of, key_of, kind_of, idle, same_mode}
pub use Rattle.um_fine.specs.Runs.{state_at, Run, has_key, sub, ends, sublist}
pub use Rattle.um_fine.specs.Scheduler.{Scheduler, first_ready, first_taken, has_ready, one_less, parked_at, put_back, sched_after, sched_takes, told_at, waits, sched_moves, behind, is_ready, has_place, sched_says, takes_turn, turn_in}
pub use Rattle.um_fine.specs.Sites.{SiteMay, SiteState, is_sort, s_next, same_site, site_after, site_answers, site_moves, site_takes, word_of, filled}
pub use Rattle.um_fine.specs.Steps.{Exchange, FineStep, Site, Outcome, Word}
pub use Rattle.um_refinement.specs.After.{left_by}
pub use Rattle.um_refinement.specs.Claims.{call_claims, context_claims, ClaimsAre, IdleIs}
pub use Rattle.um_refinement.specs.Cleaning.{AreBlocks, CleanersAre, Cleans, CleaningIs, CleanerIs, IsEmptied, BeginsWith}
pub use Rattle.um_refinement.specs.Domains.{reads, DomainIs, TableIs}
pub use Rattle.um_refinement.specs.Dues.{is_visiting, DuesAre}
pub use Rattle.um_refinement.specs.Fine.{Fine, bytes, bytes_state, domain, domain_state, heap, heap_state, object, one_if, over_processors, parts, parts_state, row, row_state, scheduler, scheduler_state, thread_state, total, word, object_state}
pub use Rattle.um_refinement.specs.Frames.{AreFramed, Behind, OnMemory, access_over}
pub use Rattle.um_refinement.specs.Lists.{Adds, adders, cleaned_pairs, counted, edited, edits, edits_step, has_claimed, has_held, has_steps, is_done, is_end_call, is_hold, is_let_go, is_own_claim, is_own_done, is_recycle, is_region_load, is_vacate, is_wake, is_wipe, looked, moves_step, moves_to, moving, names_row, of_thread, runs, runs_thread, visited, wake_of, is_cleared, is_move_done, queue_in, queue_of, has_loaded, domain_moved}
pub use Rattle.um_refinement.specs.Objects.{PairsAre, cell_of, is_reserved, recyclers, status_of, vacaters, wipers, ContentsAre, empty_cell, StatusIs}
pub use Rattle.um_refinement.specs.Offers.{Drops, Fits, IsOffered, IsPutBack, ListIs, Passes, behind_shown, is_over, Bare}
pub use Rattle.um_refinement.specs.Relation.{Rel, ThreadIs}
pub use Rattle.um_refinement.specs.Resources.{HeapIs, MemoryIs}
pub use Rattle.um_refinement.specs.Room.{CanCount, CanRun, IsHalted, IsStuck, has_number}
pub use Rattle.um_refinement.specs.Threads.{IsOf, IsRun, WordIs, first_told, flags_of, is_ended, is_ready_there, occurs, own_part, places, runs_on, told_by, AwayIs, is_ending, DomainKept, HeldIs, RunningIs, ReadyIs, ContextsAre, SchedulerIs, ToldIs, tellers}
pub use Rattle.um_base.specs.declared.attr.Attr.{Attr}
pub use Rattle.um_base.specs.declared.image.DomainDef.{DomainDef}
pub use Rattle.um_base.specs.declared.image.Partition.{Partition}
pub use Rattle.um_base.specs.declared.image.Setup.{Setup}
pub use Rattle.um_base.specs.declared.names.Mpu.{Mpu}
pub use Rattle.um_fine.proofs.FineRuns.{along, Along, nothing, then}
pub use Rattle.um_fine.specs.declared.table.Table.{Table}
pub use Rattle.um_invariants.proofs.Facts.{not_less, none_checked, is_standing, le_is, no_slice, same_kind}
pub use Rattle.um_invariants.proofs.Reached.{image_move}
pub use Rattle.um_invariants.proofs.RunMoves.{known_step, step_move, keeps_now, known_run}
pub use Rattle.um_invariants.proofs.ThreadServes.{served}
pub use Rattle.um_invariants.proofs.ThreadWaits.{IsServed, numbers, times, wakings, wakings-more}
pub use Rattle.um_machine.specs.Table.{next_doom, domain_at, move_reply, message_size}
pub use Rattle.um_machine.specs.declared.object.Cost.{Cost}
pub use Rattle.um_refinement.specs.Looks.{LooksAre, IsSized}
pub use Rattle.um_words.specs.Domains.{counted_domain, domain_after, domain_takes, domain_after_act}
