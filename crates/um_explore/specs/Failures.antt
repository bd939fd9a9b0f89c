-- How the threads of a run failed.
use Rattle.std.specs.Prelude.{ℕ, List, [], ◌∷◌, Option, Some, None, replicate, slice_set}
use Rattle.um_base.specs.declared.act.Act.{Act}
use Rattle.um_base.specs.declared.act.Event.{Event}
use Rattle.um_base.specs.declared.limits.TheConstants.{THREADS}
use Rattle.um_explore.specs.declared.failures.Failure.{Failure}

abbrev pub Failures : Type 0
Failures = List (Option Failure)

-- a thread's failure is kept until a new thread is started on its index
abbrev pub noted_act : ℕ → Act → Failures → Failures
noted_act t (Act.Fatal reason cause) notes = slice_set notes t (Some (record { reason = reason; cause = cause }))
noted_act t (Act.Start who) notes = slice_set notes who.0 None
noted_act t _ notes = notes

abbrev pub noted : Event → Failures → Failures
noted event notes = noted_act event.thread.0 event.act notes

abbrev pub noted_all : List Event → Failures → Failures
noted_all [] notes = notes
noted_all (e ∷ es) notes = noted_all es (noted e notes)

-- how each thread failed, by its index, if it did
abbrev pub failures : List Event → Failures
failures events = noted_all events (replicate {A = Option Failure} THREADS None)
