-- What all sites and processors have left together: what no single site and processor know. A suspended thread that doesn't sleep may still be put
-- to sleep, and a processor that put to sleep a thread that is awake by now is still to rouse it.
use Rattle.std.specs.Prelude.{ℕ, ◌+◌, ◌*◌, Bool, ◌==◌, ◌&&◌, not, is_some, if◌then◌else◌, ◌∷◌}
use Rattle.std.specs.List.{list_any}
use Rattle.um_base.specs.declared.act.Act.{Act}
use Rattle.um_base.specs.declared.limits.TheConstants.{THREADS}
use Rattle.um_words.specs.declared.fine.FineAct.{FineAct}
use Rattle.um_words.specs.declared.fine.Unseen.{Unseen}
use Rattle.um_words.specs.Threads.{is_awake}
use Rattle.um_fine.specs.Answers.{is_word_read, thread_in}
use Rattle.um_fine.specs.FineRun.{cpu_of, same_cpu, site_of}
use Rattle.um_fine.specs.Follows.{p_next}
use Rattle.um_fine.specs.Joins.{asleep_at}
use Rattle.um_fine.specs.Places.{Todo, Todos}
use Rattle.um_fine.specs.Processor.{Processor}
use Rattle.um_fine.specs.Runs.{changed}
use Rattle.um_fine.specs.Sites.{s_next, same_site}
use Rattle.um_fine.specs.Steps.{FineStep}
use Rattle.um_refinement.specs.Fine.{Fine, joins, one_if, over_processors, total, word}
use Rattle.um_refinement.specs.Lists.{is_sleep}
use Rattle.um_refinement.specs.Stops.{is_reread_asleep}
use Rattle.um_fine_measure.specs.Measure.{rouse_cost, sleep_cost, waking_cost}

-- a processor is about to put this thread to sleep
abbrev pub puts_to_sleep : ℕ → Processor → Bool
puts_to_sleep t p = list_any is_sleep p.todo && (p.context.thread == t)

-- a thread is suspended, doesn't sleep, and isn't about to
abbrev pub may_sleep : Fine → ℕ → Bool
may_sleep f t =
    (word f t).suspended && (not (is_some (asleep_at (joins f) t)) && (over_processors f (λ p. one_if (puts_to_sleep t p)) == 0))

-- a processor put a thread to sleep that is awake by now, and is to read its word once more
abbrev pub may_rouse : Fine → Processor → Bool
may_rouse f p = list_any is_reread_asleep p.todo && is_awake (word f p.context.thread)

unfoldable pub sleeps_left : Fine → ℕ
sleeps_left f = total (λ t. one_if (may_sleep f t)) THREADS

unfoldable pub rouses_left : Fine → ℕ
rouses_left f = over_processors f (λ p. one_if (may_rouse f p))

abbrev pub whole_cost : Fine → ℕ
whole_cost f = sleep_cost * sleeps_left f + rouse_cost * rouses_left f

-- the processors and the sites after one more step
abbrev pub gone_on : Fine → FineStep → Fine
gone_on f e =
    record f {
      processors = changed same_cpu cpu_of (p_next f.image) f.processors e;
      sites = changed same_site site_of (s_next f.image) f.sites e;
    }

-- What a step adds to that: another thread may sleep, or each processor may have one to rouse.

abbrev pub paid_by_act : Act → ℕ
paid_by_act (Act.Abort who done) = waking_cost
paid_by_act (Act.Continue who done) = waking_cost
paid_by_act (Act.Start who) = waking_cost
paid_by_act (Act.Suspend who done) = sleep_cost
paid_by_act act = 0

abbrev pub paid_by : FineAct → ℕ
paid_by (FineAct.Shown event more) = paid_by_act event.act
paid_by (FineAct.Unseen (Unseen.Rouse who)) = sleep_cost
paid_by (FineAct.Unseen unseen) = 0

-- What a step takes of that: a thread is about to sleep since its word shows it suspended, or is about to be roused since its word shows it awake.

abbrev pub got_by_read : (read doomed : Bool) → ℕ
got_by_read read doomed = if read && not doomed then sleep_cost else 0

abbrev pub got_by : Todos → FineStep → ℕ
got_by (Todo.show q rest ∷ todo) e = got_by_read (is_word_read e.act) (thread_in e.word).doomed
got_by (Todo.reread_asleep ∷ todo) e = if is_awake (thread_in e.word) then rouse_cost else 0
got_by todo e = 0
