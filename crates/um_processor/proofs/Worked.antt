-- The event of a call's work on an object.
use Rattle.std.proofs.Common.{◌≡◌, ℕ, ◌+◌, Bool, true, false, [], ◌++◌, Some, refl, sym, subst, ap, ◌∙◌}
use Rattle.std.proofs.lemmas.List.{append-nil}
use Rattle.std.specs.Prelude.{unwrap_or}
use Rattle.um_base.specs.declared.act.Answer.{Answer}
use Rattle.um_base.specs.declared.ask.Ask.{Ask}
use Rattle.um_base.specs.declared.ask.Waiter.{Waiter}
use Rattle.um_base.specs.declared.image.Image.{Image}
use Rattle.um_base.specs.declared.names.Addr.{Addr}
use Rattle.um_machine.specs.declared.pending.Pending.{Pending}
use Rattle.um_machine.specs.Goes.{Next, work_change, work_way}
use Rattle.um_machine.specs.Order.{to_thread}
use Rattle.um_machine.specs.Table.{bytes_given}
use Rattle.um_service.specs.declared.outcome.Outcome.{Outcome as Served}
use Rattle.um_fine.specs.Addresses.{row_named}
use Rattle.um_fine.specs.Answers.{outcome_in}
use Rattle.um_fine.specs.Context.{Context}
use Rattle.um_fine.specs.Continues.{gone_part}
use Rattle.um_fine.specs.Follows.{filled_up, rereads, wakes}
use Rattle.um_fine.specs.Objects.{ObjectCell}
use Rattle.um_fine.specs.Places.{Todos, if_patient, may_wait}
use Rattle.um_fine.specs.Processor.{Processor}
use Rattle.um_fine.specs.Steps.{Exchange, FineStep, Outcome}
use Rattle.um_tables.specs.ObjectCells.{outcome_by, worked_made}
use Rattle.um_processor.specs.declared.running.Running.{Running}
use Rattle.um_processor.specs.Events.{rereads_behind, rest_of, shows, todo_after, waited_by, with_woken}
use Rattle.um_processor.specs.Processors.{Goes, ready_of, rereads_if, with_todo}

-- where an act waits, the thread's word is read once more behind all else
pub rereads-is : (image : Image) (answer : Answer) (b : Bool) (site : ℕ) (todo : Todos)
    → rereads image answer (if_patient b site) todo ≡ todo ++ rereads_if (rereads_behind b answer) site
rereads-is image Answer.Wait true site todo = refl
rereads-is image Answer.Wait false site todo = sym (append-nil todo)
rereads-is image (Answer.Now reply) true site todo = sym (append-nil todo)
rereads-is image (Answer.Now reply) false site todo = sym (append-nil todo)

module _ (image : Image) (cpu n : ℕ) (o : ObjectCell) (r : Running) (a : Addr) (ask : Ask) where
  abbrev pub who : Waiter
  who =
      let c = r.context.value in
      record { thread = to_thread c.thread; priority = c.priority; ask = ask; bytes = bytes_given c.buffer ask; until = c.until }

  abbrev made : ℕ → Waiter → ℕ → FineStep
  made x w noted = worked_made image cpu x n o a w noted

  -- the processor behind it, at the cell of a row, but for those who are woken
  abbrev pub behind_work : ℕ → Outcome → Processor
  behind_work x out =
      waited_by image [] (rereads_behind (may_wait ask) out.answer) (168 + x)
      (Next.on (work_change out.answer out.taken) (work_way r.context.value.mode ask out.answer)) r

  abbrev step : FineStep
  step = made (row_named image a) who (unwrap_or r.context.value.noted 0)

  abbrev out : Outcome
  out = outcome_in step.moved

  abbrev own : Context
  own = gone_part image (rest_of r) (Next.on (work_change out.answer out.taken) (work_way r.context.value.mode ask out.answer)) r.context.value

  worked : Goes cpu image (shows (Pending.Work a ask) r) step (with_woken out.woken (behind_work (row_named image a) out))
  worked =
      record {
        asks = record { maker = refl; makes = refl; fit = refl };
        next =
            ap (λ (todo : Todos). record (with_todo r []) { context = own; todo = wakes out.woken (filled_up image own todo); actor = Some r.context.value.thread })
            (sym (rereads-is image out.answer (may_wait ask) (168 + row_named image a) (todo_after r.phase [] (ready_of r))));
      }

  pub work-goes : (x : ℕ) (w : Waiter) (noted : ℕ) (served : Served) (z : Processor)
      → x ≡ row_named image a → w ≡ who → noted ≡ unwrap_or r.context.value.noted 0
      → (worked_made image cpu x n o a w noted).moved ≡ Exchange.asked w noted (outcome_by served) → z ≡ behind_work x (outcome_by served)
      → Goes cpu image (shows (Pending.Work a ask) r) (worked_made image cpu x n o a w noted) (with_woken served.woken z)
  work-goes x w noted served z ex ew en em ez =
      let came : outcome_by served ≡ out = sym (ap outcome_in em) ∙ (λ i. outcome_in (made (ex i) (ew i) (en i)).moved) in
      let left : with_woken served.woken z ≡ with_woken out.woken (behind_work (row_named image a) out) =
      ap (with_woken served.woken) ez ∙ (λ i. with_woken (came i).woken (behind_work (ex i) (came i))) in
      subst (λ (q : FineStep × Processor). Goes cpu image (shows (Pending.Work a ask) r) q.0 q.1)
      (λ i. (made (sym ex i) (sym ew i) (sym en i), sym left i))
      worked
