-- `==` of what a thread has still to do, and of those who wait, holds of a value and itself alone.
use Rattle.std.proofs.Common.{◌≡◌, ℕ, Bool, ◌==◌, ◌&&◌, int_eq, List, length, take, ap, ◌∙◌, sym}
use Rattle.std.specs.Cmp.{signed_Decides}
use Rattle.std.specs.Cmp.Lexicographic.{pointwise, pointwise_decides}
use Rattle.std.proofs.Math.Seq.{take-append_seam}
use denote.Enum.Bare.{sameb}
use Rattle.um_base.specs.Exact.{IsExact, ◌&◌, ◌⊕◌, exact, exact-decides, exact-number as number, exact-flag as flag, exact-end as none, exact-last as last, exact-bare, exact-enum, exact-done as done, exact-option as option}
use Rattle.um_base.specs.Equality.{exact-addr as addr, exact-thread as thread, exact-row as row, exact-attr as attr, exact-range as range, exact-errno as errno, exact-reply as reply}
use Rattle.um_base.specs.Room.{filled}
use Rattle.um_base.specs.contracts.act.Cause as cause_type
use Rattle.um_base.specs.contracts.ask.Ask as ask_type
use Rattle.um_base.specs.contracts.names.Kind as kind_type
use Rattle.um_base.specs.contracts.names.Mode as mode_type
use Rattle.um_base.specs.contracts.names.PartRef as part_type
use Rattle.um_base.specs.contracts.names.Timeout as timeout_type
use Rattle.um_base.specs.contracts.names.Want as want_type
use Rattle.um_base.specs.contracts.act.CausePartialEq.TheImpl as cause_equality
use Rattle.um_base.specs.contracts.ask.AskPartialEq.TheImpl as ask_equality
use Rattle.um_base.specs.contracts.ask.ToldPartialEq.TheImpl as told_equality
use Rattle.um_base.specs.contracts.ask.WaiterPartialEq.TheImpl as waiter_equality
use Rattle.um_base.specs.contracts.lists.PartRefsPartialEq.TheImpl as parts_equality
use Rattle.um_base.specs.contracts.lists.PiecePartialEq.TheImpl as piece_equality
use Rattle.um_base.specs.contracts.name.NamePartialEq.TheImpl as name_equality
use Rattle.um_base.specs.contracts.names.PartRefPartialEq.TheImpl as part_equality
use Rattle.um_base.specs.contracts.names.TimeoutPartialEq.TheImpl as timeout_equality
use Rattle.um_machine.specs.contracts.object.Status as status_type
use Rattle.um_machine.specs.contracts.pending.Amount as amount_type
use Rattle.um_machine.specs.contracts.pending.Pending as pending_type
use Rattle.um_machine.specs.contracts.pending.Refusal as refusal_type
use Rattle.um_machine.specs.contracts.thread.Life as life_type
use Rattle.um_machine.specs.contracts.object.CostPartialEq.TheImpl as cost_equality
use Rattle.um_machine.specs.contracts.pending.AmountPartialEq.TheImpl as amount_equality
use Rattle.um_machine.specs.contracts.pending.PendingPartialEq.TheImpl as pending_equality
use Rattle.um_machine.specs.contracts.pending.RefusalPartialEq.TheImpl as refusal_equality
use Rattle.um_machine.specs.contracts.thread.PlacePartialEq.TheImpl as place_equality

-- lists, and lists that are kept in a room

pub items : {A : Type 0} {E : A → A → Bool} → IsExact E → IsExact (pointwise E)
items e = exact (pointwise_decides (exact-decides e))

pub in_room : {A : Type 0} {E : A → A → Bool} (room : ℕ) (blank : A) → IsExact E
    → IsExact (λ (xs ys : List A). pointwise E (filled room blank xs) (filled room blank ys) && (length xs == length ys))
in_room {A = A} room blank e =
    let both = items e & number in
    record {
      same = λ xs ys h.
          let p : ◌≡◌ {A = List A × ℕ} (filled room blank xs, length xs) (filled room blank ys, length ys) = λ i. both.same (filled room blank xs, length xs) (filled room blank ys, length ys) h i in
          sym (take-append_seam xs _) ∙ ap (λ (q : List A × ℕ). take q.1 q.0) p ∙ take-append_seam ys _;
      itself = λ xs. both.itself (filled room blank xs, length xs);
    }

pub piece : IsExact piece_equality.ghosts.eq
piece = in_room 256 0 number

name : IsExact name_equality.ghosts.eq
name = in_room 24 0 number

-- the parts of a step, the variants of each in the order in which they are declared

int : IsExact int_eq
int = exact signed_Decides

kind : IsExact (sameb kind_type.the_type)
kind = exact-bare kind_type.the_type tt

mode : IsExact (sameb mode_type.the_type)
mode = exact-bare mode_type.the_type tt

want : IsExact (sameb want_type.the_type)
want = exact-bare want_type.the_type tt

pub life : IsExact (sameb life_type.the_type)
life = exact-bare life_type.the_type tt

pub status : IsExact (sameb status_type.the_type)
status = exact-bare status_type.the_type tt

timeout : IsExact timeout_equality.ghosts.eq
timeout = exact-enum timeout_type.enum (none ⊕ none ⊕ last number ⊕ done)

cause : IsExact cause_equality.ghosts.eq
cause = exact-enum cause_type.enum (last errno ⊕ none ⊕ none ⊕ none ⊕ none ⊕ none ⊕ none ⊕ none ⊕ none ⊕ none ⊕ done)

amount : IsExact amount_equality.ghosts.eq
amount = exact-enum amount_type.enum (last number ⊕ last addr ⊕ done)

refusal : IsExact refusal_equality.ghosts.eq
refusal = exact-enum refusal_type.enum (none ⊕ none ⊕ last reply ⊕ last reply ⊕ done)

part : IsExact part_equality.ghosts.eq
part = exact-enum part_type.enum (last name ⊕ last number ⊕ range & last attr ⊕ done)

parts : IsExact parts_equality.ghosts.eq
parts = in_room 4 _ part

ask : IsExact ask_equality.ghosts.eq
ask =
    exact-enum ask_type.enum (
    number & last number ⊕ last timeout ⊕ none ⊕ none ⊕ none ⊕ none ⊕ last timeout ⊕ none ⊕ number & number & last number ⊕ last timeout
    ⊕ last timeout ⊕ none ⊕ none ⊕ none ⊕ number & last number ⊕ last number ⊕ last timeout ⊕ number & last number
    ⊕ number & last timeout ⊕ number & last timeout ⊕ none ⊕ none ⊕ last number ⊕ none ⊕ none ⊕ none ⊕ last thread ⊕ last addr ⊕ done)

pub step : IsExact pending_equality.ghosts.eq
step =
    exact-enum pending_type.enum (
    none ⊕ none ⊕ addr & option kind & want & last refusal ⊕ number & addr & last number ⊕ addr & number & last number ⊕ last addr
    ⊕ addr & last amount ⊕ addr & last amount ⊕ last addr ⊕ last addr ⊕ last row ⊕ addr & last ask ⊕ none
    ⊕ option reply & last (option number) ⊕ thread & last addr ⊕ last thread ⊕ last thread ⊕ thread & last addr ⊕ last addr
    ⊕ addr & flag & last (option addr) ⊕ last addr ⊕ last thread ⊕ last kind ⊕ last addr ⊕ last number ⊕ last number
    ⊕ number & last parts ⊕ number & range & last attr ⊕ number & range & last attr ⊕ number & last thread
    ⊕ thread & number & row & int & last mode ⊕ last number ⊕ number & last cause ⊕ last number ⊕ last number ⊕ last number ⊕ last number
    ⊕ last thread ⊕ last thread ⊕ last thread ⊕ none ⊕ thread & last timeout ⊕ none ⊕ addr & number & last timeout ⊕ addr & last flag
    ⊕ last thread ⊕ none ⊕ none ⊕ last thread ⊕ none ⊕ last thread ⊕ done)

pub told : IsExact told_equality.ghosts.eq
told =
    let both = reply & piece in
    record {
      same = λ x y h i. let p = both.same (x.reply, x.taken) (y.reply, y.taken) h i in record { reply = p.0; taken = p.1 };
      itself = λ x. both.itself (x.reply, x.taken);
    }

pub place : IsExact place_equality.ghosts.eq
place =
    let all = number & number & number in
    record {
      same = λ x y h i. let p = all.same (x.script, (x.line, x.left)) (y.script, (y.line, y.left)) h i in record { script = p.0; line = p.1.0; left = p.1.1 };
      itself = λ x. all.itself (x.script, (x.line, x.left));
    }

pub cost : IsExact cost_equality.ghosts.eq
cost =
    let both = number & number in
    record {
      same = λ x y h i. let p = both.same (x.pool, x.bytes) (y.pool, y.bytes) h i in record { pool = p.0; bytes = p.1 };
      itself = λ x. both.itself (x.pool, x.bytes);
    }

pub waiter : IsExact waiter_equality.ghosts.eq
waiter =
    let all = thread & int & ask & piece & option number in
    record {
      same = λ x y h i.
          let p = all.same (x.thread, (x.priority, (x.ask, (x.bytes, x.until)))) (y.thread, (y.priority, (y.ask, (y.bytes, y.until)))) h i in
          record { thread = p.0; priority = p.1.0; ask = p.1.1.0; bytes = p.1.1.1.0; until = p.1.1.1.1 };
      itself = λ x. all.itself (x.thread, (x.priority, (x.ask, (x.bytes, x.until))));
    }
