-- The clock: virtual time, and the marks that were armed, in their order.
use Rattle.std.specs.Prelude.{ℕ, ◌+◌, Bool, true, false, ◌==◌, ◌&&◌, not, nat_le, if◌then◌else◌, List, [], ◌∷◌, ◌++◌, map, Option, Some, None, is_some, unwrap_or}
use Rattle.um_base.specs.declared.act.Act.{Act}
use Rattle.um_machine.specs.Time.{next_deadline}
use Rattle.um_words.specs.declared.fine.FineAct.{FineAct}
use Rattle.um_words.specs.declared.fine.Mark.{Mark}
use Rattle.um_words.specs.declared.fine.Unseen.{Unseen}
use Rattle.um_fine.specs.Steps.{Exchange}
use Rattle.um_fine.specs.Answers.{due_in, mark_in, ticks_in}

-- A mark: it is settled once its wait, or its timer's start, was made, and given at most once.
pub record Marked : Type 0 where
  pub deadline : ℕ
  pub mark : Mark
  pub settled : Bool
  pub given : Bool

pub record Clock : Type 0 where
  pub now : ℕ
  pub marks : List Marked

-- a mark's sort, and its two numbers
abbrev pub mark_code : Mark → ℕ × ℕ × ℕ
mark_code (Mark.Thread who site) = (0, who.0, site)
mark_code (Mark.Timer x) = (1, x.0, 0)

abbrev pub same_mark : Mark → Mark → Bool
same_mark a b = (mark_code a).0 == (mark_code b).0 && (mark_code a).1 == (mark_code b).1 && (mark_code a).2 == (mark_code b).2

abbrev pub deadlines : List Marked → List ℕ
deadlines ms = map (λ (m : Marked). m.deadline) ms

-- the next deadline to which time goes on, and the next mark that is due
abbrev pub later : Clock → Option ℕ
later c = next_deadline c.now (deadlines c.marks)

abbrev pub is_due : ℕ → Marked → Bool
is_due now m = nat_le m.deadline now && m.settled && not m.given

abbrev pub first_due : ℕ → List Marked → Option Marked
first_due now [] = None
first_due now (m ∷ ms) = if is_due now m then Some m else first_due now ms

abbrev pub give_first : ℕ → List Marked → List Marked
give_first now [] = []
give_first now (m ∷ ms) = if is_due now m then record m { given = true } ∷ ms else m ∷ give_first now ms

abbrev pub is_unsettled : ℕ → Mark → Marked → Bool
is_unsettled deadline mark m = not m.settled && m.deadline == deadline && same_mark m.mark mark

abbrev pub settle_first : ℕ → Mark → List Marked → List Marked
settle_first deadline mark [] = []
settle_first deadline mark (m ∷ ms) =
    if is_unsettled deadline mark m then record m { settled = true } ∷ ms else m ∷ settle_first deadline mark ms

-- What it answers.

abbrev pub clock_says_act : Clock → Exchange → Act → Act
clock_says_act c moved (Act.Arm deadline) = Act.Arm (c.now + ticks_in moved)
clock_says_act c moved (Act.Tick now) = Act.Tick (unwrap_or (later c) c.now)
clock_says_act c moved act = act

abbrev pub clock_says : Clock → Exchange → FineAct → FineAct
clock_says c moved (FineAct.Shown event more) = FineAct.Shown (record event { act = clock_says_act c moved event.act }) more
clock_says c moved (FineAct.Unseen unseen) = FineAct.Unseen unseen

abbrev pub mark_given : Option Marked → Exchange
mark_given None = Exchange.nothing
mark_given (Some m) = Exchange.mark m.deadline m.mark

abbrev pub clock_moves : Clock → FineAct → Exchange → Exchange
clock_moves c (FineAct.Unseen Unseen.Due) moved = mark_given (first_due c.now c.marks)
clock_moves c act moved = moved

-- Which steps it takes.

abbrev pub clock_takes_act : Clock → Act → Bool
clock_takes_act c (Act.Arm deadline) = true
clock_takes_act c (Act.Tick now) = is_some (later c)
clock_takes_act c act = false

abbrev pub clock_takes : Clock → FineAct → Bool
clock_takes c (FineAct.Shown event more) = clock_takes_act c event.act
clock_takes c (FineAct.Unseen Unseen.Settle) = true
clock_takes c (FineAct.Unseen Unseen.Due) = is_some (first_due c.now c.marks)
clock_takes c (FineAct.Unseen unseen) = false

-- What it leaves.

abbrev pub clock_after_act : Clock → Exchange → Act → Clock
clock_after_act c moved (Act.Arm deadline) =
    record c { marks = c.marks ++ record { deadline = deadline; mark = mark_in moved; settled = false; given = false } ∷ [] }
clock_after_act c moved (Act.Tick now) = record c { now = now }
clock_after_act c moved act = c

abbrev pub clock_after : Clock → FineAct → Exchange → Clock
clock_after c (FineAct.Shown event more) moved = clock_after_act c moved event.act
clock_after c (FineAct.Unseen Unseen.Settle) moved = record c { marks = settle_first (due_in moved) (mark_in moved) c.marks }
clock_after c (FineAct.Unseen Unseen.Due) moved = record c { marks = give_first c.now c.marks }
clock_after c (FineAct.Unseen unseen) moved = c
