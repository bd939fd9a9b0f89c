-- After an event its thread, with what the event put on the list, costs less than before.
use Rattle.std.proofs.Common.{◌≡◌, ◌≤◌, ℕ, ◌+◌, Bool, true, false, [], ◌∷◌, length, length-append, refl, arith, if◌then◌else◌, Option, Some, None}
use Rattle.um_base.specs.declared.act.Act.{Act}
use Rattle.um_base.specs.declared.act.Answer.{Answer}
use Rattle.um_base.specs.declared.image.Image.{Image}
use Rattle.um_base.specs.declared.names.Access.{Access}
use Rattle.um_base.specs.declared.names.Addr.{Addr}
use Rattle.um_base.specs.declared.names.Errno.{Errno}
use Rattle.um_base.specs.declared.names.Mode.{Mode}
use Rattle.um_machine.specs.declared.pending.Pending.{Pending}
use Rattle.um_machine.specs.declared.pending.Refusal.{Refusal}
use Rattle.um_machine.specs.Goes.{Change, Next, Way, checked_way, next_doom, steps_by}
use Rattle.um_machine.specs.Order.{Steps}
use Rattle.um_machine.specs.Services.{is_empty}
use Rattle.um_machine.specs.State.{first_place, next_place}
use Rattle.um_machine.specs.Table as T
use Rattle.um_measure.specs.Measure.{lines_left}
use Rattle.um_fine.specs.Addresses.{row_named}
use Rattle.um_fine.specs.Answers.{answer_in, fits_in, found_in, is_fault, reserved_in, set_in, value_in, verdict_in}
use Rattle.um_fine.specs.Asks.{allows, moves_show, moves_step, says_step}
use Rattle.um_fine.specs.Context.{Context, as_thread}
use Rattle.um_fine.specs.Continues.{came_in, changed_part, continues, gone_part, held_part}
use Rattle.um_fine.specs.Processor.{Processor}
use Rattle.um_fine.specs.Steps.{Exchange}
use Rattle.um_fine_measure.specs.Measure.{ahead_cost, end_cost, event_cost, reread_cost, shown_cost, steps_cost, put_back_cost}
use Rattle.um_fine_measure.specs.Ready.{MayShow}
use Rattle.um_fine_measure.specs.Whole.{paid_by_act}
use Rattle.um_fine_measure.proofs.Between.{given_by_act, joins, taken_by_act}
use Rattle.um_fine_measure.proofs.LeftLemmas.{ahead-begun, asked-way, behind_line, buffer-way, copied-way, doom-cost, end-cost, fatal-cost, fault-way, goes-cost, left_cost, refused-way, reserve-way, set-way, text-way, way-cost, way_cost, work-way}
use Rattle.um_fine_measure.proofs.ListLemmas.{again_cost, behind_cost, looks_cost, waits_cost}

again-most : (answer : Answer) → again_cost answer ≤ reread_cost
again-most Answer.Wait = omega arith
again-most (Answer.Now reply) = omega arith

joins-most : (answer : Answer) → joins answer ≤ 1
joins-most Answer.Wait = omega arith
joins-most (Answer.Now reply) = omega arith

module _ (image : Image) where
  -- what comes of an event, as it is said, with what went with it
  abbrev pub EventFalls : Context → Pending → Steps → Act → Exchange → Type 0
  EventFalls c q rest act moved =
      left_cost image (continues image c 0 q rest act moved) + behind_cost c q moved + looks_cost q act + waits_cost q act + given_by_act act moved + paid_by_act act + 1
      ≤ length c.claims + ahead_cost image c + shown_cost image q rest + taken_by_act image act moved

  given-if : (b : Bool) (x y : Act) (moved : Exchange) → given_by_act x moved ≡ 0 → given_by_act y moved ≡ 0 → paid_by_act x ≡ 0 → paid_by_act y ≡ 0
      → given_by_act (if b then x else y) moved + paid_by_act (if b then x else y) ≡ 0
  given-if true x y moved hx hy px py = omega (arith, hx, px)
  given-if false x y moved hx hy px py = omega (arith, hy, py)

  module _ (c : Context) (begun : ahead_cost image c ≡ behind_line image c) where
    -- what a thread may have left that had so much, with these steps after an event
    abbrev most : Steps → ℕ
    most rest = length c.claims + ahead_cost image c + steps_cost image rest + put_back_cost

    on-left : (change : Change) (way : Way) (rest : Steps) → left_cost image (gone_part image rest (Next.on change way) c) ≤ most rest + way_cost way
    on-left Change.nothing way rest = let goes = goes-cost image c (steps_by rest way) in let more = way-cost image way rest in omega (arith, goes, more, begun)
    on-left change way rest = let goes = goes-cost image (changed_part change c) (steps_by rest way) in let more = way-cost image way rest in omega (arith, goes, more, begun)

    check-left : (a : Addr) (rest : Steps) (refusal : Refusal) (v : Option Errno) → left_cost image (gone_part image rest (Next.checks (row_named image a) v (checked_way c.mode refusal v)) c) ≤ most rest + 1
    check-left a rest refusal None =
        let long = length-append c.claims (row_named image a ∷ []) in
        let goes = goes-cost image (held_part (row_named image a) None c) rest in omega (arith, goes, begun, long)
    check-left a rest refusal (Some e) =
        let left = on-left Change.nothing (checked_way c.mode refusal (Some e)) rest in
        let less = refused-way c.mode refusal e in omega (arith, left, less)

    enter-left : (script : ℕ) → left_cost image (record c { mode = Mode.User; place = first_place image script; pending = [] }) ≤ most [] + lines_left image (first_place image script)
    enter-left script = let less = by c.ended in omega (arith, less, begun)
      where
        by : (b : Bool) → (if b then 0 else end_cost + lines_left image (first_place image script)) ≤ (if b then 0 else end_cost + lines_left image (next_place image c.place)) + lines_left image (first_place image script)
        by true = omega arith
        by false = omega arith

  module _ (p : Processor) (said : Act) (moved : Exchange) where
    abbrev Falls : Pending → Steps → Type 0
    Falls q rest = EventFalls p.context q rest (says_step image p q said) (moves_show image p q rest moved)

    lives : p.context.ended ≡ false → end_cost ≤ ahead_cost image p.context
    lives h = rw h (omega arith)

    abbrev says : Pending → Act
    says q = says_step image p q said

    abbrev next : Pending → Steps → Next
    next q rest = T.continues image p.context.thread (as_thread p.context) 0 q (says q) (came_in q (moves_show image p q rest moved))

    -- the way of a step that goes on in its call
    abbrev way_of : Next → Way
    way_of (Next.on change way) = way
    way_of next = Way.rest

    abbrev IsOn : Next → Type 0
    IsOn (Next.on change way) = Unit {0}
    IsOn next = ⊥

    call-left : (rest : Steps) (some : is_empty p.context.pending ≡ false) (next : Next) → IsOn next
        → left_cost image (gone_part image rest next p.context) ≤ most p.context (ahead-begun image p.context some) rest + way_cost (way_of next)
    call-left rest some (Next.on change way) on = on-left p.context (ahead-begun image p.context some) change way rest
    call-left rest some next on = absurd on

    -- an event of a call, which costs as much as the way that it leaves
    call-falls : (q : Pending) (rest : Steps) → is_empty p.context.pending ≡ false → IsOn (next q rest) → shown_cost image q rest ≡ event_cost image q + steps_cost image rest + put_back_cost
        → way_cost (way_of (next q rest)) + behind_cost p.context q (moves_show image p q rest moved) + looks_cost q (says q) + waits_cost q (says q) + given_by_act (says q) (moves_show image p q rest moved)
        + paid_by_act (says q) + 1
        ≤ event_cost image q + taken_by_act image (says q) (moves_show image p q rest moved)
        → Falls q rest
    call-falls q rest some on shown few = let left = call-left rest some (next q rest) on in omega (arith, left, shown, few)

    pub event-falls : (q : Pending) (rest : Steps) → MayShow image p.context q → (MayShow image p.context Pending.Begin → Falls Pending.Begin rest) → Falls q rest
    event-falls Pending.Begin rest may begins = begins may
    event-falls Pending.Exit rest may begins =
        let cost = end-cost image p.context.thread p.context in
        let more = lives may.0 in omega (arith, cost, more)
    event-falls Pending.Killed rest may begins =
        let cost = end-cost image p.context.thread p.context in
        let more = lives may in omega (arith, cost, more)
    event-falls (Pending.Check a kind want refusal) rest may begins =
        let left = check-left p.context (ahead-begun image p.context may) a rest refusal (verdict_in said) in omega (arith, left)
    event-falls (Pending.Load to a n) rest may begins =
        let none = given-if (allows image p Access.Read a.0 n) (Act.Load a n (value_in said)) (Act.Fault Access.Read a n) (moves_step image p (Pending.Load to a n) moved) refl refl refl refl in
        let free = fault-way (is_fault (says (Pending.Load to a n))) in call-falls (Pending.Load to a n) rest may tt refl (omega (arith, none, free))
    event-falls (Pending.Store a n value) rest may begins =
        let none = given-if (allows image p Access.Write a.0 n) (Act.Store a n value) (Act.Fault Access.Write a n) (moves_step image p (Pending.Store a n value) moved) refl refl refl refl in
        let free = fault-way (is_fault (says (Pending.Store a n value))) in call-falls (Pending.Store a n value) rest may tt refl (omega (arith, none, free))
    event-falls (Pending.Fetch a) rest may begins =
        let none = given-if (allows image p Access.Exec a.0 4) (Act.Fetch a) (Act.Fault Access.Exec a 4) (moves_step image p (Pending.Fetch a) moved) refl refl refl refl in
        let free = fault-way (is_fault (says (Pending.Fetch a))) in call-falls (Pending.Fetch a) rest may tt refl (omega (arith, none, free))
    event-falls (Pending.Probe a amount) rest may begins =
        let free = copied-way p.context.mode (fits_in (says (Pending.Probe a amount))) in call-falls (Pending.Probe a amount) rest may tt refl (omega (arith, free))
    event-falls (Pending.CopyIn a amount) rest may begins =
        let free = copied-way p.context.mode (fits_in (says (Pending.CopyIn a amount))) in call-falls (Pending.CopyIn a amount) rest may tt refl (omega (arith, free))
    event-falls (Pending.CopyOut a) rest may begins =
        let free = copied-way p.context.mode (fits_in (says (Pending.CopyOut a))) in call-falls (Pending.CopyOut a) rest may tt refl (omega (arith, free))
    event-falls (Pending.CopyStr a) rest may begins = let few = text-way (found_in said) in call-falls (Pending.CopyStr a) rest may tt refl (omega (arith, few))
    event-falls (Pending.Work a ask) rest may begins =
        let few = work-way p.context.mode ask (answer_in said) in
        let again = again-most (answer_in said) in call-falls (Pending.Work a ask) rest may tt refl (omega (arith, few, again))
    event-falls (Pending.Join who timeout) rest may begins =
        let free = asked-way (answer_in said) in
        let few = joins-most (answer_in said) in
        let again = again-most (answer_in said) in call-falls (Pending.Join who timeout) rest may tt refl (omega (arith, free, few, again))
    event-falls (Pending.FutexWait a value timeout) rest may begins =
        let free = asked-way (answer_in said) in
        let few = joins-most (answer_in said) in
        let again = again-most (answer_in said) in call-falls (Pending.FutexWait a value timeout) rest may tt refl (omega (arith, free, few, again))
    event-falls (Pending.FutexWake a all) rest may begins =
        let free = asked-way (answer_in said) in call-falls (Pending.FutexWake a all) rest may tt refl (omega (arith, free))
    event-falls (Pending.Arm ticks) rest may begins = call-falls (Pending.Arm ticks) rest may tt refl (omega arith)
    event-falls (Pending.ArmTimer ticks) rest may begins = call-falls (Pending.ArmTimer ticks) rest may tt refl (omega arith)
    event-falls (Pending.SetInit a strict undo) rest may begins =
        let few = set-way p.context.mode undo (set_in said) in call-falls (Pending.SetInit a strict undo) rest may tt refl (omega (arith, few))
    event-falls (Pending.Reserve kind) rest may begins = let few = reserve-way (reserved_in said) in call-falls (Pending.Reserve kind) rest may tt refl (omega (arith, few))
    event-falls (Pending.Buffer size) rest may begins = let few = buffer-way (fits_in said) in call-falls (Pending.Buffer size) rest may tt refl (omega (arith, few))
    event-falls (Pending.EnterUser script) rest may begins =
        let left = enter-left p.context (ahead-begun image p.context may) script in omega (arith, left)
    event-falls (Pending.Fatal reason cause) rest may begins =
        let cost = fatal-cost image p.context.thread p.context reason image.policy in
        let more = lives may in omega (arith, cost, more)
    event-falls (Pending.Dooms from) rest may begins =
        let cost = doom-cost image from in
        let none : left_cost image (record p.context { pending = next_doom from }) ≡ length p.context.claims + (0 + steps_cost image (next_doom from) + put_back_cost) = rw may refl in
        omega (arith, cost, none)
    event-falls Pending.Resume rest may begins = absurd may
    event-falls (Pending.Inherit who) rest may begins = absurd may
    event-falls (Pending.Drops from) rest may begins = absurd may
    event-falls (Pending.CleanPair who) rest may begins = absurd may
    event-falls Pending.Recycle rest may begins = absurd may
    event-falls Pending.Left rest may begins = absurd may
    event-falls Pending.Tick rest may begins = absurd may
    event-falls (Pending.TimeOut who) rest may begins = absurd may
    event-falls Pending.Expire rest may begins = absurd may
    event-falls (Pending.Cut who) rest may begins = absurd may
    event-falls q rest may begins =
        let begun = ahead-begun image p.context may in
        let goes = goes-cost image p.context rest in omega (arith, goes, begun)
