-- Errands: what stands behind each, and before which phases one may come.
use Rattle.std.proofs.Common.{◌≡◌, ℕ, Bool, true, false, [], ◌∷◌, refl, ap, ◌∙◌}
use Rattle.std.specs.Prelude.{◌==◌, nat_lt, if◌then◌else◌, is_some, Option, Some, None}
use Rattle.std.proofs.lemmas.Bool.{false≢true}
use Rattle.um_base.specs.declared.image.Image.{Image}
use Rattle.um_base.specs.declared.limits.TheConstants.{ROWS}
use Rattle.um_base.specs.Places.{own_row}
use Rattle.um_machine.specs.declared.pending.Amount.{Amount}
use Rattle.um_machine.specs.declared.pending.Pending.{Pending}
use Rattle.um_machine.specs.Order.{Steps}
use Rattle.um_words.specs.declared.fine.Mark.{Mark}
use Rattle.um_fine.specs.Addresses.{row_named}
use Rattle.um_fine.specs.Context.{Context, no_context}
use Rattle.um_fine.specs.Follows.{filled_up}
use Rattle.um_fine.specs.Places.{Todo, Todos, but, clearing, end_of_turn, fine_steps, next_steps, noted_cell, noting}
use Rattle.um_fine.specs.Processor.{Processor}
use Rattle.um_processor.specs.declared.phase.Phase.{Phase}
use Rattle.um_processor.specs.declared.running.Running.{Running}
use Rattle.um_processor.specs.Events.{left_behind, todo_after, with_errand}
use Rattle.um_processor.specs.Phases.{is_going, kept_phase, lacks_thread}
use Rattle.um_processor.specs.Processors.{Ready, context_in, errands_of, in_phase, processor_of, settles_if}

-- a processor with a thread has its own part, and one without has none
pub own_kept : (phase : Phase) (c : Context) → lacks_thread phase ≡ false → (context_in phase c).thread ≡ c.thread
own_kept phase c h = ap (λ (b : Bool). (if b then no_context else c).thread) h

pub none_own : (phase : Phase) (c : Context) → lacks_thread phase ≡ true → (context_in phase c).thread ≡ 0
none_own phase c h = ap (λ (b : Bool). (if b then no_context else c).thread) h

-- an errand before a phase
rouse-before : (phase : Phase) (r : Running) (who : ℕ) → is_going phase ≡ true
    → processor_of (record r { sought = who; after = kept_phase phase; phase = Phase.Rouse }) ≡ with_errand (Todo.rouse who) (in_phase phase r)
rouse-before Phase.Idle r who h = absurd (false≢true h)
rouse-before Phase.Look r who h = absurd (false≢true h)
rouse-before Phase.TellCut r who h = absurd (false≢true h)
rouse-before Phase.Rouse r who h = absurd (false≢true h)
rouse-before Phase.AddRoused r who h = absurd (false≢true h)
rouse-before Phase.Handle r who h = absurd (false≢true h)
rouse-before Phase.Paid r who h = absurd (false≢true h)
rouse-before phase r who h = refl

pub rouse_stands : (r : Running) (who : ℕ) (after : Phase) → after ≡ kept_phase r.phase → is_going r.phase ≡ true
    → processor_of (record r { sought = who; after = after; phase = Phase.Rouse }) ≡ with_errand (Todo.rouse who) (processor_of r)
rouse_stands r who after e h =
    ap (λ (k : Phase). processor_of (record r { sought = who; after = k; phase = Phase.Rouse })) e ∙ rouse-before r.phase r who h

look-before : (phase : Phase) (r : Running) (who site before : ℕ) → is_going phase ≡ true
    → processor_of (record r { sought = who; place = site; before = before; after = kept_phase phase; phase = Phase.Look })
    ≡ with_errand (Todo.look who site before) (in_phase phase r)
look-before Phase.Idle r who site before h = absurd (false≢true h)
look-before Phase.Look r who site before h = absurd (false≢true h)
look-before Phase.TellCut r who site before h = absurd (false≢true h)
look-before Phase.Rouse r who site before h = absurd (false≢true h)
look-before Phase.AddRoused r who site before h = absurd (false≢true h)
look-before Phase.Handle r who site before h = absurd (false≢true h)
look-before Phase.Paid r who site before h = absurd (false≢true h)
look-before phase r who site before h = refl

pub look_stands : (r : Running) (who site before : ℕ) (after : Phase) → after ≡ kept_phase r.phase → is_going r.phase ≡ true
    → processor_of (record r { sought = who; place = site; before = before; after = after; phase = Phase.Look })
    ≡ with_errand (Todo.look who site before) (processor_of r)
look_stands r who site before after e h =
    ap (λ (k : Phase). processor_of (record r { sought = who; place = site; before = before; after = k; phase = Phase.Look })) e
    ∙ look-before r.phase r who site before h

-- Behind an event comes no errand, so one may come before what is left.

-- whether no errand is the first step
abbrev is_calm : Todos → Bool
is_calm (Todo.look who site before ∷ todo) = false
is_calm (Todo.tell_cut who ∷ todo) = false
is_calm (Todo.rouse who ∷ todo) = false
is_calm (Todo.add c ∷ todo) = false
is_calm (Todo.handle deadline mark ∷ todo) = false
is_calm (Todo.paid ∷ todo) = false
is_calm todo = true

-- whether a step is left, and it is none
abbrev goes : Todos → Bool
goes [] = false
goes (q ∷ todo) = is_calm (q ∷ todo)

goes-if : (b : Bool) (q : Todo) (todo : Todos) → is_calm (q ∷ []) ≡ true → goes todo ≡ true → goes (if b then q ∷ todo else todo) ≡ true
goes-if true q todo h k = calm-alone q todo h
  where
    calm-alone : (q : Todo) (todo : Todos) → is_calm (q ∷ []) ≡ true → is_calm (q ∷ todo) ≡ true
    calm-alone (Todo.look who site before) todo h = absurd (false≢true h)
    calm-alone (Todo.tell_cut who) todo h = absurd (false≢true h)
    calm-alone (Todo.rouse who) todo h = absurd (false≢true h)
    calm-alone (Todo.add c) todo h = absurd (false≢true h)
    calm-alone (Todo.handle deadline mark) todo h = absurd (false≢true h)
    calm-alone Todo.paid todo h = absurd (false≢true h)
    calm-alone q todo h = refl
goes-if false q todo h k = k

goes-end : (image : Image) (ended : Bool) → goes (end_of_turn image ended) ≡ true
goes-end image true = refl
goes-end image false = refl

module _ (image : Image) (c : Context) where
  goes-noting : (cell : Option ℕ) (todo : Todos) → goes todo ≡ true → goes (noting image c cell todo) ≡ true
  goes-noting None todo h = h
  goes-noting (Some site) todo h = by (is_some c.noted)
    where
      by : (b : Bool) → goes (if b then todo else Todo.note site ∷ todo) ≡ true
      by true = h
      by false = refl

  goes-steps : (p : Pending) (rest : Steps) → goes (fine_steps image c p rest) ≡ true
  goes-steps (Pending.Probe a (Amount.Bytes n)) rest = refl
  goes-steps (Pending.Probe a (Amount.MessageOf b)) rest = refl
  goes-steps (Pending.CopyIn a (Amount.Bytes n)) rest = refl
  goes-steps (Pending.CopyIn a (Amount.MessageOf b)) rest = refl
  goes-steps (Pending.Work a ask) rest = goes-noting (noted_cell image (Pending.Work a ask ∷ [])) _ refl
  goes-steps (Pending.Join who timeout) rest = goes-noting (noted_cell image (Pending.Join who timeout ∷ [])) _ refl
  goes-steps (Pending.FutexWait a value timeout) rest = goes-noting (noted_cell image (Pending.FutexWait a value timeout ∷ [])) _ refl
  goes-steps (Pending.Arm ticks) rest = goes-noting (noted_cell image rest) _ refl
  goes-steps (Pending.ClearInit a) rest = by (row_named image a == own_row image c.thread)
    where
      by : (b : Bool) → goes (clearing image b (Pending.ClearInit a) rest) ≡ true
      by true = refl
      by false = refl
  goes-steps p rest = refl

  goes-next : (steps : Steps) → goes (next_steps image c steps) ≡ true
  goes-next [] = goes-end image c.ended
  goes-next (Pending.Inherit who ∷ []) = refl
  goes-next (Pending.Inherit who ∷ p ∷ rest) =
      goes-if (nat_lt (but (own_row image c.thread) 0) ROWS) (Todo.pass who.0 (but (own_row image c.thread) 0)) (fine_steps image c p rest) refl (goes-steps p rest)
  goes-next (Pending.Drops from ∷ []) = refl
  goes-next (Pending.Drops from ∷ p ∷ rest) = goes-if (nat_lt from ROWS) (Todo.drop from) (fine_steps image c p rest) refl (goes-steps p rest)
  goes-next (p ∷ rest) = goes-steps p rest

  goes-filled : (todo : Todos) → is_calm todo ≡ true → goes (filled_up image c todo) ≡ true
  goes-filled [] h = goes-next c.pending
  goes-filled (q ∷ todo) h = h

calm-settling : (b : Bool) (deadline : ℕ) (mark : Mark) → is_calm (settles_if b deadline mark) ≡ true
calm-settling true deadline mark = refl
calm-settling false deadline mark = refl

calm-after : (phase : Phase) (k : Ready) → is_calm (todo_after phase [] k) ≡ true
calm-after Phase.Act k = calm-settling k.settles k.deadline k.mark
calm-after phase k = refl

going-by : (phase : Phase) (r : Running) → goes (errands_of phase r) ≡ true → is_going phase ≡ true
going-by Phase.Idle r h = absurd (false≢true h)
going-by Phase.Look r h = absurd (false≢true h)
going-by Phase.TellCut r h = absurd (false≢true h)
going-by Phase.Rouse r h = absurd (false≢true h)
going-by Phase.AddRoused r h = absurd (false≢true h)
going-by Phase.Handle r h = absurd (false≢true h)
going-by Phase.Paid r h = absurd (false≢true h)
going-by phase r h = refl

-- behind the event of a step in a phase
pub goes-left : (image : Image) (phase : Phase) (k : Ready) (c : Context) (t : ℕ) (r z : Running)
    → processor_of z ≡ left_behind image (todo_after phase [] k) c t r → is_going z.phase ≡ true
goes-left image phase k c t r z e =
    going-by z.phase z (ap (λ (p : Processor). goes p.todo) e ∙ goes-filled image c (todo_after phase [] k) (calm-after phase k))
