-- No list shows a resume, an inheritance or the drops of an end as one step: they are made as turns and visits.
use Rattle.um_refinement.proofs.Words.{waits, ◌||◌, ◌≡◌, ℕ, Bool, true, false, is_some, if◌then◌else◌, ◌==◌, behind_step, thread_in, [], ◌∷◌, ◌++◌, Option, Some, None, refl, sym, ap, ◌∙◌, nat_lt, list_all, and_parts, false≢true, Image, ROWS, own_row, thread_of_row, Pending, Steps, are_orderly, begins_cleaning, Context, goes_on_by, p_next, row_number, with_cleaned, Todo, Todos, is_cleaning_todo, but, cleaning_of, end_of_turn, fine_steps, next_steps, Processor, FineStep, names_row}
use Rattle.um_base.specs.declared.names.Addr.{Addr}
use Rattle.um_fine.specs.Addresses.{row_named}
use Rattle.um_fine.specs.Follows.{shown_step}
use Rattle.um_fine.specs.Places.{armed_for, clearing, noted_cell, noting, on_memory, put_away, settling}
use Rattle.um_refinement.specs.Frames.{AreFramed, IsActOver, access_alone, access_settled, act_alone, act_settled}
use Rattle.um_refinement.proofs.ListGrips.{next-context}
use Rattle.um_refinement.proofs.ListGrowth.{acted-kept, behind-kept, cleaning-kept, either, either-look, ends-always, is_errand, looks-kept, quiet-kept, show-kept, take-kept, turn-kept, visits_row}

-- a step that is shown as one
abbrev pub is_single : Pending → Bool
is_single Pending.Resume = false
is_single (Pending.Inherit who) = false
is_single (Pending.Drops from) = false
is_single q = true

abbrev pub shows_single : Todo → Bool
shows_single (Todo.show q rest) = is_single q
shows_single q = true

abbrev pub AreSingle : Todos → Type 0
AreSingle todo = list_all shows_single todo ≡ true

tail-single : (q : Todo) (todo : Todos) → AreSingle (q ∷ todo) → AreSingle todo
tail-single q todo h = (and_parts (shows_single q) (list_all shows_single todo) h).1

-- steps that wait, or that are in order
abbrev pub are_in_order : Steps → Bool
are_in_order steps = waits steps || are_orderly steps

module _ (image : Image) where
  noted : (c : Context) (site : Option ℕ) (todo : Todos) → AreSingle todo → AreSingle (noting image c site todo)
  noted c None todo h = h
  noted c (Some site) todo h = elim (is_some c.noted) as (λ b. AreSingle (if b then todo else Todo.note site ∷ todo)) [ true ↦ h | false ↦ h ]

  settled : (c : Context) (until : Option ℕ) (p : Pending) → AreSingle (settling image c until p)
  settled c None p = refl
  settled c (Some deadline) p = refl

  cleared : (own : Bool) (a : Addr) (rest : Steps) → AreSingle (clearing image own (Pending.ClearInit a) rest)
  cleared true a rest = refl
  cleared false a rest = refl

  fine-single : (c : Context) (q : Pending) (rest : Steps) → is_single q ≡ true → AreSingle (fine_steps image c q rest)
  fine-single c (Pending.Work a ask) rest h =
      let q = Pending.Work a ask in noted c (noted_cell image (q ∷ [])) (Todo.show q rest ∷ settling image c (armed_for image c q) q) (settled c (armed_for image c q) q)
  fine-single c (Pending.Join who timeout) rest h =
      let q = Pending.Join who timeout in noted c (noted_cell image (q ∷ [])) (Todo.show q rest ∷ settling image c (armed_for image c q) q) (settled c (armed_for image c q) q)
  fine-single c (Pending.FutexWait a value timeout) rest h =
      let q = Pending.FutexWait a value timeout in noted c (noted_cell image (q ∷ [])) (on_memory q rest ++ settling image c (armed_for image c q) q) (settled c (armed_for image c q) q)
  fine-single c (Pending.Arm ticks) rest h = noted c (noted_cell image rest) (Todo.owe ∷ Todo.show (Pending.Arm ticks) rest ∷ []) refl
  fine-single c (Pending.ClearInit a) rest h = cleared (row_named image a == own_row image c.thread) a rest
  fine-single c Pending.Resume rest h = absurd (false≢true h)
  fine-single c (Pending.Inherit who) rest h = absurd (false≢true h)
  fine-single c (Pending.Drops from) rest h = absurd (false≢true h)
  fine-single c (Pending.Probe a amount) rest h = either-look image AreSingle amount _ (λ x k. k) refl
  fine-single c (Pending.CopyIn a amount) rest h = either-look image AreSingle amount _ (λ x k. k) refl
  fine-single c q rest h = refl

  end-single : (b : Bool) → AreSingle (end_of_turn image b)
  end-single true = refl
  end-single false = refl

  -- behind an inheritance stands a start, and behind the drops of an end a clearing
  next-single : (c : Context) (steps : Steps) → are_in_order steps ≡ true → AreSingle (next_steps image c steps)
  next-single c [] h = end-single c.ended
  next-single c (Pending.Resume ∷ rest) h = refl
  next-single c (Pending.Inherit who ∷ []) h = absurd (false≢true h)
  next-single c (Pending.Inherit who ∷ Pending.Start w script stack priority mode ∷ rest) h =
      let x = but (own_row image c.thread) 0 in either image AreSingle (nat_lt x ROWS) (Todo.pass who.0 x) (fine_steps image c (Pending.Start w script stack priority mode) rest) (λ few k. k) refl
  next-single c (Pending.Inherit who ∷ q ∷ rest) h = absurd (false≢true h)
  next-single c (Pending.Drops from ∷ []) h = absurd (false≢true h)
  next-single c (Pending.Drops from ∷ Pending.ClearInit a ∷ rest) h =
      either image AreSingle (nat_lt from ROWS) (Todo.drop from) (fine_steps image c (Pending.ClearInit a) rest) (λ few k. k) (cleared (row_named image a == own_row image c.thread) a rest)
  next-single c (Pending.Drops from ∷ q ∷ rest) h = absurd (false≢true h)
  next-single c (q ∷ rest) h = fine-single c q rest refl

  abbrev IsOrderly : Context → Type 0
  IsOrderly c = are_in_order c.pending ≡ true

  expands : (c : Context) → IsOrderly c → AreSingle [] → AreSingle (next_steps image c c.pending)
  expands c o h = next-single c c.pending o

  put : (q : Todo) (todo : Todos) → visits_row q ≡ true → names_row q ≡ true → AreSingle todo → AreSingle (q ∷ todo)
  put (Todo.show q rest) todo visit few h = absurd (false≢true visit)
  put q todo visit few h = h

  errand : (q : Todo) (todo : Todos) → is_errand q ≡ true → AreSingle todo → AreSingle (q ∷ todo)
  errand (Todo.show q rest) todo on h = absurd (false≢true on)
  errand q todo on h = h

  away-single : (doomed : Bool) → AreSingle (put_away doomed)
  away-single true = refl
  away-single false = refl

  waited : (site : ℕ) (todo : Todos) → IsActOver todo → AreSingle todo → AreSingle (todo ++ Todo.reread site ∷ [])
  waited site _ act_alone h = refl
  waited site _ act_settled h = refl
  waited site _ access_alone h = refl
  waited site _ access_settled h = refl

  goes-single : (p : Processor) (e : FineStep) (todo : Todos) → AreFramed image todo → AreSingle p.todo → IsOrderly (goes_on_by image p e todo).context → AreSingle todo
      → AreSingle (goes_on_by image p e todo).todo
  goes-single p e [] framed was o h = take-kept image AreSingle IsOrderly expands p (turn-kept image AreSingle refl refl) (λ deadline mark. refl) e.moved o refl was
  goes-single p e (Todo.show q rest ∷ todo) framed was o h =
      show-kept image AreSingle IsOrderly expands p e q rest todo AreSingle o waited framed.0
      (λ z k. let made = shown_step image q e.act in looks-kept image AreSingle errand (λ x y g. g) p.context made e (behind_step image p.context made e.moved z)
      (behind-kept image AreSingle errand (λ x y g. g) p.context made e.moved z k))
      (λ read. away-single (thread_in e.word).doomed) (tail-single (Todo.show q rest) todo h)
  goes-single p e (q ∷ todo) framed was o h =
      quiet-kept image AreSingle IsOrderly expands p errand put (λ who x z few k. k) (λ z k. k) (λ d z k. k) e q todo refl o (ends-always AreSingle refl away-single (λ c z k. k) e q) h

  cleaned-are : (p : Processor) (e : FineStep) (b : Bool) → AreSingle p.todo → AreSingle (with_cleaned image p e b).todo
  cleaned-are p e false h = h
  cleaned-are p e true h = cleaning-kept image (λ old new. AreSingle old → AreSingle new) (row_number e.site) first later p.todo h
    where
      first : (o : Option ℕ) (todo : Todos) → thread_of_row image (row_number e.site) ≡ o → AreSingle todo → AreSingle (cleaning_of (row_number e.site) o ++ todo)
      first None todo at k = k
      first (Some who) todo at k = k

      later : (q : Todo) (old new : Todos) → is_cleaning_todo q ≡ true → (AreSingle old → AreSingle new) → AreSingle (q ∷ old) → AreSingle (q ∷ new)
      later (Todo.show q rest) old new c more k = absurd (false≢true c)
      later q old new c more k = more k

  -- so after a step of the processor, where the steps that its thread has left then are in order
  pub next-are-single : (p : Processor) (e : FineStep) → AreFramed image p.todo → are_in_order (p_next image p e).context.pending ≡ true → AreSingle p.todo → AreSingle (p_next image p e).todo
  next-are-single p e framed o h =
      acted-kept image AreSingle (with_cleaned image (goes_on_by image p e p.todo) e (begins_cleaning e)) e.act
      (cleaned-are (goes_on_by image p e p.todo) e (begins_cleaning e)
      (goes-single p e p.todo framed h (ap (λ (c : Context). are_in_order c.pending) (sym (next-context image p e)) ∙ o) h))
