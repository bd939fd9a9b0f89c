-- What comes of a step of a processor's thread, for the whole processor.
use Rattle.std.proofs.Common.{◌≡◌, ◌≤◌, ℕ, Bool, true, false, List, [], ◌∷◌, ◌++◌, arith, drop, length, refl, sym, subst, ap, ◌∙◌}
use Rattle.std.proofs.lemmas.Bool.{false≢true}
use Rattle.std.proofs.lemmas.List.{append-nil}
use Rattle.um_base.specs.declared.ask.Told.{Told}
use Rattle.um_base.specs.declared.image.Image.{Image}
use Rattle.um_base.specs.declared.names.ThreadIx.{ThreadIx}
use Rattle.um_machine.specs.declared.pending.Pending.{Pending}
use Rattle.um_machine.specs.Order.{Steps}
use Rattle.um_fine.specs.Follows.{end_calls, wakes}
use Rattle.um_fine.specs.Places.{Todos}
use Rattle.um_fine.specs.Processor.{Processor}
use Rattle.um_fine.specs.Steps.{FineStep, Site}
use Rattle.um_tables.specs.declared.here.Here.{Here}
use Rattle.um_processor.specs.declared.phase.Phase.{Phase}
use Rattle.um_processor.specs.declared.phase.Turn.{Turn}
use Rattle.um_processor.specs.declared.processor.Processor.{Processor as Kept}
use Rattle.um_processor.specs.declared.running.Running.{Running}
use Rattle.um_tables.specs.declared.sites.Sites.{Ghosts as SitesOf}
use Rattle.um_processor.specs.Cleanings.{block_if}
use Rattle.um_processor.specs.Events.{about_to, about_to_park, at_event, rest_of, shows, todo_after, with_ends, with_woken}
use Rattle.um_processor.specs.Phases.{is_idle, showing}
use Rattle.um_tables.specs.Contexts.{steps_behind}
use Rattle.um_processor.specs.Phases.{first_of}
use Rattle.um_processor.specs.Processors.{behind_access, ready_of}
use Rattle.um_processor.specs.Processors.{Goes, MayNext, OnMade, Turned, UnlessMade, cleaned, in_phase, processor_of, with_todo}
use Rattle.um_processor.specs.Standing.{IsClear, before, standing, whole}
use Rattle.um_processor.specs.Turns.{HasCleaned, HasEnded, HasRun, HasTurned}
use Rattle.um_processor.proofs.Standings.{cleaned-behind, front-of, stands}

bare-todo : (todo : Todos) → before [] [] [] todo ≡ todo
bare-todo [] = refl
bare-todo (q ∷ todo) = refl

-- where nothing stands before, a processor is that of its thread
pub bare : (cleans : Todos) (ends : List ℕ) (woken : List (ThreadIx × Told)) (p : Processor) → cleans ≡ [] → ends ≡ [] → woken ≡ []
    → standing cleans ends woken p ≡ p
bare cleans ends woken p ec ee ew = (λ i. standing (ec i) (ee i) (ew i) p) ∙ ap (λ (t : Todos). record p { todo = t }) (bare-todo p.todo)

module _ (r : Running) (runs : is_idle r.phase ≡ false) where
  stood : (cleans : Todos) (ends : List ℕ) (woken : List (ThreadIx × Told))
      → standing cleans ends woken (processor_of r) ≡ record (processor_of r) { todo = cleans ++ end_calls ends (wakes woken (processor_of r).todo) }
  stood cleans ends woken = stands cleans ends woken (processor_of r) (front-of r.phase r runs)

  -- with claims to end, with threads to wake, with an object to clean
  pub ends-stand : (cleans : Todos) (ends : List ℕ) (woken : List (ThreadIx × Told)) → cleans ≡ [] → woken ≡ []
      → standing cleans ends woken (processor_of r) ≡ with_ends ends (processor_of r)
  ends-stand cleans ends woken ec ew = (λ i. standing (ec i) ends (ew i) (processor_of r)) ∙ stood [] ends []

  pub woken-stand : (cleans : Todos) (ends : List ℕ) (woken : List (ThreadIx × Told)) → cleans ≡ [] → ends ≡ []
      → standing cleans ends woken (processor_of r) ≡ with_woken woken (processor_of r)
  woken-stand cleans ends woken ec ee = (λ i. standing (ec i) (ee i) woken (processor_of r)) ∙ stood [] [] woken

  pub cleans-stand : (image : Image) (x : ℕ) (b : Bool) (cleans : Todos) (ends : List ℕ) (woken : List (ThreadIx × Told))
      → cleans ≡ block_if image x b → ends ≡ [] → woken ≡ [] → standing cleans ends woken (processor_of r) ≡ cleaned image x b (processor_of r)
  cleans-stand image x b cleans ends woken ec ee ew =
      (λ i. standing (ec i) (ee i) (ew i) (processor_of r))
      ∙ (stood (block_if image x b) [] []
      ∙ sym (cleaned-behind image x (processor_of r) [] (processor_of r).todo b refl (front-of r.phase r runs)))

module _ (t : Turn) (cpu : ℕ) (image : Image) (took shut : FineStep → Type 0) (late : Site → Type 0) (none : Type 0) where
  -- what comes of a turn of an equal processor
  pub turned-from : (p q z : Processor) → p ≡ q → Turned t cpu image q z took shut late none → Turned t cpu image p z took shut late none
  turned-from p q z e h = subst (λ (x : Processor). Turned t cpu image x z took shut late none) (sym e) h

  -- and of one that leaves an equal processor where a step was made
  pub turned-as : (p z y : Processor) → OnMade t (y ≡ z) → Turned t cpu image p z took shut late none → Turned t cpu image p y took shut late none
  turned-as p z y = by t
    where
      by : (u : Turn) → OnMade u (y ≡ z) → Turned u cpu image p z took shut late none → Turned u cpu image p y took shut late none
      by Turn.Made e h = subst (λ (x : Processor). Turned Turn.Made cpu image p x took shut late none) (sym e) h
      by Turn.Busy e h = h
      by Turn.Changed e h = h
      by Turn.Stuck e h = h

-- the same of a step that was made, of one that was asked for, and of none
pub goes-as : (cpu : ℕ) (image : Image) (p z y : Processor) (e : FineStep) → y ≡ z → Goes cpu image p e z → Goes cpu image p e y
goes-as cpu image p z y e h goes = subst (λ (x : Processor). Goes cpu image p e x) (sym h) goes

-- what an equal processor may make
pub may-from : (cpu : ℕ) (image : Image) (p q : Processor) (may : FineStep → Type 0) → p ≡ q → MayNext cpu image p may → MayNext cpu image q may
may-from cpu image p q may h goes = subst (λ (x : Processor). MayNext cpu image x may) h goes

pub on-made : {A B : Type 0} (t : Turn) → (A → B) → OnMade t A → OnMade t B
on-made Turn.Made f h = f h
on-made Turn.Busy f h = tt
on-made Turn.Changed f h = tt
on-made Turn.Stuck f h = tt

pub always : {A : Type 0} (t : Turn) → A → OnMade t A
always Turn.Made h = h
always Turn.Busy h = tt
always Turn.Changed h = tt
always Turn.Stuck h = tt

-- what is kept where no step was made
pub unless-made : {A B : Type 0} (t : Turn) → (A → B) → UnlessMade t A → UnlessMade t B
unless-made Turn.Made f h = tt
unless-made Turn.Busy f h = f h
unless-made Turn.Changed f h = f h
unless-made Turn.Stuck f h = f h

pub kept : {A B : Type 0} (t : Turn) (f : A → B) (a b : A) → UnlessMade t (a ≡ b) → UnlessMade t (f a ≡ f b)
kept t f a b = unless-made t (ap f)

pub kept-both : {A B C : Type 0} (t : Turn) (f : A → B → C) (a b : A) (x y : B) → UnlessMade t (a ≡ b) → UnlessMade t (x ≡ y) → UnlessMade t (f a x ≡ f b y)
kept-both Turn.Made f a b x y h k = tt
kept-both Turn.Busy f a b x y h k = λ i. f (h i) (k i)
kept-both Turn.Changed f a b x y h k = λ i. f (h i) (k i)
kept-both Turn.Stuck f a b x y h k = λ i. f (h i) (k i)

-- a processor without a thread
idle-is : (phase : Phase) (r : Running) → is_idle phase ≡ true → in_phase phase r ≡ in_phase Phase.Idle r
idle-is Phase.Idle r h = refl
idle-is phase r h = absurd (false≢true h)

pub idle-whole : (r : Running) (cleans : Todos) (ends : List ℕ) (woken : List (ThreadIx × Told)) → is_idle r.phase ≡ true
    → standing cleans ends woken (processor_of r) ≡ in_phase Phase.Idle r
idle-whole r cleans ends woken h = ap (standing cleans ends woken) (idle-is r.phase r h)

-- where nothing stands before, in a phase
pub stood-in : (r : Running) (phase : Phase) (cleans : Todos) (ends : List ℕ) (woken : List (ThreadIx × Told)) → r.phase ≡ phase → cleans ≡ [] → ends ≡ [] → woken ≡ []
    → standing cleans ends woken (processor_of r) ≡ in_phase phase r
stood-in r phase cleans ends woken e ec ee ew = bare cleans ends woken (processor_of r) ec ee ew ∙ ap (λ (k : Phase). in_phase k r) e

-- at the event of its thread's next step, or without one
pub at-none : (phase : Phase) (r : Running) → steps_behind r.visited r.context.value.pending ≡ [] → at_event phase r ≡ about_to_park phase r
at-none phase r e = ap (λ (steps : Steps). with_todo r (showing steps (todo_after phase (behind_access (first_of steps) (ready_of r)) (ready_of r)))) e

pub at-step : (phase : Phase) (r : Running) (step : Pending) → steps_behind r.visited r.context.value.pending ≡ step ∷ rest_of r → at_event phase r ≡ about_to phase step r
at-step phase r step e = ap (λ (steps : Steps). with_todo r (showing steps (todo_after phase (behind_access (first_of steps) (ready_of r)) (ready_of r)))) e

pub none_left : {A : Type 0} (xs : List A) → length xs ≤ 0 → xs ≡ []
none_left [] h = refl
none_left (x ∷ xs) h = absurd (omega arith)

-- What comes of a turn of a processor's thread, for the whole processor.
module _ {S : Type 0} (sites : SitesOf S) (turn : Turn) (here : Here) (s t : S) (p : Processor) where
  -- that of an equal processor
  pub stepped-from : (q y z : Processor) → p ≡ q → HasTurned sites turn here s t q y z → HasTurned sites turn here s t p y z
  stepped-from q y z e h = (h.0, h.1, turned-from turn here.cpu here.image.now _ _ _ _ p q z e h.2)

  module _ (k : Kept) (q : Running) where
    abbrev pub woken : List (ThreadIx × Told)
    woken = drop k.told k.outcome.woken

    -- where nothing stands before its thread's next step
    pub stepped-bare : IsClear k → HasRun sites turn here s t p k.running q
        → HasTurned sites turn here s t p (whole k) (standing k.cleans k.ends.items woken (processor_of q))
    stepped-bare clear h =
        (h.0, kept turn (standing k.cleans k.ends.items woken) _ _ h.1, turned-as turn here.cpu here.image.now _ _ _ _ p _ _ (always turn (bare _ _ _ _ clear.cleans clear.ends clear.woken)) h.2)

    -- where it leaves claims to end
    pub stepped-ends : (ends : List ℕ) → IsClear k → HasEnded sites turn here s t p k.running q k.ends.items ends
        → HasTurned sites turn here s t p (whole k) (standing k.cleans ends woken (processor_of q))
    stepped-ends ends clear h = (
      h.image,
      kept-both turn (λ (z : Processor) (xs : List ℕ). standing k.cleans xs woken z) _ _ _ _ h.same h.ends,
      turned-as turn here.cpu here.image.now _ _ _ _ p _ _ (on-made turn (λ r. ends-stand q r k.cleans ends woken clear.cleans clear.woken) h.runs) h.turn,
    )

    -- where it may leave an object to clean
    pub stepped-cleans : (x y : ℕ) (b : Bool) (new : Todos) → IsClear k → x ≡ y → new ≡ k.cleans ++ block_if here.image.now x b
        → HasCleaned sites turn here s t p k.running q y false b
        → HasTurned sites turn here s t p (whole k) (standing new k.ends.items woken (processor_of q))
    stepped-cleans x y b new clear at leaves h =
        let none : UnlessMade turn (new ≡ k.cleans) =
        unless-made turn (λ e. leaves ∙ (ap (λ (c : Bool). k.cleans ++ block_if here.image.now x c) e ∙ append-nil k.cleans)) h.cleans in
        let block : new ≡ block_if here.image.now y b = leaves ∙ (λ i. clear.cleans i ++ block_if here.image.now (at i) b) in (
          h.image,
          kept-both turn (λ (z : Processor) (cs : Todos). standing cs k.ends.items woken z) _ _ _ _ h.same none,
          turned-as turn here.cpu here.image.now _ _ _ _ p _ _ (on-made turn (λ r. cleans-stand q r here.image.now y b new k.ends.items woken block clear.ends clear.woken) h.runs) h.turn,
        )

-- at the event of a step that leaves claims to end
pub at-step-with : {S : Type 0} (sites : SitesOf S) (turn : Turn) (here : Here) (s t : S) (step q : Pending) (k : Kept) (r : Running) (ends : List ℕ)
    → step ≡ q → IsClear k → HasEnded sites turn here s t (shows q k.running) k.running r k.ends.items ends
    → HasTurned sites turn here s t (shows step k.running) (whole k) (standing k.cleans ends (drop k.told k.outcome.woken) (processor_of r))
at-step-with sites turn here s t step q k r ends at clear h =
    stepped-from sites turn here s t _ _ _ _ (ap (λ (x : Pending). shows x k.running) at) (stepped-ends sites turn here s t _ k r ends clear h)

-- of one without a thread
pub stepped-idle : {S : Type 0} (sites : SitesOf S) (turn : Turn) (here : Here) (s t : S) (k : Kept) (q : Running) (z : Processor) → is_idle k.running.phase ≡ true
    → HasRun sites turn here s t (in_phase Phase.Idle k.running) k.running q
    → UnlessMade turn (z ≡ whole k) → OnMade turn (z ≡ processor_of q)
    → HasTurned sites turn here s t (whole k) (whole k) z
stepped-idle sites turn here s t k q z idle h same new =
    stepped-from sites turn here s t _ _ _ _ (idle-whole k.running _ _ _ idle) (h.0, same, turned-as turn here.cpu here.image.now _ _ _ _ _ (processor_of q) z new h.2)

-- where nothing stands before, in a phase in which the event of its thread's next step is next
pub event-in : (k : Kept) (phase : Phase) → IsClear k → in_phase phase k.running ≡ at_event phase k.running → k.running.phase ≡ phase
    → whole k ≡ at_event k.running.phase k.running
event-in k phase clear shown at =
    stood-in k.running phase _ _ _ at clear.cleans clear.ends clear.woken ∙ (shown ∙ ap (λ (x : Phase). at_event x k.running) (sym at))
