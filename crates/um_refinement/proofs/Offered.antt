-- A step that a processor shows is one that the machine offers its thread, where the relation holds.
use Rattle.um_refinement.proofs.Words.{allows, moves, Act, Bare, Bool, Cell, Context, CpuMay, Exchange, Fine, FineAct, FineStep, Fits, Image, IsOf, IsOffered, IsTrue, List, MayChoose, More, Offers, Option, Pending, Processor, ROWS, Rel, Site, SiteMay, SiteState, State, Steps, Thread, ThreadIx, Todo, Todos, Unseen, WordIs, [], act_in, and_from, and_parts, ap, arith, as_thread, begins, behind_shown, by_me, exits, false, false≢true, fits, fits_step, goes, has_steps, if◌then◌else◌, instruction_at, is_living, is_over, is_some, is_visiting, is_word_read, length, list_all, may_go, none_due, not, not_from_false, own_part, refl, runs, says, says_show, says_step, shows, site_after, site_answers, site_at, site_takes, skips_drops, skips_inherit, slice_index_or, subst, suc, sym, thread_at, thread_in, thread_state, true, true≢false, visited, waits, word_of, zero, ℕ, ◌&&◌, ◌<◌, ◌||◌, ◌∙◌, ◌∷◌, ◌≡◌}
use Rattle.um_machine.specs.Run.{must_stop, stops}
use Rattle.um_machine.specs.Table as T
use Rattle.um_base.specs.declared.names.Access.{Access}
use Rattle.um_words.specs.Threads as W
use Rattle.um_fine.specs.Answers.{is_killed, is_killed_act}
use Rattle.um_fine.specs.Asks.{fits_show, moves_show, site_by}
use Rattle.um_fine.specs.Asks as A
use Rattle.um_fine.specs.Follows.{shown_step}
use Rattle.um_refinement.specs.Lists.{times}
use Rattle.um_refinement.specs.Threads.{as_cut, cutters}
use Rattle.um_refinement.specs.Timing.{IsHand}
use Rattle.um_refinement.specs.Offers as O
use Rattle.um_refinement.proofs.Erased.{Goes, GoesBy}
use Rattle.um_refinement.proofs.ListFits.{behind-bare}
use Rattle.um_refinement.proofs.StepsLeft.{BeginsNothing, is_first, offered-on}

abbrev has_some : Steps → Bool
has_some [] = false
has_some (q ∷ rest) = true

-- one of two acts
pub either-act : {A : Type 0} (g : Act → A) (a : A) (b : Bool) (one two : Act) → g one ≡ a → g two ≡ a → g (if b then one else two) ≡ a
either-act g a true one two h k = h
either-act g a false one two h k = k

-- Where no visit is left, nothing is due.

visited-bare : (image : Image) (todo : Todos) → Bare image todo → visited todo ≡ ROWS
visited-bare image [] h = refl
visited-bare image (Todo.show q rest ∷ todo) h = absurd h
visited-bare image (Todo.pass who x ∷ todo) h = absurd h
visited-bare image (Todo.drop x ∷ todo) h = absurd h
visited-bare image (Todo.park ∷ todo) h = absurd h
visited-bare image (Todo.sleep ∷ todo) h = absurd h
visited-bare image (Todo.add d ∷ todo) h = visited-bare image todo h.1
visited-bare image (q ∷ todo) h = visited-bare image todo h

all-clear : (xs : List Bool) → ((x : ℕ) → x < length xs → slice_index_or xs x false ≡ false) → list_all not xs ≡ true
all-clear [] h = refl
all-clear (b ∷ bs) h = and_from _ _ (not_from_false b (h 0 (omega arith))) (all-clear bs (λ x l. h (suc x) (omega arith)))

-- A thread word that takes a begin or an exit is that of a living thread, which may go. One that takes a kill is that of a living thread that
-- is aborted, and stays as doomed as it is.

abbrev IsAlive : SiteState → Type 0
IsAlive s = IsTrue (is_living (thread_state s).life) × IsTrue (W.may_go (thread_state s))

abbrev IsAborted : SiteState → Type 0
IsAborted s = IsTrue (is_living (thread_state s).life) × IsTrue (thread_state s).aborted

begin-alive : (s : SiteState) (t : ThreadIx) (more : More) (script line : ℕ)
    → IsTrue (site_takes s (FineAct.Shown (record { thread = t; act = Act.Begin script line }) more)) → IsAlive s
begin-alive (SiteState.thread w) t more script line h = and_parts _ _ (and_parts _ _ h).1
begin-alive (SiteState.row w) t more script line h = absurd (false≢true (and_parts _ _ h).1)
begin-alive (SiteState.domain w) t more script line h = absurd (false≢true (and_parts _ _ h).1)
begin-alive (SiteState.cell n (Cell.object o)) t more script line h = absurd (false≢true (and_parts _ _ h).1)
begin-alive (SiteState.cell n (Cell.parts d)) t more script line h = absurd (false≢true (and_parts _ _ h).1)
begin-alive (SiteState.cell n (Cell.memory m)) t more script line h = absurd (false≢true (and_parts _ _ h).1)
begin-alive (SiteState.cell n (Cell.heap k)) t more script line h = absurd (false≢true (and_parts _ _ h).1)
begin-alive (SiteState.cell n (Cell.scheduler k)) t more script line h = absurd (false≢true (and_parts _ _ h).1)
begin-alive (SiteState.cell n (Cell.clock k)) t more script line h = absurd (false≢true (and_parts _ _ h).1)
begin-alive (SiteState.cell n (Cell.joins k)) t more script line h = absurd (false≢true (and_parts _ _ h).1)

exit-alive : (s : SiteState) (t : ThreadIx) (more : More) → IsTrue (site_takes s (FineAct.Shown (record { thread = t; act = Act.Exit }) more)) → IsAlive s
exit-alive (SiteState.thread w) t more h = and_parts _ _ (and_parts _ _ h).1
exit-alive (SiteState.row w) t more h = absurd (false≢true (and_parts _ _ h).1)
exit-alive (SiteState.domain w) t more h = absurd (false≢true (and_parts _ _ h).1)
exit-alive (SiteState.cell n (Cell.object o)) t more h = absurd (false≢true (and_parts _ _ h).1)
exit-alive (SiteState.cell n (Cell.parts d)) t more h = absurd (false≢true (and_parts _ _ h).1)
exit-alive (SiteState.cell n (Cell.memory m)) t more h = absurd (false≢true (and_parts _ _ h).1)
exit-alive (SiteState.cell n (Cell.heap k)) t more h = absurd (false≢true (and_parts _ _ h).1)
exit-alive (SiteState.cell n (Cell.scheduler k)) t more h = absurd (false≢true (and_parts _ _ h).1)
exit-alive (SiteState.cell n (Cell.clock k)) t more h = absurd (false≢true (and_parts _ _ h).1)
exit-alive (SiteState.cell n (Cell.joins k)) t more h = absurd (false≢true (and_parts _ _ h).1)

-- and the word that it leaves is as doomed
abbrev IsStopped : Image → SiteState → FineAct → Exchange → Type 0
IsStopped image s act moved = IsAborted s × ((thread_in (word_of (site_after image s act moved))).doomed ≡ (thread_state s).doomed)

killed-aborted : (image : Image) (s : SiteState) (t : ThreadIx) (more : More) (moved : Exchange)
    → let act = FineAct.Shown (record { thread = t; act = Act.Killed }) more in IsTrue (site_takes s act) → IsStopped image s act moved
killed-aborted image (SiteState.thread w) t more moved h = (and_parts _ _ (and_parts _ _ h).1, refl)
killed-aborted image (SiteState.row w) t more moved h = absurd (false≢true (and_parts _ _ h).1)
killed-aborted image (SiteState.domain w) t more moved h = absurd (false≢true (and_parts _ _ h).1)
killed-aborted image (SiteState.cell n (Cell.object o)) t more moved h = absurd (false≢true (and_parts _ _ h).1)
killed-aborted image (SiteState.cell n (Cell.parts d)) t more moved h = absurd (false≢true (and_parts _ _ h).1)
killed-aborted image (SiteState.cell n (Cell.memory m)) t more moved h = absurd (false≢true (and_parts _ _ h).1)
killed-aborted image (SiteState.cell n (Cell.heap k)) t more moved h = absurd (false≢true (and_parts _ _ h).1)
killed-aborted image (SiteState.cell n (Cell.scheduler k)) t more moved h = absurd (false≢true (and_parts _ _ h).1)
killed-aborted image (SiteState.cell n (Cell.clock k)) t more moved h = absurd (false≢true (and_parts _ _ h).1)
killed-aborted image (SiteState.cell n (Cell.joins k)) t more moved h = absurd (false≢true (and_parts _ _ h).1)

-- what the machine asks of a thread that leaves its rest, and of one that is killed there
abbrev pub LeavesRest : Thread → Pending → Type 0
LeavesRest me Pending.Begin = IsTrue (is_living me.life) × IsTrue (may_go me)
LeavesRest me Pending.Exit = IsTrue (is_living me.life) × IsTrue (may_go me)
LeavesRest me q = Unit {0}

abbrev pub StopsRest : Thread → Pending → Type 0
StopsRest me Pending.Begin = IsTrue (is_living me.life) × IsTrue (must_stop me)
StopsRest me Pending.Exit = IsTrue (is_living me.life) × IsTrue (must_stop me)
StopsRest me q = Unit {0}

-- the steps of which one may be a kill
abbrev pub IsStopping : Pending → Type 0
IsStopping Pending.Begin = Unit {0}
IsStopping Pending.Exit = Unit {0}
IsStopping Pending.Killed = Unit {0}
IsStopping q = ⊥

-- the others
abbrev pub NotKilled : Pending → Type 0
NotKilled Pending.Killed = ⊥
NotKilled q = Unit {0}

kills-stopping : (image : Image) (p : Processor) (q : Pending) (act : FineAct) → is_killed (says_show image p q act) ≡ true → IsStopping q
kills-stopping image p Pending.Begin act h = tt
kills-stopping image p Pending.Exit act h = tt
kills-stopping image p Pending.Killed act h = tt
kills-stopping image p (Pending.Load to a n) act h =
    absurd (false≢true (sym (either-act is_killed_act false (allows image p Access.Read a.0 n) _ _ refl refl) ∙ h))
kills-stopping image p (Pending.Store a n value) act h =
    absurd (false≢true (sym (either-act is_killed_act false (allows image p Access.Write a.0 n) _ _ refl refl) ∙ h))
kills-stopping image p (Pending.Fetch a) act h = absurd (false≢true (sym (either-act is_killed_act false (allows image p Access.Exec a.0 4) _ _ refl refl) ∙ h))
kills-stopping image p q act h = absurd (false≢true h)

module _ (image : Image) (m : State) (c : Context) (same : m.image ≡ image) (own : as_thread c ≡ own_part (thread_at m c.thread)) where
  me : Thread
  me = thread_at m c.thread

  pending-same : c.pending ≡ (thread_at m c.thread).pending
  pending-same = ap (λ (z : Thread). z.pending) own

  place-same : instruction_at image c.place ≡ instruction_at m.image (thread_at m c.thread).place
  place-same = λ i. instruction_at (sym same i) (own i).place

  -- what is on the list of a processor is offered to the machine's thread
  pub offers : (q : Pending) (rest : Steps) → IsOffered image c q rest → (is_visiting c.pending ≡ true → IsTrue (none_due (thread_at m c.thread)))
      → LeavesRest (thread_at m c.thread) q → Offers m c.thread q rest
  offers q rest (O.goes e) due life = goes (sym pending-same ∙ e)
  offers q rest (O.passed e) due life = skips_inherit (sym pending-same ∙ e) (due (ap is_visiting e))
  offers q rest (O.dropped e) due life = skips_drops (sym pending-same ∙ e) (due (ap is_visiting e))
  offers _ _ (O.begins e on i) due life = begins (sym pending-same ∙ e) life.0 life.1 (subst (λ (o : Option _). IsTrue (is_some o)) place-same i)
  offers _ _ (O.exits e on i) due life = exits (sym pending-same ∙ e) life.0 life.1 (sym place-same ∙ i)

  at-rest : (q : Pending) (rest : Steps) → IsOffered image c q rest → c.pending ≡ [] → StopsRest (thread_at m c.thread) Pending.Begin → Offers m c.thread Pending.Killed rest
  at-rest q rest (O.goes e) none life = absurd (false≢true (ap has_some (sym none ∙ e)))
  at-rest q rest (O.passed e) none life = absurd (false≢true (ap has_some (sym none ∙ e)))
  at-rest q rest (O.dropped e) none life = absurd (false≢true (ap has_some (sym none ∙ e)))
  at-rest _ _ (O.begins e on i) none life = stops (sym pending-same ∙ e) life.0 life.1
  at-rest _ _ (O.exits e on i) none life = stops (sym pending-same ∙ e) life.0 life.1

  -- and so is that it is killed
  pub stops-offers : (q : Pending) (rest : Steps) → IsStopping q → IsOffered image c q rest → (is_visiting c.pending ≡ true → IsTrue (none_due (thread_at m c.thread)))
      → (is_first q ≡ true → c.pending ≡ []) → StopsRest (thread_at m c.thread) q → Offers m c.thread Pending.Killed rest
  stops-offers Pending.Begin rest stopping o due none life = at-rest Pending.Begin rest o (none refl) life
  stops-offers Pending.Exit rest stopping o due none life = at-rest Pending.Exit rest o (none refl) life
  stops-offers Pending.Killed rest stopping o due none life = offers Pending.Killed rest o due tt
  stops-offers q rest stopping o due none life = absurd stopping

-- A processor with a step on its list that no mark in its hand has put there runs a thread.
pub runs-first : {f : Fine} {m : State} {k : ℕ} → Rel f m → k < f.cpus → (q : Todo) (todo : Todos) → (f.processors k).todo ≡ q ∷ todo → (IsHand (q ∷ todo) → ⊥)
    → runs (f.processors k) ≡ true
runs-first {f} {m} {k} rel l q todo at apart = by (times (f.processors k).todo) refl
  where
    by : (b : Bool) → times (f.processors k).todo ≡ b → runs (f.processors k) ≡ true
    by true e = absurd (apart (subst IsHand at ((rel.processors k l).timer.hand e)))
    by false e = and_from _ _ (ap has_steps at) (ap not e)

module _ (f : Fine) (m : State) (rel : Rel f m) (k : ℕ) (l : k < f.cpus) where
  -- nothing is due of a thread whose visits are over
  clear : runs (f.processors k) ≡ true → is_visiting (f.processors k).context.pending ≡ true → visited (f.processors k).todo ≡ ROWS
      → IsTrue (none_due (thread_at m (f.processors k).context.thread))
  clear running visiting over =
      all-clear (thread_at m (f.processors k).context.thread).due
      (λ x few. by x few (slice_index_or (thread_at m (f.processors k).context.thread).due x false) refl)
    where
      by : (x : ℕ) → x < length (thread_at m (f.processors k).context.thread).due → (b : Bool)
          → slice_index_or (thread_at m (f.processors k).context.thread).due x false ≡ b → b ≡ false
      by x few true h =
          let least = (rel.processors k l).dues.passes running visiting x h in
          let most = (rel.processors k l).dues.few in absurd (omega (arith, over, least, most, few))
      by x few false h = refl

-- A thread that doesn't wait wasn't cut, and its own part is the machine's.
pub not-cut : {f : Fine} {m : State} {c : Context} → IsOf f m c → waits c.pending ≡ false → cutters f c.thread ≡ 0
not-cut {f} {m} {c} of awake = by (cutters f c.thread) refl
  where
    by : (n : ℕ) → cutters f c.thread ≡ n → n ≡ 0
    by zero e = refl
    by (suc n) e = absurd (true≢false (sym (of.waiting (omega (arith, e))) ∙ awake))

pub own-unless : {f : Fine} {m : State} {c : Context} → IsOf f m c → waits c.pending ≡ false → as_thread c ≡ own_part (thread_at m c.thread)
own-unless {f} {m} {c} of awake = ap (λ n. as_thread (as_cut n c)) (sym (not-cut of awake)) ∙ of.own

-- Where no thread's pending steps have one that it makes at rest, none of a processor with an event next has.
pub begins-nothing : {f : Fine} {m : State} {k : ℕ} → Rel f m → k < f.cpus → ((t : ℕ) → BeginsNothing (thread_at m t).pending) → (q : Pending) (rest : Steps) (todo : Todos)
    → (f.processors k).todo ≡ Todo.show q rest ∷ todo → BeginsNothing (f.processors k).context.pending
begins-nothing {f} {m} {k} rel l all q rest todo at = by (waits c.pending) refl
  where
    c : Context
    c = (f.processors k).context

    on : is_over c ≡ false
    on = offered-on f.image c q rest (subst (Fits f.image c) at (rel.processors k l).list.fits).0

    of : IsOf f m c
    of = (rel.contexts.running k l (runs-first rel l (Todo.show q rest) todo at (λ hand. hand))).of on

    waiting : (steps : Steps) → waits steps ≡ true → BeginsNothing steps
    waiting [] h = tt
    waiting (Pending.Resume ∷ steps) h = tt
    waiting (p ∷ steps) h = absurd (false≢true h)

    by : (b : Bool) → waits c.pending ≡ b → BeginsNothing c.pending
    by true w = waiting c.pending w
    by false awake = subst BeginsNothing (sym (ap (λ (z : Thread). z.pending) (own-unless of awake))) (all c.thread)

-- A processor's event of a pending step: what is known of it, where the relation holds. On its list stands that step or, where an aborted
-- thread at rest is killed, the begin or the exit that it doesn't make.
pub record Shows (f : Fine) (m : State) (k : ℕ) (e : FineStep) (q : Pending) (rest : Steps) (todo : Todos) : Type 0 where
  pub rel : Rel f m
  pub there : k < f.cpus
  pub listed : Pending
  pub at : (f.processors k).todo ≡ Todo.show listed rest ∷ todo
  pub made : shown_step f.image listed e.act ≡ q
  pub at_rest : is_first listed ≡ true → (f.processors k).context.pending ≡ []
  pub awake : waits (f.processors k).context.pending ≡ false
  pub may : CpuMay f.image (f.processors k) e
  pub taken : SiteMay f.image (f.sites e.site) e
  pub shown : is_word_read e.act ≡ false

module _ {f : Fine} {m : State} {k : ℕ} {e : FineStep} {q : Pending} {rest : Steps} {todo : Todos} (h : Shows f m k e q rest todo) where
  act-listed : e.act ≡ says_show f.image (f.processors k) h.listed e.act
  act-listed = sym (ap (λ (s : FineStep). s.act) h.may.makes) ∙ ap (λ (z : Todos). says f.image (f.processors k) z e.act e.moved) h.at

  -- what holds of the step on the list where it is made, and of a kill where that is made in its place
  pub by-made : (P : Pending → Type 0) → (is_killed e.act ≡ false → P h.listed) → (is_killed e.act ≡ true → IsStopping h.listed → P Pending.Killed) → P q
  by-made P goes-on kills = subst P h.made (by (is_killed e.act) refl)
    where
      by : (b : Bool) → is_killed e.act ≡ b → P (shown_step f.image h.listed e.act)
      by true killed =
          subst (λ b. P (if b then Pending.Killed else h.listed)) (sym killed)
          (kills killed (kills-stopping f.image (f.processors k) h.listed e.act (sym (ap is_killed act-listed) ∙ killed)))
      by false killed = subst (λ b. P (if b then Pending.Killed else h.listed)) (sym killed) (goes-on killed)

  -- the step stands on the list, if it isn't a kill
  pub at-made : NotKilled q → (f.processors k).todo ≡ Todo.show q rest ∷ todo
  at-made = by-made (λ z. NotKilled z → (f.processors k).todo ≡ Todo.show z rest ∷ todo) (λ killed other. h.at) (λ killed stopping other. absurd other)

  pub site-is : e.site ≡ site_at f.image (f.processors k) (Todo.show q rest ∷ todo)
  site-is = listed-site ∙ by-made (λ z. Site-of h.listed ≡ Site-of z) (λ killed. refl) (λ killed. stopped h.listed)
    where
      Site-of : Pending → Site
      Site-of z = site_at f.image (f.processors k) (Todo.show z rest ∷ todo)

      listed-site : e.site ≡ Site-of h.listed
      listed-site = sym (ap (λ (s : FineStep). s.site) h.may.makes) ∙ ap (λ (z : Todos). site_by f.image (f.processors k) z e.act) h.at

      stopped : (z : Pending) → IsStopping z → Site-of z ≡ Site-of Pending.Killed
      stopped Pending.Begin s = refl
      stopped Pending.Exit s = refl
      stopped Pending.Killed s = refl
      stopped z s = absurd s

  pub act-is : e.act ≡ shows f.image (f.processors k) q e.act
  act-is = by-made (λ z. e.act ≡ shows f.image (f.processors k) z e.act) (λ killed. goes-on killed h.listed act-listed) (λ killed stopping. kills killed h.listed stopping act-listed)
    where
      begins-on : (z : Pending) → is_killed e.act ≡ false → e.act ≡ A.begins f.image (f.processors k) z e.act → e.act ≡ shows f.image (f.processors k) z e.act
      begins-on z killed said =
          said ∙ (λ i. if h.shown i then FineAct.Unseen Unseen.WordRead else if killed i then by_me f.image (f.processors k) Act.Killed else shows f.image (f.processors k) z e.act)

      goes-on : is_killed e.act ≡ false → (z : Pending) → e.act ≡ says_show f.image (f.processors k) z e.act → e.act ≡ shows f.image (f.processors k) z e.act
      goes-on killed Pending.Begin said = begins-on Pending.Begin killed said
      goes-on killed Pending.Exit said = begins-on Pending.Exit killed said
      goes-on killed z said = said

      stops-here : (z : Pending) → is_killed e.act ≡ true → e.act ≡ A.begins f.image (f.processors k) z e.act → e.act ≡ by_me f.image (f.processors k) Act.Killed
      stops-here z killed said =
          said ∙ (λ i. if h.shown i then FineAct.Unseen Unseen.WordRead else if killed i then by_me f.image (f.processors k) Act.Killed else shows f.image (f.processors k) z e.act)

      kills : is_killed e.act ≡ true → (z : Pending) → IsStopping z → e.act ≡ says_show f.image (f.processors k) z e.act → e.act ≡ by_me f.image (f.processors k) Act.Killed
      kills killed Pending.Begin s said = stops-here Pending.Begin killed said
      kills killed Pending.Exit s said = stops-here Pending.Exit killed said
      kills killed Pending.Killed s said = said
      kills killed z s said = absurd s

  -- what goes with it
  pub moved-made : e.moved ≡ moves_show f.image (f.processors k) q rest e.moved
  moved-made =
      by-made (λ z. e.moved ≡ moves_show f.image (f.processors k) z rest e.moved) (λ killed. listed-moved) (λ killed stopping. listed-moved ∙ stopped h.listed stopping)
    where
      listed-moved : e.moved ≡ moves_show f.image (f.processors k) h.listed rest e.moved
      listed-moved = sym (ap (λ (s : FineStep). s.moved) h.may.makes) ∙ ap (λ (z : Todos). moves f.image (f.processors k) z e.act e.moved) h.at

      stopped : (z : Pending) → IsStopping z → moves_show f.image (f.processors k) z rest e.moved ≡ Exchange.nothing
      stopped Pending.Begin s = refl
      stopped Pending.Exit s = refl
      stopped Pending.Killed s = refl
      stopped z s = absurd s

  -- what the site of the step says of its act, and that it takes it
  pub says-at : (i : Site) (act : FineAct) → e.site ≡ i → e.act ≡ act → site_answers f.image (f.sites i) e.moved act ≡ act
  says-at i act site said =
      subst (λ (z : Site × FineAct). site_answers f.image (f.sites z.0) e.moved z.1 ≡ z.1) (λ j. (site j, said j)) (ap (λ (s : FineStep). s.act) h.taken.filled_in)

  pub takes-at : (i : Site) (act : FineAct) → e.site ≡ i → e.act ≡ act → IsTrue (site_takes (f.sites i) act)
  takes-at i act site said = subst (λ (z : Site × FineAct). IsTrue (site_takes (f.sites z.0) z.1)) (λ j. (site j, said j)) h.taken.takes

  listed-fits : IsOffered f.image (f.processors k).context h.listed rest × (todo ≡ behind_shown f.image (f.processors k).context h.listed)
      × O.IsNotedBy f.image (f.processors k).context h.listed
  listed-fits = subst (Fits f.image (f.processors k).context) h.at (h.rel.processors k h.there).list.fits

  -- what stands on the list behind it
  pub behind-is : todo ≡ behind_shown f.image (f.processors k).context q
  behind-is = by-made (λ z. todo ≡ behind_shown f.image (f.processors k).context z) (λ killed. listed-fits.1) (λ killed stopping. listed-fits.1 ∙ none h.listed stopping)
    where
      none : (z : Pending) → IsStopping z → behind_shown f.image (f.processors k).context z ≡ []
      none Pending.Begin s = refl
      none Pending.Exit s = refl
      none Pending.Killed s = refl
      none z s = absurd s

  -- an act that may wait is of a call that has noted its cell
  pub noted-by : O.IsNotedBy f.image (f.processors k).context q
  noted-by = by-made (λ z. O.IsNotedBy f.image (f.processors k).context z) (λ killed. listed-fits.2) (λ killed stopping site none. absurd (false≢true (ap is_some none)))

  -- so its thread has a step left
  pub shown-on : is_over (f.processors k).context ≡ false
  shown-on = offered-on f.image (f.processors k).context h.listed rest listed-fits.0

  pub shows-runs : runs (f.processors k) ≡ true
  shows-runs = runs-first h.rel h.there (Todo.show h.listed rest) todo h.at (λ hand. hand)

  pub own-part : IsOf f m (f.processors k).context
  own-part = (h.rel.contexts.running k h.there shows-runs).of shown-on

  pub uncut : cutters f (f.processors k).context.thread ≡ 0
  uncut = not-cut own-part h.awake

  pub own-same : as_thread (f.processors k).context ≡ own_part (thread_at m (f.processors k).context.thread)
  own-same = own-unless own-part h.awake

  word-is : WordIs f m (f.processors k).context.thread
  word-is = (h.rel.threads (f.processors k).context.thread own-part.index).word

  -- the word that takes a begin or an exit says that of the machine's thread
  is-alive : IsAlive (f.sites (Site.thread (f.processors k).context.thread)) → LeavesRest (thread_at m (f.processors k).context.thread) Pending.Begin
  is-alive a =
      let w = word-is in (subst (λ x. IsTrue (is_living x)) w.life a.0, subst IsTrue (λ i. not (w.doomed i || w.aborted i || w.suspended i)) a.1)

  -- the word that the step leaves
  word-left : (t : ℕ) (act : FineAct) → e.site ≡ Site.thread t → e.act ≡ act → word_of (site_after f.image (f.sites (Site.thread t)) act e.moved) ≡ e.word
  word-left t act site said =
      (λ j. word_of (site_after f.image (f.sites (sym site j)) (sym said j) e.moved))
      ∙ (sym (λ i. word_of (site_after f.image (f.sites e.site) (h.taken.filled_in i).act (h.taken.filled_in i).moved)) ∙ ap (λ (s : FineStep). s.word) h.taken.filled_in)

  fits-listed : fits_show f.image (f.processors k) h.listed e ≡ true
  fits-listed =
      (and_parts (fits_show f.image (f.processors k) h.listed e) _ (and_parts (fits_step f.image (f.processors k) (Todo.show h.listed rest ∷ todo) e) _ (subst (λ (l : Todos). IsTrue (fits f.image (f.processors k) l e)) h.at h.may.fit)).0).0

  -- and one that takes a kill at rest
  is-stopped : is_killed e.act ≡ true → is_first h.listed ≡ true → StopsRest (thread_at m (f.processors k).context.thread) Pending.Begin
  is-stopped killed first =
      let t = (f.processors k).context.thread in
      let w = word-is in
      let act = by_me f.image (f.processors k) Act.Killed in
      let site : e.site ≡ Site.thread t = first-site h.listed first (sym (ap (λ (s : FineStep). s.site) h.may.makes) ∙ ap (λ (z : Todos). site_by f.image (f.processors k) z e.act) h.at) in
      let said : e.act ≡ act = first-said h.listed first act-listed in
      let a = killed-aborted f.image (f.sites (Site.thread t)) (A.me f.image (f.processors k)) More.Nothing e.moved (takes-at (Site.thread t) act site said) in
      let whole : (thread_in e.word).doomed ≡ (thread_state (f.sites (Site.thread t))).doomed = ap (λ z. (thread_in z).doomed) (sym (word-left t act site said)) ∙ a.1 in
      let clear : not (thread_state (f.sites (Site.thread t))).doomed ≡ true = ap not (sym whole) ∙ rightly h.listed first fits-listed in
      (subst (λ x. IsTrue (is_living x)) w.life a.0.0, and_from _ _ (ap not (sym w.doomed) ∙ clear) (subst IsTrue w.aborted a.0.1))
    where
      first-site : (z : Pending) → is_first z ≡ true → e.site ≡ site_at f.image (f.processors k) (Todo.show z rest ∷ todo) → e.site ≡ Site.thread (f.processors k).context.thread
      first-site Pending.Begin i s = s
      first-site Pending.Exit i s = s
      first-site z i s = absurd (false≢true i)

      rightly : (z : Pending) → is_first z ≡ true → fits_show f.image (f.processors k) z e ≡ true → not (thread_in e.word).doomed ≡ true
      rightly Pending.Begin i fit = sym (λ j. if h.shown j then (thread_in e.word).doomed || ((thread_in e.word).suspended && not (thread_in e.word).aborted) else not (killed j) || not (thread_in e.word).doomed) ∙ fit
      rightly Pending.Exit i fit = sym (λ j. if h.shown j then (thread_in e.word).doomed || ((thread_in e.word).suspended && not (thread_in e.word).aborted) else not (killed j) || not (thread_in e.word).doomed) ∙ fit
      rightly z i fit = absurd (false≢true i)

      first-said : (z : Pending) → is_first z ≡ true → e.act ≡ says_show f.image (f.processors k) z e.act → e.act ≡ by_me f.image (f.processors k) Act.Killed
      first-said Pending.Begin i said =
          said ∙ (λ i. if h.shown i then FineAct.Unseen Unseen.WordRead else if killed i then by_me f.image (f.processors k) Act.Killed else shows f.image (f.processors k) Pending.Begin e.act)
      first-said Pending.Exit i said =
          said ∙ (λ i. if h.shown i then FineAct.Unseen Unseen.WordRead else if killed i then by_me f.image (f.processors k) Act.Killed else shows f.image (f.processors k) Pending.Exit e.act)
      first-said z i said = absurd (false≢true i)

  leaves-rest : (z : Pending) → e.act ≡ shows f.image (f.processors k) z e.act → e.site ≡ site_at f.image (f.processors k) (Todo.show z rest ∷ todo)
      → LeavesRest (thread_at m (f.processors k).context.thread) z
  leaves-rest Pending.Begin said site = let t = (f.processors k).context.thread in is-alive (begin-alive (f.sites (Site.thread t)) _ _ _ _ (takes-at (Site.thread t) _ site said))
  leaves-rest Pending.Exit said site = let t = (f.processors k).context.thread in is-alive (exit-alive (f.sites (Site.thread t)) _ _ (takes-at (Site.thread t) _ site said))
  leaves-rest z said site = tt

  stops-rest : is_killed e.act ≡ true → (z : Pending) → h.listed ≡ z → StopsRest (thread_at m (f.processors k).context.thread) z
  stops-rest killed Pending.Begin same = is-stopped killed (ap is_first same)
  stops-rest killed Pending.Exit same = is-stopped killed (ap is_first same)
  stops-rest killed z same = tt

  visits-over : is_visiting (f.processors k).context.pending ≡ true → IsTrue (none_due (thread_at m (f.processors k).context.thread))
  visits-over visiting =
      clear f m h.rel k h.there shows-runs visiting
      (ap visited h.at ∙ visited-bare f.image todo (subst (Bare f.image) (sym listed-fits.1) (behind-bare f.image (f.processors k).context h.listed)))

  -- the pending step that a processor shows is offered to its thread
  pub shown-offers : Offers m (f.processors k).context.thread q rest
  shown-offers = by-made (λ z. e.act ≡ shows f.image (f.processors k) z e.act → e.site ≡ site_at f.image (f.processors k) (Todo.show z rest ∷ todo) → Offers m (f.processors k).context.thread z rest)
      (λ killed said site. offers f.image m (f.processors k).context h.rel.image own-same h.listed rest listed-fits.0 visits-over (leaves-rest h.listed said site))
      (λ killed stopping said site.
      stops-offers f.image m (f.processors k).context h.rel.image own-same h.listed rest stopping listed-fits.0 visits-over h.at_rest (stops-rest killed h.listed refl))
      act-is site-is

-- The event of a pending step is that step of the machine, by this row: it says what that step says, and may choose that row.
pub record IsStep (f : Fine) (m : State) (k : ℕ) (e : FineStep) (x : ℕ) (q : Pending) : Type 0 where
  pub said : e.act ≡ shows f.image (f.processors k) q e.act
  pub chosen : MayChoose m (f.processors k).context.thread x q
  pub says : says_step f.image (f.processors k) q (act_in e.act) ≡ T.act_of m (f.processors k).context.thread x q

pub machine-step : {f : Fine} {m : State} {k : ℕ} {e : FineStep} {q : Pending} {rest : Steps} {todo : Todos} → Shows f m k e q rest todo
    → (x : ℕ) → e.act ≡ shows f.image (f.processors k) q e.act → MayChoose m (f.processors k).context.thread x q
    → says_step f.image (f.processors k) q (act_in e.act) ≡ T.act_of m (f.processors k).context.thread x q
    → IsStep f m k e x q
machine-step h x said chosen says = record { said = said; chosen = chosen; says = says }

-- so the machine makes it
pub step-goes : {f : Fine} {m : State} {k : ℕ} {e : FineStep} {q : Pending} {rest : Steps} {todo : Todos} {x : ℕ} → Shows f m k e q rest todo → IsStep f m k e x q
    → Goes m e (T.after m (f.processors k).context.thread x q rest)
step-goes {f} {m} {k} {e} {q} {rest} {todo} {x} h is =
    subst (λ act. GoesBy m act (T.after m (f.processors k).context.thread x q rest)) (sym is.said)
    (record { step = q; rest = rest; row = x; offered = shown-offers h; chosen = is.chosen; says = is.says; leaves = refl })
