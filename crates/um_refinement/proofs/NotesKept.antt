-- The number of its note that a cell keeps of a thread stays at every step that isn't an event of that thread, and each cell keeps a place for the number
-- of each thread.
use Rattle.um_refinement.proofs.Words.{length, length-set, ◌≡◌, ◌≢◌, ℕ, ◌+◌, ◌<◌, Bool, true, false, cond, List, refl, sym, subst, ap, ◌∙◌, ◌==◌, if◌then◌else◌, eqb-false, get_or-set_other, same-sound, slice_index_or, slice_set, ROWS, Act, Answer, Exchange, FineAct, FineStep, Unseen, Pending, Steps, State, ThreadIx, to_thread, act_in, answer_in, allows, caller_in, shows, site_after, s_next, same_site, Site, SiteState, Bytes, ObjectCell, Todos, Fine, bytes, bytes_state, memory_after, object, arith}
use Rattle.um_base.specs.declared.limits.TheConstants.{FUTEX_CELL, JOIN_CELL}
use Rattle.um_base.specs.declared.names.Access.TheVariants as Access
use Rattle.um_fine.specs.Answers.{noted_in}
use Rattle.um_fine.specs.Asks.{moves_show}
use Rattle.um_fine.specs.Joins.{Joins, begins_waiting, join_after, join_after_act}
use Rattle.um_fine.specs.Objects.{object_after, object_after_act}
use Rattle.um_refinement.specs.Fine.{joins}
use Rattle.um_refinement.specs.Stops.{NotesAre, noted_at, notes_in}
use Rattle.um_refinement.proofs.CellSteps.{cell-else, cell-here}
use Rattle.um_refinement.proofs.Erased.{around}
use Rattle.um_refinement.proofs.Leaves.{Beside, Lawful, Leaves, beside as beside_it, cleans, cuts, drops, event, expires, leaves as leaves_it, nothing, passes, recycles, resumes, ticks, times_out}
use Rattle.um_refinement.proofs.MemorySteps.{memory-sort}
use Rattle.um_refinement.proofs.Offered.{Shows, either-act, moved-made}
use Rattle.um_refinement.proofs.ParkedPart.{joins-else, joins-later}

-- a list keeps another place
other-place : (xs : List ℕ) (u t n : ℕ) → u ≢ t → slice_index_or (slice_set xs u n) t 0 ≡ slice_index_or xs t 0
other-place xs u t n apart = get_or-set_other xs u t n 0 (λ same. apart (sym same))

-- What is read of the numbers that a cell keeps, where one more leaves it that is of such a thread.
module _ (f : Fine) (m : State) (e : FineStep) (law : Lawful f m e) (At : List ℕ → ℕ) (Other : ℕ → Type 0) (left-by : (xs : List ℕ) (u n : ℕ) → Other u → At (slice_set xs u n) ≡ At xs) where
  open around f e use {later, processor as p}

  -- an act that leaves that in each cell
  record Keeps (act : FineAct) : Type 0 where
    of_object : (o : ObjectCell) → At (object_after o act e.moved).noted ≡ At o.noted
    of_joins : (j : Joins) → At (join_after j act e.moved).noted ≡ At j.noted
    of_bytes : (b : Bytes) → At (memory_after f.image b (act_in act) e.moved).noted ≡ At b.noted

  kept-by : (act : FineAct) → e.act ≡ act → Keeps act → (c : ℕ) → c < ROWS + 2 → At (notes_in later c) ≡ At (notes_in f c)
  kept-by act said keeps c few = by (c == JOIN_CELL) refl (c == FUTEX_CELL) refl
    where
      joins-same : At (joins later).noted ≡ At (joins f).noted
      joins-same = which (same_site e.site Site.joins) refl
        where
          which : (b : Bool) → same_site e.site Site.joins ≡ b → At (joins later).noted ≡ At (joins f).noted
          which true on = ap (λ (j : Joins). At j.noted) (joins-later f m e law (same-sound e.site Site.joins on) act said) ∙ keeps.of_joins (joins f)
          which false off = ap (λ (j : Joins). At j.noted) (joins-else f m e law off)

      bytes-same : At (bytes later).noted ≡ At (bytes f).noted
      bytes-same = which (same_site e.site Site.memory) refl
        where
          here : At (bytes_state (s_next f.image (f.sites Site.memory) e)).noted ≡ At (bytes f).noted
          here =
              ap (λ (s : SiteState). At (bytes_state (site_after f.image s e.act e.moved)).noted) (memory-sort (f.sites Site.memory) (law.rel.sorts Site.memory)).1
              ∙ (ap (λ a. At (memory_after f.image (bytes f) (act_in a) e.moved).noted) said ∙ keeps.of_bytes (bytes f))

          which : (b : Bool) → same_site e.site Site.memory ≡ b → At (bytes later).noted ≡ At (bytes f).noted
          which true on = ap (λ b. At (bytes_state (cond b (s_next f.image (f.sites Site.memory) e) (f.sites Site.memory))).noted) on ∙ here
          which false off = ap (λ b. At (bytes_state (cond b (s_next f.image (f.sites Site.memory) e) (f.sites Site.memory))).noted) off

      object-same : c < ROWS → At (object later c).noted ≡ At (object f c).noted
      object-same low = which (same_site e.site (Site.object c)) refl
        where
          which : (b : Bool) → same_site e.site (Site.object c) ≡ b → At (object later c).noted ≡ At (object f c).noted
          which true on = ap (λ (o : ObjectCell). At o.noted) (cell-here f m e law c low on act said) ∙ keeps.of_object (object f c)
          which false off = ap (λ (o : ObjectCell). At o.noted) (cell-else f m e law c low off)

      by : (a : Bool) → (c == JOIN_CELL) ≡ a → (b : Bool) → (c == FUTEX_CELL) ≡ b
          → At (if c == JOIN_CELL then (joins later).noted else if c == FUTEX_CELL then (bytes later).noted else (object later c).noted)
          ≡ At (if c == JOIN_CELL then (joins f).noted else if c == FUTEX_CELL then (bytes f).noted else (object f c).noted)
      by true j b u = (λ i. At (if j i then (joins later).noted else if c == FUTEX_CELL then (bytes later).noted else (object later c).noted)) ∙ (joins-same ∙ λ i. At (if sym j i then (joins f).noted else if c == FUTEX_CELL then (bytes f).noted else (object f c).noted))
      by false j true u =
          (λ i. At (if j i then (joins later).noted else if u i then (bytes later).noted else (object later c).noted)) ∙ (bytes-same ∙ λ i. At (if sym j i then (joins f).noted else if sym u i then (bytes f).noted else (object f c).noted))
      by false j false u =
          let one = eqb-false c JOIN_CELL j in
          let two = eqb-false c FUTEX_CELL u in
          (λ i. At (if j i then (joins later).noted else if u i then (bytes later).noted else (object later c).noted))
          ∙ (object-same (omega (arith, few, one, two)) ∙ λ i. At (if sym j i then (joins f).noted else if sym u i then (bytes f).noted else (object f c).noted))

  unseen-keeps : (u : Unseen) → Keeps (FineAct.Unseen u)
  unseen-keeps u = record { of_object = λ o. object-kept o u; of_joins = λ j. joins-kept j u; of_bytes = λ b. refl }
    where
      object-kept : (o : ObjectCell) (u : Unseen) → At (object_after o (FineAct.Unseen u) e.moved).noted ≡ At o.noted
      object-kept o Unseen.Wipe = refl
      object-kept o u = refl

      joins-kept : (j : Joins) (u : Unseen) → At (join_after j (FineAct.Unseen u) e.moved).noted ≡ At j.noted
      joins-kept j (Unseen.Shut who) = refl
      joins-kept j (Unseen.Unshut who) = refl
      joins-kept j Unseen.Sleep = refl
      joins-kept j (Unseen.Rouse who) = refl
      joins-kept j u = refl

  -- An event of such a thread.

  module _ (q : Pending) (rest : Steps) (todo : Todos) (h : Shows f m e.cpu e q rest todo) (apart : Other p.context.thread) where
    asker-apart : (caller_in (moves_show f.image p q rest e.moved)).thread ≡ to_thread p.context.thread → Other (caller_in e.moved).thread.0
    asker-apart is = subst Other (sym (ap (λ (who : ThreadIx). who.0) (ap (λ (mv : Exchange). (caller_in mv).thread) (moved-made h) ∙ is))) apart

  event-keeps : (q : Pending) (rest : Steps) (todo : Todos) → Shows f m e.cpu e q rest todo → Other p.context.thread → Keeps (shows f.image p q e.act)
  event-keeps (Pending.Work a ask) rest todo h apart =
      record { of_object = λ o. left-by o.noted (caller_in e.moved).thread.0 (noted_in e.moved) (asker-apart (Pending.Work a ask) rest todo h apart refl); of_joins = λ j. refl; of_bytes = λ b. refl }
  event-keeps (Pending.Join who timeout) rest todo h apart = record { of_object = λ o. refl; of_joins = λ j. by j (answer_in (act_in e.act)); of_bytes = λ b. refl }
    where
      by : (j : Joins) (a : Answer) → At (begins_waiting j e.moved a).noted ≡ At j.noted
      by j Answer.Wait = left-by j.noted (caller_in e.moved).thread.0 (noted_in e.moved) (asker-apart (Pending.Join who timeout) rest todo h apart refl)
      by j (Answer.Now reply) = refl
  event-keeps (Pending.FutexWait a value timeout) rest todo h apart = record { of_object = λ o. refl; of_joins = λ j. refl; of_bytes = λ b. by b (answer_in (act_in e.act)) }
    where
      by : (b : Bytes) (n : Answer) → At (memory_after f.image b (Act.FutexWait a value n) e.moved).noted ≡ At b.noted
      by b Answer.Wait = left-by b.noted (caller_in e.moved).thread.0 (noted_in e.moved) (asker-apart (Pending.FutexWait a value timeout) rest todo h apart refl)
      by b (Answer.Now reply) = refl
  event-keeps (Pending.Load to a n) rest todo h apart =
      let b = allows f.image p Access.Read a.0 n in
      record {
        of_object = λ o. either-act (λ z. At (object_after_act o e.moved z).noted) (At o.noted) b _ _ refl refl;
        of_joins = λ j. either-act (λ z. At (join_after_act j e.moved z).noted) (At j.noted) b _ _ refl refl;
        of_bytes = λ c. either-act (λ z. At (memory_after f.image c z e.moved).noted) (At c.noted) b _ _ refl refl;
      }
  event-keeps (Pending.Store a n value) rest todo h apart =
      let b = allows f.image p Access.Write a.0 n in
      record {
        of_object = λ o. either-act (λ z. At (object_after_act o e.moved z).noted) (At o.noted) b _ _ refl refl;
        of_joins = λ j. either-act (λ z. At (join_after_act j e.moved z).noted) (At j.noted) b _ _ refl refl;
        of_bytes = λ c. either-act (λ z. At (memory_after f.image c z e.moved).noted) (At c.noted) b _ _ refl refl;
      }
  event-keeps (Pending.Fetch a) rest todo h apart =
      let b = allows f.image p Access.Exec a.0 4 in
      record {
        of_object = λ o. either-act (λ z. At (object_after_act o e.moved z).noted) (At o.noted) b _ _ refl refl;
        of_joins = λ j. either-act (λ z. At (join_after_act j e.moved z).noted) (At j.noted) b _ _ refl refl;
        of_bytes = λ c. either-act (λ z. At (memory_after f.image c z e.moved).noted) (At c.noted) b _ _ refl refl;
      }
  event-keeps (Pending.CopyOut a) rest todo h apart =
      let n = length p.context.buffer in
      record { of_object = λ o. refl; of_joins = λ j. refl; of_bytes = λ b. by b n (allows f.image p Access.Write a.0 n) }
    where
      by : (b : Bytes) (n : ℕ) (done : Bool) → At (memory_after f.image b (Act.CopyOut a n done) e.moved).noted ≡ At b.noted
      by b n true = refl
      by b n false = refl
  event-keeps q rest todo h apart = record { of_object = λ o. refl; of_joins = λ j. refl; of_bytes = λ b. refl }

  -- each step keeps it whose events are of such a thread
  read-kept : (s : State) → Leaves f m e s → ((q : Pending) (rest : Steps) (todo : Todos) → Shows f m e.cpu e q rest todo → Other p.context.thread) → (c : ℕ) → c < ROWS + 2 → At (notes_in later c) ≡ At (notes_in f c)
  read-kept _ (nothing u said) apart = kept-by (FineAct.Unseen u) said (unseen-keeps u)
  read-kept _ (event q rest todo x h shown is) apart = kept-by (shows f.image p q e.act) is.said (event-keeps q rest todo h (apart q rest todo h))
  read-kept _ (resumes c told rest idle moved said) apart = kept-by _ said (record { of_object = λ o. refl; of_joins = λ j. refl; of_bytes = λ b. refl })
  read-kept _ (passes who x rest todo h said) apart = kept-by _ said (record { of_object = λ o. refl; of_joins = λ j. refl; of_bytes = λ b. refl })
  read-kept _ (drops from x rest todo h said) apart = kept-by _ said (record { of_object = λ o. refl; of_joins = λ j. refl; of_bytes = λ b. refl })
  read-kept _ (cleans who x rest todo h said) apart = kept-by _ said (record { of_object = λ o. refl; of_joins = λ j. refl; of_bytes = λ b. refl })
  read-kept _ (recycles x rest todo at l said chosen) apart = kept-by _ said (record { of_object = λ o. refl; of_joins = λ j. refl; of_bytes = λ b. refl })
  read-kept _ (beside_it u x q how chosen started) apart = by how
    where
      by : {u x : ℕ} {q : Pending} → Beside f m e u x q → (c : ℕ) → c < ROWS + 2 → At (notes_in later c) ≡ At (notes_in f c)
      by (cuts who site before x todo at place inside said) = kept-by _ said (record { of_object = λ o. refl; of_joins = λ j. refl; of_bytes = λ b. refl })
      by (times_out deadline site x who todo at place inside said) = kept-by _ said (record { of_object = λ o. refl; of_joins = λ j. refl; of_bytes = λ b. refl })
      by (expires deadline x todo at inside said) = kept-by _ said (record { of_object = λ o. refl; of_joins = λ j. refl; of_bytes = λ b. refl })
      by (ticks at said) = kept-by _ said (record { of_object = λ o. refl; of_joins = λ j. refl; of_bytes = λ b. refl })
      by (leaves_it todo at said) = kept-by _ said (record { of_object = λ o. refl; of_joins = λ j. refl; of_bytes = λ b. refl })

module _ (f : Fine) (m : State) (e : FineStep) (law : Lawful f m e) where
  open around f e use {later, processor as p}

  -- each step keeps the number of a thread that is no event of it
  pub noted-kept : (t : ℕ) (s : State) → Leaves f m e s → ((q : Pending) (rest : Steps) (todo : Todos) → Shows f m e.cpu e q rest todo → p.context.thread ≢ t) → (c : ℕ) → c < ROWS + 2 → noted_at later c t ≡ noted_at f c t
  noted-kept t = read-kept f m e law (λ xs. slice_index_or xs t 0) (λ u. u ≢ t) (λ xs u n apart. other-place xs u t n apart)

  -- and the places
  pub notes-part : (s : State) → Leaves f m e s → NotesAre later
  notes-part s left =
      record {
        places = λ c few. read-kept f m e law length (λ u. Unit {0}) (λ xs u n apart. length-set xs u n) s left (λ q rest todo h. tt) c few ∙ law.rel.notes.places c few;
      }
