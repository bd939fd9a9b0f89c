-- What is read of a processor's list of its region table, and which steps leave what a table is of.
use Rattle.um_refinement.proofs.Words.{◌≡◌, inl, inr, ℕ, Bool, true, false, List, [], ◌∷◌, Option, Some, None, refl, sym, ap, ◌∙◌, ◌==◌, ◌&&◌, not, if◌then◌else◌, list_any, and_parts, eqb-true, false≢true, true≢false, Act, Image, Pending, Thread, Change, Next, Steps, domain_in, is_word_read, begins_cleaning, Context, as_thread, came_in, changed_part, continues, gone_part, after_claim, after_show, after_take, goes_on_by, p_next, with_cleaned, Todo, Todos, fine_steps, Processor, is_of, Exchange, FineStep, AreFramed, Behind, OnMemory, has_steps, is_region_load, behind_shown, Table, same_mode, ◌++◌, FineAct, thread_in, is_empty, turn, refilled_by, access_over, Fine, State, Rel, runs, ◌<◌}
use Rattle.um_refinement.specs.Lists.{times}
use Rattle.um_refinement.specs.Timing.{IsHand, IsPaying}
use Rattle.um_machine.specs.Table as T
use Rattle.um_fine.specs.declared.table.TableKey.{TableKey}
use Rattle.um_fine.specs.Follows.{shown_step, with_actor}
use Rattle.um_fine.specs.Places.{armed_for, put_away, settling}
use Rattle.um_refinement.specs.Frames.{IsActOver, IsWaitOver, access_alone, access_settled, act_alone, act_settled, both, nothing, rereads, settled}
use Rattle.um_refinement.proofs.DomainReads.{claimed}
use Rattle.um_refinement.proofs.ListGrips.{grip}
use Rattle.um_refinement.proofs.ListGrowth.{forms-kept}
use Rattle.um_refinement.proofs.ListTails.{Reads, is_passed}

-- the thread's domain is claimed, and its table loaded
abbrev pub ready-table : Todos → Bool
ready-table todo = claimed todo && not (list_any is_region_load todo)

ready-passed : (q : Todo) (todo : Todos) → is_passed q ≡ true → ready-table (q ∷ todo) ≡ ready-table todo
ready-passed (Todo.read_claim d) todo h = absurd (false≢true h)
ready-passed (Todo.read_done d) todo h = absurd (false≢true h)
ready-passed Todo.region_load todo h = absurd (false≢true h)
ready-passed q todo h = refl

ready-none : (image : Image) (c : Context) (q : Pending) (rest : Steps) → ready-table (fine_steps image c q rest) ≡ false
ready-none image = forms-kept image (λ todo. ready-table todo ≡ false)
    (record {
      note = λ site todo h. h;
      act = λ q rest. refl;
      settles = λ q rest deadline mark. refl;
      access = λ q rest. refl;
      access_settles = λ q rest deadline mark. refl;
      look = λ x todo h. h;
      owe = λ q rest. refl;
      leave = λ a rest. refl;
      edit = λ d q rest. refl;
      move = λ d who rest. refl;
      start = λ who q rest c. refl;
    })

ready-waited : (site : ℕ) (todo : Todos) → IsActOver todo → ready-table (todo ++ Todo.reread site ∷ []) ≡ ready-table todo
ready-waited site _ act_alone = refl
ready-waited site _ act_settled = refl
ready-waited site _ access_alone = refl
ready-waited site _ access_settled = refl

pub ready-reads : (image : Image) → Reads image ready-table false
ready-reads image = record { empty = refl; passed = ready-passed; expanded = ready-none image; begins = refl; exits = refl; waited = ready-waited }

pub claimed-steps : (todo : Todos) → claimed todo ≡ true → has_steps todo ≡ true
claimed-steps [] h = absurd (false≢true h)
claimed-steps (q ∷ todo) h = refl

-- one with a mark in its hand holds no thread, so one that does runs it
paying-grip : (todo : Todos) → IsPaying todo → grip todo ≡ false
paying-grip [] h = absurd h
paying-grip (Todo.wake who told ∷ todo) h = paying-grip todo h
paying-grip (Todo.paid ∷ todo) h = ap grip h
paying-grip (q ∷ todo) h = absurd h

hand-grip : (todo : Todos) → IsHand todo → grip todo ≡ false
hand-grip [] h = absurd h
hand-grip (Todo.handle deadline mark ∷ todo) h = ap grip h
hand-grip (q ∷ todo) h = paying-grip (q ∷ todo) h

pub grip-runs : {f : Fine} {m : State} {k : ℕ} → Rel f m → k < f.cpus → grip (f.processors k).todo ≡ true → runs (f.processors k) ≡ true
grip-runs {f} {m} {k} rel l held = by (times (f.processors k).todo) refl
  where
    some : has_steps (f.processors k).todo ≡ true
    some = which (f.processors k).todo held
      where
        which : (todo : Todos) → grip todo ≡ true → has_steps todo ≡ true
        which [] h = absurd (false≢true h)
        which (q ∷ todo) h = refl

    by : (b : Bool) → times (f.processors k).todo ≡ b → runs (f.processors k) ≡ true
    by true e = absurd (false≢true (sym (hand-grip (f.processors k).todo ((rel.processors k l).timer.hand e)) ∙ held))
    by false e = λ i. some i && not (e i)

-- a processor with a claim of its thread's domain holds the thread
pub over-unclaimed : (todo : Todos) → IsWaitOver todo → claimed todo ≡ false
over-unclaimed _ nothing = refl
over-unclaimed _ settled = refl
over-unclaimed _ rereads = refl
over-unclaimed _ both = refl

pub access-grip : (over : Todos) → IsWaitOver over → grip (access_over over) ≡ true
access-grip _ nothing = refl
access-grip _ settled = refl
access-grip _ rereads = refl
access-grip _ both = refl

pub claimed-grip : (image : Image) (todo : Todos) → AreFramed image todo → claimed todo ≡ true → grip todo ≡ true
claimed-grip image [] fr h = absurd (false≢true h)
claimed-grip image (Todo.hold ∷ todo) fr h = by fr.0
  where
    by : Behind image Todo.hold todo → grip (Todo.hold ∷ todo) ≡ true
    by (inl r) = absurd (false≢true (sym (ap claimed (r.1 ∙ ap (λ (z : Todos). Todo.read_claim None ∷ Todo.region_load ∷ z) r.2.3)) ∙ h))
    by (inr r) = absurd (false≢true (sym (ap claimed (r.2 ∙ ap (λ (z : Todos). Todo.unshut r.0 ∷ z) r.3.3)) ∙ h))
claimed-grip image (Todo.let_go ∷ todo) fr h = by fr.0
  where
    by : Behind image Todo.let_go todo → grip (Todo.let_go ∷ todo) ≡ true
    by (inl r) = absurd (false≢true (sym (over-unclaimed todo r) ∙ h))
    by (inr r) = absurd (false≢true (sym (ap claimed r.1) ∙ h))
claimed-grip image (Todo.read_claim None ∷ todo) fr h =
    let (access, same, is) = fr.0 in absurd (false≢true (sym (ap (λ (z : Todos). claimed (Todo.read_claim None ∷ z)) (same ∙ ap (λ (z : Todos). Todo.region_load ∷ z) is.3)) ∙ h))
claimed-grip image (Todo.read_claim (Some d) ∷ todo) fr h = absurd (false≢true (sym (ap claimed fr.0.2) ∙ h))
claimed-grip image (Todo.read_done None ∷ todo) fr h = let (over, same, is) = fr.0 in ap grip same ∙ access-grip over is
claimed-grip image (Todo.read_done (Some d) ∷ todo) fr h = absurd (false≢true (sym (ap claimed fr.0.2) ∙ h))
claimed-grip image (Todo.region_load ∷ todo) fr h = ap grip fr.0.3 ∙ access-grip fr.0.2 fr.0.5
claimed-grip image (Todo.paid ∷ todo) fr h = absurd (false≢true (sym (ap claimed fr.0) ∙ h))
claimed-grip image (Todo.show q rest ∷ todo) fr h = claimed-grip image todo fr.1 h
claimed-grip image (Todo.write_claim d ∷ todo) fr h = claimed-grip image todo fr.1 h
claimed-grip image (Todo.edit d q ∷ todo) fr h = claimed-grip image todo fr.1 h
claimed-grip image (Todo.size_look x ∷ todo) fr h = claimed-grip image todo fr.1 h
claimed-grip image (Todo.end_call x ∷ todo) fr h = claimed-grip image todo fr.1 h
claimed-grip image (Todo.wake who told ∷ todo) fr h = claimed-grip image todo fr.1 h
claimed-grip image (Todo.add c ∷ todo) fr h = claimed-grip image todo fr.1 h
claimed-grip image (Todo.pass who x ∷ todo) fr h = claimed-grip image todo fr.1 h
claimed-grip image (Todo.drop x ∷ todo) fr h = claimed-grip image todo fr.1 h
claimed-grip image (Todo.clean_pair who x ∷ todo) fr h = claimed-grip image todo fr.1 h
claimed-grip image (Todo.wipe x ∷ todo) fr h = claimed-grip image todo fr.1 h
claimed-grip image (Todo.vacate x ∷ todo) fr h = claimed-grip image todo fr.1 h
claimed-grip image (Todo.recycle x ∷ todo) fr h = claimed-grip image todo fr.1 h
claimed-grip image (Todo.park ∷ todo) fr h = claimed-grip image todo fr.1 h
claimed-grip image (Todo.done ∷ todo) fr h = claimed-grip image todo fr.1 h
claimed-grip image (Todo.note site ∷ todo) fr h = claimed-grip image todo fr.1 h
claimed-grip image (Todo.owe ∷ todo) fr h = claimed-grip image todo fr.1 h
claimed-grip image (Todo.settle deadline mark ∷ todo) fr h = claimed-grip image todo fr.1 h
claimed-grip image (Todo.reread site ∷ todo) fr h = claimed-grip image todo fr.1 h
claimed-grip image (Todo.look who site before ∷ todo) fr h = claimed-grip image todo fr.1 h
claimed-grip image (Todo.tell_cut who ∷ todo) fr h = claimed-grip image todo fr.1 h
claimed-grip image (Todo.rouse who ∷ todo) fr h = claimed-grip image todo fr.1 h
claimed-grip image (Todo.sleep ∷ todo) fr h = claimed-grip image todo fr.1 h
claimed-grip image (Todo.reread_asleep ∷ todo) fr h = claimed-grip image todo fr.1 h
claimed-grip image (Todo.unshut who ∷ todo) fr h = claimed-grip image todo fr.1 h
claimed-grip image (Todo.leave ∷ todo) fr h = claimed-grip image todo fr.1 h
claimed-grip image (Todo.handle deadline mark ∷ todo) fr h = claimed-grip image todo fr.1 h

settling-unclaimed : (image : Image) (c : Context) (until : Option ℕ) (q : Pending) → claimed (settling image c until q) ≡ false
settling-unclaimed image c None q = refl
settling-unclaimed image c (Some deadline) q = refl

-- behind an event with a claim is the end of an access
pub claimed-memory : (image : Image) (c : Context) (q : Pending) → claimed (behind_shown image c q) ≡ true → OnMemory q
claimed-memory image c (Pending.Load to a n) h = tt
claimed-memory image c (Pending.Store a n value) h = tt
claimed-memory image c (Pending.Fetch a) h = tt
claimed-memory image c (Pending.Probe a amount) h = tt
claimed-memory image c (Pending.CopyIn a amount) h = tt
claimed-memory image c (Pending.CopyOut a) h = tt
claimed-memory image c (Pending.CopyStr a) h = tt
claimed-memory image c (Pending.FutexWait a value timeout) h = tt
claimed-memory image c (Pending.FutexWake a all) h = tt
claimed-memory image c (Pending.Work a ask) h = absurd (false≢true (sym (settling-unclaimed image c (armed_for image c (Pending.Work a ask)) (Pending.Work a ask)) ∙ h))
claimed-memory image c (Pending.Join who timeout) h = absurd (false≢true (sym (settling-unclaimed image c (armed_for image c (Pending.Join who timeout)) (Pending.Join who timeout)) ∙ h))
claimed-memory image c q h = absurd (false≢true h)

-- What a table is of: it stays so at an event on memory.

pub record SameOwn (c d : Context) : Type 0 where
  pub thread : c.thread ≡ d.thread
  pub stack : c.stack ≡ d.stack
  pub mode : c.mode ≡ d.mode

changed-own : (change : Change) (c : Context) → SameOwn (changed_part change c) c
changed-own Change.nothing c = record { thread = refl; stack = refl; mode = refl }
changed-own change c = record { thread = refl; stack = refl; mode = refl }

-- it stays so in its call
abbrev IsOn : Next → Type 0
IsOn (Next.on change way) = Unit {0}
IsOn next = ⊥

gone-own : (image : Image) (c : Context) (left : Steps) (next : Next) → IsOn next → SameOwn (gone_part image left next c) c
gone-own image c left (Next.on change way) h = let same = changed-own change c in record { thread = same.thread; stack = same.stack; mode = same.mode }
gone-own image c left next h = absurd h

memory-on : (image : Image) (t : ℕ) (me : Thread) (x : ℕ) (q : Pending) (act : Act) (came : List ℕ) → OnMemory q → IsOn (T.continues image t me x q act came)
memory-on image t me x (Pending.Load to a n) act came on = tt
memory-on image t me x (Pending.Store a n value) act came on = tt
memory-on image t me x (Pending.Fetch a) act came on = tt
memory-on image t me x (Pending.Probe a amount) act came on = tt
memory-on image t me x (Pending.CopyIn a amount) act came on = tt
memory-on image t me x (Pending.CopyOut a) act came on = tt
memory-on image t me x (Pending.CopyStr a) act came on = tt
memory-on image t me x (Pending.FutexWait a value timeout) act came on = tt
memory-on image t me x (Pending.FutexWake a all) act came on = tt
memory-on image t me x q act came on = absurd on

pub memory-own : (image : Image) (c : Context) (x : ℕ) (q : Pending) (rest : Steps) (act : Act) (moved : Exchange) → OnMemory q → SameOwn (continues image c x q rest act moved) c
memory-own image c x q rest act moved on =
    let came = came_in q moved in
    gone-own image c rest (T.continues image c.thread (as_thread c) x q act came) (memory-on image c.thread (as_thread c) x q act came on)

-- The table and the version that a processor has.

abbrev pub loads : Todos → Bool
loads (Todo.region_load ∷ todo) = true
loads todo = false

abbrev pub is_claim : Todo → Bool
is_claim (Todo.read_claim d) = true
is_claim q = false

show-table : (image : Image) (p : Processor) (e : FineStep) (q : Pending) (rest : Steps) (todo : Todos) (b : Bool)
    → ((if b then record p { todo = put_away (thread_in e.word).doomed } else after_show image p e (shown_step image q e.act) rest todo).table ≡ p.table)
    × ((if b then record p { todo = put_away (thread_in e.word).doomed } else after_show image p e (shown_step image q e.act) rest todo).version ≡ p.version)
show-table image p e q rest todo true = (refl, refl)
show-table image p e q rest todo false = (refl, refl)

claim-table : (p : Processor) (d : ℕ) (init : Bool) (todo : Todos) → ((after_claim p d init 0 todo).table ≡ p.table) × ((after_claim p d init 0 todo).version ≡ p.version)
claim-table p d true todo = (refl, refl)
claim-table p d false todo = (refl, refl)

cleaned-table : (image : Image) (p : Processor) (e : FineStep) (b : Bool) → ((with_cleaned image p e b).table ≡ p.table) × ((with_cleaned image p e b).version ≡ p.version)
cleaned-table image p e true = (refl, refl)
cleaned-table image p e false = (refl, refl)

take-table : (image : Image) (p : Processor) (moved : Exchange) → (after_take image p moved).table ≡ p.table
take-table image p (Exchange.thread c None) =
    elim (is_empty c.pending) as (λ b. (if b then record p { context = c; todo = turn image c } else refilled_by image (record p { context = c }) []).table ≡ p.table) [ true ↦ refl | false ↦ refl ]
take-table image p (Exchange.thread c (Some told)) = refl
take-table image p moved = refl

acted-table : (image : Image) (p : Processor) (act : FineAct) → ((with_actor image p act).table ≡ p.table) × ((with_actor image p act).version ≡ p.version)
acted-table image p (FineAct.Shown event more) = (refl, refl)
acted-table image p (FineAct.Unseen unseen) = (refl, refl)

next-tables : (image : Image) (p : Processor) (e : FineStep)
    → ((p_next image p e).table ≡ (goes_on_by image p e p.todo).table) × ((p_next image p e).version ≡ (goes_on_by image p e p.todo).version)
next-tables image p e =
    let acted = acted-table image (with_cleaned image (goes_on_by image p e p.todo) e (begins_cleaning e)) e.act in
    let cleaned = cleaned-table image (goes_on_by image p e p.todo) e (begins_cleaning e) in (acted.0 ∙ cleaned.0, acted.1 ∙ cleaned.1)

goes-table : (image : Image) (p : Processor) (e : FineStep) (todo : Todos) → loads todo ≡ false → (goes_on_by image p e todo).table ≡ p.table
goes-table image p e [] h = take-table image p e.moved
goes-table image p e (Todo.show q rest ∷ todo) h = (show-table image p e q rest todo (is_word_read e.act)).0
goes-table image p e (Todo.read_claim None ∷ todo) h = refl
goes-table image p e (Todo.read_claim (Some d) ∷ todo) h = (claim-table p d (domain_in e.word).init todo).0
goes-table image p e (Todo.region_load ∷ todo) h = absurd (true≢false h)
goes-table image p e (q ∷ todo) h = refl

pub next-table : (image : Image) (p : Processor) (e : FineStep) (todo : Todos) → p.todo ≡ todo → loads todo ≡ false → (p_next image p e).table ≡ p.table
next-table image p e todo at h =
    (next-tables image p e).0 ∙ (ap (λ (z : Todos). (goes_on_by image p e z).table) at ∙ goes-table image p e todo h)

goes-version : (image : Image) (p : Processor) (e : FineStep) (q : Todo) (todo : Todos) → is_claim q ≡ false → (goes_on_by image p e (q ∷ todo)).version ≡ p.version
goes-version image p e (Todo.show q rest) todo h = (show-table image p e q rest todo (is_word_read e.act)).1
goes-version image p e (Todo.read_claim None) todo h = absurd (true≢false h)
goes-version image p e (Todo.read_claim (Some d)) todo h = absurd (true≢false h)
goes-version image p e q todo h = refl

pub next-version : (image : Image) (p : Processor) (e : FineStep) (q : Todo) (todo : Todos) → p.todo ≡ q ∷ todo → is_claim q ≡ false → (p_next image p e).version ≡ p.version
next-version image p e q todo at h =
    (next-tables image p e).1 ∙ (ap (λ (z : Todos). (goes_on_by image p e z).version) at ∙ goes-version image p e q todo h)

-- a table that is of a key
pub is-of-key : (key : TableKey) (o : Option Table) → is_of key o ≡ true → (table : Table) × (o ≡ Some table) × (table.key ≡ key)
is-of-key key None h = absurd (false≢true h)
is-of-key key (Some table) h =
    let a = and_parts _ (table.key.version == key.version) h in
    let b = and_parts _ (table.key.domain == key.domain) a.0 in
    let c = and_parts _ (same_mode table.key.user key.user) b.0 in
    let d = and_parts (table.key.thread == key.thread) (table.key.stack == key.stack) c.0 in (
      table,
      refl,
      λ i. record {
        thread = eqb-true table.key.thread key.thread d.0 i;
        stack = eqb-true table.key.stack key.stack d.1 i;
        user = user table.key.user key.user c.1 i;
        domain = eqb-true table.key.domain key.domain b.1 i;
        version = eqb-true table.key.version key.version a.1 i;
      },
    )
  where
    user : (x y : Bool) → same_mode x y ≡ true → x ≡ y
    user true true h = refl
    user true false h = absurd (false≢true h)
    user false false h = refl
    user false true h = absurd (false≢true h)
