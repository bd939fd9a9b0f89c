-- The region tables of processors are of the partitions that stand, as far as their versions say so, after every lawful step.
use Rattle.um_refinement.proofs.Words.{◌≡◌, ◌⊎◌, inl, inr, ℕ, ◌<◌, ◌≤◌, Bool, true, false, cond, [], ◌∷◌, length, Option, Some, None, refl, sym, ap, ◌∙◌, subst, arith, eq-eqb, ◌==◌, ◌&&◌, ◌||◌, not, IsTrue, if◌then◌else◌, unwrap_or, list_any, and_parts, eqb-true, false≢true, Pending, Steps, State, is_user, DomWord, FineAct, Unseen, act_in, domain_in, is_visit, is_word_read, begins_cleaning, Cell, Context, after_claim, after_show, dropped_at, goes_on_by, p_next, unless_loaded, Todo, Todos, Processor, is_of, key_of, SiteState, is_sort, s_next, same_site, site_moves, word_of, FineStep, Site, same-itself, reads, Fine, domain, domain_state, one_if, parts, parts_state, Behind, access_over, edited, edits, is_hold, is_region_load, moves_to, Fits, behind_shown, parts_or_none, partitions_of, Table, parts_in, TableIs, has_loaded, continues, thread_in}
use Rattle.um_machine.specs.Table as T
use Rattle.um_fine.specs.Answers.{is_killed}
use Rattle.um_fine.specs.Follows.{shown_step}
use Rattle.um_fine.specs.Places.{put_away}
use Rattle.um_refinement.specs.Frames.{IsWaitOver, both, nothing, rereads, settled}
use Rattle.um_refinement.proofs.DomainReads.{claimed, claimed-reads, next-domain, over-claimed}
use Rattle.um_refinement.proofs.DomainFacts.{edited-edits}
use Rattle.um_refinement.proofs.DomainWords.{IsEdited, Stays, stays-or-edited}
use Rattle.um_refinement.proofs.Erased.{around}
use Rattle.um_refinement.proofs.Leaves.{Lawful, Leaves}
use Rattle.um_refinement.proofs.ListGrips.{kill-rests, next-context, read-rests}
use Rattle.um_refinement.proofs.ListGrowth.{ReadsLast, is_read_claim}
use Rattle.um_refinement.proofs.ListTails.{adds-pass, quiet-next, tail-read, takes-read}
use Rattle.um_refinement.proofs.MemoryPart.{InDomains}
use Rattle.um_refinement.proofs.MemorySteps.{part-total}
use Rattle.um_refinement.proofs.RowSteps.{sort-next}
use Rattle.um_refinement.proofs.SchedulerSteps.{made-at, made-says, word-left}
use Rattle.um_refinement.proofs.StepReads.{is-behind}
use Rattle.um_refinement.proofs.TableReads.{SameOwn, claimed-grip, claimed-memory, grip-runs, over-unclaimed, is-of-key, is_claim, loads, memory-own, next-table, next-version, ready-reads, ready-table}

module _ (f : Fine) (m : State) (e : FineStep) (law : Lawful f m e) (all : InDomains f m) (s : State) (leaves : Leaves f m e s) where
  open around f e use {later, processor as p, now}
  open is-behind f m e law use {frame}

  -- A claim of a domain keeps its version.

  claimed-domain : (k : ℕ) → k < f.cpus → claimed (f.processors k).todo ≡ true → (f.processors k).domain < length f.image.domains
  claimed-domain k l h =
      let here = law.rel.processors k l in
      let held = claimed-grip f.image (f.processors k).todo here.frames h in
      let of = law.rel.contexts.running k l (grip-runs law.rel l held) in
      let kept = here.domain.kept held in
      subst (λ d. d < length f.image.domains) (sym (kept ∙ (law.rel.threads (f.processors k).context.thread of.index).word.domain)) (all (f.processors k).context.thread of.index of.started)

  -- it counts as a reader, so nobody writes
  unwritten : (k : ℕ) → k < f.cpus → claimed (f.processors k).todo ≡ true → (domain f (f.processors k).domain).writer ≡ false
  unwritten k l h = by (domain f d).writer refl
    where
      d : ℕ
      d = (f.processors k).domain

      reading : one_if (reads (f.processors k).domain (f.processors k)) ≡ 1
      reading = λ i. one_if ((h i && eq-eqb (f.processors k).domain (f.processors k).domain refl i) || moves_to (f.processors k).domain (f.processors k).reply (f.processors k).todo)

      by : (b : Bool) → (domain f (f.processors k).domain).writer ≡ b → b ≡ false
      by false q = refl
      by true q =
          let is = law.rel.domains (f.processors k).domain (claimed-domain k l h) in
          let none = is.apart q in
          let sum = is.readers in
          let part = part-total (λ j. one_if (reads (f.processors k).domain (f.processors j))) f.cpus k l in
          let one = reading in
          absurd (omega (arith, none, sum, part, one))

  version-stays : (k : ℕ) → k < f.cpus → claimed (f.processors k).todo ≡ true → (domain later (f.processors k).domain).version ≡ (domain f (f.processors k).domain).version
  version-stays k l h = by (stays-or-edited f m e law (f.processors k).domain s leaves)
    where
      by : Stays f m e law (f.processors k).domain s ⊎ IsEdited f m e law (f.processors k).domain → (domain later (f.processors k).domain).version ≡ (domain f (f.processors k).domain).version
      by (inl r) = r.0
      by (inr r) = absurd (false≢true (sym (unwritten k l h) ∙ r.1))

  -- A table that isn't loaded anew.

  older-still : (k : ℕ) → k < f.cpus → (table : Table) → (f.processors k).table ≡ Some table → table.key.version ≤ (domain later table.key.domain).version
  older-still k l table h = by (stays-or-edited f m e law table.key.domain s leaves)
    where
      was : table.key.version ≤ (domain f table.key.domain).version
      was = (law.rel.processors k l).table.older table h

      by : Stays f m e law table.key.domain s ⊎ IsEdited f m e law table.key.domain → table.key.version ≤ (domain later table.key.domain).version
      by (inl r) = let v = r.0 in let o = was in omega (arith, v, o)
      by (inr r) = let v = r.0 in let o = was in omega (arith, v, o)

  right-still : (k : ℕ) → k < f.cpus → (table : Table) → (f.processors k).table ≡ Some table → table.key.version ≡ (domain later table.key.domain).version
      → (domain later table.key.domain).writer ≡ false → table.parts ≡ partitions_of s table.key.domain
  right-still k l table h version writer = by (stays-or-edited f m e law table.key.domain s leaves)
    where
      was : TableIs f m k
      was = (law.rel.processors k l).table

      by : Stays f m e law table.key.domain s ⊎ IsEdited f m e law table.key.domain → table.parts ≡ partitions_of s table.key.domain
      by (inl r) = was.right table h (version ∙ r.0) (r.1 writer) ∙ ap parts_or_none (sym r.2)
      by (inr r) = let old = was.older table h in let v = r.0 in absurd (omega (arith, old, v, version))

  -- Another processor.
  other-table : (k : ℕ) → k < f.cpus → later.processors k ≡ f.processors k → TableIs later s k
  other-table k l same =
      record {
        older = λ table h. older-still k l table (sym (ap (λ (z : Processor). z.table) same) ∙ h);
        right = λ table h version writer. right-still k l table (sym (ap (λ (z : Processor). z.table) same) ∙ h) version writer;
        present = λ h.
            let c = sym (ap (λ (z : Processor). claimed z.todo) same) ∙ h in
            ap (λ (z : Processor). z.version) same
            ∙ ((law.rel.processors k l).table.present c ∙ (sym (version-stays k l c) ∙ ap (λ (z : Processor). (domain later z.domain).version) (sym same)));
        loaded = λ h.
            let r = (law.rel.processors k l).table.loaded (sym (ap has_loaded same) ∙ h) in
            (r.0, ap (λ (z : Processor). z.table) same ∙ r.1, r.2 ∙ ap key_of (sym same));
      }

  -- The processor of the step.

  same : later.processors e.cpu ≡ now
  same = ap (λ b. cond b (p_next f.image p e) p) (eq-eqb e.cpu e.cpu refl)

  was : TableIs f m e.cpu
  was = (law.rel.processors e.cpu law.by.named).table

  keeps : now.table ≡ p.table → (claimed now.todo ≡ true → now.version ≡ (domain later now.domain).version)
      → (ready-table now.todo ≡ true → (table : Table) × (now.table ≡ Some table) × (table.key ≡ key_of now)) → TableIs later s e.cpu
  keeps tables present loaded =
      record {
        older = λ table h. older-still e.cpu law.by.named table (sym tables ∙ (sym (ap (λ (z : Processor). z.table) same) ∙ h));
        right = λ table h version writer. right-still e.cpu law.by.named table (sym tables ∙ (sym (ap (λ (z : Processor). z.table) same) ∙ h)) version writer;
        present = λ h.
            ap (λ (z : Processor). z.version) same
            ∙ (present (sym (ap (λ (z : Processor). claimed z.todo) same) ∙ h) ∙ ap (λ (z : Processor). (domain later z.domain).version) (sym same));
        loaded = λ h.
            let r = loaded (sym (ap (λ (z : Processor). ready-table z.todo) same) ∙ h) in
            (r.0, ap (λ (z : Processor). z.table) same ∙ r.1, r.2 ∙ ap key_of (sym same));
      }

  -- it claims nothing then
  none-claimed : now.table ≡ p.table → claimed now.todo ≡ false → TableIs later s e.cpu
  none-claimed tables none =
      keeps tables (λ h. absurd (false≢true (sym none ∙ h))) (λ h. absurd (false≢true (sym none ∙ (and_parts (claimed now.todo) (not (list_any is_region_load now.todo)) h).0)))

  key-same : SameOwn now.context p.context → now.domain ≡ p.domain → now.version ≡ p.version → key_of now ≡ key_of p
  key-same own d v = λ i. record { thread = own.thread i; stack = (own.stack i).0; user = is_user (own.mode i); domain = d i; version = v i }

  tail-claimed : (q : Todo) (todo : Todos) → p.todo ≡ q ∷ todo → is_read_claim q ≡ false → ReadsLast e q todo → claimed now.todo ≡ claimed todo
  tail-claimed q todo at other last = tail-read f.image claimed false (claimed-reads f.image) p e q todo at other (adds-pass f.image claimed false (claimed-reads f.image) (λ c z. refl) q) (frame q todo at) last

  -- a step that has nothing to do with claims of the thread's domain
  tail-table : (q : Todo) (todo : Todos) → p.todo ≡ q ∷ todo → is_read_claim q ≡ false → is_claim q ≡ false → is_hold q ≡ false → loads (q ∷ todo) ≡ false → ReadsLast e q todo
      → (claimed todo ≡ true → SameOwn now.context p.context) → claimed (q ∷ todo) ≡ claimed todo → ready-table (q ∷ todo) ≡ ready-table todo → TableIs later s e.cpu
  tail-table q todo at other claim hold load last own plain ready =
      keeps (next-table f.image p e (q ∷ todo) at load)
      (λ h.
      let c = ap claimed at ∙ (plain ∙ (sym (tail-claimed q todo at other last) ∙ h)) in
      next-version f.image p e q todo at claim
      ∙ (was.present c ∙ (sym (version-stays e.cpu law.by.named c) ∙ ap (λ n. (domain later n).version) (sym (next-domain f.image p e q todo at hold)))))
      (λ h.
      let behind = sym (tail-read f.image ready-table false (ready-reads f.image) p e q todo at other (adds-pass f.image ready-table false (ready-reads f.image) (λ c z. refl) q) (frame q todo at) last) ∙ h in
      let r = was.loaded (ap ready-table at ∙ (ready ∙ behind)) in (
        r.0,
        next-table f.image p e (q ∷ todo) at load ∙ r.1,
        r.2 ∙ sym (key-same (own (and_parts (claimed todo) (not (list_any is_region_load todo)) behind).0) (next-domain f.image p e q todo at hold) (next-version f.image p e q todo at claim)),
      ))

  same-context : (q : Todo) (todo : Todos) → p.todo ≡ q ∷ todo → (goes_on_by f.image p e (q ∷ todo)).context ≡ p.context → SameOwn now.context p.context
  same-context q todo at keeps-it =
      let all = next-context f.image p e ∙ (ap (λ (z : Todos). (goes_on_by f.image p e z).context) at ∙ keeps-it) in
      record { thread = ap (λ (c : Context). c.thread) all; stack = ap (λ (c : Context). c.stack) all; mode = ap (λ (c : Context). c.mode) all }

  show-table : (q : Pending) (rest : Steps) (todo : Todos) → p.todo ≡ Todo.show q rest ∷ todo → TableIs later s e.cpu
  show-table q rest todo at = tail-table (Todo.show q rest) todo at refl refl refl refl last own refl refl
    where
      behind : todo ≡ behind_shown f.image p.context q
      behind = (subst (Fits f.image p.context) at (law.rel.processors e.cpu law.by.named).list.fits).1

      last : ReadsLast e (Todo.show q rest) todo
      last read = behind ∙ read-rests f.image p p.context q e.act (made-says f m e law (Todo.show q rest ∷ todo) at) read

      made : (b : Bool) → is_killed e.act ≡ b → claimed todo ≡ true → SameOwn (continues f.image p.context 0 (if b then Pending.Killed else q) rest (act_in e.act) e.moved) p.context
      made true kill h =
          absurd (false≢true (sym (ap claimed (behind ∙ kill-rests f.image p p.context q e.act (made-says f m e law (Todo.show q rest ∷ todo) at) kill)) ∙ h))
      made false kill h = memory-own f.image p.context 0 q rest (act_in e.act) e.moved (claimed-memory f.image p.context q (sym (ap claimed behind) ∙ h))

      after : (b : Bool) → claimed todo ≡ true
          → SameOwn (if b then record p { todo = put_away (thread_in e.word).doomed } else after_show f.image p e (shown_step f.image q e.act) rest todo).context p.context
      after true h = record { thread = refl; stack = refl; mode = refl }
      after false h = made (is_killed e.act) refl h

      own : claimed todo ≡ true → SameOwn now.context p.context
      own h =
          let all = next-context f.image p e ∙ ap (λ (z : Todos). (goes_on_by f.image p e z).context) at in
          let is = after (is_word_read e.act) h in
          record {
            thread = ap (λ (c : Context). c.thread) all ∙ is.thread;
            stack = ap (λ (c : Context). c.stack) all ∙ is.stack;
            mode = ap (λ (c : Context). c.mode) all ∙ is.mode;
          }

  note-table : (site : ℕ) (todo : Todos) → p.todo ≡ Todo.note site ∷ todo → TableIs later s e.cpu
  note-table site todo at = tail-table (Todo.note site) todo at refl refl refl refl tt (λ h. own) refl refl
    where
      own : SameOwn now.context p.context
      own =
          let all = next-context f.image p e ∙ ap (λ (z : Todos). (goes_on_by f.image p e z).context) at in
          record { thread = ap (λ (c : Context). c.thread) all; stack = ap (λ (c : Context). c.stack) all; mode = ap (λ (c : Context). c.mode) all }

  drop-table : (x : ℕ) (todo : Todos) → p.todo ≡ Todo.drop x ∷ todo → TableIs later s e.cpu
  drop-table x todo at = tail-table (Todo.drop x) todo at refl refl refl refl tt (λ h. own) refl refl
    where
      after : (b : Bool) → SameOwn (dropped_at f.image p.context x b) p.context
      after true = record { thread = refl; stack = refl; mode = refl }
      after false = record { thread = refl; stack = refl; mode = refl }

      own : SameOwn now.context p.context
      own =
          let all = next-context f.image p e ∙ ap (λ (z : Todos). (goes_on_by f.image p e z).context) at in
          let is = after (is_visit e.act) in
          record {
            thread = ap (λ (c : Context). c.thread) all ∙ is.thread;
            stack = ap (λ (c : Context). c.stack) all ∙ is.stack;
            mode = ap (λ (c : Context). c.mode) all ∙ is.mode;
          }

  idle-table : p.todo ≡ [] → TableIs later s e.cpu
  idle-table at = none-claimed (next-table f.image p e [] at refl) (takes-read f.image claimed false (claimed-reads f.image) p e at)

  hold-table : (todo : Todos) → p.todo ≡ Todo.hold ∷ todo → TableIs later s e.cpu
  hold-table todo at = none-claimed (next-table f.image p e (Todo.hold ∷ todo) at refl) (tail-claimed Todo.hold todo at refl tt ∙ free (frame Todo.hold todo at))
    where
      free : Behind f.image Todo.hold todo → claimed todo ≡ false
      free (inl h) = ap claimed (h.1 ∙ ap (λ (z : Todos). Todo.read_claim None ∷ Todo.region_load ∷ z) h.2.3)
      free (inr h) = ap claimed (h.2 ∙ ap (λ (z : Todos). Todo.unshut h.0 ∷ z) h.3.3)

  done-table : (todo : Todos) → p.todo ≡ Todo.read_done None ∷ todo → TableIs later s e.cpu
  done-table todo at =
      none-claimed (next-table f.image p e (Todo.read_done None ∷ todo) at refl) (tail-claimed (Todo.read_done None) todo at refl tt ∙ none (frame (Todo.read_done None) todo at))
    where
      none : Behind f.image (Todo.read_done None) todo → claimed todo ≡ false
      none h = ap claimed h.1 ∙ over-unclaimed h.0 h.2

  exactly : (todo : Todos) (u : Unseen) → p.todo ≡ todo → e.act ≡ FineAct.Unseen u → begins_cleaning (record e { act = FineAct.Unseen u }) ≡ false → now ≡ goes_on_by f.image p e todo
  exactly todo u at said quiet = quiet-next f.image p e todo u at said quiet

  move-table : (d : ℕ) (todo : Todos) → p.todo ≡ Todo.read_claim (Some d) ∷ todo → TableIs later s e.cpu
  move-table d todo at =
      none-claimed (next-table f.image p e (Todo.read_claim (Some d) ∷ todo) at refl) (ap (λ (z : Processor). claimed z.todo) exact ∙ free (domain_in e.word).init)
    where
      exact : now ≡ goes_on_by f.image p e (Todo.read_claim (Some d) ∷ todo)
      exact = exactly (Todo.read_claim (Some d) ∷ todo) Unseen.ReadClaim at (made-says f m e law (Todo.read_claim (Some d) ∷ todo) at) refl

      free : (init : Bool) → claimed (after_claim p d init 0 todo).todo ≡ false
      free true = ap (λ (z : Todos). claimed (Todo.read_done (Some d) ∷ z)) (frame (Todo.read_claim (Some d)) todo at).2
      free false = ap claimed (frame (Todo.read_claim (Some d)) todo at).2

  -- Its thread's domain is claimed.
  claim-table : (todo : Todos) → p.todo ≡ Todo.read_claim None ∷ todo → TableIs later s e.cpu
  claim-table todo at = keeps (next-table f.image p e (Todo.read_claim None ∷ todo) at refl) (λ h. present) loaded
    where
      h : Behind f.image (Todo.read_claim None) todo
      h = frame (Todo.read_claim None) todo at

      exact : now ≡ goes_on_by f.image p e (Todo.read_claim None ∷ todo)
      exact = exactly (Todo.read_claim None ∷ todo) Unseen.ReadClaim at (made-says f m e law (Todo.read_claim None ∷ todo) at) refl

      site : e.site ≡ Site.domain p.domain
      site = made-at f m e law (Todo.read_claim None ∷ todo) at

      left : domain_in e.word ≡ domain later p.domain
      left =
          ap domain_in (word-left f m e law ∙ ap (λ i. word_of (s_next f.image (f.sites i) e)) site)
          ∙ (states (s_next f.image (f.sites (Site.domain p.domain)) e) (sort-next f.image (Site.domain p.domain) (f.sites (Site.domain p.domain)) e.act e.moved (law.rel.sorts (Site.domain p.domain)))
          ∙ sym (ap (λ b. domain_state (cond b (s_next f.image (f.sites (Site.domain p.domain)) e) (f.sites (Site.domain p.domain)))) (ap (λ i. same_site i (Site.domain p.domain)) site ∙ same-itself (Site.domain p.domain))))
        where
          states : (z : SiteState) → IsTrue (is_sort (Site.domain p.domain) z) → domain_in (word_of z) ≡ domain_state z
          states (SiteState.domain w) k = refl
          states z k = absurd (false≢true k)

      domain-same : now.domain ≡ p.domain
      domain-same = ap (λ (z : Processor). z.domain) exact

      present : now.version ≡ (domain later now.domain).version
      present =
          ap (λ (z : Processor). z.version) exact
          ∙ (ap (λ (w : DomWord). w.version) left ∙ ap (λ n. (domain later n).version) (sym domain-same))

      key-now : key_of now ≡ key_of (record p { version = (domain_in e.word).version })
      key-now = ap key_of exact

      unready : (over : Todos) → IsWaitOver over → ready-table (Todo.region_load ∷ Todo.show h.2.0 h.2.1 ∷ access_over over) ≡ false
      unready _ nothing = refl
      unready _ settled = refl
      unready _ rereads = refl
      unready _ both = refl

      loaded : ready-table now.todo ≡ true → (table : Table) × (now.table ≡ Some table) × (table.key ≡ key_of now)
      loaded ready = by (is_of (key_of (record p { version = (domain_in e.word).version })) p.table) refl
        where
          list : ready-table (unless_loaded (is_of (key_of (record p { version = (domain_in e.word).version })) p.table) (Todo.region_load ∷ Todo.show h.2.0 h.2.1 ∷ access_over h.2.2)) ≡ true
          list =
              ap (λ (z : Todos). ready-table (unless_loaded (is_of (key_of (record p { version = (domain_in e.word).version })) p.table) z))
              (sym (h.1 ∙ ap (λ (z : Todos). Todo.region_load ∷ z) h.2.3))
              ∙ (sym (ap (λ (z : Processor). ready-table z.todo) exact) ∙ ready)

          by : (b : Bool) → is_of (key_of (record p { version = (domain_in e.word).version })) p.table ≡ b → (table : Table) × (now.table ≡ Some table) × (table.key ≡ key_of now)
          by true q =
              let r = is-of-key (key_of (record p { version = (domain_in e.word).version })) p.table q in
              (r.0, ap (λ (z : Processor). z.table) exact ∙ r.1, r.2 ∙ sym key-now)
          by false q =
              absurd (false≢true (sym (ap (λ b. ready-table (unless_loaded b (Todo.region_load ∷ Todo.show h.2.0 h.2.1 ∷ access_over h.2.2))) q ∙ unready h.2.2 h.2.5) ∙ list))

  -- A table is loaded: it has the partitions that stand, since nobody edits the domain.

  abbrev fresh : Table
  fresh = record { key = key_of p; parts = parts_in e.moved }

  parts-cell : (d : ℕ) (z : SiteState) → IsTrue (is_sort (Site.parts d) z) → (n : ℕ) × (z ≡ SiteState.cell n (Cell.parts (parts_state z)))
  parts-cell d (SiteState.cell n (Cell.parts ps)) h = (n, refl)
  parts-cell d z h = absurd (false≢true h)

  load-table : (todo : Todos) → p.todo ≡ Todo.region_load ∷ todo → TableIs later s e.cpu
  load-table todo at =
      record {
        older = λ table k. subst (λ (z : Table). z.key.version ≤ (domain later z.key.domain).version) (table-is table k) (at-most (sym version));
        right = λ table k v w. subst (λ (z : Table). z.parts ≡ partitions_of s z.key.domain) (table-is table k) parts-given;
        present = λ k.
            ap (λ (z : Processor). z.version) (same ∙ exact)
            ∙ (sym version ∙ ap (λ (z : Processor). (domain later z.domain).version) (sym (same ∙ exact)));
        loaded = λ k. (fresh, ap (λ (z : Processor). z.table) (same ∙ exact), ap key_of (sym (same ∙ exact)));
      }
    where
      h : Behind f.image Todo.region_load todo
      h = frame Todo.region_load todo at

      said : e.act ≡ FineAct.Unseen Unseen.RegionLoad
      said = made-says f m e law (Todo.region_load ∷ todo) at

      site : e.site ≡ Site.parts p.domain
      site = made-at f m e law (Todo.region_load ∷ todo) at

      exact : now ≡ goes_on_by f.image p e (Todo.region_load ∷ todo)
      exact = exactly (Todo.region_load ∷ todo) Unseen.RegionLoad at said refl

      claim : claimed p.todo ≡ true
      claim = ap claimed (at ∙ ap (λ (z : Todos). Todo.region_load ∷ z) h.3) ∙ ap not (over-claimed h.2 h.5)

      version : (domain later p.domain).version ≡ p.version
      version = version-stays e.cpu law.by.named claim ∙ sym (was.present claim)

      at-most : p.version ≡ (domain later p.domain).version → p.version ≤ (domain later p.domain).version
      at-most q = omega (arith, q)

      table-is : (table : Table) → (later.processors e.cpu).table ≡ Some table → fresh ≡ table
      table-is table k = ap (λ (o : Option Table). unwrap_or o fresh) (sym (ap (λ (z : Processor). z.table) (same ∙ exact)) ∙ k)

      given : parts_in e.moved ≡ parts_or_none (parts f p.domain)
      given =
          sym (ap parts_in (subst (λ (z : SiteState). site_moves f.image z (FineAct.Unseen Unseen.RegionLoad) e.moved ≡ e.moved)
          (parts-cell p.domain (f.sites (Site.parts p.domain)) (law.rel.sorts (Site.parts p.domain))).1
          (subst (λ (z : Site × FineAct). site_moves f.image (f.sites z.0) z.1 e.moved ≡ e.moved) (λ j. (site j, said j)) (ap (λ (z : FineStep). z.moved) law.taken.filled_in))))

      nobody-edits : (k : ℕ) → k < f.cpus → edits p.domain (f.processors k).todo ≡ false
      nobody-edits k l = by (edits p.domain (f.processors k).todo) refl
        where
          by : (b : Bool) → edits p.domain (f.processors k).todo ≡ b → b ≡ false
          by false q = refl
          by true q =
              let sum = (law.rel.domains p.domain (claimed-domain e.cpu law.by.named claim)).writers in
              let none = ap one_if (unwritten e.cpu law.by.named claim) in
              let part = part-total (λ j. one_if (edits p.domain (f.processors j).todo)) f.cpus k l in
              let some = ap one_if q in
              absurd (omega (arith, sum, none, part, some))

      stands : parts f p.domain ≡ T.domain_at m p.domain
      stands =
          (law.rel.domains p.domain (claimed-domain e.cpu law.by.named claim)).settled (λ k l. by k l (edited p.domain (f.processors k).todo) refl)
        where
          by : (k : ℕ) → k < f.cpus → (o : Option Pending) → edited p.domain (f.processors k).todo ≡ o → o ≡ None
          by k l None q = refl
          by k l (Some r) q = absurd (false≢true (sym (nobody-edits k l) ∙ edited-edits p.domain r (f.processors k).todo q))

      below : T.domain_at s p.domain ≡ T.domain_at m p.domain
      below = by (stays-or-edited f m e law p.domain s leaves)
        where
          by : Stays f m e law p.domain s ⊎ IsEdited f m e law p.domain → T.domain_at s p.domain ≡ T.domain_at m p.domain
          by (inl r) = r.2
          by (inr r) = absurd (false≢true (sym (unwritten e.cpu law.by.named claim) ∙ r.1))

      parts-given : parts_in e.moved ≡ partitions_of s p.domain
      parts-given = given ∙ (ap parts_or_none stands ∙ ap parts_or_none (sym below))

  by-todo : (todo : Todos) → p.todo ≡ todo → TableIs later s e.cpu
  by-todo [] at = idle-table at
  by-todo (Todo.show q rest ∷ todo) at = show-table q rest todo at
  by-todo (Todo.hold ∷ todo) at = hold-table todo at
  by-todo (Todo.read_claim None ∷ todo) at = claim-table todo at
  by-todo (Todo.read_claim (Some d) ∷ todo) at = move-table d todo at
  by-todo (Todo.read_done None ∷ todo) at = done-table todo at
  by-todo (Todo.read_done (Some d) ∷ todo) at = tail-table (Todo.read_done (Some d)) todo at refl refl refl refl tt (λ h. same-context (Todo.read_done (Some d)) todo at refl) refl refl
  by-todo (Todo.region_load ∷ todo) at = load-table todo at
  by-todo (Todo.drop x ∷ todo) at = drop-table x todo at
  by-todo (Todo.park ∷ todo) at = none-claimed (next-table f.image p e (Todo.park ∷ todo) at refl) (tail-claimed Todo.park todo at refl tt ∙ ap claimed (frame Todo.park todo at))
  by-todo (Todo.done ∷ todo) at = none-claimed (next-table f.image p e (Todo.done ∷ todo) at refl) (tail-claimed Todo.done todo at refl tt ∙ ap claimed (frame Todo.done todo at))
  by-todo (Todo.sleep ∷ todo) at = none-claimed (next-table f.image p e (Todo.sleep ∷ todo) at refl) (tail-claimed Todo.sleep todo at refl tt ∙ ap claimed (frame Todo.sleep todo at))
  by-todo (Todo.paid ∷ todo) at = none-claimed (next-table f.image p e (Todo.paid ∷ todo) at refl) (tail-claimed Todo.paid todo at refl tt ∙ ap claimed (frame Todo.paid todo at))
  by-todo (Todo.note site ∷ todo) at = note-table site todo at
  by-todo (q ∷ todo) at = tail-table q todo at refl refl refl refl tt (λ h. same-context q todo at refl) refl refl

  pub table-part : (k : ℕ) → k < f.cpus → TableIs later s k
  table-part k l = by (e.cpu == k) refl
    where
      by : (b : Bool) → (e.cpu == k) ≡ b → TableIs later s k
      by true q = subst (TableIs later s) (eqb-true e.cpu k q) (by-todo p.todo refl)
      by false q = other-table k l (ap (λ b. cond b (p_next f.image (f.processors k) e) (f.processors k)) q)
