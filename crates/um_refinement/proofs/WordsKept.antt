-- The words of threads say what the machine's threads are after each event of a pending step, where the relation holds before it.
use Rattle.um_refinement.proofs.Words.{Change, Effect, Next, Way, [], is_living, to_thread, went, wrote, ◌≡◌, ℕ, ◌<◌, Bool, true, false, cond, List, ◌∷◌, length, Option, Some, None, refl, sym, ap, ◌∙◌, subst, ◌==◌, ◌&&◌, not, if◌then◌else◌, slice_index_or, slice_set, list_any, eqb-false, eqb-true, Act, Cause, Event, Image, THREADS, Mode, Reply, Row, ThreadIx, Partitions, Pending, Thread, Steps, State, nobody, thread_at, FineAct, More, ThreadWord, thread_after_act, act_in, FineStep, Site, SiteState, s_next, same_site, site_after, Todo, Todos, Processor, fails, allows, more_of, says_step, shows, Fine, thread_state, word, has_held, is_hold, is_let_go, moving, behind_shown, WordIs, Rel, bytes-leave, ℤ}
use Rattle.um_base.specs.declared.names.Access.TheVariants as Access
use Rattle.um_machine.specs.declared.thread.Life.TheVariants as Life
use Rattle.um_machine.specs.Table as T
use Rattle.um_machine.specs.Writes.{Flag, flagged, only}
use Rattle.um_words.specs.Threads as W
use Rattle.um_refinement.proofs.Erased.{stepped}
use Rattle.um_refinement.proofs.Offered.{Shows, act-is, behind-is, at-made, own-part, site-is, either-act}
use Rattle.um_refinement.proofs.RowSteps.{thread-sort}
use Rattle.um_refinement.proofs.ThreadLists.{at-here, paired-same, read-set, set-else}
use Rattle.um_refinement.proofs.Writes.{Keeping, Makes, Part, Said, after-kept, said_of, words, after_saying}

abbrev pub word_says : ThreadWord → Said
word_says w = record { life = w.life; doomed = w.doomed; mode = w.mode; domain = w.domain; aborted = w.aborted; suspended = w.suspended }

-- all that a step may write but the words of threads
abbrev pub NoWords : Part → Bool
NoWords words = false
NoWords part = true

-- The access-matrix machine.

-- a thread that is written says this, and the others what they said
set-said : (xs : List Thread) (v u : ℕ) (th : Thread) → u < length xs
    → said_of (slice_index_or (slice_set xs v th) u nobody) ≡ (if v == u then said_of th else said_of (slice_index_or xs u nobody))
set-said xs v u th l = by (v == u) refl
  where
    by : (b : Bool) → (v == u) ≡ b → said_of (slice_index_or (slice_set xs v th) u nobody) ≡ (if v == u then said_of th else said_of (slice_index_or xs u nobody))
    by true q =
        ap (λ n. said_of (slice_index_or (slice_set xs n th) u nobody)) (eqb-true v u q)
        ∙ (ap said_of (at-here xs u th l) ∙ sym (ap (λ c. if c then said_of th else said_of (slice_index_or xs u nobody)) q))
    by false q = ap said_of (set-else xs v u th (eqb-false v u q)) ∙ sym (ap (λ c. if c then said_of th else said_of (slice_index_or xs u nobody)) q)

module _ (m : State) (u : ℕ) where
  abbrev SaysSame : State → Type 0
  SaysSame s = said_of (thread_at s u) ≡ said_of (thread_at m u)

  says-keeping : Keeping NoWords SaysSame
  says-keeping =
      record {
        own = λ s v th e k. read-set said_of nobody s.threads v u th e ∙ k;
        word = λ may s v th k. absurd may;
        object = λ may s x o e q k. k;
        status = λ may s x o e k. k;
        birth = λ may s x o k. k;
        pair = λ may s v x there k. paired-same said_of (λ me due. refl) s v x there u ∙ k;
        bytes = λ may s a bs k. bytes-leave (λ (z : State). said_of (thread_at z u)) (λ z bytes. refl) (λ z bytes. refl) s a bs ∙ k;
        pool = λ may s left k. k;
        parts = λ may s d ps k. k;
        queue = λ may s joins futexes k. k;
        clock = λ may s now armed k. k;
      }

  -- what a thread is changes by none of these steps
  pub says-kept : (t x : ℕ) (q : Pending) (rest : Steps) → Makes NoWords q → SaysSame (T.after m t x q rest)
  says-kept t x q rest h = after-kept NoWords SaysSame says-keeping m t refl x q rest h

-- The fine machine.

-- the steps that are shown as such: a resumed call, visits, and cleaning have places of their own
abbrev pub IsShown : Pending → Type 0
IsShown Pending.Resume = ⊥
IsShown (Pending.Inherit who) = ⊥
IsShown (Pending.Drops from) = ⊥
IsShown (Pending.CleanPair who) = ⊥
IsShown Pending.Recycle = ⊥
IsShown Pending.Left = ⊥
IsShown Pending.Tick = ⊥
IsShown (Pending.TimeOut who) = ⊥
IsShown Pending.Expire = ⊥
IsShown (Pending.Cut who) = ⊥
IsShown q = Unit {0}

act-same : (image : Image) (p : Processor) (w : ThreadWord) (more : More) (q : Pending) (act : Act) → IsShown q → Makes NoWords q
    → word_says (thread_after_act w more (says_step image p q act)) ≡ word_says w
act-same image p w more Pending.Exit act shown h = absurd h
act-same image p w more Pending.Killed act shown h = absurd h
act-same image p w more (Pending.Abort who) act shown h = absurd h
act-same image p w more (Pending.Suspend who) act shown h = absurd h
act-same image p w more (Pending.Continue who) act shown h = absurd h
act-same image p w more (Pending.Load to a n) act shown h = either-act (λ z. word_says (thread_after_act w more z)) _ (allows image p Access.Read a.0 n) _ _ refl refl
act-same image p w more (Pending.Store a n value) act shown h = either-act (λ z. word_says (thread_after_act w more z)) _ (allows image p Access.Write a.0 n) _ _ refl refl
act-same image p w more (Pending.Fetch a) act shown h = either-act (λ z. word_says (thread_after_act w more z)) _ (allows image p Access.Exec a.0 4) _ _ refl refl
act-same image p w more (Pending.DomMove d who) act shown h = absurd h
act-same image p w more (Pending.Start who script stack priority mode) act shown h = absurd h
act-same image p w more (Pending.EnterUser script) act shown h = absurd h
act-same image p w more (Pending.Fatal reason cause) act shown h = absurd h
act-same image p w more (Pending.Dooms from) act shown h = absurd h
act-same image p w more Pending.Resume act shown h = absurd shown
act-same image p w more (Pending.Inherit who) act shown h = absurd shown
act-same image p w more (Pending.Drops from) act shown h = absurd shown
act-same image p w more (Pending.CleanPair who) act shown h = absurd shown
act-same image p w more Pending.Recycle act shown h = absurd shown
act-same image p w more Pending.Left act shown h = absurd shown
act-same image p w more Pending.Tick act shown h = absurd shown
act-same image p w more (Pending.TimeOut who) act shown h = absurd shown
act-same image p w more Pending.Expire act shown h = absurd shown
act-same image p w more (Pending.Cut who) act shown h = absurd shown
act-same image p w more q act shown h = refl

module _ (f : Fine) (m : State) (rel : Rel f m) (e : FineStep) (event : Event) (more : More) (said : e.act ≡ FineAct.Shown event more) where
  says-so : (u : ℕ) → u < THREADS → word_says (word f u) ≡ said_of (thread_at m u)
  says-so u l =
      let w = (rel.threads u l).word in
      λ i. record { life = w.life i; doomed = w.doomed i; mode = w.mode i; domain = w.domain i; aborted = w.aborted i; suspended = w.suspended i }

  words-so : (s : State) (u : ℕ) → word_says (word (stepped f.image f.cpus f.processors f.sites e) u) ≡ said_of (thread_at s u) → WordIs (stepped f.image f.cpus f.processors f.sites e) s u
  words-so s u same =
      record {
        life = ap (λ (z : Said). z.life) same;
        doomed = ap (λ (z : Said). z.doomed) same;
        mode = ap (λ (z : Said). z.mode) same;
        domain = ap (λ (z : Said). z.domain) same;
        aborted = ap (λ (z : Said). z.aborted) same;
        suspended = ap (λ (z : Said). z.suspended) same;
      }

  -- the word of a thread after the step, where the step is made there
  word-after : (u : ℕ) → word_says (thread_state (s_next f.image (f.sites (Site.thread u)) e)) ≡ word_says (thread_after_act (word f u) more event.act)
  word-after u =
      ap (λ (s : SiteState). word_says (thread_state (site_after f.image s e.act e.moved))) (thread-sort u (f.sites (Site.thread u)) (rel.sorts (Site.thread u)))
      ∙ ap (λ act. word_says (thread_state (site_after f.image (SiteState.thread (word f u)) act e.moved))) said

  -- a step that says nothing new of any thread
  pub words-still : (s : State) (u : ℕ) → u < THREADS → word_says (thread_after_act (word f u) more event.act) ≡ word_says (word f u)
      → said_of (thread_at s u) ≡ said_of (thread_at m u) → WordIs (stepped f.image f.cpus f.processors f.sites e) s u
  words-still s u l same below =
      words-so s u
      (elim (same_site e.site (Site.thread u)) as (λ b. word_says (thread_state (cond b (s_next f.image (f.sites (Site.thread u)) e) (f.sites (Site.thread u)))) ≡ word_says (word f u)) [
        | true ↦ word-after u ∙ same
        | false ↦ refl
      ]
      ∙ (says-so u l ∙ sym below))

  -- a step on the word of a thread that says this of it then
  pub words-set : (s : State) (v u : ℕ) (now : Said) → u < THREADS → e.site ≡ Site.thread v → (v ≡ u → word_says (thread_after_act (word f u) more event.act) ≡ now)
      → said_of (thread_at s u) ≡ (if v == u then now else said_of (thread_at m u)) → WordIs (stepped f.image f.cpus f.processors f.sites e) s u
  words-set s v u now l site same below = words-so s u (by (v == u) refl ∙ sym below)
    where
      by : (b : Bool) → (v == u) ≡ b → word_says (word (stepped f.image f.cpus f.processors f.sites e) u) ≡ (if v == u then now else said_of (thread_at m u))
      by true q =
          ap (λ c. word_says (thread_state (cond c (s_next f.image (f.sites (Site.thread u)) e) (f.sites (Site.thread u))))) (ap (λ i. same_site i (Site.thread u)) site ∙ q)
          ∙ (word-after u ∙ (same (eqb-true v u q) ∙ sym (ap (λ c. if c then now else said_of (thread_at m u)) q)))
      by false q =
          ap (λ c. word_says (thread_state (cond c (s_next f.image (f.sites (Site.thread u)) e) (f.sites (Site.thread u))))) (ap (λ i. same_site i (Site.thread u)) site ∙ q)
          ∙ (says-so u l ∙ sym (ap (λ c. if c then now else said_of (thread_at m u)) q))

  -- the same, by what it makes of what the word said
  pub words-put : (s : State) (v u : ℕ) (makes : Said → Said) → u < THREADS → e.site ≡ Site.thread v
      → ((w : ThreadWord) → word_says (thread_after_act w more event.act) ≡ makes (word_says w))
      → said_of (thread_at s u) ≡ (if v == u then makes (said_of (thread_at m v)) else said_of (thread_at m u)) → WordIs (stepped f.image f.cpus f.processors f.sites e) s u
  words-put s v u makes l site same below =
      words-set s v u (makes (said_of (thread_at m v))) l site
      (λ q. same (word f u) ∙ ap makes (says-so u l ∙ ap (λ n. said_of (thread_at m n)) (sym q))) below

  -- a step that is made on the word of a domain
  pub words-elsewhere : (s : State) (d u : ℕ) → u < THREADS → e.site ≡ Site.domain d → said_of (thread_at s u) ≡ said_of (thread_at m u)
      → WordIs (stepped f.image f.cpus f.processors f.sites e) s u
  words-elsewhere s d u l site below =
      words-so s u
      (ap (λ i. word_says (thread_state (cond (same_site i (Site.thread u)) (s_next f.image (f.sites (Site.thread u)) e) (f.sites (Site.thread u))))) site
      ∙ (says-so u l ∙ sym below))

  -- an event that has a place of its own: a resumed call, a visit, the end of a cleaning
  pub words-beside : (q : Pending) (rest : Steps) (t x u : ℕ) → u < THREADS → ((w : ThreadWord) → word_says (thread_after_act w more event.act) ≡ word_says w)
      → Makes NoWords q → WordIs (stepped f.image f.cpus f.processors f.sites e) (T.after m t x q rest) u
  words-beside q rest t x u l same makes = words-still (T.after m t x q rest) u l (same (word f u)) (says-kept m u t x q rest makes)

module _ {f : Fine} {m : State} {k : ℕ} {e : FineStep} {q : Pending} {rest : Steps} {todo : Todos} (h : Shows f m k e q rest todo) where
  -- an event of a pending step that doesn't write the words of threads
  pub words-kept : (x u : ℕ) → u < THREADS → e.act ≡ shows f.image (f.processors k) q e.act → IsShown q → Makes NoWords q
      → WordIs (stepped f.image f.cpus f.processors f.sites e) (T.after m (f.processors k).context.thread x q rest) u
  words-kept x u l said shown makes =
      words-still f m h.rel e _ (more_of f.image (f.processors k) q) said (T.after m (f.processors k).context.thread x q rest) u l
      (act-same f.image (f.processors k) (word f u) (more_of f.image (f.processors k) q) q (act_in e.act) shown makes)
      (says-kept m u (f.processors k).context.thread x q rest makes)

-- The events that write the words of threads.

-- a flag, which only a thread that lives gets
abbrev flag_said : Flag → Said → Said
flag_said Flag.aborted z = record z { aborted = true }
flag_said (Flag.suspended on) z = record z { suspended = on }

abbrev flag_if : Flag → Said → Said
flag_if flag z = if is_living z.life then flag_said flag z else z

said-flag : (flag : Flag) (me : Thread) → said_of (flagged flag me) ≡ flag_said flag (said_of me)
said-flag Flag.aborted me = refl
said-flag (Flag.suspended on) me = refl

word-flag : (flag : Flag) (w z : ThreadWord) → word_says z ≡ flag_said flag (word_says w) → word_says (W.flagged w z) ≡ flag_if flag (word_says w)
word-flag flag w z e =
    elim (is_living w.life) as (λ b. word_says (if b then z else w) ≡ (if b then flag_said flag (word_says w) else word_says w)) [ true ↦ e | false ↦ refl ]

is-thread : (m : State) (u : ℕ) → length m.threads ≡ THREADS → u < THREADS → u < length m.threads
is-thread m u long l = subst (λ n. u < n) (sym long) l

module _ {f : Fine} {m : State} {k : ℕ} {e : FineStep} {rest : Steps} {todo : Todos} (long : length m.threads ≡ THREADS) (x u : ℕ) (l : u < THREADS) where
  pub exit-words : Shows f m k e Pending.Exit rest todo → WordIs (stepped f.image f.cpus f.processors f.sites e) (T.after m (f.processors k).context.thread x Pending.Exit rest) u
  exit-words h =
      let t = (f.processors k).context.thread in
      words-put f m h.rel e _ More.Nothing (act-is h) (T.after m t x Pending.Exit rest) t u (λ z. record z { life = Life.Ended }) l (site-is h) (λ w. refl)
      (set-said m.threads t u _ (is-thread m u long l))

  pub killed-words : Shows f m k e Pending.Killed rest todo → WordIs (stepped f.image f.cpus f.processors f.sites e) (T.after m (f.processors k).context.thread x Pending.Killed rest) u
  killed-words h =
      let t = (f.processors k).context.thread in
      words-put f m h.rel e _ More.Nothing (act-is h) (T.after m t x Pending.Killed rest) t u (λ z. record z { life = Life.Ended }) l (site-is h) (λ w. refl)
      (set-said m.threads t u _ (is-thread m u long l))

  pub fatal-words : (reason : ℕ) (cause : Cause) → Shows f m k e (Pending.Fatal reason cause) rest todo
      → WordIs (stepped f.image f.cpus f.processors f.sites e) (T.after m (f.processors k).context.thread x (Pending.Fatal reason cause) rest) u
  fatal-words reason cause h =
      let t = (f.processors k).context.thread in
      words-put f m h.rel e _ More.Nothing (act-is h) (T.after m t x (Pending.Fatal reason cause) rest) t u (λ z. record z { life = Life.Ended }) l (site-is h) (λ w. refl)
      (set-said m.threads t u _ (is-thread m u long l))

  pub user-words : (script : ℕ) → Shows f m k e (Pending.EnterUser script) rest todo
      → WordIs (stepped f.image f.cpus f.processors f.sites e) (T.after m (f.processors k).context.thread x (Pending.EnterUser script) rest) u
  user-words script h =
      let t = (f.processors k).context.thread in
      words-put f m h.rel e _ More.Nothing (act-is h) (T.after m t x (Pending.EnterUser script) rest) t u (λ z. record z { mode = Mode.User }) l (site-is h) (λ w. refl)
      (set-said m.threads t u _ (is-thread m u long l))

  pub doom-words : (from : ℕ) → Shows f m k e (Pending.Dooms from) rest todo
      → WordIs (stepped f.image f.cpus f.processors f.sites e) (T.after m (f.processors k).context.thread x (Pending.Dooms from) rest) u
  doom-words from h =
      let t = (f.processors k).context.thread in
      let th = record (thread_at m from) { doomed = true } in
      words-put f m h.rel e _ More.Nothing (act-is h) (T.after m t x (Pending.Dooms from) rest) from u (λ z. record z { doomed = true }) l (site-is h) (λ w. refl)
      (read-set said_of nobody (slice_set m.threads from th) t u _ refl ∙ set-said m.threads from u th (is-thread m u long l))

  pub start-words : (who : ThreadIx) (script : ℕ) (stack : Row) (priority : ℤ) (mode : Mode) → Shows f m k e (Pending.Start who script stack priority mode) rest todo
      → WordIs (stepped f.image f.cpus f.processors f.sites e) (T.after m (f.processors k).context.thread x (Pending.Start who script stack priority mode) rest) u
  start-words who script stack priority mode h =
      let p = f.processors k in
      let t = p.context.thread in
      let q = Pending.Start who script stack priority mode in
      let th = T.newborn m (thread_at m t) who.0 script q in
      let list : p.todo ≡ Todo.show q rest ∷ behind_shown f.image p.context q = at-made h tt ∙ ap (λ (z : Todos). Todo.show q rest ∷ z) (behind-is h) in
      let held : has_held p ≡ true = ap (λ (z : Todos). list_any is_let_go z && not (list_any is_hold z)) list in
      let domain : p.domain ≡ (thread_at m t).domain = (h.rel.processors k h.there).domain.kept held ∙ (h.rel.threads t (own-part h).index).word.domain in
      let says : Said → ℕ → Said = λ z d. record z { life = Life.Living; mode = mode; domain = d; aborted = false; suspended = false } in
      words-put f m h.rel e _ (More.Starts mode p.domain) (act-is h) (T.after m t x q rest) who.0 u (λ z. says z p.domain) l (site-is h) (λ w. refl)
      (read-set said_of nobody (slice_set m.threads who.0 th) t u _ refl
      ∙ (set-said m.threads who.0 u th (is-thread m u long l)
      ∙ ap (λ d. if who.0 == u then says (said_of (thread_at m who.0)) d else said_of (thread_at m u)) (sym domain)))

  pub move-words : (d : ℕ) (who : ThreadIx) → Shows f m k e (Pending.DomMove d who) rest todo
      → WordIs (stepped f.image f.cpus f.processors f.sites e) (T.after m (f.processors k).context.thread x (Pending.DomMove d who) rest) u
  move-words d who h = by (T.domain_at m d) refl
    where
      t : ℕ
      t = (f.processors k).context.thread

      site-by : (reply : Reply) → (f.processors k).reply ≡ reply → e.site ≡ (if fails reply then Site.domain d else Site.thread who.0)
      site-by reply q = site-is h ∙ ap (λ z. if fails z then Site.domain d else Site.thread who.0) q

      reply-is : (parts : Option Partitions) → T.domain_at m d ≡ parts → (f.processors k).reply ≡ T.move_reply parts
      reply-is parts q = (h.rel.processors k h.there).looks.reply d (ap moving (at-made h tt)) ∙ ap T.move_reply q

      after-by : Option Partitions → State
      after-by parts = after_saying m (f.processors k).context.thread x (Pending.DomMove d who) (Act.DomMove d who (T.move_reply parts)) rest

      with-parts : (parts : Option Partitions) → T.domain_at m d ≡ parts → WordIs (stepped f.image f.cpus f.processors f.sites e) (after-by parts) u
      with-parts None q =
          words-elsewhere f m h.rel e _ More.Nothing (act-is h) (after-by None) d u l (site-by (T.move_reply None) (reply-is None q)) (read-set said_of nobody m.threads (f.processors k).context.thread u _ refl)
      with-parts (Some parts) q =
          let th = record (thread_at m who.0) { domain = d } in
          words-put f m h.rel e _ More.Nothing (act-is h) (after-by (Some parts)) who.0 u (λ z. record z { domain = d }) l (site-by (T.move_reply (Some parts)) (reply-is (Some parts) q)) (λ w. refl)
          (read-set said_of nobody (slice_set m.threads who.0 th) (f.processors k).context.thread u _ refl ∙ set-said m.threads who.0 u th (is-thread m u long l))

      by : (parts : Option Partitions) → T.domain_at m d ≡ parts → WordIs (stepped f.image f.cpus f.processors f.sites e) (T.after m (f.processors k).context.thread x (Pending.DomMove d who) rest) u
      by parts q = subst (λ (s : State). WordIs (stepped f.image f.cpus f.processors f.sites e) s u) (ap after-by (sym q)) (with-parts parts q)

-- A flag of a thread.
module _ {f : Fine} {m : State} {k : ℕ} {e : FineStep} {rest : Steps} {todo : Todos} (long : length m.threads ≡ THREADS) (u : ℕ) (l : u < THREADS) where
  flag-words : (q : Pending) (who : ThreadIx) (flag : Flag) (act : Act) → Shows f m k e q rest todo
      → e.act ≡ FineAct.Shown (record { thread = to_thread (f.processors k).context.thread; act = act }) More.Nothing → e.site ≡ Site.thread who.0
      → ((w : ThreadWord) → word_says (thread_after_act w More.Nothing act) ≡ flag_if flag (word_says w))
      → (b : Bool) → is_living (thread_at m who.0).life ≡ b
      → WordIs (stepped f.image f.cpus f.processors f.sites e) (went rest (wrote (only b (Effect.flags who.0 flag) ∷ []) m) (f.processors k).context.thread (Next.on Change.nothing Way.rest)) u
  flag-words q who flag act h said site after true lives =
      let t = (f.processors k).context.thread in
      let me = thread_at m who.0 in
      let th = flagged flag me in
      let same : said_of th ≡ flag_if flag (said_of me) = said-flag flag me ∙ sym (ap (λ b. if b then flag_said flag (said_of me) else said_of me) lives) in
      words-put f m h.rel e _ More.Nothing said (went rest (wrote (only true (Effect.flags who.0 flag) ∷ []) m) t (Next.on Change.nothing Way.rest)) who.0 u (flag_if flag) l site after
      (read-set said_of nobody (slice_set m.threads who.0 th) t u _ refl
      ∙ (set-said m.threads who.0 u th (is-thread m u long l) ∙ ap (λ z. if who.0 == u then z else said_of (thread_at m u)) same))
  flag-words q who flag act h said site after false dead =
      let t = (f.processors k).context.thread in
      words-put f m h.rel e _ More.Nothing said (went rest (wrote (only false (Effect.flags who.0 flag) ∷ []) m) t (Next.on Change.nothing Way.rest)) who.0 u (flag_if flag) l site after
      (read-set said_of nobody m.threads t u _ refl ∙ stays (who.0 == u) refl)
    where
      unflagged : flag_if flag (said_of (thread_at m who.0)) ≡ said_of (thread_at m who.0)
      unflagged = ap (λ b. if b then flag_said flag (said_of (thread_at m who.0)) else said_of (thread_at m who.0)) dead

      stays : (b : Bool) → (who.0 == u) ≡ b → said_of (thread_at m u) ≡ (if who.0 == u then flag_if flag (said_of (thread_at m who.0)) else said_of (thread_at m u))
      stays true q =
          ap (λ n. said_of (thread_at m n)) (sym (eqb-true who.0 u q)) ∙ (sym unflagged ∙ sym (ap (λ c. if c then flag_if flag (said_of (thread_at m who.0)) else said_of (thread_at m u)) q))
      stays false q = sym (ap (λ c. if c then flag_if flag (said_of (thread_at m who.0)) else said_of (thread_at m u)) q)

  pub abort-words : (x : ℕ) (who : ThreadIx) → Shows f m k e (Pending.Abort who) rest todo
      → WordIs (stepped f.image f.cpus f.processors f.sites e) (T.after m (f.processors k).context.thread x (Pending.Abort who) rest) u
  abort-words x who h =
      flag-words (Pending.Abort who) who Flag.aborted _ h (act-is h) (site-is h) (λ w. word-flag Flag.aborted w (record w { aborted = true }) refl) (is_living (thread_at m who.0).life) refl

  pub suspend-words : (x : ℕ) (who : ThreadIx) → Shows f m k e (Pending.Suspend who) rest todo
      → WordIs (stepped f.image f.cpus f.processors f.sites e) (T.after m (f.processors k).context.thread x (Pending.Suspend who) rest) u
  suspend-words x who h =
      flag-words (Pending.Suspend who) who (Flag.suspended true) _ h (act-is h) (site-is h) (λ w. word-flag (Flag.suspended true) w (record w { suspended = true }) refl)
      (is_living (thread_at m who.0).life) refl

  pub continue-words : (x : ℕ) (who : ThreadIx) → Shows f m k e (Pending.Continue who) rest todo
      → WordIs (stepped f.image f.cpus f.processors f.sites e) (T.after m (f.processors k).context.thread x (Pending.Continue who) rest) u
  continue-words x who h =
      flag-words (Pending.Continue who) who (Flag.suspended false) _ h (act-is h) (site-is h) (λ w. word-flag (Flag.suspended false) w (record w { suspended = false }) refl)
      (is_living (thread_at m who.0).life) refl
