-- What a step makes of the note of a thread's word: the thread notes a cell, answers or ends, or is started; or the note stays.
use Rattle.um_refinement.proofs.Words.{◌≡◌, ℕ, ◌<◌, Bool, true, false, [], ◌∷◌, Some, None, refl, sym, ap, ◌∙◌, if◌then◌else◌, eq-eqb, false≢true, true≢false, same-sound, THREADS, Pending, Steps, to_thread, State, FineAct, FineStep, More, Unseen, ThreadWord, thread_after, allows, same_site, Site, Todo, Todos, Fine, word}
use Rattle.um_base.specs.declared.names.Access.TheVariants as Access
use Rattle.um_machine.specs.State.{is_living}
use Rattle.um_refinement.proofs.EachUncut.{NotCut}
use Rattle.um_refinement.proofs.Erased.{around}
use Rattle.um_refinement.proofs.Leaves.{Beside, Lawful, Leaves, beside, cleans, cuts, drops, event, expires, leaves, nothing, passes, recycles, resumes, ticks, times_out}
use Rattle.um_refinement.proofs.NoteCells.{idle-plain, is_note, plain-act}
use Rattle.um_refinement.proofs.Offered.{IsStep, Shows, either-act, site-is}
use Rattle.um_refinement.proofs.Others.{starts_other}
use Rattle.um_refinement.proofs.SchedulerSteps.{made-says}
use Rattle.um_refinement.proofs.SleepFlags.{word-else, word-here}
use Rattle.um_refinement.proofs.WordsKept.{IsShown}

-- the steps that end a call, or a thread
abbrev pub is_final : Pending → Bool
is_final Pending.Exit = true
is_final Pending.Killed = true
is_final (Pending.Fatal reason cause) = true
is_final (Pending.Answer reply to) = true
is_final q = false

abbrev pub thread_of : Site → ℕ
thread_of (Site.thread u) = u
thread_of i = 0

-- the note that an unseen step leaves
unseen-note : (w : ThreadWord) (u : Unseen) → is_note (FineAct.Unseen u) ≡ false → (thread_after w (FineAct.Unseen u)).note ≡ w.note
unseen-note w Unseen.Hold h = refl
unseen-note w Unseen.LetGo h = refl
unseen-note w (Unseen.Note site) h = absurd (true≢false h)
unseen-note w u h = refl

module _ (f : Fine) (m : State) (e : FineStep) (law : Lawful f m e) (t : ℕ) (few : t < THREADS) where
  open around f e use {later, processor as p}

  pub data Noting : Type 0 where
    stays : (word later t).note ≡ (word f t).note → Noting
    notes : (site : ℕ) (todo : Todos) → p.todo ≡ Todo.note site ∷ todo → e.site ≡ Site.thread t → (word later t).note ≡ Some site → Noting
    finals : (q : Pending) (rest : Steps) (todo : Todos) → Shows f m e.cpu e q rest todo → is_final q ≡ true → p.context.thread ≡ t → (word later t).note ≡ None → Noting
    starts : (q : Pending) (rest : Steps) (todo : Todos) → Shows f m e.cpu e q rest todo → (starts_other t q → ⊥) → NotCut q → (word later t).note ≡ None → Noting

  -- an act that leaves the note of each word
  pub note-same : (act : FineAct) → e.act ≡ act → ((w : ThreadWord) → (thread_after w act).note ≡ w.note) → (word later t).note ≡ (word f t).note
  note-same act said same = by (same_site e.site (Site.thread t)) refl
    where
      by : (b : Bool) → same_site e.site (Site.thread t) ≡ b → (word later t).note ≡ (word f t).note
      by true on = ap (λ (w : ThreadWord). w.note) (word-here f m e law t few on) ∙ (ap (λ a. (thread_after (word f t) a).note) said ∙ same (word f t))
      by false off = ap (λ (w : ThreadWord). w.note) (word-else f m e law t few off)

  -- an act that leaves none, where it is of the word
  none-note : (act : FineAct) → e.act ≡ act → ((w : ThreadWord) → (thread_after w act).note ≡ None) → e.site ≡ Site.thread t → (word later t).note ≡ None
  none-note act said none at =
      ap (λ (w : ThreadWord). w.note) (word-here f m e law t few (ap (λ i. same_site i (Site.thread t)) at ∙ itself)) ∙ (ap (λ a. (thread_after (word f t) a).note) said ∙ none (word f t))
    where
      itself : same_site (Site.thread t) (Site.thread t) ≡ true
      itself = eq-eqb t t refl

  either-note : (b : Bool) (w z : ThreadWord) → z.note ≡ w.note → (if b then z else w).note ≡ w.note
  either-note true w z h = h
  either-note false w z h = refl

  pub final-note : (q : Pending) (rest : Steps) (todo : Todos) (x : ℕ) → Shows f m e.cpu e q rest todo → IsStep f m e.cpu e x q → is_final q ≡ true → p.context.thread ≡ t → (word later t).note ≡ None
  final-note Pending.Exit rest todo x h is fin same = none-note _ is.said (λ w. refl) (site-is h ∙ ap Site.thread same)
  final-note Pending.Killed rest todo x h is fin same = none-note _ is.said (λ w. refl) (site-is h ∙ ap Site.thread same)
  final-note (Pending.Fatal reason cause) rest todo x h is fin same = none-note _ is.said (λ w. refl) (site-is h ∙ ap Site.thread same)
  final-note (Pending.Answer reply to) rest todo x h is fin same = none-note _ is.said (λ w. refl) (site-is h ∙ ap Site.thread same)
  final-note q rest todo x h is fin same = absurd (false≢true fin)

  -- a step of another word
  elsewhere : same_site e.site (Site.thread t) ≡ false → Noting
  elsewhere off = stays (ap (λ (w : ThreadWord). w.note) (word-else f m e law t few off))

  final : (q : Pending) (rest : Steps) (todo : Todos) (x : ℕ) → Shows f m e.cpu e q rest todo → IsStep f m e.cpu e x q → is_final q ≡ true → e.site ≡ Site.thread p.context.thread → Noting
  final q rest todo x h is fin at = by (same_site e.site (Site.thread t)) refl
    where
      by : (b : Bool) → same_site e.site (Site.thread t) ≡ b → Noting
      by true on = let same : p.context.thread ≡ t = ap thread_of (sym at ∙ same-sound e.site (Site.thread t) on) in finals q rest todo h fin same (final-note q rest todo x h is fin same)
      by false off = elsewhere off

  by-event : (q : Pending) (rest : Steps) (todo : Todos) (x : ℕ) → Shows f m e.cpu e q rest todo → IsShown q → IsStep f m e.cpu e x q → Noting
  by-event Pending.Exit rest todo x h shown is = final Pending.Exit rest todo x h is refl (site-is h)
  by-event Pending.Killed rest todo x h shown is = final Pending.Killed rest todo x h is refl (site-is h)
  by-event (Pending.Fatal reason cause) rest todo x h shown is = final (Pending.Fatal reason cause) rest todo x h is refl (site-is h)
  by-event (Pending.Answer reply to) rest todo x h shown is = final (Pending.Answer reply to) rest todo x h is refl (site-is h)
  by-event (Pending.Start who script stack priority mode) rest todo x h shown is = by (same_site e.site (Site.thread t)) refl
    where
      by : (b : Bool) → same_site e.site (Site.thread t) ≡ b → Noting
      by true on =
          let at = same-sound e.site (Site.thread t) on in
          starts (Pending.Start who script stack priority mode) rest todo h (λ other. other (ap thread_of (sym (site-is h) ∙ at))) tt (none-note _ is.said (λ w. refl) at)
      by false off = elsewhere off
  by-event (Pending.Abort who) rest todo x h shown is = stays (note-same _ is.said (λ w. either-note (is_living w.life) w (record w { aborted = true }) refl))
  by-event (Pending.Suspend who) rest todo x h shown is = stays (note-same _ is.said (λ w. either-note (is_living w.life) w (record w { suspended = true }) refl))
  by-event (Pending.Continue who) rest todo x h shown is = stays (note-same _ is.said (λ w. either-note (is_living w.life) w (record w { suspended = false }) refl))
  by-event (Pending.Load to a n) rest todo x h shown is = stays (note-same _ is.said (λ w. either-act (λ act. (thread_after w (FineAct.Shown (record { thread = to_thread p.context.thread; act = act }) More.Nothing)).note) w.note (allows f.image p Access.Read a.0 n) _ _ refl refl))
  by-event (Pending.Store a n value) rest todo x h shown is = stays (note-same _ is.said (λ w. either-act (λ act. (thread_after w (FineAct.Shown (record { thread = to_thread p.context.thread; act = act }) More.Nothing)).note) w.note (allows f.image p Access.Write a.0 n) _ _ refl refl))
  by-event (Pending.Fetch a) rest todo x h shown is = stays (note-same _ is.said (λ w. either-act (λ act. (thread_after w (FineAct.Shown (record { thread = to_thread p.context.thread; act = act }) More.Nothing)).note) w.note (allows f.image p Access.Exec a.0 4) _ _ refl refl))
  by-event Pending.Resume rest todo x h shown is = absurd shown
  by-event (Pending.Inherit who) rest todo x h shown is = absurd shown
  by-event (Pending.Drops from) rest todo x h shown is = absurd shown
  by-event (Pending.CleanPair who) rest todo x h shown is = absurd shown
  by-event Pending.Recycle rest todo x h shown is = absurd shown
  by-event Pending.Left rest todo x h shown is = absurd shown
  by-event Pending.Tick rest todo x h shown is = absurd shown
  by-event (Pending.TimeOut who) rest todo x h shown is = absurd shown
  by-event Pending.Expire rest todo x h shown is = absurd shown
  by-event (Pending.Cut who) rest todo x h shown is = absurd shown
  by-event q rest todo x h shown is = stays (note-same _ is.said (λ w. refl))

  on-beside : (u x : ℕ) (q : Pending) → Beside f m e u x q → (word later t).note ≡ (word f t).note
  on-beside _ _ _ (cuts who site before x todo at place inside said) = note-same _ said (λ w. refl)
  on-beside _ _ _ (times_out deadline site x who todo at place inside said) = note-same _ said (λ w. refl)
  on-beside _ _ _ (expires deadline x todo at inside said) = note-same _ said (λ w. refl)
  on-beside _ _ _ (ticks at said) = note-same _ said (λ w. refl)
  on-beside _ _ _ (leaves todo at said) = note-same _ said (λ w. refl)

  unseen : (u : Unseen) → e.act ≡ FineAct.Unseen u → (todo : Todos) → p.todo ≡ todo → Noting
  unseen u said [] at = stays (note-same (FineAct.Unseen u) said (λ w. unseen-note w u (sym (ap is_note said) ∙ idle-plain f m e law at)))
  unseen u said (Todo.note site ∷ todo) at = by (same_site e.site (Site.thread t)) refl
    where
      by : (b : Bool) → same_site e.site (Site.thread t) ≡ b → Noting
      by true on =
          notes site todo at (same-sound e.site (Site.thread t) on)
          (ap (λ (w : ThreadWord). w.note) (word-here f m e law t few on) ∙ ap (λ a. (thread_after (word f t) a).note) (made-says f m e law (Todo.note site ∷ todo) at))
      by false off = elsewhere off
  unseen u said (q ∷ todo) at = stays (note-same (FineAct.Unseen u) said (λ w. unseen-note w u (sym (ap is_note said) ∙ plain-act f m e law q todo at refl)))

  pub noting : (s : State) → Leaves f m e s → Noting
  noting _ (nothing u said) = unseen u said p.todo refl
  noting _ (event q rest todo x h shown is) = by-event q rest todo x h shown is
  noting _ (resumes c told rest idle moved said) = stays (note-same _ said (λ w. refl))
  noting _ (passes who x rest todo h said) = stays (note-same _ said (λ w. refl))
  noting _ (drops from x rest todo h said) = stays (note-same _ said (λ w. refl))
  noting _ (cleans who x rest todo h said) = stays (note-same _ said (λ w. refl))
  noting _ (recycles x rest todo at l said chosen) = stays (note-same _ said (λ w. refl))
  noting _ (beside u x q how chosen started) = stays (on-beside u x q how)
