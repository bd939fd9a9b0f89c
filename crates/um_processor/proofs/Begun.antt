-- A thread at rest that begins a line, or ends, unless it is stopped.
use Rattle.std.proofs.Common.{◌≡◌, ℕ, ◌+◌, Bool, true, false, List, [], not, refl, sym, subst, ap, ◌∙◌}
use Rattle.std.specs.Prelude.{◌&&◌, ◌||◌, if◌then◌else◌, is_some}
use Rattle.std.proofs.lemmas.Bool.{false≢true}
use Rattle.um_base.specs.declared.act.Act.{Act}
use Rattle.um_base.specs.declared.image.Image.{Image}
use Rattle.um_machine.specs.Order.{end_steps, to_thread}
use Rattle.um_machine.specs.State.{instruction_at}
use Rattle.um_words.specs.declared.fine.More.{More}
use Rattle.um_words.specs.declared.thread_act.ThreadAct.{ThreadAct}
use Rattle.um_words.specs.declared.thread_word.ThreadWord.{ThreadWord}
use Rattle.um_words.specs.Threads.{counted_thread, thread_after}
use Rattle.um_fine.specs.Answers.{thread_in}
use Rattle.um_fine.specs.Context.{Context, as_thread}
use Rattle.um_fine.specs.Continues.{begun, ends_with}
use Rattle.um_fine.specs.Places.{put_away}
use Rattle.um_fine.specs.Processor.{Processor}
use Rattle.um_fine.specs.Steps.{Exchange, FineStep, Site, Word}
use Rattle.um_fine.specs.Threads.{unless_stopped}
use Rattle.um_tables.specs.Asked.{by_thread}
use Rattle.um_tables.specs.ThreadActs.{thread_made}
use Rattle.um_processor.specs.declared.phase.Phase.{Phase}
use Rattle.um_processor.specs.declared.running.Running.{Running}
use Rattle.um_processor.specs.Events.{left_behind, resting_by, rests_by, with_ends}
use Rattle.um_processor.specs.Processors.{Goes, in_phase, processor_of}
use Rattle.um_processor.proofs.Lifted.{goes-as}

module _ (image : Image) (cpu : ℕ) (r : Running) (w : ThreadWord) where
  abbrev own : Context
  own = r.context.value

  abbrev made : Act → Bool → Bool → Bool → FineStep
  made act d a s =
      let said = unless_stopped d a s (by_thread (to_thread own.thread) act) More.Nothing in
      record { cpu = cpu; site = Site.thread own.thread; act = said; word = Word.thread (counted_thread (thread_after w said)); moved = Exchange.nothing }

  -- it ends, and its call's claims are to end
  abbrev pub ended : Processor
  ended = with_ends own.claims (left_behind image [] (ends_with image own (end_steps image own.thread (as_thread own))) own.thread r)

  -- after a begin, and after an exit, by whether the thread is doomed, aborted, suspended
  abbrev pub after_begin : Bool → Bool → Bool → Processor
  after_begin true a s = processor_of (record r { phase = Phase.Done })
  after_begin false true s = ended
  after_begin false false true = processor_of (record r { phase = Phase.Sleep })
  after_begin false false false = left_behind image [] (begun image own (instruction_at image own.place)) own.thread r

  abbrev pub after_exit : Bool → Bool → Bool → Processor
  after_exit true a s = processor_of (record r { phase = Phase.Done })
  after_exit false true s = ended
  after_exit false false true = processor_of (record r { phase = Phase.Sleep })
  after_exit false false false = ended

  begins-by : (d a s : Bool) → w.doomed ≡ d → w.aborted ≡ a → w.suspended ≡ s → is_some (instruction_at image own.place) ≡ true
      → Goes cpu image (in_phase Phase.Begin r) (made (Act.Begin own.place.script (own.place.line + 1)) d a s) (after_begin d a s)
  begins-by true a s hd ha hs line =
      record {
        asks = record { maker = refl; makes = refl; fit = λ i. ((hd i || (w.suspended && not w.aborted)) && line i) && true };
        next = ap (λ (b : Bool). record (in_phase Phase.Begin r) { todo = put_away b }) (sym hd);
      }
  begins-by false true s hd ha hs line = record { asks = record { maker = refl; makes = refl; fit = λ i. (not (hd i) && line i) && ha i }; next = refl }
  begins-by false false true hd ha hs line =
      record {
        asks = record { maker = refl; makes = refl; fit = λ i. ((hd i || (hs i && not (ha i))) && line i) && true };
        next = ap (λ (b : Bool). record (in_phase Phase.Begin r) { todo = put_away b }) (sym hd);
      }
  begins-by false false false hd ha hs line = record { asks = record { maker = refl; makes = refl; fit = λ i. line i && true }; next = refl }

  ends-by : (d a s : Bool) → w.doomed ≡ d → w.aborted ≡ a → w.suspended ≡ s → Goes cpu image (in_phase Phase.Exit r) (made Act.Exit d a s) (after_exit d a s)
  ends-by true a s hd ha hs =
      record {
        asks = record { maker = refl; makes = refl; fit = λ i. ((hd i || (w.suspended && not w.aborted)) && true) && true };
        next = ap (λ (b : Bool). record (in_phase Phase.Exit r) { todo = put_away b }) (sym hd);
      }
  ends-by false true s hd ha hs = record { asks = record { maker = refl; makes = refl; fit = λ i. (not (hd i) && true) && ha i }; next = refl }
  ends-by false false true hd ha hs =
      record {
        asks = record { maker = refl; makes = refl; fit = λ i. ((hd i || (hs i && not (ha i))) && true) && true };
        next = ap (λ (b : Bool). record (in_phase Phase.Exit r) { todo = put_away b }) (sym hd);
      }
  ends-by false false false hd ha hs = record { asks = record { maker = refl; makes = refl; fit = refl }; next = refl }

  pub begins-goes : (t script line : ℕ) → t ≡ own.thread → script ≡ own.place.script → line ≡ own.place.line + 1 → is_some (instruction_at image own.place) ≡ true
      → Goes cpu image (in_phase Phase.Begin r) (thread_made image cpu t w (ThreadAct.Begin (to_thread t) script line)) (after_begin w.doomed w.aborted w.suspended)
  begins-goes t script line et es el there =
      subst (λ (q : ℕ × ℕ × ℕ). Goes cpu image (in_phase Phase.Begin r) (thread_made image cpu q.0 w (ThreadAct.Begin (to_thread q.0) q.1 q.2)) (after_begin w.doomed w.aborted w.suspended))
      (λ i. (sym et i, sym es i, sym el i))
      (begins-by w.doomed w.aborted w.suspended refl refl refl there)

  pub exits-goes : (t : ℕ) → t ≡ own.thread
      → Goes cpu image (in_phase Phase.Exit r) (thread_made image cpu t w (ThreadAct.Exit (to_thread t))) (after_exit w.doomed w.aborted w.suspended)
  exits-goes t et =
      subst (λ (q : ℕ). Goes cpu image (in_phase Phase.Exit r) (thread_made image cpu q w (ThreadAct.Exit (to_thread q))) (after_exit w.doomed w.aborted w.suspended)) (sym et)
      (ends-by w.doomed w.aborted w.suspended refl refl refl)

  -- the word that is left shows the same of the thread
  abbrev Shows : ThreadWord → Type 0
  Shows v = (v.doomed ≡ w.doomed) × (v.aborted ≡ w.aborted) × (v.suspended ≡ w.suspended)

  same-by : (script line : ℕ) (d a s : Bool) → Shows (thread_in (made (Act.Begin script line) d a s).word)
  same-by script line true a s = (refl, refl, refl)
  same-by script line false true s = (refl, refl, refl)
  same-by script line false false true = (refl, refl, refl)
  same-by script line false false false = (refl, refl, refl)

  pub same-begin : (t script line : ℕ) → t ≡ own.thread → Shows (thread_in (thread_made image cpu t w (ThreadAct.Begin (to_thread t) script line)).word)
  same-begin t script line et =
      subst (λ (q : ℕ). Shows (thread_in (thread_made image cpu q w (ThreadAct.Begin (to_thread q) script line)).word)) (sym et) (same-by script line w.doomed w.aborted w.suspended)

  same-ends : (d a s : Bool) → Shows (thread_in (made Act.Exit d a s).word)
  same-ends true a s = (refl, refl, refl)
  same-ends false true s = (refl, refl, refl)
  same-ends false false true = (refl, refl, refl)
  same-ends false false false = (refl, refl, refl)

  pub same-exit : (t : ℕ) → t ≡ own.thread → Shows (thread_in (thread_made image cpu t w (ThreadAct.Exit (to_thread t))).word)
  same-exit t et =
      subst (λ (q : ℕ). Shows (thread_in (thread_made image cpu q w (ThreadAct.Exit (to_thread q))).word)) (sym et) (same-ends w.doomed w.aborted w.suspended)

  -- where it goes on no further
  pub rests-begin : (d a s : Bool) → (d || (s && not a)) ≡ true
      → after_begin d a s ≡ processor_of (if d then record r { phase = Phase.Done } else if s && not a then record r { phase = Phase.Sleep } else r)
  rests-begin true a s h = refl
  rests-begin false true true h = absurd (false≢true h)
  rests-begin false true false h = absurd (false≢true h)
  rests-begin false false true h = refl
  rests-begin false false false h = absurd (false≢true h)

  pub rests-exit : (d a s : Bool) → (d || (s && not a)) ≡ true
      → after_exit d a s ≡ processor_of (if d then record r { phase = Phase.Done } else if s && not a then record r { phase = Phase.Sleep } else r)
  rests-exit true a s h = refl
  rests-exit false true true h = absurd (false≢true h)
  rests-exit false true false h = absurd (false≢true h)
  rests-exit false false true h = refl
  rests-exit false false false h = absurd (false≢true h)

  -- The word that is left shows whether it rests, and what then comes.

  rests-known : (v : ThreadWord) → Shows v → rests_by v ≡ (w.doomed || (w.suspended && not w.aborted))
  rests-known v h = λ i. h.0 i || (h.2 i && not (h.1 i))

  resting-known : (v : ThreadWord) → Shows v
      → processor_of (resting_by v r) ≡ processor_of (if w.doomed then record r { phase = Phase.Done } else if w.suspended && not w.aborted then record r { phase = Phase.Sleep } else r)
  resting-known v h = λ i. processor_of (if h.0 i then record r { phase = Phase.Done } else if h.2 i && not (h.1 i) then record r { phase = Phase.Sleep } else r)

  on-killed : (d a s : Bool) → (d || (s && not a)) ≡ false → a ≡ true → after_begin d a s ≡ ended
  on-killed true a s h k = absurd (false≢true (sym h))
  on-killed false true s h k = refl
  on-killed false false s h k = absurd (false≢true k)

  on-begun : (d a s : Bool) → (d || (s && not a)) ≡ false → a ≡ false
      → after_begin d a s ≡ left_behind image [] (begun image own (instruction_at image own.place)) own.thread r
  on-begun true a s h k = absurd (false≢true (sym h))
  on-begun false true s h k = absurd (false≢true (sym k))
  on-begun false false true h k = absurd (false≢true (sym h))
  on-begun false false false h k = refl

  on-ended : (d a s : Bool) → (d || (s && not a)) ≡ false → after_exit d a s ≡ ended
  on-ended true a s h = absurd (false≢true (sym h))
  on-ended false true s h = refl
  on-ended false false true h = absurd (false≢true (sym h))
  on-ended false false false h = refl

  module _ (t script line : ℕ) (v : ThreadWord) (et : t ≡ own.thread) (es : script ≡ own.place.script) (el : line ≡ own.place.line + 1)
      (there : is_some (instruction_at image own.place) ≡ true)
      (ev : v ≡ thread_in (thread_made image cpu t w (ThreadAct.Begin (to_thread t) script line)).word) where
    left-shows : Shows v
    left-shows = subst Shows (sym ev) (same-begin t script line et)

    pub begin-rests : (z : Running) → rests_by v ≡ true → z ≡ resting_by v r
        → Goes cpu image (in_phase Phase.Begin r) (thread_made image cpu t w (ThreadAct.Begin (to_thread t) script line)) (processor_of z)
    begin-rests z h ez =
        goes-as cpu image (in_phase Phase.Begin r) (after_begin w.doomed w.aborted w.suspended) (processor_of z) _
        (ap processor_of ez ∙ resting-known v left-shows ∙ sym (rests-begin w.doomed w.aborted w.suspended (sym (rests-known v left-shows) ∙ h)))
        (begins-goes t script line et es el there)

    pub begin-killed : (ends : List ℕ) (z : Processor) → rests_by v ≡ false → v.aborted ≡ true → ends ≡ own.claims
        → z ≡ left_behind image [] (ends_with image own (end_steps image own.thread (as_thread own))) t r
        → Goes cpu image (in_phase Phase.Begin r) (thread_made image cpu t w (ThreadAct.Begin (to_thread t) script line)) (with_ends ends z)
    begin-killed ends z h k ec ez =
        goes-as cpu image (in_phase Phase.Begin r) (after_begin w.doomed w.aborted w.suspended) (with_ends ends z) _
        ((λ i. with_ends (ec i) ((ez ∙ ap (λ (x : ℕ). left_behind image [] (ends_with image own (end_steps image own.thread (as_thread own))) x r) et) i))
        ∙ sym (on-killed w.doomed w.aborted w.suspended (sym (rests-known v left-shows) ∙ h) (sym left-shows.1 ∙ k)))
        (begins-goes t script line et es el there)

    pub begin-begun : (z : Processor) → rests_by v ≡ false → v.aborted ≡ false
        → z ≡ left_behind image [] (begun image own (instruction_at image own.place)) t r
        → Goes cpu image (in_phase Phase.Begin r) (thread_made image cpu t w (ThreadAct.Begin (to_thread t) script line)) z
    begin-begun z h k ez =
        goes-as cpu image (in_phase Phase.Begin r) (after_begin w.doomed w.aborted w.suspended) z _
        (ez ∙ ap (λ (x : ℕ). left_behind image [] (begun image own (instruction_at image own.place)) x r) et
        ∙ sym (on-begun w.doomed w.aborted w.suspended (sym (rests-known v left-shows) ∙ h) (sym left-shows.1 ∙ k)))
        (begins-goes t script line et es el there)

  module _ (t : ℕ) (v : ThreadWord) (et : t ≡ own.thread) (ev : v ≡ thread_in (thread_made image cpu t w (ThreadAct.Exit (to_thread t))).word) where
    exit-shows : Shows v
    exit-shows = subst Shows (sym ev) (same-exit t et)

    pub exit-rests : (z : Running) → rests_by v ≡ true → z ≡ resting_by v r
        → Goes cpu image (in_phase Phase.Exit r) (thread_made image cpu t w (ThreadAct.Exit (to_thread t))) (processor_of z)
    exit-rests z h ez =
        goes-as cpu image (in_phase Phase.Exit r) (after_exit w.doomed w.aborted w.suspended) (processor_of z) _
        (ap processor_of ez ∙ resting-known v exit-shows ∙ sym (rests-exit w.doomed w.aborted w.suspended (sym (rests-known v exit-shows) ∙ h)))
        (exits-goes t et)

    pub exit-ended : (ends : List ℕ) (z : Processor) → rests_by v ≡ false → ends ≡ own.claims
        → z ≡ left_behind image [] (ends_with image own (end_steps image own.thread (as_thread own))) t r
        → Goes cpu image (in_phase Phase.Exit r) (thread_made image cpu t w (ThreadAct.Exit (to_thread t))) (with_ends ends z)
    exit-ended ends z h ec ez =
        goes-as cpu image (in_phase Phase.Exit r) (after_exit w.doomed w.aborted w.suspended) (with_ends ends z) _
        ((λ i. with_ends (ec i) ((ez ∙ ap (λ (x : ℕ). left_behind image [] (ends_with image own (end_steps image own.thread (as_thread own))) x r) et) i))
        ∙ sym (on-ended w.doomed w.aborted w.suspended (sym (rests-known v exit-shows) ∙ h)))
        (exits-goes t et)

-- a thread that doesn't rest is as it was
pub stays : (v : ThreadWord) (k : Running) → rests_by v ≡ false → resting_by v k ≡ k
stays v k = by v.doomed (v.suspended && not v.aborted)
  where
    by : (d s : Bool) → (d || s) ≡ false → (if d then record k { phase = Phase.Done } else if s then record k { phase = Phase.Sleep } else k) ≡ k
    by true s h = absurd (false≢true (sym h))
    by false true h = absurd (false≢true (sym h))
    by false false h = refl
