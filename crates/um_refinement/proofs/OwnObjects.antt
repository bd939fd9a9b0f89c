-- A thread keeps its own object at each step of the machine but one by which it clears that object's mark.
use Rattle.um_refinement.proofs.Words.{◌≡◌, ℕ, zero, suc, ◌+◌, Bool, true, false, List, [], ◌∷◌, Some, None, refl, sym, ap, ◌∙◌, subst, ◌==◌, ◌&&◌, not, list_all, and_parts, false≢true, slice_index_or, slice_set, length, ◌<◌, ℤ, Mode, Row, ThreadIx, own_row, Pending, Thread, Steps, Next, Effect, State, nobody, thread_at, with_thread, at_set, effects_of, next_of, gone, wrote, after-is, changed-same, held-same}
use Rattle.um_machine.proofs.AfterLemmas.{bytes-leave}
use Rattle.um_machine.proofs.EffectLemmas.{OfEach, all-wrote, woken-by}
use Rattle.um_machine.specs.Goes.{went}
use Rattle.um_machine.specs.State.{with_pair}
use Rattle.um_machine.specs.Table as T
use Rattle.um_machine.specs.Writes.{Effects, Flag, cut, effect, flagged, newborn}
use Rattle.um_refinement.proofs.ThreadLists.{at-here}

-- a thread that goes on so keeps its own object
abbrev Keeps : Next → Type 0
Keeps (Next.owns keeps) = keeps ≡ true
Keeps next = Unit {0}

gone-keeps : (left : Steps) (u : State) (t : ℕ) (next : Next) (me : Thread) → Keeps next → me.keeps_own ≡ true → (gone left u t next me).keeps_own ≡ true
gone-keeps left u t (Next.on change way) me h was = changed-same (λ (me : Thread). me.keeps_own) (λ me registers reply buffer until. refl) change me ∙ was
gone-keeps left u t (Next.checks x v way) me h was = held-same (λ (me : Thread). me.keeps_own) (λ me checked. refl) x v me ∙ was
gone-keeps left u t (Next.begins None) me h was = was
gone-keeps left u t (Next.begins (Some instr)) me h was = was
gone-keeps left u t (Next.resumes None) me h was = was
gone-keeps left u t (Next.resumes (Some told)) me h was = was
gone-keeps left u t (Next.owns keeps) me h was = λ i. was i && h i
gone-keeps left u t next me h was = was

module _ (s : State) (t x u : ℕ) where
  abbrev Reads : State → Type 0
  Reads z = (thread_at z u).keeps_own ≡ true

  -- one that starts keeps it
  abbrev Starts : Effect → Type 0
  Starts (Effect.starts who thread) = thread.keeps_own ≡ true
  Starts e = Unit {0}

  set : (z : State) (v : ℕ) (th : Thread) → (v ≡ u → th.keeps_own ≡ true) → Reads z → Reads (with_thread z v th)
  set z v th new r = at_set (λ n (me : Thread). n ≡ u → me.keeps_own ≡ true) z.threads v u th nobody new (λ same. r) refl

  alike : (z : State) (v : ℕ) (th : Thread) → th.keeps_own ≡ (thread_at z v).keeps_own → Reads z → Reads (with_thread z v th)
  alike z v th same r = set z v th (λ own. same ∙ subst (λ n. (thread_at z n).keeps_own ≡ true) (sym own) r) r

  flags : (flag : Flag) (z : State) (v : ℕ) → Reads z → Reads (with_thread z v (flagged flag (thread_at z v)))
  flags Flag.aborted z v r = alike z v (flagged Flag.aborted (thread_at z v)) refl r
  flags (Flag.suspended on) z v r = alike z v (flagged (Flag.suspended on) (thread_at z v)) refl r

  dues : (y i : ℕ) (holders : List Bool) (xs : List Thread) (v : ℕ) → (slice_index_or xs v nobody).keeps_own ≡ true → (slice_index_or (T.with_dues y i holders xs) v nobody).keeps_own ≡ true
  dues y i holders [] v h = h
  dues y i holders (me ∷ xs) zero h = h
  dues y i holders (me ∷ xs) (suc v) h = dues y (i + 1) holders xs v h

  keeps : (e : Effect) (z : State) → Starts e → Reads z → Reads (effect e z)
  keeps (Effect.wakes woken) z f r = woken-by Reads (λ z v told r. alike z v (record (thread_at z v) { told = Some told }) refl r) woken z r
  keeps (Effect.moves who d) z f r = alike z who (record (thread_at z who) { domain = d }) refl r
  keeps (Effect.dooms who) z f r = alike z who (record (thread_at z who) { doomed = true }) refl r
  keeps (Effect.flags who flag) z f r = flags flag z who r
  keeps (Effect.cuts who) z f r = alike z who (cut (thread_at z who)) refl r
  keeps (Effect.starts who thread) z f r = set z who thread (λ same. f) r
  keeps (Effect.pair who y there) z f r = dues y 0 (slice_index_or (with_pair z who y there).pairs y []) z.threads u r
  keeps (Effect.bytes a bs) z f r = subst (λ (me : Thread). me.keeps_own ≡ true) (sym (bytes-leave (λ (z : State). thread_at z u) (λ z b. refl) (λ z b. refl) z a bs)) r
  keeps e z f r = r

  abbrev is_plain : Effect → Bool
  is_plain (Effect.starts who thread) = false
  is_plain e = true

  plain : (e : Effect) → is_plain e ≡ true → Starts e
  plain (Effect.starts who thread) h = absurd (false≢true h)
  plain e h = tt

  all-plain : (ws : Effects) → list_all (λ (w : Bool × Effect). is_plain w.1) ws ≡ true → OfEach Starts ws
  all-plain [] h = tt
  all-plain ((b, e) ∷ ws) h = let parts = and_parts (is_plain e) (list_all (λ (w : Bool × Effect). is_plain w.1) ws) h in (plain e parts.0, all-plain ws parts.1)

  wrote-keeps : (q : Pending) → Reads s → Reads (wrote (effects_of s t x q) s)
  wrote-keeps (Pending.Start who script stack priority mode) was =
      all-wrote Reads Starts keeps (effects_of s t x (Pending.Start who script stack priority mode)) s (refl, tt) was
  wrote-keeps q was = all-wrote Reads Starts keeps (effects_of s t x q) s (all-plain (effects_of s t x q) refl) was

  went-keeps : (left : Steps) (z : State) (next : Next) → (u ≡ t → Keeps next) → Reads z → Reads (went left z t next)
  went-keeps left z Next.stays own r = r
  went-keeps left z (Next.begins None) own r = r
  went-keeps left z (Next.resumes None) own r = r
  went-keeps left z next own r = set z t (gone left z t next (thread_at z t)) (λ same. gone-keeps left z t next (thread_at z t) (own (sym same)) (subst (λ n. (thread_at z n).keeps_own ≡ true) (sym same) r)) r

  -- a step that doesn't clear the mark of this thread's own object, by itself
  abbrev pub Spares : Pending → Type 0
  Spares (Pending.ClearInit a) = u ≡ t → (T.row_of s a == own_row s.image t) ≡ false
  Spares q = Unit {0}

  fits : (q : Pending) → Spares q → u ≡ t → Keeps (next_of s t x q)
  fits (Pending.ClearInit a) spares same = ap not (spares same)
  fits q spares same = tt

  pub keeps-after : (q : Pending) (rest : Steps) → (thread_at s u).keeps_own ≡ true → Spares q → (thread_at (T.after s t x q rest) u).keeps_own ≡ true
  keeps-after q rest was spares =
      subst (λ (w : State). Reads w) (sym (after-is s t x q rest)) (went-keeps rest (wrote (effects_of s t x q) s) (next_of s t x q) (fits q spares) (wrote-keeps q was))

  -- and so does one that is started
  pub starts-keeping : (who : ThreadIx) (script : ℕ) (stack : Row) (priority : ℤ) (mode : Mode) (rest : Steps) → who.0 ≡ u → u < length s.threads
      → (thread_at (T.after s t x (Pending.Start who script stack priority mode) rest) u).keeps_own ≡ true
  starts-keeping who script stack priority mode rest same few =
      let q = Pending.Start who script stack priority mode in
      let new = newborn s (thread_at s t) who.0 script q in
      let here : (slice_index_or (slice_set s.threads who.0 new) u nobody).keeps_own ≡ true =
      ap (λ n. (slice_index_or (slice_set s.threads n new) u nobody).keeps_own) same ∙ ap (λ (me : Thread). me.keeps_own) (at-here s.threads u new few) in
      subst (λ (w : State). Reads w) (sym (after-is s t x q rest)) (went-keeps rest (wrote (effects_of s t x q) s) (next_of s t x q) (λ own. tt) here)
