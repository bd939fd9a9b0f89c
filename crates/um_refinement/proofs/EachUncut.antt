-- A fact of what is read of each thread is kept by a step that cuts nobody, where it holds of a thread that is started, and of the one that goes on.
use Rattle.um_refinement.proofs.Words.{◌≡◌, ℕ, ℤ, true, Bool, List, [], ◌∷◌, refl, subst, sym, and_parts, list_all, true≢false, Mode, Row, ThreadIx, Pending, Steps, Thread, Effect, wrote, gone, State, thread_at, Ignores, OfEach, all_other, effects_of, key-same, keys-wrote, next_of, is_spared, image-wrote, after-is}
use Rattle.um_machine.specs.Table as T
use Rattle.um_machine.proofs.EffectLemmas.{Each, Passes, Starts, each-went, each-wrote}

abbrev pub NotCut : Pending → Type 0
NotCut (Pending.Cut who) = ⊥
NotCut q = Unit {0}

module _ {K : Type 0} (of : Thread → K) (F : K → Type 0) (ignores : Ignores of all_other) where
  abbrev IsSo : Thread → Type 0
  IsSo me = F (of me)

  passes : Passes IsSo
  passes =
      record {
        due = λ me due h. subst F (sym (ignores.due refl me due)) h;
        told = λ me told h. subst F (sym (ignores.told refl me told)) h;
        domain = λ me domain h. subst F (sym (ignores.domain refl me domain)) h;
        doomed = λ me h. subst F (sym (ignores.doomed refl me)) h;
        flagged = λ me aborted suspended h. subst F (sym (ignores.flagged refl me aborted suspended)) h;
      }

  no-start : (e : Effect) → is_spared all_other e ≡ true → Starts IsSo e
  no-start (Effect.starts who thread) h = absurd (true≢false (sym h))
  no-start (Effect.cuts who) h = absurd (true≢false (sym h))
  no-start e h = tt

  no-starts : (ws : List (Bool × Effect)) → list_all (λ (w : Bool × Effect). is_spared all_other w.1) ws ≡ true → OfEach (Starts IsSo) ws
  no-starts [] h = tt
  no-starts ((b, e) ∷ ws) h =
      let parts = and_parts (is_spared all_other e) (list_all (λ (w : Bool × Effect). is_spared all_other w.1) ws) h in (no-start e parts.0, no-starts ws parts.1)

  abbrev Newborns : State → ℕ → Type 0
  Newborns s t = (who : ThreadIx) (script : ℕ) (stack : Row) (priority : ℤ) (mode : Mode) → F (of (T.newborn s (thread_at s t) who.0 script (Pending.Start who script stack priority mode)))

  starts-of : (s : State) (t x : ℕ) (q : Pending) → NotCut q → Newborns s t → OfEach (Starts IsSo) (effects_of s t x q)
  starts-of s t x (Pending.Start who script stack priority mode) other new = (new who script stack priority mode, tt)
  starts-of s t x (Pending.Cut who) other new = absurd other
  starts-of s t x q other new = no-starts (effects_of s t x q) refl

  abbrev pub AsBefore : State → ℕ → Pending → Thread → Type 0
  AsBefore s t (Pending.Start who script stack priority mode) me = Unit {0}
  AsBefore s t q me = of me ≡ of (thread_at s t)

  as-before : (s : State) (t x : ℕ) (q : Pending) → NotCut q → AsBefore s t q (thread_at (wrote (effects_of s t x q) s) t)
  as-before s t x (Pending.Start who script stack priority mode) other = tt
  as-before s t x (Pending.Cut who) other = absurd other
  as-before s t x q other = let ws = effects_of s t x q in key-same of s (wrote ws s) (keys-wrote of all_other ignores ws s refl) t

  pub each-uncut : (s : State) (t x : ℕ) (q : Pending) (left : Steps) → NotCut q → Newborns s t → Each IsSo s
      → ((u : State) (me : Thread) → u.image ≡ s.image → AsBefore s t q me → IsSo me → IsSo (gone left u t (next_of s t x q) me))
      → Each IsSo (T.after s t x q left)
  each-uncut s t x q left other new all on =
      let ws = effects_of s t x q in
      let u = wrote ws s in
      let now = each-wrote IsSo passes ws s (starts-of s t x q other new) all in
      subst (Each IsSo) (sym (after-is s t x q left)) (each-went IsSo left u t (next_of s t x q) (on u (thread_at u t) (image-wrote ws s) (as-before s t x q other) (now t)) now)
