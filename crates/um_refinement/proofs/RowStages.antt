-- A row without an object has no claim, and one whose object is dying has one, after every step that its word takes.
use Rattle.um_refinement.proofs.Words.{◌≡◌, ℕ, ◌+◌, ◌<◌, Bool, true, false, Some, None, refl, sym, ap, ◌∙◌, arith, ◌==◌, ◌&&◌, not, if◌then◌else◌, nat_lt, and_parts, eqb-false, false≢true, ltb-true, not-true, true≢false, Act, Errno, FineAct, More, Unseen, RowWord, Stage, gone_stage, has, is_dying, is_free, is_last, is_live, permitted, row_after, row_after_act, row_says, row_takes, act_in, verdict_in, is_lively, row_says_act, row_takes_act}

-- what the stage of a word says of its claims
pub record IsStaged (w : RowWord) : Type 0 where
  pub dying : w.stage ≡ Stage.Dying → 0 < w.claims
  pub free : w.stage ≡ Stage.Free → w.claims ≡ 0

-- the same stage, and the same claims
same-staged : (w v : RowWord) → v.stage ≡ w.stage → v.claims ≡ w.claims → IsStaged w → IsStaged v
same-staged w v stage claims h =
    record { dying = λ d. let some = h.dying (sym stage ∙ d) in omega (arith, some, claims); free = λ d. claims ∙ h.free (sym stage ∙ d) }

-- one more claim, where an object stands
more-staged : (w v : RowWord) → v.stage ≡ w.stage → v.claims ≡ w.claims + 1 → is_free w.stage ≡ false → IsStaged v
more-staged w v stage claims stands =
    record { dying = λ d. omega (arith, claims); free = λ d. absurd (true≢false (sym (ap is_free (sym stage ∙ d)) ∙ stands)) }

given-staged : (w : RowWord) (who : ℕ) (b : Bool) → IsStaged w → IsStaged (if b then permitted w who true else w)
given-staged w who true h = same-staged w _ refl refl h
given-staged w who false h = h

claimed-staged : (w : RowWord) (who : ℕ) (b : Bool) → is_free w.stage ≡ false
    → IsStaged (record (if b then permitted w who true else w) { claims = (if b then permitted w who true else w).claims + 1 })
claimed-staged w who true h = more-staged w _ refl refl h
claimed-staged w who false h = more-staged w _ refl refl h

-- the object is gone
gone-staged : (v : RowWord) (b : Bool) → (v.claims == 0) ≡ b → v.stage ≡ (if b then Stage.Cleaning else Stage.Dying) → IsStaged v
gone-staged v true q stage =
    record {
      dying = λ d. absurd (false≢true (ap is_dying (sym stage ∙ d)));
      free = λ d. absurd (false≢true (ap is_free (sym stage ∙ d)));
    }
gone-staged v false q stage =
    let some = eqb-false v.claims 0 q in record { dying = λ d. omega (arith, some); free = λ d. absurd (false≢true (ap is_free (sym stage ∙ d))) }

dropped-staged : (w : RowWord) (who : ℕ) (b : Bool) → IsStaged w → IsStaged (if b then record (permitted w who false) { stage = gone_stage w } else permitted w who false)
dropped-staged w who true h = gone-staged _ (w.claims == 0) refl refl
dropped-staged w who false h = same-staged w _ refl refl h

-- a claim ends
ended-staged : (w v : RowWord) (b : Bool) → (is_dying w.stage && (w.claims == 1)) ≡ b → v.stage ≡ (if b then Stage.Cleaning else w.stage) → v.claims + 1 ≡ w.claims → IsStaged w → IsStaged v
ended-staged w v true q stage claims h =
    record {
      dying = λ d. absurd (false≢true (ap is_dying (sym stage ∙ d)));
      free = λ d. absurd (false≢true (ap is_free (sym stage ∙ d)));
    }
ended-staged w v false q stage claims h =
    record {
      dying = λ d.
          let more = eqb-false w.claims 1 (sym (ap (λ s. is_dying s && (w.claims == 1)) (sym stage ∙ d)) ∙ q) in omega (arith, claims, more, h.dying (sym stage ∙ d));
      free = λ d. let none = h.free (sym stage ∙ d) in absurd (omega (arith, claims, none));
    }

pub lively : (s : Stage) → is_live s ≡ true → is_free s ≡ false
lively Stage.Live h = refl
lively Stage.Free h = absurd (false≢true h)
lively Stage.Dying h = absurd (false≢true h)
lively Stage.Cleaning h = absurd (false≢true h)

act-staged : (w : RowWord) (t : ℕ) (more : More) (act : Act) → row_takes_act w t act ≡ true → row_says_act w t more act ≡ act → IsStaged w → IsStaged (row_after_act w t act)
act-staged w t more (Act.Check a kind want None) takes says h =
    more-staged w _ refl refl (lively w.stage (is_lively (is_live w.stage) _ Errno.EBADF _ (ap verdict_in says)))
act-staged w t more (Act.Check a kind want (Some e)) takes says h = h
act-staged w t more (Act.Grant who a given) takes says h = given-staged w who.0 (is_live w.stage) h
act-staged w t more (Act.Own who given) takes says h =
    claimed-staged w who.0 (is_live w.stage)
    (not-true (is_free w.stage) (and_parts (nat_lt w.claims 127) (not (is_free w.stage)) (and_parts (nat_lt w.claims 127 && not (is_free w.stage)) _ takes).0).1)
act-staged w t more (Act.Inherit who a) takes says h = same-staged w _ refl refl h
act-staged w t more (Act.DropPair who a left) takes says h = dropped-staged w who.0 (is_last w who.0 && has w who.0) h
act-staged w t more (Act.Born a) takes says h =
    record { dying = λ d. absurd (false≢true (ap is_dying d)); free = λ d. absurd (false≢true (ap is_free d)) }
act-staged w t more act takes says h = same-staged w _ refl refl h

unseen-staged : (w : RowWord) (u : Unseen) → row_takes w (FineAct.Unseen u) ≡ true → IsStaged w → IsStaged (row_after w (FineAct.Unseen u))
unseen-staged w Unseen.EndCall takes h = let some = ltb-true 0 w.claims takes in ended-staged w _ (is_dying w.stage && (w.claims == 1)) refl refl (omega (arith, some)) h
unseen-staged w Unseen.Vacate takes h = record { dying = λ d. absurd (false≢true (ap is_dying d)); free = λ d. refl }
unseen-staged w u takes h = h

pub staged-after : (w : RowWord) (act : FineAct) → row_takes w act ≡ true → row_says w act ≡ act → IsStaged w → IsStaged (row_after w act)
staged-after w (FineAct.Shown event more) takes says h = act-staged w event.thread.0 more event.act takes (ap act_in says) h
staged-after w (FineAct.Unseen u) takes says h = unseen-staged w u takes h
