-- A row that is in cleaning after a fine run was moved there by a step of that run, and only that step's processor still has to vacate it.
use Rattle.std.proofs.Common.{◌≡◌, ◌≢◌, ℕ, ◌<◌, Bool, true, false, cond, List, [], ◌∷◌, ◌++◌, append_assoc, append-nil, refl, sym, ap, ◌∙◌, subst, arith, eq-eqb, ne_eqb}
use Rattle.std.specs.Prelude.{◌&&◌, not}
use Rattle.std.proofs.lemmas.Bool.{eqb-true, false≢true}
use mathlib.Core.Logic.{dite}
use native.Mathlib.Decide.{ℕ_discrete}
use Rattle.um_base.specs.declared.image.Image.{Image}
use Rattle.um_base.specs.declared.limits.TheConstants.{ROWS}
use Rattle.um_machine.specs.Objects as Plain
use Rattle.um_machine.specs.State.{State, object_at}
use Rattle.um_words.specs.declared.row_word.Stage.{Stage}
use Rattle.um_words.specs.Rows.{is_cleaning, is_dying}
use Rattle.um_fine.specs.FineRun.{ByOneOf, IsFineRun, cpu_of, p_start, same_cpu, site_of}
use Rattle.um_fine.specs.Follows.{p_next}
use Rattle.um_fine.specs.Opening.{s_start}
use Rattle.um_fine.specs.Processor.{Processor}
use Rattle.um_fine.specs.Sites.{SiteMay, s_next, same_site}
use Rattle.um_fine.specs.Steps.{FineStep, Site}
use Rattle.um_fine.proofs.FineRuns.{by_last, runs_pop, state_push}
use Rattle.um_fine.proofs.Keys.{same-itself, same-sound}
use Rattle.um_refinement.specs.After.{left_by}
use Rattle.um_refinement.specs.Fine.{Fine, one_if, row, row_state, total}
use Rattle.um_refinement.specs.Lists.{counted, is_vacate}
use Rattle.um_refinement.specs.Objects.{is_reserved, recyclers, status_of, vacaters}
use Rattle.um_refinement.specs.Relation.{Rel}
use Rattle.um_refinement.proofs.DomainFacts.{two-parts}
use Rattle.um_refinement.proofs.FirstThreads.{one-most}
use Rattle.um_refinement.proofs.HeldRows.{some-part, total-zero}
use Rattle.um_refinement.proofs.MemorySteps.{part-total}
use Rattle.um_history.specs.LastHolder.{HasLastHolder, InCleaning, IsCleanedSince, Since, still_vacates}

cleaning-is : (s : Stage) → is_cleaning s ≡ true → s ≡ Stage.Cleaning
cleaning-is Stage.Cleaning h = refl
cleaning-is s h = absurd (false≢true h)

-- a row that isn't in cleaning has nobody who has still to vacate it
none-vacates : (f : Fine) (m : State) → Rel f m → (x : ℕ) → x < ROWS → is_cleaning (row f x).stage ≡ false → vacaters f x ≡ 0
none-vacates f m rel x few not-so = dite (ℕ_discrete (vacaters f x) (recyclers f x)) settled between
  where
    none : (s : Stage) (reserved : Bool) → is_cleaning s ≡ false → (Plain.is_gone (status_of s reserved) && not (is_dying s)) ≡ false
    none Stage.Live reserved h = refl
    none Stage.Dying reserved h = refl
    none Stage.Free true h = refl
    none Stage.Free false h = refl
    none Stage.Cleaning reserved h = absurd (false≢true (sym h))

    settled : vacaters f x ≡ recyclers f x → vacaters f x ≡ 0
    settled at =
        let r = rel.rows x few in
        at ∙ (r.cleaners.cleaner ∙ ap one_if ((λ i. Plain.is_gone (r.status.status at i) && not (is_dying (row f x).stage)) ∙ none (row f x).stage (is_reserved (object_at m x).status) not-so))

    between : vacaters f x ≢ recyclers f x → vacaters f x ≡ 0
    between apart =
        let r = rel.rows x few in
        let order = r.cleaners.order in
        let cleaner = r.cleaners.cleaner in
        let most = one-most (Plain.is_gone (object_at m x).status && not (is_dying (row f x).stage)) in
        omega (arith, apart, order, cleaner, most)

since-more : (P : List FineStep → Type 0) (done more : List FineStep) (v : FineStep) → Since P done more → P ((done ++ more) ++ v ∷ []) → Since P done (more ++ v ∷ [])
since-more P done [] v since now = (since, subst P (ap (λ l. l ++ v ∷ []) (append-nil done)) now)
since-more P done (e ∷ more) v since now = (since.0, since-more P (done ++ e ∷ []) more v since.1 (subst (λ l. P (l ++ v ∷ [])) (sym (append_assoc done (e ∷ []) more)) now))

module _ (image : Image) (cpus : ℕ) (related : (h : List FineStep) → IsFineRun image cpus h → (m : State) × Rel (left_by image cpus h) m) (x : ℕ) (few : x < ROWS) where
  abbrev f : List FineStep → Fine
  f g = left_by image cpus g

  abbrev vacates : List FineStep → ℕ → ℕ
  vacates g k = still_vacates image cpus x g k

  -- One more step.

  pops : (h : List FineStep) (v : FineStep) → IsFineRun image cpus (h ++ v ∷ []) → IsFineRun image cpus h × (v.cpu < cpus)
  pops h v run =
      let own = runs_pop same_cpu (λ k. eq-eqb k k refl) (λ j k e. eqb-true j k e) cpu_of (ByOneOf image cpus) (p_next image) p_start h v run.processors in
      let at = runs_pop same_site same-itself same-sound site_of (SiteMay image) (s_next image) (s_start image) h v run.sites in
      (record { processors = own.0; sites = at.0 }, own.1.named)

  others-stay : (h : List FineStep) (v : FineStep) (k : ℕ) → v.cpu ≢ k → vacates (h ++ v ∷ []) k ≡ vacates h k
  others-stay h v k other =
      ap (λ (p : Processor). counted (is_vacate x) p.todo)
      (state_push same_cpu (λ j. eq-eqb j j refl) (λ j i e. eqb-true j i e) cpu_of (ByOneOf image cpus) (p_next image) p_start h v k
      ∙ ap (λ b. cond b (p_next image ((f h).processors k) v) ((f h).processors k)) (ne_eqb v.cpu k other))

  row-stays : (h : List FineStep) (v : FineStep) → same_site v.site (Site.row x) ≡ false → row (f (h ++ v ∷ [])) x ≡ row (f h) x
  row-stays h v other =
      ap row_state
      (state_push same_site same-itself same-sound site_of (SiteMay image) (s_next image) (s_start image) h v (Site.row x)
      ∙ ap (λ b. cond b (s_next image ((f h).sites (Site.row x)) v) ((f h).sites (Site.row x))) other)

  -- Who has still to vacate it.

  cleaned : (h : List FineStep) → IsFineRun image cpus h → InCleaning image cpus x h → total (vacates h) cpus ≡ 1
  cleaned h run is = let r = related h run in (r.1.rows x few).cleaners.cleaning (cleaning-is (row (f h) x).stage is)

  not-cleaned : (h : List FineStep) → IsFineRun image cpus h → is_cleaning (row (f h) x).stage ≡ false → total (vacates h) cpus ≡ 0
  not-cleaned h run is = let r = related h run in none-vacates (f h) r.0 r.1 x few is

  whoever : (h : List FineStep) → total (vacates h) cpus ≡ 1 → (k : ℕ) × (k < cpus) × (vacates h k ≡ 1)
  whoever h one =
      let some = some-part (vacates h) cpus (omega (arith, one)) in
      let part = part-total (vacates h) cpus some.0 some.1 in
      let there = some.2 in
      (some.0, some.1, omega (arith, one, part, there))

  alone : (h : List FineStep) → total (vacates h) cpus ≡ 1 → (k : ℕ) → k < cpus → vacates h k ≡ 1 → (j : ℕ) → j < cpus → j ≢ k → vacates h j ≡ 0
  alone h one k less own j below other =
      let both = two-parts (vacates h) cpus j k below less other in
      omega (arith, one, own, both)

  -- the processor that had to vacate the row is the one that has done it, if it no longer has to
  is-his : (h : List FineStep) (k : ℕ) → k < cpus → vacates h k ≡ 1 → (v : FineStep) → IsFineRun image cpus (h ++ v ∷ []) → is_cleaning (row (f (h ++ v ∷ [])) x).stage ≡ false → v.cpu ≡ k
  is-his h k less own v run not-so = dite (ℕ_discrete v.cpu k)
      (λ same. same)
      (λ other.
      let none = not-cleaned (h ++ v ∷ []) run not-so in
      let part = part-total (vacates (h ++ v ∷ [])) cpus k less in
      let stays = others-stay h v k other in
      absurd (omega (arith, none, part, stays, own)))

  -- all that is said of the processor that cleans it
  holds : (before : List FineStep) (e : FineStep) (behind : List FineStep) → IsFineRun image cpus (before ++ e ∷ behind) → InCleaning image cpus x (before ++ e ∷ behind)
      → e.site ≡ Site.row x → is_cleaning (row (f before) x).stage ≡ false → Since (InCleaning image cpus x) (before ++ e ∷ []) behind → e.cpu < cpus → vacates (before ++ e ∷ behind) e.cpu ≡ 1
      → IsCleanedSince image cpus x before e behind
  holds before e behind run is here first since less own =
      let g = before ++ e ∷ behind in
      let r = related g run in
      record {
        here = here;
        first = first;
        since = since;
        unclaimed = (r.1.rows x few).cleaners.unclaimed (cleaning-is (row (f g) x).stage is);
        one = less;
        own = own;
        others = λ k below other. alone g (cleaned g run is) e.cpu less own k below other;
        vacates = λ v after gone. is-his g e.cpu less own v after gone;
      }

  -- After the last step.

  begins : (h : List FineStep) (v : FineStep) → IsFineRun image cpus (h ++ v ∷ []) → is_cleaning (row (f h) x).stage ≡ false → InCleaning image cpus x (h ++ v ∷ [])
      → IsCleanedSince image cpus x h v []
  begins h v run before now =
      let popped = pops h v run in
      let who = whoever (h ++ v ∷ []) (cleaned (h ++ v ∷ []) run now) in
      let own : vacates (h ++ v ∷ []) v.cpu ≡ 1 = dite (ℕ_discrete v.cpu who.0)
      (λ same. ap (vacates (h ++ v ∷ [])) same ∙ who.2)
      (λ other.
      let stays = others-stay h v who.0 other in
      let none = not-cleaned h popped.0 before in
      let part = part-total (vacates h) cpus who.0 who.1 in
      let is = who.2 in
      absurd (omega (arith, stays, none, part, is))) in
      holds h v [] run now (at (same_site v.site (Site.row x)) refl) before now popped.1 own
    where
      at : (b : Bool) → same_site v.site (Site.row x) ≡ b → v.site ≡ Site.row x
      at true q = same-sound v.site (Site.row x) q
      at false q = absurd (false≢true (sym before ∙ (ap (λ (w : _). is_cleaning w.stage) (sym (row-stays h v q)) ∙ now)))

  goes-on : (before : List FineStep) (e : FineStep) (behind : List FineStep) (v : FineStep) → IsFineRun image cpus ((before ++ e ∷ behind) ++ v ∷ []) → InCleaning image cpus x ((before ++ e ∷ behind) ++ v ∷ [])
      → IsCleanedSince image cpus x before e behind → IsCleanedSince image cpus x before e (behind ++ v ∷ [])
  goes-on before e behind v run now c =
      let h = before ++ e ∷ behind in
      let same : h ++ v ∷ [] ≡ before ++ e ∷ (behind ++ v ∷ []) = append_assoc before (e ∷ behind) (v ∷ []) in
      let who = whoever (h ++ v ∷ []) (cleaned (h ++ v ∷ []) run now) in
      let own : vacates (h ++ v ∷ []) e.cpu ≡ 1 = dite (ℕ_discrete v.cpu e.cpu)
      (λ his. dite (ℕ_discrete v.cpu who.0)
      (λ is. ap (vacates (h ++ v ∷ [])) (sym his ∙ is) ∙ who.2)
      (λ other.
      let stays = others-stay h v who.0 other in
      let none = c.others who.0 who.1 (λ q. other (his ∙ sym q)) in
      let is = who.2 in
      absurd (omega (arith, stays, none, is))))
      (λ other. others-stay h v e.cpu other ∙ c.own) in
      holds before e (behind ++ v ∷ []) (subst (IsFineRun image cpus) same run) (subst (InCleaning image cpus x) same now) c.here c.first
      (since-more (InCleaning image cpus x) (before ++ e ∷ []) behind v c.since (subst (λ (l : List FineStep). InCleaning image cpus x (l ++ v ∷ [])) (sym (append_assoc before (e ∷ []) behind)) now))
      c.one (subst (λ (l : List FineStep). vacates l e.cpu ≡ 1) same own)

  -- after every fine run
  pub has-last-holder : (g : List FineStep) → IsFineRun image cpus g → HasLastHolder image cpus g x
  has-last-holder = by_last (λ g. IsFineRun image cpus g → HasLastHolder image cpus g x)
      (λ run is. let one = cleaned [] run is in let none = total-zero (vacates []) cpus (λ k less. refl) in absurd (omega (arith, one, none)))
      (λ h v before run now.
      let popped = pops h v run in
      by h v before run now popped.0 (is_cleaning (row (f h) x).stage) refl)
    where
      by : (h : List FineStep) (v : FineStep) → (IsFineRun image cpus h → HasLastHolder image cpus h x) → IsFineRun image cpus (h ++ v ∷ []) → InCleaning image cpus x (h ++ v ∷ []) → IsFineRun image cpus h
          → (b : Bool) → is_cleaning (row (f h) x).stage ≡ b
          → (before : List FineStep) × (e : FineStep) × (behind : List FineStep) × (h ++ v ∷ [] ≡ before ++ e ∷ behind) × IsCleanedSince image cpus x before e behind
      by h v before run now run-before false q = (h, v, [], refl, begins h v run q now)
      by h v before run now run-before true q =
          let (done, e, behind, is, c) = before run-before q in (
            done,
            e,
            behind ++ v ∷ [],
            ap (λ l. l ++ v ∷ []) is ∙ append_assoc done (e ∷ behind) (v ∷ []),
            goes-on done e behind v (subst (λ (l : List FineStep). IsFineRun image cpus (l ++ v ∷ [])) is run) (subst (λ (l : List FineStep). InCleaning image cpus x (l ++ v ∷ [])) is now) c,
          )
