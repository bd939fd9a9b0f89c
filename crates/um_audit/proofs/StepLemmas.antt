-- Which line a step says, and what is left where no step says it.
use Rattle.std.proofs.Common.{◌≡◌, inl, inr, ℕ, ◌<◌, ◌≤◌, true, false, List, [], ◌∷◌, ◌++◌, length, sym, ap, ◌∙◌, refl, subst, arith, Option, Some, None, slice_get, slice_index_or}
use Rattle.std.specs.Prelude.{IsTrue, codes}
use Rattle.std.proofs.Math.ListN.{get_or-eq_default}
use Rattle.um_base.specs.declared.act.Act.{Act}
use Rattle.um_base.specs.declared.act.Event.{Event}
use Rattle.um_base.specs.declared.image.Image.{Image}
use Rattle.um_base.specs.declared.limits.TheConstants.{THREADS, ROWS}
use Rattle.um_base.specs.declared.names.ThreadIx.{ThreadIx}
use Rattle.um_machine.specs.declared.pending.Pending.{Pending}
use Rattle.um_machine.specs.Joins.{is_ending}
use Rattle.um_machine.specs.Limits.{IsSound}
use Rattle.um_machine.specs.Order.{to_thread}
use Rattle.um_machine.specs.Run.{Step}
use Rattle.um_machine.specs.State.{State, thread_at, pair_at, is_started, is_waiting}
use Rattle.um_machine.specs.Table.{act_of}
use Rattle.um_matrix.specs.Offered.{after_choice, event_of, first_step, is_tending, rest_act, rest_choice, rest_step, row_count, second_step}
use Rattle.um_matrix.specs.declared.tables.choice.Choice.{Choice}
use Rattle.um_matrix.proofs.OfferLemmas.{cut-past, late-past, le-or-lt, nobody-more, past-no-step, refused-step, rest-chosen, rest-not, step-first, step-leaves, step-second, step-tends, still-cut, still-late}
use Rattle.um_matrix.proofs.OfferLemmas as Offer
use Rattle.um_matrix.proofs.ReachLemmas.{choice-step}
use Rattle.um_trace.specs.Names.{thread_text}
use Rattle.um_trace.specs.Acts.{act_text, event_line}
use Rattle.um_audit.proofs.LineLemmas.{snoc-same}
use Rattle.um_audit.specs.Steps.{IsLine, IsLineChoice, IsStepLine, IsNoStepLine, IsNoThreadsLine, SaysLine, SaysNotLine}

module _ (image : Image) (line : List ℕ) (s : State) (t : ℕ) where
  abbrev Says : Act → Type 0
  Says act = IsLine image line (event_of t act)

  -- where the rows were tried, no other row says the line
  pub rows-say : (p : Pending) → length s.objects ≡ ROWS → length s.pairs ≡ ROWS → ((x : ℕ) → x < row_count p → SaysLine image line s t p x → ⊥) → SaysNotLine image line s t p
  rows-say p o w none x m is = Offer.rows-say s t (act_of s t x p) p o w (λ y below may says. none y below (may, subst Says says is)) x m refl

  -- What the line tells of.

  pub first-choice : (x : ℕ) (p : Pending) → slice_get (thread_at s t).pending 0 ≡ Some p → IsSound p → x < row_count p → SaysLine image line s t p x → IsLineChoice image line s t (Choice.Makes p x 1)
  first-choice x p head sound below says = let act = act_of s t x p in (act, says.1, (sound, below, omega arith, step-first s t x act p head says.0 refl))

  pub second-choice : (x : ℕ) (p : Pending) → second_step s t ≡ Some p → IsSound p → x < row_count p → SaysLine image line s t p x → IsLineChoice image line s t (Choice.Makes p x 2)
  second-choice x p next sound below says = let act = act_of s t x p in (act, says.1, (sound, below, omega arith, step-second s t x act p next says.0 refl))

  pub rest-line-choice : (act : Act) → slice_get (thread_at s t).pending 0 ≡ None → rest_act s t ≡ Some act → Says act → IsLineChoice image line s t (rest_choice act)
  rest-line-choice act none says is = (act, is, rest-chosen s t act none says)

  pub leaves-choice : (x : ℕ) → IsTrue (is_ending (thread_at s t)) → SaysLine image line s t Pending.Left x → IsLineChoice image line s t Choice.Leaves
  leaves-choice x ending says = let act = act_of s t x Pending.Left in (act, says.1, step-leaves s t x act ending says.0 refl)

  pub tends-choice : (x : ℕ) (p : Pending) → IsTrue (is_tending p) → IsTrue (is_started (thread_at s t).life) → x < row_count p → SaysLine image line s t p x → IsLineChoice image line s t (Choice.Tends p x)
  tends-choice x p is started below says = let act = act_of s t x p in (act, says.1, (is, below, step-tends s t x act p is started says.0 refl))

  -- what was chosen is a step of which the line tells
  pub made-line : (choice : Choice) (s2 : State) → IsLineChoice image line s t choice → s2 ≡ after_choice s t choice → IsStepLine image line s s2
  made-line choice s2 (act, is, chosen) leaves =
      (event_of t act, is, subst (λ (now : State). Step s (event_of t act) now) (sym leaves) (choice-step s t act choice chosen))

  -- Where no step says the line.

  -- a thread at rest says one thing
  pub rest-line : (act : Act) → rest_act s t ≡ Some act → (Says act → ⊥) → (p : Pending) → rest_step s t ≡ Some p → SaysNotLine image line s t p
  rest-line act says not p e x m is =
      rest-not s t (act_of s t x p) (λ here. let one : act_of s t x p ≡ act = (let both : Some (act_of s t x p) ≡ Some act = sym here ∙ says in cc) in not (subst Says one is)) p e x m refl

  pub rest-nothing : rest_act s t ≡ None → (p : Pending) → rest_step s t ≡ Some p → SaysNotLine image line s t p
  rest-nothing none p e x m is = rest-not s t (act_of s t x p) (λ here. let bad : None ≡ Some (act_of s t x p) = sym none ∙ here in cc) p e x m refl

  -- one step is the only one
  pub only-says : (o : Option Pending) (q : Pending) → o ≡ Some q → SaysNotLine image line s t q → (p : Pending) → o ≡ Some p → SaysNotLine image line s t p
  only-says o q e none p f = let same : q ≡ p = (let both : Some q ≡ Some p = sym e ∙ f in cc) in subst (λ (r : Pending). SaysNotLine image line s t r) same none

  -- a wait ends only of one who waits
  pub no-late : (who : ThreadIx) → is_waiting (thread_at s who.0) ≡ false → SaysNotLine image line s t (Pending.TimeOut who)
  no-late who still x m is = still-late s t who still x m

  pub no-cut : (who : ThreadIx) → is_waiting (thread_at s who.0) ≡ false → SaysNotLine image line s t (Pending.Cut who)
  no-cut who still x m is = still-cut s t who still x m

  -- nobody past the thread indices waits, or has a pair
  pub all-late : length s.threads ≡ THREADS → ((w : ℕ) → w < THREADS → SaysNotLine image line s t (Pending.TimeOut (to_thread w))) → (who : ThreadIx) → SaysNotLine image line s t (Pending.TimeOut who)
  all-late whole none who x m is = elim (le-or-lt who.0 THREADS) [ inl within ↦ none who.0 within x m is | inr past ↦ late-past s t x who whole past m ]

  pub all-cut : length s.threads ≡ THREADS → ((w : ℕ) → w < THREADS → SaysNotLine image line s t (Pending.Cut (to_thread w))) → (who : ThreadIx) → SaysNotLine image line s t (Pending.Cut who)
  all-cut whole none who x m is = elim (le-or-lt who.0 THREADS) [ inl within ↦ none who.0 within x m is | inr past ↦ cut-past s t x who whole past m ]

  pub pair-past : (x : ℕ) (who : ThreadIx) → length (slice_index_or s.pairs x []) ≤ who.0 → SaysLine image line s t (Pending.CleanPair who) x → ⊥
  pair-past x who past says = nobody-more s t x who past says.0

  -- no row past the tables has a pair
  row-past : (u x : ℕ) → length s.pairs ≡ ROWS → ROWS ≤ x → pair_at s u x ≡ true → ⊥
  row-past u x whole past h = let none : pair_at s u x ≡ false = rw (get_or-eq_default s.pairs [] {n = x} (omega arith)) refl in cc

  pub pairs-said : (n : ℕ) → ROWS ≤ n → length s.pairs ≡ ROWS → ((x : ℕ) → x < n → (who : ThreadIx) → SaysLine image line s t (Pending.CleanPair who) x → ⊥)
      → (who : ThreadIx) → SaysNotLine image line s t (Pending.CleanPair who)
  pairs-said n all w none who x m says = elim (le-or-lt x ROWS) [ inl within ↦ none x (omega (arith, within, all)) who (m, says) | inr past ↦ row-past who.0 x w past m.1 ]

  -- the steps that tend
  pub none-tends : ((who : ThreadIx) → SaysNotLine image line s t (Pending.CleanPair who)) → SaysNotLine image line s t Pending.Recycle → ((who : ThreadIx) → SaysNotLine image line s t (Pending.TimeOut who))
      → ((who : ThreadIx) → SaysNotLine image line s t (Pending.Cut who)) → SaysNotLine image line s t Pending.Tick → SaysNotLine image line s t Pending.Expire
      → (p : Pending) → IsTrue (is_tending p) → SaysNotLine image line s t p
  none-tends pairs objects times cuts ticks timers (Pending.CleanPair who) h = pairs who
  none-tends pairs objects times cuts ticks timers Pending.Recycle h = objects
  none-tends pairs objects times cuts ticks timers (Pending.TimeOut who) h = times who
  none-tends pairs objects times cuts ticks timers (Pending.Cut who) h = cuts who
  none-tends pairs objects times cuts ticks timers Pending.Tick h = ticks
  none-tends pairs objects times cuts ticks timers Pending.Expire h = timers
  none-tends pairs objects times cuts ticks timers _ h = cc

  -- no step says it
  pub none-says : ((p : Pending) → first_step s t ≡ Some p → SaysNotLine image line s t p) → ((p : Pending) → second_step s t ≡ Some p → SaysNotLine image line s t p)
      → (IsTrue (is_ending (thread_at s t)) → SaysNotLine image line s t Pending.Left)
      → (IsTrue (is_started (thread_at s t).life) → (p : Pending) → IsTrue (is_tending p) → SaysNotLine image line s t p) → IsNoThreadsLine image line t s
  none-says first second left tending act s2 is step =
      refused-step s (event_of t act) (λ p e x m says. first p e x m (subst Says says is)) (λ p e x m says. second p e x m (subst Says says is))
      (λ h x m says. left h x m (subst Says says is)) (λ l p h x m says. tending l p h x m (subst Says says is)) s2 step

-- Whose line it is.

begins_with : (a b line : List ℕ) → a ++ codes " " ++ b ++ codes "\n" ≡ line ++ 10 ∷ [] → (c : List ℕ) × (line ≡ a ++ codes " " ++ c)
begins_with a b line h = (b, snoc-same line (a ++ codes " " ++ b) (sym h))

pub line-begins : (image : Image) (line : List ℕ) (event : Event) → IsLine image line event → (rest : List ℕ) × (line ≡ (thread_text image event.thread.0 ++ codes " ") ++ rest)
unfolding event_line
line-begins image line event is = begins_with (thread_text image event.thread.0) (act_text image event.act) line is

-- a line that doesn't begin as a thread's lines do is none of its lines
pub others-line : (image : Image) (line beginning : List ℕ) (s : State) (t : ℕ) → beginning ≡ thread_text image t ++ codes " "
    → ((more : List ℕ) → line ≡ beginning ++ more → ⊥) → IsNoThreadsLine image line t s
others-line image line beginning s t name apart act s2 is step =
    let cut = line-begins image line (event_of t act) is in
    apart cut.0 (cut.1 ∙ ap (λ (front : List ℕ). front ++ cut.0) (sym name))

-- no thread has a line that none below a number has
pub none-below : (image : Image) (line : List ℕ) (s : State) (n : ℕ) → length s.threads ≡ THREADS → THREADS ≤ n → ((t : ℕ) → t < n → IsNoThreadsLine image line t s) → IsNoStepLine image line s
none-below image line s n whole all none event s2 is step =
    elim (le-or-lt event.thread.0 THREADS) as (λ _. ⊥) [
      | inl within ↦ none event.thread.0 (omega (arith, within, all)) event.act s2 is step
      | inr past ↦ past-no-step s event whole past s2 step
    ]
