-- Where each processor saw after its last step that no thread is ready or runs, and that no mark is owed, every fine run of their steps leaves the
-- scheduler so.
use Rattle.std.proofs.Common.{◌≡◌, ℕ, ◌-◌, ◌<◌, ◌≤◌, ◌/◌, ◌%◌, List, [], ◌∷◌, ◌⊎◌, inl, inr, ⊎_elim, length, map, refl, sym, ap, ◌∙◌, subst, arith}
use Rattle.std.specs.Prelude.{IsTrue, Option, slice_index, true}
use Rattle.std.proofs.lemmas.Bool.{false≢true, ltb-true}
use Rattle.um_base.specs.declared.image.Image.{Image}
use Rattle.um_base.specs.declared.limits.TheConstants.{THREADS}
use Rattle.um_invariants.specs.Described.{IsDescribed}
use Rattle.um_words.specs.History.{Entry, Words, bare, by_seat, is_at, is_by}
use Rattle.um_words.specs.History as History
use Rattle.um_words.specs.Inverse.{cell-back}
use Rattle.um_words.specs.Packed.{cell_of}
use Rattle.um_words.specs.Steps.{number}
use Rattle.um_words.specs.declared.cell_word.CellWord.{CellWord}
use Rattle.um_words.specs.Sublists.{sub}
use Rattle.um_words.specs.declared.made.Made.{Made}
use Rattle.um_fine.specs.Cells.{Cell, cell_word}
use Rattle.um_fine.specs.Sites.{SiteState, is_sort, word_of}
use Rattle.um_fine.specs.Steps.{FineStep, Site}
use Rattle.um_site.specs.History.{Fresh, IsNoNewer}
use Rattle.um_site.specs.declared.view.View.{View}
use Rattle.um_site.proofs.Bare.{bare-high, bare-number}
use Rattle.um_site.proofs.Sublists.{same_itself}
use Rattle.um_merge.specs.Logs.{Log}
use Rattle.um_board.specs.Contents.{Known}
use Rattle.um_board.specs.Noted.{made_of, packed}
use Rattle.um_board.specs.Saw.{WasGot}
use Rattle.um_refinement.specs.Fine.{scheduler_state}
use Rattle.um_refinement.specs.After.{left_by}
use Rattle.um_refinement.specs.Choice.{IsQuiet}
use Rattle.um_refinement.specs.Room.{CanRun, has_number}
use Rattle.um_core.specs.PickedRun.{site_after}
use Rattle.um_core.proofs.Counts.{can-count}
use Rattle.um_core.proofs.Sorts.{sorts-after}
use Rattle.um_history.specs.Fine.{IsFineOf}
use Rattle.um_history.specs.Played.{Each, IsHistoryOf, IsPlayed, SawQuiet}
use Rattle.um_history.proofs.Lists.{each-both, each-keyed, each-map, each-sub}
use Rattle.um_history.proofs.Moments.{names-of, sites-tested}
use Rattle.um_history.proofs.Played.{history, list-of, of-played}
use Rattle.um_history.proofs.ReadyFew.{few-left, running-left}

fresh-got : (words : List ℕ) (got : List (ℕ × ℕ)) (i w : ℕ) → Fresh words got → WasGot got i w → IsNoNewer words i w
fresh-got words [] i w fresh was = absurd was
fresh-got words (e ∷ es) i w fresh (inl is) = subst (λ (j : ℕ). IsNoNewer words j w) is.0 (subst (IsNoNewer words e.0) is.1 fresh.0)
fresh-got words (e ∷ es) i w fresh (inr behind) = fresh-got words es i w fresh.1 behind

-- the word that stands is that of the last step, or the first one
last-has : (P : Entry → Type 0) (i : ℕ) (l : List Entry) (w z : ℕ) → Each P l → Words i w (map History.made_of l) z → (w ≡ z) ⊎ ((e : Entry) × P e × (e.1.word ≡ z))
last-has P i [] w z each words = inl words
last-has P i (e ∷ l) w z each words = inr (⊎_elim (λ is. (e, each.0, is)) (λ later. later) (last-has P i l e.1.word z each.1 words.1))

same-images : {X Y Z : Type 0} (f : X → Z) (g : Y → Z) (Q : Z → Type 0) (xs : List X) (ys : List Y) → map f xs ≡ map g ys → Each (λ y. Q (g y)) ys → Each (λ x. Q (f x)) xs
same-images f g Q [] ys same each = tt
same-images f g Q (x ∷ xs) [] same each = absurd (cc)
same-images f g Q (x ∷ xs) (y ∷ ys) same each =
    let first : g y ≡ f x = cc in
    let rest : map f xs ≡ map g ys = cc in
    (subst Q first each.0, same-images f g Q xs ys rest each.1)

pub no-length : (xs : List ℕ) → length xs ≡ 0 → xs ≡ []
no-length [] e = refl
no-length (x ∷ xs) e = absurd (omega arith)

-- a word of a cell that counts nothing: no thread is ready or runs, and no mark is owed
pub record CountsNone (w : ℕ) : Type 0 where
  pub ready : (cell_of w).ready ≡ 0
  pub running : (cell_of w).running ≡ 0
  pub owed : (cell_of w).owed ≡ 0

-- so does the same word without its turn
pub none-kept : (w z : ℕ) → w - w % 2 ≡ z → CountsNone w → CountsNone z
none-kept w z e none =
    let half : w / 2 ≡ z / 2 = omega arith in
    let same : w / 512 ≡ z / 512 = omega arith in
    let far : w / 131072 ≡ z / 131072 = omega arith in
    record {
      ready = sym (ap (λ n. n % 256) half) ∙ none.ready;
      running = sym (ap (λ n. n % 256) same) ∙ none.running;
      owed = sym (ap (λ n. n % 524288) far) ∙ none.owed;
    }

module _ (image : Image) (cpus : ℕ) (v : View) (words : List ℕ) (slots : List (Option Known)) (logs : List Log) (steps : ℕ → List FineStep) (described : IsDescribed image) (can : CanRun image cpus)
    (played : IsPlayed image cpus v words slots logs steps) (saw : (k : ℕ) → k < cpus → SawQuiet v.got (steps k)) where
  abbrev entries : List Entry
  entries = history image cpus v words slots logs steps played

  abbrev of : IsHistoryOf image cpus words entries
  of = of-played image cpus v words slots logs steps played

  abbrev stands : ℕ
  stands = slice_index words 306

  -- some processor saw no word of the scheduler older than this step leaves
  abbrev Seen : Entry → Type 0
  Seen e = (k : ℕ) × (less : k < cpus) × (e.1.site ≡ 306 → number 306 e.1.word ≤ number 306 (saw k less).word)

  seen-by : (n : List ℕ) → Each Seen (sub (is_by n) entries)
  seen-by n = ⊎_elim
      (λ none. subst (Each Seen) (sym none) tt)
      (λ (k, less, is).
      let Q : Made → Type 0 = λ (m : Made). m.site ≡ 306 → number 306 m.word ≤ number 306 (saw k less).word in
      let list : map History.made_of (sub (is_by n) entries) ≡ map made_of (steps k) = ap (λ (m : List ℕ). by_seat m entries) is ∙ list-of image cpus v words slots logs steps played k less in
      each-map (λ (e : Entry). Q e.1) Seen (λ e q. (k, less, q)) (sub (is_by n) entries) (same-images History.made_of made_of Q (sub (is_by n) entries) (steps k) list (saw k less).newest))
      (names-of image cpus words entries of n)

  seen : Each Seen entries
  seen = each-keyed is_by (λ (e : Entry). e.0) (λ e. same_itself e.0) Seen entries seen-by

  -- some processor saw the word that stands
  abbrev SawLast : Type 0
  SawLast = (k : ℕ) × (less : k < cpus) × (number 306 stands ≤ number 306 (saw k less).word)

  wide : length words ≡ 309
  wide = played.closed.stands.wide ∙ played.opening.count

  saw-last : SawLast
  saw-last = ⊎_elim
      (λ first.
      let opened = played.closed.stands.opened 306 (omega (arith, played.opening.count)) in
      let same : number 306 stands ≡ number 306 (slice_index v.opening 306) = sym (bare-number 306 stands) ∙ sym (ap (number 306) first) in
      (0, can.some, omega (arith, same, opened)))
      (λ (e, ((k, less, newer), at), is).
      let same : number 306 stands ≡ number 306 e.1.word = sym (bare-number 306 stands) ∙ sym (ap (number 306) is) in
      let later = newer at in
      (k, less, omega (arith, same, later)))
      (last-has (λ (e : Entry). Seen e × (e.1.site ≡ 306)) 306 (sub (is_at 306) entries) (slice_index v.opening 306) (bare 306 stands)
      (each-both Seen (λ (e : Entry). e.1.site ≡ 306) (sub (is_at 306) entries) (each-sub (is_at 306) Seen entries seen) (sites-tested image cpus words entries of 306)) (played.closed.stands.sites 306 (omega (arith, wide))))

  -- the scheduler's word that stands counts nothing
  none-stands : CountsNone (bare 306 stands)
  none-stands =
      let (k, less, newest) = saw-last in
      let s = saw k less in
      let new = fresh-got words v.got 306 s.word played.closed.knows.fresh s.seen in
      let older = new.older in
      let same : bare 306 s.word ≡ bare 306 stands = new.same (omega (arith, older, newest)) in
      none-kept s.word (bare 306 stands) (sym (bare-high 306 s.word (omega arith)) ∙ same) (record { ready = s.ready; running = s.running; owed = s.owed })

  none-in : (state : SiteState) → IsTrue (is_sort Site.scheduler state) → length (scheduler_state state).ready ≤ THREADS → (scheduler_state state).running ≤ cpus → (scheduler_state state).owed < 524287
      → has_number state ≡ true → packed (word_of state) ≡ bare 306 stands
      → ((scheduler_state state).ready ≡ []) × ((scheduler_state state).running ≡ 0) × ((scheduler_state state).owed ≡ 0)
  none-in (SiteState.cell n (Cell.scheduler s)) sort few run-few owed-few counts word =
      let most = can.few in
      let number = ltb-true n 268435455 counts in
      let reads = ap cell_of (sym word) ∙ cell-back (cell_word (Cell.scheduler s) n) (omega (arith, few)) (omega (arith, run-few, most)) (record { owed = omega (arith, owed-few); number = omega (arith, number) }) in
      let ready : (cell_of (bare 306 stands)).ready ≡ length s.ready = ap (λ (w : CellWord). w.ready) reads in
      let running : (cell_of (bare 306 stands)).running ≡ s.running = ap (λ (w : CellWord). w.running) reads in
      let owed : (cell_of (bare 306 stands)).owed ≡ s.owed = ap (λ (w : CellWord). w.owed) reads in
      (no-length s.ready (sym ready ∙ none-stands.ready), sym running ∙ none-stands.running, sym owed ∙ none-stands.owed)
  none-in state sort few run-few owed-few counts word = absurd (false≢true sort)

  -- nothing is ready, runs or is owed
  pub quiet-end : (g : List FineStep) → length g ≤ 400000 → IsFineOf image cpus words steps g → IsQuiet (left_by image cpus g)
  quiet-end g short fine =
      let counts = can-count image g short cpus in
      let none = none-in (site_after image g Site.scheduler) (sorts-after image g Site.scheduler) (few-left image cpus described can g fine.run) (running-left image cpus described can g fine.run)
      counts.owed (counts.numbers Site.scheduler) (fine.words_are 306 (omega arith)) in
      record { ready = none.0; running = none.1; owed = none.2 }
