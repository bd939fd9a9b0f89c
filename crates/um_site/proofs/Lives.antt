-- An object is cleaned once in each life.
use Rattle.std.proofs.Common.{◌≡◌, ℕ, zero, suc, ◌+◌, ◌-◌, ◌<◌, ◌≤◌, ◌%◌, Bool, true, false, not, List, [], ◌∷◌, ◌++◌, Some, None, refl, sym, ap, ◌∙◌, arith, subst, slice_index_or, slice_set, slice_index}
use Rattle.std.specs.Prelude.{◌==◌, ◌&&◌, nat_lt, if◌then◌else◌, IsTrue}
use Rattle.std.specs.List.{list_all}
use Rattle.std.proofs.lemmas.Bool.Decides.{nat_tests}
use Rattle.um_base.specs.declared.act.Act.{Act}
use Rattle.um_base.specs.declared.act.SetSaid.{SetSaid}
use Rattle.um_words.specs.declared.fine.FineAct.{FineAct}
use Rattle.um_words.specs.declared.fine.More.{More}
use Rattle.um_words.specs.declared.fine.Unseen.{Unseen}
use Rattle.um_words.specs.declared.made.Made.{Made}
use Rattle.um_words.specs.declared.row_word.RowWord.{RowWord}
use Rattle.um_words.specs.declared.row_word.Stage.{Stage}
use Rattle.um_words.specs.Bits.{bit, bits_of, number_of}
use Rattle.um_words.specs.BitLists.{length-bits, bits_of-number, number-small}
use Rattle.um_words.specs.Inverse.{row-back}
use Rattle.um_words.specs.Packed.{row_of, packed_row}
use Rattle.um_words.specs.Rows.{is_live, is_cleaning, has, permitted, is_last, gone_stage, dropped, row_takes_act, row_takes_unseen, row_takes, row_says_act, row_says, row_after_act, row_after_unseen, row_after, counted_row}
use Rattle.um_words.specs.RowFacts.{row-keeps, row-fits}
use Rattle.um_words.specs.Steps.{StepIn, RowStep, WordMay}
use Rattle.um_base.specs.declared.image.Image.{Image}
use Rattle.um_site.specs.declared.view.View.{View}
use Rattle.um_words.specs.History.{Words, by_site, bare}
use Rattle.um_site.specs.Tells.{with_made}
use Rattle.um_site.specs.Lives.{IsSoundAt, IsSound, stage, begins_cleaning, is_vacate, is_birth_act, is_birth, cleanings, vacates, births, word_after, AreSound, IsCleanedOnce, CleansOnce, begins_at, ends_at, cleans_after, Cleans}
use Rattle.um_site.proofs.Lawful.{at-row}

-- The row that a step leaves.

pub row-step : (row w : ℕ) (act : FineAct) (next : ℕ) → row < 128 → WordMay row w act next → RowStep w act next
row-step row w act next here may = subst (λ k. StepIn k w act next) (at-row row here) may.step

pub row-left : (w : ℕ) (act : FineAct) (next : ℕ) → RowStep w act next → row_of next ≡ counted_row (row_after (row_of w) act)
row-left w act next s =
    let r = row_of w in
    let long = length-bits 32 (w % 4294967296) in
    let few : r.claims < 128 = omega arith in
    let k = row-keeps r long few act s.may.takes in
    let z = counted_row (row_after r act) in
    ap row_of (s.is ∙ ap packed_row s.may.leaves)
    ∙ row-back z (number_of z.permissions) refl (subst (λ n. bits_of n (number_of z.permissions) ≡ z.permissions) k.long (bits_of-number z.permissions)) (number-small z.permissions k.long) (row-fits r long few s.may.room act s.may.takes)

-- Nobody's permissions.

off : (b c : Bool) → (not b && c) ≡ true → (b ≡ false) × (c ≡ true)
off true c e = absurd (cc)
off false c e = (refl, e)

pub none-has : (ps : List Bool) (t : ℕ) → list_all not ps ≡ true → slice_index_or ps t false ≡ false
none-has [] t e = refl
none-has (p ∷ ps) zero e = (off p (list_all not ps) e).0
none-has (p ∷ ps) (suc t) e = none-has ps t (off p (list_all not ps) e).1

none-less : (ps : List Bool) (t : ℕ) → list_all not ps ≡ true → list_all not (slice_set ps t false) ≡ true
none-less [] t e = refl
none-less (p ∷ ps) zero e = (off p (list_all not ps) e).1
none-less (p ∷ ps) (suc t) e = let o = off p (list_all not ps) e in λ i. not (o.0 i) && none-less ps t o.1 i

-- What a step does to a row's stage.

abbrev cleaned : Stage → ℕ
cleaned Stage.Free = 1
cleaned Stage.Live = 0
cleaned Stage.Dying = 0
cleaned Stage.Cleaning = 1

pub record Lived (r : RowWord) (birth : Bool) (z : RowWord) : Type 0 where
  pub sound : IsSound z
  pub counts : bit (begins_cleaning r.stage z.stage) + cleaned r.stage ≡ cleaned z.stage + bit birth

abbrev row : List Bool → Bool → Bool → Bool → ℕ → ℕ → Stage → RowWord
row ps init public' dynamic claims number s = record { permissions = ps; init = init; public = public'; dynamic = dynamic; stage = s; claims = claims; number = number }

still : (s : Stage) → bit (begins_cleaning s s) + cleaned s ≡ cleaned s + 0
still Stage.Free = refl
still Stage.Live = refl
still Stage.Dying = refl
still Stage.Cleaning = refl

alike : (s : Stage) (r z : RowWord) → z.permissions ≡ r.permissions → z.claims ≡ r.claims → IsSoundAt s r → IsSoundAt s z
alike Stage.Live r z p c h = tt
alike Stage.Free r z p c h = (ap (list_all not) p ∙ h.0, c ∙ h.1)
alike Stage.Dying r z p c h = (ap (list_all not) p ∙ h.0, subst (λ n. 0 < n) (sym c) h.1)
alike Stage.Cleaning r z p c h = (ap (list_all not) p ∙ h.0, c ∙ h.1)

-- what is no part of a stage changes
unmoved : (r z : RowWord) → IsSound r → z.stage ≡ r.stage → z.permissions ≡ r.permissions → z.claims ≡ r.claims → Lived r false z
unmoved r z h s p c = record {
  sound = subst (λ u. IsSoundAt u z) (sym s) (alike r.stage r z p c h);
  counts = subst (λ u. bit (begins_cleaning r.stage u) + cleaned r.stage ≡ cleaned u + 0) (sym s) (still r.stage);
}

first-off : (a b : Bool) → a ≡ false → IsTrue (a && b) → ⊥
first-off true b e h = absurd (cc)
first-off false b e h = absurd (cc)

mid-off : (a c : Bool) → IsTrue (a && false && c) → ⊥
mid-off true c h = absurd (cc)
mid-off false c h = absurd (cc)

last-off : (a b : Bool) → IsTrue (a && b && false) → ⊥
last-off true true h = absurd (cc)
last-off true false h = absurd (cc)
last-off false b h = absurd (cc)

not-last : (d x y : Bool) → (d && false && x && y) ≡ false
not-last true x y = refl
not-last false x y = refl

-- of the two parts of a test that holds
left-true : (a b : Bool) → (a && b) ≡ true → a ≡ true
left-true true b e = refl
left-true false b e = absurd (cc)

right-true : (a b : Bool) → (a && b) ≡ true → b ≡ true
right-true true b e = e
right-true false b e = absurd (cc)

is-zero : (n : ℕ) → (n == 0) ≡ true → n ≡ 0
is-zero n e = grind (arith, nat_tests)

above-zero : (n : ℕ) → (n == 0) ≡ false → 0 < n
above-zero n e = grind (arith, nat_tests)

-- the act of a step that is shown
abbrev act_in : Act → FineAct → Act
act_in other (FineAct.Shown event more) = event.act
act_in other (FineAct.Unseen unseen) = other

module _ (ps : List Bool) (init public' dynamic : Bool) (claims number : ℕ) where
  abbrev in' : Stage → RowWord
  in' s = row ps init public' dynamic claims number s

  drops : (s : Stage) (who : ℕ) → IsSound (in' s) → Lived (in' s) false (dropped (in' s) who)
  drops Stage.Live who h = let r = in' Stage.Live in
      elim (is_last r who && has r who) as (λ b. (is_last r who && has r who) ≡ b → Lived r false (if b then record (permitted r who false) { stage = gone_stage r } else permitted r who false)) [
        | true ↦ λ e. let none : list_all not (slice_set ps who false) ≡ true = right-true (dynamic && true) (list_all not (slice_set ps who false)) (left-true (is_last r who) (has r who) e) in
            elim (claims == 0) as (λ b. (claims == 0) ≡ b → Lived r false (record (permitted r who false) { stage = if b then Stage.Cleaning else Stage.Dying })) [
              | true ↦ λ z. record { sound = (none, is-zero claims z); counts = refl }
              | false ↦ λ z. record { sound = (none, above-zero claims z); counts = refl }
            ] refl
        | false ↦ λ e. record { sound = tt; counts = refl }
      ] refl
  drops Stage.Free who h = let r = in' Stage.Free in
      subst (λ b. Lived r false (if b then record (permitted r who false) { stage = gone_stage r } else permitted r who false)) (sym (not-last dynamic (list_all not (slice_set ps who false)) (has r who))) (record { sound = (none-less ps who h.0, h.1); counts = refl })
  drops Stage.Dying who h = let r = in' Stage.Dying in
      subst (λ b. Lived r false (if b then record (permitted r who false) { stage = gone_stage r } else permitted r who false)) (sym (not-last dynamic (list_all not (slice_set ps who false)) (has r who))) (record { sound = (none-less ps who h.0, h.1); counts = refl })
  drops Stage.Cleaning who h = let r = in' Stage.Cleaning in
      subst (λ b. Lived r false (if b then record (permitted r who false) { stage = gone_stage r } else permitted r who false)) (sym (not-last dynamic (list_all not (slice_set ps who false)) (has r who))) (record { sound = (none-less ps who h.0, h.1); counts = refl })

  sets : (s : Stage) (set : SetSaid) → IsSound (in' s) → Lived (in' s) false (row_after_act (in' s) 0 (Act.SetInit (record { 0 = 0 }) set))
  sets s SetSaid.Done h = unmoved (in' s) (record (in' s) { init = true }) h refl refl refl
  sets s SetSaid.Gone h = unmoved (in' s) (in' s) h refl refl refl
  sets s (SetSaid.Fail e) h = unmoved (in' s) (in' s) h refl refl refl

  acts : (s : Stage) (t : ℕ) (more : More) (act : Act) → IsSound (in' s) → IsTrue (row_takes_act (in' s) t act) → row_says_act (in' s) t more act ≡ act → Lived (in' s) (is_birth_act act) (row_after_act (in' s) t act)
  acts s t more (Act.Check a kind want (Some e)) h k y = unmoved (in' s) (in' s) h refl refl refl
  acts Stage.Live t more (Act.Check a kind want None) h k y = record { sound = tt; counts = refl }
  acts Stage.Free t more (Act.Check a kind want None) h k y = absurd (cc)
  acts Stage.Dying t more (Act.Check a kind want None) h k y = absurd (cc)
  acts Stage.Cleaning t more (Act.Check a kind want None) h k y = absurd (cc)
  acts Stage.Live t more (Act.Grant who a given) h k y = record { sound = tt; counts = refl }
  acts Stage.Free t more (Act.Grant who a given) h k y = record { sound = h; counts = refl }
  acts Stage.Dying t more (Act.Grant who a given) h k y = record { sound = h; counts = refl }
  acts Stage.Cleaning t more (Act.Grant who a given) h k y = record { sound = h; counts = refl }
  acts Stage.Live t more (Act.Own who given) h k y = record { sound = tt; counts = refl }
  acts Stage.Free t more (Act.Own who given) h k y = absurd (mid-off (nat_lt claims 127) true k)
  acts Stage.Dying t more (Act.Own who given) h k y = record { sound = (h.0, omega arith); counts = refl }
  acts Stage.Cleaning t more (Act.Own who given) h k y = absurd (last-off (nat_lt claims 127) true k)
  acts Stage.Live t more (Act.Inherit who a) h k y = record { sound = tt; counts = refl }
  acts Stage.Free t more (Act.Inherit who a) h k y = absurd (first-off (has (in' Stage.Free) t) (not (has (in' Stage.Free) who.0)) (none-has ps t h.0) k)
  acts Stage.Dying t more (Act.Inherit who a) h k y = absurd (first-off (has (in' Stage.Free) t) (not (has (in' Stage.Free) who.0)) (none-has ps t h.0) k)
  acts Stage.Cleaning t more (Act.Inherit who a) h k y = absurd (first-off (has (in' Stage.Free) t) (not (has (in' Stage.Free) who.0)) (none-has ps t h.0) k)
  acts s t more (Act.DropPair who a left) h k y = drops s who.0 h
  acts Stage.Live t more (Act.Publish a given) h k y = record { sound = tt; counts = refl }
  acts Stage.Free t more (Act.Publish a given) h k y = record { sound = h; counts = refl }
  acts Stage.Dying t more (Act.Publish a given) h k y = record { sound = h; counts = refl }
  acts Stage.Cleaning t more (Act.Publish a given) h k y = record { sound = h; counts = refl }
  acts s t more (Act.SetInit a set) h k y = sets s set h
  acts s t more (Act.ClearInit a) h k y = unmoved (in' s) (record (in' s) { init = false }) h refl refl refl
  acts Stage.Free t more (Act.Born a) h k y = record { sound = tt; counts = refl }
  acts Stage.Live t more (Act.Born a) h k y = absurd (cc)
  acts Stage.Dying t more (Act.Born a) h k y = absurd (cc)
  acts Stage.Cleaning t more (Act.Born a) h k y = absurd (cc)
  acts s t more act h k y = absurd (cc)

  no-claim : claims ≡ 0 → IsTrue (nat_lt 0 claims) → ⊥
  no-claim z h = let l : 0 < claims = grind (arith, nat_tests) in omega arith

  unseens : (s : Stage) (unseen : Unseen) → IsSound (in' s) → IsTrue (row_takes_unseen (in' s) unseen) → Lived (in' s) false (row_after_unseen (in' s) unseen)
  unseens Stage.Live Unseen.EndCall h k = record { sound = tt; counts = refl }
  unseens Stage.Free Unseen.EndCall h k = absurd (no-claim h.1 k)
  unseens Stage.Dying Unseen.EndCall h k = let r = in' Stage.Dying in
      elim (claims == 1) as (λ b. (claims == 1) ≡ b → Lived r false (record r { claims = claims - 1; stage = if b then Stage.Cleaning else Stage.Dying })) [
        | true ↦ λ z. record { sound = (h.0, let one : claims ≡ 1 = grind (arith, nat_tests) in omega arith); counts = refl }
        | false ↦ λ z. record { sound = (h.0, let other : 1 < claims = let l = h.1 in grind (arith, nat_tests) in omega arith); counts = refl }
      ] refl
  unseens Stage.Cleaning Unseen.EndCall h k = absurd (no-claim h.1 k)
  unseens Stage.Cleaning Unseen.Vacate h k = record { sound = (refl, refl); counts = refl }
  unseens Stage.Live Unseen.Vacate h k = absurd (cc)
  unseens Stage.Free Unseen.Vacate h k = absurd (cc)
  unseens Stage.Dying Unseen.Vacate h k = absurd (cc)
  unseens s Unseen.Visit h k = unmoved (in' s) (in' s) h refl refl refl
  unseens s unseen h k = absurd (cc)

  steps : (s : Stage) (act : FineAct) → IsSound (in' s) → IsTrue (row_takes (in' s) act) → row_says (in' s) act ≡ act → Lived (in' s) (is_birth act) (row_after (in' s) act)
  steps s (FineAct.Shown event more) h k y = acts s event.thread.0 more event.act h k (ap (act_in event.act) y)
  steps s (FineAct.Unseen unseen) h k y = unseens s unseen h k

-- A row's words.

pub lived-step : (row' w : ℕ) (act : FineAct) (next : ℕ) → row' < 128 → WordMay row' w act next → IsSound (row_of w) → Lived (row_of w) (is_birth act) (row_of next)
lived-step row' w act next here may h =
    let s = row-step row' w act next here may in
    let r = row_of w in
    let l = steps r.permissions r.init r.public r.dynamic r.claims r.number r.stage act h s.may.takes s.may.says in
    subst (λ z. Lived r (is_birth act) z) (sym (row-left w act next s)) (record { sound = alike (row_after r act).stage (row_after r act) (counted_row (row_after r act)) refl refl l.sound; counts = l.counts })

pub sounds : (row' w : ℕ) (ms : List Made) (z : ℕ) → row' < 128 → Words row' w ms z → IsSound (row_of w) → AreSound ms
sounds row' w [] z here words h = tt
sounds row' w (m ∷ ms) z here words h = let l = lived-step row' w m.act m.word here words.0 h in (l.sound, sounds row' m.word ms z here words.1 l.sound)

-- cleanings and births balance
pub balance : (row' w : ℕ) (ms : List Made) (z : ℕ) → row' < 128 → Words row' w ms z → IsSound (row_of w) → cleanings w ms + cleaned (stage w) ≡ cleaned (stage z) + births ms
balance row' w [] z here words h = let e = ap (λ n. cleaned (stage n)) words in omega arith
balance row' w (m ∷ ms) z here words h =
    let l = lived-step row' w m.act m.word here words.0 h in
    let b = balance row' m.word ms z here words.1 l.sound in
    let c = l.counts in omega arith

-- Parts of a row's steps.

words-parts : (i w : ℕ) (xs ys : List Made) (z : ℕ) → Words i w (xs ++ ys) z → Words i w xs (word_after w xs) × Words i (word_after w xs) ys z
words-parts i w [] ys z h = (refl, h)
words-parts i w (x ∷ xs) ys z h = let t = words-parts i x.word xs ys z h.1 in ((h.0, t.0), t.1)

sound-after : (row' w : ℕ) (ms : List Made) (z : ℕ) → row' < 128 → Words row' w ms z → IsSound (row_of w) → IsSound (row_of (word_after w ms))
sound-after row' w [] z here words h = h
sound-after row' w (m ∷ ms) z here words h = sound-after row' m.word ms z here words.1 (lived-step row' w m.act m.word here words.0 h).sound

at-most-one : (s : Stage) → cleaned s ≤ 1
at-most-one Stage.Free = omega arith
at-most-one Stage.Live = omega arith
at-most-one Stage.Dying = omega arith
at-most-one Stage.Cleaning = omega arith

none-yet : (s : Stage) → is_live s ≡ true → cleaned s ≡ 0
none-yet Stage.Live e = refl
none-yet Stage.Free e = absurd (cc)
none-yet Stage.Dying e = absurd (cc)
none-yet Stage.Cleaning e = absurd (cc)

vacates-row : (r : RowWord) (act : FineAct) → is_vacate act ≡ true → (counted_row (row_after r act)).stage ≡ Stage.Free
vacates-row r (FineAct.Shown event more) e = absurd (cc)
vacates-row r (FineAct.Unseen Unseen.Vacate) e = refl
vacates-row r (FineAct.Unseen unseen) e = absurd (cc)

-- a row that was vacated, and in which nothing was born, is free
freed : (row' w : ℕ) (ms : List Made) (z : ℕ) → row' < 128 → Words row' w ms z → IsSound (row_of w) → births ms ≡ 0 → 0 < vacates ms → 1 ≤ cleaned (stage z)
freed row' w [] z here words h none some = absurd (omega arith)
freed row' w (m ∷ ms) z here words h none some =
    let l = lived-step row' w m.act m.word here words.0 h in
    elim (is_vacate m.act) as (λ b. is_vacate m.act ≡ b → 1 ≤ cleaned (stage z)) [
      | true ↦ λ e.
          let left = row-left w m.act m.word (row-step row' w m.act m.word here words.0) in
          let free : cleaned (stage m.word) ≡ 1 = ap (λ r. cleaned r.stage) left ∙ ap cleaned (vacates-row (row_of w) m.act e) in
          let b = balance row' m.word ms z here words.1 l.sound in omega arith
      | false ↦ λ e. let nothing : bit (is_vacate m.act) ≡ 0 = ap bit e in freed row' m.word ms z here words.1 l.sound (omega arith) (omega arith)
    ] refl

pub cleaned-once : (row' w : ℕ) (ms : List Made) (z : ℕ) → row' < 128 → Words row' w ms z → IsSound (row_of w) → IsCleanedOnce w ms
cleaned-once row' w ms z here words h = record {
  sound = sounds row' w ms z here words h;
  once = λ xs ys zs is none.
      let all = words-parts row' w xs (ys ++ zs) z (subst (λ (l : List Made). Words row' w l z) is words) in
      let u = word_after w xs in
      let part = words-parts row' u ys zs z all.1 in
      let b = balance row' u ys (word_after u ys) here part.0 (sound-after row' w xs u here all.0 h) in
      let most = at-most-one (stage (word_after u ys)) in omega arith;
  exactly = λ xs ys zs is none live some.
      let all = words-parts row' w xs (ys ++ zs) z (subst (λ (l : List Made). Words row' w l z) is words) in
      let u = word_after w xs in
      let part = words-parts row' u ys zs z all.1 in
      let sound = sound-after row' w xs u here all.0 h in
      let b = balance row' u ys (word_after u ys) here part.0 sound in
      let least = freed row' u ys (word_after u ys) here part.0 sound none some in
      let most = at-most-one (stage (word_after u ys)) in
      let start = none-yet (stage u) live in omega arith;
}

-- the same of each history of a board
pub cleans-once : (goes : Image → List ℕ → List Made → Made → Type 0) (v : View) (row' : ℕ) → row' < 128 → CleansOnce goes v row'
cleans-once goes v row' here words h is inside sound = cleaned-once row' (slice_index v.opening row') (by_site row' h) (bare row' (slice_index words row')) here (is.sites row' inside) sound

-- What a seat has to clean.

-- a cleaning that begins leaves the row in cleaning
pub in-cleaning : (before after : Stage) → begins_cleaning before after ≡ true → is_cleaning after ≡ true
in-cleaning before after e = elim (is_cleaning before) as (λ b. (not b && is_cleaning after) ≡ true → is_cleaning after ≡ true) [ true ↦ λ q. absurd (cc) | false ↦ λ q. q ] e

take-in : (row' : ℕ) (before : Bool) (ms : List Made) (m : Made) → begins_at row' m ≡ true → cleans_after row' before (ms ++ m ∷ []) ≡ true
take-in row' before [] m e = ap (λ b. if b then true else before && not (ends_at row' m)) e
take-in row' before (x ∷ xs) m e = take-in row' (if begins_at row' x then true else before && not (ends_at row' x)) xs m e

pub to-clean : (row' : ℕ) (v : View) (m : Made) → begins_at row' m ≡ true → Cleans row' (with_made v m)
to-clean row' v m e = take-in row' false v.made m e
