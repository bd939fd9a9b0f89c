-- What a step at a row does to the row's measure: it pays for the cleaning that it begins, and a new object's cleaning is still to come.
use Rattle.std.proofs.Common.{◌≡◌, ◌<◌, ◌≤◌, ℕ, ◌+◌, ◌-◌, Bool, true, false, refl, subst, arith, if◌then◌else◌, Option, Some, None}
use Rattle.std.specs.Prelude.{◌==◌, ◌&&◌, not, nat_lt}
use Rattle.std.proofs.lemmas.Bool.{and_parts, eqb-true, false≢true, ltb-true}
use Rattle.um_base.specs.declared.act.Act.{Act}
use Rattle.um_base.specs.declared.act.Leftover.{Leftover}
use Rattle.um_base.specs.declared.image.Image.{Image}
use Rattle.um_base.specs.declared.names.Addr.{Addr}
use Rattle.um_base.specs.declared.names.Errno.{Errno}
use Rattle.um_base.specs.declared.names.ThreadIx.{ThreadIx}
use Rattle.um_base.specs.declared.names.Want.{Want}
use Rattle.um_words.specs.declared.fine.FineAct.{FineAct}
use Rattle.um_words.specs.declared.fine.More.{More}
use Rattle.um_words.specs.declared.fine.Unseen.{Unseen}
use Rattle.um_words.specs.declared.row_word.RowWord.{RowWord}
use Rattle.um_words.specs.declared.row_word.Stage.{Stage}
use Rattle.um_words.specs.Extra.{has_kind_in, mode_in}
use Rattle.um_words.specs.Rows.{after_verdict, claimed, counted_row, given_to, gone_stage, has, is_cleaning, is_dying, is_free, is_last, is_live, permitted, row_after, row_says, row_says_act, row_takes, row_takes_act, row_takes_unseen, verdict_of}
use Rattle.um_fine.specs.Steps.{Exchange, Site, Word}
use Rattle.um_fine.specs.Asks.{begins_cleaning}
use Rattle.um_fine_measure.specs.Measure.{cleaning_cost, row_cost, stage_cost}
use Rattle.um_fine_measure.proofs.Between.{given_by, taken_by}

-- whether an act that leaves this word begins a cleaning, and what that costs
abbrev pub begins_by : FineAct → Word → Bool
begins_by act word = begins_cleaning (record { cpu = 0; site = Site.scheduler; act = act; word = word; moved = Exchange.nothing })

abbrev pub cost_if : Bool → ℕ
cost_if begun = if begun then cleaning_cost else 0

module _ (image : Image) (w : RowWord) where
  abbrev pub RowFalls : FineAct → Exchange → Type 0
  RowFalls act moved =
      row_cost (row_after w act) + cost_if (begins_by act (Word.row (counted_row (row_after w act)))) + taken_by image act moved
      ≤ row_cost w + given_by image act moved

  -- a claim more, but not in cleaning
  live-more : (stage : Stage) (dynamic fits : Bool) (claims : ℕ) (other : Option Errno) → (if not (is_live stage && fits) then Some Errno.EBADF else other) ≡ None
      → stage_cost stage dynamic (claims + 1) ≡ stage_cost stage dynamic claims
  live-more Stage.Live dynamic fits claims other h = refl
  live-more Stage.Free dynamic fits claims other h = cc
  live-more Stage.Dying dynamic fits claims other h = cc
  live-more Stage.Cleaning dynamic fits claims other h = cc

  own-more : (stage : Stage) (dynamic : Bool) (claims : ℕ) → not (is_cleaning stage) ≡ true → stage_cost stage dynamic (claims + 1) ≡ stage_cost stage dynamic claims
  own-more Stage.Free dynamic claims h = refl
  own-more Stage.Live dynamic claims h = refl
  own-more Stage.Dying dynamic claims h = refl
  own-more Stage.Cleaning dynamic claims h = absurd (false≢true h)

  verdict-cost : (more : More) (t : ℕ) (want : Want) (verdict : Option Errno) → verdict_of w t (mode_in more) (has_kind_in more) want ≡ verdict → row_cost (after_verdict w verdict) ≡ row_cost w
  verdict-cost more t want None h = live-more w.stage w.dynamic (has_kind_in more) w.claims _ h
  verdict-cost more t want (Some e) h = refl

  given-cost : (who : ℕ) → row_cost (given_to w who) ≡ row_cost w
  given-cost who = by (is_live w.stage)
    where
      by : (b : Bool) → row_cost (if b then permitted w who true else w) ≡ row_cost w
      by true = refl
      by false = refl

  own-cost : (who : ℕ) → not (is_cleaning w.stage) ≡ true → row_cost (claimed (given_to w who)) ≡ row_cost w
  own-cost who h = by (is_live w.stage)
    where
      by : (b : Bool) → row_cost (claimed (if b then permitted w who true else w)) ≡ row_cost w
      by true = own-more w.stage w.dynamic w.claims h
      by false = own-more w.stage w.dynamic w.claims h

  -- Drops.

  last-cost : (stage : Stage) (dynamic rest : Bool) (claims : ℕ) → (dynamic && is_live stage && rest) ≡ true → stage_cost stage dynamic claims ≡ cleaning_cost
  last-cost Stage.Live true rest claims h = refl
  last-cost Stage.Live false rest claims h = absurd (false≢true h)
  last-cost Stage.Free dynamic rest claims h = absurd (false≢true (and_parts dynamic false (and_parts (dynamic && false) rest h).0).1)
  last-cost Stage.Dying dynamic rest claims h = absurd (false≢true (and_parts dynamic false (and_parts (dynamic && false) rest h).0).1)
  last-cost Stage.Cleaning dynamic rest claims h = absurd (false≢true (and_parts dynamic false (and_parts (dynamic && false) rest h).0).1)

  gone-cost : (dynamic none : Bool) (claims : ℕ) → (claims == 0) ≡ none
      → stage_cost (if none then Stage.Cleaning else Stage.Dying) dynamic claims + cost_if (is_cleaning (if none then Stage.Cleaning else Stage.Dying)) ≤ cleaning_cost
  gone-cost dynamic true claims h = let zero = eqb-true claims 0 h in omega (arith, zero)
  gone-cost dynamic false claims h = omega arith

  abbrev Left : ℕ → Bool → Bool → RowWord
  Left who last there = if last && there then record (permitted w who false) { stage = gone_stage w } else permitted w who false

  abbrev Said : Bool → Bool → Leftover
  Said last there = if not there then Leftover.NoPair else if last then Leftover.Gone else Leftover.Kept

  drop-cost : (t : ThreadIx) (more : More) (who : ThreadIx) (a : Addr) (last there : Bool) → is_last w who.0 ≡ last
      → row_cost (Left who.0 last there)
      + cost_if (begins_by (FineAct.Shown (record { thread = t; act = Act.DropPair who a (Said last there) }) more) (Word.row (counted_row (Left who.0 last there))))
      ≤ row_cost w
  drop-cost t more who a true true h =
      let all = last-cost w.stage w.dynamic _ w.claims h in
      let gone = gone-cost w.dynamic (w.claims == 0) w.claims refl in omega (arith, all, gone)
  drop-cost t more who a true false h = omega arith
  drop-cost t more who a false true h = omega arith
  drop-cost t more who a false false h = omega arith

  -- Events.

  act-falls : (moved : Exchange) (t : ThreadIx) (more : More) (act : Act) → row_takes_act w t.0 act ≡ true
      → RowFalls (FineAct.Shown (record { thread = t; act = row_says_act w t.0 more act }) more) moved
  act-falls moved t more (Act.Check a kind want verdict) h =
      let same = verdict-cost more t.0 want (verdict_of w t.0 (mode_in more) (has_kind_in more) want) refl in omega (arith, same)
  act-falls moved t more (Act.Grant who a given) h = let same = given-cost who.0 in omega (arith, same)
  act-falls moved t more (Act.Own who given) h =
      let same = own-cost who.0 (and_parts (nat_lt w.claims 127 && not (is_free w.stage)) (not (is_cleaning w.stage)) h).1 in omega (arith, same)
  act-falls moved t more (Act.Inherit who a) h = omega arith
  act-falls moved t more (Act.DropPair who a left) h =
      let falls = drop-cost t more who a (is_last w who.0) (has w who.0) refl in omega (arith, falls)
  act-falls moved t more (Act.Publish a given) h = omega arith
  act-falls moved t more (Act.SetInit a set) h = omega arith
  act-falls moved t more (Act.ClearInit a) h = omega arith
  act-falls moved t more (Act.Born a) h = omega arith
  act-falls moved t more act h = absurd (false≢true h)

  -- Steps that no trace shows.

  ended-cost : (stage : Stage) (dynamic one : Bool) (claims : ℕ) → 0 < claims → (claims == 1) ≡ one
      → stage_cost (if is_dying stage && one then Stage.Cleaning else stage) dynamic (claims - 1) + cost_if (is_cleaning (if is_dying stage && one then Stage.Cleaning else stage))
      ≤ stage_cost stage dynamic claims
  ended-cost Stage.Free dynamic one claims some h = omega arith
  ended-cost Stage.Live dynamic one claims some h = omega arith
  ended-cost Stage.Dying dynamic true claims some h = let last = eqb-true claims 1 h in omega (arith, last)
  ended-cost Stage.Dying dynamic false claims some h = omega arith
  ended-cost Stage.Cleaning dynamic one claims some h = omega (arith, some)

  unseen-falls : (moved : Exchange) (unseen : Unseen) → row_takes_unseen w unseen ≡ true → RowFalls (FineAct.Unseen unseen) moved
  unseen-falls moved Unseen.EndCall h =
      let falls = ended-cost w.stage w.dynamic (w.claims == 1) w.claims (ltb-true 0 w.claims h) refl in omega (arith, falls)
  unseen-falls moved Unseen.Visit h = omega arith
  unseen-falls moved Unseen.Vacate h = omega arith
  unseen-falls moved unseen h = absurd (false≢true h)

  pub row-falls : (act : FineAct) (moved : Exchange) → row_takes w act ≡ true → row_says w act ≡ act → RowFalls act moved
  row-falls (FineAct.Shown event more) moved h says = subst (λ (act : FineAct). RowFalls act moved) says (act-falls moved event.thread more event.act h)
  row-falls (FineAct.Unseen unseen) moved h says = unseen-falls moved unseen h
