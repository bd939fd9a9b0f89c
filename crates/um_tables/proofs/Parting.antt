-- What the joins' cell makes of an end, and of a look for a thread that sleeps.
use Rattle.std.proofs.Common.{◌≡◌, ℕ, Bool, true, false, not, IsTrue, List, [], Option, Some, None, refl, sym, ap, ◌∙◌, if◌then◌else◌, slice_set}
use Rattle.std.specs.Prelude.{is_some}
use Rattle.std.proofs.lemmas.List.{set-get_or}
use Rattle.um_base.specs.declared.act.Act.{Act}
use Rattle.um_base.specs.declared.ask.Told.{Told}
use Rattle.um_base.specs.declared.names.ThreadIx.{ThreadIx}
use Rattle.um_machine.specs.Joins.{joins}
use Rattle.um_machine.specs.Table.{replies_of}
use Rattle.um_words.specs.CellActs.{join_takes}
use Rattle.um_words.specs.declared.fine.FineAct.{FineAct}
use Rattle.um_words.specs.declared.fine.More.{More}
use Rattle.um_words.specs.declared.fine.Unseen.{Unseen}
use Rattle.um_fine.specs.Answers.{act_in, is_shut_act, is_void, woken_in}
use Rattle.um_fine.specs.Context.{Context}
use Rattle.um_fine.specs.Follows.{told_all}
use Rattle.um_fine.specs.Joins.{Joins, all_joined, asleep_at, is_joined, join_after, join_moves, join_says, roused, shut_down, sleeps}
use Rattle.um_fine.specs.Steps.{Exchange}
use Rattle.um_tables.specs.Asked.{by_thread, event_of}
use Rattle.um_tables.specs.JoinActs.{RousedIs}
use Rattle.um_tables.proofs.Told.{none_chosen, told-well}

-- nobody is woken where nobody waits for the end of a thread
pub none-joined : (j : Joins) (who : ℕ) → is_joined j who ≡ false → all_joined j who ≡ []
none-joined j who h = rw (none_chosen (joins who) j.waiters h) refl

-- the end of a thread
pub record Leaves (j : Joins) (who : ThreadIx) (said : FineAct) (z : Joins) (woken : List (ThreadIx × Told)) (joined : Bool) : Type 0 where
  pub takes_it : IsTrue (join_takes said)
  pub leaves : z ≡ join_after j said Exchange.nothing
  pub event_is : (if joined then Some (by_thread who (Act.Left who (replies_of woken))) else None) ≡ event_of said
  pub woken_is : woken ≡ told_all (woken_in (act_in said))
  pub joined_is : joined ≡ not (is_shut_act said)

module _ (j : Joins) (who : ThreadIx) where
  abbrev ends_by : Bool → FineAct
  ends_by b = if b then FineAct.Shown (by_thread who (Act.Left who (replies_of (all_joined j who.0)))) More.Nothing else FineAct.Unseen (Unseen.Shut who)

  comes-by : (b : Bool) → is_joined j who.0 ≡ b → Leaves j who (ends_by b) (shut_down j who.0) (all_joined j who.0) b
  comes-by true h = record { takes_it = refl; leaves = refl; event_is = refl; woken_is = sym (told-well _); joined_is = refl }
  comes-by false h = record { takes_it = refl; leaves = refl; event_is = refl; woken_is = none-joined j who.0 h; joined_is = refl }

  pub leaves-joins : (z : Joins) (woken : List (ThreadIx × Told)) (joined : Bool) → joined ≡ is_joined j who.0 → woken ≡ all_joined j who.0 → z ≡ shut_down j who.0
      → Leaves j who (join_says j Exchange.nothing (FineAct.Unseen (Unseen.Shut who))) z woken joined
  leaves-joins z woken joined h w l = rw (h, w, l) (comes-by (is_joined j who.0) refl)

-- a look for a thread that sleeps
pub record Rouses (j : Joins) (said : FineAct) (moved : Exchange) (z : Joins) (c : Context) (found : Bool) : Type 0 where
  pub takes_it : IsTrue (join_takes said)
  pub leaves : z ≡ join_after j said moved
  pub no_event : event_of said ≡ None
  pub found_is : found ≡ not (is_void said)
  pub roused : RousedIs found c moved

module _ (j : Joins) (who : ThreadIx) where
  abbrev without_it : Joins
  without_it = record j { asleep = slice_set j.asleep who.0 None }

  same-joins : asleep_at j who.0 ≡ None → without_it ≡ j
  same-joins h = ap (λ (all : List (Option Context)). record j { asleep = all }) (ap (slice_set j.asleep who.0) (sym h) ∙ set-get_or j.asleep who.0 None)

  rouses-by : (o : Option Context) → asleep_at j who.0 ≡ o → (c : Context) → (is_some o ≡ true → o ≡ Some c)
      → Rouses j (if is_some o then FineAct.Unseen (Unseen.Rouse who) else FineAct.Unseen Unseen.Void) (roused who o) without_it c (is_some o)
  rouses-by (Some d) h c taken =
      record { takes_it = refl; leaves = refl; no_event = refl; found_is = refl; roused = ap (λ (o : Option Context). roused who o) (taken refl) }
  rouses-by None h c taken = record { takes_it = refl; leaves = same-joins h; no_event = refl; found_is = refl; roused = tt }

  pub rouses : (z : Joins) (c : Context) (found : Bool) → found ≡ sleeps j who.0 → (found ≡ true → asleep_at j who.0 ≡ Some c) → z ≡ without_it
      → Rouses j (join_says j Exchange.nothing (FineAct.Unseen (Unseen.Rouse who))) (join_moves j (FineAct.Unseen (Unseen.Rouse who)) Exchange.nothing) z c found
  rouses z c found h taken l = rw (h, l) (rouses-by (asleep_at j who.0) refl c (λ s. taken (h ∙ s)))
