-- Facts of steps that begin a cleaning, and of drops that take the last permission.
use Rattle.um_refinement.proofs.Words.{◌≡◌, ℕ, ◌<◌, Bool, true, false, refl, ap, ◌&&◌, not, IsTrue, if◌then◌else◌, false≢true, true≢false, get_or-set_other, get_or-set_same, Leftover, Image, Object, Status, Pending, State, object_at, vacant, FineAct, Unseen, Stage, is_cleaning, is_dying, is_free, leftover_in, row_in, begins_cleaning, row_number, SiteState, is_sort, site_after, word_of, Exchange, FineStep, Site, length}
use Rattle.um_machine.specs.Table as T
use Rattle.um_refinement.proofs.Writes.{with_dropped, with_left}

-- A step that begins a cleaning is made at a row, and leaves it in cleaning.

pub begins-stage : (e : FineStep) (act : FineAct) → begins_cleaning (record e { act = act }) ≡ true → is_cleaning (row_in e.word).stage ≡ true
begins-stage e (FineAct.Unseen Unseen.EndCall) h = h
begins-stage e (FineAct.Unseen u) h = absurd (false≢true h)
begins-stage e (FineAct.Shown said more) h = by (leftover_in said.act) h
  where
    by : (l : Leftover) → (elim l as (λ _. Bool) [ Leftover.Gone ↦ is_cleaning (row_in e.word).stage | _ ↦ false ]) ≡ true → is_cleaning (row_in e.word).stage ≡ true
    by Leftover.Gone h = h
    by Leftover.Kept h = absurd (false≢true h)
    by Leftover.NoPair h = absurd (false≢true h)

pub row-site : (image : Image) (i : Site) (st : SiteState) (act : FineAct) (moved : Exchange) → IsTrue (is_sort i st) → is_cleaning (row_in (word_of (site_after image st act moved))).stage ≡ true
    → i ≡ Site.row (row_number i)
row-site image (Site.row x) st act moved h c = refl
row-site image (Site.thread t) (SiteState.thread w) act moved h c = absurd (false≢true c)
row-site image (Site.domain d) (SiteState.domain w) act moved h c = absurd (false≢true c)
row-site image (Site.object x) (SiteState.cell n z) act moved h c = absurd (false≢true c)
row-site image (Site.parts d) (SiteState.cell n z) act moved h c = absurd (false≢true c)
row-site image Site.memory (SiteState.cell n z) act moved h c = absurd (false≢true c)
row-site image Site.heap (SiteState.cell n z) act moved h c = absurd (false≢true c)
row-site image Site.scheduler (SiteState.cell n z) act moved h c = absurd (false≢true c)
row-site image Site.clock (SiteState.cell n z) act moved h c = absurd (false≢true c)
row-site image Site.joins (SiteState.cell n z) act moved h c = absurd (false≢true c)
row-site image i st act moved h c = absurd (false≢true h)

abbrev pub takes_last : Leftover → Bool
takes_last Leftover.Gone = true
takes_last left = false

pub left-gone : (there last : Bool) → takes_last (if not there then Leftover.NoPair else if last then Leftover.Gone else Leftover.Kept) ≡ (last && there)
left-gone true true = refl
left-gone true false = refl
left-gone false true = refl
left-gone false false = refl

pub quiet-left : (l : Leftover) (b : Bool) → takes_last l ≡ false → (elim l as (λ _. Bool) [ Leftover.Gone ↦ b | _ ↦ false ]) ≡ false
quiet-left Leftover.Gone b h = absurd (true≢false h)
quiet-left Leftover.Kept b h = refl
quiet-left Leftover.NoPair b h = refl

pub loud-left : (l : Leftover) (b : Bool) → takes_last l ≡ true → (elim l as (λ _. Bool) [ Leftover.Gone ↦ b | _ ↦ false ]) ≡ b
loud-left Leftover.Gone b h = refl
loud-left Leftover.Kept b h = absurd (false≢true h)
loud-left Leftover.NoPair b h = absurd (false≢true h)

-- a drop leaves all objects but the one whose last permission it takes, which is gone then
pub drop-object : (s : State) (who y x : ℕ) → (takes_last (T.dropped s who y) ≡ false → object_at (with_dropped s who y) x ≡ object_at s x)
    × ((x ≡ y → ⊥) → object_at (with_dropped s who y) x ≡ object_at s x)
    × (y < length s.objects → takes_last (T.dropped s who y) ≡ true → object_at (with_dropped s who y) y ≡ record (object_at s y) { status = Status.Gone })
drop-object s who y x = by (T.dropped s who y)
  where
    by : (l : Leftover) →
        (takes_last l ≡ false → object_at (with_left l s who y) x ≡ object_at s x)
        × ((x ≡ y → ⊥) → object_at (with_left l s who y) x ≡ object_at s x)
        × (y < length s.objects → takes_last l ≡ true → object_at (with_left l s who y) y ≡ record (object_at s y) { status = Status.Gone })
    by Leftover.NoPair = (λ h. refl, λ ne. refl, λ l h. absurd (false≢true h))
    by Leftover.Kept = (λ h. refl, λ ne. refl, λ l h. absurd (false≢true h))
    by Leftover.Gone = (
      λ h. absurd (true≢false h),
      λ ne. get_or-set_other s.objects y x (record (object_at s y) { status = Status.Gone }) vacant ne,
      λ l h. get_or-set_same s.objects y (record (object_at s y) { status = Status.Gone }) vacant l,
    )

-- what a drop leaves of the status of a row
pub drop-status : (s : State) (who y x : ℕ) → (takes_last (T.dropped s who y) ≡ false → (object_at (with_dropped s who y) x).status ≡ (object_at s x).status)
    × ((x ≡ y → ⊥) → (object_at (with_dropped s who y) x).status ≡ (object_at s x).status)
    × (y < length s.objects → takes_last (T.dropped s who y) ≡ true → (object_at (with_dropped s who y) y).status ≡ Status.Gone)
drop-status s who y x =
    let d = drop-object s who y x in (
      λ h. ap (λ (o : Object). o.status) (d.0 h),
      λ ne. ap (λ (o : Object). o.status) (d.1 ne),
      λ l h. ap (λ (o : Object). o.status) (d.2 l h),
    )

-- a row whose last claim ends is free as before
pub ends-free : (st : Stage) (b : Bool) → is_free (if is_dying st && b then Stage.Cleaning else st) ≡ is_free st
ends-free Stage.Dying true = refl
ends-free Stage.Dying false = refl
ends-free st b = refl

-- an object comes to live
abbrev pub is_birth : Pending → Bool
is_birth (Pending.Born a) = true
is_birth q = false

pub cleaning-is : (st : Stage) → is_cleaning st ≡ true → st ≡ Stage.Cleaning
cleaning-is Stage.Cleaning h = refl
cleaning-is st h = absurd (false≢true h)
