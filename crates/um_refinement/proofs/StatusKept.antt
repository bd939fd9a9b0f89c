-- What a step of the access-matrix machine leaves of the status, the marks and the kinds of objects; and a step on the word of a row of its
-- stage and marks.
use Rattle.um_refinement.proofs.Words.{◌≡◌, ℕ, Bool, true, false, Option, Some, None, refl, ap, if◌then◌else◌, true≢false, Act, Image, Errno, Kind, Object, Status, Pending, Steps, State, object_at, RowWord, Stage, after_verdict, is_live, permitted, row_after_act, verdict_in, allows, says_step, Processor}
use Rattle.um_base.specs.declared.names.Access.TheVariants as Access
use Rattle.um_machine.specs.Table as T
use Rattle.um_refinement.proofs.ContentsKept.{NoObjects, object-kept}
use Rattle.um_refinement.proofs.Writes.{Makes}
use Rattle.um_refinement.proofs.Offered.{either-act}

-- what an object says of itself beside its contents
pub record Traits : Type 0 where
  pub status : Status
  pub init : Bool
  pub public : Bool
  pub kind : Option Kind

abbrev pub traits_of : Object → Traits
traits_of o = record { status = o.status; init = o.init; public = o.public; kind = o.kind }

pub traits-kept : (m : State) (y t x : ℕ) (q : Pending) (rest : Steps) → Makes NoObjects q → traits_of (object_at (T.after m t x q rest) y) ≡ traits_of (object_at m y)
traits-kept m y t x q rest h = ap traits_of (object-kept m y t x q rest h)

-- The word of a row.

-- what it says of an object beside permissions and claims
pub record Marks : Type 0 where
  pub stage : Stage
  pub init : Bool
  pub public : Bool

abbrev pub marks_of : RowWord → Marks
marks_of w = record { stage = w.stage; init = w.init; public = w.public }

-- the events that write these
abbrev pub is_marking : Pending → Bool
is_marking (Pending.DropPair who a) = true
is_marking (Pending.Publish a) = true
is_marking (Pending.SetInit a strict undo) = true
is_marking (Pending.ClearInit a) = true
is_marking (Pending.Born a) = true
is_marking q = false

pub given-marks : (w : RowWord) (who : ℕ) (b : Bool) → marks_of (if b then permitted w who true else w) ≡ marks_of w
given-marks w who true = refl
given-marks w who false = refl

verdict-marks : (w : RowWord) (v : Option Errno) → marks_of (after_verdict w v) ≡ marks_of w
verdict-marks w None = refl
verdict-marks w (Some e) = refl

pub marks-untouched : (image : Image) (p : Processor) (w : RowWord) (t : ℕ) (q : Pending) (act : Act) → is_marking q ≡ false → marks_of (row_after_act w t (says_step image p q act)) ≡ marks_of w
marks-untouched image p w t (Pending.DropPair who a) act h = absurd (true≢false h)
marks-untouched image p w t (Pending.Publish a) act h = absurd (true≢false h)
marks-untouched image p w t (Pending.SetInit a strict undo) act h = absurd (true≢false h)
marks-untouched image p w t (Pending.ClearInit a) act h = absurd (true≢false h)
marks-untouched image p w t (Pending.Born a) act h = absurd (true≢false h)
marks-untouched image p w t (Pending.Check a kind want refusal) act h = verdict-marks w (verdict_in act)
marks-untouched image p w t (Pending.Grant who a) act h = given-marks w who.0 (is_live w.stage)
marks-untouched image p w t (Pending.Own who) act h = given-marks w who.0 (is_live w.stage)
marks-untouched image p w t (Pending.Load to a n) act h = either-act (λ z. marks_of (row_after_act w t z)) _ (allows image p Access.Read a.0 n) _ _ refl refl
marks-untouched image p w t (Pending.Store a n value) act h = either-act (λ z. marks_of (row_after_act w t z)) _ (allows image p Access.Write a.0 n) _ _ refl refl
marks-untouched image p w t (Pending.Fetch a) act h = either-act (λ z. marks_of (row_after_act w t z)) _ (allows image p Access.Exec a.0 4) _ _ refl refl
marks-untouched image p w t q act h = refl
