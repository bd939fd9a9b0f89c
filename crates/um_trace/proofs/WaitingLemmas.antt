-- The first place in a list, looked for one place after another.
use Rattle.std.proofs.Common.{◌≡◌, ◌+◌, ◌<◌, ◌∙◌, ℕ, Bool, List, Some, ap, drop, length, slice_index_or, if◌then◌else◌}
use Rattle.std.proofs.lemmas.List.{at_drop_more}
use Rattle.std.specs.List.{position_from}
use Rattle.um_machine.specs.declared.object.Object.{Object}
use Rattle.um_machine.specs.State.{vacant}

-- the place looked at, or one after it
pub position-more : (p : Object → Bool) (xs : List Object) (i : ℕ) (b : Bool) → i < length xs → p (slice_index_or xs i vacant) ≡ b
    → position_from p i (drop i xs) ≡ (if b then Some i else position_from p (i + 1) (drop (i + 1) xs))
position-more p xs i b within is =
    at_drop_more (position_from p i) xs i vacant within ∙ ap (λ (c : Bool). if c then Some i else position_from p (i + 1) (drop (i + 1) xs)) is
