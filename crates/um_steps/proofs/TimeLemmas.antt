-- The least deadline above a moment, one after another.
use Rattle.std.proofs.Common.{◌≡◌, ℕ, ◌+◌, ◌<◌, List, Option, length, drop, get_or, refl}
use Rattle.std.specs.Prelude.{nat_lt, if◌then◌else◌}
use Rattle.std.proofs.lemmas.List.{drop_more}
use Rattle.um_machine.specs.Time.{least, next_deadline}

pub nearer : (now : ℕ) (armed : List ℕ) (i d : ℕ) (behind : Option ℕ) → i < length armed → d ≡ get_or armed i d → behind ≡ next_deadline now (drop (i + 1) armed)
    → (if nat_lt now d then least d behind else behind) ≡ next_deadline now (drop i armed)
nearer now armed i d behind inside at h = rw (drop_more armed i d inside, ← at, h) refl
