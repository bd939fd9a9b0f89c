use Rattle.std.proofs.Common.{length, ◌-◌, ◌%◌, ◌≡◌, ℕ, ◌<◌, ◌≤◌, slice_index}
use Rattle.um_site.proofs.opening.have_no_turn.Given as goal

abbrev pub invariant-loop-site : goal.invariant-loop-site
invariant-loop-site l = record { behind : 168 ≤ l.site; free : (k : ℕ) → 168 ≤ k → k < l.site → k < length l.words → slice_index l.words k % 2 ≡ 0 }

abbrev pub decreases-loop-site : goal.decreases-loop-site
decreases-loop-site l = length l.words - l.site
