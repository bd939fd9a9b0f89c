use Rattle.std.proofs.Common.{length, ◌-◌, ◌≡◌, ℕ, ◌<◌, ◌≤◌, slice_index}
use Rattle.um_words.specs.Steps.{number}
use Rattle.um_site.proofs.opening.are_unstepped.Given as goal

abbrev pub invariant-loop-site : goal.invariant-loop-site
invariant-loop-site l = record { inside : l.site ≤ length l.words; unstepped : (k : ℕ) → k < l.site → number k (slice_index l.words k) ≡ 0 }

abbrev pub decreases-loop-site : goal.decreases-loop-site
decreases-loop-site l = length l.words - l.site
