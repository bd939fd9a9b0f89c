use Rattle.std.proofs.Common.{◌≡◌, ◌<◌, ◌≤◌, ℕ, length, slice_index_or}
use Rattle.um_base.specs.declared.limits.TheConstants.{DOMAINS}
use Rattle.um_board.specs.Opening.{IsFirstWord}
use Rattle.um_board.proofs.first_words.first_words.Given as goal

abbrev pub invariant-loop-site : goal.invariant-loop-site
invariant-loop-site l = record {
  long : length l.words.items ≡ l.site;
  each : (k : ℕ) → k < l.site → IsFirstWord l.image k (slice_index_or l.words.items k 0);
  few : length l.image.domains ≤ DOMAINS;
}
