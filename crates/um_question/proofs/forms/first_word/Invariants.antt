use Rattle.std.proofs.Common.{ℕ, ◌<◌, get_or}
use Rattle.um_question.proofs.FormLemmas.{IsPlain}
use Rattle.um_question.proofs.forms.first_word.Given as goal

abbrev pub invariant-loop-i : goal.invariant-loop-i
invariant-loop-i l = (k : ℕ) → k < l.i → IsPlain (get_or l.line k 0)
