use Rattle.std.proofs.Common.{◌≡◌, length}
use Rattle.um_question.specs.Forms.{fits}
use Rattle.um_question.proofs.forms.fits.Given as goal

abbrev pub invariant-loop-forms_behind : goal.invariant-loop-forms_behind
invariant-loop-forms_behind l = fits l.form l.line ≡ fits l.forms l.rest

abbrev pub decreases-loop-forms_behind : goal.decreases-loop-forms_behind
decreases-loop-forms_behind l = length l.rest
