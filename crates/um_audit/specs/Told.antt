-- How a verdict is told.
use Rattle.std.specs.Prelude.{ℕ, List, ◌++◌, codes, decimal}
use Rattle.um_audit.specs.declared.verdict.Verdict.{Verdict}

unfoldable pub verdict_text : Verdict → List ℕ
verdict_text Verdict.Yes = codes "yes\n"
verdict_text (Verdict.NoStep line) = codes "no step " ++ decimal line ++ codes "\n"
verdict_text Verdict.NotComplete = codes "not complete\n"
verdict_text (Verdict.NoDump line) = codes "no dump " ++ decimal line ++ codes "\n"
