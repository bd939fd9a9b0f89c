-- The lines that tell an answer which is no text of a run.
use Rattle.std.specs.Prelude.{ℕ, List, ◌++◌, codes, decimal}
use Rattle.um_explore.specs.declared.next.Next.{Next}

-- so many states were met, and no run comes to what is asked
unfoldable pub never_text : ℕ → List ℕ
never_text states = codes "never " ++ decimal states ++ codes "\n"

-- so many states were met, and so many of them were not looked at
unfoldable pub unknown_text : ℕ → ℕ → List ℕ
unknown_text states unseen = codes "unknown " ++ decimal states ++ codes " " ++ decimal unseen ++ codes "\n"

-- the lines that can come next, or which line isn't that of a step
unfoldable pub next_text : Next → List ℕ
next_text (Next.Lines next) = next.items
next_text (Next.NoStep line) = codes "no step " ++ decimal line ++ codes "\n"
