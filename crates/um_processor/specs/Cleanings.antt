-- The fine steps that are left of the cleaning of objects, in their order.
use Rattle.std.specs.Prelude.{ℕ, ◌+◌, Bool, true, false, ◌&&◌, List, [], ◌∷◌, ◌++◌, Option, Some, None}
use Rattle.um_base.specs.declared.image.Image.{Image}
use Rattle.um_fine.specs.Places.{Todo, Todos, clean_pairs, cleaning, cleaning_of, emptying, is_cleaning_todo}
use Rattle.um_processor.specs.declared.cleaning.CleanStage.{CleanStage}
use Rattle.um_processor.specs.declared.cleaning.CleanStep.{CleanStep}
use Rattle.um_processor.specs.declared.cleaning.Gone.{Gone}

abbrev pub pairs_of : Option ℕ → ℕ → Todos → Todos
pairs_of None x todo = todo
pairs_of (Some who) x todo = clean_pairs who x todo

-- what is left of the first object
abbrev pub left_of : CleanStage → Gone → Todos
left_of (CleanStage.Empty x) o = pairs_of o.who x (emptying o.row)
left_of CleanStage.Vacate o = Todo.vacate o.row ∷ Todo.recycle o.row ∷ []
left_of CleanStage.Recycle o = Todo.recycle o.row ∷ []

abbrev pub whole : List Gone → Todos
whole [] = []
whole (o ∷ os) = cleaning_of o.row o.who ++ whole os

abbrev pub queued : CleanStage → List Gone → Todos
queued stage [] = []
queued stage (o ∷ os) = left_of stage o ++ whole os

abbrev pub clean_todo : CleanStep → Todo
clean_todo (CleanStep.Pair who x) = Todo.clean_pair who x
clean_todo (CleanStep.Wipe x) = Todo.wipe x
clean_todo (CleanStep.Vacate x) = Todo.vacate x
clean_todo (CleanStep.Recycle x) = Todo.recycle x

-- the steps that are left behind the first one
abbrev pub behind_first : Todos → Todos
behind_first [] = []
behind_first (Todo.clean_pair who x ∷ todo) = clean_pairs who (x + 1) todo
behind_first (q ∷ todo) = todo

-- the cleaning of a row's object, where the row came to that
abbrev pub block_if : Image → ℕ → Bool → Todos
block_if image x true = cleaning image x
block_if image x false = []

-- whether all are steps of cleaning
abbrev pub all_clean : Todos → Bool
all_clean [] = true
all_clean (q ∷ todo) = is_cleaning_todo q && all_clean todo
