-- The lives of the object at an address: it is born, it loses its last pair, and it is recycled (Zephyr: User Mode, Kernel Objects).
use Rattle.std.specs.Prelude.{◌≡◌, ℕ, ◌==◌, if◌then◌else◌, List, [], ◌∷◌, ◌++◌}
use Rattle.um_base.specs.declared.act.Act.{Act}
use Rattle.um_base.specs.declared.act.Event.{Event}
use Rattle.um_base.specs.declared.act.Leftover.{Leftover}
use Rattle.um_base.specs.declared.names.Addr.{Addr}

pub data Mark : Type 0 where
  born : Mark
  gone : Mark
  recycled : Mark

-- what an act is in the life of the object at an address
abbrev pub act_marks : ℕ → Act → List Mark
act_marks a (Act.Born b) = if b.0 == a then born ∷ [] else []
act_marks a (Act.DropPair who b Leftover.Gone) = if b.0 == a then gone ∷ [] else []
act_marks a (Act.Recycle b) = if b.0 == a then recycled ∷ [] else []
act_marks a act = []

abbrev pub marks : ℕ → List Event → List Mark
marks a [] = []
marks a (event ∷ events) = act_marks a event.act ++ marks a events

-- what comes next in a life
abbrev pub next : Mark → Mark
next born = gone
next gone = recycled
next recycled = born

-- the marks come in turns, the first of them being this one
abbrev pub InTurns : Mark → List Mark → Type 0
InTurns due [] = Unit {0}
InTurns due (mark ∷ marks) = (mark ≡ due) × InTurns (next due) marks

-- the last two of these marks are a birth and the loss of the last pair
abbrev pub WasBornAndGone : List Mark → Type 0
WasBornAndGone marks = (earlier : List Mark) × (marks ≡ earlier ++ born ∷ gone ∷ [])

-- none of these events is a birth of the object at an address
abbrev pub IsWithoutBirth : Addr → List Event → Type 0
IsWithoutBirth a [] = Unit {0}
IsWithoutBirth a (event ∷ events) = ¬ (event.act ≡ Act.Born a) × IsWithoutBirth a events
