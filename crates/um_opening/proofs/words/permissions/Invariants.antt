use Rattle.std.proofs.Common.{◌≡◌, ◌++◌, ◌-◌, Bool, false, replicate, take}
use Rattle.um_opening.proofs.words.permissions.Given as goal

abbrev pub invariant-loop-t : goal.invariant-loop-t
invariant-loop-t l = l.all ≡ take l.t l.flags ++ replicate {A = Bool} (32 - l.t) false
