-- The sizes of loads and stores.
use Rattle.std.specs.Prelude.{Bool, true, nat_le}
use Rattle.um_base.specs.declared.instr.Instr.{Instr}

-- whether a load or a store is one of a word at most
abbrev pub is_sized : Instr → Bool
is_sized (Instr.Load to addr size) = nat_le size 4
is_sized (Instr.Store addr size value) = nat_le size 4
is_sized _ = true
