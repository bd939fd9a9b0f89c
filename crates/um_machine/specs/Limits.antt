-- The limits of what objects keep, and of what the steps that are left ask for.
use Rattle.std.specs.Prelude.{Bool, true, false, ◌&&◌, nat_le, IsTrue}
use Rattle.um_base.specs.declared.ask.Ask.{Ask}
use Rattle.um_base.specs.declared.image.Setup.{Setup}
use Rattle.um_machine.specs.declared.pending.Pending.{Pending}

-- whether a setup keeps the greatest numbers of messages, values and bytes
abbrev pub is_in_limits : Setup → Bool
is_in_limits (Setup.Msgq size most) = nat_le most 64
is_in_limits (Setup.Stack most) = nat_le most 64
is_in_limits (Setup.Pipe size) = nat_le size 256
is_in_limits _ = true

-- whether an initialisation keeps them
abbrev pub is_sound_ask : Ask → Bool
is_sound_ask (Ask.MsgqInit size most pool) = nat_le size 256 && nat_le most 64
is_sound_ask (Ask.StackInit most pool) = nat_le most 64
is_sound_ask (Ask.PipeInit size pool) = nat_le size 256
is_sound_ask _ = true

-- whether a step is one of an instruction, loads a word at most, and initialises within the limits
abbrev pub is_sound : Pending → Bool
is_sound Pending.Begin = false
is_sound Pending.Exit = false
is_sound (Pending.Load to addr size) = nat_le size 4
is_sound (Pending.Work addr ask) = is_sound_ask ask
is_sound _ = true

abbrev pub IsSound : Pending → Type 0
IsSound step = IsTrue (is_sound step)
