-- Draws: the words of the generator PCG XSH RR 64/32 from a number, each modulo what is asked.
use Rattle.std.specs.Prelude.{ℕ, ◌%◌}
use Rattle.rand_core.specs.Pcg32Seed.{pcg32_seed}
use Rattle.rand_pcg.specs.Lcg.{Lcg}
use Rattle.rand_pcg.specs.Pcg.{pcg32, pcg32_of_seed}

-- the generator of a number
unfoldable pub started_from : ℕ → Lcg
started_from number = pcg32_of_seed (pcg32_seed 16 number)

-- its next word modulo k
unfoldable pub draw : ℕ → Lcg → ℕ
draw k g = (pcg32 g).0 % k

-- the generator after a draw
unfoldable pub drawn : Lcg → Lcg
drawn g = (pcg32 g).1
