-- Which processor is preferred at each turn.
use Rattle.std.specs.Prelude.{ℕ, zero, suc, ◌+◌, ◌%◌, List, [], ◌∷◌, Option, Some, None}
use Rattle.rand_core.specs.Pcg32Seed.{pcg32_seed}
use Rattle.rand_pcg.specs.Lcg.{Lcg}
use Rattle.rand_pcg.specs.Pcg.{pcg32, pcg32_of_seed}
use Rattle.um_core.specs.declared.order.Order.{Order}

-- The processors at n turns from turn i on, one after another, going round.
abbrev pub round_from : ℕ → ℕ → ℕ → List ℕ
round_from cpus i zero = []
round_from cpus i (suc n) = i % cpus ∷ round_from cpus (i + 1) n

-- As the words of a generator fall, at n turns.
abbrev pub drawn_from : ℕ → Lcg → ℕ → List ℕ
drawn_from cpus words zero = []
drawn_from cpus words (suc n) = (pcg32 words).0 % cpus ∷ drawn_from cpus (pcg32 words).1 n

-- the generator PCG XSH RR 64/32 of a seed
unfoldable pub seeded : ℕ → Lcg
seeded seed = pcg32_of_seed (pcg32_seed 16 seed)

-- The processors that are preferred at the first n turns: round and round from processor 0 on, or as the words of the generator of
-- a seed fall.
abbrev pub preferred : ℕ → Option ℕ → ℕ → List ℕ
preferred cpus None n = round_from cpus 0 n
preferred cpus (Some seed) n = drawn_from cpus (seeded seed) n

-- the processors that an order prefers at its next n turns
abbrev pub coming : ℕ → Order → ℕ → List ℕ
coming cpus (Order.Round next) n = round_from cpus next n
coming cpus (Order.Drawn words) n = drawn_from cpus words n
