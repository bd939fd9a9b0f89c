-- The weight of a long script: each line counts as often as it is made.
use Rattle.std.specs.Prelude.{◌≡◌, ℕ, [], ◌∷◌, ◌++◌, replicate, codes, refl}
use Rattle.um_base.specs.declared.image.Image.{Image}
use Rattle.um_base.specs.declared.instr.Instr.{Instr}
use Rattle.um_base.specs.declared.names.Term.TheVariants as Term
use Rattle.um_base.specs.Weight.{weight}
use Rattle.um_worked_runs.specs.LastByte.{image}

abbrev pub set_line : Instr
set_line = Instr.Set 0 (Term.Num 0)

-- 99 lines a thousand times, one line 940 times, and so many more
abbrev pub long_script : ℕ → Image
long_script more =
    record image {
      scripts =
          record {
            name = codes "m";
            lines = Instr.Repeat 1000 ∷ replicate 99 set_line ++ Instr.End ∷ Instr.Repeat 940 ∷ set_line ∷ Instr.End ∷ replicate more set_line;
          } ∷ [];
    }

pub at_the_limit : weight (long_script 0) ≡ 400000
at_the_limit = refl

pub above_it : weight (long_script 1) ≡ 400004
above_it = refl
