-- Options of which some have been read.
use Rattle.std.specs.Prelude.{ℕ, List, [], ◌∷◌, codes, bytes_eq, if◌then◌else◌, Option, Some, None}
use Rattle.um_command.specs.declared.command.Options.{Options}
use Rattle.um_command.specs.declared.reading.Given.{Given}
use Rattle.um_command.specs.Words.{are_options, behind, cpus_of, pick_of, both, number, any_number}

-- given first, and then by these words
abbrev pub cpus_behind : Option ℕ → List (List ℕ) → Option ℕ
cpus_behind None words = cpus_of words
cpus_behind (Some cpus) [] = Some cpus
cpus_behind (Some cpus) (word ∷ words) = None

abbrev pub pick_behind : Option ℕ → List (List ℕ) → Option (Option ℕ)
pick_behind None words = pick_of words
pick_behind (Some pick) [] = Some (Some pick)
pick_behind (Some pick) (word ∷ words) = None

abbrev pub options_behind : Given → List (List ℕ) → Option Options
options_behind given words =
    if are_options words then both (cpus_behind given.cpus (behind (codes "--cpus") words)) (pick_behind given.pick (behind (codes "--pick") words)) else None

-- once only
abbrev pub with_cpus_at : Option ℕ → Option ℕ → Option ℕ → Option Given
with_cpus_at None pick (Some n) = Some (record { cpus = Some n; pick = pick })
with_cpus_at None pick None = None
with_cpus_at (Some cpus) pick n = None

abbrev pub with_cpus : Given → Option ℕ → Option Given
with_cpus given n = with_cpus_at given.cpus given.pick n

abbrev pub with_pick_at : Option ℕ → Option ℕ → Option ℕ → Option Given
with_pick_at cpus None (Some n) = Some (record { cpus = cpus; pick = Some n })
with_pick_at cpus None None = None
with_pick_at cpus (Some pick) n = None

abbrev pub with_pick : Given → Option ℕ → Option Given
with_pick given n = with_pick_at given.cpus given.pick n

-- one option more
abbrev pub with_option : Given → List ℕ → List ℕ → Option Given
with_option given name word =
    if bytes_eq name (codes "--cpus") then with_cpus given (number 1 8 word)
    else if bytes_eq name (codes "--pick") then with_pick given (any_number word)
    else None
