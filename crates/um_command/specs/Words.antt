-- Which words are which command. A word is a list of bytes.
use Rattle.std.specs.Prelude.{ℕ, ◌+◌, ◌-◌, ◌*◌, ◌^◌, ◌≤◌, List, [], ◌∷◌, length, codes, bytes_eq, Bool, true, false, ◌&&◌, ◌||◌, if◌then◌else◌, Option, Some, None}
use Rattle.std.specs.Option.{option_and_then, option_map}
use Rattle.std.specs.List.{list_all}
use Rattle.um_base.specs.Lawful.{is_within}
use Rattle.um_command.specs.declared.command.Command.{Command}
use Rattle.um_command.specs.declared.command.Options.{Options}

-- 0 to 9
abbrev pub is_digit : ℕ → Bool
is_digit byte = is_within 48 57 byte

-- 1 to 20 decimal digits
abbrev pub are_digits : List ℕ → Bool
are_digits word = is_within 1 20 (length word) && list_all is_digit word

-- the number that digits spell, each by its place
abbrev pub value : List ℕ → ℕ
value [] = 0
value (digit ∷ digits) = (digit - 48) * 10 ^ length digits + value digits

abbrev pub within : ℕ → ℕ → ℕ → Option ℕ
within low high n = if is_within low high n then Some n else None

-- a number from `low` to `high`
abbrev pub number : ℕ → ℕ → List ℕ → Option ℕ
number low high word = if are_digits word then within low high (value word) else None

-- the number of a pick and of a generated description
abbrev pub any_number : List ℕ → Option ℕ
any_number word = number 0 (2 ^ 64 - 1) word

-- options, a word behind each
abbrev pub are_options : List (List ℕ) → Bool
are_options [] = true
are_options (name ∷ []) = false
are_options (name ∷ word ∷ words) = (bytes_eq name (codes "--cpus") || bytes_eq name (codes "--pick")) && are_options words

-- the words that stand behind an option's name
abbrev pub behind : List ℕ → List (List ℕ) → List (List ℕ)
behind option [] = []
behind option (name ∷ []) = []
behind option (name ∷ word ∷ words) = if bytes_eq name option then word ∷ behind option words else behind option words

-- how many processors: 1 where nothing is said, else 1 to 8, said once
abbrev pub cpus_of : List (List ℕ) → Option ℕ
cpus_of [] = Some 1
cpus_of (word ∷ []) = number 1 8 word
cpus_of (word ∷ more ∷ words) = None

-- the pick: none where nothing is said, else a number, said once
abbrev pub pick_of : List (List ℕ) → Option (Option ℕ)
pick_of [] = Some None
pick_of (word ∷ []) = option_map Some (any_number word)
pick_of (word ∷ more ∷ words) = None

abbrev pub both : Option ℕ → Option (Option ℕ) → Option Options
both (Some cpus) (Some pick) = Some (record { cpus = cpus; pick = pick })
both (Some cpus) None = None
both None pick = None

-- options in any order
abbrev pub options_of : List (List ℕ) → Option Options
options_of words = if are_options words then both (cpus_of (behind (codes "--cpus") words)) (pick_of (behind (codes "--pick") words)) else None

-- `run` with its options: it has no pick
abbrev pub threads_with : Option ℕ → ℕ → Option Command
threads_with None cpus = Some (Command.Run cpus)
threads_with (Some pick) cpus = None

abbrev pub threads_of : List (List ℕ) → Option Command
threads_of words = option_and_then (λ (options : Options). threads_with options.pick options.cpus) (options_of words)

-- a command with no words behind it
abbrev pub alone : Command → List (List ℕ) → Option Command
alone command [] = Some command
alone command (word ∷ words) = None

abbrev pub generation_of : List (List ℕ) → Option Command
generation_of [] = None
generation_of (word ∷ []) = option_map Command.Gen (any_number word)
generation_of (word ∷ more ∷ words) = None

-- the command of the program's words, its own name left out
abbrev pub command_of : List (List ℕ) → Option Command
command_of [] = None
command_of (name ∷ words) =
    if bytes_eq name (codes "sim") then option_map Command.Sim (options_of words)
    else if bytes_eq name (codes "run") then threads_of words
    else if bytes_eq name (codes "layout") then alone Command.Layout words
    else if bytes_eq name (codes "gen") then generation_of words
    else if bytes_eq name (codes "summary") then option_map Command.Summary (options_of words)
    else if bytes_eq name (codes "upgrade") then alone Command.Upgrade words
    else if bytes_eq name (codes "audit") then alone Command.Audit words
    else None

-- 1 to 8 processors
abbrev pub IsFew : Options → Type 0
IsFew options = (1 ≤ options.cpus) × (options.cpus ≤ 8)

-- where a command has options
abbrev pub HasFew : Command → Type 0
HasFew (Command.Sim options) = IsFew options
HasFew (Command.Run cpus) = (1 ≤ cpus) × (cpus ≤ 8)
HasFew Command.Layout = Unit {0}
HasFew (Command.Gen number) = Unit {0}
HasFew (Command.Summary options) = IsFew options
HasFew Command.Upgrade = Unit {0}
HasFew Command.Audit = Unit {0}
