-- Which words are which command. A word is a list of bytes.
use Rattle.std.specs.Prelude.{ℕ, ◌-◌, ◌^◌, ◌≤◌, List, [], ◌∷◌, codes, bytes_eq, if◌then◌else◌, Option, Some, None}
use Rattle.std.specs.Option.{option_map}
use Rattle.um_answers.specs.declared.command.Command.{Command}
use Rattle.um_command.specs.Words.{number}

-- how many states are kept at most, where no word says it
abbrev pub usual_states : ℕ
usual_states = 4000000

-- a number of states: 1 to 4294967295
abbrev pub states_number : List ℕ → Option ℕ
states_number word = number 1 (2 ^ 32 - 1) word

-- what an option says, with the word behind it
abbrev pub option_of : List ℕ → List ℕ → Option ℕ
option_of name word = if bytes_eq name (codes "--states") then states_number word else None

-- how many states are kept at most: `--states` and a number, or nothing
abbrev pub states_of : List (List ℕ) → Option ℕ
states_of [] = Some usual_states
states_of (name ∷ []) = None
states_of (name ∷ word ∷ []) = option_of name word
states_of (name ∷ word ∷ more ∷ words) = None

-- `find`, with what is asked and its option
abbrev pub find_of : List (List ℕ) → Option Command
find_of [] = None
find_of (event ∷ words) = option_map Command.Find (states_of words)

-- `ends`, with its option
abbrev pub ends_of : List (List ℕ) → Option Command
ends_of words = option_map Command.Ends (states_of words)

-- `next`, with no words behind it
abbrev pub next_of : List (List ℕ) → Option Command
next_of [] = Some Command.Next
next_of (word ∷ words) = None

-- the command of the program's words, its own name left out
abbrev pub command_of : List (List ℕ) → Option Command
command_of [] = None
command_of (name ∷ words) =
    if bytes_eq name (codes "find") then find_of words
    else if bytes_eq name (codes "ends") then ends_of words
    else if bytes_eq name (codes "next") then next_of words
    else None

-- what is asked: the word behind `find`
abbrev pub event_in : List (List ℕ) → List ℕ
event_in [] = []
event_in (name ∷ []) = []
event_in (name ∷ event ∷ words) = event

-- where a command says how many states are kept, fewer than 2 ^ 32
abbrev pub HasFew : Command → Type 0
HasFew (Command.Find states) = states ≤ 2 ^ 32 - 1
HasFew (Command.Ends states) = states ≤ 2 ^ 32 - 1
HasFew Command.Next = Unit {0}
