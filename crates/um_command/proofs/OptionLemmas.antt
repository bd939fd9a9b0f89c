-- One option more, and how many processors the options give.
use Rattle.std.proofs.Common.{◌≡◌, ◌∙◌, ℕ, ◌≤◌, ◌-◌, Bool, true, false, ◌&&◌, ◌||◌, List, [], ◌∷◌, length, map, take, drop, get_or, Option, Some, None, refl, sym, ap, subst, arith, string_bytes, Global}
use Rattle.std.specs.Prelude.{MatchOption, IfSome, if◌then◌else◌, bytes_eq, codes, String}
use Rattle.std.specs.Option.{option_map}
use Rattle.std.proofs.Math.Seq.{take-length}
use Rattle.std.proofs.lemmas.Slice.Eq.{bytes_eq-Decides}
use Rattle.um_command.specs.declared.command.Options.{Options}
use Rattle.um_command.specs.declared.reading.Given.{Given}
use Rattle.um_command.specs.Words.{are_options, behind, cpus_of, pick_of, both, within, number, any_number, are_digits, value, options_of, IsFew}
use Rattle.um_command.specs.Reading.{cpus_behind, pick_behind, with_cpus, with_cpus_at, with_pick, with_pick_at, options_behind, with_option}

abbrev told : Bool → Option ℕ → Option (Option ℕ) → Option Options
told are cpus pick = if are then both cpus pick else None

no_cpus : (are : Bool) (pick : Option (Option ℕ)) → None ≡ told are None pick
no_cpus true pick = refl
no_cpus false pick = refl

no_pick : (are : Bool) (cpus : Option ℕ) → None ≡ told are cpus None
no_pick true None = refl
no_pick true (Some cpus) = refl
no_pick false cpus = refl

cpus_said : (word : List ℕ) (words : List (List ℕ)) (n : ℕ) → number 1 8 word ≡ Some n → cpus_of (word ∷ words) ≡ cpus_behind (Some n) words
cpus_said word [] n is = is
cpus_said word (more ∷ words) n is = refl

cpus_wrong : (word : List ℕ) (words : List (List ℕ)) → number 1 8 word ≡ None → cpus_of (word ∷ words) ≡ None
cpus_wrong word [] is = is
cpus_wrong word (more ∷ words) is = refl

pick_said : (word : List ℕ) (words : List (List ℕ)) (n : ℕ) → any_number word ≡ Some n → pick_of (word ∷ words) ≡ pick_behind (Some n) words
pick_said word [] n is = ap (option_map Some) is
pick_said word (more ∷ words) n is = refl

pick_wrong : (word : List ℕ) (words : List (List ℕ)) → any_number word ≡ None → pick_of (word ∷ words) ≡ None
pick_wrong word [] is = ap (option_map Some) is
pick_wrong word (more ∷ words) is = refl

-- what all options are is what the ones behind are, with one more read
abbrev Reads : Option Given → Bool → List (List ℕ) → List (List ℕ) → Option Options → Type 0
Reads next are cpus picks all = MatchOption next (None ≡ all) (λ given. told are (cpus_behind given.cpus cpus) (pick_behind given.pick picks) ≡ all)

reads_cpus : (are : Bool) (cpus pick : Option ℕ) (word : List ℕ) (words picks : List (List ℕ)) (n : Option ℕ) → number 1 8 word ≡ n
    → Reads (with_cpus_at cpus pick n) are words picks (told are (cpus_behind cpus (word ∷ words)) (pick_behind pick picks))
reads_cpus are None pick word words picks (Some n) is = ap (λ c. told are c (pick_behind pick picks)) (sym (cpus_said word words n is))
reads_cpus are None pick word words picks None is = no_cpus are (pick_behind pick picks) ∙ ap (λ c. told are c (pick_behind pick picks)) (sym (cpus_wrong word words is))
reads_cpus are (Some cpus) pick word words picks n is = no_cpus are (pick_behind pick picks)

reads_pick : (are : Bool) (cpus pick : Option ℕ) (word : List ℕ) (words picks : List (List ℕ)) (n : Option ℕ) → any_number word ≡ n
    → Reads (with_pick_at cpus pick n) are words picks (told are (cpus_behind cpus words) (pick_behind pick (word ∷ picks)))
reads_pick are cpus None word words picks (Some n) is = ap (told are (cpus_behind cpus words)) (sym (pick_said word picks n is))
reads_pick are cpus None word words picks None is = no_pick are (cpus_behind cpus words) ∙ ap (told are (cpus_behind cpus words)) (sym (pick_wrong word picks is))
reads_pick are cpus (Some pick) word words picks n is = no_pick are (cpus_behind cpus words)

-- by the tests of an option's name
reads_by : (is_cpus is_pick are : Bool) → (is_cpus ≡ true → is_pick ≡ false) → (given : Given) (word : List ℕ) (words picks : List (List ℕ))
    → Reads (if is_cpus then with_cpus given (number 1 8 word) else if is_pick then with_pick given (any_number word) else None) are words picks
    (told ((is_cpus || is_pick) && are) (cpus_behind given.cpus (if is_cpus then word ∷ words else words)) (pick_behind given.pick (if is_pick then word ∷ picks else picks)))
reads_by true true are one given word words picks = absurd (let bad : true ≡ false = one refl in cc)
reads_by true false are one given word words picks = reads_cpus are given.cpus given.pick word words picks (number 1 8 word) refl
reads_by false true are one given word words picks = reads_pick are given.cpus given.pick word words picks (any_number word) refl
reads_by false false are one given word words picks = refl

one_name : (name : List ℕ) → bytes_eq name (codes "--cpus") ≡ true → bytes_eq name (codes "--pick") ≡ false
one_name name is = subst (λ n. bytes_eq n (codes "--pick") ≡ false) (sym ((bytes_eq-Decides name (codes "--cpus")).0 is)) refl

abbrev ReadsFirst : Option Given → List (List ℕ) → Option Options → Type 0
ReadsFirst next words all = MatchOption next (None ≡ all) (λ given. options_behind given words ≡ all)

reads_one : (given : Given) (name word : List ℕ) (words : List (List ℕ)) → ReadsFirst (with_option given name word) words (options_behind given (name ∷ word ∷ words))
reads_one given name word words =
    reads_by (bytes_eq name (codes "--cpus")) (bytes_eq name (codes "--pick")) (are_options words) (one_name name) given word (behind (codes "--cpus") words) (behind (codes "--pick") words)

-- the first two words of a list are an option, and the rest is what stands behind it
pub reads_first : (given : Given) (words : List (String Global)) (name word : String Global) → 2 ≤ length words → name ≡ get_or words 0 name → word ≡ get_or words 1 word
    → ReadsFirst (with_option given (string_bytes name) (string_bytes word)) (map string_bytes (take (length words - 2) (drop 2 words))) (options_behind given (map string_bytes words))
reads_first given [] name word two is_name is_word = absurd (omega arith)
reads_first given (n ∷ []) name word two is_name is_word = absurd (omega arith)
reads_first given (n ∷ w ∷ words) name word two is_name is_word =
    let rest : take (length (n ∷ w ∷ words) - 2) words ≡ words = let short : length (n ∷ w ∷ words) - 2 ≡ length words = omega arith in rw short (take-length words) in
    rw (is_name, is_word, rest) (reads_one given (string_bytes n) (string_bytes w) (map string_bytes words))

-- a name with no word behind it
pub reads_alone : (given : Given) (words : List (String Global)) → 1 ≤ length words → length words ≤ 1 → None ≡ options_behind given (map string_bytes words)
reads_alone given [] some few = absurd (omega arith)
reads_alone given (n ∷ []) some few = refl
reads_alone given (n ∷ w ∷ words) some few = absurd (omega arith)

within_holds : (low high n : ℕ) → IfSome (within low high n) (λ m. (low ≤ m) × (m ≤ high))
within_holds low high n = grind (arith)

number_by : (are : Bool) (low high n : ℕ) → IfSome (if are then within low high n else None) (λ m. (low ≤ m) × (m ≤ high))
number_by true low high n = within_holds low high n
number_by false low high n = tt

some_cpus : (words : List (List ℕ)) → IfSome (cpus_of words) (λ n. (1 ≤ n) × (n ≤ 8))
some_cpus [] = (omega arith, omega arith)
some_cpus (word ∷ []) = number_by (are_digits word) 1 8 (value word)
some_cpus (word ∷ more ∷ words) = tt

few_told : (are : Bool) (cpus : Option ℕ) (pick : Option (Option ℕ)) → IfSome cpus (λ n. (1 ≤ n) × (n ≤ 8)) → IfSome (told are cpus pick) IsFew
few_told true (Some cpus) (Some pick) few = few
few_told true (Some cpus) None few = tt
few_told true None pick few = tt
few_told false cpus pick few = tt

-- options give 1 to 8 processors
pub few_processors : (words : List (List ℕ)) → IfSome (options_of words) IsFew
few_processors words = few_told (are_options words) (cpus_of (behind (codes "--cpus") words)) (pick_of (behind (codes "--pick") words)) (some_cpus (behind (codes "--cpus") words))
