-- Reading options one after the other, as a loop does.
use Rattle.std.proofs.Common.{◌≡◌, ℕ, suc, ◌+◌, ◌-◌, ◌<◌, ◌≤◌, List, Option, Some, None, Result, Ok, Err, refl, sym, ap, ◌∙◌, arith}
use Rattle.um_base.specs.declared.instr.Options.{Options}
use Rattle.um_script.specs.declared.fault.LineKind.{LineKind}
use Rattle.um_script.specs.Faults.{◌>>=◌}
use Rattle.um_script.specs.Operands.{cut, option, more_options}

-- what a cut of the bytes leads to
abbrev by_cut : ℕ → Options → List ℕ → Option (List ℕ × List ℕ) → Result Options LineKind
by_cut n set bytes None = option set bytes
by_cut n set bytes (Some x) = option set x.0 >>= λ more. more_options n more x.1

by_its_cut : (k : ℕ) (set : Options) (bytes : List ℕ) → k < 3 → more_options (3 - k) set bytes ≡ by_cut (3 - (k + 1)) set bytes (cut 43 bytes)
unfolding more_options
by_its_cut k set bytes lt =
    let e : 3 - k ≡ suc (3 - (k + 1)) = omega arith in
    ap (λ (n : ℕ). more_options n set bytes) e ∙ elim (cut 43 bytes) as (λ c. elim c [ None ↦ option set bytes | Some x ↦ option set x.0 >>= λ more. more_options (3 - (k + 1)) more x.1 ] ≡ by_cut (3 - (k + 1)) set bytes c) [ None ↦ refl | Some x ↦ refl ]

pub last_option : (k : ℕ) (set : Options) (bytes : List ℕ) (total : Result Options LineKind) → k < 3 → cut 43 bytes ≡ None → more_options (3 - k) set bytes ≡ total → option set bytes ≡ total
last_option k set bytes total lt none so_far =
    sym (by_its_cut k set bytes lt ∙ ap (by_cut (3 - (k + 1)) set bytes) none) ∙ so_far

pub next_option : (k : ℕ) (set more : Options) (bytes first others : List ℕ) (total : Result Options LineKind) → k < 3 → cut 43 bytes ≡ Some (first, others) → option set first ≡ Ok more
    → more_options (3 - k) set bytes ≡ total → more_options (3 - (k + 1)) more others ≡ total
next_option k set more bytes first others total lt some is so_far =
    let read : by_cut (3 - (k + 1)) set bytes (Some (first, others)) ≡ more_options (3 - (k + 1)) more others = rw is refl in
    sym (by_its_cut k set bytes lt ∙ ap (by_cut (3 - (k + 1)) set bytes) some ∙ read) ∙ so_far

pub bad_option : (k : ℕ) (set : Options) (fault : LineKind) (bytes first others : List ℕ) (total : Result Options LineKind) → k < 3 → cut 43 bytes ≡ Some (first, others) → option set first ≡ Err fault
    → more_options (3 - k) set bytes ≡ total → Err fault ≡ total
bad_option k set fault bytes first others total lt some is so_far =
    let read : by_cut (3 - (k + 1)) set bytes (Some (first, others)) ≡ Err fault = rw is refl in
    sym (by_its_cut k set bytes lt ∙ ap (by_cut (3 - (k + 1)) set bytes) some ∙ read) ∙ so_far

pub many_options : (k : ℕ) (set : Options) (bytes : List ℕ) (total : Result Options LineKind) → 3 ≤ k → more_options (3 - k) set bytes ≡ total → Err LineKind.Operand ≡ total
unfolding more_options
many_options k set bytes total le so_far =
    let e : 3 - k ≡ 0 = omega arith in
    let one : more_options (3 - k) set bytes ≡ Err LineKind.Operand = rw e refl in
    sym one ∙ so_far
