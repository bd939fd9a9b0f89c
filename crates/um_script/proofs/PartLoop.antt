-- Reading partitions one after the other, as a loop does.
use Rattle.std.proofs.Common.{◌≡◌, ℕ, suc, ◌+◌, ◌-◌, ◌<◌, ◌≤◌, List, [], ◌∷◌, ◌++◌, Result, Ok, Err, MatchResult, refl, sym, ap, ◌∙◌, append_assoc, arith}
use Rattle.std.proofs.lemmas.List.{append-nil}
use Rattle.um_base.specs.declared.names.PartRef.{PartRef}
use Rattle.um_script.specs.declared.fault.LineFault.{LineFault}
use Rattle.um_script.specs.declared.fault.LineKind.{LineKind}
use Rattle.um_script.specs.Faults.{◌>>=◌}
use Rattle.um_script.specs.Operands.{part, parts}
use Rattle.um_script.specs.Words.{Words, ends, word}

-- those that were read before, and those that are still read
abbrev pub with_front : List PartRef → Result (List PartRef × Words) LineFault → Result (List PartRef × Words) LineFault
with_front front read = read >>= λ x. Ok (front ++ x.0, x.1)

regroup : (front : List PartRef) (p : PartRef) (read : Result (List PartRef × Words) LineFault) → with_front front (read >>= λ x. Ok (p ∷ x.0, x.1)) ≡ with_front (front ++ p ∷ []) read
regroup front p (Ok x) = ap (λ (ps : List PartRef). Ok (ps, x.1)) (simp append_assoc)
regroup front p (Err e) = refl

-- what came of a word that was placed
pub placed_ok : (read : Result PartRef LineKind) (p : PartRef) (column : ℕ)
    → MatchResult read (λ x. ◌≡◌ {A = Result PartRef LineFault} (Ok p) (Ok x)) (λ k. ◌≡◌ {A = Result PartRef LineFault} (Ok p) (Err (record { kind = k; column = column })))
    → read ≡ Ok p
placed_ok (Ok x) p column h = cc
placed_ok (Err k) p column h = absurd cc

pub placed_err : (read : Result PartRef LineKind) (fault : LineFault) (column : ℕ)
    → MatchResult read (λ x. ◌≡◌ {A = Result PartRef LineFault} (Err fault) (Ok x)) (λ k. ◌≡◌ {A = Result PartRef LineFault} (Err fault) (Err (record { kind = k; column = column })))
    → (kind : LineKind) × (read ≡ Err kind) × (fault ≡ record { kind = kind; column = column })
placed_err (Ok x) fault column h = absurd cc
placed_err (Err k) fault column h = (k, refl, cc)

pub next_part : (front : List PartRef) (k : ℕ) (words : Words) (bytes : List ℕ) (column : ℕ) (rest : Words) (p : PartRef) (total : Result (List PartRef × Words) LineFault) → k < 4
    → words ≡ word bytes column rest → part bytes ≡ Ok p → with_front front (parts (4 - k) words) ≡ total → with_front (front ++ p ∷ []) (parts (4 - (k + 1)) rest) ≡ total
unfolding parts
next_part front k words bytes column rest p total lt is read so_far =
    let e : 4 - k ≡ suc (4 - (k + 1)) = omega arith in
    let one : with_front front (parts (4 - k) words) ≡ with_front (front ++ p ∷ []) (parts (4 - (k + 1)) rest) = rw (e, is, read) (regroup front p (parts (4 - (k + 1)) rest)) in
    sym one ∙ so_far

pub bad_part : (front : List PartRef) (k : ℕ) (words : Words) (bytes : List ℕ) (column : ℕ) (rest : Words) (kind : LineKind) (total : Result (List PartRef × Words) LineFault) → k < 4
    → words ≡ word bytes column rest → part bytes ≡ Err kind → with_front front (parts (4 - k) words) ≡ total → total ≡ Err (record { kind = kind; column = column })
unfolding parts
bad_part front k words bytes column rest kind total lt is read so_far =
    let e : 4 - k ≡ suc (4 - (k + 1)) = omega arith in
    let one : with_front front (parts (4 - k) words) ≡ Err (record { kind = kind; column = column }) = rw (e, is, read) refl in
    sym so_far ∙ one

pub last_part : (front : List PartRef) (k : ℕ) (words : Words) (column : ℕ) (total : Result (List PartRef × Words) LineFault) → k < 4
    → words ≡ ends column → with_front front (parts (4 - k) words) ≡ total → total ≡ Ok (front, ends column)
unfolding parts
last_part front k words column total lt is so_far =
    let e : 4 - k ≡ suc (4 - (k + 1)) = omega arith in
    let one : with_front front (parts (4 - k) words) ≡ Ok (front, ends column) = rw (e, is) (ap (λ (ps : List PartRef). Ok (ps, ends column)) (append-nil front)) in
    sym so_far ∙ one

pub all_parts : (front : List PartRef) (k : ℕ) (words : Words) (total : Result (List PartRef × Words) LineFault) → 4 ≤ k → with_front front (parts (4 - k) words) ≡ total → total ≡ Ok (front, words)
unfolding parts
all_parts front k words total le so_far =
    let e : 4 - k ≡ 0 = omega arith in
    let one : with_front front (parts (4 - k) words) ≡ Ok (front, words) = rw e (ap (λ (ps : List PartRef). Ok (ps, words)) (append-nil front)) in
    sym so_far ∙ one
