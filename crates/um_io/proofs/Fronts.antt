-- What is left behind a read, and what was taken by several writes.
use Rattle.std.proofs.Common.{◌≡◌, ℕ, ◌+◌, ◌-◌, ◌<◌, ◌≤◌, min, List, [], ◌++◌, length, take, drop, sym, ap, ◌∙◌, arith, length-append, length-drop}
use Rattle.std.specs.Prelude.{Option}
use Rattle.std.specs.Io.KnownBytes.{Appends}
use Rattle.std.proofs.KnownBytes.{Appends-trans}
use Rattle.std.proofs.Math.Seq.{take-add}
use Rattle.std.proofs.lemmas.List.{take_at, take_rest, drop-drop, take-append-drop, nil_from_length}
use Rattle.um_io.specs.Bytes.{AppendsFront}

-- the first part, and then a part of the rest
pub appends_next : (a b c : Option (List ℕ)) (bytes : List ℕ) (done n : ℕ)
    → Appends a b (take done bytes)
    → Appends b c (take n (take (length bytes - done) (drop done bytes)))
    → Appends a c (take (done + n) bytes)
appends_next a b c bytes done n first next =
    let rest = rw take_rest at next in
    rw (take-add done n bytes) (Appends-trans a b c (take done bytes) (take n (drop done bytes)) first rest)

-- the first part, and then a front of the rest
pub front_next : (a b c : Option (List ℕ)) (bytes : List ℕ) (done : ℕ) → done ≤ length bytes
    → Appends a b (take done bytes)
    → AppendsFront b c (take (length bytes - done) (drop done bytes))
    → AppendsFront a c bytes
front_next a b c bytes done within first next =
    let rest = ap length (take_rest bytes done) in
    let fits : next.0 ≤ length bytes - done = omega (arith, next.1, rest, length-drop done bytes) in
    (done + next.0, omega arith, appends_next a b c bytes done next.0 first next.2)

-- the n bytes that a read gave, and then what is left
pub read_front : (bytes into given : List ℕ) (at n : ℕ)
    → given ≡ take n (take (length bytes - at) (drop at bytes)) → length given ≡ n
    → drop at bytes ≡ take n (given ++ drop n into) ++ drop (at + n) bytes
read_front bytes into given at n is len =
    let front : given ≡ take n (drop at bytes) = is ∙ ap (take n) (take_rest bytes at) in
    let split = sym (take-append-drop n (drop at bytes)) in
    rw (take_at given (drop n into) n len, front, ← drop-drop n at bytes) split

-- a read with room that gave no byte left none
pub read_end : (bytes into given : List ℕ) (at least n piece : ℕ) → 0 < piece → length given ≡ n
    → least ≡ min (length into) (length (take (length bytes - at) (drop at bytes)))
    → n ≡ min least piece → n ≡ 0 → 0 < length (given ++ drop n into) → drop (at + n) bytes ≡ []
read_end bytes into given at least n piece some len least_is is none room =
    let left = ap length (take_rest bytes at) in
    let filled = length-append given (drop n into) in
    nil_from_length (drop (at + n) bytes)
    (omega (arith, left, filled, length-drop n into, length-drop at bytes, length-drop (at + n) bytes))
