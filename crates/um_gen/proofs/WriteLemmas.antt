-- Pieces one behind the other.
use Rattle.std.proofs.Common.{◌≡◌, ℕ, suc, ◌+◌, ◌*◌, ◌≤◌, List, [], ◌∷◌, ◌++◌, refl, sym, ap, ◌∙◌, arith, append_assoc}
use Rattle.std.proofs.Math.Nat.{mul-suc}
use Rattle.std.proofs.lemmas.List.{append-nil}
use Rattle.rand_pcg.specs.Lcg.{Lcg}
use Rattle.um_gen.specs.Pieces.{Piece, in_turn, each, Writes}
use Rattle.um_gen.specs.declared.writer.Writer.{Writer}

-- the last piece of some
pub writes_last : {a b : Writer} {p : Piece} {m : ℕ} → Writes a b p m → Writes a b (in_turn (p ∷ [])) m
unfolding in_turn
writes_last w = record { items = w.items; random = w.random; len = w.len; capacity = w.capacity }

-- a piece, and then the rest of some
pub writes_then : {a b c : Writer} {p : Piece} {m n : ℕ} (q : Piece) (ps : List Piece) → Writes a b p m → Writes b c (in_turn (q ∷ ps)) n → Writes a c (in_turn (p ∷ q ∷ ps)) (m + n)
unfolding in_turn
writes_then {a = a} {b = b} {p = p} q ps w v = record {
  items = v.items ∙ ap (λ (g : Lcg). b.text.items ++ (in_turn (q ∷ ps) g).0) w.random
      ∙ ap (λ (xs : List ℕ). xs ++ (in_turn (q ∷ ps) (p a.random).1).0) w.items
      ∙ append_assoc a.text.items (p a.random).0 (in_turn (q ∷ ps) (p a.random).1).0;
  random = v.random ∙ ap (λ (g : Lcg). (in_turn (q ∷ ps) g).1) w.random;
  len = omega (arith, w.len, v.len);
  capacity = omega (arith, w.capacity, v.capacity);
}

-- within a greater bound
pub writes_within : {a b : Writer} {p : Piece} {m n : ℕ} → Writes a b p m → m ≤ n → Writes a b p n
writes_within w h = record { items = w.items; random = w.random; len = omega (arith, w.len); capacity = w.capacity }

-- none of the pieces for numbers
pub writes_none : (piece : ℕ → Piece) (most : ℕ) (a : Writer) → Writes a a (each piece 0) (most * 0)
unfolding each
writes_none piece most a = record { items = sym (append-nil a.text.items); random = refl; len = omega arith; capacity = omega arith }

-- and one more of them
pub writes_more : (piece : ℕ → Piece) (most k : ℕ) (a b c : Writer) → Writes a b (each piece k) (most * k) → Writes b c (piece k) most → Writes a c (each piece (k + 1)) (most * (k + 1))
unfolding each
writes_more piece most k a b c w v =
    let same : k + 1 ≡ suc k = omega arith in
    let before : List ℕ = (each piece k a.random).0 in
    let last : List ℕ = (piece k (each piece k a.random).1).0 in
    let both : Writes a c (each piece (suc k)) (most * k + most) = record {
      items = v.items ∙ ap (λ (g : Lcg). b.text.items ++ (piece k g).0) w.random ∙ ap (λ (xs : List ℕ). xs ++ last) w.items ∙ append_assoc a.text.items before last;
      random = v.random ∙ ap (λ (g : Lcg). (piece k g).1) w.random;
      len = omega (arith, w.len, v.len);
      capacity = omega (arith, w.capacity, v.capacity);
    } in
    rw same (writes_within both (omega (arith, mul-suc most k)))
