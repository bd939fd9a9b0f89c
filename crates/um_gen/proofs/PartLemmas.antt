-- Parts of a text, from the first on.
use Rattle.std.proofs.Common.{◌≡◌, ℕ, ◌+◌, ◌<◌, ◌≤◌, List, [], ◌∷◌, ◌++◌, length, drop, get_or, refl, sym, ap, ◌∙◌, arith, append_assoc, vec_len, vec_capacity}
use Rattle.std.specs.List.{sum_by}
use Rattle.std.proofs.lemmas.List.{append-nil, drop_more, drop_all}
use Rattle.std.proofs.lemmas.List.Sums.{sum_by-drop_more}
use Rattle.rand_pcg.specs.Lcg.{Lcg}
use Rattle.um_gen.specs.declared.parts.Part.{Part}
use Rattle.um_gen.specs.declared.writer.Writer.{Writer}
use Rattle.um_gen.specs.Parts.{part_piece, parts_piece, part_room}
use Rattle.um_gen.specs.Pieces.{in_turn, Writes}

-- a part, and what is behind it
parts_text : (n : ℕ) (part : Part) (parts : List Part) (g : Lcg)
    → (parts_piece (part ∷ parts) n g).0 ≡ (part_piece n part g).0 ++ (parts_piece parts n (part_piece n part g).1).0
unfolding in_turn
parts_text n part [] g = sym (append-nil (part_piece n part g).0)
parts_text n part (next ∷ parts) g = refl

parts_random : (n : ℕ) (part : Part) (parts : List Part) (g : Lcg) → (parts_piece (part ∷ parts) n g).1 ≡ (parts_piece parts n (part_piece n part g).1).1
unfolding in_turn
parts_random n part [] g = refl
parts_random n part (next ∷ parts) g = refl

-- where k of the parts were put: what stands there, and what the others are, is the whole
pub record PutSoFar (parts : List Part) (n : ℕ) (old new : Writer) (k : ℕ) : Type 0 where
  pub items : new.text.items ++ (parts_piece (drop k parts) n new.random).0 ≡ old.text.items ++ (parts_piece parts n old.random).0
  pub random : (parts_piece (drop k parts) n new.random).1 ≡ (parts_piece parts n old.random).1
  pub len : vec_len new.text + sum_by part_room (drop k parts) ≤ vec_len old.text + sum_by part_room parts
  pub capacity : vec_capacity old.text ≤ vec_capacity new.text

pub put_at_first : (parts : List Part) (n : ℕ) (a : Writer) → PutSoFar parts n a a 0
put_at_first parts n a = record { items = refl; random = refl; len = omega arith; capacity = omega arith }

pub put_more : (parts : List Part) (n : ℕ) (a b c : Writer) (k : ℕ) (d : Part) → k < length parts → PutSoFar parts n a b k
    → Writes b c (part_piece n (get_or parts k d)) (part_room (get_or parts k d)) → PutSoFar parts n a c (k + 1)
put_more parts n a b c k d some h w =
    let part = get_or parts k d in
    let rest = drop (k + 1) parts in
    let split = drop_more parts k d some in
    record {
      items = ap (λ (g : Lcg). c.text.items ++ (parts_piece rest n g).0) w.random
          ∙ ap (λ (xs : List ℕ). xs ++ (parts_piece rest n (part_piece n part b.random).1).0) w.items
          ∙ append_assoc b.text.items (part_piece n part b.random).0 (parts_piece rest n (part_piece n part b.random).1).0
          ∙ ap (λ (xs : List ℕ). b.text.items ++ xs) (sym (parts_text n part rest b.random))
          ∙ ap (λ (ps : List Part). b.text.items ++ (parts_piece ps n b.random).0) (sym split) ∙ h.items;
      random = ap (λ (g : Lcg). (parts_piece rest n g).1) w.random ∙ sym (parts_random n part rest b.random)
          ∙ ap (λ (ps : List Part). (parts_piece ps n b.random).1) (sym split) ∙ h.random;
      len = omega (arith, w.len, h.len, sum_by-drop_more part_room parts k d some);
      capacity = omega (arith, w.capacity, h.capacity);
    }

pub room_for_next : (parts : List Part) (n : ℕ) (a b : Writer) (k : ℕ) (d : Part) → k < length parts → PutSoFar parts n a b k
    → vec_len a.text + sum_by part_room parts ≤ vec_capacity a.text → vec_len b.text + part_room (get_or parts k d) ≤ vec_capacity b.text
room_for_next parts n a b k d some h room =
    omega (arith, sum_by-drop_more part_room parts k d some, h.len, h.capacity, room)

pub put_all : (parts : List Part) (n : ℕ) (a b : Writer) (k : ℕ) → length parts ≤ k → PutSoFar parts n a b k → Writes a b (parts_piece parts n) (sum_by part_room parts)
unfolding in_turn
put_all parts n a b k all h =
    let none = drop_all k parts all in
    record {
      items = sym (append-nil b.text.items) ∙ ap (λ (ps : List Part). b.text.items ++ (parts_piece ps n b.random).0) (sym none) ∙ h.items;
      random = ap (λ (ps : List Part). (parts_piece ps n b.random).1) (sym none) ∙ h.random;
      len = omega (arith, h.len);
      capacity = h.capacity;
    }
