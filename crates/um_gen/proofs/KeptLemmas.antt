-- Names that are kept or not, and a call that a draw chooses.
use Rattle.std.proofs.Common.{◌≡◌, ℕ, zero, suc, ◌+◌, ◌*◌, ◌<◌, ◌≤◌, Bool, true, false, cond, ◌==◌, ◌&&◌, List, [], ◌∷◌, ◌++◌, length, drop, map, get_or, refl, sym, ap, ◌∙◌, arith, append_assoc, vec_len, vec_capacity}
use Rattle.std.specs.Global.{Vec}
use Rattle.std.proofs.lemmas.Bool.Decides.{nat_tests}
use Rattle.std.proofs.lemmas.List.{append-nil, drop_all}
use denote.Ref.{Bor}
use Rattle.rand_pcg.specs.Lcg.{Lcg}
use Rattle.um_gen.specs.Draws.{draw, drawn}
use Rattle.um_gen.specs.Description.{kept, kept_text, call, receive, drawn_call}
use Rattle.um_gen.specs.Kept.{lead, name_text, following}
use Rattle.um_gen.specs.Pieces.{Writes}
use Rattle.um_gen.specs.declared.writer.Writer.{Writer}

kept_by : (b first : Bool) (name : List ℕ) (names : List (List ℕ))
    → following first (cond b names (name ∷ names)) ≡ cond b [] (lead first ++ name) ++ following (first && b) names
kept_by true true name names = refl
kept_by true false name names = refl
kept_by false true name names = refl
kept_by false false name names = refl

-- a name more
pub kept_step : (first : Bool) (name : List ℕ) (names : List (List ℕ)) (g : Lcg)
    → following first (kept (name ∷ names) g).0 ≡ (name_text first name g).0 ++ following (first && (draw 8 g == 0)) (kept names (drawn g)).0
unfolding name_text
kept_step first name names g = kept_by (draw 8 g == 0) first name (kept names (drawn g)).0

-- the call of a draw that was made
pub writes_chosen : {a b c : Writer} {m : ℕ} (i d : ℕ) → b.text ≡ a.text → b.random ≡ drawn a.random → draw 6 a.random ≡ d → Writes b c (call i d) m → Writes a c (drawn_call i) m
unfolding drawn_call
writes_chosen {a = a} {b = b} i d text random chosen w = record {
  items = w.items ∙ ap (λ (g : Lcg). b.text.items ++ (call i d g).0) random ∙ ap (λ (t : Vec ℕ). t.items ++ (call i d (drawn a.random)).0) text
      ∙ ap (λ (n : ℕ). a.text.items ++ (call i n (drawn a.random)).0) (sym chosen);
  random = w.random ∙ ap (λ (g : Lcg). (call i d g).1) random ∙ ap (λ (n : ℕ). (call i n (drawn a.random)).1) (sym chosen);
  len = omega (arith, w.len, ap (λ (t : Vec ℕ). vec_len t) text);
  capacity = omega (arith, w.capacity, ap (λ (t : Vec ℕ). vec_capacity t) text);
}

pub last_call : (i d : ℕ) → (d ≡ 0 → ⊥) → (d ≡ 1 → ⊥) → (d ≡ 2 → ⊥) → (d ≡ 3 → ⊥) → (d ≡ 4 → ⊥) → call i d ≡ receive i
last_call i d a b c e f = grind (arith, nat_tests)

-- where k of the names were looked at: what stands there, and what follows from the others, is the whole
pub record KeptSoFar (names : List (List ℕ)) (old new : Writer) (first : Bool) (k : ℕ) : Type 0 where
  pub items : new.text.items ++ following first (kept (drop k names) new.random).0 ≡ old.text.items ++ (kept_text names old.random).0
  pub random : (kept (drop k names) new.random).1 ≡ (kept names old.random).1
  pub len : vec_len new.text ≤ vec_len old.text + 6 * k
  pub capacity : vec_capacity old.text ≤ vec_capacity new.text

pub kept_at_first : (names : List (List ℕ)) (a : Writer) → KeptSoFar names a a true 0
kept_at_first names a = record { items = refl; random = refl; len = omega arith; capacity = omega arith }

pub kept_more : (names : List (List ℕ)) (a b c : Writer) (first later : Bool) (k : ℕ) (name : List ℕ)
    → KeptSoFar names a b first k → Writes b c (name_text first name) 6 → later ≡ (first && (draw 8 b.random == 0)) → drop k names ≡ name ∷ drop (k + 1) names
    → KeptSoFar names a c later (k + 1)
unfolding name_text
kept_more names a b c first later k name h w e split =
    let rest = drop (k + 1) names in
    let step = kept_step first name rest b.random in
    record {
      items = ap (λ (g : Lcg). c.text.items ++ following later (kept rest g).0) w.random ∙ ap (λ (x : Bool). c.text.items ++ following x (kept rest (drawn b.random)).0) e
          ∙ ap (λ (xs : List ℕ). xs ++ following (first && (draw 8 b.random == 0)) (kept rest (drawn b.random)).0) w.items
          ∙ append_assoc b.text.items (name_text first name b.random).0 (following (first && (draw 8 b.random == 0)) (kept rest (drawn b.random)).0)
          ∙ ap (λ (xs : List ℕ). b.text.items ++ xs) (sym step) ∙ ap (λ (xs : List (List ℕ)). b.text.items ++ following first (kept xs b.random).0) (sym split) ∙ h.items;
      random = ap (λ (g : Lcg). (kept rest g).1) w.random ∙ ap (λ (xs : List (List ℕ)). (kept xs b.random).1) (sym split) ∙ h.random;
      len = omega (arith, w.len, h.len);
      capacity = omega (arith, w.capacity, h.capacity);
    }

nothing_follows : (first : Bool) → following first [] ≡ []
nothing_follows true = refl
nothing_follows false = refl

pub kept_at_last : (names : List (List ℕ)) (a b : Writer) (first : Bool) (k : ℕ) → KeptSoFar names a b first k → drop k names ≡ [] → k ≤ length names
    → Writes a b (kept_text names) (6 * length names)
kept_at_last names a b first k h none le = record {
  items = sym (append-nil b.text.items) ∙ ap (λ (xs : List ℕ). b.text.items ++ xs) (sym (nothing_follows first))
      ∙ ap (λ (xs : List (List ℕ)). b.text.items ++ following first (kept xs b.random).0) (sym none) ∙ h.items;
  random = ap (λ (xs : List (List ℕ)). (kept xs b.random).1) (sym none) ∙ h.random;
  len = omega (arith, h.len);
  capacity = h.capacity;
}

-- the name at k, and those behind it
pub map_drop : (names : List (Bor (List ℕ))) (k : ℕ) (d : Bor (List ℕ)) → k < length names
    → drop k (map (λ (name : Bor (List ℕ)). name.now) names) ≡ (get_or names k d).now ∷ drop (k + 1) (map (λ (name : Bor (List ℕ)). name.now) names)
map_drop [] k d h = absurd (omega arith)
map_drop (name ∷ names) zero d h = refl
map_drop (name ∷ names) (suc k) d h =
    let same : suc k + 1 ≡ suc (k + 1) = omega arith in rw same (map_drop names k d (omega arith))

pub nothing_left : (names : List (List ℕ)) (k : ℕ) → length names ≤ k → drop k names ≡ []
nothing_left names k h = drop_all k names h
