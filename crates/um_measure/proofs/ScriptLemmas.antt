-- Scripts of lawful images, and what the scripts that a line names weigh.
use Rattle.std.proofs.Common.{◌≡◌, ◌<◌, ℕ, zero, suc, ◌+◌, ◌-◌, Bool, true, List, [], ◌∷◌, length, refl, arith, Option, Some, None, slice_get, slice_index, drop}
use Rattle.std.specs.Prelude.{IsTrue, nat_lt}
use Rattle.std.specs.List.{list_all}
use Rattle.std.proofs.lemmas.Bool.{false≢true, and_parts, ltb-true}
use Rattle.std.proofs.lemmas.List.{drop-drop}
use Rattle.um_base.specs.Lawful.{is_closed, outside, is_lawful_line, is_lawful_script, are_lawful_scripts, is_later, IsLawful}
use Rattle.um_base.specs.Weight.{weight_named, lines_cost, weights_from}
use Rattle.um_base.specs.declared.image.Image.{Image}
use Rattle.um_base.specs.declared.image.Script.{Script}
use Rattle.um_base.specs.declared.instr.Instr.{Instr}
use Rattle.um_base.specs.declared.names.Ref.{Ref}
use Rattle.um_machine.specs.Order.{number_of}
use Rattle.um_machine.specs.State.{lines_of, script_lines}
use Rattle.um_measure.specs.Measure.{weights_behind}
use Rattle.um_measure.proofs.SettledLemmas.{has_turn}

-- Lines.

lawful-script : (image : Image) (i : ℕ) (scripts : List Script) → IsTrue (are_lawful_scripts image i scripts) → (k : ℕ) (script : Script) → slice_get scripts k ≡ Some script → IsTrue (is_lawful_script image (i + k) script)
lawful-script image i [] h k script e = cc
lawful-script image i (s ∷ scripts) h zero script e =
    let same : s ≡ script = cc in
    let place : i + 0 ≡ i = omega arith in rw (place, ← same) (and_parts _ _ h).0
lawful-script image i (s ∷ scripts) h (suc k) script e =
    let place : i + suc k ≡ i + 1 + k = omega arith in rw place (lawful-script image (i + 1) scripts (and_parts _ _ h).1 k script e)

all-at : {A : Type 0} (p : A → Bool) (xs : List A) → list_all p xs ≡ true → (n : ℕ) (x : A) → slice_get xs n ≡ Some x → p x ≡ true
all-at p [] h n x e = cc
all-at p (y ∷ xs) h zero x e = let same : y ≡ x = cc in rw (← same) (and_parts _ _ h).0
all-at p (y ∷ xs) h (suc n) x e = all-at p xs (and_parts _ _ h).1 n x e

script-at : (image : Image) → IsLawful image → (i : ℕ) (script : Script) → slice_get image.scripts i ≡ Some script → IsTrue (is_lawful_script image i script)
script-at image lawful i script e = let place : 0 + i ≡ i = omega arith in rw place at (lawful-script image 0 image.scripts lawful.scripts i script e)

closed-of : (image : Image) → IsLawful image → (i : ℕ) (script : Option Script) → slice_get image.scripts i ≡ script → is_closed outside (lines_of script) ≡ true
closed-of image lawful i None e = refl
closed-of image lawful i (Some script) e = (and_parts _ _ (script-at image lawful i script e)).1

-- repeats are closed in each script
pub closed-lines : (image : Image) → IsLawful image → (i : ℕ) → is_closed outside (script_lines image i) ≡ true
closed-lines image lawful i = closed-of image lawful i (slice_get image.scripts i) refl

lawful-of : (image : Image) → IsLawful image → (i : ℕ) (script : Option Script) → slice_get image.scripts i ≡ script → list_all (is_lawful_line image i) (lines_of script) ≡ true
lawful-of image lawful i None e = refl
lawful-of image lawful i (Some script) e = (and_parts _ _ (and_parts _ _ (script-at image lawful i script e)).0).1

-- each line is lawful
pub lawful-line : (image : Image) → IsLawful image → (i n : ℕ) (line : Instr) → slice_get (script_lines image i) n ≡ Some line → is_lawful_line image i line ≡ true
lawful-line image lawful i n line e = all-at (is_lawful_line image i) (script_lines image i) (lawful-of image lawful i (slice_get image.scripts i) refl) n line e

turn-lawful : (image : Image) (i : ℕ) (line : Instr) → is_lawful_line image i line ≡ true → has_turn (Some line) ≡ true
turn-lawful image i (Instr.Repeat times) h = (and_parts _ _ h).0
turn-lawful image i line h = refl

turn-of : (image : Image) → IsLawful image → (i n : ℕ) (line : Option Instr) → slice_get (script_lines image i) n ≡ line → has_turn line ≡ true
turn-of image lawful i n None e = refl
turn-of image lawful i n (Some line) e = turn-lawful image i line (lawful-line image lawful i n line e)

-- repeats have a turn
pub turns-lines : (image : Image) → IsLawful image → (i n : ℕ) → has_turn (slice_get (script_lines image i) n) ≡ true
turns-lines image lawful i n = turn-of image lawful i n (slice_get (script_lines image i) n) refl

-- Weights.

weight-at : (i : ℕ) (scripts : List Script) (k : ℕ) → k < length scripts
    → slice_index (weights_from i scripts) k ≡ 240 + lines_cost (weights_from (i + k + 1) (drop (k + 1) scripts)) (i + k) 1 (lines_of (slice_get scripts k))
weight-at i [] k h = absurd (omega (arith, h))
weight-at i (s ∷ scripts) zero h =
    let here : i + 0 ≡ i = omega arith in rw here refl
weight-at i (s ∷ scripts) (suc k) h =
    let next : i + suc k ≡ i + 1 + k = omega arith in
    let more : suc k + 1 ≡ suc (k + 1) = omega arith in
    rw (next, more) (weight-at (i + 1) scripts k (omega (arith, h)))

get-drop : {A : Type 0} (xs : List A) (n k : ℕ) → slice_get (drop n xs) k ≡ slice_get xs (n + k)
get-drop xs zero k = let same : 0 + k ≡ k = omega arith in rw same refl
get-drop [] (suc n) k = refl
get-drop (x ∷ xs) (suc n) k = let same : suc n + k ≡ suc (n + k) = omega arith in rw same (get-drop xs n k)

length-rest : {A : Type 0} (xs : List A) (n : ℕ) → length (drop n xs) ≡ length xs - n
length-rest xs zero = omega arith
length-rest [] (suc n) = omega arith
length-rest (x ∷ xs) (suc n) = let rest = length-rest xs n in omega (arith, rest)

-- the weight of the script itself
pub weight-script : (image : Image) (c : ℕ) → c < length image.scripts → slice_index (weights_from 0 image.scripts) c ≡ 240 + lines_cost (weights_behind image c) c 1 (script_lines image c)
unfolding weights_behind
weight-script image c h = let none : 0 + c ≡ c = omega arith in rw none at (weight-at 0 image.scripts c h)

-- a script that a lawful line names weighs what its lines cost, and 240
pub weight-later : (image : Image) (i : ℕ) (script : Ref) → is_later image i script ≡ true
    → weight_named (weights_behind image i) i script ≡ 240 + lines_cost (weights_behind image (number_of script)) (number_of script) 1 (script_lines image (number_of script))
unfolding weights_behind
weight-later image i (Ref.Named name) h = absurd (false≢true h)
weight-later image i (Ref.At c) h =
    let parts = and_parts (nat_lt i c) (nat_lt c (length image.scripts)) h in
    let behind : i < c = ltb-true i c parts.0 in
    let stands : c < length image.scripts = ltb-true c (length image.scripts) parts.1 in
    let room : c - (i + 1) < length (drop (i + 1) image.scripts) = omega (arith, length-rest image.scripts (i + 1)) in
    let here : i + 1 + (c - (i + 1)) ≡ c = omega (arith, behind) in
    let at : slice_index (weights_from (i + 1) (drop (i + 1) image.scripts)) (c - (i + 1))
    ≡ 240 + lines_cost (weights_from (i + 1 + (c - (i + 1)) + 1) (drop (c - (i + 1) + 1) (drop (i + 1) image.scripts))) (i + 1 + (c - (i + 1))) 1 (lines_of (slice_get (drop (i + 1) image.scripts) (c - (i + 1))))
    = weight-at (i + 1) (drop (i + 1) image.scripts) (c - (i + 1)) room in
    let rest : i + 1 + (c - (i + 1) + 1) ≡ c + 1 = omega (arith, behind) in
    rw (get-drop image.scripts (i + 1) (c - (i + 1)), drop-drop (c - (i + 1) + 1) (i + 1) image.scripts, rest, here) at at
