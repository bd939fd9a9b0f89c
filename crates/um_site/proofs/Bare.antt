-- A site's word without the turn of a cell.
use Rattle.std.proofs.Common.{◌≡◌, ℕ, ◌-◌, ◌%◌, ◌/◌, ◌<◌, ◌≤◌, true, false, sym, ap, ◌∙◌, arith}
use Rattle.std.specs.Prelude.{nat_lt, if◌then◌else◌}
use Rattle.std.proofs.lemmas.Bool.Decides.{nat_tests}
use mathlib.Core.Logic.{dite}
use native.Mathlib.Decide.{dec_le}
use Rattle.um_words.specs.declared.kind.WordKind.{WordKind}
use Rattle.um_words.specs.declared.fine.FineAct.{FineAct}
use Rattle.um_words.specs.Steps.{cell_kind_at, number_in, number, WordMay}
use Rattle.um_words.specs.WordFacts.{free-turns}
use Rattle.um_words.specs.History.{bare}

pub bare-low : (i w : ℕ) → i < 168 → bare i w ≡ w
bare-low i w h = let e : nat_lt i 168 ≡ true = grind (arith, nat_tests) in ap (λ b. if b then w else w - w % 2) e

pub bare-high : (i w : ℕ) → 168 ≤ i → bare i w ≡ w - w % 2
bare-high i w h = let e : nat_lt i 168 ≡ false = grind (arith, nat_tests) in ap (λ b. if b then w else w - w % 2) e

pub bare-even : (i w : ℕ) → (168 ≤ i → w % 2 ≡ 0) → bare i w ≡ w
bare-even i w e = dite (dec_le 168 i)
    (λ far. let f = e far in bare-high i w far ∙ omega arith)
    (λ near. bare-low i w (omega arith))

pub high-number : (i w : ℕ) → 168 ≤ i → number i w ≡ w / 68719476736
unfolding number
high-number i w far = let a : nat_lt i 128 ≡ false = grind (arith, nat_tests) in let b : nat_lt i 160 ≡ false = grind (arith, nat_tests) in let d : nat_lt i 168 ≡ false = grind (arith, nat_tests) in
    (λ j. number_in (if a j then WordKind.Row else if b j then WordKind.Thread else if d j then WordKind.Domain else WordKind.Cell (cell_kind_at i)) w)

pub bare-number : (i w : ℕ) → number i (bare i w) ≡ number i w
bare-number i w = dite (dec_le 168 i)
    (λ far. ap (number i) (bare-high i w far) ∙ (high-number i (w - w % 2) far ∙ (omega arith ∙ sym (high-number i w far))))
    (λ near. ap (number i) (bare-low i w (omega arith)))

-- what a lawful step leaves has no turn
pub may-bare : (i w : ℕ) (act : FineAct) (next : ℕ) → WordMay i w act next → bare i next ≡ next
may-bare i w act next may = bare-even i next (λ far. (free-turns i w act next far may).1)
