-- A turn that was taken, once the slot was exchanged.
use Rattle.std.proofs.Common.{◌≡◌, ℕ, ◌-◌, List, [], ◌∷◌, Option, Some, None, sym, refl, ap, ◌∙◌, subst}
use Rattle.atomic_table.specs.Table.{Me, rest}
use Rattle.um_base.specs.declared.image.Image.{Image}
use Rattle.um_words.specs.declared.fine.FineAct.{FineAct}
use Rattle.um_words.specs.declared.made.Made.{Made}
use Rattle.um_words.specs.Exchanges.{Exchange}
use Rattle.um_site.specs.declared.view.View.{View}
use Rattle.um_words.specs.History.{by_site}
use Rattle.um_site.specs.Cells.{ContentsAre}
use Rattle.um_site.specs.Tells.{HasTurn, Took, taking}

module _ {T : Type 0} (opens : Image → ℕ → T → Type 0) (follows : T → FineAct → Exchange → T → Type 0) where
  -- of a list that begins with one place, and with another
  same_place : (l c d : List (ℕ × Option T)) (p q : ℕ × Option T) → l ≡ p ∷ c → l ≡ q ∷ d → p ≡ q
  same_place l c d p q a b = let e : p ∷ c ≡ q ∷ d = sym a ∙ b in cc

  front : (l c : List (ℕ × Option T)) (p : ℕ × Option T) → l ≡ p ∷ c → l ≡ p ∷ rest l
  front l c p e = e ∙ ap (λ k. p ∷ rest k) (sym e)

  module _ (v : View) (i r : ℕ) (me me' : Me (Option T) View) (slot : ℕ) where
    turn_held : (past : List Made) (y z : Option T) (x : T) → me.0 ≡ taking v i r past → me.1 ≡ (slot, y) ∷ rest me.1 → slot ≡ i - 168 → me' ≡ (me.0, (slot, z) ∷ rest me.1) → ContentsAre opens follows v.image i past (Some x)
        → HasTurn opens follows me' i r z x
    turn_held past y z x now at is new contents = let now' = ap (λ m. m.0) new ∙ now in record {
      turn = record { site = i; word = r; past = past };
      has = ap (λ (u : View). u.turn) now';
      site = refl;
      at = refl;
      slot = front me'.1 (rest me.1) (i - 168, z) (ap (λ m. m.1) new ∙ ap (λ n. (n, z) ∷ rest me.1) is);
      contents = subst (λ (im : Image). ContentsAre opens follows im i past (Some x)) (sym (ap (λ (u : View). u.image) now')) contents;
    }

    -- of a take that found the turn free, and these contents in the slot
    pub taken : (goes : Image → List ℕ → List Made → Made → Type 0) (y z : Option T) (x : T) (c : List (ℕ × Option T)) → me.1 ≡ (i - 168, y) ∷ c → Took opens follows goes v i r y me.0
        → me.1 ≡ (slot, z) ∷ rest me.1 → z ≡ Some x → me' ≡ (me.0, (slot, None) ∷ rest me.1)
        → HasTurn opens follows me' i r None x × (rest me'.1 ≡ c) × Took opens follows goes v i r (Some x) me'.0
    taken goes y z x c there took found is new =
        let at = found ∙ ap (λ k. (slot, k) ∷ rest me.1) is in
        let same = same_place me.1 c (rest me.1) (i - 168, y) (slot, Some x) there at in (
          turn_held (by_site i took.moment.history) (Some x) None x took.now at (sym (ap (λ p. p.0) same)) new (subst (ContentsAre opens follows v.image i (by_site i took.moment.history)) (ap (λ p. p.1) same) took.contents),
          ap (λ (m : Me (Option T) View). rest m.1) new ∙ ap rest there,
          subst (λ (p : Option T × View). Took opens follows goes v i r p.0 p.1) (λ j. ((same j).1, (sym new j).0)) took,
        )

    -- of a cell that is opened
    pub opened_held : (old : Option T) (x : T) (c : List (ℕ × Option T)) (y : Option T) → me.0 ≡ taking v i r [] → me.1 ≡ (i - 168, y) ∷ c → me.1 ≡ (slot, old) ∷ rest me.1 → me' ≡ (me.0, (slot, Some x) ∷ rest me.1) → opens v.image i x
        → HasTurn opens follows me' i r (Some x) x
    opened_held old x c y now there at new fits = let same = same_place me.1 c (rest me.1) (i - 168, y) (slot, old) there at in
        turn_held [] old (Some x) x now at (sym (ap (λ p. p.0) same)) new (x, x, refl, fits, refl)
