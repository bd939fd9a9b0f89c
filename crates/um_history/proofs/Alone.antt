-- A seat that is alone at its board: all steps of the board's history are its own. So the fine run at the moment of a look has the steps of its
-- processor, and no others.
use Rattle.std.proofs.Common.{◌≡◌, ℕ, zero, suc, ◌≤◌, Bool, true, false, List, [], ◌∷◌, inl, ⊎_elim, length, map, refl, sym, ap, ◌∙◌, subst, arith, cond}
use Rattle.std.proofs.lemmas.Bool.{eq-eqb}
use mathlib.Core.Logic.{dite}
use mathlib.Core.Option.{some}
use native.Mathlib.Decide.{ℕ_discrete}
use lib.ListN.{get_elem?}
use Rattle.um_base.specs.Weight.{weight}
use Rattle.um_base.specs.declared.image.Image.{Image}
use Rattle.um_invariants.specs.Described.{IsDescribed}
use Rattle.um_words.specs.History.{by_seat}
use Rattle.um_words.specs.declared.made.Made.{Made}
use Rattle.um_fine.specs.FineRun.{IsFineRun, cpu_of, same_cpu}
use Rattle.um_fine.specs.Runs.{sublist}
use Rattle.um_fine.specs.Steps.{FineStep}
use Rattle.um_refinement.specs.Room.{CanRun}
use Rattle.um_site.specs.Cells.{Moment}
use Rattle.um_site.specs.History.{Among, AmongNames}
use Rattle.um_site.specs.declared.seat.Seat.{Seat}
use Rattle.um_site.specs.declared.view.View.{View}
use Rattle.um_board.specs.Contents.{Follows, Known, Opens}
use Rattle.um_board.specs.NextSteps.{NextGoes, seat_name}
use Rattle.um_board.specs.ReadBack.{fine_at}
use Rattle.um_board.specs.Saw.{SawAt}
use Rattle.um_history.specs.Fine.{IsAlone}
use Rattle.um_history.proofs.Moments.{own-steps}
use Rattle.um_history.proofs.Stood.{IsSeatOf, entries, g, of, stood}

tail-none : (b : Bool) (e : FineStep) (steps : List FineStep) → cond b (e ∷ steps) steps ≡ [] → steps ≡ []
tail-none true e steps none = absurd (cc)
tail-none false e steps none = none

-- where no other processor has a step, the list has the steps of the first one
one-more : (e : FineStep) (steps : List FineStep) (k : ℕ) → e.cpu ≡ k → ((j : ℕ) → sublist same_cpu cpu_of (suc j) (e ∷ steps) ≡ [])
    → (((j : ℕ) → sublist same_cpu cpu_of (suc j) steps ≡ []) → sublist same_cpu cpu_of 0 steps ≡ steps) → sublist same_cpu cpu_of 0 (e ∷ steps) ≡ e ∷ steps
one-more e steps zero is none rest =
    ap (λ b. cond b (e ∷ sublist same_cpu cpu_of 0 steps) (sublist same_cpu cpu_of 0 steps)) (eq-eqb e.cpu 0 is)
    ∙ ap (λ l. e ∷ l) (rest (λ j. tail-none (same_cpu e.cpu (suc j)) e (sublist same_cpu cpu_of (suc j) steps) (none j)))
one-more e steps (suc k) is none rest =
    let own = sublist same_cpu cpu_of (suc k) steps in
    let kept : e ∷ own ≡ [] = sym (ap (λ b. cond b (e ∷ own) own) (eq-eqb e.cpu (suc k) is)) ∙ none k in
    absurd (cc)

pub one-list : (steps : List FineStep) → ((k : ℕ) → sublist same_cpu cpu_of (suc k) steps ≡ []) → sublist same_cpu cpu_of 0 steps ≡ steps
one-list [] none = refl
one-list (e ∷ steps) none = one-more e steps e.cpu refl none (one-list steps)

-- At a moment at which a seat in use that is the first one had split off none and taken in none.
module _ (v : View) (i w : ℕ) (m : Moment Opens Follows NextGoes v i w) (name : v.name ≡ []) (children : v.children ≡ []) (lists : v.joined ≡ []) where
  -- a seat in use under the first name is that seat
  same-seat : (id : ℕ) (u : View) → get_elem? m.views id ≡ some u → u.live ≡ true → u.name ≡ [] → u ≡ v
  same-seat id u at lives named = dite (ℕ_discrete id m.seat)
      (λ same. let found : some u ≡ some v = sym at ∙ (ap (get_elem? m.views) same ∙ m.there) in cc)
      (λ other. absurd (m.kept.apart id m.seat u v at m.there lives m.live other [] (inl (inl named)) (inl (inl name))))

  -- each seat in use has the first name
  only-first : (fuel id : ℕ) (u : View) → get_elem? m.views id ≡ some u → u.live ≡ true → length u.name ≤ fuel → u.name ≡ []
  only-first zero id u at lives few = by u.name few
    where
      by : (n : List ℕ) → length n ≤ 0 → n ≡ []
      by [] few = refl
      by (x ∷ n) few = absurd (omega (arith, few))
  only-first (suc fuel) id u at lives few = ⊎_elim
      (λ first. first)
      (λ (j, parent, there, live, out).
      let shorter = (m.kept.tidy j parent there live).below u.name out in
      let named = only-first fuel j parent there live (omega (arith, shorter, few)) in
      absurd (subst (λ (l : List (List ℕ)). AmongNames l u.name) children (subst (λ (x : View). AmongNames x.children u.name) (same-seat j parent there live named) out)))
      (m.kept.owned id u at lives)

  -- no step stands under another name
  pub nobody-else : (n : List ℕ) → (n ≡ [] → ⊥) → by_seat n m.history ≡ []
  nobody-else n other = ⊎_elim
      (λ none. none)
      (λ (id, u, at, lives, has).
      let named = only-first (length u.name) id u at lives (omega arith) in
      let mine = same-seat id u at lives named in
      ⊎_elim
      (λ is. absurd (other (sym is ∙ named)))
      (λ among. absurd (subst (λ (l : List (List ℕ × List Made)). Among l n) lists (subst (λ (x : View). Among x.joined n) mine among)))
      has)
      (m.kept.told n)

module _ (image : Image) (described : IsDescribed image) (can : CanRun image 8) (longest : (run : List FineStep) → IsFineRun image 8 run → length run ≤ weight image)
    (k : ℕ) (s : Seat Known) (seat : IsSeatOf image k s) (i w : ℕ) (saw : SawAt s i w) (alone : IsAlone s) where
  no-name : (j : ℕ) → seat_name (suc j) ≡ [] → ⊥
  no-name j e = cc

  others-none : (j : ℕ) → sublist same_cpu cpu_of (suc j) (g image described can longest k s seat i w saw) ≡ []
  others-none j =
      own-steps image 8 _ (entries image described can longest k s seat i w saw) (of image described can longest k s seat i w saw) (suc j)
      ∙ ap (map (fine_at (suc j)))
      (nobody-else saw.view i w saw.moment (saw.of.name ∙ alone.name) (saw.of.children ∙ alone.children) (saw.of.lists ∙ alone.lists) (seat_name (suc j)) (no-name j))

  -- the seat is that of the first processor
  first-is : (j : ℕ) → k ≡ j → seat_name j ≡ [] → k ≡ 0
  first-is zero is named = is
  first-is (suc j) is named = absurd (no-name j named)

  -- the fine run at the moment has the steps of its processor alone
  pub alone-run : g image described can longest k s seat i w saw ≡ map (fine_at k) s.token.me.0.made
  alone-run =
      let run = g image described can longest k s seat i w saw in
      let first = first-is k refl (sym seat.named ∙ alone.name) in
      sym (one-list run others-none)
      ∙ (ap (λ (j : ℕ). sublist same_cpu cpu_of j run) (sym first)
      ∙ (stood image described can longest k s seat i w saw).own_is)
