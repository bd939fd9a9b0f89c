-- The step of an event is its thread's next step in the machine, with the least row that this step may take.
use Rattle.std.proofs.Common.{◌≡◌, inl, inr, ℕ, zero, suc, Bool, true, false, List, [], ◌∷◌, drop, Option, Some, None, refl, sym, ap, ◌∙◌, subst, arith}
use Rattle.std.specs.Prelude.{◌==◌, ◌&&◌, ◌||◌, not, IsTrue, if◌then◌else◌, is_some, slice_get, slice_index_or}
use Rattle.std.specs.List.{list_all}
use Rattle.std.proofs.lemmas.Bool.{and_parts, false≢true, true≢false}
use Rattle.um_base.specs.declared.act.Act.{Act}
use Rattle.um_base.specs.declared.instr.Instr.{Instr}
use Rattle.um_base.specs.declared.names.Addr.{Addr}
use Rattle.um_base.specs.Places.{own_row}
use Rattle.um_base.specs.declared.names.ThreadIx.{ThreadIx}
use Rattle.um_machine.specs.declared.pending.Pending.{Pending}
use Rattle.um_machine.specs.declared.thread.Thread.{Thread}
use Rattle.um_machine.specs.Order.{Steps}
use Rattle.um_machine.specs.Joins.{is_ending, is_joined}
use Rattle.um_machine.specs.Run.{MayChoose, Offers, begins, exits, goes, leaves, may_go, must_stop, none_due, skips_drops, skips_inherit, stops, tends}
use Rattle.um_machine.specs.State.{State, instruction_at, is_living, thread_at}
use Rattle.um_machine.specs.Table as T
use Rattle.um_invariants.specs.NextSteps.{IsLeast, IsNext, IsNextStep, MayTake, NoFirst, TakesNone, first_or, first_step, is_skipped, line_step, rest_step, second_step}
use Rattle.um_refinement.proofs.WordsKept.{IsShown}
use Rattle.um_order.proofs.Standing.{IsFull}

not-due : (xs : List Bool) (y : ℕ) → list_all not xs ≡ true → slice_index_or xs y false ≡ true → ⊥
not-due [] y h d = false≢true d
not-due (b ∷ bs) zero h d = true≢false (sym (and_parts (not b) _ h).0 ∙ ap not d)
not-due (b ∷ bs) (suc y) h d = not-due bs y (and_parts (not b) _ h).1 d

same-some : {A : Type 0} (x y : A) → Some x ≡ Some y → x ≡ y
same-some x y e = cc

module _ (m : State) (t : ℕ) where
  me : Thread
  me = thread_at m t

  first-is : (q : Pending) (rest : Steps) → (thread_at m t).pending ≡ q ∷ rest → first_step m t ≡ Some q
  first-is q rest e = ap (λ steps. first_or (slice_get steps 0) (rest_step m t)) e

  second-is : (p q : Pending) (rest : Steps) → (thread_at m t).pending ≡ p ∷ q ∷ rest → is_skipped (Some p) ≡ true → IsTrue (none_due (thread_at m t)) → second_step m t ≡ Some q
  second-is p q rest e skipped due =
      ap (λ steps. if is_skipped (slice_get steps 0) && none_due (thread_at m t) then slice_get steps 1 else None) e ∙ λ i. if skipped i && due i then Some q else None

  rest-is : (thread_at m t).pending ≡ [] → IsTrue (is_living (thread_at m t).life) → IsTrue (may_go (thread_at m t)) → first_step m t ≡ Some (line_step (instruction_at m.image (thread_at m t).place))
  rest-is e lives free =
      ap (λ steps. first_or (slice_get steps 0) (rest_step m t)) e
      ∙ λ i. first_or None (if not (lives i) then None else if free i then Some (line_step (instruction_at m.image (thread_at m t).place)) else if must_stop (thread_at m t) then Some Pending.Killed else None)

  -- one that is aborted may begin nothing
  stopped : (doomed aborted suspended : Bool) → (not doomed && aborted) ≡ true → not (doomed || aborted || suspended) ≡ false
  stopped true aborted suspended h = absurd (false≢true h)
  stopped false true suspended h = refl
  stopped false false suspended h = absurd (false≢true h)

  killed-is : (thread_at m t).pending ≡ [] → IsTrue (is_living (thread_at m t).life) → IsTrue (must_stop (thread_at m t)) → first_step m t ≡ Some Pending.Killed
  killed-is e lives stop =
      let me = thread_at m t in
      let held = stopped me.doomed me.aborted me.suspended stop in
      ap (λ steps. first_or (slice_get steps 0) (rest_step m t)) e
      ∙ λ i. first_or None (if not (lives i) then None else if held i then Some (line_step (instruction_at m.image (thread_at m t).place)) else if stop i then Some Pending.Killed else None)

  begin-is : (o : Option Instr) → IsTrue (is_some o) → line_step o ≡ Pending.Begin
  begin-is None h = absurd (false≢true h)
  begin-is (Some instr) h = refl

  -- where nothing is due, no row is left to pass on or to drop
  inherits-none : (who : ThreadIx) → IsTrue (none_due (thread_at m t)) → TakesNone m t (Pending.Inherit who)
  inherits-none who due y may = not-due (thread_at m t).due y due may.1

  drops-none : (from : ℕ) (rest : Steps) → (thread_at m t).pending ≡ Pending.Drops from ∷ rest → IsFull m t (thread_at m t).pending → IsTrue (none_due (thread_at m t)) → TakesNone m t (Pending.Drops from)
  drops-none from rest e full due y may = not-due (thread_at m t).due y due (subst (IsFull m t) e full y may.0.0 may.0.1)

  no-first : (p : Pending) (q : Pending) (rest : Steps) → (thread_at m t).pending ≡ p ∷ q ∷ rest → TakesNone m t p → NoFirst m t
  no-first p q rest e none step first = subst (TakesNone m t) (same-some p step (sym (first-is p (q ∷ rest) e) ∙ first)) none

  -- the step is the thread's next one, and this many steps are taken from those that it has left
  pub record Leads (q : Pending) (rest : Steps) : Type 0 where
    pub taken : ℕ
    pub next : IsNextStep m t q taken
    pub left : drop taken (thread_at m t).pending ≡ rest

  pub leads : (q : Pending) (rest : Steps) → IsShown q → Offers m t q rest → IsFull m t (thread_at m t).pending → Leads q rest
  leads q rest shown (goes e) full = record { taken = 1; next = inl (refl, first-is q rest e); left = ap (drop 1) e }
  leads q rest shown (skips_inherit {who} e due) full =
      record {
        taken = 2;
        next = inr (inl (refl, second-is (Pending.Inherit who) q rest e refl due, no-first (Pending.Inherit who) q rest e (inherits-none who due)));
        left = ap (drop 2) e;
      }
  leads q rest shown (skips_drops {from} e due) full =
      record {
        taken = 2;
        next = inr (inl (refl, second-is (Pending.Drops from) q rest e refl due, no-first (Pending.Drops from) q rest e (drops-none from (q ∷ rest) e full due)));
        left = ap (drop 2) e;
      }
  leads _ _ shown (begins e lives free there) full =
      record { taken = 1; next = inl (refl, rest-is e lives free ∙ ap Some (begin-is (instruction_at m.image (thread_at m t).place) there)); left = ap (drop 1) e }
  leads _ _ shown (exits e lives free there) full = record { taken = 1; next = inl (refl, rest-is e lives free ∙ ap (λ o. Some (line_step o)) there); left = ap (drop 1) e }
  leads _ _ shown (stops e lives stop) full = record { taken = 1; next = inl (refl, killed-is e lives stop); left = ap (drop 1) e }
  leads _ _ shown (leaves ending) full = absurd shown
  leads (Pending.CleanPair who) _ shown (tends is started) full = absurd shown
  leads Pending.Recycle _ shown (tends is started) full = absurd shown
  leads Pending.Tick _ shown (tends is started) full = absurd shown
  leads (Pending.TimeOut who) _ shown (tends is started) full = absurd shown
  leads Pending.Expire _ shown (tends is started) full = absurd shown
  leads (Pending.Cut who) _ shown (tends is started) full = absurd shown
  leads q _ shown (tends is started) full = absurd (false≢true is)

  -- the end of a thread is told to those who wait for it, before its own object is cleared
  pub left-is : (a : Addr) (rest : Steps) → (thread_at m t).pending ≡ Pending.ClearInit a ∷ rest → IsTrue (is_ending (thread_at m t)) → (T.row_of m a == own_row m.image t) ≡ true → is_joined m t ≡ true
      → IsNextStep m t Pending.Left 0
  left-is a rest e ending own joined =
      inr
      (inr (
        refl,
        refl,
        ending,
        (λ step first x may.
            let taken = subst (λ p. MayTake m t p x) (same-some step (Pending.ClearInit a) (sym first ∙ first-is (Pending.ClearInit a) rest e)) may in
            false≢true (sym (λ i. not (own i && joined i)) ∙ taken.0)),
        (λ step second x may.
            let none : second_step m t ≡ None = ap (λ steps. if is_skipped (slice_get steps 0) && none_due (thread_at m t) then slice_get steps 1 else None) e in
            false≢true (ap is_some (sym none ∙ second))),
      ))

  -- also where the drops of the end are left, and none of them is due
  pub left-behind : (from : ℕ) (a : Addr) (rest : Steps) → (thread_at m t).pending ≡ Pending.Drops from ∷ Pending.ClearInit a ∷ rest → IsFull m t (thread_at m t).pending → IsTrue (none_due (thread_at m t))
      → IsTrue (is_ending (thread_at m t)) → (T.row_of m a == own_row m.image t) ≡ true → is_joined m t ≡ true → IsNextStep m t Pending.Left 0
  left-behind from a rest e full due ending own joined =
      inr
      (inr (
        refl,
        refl,
        ending,
        no-first (Pending.Drops from) (Pending.ClearInit a) rest e (drops-none from (Pending.ClearInit a ∷ rest) e full due),
        (λ step second x may.
            let taken = subst (λ p. MayTake m t p x) (same-some step (Pending.ClearInit a) (sym second ∙ second-is (Pending.Drops from) (Pending.ClearInit a) rest e refl due)) may in
            false≢true (sym (λ i. not (own i && joined i)) ∙ taken.0)),
      ))

  -- the steps that choose a row or an answer
  abbrev is_choosy : Pending → Bool
  is_choosy (Pending.Reserve kind) = true
  is_choosy (Pending.Join who timeout) = true
  is_choosy q = false

  -- a step that chooses no row: it is the same with row 0
  record Rowless (x : ℕ) (q : Pending) (rest : Steps) : Type 0 where
    may : MayTake m t q 0
    says : T.act_of m t x q ≡ T.act_of m t 0 q
    leaves : T.after m t x q rest ≡ T.after m t 0 q rest

  rowless : (x : ℕ) (q : Pending) (rest : Steps) → IsShown q → is_choosy q ≡ false → MayChoose m t x q → Rowless x q rest
  rowless x (Pending.Reserve kind) rest shown plain chosen = absurd (true≢false plain)
  rowless x (Pending.Join who timeout) rest shown plain chosen = absurd (true≢false plain)
  rowless x (Pending.Inherit who) rest shown plain chosen = absurd shown
  rowless x (Pending.Drops from) rest shown plain chosen = absurd shown
  rowless x (Pending.CleanPair who) rest shown plain chosen = absurd shown
  rowless x Pending.Recycle rest shown plain chosen = absurd shown
  rowless x Pending.Resume rest shown plain chosen = absurd shown
  rowless x Pending.Left rest shown plain chosen = absurd shown
  rowless x Pending.Tick rest shown plain chosen = absurd shown
  rowless x (Pending.TimeOut who) rest shown plain chosen = absurd shown
  rowless x Pending.Expire rest shown plain chosen = absurd shown
  rowless x (Pending.Cut who) rest shown plain chosen = absurd shown
  rowless x (Pending.ClearInit a) rest shown plain chosen = record { may = (chosen, tt); says = refl; leaves = refl }
  rowless x q rest shown plain chosen = record { may = (tt, tt); says = refl; leaves = refl }

  -- a reservation has the least row that it may choose, and a join the least number
  abbrev pub ChoosesLeast : ℕ → Pending → Type 0
  ChoosesLeast x (Pending.Reserve kind) = IsLeast m t (Pending.Reserve kind) x
  ChoosesLeast x (Pending.Join who timeout) = IsLeast m t (Pending.Join who timeout) x
  ChoosesLeast x q = Unit {0}

  pub next-is : (x : ℕ) (q : Pending) (rest : Steps) (act : Act) → IsShown q → Leads q rest → ChoosesLeast x q → MayChoose m t x q → act ≡ T.act_of m t x q → IsNext m t act (T.after m t x q rest)
  next-is x q rest act shown lead least chosen said = by q refl
    where
      choosy : IsLeast m t q x → IsNext m t act (T.after m t x q rest)
      choosy is = record { step = q; row = x; taken = lead.taken; next = lead.next; least = is; says = said; leaves = ap (T.after m t x q) (sym lead.left) }

      plainly : is_choosy q ≡ false → IsNext m t act (T.after m t x q rest)
      plainly plain =
          let r = rowless x q rest shown plain chosen in
          record {
            step = q;
            row = 0;
            taken = lead.taken;
            next = lead.next;
            least = (r.may, λ y l. absurd (omega (arith, l)));
            says = said ∙ r.says;
            leaves = r.leaves ∙ ap (T.after m t 0 q) (sym lead.left);
          }

      by : (p : Pending) → q ≡ p → IsNext m t act (T.after m t x q rest)
      by (Pending.Reserve kind) e = choosy (subst (λ p. IsLeast m t p x) (sym e) (subst (ChoosesLeast x) e least))
      by (Pending.Join who timeout) e = choosy (subst (λ p. IsLeast m t p x) (sym e) (subst (ChoosesLeast x) e least))
      by p e = plainly (ap is_choosy e)
