-- Steps by which pairs come and go.
use Rattle.std.proofs.Common.{◌≡◌, ◌<◌, ◌≤◌, ℕ, zero, suc, ◌+◌, ◌*◌, Bool, true, false, ◌&&◌, not, List, [], ◌∷◌, length, replicate, refl, sym, ◌∙◌, subst, arith, Option, Some, None, slice_index_or, slice_set}
use Rattle.std.specs.Prelude.{IsTrue, ◌==◌, nat_lt}
use Rattle.std.specs.List.{list_all}
use Rattle.std.proofs.lemmas.Bool.{and_parts, false≢true, true≢false, ltb-true, eqb-true}
use Rattle.std.proofs.lemmas.List.{length-set, length-map, get_or-set_same}
use Rattle.um_base.specs.Places.{own_row}
use Rattle.um_base.specs.declared.limits.TheConstants.{ROWS, THREADS}
use Rattle.um_base.specs.declared.names.Addr.{Addr}
use Rattle.um_base.specs.declared.names.ThreadIx.{ThreadIx}
use Rattle.um_machine.specs.declared.pending.Pending.{Pending}
use Rattle.um_machine.specs.declared.thread.Life.{Life}
use Rattle.um_machine.specs.declared.thread.Thread.{Thread}
use Rattle.um_machine.specs.Order.{Steps}
use Rattle.um_machine.specs.State.{State, nobody, thread_at, pair_at}
use Rattle.um_machine.specs.Goes.{Change, Next, Way, rows_to_pass}
use Rattle.um_machine.specs.Table.{after, dropped, row_of}
use Rattle.um_machine.specs.Writes.{drops, paired, stays_due, with_dues, wrote}
use Rattle.um_machine.proofs.EffectLemmas.{effects_of}
use Rattle.um_measure.specs.Measure.{one_if, flags_set, due_cost}
use Rattle.um_machine.specs.Run.{ChoosesDue}
use Rattle.um_measure.specs.Reached.{may_wait, passes_on, is_child, IsSound, IsReached}
use Rattle.um_measure.proofs.TotalLemmas.{total-set}
use Rattle.um_measure.proofs.EasedLemmas.{at-eased, due-le, sound-eased}
use Rattle.um_measure.proofs.GoesLemmas.{went-made}
use Rattle.um_measure.proofs.MadeLemmas.{IsMade, IsReady, begun_cost, cost-pending, writes, goes, ready-rest}
use Rattle.um_measure.proofs.StoreLemmas.{store-pair}
use Rattle.um_measure.proofs.WriteLemmas.{base-wrote, base-drop}

-- Flags.

flags-most : (flags : List Bool) → flags_set flags ≤ length flags
flags-most [] = omega arith
flags-most (true ∷ flags) = let rest = flags-most flags in omega (arith, rest)
flags-most (false ∷ flags) = let rest = flags-most flags in omega (arith, rest)

-- a flag is taken back
flags-less : (flags : List Bool) (x : ℕ) (b : Bool) → slice_index_or flags x false ≡ true → b ≡ false → flags_set (slice_set flags x b) + 1 ≤ flags_set flags
flags-less flags x b h e =
    let set = total-set one_if false refl flags x b in
    let was : one_if (slice_index_or flags x false) ≡ 1 = rw h refl in
    let is : one_if b ≡ 0 = rw e refl in
    omega (arith, set, was, is)

none-due : (n x : ℕ) → slice_index_or (replicate n false) x false ≡ false
none-due zero x = refl
none-due (suc n) zero = refl
none-due (suc n) (suc x) = none-due n x

and-right-false : (a b : Bool) → b ≡ false → (a && b) ≡ false
and-right-false true b h = h
and-right-false false b h = refl

-- a row that isn't due any more
due-less : (x u : ℕ) (holders : List Bool) (ts : List Thread) (t : ℕ) → slice_index_or (slice_index_or ts t nobody).due x false ≡ true
    → stays_due (u + t) (slice_index_or ts t nobody).child holders ≡ false
    → flags_set (slice_index_or (with_dues x u holders ts) t nobody).due + 1 ≤ flags_set (slice_index_or ts t nobody).due
due-less x u holders [] t h e = absurd (false≢true (sym (none-due ROWS x) ∙ h))
due-less x u holders (me ∷ ts) zero h e =
    let here : u + 0 ≡ u = omega arith in
    flags-less me.due x _ h (and-right-false _ _ (rw here at e))
due-less x u holders (me ∷ ts) (suc t) h e =
    let next : u + suc t ≡ u + 1 + t = omega arith in due-less x (u + 1) holders ts t h (rw next at e)

-- a pair that was given stands
given-stands : (pairs : List (List Bool)) (x t who : ℕ) → slice_index_or (slice_index_or pairs x []) t false ≡ true → list_all (λ (row : List Bool). length row == THREADS) pairs ≡ true → who < THREADS
    → slice_index_or (slice_index_or (slice_set pairs x (slice_set (slice_index_or pairs x []) who true)) x []) who false ≡ true
given-stands [] x t who h sized below = absurd (false≢true h)
given-stands (row ∷ pairs) zero t who h sized below =
    let size = eqb-true (length row) THREADS (and_parts _ _ sized).0 in get_or-set_same row who true false (omega (arith, size, below))
given-stands (row ∷ pairs) (suc x) t who h sized below = given-stands pairs x t who h (and_parts _ _ sized).1 below

-- the child that a thread passes pairs on to
child-is : (child : Option ThreadIx) (who : ThreadIx) → is_child child who ≡ true → (c : ThreadIx) × (child ≡ Some c) × (c.0 ≡ who.0) × (who.0 < THREADS)
child-is None who h = absurd (false≢true h)
child-is (Some c) who h = let parts = and_parts (c.0 == who.0) (nat_lt who.0 THREADS) h in (c, refl, eqb-true c.0 who.0 parts.0, ltb-true who.0 THREADS parts.1)

not-held : (a b : Bool) → b ≡ true → (a && not b) ≡ false
not-held true b h = rw h refl
not-held false b h = refl

stays-not : (t who : ℕ) (child : Option ThreadIx) (c : ThreadIx) (holders : List Bool) → child ≡ Some c → c.0 ≡ who → slice_index_or holders who false ≡ true → stays_due t child holders ≡ false
stays-not t who child c holders e same h = rw e (not-held (slice_index_or holders t false) (slice_index_or holders c.0 false) (rw same h))

due-of-child : (child : Option ThreadIx) (c : ThreadIx) (due : List Bool) → child ≡ Some c → due_cost child due ≡ 3 * flags_set due
due-of-child child c due e = rw e refl

module _ (s : State) (reached : IsReached s) (t x : ℕ) (rest : Steps) where
  pub drop_pair : (who : ThreadIx) (a : Addr) → IsReady s t (Pending.DropPair who a) rest → IsMade s (after s t x (Pending.DropPair who a) rest) (Unit {0})
  drop_pair who a ready =
      let y = row_of s a in
      went-made s reached t (Pending.DropPair who a) rest ready (wrote (drops who.0 y (dropped s who.0 y)) s) 0 (base-drop s who.0 y reached.sized) (Next.on Change.nothing Way.rest) refl (λ h. absurd (true≢false h)) (omega arith) ready.passes

  pub own : (who : ThreadIx) → IsReady s t (Pending.Own who) rest → IsMade s (after s t x (Pending.Own who) rest) (Unit {0})
  own who ready =
      let ws = effects_of s t x (Pending.Own who) in
      let u = wrote ws s in
      let base = base-wrote s reached.sized ws refl in
      let same = at-eased s.threads u.threads base.eased t in
      let due = slice_set (rows_to_pass u t who.0) (own_row u.image t) false in
      let few = flags-most due in
      let long = length-set (rows_to_pass u t who.0) (own_row u.image t) false in
      let rows = length-map u.pairs (λ (holders : List Bool). slice_index_or holders t false && not (slice_index_or holders who.0 false)) in
      let most = base.sized.rows in
      goes s reached t (Pending.Own who) rest ready u 2 base (record (thread_at u t) { child = Some who; due = due }) rest
      same.life same.place (omega (arith, few, long, rows, most)) (ready-rest s t (Pending.Own who) rest ready) ready.passes

  pub inherit : (who : ThreadIx) → IsReady s t (Pending.Inherit who) rest → IsTrue (pair_at s t x) → IsMade s (after s t x (Pending.Inherit who) rest) (ChoosesDue s t (Pending.Inherit who) x)
  inherit who ready held =
      let s2 = paired s who.0 x true in
      let base = base-wrote s reached.sized (effects_of s t x (Pending.Inherit who)) refl in
      let same = at-eased s.threads s2.threads base.eased t in
      let me = record (thread_at s2 t) { pending = Pending.Inherit who ∷ rest } in
      let passes = and_parts (is_child (thread_at s t).child who) (passes_on (thread_at s t).child rest) ready.passes in
      let child = child-is (thread_at s t).child who passes.0 in
      let holders = slice_index_or s2.pairs x [] in
      let pair = store-pair s who.0 x true in
      let sound : IsSound s.image me = record {
        place = (sound-eased s.image (thread_at s t) (thread_at s2 t) same (reached.sound t)).place;
        waits = subst (λ (life : Life). list_all (may_wait life) (Pending.Inherit who ∷ rest) ≡ true) (sym same.life) ready.waits;
        passes = subst (λ (child : Option ThreadIx). passes_on child (Pending.Inherit who ∷ rest) ≡ true) (sym same.child) ready.passes;
      } in
      let before = cost-pending s.image (thread_at s t) ready.first ready.others ready.are in
      let after-it = cost-pending s.image me (Pending.Inherit who) rest refl in
      let begun : begun_cost s.image me.life me.place ≡ begun_cost s.image (thread_at s t).life (thread_at s t).place = rw (same.life, same.place) refl in
      let fewer : due_cost (thread_at s2 t).child (thread_at s2 t).due ≤ due_cost (thread_at s t).child (thread_at s t).due
      = rw same.child (due-le (thread_at s t).child (thread_at s2 t).due (thread_at s t).due same.due) in
      let cost = ready.cost in
      writes s reached t s2 2 base me (ChoosesDue s t (Pending.Inherit who) x) sound
      (λ chosen.
      let given = given-stands s.pairs x t who.0 held reached.sized.flags child.3 in
      let stays = stays-not t who.0 (thread_at s t).child child.0 holders child.1 child.2 given in
      let zero-t : 0 + t ≡ t = omega arith in
      let less = due-less x 0 holders s.threads t chosen (rw zero-t stays) in
      let due = due-of-child (thread_at s t).child child.0 (thread_at s t).due child.1 in
      let due-then = due-of-child (thread_at s2 t).child child.0 (thread_at s2 t).due (same.child ∙ child.1) in
      omega (arith, pair, less, before, after-it, begun, due, due-then, cost))
      (omega (arith, before, after-it, begun, fewer, cost))
