use Rattle.std.proofs.Common.{rules, arith, ◌≡◌, ◌<◌, ◌≤◌, Bool, List, true, false, slice_index_or, slice_set, ℕ, ◌+◌, ◌-◌, ◌*◌, ◌/◌, ◌%◌, ◌^◌, sym, ap, ◌∙◌, subst}
use Rattle.std.specs.Prelude.{◌==◌}
use Rattle.std.proofs.lemmas.Bool.Decides.{nat_tests}
use Rattle.std.proofs.lemmas.Nat.{one_shl}
use mathlib.Core.Bool.{beq}
use Rattle.um_words.specs.Bits.{bits_of}
use Rattle.um_words.specs.BitLists.{length-list, index-bits, set-below, add-bit, add-fits, subtract-bit, same-set, set-beyond}
use Rattle.um_words.proofs.permissions.Permissions.set.Goals as goal
use Rattle.um_words.proofs.permissions.Permissions.set.Goals.{then-there, else-there}

same : (has there : Bool) → beq has there ≡ true → has ≡ there
same true true e = cc
same false false e = cc
same true false e = absurd (cc)
same false true e = absurd (cc)

-- a bit that is to change is the other one
is-off : (m : ℕ) (has there : Bool) → m < 2 → has ≡ (m == 1) → there ≡ true → beq has there ≡ false → m ≡ 0
is-off m true true small is e differ = absurd (cc)
is-off m false true small is e differ = grind (arith, nat_tests)
is-off m has false small is e differ = absurd (cc)

is-on : (m : ℕ) (has there : Bool) → m < 2 → has ≡ (m == 1) → there ≡ false → beq has there ≡ false → m ≡ 1
is-on m false false small is e differ = absurd (cc)
is-on m true false small is e differ = grind (arith, nat_tests)
is-on m has true small is e differ = absurd (cc)

module _ (n t : ℕ) (now : List Bool) (has there : Bool) (view : bits_of 32 n ≡ now) (inside : t < 32) (is : has ≡ slice_index_or now t false) (differ : beq has there ≡ false) where
  reads : has ≡ (n / 2 ^ t % 2 == 1)
  reads = is ∙ ap (λ bs. slice_index_or bs t false) (sym view) ∙ index-bits 32 n t inside

  off : there ≡ true → n / 2 ^ t % 2 ≡ 0
  off e = is-off (n / 2 ^ t % 2) has there (omega arith) reads e differ

  on : there ≡ false → n / 2 ^ t % 2 ≡ 1
  on e = is-on (n / 2 ^ t % 2) has there (omega arith) reads e differ

  grows : n < 4294967296 → there ≡ true → n + 1 * 2 ^ t % 4294967296 < 4294967296
  grows h e = subst (λ k. n + k < 4294967296) (sym (one_shl t 32 inside)) (add-fits 32 n t h inside (off e))

  falls : there ≡ false → 1 * 2 ^ t % 4294967296 ≤ n
  falls e = subst (λ k. k ≤ n) (sym (one_shl t 32 inside)) (set-below n t (on e))

  set : there ≡ true → bits_of 32 (n + 1 * 2 ^ t % 4294967296) ≡ slice_set now t there
  set e = ap (λ k. bits_of 32 (n + k)) (one_shl t 32 inside) ∙ add-bit 32 n t inside (off e) ∙ (λ i. slice_set (view i) t (sym e i))

  cleared : there ≡ false → bits_of 32 (n - 1 * 2 ^ t % 4294967296) ≡ slice_set now t there
  cleared e = ap (λ k. bits_of 32 (n - k)) (one_shl t 32 inside) ∙ subtract-bit 32 n t inside (on e) ∙ (λ i. slice_set (view i) t (sym e i))

pub returns-then-thread-ge-THREADS : goal.returns-then-thread-ge-THREADS
returns-then-thread-ge-THREADS c =
    set-beyond c.args.self.now c.args.thread c.args.there (let long = length-list c.self.inside.bits c.args.self.now c.self.view_is in let h = c.if-thread-ge-THREADS.true in omega arith)

pub returns-then-has-there : goal.returns-then-has-there
returns-then-has-there c =
    same-set c.args.self.now c.args.thread c.args.there (let long = length-list c.self.inside.bits c.args.self.now c.self.view_is in let h = c.if-thread-ge-THREADS.false in omega arith)
    (sym c.has.ensures ∙ same c.has.result c.args.there c.if-has-there.true)

pub overflow_add-self : goal.overflow_add-self
overflow_add-self c = let small = grows c.self.inside.bits c.args.thread c.args.self.now c.has.result c.args.there c.self.view_is c.if-thread-ge-THREADS.false c.has.ensures c.if-has-there.false c.self.invariant c.if-there.true in search rules

pub overflow_sub-self : goal.overflow_sub-self
overflow_sub-self c = falls c.self.inside.bits c.args.thread c.args.self.now c.has.result c.args.there c.self.view_is c.if-thread-ge-THREADS.false c.has.ensures c.if-has-there.false c.if-there.false

pub invariant_of-self : goal.invariant_of-self
invariant_of-self c = elim c.if-there.branch [
  | then-there w ↦ subst (λ n. n < 4294967296) (sym w.self-is) (grows c.self.inside.bits c.args.thread c.args.self.now c.has.result c.args.there c.self.view_is c.if-thread-ge-THREADS.false c.has.ensures c.if-has-there.false c.self.invariant w.if-there.true)
  | else-there w ↦ let e = w.self-is in let h = c.self.invariant in omega arith
]

pub returns : goal.returns
returns c = elim c.if-there.branch [
  | then-there w ↦ ap (bits_of 32) w.self-is ∙ set c.self.inside.bits c.args.thread c.args.self.now c.has.result c.args.there c.self.view_is c.if-thread-ge-THREADS.false c.has.ensures c.if-has-there.false w.if-there.true
  | else-there w ↦ ap (bits_of 32) w.self-is ∙ cleared c.self.inside.bits c.args.thread c.args.self.now c.has.result c.args.there c.self.view_is c.if-thread-ge-THREADS.false c.has.ensures c.if-has-there.false w.if-there.false
]
