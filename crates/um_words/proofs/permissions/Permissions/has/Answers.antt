use Rattle.std.proofs.Common.{arith, ◌≡◌, false, slice_index_or, length, nat_eq, nat_lt, sym, ap, ◌∙◌}
use Rattle.std.proofs.lemmas.Bool.Decides.{nat_tests}
use Rattle.std.proofs.lemmas.Nat.Bits.{shr_and_one}
use Rattle.um_words.specs.BitLists.{length-bits, index-bits, index-beyond}
use Rattle.um_words.proofs.permissions.Permissions.has.Goals as goal

pub returns-then-thread-lt-THREADS : goal.returns-then-thread-lt-THREADS
returns-then-thread-lt-THREADS c = let b = c.self.inside.bits in let t = c.args.thread in
    ap (λ m. nat_eq m 1) (shr_and_one b t) ∙ sym (index-bits 32 b t c.if-thread-lt-THREADS.true) ∙ ap (λ l. slice_index_or l t false) c.self.view_is

pub returns-else-thread-lt-THREADS : goal.returns-else-thread-lt-THREADS
returns-else-thread-lt-THREADS c = let t = c.args.thread in
    let far : nat_lt t 32 ≡ false = let h = c.if-thread-lt-THREADS.false in grind (arith, nat_tests) in
    let long : length c.args.self.now ≡ 32 = ap length (sym c.self.view_is) ∙ length-bits 32 c.self.inside.bits in
    far ∙ sym (index-beyond c.args.self.now t (let h = c.if-thread-lt-THREADS.false in omega arith))
