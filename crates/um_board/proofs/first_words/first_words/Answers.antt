use Rattle.std.proofs.Common.{ℕ, arith, length-append}
use Rattle.um_opening.proofs.Lists.{each-more}
use Rattle.um_board.specs.Opening.{IsFirstWord}
use Rattle.um_board.proofs.first_words.first_words.Goals as goal

pub loop-site-preserved : goal.loop-site-preserved
loop-site-preserved c = record {
  long = rw c.in_ok-push.ensures.items (omega (arith, length-append {A = ℕ}, c.loop-site.invariant.long));
  each =
      each-more (λ (k w : ℕ). IsFirstWord c.args.image.now k w) 0 _ _ _ _ c.in_ok-push.ensures.items c.loop-site.invariant.long
      c.word_at.ensures c.loop-site.invariant.each;
  few = c.loop-site.invariant.few;
}

pub returns-clause-words : goal.returns-clause-words
returns-clause-words c = let l = c.loop-site in
    record { count = omega (arith, l.invariant.long, c.loop-site-test.false); each = λ i low. (l.invariant.each i (omega (arith, low, c.loop-site-test.false))).value }

pub returns-clause-unstepped : goal.returns-clause-unstepped
returns-clause-unstepped c = let l = c.loop-site in λ i low. (l.invariant.each i (omega (arith, low, l.invariant.long))).unstepped

pub returns-clause-free : goal.returns-clause-free
returns-clause-free c = let l = c.loop-site in λ i far low. (l.invariant.each i (omega (arith, low, l.invariant.long))).free far
