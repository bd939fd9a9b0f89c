use Rattle.std.proofs.Common.{◌≡◌, ℕ, arith, length-append}
use Rattle.std.proofs.lemmas.List.Elements.{All-push}
use Rattle.um_fine.specs.Answers.{no_thread}
use Rattle.um_fine.specs.Opening.{thread_state}
use Rattle.um_fine.specs.Sites.{SiteState}
use Rattle.um_words.specs.declared.thread_word.ThreadWord.{ThreadWord}
use Rattle.um_tables.specs.Sited.{in_domains}
use Rattle.um_opening.proofs.Lists.{each-more}
use Rattle.um_opening.proofs.words.threads.Goals as goal

pub loop-t-preserved : goal.loop-t-preserved
loop-t-preserved c = record {
  words =
      each-more (λ (t : ℕ) (w : ThreadWord). SiteState.thread w ≡ thread_state c.args.state.now t) no_thread _ _ _ _ c.in_ok-push.ensures.items c.loop-t.invariant.long
      c.thread_word.ensures.word c.loop-t.invariant.words;
  long = rw c.in_ok-push.ensures.items (omega (arith, length-append {A = ThreadWord}, c.loop-t.invariant.long));
  named = rw c.in_ok-push.ensures.items (All-push in_domains c.loop-t.words.items c.thread_word.result c.loop-t.invariant.named c.thread_word.ensures.named);
}
