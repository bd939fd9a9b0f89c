use Rattle.std.proofs.Common.{◌≡◌, ℕ, arith, length-append}
use Rattle.um_fine.specs.Answers.{no_domain}
use Rattle.um_fine.specs.Opening.{domain_state}
use Rattle.um_fine.specs.Sites.{SiteState}
use Rattle.um_words.specs.declared.dom_word.DomWord.{DomWord}
use Rattle.um_opening.proofs.Lists.{each-more}
use Rattle.um_opening.proofs.words.domains.Goals as goal

pub loop-d-preserved : goal.loop-d-preserved
loop-d-preserved c = record {
  words =
      each-more (λ (d : ℕ) (w : DomWord). SiteState.domain w ≡ domain_state c.args.state.now d) no_domain _ _ _ _ c.in_ok-push.ensures.items c.loop-d.invariant.long
      c.domain_word.ensures c.loop-d.invariant.words;
  long = rw c.in_ok-push.ensures.items (omega (arith, length-append {A = DomWord}, c.loop-d.invariant.long));
}
