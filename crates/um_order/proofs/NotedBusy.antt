-- Who is aborted with a note isn't at rest: one at rest has none.
use Rattle.std.proofs.Common.{◌≡◌, ℕ, ◌<◌, Bool, true, false, cond, Some, refl, sym, ap, ◌∙◌}
use Rattle.std.specs.Prelude.{is_some}
use Rattle.std.proofs.lemmas.Bool.{and_parts, true≢false}
use Rattle.um_base.specs.declared.limits.TheConstants.{THREADS}
use Rattle.um_base.specs.declared.names.ThreadIx.{ThreadIx}
use Rattle.um_machine.specs.declared.pending.Pending.{Pending}
use Rattle.um_machine.specs.Order.{Steps}
use Rattle.um_machine.specs.State.{State, is_living, thread_at}
use Rattle.um_invariants.specs.Ready.{is_at_rest}
use Rattle.um_words.specs.declared.thread_word.ThreadWord.{ThreadWord}
use Rattle.um_fine.specs.Answers.{thread_in}
use Rattle.um_fine.specs.Places.{Todos}
use Rattle.um_fine.specs.Sites.{SiteState, s_next, same_site, site_after, word_of}
use Rattle.um_fine.specs.Steps.{FineStep, Site}
use Rattle.um_refinement.specs.Fine.{Fine, thread_state, word}
use Rattle.um_refinement.specs.Relation.{Rel}
use Rattle.um_refinement.proofs.Erased.{around}
use Rattle.um_refinement.proofs.Leaves.{Lawful}
use Rattle.um_refinement.proofs.NoteFacts.{rests-unnoted}
use Rattle.um_refinement.proofs.Offered.{Shows, site-is}
use Rattle.um_refinement.proofs.RowSteps.{thread-sort}
use Rattle.um_refinement.proofs.SchedulerSteps.{word-left}
use Rattle.um_fine.proofs.Keys.{same-itself}
use Rattle.um_order.proofs.RousedLines.{none-left}

module _ (f : Fine) (m : State) (e : FineStep) (law : Lawful f m e) (u : ℕ) (site : e.site ≡ Site.thread u) where
  open around f e use {later}

  -- the word that a step at a thread index leaves is that of the index
  pub word-there : thread_in e.word ≡ word later u
  word-there =
      ap thread_in (word-left f m e law)
      ∙ (ap (λ (i : Site). thread_in (word_of (site_after f.image (f.sites i) e.act e.moved))) site
      ∙ (ap (λ (z : SiteState). thread_in (word_of (site_after f.image z e.act e.moved))) (thread-sort u (f.sites (Site.thread u)) (law.rel.sorts (Site.thread u)))
      ∙ (sym (ap (λ (z : SiteState). thread_state (site_after f.image z e.act e.moved)) (thread-sort u (f.sites (Site.thread u)) (law.rel.sorts (Site.thread u))))
      ∙ sym (ap (λ b. thread_state (cond b (s_next f.image (f.sites (Site.thread u)) e) (f.sites (Site.thread u)))) (ap (λ i. same_site i (Site.thread u)) site ∙ same-itself (Site.thread u))))))

pub abort-busy : (f : Fine) (m : State) (e : FineStep) (who : ThreadIx) (rest : Steps) (todo : Todos) (s2 : State) (there : ℕ) → Lawful f m e → Shows f m e.cpu e (Pending.Abort who) rest todo → who.0 < THREADS → Rel (around f e).later s2
    → (thread_in e.word).note ≡ Some there → is_at_rest s2 who.0 ≡ false
abort-busy f m e who rest todo s2 there law h few related noted = by (is_at_rest s2 who.0) refl
  where
    by : (b : Bool) → is_at_rest s2 who.0 ≡ b → b ≡ false
    by false k = refl
    by true k =
        let parts = and_parts (is_living (thread_at s2 who.0).life) _ k in
        let none = rests-unnoted (around f e).later s2 who.0 (related.threads who.0 few).note (none-left (thread_at s2 who.0).pending parts.1) in
        absurd (true≢false (ap is_some (sym noted ∙ (ap (λ (w : ThreadWord). w.note) (word-there f m e law who.0 (site-is h)) ∙ none))))
