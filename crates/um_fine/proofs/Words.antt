-- A step on a word is lawful at its site exactly where it is lawful on a board of words.
use Rattle.std.specs.Prelude.{◌≡◌, refl}
use Rattle.std.proofs.Common.{ap, sym, ◌∙◌}
use Rattle.std.proofs.lemmas.Bool.{and_parts, ltb-true}
use Rattle.um_base.specs.declared.act.Act.{Act}
use Rattle.um_base.specs.declared.image.Image.{Image}
use Rattle.um_base.specs.declared.names.ThreadIx.{ThreadIx}
use Rattle.um_words.specs.declared.fine.FineAct.{FineAct}
use Rattle.um_words.specs.declared.fine.More.{More}
use Rattle.um_words.specs.declared.row_word.RowWord.{RowWord}
use Rattle.um_words.specs.declared.thread_word.ThreadWord.{ThreadWord}
use Rattle.um_words.specs.declared.dom_word.DomWord.{DomWord}
use Rattle.um_words.specs.Rows.{RowMay, counted_row, row_after}
use Rattle.um_words.specs.Threads.{ThreadMay, counted_thread, thread_after, thread_says}
use Rattle.um_words.specs.Domains.{DomainMay, counted_domain, domain_after}
use Rattle.um_fine.specs.Steps.{FineStep, Word}
use Rattle.um_fine.specs.Threads.{thread_answers}
use Rattle.um_fine.specs.Sites.{SiteMay, SiteState}

says-shown : (w : ThreadWord) (t : ThreadIx) (more : More) (act : Act)
    → let a = FineAct.Shown (record { thread = t; act = act }) more in thread_answers w a ≡ a → thread_says w a ≡ a
says-shown w t more (Act.Check a kind want verdict) h = h
says-shown w t more (Act.Abort who done) h = h
says-shown w t more (Act.Suspend who done) h = h
says-shown w t more (Act.Continue who done) h = h
says-shown w t more act h = refl

says-act : (w : ThreadWord) (act : FineAct) → thread_answers w act ≡ act → thread_says w act ≡ act
says-act w (FineAct.Shown event more) h = says-shown w event.thread more event.act h
says-act w (FineAct.Unseen unseen) h = refl

module _ (image : Image) (e : FineStep) where
  pub row-may : (w : RowWord) → SiteMay image (SiteState.row w) e → (z : RowWord) × (e.word ≡ Word.row z) × RowMay w e.act z
  row-may w h =
      let parts = and_parts _ _ h.takes in
      let says = ap (λ (s : FineStep). s.act) h.filled_in in
      let word = ap (λ (s : FineStep). s.word) h.filled_in in (
        counted_row (row_after w e.act),
        sym word ∙ ap (λ a. Word.row (counted_row (row_after w a))) says,
        record { room = ltb-true _ _ parts.0; takes = parts.1; says = says; leaves = refl },
      )

  pub thread-may : (w : ThreadWord) → SiteMay image (SiteState.thread w) e → (z : ThreadWord) × (e.word ≡ Word.thread z) × ThreadMay w e.act z
  thread-may w h =
      let parts = and_parts _ _ h.takes in
      let answers = ap (λ (s : FineStep). s.act) h.filled_in in
      let word = ap (λ (s : FineStep). s.word) h.filled_in in (
        counted_thread (thread_after w e.act),
        sym word ∙ ap (λ a. Word.thread (counted_thread (thread_after w a))) answers,
        record { room = ltb-true _ _ parts.0; takes = parts.1; says = says-act w e.act answers; leaves = refl },
      )

  pub domain-may : (w : DomWord) → SiteMay image (SiteState.domain w) e → (z : DomWord) × (e.word ≡ Word.domain z) × DomainMay w e.act z
  domain-may w h =
      let parts = and_parts _ _ h.takes in
      let word = ap (λ (s : FineStep). s.word) h.filled_in in
      (counted_domain (domain_after w e.act), sym word, record { room = ltb-true _ _ parts.0; takes = parts.1; leaves = refl })
