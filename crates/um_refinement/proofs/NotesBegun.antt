-- The number that a cell keeps of a thread that begins to wait there is that of its note, where the cell has a place for each thread.
use Rattle.um_refinement.proofs.Words.{◌≡◌, inl, inr, ℕ, ◌<◌, Bool, true, false, Option, Some, None, length, refl, sym, ap, ◌∙◌, arith, eq-eqb, ◌==◌, ◌&&◌, not, is_some, eqb-false, eqb-true, false≢true, true≢false, THREADS, State, Context, FineStep, Fine, runs_on, word}
use Rattle.um_refinement.specs.Fine.{one_if}
use Rattle.um_refinement.specs.Stops.{LiesAt, asleep, cell_site, noted_at, notes_in, parked, runs_it}
use Rattle.um_refinement.proofs.Erased.{around}
use Rattle.um_refinement.proofs.Leaves.{Lawful, Leaves}
use Rattle.um_refinement.proofs.Lying.{Before, lay-before}
use Rattle.um_refinement.proofs.NotesPut.{begun-held}
use Rattle.um_refinement.proofs.NotesThere.{note-there, shows_first}
use Rattle.um_refinement.proofs.Offered.{shown-on, shows-runs}
use Rattle.um_refinement.proofs.PlacesFacts.{lies-once, lies-unslept, running-unparked}
use Rattle.um_refinement.proofs.WaitersFound.{WaitersWait}
use Rattle.um_refinement.proofs.WaitsKept.{Begun, begun, begun-stays}

module _ (f : Fine) (m : State) (e : FineStep) (law : Lawful f m e) (wait : WaitersWait m) (t : ℕ) (few : t < THREADS) (s : State) (left : Leaves f m e s) where
  open around f e use {later, processor as p}

  -- where the maker runs it, its own part lies there alone
  one-part : runs_on t p ≡ true → (d : Context) → LiesAt f t d → d ≡ p.context
  one-part mine _ (runs_it k l running on) = by (e.cpu == k) refl
    where
      by : (b : Bool) → (e.cpu == k) ≡ b → (f.processors k).context ≡ p.context
      by true q = ap (λ n. (f.processors n).context) (sym (eqb-true e.cpu k q))
      by false q =
          let there : runs_on t (f.processors k) ≡ true = λ i. running i && not (on i) in
          let one = ap one_if mine in
          let two = ap one_if there in
          absurd (lies-once f m law.rel t few e.cpu k law.by.named l (eqb-false e.cpu k q) (omega (arith, one)) (omega (arith, two)))
  one-part mine _ (parked c there) = absurd (false≢true (sym (running-unparked f m law.rel t few e.cpu law.by.named mine) ∙ ap is_some there))
  one-part mine _ (asleep c there) = let one = ap one_if mine in absurd (false≢true (sym (lies-unslept f m law.rel t few e.cpu law.by.named (omega (arith, one))) ∙ ap is_some there))

  pub notes-begun : (x : ℕ) (c : Context) → Begun f m e t x → (word f t).note ≡ Some (cell_site x) → length (notes_in f x) ≡ THREADS → LiesAt later t c → c.noted ≡ Some (noted_at later x t)
  notes-begun x c (begun q rest todo y h is same starts) note long lies = by c.noted refl p.context.noted refl
    where
      new : Begun f m e t x
      new = begun q rest todo y h is same starts

      mine-lies : LiesAt f t p.context
      mine-lies = runs_it e.cpu law.by.named (λ i. shows-runs h i && eq-eqb p.context.thread t (sym same) i) (shown-on h)

      mine-runs : runs_on t p ≡ true
      mine-runs = λ i. (shows-runs h i && eq-eqb p.context.thread t (sym same) i) && not (shown-on h i)

      by : (o : Option ℕ) → c.noted ≡ o → (u : Option ℕ) → p.context.noted ≡ u → c.noted ≡ Some (noted_at later x t)
      by None none u was = absurd (true≢false (sym (ap is_some (begun-stays f m e law wait t few s left x new ∙ note)) ∙ (note-there f m e law s left t few c lies ∙ ap is_some none)))
      by (Some k) noted None was = absurd (true≢false (sym (ap is_some note) ∙ ((law.rel.threads t few).note.there p.context mine-lies ∙ ap is_some was)))
      by (Some k) noted (Some n) was = from (lay-before f m e law s left t few k c lies noted)
        where
          from : Before f m e law s left t few k → c.noted ≡ Some (noted_at later x t)
          from (inl (d, lay, held)) =
              noted ∙ (sym held ∙ (ap (λ (z : Context). z.noted) (one-part mine-runs d lay) ∙ (was ∙ ap Some (sym (begun-held f m e law t few x n new long was)))))
          from (inr (number, site, over, at, own)) = absurd (true≢false (ap shows_first (sym h.at ∙ at)))
