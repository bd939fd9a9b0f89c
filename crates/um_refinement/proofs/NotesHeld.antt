-- The cell in which a thread waits keeps the number of its note, after every lawful step, where a thread that begins to wait is kept so.
use Rattle.um_refinement.proofs.Words.{◌≡◌, ◌⊎◌, inl, inr, ℕ, ◌+◌, ◌<◌, true, Option, Some, None, refl, sym, ap, ◌∙◌, is_some, true≢false, ROWS, THREADS, State, Context, FineStep, Fine}
use Rattle.um_refinement.specs.Stops.{LiesAt, noted_at, waits_at}
use Rattle.um_refinement.proofs.Erased.{around}
use Rattle.um_refinement.proofs.Leaves.{Lawful, Leaves}
use Rattle.um_refinement.proofs.Lying.{Before, lay-before}
use Rattle.um_refinement.proofs.NotesKept.{noted-kept}
use Rattle.um_refinement.proofs.NotesThere.{note-there}
use Rattle.um_refinement.proofs.WaitersFound.{WaitersWait}
use Rattle.um_refinement.proofs.WaitsKept.{Begun, never-notes, never-shows, note-stays, waited}

module _ (f : Fine) (m : State) (e : FineStep) (law : Lawful f m e) (wait : WaitersWait m) (t : ℕ) (few : t < THREADS) (s : State) (left : Leaves f m e s) where
  open around f e use {later}

  -- who waited before
  held-before : (x : ℕ) (c : Context) → x < ROWS + 2 → waits_at m t x ≡ true → LiesAt later t c → (o : Option ℕ) → c.noted ≡ o → c.noted ≡ Some (noted_at later x t)
  held-before x c inside was lies None none =
      let note = note-stays f m e law wait t few s left x was ∙ (law.rel.threads t few).note.waits x inside was in
      absurd (true≢false (sym (ap is_some note) ∙ (note-there f m e law s left t few c lies ∙ ap is_some none)))
  held-before x c inside was lies (Some n) noted = by (lay-before f m e law s left t few n c lies noted)
    where
      by : Before f m e law s left t few n → c.noted ≡ Some (noted_at later x t)
      by (inl (d, lay, same)) =
          let old = (law.rel.threads t few).note.kept x d inside was lay in
          let stays = noted-kept f m e law t s left (λ q rest todo h own. never-shows f m e law wait t few s left x was q rest todo h own) x inside in
          noted ∙ (sym same ∙ (old ∙ ap Some (sym stays)))
      by (inr (number, site, todo, at, own)) = absurd (never-notes f m e law wait t few s left x was site todo at own)

  pub notes-held : ((x : ℕ) (c : Context) → x < ROWS + 2 → Begun f m e t x → LiesAt later t c → c.noted ≡ Some (noted_at later x t))
      → (x : ℕ) (c : Context) → x < ROWS + 2 → waits_at s t x ≡ true → LiesAt later t c → c.noted ≡ Some (noted_at later x t)
  notes-held begins x c inside stands lies = by (waited f m e law wait t few s left x stands)
    where
      by : (waits_at m t x ≡ true) ⊎ Begun f m e t x → c.noted ≡ Some (noted_at later x t)
      by (inl was) = held-before x c inside was lies c.noted refl
      by (inr new) = begins x c inside new lies
