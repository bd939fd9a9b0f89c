-- The steps of one site, as they lead its word on: each is lawful in the state that those before it leave.
use Rattle.std.proofs.Common.{◌≡◌, ℕ, List, [], ◌∷◌, subst, map}
use Rattle.um_base.specs.declared.image.Image.{Image}
use Rattle.um_words.specs.History.{Entry, Words}
use Rattle.um_words.specs.History as History
use Rattle.um_words.specs.Steps.{WordMay}
use Rattle.um_words.specs.declared.made.Made.{Made}
use Rattle.um_fine.specs.Runs.{Run, ends}
use Rattle.um_fine.specs.Sites.{SiteMay, SiteState, s_next, word_of}
use Rattle.um_fine.specs.Steps.{FineStep}
use Rattle.um_board.specs.Noted.{packed}
use Rattle.um_history.specs.Played.{Each}
use Rattle.um_history.proofs.Entries.{fine_of}

-- the steps that go on from a state with this word are a run there, and lead to the word that they lead to
pub record Ran (image : Image) (s : SiteState) (steps : List FineStep) (z : ℕ) : Type 0 where
  pub run : Run (SiteMay image) (s_next image) s steps
  pub word : packed (word_of (ends (s_next image) s steps)) ≡ z

-- what one step says, where more is known of the state and of the steps from there
pub record Goes (image : Image) (Known : SiteState → List Made → Type 0) (s : SiteState) (e : Entry) (ms : List Made) : Type 0 where
  pub may : SiteMay image s (fine_of e)
  pub word : e.1.word ≡ packed (word_of (s_next image s (fine_of e)))
  pub on : Known (s_next image s (fine_of e)) ms

module _ (image : Image) (site : ℕ) (Known : SiteState → List Made → Type 0)
    (goes : (s : SiteState) (e : Entry) (ms : List Made) → e.1.site ≡ site → Known s (e.1 ∷ ms) → WordMay site (packed (word_of s)) e.1.act e.1.word → Goes image Known s e ms) where
  pub site-runs : (s : SiteState) (l : List Entry) (z : ℕ) → Known s (map History.made_of l) → Each (λ (e : Entry). e.1.site ≡ site) l → Words site (packed (word_of s)) (map History.made_of l) z
      → Ran image s (map fine_of l) z
  site-runs s [] z known here words = record { run = tt; word = words }
  site-runs s (e ∷ l) z known here words =
      let step = goes s e (map History.made_of l) here.0 known words.0 in
      let on = site-runs (s_next image s (fine_of e)) l z step.on here.1 (subst (λ (w : ℕ). Words site w (map History.made_of l) z) step.word words.1) in
      record { run = (step.may, on.run); word = on.word }

  -- what is known of the state that they leave
  pub site-known : (s : SiteState) (l : List Entry) (z : ℕ) → Known s (map History.made_of l) → Each (λ (e : Entry). e.1.site ≡ site) l → Words site (packed (word_of s)) (map History.made_of l) z
      → Known (ends (s_next image) s (map fine_of l)) []
  site-known s [] z known here words = known
  site-known s (e ∷ l) z known here words =
      let step = goes s e (map History.made_of l) here.0 known words.0 in
      site-known (s_next image s (fine_of e)) l z step.on here.1 (subst (λ (w : ℕ). Words site w (map History.made_of l) z) step.word words.1)
