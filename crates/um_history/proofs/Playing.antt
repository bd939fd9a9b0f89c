-- A processor as it plays: its steps stand in its seat's list and in its log, and their words among those that the seat got or left.
use Rattle.std.proofs.Common.{◌≡◌, ℕ, ◌≤◌, List, [], ◌∷◌, ◌++◌, inl, inr, map, refl, sym, ap, ◌∙◌, subst}
use Rattle.um_base.specs.declared.image.Image.{Image}
use Rattle.um_words.specs.Packed.{cell_of}
use Rattle.um_words.specs.Steps.{number}
use Rattle.um_words.specs.declared.made.Made.{Made}
use Rattle.um_fine.specs.Follows.{p_next}
use Rattle.um_fine.specs.Processor.{idle}
use Rattle.um_fine.specs.Runs.{ends}
use Rattle.um_fine.specs.Sites.{site_number}
use Rattle.um_fine.specs.Steps.{FineStep}
use Rattle.um_fine.proofs.Subs.{Run-append, ends-append}
use Rattle.um_merge.specs.declared.logged.Logged.{Logged}
use Rattle.um_tables.specs.Asked.{AsksFor}
use Rattle.um_site.specs.Tells.{NoOlder}
use Rattle.um_board.specs.Noted.{logged_of, made_of, packed}
use Rattle.um_board.specs.ReadBack.{IsReadBack}
use Rattle.um_board.specs.Saw.{WasGot}
use Rattle.um_board.proofs.Saws.{got-behind}
use Rattle.um_history.specs.Played.{Each, Played, SCHEDULER, SawQuiet}
use Rattle.um_history.proofs.Lists.{each-map}

-- what a processor's seat has while it plays
pub record Playing (image : Image) (k : ℕ) (made : List Made) (got : List (ℕ × ℕ)) (log : List Logged) (steps : List FineStep) : Type 0 where
  pub played : Played image k made log steps
  pub left : Each (λ (e : FineStep). WasGot got (site_number e.site) (packed e.word)) steps

-- Lists.

each-push : {X : Type 0} (P : X → Type 0) (xs : List X) (x : X) → Each P xs → P x → Each P (xs ++ x ∷ [])
each-push P [] x e p = (p, tt)
each-push P (y ∷ ys) x e p = (e.0, each-push P ys x e.1 p)

map-push : {X Y : Type 0} (f : X → Y) (xs : List X) (x : X) → map f (xs ++ x ∷ []) ≡ map f xs ++ f x ∷ []
map-push f [] x = refl
map-push f (y ∷ ys) x = ap (λ l. f y ∷ l) (map-push f ys x)

-- a word that is no older than any that was got is no older than this one
no-older : (got : List (ℕ × ℕ)) (i j w z : ℕ) → NoOlder got i z → WasGot got j w → j ≡ i → number i w ≤ number i z
no-older [] i j w z none was same = absurd was
no-older (e ∷ got) i j w z none (inl is) same = subst (λ (x : ℕ). number i x ≤ number i z) is.1 (none.0 (is.0 ∙ same))
no-older (e ∷ got) i j w z none (inr behind) same = no-older got i j w z none.1 behind same

-- Before the first step, with one more step, and with looks alone.

pub plays-none : (image : Image) (k : ℕ) (got : List (ℕ × ℕ)) → Playing image k [] got [] []
plays-none image k got = record { played = record { made_is = refl; log_is = refl; run = tt; whole = tt }; left = tt }

module _ (image : Image) (k : ℕ) (made : List Made) (got : List (ℕ × ℕ)) (log : List Logged) (steps : List FineStep) (playing : Playing image k made got log steps) where
  pub plays-on : (e : FineStep) (looked : List (ℕ × ℕ)) → AsksFor k image (ends (p_next image) idle steps) e → IsReadBack e
      → Playing image k (made ++ made_of e ∷ []) (((made_of e).site, (made_of e).word) ∷ looked ++ got) (log ++ logged_of e ∷ []) (steps ++ e ∷ [])
  plays-on e looked may whole =
      let p = playing.played in
      record {
        played = record {
          made_is = ap (λ (l : List Made). l ++ made_of e ∷ []) p.made_is ∙ sym (map-push made_of steps e);
          log_is = ap (λ (l : List Logged). l ++ logged_of e ∷ []) p.log_is ∙ sym (map-push logged_of steps e);
          run = Run-append (AsksFor k image) (p_next image) idle steps (e ∷ []) p.run (may, tt);
          whole = each-push IsReadBack steps e p.whole whole;
        };
        left = each-push (λ (s : FineStep). WasGot (((made_of e).site, (made_of e).word) ∷ looked ++ got) (site_number s.site) (packed s.word)) steps e
            (each-map (λ (s : FineStep). WasGot got (site_number s.site) (packed s.word)) (λ (s : FineStep). WasGot (((made_of e).site, (made_of e).word) ∷ looked ++ got) (site_number s.site) (packed s.word))
            (λ s was. inr (got-behind looked got (site_number s.site) (packed s.word) was)) steps playing.left)
            (inl (refl, refl));
      }

  pub plays-looked : (looked : List (ℕ × ℕ)) → Playing image k made (looked ++ got) log steps
  plays-looked looked =
      record {
        played = playing.played;
        left = each-map (λ (s : FineStep). WasGot got (site_number s.site) (packed s.word)) (λ (s : FineStep). WasGot (looked ++ got) (site_number s.site) (packed s.word))
            (λ s was. got-behind looked got (site_number s.site) (packed s.word) was) steps playing.left;
      }

  -- a look at the scheduler's word after the last step that saw nothing ready, running or owed
  pub saw-quiet : (w : ℕ) → NoOlder got SCHEDULER w → (cell_of w).ready ≡ 0 → (cell_of w).running ≡ 0 → (cell_of w).owed ≡ 0 → SawQuiet ((SCHEDULER, w) ∷ got) steps
  saw-quiet w none ready running owed =
      record {
        word = w;
        seen = inl (refl, refl);
        ready = ready;
        running = running;
        owed = owed;
        newest = each-map (λ (s : FineStep). WasGot got (site_number s.site) (packed s.word)) (λ (s : FineStep). site_number s.site ≡ SCHEDULER → number SCHEDULER (packed s.word) ≤ number SCHEDULER w)
            (λ s was same. no-older got SCHEDULER (site_number s.site) (packed s.word) w none was same) steps playing.left;
      }

-- the processor's state with one more step
pub ends-on : (image : Image) (steps : List FineStep) (e : FineStep) → ends (p_next image) idle (steps ++ e ∷ []) ≡ p_next image (ends (p_next image) idle steps) e
ends-on image steps e = ends-append (λ p g. Unit {0}) (p_next image) idle steps (e ∷ [])
