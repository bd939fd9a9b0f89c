-- What a seat keeps, when it looks and steps: one thing after another.
use Rattle.std.proofs.Common.{◌≡◌, ℕ, List, [], ◌∷◌, ◌++◌, Option, refl, sym, ap, ◌∙◌, append_assoc}
use Rattle.um_base.specs.declared.act.Event.{Event}
use Rattle.um_site.specs.Calls.{SameSeat}
use Rattle.um_site.specs.Tells.{recording, returning, taking, with_got, with_made}
use Rattle.um_site.specs.declared.seat.Seat.{Seat}
use Rattle.um_site.specs.declared.view.View.{View}
use Rattle.um_words.specs.declared.made.Made.{Made}
use Rattle.um_fine.specs.Sites.{site_number}
use Rattle.um_fine.specs.Steps.{FineStep}
use Rattle.um_merge.specs.declared.logged.Logged.{Logged}
use Rattle.um_tables.specs.Asked.{event_of}
use Rattle.um_board.specs.Contents.{Known}
use Rattle.um_board.specs.Noted.{logged_of, made_of, number_of}
use Rattle.um_board.specs.ReadBack.{IsReadBack}
use Rattle.um_board.specs.Seated.{KeepsPlace, Noted, Unnoted}

-- a view that has what the other has, but for its steps, the words that it got, and its turn
abbrev KeepsView : View → View → Type 0
KeepsView v w =
    (v.image ≡ w.image) × (v.opening ≡ w.opening) × (v.name ≡ w.name) × (v.splits ≡ w.splits) × (v.children ≡ w.children) × (v.joined ≡ w.joined) × (v.filled ≡ w.filled)

-- the seat has such a view now
keeps-by : (s t : Seat Known) (v : View) → SameSeat s t → t.token.me.0 ≡ v → KeepsView v s.token.me.0 → KeepsPlace s t
keeps-by s t v same is kept =
    λ i. record {
      board = same.0 i;
      place = same.1 i;
      split = same.2 i;
      joined = same.3 i;
      first = same.4 i;
      image = (ap (λ (w : View). w.image) is ∙ kept.0) i;
      opening = (ap (λ (w : View). w.opening) is ∙ kept.1) i;
      name = (ap (λ (w : View). w.name) is ∙ kept.2) i;
      splits = (ap (λ (w : View). w.splits) is ∙ kept.3) i;
      children = (ap (λ (w : View). w.children) is ∙ kept.4) i;
      lists = (ap (λ (w : View). w.joined) is ∙ kept.5) i;
      filled = (ap (λ (w : View). w.filled) is ∙ kept.6) i;
    }

pub unnoted-same : (s : Seat Known) (log : List Logged) → Unnoted s log s log
unnoted-same s log = record { keeps = refl; made = refl; log = refl; got = ([], refl) }

-- it got a word
unnoted-by : (s t : Seat Known) (v : View) (i w : ℕ) (log : List Logged) → SameSeat s t → t.token.me.0 ≡ v → KeepsView v s.token.me.0 → v.made ≡ s.token.me.0.made → v.got ≡ (i, w) ∷ s.token.me.0.got
    → Unnoted s log t log
unnoted-by s t v i w log same is kept made got =
    record {
      keeps = keeps-by s t v same is kept;
      made = ap (λ (u : View). u.made) is ∙ made;
      log = refl;
      got = ((i, w) ∷ [], ap (λ (u : View). u.got) is ∙ got);
    }

-- a look
pub looked-at : (s t : Seat Known) (i w : ℕ) (log : List Logged) → SameSeat s t → t.token.me.0 ≡ with_got s.token.me.0 i w → Unnoted s log t log
looked-at s t i w log same is = unnoted-by s t (with_got s.token.me.0 i w) i w log same is (refl, refl, refl, refl, refl, refl, refl) refl refl

-- a turn was taken
pub taken-turn : (s t : Seat Known) (i w : ℕ) (past : List Made) (log : List Logged) → SameSeat s t → t.token.me.0 ≡ taking s.token.me.0 i w past → Unnoted s log t log
taken-turn s t i w past log same is = unnoted-by s t (taking s.token.me.0 i w past) i w log same is (refl, refl, refl, refl, refl, refl, refl) refl refl

-- a turn was given back
pub gave-turn : (s t : Seat Known) (i w : ℕ) (log : List Logged) → SameSeat s t → t.token.me.0 ≡ returning s.token.me.0 i w s.token.me.0.filled → Unnoted s log t log
gave-turn s t i w log same is = unnoted-by s t (returning s.token.me.0 i w s.token.me.0.filled) i w log same is (refl, refl, refl, refl, refl, refl, refl) refl refl

-- it made a step
noted-by : (s t : Seat Known) (v : View) (e : FineStep) (log new : List Logged) → SameSeat s t → t.token.me.0 ≡ v → KeepsView v s.token.me.0 → v.made ≡ s.token.me.0.made ++ made_of e ∷ []
    → v.got ≡ ((made_of e).site, (made_of e).word) ∷ s.token.me.0.got → new ≡ log ++ logged_of e ∷ [] → IsReadBack e → Noted s log e t new
noted-by s t v e log new same is kept made got l back =
    record {
      keeps = keeps-by s t v same is kept;
      made = ap (λ (u : View). u.made) is ∙ made;
      log = l;
      back = back;
      got = ([], ap (λ (u : View). u.got) is ∙ got);
    }

-- a step was recorded
pub stepped : (s t : Seat Known) (e : FineStep) (log new : List Logged) → SameSeat s t → t.token.me.0 ≡ with_made s.token.me.0 (made_of e) → new ≡ log ++ logged_of e ∷ [] → IsReadBack e → Noted s log e t new
stepped s t e log new same is l back = noted-by s t (with_made s.token.me.0 (made_of e)) e log new same is (refl, refl, refl, refl, refl, refl, refl) refl refl l back

-- a step of a cell was recorded, and the turn given back
pub put-turn : (s t : Seat Known) (e : FineStep) (log new : List Logged) → SameSeat s t → t.token.me.0 ≡ recording s.token.me.0 (made_of e) → new ≡ log ++ logged_of e ∷ [] → IsReadBack e → Noted s log e t new
put-turn s t e log new same is l back = noted-by s t (recording s.token.me.0 (made_of e)) e log new same is (refl, refl, refl, refl, refl, refl, refl) refl refl l back

-- the step as its processor notes it
pub logged-is : (e : FineStep) (cpu site number : ℕ) (event : Option Event) → e.cpu ≡ cpu → site_number e.site ≡ site → number ≡ number_of e.word → event ≡ event_of e.act
    → record { cpu = cpu; site = site; number = number; event = event } ≡ logged_of e
logged-is e cpu site number event at here n shows = λ i. record { cpu = sym at i; site = sym here i; number = n i; event = shows i }

pub unnoted-then : (s t u : Seat Known) (a b c : List Logged) → Unnoted s a t b → Unnoted t b u c → Unnoted s a u c
unnoted-then s t u a b c x y =
    record {
      keeps = y.keeps ∙ x.keeps;
      made = y.made ∙ x.made;
      log = y.log ∙ x.log;
      got = (y.got.0 ++ x.got.0, y.got.1 ∙ (ap (λ g. y.got.0 ++ g) x.got.1 ∙ sym (append_assoc y.got.0 x.got.0 s.token.me.0.got)));
    }

pub noted-then : (s t u : Seat Known) (a b c : List Logged) (e : FineStep) → Unnoted s a t b → Noted t b e u c → Noted s a e u c
noted-then s t u a b c e x y =
    record {
      keeps = y.keeps ∙ x.keeps;
      made = y.made ∙ ap (λ m. m ++ made_of e ∷ []) x.made;
      log = y.log ∙ ap (λ l. l ++ logged_of e ∷ []) x.log;
      back = y.back;
      got = (
        y.got.0 ++ x.got.0,
        y.got.1 ∙ ap (λ g. ((made_of e).site, (made_of e).word) ∷ g) (ap (λ g. y.got.0 ++ g) x.got.1 ∙ sym (append_assoc y.got.0 x.got.0 s.token.me.0.got)),
      );
    }
