-- Steps whose events stand in a list of their own: what is read of them, and what comes after them.
use Rattle.std.proofs.Common.{◌≡◌, ℕ, zero, suc, ◌+◌, ◌<◌, ◌≤◌, Bool, true, false, List, [], ◌∷◌, ◌++◌, length, take, Option, Some, None, refl, sym, ap, ◌∙◌, subst, get_or, add-one, arith}
use Rattle.um_base.specs.declared.act.Event.{Event}
use Rattle.um_merge.specs.declared.logged.Logged.{Logged}
use Rattle.um_merge.specs.declared.logged.Short.{Short}
use Rattle.um_merge.specs.Logs.{blank, event_on, events_of}
use Rattle.um_merge.specs.Told.{count, first_on, left_on, one_more, told}

-- the step with what it shows
abbrev pub whole : Short → Option Event → Logged
whole step event = record { cpu = step.cpu; site = step.site; number = step.number; event = event }

pub told-length : (steps : List Short) (events : List Event) → length (told steps events) ≡ length steps
told-length [] events = refl
told-length (step ∷ steps) events = ap suc (told-length steps (left_on step.shows events))

more-than : (b : Bool) (n m : ℕ) → n ≤ m → one_more b n ≤ suc m
more-than false n m le = omega (arith, le)
more-than true n m le = omega (arith, le)

pub count-few : (steps : List Short) → count steps ≤ length steps
count-few [] = omega (arith)
count-few (step ∷ steps) = more-than step.shows (count steps) (length steps) (count-few steps)

two-more : (a b : Bool) (n : ℕ) → one_more a (one_more b n) ≡ one_more b (one_more a n)
two-more false b n = refl
two-more true false n = refl
two-more true true n = refl

pub count-behind : (steps : List Short) (last : Short) → count (steps ++ last ∷ []) ≡ one_more last.shows (count steps)
count-behind [] last = refl
count-behind (step ∷ steps) last = ap (one_more step.shows) (count-behind steps last) ∙ two-more step.shows last.shows (count steps)

-- all events are shown, in their order
events-by : (b : Bool) (events : List Event) (n : ℕ) (shown : List Event → List Event) → one_more b n ≡ length events
    → ((left : List Event) → n ≡ length left → shown left ≡ left) → event_on (first_on b events) (shown (left_on b events)) ≡ events
events-by false events n shown all rest = rest events all
events-by true [] n shown all rest = absurd (omega (arith, all))
events-by true (event ∷ events) n shown all rest = ap (λ l. event ∷ l) (rest events (omega (arith, all)))

pub told-events : (steps : List Short) (events : List Event) → count steps ≡ length events → events_of (told steps events) ≡ events
told-events [] [] all = refl
told-events [] (event ∷ events) all = absurd (omega (arith, all))
told-events (step ∷ steps) events all = events-by step.shows events (count steps) (λ left. events_of (told steps left)) all (told-events steps)

-- one more step after the others that shows nothing, and one that shows an event
pub told-quiet : (steps : List Short) (events : List Event) (last : Short) → last.shows ≡ false → told (steps ++ last ∷ []) events ≡ told steps events ++ whole last None ∷ []
told-quiet [] events last quiet = ap (λ b. whole last (first_on b events) ∷ []) quiet
told-quiet (step ∷ steps) events last quiet = ap (λ l. whole step (first_on step.shows events) ∷ l) (told-quiet steps (left_on step.shows events) last quiet)

shown-by : (b : Bool) (events : List Event) (n : ℕ) (event : Event) (x : Option Event → Logged) (new old : List Event → List Logged) (last : List Logged) → one_more b n ≡ length events
    → ((left : List Event) → n ≡ length left → new (left ++ event ∷ []) ≡ old left ++ last)
    → x (first_on b (events ++ event ∷ [])) ∷ new (left_on b (events ++ event ∷ [])) ≡ (x (first_on b events) ∷ old (left_on b events)) ++ last
shown-by false events n event x new old last all rest = ap (λ l. x None ∷ l) (rest events all)
shown-by true [] n event x new old last all rest = absurd (omega (arith, all))
shown-by true (first ∷ events) n event x new old last all rest = ap (λ l. x (Some first) ∷ l) (rest events (omega (arith, all)))

pub told-shown : (steps : List Short) (events : List Event) (last : Short) (event : Event) → last.shows ≡ true → count steps ≡ length events
    → told (steps ++ last ∷ []) (events ++ event ∷ []) ≡ told steps events ++ whole last (Some event) ∷ []
told-shown [] [] last event shows all = ap (λ b. whole last (first_on b (event ∷ [])) ∷ []) shows
told-shown [] (first ∷ events) last event shows all = absurd (omega (arith, all))
told-shown (step ∷ steps) events last event shows all =
    shown-by step.shows events (count steps) event (whole step) (told (steps ++ last ∷ [])) (told steps) (whole last (Some event) ∷ []) all
    (λ left rest. told-shown steps left last event shows rest)

place-at : (steps : List Short) (events : List Event) (k : ℕ) (d : Short) → k < length steps → whole (get_or steps k d) (get_or (told steps events) k blank).event ≡ get_or (told steps events) k blank
place-at [] events k d below = absurd (omega (arith, below))
place-at (step ∷ steps) events zero d below = refl
place-at (step ∷ steps) events (suc k) d below = place-at steps (left_on step.shows events) k d (omega (arith, below))

-- a step is where it is told
pub told-place : (steps : List Short) (events : List Event) (items : List Logged) → told steps events ≡ items → (k : ℕ) (d : Short) → k < length items
    → whole (get_or steps k d) (get_or items k blank).event ≡ get_or items k blank
told-place steps events items told-is k d there =
    let same = ap length told-is in let long = told-length steps events in
    subst (λ (l : List Logged). whole (get_or steps k d) (get_or l k blank).event ≡ get_or l k blank) told-is (place-at steps events k d (omega (arith, there, same, long)))

-- what is read of a step before which this many events are shown, and how many are shown with it
abbrev pub IsReadAs : Bool → Short → List Event → ℕ → ℕ → Logged → Type 0
IsReadAs false step events shown more x = (x ≡ whole step None) × (more ≡ shown)
IsReadAs true step events shown more x = (shown < length events) × ((d : Event) → x ≡ whole step (Some (get_or events shown d))) × (more ≡ suc shown)

read-first : (b : Bool) (step : Short) (events : List Event) (n : ℕ) → one_more b n ≡ length events
    → IsReadAs b step events 0 (length (event_on (first_on b events) [])) (whole step (first_on b events))
read-first false step events n all = (refl, refl)
read-first true step [] n all = absurd (omega (arith, all))
read-first true step (event ∷ events) n all = (omega (arith), λ d. refl, refl)

read-behind : (c : Bool) (step : Short) (event : Event) (events : List Event) (m more : ℕ) (x : Logged)
    → IsReadAs c step events m more x → IsReadAs c step (event ∷ events) (suc m) (suc more) x
read-behind false step event events m more x (is, same) = (is, ap suc same)
read-behind true step event events m more x (here, is, next) = (omega (arith, here), is, ap suc next)

read-by : (b c : Bool) (step : Short) (events : List Event) (n : ℕ) (before with' : List Event → List Event) (x : List Event → Logged) → one_more b n ≡ length events
    → ((left : List Event) → n ≡ length left → IsReadAs c step left (length (before left)) (length (with' left)) (x left))
    → IsReadAs c step events (length (event_on (first_on b events) (before (left_on b events)))) (length (event_on (first_on b events) (with' (left_on b events)))) (x (left_on b events))
read-by false c step events n before with' x all rest = rest events all
read-by true c step [] n before with' x all rest = absurd (omega (arith, all))
read-by true c step (event ∷ events) n before with' x all rest =
    read-behind c step event events (length (before events)) (length (with' events)) (x events) (rest events (omega (arith, all)))

pub told-at : (steps : List Short) (events : List Event) (k : ℕ) (d : Short) → k < length steps → count steps ≡ length events
    → IsReadAs (get_or steps k d).shows (get_or steps k d) events (length (events_of (take k (told steps events)))) (length (events_of (take (suc k) (told steps events)))) (get_or (told steps events) k blank)
told-at [] events k d below all = absurd (omega (arith, below))
told-at (step ∷ steps) events zero d below all = read-first step.shows step events (count steps) all
told-at (step ∷ steps) events (suc k) d below all =
    read-by step.shows (get_or steps k d).shows (get_or steps k d) events (count steps) (λ left. events_of (take k (told steps left))) (λ left. events_of (take (suc k) (told steps left)))
    (λ left. get_or (told steps left) k blank) all
    (λ left rest. told-at steps left k d (omega (arith, below)) rest)

-- the step at a place of steps that are told, by whether it shows an event
module _ (steps : List Short) (events : List Event) (items : List Logged) (told-is : told steps events ≡ items) (all : count steps ≡ length events) (k shown : ℕ)
    (there : k < length items) (before : shown ≡ length (events_of (take k items))) where
  pub in-steps : k < length steps
  in-steps = let same = ap length told-is in let long = told-length steps events in omega (arith, there, same, long)

  module _ (d step : Short) (is : step ≡ get_or steps k d) where
    read : (b : Bool) → step.shows ≡ b → IsReadAs b step events shown (length (events_of (take (suc k) items))) (get_or items k blank)
    read b shows =
        subst (λ (b : Bool). IsReadAs b step events shown (length (events_of (take (suc k) items))) (get_or items k blank)) shows
        (subst (λ (s : Short). IsReadAs s.shows s events shown (length (events_of (take (suc k) items))) (get_or items k blank)) (sym is)
        (subst (λ (n : ℕ). IsReadAs (get_or steps k d).shows (get_or steps k d) events n (length (events_of (take (suc k) items))) (get_or items k blank)) (sym before)
        (subst (λ (l : List Logged). IsReadAs (get_or steps k d).shows (get_or steps k d) events (length (events_of (take k l))) (length (events_of (take (suc k) l))) (get_or l k blank)) told-is
        (told-at steps events k d in-steps all))))

    pub read-quiet : step.shows ≡ false → (get_or items k blank ≡ whole step None) × (shown ≡ length (events_of (take (k + 1) items)))
    read-quiet quiet = let r = read false quiet in (r.0, sym (ap (λ (n : ℕ). length (events_of (take n items))) (add-one k) ∙ r.1))

    pub read-shown : step.shows ≡ true
        → (shown < length events) × ((d : Event) → get_or items k blank ≡ whole step (Some (get_or events shown d))) × (shown + 1 ≡ length (events_of (take (k + 1) items)))
    read-shown shows = let r = read true shows in
        (r.0, r.1, add-one shown ∙ sym (ap (λ (n : ℕ). length (events_of (take n items))) (add-one k) ∙ r.2))
