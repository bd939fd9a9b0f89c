-- The states that a search met.
use Rattle.std.proofs.Common.{◌≡◌, ◌⊎◌, inl, inr, ℕ, zero, suc, ◌+◌, ◌<◌, ◌≤◌, List, [], ◌∷◌, ◌++◌, length, take, drop, reverse, refl, sym, ap, ◌∙◌, subst, arith, length-append, Some, slice_get}
use Rattle.std.proofs.lemmas.List.{reverse-append}
use Rattle.std.proofs.lemmas.Option.{slice_get_within}
use Rattle.um_base.specs.declared.act.Event.{Event}
use Rattle.um_base.specs.declared.image.Image.{Image}
use Rattle.um_machine.specs.Run.{IsRun, Runs, Step, opening}
use Rattle.um_machine.specs.State.{State}
use Rattle.um_machine.proofs.RunLemmas.{runs-parts, runs-push}
use Rattle.um_invariants.specs.Described.{IsDescribed}
use Rattle.um_texts.proofs.NameLemmas.{are_named}
use Rattle.um_audit.proofs.LawLemmas.{led-one}
use Rattle.um_audit.proofs.WholeLemmas.{led-run}
use Rattle.um_audit.proofs.WholeLemmas as Whole
use Rattle.um_matrix.proofs.OfferLemmas.{le-or-lt}
use Rattle.um_matrix.specs.Offered.{IsRefusedAt}
use Rattle.um_matrix.proofs.ReachLemmas.{image-opening, image-step}
use Rattle.um_explore.specs.Failures.{Failures, failures, noted}
use Rattle.um_explore.specs.Met.{Adds, AreLayered, AreMet, Grows, IsKnown, IsLed, IsMet, IsNear, IsTree, Leads, LeadsOn, PathTo, goes, opens}
use Rattle.um_explore.specs.declared.met.Link.{Link}
use Rattle.um_explore.proofs.FailureLemmas.{failures-push}

-- events lead to one state
pub runs-one : (image : Image) → IsDescribed image → (events : List Event) (a b : State) → IsRun image events a → IsRun image events b → a ≡ b
runs-one image is events a b run other =
    let named = are_named image is.lawful in
    led-one image is (Whole.lines image events) a b (led-run image named events (opening image) a run) (led-run image named events (opening image) b other)

-- an event leads from a state of a run to one state
pub step-one : (image : Image) → IsDescribed image → (events : List Event) (s : State) → IsRun image events s → (event : Event) (a b : State) → Step s event a → Step s event b → a ≡ b
step-one image is events s run event a b step other =
    runs-one image is (events ++ event ∷ []) a b (runs-push (opening image) events s event a run step) (runs-push (opening image) events s event b run other)

-- a number has one path
pub one-path : (links : List Link) (k : ℕ) (events others : List Event) → PathTo links k events → PathTo links k others → events ≡ others
one-path links k events others (opens here none) (opens there nothing) = none ∙ sym nothing
one-path links k events others (opens here none) (goes {n} there at up path is) = absurd (omega (arith, here, there))
one-path links k events others (goes {n} here at up path is) (opens there none) = absurd (omega (arith, here, there))
one-path links k events others (goes {n} {link} {before} here at up path is) (goes {n = m} {link = other} {before = more} there at2 up2 path2 is2) =
    let same : n ≡ m = omega (arith, here, there) in
    let one : link ≡ other = (let both : Some link ≡ Some other = sym at ∙ ap (λ (i : ℕ). slice_get links i) same ∙ at2 in cc) in
    let front : before ≡ more = one-path links link.parent before more path (subst (λ (l : Link). PathTo links l.parent more) (sym one) path2) in
    is ∙ ap (λ (es : List Event). es ++ link.event ∷ []) front ∙ ap (λ (l : Link). more ++ l.event ∷ []) one ∙ sym is2

-- and one state
pub one-state : (image : Image) → IsDescribed image → (links : List Link) (k : ℕ) (a b : State) → Leads image links k a → Leads image links k b → a ≡ b
one-state image is links k a b (events, path, run) (others, path2, run2) =
    let same = one-path links k events others path path2 in
    runs-one image is events a b run (subst (λ (es : List Event). IsRun image es b) (sym same) run2)

pub path-opens : (links : List Link) (k : ℕ) → k ≤ 0 → PathTo links k []
path-opens links k none = opens (omega arith) refl

pub path-more : (links : List Link) (k n : ℕ) (link : Link) (before : List Event) → k ≡ n + 1 → slice_get links n ≡ Some link → link.parent ≤ n → PathTo links link.parent before → PathTo links k (before ++ link.event ∷ [])
path-more links k n link before is at up path = goes is at up path refl

-- Making a state anew.

split-at : {A : Type 0} (xs : List A) (k : ℕ) (x : A) → slice_get xs k ≡ Some x → xs ≡ take k xs ++ x ∷ drop (suc k) xs
split-at [] k x h = cc
split-at (y ∷ ys) zero x h = (let same : y ≡ x = cc in ap (λ (z : _). z ∷ ys) same)
split-at (y ∷ ys) (suc k) x h = ap (λ (zs : List _). y ∷ zs) (split-at ys k x h)

pub never-refused : (image : Image) → IsDescribed image → (events : List Event) (s s2 : State) (k : ℕ) → IsRun image events s → IsRefusedAt (opening image) events k s2 → ⊥
never-refused image is events s s2 k run refused =
    let event = refused.event in
    let cut = split-at events k event refused.next in
    let parts = runs-parts (opening image) (take k events) (event ∷ drop (suc k) events) s (subst (λ (es : List Event). Runs (opening image) es s) cut run) in
    let same : parts.0 ≡ s2 = runs-one image is (take k events) parts.0 s2 parts.1 refused.so_far in
    let next = parts.2 in
    refused.refused next.0 (subst (λ (now : State). Step now event next.0) same next.1)

pub reverse-push : {A : Type 0} (xs : List A) (x : A) → reverse (xs ++ x ∷ []) ≡ x ∷ reverse xs
reverse-push xs x = reverse-append xs (x ∷ [])

-- One state more.

pub get-more : {A : Type 0} (xs ys : List A) (k : ℕ) (y : A) → slice_get xs k ≡ Some y → slice_get (xs ++ ys) k ≡ Some y
get-more [] ys k y h = cc
get-more (x ∷ xs) ys zero y h = h
get-more (x ∷ xs) ys (suc k) y h = get-more xs ys k y h

pub get-front : {A : Type 0} (xs : List A) (y : A) → slice_get (xs ++ y ∷ []) (length xs) ≡ Some y
get-front [] y = refl
get-front (x ∷ xs) y = get-front xs y

pub get-less : {A : Type 0} (xs ys : List A) (k : ℕ) (y : A) → k < length xs → slice_get (xs ++ ys) k ≡ Some y → slice_get xs k ≡ Some y
get-less [] ys k y less h = absurd (omega arith)
get-less (x ∷ xs) ys zero y less h = h
get-less (x ∷ xs) ys (suc k) y less h = get-less xs ys k y (omega arith) h

path-kept : (links more : List Link) (k : ℕ) (events : List Event) → PathTo links k events → PathTo (links ++ more) k events
path-kept links more k events (opens here none) = opens here none
path-kept links more k events (goes {n} {link} {before} is at up path last) = goes is (get-more links more n link at) up (path-kept links more link.parent before path) last

pub leads-kept : (image : Image) (links more : List Link) (k : ℕ) (s : State) → Leads image links k s → Leads image (links ++ more) k s
leads-kept image links more k s (events, path, run) = (events, path-kept links more k events path, run)

pub grows-none : (image : Image) (links : List Link) → Grows image links links
grows-none image links = record { more = omega arith; paths = λ k es h. h }

pub grows-more : (image : Image) (a b c : List Link) → Grows image a b → Grows image b c → Grows image a c
grows-more image a b c one two =
    let first = one.more in
    let second = two.more in record { more = omega (arith, first, second); paths = λ k es h. two.paths k es (one.paths k es h) }

grows-by : (image : Image) (links : List Link) (link : Link) → Grows image links (links ++ link ∷ [])
grows-by image links link = record { more = grind (arith, length-append); paths = λ k es h. path-kept links (link ∷ []) k es h }

pub grows-add : (image : Image) (before links : List Link) (parent : ℕ) (event : Event) → Adds before parent event links → Grows image before links
grows-add image before links parent event (link, from, by, is) = subst (λ (ls : List Link). Grows image before ls) (sym is) (grows-by image before link)

pub led-kept : (image : Image) (before links : List Link) (k : ℕ) (events : List Event) (s : State) → Grows image before links → IsLed image before k events s → IsLed image links k events s
led-kept image before links k events s grows led = record { path = grows.paths k events led.path; run = led.run }

pub met-kept : (image : Image) (before links : List Link) (n : ℕ) (notes : Failures) (s : State) → Grows image before links → IsMet image before n notes s → IsMet image links n notes s
met-kept image before links n notes s grows (k, within, events, led, noted_so, few) =
    let more = grows.more in (k, omega (arith, within, more), events, led-kept image before links k events s grows led, noted_so, few)

-- the state that the new link leads to
new-led : (image : Image) (before : List Link) (link : Link) (events : List Event) (s s2 : State) → link.parent ≤ length before → IsLed image before link.parent events s → Step s link.event s2
    → IsLed image (before ++ link ∷ []) (length before + 1) (events ++ link.event ∷ []) s2
new-led image before link events s s2 up led step = record {
  path = goes refl (get-front before link) up (path-kept before (link ∷ []) link.parent events led.path) refl;
  run = runs-push (opening image) events s link.event s2 led.run step;
}

pub leads-led : (image : Image) (links : List Link) (k : ℕ) (events : List Event) (s : State) → IsLed image links k events s → Leads image links k s
leads-led image links k events s led = (events, led.path, led.run)

pub led-leads : (image : Image) (links : List Link) (k : ℕ) (s : State) (there : Leads image links k s) → IsLed image links k there.0 s
led-leads image links k s there = record { path = there.1; run = there.2 }

new-leads : (image : Image) (before : List Link) (link : Link) (s s2 : State) → link.parent ≤ length before → Leads image before link.parent s → Step s link.event s2 → Leads image (before ++ link ∷ []) (length before + 1) s2
new-leads image before link s s2 up there step =
    leads-led image (before ++ link ∷ []) (length before + 1) (there.0 ++ link.event ∷ []) s2 (new-led image before link there.0 s s2 up (led-leads image before link.parent s there) step)

three-ways : (k n : ℕ) → k ≤ n + 1 → (k ≤ n) ⊎ (k ≡ n + 1)
three-ways k n h = elim (le-or-lt k (n + 1)) [ inl less ↦ inl (omega (arith, less)) | inr past ↦ inr (omega (arith, past, h)) ]

tree-add : (before : List Link) (link : Link) → IsTree before → link.parent ≤ length before → IsTree (before ++ link ∷ [])
tree-add before link tree up n other at =
    elim (le-or-lt n (length before)) [
      | inl less ↦ tree n other (get-less before (link ∷ []) n other less at)
      | inr past ↦
          (let within = slice_get_within (before ++ link ∷ []) n other at in
          let here : n ≡ length before = grind (arith, length-append, within, past) in
          let same : link ≡ other = (let both : Some link ≡ Some other = sym (get-front before link) ∙ ap (λ (i : ℕ). slice_get (before ++ link ∷ []) i) (sym here) ∙ at in cc) in
          subst (λ (l : Link). l.parent ≤ n) same (subst (λ (i : ℕ). link.parent ≤ i) (sym here) up))
    ]

are-by : (image : Image) (before : List Link) (link : Link) (s s2 : State) → AreMet image before → link.parent ≤ length before → Leads image before link.parent s → Step s link.event s2 → AreMet image (before ++ link ∷ [])
are-by image before link s s2 are up leads step = record {
  described = are.described;
  tree = tree-add before link are.tree up;
  reached = λ k within.
      elim (three-ways k (length before) (grind (arith, length-append, within))) as (λ _. (now : State) × Leads image (before ++ link ∷ []) k now) [
        | inl old ↦ (let there = are.reached k old in (there.0, leads-kept image before (link ∷ []) k there.0 there.1))
        | inr new ↦ (s2, subst (λ (i : ℕ). Leads image (before ++ link ∷ []) i s2) (sym new) (new-leads image before link s s2 up leads step))
      ];
}

pub are-add : (image : Image) (before links : List Link) (parent : ℕ) (event : Event) (s s2 : State) → AreMet image before → Adds before parent event links → parent ≤ length before → Leads image before parent s → Step s event s2 → AreMet image links
are-add image before links parent event s s2 are (link, from, by, is) up leads step =
    subst (λ (ls : List Link). AreMet image ls) (sym is)
    (are-by image before link s s2 are (subst (λ (p : ℕ). p ≤ length before) (sym from) up) (subst (λ (p : ℕ). Leads image before p s) (sym from) leads) (subst (λ (e : Event). Step s e s2) (sym by) step))

-- Layers.

path-less : (links more : List Link) (k : ℕ) (events : List Event) → k ≤ length links → PathTo (links ++ more) k events → PathTo links k events
path-less links more k events within (opens here none) = opens here none
path-less links more k events within (goes {n} {link} {before} is at up path last) =
    goes is (get-less links more n link (omega (arith, within, is)) at) up (path-less links more link.parent before (omega (arith, within, is, up)) path) last

-- a number past the links has no path
path-within : (links : List Link) (k : ℕ) (events : List Event) → PathTo links k events → k ≤ length links
path-within links k events (opens here none) = omega (arith, here)
path-within links k events (goes {n} {link} is at up path last) = let within = slice_get_within links n link at in omega (arith, is, within)

-- the path to the new link has one event more than that to its parent
path-new : (before : List Link) (link : Link) (k : ℕ) (events : List Event) → k ≡ length before + 1 → PathTo (before ++ link ∷ []) k events → (front : List Event) × PathTo before link.parent front × (length events ≡ length front + 1)
path-new before link k events new (opens here none) = absurd (omega (arith, new, here))
path-new before link k events new (goes {n} {link = other} {before = front} is at up path last) =
    let here : n ≡ length before = omega (arith, is, new) in
    let same : other ≡ link = (let both : Some other ≡ Some link = sym at ∙ ap (λ (i : ℕ). slice_get (before ++ link ∷ []) i) here ∙ get-front before link in cc) in
    let less = path-less before (link ∷ []) other.parent front (omega (arith, up, here)) path in
    (front, subst (λ (l : Link). PathTo before l.parent front) same less, ap (λ (es : List Event). length es) last ∙ length-append front (other.event ∷ []))

record IsOld (before : List Link) (k : ℕ) (events : List Event) : Type 0 where
  pub within : k ≤ length before
  pub path : PathTo before k events

record IsNew (before : List Link) (parent k : ℕ) (events : List Event) : Type 0 where
  pub last : k ≡ length before + 1
  pub front : List Event
  pub path : PathTo before parent front
  pub long : length events ≡ length front + 1

old-or-new : (before : List Link) (link : Link) (k : ℕ) (events : List Event) → PathTo (before ++ link ∷ []) k events → IsOld before k events ⊎ IsNew before link.parent k events
old-or-new before link k events path =
    let within = path-within (before ++ link ∷ []) k events path in
    elim (three-ways k (length before) (grind (arith, length-append, within))) as (λ _. IsOld before k events ⊎ IsNew before link.parent k events) [
      | inl old ↦ inl (record { within = old; path = path-less before (link ∷ []) k events old path })
      | inr new ↦ (let parts = path-new before link k events new path in inr (record { last = new; front = parts.0; path = parts.1; long = parts.2 }))
    ]

layered-two : (before : List Link) (parent : ℕ) → AreLayered before → IsNear before parent → (i j : ℕ) (events others : List Event) → i ≤ j → IsOld before i events ⊎ IsNew before parent i events
    → IsOld before j others ⊎ IsNew before parent j others → length events ≤ length others
layered-two before parent layered near i j events others le (inl a) (inl b) = layered i j events others le a.path b.path
layered-two before parent layered near i j events others le (inl a) (inr b) =
    let h = near i b.front events b.path a.path in let long = b.long in omega (arith, h, long)
layered-two before parent layered near i j events others le (inr a) (inl b) = let last = a.last in let within = b.within in absurd (omega (arith, le, last, within))
layered-two before parent layered near i j events others le (inr a) (inr b) =
    let same = ap (λ (es : List Event). length es) (one-path before parent a.front b.front a.path b.path) in let one = a.long in let two = b.long in omega (arith, same, one, two)

near-two : (before : List Link) (parent : ℕ) → parent ≤ length before → IsNear before parent → (j : ℕ) (events others : List Event) → IsOld before parent events ⊎ IsNew before parent parent events
    → IsOld before j others ⊎ IsNew before parent j others → length others ≤ length events + 1
near-two before parent up near j events others (inl a) (inl b) = near j events others a.path b.path
near-two before parent up near j events others (inl a) (inr b) =
    let same = ap (λ (es : List Event). length es) (one-path before parent events b.front a.path b.path) in let long = b.long in omega (arith, same, long)
near-two before parent up near j events others (inr a) b = let last = a.last in absurd (omega (arith, last, up))

pub layered-add : (before links : List Link) (parent : ℕ) (event : Event) → Adds before parent event links → AreLayered before → IsNear before parent → AreLayered links
layered-add before links parent event (link, from, by, is) layered near i j events others le path other =
    let one = old-or-new before link i events (subst (λ (ls : List Link). PathTo ls i events) is path) in
    let two = old-or-new before link j others (subst (λ (ls : List Link). PathTo ls j others) is other) in
    layered-two before link.parent layered (subst (λ (p : ℕ). IsNear before p) (sym from) near) i j events others le one two

pub near-add : (before links : List Link) (parent : ℕ) (event : Event) → Adds before parent event links → parent ≤ length before → IsNear before parent → IsNear links parent
near-add before links parent event (link, from, by, is) up near j events others path other =
    let one = old-or-new before link parent events (subst (λ (ls : List Link). PathTo ls parent events) is path) in
    let two = old-or-new before link j others (subst (λ (ls : List Link). PathTo ls j others) is other) in
    near-two before parent up near j events others (subst (λ (p : ℕ). IsOld before parent events ⊎ IsNew before p parent events) from one) (subst (λ (p : ℕ). IsOld before j others ⊎ IsNew before p j others) from two)

-- to the next number leads as many events, or one more
pub near-next : (image : Image) (links : List Link) (k : ℕ) → AreMet image links → k ≤ length links → AreLayered links → IsNear links k → IsNear links (k + 1)
near-next image links k are within layered near j events others path other =
    let there = are.reached k within in
    let one = layered k (k + 1) there.1.0 events (omega arith) there.1.1 path in
    let two = near j there.1.0 others there.1.1 other in omega (arith, one, two)

pub few-add : (before links : List Link) (parent most : ℕ) (event : Event) → Adds before parent event links → length before < most → length links ≤ most
few-add before links parent most event (link, from, by, is) less = let long = ap (λ (ls : List Link). length ls) is in grind (arith, length-append, long, less)

pub known-add : (image : Image) (before links : List Link) (parent : ℕ) (event : Event) (events : List Event) (notes : Failures) (s s2 : State) → Adds before parent event links → parent ≤ length before → IsLed image before parent events s
    → notes ≡ noted event (failures events) → Step s event s2 → IsKnown image links notes s2
known-add image before links parent event events notes s s2 (link, from, by, is) up led noted_so step =
    subst (λ (ls : List Link). IsKnown image ls notes s2) (sym is) (
      length before + 1,
      grind (arith, length-append),
      events ++ link.event ∷ [],
      new-led image before link events s s2 (subst (λ (p : ℕ). p ≤ length before) (sym from) up) (subst (λ (p : ℕ). IsLed image before p events s) (sym from) led) (subst (λ (e : Event). Step s e s2) (sym by) step),
      failures-push events link.event ∙ ap (λ (e : Event). noted e (failures events)) by ∙ sym noted_so,
    )

-- one state to which an event leads was met, so each is
pub leads-on : (image : Image) (before links : List Link) (k : ℕ) (event : Event) (events : List Event) (notes : Failures) (s s2 : State) → AreMet image links → Grows image before links → IsNear links k → IsLed image before k events s
    → notes ≡ noted event (failures events) → Step s event s2 → IsKnown image links notes s2 → LeadsOn image links k event
leads-on image before links k event events notes s s2 are grows near led noted_so step (j, within, others, led2, noted_there) path_events a b there other =
    let here = led-kept image before links k events s grows led in
    let alike : events ≡ path_events = one-path links k events path_events here.path there.path in
    let same : s ≡ a = one-state image are.described links k s a (leads-led image links k events s here) (leads-led image links k path_events a there) in
    let next : s2 ≡ b = step-one image are.described path_events a there.run event s2 b (subst (λ (now : State). Step now event s2) same step) other in (
      j,
      within,
      others,
      record { path = led2.path; run = subst (λ (now : State). IsRun image others now) next led2.run },
      noted_there ∙ noted_so ∙ ap (λ (es : List Event). noted event (failures es)) alike,
      near j path_events others there.path led2.path,
    )

-- The image of a state.

image-runs : (events : List Event) (s s2 : State) → Runs s events s2 → s2.image ≡ s.image
image-runs [] s s2 same = ap (λ (now : State). now.image) same
image-runs (e ∷ events) s s2 (next, step, rest) = image-runs events next s2 rest ∙ image-step s next e step

pub image-run : (image : Image) (events : List Event) (s : State) → IsRun image events s → s.image ≡ image
image-run image events s run = image-runs events (opening image) s run ∙ image-opening image
