-- An object's address is known by what is shown of it, and each row has an address of its own.
use Rattle.std.proofs.Common.{◌≡◌, inl, inr, ◌⊎◌, ℕ, zero, suc, ◌+◌, ◌-◌, ◌*◌, ◌/◌, ◌%◌, ◌<◌, ◌≤◌, Bool, true, false, ◌&&◌, not, List, [], ◌∷◌, ◌++◌, length, get_or, refl, sym, ap, ◌∙◌, arith, if◌then◌else◌, Option, Some, None, slice_index, slice_get}
use Rattle.std.specs.Prelude.{◌==◌, nat_lt, nat_le, map, position, is_some, codes, decimal, bytes_eq}
use Rattle.std.specs.List.{list_all}
use Rattle.std.proofs.lemmas.Bool.{and_parts, cases_lt}
use Rattle.std.proofs.lemmas.Bool.Decides.{nat_tests}
use Rattle.std.proofs.lemmas.List.{length-map}
use Rattle.std.proofs.lemmas.List.Quantifiers.{position-Some}
use Rattle.std.proofs.lemmas.Option.{slice_get-get_or, slice_get_past}
use Rattle.um_base.specs.declared.image.Image.{Image}
use Rattle.um_base.specs.declared.image.ObjectDef.{ObjectDef}
use Rattle.um_base.specs.declared.image.Setup.{Setup}
use Rattle.um_base.specs.declared.limits.TheConstants.{STATIC_ROWS, ROWS, STACK_AREA, AREA_ENTRY, OBJECTS, OBJECT_STEP, DYNAMIC_OBJECTS}
use Rattle.um_base.specs.declared.names.Kind.{Kind}
use Rattle.um_base.specs.declared.names.Mpu.{Mpu}
use Rattle.um_base.specs.declared.names.Range.{Range}
use Rattle.um_base.specs.Layout.{rounded, starts}
use Rattle.um_base.specs.Lawful.{IsLawful, is_within, is_setup_of, stack_ranges, addr_given, stand_in_rows, places_of, sizes_of, is_name, begins_with_letter, is_name_byte}
use Rattle.um_base.specs.Places.{addr_of, dynamic_row, or_else, row_at}
use Rattle.um_trace.specs.Digits.{glyph_of, hex8, address}
use Rattle.um_trace.specs.Names.{row_text, object_in, object_text}
use Rattle.um_texts.proofs.SplitLemmas.{heads, tails}
use Rattle.um_texts.proofs.PlainLemmas.{all_get}
use Rattle.um_texts.proofs.NameLemmas.{AreNamed}
use Rattle.um_texts.proofs.IdentityLemmas.{is_real, row_known, at_row, static_text, dynamic_text, behind}
use Rattle.um_texts.proofs.OwnLemmas.{IsSound, has_position, real_at}
use Rattle.um_texts.proofs.PlaceLemmas.{placed_apart, placed_within, placed_length, rounded_some}

-- Lists without a number twice.

abbrev pub NotIn : ℕ → List ℕ → Type 0
NotIn a xs = (k : ℕ) → k < length xs → slice_index xs k ≡ a → ⊥

pub AllApart : List ℕ → Type 0
AllApart [] = Unit {0}
AllApart (x ∷ xs) = NotIn x xs × AllApart xs

apart_from : (xs : List ℕ) → ((i j : ℕ) → i < j → j < length xs → slice_index xs i ≡ slice_index xs j → ⊥) → AllApart xs
unfolding AllApart
apart_from [] h = tt
apart_from (x ∷ xs) h =
    (λ k inside same. h 0 (suc k) (omega arith) (omega (arith, inside)) (sym same), apart_from xs (λ i j less inside same. h (suc i) (suc j) (omega (arith, less)) (omega (arith, inside)) same))

apart_at : (xs : List ℕ) (i j : ℕ) → AllApart xs → i < length xs → j < length xs → slice_index xs i ≡ slice_index xs j → i ≡ j
unfolding AllApart
apart_at [] i j h a b same = absurd (omega arith)
apart_at (x ∷ xs) zero zero h a b same = refl
apart_at (x ∷ xs) zero (suc j) h a b same = absurd (h.0 j (omega (arith, b)) (sym same))
apart_at (x ∷ xs) (suc i) zero h a b same = absurd (h.0 i (omega (arith, a)) same)
apart_at (x ∷ xs) (suc i) (suc j) h a b same = ap suc (apart_at xs i j h.1 (omega (arith, a)) (omega (arith, b)) same)

-- Addresses of static objects.

abbrev ranges_with : Setup → List Range → List Range
ranges_with setup ranges = elim setup as (λ _. List Range) [ Setup.ThreadStack range declared ↦ range ∷ ranges | _ ↦ ranges ]

-- an object is a thread stack with its range, or stands at the place of its row
IsStack : Setup → ℕ → List Range → Type 0
IsStack setup x ranges = (range : Range) × (ranges_with setup ranges ≡ range ∷ ranges) × (addr_given setup x ≡ range.start.0)

IsOther : Setup → ℕ → List Range → Type 0
IsOther setup x ranges = (ranges_with setup ranges ≡ ranges) × (addr_given setup x ≡ OBJECTS + OBJECT_STEP * x)

stack_or_other : (setup : Setup) (x : ℕ) (ranges : List Range) → IsStack setup x ranges ⊎ IsOther setup x ranges
unfolding IsStack IsOther
stack_or_other (Setup.ThreadStack range declared) x ranges = inl (range, refl, refl)
stack_or_other Setup.Bare x ranges = inr (refl, refl)
stack_or_other (Setup.Thread index) x ranges = inr (refl, refl)
stack_or_other (Setup.Sem count limit) x ranges = inr (refl, refl)
stack_or_other Setup.Mutex x ranges = inr (refl, refl)
stack_or_other (Setup.Msgq size most) x ranges = inr (refl, refl)
stack_or_other (Setup.Stack entries) x ranges = inr (refl, refl)
stack_or_other (Setup.Pipe size) x ranges = inr (refl, refl)
stack_or_other Setup.Timer x ranges = inr (refl, refl)

abbrev pub addrs : List ObjectDef → List ℕ
addrs os = map (λ (o : ObjectDef). o.addr.0) os

here_addr : (o : ObjectDef) (os : List ObjectDef) (x : ℕ) → stand_in_rows (o ∷ os) x ≡ true → o.addr.0 ≡ addr_given o.setup x
here_addr o os x h = let test = (and_parts (o.addr.0 == addr_given o.setup x) (stand_in_rows os (x + 1)) h).0 in grind (arith, nat_tests)

there_addr : (o : ObjectDef) (os : List ObjectDef) (x : ℕ) → stand_in_rows (o ∷ os) x ≡ true → stand_in_rows os (x + 1) ≡ true
there_addr o os x h = (and_parts (o.addr.0 == addr_given o.setup x) (stand_in_rows os (x + 1)) h).1

-- all stacks begin before the other objects
abbrev AreLow : List ℕ → Type 0
AreLow places = (k : ℕ) → k < length places → slice_index places k < OBJECTS

low_tail : (place : ℕ) (places : List ℕ) → AreLow (place ∷ places) → AreLow places
low_tail place places h k inside = h (suc k) (omega (arith, inside))

-- an address below the others that no stack has
not_low : (os : List ObjectDef) (x a : ℕ) → stand_in_rows os x ≡ true → a < OBJECTS → NotIn a (places_of (stack_ranges os)) → NotIn a (addrs os)
unfolding IsStack IsOther
not_low [] x a stand low apart k inside same = absurd (omega arith)
not_low (o ∷ os) x a stand low apart k inside same = by (stack_or_other o.setup x (stack_ranges os)) k inside same (λ others j. not_low os (x + 1) a (there_addr o os x stand) low others j)
  where
    by : IsStack o.setup x (stack_ranges os) ⊎ IsOther o.setup x (stack_ranges os) → (k : ℕ) → k < length (addrs (o ∷ os)) → slice_index (addrs (o ∷ os)) k ≡ a
        → (NotIn a (places_of (stack_ranges os)) → NotIn a (addrs os)) → ⊥
    by (inl stack) zero inside same rest =
        let all : NotIn a (places_of (stack.0 ∷ stack_ranges os)) = rw stack.1 at apart in
        all 0 (omega arith) (sym stack.2 ∙ sym (here_addr o os x stand) ∙ same)
    by (inl stack) (suc k) inside same rest =
        let all : NotIn a (places_of (stack.0 ∷ stack_ranges os)) = rw stack.1 at apart in
        rest (λ j within. all (suc j) (omega (arith, within))) k (omega (arith, inside)) same
    by (inr other) zero inside same rest = let at = here_addr o os x stand in let is = other.1 in absurd (omega (arith, at, is, same, low))
    by (inr other) (suc k) inside same rest = let all : NotIn a (places_of (stack_ranges os)) = rw other.0 at apart in rest all k (omega (arith, inside)) same

-- the place of a row before these
not_other : (os : List ObjectDef) (x y : ℕ) → stand_in_rows os x ≡ true → y < x → AreLow (places_of (stack_ranges os)) → NotIn (OBJECTS + OBJECT_STEP * y) (addrs os)
unfolding IsStack IsOther
not_other [] x y stand less low k inside same = absurd (omega arith)
not_other (o ∷ os) x y stand less low k inside same = by (stack_or_other o.setup x (stack_ranges os)) k inside same (λ others j. not_other os (x + 1) y (there_addr o os x stand) (omega (arith, less)) others j)
  where
    by : IsStack o.setup x (stack_ranges os) ⊎ IsOther o.setup x (stack_ranges os) → (k : ℕ) → k < length (addrs (o ∷ os)) → slice_index (addrs (o ∷ os)) k ≡ OBJECTS + OBJECT_STEP * y
        → (AreLow (places_of (stack_ranges os)) → NotIn (OBJECTS + OBJECT_STEP * y) (addrs os)) → ⊥
    by (inl stack) zero inside same rest =
        let all : AreLow (places_of (stack.0 ∷ stack_ranges os)) = rw stack.1 at low in
        let first = all 0 (omega arith) in let at = here_addr o os x stand in let is = stack.2 in absurd (omega (arith, first, at, is, same))
    by (inl stack) (suc k) inside same rest =
        let all : AreLow (places_of (stack.0 ∷ stack_ranges os)) = rw stack.1 at low in rest (low_tail stack.0.start.0 (places_of (stack_ranges os)) all) k (omega (arith, inside)) same
    by (inr other) zero inside same rest = let at = here_addr o os x stand in let is = other.1 in absurd (omega (arith, at, is, same, less))
    by (inr other) (suc k) inside same rest = let all : AreLow (places_of (stack_ranges os)) = rw other.0 at low in rest all k (omega (arith, inside)) same

addrs_apart : (os : List ObjectDef) (x : ℕ) → stand_in_rows os x ≡ true → AllApart (places_of (stack_ranges os)) → AreLow (places_of (stack_ranges os)) → AllApart (addrs os)
unfolding AllApart IsStack IsOther
addrs_apart [] x stand apart low = tt
addrs_apart (o ∷ os) x stand apart low = by (stack_or_other o.setup x (stack_ranges os)) (λ a l. addrs_apart os (x + 1) (there_addr o os x stand) a l)
  where
    by : IsStack o.setup x (stack_ranges os) ⊎ IsOther o.setup x (stack_ranges os) → (AllApart (places_of (stack_ranges os)) → AreLow (places_of (stack_ranges os)) → AllApart (addrs os)) → AllApart (addrs (o ∷ os))
    by (inl stack) rest =
        let all : AllApart (places_of (stack.0 ∷ stack_ranges os)) = rw stack.1 at apart in
        let lows : AreLow (places_of (stack.0 ∷ stack_ranges os)) = rw stack.1 at low in
        let at : o.addr.0 ≡ stack.0.start.0 = here_addr o os x stand ∙ stack.2 in
        let first : NotIn stack.0.start.0 (addrs os) = not_low os (x + 1) stack.0.start.0 (there_addr o os x stand) (lows 0 (omega arith)) all.0 in
        (rw at first, rest all.1 (low_tail stack.0.start.0 (places_of (stack_ranges os)) lows))
    by (inr other) rest =
        let all : AllApart (places_of (stack_ranges os)) = rw other.0 at apart in
        let lows : AreLow (places_of (stack_ranges os)) = rw other.0 at low in
        let at : o.addr.0 ≡ OBJECTS + OBJECT_STEP * x = here_addr o os x stand ∙ other.1 in
        let first : NotIn (OBJECTS + OBJECT_STEP * x) (addrs os) = not_other os (x + 1) x (there_addr o os x stand) (omega arith) lows in (rw at first, rest all lows)

-- The stacks of a lawful image.

abbrev AreSome : List Range → Type 0
AreSome ranges = (k : ℕ) → k < length (sizes_of ranges) → 1 ≤ slice_index (sizes_of ranges) k

stack_some : (mpu : Mpu) (kind : Kind) (range : Range) (declared : ℕ) → is_setup_of mpu kind (Setup.ThreadStack range declared) ≡ true → 1 ≤ range.size
stack_some mpu Kind.ThreadStack range declared h =
    let within = (and_parts (is_within 1 AREA_ENTRY declared) (rounded mpu declared == range.size) h).0 in
    let size = (and_parts (is_within 1 AREA_ENTRY declared) (rounded mpu declared == range.size) h).1 in
    let low : 1 ≤ declared = grind (arith, nat_tests) in
    let high : declared ≤ 65536 = grind (arith, nat_tests) in
    let some = rounded_some mpu declared low high in
    let same : rounded mpu declared ≡ range.size = grind (arith, nat_tests) in omega (arith, some, same)
stack_some mpu kind range declared h = cc

more_some : (range : Range) (ranges : List Range) → 1 ≤ range.size → AreSome ranges → AreSome (range ∷ ranges)
more_some range ranges h all zero inside = h
more_some range ranges h all (suc k) inside = all k (omega (arith, inside))

some_with : (mpu : Mpu) (kind : Kind) (setup : Setup) (ranges : List Range) → is_setup_of mpu kind setup ≡ true → AreSome ranges → AreSome (ranges_with setup ranges)
some_with mpu kind (Setup.ThreadStack range declared) ranges h all = more_some range ranges (stack_some mpu kind range declared h) all
some_with mpu kind Setup.Bare ranges h all = all
some_with mpu kind (Setup.Thread index) ranges h all = all
some_with mpu kind (Setup.Sem count limit) ranges h all = all
some_with mpu kind Setup.Mutex ranges h all = all
some_with mpu kind (Setup.Msgq size most) ranges h all = all
some_with mpu kind (Setup.Stack entries) ranges h all = all
some_with mpu kind (Setup.Pipe size) ranges h all = all
some_with mpu kind Setup.Timer ranges h all = all

stacks_some : (mpu : Mpu) (os : List ObjectDef) → list_all (λ (o : ObjectDef). is_setup_of mpu o.kind o.setup) os ≡ true → AreSome (stack_ranges os)
stacks_some mpu [] h = λ k inside. absurd (omega arith)
stacks_some mpu (o ∷ os) h =
    some_with mpu o.kind o.setup (stack_ranges os) (and_parts (is_setup_of mpu o.kind o.setup) (list_all (λ (o : ObjectDef). is_setup_of mpu o.kind o.setup) os) h).0
    (stacks_some mpu os (and_parts (is_setup_of mpu o.kind o.setup) (list_all (λ (o : ObjectDef). is_setup_of mpu o.kind o.setup) os) h).1)

places_apart : (image : Image) → IsLawful image → AllApart (places_of (stack_ranges image.objects))
places_apart image lawful =
    let ranges = stack_ranges image.objects in
    let sizes = sizes_of ranges in
    let is : places_of ranges ≡ starts image.mpu STACK_AREA sizes = lawful.stacks_placed.starts_are in
    let len = placed_length image.mpu STACK_AREA sizes in
    rw is (apart_from (starts image.mpu STACK_AREA sizes) (λ i j less inside same. placed_apart image.mpu STACK_AREA sizes i j (stacks_some image.mpu image.objects lawful.objects) less (omega (arith, inside, len)) same))

places_low : (image : Image) → IsLawful image → AreLow (places_of (stack_ranges image.objects))
places_low image lawful k inside =
    let ranges = stack_ranges image.objects in
    let sizes = sizes_of ranges in
    let is : places_of ranges ≡ starts image.mpu STACK_AREA sizes = lawful.stacks_placed.starts_are in
    let len = placed_length image.mpu STACK_AREA sizes in
    let fit = lawful.stacks_placed.fit in
    let inner : k < length (starts image.mpu STACK_AREA sizes) = rw is at inside in
    let most = placed_within image.mpu STACK_AREA sizes k (omega (arith, inner, len)) in
    let same : slice_index (places_of ranges) k ≡ slice_index (starts image.mpu STACK_AREA sizes) k = ap (λ (xs : List ℕ). slice_index xs k) is in
    omega (arith, most, fit, same)

all_apart : (image : Image) → IsLawful image → AllApart (addrs image.objects)
all_apart image lawful = addrs_apart image.objects 0 lawful.rows (places_apart image lawful) (places_low image lawful)

-- Rows and addresses.

blank : ObjectDef
blank = record { name = []; kind = Kind.Mutex; addr = record { 0 = 0 }; public = false; setup = Setup.Bare }

addr_in_list : (os : List ObjectDef) (x : ℕ) (o : ObjectDef) → slice_get os x ≡ Some o → slice_index (addrs os) x ≡ o.addr.0
addr_in_list [] x o e = cc
addr_in_list (p ∷ os) zero o e = let same : p ≡ o = cc in rw same refl
addr_in_list (p ∷ os) (suc x) o e = addr_in_list os x o e

place_is : (p : ObjectDef → Bool) (os : List ObjectDef) (o : Option ℕ) → position p os ≡ o → is_some o ≡ true → (y : ℕ) × (position p os ≡ Some y)
place_is p os (Some y) e h = (y, e)
place_is p os None e h = cc

static_addr : (image : Image) (x : ℕ) (o : ObjectDef) → slice_get image.objects x ≡ Some o → addr_of image x ≡ o.addr.0
static_addr image x o e = rw e refl

static_row : (image : Image) → IsLawful image → (x : ℕ) → x < length image.objects → row_at image (addr_of image x) ≡ Some x
static_row image lawful x inside =
    let at = at_row image x inside in
    let o = at.0 in
    let test : ObjectDef → Bool = λ p. p.addr.0 == o.addr.0 in
    let itself : test o ≡ true = grind (arith, nat_tests) in
    let found = place_is test image.objects (position test image.objects) refl (has_position test image.objects x o at.1 itself) in
    let is = position-Some test image.objects found.0 blank found.1 in
    let there : slice_get image.objects found.0 ≡ Some (get_or image.objects found.0 blank) = slice_get-get_or image.objects found.0 blank is.0 in
    let first : slice_index (addrs image.objects) found.0 ≡ (get_or image.objects found.0 blank).addr.0 = addr_in_list image.objects found.0 _ there in
    let second : slice_index (addrs image.objects) x ≡ o.addr.0 = addr_in_list image.objects x o at.1 in
    let equal : (get_or image.objects found.0 blank).addr.0 ≡ o.addr.0 = (let passes = is.1 in grind (arith, nat_tests)) in
    let len : length (addrs image.objects) ≡ length image.objects = length-map image.objects (λ (p : ObjectDef). p.addr.0) in
    let within = is.0 in
    let same : found.0 ≡ x = apart_at (addrs image.objects) found.0 x (all_apart image lawful) (omega (arith, within, len)) (omega (arith, inside, len)) (first ∙ equal ∙ sym second) in
    let whole : position test image.objects ≡ Some x = found.1 ∙ ap (λ (n : ℕ). Some n) same in
    ap (row_at image) (static_addr image x o at.1) ∙ ap (λ (r : Option ℕ). or_else r (dynamic_row o.addr.0)) whole

-- static objects stand before the dynamic ones
static_low : (os : List ObjectDef) (x k : ℕ) → stand_in_rows os x ≡ true → AreLow (places_of (stack_ranges os)) → x + length os ≤ STATIC_ROWS → k < length os → slice_index (addrs os) k < DYNAMIC_OBJECTS
unfolding IsStack IsOther
static_low [] x k stand low few inside = absurd (omega arith)
static_low (o ∷ os) x k stand low few inside = by (stack_or_other o.setup x (stack_ranges os)) k inside (λ l j within. static_low os (x + 1) j (there_addr o os x stand) l (omega (arith, few)) within)
  where
    by : IsStack o.setup x (stack_ranges os) ⊎ IsOther o.setup x (stack_ranges os) → (k : ℕ) → k < length (o ∷ os)
        → (AreLow (places_of (stack_ranges os)) → (j : ℕ) → j < length os → slice_index (addrs os) j < DYNAMIC_OBJECTS) → slice_index (addrs (o ∷ os)) k < DYNAMIC_OBJECTS
    by (inl stack) zero inside rest =
        let all : AreLow (places_of (stack.0 ∷ stack_ranges os)) = rw stack.1 at low in
        let first = all 0 (omega arith) in let at = here_addr o os x stand in let is = stack.2 in omega (arith, first, at, is)
    by (inl stack) (suc k) inside rest =
        let all : AreLow (places_of (stack.0 ∷ stack_ranges os)) = rw stack.1 at low in rest (low_tail stack.0.start.0 (places_of (stack_ranges os)) all) k (omega (arith, inside))
    by (inr other) zero inside rest = let at = here_addr o os x stand in let is = other.1 in omega (arith, at, is, few)
    by (inr other) (suc k) inside rest = let all : AreLow (places_of (stack_ranges os)) = rw other.0 at low in rest all k (omega (arith, inside))

no_static : (image : Image) → IsSound image → (a : ℕ) → DYNAMIC_OBJECTS ≤ a → (o : Option ℕ) → position (λ (p : ObjectDef). p.addr.0 == a) image.objects ≡ o → o ≡ None
no_static image sound a high None e = refl
no_static image sound a high (Some y) e =
    let is = position-Some (λ (p : ObjectDef). p.addr.0 == a) image.objects y blank e in
    let there : slice_get image.objects y ≡ Some (get_or image.objects y blank) = slice_get-get_or image.objects y blank is.0 in
    let at : slice_index (addrs image.objects) y ≡ (get_or image.objects y blank).addr.0 = addr_in_list image.objects y _ there in
    let few = sound.few in
    let low = static_low image.objects 0 y sound.lawful.rows (places_low image sound.lawful) (omega (arith, few)) is.0 in
    let passes = is.1 in
    let same : (get_or image.objects y blank).addr.0 ≡ a = grind (arith, nat_tests) in absurd (omega (arith, at, low, same, high))

dynamic_addr : (image : Image) (x : ℕ) → length image.objects ≤ x → addr_of image x ≡ DYNAMIC_OBJECTS + OBJECT_STEP * (x - STATIC_ROWS)
dynamic_addr image x h = rw (slice_get_past image.objects x h) refl

dynamic_at : (x : ℕ) → STATIC_ROWS ≤ x → x < ROWS → dynamic_row (DYNAMIC_OBJECTS + OBJECT_STEP * (x - STATIC_ROWS)) ≡ Some x
dynamic_at x h k =
    let a = DYNAMIC_OBJECTS + OBJECT_STEP * (x - STATIC_ROWS) in
    let low : nat_le DYNAMIC_OBJECTS a ≡ true = grind (arith, nat_tests) in
    let high : nat_lt a (DYNAMIC_OBJECTS + OBJECT_STEP * (ROWS - STATIC_ROWS)) ≡ true = grind (arith, nat_tests) in
    let rest : (a - DYNAMIC_OBJECTS) % OBJECT_STEP ≡ 0 = omega arith in
    let even : ((a - DYNAMIC_OBJECTS) % OBJECT_STEP == 0) ≡ true = rw rest refl in
    let row : STATIC_ROWS + (a - DYNAMIC_OBJECTS) / OBJECT_STEP ≡ x = omega arith in rw (low, high, even, row) refl

dynamic_found : (image : Image) → IsSound image → (x : ℕ) → STATIC_ROWS ≤ x → x < ROWS → row_at image (addr_of image x) ≡ Some x
dynamic_found image sound x h k =
    let a = DYNAMIC_OBJECTS + OBJECT_STEP * (x - STATIC_ROWS) in
    let few = sound.few in
    let none = no_static image sound a (omega arith) (position (λ (p : ObjectDef). p.addr.0 == a) image.objects) refl in
    ap (row_at image) (dynamic_addr image x (omega (arith, few, h))) ∙ ap (λ (r : Option ℕ). or_else r (dynamic_row a)) none ∙ dynamic_at x h k

-- each row at which an object can stand is the one at its address
pub row_found : (image : Image) → IsSound image → (x : ℕ) → is_real image x ≡ true → row_at image (addr_of image x) ≡ Some x
row_found image sound x real =
    elim (cases_lt x (length image.objects)) [
      | inl inside ↦ static_row image sound.lawful x inside
      | inr past ↦ let b = behind image x real past in dynamic_found image sound x b.0 b.1
    ]

-- the address of the row at an address
row_back : (image : Image) → IsSound image → (a x : ℕ) → row_at image a ≡ Some x → addr_of image x ≡ a
row_back image sound a x e = by (position (λ (p : ObjectDef). p.addr.0 == a) image.objects) refl e
  where
    one : (y : ℕ) → Some y ≡ Some x → y ≡ x
    one y k = cc

    dynamic : (low high even : Bool) → nat_le DYNAMIC_OBJECTS a ≡ low → ((a - DYNAMIC_OBJECTS) % OBJECT_STEP == 0) ≡ even
        → (if low && high && even then Some (STATIC_ROWS + (a - DYNAMIC_OBJECTS) / OBJECT_STEP) else None) ≡ Some x → addr_of image x ≡ a
    dynamic true true true l v k =
        let row : STATIC_ROWS + (a - DYNAMIC_OBJECTS) / OBJECT_STEP ≡ x = one _ k in
        let low : DYNAMIC_OBJECTS ≤ a = grind (arith, nat_tests) in
        let even : (a - DYNAMIC_OBJECTS) % OBJECT_STEP ≡ 0 = grind (arith, nat_tests) in
        let few = sound.few in
        let is = dynamic_addr image x (omega (arith, row, few)) in is ∙ omega (arith, row, low, even)
    dynamic true true false l v k = cc
    dynamic true false even l v k = cc
    dynamic false high even l v k = cc

    by : (o : Option ℕ) → position (λ (p : ObjectDef). p.addr.0 == a) image.objects ≡ o → or_else o (dynamic_row a) ≡ Some x → addr_of image x ≡ a
    by (Some y) at k =
        let is = position-Some (λ (p : ObjectDef). p.addr.0 == a) image.objects y blank at in
        let same : y ≡ x = one y k in
        let there : slice_get image.objects x ≡ Some (get_or image.objects y blank) = rw (← same) (slice_get-get_or image.objects y blank is.0) in
        let passes = is.1 in
        let equal : (get_or image.objects y blank).addr.0 ≡ a = grind (arith, nat_tests) in static_addr image x _ there ∙ equal
    by None at k = dynamic (nat_le DYNAMIC_OBJECTS a) (nat_lt a (DYNAMIC_OBJECTS + OBJECT_STEP * (ROWS - STATIC_ROWS))) ((a - DYNAMIC_OBJECTS) % OBJECT_STEP == 0) refl refl k

-- Digits.

glyphs : (d e : ℕ) (a b : Bool) → nat_lt d 10 ≡ a → nat_lt e 10 ≡ b → (if a then 48 + d else 87 + d) ≡ (if b then 48 + e else 87 + e) → d ≡ e
glyphs d e true true h k same = omega (arith, same)
glyphs d e true false h k same = grind (arith, nat_tests)
glyphs d e false true h k same = grind (arith, nat_tests)
glyphs d e false false h k same = omega (arith, same)

glyph_known : (d e : ℕ) → glyph_of d ≡ glyph_of e → d ≡ e
glyph_known d e same = glyphs d e (nat_lt d 10) (nat_lt e 10) refl refl same

-- eight equal digits
pub record AreDigits (n m : ℕ) : Type 0 where
  pub d7 : n / 0x1000_0000 ≡ m / 0x1000_0000
  pub d6 : n / 0x100_0000 % 16 ≡ m / 0x100_0000 % 16
  pub d5 : n / 0x10_0000 % 16 ≡ m / 0x10_0000 % 16
  pub d4 : n / 0x1_0000 % 16 ≡ m / 0x1_0000 % 16
  pub d3 : n / 0x1000 % 16 ≡ m / 0x1000 % 16
  pub d2 : n / 0x100 % 16 ≡ m / 0x100 % 16
  pub d1 : n / 0x10 % 16 ≡ m / 0x10 % 16
  pub d0 : n % 16 ≡ m % 16

digits_known : (n m : ℕ) → hex8 n ≡ hex8 m → AreDigits n m
unfolding hex8
digits_known n m h =
    let t1 = tails _ _ _ _ h in
    let t2 = tails _ _ _ _ t1 in
    let t3 = tails _ _ _ _ t2 in
    let t4 = tails _ _ _ _ t3 in
    let t5 = tails _ _ _ _ t4 in
    let t6 = tails _ _ _ _ t5 in
    let t7 = tails _ _ _ _ t6 in
    record {
      d7 = glyph_known _ _ (heads _ _ _ _ h);
      d6 = glyph_known _ _ (heads _ _ _ _ t1);
      d5 = glyph_known _ _ (heads _ _ _ _ t2);
      d4 = glyph_known _ _ (heads _ _ _ _ t3);
      d3 = glyph_known _ _ (heads _ _ _ _ t4);
      d2 = glyph_known _ _ (heads _ _ _ _ t5);
      d1 = glyph_known _ _ (heads _ _ _ _ t6);
      d0 = glyph_known _ _ (heads _ _ _ _ t7);
    }

number_known : (n m : ℕ) → AreDigits n m → n ≡ m
number_known n m h =
    let a = h.d7 in
    let b = h.d6 in
    let c = h.d5 in
    let d = h.d4 in
    let e = h.d3 in
    let f = h.d2 in
    let g = h.d1 in
    let i = h.d0 in
    let s6 : n / 0x100_0000 ≡ m / 0x100_0000 = omega (arith, a, b) in
    let s5 : n / 0x10_0000 ≡ m / 0x10_0000 = omega (arith, s6, c) in
    let s4 : n / 0x1_0000 ≡ m / 0x1_0000 = omega (arith, s5, d) in
    let s3 : n / 0x1000 ≡ m / 0x1000 = omega (arith, s4, e) in
    let s2 : n / 0x100 ≡ m / 0x100 = omega (arith, s3, f) in let s1 : n / 0x10 ≡ m / 0x10 = omega (arith, s2, g) in omega (arith, s1, i)

raw_known : (a b : ℕ) → address a ≡ address b → a ≡ b
unfolding address
raw_known a b h = number_known a b (digits_known a b (tails _ _ _ _ (tails _ _ _ _ h)))

-- What is shown.

mark_raw : (xs ys : List ℕ) → codes "#" ++ xs ≡ codes "0x" ++ ys → ⊥
mark_raw xs ys h = cc

named_raw : (name ys : List ℕ) → is_name name ≡ true → name ≡ codes "0x" ++ ys → ⊥
named_raw name ys h e =
    let all = (and_parts (nat_le (length name) 24 && begins_with_letter name && list_all is_name_byte name) (not (bytes_eq name (codes "rodata"))) h).0 in
    let two = (and_parts (nat_le (length name) 24 && begins_with_letter name) (list_all is_name_byte name) all).0 in
    let first : begins_with_letter name ≡ true = (and_parts (nat_le (length name) 24) (begins_with_letter name) two).1 in
    let letter : begins_with_letter (codes "0x" ++ ys) ≡ true = rw e at first in cc

not_raw : (image : Image) → IsSound image → AreNamed image → (x b : ℕ) → is_real image x ≡ true → row_text image x ≡ address b → ⊥
unfolding address
not_raw image sound named x b real e =
    elim (cases_lt x (length image.objects)) [
      | inl inside ↦
          let o = at_row image x inside in
          let name : is_name o.0.name ≡ true = rw o.1 at (all_get (λ (d : ObjectDef). is_name d.name) image.objects x named.objects) in
          named_raw o.0.name (hex8 b) name (sym (static_text image x o.0 o.1) ∙ e)
      | inr past ↦ mark_raw (decimal (x - STATIC_ROWS)) (hex8 b) (sym (dynamic_text image x past) ∙ e)
    ]

-- an address is known by what is shown of the object at it
pub address_known : (image : Image) → IsSound image → AreNamed image → (a b : ℕ) → object_text image a ≡ object_text image b → a ≡ b
unfolding object_text
address_known image sound named a b e = by (row_at image a) (row_at image b) refl refl e
  where
    by : (o p : Option ℕ) → row_at image a ≡ o → row_at image b ≡ p → object_in image a o ≡ object_in image b p → a ≡ b
    by (Some x) (Some y) h k same =
        let rows : x ≡ y = row_known image sound.lawful named x y (real_at image a x h) (real_at image b y k) same in
        sym (row_back image sound a x h) ∙ ap (λ (z : ℕ). addr_of image z) rows ∙ row_back image sound b y k
    by (Some x) None h k same = absurd (not_raw image sound named x b (real_at image a x h) same)
    by None (Some y) h k same = absurd (not_raw image sound named y a (real_at image b y k) (sym same))
    by None None h k same = raw_known a b same

pub row_addr_known : (image : Image) → IsSound image → AreNamed image → (x y : ℕ) → is_real image x ≡ true → is_real image y ≡ true → object_text image (addr_of image x) ≡ object_text image (addr_of image y) → x ≡ y
row_addr_known image sound named x y rx ry e =
    one x y (sym (row_found image sound x rx) ∙ ap (row_at image) (address_known image sound named (addr_of image x) (addr_of image y) e) ∙ row_found image sound y ry)
  where
    one : (x y : ℕ) → Some x ≡ Some y → x ≡ y
    one x y k = cc
