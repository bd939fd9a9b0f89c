-- A row and a thread are known by what is shown of them.
use Rattle.std.proofs.Common.{◌≡◌, ℕ, zero, suc, ◌+◌, ◌-◌, ◌<◌, ◌≤◌, Bool, true, false, ◌&&◌, ◌||◌, not, List, [], ◌∷◌, ◌++◌, length, get_or, refl, sym, ap, ◌∙◌, arith, Option, Some, None, slice_get, unwrap_or, inl, inr}
use Rattle.std.specs.Prelude.{◌==◌, nat_lt, nat_le, codes, decimal, map, bytes_eq, position, is_some}
use Rattle.std.specs.List.{list_all, list_any}
use Rattle.std.specs.Option.{option_map, option_and_then}
use Rattle.std.proofs.lemmas.Bool.{and_parts, cases_lt}
use Rattle.std.proofs.lemmas.Bool.Decides.{nat_tests}
use Rattle.std.proofs.lemmas.Fmt.{decimal_injective}
use Rattle.std.proofs.lemmas.List.Folds.{list_any-append}
use Rattle.std.proofs.lemmas.List.Quantifiers.{position-Some}
use Rattle.std.proofs.lemmas.Option.{slice_get-get_or, slice_get_past, slice_get-map}
use Rattle.std.proofs.lemmas.Slice.Eq.{bytes_eq-Decides}
use Rattle.um_base.specs.declared.image.DomainDef.{DomainDef}
use Rattle.um_base.specs.declared.image.Futex.{Futex}
use Rattle.um_base.specs.declared.image.Image.{Image}
use Rattle.um_base.specs.declared.image.ObjectDef.{ObjectDef}
use Rattle.um_base.specs.declared.image.Partition.{Partition}
use Rattle.um_base.specs.declared.image.Pool.{Pool}
use Rattle.um_base.specs.declared.image.Script.{Script}
use Rattle.um_base.specs.declared.image.Setup.{Setup}
use Rattle.um_base.specs.declared.limits.TheConstants.{STATIC_ROWS, ROWS, STATIC_THREADS}
use Rattle.um_base.specs.declared.names.Kind.{Kind}
use Rattle.um_base.specs.Lawful.{is_name, begins_with_letter, is_name_byte, are_distinct_names, IsLawful}
use Rattle.um_base.specs.Places.{own_row, is_thread_index, setup_thread}
use Rattle.um_trace.specs.Names.{row_text, thread_text}
use Rattle.um_texts.proofs.PlainLemmas.{all_get}
use Rattle.um_texts.proofs.NameLemmas.{AreNamed}

-- whether an object can stand at a row
abbrev pub is_real : Image → ℕ → Bool
is_real image x = nat_lt x (length image.objects) || (nat_le STATIC_ROWS x && nat_lt x ROWS)

-- whether a thread has an object of its own
abbrev pub has_own : Image → ℕ → Bool
has_own image t =
    (nat_lt t STATIC_THREADS && is_some (position (is_thread_index t) image.objects)) || (nat_le STATIC_THREADS t && nat_lt t (STATIC_THREADS + (ROWS - STATIC_ROWS)))

-- Distinct names.

found : {A : Type 0} (p : A → Bool) (xs : List A) (j : ℕ) (a : A) → slice_get xs j ≡ Some a → p a ≡ true → list_any p xs ≡ true
found p [] j a e h = cc
found p (x ∷ xs) zero a e h = let same : x ≡ a = cc in rw (same, h) refl
found p (x ∷ xs) (suc j) a e h = let more = found p xs j a e h in rw more (or_true (p x))
  where
    or_true : (b : Bool) → (b || true) ≡ true
    or_true true = refl
    or_true false = refl

itself : (a : List ℕ) → bytes_eq a a ≡ true
itself a = (bytes_eq-Decides a a).1 refl

clash : (x : List ℕ) (xs : List (List ℕ)) (j : ℕ) → slice_get xs j ≡ Some x → are_distinct_names (x ∷ xs) ≡ true → ⊥
clash x xs j e h =
    let no = (and_parts (not (list_any (bytes_eq x) xs)) (are_distinct_names xs) h).0 in
    let yes = found (bytes_eq x) xs j x e (itself x) in cc

same_place : (xs : List (List ℕ)) (i j : ℕ) (a : List ℕ) → are_distinct_names xs ≡ true → slice_get xs i ≡ Some a → slice_get xs j ≡ Some a → i ≡ j
same_place [] i j a h e f = cc
same_place (x ∷ xs) zero zero a h e f = refl
same_place (x ∷ xs) zero (suc j) a h e f = let same : a ≡ x = cc in absurd (clash x xs j (rw same at f) h)
same_place (x ∷ xs) (suc i) zero a h e f = let same : a ≡ x = cc in absurd (clash x xs i (rw same at e) h)
same_place (x ∷ xs) (suc i) (suc j) a h e f = ap suc (same_place xs i j a (and_parts (not (list_any (bytes_eq x) xs)) (are_distinct_names xs) h).1 e f)

apart_front : (x : List ℕ) (xs ys : List (List ℕ)) → not (list_any (bytes_eq x) (xs ++ ys)) ≡ true → not (list_any (bytes_eq x) xs) ≡ true
apart_front x xs ys h = front (list_any (bytes_eq x) xs) (list_any (bytes_eq x) ys) (rw list_any-append at h)
  where
    front : (a b : Bool) → not (a || b) ≡ true → not a ≡ true
    front true b k = k
    front false b k = refl

distinct_front : (xs ys : List (List ℕ)) → are_distinct_names (xs ++ ys) ≡ true → are_distinct_names xs ≡ true
distinct_front [] ys h = refl
distinct_front (x ∷ xs) ys h =
    let first = apart_front x xs ys (and_parts (not (list_any (bytes_eq x) (xs ++ ys))) (are_distinct_names (xs ++ ys)) h).0 in
    let rest = distinct_front xs ys (and_parts (not (list_any (bytes_eq x) (xs ++ ys))) (are_distinct_names (xs ++ ys)) h).1 in rw (first, rest) refl

distinct_back : (xs ys : List (List ℕ)) → are_distinct_names (xs ++ ys) ≡ true → are_distinct_names ys ≡ true
distinct_back [] ys h = h
distinct_back (x ∷ xs) ys h = distinct_back xs ys (and_parts (not (list_any (bytes_eq x) (xs ++ ys))) (are_distinct_names (xs ++ ys)) h).1

object_names : (image : Image) → IsLawful image → are_distinct_names (map (λ (o : ObjectDef). o.name) image.objects) ≡ true
object_names image lawful =
    let front = map (λ (p : Pool). p.name) image.pools ++ map (λ (p : Partition). p.name) image.partitions ++ map (λ (d : DomainDef). d.name) image.domains in
    let objects = map (λ (o : ObjectDef). o.name) image.objects in
    let scripts = map (λ (s : Script). s.name) image.scripts in
    let futexes = map (λ (f : Futex). f.name) image.futexes in
    distinct_back front objects (distinct_front (front ++ objects) scripts (distinct_front (front ++ objects ++ scripts) futexes lawful.distinct))

-- Rows.

-- what is shown of a dynamic row begins with a mark that no name begins with
name_begins : (name : List ℕ) (j : ℕ) → is_name name ≡ true → name ≡ codes "#" ++ decimal j → ⊥
name_begins name j h e =
    let all = (and_parts (nat_le (length name) 24 && begins_with_letter name && list_all is_name_byte name) (not (bytes_eq name (codes "rodata"))) h).0 in
    let two = (and_parts (nat_le (length name) 24 && begins_with_letter name) (list_all is_name_byte name) all).0 in
    let first : begins_with_letter name ≡ true = (and_parts (nat_le (length name) 24) (begins_with_letter name) two).1 in
    let mark : begins_with_letter (codes "#" ++ decimal j) ≡ true = rw e at first in cc

behind_mark : (xs ys : List ℕ) → codes "#" ++ xs ≡ codes "#" ++ ys → xs ≡ ys
behind_mark xs ys e = cc

-- the object of a static row
pub at_row : (image : Image) (x : ℕ) → x < length image.objects → (o : ObjectDef) × (slice_get image.objects x ≡ Some o)
at_row image x h = get image.objects x h
  where
    get : (os : List ObjectDef) (i : ℕ) → i < length os → (o : ObjectDef) × (slice_get os i ≡ Some o)
    get [] i k = absurd (omega arith)
    get (o ∷ os) zero k = (o, refl)
    get (o ∷ os) (suc i) k = get os i (omega arith)

pub static_text : (image : Image) (x : ℕ) (o : ObjectDef) → slice_get image.objects x ≡ Some o → row_text image x ≡ o.name
unfolding row_text
static_text image x o e = rw e refl

pub dynamic_text : (image : Image) (x : ℕ) → length image.objects ≤ x → row_text image x ≡ codes "#" ++ decimal (x - STATIC_ROWS)
unfolding row_text
dynamic_text image x h = rw (slice_get_past image.objects x h) refl

names_apart : (image : Image) → AreNamed image → (x y : ℕ) → x < length image.objects → length image.objects ≤ y → row_text image x ≡ row_text image y → ⊥
names_apart image named x y h k e =
    let o = at_row image x h in
    let name : is_name o.0.name ≡ true = rw o.1 at (all_get (λ (d : ObjectDef). is_name d.name) image.objects x named.objects) in
    name_begins o.0.name (y - STATIC_ROWS) name (sym (static_text image x o.0 o.1) ∙ e ∙ dynamic_text image y k)

pub behind : (image : Image) (x : ℕ) → is_real image x ≡ true → length image.objects ≤ x → (STATIC_ROWS ≤ x) × (x < ROWS)
behind image x h k = (grind (arith, nat_tests), grind (arith, nat_tests))

pub row_known : (image : Image) → IsLawful image → AreNamed image → (x y : ℕ) → is_real image x ≡ true → is_real image y ≡ true → row_text image x ≡ row_text image y → x ≡ y
row_known image lawful named x y rx ry e =
    elim (cases_lt x (length image.objects)) [
      | inl lx ↦ elim (cases_lt y (length image.objects)) [
        | inl ly ↦
            let a = at_row image x lx in
            let b = at_row image y ly in
            let name = λ (o : ObjectDef). o.name in
            let ea : slice_get (map name image.objects) x ≡ Some a.0.name = slice_get-map name image.objects x ∙ ap (option_map name) a.1 in
            let eb : slice_get (map name image.objects) y ≡ Some b.0.name = slice_get-map name image.objects y ∙ ap (option_map name) b.1 in
            let same : a.0.name ≡ b.0.name = sym (static_text image x a.0 a.1) ∙ e ∙ static_text image y b.0 b.1 in
            same_place (map name image.objects) x y a.0.name (object_names image lawful) ea (eb ∙ ap (λ (n : List ℕ). Some n) (sym same))
        | inr my ↦ absurd (names_apart image named x y lx my e)
      ]
      | inr mx ↦ elim (cases_lt y (length image.objects)) [
        | inl ly ↦ absurd (names_apart image named y x ly mx (sym e))
        | inr my ↦
            let bx = behind image x rx mx in
            let by = behind image y ry my in
            let same : decimal (x - STATIC_ROWS) ≡ decimal (y - STATIC_ROWS) = behind_mark _ _ (sym (dynamic_text image x mx) ∙ e ∙ dynamic_text image y my) in
            let numbers = decimal_injective (x - STATIC_ROWS) (y - STATIC_ROWS) (omega (arith, bx.0, bx.1)) (omega (arith, by.0, by.1)) same in omega (arith, bx.0, by.0, numbers)
      ]
    ]

-- Threads.

setup_index : (t u : ℕ) (setup : Setup) → unwrap_or (option_and_then (λ (i : ℕ). Some (i == t)) (setup_thread setup)) false ≡ true
    → unwrap_or (option_and_then (λ (i : ℕ). Some (i == u)) (setup_thread setup)) false ≡ true → t ≡ u
setup_index t u (Setup.Thread index) h k = grind (arith, nat_tests)
setup_index t u Setup.Bare h k = cc
setup_index t u (Setup.ThreadStack range declared) h k = cc
setup_index t u (Setup.Sem count limit) h k = cc
setup_index t u Setup.Mutex h k = cc
setup_index t u (Setup.Msgq size most) h k = cc
setup_index t u (Setup.Stack entries) h k = cc
setup_index t u (Setup.Pipe size) h k = cc
setup_index t u Setup.Timer h k = cc

-- where a static thread's object stands
pub static_own : (image : Image) (t x : ℕ) → t < STATIC_THREADS → position (is_thread_index t) image.objects ≡ Some x → own_row image t ≡ x
static_own image t x h e = let below : nat_lt t STATIC_THREADS ≡ true = grind (arith, nat_tests) in rw (below, e) refl

pub dynamic_own : (image : Image) (t : ℕ) → STATIC_THREADS ≤ t → own_row image t ≡ STATIC_ROWS + (t - STATIC_THREADS)
dynamic_own image t h = let past : nat_lt t STATIC_THREADS ≡ false = grind (arith, nat_tests) in rw past refl

some_is : {A : Type 0} (o : Option A) → is_some o ≡ true → (a : A) × (o ≡ Some a)
some_is (Some a) h = (a, refl)
some_is None h = cc

-- a static thread that has an object
pub record HasStatic (image : Image) (t : ℕ) : Type 0 where
  pub row : ℕ
  pub within : row < length image.objects
  pub own : own_row image t ≡ row
  pub object : ObjectDef
  pub stands : slice_get image.objects row ≡ Some object
  pub is_index : is_thread_index t object ≡ true

pub has_static : (image : Image) (t : ℕ) → t < STATIC_THREADS → has_own image t ≡ true → HasStatic image t
has_static image t h own =
    let some : is_some (position (is_thread_index t) image.objects) ≡ true = by (nat_lt t STATIC_THREADS) (is_some (position (is_thread_index t) image.objects)) (nat_le STATIC_THREADS t) (nat_lt t (STATIC_THREADS + (ROWS - STATIC_ROWS))) (grind (arith, nat_tests)) own in
    let x = some_is (position (is_thread_index t) image.objects) some in
    let blank : ObjectDef = record { name = []; kind = Kind.Mutex; addr = record { 0 = 0 }; public = false; setup = Setup.Bare } in
    let is = position-Some (is_thread_index t) image.objects x.0 blank x.1 in
    record {
      row = x.0;
      within = is.0;
      own = static_own image t x.0 h x.1;
      object = get_or image.objects x.0 blank;
      stands = slice_get-get_or image.objects x.0 blank is.0;
      is_index = is.1;
    }
  where
    by : (a b c d : Bool) → c ≡ false → ((a && b) || (c && d)) ≡ true → b ≡ true
    by true true c d e k = refl
    by true false c d e k = cc
    by false b c d e k = cc

one_object : (o p : ObjectDef) → Some o ≡ Some p → o ≡ p
one_object o p e = cc

pub own_known : (image : Image) → length image.objects ≤ STATIC_ROWS → (t u : ℕ) → has_own image t ≡ true → has_own image u ≡ true → own_row image t ≡ own_row image u → t ≡ u
own_known image few t u ot ou e =
    elim (cases_lt t STATIC_THREADS) [
      | inl lt ↦ elim (cases_lt u STATIC_THREADS) [
        | inl lu ↦
            let a = has_static image t lt ot in
            let b = has_static image u lu ou in
            let rows : a.row ≡ b.row = sym a.own ∙ e ∙ b.own in
            let same : a.object ≡ b.object = one_object a.object b.object (sym a.stands ∙ ap (λ (x : ℕ). slice_get image.objects x) rows ∙ b.stands) in
            setup_index t u b.object.setup (rw same at a.is_index) b.is_index
        | inr mu ↦ let a = has_static image t lt ot in let d = dynamic_own image u mu in let w = a.within in let o = a.own in absurd (omega arith)
      ]
      | inr mt ↦ elim (cases_lt u STATIC_THREADS) [
        | inl lu ↦ let a = has_static image u lu ou in let d = dynamic_own image t mt in let w = a.within in let o = a.own in absurd (omega arith)
        | inr mu ↦ let d = dynamic_own image t mt in let f = dynamic_own image u mu in omega arith
      ]
    ]

pub own_real : (image : Image) (t : ℕ) → has_own image t ≡ true → is_real image (own_row image t) ≡ true
own_real image t own =
    elim (cases_lt t STATIC_THREADS) [
      | inl lt ↦ let a = has_static image t lt own in rw a.own (let below : nat_lt a.row (length image.objects) ≡ true = (let w = a.within in grind (arith, nat_tests)) in rw below refl)
      | inr mt ↦
          let d = dynamic_own image t mt in
          let less : t < STATIC_THREADS + (ROWS - STATIC_ROWS) = grind (arith, nat_tests) in rw d (over t mt less)
    ]
  where
    or_true : (b : Bool) → (b || true) ≡ true
    or_true true = refl
    or_true false = refl

    over : (t : ℕ) → STATIC_THREADS ≤ t → t < STATIC_THREADS + (ROWS - STATIC_ROWS) → is_real image (STATIC_ROWS + (t - STATIC_THREADS)) ≡ true
    over t h k =
        let low : nat_le STATIC_ROWS (STATIC_ROWS + (t - STATIC_THREADS)) ≡ true = grind (arith, nat_tests) in
        let high : nat_lt (STATIC_ROWS + (t - STATIC_THREADS)) ROWS ≡ true = grind (arith, nat_tests) in
        rw (low, high) (or_true (nat_lt (STATIC_ROWS + (t - STATIC_THREADS)) (length image.objects)))

pub thread_known : (image : Image) → IsLawful image → AreNamed image → length image.objects ≤ STATIC_ROWS → (t u : ℕ) → has_own image t ≡ true → has_own image u ≡ true
    → thread_text image t ≡ thread_text image u → t ≡ u
unfolding thread_text
thread_known image lawful named few t u ot ou e =
    own_known image few t u ot ou (row_known image lawful named (own_row image t) (own_row image u) (own_real image t ot) (own_real image u ou) e)
