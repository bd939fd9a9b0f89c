-- In a lawful image with an object rows and addresses belong to each other.
use Rattle.um_invariants.proofs.Facts.{is_equal, differs, equals, no_slice, both_of, less_is, not_less}
use Rattle.um_base.specs.declared.names.ThreadIx.{ThreadIx}
use Rattle.um_base.specs.declared.names.Mpu.{Mpu}
use Rattle.um_base.specs.declared.names.Kind.{Kind}
use Rattle.std.proofs.lemmas.List.{get_or-map}
use Rattle.std.proofs.Common.{◌≡◌, ◌≢◌, ◌⊎◌, inl, inr, ℕ, zero, suc, ◌+◌, ◌-◌, ◌*◌, ◌/◌, ◌%◌, ◌<◌, ◌≤◌, Bool, true, false, ◌==◌, ◌&&◌, nat_lt, nat_le, List, [], ◌∷◌, length, map, get_or, refl, sym, ap, subst, ◌∙◌, Option, Some, None, unwrap_or, slice_index_or, position, lit<, arith, if◌then◌else◌}
use Rattle.std.specs.List.{position_or_len}
use Rattle.std.specs.Option.{option_and_then}
use Rattle.std.proofs.lemmas.Bool.Decides.{nat_tests}
use Rattle.std.proofs.lemmas.List.Sums.{position_or_len_is}
use Rattle.std.proofs.lemmas.List.Quantifiers.{position-Some}
use Rattle.std.proofs.lemmas.Option.{slice_get-get_or}
use Rattle.um_base.specs.declared.image.Image.{Image}
use Rattle.um_base.specs.declared.image.ObjectDef.{ObjectDef}
use Rattle.um_base.specs.declared.image.Setup.{Setup}
use Rattle.um_base.specs.declared.limits.TheConstants.{STATIC_THREADS, STATIC_ROWS, ROWS, THREADS, OBJECT_STEP, DYNAMIC_OBJECTS}
use Rattle.um_base.specs.Lawful.{IsLawful, has_index, index_after, has_indices, is_setup_of}
use Rattle.um_base.specs.Places.{addr_in, addr_of, dynamic_row, or_else, row_at, setup_at, setup_thread, thread_of_row, is_thread_index, own_row, dynamic_kind, dynamic_kind_at}
use Rattle.um_invariants.proofs.Guards.{IsRow, IsSited, IsThreadRow, row_kind, kind_in}
use Rattle.um_invariants.proofs.Sites.{static_apart, static_low, all_at}

at_addr : ℕ → ObjectDef → Bool
at_addr a o = o.addr.0 == a

-- the address of a static row, and of a dynamic one
static_addr : (image : Image) (x : ℕ) (d : ObjectDef) → x < length image.objects → addr_of image x ≡ (get_or image.objects x d).addr.0
static_addr image x d h = ap (λ (o : Option ObjectDef). addr_in o x) (slice_get-get_or image.objects x d h)

dynamic_addr : (image : Image) (x : ℕ) → length image.objects ≤ STATIC_ROWS → STATIC_ROWS ≤ x → addr_of image x ≡ DYNAMIC_OBJECTS + OBJECT_STEP * (x - STATIC_ROWS)
dynamic_addr image x few h = ap (λ (o : Option ObjectDef). addr_in o x) (no_slice image.objects x (omega (arith, few, h)))

-- the row at an address that a static object has, and at one that none has
pub static_position : (image : Image) → IsLawful image → (x : ℕ) (d : ObjectDef) → x < length image.objects
    → position (λ (o : ObjectDef). o.addr.0 == (get_or image.objects x d).addr.0) image.objects ≡ Some x
static_position image lawful x d h =
    let a = (get_or image.objects x d).addr.0 in
    let e : position_or_len (λ (o : ObjectDef). o.addr.0 == a) image.objects ≡ x =
    position_or_len_is (λ (o : ObjectDef). o.addr.0 == a) image.objects x d (omega (arith, h))
    (λ k less. differs _ a (static_apart image lawful k x d (omega (arith, less, h)) h (λ same. omega (arith, less, same)))) (λ within. equals a a refl) in
    let inside : nat_lt x (length image.objects) ≡ true = grind (arith, nat_tests) in rw (e, inside) refl

pub no_position : (a : ℕ) (os : List ObjectDef) (d : ObjectDef) → ((k : ℕ) → k < length os → (get_or os k d).addr.0 ≢ a) → position (λ (o : ObjectDef). o.addr.0 == a) os ≡ None
no_position a os d other =
    let e : position_or_len (λ (o : ObjectDef). o.addr.0 == a) os ≡ length os =
    position_or_len_is (λ (o : ObjectDef). o.addr.0 == a) os (length os) d (omega arith) (λ k less. differs _ a (other k less)) (λ within. absurd (omega (arith, within))) in
    let outside : nat_lt (length os) (length os) ≡ false = grind (arith, nat_tests) in rw (e, outside) refl

row_static : (image : Image) → IsLawful image → (x : ℕ) (d : ObjectDef) → x < length image.objects → row_at image (addr_of image x) ≡ Some x
row_static image lawful x d h =
    let e = static_addr image x d h in
    let p = static_position image lawful x d h in
    subst (λ (a : ℕ). row_at image a ≡ Some x) (sym e) (ap (λ (o : Option ℕ). or_else o (dynamic_row (get_or image.objects x d).addr.0)) p)

dynamic_back : (x : ℕ) → STATIC_ROWS ≤ x → x < ROWS → dynamic_row (DYNAMIC_OBJECTS + OBJECT_STEP * (x - STATIC_ROWS)) ≡ Some x
dynamic_back x low high =
    let a = DYNAMIC_OBJECTS + OBJECT_STEP * (x - STATIC_ROWS) in
    let one : nat_le DYNAMIC_OBJECTS a ≡ true = grind (arith, nat_tests) in
    let two : nat_lt a (DYNAMIC_OBJECTS + OBJECT_STEP * (ROWS - STATIC_ROWS)) ≡ true = grind (arith, nat_tests) in
    let whole : (a - DYNAMIC_OBJECTS) % OBJECT_STEP ≡ 0 = omega arith in
    let three : ((a - DYNAMIC_OBJECTS) % OBJECT_STEP == 0) ≡ true = equals ((a - DYNAMIC_OBJECTS) % OBJECT_STEP) 0 whole in
    let row : STATIC_ROWS + (a - DYNAMIC_OBJECTS) / OBJECT_STEP ≡ x = omega (arith, low) in
    rw (one, two, three, row) refl

row_dynamic : (image : Image) → IsLawful image → length image.objects ≤ STATIC_ROWS → ObjectDef → (x : ℕ) → STATIC_ROWS ≤ x → x < ROWS → row_at image (addr_of image x) ≡ Some x
row_dynamic image lawful few d x low high =
    let a = DYNAMIC_OBJECTS + OBJECT_STEP * (x - STATIC_ROWS) in
    let p : position (λ (o : ObjectDef). o.addr.0 == a) image.objects ≡ None =
    no_position a image.objects d (λ k inside same. let less = static_low image lawful few k d inside in omega (arith, less, same)) in
    subst (λ (b : ℕ). row_at image b ≡ Some x) (sym (dynamic_addr image x few low))
    (ap (λ (o : Option ℕ). or_else o (dynamic_row a)) p ∙ dynamic_back x low high)

-- what the row at an address says of it
row_found : (image : Image) → length image.objects ≤ STATIC_ROWS → ObjectDef → (a x : ℕ) (o : Option ℕ) → position (λ (o : ObjectDef). o.addr.0 == a) image.objects ≡ o → or_else o (dynamic_row a) ≡ Some x
    → IsRow image x × (addr_of image x ≡ a)
row_found image few d a x (Some y) p e =
    let same : y ≡ x = cc in
    let (inside, here, first) = position-Some (λ (o : ObjectDef). o.addr.0 == a) image.objects y d p in
    subst (λ (n : ℕ). IsRow image n × (addr_of image n ≡ a)) same (inl inside, static_addr image y d inside ∙ is_equal _ a here)
row_found image few d a x None p e = dynamic_found image few a x (nat_le DYNAMIC_OBJECTS a) (nat_lt a (DYNAMIC_OBJECTS + OBJECT_STEP * (ROWS - STATIC_ROWS))) ((a - DYNAMIC_OBJECTS) % OBJECT_STEP == 0) refl refl refl e
  where
    dynamic_found : (image : Image) → length image.objects ≤ STATIC_ROWS → (a x : ℕ) (one two three : Bool) → nat_le DYNAMIC_OBJECTS a ≡ one → nat_lt a (DYNAMIC_OBJECTS + OBJECT_STEP * (ROWS - STATIC_ROWS)) ≡ two
        → ((a - DYNAMIC_OBJECTS) % OBJECT_STEP == 0) ≡ three → (if one && two && three then Some (STATIC_ROWS + (a - DYNAMIC_OBJECTS) / OBJECT_STEP) else None) ≡ Some x → IsRow image x × (addr_of image x ≡ a)
    dynamic_found image few a x true true true f g h e =
        let row : STATIC_ROWS + (a - DYNAMIC_OBJECTS) / OBJECT_STEP ≡ x = cc in
        let low : DYNAMIC_OBJECTS ≤ a = grind (arith, nat_tests) in
        let high : a < DYNAMIC_OBJECTS + OBJECT_STEP * (ROWS - STATIC_ROWS) = grind (arith, nat_tests) in
        let whole : (a - DYNAMIC_OBJECTS) % OBJECT_STEP ≡ 0 = is_equal _ 0 h in
        let least : STATIC_ROWS ≤ x = omega (arith, row) in
        let most : x < ROWS = omega (arith, row, high, low) in
        (inr (least, most), dynamic_addr image x few least ∙ omega (arith, row, low, whole))
    dynamic_found image few a x true true false f g h e = cc
    dynamic_found image few a x true false three f g h e = cc
    dynamic_found image few a x false two three f g h e = cc

-- the thread indices of static threads are small
index_least : (os : List ObjectDef) (t : ℕ) → has_indices os t ≡ true → t ≤ STATIC_THREADS
index_least [] t h = grind (arith, nat_tests)
index_least (o ∷ os) t h = let later = index_least os (index_after o.setup t) (both_of (has_index o.setup t) _ h).1 in le_of_after o.setup t later
  where
    le_of_after : (setup : Setup) (t : ℕ) → index_after setup t ≤ STATIC_THREADS → t ≤ STATIC_THREADS
    le_of_after (Setup.Thread index) t h = omega (arith, h)
    le_of_after _ t h = h

index_first : (setup : Setup) (t k : ℕ) → has_index setup t ≡ true → setup_thread setup ≡ Some k → (k ≡ t) × (index_after setup t ≡ t + 1)
index_first (Setup.Thread index) t k h e = let same : index.0 ≡ k = cc in (sym same ∙ is_equal index.0 t h, refl)
index_first _ t k h e = cc

pub index_small : (os : List ObjectDef) (t x k : ℕ) → has_indices os t ≡ true → setup_thread (slice_index_or (map (λ (o : ObjectDef). o.setup) os) x Setup.Bare) ≡ Some k → k < STATIC_THREADS
index_small [] t x k h e = cc
index_small (o ∷ os) t zero k h e =
    let (first, later) = both_of (has_index o.setup t) _ h in
    let (same, after) = index_first o.setup t k first e in
    let least = index_least os (index_after o.setup t) later in omega (arith, same, after, least)
index_small (o ∷ os) t (suc x) k h e = index_small os (index_after o.setup t) x k (both_of (has_index o.setup t) _ h).1 e

own_small : (image : Image) → 0 < length image.objects → ObjectDef → (t : ℕ) → t < STATIC_THREADS → own_row image t < length image.objects
own_small image some d t h =
    let e : nat_lt t STATIC_THREADS ≡ true = grind (arith, nat_tests) in rw e (within (position (is_thread_index t) image.objects) refl)
  where
    within : (o : Option ℕ) → position (is_thread_index t) image.objects ≡ o → unwrap_or o 0 < length image.objects
    within None p = some
    within (Some y) p = (position-Some (is_thread_index t) image.objects y d p).0

thread_owns : (image : Image) → IsLawful image → 0 < length image.objects → ObjectDef → (x : ℕ) (low : Bool) (inside : Bool) → nat_lt x STATIC_ROWS ≡ low → nat_lt (STATIC_THREADS + (x - STATIC_ROWS)) THREADS ≡ inside
    → (own_row image (unwrap_or (if low then setup_thread (setup_at image x) else if inside then Some (STATIC_THREADS + (x - STATIC_ROWS)) else None) 0) < length image.objects)
    ⊎ (own_row image (unwrap_or (if low then setup_thread (setup_at image x) else if inside then Some (STATIC_THREADS + (x - STATIC_ROWS)) else None) 0) ≡ x)
thread_owns image lawful some d x true inside e f = inl (static_owns (setup_thread (setup_at image x)) refl)
  where
    static_owns : (o : Option ℕ) → setup_thread (setup_at image x) ≡ o → own_row image (unwrap_or o 0) < length image.objects
    static_owns None p = own_small image some d 0 (lit< tt)
    static_owns (Some k) p = own_small image some d k (index_small image.objects 0 x k lawful.indices p)
thread_owns image lawful some d x false true e f =
    let t = STATIC_THREADS + (x - STATIC_ROWS) in
    let high : STATIC_ROWS ≤ x = grind (arith, nat_tests) in
    let g : nat_lt t STATIC_THREADS ≡ false = grind (arith, nat_tests) in inr (rw g (omega (arith, high)))
thread_owns image lawful some d x false false e f = inl (own_small image some d 0 (lit< tt))

-- thread objects and their indices

thread_setup : (mpu : Mpu) (setup : Setup) → is_setup_of mpu Kind.Thread setup ≡ true → (index : ThreadIx) × (setup ≡ Setup.Thread index)
thread_setup mpu (Setup.Thread index) h = (index, refl)
thread_setup mpu _ h = cc

stack_setup : (mpu : Mpu) (setup : Setup) → is_setup_of mpu Kind.ThreadStack setup ≡ true → setup_thread setup ≡ None
stack_setup mpu (Setup.Thread index) h = cc
stack_setup mpu _ h = refl

index_above : (os : List ObjectDef) (t x n : ℕ) (d : ObjectDef) → has_indices os t ≡ true → x < length os → setup_thread (get_or os x d).setup ≡ Some n → t ≤ n
index_above [] t x n d h inside e = absurd (omega (arith, inside))
index_above (o ∷ os) t zero n d h inside e = let (same, after) = index_first o.setup t n (both_of (has_index o.setup t) _ h).0 e in omega (arith, same)
index_above (o ∷ os) t (suc x) n d h inside e =
    let later = index_above os (index_after o.setup t) x n d (both_of (has_index o.setup t) _ h).1 (omega (arith, inside)) e in after_above o.setup t n later
  where
    after_above : (setup : Setup) (t n : ℕ) → index_after setup t ≤ n → t ≤ n
    after_above (Setup.Thread index) t n h = omega (arith, h)
    after_above _ t n h = h

index_rises : (os : List ObjectDef) (t k x m n : ℕ) (d : ObjectDef) → has_indices os t ≡ true → k < x → x < length os → setup_thread (get_or os k d).setup ≡ Some m → setup_thread (get_or os x d).setup ≡ Some n → m < n
index_rises [] t k x m n d h less inside e f = absurd (omega (arith, inside))
index_rises (o ∷ os) t k zero m n d h less inside e f = absurd (omega (arith, less))
index_rises (o ∷ os) t zero (suc x) m n d h less inside e f =
    let (first, rest) = both_of (has_index o.setup t) _ h in
    let (same, after) = index_first o.setup t m first e in
    let above = index_above os (index_after o.setup t) x n d rest (omega (arith, inside)) f in omega (arith, same, after, above)
index_rises (o ∷ os) t (suc k) (suc x) m n d h less inside e f =
    index_rises os (index_after o.setup t) k x m n d (both_of (has_index o.setup t) _ h).1 (omega (arith, less)) (omega (arith, inside)) e f

-- whether an object has a thread index
index_is : (t : ℕ) (o : ObjectDef) (n : ℕ) → setup_thread o.setup ≡ Some n → is_thread_index t o ≡ (n == t)
index_is t o n e = ap (λ (i : Option ℕ). unwrap_or (option_and_then (λ (j : ℕ). Some (j == t)) i) false) e

index_other : (t : ℕ) (o : ObjectDef) (i : Option ℕ) → setup_thread o.setup ≡ i → ((n : ℕ) → i ≡ Some n → n ≢ t) → is_thread_index t o ≡ false
index_other t o None e apart = ap (λ (i : Option ℕ). unwrap_or (option_and_then (λ (j : ℕ). Some (j == t)) i) false) e
index_other t o (Some n) e apart = index_is t o n e ∙ differs n t (apart n refl)

own_position : (image : Image) → IsLawful image → (x n : ℕ) (d : ObjectDef) → x < length image.objects → setup_thread (get_or image.objects x d).setup ≡ Some n → position (is_thread_index n) image.objects ≡ Some x
own_position image lawful x n d inside e =
    let p : position_or_len (is_thread_index n) image.objects ≡ x =
    position_or_len_is (is_thread_index n) image.objects x d (omega (arith, inside))
    (λ k less. index_other n (get_or image.objects k d) (setup_thread (get_or image.objects k d).setup) refl
    (λ m f same. let rises = index_rises image.objects 0 k x m n d lawful.indices less inside f e in omega (arith, rises, same)))
    (λ within. index_is n (get_or image.objects x d) n e ∙ equals n n refl) in
    let here : nat_lt x (length image.objects) ≡ true = grind (arith, nat_tests) in rw (p, here) refl

static_kind : (image : Image) (x : ℕ) (d : ObjectDef) → x < length image.objects → row_kind image x ≡ (get_or image.objects x d).kind
static_kind image x d h = ap (λ (o : Option ObjectDef). kind_in o x) (slice_get-get_or image.objects x d h)

dynamic_kind_row : (image : Image) (x : ℕ) → length image.objects ≤ STATIC_ROWS → STATIC_ROWS ≤ x → row_kind image x ≡ dynamic_kind x
dynamic_kind_row image x few h = ap (λ (o : Option ObjectDef). kind_in o x) (no_slice image.objects x (omega (arith, few, h)))

setup_of : (image : Image) → IsLawful image → (x : ℕ) (d : ObjectDef) (k : Kind) → x < length image.objects → row_kind image x ≡ k → is_setup_of image.mpu k (get_or image.objects x d).setup ≡ true
setup_of image lawful x d k inside e =
    subst (λ (kind : Kind). is_setup_of image.mpu kind (get_or image.objects x d).setup ≡ true) (sym (static_kind image x d inside) ∙ e)
    (all_at (λ (o : ObjectDef). is_setup_of image.mpu o.kind o.setup) image.objects x d lawful.objects inside)

setup_here : (image : Image) (x : ℕ) (d : ObjectDef) → x < length image.objects → setup_at image x ≡ (get_or image.objects x d).setup
setup_here image x d inside = get_or-map (λ (o : ObjectDef). o.setup) image.objects x d Setup.Bare inside

static_thread_of : (image : Image) (x : ℕ) (d : ObjectDef) → length image.objects ≤ STATIC_ROWS → x < length image.objects → thread_of_row image x ≡ setup_thread (get_or image.objects x d).setup
static_thread_of image x d few inside =
    let low : nat_lt x STATIC_ROWS ≡ true = less_is x STATIC_ROWS (omega (arith, few, inside)) in rw low (ap setup_thread (setup_here image x d inside))

static_owned : (image : Image) → IsLawful image → length image.objects ≤ STATIC_ROWS → ObjectDef → (x : ℕ) → x < length image.objects → row_kind image x ≡ Kind.Thread → IsThreadRow image x
static_owned image lawful few d x inside e =
    let (index, is) = thread_setup image.mpu (get_or image.objects x d).setup (setup_of image lawful x d Kind.Thread inside e) in
    let n = index.0 in
    let there : setup_thread (get_or image.objects x d).setup ≡ Some n = ap setup_thread is in
    let thread : thread_of_row image x ≡ Some n = static_thread_of image x d few inside ∙ there in
    let small : n < STATIC_THREADS = index_small image.objects 0 x n lawful.indices (ap setup_thread (setup_here image x d inside) ∙ there) in
    let low : nat_lt n STATIC_THREADS ≡ true = less_is n STATIC_THREADS small in
    (n, thread, rw low (ap (λ (o : Option ℕ). unwrap_or o 0) (own_position image lawful x n d inside there)))

kind_low : (j : ℕ) (b : Bool) → nat_lt j 4 ≡ b → dynamic_kind_at j ≡ Kind.Thread → j < 4
kind_low j true e h = grind (arith, nat_tests)
kind_low j false e h = absurd (others (nat_lt j 12) (nat_lt j 16) (nat_lt j 24) (nat_lt j 28)
    (subst (λ (b : Bool).
    (if b then Kind.Thread else if nat_lt j 12 then Kind.Sem else if nat_lt j 16 then Kind.Mutex else if nat_lt j 24 then Kind.Msgq else if nat_lt j 28 then Kind.Stack else Kind.Pipe) ≡ Kind.Thread) e h))
  where
    others : (b c d f : Bool) → (if b then Kind.Sem else if c then Kind.Mutex else if d then Kind.Msgq else if f then Kind.Stack else Kind.Pipe) ≡ Kind.Thread → ⊥
    others true c d f h = cc
    others false true d f h = cc
    others false false true f h = cc
    others false false false true h = cc
    others false false false false h = cc

no_stack : (a b c d f : Bool) → (if a then Kind.Thread else if b then Kind.Sem else if c then Kind.Mutex else if d then Kind.Msgq else if f then Kind.Stack else Kind.Pipe) ≡ Kind.ThreadStack → ⊥
no_stack true b c d f h = cc
no_stack false true c d f h = cc
no_stack false false true d f h = cc
no_stack false false false true f h = cc
no_stack false false false false true h = cc
no_stack false false false false false h = cc

dynamic_owned : (image : Image) → length image.objects ≤ STATIC_ROWS → (x : ℕ) → STATIC_ROWS ≤ x → row_kind image x ≡ Kind.Thread → IsThreadRow image x
dynamic_owned image few x low e =
    let few_left : x - STATIC_ROWS < 4 = kind_low (x - STATIC_ROWS) (nat_lt (x - STATIC_ROWS) 4) refl (sym (dynamic_kind_row image x few low) ∙ e) in
    let n = STATIC_THREADS + (x - STATIC_ROWS) in
    let one : nat_lt x STATIC_ROWS ≡ false = not_less x STATIC_ROWS low in
    let two : nat_lt n THREADS ≡ true = less_is n THREADS (omega (arith, few_left)) in
    let three : nat_lt n STATIC_THREADS ≡ false = not_less n STATIC_THREADS (omega arith) in
    let back : STATIC_ROWS + (n - STATIC_THREADS) ≡ x = omega (arith, low) in
    (n, rw (one, two) refl, rw three back)

first_object : (os : List ObjectDef) → 0 < length os → ObjectDef
first_object [] h = absurd (omega (arith, h))
first_object (o ∷ os) h = o

pub is_sited : (image : Image) → IsLawful image → length image.objects ≤ STATIC_ROWS → 0 < length image.objects → IsSited image
is_sited image lawful few some =
    let d = first_object image.objects some in
    record {
      few = few;
      rows = λ x row. elim row as (λ _. row_at image (addr_of image x) ≡ Some x) [ inl h ↦ row_static image lawful x d h | inr h ↦ row_dynamic image lawful few d x h.0 h.1 ];
      found = λ a x e. row_found image few d a x (position (λ (o : ObjectDef). o.addr.0 == a) image.objects) refl e;
      threads = λ x row e. elim row as (λ _. IsThreadRow image x) [ inl h ↦ static_owned image lawful few d x h e | inr h ↦ dynamic_owned image few x h.0 e ];
      stacks = λ x row e.
          elim row as (λ _. thread_of_row image x ≡ None) [
            | inl h ↦ static_thread_of image x d few h ∙ stack_setup image.mpu (get_or image.objects x d).setup (setup_of image lawful x d Kind.ThreadStack h e)
            | inr h ↦ absurd (no_stack _ _ _ _ _ (sym (dynamic_kind_row image x few h.0) ∙ e))
          ];
      owns = λ a x e.
          subst (λ (o : Option ℕ). (own_row image (unwrap_or (option_and_then (thread_of_row image) o) 0) < length image.objects) ⊎ (own_row image (unwrap_or (option_and_then (thread_of_row image) o) 0) ≡ x)) (sym e)
          (thread_owns image lawful some d x (nat_lt x STATIC_ROWS) (nat_lt (STATIC_THREADS + (x - STATIC_ROWS)) THREADS) refl refl);
    }
