-- What is read of the lines of steps that choose a row.
use Rattle.std.proofs.Common.{◌≡◌, inl, inr, ◌⊎◌, ℕ, ◌-◌, ◌<◌, ◌≤◌, true, false, ◌&&◌, List, [], ◌∷◌, ◌++◌, refl, sym, ap, ◌∙◌, arith, if◌then◌else◌, Option, Some, None, append_assoc}
use Rattle.std.specs.Prelude.{◌==◌, nat_lt, nat_le, codes, decimal}
use Rattle.std.proofs.lemmas.Bool.{and_parts}
use Rattle.std.proofs.lemmas.Bool.Decides.{nat_tests}
use Rattle.std.proofs.lemmas.List.{append-nil, append_cancel_left}
use Rattle.std.specs.List.{flat_map}
use Rattle.um_base.specs.declared.act.Act.{Act}
use Rattle.um_base.specs.declared.act.Leftover.{Leftover}
use Rattle.um_base.specs.declared.image.Image.{Image}
use Rattle.um_base.specs.declared.limits.TheConstants.{STATIC_ROWS, ROWS}
use Rattle.um_base.specs.declared.names.Addr.{Addr}
use Rattle.um_base.specs.declared.names.Kind.{Kind}
use Rattle.um_base.specs.declared.names.Reply.{Reply}
use Rattle.um_base.specs.declared.names.ThreadIx.{ThreadIx}
use Rattle.um_base.specs.Places.{addr_of, dynamic_kind}
use Rattle.um_machine.specs.declared.pending.Pending.{Pending}
use Rattle.um_machine.specs.State.{State, object_at}
use Rattle.um_machine.specs.Objects.{is_free, kind_number}
use Rattle.um_machine.specs.Order.{to_addr}
use Rattle.um_machine.specs.Run.{MayChoose}
use Rattle.um_trace.specs.Acts.{reserved_text, pair_act_text, heap_act_text, object_act_text, wake_act_text, act_text, wake_text}
use Rattle.um_trace.specs.Names.{thread_text, object_text}
use Rattle.um_trace.specs.Words.{leftover_word}
use Rattle.um_vocabulary.specs.Words.{kind_word}
use Rattle.um_texts.proofs.PlainLemmas.{solid}
use Rattle.um_texts.proofs.SplitLemmas.{split}
use Rattle.um_texts.proofs.NameLemmas.{AreNamed, thread_solid, object_solid}
use Rattle.um_texts.proofs.IdentityLemmas.{is_real, has_own, thread_known, dynamic_text}
use Rattle.um_texts.proofs.OwnLemmas.{IsSound, real_dynamic}
use Rattle.um_texts.proofs.AddressLemmas.{address_known, row_addr_known, row_found}

-- parts with spaces between them
parts : (w a b c : List ℕ) → w ++ a ++ codes " " ++ b ++ codes " " ++ c ≡ w ++ (a ++ 32 ∷ (b ++ 32 ∷ c))
parts w a b c = simp append_assoc

three_known : (w a b c x y z : List ℕ) → solid a ≡ true → solid x ≡ true → solid b ≡ true → solid y ≡ true
    → w ++ a ++ codes " " ++ b ++ codes " " ++ c ≡ w ++ x ++ codes " " ++ y ++ codes " " ++ z → (a ≡ x) × (b ≡ y) × (c ≡ z)
three_known w a b c x y z ha hx hb hy h =
    let behind : a ++ 32 ∷ (b ++ 32 ∷ c) ≡ x ++ 32 ∷ (y ++ 32 ∷ z) = append_cancel_left w _ _ (sym (parts w a b c) ∙ h ∙ parts w x y z) in
    let first = split 32 a x (b ++ 32 ∷ c) (y ++ 32 ∷ z) ha hx behind in
    let second = split 32 b y c z hb hy first.1 in (first.0, second.0, second.1)

-- a drop
pub drop_known : (image : Image) → IsSound image → AreNamed image → (who whom : ThreadIx) (a b : Addr) (left other : Leftover) → has_own image who.0 ≡ true → has_own image whom.0 ≡ true
    → act_text image (Act.DropPair who a left) ≡ act_text image (Act.DropPair whom b other) → (who.0 ≡ whom.0) × (a.0 ≡ b.0)
unfolding act_text wake_act_text object_act_text heap_act_text pair_act_text
drop_known image sound named who whom a b left other own owns h =
    let parts =
    three_known (codes "drop ") (thread_text image who.0) (object_text image a.0) (leftover_word left) (thread_text image whom.0) (object_text image b.0) (leftover_word other)
    (thread_solid image named who.0) (thread_solid image named whom.0) (object_solid image named a.0) (object_solid image named b.0) h in
    (thread_known image sound.lawful named sound.few who.0 whom.0 own owns parts.0, address_known image sound named a.0 b.0 parts.1)

-- an object that is recycled
pub recycle_known : (image : Image) → IsSound image → AreNamed image → (x y : ℕ) → is_real image x ≡ true → is_real image y ≡ true
    → act_text image (Act.Recycle (to_addr (addr_of image x))) ≡ act_text image (Act.Recycle (to_addr (addr_of image y))) → x ≡ y
unfolding act_text wake_act_text object_act_text heap_act_text
recycle_known image sound named x y rx ry h =
    row_addr_known image sound named x y rx ry (append_cancel_left (codes "recycle ") (object_text image (addr_of image x)) (object_text image (addr_of image y)) h)

-- a timer that runs out, before those whom it wakes
front_known : (a x u v : List ℕ) → solid a ≡ true → solid x ≡ true → (u ≡ []) ⊎ ((r : List ℕ) × (u ≡ 32 ∷ r)) → (v ≡ []) ⊎ ((r : List ℕ) × (v ≡ 32 ∷ r)) → a ++ u ≡ x ++ v → a ≡ x
front_known a x u v ha hx (inl e) (inl f) h =
    (split 32 a x [] [] ha hx (ap (λ (z : List ℕ). z ++ 32 ∷ []) (sym (append-nil a) ∙ ap (λ (z : List ℕ). a ++ z) (sym e) ∙ h ∙ ap (λ (z : List ℕ). x ++ z) f ∙ append-nil x))).0
front_known a x u v ha hx (inl e) (inr (r, f)) h =
    (split 32 a x [] (r ++ 32 ∷ []) ha hx (ap (λ (z : List ℕ). z ++ 32 ∷ []) (sym (append-nil a) ∙ ap (λ (z : List ℕ). a ++ z) (sym e) ∙ h ∙ ap (λ (z : List ℕ). x ++ z) f) ∙ append_assoc x (32 ∷ r) (32 ∷ []))).0
front_known a x u v ha hx (inr (r, e)) (inl f) h =
    (split 32 a x (r ++ 32 ∷ []) [] ha hx (sym (append_assoc a (32 ∷ r) (32 ∷ [])) ∙ ap (λ (z : List ℕ). z ++ 32 ∷ []) (ap (λ (z : List ℕ). a ++ z) (sym e) ∙ h ∙ ap (λ (z : List ℕ). x ++ z) f ∙ append-nil x))).0
front_known a x u v ha hx (inr (r, e)) (inr (l, f)) h = (split 32 a x r l ha hx (ap (λ (z : List ℕ). a ++ z) (sym e) ∙ h ∙ ap (λ (z : List ℕ). x ++ z) f)).0

wakes_begin : (image : Image) (woken : List (ThreadIx × Reply)) → (flat_map (wake_text image) woken ≡ []) ⊎ ((r : List ℕ) × (flat_map (wake_text image) woken ≡ 32 ∷ r))
unfolding wake_text
wakes_begin image [] = inl refl
wakes_begin image (w ∷ woken) = inr (_, refl)

expire_words : (image : Image) (a b : Addr) (woken others : List (ThreadIx × Reply)) → act_text image (Act.Expire a woken) ≡ act_text image (Act.Expire b others)
    → object_text image a.0 ++ flat_map (wake_text image) woken ≡ object_text image b.0 ++ flat_map (wake_text image) others
unfolding act_text wake_act_text
expire_words image a b woken others h =
    let xs = flat_map (wake_text image) woken in
    let ys = flat_map (wake_text image) others in
    append_cancel_left (codes "expire ") (object_text image a.0 ++ xs) (object_text image b.0 ++ ys)
    (sym (append_assoc (codes "expire ") (object_text image a.0) xs) ∙ h ∙ append_assoc (codes "expire ") (object_text image b.0) ys)

pub expire_known : (image : Image) → IsSound image → AreNamed image → (x y : ℕ) (woken others : List (ThreadIx × Reply)) → is_real image x ≡ true → is_real image y ≡ true
    → act_text image (Act.Expire (to_addr (addr_of image x)) woken) ≡ act_text image (Act.Expire (to_addr (addr_of image y)) others) → x ≡ y
expire_known image sound named x y woken others rx ry h =
    row_addr_known image sound named x y rx ry
    (front_known (object_text image (addr_of image x)) (object_text image (addr_of image y)) (flat_map (wake_text image) woken) (flat_map (wake_text image) others) (object_solid image named (addr_of image x))
    (object_solid image named (addr_of image y)) (wakes_begin image woken) (wakes_begin image others) (expire_words image (to_addr (addr_of image x)) (to_addr (addr_of image y)) woken others h))

-- an object that is inherited
pub inherit_known : (image : Image) → IsSound image → AreNamed image → (who : ThreadIx) (x y : ℕ) → is_real image x ≡ true → is_real image y ≡ true
    → act_text image (Act.Inherit who (to_addr (addr_of image x))) ≡ act_text image (Act.Inherit who (to_addr (addr_of image y))) → x ≡ y
unfolding act_text wake_act_text object_act_text heap_act_text pair_act_text
inherit_known image sound named who x y rx ry h =
    row_addr_known image sound named x y rx ry
    (append_cancel_left (codes "inherit " ++ thread_text image who.0 ++ codes " ") (object_text image (addr_of image x)) (object_text image (addr_of image y)) h)

-- an object that is reserved, or none

abbrev chosen_addr : Image → ℕ → Option Addr
chosen_addr image x = if x == 0 then None else Some (to_addr (addr_of image x))

none_text : (xs ys : List ℕ) → codes "NULL" ≡ codes "#" ++ ys → ⊥
none_text xs ys h = cc

dynamic_shown : (image : Image) → IsSound image → (x : ℕ) → STATIC_ROWS ≤ x → x < ROWS → reserved_text image (chosen_addr image x) ≡ codes "#" ++ decimal (x - STATIC_ROWS)
unfolding reserved_text object_text
dynamic_shown image sound x h k =
    let some : (x == 0) ≡ false = grind (arith, nat_tests) in
    let found = row_found image sound x (real_dynamic image x h k) in
    let few = sound.few in rw (some, found) (dynamic_text image x (omega (arith, few, h)))

nothing_shown : (image : Image) → reserved_text image (chosen_addr image 0) ≡ codes "NULL"
unfolding reserved_text
nothing_shown image = refl

some_shown : (image : Image) (x : ℕ) → STATIC_ROWS ≤ x → reserved_text image (chosen_addr image x) ≡ object_text image (addr_of image x)
unfolding reserved_text
some_shown image x h = let some : (x == 0) ≡ false = grind (arith, nat_tests) in rw some refl

-- the row of a reservation
abbrev IsReserved : ℕ → Type 0
IsReserved x = ((STATIC_ROWS ≤ x) × (x < ROWS)) ⊎ (x ≡ 0)

pub is_reserved : (s : State) (t x : ℕ) (kind : Kind) → MayChoose s t x (Pending.Reserve kind) → IsReserved x
is_reserved s t x kind (inl may) =
    let all = may.1 in
    let three = (and_parts (nat_le STATIC_ROWS x && nat_lt x ROWS && kind_number (dynamic_kind x) == kind_number kind) (is_free (object_at s x).status) all).0 in
    let two = (and_parts (nat_le STATIC_ROWS x && nat_lt x ROWS) (kind_number (dynamic_kind x) == kind_number kind) three).0 in
    inl (low (and_parts (nat_le STATIC_ROWS x) (nat_lt x ROWS) two).0, high (and_parts (nat_le STATIC_ROWS x) (nat_lt x ROWS) two).1)
  where
    low : nat_le STATIC_ROWS x ≡ true → STATIC_ROWS ≤ x
    low h = grind (arith, nat_tests)

    high : nat_lt x ROWS ≡ true → x < ROWS
    high h = grind (arith, nat_tests)
is_reserved s t x kind (inr may) = inr may.0

pub reserve_known : (image : Image) → IsSound image → AreNamed image → (kind : Kind) (x y : ℕ) → IsReserved x → IsReserved y
    → act_text image (Act.Reserve kind (if x == 0 then None else Some (to_addr (addr_of image x)))) ≡ act_text image (Act.Reserve kind (if y == 0 then None else Some (to_addr (addr_of image y)))) → x ≡ y
unfolding act_text wake_act_text object_act_text heap_act_text
reserve_known image sound named kind x y rx ry h =
    let shown : reserved_text image (chosen_addr image x) ≡ reserved_text image (chosen_addr image y) = append_cancel_left (codes "reserve " ++ kind_word kind ++ codes " ") _ _ h in
    by rx ry shown
  where
    by : IsReserved x → IsReserved y → reserved_text image (chosen_addr image x) ≡ reserved_text image (chosen_addr image y) → x ≡ y
    by (inl a) (inl b) same =
        row_addr_known image sound named x y (real_dynamic image x a.0 a.1) (real_dynamic image y b.0 b.1) (sym (some_shown image x a.0) ∙ same ∙ some_shown image y b.0)
    by (inl a) (inr b) same =
        let none : reserved_text image (chosen_addr image y) ≡ codes "NULL" = rw b (nothing_shown image) in
        absurd (none_text [] (decimal (x - STATIC_ROWS)) (sym none ∙ sym same ∙ dynamic_shown image sound x a.0 a.1))
    by (inr a) (inl b) same =
        let none : reserved_text image (chosen_addr image x) ≡ codes "NULL" = rw a (nothing_shown image) in
        absurd (none_text [] (decimal (y - STATIC_ROWS)) (sym none ∙ same ∙ dynamic_shown image sound y b.0 b.1))
    by (inr a) (inr b) same = a ∙ sym b
