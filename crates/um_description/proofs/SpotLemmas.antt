-- Spots of variables, which are found by their names.
use Rattle.std.proofs.Common.{◌≡◌, ℕ, suc, ◌+◌, ◌-◌, ◌≤◌, ◌<◌, ◌%◌, ◌^◌, Bool, true, false, nat_lt, ◌||◌, is_some, if◌then◌else◌, List, [], ◌∷◌, map, drop, length, get_or, slice_get, Option, Some, None, Vec, Global, bytes_eq, refl, sym, ap, ◌∙◌, arith}
use Rattle.std.proofs.lemmas.Bool.Decides.{nat_tests}
use Rattle.std.proofs.lemmas.Option.{slice_get_past, slice_get_read}
use Rattle.std.proofs.lemmas.Slice.Eq.{bytes_eq-Decides}
use Rattle.std.specs.HashMap.{HashMap, UpdatesBy}
use Rattle.std.specs.Map.{IsKeyTest, AreApart, KeepsOthers}
use Rattle.um_base.specs.declared.limits.TheConstants.{RODATA}
use Rattle.um_base.specs.declared.image.Partition.{Partition}
use Rattle.um_document.specs.declared.description.PartitionEntry.{PartitionEntry}
use Rattle.um_document.specs.declared.description.VariableEntry.{VariableEntry}
use Rattle.um_description.specs.declared.spots.Spot.{Spot}
use Rattle.um_description.specs.Mentions.{names_variable}
use Rattle.um_description.specs.Names.{Text, is_among, variables_of, variable_names}
use Rattle.um_description.specs.Numbers.{natural, bounded}
use Rattle.um_description.specs.Packing.{offset_of, end_of, offset_named}
use Rattle.um_description.specs.Resolve.{addr_at, variable_addr}
use Rattle.um_description.specs.Spots.{or_else, spot_at, spot_of, spot_in}
use Rattle.um_description.proofs.PackingLemmas.{cut_at, named_here, named_step}

abbrev pub Owned : Type 0
Owned = Vec ℕ Global

abbrev pub same_key : Owned → Owned → Bool
same_key a b = bytes_eq a.items b.items

-- ---- one of two spots

or_none : (found : Option Spot) → or_else found None ≡ found
or_none None = refl
or_none (Some spot) = refl

or_or : (a b c : Option Spot) → or_else (or_else a b) c ≡ or_else a (or_else b c)
or_or None b c = refl
or_or (Some spot) b c = refl

or_same : (found other : Option Spot) → is_some found ≡ true → or_else found other ≡ found
or_same (Some spot) other h = refl
or_same None other h = cc

none_of : (found : Option Spot) → is_some found ≡ false → found ≡ None
none_of None h = refl
none_of (Some spot) h = cc

some_or : (a b : Option Spot) → is_some (or_else a b) ≡ (is_some a || is_some b)
some_or None b = refl
some_or (Some spot) b = refl

-- ---- one more variable

kept_by : {S : Type 0} (m : HashMap Owned Spot S) (name : Text) (spot : Spot) → is_some (spot_in m name) ≡ true → (text : Text) (b : Bool) → bytes_eq text name ≡ b
    → spot_in m text ≡ or_else (spot_in m text) (if b then Some spot else None)
kept_by m name spot there text true same =
    let is : text ≡ name = (bytes_eq-Decides text name).0 same in
    sym (or_same (spot_in m text) (Some spot) (ap (λ (t : Text). is_some (spot_in m t)) is ∙ there))
kept_by m name spot there text false other = sym (or_none (spot_in m text))

-- a name that is there keeps its spot
pub kept_spot : {S : Type 0} (m : HashMap Owned Spot S) (name : Text) (spot : Spot) → is_some (spot_in m name) ≡ true → (text : Text)
    → spot_in m text ≡ or_else (spot_in m text) (if bytes_eq text name then Some spot else None)
kept_spot m name spot there text = kept_by m name spot there text (bytes_eq text name) refl

-- a query by bytes finds one key, and none of another name
is_query : (text : Text) → IsKeyTest same_key (λ (k : Owned). bytes_eq text k.items)
is_query text x y h = ap (λ (t : Text). bytes_eq t y.items) ((bytes_eq-Decides text x.items).0 h)

are_apart : (key : Owned) (text : Text) → bytes_eq text key.items ≡ false → AreApart (same_key key) (λ (k : Owned). bytes_eq text k.items)
are_apart key text other k h = ap (bytes_eq text) (sym ((bytes_eq-Decides key.items k.items).0 h)) ∙ other

added_by : {S : Type 0} (m n : HashMap Owned Spot S) (key : Owned) (name : Text) (spot : Spot) → key.items ≡ name → is_some (spot_in m name) ≡ false
    → UpdatesBy same_key (same_key key) m n (Some spot) → (text : Text) (b : Bool) → bytes_eq text name ≡ b → spot_in n text ≡ or_else (spot_in m text) (if b then Some spot else None)
unfolding KeepsOthers
added_by m n key name spot is new updates text true same =
    let at : text ≡ name = (bytes_eq-Decides text name).0 same in
    let found : spot_in n text ≡ Some spot = ap (λ (t : Text). spot_in n t) (at ∙ sym is) ∙ updates.1 in
    let none : spot_in m text ≡ None = none_of (spot_in m text) (ap (λ (t : Text). is_some (spot_in m t)) at ∙ new) in
    found ∙ sym (ap (λ (f : Option Spot). or_else f (Some spot)) none)
added_by m n key name spot is new updates text false other =
    updates.3 (λ (k : Owned). bytes_eq text k.items) (is_query text) (are_apart key text (ap (bytes_eq text) is ∙ other)) ∙ sym (or_none (spot_in m text))

-- a new name gets the spot
pub added_spot : {S : Type 0} (m n : HashMap Owned Spot S) (key : Owned) (name : Text) (spot : Spot) → key.items ≡ name → is_some (spot_in m name) ≡ false
    → UpdatesBy same_key (same_key key) m n (Some spot) → (text : Text) → spot_in n text ≡ or_else (spot_in m text) (if bytes_eq text name then Some spot else None)
added_spot m n key name spot is new updates text = added_by m n key name spot is new updates text (bytes_eq text name) refl

variable_by : (text : Text) (i : ℕ) (vs : List VariableEntry) (k e o z : ℕ) (now more total : Option Spot) (v : VariableEntry) (b : Bool) → bytes_eq text v.name ≡ b
    → k < length vs → v ≡ get_or vs k v → o ≡ bounded (offset_of e v) → z ≡ bounded (o + natural v.size)
    → more ≡ or_else now (if b then Some (record { partition = i; offset = o }) else None)
    → or_else now (spot_at i (offset_named text e (drop k vs))) ≡ total → or_else more (spot_at i (offset_named text z (drop (k + 1) vs))) ≡ total
variable_by text i vs k e o z now more total v true same lt at is ends put so_far =
    let here : Some o ≡ offset_named text e (drop k vs) = named_here text vs k e o (offset_named text e (drop k vs)) v lt at is same refl in
    ap (λ (found : Option Spot). or_else found (spot_at i (offset_named text z (drop (k + 1) vs)))) put
    ∙ or_or now (Some (record { partition = i; offset = o })) (spot_at i (offset_named text z (drop (k + 1) vs)))
    ∙ ap (λ (r : Option ℕ). or_else now (spot_at i r)) here ∙ so_far
variable_by text i vs k e o z now more total v false other lt at is ends put so_far =
    let step : offset_named text z (drop (k + 1) vs) ≡ offset_named text e (drop k vs) = named_step text vs k e o z (offset_named text e (drop k vs)) v lt at is ends other refl in
    ap (λ (found : Option Spot). or_else found (spot_at i (offset_named text z (drop (k + 1) vs)))) (put ∙ or_none now)
    ∙ ap (λ (r : Option ℕ). or_else now (spot_at i r)) step ∙ so_far

pub variable_step : (text : Text) (i : ℕ) (vs : List VariableEntry) (k e o z : ℕ) (now more total : Option Spot) (v : VariableEntry) → k < length vs → v ≡ get_or vs k v
    → o ≡ bounded (offset_of e v) → z ≡ bounded (o + natural v.size) → more ≡ or_else now (if bytes_eq text v.name then Some (record { partition = i; offset = o }) else None)
    → or_else now (spot_at i (offset_named text e (drop k vs))) ≡ total → or_else more (spot_at i (offset_named text z (drop (k + 1) vs))) ≡ total
variable_step text i vs k e o z now more total v = variable_by text i vs k e o z now more total v (bytes_eq text v.name) refl

pub partition_step : (text : Text) (ps : List PartitionEntry) (k : ℕ) (now more total : Option Spot) (p : PartitionEntry) → k < length ps → p ≡ get_or ps k p
    → more ≡ or_else now (spot_at k (offset_named text 0 (variables_of p.contents)))
    → or_else now (spot_of text k (drop k ps)) ≡ total → or_else more (spot_of text (k + 1) (drop (k + 1) ps)) ≡ total
partition_step text ps k now more total p lt at put so_far =
    ap (λ (found : Option Spot). or_else found (spot_of text (k + 1) (drop (k + 1) ps))) put
    ∙ or_or now (spot_at k (offset_named text 0 (variables_of p.contents))) (spot_of text (k + 1) (drop (k + 1) ps))
    ∙ ap (λ rest. or_else now (spot_of text k rest)) (sym (cut_at ps k p lt at)) ∙ so_far

-- ---- which names have spots

if_some : (b : Bool) (x : ℕ) (r : Option ℕ) → is_some (if b then Some x else r) ≡ (b || is_some r)
if_some true x r = refl
if_some false x r = refl

at_some : (i : ℕ) (o : Option ℕ) → is_some (spot_at i o) ≡ is_some o
at_some i None = refl
at_some i (Some x) = refl

named_among : (name : Text) (e : ℕ) (vs : List VariableEntry) → is_some (offset_named name e vs) ≡ is_among name (map (λ (v : VariableEntry). v.name) vs)
named_among name e [] = refl
named_among name e (v ∷ vs) =
    if_some (bytes_eq name v.name) (bounded (offset_of e v)) (offset_named name (end_of e v) vs) ∙ ap (λ (r : Bool). bytes_eq name v.name || r) (named_among name (end_of e v) vs)

pub names_found : (name : Text) (i : ℕ) (ps : List PartitionEntry) → is_some (spot_of name i ps) ≡ names_variable ps name
names_found name i [] = refl
names_found name i (p ∷ ps) =
    some_or (spot_at i (offset_named name 0 (variables_of p.contents))) (spot_of name (i + 1) ps)
    ∙ ap (λ (r : Bool). r || is_some (spot_of name (i + 1) ps)) (at_some i (offset_named name 0 (variables_of p.contents)) ∙ named_among name 0 (variables_of p.contents))
    ∙ ap (λ (r : Bool). is_among name (variable_names p) || r) (names_found name (i + 1) ps)

-- ---- the addresses of spots

-- the spot is in the i-th partition or behind it
abbrev StandsFrom : ℕ → Option Spot → Type 0
StandsFrom i None = i ≤ i
StandsFrom i (Some spot) = i ≤ spot.partition

from_or : (i : ℕ) (a b : Option Spot) → StandsFrom i a → StandsFrom i b → StandsFrom i (or_else a b)
from_or i None b h k = k
from_or i (Some spot) b h k = h

from_less : (i : ℕ) (a : Option Spot) → StandsFrom (i + 1) a → StandsFrom i a
from_less i None h = omega arith
from_less i (Some spot) h = omega (arith, h)

from_at : (i : ℕ) (o : Option ℕ) → StandsFrom i (spot_at i o)
from_at i None = omega arith
from_at i (Some x) = omega arith

from_of : (name : Text) (i : ℕ) (ps : List PartitionEntry) → StandsFrom i (spot_of name i ps)
from_of name i [] = omega arith
from_of name i (p ∷ ps) =
    from_or i (spot_at i (offset_named name 0 (variables_of p.contents))) (spot_of name (i + 1) ps) (from_at i (offset_named name 0 (variables_of p.contents)))
    (from_less i (spot_of name (i + 1) ps) (from_of name (i + 1) ps))

-- the address at an offset in a partition that may not be there
abbrev pub addr_in : Option Partition → ℕ → ℕ
addr_in None offset = RODATA
addr_in (Some q) offset = (q.range.start.0 + offset) % 2 ^ 32

-- the address of a spot among the partitions from the i-th on
abbrev pub addr_of : List Partition → ℕ → Option Spot → ℕ
addr_of qs i None = RODATA
addr_of qs i (Some spot) = addr_in (slice_get qs (spot.partition - i)) spot.offset

nowhere : (i : ℕ) (found : Option Spot) → RODATA ≡ addr_of [] i found
nowhere i None = refl
nowhere i (Some spot) = refl

addr_behind : (q : Partition) (qs : List Partition) (i : ℕ) (found : Option Spot) → StandsFrom (i + 1) found → addr_of qs (i + 1) found ≡ addr_of (q ∷ qs) i found
addr_behind q qs i None h = refl
addr_behind q qs i (Some spot) h =
    let less : spot.partition - i ≡ suc (spot.partition - (i + 1)) = omega (arith, h) in
    ap (λ (k : ℕ). addr_in (slice_get (q ∷ qs) k) spot.offset) (sym less)

addr_by : (name : Text) (q : Partition) (qs : List Partition) (ps : List PartitionEntry) (i : ℕ) (o : Option ℕ) → variable_addr name qs ps ≡ addr_of qs (i + 1) (spot_of name (i + 1) ps)
    → addr_at q.range.start.0 o (variable_addr name qs ps) ≡ addr_of (q ∷ qs) i (or_else (spot_at i o) (spot_of name (i + 1) ps))
addr_by name q qs ps i None ih = ih ∙ addr_behind q qs i (spot_of name (i + 1) ps) (from_of name (i + 1) ps)
addr_by name q qs ps i (Some x) ih =
    let none : i - i ≡ 0 = omega arith in ap (λ (k : ℕ). addr_in (slice_get (q ∷ qs) k) x) (sym none)

addr_from : (name : Text) (qs : List Partition) (ps : List PartitionEntry) (i : ℕ) → variable_addr name qs ps ≡ addr_of qs i (spot_of name i ps)
addr_from name [] ps i = nowhere i (spot_of name i ps)
addr_from name (q ∷ qs) [] i = refl
addr_from name (q ∷ qs) (p ∷ ps) i = addr_by name q qs ps i (offset_named name 0 (variables_of p.contents)) (addr_from name qs ps (i + 1))

at_none : (n : ℕ) → n - 0 ≡ n
at_none n = omega arith

pub addr_nowhere : (name : Text) (qs : List Partition) (ps : List PartitionEntry) → None ≡ spot_of name 0 ps → RODATA ≡ variable_addr name qs ps
addr_nowhere name qs ps is = ap (addr_of qs 0) is ∙ sym (addr_from name qs ps 0)

pub addr_found : (name : Text) (qs : List Partition) (ps : List PartitionEntry) (spot : Spot) (q : Option Partition) → q ≡ slice_get qs spot.partition → Some spot ≡ spot_of name 0 ps
    → addr_in q spot.offset ≡ variable_addr name qs ps
addr_found name qs ps spot q there is =
    ap (λ (p : Option Partition). addr_in p spot.offset) (there ∙ ap (slice_get qs) (sym (at_none spot.partition))) ∙ ap (addr_of qs 0) is ∙ sym (addr_from name qs ps 0)

below : (i n : ℕ) → true ≡ nat_lt i n → i < n
below i n h = grind (arith, nat_tests)

not_below : (i n : ℕ) → false ≡ nat_lt i n → n ≤ i
not_below i n h = grind (arith, nat_tests)

-- an element that is there, and one that isn't
pub there : (qs : List Partition) (i : ℕ) (q : Partition) → true ≡ nat_lt i (length qs) → q ≡ get_or qs i q → Some q ≡ slice_get qs i
there qs i q inside is = sym (slice_get_read qs (length qs) i q refl (below i (length qs) inside) is)

pub missing : (qs : List Partition) (i : ℕ) → false ≡ nat_lt i (length qs) → None ≡ slice_get qs i
missing qs i outside = sym (slice_get_past qs i (not_below i (length qs) outside))
