-- A layout, from entries in order that stand one after another.
use Rattle.std.proofs.Common.{◌≡◌, inl, inr, ℕ, zero, suc, ◌+◌, ◌%◌, ◌<◌, ◌≤◌, List, [], ◌∷◌, length, take, map, get_or, slice_index, IsTrue, refl, sym, ap, ◌∙◌, sum, arith}
use Rattle.std.specs.List.{All, range_with_len}
use Rattle.std.specs.List.Sorted.{IsPermutation}
use Rattle.std.proofs.lemmas.Bool.{cases_lt}
use Rattle.std.proofs.lemmas.Bool.Decides.{nat_tests}
use Rattle.std.proofs.lemmas.List.{ext_get_or, get_or_default, get_or-map, length-map}
use Rattle.std.proofs.lemmas.List.Elements.{Contains-get_or}
use Rattle.std.proofs.lemmas.List.FromFn.{length-range_with_len, get_or-range_with_len}
use Rattle.std.proofs.lemmas.List.Sums.{sum_by-cons}
use Rattle.std.proofs.lemmas.List.Sorted.{length_permutation, All-permutation, Contains-permutation, sum_by-IsPermutation, IsPermutation-map}
use Rattle.um_base.specs.declared.names.Mpu.{Mpu}
use Rattle.um_base.specs.declared.names.Range.{Range}
use Rattle.um_base.specs.Layout.{rounded, bytes_before, starts_from, starts}
use Rattle.um_base.specs.Lawful.{sizes_of, places_of, is_within}
use Rattle.um_layout.specs.Sizes.{IsGuarded, needed}
use Rattle.um_layout.specs.Standing.{AreApart, Adjoin, StandInOrder, IsLayout}
use Rattle.um_layout.specs.Entries.{AreEntriesOf, AreOrdered, AreDistinct, AreStanding, entry_at, bytes_of, range_of}
use Rattle.um_layout.specs.declared.entries.Entry.{Entry}
use Rattle.um_layout.proofs.Bytes.{numbered, are_numbered, bytes_before-ordered, bytes_mono}
use Rattle.um_layout.proofs.Stand.{bytes_more, bytes_more_le}
use Rattle.um_layout.proofs.Aligned.{aligned}

-- the entries of sizes, in the order of placing
pub record InOrder (mpu : Mpu) (asked : List ℕ) (xs ys : List Entry) : Type 0 where
  pub entries : AreEntriesOf mpu asked xs
  pub permutation : IsPermutation xs ys
  pub distinct : AreDistinct ys
  pub ordered : AreOrdered mpu ys

blank : Entry
blank = record { size = 0; number = 0 }

pub length_in_order : {mpu : Mpu} {asked : List ℕ} {xs ys : List Entry} → InOrder mpu asked xs ys → length ys ≡ length asked
length_in_order {xs = xs} {ys = ys} h = length_permutation xs ys h.permutation ∙ h.entries.len

-- each of them is the entry of its number
pub each_is : {mpu : Mpu} {asked : List ℕ} {xs ys : List Entry} → InOrder mpu asked xs ys → All (λ (e : Entry). (e.number < length asked) × (e ≡ entry_at mpu asked e.number)) ys
each_is {mpu = mpu} {asked = asked} {xs = xs} {ys = ys} h =
    All-permutation (λ (e : Entry). (e.number < length asked) × (e ≡ entry_at mpu asked e.number)) xs ys h.permutation
    (λ k d inside. rw (h.entries.each k d inside) (omega (arith, h.entries.len), refl))

bytes-numbered : (mpu : Mpu) (i : ℕ) (ns : List ℕ) → bytes_of (numbered mpu i ns) ≡ sum (map (rounded mpu) ns)
bytes-numbered mpu i [] = refl
bytes-numbered mpu i (n ∷ ns) =
    sum_by-cons (λ (e : Entry). e.size) (record { size = rounded mpu n; number = i }) (numbered mpu (i + 1) ns)
    ∙ ap (λ m. rounded mpu n + m) (bytes-numbered mpu (i + 1) ns) ∙ sym (sum_by-cons (λ x. x) (rounded mpu n) (map (rounded mpu) ns))

pub bytes_in_order : {mpu : Mpu} {asked : List ℕ} {xs ys : List Entry} → InOrder mpu asked xs ys → bytes_of ys ≡ needed mpu asked
bytes_in_order {mpu = mpu} {asked = asked} {xs = xs} {ys = ys} h =
    sum_by-IsPermutation (λ (e : Entry). e.size) xs ys h.permutation ∙ ap bytes_of (are_numbered mpu asked xs h.entries) ∙ bytes-numbered mpu 0 asked

-- where the i-th entry stands in the order, and its range
record Position (mpu : Mpu) (a : ℕ) (asked : List ℕ) (ys : List Entry) (ranges : List Range) (i : ℕ) : Type 0 where
  k : ℕ
  inside : k < length ys
  entry : get_or ys k blank ≡ entry_at mpu asked i
  range : (e : Range) → get_or ranges i e ≡ range_of a ys k blank

position : {mpu : Mpu} {asked : List ℕ} {xs ys : List Entry} (a : ℕ) (ranges : List Range) → InOrder mpu asked xs ys → AreStanding a ys ranges → (i : ℕ) → i < length asked → Position mpu a asked ys ranges i
position {mpu = mpu} {asked = asked} {xs = xs} {ys = ys} a ranges h standing i inside =
    let here : i < length xs = omega (arith, h.entries.len) in
    let found = Contains-permutation xs ys (get_or xs i blank) h.permutation (Contains-get_or xs i blank here) in
    let entry : get_or ys found.0 blank ≡ entry_at mpu asked i = get_or_default ys found.0 blank (get_or xs i blank) found.1 ∙ found.2 ∙ h.entries.each i blank here in
    record {
      k = found.0;
      inside = found.1;
      entry = entry;
      range = λ e. ap (λ (n : ℕ). get_or ranges n e) (sym (ap (λ (x : Entry). x.number) entry)) ∙ standing.each found.0 blank e found.1;
    }

-- each range by its number: its start, and its size
range_at : {mpu : Mpu} {asked : List ℕ} {xs ys : List Entry} (a : ℕ) (ranges : List Range) → InOrder mpu asked xs ys → AreStanding a ys ranges → (i : ℕ) (e : Range) → i < length asked
    → get_or ranges i e ≡ record { start = record { 0 = a + bytes_before mpu (map (rounded mpu) asked) 0 (rounded mpu (slice_index asked i)) i }; size = rounded mpu (slice_index asked i) }
range_at {mpu = mpu} {asked = asked} {xs = xs} {ys = ys} a ranges h standing i e inside =
    let p = position a ranges h standing i inside in
    let bytes = bytes_before-ordered mpu asked xs ys p.k blank h.entries h.permutation h.ordered p.inside in
    p.range e ∙ ap (λ (n : ℕ). record { start = record { 0 = a + n }; size = (get_or ys p.k blank).size }) (sym bytes)
    ∙ ap (λ (x : Entry). record { start = record { 0 = a + bytes_before mpu (map (rounded mpu) asked) 0 x.size x.number }; size = x.size }) p.entry

no_range : Range
no_range = record { start = record { 0 = 0 }; size = 0 }

get_or-rounded : (mpu : Mpu) (asked : List ℕ) (i : ℕ) → i < length asked → get_or (map (rounded mpu) asked) i 0 ≡ rounded mpu (slice_index asked i)
get_or-rounded mpu asked i inside = get_or-map (rounded mpu) asked i 0 0 inside

length_ranges : {mpu : Mpu} {asked : List ℕ} {xs ys : List Entry} (a : ℕ) (ranges : List Range) → InOrder mpu asked xs ys → AreStanding a ys ranges → length ranges ≡ length asked
length_ranges a ranges h standing = standing.len ∙ length_in_order h

sizes_are : {mpu : Mpu} {asked : List ℕ} {xs ys : List Entry} (a : ℕ) (ranges : List Range) → InOrder mpu asked xs ys → AreStanding a ys ranges → sizes_of ranges ≡ map (rounded mpu) asked
sizes_are {mpu = mpu} {asked = asked} a ranges h standing =
    let n = length_ranges a ranges h standing in
    ext_get_or 0 (sizes_of ranges) (map (rounded mpu) asked) (length-map ranges (λ (r : Range). r.size) ∙ n ∙ sym (length-map asked (rounded mpu)))
    (λ i inside.
    let here : i < length asked = omega (arith, length-map ranges (λ (r : Range). r.size)) in
    get_or-map (λ (r : Range). r.size) ranges i no_range 0 (omega arith)
    ∙ ap (λ (r : Range). r.size) (range_at a ranges h standing i no_range here) ∙ sym (get_or-rounded mpu asked i here))

length-starts : (mpu : Mpu) (a : ℕ) (all ns : List ℕ) (j : ℕ) → length (starts_from mpu a all ns j) ≡ length ns
length-starts mpu a all [] j = refl
length-starts mpu a all (n ∷ ns) j = ap suc (length-starts mpu a all ns (j + 1))

get_or-starts : (mpu : Mpu) (a : ℕ) (all ns : List ℕ) (j i : ℕ) → i < length ns → get_or (starts_from mpu a all ns j) i 0 ≡ a + bytes_before mpu all 0 (get_or ns i 0) (j + i)
get_or-starts mpu a all [] j i h = absurd (omega arith)
get_or-starts mpu a all (n ∷ ns) j zero h = ap (λ m. a + bytes_before mpu all 0 n m) (omega arith)
get_or-starts mpu a all (n ∷ ns) j (suc i) h =
    get_or-starts mpu a all ns (j + 1) i (omega arith) ∙ ap (λ m. a + bytes_before mpu all 0 (get_or ns i 0) m) (omega arith)

places_are : {mpu : Mpu} {asked : List ℕ} {xs ys : List Entry} (a : ℕ) (ranges : List Range) → InOrder mpu asked xs ys → AreStanding a ys ranges → places_of ranges ≡ starts mpu a (sizes_of ranges)
places_are {mpu = mpu} {asked = asked} a ranges h standing =
    let n = length_ranges a ranges h standing in
    let all = map (rounded mpu) asked in
    let few : length (places_of ranges) ≡ length asked = length-map ranges (λ (r : Range). r.start.0) ∙ n in
    ext_get_or 0 (places_of ranges) (starts mpu a all) (few ∙ sym (length-starts mpu a all all 0 ∙ length-map asked (rounded mpu)))
    (λ i inside.
    let here : i < length asked = omega arith in
    let there : i < length all = omega (arith, length-map asked (rounded mpu)) in
    get_or-map (λ (r : Range). r.start.0) ranges i no_range 0 (omega arith)
    ∙ ap (λ (r : Range). r.start.0) (range_at a ranges h standing i no_range here)
    ∙ ap (λ m. a + bytes_before mpu all 0 m i) (sym (get_or-rounded mpu asked i here))
    ∙ ap (λ m. a + bytes_before mpu all 0 (get_or all i 0) m) (omega arith) ∙ sym (get_or-starts mpu a all all 0 i there))
    ∙ ap (starts mpu a) (sym (sizes_are a ranges h standing))

-- each entry has a size that the unit guards
guarded_in_order : {mpu : Mpu} {asked : List ℕ} {xs ys : List Entry} → InOrder mpu asked xs ys → All (λ (e : Entry). IsGuarded mpu e.size × (e.size ≤ 65536)) ys
guarded_in_order {mpu = mpu} {asked = asked} {xs = xs} {ys = ys} h k d inside =
    let e = each_is h k d inside in
    rw e.1 ((h.entries.least (get_or ys k d).number e.0).guarded, h.entries.small (get_or ys k d).number e.0)

end_before : (a : ℕ) (ys : List Entry) (k l : ℕ) (d : Entry) → k < l → l < length ys → (a + bytes_of (take k ys)) + (get_or ys k d).size ≤ a + bytes_of (take l ys)
end_before a ys k l d less inside = omega (arith, bytes_more ys k d (omega arith), bytes_mono ys (k + 1) l (omega arith))

apart : {mpu : Mpu} {asked : List ℕ} {xs ys : List Entry} (a : ℕ) (ranges : List Range) → InOrder mpu asked xs ys → AreStanding a ys ranges
    → (i j : ℕ) (d : Range) → i < j → j < length asked → AreApart (get_or ranges i d) (get_or ranges j d)
apart {mpu = mpu} {asked = asked} {xs = xs} {ys = ys} a ranges h standing i j d less inside =
    let p = position a ranges h standing i (omega arith) in
    let q = position a ranges h standing j inside in
    rw (p.range d, q.range d)
    (elim (cases_lt p.k q.k) [
      | inl first ↦ inl (end_before a ys p.k q.k blank first q.inside)
      | inr other ↦ elim (cases_lt q.k p.k) [
        | inl second ↦ inr (end_before a ys q.k p.k blank second p.inside)
        | inr same ↦
            let e : p.k ≡ q.k = omega arith in
            let n : i ≡ j = ap (λ (x : Entry). x.number) (sym p.entry ∙ ap (λ (k : ℕ). get_or ys k blank) e ∙ q.entry) in
            absurd (omega arith)
      ]
    ])

-- ranges adjoin that stand in their places
adjoin_from : (ranges : List Range) (b : ℕ) (zs : List Entry)
    → ((k : ℕ) (d : Entry) (e : Range) → k < length zs → get_or ranges (get_or zs k d).number e ≡ range_of b zs k d)
    → All (λ (z : Entry). z.number < length ranges) zs → Adjoin ranges b (map (λ (z : Entry). z.number) zs)
adjoin_from ranges b [] each within = tt
adjoin_from ranges b (z ∷ zs) each within =
    let size : slice_index (sizes_of ranges) z.number ≡ z.size =
    get_or-map (λ (r : Range). r.size) ranges z.number no_range 0 (within 0 z (omega arith)) ∙ ap (λ (r : Range). r.size) (each 0 z no_range (omega arith)) in (
      λ d. ap (λ (r : Range). r.start.0) (each 0 z d (omega arith)) ∙ omega arith,
      rw size (adjoin_from ranges (b + z.size) zs
          (λ k d e inside. each (suc k) d e (omega arith) ∙ ap (λ (n : ℕ). record { start = record { 0 = n }; size = (get_or zs k d).size }) (omega (arith, sum_by-cons (λ (x : Entry). x.size) z (take k zs))))
          (λ k d inside. within (suc k) d (omega arith))),
    )

numbers_are : {mpu : Mpu} {asked : List ℕ} {xs ys : List Entry} → InOrder mpu asked xs ys → map (λ (e : Entry). e.number) xs ≡ range_with_len 0 (length asked)
numbers_are {mpu = mpu} {asked = asked} {xs = xs} h =
    ext_get_or 0 (map (λ (e : Entry). e.number) xs) (range_with_len 0 (length asked)) (length-map xs (λ (e : Entry). e.number) ∙ h.entries.len ∙ sym (length-range_with_len 0 (length asked)))
    (λ i inside.
    let here : i < length xs = omega (arith, length-map xs (λ (e : Entry). e.number)) in
    get_or-map (λ (e : Entry). e.number) xs i blank 0 here ∙ ap (λ (e : Entry). e.number) (h.entries.each i blank here)
    ∙ omega (arith, get_or-range_with_len 0 (length asked) i 0 (omega (arith, h.entries.len))))

in_order : {mpu : Mpu} {asked : List ℕ} {xs ys : List Entry} (a : ℕ) (ranges : List Range) → InOrder mpu asked xs ys → AreStanding a ys ranges → StandInOrder mpu a ranges
in_order {mpu = mpu} {asked = asked} {xs = xs} {ys = ys} a ranges h standing =
    let n = length_ranges a ranges h standing in
    let number : Entry → ℕ = λ (e : Entry). e.number in
    let size_at : (k : ℕ) → k < length ys → slice_index (sizes_of ranges) (get_or ys k blank).number ≡ (get_or ys k blank).size =
    λ k inside. get_or-map (λ (r : Range). r.size) ranges (get_or ys k blank).number no_range 0 (omega (arith, (each_is h k blank inside).0))
    ∙ ap (λ (r : Range). r.size) (standing.each k blank no_range inside) in
    record {
      order = map number ys;
      all_once = rw (n, ← numbers_are h) (IsPermutation-map number xs ys h.permutation);
      ordered = λ i j less inside.
          let last : j < length ys = omega (arith, length-map ys number) in
          rw (get_or-map number ys i blank 0 (omega arith), get_or-map number ys j blank 0 last, size_at i (omega arith), size_at j last) (h.ordered i j blank less last);
      adjoin = adjoin_from ranges a ys standing.each (λ k d inside. omega (arith, (each_is h k d inside).0));
    }

pub laid : {mpu : Mpu} {asked : List ℕ} {xs ys : List Entry} (area : Range) (ranges : List Range) → InOrder mpu asked xs ys → AreStanding area.start.0 ys ranges
    → area.start.0 % 65536 ≡ 0 → needed mpu asked ≤ area.size → IsLayout mpu area asked ranges
laid {mpu = mpu} {asked = asked} {xs = xs} {ys = ys} area ranges h standing aligned_area room =
    let a = area.start.0 in
    let n = length_ranges a ranges h standing in
    let total = bytes_in_order h in
    record {
      sizes = sizes_are a ranges h standing;
      places = places_are a ranges h standing;
      room = rw (sizes_are a ranges h standing) room;
      lawful = λ i d inside.
          let p = position a ranges h standing i (omega arith) in
          rw (p.range d) (record {
            guarded = (guarded_in_order h p.k blank p.inside).0;
            aligned = aligned mpu a ys blank (guarded_in_order h) h.ordered aligned_area p.k p.inside;
          });
      least = λ i d inside. rw (range_at a ranges h standing i d (omega arith)) (h.entries.least i (omega arith));
      within = λ i d inside.
          let p = position a ranges h standing i (omega arith) in
          rw (p.range d) (omega arith, omega (arith, bytes_more_le ys p.k blank p.inside));
      disjoint = λ i j d less inside. apart a ranges h standing i j d less (omega arith);
      in_order = in_order a ranges h standing;
    }

at_least_one : (n : ℕ) → IsTrue (is_within 1 65536 n) → 1 ≤ n
at_least_one n h = grind (arith, nat_tests)

pub some_bytes : {mpu : Mpu} {asked : List ℕ} {xs ys : List Entry} → InOrder mpu asked xs ys → All (λ n. IsTrue (is_within 1 65536 n)) asked → All (λ (e : Entry). 1 ≤ e.size) ys
some_bytes {mpu = mpu} {asked = asked} {xs = xs} {ys = ys} h within k d inside =
    let e = each_is h k d inside in
    let i = (get_or ys k d).number in
    let enough = (h.entries.least i (omega (arith, h.entries.len))).enough in
    let some = at_least_one (slice_index asked i) (within i 0 e.0) in
    rw e.1 (omega arith)
