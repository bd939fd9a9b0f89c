-- The opening state of an image is reached, and its pairs come from the boot entries.
use Rattle.um_invariants.proofs.Facts.{lively, is_standing, both_of, either_left, either_right, both, itself, less_is}
use Rattle.um_base.specs.declared.names.Kind.{Kind}
use Rattle.um_invariants.proofs.Claimed.{claimed_pairs}
use Rattle.um_invariants.proofs.Claims.{IsReal, IsStackRow}
use Rattle.um_invariants.proofs.BootClaims.{replicate_at, many_from, idle_blank, init_blank, claimed_blank, claimed_boot}
use Rattle.std.proofs.Common.{◌≡◌, inl, inr, ℕ, zero, suc, ◌+◌, ◌-◌, ◌<◌, ◌≤◌, Bool, true, false, ◌==◌, ◌&&◌, nat_lt, List, [], ◌∷◌, length, map, replicate, refl, sym, ap, subst, ◌∙◌, None, slice_index_or, slice_get, arith, IsTrue, Option, Some}
use Rattle.std.specs.List.{list_all, list_any}
use Rattle.std.proofs.lemmas.Bool.Decides.{nat_tests}
use Rattle.std.proofs.lemmas.Bool.{cases_lt}
use Rattle.um_base.specs.declared.image.Boot.{Boot}
use Rattle.um_base.specs.declared.image.Image.{Image}
use Rattle.um_base.specs.declared.image.ObjectDef.{ObjectDef}
use Rattle.um_base.specs.declared.image.Partition.{Partition}
use Rattle.um_base.specs.declared.limits.TheConstants.{STATIC_ROWS, ROWS, THREADS}
use Rattle.um_base.specs.declared.names.Row.{Row}
use Rattle.um_base.specs.Lawful.{IsLawful, is_lawful_boot, object_passes, is_thread, is_stack}
use Rattle.um_base.specs.Places.{thread_of_row, own_row}
use Rattle.um_machine.specs.declared.object.Status.{Status}
use Rattle.um_machine.specs.Objects.{is_live, is_free}
use Rattle.um_machine.specs.Run.{blank, loaded, booted, booted_one, granted, boot_thread, index_or, opening, objects_from, boots_row}
use Rattle.um_machine.specs.State.{State, vacant, with_thread, with_pair}
use Rattle.um_machine.specs.Memory.{with_bytes}
use Rattle.um_invariants.specs.Acts.{boots}
use Rattle.um_invariants.proofs.Cores.{Call, Core, status_of, core_of, idle, call_at, status_at, has_pair, with_call, core-thread, map_at, at_set, init_at}
use Rattle.um_invariants.proofs.Guards.{IsRow, IsSited, Guarded, bearing, behind_birth, kind_in}
use Rattle.um_invariants.proofs.Moves.{IsReached, IsClaimed}
use Rattle.um_invariants.proofs.Turns.{core-bytes, IsKnown}
use Rattle.um_invariants.proofs.Reached.{reached_seat, reached_ends, no_checked, pair_set}

statuses_from : (bs : List Boot) (x : ℕ) (os : List ObjectDef) (y : ℕ) → y < length os → slice_index_or (map status_of (objects_from bs x os)) y Status.Free ≡ Status.Live
statuses_from bs x [] y h = absurd (omega (arith, h))
statuses_from bs x (o ∷ os) zero h = refl
statuses_from bs x (o ∷ os) (suc y) h = statuses_from bs (x + 1) os y (omega (arith, h))

free_from : (bs : List Boot) (x : ℕ) (os : List ObjectDef) (y : ℕ) → length os ≤ y → slice_index_or (map status_of (objects_from bs x os)) y Status.Free ≡ Status.Free
free_from bs x [] y h = map_at status_of (replicate (ROWS - x) vacant) y vacant ∙ ap status_of (replicate_at (ROWS - x) y vacant)
free_from bs x (o ∷ os) zero h = absurd (omega (arith, h))
free_from bs x (o ∷ os) (suc y) h = free_from bs (x + 1) os y (omega (arith, h))

-- before anybody is started no pair is there
no_pair : (image : Image) (u x : ℕ) → has_pair (core_of (blank image)) u x ≡ false
unfolding blank
no_pair image u x = pair_in u x ROWS THREADS
  where
    pair_in : (u x n m : ℕ) → slice_index_or (slice_index_or (replicate n (replicate m false)) x []) u false ≡ false
    pair_in u x zero m = refl
    pair_in u zero (suc n) m = replicate_at m u false
    pair_in u (suc x) (suc n) m = pair_in u x n m

status_blank : (image : Image) (x : ℕ) → x < length image.objects → status_at (core_of (blank image)) x ≡ Status.Live
unfolding blank
status_blank image x h = statuses_from image.boots 0 image.objects x h

status_free : (image : Image) (x : ℕ) → length image.objects ≤ x → status_at (core_of (blank image)) x ≡ Status.Free
unfolding blank
status_free image x h = free_from image.boots 0 image.objects x h

many_blank : (image : Image) → length image.objects ≤ STATIC_ROWS → length (core_of (blank image)).statuses ≡ ROWS
unfolding blank
many_blank image few = many_from status_of image.boots 0 image.objects (omega (arith, few))

image_blank : (image : Image) → (blank image).image ≡ image
unfolding blank
image_blank image = refl

reached_blank : (image : Image) → IsSited image → IsReached (core_of (blank image))
unfolding blank
reached_blank image sited =
    record {
      sited = sited;
      rows = many_blank image sited.few;
      wide = λ u. ap (λ (call : Call). length call.checked) (idle_blank image u);
      guarded = λ u. subst (λ (call : Call). Guarded image call.checked (behind_birth call.pending)) (sym (idle_blank image u)) tt;
      standing = λ u x h. no_checked x (subst (λ (call : Call). slice_index_or call.checked x false ≡ true) (idle_blank image u) h);
      living = λ u x h. let none = no_pair image u x in cc;
      static = λ x h. ap is_live (status_blank image x h);
      used = λ x h.
          elim (cases_lt x (length image.objects)) as (λ _. IsRow image x) [
            | inl less ↦ inl less
            | inr more ↦ let free : is_free (status_at (core_of (blank image)) x) ≡ true = ap is_free (status_free image x more) in cc
          ];
      reserved = λ u a h. let none : bearing (call_at (core_of (blank image)) u).pending ≡ None = ap (λ (call : Call). bearing call.pending) (idle_blank image u) in cc;
      alone = λ u v a h k. let none : bearing (call_at (core_of (blank image)) u).pending ≡ None = ap (λ (call : Call). bearing call.pending) (idle_blank image u) in cc;
    }

pub core-loaded : (ps : List Partition) (s : State) → core_of (loaded ps s) ≡ core_of s
core-loaded [] s = refl
core-loaded (p ∷ ps) s = core-loaded ps (with_bytes s p.range.start.0 p.bytes) ∙ core-bytes s p.range.start.0 p.bytes

-- a state on the way to the opening one, whose pairs are of this sort
record IsBooting (image : Image) (P : ℕ → ℕ → Type 0) (s : State) : Type 0 where
  image_is : s.image ≡ image
  reached : IsReached (core_of s)
  claimed : IsClaimed (core_of s)
  quiet : (u : ℕ) → (call_at (core_of s) u).pending ≡ []
  statuses_are : (core_of s).statuses ≡ (core_of (blank image)).statuses
  inits_are : (core_of s).inits ≡ (core_of (blank image)).inits
  from : (u x : ℕ) → has_pair (core_of s) u x ≡ true → P u x

abbrev IsMeant : (ℕ → ℕ → Type 0) → ℕ → List Row → Type 0
IsMeant P t xs = (x : ℕ) → list_any (λ (y : Row). y.0 == x) xs ≡ true → P t x

booting_granted : (image : Image) (P : ℕ → ℕ → Type 0) (t : ℕ) (xs : List Row) (s : State) → IsBooting image P s → list_all (λ (x : Row). nat_lt x.0 (length image.objects)) xs ≡ true → IsMeant P t xs
    → IsBooting image P (granted t xs s)
booting_granted image P t [] s b within meant = b
booting_granted image P t (x ∷ xs) s b within meant =
    let (here, later) = both_of (nat_lt x.0 (length image.objects)) _ within in
    let small : x.0 < length s.image.objects = subst (λ (i : Image). x.0 < length i.objects) (sym b.image_is) (grind (arith, nat_tests)) in
    booting_granted image P t xs (with_pair s t x.0 true)
    (record {
      image_is = b.image_is;
      statuses_are = b.statuses_are;
      inits_are = b.inits_are;
      claimed = claimed_pairs (core_of s) _ b.claimed;
      quiet = b.quiet;
      reached = reached_seat (core_of s) t x.0 true b.reached (λ k. b.reached.static x.0 small);
      from = pair_set (λ u y there. there ≡ true → P u y) (core_of s) t x.0 true (λ k. meant x.0 (either_left (x.0 == x.0) _ (itself x.0))) b.from;
    })
    later (λ y k. meant y (either_right (x.0 == y) _ k))

pub boot_parts : (a b c d e f g : Bool) → IsTrue (a && b && c && d && e && f && g) → (a ≡ true) × (g ≡ true) × (b ≡ true)
boot_parts true true true true true true true h = (refl, refl, refl)
boot_parts true true true true true true false h = cc
boot_parts true true true true true false g h = cc
boot_parts true true true true false f g h = cc
boot_parts true true true false e f g h = cc
boot_parts true true false d e f g h = cc
boot_parts true false c d e f g h = cc
boot_parts false b c d e f g h = cc

pub passes_within : (p : ObjectDef → Bool) (xs : List ObjectDef) (n : ℕ) → object_passes p (slice_get xs n) ≡ true → n < length xs
passes_within p [] n h = cc
passes_within p (x ∷ xs) zero h = omega arith
passes_within p (x ∷ xs) (suc n) h = let later = passes_within p xs n h in omega (arith, later)

kind_passes : (p : ObjectDef → Bool) (o : Option ObjectDef) (x : ℕ) (k : Kind) → ((o : ObjectDef) → p o ≡ true → o.kind ≡ k) → object_passes p o ≡ true → kind_in o x ≡ k
kind_passes p None x k only h = cc
kind_passes p (Some o) x k only h = only o h

is_thread_kind : (k : Kind) → is_thread k ≡ true → k ≡ Kind.Thread
is_thread_kind Kind.Thread h = refl
is_thread_kind _ h = cc

is_stack_kind : (k : Kind) → is_stack k ≡ true → k ≡ Kind.ThreadStack
is_stack_kind Kind.ThreadStack h = refl
is_stack_kind _ h = cc

-- the thread of a boot entry: its index, and its stack
pub record IsBoot (image : Image) (boot : Boot) : Type 0 where
  pub inside : boot.thread.0 < length image.objects
  pub real : IsReal image (index_or (thread_of_row image boot.thread.0))
  pub own : own_row image (index_or (thread_of_row image boot.thread.0)) ≡ boot.thread.0
  pub stack : IsStackRow image boot.stack.0

pub is_boot : (image : Image) → IsSited image → (boot : Boot) → object_passes (λ o. is_thread o.kind) (slice_get image.objects boot.thread.0) ≡ true → object_passes (λ o. is_stack o.kind) (slice_get image.objects boot.stack.0) ≡ true
    → IsBoot image boot
is_boot image sited boot one two =
    let x = boot.thread.0 in
    let inside = passes_within _ image.objects x one in
    let within = passes_within _ image.objects boot.stack.0 two in
    let (w, thread, own) = sited.threads x (inl inside) (kind_passes _ (slice_get image.objects x) x Kind.Thread (λ o h. is_thread_kind o.kind h) one) in
    let index : index_or (thread_of_row image x) ≡ w = ap index_or thread in
    record {
      inside = inside;
      own = ap (own_row image) index ∙ own;
      real = subst (λ (n : ℕ). IsReal image n) (sym index) (subst (λ (y : ℕ). IsRow image y) (sym own) (inl inside), ap (thread_of_row image) own ∙ thread);
      stack = (inl within, sited.stacks boot.stack.0 (inl within) (kind_passes _ (slice_get image.objects boot.stack.0) boot.stack.0 Kind.ThreadStack (λ o h. is_stack_kind o.kind h) two));
    }

booting_one : (image : Image) (P : ℕ → ℕ → Type 0) (boot : Boot) (s : State) → IsBooting image P s → IsTrue (is_lawful_boot image boot) → ((u x : ℕ) → boots image u x boot ≡ true → P u x)
    → list_any (boots_row boot.thread.0) image.boots ≡ true → IsBooting image P (booted_one boot s)
booting_one image P boot s b lawful meant named =
    let t = index_or (thread_of_row image boot.thread.0) in
    let s1 = with_thread s t (boot_thread s.image boot) in
    let child : Call = record idle { keeps = true; living = true; stack = boot.stack.0 } in
    let parts = boot_parts _ _ _ _ _ _ _ lawful in
    let sited : IsSited image = subst (λ (i : Image). IsSited i) b.image_is b.reached.sited in
    let k = is_boot image sited boot parts.0 parts.2 in
    let back = λ (P : Image → Type 0) (h : P image). subst P (sym b.image_is) h in
    let inside = k.inside in
    let e : core_of s1 ≡ with_call (core_of s) t child = core-thread s (core_of s) t (boot_thread s.image boot) child refl refl in
    let marked : init_at (core_of s) (own_row image t) ≡ true =
    ap (λ (y : ℕ). init_at (core_of s) y) k.own ∙ ap (λ (inits : List Bool). slice_index_or inits boot.thread.0 false) b.inits_are ∙ init_blank image boot.thread.0 named inside in
    let stands : is_standing (status_at (core_of s) (own_row image t)) ≡ true =
    ap (λ (y : ℕ). is_standing (status_at (core_of s) y)) k.own
    ∙ lively (status_at (core_of s) boot.thread.0) (b.reached.static boot.thread.0 (subst (λ (i : Image). boot.thread.0 < length i.objects) (sym b.image_is) inside)) in
    let b1 : IsBooting image P s1 = record {
      image_is = b.image_is;
      reached = subst (λ (c : Core). IsReached c) (sym e) (reached_ends (core_of s) t child b.reached refl tt);
      claimed = subst (λ (c : Core). IsClaimed c) (sym e)
          (claimed_boot (core_of s) t boot.stack.0 b.claimed b.quiet (back (λ i. IsReal i t) k.real) (back (λ i. init_at (core_of s) (own_row i t) ≡ true) marked)
          (back (λ i. is_standing (status_at (core_of s) (own_row i t)) ≡ true) stands) (back (λ i. IsStackRow i boot.stack.0) k.stack));
      quiet = subst (λ (c : Core). (u : ℕ) → (call_at c u).pending ≡ []) (sym e) (λ u. at_set (λ n (cl : Call). cl.pending ≡ []) (core_of s).calls t u child idle refl (b.quiet u));
      statuses_are = b.statuses_are;
      inits_are = b.inits_are;
      from = b.from;
    } in
    subst (λ (i : Image). IsBooting image P (granted (index_or (thread_of_row i boot.thread.0)) (boot.thread ∷ boot.grants) (with_thread s (index_or (thread_of_row i boot.thread.0)) (boot_thread s.image boot))))
    (sym b.image_is)
    (booting_granted image P t (boot.thread ∷ boot.grants) s1 b1 (both (nat_lt boot.thread.0 (length image.objects)) _ (less_is boot.thread.0 (length image.objects) inside) parts.1)
    (λ x h. meant t x (both (t == t) _ (itself t) h)))

booting : (image : Image) (P : ℕ → ℕ → Type 0) (bs : List Boot) (s : State) → IsBooting image P s → IsTrue (list_all (is_lawful_boot image) bs) → ((u x : ℕ) → list_any (boots image u x) bs ≡ true → P u x)
    → ((x : ℕ) → list_any (boots_row x) bs ≡ true → list_any (boots_row x) image.boots ≡ true) → IsBooting image P (booted bs s)
booting image P [] s b lawful meant named = b
booting image P (boot ∷ bs) s b lawful meant named =
    let (here, later) = both_of (is_lawful_boot image boot) _ lawful in
    let first = named boot.thread.0 (either_left (boots_row boot.thread.0 boot) _ (either_left (boot.thread.0 == boot.thread.0) _ (itself boot.thread.0))) in
    booting image P bs (booted_one boot s) (booting_one image P boot s b here (λ u x h. meant u x (either_left (boots image u x boot) _ h)) first) later (λ u x h. meant u x (either_right (boots image u x boot) _ h))
    (λ x h. named x (either_right (boots_row x boot) _ h))

-- what the opening state is: its image, reached, with an origin for each pair and no dynamic object
pub record IsOpening (image : Image) : Type 0 where
  pub image_is : (opening image).image ≡ image
  pub known : IsKnown (core_of (opening image))
  pub owned : (u x : ℕ) → has_pair (core_of (opening image)) u x ≡ true → IsTrue (list_any (boots image u x) image.boots)
  pub fresh : (x : ℕ) → length image.objects ≤ x → status_at (core_of (opening image)) x ≡ Status.Free

pub is_opening : (image : Image) → IsSited image → IsLawful image → IsOpening image
is_opening image sited lawful =
    let P = λ (u x : ℕ). IsTrue (list_any (boots image u x) image.boots) in
    let e : core_of (loaded image.partitions (blank image)) ≡ core_of (blank image) = core-loaded image.partitions (blank image) in
    let first : IsBooting image P (loaded image.partitions (blank image)) = record {
      image_is = ap (λ (c : Core). c.image) e ∙ image_blank image;
      reached = subst (λ (c : Core). IsReached c) (sym e) (reached_blank image sited);
      claimed = subst (λ (c : Core). IsClaimed c) (sym e) (claimed_blank image sited.few);
      quiet = λ u. ap (λ (c : Core). (call_at c u).pending) e ∙ ap (λ (call : Call). call.pending) (idle_blank image u);
      statuses_are = ap (λ (c : Core). c.statuses) e;
      inits_are = ap (λ (c : Core). c.inits) e;
      from = λ u x h. let none : has_pair (core_of (loaded image.partitions (blank image))) u x ≡ false = ap (λ (c : Core). has_pair c u x) e ∙ no_pair image u x in cc;
    } in
    let b = booting image P image.boots (loaded image.partitions (blank image)) first lawful.boots (λ u x h. h) (λ x h. h) in
    record {
      image_is = b.image_is;
      known = record { reached = b.reached; claimed = b.claimed };
      fresh = λ x h. ap (λ (statuses : List Status). slice_index_or statuses x Status.Free) b.statuses_are ∙ status_free image x h;
      owned = b.from;
    }
