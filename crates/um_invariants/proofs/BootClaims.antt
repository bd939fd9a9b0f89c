-- At the opening the threads of the boot entries keep their objects, and nobody creates any.
use Rattle.um_invariants.proofs.Facts.{is_standing, none_checked}
use Rattle.um_machine.specs.Order.{Steps}
use Rattle.std.proofs.Common.{◌≡◌, ℕ, zero, suc, ◌+◌, ◌-◌, ◌<◌, ◌≤◌, Bool, true, false, ◌||◌, List, [], ◌∷◌, length, map, replicate, refl, sym, ap, subst, ◌∙◌, Option, Some, None, slice_index_or, slice_get, arith}
use Rattle.std.specs.List.{list_any}
use Rattle.std.proofs.lemmas.List.{length-map, length-replicate}
use Rattle.um_base.specs.declared.image.Boot.{Boot}
use Rattle.um_base.specs.declared.image.Image.{Image}
use Rattle.um_base.specs.declared.image.ObjectDef.{ObjectDef}
use Rattle.um_base.specs.declared.limits.TheConstants.{STATIC_ROWS, ROWS, THREADS}
use Rattle.um_base.specs.declared.names.Kind.{Kind}
use Rattle.um_base.specs.Places.{own_row}
use Rattle.um_machine.specs.declared.object.Object.{Object}
use Rattle.um_machine.specs.Run.{blank, objects_from, boots_row, is_set_up}
use Rattle.um_machine.specs.State.{nobody, vacant}
use Rattle.um_invariants.proofs.Cores.{Call, Core, call_of, init_of, kind_of, core_of, idle, call_at, status_at, init_at, kind_at, with_call, at_set, map_at}
use Rattle.um_invariants.proofs.Guards.{row_kind, kind_in}
use Rattle.um_invariants.proofs.Claims.{IsReal, IsStackRow, claims, Shaped}
use Rattle.um_invariants.proofs.Moves.{IsClaimed}

pub replicate_at : {A : Type 0} (n u : ℕ) (x : A) → slice_index_or (replicate n x) u x ≡ x
replicate_at zero u x = refl
replicate_at (suc n) zero x = refl
replicate_at (suc n) (suc u) x = replicate_at n u x

pub many_from : {A : Type 0} (f : Object → A) (bs : List Boot) (x : ℕ) (os : List ObjectDef) → x + length os ≤ ROWS → length (map f (objects_from bs x os)) ≡ ROWS - x
many_from f bs x [] h = length-map (replicate (ROWS - x) vacant) f ∙ length-replicate (ROWS - x) vacant
many_from f bs x (o ∷ os) h = let more = many_from f bs (x + 1) os (omega (arith, h)) in omega (arith, more, h)

kinds_from : (bs : List Boot) (x : ℕ) (os : List ObjectDef) (y : ℕ) (k : Kind) → slice_index_or (map kind_of (objects_from bs x os)) y None ≡ Some k → (o : ObjectDef) × (slice_get os y ≡ Some o) × (o.kind ≡ k)
kinds_from bs x [] y k h = let none = map_at kind_of (replicate (ROWS - x) vacant) y vacant ∙ ap kind_of (replicate_at (ROWS - x) y vacant) in absurd (let e = sym none ∙ h in cc)
kinds_from bs x (o ∷ os) zero k h = (o, refl, cc)
kinds_from bs x (o ∷ os) (suc y) k h = kinds_from bs (x + 1) os y k h

is_either : (p q : Bool) → q ≡ true → (p || q) ≡ true
is_either true q h = refl
is_either false q h = h

inits_from : (bs : List Boot) (x : ℕ) (os : List ObjectDef) (y : ℕ) → list_any (boots_row (x + y)) bs ≡ true → y < length os → slice_index_or (map init_of (objects_from bs x os)) y false ≡ true
inits_from bs x [] y named inside = absurd (omega (arith, inside))
inits_from bs x (o ∷ os) zero named inside =
    let zeroth : x + 0 ≡ x = omega arith in is_either (is_set_up o.setup) (list_any (boots_row x) bs) (subst (λ (n : ℕ). list_any (boots_row n) bs ≡ true) zeroth named)
inits_from bs x (o ∷ os) (suc y) named inside =
    let next : x + suc y ≡ x + 1 + y = omega arith in inits_from bs (x + 1) os y (subst (λ (n : ℕ). list_any (boots_row n) bs ≡ true) next named) (omega (arith, inside))

-- before anybody is started nobody has called
pub idle_blank : (image : Image) (u : ℕ) → call_at (core_of (blank image)) u ≡ idle
unfolding blank
idle_blank image u = map_at call_of (replicate THREADS nobody) u nobody ∙ ap call_of (replicate_at THREADS u nobody)

-- an object that a boot entry names is initialised
pub init_blank : (image : Image) (x : ℕ) → list_any (boots_row x) image.boots ≡ true → x < length image.objects → init_at (core_of (blank image)) x ≡ true
unfolding blank
init_blank image x named inside = let zeroth : 0 + x ≡ x = omega arith in inits_from image.boots 0 image.objects x (subst (λ (n : ℕ). list_any (boots_row n) image.boots ≡ true) (sym zeroth) named) inside

many_inits : (image : Image) → length image.objects ≤ STATIC_ROWS → length (core_of (blank image)).inits ≡ ROWS
unfolding blank
many_inits image few = many_from init_of image.boots 0 image.objects (omega (arith, few))

kind_blank : (image : Image) (x : ℕ) (k : Kind) → kind_at (core_of (blank image)) x ≡ Some k → k ≡ row_kind image x
unfolding blank
kind_blank image x k h = let (o, e, f) = kinds_from image.boots 0 image.objects x k h in sym (ap (λ (p : Option ObjectDef). kind_in p x) e ∙ f)

no_keeper : (image : Image) (w : ℕ) → (call_at (core_of (blank image)) w).keeps ≡ true → ⊥
no_keeper image w k = let none : (call_at (core_of (blank image)) w).keeps ≡ false = ap (λ (call : Call). call.keeps) (idle_blank image w) in cc

no_maker : (image : Image) (u w : ℕ) → claims image w (call_at (core_of (blank image)) u).pending ≡ true → ⊥
no_maker image u w h = let none : claims image w (call_at (core_of (blank image)) u).pending ≡ false = ap (λ (call : Call). claims image w call.pending) (idle_blank image u) in cc

image_here : (image : Image) → (core_of (blank image)).image ≡ image
unfolding blank
image_here image = refl

pub claimed_blank : (image : Image) → length image.objects ≤ STATIC_ROWS → IsClaimed (core_of (blank image))
unfolding blank
claimed_blank image few =
    record {
      many = many_inits image few;
      kinds = kind_blank image;
      shaped = λ u. subst (λ (call : Call). Shaped image u call.living call.checked call.pending) (sym (idle_blank image u)) tt;
      real = λ w k. absurd (no_keeper image w k);
      marked = λ w k. absurd (no_keeper image w k);
      kept = λ w k. absurd (no_keeper image w k);
      stacked = λ w k. absurd (no_keeper image w k);
      claimed = λ u w h. absurd (no_maker image u w h);
      inited = λ u w h. absurd (no_maker image u w h);
      held = λ u w h. absurd (no_maker image u w h);
      free = λ u w h. absurd (no_maker image u w h);
      sole = λ u v w h k. absurd (no_maker image u w h);
      idle = λ w no. ap (λ (call : Call). call.pending) (idle_blank image w);
      bare = λ w no x. ap (λ (call : Call). slice_index_or call.checked x false) (idle_blank image w) ∙ none_checked x ROWS;
      living = λ w h. let none : (call_at (core_of (blank image)) w).living ≡ false = ap (λ (call : Call). call.living) (idle_blank image w) in cc;
    }

-- a thread that a boot entry starts, while nobody has a step left
pub claimed_boot : (c : Core) (t stack : ℕ) → IsClaimed c → ((u : ℕ) → (call_at c u).pending ≡ []) → IsReal c.image t → init_at c (own_row c.image t) ≡ true → is_standing (status_at c (own_row c.image t)) ≡ true → IsStackRow c.image stack
    → IsClaimed (with_call c t (record idle { keeps = true; living = true; stack = stack }))
claimed_boot c t stack inv quiet real marked stands row =
    let child : Call = record idle { keeps = true; living = true; stack = stack } in
    let none : (u w : ℕ) → claims c.image w (call_at (with_call c t child) u).pending ≡ true → ⊥ =
    λ u w. at_set (λ n (cl : Call). claims c.image w cl.pending ≡ true → ⊥) c.calls t u child idle (λ h. cc)
    (λ h. let no : claims c.image w (call_at c u).pending ≡ false = ap (λ (steps : Steps). claims c.image w steps) (quiet u) in cc) in
    record {
      many = inv.many;
      kinds = inv.kinds;
      shaped = λ u. at_set (λ n (cl : Call). Shaped c.image n cl.living cl.checked cl.pending) c.calls t u child idle tt (inv.shaped u);
      real = λ w. at_set (λ n (cl : Call). cl.keeps ≡ true → IsReal c.image n) c.calls t w child idle (λ k. real) (inv.real w);
      marked = λ w. at_set (λ n (cl : Call). cl.keeps ≡ true → init_at c (own_row c.image n) ≡ true) c.calls t w child idle (λ k. marked) (inv.marked w);
      kept = λ w. at_set (λ n (cl : Call). cl.keeps ≡ true → is_standing (status_at c (own_row c.image n)) ≡ true) c.calls t w child idle (λ k. stands) (inv.kept w);
      stacked = λ w. at_set (λ n (cl : Call). cl.keeps ≡ true → IsStackRow c.image cl.stack) c.calls t w child idle (λ k. row) (inv.stacked w);
      claimed = λ u w h. absurd (none u w h);
      inited = λ u w h. absurd (none u w h);
      held = λ u w h. absurd (none u w h);
      free = λ u w h. absurd (none u w h);
      sole = λ u v w h k. absurd (none u w h);
      idle = λ w. at_set (λ n (cl : Call). cl.keeps ≡ false → cl.pending ≡ []) c.calls t w child idle (λ no. refl) (inv.idle w);
      bare = λ w. at_set (λ n (cl : Call). cl.keeps ≡ false → (x : ℕ) → slice_index_or cl.checked x false ≡ false) c.calls t w child idle (λ no x. none_checked x ROWS) (inv.bare w);
      living = λ w. at_set (λ n (cl : Call). cl.living ≡ true → cl.keeps ≡ true) c.calls t w child idle (λ h. refl) (inv.living w);
    }
