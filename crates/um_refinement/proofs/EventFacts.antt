-- Facts of the events that processors make next: the domains that they name are the image's, and a thread that was started and hasn't ended lives.
use Rattle.um_refinement.proofs.Words.{◌≡◌, ℕ, zero, suc, ◌<◌, Bool, true, false, List, [], ◌∷◌, length, refl, sym, arith, if◌then◌else◌, slice_index_or, eqb-true, false≢true, Act, Image, Object, Pending, Life, Steps, is_living, is_started, vacant, edits_step, is_reserved, is_ended}
use Rattle.um_refinement.proofs.CallSteps.{Proper}

-- The domain that an edit or a move names is one of the image's.

abbrev pub InImage : ℕ → Pending → Type 0
InImage n (Pending.DomInit d parts) = d < n
InImage n (Pending.DomAdd d range attr) = d < n
InImage n (Pending.DomRemove d range attr) = d < n
InImage n (Pending.DomMove d who) = d < n
InImage n q = Unit {0}

pub first-in : (image : Image) (checked : List Bool) (q : Pending) (rest : Steps) → Proper image checked (q ∷ rest) → InImage (length image.domains) q
first-in image checked (Pending.DomInit d parts) rest h = h.0
first-in image checked (Pending.DomAdd d range attr) rest h = h.0
first-in image checked (Pending.DomRemove d range attr) rest h = h.0
first-in image checked (Pending.DomMove d who) rest h = h.0
first-in image checked q rest h = tt

pub edit-in : (n d : ℕ) (q : Pending) → edits_step d q ≡ true → InImage n q → d < n
edit-in n d (Pending.DomInit e parts) h l = let same = eqb-true d e h in omega (arith, same, l)
edit-in n d (Pending.DomAdd e range attr) h l = let same = eqb-true d e h in omega (arith, same, l)
edit-in n d (Pending.DomRemove e range attr) h l = let same = eqb-true d e h in omega (arith, same, l)
edit-in n d q h l = absurd (false≢true h)

-- an access that is allowed, or a fault
pub either-taken : (takes : Act → Bool) (good bad : Act) (b : Bool) → takes good ≡ true → takes bad ≡ true → takes (if b then good else bad) ≡ true
either-taken takes good bad true h k = h
either-taken takes good bad false h k = k

-- a thread that was started and hasn't ended lives
pub living : (life : Life) → is_started life ≡ true → is_ended life ≡ false → is_living life ≡ true
living Life.Unborn s e = s
living Life.Living s e = refl
living Life.Ended s e = sym e

-- an object that is reserved stands before the end of its list
pub inside-objects : (os : List Object) (x : ℕ) → is_reserved (slice_index_or os x vacant).status ≡ true → x < length os
inside-objects [] x h = absurd (false≢true h)
inside-objects (o ∷ os) zero h = omega arith
inside-objects (o ∷ os) (suc x) h = let l = inside-objects os x h in omega (arith, l)
