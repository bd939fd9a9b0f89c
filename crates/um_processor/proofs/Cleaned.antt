-- The steps of cleaning that are left.
use Rattle.std.proofs.lemmas.List.{append-nil}
use Rattle.std.proofs.Common.{◌≡◌, ℕ, ◌+◌, ◌<◌, Bool, true, false, List, [], ◌∷◌, ◌++◌, length, refl, sym, ap, ◌∙◌, append_assoc, arith, nat_lt}
use Rattle.std.specs.Prelude.{◌&&◌, Option, Some, None, if◌then◌else◌}
use Rattle.um_fine.specs.Places.{Todo, Todos, cleaning_of, cleanings, emptying, with_cleaning}
use Rattle.um_processor.specs.declared.cleaning.CleanStage.{CleanStage}
use Rattle.um_processor.specs.declared.cleaning.Gone.{Gone}
use Rattle.um_processor.specs.Cleanings.{all_clean, left_of, pairs_of, queued, whole}

pub cleanings-append : (a b : Todos) → cleanings (a ++ b) ≡ cleanings a + cleanings b
cleanings-append [] b = omega arith
cleanings-append (Todo.recycle x ∷ a) b = let h = cleanings-append a b in omega arith
cleanings-append (Todo.wipe x ∷ a) b = cleanings-append a b
cleanings-append (q ∷ a) b = cleanings-append a b

clean_pairs-count : (b : Bool) (who x : ℕ) (todo : Todos) → cleanings (if b then Todo.clean_pair who x ∷ todo else todo) ≡ cleanings todo
clean_pairs-count true who x todo = refl
clean_pairs-count false who x todo = refl

pairs-count : (who : Option ℕ) (x : ℕ) (todo : Todos) → cleanings (pairs_of who x todo) ≡ cleanings todo
pairs-count None x todo = refl
pairs-count (Some who) x todo = clean_pairs-count (nat_lt x 128) who x todo

of-count : (x : ℕ) (who : Option ℕ) → cleanings (cleaning_of x who) ≡ 1
of-count x None = refl
of-count x (Some who) = refl

left-count : (stage : CleanStage) (o : Gone) → cleanings (left_of stage o) ≡ 1
left-count (CleanStage.Empty x) o = pairs-count o.who x (emptying o.row)
left-count CleanStage.Vacate o = refl
left-count CleanStage.Recycle o = refl

whole-count : (os : List Gone) → cleanings (whole os) ≡ length os
whole-count [] = refl
whole-count (o ∷ os) =
    let a = cleanings-append (cleaning_of o.row o.who) (whole os) in
    let b = of-count o.row o.who in
    let c = whole-count os in
    omega arith

pub counted : (stage : CleanStage) (os : List Gone) → cleanings (queued stage os) ≡ length os
counted stage [] = refl
counted stage (o ∷ os) =
    let a = cleanings-append (left_of stage o) (whole os) in
    let b = left-count stage o in
    let c = whole-count os in
    omega arith

whole-append : (os : List Gone) (o : Gone) → whole (os ++ o ∷ []) ≡ whole os ++ cleaning_of o.row o.who
whole-append [] o = append-nil (cleaning_of o.row o.who)
whole-append (p ∷ os) o = ap (λ (z : Todos). cleaning_of p.row p.who ++ z) (whole-append os o) ∙ sym (append_assoc (cleaning_of p.row p.who) (whole os) (cleaning_of o.row o.who))

-- one more after others
pub one_more : (stage : CleanStage) (os : List Gone) (o : Gone) → 0 < length os → queued stage (os ++ o ∷ []) ≡ queued stage os ++ cleaning_of o.row o.who
one_more stage [] o h = absurd (omega arith)
one_more stage (p ∷ os) o h =
    ap (λ (z : Todos). left_of stage p ++ z) (whole-append os o) ∙ sym (append_assoc (left_of stage p) (whole os) (cleaning_of o.row o.who))

-- the first of all
pub first_one : (o : Gone) → queued (CleanStage.Empty 0) (o ∷ []) ≡ cleaning_of o.row o.who
first_one o = append-nil (pairs_of o.who 0 (emptying o.row)) ∙ same o.row o.who
  where
    same : (x : ℕ) (who : Option ℕ) → pairs_of who 0 (emptying x) ≡ cleaning_of x who
    same x None = refl
    same x (Some who) = refl

-- after steps of cleaning alone
pub behind-clean : (block a rest : Todos) → all_clean a ≡ true → with_cleaning block rest ≡ block ++ rest → with_cleaning block (a ++ rest) ≡ a ++ (block ++ rest)
behind-clean block [] rest h e = e
behind-clean block (Todo.clean_pair who x ∷ a) rest h e = ap (λ (z : Todos). Todo.clean_pair who x ∷ z) (behind-clean block a rest h e)
behind-clean block (Todo.wipe x ∷ a) rest h e = ap (λ (z : Todos). Todo.wipe x ∷ z) (behind-clean block a rest h e)
behind-clean block (Todo.vacate x ∷ a) rest h e = ap (λ (z : Todos). Todo.vacate x ∷ z) (behind-clean block a rest h e)
behind-clean block (Todo.recycle x ∷ a) rest h e = ap (λ (z : Todos). Todo.recycle x ∷ z) (behind-clean block a rest h e)
behind-clean block (q ∷ a) rest h e = absurd (cc)

both : (a b : Bool) → a ≡ true → b ≡ true → a && b ≡ true
both true b h k = k
both false b h k = absurd (cc)

all-append : (a b : Todos) → all_clean a ≡ true → all_clean b ≡ true → all_clean (a ++ b) ≡ true
all-append [] b h k = k
all-append (Todo.clean_pair who x ∷ a) b h k = all-append a b h k
all-append (Todo.wipe x ∷ a) b h k = all-append a b h k
all-append (Todo.vacate x ∷ a) b h k = all-append a b h k
all-append (Todo.recycle x ∷ a) b h k = all-append a b h k
all-append (q ∷ a) b h k = absurd (cc)

pairs-clean : (b : Bool) (who x y : ℕ) → all_clean (if b then Todo.clean_pair who x ∷ emptying y else emptying y) ≡ true
pairs-clean true who x y = refl
pairs-clean false who x y = refl

of-clean : (x : ℕ) (who : Option ℕ) → all_clean (cleaning_of x who) ≡ true
of-clean x None = refl
of-clean x (Some who) = refl

left-clean : (stage : CleanStage) (o : Gone) → all_clean (left_of stage o) ≡ true
left-clean (CleanStage.Empty x) o = first o.row o.who
  where
    first : (y : ℕ) (who : Option ℕ) → all_clean (pairs_of who x (emptying y)) ≡ true
    first y None = refl
    first y (Some who) = pairs-clean (nat_lt x 128) who x y
left-clean CleanStage.Vacate o = refl
left-clean CleanStage.Recycle o = refl

whole-clean : (os : List Gone) → all_clean (whole os) ≡ true
whole-clean [] = refl
whole-clean (o ∷ os) = all-append (cleaning_of o.row o.who) (whole os) (of-clean o.row o.who) (whole-clean os)

pub queued_clean : (stage : CleanStage) (os : List Gone) → all_clean (queued stage os) ≡ true
queued_clean stage [] = refl
queued_clean stage (o ∷ os) = all-append (left_of stage o) (whole os) (left-clean stage o) (whole-clean os)

-- one more is cleaned after those whose cleaning has begun
pub joins : (stage : CleanStage) (os : List Gone) (block rest : Todos) → with_cleaning block rest ≡ block ++ rest
    → with_cleaning block (queued stage os ++ rest) ≡ queued stage os ++ (block ++ rest)
joins stage os block rest e = behind-clean block (queued stage os) rest (queued_clean stage os) e
