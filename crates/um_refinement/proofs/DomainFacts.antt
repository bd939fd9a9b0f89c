-- What steps do to domains: those of the machine that leave them, what an edit makes of one, and what a processor has edited.
use Rattle.um_refinement.proofs.Words.{◌≡◌, ℕ, zero, suc, ◌+◌, ◌<◌, ◌≤◌, Bool, true, false, [], ◌∷◌, Option, Some, None, refl, sym, ap, ◌∙◌, arith, ◌==◌, ◌||◌, if◌then◌else◌, is_some, eqb-false, eqb-true, false≢true, Act, Image, Errno, Range, Partitions, Pending, reply_to, Steps, State, DomWord, FineAct, Unseen, Todo, Todos, edit_of, parts, total, edited, edits, edits_step, or-false, Result, Ok, Err, Attr, true≢false}
use Rattle.um_machine.specs.Domains.{domain_after}
use Rattle.um_machine.specs.Table as T
use Rattle.um_words.specs.Domains as Words
use Rattle.um_refinement.proofs.MemorySteps.{part-total}
use Rattle.um_refinement.proofs.Writes.{Makes, Part, domains, read-same, reads-keeping}

-- The machine: which steps leave its domains.

abbrev pub NoDomains : Part → Bool
NoDomains domains = false
NoDomains part = true

pub domains-same : (m : State) (t x : ℕ) (q : Pending) (rest : Steps) → Makes NoDomains q → (T.after m t x q rest).domains ≡ m.domains
domains-same m = read-same NoDomains (λ s. s.domains) m (reads-keeping NoDomains (λ s. s.domains) m.domains (λ s threads. refl) (λ s objects. refl) (λ s bytes. (refl, refl)) (λ may s u x there. refl) (λ may s left. refl) (λ may s d ps. absurd may) (λ may s joins futexes. refl) (λ may s now armed. refl))

-- what an edit makes of a domain leaves it initialised, and initialises it where it replies so
pub some-stays : (ps : Partitions) (made : Result Partitions Errno) → is_some (domain_after (Some ps) made) ≡ true
some-stays ps (Ok new) = refl
some-stays ps (Err e) = refl

pub adds-some : (image : Image) (d : ℕ) (range : Range) (attr : Attr) (before : Option Partitions) → is_some (domain_after before (edit_of image (Pending.DomAdd d range attr) before)) ≡ is_some before
adds-some image d range attr None = refl
adds-some image d range attr (Some ps) = some-stays ps (edit_of image (Pending.DomAdd d range attr) (Some ps))

pub removes-some : (image : Image) (d : ℕ) (range : Range) (attr : Attr) (before : Option Partitions) → is_some (domain_after before (edit_of image (Pending.DomRemove d range attr) before)) ≡ is_some before
removes-some image d range attr None = refl
removes-some image d range attr (Some ps) = some-stays ps (edit_of image (Pending.DomRemove d range attr) (Some ps))

pub inits-some : (before : Option Partitions) (made : Result Partitions Errno) → is_some (domain_after before made) ≡ (is_some before || Words.is_zero (reply_to made))
inits-some None (Ok new) = refl
inits-some None (Err e) = refl
inits-some (Some parts) (Ok new) = refl
inits-some (Some parts) (Err e) = refl

abbrev pub is_edit : FineAct → Bool
is_edit (FineAct.Unseen Unseen.Edit) = true
is_edit act = false

abbrev pub is_init_act : Act → Bool
is_init_act (Act.DomInit d reply) = true
is_init_act act = false

abbrev pub is_init : FineAct → Bool
is_init (FineAct.Shown said more) = is_init_act said.act
is_init (FineAct.Unseen u) = false

abbrev pub is_unseen : FineAct → Bool
is_unseen (FineAct.Unseen u) = true
is_unseen act = false

pub visits-no-edit : (b : Bool) (x y : FineAct) → is_edit x ≡ false → is_edit y ≡ false → is_edit (if b then x else y) ≡ false
visits-no-edit true x y h k = h
visits-no-edit false x y h k = k

-- the steps that are no events of instructions, no edits and no claims to read
abbrev pub is_neither : Todo → Bool
is_neither (Todo.show q rest) = false
is_neither (Todo.write_claim u) = false
is_neither (Todo.edit u q) = false
is_neither (Todo.read_claim u) = false
is_neither q = true

-- Lists: a processor that has edited a domain has the claim to write it.
pub edited-edits : (d : ℕ) (q : Pending) (todo : Todos) → edited d todo ≡ Some q → edits d todo ≡ true
edited-edits d q [] h = absurd (false≢true (ap is_some h))
edited-edits d q (Todo.write_claim u ∷ todo) h = absurd (false≢true (ap is_some h))
edited-edits d q (Todo.edit u r ∷ todo) h = absurd (false≢true (ap is_some h))
edited-edits d q (Todo.show r rest ∷ todo) h = by (edits_step d r) refl h
  where
    by : (b : Bool) → edits_step d r ≡ b → (if b then Some r else None) ≡ Some q → edits_step d r ≡ true
    by true e k = e
    by false e k = absurd (false≢true (ap is_some k))
edited-edits d q (r ∷ todo) h = edited-edits d q todo h

-- two of the numbers of a sum
pub two-parts : (g : ℕ → ℕ) (n a b : ℕ) → a < n → b < n → (a ≡ b → ⊥) → g a + g b ≤ total g n
two-parts g zero a b l k ne = absurd (omega (arith, l))
two-parts g (suc n) a b l k ne = by (a == n) refl (b == n) refl (λ less more. two-parts g n a b less more ne)
  where
    below : (c : ℕ) → c < suc n → (c ≡ n → ⊥) → c < n
    below c less other = omega (arith, less, other)

    by : (c : Bool) → (a == n) ≡ c → (z : Bool) → (b == n) ≡ z → (a < n → b < n → g a + g b ≤ total g n) → g a + g b ≤ total g (suc n)
    by true q true r more = absurd (ne (eqb-true a n q ∙ sym (eqb-true b n r)))
    by true q false r more =
        let part = part-total g n b (below b k (eqb-false b n r)) in
        let same : g a ≡ g n = ap g (eqb-true a n q) in
        omega (arith, part, same)
    by false q true r more =
        let part = part-total g n a (below a l (eqb-false a n q)) in
        let same : g b ≡ g n = ap g (eqb-true b n r) in
        omega (arith, part, same)
    by false q false r more =
        let both = more (below a l (eqb-false a n q)) (below b k (eqb-false b n r)) in omega (arith, both)

-- whether a domain is initialised changes by an event of an initialisation alone
pub init-else : (w : DomWord) (act : FineAct) → is_init act ≡ false → (Words.domain_after w act).init ≡ w.init
init-else w (FineAct.Shown said more) h = by said.act h
  where
    by : (act : Act) → is_init_act act ≡ false → (Words.domain_after_act w act).init ≡ w.init
    by (Act.DomInit u reply) h = absurd (true≢false h)
    by (Act.DomAdd u range attr reply) h = or-false w.init
    by (Act.DomRemove u range attr reply) h = or-false w.init
    by act h = refl
init-else w (FineAct.Unseen Unseen.ReadClaim) h = refl
init-else w (FineAct.Unseen Unseen.ReadDone) h = refl
init-else w (FineAct.Unseen Unseen.WriteClaim) h = refl
init-else w (FineAct.Unseen u) h = refl
