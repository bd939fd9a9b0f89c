-- What is read of a processor's list of domains: which one it edits, whether it has a claim to read its thread's, and to which one a thread
-- moves; and which steps leave what a processor was told.
use Rattle.um_refinement.proofs.Words.{◌≡◌, ℕ, ◌-◌, Bool, true, false, arith, nat_lt, nat_tests, thread_in, FineAct, is_some, own_row, row_named, Addr, on_memory, ◌++◌, [], ◌∷◌, Option, Some, None, refl, sym, ap, ◌∙◌, eq-eqb, ne_eqb, ◌==◌, ◌&&◌, not, if◌then◌else◌, list_any, eqb-false, eqb-true, false≢true, true≢false, Image, Reply, Pending, Steps, domain_in, is_word_read, begins_cleaning, site_at, Context, after_claim, after_show, goes_on_by, p_next, unless_loaded, with_cleaned, Todo, Todos, fine_steps, Processor, same_site, FineStep, Site, OnMemory, access_over, edited, edits, edits_step, is_hold, is_own_claim, is_own_done, moves_step, moves_to, behind_shown}
use Rattle.um_fine.specs.Places.{armed_for, clearing, noted_cell, noting, put_away, settling}
use Rattle.um_words.specs.declared.fine.Mark.{Mark}
use Rattle.um_fine.specs.Follows.{shown_step, with_actor}
use Rattle.um_fine.specs.Sites.{site_numbered}
use Rattle.um_refinement.specs.Stops.{is_waiting_site}
use Rattle.um_refinement.specs.Timing.{is_placed}
use Rattle.um_refinement.specs.Frames.{IsActOver, IsWaitOver, access_alone, access_settled, act_alone, act_settled, both, nothing, rereads, settled}
use Rattle.um_refinement.proofs.ListGrowth.{ReadsLast, either-look, forms-kept, is_read_claim}
use Rattle.um_refinement.proofs.ListTails.{Reads, is_passed, reads-through}

-- What is read of lists.

abbrev pub claimed : Todos → Bool
claimed todo = list_any is_own_done todo && not (list_any is_own_claim todo)

-- whether a domain is edited, and the edit that was made
abbrev edit_read : ℕ → Todos → Bool × Option Pending
edit_read d todo = (edits d todo, edited d todo)

edit-passed : (d : ℕ) (q : Todo) (todo : Todos) → is_passed q ≡ true → edit_read d (q ∷ todo) ≡ edit_read d todo
edit-passed d (Todo.show q rest) todo h = absurd (false≢true h)
edit-passed d (Todo.write_claim e) todo h = absurd (false≢true h)
edit-passed d (Todo.edit e q) todo h = absurd (false≢true h)
edit-passed d q todo h = refl

edit-noting : (image : Image) (d : ℕ) (c : Context) (site : Option ℕ) (todo : Todos) → edit_read d todo ≡ (false, None) → edit_read d (noting image c site todo) ≡ (false, None)
edit-noting image d c None todo h = h
edit-noting image d c (Some site) todo h = elim (is_some c.noted) as (λ b. edit_read d (if b then todo else Todo.note site ∷ todo) ≡ (false, None)) [ true ↦ h | false ↦ h ]

edit-clearing : (image : Image) (d : ℕ) (own : Bool) (a : Addr) (rest : Steps) → edit_read d (clearing image own (Pending.ClearInit a) rest) ≡ (false, None)
edit-clearing image d true a rest = refl
edit-clearing image d false a rest = refl

edit-none : (image : Image) (d : ℕ) (c : Context) (q : Pending) (rest : Steps) → edit_read d (fine_steps image c q rest) ≡ (false, None)
edit-none image d c (Pending.Probe a amount) rest = either-look image (λ todo. edit_read d todo ≡ (false, None)) amount _ (λ x h. h) refl
edit-none image d c (Pending.CopyIn a amount) rest = either-look image (λ todo. edit_read d todo ≡ (false, None)) amount _ (λ x h. h) refl
edit-none image d c (Pending.Work a ask) rest =
    let q = Pending.Work a ask in edit-noting image d c (noted_cell image (q ∷ [])) (Todo.show q rest ∷ settling image c (armed_for image c q) q) refl
edit-none image d c (Pending.Join who timeout) rest =
    let q = Pending.Join who timeout in edit-noting image d c (noted_cell image (q ∷ [])) (Todo.show q rest ∷ settling image c (armed_for image c q) q) refl
edit-none image d c (Pending.FutexWait a value timeout) rest =
    let q = Pending.FutexWait a value timeout in edit-noting image d c (noted_cell image (q ∷ [])) (on_memory q rest ++ settling image c (armed_for image c q) q) refl
edit-none image d c (Pending.Arm ticks) rest = edit-noting image d c (noted_cell image rest) (Todo.owe ∷ Todo.show (Pending.Arm ticks) rest ∷ []) refl
edit-none image d c (Pending.ClearInit a) rest = edit-clearing image d (row_named image a == own_row image c.thread) a rest
edit-none image d c q rest = refl

edit-waited : (d : ℕ) (site : ℕ) (todo : Todos) → IsActOver todo → edit_read d (todo ++ Todo.reread site ∷ []) ≡ edit_read d todo
edit-waited d site _ act_alone = refl
edit-waited d site _ act_settled = refl
edit-waited d site _ access_alone = refl
edit-waited d site _ access_settled = refl

edit-reads : (image : Image) (d : ℕ) → Reads image (edit_read d) (false, None)
edit-reads image d = record { empty = refl; passed = edit-passed d; expanded = edit-none image d; begins = refl; exits = refl; waited = edit-waited d }

pub edits-reads : (image : Image) (d : ℕ) → Reads image (edits d) false
edits-reads image d = reads-through (λ (r : Bool × Option Pending). r.0) (edit-reads image d)

pub edited-reads : (image : Image) (d : ℕ) → Reads image (edited d) None
edited-reads image d = reads-through (λ (r : Bool × Option Pending). r.1) (edit-reads image d)

pub claimed-passed : (q : Todo) (todo : Todos) → is_passed q ≡ true → claimed (q ∷ todo) ≡ claimed todo
claimed-passed (Todo.read_claim d) todo h = absurd (false≢true h)
claimed-passed (Todo.read_done d) todo h = absurd (false≢true h)
claimed-passed q todo h = refl

pub claimed-none : (image : Image) (c : Context) (q : Pending) (rest : Steps) → claimed (fine_steps image c q rest) ≡ false
claimed-none image = forms-kept image (λ todo. claimed todo ≡ false)
    (record {
      note = λ site todo h. h;
      act = λ q rest. refl;
      settles = λ q rest deadline mark. refl;
      access = λ q rest. refl;
      access_settles = λ q rest deadline mark. refl;
      look = λ x todo h. h;
      owe = λ q rest. refl;
      leave = λ a rest. refl;
      edit = λ d q rest. refl;
      move = λ d who rest. refl;
      start = λ who q rest c. refl;
    })

claimed-waited : (site : ℕ) (todo : Todos) → IsActOver todo → claimed (todo ++ Todo.reread site ∷ []) ≡ claimed todo
claimed-waited site _ act_alone = refl
claimed-waited site _ act_settled = refl
claimed-waited site _ access_alone = refl
claimed-waited site _ access_settled = refl

pub claimed-reads : (image : Image) → Reads image claimed false
claimed-reads image = record { empty = refl; passed = claimed-passed; expanded = claimed-none image; begins = refl; exits = refl; waited = claimed-waited }

pub moves-passed : (d : ℕ) (reply : Reply) (q : Todo) (todo : Todos) → is_passed q ≡ true → moves_to d reply (q ∷ todo) ≡ moves_to d reply todo
moves-passed d reply (Todo.show q rest) todo h = absurd (false≢true h)
moves-passed d reply (Todo.read_claim e) todo h = absurd (false≢true h)
moves-passed d reply (Todo.read_done e) todo h = absurd (false≢true h)
moves-passed d reply q todo h = refl

moves-noting : (image : Image) (d : ℕ) (reply : Reply) (c : Context) (site : Option ℕ) (todo : Todos) → moves_to d reply todo ≡ false → moves_to d reply (noting image c site todo) ≡ false
moves-noting image d reply c None todo h = h
moves-noting image d reply c (Some site) todo h = elim (is_some c.noted) as (λ b. moves_to d reply (if b then todo else Todo.note site ∷ todo) ≡ false) [ true ↦ h | false ↦ h ]

moves-clearing : (image : Image) (d : ℕ) (reply : Reply) (own : Bool) (a : Addr) (rest : Steps) → moves_to d reply (clearing image own (Pending.ClearInit a) rest) ≡ false
moves-clearing image d reply true a rest = refl
moves-clearing image d reply false a rest = refl

pub moves-none : (image : Image) (d : ℕ) (reply : Reply) (c : Context) (q : Pending) (rest : Steps) → moves_to d reply (fine_steps image c q rest) ≡ false
moves-none image d reply c (Pending.Probe a amount) rest = either-look image (λ todo. moves_to d reply todo ≡ false) amount _ (λ x h. h) refl
moves-none image d reply c (Pending.CopyIn a amount) rest = either-look image (λ todo. moves_to d reply todo ≡ false) amount _ (λ x h. h) refl
moves-none image d reply c (Pending.Work a ask) rest =
    let q = Pending.Work a ask in moves-noting image d reply c (noted_cell image (q ∷ [])) (Todo.show q rest ∷ settling image c (armed_for image c q) q) refl
moves-none image d reply c (Pending.Join who timeout) rest =
    let q = Pending.Join who timeout in moves-noting image d reply c (noted_cell image (q ∷ [])) (Todo.show q rest ∷ settling image c (armed_for image c q) q) refl
moves-none image d reply c (Pending.FutexWait a value timeout) rest =
    let q = Pending.FutexWait a value timeout in moves-noting image d reply c (noted_cell image (q ∷ [])) (on_memory q rest ++ settling image c (armed_for image c q) q) refl
moves-none image d reply c (Pending.Arm ticks) rest = moves-noting image d reply c (noted_cell image rest) (Todo.owe ∷ Todo.show (Pending.Arm ticks) rest ∷ []) refl
moves-none image d reply c (Pending.ClearInit a) rest = moves-clearing image d reply (row_named image a == own_row image c.thread) a rest
moves-none image d reply c q rest = refl

moves-waited : (d : ℕ) (reply : Reply) (site : ℕ) (todo : Todos) → IsActOver todo → moves_to d reply (todo ++ Todo.reread site ∷ []) ≡ moves_to d reply todo
moves-waited d reply site _ act_alone = refl
moves-waited d reply site _ act_settled = refl
moves-waited d reply site _ access_alone = refl
moves-waited d reply site _ access_settled = refl

pub moves-reads : (image : Image) (d : ℕ) (reply : Reply) → Reads image (moves_to d reply) false
moves-reads image d reply = record { empty = refl; passed = moves-passed d reply; expanded = moves-none image d reply; begins = refl; exits = refl; waited = moves-waited d reply }

-- Facts of steps.

settling-edits : (image : Image) (d : ℕ) (c : Context) (until : Option ℕ) (q : Pending) → edits d (settling image c until q) ≡ false
settling-edits image d c None q = refl
settling-edits image d c (Some deadline) q = refl

settling-moves : (image : Image) (d : ℕ) (reply : Reply) (c : Context) (until : Option ℕ) (q : Pending) → moves_to d reply (settling image c until q) ≡ false
settling-moves image d reply c None q = refl
settling-moves image d reply c (Some deadline) q = refl

-- the steps that are alone with their event
pub edits-behind : (image : Image) (d : ℕ) (c : Context) (q : Pending) → edits d (behind_shown image c q) ≡ false
edits-behind image d c (Pending.Work a ask) = settling-edits image d c (armed_for image c (Pending.Work a ask)) (Pending.Work a ask)
edits-behind image d c (Pending.Join who timeout) = settling-edits image d c (armed_for image c (Pending.Join who timeout)) (Pending.Join who timeout)
edits-behind image d c (Pending.FutexWait a value timeout) = settling-edits image d c (armed_for image c (Pending.FutexWait a value timeout)) (Pending.FutexWait a value timeout)
edits-behind image d c q = refl

pub moves-behind : (image : Image) (d : ℕ) (reply : Reply) (c : Context) (q : Pending) → moves_to d reply (behind_shown image c q) ≡ false
moves-behind image d reply c (Pending.Work a ask) = settling-moves image d reply c (armed_for image c (Pending.Work a ask)) (Pending.Work a ask)
moves-behind image d reply c (Pending.Join who timeout) = settling-moves image d reply c (armed_for image c (Pending.Join who timeout)) (Pending.Join who timeout)
moves-behind image d reply c (Pending.FutexWait a value timeout) = settling-moves image d reply c (armed_for image c (Pending.FutexWait a value timeout)) (Pending.FutexWait a value timeout)
moves-behind image d reply c q = refl

pub memory-edits-none : (d : ℕ) (q : Pending) → OnMemory q → edits_step d q ≡ false
memory-edits-none d (Pending.DomInit e parts) on = absurd on
memory-edits-none d (Pending.DomAdd e range attr) on = absurd on
memory-edits-none d (Pending.DomRemove e range attr) on = absurd on
memory-edits-none d q on = refl

pub memory-moves-none : (d : ℕ) (reply : Reply) (q : Pending) → OnMemory q → moves_step d reply q ≡ false
memory-moves-none d reply (Pending.DomMove e who) on = absurd on
memory-moves-none d reply q on = refl

pub eqb-swap : (a b : ℕ) → (a == b) ≡ (b == a)
eqb-swap a b = by (a == b) refl
  where
    by : (c : Bool) → (a == b) ≡ c → c ≡ (b == a)
    by true q = sym (eq-eqb b a (sym (eqb-true a b q)))
    by false q = sym (ne_eqb b a (λ h. eqb-false a b q (sym h)))

-- which domain a step edits
pub edits-one : (d e : ℕ) (q : Pending) → edits_step e q ≡ true → edits_step d q ≡ (d == e)
edits-one d e (Pending.DomInit k parts) h = ap (λ n. d == n) (sym (eqb-true e k h))
edits-one d e (Pending.DomAdd k range attr) h = ap (λ n. d == n) (sym (eqb-true e k h))
edits-one d e (Pending.DomRemove k range attr) h = ap (λ n. d == n) (sym (eqb-true e k h))
edits-one d e q h = absurd (false≢true h)

pub edits-no-move : (d e : ℕ) (reply : Reply) (q : Pending) → edits_step e q ≡ true → moves_step d reply q ≡ false
edits-no-move d e reply (Pending.DomMove k who) h = absurd (false≢true h)
edits-no-move d e reply q h = refl

pub over-claimed : (over : Todos) → IsWaitOver over → list_any is_own_claim over ≡ false
over-claimed _ nothing = refl
over-claimed _ settled = refl
over-claimed _ rereads = refl
over-claimed _ both = refl

pub either-claimed : (b : Bool) (q : Pending) (rest : Steps) (over : Todos) → IsWaitOver over → claimed (unless_loaded b (Todo.region_load ∷ Todo.show q rest ∷ access_over over)) ≡ true
either-claimed true q rest over wait = ap not (over-claimed over wait)
either-claimed false q rest over wait = ap not (over-claimed over wait)

pub either-edits : (d : ℕ) (b : Bool) (q : Pending) (rest : Steps) (over : Todos) → edits d (unless_loaded b (Todo.region_load ∷ Todo.show q rest ∷ access_over over)) ≡ edits_step d q
either-edits d true q rest over = refl
either-edits d false q rest over = refl

pub either-moves : (d : ℕ) (reply : Reply) (b : Bool) (q : Pending) (rest : Steps) (over : Todos)
    → moves_to d reply (unless_loaded b (Todo.region_load ∷ Todo.show q rest ∷ access_over over)) ≡ moves_step d reply q
either-moves d reply true q rest over = refl
either-moves d reply false q rest over = refl

-- the steps that are no claims, no ends of claims, no edits and no events, and hold no thread
abbrev pub is_plain : Todo → Bool
is_plain (Todo.show q rest) = false
is_plain Todo.hold = false
is_plain (Todo.read_claim d) = false
is_plain (Todo.read_done d) = false
is_plain (Todo.write_claim d) = false
is_plain (Todo.edit d q) = false
is_plain q = true

pub plain-list : (d : ℕ) (reply : Reply) (q : Todo) (todo : Todos) → is_plain q ≡ true
    → (edits d (q ∷ todo) ≡ edits d todo) × (claimed (q ∷ todo) ≡ claimed todo) × (moves_to d reply (q ∷ todo) ≡ moves_to d reply todo)
plain-list d reply (Todo.show q rest) todo h = absurd (false≢true h)
plain-list d reply Todo.hold todo h = absurd (false≢true h)
plain-list d reply (Todo.read_claim e) todo h = absurd (false≢true h)
plain-list d reply (Todo.read_done e) todo h = absurd (false≢true h)
plain-list d reply (Todo.write_claim e) todo h = absurd (false≢true h)
plain-list d reply (Todo.edit e q) todo h = absurd (false≢true h)
plain-list d reply q todo h = (refl, refl, refl)

-- the sites behind the words
abbrev cell-site : ℕ → Site
cell-site site =
    if nat_lt site 296 then Site.object (site - 168)
    else if nat_lt site 304 then Site.parts (site - 296)
    else if site == 304 then Site.memory
    else if site == 305 then Site.heap
    else if site == 306 then Site.scheduler
    else if site == 307 then Site.clock
    else Site.joins

cells-apart : (d : ℕ) (a b c e f g : Bool) (site : ℕ)
    → same_site (if a then Site.object (site - 168) else if b then Site.parts (site - 296) else if c then Site.memory else if e then Site.heap else if f then Site.scheduler else if g then Site.clock else Site.joins) (Site.domain d) ≡ false
cells-apart d true b c e f g site = refl
cells-apart d false true c e f g site = refl
cells-apart d false false true e f g site = refl
cells-apart d false false false true f g site = refl
cells-apart d false false false false true g site = refl
cells-apart d false false false false false true site = refl
cells-apart d false false false false false false site = refl

-- the site of a look is that of a cell in which threads wait, so it isn't a domain's word
waits-apart : (d site : ℕ) → is_waiting_site site ≡ true → same_site (site_numbered site) (Site.domain d) ≡ false
waits-apart d site h =
    let a : nat_lt site 128 ≡ false = grind (arith, nat_tests) in
    let b : nat_lt site 160 ≡ false = grind (arith, nat_tests) in
    let c : nat_lt site 168 ≡ false = grind (arith, nat_tests) in
    (λ i. same_site (if a i then Site.row site else if b i then Site.thread (site - 128) else if c i then Site.domain (site - 160) else cell-site site) (Site.domain d))
    ∙ cells-apart d (nat_lt site 296) (nat_lt site 304) (site == 304) (site == 305) (site == 306) (site == 307) site

abbrev pub IsPlaced : Todo → Type 0
IsPlaced (Todo.look who site before) = is_waiting_site site ≡ true
IsPlaced (Todo.handle deadline mark) = is_placed mark ≡ true
IsPlaced q = Unit {0}

pub plain-site : (image : Image) (p : Processor) (d : ℕ) (q : Todo) (todo : Todos) → is_plain q ≡ true → IsPlaced q → same_site (site_at image p (q ∷ todo)) (Site.domain d) ≡ false
plain-site image p d (Todo.show q rest) todo h at = absurd (false≢true h)
plain-site image p d (Todo.read_claim e) todo h at = absurd (false≢true h)
plain-site image p d (Todo.read_done e) todo h at = absurd (false≢true h)
plain-site image p d (Todo.write_claim e) todo h at = absurd (false≢true h)
plain-site image p d (Todo.look who site before) todo h at = waits-apart d site at
plain-site image p d (Todo.handle deadline (Mark.Thread who site)) todo h at = waits-apart d site at
plain-site image p d (Todo.handle deadline (Mark.Timer x)) todo h at = refl
plain-site image p d q todo h at = refl

pub plain-last : (e : FineStep) (q : Todo) (todo : Todos) → is_plain q ≡ true → ReadsLast e q todo
plain-last e (Todo.show q rest) todo h = absurd (false≢true h)
plain-last e q todo h = tt

pub plain-claim : (q : Todo) → is_plain q ≡ true → is_read_claim q ≡ false
plain-claim (Todo.read_claim d) h = absurd (false≢true h)
plain-claim q h = refl

-- What a processor was told and which domain its thread has stay the same.

pub show-keeps : (image : Image) (p : Processor) (e : FineStep) (q : Pending) (rest : Steps) (todo : Todos) (b : Bool)
    → ((if b then record p { todo = put_away (thread_in e.word).doomed } else after_show image p e (shown_step image q e.act) rest todo).domain ≡ p.domain)
    × ((if b then record p { todo = put_away (thread_in e.word).doomed } else after_show image p e (shown_step image q e.act) rest todo).reply ≡ p.reply)
show-keeps image p e q rest todo true = (refl, refl)
show-keeps image p e q rest todo false = (refl, refl)

pub claim-keeps : (p : Processor) (d : ℕ) (init : Bool) (todo : Todos) → (after_claim p d init 0 todo).domain ≡ p.domain
claim-keeps p d true todo = refl
claim-keeps p d false todo = refl

pub cleaned-keeps : (image : Image) (p : Processor) (e : FineStep) (b : Bool) → ((with_cleaned image p e b).domain ≡ p.domain) × ((with_cleaned image p e b).reply ≡ p.reply)
cleaned-keeps image p e true = (refl, refl)
cleaned-keeps image p e false = (refl, refl)

acted-keeps : (image : Image) (p : Processor) (act : FineAct) → ((with_actor image p act).domain ≡ p.domain) × ((with_actor image p act).reply ≡ p.reply)
acted-keeps image p (FineAct.Shown event more) = (refl, refl)
acted-keeps image p (FineAct.Unseen unseen) = (refl, refl)

pub goes-domain : (image : Image) (p : Processor) (e : FineStep) (q : Todo) (todo : Todos) → is_hold q ≡ false → (goes_on_by image p e (q ∷ todo)).domain ≡ p.domain
goes-domain image p e (Todo.show q rest) todo h = (show-keeps image p e q rest todo (is_word_read e.act)).0
goes-domain image p e Todo.hold todo h = absurd (true≢false h)
goes-domain image p e (Todo.read_claim None) todo h = refl
goes-domain image p e (Todo.read_claim (Some d)) todo h = claim-keeps p d (domain_in e.word).init todo
goes-domain image p e q todo h = refl

-- it is told nothing of a domain
abbrev pub is_told : Todo → Bool
is_told (Todo.read_claim (Some d)) = true
is_told (Todo.edit d q) = true
is_told q = false

pub goes-reply : (image : Image) (p : Processor) (e : FineStep) (q : Todo) (todo : Todos) → is_told q ≡ false → (goes_on_by image p e (q ∷ todo)).reply ≡ p.reply
goes-reply image p e (Todo.show q rest) todo h = (show-keeps image p e q rest todo (is_word_read e.act)).1
goes-reply image p e (Todo.read_claim None) todo h = refl
goes-reply image p e (Todo.read_claim (Some d)) todo h = absurd (true≢false h)
goes-reply image p e (Todo.edit d q) todo h = absurd (true≢false h)
goes-reply image p e q todo h = refl

pub next-domain : (image : Image) (p : Processor) (e : FineStep) (q : Todo) (todo : Todos) → p.todo ≡ q ∷ todo → is_hold q ≡ false → (p_next image p e).domain ≡ p.domain
next-domain image p e q todo at h =
    (acted-keeps image (with_cleaned image (goes_on_by image p e p.todo) e (begins_cleaning e)) e.act).0 ∙ (cleaned-keeps image (goes_on_by image p e p.todo) e (begins_cleaning e)).0
    ∙ (ap (λ (z : Todos). (goes_on_by image p e z).domain) at ∙ goes-domain image p e q todo h)

pub next-reply : (image : Image) (p : Processor) (e : FineStep) (q : Todo) (todo : Todos) → p.todo ≡ q ∷ todo → is_told q ≡ false → (p_next image p e).reply ≡ p.reply
next-reply image p e q todo at h =
    (acted-keeps image (with_cleaned image (goes_on_by image p e p.todo) e (begins_cleaning e)) e.act).1 ∙ (cleaned-keeps image (goes_on_by image p e p.todo) e (begins_cleaning e)).1
    ∙ (ap (λ (z : Todos). (goes_on_by image p e z).reply) at ∙ goes-reply image p e q todo h)
