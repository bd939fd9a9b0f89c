-- A step raises the step number of its word by one.
use Rattle.std.proofs.Common.{◌≡◌, ℕ, ◌+◌, ◌<◌, ◌≤◌, ◌/◌, ◌%◌, Bool, true, false, not, Some, None, refl, sym, ap, ◌∙◌, arith, subst}
use Rattle.std.specs.Prelude.{◌==◌, ◌&&◌, nat_lt, if◌then◌else◌, IfSome, IsTrue}
use Rattle.std.proofs.lemmas.Bool.Decides.{nat_tests}
use Rattle.um_base.specs.declared.act.Act.{Act}
use Rattle.um_machine.specs.State.{is_living}
use Rattle.um_words.specs.declared.fine.FineAct.{FineAct}
use Rattle.um_words.specs.declared.fine.More.{More}
use Rattle.um_words.specs.declared.fine.Unseen.{Unseen}
use Rattle.um_words.specs.declared.kind.WordKind.{WordKind}
use Rattle.um_words.specs.declared.thread_word.ThreadWord.{ThreadWord}
use Rattle.um_words.specs.declared.dom_word.DomWord.{DomWord}
use Rattle.um_words.specs.declared.cell_word.CellWord.{CellWord}
use Rattle.um_words.specs.declared.kind.CellKind.{CellKind}
use Rattle.um_words.specs.Bits.{bit}
use Rattle.um_words.specs.CellActs.{is_resume}
use Rattle.um_words.specs.Packed.{FitsThread, note_of, packed_thread, thread_in, is_thread, packed_domain, domain_in, is_domain, packed_cell, cell_of}
use Rattle.um_words.specs.Inverse.{thread-number, domain-number, cell-number, cell-turn}
use Rattle.um_words.specs.Threads.{ThreadMay, thread_takes_act, thread_takes_unseen, thread_takes, flagged, thread_after_act, thread_after_unseen, thread_after, counted_thread}
use Rattle.um_words.specs.Domains.{writes, domain_takes_act, domain_takes_unseen, domain_takes, domain_after_act, domain_after_unseen, domain_after, counted_domain}
use Rattle.um_words.specs.Steps.{cell_kind_at, kind_at, number_in, number, ThreadStep, DomainStep, CellStep, StepIn, WordMay}
use Rattle.um_words.specs.RowFacts.{row-counts}
use Rattle.um_words.specs.Cells.{has_ready, scheduler_takes_unseen, scheduler_takes, word_takes, with_ready, first_taken, one_less, scheduler_after_unseen, scheduler_after, word_after, counted_cell}

-- the second of two tests
second : (b : Bool) (n m : ℕ) → IsTrue (b && nat_lt n m) → n < m
second b n m h = grind (arith, nat_tests)

last-of : (a b : Bool) → IsTrue (a && b) → IsTrue b
last-of true b h = h
last-of false b h = absurd (cc)

-- what a word says, if it can be read
said-is : {W : Type 0} (b : Bool) (all said : W) → (if b then Some all else None) ≡ Some said → all ≡ said
said-is true all said e = cc
said-is false all said e = absurd (cc)

-- Threads.

pub record KeepsThread (w z : ThreadWord) : Type 0 where
  pub domain : z.domain < 8
  pub note : IfSome z.note (λ site. site < 65536)
  pub number : z.number ≡ w.number

-- a word's note is a site
note-read : (n : ℕ) → n < 131072 → IfSome (note_of n) (λ site. site < 65536)
note-read n h = elim (n % 2 == 1) as (λ b. IfSome (if b then Some (n / 2) else None) (λ site. site < 65536)) [ true ↦ omega arith | false ↦ tt ]

module _ (w : ThreadWord) (domain : w.domain < 8) (note : IfSome w.note (λ site. site < 65536)) where
  thread-flagged : (z : ThreadWord) → KeepsThread w z → KeepsThread w (flagged w z)
  thread-flagged z k = elim (is_living w.life) as (λ b. KeepsThread w (if b then z else w)) [ true ↦ k | false ↦ record { domain = domain; note = note; number = refl } ]

  thread-act : (more : More) (act : Act) → IsTrue (thread_takes_act w more act) → KeepsThread w (thread_after_act w more act)
  thread-act more (Act.DomMove d who reply) h = record { domain = second (not w.held) d 8 h; note = note; number = refl }
  thread-act more (Act.Start who) h = record { domain = grind (arith, nat_tests); note = tt; number = refl }
  thread-act more Act.Exit h = record { domain = domain; note = tt; number = refl }
  thread-act more (Act.Fatal reason cause) h = record { domain = domain; note = tt; number = refl }
  thread-act more Act.Killed h = record { domain = domain; note = tt; number = refl }
  thread-act more (Act.Answered reply) h = record { domain = domain; note = tt; number = refl }
  thread-act more (Act.Abort who done) h = thread-flagged (record w { aborted = true }) (record { domain = domain; note = note; number = refl })
  thread-act more (Act.Suspend who done) h = thread-flagged (record w { suspended = true }) (record { domain = domain; note = note; number = refl })
  thread-act more (Act.Continue who done) h = thread-flagged (record w { suspended = false }) (record { domain = domain; note = note; number = refl })
  thread-act more act h = record { domain = domain; note = note; number = refl }

  thread-unseen : (unseen : Unseen) → IsTrue (thread_takes_unseen w unseen) → KeepsThread w (thread_after_unseen w unseen)
  thread-unseen Unseen.Hold h = record { domain = domain; note = note; number = refl }
  thread-unseen Unseen.LetGo h = record { domain = domain; note = note; number = refl }
  thread-unseen (Unseen.Note site) h = record { domain = domain; note = grind (arith, nat_tests); number = refl }
  thread-unseen unseen h = record { domain = domain; note = note; number = refl }

  pub thread-keeps : (act : FineAct) → IsTrue (thread_takes w act) → KeepsThread w (thread_after w act)
  thread-keeps (FineAct.Shown event more) h = thread-act more event.act h
  thread-keeps (FineAct.Unseen unseen) h = thread-unseen unseen h

-- what a step leaves of a word that fits its bits fits them too
pub thread-left : (w z : ThreadWord) (act : FineAct) → FitsThread w → ThreadMay w act z → FitsThread z
thread-left w z act f m =
    let k = thread-keeps w f.domain f.note act m.takes in
    let r = m.room in
    let n = k.number in
    subst FitsThread (sym m.leaves) (record { domain = k.domain; note = k.note; number = omega arith })

thread-counts : (w : ℕ) (act : FineAct) (next : ℕ) → ThreadStep w act next → next / 68719476736 ≡ w / 68719476736 + 1
thread-counts w act next s =
    let is = said-is (is_thread w) (thread_in w) s.found s.reads in
    let small : s.found.domain < 8 = subst (λ (t : ThreadWord). t.domain < 8) is (omega arith) in
    let noted : IfSome s.found.note (λ site. site < 65536) = subst (λ (t : ThreadWord). IfSome t.note (λ site. site < 65536)) is (note-read (w / 1024 % 131072) (omega arith)) in
    let k = thread-keeps s.found small noted act s.may.takes in
    let z = counted_thread (thread_after s.found act) in
    ap (λ x. x / 68719476736) (s.is ∙ ap packed_thread s.may.leaves) ∙ thread-number z k.domain k.note
    ∙ ap (λ x. x + 1) (k.number ∙ ap (λ (t : ThreadWord). t.number) (sym is))

-- Domains.

pub record KeepsDomain (w z : DomWord) : Type 0 where
  pub readers : z.readers < 128
  pub version : z.version < 1048576
  pub number : z.number ≡ w.number

module _ (w : DomWord) (readers : w.readers < 128) (version : w.version < 1048576) where
  writing : IsTrue (writes w) → w.version + 1 < 1048576
  writing h = grind (arith, nat_tests)

  domain-act : (act : Act) → IsTrue (domain_takes_act w act) → KeepsDomain w (domain_after_act w act)
  domain-act (Act.DomInit d reply) h = record { readers = readers; version = writing h; number = refl }
  domain-act (Act.DomAdd d range attr reply) h = record { readers = readers; version = writing h; number = refl }
  domain-act (Act.DomRemove d range attr reply) h = record { readers = readers; version = writing h; number = refl }
  domain-act (Act.DomMove d who reply) h = record { readers = omega arith; version = version; number = refl }
  domain-act act h = absurd (cc)

  domain-unseen : (unseen : Unseen) → IsTrue (domain_takes_unseen w unseen) → KeepsDomain w (domain_after_unseen w unseen)
  domain-unseen Unseen.ReadClaim h = record { readers = let l = second (not w.writer) w.readers 127 h in omega arith; version = version; number = refl }
  domain-unseen Unseen.ReadDone h = record { readers = omega arith; version = version; number = refl }
  domain-unseen Unseen.WriteClaim h = record { readers = readers; version = version; number = refl }
  domain-unseen unseen h = absurd (cc)

  pub domain-keeps : (act : FineAct) → IsTrue (domain_takes w act) → KeepsDomain w (domain_after w act)
  domain-keeps (FineAct.Shown event more) h = domain-act event.act h
  domain-keeps (FineAct.Unseen unseen) h = domain-unseen unseen h

domain-counts : (w : ℕ) (act : FineAct) (next : ℕ) → DomainStep w act next → next / 68719476736 ≡ w / 68719476736 + 1
domain-counts w act next s =
    let is = said-is (is_domain w) (domain_in w) s.found s.reads in
    let few : s.found.readers < 128 = subst (λ (d : DomWord). d.readers < 128) is (omega arith) in
    let old : s.found.version < 1048576 = subst (λ (d : DomWord). d.version < 1048576) is (omega arith) in
    let k = domain-keeps s.found few old act s.may.takes in
    let z = counted_domain (domain_after s.found act) in
    ap (λ x. x / 68719476736) (s.is ∙ ap packed_domain s.may.leaves) ∙ domain-number z k.readers k.version
    ∙ ap (λ x. x + 1) (k.number ∙ ap (λ (d : DomWord). d.number) (sym is))

-- Cells.

pub record KeepsCell (w z : CellWord) : Type 0 where
  pub ready : z.ready < 256
  pub running : z.running < 256
  pub owed : z.owed < 524288
  pub turn : z.turn ≡ w.turn
  pub number : z.number ≡ w.number

module _ (w : CellWord) (ready : w.ready < 256) (running : w.running < 256) (owed : w.owed < 524288) where
  cell-same : KeepsCell w w
  cell-same = record { ready = ready; running = running; owed = owed; turn = refl; number = refl }

  cell-first : IsTrue (has_ready w) → KeepsCell w (first_taken w)
  cell-first h = let l = second (nat_lt 0 w.ready) w.running 255 h in record { ready = omega arith; running = omega arith; owed = owed; turn = refl; number = refl }

  cell-ready : (b : Bool) → w.ready < 32 → KeepsCell w (with_ready w b)
  cell-ready true h = record { ready = omega arith; running = running; owed = owed; turn = refl; number = refl }
  cell-ready false h = cell-same

  cell-less : (b : Bool) → w.ready < 32 → KeepsCell w (one_less (with_ready w b))
  cell-less true h = record { ready = omega arith; running = omega arith; owed = owed; turn = refl; number = refl }
  cell-less false h = record { ready = ready; running = omega arith; owed = owed; turn = refl; number = refl }

  cell-unseen : (unseen : Unseen) → IsTrue (scheduler_takes_unseen w unseen) → KeepsCell w (scheduler_after_unseen w unseen)
  cell-unseen (Unseen.Next who) h = cell-first h
  cell-unseen (Unseen.Wake who b) h = cell-ready b (grind (arith, nat_tests))
  cell-unseen (Unseen.Park who b) h = cell-less b (second (nat_lt 0 w.running) w.ready 32 h)
  cell-unseen (Unseen.Add who) h = cell-ready true (grind (arith, nat_tests))
  cell-unseen (Unseen.Cut who b) h = cell-ready b (grind (arith, nat_tests))
  cell-unseen Unseen.Owe h = record { ready = ready; running = running; owed = grind (arith, nat_tests); turn = refl; number = refl }
  cell-unseen Unseen.Paid h = record { ready = ready; running = running; owed = omega arith; turn = refl; number = refl }
  cell-unseen Unseen.Done h = record { ready = ready; running = omega arith; owed = owed; turn = refl; number = refl }
  cell-unseen unseen h = absurd (cc)

  cell-scheduler : (act : FineAct) → IsTrue (scheduler_takes w act) → KeepsCell w (scheduler_after w act)
  cell-scheduler (FineAct.Shown event more) h = cell-first (last-of (is_resume event.act) (has_ready w) h)
  cell-scheduler (FineAct.Unseen unseen) h = cell-unseen unseen h

  cell-keeps : (kind : CellKind) (act : FineAct) → IsTrue (word_takes kind w act) → KeepsCell w (word_after kind w act)
  cell-keeps CellKind.Object act h = cell-same
  cell-keeps CellKind.Domain act h = cell-same
  cell-keeps CellKind.Memory act h = cell-same
  cell-keeps CellKind.Heap act h = cell-same
  cell-keeps CellKind.Scheduler act h = cell-scheduler act h
  cell-keeps CellKind.Clock act h = cell-same
  cell-keeps CellKind.Join act h = cell-same
  cell-keeps CellKind.Unused act h = cell-same

-- what a step leaves of the word that it found
pub cell-left : (kind : CellKind) (w : ℕ) (act : FineAct) (next : ℕ) → CellStep kind w act next → KeepsCell (cell_of w) (word_after kind (cell_of w) act)
cell-left kind w act next s = cell-keeps (cell_of w) (omega arith) (omega arith) (omega arith) kind act s.may.takes

cell-counts : (kind : CellKind) (w : ℕ) (act : FineAct) (next : ℕ) → CellStep kind w act next → next / 68719476736 ≡ w / 68719476736 + 1
cell-counts kind w act next s =
    let k = cell-left kind w act next s in
    let z = counted_cell (word_after kind (cell_of w) act) in
    ap (λ x. x / 68719476736) (s.is ∙ ap packed_cell s.may.leaves) ∙ cell-number z k.ready k.running k.owed ∙ ap (λ x. x + 1) k.number

-- no step leaves the turn taken
pub cell-free : (kind : CellKind) (w : ℕ) (act : FineAct) (next : ℕ) → CellStep kind w act next → (w % 2 ≡ 0) × (next % 2 ≡ 0)
cell-free kind w act next s =
    let k = cell-left kind w act next s in
    let z = counted_cell (word_after kind (cell_of w) act) in
    (let f = s.may.free in grind (arith, nat_tests), ap (λ x. x % 2) (s.is ∙ ap packed_cell s.may.leaves) ∙ cell-turn z k.ready k.running k.owed ∙ ap bit (k.turn ∙ s.may.free))

-- All kinds.

counts-in : (kind : WordKind) (w : ℕ) (act : FineAct) (next : ℕ) → StepIn kind w act next → number_in kind next ≡ number_in kind w + 1
counts-in WordKind.Row w act next s = row-counts w act next s
counts-in WordKind.Thread w act next s = thread-counts w act next s
counts-in WordKind.Domain w act next s = domain-counts w act next s
counts-in (WordKind.Cell kind) w act next s = cell-counts kind w act next s

pub counts : (site w : ℕ) (act : FineAct) (next : ℕ) → WordMay site w act next → number site next ≡ number site w + 1
unfolding number
counts site w act next may = counts-in (kind_at site) w act next may.step

-- The turn of a cell.

abbrev pub is-cell : WordKind → Bool
is-cell (WordKind.Cell kind) = true
is-cell kind = false

at-cell : (site : ℕ) → 168 ≤ site → is-cell (kind_at site) ≡ true
at-cell site far = let a : nat_lt site 128 ≡ false = grind (arith, nat_tests) in let b : nat_lt site 160 ≡ false = grind (arith, nat_tests) in let d : nat_lt site 168 ≡ false = grind (arith, nat_tests) in
    (λ i. is-cell (if a i then WordKind.Row else if b i then WordKind.Thread else if d i then WordKind.Domain else WordKind.Cell (cell_kind_at site)))

no-cell : (site : ℕ) (kind : WordKind) → kind_at site ≡ kind → 168 ≤ site → is-cell kind ≡ false → ⊥
no-cell site kind is far off = let on = at-cell site far in cc

turns-in : (kind : WordKind) (site w : ℕ) (act : FineAct) (next : ℕ) → kind_at site ≡ kind → 168 ≤ site → StepIn kind w act next → (w % 2 ≡ 0) × (next % 2 ≡ 0)
turns-in WordKind.Row site w act next is far s = absurd (no-cell site WordKind.Row is far refl)
turns-in WordKind.Thread site w act next is far s = absurd (no-cell site WordKind.Thread is far refl)
turns-in WordKind.Domain site w act next is far s = absurd (no-cell site WordKind.Domain is far refl)
turns-in (WordKind.Cell kind) site w act next is far s = cell-free kind w act next s

-- a step of a cell finds its turn free in its word, and leaves it so
pub free-turns : (site w : ℕ) (act : FineAct) (next : ℕ) → 168 ≤ site → WordMay site w act next → (w % 2 ≡ 0) × (next % 2 ≡ 0)
free-turns site w act next far may = turns-in (kind_at site) site w act next refl far may.step
