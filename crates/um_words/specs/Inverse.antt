-- Packing and unpacking are inverse.
use Rattle.std.proofs.Common.{◌≡◌, ℕ, ◌+◌, ◌*◌, ◌<◌, ◌/◌, ◌%◌, Bool, true, false, not, Option, Some, None, refl, sym, ap, ◌∙◌, arith, subst}
use Rattle.std.specs.Prelude.{◌==◌, nat_lt, ◌&&◌, ◌||◌, if◌then◌else◌, IfSome}
use Rattle.std.proofs.lemmas.Bool.Decides.{nat_tests}
use Rattle.um_base.specs.declared.names.Mode.{Mode}
use Rattle.um_machine.specs.declared.thread.Life.{Life}
use Rattle.um_machine.specs.State.{is_user}
use Rattle.um_words.specs.declared.row_word.RowWord.{RowWord}
use Rattle.um_words.specs.declared.row_word.Stage.{Stage}
use Rattle.um_words.specs.declared.thread_word.ThreadWord.{ThreadWord}
use Rattle.um_words.specs.declared.dom_word.DomWord.{DomWord}
use Rattle.um_words.specs.declared.cell_word.CellWord.{CellWord}
use Rattle.um_words.specs.Bits.{bit, bits_of, number_of}
use Rattle.um_words.specs.BitLists.{number_of-bits}
use Rattle.um_words.specs.Packed.{stage_code, stage_of, packed_row, row_of, FitsRow, life_code, life_of, mode_of, note_code, note_of, is_note, packed_thread, thread_in, is_thread, thread_of, FitsThread, packed_domain, domain_in, is_domain, domain_of, FitsDomain, packed_cell, cell_of, FitsCell}

pub bit-small : (b : Bool) → bit b < 2
bit-small true = omega arith
bit-small false = omega arith

bit-back : (b : Bool) → (bit b == 1) ≡ b
bit-back true = refl
bit-back false = refl

bit-test : (n : ℕ) → n < 2 → bit (n == 1) ≡ n
bit-test n h = elim (n == 1) as (λ b. ((n == 1) ≡ b) → bit b ≡ n) [ true ↦ λ e. grind (arith, nat_tests) | false ↦ λ e. grind (arith, nat_tests) ] refl

pub stage-small : (s : Stage) → stage_code s < 4
stage-small Stage.Free = omega arith
stage-small Stage.Live = omega arith
stage-small Stage.Dying = omega arith
stage-small Stage.Cleaning = omega arith

stage-back : (s : Stage) → stage_of (stage_code s) ≡ s
stage-back s = elim s as (λ z. stage_of (stage_code z) ≡ z) [ Stage.Free ↦ refl | Stage.Live ↦ refl | Stage.Dying ↦ refl | Stage.Cleaning ↦ refl ]

stage-test : (n : ℕ) → n < 4 → stage_code (stage_of n) ≡ n
stage-test n h = grind (arith, nat_tests)

-- the digits of a row's word
pub row-digits : (p a b c s k n w : ℕ) → p < 4294967296 → a < 2 → b < 2 → c < 2 → s < 4 → k < 128
    → w ≡ p + 4294967296 * a + 8589934592 * b + 17179869184 * c + 34359738368 * s + 137438953472 * k + 17592186044416 * n
    → (w % 4294967296 ≡ p) × (w / 4294967296 % 2 ≡ a) × (w / 8589934592 % 2 ≡ b) × (w / 17179869184 % 2 ≡ c) × (w / 34359738368 % 4 ≡ s) × (w / 137438953472 % 128 ≡ k) × (w / 17592186044416 ≡ n)
row-digits p a b c s k n w hp ha hb hc hs hk e = (omega arith, omega arith, omega arith, omega arith, omega arith, omega arith, omega arith)

pub row-back : (r : RowWord) (p : ℕ) → p ≡ number_of r.permissions → bits_of 32 p ≡ r.permissions → p < 4294967296 → FitsRow r → row_of (packed_row r) ≡ r
row-back r p is back small f =
    let d = row-digits (number_of r.permissions) (bit r.init) (bit r.public) (bit r.dynamic) (stage_code r.stage) r.claims r.number (packed_row r) (subst (λ n. n < 4294967296) is small) (bit-small r.init) (bit-small r.public) (bit-small r.dynamic) (stage-small r.stage) f.claims refl in
    λ i. record {
      permissions = (ap (bits_of 32) (d.0 ∙ sym is) ∙ back) i;
      init = (ap (λ n. n == 1) d.1 ∙ bit-back r.init) i;
      public = (ap (λ n. n == 1) d.2 ∙ bit-back r.public) i;
      dynamic = (ap (λ n. n == 1) d.3 ∙ bit-back r.dynamic) i;
      stage = (ap stage_of d.4 ∙ stage-back r.stage) i;
      claims = d.5 i;
      number = d.6 i;
    }

pub row-whole : (w : ℕ) → packed_row (row_of w) ≡ w
row-whole w =
    let p = number_of-bits 32 (w % 4294967296) (omega arith) in
    let a = bit-test (w / 4294967296 % 2) (omega arith) in
    let b = bit-test (w / 8589934592 % 2) (omega arith) in
    let c = bit-test (w / 17179869184 % 2) (omega arith) in
    let s = stage-test (w / 34359738368 % 4) (omega arith) in
    omega arith

life-small : (l : Life) → life_code l < 3
life-small Life.Unborn = omega arith
life-small Life.Living = omega arith
life-small Life.Ended = omega arith

life-back : (l : Life) → life_of (life_code l) ≡ l
life-back l = elim l as (λ z. life_of (life_code z) ≡ z) [ Life.Unborn ↦ refl | Life.Living ↦ refl | Life.Ended ↦ refl ]

life-test : (n : ℕ) → n < 3 → life_code (life_of n) ≡ n
life-test n h = grind (arith, nat_tests)

mode-back : (m : Mode) → mode_of (bit (not (is_user m)) == 1) ≡ m
mode-back Mode.User = refl
mode-back Mode.Supervisor = refl

mode-test : (n : ℕ) → n < 2 → bit (not (is_user (mode_of (n == 1)))) ≡ n
mode-test n h = elim (n == 1) as (λ b. ((n == 1) ≡ b) → bit (not (is_user (mode_of b))) ≡ n) [ true ↦ λ e. grind (arith, nat_tests) | false ↦ λ e. grind (arith, nat_tests) ] refl

note-small : (note : Option ℕ) → IfSome note (λ site. site < 65536) → note_code note < 131072
note-small None h = omega arith
note-small (Some site) h = omega arith

odd-test : (n : ℕ) → ((1 + 2 * n) % 2 == 1) ≡ true
odd-test n = let e : (1 + 2 * n) % 2 ≡ 1 = omega arith in ap (λ m. m == 1) e

half-odd : (n : ℕ) → (1 + 2 * n) / 2 ≡ n
half-odd n = omega arith

note-back : (note : Option ℕ) → note_of (note_code note) ≡ note
note-back None = refl
note-back (Some site) = (λ i. if odd-test site i then Some (half-odd site i) else None)

note-fits : (note : Option ℕ) → is_note (note_code note) ≡ true
note-fits None = refl
note-fits (Some site) = ap (λ b. b || (1 + 2 * site == 0)) (odd-test site)

-- a code that is odd, and one that is even
note-odd : (n : ℕ) → n % 2 ≡ 1 → note_code (note_of n) ≡ n
note-odd n h = ap (λ b. note_code (if b then Some (n / 2) else None)) (ap (λ m. m == 1) h) ∙ omega arith

note-none : (n : ℕ) → n ≡ 0 → note_code (note_of n) ≡ n
note-none n h = ap (λ m. note_code (note_of m)) h ∙ sym h

note-by : (odd zero : Bool) (n : ℕ) → (n % 2 == 1) ≡ odd → (n == 0) ≡ zero → (odd || zero) ≡ true → note_code (note_of n) ≡ n
note-by true zero n e z h = note-odd n (grind (arith, nat_tests))
note-by false true n e z h = note-none n (grind (arith, nat_tests))
note-by false false n e z h = absurd (cc)

note-test : (n : ℕ) → is_note n ≡ true → note_code (note_of n) ≡ n
note-test n h = note-by (n % 2 == 1) (n == 0) n refl refl h

pub thread-digits : (l a b m d p q c n w : ℕ) → l < 3 → a < 2 → b < 2 → m < 2 → d < 8 → p < 2 → q < 2 → c < 131072
    → w ≡ l + 4 * a + 8 * b + 16 * m + 32 * d + 256 * p + 512 * q + 1024 * c + 68719476736 * n
    → (w % 4 ≡ l) × (w / 4 % 2 ≡ a) × (w / 8 % 2 ≡ b) × (w / 16 % 2 ≡ m) × (w / 32 % 8 ≡ d) × (w / 256 % 2 ≡ p) × (w / 512 % 2 ≡ q) × (w / 1024 % 131072 ≡ c) × (w / 134217728 % 512 ≡ 0) × (w / 68719476736 ≡ n)
thread-digits l a b m d p q c n w hl ha hb hm hd hp hq hc e = (omega arith, omega arith, omega arith, omega arith, omega arith, omega arith, omega arith, omega arith, omega arith, omega arith)

-- the digits of a thread's word
abbrev pub ThreadDigits : ThreadWord → ℕ → Type 0
ThreadDigits t w =
    (w % 4 ≡ life_code t.life) × (w / 4 % 2 ≡ bit t.doomed) × (w / 8 % 2 ≡ bit t.held) × (w / 16 % 2 ≡ bit (not (is_user t.mode))) × (w / 32 % 8 ≡ t.domain)
    × (w / 256 % 2 ≡ bit t.aborted) × (w / 512 % 2 ≡ bit t.suspended) × (w / 1024 % 131072 ≡ note_code t.note) × (w / 134217728 % 512 ≡ 0) × (w / 68719476736 ≡ t.number)

pub digits-of : (t : ThreadWord) → t.domain < 8 → IfSome t.note (λ site. site < 65536) → ThreadDigits t (packed_thread t)
digits-of t domain note =
    thread-digits (life_code t.life) (bit t.doomed) (bit t.held) (bit (not (is_user t.mode))) t.domain (bit t.aborted) (bit t.suspended) (note_code t.note) t.number (packed_thread t)
    (life-small t.life) (bit-small t.doomed) (bit-small t.held) (bit-small (not (is_user t.mode))) domain (bit-small t.aborted) (bit-small t.suspended) (note-small t.note note) refl

pub thread-back : (t : ThreadWord) → FitsThread t → thread_of (packed_thread t) ≡ Some t
thread-back t f =
    let d = digits-of t f.domain f.note in
    let w = packed_thread t in
    let small : nat_lt (w % 4) 3 ≡ true = let l = life-small t.life in let e = d.0 in grind (arith, nat_tests) in
    let zeros : (w / 134217728 % 512 == 0) ≡ true = ap (λ n. n == 0) d.8 in
    let noted : is_note (w / 1024 % 131072) ≡ true = ap is_note d.7 ∙ note-fits t.note in
    let whole : is_thread w ≡ true = λ i. small i && zeros i && noted i in
    ap (λ b. if b then Some (thread_in w) else None) whole
    ∙ ap Some (λ i. record {
      life = (ap life_of d.0 ∙ life-back t.life) i;
      doomed = (ap (λ n. n == 1) d.1 ∙ bit-back t.doomed) i;
      held = (ap (λ n. n == 1) d.2 ∙ bit-back t.held) i;
      mode = (ap (λ n. mode_of (n == 1)) d.3 ∙ mode-back t.mode) i;
      domain = d.4 i;
      aborted = (ap (λ n. n == 1) d.5 ∙ bit-back t.aborted) i;
      suspended = (ap (λ n. n == 1) d.6 ∙ bit-back t.suspended) i;
      note = (ap note_of d.7 ∙ note-back t.note) i;
      number = d.9 i;
    })

pub thread-whole : (w : ℕ) → w % 4 < 3 → w / 134217728 % 512 ≡ 0 → is_note (w / 1024 % 131072) ≡ true → packed_thread (thread_in w) ≡ w
thread-whole w h z y =
    let l = life-test (w % 4) h in
    let a = bit-test (w / 4 % 2) (omega arith) in
    let b = bit-test (w / 8 % 2) (omega arith) in
    let m = mode-test (w / 16 % 2) (omega arith) in
    let p = bit-test (w / 256 % 2) (omega arith) in
    let q = bit-test (w / 512 % 2) (omega arith) in
    let c = note-test (w / 1024 % 131072) y in
    omega arith

both-hold : (a b c : Bool) → (a && b && c) ≡ true → (a ≡ true) × (b ≡ true) × (c ≡ true)
both-hold true true true h = (refl, refl, refl)
both-hold true true false h = absurd (cc)
both-hold true false c h = absurd (cc)
both-hold false b c h = absurd (cc)

pub thread-read : (w : ℕ) → is_thread w ≡ true → packed_thread (thread_in w) ≡ w
thread-read w h =
    let b = both-hold (nat_lt (w % 4) 3) (w / 134217728 % 512 == 0) (is_note (w / 1024 % 131072)) h in
    thread-whole w (let l = b.0 in grind (arith, nat_tests)) (let z = b.1 in grind (arith, nat_tests)) b.2

pub domain-digits : (a b r v n w : ℕ) → a < 2 → b < 2 → r < 128 → v < 1048576
    → w ≡ a + 2 * b + 4 * r + 512 * v + 68719476736 * n
    → (w % 2 ≡ a) × (w / 2 % 2 ≡ b) × (w / 4 % 128 ≡ r) × (w / 512 % 1048576 ≡ v) × (w / 536870912 % 128 ≡ 0) × (w / 68719476736 ≡ n)
domain-digits a b r v n w ha hb hr hv e = (omega arith, omega arith, omega arith, omega arith, omega arith, omega arith)

pub domain-back : (d : DomWord) → FitsDomain d → domain_of (packed_domain d) ≡ Some d
domain-back d f =
    let g = domain-digits (bit d.init) (bit d.writer) d.readers d.version d.number (packed_domain d) (bit-small d.init) (bit-small d.writer) f.readers f.version refl in
    let w = packed_domain d in
    let whole : is_domain w ≡ true = ap (λ n. n == 0) g.4 in
    ap (λ b. if b then Some (domain_in w) else None) whole
    ∙ ap Some (λ i. record {
      init = (ap (λ n. n == 1) g.0 ∙ bit-back d.init) i;
      writer = (ap (λ n. n == 1) g.1 ∙ bit-back d.writer) i;
      readers = g.2 i;
      version = g.3 i;
      number = g.5 i;
    })

pub domain-whole : (w : ℕ) → w / 536870912 % 128 ≡ 0 → packed_domain (domain_in w) ≡ w
domain-whole w z =
    let a = bit-test (w % 2) (omega arith) in
    let b = bit-test (w / 2 % 2) (omega arith) in
    omega arith

pub cell-digits : (t r u o n w : ℕ) → t < 2 → r < 256 → u < 256 → o < 524288
    → w ≡ t + 2 * r + 512 * u + 131072 * o + 68719476736 * n
    → (w % 2 ≡ t) × (w / 2 % 256 ≡ r) × (w / 512 % 256 ≡ u) × (w / 131072 % 524288 ≡ o) × (w / 68719476736 ≡ n)
cell-digits t r u o n w ht hr hu ho e = (omega arith, omega arith, omega arith, omega arith, omega arith)

pub cell-back : (c : CellWord) → c.ready < 256 → c.running < 256 → FitsCell c → cell_of (packed_cell c) ≡ c
cell-back c hr hu f =
    let g = cell-digits (bit c.turn) c.ready c.running c.owed c.number (packed_cell c) (bit-small c.turn) hr hu f.owed refl in
    λ i. record { turn = (ap (λ n. n == 1) g.0 ∙ bit-back c.turn) i; ready = g.1 i; running = g.2 i; owed = g.3 i; number = g.4 i }

pub cell-whole : (w : ℕ) → packed_cell (cell_of w) ≡ w
cell-whole w = let a = bit-test (w % 2) (omega arith) in omega arith

pub thread-number : (t : ThreadWord) → t.domain < 8 → IfSome t.note (λ site. site < 65536) → packed_thread t / 68719476736 ≡ t.number
thread-number t domain note = (digits-of t domain note).9

pub domain-number : (d : DomWord) → d.readers < 128 → d.version < 1048576 → packed_domain d / 68719476736 ≡ d.number
domain-number d hr hv = (domain-digits (bit d.init) (bit d.writer) d.readers d.version d.number (packed_domain d) (bit-small d.init) (bit-small d.writer) hr hv refl).5

pub cell-number : (c : CellWord) → c.ready < 256 → c.running < 256 → c.owed < 524288 → packed_cell c / 68719476736 ≡ c.number
cell-number c hr hu ho = (cell-digits (bit c.turn) c.ready c.running c.owed c.number (packed_cell c) (bit-small c.turn) hr hu ho refl).4

pub cell-turn : (c : CellWord) → c.ready < 256 → c.running < 256 → c.owed < 524288 → packed_cell c % 2 ≡ bit c.turn
cell-turn c hr hu ho = (cell-digits (bit c.turn) c.ready c.running c.owed c.number (packed_cell c) (bit-small c.turn) hr hu ho refl).0
