-- What a fine step says is what the access-matrix machine's step says, where word, cell and table stand for its state.
use Rattle.um_refinement.proofs.Words.{◌≡◌, ◌≢◌, ℕ, Bool, true, false, [], Option, Some, refl, sym, ap, ◌∙◌, subst, ◌&&◌, not, slice_index_or, slice_set, if◌then◌else◌, nat_le, list_all, Given, Leftover, SetSaid, Ask, STATIC_ROWS, Access, Addr, Errno, Kind, Mode, Want, Status, allowed, bytes_at, to_thread, acted, State, is_user, object_at, pair_at, thread_at, with_pair, RowWord, Stage, given_of, is_live, left_of, verdict_of, Context, ObjectCell, Bytes, read, Processor, kind_of, allows, status_of, regions_allow, regions_of, set_of}
use Rattle.um_machine.specs.Objects as Plain
use Rattle.um_machine.specs.Table as T
use Rattle.um_fine.specs.Processor.{loaded}

-- A row word that stands for the object of a row and its pairs, where the object isn't between its `vacate` and its `recycle`.
pub record Stands (m : State) (x : ℕ) (birth : Bool) (w : RowWord) : Type 0 where
  pub pairs : w.permissions ≡ slice_index_or m.pairs x []
  pub status : (object_at m x).status ≡ status_of w.stage birth
  pub init : w.init ≡ (object_at m x).init
  pub public : w.public ≡ (object_at m x).public
  pub kind : (object_at m x).status ≢ Status.Free → (object_at m x).kind ≡ kind_of m.image x

live-stage : (s : Stage) (birth : Bool) → Plain.is_live (status_of s birth) ≡ is_live s
live-stage Stage.Free true = refl
live-stage Stage.Free false = refl
live-stage Stage.Live birth = refl
live-stage Stage.Dying birth = refl
live-stage Stage.Cleaning birth = refl

pub live : {m : State} {x : ℕ} {birth : Bool} {w : RowWord} → Stands m x birth w → is_live w.stage ≡ Plain.is_live (object_at m x).status
live {m} {x} {birth} {w} r = sym (ap Plain.is_live r.status ∙ live-stage w.stage birth)

-- a live object has the kind of its row
kind-here : (s : Status) (want : Option Kind) (k j : Option Kind) → (s ≢ Status.Free → k ≡ j) → (Plain.is_live s && Plain.has_kind want j) ≡ (Plain.is_live s && Plain.has_kind want k)
kind-here Status.Free want k j h = refl
kind-here Status.Reserved want k j h = refl
kind-here Status.Live want k j h = ap (Plain.has_kind want) (sym (h (λ e. absurd (subst not-free e tt))))
  where
    not-free : Status → Type 0
    not-free Status.Live = Unit {0}
    not-free _ = ⊥
kind-here Status.Gone want k j h = refl

-- the verdict of a check
verdict_form : Bool → Bool → Bool → Bool → Bool → Want → Option Errno
verdict_form fits user pair public init want =
    if not fits then Some Errno.EBADF
    else if user && not pair && not public then Some Errno.EPERM
    else Plain.init_verdict want init

pub verdict-agrees : {m : State} {x : ℕ} {birth : Bool} {w : RowWord} (t : ℕ) (mode : Mode) (kind : Option Kind) (want : Want) → Stands m x birth w → mode ≡ (thread_at m t).mode → verdict_of w t mode (Plain.has_kind kind (kind_of m.image x)) want ≡ Plain.row_verdict m t kind want x
unfolding verdict_form
verdict-agrees {m} {x} {birth} {w} t mode kind want r e =
    let fits : (is_live w.stage && Plain.has_kind kind (kind_of m.image x)) ≡ (Plain.is_live (object_at m x).status && Plain.has_kind kind (object_at m x).kind) =
    ap (λ b. b && Plain.has_kind kind (kind_of m.image x)) (live r) ∙ kind-here (object_at m x).status kind _ _ r.kind in
    λ i. verdict_form (fits i) (is_user (e i)) (slice_index_or (r.pairs i) t false) (r.public i) (r.init i) want

-- whether an object that is held still stands
gone-stage : (s : Stage) (birth : Bool) → s ≢ Stage.Free → Plain.is_gone (status_of s birth) ≡ not (is_live s)
gone-stage Stage.Free birth h = absurd (h refl)
gone-stage Stage.Live birth h = refl
gone-stage Stage.Dying birth h = refl
gone-stage Stage.Cleaning birth h = refl

pub gone : {m : State} {x : ℕ} {birth : Bool} {w : RowWord} → Stands m x birth w → w.stage ≢ Stage.Free → Plain.is_gone (object_at m x).status ≡ not (is_live w.stage)
gone {m} {x} {birth} {w} r h = ap Plain.is_gone r.status ∙ gone-stage w.stage birth h

given_form : Bool → Given
given_form gone = if gone then Given.Gone else Given.Done

given-turned : (b : Bool) → (if b then Given.Done else Given.Gone) ≡ given_form (not b)
unfolding given_form
given-turned true = refl
given-turned false = refl

pub given-agrees : {m : State} {x : ℕ} {birth : Bool} {w : RowWord} → Stands m x birth w → w.stage ≢ Stage.Free → given_of w ≡ T.given m x
unfolding given_form
given-agrees {m} {x} {birth} {w} r h = given-turned (is_live w.stage) ∙ ap given_form (sym (gone r h))

-- what marking says
set_form : Bool → Bool → Bool → SetSaid
set_form gone strict init =
    if gone then (if strict then SetSaid.Fail Errno.EBADF else SetSaid.Gone)
    else if strict && init then SetSaid.Fail Errno.EADDRINUSE
    else SetSaid.Done

pub set-agrees : {m : State} {x : ℕ} {birth : Bool} {w : RowWord} (strict : Bool) → Stands m x birth w → w.stage ≢ Stage.Free → set_of w strict ≡ T.set_said (object_at m x) strict
unfolding set_form
set-agrees {m} {x} {birth} {w} strict r h = λ i. set_form (sym (gone r h) i) strict (r.init i)

-- what dropping a pair says: in a run a pair is there of live objects alone
dropped_form : Bool → Bool → Leftover
dropped_form pair last = if not pair then Leftover.NoPair else if last then Leftover.Gone else Leftover.Kept

last-form : (pair there a b c : Bool) → (pair ≡ true → there ≡ true) → dropped_form pair ((a && there) && c) ≡ dropped_form pair (a && c)
unfolding dropped_form
last-form false there a b c h = refl
last-form true there true b c h = ap (λ v. dropped_form true (v && c)) (h refl)
last-form true there false b c h = refl

pub left-agrees : {m : State} {x : ℕ} {birth : Bool} {w : RowWord} (who : ℕ) → Stands m x birth w → w.dynamic ≡ nat_le STATIC_ROWS x → (pair_at m who x ≡ true → Plain.is_live (object_at m x).status ≡ true)
    → Plain.has_no_pair (with_pair m who x false) x ≡ list_all not (slice_set (slice_index_or m.pairs x []) who false)
    → left_of w who ≡ T.dropped m who x
unfolding dropped_form
left-agrees {m} {x} {birth} {w} who r dynamic lives same =
    (λ i. dropped_form (slice_index_or (r.pairs i) who false) ((dynamic i && live r i) && list_all not (slice_set (r.pairs i) who false)))
    ∙ last-form (pair_at m who x) (Plain.is_live (object_at m x).status) (nat_le STATIC_ROWS x) true _ lives
    ∙ ap (λ v. dropped_form (pair_at m who x) (nat_le STATIC_ROWS x && v)) (sym same)

-- what work does, on a cell that stands for the object
pub work-agrees : (m : State) (t x : ℕ) (a : Addr) (ask : Ask) (o : ObjectCell) (c : Context)
    → x ≡ T.row_of m a → o.contents ≡ (object_at m x).contents → o.waiters ≡ (object_at m x).waiters → c.priority ≡ (thread_at m t).priority → c.buffer ≡ (thread_at m t).buffer → c.until ≡ (thread_at m t).until
    → acted o.contents o.waiters (record { thread = to_thread t; priority = c.priority; ask = ask; bytes = T.bytes_given c.buffer ask; until = c.until }) ≡ T.work_of m t a ask
work-agrees m t x a ask o c at contents waiters priority buffer until =
    (λ i. acted (contents i) (waiters i) (record { thread = to_thread t; priority = priority i; ask = ask; bytes = T.bytes_given (buffer i) ask; until = until i }))
    ∙ ap (λ y. acted (object_at m y).contents (object_at m y).waiters (record { thread = to_thread t; priority = (thread_at m t).priority; ask = ask; bytes = T.bytes_given (thread_at m t).buffer ask; until = (thread_at m t).until })) at

-- bytes, where the memory cell has the plain memory, and what is allowed, where the table has the thread's regions
pub read-agrees : (m : State) (b : Bytes) (a n : ℕ) → b.memory ≡ m.memory → b.stacks ≡ m.stacks → read m.image b a n ≡ bytes_at m a n
read-agrees m b a n memory stacks = λ i. read m.image (record b { memory = memory i; stacks = stacks i }) a n

pub allowed-agrees : (m : State) (p : Processor) (t : ℕ) (access : Access) (a n : ℕ) → loaded m.image p.table ≡ regions_of m t → allows m.image p access a n ≡ allowed m t access a n
allowed-agrees m p t access a n e = ap (λ rs. regions_allow rs access a n) e
