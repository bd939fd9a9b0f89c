-- The parts of a state that the laws over events speak of: the calls of the threads, the statuses of the rows, and the pairs.
use Rattle.std.proofs.Common.{◌≡◌, ℕ, zero, suc, ◌+◌, Bool, false, List, [], ◌∷◌, map, refl, ap, ◌∙◌, slice_index_or, slice_set, Some, None, Option}
use Rattle.std.proofs.Math.Seq.{map-set_same}
use Rattle.um_base.specs.declared.image.Image.{Image}
use Rattle.um_base.specs.declared.ask.Told.{Told}
use Rattle.um_base.specs.declared.names.Kind.{Kind}
use Rattle.um_base.specs.declared.names.ThreadIx.{ThreadIx}
use Rattle.um_machine.specs.declared.object.Object.{Object}
use Rattle.um_machine.specs.declared.object.Status.{Status}
use Rattle.um_machine.specs.declared.thread.Thread.{Thread}
use Rattle.um_machine.specs.Order.{Steps}
use Rattle.um_machine.specs.State.{State, nobody, vacant, no_rows, thread_at, object_at, is_living, with_thread, with_object}
use Rattle.um_machine.specs.Table.{with_dues, all_woken}

-- a thread's call: the rows that it checked, the steps that are left, whether it keeps its own object and lives, and its stack
pub record Call : Type 0 where
  pub checked : List Bool
  pub pending : Steps
  pub keeps : Bool
  pub living : Bool
  pub stack : ℕ

pub record Core : Type 0 where
  pub image : Image
  pub calls : List Call
  pub statuses : List Status
  pub inits : List Bool
  pub kinds : List (Option Kind)
  pub pairs : List (List Bool)

abbrev pub call_of : Thread → Call
call_of thread = record { checked = thread.checked; pending = thread.pending; keeps = thread.keeps_own; living = is_living thread.life; stack = thread.stack.0 }

-- all of a call but its steps
abbrev pub rest_of : Call → Call
rest_of call = record call { pending = [] }

abbrev pub status_of : Object → Status
status_of o = o.status

abbrev pub init_of : Object → Bool
init_of o = o.init

abbrev pub kind_of : Object → Option Kind
kind_of o = o.kind

abbrev pub core_of : State → Core
core_of s =
    record {
      image = s.image;
      calls = map call_of s.threads;
      statuses = map status_of s.objects;
      inits = map init_of s.objects;
      kinds = map kind_of s.objects;
      pairs = s.pairs;
    }

abbrev pub idle : Call
idle = record { checked = no_rows; pending = []; keeps = false; living = false; stack = 0 }

abbrev pub call_at : Core → ℕ → Call
call_at c u = slice_index_or c.calls u idle

abbrev pub status_at : Core → ℕ → Status
status_at c x = slice_index_or c.statuses x Status.Free

abbrev pub has_pair : Core → ℕ → ℕ → Bool
has_pair c u x = slice_index_or (slice_index_or c.pairs x []) u false

abbrev pub has_checked : Core → ℕ → ℕ → Bool
has_checked c u x = slice_index_or (call_at c u).checked x false

abbrev pub with_call : Core → ℕ → Call → Core
with_call c t call = record c { calls = slice_set c.calls t call }

-- a thread has other steps left
abbrev pub with_steps : Core → ℕ → Steps → Core
with_steps c t steps = with_call c t (record (call_at c t) { pending = steps })

abbrev pub init_at : Core → ℕ → Bool
init_at c x = slice_index_or c.inits x false

abbrev pub kind_at : Core → ℕ → Option Kind
kind_at c x = slice_index_or c.kinds x None

abbrev pub with_init : Core → ℕ → Bool → Core
with_init c x init = record c { inits = slice_set c.inits x init }

abbrev pub with_kind : Core → ℕ → Option Kind → Core
with_kind c x kind = record c { kinds = slice_set c.kinds x kind }

abbrev pub with_status : Core → ℕ → Status → Core
with_status c x status = record c { statuses = slice_set c.statuses x status }

abbrev pub with_seat : Core → ℕ → ℕ → Bool → Core
with_seat c u x there = record c { pairs = slice_set c.pairs x (slice_set (slice_index_or c.pairs x []) u there) }

-- what holds of a written element and of all that stood before holds of each one
pub at_set : {A : Type 0} (P : ℕ → A → Type 0) (xs : List A) (t u : ℕ) (x d : A) → P t x → P u (slice_index_or xs u d) → P u (slice_index_or (slice_set xs t x) u d)
at_set P [] t u x d new old = old
at_set P (y ∷ ys) zero zero x d new old = new
at_set P (y ∷ ys) zero (suc u) x d new old = old
at_set P (y ∷ ys) (suc t) zero x d new old = old
at_set P (y ∷ ys) (suc t) (suc u) x d new old = at_set (λ n. P (suc n)) ys t u x d new old

pub map_set : {A B : Type 0} (f : A → B) (xs : List A) (t : ℕ) (x : A) → map f (slice_set xs t x) ≡ slice_set (map f xs) t (f x)
map_set f [] t x = refl
map_set f (y ∷ ys) zero x = refl
map_set f (y ∷ ys) (suc t) x = ap (λ zs. f y ∷ zs) (map_set f ys t x)

pub map_at : {A B : Type 0} (f : A → B) (xs : List A) (u : ℕ) (d : A) → slice_index_or (map f xs) u (f d) ≡ f (slice_index_or xs u d)
map_at f [] u d = refl
map_at f (y ∷ ys) zero d = refl
map_at f (y ∷ ys) (suc u) d = map_at f ys u d

pub call_is : (s : State) (u : ℕ) → call_at (core_of s) u ≡ call_of (thread_at s u)
call_is s u = map_at call_of s.threads u nobody

pub status_is : (s : State) (x : ℕ) → status_at (core_of s) x ≡ (object_at s x).status
status_is s x = map_at status_of s.objects x vacant

-- a thread is written
pub core-thread : (s : State) (c : Core) (t : ℕ) (me : Thread) (call : Call) → core_of s ≡ c → call_of me ≡ call → core_of (with_thread s t me) ≡ with_call c t call
core-thread s c t me call e f =
    ap (λ (calls : List Call). record (core_of s) { calls = calls }) (map_set call_of s.threads t me)
    ∙ ap (λ (d : Core). with_call d t (call_of me)) e ∙ ap (λ (d : Call). with_call c t d) f

pub core-same : (s : State) (t : ℕ) (me : Thread) → call_of me ≡ call_of (thread_at s t) → core_of (with_thread s t me) ≡ core_of s
core-same s t me e = ap (λ (calls : List Call). record (core_of s) { calls = calls }) (map-set_same call_of s.threads t me nobody e)

pub init_is : (s : State) (x : ℕ) → init_at (core_of s) x ≡ (object_at s x).init
init_is s x = map_at init_of s.objects x vacant

pub kind_is : (s : State) (x : ℕ) → kind_at (core_of s) x ≡ (object_at s x).kind
kind_is s x = map_at kind_of s.objects x vacant

-- an object is written
pub core-object : (s : State) (x : ℕ) (o : Object) → core_of (with_object s x o) ≡ with_kind (with_init (with_status (core_of s) x o.status) x o.init) x o.kind
core-object s x o =
    λ i. record (core_of s) { statuses = map_set status_of s.objects x o i; inits = map_set init_of s.objects x o i; kinds = map_set kind_of s.objects x o i }

pub core-status : (s : State) (x : ℕ) (o : Object) → o.init ≡ (object_at s x).init → o.kind ≡ (object_at s x).kind → core_of (with_object s x o) ≡ with_status (core_of s) x o.status
core-status s x o e f =
    λ i. record (core_of s) { statuses = map_set status_of s.objects x o i; inits = map-set_same init_of s.objects x o vacant e i; kinds = map-set_same kind_of s.objects x o vacant f i }

pub core-init : (s : State) (x : ℕ) (o : Object) → o.status ≡ (object_at s x).status → o.kind ≡ (object_at s x).kind → core_of (with_object s x o) ≡ with_init (core_of s) x o.init
core-init s x o e f =
    λ i. record (core_of s) { statuses = map-set_same status_of s.objects x o vacant e i; inits = map_set init_of s.objects x o i; kinds = map-set_same kind_of s.objects x o vacant f i }

abbrev pub Seat : Type 0
Seat = Status × Bool × Option Kind

abbrev pub seat_of : Object → Seat
seat_of o = (o.status, o.init, o.kind)

pub core-kept : (s : State) (x : ℕ) (o : Object) → seat_of o ≡ seat_of (object_at s x) → core_of (with_object s x o) ≡ core_of s
core-kept s x o e =
    λ i. record (core_of s) {
      statuses = map-set_same status_of s.objects x o vacant (ap (λ (seat : Seat). seat.0) e) i;
      inits = map-set_same init_of s.objects x o vacant (ap (λ (seat : Seat). seat.1) e) i;
      kinds = map-set_same kind_of s.objects x o vacant (ap (λ (seat : Seat). seat.2) e) i;
    }

-- what is due changes no call, and neither does a word to those who are woken
calls-dues : (x u : ℕ) (holders : List Bool) (ts : List Thread) → map call_of (with_dues x u holders ts) ≡ map call_of ts
calls-dues x u holders [] = refl
calls-dues x u holders (me ∷ ts) = ap (λ zs. call_of me ∷ zs) (calls-dues x (u + 1) holders ts)

pub core-dues : (s : State) (x : ℕ) (holders : List Bool) → core_of (record s { threads = with_dues x 0 holders s.threads }) ≡ core_of s
core-dues s x holders = ap (λ (calls : List Call). record (core_of s) { calls = calls }) (calls-dues x 0 holders s.threads)

pub core-woken : (ws : List (ThreadIx × Told)) (s : State) → core_of (all_woken ws s) ≡ core_of s
core-woken [] s = refl
core-woken (w ∷ ws) s = core-woken ws (with_thread s w.0.0 (record (thread_at s w.0.0) { told = Some w.1 })) ∙ core-same s w.0.0 (record (thread_at s w.0.0) { told = Some w.1 }) refl
