-- The claims that threads have by their lives, and those of lives that are about to begin: which steps of the machine change them. They are a
-- permission on a new thread's own object, its start, and the clearing of its mark at its end.
use Rattle.um_refinement.proofs.Words.{◌≡◌, ℕ, ◌+◌, ◌<◌, Bool, true, false, length, Option, Some, None, refl, sym, ap, ◌∙◌, arith, ℤ, ◌==◌, ◌&&◌, not, if◌then◌else◌, false≢true, Image, THREADS, Addr, Mode, Row, ThreadIx, own_row, Pending, Thread, Steps, State, object_at, thread_at, with_object, with_thread, Next, gone, one_if, total, Ignores, all_other, effects_of, key-same, keys-wrote, next_of, wrote, length-map, keys, set-keys, changed-same, held-same}
use Rattle.um_machine.specs.Table as T
use Rattle.um_machine.specs.Writes.{cut}
use Rattle.um_machine.proofs.EffectLemmas as E
use Rattle.um_refinement.specs.Claims.{creates}
use Rattle.um_refinement.proofs.Sums.{total-one, total-same}
use Rattle.um_refinement.proofs.ThreadLists.{at-here, set-else, set-long}

-- what is followed of a thread: whether it keeps its own object, and whom it creates
record Key : Type 0 where
  keeps : Bool
  child : Option ThreadIx

abbrev key_of : Thread → Key
key_of me = record { keeps = me.keeps_own; child = me.child }

ignores : Ignores key_of all_other
ignores = record { due = λ h me due. refl; told = λ h me told. refl; domain = λ h me domain. refl; doomed = λ h me. refl; flagged = λ h me aborted suspended. refl }

-- the steps that leave that of all threads: a thread that ends has no child
abbrev pub Stays : Option ThreadIx → Pending → Type 0
Stays child Pending.Exit = child ≡ None
Stays child Pending.Killed = child ≡ None
Stays child (Pending.Fatal reason cause) = child ≡ None
Stays child (Pending.Own who) = ⊥
Stays child (Pending.Start who script stack priority mode) = ⊥
Stays child (Pending.ClearInit a) = ⊥
Stays child q = Unit {0}

abbrev KeepsKey : Next → Type 0
KeepsKey (Next.owns keeps) = ⊥
KeepsKey (Next.creates who) = ⊥
KeepsKey Next.starts = ⊥
KeepsKey Next.exits = ⊥
KeepsKey (Next.fatal reason) = ⊥
KeepsKey next = Unit {0}

gone-key : (left : Steps) (u : State) (t : ℕ) (next : Next) (me : Thread) → KeepsKey next → key_of (gone left u t next me) ≡ key_of me
gone-key left u t (Next.on change way) me h = changed-same key_of (λ me registers reply buffer until. refl) change me
gone-key left u t (Next.checks x v way) me h = held-same key_of (λ me checked. refl) x v me
gone-key left u t (Next.begins None) me h = refl
gone-key left u t (Next.begins (Some instr)) me h = refl
gone-key left u t (Next.resumes None) me h = refl
gone-key left u t (Next.resumes (Some told)) me h = refl
gone-key left u t (Next.owns keeps) me h = absurd h
gone-key left u t (Next.creates who) me h = absurd h
gone-key left u t Next.starts me h = absurd h
gone-key left u t Next.exits me h = absurd h
gone-key left u t (Next.fatal reason) me h = absurd h
gone-key left u t next me h = refl

module _ (m : State) (t x : ℕ) where
  abbrev me : Thread
  me = thread_at m t

  ends-alike : (th : Thread) → th.keeps_own ≡ me.keeps_own → th.child ≡ None → me.child ≡ None → keys key_of (with_thread m t th) ≡ keys key_of m
  ends-alike th keeps none h = set-keys key_of m.threads t th (λ i. record { keeps = keeps i; child = (none ∙ sym h) i })

  pub keys-after : (q : Pending) (rest : Steps) → Stays me.child q → keys key_of (T.after m t x q rest) ≡ keys key_of m
  keys-after Pending.Exit rest h = ends-alike _ refl refl h
  keys-after Pending.Killed rest h = ends-alike _ refl refl h
  keys-after (Pending.Cut who) rest h = set-keys key_of m.threads who.0 (cut (thread_at m who.0)) refl
  keys-after (Pending.Fatal reason cause) rest h = ends-alike _ refl refl h
  keys-after (Pending.Own who) rest h = absurd h
  keys-after (Pending.Start who script stack priority mode) rest h = absurd h
  keys-after (Pending.ClearInit a) rest h = absurd h
  keys-after q rest h = E.keys-after key_of all_other ignores m t x q rest refl (λ u th. gone-key rest u t (next_of m t x q) th tt)

keys-long : (m s : State) → keys key_of s ≡ keys key_of m → length s.threads ≡ length m.threads
keys-long m s e = sym (length-map s.threads key_of) ∙ (ap length e ∙ length-map m.threads key_of)

-- The sums.

module _ (image : Image) (x : ℕ) where
  abbrev pub keeps : Thread → ℕ → ℕ
  keeps me t = one_if (me.keeps_own && (own_row image t == x))

  abbrev pub begins : Thread → ℕ
  begins me = one_if (creates image x me.child)

  -- claims of lives, and of lives that are about to begin
  abbrev pub lives : State → ℕ
  lives s = total (λ t. one_if ((thread_at s t).keeps_own && (own_row image t == x))) THREADS

  abbrev pub births : State → ℕ
  births s = total (λ t. one_if (creates image x (thread_at s t).child)) THREADS

  alike-sums : (m s : State) → keys key_of s ≡ keys key_of m → (lives s ≡ lives m) × (births s ≡ births m)
  alike-sums m s e = (
    total-same (λ t. keeps (thread_at s t) t) (λ t. keeps (thread_at m t) t) THREADS (λ t l. ap (λ (k : Key). one_if (k.keeps && (own_row image t == x))) (key-same key_of m s e t)),
    total-same (λ t. begins (thread_at s t)) (λ t. begins (thread_at m t)) THREADS (λ t l. ap (λ (k : Key). one_if (creates image x k.child)) (key-same key_of m s e t)),
  )

  -- where one thread is written
  set-sums : (s : State) (v : ℕ) (th : Thread) → v < THREADS → length s.threads ≡ THREADS
      → (lives (with_thread s v th) + keeps (thread_at s v) v ≡ lives s + keeps th v) × (births (with_thread s v th) + begins (thread_at s v) ≡ births s + begins th)
  set-sums s v th l long = (
    total-one (λ t. keeps (thread_at (with_thread s v th) t) t) (λ t. keeps (thread_at s t) t) THREADS v l (λ k ne. ap (λ (z : Thread). keeps z k) (set-else s.threads v k th (λ e. ne (sym e))))
        ∙ ap (λ (z : Thread). lives s + keeps z v) (at-here s.threads v th (omega (arith, l, long))),
    total-one (λ t. begins (thread_at (with_thread s v th) t)) (λ t. begins (thread_at s t)) THREADS v l (λ k ne. ap begins (set-else s.threads v k th (λ e. ne (sym e))))
        ∙ ap (λ (z : Thread). births s + begins z) (at-here s.threads v th (omega (arith, l, long))),
  )

  -- A step that is none of those.
  pub sums-stay : (m : State) (t n : ℕ) (q : Pending) (rest : Steps) → Stays (thread_at m t).child q
      → (lives (T.after m t n q rest) ≡ lives m) × (births (T.after m t n q rest) ≡ births m)
  sums-stay m t n q rest h = alike-sums m (T.after m t n q rest) (keys-after m t n q rest h)

  module _ (m : State) (t : ℕ) (few : t < THREADS) (long : length m.threads ≡ THREADS) where
    -- a thread is given the permission on its own object
    pub sums-own : (n : ℕ) (who : ThreadIx) (rest : Steps) → (thread_at m t).child ≡ None
        → (lives (T.after m t n (Pending.Own who) rest) ≡ lives m) × (births (T.after m t n (Pending.Own who) rest) ≡ births m + one_if (own_row image who.0 == x))
    sums-own n who rest none =
        let ws = effects_of m t n (Pending.Own who) in
        let s = wrote ws m in
        let e = keys-wrote key_of all_other ignores ws m refl in
        let sums = alike-sums m s e in
        let lives-same = sums.0 in
        let births-same = sums.1 in
        let th = gone rest s t (Next.creates who) (thread_at s t) in
        let here = set-sums s t th few (keys-long m s e ∙ long) in
        let lives-here = here.0 in
        let births-here = here.1 in
        let before : begins (thread_at s t) ≡ 0 = ap (λ (k : Key). one_if (creates image x k.child)) (key-same key_of m s e t) ∙ ap (λ (c : Option ThreadIx). one_if (creates image x c)) none in
        (omega (arith, lives-same, lives-here), omega (arith, births-same, births-here, before))

    -- a thread is started
    pub sums-start : (n : ℕ) (who : ThreadIx) (script : ℕ) (stack : Row) (priority : ℤ) (mode : Mode) (rest : Steps) → who.0 < THREADS → (who.0 ≡ t → ⊥) → (thread_at m who.0).keeps_own ≡ false
        → (thread_at m who.0).child ≡ None → (thread_at m t).child ≡ Some who → let s = T.after m t n (Pending.Start who script stack priority mode) rest in
        (lives s ≡ lives m + one_if (own_row image who.0 == x)) × (births s + one_if (own_row image who.0 == x) ≡ births m)
    sums-start n who script stack priority mode rest low apart dead childless mine =
        let child = T.newborn m (thread_at m t) who.0 script (Pending.Start who script stack priority mode) in
        let s = with_thread m who.0 child in
        let first = set-sums m who.0 child low long in
        let th = T.at_steps s.image (record (thread_at s t) { child = None }) rest in
        let second = set-sums s t th few (set-long m.threads who.0 child ∙ long) in
        let lives-first = first.0 in
        let births-first = first.1 in
        let lives-second = second.0 in
        let births-second = second.1 in
        let same : thread_at s t ≡ thread_at m t = set-else m.threads who.0 t child apart in
        let was-kept : keeps (thread_at m who.0) who.0 ≡ 0 = ap (λ b. one_if (b && (own_row image who.0 == x))) dead in
        let was-begun : begins (thread_at m who.0) ≡ 0 = ap (λ (c : Option ThreadIx). one_if (creates image x c)) childless in
        let mine-begun : begins (thread_at s t) ≡ one_if (own_row image who.0 == x) = ap begins same ∙ ap (λ (c : Option ThreadIx). one_if (creates image x c)) mine in
        (omega (arith, lives-first, lives-second, was-kept), omega (arith, births-first, births-second, was-begun, mine-begun))

    -- a mark is cleared: at the end of a thread that of its own object
    pub sums-clear : (n : ℕ) (a : Addr) (rest : Steps) → (thread_at m t).keeps_own ≡ true → let s = T.after m t n (Pending.ClearInit a) rest in
        (lives s + (if T.row_of m a == own_row m.image t then one_if (own_row image t == x) else 0) ≡ lives m) × (births s ≡ births m)
    sums-clear n a rest kept =
        let y = T.row_of m a in
        let s = with_object m y (record (object_at m y) { init = false }) in
        let me = thread_at m t in
        let b = y == own_row m.image t in
        let here = set-sums s t (T.at_steps s.image (record me { keeps_own = me.keeps_own && not b }) rest) few long in
        let lives-here = here.0 in
        let births-here = here.1 in
        let left = leaves b me.keeps_own kept (own_row image t == x) in
        (omega (arith, lives-here, left), omega (arith, births-here))
      where
        leaves : (b k : Bool) → k ≡ true → (o : Bool) → one_if ((k && not b) && o) + (if b then one_if o else 0) ≡ one_if (k && o)
        leaves true true e o = omega arith
        leaves false true e true = refl
        leaves false true e false = refl
        leaves b false e o = absurd (false≢true e)
