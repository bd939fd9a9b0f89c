-- The state that is read off the sites agrees with the machine's last state in all that a dump reads, where no processor has a step left.
use Rattle.std.specs.Prelude.{if◌then◌else◌, ◌&&◌, ◌||◌, IsTrue, nat_le, nat_lt, not, slice_index_or}
use Rattle.std.proofs.Common.{◌<◌, ◌∙◌, ◌≡◌, ◌≢◌, Bool, List, None, [], ap, arith, false, inl, inr, length, refl, subst, sym, true, ℕ}
use Rattle.std.proofs.lemmas.Bool.{false≢true, le-leb, ltb-true}
use Rattle.std.proofs.lemmas.List.{length-map, ext_get_or, get_or-map}
use Rattle.um_base.specs.declared.ask.Waiter.{Waiter}
use Rattle.um_base.specs.declared.image.Image.{Image}
use Rattle.um_base.specs.declared.limits.TheConstants.{ROWS, STATIC_ROWS, THREADS}
use Rattle.um_machine.specs.State.{State, is_started, nobody, object_at, thread_at, vacant}
use Rattle.um_machine.specs.Table.{domain_at}
use Rattle.um_machine.specs.declared.object.Object.{Object}
use Rattle.um_machine.specs.declared.object.Status.{Status}
use Rattle.um_machine.specs.declared.thread.Life.{Life}
use Rattle.um_machine.specs.declared.thread.Thread.{Thread}
use Rattle.um_invariants.proofs.Guards.{IsRow}
use Rattle.um_words.specs.declared.row_word.Stage.{Stage}
use Rattle.um_fine.specs.Objects.{ObjectCell}
use Rattle.um_fine.specs.Places.{Todo}
use Rattle.um_fine.specs.Processor.{kind_of}
use Rattle.um_refinement.specs.Fine.{Fine, heap, object, row, total}
use Rattle.um_refinement.specs.Lists.{counted, edited, is_recycle, is_vacate, is_wipe}
use Rattle.um_refinement.specs.Objects.{cell_of, is_reserved, recyclers, status_of, vacaters}
use Rattle.um_refinement.specs.Relation.{Rel}
use Rattle.um_refinement.proofs.HeldRows.{total-zero}
use Rattle.um_refinement.proofs.IdleComplete.{outside, past}
use Rattle.um_refinement.proofs.Reachable.{IsWide}
use Rattle.um_closing.specs.Agreement.{AgreeInDump, ObjectsAgree, ThreadsAgree, has_line, waiters_in}
use Rattle.um_closing.specs.Idle.{AreIdle}
use Rattle.um_closing.specs.ReadOff.{object_there, pairs_there, parts_there, priority_there, read_off, status_off, thread_there}
use Rattle.um_closing.proofs.Numbers.{at_number, many_numbers, past_numbers}
use Rattle.um_machine.specs.Objects as Plain

-- What is known of the states that a run reaches: how long their lists are, that static objects live, and where an object may stand.
pub record IsPlaced (m : State) : Type 0 where
  pub wide : IsWide m
  pub live : (x : ℕ) → x < length m.image.objects → Plain.is_live (object_at m x).status ≡ true
  pub used : (x : ℕ) → Plain.is_free (object_at m x).status ≡ false → IsRow m.image x

-- The status of a row.

-- a row that is free, and whose address the heap doesn't have, has a reserved object
same-status : (stage : Stage) (st : Status) (dynamic : Bool) → st ≡ status_of stage (is_reserved st) → (dynamic ≡ false → st ≢ Status.Reserved)
    → status_of stage (dynamic && not (dynamic && Plain.is_free st)) ≡ st
same-status Stage.Live st dynamic is static = sym is
same-status Stage.Dying st dynamic is static = sym is
same-status Stage.Cleaning st dynamic is static = sym is
same-status Stage.Free Status.Free true is static = refl
same-status Stage.Free Status.Free false is static = refl
same-status Stage.Free Status.Reserved true is static = refl
same-status Stage.Free Status.Reserved false is static = absurd (static refl refl)
same-status Stage.Free Status.Live dynamic is static = cc
same-status Stage.Free Status.Gone dynamic is static = cc

module _ (f : Fine) (m : State) (rel : Rel f m) (placed : IsPlaced m) (idle : AreIdle f)
    (knows : (t : ℕ) → t < THREADS → IsTrue (is_started (thread_at m t).life) → priority_there f.sites t ≡ (thread_at m t).priority) where
  abbrev read : State
  read = read_off f.image f.sites

  -- Threads.

  thread-there : (t : ℕ) → t < THREADS → ThreadsAgree (thread_there f.sites t) (thread_at m t)
  thread-there t few =
      let w = (rel.threads t few).word in
      record {
        life = w.life;
        doomed = w.doomed;
        mode = λ started. w.mode;
        priority = λ started. knows t few (subst (λ (life : Life). IsTrue (is_started life)) w.life started);
        domain = λ started. w.domain;
      }

  threads-agree : (t : ℕ) → ThreadsAgree (thread_at read t) (thread_at m t)
  threads-agree t = by (nat_lt t THREADS) refl
    where
      by : (b : Bool) → nat_lt t THREADS ≡ b → ThreadsAgree (thread_at read t) (thread_at m t)
      by true few =
          let l = ltb-true t THREADS few in subst (λ (th : Thread). ThreadsAgree th (thread_at m t)) (sym (at_number (thread_there f.sites) THREADS t nobody l)) (thread-there t l)
      by false many =
          let l = past t THREADS many in
          let long = placed.wide.threads in
          let mine = past_numbers (thread_there f.sites) THREADS t nobody l in
          let its : thread_at m t ≡ nobody = outside m.threads t nobody (omega (arith, l, long)) in
          subst (λ (z : Thread × Thread). ThreadsAgree z.0 z.1) (λ i. (sym mine i, sym its i))
          (record { life = refl; doomed = refl; mode = λ h. refl; priority = λ h. refl; domain = λ h. refl })

  -- Objects.

  -- no processor has a step of this kind left
  none-left : (is : Todo → Bool) → total (λ k. counted is (f.processors k).todo) f.cpus ≡ 0
  none-left is = total-zero (λ k. counted is (f.processors k).todo) f.cpus (λ k l. ap (counted is) (idle k l))

  module _ (x : ℕ) (few : x < ROWS) where
    settled : vacaters f x ≡ recyclers f x
    settled = none-left (is_vacate x) ∙ sym (none-left (is_recycle x))

    static-live : x < length f.image.objects → Plain.is_live (object_at m x).status ≡ true
    static-live l = placed.live x (subst (λ (i : Image). x < length i.objects) (sym rel.image) l)

    -- a status at which an object doesn't live
    lives-not : (s : Status) → Plain.is_live (object_at m x).status ≡ true → Plain.is_live s ≡ false → (object_at m x).status ≢ s
    lives-not s live not e = false≢true (sym not ∙ (sym (ap Plain.is_live e) ∙ live))

    -- no static row has a reserved object
    static-row : nat_le STATIC_ROWS x ≡ false → (object_at m x).status ≢ Status.Reserved
    static-row low reserved = by (placed.used x (ap Plain.is_free reserved))
      where
        by : IsRow m.image x → ⊥
        by (inl l) = lives-not Status.Reserved (placed.live x l) refl reserved
        by (inr l) = false≢true (sym low ∙ le-leb STATIC_ROWS x l.0)

    status-same : status_off x (row f x) (heap f) ≡ (object_at m x).status
    status-same =
        ap (λ b. status_of (row f x).stage (nat_le STATIC_ROWS x && not b)) (rel.heap.free x few)
        ∙ same-status (row f x).stage (object_at m x).status (nat_le STATIC_ROWS x) ((rel.rows x few).status.status settled) static-row

    cell-same : object f x ≡ cell_of (object f x).noted (object_at m x)
    cell-same = (rel.rows x few).contents.whole (none-left (is_wipe x) ∙ sym (none-left (is_recycle x)))

    -- a row that is shown isn't free
    used : IsTrue (has_line f.image x (object_at m x).status) → (object_at m x).status ≢ Status.Free
    used shown = by (nat_lt x (length f.image.objects)) refl
      where
        by : (b : Bool) → nat_lt x (length f.image.objects) ≡ b → (object_at m x).status ≢ Status.Free
        by true l free = lives-not Status.Free (static-live (ltb-true x (length f.image.objects) l)) refl free
        by false l free =
            let lacks : has_line f.image x (object_at m x).status ≡ false = λ i. l i || not (Plain.is_free (free i)) in false≢true (sym lacks ∙ shown)

    kind-same : (s : Status) → s ≢ Status.Free → (if Plain.is_free s then None else kind_of f.image x) ≡ kind_of f.image x
    kind-same Status.Free there = absurd (there refl)
    kind-same Status.Reserved there = refl
    kind-same Status.Live there = refl
    kind-same Status.Gone there = refl

    object-agrees : ObjectsAgree f.image x (object_there f.image f.sites x) (object_at m x)
    object-agrees =
        record {
          status = status-same;
          kind = λ shown.
              let there = used (subst (λ (s : Status). IsTrue (has_line f.image x s)) status-same shown) in
              ap (λ (s : Status). if Plain.is_free s then None else kind_of f.image x) status-same
              ∙ (kind-same (object_at m x).status there ∙ sym ((rel.rows x few).status.kind there));
          init = λ shown. (rel.rows x few).status.init settled;
          public = λ shown. (rel.rows x few).status.public settled;
          contents = λ shown. ap (λ (c : ObjectCell). c.contents) cell-same;
        }

    objects-agree : ObjectsAgree f.image x (object_at read x) (object_at m x)
    objects-agree = subst (λ (o : Object). ObjectsAgree f.image x o (object_at m x)) (sym (at_number (object_there f.image f.sites) ROWS x vacant few)) object-agrees

    waiters-same : (object_at read x).waiters ≡ (object_at m x).waiters
    waiters-same = ap (λ (o : Object). o.waiters) (at_number (object_there f.image f.sites) ROWS x vacant few) ∙ ap (λ (c : ObjectCell). c.waiters) cell-same

    pairs-same : slice_index_or read.pairs x [] ≡ slice_index_or m.pairs x []
    pairs-same = at_number (pairs_there f.sites) ROWS x [] few ∙ (rel.rows x few).pairs.pairs

  abbrev waits-of : Object → List Waiter
  waits-of o = o.waiters

  all-waiters : waiters_in read ≡ waiters_in m
  all-waiters =
      let mine : length read.objects ≡ ROWS = many_numbers (object_there f.image f.sites) ROWS in
      let its = placed.wide.objects in
      ext_get_or [] (waiters_in read) (waiters_in m)
      (length-map read.objects waits-of ∙ (mine ∙ (sym its ∙ sym (length-map m.objects waits-of))))
      (λ i l.
      let few : i < ROWS = omega (arith, l, length-map read.objects waits-of, mine) in
      get_or-map waits-of read.objects i vacant [] (omega (arith, few, mine))
      ∙ (waiters-same i few ∙ sym (get_or-map waits-of m.objects i vacant [] (omega (arith, few, its)))))

  domain-same : (d : ℕ) → d < length f.image.domains → domain_at read d ≡ domain_at m d
  domain-same d l =
      at_number (parts_there f.sites) (length f.image.domains) d None l ∙ (rel.domains d l).settled (λ k few. ap (edited d) (idle k few))

  pub agreed : AgreeInDump f.image read m
  agreed =
      record {
        threads = threads-agree;
        objects = objects-agree;
        pairs = λ t x few. ap (λ (flags : List Bool). slice_index_or flags t false) (pairs-same x few);
        waiters = all-waiters;
        joins = rel.joins.waiters;
        futexes = rel.memory.futexes;
        domains = domain-same;
        pools = rel.heap.pools;
        memory = rel.memory.memory;
        stacks = rel.memory.stacks;
      }
