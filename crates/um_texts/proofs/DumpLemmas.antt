-- States that agree in all that a dump reads have the same dump and the same summary.
use Rattle.std.proofs.Common.{◌≡◌, ◌<◌, ◌+◌, ℕ, zero, suc, Bool, true, false, cond, ◌||◌, not, if◌then◌else◌, nat_lt, List, [], ◌∷◌, ◌++◌, length, map, Option, Some, None, refl, sym, ap, ◌∙◌, arith}
use Rattle.std.specs.Prelude.{codes, count_by, filter, position, slice_get, slice_index}
use Rattle.std.specs.Fmt.{signed_decimal}
use Rattle.std.specs.List.{flat_map, list_any, prefix_len, range_with_len}
use Rattle.std.proofs.lemmas.List.{length-map}
use Rattle.std.proofs.lemmas.List.Sums.{sum_by-cons}
use Rattle.um_base.specs.declared.act.Event.{Event}
use Rattle.um_base.specs.declared.ask.Waiter.{Waiter}
use Rattle.um_base.specs.declared.image.Image.{Image}
use Rattle.um_base.specs.declared.limits.TheConstants.{ROWS, THREADS, PARTITION_AREA, STACK_AREA}
use Rattle.um_base.specs.Places.{thread_of_row}
use Rattle.um_machine.specs.declared.object.Object.{Object}
use Rattle.um_machine.specs.declared.thread.Thread.{Thread}
use Rattle.um_machine.specs.Objects.{is_free, is_gone}
use Rattle.um_machine.specs.State.{State, is_started, thread_at}
use Rattle.um_closing.specs.Agreement.{AgreeInDump, ThreadsAgree}
use Rattle.um_vocabulary.specs.Words.{mode_word}
use Rattle.um_trace.specs.declared.dump.standing.Standing.{Standing}
use Rattle.um_trace.specs.declared.summary.events.Counted.{Counted}
use Rattle.um_trace.specs.declared.summary.threads.Shown.{Shown}
use Rattle.um_trace.specs.Acts.{event_line}
use Rattle.um_trace.specs.Dump.{area_lines, asked_in, awaited, content_text, domain_line, dump, flag_word, holders_text, is_ended, is_shown, is_thread, is_waiter, joins_or, kept_text, life_text, listed, marks_text, name_text, numbers, object_line, object_line_of, parts_text, pool_line, pool_line_in, rights_text, shown_thread, standing_of, standing_text, state_word, thread_line, thread_line_in, thread_line_of, waits, watches}
use Rattle.um_trace.specs.Names.{domain_text, row_text, thread_text}
use Rattle.um_trace.specs.Summary.{count_line, events_that, is_so, stands_so, summary_text, threads_that}
use Rattle.um_trace.specs.Text.{text}
use Rattle.um_trace.specs.Words.{any_kind_word}

-- the same lines for each number from a on, n of them
same_lines_of : (f g : ℕ → List ℕ) (a n : ℕ) → ((x : ℕ) → x < a + n → f x ≡ g x) → flat_map f (range_with_len a n) ≡ flat_map g (range_with_len a n)
same_lines_of f g a zero h = refl
same_lines_of f g a (suc n) h = λ i. h a (omega arith) i ++ same_lines_of f g (a + 1) n (λ x l. h x (omega (arith, l))) i

same_lines_below : (f g : ℕ → List ℕ) (n : ℕ) → ((x : ℕ) → x < n → f x ≡ g x) → flat_map f (numbers n) ≡ flat_map g (numbers n)
unfolding numbers
same_lines_below f g n h = same_lines_of f g 0 n (λ x l. h x (omega (arith, l)))

-- as many of them pass
same_counts_of : (p q : ℕ → Bool) (a n : ℕ) → ((x : ℕ) → x < a + n → p x ≡ q x) → count_by p (range_with_len a n) ≡ count_by q (range_with_len a n)
same_counts_of p q a zero h = refl
same_counts_of p q a (suc n) h =
    let rest : List ℕ = range_with_len (a + 1) n in
    let behind : count_by p rest ≡ count_by q rest = same_counts_of p q (a + 1) n (λ x l. h x (omega (arith, l))) in
    sum_by-cons (λ x. cond (p x) 1 0) a rest ∙ (λ i. cond (h a (omega arith) i) 1 0 + behind i) ∙ sym (sum_by-cons (λ x. cond (q x) 1 0) a rest)

same_counts_below : (p q : ℕ → Bool) (n : ℕ) → ((x : ℕ) → x < n → p x ≡ q x) → count_by p (numbers n) ≡ count_by q (numbers n)
unfolding numbers
same_counts_below p q n h = same_counts_of p q 0 n (λ x l. h x (omega (arith, l)))

-- where a list has the first element that passes, by what is read of each
prefix_read : {A B : Type 0} (q : B → Bool) (f : A → B) (xs : List A) → prefix_len (λ x. q (f x)) xs ≡ prefix_len q (map f xs)
prefix_read q f [] = refl
prefix_read q f (x ∷ xs) = ap (λ n. cond (q (f x)) (1 + n) 0) (prefix_read q f xs)

position_read : {A B : Type 0} (q : B → Bool) (f : A → B) (xs : List A) → position (λ x. q (f x)) xs ≡ position q (map f xs)
position_read {B = B} q f xs =
    let fails : B → Bool = λ y. not (q y) in
    λ i. cond (nat_lt (prefix_read fails f xs i) (sym (length-map xs f) i)) (Some (prefix_read fails f xs i)) None

module _ (image : Image) (s s2 : State) (agree : AgreeInDump image s s2) where
  same_awaited : (t : ℕ) → awaited s.objects t ≡ awaited s2.objects t
  same_awaited t =
      let has = list_any (is_waiter t) in
      let waiters : Object → List Waiter = λ o. o.waiters in
      position_read has waiters s.objects ∙ (ap (position has) agree.waiters ∙ sym (position_read has waiters s2.objects))

  same_shown : (x : ℕ) → x < ROWS → is_shown image s x ≡ is_shown image s2 x
  unfolding is_shown
  same_shown x few = ap (λ status. nat_lt x (length image.objects) || not (is_free status)) (agree.objects x few).status

  -- Threads.

  same_standing : (t : ℕ) → standing_of s t (thread_at s t) ≡ standing_of s2 t (thread_at s2 t)
  unfolding standing_of
  same_standing t =
      let same = agree.threads t in
      λ i. if not (is_started (same.life i)) then Standing.Unborn else if same.doomed i then Standing.Doomed
      else if is_ended (same.life i) then Standing.Ended
      else waits (same_awaited t i) (joins_or (asked_in t (agree.joins i)) (watches (asked_in t (agree.futexes i))))

  same_rights : (a b : Thread) → ThreadsAgree a b → rights_text image a ≡ rights_text image b
  unfolding rights_text
  same_rights a b same = by (is_started a.life) refl
    where
      rights : Thread → List ℕ
      rights me = codes " " ++ mode_word me.mode ++ codes " " ++ signed_decimal me.priority ++ codes " " ++ domain_text image me.domain

      by : (started : Bool) → is_started a.life ≡ started → rights_text image a ≡ rights_text image b
      by true e =
          λ i. if is_started (same.life i)
          then codes " " ++ mode_word (same.mode e i) ++ codes " " ++ signed_decimal (same.priority e i) ++ codes " " ++ domain_text image (same.domain e i) else []
      by false e =
          ap (λ (started : Bool). if started then rights a else []) e ∙ sym (ap (λ (started : Bool). if started then rights b else []) (ap is_started (sym same.life) ∙ e))

  same_shown_thread : (x : ℕ) → x < ROWS → shown_thread image s x ≡ shown_thread image s2 x
  unfolding shown_thread
  same_shown_thread x few = ap (λ v. if v then thread_of_row image x else None) (same_shown x few)

  same_thread_line : (x : ℕ) → x < ROWS → thread_line_of image s x ≡ thread_line_of image s2 x
  unfolding thread_line_of thread_line life_text
  same_thread_line x few = ap (thread_line_in image s x) (same_shown_thread x few) ∙ by (shown_thread image s2 x)
    where
      by : (o : Option ℕ) → thread_line_in image s x o ≡ thread_line_in image s2 x o
      by None = refl
      by (Some t) =
          λ i. codes "thread " ++ row_text image x ++ codes " "
          ++ (standing_text image (same_standing t i) ++ same_rights (thread_at s t) (thread_at s2 t) (agree.threads t) i) ++ codes "\n"

  -- Objects.

  same_object_line : (x : ℕ) → x < ROWS → object_line_of image s x ≡ object_line_of image s2 x
  unfolding object_line_of object_line marks_text holders_text content_text state_word is_shown
  same_object_line x few = by (is_shown image s x) refl
    where
      by : (shown : Bool) → is_shown image s x ≡ shown → object_line_of image s x ≡ object_line_of image s2 x
      by false e =
          ap (λ (shown : Bool). if shown then object_line image s x else []) e
          ∙ sym (ap (λ (shown : Bool). if shown then object_line image s2 x else []) (sym (same_shown x few) ∙ e))
      by true e =
          let same = agree.objects x few in let status = same.status in let kind = same.kind e in
          let init = same.init e in let public = same.public e in let contents = same.contents e in
          λ i. if nat_lt x (length image.objects) || not (is_free (status i))
          then codes "object " ++ row_text image x ++ codes " "
          ++ (any_kind_word (kind i) ++ codes " " ++ (if is_gone (status i) then codes "gone" else if init i then codes "init" else codes "uninit") ++ codes " " ++ flag_word (public i))
          ++ codes " " ++ listed (thread_text image) (filter (λ t. agree.pairs t x few i) (numbers THREADS)) ++ codes " "
          ++ (if is_gone (status i) then codes "-" else if is_thread (kind i) then name_text (contents i) else if init i then kept_text image (contents i) else codes "-") ++ codes "\n"
          else []

  -- Domains and pools.

  same_domain_line : (d : ℕ) → d < length image.domains → domain_line image s d ≡ domain_line image s2 d
  unfolding domain_line
  same_domain_line d few = ap (λ o. codes "domain " ++ domain_text image d ++ codes " " ++ parts_text o ++ codes "\n") (agree.domains d few)

  same_pool_line : (k : ℕ) → pool_line image s k ≡ pool_line image s2 k
  unfolding pool_line
  same_pool_line k = ap (λ (pools : List ℕ). pool_line_in (slice_get image.pools k) (slice_index pools k)) agree.pools

  -- The whole.

  pub same_dump : dump image s ≡ dump image s2
  unfolding dump
  same_dump =
      λ i. codes "dump\n" ++ same_lines_below (thread_line_of image s) (thread_line_of image s2) ROWS same_thread_line i
      ++ same_lines_below (object_line_of image s) (object_line_of image s2) ROWS same_object_line i
      ++ same_lines_below (domain_line image s) (domain_line image s2) (length image.domains) same_domain_line i
      ++ same_lines_below (pool_line image s) (pool_line image s2) (length image.pools) (λ k l. same_pool_line k) i
      ++ area_lines PARTITION_AREA (agree.memory i) ++ area_lines STACK_AREA (agree.stacks i)

  same_threads_that : (shown : Shown) → threads_that shown image s ≡ threads_that shown image s2
  same_threads_that shown =
      same_counts_below (λ x. stands_so shown s (shown_thread image s x)) (λ x. stands_so shown s2 (shown_thread image s2 x)) ROWS
      (λ x few. ap (stands_so shown s) (same_shown_thread x few) ∙ by (shown_thread image s2 x))
    where
      by : (o : Option ℕ) → stands_so shown s o ≡ stands_so shown s2 o
      by None = refl
      by (Some t) = ap (is_so shown) (same_standing t)

  pub same_text : (events : List Event) → text image events s ≡ text image events s2
  unfolding text
  same_text events = ap (λ (closing : List ℕ). flat_map (event_line image) events ++ closing) same_dump

  pub same_summary : (events : List Event) → summary_text image events s ≡ summary_text image events s2
  unfolding summary_text
  same_summary events =
      ap (λ (last : ℕ × ℕ).
      count_line (codes "events") (length events) ++ count_line (codes "begins") (events_that Counted.Begins events)
      ++ count_line (codes "checks") (events_that Counted.Checks events) ++ count_line (codes "refused") (events_that Counted.Refused events)
      ++ count_line (codes "fatals") (events_that Counted.Fatals events) ++ count_line (codes "waits") (events_that Counted.Waits events)
      ++ count_line (codes "recycles") (events_that Counted.Recycles events) ++ count_line (codes "ended") last.0 ++ count_line (codes "waiting") last.1)
      (λ i. (same_threads_that Shown.Ended i, same_threads_that Shown.Waiting i))
