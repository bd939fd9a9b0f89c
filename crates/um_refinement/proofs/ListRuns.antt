-- A processor that has taken a thread has steps to make until it puts that thread back, or is done with it; and one with a mark in its hand has the
-- mark until it is paid.
use Rattle.um_refinement.proofs.Words.{◌≡◌, inl, inr, ℕ, ◌+◌, Bool, true, false, [], ◌∷◌, ◌++◌, Some, None, refl, sym, ap, ◌∙◌, subst, if◌then◌else◌, nat_lt, false≢true, true≢false, not, ◌&&◌, ◌||◌, Image, ROWS, Pending, Steps, instruction_at, act_in, domain_in, is_visit, is_word_read, is_empty, thread_in, behind_step, Context, Exchange, FineStep, continues, resumed, Todo, Todos, cleaning_of, drops, emptying, end_of_turn, fine_steps, next_steps, turn, is_cleaning_todo, Processor, is_of, key_of, after_claim, after_show, after_take, dropped_at, filled_up, goes_on_by, p_next, refilled_by, row_number, unless_loaded, with_cleaned, begins_cleaning, AreBlocks, Behind, has_steps, runs, clean_pairs, names_row, wakes, BeginsWith, Option, thread_of_row}
use Rattle.um_words.specs.declared.fine.Mark.{Mark}
use Rattle.um_words.specs.Threads.{is_awake}
use Rattle.um_fine.specs.Answers.{is_void, woken_in}
use Rattle.um_fine.specs.Follows.{shown_step, told_all, told_marked, waits_behind}
use Rattle.um_fine.specs.Places.{put_away, handling, is_paid}
use Rattle.um_refinement.specs.Frames.{IsAccess, IsActOver, IsNoted, accesses, acts, arming, access_alone, access_settled, act_alone, act_settled}
use Rattle.um_refinement.specs.Lists.{times}
use Rattle.um_refinement.proofs.ListClaims.{IsThread}
use Rattle.um_refinement.proofs.ListGrowth.{ReadsLast, acted-kept, either, waked-kept, behind-kept, cleaning-kept, forms-kept, is_end, is_errand, looks-kept, next-kept, quiet-kept, show-kept, turn-kept, visits_row}

module _ (image : Image) where
  abbrev IsOn : Todos → Type 0
  IsOn todo = has_steps todo ≡ true

  fine-some : (c : Context) (q : Pending) (rest : Steps) → IsOn (fine_steps image c q rest)
  fine-some = forms-kept image IsOn
      (record {
        note = λ site todo h. refl;
        act = λ q rest. refl;
        settles = λ q rest deadline mark. refl;
        access = λ q rest. refl;
        access_settles = λ q rest deadline mark. refl;
        look = λ x todo h. refl;
        owe = λ q rest. refl;
        leave = λ a rest. refl;
        edit = λ d q rest. refl;
        move = λ d who rest. refl;
        start = λ who q rest c. refl;
      })

  expanded-some : (c : Context) (steps : Steps) → IsOn (next_steps image c steps)
  expanded-some c steps = next-kept image IsOn (λ q todo visit few h. refl) fine-some (λ b. elim b as (λ b. IsOn (end_of_turn image b)) [ true ↦ refl | false ↦ refl ]) c steps

  filled-some : (c : Context) (todo : Todos) → IsOn (filled_up image c todo)
  filled-some c [] = expanded-some c c.pending
  filled-some c (q ∷ todo) = refl

  -- a thread that is taken has steps to make
  take-some : (p : Processor) (moved : Exchange) → IsThread moved → IsOn (after_take image p moved).todo
  take-some p (Exchange.thread c None) h = by (is_empty c.pending)
    where
      by : (b : Bool) → IsOn (if b then record p { context = c; todo = turn image c } else refilled_by image (record p { context = c }) []).todo
      by true = turn-kept image IsOn refl refl (instruction_at image c.place)
      by false = filled-some c []
  take-some p (Exchange.thread c (Some told)) h = filled-some (resumed image c told) []
  take-some p moved h = absurd h

  claim-some : (p : Processor) (d : ℕ) (init : Bool) (todo : Todos) → IsOn todo → IsOn (after_claim p d init 0 todo).todo
  claim-some p d true todo h = refl
  claim-some p d false todo h = h

  errand : (q : Todo) (todo : Todos) → is_errand q ≡ true → IsOn todo → IsOn (q ∷ todo)
  errand q todo on h = refl

  away-some : (doomed : Bool) → IsOn (put_away doomed)
  away-some true = refl
  away-some false = refl

  show-some : (p : Processor) (e : FineStep) (q : Pending) (rest : Steps) (todo : Todos) (b : Bool)
      → IsOn (if b then record p { todo = put_away (thread_in e.word).doomed } else after_show image p e (shown_step image q e.act) rest todo).todo
  show-some p e q rest todo true = away-some (thread_in e.word).doomed
  show-some p e q rest todo false =
      let made = shown_step image q e.act in
      let c = continues image p.context 0 made rest (act_in e.act) e.moved in
      let left = filled_up image c (waits_behind image made e todo) in
      looks-kept image IsOn errand (λ x z k. refl) p.context made e (behind_step image p.context made e.moved left)
      (behind-kept image IsOn errand (λ x z k. refl) p.context made e.moved left (filled-some c (waits_behind image made e todo)))

  clean-some : (who x y : ℕ) (todo : Todos) → BeginsWith (emptying y) todo → IsOn (clean_pairs who x todo)
  clean-some who x y todo h =
      elim (nat_lt x ROWS) as (λ b. IsOn (if b then Todo.clean_pair who x ∷ todo else todo)) [ true ↦ refl | false ↦ ap has_steps h.1 ]

  hold-some : (todo : Todos) → Behind image Todo.hold todo → IsOn todo
  hold-some todo (inl h) = ap has_steps h.1
  hold-some todo (inr h) = ap has_steps h.2

  noted-some : (site : ℕ) (todo : Todos) → IsNoted image site todo → IsOn todo
  noted-some site _ (acts at) = refl
  noted-some site _ (accesses at) = refl
  noted-some site _ (arming arm at) = refl

  handled-some : (p : Processor) (e : FineStep) (mark : Mark) (b : Bool) (todo : Todos) → IsOn todo → IsOn (if b then todo else wakes (told_marked mark (woken_in (act_in e.act))) todo)
  handled-some p e mark true todo h = h
  handled-some p e mark false todo h = waked-kept image IsOn errand (told_marked mark (woken_in (act_in e.act))) todo h

  load-some : (loaded : Bool) (over : Todos) → IsAccess over → IsOn (unless_loaded loaded (Todo.region_load ∷ over))
  load-some true over h = ap has_steps h.3
  load-some false over h = refl

  goes-some : (p : Processor) (e : FineStep) (q : Todo) (todo : Todos) → is_end q ≡ false → Behind image q todo → AreBlocks image (q ∷ todo)
      → IsOn (goes_on_by image p e (q ∷ todo)).todo
  goes-some p e (Todo.show q rest) todo goes h blocks = show-some p e q rest todo (is_word_read e.act)
  goes-some p e Todo.hold todo goes h blocks = hold-some todo h
  goes-some p e Todo.let_go todo goes h blocks = filled-some p.context todo
  goes-some p e (Todo.read_claim None) todo goes h blocks =
      let loaded = is_of (key_of (record p { version = (domain_in e.word).version })) p.table in
      subst (λ (z : Todos). IsOn (unless_loaded loaded z)) (sym h.1) (load-some loaded h.0 h.2)
  goes-some p e (Todo.read_claim (Some d)) todo goes h blocks = claim-some p d (domain_in e.word).init todo (ap has_steps h.2)
  goes-some p e (Todo.read_done d) todo goes h blocks = filled-some p.context todo
  goes-some p e Todo.region_load todo goes h blocks = ap has_steps h.3
  goes-some p e (Todo.write_claim d) todo goes h blocks = ap has_steps h.2
  goes-some p e (Todo.edit d q) todo goes h blocks = ap has_steps h.1
  goes-some p e (Todo.size_look x) todo goes h blocks = ap has_steps h.3
  goes-some p e (Todo.end_call x) todo goes h blocks = filled-some p.context todo
  goes-some p e (Todo.wake who told) todo goes h blocks = filled-some p.context todo
  goes-some p e (Todo.add c) todo goes h blocks = filled-some p.context todo
  goes-some p e (Todo.pass who x) todo goes h blocks = filled-some p.context _
  goes-some p e (Todo.drop x) todo goes h blocks = filled-some (dropped_at image p.context x (is_visit e.act)) (drops (x + 1) todo)
  goes-some p e (Todo.clean_pair who x) todo goes h blocks = clean-some who (x + 1) blocks.0.0 todo blocks.0.2
  goes-some p e (Todo.wipe x) todo goes h blocks = ap has_steps blocks.0.1
  goes-some p e (Todo.vacate x) todo goes h blocks = ap has_steps blocks.0.1
  goes-some p e (Todo.recycle x) todo goes h blocks = filled-some p.context todo
  goes-some p e Todo.park todo goes h blocks = absurd (true≢false goes)
  goes-some p e Todo.done todo goes h blocks = absurd (true≢false goes)
  goes-some p e (Todo.note site) todo goes h blocks = noted-some site todo h
  goes-some p e Todo.owe todo goes h blocks = ap has_steps h.2
  goes-some p e (Todo.settle deadline mark) todo goes h blocks = filled-some p.context todo
  goes-some p e (Todo.reread site) todo goes h blocks = filled-some p.context _
  goes-some p e (Todo.look who site before) todo goes h blocks = filled-some p.context _
  goes-some p e (Todo.tell_cut who) todo goes h blocks = filled-some p.context todo
  goes-some p e (Todo.rouse who) todo goes h blocks = filled-some p.context _
  goes-some p e Todo.sleep todo goes h blocks = ap has_steps h
  goes-some p e Todo.reread_asleep todo goes h blocks = either image IsOn (is_awake (thread_in e.word)) (Todo.rouse p.context.thread) todo (λ b k. refl) (ap has_steps h)
  goes-some p e (Todo.unshut who) todo goes h blocks = ap has_steps h.3
  goes-some p e Todo.leave todo goes h blocks = waked-kept image IsOn errand (told_all (woken_in (act_in e.act))) todo (ap has_steps h.2)
  goes-some p e (Todo.handle deadline mark) todo goes h blocks = handled-some p e mark (is_void e.act) todo (ap has_steps h)
  goes-some p e Todo.paid todo goes h blocks = absurd (true≢false goes)

  -- Whether a mark is in its hand.

  abbrev Times : Bool → Todos → Type 0
  Times b todo = times todo ≡ b

  abbrev All : Context → Type 0
  All c = Unit {0}

  fine-times : (c : Context) (q : Pending) (rest : Steps) → Times false (fine_steps image c q rest)
  fine-times = forms-kept image (Times false)
      (record {
        note = λ site todo h. h;
        act = λ q rest. refl;
        settles = λ q rest deadline mark. refl;
        access = λ q rest. refl;
        access_settles = λ q rest deadline mark. refl;
        look = λ x todo h. h;
        owe = λ q rest. refl;
        leave = λ a rest. refl;
        edit = λ d q rest. refl;
        move = λ d who rest. refl;
        start = λ who q rest c. refl;
      })

  put : (b : Bool) (q : Todo) (todo : Todos) → visits_row q ≡ true → names_row q ≡ true → Times b todo → Times b (q ∷ todo)
  put b Todo.paid todo visit few h = absurd (false≢true visit)
  put b q todo visit few h = h

  carry : (b : Bool) (q : Todo) (todo : Todos) → is_errand q ≡ true → Times b todo → Times b (q ∷ todo)
  carry b Todo.paid todo on h = absurd (false≢true on)
  carry b q todo on h = h

  next-times : (c : Context) (steps : Steps) → Times false (next_steps image c steps)
  next-times c steps = next-kept image (Times false) (put false) fine-times (λ b. elim b as (λ b. Times false (end_of_turn image b)) [ true ↦ refl | false ↦ refl ]) c steps

  expands : (b : Bool) (c : Context) → All c → Times b [] → Times b (next_steps image c c.pending)
  expands b c of h = next-times c c.pending ∙ h

  away-times : (doomed : Bool) → Times false (put_away doomed)
  away-times true = refl
  away-times false = refl

  waited-times : (b : Bool) (site : ℕ) (todo : Todos) → IsActOver todo → Times b todo → Times b (todo ++ Todo.reread site ∷ [])
  waited-times b site _ act_alone h = h
  waited-times b site _ act_settled h = h
  waited-times b site _ access_alone h = h
  waited-times b site _ access_settled h = h

  goes-times : (p : Processor) (e : FineStep) (q : Todo) (todo : Todos) → is_end q ≡ false → Behind image q todo → ReadsLast e q todo → Times (times todo) (goes_on_by image p e (q ∷ todo)).todo
  goes-times p e (Todo.show q rest) todo goes h last =
      let b = times todo in
      show-kept image (Times b) All (expands b) p e q rest todo (Times b) tt (waited-times b) h
      (λ z k. let made = shown_step image q e.act in looks-kept image (Times b) (carry b) (λ x y g. g) p.context made e (behind_step image p.context made e.moved z)
      (behind-kept image (Times b) (carry b) (λ x y g. g) p.context made e.moved z k))
      (λ read. away-times (thread_in e.word).doomed ∙ ap times (sym (last read))) refl
  goes-times p e Todo.park todo goes h last = absurd (true≢false goes)
  goes-times p e Todo.done todo goes h last = absurd (true≢false goes)
  goes-times p e Todo.paid todo goes h last = absurd (true≢false goes)
  goes-times p e (Todo.rouse who) todo goes h last =
      let b = times todo in
      quiet-kept image (Times b) All (expands b) p (carry b) (put b) (λ who x z few k. k) (λ z k. k) (λ d z k. k) e (Todo.rouse who) todo refl tt (λ found z k. k) refl
  goes-times p e q todo goes h last =
      let b = times todo in quiet-kept image (Times b) All (expands b) p (carry b) (put b) (λ who x z few k. k) (λ z k. k) (λ d z k. k) e q todo refl tt tt refl

  cleaned-times : (p : Processor) (e : FineStep) (b : Bool) → times (with_cleaned image p e b).todo ≡ times p.todo
  cleaned-times p e true = cleaning-kept image (λ old new. times new ≡ times old) (row_number e.site) first later p.todo
    where
      first : (o : Option ℕ) (todo : Todos) → thread_of_row image (row_number e.site) ≡ o → times (cleaning_of (row_number e.site) o ++ todo) ≡ times todo
      first None todo at = refl
      first (Some who) todo at = refl

      later : (q : Todo) (old new : Todos) → is_cleaning_todo q ≡ true → times new ≡ times old → times (q ∷ new) ≡ times (q ∷ old)
      later q old new c h = ap (λ b. is_paid q || b) h
  cleaned-times p e false = refl

  cleaned-some : (p : Processor) (e : FineStep) (b : Bool) → IsOn p.todo → IsOn (with_cleaned image p e b).todo
  cleaned-some p e true h = cleaning-kept image (λ old new. IsOn new) (row_number e.site) (λ o todo at. elim o as (λ o. IsOn (cleaning_of (row_number e.site) o ++ todo)) [ None ↦ refl | Some who ↦ refl ]) (λ q old new c k. refl) p.todo
  cleaned-some p e false h = h

  -- what holds of the list of a processor that has cleaned, and made a step
  abbrev cleaned : Processor → FineStep → Processor
  cleaned p e = with_cleaned image (goes_on_by image p e p.todo) e (begins_cleaning e)

  pub next-some : (p : Processor) (e : FineStep) → IsOn (goes_on_by image p e p.todo).todo → IsOn (p_next image p e).todo
  next-some p e h = acted-kept image IsOn (cleaned p e) e.act (cleaned-some (goes_on_by image p e p.todo) e (begins_cleaning e) h)

  pub next-times-same : (p : Processor) (e : FineStep) → times (p_next image p e).todo ≡ times (goes_on_by image p e p.todo).todo
  next-times-same p e = acted-kept image (λ todo. times todo ≡ times (cleaned p e).todo) (cleaned p e) e.act refl ∙ cleaned-times (goes_on_by image p e p.todo) e (begins_cleaning e)

  both-are : (some : Bool) (time : Bool) (p : Processor) → has_steps p.todo ≡ some → times p.todo ≡ time → runs p ≡ (some && not time)
  both-are some time p h k = λ i. h i && not (k i)

  not-end : (q : Todo) → is_end q ≡ false → is_paid q ≡ false
  not-end Todo.paid goes = absurd (true≢false goes)
  not-end q goes = refl

  -- it has steps left after any but the last of a turn; and where it had a mark in its hand, it has
  pub goes-on : (p : Processor) (e : FineStep) (q : Todo) (todo : Todos) → p.todo ≡ q ∷ todo → is_end q ≡ false → Behind image q todo → ReadsLast e q todo → AreBlocks image (q ∷ todo)
      → (has_steps (p_next image p e).todo ≡ true) × (times (p_next image p e).todo ≡ times p.todo)
  goes-on p e q todo at goes h last blocks = (
    next-some p e (ap (λ (z : Todos). has_steps (goes_on_by image p e z).todo) at ∙ goes-some p e q todo goes h blocks),
    next-times-same p e ∙ (ap (λ (z : Todos). times (goes_on_by image p e z).todo) at ∙ (goes-times p e q todo goes h last ∙ sym (ap times at ∙ ap (λ b. b || times todo) (not-end q goes)))),
  )

  pub goes-runs : (p : Processor) (e : FineStep) (q : Todo) (todo : Todos) → p.todo ≡ q ∷ todo → is_end q ≡ false → Behind image q todo → ReadsLast e q todo → AreBlocks image (q ∷ todo)
      → runs (p_next image p e) ≡ runs p
  goes-runs p e q todo at goes h last blocks =
      let left = goes-on p e q todo at goes h last blocks in
      both-are true (times p.todo) (p_next image p e) left.0 left.1 ∙ sym (both-are true (times p.todo) p (ap has_steps at) refl)

  pub takes-runs : (p : Processor) (e : FineStep) → p.todo ≡ [] → IsThread e.moved → runs (p_next image p e) ≡ true
  takes-runs p e at h =
      both-are true false (p_next image p e)
      (next-some p e (ap (λ (z : Todos). has_steps (goes_on_by image p e z).todo) at ∙ take-some p e.moved h))
      (next-times-same p e ∙ (ap (λ (z : Todos). times (goes_on_by image p e z).todo) at ∙ take-times p e.moved h))
    where
      take-times : (p : Processor) (moved : Exchange) → IsThread moved → times (after_take image p moved).todo ≡ false
      take-times p (Exchange.thread c None) h = by (is_empty c.pending)
        where
          by : (b : Bool) → times (if b then record p { context = c; todo = turn image c } else refilled_by image (record p { context = c }) []).todo ≡ false
          by true = turn-kept image (Times false) refl refl (instruction_at image c.place)
          by false = next-times c c.pending
      take-times p (Exchange.thread c (Some told)) h = next-times (resumed image c told) (resumed image c told).pending
      take-times p moved h = absurd h

  -- one that takes none doesn't run, whether it takes a mark or lets time go on
  pub takes-none : (p : Processor) (e : FineStep) → p.todo ≡ [] → (IsThread e.moved → ⊥) → begins_cleaning e ≡ false → runs (p_next image p e) ≡ false
  takes-none p e at h quiet = both-are (has_steps (p_next image p e).todo) (times (p_next image p e).todo) (p_next image p e) refl refl ∙ by e.moved h refl
    where
      left : (p_next image p e).todo ≡ (after_take image p e.moved).todo
      left =
          acted-kept image (λ todo. todo ≡ (cleaned p e).todo) (cleaned p e) e.act refl
          ∙ (ap (λ b. (with_cleaned image (goes_on_by image p e p.todo) e b).todo) quiet ∙ ap (λ (z : Todos). (goes_on_by image p e z).todo) at)

      is : (todo : Todos) → (p_next image p e).todo ≡ todo → has_steps (p_next image p e).todo && not (times (p_next image p e).todo) ≡ (has_steps todo && not (times todo))
      is todo k = ap (λ (z : Todos). has_steps z && not (times z)) k

      by : (moved : Exchange) → (IsThread moved → ⊥) → e.moved ≡ moved → (has_steps (p_next image p e).todo && not (times (p_next image p e).todo)) ≡ false
      by (Exchange.thread c told) h m = absurd (h tt)
      by (Exchange.mark deadline mark) h m = is (handling deadline mark) (left ∙ ap (λ (z : Exchange). (after_take image p z).todo) m)
      by moved h m = is [] (left ∙ (ap (λ (z : Exchange). (after_take image p z).todo) m ∙ at))

  -- and none after that
  pub ends-rests : (p : Processor) (e : FineStep) (q : Todo) (todo : Todos) → p.todo ≡ q ∷ todo → is_end q ≡ true → begins_cleaning e ≡ false
      → (p_next image p e).todo ≡ []
  ends-rests p e q todo at ends quiet =
      acted-kept image (λ todo. todo ≡ (cleaned p e).todo) (cleaned p e) e.act refl
      ∙ (ap (λ b. (with_cleaned image (goes_on_by image p e p.todo) e b).todo) quiet ∙ (ap (λ (z : Todos). (goes_on_by image p e z).todo) at ∙ by q ends))
    where
      by : (q : Todo) → is_end q ≡ true → (goes_on_by image p e (q ∷ todo)).todo ≡ []
      by Todo.park h = refl
      by Todo.done h = refl
      by Todo.paid h = refl
      by r h = absurd (false≢true h)
