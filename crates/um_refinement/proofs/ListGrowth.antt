-- How a processor's list changes with a step: it goes on with what stands behind that step, and where nothing does with the fine steps of its
-- thread's next pending step; in front of that may come visits of rows, wakes, looks, a thread that was cut or roused and ends of claims, and a
-- cleaning that begins.
use Rattle.um_refinement.proofs.Words.{◌≡◌, ℕ, ◌+◌, Bool, true, false, ap, is_some, cond, List, [], ◌∷◌, ◌++◌, Option, Some, None, refl, subst, ◌==◌, if◌then◌else◌, nat_lt, false≢true, true≢false, Told, Answer, ThreadWord, Image, Instr, ROWS, ThreadIx, own_row, thread_of_row, Amount, Pending, Steps, instruction_at, row_named, act_in, answer_in, context_in, domain_in, is_visit, is_word_read, outcome_in, thread_in, woken_in, Context, continues, resumed, after_claim, after_show, after_take, behind_step, dropped_at, end_calls, filled_up, goes_on_by, p_next, unless_loaded, wakes, Todo, Todos, but, cleaning, cleaning_of, drops, end_of_turn, fine_steps, is_cleaning_todo, next_steps, passes, turn_of, with_cleaning, Processor, is_of, key_of, is_empty, not, ◌&&◌, refilled_by, Exchange, FineStep, cpu_of, same_cpu, Fine, Behind, names_row, sized}
use Rattle.um_words.specs.declared.fine.Mark.{Mark}
use Rattle.um_words.specs.Threads.{is_awake}
use Rattle.um_words.specs.declared.fine.FineAct.{FineAct}
use Rattle.um_fine.specs.Answers.{is_done_in, is_killed, is_void}
use Rattle.um_fine.specs.Follows.{looks_behind, looks_for, rereads, shown_step, told_all, told_marked, waits_behind, with_actor}
use Rattle.um_refinement.specs.Frames.{IsActOver}
use Rattle.um_fine.specs.Places.{armed_for, clearing, handling, mark_for, noted_cell, noting, on_memory, put_away, settling, turn}
use Rattle.um_fine.specs.Continues.{newborn}
use Rattle.um_base.specs.declared.names.Addr.{Addr}
use Rattle.std.proofs.lemmas.List.{append-nil}
use Rattle.um_fine.specs.Runs.{changed}

-- nothing stands behind a read of a thread's word at the begin of its turn
abbrev pub ReadsLast : FineStep → Todo → Todos → Type 0
ReadsLast e (Todo.show q rest) todo = is_word_read e.act ≡ true → todo ≡ []
ReadsLast e q todo = Unit {0}

-- the claims to read, behind which a list may go on in two ways
abbrev pub is_read_claim : Todo → Bool
is_read_claim (Todo.read_claim d) = true
is_read_claim q = false

abbrev pub is_clean_pair : Todo → Bool
is_clean_pair (Todo.clean_pair who x) = true
is_clean_pair q = false

abbrev pub is_shown : Todo → Bool
is_shown (Todo.show q rest) = true
is_shown q = false

-- the last step of a turn, or of a mark
abbrev pub is_end : Todo → Bool
is_end Todo.park = true
is_end Todo.done = true
is_end Todo.paid = true
is_end q = false

-- a step but an event, a claim to read and a visit
abbrev pub is_plain : Todo → Bool
is_plain (Todo.show q rest) = false
is_plain (Todo.read_claim d) = false
is_plain (Todo.pass who x) = false
is_plain (Todo.drop x) = false
is_plain (Todo.clean_pair who x) = false
is_plain q = true

-- a visit of a row for its own thread
abbrev pub visits_row : Todo → Bool
visits_row (Todo.pass who x) = true
visits_row (Todo.drop x) = true
visits_row q = false

pub none≢some : (x : ℕ) → None ≡ Some x → ⊥
none≢some x h = false≢true (ap is_some h)

-- a step that may be put in front of a list: a wake, a look, and the telling of one who was cut
abbrev pub is_errand : Todo → Bool
is_errand (Todo.wake who told) = true
is_errand (Todo.look who site before) = true
is_errand (Todo.tell_cut who) = true
is_errand (Todo.rouse who) = true
is_errand q = false

-- The fact is so of what a step leaves that puts its thread back, is done with it or with a mark, or finds it doomed or suspended; and it stays so
-- where a thread that was roused is to be added.
abbrev pub EndsWell : (Todos → Type 0) → FineStep → Todo → Type 0
EndsWell P e (Todo.show q rest) = is_word_read e.act ≡ true → P (put_away (thread_in e.word).doomed)
EndsWell P e Todo.park = P []
EndsWell P e Todo.done = P []
EndsWell P e Todo.paid = P []
EndsWell P e (Todo.rouse who) = is_void e.act ≡ false → (todo : Todos) → P todo → P (Todo.add (context_in e.moved) ∷ todo)
EndsWell P e q = Unit {0}

pub ends-always : (P : Todos → Type 0) → P [] → ((doomed : Bool) → P (put_away doomed)) → ((c : Context) (todo : Todos) → P todo → P (Todo.add c ∷ todo)) → (e : FineStep) (q : Todo) → EndsWell P e q
ends-always P none end add e (Todo.show q rest) = λ read. end (thread_in e.word).doomed
ends-always P none end add e Todo.park = none
ends-always P none end add e Todo.done = none
ends-always P none end add e Todo.paid = none
ends-always P none end add e (Todo.rouse who) = λ found todo h. add (context_in e.moved) todo h
ends-always P none end add e q = tt

pub ends-behind : (image : Image) (P : Todos → Type 0) → (P [] → (doomed : Bool) → P (put_away doomed)) → ((c : Context) (todo : Todos) → P todo → P (Todo.add c ∷ todo))
    → (e : FineStep) (q : Todo) (todo : Todos) → Behind image q todo → ReadsLast e q todo → P todo → EndsWell P e q
ends-behind image P end add e (Todo.show q rest) todo h last was = λ read. end (subst P (last read) was) (thread_in e.word).doomed
ends-behind image P end add e Todo.park todo h last was = subst P h was
ends-behind image P end add e Todo.done todo h last was = subst P h was
ends-behind image P end add e Todo.paid todo h last was = subst P h was
ends-behind image P end add e (Todo.rouse who) todo h last was = λ found rest k. add (context_in e.moved) rest k
ends-behind image P end add e q todo h last was = tt

module _ (image : Image) (P : Todos → Type 0) where
  -- a step in front, or none
  pub either : (b : Bool) (q : Todo) (todo : Todos) → (b ≡ true → P todo → P (q ∷ todo)) → P todo → P (if b then q ∷ todo else todo)
  either true q todo put h = put refl h
  either false q todo put h = h

  -- a message is looked at first, or not
  pub either-look : (amount : Amount) (todo : Todos) → ((x : ℕ) → P todo → P (Todo.size_look x ∷ todo)) → P todo → P (sized image amount todo)
  either-look (Amount.Bytes n) todo put h = h
  either-look (Amount.MessageOf a) todo put h = put (row_named image a) h

  -- one step in front, or another, or none
  pub unless : (b : Bool) (q : Todo) (todo : Todos) → (b ≡ false → P todo → P (q ∷ todo)) → P todo → P (if b then todo else q ∷ todo)
  unless true q todo put h = h
  unless false q todo put h = put refl h

  module _ (errand : (q : Todo) (todo : Todos) → is_errand q ≡ true → P todo → P (q ∷ todo)) where
    pub waked-kept : (ws : List (ThreadIx × Told)) (todo : Todos) → P todo → P (wakes ws todo)
    waked-kept [] todo h = h
    waked-kept (w ∷ ws) todo h = errand (Todo.wake w.0.0 w.1) (wakes ws todo) refl (waked-kept ws todo h)

    look-kept : (who : ℕ) (w : ThreadWord) (note : Option ℕ) (todo : Todos) → P todo
        → P (elim note as (λ _. Todos) [ Some site ↦ Todo.look who site w.number ∷ todo | None ↦ Todo.rouse who ∷ todo ])
    look-kept who w None todo h = errand (Todo.rouse who) todo refl h
    look-kept who w (Some site) todo h = errand (Todo.look who site w.number) todo refl h

    -- behind an event that stops another thread, or goes on with it, and behind a wake of a futex
    pub errands-kept : (c : Context) (q : Pending) (e : FineStep) (todo : Todos) → P todo → P (looks_behind image c q e todo)
    errands-kept c (Pending.Abort who) e todo h = by (is_done_in (act_in e.act) && not (who.0 == c.thread))
      where
        by : (b : Bool) → P (if b then looks_for image who.0 (thread_in e.word) todo else todo)
        by true = look-kept who.0 (thread_in e.word) (thread_in e.word).note todo h
        by false = h
    errands-kept c (Pending.Continue who) e todo h = either (is_done_in (act_in e.act)) (Todo.rouse who.0) todo (λ k g. errand (Todo.rouse who.0) todo refl g) h
    errands-kept c (Pending.FutexWake a all) e todo h = waked-kept (told_all (woken_in (act_in e.act))) todo h
    errands-kept c q e todo h = h

  module _ (errand : (q : Todo) (todo : Todos) → is_errand q ≡ true → P todo → P (q ∷ todo)) (ended : (x : ℕ) (todo : Todos) → P todo → P (Todo.end_call x ∷ todo)) where
    end_calls-kept : (xs : List ℕ) (todo : Todos) → P todo → P (end_calls xs todo)
    end_calls-kept [] todo h = h
    end_calls-kept (x ∷ xs) todo h = ended x (end_calls xs todo) (end_calls-kept xs todo h)

    pub behind-kept : (c : Context) (q : Pending) (moved : Exchange) (todo : Todos) → P todo → P (behind_step image c q moved todo)
    behind-kept c (Pending.Work a ask) moved todo h = waked-kept errand (outcome_in moved).woken todo h
    behind-kept c Pending.Exit moved todo h = end_calls-kept c.claims todo h
    behind-kept c Pending.Killed moved todo h = end_calls-kept c.claims todo h
    behind-kept c (Pending.Answer reply to) moved todo h = end_calls-kept c.claims todo h
    behind-kept c (Pending.Fatal reason cause) moved todo h = end_calls-kept c.claims todo h
    behind-kept c (Pending.ClearInit a) moved todo h =
        let own = own_row image c.thread in either (row_named image a == own) (Todo.end_call own) todo (λ e k. ended own todo k) h
    behind-kept c q moved todo h = h

    pub looks-kept : (c : Context) (q : Pending) (e : FineStep) (todo : Todos) → P todo → P (looks_behind image c q e todo)
    looks-kept = errands-kept errand

  -- The forms in which pending steps are expanded.
  pub record Forms : Type 0 where
    pub note : (site : ℕ) (todo : Todos) → P todo → P (Todo.note site ∷ todo)
    pub act : (q : Pending) (rest : Steps) → P (Todo.show q rest ∷ [])
    pub settles : (q : Pending) (rest : Steps) (deadline : ℕ) (mark : Mark) → P (Todo.show q rest ∷ Todo.settle deadline mark ∷ [])
    pub access : (q : Pending) (rest : Steps) → P (on_memory q rest)
    pub access_settles : (q : Pending) (rest : Steps) (deadline : ℕ) (mark : Mark) → P (on_memory q rest ++ Todo.settle deadline mark ∷ [])
    pub look : (x : ℕ) (todo : Todos) → P todo → P (Todo.size_look x ∷ todo)
    pub owe : (q : Pending) (rest : Steps) → P (Todo.owe ∷ Todo.show q rest ∷ [])
    pub leave : (a : Addr) (rest : Steps) → P (Todo.leave ∷ Todo.show (Pending.ClearInit a) rest ∷ [])
    pub edit : (d : ℕ) (q : Pending) (rest : Steps) → P (Todo.write_claim d ∷ Todo.edit d q ∷ Todo.show q rest ∷ [])
    pub move : (d : ℕ) (who : ThreadIx) (rest : Steps) → P (Todo.read_claim (Some d) ∷ Todo.show (Pending.DomMove d who) rest ∷ [])
    pub start : (who : ℕ) (q : Pending) (rest : Steps) (c : Context) → P (Todo.hold ∷ Todo.unshut who ∷ Todo.show q rest ∷ Todo.let_go ∷ Todo.add c ∷ [])

  module _ (forms : Forms) where
    noted : (c : Context) (site : Option ℕ) (todo : Todos) → P todo → P (noting image c site todo)
    noted c None todo h = h
    noted c (Some site) todo h = elim (is_some c.noted) as (λ b. P (if b then todo else Todo.note site ∷ todo)) [ true ↦ h | false ↦ forms.note site todo h ]

    settled : (c : Context) (until : Option ℕ) (p q : Pending) (rest : Steps) → P (Todo.show q rest ∷ settling image c until p)
    settled c None p q rest = forms.act q rest
    settled c (Some deadline) p q rest = forms.settles q rest deadline (mark_for image c.thread (p ∷ []))

    settled-access : (c : Context) (until : Option ℕ) (p q : Pending) (rest : Steps) → P (on_memory q rest ++ settling image c until p)
    settled-access c None p q rest = forms.access q rest
    settled-access c (Some deadline) p q rest = forms.access_settles q rest deadline (mark_for image c.thread (p ∷ []))

    cleared : (own : Bool) (a : Addr) (rest : Steps) → P (clearing image own (Pending.ClearInit a) rest)
    cleared true a rest = forms.leave a rest
    cleared false a rest = forms.act (Pending.ClearInit a) rest

    pub forms-kept : (c : Context) (q : Pending) (rest : Steps) → P (fine_steps image c q rest)
    forms-kept c (Pending.Load to a n) rest = forms.access (Pending.Load to a n) rest
    forms-kept c (Pending.Store a n value) rest = forms.access (Pending.Store a n value) rest
    forms-kept c (Pending.Fetch a) rest = forms.access (Pending.Fetch a) rest
    forms-kept c (Pending.Probe a amount) rest = either-look amount (on_memory (Pending.Probe a amount) rest) (λ x h. forms.look x (on_memory (Pending.Probe a amount) rest) h) (forms.access (Pending.Probe a amount) rest)
    forms-kept c (Pending.CopyIn a amount) rest = either-look amount (on_memory (Pending.CopyIn a amount) rest) (λ x h. forms.look x (on_memory (Pending.CopyIn a amount) rest) h) (forms.access (Pending.CopyIn a amount) rest)
    forms-kept c (Pending.CopyOut a) rest = forms.access (Pending.CopyOut a) rest
    forms-kept c (Pending.CopyStr a) rest = forms.access (Pending.CopyStr a) rest
    forms-kept c (Pending.DomInit d parts) rest = forms.edit d (Pending.DomInit d parts) rest
    forms-kept c (Pending.DomAdd d range attr) rest = forms.edit d (Pending.DomAdd d range attr) rest
    forms-kept c (Pending.DomRemove d range attr) rest = forms.edit d (Pending.DomRemove d range attr) rest
    forms-kept c (Pending.DomMove d who) rest = forms.move d who rest
    forms-kept c (Pending.Start who script stack priority mode) rest =
        let q = Pending.Start who script stack priority mode in forms.start who.0 q rest (newborn image c q)
    forms-kept c (Pending.Work a ask) rest =
        let q = Pending.Work a ask in noted c (noted_cell image (q ∷ [])) (Todo.show q rest ∷ settling image c (armed_for image c q) q) (settled c (armed_for image c q) q q rest)
    forms-kept c (Pending.Join who timeout) rest =
        let q = Pending.Join who timeout in noted c (noted_cell image (q ∷ [])) (Todo.show q rest ∷ settling image c (armed_for image c q) q) (settled c (armed_for image c q) q q rest)
    forms-kept c (Pending.FutexWait a value timeout) rest =
        let q = Pending.FutexWait a value timeout in noted c (noted_cell image (q ∷ [])) (on_memory q rest ++ settling image c (armed_for image c q) q) (settled-access c (armed_for image c q) q q rest)
    forms-kept c (Pending.FutexWake a all) rest = forms.access (Pending.FutexWake a all) rest
    forms-kept c (Pending.Arm ticks) rest = noted c (noted_cell image rest) (Todo.owe ∷ Todo.show (Pending.Arm ticks) rest ∷ []) (forms.owe (Pending.Arm ticks) rest)
    forms-kept c (Pending.ArmTimer ticks) rest = forms.owe (Pending.ArmTimer ticks) rest
    forms-kept c (Pending.ClearInit a) rest = cleared (row_named image a == own_row image c.thread) a rest
    forms-kept c q rest = forms.act q rest

  module _ (put : (q : Todo) (todo : Todos) → visits_row q ≡ true → names_row q ≡ true → P todo → P (q ∷ todo))
      (expanded : (c : Context) (q : Pending) (rest : Steps) → P (fine_steps image c q rest)) (ends : (b : Bool) → P (end_of_turn image b)) where
    pub next-kept : (c : Context) (steps : Steps) → P (next_steps image c steps)
    next-kept c [] = ends c.ended
    next-kept c (Pending.Resume ∷ rest) = ends false
    next-kept c (Pending.Inherit who ∷ q ∷ rest) =
        let x = but (own_row image c.thread) 0 in
        let todo = fine_steps image c q rest in
        either (nat_lt x ROWS) (Todo.pass who.0 x) todo (λ few. put (Todo.pass who.0 x) todo refl few) (expanded c q rest)
    next-kept c (Pending.Drops from ∷ q ∷ rest) =
        let todo = fine_steps image c q rest in either (nat_lt from ROWS) (Todo.drop from) todo (λ few. put (Todo.drop from) todo refl few) (expanded c q rest)
    next-kept c (Pending.Inherit who ∷ []) = expanded c (Pending.Inherit who) []
    next-kept c (Pending.Drops from ∷ []) = expanded c (Pending.Drops from) []
    next-kept c (q ∷ rest) = expanded c q rest

  -- the first list of a turn
  pub turn-kept : P (Todo.show Pending.Begin [] ∷ []) → P (Todo.show Pending.Exit [] ∷ []) → (instr : Option Instr) → P (turn_of image instr)
  turn-kept begins exits None = exits
  turn-kept begins exits (Some instr) = begins

  -- a claim to read was made: the table may be loaded already, and the domain not be initialised
  pub claim-kept : ((todo : Todos) → P (Todo.region_load ∷ todo) → P todo) → (p : Processor) (e : FineStep) (d : Option ℕ) (todo : Todos)
      → ((x : ℕ) → d ≡ Some x → P (Todo.read_done (Some x) ∷ todo)) → P todo → P (goes_on_by image p e (Todo.read_claim d ∷ todo)).todo
  claim-kept loaded p e None todo claimed h = by (is_of (key_of (record p { version = (domain_in e.word).version })) p.table) todo h
    where
      by : (b : Bool) (todo : Todos) → P todo → P (unless_loaded b todo)
      by true (Todo.region_load ∷ todo) h = loaded todo h
      by b todo h = h
  claim-kept loaded p e (Some d) todo claimed h = by (domain_in e.word).init
    where
      by : (b : Bool) → P (after_claim p d b 0 todo).todo
      by true = claimed d refl
      by false = h

  -- The next pending step of a thread of this kind is expanded.
  module _ (Of : Context → Type 0) (expands : (c : Context) → Of c → P [] → P (next_steps image c c.pending)) (p : Processor) where
    waking : ((q : Todo) (todo : Todos) → is_errand q ≡ true → P todo → P (q ∷ todo)) → (ws : List (ThreadIx × Told)) (todo : Todos) → P todo → P (wakes ws todo)
    waking errand [] todo h = h
    waking errand (w ∷ ws) todo h = errand (Todo.wake w.0.0 w.1) (wakes ws todo) refl (waking errand ws todo h)

    pub filled-kept : (c : Context) → Of c → (todo : Todos) → P todo → P (filled_up image c todo)
    filled-kept c of [] h = expands c of h
    filled-kept c of (q ∷ todo) h = h

    -- an answer that is to wait
    pub waits-kept : ((site : ℕ) (todo : Todos) → IsActOver todo → P todo → P (todo ++ Todo.reread site ∷ [])) → (q : Pending) (e : FineStep) (todo : Todos)
        → ((site : ℕ) → noted_cell image (q ∷ []) ≡ Some site → IsActOver todo) → P todo → P (waits_behind image q e todo)
    waits-kept waited q e todo over h = by (answer_in (act_in e.act)) (noted_cell image (q ∷ [])) refl
      where
        by : (answer : Answer) (site : Option ℕ) → noted_cell image (q ∷ []) ≡ site → P (rereads image answer site todo)
        by Answer.Wait (Some site) at = waited site todo (over site at) h
        by Answer.Wait None at = h
        by (Answer.Now reply) site at = h

    -- also where an aborted thread is killed in place of the begin of its turn
    made-over : (q : Pending) (rest : Steps) (e : FineStep) (todo : Todos) → Behind image (Todo.show q rest) todo → (site : ℕ) → noted_cell image (shown_step image q e.act ∷ []) ≡ Some site → IsActOver todo
    made-over q rest e todo over = by (is_killed e.act)
      where
        by : (b : Bool) → (site : ℕ) → noted_cell image ((if b then Pending.Killed else q) ∷ []) ≡ Some site → IsActOver todo
        by true site at = absurd (none≢some site at)
        by false site at = over site at

    -- an event, behind which may stand what it asks for
    pub show-kept : (e : FineStep) (q : Pending) (rest : Steps) (todo : Todos) (Q : Todos → Type 0) → Of (goes_on_by image p e (Todo.show q rest ∷ todo)).context
        → ((site : ℕ) (todo : Todos) → IsActOver todo → P todo → P (todo ++ Todo.reread site ∷ [])) → Behind image (Todo.show q rest) todo
        → ((todo : Todos) → P todo → let made = shown_step image q e.act in Q (looks_behind image p.context made e (behind_step image p.context made e.moved todo)))
        → EndsWell Q e (Todo.show q rest) → P todo → Q (goes_on_by image p e (Todo.show q rest ∷ todo)).todo
    show-kept e q rest todo Q of waited over behind last h = by (is_word_read e.act) of last
      where
        by : (b : Bool)
            → Of (if b then record p { todo = put_away (thread_in e.word).doomed } else after_show image p e (shown_step image q e.act) rest todo).context
            → (b ≡ true → Q (put_away (thread_in e.word).doomed))
            → Q (if b then record p { todo = put_away (thread_in e.word).doomed } else after_show image p e (shown_step image q e.act) rest todo).todo
        by true of last = last refl
        by false of last =
            let made = shown_step image q e.act in
            let c = continues image p.context 0 made rest (act_in e.act) e.moved in
            let there = waits_behind image made e todo in behind (filled_up image c there) (filled-kept c of there (waits-kept waited made e todo (made-over q rest e todo over) h))

    pub goes-kept : ((q : Todo) (todo : Todos) → is_errand q ≡ true → P todo → P (q ∷ todo)) → (e : FineStep) (q : Todo) (todo : Todos) → is_plain q ≡ true
        → Of (goes_on_by image p e (q ∷ todo)).context → EndsWell P e q → P todo → P (goes_on_by image p e (q ∷ todo)).todo
    goes-kept errand e (Todo.show q rest) todo plain of last h = absurd (false≢true plain)
    goes-kept errand e Todo.let_go todo plain of last h = filled-kept p.context of todo h
    goes-kept errand e (Todo.read_claim d) todo plain of last h = absurd (false≢true plain)
    goes-kept errand e (Todo.read_done d) todo plain of last h = filled-kept p.context of todo h
    goes-kept errand e (Todo.end_call x) todo plain of last h = filled-kept p.context of todo h
    goes-kept errand e (Todo.wake who told) todo plain of last h = filled-kept p.context of todo h
    goes-kept errand e (Todo.add c) todo plain of last h = filled-kept p.context of todo h
    goes-kept errand e (Todo.pass who x) todo plain of last h = absurd (false≢true plain)
    goes-kept errand e (Todo.drop x) todo plain of last h = absurd (false≢true plain)
    goes-kept errand e (Todo.clean_pair who x) todo plain of last h = absurd (false≢true plain)
    goes-kept errand e (Todo.recycle x) todo plain of last h = filled-kept p.context of todo h
    goes-kept errand e Todo.park todo plain of last h = last
    goes-kept errand e Todo.done todo plain of last h = last
    goes-kept errand e (Todo.settle deadline mark) todo plain of last h = filled-kept p.context of todo h
    goes-kept errand e (Todo.reread site) todo plain of last h =
        let w = thread_in e.word in
        let q = Todo.look p.context.thread site w.number in
        filled-kept p.context of (if w.aborted then q ∷ todo else todo) (either w.aborted q todo (λ b k. errand q todo refl k) h)
    goes-kept errand e (Todo.look who site before) todo plain of last h =
        filled-kept p.context of (if is_void e.act then todo else Todo.tell_cut who ∷ todo) (unless (is_void e.act) (Todo.tell_cut who) todo (λ b k. errand (Todo.tell_cut who) todo refl k) h)
    goes-kept errand e (Todo.tell_cut who) todo plain of last h = filled-kept p.context of todo h
    goes-kept errand e (Todo.rouse who) todo plain of last h =
        let q = Todo.add (context_in e.moved) in filled-kept p.context of (if is_void e.act then todo else q ∷ todo) (unless (is_void e.act) q todo (λ b k. last b todo k) h)
    goes-kept errand e Todo.reread_asleep todo plain of last h =
        either (is_awake (thread_in e.word)) (Todo.rouse p.context.thread) todo (λ b k. errand (Todo.rouse p.context.thread) todo refl k) h
    goes-kept errand e Todo.leave todo plain of last h = waking errand (told_all (woken_in (act_in e.act))) todo h
    goes-kept errand e (Todo.handle deadline mark) todo plain of last h = by (is_void e.act)
      where
        by : (b : Bool) → P (if b then todo else wakes (told_marked mark (woken_in (act_in e.act))) todo)
        by true = h
        by false = waking errand (told_marked mark (woken_in (act_in e.act))) todo h
    goes-kept errand e Todo.paid todo plain of last h = last
    goes-kept errand e q todo plain of last h = h

    -- a visit of a row of the thread's own
    pub pass-kept : (who x : ℕ) (todo : Todos) → ((y : ℕ) → nat_lt y ROWS ≡ true → P todo → P (Todo.pass who y ∷ todo)) → Of p.context → P todo
        → P (filled_up image p.context (passes who (but (own_row image p.context.thread) (x + 1)) todo))
    pass-kept who x todo put of h =
        let y = but (own_row image p.context.thread) (x + 1) in
        filled-kept p.context of (passes who y todo) (either (nat_lt y ROWS) (Todo.pass who y) todo (put y) h)

    pub drop-kept : (c : Context) (x : ℕ) (todo : Todos) → ((y : ℕ) → nat_lt y ROWS ≡ true → P todo → P (Todo.drop y ∷ todo)) → Of c → P todo
        → P (filled_up image c (drops (x + 1) todo))
    drop-kept c x todo put of h = filled-kept c of (drops (x + 1) todo) (either (nat_lt (x + 1) ROWS) (Todo.drop (x + 1)) todo (put (x + 1)) h)

    -- any step but an event
    pub quiet-kept : ((q : Todo) (todo : Todos) → is_errand q ≡ true → P todo → P (q ∷ todo)) → ((q : Todo) (todo : Todos) → visits_row q ≡ true → names_row q ≡ true → P todo → P (q ∷ todo))
        → ((who x : ℕ) (todo : Todos) → nat_lt x ROWS ≡ true → P todo → P (Todo.clean_pair who x ∷ todo))
        → ((todo : Todos) → P (Todo.region_load ∷ todo) → P todo) → ((d : ℕ) (todo : Todos) → P todo → P (Todo.read_done (Some d) ∷ todo))
        → (e : FineStep) (q : Todo) (todo : Todos) → is_shown q ≡ false → Of (goes_on_by image p e (q ∷ todo)).context → EndsWell P e q → P todo
        → P (goes_on_by image p e (q ∷ todo)).todo
    quiet-kept errand put paired loaded claimed e (Todo.show q rest) todo quiet of last h = absurd (true≢false quiet)
    quiet-kept errand put paired loaded claimed e (Todo.read_claim d) todo quiet of last h = claim-kept loaded p e d todo (λ x at. claimed x todo h) h
    quiet-kept errand put paired loaded claimed e (Todo.pass who x) todo quiet of last h = pass-kept who x todo (λ y few. put (Todo.pass who y) todo refl few) of h
    quiet-kept errand put paired loaded claimed e (Todo.drop x) todo quiet of last h = drop-kept (dropped_at image p.context x (is_visit e.act)) x todo (λ y few. put (Todo.drop y) todo refl few) of h
    quiet-kept errand put paired loaded claimed e (Todo.clean_pair who x) todo quiet of last h =
        either (nat_lt (x + 1) ROWS) (Todo.clean_pair who (x + 1)) todo (paired who (x + 1) todo) h
    quiet-kept errand put paired loaded claimed e q todo quiet of last h = goes-kept errand e q todo refl of last h

    -- a processor takes a thread, or a mark
    pub take-kept : ((instr : Option Instr) → P (turn_of image instr)) → ((deadline : ℕ) (mark : Mark) → P (handling deadline mark)) → (moved : Exchange) → Of (after_take image p moved).context
        → P [] → P p.todo → P (after_take image p moved).todo
    take-kept turns hand (Exchange.thread c None) of none h = by (is_empty c.pending) of
      where
        by : (b : Bool) → Of (if b then record p { context = c; todo = turn image c } else refilled_by image (record p { context = c }) []).context
            → P (if b then record p { context = c; todo = turn image c } else refilled_by image (record p { context = c }) []).todo
        by true of = turns (instruction_at image c.place)
        by false of = filled-kept c of [] none
    take-kept turns hand (Exchange.thread c (Some told)) of none h = filled-kept (resumed image c told) of [] none
    take-kept turns hand (Exchange.mark deadline mark) of none h = hand deadline mark
    take-kept turns hand moved of none h = h

-- that a processor notes whose event it made leaves its list
pub acted-kept : (image : Image) (P : Todos → Type 0) (p : Processor) (act : FineAct) → P p.todo → P (with_actor image p act).todo
acted-kept image P p (FineAct.Shown event more) h = h
acted-kept image P p (FineAct.Unseen unseen) h = h

-- a claim to read leaves the own part of its thread
pub claim-context : (image : Image) (p : Processor) (e : FineStep) (d : Option ℕ) (todo : Todos) → (goes_on_by image p e (Todo.read_claim d ∷ todo)).context ≡ p.context
claim-context image p e None todo = refl
claim-context image p e (Some d) todo = elim (domain_in e.word).init as (λ b. (after_claim p d b 0 todo).context ≡ p.context) [ true ↦ refl | false ↦ refl ]

-- What holds of a list and the same with a cleaning, which stands behind those that have begun.
module _ (image : Image) (R : Todos → Todos → Type 0) (x : ℕ)
    (first : (o : Option ℕ) (todo : Todos) → thread_of_row image x ≡ o → R todo (cleaning_of x o ++ todo))
    (later : (q : Todo) (old new : Todos) → is_cleaning_todo q ≡ true → R old new → R (q ∷ old) (q ∷ new)) where
  pub cleaning-kept : (todo : Todos) → R todo (with_cleaning (cleaning image x) todo)
  cleaning-kept [] = by (thread_of_row image x) refl
    where
      by : (o : Option ℕ) → thread_of_row image x ≡ o → R [] (cleaning_of x o)
      by o e = subst (R []) (append-nil (cleaning_of x o)) (first o [] e)
  cleaning-kept (q ∷ todo) = by (is_cleaning_todo q) refl (cleaning-kept todo)
    where
      by : (b : Bool) → is_cleaning_todo q ≡ b → R todo (with_cleaning (cleaning image x) todo) → R (q ∷ todo) (if b then q ∷ with_cleaning (cleaning image x) todo else cleaning image x ++ q ∷ todo)
      by true e h = later q todo _ e h
      by false e h = first (thread_of_row image x) (q ∷ todo) refl

-- what each step of a processor keeps of its list is so of each processor after a step
pub changed-kept : (f : Fine) (P : Todos → Type 0) (e : FineStep) (k : ℕ) → ((p : Processor) → P p.todo → P (p_next f.image p e).todo) → P (f.processors k).todo
    → P (changed same_cpu cpu_of (p_next f.image) f.processors e k).todo
changed-kept f P e k next h =
    elim (e.cpu == k) as (λ b. P (cond b (p_next f.image (f.processors k) e) (f.processors k)).todo) [ true ↦ next (f.processors k) h | false ↦ h ]
