-- Steps of a processor as a site fills them in: two of one kind that are filled in at one state are equal, whether their site takes them or not.
use Rattle.std.proofs.Common.{◌≡◌, ℕ, Bool, true, false, ◌∷◌, [], Some, None, refl, sym, ap, ◌∙◌, subst}
use Rattle.std.specs.Prelude.{if◌then◌else◌, not, ◌&&◌, ◌||◌, IsTrue}
use Rattle.std.proofs.lemmas.Bool.{and_parts, false≢true, true≢false}
use Rattle.um_base.specs.declared.act.Act.{Act}
use Rattle.um_base.specs.declared.act.Event.{Event}
use Rattle.um_base.specs.declared.act.Leftover.{Leftover}
use Rattle.um_base.specs.declared.image.Image.{Image}
use Rattle.um_base.specs.declared.names.ThreadIx.{ThreadIx}
use Rattle.um_machine.specs.declared.pending.Pending.{Pending}
use Rattle.um_machine.specs.Order.{Steps, to_thread}
use Rattle.um_words.specs.declared.fine.FineAct.{FineAct}
use Rattle.um_words.specs.declared.fine.More.{More}
use Rattle.um_words.specs.declared.fine.Unseen.{Unseen}
use Rattle.um_words.specs.declared.row_word.RowWord.{RowWord}
use Rattle.um_words.specs.declared.thread_word.ThreadWord.{ThreadWord}
use Rattle.um_words.specs.declared.fine.Mark.{Mark}
use Rattle.um_words.specs.Rows.{has, is_last, left_of}
use Rattle.um_fine.specs.Addresses.{address_of}
use Rattle.um_fine.specs.Answers.{act_in, is_due_act, is_killed, is_shut_act, is_tick, is_visit, is_void, is_word_read, leftover_in, now_in, row_in, thread_in, woken_in}
use Rattle.um_fine.specs.Asks.{begins, by_actor, by_me, fits_step, has_room, idle_site, is_dropped, me, moves, moves_idle, moves_show, or_void, roused_by, says, says_show, says_step, says_turn, shows, site_of_step, stops_rightly}
use Rattle.um_fine.specs.Cells.{Cell}
use Rattle.um_fine.specs.Joins.{Joins, join_finds, left_or_shut, sleeps}
use Rattle.um_fine.specs.Objects.{object_finds}
use Rattle.um_fine.specs.Places.{Todo, Todos}
use Rattle.um_fine.specs.Processor.{Processor}
use Rattle.um_fine.specs.Scheduler.{Scheduler, first_ready, sched_moves}
use Rattle.um_fine.specs.Seeking.{finds as waits_in, looked_for}
use Rattle.um_fine.specs.Sites.{SiteState, is_sort, site_after, site_answers, site_moves, word_of}
use Rattle.um_fine.specs.Steps.{Exchange, FineStep, Site, Word}
use Rattle.um_fine.specs.Threads.{unless_stopped}
use Rattle.um_core.specs.Moments.{AreAlike}
use Rattle.um_core.proofs.Filling.{filled-alike, gave, said}

-- the steps by which a thread at rest goes on
abbrev pub is_rest : Pending → Bool
is_rest Pending.Begin = true
is_rest Pending.Exit = true
is_rest q = false

-- a cell in which threads wait
abbrev pub is_place : SiteState → Bool
is_place (SiteState.cell n (Cell.object o)) = true
is_place (SiteState.cell n (Cell.memory m)) = true
is_place (SiteState.cell n (Cell.joins j)) = true
is_place s = false

-- that a look finds nothing
abbrev pub void : FineAct
void = FineAct.Unseen Unseen.Void

module _ (image : Image) (p : Processor) where
  -- What is right of a step whose site takes it, and also of one that its site refuses. A permission is passed on where it is there and the child has none:
  -- else the row is looked at. A thread at rest is killed where it was aborted. Who is looked for is looked for where threads wait.
  abbrev pub IsRight : Todos → SiteState → FineAct → Type 0
  IsRight (Todo.pass who x ∷ todo) (SiteState.row w) act = is_visit act ≡ false → (has w p.context.thread && not (has w who)) ≡ true
  IsRight (Todo.show q rest ∷ todo) (SiteState.thread w) act = is_rest q ≡ true → is_killed act ≡ true → w.aborted ≡ true
  IsRight (Todo.look who site before ∷ todo) s act = is_place s ≡ true
  IsRight (Todo.handle deadline mark ∷ todo) s act = is_place s ≡ true
  IsRight todo s act = Unit {0}

  -- a step of this processor, with its list of steps to make, as a site with this state fills it in
  pub record Filled (todo : Todos) (s : SiteState) (e : FineStep) : Type 0 where
    pub says : says image p todo e.act e.moved ≡ e.act
    pub moves : moves image p todo e.act e.moved ≡ e.moved
    pub answers : site_answers image s e.moved e.act ≡ e.act
    pub gives : site_moves image s e.act e.moved ≡ e.moved
    pub leaves : word_of (site_after image s e.act e.moved) ≡ e.word
    pub right : IsRight todo s e.act
    pub fit : IsTrue (fits_step image p todo e)

  -- two steps that say and move the same
  abbrev pub Same : FineStep → FineStep → Type 0
  Same e g = (e.act ≡ g.act) × (e.moved ≡ g.moved)

  -- of one that has the same whatever stood in it
  pub settled : (todo : Todos) (s : SiteState) (e g : FineStep) → Filled todo s e → Filled todo s g → says image p todo e.act e.moved ≡ says image p todo g.act g.moved → moves image p todo e.act e.moved ≡ moves image p todo g.act g.moved → Same e g
  settled todo s e g l r h k = (sym l.says ∙ (h ∙ r.says), sym l.moves ∙ (k ∙ r.moves))

  -- what a site gives by an act that is known
  pub given-by : (todo : Todos) (s : SiteState) (e : FineStep) (l : Filled todo s e) (a : FineAct) → a ≡ e.act → e.moved ≡ site_moves image s a e.moved
  given-by todo s e l a h = sym (ap (λ x. site_moves image s x e.moved) h ∙ l.gives)

  pub answered-by : (todo : Todos) (s : SiteState) (e : FineStep) (l : Filled todo s e) (a : FineAct) → a ≡ e.act → e.act ≡ site_answers image s e.moved a
  answered-by todo s e l a h = sym (ap (site_answers image s e.moved) h ∙ l.answers)

  -- Events.

  -- an event is what its site fills in of it
  event-is : (q : Pending) (rest : Steps) (todo : Todos) (s : SiteState) (e : FineStep) (l : Filled (Todo.show q rest ∷ todo) s e) → shows image p q e.act ≡ e.act
      → (e.moved ≡ gave image p s q rest e.act e.moved) × (e.act ≡ said image p s q rest e.act e.moved)
  event-is q rest todo s e l h =
      let m : e.moved ≡ gave image p s q rest e.act e.moved = sym (ap (λ x. site_moves image s (shows image p q e.act) x) l.moves ∙ (ap (λ x. site_moves image s x e.moved) h ∙ l.gives)) in
      (m, sym (ap (λ x. site_answers image s x (shows image p q e.act)) (sym m) ∙ (ap (site_answers image s e.moved) h ∙ l.answers)))

  event-same : (q : Pending) (rest : Steps) (todo : Todos) (s : SiteState) (e g : FineStep) → IsTrue (is_sort (site_of_step image p q) s)
      → Filled (Todo.show q rest ∷ todo) s e → Filled (Todo.show q rest ∷ todo) s g → shows image p q e.act ≡ e.act → shows image p q g.act ≡ g.act → Same e g
  event-same q rest todo s e g sort l r h k =
      let one = event-is q rest todo s e l h in
      let other = event-is q rest todo s g r k in
      let alike = filled-alike image p s q sort rest e.act g.act e.moved g.moved in
      (one.1 ∙ (alike.1 ∙ sym other.1), one.0 ∙ (alike.0 ∙ sym other.0))

  -- A thread at rest goes on, or its word shows that it is doomed, aborted or suspended.

  -- a word read leaves a word that shows the same, and so does a kill
  read-leaves : (w : ThreadWord) (word : Word) (moved : Exchange) → word_of (site_after image (SiteState.thread w) (FineAct.Unseen Unseen.WordRead) moved) ≡ word
      → ((thread_in word).doomed || ((thread_in word).suspended && not (thread_in word).aborted)) ≡ (w.doomed || (w.suspended && not w.aborted))
  read-leaves w word moved h = sym (ap (λ x. (thread_in x).doomed || ((thread_in x).suspended && not (thread_in x).aborted)) h)

  kill-leaves : (w : ThreadWord) (word : Word) (moved : Exchange) → word_of (site_after image (SiteState.thread w) (by_me image p Act.Killed) moved) ≡ word → (thread_in word).doomed ≡ w.doomed
  kill-leaves w word moved h = sym (ap (λ x. (thread_in x).doomed) h)

  stops-of : (b d c r : Bool) → b ≡ true → IsTrue ((if b then d else c) && r) → d ≡ true
  stops-of true d c r h f = (and_parts d r f).0
  stops-of false d c r h f = absurd (false≢true h)

  lives-of : (b d c n r : Bool) → b ≡ false → c ≡ true → IsTrue ((if b then d else (not c || n)) && r) → n ≡ true
  lives-of true d c n r h k f = absurd (true≢false h)
  lives-of false d true n r h k f = (and_parts n r f).0
  lives-of false d false n r h k f = absurd (false≢true k)

  reads : (d a s : Bool) (event : Event) (more : More) → (d || (s && not a)) ≡ true → FineAct.Unseen Unseen.WordRead ≡ unless_stopped d a s event more
  reads true a s event more h = refl
  reads false true true event more h = absurd (false≢true h)
  reads false true false event more h = absurd (false≢true h)
  reads false false true event more h = refl
  reads false false false event more h = absurd (false≢true h)

  kills : (d a s : Bool) (event : Event) (more : More) → not d ≡ true → a ≡ true → FineAct.Shown (record event { act = Act.Killed }) More.Nothing ≡ unless_stopped d a s event more
  kills true a s event more h k = absurd (false≢true h)
  kills false true s event more h k = refl
  kills false false s event more h k = absurd (false≢true k)

  -- what such a thread makes at a word
  abbrev stopped : Pending → ThreadWord → FineAct
  stopped q w = unless_stopped w.doomed w.aborted w.suspended (record { thread = me image p; act = says_step image p q Act.Exit }) More.Nothing

  record Rests (q : Pending) : Type 0 where
    pub rests : is_rest q ≡ true
    pub begins : (e : FineAct) → says_show image p q e ≡ begins image p q e
    pub fits : (rest : Steps) (todo : Todos) (x : FineStep) → fits_step image p (Todo.show q rest ∷ todo) x ≡ (stops_rightly image p x && has_room image p q)
    pub moves : (rest : Steps) (m : Exchange) → moves_show image p q rest m ≡ Exchange.nothing
    pub turned : (w : ThreadWord) (moved : Exchange) (e : FineAct) → site_answers image (SiteState.thread w) moved (shows image p q e) ≡ stopped q w

  rest-is : (q : Pending) → Rests q → (rest : Steps) (todo : Todos) (w : ThreadWord) (x : FineStep) → Filled (Todo.show q rest ∷ todo) (SiteState.thread w) x → x.act ≡ stopped q w
  rest-is q at rest todo w x o =
      by (is_word_read x.act) (is_killed x.act) refl refl (sym (at.begins x.act) ∙ o.says) (subst IsTrue (at.fits rest todo x) o.fit)
    where
      by : (b c : Bool) → is_word_read x.act ≡ b → is_killed x.act ≡ c → begins image p q x.act ≡ x.act → IsTrue (stops_rightly image p x && has_room image p q) → x.act ≡ stopped q w
      by true c h k says fit =
          let read : FineAct.Unseen Unseen.WordRead ≡ x.act =
          ap (λ b. if b then FineAct.Unseen Unseen.WordRead else if is_killed x.act then by_me image p Act.Killed else shows image p q x.act) (sym h) ∙ says in
          sym read
          ∙ reads w.doomed w.aborted w.suspended (record { thread = me image p; act = says_step image p q Act.Exit }) More.Nothing
          (sym (read-leaves w x.word x.moved (ap (λ a. word_of (site_after image (SiteState.thread w) a x.moved)) read ∙ o.leaves))
          ∙ stops-of (is_word_read x.act) ((thread_in x.word).doomed || ((thread_in x.word).suspended && not (thread_in x.word).aborted))
          (not (is_killed x.act) || not (thread_in x.word).doomed) (has_room image p q) h fit)
      by false true h k says fit =
          let killed : by_me image p Act.Killed ≡ x.act =
          (λ i. if sym h i then FineAct.Unseen Unseen.WordRead else if sym k i then by_me image p Act.Killed else shows image p q x.act) ∙ says in
          sym killed
          ∙ kills w.doomed w.aborted w.suspended (record { thread = me image p; act = says_step image p q Act.Exit }) More.Nothing
          (ap (λ b. not b) (sym (kill-leaves w x.word x.moved (ap (λ a. word_of (site_after image (SiteState.thread w) a x.moved)) killed ∙ o.leaves)))
          ∙ lives-of (is_word_read x.act) ((thread_in x.word).doomed || ((thread_in x.word).suspended && not (thread_in x.word).aborted)) (is_killed x.act)
          (not (thread_in x.word).doomed) (has_room image p q) h k fit)
          (o.right at.rests k)
      by false false h k says fit =
          let shown : shows image p q x.act ≡ x.act =
          (λ i. if sym h i then FineAct.Unseen Unseen.WordRead else if sym k i then by_me image p Act.Killed else shows image p q x.act) ∙ says in
          answered-by (Todo.show q rest ∷ todo) (SiteState.thread w) x o (shows image p q x.act) shown ∙ at.turned w x.moved x.act

  rest-same : (q : Pending) → Rests q → (rest : Steps) (todo : Todos) (w : ThreadWord) (e g : FineStep)
      → Filled (Todo.show q rest ∷ todo) (SiteState.thread w) e → Filled (Todo.show q rest ∷ todo) (SiteState.thread w) g → Same e g
  rest-same q at rest todo w e g l r =
      (rest-is q at rest todo w e l ∙ sym (rest-is q at rest todo w g r), sym l.moves ∙ (at.moves rest e.moved ∙ (sym (at.moves rest g.moved) ∙ r.moves)))

  begin-rests : Rests Pending.Begin
  begin-rests = record { rests = refl; begins = λ e. refl; fits = λ rest todo x. refl; moves = λ rest m. refl; turned = λ w moved e. refl }

  exit-rests : Rests Pending.Exit
  exit-rests = record { rests = refl; begins = λ e. refl; fits = λ rest todo x. refl; moves = λ rest m. refl; turned = λ w moved e. refl }

  pub show-same : (q : Pending) (rest : Steps) (todo : Todos) (s : SiteState) (e g : FineStep) → IsTrue (is_sort (site_of_step image p q) s)
      → Filled (Todo.show q rest ∷ todo) s e → Filled (Todo.show q rest ∷ todo) s g → Same e g
  show-same Pending.Begin rest todo (SiteState.thread w) e g sort l r = rest-same Pending.Begin begin-rests rest todo w e g l r
  show-same Pending.Begin rest todo s e g sort l r = absurd (false≢true sort)
  show-same Pending.Exit rest todo (SiteState.thread w) e g sort l r = rest-same Pending.Exit exit-rests rest todo w e g l r
  show-same Pending.Exit rest todo s e g sort l r = absurd (false≢true sort)
  show-same q rest todo s e g sort l r = event-same q rest todo s e g sort l r l.says r.says

  -- A visit is an event where there is a permission to pass on or to drop, and else a look.

  abbrev pub visiting : FineAct → Act → FineAct
  visiting e act = if is_visit e then FineAct.Unseen Unseen.Visit else by_me image p act

  -- Whether the permission is there, as both words that are left show.
  visit-same : (todo : Todos) (w : RowWord) (again : Act → Act) (there : Bool) (e g : FineStep) → Filled todo (SiteState.row w) e → Filled todo (SiteState.row w) g
      → visiting e.act (again (act_in e.act)) ≡ e.act → visiting g.act (again (act_in g.act)) ≡ g.act
      → (moves image p todo e.act e.moved ≡ moves image p todo g.act g.moved)
      → ((x y : Act) (m n : Exchange) → site_answers image (SiteState.row w) m (by_me image p (again x)) ≡ site_answers image (SiteState.row w) n (by_me image p (again y)))
      → ((x : FineStep) → Filled todo (SiteState.row w) x → is_visit x.act ≡ true → FineAct.Unseen Unseen.Visit ≡ x.act → there ≡ false)
      → ((x : FineStep) → Filled todo (SiteState.row w) x → is_visit x.act ≡ false → by_me image p (again (act_in x.act)) ≡ x.act → there ≡ true)
      → (b c : Bool) → is_visit e.act ≡ b → is_visit g.act ≡ c → Same e g
  visit-same todo w again there e g l r one other m alike looks shows b c h k =
      by b c (sym (ap (λ x. if x then FineAct.Unseen Unseen.Visit else by_me image p (again (act_in e.act))) h) ∙ one) (sym (ap (λ x. if x then FineAct.Unseen Unseen.Visit else by_me image p (again (act_in g.act))) k) ∙ other) h k
    where
      same-moved : e.moved ≡ g.moved
      same-moved = sym l.moves ∙ (m ∙ r.moves)

      by : (b c : Bool) → (if b then FineAct.Unseen Unseen.Visit else by_me image p (again (act_in e.act))) ≡ e.act → (if c then FineAct.Unseen Unseen.Visit else by_me image p (again (act_in g.act))) ≡ g.act
          → is_visit e.act ≡ b → is_visit g.act ≡ c → Same e g
      by true true one other h k = (sym one ∙ other, same-moved)
      by false false one other h k = (
        answered-by todo (SiteState.row w) e l (by_me image p (again (act_in e.act))) one
            ∙ (alike (act_in e.act) (act_in g.act) e.moved g.moved ∙ sym (answered-by todo (SiteState.row w) g r (by_me image p (again (act_in g.act))) other)),
        same-moved,
      )
      by true false one other h k = absurd (false≢true (sym (looks e l h one) ∙ shows g r k other))
      by false true one other h k = absurd (false≢true (sym (looks g r k other) ∙ shows e l h one))

  -- the word that a look leaves has the same permissions
  look-leaves : (w : RowWord) (word : Word) (moved : Exchange) (t : ℕ) → word_of (site_after image (SiteState.row w) (FineAct.Unseen Unseen.Visit) moved) ≡ word → has (row_in word) t ≡ has w t
  look-leaves w word moved t h = sym (ap (λ x. has (row_in x) t) h)

  none-there : (b c : Bool) → b ≡ true → IsTrue (not b || not c) → c ≡ false
  none-there true true h f = absurd (false≢true f)
  none-there true false h f = refl
  none-there false c h f = absurd (false≢true h)

  looked : (b c d : Bool) → b ≡ true → IsTrue (if b then not c else d) → c ≡ false
  looked true true d h f = absurd (false≢true f)
  looked true false d h f = refl
  looked false c d h f = absurd (false≢true h)

  -- what is dropped was there
  dropped-there : (w : RowWord) (t : ℕ) (b c : Bool) (left : Leftover) → b ≡ false → IsTrue (if b then not c else is_dropped left) → left ≡ left_of w t → has w t ≡ true
  dropped-there w t true c left h f k = absurd (false≢true (sym h))
  dropped-there w t false c left h f k = by (has w t) refl
    where
      by : (there : Bool) → has w t ≡ there → has w t ≡ true
      by true e = e
      by false e = absurd (false≢true (sym (ap is_dropped (k ∙ ap (λ x. if not x then Leftover.NoPair else if is_last w t then Leftover.Gone else Leftover.Kept) e)) ∙ f))

  pub pass-same : (who x : ℕ) (todo : Todos) (w : RowWord) (e g : FineStep) → Filled (Todo.pass who x ∷ todo) (SiteState.row w) e → Filled (Todo.pass who x ∷ todo) (SiteState.row w) g → Same e g
  pass-same who x todo w e g l r =
      visit-same (Todo.pass who x ∷ todo) w (λ z. Act.Inherit (to_thread who) (address_of image x)) (has w p.context.thread && not (has w who)) e g l r l.says r.says refl (λ y z m n. refl)
      (λ y o h k.
      let same = λ (t : ℕ). look-leaves w y.word y.moved t (ap (λ a. word_of (site_after image (SiteState.row w) a y.moved)) k ∙ o.leaves) in
      (λ i. sym (same p.context.thread) i && not (sym (same who) i)) ∙ none-there (is_visit y.act) (has (row_in y.word) p.context.thread && not (has (row_in y.word) who)) h o.fit)
      (λ y o h k. o.right h)
      (is_visit e.act) (is_visit g.act) refl refl

  -- A permission that is dropped, by its own thread or in cleaning.
  pub drop-same : (q : Todo) (who : ℕ) (x : ℕ) (todo : Todos) (w : RowWord) (e g : FineStep) → Filled (q ∷ todo) (SiteState.row w) e → Filled (q ∷ todo) (SiteState.row w) g
      → ((y : FineStep) → says image p (q ∷ todo) y.act y.moved ≡ visiting y.act (Act.DropPair (to_thread who) (address_of image x) (leftover_in (act_in y.act))))
      → ((y : FineStep) → moves image p (q ∷ todo) y.act y.moved ≡ Exchange.nothing)
      → ((y : FineStep) → fits_step image p (q ∷ todo) y ≡ (if is_visit y.act then not (has (row_in y.word) who) else is_dropped (leftover_in (act_in y.act))))
      → Same e g
  drop-same q who x todo w e g l r says' moves' fits' =
      visit-same (q ∷ todo) w (λ z. Act.DropPair (to_thread who) (address_of image x) (leftover_in z)) (has w who) e g l r (sym (says' e) ∙ l.says) (sym (says' g) ∙ r.says) (moves' e ∙ sym (moves' g)) (λ y z m n. refl)
      (λ y o h k.
      sym (look-leaves w y.word y.moved who (ap (λ a. word_of (site_after image (SiteState.row w) a y.moved)) k ∙ o.leaves))
      ∙ looked (is_visit y.act) (has (row_in y.word) who) (is_dropped (leftover_in (act_in y.act))) h (subst IsTrue (fits' y) o.fit))
      (λ y o h k.
      dropped-there w who (is_visit y.act) (has (row_in y.word) who) (leftover_in (act_in y.act)) h (subst IsTrue (fits' y) o.fit)
      (ap (λ a. leftover_in (act_in a)) (answered-by (q ∷ todo) (SiteState.row w) y o (by_me image p (Act.DropPair (to_thread who) (address_of image x) (leftover_in (act_in y.act)))) k)))
      (is_visit e.act) (is_visit g.act) refl refl

  -- A processor without a thread: a mark that it is given is the first that is due, time goes on to the next deadline, and a thread that it takes is the first
  -- that is ready.

  turn-takes : (t : Scheduler) (m : Exchange) → sched_moves t (says_turn image p m) m ≡ first_ready t t.ready
  turn-takes t (Exchange.thread c None) = refl
  turn-takes t (Exchange.thread c (Some told)) = refl
  turn-takes t m = refl

  -- what it does, by whether it is given a mark and whether time goes on
  abbrev idles : Bool → Bool → FineAct → Exchange → FineAct
  idles b c act m = if b then FineAct.Unseen Unseen.Due else if c then by_actor image p (Act.Tick (now_in (act_in act))) else says_turn image p m

  pub idle-same : (s : SiteState) (e g : FineStep) → IsTrue (is_sort (idle_site image p e.act) s) → AreAlike e g → Filled [] s e → Filled [] s g → Same e g
  idle-same s e g sort alike l r =
      by (is_due_act e.act) (is_tick e.act) s
      (ap (λ b. idles b (is_tick e.act) e.act e.moved) refl ∙ l.says) ((λ i. idles (alike.due i) (alike.tick i) g.act g.moved) ∙ r.says)
      l.moves (ap (λ c. moves_idle image p c g.moved) alike.tick ∙ r.moves) sort l r
    where
      by : (b c : Bool) (s : SiteState) → idles b c e.act e.moved ≡ e.act → idles b c g.act g.moved ≡ g.act → moves_idle image p c e.moved ≡ e.moved → moves_idle image p c g.moved ≡ g.moved
          → IsTrue (is_sort (if b || c then Site.clock else Site.scheduler) s) → Filled [] s e → Filled [] s g → Same e g
      by true c (SiteState.cell n (Cell.clock k)) one other m m2 sort l r =
          let f = λ (y : FineStep) (o : Filled [] (SiteState.cell n (Cell.clock k)) y) (h : FineAct.Unseen Unseen.Due ≡ y.act).
          given-by [] (SiteState.cell n (Cell.clock k)) y o (FineAct.Unseen Unseen.Due) h in
          (sym one ∙ other, f e l one ∙ sym (f g r other))
      by false true (SiteState.cell n (Cell.clock k)) one other m m2 sort l r =
          let f = λ (y : FineStep) (o : Filled [] (SiteState.cell n (Cell.clock k)) y) (h : by_actor image p (Act.Tick (now_in (act_in y.act))) ≡ y.act).
          answered-by [] (SiteState.cell n (Cell.clock k)) y o (by_actor image p (Act.Tick (now_in (act_in y.act)))) h in
          (f e l one ∙ sym (f g r other), sym m ∙ m2)
      by false false (SiteState.cell n (Cell.scheduler t)) one other m m2 sort l r =
          let f = λ (y : FineStep) (o : Filled [] (SiteState.cell n (Cell.scheduler t)) y) (h : says_turn image p y.moved ≡ y.act).
          sym (sym (turn-takes t y.moved) ∙ (ap (λ x. sched_moves t x y.moved) h ∙ o.gives)) in
          let same : e.moved ≡ g.moved = f e l one ∙ sym (f g r other) in
          (sym one ∙ (ap (says_turn image p) same ∙ other), same)
      by true c s one other m m2 sort l r = absurd (false≢true sort)
      by false true s one other m m2 sort l r = absurd (false≢true sort)
      by false false s one other m m2 sort l r = absurd (false≢true sort)

  -- A look finds who is looked for, or nobody.

  void-is : (b : Bool) (act w : FineAct) → b ≡ true → (if b then void else w) ≡ act → void ≡ act
  void-is true act w h k = k
  void-is false act w h k = absurd (false≢true h)

  shown-is : (b : Bool) (act w : FineAct) → b ≡ false → (if b then void else w) ≡ act → w ≡ act
  shown-is true act w h k = absurd (true≢false h)
  shown-is false act w h k = k

  -- who answers that nobody is there found nobody
  nobody : (finds : Bool) (act : FineAct) → looked_for finds void ≡ act → is_void act ≡ true → finds ≡ false
  nobody true act h k = absurd (false≢true (ap is_void h ∙ k))
  nobody false act h k = refl

  somebody : (finds : Bool) (said act : FineAct) → looked_for finds said ≡ act → is_void act ≡ false → finds ≡ true
  somebody true said act h k = refl
  somebody false said act h k = absurd (true≢false (ap is_void h ∙ k))

  pub look-same : (todo : Todos) (s : SiteState) (e g : FineStep) → Filled todo s e → Filled todo s g → (what : FineAct → FineAct) (finds : Exchange → Bool) (said : Exchange → FineAct)
      → or_void image p e.act (what e.act) ≡ e.act → or_void image p g.act (what g.act) ≡ g.act → moves image p todo e.act e.moved ≡ moves image p todo g.act g.moved
      → ((a : FineAct) (m : Exchange) → site_answers image s m (what a) ≡ looked_for (finds m) (said m))
      → ((m : Exchange) → site_answers image s m void ≡ looked_for (finds m) void)
      → Same e g
  look-same todo s e g l r what finds said one other m shown voids = by (is_void e.act) (is_void g.act) refl refl
    where
      same-moved : e.moved ≡ g.moved
      same-moved = sym l.moves ∙ (m ∙ r.moves)

      none : (x : FineStep) → Filled todo s x → or_void image p x.act (what x.act) ≡ x.act → is_void x.act ≡ true → finds x.moved ≡ false
      none x o h k =
          nobody (finds x.moved) x.act
          (sym (voids x.moved) ∙ (ap (site_answers image s x.moved) (void-is (is_void x.act) x.act (what x.act) k h) ∙ o.answers)) k

      found : (x : FineStep) → Filled todo s x → or_void image p x.act (what x.act) ≡ x.act → is_void x.act ≡ false → looked_for (finds x.moved) (said x.moved) ≡ x.act
      found x o h k =
          sym (shown (x.act) x.moved) ∙ (ap (site_answers image s x.moved) (shown-is (is_void x.act) x.act (what x.act) k h) ∙ o.answers)

      by : (b c : Bool) → is_void e.act ≡ b → is_void g.act ≡ c → Same e g
      by true true h k = (sym (void-is (is_void e.act) e.act (what e.act) h one) ∙ void-is (is_void g.act) g.act (what g.act) k other, same-moved)
      by false false h k = (sym (found e l one h) ∙ (ap (λ x. looked_for (finds x) (said x)) same-moved ∙ found g r other k), same-moved)
      by true false h k =
          absurd (false≢true (sym (none e l one h) ∙ (ap finds same-moved ∙ somebody (finds g.moved) (said g.moved) g.act (found g r other k) k)))
      by false true h k =
          absurd (true≢false (sym (somebody (finds e.moved) (said e.moved) e.act (found e l one h) h) ∙ (ap finds same-moved ∙ none g r other k)))

  -- a thread that was aborted is looked for, or one whose deadline has come
  pub cut-same : (who site before : ℕ) (todo : Todos) (s : SiteState) (e g : FineStep) → is_place s ≡ true
      → Filled (Todo.look who site before ∷ todo) s e → Filled (Todo.look who site before ∷ todo) s g → Same e g
  cut-same who site before todo (SiteState.cell n (Cell.object o)) e g place l r =
      look-same (Todo.look who site before ∷ todo) (SiteState.cell n (Cell.object o)) e g l r (λ a. by_me image p (Act.Cut (to_thread who))) (object_finds o)
      (λ m. by_me image p (Act.Cut (to_thread who))) l.says r.says refl (λ a m. refl) (λ m. refl)
  cut-same who site before todo (SiteState.cell n (Cell.memory bs)) e g place l r =
      look-same (Todo.look who site before ∷ todo) (SiteState.cell n (Cell.memory bs)) e g l r (λ a. by_me image p (Act.Cut (to_thread who))) (waits_in bs.futexes bs.noted)
      (λ m. by_me image p (Act.Cut (to_thread who))) l.says r.says refl (λ a m. refl) (λ m. refl)
  cut-same who site before todo (SiteState.cell n (Cell.joins j)) e g place l r =
      look-same (Todo.look who site before ∷ todo) (SiteState.cell n (Cell.joins j)) e g l r (λ a. by_me image p (Act.Cut (to_thread who))) (join_finds j)
      (λ m. by_me image p (Act.Cut (to_thread who))) l.says r.says refl (λ a m. refl) (λ m. refl)
  cut-same who site before todo s e g place l r = absurd (false≢true place)

  pub late-same : (deadline : ℕ) (who : ThreadIx) (site : ℕ) (todo : Todos) (s : SiteState) (e g : FineStep) → is_place s ≡ true
      → Filled (Todo.handle deadline (Mark.Thread who site) ∷ todo) s e → Filled (Todo.handle deadline (Mark.Thread who site) ∷ todo) s g → Same e g
  late-same deadline who site todo (SiteState.cell n (Cell.object o)) e g place l r =
      look-same (Todo.handle deadline (Mark.Thread who site) ∷ todo) (SiteState.cell n (Cell.object o)) e g l r (λ a. by_actor image p (Act.TimedOut who)) (object_finds o)
      (λ m. by_actor image p (Act.TimedOut who)) l.says r.says refl (λ a m. refl) (λ m. refl)
  late-same deadline who site todo (SiteState.cell n (Cell.memory bs)) e g place l r =
      look-same (Todo.handle deadline (Mark.Thread who site) ∷ todo) (SiteState.cell n (Cell.memory bs)) e g l r (λ a. by_actor image p (Act.TimedOut who)) (waits_in bs.futexes bs.noted)
      (λ m. by_actor image p (Act.TimedOut who)) l.says r.says refl (λ a m. refl) (λ m. refl)
  late-same deadline who site todo (SiteState.cell n (Cell.joins j)) e g place l r =
      look-same (Todo.handle deadline (Mark.Thread who site) ∷ todo) (SiteState.cell n (Cell.joins j)) e g l r (λ a. by_actor image p (Act.TimedOut who)) (join_finds j)
      (λ m. by_actor image p (Act.TimedOut who)) l.says r.says refl (λ a m. refl) (λ m. refl)
  late-same deadline who site todo s e g place l r = absurd (false≢true place)

  abbrev rouses : ℕ → FineAct
  rouses who = FineAct.Unseen (Unseen.Rouse (to_thread who))

  -- a sleeper is roused, if it is there
  pub rouse-same : (who : ℕ) (todo : Todos) (n : ℕ) (j : Joins) (e g : FineStep)
      → Filled (Todo.rouse who ∷ todo) (SiteState.cell n (Cell.joins j)) e → Filled (Todo.rouse who ∷ todo) (SiteState.cell n (Cell.joins j)) g → Same e g
  rouse-same who todo n j e g l r = by (is_void e.act) (is_void g.act) refl refl
    where
      gone : (x : FineStep) → Filled (Todo.rouse who ∷ todo) (SiteState.cell n (Cell.joins j)) x → is_void x.act ≡ true → Exchange.sought (to_thread who) None ≡ x.moved
      gone x o k = ap (λ b. roused_by image p who b x.moved) (sym k) ∙ o.moves

      none : (x : FineStep) → Filled (Todo.rouse who ∷ todo) (SiteState.cell n (Cell.joins j)) x → is_void x.act ≡ true → sleeps j who ≡ false
      none x o k =
          nobody (sleeps j who) x.act
          (ap (λ m. site_answers image (SiteState.cell n (Cell.joins j)) m void) (gone x o k) ∙ (ap (site_answers image (SiteState.cell n (Cell.joins j)) x.moved) (void-is (is_void x.act) x.act (rouses who) k o.says) ∙ o.answers)) k

      wakes : (b : Bool) (act : FineAct) → (if b then (rouses who) else void) ≡ act → is_void act ≡ false → b ≡ true
      wakes true act h k = refl
      wakes false act h k = absurd (true≢false (ap is_void h ∙ k))

      there : (x : FineStep) → Filled (Todo.rouse who ∷ todo) (SiteState.cell n (Cell.joins j)) x → is_void x.act ≡ false → (rouses who) ≡ x.act
      there x o k = shown-is (is_void x.act) x.act (rouses who) k o.says

      some : (x : FineStep) → Filled (Todo.rouse who ∷ todo) (SiteState.cell n (Cell.joins j)) x → is_void x.act ≡ false → sleeps j who ≡ true
      some x o k = wakes (sleeps j who) x.act (ap (site_answers image (SiteState.cell n (Cell.joins j)) x.moved) (there x o k) ∙ o.answers) k

      by : (b c : Bool) → is_void e.act ≡ b → is_void g.act ≡ c → Same e g
      by true true h k = (
        sym (void-is (is_void e.act) e.act (rouses who) h l.says) ∙ void-is (is_void g.act) g.act (rouses who) k r.says,
        sym (gone e l h) ∙ gone g r k,
      )
      by false false h k = (
        sym (there e l h) ∙ there g r k,
        given-by (Todo.rouse who ∷ todo) (SiteState.cell n (Cell.joins j)) e l (rouses who) (there e l h) ∙ sym (given-by (Todo.rouse who ∷ todo) (SiteState.cell n (Cell.joins j)) g r (rouses who) (there g r k)),
      )
      by true false h k = absurd (false≢true (sym (none e l h) ∙ some g r k))
      by false true h k = absurd (false≢true (sym (none g r k) ∙ some e l h))

  -- the own object is left to those who join, or to nobody
  pub leave-same : (todo : Todos) (n : ℕ) (j : Joins) (e g : FineStep)
      → Filled (Todo.leave ∷ todo) (SiteState.cell n (Cell.joins j)) e → Filled (Todo.leave ∷ todo) (SiteState.cell n (Cell.joins j)) g → Same e g
  leave-same todo n j e g l r = (is e l (is_shut_act e.act) l.says ∙ sym (is g r (is_shut_act g.act) r.says), sym l.moves ∙ r.moves)
    where
      is : (x : FineStep) → Filled (Todo.leave ∷ todo) (SiteState.cell n (Cell.joins j)) x → (b : Bool)
          → (if b then FineAct.Unseen (Unseen.Shut (me image p)) else by_me image p (Act.Left (me image p) (woken_in (act_in x.act)))) ≡ x.act → x.act ≡ left_or_shut j (me image p)
      is x o true h = answered-by (Todo.leave ∷ todo) (SiteState.cell n (Cell.joins j)) x o (FineAct.Unseen (Unseen.Shut (me image p))) h
      is x o false h = answered-by (Todo.leave ∷ todo) (SiteState.cell n (Cell.joins j)) x o (by_me image p (Act.Left (me image p) (woken_in (act_in x.act)))) h
