-- A processor has at most one step that it makes and that the step's site takes.
use Rattle.std.proofs.Common.{◌≡◌, ℕ, Bool, true, false, ◌∷◌, [], Option, refl, sym, ap, ◌∙◌, subst}
use Rattle.std.specs.Prelude.{if◌then◌else◌, not, ◌&&◌, ◌||◌, IsTrue}
use Rattle.std.proofs.lemmas.Bool.{and_parts, false≢true}
use Rattle.um_base.specs.Regions.{Partitions}
use Rattle.um_base.specs.declared.act.Act.{Act}
use Rattle.um_base.specs.declared.image.Image.{Image}
use Rattle.um_machine.specs.Domains.{domain_after}
use Rattle.um_machine.specs.declared.pending.Pending.{Pending}
use Rattle.um_machine.specs.Order.{Steps, to_thread}
use Rattle.um_machine.specs.Table.{replies_of}
use Rattle.um_words.specs.declared.fine.FineAct.{FineAct}
use Rattle.um_words.specs.declared.fine.More.{More}
use Rattle.um_words.specs.declared.fine.Unseen.{Unseen}
use Rattle.um_words.specs.declared.thread_word.ThreadWord.{ThreadWord}
use Rattle.um_words.specs.declared.fine.Mark.{Mark}
use Rattle.um_words.specs.Threads.{thread_after, thread_after_act, thread_takes_act}
use Rattle.um_fine.specs.Addresses.{address_of}
use Rattle.um_fine.specs.Answers.{act_in, before_in, is_killed, is_killed_act, is_void, thread_in, woken_in}
use Rattle.um_fine.specs.Asks.{CpuMay, by_actor, by_me, fits_step, made_by, marks_end, me, next_site, says, site_by}
use Rattle.um_fine.specs.Cells.{Cell}
use Rattle.um_fine.specs.Objects.{object_finds, run_out}
use Rattle.um_fine.specs.Places.{Todo, Todos}
use Rattle.um_fine.specs.Processor.{Processor, edit_of}
use Rattle.um_fine.specs.Sites.{SiteMay, SiteState, filled, is_sort, site_after, site_answers, site_moves, site_takes, word_of}
use Rattle.um_fine.specs.Steps.{Exchange, FineStep, Site}
use Rattle.um_processor.specs.Wants.{wants_step}
use Rattle.um_tables.specs.Sited.{IsSeen}
use Rattle.um_core.specs.Moments.{AreAlike, AreSorted, MayStep}
use Rattle.um_core.proofs.FilledIn.{Filled, IsRight, Same, answered-by, cut-same, drop-same, given-by, idle-same, is_place, is_rest, late-same, leave-same, look-same, pass-same, rouse-same, settled, show-same, void}

module _ (image : Image) (p : Processor) where
  -- an edit is of the partitions that stand
  edit-before : (d : ℕ) (q : Pending) (todo : Todos) (n : ℕ) (parts : Option Partitions) (e : FineStep) → Filled image p (Todo.edit d q ∷ todo) (SiteState.cell n (Cell.parts parts)) e → before_in e.moved ≡ parts
  edit-before d q todo n parts e l =
      let a = given-by image p (Todo.edit d q ∷ todo) (SiteState.cell n (Cell.parts parts)) e l (FineAct.Unseen Unseen.Edit) l.says in
      ap before_in (a ∙ ap (λ m. site_moves image (SiteState.cell n (Cell.parts parts)) (FineAct.Unseen Unseen.Edit) m) (sym l.moves))

  same : (todo : Todos) (s : SiteState) (e g : FineStep) → IsTrue (is_sort (site_by image p todo e.act) s) → AreAlike e g → Filled image p todo s e → Filled image p todo s g → Same image p e g
  same [] s e g sort alike l r = idle-same image p s e g sort alike l r
  same (Todo.show q rest ∷ todo) s e g sort alike l r = show-same image p q rest todo s e g sort l r
  same (Todo.hold ∷ todo) s e g sort alike l r = settled image p (Todo.hold ∷ todo) s e g l r refl refl
  same (Todo.let_go ∷ todo) s e g sort alike l r = settled image p (Todo.let_go ∷ todo) s e g l r refl refl
  same (Todo.read_claim d ∷ todo) s e g sort alike l r = settled image p (Todo.read_claim d ∷ todo) s e g l r refl refl
  same (Todo.read_done d ∷ todo) s e g sort alike l r = settled image p (Todo.read_done d ∷ todo) s e g l r refl refl
  same (Todo.region_load ∷ todo) (SiteState.cell n (Cell.parts parts)) e g sort alike l r =
      let f = given-by image p (Todo.region_load ∷ todo) (SiteState.cell n (Cell.parts parts)) in (sym l.says ∙ r.says, f e l (FineAct.Unseen Unseen.RegionLoad) l.says ∙ sym (f g r (FineAct.Unseen Unseen.RegionLoad) r.says))
  same (Todo.write_claim d ∷ todo) s e g sort alike l r = settled image p (Todo.write_claim d ∷ todo) s e g l r refl refl
  same (Todo.edit d q ∷ todo) (SiteState.cell n (Cell.parts parts)) e g sort alike l r =
      settled image p (Todo.edit d q ∷ todo) (SiteState.cell n (Cell.parts parts)) e g l r refl
      (ap (λ b. Exchange.edited b (domain_after b (edit_of image q b))) (edit-before d q todo n parts e l ∙ sym (edit-before d q todo n parts g r)))
  same (Todo.size_look x ∷ todo) (SiteState.cell n (Cell.object o)) e g sort alike l r =
      let f = given-by image p (Todo.size_look x ∷ todo) (SiteState.cell n (Cell.object o)) in (sym l.says ∙ r.says, f e l (FineAct.Unseen Unseen.SizeLook) l.says ∙ sym (f g r (FineAct.Unseen Unseen.SizeLook) r.says))
  same (Todo.end_call x ∷ todo) s e g sort alike l r = settled image p (Todo.end_call x ∷ todo) s e g l r refl refl
  same (Todo.wake who told ∷ todo) (SiteState.cell n (Cell.scheduler t)) e g sort alike l r =
      let s = SiteState.cell n (Cell.scheduler t) in
      (answered-by image p (Todo.wake who told ∷ todo) s e l (says image p (Todo.wake who told ∷ todo) e.act e.moved) l.says ∙ sym (answered-by image p (Todo.wake who told ∷ todo) s g r (says image p (Todo.wake who told ∷ todo) g.act g.moved) r.says), sym l.moves ∙ r.moves)
  same (Todo.add c ∷ todo) s e g sort alike l r = settled image p (Todo.add c ∷ todo) s e g l r refl refl
  same (Todo.pass who x ∷ todo) (SiteState.row w) e g sort alike l r = pass-same image p who x todo w e g l r
  same (Todo.drop x ∷ todo) (SiteState.row w) e g sort alike l r = drop-same image p (Todo.drop x) p.context.thread x todo w e g l r (λ y. refl) (λ y. refl) (λ y. refl)
  same (Todo.clean_pair who x ∷ todo) (SiteState.row w) e g sort alike l r = drop-same image p (Todo.clean_pair who x) who x todo w e g l r (λ y. refl) (λ y. refl) (λ y. refl)
  same (Todo.wipe x ∷ todo) (SiteState.cell n (Cell.object o)) e g sort alike l r =
      let f = given-by image p (Todo.wipe x ∷ todo) (SiteState.cell n (Cell.object o)) in (sym l.says ∙ r.says, f e l (FineAct.Unseen Unseen.Wipe) l.says ∙ sym (f g r (FineAct.Unseen Unseen.Wipe) r.says))
  same (Todo.vacate x ∷ todo) s e g sort alike l r = settled image p (Todo.vacate x ∷ todo) s e g l r refl refl
  same (Todo.recycle x ∷ todo) s e g sort alike l r = settled image p (Todo.recycle x ∷ todo) s e g l r refl refl
  same (Todo.park ∷ todo) (SiteState.cell n (Cell.scheduler t)) e g sort alike l r =
      let s = SiteState.cell n (Cell.scheduler t) in
      let m : e.moved ≡ g.moved = sym l.moves ∙ r.moves in
      let f = λ (y : FineStep) (o : Filled image p (Todo.park ∷ todo) s y). answered-by image p (Todo.park ∷ todo) s y o (says image p (Todo.park ∷ todo) y.act y.moved) o.says in
      (f e l ∙ (ap (λ x. site_answers image s x (FineAct.Unseen (Unseen.Park (me image p) false))) m ∙ sym (f g r)), m)
  same (Todo.done ∷ todo) s e g sort alike l r = settled image p (Todo.done ∷ todo) s e g l r refl refl
  same (Todo.note site ∷ todo) s e g sort alike l r = settled image p (Todo.note site ∷ todo) s e g l r refl refl
  same (Todo.owe ∷ todo) s e g sort alike l r = settled image p (Todo.owe ∷ todo) s e g l r refl refl
  same (Todo.settle deadline mark ∷ todo) s e g sort alike l r = settled image p (Todo.settle deadline mark ∷ todo) s e g l r refl refl
  same (Todo.reread site ∷ todo) s e g sort alike l r = settled image p (Todo.reread site ∷ todo) s e g l r refl refl
  same (Todo.look who site before ∷ todo) s e g sort alike l r = cut-same image p who site before todo s e g l.right l r
  same (Todo.tell_cut who ∷ todo) (SiteState.cell n (Cell.scheduler t)) e g sort alike l r =
      let s = SiteState.cell n (Cell.scheduler t) in
      let f = λ (y : FineStep) (o : Filled image p (Todo.tell_cut who ∷ todo) s y). answered-by image p (Todo.tell_cut who ∷ todo) s y o (says image p (Todo.tell_cut who ∷ todo) y.act y.moved) o.says in
      (f e l ∙ sym (f g r), sym l.moves ∙ r.moves)
  same (Todo.rouse who ∷ todo) (SiteState.cell n (Cell.joins j)) e g sort alike l r = rouse-same image p who todo n j e g l r
  same (Todo.sleep ∷ todo) s e g sort alike l r = settled image p (Todo.sleep ∷ todo) s e g l r refl refl
  same (Todo.reread_asleep ∷ todo) s e g sort alike l r = settled image p (Todo.reread_asleep ∷ todo) s e g l r refl refl
  same (Todo.unshut who ∷ todo) s e g sort alike l r = settled image p (Todo.unshut who ∷ todo) s e g l r refl refl
  same (Todo.leave ∷ todo) (SiteState.cell n (Cell.joins j)) e g sort alike l r = leave-same image p todo n j e g l r
  same (Todo.handle deadline (Mark.Thread who site) ∷ todo) s e g sort alike l r = late-same image p deadline who site todo s e g l.right l r
  same (Todo.handle deadline (Mark.Timer x) ∷ todo) (SiteState.cell n (Cell.object o)) e g sort alike l r =
      look-same image p (Todo.handle deadline (Mark.Timer x) ∷ todo) (SiteState.cell n (Cell.object o)) e g l r
      (λ a. by_actor image p (Act.Expire (address_of image x.0) (woken_in (act_in a)))) (object_finds o)
      (λ m. by_actor image p (Act.Expire (address_of image x.0) (replies_of (run_out o).2))) l.says r.says refl (λ a m. refl) (λ m. refl)
  same (Todo.paid ∷ todo) s e g sort alike l r = settled image p (Todo.paid ∷ todo) s e g l r refl refl
  same todo s e g sort alike l r = absurd (false≢true sort)

  -- What a site that takes a step shows of it.

  void-place : (s : SiteState) → IsTrue (site_takes s void) → is_place s ≡ true
  void-place (SiteState.cell n (Cell.object o)) h = refl
  void-place (SiteState.cell n (Cell.memory m)) h = refl
  void-place (SiteState.cell n (Cell.joins j)) h = refl
  void-place s h = absurd (false≢true (and_parts _ _ h).1)

  cut-place : (who : ℕ) (s : SiteState) → IsTrue (site_takes s (by_me image p (Act.Cut (to_thread who)))) → is_place s ≡ true
  cut-place who (SiteState.cell n (Cell.object o)) h = refl
  cut-place who (SiteState.cell n (Cell.memory m)) h = refl
  cut-place who (SiteState.cell n (Cell.joins j)) h = refl
  cut-place who s h = absurd (false≢true (and_parts _ _ h).1)

  end-place : (mark : Mark) (e : FineAct) (s : SiteState) → IsTrue (site_takes s (by_actor image p (marks_end image p mark e))) → is_place s ≡ true
  end-place mark e (SiteState.cell n (Cell.object o)) h = refl
  end-place mark e (SiteState.cell n (Cell.memory m)) h = refl
  end-place mark e (SiteState.cell n (Cell.joins j)) h = refl
  end-place (Mark.Thread who site) e s h = absurd (false≢true (and_parts _ _ h).1)
  end-place (Mark.Timer x) e s h = absurd (false≢true (and_parts _ _ h).1)

  look-place : (s : SiteState) (b : Bool) (act w : FineAct) → (IsTrue (site_takes s w) → is_place s ≡ true) → (if b then void else w) ≡ act → IsTrue (site_takes s act) → is_place s ≡ true
  look-place s true act w more h takes = void-place s (subst (λ a. IsTrue (site_takes s a)) (sym h) takes)
  look-place s false act w more h takes = more (subst (λ a. IsTrue (site_takes s a)) (sym h) takes)

  -- who is killed was aborted
  killed-act : (w : ThreadWord) (more : More) (act : Act) → is_killed_act act ≡ true → IsTrue (thread_takes_act w more act) → w.aborted ≡ true
  killed-act w more Act.Killed h takes = (and_parts _ _ takes).1
  killed-act w more act h takes = absurd (false≢true h)

  killed-taken : (w : ThreadWord) (act : FineAct) → is_killed act ≡ true → IsTrue (site_takes (SiteState.thread w) act) → w.aborted ≡ true
  killed-taken w (FineAct.Shown event more) h takes = killed-act w more event.act h (and_parts _ _ takes).1
  killed-taken w (FineAct.Unseen unseen) h takes = absurd (false≢true h)

  right : (todo : Todos) (s : SiteState) (e : FineStep) → says image p todo e.act e.moved ≡ e.act → IsTrue (site_takes s e.act) → IsRight image p todo s e.act
  right (Todo.pass who x ∷ todo) (SiteState.row w) e h takes =
      λ k. (and_parts _ _ (subst (λ a. IsTrue (site_takes (SiteState.row w) a)) (sym (sym (ap (λ b. if b then FineAct.Unseen Unseen.Visit else by_me image p (Act.Inherit (to_thread who) (address_of image x))) k) ∙ h)) takes)).1
  right (Todo.show q rest ∷ todo) (SiteState.thread w) e h takes = λ rests k. killed-taken w e.act k takes
  right (Todo.look who site before ∷ todo) s e h takes = look-place s (is_void e.act) e.act (by_me image p (Act.Cut (to_thread who))) (cut-place who s) h takes
  right (Todo.handle deadline mark ∷ todo) s e h takes = look-place s (is_void e.act) e.act (by_actor image p (marks_end image p mark e.act)) (end-place mark e.act s) h takes
  right todo s e h takes = tt

  filled-of : (s : SiteState) (e : FineStep) → made_by image p e ≡ e → IsTrue (fits_step image p p.todo e) → filled image s e ≡ e → IsRight image p p.todo s e.act → Filled image p p.todo s e
  filled-of s e makes fit fills right =
      let a : site_answers image s e.moved e.act ≡ e.act = ap (λ (x : FineStep). x.act) fills in
      let m : site_moves image s e.act e.moved ≡ e.moved = ap (λ (x : FineStep). x.moved) fills in
      record {
        says = ap (λ (x : FineStep). x.act) makes;
        moves = ap (λ (x : FineStep). x.moved) makes;
        answers = a;
        gives = m;
        leaves = (λ i. word_of (site_after image s (sym a i) (sym m i))) ∙ ap (λ (x : FineStep). x.word) fills;
        right = right;
        fit = fit;
      }

  lawful-of : (s : SiteState) (e : FineStep) → CpuMay image p e → SiteMay image s e → Filled image p p.todo s e
  lawful-of s e may takes =
      filled-of s e may.makes (and_parts _ _ may.fit).0 takes.filled_in (right p.todo s e (ap (λ (x : FineStep). x.act) may.makes) takes.takes)

  -- two steps of one kind are at one site
  site-alike : (todo : Todos) (e g : FineStep) → AreAlike e g → site_by image p todo e.act ≡ site_by image p todo g.act
  site-alike [] e g alike = λ i. if alike.due i || alike.tick i then Site.clock else Site.scheduler
  site-alike (q ∷ todo) e g alike = refl

  pub one-step : (sites : Site → SiteState) → AreSorted sites → (e g : FineStep) → e.cpu ≡ g.cpu → AreAlike e g → MayStep image p sites e → MayStep image p sites g → e ≡ g
  one-step sites sorts e g cpu alike may may' =
      let here : e.site ≡ next_site image p e.act = sym (ap (λ (x : FineStep). x.site) may.makes.makes) in
      let there : g.site ≡ next_site image p e.act = sym (site-alike p.todo e g alike ∙ ap (λ (x : FineStep). x.site) may'.makes.makes) in
      let s = sites (next_site image p e.act) in
      let l = lawful-of s e may.makes (subst (λ i. SiteMay image (sites i) e) here may.takes) in
      let r = lawful-of s g may'.makes (subst (λ i. SiteMay image (sites i) g) there may'.takes) in
      let both = same p.todo s e g (sorts (next_site image p e.act)) alike l r in
      let word : e.word ≡ g.word = sym l.leaves ∙ ((λ i. word_of (site_after image s (both.0 i) (both.1 i))) ∙ r.leaves) in
      let site : e.site ≡ g.site = here ∙ sym there in
      λ i. record { cpu = cpu i; site = site i; act = both.0 i; word = word i; moved = both.1 i }

  -- What is right of a step that its site refuses: its word shows it, or the site takes another step of its kind.

  -- a kill leaves whether its thread was aborted
  killed-leaves : (w : ThreadWord) (more : More) (act : Act) → is_killed_act act ≡ true → (thread_after_act w more act).aborted ≡ w.aborted
  killed-leaves w more Act.Killed h = refl
  killed-leaves w more act h = absurd (false≢true h)

  killed-after : (w : ThreadWord) (act : FineAct) → is_killed act ≡ true → (thread_after w act).aborted ≡ w.aborted
  killed-after w (FineAct.Shown event more) h = killed-leaves w more event.act h
  killed-after w (FineAct.Unseen unseen) h = absurd (false≢true h)

  rightly : (b c : Bool) (fit : Bool) → b ≡ true → IsTrue (fit && (not b || c)) → c ≡ true
  rightly true c fit h k = (and_parts fit c k).1
  rightly false c fit h k = absurd (false≢true h)

  wants-kill : (q : Pending) (rest : Steps) (todo : Todos) (e : FineStep) → is_rest q ≡ true → is_killed e.act ≡ true → IsTrue (wants_step image p (Todo.show q rest ∷ todo) e) → (thread_in e.word).aborted ≡ true
  wants-kill Pending.Begin rest todo e rests k wants = rightly (is_killed e.act) (thread_in e.word).aborted (fits_step image p (Todo.show Pending.Begin rest ∷ todo) e) k wants
  wants-kill Pending.Exit rest todo e rests k wants = rightly (is_killed e.act) (thread_in e.word).aborted (fits_step image p (Todo.show Pending.Exit rest ∷ todo) e) k wants
  wants-kill q rest todo e rests k wants = absurd (false≢true rests)

  pub wants-fit : (todo : Todos) (e : FineStep) → IsTrue (wants_step image p todo e) → IsTrue (fits_step image p todo e)
  wants-fit (Todo.show Pending.Begin rest ∷ todo) e wants = (and_parts _ _ wants).0
  wants-fit (Todo.show Pending.Exit rest ∷ todo) e wants = (and_parts _ _ wants).0
  wants-fit todo e wants = wants

  seen-right : (todo : Todos) (s : SiteState) (e g : FineStep) → says image p todo e.act e.moved ≡ e.act → filled image s e ≡ e → IsSeen s e.act → IsTrue (wants_step image p todo e)
      → IsRight image p todo s g.act → IsRight image p todo s e.act
  seen-right (Todo.pass who x ∷ todo) (SiteState.row w) e g h fills seen wants right =
      λ k. subst (IsSeen (SiteState.row w)) (sym (sym (ap (λ b. if b then FineAct.Unseen Unseen.Visit else by_me image p (Act.Inherit (to_thread who) (address_of image x))) k) ∙ h)) seen
  seen-right (Todo.show q rest ∷ todo) (SiteState.thread w) e g h fills seen wants right =
      λ rests k.
      sym (killed-after w e.act k)
      ∙ (ap (λ a. (thread_after w a).aborted) (sym (ap (λ (x : FineStep). x.act) fills))
      ∙ (ap (λ (x : FineStep). (thread_in x.word).aborted) fills ∙ wants-kill q rest todo e rests k wants))
  seen-right (Todo.look who site before ∷ todo) s e g h fills seen wants right = right
  seen-right (Todo.handle deadline mark ∷ todo) s e g h fills seen wants right = right
  seen-right todo s e g h fills seen wants right = tt

  -- where its site takes no step that a processor asks for, it takes none of that kind that the processor may make
  pub refused-none : (sites : Site → SiteState) → AreSorted sites → (e : FineStep) → made_by image p e ≡ e → IsTrue (wants_step image p p.todo e) → filled image (sites e.site) e ≡ e
      → IsSeen (sites e.site) e.act → site_takes (sites e.site) e.act ≡ false → (g : FineStep) → AreAlike e g → MayStep image p sites g → ⊥
  refused-none sites sorts e makes wants fills seen refused g alike may =
      let here : e.site ≡ next_site image p e.act = sym (ap (λ (x : FineStep). x.site) makes) in
      let there : g.site ≡ e.site = sym (ap (λ (x : FineStep). x.site) may.makes.makes) ∙ (sym (site-alike p.todo e g alike) ∙ sym here) in
      let s = sites e.site in
      let takes' : SiteMay image s g = subst (λ i. SiteMay image (sites i) g) there may.takes in
      let r = lawful-of s g may.makes takes' in
      let right = seen-right p.todo s e g (ap (λ (x : FineStep). x.act) makes) fills seen wants r.right in
      let both = same p.todo s e g (subst (λ i. IsTrue (is_sort i s)) here (sorts e.site)) alike (filled-of s e makes (wants-fit p.todo e wants) fills right) r in
      absurd (false≢true (sym refused ∙ (ap (site_takes s) both.0 ∙ takes'.takes)))
