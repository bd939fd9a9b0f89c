-- Whether a processor holds its thread changes at a hold and its end alone; and it goes on with the same thread until the end of a turn.
use Rattle.um_refinement.proofs.Words.{◌≡◌, ℕ, Bool, true, false, thread_in, [], ◌∷◌, ◌++◌, refl, sym, ap, ◌∙◌, ◌&&◌, not, if◌then◌else◌, list_any, false≢true, true≢false, Image, Pending, Steps, FineAct, act_in, is_visit, is_word_read, Context, FineStep, Todo, Todos, fine_steps, Processor, after_show, dropped_at, filled_up, goes_on_by, p_next, with_cleaned, begins_cleaning, says_show, Behind, is_hold, is_let_go, behind_shown, Act, allows}
use Rattle.um_base.specs.declared.names.Access.TheVariants as Access
use Rattle.um_fine.specs.Answers.{is_killed, is_killed_act}
use Rattle.um_fine.specs.Follows.{shown_step, with_actor}
use Rattle.um_fine.specs.Places.{put_away}
use Rattle.um_refinement.specs.Frames.{IsActOver, access_alone, access_settled, act_alone, act_settled}
use Rattle.um_refinement.proofs.ListGrowth.{ReadsLast, claim-context, forms-kept, is_end}
use Rattle.um_refinement.proofs.ListTails.{Reads, adds-pass, filled-read, is_passed, takes-read, whole-read}
use Rattle.um_refinement.proofs.Continued.{continues-thread}

-- a thread is held while the end of its hold is on the list, and the hold isn't
abbrev pub grip : Todos → Bool
grip todo = list_any is_let_go todo && not (list_any is_hold todo)

abbrev pub is_gripping : Todo → Bool
is_gripping Todo.hold = true
is_gripping Todo.let_go = true
is_gripping q = false

-- an event that might have been the read of its thread's word has nothing behind it
pub read-rests : (image : Image) (p : Processor) (c : Context) (q : Pending) (act : FineAct) → act ≡ says_show image p q act → is_word_read act ≡ true → behind_shown image c q ≡ []
read-rests image p c Pending.Begin act said read = refl
read-rests image p c Pending.Exit act said read = refl
read-rests image p c q act said read = absurd (true≢false (sym read ∙ ap is_word_read said))

-- one of two acts that are no kill
neither : (b : Bool) (one two : Act) → is_killed_act one ≡ false → is_killed_act two ≡ false → is_killed_act (if b then one else two) ≡ false
neither true one two h k = h
neither false one two h k = k

-- nor has one that is a kill
pub kill-rests : (image : Image) (p : Processor) (c : Context) (q : Pending) (act : FineAct) → act ≡ says_show image p q act → is_killed act ≡ true → behind_shown image c q ≡ []
kill-rests image p c Pending.Begin act said kill = refl
kill-rests image p c Pending.Exit act said kill = refl
kill-rests image p c Pending.Killed act said kill = refl
kill-rests image p c (Pending.Load to a n) act said kill =
    absurd (false≢true (sym (neither (allows image p Access.Read a.0 n) _ _ refl refl) ∙ (sym (ap is_killed said) ∙ kill)))
kill-rests image p c (Pending.Store a n value) act said kill =
    absurd (false≢true (sym (neither (allows image p Access.Write a.0 n) _ _ refl refl) ∙ (sym (ap is_killed said) ∙ kill)))
kill-rests image p c (Pending.Fetch a) act said kill =
    absurd (false≢true (sym (neither (allows image p Access.Exec a.0 4) _ _ refl refl) ∙ (sym (ap is_killed said) ∙ kill)))
kill-rests image p c q act said kill = absurd (true≢false (sym kill ∙ ap is_killed said))

grip-passed : (q : Todo) (todo : Todos) → is_passed q ≡ true → grip (q ∷ todo) ≡ grip todo
grip-passed Todo.hold todo h = absurd (false≢true h)
grip-passed Todo.let_go todo h = absurd (false≢true h)
grip-passed q todo h = refl

grip-none : (image : Image) (c : Context) (q : Pending) (rest : Steps) → grip (fine_steps image c q rest) ≡ false
grip-none image = forms-kept image (λ todo. grip todo ≡ false)
    (record {
      note = λ site todo h. h;
      act = λ q rest. refl;
      settles = λ q rest deadline mark. refl;
      access = λ q rest. refl;
      access_settles = λ q rest deadline mark. refl;
      look = λ x todo h. h;
      owe = λ q rest. refl;
      leave = λ a rest. refl;
      edit = λ d q rest. refl;
      move = λ d who rest. refl;
      start = λ who q rest c. refl;
    })

grip-waited : (site : ℕ) (todo : Todos) → IsActOver todo → grip (todo ++ Todo.reread site ∷ []) ≡ grip todo
grip-waited site _ act_alone = refl
grip-waited site _ act_settled = refl
grip-waited site _ access_alone = refl
grip-waited site _ access_settled = refl

grip-reads : (image : Image) → Reads image grip false
grip-reads image = record { empty = refl; passed = grip-passed; expanded = grip-none image; begins = refl; exits = refl; waited = grip-waited }

module _ (image : Image) where
  pub filled-grip : (c : Context) (todo : Todos) → grip (filled_up image c todo) ≡ grip todo
  filled-grip c todo = filled-read image grip false (grip-reads image) c todo

  pub next-grips : (p : Processor) (e : FineStep) (q : Todo) (todo : Todos) → p.todo ≡ q ∷ todo → is_gripping q ≡ false → Behind image q todo → ReadsLast e q todo
      → grip (p_next image p e).todo ≡ grip (q ∷ todo)
  next-grips p e Todo.hold todo at free h last = absurd (true≢false free)
  next-grips p e Todo.let_go todo at free h last = absurd (true≢false free)
  next-grips p e q todo at free h last = whole-read image grip false (grip-reads image) (λ z. refl) (λ d z. refl) p e q todo at (adds-pass image grip false (grip-reads image) (λ c z. refl) q) h last

  pub takes-grip : (p : Processor) (e : FineStep) → p.todo ≡ [] → grip (p_next image p e).todo ≡ false
  takes-grip p e at = takes-read image grip false (grip-reads image) p e at

  -- The thread.

  show-thread : (p : Processor) (e : FineStep) (q : Pending) (rest : Steps) (todo : Todos) (b : Bool)
      → (if b then record p { todo = put_away (thread_in e.word).doomed } else after_show image p e (shown_step image q e.act) rest todo).context.thread ≡ p.context.thread
  show-thread p e q rest todo true = refl
  show-thread p e q rest todo false = continues-thread image p.context 0 (shown_step image q e.act) rest (act_in e.act) e.moved

  dropped-thread : (c : Context) (x : ℕ) (b : Bool) → (dropped_at image c x b).thread ≡ c.thread
  dropped-thread c x true = refl
  dropped-thread c x false = refl

  goes-thread : (p : Processor) (e : FineStep) (q : Todo) (todo : Todos) → is_end q ≡ false → (goes_on_by image p e (q ∷ todo)).context.thread ≡ p.context.thread
  goes-thread p e (Todo.show q rest) todo goes = show-thread p e q rest todo (is_word_read e.act)
  goes-thread p e (Todo.read_claim d) todo goes = ap (λ (c : Context). c.thread) (claim-context image p e d todo)
  goes-thread p e (Todo.drop x) todo goes = dropped-thread p.context x (is_visit e.act)
  goes-thread p e Todo.park todo goes = absurd (true≢false goes)
  goes-thread p e Todo.done todo goes = absurd (true≢false goes)
  goes-thread p e q todo goes = refl

  pub cleaned-context : (p : Processor) (e : FineStep) (b : Bool) → (with_cleaned image p e b).context ≡ p.context
  cleaned-context p e true = refl
  cleaned-context p e false = refl

  acted-context : (p : Processor) (act : FineAct) → (with_actor image p act).context ≡ p.context
  acted-context p (FineAct.Shown event more) = refl
  acted-context p (FineAct.Unseen unseen) = refl

  pub next-context : (p : Processor) (e : FineStep) → (p_next image p e).context ≡ (goes_on_by image p e p.todo).context
  next-context p e =
      acted-context (with_cleaned image (goes_on_by image p e p.todo) e (begins_cleaning e)) e.act ∙ cleaned-context (goes_on_by image p e p.todo) e (begins_cleaning e)

  pub next-thread : (p : Processor) (e : FineStep) (q : Todo) (todo : Todos) → p.todo ≡ q ∷ todo → is_end q ≡ false → (p_next image p e).context.thread ≡ p.context.thread
  next-thread p e q todo at goes =
      ap (λ (c : Context). c.thread) (next-context p e)
      ∙ (ap (λ (z : Todos). (goes_on_by image p e z).context.thread) at ∙ goes-thread p e q todo goes)
