-- What is so of the word of a row and its object after a step that leaves what they say, or writes it.
use Rattle.um_refinement.proofs.Words.{◌≡◌, ℕ, ◌+◌, ◌<◌, Bool, true, false, ◌∷◌, length, refl, sym, ap, ◌∙◌, arith, ◌&&◌, if◌then◌else◌, false≢true, ROWS, Status, State, object_at, FineAct, RowWord, Stage, is_dying, is_free, is_live, row_after, begins_cleaning, row_number, Todo, Todos, kind_of, same_site, FineStep, Site, Fine, one_if, row, is_recycle, is_vacate, is_reserved, recyclers, status_of, vacaters, StatusIs}
use Rattle.um_machine.specs.Objects as Plain
use Rattle.um_refinement.proofs.CleanersSteps.{gain, rec-sum, row-else, row-here, vac-sum}
use Rattle.um_refinement.proofs.Erased.{around}
use Rattle.um_refinement.proofs.Leaves.{Lawful}
use Rattle.um_refinement.proofs.ListGrowth.{ReadsLast}
use Rattle.um_refinement.proofs.StatusKept.{Marks, Traits, marks_of, traits_of}
use Rattle.um_refinement.proofs.StepReads.{is-behind}

-- Stages and statuses.

pub stage-not : Stage → Type 0
stage-not Stage.Free = ⊥
stage-not stage = Unit {0}

-- a row whose object is free, or reserved, is free
pub unstood-free : (st : Stage) (s : Status) (b : Bool) → s ≡ status_of st b → Plain.is_live s ≡ false → Plain.is_gone s ≡ false → is_free st ≡ true
unstood-free Stage.Free s b e l g = refl
unstood-free Stage.Live s b e l g = absurd (false≢true (sym l ∙ ap Plain.is_live e))
unstood-free Stage.Dying s b e l g = absurd (false≢true (sym g ∙ ap Plain.is_gone e))
unstood-free Stage.Cleaning s b e l g = absurd (false≢true (sym g ∙ ap Plain.is_gone e))

pub free-is : (st : Stage) → is_free st ≡ true → st ≡ Stage.Free
free-is Stage.Free h = refl
free-is Stage.Live h = absurd (false≢true h)
free-is Stage.Dying h = absurd (false≢true h)
free-is Stage.Cleaning h = absurd (false≢true h)

pub live-is : (st : Stage) → is_live st ≡ true → st ≡ Stage.Live
live-is Stage.Live h = refl
live-is Stage.Free h = absurd (false≢true h)
live-is Stage.Dying h = absurd (false≢true h)
live-is Stage.Cleaning h = absurd (false≢true h)

pub status-free : (s : Status) → Plain.is_free s ≡ true → s ≡ Status.Free
status-free Status.Free h = refl
status-free Status.Live h = absurd (false≢true h)
status-free Status.Gone h = absurd (false≢true h)
status-free Status.Reserved h = absurd (false≢true h)

-- the end of a claim leaves what the stage says
pub ends-status : (st : Stage) (c b : Bool) → status_of (if is_dying st && c then Stage.Cleaning else st) b ≡ status_of st b
ends-status Stage.Dying true b = refl
ends-status Stage.Dying false b = refl
ends-status Stage.Free c b = refl
ends-status Stage.Live c b = refl
ends-status Stage.Cleaning c b = refl

module _ (f : Fine) (m : State) (e : FineStep) (law : Lawful f m e) (x : ℕ) (few : x < ROWS) where
  open around f e use {later, processor as p}
  open is-behind f m e law use {last-shown}

  abbrev pub Result : State → Type 0
  Result s = StatusIs later s x

  pub was : StatusIs f m x
  was = (law.rel.rows x few).status

  pub in-objects : {y : ℕ} → y < ROWS → y < length m.objects
  in-objects l = let long = law.sound.wide.objects in omega (arith, l, long)

  -- What is so then.

  -- the processors that have still to vacate the row and to recycle the object are as many more
  abbrev pub Rises : ℕ → Type 0
  Rises n = (vacaters later x ≡ vacaters f x + n) × (recyclers later x ≡ recyclers f x + n)

  pub counts : (q : Todo) (todo : Todos) → p.todo ≡ q ∷ todo → ReadsLast e q todo → is_vacate x q ≡ false → is_recycle x q ≡ false → Rises (gain f m e law x few (begins_cleaning e) (row_number e.site))
  counts q todo at last vac rec =
      let vacs = vac-sum f m e law x few q todo at last in
      let recs = rec-sum f m e law x few q todo at last in
      let one = ap one_if vac in
      let two = ap one_if rec in
      (omega (arith, vacs, one), omega (arith, recs, two))

  pub before : (n : ℕ) → Rises n → vacaters later x ≡ recyclers later x → vacaters f x ≡ recyclers f x
  before n more h = let a = more.0 in let b = more.1 in omega (arith, h, a, b)

  pub less : (n : ℕ) → Rises n → vacaters later x < recyclers later x → vacaters f x < recyclers f x
  less n more h = let a = more.0 in let b = more.1 in omega (arith, h, a, b)

  -- a step that leaves what the word and the machine say of the object
  pub carry : (s : State) (n : ℕ) → Rises n → marks_of (row later x) ≡ marks_of (row f x) → traits_of (object_at s x) ≡ traits_of (object_at m x) → Result s
  carry s n more marks traits =
      record {
        status = λ h. ap (λ (t : Traits). t.status) traits ∙ (was.status (before n more h) ∙ sym (λ i. status_of (marks i).stage (is_reserved (traits i).status)));
        vacated = λ h. let v = was.vacated (less n more h) in (ap (λ (k : Marks). k.stage) marks ∙ v.0, ap (λ (t : Traits). t.status) traits ∙ v.1);
        init = λ h. ap (λ (k : Marks). k.init) marks ∙ (was.init (before n more h) ∙ sym (ap (λ (t : Traits). t.init) traits));
        public = λ h. ap (λ (k : Marks). k.public) marks ∙ (was.public (before n more h) ∙ sym (ap (λ (t : Traits). t.public) traits));
        bare = λ h. let b = was.bare (sym (ap (λ (k : Marks). k.stage) marks) ∙ h) in (ap (λ (k : Marks). k.init) marks ∙ b.0, ap (λ (k : Marks). k.public) marks ∙ b.1);
        kind = λ free. ap (λ (t : Traits). t.kind) traits ∙ was.kind (λ z. free (ap (λ (t : Traits). t.status) traits ∙ z));
      }

  pub beside : (s : State) (q : Todo) (todo : Todos) → p.todo ≡ q ∷ todo → ReadsLast e q todo → is_vacate x q ≡ false → is_recycle x q ≡ false → marks_of (row later x) ≡ marks_of (row f x)
      → traits_of (object_at s x) ≡ traits_of (object_at m x) → Result s
  beside s q todo at last vac rec marks traits = carry s (gain f m e law x few (begins_cleaning e) (row_number e.site)) (counts q todo at last vac rec) marks traits

  -- one that writes them, where the row isn't free before or after
  pub writes : (s : State) (n : ℕ) → Rises n → vacaters f x ≡ recyclers f x → is_free (row later x).stage ≡ false
      → (object_at s x).status ≡ status_of (row later x).stage (is_reserved (object_at s x).status) → (row later x).init ≡ (object_at s x).init → (row later x).public ≡ (object_at s x).public
      → (object_at s x).kind ≡ kind_of f.image x → Result s
  writes s n more at free status init public kind =
      record {
        status = λ h. status;
        vacated = λ h. let l = less n more h in absurd (omega (arith, l, at));
        init = λ h. init;
        public = λ h. public;
        bare = λ h. absurd (false≢true (sym free ∙ ap is_free h));
        kind = λ z. kind;
      }

  -- the word after a step that leaves its marks
  pub same-marks : (act : FineAct) → e.act ≡ act → ((w : RowWord) → marks_of (row_after w act) ≡ marks_of w) → marks_of (row later x) ≡ marks_of (row f x)
  same-marks act said same = by (same_site e.site (Site.row x)) refl
    where
      by : (b : Bool) → same_site e.site (Site.row x) ≡ b → marks_of (row later x) ≡ marks_of (row f x)
      by true on = ap marks_of (row-here f m e law x few on act said) ∙ same (row f x)
      by false off = ap marks_of (row-else f m e law x few off)
