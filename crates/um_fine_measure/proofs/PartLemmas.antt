-- What a step adds to what all have left together, and takes of that, by sleeps and rouses.
use Rattle.std.proofs.Common.{◌≡◌, ◌≤◌, ℕ, ◌+◌, ◌*◌, Bool, true, false, [], ◌∷◌, refl, sym, arith, ne_eqb, if◌then◌else◌}
use Rattle.std.specs.Prelude.{◌&&◌, not}
use Rattle.std.proofs.lemmas.Bool.{false≢true}
use Rattle.um_base.specs.declared.act.Act.{Act}
use Rattle.um_words.specs.Threads.{is_awake}
use Rattle.um_words.specs.declared.fine.FineAct.{FineAct}
use Rattle.um_words.specs.declared.fine.Unseen.{Unseen}
use Rattle.um_fine.specs.Answers.{is_word_read, thread_in}
use Rattle.um_fine.specs.Places.{Todo, Todos}
use Rattle.um_fine.specs.Sites.{same_site}
use Rattle.um_fine.specs.Steps.{FineStep, Site}
use Rattle.um_refinement.specs.Fine.{one_if}
use Rattle.um_fine_measure.specs.Measure.{MOST_CPUS, rouse_cost, sleep_cost}
use Rattle.um_fine_measure.specs.Whole.{got_by, paid_by}
use Rattle.um_fine_measure.proofs.WordLemmas.{is_suspending, is_waking}

abbrev pub paid_sleeps : FineAct → ℕ
paid_sleeps (FineAct.Unseen (Unseen.Rouse who)) = 1
paid_sleeps act = one_if (is_suspending act)

abbrev pub paid_rouses : FineAct → ℕ
paid_rouses act = if is_waking act then MOST_CPUS else 0

abbrev pub got_sleeps : Todos → FineStep → ℕ
got_sleeps (Todo.show q rest ∷ todo) e = one_if (is_word_read e.act && not (thread_in e.word).doomed)
got_sleeps todo e = 0

abbrev pub got_rouses : Todos → FineStep → ℕ
got_rouses (Todo.reread_asleep ∷ todo) e = one_if (is_awake (thread_in e.word))
got_rouses todo e = 0

pub one-most : (b : Bool) → one_if b ≤ 1
one-most true = omega arith
one-most false = omega arith

pub read-act : (act : FineAct) → is_word_read act ≡ true → act ≡ FineAct.Unseen Unseen.WordRead
read-act (FineAct.Unseen Unseen.WordRead) h = refl
read-act (FineAct.Unseen unseen) h = absurd (false≢true h)
read-act (FineAct.Shown event more) h = absurd (false≢true h)

-- the thread whose word is a site
abbrev pub index_of : Site → ℕ
index_of (Site.thread t) = t
index_of i = 0

pub other-site : (i : Site) (t : ℕ) → (t ≡ index_of i → ⊥) → same_site i (Site.thread t) ≡ false
other-site (Site.thread u) t apart = ne_eqb u t (λ same. apart (sym same))
other-site i t apart = refl

pub paid-parts : (act : FineAct) → paid_by act ≡ sleep_cost * paid_sleeps act + rouse_cost * paid_rouses act
paid-parts (FineAct.Shown event more) = by event.act
  where
    by : (act : Act) → let said = FineAct.Shown (record event { act = act }) more in paid_by said ≡ sleep_cost * paid_sleeps said + rouse_cost * paid_rouses said
    by (Act.Abort who done) = refl
    by (Act.Continue who done) = refl
    by (Act.Start who) = refl
    by (Act.Suspend who done) = refl
    by act = refl
paid-parts (FineAct.Unseen (Unseen.Rouse who)) = refl
paid-parts (FineAct.Unseen unseen) = refl

pub got-parts : (todo : Todos) (e : FineStep) → got_by todo e ≡ sleep_cost * got_sleeps todo e + rouse_cost * got_rouses todo e
got-parts [] e = refl
got-parts (Todo.show q rest ∷ todo) e = by (is_word_read e.act && not (thread_in e.word).doomed)
  where
    by : (b : Bool) → (if b then sleep_cost else 0) ≡ sleep_cost * one_if b + rouse_cost * 0
    by true = refl
    by false = refl
got-parts (Todo.reread_asleep ∷ todo) e = by (is_awake (thread_in e.word))
  where
    by : (b : Bool) → (if b then rouse_cost else 0) ≡ sleep_cost * 0 + rouse_cost * one_if b
    by true = refl
    by false = refl
got-parts (q ∷ todo) e = refl
