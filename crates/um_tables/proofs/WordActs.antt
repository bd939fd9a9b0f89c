-- What a row, a thread or a domain makes of what is asked, as a step at its site of the fine machine.
use Rattle.std.proofs.Common.{◌≡◌, ℕ, ◌<◌, Bool, true, false, ◌&&◌, not, IsTrue, if◌then◌else◌, nat_lt, refl, sym, ap, ◌∙◌, subst}
use Rattle.std.proofs.lemmas.Bool.{lt-ltb}
use Rattle.um_base.specs.declared.act.Act.{Act}
use Rattle.um_base.specs.declared.act.Leftover.{Leftover}
use Rattle.um_base.specs.declared.image.Image.{Image}
use Rattle.um_base.specs.declared.names.Addr.{Addr}
use Rattle.um_base.specs.declared.names.ThreadIx.{ThreadIx}
use Rattle.um_words.specs.declared.dom_word.DomWord.{DomWord}
use Rattle.um_words.specs.declared.domain_act.DomainAct.{DomainAct}
use Rattle.um_words.specs.declared.fine.FineAct.{FineAct}
use Rattle.um_words.specs.declared.fine.More.{More}
use Rattle.um_words.specs.declared.fine.Unseen.{Unseen}
use Rattle.um_words.specs.declared.row_act.RowAct.{RowAct}
use Rattle.um_words.specs.declared.row_act.RowSaid.{RowSaid}
use Rattle.um_words.specs.declared.row_word.RowWord.{RowWord}
use Rattle.um_words.specs.declared.thread_act.ThreadAct.{ThreadAct}
use Rattle.um_words.specs.declared.thread_word.ThreadWord.{ThreadWord}
use Rattle.um_words.specs.DomainActs.{domain_act, domain_takes_at}
use Rattle.um_words.specs.Domains.{DomainMay, domain_takes}
use Rattle.um_words.specs.RowActs.{drop_said, quiet, row_act, row_act_at, row_answers, row_takes_at}
use Rattle.um_words.specs.Rows.{RowMay, counted_row, dropped, has, left_of, row_takes}
use Rattle.um_words.specs.ShownActs.{by_thread, shown}
use Rattle.um_words.specs.ThreadActs.{thread_act, thread_act_at, thread_takes_at}
use Rattle.um_words.specs.Threads.{ThreadMay, counted_thread, thread_after, thread_takes}
use Rattle.um_fine.proofs.Filled.{filled-twice}
use Rattle.um_fine.specs.Sites.{SiteState, filled}
use Rattle.um_fine.specs.Steps.{Exchange, FineStep, Site, Word}
use Rattle.um_fine.specs.Threads.{thread_answers, unless_stopped}
use Rattle.um_tables.specs.Asked.{Refuses, Takes, asked}
use Rattle.um_tables.specs.DomainActs.{domain_made}
use Rattle.um_tables.specs.RowActs.{row_made, row_said}
use Rattle.um_tables.specs.ThreadActs.{thread_made}

both : (n m : ℕ) (b : Bool) → n < m → IsTrue b → IsTrue (nat_lt n m && b)
both n m b less is = λ i. lt-ltb n m less i && is i

module _ (image : Image) (cpu x : ℕ) (w : RowWord) where
  -- the step of an event where there is something to do, and a look else
  abbrev where_due : Bool → FineAct → FineStep
  where_due b act = filled image (SiteState.row w) (asked cpu (Site.row x) (if b then act else FineAct.Unseen Unseen.Visit) Exchange.nothing)

  abbrev drop_left : ThreadIx → ThreadIx → Addr → Leftover → FineStep
  drop_left t who a left =
      record { cpu = cpu; site = Site.row x; act = shown t (Act.DropPair who a left) More.Nothing; word = Word.row (counted_row (dropped w who.0)); moved = Exchange.nothing }

  drop-said : (t who : ThreadIx) (a : Addr) (left : Leftover) → row_said (drop_left t who a left) ≡ drop_said left (dropped w who.0)
  drop-said t who a Leftover.NoPair = refl
  drop-said t who a Leftover.Kept = refl
  drop-said t who a Leftover.Gone = refl

  pub row-said : (act : RowAct) → row_said (row_made image cpu x w act) ≡ row_answers w act
  row-said (RowAct.Pass t who a) = by (has w t.0 && not (has w who.0))
    where
      by : (b : Bool) → row_said (where_due b (shown t (Act.Inherit who a) More.Nothing)) ≡ record quiet { visits = not b }
      by true = refl
      by false = refl
  row-said (RowAct.DropPair t who a) = drop-said t who a (left_of w who.0)
  row-said (RowAct.Sweep t who a) = by (has w who.0)
    where
      by : (b : Bool) → row_said (where_due b (shown t (Act.DropPair who a Leftover.NoPair) More.Nothing))
          ≡ (if b then drop_said (left_of w who.0) (dropped w who.0) else record quiet { visits = true })
      by true = drop-said t who a (left_of w who.0)
      by false = refl
  row-said act = refl

  pub row-takes : (act : RowAct) (z : RowWord) (said : RowSaid) → RowMay w (row_act_at w act) z × (said ≡ row_answers w act)
      → Takes image (SiteState.row w) (row_made image cpu x w act) (SiteState.row z) × (said ≡ row_said (row_made image cpu x w act))
  row-takes act z said m = (
    record {
      may = record {
        takes = both w.number 1048575 (row_takes w (row_act_at w act)) m.0.room m.0.takes;
        filled_in = filled-twice image (SiteState.row w) (asked cpu (Site.row x) (row_act w act) Exchange.nothing);
      };
      leaves = ap SiteState.row m.0.leaves;
    },
    m.1 ∙ sym (row-said act),
  )

  pub row-refuses : (act : RowAct) → row_takes_at w act ≡ false → Refuses (SiteState.row w) (row_made image cpu x w act)
  row-refuses act r = r

module _ (image : Image) (cpu t : ℕ) (w : ThreadWord) where
  -- a thread that is stopped begins nothing: it is killed, or its word is read instead
  rests : (doomed aborted suspended : Bool) (t : ThreadIx) (act : Act)
      → unless_stopped doomed aborted suspended (by_thread t act) More.Nothing
      ≡ (if doomed then FineAct.Unseen Unseen.WordRead
      else if aborted then shown t Act.Killed More.Nothing
      else if suspended then FineAct.Unseen Unseen.WordRead
      else shown t act More.Nothing)
  rests true aborted suspended t act = refl
  rests false true suspended t act = refl
  rests false false true t act = refl
  rests false false false t act = refl

  thread-told : (act : ThreadAct) → thread_answers w (thread_act act) ≡ thread_act_at w act
  thread-told (ThreadAct.Begin by script line) = rests w.doomed w.aborted w.suspended by (Act.Begin script line)
  thread-told (ThreadAct.Exit by) = rests w.doomed w.aborted w.suspended by Act.Exit
  thread-told act = refl

  pub thread-takes : (act : ThreadAct) (z : ThreadWord) → ThreadMay w (thread_act_at w act) z
      → Takes image (SiteState.thread w) (thread_made image cpu t w act) (SiteState.thread z)
  thread-takes act z m =
      let told = sym (thread-told act) in record {
        may = record {
          takes = both w.number 268435455 (thread_takes w (thread_answers w (thread_act act))) m.room (subst (λ a. IsTrue (thread_takes w a)) told m.takes);
          filled_in = filled-twice image (SiteState.thread w) (asked cpu (Site.thread t) (thread_act act) Exchange.nothing);
        };
        leaves = ap SiteState.thread (m.leaves ∙ ap (λ a. counted_thread (thread_after w a)) told);
      }

  pub thread-refuses : (act : ThreadAct) → thread_takes_at w act ≡ false → Refuses (SiteState.thread w) (thread_made image cpu t w act)
  thread-refuses act r = ap (λ a. nat_lt w.number 268435455 && thread_takes w a) (thread-told act) ∙ r

module _ (image : Image) (cpu d : ℕ) (w : DomWord) where
  pub domain-takes : (act : DomainAct) (z : DomWord) → DomainMay w (domain_act act) z
      → Takes image (SiteState.domain w) (domain_made image cpu d w act) (SiteState.domain z)
  domain-takes act z m =
      record {
        may = record {
          takes = both w.number 268435455 (domain_takes w (domain_act act)) m.room m.takes;
          filled_in = filled-twice image (SiteState.domain w) (asked cpu (Site.domain d) (domain_act act) Exchange.nothing);
        };
        leaves = ap SiteState.domain m.leaves;
      }

  pub domain-refuses : (act : DomainAct) → domain_takes_at w act ≡ false → Refuses (SiteState.domain w) (domain_made image cpu d w act)
  domain-refuses act r = r
