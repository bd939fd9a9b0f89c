-- The permissions in the words of rows are the machine's pairs after every lawful step.
use Rattle.um_refinement.proofs.Words.{thread_at, to_thread, ◌≡◌, ℕ, ◌<◌, Bool, true, false, cond, List, [], length, Option, refl, sym, ap, ◌∙◌, subst, arith, ◌==◌, ◌&&◌, not, if◌then◌else◌, nat_le, nat_lt, slice_index_or, slice_set, unwrap_or, and_parts, eqb-false, eqb-true, get_or-set_other, get_or-set_same, Act, Leftover, Image, ROWS, STATIC_ROWS, own_row, Status, Pending, Steps, State, object_at, pair_at, with_pair, FineAct, More, Unseen, RowWord, Stage, dropped, given_of, gone_stage, has, is_free, is_last, is_live, permitted, row_after, row_after_act, row_named, act_in, given_in, Todos, SiteState, s_next, same_site, site_after, site_takes, FineStep, Site, same-sound, Fine, row, row_state, PairsAre, is_reserved, status_of, set-get_or, le_is, row_after_unseen, row_takes_unseen}
use Rattle.um_base.specs.declared.act.Given.TheVariants as Given
use Rattle.um_machine.specs.Objects as Plain
use Rattle.um_machine.specs.Table as T
use Rattle.um_refinement.proofs.CleaningFacts.{cleaning-is, ends-free}
use Rattle.um_refinement.proofs.Erased.{around}
use Rattle.um_refinement.proofs.Leaves.{Beside, Lawful, Leaves, acting, beside, cleans, cuts, drops, event, expires, leaves, mine, nothing, passes, recycles, resumes, ticks, times_out}
use Rattle.um_refinement.proofs.ObjectsKept.{born-reserved, unlived-dynamic, unlived-none}
use Rattle.um_refinement.proofs.Offered.{IsStep, Shows, shown-offers, site-is}
use Rattle.um_refinement.proofs.PairsKept.{HasSame, pairs-beside, pairs-kept}
use Rattle.um_refinement.proofs.RowSteps.{named-row, row-says, row-stands, settled}
use Rattle.um_refinement.proofs.VisitSteps.{visit-site}
use Rattle.um_refinement.proofs.WordsKept.{IsShown}
use Rattle.um_refinement.proofs.Writes.{with_cleaner, with_dropped, with_given, with_given_if, with_left}
use Rattle.um_refinement.proofs.RowStages.{lively}

-- a word has these permissions, and is marked as dynamic while an object stands at a dynamic row
record Has (w : RowWord) (flags : List Bool) (x : ℕ) : Type 0 where
  pairs : w.permissions ≡ flags
  dynamic : w.dynamic ≡ (nat_le STATIC_ROWS x && not (is_free w.stage))

-- The machine: a drop takes one permission of one row.

pub dropped-pairs : (s : State) (who x : ℕ) → x < length s.pairs → slice_index_or (with_dropped s who x).pairs x [] ≡ slice_set (slice_index_or s.pairs x []) who false
dropped-pairs s who x l = by (pair_at s who x) refl (nat_le STATIC_ROWS x && Plain.has_no_pair (with_pair s who x false) x)
  where
    taken : slice_index_or (with_pair s who x false).pairs x [] ≡ slice_set (slice_index_or s.pairs x []) who false
    taken = get_or-set_same s.pairs x (slice_set (slice_index_or s.pairs x []) who false) [] l

    by : (b : Bool) → pair_at s who x ≡ b → (last : Bool)
        → slice_index_or (with_left (if not b then Leftover.NoPair else if last then Leftover.Gone else Leftover.Kept) s who x).pairs x []
        ≡ slice_set (slice_index_or s.pairs x []) who false
    by true p true = taken
    by true p false = taken
    by false p last = sym (set-get_or (slice_index_or s.pairs x []) who false) ∙ ap (slice_set (slice_index_or s.pairs x []) who) p

pub dropped-else : (s : State) (who y x : ℕ) → (x ≡ y → ⊥) → slice_index_or (with_dropped s who y).pairs x [] ≡ slice_index_or s.pairs x []
dropped-else s who y x ne =
    elim (T.dropped s who y) as (λ l.
    slice_index_or (with_left l s who y).pairs x []
    ≡ slice_index_or s.pairs x []) [
      | Leftover.NoPair ↦ refl
      | Leftover.Kept ↦ get_or-set_other s.pairs y x _ [] ne
      | Leftover.Gone ↦ get_or-set_other s.pairs y x _ [] ne
    ]

-- The word of a row.

same-dynamic : (a b c : Bool) → b ≡ (a && not c) → c ≡ false → (d : Bool) → d ≡ false → b ≡ (a && not d)
same-dynamic a b c h q d r = h ∙ (ap (λ z. a && not z) q ∙ ap (λ z. a && not z) (sym r))

gone-stands : (w : RowWord) → is_free (gone_stage w) ≡ false
gone-stands w = elim (w.claims == 0) as (λ b. is_free (if b then Stage.Cleaning else Stage.Dying) ≡ false) [ true ↦ refl | false ↦ refl ]

has-dropped : (w : RowWord) (flags : List Bool) (x who : ℕ) → Has w flags x → Has (dropped w who) (slice_set flags who false) x
has-dropped w flags x who h = by (is_last w who && has w who) refl
  where
    by : (b : Bool) → (is_last w who && has w who) ≡ b
        → Has (if b then record (permitted w who false) { stage = gone_stage w } else permitted w who false) (slice_set flags who false) x
    by true q =
        record {
          pairs = ap (λ fl. slice_set fl who false) h.pairs;
          dynamic = same-dynamic (nat_le STATIC_ROWS x) w.dynamic (is_free w.stage) h.dynamic (lively w.stage (and_parts _ _ (and_parts _ _ (and_parts _ _ q).0).0).1)
              (is_free (gone_stage w)) (gone-stands w);
        }
    by false q = record { pairs = ap (λ fl. slice_set fl who false) h.pairs; dynamic = h.dynamic }

given-live : (l g : Bool) → (if l then Given.Done else Given.Gone) ≡ (if g then Given.Gone else Given.Done) → l ≡ not g
given-live true false e = refl
given-live false true e = refl
given-live true true e = absurd (subst (λ z. elim z as (λ _. Type 0) [ Given.Done ↦ Unit {0} | Given.Gone ↦ ⊥ ]) e tt)
given-live false false e = absurd (subst (λ z. elim z as (λ _. Type 0) [ Given.Done ↦ ⊥ | Given.Gone ↦ Unit {0} ]) e tt)

module _ (f : Fine) (m : State) (e : FineStep) (law : Lawful f m e) (x : ℕ) (few : x < ROWS) where
  open around f e use {later}

  was : Has (row f x) (slice_index_or m.pairs x []) x
  was = record { pairs = (law.rel.rows x few).pairs.pairs; dynamic = (law.rel.rows x few).pairs.dynamic }

  in-pairs : x < length m.pairs
  in-pairs = let rows = law.sound.wide.rows in omega (arith, rows, few)

  so : {s : State} → Has (row later x) (slice_index_or s.pairs x []) x → PairsAre later s x
  so h = record { pairs = h.pairs; dynamic = h.dynamic }

  row-here : (act : FineAct) → e.act ≡ act → (flags : List Bool) → Has (row_after (row f x) act) flags x → Has (row_state (s_next f.image (f.sites (Site.row x)) e)) flags x
  row-here act said flags h =
      let at = ap (λ (s : SiteState). row_state (site_after f.image s e.act e.moved)) (row-stands f m law.rel x)
      ∙ ap (λ a. row_state (site_after f.image (SiteState.row (row f x)) a e.moved)) said in
      record {
        pairs = ap (λ (w : RowWord). w.permissions) at ∙ h.pairs;
        dynamic = ap (λ (w : RowWord). w.dynamic) at ∙ (h.dynamic ∙ ap (λ (w : RowWord). nat_le STATIC_ROWS x && not (is_free w.stage)) (sym at));
      }

  -- a step on the word of a row writes the permissions of that row alone
  on-row : (y : ℕ) → e.site ≡ Site.row y → (act : FineAct) → e.act ≡ act → (flags : List Bool) → (y ≡ x → Has (row_after (row f x) act) flags x)
      → ((x ≡ y → ⊥) → flags ≡ slice_index_or m.pairs x []) → Has (row later x) flags x
  on-row y site act said flags here there = by (y == x) refl
    where
      at : (b : Bool) → (y == x) ≡ b → same_site e.site (Site.row x) ≡ b
      at b q = ap (λ i. same_site i (Site.row x)) site ∙ q

      by : (b : Bool) → (y == x) ≡ b → Has (row later x) flags x
      by true q =
          subst (λ c. Has (row_state (cond c (s_next f.image (f.sites (Site.row x)) e) (f.sites (Site.row x)))) flags x) (sym (at true q))
          (row-here act said flags (here (eqb-true y x q)))
      by false q =
          subst (λ c. Has (row_state (cond c (s_next f.image (f.sites (Site.row x)) e) (f.sites (Site.row x)))) flags x) (sym (at false q))
          (subst (λ fl. Has (row f x) fl x) (sym (there (λ k. eqb-false y x q (sym k)))) was)

  -- a permission is given, unless the object is gone
  gives : (who y z : ℕ) → z ≡ y → given_of (row f y) ≡ T.given m z → y ≡ x
      → Has (if is_live (row f x).stage then permitted (row f x) who true else row f x) (slice_index_or (with_given m who z).pairs x []) x
  gives who y z same given at = by (Plain.is_gone (object_at m z).status) refl
    where
      live : is_live (row f x).stage ≡ not (Plain.is_gone (object_at m z).status)
      live = given-live _ _ (ap (λ n. given_of (row f n)) (sym at) ∙ given)

      by : (b : Bool) → Plain.is_gone (object_at m z).status ≡ b
          → Has (if is_live (row f x).stage then permitted (row f x) who true else row f x) (slice_index_or (with_given_if b m who z).pairs x []) x
      by true q =
          subst (λ l. Has (if l then permitted (row f x) who true else row f x) (slice_index_or m.pairs x []) x) (sym (live ∙ ap not q)) was
      by false q =
          subst (λ l. Has (if l then permitted (row f x) who true else row f x) (slice_index_or (T.paired m who z true).pairs x []) x) (sym (live ∙ ap not q))
          (record {
            pairs = ap (λ fl. slice_set fl who true) was.pairs
                ∙ sym (ap (λ n. slice_index_or (slice_set m.pairs n (slice_set (slice_index_or m.pairs n []) who true)) x []) (same ∙ at)
                ∙ get_or-set_same m.pairs x (slice_set (slice_index_or m.pairs x []) who true) [] in-pairs);
            dynamic = was.dynamic;
          })

  given-else : (who y z : ℕ) → z ≡ y → (x ≡ y → ⊥) → slice_index_or (with_given m who z).pairs x [] ≡ slice_index_or m.pairs x []
  given-else who y z same ne =
      elim (Plain.is_gone (object_at m z).status) as (λ b. slice_index_or (with_given_if b m who z).pairs x [] ≡ slice_index_or m.pairs x []) [
        | true ↦ refl
        | false ↦ get_or-set_other m.pairs z x _ [] (λ k. ne (k ∙ same))
      ]

  -- a permission is dropped, in a state with the same permissions
  drops-at : (s : State) (who y z : ℕ) → s.pairs ≡ m.pairs → z ≡ y → y ≡ x → Has (dropped (row f x) who) (slice_index_or (with_dropped s who z).pairs x []) x
  drops-at s who y z pairs same at =
      subst (λ fl. Has (dropped (row f x) who) fl x)
      (sym (ap (λ n. slice_index_or (with_dropped s who n).pairs x []) (same ∙ at)
      ∙ (dropped-pairs s who x (subst (λ (ps : List (List Bool)). x < length ps) (sym pairs) in-pairs)
      ∙ ap (λ (ps : List (List Bool)). slice_set (slice_index_or ps x []) who false) pairs)))
      (has-dropped (row f x) (slice_index_or m.pairs x []) x who was)

  drops-else : (s : State) (who y z : ℕ) → s.pairs ≡ m.pairs → z ≡ y → (x ≡ y → ⊥) → slice_index_or (with_dropped s who z).pairs x [] ≡ slice_index_or m.pairs x []
  drops-else s who y z pairs same ne = dropped-else s who z x (λ k. ne (k ∙ same)) ∙ ap (λ (ps : List (List Bool)). slice_index_or ps x []) pairs

  -- A step that no trace shows: a row is vacated only where nobody has a permission on it.

  quiet-has : (u : Unseen) → row_takes_unseen (row f x) u ≡ true → Has (row_after_unseen (row f x) u) (slice_index_or m.pairs x []) x
  quiet-has Unseen.EndCall h =
      record {
        pairs = was.pairs;
        dynamic = was.dynamic ∙ ap (λ b. nat_le STATIC_ROWS x && not b) (sym (ends-free (row f x).stage ((row f x).claims == 1)));
      }
  quiet-has Unseen.Vacate h =
      let stage = cleaning-is (row f x).stage (and_parts _ _ h).0 in
      let status = (law.rel.rows x few).status.status (settled f m law.rel x few (ap is_free stage)) ∙ ap (λ s. status_of s (is_reserved (object_at m x).status)) stage in
      record {
        pairs = sym (unlived-none m law.sound x few (ap Plain.is_live status));
        dynamic = sym (by (nat_le STATIC_ROWS x));
      }
    where
      by : (b : Bool) → (b && false) ≡ false
      by true = refl
      by false = refl
  quiet-has u h = was

  quiet-part : (u : Unseen) → e.act ≡ FineAct.Unseen u → Has (row later x) (slice_index_or m.pairs x []) x
  quiet-part u said = by (same_site e.site (Site.row x)) refl
    where
      takes : same_site e.site (Site.row x) ≡ true → row_takes_unseen (row f x) u ≡ true
      takes q =
          (and_parts (nat_lt (row f x).number 1048575) (row_takes_unseen (row f x) u) (subst (λ (s : SiteState). site_takes s (FineAct.Unseen u) ≡ true) (row-stands f m law.rel x)
          (subst (λ (z : Site × FineAct). site_takes (f.sites z.0) z.1 ≡ true) (λ j. (same-sound e.site (Site.row x) q j, said j)) law.taken.takes))).1

      by : (b : Bool) → same_site e.site (Site.row x) ≡ b → Has (row later x) (slice_index_or m.pairs x []) x
      by true q =
          subst (λ c. Has (row_state (cond c (s_next f.image (f.sites (Site.row x)) e) (f.sites (Site.row x)))) (slice_index_or m.pairs x []) x) (sym q)
          (row-here (FineAct.Unseen u) said (slice_index_or m.pairs x []) (quiet-has u (takes q)))
      by false q =
          subst (λ c. Has (row_state (cond c (s_next f.image (f.sites (Site.row x)) e) (f.sites (Site.row x)))) (slice_index_or m.pairs x []) x) (sym q) was

  -- An event.

  by-event : (q : Pending) (rest : Steps) (todo : Todos) (n : ℕ) → Shows f m e.cpu e q rest todo → IsShown q → IsStep f m e.cpu e n q → PairsAre later (T.after m (mine f m e) n q rest) x
  by-event (Pending.Grant who a) rest todo n h shown is =
      let y = row_named f.image a in
      let said = ap (λ act. given_in (act_in act)) (row-says h y _ (site-is h) is.said) in
      so (on-row y (site-is h) _ is.said _
      (gives who.0 y (T.row_of m a) (named-row f m law.rel a) (said ∙ ap given_in is.says)) (given-else who.0 y (T.row_of m a) (named-row f m law.rel a)))
  by-event (Pending.Own who) rest todo n h shown is =
      let y = own_row f.image who.0 in
      let said = ap (λ act. given_in (act_in act)) (row-says h y _ (site-is h) is.said) in
      let same = ap (λ (i : Image). own_row i who.0) law.rel.image in
      so (on-row y (site-is h) _ is.said _
      (λ at. let g = gives who.0 y (own_row m.image who.0) same (said ∙ ap given_in is.says) at in record { pairs = g.pairs; dynamic = g.dynamic })
      (given-else who.0 y (own_row m.image who.0) same))
  by-event (Pending.DropPair who a) rest todo n h shown is =
      let y = row_named f.image a in
      so (on-row y (site-is h) _ is.said _ (drops-at m who.0 y (T.row_of m a) refl (named-row f m law.rel a)) (drops-else m who.0 y (T.row_of m a) refl (named-row f m law.rel a)))
  by-event (Pending.Born a) rest todo n h shown is =
      so (on-row (row_named f.image a) (site-is h) _ is.said _ here (λ ne. get_or-set_other m.pairs (T.row_of m a) x _ [] (λ k. ne (k ∙ named-row f m law.rel a))))
    where
      t : ℕ
      t = mine f m e

      here : row_named f.image a ≡ x → Has (row_after_act (row f x) t (Act.Born a)) (slice_index_or (slice_set m.pairs (T.row_of m a) (slice_set (slice_index_or m.pairs (T.row_of m a) []) t true)) x []) x
      here at =
          let r = born-reserved m law.sound t a rest (shown-offers h) in
          let same : T.row_of m a ≡ x = named-row f m law.rel a ∙ at in
          let status : (object_at m x).status ≡ Status.Reserved = ap (λ k. (object_at m k).status) (sym same ∙ ap (λ (o : Option ℕ). unwrap_or o 0) r.1) ∙ r.2 in
          record {
            pairs = ap (λ fl. slice_set fl t true) (sym (unlived-none m law.sound x few (ap Plain.is_live status)))
                ∙ sym (ap (λ k. slice_index_or (slice_set m.pairs k (slice_set (slice_index_or m.pairs k []) t true)) x []) same
                ∙ get_or-set_same m.pairs x (slice_set (slice_index_or m.pairs x []) t true) [] in-pairs);
            dynamic = sym (ap (λ b. b && true) (le_is STATIC_ROWS x (unlived-dynamic m law.sound x (ap Plain.is_free status) (ap Plain.is_live status))));
          }
  by-event (Pending.Inherit who) rest todo n h shown is = absurd shown
  by-event (Pending.Drops from) rest todo n h shown is = absurd shown
  by-event (Pending.CleanPair who) rest todo n h shown is = absurd shown
  by-event q rest todo n h shown is = pairs-kept h n x few is.said shown tt

  same-row : (w : RowWord) → HasSame w w
  same-row w = record { permissions = refl; dynamic = refl; stage = refl }

  on-beside : (t y : ℕ) (q : Pending) → Beside f m e t y q → PairsAre later (T.after m t y q (thread_at m t).pending) x
  on-beside _ _ _ (cuts who site before y todo at place inside said) = pairs-beside f m law.rel e _ More.Nothing said (Pending.Cut (to_thread who)) (thread_at m (mine f m e)).pending (mine f m e) y x few (same-row (row f x)) tt
  on-beside _ _ _ (times_out deadline site y who todo at place inside said) = pairs-beside f m law.rel e _ More.Nothing said (Pending.TimeOut who) (thread_at m (acting f m e)).pending (acting f m e) y x few (same-row (row f x)) tt
  on-beside _ _ _ (expires deadline y todo at inside said) = pairs-beside f m law.rel e _ More.Nothing said Pending.Expire (thread_at m (acting f m e)).pending (acting f m e) y.0 x few (same-row (row f x)) tt
  on-beside _ _ _ (ticks at said) = pairs-beside f m law.rel e _ More.Nothing said Pending.Tick (thread_at m (acting f m e)).pending (acting f m e) 0 x few (same-row (row f x)) tt
  on-beside _ _ _ (leaves todo at said) = pairs-beside f m law.rel e _ More.Nothing said Pending.Left (thread_at m (mine f m e)).pending (mine f m e) 0 x few (same-row (row f x)) tt

  pub pairs-part : (s : State) → Leaves f m e s → PairsAre later s x
  pairs-part _ (nothing u said) = so (quiet-part u said)
  pairs-part _ (event q rest todo n h shown is) = by-event q rest todo n h shown is
  pairs-part _ (resumes c told rest idle moved said) = pairs-beside f m law.rel e _ More.Nothing said Pending.Resume rest c.thread 0 x few (same-row (row f x)) tt
  pairs-part _ (passes who y rest todo h said) =
      so (on-row y (visit-site h) _ said _
      (λ at. record {
        pairs = ap (λ fl. slice_set fl who true) was.pairs
            ∙ sym (ap (λ k. slice_index_or (slice_set m.pairs k (slice_set (slice_index_or m.pairs k []) who true)) x []) at
            ∙ get_or-set_same m.pairs x (slice_set (slice_index_or m.pairs x []) who true) [] in-pairs);
        dynamic = was.dynamic;
      }) (λ ne. get_or-set_other m.pairs y x _ [] ne))
  pairs-part _ (drops from y rest todo h said) =
      so (on-row y (visit-site h) _ said _ (drops-at m (mine f m e) y y refl refl) (drops-else m (mine f m e) y y refl refl))
  pairs-part _ (cleans who y rest todo h said) =
      let s = with_cleaner m (mine f m e) (own_row m.image who) in so (on-row y (visit-site h) _ said _ (drops-at s who y y refl refl) (drops-else s who y y refl refl))
  pairs-part _ (recycles y rest todo at l said chosen) =
      pairs-beside f m law.rel e _ More.Nothing said Pending.Recycle rest (mine f m e) y x few (same-row (row f x)) tt
  pairs-part _ (beside t y q how chosen started) = on-beside t y q how
