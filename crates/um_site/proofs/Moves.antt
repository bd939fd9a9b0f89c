-- Each step on a board keeps the board's rule, and tells what it has to.
use Rattle.std.proofs.Common.{◌≡◌, ◌≢◌, ℕ, ◌+◌, ◌-◌, ◌*◌, ◌/◌, ◌%◌, ◌^◌, ◌<◌, ◌≤◌, true, false, eqb, cond, List, [], ◌∷◌, ◌++◌, ◌⊎◌, inr, ⊎_elim, Option, Some, None, map, length, get_or, set, sym, refl, ap, ◌∙◌, subst, arith, eq-eqb, ne_eqb}
use Rattle.std.proofs.lemmas.List.{set-get_or, length-map}
use Rattle.std.proofs.lemmas.Nat.{or_block}
use Rattle.std.specs.Prelude.{bit_or, replicate}
use Rattle.std.specs.Int.Bits.{or_zero_r as or_nought}
use prog.Atomic.{either}
use mathlib.Core.Logic.{dite}
use mathlib.Core.Option.{some, none}
use native.Mathlib.Decide.{ℕ_discrete}
use lib.ListN.{get_elem?}
use Rattle.atomic_table.specs.Table.{State, Me, step, keeps, takes, gives, stepped, Allows, Splits, Joins, Final, Seen}
use Rattle.atomic_table.proofs.Lists.{set_else, set_again, some_there}
use Rattle.um_words.specs.declared.fine.FineAct.{FineAct}
use Rattle.um_words.specs.declared.made.Made.{Made}
use Rattle.um_words.specs.Exchanges.{Exchange}
use Rattle.um_words.specs.Steps.{WordMay, number}
use Rattle.um_words.specs.WordFacts.{counts, free-turns}
use Rattle.um_base.specs.declared.image.Image.{Image}
use Rattle.um_site.specs.declared.turn.Turn.{Turn}
use Rattle.um_site.specs.declared.view.View.{View}
use Rattle.um_words.specs.Sublists.{same_name, sub}
use Rattle.um_words.specs.History.{Entry, made_of, is_at, is_by, by_seat, by_site, bare, IsHistory}
use Rattle.um_site.specs.History.{Among, Told, Has, Kept, Knows, Tidy, AmongNames, opening_view, splitter, newborn, joiner, spent, shadow_of, IsClosed}
use Rattle.um_site.specs.Cells.{AmongCells, Follow, ContentsAre, CellsAre, Moment, Rule, NoSteps, NoneOfThem, IsClosedWithCells}
use Rattle.um_site.specs.Tells.{with_got, with_made, GoesOn, Looked, looked, stepped_by, taking, recording, returning, took, reached, recorded_by, returned}
use Rattle.um_site.proofs.Sublists.{same_itself}
use Rattle.um_site.proofs.Bare.{bare-low, bare-high, bare-even, bare-number}
use Rattle.um_site.proofs.Keeps.{own_words, look_tells, turn_keeps, step_keeps, no_older, words_numbers, by_site_here, by_site_else, opens as board_opens, only_first}
use Rattle.um_site.proofs.Joining.{split_keeps, join_keeps, shadow_keeps, all_told, alone, no_items}
use Rattle.um_site.proofs.Transfers.{alike_same, alike_split, alike_join, alike_shadow, no_turn, cells_alike, cells_elsewhere}
use Rattle.um_site.proofs.TurnCells.{same_turn, take_cells, give_cells}

-- what the turn bit's fetch_or leaves
or_one : (n : ℕ) → bit_or n 1 ≡ n / 2 * 2 + bit_or (n % 2) 1
or_one n = let e : n ≡ n / 2 * 2 ^ 1 + n % 2 = omega arith in let o = or_block 1 (n / 2) 0 (n % 2) 1 (omega arith) (omega arith) in ap (λ m. bit_or m 1) e ∙ (o ∙ ap (λ m. m * 2 + bit_or (n % 2) 1) (or_nought (n / 2)))

or_even : (n : ℕ) → n % 2 ≡ 0 → bit_or n 1 ≡ n + 1
or_even n e = or_one n ∙ (ap (λ r. n / 2 * 2 + bit_or r 1) e ∙ omega arith)

or_odd : (n : ℕ) → n % 2 ≢ 0 → bit_or n 1 ≡ n
or_odd n e = let r : n % 2 ≡ 1 = omega arith in or_one n ∙ (ap (λ q. n / 2 * 2 + bit_or q 1) r ∙ omega arith)

turn_bare : (i w : ℕ) → 168 ≤ i → w % 2 ≡ 0 → bare i (w + 1) ≡ bare i w
turn_bare i w cell even = bare-high i (w + 1) cell ∙ (omega arith ∙ sym (bare-high i w cell))

turn_number : (i w : ℕ) → 168 ≤ i → w % 2 ≡ 0 → number i (w + 1) ≡ number i w
turn_number i w cell even = sym (bare-number i (w + 1)) ∙ (ap (number i) (turn_bare i w cell even) ∙ bare-number i w)

cell_slot : (i : ℕ) → 168 ≤ i → 168 + (i - 168) ≡ i
cell_slot i cell = omega arith

-- where no seat has a step of a site, it has none
no_steps : (i : ℕ) (h : List Entry) → ((n : List ℕ) → NoSteps i (by_seat n h)) → by_site i h ≡ []
no_steps i [] none' = refl
no_steps i (e ∷ es) none' =
    let own : NoSteps i (e.1 ∷ by_seat e.0 es) = subst (λ b. NoSteps i (map made_of (cond b (e ∷ sub (is_by e.0) es) (sub (is_by e.0) es)))) (same_itself e.0) (none' e.0) in
    let off : is_at i e ≡ false = ne_eqb e.1.site i own.0 in
    ap (λ b. map made_of (cond b (e ∷ sub (is_at i) es) (sub (is_at i) es))) off
    ∙ no_steps i es (λ n. elim (same_name e.0 n) as (λ b. NoSteps i (map made_of (cond b (e ∷ sub (is_by n) es) (sub (is_by n) es))) → NoSteps i (by_seat n es)) [ true ↦ λ a. a.1 | false ↦ λ a. a ] (none' n))

none_told : (i : ℕ) (h : List Entry) (es : List (List ℕ × List Made)) (n : List ℕ) → Told h es → NoneOfThem i es → Among es n → NoSteps i (by_seat n h)
none_told i h [] n t none' a = absurd a
none_told i h (e ∷ es) n t none' a = ⊎_elim (λ q. subst (λ (m : List ℕ). NoSteps i (by_seat m h)) q (subst (NoSteps i) (sym t.0) none'.0)) (λ b. none_told i h es n t.1 none'.1 b) a

module _ {T : Type 0} (opens : Image → ℕ → T → Type 0) (follows : T → FineAct → Exchange → T → Type 0) where
  Follow_push : (x0 : T) (ms : List Made) (x z : T) (m : Made) → Follow opens follows x0 ms x → follows x m.act m.moved z → Follow opens follows x0 (ms ++ m ∷ []) z
  Follow_push x0 [] x z m f e = (z, subst (λ (w : T). follows w m.act m.moved z) (sym f) e, refl)
  Follow_push x0 (n ∷ ms) x z m f e = (f.0, f.1, Follow_push f.0 ms x z m f.2 e)

  contents_push : (image : Image) (i : ℕ) (ms : List Made) (x z : T) (m : Made) → ContentsAre opens follows image i ms (Some x) → follows x m.act m.moved z → ContentsAre opens follows image i (ms ++ m ∷ []) (Some z)
  contents_push image i ms x z m c e = let same : x ≡ c.0 = cc (c.2) in (z, c.1, refl, c.3, Follow_push c.1 ms c.0 z m c.4 (subst (λ (w : T). follows w m.act m.moved z) same e))

  module _ (goes : Image → List ℕ → List Made → Made → Type 0) (image : Image) (opening : List ℕ) where
    abbrev Holds : State (Option T) View → Type 0
    Holds s = Rule opens follows (goes image) image opening s.words s.homes s.views

    -- a look, also at a cell whose turn is out
    look_rule : (s : State (Option T) View) (r : Holds s) (id : ℕ) (v : View) (i : ℕ) → get_elem? s.views id ≡ some v → v.live ≡ true → i < length opening
        → (c : List (ℕ × Option T)) → Holds (stepped s i (get_or s.words i 0) id c (with_got v i (get_or s.words i 0)) keeps) × Looked goes v i (get_or s.words i 0) (with_got v i (get_or s.words i 0))
    look_rule s r id v i at lives in' c = let w : ℕ = get_or s.words i 0 in let wide = r.1.stands.wide in let v' : View = with_got v i w in (
      (
        r.0,
        turn_keeps goes image opening s.words s.views id v i w w v.turn v.filled r.0 r.1 at lives (omega arith) refl refl,
        subst (λ (l : List ℕ). CellsAre opens follows image l s.homes r.0 (set s.views id v')) (sym (set-get_or s.words i 0))
            (cells_alike opens follows image s.words s.homes r.0 s.views (set s.views id v') (alike_same s.views id v v' at lives lives refl refl) r.2),
      ),
      look_tells goes image opening s.words s.views id v i r.0 r.1 at lives (omega arith),
    )

    -- the moment of a look, in the words of the seat that looks
    abbrev moment_of : (s : State (Option T) View) (r : Holds s) (id : ℕ) (v : View) (i : ℕ) → get_elem? s.views id ≡ some v → v.live ≡ true → i < length s.words → Moment opens follows goes v i (get_or s.words i 0)
    moment_of s r id v i at lives in' = let k = r.1.know id v at lives in
        record {
          words = s.words;
          homes = s.homes;
          views = s.views;
          history = r.0;
          kept = subst (λ (z : Image × List ℕ). Kept (goes z.0) z.0 z.1 s.words r.0 s.views) (λ j. (sym k.image_is j, sym k.opening_is j)) r.1;
          cells = subst (λ (im : Image). CellsAre opens follows im s.words s.homes r.0 s.views) (sym k.image_is) r.2;
          seat = id;
          there = at;
          live = lives;
          inside = in';
          word = refl;
        }

    pub looks : (slots id : ℕ) (me : Me (Option T) View) (i : ℕ) → me.0.live ≡ true → i < length opening → Allows Holds slots id me i (λ n. n) (looked opens follows goes (step slots i 0 0 none) me)
    looks slots id me i lives in' s r _ at _ = let k = look_rule s r id me.0 i at lives in' me.1 in let wide = r.1.stands.wide in
        (with_got me.0 i (get_or s.words i 0), keeps, tt, k.0, (refl, k.1, moment_of s r id me.0 i at lives (omega arith)))

    pub exchanges : (slots id : ℕ) (me : Me (Option T) View) (m made : Made) (seen : ℕ) → made ≡ m → me.0.live ≡ true → m.site < length opening → m.site < 168
        → WordMay m.site seen m.act m.word → goes me.0.image me.0.name me.0.made m
        → Allows Holds slots id me m.site (λ n. either (eqb n seen) m.word n) (stepped_by goes made (step slots m.site seen m.word none) me)
    exchanges slots id me m made seen same lives in' low e may s r _ at _ = let x : ℕ = get_or s.words m.site 0 in let wide = r.1.stands.wide in let v' : View = with_made me.0 m in dite (ℕ_discrete x seen)
        (λ hit. let up = counts m.site seen m.act m.word e in
        let k = step_keeps goes image opening s.words s.views id me.0 m me.0.turn me.0.filled r.0 r.1 at lives (omega arith) (subst (λ (z : ℕ). WordMay m.site z m.act m.word) (sym (bare-low m.site x low ∙ hit)) e)
        (subst (λ (z : ℕ). number m.site z < number m.site m.word) (sym hit) (omega arith)) may in
        let c = cells_elsewhere opens follows image s.words s.homes r.0 (set s.views id v') me.0.name m low
        (cells_alike opens follows image s.words s.homes r.0 s.views (set s.views id v') (alike_same s.views id me.0 v' at lives lives refl refl) r.2) in (
          v',
          keeps,
          tt,
          subst (λ b. Holds (stepped s m.site (either b m.word x) id me.1 v' keeps)) (sym (eq-eqb x seen hit)) (r.0 ++ (me.0.name, m) ∷ [], k.0, c),
          (refl, (λ _. (subst (λ (z : ℕ × Made). GoesOn goes me.0 z.1 z.0) (λ i. (hit i, sym same i)) k.1, ap (with_made me.0) (sym same))), λ not. absurd (not hit)),
        ))
        (λ miss. let k = look_rule s r id me.0 m.site at lives in' me.1 in (
          with_got me.0 m.site x,
          keeps,
          tt,
          subst (λ b. Holds (stepped s m.site (either b m.word x) id me.1 (with_got me.0 m.site x) keeps)) (sym (ne_eqb x seen miss)) k.0,
          (refl, (λ hit. absurd (miss hit)), λ _. k.1),
        ))

    -- the rule once a turn is taken
    take_rule : (s : State (Option T) View) (r : Holds s) (id : ℕ) (v : View) (i : ℕ) → get_elem? s.views id ≡ some v → v.live ≡ true → v.turn ≡ None → 168 ≤ i → i < length s.words → i < 168 + length s.homes → get_or s.words i 0 % 2 ≡ 0
        → (c : List (ℕ × Option T)) (y : Option T) → Holds (stepped s i (bit_or (get_or s.words i 0) 1) id c (taking v i (get_or s.words i 0) (by_site i r.0)) (takes (i - 168) y))
    take_rule s r id v i at lives idle cell in' slot even c y = let w : ℕ = get_or s.words i 0 in let mine : Turn = record { site = i; word = w; past = by_site i r.0 } in
        subst (λ n. Holds (stepped s i n id c (taking v i w (by_site i r.0)) (takes (i - 168) y))) (sym (or_even w even)) (
          r.0,
          turn_keeps goes image opening s.words s.views id v i (w + 1) w (Some mine) v.filled r.0 r.1 at lives in' (turn_bare i w cell even) refl,
          take_cells opens follows image s.words s.homes s.views id v at lives r.0 i cell in' slot even idle r.2,
        )

    pub take_allowed : (slots id : ℕ) (me : Me (Option T) View) (i : ℕ) → me.0.live ≡ true → me.0.turn ≡ None → AmongCells me.0.filled i
        → Allows Holds slots id me i (λ n. bit_or n 1) (took opens follows goes (step slots i 1 0 none) me)
    take_allowed slots id me i lives idle full s r _ at _ = let w : ℕ = get_or s.words i 0 in let v = me.0 in let h = r.0 in
        let f = r.2.filled id v at lives i full in let cell : 168 ≤ i = f.0 in let in' : i < length s.words = f.1 in let slot : i < 168 + length s.homes = f.2 in
        let k = r.1.know id v at lives in let wide = r.1.stands.wide in dite (ℕ_discrete (w % 2) 0)
        (λ even. let b = r.2.home (i - 168) (omega arith) (omega arith) (subst (λ n. get_or s.words n 0 % 2 ≡ 0) (sym (cell_slot i cell)) even) in
        let y = subst (λ n. ContentsAre opens follows image n (by_site n h) b.0) (cell_slot i cell) (b.2 id v at lives (subst (AmongCells v.filled) (sym (cell_slot i cell)) full)) in (
          taking v i w (by_site i h),
          takes (i - 168) b.0,
          b.1,
          take_rule s r id v i at lives idle cell in' slot even me.1 b.0,
          (
            (λ _. (
              b.0,
              refl,
              record {
                newer = no_older s.words i v.got k.fresh;
                moment = moment_of s r id v i at lives in';
                counted = let n = (words_numbers i (get_or opening i 0) (by_site i h) (bare i w) (r.1.stands.sites i in')).1 in let z = r.1.stands.opened i (omega arith) in let e = bare-number i w in omega arith;
                contents = subst (λ (im : Image). ContentsAre opens follows im i (by_site i h) b.0) (sym k.image_is) y;
                now = refl;
              },
            )),
            λ not. absurd (not even),
          ),
        ))
        (λ odd. let l = look_rule s r id v i at lives (omega arith) me.1 in (
          with_got v i w,
          keeps,
          tt,
          subst (λ n. Holds (stepped s i n id me.1 (with_got v i w) keeps)) (sym (or_odd w odd)) l.0,
          ((λ even. absurd (odd even)), λ _. (refl, l.1)),
        ))

    -- while the first seat has no turn and no other is out, nobody has a cell's turn
    is_free : (s : State (Option T) View) (r : Holds s) (id : ℕ) (v : View) (i : ℕ) → get_elem? s.views id ≡ some v → v.live ≡ true → v.name ≡ [] → v.children ≡ [] → v.turn ≡ None → 168 ≤ i → i < length s.words → get_or s.words i 0 % 2 ≡ 0
    is_free s r id v i at lives first nil idle cell in' = dite (ℕ_discrete (get_or s.words i 0 % 2) 0) (λ e. e)
        (λ odd. let b = r.2.held i cell in' (omega arith) in let same = alone (goes image) image opening s.words s.views r.0 r.1 id v at lives first nil b.0 b.1 b.3 b.4 in
        let e : None ≡ Some b.2 = sym idle ∙ (ap (λ (z : View). z.turn) (sym same) ∙ b.5) in absurd (cc))

    -- The first seat, while no other is out, takes the turn of a cell that has taken no step.
    pub reach_allowed : (slots id : ℕ) (me : Me (Option T) View) (i : ℕ) → me.0.live ≡ true → me.0.name ≡ [] → length me.0.children ≡ 0 → me.0.turn ≡ None → 168 ≤ i → i < length opening → i < 168 + slots
        → NoSteps i me.0.made → NoneOfThem i me.0.joined → Allows Holds slots id me i (λ n. bit_or n 1) (reached (step slots i 1 0 none) me)
    reach_allowed slots id me i lives first none_out idle cell in' slot mine theirs s r count at _ = let w : ℕ = get_or s.words i 0 in let v = me.0 in let h = r.0 in
        let k = r.1.know id v at lives in let wide = r.1.stands.wide in let nil : v.children ≡ [] = no_items v.children none_out in
        let even : w % 2 ≡ 0 = is_free s r id v i at lives first nil idle cell (omega arith) in
        let b = r.2.home (i - 168) (omega arith) (omega arith) (subst (λ n. get_or s.words n 0 % 2 ≡ 0) (sym (cell_slot i cell)) even) in
        let none' : by_site i h ≡ [] = no_steps i h (λ n. ⊎_elim (λ e. subst (NoSteps i) (sym e) tt)
        (λ has. ⊎_elim (λ q. subst (λ (m : List ℕ). NoSteps i (by_seat m h)) q (subst (NoSteps i) (sym k.mine) mine)) (λ a. none_told i h v.joined n k.theirs theirs a) has)
        (all_told (goes image) image opening s.words s.views h r.1 id v at lives first nil n)) in (
          taking v i w (by_site i h),
          takes (i - 168) b.0,
          b.1,
          take_rule s r id v i at lives idle cell (omega arith) (omega arith) even me.1 b.0,
          (even, (b.0, refl), ap (taking v i w) none'),
        )

    pub record_allowed : (slots id : ℕ) (me : Me (Option T) View) (t : Turn) (m made : Made) (x z : T) (c : List (ℕ × Option T)) → made ≡ m → me.0.live ≡ true → me.0.turn ≡ Some t → t.site ≡ m.site → me.1 ≡ (m.site - 168, Some z) ∷ c
        → ContentsAre opens follows me.0.image m.site t.past (Some x) → follows x m.act m.moved z → WordMay m.site t.word m.act m.word → goes me.0.image me.0.name me.0.made m
        → Allows Holds slots id me m.site (λ n. m.word) (λ n. recorded_by {T = T} opens follows goes made (step slots m.site m.word 0 none) me m.word)
    record_allowed slots id me t m made x z c same lives has here carried was then' e may s r _ at _ = let v = me.0 in let h = r.0 in let i : ℕ = m.site in
        let u = r.2.turns id v at lives t has in let k = r.1.know id v at lives in
        let cell : 168 ≤ i = subst (λ n. 168 ≤ n) here u.cell in let in' : i < length s.words = subst (λ n. n < length s.words) here u.inside in
        let stands : get_or s.words i 0 ≡ t.word + 1 = ap (λ j. get_or s.words j 0) (sym here) ∙ u.taken in
        let plain : bare i (get_or s.words i 0) ≡ t.word = ap (bare i) stands ∙ (turn_bare i t.word cell u.free ∙ bare-even i t.word (λ far. u.free)) in
        let up : number i (get_or s.words i 0) < number i m.word = let a = ap (number i) stands in let b = turn_number i t.word cell u.free in let d = counts i t.word m.act m.word e in omega arith in
        let g = step_keeps goes image opening s.words s.views id v m None v.filled h r.1 at lives in' (subst (λ (n : ℕ). WordMay i n m.act m.word) (sym plain) e) up may in
        let h' : List Entry = h ++ (v.name, m) ∷ [] in
        let was' : ContentsAre opens follows image i (by_site i h) (Some x) = subst (λ (q : Image × List Made). ContentsAre opens follows q.0 i q.1 (Some x)) (λ j. (k.image_is j, (sym u.past ∙ ap (λ n. by_site n h) here) j)) was in
        let now : ContentsAre opens follows image i (by_site i h') (Some z) = subst (λ (l : List Made). ContentsAre opens follows image i l (Some z)) (sym (by_site_here h v.name m)) (contents_push image i (by_site i h) x z m was' then') in
        let d = give_cells opens follows image s.words s.homes s.views id v at lives h h' t m.word (Some z) (recording v m) has (free-turns i t.word m.act m.word cell e).1
        (λ j ne. by_site_else h v.name m j (λ q. ne (sym (here ∙ q)))) (subst (λ n. ContentsAre opens follows image n (by_site n h') (Some z)) (sym here) now) refl (λ j a. inr a) r.2 in
        let d' = subst (λ n. CellsAre opens follows image (set s.words n m.word) (set s.homes (n - 168) (some (Some z))) h' (set s.views id (recording v m))) here d in (
          recording v m,
          gives,
          tt,
          subst (λ (l : List (ℕ × Option T)). Holds (stepped s i m.word id l (recording v m) gives)) (sym carried) (h', g.0, d'),
          (refl, ap (recording v) (sym same), λ q hq. subst (λ (u : Made × ℕ). GoesOn goes v u.0 u.1) (λ j. (sym same j, (stands ∙ ap (λ (z : Turn). z.word + 1) (same_turn v t q has hq)) j)) g.1),
        )

    -- a turn goes back with what the cell's steps so far leave
    return_turn : (slots id : ℕ) (me : Me (Option T) View) (t : Turn) (y : Option T) (c : List (ℕ × Option T)) (filled : List ℕ) → me.0.live ≡ true → me.0.turn ≡ Some t → me.1 ≡ (t.site - 168, y) ∷ c
        → ContentsAre opens follows me.0.image t.site t.past y → ((i : ℕ) → AmongCells filled i → (i ≡ t.site) ⊎ AmongCells me.0.filled i)
        → Allows Holds slots id me t.site (λ n. t.word) (λ n. returned {T = T} filled (step slots t.site t.word 0 none) me t.word)
    return_turn slots id me t y c filled lives has carried was more s r _ at _ = let v = me.0 in let h = r.0 in let i : ℕ = t.site in
        let u = r.2.turns id v at lives t has in let k = r.1.know id v at lives in
        let same : bare i t.word ≡ bare i (get_or s.words i 0) = sym (turn_bare i t.word u.cell u.free) ∙ ap (bare i) (sym u.taken) in
        let now : ContentsAre opens follows image i (by_site i h) y = subst (λ (q : Image × List Made). ContentsAre opens follows q.0 i q.1 y) (λ j. (k.image_is j, sym u.past j)) was in
        let v' : View = returning v i t.word filled in (
          v',
          gives,
          tt,
          subst (λ (l : List (ℕ × Option T)). Holds (stepped s i t.word id l v' gives)) (sym carried) (
            h,
            turn_keeps goes image opening s.words s.views id v i t.word t.word None filled h r.1 at lives u.inside same same,
            give_cells opens follows image s.words s.homes s.views id v at lives h h t t.word y v' has u.free (λ j ne. refl) now refl more r.2,
          ),
          (refl, refl),
        )

    pub return_allowed : (slots id : ℕ) (me : Me (Option T) View) (t : Turn) (i w : ℕ) (y : Option T) (c : List (ℕ × Option T)) (filled : List ℕ) → me.0.live ≡ true → me.0.turn ≡ Some t → t.site ≡ i → t.word ≡ w → me.1 ≡ (i - 168, y) ∷ c
        → ContentsAre opens follows me.0.image i t.past y → ((j : ℕ) → AmongCells filled j → (j ≡ i) ⊎ AmongCells me.0.filled j)
        → Allows Holds slots id me i (λ n. w) (λ n. returned {T = T} filled (step slots i w 0 none) me w)
    return_allowed slots id me t i w y c filled lives has here is carried was more =
        subst (λ (q : ℕ × ℕ). Allows Holds slots id me q.0 (λ n. q.1) (λ n. returned {T = T} filled (step slots q.0 q.1 0 none) me q.1)) (λ j. (here j, is j))
        (return_turn slots id me t y c filled lives has (subst (λ n. me.1 ≡ (n - 168, y) ∷ c) (sym here) carried) (subst (λ n. ContentsAre opens follows me.0.image n t.past y) (sym here) was)
        (subst (λ n. (j : ℕ) → AmongCells filled j → (j ≡ n) ⊎ AmongCells me.0.filled j) (sym here) more))

    pub splits : (id : ℕ) (v : View) → v.live ≡ true → Splits {S = Option T} Holds id v (splitter v) (newborn v)
    splits id v lives s r at = (r.0, split_keeps (goes image) image opening s.words s.views id v r.0 r.1 at lives, cells_alike opens follows image s.words s.homes r.0 s.views (set s.views id (splitter v) ++ newborn v ∷ []) (alike_split s.views id v at lives) r.2)

    pub joins : (id : ℕ) (v : View) (other : ℕ) (w : View) → v.live ≡ true → w.live ≡ true → AmongNames v.children w.name → w.turn ≡ None → Joins {S = Option T} Holds id v other w (joiner v w) spent
    joins id v other w lv lw kid idle s r at ne bt = let bt' = sym (set_else s.views id other (joiner v w) ne) ∙ bt in
        (r.0, join_keeps (goes image) image opening s.views id v other w at bt' ne kid lv lw s.words r.0 r.1, cells_alike opens follows image s.words s.homes r.0 s.views (set (set s.views id (joiner v w)) other spent) (alike_join s.views id v other w at lv bt' lw idle ne) r.2)

    pub shadows : (id : ℕ) (v : View) → Splits {S = Option T} Holds id v v (shadow_of v)
    shadows id v s r at = let same = set_again s.views id v at in subst (λ (l : List View). Rule opens follows (goes image) image opening s.words s.homes (l ++ shadow_of v ∷ [])) (sym same)
        (r.0, shadow_keeps (goes image) image opening s.words s.views v r.0 r.1, cells_alike opens follows image s.words s.homes r.0 s.views (s.views ++ shadow_of v ∷ []) (alike_shadow s.views v) r.2)

    pub closes : (id : ℕ) (v : View) (ws : List ℕ) (xs : List (Option T)) → v.live ≡ true → v.name ≡ [] → length v.children ≡ 0 → Final (Seen Holds id v) ws xs → IsClosed goes v ws
    closes id v ws xs lives first none_out (s, seen, e, _, _) = let r = seen.0 in let h = r.0 in let at = seen.1 in let k = r.1.know id v at lives in
        let nil : v.children ≡ [] = no_items v.children none_out in
        subst (λ (l : List ℕ). IsClosed goes v l) e
        (subst (λ (z : Image × List ℕ). (h : List Entry) × IsHistory (goes z.0) z.1 s.words h × Knows z.0 z.1 s.words h v × Tidy v × ((n : List ℕ) → (by_seat n h ≡ []) ⊎ Has v n)) (λ i. (sym k.image_is i, sym k.opening_is i))
        (h, r.1.stands, k, r.1.tidy id v at lives, all_told (goes image) image opening s.words s.views h r.1 id v at lives first nil))

    pub closes_cells : (id : ℕ) (v : View) (ws : List ℕ) (xs : List (Option T)) → v.live ≡ true → v.name ≡ [] → length v.children ≡ 0 → v.turn ≡ None → Final (Seen Holds id v) ws xs → IsClosedWithCells opens follows goes v ws xs
    closes_cells id v ws xs lives first none_out idle (s, seen, e, _, at_home) = let r = seen.0 in let h = r.0 in let at = seen.1 in let k = r.1.know id v at lives in let o = own_words goes image opening s.words h v k r.1.stands in
        let nil : v.children ≡ [] = no_items v.children none_out in
        subst (λ (l : List ℕ). IsClosedWithCells opens follows goes v l xs) e (record {
          history = h;
          stands = o.0;
          knows = o.1;
          tidy = r.1.tidy id v at lives;
          only = all_told (goes image) image opening s.words s.views h r.1 id v at lives first nil;
          contents = λ i a. let f = r.2.filled id v at lives i a in let cell : 168 ≤ i = f.0 in let in' : i < length s.words = f.1 in let slot : i < 168 + length s.homes = f.2 in
              let even = is_free s r id v i at lives first nil idle cell in' in
              let b = r.2.home (i - 168) (omega arith) (omega arith) (subst (λ n. get_or s.words n 0 % 2 ≡ 0) (sym (cell_slot i cell)) even) in
              let y = subst (λ n. ContentsAre opens follows image n (by_site n h) b.0) (cell_slot i cell) (b.2 id v at lives (subst (AmongCells v.filled) (sym (cell_slot i cell)) a)) in
              (b.0, at_home (i - 168) b.0 b.1, subst (λ (im : Image). ContentsAre opens follows im i (by_site i h) b.0) (sym k.image_is) y);
        })

    abbrev pub nothing : Option T
    nothing = None

    pub opens_rule : (n : ℕ) → ((i : ℕ) → i < length opening → number i (get_or opening i 0) ≡ 0) → ((i : ℕ) → 168 ≤ i → i < length opening → get_or opening i 0 % 2 ≡ 0)
        → Rule opens follows (goes image) image opening opening (map some (replicate n (nothing))) (opening_view image opening ∷ [])
    opens_rule n fresh free = let first : View = opening_view image opening in let is = only_first (goes image) image opening in (
      [],
      board_opens (goes image) image opening fresh free,
      record {
        home = λ k here inside even. let y = some_there (replicate n nothing) k (let l = length-map (replicate n nothing) some in omega arith) in
            (y.0, y.1, λ id v at lives a. absurd (subst (λ (z : View). AmongCells z.filled (168 + k)) (sym (is id first v at).1) a));
        held = λ i cell inside odd. absurd (let e = free i cell inside in omega arith);
        turns = λ id v at lives t has. absurd (no_turn t (ap (λ (z : View). z.turn) (is id first v at).1 ∙ has));
        one = λ i j v w iv jw lv lw t u ht hu same. (is i first v iv).0 ∙ sym (is j first w jw).0;
        known = λ i j v w iv jw lv lw t has a. absurd (no_turn t (ap (λ (z : View). z.turn) (is i first v iv).1 ∙ has));
        filled = λ id v at lives i a. absurd (subst (λ (z : View). AmongCells z.filled i) (sym (is id first v at).1) a);
      },
    )
