-- What the first seat of a board has when it takes in the seats of the other processors, the last of them first.
use Rattle.std.proofs.Common.{◌≡◌, ℕ, zero, suc, ◌+◌, ◌<◌, ◌≤◌, cond, List, [], ◌∷◌, ◌++◌, None, length, length-append, set, inl, inr, ⊎_elim, refl, sym, ap, ◌∙◌, subst, arith, true}
use Rattle.std.specs.Prelude.{reverse, slice_index_or}
use Rattle.std.proofs.lemmas.List.{append-nil, reverse-append}
use Rattle.std.specs.Mem.Slots.{slots_items, slots_len}
use Rattle.atomic_table.specs.Seated.{TableId}
use Rattle.um_base.specs.declared.image.Image.{Image}
use Rattle.um_fine.specs.Steps.{FineStep}
use Rattle.um_words.specs.declared.made.Made.{Made}
use Rattle.um_merge.specs.Logs.{Log}
use Rattle.um_merge.specs.Merged.{log_at}
use Rattle.um_merge.specs.declared.logged.Logged.{Logged}
use Rattle.um_refinement.specs.Choice.{AreChosen}
use Rattle.um_site.specs.Cells.{AmongCells, IsClosedWithCells}
use Rattle.um_site.specs.History.{Among, AmongNames, joiner, shadow_of, without}
use Rattle.um_site.specs.declared.closed.Closed.{Closed}
use Rattle.um_site.specs.declared.seat.Seat.{Seat}
use Rattle.um_site.specs.declared.view.View.{View}
use Rattle.um_site.proofs.Sublists.{same_itself}
use Rattle.um_board.specs.Contents.{Follows, Known, Opens}
use Rattle.um_board.specs.NextSteps.{NextGoes, seat_name}
use Rattle.um_board.specs.Opening.{AreOpening}
use Rattle.um_board.proofs.Saws.{got-before, got-behind}
use Rattle.um_history.specs.Played.{HasList, Played, SCHEDULER, SawQuiet}
use Rattle.um_history.proofs.Chosen.{chosen}
use Rattle.um_history.proofs.Joins.{among-parts, stands-before, stands-behind}
use Rattle.um_cpu.specs.Ended.{EachAt, Ends, Gathered, HasEnded, HasGathered, HasLeft, first_names}
use Rattle.um_cpu.specs.declared.cpu.Cpu.{Cpu}
use Rattle.um_cpu.proofs.SplitOff.{each-but-last, the-last, with_seat}

-- What the first seat knows while this many others are out, when these are its log and those of the ones behind them.
pub record TakenIn (image : Image) (v : View) (cpus out : ℕ) (own : Log) (logs : List Log) : Type 0 where
  pub image_is : v.image ≡ image
  pub opening : AreOpening image v.opening
  pub filled : (i : ℕ) → 168 ≤ i → i < 309 → AmongCells v.filled i
  pub turn : v.turn ≡ None
  pub name : v.name ≡ []
  pub children : v.children ≡ first_names out
  pub count : out + length logs + 1 ≡ cpus
  pub names : (n : List ℕ) → Among v.joined n → (k : ℕ) × (k < cpus) × (n ≡ seat_name k)
  pub first : HasLeft image cpus v own.items 0
  pub left : (k : ℕ) → k < length logs → HasLeft image cpus v (log_at logs k) (suc (out + k))

-- the first processor, whose seat has taken in those behind
pub record TakesIn (image : Image) (board : TableId) (cpus out : ℕ) (c : Cpu) (logs : List Log) : Type 0 where
  pub here : c.place.seat.token.table_id ≡ board
  pub first : c.place.seat.first ≡ true
  pub split : c.place.seat.split + 1 ≡ cpus
  pub joined : c.place.seat.joined ≡ length logs
  pub knows : TakenIn image c.place.seat.token.me.0 cpus out c.place.log logs

-- The processors that are left, of which the first has taken in those that are not; these are the logs of those.
abbrev pub AreGathering : Image → TableId → ℕ → List Cpu → List Log → Type 0
AreGathering image board cpus [] logs = ⊥
AreGathering image board cpus (c ∷ others) logs = TakesIn image board cpus (length others) c logs × EachAt (λ k. Ends image board cpus (suc k)) others

cells-before : (xs ys : List ℕ) (i : ℕ) → AmongCells xs i → AmongCells (xs ++ ys) i
cells-before [] ys i among = absurd among
cells-before (x ∷ xs) ys i (inl is) = inl is
cells-before (x ∷ xs) ys i (inr rest) = inr (cells-before xs ys i rest)

-- what is seen among the first words that were got, and among the others
saw-before : (got more : List (ℕ × ℕ)) (steps : List FineStep) → SawQuiet got steps → SawQuiet (got ++ more) steps
saw-before got more steps saw =
    record { word = saw.word; seen = got-before got more SCHEDULER saw.word saw.seen; ready = saw.ready; running = saw.running; owed = saw.owed; newest = saw.newest }

saw-behind : (more got : List (ℕ × ℕ)) (steps : List FineStep) → SawQuiet got steps → SawQuiet (more ++ got) steps
saw-behind more got steps saw =
    record { word = saw.word; seen = got-behind more got SCHEDULER saw.word saw.seen; ready = saw.ready; running = saw.running; owed = saw.owed; newest = saw.newest }

-- the first seat before it takes in any
first-takes : (image : Image) (board : TableId) (cpus n : ℕ) (c : Cpu) → Ends image board cpus 0 c → n + 1 ≡ cpus → TakesIn image board cpus n c []
first-takes image board cpus n c ends all =
    let sits = ends.sits in
    let at = sits.place.seated in
    let v = c.place.seat.token.me.0 in
    let many : c.place.seat.split ≡ n = (let split = sits.split.split in omega (arith, split, all)) in
    let children : v.children ≡ first_names n = sits.split.children ∙ ap first_names many in
    record {
      here = sits.here;
      first = sits.split.first;
      split = sits.split.split;
      joined = sits.joined;
      knows = record {
        image_is = at.image_is;
        opening = sits.opening;
        filled = λ i low high. let from = at.first in let count = at.count in at.filled i (omega (arith, from, low), omega (arith, from, count, high));
        turn = at.idle;
        name = sits.name;
        children = children;
        count = omega (arith, all);
        names = λ m among. absurd (subst (λ (l : List (List ℕ × List Made)). Among l m) sits.lists among);
        first = record {
          steps = ends.steps;
          made = v.made;
          stands = refl;
          played = ends.made.played;
          saw = ends.saw;
          alone = λ one.
              let none : n ≡ 0 = omega (arith, one, all) in
              ends.made.chosen (record { name = sits.name; children = children ∙ ap first_names none; lists = sits.lists });
        };
        left = λ k less. absurd (omega (arith, less));
      };
    }

-- the seat of the last processor that is out is joined in
module _ (image : Image) (board : TableId) (cpus out : ℕ) (c d : Cpu) (logs : List Log) (takes : TakesIn image board cpus (suc out) c logs) (ends : Ends image board cpus (suc out) d) where
  abbrev v : View
  v = c.place.seat.token.me.0

  abbrev w : View
  w = d.place.seat.token.me.0

  abbrev more : List (List ℕ × List Made)
  more = (w.name, w.made) ∷ w.joined

  no-more : (m : List ℕ) → Among w.joined m → ⊥
  no-more m among = subst (λ (l : List (List ℕ × List Made)). Among l m) ends.sits.lists among

  pub joins-out : AmongNames v.children w.name
  joins-out = subst (λ (l : List (List ℕ)). AmongNames l w.name) (sym takes.knows.children) (inl (sym ends.sits.name))

  children-on : without w.name v.children ++ w.children ≡ first_names out
  children-on =
      (λ i. without (ends.sits.name i) (takes.knows.children i) ++ ends.sits.split.children i)
      ∙ (ap (λ b. cond b (first_names out) ((out ∷ []) ∷ without (out ∷ []) (first_names out)) ++ []) (same_itself (out ∷ [])) ∙ append-nil (first_names out))

  list-on : (k : ℕ) (made : List Made) → HasList v k made → HasList (joiner v w) k made
  list-on zero made has = has
  list-on (suc k) made has = stands-before v.joined more (k ∷ []) made has

  left-old : (log : List Logged) (k : ℕ) → HasLeft image cpus v log k → HasLeft image cpus (joiner v w) log k
  left-old log k left =
      record { steps = left.steps; made = left.made; stands = list-on k left.made left.stands; played = left.played; saw = saw-before v.got w.got left.steps left.saw; alone = left.alone }

  left-new : HasLeft image cpus (joiner v w) d.place.log.items (suc out)
  left-new =
      record {
        steps = ends.steps;
        made = w.made;
        stands = stands-behind v.joined more (out ∷ []) w.made (inl (ends.sits.name, refl));
        played = ends.made.played;
        saw = saw-behind v.got w.got ends.steps ends.saw;
        alone = λ one. let all = takes.knows.count in absurd (omega (arith, all, one));
      }

  left-at : (k : ℕ) → k < suc (length logs) → HasLeft image cpus (joiner v w) (log_at (d.place.log ∷ logs) k) (suc (out + k))
  left-at zero less =
      let same : out ≡ out + zero = omega arith in
      subst (λ (m : ℕ). HasLeft image cpus (joiner v w) d.place.log.items (suc m)) same left-new
  left-at (suc k) less =
      let same : suc out + k ≡ out + suc k = omega arith in
      subst (λ (m : ℕ). HasLeft image cpus (joiner v w) (log_at logs k) (suc m)) same (left-old (log_at logs k) (suc (suc out + k)) (takes.knows.left k (omega (arith, less))))

  taken-on : TakenIn image (joiner v w) cpus out c.place.log (d.place.log ∷ logs)
  taken-on =
      let was = takes.knows in
      record {
        image_is = was.image_is;
        opening = was.opening;
        filled = λ i low high. cells-before v.filled w.filled i (was.filled i low high);
        turn = was.turn;
        name = was.name;
        children = children-on;
        count = let all = was.count in omega (arith, all);
        names = λ m among. ⊎_elim (λ old. was.names m old)
            (λ new. ⊎_elim (λ is. (suc out, (let all = was.count in omega (arith, all)), sym is ∙ ends.sits.name)) (λ none. absurd (no-more m none)) new)
            (among-parts v.joined more m among);
        first = left-old c.place.log.items 0 was.first;
        left = left-at;
      }

  pub takes-on : (t own : Seat Known) → own ≡ d.place.seat → t.token.table_id ≡ c.place.seat.token.table_id → t.first ≡ c.place.seat.first → t.split ≡ c.place.seat.split + own.split
      → t.joined ≡ c.place.seat.joined + own.joined + 1 → t.token.me.0 ≡ joiner v own.token.me.0 → TakesIn image board cpus out (with_seat c t) (d.place.log ∷ logs)
  takes-on t own is-own here first split joined both =
      let none-split : own.split ≡ 0 = ap (λ (x : Seat Known). x.split) is-own ∙ ends.sits.split.split in
      let none-joined : own.joined ≡ 0 = ap (λ (x : Seat Known). x.joined) is-own ∙ ends.sits.joined in
      record {
        here = here ∙ takes.here;
        first = first ∙ takes.first;
        split = let was = takes.split in omega (arith, split, none-split, was);
        joined = let was = takes.joined in omega (arith, joined, none-joined, was);
        knows = subst (λ (x : View). TakenIn image x cpus out c.place.log (d.place.log ∷ logs)) (sym (both ∙ ap (λ (x : Seat Known). joiner v x.token.me.0) is-own)) taken-on;
      }

-- The processors of a list, of which the first has taken in the others.
module _ (image : Image) (board : TableId) (cpus : ℕ) where
  pub gathers-first : (items : List Cpu) → EachAt (Ends image board cpus) items → 1 ≤ length items → length items ≡ cpus → AreGathering image board cpus items []
  gathers-first [] each some all = absurd (omega (arith, some))
  gathers-first (c ∷ others) each some all = (first-takes image board cpus (length others) c (each 0 c (omega arith)) (omega (arith, all)), λ k d less. each (suc k) d (omega (arith, less)))

  -- the first of them and the last, where there are two at least
  pub ends-apart : (items : List Cpu) (first d : Cpu) (logs : List Log) → AreGathering image board cpus (items ++ d ∷ []) logs → 0 < length items → first ≡ slice_index_or items 0 first
      → (out : ℕ) × TakesIn image board cpus (suc out) first logs × Ends image board cpus (suc out) d
  ends-apart [] first d logs are some is = absurd (omega (arith, some))
  ends-apart (c ∷ others) first d logs are some is =
      let long : length (others ++ d ∷ []) ≡ suc (length others) = (let n = length-append others (d ∷ []) in omega (arith, n)) in
      let takes = subst (λ (m : ℕ). TakesIn image board cpus m c logs) long are.0 in
      (length others, subst (λ (x : Cpu). TakesIn image board cpus (suc (length others)) x logs) (sym is) takes, the-last (λ k. Ends image board cpus (suc k)) others d are.1)

  pub gathers-on : (items : List Cpu) (first d : Cpu) (logs : List Log) (t own : Seat Known) → AreGathering image board cpus (items ++ d ∷ []) logs → 0 < length items → first ≡ slice_index_or items 0 first
      → own ≡ d.place.seat → (t.token.table_id ≡ first.place.seat.token.table_id) × (t.first ≡ first.place.seat.first) → (t.split ≡ first.place.seat.split + own.split) × (t.joined ≡ first.place.seat.joined + own.joined + 1)
      → t.token.me.0 ≡ joiner first.place.seat.token.me.0 own.token.me.0 → AreGathering image board cpus (set items 0 (with_seat first t)) (d.place.log ∷ logs)
  gathers-on [] first d logs t own are some is is-own same counts both = absurd (omega (arith, some))
  gathers-on (c ∷ others) first d logs t own are some is is-own same counts both =
      let long : length (others ++ d ∷ []) ≡ suc (length others) = (let n = length-append others (d ∷ []) in omega (arith, n)) in
      let takes = subst (λ (x : Cpu). TakesIn image board cpus (suc (length others)) x logs) (sym is) (subst (λ (m : ℕ). TakesIn image board cpus m c logs) long are.0) in
      let ends = the-last (λ k. Ends image board cpus (suc k)) others d are.1 in
      (takes-on image board cpus (length others) first d logs takes ends t own is-own same.0 same.1 counts.0 counts.1 both, each-but-last (λ k. Ends image board cpus (suc k)) others d are.1)

-- The last one is the first processor, which has taken in all others.
has-gathered : (image : Image) (v : View) (cpus : ℕ) (own : Log) (logs : List Log) → TakenIn image v cpus 0 own logs → HasGathered image v cpus (own ∷ logs)
has-gathered image v cpus own logs taken =
    record {
      image_is = taken.image_is;
      opening = taken.opening;
      filled = taken.filled;
      turn = taken.turn;
      name = taken.name;
      count = let all = taken.count in omega (arith, all);
      names = taken.names;
      left = at;
    }
  where
    at : (k : ℕ) → k < cpus → HasLeft image cpus v (log_at (own ∷ logs) k) k
    at zero less = taken.first
    at (suc k) less =
        let same : 0 + k ≡ k = omega arith in
        let all = taken.count in
        subst (λ (m : ℕ). HasLeft image cpus v (log_at logs k) (suc m)) same (taken.left k (omega (arith, less, all)))

pub gathered : (image : Image) (board : TableId) (cpus : ℕ) (items rest : List Cpu) (c : Cpu) (logs : List Log) (own : Seat Known) (log : Log)
    → AreGathering image board cpus items (reverse logs) → items ≡ rest ++ c ∷ [] → length items ≤ 1 → own ≡ c.place.seat → log ≡ c.place.log
    → Gathered image board own cpus (reverse (logs ++ log ∷ []))
gathered image board cpus items (x ∷ rest) c logs own log are is one is-own is-log =
    let long = ap length is in
    let more = length-append rest (c ∷ []) in
    absurd (omega (arith, long, more, one))
gathered image board cpus items [] c logs own log are is one is-own is-log =
    let takes = (subst (λ (l : List Cpu). AreGathering image board cpus l (reverse logs)) is are).0 in
    let logs-are : reverse (logs ++ log ∷ []) ≡ c.place.log ∷ reverse logs = reverse-append logs (log ∷ []) ∙ ap (λ (l : Log). l ∷ reverse logs) is-log in
    subst (λ (s : Seat Known). Gathered image board s cpus (reverse (logs ++ log ∷ []))) (sym is-own) (
    record {
      here = takes.here;
      first = takes.first;
      whole_again = let split = takes.split in let joined = takes.joined in let all = takes.knows.count in omega (arith, split, joined, all);
      knows = subst (λ (l : List Log). HasGathered image c.place.seat.token.me.0 cpus l) (sym logs-are) (has-gathered image c.place.seat.token.me.0 cpus c.place.log (reverse logs) takes.knows);
    }
    )

-- all are taken in, and the board is closed
module _ (image : Image) (v : View) (cpus : ℕ) (board : Closed Known) (logs : List Log) (some : 0 < cpus) (seen : board.token.me.0 ≡ shadow_of v) (gathered : HasGathered image v cpus logs)
    (words : slots_len board.table.words ≡ 309) (slots : slots_len board.table.slots ≡ 141)
    (closed : IsClosedWithCells Opens Follows NextGoes v (slots_items board.table.words) (slots_items board.table.slots)) where
  abbrev Left : ℕ → List FineStep → Type 0
  Left k steps = ((made : List Made) × HasList v k made × Played image k made (log_at logs k) steps) × SawQuiet v.got steps × (cpus ≡ 1 → AreChosen image 1 steps)

  left-here : (k : ℕ) → k < cpus → (steps : List FineStep) × Left k steps
  left-here k less =
      let it = gathered.left k less in
      (it.steps, ((it.made, it.stands, it.played), it.saw, it.alone))

  has-ended : HasEnded image cpus board logs
  has-ended = let pick = chosen cpus Left left-here in
      record {
        view = v;
        seen = seen;
        words = words;
        slots = slots;
        steps = pick.0;
        played = record {
          image_is = gathered.image_is;
          opening = gathered.opening;
          filled = gathered.filled;
          closed = closed;
          some = some;
          first = gathered.name;
          names = gathered.names;
          lists = λ k less. (pick.1 k less).0;
          logs_are = gathered.count;
        };
        saw = λ k less. (pick.1 k less).1;
        alone = (pick.1 0 some).2;
      }

-- the same, where this many are all
pub all-ended : (image : Image) (v : View) (n cpus : ℕ) (board : Closed Known) (logs : List Log) → n ≡ cpus → 0 < cpus → board.token.me.0 ≡ shadow_of v → HasGathered image v n logs
    → slots_len board.table.words ≡ 309 → slots_len board.table.slots ≡ 141
    → IsClosedWithCells Opens Follows NextGoes v (slots_items board.table.words) (slots_items board.table.slots) → HasEnded image cpus board logs
all-ended image v n cpus board logs same some seen gathered words slots closed =
    subst (λ (m : ℕ). HasEnded image m board logs) same (has-ended image v n board logs (omega (arith, same, some)) seen gathered words slots closed)
