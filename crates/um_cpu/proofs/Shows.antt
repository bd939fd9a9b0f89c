-- What the logs of processors that have played say of a list of their steps: each step is at a site, its events are those of a fine run, and that run is
-- what the closed board has.
use Rattle.std.proofs.Common.{◌≡◌, ℕ, zero, suc, ◌<◌, ◌≤◌, Bool, true, false, List, [], ◌∷◌, length, map, refl, sym, ap, ◌∙◌, subst, arith, cond, eq-eqb}
use Rattle.std.specs.Prelude.{IsTrue, Option}
use Rattle.std.specs.Mem.Slots.{slots_items}
use Rattle.um_base.specs.declared.image.Image.{Image}
use Rattle.um_base.specs.declared.limits.TheConstants.{DOMAINS, STATIC_ROWS}
use Rattle.um_base.specs.Lawful.{IsLawful}
use Rattle.um_invariants.specs.Described.{IsDescribed}
use Rattle.um_fine.specs.FineRun.{cpu_of, same_cpu}
use Rattle.um_fine.specs.Runs.{sub, sublist}
use Rattle.um_fine.specs.Sites.{is_site}
use Rattle.um_fine.specs.Steps.{FineStep}
use Rattle.um_refinement.specs.Choice.{AreChosen}
use Rattle.um_refinement.specs.Room.{CanRun}
use Rattle.um_fine.proofs.Keys.{number-bound}
use Rattle.um_core.specs.PickedRun.{IsOver}
use Rattle.um_merge.specs.Logs.{Log}
use Rattle.um_merge.specs.Merged.{AreAtSites, ArePlaced, log_at}
use Rattle.um_words.specs.declared.made.Made.{Made}
use Rattle.um_site.specs.History.{Among, Distinct, shadow_of}
use Rattle.um_site.specs.declared.closed.Closed.{Closed}
use Rattle.um_site.specs.declared.view.View.{View}
use Rattle.um_board.specs.Contents.{Known}
use Rattle.um_board.specs.Noted.{logged_of, made_of}
use Rattle.um_history.specs.Fine.{IsFineOf}
use Rattle.um_history.specs.Left.{AreLeft}
use Rattle.um_history.specs.Played.{Each, HasList, IsPlayed}
use Rattle.um_history.proofs.Played.{list-of, of-played}
use Rattle.um_cpu.specs.OnBoard.{HasRun}

-- a lawful image with as many objects and domains as its lists allow is described, and this many processors can run it
pub runs-on : (image : Image) (cpus : ℕ) {objects domains : ℕ} → IsLawful image → objects ≡ length image.objects → objects ≤ STATIC_ROWS → domains ≡ length image.domains → domains ≤ DOMAINS
    → 1 ≤ cpus → cpus ≤ 8 → IsDescribed image × CanRun image cpus
runs-on image cpus lawful objects most domains all some few = (
  record { lawful = lawful; few = omega (arith, objects, most) },
  record { domains = omega (arith, domains, all); some = omega (arith, some); few = few },
)

abbrev Sited : FineStep → Type 0
Sited e = IsTrue (is_site e.site)

-- each step of a sublist is at a site where each of the list is
sited-sub : (p : FineStep → Bool) (g : List FineStep) → Each Sited g → Each Sited (sub p g)
sited-sub p [] e = tt
sited-sub p (x ∷ xs) e = elim (p x) as (λ b. Each Sited (cond b (x ∷ sub p xs) (sub p xs))) [ true ↦ (e.0, sited-sub p xs e.1) | false ↦ sited-sub p xs e.1 ]

noted-placed : (g : List FineStep) → Each Sited g → ArePlaced (map logged_of g)
noted-placed [] e k less = absurd (omega (arith, less))
noted-placed (x ∷ xs) e zero less = let bound = number-bound x.site e.0 in omega (arith, bound)
noted-placed (x ∷ xs) e (suc k) less = noted-placed xs e.1 k (omega (arith, less))

-- each step of a log is at a site
pub at-sites : (image : Image) (cpus : ℕ) (v : View) (words : List ℕ) (slots : List (Option Known)) (logs : List Log) (steps : ℕ → List FineStep) → IsPlayed image cpus v words slots logs steps
    → (g : List FineStep) → IsFineOf image cpus words steps g → AreAtSites logs
at-sites image cpus v words slots logs steps played g fine k there =
    let less : k < cpus = (let same = played.logs_are in omega (arith, same, there)) in
    let log : map logged_of (sublist same_cpu cpu_of k g) ≡ log_at logs k = ap (map logged_of) (fine.own k less) ∙ sym (played.lists k less).2.log_is in
    subst ArePlaced log (noted-placed (sublist same_cpu cpu_of k g) (sited-sub (λ (e : FineStep). same_cpu e.cpu k) g fine.sited))

-- a step is the first processor's where no other has it
cpu-first : (k : ℕ) (x : FineStep) (others : ℕ → List FineStep) → x.cpu ≡ k → ((j : ℕ) → cond (same_cpu x.cpu (suc j)) (x ∷ others j) (others j) ≡ []) → x.cpu ≡ 0
cpu-first zero x others is none = is
cpu-first (suc k) x others is none =
    let here : x ∷ others k ≡ [] = sym (ap (λ b. cond b (x ∷ others k) (others k)) (eq-eqb x.cpu (suc k) is)) ∙ none k in
    absurd (cc)

none-behind : (b : Bool) (x : FineStep) (xs : List FineStep) → cond b (x ∷ xs) xs ≡ [] → xs ≡ []
none-behind true x xs none = absurd (cc)
none-behind false x xs none = none

-- where all steps are the first processor's, they are its sublist
all-first : (g : List FineStep) → ((j : ℕ) → sublist same_cpu cpu_of (suc j) g ≡ []) → sublist same_cpu cpu_of 0 g ≡ g
all-first [] none = refl
all-first (x ∷ xs) none =
    let yes = eq-eqb x.cpu 0 (cpu-first x.cpu x (λ j. sublist same_cpu cpu_of (suc j) xs) refl none) in
    ap (λ b. cond b (x ∷ sublist same_cpu cpu_of 0 xs) (sublist same_cpu cpu_of 0 xs)) yes
    ∙ ap (λ (l : List FineStep). x ∷ l) (all-first xs (λ j. none-behind (same_cpu x.cpu (suc j)) x (sublist same_cpu cpu_of (suc j) xs) (none j)))

-- the list under a processor's name stays where the seat is closed
list-closed : (v : View) (k : ℕ) (made : List Made) → HasList v k made → HasList (shadow_of v) k made
list-closed v zero made has = has
list-closed v (suc k) made has = has

-- the closed board has the fine run that has the steps of each processor
pub left-on : (image : Image) (cpus : ℕ) (closed : Closed Known) (v : View) (logs : List Log) (steps : ℕ → List FineStep) → closed.token.me.0 ≡ shadow_of v
    → IsPlayed image cpus v (slots_items closed.table.words) (slots_items closed.table.slots) logs steps → (cpus ≡ 1 → AreChosen image 1 (steps 0)) → (g : List FineStep)
    → IsFineOf image cpus (slots_items closed.table.words) steps g → IsOver image cpus g → AreLeft image (slots_items closed.table.words) (slots_items closed.table.slots) g
    → HasRun image cpus closed g
left-on image cpus closed v logs steps seen played chosen g fine over left =
    record {
      image_is = ap (λ (w : View). w.image) seen ∙ played.image_is;
      run = fine.run;
      over = over;
      on_board =
          record {
            history = played.closed.history;
            of = of-played image cpus v (slots_items closed.table.words) (slots_items closed.table.slots) logs steps played;
            made = λ k less.
                list-of image cpus v (slots_items closed.table.words) (slots_items closed.table.slots) logs steps played k less ∙ ap (map made_of) (sym (fine.own k less));
          };
      some = played.some;
      lists = λ k less.
          let (made, stands, own) = played.lists k less in
          let same : made ≡ map made_of (sublist same_cpu cpu_of k g) = own.made_is ∙ ap (map made_of) (sym (fine.own k less)) in
          subst (λ (w : View). HasList w k (map made_of (sublist same_cpu cpu_of k g))) (sym seen)
          (list-closed v k (map made_of (sublist same_cpu cpu_of k g)) (subst (HasList v k) same stands));
      others = λ n among. played.names n (subst (λ (l : List (List ℕ × List Made)). Among l n) (ap (λ (w : View). w.joined) seen) among);
      once = subst Distinct (sym (ap (λ (w : View). w.joined) seen)) played.closed.tidy.distinct;
      first = ap (λ (w : View). w.name) seen ∙ played.first;
      alone = λ one. subst (AreChosen image 1) (sym (fine.own 0 played.some) ∙ all-first g (λ j. fine.others (suc j) (omega (arith, one)))) (chosen one);
      numbered = fine.numbered;
      words_are = fine.words_are;
      left = left;
    }
