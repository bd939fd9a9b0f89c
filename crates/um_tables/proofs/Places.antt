-- The scheduler's contents where one of its places changes.
use Rattle.std.proofs.Common.{◌≡◌, ◌<◌, ℕ, ℤ, ◌+◌, Bool, true, false, List, [], ◌∷◌, Option, Some, None, IsTrue, ap, sym, subst, ◌∙◌, map, length, remove, slice_get, slice_index_or, slice_set, is_some, unwrap_or, nat_lt, ◌&&◌}
use Rattle.std.proofs.lemmas.List.{get_or-map, map-set}
use Rattle.std.proofs.lemmas.Bool.{false≢true, lt-ltb}
use Rattle.std.proofs.Math.Seq.{map-set_same}
use Rattle.um_base.specs.declared.ask.Told.{Told}
use Rattle.um_fine.specs.Context.{Context, no_context}
use Rattle.um_fine.specs.Steps.{Exchange}
use Rattle.um_fine.specs.Scheduler.{Scheduler, behind, first_ready, first_taken, has_ready, put_back, to_kill}
use Rattle.um_fine.specs.Scheduler as Contents
use Rattle.um_tables.specs.Parked.{Parked, awake, context_at, cut_at, priority_at, scheduler_of, some_if, stopped, told_at}

-- the contents with these parts
abbrev of_parts : List ℕ → List (Option Context) → List (Option Told) → List ℤ → List Bool → (running owed : ℕ) → Scheduler
of_parts ready parked told priorities cuts running owed =
    record { ready = ready; parked = parked; told = told; priorities = priorities; cuts = cuts; running = running; owed = owed }

-- a thread was put at the place of its index
pub put-back : (r ready : List ℕ) (places : List Parked) (running owed t : ℕ) (x y : Parked) (c : Context) (b : Bool)
    → x ≡ slice_index_or places t x → y ≡ record x { context = Some c; priority = c.priority } → t ≡ c.thread → ready ≡ behind b t r
    → scheduler_of ready (slice_set places t y) running owed ≡ put_back (scheduler_of r places running owed) b c
put-back r ready places running owed t x y c b here is own joined =
    let told-same : map told_at (slice_set places t y) ≡ map told_at places = map-set_same told_at places t y x (ap told_at is ∙ ap told_at here) in
    let put : map context_at (slice_set places t y) ≡ slice_set (map context_at places) t (Some c) =
    map-set context_at places t y ∙ ap (λ (p : Parked). slice_set (map context_at places) t p.context) is in
    let noted : map priority_at (slice_set places t y) ≡ slice_set (map priority_at places) t c.priority =
    map-set priority_at places t y ∙ ap (λ (p : Parked). slice_set (map priority_at places) t p.priority) is in
    let cut-same : map cut_at (slice_set places t y) ≡ map cut_at places = map-set_same cut_at places t y x (ap cut_at is ∙ ap cut_at here) in
    (λ i. of_parts (joined i) (put i) (told-same i) (noted i) (cut-same i) running owed)
    ∙ ap (λ (u : ℕ). of_parts (behind b u r) (slice_set (map context_at places) u (Some c)) (map told_at places) (slice_set (map priority_at places) u c.priority) (map cut_at places) running owed) own

-- the place of a thread was told something
pub told-at-place : (r ready : List ℕ) (places : List Parked) (running owed t : ℕ) (x y : Parked) (told : Told) (b : Bool)
    → x ≡ slice_index_or places t x → y ≡ record x { told = Some told } → ready ≡ behind b t r
    → scheduler_of ready (slice_set places t y) running owed ≡ awake (scheduler_of r places running owed) b t told
told-at-place r ready places running owed t x y told b here is joined =
    let same : map context_at (slice_set places t y) ≡ map context_at places = map-set_same context_at places t y x (ap context_at is ∙ ap context_at here) in
    let noted : map priority_at (slice_set places t y) ≡ map priority_at places = map-set_same priority_at places t y x (ap priority_at is ∙ ap priority_at here) in
    let put : map told_at (slice_set places t y) ≡ slice_set (map told_at places) t (Some told) =
    map-set told_at places t y ∙ ap (λ (p : Parked). slice_set (map told_at places) t p.told) is in
    let cut-same : map cut_at (slice_set places t y) ≡ map cut_at places = map-set_same cut_at places t y x (ap cut_at is ∙ ap cut_at here) in
    λ i. of_parts (joined i) (same i) (put i) (noted i) (cut-same i) running owed

-- the thread of a place was cut
pub cut-at-place : (r ready : List ℕ) (places : List Parked) (running owed t : ℕ) (x y : Parked) (b : Bool)
    → x ≡ slice_index_or places t x → y ≡ record x { cut = true } → ready ≡ behind b t r
    → scheduler_of ready (slice_set places t y) running owed ≡ stopped (scheduler_of r places running owed) b t
cut-at-place r ready places running owed t x y b here is joined =
    let same : map context_at (slice_set places t y) ≡ map context_at places = map-set_same context_at places t y x (ap context_at is ∙ ap context_at here) in
    let told-same : map told_at (slice_set places t y) ≡ map told_at places = map-set_same told_at places t y x (ap told_at is ∙ ap told_at here) in
    let noted : map priority_at (slice_set places t y) ≡ map priority_at places = map-set_same priority_at places t y x (ap priority_at is ∙ ap priority_at here) in
    let put : map cut_at (slice_set places t y) ≡ slice_set (map cut_at places) t true =
    map-set cut_at places t y ∙ ap (λ (p : Parked). slice_set (map cut_at places) t p.cut) is in
    λ i. of_parts (joined i) (same i) (told-same i) (noted i) (put i) running owed

-- what a place says, and what the scheduler's contents say of it
pub told-there : (ready : List ℕ) (places : List Parked) (running owed t : ℕ) (x : Parked) → x ≡ slice_index_or places t x → t < length places → Contents.told_at (scheduler_of ready places running owed) t ≡ x.told
told-there ready places running owed t x here short = get_or-map told_at places t x None short ∙ sym (ap told_at here)

pub parked-there : (ready : List ℕ) (places : List Parked) (running owed t : ℕ) (x : Parked) → x ≡ slice_index_or places t x → t < length places → Contents.parked_at (scheduler_of ready places running owed) t ≡ x.context
parked-there ready places running owed t x here short = get_or-map context_at places t x None short ∙ sym (ap context_at here)

pub cut-there : (ready : List ℕ) (places : List Parked) (running owed t : ℕ) (x : Parked) → x ≡ slice_index_or places t x → t < length places → Contents.is_cut (scheduler_of ready places running owed) t ≡ x.cut
cut-there ready places running owed t x here short = get_or-map cut_at places t x false short ∙ sym (ap cut_at here)

-- the first thread of the ready list was taken from its place
pub first-taken : (r ready : List ℕ) (places : List Parked) (running owed t : ℕ) (x y : Parked) (c : Context) (woken : Bool) (told : Told)
    → slice_get r 0 ≡ Some t → ready ≡ remove r 0 → x ≡ slice_index_or places t x → t < length places → running < 255
    → IsTrue (is_some x.context) → y ≡ record x { context = None; told = None; cut = false } → c ≡ to_kill x.cut (unwrap_or x.context no_context)
    → some_if woken told ≡ x.told
    → let s = scheduler_of r places running owed in
    IsTrue (has_ready s s.ready) × (scheduler_of ready (slice_set places t y) (running + 1) owed ≡ first_taken s s.ready)
    × (first_ready s s.ready ≡ Exchange.thread c (some_if woken told))
first-taken [] ready places running owed t x y c woken told first rest here short few there left is said = absurd (false≢true (ap (λ (o : Option ℕ). is_some o) first))
first-taken (u ∷ r) ready places running owed t x y c woken told first rest here short few there left is said =
    subst (λ (z : ℕ). let s = scheduler_of (u ∷ r) places running owed in
    IsTrue (has_ready s (z ∷ r)) × (scheduler_of ready (slice_set places t y) (running + 1) owed ≡ first_taken s (z ∷ r)) × (first_ready s (z ∷ r) ≡ Exchange.thread c (some_if woken told)))
    (sym (ap (λ (o : Option ℕ). unwrap_or o 0) first))
    (let s = scheduler_of (u ∷ r) places running owed in
    let at = parked-there (u ∷ r) places running owed t x here short in
    let woken-is = told-there (u ∷ r) places running owed t x here short in
    let cut-is = cut-there (u ∷ r) places running owed t x here short in (
      ap (λ (o : Option Context). is_some o && nat_lt running 255) at ∙ ap (λ (b : Bool). b && nat_lt running 255) there ∙ lt-ltb running 255 few,
      (let taken : map context_at (slice_set places t y) ≡ slice_set (map context_at places) t None =
          map-set context_at places t y ∙ ap (λ (p : Parked). slice_set (map context_at places) t p.context) left in
          let heard : map told_at (slice_set places t y) ≡ slice_set (map told_at places) t None =
          map-set told_at places t y ∙ ap (λ (p : Parked). slice_set (map told_at places) t p.told) left in
          let freed : map cut_at (slice_set places t y) ≡ slice_set (map cut_at places) t false =
          map-set cut_at places t y ∙ ap (λ (p : Parked). slice_set (map cut_at places) t p.cut) left in
          let noted : map priority_at (slice_set places t y) ≡ map priority_at places = map-set_same priority_at places t y x (ap priority_at left ∙ ap priority_at here) in
          λ i. of_parts (rest i) (taken i) (heard i) (noted i) (freed i) (running + 1) owed),
      ap (λ (o : Option Context). Exchange.thread (to_kill (Contents.is_cut s t) (unwrap_or o no_context)) (Contents.told_at s t)) at
          ∙ ap (λ (o : Option Told). Exchange.thread (to_kill (Contents.is_cut s t) (unwrap_or x.context no_context)) o) (woken-is ∙ sym said)
          ∙ ap (λ (b : Bool). Exchange.thread (to_kill b (unwrap_or x.context no_context)) (some_if woken told)) cut-is
          ∙ ap (λ (d : Context). Exchange.thread d (some_if woken told)) (sym is),
    ))
