-- Which step made an event, as far as the first letters of its text tell.
use Rattle.std.proofs.Common.{◌≡◌, ℕ, Bool, true, false, List, refl, sym, ap, ◌∙◌, if◌then◌else◌, take}
use Rattle.std.specs.Prelude.{bytes_eq, codes}
use Rattle.um_base.specs.declared.act.Act.{Act}
use Rattle.um_base.specs.declared.image.Image.{Image}
use Rattle.um_base.specs.declared.names.Access.TheVariants as Accesses
use Rattle.um_machine.specs.declared.pending.Pending.{Pending}
use Rattle.um_machine.specs.State.{State}
use Rattle.um_machine.specs.Memory.{allowed, bytes_at, le_value}
use Rattle.um_machine.specs.Table.{act_of}
use Rattle.um_trace.specs.Acts.{stop_act_text, time_act_text, thread_act_text, domain_act_text, pair_act_text, heap_act_text, object_act_text, wake_act_text, act_text}

-- drops, recycles and inheritances, steps of time, cuts, what tells of an end, and all others
pub data Mark : Type 0 where
  drops : Mark
  frees : Mark
  inherits : Mark
  ticks : Mark
  lates : Mark
  expires : Mark
  cuts : Mark
  tells : Mark
  others : Mark

abbrev pub mark_of : Act → Mark
mark_of (Act.DropPair who addr left) = drops
mark_of (Act.Recycle addr) = frees
mark_of (Act.Inherit who addr) = inherits
mark_of (Act.Tick now) = ticks
mark_of (Act.TimedOut who) = lates
mark_of (Act.Expire addr woken) = expires
mark_of (Act.Cut who) = cuts
mark_of (Act.Left who woken) = tells
mark_of act = others

abbrev pub mark_in : List ℕ → Mark
mark_in xs =
    let begins : List ℕ → Bool = λ word. bytes_eq (take 3 xs) word in
    if begins (codes "dro") then drops else if begins (codes "rec") then frees else if begins (codes "inh") then inherits
    else if begins (codes "tic") then ticks else if begins (codes "tim") then lates else if begins (codes "exp") then expires
    else if begins (codes "cut") then cuts else if begins (codes "lef") then tells else others

abbrev pub mark_step : Pending → Mark
mark_step (Pending.DropPair who a) = drops
mark_step (Pending.Drops from) = drops
mark_step (Pending.CleanPair who) = drops
mark_step Pending.Recycle = frees
mark_step (Pending.Inherit who) = inherits
mark_step Pending.Tick = ticks
mark_step (Pending.TimeOut who) = lates
mark_step Pending.Expire = expires
mark_step (Pending.Cut who) = cuts
mark_step Pending.Left = tells
mark_step p = others

-- whether a mark is that of a step of an instruction, which neither drops nor frees
abbrev pub is_own : Mark → Bool
is_own inherits = true
is_own others = true
is_own m = false

pub own-drops : (m : Mark) → is_own m ≡ true → m ≡ drops → ⊥
own-drops m h e = let bad : false ≡ true = sym (ap is_own e) ∙ h in cc

marked : (image : Image) (act : Act) → mark_in (act_text image act) ≡ mark_of act
unfolding act_text wake_act_text object_act_text heap_act_text pair_act_text domain_act_text thread_act_text time_act_text stop_act_text
marked image (Act.Begin script line) = refl
marked image act = refl

mark_if : (b : Bool) (x y : Act) → mark_of x ≡ others → mark_of y ≡ others → mark_of (if b then x else y) ≡ others
mark_if true x y h k = h
mark_if false x y h k = k

pub mark_made : (s : State) (t x : ℕ) (p : Pending) → mark_of (act_of s t x p) ≡ mark_step p
mark_made s t x (Pending.Load to a n) = mark_if (allowed s t Accesses.Read a.0 n) (Act.Load a n (le_value (bytes_at s a.0 n))) (Act.Fault Accesses.Read a n) refl refl
mark_made s t x (Pending.Store a n value) = mark_if (allowed s t Accesses.Write a.0 n) (Act.Store a n value) (Act.Fault Accesses.Write a n) refl refl
mark_made s t x (Pending.Fetch a) = mark_if (allowed s t Accesses.Exec a.0 4) (Act.Fetch a) (Act.Fault Accesses.Exec a 4) refl refl
mark_made s t x p = refl

-- acts with one text have one mark
pub same_mark : (image : Image) (a b : Act) → act_text image a ≡ act_text image b → mark_of a ≡ mark_of b
same_mark image a b e = sym (marked image a) ∙ ap mark_in e ∙ marked image b
