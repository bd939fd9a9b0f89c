-- The contents with which a cell opens are of the kind that its site has.
use Rattle.std.proofs.Common.{◌≡◌, ℕ, ◌-◌, ◌==◌, ◌<◌, ◌≤◌, Bool, true, false, nat_lt, if◌then◌else◌, refl, sym, ap, ◌∙◌, arith}
use Rattle.std.proofs.lemmas.Bool.{false≢true}
use Rattle.std.proofs.lemmas.Bool.Decides.{nat_tests}
use Rattle.um_base.specs.declared.image.Image.{Image}
use Rattle.um_machine.specs.Run.{opening}
use Rattle.um_machine.specs.State.{State}
use Rattle.um_words.specs.declared.kind.CellKind.{CellKind}
use Rattle.um_words.specs.Steps.{cell_kind_at}
use Rattle.um_fine.specs.Opening.{site_state}
use Rattle.um_fine.specs.Sites.{SiteState, site_numbered}
use Rattle.um_fine.specs.Steps.{Site}
use Rattle.um_board.specs.Contents.{Known, Opens}
use Rattle.um_board.specs.Turned.{cell_kind, kind_of}

kind_in : SiteState → CellKind
kind_in (SiteState.cell n c) = kind_of c
kind_in _ = CellKind.Unused

starts : (s : State) (site : Site) → kind_in (site_state s site) ≡ cell_kind site
unfolding kind_in
starts s (Site.row x) = refl
starts s (Site.thread t) = refl
starts s (Site.domain d) = refl
starts s (Site.object x) = refl
starts s (Site.parts d) = refl
starts s Site.memory = refl
starts s Site.heap = refl
starts s Site.scheduler = refl
starts s Site.clock = refl
starts s Site.joins = refl

numbered : (a b c d e m h s k j : Bool) (x t w o p : ℕ) → a ≡ false → b ≡ false → c ≡ false → (d ≡ false → e ≡ false → m ≡ false → h ≡ false → s ≡ false → k ≡ false → j ≡ true)
    → cell_kind
    (if a then Site.row x
    else if b then Site.thread t
    else if c then Site.domain w
    else if d then Site.object o
    else if e then Site.parts p
    else if m then Site.memory
    else if h then Site.heap
    else if s then Site.scheduler
    else if k then Site.clock
    else Site.joins)
    ≡ (if d then CellKind.Object
    else if e then CellKind.Domain
    else if m then CellKind.Memory
    else if h then CellKind.Heap
    else if s then CellKind.Scheduler
    else if k then CellKind.Clock
    else if j then CellKind.Join
    else CellKind.Unused)
numbered true b c d e m h s k j x t w o p no-a no-b no-c last = absurd (false≢true (sym no-a))
numbered false true c d e m h s k j x t w o p no-a no-b no-c last = absurd (false≢true (sym no-b))
numbered false false true d e m h s k j x t w o p no-a no-b no-c last = absurd (false≢true (sym no-c))
numbered false false false true e m h s k j x t w o p no-a no-b no-c last = refl
numbered false false false false true m h s k j x t w o p no-a no-b no-c last = refl
numbered false false false false false true h s k j x t w o p no-a no-b no-c last = refl
numbered false false false false false false true s k j x t w o p no-a no-b no-c last = refl
numbered false false false false false false false true k j x t w o p no-a no-b no-c last = refl
numbered false false false false false false false false true j x t w o p no-a no-b no-c last = refl
numbered false false false false false false false false false j x t w o p no-a no-b no-c last =
    sym (ap (λ (b : Bool). if b then CellKind.Join else CellKind.Unused) (last refl refl refl refl refl refl))

not-below : (i n : ℕ) → n ≤ i → nat_lt i n ≡ false
not-below i n h = grind (arith, nat_tests)

the-last : (i : ℕ) → i < 309 → nat_lt i 304 ≡ false → (i == 304) ≡ false → (i == 305) ≡ false → (i == 306) ≡ false → (i == 307) ≡ false → (i == 308) ≡ true
the-last i high a b c d e = grind (arith, nat_tests)

pub kind-opens : (image : Image) (i : ℕ) (c : Known) → 168 ≤ i → i < 309 → Opens image i c → kind_of c.cell ≡ cell_kind_at i
unfolding kind_in
kind-opens image i c low high o =
    let n = numbered (nat_lt i 128) (nat_lt i 160) (nat_lt i 168) (nat_lt i 296) (nat_lt i 304) (i == 304) (i == 305) (i == 306) (i == 307) (i == 308) i (i - 128) (i - 160) (i - 168) (i - 296)
    (not-below i 128 (omega arith)) (not-below i 160 (omega arith)) (not-below i 168 low)
    (λ d e m h s k. the-last i high e m h s k) in
    sym (ap kind_in o.first) ∙ (starts (opening image) (site_numbered i) ∙ n)
