-- A step that is lawful at the state that tables have at its site is made there, with its event in the log. A step that is refused there
-- isn't made.
use Rattle.std.proofs.Common.{◌≡◌, ℕ, List, subst}
use Rattle.um_base.specs.declared.act.Event.{Event}
use Rattle.um_base.specs.declared.image.Image.{Image}
use Rattle.um_fine.specs.Steps.{FineStep}
use Rattle.um_fine.specs.Sites.{SiteState, filled}
use Rattle.um_tables.specs.Asked.{Refuses, Takes, event_of}
use Rattle.um_tables.specs.Sited.{IsSeen, IsShut, Sited, WasMade, logged, state_at, with_state}

-- the tables are seen as p, which is what they were
pub taken : (image : Image) (old p : Sited) → p ≡ old → (e : FineStep) (s z : SiteState) → s ≡ state_at p e.site → Takes image s e z
    → (log : List Event) (most : ℕ) → log ≡ logged p.log (event_of e.act) → most ≡ p.most
    → WasMade image old e (with_state (record p { log = log; most = most }) e.site z)
taken image old p v e s z h t log most l m =
    let u = subst (λ (r : SiteState). Takes image r e z) h t in
    subst (λ (o : Sited). WasMade image o e (with_state (record p { log = log; most = most }) e.site z)) v
    (record { may = u.may; leaves = λ i. with_state (record p { log = l i; most = m i }) e.site (u.leaves i) })

pub refused : (image : Image) (old p : Sited) → p ≡ old → (e : FineStep) (s : SiteState) → s ≡ state_at p e.site
    → Refuses s e → filled image s e ≡ e → IsSeen s e.act → IsShut image (state_at old e.site) e
refused image old p v e s h r f b =
    let shut : IsShut image s e = record { refuses = r; filled_in = f; seen = b } in
    subst (λ (o : Sited). IsShut image (state_at o e.site) e) v (subst (λ (t : SiteState). IsShut image t e) h shut)
