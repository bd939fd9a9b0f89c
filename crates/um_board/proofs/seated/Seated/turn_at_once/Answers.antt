use Rattle.std.proofs.Common.{rules, ◌≡◌, ℕ, ◌%◌, List, Option, Some, refl, subst, sym, ap, ◌∙◌}
use Rattle.um_base.specs.declared.image.Image.{Image}
use Rattle.um_merge.specs.declared.logged.Logged.{Logged}
use Rattle.um_site.specs.Calls.{SameSeat}
use Rattle.um_site.specs.Tells.{Took, returning}
use Rattle.um_site.specs.declared.seat.Seat.{Seat}
use Rattle.um_site.specs.declared.view.View.{View}
use Rattle.um_board.specs.Contents.{Follows, Known, Opens, known}
use Rattle.um_board.specs.Kept.{HasRoom}
use Rattle.um_board.specs.NextSteps.{NextGoes}
use Rattle.um_board.specs.Saw.{Hinders, OthersAt, SawCell}
use Rattle.um_board.specs.Seated.{Unnoted}
use Rattle.um_board.specs.Turned.{kind_of}
use Rattle.um_board.proofs.CellKinds.{in-turn, taken-known}
use Rattle.um_board.proofs.Keeping.{gave-turn, looked-at, taken-turn, unnoted-then}
use Rattle.um_board.proofs.Saws.{got-one}
use Rattle.um_board.proofs.seated.Seated.turn_at_once.Goals as goal

-- the turn was taken at some moment, when the cell had these contents
saw-at : (s t : Seat Known) (i w : ℕ) (c : Known) → w % 2 ≡ 0 → Took Opens Follows NextGoes s.token.me.0 i w (Some c) t.token.me.0 → SawCell s i w c
saw-at s t i w c free took =
    record { saw = record { view = s.token.me.0; of = record { image = refl; opening = refl; name = refl; made = refl; children = refl; lists = refl; filled = refl }; moment = took.moment }; free = free; contents = took.contents }

-- it was taken, and given back at once
took-none : (s t u : Seat Known) (i j w : ℕ) (c : Known) (log : List Logged) → SameSeat s t → Took Opens Follows NextGoes s.token.me.0 i w (Some c) t.token.me.0
    → SameSeat t u → u.token.me.0 ≡ returning t.token.me.0 j w t.token.me.0.filled → Unnoted s log u log
took-none s t u i j w c log same took back now =
    unnoted-then s t u log log log (taken-turn s t i w _ log same took.now) (gave-turn t u j w log back now)

pub returns-in-Err-clause-unnoted : goal.returns-in-Err-clause-unnoted
returns-in-Err-clause-unnoted g c = looked-at _ _ _ _ _ c.in-Err.ensures.same c.in-Err.ensures.told.1.2

pub returns-in-Err-clause-turn : goal.returns-in-Err-clause-turn
returns-in-Err-clause-turn g c =
    let told = c.in-Err.ensures.told in
    (search rules, Hinders.others (OthersAt.out _ c.requires.site.0 (got-one _ _ _ _ (ap (λ (v : View). v.got) told.1.2)) told.0))

pub returns-then-is_full-clause-unnoted : goal.returns-then-is_full-clause-unnoted
returns-then-is_full-clause-unnoted g c =
    let k = c.in-Ok.ensures in
    took-none c.args.self.now.seat c.take.new.seat _ _ _ _ _ _ k.same k.told.1 c.put_quiet.ensures.same c.put_quiet.ensures.told.1

pub returns-then-is_full-clause-turn : goal.returns-then-is_full-clause-turn
returns-then-is_full-clause-turn g c =
    let told = c.in-Ok.ensures.told in
    (search rules, Hinders.full _ (saw-at c.args.self.now.seat c.take.new.seat _ _ _ told.0 told.1).saw (c.is_full.ensures.full c.if-is_full.true))

pub returns-in-None-clause-unnoted : goal.returns-in-None-clause-unnoted
returns-in-None-clause-unnoted g c =
    let k = c.in-Ok.ensures in
    took-none c.args.self.now.seat c.take.new.seat _ _ _ _ _ _ k.same k.told.1 c.put_quiet-in-None.ensures.same c.put_quiet-in-None.ensures.told.1

pub returns-in-None-clause-turn : goal.returns-in-None-clause-turn
returns-in-None-clause-turn g c =
    let told = c.in-Ok.ensures.told in
    (search rules, Hinders.worn _ c.in-Ok.held.contents c.requires.site.0 (saw-at c.args.self.now.seat c.take.new.seat _ _ _ told.0 told.1) (λ n less same. c.in-None.ensures n less (same ∙ c.counts-counts.ensures n)))

pub out_of-cell-requires : goal.out_of-cell-requires
out_of-cell-requires g c =
    let s = c.requires.site in
    let k = c.in-Ok.ensures in
    let taken = taken-known c.args.image.now c.args.self.now.seat c.take.new.seat c.args.site _ _ _ c.requires.image.seated.image_is s.0 s.1 k.held.1 k.told.1.now in
    ap kind_of (sym c.into_kept.ensures.cell) ∙ (taken.1 ∙ s.2)

pub returns-in-Some-clause-unnoted : goal.returns-in-Some-clause-unnoted
returns-in-Some-clause-unnoted g c = taken-turn _ _ _ _ _ _ c.in-Ok.ensures.same c.in-Ok.ensures.told.1.now

pub returns-in-Some-clause-turn : goal.returns-in-Some-clause-turn
returns-in-Some-clause-turn g c =
    let image = c.args.image.now in
    let seat = c.args.self.now.seat in
    let held = c.in-Ok.held in
    let s = c.requires.site in
    let k = c.in-Ok.ensures in
    let p = c.requires.image in
    let taken = taken-known image seat c.take.new.seat c.args.site held.word held.contents _ p.seated.image_is s.0 s.1 k.held.1 k.told.1.now in
    let cell = g.K.Kind.cell c.of-before.result.value in
    let is : held.contents.cell ≡ cell = c.into_kept.ensures.cell ∙ (c.out_of-cell.ensures.cell ∙ ap g.K.Kind.cell (sym c.of-before.ensures)) in
    let whole : held.contents ≡ known image cell = (λ i. record { image = taken.0 i; cell = is i }) in (
      sym c.of-before.ensures,
      record {
        turn = in-turn image _ _ _ seat c.take.new.seat _ c.args.site held.word c.in-Some.number _ _ _ held.contents cell _ p s.0 s.1 k.same k.held.1 k.told.1.now k.slots c.in-Some.ensures.0 c.counts-counts.ensures c.in-Some.ensures.1 is;
        free = c.is_full.ensures.room c.if-is_full.false;
        got = got-one _ _ _ _ (ap (λ (v : View). v.got) k.told.1.now);
        saw = subst (λ (x : Known). SawCell seat c.args.site held.word x) whole (saw-at seat c.take.new.seat _ _ _ k.told.0 k.told.1);
        marks = subst (λ (x : Image × Option ℕ). HasRoom x.0 x.1) (λ i. (taken.0 i, (c.out_of-cell.ensures.room ∙ ap g.K.Kind.room (sym c.of-before.ensures)) i)) c.into_kept.ensures.room;
      },
    )
