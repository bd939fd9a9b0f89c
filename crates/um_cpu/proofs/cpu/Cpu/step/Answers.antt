use Rattle.std.proofs.Common.{◌<◌, ◌≤◌, List, inl, inr, refl, subst, arith}
use Rattle.um_words.specs.declared.cell_word.CellWord.{CellWord}
use Rattle.um_processor.specs.Standing.{whole}
use Rattle.um_merge.specs.declared.logged.Logged.{Logged}
use Rattle.um_board.specs.Seated.{Unnoted}
use Rattle.um_board.proofs.Keeping.{unnoted-same}
use Rattle.um_cpu.specs.Cpus.{HasAsked, HasTended}
use Rattle.um_cpu.proofs.Advances.{looked-first, looks-on, stands-on}
use Rattle.um_cpu.proofs.Asks.{rested, saw-behind}
use Rattle.um_cpu.proofs.Runs.{runs-known}
use Rattle.um_cpu.proofs.cpu.Cpu.step.Goals as goal

pub ask-requires-then-says-gt0 : goal.ask-requires-then-says-gt0
ask-requires-then-says-gt0 c =
    let old = c.args.self.now in
    let looked = c.look_scheduler-word in
    let seen = looked.new.self in
    let unnoted = looked.ensures.unnoted in
    record {
      given = c.requires.given;
      described = c.requires.described;
      can = c.requires.can;
      place = looked.ensures.image;
      stands = stands-on c.args.image.now old.number (whole old.processor) (whole old.processor) old.place.seat old.place.log.items seen.seat seen.log.items c.requires.stands unnoted.keeps
          (looks-on c.args.image.now old.number (whole old.processor) (whole old.processor) old.place.seat old.place.log.items seen.seat seen.log.items unnoted refl);
    }

pub tend-requires-clause-can : goal.tend-requires-clause-can
tend-requires-clause-can c =
    let old = c.args.self.now in
    let looked = c.look_scheduler-word in
    let seen = looked.new.self in
    let unnoted = looked.ensures.unnoted in
    record {
      given = c.requires.given;
      described = c.requires.described;
      can = c.requires.can;
      place = looked.ensures.image;
      stands = stands-on c.args.image.now old.number (whole old.processor) (whole old.processor) old.place.seat old.place.log.items seen.seat seen.log.items c.requires.stands unnoted.keeps
          (looks-on c.args.image.now old.number (whole old.processor) (whole old.processor) old.place.seat old.place.log.items seen.seat seen.log.items unnoted refl);
    }

pub tend-requires-clause-saw : goal.tend-requires-clause-saw
tend-requires-clause-saw c =
    let old = c.args.self.now in
    let looked = c.look_scheduler-word in
    saw-behind old.place.seat looked.new.self.seat old.place.log.items looked.new.self.log.items 306 looked.result looked.ensures.unnoted looked.ensures.saw

pub returns-then-not-is_idle-clause-told : goal.returns-then-not-is_idle-clause-told
returns-then-not-is_idle-clause-told c = inl (c.is_idle.ensures.busy c.if-not-is_idle.true, c.ask.ensures.asked)

pub returns-then-says-gt0-clause-goes : goal.returns-then-says-gt0-clause-goes
returns-then-says-gt0-clause-goes c =
    let old = c.args.self.now in
    let seen = c.look_scheduler-word.new.self in
    let new = c.ask-then-says-gt0.new.self in
    looked-first c.args.image.now old.number (whole old.processor) (whole new.processor) old.place.seat old.place.log.items seen.seat seen.log.items new.place.seat new.place.log.items
    c.look_scheduler-word.ensures.unnoted c.ask-then-says-gt0.ensures.goes

pub returns-then-says-gt0-clause-told : goal.returns-then-says-gt0-clause-told
returns-then-says-gt0-clause-told c =
    let old = c.args.self.now in
    let looked = c.look_scheduler-word in
    let ready = subst (λ (w : CellWord). 0 < w.ready) c.read-says.ensures.value c.if-says-gt0.true in
    let new = c.ask-then-says-gt0.new.self in
    let asked = subst (λ (l : List Logged). HasAsked c.args.image.now old.number (whole old.processor) (whole new.processor) looked.new.self.seat l new.place.seat new.place.log.items)
    (λ i. (looked.ensures.log i).items)
    c.ask-then-says-gt0.ensures.asked in
    let unnoted = subst (λ (l : List Logged). Unnoted old.place.seat old.place.log.items looked.new.self.seat l) (λ i. (looked.ensures.log i).items) looked.ensures.unnoted in
    inr (inl (looked.new.self.seat, unnoted, record { word = looked.result; got = looked.ensures.got; newest = looked.ensures.newest; ready = ready }, asked))

pub returns-then-tend-clause-goes : goal.returns-then-tend-clause-goes
returns-then-tend-clause-goes c =
    let old = c.args.self.now in
    let seen = c.look_scheduler-word.new.self in
    let new = c.tend.new.self in
    looked-first c.args.image.now old.number (whole old.processor) (whole new.processor) old.place.seat old.place.log.items seen.seat seen.log.items new.place.seat new.place.log.items
    c.look_scheduler-word.ensures.unnoted c.tend.ensures.goes

pub returns-then-tend-clause-told : goal.returns-then-tend-clause-told
returns-then-tend-clause-told c =
    let image = c.args.image.now in
    let looked = c.look_scheduler-word in
    let new = c.tend.new.self in
    let value = c.read-says.ensures.value in
    let ready = subst (λ (w : CellWord). w.ready ≤ 0) value c.if-says-gt0.false in
    let owed = subst (λ (w : CellWord). 0 < w.owed) value c.if-says-gt0-2.true in
    let runs = runs-known image c.requires.described c.requires.can c.longest_fine_run.ensures c.every_fine_run.ensures.run c.every_fine_run.ensures.waits c.every_deadline.ensures in
    let waited = c.tend.ensures.waited c.if-tend.true in (
      rested image runs c.args.self.now c.requires.place c.requires.stands looked.new.self looked.result (c.is_idle.ensures.idle c.if-not-is_idle.false) looked.ensures.unnoted looked.ensures.got
          looked.ensures.newest looked.ensures.saw (omega (arith, ready)) (whole new.processor) new.place.seat new.place.log.items waited.0 waited.1 (λ some. waited.2),
      λ none. let zero = none.1 in absurd (omega (arith, zero, owed)),
    )

pub returns-then-says-gt0-2-clause-goes : goal.returns-then-says-gt0-2-clause-goes
returns-then-says-gt0-2-clause-goes c =
    let old = c.args.self.now in
    let seen = c.look_scheduler-word.new.self in
    let new = c.tend.new.self in
    looked-first c.args.image.now old.number (whole old.processor) (whole new.processor) old.place.seat old.place.log.items seen.seat seen.log.items new.place.seat new.place.log.items
    c.look_scheduler-word.ensures.unnoted c.tend.ensures.goes

pub returns-then-says-gt0-2-clause-told : goal.returns-then-says-gt0-2-clause-told
returns-then-says-gt0-2-clause-told c =
    let old = c.args.self.now in
    let looked = c.look_scheduler-word in
    let new = c.tend.new.self in
    let value = c.read-says.ensures.value in
    let ready = subst (λ (w : CellWord). w.ready ≤ 0) value c.if-says-gt0.false in
    let owed = subst (λ (w : CellWord). 0 < w.owed) value c.if-says-gt0-2.true in
    let tended = subst (λ (l : List Logged). HasTended c.args.image.now old.number (whole old.processor) (whole new.processor) looked.new.self.seat l new.place.seat new.place.log.items)
    (λ i. (looked.ensures.log i).items)
    (c.tend.ensures.tended c.if-tend.false) in
    let unnoted = subst (λ (l : List Logged). Unnoted old.place.seat old.place.log.items looked.new.self.seat l) (λ i. (looked.ensures.log i).items) looked.ensures.unnoted in
    inr (inr (looked.new.self.seat, unnoted, record { word = looked.result; got = looked.ensures.got; newest = looked.ensures.newest; none = omega (arith, ready); owed = owed }, tended))

pub returns-then-says-gt0-3-clause-goes : goal.returns-then-says-gt0-3-clause-goes
returns-then-says-gt0-3-clause-goes c =
    let old = c.args.self.now in
    let seen = c.look_scheduler-word.new.self in
    looks-on c.args.image.now old.number (whole old.processor) (whole old.processor) old.place.seat old.place.log.items seen.seat seen.log.items c.look_scheduler-word.ensures.unnoted refl

pub returns-then-says-gt0-3-clause-stands : goal.returns-then-says-gt0-3-clause-stands
returns-then-says-gt0-3-clause-stands c =
    let old = c.args.self.now in
    let seen = c.look_scheduler-word.new.self in
    stands-on c.args.image.now old.number (whole old.processor) (whole old.processor) old.place.seat old.place.log.items seen.seat seen.log.items c.requires.stands
    c.look_scheduler-word.ensures.unnoted.keeps
    (returns-then-says-gt0-3-clause-goes c)

pub returns-then-says-gt0-3-clause-told : goal.returns-then-says-gt0-3-clause-told
returns-then-says-gt0-3-clause-told c =
    let image = c.args.image.now in
    let old = c.args.self.now in
    let looked = c.look_scheduler-word in
    let seen = looked.new.self in
    let value = c.read-says.ensures.value in
    let ready = subst (λ (w : CellWord). w.ready ≤ 0) value c.if-says-gt0.false in
    let owed = subst (λ (w : CellWord). w.owed ≤ 0) value c.if-says-gt0-2.false in
    let running = subst (λ (w : CellWord). 0 < w.running) value c.if-says-gt0-3.true in
    let runs = runs-known image c.requires.described c.requires.can c.longest_fine_run.ensures c.every_fine_run.ensures.run c.every_fine_run.ensures.waits c.every_deadline.ensures in (
      rested image runs old c.requires.place c.requires.stands seen looked.result (c.is_idle.ensures.idle c.if-not-is_idle.false) looked.ensures.unnoted looked.ensures.got
          looked.ensures.newest looked.ensures.saw (omega (arith, ready)) (whole old.processor) seen.seat seen.log.items refl (unnoted-same seen.seat seen.log.items) (λ some. absurd (omega (arith, some, owed))),
      λ none. let zero = none.0 in absurd (omega (arith, zero, running)),
    )

pub returns-clause-goes : goal.returns-clause-goes
returns-clause-goes c =
    let old = c.args.self.now in
    let seen = c.look_scheduler-word.new.self in
    looks-on c.args.image.now old.number (whole old.processor) (whole old.processor) old.place.seat old.place.log.items seen.seat seen.log.items c.look_scheduler-word.ensures.unnoted refl

pub returns-clause-stands : goal.returns-clause-stands
returns-clause-stands c =
    let old = c.args.self.now in
    let seen = c.look_scheduler-word.new.self in
    stands-on c.args.image.now old.number (whole old.processor) (whole old.processor) old.place.seat old.place.log.items seen.seat seen.log.items c.requires.stands
    c.look_scheduler-word.ensures.unnoted.keeps
    (returns-clause-goes c)

pub returns-clause-told : goal.returns-clause-told
returns-clause-told c =
    let image = c.args.image.now in
    let old = c.args.self.now in
    let looked = c.look_scheduler-word in
    let seen = looked.new.self in
    let value = c.read-says.ensures.value in
    let ready = subst (λ (w : CellWord). w.ready ≤ 0) value c.if-says-gt0.false in
    let owed = subst (λ (w : CellWord). w.owed ≤ 0) value c.if-says-gt0-2.false in
    let running = subst (λ (w : CellWord). w.running ≤ 0) value c.if-says-gt0-3.false in
    let runs = runs-known image c.requires.described c.requires.can c.longest_fine_run.ensures c.every_fine_run.ensures.run c.every_fine_run.ensures.waits c.every_deadline.ensures in (
      rested image runs old c.requires.place c.requires.stands seen looked.result (c.is_idle.ensures.idle c.if-not-is_idle.false) looked.ensures.unnoted looked.ensures.got
          looked.ensures.newest looked.ensures.saw (omega (arith, ready)) (whole old.processor) seen.seat seen.log.items refl (unnoted-same seen.seat seen.log.items) (λ some. absurd (omega (arith, some, owed))),
      (omega (arith, running), omega (arith, owed)),
    )
