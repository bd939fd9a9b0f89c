-- A processor after its last turn.
use Rattle.std.proofs.Common.{◌≡◌, ℕ, zero, suc, ◌+◌, [], sym, ap, ◌∙◌, subst}
use Rattle.atomic_table.specs.Seated.{TableId}
use Rattle.um_base.specs.declared.image.Image.{Image}
use Rattle.um_processor.specs.Standing.{whole}
use Rattle.um_site.specs.declared.seat.Seat.{Seat}
use Rattle.um_board.specs.Contents.{Known}
use Rattle.um_board.specs.Opening.{AreOpening}
use Rattle.um_board.specs.Seated.{KeepsPlace, KeptPlace}
use Rattle.um_board.specs.Turned.{IsPlaced}
use Rattle.um_cpu.specs.Cpus.{HasMade, Plays}
use Rattle.um_cpu.specs.Ended.{Begins, Ends, HasSplit, first_names}
use Rattle.um_cpu.specs.declared.cpu.Cpu.{Cpu}
use Rattle.um_cpu.proofs.Advances.{has-none}

-- what it has split off stays
split-kept : (cpus k : ℕ) (s t : Seat Known) → KeepsPlace s t → HasSplit k s cpus → HasSplit k t cpus
split-kept cpus zero s t keeps has =
    let split = ap (λ (p : KeptPlace). p.split) keeps in
    record {
      first = ap (λ (p : KeptPlace). p.first) keeps ∙ has.first;
      split = ap (λ m. m + 1) split ∙ has.split;
      splits = ap (λ (p : KeptPlace). p.splits) keeps ∙ (has.splits ∙ sym split);
      children = ap (λ (p : KeptPlace). p.children) keeps ∙ (has.children ∙ sym (ap first_names split));
    }
split-kept cpus (suc k) s t keeps has = record { split = ap (λ (p : KeptPlace). p.split) keeps ∙ has.split; children = ap (λ (p : KeptPlace). p.children) keeps ∙ has.children }

pub ends-there : (image : Image) (board : TableId) (cpus k : ℕ) (c d : Cpu) → Begins image board cpus k c → d.number ≡ c.number
    → IsPlaced image d.place.board.now.table.shared.table_id d.place.cells.now d.place.rodata.now d.place.seat d.place.log.room → KeepsPlace c.place.seat d.place.seat
    → Plays image c.number (whole c.processor) c.place.seat c.place.log.items (whole d.processor) d.place.seat d.place.log.items → Ends image board cpus k d
ends-there image board cpus k c d begins number place keeps plays =
    let all = plays [] (has-none image c.number (whole c.processor) c.place.seat c.place.log.items begins.idle_is begins.made begins.log) in
    let sits = begins.sits in
    record {
      sits = record {
        number = number ∙ sits.number;
        place = place;
        here = ap (λ (p : KeptPlace). p.board) keeps ∙ sits.here;
        name = ap (λ (p : KeptPlace). p.name) keeps ∙ sits.name;
        opening = subst (λ (p : KeptPlace). AreOpening image p.opening) (sym keeps) sits.opening;
        split = split-kept cpus k c.place.seat d.place.seat keeps sits.split;
        joined = ap (λ (p : KeptPlace). p.joined) keeps ∙ sits.joined;
        lists = ap (λ (p : KeptPlace). p.lists) keeps ∙ sits.lists;
      };
      steps = all.0;
      made = subst (λ (m : ℕ). HasMade image m (whole d.processor) d.place.seat d.place.log.items all.0) sits.number all.1;
      saw = all.2;
    }
