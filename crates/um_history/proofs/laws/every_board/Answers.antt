use Rattle.std.specs.Prelude.{map}
use Rattle.um_words.specs.History.{by_seat}
use Rattle.um_board.specs.NextSteps.{seat_name}
use Rattle.um_board.specs.ReadBack.{fine_at}
use Rattle.um_history.proofs.AtMoment.{history, of-moment}
use Rattle.um_history.proofs.Fine.{is-fine-of}
use Rattle.um_history.proofs.Granted.{granted}
use Rattle.um_history.proofs.Moments.{all, own-steps}
use Rattle.um_history.proofs.Openings.{opens-well}
use Rattle.um_history.proofs.laws.every_board.Goals as goal

pub returns : goal.returns
returns c = λ image v i w described can m.
    let h = history image v i w m in
    let of = of-moment image v i w m in
    let g = all image 8 m.moment.words h of in
    let fine = is-fine-of image 8 m.moment.words h of can.few (opens-well image 8 described can) (granted image 8 described can) (λ k. map (fine_at k) (by_seat (seat_name k) h)) (λ k less. own-steps image 8 m.moment.words h of k) in
    let shows = c.every_fine_run.ensures.run image 8 g described fine.run in
    (g, fine, c.longest_fine_run.ensures image 8 g described can.few fine.run, shows.0, shows.1, shows.2, (λ x few. (shows.2.rows x few).claims.claimed), λ x few. c.last_holder.ensures.cleaner image 8 g described fine.run x few)
