use Rattle.std.proofs.Common.{refl, subst}
use Rattle.um_board.specs.Opening.{IsFirstWord}
use Rattle.um_board.proofs.FirstWords.{thread-fits, thread-here, thread-packed}
use Rattle.um_board.proofs.first_words.thread_word.Goals as goal

pub pack-requires : goal.pack-requires
pack-requires c = let a = c.args in let r = c.requires in
    thread-fits a.image.now a.thread _ r.lawful r.few r.site.0 (thread-here a.image.now a.threads.now a.thread _ _ r.threads r.all r.site.0 refl)

pub returns : goal.returns
returns c = let a = c.args in let r = c.requires in
    subst (λ n. IsFirstWord a.image.now n c.pack.result) r.site.1
    (thread-packed a.image.now a.thread c.pack.result _ c.pack.ensures.back c.pack.ensures.value r.site.0 (thread-here a.image.now a.threads.now a.thread _ _ r.threads r.all r.site.0 refl))
