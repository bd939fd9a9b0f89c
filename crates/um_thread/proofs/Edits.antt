-- What the body that steps a domain's word makes of a call that the word takes is the call's step.
use Rattle.std.proofs.Common.{◌≡◌, ℕ, Bool, true, false, refl, None, Some}
use Rattle.std.specs.Prelude.{IsTrue, ◌&&◌}
use Rattle.um_base.specs.declared.act.Act.{Act}
use Rattle.um_base.specs.declared.names.ThreadIx.{ThreadIx}
use Rattle.um_words.specs.declared.dom_word.DomWord.{DomWord}
use Rattle.um_words.specs.DomainActs.{domain_act as act_of_word}
use Rattle.um_words.specs.Domains.{writes}
use Rattle.um_site.specs.Calls.{shown}
use Rattle.um_thread.specs.declared.domains.DomainCall.{DomainCall}
use Rattle.um_thread.specs.Acts.{asked_edit, asked_of_domain, domain_act, fits_domain, is_edit_of}

-- what is asked by an edit is that edit
edit-asked : (by : ThreadIx) (d : ℕ) (edit : Act) → is_edit_of d edit ≡ true → act_of_word (asked_edit by edit) ≡ shown by edit
edit-asked by d (Act.Begin script line) e = absurd (cc)
edit-asked by d (Act.Check addr kind want verdict) e = absurd (cc)
edit-asked by d (Act.Load addr size value) e = absurd (cc)
edit-asked by d (Act.Store addr size value) e = absurd (cc)
edit-asked by d (Act.Fetch addr) e = absurd (cc)
edit-asked by d (Act.Fault access addr size) e = absurd (cc)
edit-asked by d (Act.Probe addr size fits) e = absurd (cc)
edit-asked by d (Act.CopyIn addr size fits) e = absurd (cc)
edit-asked by d (Act.CopyOut addr size fits) e = absurd (cc)
edit-asked by d (Act.CopyStr addr found) e = absurd (cc)
edit-asked by d (Act.Erase stack) e = absurd (cc)
edit-asked by d (Act.Work addr answer woken) e = absurd (cc)
edit-asked by d Act.Resume e = absurd (cc)
edit-asked by d (Act.Answered reply) e = absurd (cc)
edit-asked by d (Act.Grant who addr given) e = absurd (cc)
edit-asked by d (Act.Own who given) e = absurd (cc)
edit-asked by d (Act.Inherit who addr) e = absurd (cc)
edit-asked by d (Act.DropPair who addr left) e = absurd (cc)
edit-asked by d (Act.Publish addr given) e = absurd (cc)
edit-asked by d (Act.SetInit addr set) e = absurd (cc)
edit-asked by d (Act.ClearInit addr) e = absurd (cc)
edit-asked by d (Act.Named who) e = absurd (cc)
edit-asked by d (Act.Reserve kind addr) e = absurd (cc)
edit-asked by d (Act.Born addr) e = absurd (cc)
edit-asked by d (Act.Buffer size fits) e = absurd (cc)
edit-asked by d (Act.Unbuffer size) e = absurd (cc)
edit-asked by d (Act.Recycle addr) e = absurd (cc)
edit-asked by d (Act.DomInit of reply) e = refl
edit-asked by d (Act.DomAdd of range attr reply) e = refl
edit-asked by d (Act.DomRemove of range attr reply) e = refl
edit-asked by d (Act.DomMove of who reply) e = absurd (cc)
edit-asked by d (Act.Start who) e = absurd (cc)
edit-asked by d Act.EnterUser e = absurd (cc)
edit-asked by d (Act.Fatal reason cause) e = absurd (cc)
edit-asked by d (Act.Doom who) e = absurd (cc)
edit-asked by d Act.Exit e = absurd (cc)
edit-asked by d (Act.Arm deadline) e = absurd (cc)
edit-asked by d (Act.Tick now) e = absurd (cc)
edit-asked by d (Act.TimedOut who) e = absurd (cc)
edit-asked by d (Act.Expire addr woken) e = absurd (cc)
edit-asked by d (Act.Abort who done) e = absurd (cc)
edit-asked by d (Act.Suspend who done) e = absurd (cc)
edit-asked by d (Act.Continue who done) e = absurd (cc)
edit-asked by d (Act.Cut who) e = absurd (cc)
edit-asked by d Act.Killed e = absurd (cc)
edit-asked by d (Act.Join who answer) e = absurd (cc)
edit-asked by d (Act.Left who woken) e = absurd (cc)
edit-asked by d (Act.FutexWait addr value answer) e = absurd (cc)
edit-asked by d (Act.FutexWake addr answer woken) e = absurd (cc)

second-true : (a b : Bool) → IsTrue (a && b) → b ≡ true
second-true true true t = refl
second-true true false t = absurd (cc)
second-true false b t = absurd (cc)

pub domain-asked : (by : ThreadIx) (d : ℕ) (call : DomainCall) (w : DomWord) → IsTrue (fits_domain d call w) → act_of_word (asked_of_domain by d call) ≡ domain_act by d call
domain-asked by d DomainCall.ReadClaim w t = refl
domain-asked by d (DomainCall.ReadDone None) w t = refl
domain-asked by d (DomainCall.ReadDone (Some who)) w t = refl
domain-asked by d DomainCall.WriteClaim w t = refl
domain-asked by d (DomainCall.WriteDone edit) w t = edit-asked by d edit (second-true (writes w) (is_edit_of d edit) t)
