use Rattle.std.proofs.Common.{rules, arith, ◌≡◌, ℕ, ◌<◌, ◌+◌, List, length, length-append, length-set, refl, ap, ◌∙◌, get_or, take, ◌^◌, Fits, w64}
use Rattle.um_merge.specs.Logs.{Log, events_of}
use Rattle.um_merge.specs.Merged.{log_at}
use Rattle.um_merge.specs.declared.logged.Logged.{Logged}
use Rattle.um_merge.proofs.Orders.{log-read, merging_step, merging_room, merging_ends, merging_begins, shown_begins, shown_step}
use Rattle.um_merge.proofs.merging.merge.Goals as goal

pub steps-init : goal.steps-init
steps-init c = (rw c.requires.empty (merging_begins c.args.logs.now), shown_begins c.args.logs.now, refl, refl)

pub place-site-requires : goal.place-site-requires
place-site-requires c = let n = c.in-Some.ensures.found in rw (log-read c.args.logs.now c.in-Some.cpu _ _ c.index-logs-cpu.is n.0) n.1.0

pub copy-requires-clause-room : goal.copy-requires-clause-room
copy-requires-clause-room c =
    let n = c.in-Some.ensures.found in
    let f = c.requires.fits in
    let r = merging_room c.args.logs.now c.requires.few c.requires.sites c.steps.room.items c.steps.places c.steps.done c.steps.invariant.0 c.in-Some.cpu n.0 n.1 f.0 f.1 in
    omega (arith, r, f.2, c.steps.invariant.3)

pub copy-requires-clause-at : goal.copy-requires-clause-at
copy-requires-clause-at c = let n = c.in-Some.ensures.found in rw (log-read c.args.logs.now c.in-Some.cpu _ _ c.index-logs-cpu.is n.0) n.1.0

pub copy-requires-clause-shown : goal.copy-requires-clause-shown
copy-requires-clause-shown c =
    let n = c.in-Some.ensures.found in
    let same = log-read c.args.logs.now c.in-Some.cpu _ _ c.index-logs-cpu.is n.0 in
    rw same (c.steps.invariant.1 c.in-Some.cpu n.0)

fits_next : (n : ℕ) → n + 1 < 2 ^ 64 → Fits w64 (n + 1)
fits_next n h = search rules

pub overflow_add-places : goal.overflow_add-places
overflow_add-places c = fits_next _ (omega (arith, c.place-site.ensures.small))

pub bounds-done-site : goal.bounds-done-site
bounds-done-site c =
    let n = c.in-Some.ensures.found in
    let same = log-read c.args.logs.now c.in-Some.cpu _ _ c.index-logs-cpu.is n.0 in
    rw (c.place-site.ensures.site, same) (c.requires.sites c.in-Some.cpu n.0 (get_or c.steps.places c.in-Some.cpu 0) n.1.0)

pub steps-smaller : goal.steps-smaller
steps-smaller c =
    let n = c.in-Some.ensures.found in
    let f = c.requires.fits in
    let r = merging_room c.args.logs.now c.requires.few c.requires.sites c.steps.room.items c.steps.places c.steps.done c.steps.invariant.0 c.in-Some.cpu n.0 n.1 f.0 f.1 in
    let more = ap length c.copy.ensures.copied ∙ length-append c.steps.room.items _ in
    omega (arith, r, f.2, more, c.steps.invariant.3)

pub steps-preserved : goal.steps-preserved
steps-preserved c =
    let n = c.in-Some.ensures.found in
    let same = log-read c.args.logs.now c.in-Some.cpu _ _ c.index-logs-cpu.is n.0 in
    let f = c.requires.fits in
    let m = merging_step c.args.logs.now c.requires.few c.requires.sites c.steps.room.items c.steps.places c.steps.done c.steps.invariant.0 c.in-Some.cpu n.0 n.1 f.0 f.1 in
    let wide : c.in-Some.cpu < length c.steps.places = omega (arith, n.0, c.requires.few, c.steps.invariant.0.eight) in
    let room : c.in-Some.cpu < length c.steps.shown = omega (arith, n.0, c.requires.few, c.steps.invariant.2) in
    let more : c.copy.result ≡ length (events_of (take (get_or c.steps.places c.in-Some.cpu 0 + 1) (log_at c.args.logs.now c.in-Some.cpu))) =
    c.copy.ensures.shown ∙ ap (λ (l : List Logged). length (events_of (take (get_or c.steps.places c.in-Some.cpu 0 + 1) l))) same in (
      rw (c.copy.ensures.copied, c.place-site.ensures.site, c.place-site.ensures.number, same) m,
      shown_step c.args.logs.now c.steps.places c.steps.shown c.in-Some.cpu c.copy.result c.steps.invariant.1 wide room more,
      length-set c.steps.shown c.in-Some.cpu c.copy.result ∙ c.steps.invariant.2,
      c.copy.ensures.room ∙ c.steps.invariant.3,
    )

pub returns : goal.returns
returns c order is =
    merging_ends c.args.logs.now c.requires.few c.requires.sites c.steps.room.items c.steps.places c.steps.done c.steps.invariant.0 (c.in_default.ensures.none) order is
