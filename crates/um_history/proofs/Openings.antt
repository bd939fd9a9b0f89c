-- What a described image has at its opening fits the words of the sites.
use Rattle.std.proofs.Common.{◌≡◌, ℕ, ◌+◌, ◌<◌, ◌≤◌, ◌⊎◌, suc, inl, inr, ⊎_elim, Bool, true, false, List, [], ◌∷◌, length, refl, ap, arith}
use Rattle.std.specs.Prelude.{IsTrue}
use Rattle.um_base.specs.declared.image.Image.{Image}
use Rattle.um_machine.specs.declared.thread.Thread.{Thread}
use Rattle.um_machine.specs.Objects.{thread_holds}
use Rattle.um_machine.specs.Run.{opening}
use Rattle.um_machine.specs.State.{is_started, thread_at}
use Rattle.um_invariants.specs.Described.{IsDescribed}
use Rattle.um_fine.specs.Opening.{count, indexed}
use Rattle.um_refinement.specs.Room.{CanRun}
use Rattle.um_refinement.proofs.DomainsKnown.{started-placed}
use Rattle.um_refinement.proofs.FirstThreads.{opening-is, threads-long}
use Rattle.um_refinement.proofs.Reachable.{opening-wide}
use Rattle.um_history.proofs.OpeningRuns.{OpensWell}
use Rattle.um_history.proofs.ReadyFew.{few-first}

count-most : (bs : List Bool) → count bs ≤ length bs
count-most [] = omega arith
count-most (true ∷ bs) = let l = count-most bs in omega (arith, l)
count-most (false ∷ bs) = let l = count-most bs in omega (arith, l)

indexed-long : {A B : Type 0} (f : ℕ → A → B) (i : ℕ) (xs : List A) → length (indexed f i xs) ≡ length xs
indexed-long f i [] = refl
indexed-long f i (x ∷ xs) = ap suc (indexed-long f (i + 1) xs)

module _ (image : Image) (cpus : ℕ) (described : IsDescribed image) (can : CanRun image cpus) where
  -- a thread that was not started is in the first domain
  abbrev Still : Thread → Type 0
  Still me = IsTrue (is_started me.life) ⊎ (me.domain ≡ 0)

  still : (t : ℕ) → Still (thread_at (opening image) t)
  still t = opening-is Still (inr refl) (λ i boot. inl refl) image t

  domains : (t : ℕ) → (thread_at (opening image) t).domain < 8
  domains t = ⊎_elim
      (λ started. let few = can.domains in let in-image = started-placed image cpus described (opening image) ([], refl) t started in omega (arith, few, in-image))
      (λ none. omega (arith, none))
      (still t)

  claims : (x : ℕ) → count (indexed (thread_holds (opening image).image x) 0 (opening image).threads) < 128
  claims x =
      let most = count-most (indexed (thread_holds (opening image).image x) 0 (opening image).threads) in
      let long = indexed-long (thread_holds (opening image).image x) 0 (opening image).threads in
      let all = threads-long image in
      omega (arith, most, long, all)

  pub opens-well : OpensWell image
  opens-well =
      record {
        flags = (opening-wide image described.few).flags;
        claims = claims;
        domains = domains;
        ready = let few = few-first image cpus described in omega (arith, few);
      }
