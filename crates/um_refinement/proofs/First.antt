-- Parts of the relation hold at the opening, where no processor runs a thread: what is of processors and domains.
use Rattle.um_refinement.proofs.Words.{◌≡◌, ℕ, zero, suc, List, [], ◌∷◌, Option, Some, None, refl, sym, subst, arith, IsTrue, slice_index_or, false≢true, Image, opening, FineStep, Site, is_sort, s_next, same_site, s_start, state_at, p_start, site_of, Fine, heap, row, total, ListIs, AreBlocks, ends, sublist, LooksAre, IdleIs, DomainKept, HeldIs, RunningIs, CleaningIs, DomainIs, TableIs}
use Rattle.um_refinement.proofs.Erased.{fine}
use Rattle.um_refinement.proofs.RowSteps.{sort-next}

pub total-none : (n : ℕ) → total (λ k. 0) n ≡ 0
total-none zero = refl
total-none (suc n) = let h = total-none n in omega (arith, h)

pub none-some : {A : Type 0} {x : A} → None ≡ Some x → ⊥
none-some {A} h = subst is-none h tt
  where
    is-none : Option A → Type 0
    is-none None = Unit {0}
    is-none (Some y) = ⊥

module _ (image : Image) where
  sort-first : (i : Site) → IsTrue (is_sort i (s_start image i))
  sort-first (Site.row x) = refl
  sort-first i = refl

  sort-ends : (i : Site) (h : List FineStep) (s : _) → IsTrue (is_sort i s) → IsTrue (is_sort i (ends (s_next image) s h))
  sort-ends i [] s is = is
  sort-ends i (e ∷ h) s is = sort-ends i h (s_next image s e) (sort-next image i s e.act e.moved is)

  -- whatever steps were made, each site has a state of its sort
  pub sorts-along : (h : List FineStep) (i : Site) → IsTrue (is_sort i (state_at same_site site_of (s_next image) (s_start image) h i))
  sorts-along h i = sort-ends i (sublist same_site site_of i h) (s_start image i) (sort-first i)

  module _ (cpus : ℕ) where
    abbrev pub first : Fine
    first = fine image cpus p_start (s_start image)

    pub lists-first : (k : ℕ) → ListIs image (first.processors k)
    lists-first k = record { fits = tt }

    pub pairs-first : (x : ℕ) → (row first x).permissions ≡ slice_index_or (opening image).pairs x []
    pairs-first x = refl

    pub pools-first : (heap first).pools ≡ (opening image).pools
    pools-first = refl

    pub running-first : RunningIs first
    running-first = record { running = sym (total-none cpus) }

    pub held-first : (t : ℕ) → HeldIs first t
    held-first t = record { held = sym (total-none cpus) }

    pub idle-first : (k : ℕ) → IdleIs first k
    idle-first k = record { idle = λ h. refl }

    pub kept-first : (k : ℕ) → DomainKept first k
    kept-first k =
        record { kept = λ h. absurd (false≢true h); moves = λ h. absurd (false≢true h); lives = λ h. absurd (false≢true h); ends = λ h. absurd (false≢true h) }

    pub domains-first : (d : ℕ) → DomainIs first (opening image) d
    domains-first d =
        record {
          init = refl;
          settled = λ h. refl;
          changed = λ k q l h. absurd (none-some h);
          writers = sym (total-none cpus);
          readers = sym (total-none cpus);
          apart = λ h. absurd (false≢true h);
        }

    pub tables-first : (k : ℕ) → TableIs first (opening image) k
    tables-first k =
        record {
          older = λ table h. absurd (none-some h);
          right = λ table h. absurd (none-some h);
          present = λ h. absurd (false≢true h);
          loaded = λ h. absurd (false≢true h);
        }

    pub cleaning-first : (k x : ℕ) → CleaningIs first (opening image) k x
    cleaning-first k x =
        record {
          begun = λ t h cleans. absurd (omega (arith, cleans));
          emptied = λ who h cleans. absurd (omega (arith, cleans));
          order = refl;
          charged = λ cleans h. absurd (omega (arith, cleans));
        }

    pub looks-first : (k : ℕ) → LooksAre first (opening image) k
    looks-first k = record { size = λ a h. absurd (none-some h); reply = λ d h. absurd (none-some h) }

    pub blocks-first : (k : ℕ) → AreBlocks image (first.processors k).todo
    blocks-first k = tt
