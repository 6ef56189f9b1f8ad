-- Every memory that block landing allows opens, to homes that hang on the fates of the groups; so stretches that are formed are good, and any cut in
-- them is alike to one of these memories.
use Prim.Native.Nat.{ℕ, suc, ◌+◌, ◌≤◌, ◌<◌}
use mathlib.Core.Path.{◌≡◌, sym, ap, ◌∙◌, subst}
use mathlib.Core.Logic.{inl, inr}
use mathlib.Core.Bool.{Bool}
use mathlib.Core.List.{List, [], ◌∷◌, ◌++◌}
use native.Mathlib.Decide.{dec_lt}
use native.Mathlib.Omega.{arith}
use lib.ListN.{take, drop}
use Rattle.model.specs.Batch.{Record, FN}
use Rattle.model.specs.Crash.{Memory, is_fence, fences as fences_in, persist, persist_chosen, group_fate, fates, fates_chosen}
use Rattle.model.specs.Book.{run, homes_after}
use Rattle.model.specs.DemandTwo.{group_writes}
use Rattle.model.specs.History.{World, row_fates}
use Rattle.model_laws.proofs.trace.CrashLaws.{write_records, NoFence, trues, fences-append, fences-none, persist-zero, persist-stop, fates-zero, fates-stop, fates-past, fate-fence}
use Rattle.model_laws.proofs.trace.MixLaws.{none-mixed}
use Rattle.theorems.proofs.invariant.Invariant.{Sizes, Opens, ImageOk, Submitted, Running}
use Rattle.theorems.proofs.invariant.LateOpens.{late-opens}
use Rattle.theorems.proofs.steps.FenceRuns.{lasting-groups}
use Rattle.theorems.proofs.steps.CrashRuns.{image, run-early}
use Rattle.object.specs.Medium.{Grain}
use Rattle.object.specs.Alike.{Alike}
use Rattle.object.specs.Order.{Allowed, Left, moved, motions}
use Rattle.object.proofs.CutAlike.{joined, Good, AllGood, Cut, cut-alike, persist-in, persist-beyond, fences-joined, left_under}
use Rattle.object.proofs.RunFormed.{stretch-of}
use Rattle.object.proofs.StretchesOf.{FormedFor, AllFormed, base_of, Stretches}
use Rattle.object.proofs.TailFormed.{last-is, base-is, tail-formed}

-- formed stretches are good, if all memories open

abbrev pub AllOpen : ℕ → ℕ → List Record → Memory → (List (ℕ → Bool) → List ℕ) → Type 0
AllOpen G D rs M X = (passed : ℕ) (c : ℕ → Bool) → passed ≤ fences_in rs → Opens G D (persist passed c rs M) (X (fates passed c rs))

fates_in : (c : ℕ → Bool) (T rest : List Record) → NoFence T → fates 0 c (T ++ (FN ∷ rest)) ≡ fates_chosen c 0 T
fates_in c T rest n = fates-zero c (T ++ (FN ∷ rest)) ∙ fate-fence c 0 T rest n

fates-beyond : (p : ℕ) (c : ℕ → Bool) (T rest : List Record) → NoFence T
    → fates (suc p) c (T ++ (FN ∷ rest)) ≡ trues (group_writes T) ++ fates p c rest
unfolding fates is_fence group_fate
fates-beyond p c T rest n =
    let e : suc p ≡ fences_in T + suc p = omega (arith, fences-none T n) in
    ap (λ (q : ℕ). fates q c (T ++ (FN ∷ rest))) e ∙ fates-past T p c (FN ∷ rest)

good_of : (G D : ℕ) (T : List Record) (M : Memory) (X : List (ℕ → Bool) → List ℕ) → FormedFor G D T M
    → ((c : ℕ → Bool) → Opens G D (persist_chosen c 0 T M) (X (fates_chosen c 0 T))) → Good G D T M
good_of G D T M X f o =
    record { new = f.new; hdr = f.hdr; stretch = stretch-of G D f.new f.hdr T M f.formed X o; none-fence = f.none-fence }

pub all-good : (G D : ℕ) (stretches : List (List Record)) (last : List Record) (M : Memory) (X : List (ℕ → Bool) → List ℕ)
    → AllOpen G D (joined stretches last) M X → AllFormed G D stretches M → FormedFor G D last (base_of stretches M) → AllGood G D stretches last M
unfolding joined base_of
all-good G D [] last M X o f g =
    good_of G D last M X g (λ c. rw (persist-zero c last M, fates-zero c last) at (o 0 c (omega arith)))
all-good G D (T ∷ more) last M X o f g = (
  good_of G D T M X f.0
      (λ c. rw (persist-in c T (joined more last) M f.0.none-fence, fates_in c T (joined more last) f.0.none-fence) at (o 0 c (omega arith))),
  all-good G D more last (write_records T M) (λ fs. X (trues (group_writes T) ++ fs))
      (λ p c h.
      rw (persist-beyond p c T (joined more last) M f.0.none-fence, fates-beyond p c T (joined more last) f.0.none-fence)
      at (o (suc p) c (omega (arith, fences-joined T (joined more last) f.0.none-fence))))
      f.1 g,
)

-- In an era all memories open (as CrashRuns has it for those that a crash may leave)

module _ (G D : ℕ) (z : Sizes G D) (w : World) (r : Running G D w) where
  abbrev s : Submitted G D r.b r.tr r.old w
  s = r.submitted

  abbrev X : List (ℕ → Bool) → List ℕ
  X = λ fs. homes_after D (run (drop G fs) w.book.commits)

  opens-image : (m : Memory) (fs : List (ℕ → Bool)) → ImageOk G D r.b w.memory.log r.tr r.old w.book.commits m fs
      → Opens G D m (homes_after D (run fs w.book.commits))
  opens-image m fs (inl e) = rw (run-early D r.b r.tr r.old w.book.commits fs r.commits e.nothing) e.opens
  opens-image m fs (inr l) = late-opens G D r.b r.tr r.old w.book.commits m fs z r.copies.sound r.commits l

  pending-fences : fences_in w.pending ≡ fences_in (s.fenced ++ (FN ∷ []))
  pending-fences =
      ap fences_in s.split ∙ fences-append (s.fenced ++ (FN ∷ [])) s.tail ∙ omega (arith, fences-none s.tail (none-mixed s.tail s.mixed))

  passed-most : w.passed ≤ fences_in w.pending
  passed-most =
      let c = r.confirmed in omega (arith, c.count, ap fences_in c.split ∙ fences-append c.before c.after)

  opens_at : (passed : ℕ) (c : ℕ → Bool) → passed ≤ fences_in w.pending → Opens G D (persist passed c w.pending w.memory) (X (fates passed c w.pending))
  opens_at passed c h = go (dec_lt passed (fences_in (s.fenced ++ (FN ∷ []))))
    where
      go : Dec (passed < fences_in (s.fenced ++ (FN ∷ []))) → Opens G D (persist passed c w.pending w.memory) (X (fates passed c w.pending))
      go (yes l) =
          let e₁ : persist passed c w.pending w.memory ≡ persist passed c (s.fenced ++ (FN ∷ [])) w.memory =
          ap (λ (x : List Record). persist passed c x w.memory) s.split ∙ persist-stop passed c (s.fenced ++ (FN ∷ [])) s.tail w.memory l in
          let e₂ : fates passed c w.pending ≡ fates passed c (s.fenced ++ (FN ∷ [])) =
          ap (fates passed c) s.split ∙ fates-stop passed c (s.fenced ++ (FN ∷ [])) s.tail l in
          rw (e₁, e₂) (opens-image _ _ (s.images passed c l))
      go (no l) =
          let least : w.passed ≤ passed = omega (arith, pending-fences, passed-most) in
          let e : row_fates w passed c ≡ drop G (fates passed c w.pending) =
          (unfold row_fates in ap (λ (n : ℕ). drop n (fates passed c w.pending)) (lasting-groups G D r.b r.tr r.old w s)) in
          subst (λ (fs : List (ℕ → Bool)). Opens G D (persist passed c w.pending w.memory) (homes_after D (run fs w.book.commits))) e
          (opens-image _ _ (image G D z w r passed c least h))

  -- the claim for a world of an era
  cut-running : Stretches G D w → (l : Grain) (many : ℕ) (chosen : ℕ → Bool)
      → Cut l G D w.pending w.memory many (left_under l chosen (moved (record { lasting = w.memory; written = [] }) (take many (motions l [] w.pending))))
  cut-running k l many chosen =
      subst (λ (rs : List Record). Cut l G D rs w.memory many (left_under l chosen (moved (record { lasting = w.memory; written = [] }) (take many (motions l [] rs)))))
      (sym k.split)
      (cut-alike l G D chosen k.stretches k.last w.memory many
      (all-good G D k.stretches k.last w.memory X
      (subst (λ (rs : List Record). AllOpen G D rs w.memory X) k.split opens_at) k.formed last-formed))
    where
      last-formed : FormedFor G D k.last (base_of k.stretches w.memory)
      last-formed = rw (last-is G D z w r k, base-is G D z w r k) (tail-formed G D z w r k)

  pub running-cut : Stretches G D w → (l : Grain) (many : ℕ) (chosen : ℕ → Bool) → Allowed l G w many (Left l w many chosen)
  unfolding left_under
  running-cut k l many chosen =
      let c = cut-running k l many chosen in
      record {
        passed = c.passed;
        chosen = c.chosen;
        most = c.most;
        least = c.least;
        alike =
            subst (λ (d : ℕ). Alike G d (Left l w many chosen) (persist c.passed c.chosen w.pending w.memory)) (sym r.copies.homes) c.alike;
      }
