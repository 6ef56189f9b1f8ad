-- The pass that applies the commit rule and chains the entries at once: what it has found is what the commit rule says, and its tables hold the
-- committed closing entries and the chains. Assumes nothing.
use mathlib.Core.Path.{◌≡◌, refl, sym, ap, ◌∙◌}
use mathlib.Core.Logic.{◌⊎◌, inl, inr}
use mathlib.Core.Bool.{Bool, true, false, cond, ◌&&◌}
use mathlib.Core.List.{List}
use Prim.Native.Nat.{ℕ, zero, suc, ◌+◌, ◌-◌, ◌*◌, ◌≤◌, ◌<◌}
use native.Mathlib.Omega.{arith}
use borrow.Author.Tests.{eq-eqb, ne_eqb, eqb-true, eqb-false}
use lib.Dec.{eqb, ltb}
use lib.ListN.{length, get_or, set, length-replicate}
use Rattle.model.specs.Layout.{entry_at}
use Rattle.model.specs.Commit.{walk, committed, linked}
use Rattle.model.specs.declared.Tag.{Tag}
use Rattle.model.specs.declared.Tag.TheVariants.{Nothing, Entry, Closing}
use Rattle.model_laws.proofs.rule.Closings.{closings, end_of}
use Rattle.model_laws.proofs.rule.ClosingLaws.{last_at, walked}
use Rattle.model_laws.proofs.state.OrderLaws.{byte-zeros}
use Rattle.log_scan.specs.Scan.{Scan, counted, decided, taken, enter, entered, over}
use Rattle.log_scan.specs.Scan as scanned
use Rattle.log_scan.specs.declared.commits.Progress.{Progress}
use Rattle.log_scan.proofs.ScanLaws.{Placed, placed, within-reached, fresh-within, agrees, found, found-stopped}
use Rattle.log_gather.specs.Closers.{closer}
use Rattle.log_gather.specs.Chains.{max_entries, max_words, max_homes, Chains, fresh, chained, note, Chained}
use Rattle.log_gather.specs.Walks.{Walk, closed_mark, closer_in, begun, strayed, stopped, joined, join_entry, join_judged, join_closing, join_tag, join, Passed}
use Rattle.log_gather.proofs.ChainLaws.{Housed, housed, holds-over}
use Rattle.log_gather.proofs.TableLaws.{cell-count, closer-cell, closer-still, Tables, tables-stopped, stopped-progress, cell-open, entry-tables, closing-tables, get_d-zeros}

-- ---- the two passes and this one

module _ (size : ℕ) (tags : ℕ → Tag) (base : ℕ) (at : Placed tags base) (home : Housed tags) where
  abbrev ruled : ℕ → Scan
  ruled n = entered tags base base n (scanned.fresh size)

  abbrev noted : ℕ → Chains
  noted n = over (note base) tags base n (fresh size)

  -- the pass goes on
  record Going (n : ℕ) (g : Walk) : Type 0 where
    tables : Tables size n (ruled n) (noted n) g
    same : g.progress ≡ (ruled n).progress

  -- a closing entry has failed
  record Failed (n : ℕ) (g : Walk) : Type 0 where
    reach : ℕ
    before : reach < n
    tables : Tables size reach (ruled reach) (noted reach) g
    same : g.progress ≡ (ruled (suc reach)).progress
    one : g.progress.failed ≡ 1

  abbrev WalkHolds : ℕ → Walk → Type 0
  WalkHolds n g = (Going n g) ⊎ ((Failed n g) ⊎ (g.progress.failed ≡ 2))

  few-counted : (n : ℕ) → n ≤ max_entries → (i : ℕ) → get_or (ruled n).counts i 0 < closed_mark
  few-counted n l i =
      let k = within-reached tags base base n (base + n) (scanned.fresh size) (ruled n) (omega arith) refl refl (fresh-within size base) in
      omega (arith, k.each i)

  -- a judgement says 0 or 1
  decided-one : (position link : ℕ) (complete : Bool) (p : Progress) → ((decided base position link complete p).failed ≡ 0 → ⊥)
      → ((decided base position link complete p).failed ≡ 1) × ((decided base position link complete p).end ≡ p.end)
  unfolding decided taken
  decided-one position link complete p h = go (eqb p.failed 0 && linked base (last_at p.end) position link && complete) h
    where
      go : (b : Bool) → ((taken b position p).failed ≡ 0 → ⊥) → ((taken b position p).failed ≡ 1) × ((taken b position p).end ≡ p.end)
      go true h = absurd (h refl)
      go false h = (refl, refl)

  -- one position more, while the pass goes on
  module _ (n : ℕ) (g : Walk) (l : n < size) (k : Going n g) where
    zero-failed : g.progress.failed ≡ 0
    zero-failed = ap (λ (p : Progress). p.failed) k.same ∙ k.tables.going

    rooms : (length (ruled n).counts ≡ size) × (length (noted n).last ≡ size)
    rooms = ((agrees size tags base n (omega arith) at).room, (holds-over size tags base at home n (omega arith)).0.lasts)

    kept-nothing : tags (base + n) ≡ Nothing → WalkHolds (suc n) g
    kept-nothing e =
        inl (record {
          tables =
              rw (a, b) (record {
                room = k.tables.room;
                cell = k.tables.cell;
                beyond = λ i m. k.tables.beyond i (omega arith);
                heads = k.tables.heads;
                links = k.tables.links;
                going = k.tables.going;
                ends = k.tables.ends;
              });
          same = rw a k.same;
        })
      where
        a : ruled (suc n) ≡ ruled n
        a = unfold over enter in rw e

        b : noted (suc n) ≡ noted n
        b = unfold over note in rw e

    kept_entry : (h f : ℕ) → tags (base + n) ≡ Entry h f → WalkHolds (suc n) (join_entry h (base + n - base) (f - base) g)
    unfolding join_entry
    kept_entry h f e = go (ltb (get_or g.cells (f - base) 0) closed_mark) refl
      where
        d : base + n - base ≡ n
        d = omega arith

        a : ruled (suc n) ≡ record { counts = counted (ruled n).counts (f - base); progress = (ruled n).progress }
        a = unfold over enter in rw e

        b : noted (suc n) ≡ chained h n (noted n)
        b = unfold over note in rw (e, d)

        go : (x : Bool) → ltb (get_or g.cells (f - base) 0) closed_mark ≡ x
            → WalkHolds (suc n) (cond x (joined h (base + n - base) (f - base) (get_or g.cells (f - base) 0 + 1) g.progress g) (stopped g (strayed g.progress)))
        go false q = inr (inr (unfold stopped strayed in refl))
        go true q =
            let p = at.entry (base + n) h f e in
            rw d (inl (record {
              tables = rw (a, b) (entry-tables size n h (f - base) (ruled n) (noted n) g k.tables (omega (arith, p.1)) l q rooms.0);
              same = rw a (unfold joined in k.same);
            }))

    kept-closing : (h f link count : ℕ) → tags (base + n) ≡ Closing h f link count → WalkHolds (suc n) (join_closing base (base + n) h (f - base) link count g)
    unfolding join_closing join_judged
    kept-closing h f link count e = go (ltb (get_or g.cells (f - base) 0) closed_mark) refl
      where
        d : base + n - base ≡ n
        d = omega arith

        next : Progress
        next = decided base (base + n) link (eqb (get_or g.cells (f - base) 0 + 1) count) g.progress

        b : noted (suc n) ≡ chained h n (record { last = set (noted n).last (f - base) (n + 1); heads = (noted n).heads; links = (noted n).links })
        b = unfold over note in rw (e, d)

        a : ltb (get_or g.cells (f - base) 0) closed_mark ≡ true → ruled (suc n) ≡ record { counts = counted (ruled n).counts (f - base); progress = next }
        a q = unfold over enter in
            let p = at.closing (base + n) h f link count e in
            let o = cell-open size n h (f - base) (ruled n) (noted n) g k.tables (omega (arith, p.1)) l q in
            rw (e, o.1, k.same)

        judged : (x : Bool) → eqb next.failed 0 ≡ x → ltb (get_or g.cells (f - base) 0) closed_mark ≡ true
            → WalkHolds (suc n) (cond x (joined h n (f - base) (closed_mark + (n + 1)) next g) (stopped g next))
        judged true z q =
            let p = at.closing (base + n) h f link count e in
            inl (record {
              tables =
                  rw (a q, b)
                  (closing-tables size n h (f - base) (ruled n) (noted n) g k.tables (omega (arith, p.1)) l q next (eqb-true next.failed 0 z) rooms.1);
              same = rw (a q) (unfold joined in refl);
            })
        judged false z q =
            let o = decided-one (base + n) link (eqb (get_or g.cells (f - base) 0 + 1) count) g.progress (eqb-false next.failed 0 z) in
            inr (inl (record {
              reach = n;
              before = omega arith;
              tables = tables-stopped size n (ruled n) (noted n) g next k.tables o.1;
              same = rw (a q) (stopped-progress g next);
              one = ap (λ (p : Progress). p.failed) (stopped-progress g next) ∙ o.0;
            }))

        go : (x : Bool) → ltb (get_or g.cells (f - base) 0) closed_mark ≡ x
            → WalkHolds (suc n) (cond x (join_judged h (base + n - base) (f - base) next g) (stopped g (strayed g.progress)))
        go false q = inr (inr (unfold stopped strayed in refl))
        go true q = rw d (judged (eqb next.failed 0) refl q)

    kept-going : WalkHolds (suc n) (join base (base + n) (tags (base + n)) g)
    unfolding join join_tag
    kept-going = rw (eq-eqb g.progress.failed 0 zero-failed) (go (tags (base + n)) refl)
      where
        go : (t : Tag) → tags (base + n) ≡ t → WalkHolds (suc n) (join_tag base (base + n) t g)
        go Nothing e = kept-nothing e
        go (Entry h f) e = kept_entry h f e
        go (Closing h f link count) e = kept-closing h f link count e

  -- a pass that has stopped
  join-stopped : (position : ℕ) (t : Tag) (g : Walk) → (g.progress.failed ≡ 0 → ⊥) → join base position t g ≡ g
  unfolding join
  join-stopped position t g h = rw (ne_eqb g.progress.failed 0 h)

  kept-one : (n : ℕ) (g : Walk) → n < size → WalkHolds n g → WalkHolds (suc n) (join base (base + n) (tags (base + n)) g)
  kept-one n g l (inl k) = kept-going n g l k
  kept-one n g l (inr (inl k)) =
      rw (join-stopped (base + n) (tags (base + n)) g (λ z. omega (arith, k.one))) (inr (inl (record {
        reach = k.reach;
        before = omega (arith, k.before);
        tables = k.tables;
        same = k.same;
        one = k.one;
      })))
  kept-one n g l (inr (inr k)) = rw (join-stopped (base + n) (tags (base + n)) g (λ z. omega arith)) (inr (inr k))

  kept-all : (n : ℕ) → n ≤ size → WalkHolds n (over (join base) tags base n (begun size))
  unfolding over
  kept-all zero l = inl (unfold begun fresh scanned.fresh in record {
    tables =
        record {
          room =
              record {
                few = omega arith;
                lasts = length-replicate {A = ℕ} size 0;
                words = length-replicate {A = ℕ} max_words 0;
                each = length-replicate {A = ℕ} size 0;
              };
          cell = λ i m. get_d-zeros size i ∙ sym (rw (byte-zeros size i, get_d-zeros size i) (cell-count 0));
          beyond = λ i m. get_d-zeros size i;
          heads = refl;
          links = refl;
          going = refl;
          ends = refl;
        };
    same = refl;
  })
  kept-all (suc n) l = kept-one n (over (join base) tags base n (begun size)) (omega arith) (kept-all n (omega arith))

  -- the tables that the pass leaves, unless it was led astray
  record Reached (n j : ℕ) (g : Walk) : Type 0 where
    reach : ℕ
    most : reach ≤ j
    tables : Tables size reach (ruled reach) (noted reach) g
    end : g.progress.end ≡ end_of (committed tags base n)
    number : g.progress.number ≡ length (committed tags base n)

  reached : (n j : ℕ) (g : Walk) → j ≤ n → n ≤ size → (g.progress.failed ≡ 0 → j ≡ n) → (g.progress.failed ≡ 2 → ⊥) → WalkHolds j g → Reached n j g
  reached n j g l m all h (inl k) =
      let z : j ≡ n = all (ap (λ (p : Progress). p.failed) k.same ∙ k.tables.going) in
      let f = found size tags base n (ruled n) m at refl in
      let e : g.progress ≡ (ruled n).progress = k.same ∙ rw z in
      record { reach = j; most = omega arith; tables = k.tables; end = ap (λ (p : Progress). p.end) e ∙ f.0; number = ap (λ (p : Progress). p.number) e ∙ f.1 }
  reached n j g l m all h (inr (inl k)) =
      let o : (ruled (suc k.reach)).progress.failed ≡ 1 = sym (ap (λ (p : Progress). p.failed) k.same) ∙ k.one in
      let f = found-stopped size tags base n (ruled (suc k.reach)) m at (suc k.reach) (omega (arith, k.before)) refl (λ z. omega (arith, o)) in
      record {
        reach = k.reach;
        most = omega (arith, k.before);
        tables = k.tables;
        end = ap (λ (p : Progress). p.end) k.same ∙ f.0;
        number = ap (λ (p : Progress). p.number) k.same ∙ f.1;
      }
  reached n j g l m all h (inr (inr k)) = absurd (h k)

  -- the closing entries below the end are all that came below the reach
  module _ (n : ℕ) (l : n ≤ size) (few : n ≤ max_entries) (g : Walk) (t : Tables size n (ruled n) (noted n) g) where
    end_is : g.progress.end ≡ end_of (walk tags base n).spans
    end_is = t.ends ∙ (agrees size tags base n l at).end

    end-most : g.progress.end - base ≤ n
    end-most = go (walked tags base n).within
      where
        go : (end_of (walk tags base n).spans ≡ 0) ⊎ ((base < end_of (walk tags base n).spans) × (end_of (walk tags base n).spans ≤ base + n))
            → g.progress.end - base ≤ n
        go (inl z) = omega (arith, end_is)
        go (inr z) = omega (arith, end_is)

    closer-end : (f : ℕ) → closer tags base n f ≡ closer tags base (g.progress.end - base) f
    closer-end f =
        let w = walked tags base n in
        let z : (walk tags base n).going ≡ true = sym (agrees size tags base n l at).going ∙ eq-eqb (ruled n).progress.failed 0 t.going in
        let q : closings tags base (g.progress.end - base) ≡ closings tags base n = rw end_is (sym w.below ∙ w.all z) in
        closer-still tags base f (g.progress.end - base) n end-most q

    closer-told : (last : List ℕ) → ((i : ℕ) → get_or last i 0 ≡ closer_in (get_or g.cells i 0)) → (f : ℕ) → base ≤ f → f < base + size
        → get_or last (f - base) 0 ≡ closer tags base (g.progress.end - base) f
    closer-told last e f a b =
        e (f - base) ∙ ap closer_in (t.cell (f - base) (omega arith))
        ∙ closer-cell (get_or (ruled n).counts (f - base) 0) (get_or (noted n).last (f - base) 0) (few-counted n few (f - base))
        ∙ (holds-over size tags base at home n l).1.closing f a b ∙ closer-end f

-- ---- the pass as a whole

module _ (log : List ℕ) (groups homes start n size : ℕ) (g : Walk) (few : homes ≤ max_homes) (most : groups ≤ 1024) (within : n ≤ 7 * groups)
    (long : 7 * groups ≤ size) (passed : Passed log groups homes start n size g) where
  abbrev tags : ℕ → Tag
  tags = entry_at log groups homes start

  sound : WalkHolds size tags (7 * start) (placed log groups homes start) (housed log groups homes start few) passed.taken g
  sound = rw passed.is (kept-all size tags (7 * start) (placed log groups homes start) (housed log groups homes start few) passed.taken (omega (arith, passed.most)))

  told : (g.progress.failed ≡ 2 → ⊥)
      → Reached size tags (7 * start) (placed log groups homes start) (housed log groups homes start few) n passed.taken g
  told h =
      reached size tags (7 * start) (placed log groups homes start) (housed log groups homes start few) n passed.taken g passed.most (omega arith)
      passed.all h sound

  pub cells-beyond : (g.progress.failed ≡ 2 → ⊥) → (i : ℕ) → n ≤ i → get_or g.cells i 0 ≡ 0
  cells-beyond h i l = let r = told h in r.tables.beyond i (omega (arith, r.most, passed.most))

  -- where the pass was not led astray, it has found what the commit rule says, and the closing entries of its cells and its chains are right
  pub walk-found : (g.progress.failed ≡ 2 → ⊥) → (last : List ℕ) → ((i : ℕ) → get_or last i 0 ≡ closer_in (get_or g.cells i 0)) → length last ≡ size
      → (g.progress.end ≡ end_of (committed tags (7 * start) n)) × (g.progress.number ≡ length (committed tags (7 * start) n))
      × Chained log groups homes start g.progress.end last g.heads g.links
  walk-found h last e sized =
      let r = told h in
      let at = placed log groups homes start in
      let in-homes = housed log groups homes start few in
      let m : r.reach ≤ size = omega (arith, r.most, passed.most) in
      let few-reached : r.reach ≤ max_entries = omega (arith, r.most, passed.most) in
      let k = (holds-over size tags (7 * start) at in-homes r.reach m).1 in (
        r.end,
        r.number,
        record {
          room = record { few = few; lasts = refl; words = r.tables.room.words; each = r.tables.room.each ∙ sym sized };
          long = omega (arith, long, sized);
          reach = r.reach;
          covers = end-most size tags (7 * start) at in-homes r.reach m few-reached g r.tables;
          inside = omega (arith, r.most, passed.most);
          closing = λ f a b. closer-told size tags (7 * start) at in-homes r.reach m few-reached g r.tables last e f a (omega (arith, b, sized));
          head = λ w l. ap (λ (x : List ℕ). get_or x w 0) r.tables.heads ∙ k.head w l;
          link = λ i l w q. ap (λ (x : List ℕ). get_or x i 0) r.tables.links ∙ k.link i l w q;
        },
      )
