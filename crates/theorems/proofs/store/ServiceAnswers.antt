-- What settle, trim and an opening answer, by the abstract store that agrees with the world. Assumes nothing.
use Prim.Native.Nat.{ℕ, ◌+◌, ◌-◌, ◌*◌, ◌/◌, ◌≤◌, ◌<◌}
use mathlib.Core.Path.{◌≡◌, refl, sym, ap, ◌∙◌}
use mathlib.Core.Logic.{◌⊎◌, inl, inr}
use mathlib.Core.Bool.{Bool, true, false, cond, not, ◌&&◌}
use mathlib.Core.List.{List, [], ◌∷◌, ◌++◌}
use native.Mathlib.Decide.{dec_lt}
use native.Mathlib.Omega.{arith}
use lib.Dec.{eqb, leb}
use lib.ListN.{length, length-append}
use borrow.Author.Tests.{leb-false, leb-true, eq-eqb, ne_eqb}
use Rattle.model.specs.Layout.{group_count, home_count, header, max_start}
use Rattle.model.specs.Commit.{newest, found}
use Rattle.model.specs.Batch.{KW, FN, record_bytes, batch_bytes}
use Rattle.model.specs.State.{state_of, under_way}
use Rattle.model.specs.declared.State.{State}
use Rattle.model.specs.Effects.{Given, Effect, groups, homes, settle_effect, trim_start, trim_to, trim_effect, new_state, open_effect, open_start, touched, marked, blank_writes, home_writes, largest}
use Rattle.model.specs.Questions.{ask, areas_right, state_right, start_fits, batch_fits, open_answer, settle_answer, trim_answer, newest_right, in_round}
use Rattle.model.specs.Calls.{size_of, open_call, settle_call, trim_call}
use Rattle.model.specs.Book.{Held, homes_after}
use Rattle.model.specs.History.{settles, trims, opening, World, lent, loaded, ends}
use Rattle.model.specs.DemandTwo.{each_contents, untrimmed, closed_below, may_start_at, Trimmed}
use Rattle.abstract_store.specs.Store.{Store, group_of_first, any_wrote, many_homes, to_settle, may_start, next_start, ask_batch, reply_service, reply, reply_of, found_in_memory}
use Rattle.model_laws.proofs.bytes.LayoutLaws.{groups-in, homes_in, log-length-right, data-length-right, length-header}
use Rattle.model_laws.proofs.state.BatchLaws.{length-KW, length-FN, batch-append, batch-one}
use Rattle.model_laws.proofs.state.OrderLaws.{InOrder}
use Rattle.model_laws.proofs.trace.Trace.{Ev, hist}
use Rattle.model_laws.proofs.trace.WalkLaws.{closing_below}
use Rattle.theorems.proofs.invariant.Invariant.{Sizes, Running, Closed}
use Rattle.theorems.proofs.invariant.LiveLog.{tags_in, base_of, kept_in, Shown, all-each, upto-shown}
use Rattle.theorems.proofs.invariant.ReadBack.{SeenIn, untrimmed-old, untrimmed-matches}
use Rattle.theorems.proofs.invariant.RunLaws.{closed_below-old, closed_below-matches}
use Rattle.theorems.proofs.invariant.OpenLaws.{ts, hs, tags, new_start, new_header, touched-below, restored-size}
use Rattle.theorems.proofs.steps.TrimLaws.{largest-from, largest-upto, largest-may, largest-most}
use Rattle.theorems.proofs.steps.SettleRuns.{below-from, new_area, due, settle-effect, area-size, inside}
use Rattle.theorems.proofs.steps.OpenStep.{open-effect}
use Rattle.theorems.proofs.steps.Beginning.{header-fits}
use Rattle.theorems.proofs.steps.TrimRuns.{trim-may}
use Rattle.theorems.proofs.demands.TrimYields.{first_group, trimmed}
use Rattle.theorems.proofs.store.StoreLaws.{answers, found-any-wrote, length-contents, marked-same, bytes-homes, bytes-opening}
use Rattle.theorems.proofs.store.StoreAgrees.{Numbers, Agrees, size_none, first-is, asked, asked-newest}
use Rattle.theorems.proofs.store.ChangeAnswers.{batch-is}

module _ (G D : ℕ) (z : Sizes G D) (w : World) (r : Running G D w) (s : Store) (a : Agrees G D w s) where
  abbrev st : State
  st = state_of w.state

  abbrev o : InOrder w.state G D
  o = r.copies.order

  abbrev n : Numbers s (state_of w.state)
  n = a.numbers r.ready

  -- ---- settle

  -- what the commits that close below a position wrote, as the log copy shows it
  pub below-contents : (F : ℕ)
      → each_contents (tags_in G D w) w.log G (closing_below F (kept_in r.b r.tr w)) ≡ untrimmed (7 * s.start) (closed_below F s.book.commits)
  below-contents F =
      let b : ℕ = r.b in
      let tr : List Ev = r.tr in
      let k = r.commits in
      ap (each_contents (tags_in G D w) w.log G) (sym (below-from (base_of w) F (hist (7 * b) tr).done))
      ∙ untrimmed-matches (tags_in G D w) w.log G b tr (base_of w) (closed_below F k.new) (closing_below F (hist (7 * b) tr).done)
      (closed_below-matches b tr F k.new (hist (7 * b) tr).done k.matches)
      (rw (below-from (base_of w) F (hist (7 * b) tr).done)
      (all-each (Shown G D b tr w) (SeenIn (tags_in G D w) w.log G b tr) (λ p x. (x.home, x.block)) (closing_below F (kept_in b tr w))
      (upto-shown G D b tr w z r.copies F)))
      ∙ sym (rw (n.start, a.book, k.split, closed_below-old D F r.old k.new k.past, untrimmed-old D (base_of w) r.old (closed_below F k.new) k.past))

  settle-contents : each_contents (tags_in G D w) w.log G (closing_below st.fenced (kept_in r.b r.tr w)) ≡ to_settle s
  unfolding to_settle
  settle-contents = rw n.fenced (below-contents st.fenced)

  due-many : length (due G D z w r) ≡ many_homes s.homes (to_settle s)
  unfolding many_homes touched
  due-many =
      ap length
      (marked-same (λ h. found (newest (tags_in G D w) h (closing_below st.fenced (kept_in r.b r.tr w))))
      (λ h. any_wrote h (each_contents (tags_in G D w) w.log G (closing_below st.fenced (kept_in r.b r.tr w)))) D
      (λ h. found-any-wrote (tags_in G D w) w.log G h (closing_below st.fenced (kept_in r.b r.tr w))))
      ∙ ap (λ (ts : List (List Held)). length (marked (λ h. any_wrote h ts) D)) settle-contents
      ∙ ap (λ (d : ℕ). length (marked (λ h. any_wrote h (to_settle s)) d)) (sym a.homes)

  settle-bytes : (batch : List ℕ)
      → (size_of (settle_effect (lent w [] batch 0 0)) ≡ 68 * many_homes s.homes (to_settle s) + 2) × ((settle_effect (lent w [] batch 0 0)).figure ≡ 0)
  unfolding size_of
  settle-bytes batch =
      let area : List ℕ = new_area G D z w r in
      let hs : List ℕ = due G D z w r in
      rw (settle-effect G D z w r batch) (
        ap length (batch-append (home_writes area hs) (FN ∷ [])) ∙ length-append (batch_bytes (home_writes area hs)) (batch_bytes (FN ∷ []))
            ∙ omega (arith, bytes-homes D area hs (area-size G D z w r) (inside G D z w r), ap length (batch-one FN) ∙ length-FN, due-many),
        refl,
      )

  -- whether a round is under way
  pub no-round : (batch : List ℕ) → not (in_round (lent w [] batch 0 0)) ≡ eqb s.round 0
  unfolding in_round under_way lent
  no-round batch = rw n.round (go (leb 1 st.round) refl)
    where
      go : (d : Bool) → leb 1 st.round ≡ d → not d ≡ eqb st.round 0
      go true e = sym (ne_eqb st.round 0 (λ q. let k = leb-true 1 st.round e in omega arith))
      go false e = sym (eq-eqb st.round 0 (let k = leb-false 1 st.round e in omega arith))

  pub settle-answers : (batch : List ℕ) → reply_of (settle_call (lent w [] batch 0 0)) ≡ reply_service s (settles batch)
  unfolding settle_call reply_service
  settle-answers batch =
      let g : Given = lent w [] batch 0 0 in
      answers g (settle_answer g (size_of (settle_effect g))) (settle_effect g) _ 0 (68 * many_homes s.homes (to_settle s) + 2)
      (unfold settle_answer in
      ((asked G D z w r s a) [] batch 0 0 _ ∙ rw (no-round batch) (ap (λ (x : ℕ). ask (eqb s.round 0) 21 x) ((batch-is G D z w r s a) [] batch 0 0 _ _ (settle-bytes batch).0))))
      (λ e. ((settle-bytes batch).1, (settle-bytes batch).0))

  -- ---- trim

  pub may-is : (x : ℕ) → may_start s x ≡ may_start_at w x
  unfolding may_start may_start_at
  may-is x = rw ((first-is G D z w r s a), a.book, first_group G D z w r)

  pub start_is : (batch : List ℕ) → trim_start (lent w [] batch 0 0) ≡ next_start s
  unfolding next_start
  start_is batch =
      omega (arith, low (largest-may (may_start s) s.start range), high (dec_lt s.start T))
    where
      T : ℕ
      T = trim_start (lent w [] batch 0 0)

      range : ℕ
      range = s.settled / 7 - s.start

      t : Trimmed w T
      t = trimmed G D z w r batch

      inside-settled : 7 * largest (may_start s) s.start range ≤ st.settled
      inside-settled = omega (arith, largest-upto (may_start s) s.start range, n.start, n.settled, o.start-settled)

      low : (largest (may_start s) s.start range ≡ s.start) ⊎ (may_start s (largest (may_start s) s.start range) ≡ true)
          → largest (may_start s) s.start range ≤ T
      low (inl e) = omega (arith, n.start, (trim-may G D z w r batch).from)
      low (inr e) = t.furthest (largest (may_start s) s.start range) inside-settled (sym (may-is (largest (may_start s) s.start range)) ∙ e)

      high : Dec (s.start < T) → T ≤ largest (may_start s) s.start range
      high (yes l) =
          largest-most (may_start s) s.start range T l (omega (arith, t.settled, n.settled, n.start)) (may-is T ∙ t.reached)
      high (no l) = omega (arith, largest-from (may_start s) s.start range)

  trim-bytes : (batch : List ℕ) (x : ℕ)
      → (size_of (trim_effect (lent w [] batch 0 0) x) ≡ cond (eqb x s.start) 0 68) × ((trim_effect (lent w [] batch 0 0) x).figure ≡ 0)
  unfolding trim_effect lent
  trim-bytes batch x = rw n.start (go (eqb x (state_of w.state).start))
    where
      size : length (header x (groups (lent w [] batch 0 0)) (homes (lent w [] batch 0 0))) ≡ 64
      size = length-header x (groups (lent w [] batch 0 0)) (homes (lent w [] batch 0 0))

      go : (d : Bool)
          → (size_of (cond d (new_state (lent w [] batch 0 0) w.state 0) (trim_to (lent w [] batch 0 0) (state_of w.state) x)) ≡ cond d 0 68)
          × ((cond d (new_state (lent w [] batch 0 0) w.state 0) (trim_to (lent w [] batch 0 0) (state_of w.state) x)).figure ≡ 0)
      go true = (size_none (new_state (lent w [] batch 0 0) w.state 0) (unfold new_state in refl), (unfold new_state in refl))
      go false = (
        (unfold size_of trim_to batch_bytes in
            (length-append (record_bytes (KW (header x (groups (lent w [] batch 0 0)) (homes (lent w [] batch 0 0))))) (record_bytes FN ++ [])
            ∙ omega (arith, length-KW (header x (groups (lent w [] batch 0 0)) (homes (lent w [] batch 0 0))) size, length-append (record_bytes FN) [], length-FN))),
        (unfold trim_to in refl),
      )

  trim-number : (batch : List ℕ)
      → trim_answer (lent w [] batch 0 0) (trim_start (lent w [] batch 0 0)) (size_of (trim_effect (lent w [] batch 0 0) (trim_start (lent w [] batch 0 0))))
      ≡ ask (leb (next_start s) max_start) 10 (ask_batch (cond (eqb (next_start s) s.start) 0 68) batch)
  unfolding trim_answer start_fits
  trim-number batch =
      (asked-newest G D z w r s a) [] batch 0 0 _
      ∙ rw (start_is batch) (ap (λ (k : ℕ). ask (leb (next_start s) max_start) 10 k) ((batch-is G D z w r s a) [] batch 0 0 _ _ (trim-bytes batch (next_start s)).0))

  pub trim-answers : (batch : List ℕ) → reply_of (trim_call (lent w [] batch 0 0)) ≡ reply_service s (trims batch)
  unfolding trim_call reply_service
  trim-answers batch =
      let g : Given = lent w [] batch 0 0 in
      let x : ℕ = trim_start g in
      answers g (trim_answer g x (size_of (trim_effect g x))) (trim_effect g x) _ 0 (cond (eqb (next_start s) s.start) 0 68) (trim-number batch)
      (λ e. ((trim-bytes batch x).1, (trim-bytes batch x).0 ∙ ap (λ (y : ℕ). cond (eqb y s.start) 0 68) (start_is batch)))

-- ---- openings

module _ (G D : ℕ) (z : Sizes G D) (w : World) (c : Closed G D w) (s : Store) (a : Agrees G D w s) (state positions batch : List ℕ) where
  abbrev g : Given
  g = loaded w state positions batch

  abbrev X : List ℕ
  X = homes_after D w.book.commits

  abbrev found-ts : List (List ℕ)
  found-ts = ts G D z w.memory (homes_after D w.book.commits) c.opens

  abbrev homes-due : List ℕ
  homes-due = hs G D z w.memory (homes_after D w.book.commits) c.opens

  back_is : each_contents (tags G D z w.memory X c.opens) w.memory.log G found-ts ≡ s.back
  back_is = unfold found_in_memory in a.found

  many_is : length homes-due ≡ many_homes s.homes s.back
  unfolding many_homes touched
  many_is =
      rw (a.homes, ← back_is)
      (ap length
      (marked-same (λ h. found (newest (tags G D z w.memory X c.opens) h found-ts))
      (λ h. any_wrote h (each_contents (tags G D z w.memory X c.opens) w.memory.log G found-ts)) D
      (λ h. found-any-wrote (tags G D z w.memory X c.opens) w.memory.log G h found-ts)))

  open-bytes : size_of (open_effect g) ≡ 68 * many_homes s.homes s.back + (72 + 516 * s.groups)
  unfolding size_of
  open-bytes =
      let new : List ℕ = new_header G D z w.memory X c.opens in
      let start : ℕ = new_start G D z w.memory X c.opens in
      rw (open-effect G D z w c state positions batch)
      (ap length (batch-append (home_writes X homes-due) (FN ∷ KW new ∷ FN ∷ (blank_writes G start G ++ (FN ∷ []))))
      ∙ length-append (batch_bytes (home_writes X homes-due)) (batch_bytes (FN ∷ KW new ∷ FN ∷ (blank_writes G start G ++ (FN ∷ []))))
      ∙ omega (
        arith,
        bytes-homes D X homes-due (restored-size G D z w.memory X c.opens) (touched-below G D z w.memory X c.opens),
        many_is,
        a.groups,
        bytes-opening G start new (length-header _ G D),
      ))

  open-figure : (open_effect g).figure ≡ length s.back
  open-figure =
      ap (λ (e : Effect). e.figure) (open-effect G D z w c state positions batch)
      ∙ sym (length-contents (tags G D z w.memory X c.opens) w.memory.log G found-ts) ∙ ap length back_is

  areas-ok : areas_right g ≡ true
  unfolding areas_right loaded
  areas-ok =
      rw (c.opens.log_size, c.opens.area_size, (log-length-right G z.low z.high).1, (data-length-right D z.some-home z.homes).1)

  positions-ok : newest_right g ≡ eqb (length positions) (8 * s.homes)
  unfolding newest_right loaded
  positions-ok = rw (ap home_count c.opens.area_size ∙ homes_in D, a.homes)

  start-ok : start_fits (open_start g) ≡ leb (group_of_first s) max_start
  unfolding start_fits open_start group_of_first loaded
  start-ok = rw (ap group_count c.opens.log_size ∙ groups-in G, a.head, a.groups)

  open-number : open_answer g (open_start g) (size_of (open_effect g))
      ≡ ask (eqb (length state) 1024 && eqb (length positions) (8 * s.homes)) 1
      (ask (leb (group_of_first s) max_start) 10 (ask_batch (68 * many_homes s.homes s.back + (72 + 516 * s.groups)) batch))
  unfolding open_answer ask
  open-number =
      rw (areas-ok, positions-ok, header-fits G D w X state positions batch c.opens, start-ok, open-bytes)
      (unfold state_right batch_fits ask_batch loaded in refl)

  pub open-answers : reply_of (ends w (opening state positions batch)) ≡ reply s (opening state positions batch)
  unfolding ends open_call reply
  open-answers =
      answers g (open_answer g (open_start g) (size_of (open_effect g))) (open_effect g) _ (length s.back) (68 * many_homes s.homes s.back + (72 + 516 * s.groups))
      open-number (λ e. (open-figure, open-bytes))
