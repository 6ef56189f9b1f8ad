-- Question 2 test by test: one test that fails refuses the strip, and all that hold make it one in order. Assumes nothing.
use mathlib.Core.Path.{◌≡◌, refl, sym, ◌∙◌}
use mathlib.Core.Bool.{Bool, true, false, not, false≢true, ◌&&◌, and-false}
use mathlib.Core.Logic.{◌≢◌}
use mathlib.Core.List.{List}
use Prim.Native.Nat.{ℕ, zero, suc, ◌+◌, ◌-◌, ◌*◌, ◌^◌, ◌%◌, ◌≤◌, ◌<◌}
use native.Mathlib.Decide.{dec_lt}
use native.Mathlib.Numerals.{add-one}
use native.Mathlib.Omega.{arith}
use borrow.Author.Tests.{lt-ltb, eq-eqb, ne_eqb, eqb-true, eqb-false, le-leb, lt-leb, leb-true, leb-false, ltb-true, ltb-false, not-true, not-false}
use Rattle.model.specs.declared.State.{State}
use Rattle.model.specs.declared.Writer.{Writer}
use lib.Dec.{eqb, leb, ltb}
use Rattle.model.specs.State.{state_of, writer_of, promise_of, promised, places, next_position, numbers_in_order, writer_in_order, promise_in_order, writer_at_in_order, writers_in_order, is_in_order}
use Rattle.model_laws.proofs.state.OrderLaws.{tests, WriterInOrder, writer-order, order-writer}
use Rattle.base_state.specs.Order.{GroupsInOrder, Agrees, Live, BoundsInOrder, round_in_order}

refuted : (b : Bool) → (b ≡ true → ⊥) → false ≡ b
refuted true h = absurd (h refl)
refuted false h = refl

-- a question that was answered by no, and by yes
pub answered-no : {b x : Bool} → b ≡ x → not b ≡ true → false ≡ x
answered-no {b} e h = sym (not-true b h) ∙ e

pub answered-yes : {b x : Bool} → b ≡ x → not b ≡ false → true ≡ x
answered-yes {b} e h = sym (not-false b h) ∙ e

-- ---- distances modulo 2 ^ 64

-- a distance that does not pass the end, and one upwards, are as they were taken
pub distance-short : (d low x : ℕ) → (d + low) % 2 ^ 64 ≡ x → d + low < 2 ^ 64 → x ≡ d + low
distance-short d low x e h = omega arith

pub distance-up : (d low x : ℕ) → (d + low) % 2 ^ 64 ≡ x → d < 2 ^ 64 → low ≤ x → x ≡ d + low
distance-up d low x e h l = omega arith

-- one down from x, and no longer than x
pub distance-down : (d y x : ℕ) → (d + y) % 2 ^ 64 ≡ x → y < 2 ^ 64 → d ≤ x → x ≡ d + y
distance-down d y x e h l = omega arith

-- ---- the numbers

round-facts : (st : State) → round_in_order st ≡ true → st.round ≢ 0 → (st.settled < st.round) × (st.round ≤ st.fenced + 1)
unfolding round_in_order
round-facts st h = let f = simp tests at h in f

-- a round: none, out of order, or as its last test says
module _ (st : State) where
  pub round-none : st.round ≡ 0 → true ≡ round_in_order st
  unfolding round_in_order
  round-none e = rw (eq-eqb st.round 0 e)

  pub round-low : st.round ≢ 0 → st.round ≤ st.settled → false ≡ round_in_order st
  round-low n l = refuted (round_in_order st) (λ h. let f = round-facts st h n in omega arith)

  pub round-last : st.round ≢ 0 → st.settled < st.round → leb (st.round - 1) st.fenced ≡ round_in_order st
  unfolding round_in_order
  round-last n l = rw (ne_eqb st.round 0 n, lt-ltb st.settled st.round l) (go (dec_lt st.fenced (st.round - 1)))
    where
      go : Dec (st.fenced < st.round - 1) → leb (st.round - 1) st.fenced ≡ leb st.round (st.fenced + 1)
      go (yes h) = lt-leb (st.round - 1) st.fenced h ∙ sym (lt-leb st.round (st.fenced + 1) (omega arith))
      go (no h) = le-leb (st.round - 1) st.fenced (omega arith) ∙ sym (le-leb st.round (st.fenced + 1) (omega arith))

module _ (st : State) where
  pub groups-order : st.groups ≤ 1024 → numbers_in_order st ≡ true → GroupsInOrder st
  unfolding numbers_in_order
  groups-order m h =
      let f = simp tests at h in
      record {
        groups-most = m;
        start-most = omega arith;
        start-next = omega arith;
        next-most = omega arith;
        filled-most = omega arith;
        filled_none = λ k. f.0.0.0.0.0.0.1 (omega arith);
      }

  -- by the distance of the next group from the start
  pub not-over : (groups d : ℕ) → st.groups ≡ groups → groups ≤ 1024 → st.start ≤ 2 ^ 47 → (d + st.start) % 2 ^ 64 ≡ st.next → d ≤ groups
      → st.filled ≤ 6 → 7 * d + st.filled ≤ 7 * groups → GroupsInOrder st
  not-over groups d e m s h l f k =
      let n = distance-short d st.start st.next h (omega arith) in
      record {
        groups-most = omega arith;
        start-most = s;
        start-next = omega arith;
        next-most = omega arith;
        filled-most = f;
        filled_none = λ z. omega arith;
      }

  pub groups-over : (groups d : ℕ) → st.groups ≡ groups → (d + st.start) % 2 ^ 64 ≡ st.next → d < 2 ^ 64 → groups < d → GroupsInOrder st → ⊥
  groups-over groups d e h b l g = let n = distance-up d st.start st.next h b g.start-next in omega (arith, g.next-most)

  pub places-over : (groups d : ℕ) → st.groups ≡ groups → (d + st.start) % 2 ^ 64 ≡ st.next → d < 2 ^ 64 → 7 * groups < 7 * d + st.filled
      → GroupsInOrder st → ⊥
  places-over groups d e h b l g =
      go (distance-up d st.start st.next h b g.start-next) (dec_lt st.next (st.start + st.groups))
    where
      go : st.next ≡ d + st.start → Dec (st.next < st.start + st.groups) → ⊥
      go n (yes k) = omega (arith, g.filled-most)
      go n (no k) = let z = g.filled_none (omega (arith, g.next-most)) in omega arith

  pub groups-refused : st.groups ≤ 1024 → (GroupsInOrder st → ⊥) → false ≡ numbers_in_order st
  groups-refused m h = refuted (numbers_in_order st) (λ e. h (groups-order m e))

  pub bounds-refused : (BoundsInOrder st → ⊥) → false ≡ numbers_in_order st
  unfolding numbers_in_order
  bounds-refused h =
      refuted (numbers_in_order st)
      (λ e.
      let f = simp tests at e in
      h
      (record {
        start-settled = omega arith;
        settled-fenced = omega arith;
        fenced-next = omega arith;
        durable-fenced = omega arith;
        last-closing = omega arith;
      }))

  pub round-refused : false ≡ round_in_order st → false ≡ numbers_in_order st
  unfolding numbers_in_order
  round-refused h =
      refuted (numbers_in_order st) (λ e. let f = simp tests at e in false≢true (h ∙ (unfold round_in_order in simp tests f.1)))

  pub numbers-held : GroupsInOrder st → BoundsInOrder st → true ≡ round_in_order st → true ≡ numbers_in_order st
  unfolding numbers_in_order
  numbers-held g p r =
      sym
      (simp tests (
        (
          (((((omega arith, λ k. g.filled_none (omega arith)), p.start-settled), p.settled-fenced), p.fenced-next), p.durable-fenced),
          p.last-closing,
        ),
        round-facts st (sym r),
      ))

-- ---- a writer, and the writers one after the other

pub writer-refused : (st : State) (r : Writer) → (WriterInOrder st r → ⊥) → false ≡ writer_in_order st r
writer-refused st r h = refuted (writer_in_order st r) (λ e. h (writer-order st r e))

-- of a writer that holds a block and has logged nothing only the home is asked
pub holding-held : (st : State) (r : Writer) → r.mode ≡ 2 → r.home < st.homes → true ≡ writer_in_order st r
holding-held st r m h = sym (order-writer st r (record { mode = omega arith; home = λ _. h; logged = λ k. omega arith }))

module _ (s : List ℕ) (st : State) (w : ℕ) where
  pub record-refused : false ≡ writer_in_order st (writer_of s w) → false ≡ writer_at_in_order s st w
  unfolding writer_at_in_order
  record-refused h = rw (← h)

  pub record-held : true ≡ writer_in_order st (writer_of s w) → true ≡ promise_in_order (writer_of s w) (promise_of s w) → true ≡ writer_at_in_order s st w
  unfolding writer_at_in_order
  record-held h k = rw (← h, ← k)

module _ (s : List ℕ) (st : State) where
  pub writers-none : true ≡ writers_in_order s st 0
  unfolding writers_in_order
  writers-none = refl

  pub writers-turn : (w : ℕ) → true ≡ writers_in_order s st w → true ≡ writer_at_in_order s st w → true ≡ writers_in_order s st (w + 1)
  unfolding writers_in_order
  writers-turn w h k = rw (add-one w, ← h, ← k)

  pub writers-stop : (w n : ℕ) → w < n → false ≡ writer_at_in_order s st w → false ≡ writers_in_order s st n
  unfolding writers_in_order
  writers-stop w zero h k = absurd (omega arith)
  writers-stop w (suc n) h k = go (dec_lt w n) (writers-stop w n)
    where
      go : Dec (w < n) → (w < n → false ≡ writer_at_in_order s st w → false ≡ writers_in_order s st n)
          → false ≡ (writers_in_order s st n && writer_at_in_order s st n)
      go (yes l) f = rw (← f l k)
      go (no l) f = let e : n ≡ w = omega arith in rw (e, ← k, and-false)

-- ---- the whole strip

module _ (s : List ℕ) (st : State) (groups homes : ℕ) (e : st ≡ state_of s) where
  pub other-groups : st.groups ≢ groups → false ≡ is_in_order s groups homes
  unfolding is_in_order
  other-groups h = rw (← e, ne_eqb st.groups groups h)

  pub other-homes : st.homes ≢ homes → false ≡ is_in_order s groups homes
  unfolding is_in_order
  other-homes h = rw (← e, ne_eqb st.homes homes h, and-false)

  pub numbers-not : false ≡ numbers_in_order st → false ≡ is_in_order s groups homes
  unfolding is_in_order
  numbers-not h = rw (← e, ← h, and-false)

  pub too_many : places st < promised s 8 → false ≡ is_in_order s groups homes
  unfolding is_in_order
  too_many h = rw (← e, lt-leb (promised s 8) (places st) h, and-false)

  pub writers-not : false ≡ writers_in_order s st 8 → false ≡ is_in_order s groups homes
  unfolding is_in_order
  writers-not h = rw (← e, ← h, and-false)

  pub by-writers : st.groups ≡ groups → st.homes ≡ homes → true ≡ numbers_in_order st → promised s 8 ≤ places st
      → writers_in_order s st 8 ≡ is_in_order s groups homes
  unfolding is_in_order
  by-writers g h k p = rw (← e, eq-eqb st.groups groups g, eq-eqb st.homes homes h, ← k, le-leb (promised s 8) (places st) p)

-- ---- the first numbers, as they are read

abbrev Tells : Bool → List ℕ → ℕ → ℕ → Type 0
Tells r s groups homes = (r ≡ true → Agrees (state_of s) groups homes) × (r ≡ false → false ≡ is_in_order s groups homes)

module _ (s : List ℕ) (groups homes : ℕ) where
  pub tells-no : false ≡ is_in_order s groups homes → Tells false s groups homes
  tells-no h = (λ t. absurd (false≢true t), λ _. h)

  pub tells-groups : (g : ℕ) → g ≡ (state_of s).groups → g ≢ groups → Tells false s groups homes
  tells-groups g e n = tells-no (other-groups s _ _ _ refl (λ k. n (e ∙ k)))

  pub tells-homes : (h : ℕ) → h ≡ (state_of s).homes → h ≢ homes → Tells false s groups homes
  tells-homes h e n = tells-no (other-homes s _ _ _ refl (λ k. n (e ∙ k)))

  module _ (g low : ℕ) (m : groups ≤ 1024) (eg : g ≡ (state_of s).groups) (sg : g ≡ groups) (el : low ≡ (state_of s).start) where
    over : (GroupsInOrder (state_of s) → ⊥) → false ≡ is_in_order s groups homes
    over h = numbers-not s _ _ _ refl (groups-refused (state_of s) (omega arith) h)

    pub tells-start : 2 ^ 47 < low → Tells false s groups homes
    tells-start l = tells-no (over (λ o. omega (arith, o.start-most)))

    module _ (filled : ℕ) (ef : filled ≡ (state_of s).filled) where
      pub tells-filled : 6 < filled → Tells false s groups homes
      tells-filled l = tells-no (over (λ o. omega (arith, o.filled-most)))

      module _ (h up used : ℕ) (eh : h ≡ (state_of s).homes) (sh : h ≡ homes) (most : low ≤ 2 ^ 47) (few : filled ≤ 6) (eu : up ≡ (state_of s).next)
          (d : (used + low) % 2 ^ 64 ≡ up) (b : used < 2 ^ 64) where
        apart : (used + (state_of s).start) % 2 ^ 64 ≡ (state_of s).next
        apart = rw (← el, ← eu) d

        agrees : used ≤ groups → 7 * used + filled ≤ 7 * groups → Agrees (state_of s) groups homes
        agrees l k =
            record {
              groups-same = sym eg ∙ sg;
              homes_same = sym eh ∙ sh;
              in_order = not-over (state_of s) groups used (sym eg ∙ sg) m (omega arith) apart l (omega arith) (omega arith);
            }

        pub tells-part : used < groups → Tells true s groups homes
        tells-part l = (λ t. agrees (omega arith) (omega arith), λ t. absurd (false≢true (sym t)))

        pub tells-over : groups < used → Tells false s groups homes
        tells-over l = tells-no (over (λ o. groups-over (state_of s) groups used (sym eg ∙ sg) apart b l o))

        pub tells-full : used ≡ groups → Tells (eqb filled 0) s groups homes
        tells-full e = (
          λ t. let f = eqb-true filled 0 t in agrees (omega arith) (omega arith),
          λ t.
              let f = eqb-false filled 0 t in
              over (λ o. places-over (state_of s) groups used (sym eg ∙ sg) apart b (omega arith) o),
        )

-- ---- the other numbers, as they are read

abbrev Bounds : Bool → List ℕ → Type 0
Bounds r s = (r ≡ true → BoundsInOrder (state_of s)) × (r ≡ false → false ≡ numbers_in_order (state_of s))

pub live-by : (st : State) (first up f : ℕ) → GroupsInOrder st → first ≡ st.start → up ≡ st.next → f ≡ st.filled
    → Live st (7 * first) (7 * (up - first) + f)
live-by st first up f g es en ef = record { in_order = g; lowest = rw es; every = rw (es, en, ef) }

module _ (s : List ℕ) (low whole all end mark : ℕ) (l : Live (state_of s) low all) (w : whole + (state_of s).filled ≡ all) (ee : end ≡ (state_of s).fenced)
    (em : mark ≡ (state_of s).durable) where
  bounds-no : (BoundsInOrder (state_of s) → ⊥) → Bounds false s
  bounds-no h = (λ t. absurd (false≢true t), λ _. bounds-refused (state_of s) h)

  small : (low ≤ 7 * 2 ^ 47) × (all ≤ 7168 + 6) × (whole ≤ 7168) × (low + whole ≡ 7 * (state_of s).next) × (low ≡ 7 * (state_of s).start)
  small = let g = l.in_order in (
    omega (arith, l.lowest, g.start-most),
    omega (arith, l.every, g.next-most, g.groups-most, g.filled-most),
    omega (arith, l.every, g.next-most, g.groups-most),
    omega (arith, l.every, l.lowest, g.start-next),
    l.lowest,
  )

  pub bounds-durable : end < mark → Bounds false s
  bounds-durable q = bounds-no (λ p. omega (arith, p.durable-fenced))

  module _ (q : mark ≤ end) (far : ℕ) (d : (far + low) % 2 ^ 64 ≡ end) (b : far < 2 ^ 64) where
    upwards : BoundsInOrder (state_of s) → end ≡ far + low
    upwards p = distance-up far low end d b (omega (arith, small.4, p.start-settled, p.settled-fenced))

    pub bounds-fenced : whole < far → Bounds false s
    bounds-fenced k = bounds-no (λ p. omega (arith, upwards p, p.fenced-next, small.3))

    module _ (k : far ≤ whole) (x near : ℕ) (ex : x ≡ (state_of s).settled) (dx : (near + low) % 2 ^ 64 ≡ x) (bx : near < 2 ^ 64) where
      pub bounds-settled : far < near → Bounds false s
      bounds-settled o =
          bounds-no
          (λ p.
          let n = distance-up near low x dx bx (omega (arith, small.4, p.start-settled)) in
          omega (arith, upwards p, n, p.settled-fenced))

      above : low + all ≡ next_position (state_of s)
      unfolding next_position
      above = omega (arith, small.3, w)

      pub bounds-last : near ≤ far → (y : ℕ) → y ≡ (state_of s).last → Bounds (leb y (low + all)) s
      bounds-last o y ey = (
        λ t.
            let e = distance-short far low end d (omega (arith, small.0, small.2)) in
            let n = distance-short near low x dx (omega (arith, small.0, small.2)) in
            let z = leb-true y (low + all) t in
            record {
              start-settled = omega (arith, n, small.4);
              settled-fenced = omega (arith, n, e);
              fenced-next = omega (arith, e, small.3);
              durable-fenced = omega arith;
              last-closing = omega (arith, above, z);
            },
        λ t. let z = leb-false y (low + all) t in bounds-refused (state_of s) (λ p. omega (arith, above, p.last-closing)),
      )

-- ---- the record of a writer that has logged entries

module _ (st : State) (r : Writer) (low all since : ℕ) (l : Live st low all) (m : r.mode ≡ 3) (h : r.home < st.homes)
    (d : (since + r.first) % 2 ^ 64 ≡ low + all) (b : since < 2 ^ 64) (f : r.first < 2 ^ 64) where
  ahead : low + all ≡ next_position st
  unfolding next_position
  ahead = omega (arith, l.lowest, l.every, l.in_order.start-next)

  pub logged-far : all < since → false ≡ writer_in_order st r
  logged-far k =
      writer-refused st r
      (λ o.
      let q = o.logged (omega arith) in
      let e = distance-up since r.first (low + all) d b (omega (arith, ahead)) in
      omega (arith, l.lowest, q))

  pub logged-by : (less : ℕ) → since ≤ all → (less + 1) % 2 ^ 64 ≡ r.count → less < 2 ^ 64 → ltb less since ≡ writer_in_order st r
  logged-by less k c bl = go (ltb less since) refl
    where
      few : since ≤ less → false ≡ writer_in_order st r
      few u =
          writer-refused st r
          (λ o.
          let q = o.logged (omega arith) in
          let e = distance-up since r.first (low + all) d b (omega (arith, ahead)) in
          let n = distance-up less 1 r.count c bl (omega (arith, q)) in
          omega (arith, ahead, q))

      enough : less < since → true ≡ writer_in_order st r
      enough u =
          let g = l.in_order in
          let n = distance-short less 1 r.count c (omega (arith, l.every, g.next-most, g.groups-most, g.filled-most)) in
          let e = distance-down since r.first (low + all) d f (omega arith) in
          sym
          (order-writer st r
          (record { mode = omega arith; home = λ _. h; logged = λ _. (omega (arith, l.lowest), omega (arith, ahead), omega arith, omega (arith, ahead)) }))

      go : (t : Bool) → ltb less since ≡ t → t ≡ writer_in_order st r
      go true e = enough (ltb-true less since e)
      go false e = few (ltb-false less since e)
