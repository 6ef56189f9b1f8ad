-- The stretch after the last fence goes on: what holds once the next fence has passed. Assumes nothing.
use Prim.Native.Nat.{ℕ, ◌+◌, ◌-◌, ◌*◌, ◌%◌, ◌^◌, ◌≤◌, ◌<◌}
use mathlib.Core.Path.{◌≡◌, refl, sym, ap, ◌∙◌}
use mathlib.Core.Bool.{Bool, true, false}
use mathlib.Core.List.{List, [], ◌∷◌, ◌++◌}
use mathlib.Core.Option.{none}
use native.Mathlib.Nat.{add-mod_right}
use native.Mathlib.Omega.{arith}
use lib.Dec.{leb}
use lib.ListN.{length}
use borrow.Author.Tests.{leb-true, leb-false}
use Rattle.model.specs.Bytes.{part, puts, same}
use Rattle.model.specs.Layout.{header, group_mark, group_at, group_number, group_block, turn_of, top_bit, header_right, header_start}
use Rattle.model.specs.Batch.{KW, Record}
use Rattle.model.specs.Effects.{home_writes}
use Rattle.model.specs.Crash.{Memory}
use Rattle.model.specs.Book.{Commit}
use Rattle.model_laws.proofs.bytes.ByteLaws.{length-puts}
use Rattle.model_laws.proofs.bytes.TurnLaws.{turn_of-lt, turn_of-next}
use Rattle.model_laws.proofs.bytes.LayoutLaws.{length-header, header-start, header-right, group-header}
use Rattle.model_laws.proofs.trace.CrashLaws.{write_records, submits, none-submits, chosen-all, write-append}
use Rattle.model_laws.proofs.trace.HomeLaws.{log-homes-wrote, length-homes-wrote, log-header-wrote, area-header-wrote}
use Rattle.model_laws.proofs.trace.Trace.{Ev, hist, tag_at, Apart}
use Rattle.model_laws.proofs.trace.LinkLaws.{linked-later}
use Rattle.theorems.proofs.invariant.Invariant.{Holds, Turned, HeldHome}
use Rattle.theorems.proofs.invariant.Now.{Now}
use Rattle.theorems.proofs.invariant.NowLate.{image, numbers-now, kept, there-before, there-since, image-start, image-right, image-size, image-homes}

module _ {G D b : ℕ} {tr : List Ev} {old commits : List Commit} {start settled group count : ℕ} {content : ℕ → List ℕ} {m : Memory}
    (N : Now G D b tr old commits start settled group count content m) where
  -- ---- the next fence has passed

  -- the memory with all groups written
  abbrev full : Memory
  full = image N (λ x. true)

  wrote : write_records (submits G group content count) m ≡ full
  wrote = sym (chosen-all 0 (submits G group content count) m (none-submits G group content count))

  next : (s settled' : ℕ) (M : Memory) → start ≤ s → s ≤ 2 ^ 47 → 7 * s ≤ settled' → settled' ≤ 7 * group → Apart (7 * s) (hist (7 * b) tr).done
      → length M.log ≡ 64 + 512 * G → header_right M.log G D ≡ true → header_start M.log ≡ s
      → ((slot : ℕ) → group_at M.log slot ≡ group_at full.log slot) → length M.area ≡ 64 * D
      → ((h : ℕ) → h < D → HeldHome D commits settled' (7 * (group + count)) M.area h)
      → Now G D b tr old commits s settled' (group + count) 0 content M
  next s settled' M from most lower upper apart size right at groups area homes =
      record {
        sizes = N.sizes;
        sound = N.sound;
        booked = N.booked;
        from = omega (arith, N.from);
        most = most;
        start_settled = lower;
        settled_group = omega arith;
        room = omega (arith, N.room);
        logged = omega (arith, N.logged);
        contents = λ n x y. absurd (omega arith);
        log_size = size;
        area_size = area;
        homes = homes;
        header = right;
        head_start = at;
        numbers = λ slot l t. number slot l t;
        there = λ n x y. rw (groups (n % G)) (go n (omega arith) y (leb group n) refl);
        turned = λ n x y. rw (groups (n % G)) (other n x y (leb (start + G) n) refl);
        apart = apart;
        links = linked-later (7 * start) (7 * s) (tag_at (7 * b) tr) none (hist (7 * b) tr).done (omega arith) N.links;
      }
    where
      number : (slot : ℕ) → slot < G → same (part (group_at M.log slot) 0 2) group_mark ≡ true
          → group_number (group_at M.log slot) < group + count
      number slot l t = rw (groups slot) (numbers-now N (λ x. true) slot l (rw (groups slot) at t))

      go : (n : ℕ) → start ≤ n → n < group + count → (d : Bool) → leb group n ≡ d → Holds G (7 * b) tr (group_at full.log (n % G)) n
      go n x y true e = there-since N (λ x. true) n (leb-true group n e) y (λ j. refl)
      go n x y false e = there-before N (λ x. true) n x (leb-false group n e)

      -- a slot that nothing was written to since, or that of a group that is trimmed, which had the other turn
      other : (n : ℕ) → group + count ≤ n → n < s + G → (d : Bool) → leb (start + G) n ≡ d → Turned G (group_at full.log (n % G)) n
      other n x y true e k i =
          let w : start + G ≤ n = leb-true (start + G) n e in
          let q : n - G + G ≡ n = omega arith in
          let h : top_bit (group_block (group_at full.log ((n - G) % G)) k) ≡ turn_of G (n - G) =
          (there-before N (λ x. true) (n - G) (omega arith) (omega arith)).turns k i in
          let r : (n - G) % G ≡ n % G = sym (add-mod_right (n - G) G) ∙ ap (λ (x : ℕ). x % G) q in
          let t : turn_of G n ≡ 1 - turn_of G (n - G) = rw q at (turn_of-next G (n - G) (omega (arith, N.sizes.low))) in
          rw r at h ∙ omega (arith, turn_of-lt G (n - G))
      other n x y false e k i =
          let w : n < start + G = leb-false (start + G) n e in
          rw (kept N (λ x. true) n (omega (arith, N.start_settled, N.settled_group)) w (λ u v. omega arith)) (N.turned n (omega arith) w k i)

  -- homes that have been written after the groups
  module _ (area' hs : List ℕ) where
    abbrev stretch : List Record
    stretch = submits G group content count ++ home_writes area' hs

    abbrev M : Memory
    M = write_records (home_writes area' hs) full

    stretch-wrote : write_records stretch m ≡ M
    stretch-wrote = rw (write-append, wrote)

    log : M.log ≡ full.log
    log = log-homes-wrote area' hs full

    area-size : length M.area ≡ 64 * D
    area-size = length-homes-wrote area' hs full ∙ image-homes N (λ x. true)

    pub now-fenced : (settled' : ℕ) → 7 * start ≤ settled' → settled' ≤ 7 * group
        → ((h : ℕ) → h < D → HeldHome D commits settled' (7 * (group + count)) (write_records stretch m).area h)
        → Now G D b tr old commits start settled' (group + count) 0 content (write_records stretch m)
    now-fenced settled' lower upper homes =
        rw stretch-wrote
        (next start settled' M (omega arith) N.most lower upper N.apart (rw log (image-size N (λ x. true)))
        (rw log (image-right N (λ x. true))) (rw log (image-start N (λ x. true))) (λ slot. rw log) area-size (rw stretch-wrote at homes))

    -- the header that a trim has written
    pub now-trimmed : (s : ℕ) → start ≤ s → 7 * s ≤ settled → s ≤ 2 ^ 47 → Apart (7 * s) (hist (7 * b) tr).done
        → ((h : ℕ) → h < D → HeldHome D commits settled (7 * (group + count)) (write_records (stretch ++ (KW (header s G D) ∷ [])) m).area h)
        → Now G D b tr old commits s settled (group + count) 0 content (write_records (stretch ++ (KW (header s G D) ∷ [])) m)
    now-trimmed s from upto most apart homes =
        rw here
        (next s settled moved from most upto N.settled_group apart
        (rw (e, log) (length-puts full.log 0 (header s G D) ∙ image-size N (λ x. true)))
        (rw (e, log) (header-right full.log s G D (omega (arith, N.sizes.high)) (omega (arith, N.sizes.homes)) long))
        (rw (e, log) (header-start full.log s G D (omega arith) long))
        (λ slot. rw (e, log) (group-header full.log (header s G D) slot (omega (arith, length-header s G D))))
        (ap length (area-header-wrote (header s G D) M) ∙ area-size) (rw here at homes))
      where
        moved : Memory
        moved = write_records (KW (header s G D) ∷ []) M

        here : write_records (stretch ++ (KW (header s G D) ∷ [])) m ≡ moved
        here = write-append stretch (KW (header s G D) ∷ []) m ∙ ap (write_records (KW (header s G D) ∷ [])) stretch-wrote

        e : moved.log ≡ puts M.log 0 (header s G D)
        e = log-header-wrote (header s G D) M

        long : 64 ≤ length full.log
        long = omega (arith, image-size N (λ x. true))
