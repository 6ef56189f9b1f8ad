-- The actions are the motions: record by record, from the front of the batch on.
use Prim.Native.Nat.{ℕ, zero, suc, ◌+◌, ◌-◌, ◌*◌, ◌%◌, ◌≤◌, ◌<◌}
use mathlib.Core.Path.{◌≡◌, refl, sym, ap, ◌∙◌, subst}
use mathlib.Core.Bool.{Bool, true, false, cond, not, ◌&&◌}
use mathlib.Core.List.{List, [], ◌∷◌, ◌++◌, append_assoc, append-nil}
use native.Mathlib.Omega.{arith}
use lib.Dec.{eqb}
use lib.ListN.{length, take, drop, length-append}
use lib.Seq.{drop_at}
use borrow.Author.Tests.{le-leb, lt-ltb, le-ltb, eq-eqb, ne_eqb}
use Rattle.model.specs.Bytes.{part, zeros, same}
use Rattle.model.specs.Layout.{group_offset}
use Rattle.model.specs.Batch.{Record, GW, HW, KW, FN, record_bytes, batch_bytes}
use Rattle.model.specs.Crash.{Piece, to_log, to_area}
use Rattle.model_laws.proofs.bytes.ByteLaws.{part-within}
use Rattle.model_laws.proofs.bytes.LayoutLaws.{part-after}
use Rattle.model_laws.proofs.state.BatchLaws.{length-GW, length-HW, length-KW, length-FN, number-GW, number-HW, part-GW, part-HW, part-KW}
use Rattle.object.specs.Medium.{Grain, words, blocks}
use Rattle.object.specs.Order.{Motion, put, wait, parted, body, head, heads_out, wipe, motions}
use Rattle.object.proofs.ChopLaws.{part-zero}
use Rattle.object.proofs.HeadLaws.{rest-drop}
use Rattle.object_runner.specs.declared.Cursor.{Cursor}
use Rattle.object_runner.specs.declared.Action.{Action}
use Rattle.object_runner.specs.Next.{cursor, done, fencing, log_area, homes_area, from_batch, from_copy, bare, write, past, parts, group_action, home_action, wiping, whole_header, wipe_action, header_action, due, due_action, fence_action, record_action, asked, next_action}
use Rattle.object_runner.proofs.AskedLaws.{true-asked}
use Rattle.object_runner.specs.Moves.{landing_of, bytes_of, piece_of, Hands, words_from, words_due, headed_at, headed_after, Due, Fitting, RunnerMoves}

unfoldable is_words : Grain → Bool
is_words words = true
is_words blocks = false

-- ---- where a record's bytes lie in the batch

part_at : (front X : List ℕ) (o n : ℕ) → part (front ++ X) (length front + o) n ≡ part X o n
part_at front X o n = part-after front X (length front) o n refl

group-part : (slot : ℕ) (group rest : List ℕ) (o n : ℕ) → length group ≡ 512 → o + n ≤ 512 → part (record_bytes (GW slot group) ++ rest) (4 + o) n ≡ part group o n
group-part slot group rest o n e h =
    sym (part-within (record_bytes (GW slot group) ++ rest) 4 512 o n h) ∙ ap (λ (x : List ℕ). part x o n) (part-GW slot group rest e)

header-part : (header rest : List ℕ) (o n : ℕ) → length header ≡ 64 → o + n ≤ 64 → part (record_bytes (KW header) ++ rest) (2 + o) n ≡ part header o n
header-part header rest o n e h =
    sym (part-within (record_bytes (KW header) ++ rest) 2 64 o n h) ∙ ap (λ (x : List ℕ). part x o n) (part-KW header rest e)

same-part : (xs : List ℕ) (a b n : ℕ) → a ≡ b → part xs a n ≡ part xs b n
same-part xs a b n e = ap (λ (i : ℕ). part xs i n) e

module _ (l : Grain) (G D next : ℕ) (log : List ℕ) (g₁ : 1 ≤ G) (g₂ : G ≤ 1024) (d : D ≤ 65535) where
  abbrev act : List ℕ → Cursor → Action
  act batch c = next_action (landing_of l) G D next batch c

  landing-low : landing_of l ≤ 1
  landing-low = go l
    where
      go : (k : Grain) → landing_of k ≤ 1
      go words = unfold landing_of in (omega arith)
      go blocks = unfold landing_of in (omega arith)

  landing-words : eqb (landing_of l) 0 ≡ is_words l
  landing-words = go l
    where
      go : (k : Grain) → eqb (landing_of k) 0 ≡ is_words k
      go words = unfold landing_of is_words in eq-eqb 0 0 refl
      go blocks = unfold landing_of is_words in ne_eqb 1 0 (λ e. omega (arith, e))

  may-ask : (batch : List ℕ) (at headed stage : ℕ) → at ≤ length batch → headed ≤ next → stage ≤ 2
      → asked (landing_of l) G next (length batch) (cursor at headed stage) ≡ true
  may-ask batch at headed stage a b c =
      true-asked (landing_of l) G next (length batch) (cursor at headed stage) (record { medium = landing-low; some = g₁; most = g₂; within = a; low = b; step = c })

  -- at the end
  act-done : (batch : List ℕ) (headed : ℕ) → headed ≤ next → act batch (cursor (length batch) headed 0) ≡ bare done (cursor (length batch) headed 0)
  unfolding next_action
  act-done batch headed low = rw (may-ask batch (length batch) headed 0 (omega arith) low (omega arith), eq-eqb (length batch) (length batch) refl)

  -- at a record
  act-record : (front X : List ℕ) (headed stage : ℕ) → 2 ≤ length X → headed ≤ next → stage ≤ 2
      → act (front ++ X) (cursor (length front) headed stage) ≡ record_action (is_words l) G D next X (cursor (length front) headed stage)
  unfolding next_action
  act-record front X headed stage h low s =
      let e : length (front ++ X) ≡ length front + length X = length-append front X in
      rw (
        may-ask (front ++ X) (length front) headed stage (omega (arith, e)) low s,
        ne_eqb (length front) (length (front ++ X)) (λ q. omega (arith, e, q, h)),
        le-leb (length front + 2) (length (front ++ X)) (omega (arith, e, h)),
        drop_at front X (length front) refl,
        landing-words,
      )

  -- one action, and what follows it
  hand-write : (batch : List ℕ) (c : Cursor) (area offset size source from at headed stage : ℕ) (p : Piece) (ms : List Motion) (h : ℕ)
      → act batch c ≡ write area offset size source from (cursor at headed stage)
      → piece_of batch log (write area offset size source from (cursor at headed stage)) ≡ p
      → Hands l G D next batch log (cursor at headed stage) ms h → Hands l G D next batch log c (put p ∷ ms) h
  unfolding write
  hand-write batch c area offset size source from at headed stage p ms h e q k = rw e ((refl, q), k)

  hand-fence : (batch : List ℕ) (c : Cursor) (at headed stage : ℕ) (ms : List Motion) (h : ℕ) → act batch c ≡ bare fencing (cursor at headed stage)
      → Hands l G D next batch log (cursor at headed stage) ms h → Hands l G D next batch log c (wait ∷ ms) h
  unfolding bare
  hand-fence batch c at headed stage ms h e k = rw e (refl, k)

  piece-log : (batch : List ℕ) (offset size from : ℕ) (c : Cursor) → piece_of batch log (write log_area offset size from_batch from c) ≡ to_log offset (part batch from size)
  unfolding piece_of bytes_of write
  piece-log batch offset size from c = refl

  piece-homes : (batch : List ℕ) (offset size from : ℕ) (c : Cursor) → piece_of batch log (write homes_area offset size from_batch from c) ≡ to_area offset (part batch from size)
  unfolding piece_of bytes_of write
  piece-homes batch offset size from c = refl

  piece-copy : (batch : List ℕ) (offset size from : ℕ) (c : Cursor) → piece_of batch log (write log_area offset size from_copy from c) ≡ to_log offset (part log from size)
  unfolding piece_of bytes_of write
  piece-copy batch offset size from c = refl

  -- the cursor past a record
  onward : (front bs B : List ℕ) (n headed : ℕ) (ms : List Motion) (h : ℕ) → length bs ≡ n
      → Hands l G D next ((front ++ bs) ++ B) log (cursor (length (front ++ bs)) headed 0) ms h
      → Hands l G D next (front ++ (bs ++ B)) log (cursor (length front + n) headed 0) ms h
  onward front bs B n headed ms h e k =
      let q : length (front ++ bs) ≡ length front + n = length-append front bs ∙ ap (λ (x : ℕ). length front + x) e in
      subst (λ (i : ℕ). Hands l G D next (front ++ (bs ++ B)) log (cursor i headed 0) ms h) q
      (subst (λ (x : List ℕ). Hands l G D next x log (cursor (length (front ++ bs)) headed 0) ms h) (append_assoc front bs B) k)

  -- ---- groups

  module _ (front B : List ℕ) (slot : ℕ) (group : List ℕ) (f : (slot < G) × (length group ≡ 512)) (headed : ℕ) (low : headed ≤ next) where
    abbrev X : List ℕ
    X = record_bytes (GW slot group) ++ B

    abbrev c : Cursor
    c = cursor (length front) headed 0

    long : 516 ≤ length X
    long = omega (arith, length-append (record_bytes (GW slot group)) B, length-GW slot group f.1)

    by-mark : record_action (is_words l) G D next X c ≡ group_action (is_words l) G X c
    unfolding record_action record_bytes part same
    by-mark = refl

    parts_is : parts (is_words l) X ≡ parted l group
    unfolding parts
    parts_is = rw (group-part slot group B 0 8 f.1 (omega arith)) (go l (same (part group 0 8) (zeros 8)) refl)
      where
        go : (k : Grain) (t : Bool) → same (part group 0 8) (zeros 8) ≡ t → (is_words k && not t) ≡ parted k group
        go words true e = unfold is_words parted in rw e
        go words false e = unfold is_words parted in rw e
        go blocks t e = unfold is_words parted in refl

    group-act : (t : Bool) → parted l group ≡ t
        → act (front ++ X) c
        ≡ cond t (write log_area (group_offset slot + 8) 504 from_batch (length front + 4 + 8) (cursor (length front + 516) headed 0))
        (write log_area (group_offset slot) 512 from_batch (length front + 4) (cursor (length front + 516) headed 0))
    unfolding group_action past
    group-act t e =
        act-record front X headed 0 (omega (arith, long)) low (omega arith) ∙ by-mark
        ∙ rw (le-leb 516 (length X) long, number-GW slot group B (omega (arith, f.0)), lt-ltb slot G f.0, parts_is, e) refl

    part-rest : part (front ++ X) (length front + 4 + 8) 504 ≡ drop 8 group
    part-rest =
        same-part (front ++ X) (length front + 4 + 8) (length front + (4 + 8)) 504 (omega arith) ∙ part_at front X (4 + 8) 504
        ∙ group-part slot group B 8 504 f.1 (omega arith) ∙ rest-drop group f.1

    part-all : part (front ++ X) (length front + 4) 512 ≡ group
    part-all = part_at front X 4 512 ∙ part-GW slot group B f.1

    group-hands : (ms : List Motion) (h : ℕ)
        → Hands l G D next ((front ++ record_bytes (GW slot group)) ++ B) log (cursor (length (front ++ record_bytes (GW slot group))) headed 0) ms h
        → Hands l G D next (front ++ X) log c (body l slot group ∷ ms) h
    unfolding body
    group-hands ms h k = go (onward front (record_bytes (GW slot group)) B 516 headed ms h (length-GW slot group f.1) k) (parted l group) refl
      where
        go : Hands l G D next (front ++ X) log (cursor (length front + 516) headed 0) ms h → (t : Bool) → parted l group ≡ t
            → Hands l G D next (front ++ X) log c (body l slot group ∷ ms) h
        go on true e =
            rw e
            (hand-write (front ++ X) c log_area (group_offset slot + 8) 504 from_batch (length front + 4 + 8) (length front + 516) headed 0
            (to_log (group_offset slot + 8) (drop 8 group)) ms h (group-act true e)
            (piece-log (front ++ X) (group_offset slot + 8) 504 (length front + 4 + 8) (cursor (length front + 516) headed 0)
            ∙ ap (to_log (group_offset slot + 8)) part-rest) on)
        go on false e =
            rw e
            (hand-write (front ++ X) c log_area (group_offset slot) 512 from_batch (length front + 4) (length front + 516) headed 0
            (to_log (group_offset slot) group) ms h (group-act false e)
            (piece-log (front ++ X) (group_offset slot) 512 (length front + 4) (cursor (length front + 516) headed 0)
            ∙ ap (to_log (group_offset slot)) part-all) on)

  -- ---- homes

  module _ (front B : List ℕ) (home : ℕ) (block : List ℕ) (f : (home < D) × (length block ≡ 64)) (headed : ℕ) (low : headed ≤ next) where
    abbrev XH : List ℕ
    XH = record_bytes (HW home block) ++ B

    abbrev c_h : Cursor
    c_h = cursor (length front) headed 0

    home-long : 68 ≤ length XH
    home-long = omega (arith, length-append (record_bytes (HW home block)) B, length-HW home block f.1)

    home-mark : record_action (is_words l) G D next XH c_h ≡ home_action D XH c_h
    unfolding record_action record_bytes part same
    home-mark = refl

    home-act : act (front ++ XH) c_h ≡ write homes_area (64 * home) 64 from_batch (length front + 4) (cursor (length front + 68) headed 0)
    unfolding home_action past
    home-act =
        act-record front XH headed 0 (omega (arith, home-long)) low (omega arith) ∙ home-mark
        ∙ rw (le-leb 68 (length XH) home-long, number-HW home block B (omega (arith, f.0, d)), lt-ltb home D f.0) refl

    home-hands : (ms : List Motion) (h : ℕ)
        → Hands l G D next ((front ++ record_bytes (HW home block)) ++ B) log (cursor (length (front ++ record_bytes (HW home block))) headed 0) ms h
        → Hands l G D next (front ++ XH) log c_h (put (to_area (64 * home) block) ∷ ms) h
    home-hands ms h k =
        hand-write (front ++ XH) c_h homes_area (64 * home) 64 from_batch (length front + 4) (length front + 68) headed 0 (to_area (64 * home) block) ms h home-act
        (piece-homes (front ++ XH) (64 * home) 64 (length front + 4) (cursor (length front + 68) headed 0)
        ∙ ap (to_area (64 * home)) (part_at front XH 4 64 ∙ part-HW home block B f.1))
        (onward front (record_bytes (HW home block)) B 68 headed ms h (length-HW home block f.1) k)

  -- ---- headers

  module _ (front B header : List ℕ) (f : length header ≡ 64) (headed : ℕ) (low : headed ≤ next) where
    abbrev XK : List ℕ
    XK = record_bytes (KW header) ++ B

    header-long : 66 ≤ length XK
    header-long = omega (arith, length-append (record_bytes (KW header)) B, length-KW header f)

    header-mark : (c : Cursor) → record_action (is_words l) G D next XK c ≡ header_action (is_words l) XK c
    unfolding record_action record_bytes part same
    header-mark c = refl

    header-act : (stage : ℕ) → stage ≤ 2 → act (front ++ XK) (cursor (length front) headed stage)
        ≡ cond (wiping (is_words l) XK) (wipe_action stage (cursor (length front) headed stage)) (whole_header (cursor (length front) headed stage))
    unfolding header_action
    header-act stage s =
        act-record front XK headed stage (omega (arith, header-long)) low s ∙ header-mark (cursor (length front) headed stage)
        ∙ rw (le-leb 66 (length XK) header-long) refl

    whole_is : (stage : ℕ) → whole_header (cursor (length front) headed stage) ≡ write log_area 0 64 from_batch (length front + 2) (cursor (length front + 66) headed 0)
    unfolding whole_header past
    whole_is stage = refl

    first_part : part XK 2 8 ≡ part header 0 8
    first_part = header-part header B 0 8 f (omega arith)

    wipes-words : same (part header 0 8) (zeros 8) ≡ true → wiping true XK ≡ true
    unfolding wiping
    wipes-words e = rw (first_part, e)

    wipes-not : same (part header 0 8) (zeros 8) ≡ false → wiping true XK ≡ false
    unfolding wiping
    wipes-not e = rw (first_part, e)

    on-header : (ms : List Motion) (h : ℕ)
        → Hands l G D next ((front ++ record_bytes (KW header)) ++ B) log (cursor (length (front ++ record_bytes (KW header))) headed 0) ms h
        → Hands l G D next (front ++ XK) log (cursor (length front + 66) headed 0) ms h
    on-header ms h k = onward front (record_bytes (KW header)) B 66 headed ms h (length-KW header f) k

    all-header : part (front ++ XK) (length front + 2) 64 ≡ header
    all-header = part_at front XK 2 64 ∙ part-KW header B f

    first_word : part (front ++ XK) (length front + 2) 8 ≡ take 8 header
    first_word = part_at front XK 2 8 ∙ first_part ∙ part-zero header 8

    -- all of it at once
    plain-hands : (ms : List Motion) (h stage : ℕ) → act (front ++ XK) (cursor (length front) headed stage) ≡ whole_header (cursor (length front) headed stage)
        → Hands l G D next (front ++ XK) log (cursor (length front + 66) headed 0) ms h
        → Hands l G D next (front ++ XK) log (cursor (length front) headed stage) (put (to_log 0 header) ∷ ms) h
    plain-hands ms h stage e k =
        hand-write (front ++ XK) (cursor (length front) headed stage) log_area 0 64 from_batch (length front + 2) (length front + 66) headed 0
        (to_log 0 header) ms h (e ∙ whole_is stage)
        (piece-log (front ++ XK) 0 64 (length front + 2) (cursor (length front + 66) headed 0) ∙ ap (to_log 0) all-header) k

    -- its first word and a fence before
    wiped-hands : (ms : List Motion) (h : ℕ) → wiping (is_words l) XK ≡ true
        → Hands l G D next (front ++ XK) log (cursor (length front + 66) headed 0) ms h
        → Hands l G D next (front ++ XK) log (cursor (length front) headed 0) (put (to_log 0 (take 8 header)) ∷ wait ∷ put (to_log 0 header) ∷ ms) h
    unfolding wipe_action
    wiped-hands ms h w k =
        let a₀ : act (front ++ XK) (cursor (length front) headed 0) ≡ write log_area 0 8 from_batch (length front + 2) (cursor (length front) headed 1) =
        header-act 0 (omega arith) ∙ rw w refl in
        let a₁ : act (front ++ XK) (cursor (length front) headed 1) ≡ bare fencing (cursor (length front) headed 2) = header-act 1 (omega arith) ∙ rw w refl in
        let a₂ : act (front ++ XK) (cursor (length front) headed 2) ≡ whole_header (cursor (length front) headed 2) = header-act 2 (omega arith) ∙ rw w refl in
        hand-write (front ++ XK) (cursor (length front) headed 0) log_area 0 8 from_batch (length front + 2) (length front) headed 1
        (to_log 0 (take 8 header)) (wait ∷ put (to_log 0 header) ∷ ms) h a₀
        (piece-log (front ++ XK) 0 8 (length front + 2) (cursor (length front) headed 1) ∙ ap (to_log 0) first_word)
        (hand-fence (front ++ XK) (cursor (length front) headed 1) (length front) headed 2 (put (to_log 0 header) ∷ ms) h a₁ (plain-hands ms h 2 a₂ k))

    header-hands : (ms : List Motion) (h : ℕ)
        → Hands l G D next ((front ++ record_bytes (KW header)) ++ B) log (cursor (length (front ++ record_bytes (KW header))) headed 0) ms h
        → Hands l G D next (front ++ XK) log (cursor (length front) headed 0) (wipe l header ++ (put (to_log 0 header) ∷ ms)) h
    unfolding wipe is_words wiping
    header-hands ms h k = go (on-header ms h k) l refl (same (part header 0 8) (zeros 8)) refl
      where
        go : Hands l G D next (front ++ XK) log (cursor (length front + 66) headed 0) ms h → (n : Grain) → l ≡ n → (t : Bool)
            → same (part header 0 8) (zeros 8) ≡ t
            → Hands l G D next (front ++ XK) log (cursor (length front) headed 0) (wipe n header ++ (put (to_log 0 header) ∷ ms)) h
        go on words q true e = rw e (wiped-hands ms h (rw (q, first_part, e) refl) on)
        go on words q false e = rw e (plain-hands ms h 0 (header-act 0 (omega arith) ∙ rw (q, first_part, e) refl) on)
        go on blocks q t e = plain-hands ms h 0 (header-act 0 (omega arith) ∙ rw q refl) on

  -- ---- fences

  module _ (front B : List ℕ) where
    abbrev XF : List ℕ
    XF = record_bytes FN ++ B

    fence-act : (headed stage : ℕ) → headed ≤ next → stage ≤ 2 → act (front ++ XF) (cursor (length front) headed stage) ≡ fence_action (is_words l) G next (cursor (length front) headed stage)
    fence-act headed stage low s =
        act-record front XF headed stage (omega (arith, length-append (record_bytes FN) B, length-FN)) low s ∙ (unfold record_action record_bytes part same in refl)

    on-fence : (headed : ℕ) (ms : List Motion) (h : ℕ)
        → Hands l G D next ((front ++ record_bytes FN) ++ B) log (cursor (length (front ++ record_bytes FN)) headed 0) ms h
        → Hands l G D next (front ++ XF) log (cursor (length front + 2) headed 0) ms h
    on-fence headed ms h k = onward front (record_bytes FN) B 2 headed ms h length-FN k

    -- no first word is due
    last-hands : (headed stage : ℕ) (ms : List Motion) (h : ℕ) → headed ≤ next → stage ≤ 2 → due (is_words l) headed next ≡ false
        → Hands l G D next (front ++ XF) log (cursor (length front + 2) headed 0) ms h
        → Hands l G D next (front ++ XF) log (cursor (length front) headed stage) (wait ∷ ms) h
    unfolding fence_action past
    last-hands headed stage ms h low s e k =
        hand-fence (front ++ XF) (cursor (length front) headed stage) (length front + 2) headed 0 ms h (fence-act headed stage low s ∙ rw e refl) k

    not-due : (headed : ℕ) → next - headed ≡ 0 → due (is_words l) headed next ≡ false
    unfolding due
    not-due headed e = rw (le-ltb headed next (omega (arith, e))) (go (is_words l))
      where
        go : (t : Bool) → (t && false) ≡ false
        go true = refl
        go false = refl

    module _ (w : is_words l ≡ true) where
      is-due : (headed n : ℕ) → next - headed ≡ suc n → due (is_words l) headed next ≡ true
      unfolding due
      is-due headed n e = rw (w, lt-ltb headed next (omega (arith, e)))

      -- n first words are due, and the fence before them has been
      words-hand : (n headed : ℕ) (ms : List Motion) (h : ℕ) → headed ≤ next → next - headed ≡ n
          → Hands l G D next (front ++ XF) log (cursor (length front + 2) (headed + n) 0) ms h
          → Hands l G D next (front ++ XF) log (cursor (length front) headed 1) (words_from G log headed n ++ (wait ∷ ms)) h
      unfolding words_from fence_action due_action
      words-hand zero headed ms h low e k =
          let z : headed + 0 ≡ headed = omega arith in
          last-hands headed 1 ms h low (omega arith) (not-due headed e) (rw z at k)
      words-hand (suc n) headed ms h low e k =
          let z : headed + suc n ≡ headed + 1 + n = omega arith in
          let o : ℕ = group_offset (headed % G) in
          hand-write (front ++ XF) (cursor (length front) headed 1) log_area o 8 from_copy o (length front) (headed + 1) 1 (to_log o (part log o 8))
          (words_from G log (headed + 1) n ++ (wait ∷ ms)) h (fence-act headed 1 low (omega arith) ∙ rw (is-due headed n e) refl)
          (piece-copy (front ++ XF) o 8 o (cursor (length front) (headed + 1) 1)) (words-hand n (headed + 1) ms h (omega (arith, e)) (omega (arith, e)) (rw z at k))

      due-hands : (n headed : ℕ) (ms : List Motion) (h : ℕ) → headed ≤ next → next - headed ≡ n
          → Hands l G D next (front ++ XF) log (cursor (length front + 2) (headed + n) 0) ms h
          → Hands l G D next (front ++ XF) log (cursor (length front) headed 0) (heads_out (words_from G log headed n) ++ (wait ∷ ms)) h
      unfolding words_from heads_out fence_action due_action
      due-hands zero headed ms h low e k =
          let z : headed + 0 ≡ headed = omega arith in
          last-hands headed 0 ms h low (omega arith) (not-due headed e) (rw z at k)
      due-hands (suc n) headed ms h low e k =
          hand-fence (front ++ XF) (cursor (length front) headed 0) (length front) headed 1 (words_from G log headed (suc n) ++ (wait ∷ ms)) h
          (fence-act headed 0 low (omega arith) ∙ rw (is-due headed n e) refl) (words-hand (suc n) headed ms h low e k)

    fence-hands : (headed : ℕ) (waiting ms : List Motion) (h : ℕ) → headed ≤ next → waiting ≡ words_due l G log headed next
        → Hands l G D next ((front ++ record_bytes FN) ++ B) log (cursor (length (front ++ record_bytes FN)) (headed_at l headed next) 0) ms h
        → Hands l G D next (front ++ XF) log (cursor (length front) headed 0) (heads_out waiting ++ (wait ∷ ms)) h
    unfolding words_due headed_at heads_out is_words due
    fence-hands headed waiting ms h low e k = go l refl e (on-fence (headed_at l headed next) ms h k)
      where
        go : (n : Grain) → l ≡ n → waiting ≡ words_due n G log headed next
            → Hands l G D next (front ++ XF) log (cursor (length front + 2) (headed_at n headed next) 0) ms h
            → Hands l G D next (front ++ XF) log (cursor (length front) headed 0) (heads_out waiting ++ (wait ∷ ms)) h
        go words q e k = rw e (due-hands (rw q refl) (next - headed) headed ms h low refl k)
        go blocks q e k = rw e (last-hands headed 0 ms h low (omega arith) (rw q refl) k)

  -- ---- every record

  headed-low : (headed : ℕ) → headed ≤ next → headed_at l headed next ≤ next
  headed-low headed low = go l
    where
      go : (k : Grain) → headed_at k headed next ≤ next
      go words = unfold headed_at in (omega arith)
      go blocks = unfold headed_at in low

  moves : (rs : List Record) (front : List ℕ) (headed : ℕ) (waiting : List Motion) → headed ≤ next → Fitting G D rs → Due l G log next headed waiting rs
      → Hands l G D next (front ++ batch_bytes rs) log (cursor (length front) headed 0) (motions l waiting rs) (headed_after l headed next rs)
  unfolding batch_bytes motions headed_after
  moves [] front headed waiting low f due =
      (rw (append-nil front) (act-done front headed low), refl)
  moves (GW slot group ∷ rs) front headed waiting low f due =
      group-hands front (batch_bytes rs) slot group f.0 headed low (motions l (waiting ++ head l slot group) rs) (headed_after l headed next rs)
      (moves rs (front ++ record_bytes (GW slot group)) headed (waiting ++ head l slot group) low f.1 due)
  moves (HW home block ∷ rs) front headed waiting low f due =
      home-hands front (batch_bytes rs) home block f.0 headed low (motions l waiting rs) (headed_after l headed next rs)
      (moves rs (front ++ record_bytes (HW home block)) headed waiting low f.1 due)
  moves (KW header ∷ rs) front headed waiting low f due =
      header-hands front (batch_bytes rs) header f.0 headed low (motions l waiting rs) (headed_after l headed next rs)
      (moves rs (front ++ record_bytes (KW header)) headed waiting low f.1 due)
  moves (FN ∷ rs) front headed waiting low f due-now =
      fence-hands front (batch_bytes rs) headed waiting (motions l [] rs) (headed_after l (headed_at l headed next) next rs) low due-now.0
      (moves rs (front ++ record_bytes FN) (headed_at l headed next) [] (headed-low headed low) f due-now.1)

pub runner-moves : RunnerMoves
runner-moves l G D next headed log waiting rs g₁ g₂ d low f due = moves l G D next log g₁ g₂ d rs [] headed waiting low f due
