-- What is planned for a round's step, and what bringing its homes back gives. Assumes nothing.
use mathlib.Core.Path.{◌≡◌, sym, ap, ◌∙◌}
use mathlib.Core.Logic.{◌⊎◌, inl, inr}
use mathlib.Core.Bool.{Bool, true, false, cond}
use mathlib.Core.List.{List}
use Prim.Native.Nat.{ℕ, ◌+◌, ◌-◌, ◌*◌, ◌≤◌, ◌<◌}
use native.Mathlib.Decide.{dec_le, ℕ_discrete}
use native.Mathlib.Omega.{arith}
use lib.Dec.{leb, ltb}
use lib.ListN.{length, get_or, take}
use lib.Seq.{take_all, length-take-le}
use borrow.Author.Tests.{lt-leb, lt-ltb}
use Rattle.model.specs.Bytes.{puts}
use Rattle.model.specs.Layout.{entry_at}
use Rattle.model.specs.Batch.{batch_bytes}
use Rattle.model.specs.Effects.{home_writes, restored_homes}
use Rattle.log_scan.specs.Walk.{Walkable, closed_below}
use Rattle.log_replay.specs.Words.{touches}
use Rattle.log_replay.specs.Steps.{span, Stepped, Left}
use Rattle.log_replay.proofs.StepLaws.{due-span, due-length, length-span, span-in, span-take, span_last, restored-homes}
use Rattle.log_tables.specs.Plans.{remaining}

-- ---- how many homes

module _ (due : List ℕ) (limit r d : ℕ) (exact : r ≤ limit → r ≡ length due) (few : r ≤ length due) (least : (d ≤ r) × (d ≤ limit) × ((d ≡ r) ⊎ (d ≡ limit))) where
  pub planned-more : ltb limit r ≡ ltb limit (length due)
  planned-more = go (dec_le r limit)
    where
      go : Dec (r ≤ limit) → ltb limit r ≡ ltb limit (length due)
      go (yes l) = ap (ltb limit) (exact l)
      go (no l) = lt-ltb limit r (omega arith) ∙ sym (lt-ltb limit (length due) (omega arith))

  pub planned-last : leb r limit ≡ leb (length due) limit
  planned-last = go (dec_le r limit)
    where
      go : Dec (r ≤ limit) → leb r limit ≡ leb (length due) limit
      go (yes l) = ap (λ (x : ℕ). leb x limit) (exact l)
      go (no l) = lt-leb r limit (omega arith) ∙ sym (lt-leb (length due) limit (omega arith))

  lesser : (limit < r) ⊎ (r ≤ limit) → (d ≡ r) ⊎ (d ≡ limit) → ((d ≡ limit) × (limit < r)) ⊎ ((d ≡ length due) × (length due ≤ limit))
  lesser (inl l) (inl e) = absurd (omega (arith, least.1))
  lesser (inl l) (inr e) = inl (e, l)
  lesser (inr l) (inl e) = inr (e ∙ exact l, omega (arith, exact l))
  lesser (inr l) (inr e) = inr (omega (arith, exact l, least.0), omega (arith, exact l))

  either : ((d ≡ limit) × (limit < r)) ⊎ ((d ≡ length due) × (length due ≤ limit))
  either = lesser (go (dec_le r limit)) least.2
    where
      go : Dec (r ≤ limit) → (limit < r) ⊎ (r ≤ limit)
      go (yes l) = inr l
      go (no l) = inl (omega arith)

  pub planned-few : d ≤ length due
  planned-few = omega (arith, least.0)

  pub planned-take : take d due ≡ take limit due
  planned-take = go either
    where
      go : ((d ≡ limit) × (limit < r)) ⊎ ((d ≡ length due) × (length due ≤ limit)) → take d due ≡ take limit due
      go (inl e) = ap (λ (x : ℕ). take x due) e.0
      go (inr e) = take_all d due (omega arith) ∙ sym (take_all limit due e.1)

  pub planned-length : length (take limit due) ≡ d
  planned-length = ap length (sym planned-take) ∙ length-take-le d due planned-few

  pub planned-full : limit < r → d ≡ limit
  planned-full l = go either
    where
      go : ((d ≡ limit) × (limit < r)) ⊎ ((d ≡ length due) × (length due ≤ limit)) → d ≡ limit
      go (inl e) = e.0
      go (inr e) = absurd (omega arith)

-- ---- what bringing them back gives

module _ (log : List ℕ) (groups homes start end : ℕ) (w : Walkable log groups start end) (cursor limit r d : ℕ)
    (exact : r ≤ limit → r ≡ length (span (touches log groups homes start end) cursor (homes - cursor)))
    (few : r ≤ length (span (touches log groups homes start end) cursor (homes - cursor)))
    (least : (d ≤ r) × (d ≤ limit) × ((d ≡ r) ⊎ (d ≡ limit))) where
  abbrev due : List ℕ
  due = remaining log groups homes start end cursor

  same : due ≡ span (touches log groups homes start end) cursor (homes - cursor)
  same = due-span log groups homes start end w cursor

  exact' : r ≤ limit → r ≡ length due
  exact' l = exact l ∙ sym (ap length same)

  few' : r ≤ length due
  few' = omega (arith, few, ap length same)

  pub made-most : r ≤ homes
  made-most = omega (arith, few', due-length log groups homes start end w cursor)

  pub made-size : (size : ℕ) → size ≡ 68 * d + cond (leb r limit) 2 0 → size ≡ 68 * length (take limit due) + cond (leb (length due) limit) 2 0
  made-size size e =
      e ∙ rw (← planned-last due limit r d exact' few' least, planned-length due limit r d exact' few' least)

  pub made-limit : d ≤ length (span (touches log groups homes start end) cursor (homes - cursor))
  made-limit = omega (arith, least.0, few)

  pub made_more : (more : Bool) → more ≡ ltb limit r → more ≡ ltb limit (length due)
  made_more more e = e ∙ planned-more due limit r d exact' few' least

  module _ (area batch : List ℕ) (home bound k : ℕ) (a b : List ℕ) (is : k ≡ d)
      (s : Stepped log groups homes start end cursor home 0 bound area batch home k a b) where
    now-is : span (touches log groups homes start end) cursor (home - cursor) ≡ take limit due
    now-is =
        let n : length (span (touches log groups homes start end) cursor (home - cursor)) ≡ d = omega (arith, s.counted, is) in
        span-take log groups homes start end w cursor home s.rises
        ∙ ap (λ (x : ℕ). take x due) n ∙ planned-take due limit r d exact' few' least

    pub made-copied : a ≡ restored_homes log groups (entry_at log groups homes start) (closed_below log groups homes start end) (take limit due) area
    made-copied =
        s.copied
        ∙ restored-homes log groups homes start end w (span (touches log groups homes start end) cursor (home - cursor)) area
        (λ h i. (span-in (touches log groups homes start end) cursor (home - cursor) h i).2)
        ∙ ap (λ (hs : List ℕ). restored_homes log groups (entry_at log groups homes start) (closed_below log groups homes start end) hs area) now-is

    pub made-written : b ≡ puts batch 0 (batch_bytes (home_writes a (take limit due)))
    made-written = s.written ∙ ap (λ (hs : List ℕ). puts batch 0 (batch_bytes (home_writes a hs))) now-is

    pub made-moved : (limit < r → d ≡ bound) → limit < r → 1 ≤ limit → home ≡ get_or due (limit - 1) 0 + 1
    made-moved full l o =
        let e : d ≡ limit = planned-full due limit r d exact' few' least l in
        let q = s.last_done (omega (arith, e, is, o)) (is ∙ full l) in
        let n : length (span (touches log groups homes start end) cursor (home - cursor)) - 1 ≡ limit - 1 = omega (arith, s.counted, is, e) in
        sym (ap (λ (x : ℕ). get_or due x 0 + 1) (sym n) ∙ span_last log groups homes start end w cursor home q.0 q.1)

-- ---- homes brought back before they are counted

-- with room for as many as the limit and the homes allow: those done and those seen after them
module _ (f : ℕ → Bool) (homes cursor limit most done rest : ℕ) (t : Left f homes cursor most done rest)
    (m : (most ≤ limit) × (most ≤ homes) × ((most ≡ limit) ⊎ (most ≡ homes))) (k : done ≤ most) where
  some_left : 0 < rest → most ≡ limit
  some_left z = go m.2
    where
      go : (most ≡ limit) ⊎ (most ≡ homes) → most ≡ limit
      go (inl e) = e
      go (inr e) = absurd (omega (arith, e, z, t.some z, t.most, length-span f cursor (homes - cursor)))

  pub seen-exact : done + rest ≤ limit → done + rest ≡ length (span f cursor (homes - cursor))
  seen-exact l = go (ℕ_discrete rest 0)
    where
      go : Dec (rest ≡ 0) → done + rest ≡ length (span f cursor (homes - cursor))
      go (yes z) = omega (arith, z, t.all z)
      go (no z) = absurd (omega (arith, z, l, t.some (omega (arith, z)), some_left (omega (arith, z))))

  pub seen-least : (done ≤ done + rest) × (done ≤ limit) × ((done ≡ done + rest) ⊎ (done ≡ limit))
  seen-least = (omega arith, omega (arith, k, m.0), go (ℕ_discrete rest 0))
    where
      go : Dec (rest ≡ 0) → (done ≡ done + rest) ⊎ (done ≡ limit)
      go (yes z) = inl (omega (arith, z))
      go (no z) = inr (t.some (omega (arith, z)) ∙ some_left (omega (arith, z)))

  pub seen-full : limit < done + rest → done ≡ most
  seen-full l = t.some (omega (arith, l, k, m.0))

  pub seen_few : done + rest ≤ homes
  seen_few = omega (arith, t.most, length-span f cursor (homes - cursor))

-- as many as there are
pub all_done : (f : ℕ → Bool) (homes cursor d k rest : ℕ) → Left f homes cursor d k rest → k ≤ d → d ≤ length (span f cursor (homes - cursor)) → k ≡ d
all_done f homes cursor d k rest t l m = go (ℕ_discrete rest 0)
  where
    go : Dec (rest ≡ 0) → k ≡ d
    go (yes z) = omega (arith, l, m, t.all z)
    go (no z) = t.some (omega (arith, z))

-- a fence's bytes
pub fence-few : (found limit size : ℕ) → size ≡ cond (leb found limit) 2 0 → size ≤ 2
fence-few found limit size e = go (leb found limit) e
  where
    go : (b : Bool) → size ≡ cond b 2 0 → size ≤ 2
    go true e = omega arith
    go false e = omega arith
