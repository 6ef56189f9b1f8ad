-- An event's outcome, question by question. Assumes nothing.
use mathlib.Core.Path.{◌≡◌, refl, sym, ◌∙◌}
use mathlib.Core.Bool.{Bool, true, false, cond}
use mathlib.Core.List.{List}
use Prim.Native.Nat.{ℕ, ◌+◌, ◌^◌, ◌≤◌, ◌<◌}
use native.Mathlib.Omega.{arith}
use borrow.Author.Tests.{ne_eqb, lt-ltb, le-ltb, ltb-true, ltb-false}
use lib.Dec.{ltb}
use Rattle.unit_hours_book.specs.Pump.{Pump, pump, pump_of, block_of}
use Rattle.unit_hours_book.specs.Events.{Event, start_at, stop_at, late, total_at, answer, after, leaves, settled, applied}

-- refused and done, where `p` is what the block holds
module _ (block : List ℕ) (e : Event) {p : Pump} (q : p ≡ pump_of block) where
  pub refusal : {code : ℕ} → code ≡ answer p e → (code ≡ 0 → ⊥) → leaves code block ≡ applied block e
  unfolding applied settled
  refusal {code} a n = rw (← q, ← a, ne_eqb code 0 n)

  pub completion : {code : ℕ} {out : List ℕ} → code ≡ answer p e → code ≡ 0 → out ≡ block_of (after p e) → leaves 0 out ≡ applied block e
  unfolding applied settled
  completion a z w = let h : answer p e ≡ 0 = sym a ∙ z in rw (← q, h, w)

module _ (p : Pump) (s : ℕ) where
  pub start-running : p.running ≡ true → 15 ≡ answer p (start_at s)
  unfolding answer
  start-running h = rw h

  pub start-idle : p.running ≡ false → answer p (start_at s) ≡ late p s (p.starts + 1)
  unfolding answer
  start-idle h = rw h

  pub stop-running : p.running ≡ true → answer p (stop_at s) ≡ late p s (total_at p s)
  unfolding answer
  stop-running h = rw h

  pub stop-idle : p.running ≡ false → 15 ≡ answer p (stop_at s)
  unfolding answer
  stop-idle h = rw h

  pub late-before : (n : ℕ) → s < p.last → 16 ≡ late p s n
  unfolding late
  late-before n h = rw (lt-ltb s p.last h)

  pub late-fits : (n : ℕ) → p.last ≤ s → n < 2 ^ 32 → 0 ≡ late p s n
  unfolding late
  late-fits n h l = rw (le-ltb s p.last h, lt-ltb n (2 ^ 32) l)

  pub late-past : (n : ℕ) → p.last ≤ s → 2 ^ 32 ≤ n → 16 ≡ late p s n
  unfolding late
  late-past n h l = rw (le-ltb s p.last h, le-ltb n (2 ^ 32) l)

-- what a done event has shown
late-done : (p : Pump) (s n : ℕ) → late p s n ≡ 0 → (p.last ≤ s) × (n < 2 ^ 32)
unfolding late
late-done p s n = go (ltb s p.last) (ltb n (2 ^ 32)) refl refl
  where
    go : (a b : Bool) → ltb s p.last ≡ a → ltb n (2 ^ 32) ≡ b → ◌≡◌ {A = ℕ} (cond a 16 (cond b 0 16)) 0 → (p.last ≤ s) × (n < 2 ^ 32)
    go true b h l z = absurd (omega arith)
    go false true h l z = (ltb-false s p.last h, ltb-true n (2 ^ 32) l)
    go false false h l z = absurd (omega arith)

pub start-done : (p : Pump) (s : ℕ) → answer p (start_at s) ≡ 0 → (p.running ≡ false) × (p.last ≤ s) × (p.starts + 1 < 2 ^ 32)
unfolding answer
start-done p s = go p.running refl
  where
    go : (r : Bool) → p.running ≡ r → ◌≡◌ {A = ℕ} (cond r 15 (late p s (p.starts + 1))) 0 → (p.running ≡ false) × (p.last ≤ s) × (p.starts + 1 < 2 ^ 32)
    go true h z = absurd (omega arith)
    go false h z = let d = late-done p s (p.starts + 1) z in (h, d.0, d.1)

pub stop-done : (p : Pump) (s : ℕ) → answer p (stop_at s) ≡ 0 → (p.running ≡ true) × (p.last ≤ s) × (total_at p s < 2 ^ 32)
unfolding answer
stop-done p s = go p.running refl
  where
    go : (r : Bool) → p.running ≡ r → ◌≡◌ {A = ℕ} (cond r (late p s (total_at p s)) 15) 0 → (p.running ≡ true) × (p.last ≤ s) × (total_at p s < 2 ^ 32)
    go true h z = let d = late-done p s (total_at p s) z in (h, d.0, d.1)
    go false h z = absurd (omega arith)

-- the code's sum is taken only where the second is behind the last event
pub total-before : (p : Pump) (s : ℕ) → s ≤ p.last → p.total ≡ total_at p s
unfolding total_at
total-before p s h = omega arith

-- the records that the code makes
pub after-start : (p : Pump) (s : ℕ) → pump (p.starts + 1) p.total s true ≡ after p (start_at s)
unfolding after
after-start p s = refl

pub after_stop : (p : Pump) (s : ℕ) {n : ℕ} → n ≡ total_at p s → pump p.starts n s false ≡ after p (stop_at s)
unfolding after
after_stop p s h = rw h
