-- What the definitions promise, read off the request and not off their text.
use Rattle.std.specs.Prelude.{ℕ, ◌+◌, ◌*◌, ◌%◌, ◌≤◌, ◌<◌, ◌≡◌, Bool, false, ◌||◌, cond, eqb, length, take, drop, get_or}
use mathlib.Core.List.{List, [], ◌∷◌, ◌++◌, Memᴰ}
use Rattle.alone_gauges.specs.Readings.{Reading, readings}
use Rattle.alone_gauges.specs.Report.{Line, line, difference, report, of_kind, encode}
use Rattle.alone_gauges.specs.Compare.{compare_gauges}

-- a strip holds bytes
abbrev pub Bytes : List ℕ → Type 0
Bytes bytes = (i : ℕ) → get_or bytes i 0 < 256

-- a list has a minute, with so many millimetres
abbrev pub Has : List Reading → ℕ → ℕ → Type 0
Has xs m a = Memᴰ (record { minute = m; level = a }) xs

abbrev pub Lacks : List Reading → ℕ → Type 0
Lacks xs m = (a : ℕ) → Has xs m a → ⊥

-- each number is below every later one
abbrev pub Rises : List ℕ → Type 0
Rises ms = (i j : ℕ) → i < j → j < length ms → get_or ms i 0 < get_or ms j 0

abbrev pub minutes_of : List Reading → List ℕ
minutes_of [] = []
minutes_of (r ∷ rs) = r.minute ∷ minutes_of rs

abbrev pub minutes_in : List Line → List ℕ
minutes_in [] = []
minutes_in (l ∷ ls) = l.minute ∷ minutes_in ls

-- how many different numbers stand in a list: those that do not come again
unfoldable pub among : ℕ → List ℕ → Bool
among m [] = false
among m (k ∷ ks) = eqb k m || among m ks

unfoldable pub different : List ℕ → ℕ
different [] = 0
different (m ∷ ms) = cond (among m ms) 0 1 + different ms

-- the kind that a minute's line must show
pub data Right (tolerance : ℕ) (xs ys : List Reading) (m : ℕ) : ℕ → Type 0 where
  agreeing : {a b : ℕ} → Has xs m a → Has ys m b → difference a b ≤ tolerance → Right tolerance xs ys m 1
  differing : {a b : ℕ} → Has xs m a → Has ys m b → tolerance < difference a b → Right tolerance xs ys m 2
  only_first : {a : ℕ} → Has xs m a → Lacks ys m → Right tolerance xs ys m 3
  only_second : {b : ℕ} → Lacks xs m → Has ys m b → Right tolerance xs ys m 4

-- "Every minute in either is reported once, rising, and the four counts given, each the lines of its kind, add up to the different minutes."
pub record Reported (tolerance : ℕ) (xs ys : List Reading) (lines : List Line) : Type 0 where
  pub every_first : (m a : ℕ) → Has xs m a → Memᴰ m (minutes_in lines)
  pub every_second : (m b : ℕ) → Has ys m b → Memᴰ m (minutes_in lines)
  pub rises : Rises (minutes_in lines)
  pub right : (m k : ℕ) → Memᴰ (line m k) lines → Right tolerance xs ys m k
  pub all : (m k : ℕ) → Right tolerance xs ys m k → Memᴰ (line m k) lines
  pub sum : of_kind 1 lines + of_kind 2 lines + of_kind 3 lines + of_kind 4 lines ≡ different (minutes_of xs ++ minutes_of ys)

-- what is asked of a list, and of all that is lent
pub record Sound (bytes : List ℕ) : Type 0 where
  pub whole : length bytes % 4 ≡ 0
  pub short : length (readings bytes) ≤ 1440
  pub strict : Rises (minutes_of (readings bytes))

pub record Asked (first second output : List ℕ) : Type 0 where
  pub first_sound : Sound first
  pub second_sound : Sound second
  pub room : 3 * different (minutes_of (readings first) ++ minutes_of (readings second)) ≤ length output

-- a call that is done: its report, its counts, its output
pub record Done (first second output : List ℕ) (tolerance : ℕ) (lines : List Line) : Type 0 where
  pub reported : Reported tolerance (readings first) (readings second) lines
  pub agreeing : (compare_gauges first second output tolerance).agreeing ≡ of_kind 1 lines
  pub differing : (compare_gauges first second output tolerance).differing ≡ of_kind 2 lines
  pub only_first : (compare_gauges first second output tolerance).only_first ≡ of_kind 3 lines
  pub only_second : (compare_gauges first second output tolerance).only_second ≡ of_kind 4 lines
  pub size : length (compare_gauges first second output tolerance).output ≡ length output
  pub front : take (3 * length lines) (compare_gauges first second output tolerance).output ≡ encode lines
  pub rest : drop (3 * length lines) (compare_gauges first second output tolerance).output ≡ drop (3 * length lines) output

-- "no output is touched"; counts are zero
pub record Refused (first second output : List ℕ) (tolerance : ℕ) : Type 0 where
  pub code : (compare_gauges first second output tolerance).code ≡ 22
  pub agreeing : (compare_gauges first second output tolerance).agreeing ≡ 0
  pub differing : (compare_gauges first second output tolerance).differing ≡ 0
  pub only_first : (compare_gauges first second output tolerance).only_first ≡ 0
  pub only_second : (compare_gauges first second output tolerance).only_second ≡ 0
  pub untouched : (compare_gauges first second output tolerance).output ≡ output

-- for bytes of any contents and length: done with such a report if what is asked holds, else 22 [S-71]
pub record Guarantee (first second output : List ℕ) (tolerance : ℕ) : Type 0 where
  pub done :
      Asked first second output →
      ((compare_gauges first second output tolerance).code ≡ 0)
      × Done first second output tolerance (report tolerance (readings first) (readings second))
  pub refused : (Asked first second output → ⊥) → Refused first second output tolerance
