-- Laws of the definitions of specs/Bytes. A law takes its variables in the order in which its left side first names them, then its premises.
-- Assumes nothing.
use mathlib.Core.Path.{◌≡◌, refl, sym, ap, ◌∙◌}
use mathlib.Core.Bool.{Bool, true, false, ◌&&◌}
use mathlib.Core.List.{List, [], ◌∷◌, ◌++◌, append-nil}
use Prim.Native.Nat.{ℕ, zero, suc, ◌+◌, ◌-◌, ◌*◌, ◌/◌, ◌%◌, ◌^◌, ◌≤◌, ◌<◌}
use native.Mathlib.Nat.{pow-suc, pow-le-pow_right, lt_of_lt_of_le, suc-add, zero-add}
use native.Mathlib.Numerals.{add-one}
use native.Mathlib.Omega.{arith}
use borrow.Author.Tests.{eq-eqb, eqb-true}
use lib.Dec.{eqb, lit≤}
use lib.ListN.{length, take, drop, set, get_or, length-take, length-drop, length-replicate}
use lib.Seq.{sets, drop-cons, drop-length, drop-drop, take-take, take_all, get_or-drop}
use Rattle.model.specs.Bytes.{part, puts, zeros, bytes, value, number, put_number, same}

-- ---- puts

pub puts-nil : (d : List ℕ) (at : ℕ) → puts d at [] ≡ d
unfolding puts
puts-nil [] at = refl
puts-nil (x ∷ d) zero = refl
puts-nil (x ∷ d) (suc at) = ap {B = List ℕ} (λ r. x ∷ r) (puts-nil d at)

puts-set : (d : List ℕ) (at v : ℕ) (s : List ℕ) → puts d at (v ∷ s) ≡ puts (set d at v) (suc at) s
unfolding puts
puts-set [] at v s = refl
puts-set (x ∷ d) zero v s = refl
puts-set (x ∷ d) (suc at) v s = ap {B = List ℕ} (λ r. x ∷ r) (puts-set d at v s)

-- a store, and what is left to store after it
pub puts-cons : (d : List ℕ) (at v : ℕ) (s : List ℕ) → puts (set d at v) (at + 1) s ≡ puts d at (v ∷ s)
puts-cons d at v s = rw (add-one, puts-set)

-- the same as a run of stores
pub puts-sets : (d : List ℕ) (at : ℕ) (s : List ℕ) → puts d at s ≡ sets d at s
puts-sets d at [] = puts-nil d at
puts-sets d at (v ∷ s) = puts-set d at v s ∙ puts-sets (set d at v) (suc at) s

pub length-puts : (d : List ℕ) (at : ℕ) (s : List ℕ) → length (puts d at s) ≡ length d
unfolding puts
length-puts [] at s = refl
length-puts (x ∷ d) (suc at) s = ap suc (length-puts d at s)
length-puts (x ∷ d) zero [] = refl
length-puts (x ∷ d) zero (y ∷ s) = ap suc (length-puts d zero s)

pub puts-append : (d : List ℕ) (at : ℕ) (s t : List ℕ) → puts d at (s ++ t) ≡ puts (puts d at s) (at + length s) t
unfolding puts
puts-append [] at s t = refl
puts-append (x ∷ d) (suc at) s t = rw suc-add (ap {B = List ℕ} (λ r. x ∷ r) (puts-append d at s t))
puts-append (x ∷ d) zero [] t = refl
puts-append (x ∷ d) zero (y ∷ s) t =
    let e : puts d zero (s ++ t) ≡ puts (puts d zero s) (length s) t = rw zero-add at (puts-append d zero s t) in
    rw zero-add (ap {B = List ℕ} (λ r. y ∷ r) e)

-- what lies past the end is dropped
pub puts-past : (d : List ℕ) (at : ℕ) (s : List ℕ) → length d ≤ at → puts d at s ≡ d
unfolding puts
puts-past [] at s h = refl
puts-past (x ∷ d) (suc at) s h = ap {B = List ℕ} (λ r. x ∷ r) (puts-past d at s (omega arith))
puts-past (x ∷ d) zero s h = absurd (omega arith)

pub puts_whole : (d s : List ℕ) → length d ≡ length s → puts d 0 s ≡ s
unfolding puts
puts_whole [] [] h = refl
puts_whole [] (y ∷ s) h = absurd (omega arith)
puts_whole (x ∷ d) [] h = absurd (omega arith)
puts_whole (x ∷ d) (y ∷ s) h = ap {B = List ℕ} (λ r. y ∷ r) (puts_whole d s (omega arith))

pub puts-front : (a r s : List ℕ) → length a ≡ length s → puts (a ++ r) 0 s ≡ s ++ r
unfolding puts
puts-front [] r [] h = puts-nil r 0
puts-front [] r (y ∷ s) h = absurd (omega arith)
puts-front (x ∷ a) r [] h = absurd (omega arith)
puts-front (x ∷ a) r (y ∷ s) h = ap {B = List ℕ} (λ l. y ∷ l) (puts-front a r s (omega arith))

-- a copy's turn and its end: what is left to store, drop j s, goes in from `at` on
pub puts-turn : (d : List ℕ) (at : ℕ) (s : List ℕ) (j : ℕ) → j < length s
    → puts (set d at (get_or s j 0)) (at + 1) (drop (j + 1) s) ≡ puts d at (drop j s)
puts-turn d at s j h = rw (puts-cons, add-one, drop-cons s j 0)

pub puts-end : (d : List ℕ) (at : ℕ) (s : List ℕ) (j : ℕ) → j ≤ length s → length s ≤ j → puts d at (drop j s) ≡ d
puts-end d at s j h k = let e : j ≡ length s = omega arith in rw (e, drop-length, puts-nil)

-- ---- lengths

pub length-zeros : (n : ℕ) → length (zeros n) ≡ n
unfolding zeros
length-zeros n = length-replicate n 0

pub length-bytes : (k v : ℕ) → length (bytes k v) ≡ k
unfolding bytes
length-bytes zero v = refl
length-bytes (suc k) v = ap suc (length-bytes k (v / 256))

pub length_part : (xs : List ℕ) (at n : ℕ) → at + n ≤ length xs → length (part xs at n) ≡ n
unfolding part
length_part xs at n h = simp (length-take, length-drop) (omega arith)

pub length-put_number : (k : ℕ) (d : List ℕ) (at v : ℕ) → length (put_number k d at v) ≡ length d
unfolding put_number
length-put_number k d at v = length-puts d at (bytes k v)

-- ---- a part of what was written

drop-puts : (a : ℕ) (d : List ℕ) (o : ℕ) (s : List ℕ) → drop a (puts d (a + o) s) ≡ puts (drop a d) o s
unfolding puts
drop-puts zero d o s = rw zero-add
drop-puts (suc a) [] o s = refl
drop-puts (suc a) (x ∷ d) o s = rw suc-add (drop-puts a d o s)

take-puts : (n : ℕ) (d : List ℕ) (at : ℕ) (s : List ℕ) → take n (puts d at s) ≡ puts (take n d) at s
unfolding puts
take-puts zero d at s = refl
take-puts (suc n) [] at s = refl
take-puts (suc n) (x ∷ d) (suc at) s = ap {B = List ℕ} (λ r. x ∷ r) (take-puts n d at s)
take-puts (suc n) (x ∷ d) zero [] = refl
take-puts (suc n) (x ∷ d) zero (y ∷ s) = ap {B = List ℕ} (λ r. y ∷ r) (take-puts n d zero s)

take-written : (d s : List ℕ) → length s ≤ length d → take (length s) (puts d 0 s) ≡ s
unfolding puts
take-written d [] h = refl
take-written [] (y ∷ s) h = absurd (omega arith)
take-written (x ∷ d) (y ∷ s) h = ap {B = List ℕ} (λ r. y ∷ r) (take-written d s (omega arith))

drop-puts-above : (a : ℕ) (d : List ℕ) (at : ℕ) (s : List ℕ) → at + length s ≤ a → drop a (puts d at s) ≡ drop a d
unfolding puts
drop-puts-above a [] at s h = refl
drop-puts-above zero (x ∷ d) (suc at) s h = absurd (omega arith)
drop-puts-above (suc a) (x ∷ d) (suc at) s h = drop-puts-above a d at s (omega arith)
drop-puts-above a (x ∷ d) zero [] h = refl
drop-puts-above zero (x ∷ d) zero (y ∷ s) h = absurd (omega arith)
drop-puts-above (suc a) (x ∷ d) zero (y ∷ s) h = drop-puts-above a d zero s (omega arith)

-- a write into a part, and into what the part is of
pub part-puts : (d : List ℕ) (at o : ℕ) (s : List ℕ) (n : ℕ) → part (puts d (at + o) s) at n ≡ puts (part d at n) o s
unfolding part
part-puts d at o s n = rw (drop-puts, take-puts)

pub part-puts-inner : (d : List ℕ) (at o : ℕ) (s : List ℕ) (n : ℕ) → o + length s ≤ n → at + n ≤ length d
    → part (puts d (at + o) s) at n ≡ puts (part d at n) o s
part-puts-inner d at o s n h k = part-puts d at o s n

pub part_same : (d : List ℕ) (at : ℕ) (s : List ℕ) → at + length s ≤ length d → part (puts d at s) at (length s) ≡ s
unfolding part
part_same d at s h =
    let e : at ≡ at + 0 = omega arith in
    let f : drop at (puts d at s) ≡ puts (drop at d) 0 s = ap (λ (i : ℕ). drop at (puts d i s)) e ∙ drop-puts at d 0 s in
    rw f (take-written (drop at d) s (simp length-drop (omega arith)))

part-short : (xs : List ℕ) (at n i : ℕ) → n ≤ i → length (part xs at n) ≤ i
unfolding part
part-short xs at n i h = simp length-take (omega arith)

pub part-below : (d : List ℕ) (at : ℕ) (s : List ℕ) (a n : ℕ) → a + n ≤ at → part (puts d at s) a n ≡ part d a n
part-below d at s a n h =
    let e : at ≡ a + (at - a) = omega arith in
    ap (λ (i : ℕ). part (puts d i s) a n) e ∙ part-puts d a (at - a) s n ∙ puts-past (part d a n) (at - a) s (part-short d a n (at - a) (omega arith))

pub part-above : (d : List ℕ) (at : ℕ) (s : List ℕ) (a n : ℕ) → at + length s ≤ a → part (puts d at s) a n ≡ part d a n
unfolding part
part-above d at s a n h = rw drop-puts-above

take-drop-take : (m o n : ℕ) (l : List ℕ) → o + m ≤ n → take m (drop o (take n l)) ≡ take m (drop o l)
take-drop-take m zero n l h = take-take m n l (omega arith)
take-drop-take m (suc o) zero l h = absurd (omega arith)
take-drop-take m (suc o) (suc n) [] h = refl
take-drop-take m (suc o) (suc n) (x ∷ l) h = take-drop-take m o n l (omega arith)

pub part-within : (xs : List ℕ) (at n o m : ℕ) → o + m ≤ n → part (part xs at n) o m ≡ part xs (at + o) m
unfolding part
part-within xs at n o m h = rw (take-drop-take, drop-drop)

-- a part that lies in what was written
pub part-inside : (d : List ℕ) (at : ℕ) (s : List ℕ) (o n : ℕ) → at + length s ≤ length d → o + n ≤ length s
    → part (puts d at s) (at + o) n ≡ part s o n
part-inside d at s o n h k = sym (part-within (puts d at s) at (length s) o n k) ∙ ap (λ (r : List ℕ). part r o n) (part_same d at s h)

pub part-whole : (xs : List ℕ) (n : ℕ) → length xs ≤ n → part xs 0 n ≡ xs
unfolding part
part-whole xs n h = take_all n xs h

pub part-put-below : (k : ℕ) (d : List ℕ) (at v a n : ℕ) → a + n ≤ at → part (put_number k d at v) a n ≡ part d a n
unfolding put_number
part-put-below k d at v a n h = part-below d at (bytes k v) a n h

pub part-put-above : (k : ℕ) (d : List ℕ) (at v a n : ℕ) → at + k ≤ a → part (put_number k d at v) a n ≡ part d a n
unfolding put_number
part-put-above k d at v a n h = part-above d at (bytes k v) a n (rw length-bytes h)

-- ---- numbers

value-nil : (k : ℕ) → value k [] ≡ 0
unfolding value
value-nil zero = refl
value-nil (suc k) = refl

value-take : (k n : ℕ) (l : List ℕ) → k ≤ n → value k (take n l) ≡ value k l
unfolding value
value-take zero n l h = refl
value-take (suc k) zero l h = absurd (omega arith)
value-take (suc k) (suc n) [] h = refl
value-take (suc k) (suc n) (x ∷ l) h = ap (λ (r : ℕ). x + 256 * r) (value-take k n l (omega arith))

-- a number is made by its own bytes
number-value : (k : ℕ) (xs : List ℕ) (at : ℕ) → number k xs at ≡ value k (part xs at k)
unfolding number part
number-value k xs at = sym (value-take k k (drop at xs) (omega arith))

pub number-same-part : (k : ℕ) (xs : List ℕ) (at : ℕ) (ys : List ℕ) (i : ℕ) → part xs at k ≡ part ys i k → number k xs at ≡ number k ys i
number-same-part k xs at ys i e = number-value k xs at ∙ ap (value k) e ∙ sym (number-value k ys i)

pub number-below : (k : ℕ) (d : List ℕ) (at : ℕ) (s : List ℕ) (i : ℕ) → i + k ≤ at → number k (puts d at s) i ≡ number k d i
number-below k d at s i h = number-same-part k (puts d at s) i d i (part-below d at s i k h)

pub number-above : (k : ℕ) (d : List ℕ) (at : ℕ) (s : List ℕ) (i : ℕ) → at + length s ≤ i → number k (puts d at s) i ≡ number k d i
number-above k d at s i h = number-same-part k (puts d at s) i d i (part-above d at s i k h)

pub number-part : (k : ℕ) (xs : List ℕ) (at n o : ℕ) → o + k ≤ n → number k (part xs at n) o ≡ number k xs (at + o)
number-part k xs at n o h = number-same-part k (part xs at n) o xs (at + o) (part-within xs at n o k h)

-- a number that lies in what was written
pub number-inside : (k : ℕ) (d : List ℕ) (at : ℕ) (s : List ℕ) (o : ℕ) → at + length s ≤ length d → o + k ≤ length s
    → number k (puts d at s) (at + o) ≡ number k s o
number-inside k d at s o h g = number-same-part k (puts d at s) (at + o) s o (part-inside d at s o k h g)

pub value-bytes : (k v : ℕ) (r : List ℕ) → v < 256 ^ k → value k (bytes k v ++ r) ≡ v
unfolding value bytes
value-bytes zero v r h = omega arith
value-bytes (suc k) v r h =
    let c : v / 256 < 256 ^ k = omega (arith, rw pow-suc at h) in
    rw (value-bytes k (v / 256) r c) (omega arith)

pub number_same : (k : ℕ) (d : List ℕ) (at v : ℕ) → at + k ≤ length d → v < 256 ^ k → number k (put_number k d at v) at ≡ v
unfolding put_number
number_same k d at v h g =
    let e : part (puts d at (bytes k v)) at k ≡ bytes k v =
    ap (λ (n : ℕ). part (puts d at (bytes k v)) at n) (sym (length-bytes k v)) ∙ part_same d at (bytes k v) (rw length-bytes h) in
    number-value k (puts d at (bytes k v)) at ∙ ap (value k) (e ∙ sym (append-nil (bytes k v))) ∙ value-bytes k v [] g

pub number-put-below : (j k : ℕ) (d : List ℕ) (at v i : ℕ) → i + j ≤ at → number j (put_number k d at v) i ≡ number j d i
unfolding put_number
number-put-below j k d at v i h = number-below j d at (bytes k v) i h

pub number-put-above : (j k : ℕ) (d : List ℕ) (at v i : ℕ) → at + k ≤ i → number j (put_number k d at v) i ≡ number j d i
unfolding put_number
number-put-above j k d at v i h = number-above j d at (bytes k v) i (rw length-bytes h)

-- a number by its lowest byte and the rest
pub number-none : (xs : List ℕ) (at : ℕ) → number 0 xs at ≡ 0
unfolding number value
number-none xs at = refl

value-more : (k : ℕ) (l : List ℕ) → value (suc k) l ≡ get_or l 0 0 + 256 * value k (drop 1 l)
unfolding value
value-more k [] = rw (value-nil k)
value-more k (x ∷ l) = refl

pub number_more : (k : ℕ) (xs : List ℕ) (at : ℕ) → number (k + 1) xs at ≡ get_or xs at 0 + 256 * number k xs (at + 1)
unfolding number
number_more k xs at =
    let e : at + 0 ≡ at = omega arith in
    rw (add-one k, value-more, drop-drop, get_or-drop, e)

pub number_lt : (k : ℕ) (xs : List ℕ) (at : ℕ) → ((i : ℕ) → get_or xs i 0 < 256) → number k xs at < 256 ^ k
unfolding number value
number_lt zero xs at h = omega arith
number_lt (suc k) xs at h =
    rw (← add-one k, number_more, add-one k, pow-suc) (omega (arith, h at, number_lt k xs (at + 1) h))

-- a number read from its last byte: it grows by a digit, and stays within 64 bits
pub digit : (x b k : ℕ) → x < 256 ^ k → b < 256 → x * 256 + b < 256 ^ (k + 1)
digit x b k h g = rw (add-one, pow-suc) (omega arith)

pub within : (x k : ℕ) → x < 256 ^ k → k ≤ 8 → x < 2 ^ 64
within x k h g = lt_of_lt_of_le h (pow-le-pow_right {n = 256} (lit≤ tt) g)

pub get-turn : (s : List ℕ) (k i x : ℕ) → 0 < i → x ≡ number k s i → x * 256 + get_or s (i - 1) 0 ≡ number (k + 1) s (i - 1)
get-turn s k i x h e = let q : i - 1 + 1 ≡ i = omega arith in rw (number_more, q, e) (omega arith)

-- a number written from its first byte
pub put-turn : (d : List ℕ) (at k v : ℕ) → 0 < k → puts (set d at (v % 256)) (at + 1) (bytes (k - 1) (v / 256)) ≡ puts d at (bytes k v)
unfolding bytes
put-turn d at zero v h = absurd (omega arith)
put-turn d at (suc k) v h = let e : suc k - 1 ≡ k = omega arith in rw (e, puts-cons)

pub put-end : (d : List ℕ) (at k v : ℕ) → k ≤ 0 → puts d at (bytes k v) ≡ d
unfolding bytes
put-end d at k v h = let e : k ≡ 0 = omega arith in rw (e, puts-nil)

-- zeros written from the first on
pub zero_turn : (d : List ℕ) (at n : ℕ) → 0 < n → puts (set d at 0) (at + 1) (zeros (n - 1)) ≡ puts d at (zeros n)
unfolding zeros
zero_turn d at zero h = absurd (omega arith)
zero_turn d at (suc n) h = let e : suc n - 1 ≡ n = omega arith in rw (e, puts-cons)

pub zero-end : (d : List ℕ) (at n : ℕ) → n ≤ 0 → puts d at (zeros n) ≡ d
unfolding zeros
zero-end d at n h = let e : n ≡ 0 = omega arith in rw (e, puts-nil)

-- ---- same

pub same_refl : (xs : List ℕ) → same xs xs ≡ true
unfolding same
same_refl [] = refl
same_refl (x ∷ xs) = rw (eq-eqb x x refl, same_refl xs)

pub same-eq : (xs ys : List ℕ) → same xs ys ≡ true → xs ≡ ys
unfolding same
same-eq [] [] h = refl
same-eq [] (y ∷ ys) h = cc
same-eq (x ∷ xs) [] h = cc
same-eq (x ∷ xs) (y ∷ ys) h =
    let e : x ≡ y = eqb-true x y (left (eqb x y) (same xs ys) h) in
    let f : xs ≡ ys = same-eq xs ys (right (eqb x y) (same xs ys) h) in
    cc
  where
    left : (a b : Bool) → (a && b) ≡ true → a ≡ true
    left true b k = refl
    left false b k = k

    right : (a b : Bool) → (a && b) ≡ true → b ≡ true
    right true b k = k
    right false b k = cc

pub same-ne : (xs ys : List ℕ) → (xs ≡ ys → ⊥) → same xs ys ≡ false
same-ne xs ys h = settled (same xs ys) (λ e. h (same-eq xs ys e))
  where
    settled : (b : Bool) → (b ≡ true → ⊥) → b ≡ false
    settled true k = absurd (k refl)
    settled false k = refl
