-- The list of rights that a call on several homes finds is that of the book. Assumes nothing.
use Prim.Native.Nat.{ℕ, zero, suc, ◌+◌, ◌*◌, ◌≤◌, ◌<◌}
use mathlib.Core.Path.{◌≡◌, refl, sym, ap, ◌∙◌}
use mathlib.Core.Bool.{true}
use mathlib.Core.List.{List, [], ◌++◌}
use native.Mathlib.Decide.{dec_lt}
use native.Mathlib.Omega.{arith}
use lib.ListN.{length, take, drop}
use lib.Seq.{take-add, drop-drop}
use borrow.Author.Tests.{eqb-true}
use Rattle.model.specs.Bytes.{part}
use Rattle.model.specs.Layout.{home_at}
use Rattle.model.specs.State.{list_home, list_sign}
use Rattle.model.specs.Newest.{kept_for}
use Rattle.model.specs.Effects.{homes, kept_position, shown}
use Rattle.model.specs.Rights.{for_home, shown_at, read_list, may_store, right_to_store, Faithful}
use Rattle.model.specs.Questions.{newest_right}
use Rattle.model.specs.Book.{homes_after}
use Rattle.model.specs.History.{World, lent}
use Rattle.model.specs.NewestTrue.{NewestTrue}
use Rattle.abstract_store.specs.Store.{Store, list_of}
use Rattle.model_laws.proofs.state.RightLaws.{shown_by, list-part}
use Rattle.model_laws.proofs.state.SignLaws.{store-agrees, store-none}

-- ---- blocks one behind the other

unfoldable pub joined : List ℕ → ℕ → ℕ → List ℕ
joined area home zero = []
joined area home (suc n) = joined area home n ++ home_at area (home + n)

part-grows : (xs : List ℕ) (at n m : ℕ) → part xs at (n + m) ≡ part xs at n ++ part xs (at + n) m
unfolding part
part-grows xs at n m = take-add n m (drop at xs) ∙ ap (λ (ys : List ℕ). take n (drop at xs) ++ take m ys) (drop-drop n at xs)

pub joined-part : (area : List ℕ) (home n : ℕ) → joined area home n ≡ part area (64 * home) (64 * n)
unfolding joined home_at
joined-part area home zero = unfold part in refl
joined-part area home (suc n) =
    let e : 64 * home + 64 * n ≡ 64 * (home + n) = omega arith in
    let q : 64 * n + 64 ≡ 64 * suc n = omega arith in
    ap (λ (ys : List ℕ). ys ++ part area (64 * (home + n)) 64) (joined-part area home n)
    ∙ ap (λ (at : ℕ). part area (64 * home) (64 * n) ++ part area at 64) (sym e) ∙ sym (part-grows area (64 * home) (64 * n) 64)
    ∙ ap (part area (64 * home)) q

-- ---- the list

pub shown-at : (w : World) (blocks batch : List ℕ) (v h x : ℕ)
    → shown_at (for_home (lent w blocks batch v h) x) (kept_for w.newest x) ≡ shown (lent w [] [] 0 x)
unfolding shown kept_position shown_at for_home lent
shown-at w blocks batch v h x = shown_by (lent w [] [] 0 x) w.newest blocks batch v (kept_for w.newest x)

list-found : (w : World) (blocks batch : List ℕ) (v h : ℕ) → NewestTrue w → list_home + 4 ≤ w.homes
    → read_list (lent w blocks batch v h) ≡ part (homes_after w.homes w.book.commits) (64 * list_home) 256
unfolding read_list lent
list-found w blocks batch v h k l =
    list-part (lent w blocks batch v h) (λ i. kept_for w.newest (list_home + i)) (homes_after w.homes w.book.commits) 4
    (λ i m. shown-at w blocks batch v h (list_home + i) ∙ k.blocks (list_home + i) (omega arith))

store_same : (sign homes : ℕ) (list list' : List ℕ) (v x : ℕ) → (list_home + 4 ≤ homes → list ≡ list') → (list_home + 4 ≤ homes → Faithful sign list')
    → right_to_store sign homes list v x ≡ may_store homes list' v x
store_same sign homes list list' v x f k = go (dec_lt homes (list_home + 4))
  where
    go : Dec (homes < list_home + 4) → right_to_store sign homes list v x ≡ may_store homes list' v x
    go (yes l) = store-none sign homes list list' v x l
    go (no l) = ap (λ (ls : List ℕ). right_to_store sign homes ls v x) (f (omega arith)) ∙ store-agrees sign list' (k (omega arith)) homes v x

-- what is lent has the world's number of homes
pub lent-homes : (w : World) (blocks batch : List ℕ) (v h : ℕ) → NewestTrue w → newest_right (lent w blocks batch v h) ≡ true → homes (lent w blocks batch v h) ≡ w.homes
unfolding newest_right lent
lent-homes w blocks batch v h k e = let q = eqb-true (length w.newest) _ e in omega (arith, k.size, q)

pub rights-same : (w : World) (s : Store) (blocks batch : List ℕ) (v h x : ℕ) → s.book ≡ w.book → s.homes ≡ w.homes → NewestTrue w
    → newest_right (lent w blocks batch v h) ≡ true
    → right_to_store (list_sign w.state) (homes (lent w blocks batch v h)) (read_list (lent w blocks batch v h)) v x ≡ may_store s.homes (list_of s) v x
unfolding list_of
rights-same w s blocks batch v h x eb eh k e =
    rw (lent-homes w blocks batch v h k e, eb, eh) (store_same (list_sign w.state) w.homes _ _ v x (λ l. list-found w blocks batch v h k l) k.sign)
