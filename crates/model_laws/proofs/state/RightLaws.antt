-- Laws of the list of rights (specs/Rights): what it hangs on of what a call is lent, and its four blocks as one part of the homes. Assumes nothing.
use mathlib.Core.Path.{◌≡◌, refl, sym, ◌∙◌}
use mathlib.Core.Bool.{Bool, true, false, cond}
use mathlib.Core.List.{List, ◌++◌}
use mathlib.Core.Option.{none, some}
use Prim.Native.Nat.{ℕ, zero, suc, ◌+◌, ◌*◌, ◌<◌}
use native.Mathlib.Omega.{arith}
use lib.ListN.{drop}
use lib.Seq.{drop-drop, take-add}
use Rattle.model.specs.Bytes.{part}
use Rattle.model.specs.Layout.{home_at}
use Rattle.model.specs.State.{list_home}
use Rattle.model.specs.Effects.{Given, live_base, live_tags, tags_of, is_there, block_or}
use Rattle.model.specs.Rights.{for_home, shown_at, list_by}

-- what a home shows at a position hangs on the state strip, the copies and the home alone
pub shown_by : (g : Given) (newest block batch : List ℕ) (writer p : ℕ)
    → shown_at (record { state = g.state; newest = newest; log = g.log; area = g.area; block = block; batch = batch; writer = writer; home = g.home }) p
    ≡ shown_at g p
unfolding shown_at is_there live_base live_tags tags_of
shown_by g newest block batch writer p = go (is_there g p)
  where
    other : Given
    other = record { state = g.state; newest = newest; log = g.log; area = g.area; block = block; batch = batch; writer = writer; home = g.home }

    go : (d : Bool) → block_or other (cond d (some p) none) (home_at g.area g.home) ≡ block_or g (cond d (some p) none) (home_at g.area g.home)
    go true = unfold block_or in refl
    go false = unfold block_or in refl

pub list-by : (g h : Given) (kept held : ℕ → ℕ) (n : ℕ)
    → ((i : ℕ) → i < n → shown_at (for_home g (list_home + i)) (kept i) ≡ shown_at (for_home h (list_home + i)) (held i)) → list_by g kept n ≡ list_by h held n
unfolding list_by
list-by g h kept held zero f = refl
list-by g h kept held (suc n) f = rw (list-by g h kept held n (λ i l. f i (omega arith)), f n (omega arith))

-- ---- parts one behind the other

part-both : (xs : List ℕ) (at n m : ℕ) → part xs at (n + m) ≡ part xs at n ++ part xs (at + n) m
unfolding part
part-both xs at n m = take-add n m (drop at xs) ∙ rw drop-drop

-- the list, where each of its homes shows what some homes have
pub list-part : (g : Given) (kept : ℕ → ℕ) (area : List ℕ) (n : ℕ)
    → ((i : ℕ) → i < n → shown_at (for_home g (list_home + i)) (kept i) ≡ home_at area (list_home + i)) → list_by g kept n ≡ part area (64 * list_home) (64 * n)
unfolding list_by home_at
list-part g kept area zero f = unfold part in refl
list-part g kept area (suc n) f =
    let e : 64 * suc n ≡ 64 * n + 64 = omega arith in
    let q : 64 * (list_home + n) ≡ 64 * list_home + 64 * n = omega arith in
    rw (list-part g kept area n (λ i l. f i (omega arith)), f n (omega arith), e, q) (sym (part-both area (64 * list_home) (64 * n) 64))
