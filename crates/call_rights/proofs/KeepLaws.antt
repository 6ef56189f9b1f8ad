-- Laws of what a commit keeps of the list of rights. Assumes nothing.
use mathlib.Core.Path.{◌≡◌, refl, sym, ap, ◌∙◌}
use mathlib.Core.Bool.{Bool, true, false}
use mathlib.Core.List.{List, []}
use Prim.Native.Nat.{ℕ, ◌+◌, ◌*◌, ◌≤◌, ◌<◌}
use native.Mathlib.Omega.{arith}
use borrow.Author.Tests.{le-leb, lt-leb}
use lib.Dec.{eqb}
use lib.ListN.{length}
use Rattle.model.specs.Bytes.{number, zeros, same}
use Rattle.model.specs.Layout.{home_count, group_count}
use Rattle.model.specs.State.{state_of, listed_of, set_list_sign}
use Rattle.model.specs.Newest.{kept_for, carry_listed}
use Rattle.model.specs.Effects.{Given}
use Rattle.model.specs.Rights.{read_list, same_listed, list_moved, sign_for, sign_if, keep_list}
use Rattle.model_laws.proofs.bytes.LayoutLaws.{groups-in, homes_in}
use Rattle.model_laws.proofs.state.ListedLaws.{length-carry, state-carry}
use Rattle.call_ask.specs.Lent.{lent_all}
use Rattle.call_rights.specs.Listed.{Listed, Left, blocks_by}
use Rattle.call_rights.proofs.RightsLaws.{list_same, kept_at}

-- ---- the four positions, one after the other

pub position-same : (state newest : List ℕ) (i a b : ℕ) → a ≡ number 8 state (896 + 8 * i) → b ≡ number 8 newest (64 + 8 * i)
    → eqb a b ≡ eqb (listed_of state i) (kept_for newest (8 + i))
unfolding listed_of
position-same state newest i a b p q = rw (p, q, kept_at newest i)

module _ (state newest : List ℕ) where
  abbrev g : Given
  g = lent_all [] [] state newest [] [] 0 0

  abbrev at : ℕ → Bool
  at i = eqb (listed_of state i) (kept_for newest (8 + i))

  pub stop-first : (a : Bool) → a ≡ at 0 → a ≡ false → false ≡ same_listed g 4
  unfolding same_listed
  stop-first a p t = rw (sym p ∙ t)

  pub stop-second : (a b : Bool) → a ≡ at 0 → a ≡ true → b ≡ at 1 → b ≡ false → false ≡ same_listed g 4
  unfolding same_listed
  stop-second a b p t q f = rw (sym p ∙ t, sym q ∙ f)

  pub stop-third : (a b c : Bool) → a ≡ at 0 → a ≡ true → b ≡ at 1 → b ≡ true → c ≡ at 2 → c ≡ false → false ≡ same_listed g 4
  unfolding same_listed
  stop-third a b c p t q u r f = rw (sym p ∙ t, sym q ∙ u, sym r ∙ f)

  pub all_same : (a b c d : Bool) → a ≡ at 0 → a ≡ true → b ≡ at 1 → b ≡ true → c ≡ at 2 → c ≡ true → d ≡ at 3 → d ≡ same_listed g 4
  unfolding same_listed
  all_same a b c d p t q u r v s = rw (sym p ∙ t, sym q ∙ u, sym r ∙ v) s

-- ---- the sign

pub sign-first : (state s list : List ℕ) (b : Bool) → b ≡ same list (zeros 256) → b ≡ true → s ≡ set_list_sign state 1 → s ≡ set_list_sign state (sign_for list)
unfolding sign_for
sign-first state s list b e t q = q ∙ rw (sym e ∙ t)

pub sign-second : (state s list : List ℕ) (b : Bool) → b ≡ same list (zeros 256) → b ≡ false → s ≡ set_list_sign state 2 → s ≡ set_list_sign state (sign_for list)
unfolding sign_for
sign-second state s list b e t q = q ∙ rw (sym e ∙ t)

-- ---- all of it

module _ (log area state newest : List ℕ) (u : Left log area state newest) where
  abbrev lent : Given
  lent = lent_all log area state newest [] [] 0 0

  pub left-homes : home_count (length area) ≡ (state_of state).homes
  left-homes = ap home_count u.long ∙ homes_in (state_of state).homes

  left-groups : group_count (length log) ≡ (state_of state).groups
  left-groups = ap group_count u.search.long ∙ groups-in (state_of state).groups

  pub keeps-none : home_count (length area) < 12 → state ≡ keep_list (lent_all log area state newest [] [] 0 0)
  unfolding keep_list sign_if list_moved carry_listed
  keeps-none h = rw (lt-leb 12 (home_count (length area)) h)

  same-anywhere : same_listed lent 4 ≡ same_listed (lent_all [] [] state newest [] [] 0 0) 4
  unfolding same_listed
  same-anywhere = refl

  pub keeps-positions : (b : Bool) (s : List ℕ) → 12 ≤ home_count (length area) → b ≡ same_listed (lent_all [] [] state newest [] [] 0 0) 4 → b ≡ true
      → s ≡ carry_listed (home_count (length area)) newest state → s ≡ keep_list (lent_all log area state newest [] [] 0 0)
  unfolding keep_list sign_if list_moved
  keeps-positions b s h e t q = rw (le-leb 12 (home_count (length area)) h, same-anywhere ∙ sym e ∙ t) q

  -- the strip with the positions shows the same list
  pub left-listed : (s : List ℕ) → 12 ≤ home_count (length area) → s ≡ carry_listed (home_count (length area)) newest state
      → Listed log area (state_of s) newest 64 × (length s ≡ 1024) × (12 ≤ (state_of s).homes)
  left-listed s h q =
      let e : state_of s ≡ state_of state = ap state_of q ∙ state-carry (home_count (length area)) newest state in
      let l : length s ≡ 1024 = ap (λ (x : List ℕ). length x) q ∙ length-carry (home_count (length area)) newest state ∙ u.state_fits in
      rw e
      (record { search = u.search; long = u.long; holds = λ d. omega (arith, u.kept); low = omega arith }, l, omega (arith, left-homes))

  list-is : read_list (lent_all log area state newest [] [] 0 0) ≡ blocks_by log area (state_of state) newest 64 4
  unfolding read_list
  list-is =
      list_same (lent_all log area state newest [] [] 0 0) (state_of state) refl (sym left-groups) (sym left-homes) newest 64 (λ i. kept_for newest (8 + i))
      (kept_at newest) 4

  pub keeps-sign : (b : Bool) (s₁ s : List ℕ) → 12 ≤ home_count (length area) → b ≡ same_listed (lent_all [] [] state newest [] [] 0 0) 4 → b ≡ false
      → s₁ ≡ carry_listed (home_count (length area)) newest state → s ≡ set_list_sign s₁ (sign_for (blocks_by log area (state_of s₁) newest 64 4))
      → s ≡ keep_list (lent_all log area state newest [] [] 0 0)
  unfolding keep_list sign_if list_moved
  keeps-sign b s₁ s h e t q r =
      let f : state_of s₁ ≡ state_of state = ap state_of q ∙ state-carry (home_count (length area)) newest state in
      rw (le-leb 12 (home_count (length area)) h, same-anywhere ∙ sym e ∙ t, list-is) (r ∙ rw (f, q))
