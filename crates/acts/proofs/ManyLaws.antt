-- What an answer of 0 says of a call on several homes. Assumes nothing.
use Prim.Native.Nat.{ℕ, zero, suc, ◌+◌, ◌*◌, ◌≤◌, ◌<◌}
use mathlib.Core.Path.{◌≡◌, refl, ap, ◌∙◌}
use mathlib.Core.Bool.{Bool, true, false, not, ◌&&◌, ◌||◌}
use native.Mathlib.Omega.{arith}
use lib.Dec.{eqb, leb}
use lib.ListN.{length}
use borrow.Author.Tests.{leb-true, eqb-true, eqb-false}
use Rattle.model.specs.Effects.{Given, homes}
use Rattle.model.specs.Questions.{areas_right, state_right, newest_right, block_right, state_in_order, writer_known, is_home_known, store_allowed, writer_open, store_logs, commit_logs, room, batch_fits, ask_block, ask_newest, store_answer, commit_answer}
use Rattle.acts.specs.Many.{blocks_lent, blocks_right, homes_known, all_of, may_store_all, may_read_all, room_for_all, ask_homes, fetch_answer, revise_answer, transact_answer}
use Rattle.model_laws.proofs.state.QuestionLaws.{ask-passed, and-true}

-- what every call on several homes has been lent when it is done
pub record HomesReady (g : Given) : Type 0 where
  pub areas : areas_right g ≡ true
  pub state_fits : state_right g ≡ true
  pub newest : newest_right g ≡ true
  pub order : state_in_order g ≡ true
  pub writer : writer_known g ≡ true
  pub whole : length g.block ≡ 64 * blocks_lent g
  pub some : 1 ≤ blocks_lent g
  pub few : blocks_lent g ≤ 7
  pub homes : g.home + blocks_lent g ≤ homes g

homes-passed : (g : Given) (next : ℕ) → ask_homes g next ≡ 0 → HomesReady g × (next ≡ 0)
unfolding ask_homes blocks_right homes_known
homes-passed g next e =
    let a = ask-passed (areas_right g && state_right g && newest_right g && blocks_right g) 0 _ e in
    let b = ask-passed (state_in_order g) 1 _ a.1 in
    let c = ask-passed (writer_known g) 3 _ b.1 in
    let d = ask-passed (homes_known g) 4 next c.1 in
    let p = and-true (areas_right g && state_right g && newest_right g) (blocks_right g) a.0 in
    let q = and-true (areas_right g && state_right g) (newest_right g) p.0 in
    let r = and-true (areas_right g) (state_right g) q.0 in
    let s = and-true (eqb (length g.block) (64 * blocks_lent g) && leb 1 (blocks_lent g)) (leb (blocks_lent g) 7) p.1 in
    let t = and-true (eqb (length g.block) (64 * blocks_lent g)) (leb 1 (blocks_lent g)) s.0 in (
      record {
        areas = r.0;
        state_fits = r.1;
        newest = q.1;
        order = b.0;
        writer = c.0;
        whole = eqb-true (length g.block) (64 * blocks_lent g) t.0;
        some = leb-true 1 (blocks_lent g) t.1;
        few = leb-true (blocks_lent g) 7 s.1;
        homes = leb-true (g.home + blocks_lent g) (homes g) d.0;
      },
      d.1,
    )

-- a test of all homes is one of each
pub each_of : (test : ℕ → Bool) (home n : ℕ) → all_of test home n ≡ true → (k : ℕ) → k < n → test (home + k) ≡ true
unfolding all_of
each_of test home zero e k l = absurd (omega arith)
each_of test home (suc n) e k l =
    let both = and-true (all_of test home n) (test (home + n)) e in
    go both.1 (each_of test home n both.0) (eqb k n) refl
  where
    go : test (home + n) ≡ true → ((j : ℕ) → j < n → test (home + j) ≡ true) → (b : Bool) → eqb k n ≡ b → test (home + k) ≡ true
    go last rest true q = ap (λ (j : ℕ). test (home + j)) (eqb-true k n q) ∙ last
    go last rest false q = rest k (let r = eqb-false k n q in omega arith)

pub fetch-ready : (g : Given) → fetch_answer g ≡ 0 → HomesReady g × (may_read_all g ≡ true)
unfolding fetch_answer
fetch-ready g e =
    let a = homes-passed g _ e in
    (a.0, (ask-passed (may_read_all g) 19 0 a.1).0)

pub revise-ready : (g : Given) → revise_answer g ≡ 0 → HomesReady g × (may_store_all g ≡ true) × (may_read_all g ≡ true)
unfolding revise_answer
revise-ready g e =
    let a = homes-passed g _ e in
    let b = ask-passed (may_store_all g) 18 _ a.1 in
    (a.0, b.0, (ask-passed (may_read_all g) 19 0 b.1).0)

pub record TransactReady (g : Given) (size : ℕ) : Type 0 where
  pub lent : HomesReady g
  pub allowed : may_store_all g ≡ true
  pub idle : not (writer_open g) ≡ true
  pub room : room_for_all g ≡ true
  pub batch : batch_fits g size ≡ true

pub transact-ready : (g : Given) (size : ℕ) → transact_answer g size ≡ 0 → TransactReady g size
unfolding transact_answer
transact-ready g size e =
    let a = homes-passed g _ e in
    let b = ask-passed (may_store_all g) 18 _ a.1 in
    let c = ask-passed (not (writer_open g)) 5 _ b.1 in
    let d = ask-passed (room_for_all g) 7 _ c.1 in
    let f = ask-passed (batch_fits g size) 8 0 d.1 in
    record { lent = a.0; allowed = b.0; idle = c.0; room = d.0; batch = f.0 }

-- a store that is done was lent a block
pub store-block : (g : Given) (size : ℕ) → store_answer g size ≡ 0 → length g.block ≡ 64
unfolding store_answer ask_block block_right
store-block g size e =
    let a = ask-passed (areas_right g && state_right g && block_right g) 0 _ e in
    eqb-true (length g.block) 64 (and-true (areas_right g && state_right g) (block_right g) a.0).1

-- and its batch is long enough, as is a commit's
pub store-fits : (g : Given) (size : ℕ) → store_answer g size ≡ 0 → batch_fits g size ≡ true
unfolding store_answer ask_block
store-fits g size e =
    let a = ask-passed (areas_right g && state_right g && block_right g) 0 _ e in
    let b = ask-passed (state_in_order g) 1 _ a.1 in
    let c = ask-passed (writer_known g) 3 _ b.1 in
    let d = ask-passed (is_home_known g) 4 _ c.1 in
    let f = ask-passed (store_allowed g) 18 _ d.1 in
    let h = ask-passed (writer_open g) 6 _ f.1 in
    let i = ask-passed (not (store_logs g) || room g) 7 _ h.1 in
    (ask-passed (batch_fits g size) 8 0 i.1).0

pub commit-fits : (g : Given) (size : ℕ) → commit_answer g size ≡ 0 → batch_fits g size ≡ true
unfolding commit_answer ask_newest
commit-fits g size e =
    let a = ask-passed (areas_right g && state_right g && newest_right g) 0 _ e in
    let b = ask-passed (state_in_order g) 1 _ a.1 in
    let c = ask-passed (writer_known g) 3 _ b.1 in
    let d = ask-passed (writer_open g) 6 _ c.1 in
    let f = ask-passed (not (commit_logs g) || room g) 7 _ d.1 in
    (ask-passed (batch_fits g size) 8 0 f.1).0
