-- Calls on several homes in a row under one verdict, for what stands above the store: fetch reads them, transact begins, stores them and commits.
-- "a call on them names a writer, for whom it reads, or begins, stores and commits, and asks the store's questions once, in 01's order, for all of it"
use Rattle.std.specs.Prelude.{ℕ, zero, suc, ◌+◌, ◌*◌, ◌/◌, Bool, true, not, ◌&&◌, List, [], ◌++◌, eqb, leb, length}
use Rattle.model.specs.Bytes.{part}
use Rattle.model.specs.State.{free_places, list_sign}
use Rattle.model.specs.Effects.{Given, homes, Effect, begin_effect, store_effect, commit_effect, read_effect}
use Rattle.model.specs.Rights.{for_home, right_to_store, right_to_read, read_list}
use Rattle.model.specs.Questions.{ask, areas_right, state_right, newest_right, state_in_order, writer_known, writer_open, batch_fits}
use Rattle.model.specs.Calls.{Outcome, outcome, size_of}

-- The lent block is a strip of home blocks, for the call's home and those behind it.
unfoldable pub blocks_lent : Given → ℕ
blocks_lent g = length g.block / 64

-- Effects

-- what the next call of a chain is lent: what the one before it left, another home and block
unfoldable pub lent_on : Given → Effect → ℕ → List ℕ → Given
lent_on g e home block =
    record {
      state = e.state;
      newest = e.newest;
      log = e.log;
      area = e.area;
      block = block;
      batch = g.batch;
      writer = g.writer;
      home = home;
    }

-- one effect and then another, as one; the lent blocks stay
unfoldable pub and_then : Given → Effect → Effect → Effect
and_then g a b =
    record {
      figure = b.figure;
      state = b.state;
      newest = b.newest;
      log = b.log;
      area = b.area;
      block = g.block;
      records = a.records ++ b.records;
    }

-- begin, and the first n stores by rising home
unfoldable pub stored_first : Given → ℕ → Effect
stored_first g zero = begin_effect g
stored_first g (suc n) =
    let e : Effect = stored_first g n in and_then g e (store_effect (lent_on g e (g.home + n) (part g.block (64 * n) 64)))

unfoldable pub transact_effect : Given → Effect
transact_effect g = let e : Effect = stored_first g (blocks_lent g) in and_then g e (commit_effect (lent_on g e 0 []))

-- what a read of each of the first n homes gives, one behind the other
unfoldable pub blocks_read : Given → ℕ → List ℕ
blocks_read g zero = []
blocks_read g (suc n) = blocks_read g n ++ (read_effect (for_home g (g.home + n))).block

unfoldable pub fetch_effect : Given → Effect
fetch_effect g =
    record {
      figure = 0;
      state = g.state;
      newest = g.newest;
      log = g.log;
      area = g.area;
      block = blocks_read g (blocks_lent g);
      records = [];
    }

-- Questions

-- 1: whole blocks, from one to the seven that a group has places for
unfoldable pub blocks_right : Given → Bool
blocks_right g = eqb (length g.block) (64 * blocks_lent g) && leb 1 (blocks_lent g) && leb (blocks_lent g) 7

-- 5 for all homes of the call, then 19 for all, then 20 for all
unfoldable pub homes_known : Given → Bool
homes_known g = leb (g.home + blocks_lent g) (homes g)

unfoldable pub all_of : (ℕ → Bool) → ℕ → ℕ → Bool
all_of test home zero = true
all_of test home (suc n) = all_of test home n && test (home + n)

unfoldable pub may_store_all : Given → Bool
may_store_all g = all_of (right_to_store (list_sign g.state) (homes g) (read_list g) g.writer) g.home (blocks_lent g)

unfoldable pub may_read_all : Given → Bool
may_read_all g = all_of (right_to_read (list_sign g.state) (homes g) (read_list g) g.writer) g.home (blocks_lent g)

-- 8: each block becomes an entry, and none of the places is promised, since the writer is idle
unfoldable pub room_for_all : Given → Bool
room_for_all g = leb (blocks_lent g) (free_places g.state)

unfoldable pub ask_homes : Given → ℕ → ℕ
ask_homes g next =
    ask (areas_right g && state_right g && newest_right g && blocks_right g) 1
    (ask (state_in_order g) 2 (ask (writer_known g) 4 (ask (homes_known g) 5 next)))

unfoldable pub fetch_answer : Given → ℕ
fetch_answer g = ask_homes g (ask (may_read_all g) 20 0)

-- the same for a call that is going to store what it makes of the blocks: "a pump's or alarm's event needs both rights"
unfoldable pub revise_answer : Given → ℕ
revise_answer g = ask_homes g (ask (may_store_all g) 19 (ask (may_read_all g) 20 0))

unfoldable pub transact_answer : Given → ℕ → ℕ
transact_answer g size =
    ask_homes g (ask (may_store_all g) 19 (ask (not (writer_open g)) 6 (ask (room_for_all g) 8 (ask (batch_fits g size) 9 0))))

-- The calls

-- [S-62]
unfoldable pub fetch_call : Given → Outcome
fetch_call g = outcome g (fetch_answer g) (fetch_effect g)

-- [S-62]
unfoldable pub revise_call : Given → Outcome
revise_call g = outcome g (revise_answer g) (fetch_effect g)

-- [S-62]
unfoldable pub transact_call : Given → Outcome
transact_call g = let e : Effect = transact_effect g in outcome g (transact_answer g (size_of e)) e
