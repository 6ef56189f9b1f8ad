-- Rights keep what a writer may not read from it also where histories have calls on several homes, and with no premise on what comes before them but that
-- it is alike too: "alike but for bytes (stored before or during them) in homes that a writer may at no time in them read, with the same calls of the
-- store itself, homes and lists, give that writer the same answers and blocks".
use Rattle.std.specs.Prelude.{ℕ, ◌+◌, ◌*◌, ◌/◌, ◌<◌, ◌≡◌, Bool, true, false, cond, List, [], ◌∷◌, ◌++◌, eqb, length}
use Rattle.model.specs.Bytes.{part}
use Rattle.model.specs.Calls.{Outcome}
use Rattle.model.specs.History.{Service, settles, round_begins, round_steps, trims, reads, Call, opening, confirm, change, service, call, crash, World, Formatting, after_format, ends}
use Rattle.acts.specs.Units.{Act, plain, transacts, fetches, revises, transact_ends, fetch_ends, revise_ends, act, acted, AllActsAllowed, expand_all}
use Rattle.abstract_store.specs.Store.{Store, new_store, Reply, told, reply_of}
use Rattle.theorems.specs.Isolation.{Each, StoreAlike, CallAlike, followed, DeniedThroughout}

-- the same act, no cut, or one that stores other bytes in hidden homes
module _ (hidden : ℕ → Bool) where
  -- blocks for the homes from `home` on
  pub record BlocksAlike (home : ℕ) (a b : List ℕ) : Type 0 where
    pub size : length a ≡ length b
    pub shown : (k : ℕ) → k < length a / 64 → hidden (home + k) ≡ false → part a (64 * k) 64 ≡ part b (64 * k) 64

  pub data ActAlike : Act → Act → Type 0 where
    called : {c d : Call} → CallAlike hidden c d → ActAlike (plain (call c)) (plain (call d))
    transacted : {writer home : ℕ} {a b batch : List ℕ} → BlocksAlike home a b → ActAlike (transacts writer home a batch) (transacts writer home b batch)
    fetched : {writer home : ℕ} {blocks : List ℕ} → ActAlike (fetches writer home blocks) (fetches writer home blocks)
    revised : {writer home : ℕ} {blocks : List ℕ} → ActAlike (revises writer home blocks) (revises writer home blocks)

  -- what comes before: the same acts in both, cuts among them, and then acts alike
  pub data BeforeAlike : List Act → List Act → Type 0 where
    differs : {xs ys : List Act} → Each ActAlike xs ys → BeforeAlike xs ys
    shares : {a : Act} {xs ys : List Act} → BeforeAlike xs ys → BeforeAlike (a ∷ xs) (a ∷ ys)

-- What an act answers: its number, its figure and its batch length. A cut answers nothing.
unfoldable pub answer_of : World → Act → Reply
answer_of w (plain (call c)) = reply_of (ends w c)
answer_of w (plain (crash passed chosen)) = told 0 0 0
answer_of w (transacts writer home blocks batch) = reply_of (transact_ends w writer home blocks batch)
answer_of w (fetches writer home blocks) = reply_of (fetch_ends w writer home blocks)
answer_of w (revises writer home blocks) = reply_of (revise_ends w writer home blocks)

-- the blocks that a writer's own reads leave
unfoldable pub block_of_service : ℕ → Service → Outcome → List ℕ
block_of_service writer (settles batch) o = []
block_of_service writer round_begins o = []
block_of_service writer (round_steps homes batch) o = []
block_of_service writer (trims batch) o = []
block_of_service writer (reads v home block) o = cond (eqb v writer) o.block []

unfoldable pub block_of_read : ℕ → Call → Outcome → List ℕ
block_of_read writer (opening state newest batch) o = []
block_of_read writer confirm o = []
block_of_read writer (change c) o = []
block_of_read writer (service c) o = block_of_service writer c o

unfoldable pub blocks_of : ℕ → World → Act → List ℕ
blocks_of writer w (plain (call c)) = block_of_read writer c (ends w c)
blocks_of writer w (plain (crash passed chosen)) = []
blocks_of writer w (transacts v home blocks batch) = []
blocks_of writer w (fetches v home blocks) = cond (eqb v writer) (fetch_ends w v home blocks).block []
blocks_of writer w (revises v home blocks) = cond (eqb v writer) (revise_ends w v home blocks).block []

-- every act is answered the same, whoever makes it, and the writer's reads give the same blocks
abbrev pub SameThroughout : ℕ → World → World → List Act → List Act → Type 0
SameThroughout writer w v [] ys = Unit {0}
SameThroughout writer w v (a ∷ xs) [] = Unit {0}
SameThroughout writer w v (a ∷ xs) (b ∷ ys) =
    (answer_of w a ≡ answer_of v b) × (blocks_of writer w a ≡ blocks_of writer v b) × SameThroughout writer (act w a) (act v b) xs ys

-- the abstract store after acts, by the events that they stand for
abbrev pub followed_acts : Store → World → List Act → Store
followed_acts s w xs = followed s w (expand_all w xs)

-- As `Isolation`, over histories with fetch, revise and transact, done and refused ones. A home is read at no time if the list lets the writer read it at no
-- moment of the events that the acts stand for. [S-61]
abbrev pub ActsIsolated : Type 0
ActsIsolated =
    (groups homes : ℕ) (f g : Formatting groups homes) (before other xs ys : List Act) (writer : ℕ) (hidden : ℕ → Bool) →
    AllActsAllowed (after_format f) (before ++ xs) → AllActsAllowed (after_format g) (other ++ ys) →
    (acted (after_format f) before).ready ≡ true → (acted (after_format g) other).ready ≡ true →
    let w : World = acted (after_format f) before in
    let v : World = acted (after_format g) other in
    let s : Store = followed_acts (new_store groups homes) (after_format f) before in
    let t : Store = followed_acts (new_store groups homes) (after_format g) other in
    StoreAlike hidden s t → Each (ActAlike hidden) xs ys → DeniedThroughout writer hidden s w (expand_all w xs) → SameThroughout writer w v xs ys

-- The same with nothing said of stores: two histories, each from a done format on, of acts that are alike but for bytes in hidden homes. The list may be
-- committed on the way: what comes before `xs` and `ys` is alike too, and the writer may read anything in it. Cuts may come as long as the histories are the
-- same, so none once a hidden byte differs. [S-61]
abbrev pub IsolatedFromFormat : Type 0
IsolatedFromFormat =
    (groups homes : ℕ) (f g : Formatting groups homes) (before other xs ys : List Act) (writer : ℕ) (hidden : ℕ → Bool) →
    AllActsAllowed (after_format f) (before ++ xs) → AllActsAllowed (after_format g) (other ++ ys) → (acted (after_format f) before).ready ≡ true →
    BeforeAlike hidden before other → Each (ActAlike hidden) xs ys →
    let w : World = acted (after_format f) before in
    let s : Store = followed_acts (new_store groups homes) (after_format f) before in
    DeniedThroughout writer hidden s w (expand_all w xs) → SameThroughout writer w (acted (after_format g) other) xs ys
