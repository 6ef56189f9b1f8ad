-- Rights keep what a writer may not read from it: from the answers of the abstract store, demand 2 and the invariant, by which the blocks of all commits
-- have 64 bytes.
use Rattle.model.specs.History.{after_format, after, calls}
use Rattle.abstract_store.specs.Store.{new_store}
use Rattle.theorems.specs.Isolation.{followed, Isolation}
use Rattle.theorems.proofs.store.Reached.{begins, allowed-split, goes-along}
use Rattle.theorems.proofs.isolation.AlikeHistories.{told-throughout}

pub isolation : Isolation
isolation G D f g before other cs ds writer hidden a b f-ready g-ready k e d =
    let p = allowed-split before (calls cs) (after_format f) a in
    let q = allowed-split other (calls ds) (after_format g) b in
    told-throughout hidden writer cs ds (after (after_format f) before) (after (after_format g) other) (followed (new_store G D) (after_format f) before)
    (followed (new_store G D) (after_format g) other) (goes-along before (after_format f) (new_store G D) (begins f) p.0)
    (goes-along other (after_format g) (new_store G D) (begins g) q.0) p.1 q.1 f-ready g-ready k e d
