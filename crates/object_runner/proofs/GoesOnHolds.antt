-- The motions of a batch go on from those of the records before it; on blocks no word waits.
use Prim.Native.Nat.{◌*◌}
use mathlib.Core.Path.{◌≡◌, refl, sym, ap, ◌∙◌}
use mathlib.Core.List.{List, [], ◌∷◌, ◌++◌, append_assoc}
use Rattle.model.specs.Batch.{Record, GW, HW, KW, FN}
use Rattle.model.specs.Crash.{to_log, to_area}
use Rattle.object.specs.Medium.{Grain}
use Rattle.object.specs.Order.{Motion, put, wait, parted, body, head, heads_out, wipe, motions}
use Rattle.object_runner.specs.Moves.{words_due, headed_at, waiting_after, BlocksDue, MotionsGoOn}

pub blocks-due : BlocksDue
unfolding head parted words_due headed_at
blocks-due G next headed log [] = tt
blocks-due G next headed log (GW slot group ∷ rs) = blocks-due G next headed log rs
blocks-due G next headed log (HW home block ∷ rs) = blocks-due G next headed log rs
blocks-due G next headed log (KW header ∷ rs) = blocks-due G next headed log rs
blocks-due G next headed log (FN ∷ rs) = (refl, blocks-due G next headed log rs)

goes_on : (l : Grain) (rs ss : List Record) (waiting : List Motion) → motions l waiting (rs ++ ss) ≡ motions l waiting rs ++ motions l (waiting_after l waiting rs) ss
unfolding motions waiting_after
goes_on l [] ss waiting = refl
goes_on l (GW slot group ∷ rs) ss waiting = ap {B = List Motion} (λ r. body l slot group ∷ r) (goes_on l rs ss (waiting ++ head l slot group))
goes_on l (HW home block ∷ rs) ss waiting = ap {B = List Motion} (λ r. put (to_area (64 * home) block) ∷ r) (goes_on l rs ss waiting)
goes_on l (KW header ∷ rs) ss waiting =
    ap {B = List Motion} (λ r. wipe l header ++ (put (to_log 0 header) ∷ r)) (goes_on l rs ss waiting)
    ∙ sym (append_assoc (wipe l header) (put (to_log 0 header) ∷ motions l waiting rs) (motions l (waiting_after l waiting rs) ss))
goes_on l (FN ∷ rs) ss waiting =
    ap {B = List Motion} (λ r. heads_out waiting ++ (wait ∷ r)) (goes_on l rs ss [])
    ∙ sym (append_assoc (heads_out waiting) (wait ∷ motions l [] rs) (motions l (waiting_after l [] rs) ss))

pub motions-go-on : MotionsGoOn
motions-go-on l before rs = goes_on l before rs []
