-- The first words that wait, and those of the log copy, as lists. Assumes nothing.
use Prim.Native.Nat.{ℕ, zero, suc, ◌+◌, ◌%◌, ◌≤◌, ◌<◌}
use mathlib.Core.Path.{◌≡◌, refl, sym, ap, ◌∙◌}
use mathlib.Core.Bool.{true, false, and-eq-true_iff, false≢true}
use mathlib.Core.List.{List, [], ◌∷◌, ◌++◌}
use native.Mathlib.Omega.{arith}
use lib.Dec.{eqb}
use lib.ListN.{length, take, length-append}
use borrow.Author.Tests.{eqb-true}
use Rattle.model.specs.Bytes.{part, zeros, same}
use Rattle.model.specs.Layout.{group_mark, group_offset, group_at}
use Rattle.model.specs.Batch.{Record, GW, HW, KW, FN}
use Rattle.model.specs.Crash.{to_log}
use Rattle.model_laws.proofs.bytes.ByteLaws.{part-within}
use Rattle.model_laws.proofs.trace.CrashLaws.{submits}
use Rattle.model_laws.proofs.trace.MixLaws.{Mixed, group_part}
use Rattle.object.specs.Medium.{Grain, words, blocks}
use Rattle.object.specs.Order.{Motion, put, parted, head}
use Rattle.object.proofs.ChopLaws.{part-zero}
use Rattle.object_runner.specs.Moves.{words_from, waiting_after}

-- ---- what waits

pub waiting-append : (l : Grain) (W : List Motion) (rs ss : List Record) → waiting_after l W (rs ++ ss) ≡ waiting_after l (waiting_after l W rs) ss
unfolding waiting_after
waiting-append l W [] ss = refl
waiting-append l W (GW slot group ∷ rs) ss = waiting-append l (W ++ head l slot group) rs ss
waiting-append l W (HW home block ∷ rs) ss = waiting-append l W rs ss
waiting-append l W (KW header ∷ rs) ss = waiting-append l W rs ss
waiting-append l W (FN ∷ rs) ss = waiting-append l [] rs ss

pub waiting-one : (l : Grain) (W : List Motion) (slot : ℕ) (group : List ℕ) → waiting_after l W (GW slot group ∷ []) ≡ W ++ head l slot group
unfolding waiting_after
waiting-one l W slot group = refl

pub waiting-fence : (l : Grain) (W : List Motion) (rs : List Record) → waiting_after l W (rs ++ (FN ∷ [])) ≡ []
unfolding waiting_after
waiting-fence l W rs = waiting-append l W rs (FN ∷ [])

pub waiting-blocks : (rs : List Record) → waiting_after blocks [] rs ≡ []
unfolding waiting_after head parted
waiting-blocks [] = refl
waiting-blocks (GW slot group ∷ rs) = waiting-blocks rs
waiting-blocks (HW home block ∷ rs) = waiting-blocks rs
waiting-blocks (KW header ∷ rs) = waiting-blocks rs
waiting-blocks (FN ∷ rs) = waiting-blocks rs

-- homes and headers have no first word that waits
abbrev pub Plain : List Record → Type 0
Plain [] = Unit {0}
Plain (GW slot group ∷ rs) = ⊥
Plain (HW home block ∷ rs) = Plain rs
Plain (KW header ∷ rs) = Plain rs
Plain (FN ∷ rs) = ⊥

pub waiting-plain : (l : Grain) (W : List Motion) (rs : List Record) → Plain rs → waiting_after l W rs ≡ W
unfolding waiting_after
waiting-plain l W [] p = refl
waiting-plain l W (GW slot group ∷ rs) p = absurd p
waiting-plain l W (HW home block ∷ rs) p = waiting-plain l W rs p
waiting-plain l W (KW header ∷ rs) p = waiting-plain l W rs p
waiting-plain l W (FN ∷ rs) p = absurd p

-- of a stretch the groups alone count
pub waiting-groups : (l : Grain) (W : List Motion) (rs : List Record) → Mixed rs → waiting_after l W rs ≡ waiting_after l W (group_part rs)
unfolding waiting_after group_part
waiting-groups l W [] m = refl
waiting-groups l W (GW slot group ∷ rs) m = waiting-groups l (W ++ head l slot group) rs m
waiting-groups l W (HW home block ∷ rs) m = waiting-groups l W rs m
waiting-groups l W (KW header ∷ rs) m = absurd m
waiting-groups l W (FN ∷ rs) m = absurd m

-- ---- a group with a mark has a first word that waits

not_zeros : (group : List ℕ) → same (part group 0 2) group_mark ≡ true → same (part group 0 8) (zeros 8) ≡ false
unfolding part same zeros
not_zeros [] h = absurd (false≢true h)
not_zeros (x ∷ xs) h = rw (eqb-true x 0x50 ((and-eq-true_iff (eqb x 0x50) (same (take 1 xs) (0x47 ∷ []))).0 h).0)

abbrev pub first_word : ℕ → List ℕ → Motion
first_word slot group = put (to_log (group_offset slot) (take 8 group))

pub head-marked : (slot : ℕ) (group : List ℕ) → same (part group 0 2) group_mark ≡ true → head words slot group ≡ first_word slot group ∷ []
unfolding head parted
head-marked slot group h = rw (not_zeros group h)

-- as many wait as groups with a mark have been submitted
pub waiting-count : (G n₀ : ℕ) (content : ℕ → List ℕ) (k : ℕ) → ((n : ℕ) → n₀ ≤ n → n < n₀ + k → same (part (content n) 0 2) group_mark ≡ true)
    → length (waiting_after words [] (submits G n₀ content k)) ≡ k
unfolding submits waiting_after
waiting-count G n₀ content zero m = refl
waiting-count G n₀ content (suc k) m =
    let slot : ℕ = (n₀ + k) % G in
    let group : List ℕ = content (n₀ + k) in
    ap length
    (waiting-append words [] (submits G n₀ content k) (GW slot group ∷ [])
    ∙ ap (λ (x : List Motion). waiting_after words [] (submits G n₀ content k) ++ x) (head-marked slot group (m (n₀ + k) (omega arith) (omega arith))))
    ∙ length-append (waiting_after words [] (submits G n₀ content k)) (first_word slot group ∷ [])
    ∙ omega (arith, waiting-count G n₀ content k (λ n a b. m n a (omega arith)))

-- ---- the first words of the log copy

-- that of ring slot `slot`, as a group of the copy has it
pub copy-word : (log : List ℕ) (slot : ℕ) → first_word slot (group_at log slot) ≡ put (to_log (group_offset slot) (part log (group_offset slot) 8))
unfolding group_at
copy-word log slot =
    let e : group_offset slot + 0 ≡ group_offset slot = omega arith in
    ap {B = Motion} (λ (x : List ℕ). put (to_log (group_offset slot) x))
    (sym (part-zero (part log (group_offset slot) 512) 8) ∙ part-within log (group_offset slot) 512 0 8 (omega arith)
    ∙ ap (λ (i : ℕ). part log i 8) e)

abbrev pub word_at : ℕ → List ℕ → ℕ → Motion
word_at G log n = put (to_log (group_offset (n % G)) (part log (group_offset (n % G)) 8))

pub no_words : (G : ℕ) (log : List ℕ) (headed : ℕ) → words_from G log headed 0 ≡ []
unfolding words_from
no_words G log headed = refl

pub length-words : (G : ℕ) (log : List ℕ) (headed n : ℕ) → length (words_from G log headed n) ≡ n
unfolding words_from
length-words G log headed zero = refl
length-words G log headed (suc n) = omega (arith, length-words G log (headed + 1) n)

-- one more
pub words_more : (G : ℕ) (log : List ℕ) (headed n : ℕ) → words_from G log headed n ++ (word_at G log (headed + n) ∷ []) ≡ words_from G log headed (suc n)
unfolding words_from
words_more G log headed zero = let e : headed + 0 ≡ headed = omega arith in rw e
words_more G log headed (suc n) =
    let e : headed + suc n ≡ headed + 1 + n = omega arith in
    rw e (ap {B = List Motion} (λ (x : List Motion). word_at G log headed ∷ x) (words_more G log (headed + 1) n))

-- two copies that agree on these groups
pub words_same : (G : ℕ) (log log' : List ℕ) (headed n : ℕ)
    → ((k : ℕ) → headed ≤ k → k < headed + n → group_at log' (k % G) ≡ group_at log (k % G)) → words_from G log headed n ≡ words_from G log' headed n
unfolding words_from
words_same G log log' headed zero f = refl
words_same G log log' headed (suc n) f =
    rw (
      sym (copy-word log (headed % G)) ∙ ap {B = Motion} (first_word (headed % G)) (sym (f headed (omega arith) (omega arith))) ∙ copy-word log' (headed % G),
      words_same G log log' (headed + 1) n (λ k a b. f k (omega arith) (omega arith)),
    )
