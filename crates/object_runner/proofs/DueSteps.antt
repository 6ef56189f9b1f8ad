-- A call of an era that writes at most one group, homes or a header, and a fence: the first words that wait stay those of the log copy.
use Prim.Native.Nat.{ℕ, suc, ◌+◌, ◌-◌, ◌/◌, ◌%◌, ◌≤◌, ◌<◌}
use mathlib.Core.Path.{◌≡◌, refl, sym, ap, ◌∙◌, subst}
use mathlib.Core.Logic.{◌⊎◌, inl, inr}
use mathlib.Core.Bool.{Bool, true, false, cond, false≢true}
use mathlib.Core.List.{List, [], ◌∷◌, ◌++◌, append-nil}
use native.Mathlib.Omega.{arith}
use lib.ListN.{length}
use Rattle.model.specs.Bytes.{part, same}
use Rattle.model.specs.Layout.{group_mark, group_at}
use Rattle.model.specs.Batch.{Record, GW, HW, KW, FN}
use Rattle.model.specs.State.{state_of}
use Rattle.model.specs.Effects.{Effect}
use Rattle.model.specs.Crash.{is_fence}
use Rattle.model.specs.DemandTwo.{group_writes}
use Rattle.model.specs.History.{Call, World}
use Rattle.model_laws.proofs.trace.CrashLaws.{submits, NoFence, group_writes-append, group_writes-fence, group_writes-submits}
use Rattle.model_laws.proofs.trace.MixLaws.{group_writes-part}
use Rattle.theorems.proofs.invariant.Invariant.{Submitted, Running}
use Rattle.theorems.proofs.steps.DoneLaws.{after}
use Rattle.object.specs.Medium.{Grain, words}
use Rattle.object.specs.Order.{Motion, head}
use Rattle.object_runner.specs.Moves.{words_from, words_due, headed_at, headed_after, waiting_after, Due, Fitting}
use Rattle.object_runner.proofs.WaitingLaws.{waiting-append, waiting-one, waiting-fence, Plain, waiting-plain, waiting-groups, head-marked, waiting-count, copy-word, word_at, no_words, length-words, words_more, words_same}

-- ---- premise and number over records with no fence but the last

module _ (l : Grain) (G next : ℕ) (log : List ℕ) where
  pub due-quiet : (headed : ℕ) (W : List Motion) (rs : List Record) → NoFence rs → Due l G log next headed W rs
  unfolding is_fence
  due-quiet headed W [] n = tt
  due-quiet headed W (GW slot group ∷ rs) n = due-quiet headed (W ++ head l slot group) rs n.1
  due-quiet headed W (HW home block ∷ rs) n = due-quiet headed W rs n.1
  due-quiet headed W (KW header ∷ rs) n = due-quiet headed W rs n.1
  due-quiet headed W (FN ∷ rs) n = absurd (false≢true (sym n.0))

  pub due-fence : (headed : ℕ) (W : List Motion) (rs : List Record) → NoFence rs → waiting_after l W rs ≡ words_due l G log headed next
      → Due l G log next headed W (rs ++ (FN ∷ []))
  unfolding is_fence waiting_after
  due-fence headed W [] n e = (e, tt)
  due-fence headed W (GW slot group ∷ rs) n e = due-fence headed (W ++ head l slot group) rs n.1 e
  due-fence headed W (HW home block ∷ rs) n e = due-fence headed W rs n.1 e
  due-fence headed W (KW header ∷ rs) n e = due-fence headed W rs n.1 e
  due-fence headed W (FN ∷ rs) n e = absurd (false≢true (sym n.0))

pub headed-quiet : (l : Grain) (headed next : ℕ) (rs : List Record) → NoFence rs → headed_after l headed next rs ≡ headed
unfolding is_fence headed_after
headed-quiet l headed next [] n = refl
headed-quiet l headed next (GW slot group ∷ rs) n = headed-quiet l headed next rs n.1
headed-quiet l headed next (HW home block ∷ rs) n = headed-quiet l headed next rs n.1
headed-quiet l headed next (KW header ∷ rs) n = headed-quiet l headed next rs n.1
headed-quiet l headed next (FN ∷ rs) n = absurd (false≢true (sym n.0))

pub headed-fence : (l : Grain) (headed next : ℕ) (rs : List Record) → NoFence rs → headed_after l headed next (rs ++ (FN ∷ [])) ≡ headed_at l headed next
unfolding is_fence headed_after
headed-fence l headed next [] n = refl
headed-fence l headed next (GW slot group ∷ rs) n = headed-fence l headed next rs n.1
headed-fence l headed next (HW home block ∷ rs) n = headed-fence l headed next rs n.1
headed-fence l headed next (KW header ∷ rs) n = headed-fence l headed next rs n.1
headed-fence l headed next (FN ∷ rs) n = absurd (false≢true (sym n.0))

plain-none : (rs : List Record) → Plain rs → NoFence rs
unfolding is_fence
plain-none [] p = tt
plain-none (GW slot group ∷ rs) p = absurd p
plain-none (HW home block ∷ rs) p = (refl, plain-none rs p)
plain-none (KW header ∷ rs) p = (refl, plain-none rs p)
plain-none (FN ∷ rs) p = absurd p

plain-writes : (rs : List Record) → Plain rs → group_writes rs ≡ 0
unfolding group_writes
plain-writes [] p = refl
plain-writes (GW slot group ∷ rs) p = absurd p
plain-writes (HW home block ∷ rs) p = plain-writes rs p
plain-writes (KW header ∷ rs) p = plain-writes rs p
plain-writes (FN ∷ rs) p = absurd p

-- ---- between two calls of an era

-- the first words of all groups below this are written, and those that wait
abbrev pub headed_of : World → ℕ
headed_of w = (state_of w.state).fenced / 7

abbrev pub waiting_of : World → List Motion
waiting_of w = waiting_after words [] w.pending

-- the invariant: those that wait are the log copy's, of the groups from there to the next one
abbrev pub Waits : ℕ → World → Type 0
Waits G w = waiting_of w ≡ words_from G w.log (headed_of w) ((state_of w.state).next - headed_of w)

module _ (G D : ℕ) (w : World) (r : Running G D w) where
  abbrev s : Submitted G D r.b r.tr r.old w
  s = r.submitted

  of-groups : waiting_of w ≡ waiting_after words [] (submits G s.group s.content s.count)
  of-groups =
      ap (waiting_after words []) s.split ∙ waiting-append words [] (s.fenced ++ (FN ∷ [])) s.tail
      ∙ ap (λ (x : List Motion). waiting_after words x s.tail) (waiting-fence words [] s.fenced) ∙ waiting-groups words [] s.tail s.mixed
      ∙ ap (waiting_after words []) s.groups_of

  many : length (waiting_of w) ≡ s.count
  many = ap length of-groups ∙ waiting-count G s.group s.content s.count (λ n a b. (s.contents n a b).mark)

  at-group : headed_of w ≡ s.group
  at-group = ap (λ (x : ℕ). x / 7) s.at_fence ∙ omega arith

  -- as many wait as groups have been submitted since the last fence
  pub headed-next : headed_of w + length (waiting_of w) ≡ (state_of w.state).next
  headed-next = omega (arith, at-group, many, s.next)

  pub start-headed : (state_of w.state).start ≤ headed_of w
  start-headed = let o = r.copies.order in omega (arith, o.start-settled, o.settled-fenced)

  -- the next group, by the groups written since the last crash
  pub next-written : (state_of w.state).next + G ≡ r.b + group_writes w.pending
  next-written =
      let a : group_writes w.pending ≡ group_writes (s.fenced ++ (FN ∷ [])) + group_writes s.tail =
      ap group_writes s.split ∙ group_writes-append (s.fenced ++ (FN ∷ [])) s.tail in
      let b : group_writes s.tail ≡ s.count =
      group_writes-part s.tail ∙ ap group_writes s.groups_of ∙ group_writes-submits G s.group s.content s.count in
      omega (arith, a, b, group_writes-fence s.fenced, s.written, s.low, s.next)

-- ---- what a call writes

-- the next group, as the copy has it then
pub record Submits (G : ℕ) (w : World) (log : List ℕ) (pre : List Record) : Type 0 where
  pub one : pre ≡ GW ((state_of w.state).next % G) (group_at log ((state_of w.state).next % G)) ∷ []
  pub marked : same (part (group_at log ((state_of w.state).next % G)) 0 2) group_mark ≡ true

pub record Written (G D : ℕ) (w : World) (e : Effect) : Type 0 where
  pub pre : List Record
  pub last : Bool
  pub is : e.records ≡ pre ++ cond last (FN ∷ []) []
  pub what : Plain pre ⊎ Submits G w e.log pre
  pub kept : (n : ℕ) → headed_of w ≤ n → n < (state_of w.state).next → group_at e.log (n % G) ≡ group_at w.log (n % G)
  pub fitting : Fitting G D e.records

module _ (G D : ℕ) (w : World) (r : Running G D w) (j : Waits G w) (c : Call) (e : Effect) (r' : Running G D (after w c e)) (x : Written G D w e) where
  abbrev next : ℕ
  next = (state_of w.state).next

  abbrev next' : ℕ
  next' = (state_of e.state).next

  abbrev h : ℕ
  h = headed_of w

  no-fence : NoFence x.pre
  no-fence = go x.what
    where
      go : Plain x.pre ⊎ Submits G w e.log x.pre → NoFence x.pre
      go (inl p) = plain-none x.pre p
      go (inr q) = subst NoFence (sym q.one) (unfold is_fence in (refl, tt))

  fence-writes : (t : Bool) → group_writes (cond t (FN ∷ []) []) ≡ 0
  unfolding group_writes
  fence-writes true = refl
  fence-writes false = refl

  next_grows : next' ≡ next + group_writes x.pre
  next_grows =
      let a : group_writes (w.pending ++ e.records) ≡ group_writes w.pending + group_writes e.records = group_writes-append w.pending e.records in
      let b : group_writes e.records ≡ group_writes x.pre + group_writes (cond x.last (FN ∷ []) []) =
      ap group_writes x.is ∙ group_writes-append x.pre (cond x.last (FN ∷ []) []) in
      omega (arith, a, b, fence-writes x.last, next-written G D w r, next-written G D (after w c e) r', r.since, r'.since)

  -- the words that waited, in the copy that the call leaves
  old-words : waiting_of w ≡ words_from G e.log h (next - h)
  old-words = j ∙ words_same G w.log e.log h (next - h) (λ n a b. x.kept n a (omega (arith, headed-next G D w r)))

  pub pre-due : waiting_after words (waiting_of w) x.pre ≡ words_from G e.log h (next' - h)
  pre-due = go x.what
    where
      go : Plain x.pre ⊎ Submits G w e.log x.pre → waiting_after words (waiting_of w) x.pre ≡ words_from G e.log h (next' - h)
      go (inl p) =
          let n : next - h ≡ next' - h = omega (arith, next_grows, plain-writes x.pre p) in
          waiting-plain words (waiting_of w) x.pre p ∙ old-words ∙ ap (words_from G e.log h) n
      go (inr q) =
          let slot : ℕ = next % G in
          let one : group_writes x.pre ≡ 1 = ap group_writes q.one ∙ (unfold group_writes in refl) in
          let n : suc (next - h) ≡ next' - h = omega (arith, next_grows, one, headed-next G D w r) in
          let m : next ≡ h + (next - h) = omega (arith, headed-next G D w r) in
          ap (waiting_after words (waiting_of w)) q.one ∙ waiting-one words (waiting_of w) slot (group_at e.log slot)
          ∙ ap (λ (y : List Motion). waiting_of w ++ y) (head-marked slot (group_at e.log slot) q.marked)
          ∙ ap (λ (y : Motion). waiting_of w ++ (y ∷ [])) (copy-word e.log slot) ∙ ap (λ (y : List Motion). y ++ (word_at G e.log next ∷ [])) old-words
          ∙ ap (λ (y : ℕ). words_from G e.log h (next - h) ++ (word_at G e.log y ∷ [])) m ∙ words_more G e.log h (next - h)
          ∙ ap (words_from G e.log h) n

  pub next-mono : next ≤ next'
  next-mono = omega (arith, next_grows)

  pub next_low : h ≤ next'
  next_low = omega (arith, next_grows, headed-next G D w r)

  pub due-words : Due words G e.log next' h (waiting_of w) e.records
  due-words = subst (Due words G e.log next' h (waiting_of w)) (sym x.is) (go x.last)
    where
      go : (t : Bool) → Due words G e.log next' h (waiting_of w) (x.pre ++ cond t (FN ∷ []) [])
      go true = due-fence words G next' e.log h (waiting_of w) x.pre no-fence (pre-due ∙ (unfold words_due in refl))
      go false =
          subst (Due words G e.log next' h (waiting_of w)) (sym (append-nil x.pre)) (due-quiet words G next' e.log h (waiting_of w) x.pre no-fence)

  -- what waits after it, and from which group on
  now-waits : (t : Bool) → x.last ≡ t → waiting_of (after w c e) ≡ waiting_after words (waiting_of w) (x.pre ++ cond t (FN ∷ []) [])
  now-waits t q =
      waiting-append words [] w.pending e.records
      ∙ ap (waiting_after words (waiting_of w)) (x.is ∙ ap (λ (y : Bool). x.pre ++ cond y (FN ∷ []) []) q)

  none-waits : x.last ≡ true → waiting_of (after w c e) ≡ []
  none-waits q = now-waits true q ∙ waiting-fence words (waiting_of w) x.pre

  some-wait : x.last ≡ false → waiting_of (after w c e) ≡ words_from G e.log h (next' - h)
  some-wait q = now-waits false q ∙ ap (waiting_after words (waiting_of w)) (append-nil x.pre) ∙ pre-due

  at_next : x.last ≡ true → headed_of (after w c e) ≡ next'
  at_next q = omega (arith, headed-next G D (after w c e) r', ap length (none-waits q))

  at_same : x.last ≡ false → headed_of (after w c e) ≡ h
  at_same q = omega (arith, headed-next G D (after w c e) r', ap length (some-wait q), length-words G e.log h (next' - h), next_low)

  pub waits-on : Waits G (after w c e)
  waits-on = go x.last refl
    where
      go : (t : Bool) → x.last ≡ t → Waits G (after w c e)
      go true q =
          let n : next' - headed_of (after w c e) ≡ 0 = omega (arith, at_next q) in
          none-waits q ∙ sym (ap (words_from G e.log (headed_of (after w c e))) n ∙ no_words G e.log (headed_of (after w c e)))
      go false q = some-wait q ∙ ap (λ (y : ℕ). words_from G e.log y (next' - y)) (sym (at_same q))

  pub headed-on : headed_after words h next' e.records ≡ headed_of (after w c e)
  headed-on = ap (headed_after words h next') x.is ∙ go x.last refl
    where
      go : (t : Bool) → x.last ≡ t → headed_after words h next' (x.pre ++ cond t (FN ∷ []) []) ≡ headed_of (after w c e)
      go true q = headed-fence words h next' x.pre no-fence ∙ (unfold headed_at in omega (arith, at_next q, next_low))
      go false q = ap (headed_after words h next') (append-nil x.pre) ∙ headed-quiet words h next' x.pre no-fence ∙ sym (at_same q)
