-- What is found of a trace in what persisted of its log: the longest prefix of its commits all of whose entries persisted. Assumes nothing.
use Prim.Native.Nat.{ℕ, zero, suc, ◌+◌, ◌≤◌, ◌<◌}
use mathlib.Core.Path.{◌≡◌, refl, sym, ap, ◌∙◌}
use mathlib.Core.Logic.{◌⊎◌, inl, inr}
use mathlib.Core.Bool.{Bool, true, false, ◌&&◌, false≢true, and-false}
use mathlib.Core.List.{List, [], ◌∷◌, ◌++◌, append-nil}
use mathlib.Core.Option.{Option, none, some}
use native.Mathlib.Omega.{arith}
use lib.Dec.{leb}
use lib.ListN.{length}
use borrow.Author.Tests.{le-leb}
use Rattle.model.specs.Tag.{says}
use Rattle.model.specs.declared.Tag.{Tag}
use Rattle.model.specs.declared.Tag.TheVariants.{Nothing, Entry, Closing}
use Rattle.model.specs.Commit.{linked, Walk, started, decided_closing, visit, walk, committed, transactions}
use Rattle.model_laws.proofs.trace.Trace.{Ev, Hist, mine, advance, hist, first_of, tag_of, tag_at, first_in, link_in, surviving, closer_of, oldest_of, closing_from, all_landed, whole, Apart, LinkOk, Linked, LinkedIf}
use Rattle.model_laws.proofs.trace.TraceLaws.{Rising, done-rising, Logs, logs-own}
use Rattle.model_laws.proofs.trace.WholeLaws.{every_landed, whole-more, whole-stop, whole-every, whole-all, every_append, closing_from-snoc, closing_from-none}
use Rattle.model_laws.proofs.trace.LinkLaws.{last_from, last_snoc, Below, below_suc, below-ne, below_last, Prior, prior-low, link_on, link_lost, apart_snoc}
use Rattle.model_laws.proofs.trace.CountLaws.{span_of, spans_of, kept, Counted, counted-mine, counted-closing, each-found, writer_on, Writers, writers, mine-first, counted-now, found}

-- ---- the links of the closing entries that persisted

linked_if-parts : (landed : ℕ → Bool) (c : ℕ) (log : ℕ → Tag) (prev : Option ℕ) (ts : List (List ℕ)) (t : List ℕ)
    → LinkedIf landed c log prev (ts ++ (t ∷ []))
    → LinkedIf landed c log prev ts
    × (landed (closer_of t) ≡ true → c ≤ closer_of t → LinkOk c (last_from prev ts) (closer_of t) (link_in (log (closer_of t))))
unfolding last_from
linked_if-parts landed c log prev [] t l = (tt, l.0)
linked_if-parts landed c log prev (u ∷ ts) t l = let r = linked_if-parts landed c log (some (closer_of u)) ts t l.1 in ((l.0, r.0), r.1)

pub linked-if : (landed : ℕ → Bool) (c : ℕ) (log : ℕ → Tag) (prev : Option ℕ) (ts : List (List ℕ)) → Linked c log prev ts
    → LinkedIf landed c log prev ts
linked-if landed c log prev [] l = tt
linked-if landed c log prev (t ∷ ts) l = (λ d. l.0, linked-if landed c log (some (closer_of t)) ts l.1)

-- ---- the walk against the history

spans-append : (xs ys : List (List ℕ)) → spans_of (xs ++ ys) ≡ spans_of xs ++ spans_of ys
unfolding spans_of
spans-append [] ys = refl
spans-append (t ∷ ts) ys = rw (spans-append ts ys)

-- ts: the commits at or above c among the positions below p; w: the walk over them
abbrev Going : (ℕ → Bool) → List (List ℕ) → Walk → Type 0
Going landed ts w =
    ((every_landed landed ts ≡ true) × (w.going ≡ true) × (w.last ≡ last_from none ts)) ⊎
    ((every_landed landed ts ≡ false) × (w.going ≡ true → w.last ≡ last_from none ts → ⊥))

record Main (landed : ℕ → Bool) (p : ℕ) (ts : List (List ℕ)) (w : Walk) : Type 0 where
  list : w.spans ≡ spans_of (whole landed ts)
  low : Below p w.last
  high : Below p (last_from none ts)
  link : Going landed ts w

main-same : (landed : ℕ → Bool) (p : ℕ) (ts : List (List ℕ)) (w : Walk) → Main landed p ts w → Main landed (suc p) ts w
main-same landed p ts w m =
    record { list = m.list; low = below_suc p w.last m.low; high = below_suc p (last_from none ts) m.high; link = m.link }

and_right : (a b : Bool) → b ≡ false → (a && b) ≡ false
and_right a b e = rw e (and-false a)

and₃ : (a b c : Bool) → (a && b && c) ≡ true → (a ≡ true) × (b ≡ true) × (c ≡ true)
and₃ true true c e = (refl, refl, e)
and₃ true false c e = absurd (false≢true e)
and₃ false b c e = absurd (false≢true e)

every_one : (landed : ℕ → Bool) (ts : List (List ℕ)) (t : List ℕ)
    → every_landed landed (ts ++ (t ∷ [])) ≡ (every_landed landed ts && all_landed landed t)
unfolding every_landed
every_one landed ts t = every_append landed ts (t ∷ []) ∙ ap (λ b. every_landed landed ts && b) (go (all_landed landed t))
  where
    go : (b : Bool) → (b && true) ≡ b
    go true = refl
    go false = refl

whole-one : (landed : ℕ → Bool) (ts : List (List ℕ)) (t : List ℕ) → every_landed landed ts ≡ true → all_landed landed t ≡ true
    → whole landed (ts ++ (t ∷ [])) ≡ whole landed ts ++ (t ∷ [])
unfolding whole
whole-one landed ts t e a = whole-more landed ts (t ∷ []) e ∙ rw (whole-every landed ts e, a)

whole-cut : (landed : ℕ → Bool) (ts : List (List ℕ)) (t : List ℕ) → (every_landed landed ts && all_landed landed t) ≡ false
    → whole landed (ts ++ (t ∷ [])) ≡ whole landed ts
unfolding whole
whole-cut landed ts t e = go (every_landed landed ts) refl e
  where
    go : (b : Bool) → every_landed landed ts ≡ b → (b && all_landed landed t) ≡ false → whole landed (ts ++ (t ∷ [])) ≡ whole landed ts
    go true q a = whole-more landed ts (t ∷ []) q ∙ rw (whole-every landed ts q, a) (append-nil ts)
    go false q a = whole-stop landed ts (t ∷ []) q

module _ (landed : ℕ → Bool) (c p : ℕ) (ts : List (List ℕ)) (w : Walk) (ps : List ℕ) (m : Main landed p ts w) where
  abbrev tx : List ℕ
  tx = p ∷ ps

  -- a closing entry whose transaction, or one before it, is not whole
  main-stop : (v : Walk) → v.spans ≡ w.spans → v.last ≡ w.last → (every_landed landed ts && all_landed landed tx) ≡ false
      → (v.going ≡ true → v.last ≡ some p → ⊥) → Main landed (suc p) (ts ++ (tx ∷ [])) v
  unfolding closer_of
  main-stop v s l n d = record {
    list = s ∙ m.list ∙ ap spans_of (sym (whole-cut landed ts tx n));
    low = rw l (below_suc p w.last m.low);
    high = rw (last_snoc none ts tx) (omega arith);
    link = inr (every_one landed ts tx ∙ n, rw (last_snoc none ts tx) d);
  }

  main-lost : landed p ≡ false → Main landed (suc p) (ts ++ (tx ∷ [])) w
  unfolding all_landed
  main-lost l = main-stop w refl refl (and_right (every_landed landed ts) (all_landed landed tx) (rw l)) (λ a. below-ne p w.last m.low)

  module _ (link : ℕ) (prev : Option ℕ) (ok : LinkOk c prev p link) (prior : Prior c prev (last_from none ts)) (l : landed p ≡ true) where
    abbrev test : Bool
    test = w.going && linked c w.last p link && all_landed landed ps

    main-passed : test ≡ true → Main landed (suc p) (ts ++ (tx ∷ [])) (decided_closing true (span_of tx) w)
    unfolding decided_closing span_of spans_of closer_of oldest_of all_landed
    main-passed t = go m.link (and₃ w.going (linked c w.last p link) (all_landed landed ps) t)
      where
        go : Going landed ts w → (w.going ≡ true) × (linked c w.last p link ≡ true) × (all_landed landed ps ≡ true)
            → Main landed (suc p) (ts ++ (tx ∷ [])) (decided_closing true (span_of tx) w)
        go (inl g) t = record {
          list = rw m.list (sym (ap spans_of (whole-one landed ts tx g.0 (rw (l, t.2))) ∙ spans-append (whole landed ts) (tx ∷ [])));
          low = omega arith;
          high = rw (last_snoc none ts tx) (omega arith);
          link = inl (every_one landed ts tx ∙ rw (g.0, l, t.2), refl, sym (last_snoc none ts tx));
        }
        go (inr g) t = absurd (false≢true (sym (link_lost landed c p link prev w.last ts ok prior g.0 m.high (g.1 t.0)) ∙ t.1))

    main-failed : test ≡ false → Main landed (suc p) (ts ++ (tx ∷ [])) (decided_closing false (span_of tx) w)
    unfolding decided_closing all_landed
    main-failed t = main-stop (decided_closing false (span_of tx) w) refl refl (go m.link) (λ a. absurd (false≢true a))
      where
        go : Going landed ts w → (every_landed landed ts && all_landed landed tx) ≡ false
        go (inl g) = rw (g.0, l) (rw (g.1, g.2, link_on c p link prev (last_from none ts) ok prior) at t)
        go (inr g) = rw g.0

    main-judged : (b : Bool) → test ≡ b → Main landed (suc p) (ts ++ (tx ∷ [])) (decided_closing b (span_of tx) w)
    main-judged true t = main-passed t
    main-judged false t = main-failed t

module _ (landed : ℕ → Bool) (c : ℕ) (log : ℕ → Tag) where
  there : (p : ℕ) (t : Tag) → log p ≡ t → surviving landed c log p ≡ says (landed p && leb c (first_in t)) t
  unfolding surviving
  there p t l = rw l

  there-kept : (p h f l k : ℕ) → log p ≡ Closing h f l k → c ≤ f → landed p ≡ true → surviving landed c log p ≡ Closing h f l k
  unfolding says first_in
  there-kept p h f l k e b d = there p (Closing h f l k) e ∙ rw (d, le-leb c f b)

  there-lost : (p : ℕ) → landed p ≡ false → surviving landed c log p ≡ Nothing
  unfolding says surviving
  there-lost p d = rw (d, says)

  visit-nothing : (n : ℕ) (w : Walk) (b : Bool) → visit (kept landed c log) c n (says b Nothing) w ≡ w
  unfolding visit says
  visit-nothing n w true = refl
  visit-nothing n w false = refl

  visit-entry : (n : ℕ) (w : Walk) (h f : ℕ) (b : Bool) → visit (kept landed c log) c n (says b (Entry h f)) w ≡ w
  unfolding visit says
  visit-entry n w h f true = refl
  visit-entry n w h f false = refl

  main-closing : (n : ℕ) (e : Ev) (ps : List ℕ) (ts : List (List ℕ)) (w : Walk) (prev : Option ℕ) → log (c + n) ≡ tag_of (c + n) e ps true true
      → Counted landed c log (suc n) ((c + n) ∷ ps)
      → c ≤ first_of (c + n) ps → (landed (c + n) ≡ true → LinkOk c prev (c + n) e.link) → Prior c prev (last_from none ts)
      → Main landed (c + n) ts w
      → Main landed (suc (c + n)) (ts ++ (((c + n) ∷ ps) ∷ [])) (visit (kept landed c log) c n (kept landed c log (c + n)) w)
  unfolding visit tag_of span_of closer_of oldest_of
  main-closing n e ps ts w prev l k b ok a m = go (landed (c + n)) refl
    where
      go : (d : Bool) → landed (c + n) ≡ d
          → Main landed (suc (c + n)) (ts ++ (((c + n) ∷ ps) ∷ [])) (visit (kept landed c log) c n (kept landed c log (c + n)) w)
      go true d =
          rw (there-kept (c + n) e.home (first_of (c + n) ps) e.link (suc (length ps)) l b d, counted-closing landed c log n ps k b d)
          (main-judged landed c (c + n) ts w ps m e.link prev (ok d) a d (test landed c (c + n) ts w ps m e.link prev (ok d) a d) refl)
      go false d = rw (there-lost (c + n) d) (main-lost landed c (c + n) ts w ps m d)

  main-step : (n : ℕ) (h : Hist) (e : Ev) (u f : Bool) (w : Walk) → log (c + n) ≡ tag_of (c + n) e (mine h e) u f → first_of (c + n) (mine h e) ≤ c + n
      → Counted landed c log n (mine h e)
      → Apart c (advance (c + n) e h u f).done → LinkedIf landed c log none (advance (c + n) e h u f).done
      → Prior c (last_from none h.done) (last_from none (closing_from c h.done))
      → Main landed (c + n) (closing_from c h.done) w
      → Main landed (suc (c + n)) (closing_from c (advance (c + n) e h u f).done) (visit (kept landed c log) c n (kept landed c log (c + n)) w)
  unfolding advance tag_of
  main-step n h e false f w l b k x y a m =
      rw (there (c + n) Nothing l, visit-nothing n w (landed (c + n) && leb c (first_in Nothing)))
      (main-same landed (c + n) (closing_from c h.done) w m)
  main-step n h e true false w l b k x y a m =
      rw (
        there (c + n) (Entry e.home (first_of (c + n) (mine h e))) l,
        visit-entry n w e.home (first_of (c + n) (mine h e)) (landed (c + n) && leb c (first_in (Entry e.home (first_of (c + n) (mine h e))))),
      )
      (main-same landed (c + n) (closing_from c h.done) w m)
  main-step n h e true true w l b k x y a m =
      rw (closing_from-snoc c h.done ((c + n) ∷ mine h e) at_c)
      (main-closing n e (mine h e) (closing_from c h.done) w (last_from none h.done) l
      (counted-mine landed c log n e (mine h e) true l b k) begins ok a m)
    where
      at_c : c ≤ closer_of ((c + n) ∷ mine h e)
      at_c = unfold closer_of in omega arith

      begins : c ≤ first_of (c + n) (mine h e)
      begins = unfold closer_of oldest_of in go (apart_snoc c h.done ((c + n) ∷ mine h e) x).1
        where
          go : (c + n < c) ⊎ (c ≤ first_of (c + n) (mine h e)) → c ≤ first_of (c + n) (mine h e)
          go (inl z) = omega arith
          go (inr z) = z

      ok : landed (c + n) ≡ true → LinkOk c (last_from none h.done) (c + n) e.link
      ok d = unfold closer_of link_in in rw l at ((linked_if-parts landed c log none h.done ((c + n) ∷ mine h e) y).1 d (omega arith))

  prior-step : (p : ℕ) (h : Hist) (e : Ev) (u f : Bool) → c ≤ p → Prior c (last_from none h.done) (last_from none (closing_from c h.done))
      → Prior c (last_from none (advance p e h u f).done) (last_from none (closing_from c (advance p e h u f).done))
  unfolding advance closer_of
  prior-step p h e false f b a = a
  prior-step p h e true false b a = a
  prior-step p h e true true b a =
      rw (
        closing_from-snoc c h.done (p ∷ mine h e) b,
        last_snoc none h.done (p ∷ mine h e),
        last_snoc none (closing_from c h.done) (p ∷ mine h e),
      )
      (λ z. refl, λ z. absurd (omega arith))

  apart-older : (p : ℕ) (h : Hist) (e : Ev) (u f : Bool) → Apart c (advance p e h u f).done → Apart c h.done
  unfolding advance
  apart-older p h e false f x = x
  apart-older p h e true false x = x
  apart-older p h e true true x = (apart_snoc c h.done (p ∷ mine h e) x).0

  linked-older : (p : ℕ) (h : Hist) (e : Ev) (u f : Bool) → LinkedIf landed c log none (advance p e h u f).done
      → LinkedIf landed c log none h.done
  unfolding advance
  linked-older p h e false f x = x
  linked-older p h e true false x = x
  linked-older p h e true true x = (linked_if-parts landed c log none h.done (p ∷ mine h e) x).0

module _ (landed : ℕ → Bool) (c : ℕ) (log : ℕ → Tag) (who : ℕ → ℕ) (base : ℕ) (from : base ≤ c) where
  prior : (tr : List Ev) (n : ℕ) → c + n ≡ base + length tr
      → Prior c (last_from none (hist base tr).done) (last_from none (closing_from c (hist base tr).done))
  unfolding hist last_from
  prior tr zero q =
      let z : base + length tr ≡ c = omega arith in
      let r : Rising base c (hist base tr).done = rw z at (done-rising base tr) in
      rw (closing_from-none c base c (hist base tr).done (omega arith) r)
      (prior-low c (last_from none (hist base tr).done) (below_last base c none (hist base tr).done tt r))
  prior [] (suc n) q = absurd (omega arith)
  prior (e ∷ tr) (suc n) q =
      let q' : c + n ≡ base + length tr = omega arith in
      prior-step landed c log (base + length tr) (hist base tr) e e.used e.final (omega arith) (prior tr n q')

  main : (tr : List Ev) (n : ℕ) → c + n ≡ base + length tr → Logs log base tr → Writers who base tr → Apart c (hist base tr).done
      → LinkedIf landed c log none (hist base tr).done
      → Main landed (c + n) (closing_from c (hist base tr).done) (walk (kept landed c log) c n)
  unfolding hist walk started every_landed spans_of whole last_from
  main tr zero q l v x y =
      rw (closing_from-none c base (base + length tr) (hist base tr).done (omega arith) (done-rising base tr))
      (record { list = refl; low = tt; high = tt; link = inl (refl, refl, refl) })
  main [] (suc n) q l v x y = absurd (omega arith)
  main (e ∷ tr) (suc n) q l v x y =
      let q' : c + n ≡ base + length tr = omega arith in
      let s : c + suc n ≡ suc (c + n) = omega arith in
      let m = main tr n q' l.1 v.1 (apart-older landed c log (base + length tr) (hist base tr) e e.used e.final x)
      (linked-older landed c log (base + length tr) (hist base tr) e e.used e.final y) in
      rw (s, ← q')
      (main-step landed c log n (hist base tr) e e.used e.final (walk (kept landed c log) c n) (rw (← q') at l.0)
      (mine-first landed c log who base from tr e n q') (counted-now landed c log who base from tr e n q' l.1 v.1) (rw (← q') at x)
      (rw (← q') at y) (prior tr n q') m)

-- ---- the theorem

pub survivors-if-spans : (base : ℕ) (tr : List Ev) (c : ℕ) (landed : ℕ → Bool) (n : ℕ) → base ≤ c → Apart c (hist base tr).done
    → LinkedIf landed c (tag_at base tr) none (hist base tr).done → c + n ≡ base + length tr
    → committed (surviving landed c (tag_at base tr)) c n ≡ spans_of (whole landed (closing_from c (hist base tr).done))
unfolding committed
survivors-if-spans base tr c landed n b x y q =
    (main landed c (tag_at base tr) (writer_on base tr) base b tr n q (logs-own base tr) (writers (writer_on base tr) base tr (λ p h. refl)) x y).list

pub survivors-if : (base : ℕ) (tr : List Ev) (c : ℕ) (landed : ℕ → Bool) (n : ℕ) → base ≤ c → Apart c (hist base tr).done
    → LinkedIf landed c (tag_at base tr) none (hist base tr).done → c + n ≡ base + length tr
    → transactions (surviving landed c (tag_at base tr)) c n ≡ whole landed (closing_from c (hist base tr).done)
unfolding transactions
survivors-if base tr c landed n b x y q =
    rw (survivors-if-spans base tr c landed n b x y q)
    (each-found landed c (tag_at base tr) (hist base tr).done
    (found landed c (tag_at base tr) (writer_on base tr) base b tr n q (logs-own base tr) (writers (writer_on base tr) base tr (λ p h. refl))) x)

-- the same where every link is right
pub survivors-spans : (base : ℕ) (tr : List Ev) (c : ℕ) (landed : ℕ → Bool) (n : ℕ) → base ≤ c → Apart c (hist base tr).done
    → Linked c (tag_at base tr) none (hist base tr).done → c + n ≡ base + length tr
    → committed (surviving landed c (tag_at base tr)) c n ≡ spans_of (whole landed (closing_from c (hist base tr).done))
survivors-spans base tr c landed n b x y q =
    survivors-if-spans base tr c landed n b x (linked-if landed c (tag_at base tr) none (hist base tr).done y) q

pub survivors : (base : ℕ) (tr : List Ev) (c : ℕ) (landed : ℕ → Bool) (n : ℕ) → base ≤ c → Apart c (hist base tr).done
    → Linked c (tag_at base tr) none (hist base tr).done → c + n ≡ base + length tr
    → transactions (surviving landed c (tag_at base tr)) c n ≡ whole landed (closing_from c (hist base tr).done)
survivors base tr c landed n b x y q = survivors-if base tr c landed n b x (linked-if landed c (tag_at base tr) none (hist base tr).done y) q

pub all-survive : (base : ℕ) (tr : List Ev) (c n : ℕ) → base ≤ c → Apart c (hist base tr).done → Linked c (tag_at base tr) none (hist base tr).done
    → c + n ≡ base + length tr
    → transactions (surviving (λ p. true) c (tag_at base tr)) c n ≡ closing_from c (hist base tr).done
all-survive base tr c n b x y q = survivors base tr c (λ p. true) n b x y q ∙ whole-all (closing_from c (hist base tr).done)
