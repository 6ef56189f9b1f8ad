-- Calls that end with a fence: the records since the last crash after them.
use mathlib.Core.Path.{◌≡◌, refl, sym, ap, ◌∙◌, subst}
use mathlib.Core.Logic.{inr}
use mathlib.Core.Bool.{Bool}
use mathlib.Core.List.{List, [], ◌∷◌, ◌++◌, append-nil, append_assoc}
use Prim.Native.Nat.{ℕ, ◌+◌, ◌-◌, ◌*◌, ◌≤◌, ◌<◌}
use native.Mathlib.Decide.{dec_lt}
use native.Mathlib.Omega.{arith}
use lib.ListN.{length, drop}
use Rattle.model.specs.Layout.{group_count, header_start}
use Rattle.model.specs.State.{state_of, next_position}
use Rattle.model.specs.Batch.{Record, FN}
use Rattle.model.specs.Effects.{home_writes}
use Rattle.model.specs.Crash.{Memory, fences, persist, persist_chosen, fates, fates_chosen}
use Rattle.model.specs.Book.{Commit}
use Rattle.model.specs.DemandTwo.{group_writes}
use Rattle.model.specs.History.{World}
use Rattle.model_laws.proofs.bytes.LayoutLaws.{groups-in}
use Rattle.model_laws.proofs.trace.CrashLaws.{write_records, trues, NoFence, submits, fences-append, fences-fence, fences-none, none-append, group_writes-append, group_writes-fence, group_writes-submits, write-append, write-fence, length-write, persist-stop, fates-stop, persist-last, fates-last, chosen-fence, fate-fence, write-nil}
use Rattle.model_laws.proofs.trace.FateLaws.{drop-trues}
use Rattle.model_laws.proofs.trace.HomeLaws.{In}
use Rattle.model_laws.proofs.trace.MixLaws.{group_part, home_part, group_writes-part, none-mixed, sorted-then, sorted-wrote}
use Rattle.model_laws.proofs.trace.Trace.{Ev}
use Rattle.theorems.proofs.invariant.Invariant.{Sizes, HeldHome, Late, ImageOk, Copies, Submitted, Commits}
use Rattle.theorems.proofs.invariant.SettledLaws.{copy-held}
use Rattle.theorems.proofs.invariant.Now.{Now}

-- G by the memory of the last crash: what has been written since keeps the log's length
pub lasting-groups : (G D b : ℕ) (tr : List Ev) (old : List Commit) (w : World) → Submitted G D b tr old w → group_count (length w.memory.log) ≡ G
lasting-groups G D b tr old w s = ap group_count (sym (length-write s.fenced w.memory) ∙ s.log_size) ∙ groups-in G

-- the stretch after the last fence, between two calls
pub now_of : (G D b : ℕ) (tr : List Ev) (old : List Commit) (w : World) → Sizes G D → Commits D b tr old w.book.commits → Copies G D b tr w
    → (s : Submitted G D b tr old w)
    → Now G D b tr old w.book.commits (state_of w.state).start (state_of w.state).settled s.group s.count s.content (write_records s.fenced w.memory)
now_of G D b tr old w z k c s =
    let o = c.order in
    let q : 7 * (state_of w.state).next + (state_of w.state).filled ≡ 7 * b + length tr = unfold next_position in c.position in
    record {
      sizes = z;
      sound = c.sound;
      booked = k;
      from = c.from;
      most = o.start-most;
      start_settled = o.start-settled;
      settled_group = omega (arith, s.at_fence, o.settled-fenced);
      room = omega (arith, s.next, o.next-most, o.groups-same);
      logged = omega (arith, s.next);
      contents = s.contents;
      log_size = s.log_size;
      area_size = s.area_size;
      homes = s.homes;
      header = s.header;
      head_start = s.start;
      numbers = s.numbers;
      there = s.there;
      turned = s.turned;
      apart = c.apart;
      links = c.links;
    }

-- the records since the last fence, sorted: the groups, then the homes of the round under way
module _ (G D b : ℕ) (tr : List Ev) (old : List Commit) (w : World) (s : Submitted G D b tr old w) where
  abbrev pub fenced_memory : Memory
  fenced_memory = write_records s.fenced w.memory

  abbrev pub is_in_order : List Record
  is_in_order = submits G s.group s.content s.count ++ home_writes w.area s.done

  parts : group_part s.tail ++ home_part s.tail ≡ is_in_order
  parts = rw (s.groups_of, s.homes_of)

  -- what holds of any choice of them holds of any choice as they were written
  pub in-order-chosen : (P : Memory → List (ℕ → Bool) → Type 0) (X : List Record)
      → ((chosen : ℕ → Bool) → P (persist_chosen chosen 0 (is_in_order ++ X) fenced_memory) (fates_chosen chosen 0 (is_in_order ++ X)))
      → (chosen : ℕ → Bool) → P (persist_chosen chosen 0 (s.tail ++ X) fenced_memory) (fates_chosen chosen 0 (s.tail ++ X))
  in-order-chosen P X f chosen =
      let t = sorted-then chosen s.tail X fenced_memory s.mixed in
      rw (t.memory, t.fates)
      (subst (λ (T : List Record). P (persist_chosen t.choice 0 (T ++ X) fenced_memory) (fates_chosen t.choice 0 (T ++ X))) (sym parts) (f t.choice))

  in-order-tail : write_records s.tail fenced_memory ≡ write_records is_in_order fenced_memory
  in-order-tail = sorted-wrote s.tail fenced_memory s.mixed ∙ ap (λ (T : List Record). write_records T fenced_memory) parts

  pub in-order-wrote : (X : List Record) → write_records (s.tail ++ X) fenced_memory ≡ write_records (is_in_order ++ X) fenced_memory
  in-order-wrote X =
      write-append s.tail X fenced_memory ∙ ap (write_records X) in-order-tail ∙ sym (write-append is_in_order X fenced_memory)

  pub in-order-area : (write_records is_in_order fenced_memory).area ≡ w.area
  in-order-area = ap (λ (m : Memory). m.area) (sym in-order-tail) ∙ s.area

  pub tail-groups : group_writes s.tail ≡ s.count
  tail-groups = group_writes-part s.tail ∙ rw s.groups_of (group_writes-submits G s.group s.content s.count)

  -- each of the homes done holds what commits below the last fence wrote
  pub done_held : Copies G D b tr w → (h : ℕ) → In h s.done
      → HeldHome D w.book.commits (state_of w.state).settled (7 * s.group) w.area h
  done_held c h i = copy-held G D b tr w c (7 * s.group) h (omega (arith, s.at_fence)) (s.behind h i).0

-- Memory that a crash may leave before a new fence: before the old one, or between the two
module _ (G D b : ℕ) (tr : List Ev) (old : List Commit) (w : World) (s : Submitted G D b tr old w) (X : List Record) (nx : NoFence X) where
  abbrev stretch : List Record
  stretch = s.tail ++ X

  abbrev upto : List Record
  upto = (s.fenced ++ (FN ∷ [])) ++ (s.tail ++ X)

  abbrev next : List Record
  next = is_in_order G D b tr old w s ++ X

  no-fence : NoFence stretch
  no-fence = none-append s.tail X (none-mixed s.tail s.mixed) nx

  upto-fences : fences upto ≡ fences (s.fenced ++ (FN ∷ []))
  upto-fences = fences-append (s.fenced ++ (FN ∷ [])) stretch ∙ omega (arith, fences-none stretch no-fence)

  persist-old : (passed : ℕ) (chosen : ℕ → Bool) → passed < fences (s.fenced ++ (FN ∷ []))
      → persist passed chosen (upto ++ (FN ∷ [])) w.memory ≡ persist passed chosen (s.fenced ++ (FN ∷ [])) w.memory
  persist-old passed chosen l =
      persist-stop passed chosen upto (FN ∷ []) w.memory (omega (arith, upto-fences)) ∙ persist-stop passed chosen (s.fenced ++ (FN ∷ [])) stretch w.memory l

  fates-old : (passed : ℕ) (chosen : ℕ → Bool) → passed < fences (s.fenced ++ (FN ∷ []))
      → fates passed chosen (upto ++ (FN ∷ [])) ≡ fates passed chosen (s.fenced ++ (FN ∷ []))
  fates-old passed chosen l =
      fates-stop passed chosen upto (FN ∷ []) (omega (arith, upto-fences)) ∙ fates-stop passed chosen (s.fenced ++ (FN ∷ [])) stretch l

  persist-new : (chosen : ℕ → Bool) → persist (fences (s.fenced ++ (FN ∷ []))) chosen (upto ++ (FN ∷ [])) w.memory ≡ persist_chosen chosen 0 stretch (write_records s.fenced w.memory)
  persist-new chosen =
      ap (λ (R : List Record). persist (fences (s.fenced ++ (FN ∷ []))) chosen R w.memory) (append_assoc (s.fenced ++ (FN ∷ [])) stretch (FN ∷ []))
      ∙ persist-last s.fenced chosen (stretch ++ (FN ∷ [])) w.memory ∙ chosen-fence chosen 0 stretch [] (write_records s.fenced w.memory) no-fence

  fates-new : (chosen : ℕ → Bool) → drop G (fates (fences (s.fenced ++ (FN ∷ []))) chosen (upto ++ (FN ∷ []))) ≡ trues (s.group - b) ++ fates_chosen chosen 0 stretch
  fates-new chosen =
      let e : s.group - b + G - G ≡ s.group - b = omega arith in
      ap (drop G)
      (ap (fates (fences (s.fenced ++ (FN ∷ []))) chosen) (append_assoc (s.fenced ++ (FN ∷ [])) stretch (FN ∷ []))
      ∙ fates-last s.fenced chosen (stretch ++ (FN ∷ [])) ∙ rw (fate-fence chosen 0 stretch [] no-fence, s.written))
      ∙ drop-trues G (s.group - b + G) (fates_chosen chosen 0 stretch) (omega arith) ∙ rw e

  -- what holds of all memory that a crash may leave before the new fence
  each-passed : (P : Memory → List (ℕ → Bool) → Type 0)
      → ((passed : ℕ) (chosen : ℕ → Bool) → passed < fences (s.fenced ++ (FN ∷ [])) → P (persist passed chosen (s.fenced ++ (FN ∷ [])) w.memory) (drop G (fates passed chosen (s.fenced ++ (FN ∷ [])))))
      → ((chosen : ℕ → Bool) → P (persist_chosen chosen 0 stretch (write_records s.fenced w.memory)) (trues (s.group - b) ++ fates_chosen chosen 0 stretch))
      → (passed : ℕ) (chosen : ℕ → Bool) → passed < fences (upto ++ (FN ∷ []))
      → P (persist passed chosen (upto ++ (FN ∷ [])) w.memory) (drop G (fates passed chosen (upto ++ (FN ∷ []))))
  each-passed P f g passed chosen l = go (dec_lt passed (fences (s.fenced ++ (FN ∷ []))))
    where
      go : Dec (passed < fences (s.fenced ++ (FN ∷ []))) → P (persist passed chosen (upto ++ (FN ∷ [])) w.memory) (drop G (fates passed chosen (upto ++ (FN ∷ []))))
      go (yes h) = rw (persist-old passed chosen h, fates-old passed chosen h) (f passed chosen h)
      go (no h) =
          let e : passed ≡ fences (s.fenced ++ (FN ∷ [])) = omega (arith, fences-fence upto, upto-fences) in
          rw (e, persist-new chosen, fates-new chosen) (g chosen)

  -- the memory once the new fence has passed
  upto-written : write_records upto w.memory ≡ write_records next (fenced_memory G D b tr old w s)
  upto-written =
      write-append (s.fenced ++ (FN ∷ [])) stretch w.memory ∙ ap (write_records stretch) (write-fence s.fenced w.memory)
      ∙ in-order-wrote G D b tr old w s X

  pub submitted-fence : (u : World) (start settled : ℕ) (content : ℕ → List ℕ) → group_writes X ≡ 0
      → Now G D b tr old w.book.commits start settled (s.group + s.count) 0 content (write_records next (fenced_memory G D b tr old w s))
      → u.pending ≡ w.pending ++ (X ++ (FN ∷ [])) → u.memory ≡ w.memory → u.book.commits ≡ w.book.commits
      → u.area ≡ (write_records next (fenced_memory G D b tr old w s)).area
      → (state_of u.state).start ≡ start → (state_of u.state).settled ≡ settled
      → (state_of u.state).fenced ≡ 7 * (s.group + s.count) → (state_of u.state).next ≡ s.group + s.count
      → (state_of w.state).start ≤ start
      → ((chosen : ℕ → Bool) → Late G D b tr w.book.commits (persist_chosen chosen 0 next (fenced_memory G D b tr old w s)) (trues (s.group - b) ++ fates_chosen chosen 0 next))
      → ((chosen : ℕ → Bool) → header_start (persist_chosen chosen 0 next (fenced_memory G D b tr old w s)).log ≤ start)
      → Submitted G D b tr old u
  unfolding submits group_part home_part home_writes
  submitted-fence u start settled content gx n ep em ec ea es et ef en mono late bound =
      record {
        fenced = upto;
        group = s.group + s.count;
        count = 0;
        content = content;
        tail = [];
        done = [];
        split = ep ∙ rw s.split (regroup ∙ sym (append-nil (upto ++ (FN ∷ []))));
        mixed = tt;
        groups_of = refl;
        homes_of = refl;
        behind = λ h i. absurd i;
        area = ap (λ (m : Memory). m.area) (write-nil (write_records upto u.memory)) ∙ rw (em, upto-written) (sym ea);
        at_fence = ef;
        next = omega (arith, en);
        low = omega (arith, s.low);
        written = omega (arith, group_writes-append (s.fenced ++ (FN ∷ [])) stretch, group_writes-fence s.fenced, group_writes-append s.tail X, tail-groups G D b tr old w s, gx, s.written, s.low);
        contents = λ k a h. absurd (omega arith);
        log_size = rw (em, upto-written) n.log_size;
        area_size = rw (em, upto-written) n.area_size;
        homes = rw (em, upto-written, ec, et) n.homes;
        header = rw (em, upto-written) n.header;
        start = rw (em, upto-written, es) n.head_start;
        numbers = rw (em, upto-written) n.numbers;
        there = rw (em, upto-written, es) n.there;
        turned = rw (em, upto-written, es) n.turned;
        images =
            rw (em, ec)
            (each-passed (λ m fs. ImageOk G D b w.memory.log tr old w.book.commits m fs) s.images
            (in-order-chosen G D b tr old w s (λ m fs. ImageOk G D b w.memory.log tr old w.book.commits m (trues (s.group - b) ++ fs)) X (λ chosen. inr (late chosen))));
        bounded =
            rw (em, es)
            (each-passed (λ m fs. header_start m.log ≤ start) (λ passed chosen l. let h = s.bounded passed chosen l in omega arith)
            (in-order-chosen G D b tr old w s (λ m fs. header_start m.log ≤ start) X bound));
      }
    where
      regroup : ((s.fenced ++ (FN ∷ [])) ++ s.tail) ++ (X ++ (FN ∷ [])) ≡ upto ++ (FN ∷ [])
      regroup = simp append_assoc
