-- The pass of a commit over its transaction's entries, which keeps the position of each.
use Rattle.std.specs.Prelude.{ℕ, ◌+◌, ◌-◌, ◌*◌, ◌%◌, ◌≤◌, ◌<◌, ◌≡◌, true, List}
use Rattle.model.specs.Tag.{entry_word}
use Rattle.model.specs.Layout.{group_at, group_valid, turn_of, entry_within, entry_at}
use Rattle.model.specs.Newest.{keep}
use Rattle.model.specs.declared.Tag.{Tag}
use Rattle.log_scan.specs.Members.{taking}
use Rattle.log_scan.specs.Scan.{over}
use Rattle.log_scan.specs.Slots.{SlotOf}
use Rattle.log_newest.specs.declared.commits.Pass.{Pass}

-- an entry for a home at a position
abbrev pub keep_at : ℕ → ℕ → List ℕ → List ℕ
keep_at p home newest = keep newest home p

-- the pass over the m positions from `position` on, for the transaction with first position f
abbrev pub kept_over : (ℕ → Tag) → ℕ → ℕ → ℕ → List ℕ → List ℕ
kept_over tags f position m newest = over (taking f keep_at) tags position m newest

-- the word that an entry for home 0 has at a position if it does not close the transaction with first position f, in a log that starts at `base`
pub record PlainFor (plain f base position : ℕ) : Type 0 where
  pub word : plain ≡ entry_word 0 (position - f)
  pub start : base ≤ f
  pub from : f ≤ position
  pub near : position < f + 7168

-- a valid group with number n and its turn, in a log in which a transaction has the first position f
pub record ValidFor (group : List ℕ) (groups start n turn f : ℕ) : Type 0 where
  pub valid : group_valid group groups start n ≡ true
  pub fits : turn ≡ turn_of groups n
  pub from : 7 * start ≤ f

-- the pass over a log copy up to tag `done` of the group with number n: that over the positions before the group, then that over the group's
abbrev pub taken_to : List ℕ → ℕ → ℕ → ℕ → ℕ → ℕ → ℕ → List ℕ → List ℕ
taken_to log groups homes start f n done newest =
    kept_over (entry_within (group_at log (n % groups)) groups homes start) f (7 * n) done
    (kept_over (entry_at log groups homes start) f (7 * start) (7 * n - 7 * start) newest)

-- a pass that has gone on from group number `from` through groups that lie whole below `end`
pub record Passed (log : List ℕ) (groups homes start f end from : ℕ) (p : Pass) (newest after : List ℕ) : Type 0 where
  pub on : from ≤ p.number
  pub below : 7 * p.number + p.done ≤ end
  pub part : p.done < 7
  pub ring : SlotOf groups p.number p.at
  pub taken : (before : List ℕ) → newest ≡ kept_over (entry_at log groups homes start) f (7 * start) (7 * from - 7 * start) before
      → after ≡ taken_to log groups homes start f p.number p.done before
