-- One turn of the loops that count and write the lines, and their ends. Assumes nothing.
use mathlib.Core.Path.{◌≡◌, refl, sym, ap, ◌∙◌}
use mathlib.Core.List.{List, [], ◌∷◌}
use Prim.Native.Nat.{ℕ, ◌+◌, ◌*◌, ◌≤◌}
use native.Mathlib.Omega.{arith}
use lib.ListN.{length}
use Rattle.alone_gauges.specs.Report.{Line, hit, of_kind, encode}
use Rattle.alone_gauges.specs.Compare.{written}
use Rattle.alone_gauges.specs.Merge.{puts}
use Rattle.alone_gauges.proofs.OutputLaws.{kind-nil, kind-step, puts-nil, puts-line, puts-written, length-puts}

-- ---- counts

pub count-more : (k n : ℕ) {r t : ℕ} {l : Line} {ls rs : List Line} → n + of_kind k ls ≡ t → ls ≡ l ∷ rs → r ≡ hit l.kind k → n + r + of_kind k rs ≡ t
count-more k n {r} {t} {l} {ls} {rs} a e b = let s = kind-step k e in omega arith

pub count-all : (k : ℕ) {n : ℕ} {ls ts all : List Line} → n + of_kind k ls ≡ of_kind k ts → ls ≡ [] → ts ≡ all → n ≡ of_kind k all
count-all k {n} a e f = omega (arith, ap (of_kind k) e, kind-nil k, ap (of_kind k) f)

-- ---- bytes

module _ (out : List ℕ) {out' : List ℕ} (at : ℕ) (l : Line) (w : out' ≡ puts out at (encode (l ∷ []))) where
  pub write-length : length out' ≡ length out
  write-length = ap length w ∙ length-puts out at (encode (l ∷ []))

  pub write-room : {ls rs : List Line} → ls ≡ l ∷ rs → at + 3 * length ls ≤ length out → at + 3 + 3 * length rs ≤ length out'
  write-room {ls} {rs} e h = omega (arith, ap length e, write-length)

  pub write-more : {ls rs : List Line} {end : List ℕ} → ls ≡ l ∷ rs → puts out at (encode ls) ≡ end → puts out' (at + 3) (encode rs) ≡ end
  write-more {ls} {rs} {end} e f = ap (λ (o : List ℕ). puts o (at + 3) (encode rs)) w ∙ sym (puts-line out at l rs) ∙ ap (λ (x : List Line). puts out at (encode x)) (sym e) ∙ f

encode-nil : encode [] ≡ []
unfolding encode
encode-nil = refl

pub write-all : {out : List ℕ} (output : List ℕ) (at : ℕ) {ls ts all : List Line} → puts out at (encode ls) ≡ puts output 0 (encode ts) → ls ≡ [] → ts ≡ all
    → 3 * length all ≤ length output → out ≡ written all output
write-all {out} output at {ls} {ts} {all} a e f h =
    sym (puts-nil out at) ∙ ap (puts out at) (sym (ap encode e ∙ encode-nil)) ∙ a ∙ ap (λ (x : List Line). puts output 0 (encode x)) f ∙ puts-written output all h
