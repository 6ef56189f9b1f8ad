-- A line's case, and what the call of that case left, are what the line does. Assumes nothing.
use mathlib.Core.Path.{◌≡◌, refl}
use mathlib.Core.List.{List, []}
use Prim.Native.Nat.{ℕ}
use lib.ListN.{replicate}
use Rattle.model.specs.Calls.{begin_call, store_call, commit_call, flush_call, settle_call, trim_call}
use Rattle.call_ask.specs.Lent.{lent_all, leaves_everything, lent, leaves}
use Rattle.prog_lines.specs.declared.Line.{Line}
use Rattle.prog_lines.specs.declared.Line.TheVariants.{Begin, Store, Commit, Flush, Settle, Trim, Malformed}
use Rattle.prog_script.specs.Call.{memory, Does}

module _ (asked : Line) (code figure size : ℕ) (log area state newest batch log₂ area₂ state₂ newest₂ batch₂ : List ℕ) where
  pub does-begin : (w : ℕ) → asked ≡ Begin w
      → leaves code figure size log area state₂ [] [] ≡ begin_call (lent log area state [] [] w 0)
      → Does asked (memory log area state newest batch) code figure size (memory log area state₂ newest batch)
  does-begin w e h = rw e (h, refl, refl)

  pub does-store : (w home fill : ℕ) → asked ≡ Store w home fill
      → leaves code figure size log₂ area state₂ (replicate 64 fill) batch₂ ≡ store_call (lent log area state (replicate 64 fill) batch w home)
      → Does asked (memory log area state newest batch) code figure size (memory log₂ area state₂ newest batch₂)
  does-store w home fill e h = rw e (h, refl)

  pub does-commit : (w : ℕ) → asked ≡ Commit w
      → leaves_everything code figure size log₂ area state₂ newest₂ [] batch₂ ≡ commit_call (lent_all log area state newest [] batch w 0)
      → Does asked (memory log area state newest batch) code figure size (memory log₂ area state₂ newest₂ batch₂)
  does-commit w e h = rw e h

  pub does-flush : asked ≡ Flush
      → leaves code figure size log area state₂ [] batch₂ ≡ flush_call (lent log area state [] batch 0 0)
      → Does asked (memory log area state newest batch) code figure size (memory log area state₂ newest batch₂)
  does-flush e h = rw e (h, refl)

  pub does-settle : asked ≡ Settle
      → leaves code figure size log area₂ state₂ [] batch₂ ≡ settle_call (lent log area state [] batch 0 0)
      → Does asked (memory log area state newest batch) code figure size (memory log area₂ state₂ newest batch₂)
  does-settle e h = rw e (h, refl)

  pub does-trim : asked ≡ Trim
      → leaves_everything code figure size log₂ area state₂ newest₂ [] batch₂ ≡ trim_call (lent_all log area state newest [] batch 0 0)
      → Does asked (memory log area state newest batch) code figure size (memory log₂ area state₂ newest₂ batch₂)
  does-trim e h = rw e h

  pub does-nothing : asked ≡ Malformed → code ≡ 11 → size ≡ 0
      → Does asked (memory log area state newest batch) code figure size (memory log area state newest batch)
  does-nothing e h s = rw e (h, s, refl)
