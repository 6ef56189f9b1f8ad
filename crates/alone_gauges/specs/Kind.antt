-- The kinds of a line in the code, and their bytes: "1 agreeing, 2 differing, 3 only first, 4 only second".
use Rattle.std.specs.Prelude.{ℕ}
use Rattle.alone_gauges.specs.declared.merge.Kind.{Kind}
use Rattle.alone_gauges.specs.declared.merge.Kind.TheVariants.{Agreeing, Differing, OnlyFirst, OnlySecond}

abbrev pub kind_number : Kind → ℕ
kind_number Agreeing = 1
kind_number Differing = 2
kind_number OnlyFirst = 3
kind_number OnlySecond = 4
