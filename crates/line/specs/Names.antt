-- The name by which each line is printed.
use Rattle.std.specs.Prelude.{ℕ, List, codes}
use Rattle.line.specs.declared.Line.{Line}
use Rattle.line.specs.declared.Line.TheVariants.{Low, Rising, High, Falling}

abbrev pub line_name : Line → List ℕ
line_name Low = codes "low"
line_name Rising = codes "rising"
line_name High = codes "high"
line_name Falling = codes "falling"
