-- The most boards that an analyser has.
use Rattle.std.specs.Prelude.{ℕ}

abbrev pub most : ℕ
most = 8
