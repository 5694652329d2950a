-- A record with the place of its event.
use Rattle.std.specs.Prelude.{ℕ}
use Rattle.filling.specs.declared.stamped.Stamped.{Stamped}

abbrev pub stamp : {X : Type 0} → ℕ → X → Stamped X
stamp i x = record { place = i; value = x }
