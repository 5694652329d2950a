-- Board b takes the thing where it is free: what that comes to.
use Rattle.std.proofs.Common.{◌≡◌, ℕ, true, Some, None, sym, refl}
use Rattle.std.proofs.lemmas.Bool.{eq-eqb, ne_eqb}
use Rattle.backplane.specs.Rule.{has, taken}
use Rattle.backplane.specs.Taking.{SparesOthers}

pub spares : SparesOthers taken
spares None b j ne = ne_eqb b j (λ e. ne (sym e))
spares (Some k) b j ne = refl

pub had : (b : ℕ) → has (taken None b) b ≡ true
had b = eq-eqb b b refl
