-- A board that sets the latch by one step and goes inside by the next comes by it as a lock asks.
use Rattle.std.specs.Prelude.{◌≡◌, ◌≤◌, Bool, true, false, cond, Some, None, refl}
use Rattle.std.proofs.Common.{ap, ◌∙◌, inl, inr, arith}
use Rattle.std.proofs.lemmas.Bool.{eq-eqb}
use Rattle.backplane.proofs.Taken.{had, spares}
use Rattle.backplane.specs.Rule.{has, taken}
use Rattle.backplane.specs.Taking.{HoldsInside, Nears, Sound, WaitsWith, Within}
use Rattle.buyer.specs.Latch.{to_enter}

pub holds : HoldsInside taken has
holds None b e = had b
holds (Some j) b e = e

pub waits : WaitsWith taken has true
waits h b may e set = refl

-- the first step sets the latch, and the next goes inside
pub nears : Nears taken has true to_enter
nears None b way = let left : to_enter (Some b) b ≡ 1 = ap (λ t. cond t 1 2) (had b) in inr (omega arith)
nears (Some j) b way = inl (ap (λ i. has (Some i) b) way.0 ∙ eq-eqb b b refl)

one_or_two : (t : Bool) → (1 ≤ cond t 1 2) × (cond t 1 2 ≤ 2)
one_or_two true = (omega arith, omega arith)
one_or_two false = (omega arith, omega arith)

pub within : Within to_enter 2
within h b = one_or_two (has h b)

-- all of these together, from which the laws of a lock follow
pub sound : Sound taken has true to_enter 2
sound = record { holds = holds; spares = spares; waits = waits; nears = nears; within = within }
