-- A board that takes the cell as it goes inside comes by it as a lock asks: it never has the cell while it is trying.
use Rattle.std.specs.Prelude.{true, false, Some, None, refl}
use Rattle.std.proofs.Common.{inl, arith}
use Rattle.lock.proofs.Stations.{true≢false}
use Rattle.backplane.proofs.Taken.{had}
use Rattle.backplane.specs.Rule.{taken}
use Rattle.backplane.specs.Taking.{HoldsInside, Nears, WaitsWith, Within}
use Rattle.cell.specs.Rule.{enters}

pub holds : HoldsInside taken enters
holds None b e = had b
holds (Some j) b e = absurd (true≢false false e refl)

pub waits : WaitsWith taken enters false
waits None b may e = absurd (true≢false true refl e)
waits (Some j) b may e = may

pub nears : Nears taken enters false (λ h b. 1)
nears None b way = inl refl
nears (Some j) b way = absurd (true≢false false way.1 refl)

pub within : Within (λ h b. 1) 1
within h b = (omega arith, omega arith)
