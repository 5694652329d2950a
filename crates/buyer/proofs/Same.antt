-- Two latch locks are one where their backplanes are.
use Rattle.std.proofs.Common.{◌≡◌, ap}
use Rattle.backplane.proofs.Same as backplane
use Rattle.buyer.specs.declared.latch.LatchLock.{LatchLock}

pub same_lock : (l m : LatchLock) → l.lock.plane ≡ m.lock.plane → l ≡ m
same_lock l m e = ap (λ h. record { lock = h }) (backplane.same_lock l.lock m.lock e)
