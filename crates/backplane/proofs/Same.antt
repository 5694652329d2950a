-- Two locks that go by one thing are one where their backplanes are.
use Rattle.std.proofs.Common.{◌≡◌, ℕ, true, subst}
use mathlib.Core.Bool.{Bool-set}
use Rattle.backplane.specs.declared.held_lock.HeldLock.{HeldLock}
use Rattle.backplane.specs.declared.plane.Backplane.{Backplane}
use Rattle.backplane.specs.Rule.{has, Held}

module _ {T : Type 0} where
  abbrev made : HeldLock T → (p : Backplane) → Held p → HeldLock T
  made l p h = record { plane = p; taking = l.taking; held = h }

  pub same_lock : (l m : HeldLock T) → l.plane ≡ m.plane → l ≡ m
  same_lock l m e = subst (λ p. (h : Held p) → l ≡ made l p h) e (λ h i. made l l.plane (λ b w. Bool-set (has l.plane.holder b) true (l.held b w) (h b w) i)) m.held
