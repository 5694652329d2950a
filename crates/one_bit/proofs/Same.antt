-- Two one-bit locks are one where their flags and places are.
use Rattle.std.proofs.Common.{◌≡◌, true, subst}
use mathlib.Core.Bool.{Bool-set}
use Rattle.line.specs.Rule.{high}
use Rattle.one_bit.specs.declared.lines.Lines.{Lines}
use Rattle.one_bit.specs.declared.one_bit_lock.OneBit.{OneBit}
use Rattle.one_bit.specs.Rule.{seat}
use Rattle.one_bit.specs.Sound.{fits, Raised, Fits, Apart}

no_two : (x y : ⊥) → x ≡ y
no_two x y = absurd x

abbrev made : (m : Lines) → Raised m → Fits m → Apart m → OneBit
made m r f a = record { lines = m; raised = r; fits = f; apart = a }

pub same_lock : (l m : OneBit) → l.lines ≡ m.lines → l ≡ m
same_lock l m e =
    subst (λ x. (r : Raised x) (f : Fits x) (a : Apart x) → l ≡ made x r f a) e
    (λ r f a i. made l.lines
    (λ b s. Bool-set (high (seat l.lines b).flag) true (l.raised b s) (r b s) i)
    (λ b p q. Bool-set (fits b (seat l.lines b).flag (seat l.lines b).place) true (l.fits b p q) (f b p q) i)
    (λ j k w. no_two (l.apart j k w) (a j k w) i))
    m.raised m.fits m.apart
