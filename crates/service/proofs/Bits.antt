-- Sets of boards as numbers.
use Rattle.std.proofs.Common.{◌≡◌, ℕ, zero, suc, ◌+◌, ◌^◌, ◌≤◌, Bool, cond, refl, ap, ◌∙◌, arith}
use Rattle.service.specs.History.{bits}

-- two sets with the same boards of 1 to n are one number
pub bits_same : (f g : ℕ → Bool) (n : ℕ) → ((j : ℕ) → 1 ≤ j → j ≤ n → f j ≡ g j) → bits f n ≡ bits g n
bits_same f g zero same = refl
bits_same f g (suc n) same =
    let ih = bits_same f g n (λ j p q. same j p (omega arith)) in
    let last = ap (λ y. cond y (2 ^ n) 0) (same (suc n) (omega arith) (omega arith)) in
    ap (λ x. x + cond (f (suc n)) (2 ^ n) 0) ih ∙ ap (λ x. bits g n + x) last
