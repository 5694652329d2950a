-- What it is to be the next of the other boards.
use Rattle.std.proofs.Common.{◌≡◌, ℕ, ◌+◌, ◌<◌, ◌≤◌, Bool, true, false, cond, eqb, ltb, Some, None, Option, refl, arith}
use Rattle.std.proofs.lemmas.Bool.{eqb-true, eqb-false, ltb-true, ltb-false}
use Rattle.lock.specs.Others.{skipped, other_after}

-- k comes after j and is not b, and only b can stand between them
abbrev pub NextOther : ℕ → ℕ → ℕ → ℕ → Type 0
NextOther n b j k = (j < k) × (k ≤ n) × (k ≡ b → ⊥) × ((i : ℕ) → j < i → i < k → i ≡ b)

-- no other board comes after j
abbrev pub NoOther : ℕ → ℕ → ℕ → Type 0
NoOther n b j = (i : ℕ) → j < i → i ≤ n → i ≡ b

-- what holds of the board found, and where none is found
abbrev pub Found : ℕ → ℕ → ℕ → Option ℕ → Type 0
Found n b j (Some k) = NextOther n b j k
Found n b j None = NoOther n b j

pub other_found : (n b j : ℕ) → Found n b j (other_after n b j)
other_found n b j = go (eqb (j + 1) b) refl (ltb (skipped b j) n) refl
  where
    go : (e : Bool) → eqb (j + 1) b ≡ e → (t : Bool) → ltb (cond e b j) n ≡ t → Found n b j (cond t (Some (cond e b j + 1)) None)
    go true h true q = let s = eqb-true (j + 1) b h in let l = ltb-true b n q in (omega arith, omega arith, λ z. omega arith, λ i p r. omega arith)
    go true h false q = let s = eqb-true (j + 1) b h in let l = ltb-false b n q in λ i p r. omega arith
    go false h true q = let s = eqb-false (j + 1) b h in let l = ltb-true j n q in (omega arith, omega arith, s, λ i p r. omega arith)
    go false h false q = let l = ltb-false j n q in λ i p r. omega arith
