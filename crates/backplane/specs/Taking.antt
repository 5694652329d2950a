-- What is asked of the way in which a trying board comes by the one thing of its backplane.
use Rattle.std.specs.Prelude.{◌≡◌, ℕ, ◌+◌, ◌≤◌, Bool, true, false, ◌⊎◌, Some, None, Option, ◌≢◌}
use Rattle.backplane.specs.Rule.{has}

-- if board b has the thing, then a board may have it while it is trying
abbrev pub MayTry : Bool → Option ℕ → ℕ → Type 0
MayTry early h b = has h b ≡ true → early ≡ true

-- nobody has the thing, or board b itself, which may
abbrev pub FreeFor : Bool → Option ℕ → ℕ → Type 0
FreeFor early None b = Unit {0}
FreeFor early (Some j) b = (j ≡ b) × (early ≡ true)

-- from one own step to S are left
abbrev pub Within : (Option ℕ → ℕ → ℕ) → ℕ → Type 0
Within to_enter alone = (h : Option ℕ) (b : ℕ) → (1 ≤ to_enter h b) × (to_enter h b ≤ alone)

module _ (tries : Option ℕ → ℕ → Option ℕ) where
  -- a step of board b neither takes the thing from another board nor gives it to one
  abbrev pub SparesOthers : Type 0
  SparesOthers = (h : Option ℕ) (b j : ℕ) → (j ≢ b) → has (tries h b) j ≡ has h j

  module _ (enters : Option ℕ → ℕ → Bool) where
    -- a board that goes inside has the thing
    abbrev pub HoldsInside : Type 0
    HoldsInside = (h : Option ℕ) (b : ℕ) → enters h b ≡ true → has (tries h b) b ≡ true

    module _ (early : Bool) where
      -- a board that stays trying has the thing only if it may have it then
      abbrev pub WaitsWith : Type 0
      WaitsWith = (h : Option ℕ) (b : ℕ) → MayTry early h b → enters h b ≡ false → MayTry early (tries h b) b

      module _ (to_enter : Option ℕ → ℕ → ℕ) where
        -- a step of a board for which the thing is free takes it inside, or fewer own steps are left
        abbrev pub Nears : Type 0
        Nears = (h : Option ℕ) (b : ℕ) → FreeFor early h b → (enters h b ≡ true) ⊎ (1 + to_enter (tries h b) b ≤ to_enter h b)

        pub record Sound (alone : ℕ) : Type 0 where
          pub holds : HoldsInside
          pub spares : SparesOthers
          pub waits : WaitsWith
          pub nears : Nears
          pub within : Within to_enter alone
