-- Every history that the rule gives is lawful.
use Rattle.std.proofs.Common.{◌≡◌, ℕ, ◌+◌, ◌∷◌, ◌++◌, ℤ, Ok, subst, inl, inr, arith}
use Rattle.lock.specs.declared.boards.Boards.{Boards}
use Rattle.service.specs.declared.progress.Progress.TheVariants.{Entered, Shown}
use Rattle.service.specs.declared.standing.Standing.{Standing}
use Rattle.service.specs.declared.standing.Standing.TheVariants.{Out, Doorway, Waiting, Inside, Leaving}
use Rattle.service.specs.History.{Stepped, History, station, asked, difference, since_entry}
use Rattle.service.specs.Law.{StepAt, Lawful}
use Rattle.service.specs.Rule.{Lockwork, trace, Given}
use Rattle.service.proofs.Reached.{Keeps}
use Rattle.service.proofs.Follows.{one_inside}
use Rattle.service.proofs.Answered.{agrees, answers, earlier_given}
use Rattle.service.proofs.Order.{in_order}
use Rattle.service.proofs.Served.{served}

-- only a board inside shows, and it shows what it should
shown_right : (s : Standing) (d : ℕ) (z y : ℤ) → StepAt s d z (Shown y) → y ≡ z
shown_right Out d z y e = let q : ◌≡◌ {A = ℕ} 0 1 = cc in absurd (omega arith)
shown_right Doorway d z y (inl e) = let q : ◌≡◌ {A = ℕ} 0 1 = cc in absurd (omega arith)
shown_right Doorway d z y (inr e) = let q : ◌≡◌ {A = ℕ} 0 1 = cc in absurd (omega arith)
shown_right Waiting d z y (inl e) = let q : ◌≡◌ {A = ℕ} 0 1 = cc in absurd (omega arith)
shown_right Waiting d z y (inr e) = let q : ◌≡◌ {A = ℕ} 0 1 = cc in absurd (omega arith)
shown_right Inside d z y (inl (_, e)) = let q : ◌≡◌ {A = ℕ} 0 1 = cc in absurd (omega arith)
shown_right Inside d z y (inr (_, e)) = cc
shown_right Leaving d z y (inl e) = let q : ◌≡◌ {A = ℕ} 0 1 = cc in absurd (omega arith)
shown_right Leaving d z y (inr e) = let q : ◌≡◌ {A = ℕ} 0 1 = cc in absurd (omega arith)

module _ {S : Type 0} (W : Lockwork S) (full : ℕ) (K : Keeps W) where
  -- the calls up to any moment were given by the rule too
  up_to : (n : Boards) (h later earlier : History) → Given W full n h → h ≡ later ++ earlier → Given W full n earlier
  up_to n h later earlier k e = earlier_given W full K n later earlier (subst (Given W full n) e k)

  pub lawful : (n : Boards) (h : History) → Given W full n h → Lawful n.count full (W.alone n.count + 5) h
  lawful n h k = record {
    answered = λ later earlier x e. answers W full K n x earlier (up_to n h later (x ∷ earlier) k e);
    alone = λ later earlier e. one_inside W full K n earlier (trace W full n earlier) (agrees W full K n earlier (up_to n h later earlier k e));
    ordered = λ later earlier b bit e j. in_order W full K n earlier b j bit (up_to n h later (Stepped b bit (Ok Entered) ∷ earlier) k e);
    right = λ later earlier b bit y e.
        shown_right (station earlier b) (since_entry earlier b) (difference (asked earlier b)) y
        (answers W full K n (Stepped b bit (Ok (Shown y))) earlier (up_to n h later (Stepped b bit (Ok (Shown y)) ∷ earlier) k e)).1;
    served = λ later earlier b i j r e. served W full K n later earlier b i j r (subst (Given W full n) e k);
  }
