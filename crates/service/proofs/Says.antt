-- What a history says of one board, call by call.
use Rattle.std.proofs.Common.{◌≡◌, ℕ, Bool, true, false, cond, ◌∷◌, Err, Result, refl}
use Rattle.std.proofs.lemmas.Bool.{eq-eqb, ne_eqb}
use Rattle.service.specs.declared.progress.Progress.{Progress}
use Rattle.service.specs.declared.refusal.Refusal.{Refusal}
use Rattle.service.specs.declared.standing.Standing.{Standing}
use Rattle.service.specs.History.{Entry, Asked, Stepped, Pulled, History, Asking, station, asked, since_entry, after_ask, after_step, after_pull, asking_by, count_by}

abbrev pub who : Entry → ℕ
who (Asked b m k r) = b
who (Stepped b bit r) = b
who (Pulled b r) = b

pub same_cond : {A : Type 0} (t : Bool) (x : A) → cond t x x ≡ x
same_cond true x = refl
same_cond false x = refl

-- station, last ask, steps since it went inside
abbrev pub Said : Type 0
Said = Standing × Asking × ℕ

abbrev pub says : History → ℕ → Said
says h b = (station h b, asked h b, since_entry h b)

pub says_other : (x : Entry) (h : History) (j : ℕ) → (who x ≡ j → ⊥) → says (x ∷ h) j ≡ says h j
says_other (Asked b m k r) h j ne = let e = ne_eqb b j ne in rw e
says_other (Stepped b bit r) h j ne = let e = ne_eqb b j ne in rw e
says_other (Pulled b r) h j ne = let e = ne_eqb b j ne in rw e

pub says_ask : (b m k : ℕ) (r : Result ℕ Refusal) (h : History) → says (Asked b m k r ∷ h) b ≡ (after_ask r (station h b), asking_by r m k (asked h b), since_entry h b)
says_ask b m k r h = let e = eq-eqb b b refl in rw e

pub says_step : (b : ℕ) (bit : Bool) (r : Result Progress Refusal) (h : History) → says (Stepped b bit r ∷ h) b ≡ (after_step r (station h b), asked h b, count_by r (since_entry h b))
says_step b bit r h = let e = eq-eqb b b refl in rw e

pub says_pull : (b : ℕ) (r : Result Unit Refusal) (h : History) → says (Pulled b r ∷ h) b ≡ (after_pull r (station h b), asked h b, since_entry h b)
says_pull b r h = let e = eq-eqb b b refl in rw e

-- a refused call says nothing
pub says_no_ask : (b m k : ℕ) (e : Refusal) (h : History) (j : ℕ) → says (Asked b m k (Err e) ∷ h) j ≡ says h j
says_no_ask b m k e h j = simp same_cond

pub says_no_step : (b : ℕ) (bit : Bool) (e : Refusal) (h : History) (j : ℕ) → says (Stepped b bit (Err e) ∷ h) j ≡ says h j
says_no_step b bit e h j = simp same_cond

pub says_no_pull : (b : ℕ) (e : Refusal) (h : History) (j : ℕ) → says (Pulled b (Err e) ∷ h) j ≡ says h j
says_no_pull b e h j = simp same_cond
