-- The law: what holds of every history of an analyser of n boards, at every moment of it.
use Rattle.std.specs.Prelude.{◌≡◌, ℕ, ◌<◌, ◌≤◌, Bool, true, false, cond, ◌&&◌, ◌⊎◌, [], ◌∷◌, ◌++◌, ℤ, is_ok, Ok, Err, Result, nat_le}
use Rattle.lock.specs.Stations.{among}
use Rattle.service.specs.declared.progress.Progress.{Progress}
use Rattle.service.specs.declared.progress.Progress.TheVariants.{Idle, Working, Passed, Entered, Shown, CameOut}
use Rattle.service.specs.declared.refusal.Refusal.{Refusal}
use Rattle.service.specs.declared.refusal.Refusal.TheVariants.{NoSuchBoard, NotOut, AboveFullScale, NotEngaged}
use Rattle.service.specs.declared.standing.Standing.{Standing}
use Rattle.service.specs.declared.standing.Standing.TheVariants.{Out, Doorway, Waiting, Inside, Leaving}
use Rattle.service.specs.History.{Entry, Asked, Stepped, Pulled, History, station, waiting, ahead, bits, asked, difference, since_entry, own_steps}

-- what an ask answers, by the board's station: its counts are within full scale or not, and these boards are waiting
abbrev pub ask_at : Standing → Bool → ℕ → Result ℕ Refusal
ask_at Out small boards = cond small (Ok boards) (Err AboveFullScale)
ask_at Doorway small boards = Err NotOut
ask_at Waiting small boards = Err NotOut
ask_at Inside small boards = Err NotOut
ask_at Leaving small boards = Err NotOut

abbrev pub pull_at : Standing → Result Unit Refusal
pull_at Out = Err NotEngaged
pull_at Doorway = Ok tt
pull_at Waiting = Ok tt
pull_at Inside = Ok tt
pull_at Leaving = Err NotEngaged

-- What a step may answer, by the board's station; d steps are done inside, and z is the number to be shown. Which of the two it is
-- in the doorway, while waiting and while leaving is the lock's affair.
abbrev pub StepAt : Standing → ℕ → ℤ → Progress → Type 0
StepAt Out d z p = p ≡ Idle
StepAt Doorway d z p = (p ≡ Working) ⊎ (p ≡ Passed)
StepAt Waiting d z p = (p ≡ Working) ⊎ (p ≡ Entered)
StepAt Inside d z p = ((d < 4) × (p ≡ Working)) ⊎ ((d ≡ 4) × (p ≡ Shown z))
StepAt Leaving d z p = (p ≡ Working) ⊎ (p ≡ CameOut)

-- the call is answered or refused as it should be, after the history h
abbrev pub Rightly : ℕ → ℕ → History → Entry → Type 0
Rightly n full h (Asked b m k r) = r ≡ cond (among n b) (ask_at (station h b) (nat_le m full && nat_le k full) (bits (waiting h) n)) (Err NoSuchBoard)
Rightly n full h (Stepped b bit (Ok p)) = (among n b ≡ true) × StepAt (station h b) (since_entry h b) (difference (asked h b)) p
Rightly n full h (Stepped b bit (Err e)) = (among n b ≡ false) × (e ≡ NoSuchBoard)
Rightly n full h (Pulled b r) = r ≡ cond (among n b) (pull_at (station h b)) (Err NoSuchBoard)

-- b has shown its number in h
abbrev pub shows : Entry → ℕ → Type 0
shows x b = (bit : Bool) × (z : ℤ) × (x ≡ Stepped b bit (Ok (Shown z)))

abbrev pub Shows : History → ℕ → Type 0
Shows [] b = ⊥
Shows (x ∷ h) b = shows x b ⊎ Shows h b

-- no ask was accepted in h, and no pull of b
abbrev pub spares : ℕ → Entry → Type 0
spares b (Asked j m k r) = is_ok r ≡ false
spares b (Stepped j bit r) = Unit {0}
spares b (Pulled j r) = j ≡ b → is_ok r ≡ false

abbrev pub Spares : ℕ → History → Type 0
Spares b [] = Unit {0}
Spares b (x ∷ h) = spares b x × Spares b h

-- n boards; the interpolator's full scale; the own steps in which a board that asks alone has shown its number
pub record Lawful (n full within : ℕ) (h : History) : Type 0 where
  -- each call is answered or refused as it should be
  pub answered : (later earlier : History) (x : Entry) → h ≡ later ++ (x ∷ earlier) → Rightly n full earlier x
  -- at most one board is inside
  pub alone : (later earlier : History) → h ≡ later ++ earlier → (i j : ℕ) → station earlier i ≡ Inside → station earlier j ≡ Inside → i ≡ j
  -- a board goes inside only when none stands ahead of it
  pub ordered : (later earlier : History) (b : ℕ) (bit : Bool) → h ≡ later ++ (Stepped b bit (Ok Entered) ∷ earlier) → (j : ℕ) → ahead earlier b j ≡ false
  -- each number shown is stop minus start of the board's last accepted ask
  pub right : (later earlier : History) (b : ℕ) (bit : Bool) (z : ℤ) → h ≡ later ++ (Stepped b bit (Ok (Shown z)) ∷ earlier) → z ≡ difference (asked earlier b)
  -- a board that asks while all boards are out, counts within full scale, has shown its number by the end of its own step `within`
  -- after that ask, unless it was pulled or another ask was accepted
  pub served : (later earlier : History) (b m k : ℕ) (r : Result ℕ Refusal) → h ≡ later ++ (Asked b m k r ∷ earlier)
      → 1 ≤ b → b ≤ n → m ≤ full → k ≤ full → ((j : ℕ) → station earlier j ≡ Out) → Spares b later
      → within ≤ own_steps b later → Shows later b
