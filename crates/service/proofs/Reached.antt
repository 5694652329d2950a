-- The laws of an ordered lock, at a state that calls on a new one lead to.
use Rattle.std.proofs.Common.{◌≡◌, ℕ, ◌-◌, ◌≤◌, true, false, ◌⊎◌, List, [], ◌∷◌, ◌++◌, length, Ok, sym, ap, ◌∙◌, subst, inl, inr}
use Rattle.std.proofs.lemmas.Bool.{cases_Bool}
use Rattle.std.proofs.lemmas.List.{length-set}
use Rattle.lock.specs.declared.boards.Boards.{Boards}
use Rattle.lock.specs.declared.station.Call.{Call}
use Rattle.lock.specs.declared.station.Call.TheVariants.{Start, Leave, Pull}
use Rattle.lock.specs.declared.station.Station.{Station}
use Rattle.lock.specs.declared.station.Station.TheVariants.{Out, Trying, Inside}
use Rattle.lock.specs.Order.{InOrder, WaitsTrying, OwnDoorway, Doorways}
use Rattle.lock.specs.Runs.{run, AllOut, CallsMove, Exclusive, EntersWithin}
use Rattle.lock.specs.Stations.{board, at, told, accepted, Stands, AtMostOne, Moves}
use Rattle.lock.proofs.Stations.{among_from, board_there, moved_to, other_with}
use Rattle.lock.proofs.Runs.{run_more}
use Rattle.service.specs.Rule.{Lockwork}

-- what an ordered lock has shown
pub record Keeps {S : Type 0} (W : Lockwork S) : Type 0 where
  pub begins : AllOut W.fresh W.stations
  pub moves : CallsMove W.fresh W.after W.stations
  pub excludes : Exclusive W.fresh W.after W.stations
  pub enters : EntersWithin W.fresh W.after W.stations W.alone
  pub tries : WaitsTrying W.fresh W.after W.stations W.waits
  pub doorways : Doorways W.fresh W.after W.stations W.waits
  pub order : InOrder W.fresh W.after W.stations W.waits

-- a station that is told
pub told_there : (ss : List Station) (b : ℕ) → 1 ≤ b → b ≤ length ss → told ss b ≡ Ok (at ss b)
told_there ss b p q = let k = among_from (length ss) b p q in rw k

-- who may start, leave and be pulled
pub may_start : (ss : List Station) (b : ℕ) → 1 ≤ b → b ≤ length ss → at ss b ≡ Out → accepted ss (Start b) ≡ true
may_start ss b p q e = let k = among_from (length ss) b p q in rw (k, e)

pub may_leave : (ss : List Station) (b : ℕ) → 1 ≤ b → b ≤ length ss → at ss b ≡ Inside → accepted ss (Leave b) ≡ true
may_leave ss b p q e = let k = among_from (length ss) b p q in rw (k, e)

pub may_pull : (ss : List Station) (b : ℕ) → 1 ≤ b → b ≤ length ss → (at ss b ≡ Trying) ⊎ (at ss b ≡ Inside) → accepted ss (Pull b) ≡ true
may_pull ss b p q (inl e) = let k = among_from (length ss) b p q in rw (k, e)
may_pull ss b p q (inr e) = let k = among_from (length ss) b p q in rw (k, e)

module _ {S : Type 0} (W : Lockwork S) where
  abbrev pub Reached : Boards → S → Type 0
  Reached n l = (cs : List Call) × (l ≡ run W.after (W.fresh n) cs)

  pub reached_next : (n : Boards) (l : S) (c : Call) → Reached n l → Reached n (W.after l c)
  reached_next n l c r = (r.0 ++ (c ∷ []), ap (λ x. W.after x c) r.1 ∙ sym (run_more W.after (W.fresh n) r.0 c))

module _ {S : Type 0} (W : Lockwork S) (K : Keeps W) (n : Boards) (l : S) (r : Reached W n l) where
  pub one_at : AtMostOne (W.stations l)
  one_at = subst (λ x. AtMostOne (W.stations x)) (sym r.1) (K.excludes n r.0)

  pub tries_at : (b : ℕ) → W.waits l b ≡ true → Stands (W.stations l) b Trying
  tries_at b = subst (λ x. W.waits x b ≡ true → Stands (W.stations x) b Trying) (sym r.1) (K.tries n r.0 b)

  -- a board that is not trying does not wait
  pub waits_not : (b : ℕ) → (at (W.stations l) b ≡ Trying → ⊥) → W.waits l b ≡ false
  waits_not b not_so = elim (cases_Bool (W.waits l b)) [ inl w ↦ absurd (not_so (tries_at b w).2) | inr f ↦ f ]

  module _ (c : Call) (acc : accepted (W.stations l) c ≡ true) where
    pub moves_at : Moves (W.stations l) c (W.stations (W.after l c))
    moves_at =
        subst (λ x. accepted (W.stations x) c ≡ true → Moves (W.stations x) c (W.stations (W.after x c))) (sym r.1) (K.moves n r.0 c).1 acc

    pub doors_at : OwnDoorway W.fresh W.after W.stations W.waits l c × ((j : ℕ) → (j ≡ board c → ⊥) → W.waits (W.after l c) j ≡ W.waits l j)
    doors_at =
        subst (λ x. accepted (W.stations x) c ≡ true → OwnDoorway W.fresh W.after W.stations W.waits x c × ((j : ℕ) → (j ≡ board c → ⊥) → W.waits (W.after x c) j ≡ W.waits x j))
        (sym r.1) (K.doorways n r.0 c) acc

    -- nobody else moves
    pub length_at : length (W.stations (W.after l c)) ≡ length (W.stations l)
    length_at = let m = moved_to (W.stations l) (W.stations (W.after l c)) c moves_at in ap length m.1 ∙ length-set (W.stations l) (board c - 1) m.0

    pub others_at : (j : ℕ) → (j ≡ board c → ⊥) → 1 ≤ j → at (W.stations (W.after l c)) j ≡ at (W.stations l) j
    others_at j ne p =
        let m = moved_to (W.stations l) (W.stations (W.after l c)) c moves_at in
        ap (λ ss. at ss j) m.1 ∙ other_with (W.stations l) (board c) j m.0 (board_there (W.stations l) c acc).0 p ne
