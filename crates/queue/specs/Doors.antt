-- A board that waits is trying; and what an accepted call does to the doorway of its own board, and to those of the others.
use Rattle.std.specs.Prelude.{◌≡◌, ℕ, Bool, true, false, cond, ◌⊎◌, List, length, Some, None, Option, ◌≢◌, refl}
use Rattle.std.proofs.Common.{sym, ap, subst, ◌∙◌, inl, inr}
use Rattle.std.proofs.lemmas.Bool.{and_from}
use Rattle.lock.specs.declared.boards.Boards.{Boards}
use Rattle.lock.specs.declared.station.Call.{Call}
use Rattle.lock.specs.declared.station.Call.TheVariants.{Start, Step, Leave, Pull}
use Rattle.lock.specs.declared.station.Station.{Station}
use Rattle.lock.specs.declared.station.Station.TheVariants as at
use Rattle.lock.specs.Order.{WaitsTrying, OwnDoorway, Doorways}
use Rattle.lock.specs.Others.{other_after}
use Rattle.lock.specs.Runs.{run, AllOut, CallsMove}
use Rattle.lock.specs.Stations.{among, board, accepted, Stands}
use Rattle.lock.specs.Stations as stations
use Rattle.lock.specs.Tables.{kept_for, listed}
use Rattle.lock.proofs.Stations.{out≢trying, trying≢leaving, from_among}
use Rattle.lock.proofs.Local.{reached, good_after}
use Rattle.queue.specs.declared.state.Phase.{Phase}
use Rattle.queue.specs.declared.state.Phase.TheVariants.{Out, Pairing, Turning, Noting, Raising, Watching, Comparing, Below, Leaving}
use Rattle.queue.specs.declared.state.Queue.{Queue}
use Rattle.queue.specs.Rule.{noting, pairing, station, tries, waits_at, waits, shown, door_at, row_at, seen, out_below, next_door, new_queue, queue_after}
use Rattle.queue.specs.Shown.{There, at_shown, waits_there}
use Rattle.queue.specs.Moves.{there_done, door_done, call_there, took, step_below}
use Rattle.queue.specs.Fits.{never}
use Rattle.queue.specs.Keeps.{Good, count_doors, calls}
use Rattle.queue.specs.Settles.{left_alone, shows_as}
use Rattle.queue.specs.Doorway.{doorway}
use Rattle.queue.specs.Ahead.{past, waits_past, past_step, there_waits, inner_shown, inner_own}

-- a board does not wait at the phases to which a start takes it
noting_waits : (s : Station) (o : Option ℕ) → waits_at s (noting o) ≡ false
noting_waits s (Some k) = refl
noting_waits s None = refl

pairing_waits : (s : Station) (n b : ℕ) (o : Option ℕ) → waits_at s (pairing n b o) ≡ false
pairing_waits s n b (Some k) = refl
pairing_waits s n b None = noting_waits s (other_after n b 0)

-- a board that tries and does not wait is in its doorway
tries_inner : (s : Station) (p : Phase) → station s p ≡ at.Trying → waits_at s p ≡ false → doorway p ≡ true
tries_inner s Out e f = absurd (out≢trying e)
tries_inner s (Pairing j) e f = refl
tries_inner s (Turning j) e f = refl
tries_inner s (Noting j) e f = refl
tries_inner s Raising e f = refl
tries_inner s Watching e f = never (sym f)
tries_inner s Comparing e f = never (sym f)
tries_inner s Below e f = never (sym f ∙ ap tries e)
tries_inner s Leaving e f = absurd (trying≢leaving (sym e))

module _ {L : Type 0} (fresh : Boards → L) (after : L → Call → L) (below : L → List Station)
    (begins : AllOut fresh below) (moves : CallsMove fresh after below) where
  abbrev Ok : Boards → Queue L → Type 0
  Ok = Good fresh after below begins moves

  abbrev up : Queue L → Call → Queue L
  up = queue_after after below

  abbrev low_at : Queue L → ℕ → Station
  low_at q b = stations.at (below q.below) b

  pub waits_trying : WaitsTrying (new_queue fresh) up (shown below) (waits below)
  waits_trying n cs b w = (there_waits fresh after below begins moves (run up (new_queue fresh n) cs) b w).2

  -- the board of an accepted call after it
  there_up : (q : Queue L) (c : Call) → accepted (shown below q) c ≡ true → There below (up q c) (board c)
  there_up q c acc =
      let h = call_there fresh after below q c acc in
      subst (λ u. There below u (board c)) (sym (took fresh after below q c acc)) (there_done fresh after below q c h (board c) h)

  door_up : (q : Queue L) (c : Call) → accepted (shown below q) c ≡ true → door_at (up q c) (board c) ≡ next_door below q c
  door_up q c acc = ap (λ u. door_at u (board c)) (took fresh after below q c acc) ∙ door_done fresh after below q c (call_there fresh after below q c acc)

  -- a start begins the doorway
  start_waits : (q : Queue L) (b : ℕ) → accepted (shown below q) (Start b) ≡ true → waits below (up q (Start b)) b ≡ false
  start_waits q b acc =
      waits_there below (up q (Start b)) b (there_up q (Start b) acc)
      ∙ ap (λ d. waits_at (low_at (up q (Start b)) b) d.phase) (door_up q (Start b) acc)
      ∙ pairing_waits (low_at (up q (Start b)) b) q.doors.boards.count b (other_after q.doors.boards.count b 0)

  -- a step in the doorway leaves the board in it, or waiting
  step_inner : (n : Boards) (q : Queue L) (b : ℕ) (bit : Bool) → Ok n q → accepted (shown below q) (Step b bit) ≡ true → Stands (shown below q) b at.Trying → waits below q b ≡ false
      → Stands (shown below (up q (Step b bit))) b at.Trying
  step_inner n q b bit g acc s w =
      let h = call_there fresh after below q (Step b bit) acc in
      let inner = tries_inner (low_at q b) (door_at q b).phase (sym (at_shown below q b h) ∙ s.2) (sym (waits_there below q b h) ∙ w) in
      elim (inner_own fresh after below begins moves n b q bit (g, h, inner)) [
        | inl now_it ↦ (there_waits fresh after below begins moves (up q (Step b bit)) b now_it).2
        | inr ((g', h', d), _) ↦ shows_as fresh after below begins moves (up q (Step b bit)) b at.Trying h'
            (inner_shown fresh after below begins moves (low_at (up q (Step b bit)) b) (door_at (up q (Step b bit)) b).phase d)
      ]

  -- a step past it leaves the board past it, so that it waits while it is trying
  step_waits : (n : Boards) (q : Queue L) (b : ℕ) (bit : Bool) → Ok n q → accepted (shown below q) (Step b bit) ≡ true → waits below q b ≡ true
      → (waits below (up q (Step b bit)) b ≡ true) ⊎ Stands (shown below (up q (Step b bit))) b at.Inside
  step_waits n q b bit g acc w =
      let was = there_waits fresh after below begins moves q b w in
      let h = there_up q (Step b bit) acc in
      let here = at_shown below (up q (Step b bit)) b h in
      let p : past (door_at (up q (Step b bit)) b).phase ≡ true =
      ap (λ d. past d.phase) (door_up q (Step b bit) acc)
      ∙ (past_step q.doors.boards.count b (row_at q b) (seen q b bit (door_at q b).notes (door_at q b).phase) (out_below below q b) (door_at q b).y (door_at q b).notes (door_at q b).phase was.1).0 in
      elim (step_below (new_queue fresh) up (shown below) q b bit ((calls fresh after below begins moves).moved n q (Step b bit) g)) [
        | inl same ↦ inl (waits_there below (up q (Step b bit)) b h ∙ waits_past (low_at (up q (Step b bit)) b) (door_at (up q (Step b bit)) b).phase
            ∙ and_from (past (door_at (up q (Step b bit)) b).phase) _ p (ap tries (sym here ∙ same ∙ was.2.2)))
        | inr (inl v) ↦ inr (shows_as fresh after below begins moves (up q (Step b bit)) b at.Inside h (sym here ∙ v.1))
        | inr (inr v) ↦ absurd (trying≢leaving (sym was.2.2 ∙ v.0))
      ]

  -- what an accepted call does to the doorway of its own board; and no call does anything to another's
  own_doorway : (n : Boards) (q : Queue L) (c : Call) → Ok n q → accepted (shown below q) c ≡ true → OwnDoorway (new_queue fresh) up (shown below) (waits below) q c
  own_doorway n q (Start b) g acc = start_waits q b acc
  own_doorway n q (Step b bit) g acc = (step_inner n q b bit g acc, step_waits n q b bit g acc)
  own_doorway n q (Leave b) g acc = tt
  own_doorway n q (Pull b) g acc = tt

  other_doorway : (n : Boards) (q : Queue L) (c : Call) (j : ℕ) → Ok n q → (j ≢ board c) → waits below (up q c) j ≡ waits below q j
  other_doorway n q c j g ne =
      ap (λ k. cond (among k j) (waits_at (low_at (up q c) j) (door_at (up q c) j).phase) false)
      (count_doors fresh after below begins moves n (up q c) (good_after (new_queue fresh) up (shown below) Ok (calls fresh after below begins moves) n q c g) ∙ sym (count_doors fresh after below begins moves n q g))
      ∙ go (kept_for q.doors j) refl
    where
      go : (t : Bool) → kept_for q.doors j ≡ t
          → cond t (waits_at (low_at (up q c) j) (door_at (up q c) j).phase) false ≡ cond t (waits_at (low_at q j) (door_at q j).phase) false
      go true k =
          let l = left_alone fresh after below begins moves n q c j g (from_among (length (listed q.doors)) j k) (λ e. ne (sym e)) in
          ap (λ s. waits_at s (door_at (up q c) j).phase) l.low_same ∙ ap (λ d. waits_at (low_at q j) d.phase) l.door_same
      go false k = refl

  pub doorways : Doorways (new_queue fresh) up (shown below) (waits below)
  doorways n cs c acc =
      let g = reached (new_queue fresh) up (shown below) Ok (calls fresh after below begins moves) n cs in
      (own_doorway n _ c g acc, λ j ne. other_doorway n _ c j g ne)
