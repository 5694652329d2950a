-- A call moves no line of another board, and no board has two z lines in change.
use Rattle.std.proofs.Common.{◌≡◌, false, List, length, sym, ap, ◌∙◌, inl, inr, arith}
use Rattle.std.proofs.lemmas.Bool.{cases_Bool}
use Rattle.line.specs.declared.Line.TheVariants.{Low}
use Rattle.line.specs.Rule.{moving}
use Rattle.lock.specs.declared.boards.Boards.{Boards}
use Rattle.lock.specs.declared.station.Call.{Call}
use Rattle.lock.specs.declared.station.Station.{Station}
use Rattle.lock.specs.Runs.{run, AllOut, CallsMove}
use Rattle.lock.specs.Stations.{board, accepted}
use Rattle.lock.specs.Tables.{kept_for, listed}
use Rattle.lock.proofs.Stations.{from_among, true≢false}
use Rattle.lock.proofs.Tables.{asked_other}
use Rattle.lock.proofs.Local.{reached}
use Rattle.queue.specs.declared.state.Phase.TheVariants.{Out}
use Rattle.queue.specs.declared.state.Queue.{Queue}
use Rattle.queue.specs.Lines.{OneMoves, OwnLines, OneInChange}
use Rattle.queue.specs.Rule.{door, none, door_there, low_row, z_of, door_at, row_at, next_door, shown, new_queue, queue_after}
use Rattle.queue.specs.Moves.{call_there, took, stayed}
use Rattle.queue.specs.Keeps.{Good, count_doors, count_rows, calls, row_other, low_rests}

module _ {L : Type 0} (fresh : Boards → L) (after : L → Call → L) (below : L → List Station)
    (begins : AllOut fresh below) (moves : CallsMove fresh after below) where
  good : (n : Boards) (cs : List Call) → Good fresh after below begins moves n (run (queue_after after below) (new_queue fresh n) cs)
  good n cs = reached (new_queue fresh) (queue_after after below) (shown below) (Good fresh after below begins moves) (calls fresh after below begins moves) n cs

  pub own_lines : OwnLines fresh after below
  own_lines n cs c j ne = go (run (queue_after after below) (new_queue fresh n) cs) (good n cs)
    where
      go : (q : Queue L) → Good fresh after below begins moves n q
          → ((door_at (queue_after after below q c) j).y ≡ (door_at q j).y) × (row_at (queue_after after below q c) j ≡ row_at q j)
      go q g =
          elim (cases_Bool (accepted (shown below q) c)) [
            | inl t ↦
                let h = call_there fresh after below q c t in
                let e = took fresh after below q c t in
                let ne' : j ≡ board c → ⊥ = λ x. ne (sym x) in (
                  ap (λ u. (door_at u j).y) e ∙ ap (λ r. (door_there r).y) (asked_other q.doors (board c) j (next_door below q c) (door Low Out none) h.0 h.1 ne'),
                  ap (λ u. row_at u j) e ∙ row_other fresh after below begins moves n q g c h j ne',
                )
            | inr f ↦ (let e = stayed fresh after below q c f in (ap (λ u. (door_at u j).y) e, ap (λ u. row_at u j) e))
          ]

  pub one_in_change : OneInChange fresh after below
  one_in_change n cs b = go (run (queue_after after below) (new_queue fresh n) cs) (good n cs)
    where
      go : (q : Queue L) → Good fresh after below begins moves n q → OneMoves (row_at q b)
      go q g =
          elim (cases_Bool (kept_for q.rows b)) [
            | inl t ↦
                let w = from_among (length (listed q.rows)) b t in
                let d = count_doors fresh after below begins moves n q g in let r = count_rows fresh after below begins moves n q g in
                let high_b = w.1 in
                (g.fit b (w.0, omega arith)).single
            | inr f ↦ λ i k p _. absurd (true≢false (moving (z_of (row_at q b) i)) p (ap (λ x. moving (z_of x i)) (absent f) ∙ low_rests fresh after below begins moves i))
          ]
        where
          absent : kept_for q.rows b ≡ false → row_at q b ≡ low_row
          absent f = rw f
