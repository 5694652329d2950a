-- An accepted call moves its own board as the meaning of a lock says, and nobody else.
use Rattle.std.specs.Prelude.{◌≡◌, ℕ, ◌-◌, ◌≤◌, Bool, true, false, cond, ◌⊎◌, List, length, Some, None, Option, ◌≢◌, slice_index_or, slice_set, refl}
use Rattle.std.proofs.Common.{sym, ap, subst, ◌∙◌, inl, inr, arith}
use Rattle.std.proofs.lemmas.Bool.{cases_Bool, cases_lt}
use Rattle.std.proofs.lemmas.List.{length-set, get_or-set_same, get_or-set_other, get_or_past}
use Rattle.line.specs.declared.Level.{Level}
use Rattle.line.specs.declared.Level.TheVariants as to
use Rattle.line.specs.declared.Line.{Line}
use Rattle.line.specs.declared.Line.TheVariants.{Low}
use Rattle.line.specs.Rule.{begun, ended, moving, heading, high}
use Rattle.lock.specs.declared.boards.Boards.{Boards}
use Rattle.lock.specs.declared.station.Call.{Call}
use Rattle.lock.specs.declared.station.Call.TheVariants.{Start, Step, Leave, Pull}
use Rattle.lock.specs.declared.station.Station.{Station}
use Rattle.lock.specs.declared.station.Station.TheVariants as at
use Rattle.lock.specs.Others.{other_after}
use Rattle.lock.specs.Runs.{MovesAt}
use Rattle.lock.specs.Stations.{board, accepted, Stands, NoneElse, StepsTo, Moves}
use Rattle.lock.specs.Stations as stations
use Rattle.lock.specs.Tables.{listed}
use Rattle.lock.proofs.Stations.{out≢inside, board_there, start_accepted, step_accepted, moved_to, other_with, stands_with}
use Rattle.lock.proofs.Tables.{listed_written}
use Rattle.queue.specs.declared.state.Phase.{Phase}
use Rattle.queue.specs.declared.state.Phase.TheVariants.{Out, Pairing, Turning, Noting, Raising, Watching, Comparing, Below, Leaving}
use Rattle.queue.specs.declared.state.Queue.{Queue}
use Rattle.queue.specs.declared.state.Row.{Row}
use Rattle.queue.specs.Rule.{door, none, lowest, noting, pairing, paired, turned_on, favours, z_of, watched, compared, door_step, sent_step, started, station, shown, door_at, row_at, seen, out_below, sent, next_door, passed_on, MovedBelow, done, queue_after}
use Rattle.queue.specs.Shown.{There, length_shown, door_there, at_shown, moved_only}

-- the phases of the doorway and of waiting belong to trying, whatever the station below
pub noting_tries : (s : Station) (o : Option ℕ) → station s (noting o) ≡ at.Trying
noting_tries s (Some k) = refl
noting_tries s None = refl

pub pairing_tries : (s : Station) (n b : ℕ) (o : Option ℕ) → station s (pairing n b o) ≡ at.Trying
pairing_tries s n b (Some k) = refl
pairing_tries s n b None = noting_tries s (other_after n b 0)

-- a layer shows a board inside only where it is inside below
inside_below : (s : Station) (p : Phase) → station s p ≡ at.Inside → s ≡ at.Inside
inside_below s Out e = cc
inside_below s (Pairing j) e = cc
inside_below s (Turning j) e = cc
inside_below s (Noting j) e = cc
inside_below s Raising e = cc
inside_below s Watching e = cc
inside_below s Comparing e = cc
inside_below s Below e = e
inside_below s Leaving e = cc

-- the board that is named below is the board that is named above
sent_step_board : (b : ℕ) (bit out : Bool) (notes : List Bool) (p : Phase) (d : Call) → sent_step b bit out notes p ≡ Some d → board d ≡ b
sent_step_board b bit out notes Out d e = cc
sent_step_board b bit out notes (Pairing j) d e = cc
sent_step_board b bit out notes (Turning j) d e = cc
sent_step_board b bit out notes (Noting j) d e = cc
sent_step_board b bit out notes Raising d e = cc
sent_step_board b bit out notes Watching d e = go (lowest notes) e
  where
    go : (o : Option ℕ) → started b o ≡ Some d → board d ≡ b
    go None h = let same : Start b ≡ d = cc in ap board (sym same)
    go (Some j) h = cc
sent_step_board b bit out notes Comparing d e = cc
sent_step_board b bit out notes Below d e = let same : Step b bit ≡ d = cc in ap board (sym same)
sent_step_board b bit out notes Leaving d e = go out e
  where
    go : (t : Bool) → cond t None (Some (Step b bit)) ≡ Some d → board d ≡ b
    go true h = cc
    go false h = let same : Step b bit ≡ d = cc in ap board (sym same)

module _ {L : Type 0} (fresh : Boards → L) (after : L → Call → L) (below : L → List Station) where
  pub sent_board : (q : Queue L) (c d : Call) → sent below q c ≡ Some d → board d ≡ board c
  sent_board q (Start b) d e = cc
  sent_board q (Step b bit) d e = sent_step_board b bit (out_below below q b) (door_at q b).notes (door_at q b).phase d e
  sent_board q (Leave b) d e = let same : Leave b ≡ d = cc in ap board (sym same)
  sent_board q (Pull b) d e = go (accepted (below q.below) (Pull b)) e
    where
      go : (t : Bool) → cond t (Some (Pull b)) None ≡ Some d → board d ≡ b
      go true h = let same : Pull b ≡ d = cc in ap board (sym same)
      go false h = cc

  -- a call below moves nobody but the board that it names
  pub others_below : (l : L) (o : Option Call) (b j : ℕ) → MovedBelow after below fresh l o → ((d : Call) → o ≡ Some d → board d ≡ b) → 1 ≤ j → (j ≢ b)
      → stations.at (below (passed_on after below l o)) j ≡ stations.at (below l) j
  others_below l None b j m names low ne = refl
  others_below l (Some d) b j m names low ne =
      elim (cases_Bool (accepted (below l) d)) [
        | inl t ↦
            let v = moved_to (below l) (below (after l d)) d (m.1 t) in
            ap (λ ss. stations.at ss j) v.1 ∙ other_with (below l) (board d) j v.0 (board_there (below l) d t).0 low (λ e. ne (e ∙ names d refl))
        | inr f ↦ ap (λ x. stations.at (below x) j) (m.0 f)
      ]

  module _ (q : Queue L) (c : Call) (h : There below q (board c)) where
    listed_done : listed (done after below q c).doors ≡ slice_set (listed q.doors) (board c - 1) (next_door below q c)
    listed_done = listed_written q.doors (board c) (next_door below q c) h.0 h.1

    length_done : length (listed (done after below q c).doors) ≡ length (listed q.doors)
    length_done = ap length listed_done ∙ length-set (listed q.doors) (board c - 1) (next_door below q c)

    pub there_done : (j : ℕ) → There below q j → There below (done after below q c) j
    there_done j w = let e = length_done in let k = w.1 in (w.0, omega arith)

    pub was_there : (j : ℕ) → There below (done after below q c) j → There below q j
    was_there j w = let e = length_done in let k = w.1 in (w.0, omega arith)

    pub door_done : door_at (done after below q c) (board c) ≡ next_door below q c
    door_done =
        let low = h.0 in let high_b = h.1 in
        door_there below (done after below q c) (board c) (there_done (board c) h)
        ∙ ap (λ ds. slice_index_or ds (board c - 1) (door Low Out none)) listed_done
        ∙ get_or-set_same (listed q.doors) (board c - 1) (next_door below q c) (door Low Out none) (omega arith)

    pub door_other : (j : ℕ) → There below q j → (j ≢ board c) → door_at (done after below q c) j ≡ door_at q j
    door_other j w ne =
        let low = h.0 in let low' = w.0 in
        door_there below (done after below q c) j (there_done j w)
        ∙ ap (λ ds. slice_index_or ds (j - 1) (door Low Out none)) listed_done
        ∙ get_or-set_other (listed q.doors) (board c - 1) (j - 1) (next_door below q c) (door Low Out none) (λ e. ne (omega arith))
        ∙ sym (door_there below q j w)

    -- what is shown after an accepted call
    pub shown_done : MovedBelow after below fresh q.below (sent below q c)
        → shown below (done after below q c) ≡ stations.with (shown below q) (board c)
        (station (stations.at (below (passed_on after below q.below (sent below q c))) (board c)) (next_door below q c).phase)
    shown_done m =
        let len = length_shown below q in let high_b = h.1 in
        moved_only (shown below q) (shown below (done after below q c)) (board c) _ h.0 (omega arith)
        (length_shown below (done after below q c) ∙ length_done ∙ sym len)
        (at_shown below (done after below q c) (board c) (there_done (board c) h) ∙ ap (λ d. station (stations.at (below (passed_on after below q.below (sent below q c))) (board c)) d.phase) door_done)
        (λ j low le ne.
        let w : There below q j = (low, omega arith) in
        at_shown below (done after below q c) j (there_done j w)
        ∙ ap (λ s. station s (door_at (done after below q c) j).phase) (others_below q.below (sent below q c) (board c) j m (sent_board q c) low ne)
        ∙ ap (λ d. station (stations.at (below q.below) j) d.phase) (door_other j w ne)
        ∙ sym (at_shown below q j w))

  -- where a step of board b, at phase p over the lock l, takes it
  abbrev pub Way : List Station → ℕ → Station → Station → Type 0
  Way ss b s t = (t ≡ s) ⊎ (((s ≡ at.Trying) × (t ≡ at.Inside) × NoneElse ss b) ⊎ ((s ≡ at.Leaving) × (t ≡ at.Out)))

  pub step_below : (l : L) (b : ℕ) (bit : Bool) → MovesAt fresh after below l (Step b bit) → Way (below l) b (stations.at (below l) b) (stations.at (below (after l (Step b bit))) b)
  step_below l b bit m =
      elim (cases_Bool (accepted (below l) (Step b bit))) [
        | inl t ↦ go (step_accepted (below l) b bit t) (m.1 t)
        | inr f ↦ inl (ap (λ x. stations.at (below x) b) (m.0 f))
      ]
    where
      go : (1 ≤ b) × (b ≤ length (below l)) → Moves (below l) (Step b bit) (below (after l (Step b bit)))
          → Way (below l) b (stations.at (below l) b) (stations.at (below (after l (Step b bit))) b)
      go (low, most) (u, e, ways) =
          let here : stations.at (below (after l (Step b bit))) b ≡ u = ap (λ ss. stations.at ss b) e ∙ (stands_with (below l) b u low most).2 in
          elim ways [
            | inl same ↦ inl (here ∙ same)
            | inr (inl w) ↦ inr (inl (w.0, here ∙ w.1, w.2))
            | inr (inr w) ↦ inr (inr (w.0, here ∙ w.1))
          ]

  start_below : (l : L) (b : ℕ) (out : Bool) → accepted (below l) (Start b) ≡ out → MovesAt fresh after below l (Start b)
      → station (stations.at (below (after l (Start b))) b) (cond out Below Watching) ≡ at.Trying
  start_below l b true e m =
      let h = start_accepted (below l) b e in
      ap (λ ss. stations.at ss b) (m.1 e) ∙ (stands_with (below l) b at.Trying h.0 h.1).2
  start_below l b false e m = refl

  way : (l : L) (n b : ℕ) (bit : Bool) (r : Row) (level : Level) (out : Bool) (y : Line) (notes : List Bool) (p : Phase)
      → accepted (below l) (Start b) ≡ out → MovedBelow after below fresh l (sent_step b bit out notes p)
      → Way (below l) b (station (stations.at (below l) b) p) (station (stations.at (below (passed_on after below l (sent_step b bit out notes p))) b) (door_step n b r level out y notes p).phase)
  way l n b bit r level out y notes Out e m = inl refl
  way l n b bit r level out y notes (Pairing j) e m = inl (go (favours b (heading (z_of r j)) j level))
    where
      go : (t : Bool) → station (stations.at (below l) b) (paired n b j t) ≡ at.Trying
      go true = refl
      go false = pairing_tries (stations.at (below l) b) n b (other_after n b j)
  way l n b bit r level out y notes (Turning j) e m = inl (go (moving (z_of r j)))
    where
      go : (t : Bool) → station (stations.at (below l) b) (turned_on n b j t) ≡ at.Trying
      go true = pairing_tries (stations.at (below l) b) n b (other_after n b j)
      go false = refl
  way l n b bit r level out y notes (Noting j) e m = inl (noting_tries (stations.at (below l) b) (other_after n b j))
  way l n b bit r level out y notes Raising e m = inl (go (moving y))
    where
      go : (t : Bool) → station (stations.at (below l) b) (cond t (door (ended y) Watching notes) (door (begun y to.High) Raising notes)).phase ≡ at.Trying
      go true = refl
      go false = refl
  way l n b bit r level out y notes Watching e m = inl (go (lowest notes) level m)
    where
      go : (o : Option ℕ) (v : Level) → MovedBelow after below fresh l (started b o)
          → station (stations.at (below (passed_on after below l (started b o))) b) (watched y notes out v o).phase ≡ at.Trying
      go None v k = start_below l b out e k
      go (Some j) to.Low k = refl
      go (Some j) to.High k = refl
  way l n b bit r level out y notes Comparing e m = inl (go (lowest notes))
    where
      go : (o : Option ℕ) → station (stations.at (below l) b) (compared b r level y notes o).phase ≡ at.Trying
      go None = refl
      go (Some j) = refl
  way l n b bit r level out y notes Below e m = step_below l b bit m
  way l n b bit r level true y notes Leaving e m = go (high y)
    where
      go : (t : Bool) → Way (below l) b at.Leaving (station (stations.at (below l) b) (cond t (door (begun y to.Low) Leaving notes) (door (ended y) Out notes)).phase)
      go true = inl refl
      go false = inr (inr (refl, refl))
  way l n b bit r level false y notes Leaving e m = inl refl

  -- nobody else is inside above where nobody else is inside below
  none_else : (q : Queue L) (b : ℕ) → NoneElse (below q.below) b → NoneElse (shown below q) b
  none_else q b alone j ne s =
      let len = length_shown below q in let q' = s.1 in
      let w : There below q j = (s.0, omega arith) in
      let i = inside_below (stations.at (below q.below) j) (door_at q j).phase (sym (at_shown below q j w) ∙ s.2) in
      alone j ne (s.0, within i, i)
    where
      within : stations.at (below q.below) j ≡ at.Inside → j ≤ length (below q.below)
      within i =
          elim (cases_lt (length (below q.below)) j) [
            | inl lt ↦ absurd (out≢inside (sym (get_or_past (below q.below) (j - 1) at.Out (omega arith)) ∙ i))
            | inr le ↦ le
          ]

  pub call_there : (q : Queue L) (c : Call) → accepted (shown below q) c ≡ true → There below q (board c)
  call_there q c acc = let h = board_there (shown below q) c acc in let len = length_shown below q in let k = h.1 in (h.0, omega arith)

  done_moves : (q : Queue L) (c : Call) → accepted (shown below q) c ≡ true → MovedBelow after below fresh q.below (sent below q c)
      → Moves (shown below q) c (shown below (done after below q c))
  done_moves q (Start b) acc m =
      shown_done q (Start b) (call_there q (Start b) acc) m
      ∙ ap (stations.with (shown below q) b) (pairing_tries (stations.at (below q.below) b) q.doors.boards.count b (other_after q.doors.boards.count b 0))
  done_moves q (Step b bit) acc m =
      let h = call_there q (Step b bit) acc in
      let here = at_shown below q b h in (
        _,
        shown_done q (Step b bit) h m,
        elim (way q.below q.doors.boards.count b bit (row_at q b) (seen q b bit (door_at q b).notes (door_at q b).phase) (out_below below q b) (door_at q b).y (door_at q b).notes (door_at q b).phase refl m) [
          | inl same ↦ inl (same ∙ sym here)
          | inr (inl w) ↦ inr (inl (here ∙ w.0, w.1, none_else q b w.2))
          | inr (inr w) ↦ inr (inr (here ∙ w.0, w.1))
        ],
      )
  done_moves q (Leave b) acc m = shown_done q (Leave b) (call_there q (Leave b) acc) m
  done_moves q (Pull b) acc m = shown_done q (Pull b) (call_there q (Pull b) acc) m

  pub took : (q : Queue L) (c : Call) → accepted (shown below q) c ≡ true → queue_after after below q c ≡ done after below q c
  took q c acc = rw acc

  pub stayed : (q : Queue L) (c : Call) → accepted (shown below q) c ≡ false → queue_after after below q c ≡ q
  stayed q c bad = rw bad

  -- the point of the meaning that speaks of one call, from that of the lock below
  pub moves_at : (newly : Boards → Queue L) (q : Queue L) (c : Call) → MovedBelow after below fresh q.below (sent below q c) → MovesAt newly (queue_after after below) (shown below) q c
  moves_at newly q c m = (stayed q c, λ t. subst (λ x. Moves (shown below q) c (shown below x)) (sym (took q c t)) (done_moves q c t m))
