-- While a board stands ahead of another, that one does not go inside; and nobody can hold a board in its doorway.
use Rattle.std.specs.Prelude.{◌≡◌, ℕ, ◌+◌, ◌-◌, ◌*◌, ◌≤◌, Bool, true, false, cond, ◌&&◌, ◌⊎◌, List, [], ◌∷◌, length, Some, None, Option, ◌≢◌, refl}
use Rattle.std.proofs.Common.{sym, ap, subst, ◌∙◌, inl, inr, arith}
use Rattle.std.proofs.lemmas.Bool.{cases_eq, cases_Bool, and_parts}
use Rattle.std.proofs.lemmas.List.{length-set, length-replicate}
use Rattle.line.specs.declared.Level.{Level}
use Rattle.line.specs.declared.Level.TheVariants as to
use Rattle.line.specs.declared.Line.{Line}
use Rattle.line.specs.declared.Line.TheVariants.{Low, Rising, High, Falling}
use Rattle.line.specs.Rule.{begun, ended, heading, level, moving, reading, high}
use Rattle.lock.specs.declared.boards.Boards.{Boards}
use Rattle.lock.specs.declared.station.Call.{Call}
use Rattle.lock.specs.declared.station.Call.TheVariants.{Start, Step, Leave, Pull}
use Rattle.lock.specs.declared.station.Station.{Station}
use Rattle.lock.specs.declared.station.Station.TheVariants as at
use Rattle.lock.specs.Most.{most}
use Rattle.lock.specs.Order.{Leaves, InOrder, PassesWithin}
use Rattle.lock.specs.Others.{other_after}
use Rattle.lock.specs.Runs.{own, run, Sometime, Each, AllOut, CallsMove}
use Rattle.lock.specs.Stations.{among, board, accepted, place_of, Stands}
use Rattle.lock.specs.Stations as stations
use Rattle.lock.specs.Tables.{kept_for, listed}
use Rattle.lock.proofs.Runs.{arrives}
use Rattle.lock.proofs.Stations.{out≢trying, trying≢inside, true≢false, start_accepted, leave_accepted, among_from, from_among, own_same, no_own}
use Rattle.lock.proofs.Local.{reached, good_after}
use Rattle.queue.specs.declared.state.Phase.{Phase}
use Rattle.queue.specs.declared.state.Phase.TheVariants.{Out, Pairing, Turning, Noting, Raising, Watching, Comparing, Below, Leaving}
use Rattle.queue.specs.declared.state.Queue.{Queue}
use Rattle.queue.specs.declared.state.Row.{Row}
use Rattle.queue.specs.Rule.{door, none, lowest, put_at, noting, pairing, watched, compared, favours, strike, z_of, station, tries, waits_at, waits, door_step, row_step, shown, door_at, row_at, read_y, read_z, seen, out_below, next_door, next_row, new_queue, queue_after}
use Rattle.queue.specs.Shown.{There, length_shown, at_shown, waits_there}
use Rattle.queue.specs.Moves.{there_done, door_done, call_there, took, stayed}
use Rattle.queue.specs.Fits.{never, engaged, fits_below, fits_y, Fit}
use Rattle.queue.specs.Keeps.{Good, count_doors, row_done, calls, out_phase, inside_phase}
use Rattle.queue.specs.Settles.{Left, left_alone, own_step, own_not, shows_as}
use Rattle.queue.specs.Enters.{way_cases, out_there}
use Rattle.queue.specs.Doorway.{left, left_first, to_go, pairing_go, doorway, on_way, some_left, nearer}
use Rattle.queue.specs.Pair.{Knows, Reads, start_knows, step_knows}

-- a board past its doorway, in the layer or below
abbrev pub past : Phase → Bool
past Out = false
past (Pairing j) = false
past (Turning j) = false
past (Noting j) = false
past Raising = false
past Watching = true
past Comparing = true
past Below = true
past Leaving = false

-- a board waits where it is past its doorway, and is shown trying
pub waits_past : (s : Station) (p : Phase) → waits_at s p ≡ (past p && tries (station s p))
waits_past s Out = refl
waits_past s (Pairing j) = refl
waits_past s (Turning j) = refl
waits_past s (Noting j) = refl
waits_past s Raising = refl
waits_past s Watching = refl
waits_past s Comparing = refl
waits_past s Below = refl
waits_past s Leaving = refl

trying_station : (s : Station) → tries s ≡ true → s ≡ at.Trying
trying_station at.Out e = never e
trying_station at.Trying e = refl
trying_station at.Inside e = never e
trying_station at.Leaving e = never e

-- a board past its doorway has its y high, and its z lines at rest
past_high : (y : Line) (p : Phase) → past p ≡ true → fits_y p y ≡ true → y ≡ High
past_high y Out e f = never e
past_high y (Pairing j) e f = never e
past_high y (Turning j) e f = never e
past_high y (Noting j) e f = never e
past_high y Raising e f = never e
past_high Low Watching e f = never f
past_high Rising Watching e f = never f
past_high High Watching e f = refl
past_high Falling Watching e f = never f
past_high Low Comparing e f = never f
past_high Rising Comparing e f = never f
past_high High Comparing e f = refl
past_high Falling Comparing e f = never f
past_high Low Below e f = never f
past_high Rising Below e f = never f
past_high High Below e f = refl
past_high Falling Below e f = never f
past_high y Leaving e f = never e

past_rests : {n b : ℕ} {s : Station} {y : Line} {r : Row} (p : Phase) → past p ≡ true → Fit n b s y p r → (k : ℕ) → moving (z_of r k) ≡ false
past_rests Out e f k = never e
past_rests (Pairing j) e f k = never e
past_rests (Turning j) e f k = never e
past_rests (Noting j) e f k = never e
past_rests Raising e f k = never e
past_rests Watching e f k = f.rests k refl
past_rests Comparing e f k = f.rests k refl
past_rests Below e f k = f.rests k refl
past_rests Leaving e f k = never e

-- its own step leaves it past its doorway, and leaves its row
pub past_step : (n b : ℕ) (r : Row) (level : Level) (out : Bool) (y : Line) (notes : List Bool) (p : Phase) → past p ≡ true
    → (past (door_step n b r level out y notes p).phase ≡ true) × (row_step r out y p ≡ r)
past_step n b r level out y notes Out e = never e
past_step n b r level out y notes (Pairing j) e = never e
past_step n b r level out y notes (Turning j) e = never e
past_step n b r level out y notes (Noting j) e = never e
past_step n b r level out y notes Raising e = never e
past_step n b r level out y notes Watching e = (go (lowest notes) level, refl)
  where
    starts : (t : Bool) → past (cond t Below Watching) ≡ true
    starts true = refl
    starts false = refl

    go : (o : Option ℕ) (v : Level) → past (watched y notes out v o).phase ≡ true
    go None v = starts out
    go (Some i) to.Low = refl
    go (Some i) to.High = refl
past_step n b r level out y notes Comparing e = (go (lowest notes), refl)
  where
    go : (o : Option ℕ) → past (compared b r level y notes o).phase ≡ true
    go None = refl
    go (Some i) = refl
past_step n b r level out y notes Below e = (refl, refl)
past_step n b r level out y notes Leaving e = never e

-- a step keeps the length of the notes
put_long : (notes : List Bool) (o : Option ℕ) (t : Bool) → length (put_at notes o t) ≡ length notes
put_long notes None t = refl
put_long notes (Some i) t = length-set notes i t

notes_long : (n b : ℕ) (r : Row) (level : Level) (out : Bool) (y : Line) (notes : List Bool) (p : Phase) → length (door_step n b r level out y notes p).notes ≡ length notes
notes_long n b r level out y notes Out = refl
notes_long n b r level out y notes (Pairing j) = refl
notes_long n b r level out y notes (Turning j) = refl
notes_long n b r to.Low out y notes (Noting j) = refl
notes_long n b r to.High out y notes (Noting j) = put_long notes (place_of j) true
notes_long n b r level out y notes Raising = go (moving y)
  where
    go : (t : Bool) → length (cond t (door (ended y) Watching notes) (door (begun y to.High) Raising notes)).notes ≡ length notes
    go true = refl
    go false = refl
notes_long n b r level out y notes Watching = go (lowest notes) level
  where
    go : (o : Option ℕ) (v : Level) → length (watched y notes out v o).notes ≡ length notes
    go None v = refl
    go (Some i) to.Low = put_long notes (place_of i) false
    go (Some i) to.High = refl
notes_long n b r level out y notes Comparing = go (lowest notes)
  where
    go : (o : Option ℕ) → length (compared b r level y notes o).notes ≡ length notes
    go None = refl
    go (Some i) = pick (favours b (heading (z_of r i)) i level)
      where
        pick : (t : Bool) → length (cond t (strike notes i) notes) ≡ length notes
        pick true = put_long notes (place_of i) false
        pick false = refl
notes_long n b r level out y notes Below = refl
notes_long n b r level out y notes Leaving = go out (high y)
  where
    go : (t u : Bool) → length (cond t (cond u (door (begun y to.Low) Leaving notes) (door (ended y) Out notes)) (door y Leaving notes)).notes ≡ length notes
    go true true = refl
    go true false = refl
    go false u = refl

module _ {L : Type 0} (fresh : Boards → L) (after : L → Call → L) (below : L → List Station)
    (begins : AllOut fresh below) (moves : CallsMove fresh after below) where
  abbrev Ok : Boards → Queue L → Type 0
  Ok = Good fresh after below begins moves

  abbrev up : Queue L → Call → Queue L
  up = queue_after after below

  -- j is past its doorway, and b knows it
  abbrev Ahead : Boards → ℕ → ℕ → Queue L → Type 0
  Ahead n b j q =
      Ok n q × There below q b × There below q j × (past (door_at q j).phase ≡ true) × (length (door_at q b).notes ≡ most)
      × Knows b j (heading (z_of (row_at q j) b)) (row_at q b) (door_at q b).notes (door_at q b).phase

  -- a board that waits is one of the layer's, past its doorway, and trying
  pub there_waits : (q : Queue L) (j : ℕ) → waits below q j ≡ true → There below q j × (past (door_at q j).phase ≡ true) × Stands (shown below q) j at.Trying
  there_waits q j w = split (kept_for q.doors j) refl w
    where
      split : (t : Bool) → kept_for q.doors j ≡ t → cond t (waits_at (stations.at (below q.below) j) (door_at q j).phase) false ≡ true
          → There below q j × (past (door_at q j).phase ≡ true) × Stands (shown below q) j at.Trying
      split true k y =
          let h = from_among (length (listed q.doors)) j k in
          let shows = station (stations.at (below q.below) j) (door_at q j).phase in
          let both = and_parts (past (door_at q j).phase) (tries shows) (sym (waits_past (stations.at (below q.below) j) (door_at q j).phase) ∙ y) in
          (h, both.0, shows_as fresh after below begins moves q j at.Trying h (trying_station shows both.1))
      split false k y = never y

  good_up : (n : Boards) (q : Queue L) (c : Call) → Ok n q → Ok n (up q c)
  good_up n q c g = good_after (new_queue fresh) up (shown below) Ok (calls fresh after below begins moves) n q c g

  settled_read : (bit : Bool) (z : Line) → moving z ≡ false → reading z bit ≡ heading z
  settled_read bit z e = ap (λ t. cond t (level bit) (heading z)) e

  -- what b reads of j
  reads_of : (q : Queue L) (b j : ℕ) (bit : Bool) (notes : List Bool) (p : Phase) → (door_at q j).y ≡ High → moving (z_of (row_at q j) b) ≡ false
      → Reads j (heading (z_of (row_at q j) b)) notes p (seen q b bit notes p)
  reads_of q b j bit notes Out hy hz = tt
  reads_of q b j bit notes (Pairing k) hy hz = λ same. ap (λ i. reading (z_of (row_at q i) b) bit) same ∙ settled_read bit (z_of (row_at q j) b) hz
  reads_of q b j bit notes (Turning k) hy hz = tt
  reads_of q b j bit notes (Noting k) hy hz = λ same. ap (λ i. reading (door_at q i).y bit) same ∙ ap (λ y. reading y bit) hy
  reads_of q b j bit notes Raising hy hz = tt
  reads_of q b j bit notes Watching hy hz = λ found. ap (read_y q bit) found ∙ ap (λ y. reading y bit) hy
  reads_of q b j bit notes Comparing hy hz = λ found. ap (read_z q b bit) found ∙ settled_read bit (z_of (row_at q j) b) hz
  reads_of q b j bit notes Below hy hz = tt
  reads_of q b j bit notes Leaving hy hz = tt

  -- j stays ahead over a call that is not its own
  with_j : (n : Boards) (b j : ℕ) (q r : Queue L) → Left fresh after below begins moves q r j → past (door_at q j).phase ≡ true
      → There below r j × (past (door_at r j).phase ≡ true) × (heading (z_of (row_at r j) b) ≡ heading (z_of (row_at q j) b))
  with_j n b j q r l p = (l.there, ap (λ d. past d.phase) l.door_same ∙ p, ap (λ x. heading (z_of x b)) l.row_same)

  by_b_step : (n : Boards) (b j : ℕ) (q : Queue L) (bit : Bool) → (j ≢ b) → Ahead n b j q → Ahead n b j (up q (Step b bit))
  by_b_step n b j q bit ne (g, hb, hj, p, long, k) =
      let e = own_step fresh after below begins moves q b bit hb in
      let lj = with_j n b j q (up q (Step b bit)) (left_alone fresh after below begins moves n q (Step b bit) j g hj (λ x. ne (sym x))) p in
      let fj = g.fit j hj in let fb = g.fit b hb in
      let doors : door_at (up q (Step b bit)) b ≡ next_door below q (Step b bit) = ap (λ u. door_at u b) e ∙ door_done fresh after below q (Step b bit) hb in
      let rows : row_at (up q (Step b bit)) b ≡ next_row below q (Step b bit) = ap (λ u. row_at u b) e ∙ row_done fresh after below begins moves n q g (Step b bit) hb in
      let hy = past_high (door_at q j).y (door_at q j).phase p fj.line in
      let hz = past_rests (door_at q j).phase p fj b in
      let count = count_doors fresh after below begins moves n q g in
      let high_j = hj.1 in
      let few = n.few in
      let within : among most j ≡ true = among_from most j hj.0 (omega arith) in
      let same_n = ap (λ m. m.count) g.doors_of in
      let after_step = step_knows q.doors.boards.count b j (heading (z_of (row_at q j) b)) (row_at q b) (seen q b bit (door_at q b).notes (door_at q b).phase) (out_below below q b)
      (door_at q b).y (door_at q b).notes (door_at q b).phase hj.0 (omega arith) within ne long fb.wide
      (λ i x. (subst (λ ph. Fit n.count b (stations.at (below q.below) b) (door_at q b).y ph (row_at q b)) x fb).rests j refl)
      (reads_of q b j bit (door_at q b).notes (door_at q b).phase hy hz) k in (
        good_up n q (Step b bit) g,
        subst (λ u. There below u b) (sym e) (there_done fresh after below q (Step b bit) hb b hb),
        lj.0,
        lj.1,
        ap (λ d. length d.notes) doors ∙ notes_long q.doors.boards.count b (row_at q b) (seen q b bit (door_at q b).notes (door_at q b).phase) (out_below below q b) (door_at q b).y (door_at q b).notes (door_at q b).phase ∙ long,
        subst (λ v. Knows b j v (row_at (up q (Step b bit)) b) (door_at (up q (Step b bit)) b).notes (door_at (up q (Step b bit)) b).phase) (sym lj.2)
            (subst (λ d. Knows b j (heading (z_of (row_at q j) b)) (row_at (up q (Step b bit)) b) d.notes d.phase) (sym doors)
            (subst (λ r. Knows b j (heading (z_of (row_at q j) b)) r (next_door below q (Step b bit)).notes (next_door below q (Step b bit)).phase) (sym rows) after_step)),
      )

  -- a call that names neither of them
  by_other : (n : Boards) (b j : ℕ) (q : Queue L) (c : Call) → (board c ≢ b) → (board c ≢ j) → Ahead n b j q → Ahead n b j (up q c)
  by_other n b j q c nb nj (g, hb, hj, p, long, k) =
      let lb = left_alone fresh after below begins moves n q c b g hb nb in
      let lj = with_j n b j q (up q c) (left_alone fresh after below begins moves n q c j g hj nj) p in (
        good_up n q c g,
        lb.there,
        lj.0,
        lj.1,
        ap (λ d. length d.notes) lb.door_same ∙ long,
        subst (λ v. Knows b j v (row_at (up q c) b) (door_at (up q c) b).notes (door_at (up q c) b).phase) (sym lj.2)
            (subst (λ d. Knows b j (heading (z_of (row_at q j) b)) (row_at (up q c) b) d.notes d.phase) (sym lb.door_same)
            (subst (λ r. Knows b j (heading (z_of (row_at q j) b)) r (door_at q b).notes (door_at q b).phase) (sym lb.row_same) k)),
      )

  -- j's own step
  by_j_step : (n : Boards) (b j : ℕ) (q : Queue L) (bit : Bool) → (j ≢ b) → Ahead n b j q → Ahead n b j (up q (Step j bit))
  by_j_step n b j q bit ne (g, hb, hj, p, long, k) =
      let e = own_step fresh after below begins moves q j bit hj in
      let lb = left_alone fresh after below begins moves n q (Step j bit) b g hb ne in
      let doors : door_at (up q (Step j bit)) j ≡ next_door below q (Step j bit) = ap (λ u. door_at u j) e ∙ door_done fresh after below q (Step j bit) hj in
      let stepped = past_step q.doors.boards.count j (row_at q j) (seen q j bit (door_at q j).notes (door_at q j).phase) (out_below below q j) (door_at q j).y (door_at q j).notes (door_at q j).phase p in
      let rows : row_at (up q (Step j bit)) j ≡ row_at q j = ap (λ u. row_at u j) e ∙ row_done fresh after below begins moves n q g (Step j bit) hj ∙ stepped.1 in (
        good_up n q (Step j bit) g,
        lb.there,
        subst (λ u. There below u j) (sym e) (there_done fresh after below q (Step j bit) hj j hj),
        ap (λ d. past d.phase) doors ∙ stepped.0,
        ap (λ d. length d.notes) lb.door_same ∙ long,
        subst (λ x. Knows b j (heading (z_of x b)) (row_at (up q (Step j bit)) b) (door_at (up q (Step j bit)) b).notes (door_at (up q (Step j bit)) b).phase) (sym rows)
            (subst (λ d. Knows b j (heading (z_of (row_at q j) b)) (row_at (up q (Step j bit)) b) d.notes d.phase) (sym lb.door_same)
            (subst (λ r. Knows b j (heading (z_of (row_at q j) b)) r (door_at q b).notes (door_at q b).phase) (sym lb.row_same) k)),
      )

  -- b is not inside while it knows of j
  not_inside : (n : Boards) (b j : ℕ) (q : Queue L) → Ahead n b j q → Stands (shown below q) b at.Inside → ⊥
  not_inside n b j q (g, hb, hj, p, long, k) s =
      let i = inside_phase (stations.at (below q.below) b) (door_at q b).phase (sym (at_shown below q b hb) ∙ s.2) in
      subst (λ ph. Knows b j (heading (z_of (row_at q j) b)) (row_at q b) (door_at q b).notes ph) i.0 k

  -- a pulled b knows nothing any more
  by_b_pull : (n : Boards) (b j : ℕ) (q : Queue L) → (j ≢ b) → accepted (shown below q) (Pull b) ≡ true → Ahead n b j q → Ahead n b j (up q (Pull b))
  by_b_pull n b j q ne acc (g, hb, hj, p, long, k) =
      let e = took fresh after below q (Pull b) acc in
      let lj = with_j n b j q (up q (Pull b)) (left_alone fresh after below begins moves n q (Pull b) j g hj (λ x. ne (sym x))) p in
      let doors : door_at (up q (Pull b)) b ≡ next_door below q (Pull b) = ap (λ u. door_at u b) e ∙ door_done fresh after below q (Pull b) hb in (
        good_up n q (Pull b) g,
        subst (λ u. There below u b) (sym e) (there_done fresh after below q (Pull b) hb b hb),
        lj.0,
        lj.1,
        ap (λ d. length d.notes) doors ∙ long,
        subst (λ d. Knows b j (heading (z_of (row_at (up q (Pull b)) j) b)) (row_at (up q (Pull b)) b) d.notes d.phase) (sym doors) tt,
      )

  -- a waiting board is not out
  past_not_out : (n : Boards) (q : Queue L) (j : ℕ) → Ok n q → There below q j → past (door_at q j).phase ≡ true → stations.at (shown below q) j ≢ at.Out
  past_not_out n q j g h p e = go (out_phase (stations.at (below q.below) j) (door_at q j).phase (sym (at_shown below q j h) ∙ e))
    where
      go : ((door_at q j).phase ≡ Out) ⊎ (((door_at q j).phase ≡ Below) × (stations.at (below q.below) j ≡ at.Out)) → ⊥
      go (inl x) = true≢false (past (door_at q j).phase) p (ap past x)
      go (inr w) = true≢false true refl (sym (g.fit j h).below ∙ ap (λ ph. fits_below ph (stations.at (below q.below) j)) w.0 ∙ ap engaged w.1)

  by_call : (n : Boards) (b j : ℕ) (q : Queue L) (c : Call) → (j ≢ b) → Ahead n b j q → accepted (shown below q) c ≡ true → Leaves j b c → (Stands (shown below q) j at.Inside → ⊥)
      → Ahead n b j (up q c)
  by_call n b j q (Start i) ne a acc leaves out =
      elim (cases_eq i b) [
        | inl same ↦ absurd (leaves same)
        | inr nb ↦ elim (cases_eq i j) [
          | inl same ↦ absurd (past_not_out n q j a.0 a.2 a.3 (ap (stations.at (shown below q)) (sym same) ∙ (start_accepted (shown below q) i acc).2))
          | inr nj ↦ by_other n b j q (Start i) nb nj a
        ]
      ]
  by_call n b j q (Step i bit) ne a acc leaves out =
      elim (cases_eq i b) [
        | inl same ↦ subst (λ x. Ahead n b j (up q (Step x bit))) (sym same) (by_b_step n b j q bit ne a)
        | inr nb ↦ elim (cases_eq i j) [
          | inl same ↦ subst (λ x. Ahead n b j (up q (Step x bit))) (sym same) (by_j_step n b j q bit ne a)
          | inr nj ↦ by_other n b j q (Step i bit) nb nj a
        ]
      ]
  by_call n b j q (Leave i) ne a acc leaves out =
      let s = leave_accepted (shown below q) i acc in
      elim (cases_eq i b) [
        | inl same ↦ absurd (not_inside n b j q a (subst (λ x. Stands (shown below q) x at.Inside) same s))
        | inr nb ↦ elim (cases_eq i j) [
          | inl same ↦ absurd (out (subst (λ x. Stands (shown below q) x at.Inside) same s))
          | inr nj ↦ by_other n b j q (Leave i) nb nj a
        ]
      ]
  by_call n b j q (Pull i) ne a acc leaves out =
      elim (cases_eq i b) [
        | inl same ↦ subst (λ x. Ahead n b j (up q (Pull x))) (sym same) (by_b_pull n b j q ne (subst (λ x. accepted (shown below q) (Pull x) ≡ true) same acc) a)
        | inr nb ↦ by_other n b j q (Pull i) nb leaves a
      ]

  -- over a whole run
  ahead_run : (n : Boards) (b j : ℕ) (q : Queue L) (ds : List Call) → (j ≢ b) → Ahead n b j q → Each up (λ u c. accepted (shown below u) c ≡ true → Leaves j b c) q ds
      → (Sometime up (λ u. Stands (shown below u) j at.Inside) q ds → ⊥) → Ahead n b j (run up q ds)
  ahead_run n b j q [] ne a e out = a
  ahead_run n b j q (c ∷ cs) ne a e out =
      ahead_run n b j (up q c) cs ne
      (elim (cases_Bool (accepted (shown below q) c)) [
        | inl t ↦ by_call n b j q c ne a t (e.0 t) (λ s. out (inl s))
        | inr f ↦ subst (Ahead n b j) (sym (stayed fresh after below q c f)) a
      ])
      e.1 (λ s. out (inr s))

  pub in_order : InOrder (new_queue fresh) up (shown below) (waits below)
  in_order n cs ds b j acc w each out = go (run up (new_queue fresh n) cs) (reached (new_queue fresh) up (shown below) Ok (calls fresh after below begins moves) n cs) acc w each out
    where
      go : (q : Queue L) → Ok n q → accepted (shown below q) (Start b) ≡ true → waits below q j ≡ true
          → Each up (λ u c. accepted (shown below u) c ≡ true → Leaves j b c) (up q (Start b)) ds
          → (Sometime up (λ u. Stands (shown below u) j at.Inside) (up q (Start b)) ds → ⊥)
          → Stands (shown below (run up (up q (Start b)) ds)) b at.Inside → ⊥
      go q g a x e o =
          let hj = there_waits q j x in
          let out_b = start_accepted (shown below q) b a in
          let ne : j ≡ b → ⊥ = λ s. past_not_out n q j g hj.0 hj.1 (ap (stations.at (shown below q)) s ∙ out_b.2) in
          let hb = call_there fresh after below q (Start b) a in
          let t = took fresh after below q (Start b) a in
          let doors : door_at (up q (Start b)) b ≡ next_door below q (Start b) = ap (λ u. door_at u b) t ∙ door_done fresh after below q (Start b) hb in
          let lj = with_j n b j q (up q (Start b)) (left_alone fresh after below begins moves n q (Start b) j g hj.0 (λ s. ne (sym s))) hj.1 in
          let count = count_doors fresh after below begins moves n q g in
          let high_j = hj.0.1 in
          let same_n = ap (λ m. m.count) g.doors_of in
          let begin : Ahead n b j (up q (Start b)) = (
            good_up n q (Start b) g,
            subst (λ u. There below u b) (sym t) (there_done fresh after below q (Start b) hb b hb),
            lj.0,
            lj.1,
            ap (λ d. length d.notes) doors ∙ length-replicate most false,
            subst (λ d. Knows b j (heading (z_of (row_at (up q (Start b)) j) b)) (row_at (up q (Start b)) b) d.notes d.phase) (sym doors)
                (start_knows b j q.doors.boards.count (heading (z_of (row_at (up q (Start b)) j) b)) (row_at (up q (Start b)) b) none hj.0.0 (omega arith) ne),
          ) in
          not_inside n b j (run up (up q (Start b)) ds) (ahead_run n b j (up q (Start b)) ds ne begin e o)

  -- b is in its doorway
  abbrev Inner : Boards → ℕ → Queue L → Type 0
  Inner n b q = Ok n q × There below q b × (doorway (door_at q b).phase ≡ true)

  -- the own steps that it still needs to pass it
  abbrev steps_left : Boards → ℕ → Queue L → ℕ
  steps_left n b q = to_go n.count b (door_at q b).y (row_at q b) (door_at q b).phase - 1

  pub inner_shown : (s : Station) (p : Phase) → doorway p ≡ true → station s p ≡ at.Trying
  inner_shown s Out e = never e
  inner_shown s (Pairing j) e = refl
  inner_shown s (Turning j) e = refl
  inner_shown s (Noting j) e = refl
  inner_shown s Raising e = refl
  inner_shown s Watching e = never e
  inner_shown s Comparing e = never e
  inner_shown s Below e = never e
  inner_shown s Leaving e = never e

  some_inner : (n b : ℕ) (y : Line) (r : Row) (p : Phase) → doorway p ≡ true → 2 ≤ to_go n b y r p
  some_inner n b y r Out e = never e
  some_inner n b y r (Pairing j) e = omega arith
  some_inner n b y r (Turning j) e = elim (moving (z_of r j)) as (λ t. 2 ≤ cond t 1 2 + 3 * left n b j + n + 2) [ true ↦ omega arith | false ↦ omega arith ]
  some_inner n b y r (Noting j) e = omega arith
  some_inner n b y r Raising e = elim (moving y) as (λ t. 2 ≤ cond t 2 3) [ true ↦ omega arith | false ↦ omega arith ]
  some_inner n b y r Watching e = never e
  some_inner n b y r Comparing e = never e
  some_inner n b y r Below e = never e
  some_inner n b y r Leaving e = never e

  pub inner_own : (n : Boards) (b : ℕ) (q : Queue L) (bit : Bool) → Inner n b q
      → (waits below (up q (Step b bit)) b ≡ true) ⊎ (Inner n b (up q (Step b bit)) × (1 + steps_left n b (up q (Step b bit)) ≤ steps_left n b q))
  inner_own n b q bit (g, h, d) =
      let e = own_step fresh after below begins moves q b bit h in
      let f = g.fit b h in
      let there : There below (up q (Step b bit)) b = subst (λ u. There below u b) (sym e) (there_done fresh after below q (Step b bit) h b h) in
      let count = count_doors fresh after below begins moves n q g in let k = h.1 in
      let rows : row_at (up q (Step b bit)) b ≡ next_row below q (Step b bit) = ap (λ u. row_at u b) e ∙ row_done fresh after below begins moves n q g (Step b bit) h in
      let doors : door_at (up q (Step b bit)) b ≡ door_step n.count b (row_at q b) (seen q b bit (door_at q b).notes (door_at q b).phase) (out_below below q b) (door_at q b).y (door_at q b).notes (door_at q b).phase =
      ap (λ u. door_at u b) e ∙ door_done fresh after below q (Step b bit) h
      ∙ ap (λ m. door_step m.count b (row_at q b) (seen q b bit (door_at q b).notes (door_at q b).phase) (out_below below q b) (door_at q b).y (door_at q b).notes (door_at q b).phase) g.doors_of in
      let near = nearer n.count b (stations.at (below q.below) b) (row_at q b) (seen q b bit (door_at q b).notes (door_at q b).phase) (out_below below q b) (door_at q b).y (door_at q b).notes (door_at q b).phase n.few h.0 (omega arith) f d in
      let way : on_way (door_at (up q (Step b bit)) b).phase ≡ true = ap (λ x. on_way x.phase) doors ∙ near.0 in
      let fewer : 1 + to_go n.count b (door_at (up q (Step b bit)) b).y (row_at (up q (Step b bit)) b) (door_at (up q (Step b bit)) b).phase ≤ to_go n.count b (door_at q b).y (row_at q b) (door_at q b).phase =
      subst (λ x. 1 + to_go n.count b x.y (row_at (up q (Step b bit)) b) x.phase ≤ to_go n.count b (door_at q b).y (row_at q b) (door_at q b).phase) (sym doors)
      (subst (λ r. 1 + to_go n.count b (door_step n.count b (row_at q b) (seen q b bit (door_at q b).notes (door_at q b).phase) (out_below below q b) (door_at q b).y (door_at q b).notes (door_at q b).phase).y r
      (door_step n.count b (row_at q b) (seen q b bit (door_at q b).notes (door_at q b).phase) (out_below below q b) (door_at q b).y (door_at q b).notes (door_at q b).phase).phase ≤ to_go n.count b (door_at q b).y (row_at q b) (door_at q b).phase) (sym rows) near.1) in
      elim (way_cases (door_at (up q (Step b bit)) b).phase way) [
        | inl inner ↦
            let some = some_left n.count b (door_at (up q (Step b bit)) b).y (row_at (up q (Step b bit)) b) (door_at (up q (Step b bit)) b).phase in
            inr ((good_up n q (Step b bit) g, there, inner), omega arith)
        | inr passed_it ↦
            inl (waits_there below (up q (Step b bit)) b there ∙ ap (waits_at (stations.at (below (up q (Step b bit)).below) b)) passed_it)
      ]

  inner_falls : (n : Boards) (b : ℕ) (q : Queue L) (c : Call) → Inner n b q → (accepted (shown below q) c ≡ true → c ≢ Pull b)
      → (waits below (up q c) b ≡ true) ⊎ (Inner n b (up q c) × (own b c + steps_left n b (up q c) ≤ steps_left n b q))
  inner_falls n b q c (g, h, d) ok =
      elim (cases_eq (board c) b) [
        | inr ne ↦
            let l = left_alone fresh after below begins moves n q c b g h ne in
            let zero_own = own_not b c ne in
            let same : steps_left n b (up q c) ≡ steps_left n b q =
            ap (λ x. to_go n.count b x.y (row_at (up q c) b) x.phase - 1) l.door_same ∙ ap (λ r. to_go n.count b (door_at q b).y r (door_at q b).phase - 1) l.row_same in
            inr ((good_up n q c g, l.there, ap (λ x. doorway x.phase) l.door_same ∙ d), omega arith)
        | inl same ↦ elim (cases_Bool (accepted (shown below q) c)) [
          | inl t ↦ by_own c same t (ok t)
          | inr f ↦
              let e = stayed fresh after below q c f in
              let len = length_shown below q in let k = h.1 in
              let zero_own = no_own (shown below q) b c h.0 (omega arith) f in
              let same_left = ap (steps_left n b) e in
              inr (subst (Inner n b) (sym e) (g, h, d), omega arith)
        ]
      ]
    where
      tries_now : stations.at (shown below q) b ≡ at.Trying
      tries_now = at_shown below q b h ∙ inner_shown (stations.at (below q.below) b) (door_at q b).phase d

      by_own : (x : Call) → board x ≡ b → accepted (shown below q) x ≡ true → (x ≢ Pull b)
          → (waits below (up q x) b ≡ true) ⊎ (Inner n b (up q x) × (own b x + steps_left n b (up q x) ≤ steps_left n b q))
      by_own (Start i) e t no_pull = absurd (out≢trying (sym (start_accepted (shown below q) i t).2 ∙ ap (stations.at (shown below q)) e ∙ tries_now))
      by_own (Step i bit) e t no_pull =
          subst (λ v. (waits below (up q (Step v bit)) b ≡ true) ⊎ (Inner n b (up q (Step v bit)) × (own b (Step v bit) + steps_left n b (up q (Step v bit)) ≤ steps_left n b q))) (sym e)
          (elim (inner_own n b q bit (g, h, d)) [ inl w ↦ inl w | inr w ↦ inr (w.0, (let one = own_same b bit in rw one w.1)) ])
      by_own (Leave i) e t no_pull = absurd (trying≢inside (sym tries_now ∙ ap (stations.at (shown below q)) (sym e) ∙ (leave_accepted (shown below q) i t).2))
      by_own (Pull i) e t no_pull = absurd (no_pull (ap Pull e))

  pub passes_within : PassesWithin (new_queue fresh) up (shown below) (waits below) (λ n. 4 * n - 2)
  passes_within n cs ds b acc each enough = go (run up (new_queue fresh n) cs) (reached (new_queue fresh) up (shown below) Ok (calls fresh after below begins moves) n cs) acc each
    where
      go : (q : Queue L) → Ok n q → accepted (shown below q) (Start b) ≡ true → Each up (λ u c. accepted (shown below u) c ≡ true → c ≢ Pull b) (up q (Start b)) ds
          → Sometime up (λ u. waits below u b ≡ true) (up q (Start b)) ds
      go q g a e =
          let w = call_there fresh after below q (Start b) a in
          let t = took fresh after below q (Start b) a in
          let was = out_there fresh after below begins moves n q b g w (start_accepted (shown below q) b a).2 in
          let doors : door_at (up q (Start b)) b ≡ next_door below q (Start b) = ap (λ u. door_at u b) t ∙ door_done fresh after below q (Start b) w in
          let known = count_doors fresh after below begins moves n q g in let k = w.1 in
          let there : There below (up q (Start b)) b = subst (λ u. There below u b) (sym t) (there_done fresh after below q (Start b) w b w) in
          let first = left_first n.count b w.0 in
          let most_go = pairing_go n.count b 0 (row_at (up q (Start b)) b) w.0 (omega arith) in
          let counted : steps_left n b (up q (Start b)) ≡ to_go n.count b Low (row_at (up q (Start b)) b) (pairing n.count b (other_after n.count b 0)) - 1 =
          ap (λ x. to_go n.count b x.y (row_at (up q (Start b)) b) x.phase - 1) doors
          ∙ ap (λ y. to_go n.count b y (row_at (up q (Start b)) b) (pairing q.doors.boards.count b (other_after q.doors.boards.count b 0)) - 1) was.1
          ∙ ap (λ m. to_go n.count b Low (row_at (up q (Start b)) b) (pairing m.count b (other_after m.count b 0)) - 1) g.doors_of in
          arrives up b (steps_left n b) (Inner n b) (λ u. waits below u b ≡ true) (λ u c. accepted (shown below u) c ≡ true → c ≢ Pull b)
          (λ u (g', h', d'). let two = some_inner n.count b (door_at u b).y (row_at u b) (door_at u b).phase d' in omega arith)
          (inner_falls n b) (up q (Start b)) ds
          (good_up n q (Start b) g, there, ap (λ x. doorway x.phase) doors ∙ pairing_door q.doors.boards.count b (other_after q.doors.boards.count b 0))
          e (let some = n.some in omega arith)
        where
          noting_door : (o : Option ℕ) → doorway (noting o) ≡ true
          noting_door (Some i) = refl
          noting_door None = refl

          pairing_door : (m i : ℕ) (o : Option ℕ) → doorway (pairing m i o) ≡ true
          pairing_door m i (Some x) = refl
          pairing_door m i None = noting_door (other_after m i 0)
