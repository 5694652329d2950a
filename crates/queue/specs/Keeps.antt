-- The layer keeps the first laws of a lock, from those of the lock below.
use Rattle.std.specs.Prelude.{◌≡◌, ℕ, zero, suc, ◌+◌, ◌-◌, ◌≤◌, Bool, true, false, cond, not, ◌⊎◌, List, [], ◌∷◌, ◌++◌, length, get_or, replicate, is_ok, Some, None, Ok, Err, Option, ◌≢◌, slice_index_or, refl}
use Rattle.std.proofs.Common.{sym, ap, subst, ◌∙◌, inl, inr, arith}
use Rattle.std.proofs.lemmas.Bool.{cases_eq, cases_Bool}
use Rattle.std.proofs.lemmas.List.{length-set, length-replicate, take-replicate}
use Rattle.line.specs.declared.Line.{Line}
use Rattle.line.specs.declared.Line.TheVariants.{Low, Rising, High, Falling}
use Rattle.line.specs.Rule.{moving, high, rising}
use Rattle.lock.specs.declared.boards.Boards.{Boards}
use Rattle.lock.specs.declared.station.Call.{Call}
use Rattle.lock.specs.declared.station.Call.TheVariants.{Start, Step, Leave, Pull}
use Rattle.lock.specs.declared.station.Refusal.TheVariants.{NoSuchBoard}
use Rattle.lock.specs.declared.station.Station.{Station}
use Rattle.lock.specs.declared.station.Station.TheVariants as at
use Rattle.lock.specs.Most.{most}
use Rattle.lock.specs.Runs.{run, AllOut, MovesAt, CallsMove}
use Rattle.lock.specs.Others.{other_after}
use Rattle.lock.specs.Stations.{among, board, accepted, leave_at, pull_at, place_of, Stands}
use Rattle.lock.specs.Stations as stations
use Rattle.lock.specs.Tables.{listed, kept_for}
use Rattle.lock.proofs.Runs.{run_more}
use Rattle.lock.proofs.Stations.{true≢false, moved_to, start_accepted, leave_accepted, among_from, stands_with, replicate_at}
use Rattle.lock.proofs.Tables.{listed_length, asked_same, asked_other, written_boards, written_long}
use Rattle.lock.proofs.Local.{Calls}
use Rattle.queue.specs.declared.state.Phase.{Phase}
use Rattle.queue.specs.declared.state.Phase.TheVariants.{Out, Pairing, Turning, Noting, Raising, Watching, Comparing, Below, Leaving}
use Rattle.queue.specs.declared.state.Queue.{Queue}
use Rattle.queue.specs.Rule.{door, none, low_row, door_there as door_of, row_there, pairing, door_step, z_of, line_at, station, shown_from, shown, door_at, row_at, seen, out_below, sent, next_door, next_row, passed_on, MovedBelow, done, new_queue, queue_after}
use Rattle.queue.specs.Shown.{There, at_shown}
use Rattle.queue.specs.Moves.{sent_board, others_below, was_there, door_done, door_other, call_there, took, moves_at}
use Rattle.queue.specs.Fits.{never, is_out, engaged, going, fits_below, Fit, pairing_fit, step_fit, pull_fit}

-- what a shown station says of the phase
pub out_phase : (s : Station) (p : Phase) → station s p ≡ at.Out → (p ≡ Out) ⊎ ((p ≡ Below) × (s ≡ at.Out))
out_phase s Out e = inl refl
out_phase s (Pairing j) e = inl (cc)
out_phase s (Turning j) e = inl (cc)
out_phase s (Noting j) e = inl (cc)
out_phase s Raising e = inl (cc)
out_phase s Watching e = inl (cc)
out_phase s Comparing e = inl (cc)
out_phase s Below e = inr (refl, e)
out_phase s Leaving e = inl (cc)

pub inside_phase : (s : Station) (p : Phase) → station s p ≡ at.Inside → (p ≡ Below) × (s ≡ at.Inside)
inside_phase s Out e = (cc, cc)
inside_phase s (Pairing j) e = (cc, cc)
inside_phase s (Turning j) e = (cc, cc)
inside_phase s (Noting j) e = (cc, cc)
inside_phase s Raising e = (cc, cc)
inside_phase s Watching e = (cc, cc)
inside_phase s Comparing e = (cc, cc)
inside_phase s Below e = (refl, e)
inside_phase s Leaving e = (cc, cc)

module _ {L : Type 0} (fresh : Boards → L) (after : L → Call → L) (below : L → List Station)
    (begins : AllOut fresh below) (moves : CallsMove fresh after below) where
  -- calls on a new lock lead to l
  abbrev pub Real : Boards → L → Type 0
  Real n l = (cs : List Call) × (l ≡ run after (fresh n) cs)

  pub real_next : (n : Boards) (l : L) (c : Call) → Real n l → Real n (after l c)
  real_next n l c (cs, e) = (cs ++ (c ∷ []), ap (λ x. after x c) e ∙ sym (run_more after (fresh n) cs c))

  pub moved_real : (n : Boards) (l : L) (c : Call) → Real n l → MovesAt fresh after below l c
  moved_real n l c (cs, e) = subst (λ x. MovesAt fresh after below x c) (sym e) (moves n cs c)

  -- the lock below knows n boards
  length_next : (n : Boards) (l : L) (c : Call) → Real n l → length (below (after l c)) ≡ length (below l)
  length_next n l c r =
      elim (cases_Bool (accepted (below l) c)) [
        | inl t ↦ (let v = moved_to (below l) (below (after l c)) c ((moved_real n l c r).1 t) in ap length v.1 ∙ length-set (below l) (board c - 1) v.0)
        | inr f ↦ ap (λ x. length (below x)) ((moved_real n l c r).0 f)
      ]

  length_run : (n : Boards) (l : L) (cs : List Call) → Real n l → length (below l) ≡ n.count → length (below (run after l cs)) ≡ n.count
  length_run n l [] r e = e
  length_run n l (c ∷ cs) r e = length_run n (after l c) cs (real_next n l c r) (length_next n l c r ∙ e)

  pub length_real : (n : Boards) (l : L) → Real n l → length (below l) ≡ n.count
  length_real n l (cs, e) =
      ap (λ x. length (below x)) e ∙ length_run n (fresh n) cs ([], refl) (ap length (begins n) ∙ length-replicate n.count at.Out)

  -- what holds of every layer for n boards that calls on a new one lead to
  pub record Good (n : Boards) (q : Queue L) : Type 0 where
    pub real : Real n q.below
    pub doors_of : q.doors.boards ≡ n
    pub rows_of : q.rows.boards ≡ n
    pub doors_long : length q.doors.records ≡ most
    pub rows_long : length q.rows.records ≡ most
    pub fit : (b : ℕ) → There below q b → Fit n.count b (stations.at (below q.below) b) (door_at q b).y (door_at q b).phase (row_at q b)

  pub count_doors : (n : Boards) (q : Queue L) → Good n q → length (listed q.doors) ≡ n.count
  count_doors n q g = listed_length q.doors g.doors_long ∙ ap (λ m. m.count) g.doors_of

  pub count_rows : (n : Boards) (q : Queue L) → Good n q → length (listed q.rows) ≡ n.count
  count_rows n q g = listed_length q.rows g.rows_long ∙ ap (λ m. m.count) g.rows_of

  pub moved_below : (n : Boards) (q : Queue L) (o : Option Call) → Good n q → MovedBelow after below fresh q.below o
  moved_below n q None g = tt
  moved_below n q (Some d) g = moved_real n q.below d g.real

  pub known_below : (n : Boards) (q : Queue L) (b : ℕ) → Good n q → There below q b → b ≤ length (below q.below)
  known_below n q b g h = let a = count_doors n q g in let c = length_real n q.below g.real in let k = h.1 in omega arith

  module _ (n : Boards) (q : Queue L) (g : Good n q) (c : Call) (h : There below q (board c)) where
    row_within : board c ≤ length (listed q.rows)
    row_within = let a = count_doors n q g in let d = count_rows n q g in let k = h.1 in omega arith

    pub row_done : row_at (done after below q c) (board c) ≡ next_row below q c
    row_done = ap row_there (asked_same q.rows (board c) (next_row below q c) low_row h.0 row_within)

    pub row_other : (j : ℕ) → (j ≢ board c) → row_at (done after below q c) j ≡ row_at q j
    row_other j ne = ap row_there (asked_other q.rows (board c) j (next_row below q c) low_row h.0 row_within ne)

    -- where the named board fits, every board fits
    pub done_good : Fit n.count (board c) (stations.at (below (passed_on after below q.below (sent below q c))) (board c)) (next_door below q c).y (next_door below q c).phase (next_row below q c)
        → Good n (done after below q c)
    done_good f = record {
      real = passes (sent below q c);
      doors_of = written_boards q.doors (board c) (next_door below q c) h.0 h.1 ∙ g.doors_of;
      rows_of = written_boards q.rows (board c) (next_row below q c) h.0 row_within ∙ g.rows_of;
      doors_long = written_long q.doors (board c) (next_door below q c) h.0 h.1 ∙ g.doors_long;
      rows_long = written_long q.rows (board c) (next_row below q c) h.0 row_within ∙ g.rows_long;
      fit = each;
    }
      where
        passes : (o : Option Call) → Real n (passed_on after below q.below o)
        passes None = g.real
        passes (Some d) = real_next n q.below d g.real

        each : (j : ℕ) → There below (done after below q c) j → Fit n.count j (stations.at (below (done after below q c).below) j) (door_at (done after below q c) j).y (door_at (done after below q c) j).phase (row_at (done after below q c) j)
        each j w =
            let v = was_there fresh after below q c h j w in
            elim (cases_eq j (board c)) [
              | inl same ↦ subst (λ i. Fit n.count i (stations.at (below (done after below q c).below) i) (door_at (done after below q c) i).y (door_at (done after below q c) i).phase (row_at (done after below q c) i)) (sym same)
                  (subst (λ d. Fit n.count (board c) (stations.at (below (done after below q c).below) (board c)) d.y d.phase (row_at (done after below q c) (board c))) (sym (door_done fresh after below q c h))
                  (subst (λ r. Fit n.count (board c) (stations.at (below (done after below q c).below) (board c)) (next_door below q c).y (next_door below q c).phase r) (sym row_done) f))
              | inr ne ↦
                  subst (λ s. Fit n.count j s (door_at (done after below q c) j).y (door_at (done after below q c) j).phase (row_at (done after below q c) j))
                  (sym (others_below fresh after below q.below (sent below q c) (board c) j (moved_below n q (sent below q c) g) (sent_board fresh after below q c) w.0 ne))
                  (subst (λ d. Fit n.count j (stations.at (below q.below) j) d.y d.phase (row_at (done after below q c) j)) (sym (door_other fresh after below q c h j v ne))
                  (subst (λ r. Fit n.count j (stations.at (below q.below) j) (door_at q j).y (door_at q j).phase r) (sym (row_other j ne)) (g.fit j v)))
            ]

  -- what an accepted call makes of its board fits
  pub next_fit : (n : Boards) (q : Queue L) (c : Call) → Good n q → accepted (shown below q) c ≡ true
      → Fit n.count (board c) (stations.at (below (passed_on after below q.below (sent below q c))) (board c)) (next_door below q c).y (next_door below q c).phase (next_row below q c)
  next_fit n q (Start b) g acc =
      let h = call_there fresh after below q (Start b) acc in
      let f = g.fit b h in
      let s = start_accepted (shown below q) b acc in
      let p = is_it (out_phase (stations.at (below q.below) b) (door_at q b).phase (sym (at_shown below q b h) ∙ s.2)) f.below in
      let f' = subst (λ x. Fit n.count b (stations.at (below q.below) b) (door_at q b).y x (row_at q b)) p f in
      subst (λ m. Fit n.count b (stations.at (below q.below) b) (door_at q b).y (pairing m.count b (other_after m.count b 0)) (row_at q b)) (sym g.doors_of)
      (pairing_fit n.count b 0 (stations.at (below q.below) b) (door_at q b).y (row_at q b) f'.below f'.line (λ k. f'.rests k refl) f'.wide)
    where
      is_it : ((door_at q b).phase ≡ Out) ⊎ (((door_at q b).phase ≡ Below) × (stations.at (below q.below) b ≡ at.Out)) → fits_below (door_at q b).phase (stations.at (below q.below) b) ≡ true → (door_at q b).phase ≡ Out
      is_it (inl e) k = e
      is_it (inr w) k = never (sym (ap (λ x. fits_below x (stations.at (below q.below) b)) w.0 ∙ ap engaged w.1) ∙ k)
  next_fit n q (Step b bit) g acc =
      let h = call_there fresh after below q (Step b bit) acc in
      subst (λ m. Fit n.count b (stations.at (below (passed_on after below q.below (sent below q (Step b bit)))) b)
      (door_step m.count b (row_at q b) (seen q b bit (door_at q b).notes (door_at q b).phase) (out_below below q b) (door_at q b).y (door_at q b).notes (door_at q b).phase).y
      (door_step m.count b (row_at q b) (seen q b bit (door_at q b).notes (door_at q b).phase) (out_below below q b) (door_at q b).y (door_at q b).notes (door_at q b).phase).phase
      (next_row below q (Step b bit))) (sym g.doors_of)
      (step_fit fresh after below q.below n.count b bit (row_at q b) (seen q b bit (door_at q b).notes (door_at q b).phase) (out_below below q b) (door_at q b).y (door_at q b).notes (door_at q b).phase
      n.few h.0 (known_below n q b g h) refl (moved_below n q (sent below q (Step b bit)) g) (g.fit b h))
  next_fit n q (Leave b) g acc =
      let h = call_there fresh after below q (Leave b) acc in
      let f = g.fit b h in
      let s = leave_accepted (shown below q) b acc in
      let i = inside_phase (stations.at (below q.below) b) (door_at q b).phase (sym (at_shown below q b h) ∙ s.2) in
      let f' = subst (λ x. Fit n.count b (stations.at (below q.below) b) (door_at q b).y x (row_at q b)) i.0 f in
      let known = known_below n q b g h in
      let k = among_from (length (below q.below)) b h.0 known in
      let ok : accepted (below q.below) (Leave b) ≡ true = accepts (stations.at (below q.below) b) i.1 k in
      record {
        below = ap going (ap (λ ss. stations.at ss b) ((moved_real n q.below (Leave b) g.real).1 ok) ∙ (stands_with (below q.below) b at.Leaving h.0 known).2);
        line = stays (door_at q b).y f'.line;
        named = refl;
        rests = λ j x. never (sym x);
        wide = f.wide;
        single = f.single;
      }
    where
      accepts : (t : Station) → t ≡ at.Inside → among (length (below q.below)) b ≡ true → is_ok (cond (among (length (below q.below)) b) (leave_at t) (Err NoSuchBoard)) ≡ true
      accepts t e k = rw (k, e)

      stays : (y : Line) → high y ≡ true → not (rising y) ≡ true
      stays Low e = never e
      stays Rising e = never e
      stays High e = refl
      stays Falling e = never e
  next_fit n q (Pull b) g acc =
      let h = call_there fresh after below q (Pull b) acc in
      let known = known_below n q b g h in
      pull_fit fresh after below q.below n.count b (accepted (below q.below) (Pull b)) (door_at q b).y (door_at q b).phase (row_at q b) h.0 known refl
      (moved_below n q (sent below q (Pull b)) g) (g.fit b h) (λ e. accepts (stations.at (below q.below) b) e (among_from (length (below q.below)) b h.0 known))
    where
      engages : (t : Station) → going t ≡ false → is_ok (pull_at t) ≡ true
      engages at.Out e = never (sym e)
      engages at.Trying e = refl
      engages at.Inside e = refl
      engages at.Leaving e = never (sym e)

      accepts : (t : Station) → going t ≡ false → among (length (below q.below)) b ≡ true → is_ok (cond (among (length (below q.below)) b) (pull_at t) (Err NoSuchBoard)) ≡ true
      accepts t e k = rw k (engages t e)

  pub next_good : (n : Boards) (q : Queue L) (c : Call) → Good n q → accepted (shown below q) c ≡ true → Good n (queue_after after below q c)
  next_good n q c g acc =
      subst (Good n) (sym (took fresh after below q c acc)) (done_good n q g c (call_there fresh after below q c acc) (next_fit n q c g acc))

  -- a new layer
  shown_new : (ss : List Station) (b k : ℕ) → shown_from ss b (replicate k (door Low Out none)) ≡ replicate k at.Out
  shown_new ss b zero = refl
  shown_new ss b (suc k) = ap (λ xs. at.Out ∷ xs) (shown_new ss (b + 1) k)

  pub all_out : AllOut (new_queue fresh) (shown below)
  all_out n = ap (shown_from (below (fresh n)) 1) (take-replicate n.count most (door Low Out none) n.few) ∙ shown_new (below (fresh n)) 1 n.count

  new_door : (n : Boards) (b : ℕ) → door_at (new_queue fresh n) b ≡ door Low Out none
  new_door n b = go (kept_for (new_queue fresh n).doors b)
    where
      go : (t : Bool) → door_of (cond t (Ok (slice_index_or (listed (new_queue fresh n).doors) (b - 1) (door Low Out none))) (Err NoSuchBoard)) ≡ door Low Out none
      go true = ap (λ xs. get_or xs (b - 1) (door Low Out none)) (take-replicate n.count most (door Low Out none) n.few) ∙ replicate_at (door Low Out none) n.count (b - 1)
      go false = refl

  new_row : (n : Boards) (b : ℕ) → row_at (new_queue fresh n) b ≡ low_row
  new_row n b = go (kept_for (new_queue fresh n).rows b)
    where
      go : (t : Bool) → row_there (cond t (Ok (slice_index_or (listed (new_queue fresh n).rows) (b - 1) low_row)) (Err NoSuchBoard)) ≡ low_row
      go true = ap (λ xs. get_or xs (b - 1) low_row) (take-replicate n.count most low_row n.few) ∙ replicate_at low_row n.count (b - 1)
      go false = refl

  pub low_rests : (k : ℕ) → moving (z_of low_row k) ≡ false
  low_rests k = go (place_of k)
    where
      go : (o : Option ℕ) → moving (line_at (replicate most Low) o) ≡ false
      go None = refl
      go (Some i) = ap moving (replicate_at Low most i)

  pub new_good : (n : Boards) → Good n (new_queue fresh n)
  new_good n = record {
    real = ([], refl);
    doors_of = refl;
    rows_of = refl;
    doors_long = length-replicate most (door Low Out none);
    rows_long = length-replicate most low_row;
    fit = λ b h.
        subst (λ d. Fit n.count b (stations.at (below (fresh n)) b) d.y d.phase (row_at (new_queue fresh n) b)) (sym (new_door n b))
        (subst (λ r. Fit n.count b (stations.at (below (fresh n)) b) Low Out r) (sym (new_row n b))
        (record {
          below = ap is_out (ap (λ ss. stations.at ss b) (begins n) ∙ replicate_at at.Out n.count (b - 1));
          line = refl;
          named = refl;
          rests = λ k _. low_rests k;
          wide = length-replicate most Low;
          single = λ i k p q. absurd (true≢false (moving (z_of low_row i)) p (low_rests i));
        }));
  }

  pub calls : Calls (new_queue fresh) (queue_after after below) (shown below) Good
  calls = record {
    new = all_out;
    first = new_good;
    next = next_good;
    moved = λ n q c g. moves_at fresh after below (new_queue fresh) q c (moved_below n q (sent below q c) g);
  }
