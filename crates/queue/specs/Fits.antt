-- What the lines, the phase and the station below of one board have to do with each other, and that each call keeps it.
use Rattle.std.specs.Prelude.{◌≡◌, ℕ, ◌-◌, ◌<◌, ◌≤◌, Bool, true, false, cond, not, ◌&&◌, ◌||◌, ◌≢◌, ◌⊎◌, List, map, length, Some, None, Option, ◌==◌, slice_index_or, refl}
use Rattle.std.proofs.Common.{sym, ap, ◌∙◌, inl, inr, arith}
use Rattle.std.proofs.lemmas.Bool.{cases_eq, eq-eqb, ne_eqb, and_parts, cases_lt}
use Rattle.std.proofs.lemmas.List.{length-set, length-map, get_or-map, get_or-set_same, get_or-set_other, get_or_past}
use Rattle.line.specs.declared.Level.{Level}
use Rattle.line.specs.declared.Level.TheVariants as to
use Rattle.line.specs.declared.Line.{Line}
use Rattle.line.specs.declared.Line.TheVariants.{Low, Rising, High, Falling}
use Rattle.line.specs.Rule.{begun, ended, moving, heading, high, low, rising, opposite}
use Rattle.lock.specs.declared.boards.Boards.{Boards}
use Rattle.lock.specs.declared.station.Call.{Call}
use Rattle.lock.specs.declared.station.Call.TheVariants.{Start, Step, Pull}
use Rattle.lock.specs.declared.station.Station.{Station}
use Rattle.lock.specs.declared.station.Station.TheVariants as at
use Rattle.lock.specs.Most.{most}
use Rattle.lock.specs.Others.{other_after}
use Rattle.lock.specs.Runs.{MovesAt}
use Rattle.lock.specs.Stations.{among, accepted, place_of}
use Rattle.lock.specs.Stations as stations
use Rattle.lock.proofs.OtherBoards.{NextOther, Found, other_found}
use Rattle.lock.proofs.Stations.{among_from, from_among, start_accepted, stands_with, true≢false}
use Rattle.queue.specs.declared.state.Phase.{Phase}
use Rattle.queue.specs.declared.state.Phase.TheVariants.{Out, Pairing, Turning, Noting, Raising, Watching, Comparing, Below, Leaving}
use Rattle.queue.specs.declared.state.Row.{Row}
use Rattle.queue.specs.Rule.{lowest, noting, pairing, paired, turned_on, favours, line_at, put_at, z_of, half_turned, turned, settled, watched, compared, door_step, row_step, sent_step, started, passed_on, MovedBelow}
use Rattle.queue.specs.Lines.{OneMoves}
use Rattle.queue.specs.Moves.{step_below}

pub never : {P : Type 0} → false ≡ true → P
never e = absurd (true≢false false e refl)

-- the station is out; trying or inside; leaving or out
abbrev pub is_out : Station → Bool
is_out at.Out = true
is_out at.Trying = false
is_out at.Inside = false
is_out at.Leaving = false

abbrev pub engaged : Station → Bool
engaged at.Out = false
engaged at.Trying = true
engaged at.Inside = true
engaged at.Leaving = false

abbrev pub going : Station → Bool
going at.Out = true
going at.Trying = false
going at.Inside = false
going at.Leaving = true

pub out_station : (s : Station) → is_out s ≡ true → s ≡ at.Out
out_station at.Out h = refl
out_station at.Trying h = never h
out_station at.Inside h = never h
out_station at.Leaving h = never h

-- which stations below go with which phase
abbrev pub fits_below : Phase → Station → Bool
fits_below Out s = is_out s
fits_below (Pairing j) s = is_out s
fits_below (Turning j) s = is_out s
fits_below (Noting j) s = is_out s
fits_below Raising s = is_out s
fits_below Watching s = is_out s
fits_below Comparing s = is_out s
fits_below Below s = engaged s
fits_below Leaving s = going s

-- which y goes with which phase
abbrev pub fits_y : Phase → Line → Bool
fits_y Out y = low y
fits_y (Pairing j) y = low y
fits_y (Turning j) y = low y
fits_y (Noting j) y = low y
fits_y Raising y = low y || rising y
fits_y Watching y = high y
fits_y Comparing y = high y
fits_y Below y = high y
fits_y Leaving y = not (rising y)

pulled_line : (y : Line) → not (rising (begun y to.Low)) ≡ true
pulled_line Low = refl
pulled_line Rising = refl
pulled_line High = refl
pulled_line Falling = refl

-- a phase of the doorway names another board
abbrev pub other : ℕ → ℕ → ℕ → Bool
other n b j = among n j && not (j == b)

abbrev pub names : ℕ → ℕ → Phase → Bool
names n b Out = true
names n b (Pairing j) = other n b j
names n b (Turning j) = other n b j
names n b (Noting j) = other n b j
names n b Raising = true
names n b Watching = true
names n b Comparing = true
names n b Below = true
names n b Leaving = true

-- a z line of a board may be in change only while it is changed, or after a pull
abbrev pub may_move : Phase → ℕ → Bool
may_move Out k = false
may_move (Pairing j) k = false
may_move (Turning j) k = j == k
may_move (Noting j) k = false
may_move Raising k = false
may_move Watching k = false
may_move Comparing k = false
may_move Below k = false
may_move Leaving k = true

abbrev pub Rests : Phase → Row → Type 0
Rests p r = (k : ℕ) → may_move p k ≡ false → moving (z_of r k) ≡ false

-- where all z lines rest, none moves
none_moves : (r : Row) → ((k : ℕ) → moving (z_of r k) ≡ false) → OneMoves r
none_moves r rest i k p q = absurd (true≢false (moving (z_of r i)) p (rest i))

-- board b of n: its station below, its y and its phase, and its row
pub record Fit (n b : ℕ) (s : Station) (y : Line) (p : Phase) (r : Row) : Type 0 where
  pub below : fits_below p s ≡ true
  pub line : fits_y p y ≡ true
  pub named : names n b p ≡ true
  pub rests : Rests p r
  pub wide : length r.z ≡ most
  pub single : OneMoves r

-- the phases of the doorway
pub other_names : (n b j k : ℕ) → NextOther n b j k → other n b k ≡ true
other_names n b j k f =
    let lt = f.0 in let le = f.1 in
    let a = among_from n k (omega arith) le in
    let e = ne_eqb k b f.2 in rw (a, e)

noting_names : (n b j : ℕ) → names n b (noting (other_after n b j)) ≡ true
noting_names n b j = go (other_after n b j) (other_found n b j)
  where
    go : (o : Option ℕ) → Found n b j o → names n b (noting o) ≡ true
    go (Some k) f = other_names n b j k f
    go None f = refl

pairing_names : (n b j : ℕ) → names n b (pairing n b (other_after n b j)) ≡ true
pairing_names n b j = go (other_after n b j) (other_found n b j)
  where
    go : (o : Option ℕ) → Found n b j o → names n b (pairing n b o) ≡ true
    go (Some k) f = other_names n b j k f
    go None f = noting_names n b 0

noting_line : (y : Line) (o : Option ℕ) → low y ≡ true → fits_y (noting o) y ≡ true
noting_line Low (Some k) h = refl
noting_line Low None h = refl
noting_line Rising o h = never h
noting_line High o h = never h
noting_line Falling o h = never h

pairing_line : (y : Line) (n b : ℕ) (o : Option ℕ) → low y ≡ true → fits_y (pairing n b o) y ≡ true
pairing_line y n b (Some k) h = h
pairing_line y n b None h = noting_line y (other_after n b 0) h

noting_below : (s : Station) (o : Option ℕ) → is_out s ≡ true → fits_below (noting o) s ≡ true
noting_below s (Some k) h = h
noting_below s None h = h

pairing_below : (s : Station) (n b : ℕ) (o : Option ℕ) → is_out s ≡ true → fits_below (pairing n b o) s ≡ true
pairing_below s n b (Some k) h = h
pairing_below s n b None h = noting_below s (other_after n b 0) h

noting_rests : (o : Option ℕ) (r : Row) → ((k : ℕ) → moving (z_of r k) ≡ false) → Rests (noting o) r
noting_rests (Some j) r h k e = h k
noting_rests None r h k e = h k

pairing_rests : (n b : ℕ) (o : Option ℕ) (r : Row) → ((k : ℕ) → moving (z_of r k) ≡ false) → Rests (pairing n b o) r
pairing_rests n b (Some j) r h k e = h k
pairing_rests n b None r h k e = noting_rests (other_after n b 0) r h k e

-- a board at the pairs of its doorway, all its z lines at rest
pub pairing_fit : (n b j : ℕ) (s : Station) (y : Line) (r : Row) → is_out s ≡ true → low y ≡ true → ((k : ℕ) → moving (z_of r k) ≡ false) → length r.z ≡ most
    → Fit n b s y (pairing n b (other_after n b j)) r
pairing_fit n b j s y r out l rest wide = record {
  below = pairing_below s n b (other_after n b j) out;
  line = pairing_line y n b (other_after n b j) l;
  named = pairing_names n b j;
  rests = pairing_rests n b (other_after n b j) r rest;
  wide = wide;
  single = none_moves r rest;
}

-- the z line for j after a writing at the place of i
put_same : (zs : List Line) (o : Option ℕ) (x : Line) → ((i : ℕ) → o ≡ Some i → i < length zs) → (o ≢ None) → line_at (put_at zs o x) o ≡ x
put_same zs (Some i) x h some = get_or-set_same zs i x Low (h i refl)
put_same zs None x h some = absurd (some refl)

put_other : (zs : List Line) (i k : ℕ) (x : Line) → (i ≢ k) → line_at (put_at zs (place_of i) x) (place_of k) ≡ line_at zs (place_of k)
put_other zs i k x ne = go (among most i) refl (among most k) refl
  where
    go : (t : Bool) → among most i ≡ t → (u : Bool) → among most k ≡ u
        → line_at (put_at zs (cond t (Some (i - 1)) None) x) (cond u (Some (k - 1)) None) ≡ line_at zs (cond u (Some (k - 1)) None)
    go true p true q =
        let a = from_among most i p in let c = from_among most k q in
        let low_i = a.0 in let low_k = c.0 in
        let ne' : k - 1 ≢ i - 1 = λ e. ne (omega arith) in get_or-set_other zs (i - 1) (k - 1) x Low ne'
    go true p false q = refl
    go false p u q = refl

place_within : (j : ℕ) → among most j ≡ true → (i : ℕ) → place_of j ≡ Some i → i < most
place_within j a i e =
    let h = from_among most j a in let low_j = h.0 in let high_j = h.1 in
    let same : Some (j - 1) ≡ Some i = sym (ap (λ t. cond t (Some (j - 1)) None) a) ∙ e in
    let eq : j - 1 ≡ i = cc in omega arith

place_some : (j : ℕ) → among most j ≡ true → place_of j ≢ None
place_some j a e =
    let same : Some (j - 1) ≡ None = sym (ap (λ t. cond t (Some (j - 1)) None) a) ∙ e in
    let z : ◌≡◌ {A = ℕ} 0 1 = cc in omega arith

pub turned_here : (r : Row) (j : ℕ) → among most j ≡ true → length r.z ≡ most → z_of (turned r j) j ≡ half_turned (z_of r j)
turned_here r j a wide = put_same r.z (place_of j) (half_turned (z_of r j)) (λ i e. let lt = place_within j a i e in omega arith) (place_some j a)

pub turned_other : (r : Row) (j k : ℕ) → (j ≢ k) → z_of (turned r j) k ≡ z_of r k
turned_other r j k ne = put_other r.z j k (half_turned (z_of r j)) ne

turned_wide : (r : Row) (j : ℕ) → length (turned r j).z ≡ length r.z
turned_wide r j = go (place_of j)
  where
    go : (o : Option ℕ) → length (put_at r.z o (half_turned (z_of r j))) ≡ length r.z
    go None = refl
    go (Some i) = length-set r.z i (half_turned (z_of r j))

rest_ends : (z : Line) → moving (ended z) ≡ false
rest_ends Low = refl
rest_ends Rising = refl
rest_ends High = refl
rest_ends Falling = refl

settled_rests : (r : Row) (k : ℕ) → moving (z_of (settled r) k) ≡ false
settled_rests r k = go (place_of k)
  where
    at_place : (zs : List Line) (i : ℕ) → moving (slice_index_or (map ended zs) i Low) ≡ false
    at_place zs i =
        elim (cases_lt i (length zs)) [
          | inl lt ↦ ap moving (get_or-map ended zs i Low Low lt) ∙ rest_ends (slice_index_or zs i Low)
          | inr le ↦ (let len = length-map zs ended in ap moving (get_or_past (map ended zs) i Low (omega arith)))
        ]

    go : (o : Option ℕ) → moving (line_at (map ended r.z) o) ≡ false
    go None = refl
    go (Some i) = at_place r.z i

-- a board's own step: s is its station below before the step and t after it
abbrev pub StepsBelow : Station → Station → Type 0
StepsBelow s t = (t ≡ s) ⊎ (((s ≡ at.Trying) × (t ≡ at.Inside)) ⊎ ((s ≡ at.Leaving) × (t ≡ at.Out)))

stays_engaged : (s t : Station) → engaged s ≡ true → StepsBelow s t → engaged t ≡ true
stays_engaged s t h (inl e) = ap engaged e ∙ h
stays_engaged s t h (inr (inl w)) = ap engaged w.1
stays_engaged s t h (inr (inr w)) = never (sym (ap engaged w.0) ∙ h)

stays_going : (s t : Station) → going s ≡ true → StepsBelow s t → going t ≡ true
stays_going s t h (inl e) = ap going e ∙ h
stays_going s t h (inr (inl w)) = never (sym (ap going w.0) ∙ h)
stays_going s t h (inr (inr w)) = ap going w.1

turning_fit : (n b j : ℕ) (s : Station) (y : Line) (r : Row) → n ≤ most → Fit n b s y (Turning j) r → (t : Bool) → moving (z_of r j) ≡ t
    → Fit n b s y (turned_on n b j t) (turned r j)
turning_fit n b j s y r few f true e =
    pairing_fit n b j s y (turned r j) f.below f.line rest (turned_wide r j ∙ f.wide)
  where
    here : among most j ≡ true
    here = let a = from_among n j (and_parts (among n j) (not (j == b)) f.named).0 in let p = a.1 in among_from most j a.0 (omega arith)

    rest : (k : ℕ) → moving (z_of (turned r j) k) ≡ false
    rest k =
        elim (cases_eq j k) [
          | inl same ↦ ap (λ i. moving (z_of (turned r j) i)) (sym same) ∙ ap moving (turned_here r j here f.wide) ∙ ap (λ t. moving (cond t (ended (z_of r j)) (begun (z_of r j) (opposite (heading (z_of r j)))))) e ∙ rest_ends (z_of r j)
          | inr ne ↦ ap moving (turned_other r j k ne) ∙ f.rests k (ne_eqb j k ne)
        ]
turning_fit n b j s y r few f false e = record {
  below = f.below;
  line = f.line;
  named = f.named;
  rests = λ k m. elim (cases_eq j k) [
    | inl same ↦ never (sym m ∙ eq-eqb j k same)
    | inr ne ↦ ap moving (turned_other r j k ne) ∙ f.rests k m
  ];
  wide = turned_wide r j ∙ f.wide;
  single = λ i k p q. sym (turns i p) ∙ turns k q;
}
  where
    turns : (i : ℕ) → moving (z_of (turned r j) i) ≡ true → j ≡ i
    turns i p =
        elim (cases_eq j i) [
          | inl same ↦ same
          | inr ne ↦ absurd (true≢false (moving (z_of (turned r j) i)) p (ap moving (turned_other r j i ne) ∙ f.rests i (ne_eqb j i ne)))
        ]

module _ {L : Type 0} (fresh : Boards → L) (after : L → Call → L) (below : L → List Station) where
  -- a step below, as far as it concerns the board itself
  pub steps_below : (l : L) (b : ℕ) (bit : Bool) → MovesAt fresh after below l (Step b bit) → StepsBelow (stations.at (below l) b) (stations.at (below (after l (Step b bit))) b)
  steps_below l b bit m =
      elim (step_below fresh after below l b bit m) [
        | inl e ↦ inl e
        | inr (inl w) ↦ inr (inl (w.0, w.1))
        | inr (inr w) ↦ inr (inr w)
      ]

  -- a board that is out below can be started there
  pub can_start : (l : L) (b : ℕ) → 1 ≤ b → b ≤ length (below l) → stations.at (below l) b ≡ at.Out → accepted (below l) (Start b) ≡ true
  can_start l b p q e = let k = among_from (length (below l)) b p q in rw (k, e)

  -- the fit after a step of board b, which is one of those that the lock below knows
  pub step_fit : (l : L) (n b : ℕ) (bit : Bool) (r : Row) (level : Level) (out : Bool) (y : Line) (notes : List Bool) (p : Phase) → n ≤ most
      → 1 ≤ b → b ≤ length (below l) → accepted (below l) (Start b) ≡ out → MovedBelow after below fresh l (sent_step b bit out notes p)
      → Fit n b (stations.at (below l) b) y p r
      → Fit n b (stations.at (below (passed_on after below l (sent_step b bit out notes p))) b)
      (door_step n b r level out y notes p).y (door_step n b r level out y notes p).phase (row_step r out y p)
  step_fit l n b bit r level out y notes Out few p1 p2 e m f = f
  step_fit l n b bit r level out y notes (Pairing j) few p1 p2 e m f = go (favours b (heading (z_of r j)) j level)
    where
      go : (t : Bool) → Fit n b (stations.at (below l) b) y (paired n b j t) r
      go true = record { below = f.below; line = f.line; named = f.named; rests = λ k _. f.rests k refl; wide = f.wide; single = f.single }
      go false = pairing_fit n b j (stations.at (below l) b) y r f.below f.line (λ k. f.rests k refl) f.wide
  step_fit l n b bit r level out y notes (Turning j) few p1 p2 e m f = turning_fit n b j (stations.at (below l) b) y r few f (moving (z_of r j)) refl
  step_fit l n b bit r level out y notes (Noting j) few p1 p2 e m f = record {
    below = noting_below (stations.at (below l) b) (other_after n b j) f.below;
    line = noting_line y (other_after n b j) f.line;
    named = noting_names n b j;
    rests = noting_rests (other_after n b j) r (λ k. f.rests k refl);
    wide = f.wide;
    single = f.single;
  }
  step_fit l n b bit r level out Low notes Raising few p1 p2 e m f = record { below = f.below; line = refl; named = refl; rests = f.rests; wide = f.wide; single = f.single }
  step_fit l n b bit r level out Rising notes Raising few p1 p2 e m f = record { below = f.below; line = refl; named = refl; rests = f.rests; wide = f.wide; single = f.single }
  step_fit l n b bit r level out High notes Raising few p1 p2 e m f = never f.line
  step_fit l n b bit r level out Falling notes Raising few p1 p2 e m f = never f.line
  step_fit l n b bit r level out y notes Watching few p1 p2 e m f = go (lowest notes) level m
    where
      starts : (t : Bool) → accepted (below l) (Start b) ≡ t → MovesAt fresh after below l (Start b)
          → Fit n b (stations.at (below (after l (Start b))) b) y (cond t Below Watching) r
      starts true h k =
          let tries : stations.at (below (after l (Start b))) b ≡ at.Trying = ap (λ ss. stations.at ss b) (k.1 h) ∙ (stands_with (below l) b at.Trying p1 p2).2 in
          record { below = ap engaged tries; line = f.line; named = refl; rests = f.rests; wide = f.wide; single = f.single }
      starts false h k = absurd (true≢false _ (can_start l b p1 p2 (out_station _ f.below)) h)

      go : (o : Option ℕ) (v : Level) → MovedBelow after below fresh l (started b o)
          → Fit n b (stations.at (below (passed_on after below l (started b o))) b) (watched y notes out v o).y (watched y notes out v o).phase r
      go None v k = starts out e k
      go (Some j) to.Low k = record { below = f.below; line = f.line; named = refl; rests = f.rests; wide = f.wide; single = f.single }
      go (Some j) to.High k = record { below = f.below; line = f.line; named = refl; rests = f.rests; wide = f.wide; single = f.single }
  step_fit l n b bit r level out y notes Comparing few p1 p2 e m f = go (lowest notes)
    where
      go : (o : Option ℕ) → Fit n b (stations.at (below l) b) (compared b r level y notes o).y (compared b r level y notes o).phase r
      go None = record { below = f.below; line = f.line; named = refl; rests = f.rests; wide = f.wide; single = f.single }
      go (Some j) = record { below = f.below; line = f.line; named = refl; rests = f.rests; wide = f.wide; single = f.single }
  step_fit l n b bit r level out y notes Below few p1 p2 e m f = record {
    below = stays_engaged (stations.at (below l) b) _ f.below (steps_below l b bit m);
    line = f.line;
    named = refl;
    rests = f.rests;
    wide = f.wide;
    single = f.single;
  }
  step_fit l n b bit r level true Low notes Leaving few p1 p2 e m f = record { below = ap is_out (start_accepted (below l) b e).2; line = refl; named = refl; rests = λ k _. settled_rests r k; wide = length-map r.z ended ∙ f.wide; single = none_moves (settled r) (settled_rests r) }
  step_fit l n b bit r level true Rising notes Leaving few p1 p2 e m f = never f.line
  step_fit l n b bit r level true High notes Leaving few p1 p2 e m f = record { below = f.below; line = refl; named = refl; rests = λ k x. never (sym x); wide = f.wide; single = f.single }
  step_fit l n b bit r level true Falling notes Leaving few p1 p2 e m f = record { below = ap is_out (start_accepted (below l) b e).2; line = refl; named = refl; rests = λ k _. settled_rests r k; wide = length-map r.z ended ∙ f.wide; single = none_moves (settled r) (settled_rests r) }
  step_fit l n b bit r level false y notes Leaving few p1 p2 e m f = record {
    below = stays_going (stations.at (below l) b) _ f.below (steps_below l b bit m);
    line = f.line;
    named = refl;
    rests = λ k x. never (sym x);
    wide = f.wide;
    single = f.single;
  }

  -- the fit after a pull
  pub pull_fit : (l : L) (n b : ℕ) (t : Bool) (y : Line) (p : Phase) (r : Row) → 1 ≤ b → b ≤ length (below l) → accepted (below l) (Pull b) ≡ t
      → MovedBelow after below fresh l (cond t (Some (Pull b)) None) → Fit n b (stations.at (below l) b) y p r → (going (stations.at (below l) b) ≡ false → t ≡ true)
      → Fit n b (stations.at (below (passed_on after below l (cond t (Some (Pull b)) None))) b) (begun y to.Low) Leaving r
  pull_fit l n b true y p r p1 p2 e m f g = record {
    below = ap going (ap (λ ss. stations.at ss b) (m.1 e) ∙ (stands_with (below l) b at.Leaving p1 p2).2);
    line = pulled_line y;
    named = refl;
    rests = λ k x. never (sym x);
    wide = f.wide;
    single = f.single;
  }
  pull_fit l n b false y p r p1 p2 e m f g = record {
    below = still (going (stations.at (below l) b)) refl;
    line = pulled_line y;
    named = refl;
    rests = λ k x. never (sym x);
    wide = f.wide;
    single = f.single;
  }
    where
      still : (t : Bool) → going (stations.at (below l) b) ≡ t → t ≡ true
      still true h = refl
      still false h = never (g h)
