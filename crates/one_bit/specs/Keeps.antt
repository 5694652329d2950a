-- The one-bit lock keeps the meaning of a lock.
use Rattle.std.specs.Prelude.{◌≡◌, ℕ, ◌+◌, ◌-◌, ◌<◌, ◌≤◌, Bool, true, false, cond, not, ◌⊎◌, map, length, get_or, replicate, is_ok, Err, ◌==◌, ◌≢◌, nat_lt, refl}
use Rattle.std.proofs.Common.{sym, ap, subst, ◌∙◌, inl, inr, arith}
use lib.LanesLaws.{map-replicate}
use Rattle.std.proofs.lemmas.Bool.{cases_eq, cases_Bool, lt-ltb, eq-eqb, and_parts}
use Rattle.std.proofs.lemmas.List.{take-replicate}
use Rattle.line.specs.declared.Level.{Level}
use Rattle.line.specs.declared.Level.TheVariants as to
use Rattle.line.specs.declared.Line.{Line}
use Rattle.line.specs.declared.Line.TheVariants.{Low}
use Rattle.line.specs.Rule.{begun, ended, moving, reading, high}
use Rattle.lock.specs.declared.boards.Boards.{Boards}
use Rattle.lock.specs.declared.station.Call.{Call}
use Rattle.lock.specs.declared.station.Call.TheVariants.{Start, Step, Leave, Pull}
use Rattle.lock.specs.declared.station.Refusal.TheVariants.{NoSuchBoard}
use Rattle.lock.specs.declared.station.Station.{Station}
use Rattle.lock.specs.declared.station.Station.TheVariants as at
use Rattle.lock.specs.Most.{most}
use Rattle.lock.specs.Stations.{among, start_at, accepted, Stands, NoneElse, StepsTo, Moves}
use Rattle.lock.specs.Stations as stations
use Rattle.lock.specs.Runs.{OthersOut, MovesAt}
use Rattle.lock.specs.Tables.{listed, kept_for}
use Rattle.lock.proofs.Stations.{true≢false, start_accepted, leave_accepted, accepted_step, among_from, from_among, replicate_at}
use Rattle.lock.proofs.Tables.{listed_most}
use Rattle.lock.proofs.Local.{Local}
use Rattle.one_bit.specs.declared.lines.Board.{Board}
use Rattle.one_bit.specs.declared.lines.Lines.{Lines}
use Rattle.one_bit.specs.declared.lines.Place.{Place}
use Rattle.one_bit.specs.declared.lines.Place.TheVariants.{Out, Raising, Reading, Lowering, Awaiting, Inside, Leaving}
use Rattle.one_bit.specs.Rule.{board, fresh, station, shown, seat, put, seen, onward, read_on, wait_on, lowered, stepped, step_of, after, next}
use Rattle.one_bit.specs.Sound.{fits, passed, Raised, Fits, Passed, Apart}
use Rattle.one_bit.specs.Seats.{There, from_shown, shown_length, seat_there, seat_absent, at_seat, stands_seat, seat_stands, still_there, was_there, seat_put, seat_other, shown_put, took, stayed, done_puts, call_there, others_stay, same_boards}
use Rattle.one_bit.specs.Steps.{never, onward_passed, step_way, step_fits, pull_fits, passed_high, out_place, inside_place, leaving_place, out_low, to_go, some_left, nearer, to_low, lower, low_most}

-- flags fit places, and no two boards have passed each other
abbrev pub Sound : Lines → Type 0
Sound l = Fits l × Apart l

-- board b may be at place p: no board that it has then passed has passed it
abbrev Free : Lines → ℕ → Place → Type 0
Free l b p = (j : ℕ) → (j ≢ b) → There l j → passed p j ≡ true → passed (seat l j).place b ≢ true

-- board b becomes x, whose flag fits its place
put_sound : (l : Lines) (b : ℕ) (x : Board) → There l b → Sound l → fits b x.flag x.place ≡ true → Free l b x.place → Sound (put l b x)
put_sound l b x h (fit, apart) own free = (put_fits, put_apart)
  where
    put_fits : Fits (put l b x)
    put_fits j low most =
        let w = was_there l b x h j (low, most) in
        elim (cases_eq j b) [
          | inl same ↦ subst (λ i. fits i (seat (put l b x) i).flag (seat (put l b x) i).place ≡ true) (sym same)
              (subst (λ y. fits b y.flag y.place ≡ true) (sym (seat_put l b x h)) own)
          | inr ne ↦ subst (λ y. fits j y.flag y.place ≡ true) (sym (seat_other l b x h j ne)) (fit j w.0 w.1)
        ]

    -- of a pair with b in it
    pair : (j : ℕ) → (j ≢ b) → Passed (put l b x) b j → Passed (put l b x) j b → ⊥
    pair j ne p q =
        free j ne (was_there l b x h j (q.0, q.1))
        (subst (λ y. passed y.place j ≡ true) (seat_put l b x h) p.2)
        (subst (λ y. passed y.place b ≡ true) (seat_other l b x h j ne) q.2)

    old : (i j : ℕ) → (i ≢ b) → Passed (put l b x) i j → Passed l i j
    old i j ne p = let w = was_there l b x h i (p.0, p.1) in (w.0, w.1, subst (λ y. passed y.place j ≡ true) (seat_other l b x h i ne) p.2)

    put_apart : Apart (put l b x)
    put_apart i j (ne, p, q) =
        elim (cases_eq i b) [
          | inl i_is ↦ pair j (λ e. ne (i_is ∙ sym e)) (subst (λ k. Passed (put l b x) k j) i_is p) (subst (λ k. Passed (put l b x) j k) i_is q)
          | inr i_not ↦ elim (cases_eq j b) [
            | inl j_is ↦ pair i i_not (subst (λ k. Passed (put l b x) k i) j_is q) (subst (λ k. Passed (put l b x) i k) j_is p)
            | inr j_not ↦ apart i j (ne, old i j i_not p, old j i j_not q)
          ]
        ]

module _ (l : Lines) (b : ℕ) (sound : Sound l) (h : There l b) where
  -- a board may stay where it is
  free_here : (p : Place) → (seat l b).place ≡ p → Free l b p
  free_here p e j ne w mine its =
      sound.1 b j (λ s. ne (sym s), (h.0, h.1, subst (λ q. passed q j ≡ true) (sym e) mine), (w.0, w.1, its))

  -- it may go on once it has read j's flag low
  free_on : (j : ℕ) (bit : Bool) → (seat l b).place ≡ Reading j → reading (seat l j).flag bit ≡ to.Low → Free l b (onward l.table.boards.count b j)
  free_on j bit e low i ne w mine its =
      let most = listed_most l.table in let q = w.1 in
      let le = onward_passed l.table.boards.count b j i (omega arith) ne mine in
      elim (cases_eq i j) [
        | inl same ↦ unread (subst (λ k. reading (seat l k).flag bit ≡ to.Low) (sym same) low)
        | inr other ↦ let lt : i < j = omega arith in free_here (Reading j) e i ne w (lt-ltb i j lt) its
      ]
    where
      unread : reading (seat l i).flag bit ≡ to.Low → ⊥
      unread r =
          let f = passed_high i b (seat l i).flag (seat l i).place (sound.0 i w.0 w.1) its in
          let z : to.High ≡ to.Low = sym (ap (λ x. reading x bit) f) ∙ r in
          let o : ◌≡◌ {A = ℕ} 0 1 = cc in omega arith

  free_read : (j : ℕ) (bit : Bool) (level : Level) → (seat l b).place ≡ Reading j → reading (seat l j).flag bit ≡ level
      → Free l b (read_on l.table.boards.count b j level)
  free_read j bit to.Low e r = free_on j bit e r
  free_read j bit to.High e r = go (nat_lt j b)
    where
      go : (t : Bool) → Free l b (cond t (Lowering j) (Reading j))
      go true = λ i ne w mine its. never mine
      go false = free_here (Reading j) e

  free_step : (bit : Bool) (f : Line) (p : Place) → (seat l b).place ≡ p → fits b f p ≡ true
      → Free l b (stepped l.table.boards.count b (seen l bit p) f p).place
  free_step bit f Out e k = λ i ne w mine its. never mine
  free_step bit f Raising e k = go (moving f)
    where
      go : (t : Bool) → Free l b (cond t (board (ended f) (onward l.table.boards.count b 0)) (board (begun f to.High) Raising)).place
      go true i ne w mine its =
          let most = listed_most l.table in let q = w.1 in let low = w.0 in
          let le = onward_passed l.table.boards.count b 0 i (omega arith) ne mine in omega arith
      go false i ne w mine its = never mine
  free_step bit f (Reading j) e k = free_read j bit (reading (seat l j).flag bit) e refl
  free_step bit f (Lowering j) e k = go (moving f)
    where
      go : (t : Bool) → Free l b (cond t (board (ended f) (Awaiting j)) (board (begun f to.Low) (Lowering j))).place
      go true i ne w mine its = never mine
      go false i ne w mine its = never mine
  free_step bit f (Awaiting j) e k = go (reading (seat l j).flag bit)
    where
      go : (level : Level) → Free l b (wait_on j level)
      go to.Low i ne w mine its = never mine
      go to.High i ne w mine its = never mine
  free_step bit f Inside e k = free_here Inside e
  free_step bit f Leaving e k = go (high f)
    where
      go : (t : Bool) → Free l b (cond t (board (begun f to.Low) Leaving) (board (ended f) Out)).place
      go true i ne w mine its = never mine
      go false i ne w mine its = never mine

-- what an accepted call makes of its board fits, and the board may be there
next_fits : (l : Lines) (c : Call) → Sound l → accepted (shown l) c ≡ true
    → (fits (stations.board c) (next l c).flag (next l c).place ≡ true) × Free l (stations.board c) (next l c).place
next_fits l (Start b) sound acc =
    let s = start_accepted (shown l) b acc in let h = from_shown l b at.Out s in
    let e = out_place (seat l b).place (stands_seat l b at.Out s) in
    let f = out_low b (seat l b).flag (subst (λ p. fits b (seat l b).flag p ≡ true) e (sound.0 b h.0 h.1)) in
    (ap (λ x. fits b x Raising) f, λ i ne w mine its. never mine)
next_fits l (Step b bit) sound acc =
    let h = call_there l (Step b bit) acc in
    let k = sound.0 b h.0 h.1 in
    (step_fits _ b (seen l bit (seat l b).place) (seat l b).flag (seat l b).place k, free_step l b sound h bit (seat l b).flag (seat l b).place refl k)
next_fits l (Leave b) sound acc =
    let s = leave_accepted (shown l) b acc in let h = from_shown l b at.Inside s in
    let e = inside_place (seat l b).place (stands_seat l b at.Inside s) in
    let f = passed_high b 0 (seat l b).flag Inside (subst (λ p. fits b (seat l b).flag p ≡ true) e (sound.0 b h.0 h.1)) refl in
    (ap (λ x. fits b x Leaving) f, λ i ne w mine its. never mine)
next_fits l (Pull b) sound acc = (pull_fits b (seat l b).flag, λ i ne w mine its. never mine)

pub after_sound : (l : Lines) (c : Call) → Sound l → Sound (after l c)
after_sound l c sound =
    elim (cases_Bool (accepted (shown l) c)) [
      | inl t ↦
          let k = next_fits l c sound t in
          subst Sound (sym (took l c t ∙ done_puts l c)) (put_sound l (stations.board c) (next l c) (call_there l c t) sound k.0 k.1)
      | inr f ↦ subst Sound (sym (stayed l c f)) sound
    ]

-- no board is inside with its flag low or in change
pub raised : (l : Lines) → Fits l → Raised l
raised l fit b s =
    let h = from_shown l b at.Inside s in
    let e = inside_place (seat l b).place (stands_seat l b at.Inside s) in
    ap high (passed_high b 0 (seat l b).flag Inside (subst (λ p. fits b (seat l b).flag p ≡ true) e (fit b h.0 h.1)) refl)

-- every seat of a new lock is out, with its flag low
fresh_seat : (n : Boards) (b : ℕ) → seat (fresh n) b ≡ board Low Out
fresh_seat n b =
    elim (cases_Bool (kept_for (fresh n).table b)) [
      | inl t ↦ seat_there (fresh n) b (from_among (length (listed (fresh n).table)) b t)
          ∙ ap (λ xs. get_or xs (b - 1) (board Low Out)) (take-replicate n.count most (board Low Out) n.few) ∙ replicate_at (board Low Out) n.count (b - 1)
      | inr f ↦ seat_absent (fresh n) b f
    ]

pub fresh_sound : (n : Boards) → Sound (fresh n)
fresh_sound n = (
  λ b low high. subst (λ x. fits b x.flag x.place ≡ true) (sym (fresh_seat n b)) refl,
  λ i j (ne, p, q). never (subst (λ x. passed x.place j ≡ true) (fresh_seat n i) p.2),
)

all_out : (n : Boards) → shown (fresh n) ≡ replicate n.count at.Out
all_out n =
    ap (map (λ x. station x.place)) (take-replicate n.count most (board Low Out) n.few)
    ∙ map-replicate (λ (x : Board). station x.place) n.count (board Low Out)

-- a board that comes inside has passed all others, so none of them is inside
alone : (l : Lines) (b : ℕ) (p : Place) → Free l b p → station p ≡ at.Inside → NoneElse (shown l) b
alone l b p free e j ne s =
    let h = from_shown l j at.Inside s in
    free j ne h (ap (λ q. passed q j) (inside_place p e)) (ap (λ q. passed q b) (inside_place (seat l j).place (stands_seat l j at.Inside s)))

step_moves : (l : Lines) (b : ℕ) (bit : Bool) → Sound l → There l b → StepsTo (shown l) b (station (step_of l b bit (seat l b)).place)
step_moves l b bit sound h =
    let here = at_seat l b h in
    let free = free_step l b sound h bit (seat l b).flag (seat l b).place refl (sound.0 b h.0 h.1) in
    elim (step_way l.table.boards.count b (seen l bit (seat l b).place) (seat l b).flag (seat l b).place) [
      | inl same ↦ inl (same ∙ sym here)
      | inr (inl w) ↦ inr (inl (here ∙ w.0, w.1, alone l b _ free w.1))
      | inr (inr w) ↦ inr (inr (here ∙ w.0, w.1))
    ]

next_moves : (l : Lines) (c : Call) → Sound l → accepted (shown l) c ≡ true → Moves (shown l) c (shown (put l (stations.board c) (next l c)))
next_moves l (Start b) sound acc = shown_put l b _ (call_there l (Start b) acc)
next_moves l (Step b bit) sound acc =
    let h = call_there l (Step b bit) acc in
    (station (step_of l b bit (seat l b)).place, shown_put l b _ h, step_moves l b bit sound h)
next_moves l (Leave b) sound acc = shown_put l b _ (call_there l (Leave b) acc)
next_moves l (Pull b) sound acc = shown_put l b _ (call_there l (Pull b) acc)

pub moves_at : (l : Lines) (c : Call) → Sound l → MovesAt fresh after shown l c
moves_at l c sound = (stayed l c, λ t. subst (λ m. Moves (shown l) c (shown m)) (sym (took l c t ∙ done_puts l c)) (next_moves l c sound t))

-- what holds of every state that calls on a new lock lead to
abbrev pub Good : Boards → Lines → Type 0
Good n l = Sound l × (l.table.boards ≡ n)

-- the own steps that board b still needs, to go inside alone and to be out
abbrev pub to_enter : Lines → ℕ → ℕ
to_enter l b = to_go l.table.boards.count b (seat l b).flag (seat l b).place

abbrev pub to_settle : Lines → ℕ → ℕ
to_settle l b = to_low (seat l b).flag

-- the state and the seat that an accepted call leaves
seat_after : (l : Lines) (c : Call) → accepted (shown l) c ≡ true → seat (after l c) (stations.board c) ≡ next l c
seat_after l c acc = ap (λ m. seat m (stations.board c)) (took l c acc ∙ done_puts l c) ∙ seat_put l (stations.board c) (next l c) (call_there l c acc)

stands_after : (l : Lines) (c : Call) (s : Station) → accepted (shown l) c ≡ true → station (next l c).place ≡ s → Stands (shown (after l c)) (stations.board c) s
stands_after l c s acc e =
    seat_stands (after l c) (stations.board c) s
    (subst (λ m. There m (stations.board c)) (sym (took l c acc ∙ done_puts l c)) (still_there l (stations.board c) (next l c) (call_there l c acc) (stations.board c) (call_there l c acc)))
    (ap (λ x. station x.place) (seat_after l c acc) ∙ e)

-- with all others out, every flag that b can read is low
module _ (l : Lines) (b : ℕ) (fit : Fits l) (others : OthersOut (shown l) b) where
  quiet : (j : ℕ) → (j ≢ b) → (seat l j).flag ≡ Low
  quiet j ne =
      elim (cases_Bool (kept_for l.table j)) [
        | inl t ↦ there_quiet (from_among (length (listed l.table)) j t)
        | inr f ↦ ap (λ x. x.flag) (seat_absent l j f)
      ]
    where
      there_quiet : There l j → (seat l j).flag ≡ Low
      there_quiet h =
          let len = shown_length l in let q = h.1 in
          let e = out_place (seat l j).place (sym (at_seat l j h) ∙ others j ne h.0 (omega arith)) in
          out_low j (seat l j).flag (subst (λ p. fits j (seat l j).flag p ≡ true) e (fit j h.0 h.1))

  sees_low : (bit : Bool) (p : Place) → fits b (seat l b).flag p ≡ true → seen l bit p ≡ to.Low
  sees_low bit Out k = refl
  sees_low bit Raising k = refl
  sees_low bit (Reading j) k =
      ap (λ x. reading x bit) (quiet j (λ e. true≢false (not (j == b)) (and_parts (high (seat l b).flag) (not (j == b)) k).1 (let t = eq-eqb j b e in rw t)))
  sees_low bit (Lowering j) k = refl
  sees_low bit (Awaiting j) k =
      ap (λ x. reading x bit) (elim (cases_eq j b) [
        | inl same ↦ ap (λ i. (seat l i).flag) same ∙ out_low b (seat l b).flag k
        | inr ne ↦ quiet j ne
      ])
  sees_low bit Inside k = refl
  sees_low bit Leaving k = refl

  -- so b's step takes it inside, or nearer
  enters_own : (bit : Bool) → Stands (shown l) b at.Trying → Stands (shown (after l (Step b bit))) b at.Inside ⊎ (1 + to_enter (after l (Step b bit)) b ≤ to_enter l b)
  enters_own bit s =
      let h = from_shown l b at.Trying s in
      let k = fit b h.0 h.1 in
      let n = l.table.boards.count in
      let most = listed_most l.table in let high_b = h.1 in
      let acc = accepted_step (shown l) b bit s.0 s.1 in
      let reads = sees_low bit (seat l b).place k in
      let becomes : next l (Step b bit) ≡ stepped n b to.Low (seat l b).flag (seat l b).place = ap (λ x. stepped n b x (seat l b).flag (seat l b).place) reads in
      elim (nearer n b (seat l b).flag (seat l b).place h.0 (omega arith) k (stands_seat l b at.Trying s)) [
        | inl e ↦ inl (stands_after l (Step b bit) at.Inside acc (ap (λ x. station x.place) becomes ∙ ap station e))
        | inr le ↦ inr (subst (λ x. 1 + x ≤ to_enter l b) (sym (same_count ∙ ap (λ x. to_go n b x.flag x.place) (seat_after l (Step b bit) acc ∙ becomes))) le)
      ]
    where
      same_count : to_enter (after l (Step b bit)) b ≡ to_go l.table.boards.count b (seat (after l (Step b bit)) b).flag (seat (after l (Step b bit)) b).place
      same_count = ap (λ n. to_go n.count b (seat (after l (Step b bit)) b).flag (seat (after l (Step b bit)) b).place) (same_boards l (Step b bit))

-- a call of another board leaves b as many steps as it had
enters_other : (l : Lines) (b : ℕ) (c : Call) → (stations.board c ≢ b) → to_enter (after l c) b ≡ to_enter l b
enters_other l b c ne =
    ap (λ n. to_go n.count b (seat (after l c) b).flag (seat (after l c) b).place) (same_boards l c)
    ∙ ap (λ x. to_go l.table.boards.count b x.flag x.place) (others_stay l c b ne)

settles_own : (l : Lines) (b : ℕ) (bit : Bool) → Stands (shown l) b at.Leaving → Stands (shown (after l (Step b bit))) b at.Out ⊎ (1 + to_settle (after l (Step b bit)) b ≤ to_settle l b)
settles_own l b bit s =
    let acc = accepted_step (shown l) b bit s.0 s.1 in
    let e = leaving_place (seat l b).place (stands_seat l b at.Leaving s) in
    let becomes : next l (Step b bit) ≡ lowered (seat l b).flag = ap (λ p. stepped l.table.boards.count b (seen l bit p) (seat l b).flag p) e in
    elim (lower (seat l b).flag) [
      | inl out ↦ inl (stands_after l (Step b bit) at.Out acc (ap (λ x. station x.place) becomes ∙ ap station out))
      | inr le ↦ inr (subst (λ x. 1 + to_low x.flag ≤ to_settle l b) (sym (seat_after l (Step b bit) acc ∙ becomes)) le)
    ]

-- a board that is started while it is out has its flag to raise and the others' to read
starts : (n : Boards) (l : Lines) (b : ℕ) → Good n l → Stands (shown l) b at.Out → to_enter (after l (Start b)) b ≤ n.count + 1
starts n l b (sound, same) s =
    let h = from_shown l b at.Out s in
    let acc : accepted (shown l) (Start b) ≡ true = accepts (stations.at (shown l) b) s.2 (among_from (length (shown l)) b s.0 s.1) in
    let e = out_place (seat l b).place (stands_seat l b at.Out s) in
    let f = out_low b (seat l b).flag (subst (λ p. fits b (seat l b).flag p ≡ true) e (sound.0 b h.0 h.1)) in
    let x : to_enter (after l (Start b)) b ≡ n.count + 1 =
    ap (λ m. to_go m.count b (seat (after l (Start b)) b).flag (seat (after l (Start b)) b).place) (same_boards l (Start b) ∙ same)
    ∙ ap (λ y. to_go n.count b y.flag y.place) (seat_after l (Start b) acc) ∙ ap (λ y. to_go n.count b y Raising) f in
    omega arith
  where
    accepts : (t : Station) → t ≡ at.Out → among (length (shown l)) b ≡ true → is_ok (cond (among (length (shown l)) b) (start_at t) (Err NoSuchBoard)) ≡ true
    accepts t e k = rw (k, e)

pub local : Local fresh after shown (λ n. n + 1) (λ n. 2) Good to_enter to_settle
local = record {
  calls = record {
    new = all_out;
    first = λ n. (fresh_sound n, refl);
    next = λ n l c k acc. (after_sound l c k.0, same_boards l c ∙ k.1);
    moved = λ n l c k. moves_at l c k.0;
  };
  enter_most = λ n l b k s others. starts n l b k s;
  enter_left = λ n l b k s others. let h = from_shown l b at.Trying s in let m = listed_most l.table in let q = h.1 in some_left l.table.boards.count b (seat l b).flag (seat l b).place h.0 (omega arith);
  enter_own = λ n l b bit k s others. enters_own l b k.0.0 others bit s;
  enter_other = λ n l b j bit k s others ne out. let e = enters_other l b (Step j bit) ne in omega arith;
  settle_most = λ n l b k s. (low_most (seat l b).flag).1;
  settle_left = λ n l b k s. (low_most (seat l b).flag).0;
  settle_own = λ n l b bit k s. settles_own l b bit s;
  settle_other = λ n l b c k s ne acc. let e = ap (λ x. to_low x.flag) (others_stay l c b ne) in omega arith;
}
