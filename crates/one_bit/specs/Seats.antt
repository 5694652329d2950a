-- Boards in the table: what is there, what a call writes, and what it leaves alone.
use Rattle.std.specs.Prelude.{◌≡◌, ℕ, ◌-◌, ◌<◌, ◌≤◌, true, false, cond, ◌≢◌, map, length, get_or, Ok, Err, slice_index_or, slice_set, refl}
use Rattle.std.proofs.Common.{sym, ap, ◌∙◌, inl, inr, arith}
use Rattle.std.proofs.lemmas.Bool.{cases_Bool}
use Rattle.std.proofs.lemmas.List.{length-set, length-map, get_or-map, get_or-set_same, get_or-set_other, map-set}
use Rattle.line.specs.declared.Level.TheVariants as to
use Rattle.line.specs.declared.Line.TheVariants.{Low}
use Rattle.line.specs.Rule.{begun}
use Rattle.lock.specs.declared.station.Call.{Call}
use Rattle.lock.specs.declared.station.Call.TheVariants.{Start, Step, Leave, Pull}
use Rattle.lock.specs.declared.station.Refusal.TheVariants.{NoSuchBoard}
use Rattle.lock.specs.declared.station.Station.{Station}
use Rattle.lock.specs.declared.station.Station.TheVariants as at
use Rattle.lock.specs.Stations.{among, accepted, Stands}
use Rattle.lock.specs.Stations as stations
use Rattle.lock.specs.Tables.{listed, kept_for}
use Rattle.lock.proofs.Stations.{among_from, from_among, board_there}
use Rattle.lock.proofs.Tables.{listed_written}
use Rattle.one_bit.specs.declared.lines.Board.{Board}
use Rattle.one_bit.specs.declared.lines.Lines.{Lines}
use Rattle.one_bit.specs.declared.lines.Place.TheVariants.{Out, Raising, Leaving}
use Rattle.one_bit.specs.Sound.{OwnFlag}
use Rattle.one_bit.specs.Rule.{board, station, shown, seat, put, next, done, after}

-- board b is one of those in the table
abbrev pub There : Lines → ℕ → Type 0
There l b = (1 ≤ b) × (b ≤ length (listed l.table))

pub shown_length : (l : Lines) → length (shown l) ≡ length (listed l.table)
shown_length l = length-map (listed l.table) (λ x. station x.place)

pub from_shown : (l : Lines) (b : ℕ) (s : Station) → Stands (shown l) b s → There l b
from_shown l b s h = let e = shown_length l in let q = h.1 in (h.0, omega arith)

pub seat_there : (l : Lines) (b : ℕ) → There l b → seat l b ≡ slice_index_or (listed l.table) (b - 1) (board Low Out)
seat_there l b h = let k = among_from (length (listed l.table)) b h.0 h.1 in rw k

pub seat_absent : (l : Lines) (b : ℕ) → kept_for l.table b ≡ false → seat l b ≡ board Low Out
seat_absent l b k = rw k

-- a board's station is that of its place
pub at_seat : (l : Lines) (b : ℕ) → There l b → stations.at (shown l) b ≡ station (seat l b).place
at_seat l b h =
    let low = h.0 in let high = h.1 in
    let lt : b - 1 < length (listed l.table) = omega arith in
    get_or-map (λ x. station x.place) (listed l.table) (b - 1) (board Low Out) at.Out lt ∙ ap (λ x. station x.place) (sym (seat_there l b h))

pub stands_seat : (l : Lines) (b : ℕ) (s : Station) → Stands (shown l) b s → station (seat l b).place ≡ s
stands_seat l b s h = sym (at_seat l b (from_shown l b s h)) ∙ h.2

pub seat_stands : (l : Lines) (b : ℕ) (s : Station) → There l b → station (seat l b).place ≡ s → Stands (shown l) b s
seat_stands l b s h e = let len = shown_length l in let q = h.1 in (h.0, omega arith, at_seat l b h ∙ e)

module _ (l : Lines) (b : ℕ) (x : Board) (h : There l b) where
  listed_put : listed (put l b x).table ≡ slice_set (listed l.table) (b - 1) x
  listed_put = listed_written l.table b x h.0 h.1

  pub length_put : length (listed (put l b x).table) ≡ length (listed l.table)
  length_put = ap length listed_put ∙ length-set (listed l.table) (b - 1) x

  pub still_there : (j : ℕ) → There l j → There (put l b x) j
  still_there j w = let e = length_put in let q = w.1 in (w.0, omega arith)

  pub was_there : (j : ℕ) → There (put l b x) j → There l j
  was_there j w = let e = length_put in let q = w.1 in (w.0, omega arith)

  pub seat_put : seat (put l b x) b ≡ x
  seat_put =
      let low = h.0 in let high = h.1 in
      let lt : b - 1 < length (listed l.table) = omega arith in
      seat_there (put l b x) b (still_there b h) ∙ ap (λ xs. get_or xs (b - 1) (board Low Out)) listed_put ∙ get_or-set_same (listed l.table) (b - 1) x (board Low Out) lt

  pub seat_other : (j : ℕ) → (j ≢ b) → seat (put l b x) j ≡ seat l j
  seat_other j ne =
      elim (cases_Bool (kept_for l.table j)) [
        | inl t ↦ at_other (from_among (length (listed l.table)) j t)
        | inr f ↦ seat_absent (put l b x) j (ap (λ n. among n j) length_put ∙ f) ∙ sym (seat_absent l j f)
      ]
    where
      at_other : There l j → seat (put l b x) j ≡ seat l j
      at_other w =
          let low = h.0 in let low' = w.0 in
          let ne' : j - 1 ≢ b - 1 = λ e. ne (omega arith) in
          seat_there (put l b x) j (still_there j w)
          ∙ ap (λ xs. get_or xs (j - 1) (board Low Out)) listed_put
          ∙ get_or-set_other (listed l.table) (b - 1) (j - 1) x (board Low Out) ne'
          ∙ sym (seat_there l j w)

  pub shown_put : shown (put l b x) ≡ stations.with (shown l) b (station x.place)
  shown_put = ap (map (λ y. station y.place)) listed_put ∙ map-set (λ y. station y.place) (listed l.table) (b - 1) x

  pub boards_put : (put l b x).table.boards ≡ l.table.boards
  boards_put = let k = among_from (length (listed l.table)) b h.0 h.1 in rw k

pub took : (l : Lines) (c : Call) → accepted (shown l) c ≡ true → after l c ≡ done l c
took l c acc = rw acc

pub stayed : (l : Lines) (c : Call) → accepted (shown l) c ≡ false → after l c ≡ l
stayed l c bad = rw bad

pub done_puts : (l : Lines) (c : Call) → done l c ≡ put l (stations.board c) (next l c)
done_puts l (Start b) = refl
done_puts l (Step b bit) = refl
done_puts l (Leave b) = refl
done_puts l (Pull b) = refl

pub call_there : (l : Lines) (c : Call) → accepted (shown l) c ≡ true → There l (stations.board c)
call_there l c acc = let r = board_there (shown l) c acc in let e = shown_length l in let q = r.1 in (r.0, omega arith)

-- a call moves no other board's flag, nor its place
pub others_stay : (l : Lines) (c : Call) (j : ℕ) → (stations.board c ≢ j) → seat (after l c) j ≡ seat l j
others_stay l c j ne =
    elim (cases_Bool (accepted (shown l) c)) [
      | inl t ↦ ap (λ m. seat m j) (took l c t ∙ done_puts l c) ∙ seat_other l (stations.board c) (next l c) (call_there l c t) j (λ e. ne (sym e))
      | inr f ↦ ap (λ m. seat m j) (stayed l c f)
    ]

pub same_boards : (l : Lines) (c : Call) → (after l c).table.boards ≡ l.table.boards
same_boards l c =
    elim (cases_Bool (accepted (shown l) c)) [
      | inl t ↦ ap (λ m. m.table.boards) (took l c t ∙ done_puts l c) ∙ boards_put l (stations.board c) (next l c) (call_there l c t)
      | inr f ↦ ap (λ m. m.table.boards) (stayed l c f)
    ]

pub same_length : (l : Lines) (c : Call) → length (listed (after l c).table) ≡ length (listed l.table)
same_length l c =
    elim (cases_Bool (accepted (shown l) c)) [
      | inl t ↦ ap (λ m. length (listed m.table)) (took l c t ∙ done_puts l c) ∙ length_put l (stations.board c) (next l c) (call_there l c t)
      | inr f ↦ ap (λ m. length (listed m.table)) (stayed l c f)
    ]

-- nor does it move what is told of its flag
pub own_flag : (l : Lines) (b : ℕ) → OwnFlag l b
own_flag l b c ne =
    ap (λ n. cond (among n b) (Ok (seat (after l c) b).flag) (Err NoSuchBoard)) (same_length l c)
    ∙ ap (λ x. cond (kept_for l.table b) (Ok x.flag) (Err NoSuchBoard)) (others_stay l c b ne)
