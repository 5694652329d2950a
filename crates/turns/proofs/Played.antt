-- Rows so far and rows to come; and nobody is inside with another, at any moment of any calls.
use Rattle.std.proofs.Common.{◌≡◌, ℕ, ◌+◌, ◌<◌, List, [], ◌∷◌, ◌++◌, length, get_or, take, drop, sym, ap, ◌∙◌, append_assoc}
use Rattle.std.proofs.lemmas.List.{at_drop_more}
use Rattle.lock.specs.declared.boards.Boards.{Boards}
use Rattle.lock.specs.declared.station.Call.{Call}
use Rattle.lock.specs.declared.station.Call.TheVariants.{Start}
use Rattle.lock.specs.Runs.{run}
use Rattle.lock.specs.Stations.{AtMostOne}
use Rattle.lock.proofs.Local.{exclusive}
use Rattle.one_bit.specs.declared.lines.Lines.{Lines}
use Rattle.one_bit.specs.Rule.{after, fresh, shown}
use Rattle.one_bit.specs.Keeps.{Good, local}
use Rattle.turns.specs.declared.row.Row.{Row}
use Rattle.turns.specs.Rows.{row_of, rows_of}

-- one call made: its row joins those so far
pub one_more : (l m : Lines) (cs : List Call) (i : ℕ) (xs ys all : List Row) (x : Row) → i < length cs
    → x ≡ row_of l (get_or cs i (Start 0)) → m ≡ after l (get_or cs i (Start 0)) → ys ≡ xs ++ (x ∷ [])
    → xs ++ rows_of l (drop i cs) ≡ all → ys ++ rows_of m (drop (i + 1) cs) ≡ all
one_more l m cs i xs ys all x lt row moved pushed inv =
    ap (λ zs. zs ++ rows_of m (drop (i + 1) cs)) pushed
    ∙ append_assoc xs (x ∷ []) (rows_of m (drop (i + 1) cs))
    ∙ ap (λ z. xs ++ (z ∷ rows_of m (drop (i + 1) cs))) row
    ∙ ap (λ k. xs ++ (row_of l (get_or cs i (Start 0)) ∷ rows_of k (drop (i + 1) cs))) moved
    ∙ ap (λ zs. xs ++ zs) (sym (at_drop_more (rows_of l) cs i (Start 0) lt))
    ∙ inv

pub one_inside : (n : Boards) (cs : List Call) (k : ℕ) → AtMostOne (shown (run after (fresh n) (take k cs)))
one_inside n cs k = exclusive fresh after shown Good local.calls n (take k cs)
