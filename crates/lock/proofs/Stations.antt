-- Facts on the stations of N boards and one call.
use Rattle.std.proofs.Common.{◌≡◌, ℕ, zero, suc, ◌-◌, ◌<◌, ◌≤◌, Bool, true, false, cond, eqb, leb, ◌≢◌, ◌⊎◌, List, length, get_or, replicate, is_ok, Ok, Err, Result, sym, refl, ap, ◌∙◌, subst, inl, inr, arith}
use Rattle.std.proofs.lemmas.Bool.{cases_eq, and_parts, and_from, and_left, and_right, leb-true, le-leb, lt-leb, eq-eqb, ne_eqb}
use Rattle.std.proofs.lemmas.List.{length-set, get_or-set_same, get_or-set_other}
use Rattle.lock.specs.declared.station.Call.{Call}
use Rattle.lock.specs.declared.station.Call.TheVariants.{Start, Step, Leave, Pull}
use Rattle.lock.specs.declared.station.Refusal.{Refusal}
use Rattle.lock.specs.declared.station.Refusal.TheVariants.{NoSuchBoard}
use Rattle.lock.specs.declared.station.Station.{Station}
use Rattle.lock.specs.declared.station.Station.TheVariants.{Out, Trying, Inside, Leaving}
use Rattle.lock.specs.Stations.{board, among, at, with, told, start_at, leave_at, pull_at, accepted, Stands, NoneElse, AtMostOne, Moves}
use Rattle.lock.specs.Runs.{own, OthersOut}

pub out≢trying : Out ≡ Trying → ⊥
out≢trying e = let z : ◌≡◌ {A = ℕ} 0 1 = cc in omega arith

pub out≢inside : Out ≡ Inside → ⊥
out≢inside e = let z : ◌≡◌ {A = ℕ} 0 1 = cc in omega arith

pub out≢leaving : Out ≡ Leaving → ⊥
out≢leaving e = let z : ◌≡◌ {A = ℕ} 0 1 = cc in omega arith

pub trying≢inside : Trying ≡ Inside → ⊥
trying≢inside e = let z : ◌≡◌ {A = ℕ} 0 1 = cc in omega arith

pub trying≢leaving : Trying ≡ Leaving → ⊥
trying≢leaving e = let z : ◌≡◌ {A = ℕ} 0 1 = cc in omega arith

pub inside≢leaving : Inside ≡ Leaving → ⊥
inside≢leaving e = let z : ◌≡◌ {A = ℕ} 0 1 = cc in omega arith

pub true≢false : (t : Bool) → t ≡ true → t ≡ false → ⊥
true≢false t p q = let z : ◌≡◌ {A = ℕ} 0 1 = cc in omega arith

pub among_from : (n b : ℕ) → 1 ≤ b → b ≤ n → among n b ≡ true
among_from n b p q = and_from (leb 1 b) (leb b n) (le-leb 1 b p) (le-leb b n q)

pub from_among : (n b : ℕ) → among n b ≡ true → (1 ≤ b) × (b ≤ n)
from_among n b k = let both = and_parts (leb 1 b) (leb b n) k in (leb-true 1 b both.0, leb-true b n both.1)

pub not_among : (n b : ℕ) → (b < 1) ⊎ (n < b) → among n b ≡ false
not_among n b w = elim w [ inl h ↦ and_left (leb 1 b) (leb b n) (lt-leb 1 b h) | inr h ↦ and_right (leb 1 b) (leb b n) (lt-leb b n h) ]

-- an answer that is Ok passed the first test, and the second
passed : (k : Bool) (r : Result Unit Refusal) → is_ok (cond k r (Err NoSuchBoard)) ≡ true → (k ≡ true) × (is_ok r ≡ true)
passed true r h = (refl, h)
passed false r h = absurd (true≢false false h refl)

out_from_start : (s : Station) → is_ok (start_at s) ≡ true → s ≡ Out
out_from_start Out h = refl
out_from_start Trying h = cc
out_from_start Inside h = cc
out_from_start Leaving h = cc

inside_from_leave : (s : Station) → is_ok (leave_at s) ≡ true → s ≡ Inside
inside_from_leave Out h = cc
inside_from_leave Trying h = cc
inside_from_leave Inside h = refl
inside_from_leave Leaving h = cc

engaged_from_pull : (s : Station) → is_ok (pull_at s) ≡ true → (s ≡ Trying) ⊎ (s ≡ Inside)
engaged_from_pull Out h = absurd (true≢false false h refl)
engaged_from_pull Trying h = inl refl
engaged_from_pull Inside h = inr refl
engaged_from_pull Leaving h = absurd (true≢false false h refl)

-- where the board of an accepted call stands
pub start_accepted : (ss : List Station) (b : ℕ) → accepted ss (Start b) ≡ true → Stands ss b Out
start_accepted ss b h =
    let p = passed (among (length ss) b) (start_at (at ss b)) h in
    let k = from_among (length ss) b p.0 in
    (k.0, k.1, out_from_start (at ss b) p.1)

pub leave_accepted : (ss : List Station) (b : ℕ) → accepted ss (Leave b) ≡ true → Stands ss b Inside
leave_accepted ss b h =
    let p = passed (among (length ss) b) (leave_at (at ss b)) h in
    let k = from_among (length ss) b p.0 in
    (k.0, k.1, inside_from_leave (at ss b) p.1)

pub pull_accepted : (ss : List Station) (b : ℕ) → accepted ss (Pull b) ≡ true → Stands ss b Trying ⊎ Stands ss b Inside
pull_accepted ss b h =
    let p = passed (among (length ss) b) (pull_at (at ss b)) h in
    let k = from_among (length ss) b p.0 in
    elim (engaged_from_pull (at ss b) p.1) [ inl e ↦ inl (k.0, k.1, e) | inr e ↦ inr (k.0, k.1, e) ]

pub step_accepted : (ss : List Station) (b : ℕ) (bit : Bool) → accepted ss (Step b bit) ≡ true → (1 ≤ b) × (b ≤ length ss)
step_accepted ss b bit h = from_among (length ss) b (passed (among (length ss) b) (Ok tt) h).0

pub accepted_step : (ss : List Station) (b : ℕ) (bit : Bool) → 1 ≤ b → b ≤ length ss → accepted ss (Step b bit) ≡ true
accepted_step ss b bit p q = let k = among_from (length ss) b p q in rw k

pub board_there : (ss : List Station) (c : Call) → accepted ss c ≡ true → (1 ≤ board c) × (board c ≤ length ss)
board_there ss (Start b) h = let k = start_accepted ss b h in (k.0, k.1)
board_there ss (Step b bit) h = step_accepted ss b bit h
board_there ss (Leave b) h = let k = leave_accepted ss b h in (k.0, k.1)
board_there ss (Pull b) h = elim (pull_accepted ss b h) [ inl k ↦ (k.0, k.1) | inr k ↦ (k.0, k.1) ]

-- what a move leaves
pub stands_with : (ss : List Station) (b : ℕ) (s : Station) → 1 ≤ b → b ≤ length ss → Stands (with ss b s) b s
stands_with ss b s p q =
    let h : b - 1 < length ss = omega arith in
    let e = length-set ss (b - 1) s in
    (p, omega arith, get_or-set_same ss (b - 1) s Out h)

pub other_with : (ss : List Station) (b j : ℕ) (s : Station) → 1 ≤ b → 1 ≤ j → (j ≡ b → ⊥) → at (with ss b s) j ≡ at ss j
other_with ss b j s p q ne =
    let ne' : j - 1 ≢ b - 1 = λ e. ne (omega arith) in
    get_or-set_other ss (b - 1) (j - 1) s Out ne'

pub stands_other : (ss : List Station) (b j : ℕ) (s t : Station) → 1 ≤ b → (j ≡ b → ⊥) → Stands ss j t → Stands (with ss b s) j t
stands_other ss b j s t p ne h =
    let len = length-set ss (b - 1) s in let q = h.1 in (h.0, omega arith, other_with ss b j s p h.0 ne ∙ h.2)

pub other_stands : (ss : List Station) (b j : ℕ) (s t : Station) → 1 ≤ b → (j ≡ b → ⊥) → Stands (with ss b s) j t → Stands ss j t
other_stands ss b j s t p ne h =
    let len = length-set ss (b - 1) s in let q = h.1 in (h.0, omega arith, sym (other_with ss b j s p h.0 ne) ∙ h.2)

-- the others are still out, where only b has moved
pub still_out : (ss : List Station) (b : ℕ) (s : Station) → 1 ≤ b → OthersOut ss b → OthersOut (with ss b s) b
still_out ss b s p others j ne q r =
    let len = length-set ss (b - 1) s in other_with ss b j s p q ne ∙ others j ne q (omega arith)

-- each record of a table that has the same one everywhere
pub replicate_at : {X : Type 0} (x : X) (n i : ℕ) → get_or (replicate n x) i x ≡ x
replicate_at x zero i = refl
replicate_at x (suc n) zero = refl
replicate_at x (suc n) (suc i) = replicate_at x n i

-- an accepted call moves its own board only
pub moved_to : (ss ts : List Station) (c : Call) → Moves ss c ts → (t : Station) × (ts ≡ with ss (board c) t)
moved_to ss ts (Start b) m = (Trying, m)
moved_to ss ts (Step b bit) m = (m.0, m.1)
moved_to ss ts (Leave b) m = (Leaving, m)
moved_to ss ts (Pull b) m = (Leaving, m)

-- only b has moved, to t, and where it has come inside no other is inside
one_left : (ss : List Station) (b : ℕ) (t : Station) → AtMostOne ss → 1 ≤ b → b ≤ length ss
    → (t ≡ Inside → NoneElse ss b) → AtMostOne (with ss b t)
one_left ss b t one p q alone i j hi hj =
    elim (cases_eq i b) [
      | inl i_is ↦ elim (cases_eq j b) [
        | inl j_is ↦ i_is ∙ sym j_is
        | inr j_not ↦ absurd (alone (comes i i_is hi) j j_not (other_stands ss b j t Inside p j_not hj))
      ]
      | inr i_not ↦ elim (cases_eq j b) [
        | inl j_is ↦ absurd (alone (comes j j_is hj) i i_not (other_stands ss b i t Inside p i_not hi))
        | inr j_not ↦ one i j (other_stands ss b i t Inside p i_not hi) (other_stands ss b j t Inside p j_not hj)
      ]
    ]
  where
    comes : (k : ℕ) → k ≡ b → Stands (with ss b t) k Inside → t ≡ Inside
    comes k same h = sym (stands_with ss b t p q).2 ∙ ap (at (with ss b t)) (sym same) ∙ h.2

pub one_inside : (ss ts : List Station) (c : Call) → AtMostOne ss → accepted ss c ≡ true → Moves ss c ts → AtMostOne ts
one_inside ss ts (Start b) one acc m =
    let k = board_there ss (Start b) acc in
    subst AtMostOne (sym m) (one_left ss b Trying one k.0 k.1 (λ e. absurd (trying≢inside e)))
one_inside ss ts (Step b bit) one acc m =
    let k = board_there ss (Step b bit) acc in
    subst AtMostOne (sym m.1) (one_left ss b m.0 one k.0 k.1 (λ e. elim m.2 [
      | inl same ↦ λ j ne h. ne (one j b h (k.0, k.1, sym same ∙ e))
      | inr (inl w) ↦ w.2
      | inr (inr w) ↦ absurd (out≢inside (sym w.1 ∙ e))
    ]))
one_inside ss ts (Leave b) one acc m =
    let k = board_there ss (Leave b) acc in
    subst AtMostOne (sym m) (one_left ss b Leaving one k.0 k.1 (λ e. absurd (inside≢leaving (sym e))))
one_inside ss ts (Pull b) one acc m =
    let k = board_there ss (Pull b) acc in
    subst AtMostOne (sym m) (one_left ss b Leaving one k.0 k.1 (λ e. absurd (inside≢leaving (sym e))))

-- own steps
pub own_same : (b : ℕ) (bit : Bool) → own b (Step b bit) ≡ 1
own_same b bit = let e = eq-eqb b b refl in rw e

pub own_other : (b j : ℕ) (bit : Bool) → (j ≡ b → ⊥) → own b (Step j bit) ≡ 0
own_other b j bit ne = let e = ne_eqb j b ne in rw e

pub own_most : (b : ℕ) (c : Call) → own b c ≤ 1
own_most b (Start j) = omega arith
own_most b (Step j bit) = elim (eqb j b) as (λ t. cond t 1 0 ≤ 1) [ true ↦ omega arith | false ↦ omega arith ]
own_most b (Leave j) = omega arith
own_most b (Pull j) = omega arith

-- a refused call is no step of a board that is there
pub no_own : (ss : List Station) (b : ℕ) (c : Call) → 1 ≤ b → b ≤ length ss → accepted ss c ≡ false → own b c ≡ 0
no_own ss b (Start j) p q f = refl
no_own ss b (Step j bit) p q f =
    elim (cases_eq j b) [
      | inl same ↦ absurd (true≢false _ (accepted_step ss b bit p q) (subst (λ i. accepted ss (Step i bit) ≡ false) same f))
      | inr ne ↦ own_other b j bit ne
    ]
no_own ss b (Leave j) p q f = refl
no_own ss b (Pull j) p q f = refl

-- what the question for a station tells
pub told_stands : (ss : List Station) (b : ℕ) (s : Station) → told ss b ≡ Ok s → Stands ss b s
told_stands ss b s h = go (among (length ss) b) refl h
  where
    go : (k : Bool) → among (length ss) b ≡ k → cond k (Ok (at ss b)) (Err NoSuchBoard) ≡ Ok s → Stands ss b s
    go true e p = let q : at ss b ≡ s = cc in let k = from_among (length ss) b e in (k.0, k.1, q)
    go false e p = let z : ◌≡◌ {A = ℕ} 0 1 = cc in absurd (omega arith)
