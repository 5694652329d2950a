-- How many own steps a board still needs to pass its doorway and to start below, while nobody is noted.
use Rattle.std.specs.Prelude.{◌≡◌, ℕ, ◌+◌, ◌-◌, ◌*◌, ◌≤◌, Bool, true, false, cond, not, List, Some, None, Option, ◌==◌, nat_lt, refl}
use Rattle.std.proofs.Common.{sym, ap, ◌∙◌, arith}
use Rattle.std.proofs.lemmas.Bool.{ltb-true, ltb-false, and_parts}
use Rattle.line.specs.declared.Level.{Level}
use Rattle.line.specs.declared.Line.{Line}
use Rattle.line.specs.declared.Line.TheVariants.{Low, Rising, High, Falling}
use Rattle.line.specs.Rule.{moving, heading}
use Rattle.lock.specs.declared.station.Station.{Station}
use Rattle.lock.specs.Most.{most}
use Rattle.lock.specs.Others.{other_after}
use Rattle.lock.specs.Stations.{among}
use Rattle.lock.proofs.OtherBoards.{NextOther, Found, other_found}
use Rattle.lock.proofs.Stations.{among_from, from_among}
use Rattle.queue.specs.declared.state.Phase.{Phase}
use Rattle.queue.specs.declared.state.Phase.TheVariants.{Out, Pairing, Turning, Noting, Raising, Watching, Comparing, Below, Leaving}
use Rattle.queue.specs.declared.state.Row.{Row}
use Rattle.queue.specs.Rule.{favours, z_of, half_turned, turned, noting, pairing, paired, turned_on, door_step, row_step}
use Rattle.queue.specs.Fits.{never, Fit, turned_here}

-- the other boards above j
abbrev pub left : ℕ → ℕ → ℕ → ℕ
left n b j = cond (nat_lt j b) (n - j - 1) (n - j)

pub left_next : (n b j k : ℕ) → b ≤ n → NextOther n b j k → 1 + left n b k ≤ left n b j
left_next n b j k most_b f = go (nat_lt j b) refl (nat_lt k b) refl
  where
    go : (t : Bool) → nat_lt j b ≡ t → (u : Bool) → nat_lt k b ≡ u → 1 + cond u (n - k - 1) (n - k) ≤ cond t (n - j - 1) (n - j)
    go true p true q = let a = f.0 in let c = f.1 in let x = ltb-true j b p in let y = ltb-true k b q in omega arith
    go true p false q = let a = f.0 in let c = f.1 in let x = ltb-true j b p in let y = ltb-false k b q in let ne : k ≡ b → ⊥ = f.2 in omega arith
    go false p true q = let a = f.0 in let x = ltb-false j b p in let y = ltb-true k b q in absurd (omega arith)
    go false p false q = let a = f.0 in let c = f.1 in omega arith

pub left_first : (n b : ℕ) → 1 ≤ b → left n b 0 ≤ n - 1
left_first n b h = go (nat_lt 0 b) refl
  where
    go : (t : Bool) → nat_lt 0 b ≡ t → cond t (n - 0 - 1) (n - 0) ≤ n - 1
    go true e = omega arith
    go false e = let x = ltb-false 0 b e in absurd (omega arith)

-- the own steps to the one that starts below, itself included
abbrev pub to_go : ℕ → ℕ → Line → Row → Phase → ℕ
to_go n b y r Out = 1
to_go n b y r (Pairing j) = 3 * (1 + left n b j) + n + 2
to_go n b y r (Turning j) = cond (moving (z_of r j)) 1 2 + 3 * left n b j + n + 2
to_go n b y r (Noting j) = 1 + left n b j + 3
to_go n b y r Raising = cond (moving y) 2 3
to_go n b y r Watching = 1
to_go n b y r Comparing = 1
to_go n b y r Below = 1
to_go n b y r Leaving = 1

noting_go : (n b j : ℕ) (r : Row) → 1 ≤ b → b ≤ n → to_go n b Low r (noting (other_after n b j)) ≤ left n b j + 3
noting_go n b j r low_b most_b = go (other_after n b j) (other_found n b j)
  where
    go : (o : Option ℕ) → Found n b j o → to_go n b Low r (noting o) ≤ left n b j + 3
    go (Some k) f = let x = left_next n b j k most_b f in omega arith
    go None f = omega arith

pub pairing_go : (n b j : ℕ) (r : Row) → 1 ≤ b → b ≤ n → to_go n b Low r (pairing n b (other_after n b j)) ≤ 3 * left n b j + n + 2
pairing_go n b j r low_b most_b = go (other_after n b j) (other_found n b j)
  where
    go : (o : Option ℕ) → Found n b j o → to_go n b Low r (pairing n b o) ≤ 3 * left n b j + n + 2
    go (Some k) f = let x = left_next n b j k most_b f in omega arith
    go None f = let x = noting_go n b 0 r low_b most_b in let y = left_first n b low_b in omega arith

half_moves : (z : Line) → moving z ≡ false → moving (half_turned z) ≡ true
half_moves Low e = refl
half_moves Rising e = never (sym e)
half_moves High e = refl
half_moves Falling e = never (sym e)

-- the phases up to the start below, in which a board that notes nobody moves on
abbrev pub doorway : Phase → Bool
doorway Out = false
doorway (Pairing j) = true
doorway (Turning j) = true
doorway (Noting j) = true
doorway Raising = true
doorway Watching = false
doorway Comparing = false
doorway Below = false
doorway Leaving = false

abbrev pub on_way : Phase → Bool
on_way Out = false
on_way (Pairing j) = true
on_way (Turning j) = true
on_way (Noting j) = true
on_way Raising = true
on_way Watching = true
on_way Comparing = false
on_way Below = false
on_way Leaving = false

noting_way : (o : Option ℕ) → on_way (noting o) ≡ true
noting_way (Some k) = refl
noting_way None = refl

pub pairing_way : (n b : ℕ) (o : Option ℕ) → on_way (pairing n b o) ≡ true
pairing_way n b (Some k) = refl
pairing_way n b None = noting_way (other_after n b 0)

pub some_left : (n b : ℕ) (y : Line) (r : Row) (p : Phase) → 1 ≤ to_go n b y r p
some_left n b y r Out = omega arith
some_left n b y r (Pairing j) = omega arith
some_left n b y r (Turning j) = elim (moving (z_of r j)) as (λ t. 1 ≤ cond t 1 2 + 3 * left n b j + n + 2) [ true ↦ omega arith | false ↦ omega arith ]
some_left n b y r (Noting j) = omega arith
some_left n b y r Raising = elim (moving y) as (λ t. 1 ≤ cond t 2 3) [ true ↦ omega arith | false ↦ omega arith ]
some_left n b y r Watching = omega arith
some_left n b y r Comparing = omega arith
some_left n b y r Below = omega arith
some_left n b y r Leaving = omega arith

-- a step in the doorway leads on; its own y read as low of others is all that it asks
pub nearer : (n b : ℕ) (s : Station) (r : Row) (level : Level) (out : Bool) (y : Line) (notes : List Bool) (p : Phase) → n ≤ most → 1 ≤ b → b ≤ n → Fit n b s y p r → doorway p ≡ true
    → (on_way (door_step n b r level out y notes p).phase ≡ true)
    × (1 + to_go n b (door_step n b r level out y notes p).y (row_step r out y p) (door_step n b r level out y notes p).phase ≤ to_go n b y r p)
nearer n b s r level out y notes Out few low_b most_b f d = never d
nearer n b s r level out Low notes (Pairing j) few low_b most_b f d = go (favours b (heading (z_of r j)) j level)
  where
    go : (t : Bool) → (on_way (paired n b j t) ≡ true) × (1 + to_go n b Low r (paired n b j t) ≤ 3 * (1 + left n b j) + n + 2)
    go true = (refl, (let rest = f.rests j refl in rw rest (omega arith)))
    go false = (pairing_way n b (other_after n b j), (let x = pairing_go n b j r low_b most_b in omega arith))
nearer n b s r level out Rising notes (Pairing j) few low_b most_b f d = never f.line
nearer n b s r level out High notes (Pairing j) few low_b most_b f d = never f.line
nearer n b s r level out Falling notes (Pairing j) few low_b most_b f d = never f.line
nearer n b s r level out Low notes (Turning j) few low_b most_b f d = go (moving (z_of r j)) refl
  where
    here : among most j ≡ true
    here = let a = from_among n j (and_parts (among n j) (not (j == b)) f.named).0 in let p = a.1 in among_from most j a.0 (omega arith)

    go : (t : Bool) → moving (z_of r j) ≡ t → (on_way (turned_on n b j t) ≡ true) × (1 + to_go n b Low (turned r j) (turned_on n b j t) ≤ cond t 1 2 + 3 * left n b j + n + 2)
    go true e = (pairing_way n b (other_after n b j), (let x = pairing_go n b j (turned r j) low_b most_b in omega arith))
    go false e = (refl, (let m : moving (z_of (turned r j) j) ≡ true = ap moving (turned_here r j here f.wide) ∙ half_moves (z_of r j) e in rw m (omega arith)))
nearer n b s r level out Rising notes (Turning j) few low_b most_b f d = never f.line
nearer n b s r level out High notes (Turning j) few low_b most_b f d = never f.line
nearer n b s r level out Falling notes (Turning j) few low_b most_b f d = never f.line
nearer n b s r level out Low notes (Noting j) few low_b most_b f d = (noting_way (other_after n b j), (let x = noting_go n b j r low_b most_b in omega arith))
nearer n b s r level out Rising notes (Noting j) few low_b most_b f d = never f.line
nearer n b s r level out High notes (Noting j) few low_b most_b f d = never f.line
nearer n b s r level out Falling notes (Noting j) few low_b most_b f d = never f.line
nearer n b s r level out Low notes Raising few low_b most_b f d = (refl, omega arith)
nearer n b s r level out Rising notes Raising few low_b most_b f d = (refl, omega arith)
nearer n b s r level out High notes Raising few low_b most_b f d = never f.line
nearer n b s r level out Falling notes Raising few low_b most_b f d = never f.line
nearer n b s r level out y notes Watching few low_b most_b f d = never d
nearer n b s r level out y notes Comparing few low_b most_b f d = never d
nearer n b s r level out y notes Below few low_b most_b f d = never d
nearer n b s r level out y notes Leaving few low_b most_b f d = never d
