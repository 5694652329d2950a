-- One step of one board: what its place and flag become.
use Rattle.std.specs.Prelude.{◌≡◌, ℕ, ◌+◌, ◌-◌, ◌<◌, ◌≤◌, Bool, true, false, cond, ◌⊎◌, Some, None, Option, ◌≢◌, nat_lt, refl}
use Rattle.std.proofs.Common.{sym, inl, inr, arith}
use Rattle.std.proofs.lemmas.Bool.{cases_lt, ltb-true, ltb-false, lt-ltb, ne_eqb}
use Rattle.line.specs.declared.Level.{Level}
use Rattle.line.specs.declared.Level.TheVariants as to
use Rattle.line.specs.declared.Line.{Line}
use Rattle.line.specs.declared.Line.TheVariants.{Low, Rising, High, Falling}
use Rattle.line.specs.Rule.{begun, ended, moving, high}
use Rattle.lock.specs.declared.station.Station.{Station}
use Rattle.lock.specs.declared.station.Station.TheVariants as at
use Rattle.lock.specs.Others.{other_after}
use Rattle.lock.proofs.OtherBoards.{NextOther, Found, other_found}
use Rattle.lock.proofs.Stations.{out≢trying, trying≢inside, trying≢leaving, true≢false}
use Rattle.one_bit.specs.declared.lines.Place.{Place}
use Rattle.one_bit.specs.declared.lines.Place.TheVariants.{Out, Raising, Reading, Lowering, Awaiting, Inside, Leaving}
use Rattle.one_bit.specs.Rule.{board, station, reads, onward, lowered, stepped}
use Rattle.one_bit.specs.Sound.{fits, passed}

-- a test that came out false proves anything where it is said to be true
pub never : {P : Type 0} → false ≡ true → P
never e = absurd (true≢false false e refl)

-- b, having read up to j, has passed no other board above j
pub onward_passed : (n b j i : ℕ) → i ≤ n → (i ≢ b) → passed (onward n b j) i ≡ true → i ≤ j
onward_passed n b j i most ne = go (other_after n b j) (other_found n b j)
  where
    -- a board above j would be b
    above : (j < i → i ≡ b) → i ≤ j
    above only = elim (cases_lt j i) [ inl lt ↦ absurd (ne (only lt)) | inr le ↦ le ]

    go : (o : Option ℕ) → Found n b j o → passed (reads o) i ≡ true → i ≤ j
    go (Some k) f w = above (λ lt. f.3 i lt (ltb-true i k w))
    go None f w = above (λ lt. f i lt most)

-- it does not read its own flag
pub onward_fits : (n b j : ℕ) → fits b High (onward n b j) ≡ true
onward_fits n b j = go (other_after n b j) (other_found n b j)
  where
    go : (o : Option ℕ) → Found n b j o → fits b High (reads o) ≡ true
    go (Some k) f = let ne = ne_eqb k b f.2 in rw ne
    go None f = refl

-- where a step may take a board: it stays, goes from trying to inside, or from leaving to out
abbrev pub Way : Station → Station → Type 0
Way s t = (t ≡ s) ⊎ (((s ≡ at.Trying) × (t ≡ at.Inside)) ⊎ ((s ≡ at.Leaving) × (t ≡ at.Out)))

onward_way : (n b j : ℕ) → Way at.Trying (station (onward n b j))
onward_way n b j = go (other_after n b j)
  where
    go : (o : Option ℕ) → Way at.Trying (station (reads o))
    go (Some k) = inl refl
    go None = inr (inl (refl, refl))

pub step_way : (n b : ℕ) (level : Level) (f : Line) (p : Place) → Way (station p) (station (stepped n b level f p).place)
step_way n b level f Out = inl refl
step_way n b level f Raising = go (moving f)
  where
    go : (t : Bool) → Way at.Trying (station (cond t (board (ended f) (onward n b 0)) (board (begun f to.High) Raising)).place)
    go true = onward_way n b 0
    go false = inl refl
step_way n b to.Low f (Reading j) = onward_way n b j
step_way n b to.High f (Reading j) = go (nat_lt j b)
  where
    go : (t : Bool) → Way at.Trying (station (cond t (Lowering j) (Reading j)))
    go true = inl refl
    go false = inl refl
step_way n b level f (Lowering j) = go (moving f)
  where
    go : (t : Bool) → Way at.Trying (station (cond t (board (ended f) (Awaiting j)) (board (begun f to.Low) (Lowering j))).place)
    go true = inl refl
    go false = inl refl
step_way n b to.Low f (Awaiting j) = inl refl
step_way n b to.High f (Awaiting j) = inl refl
step_way n b level f Inside = inl refl
step_way n b level f Leaving = go (high f)
  where
    go : (t : Bool) → Way at.Leaving (station (cond t (board (begun f to.Low) Leaving) (board (ended f) Out)).place)
    go true = inl refl
    go false = inr (inr (refl, refl))

-- the flag fits the place after a step
pub step_fits : (n b : ℕ) (level : Level) (f : Line) (p : Place) → fits b f p ≡ true
    → fits b (stepped n b level f p).flag (stepped n b level f p).place ≡ true
step_fits n b level f Out h = h
step_fits n b level Low Raising h = refl
step_fits n b level Rising Raising h = onward_fits n b 0
step_fits n b level High Raising h = never h
step_fits n b level Falling Raising h = never h
step_fits n b level Low (Reading j) h = never h
step_fits n b level Rising (Reading j) h = never h
step_fits n b to.Low High (Reading j) h = onward_fits n b j
step_fits n b to.High High (Reading j) h = go (nat_lt j b)
  where
    go : (t : Bool) → fits b High (cond t (Lowering j) (Reading j)) ≡ true
    go true = refl
    go false = h
step_fits n b level Falling (Reading j) h = never h
step_fits n b level Low (Lowering j) h = never h
step_fits n b level Rising (Lowering j) h = never h
step_fits n b level High (Lowering j) h = refl
step_fits n b level Falling (Lowering j) h = refl
step_fits n b to.Low Low (Awaiting j) h = refl
step_fits n b to.High Low (Awaiting j) h = refl
step_fits n b level Rising (Awaiting j) h = never h
step_fits n b level High (Awaiting j) h = never h
step_fits n b level Falling (Awaiting j) h = never h
step_fits n b level f Inside h = h
step_fits n b level Low Leaving h = refl
step_fits n b level Rising Leaving h = never h
step_fits n b level High Leaving h = refl
step_fits n b level Falling Leaving h = refl

-- a pulled board's flag fits
pub pull_fits : (b : ℕ) (f : Line) → fits b (begun f to.Low) Leaving ≡ true
pull_fits b Low = refl
pull_fits b Rising = refl
pull_fits b High = refl
pull_fits b Falling = refl

-- a board that has passed another, and an inside one, has its flag high
pub passed_high : (b i : ℕ) (f : Line) (p : Place) → fits b f p ≡ true → passed p i ≡ true → f ≡ High
passed_high b i f Out h w = never w
passed_high b i f Raising h w = never w
passed_high b i Low (Reading k) h w = never h
passed_high b i Rising (Reading k) h w = never h
passed_high b i High (Reading k) h w = refl
passed_high b i Falling (Reading k) h w = never h
passed_high b i f (Lowering k) h w = never w
passed_high b i f (Awaiting k) h w = never w
passed_high b i Low Inside h w = never h
passed_high b i Rising Inside h w = never h
passed_high b i High Inside h w = refl
passed_high b i Falling Inside h w = never h
passed_high b i f Leaving h w = never w

-- which places a station has
pub out_place : (p : Place) → station p ≡ at.Out → p ≡ Out
out_place Out h = refl
out_place Raising h = cc
out_place (Reading j) h = cc
out_place (Lowering j) h = cc
out_place (Awaiting j) h = cc
out_place Inside h = cc
out_place Leaving h = cc

pub inside_place : (p : Place) → station p ≡ at.Inside → p ≡ Inside
inside_place Out h = cc
inside_place Raising h = cc
inside_place (Reading j) h = cc
inside_place (Lowering j) h = cc
inside_place (Awaiting j) h = cc
inside_place Inside h = refl
inside_place Leaving h = cc

pub leaving_place : (p : Place) → station p ≡ at.Leaving → p ≡ Leaving
leaving_place Out h = cc
leaving_place Raising h = cc
leaving_place (Reading j) h = cc
leaving_place (Lowering j) h = cc
leaving_place (Awaiting j) h = cc
leaving_place Inside h = cc
leaving_place Leaving h = refl

pub out_low : (b : ℕ) (f : Line) → fits b f Out ≡ true → f ≡ Low
out_low b Low h = refl
out_low b Rising h = never h
out_low b High h = never h
out_low b Falling h = never h

-- how many own steps a trying board of n still needs while every flag that it reads is low
abbrev pub to_go : ℕ → ℕ → Line → Place → ℕ
to_go n b f Out = 1
to_go n b f Raising = cond (moving f) n (n + 1)
to_go n b f (Reading j) = cond (nat_lt j b) (n - j) (n - j + 1)
to_go n b f (Lowering j) = cond (moving f) (n + 3) (n + 4)
to_go n b f (Awaiting j) = n + 2
to_go n b f Inside = 1
to_go n b f Leaving = 1

pub some_left : (n b : ℕ) (f : Line) (p : Place) → 1 ≤ b → b ≤ n → 1 ≤ to_go n b f p
some_left n b f Out low high = omega arith
some_left n b f Raising low high = elim (moving f) as (λ t. 1 ≤ cond t n (n + 1)) [ true ↦ omega arith | false ↦ omega arith ]
some_left n b f (Reading j) low high = go (nat_lt j b) refl
  where
    go : (t : Bool) → nat_lt j b ≡ t → 1 ≤ cond t (n - j) (n - j + 1)
    go true e = let lt = ltb-true j b e in omega arith
    go false e = omega arith
some_left n b f (Lowering j) low high = elim (moving f) as (λ t. 1 ≤ cond t (n + 3) (n + 4)) [ true ↦ omega arith | false ↦ omega arith ]
some_left n b f (Awaiting j) low high = omega arith
some_left n b f Inside low high = omega arith
some_left n b f Leaving low high = omega arith

-- the readings that are left once b has read up to j
onward_go : (n b j m : ℕ) → b ≤ n → 1 + (n - j) ≤ m + cond (nat_lt j b) 1 0 → (onward n b j ≡ Inside) ⊎ (1 + to_go n b High (onward n b j) ≤ m)
onward_go n b j m most room = go (other_after n b j) (other_found n b j)
  where
    left : (k : ℕ) → NextOther n b j k → (t u : Bool) → nat_lt j b ≡ t → nat_lt k b ≡ u → 1 + (n - j) ≤ m + cond t 1 0 → 1 + cond u (n - k) (n - k + 1) ≤ m
    left k f true true p q r = let a = f.0 in let c = f.1 in omega arith
    left k f true false p q r =
        let a = f.0 in let c = f.1 in let lt = ltb-true j b p in let ge = ltb-false k b q in
        let apart : k ≡ b → ⊥ = f.2 in omega arith
    left k f false true p q r = let a = f.0 in let ge = ltb-false j b p in let lt = ltb-true k b q in absurd (omega arith)
    left k f false false p q r = let a = f.0 in let c = f.1 in omega arith

    go : (o : Option ℕ) → Found n b j o → (reads o ≡ Inside) ⊎ (1 + to_go n b High (reads o) ≤ m)
    go (Some k) f = inr (left k f (nat_lt j b) (nat_lt k b) refl refl room)
    go None f = inl refl

-- a step that reads low, or nothing, takes a trying board inside or leaves it fewer steps to go
pub nearer : (n b : ℕ) (f : Line) (p : Place) → 1 ≤ b → b ≤ n → fits b f p ≡ true → station p ≡ at.Trying
    → ((stepped n b to.Low f p).place ≡ Inside) ⊎ (1 + to_go n b (stepped n b to.Low f p).flag (stepped n b to.Low f p).place ≤ to_go n b f p)
nearer n b f Out low high h e = absurd (out≢trying e)
nearer n b Low Raising low high h e = inr (omega arith)
nearer n b Rising Raising low high h e = onward_go n b 0 n high (let t = lt-ltb 0 b low in rw t (omega arith))
nearer n b High Raising low high h e = never h
nearer n b Falling Raising low high h e = never h
nearer n b Low (Reading j) low high h e = never h
nearer n b Rising (Reading j) low high h e = never h
nearer n b High (Reading j) low high h e = onward_go n b j (cond (nat_lt j b) (n - j) (n - j + 1)) high (room (nat_lt j b))
  where
    room : (t : Bool) → 1 + (n - j) ≤ cond t (n - j) (n - j + 1) + cond t 1 0
    room true = omega arith
    room false = omega arith
nearer n b Falling (Reading j) low high h e = never h
nearer n b Low (Lowering j) low high h e = never h
nearer n b Rising (Lowering j) low high h e = never h
nearer n b High (Lowering j) low high h e = inr (omega arith)
nearer n b Falling (Lowering j) low high h e = inr (omega arith)
nearer n b Low (Awaiting j) low high h e = inr (omega arith)
nearer n b Rising (Awaiting j) low high h e = never h
nearer n b High (Awaiting j) low high h e = never h
nearer n b Falling (Awaiting j) low high h e = never h
nearer n b f Inside low high h e = absurd (trying≢inside (sym e))
nearer n b f Leaving low high h e = absurd (trying≢leaving (sym e))

-- how many own steps a leaving board still needs
abbrev pub to_low : Line → ℕ
to_low f = cond (high f) 2 1

pub lower : (f : Line) → ((lowered f).place ≡ Out) ⊎ (1 + to_low (lowered f).flag ≤ to_low f)
lower Low = inl refl
lower Rising = inl refl
lower High = inr (omega arith)
lower Falling = inl refl

pub low_most : (f : Line) → (1 ≤ to_low f) × (to_low f ≤ 2)
low_most Low = (omega arith, omega arith)
low_most Rising = (omega arith, omega arith)
low_most High = (omega arith, omega arith)
low_most Falling = (omega arith, omega arith)
