-- A pair of boards of which one waits: what the other, in its doorway or waiting, knows of it, and that its own steps keep that.
use Rattle.std.specs.Prelude.{◌≡◌, ℕ, zero, suc, ◌+◌, ◌-◌, ◌<◌, ◌≤◌, Bool, true, false, cond, ◌≢◌, List, [], ◌∷◌, length, Some, None, Option, slice_index_or, refl}
use Rattle.std.proofs.Common.{sym, ap, subst, ◌∙◌, inl, inr, arith}
use Rattle.std.proofs.lemmas.Bool.{cases_eq, cases_lt, ltb-true, le-ltb}
use Rattle.std.proofs.lemmas.List.{get_or-set_same, get_or-set_other}
use Rattle.line.specs.declared.Level.{Level}
use Rattle.line.specs.declared.Level.TheVariants as to
use Rattle.line.specs.declared.Line.{Line}
use Rattle.line.specs.declared.Line.TheVariants.{Low, Rising, High, Falling}
use Rattle.line.specs.Rule.{begun, ended, heading, moving, opposite}
use Rattle.lock.specs.Most.{most}
use Rattle.lock.specs.Others.{other_after}
use Rattle.lock.specs.Stations.{among, place_of}
use Rattle.lock.proofs.OtherBoards.{Found, other_found}
use Rattle.lock.proofs.Stations.{from_among, true≢false}
use Rattle.queue.specs.declared.state.Phase.{Phase}
use Rattle.queue.specs.declared.state.Phase.TheVariants.{Out, Pairing, Turning, Noting, Raising, Watching, Comparing, Below, Leaving}
use Rattle.queue.specs.declared.state.Row.{Row}
use Rattle.queue.specs.Rule.{door, same, favours, put_at, note, strike, lowest_from, lowest, noted, noting, pairing, paired, turned_on, z_of, half_turned, turned, watched, compared, door_step, row_step}
use Rattle.queue.specs.Fits.{never, turned_here, turned_other}

-- board j is noted
abbrev pub is_noted : List Bool → ℕ → Bool
is_noted notes j = slice_index_or notes (j - 1) false

-- the pair of b, at level own, and j, at level other, favours j
abbrev pub Favours : ℕ → ℕ → Level → Level → Type 0
Favours b j own other = favours b own j other ≡ false

-- what b, at phase p with these notes and this row, knows of board j, whose z line for b rests at this level, and which waits
abbrev pub Knows : ℕ → ℕ → Level → Row → List Bool → Phase → Type 0
Knows b j other r notes Out = Unit {0}
Knows b j other r notes (Pairing k) = j < k → Favours b j (heading (z_of r j)) other
Knows b j other r notes (Turning k) =
    (j < k → Favours b j (heading (z_of r j)) other)
    × (j ≡ k → moving (z_of r j) ≡ true → Favours b j (heading (z_of r j)) other)
    × (j ≡ k → moving (z_of r j) ≡ false → Favours b j (opposite (heading (z_of r j))) other)
Knows b j other r notes (Noting k) = Favours b j (heading (z_of r j)) other × (j < k → is_noted notes j ≡ true)
Knows b j other r notes Raising = Favours b j (heading (z_of r j)) other × (is_noted notes j ≡ true)
Knows b j other r notes Watching = Favours b j (heading (z_of r j)) other × (is_noted notes j ≡ true)
Knows b j other r notes Comparing = Favours b j (heading (z_of r j)) other × (is_noted notes j ≡ true)
Knows b j other r notes Below = ⊥
Knows b j other r notes Leaving = Unit {0}

-- to turn one line of a pair turns its favour
turns : (b j : ℕ) (own other : Level) → (j ≢ b) → favours b own j other ≡ true → Favours b j (opposite own) other
turns b j to.Low to.Low ne h = let lt = ltb-true b j h in le-ltb j b (omega arith)
turns b j to.Low to.High ne h = let lt = ltb-true j b h in le-ltb b j (omega arith)
turns b j to.High to.Low ne h = let lt = ltb-true j b h in le-ltb b j (omega arith)
turns b j to.High to.High ne h = let lt = ltb-true b j h in le-ltb j b (omega arith)

-- the next phases of a doorway that has come past k, where k is j or stands below it
noting_knows : (b j : ℕ) (n k : ℕ) (other : Level) (r : Row) (notes : List Bool) → 1 ≤ j → j ≤ n → (j ≢ b)
    → Favours b j (heading (z_of r j)) other → (j ≤ k → is_noted notes j ≡ true) → Knows b j other r notes (noting (other_after n b k))
noting_knows b j n k other r notes low_j most_j ne fav seen_it = go (other_after n b k) (other_found n b k)
  where
    go : (o : Option ℕ) → Found n b k o → Knows b j other r notes (noting o)
    go (Some i) f = (fav, λ lt. elim (cases_lt k j) [ inl past ↦ absurd (ne (f.3 j past lt)) | inr le ↦ seen_it le ])
    go None f = (fav, elim (cases_lt k j) [ inl past ↦ absurd (ne (f j past most_j)) | inr le ↦ seen_it le ])

pairing_knows : (b j : ℕ) (n k : ℕ) (other : Level) (r : Row) (notes : List Bool) → 1 ≤ j → j ≤ n → (j ≢ b)
    → (j ≤ k → Favours b j (heading (z_of r j)) other) → Knows b j other r notes (pairing n b (other_after n b k))
pairing_knows b j n k other r notes low_j most_j ne fav = go (other_after n b k) (other_found n b k)
  where
    go : (o : Option ℕ) → Found n b k o → Knows b j other r notes (pairing n b o)
    go (Some i) f = λ lt. elim (cases_lt k j) [ inl past ↦ absurd (ne (f.3 j past lt)) | inr le ↦ fav le ]
    go None f =
        let all : Favours b j (heading (z_of r j)) other = elim (cases_lt k j) [ inl past ↦ absurd (ne (f j past most_j)) | inr le ↦ fav le ] in
        noting_knows b j n 0 other r notes low_j most_j ne all (λ le. absurd (omega arith))

-- a started board knows nothing of j yet, and has nothing to know
pub start_knows : (b j n : ℕ) (other : Level) (r : Row) (notes : List Bool) → 1 ≤ j → j ≤ n → (j ≢ b) → Knows b j other r notes (pairing n b (other_after n b 0))
start_knows b j n other r notes low_j most_j ne = pairing_knows b j n 0 other r notes low_j most_j ne (λ le. absurd (omega arith))

-- notes
put_noted : (notes : List Bool) (k j : ℕ) (t : Bool) → 1 ≤ j → (k ≢ j) → is_noted (put_at notes (place_of k) t) j ≡ is_noted notes j
put_noted notes k j t low_j ne = go (among most k) refl
  where
    go : (u : Bool) → among most k ≡ u → is_noted (put_at notes (cond u (Some (k - 1)) None) t) j ≡ is_noted notes j
    go true e = let a = from_among most k e in let low_k = a.0 in let ne' : j - 1 ≢ k - 1 = λ x. ne (omega arith) in get_or-set_other notes (k - 1) (j - 1) t false ne'
    go false e = refl

note_here : (notes : List Bool) (j : ℕ) → among most j ≡ true → length notes ≡ most → is_noted (note notes j) j ≡ true
note_here notes j e len =
    let a = from_among most j e in let low_j = a.0 in let high_j = a.1 in
    ap (λ u. is_noted (put_at notes (cond u (Some (j - 1)) None) true) j) e ∙ get_or-set_same notes (j - 1) true false (omega arith)

-- where somebody is noted, a lowest is found
some_lowest : (notes : List Bool) (i k : ℕ) → slice_index_or notes i false ≡ true → lowest_from k notes ≢ None
some_lowest [] i k h e = never h
some_lowest (true ∷ notes) i k h e = let z : ◌≡◌ {A = ℕ} 0 1 = cc in omega arith
some_lowest (false ∷ notes) zero k h e = never h
some_lowest (false ∷ notes) (suc i) k h e = some_lowest notes i (k + 1) h e

-- what a step reads of j, if it reads a line of j: a z line that rests at this level, or a y that is high
abbrev pub Reads : ℕ → Level → List Bool → Phase → Level → Type 0
Reads j other notes Out level = Unit {0}
Reads j other notes (Pairing k) level = k ≡ j → level ≡ other
Reads j other notes (Turning k) level = Unit {0}
Reads j other notes (Noting k) level = k ≡ j → level ≡ to.High
Reads j other notes Raising level = Unit {0}
Reads j other notes Watching level = lowest notes ≡ Some j → level ≡ to.High
Reads j other notes Comparing level = lowest notes ≡ Some j → level ≡ other
Reads j other notes Below level = Unit {0}
Reads j other notes Leaving level = Unit {0}

half_rest : (z : Line) → moving z ≡ false → heading (half_turned z) ≡ opposite (heading z)
half_rest Low e = refl
half_rest Rising e = never (sym e)
half_rest High e = refl
half_rest Falling e = never (sym e)

half_change : (z : Line) → moving z ≡ true → heading (half_turned z) ≡ heading z
half_change Low e = never e
half_change Rising e = refl
half_change High e = never e
half_change Falling e = refl

half_moving : (z : Line) → moving z ≡ false → moving (half_turned z) ≡ true
half_moving Low e = refl
half_moving Rising e = never (sym e)
half_moving High e = refl
half_moving Falling e = never (sym e)

-- b's own step keeps what it knows of j
pub step_knows : (n b j : ℕ) (other : Level) (r : Row) (level : Level) (out : Bool) (y : Line) (notes : List Bool) (p : Phase)
    → 1 ≤ j → j ≤ n → among most j ≡ true → (j ≢ b) → length notes ≡ most → length r.z ≡ most
    → ((k : ℕ) → p ≡ Pairing k → moving (z_of r j) ≡ false) → Reads j other notes p level → Knows b j other r notes p
    → Knows b j other (row_step r out y p) (door_step n b r level out y notes p).notes (door_step n b r level out y notes p).phase
step_knows n b j other r level out y notes Out p1 p2 here ne long wide rest reads k = tt
step_knows n b j other r level out y notes (Pairing i) p1 p2 here ne long wide rest reads k = go (favours b (heading (z_of r i)) i level) refl
  where
    go : (t : Bool) → favours b (heading (z_of r i)) i level ≡ t → Knows b j other r notes (paired n b i t)
    go true e = (
      k,
      λ same m. absurd (true≢false (moving (z_of r j)) m (rest i refl)),
      λ same m. turns b j (heading (z_of r j)) other ne
          (subst (λ x. favours b (heading (z_of r x)) x other ≡ true) (sym same) (subst (λ v. favours b (heading (z_of r i)) i v ≡ true) (reads (sym same)) e)),
    )
    go false e =
        pairing_knows b j n i other r notes p1 p2 ne (λ le. elim (cases_eq j i) [
          | inl same ↦ subst (λ x. Favours b x (heading (z_of r x)) other) (sym same) (subst (λ v. favours b (heading (z_of r i)) i v ≡ false) (reads (sym same)) e)
          | inr other_board ↦ k (omega arith)
        ])
step_knows n b j other r level out y notes (Turning i) p1 p2 here ne long wide rest reads k = go (moving (z_of r i)) refl
  where
    -- the z line for j where another line is turned, and where it is turned itself
    kept : (i ≢ j) → z_of (turned r i) j ≡ z_of r j
    kept apart = turned_other r i j apart

    own : i ≡ j → z_of (turned r i) j ≡ half_turned (z_of r j)
    own e = ap (λ x. z_of (turned r x) j) e ∙ turned_here r j here wide

    go : (t : Bool) → moving (z_of r i) ≡ t → Knows b j other (turned r i) notes (turned_on n b i t)
    go true e =
        pairing_knows b j n i other (turned r i) notes p1 p2 ne (λ le. elim (cases_eq i j) [
          | inl here_it ↦
              let m : moving (z_of r j) ≡ true = subst (λ x. moving (z_of r x) ≡ true) here_it e in
              subst (λ x. Favours b j x other) (sym (ap heading (own here_it) ∙ half_change (z_of r j) m)) (k.1 (sym here_it) m)
          | inr apart ↦ subst (λ z. Favours b j (heading z) other) (sym (kept apart)) (k.0 (omega arith))
        ])
    go false e = (
      λ lt. subst (λ z. Favours b j (heading z) other) (sym (kept (λ x. omega arith))) (k.0 lt),
      λ same _.
          let m : moving (z_of r j) ≡ false = subst (λ x. moving (z_of r x) ≡ false) (sym same) e in
          subst (λ x. Favours b j x other) (sym (ap heading (own (sym same)) ∙ half_rest (z_of r j) m)) (k.2 same m),
      λ same n_moving.
          let m : moving (z_of r j) ≡ false = subst (λ x. moving (z_of r x) ≡ false) (sym same) e in
          absurd (true≢false (moving (z_of (turned r i) j)) (ap moving (own (sym same)) ∙ half_moving (z_of r j) m) n_moving),
    )
step_knows n b j other r level out y notes (Noting i) p1 p2 here ne long wide rest reads k = noting_knows b j n i other r (noted notes i level) p1 p2 ne k.0 seen_it
  where
    keeps : (v : Level) → (i ≢ j) → is_noted (noted notes i v) j ≡ is_noted notes j
    keeps to.Low apart = refl
    keeps to.High apart = put_noted notes i j true p1 apart

    seen_it : j ≤ i → is_noted (noted notes i level) j ≡ true
    seen_it le =
        elim (cases_eq i j) [
          | inl same ↦ ap (λ v. is_noted (noted notes i v) j) (reads same) ∙ ap (λ x. is_noted (note notes x) j) same ∙ note_here notes j here long
          | inr apart ↦ keeps level apart ∙ k.1 (omega arith)
        ]
step_knows n b j other r level out y notes Raising p1 p2 here ne long wide rest reads k = go (moving y)
  where
    go : (t : Bool) → Knows b j other r (cond t (door (ended y) Watching notes) (door (begun y to.High) Raising notes)).notes (cond t (door (ended y) Watching notes) (door (begun y to.High) Raising notes)).phase
    go true = k
    go false = k
step_knows n b j other r level out y notes Watching p1 p2 here ne long wide rest reads k = go (lowest notes) refl level reads
  where
    go : (o : Option ℕ) → lowest notes ≡ o → (v : Level) → (lowest notes ≡ Some j → v ≡ to.High) → Knows b j other r (watched y notes out v o).notes (watched y notes out v o).phase
    go None e v rd = absurd (some_lowest notes (j - 1) 1 k.1 e)
    go (Some i) e to.Low rd = (
      k.0,
      elim (cases_eq i j) [
        | inl same ↦ never_low (rd (e ∙ ap Some same))
        | inr apart ↦ put_noted notes i j false p1 apart ∙ k.1
      ],
    )
      where
        never_low : {P : Type 0} → to.Low ≡ to.High → P
        never_low z = let o : ◌≡◌ {A = ℕ} 0 1 = cc in absurd (omega arith)
    go (Some i) e to.High rd = k
step_knows n b j other r level out y notes Comparing p1 p2 here ne long wide rest reads k = go (lowest notes) refl
  where
    go : (o : Option ℕ) → lowest notes ≡ o → Knows b j other r (compared b r level y notes o).notes (compared b r level y notes o).phase
    go None e = absurd (some_lowest notes (j - 1) 1 k.1 e)
    go (Some i) e = (k.0, still (favours b (heading (z_of r i)) i level) refl)
      where
        still : (t : Bool) → favours b (heading (z_of r i)) i level ≡ t → is_noted (cond t (strike notes i) notes) j ≡ true
        still true f =
            elim (cases_eq i j) [
              | inl same ↦ absurd (true≢false (favours b (heading (z_of r j)) j other)
                  (subst (λ x. favours b (heading (z_of r x)) x other ≡ true) same (subst (λ v. favours b (heading (z_of r i)) i v ≡ true) (reads (e ∙ ap Some same)) f)) k.0)
              | inr apart ↦ put_noted notes i j false p1 apart ∙ k.1
            ]
        still false f = k.1
step_knows n b j other r level out y notes Below p1 p2 here ne long wide rest reads k = absurd k
step_knows n b j other r level true Low notes Leaving p1 p2 here ne long wide rest reads k = tt
step_knows n b j other r level true Rising notes Leaving p1 p2 here ne long wide rest reads k = tt
step_knows n b j other r level true High notes Leaving p1 p2 here ne long wide rest reads k = tt
step_knows n b j other r level true Falling notes Leaving p1 p2 here ne long wide rest reads k = tt
step_knows n b j other r level false y notes Leaving p1 p2 here ne long wide rest reads k = tt
