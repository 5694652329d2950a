-- The stations that a layer shows, board by board.
use Rattle.std.specs.Prelude.{◌≡◌, ℕ, zero, suc, ◌+◌, ◌-◌, ◌<◌, ◌≤◌, Bool, true, false, cond, List, [], ◌∷◌, length, get_or, Ok, Err, Result, ◌≢◌, slice_index_or, refl}
use Rattle.std.proofs.Common.{sym, ap, ◌∙◌, inl, inr, arith}
use Rattle.std.proofs.lemmas.Bool.{cases_eq, cases_lt}
use Rattle.std.proofs.lemmas.List.{same_lists, length-set, get_or-set_same, get_or-set_other, get_or_past, get_or_default}
use Rattle.line.specs.declared.Line.TheVariants.{Low}
use Rattle.lock.specs.declared.boards.Boards.{Boards}
use Rattle.lock.specs.declared.station.Call.{Call}
use Rattle.lock.specs.declared.station.Refusal.{Refusal}
use Rattle.lock.specs.declared.station.Refusal.TheVariants.{NoSuchBoard}
use Rattle.lock.specs.declared.station.Station.{Station}
use Rattle.lock.specs.declared.station.Station.TheVariants as at
use Rattle.lock.specs.Order.{waits_told}
use Rattle.lock.specs.Stations.{among, told}
use Rattle.lock.specs.Stations as stations
use Rattle.lock.specs.Tables.{listed, kept_for, asked}
use Rattle.lock.proofs.Stations.{among_from, from_among, true≢false}
use Rattle.queue.specs.declared.state.Door.{Door}
use Rattle.queue.specs.declared.state.Phase.TheVariants.{Out}
use Rattle.queue.specs.declared.state.Queue.{Queue}
use Rattle.queue.specs.Rule.{door, none, station, station_there, shown_from, shown, door_at, door_there as door_of, waits_at, waits, new_queue, queue_after}

shown_length : (ss : List Station) (b : ℕ) (ds : List Door) → length (shown_from ss b ds) ≡ length ds
shown_length ss b [] = refl
shown_length ss b (d ∷ ds) = ap suc (shown_length ss (b + 1) ds)

shown_at : (ss : List Station) (b i : ℕ) (ds : List Door) (s : Station) (d : Door) → i < length ds
    → slice_index_or (shown_from ss b ds) i s ≡ station (stations.at ss (b + i)) (get_or ds i d).phase
shown_at ss b i [] s d h = absurd (omega arith)
shown_at ss b zero (e ∷ ds) s d h = ap (λ k. station (stations.at ss k) e.phase) (omega arith)
shown_at ss b (suc i) (e ∷ ds) s d h =
    shown_at ss (b + 1) i ds s d (omega arith) ∙ ap (λ k. station (stations.at ss k) (get_or ds i d).phase) (omega arith)

module _ {L : Type 0} (below : L → List Station) where
  -- board b is one of the layer's
  abbrev pub There : Queue L → ℕ → Type 0
  There q b = (1 ≤ b) × (b ≤ length (listed q.doors))

  pub length_shown : (q : Queue L) → length (shown below q) ≡ length (listed q.doors)
  length_shown q = shown_length (below q.below) 1 (listed q.doors)

  pub door_there : (q : Queue L) (b : ℕ) → There q b → door_at q b ≡ slice_index_or (listed q.doors) (b - 1) (door Low Out none)
  door_there q b h = let k = among_from (length (listed q.doors)) b h.0 h.1 in rw k

  pub at_shown : (q : Queue L) (b : ℕ) → There q b → stations.at (shown below q) b ≡ station (stations.at (below q.below) b) (door_at q b).phase
  at_shown q b h =
      let low = h.0 in let high = h.1 in
      let lt : b - 1 < length (listed q.doors) = omega arith in
      shown_at (below q.below) 1 (b - 1) (listed q.doors) at.Out (door Low Out none) lt
      ∙ ap (λ k. station (stations.at (below q.below) k) (get_or (listed q.doors) (b - 1) (door Low Out none)).phase) (omega arith)
      ∙ ap (λ d. station (stations.at (below q.below) b) d.phase) (sym (door_there q b h))

  -- whether a board of the layer's waits
  pub waits_there : (q : Queue L) (b : ℕ) → There q b → waits below q b ≡ waits_at (stations.at (below q.below) b) (door_at q b).phase
  waits_there q b h =
      ap (λ t. cond t (waits_at (stations.at (below q.below) b) (door_at q b).phase) false) (among_from (length (listed q.doors)) b h.0 h.1)

  -- what is told of a board
  pub told_there : (q : Queue L) (b : ℕ) → kept_for q.doors b ≡ true → told (shown below q) b ≡ Ok (station (stations.at (below q.below) b) (door_at q b).phase)
  told_there q b k =
      ap (λ n. cond (among n b) (Ok (stations.at (shown below q) b)) (Err NoSuchBoard)) (length_shown q)
      ∙ ap (λ t. cond t (Ok (stations.at (shown below q) b)) (Err NoSuchBoard)) k
      ∙ ap Ok (at_shown q b (from_among (length (listed q.doors)) b k))

  pub told_absent : (q : Queue L) (b : ℕ) → kept_for q.doors b ≡ false → told (shown below q) b ≡ Err NoSuchBoard
  told_absent q b k =
      ap (λ n. cond (among n b) (Ok (stations.at (shown below q) b)) (Err NoSuchBoard)) (length_shown q)
      ∙ ap (λ t. cond t (Ok (stations.at (shown below q) b)) (Err NoSuchBoard)) k

-- a board that the lock below does not know is out there, as far as anybody is told
pub at_absent : (ss : List Station) (b : ℕ) → 1 ≤ b → among (length ss) b ≡ false → stations.at ss b ≡ at.Out
at_absent ss b low f =
    elim (cases_lt (length ss) b) [
      | inl lt ↦ get_or_past ss (b - 1) at.Out (omega arith)
      | inr le ↦ absurd (true≢false (among (length ss) b) (among_from (length ss) b low le) f)
    ]

pub told_below : (ss : List Station) (b : ℕ) → 1 ≤ b → station_there (told ss b) ≡ stations.at ss b
told_below ss b low = go (among (length ss) b) refl
  where
    go : (k : Bool) → among (length ss) b ≡ k → station_there (cond k (Ok (stations.at ss b)) (Err NoSuchBoard)) ≡ stations.at ss b
    go true e = refl
    go false e = sym (at_absent ss b low e)

module _ {L : Type 0} (below : L → List Station) where
  -- the record of a board says what is told of it
  pub told_record : (q : Queue L) (b : ℕ) (d : Door) (s : Station) → asked q.doors b (door Low Out none) ≡ Ok d → s ≡ station_there (told (below q.below) b)
      → Ok (station s d.phase) ≡ told (shown below q) b
  told_record q b d s r e = go (kept_for q.doors b) refl
    where
      never : ◌≡◌ {A = Result Door Refusal} (Err NoSuchBoard) (Ok d) → ⊥
      never z = let o : ◌≡◌ {A = ℕ} 0 1 = cc in omega arith

      go : (k : Bool) → kept_for q.doors b ≡ k → Ok (station s d.phase) ≡ told (shown below q) b
      go true k =
          let h = from_among (length (listed q.doors)) b k in
          ap (λ t. Ok (station t d.phase)) (e ∙ told_below (below q.below) b h.0)
          ∙ ap (λ x. Ok (station (stations.at (below q.below) b) x.phase)) (sym (ap door_of r))
          ∙ sym (told_there below q b k)
      go false k = let z : Err NoSuchBoard ≡ Ok d = sym (ap (λ t. cond t (Ok (slice_index_or (listed q.doors) (b - 1) (door Low Out none))) (Err NoSuchBoard)) k) ∙ r in absurd (never z)

  pub told_refused : (q : Queue L) (b : ℕ) (e : Refusal) → asked q.doors b (door Low Out none) ≡ Err e → Err e ≡ told (shown below q) b
  told_refused q b e r = go (kept_for q.doors b) refl
    where
      never : (d : Door) → ◌≡◌ {A = Result Door Refusal} (Ok d) (Err e) → ⊥
      never d z = let o : ◌≡◌ {A = ℕ} 0 1 = cc in omega arith

      go : (k : Bool) → kept_for q.doors b ≡ k → Err e ≡ told (shown below q) b
      go true k = absurd (never _ (sym (ap (λ t. cond t (Ok (slice_index_or (listed q.doors) (b - 1) (door Low Out none))) (Err NoSuchBoard)) k) ∙ r))
      go false k =
          let same : ◌≡◌ {A = Result Door Refusal} (Err NoSuchBoard) (Err e) = sym (ap (λ t. cond t (Ok (slice_index_or (listed q.doors) (b - 1) (door Low Out none))) (Err NoSuchBoard)) k) ∙ r in
          let eq : NoSuchBoard ≡ e = cc in ap Err (sym eq) ∙ sym (told_absent below q b k)

module _ {L : Type 0} (fresh : Boards → L) (after : L → Call → L) (below : L → List Station) where
  -- the same of whether it waits
  abbrev asked_waits : Queue L → ℕ → Result Bool Refusal
  asked_waits q b = waits_told (new_queue fresh) (queue_after after below) (shown below) (waits below) q b

  waits_as : (q : Queue L) (b : ℕ) → asked_waits q b ≡ cond (kept_for q.doors b) (Ok (waits below q b)) (Err NoSuchBoard)
  waits_as q b = ap (λ n. cond (among n b) (Ok (waits below q b)) (Err NoSuchBoard)) (length_shown below q)

  pub waits_record : (q : Queue L) (b : ℕ) (d : Door) (s : Station) → asked q.doors b (door Low Out none) ≡ Ok d → s ≡ station_there (told (below q.below) b)
      → Ok (waits_at s d.phase) ≡ asked_waits q b
  waits_record q b d s r e = go (kept_for q.doors b) refl ∙ sym (waits_as q b)
    where
      never : ◌≡◌ {A = Result Door Refusal} (Err NoSuchBoard) (Ok d) → ⊥
      never z = let o : ◌≡◌ {A = ℕ} 0 1 = cc in omega arith

      go : (k : Bool) → kept_for q.doors b ≡ k → Ok (waits_at s d.phase) ≡ cond k (Ok (waits below q b)) (Err NoSuchBoard)
      go true k =
          let h = from_among (length (listed q.doors)) b k in
          ap (λ t. Ok (waits_at t d.phase)) (e ∙ told_below (below q.below) b h.0)
          ∙ ap (λ x. Ok (waits_at (stations.at (below q.below) b) x.phase)) (sym (ap door_of r))
          ∙ ap Ok (sym (waits_there below q b h))
      go false k = absurd (never (sym (ap (λ t. cond t (Ok (slice_index_or (listed q.doors) (b - 1) (door Low Out none))) (Err NoSuchBoard)) k) ∙ r))

  pub waits_refused : (q : Queue L) (b : ℕ) (e : Refusal) → asked q.doors b (door Low Out none) ≡ Err e → Err e ≡ asked_waits q b
  waits_refused q b e r = go (kept_for q.doors b) refl ∙ sym (waits_as q b)
    where
      never : (d : Door) → ◌≡◌ {A = Result Door Refusal} (Ok d) (Err e) → ⊥
      never d z = let o : ◌≡◌ {A = ℕ} 0 1 = cc in omega arith

      go : (k : Bool) → kept_for q.doors b ≡ k → Err e ≡ cond k (Ok (waits below q b)) (Err NoSuchBoard)
      go true k = absurd (never _ (sym (ap (λ t. cond t (Ok (slice_index_or (listed q.doors) (b - 1) (door Low Out none))) (Err NoSuchBoard)) k) ∙ r))
      go false k =
          let same : ◌≡◌ {A = Result Door Refusal} (Err NoSuchBoard) (Err e) = sym (ap (λ t. cond t (Ok (slice_index_or (listed q.doors) (b - 1) (door Low Out none))) (Err NoSuchBoard)) k) ∙ r in
          let eq : NoSuchBoard ≡ e = cc in ap Err (sym eq)

-- the stations once board b stands at s and all others stand where they stood
pub moved_only : (ss ts : List Station) (b : ℕ) (s : Station) → 1 ≤ b → b ≤ length ss → length ts ≡ length ss → stations.at ts b ≡ s
    → ((j : ℕ) → 1 ≤ j → j ≤ length ss → (j ≢ b) → stations.at ts j ≡ stations.at ss j) → ts ≡ stations.with ss b s
moved_only ss ts b s low high len here others = same_lists ts (stations.with ss b s) (len ∙ sym (length-set ss (b - 1) s)) each
  where
    each : (k : ℕ) (d : Station) → k < length ts → slice_index_or ts k d ≡ slice_index_or (stations.with ss b s) k d
    each k d lt =
        let lt' : k < length ss = omega arith in
        let lens = length-set ss (b - 1) s in
        let lt'' : k < length (stations.with ss b s) = omega arith in
        get_or_default ts k d at.Out lt ∙ elim (cases_eq k (b - 1)) [
          | inl same ↦ ap (λ i. get_or ts i at.Out) same ∙ here ∙ sym (get_or-set_same ss (b - 1) s at.Out (omega arith)) ∙ ap (λ i. get_or (stations.with ss b s) i at.Out) (sym same)
          | inr ne ↦ ap (λ i. get_or ts i at.Out) (omega arith) ∙ others (k + 1) (omega arith) (omega arith) (λ e. ne (omega arith)) ∙ ap (λ i. get_or ss i at.Out) (omega arith) ∙ sym (get_or-set_other ss (b - 1) k s at.Out ne)
        ] ∙ sym (get_or_default (stations.with ss b s) k d at.Out lt'')
