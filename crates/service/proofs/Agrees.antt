-- What a history and the view that it leads to have in common.
use Rattle.std.proofs.Common.{◌≡◌, ℕ, ◌-◌, ◌<◌, ◌≤◌, Bool, true, false, List, ◌∷◌, length, set, sym, refl, ap, ◌∙◌, subst, inl, inr, arith}
use Rattle.std.proofs.lemmas.Bool.{cases_eq, both_ways}
use Rattle.std.proofs.lemmas.List.{length-set, get_or-set_same, get_or-set_other}
use Rattle.lock.specs.declared.boards.Boards.{Boards}
use Rattle.lock.specs.declared.station.Call.{Call}
use Rattle.lock.specs.declared.station.Station.{Station}
use Rattle.lock.specs.declared.station.Station.TheVariants.{Out as Outside, Trying, Inside as Within, Leaving as Going}
use Rattle.lock.specs.Most.{most}
use Rattle.lock.specs.Stations.{among, board, at, accepted}
use Rattle.lock.proofs.Stations.{from_among}
use Rattle.service.specs.declared.record.Record.{Record}
use Rattle.service.specs.declared.record.Stage.{Stage}
use Rattle.service.specs.declared.record.Stage.TheVariants.{Arrived, StartPut, StopPut, StartTaken, StopTaken}
use Rattle.service.specs.declared.standing.Standing.{Standing}
use Rattle.service.specs.declared.standing.Standing.TheVariants.{Out, Doorway, Waiting, Inside, Leaving}
use Rattle.service.specs.History.{Entry, History, Asking, station}
use Rattle.service.specs.Records.{blank, is_waiting}
use Rattle.service.specs.Rule.{Lockwork, Counts, View, own, with_sets}
use Rattle.service.proofs.Reached.{Keeps, Reached, reached_next, doors_at, length_at, others_at}
use Rattle.service.proofs.Says.{who, Said, says, says_other}

-- the station in the lock
abbrev pub as_lock : Standing → Station
as_lock Out = Outside
as_lock Doorway = Trying
as_lock Waiting = Trying
as_lock Inside = Within
as_lock Leaving = Going

-- the steps that a board has done inside
abbrev pub number : Stage → ℕ
number Arrived = 0
number StartPut = 1
number StopPut = 2
number (StartTaken m) = 3
number (StopTaken m k) = 4

-- what the interpolator and the taken counts have to do with the counts asked for
abbrev pub Work : Stage → Counts → Asking → Type 0
Work Arrived c a = Unit {0}
Work StartPut c a = c.start ≡ a.from
Work StopPut c a = (c.start ≡ a.from) × (c.stop ≡ a.to)
Work (StartTaken m) c a = (m ≡ a.from) × (c.stop ≡ a.to)
Work (StopTaken m k) c a = (m ≡ a.from) × (k ≡ a.to)

abbrev pub Busy : Standing → ℕ → Counts → Asking → Stage → Type 0
Busy Out d c a g = Unit {0}
Busy Doorway d c a g = Unit {0}
Busy Waiting d c a g = Unit {0}
Busy Inside d c a g = (d ≡ number g) × Work g c a
Busy Leaving d c a g = Unit {0}

-- one board: what is said of it, its record, its station in the lock, whether it waits there, the counts
pub record Fits (full : ℕ) (s : Said) (r : Record) (t : Station) (w : Bool) (c : Counts) : Type 0 where
  pub standing : r.standing ≡ s.0
  pub below : t ≡ as_lock s.0
  pub waits : w ≡ is_waiting s.0
  pub start : r.start ≡ s.1.from
  pub stop : r.stop ≡ s.1.to
  pub small : s.1.from ≤ full
  pub small' : s.1.to ≤ full
  pub busy : Busy s.0 s.2 c s.1 r.stage

busy_counts : (s : Standing) (d : ℕ) (c c' : Counts) (a : Asking) (g : Stage) → (s ≡ Inside → c' ≡ c) → Busy s d c a g → Busy s d c' a g
busy_counts Out d c c' a g e h = tt
busy_counts Doorway d c c' a g e h = tt
busy_counts Waiting d c c' a g e h = tt
busy_counts Inside d c c' a g e h = subst (λ x. Busy Inside d x a g) (sym (e refl)) h
busy_counts Leaving d c c' a g e h = tt

fits_counts : (full : ℕ) (s : Said) (r : Record) (t : Station) (w : Bool) (c c' : Counts) → (s.0 ≡ Inside → c' ≡ c) → Fits full s r t w c → Fits full s r t w c'
fits_counts full s r t w c c' e f = record {
  standing = f.standing;
  below = f.below;
  waits = f.waits;
  start = f.start;
  stop = f.stop;
  small = f.small;
  small' = f.small';
  busy = busy_counts s.0 s.2 c c' s.1 r.stage e f.busy;
}

module _ {S : Type 0} (W : Lockwork S) (full : ℕ) where
  abbrev pub FitsAt : View S → ℕ → Said → Type 0
  FitsAt v b s = Fits full s (own v b) (at (W.stations v.lock) b) (W.waits v.lock b) v.counts

  pub record Agrees (n : Boards) (h : History) (v : View S) : Type 0 where
    pub boards : v.boards ≡ n
    pub long : length v.records ≡ most
    pub real : Reached W n v.lock
    pub size : length (W.stations v.lock) ≡ n.count
    pub nobody : (b : ℕ) → among n.count b ≡ false → station h b ≡ Out
    pub each : (b : ℕ) → among n.count b ≡ true → FitsAt v b (says h b)

  -- the sets ahead are another matter
  pub agrees_sets : (n : Boards) (h : History) (v : View S) (ss : List (List Bool)) → Agrees n h v → Agrees n h (with_sets v ss)
  agrees_sets n h v ss g = record { boards = g.boards; long = g.long; real = g.real; size = g.size; nobody = g.nobody; each = g.each }

  -- a refused call
  pub agrees_same : (n : Boards) (h : History) (v : View S) (x : Entry) → ((j : ℕ) → says (x ∷ h) j ≡ says h j) → Agrees n h v → Agrees n (x ∷ h) v
  agrees_same n h v x same g = record {
    boards = g.boards;
    long = g.long;
    real = g.real;
    size = g.size;
    nobody = λ b t. ap (λ s. s.0) (same b) ∙ g.nobody b t;
    each = λ b t. subst (FitsAt v b) (sym (same b)) (g.each b t);
  }

  pub known : (n : Boards) (h : History) (v : View S) (b : ℕ) → Agrees n h v → among n.count b ≡ true → (1 ≤ b) × (b ≤ length (W.stations v.lock))
  known n h v b g t = let r = from_among n.count b t in let q = r.1 in let s = g.size in (r.0, omega arith)

  -- a call of board b on the lock
  pub record Moved (n : Boards) (b : ℕ) (l l' : S) : Type 0 where
    pub real : Reached W n l'
    pub size : length (W.stations l') ≡ length (W.stations l)
    pub stays : (j : ℕ) → (j ≡ b → ⊥) → 1 ≤ j → at (W.stations l') j ≡ at (W.stations l) j
    pub doors : (j : ℕ) → (j ≡ b → ⊥) → W.waits l' j ≡ W.waits l j

  pub unmoved : (n : Boards) (b : ℕ) (l : S) → Reached W n l → Moved n b l l
  unmoved n b l r = record { real = r; size = refl; stays = λ j _ _. refl; doors = λ j _. refl }

  pub by_call : Keeps W → (n : Boards) (l : S) (c : Call) → Reached W n l → accepted (W.stations l) c ≡ true → Moved n (board c) l (W.after l c)
  by_call K n l c r acc = record {
    real = reached_next W n l c r;
    size = length_at W K n l r c acc;
    stays = others_at W K n l r c acc;
    doors = (doors_at W K n l r c acc).1;
  }

  abbrev pub changed : View S → S → Counts → ℕ → Record → View S
  changed v l c b r = record { boards = v.boards; lock = l; counts = c; records = set v.records (b - 1) r; sets = v.sets }

  -- one board has moved; the counts change only if no other is inside
  pub acts : (n : Boards) (h : History) (v : View S) (x : Entry) (l : S) (c : Counts) (r : Record) (s : Said)
      → Agrees n h v → among n.count (who x) ≡ true → Moved n (who x) v.lock l
      → ((j : ℕ) → (j ≡ who x → ⊥) → among n.count j ≡ true → station h j ≡ Inside → c ≡ v.counts)
      → says (x ∷ h) (who x) ≡ s → Fits full s r (at (W.stations l) (who x)) (W.waits l (who x)) c
      → Agrees n (x ∷ h) (changed v l c (who x) r)
  acts n h v x l c r s g t k counts e f = record {
    boards = g.boards;
    long = length-set v.records (who x - 1) r ∙ g.long;
    real = k.real;
    size = k.size ∙ g.size;
    nobody = λ b no_b. ap (λ y. y.0) (says_other x h b (λ same. both_ways (among n.count b) no_b (ap (among n.count) (sym same) ∙ t))) ∙ g.nobody b no_b;
    each = λ b t'. elim (cases_eq b (who x)) [ inl same ↦ subst (λ y. FitsAt (changed v l c (who x) r) y (says (x ∷ h) y)) (sym same) mine | inr ne ↦ others b ne t' ];
  }
    where
      low_end : 1 ≤ who x
      low_end = (from_among n.count (who x) t).0

      mine : FitsAt (changed v l c (who x) r) (who x) (says (x ∷ h) (who x))
      mine =
          let high = (from_among n.count (who x) t).1 in let few = n.few in let len = g.long in let p = low_end in
          let in_it : who x - 1 < length v.records = omega arith in
          subst (λ y. FitsAt (changed v l c (who x) r) (who x) y) (sym e)
          (subst (λ y. Fits full s y (at (W.stations l) (who x)) (W.waits l (who x)) c) (sym (get_or-set_same v.records (who x - 1) r blank in_it)) f)

      others : (b : ℕ) → (b ≡ who x → ⊥) → among n.count b ≡ true → FitsAt (changed v l c (who x) r) b (says (x ∷ h) b)
      others b ne t' =
          let p = (from_among n.count b t').0 in let q = low_end in
          let ne' : b - 1 ≡ who x - 1 → ⊥ = λ y. ne (omega arith) in
          let f₀ = fits_counts full (says h b) (own v b) (at (W.stations v.lock) b) (W.waits v.lock b) v.counts c (counts b ne t') (g.each b t') in
          let f₁ = subst (λ y. Fits full (says h b) y (at (W.stations v.lock) b) (W.waits v.lock b) c) (sym (get_or-set_other v.records (who x - 1) (b - 1) r blank ne')) f₀ in
          let f₂ = subst (λ y. Fits full (says h b) (own (changed v l c (who x) r) b) y (W.waits v.lock b) c) (sym (k.stays b ne p)) f₁ in
          let f₃ = subst (λ y. Fits full (says h b) (own (changed v l c (who x) r) b) (at (W.stations l) b) y c) (sym (k.doors b ne)) f₂ in
          subst (λ y. FitsAt (changed v l c (who x) r) b y) (sym (says_other x h b (λ y. ne (sym y)))) f₃
