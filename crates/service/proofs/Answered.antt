-- Every call keeps the agreement of history and view, and is answered as it should be.
use Rattle.std.proofs.Common.{◌≡◌, ℕ, zero, suc, ◌-◌, ◌<◌, Bool, true, false, cond, ◌&&◌, leb, ◌⊎◌, [], ◌∷◌, ◌++◌, length, get_or, replicate, Ok, Err, Result, sym, refl, ap, ◌∙◌, subst, inl, inr, arith}
use Rattle.std.proofs.lemmas.Bool.{cases_Bool, leb-true, and_parts, cond-true, cond-false}
use Rattle.std.proofs.lemmas.List.{get_or-map, length-replicate}
use Rattle.lock.specs.declared.boards.Boards.{Boards}
use Rattle.lock.specs.declared.station.Call.TheVariants.{Start, Pull}
use Rattle.lock.specs.declared.station.Station.TheVariants.{Out as Outside, Trying, Inside as Within, Leaving as Going}
use Rattle.lock.specs.Most.{most}
use Rattle.lock.specs.Stations.{among, at}
use Rattle.lock.proofs.Stations.{among_from, from_among, replicate_at, stands_with, out≢trying, trying≢leaving}
use Rattle.service.specs.declared.progress.Progress.{Progress}
use Rattle.service.specs.declared.refusal.Refusal.{Refusal}
use Rattle.service.specs.declared.refusal.Refusal.TheVariants.{NoSuchBoard}
use Rattle.service.specs.declared.standing.Standing.{Standing}
use Rattle.service.specs.declared.standing.Standing.TheVariants.{Out, Doorway, Waiting, Inside, Leaving}
use Rattle.service.specs.History.{Entry, Asked, Stepped, Pulled, History, station, waiting, asked, since_entry, bits}
use Rattle.service.specs.Law.{ask_at, pull_at, Rightly}
use Rattle.service.specs.Records.{blank, given, gone, waits, is_waiting}
use Rattle.service.specs.Rule.{Lockwork, View, own, there, marked, waiting_now, with_own, with_lock, new_view, step_outcome, step_answer, step_leaves, ask_leaves, pull_leaves, trace, Given}
use Rattle.service.proofs.Bits.{bits_same}
use Rattle.service.proofs.Reached.{Keeps, may_start, may_pull, waits_not, moves_at, doors_at}
use Rattle.service.proofs.Says.{says_ask, says_pull, says_no_ask, says_no_step, says_no_pull}
use Rattle.service.proofs.Agrees.{as_lock, Agrees, agrees_sets, agrees_same, known, by_call, acts}
use Rattle.service.proofs.Follows.{any_step}

-- what an accepted ask, an accepted pull shows
pub ask_ok : (t : Bool) (s : Standing) (small : Bool) (boards x : ℕ) → Ok x ≡ cond t (ask_at s small boards) (Err NoSuchBoard) → (t ≡ true) × (s ≡ Out) × (small ≡ true)
ask_ok true Out true boards x e = (refl, refl, refl)
ask_ok true Out false boards x e = let z : ◌≡◌ {A = ℕ} 0 1 = cc in absurd (omega arith)
ask_ok true Doorway small boards x e = let z : ◌≡◌ {A = ℕ} 0 1 = cc in absurd (omega arith)
ask_ok true Waiting small boards x e = let z : ◌≡◌ {A = ℕ} 0 1 = cc in absurd (omega arith)
ask_ok true Inside small boards x e = let z : ◌≡◌ {A = ℕ} 0 1 = cc in absurd (omega arith)
ask_ok true Leaving small boards x e = let z : ◌≡◌ {A = ℕ} 0 1 = cc in absurd (omega arith)
ask_ok false s small boards x e = let z : ◌≡◌ {A = ℕ} 0 1 = cc in absurd (omega arith)

pub pull_ok : (t : Bool) (s : Standing) (u : Unit) → Ok u ≡ cond t (pull_at s) (Err NoSuchBoard) → (t ≡ true) × ((as_lock s ≡ Trying) ⊎ (as_lock s ≡ Within))
pull_ok true Out u e = let z : ◌≡◌ {A = ℕ} 0 1 = cc in absurd (omega arith)
pull_ok true Doorway u e = (refl, inl refl)
pull_ok true Waiting u e = (refl, inl refl)
pull_ok true Inside u e = (refl, inr refl)
pull_ok true Leaving u e = let z : ◌≡◌ {A = ℕ} 0 1 = cc in absurd (omega arith)
pull_ok false s u e = let z : ◌≡◌ {A = ℕ} 0 1 = cc in absurd (omega arith)

blank_at : (k i : ℕ) → get_or (replicate k blank) i blank ≡ blank
blank_at zero i = refl
blank_at (suc k) zero = refl
blank_at (suc k) (suc i) = blank_at k i

module _ {S : Type 0} (W : Lockwork S) (full : ℕ) (K : Keeps W) where
  abbrev Agreed : Boards → History → View S → Type 0
  Agreed = Agrees W full

  first : (n : Boards) → Agreed n [] (new_view W full n)
  first n =
      let out = K.begins n in
      let at_out : (b : ℕ) → at (W.stations (W.fresh n)) b ≡ Outside = λ b. ap (λ ss. at ss b) out ∙ replicate_at Outside n.count (b - 1) in
      record {
        boards = refl;
        long = length-replicate most blank;
        real = ([], refl);
        size = ap length out ∙ length-replicate n.count Outside;
        nobody = λ b _. refl;
        each = λ b t.
            let e : own (new_view W full n) b ≡ blank = blank_at most (b - 1) in record {
              standing = ap (λ x. x.standing) e;
              below = at_out b;
              waits = waits_not W K n (W.fresh n) ([], refl) b (λ x. out≢trying (sym (at_out b) ∙ x));
              start = ap (λ x. x.start) e;
              stop = ap (λ x. x.stop) e;
              small = omega arith;
              small' = omega arith;
              busy = tt;
            };
      }

  -- who is waiting, by the records and by the history
  pub waiting_same : (n : Boards) (h : History) (v : View S) (j : ℕ) → Agreed n h v → among n.count j ≡ true → marked (waiting_now v) j ≡ waiting h j
  waiting_same n h v j g t =
      let r = from_among n.count j t in let low = r.0 in let high = r.1 in let few = n.few in let len = g.long in
      let in_it : j - 1 < length v.records = omega arith in
      get_or-map waits v.records (j - 1) blank false in_it ∙ ap is_waiting (g.each j t).standing

  set_same : (n : Boards) (h : History) (v : View S) → Agreed n h v → bits (marked (waiting_now v)) v.boards.count ≡ bits (waiting h) n.count
  set_same n h v g =
      ap (λ y. bits (marked (waiting_now v)) y.count) g.boards
      ∙ bits_same (marked (waiting_now v)) (waiting h) n.count (λ j p q. waiting_same n h v j g (among_from n.count j p q))

  -- an answer by the records is the answer by the history
  pub by_history : {A : Type 0} (n : Boards) (h : History) (v : View S) (b : ℕ) (F : Standing → A) (x : A) → Agreed n h v
      → cond (there v b) (F (own v b).standing) x ≡ cond (among n.count b) (F (station h b)) x
  by_history n h v b F x g =
      ap (λ y. cond (among y.count b) (F (own v b).standing) x) g.boards
      ∙ elim (cases_Bool (among n.count b)) [
        | inl t ↦ ap (λ s. cond (among n.count b) (F s) x) (g.each b t).standing
        | inr f ↦ cond-false (among n.count b) (F (own v b).standing) x f ∙ sym (cond-false (among n.count b) (F (station h b)) x f)
      ]

  asks : (n : Boards) (h : History) (v : View S) (b i k : ℕ) (r : Result ℕ Refusal) → Agreed n h v → Rightly n.count full h (Asked b i k r)
      → Agreed n (Asked b i k r ∷ h) (ask_leaves W full v b i k r)
  asks n h v b i k (Err e) g _ = agrees_same W full n h v (Asked b i k (Err e)) (says_no_ask b i k e h) g
  asks n h v b i k (Ok u) g e =
      let ok = ask_ok (among n.count b) (station h b) (leb i full && leb k full) (bits (waiting h) n.count) u e in
      let t = ok.0 in
      let f = g.each b t in
      let sizes = and_parts (leb i full) (leb k full) ok.2 in
      let q = known W full n h v b g t in
      let acc = may_start (W.stations v.lock) b q.0 q.1 (f.below ∙ ap as_lock ok.1) in
      let move = moves_at W K n v.lock g.real (Start b) acc in
      let now_at : at (W.stations (W.after v.lock (Start b))) b ≡ Trying = ap (λ ss. at ss b) move ∙ (stands_with (W.stations v.lock) b Trying q.0 q.1).2 in
      agrees_sets W full n (Asked b i k (Ok u) ∷ h) (with_own (with_lock v (W.after v.lock (Start b))) b (given (own v b) i k)) _
      (acts W full n h v (Asked b i k (Ok u)) (W.after v.lock (Start b)) v.counts (given (own v b) i k) (Doorway, record { from = i; to = k }, since_entry h b) g t
      (by_call W full K n v.lock (Start b) g.real acc) (λ _ _ _ _. refl)
      (says_ask b i k (Ok u) h)
      (record {
        standing = refl;
        below = now_at;
        waits = (doors_at W K n v.lock g.real (Start b) acc).0;
        start = refl;
        stop = refl;
        small = leb-true i full sizes.0;
        small' = leb-true k full sizes.1;
        busy = tt;
      }))

  pulls : (n : Boards) (h : History) (v : View S) (b : ℕ) (r : Result Unit Refusal) → Agreed n h v → Rightly n.count full h (Pulled b r)
      → Agreed n (Pulled b r ∷ h) (pull_leaves W full v b r)
  pulls n h v b (Err e) g _ = agrees_same W full n h v (Pulled b (Err e)) (says_no_pull b e h) g
  pulls n h v b (Ok u) g e =
      let ok = pull_ok (among n.count b) (station h b) u e in
      let t = ok.0 in
      let f = g.each b t in
      let q = known W full n h v b g t in
      let acc = may_pull (W.stations v.lock) b q.0 q.1 (elim ok.1 [ inl x ↦ inl (f.below ∙ x) | inr x ↦ inr (f.below ∙ x) ]) in
      let move = moves_at W K n v.lock g.real (Pull b) acc in
      let moved = by_call W full K n v.lock (Pull b) g.real acc in
      let now_at : at (W.stations (W.after v.lock (Pull b))) b ≡ Going = ap (λ ss. at ss b) move ∙ (stands_with (W.stations v.lock) b Going q.0 q.1).2 in
      agrees_sets W full n (Pulled b (Ok u) ∷ h) (with_own (with_lock v (W.after v.lock (Pull b))) b (gone (own v b) Leaving)) _
      (acts W full n h v (Pulled b (Ok u)) (W.after v.lock (Pull b)) v.counts (gone (own v b) Leaving) (Leaving, asked h b, since_entry h b) g t
      moved (λ _ _ _ _. refl)
      (says_pull b (Ok u) h)
      (record {
        standing = refl;
        below = now_at;
        waits = waits_not W K n (W.after v.lock (Pull b)) moved.real b (λ x. trying≢leaving (sym x ∙ now_at));
        start = f.start;
        stop = f.stop;
        small = f.small;
        small' = f.small';
        busy = tt;
      }))

  steps : (n : Boards) (h : History) (v : View S) (b : ℕ) (bit : Bool) (r : Result Progress Refusal) → Agreed n h v → r ≡ step_answer W full v b bit
      → Agreed n (Stepped b bit r ∷ h) (step_leaves W full v b bit) × Rightly n.count full h (Stepped b bit r)
  steps n h v b bit r g e =
      elim (cases_Bool (there v b)) [
        | inl t ↦
            let t' : among n.count b ≡ true = ap (λ y. among y.count b) (sym g.boards) ∙ t in
            let ok = any_step W full K n h v b bit g t' (own v b).standing refl in
            let told_ok = e ∙ cond-true (there v b) (Ok (step_outcome W full v b bit).tells) (Err NoSuchBoard) t in
            let left_is = cond-true (there v b) (step_outcome W full v b bit).left v t in
            subst (λ y. Agreed n (Stepped b bit y ∷ h) (step_leaves W full v b bit) × Rightly n.count full h (Stepped b bit y)) (sym told_ok)
            (subst (Agreed n (Stepped b bit (Ok (step_outcome W full v b bit).tells) ∷ h)) (sym left_is) ok.agrees, (t', ok.allowed))
        | inr f ↦
            let f' : among n.count b ≡ false = ap (λ y. among y.count b) (sym g.boards) ∙ f in
            let told_no = e ∙ cond-false (there v b) (Ok (step_outcome W full v b bit).tells) (Err NoSuchBoard) f in
            let left_is = cond-false (there v b) (step_outcome W full v b bit).left v f in
            subst (λ y. Agreed n (Stepped b bit y ∷ h) (step_leaves W full v b bit) × Rightly n.count full h (Stepped b bit y)) (sym told_no)
            (subst (Agreed n (Stepped b bit (Err NoSuchBoard) ∷ h)) (sym left_is) (agrees_same W full n h v (Stepped b bit (Err NoSuchBoard)) (says_no_step b bit NoSuchBoard h) g), (f', refl))
      ]

  -- one call more
  next : (n : Boards) (x : Entry) (h : History) → Agreed n h (trace W full n h) → Given W full n (x ∷ h)
      → Agreed n (x ∷ h) (trace W full n (x ∷ h)) × Rightly n.count full h x
  next n (Asked b i k r) h g (e, rest) =
      let v = trace W full n h in
      let ok : Rightly n.count full h (Asked b i k r) =
      e ∙ ap (λ y. cond (there v b) (ask_at (own v b).standing (leb i full && leb k full) y) (Err NoSuchBoard)) (set_same n h v g)
      ∙ by_history n h v b (λ s. ask_at s (leb i full && leb k full) (bits (waiting h) n.count)) (Err NoSuchBoard) g in
      (asks n h v b i k r g ok, ok)
  next n (Stepped b bit r) h g (e, rest) = steps n h (trace W full n h) b bit r g e
  next n (Pulled b r) h g (e, rest) =
      let v = trace W full n h in
      let ok : Rightly n.count full h (Pulled b r) = e ∙ by_history n h v b pull_at (Err NoSuchBoard) g in
      (pulls n h v b r g ok, ok)

  pub before : (n : Boards) (x : Entry) (h : History) → Given W full n (x ∷ h) → Given W full n h
  before n (Asked b i k r) h (e, rest) = rest
  before n (Stepped b bit r) h (e, rest) = rest
  before n (Pulled b r) h (e, rest) = rest

  pub agrees : (n : Boards) (h : History) → Given W full n h → Agreed n h (trace W full n h)
  agrees n [] _ = first n
  agrees n (x ∷ h) k = (next n x h (agrees n h (before n x h k)) k).0

  pub answers : (n : Boards) (x : Entry) (h : History) → Given W full n (x ∷ h) → Rightly n.count full h x
  answers n x h k = (next n x h (agrees n h (before n x h k)) k).1

  -- at every earlier moment
  pub earlier_given : (n : Boards) (later earlier : History) → Given W full n (later ++ earlier) → Given W full n earlier
  earlier_given n [] earlier k = k
  earlier_given n (x ∷ later) earlier k = earlier_given n later earlier (before n x (later ++ earlier) k)
