-- Each step keeps the agreement of history and view, and is answered as it should be.
use Rattle.std.proofs.Common.{◌≡◌, ℕ, suc, ◌-◌, ◌<◌, ◌≤◌, Bool, true, false, cond, ◌&&◌, leb, ◌∷◌, length, ℤ, pos, ◌-ℤ◌, Ok, sym, refl, ap, ◌∙◌, subst, inl, inr, arith}
use Rattle.std.proofs.lemmas.Bool.{cases_Bool, le-leb}
use Rattle.std.proofs.lemmas.List.{set-get_or}
use Rattle.lock.specs.declared.boards.Boards.{Boards}
use Rattle.lock.specs.declared.station.Call.TheVariants.{Step, Leave}
use Rattle.lock.specs.declared.station.Station.TheVariants.{Out as Outside, Trying, Inside as Within, Leaving as Going}
use Rattle.lock.specs.Stations.{among, at, told, accepted, Stands}
use Rattle.lock.proofs.Stations.{among_from, accepted_step, stands_with, out≢trying, trying≢inside, trying≢leaving}
use Rattle.service.specs.declared.progress.Progress.TheVariants.{Idle, Working, Passed, Entered, Shown, CameOut}
use Rattle.service.specs.declared.record.Record.{Record}
use Rattle.service.specs.declared.record.Stage.{Stage}
use Rattle.service.specs.declared.record.Stage.TheVariants.{Arrived, StartPut, StopPut, StartTaken, StopTaken}
use Rattle.service.specs.declared.standing.Standing.{Standing}
use Rattle.service.specs.declared.standing.Standing.TheVariants.{Out, Doorway, Waiting, Inside, Leaving}
use Rattle.service.specs.History.{Stepped, History, Asking, station, asked, since_entry, difference}
use Rattle.service.specs.Law.{StepAt}
use Rattle.service.specs.Records.{blank, gone, arrived, staged}
use Rattle.service.specs.Rule.{Lockwork, Counts, View, own, with_own, with_lock, struck, is_inside, is_out, Outcome, outcome, passed, doorway_step, waiting_step, leaving_step, inside_step, step_at}
use Rattle.service.proofs.Reached.{Keeps, told_there, may_leave, one_at, tries_at, waits_not, moves_at, doors_at}
use Rattle.service.proofs.Says.{says_step}
use Rattle.service.proofs.Agrees.{as_lock, number, Work, Busy, FitsAt, Agrees, agrees_sets, known, Moved, unmoved, by_call, changed, acts}

pub not_inside : Out ≡ Inside → ⊥
not_inside e = let z : ◌≡◌ {A = ℕ} 0 1 = cc in omega arith

module _ {S : Type 0} (W : Lockwork S) (full : ℕ) (K : Keeps W) where
  -- at most one board is inside
  pub one_inside : (n : Boards) (h : History) (v : View S) → Agrees W full n h v → (i j : ℕ) → station h i ≡ Inside → station h j ≡ Inside → i ≡ j
  one_inside n h v g i j hi hj = one_at W K n v.lock g.real i j (stands i hi) (stands j hj)
    where
      stands : (b : ℕ) → station h b ≡ Inside → Stands (W.stations v.lock) b Within
      stands b e =
          elim (cases_Bool (among n.count b)) [
            | inl t ↦ let k = known W full n h v b g t in (k.0, k.1, (g.each b t).below ∙ ap as_lock e)
            | inr f ↦ absurd (not_inside (sym (g.nobody b f) ∙ e))
          ]

  -- the facts of board b, by its record's station
  pub as_standing : (n : Boards) (h : History) (v : View S) (b : ℕ) (s : Standing) → Agrees W full n h v → among n.count b ≡ true → (own v b).standing ≡ s
      → (station h b ≡ s) × FitsAt W full v b (s, asked h b, since_entry h b)
  as_standing n h v b s g t e =
      let f = g.each b t in
      let same : station h b ≡ s = sym f.standing ∙ e in
      (same, subst (λ p. FitsAt W full v b (p, asked h b, since_entry h b)) same f)

  -- a record that is kept
  kept : (v : View S) (l : S) (b : ℕ) → changed W full v l v.counts b (own v b) ≡ with_lock v l
  kept v l b = ap (λ rs. record { boards = v.boards; lock = l; counts = v.counts; records = rs; sets = v.sets }) (set-get_or v.records (b - 1) blank)

  -- what a step has to show
  pub record StepOk (n : Boards) (h : History) (b : ℕ) (bit : Bool) (o : Outcome S) : Type 0 where
    pub agrees : Agrees W full n (Stepped b bit (Ok o.tells) ∷ h) o.left
    pub allowed : StepAt (station h b) (since_entry h b) (difference (asked h b)) o.tells

  module _ (n : Boards) (h : History) (v : View S) (b : ℕ) (bit : Bool) (g : Agrees W full n h v) (t : among n.count b ≡ true) where
    abbrev a : Asking
    a = asked h b

    abbrev d : ℕ
    d = since_entry h b

    abbrev z : ℤ
    z = difference (asked h b)

    abbrev r : Record
    r = own v b

    abbrev l' : S
    l' = W.after v.lock (Step b bit)

    acc : accepted (W.stations v.lock) (Step b bit) ≡ true
    acc = let k = known W full n h v b g t in accepted_step (W.stations v.lock) b bit k.0 k.1

    stepping : Moved W full n b v.lock l'
    stepping = by_call W full K n v.lock (Step b bit) g.real acc

    known' : (1 ≤ b) × (b ≤ length (W.stations l'))
    known' = let k = known W full n h v b g t in let q = k.1 in let len = stepping.size in (k.0, omega arith)

    told_now : told (W.stations l') b ≡ Ok (at (W.stations l') b)
    told_now = told_there (W.stations l') b known'.0 known'.1

    out_step : (own v b).standing ≡ Out → StepOk n h b bit (outcome v Idle)
    out_step e =
        let f = as_standing n h v b Out g t e in record {
          agrees = subst (Agrees W full n (Stepped b bit (Ok Idle) ∷ h)) (kept v v.lock b)
              (acts W full n h v (Stepped b bit (Ok Idle)) v.lock v.counts r (Out, a, suc d) g t (unmoved W full n b v.lock g.real) (λ _ _ _ _. refl)
              (says_step b bit (Ok Idle) h ∙ ap (λ p. (p, a, suc d)) f.0)
              (let k = f.1 in record { standing = k.standing; below = k.below; waits = k.waits; start = k.start; stop = k.stop; small = k.small; small' = k.small'; busy = tt }));
          allowed = subst (λ s. StepAt s d z Idle) (sym f.0) refl;
        }

    -- the lock has made a step, and board b is still where it was
    works_on : (s : Standing) → station h b ≡ s → FitsAt W full v b (s, a, d) → at (W.stations l') b ≡ as_lock s → W.waits l' b ≡ W.waits v.lock b
        → (s ≡ Inside → ⊥) → StepAt s d z Working → StepOk n h b bit (outcome (with_lock v l') Working)
    works_on s p f now_at now_waits not_in may = record {
      agrees = subst (Agrees W full n (Stepped b bit (Ok Working) ∷ h)) (kept v l' b)
          (acts W full n h v (Stepped b bit (Ok Working)) l' v.counts r (s, a, suc d) g t stepping (λ _ _ _ _. refl)
          (says_step b bit (Ok Working) h ∙ ap (λ x. (x, a, suc d)) p)
          (record { standing = f.standing; below = now_at; waits = now_waits ∙ f.waits; start = f.start; stop = f.stop; small = f.small; small' = f.small'; busy = idle s not_in }));
      allowed = subst (λ x. StepAt x d z Working) (sym p) may;
    }
      where
        idle : (x : Standing) → (x ≡ Inside → ⊥) → Busy x (suc d) v.counts a r.stage
        idle Out _ = tt
        idle Doorway _ = tt
        idle Waiting _ = tt
        idle Inside no_so = absurd (no_so refl)
        idle Leaving _ = tt

    door_step : (own v b).standing ≡ Doorway → StepOk n h b bit (doorway_step W v b bit r)
    door_step e =
        let f = as_standing n h v b Doorway g t e in
        let k = known W full n h v b g t in
        let tries = (doors_at W K n v.lock g.real (Step b bit) acc).0.0 (k.0, k.1, f.1.below) f.1.waits in
        by_wait (W.waits l' b) refl f.0 f.1 tries.2
      where
        told_it : (y : Bool) → W.waits l' b ≡ y → passed W l' b ≡ y
        told_it y w = let k = known' in ap (λ x. x && W.waits l' b) (among_from (length (W.stations l')) b k.0 k.1) ∙ w

        by_wait : (y : Bool) → W.waits l' b ≡ y → station h b ≡ Doorway → FitsAt W full v b (Doorway, a, d) → at (W.stations l') b ≡ Trying → StepOk n h b bit (doorway_step W v b bit r)
        by_wait true w p f now_at =
            subst (λ y. StepOk n h b bit (cond y (outcome (with_own (with_lock v l') b (gone r Waiting)) Passed) (outcome (with_lock v l') Working))) (sym (told_it true w))
            (record {
              agrees = acts W full n h v (Stepped b bit (Ok Passed)) l' v.counts (gone r Waiting) (Waiting, a, suc d) g t stepping (λ _ _ _ _. refl)
                  (says_step b bit (Ok Passed) h)
                  (record { standing = refl; below = now_at; waits = w; start = f.start; stop = f.stop; small = f.small; small' = f.small'; busy = tt });
              allowed = subst (λ s. StepAt s d z Passed) (sym p) (inr refl);
            })
        by_wait false w p f now_at =
            subst (λ y. StepOk n h b bit (cond y (outcome (with_own (with_lock v l') b (gone r Waiting)) Passed) (outcome (with_lock v l') Working))) (sym (told_it false w))
            (works_on Doorway p f now_at (w ∙ sym f.waits) (λ x. let q : ◌≡◌ {A = ℕ} 0 1 = cc in omega arith) (inl refl))

    wait_step : (own v b).standing ≡ Waiting → StepOk n h b bit (waiting_step W v b bit r)
    wait_step e =
        let f = as_standing n h v b Waiting g t e in
        elim ((doors_at W K n v.lock g.real (Step b bit) acc).0.1 f.1.waits) [
          | inl waits ↦ still f.0 f.1 waits (tries_at W K n l' stepping.real b waits).2
          | inr inside ↦ enters f.0 f.1 inside.2
        ]
      where
        still : station h b ≡ Waiting → FitsAt W full v b (Waiting, a, d) → W.waits l' b ≡ true → at (W.stations l') b ≡ Trying → StepOk n h b bit (waiting_step W v b bit r)
        still p f w now_at =
            subst (λ y. StepOk n h b bit (cond y (outcome (struck (with_own (with_lock v l') b (arrived r)) b) Entered) (outcome (with_lock v l') Working))) (sym (ap is_inside (told_now ∙ ap Ok now_at)))
            (works_on Waiting p f now_at (w ∙ sym f.waits) (λ x. let q : ◌≡◌ {A = ℕ} 0 1 = cc in omega arith) (inl refl))

        enters : station h b ≡ Waiting → FitsAt W full v b (Waiting, a, d) → at (W.stations l') b ≡ Within → StepOk n h b bit (waiting_step W v b bit r)
        enters p f now_at =
            subst (λ y. StepOk n h b bit (cond y (outcome (struck (with_own (with_lock v l') b (arrived r)) b) Entered) (outcome (with_lock v l') Working))) (sym (ap is_inside (told_now ∙ ap Ok now_at)))
            (record {
              agrees = agrees_sets W full n (Stepped b bit (Ok Entered) ∷ h) (with_own (with_lock v l') b (arrived r)) _
                  (acts W full n h v (Stepped b bit (Ok Entered)) l' v.counts (arrived r) (Inside, a, 0) g t stepping (λ _ _ _ _. refl)
                  (says_step b bit (Ok Entered) h)
                  (record { standing = refl; below = now_at; waits = waits_not W K n l' stepping.real b (λ x. trying≢inside (sym x ∙ now_at)); start = f.start; stop = f.stop; small = f.small; small' = f.small'; busy = (refl, tt) }));
              allowed = subst (λ s. StepAt s d z Entered) (sym p) (inr refl);
            })

    leave_step : (own v b).standing ≡ Leaving → StepOk n h b bit (leaving_step W v b bit r)
    leave_step e =
        let f = as_standing n h v b Leaving g t e in
        let k = known W full n h v b g t in
        let m = moves_at W K n v.lock g.real (Step b bit) acc in
        let now_at : at (W.stations l') b ≡ m.0 = ap (λ ss. at ss b) m.1 ∙ (stands_with (W.stations v.lock) b m.0 k.0 k.1).2 in
        elim m.2 [
          | inl same ↦ still f.0 f.1 (now_at ∙ same ∙ f.1.below)
          | inr (inl w) ↦ absurd (trying≢leaving (sym w.0 ∙ f.1.below))
          | inr (inr w) ↦ comes_out f.0 f.1 (now_at ∙ w.1)
        ]
      where
        still : station h b ≡ Leaving → FitsAt W full v b (Leaving, a, d) → at (W.stations l') b ≡ Going → StepOk n h b bit (leaving_step W v b bit r)
        still p f now_at =
            subst (λ y. StepOk n h b bit (cond y (outcome (with_own (with_lock v l') b (gone r Out)) CameOut) (outcome (with_lock v l') Working))) (sym (ap is_out (told_now ∙ ap Ok now_at)))
            (works_on Leaving p f now_at (waits_not W K n l' stepping.real b (λ x. trying≢leaving (sym x ∙ now_at)) ∙ sym f.waits) (λ x. let q : ◌≡◌ {A = ℕ} 0 1 = cc in omega arith) (inl refl))

        comes_out : station h b ≡ Leaving → FitsAt W full v b (Leaving, a, d) → at (W.stations l') b ≡ Outside → StepOk n h b bit (leaving_step W v b bit r)
        comes_out p f now_at =
            subst (λ y. StepOk n h b bit (cond y (outcome (with_own (with_lock v l') b (gone r Out)) CameOut) (outcome (with_lock v l') Working))) (sym (ap is_out (told_now ∙ ap Ok now_at)))
            (record {
              agrees = acts W full n h v (Stepped b bit (Ok CameOut)) l' v.counts (gone r Out) (Out, a, suc d) g t stepping (λ _ _ _ _. refl)
                  (says_step b bit (Ok CameOut) h)
                  (record { standing = refl; below = now_at; waits = waits_not W K n l' stepping.real b (λ x. out≢trying (sym now_at ∙ x)); start = f.start; stop = f.stop; small = f.small; small' = f.small'; busy = tt });
              allowed = subst (λ s. StepAt s d z CameOut) (sym p) (inr refl);
            })

    -- inside, the lock at rest: the counts become c, the stage s
    works : (c : Counts) (s : Stage) → (own v b).standing ≡ Inside → FitsAt W full v b (Inside, a, d) → station h b ≡ Inside → d < 4 → suc d ≡ number s → Work s c a
        → StepOk n h b bit (outcome (changed W full v v.lock c b (staged r s)) Working)
    works c s e f p few_done count work = record {
      agrees = acts W full n h v (Stepped b bit (Ok Working)) v.lock c (staged r s) (Inside, a, suc d) g t (unmoved W full n b v.lock g.real)
          (λ j ne _ in_j. absurd (ne (one_inside n h v g j b in_j p)))
          (says_step b bit (Ok Working) h ∙ ap (λ x. (x, a, suc d)) p)
          (record { standing = e; below = f.below; waits = f.waits; start = f.start; stop = f.stop; small = f.small; small' = f.small'; busy = (count, work) });
      allowed = subst (λ x. StepAt x d z Working) (sym p) (inl (few_done, refl));
    }

    in_step : (s : Stage) → (own v b).stage ≡ s → (own v b).standing ≡ Inside → StepOk n h b bit (inside_step W full v b r s)
    in_step s st e =
        let f = as_standing n h v b Inside g t e in
        let busy : (d ≡ number s) × Work s v.counts a = subst (λ x. (d ≡ number x) × Work x v.counts a) st f.1.busy in
        by_stage s f.0 f.1 busy.0 busy.1
      where
        fit : (k x : ℕ) → k ≡ x → x ≤ full → leb k full ≡ true
        fit k x same small = le-leb k full (omega arith)

        by_stage : (g₂ : Stage) → station h b ≡ Inside → FitsAt W full v b (Inside, a, d) → d ≡ number g₂ → Work g₂ v.counts a → StepOk n h b bit (inside_step W full v b r g₂)
        by_stage Arrived p f k w =
            let ok = fit r.start a.from f.start f.small in
            works _ StartPut e f p (omega arith) (omega arith) (rw ok f.start)
        by_stage StartPut p f k w =
            let ok = fit r.stop a.to f.stop f.small' in
            works _ StopPut e f p (omega arith) (omega arith) (rw ok (w, f.stop))
        by_stage StopPut p f k w = works v.counts (StartTaken v.counts.start) e f p (omega arith) (omega arith) w
        by_stage (StartTaken m) p f k w = works v.counts (StopTaken m v.counts.stop) e f p (omega arith) (omega arith) w
        by_stage (StopTaken m m') p f k w =
            let q = known W full n h v b g t in
            let ok = may_leave (W.stations v.lock) b q.0 q.1 f.below in
            let move = moves_at W K n v.lock g.real (Leave b) ok in
            let moved = by_call W full K n v.lock (Leave b) g.real ok in
            let now_at : at (W.stations (W.after v.lock (Leave b))) b ≡ Going = ap (λ ss. at ss b) move ∙ (stands_with (W.stations v.lock) b Going q.0 q.1).2 in
            record {
              agrees = acts W full n h v (Stepped b bit (Ok (Shown (pos m' -ℤ pos m)))) (W.after v.lock (Leave b)) v.counts (gone r Leaving) (Leaving, a, suc d) g t
                  moved (λ _ _ _ _. refl)
                  (says_step b bit (Ok (Shown (pos m' -ℤ pos m))) h)
                  (record { standing = refl; below = now_at; waits = waits_not W K n (W.after v.lock (Leave b)) moved.real b (λ x. trying≢leaving (sym x ∙ now_at)); start = f.start; stop = f.stop; small = f.small; small' = f.small'; busy = tt });
              allowed = subst (λ s. StepAt s d z (Shown (pos m' -ℤ pos m))) (sym p)
                  (inr (k, ap Shown (ap (λ x. pos x -ℤ pos m) w.1 ∙ ap (λ x. pos a.to -ℤ pos x) w.0)));
            }

    pub any_step : (s : Standing) → (own v b).standing ≡ s → StepOk n h b bit (step_at W full v b bit r s)
    any_step Out e = out_step e
    any_step Doorway e = door_step e
    any_step Waiting e = wait_step e
    any_step Inside e = in_step r.stage refl e
    any_step Leaving e = leave_step e
