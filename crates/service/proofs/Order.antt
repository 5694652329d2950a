-- Nobody goes inside past a board that stands ahead of it, from the lock's law on order.
use Rattle.std.proofs.Common.{◌≡◌, ℕ, Bool, true, false, ◌&&◌, eqb, leb, List, [], ◌∷◌, ◌++◌, ℤ, Ok, Err, Result, sym, refl, ap, ◌∙◌, subst, inl, inr, arith}
use Rattle.std.proofs.lemmas.Bool.{true≢false, cases_eq, cases_Bool, eq-eqb, ne_eqb, cond-true, cond-false}
use Rattle.lock.specs.declared.boards.Boards.{Boards}
use Rattle.lock.specs.declared.station.Call.{Call}
use Rattle.lock.specs.declared.station.Call.TheVariants.{Start, Step, Leave, Pull}
use Rattle.lock.specs.declared.station.Station.TheVariants.{Inside as Within}
use Rattle.lock.specs.Order.{Leaves}
use Rattle.lock.specs.Runs.{run, Sometime, Each}
use Rattle.lock.specs.Stations.{among, accepted, Stands}
use Rattle.lock.proofs.Stations.{start_accepted, out≢trying, trying≢inside}
use Rattle.lock.proofs.Runs.{run_more}
use Rattle.service.specs.declared.progress.Progress.{Progress}
use Rattle.service.specs.declared.progress.Progress.TheVariants.{Idle, Working, Passed, Entered, Shown, CameOut}
use Rattle.service.specs.declared.refusal.Refusal.{Refusal}
use Rattle.service.specs.declared.standing.Standing.{Standing}
use Rattle.service.specs.declared.standing.Standing.TheVariants.{Out, Doorway, Waiting, Inside, Leaving}
use Rattle.service.specs.History.{Asked, Stepped, Pulled, History, station, waiting, ahead, ahead_step, asked, difference, since_entry, after_step, bits}
use Rattle.service.specs.Law.{StepAt, Rightly}
use Rattle.service.specs.Records.{is_waiting}
use Rattle.service.specs.Rule.{Lockwork, step_leaves, trace, Given}
use Rattle.service.proofs.Reached.{Keeps, may_start}
use Rattle.service.proofs.Says.{same_cond, says_other, says_step, says_no_ask, says_no_step, says_no_pull}
use Rattle.service.proofs.Agrees.{as_lock, Agrees, known}
use Rattle.service.proofs.Answered.{ask_ok, agrees, answers}
use Rattle.service.proofs.Did.{did}
use Rattle.service.proofs.Served.{sometime_more, each_more}

from_waiting : (s : Standing) → is_waiting s ≡ true → s ≡ Waiting
from_waiting Out e = let z : ◌≡◌ {A = ℕ} 0 1 = cc in absurd (omega arith)
from_waiting Doorway e = let z : ◌≡◌ {A = ℕ} 0 1 = cc in absurd (omega arith)
from_waiting Waiting e = refl
from_waiting Inside e = let z : ◌≡◌ {A = ℕ} 0 1 = cc in absurd (omega arith)
from_waiting Leaving e = let z : ◌≡◌ {A = ℕ} 0 1 = cc in absurd (omega arith)

out≢waiting : Out ≡ Waiting → ⊥
out≢waiting e = let z : ◌≡◌ {A = ℕ} 0 1 = cc in omega arith

-- only a waiting board goes inside
from_entered : (s : Standing) (d : ℕ) (z : ℤ) → StepAt s d z Entered → s ≡ Waiting
from_entered Out d z e = let q : ◌≡◌ {A = ℕ} 0 1 = cc in absurd (omega arith)
from_entered Doorway d z (inl e) = let q : ◌≡◌ {A = ℕ} 0 1 = cc in absurd (omega arith)
from_entered Doorway d z (inr e) = let q : ◌≡◌ {A = ℕ} 0 1 = cc in absurd (omega arith)
from_entered Waiting d z e = refl
from_entered Inside d z (inl (_, e)) = let q : ◌≡◌ {A = ℕ} 0 1 = cc in absurd (omega arith)
from_entered Inside d z (inr (_, e)) = let q : ◌≡◌ {A = ℕ} 0 1 = cc in absurd (omega arith)
from_entered Leaving d z (inl e) = let q : ◌≡◌ {A = ℕ} 0 1 = cc in absurd (omega arith)
from_entered Leaving d z (inr e) = let q : ◌≡◌ {A = ℕ} 0 1 = cc in absurd (omega arith)

-- a step of a waiting board leaves it waiting, or it went inside
wait_on : (d : ℕ) (z : ℤ) (p : Progress) (was : Bool) → StepAt Waiting d z p → ahead_step (Ok p) was ≡ true → after_step (Ok p) Waiting ≡ Waiting
wait_on d z p was (inl e) a = ap (λ y. after_step (Ok y) Waiting) e
wait_on d z p was (inr e) a = absurd (true≢false (sym a ∙ ap (λ y. ahead_step (Ok y) was) e))

ahead_was : (r : Result Progress Refusal) (was : Bool) → ahead_step r was ≡ true → was ≡ true
ahead_was (Ok Idle) was e = e
ahead_was (Ok Working) was e = e
ahead_was (Ok Passed) was e = e
ahead_was (Ok Entered) was e = absurd (true≢false (sym e))
ahead_was (Ok (Shown z)) was e = e
ahead_was (Ok CameOut) was e = e
ahead_was (Err x) was e = e

module _ {S : Type 0} (W : Lockwork S) (full : ℕ) (K : Keeps W) where
  abbrev Inside_at : ℕ → S → Type 0
  Inside_at j l = Stands (W.stations l) j Within

  abbrev Left : ℕ → ℕ → S → Call → Type 0
  Left j b l c = accepted (W.stations l) c ≡ true → Leaves j b c

  abbrev begun : Boards → List Call → ℕ → S
  begun n cs b = W.after (run W.after (W.fresh n) cs) (Start b)

  -- b was started while j waited, and since then j was neither inside nor pulled
  record Held (n : Boards) (b j : ℕ) (l : S) : Type 0 where
    cs : List Call
    ds : List Call
    is : l ≡ run W.after (begun n cs b) ds
    started : accepted (W.stations (run W.after (W.fresh n) cs)) (Start b) ≡ true
    waited : W.waits (run W.after (W.fresh n) cs) j ≡ true
    since : Each W.after (Left j b) (begun n cs b) ds
    outside : Sometime W.after (Inside_at j) (begun n cs b) ds → ⊥

  held_more : (n : Boards) (b j : ℕ) (l l' : S) (c : Call) → Held n b j l → l' ≡ W.after l c → Leaves j b c → (Inside_at j l' → ⊥) → Held n b j l'
  held_more n b j l l' c k e leaves not_in =
      let e' : l' ≡ run W.after (begun n k.cs b) (k.ds ++ (c ∷ [])) =
      e ∙ ap (λ x. W.after x c) k.is ∙ sym (run_more W.after (begun n k.cs b) k.ds c) in
      record {
        cs = k.cs;
        ds = k.ds ++ (c ∷ []);
        is = e';
        started = k.started;
        waited = k.waited;
        since = each_more W.after (Left j b) (begun n k.cs b) k.ds c k.since (λ _. leaves);
        outside = λ s. elim (sometime_more W.after (Inside_at j) (begun n k.cs b) k.ds c s) [
          | inl x ↦ k.outside x
          | inr x ↦ not_in (subst (Inside_at j) (sym e') x)
        ];
      }

  -- nobody stands ahead of itself
  held_other : (n : Boards) (b : ℕ) (l : S) → Held n b b l → ⊥
  held_other n b l k =
      out≢trying (sym (start_accepted (W.stations (run W.after (W.fresh n) k.cs)) b k.started).2 ∙ (K.tries n k.cs b k.waited).2)

  abbrev lock_of : Boards → History → S
  lock_of n h = (trace W full n h).lock

  -- a waiting board is there, and is trying in the lock
  waiting_there : (n : Boards) (h : History) (j : ℕ) → Agrees W full n h (trace W full n h) → station h j ≡ Waiting → among n.count j ≡ true
  waiting_there n h j g w = elim (cases_Bool (among n.count j)) [ inl t ↦ t | inr f ↦ absurd (out≢waiting (sym (g.nobody j f) ∙ w)) ]

  not_in : (n : Boards) (h : History) (j : ℕ) → Given W full n h → station h j ≡ Waiting → Inside_at j (lock_of n h) → ⊥
  not_in n h j k w s =
      let g = agrees W full K n h k in
      trying≢inside (sym ((g.each j (waiting_there n h j g w)).below ∙ ap as_lock w) ∙ s.2)

  -- whoever is ahead of b is waiting, and holds b back
  abbrev Back : Boards → History → ℕ → ℕ → Type 0
  Back n h b j = (station h j ≡ Waiting) × Held n b j (lock_of n h)

  back_step : (n : Boards) (h : History) (i b j : ℕ) (bit : Bool) (r : Result Progress Refusal) → Given W full n (Stepped i bit r ∷ h)
      → station (Stepped i bit r ∷ h) j ≡ Waiting → Held n b j (lock_of n h) → Back n (Stepped i bit r ∷ h) b j
  back_step n h i b j bit r k w held = (
    w,
    elim (did W full (trace W full n h) i bit r k.0).call [
      | inl same ↦ subst (Held n b j) (sym same) held
      | inr (inl e) ↦ held_more n b j (lock_of n h) (step_leaves W full (trace W full n h) i bit).lock (Step i bit) held e tt (not_in n (Stepped i bit r ∷ h) j k w)
      | inr (inr e) ↦ held_more n b j (lock_of n h) (step_leaves W full (trace W full n h) i bit).lock (Leave i) held e tt (not_in n (Stepped i bit r ∷ h) j k w)
    ],
  )

  -- the moment at which i asks
  begins : (n : Boards) (h : History) (i a c j x : ℕ) → Given W full n (Asked i a c (Ok x) ∷ h) → station h j ≡ Waiting → Held n i j (lock_of n (Asked i a c (Ok x) ∷ h))
  begins n h i a c j x k w =
      let g = agrees W full K n h k.1 in
      let ok = ask_ok (among n.count i) (station h i) (leb a full && leb c full) (bits (waiting h) n.count) x (answers W full K n (Asked i a c (Ok x)) h k) in
      let q = known W full n h (trace W full n h) i g ok.0 in
      let acc = may_start (W.stations (lock_of n h)) i q.0 q.1 ((g.each i ok.0).below ∙ ap as_lock ok.1) in
      let w' : station (Asked i a c (Ok x) ∷ h) j ≡ Waiting = ap (λ s. s.0) (says_other (Asked i a c (Ok x)) h j (λ e. out≢waiting (sym ok.1 ∙ ap (station h) e ∙ w))) ∙ w in
      record {
        cs = g.real.0;
        ds = [];
        is = ap (λ l. W.after l (Start i)) g.real.1;
        started = subst (λ l. accepted (W.stations l) (Start i) ≡ true) g.real.1 acc;
        waited = subst (λ l. W.waits l j ≡ true) g.real.1 ((g.each j (waiting_there n h j g w)).waits ∙ ap is_waiting w);
        since = tt;
        outside = λ s. not_in n (Asked i a c (Ok x) ∷ h) j k w' (subst (Inside_at j) (ap (λ l. W.after l (Start i)) (sym g.real.1)) s);
      }

  back : (n : Boards) (h : History) → Given W full n h → (b j : ℕ) → ahead h b j ≡ true → Back n h b j
  back n [] k b j e = absurd (true≢false (sym e))
  back n (Asked i a c (Err x) ∷ h) k b j e =
      let ih = back n h k.1 b j (sym (same_cond (eqb i b) (ahead h b j)) ∙ e) in
      (ap (λ s. s.0) (says_no_ask i a c x h j) ∙ ih.0, ih.1)
  back n (Asked i a c (Ok x) ∷ h) k b j e =
      let ok = ask_ok (among n.count i) (station h i) (leb a full && leb c full) (bits (waiting h) n.count) x (answers W full K n (Asked i a c (Ok x)) h k) in
      elim (cases_eq i b) [
        | inl same ↦
            let w : station h j ≡ Waiting = from_waiting (station h j) (sym (cond-true (eqb i b) (waiting h j) (ahead h b j) (eq-eqb i b same)) ∙ e) in
            let ne : i ≡ j → ⊥ = λ y. out≢waiting (sym ok.1 ∙ ap (station h) y ∙ w) in
            (ap (λ s. s.0) (says_other (Asked i a c (Ok x)) h j ne) ∙ w, subst (λ y. Held n y j (lock_of n (Asked i a c (Ok x) ∷ h))) same (begins n h i a c j x k w))
        | inr other ↦
            let ih = back n h k.1 b j (sym (cond-false (eqb i b) (waiting h j) (ahead h b j) (ne_eqb i b other)) ∙ e) in
            let ne : i ≡ j → ⊥ = λ y. out≢waiting (sym ok.1 ∙ ap (station h) y ∙ ih.0) in
            let w' : station (Asked i a c (Ok x) ∷ h) j ≡ Waiting = ap (λ s. s.0) (says_other (Asked i a c (Ok x)) h j ne) ∙ ih.0 in
            (w', held_more n b j (lock_of n h) (W.after (lock_of n h) (Start i)) (Start i) ih.1 refl other (not_in n (Asked i a c (Ok x) ∷ h) j k w'))
      ]
  back n (Pulled i (Err x) ∷ h) k b j e =
      let ih = back n h k.1 b j (sym (same_cond (eqb i j) (ahead h b j)) ∙ e) in
      (ap (λ s. s.0) (says_no_pull i x h j) ∙ ih.0, ih.1)
  back n (Pulled i (Ok u) ∷ h) k b j e =
      elim (cases_eq i j) [
        | inl same ↦ absurd (true≢false (sym e ∙ cond-true (eqb i j) false (ahead h b j) (eq-eqb i j same)))
        | inr other ↦
            let ih = back n h k.1 b j (sym (cond-false (eqb i j) false (ahead h b j) (ne_eqb i j other)) ∙ e) in
            let w' : station (Pulled i (Ok u) ∷ h) j ≡ Waiting = ap (λ s. s.0) (says_other (Pulled i (Ok u)) h j other) ∙ ih.0 in
            (w', held_more n b j (lock_of n h) (W.after (lock_of n h) (Pull i)) (Pull i) ih.1 refl other (not_in n (Pulled i (Ok u) ∷ h) j k w'))
      ]
  back n (Stepped i bit r ∷ h) k b j e =
      elim (cases_eq i j) [
        | inl same ↦
            let e' : ahead_step r (ahead h b j) ≡ true = sym (cond-true (eqb i j) (ahead_step r (ahead h b j)) (ahead h b j) (eq-eqb i j same)) ∙ e in
            let ih = back n h k.1 b j (ahead_was r (ahead h b j) e') in
            back_step n h i b j bit r k (mine same ih.0 r (answers W full K n (Stepped i bit r) h k) e') ih.1
        | inr other ↦
            let ih = back n h k.1 b j (sym (cond-false (eqb i j) (ahead_step r (ahead h b j)) (ahead h b j) (ne_eqb i j other)) ∙ e) in
            back_step n h i b j bit r k (ap (λ s. s.0) (says_other (Stepped i bit r) h j other) ∙ ih.0) ih.1
      ]
    where
      mine : i ≡ j → station h j ≡ Waiting → (y : Result Progress Refusal) → Rightly n.count full h (Stepped i bit y) → ahead_step y (ahead h b j) ≡ true → station (Stepped i bit y ∷ h) j ≡ Waiting
      mine same w (Err x) _ e' = ap (λ s. s.0) (says_no_step i bit x h j) ∙ w
      mine same w (Ok p) (t, at_i) e' =
          let w' : station h i ≡ Waiting = ap (station h) same ∙ w in
          let stays = wait_on (since_entry h i) (difference (asked h i)) p (ahead h b j) (subst (λ s. StepAt s (since_entry h i) (difference (asked h i)) p) w' at_i) e' in
          ap (station (Stepped i bit (Ok p) ∷ h)) (sym same) ∙ ap (λ s. s.0) (says_step i bit (Ok p) h) ∙ ap (after_step (Ok p)) w' ∙ stays

  -- b goes inside only when nobody is ahead of it
  pub in_order : (n : Boards) (h : History) (b j : ℕ) (bit : Bool) → Given W full n (Stepped b bit (Ok Entered) ∷ h) → ahead h b j ≡ false
  in_order n h b j bit k = elim (cases_Bool (ahead h b j)) [ inr f ↦ f | inl t ↦ absurd (never t) ]
    where
      never : ahead h b j ≡ true → ⊥
      never t =
          let behind = back n h k.1 b j t in
          let g' = agrees W full K n (Stepped b bit (Ok Entered) ∷ h) k in
          let a = answers W full K n (Stepped b bit (Ok Entered)) h k in
          let ne : b ≡ j → ⊥ = λ e. held_other n b (lock_of n h) (subst (λ y. Held n b y (lock_of n h)) (sym e) behind.1) in
          let w' : station (Stepped b bit (Ok Entered) ∷ h) j ≡ Waiting = ap (λ s. s.0) (says_other (Stepped b bit (Ok Entered)) h j ne) ∙ behind.0 in
          let held = (back_step n h b b j bit (Ok Entered) k w' behind.1).1 in
          let q = known W full n (Stepped b bit (Ok Entered) ∷ h) (trace W full n (Stepped b bit (Ok Entered) ∷ h)) b g' a.0 in
          let inside : Inside_at b (lock_of n (Stepped b bit (Ok Entered) ∷ h)) =
          (q.0, q.1, (g'.each b a.0).below ∙ ap (λ s. as_lock s.0) (says_step b bit (Ok Entered) h)) in
          K.order n held.cs held.ds b j held.started held.waited held.since held.outside (subst (Inside_at b) held.is inside)
