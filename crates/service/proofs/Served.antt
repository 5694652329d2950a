-- A board that asks alone is served: the lock lets it in within its S steps, and five more show its number.
use Rattle.std.proofs.Common.{◌≡◌, ℕ, suc, ◌+◌, ◌<◌, ◌≤◌, Bool, true, false, cond, ◌&&◌, eqb, leb, ◌⊎◌, List, [], ◌∷◌, ◌++◌, length, ℤ, Ok, Err, Result, sym, refl, ap, ◌∙◌, subst, inl, inr, arith}
use Rattle.std.proofs.lemmas.Bool.{cases_lt, cases_eq, cases_Bool, eq-eqb, ne_eqb, le-leb, and_from, both_ways, cond-true, cond-false}
use Rattle.lock.specs.declared.boards.Boards.{Boards}
use Rattle.lock.specs.declared.station.Call.{Call}
use Rattle.lock.specs.declared.station.Call.TheVariants.{Start, Step}
use Rattle.lock.specs.declared.station.Station.TheVariants.{Trying, Inside as Within}
use Rattle.lock.specs.Runs.{run, Sometime, Each, OthersOut, steps}
use Rattle.lock.specs.Runs.{Spares as LockSpares, own as own_call}
use Rattle.lock.specs.Stations.{among, at, told, accepted, Stands}
use Rattle.lock.proofs.Stations.{among_from, own_same, out≢trying, out≢inside, trying≢inside}
use Rattle.lock.proofs.Runs.{run_more}
use Rattle.service.specs.declared.progress.Progress.{Progress}
use Rattle.service.specs.declared.progress.Progress.TheVariants.{Idle, Working, Passed, Entered}
use Rattle.service.specs.declared.record.Stage.{Stage}
use Rattle.service.specs.declared.record.Stage.TheVariants.{Arrived, StartPut, StopPut, StartTaken, StopTaken}
use Rattle.service.specs.declared.refusal.Refusal.{Refusal}
use Rattle.service.specs.declared.refusal.Refusal.TheVariants.{NoSuchBoard}
use Rattle.service.specs.declared.standing.Standing.{Standing}
use Rattle.service.specs.declared.standing.Standing.TheVariants.{Out, Doorway, Waiting, Inside, Leaving}
use Rattle.service.specs.History.{Entry, Asked, Stepped, Pulled, History, station, waiting, asked, difference, since_entry, own_steps, after_step, count_by, bits}
use Rattle.service.specs.Law.{ask_at, StepAt, Rightly, Shows, spares, Spares}
use Rattle.service.specs.Records.{gone, arrived}
use Rattle.service.specs.Rule.{Lockwork, View, own, there, with_own, with_lock, struck, is_inside, outcome, passed, step_at, step_outcome, step_leaves, trace, Given}
use Rattle.service.proofs.Reached.{Keeps, may_start}
use Rattle.service.proofs.Says.{same_cond, says_other, says_ask, says_step, says_no_ask, says_no_step, says_no_pull}
use Rattle.service.proofs.Agrees.{as_lock, number, Agrees, known}
use Rattle.service.proofs.Follows.{as_standing}
use Rattle.service.proofs.Answered.{ask_ok, pull_ok, agrees, answers, before, earlier_given}

-- calls made from l, one of them more at the end
module _ {L : Type 0} (call : L → Call → L) where
  pub sometime_more : (P : L → Type 0) (l : L) (cs : List Call) (c : Call) → Sometime call P l (cs ++ (c ∷ [])) → Sometime call P l cs ⊎ P (run call l (cs ++ (c ∷ [])))
  sometime_more P l [] c (inl p) = inl p
  sometime_more P l [] c (inr p) = inr p
  sometime_more P l (d ∷ cs) c (inl p) = inl (inl p)
  sometime_more P l (d ∷ cs) c (inr s) = elim (sometime_more P (call l d) cs c s) [ inl x ↦ inl (inr x) | inr x ↦ inr x ]

  pub each_more : (P : L → Call → Type 0) (l : L) (cs : List Call) (c : Call) → Each call P l cs → P (run call l cs) c → Each call P l (cs ++ (c ∷ []))
  each_more P l [] c e h = (h, tt)
  each_more P l (d ∷ cs) c e h = (e.0, each_more P (call l d) cs c e.1 h)

steps_more : (b : ℕ) (cs : List Call) (c : Call) → steps b (cs ++ (c ∷ [])) ≡ steps b cs + own_call b c
steps_more b [] c = omega arith
steps_more b (d ∷ cs) c = let ih = steps_more b cs c in omega arith

-- the station of a board that is trying in the lock
from_trying : (s : Standing) → as_lock s ≡ Trying → (s ≡ Doorway) ⊎ (s ≡ Waiting)
from_trying Out e = let z : ◌≡◌ {A = ℕ} 0 1 = cc in absurd (omega arith)
from_trying Doorway e = inl refl
from_trying Waiting e = inr refl
from_trying Inside e = let z : ◌≡◌ {A = ℕ} 0 1 = cc in absurd (omega arith)
from_trying Leaving e = let z : ◌≡◌ {A = ℕ} 0 1 = cc in absurd (omega arith)

-- what a trying board's step answers
trying_step : (s : Standing) (d : ℕ) (z : ℤ) (p : Progress) → as_lock s ≡ Trying → StepAt s d z p → (as_lock (after_step (Ok p) s) ≡ Trying) ⊎ (p ≡ Entered)
trying_step s d z p e k =
    elim (from_trying s e) [
      | inl door ↦ elim (subst (λ x. StepAt x d z p) door k) [
        | inl w ↦ inl (ap (λ y. as_lock (after_step (Ok y) s)) w ∙ e)
        | inr w ↦ inl (ap (λ y. as_lock (after_step (Ok y) s)) w)
      ]
      | inr wait ↦ elim (subst (λ x. StepAt x d z p) wait k) [
        | inl w ↦ inl (ap (λ y. as_lock (after_step (Ok y) s)) w ∙ e)
        | inr w ↦ inr w
      ]
    ]

module _ {S : Type 0} (W : Lockwork S) (full : ℕ) (K : Keeps W) where
  -- a trying board's step is one step of the lock
  pub step_lock : (v : View S) (b : ℕ) (bit : Bool) (s : Standing) → (own v b).standing ≡ s → as_lock s ≡ Trying → there v b ≡ true
      → (step_leaves W full v b bit).lock ≡ W.after v.lock (Step b bit)
  step_lock v b bit s e try t =
      ap (λ w. w.lock) (cond-true (there v b) (step_outcome W full v b bit).left v t)
      ∙ ap (λ p. (step_at W full v b bit (own v b) p).left.lock) e
      ∙ elim (from_trying s try) [
        | inl door ↦ ap (λ p. (step_at W full v b bit (own v b) p).left.lock) door ∙ at_door (passed W (W.after v.lock (Step b bit)) b)
        | inr wait ↦ ap (λ p. (step_at W full v b bit (own v b) p).left.lock) wait ∙ at_wait (is_inside (told (W.stations (W.after v.lock (Step b bit))) b))
      ]
    where
      at_door : (y : Bool) → (cond y (outcome (with_own (with_lock v (W.after v.lock (Step b bit))) b (gone (own v b) Waiting)) Passed) (outcome (with_lock v (W.after v.lock (Step b bit))) Working)).left.lock ≡ W.after v.lock (Step b bit)
      at_door true = refl
      at_door false = refl

      at_wait : (y : Bool) → (cond y (outcome (struck (with_own (with_lock v (W.after v.lock (Step b bit))) b (arrived (own v b))) b) Entered) (outcome (with_lock v (W.after v.lock (Step b bit))) Working)).left.lock ≡ W.after v.lock (Step b bit)
      at_wait true = refl
      at_wait false = refl

  -- the step of a board that is out, or is none
  idle_view : (n : Boards) (h : History) (v : View S) (j : ℕ) (bit : Bool) → Agrees W full n h v → station h j ≡ Out → step_leaves W full v j bit ≡ v
  idle_view n h v j bit g out =
      elim (cases_Bool (there v j)) [
        | inl t ↦
            let t' : among n.count j ≡ true = ap (λ y. among y.count j) (sym g.boards) ∙ t in
            cond-true (there v j) (step_outcome W full v j bit).left v t
            ∙ ap (λ p. (step_at W full v j bit (own v j) p).left) ((g.each j t').standing ∙ out)
        | inr f ↦ cond-false (there v j) (step_outcome W full v j bit).left v f
      ]

  module _ (n : Boards) (earlier : History) (b i k x : ℕ) (gave : Given W full n (Asked b i k (Ok x) ∷ earlier)) (all_out : (j : ℕ) → station earlier j ≡ Out) where
    abbrev hist : History → History
    hist later = later ++ (Asked b i k (Ok x) ∷ earlier)

    abbrev tr : History → View S
    tr later = trace W full n (hist later)

    abbrev l₀ : S
    l₀ = (trace W full n earlier).lock

    abbrev l₁ : S
    l₁ = W.after l₀ (Start b)

    -- b's own steps from the ask on, newest first
    abbrev bits_lock : List Bool → S
    bits_lock [] = l₁
    bits_lock (bit ∷ bs) = W.after (bits_lock bs) (Step b bit)

    abbrev AllTrying : List Bool → Type 0
    AllTrying [] = at (W.stations l₁) b ≡ Trying
    AllTrying (bit ∷ bs) = (at (W.stations (bits_lock (bit ∷ bs))) b ≡ Trying) × AllTrying bs

    abbrev calls : List Bool → List Call
    calls [] = []
    calls (bit ∷ bs) = calls bs ++ (Step b bit ∷ [])

    calls_lock : (bs : List Bool) → run W.after l₁ (calls bs) ≡ bits_lock bs
    calls_lock [] = refl
    calls_lock (bit ∷ bs) = run_more W.after l₁ (calls bs) (Step b bit) ∙ ap (λ l. W.after l (Step b bit)) (calls_lock bs)

    calls_steps : (bs : List Bool) → steps b (calls bs) ≡ length bs
    calls_steps [] = refl
    calls_steps (bit ∷ bs) = let ih = calls_steps bs in let e = steps_more b (calls bs) (Step b bit) in let one = own_same b bit in omega arith

    abbrev Spared : S → Call → Type 0
    Spared l c = accepted (W.stations l) c ≡ true → LockSpares b c

    calls_spare : (bs : List Bool) → Each W.after Spared l₁ (calls bs)
    calls_spare [] = tt
    calls_spare (bit ∷ bs) = each_more W.after Spared l₁ (calls bs) (Step b bit) (calls_spare bs) (λ _. tt)

    never : (bs : List Bool) → AllTrying bs → Sometime W.after (λ l. Stands (W.stations l) b Within) l₁ (calls bs) → ⊥
    never [] e s = trying≢inside (sym e ∙ s.2)
    never (bit ∷ bs) (e, es) s =
        elim (sometime_more W.after (λ l. Stands (W.stations l) b Within) l₁ (calls bs) (Step b bit) s) [
          | inl y ↦ never bs es y
          | inr y ↦ trying≢inside (sym e ∙ ap (λ l. at (W.stations l) b) (sym (calls_lock (bit ∷ bs))) ∙ y.2)
        ]

    g₀ : Agrees W full n earlier (trace W full n earlier)
    g₀ = agrees W full K n earlier (before W full K n (Asked b i k (Ok x)) earlier gave)

    was_ok : (among n.count b ≡ true) × (station earlier b ≡ Out) × ((leb i full && leb k full) ≡ true)
    was_ok = ask_ok (among n.count b) (station earlier b) (leb i full && leb k full) (bits (waiting earlier) n.count) x (answers W full K n (Asked b i k (Ok x)) earlier gave)

    -- while it is trying, fewer than S own steps are done
    most_trying : (bs : List Bool) → AllTrying bs → length bs < W.alone n.count
    most_trying bs all =
        elim (cases_lt (length bs) (W.alone n.count)) [
          | inl fewer ↦ fewer
          | inr enough ↦ absurd (never bs all (entered (let e = calls_steps bs in omega arith)))
        ]
      where
        acc : accepted (W.stations l₀) (Start b) ≡ true
        acc = let q = known W full n earlier (trace W full n earlier) b g₀ was_ok.0 in
            may_start (W.stations l₀) b q.0 q.1 ((g₀.each b was_ok.0).below ∙ ap as_lock was_ok.1)

        others : OthersOut (W.stations l₀) b
        others j ne p q = let s = g₀.size in (g₀.each j (among_from n.count j p (omega arith))).below ∙ ap as_lock (all_out j)

        entered : W.alone n.count ≤ steps b (calls bs) → Sometime W.after (λ l. Stands (W.stations l) b Within) l₁ (calls bs)
        entered = subst (λ l. accepted (W.stations l) (Start b) ≡ true → OthersOut (W.stations l) b → Each W.after Spared (W.after l (Start b)) (calls bs)
            → W.alone n.count ≤ steps b (calls bs) → Sometime W.after (λ l. Stands (W.stations l) b Within) (W.after l (Start b)) (calls bs))
            (sym g₀.real.1) (K.enters n g₀.real.0 (calls bs) b) acc others (calls_spare bs)

    record Tries (later : History) : Type 0 where
      solo : (j : ℕ) → (j ≡ b → ⊥) → station (hist later) j ≡ Out
      engaged : as_lock (station (hist later) b) ≡ Trying
      own_bits : List Bool
      lock_is : (tr later).lock ≡ bits_lock own_bits
      all : AllTrying own_bits
      count : length own_bits ≡ own_steps b later

    record Works (later : History) : Type 0 where
      solo : (j : ℕ) → (j ≡ b → ⊥) → station (hist later) j ≡ Out
      inside : station (hist later) b ≡ Inside
      most : own_steps b later ≤ W.alone n.count + since_entry (hist later) b

    abbrev Way : History → Type 0
    Way later = Shows later b ⊎ (Tries later ⊎ Works later)

    -- a call that does nothing here
    same_way : (y : Entry) (later : History) → (tr (y ∷ later)).lock ≡ (tr later).lock → ((j : ℕ) → station (y ∷ hist later) j ≡ station (hist later) j)
        → since_entry (y ∷ hist later) b ≡ since_entry (hist later) b → own_steps b (y ∷ later) ≡ own_steps b later → Tries later ⊎ Works later → Way (y ∷ later)
    same_way y later lock_same st se os (inl w) = inr (inl (record {
      solo = λ j ne. st j ∙ w.solo j ne;
      engaged = ap as_lock (st b) ∙ w.engaged;
      own_bits = w.own_bits;
      lock_is = lock_same ∙ w.lock_is;
      all = w.all;
      count = w.count ∙ sym os;
    }))
    same_way y later lock_same st se os (inr w) = inr (inr (record {
      solo = λ j ne. st j ∙ w.solo j ne;
      inside = st b ∙ w.inside;
      most = let o = w.most in omega arith;
    }))

    solo_of : (later : History) → Tries later ⊎ Works later → (j : ℕ) → (j ≡ b → ⊥) → station (hist later) j ≡ Out
    solo_of later (inl w) = w.solo
    solo_of later (inr w) = w.solo

    ok_not : {A : Type 0} → true ≡ false → A
    ok_not e = let z : ◌≡◌ {A = ℕ} 0 1 = cc in absurd (omega arith)

    other_count : (later : History) (j : ℕ) (bit : Bool) (r : Result Progress Refusal) → (j ≡ b → ⊥) → own_steps b (Stepped j bit r ∷ later) ≡ own_steps b later
    other_count later j bit r ne = let e = ne_eqb j b ne in rw e (omega arith)

    -- another board's step
    other_step : (later : History) (j : ℕ) (bit : Bool) (r : Result Progress Refusal) → Given W full n (Stepped j bit r ∷ hist later) → (j ≡ b → ⊥)
        → Tries later ⊎ Works later → Way (Stepped j bit r ∷ later)
    other_step later j bit r k' ne w =
        let g = agrees W full K n (hist later) k'.1 in
        let out = solo_of later w j ne in
        same_way (Stepped j bit r) later (ap (λ v. v.lock) (idle_view n (hist later) (tr later) j bit g out))
        (still r (answers W full K n (Stepped j bit r) (hist later) k') out)
        (ap (λ s. s.2) (says_other (Stepped j bit r) (hist later) b ne))
        (other_count later j bit r ne) w
      where
        still : (y : Result Progress Refusal) → Rightly n.count full (hist later) (Stepped j bit y) → station (hist later) j ≡ Out
            → (i' : ℕ) → station (Stepped j bit y ∷ hist later) i' ≡ station (hist later) i'
        still (Err e) _ out i' = ap (λ s. s.0) (says_no_step j bit e (hist later) i')
        still (Ok p) (_, at_out) out i' =
            let idle : p ≡ Idle = subst (λ s. StepAt s (since_entry (hist later) j) (difference (asked (hist later) j)) p) out at_out in
            ap (λ y. station (Stepped j bit (Ok y) ∷ hist later) i') idle ∙ same_cond (eqb j i') (station (hist later) i')

    own_count : (later : History) (bit : Bool) (r : Result Progress Refusal) → own_steps b (Stepped b bit r ∷ later) ≡ 1 + own_steps b later
    own_count later bit r = let e = eq-eqb b b refl in rw e

    solo_on : (later : History) (bit : Bool) (r : Result Progress Refusal) → ((j : ℕ) → (j ≡ b → ⊥) → station (hist later) j ≡ Out)
        → (j : ℕ) → (j ≡ b → ⊥) → station (Stepped b bit r ∷ hist later) j ≡ Out
    solo_on later bit r solo j ne = ap (λ s. s.0) (says_other (Stepped b bit r) (hist later) j (λ e. ne (sym e))) ∙ solo j ne

    -- b's own step while it is trying, and while it is inside
    own_tries : (later : History) (bit : Bool) (p : Progress) → Given W full n (Stepped b bit (Ok p) ∷ hist later) → Tries later → Way (Stepped b bit (Ok p) ∷ later)
    own_tries later bit p k' w =
        let g = agrees W full K n (hist later) k'.1 in
        let g' = agrees W full K n (Stepped b bit (Ok p) ∷ hist later) k' in
        let a = answers W full K n (Stepped b bit (Ok p)) (hist later) k' in
        let says_b = says_step b bit (Ok p) (hist later) in
        let one = own_count later bit (Ok p) in
        let c = w.count in
        let t : there (tr later) b ≡ true = ap (λ y. among y.count b) g.boards ∙ was_ok.0 in
        elim (trying_step (station (hist later) b) (since_entry (hist later) b) (difference (asked (hist later) b)) p w.engaged a.1) [
          | inl still ↦
              let still' : as_lock (station (Stepped b bit (Ok p) ∷ hist later) b) ≡ Trying = ap (λ s. as_lock s.0) says_b ∙ still in
              let moved_lock : (tr (Stepped b bit (Ok p) ∷ later)).lock ≡ bits_lock (bit ∷ w.own_bits) =
              step_lock (tr later) b bit (own (tr later) b).standing refl (ap as_lock (g.each b was_ok.0).standing ∙ w.engaged) t ∙ ap (λ l. W.after l (Step b bit)) w.lock_is in
              inr (inl (record {
                solo = solo_on later bit (Ok p) w.solo;
                engaged = still';
                own_bits = bit ∷ w.own_bits;
                lock_is = moved_lock;
                all = (ap (λ l. at (W.stations l) b) (sym moved_lock) ∙ (g'.each b was_ok.0).below ∙ still', w.all);
                count = omega arith;
              }))
          | inr enters ↦
              let most = most_trying w.own_bits w.all in
              let z : since_entry (Stepped b bit (Ok p) ∷ hist later) b ≡ 0 = ap (λ s. s.2) says_b ∙ ap (λ y. count_by (Ok y) (since_entry (hist later) b)) enters in
              inr (inr (record {
                solo = solo_on later bit (Ok p) w.solo;
                inside = ap (λ s. s.0) says_b ∙ ap (λ y. after_step (Ok y) (station (hist later) b)) enters;
                most = omega arith;
              }))
        ]

    own_works : (later : History) (bit : Bool) (p : Progress) → Given W full n (Stepped b bit (Ok p) ∷ hist later) → Works later → Way (Stepped b bit (Ok p) ∷ later)
    own_works later bit p k' w =
        let a = answers W full K n (Stepped b bit (Ok p)) (hist later) k' in
        let says_b = says_step b bit (Ok p) (hist later) in
        let one = own_count later bit (Ok p) in
        let o = w.most in
        let a' : StepAt Inside (since_entry (hist later) b) (difference (asked (hist later) b)) p =
        subst (λ s. StepAt s (since_entry (hist later) b) (difference (asked (hist later) b)) p) w.inside a.1 in
        elim a' [
          | inl (_, working) ↦
              let z : since_entry (Stepped b bit (Ok p) ∷ hist later) b ≡ suc (since_entry (hist later) b) =
              ap (λ s. s.2) says_b ∙ ap (λ y. count_by (Ok y) (since_entry (hist later) b)) working in
              inr (inr (record {
                solo = solo_on later bit (Ok p) w.solo;
                inside = ap (λ s. s.0) says_b ∙ ap (λ y. after_step (Ok y) (station (hist later) b)) working ∙ w.inside;
                most = omega arith;
              }))
          | inr (_, shown) ↦ inl (inl (bit, difference (asked (hist later) b), ap (λ y. Stepped b bit (Ok y)) shown))
        ]

    own_step : (later : History) (bit : Bool) (r : Result Progress Refusal) → Given W full n (Stepped b bit r ∷ hist later)
        → Tries later ⊎ Works later → Way (Stepped b bit r ∷ later)
    own_step later bit (Err e) k' w =
        absurd (both_ways (among n.count b) (answers W full K n (Stepped b bit (Err e)) (hist later) k').0 was_ok.0)
    own_step later bit (Ok p) k' (inl w) = own_tries later bit p k' w
    own_step later bit (Ok p) k' (inr w) = own_works later bit p k' w

    pull_out : (later : History) (j : ℕ) (u : Unit) → Given W full n (Pulled j (Ok u) ∷ hist later) → station (hist later) j ≡ Out → ⊥
    pull_out later j u k' out =
        let ok = pull_ok (among n.count j) (station (hist later) j) u (answers W full K n (Pulled j (Ok u)) (hist later) k') in
        elim ok.1 [
          | inl e ↦ out≢trying (sym (ap as_lock out) ∙ e)
          | inr e ↦ out≢inside (sym (ap as_lock out) ∙ e)
        ]

    on_way : (y : Entry) (later : History) → Given W full n (y ∷ hist later) → spares b y → Tries later ⊎ Works later → Way (y ∷ later)
    on_way (Asked j i' j' (Ok u)) later k' no_ask w = ok_not no_ask
    on_way (Asked j i' j' (Err e)) later k' no_ask w =
        same_way (Asked j i' j' (Err e)) later refl (λ y. ap (λ s. s.0) (says_no_ask j i' j' e (hist later) y)) refl refl w
    on_way (Stepped j bit r) later k' _ w =
        elim (cases_eq j b) [
          | inl same ↦ subst (λ y. Given W full n (Stepped y bit r ∷ hist later) → Way (Stepped y bit r ∷ later)) (sym same) (λ k''. own_step later bit r k'' w) k'
          | inr ne ↦ other_step later j bit r k' ne w
        ]
    on_way (Pulled j (Ok u)) later k' no_pull w =
        elim (cases_eq j b) [
          | inl same ↦ ok_not (no_pull same)
          | inr ne ↦ absurd (pull_out later j u k' (solo_of later w j ne))
        ]
    on_way (Pulled j (Err e)) later k' no_pull w =
        same_way (Pulled j (Err e)) later refl (λ y. ap (λ s. s.0) (says_no_pull j e (hist later) y)) refl refl w

    start_way : Way []
    start_way =
        let f = says_ask b i k (Ok x) earlier in
        let g₁ = agrees W full K n (hist []) gave in inr (inl (record {
          solo = λ j ne. ap (λ s. s.0) (says_other (Asked b i k (Ok x)) earlier j (λ e. ne (sym e))) ∙ all_out j;
          engaged = ap (λ s. as_lock s.0) f;
          own_bits = [];
          lock_is = refl;
          all = (g₁.each b was_ok.0).below ∙ ap (λ s. as_lock s.0) f;
          count = refl;
        }))

    way : (later : History) → Given W full n (hist later) → Spares b later → Way later
    way [] k' q = start_way
    way (y ∷ later) k' q =
        elim (way later (before W full K n y (hist later) k') q.1) [
          | inl s ↦ inl (inr s)
          | inr w ↦ on_way y later k' q.0 w
        ]

    shows_number : (later : History) → Given W full n (hist later) → Spares b later → W.alone n.count + 5 ≤ own_steps b later → Shows later b
    shows_number later k' q h =
        elim (way later k' q) [
          | inl s ↦ s
          | inr (inl w) ↦ let c = w.count in let most = most_trying w.own_bits w.all in absurd (omega arith)
          | inr (inr w) ↦
              let g = agrees W full K n (hist later) k' in
              let f = as_standing W full K n (hist later) (tr later) b Inside g was_ok.0 ((g.each b was_ok.0).standing ∙ w.inside) in
              let c = f.1.busy.0 in let most = w.most in let four = at_most (own (tr later) b).stage in absurd (omega arith)
        ]
      where
        at_most : (s : Stage) → number s ≤ 4
        at_most Arrived = omega arith
        at_most StartPut = omega arith
        at_most StopPut = omega arith
        at_most (StartTaken y) = omega arith
        at_most (StopTaken y z) = omega arith

  -- an ask within full scale, all out, is accepted
  accepted_ask : (n : Boards) (earlier : History) (b i k : ℕ) (r : Result ℕ Refusal) → Given W full n (Asked b i k r ∷ earlier)
      → 1 ≤ b → b ≤ n.count → i ≤ full → k ≤ full → station earlier b ≡ Out → r ≡ Ok (bits (waiting earlier) n.count)
  accepted_ask n earlier b i k r gave p q small small' out =
      let there_b = among_from n.count b p q in
      let both = and_from (leb i full) (leb k full) (le-leb i full small) (le-leb k full small') in
      answers W full K n (Asked b i k r) earlier gave
      ∙ cond-true (among n.count b) (ask_at (station earlier b) (leb i full && leb k full) (bits (waiting earlier) n.count)) (Err NoSuchBoard) there_b
      ∙ ap (λ s. ask_at s (leb i full && leb k full) (bits (waiting earlier) n.count)) out ∙ ap (λ y. ask_at Out y (bits (waiting earlier) n.count)) both

  pub served : (n : Boards) (later earlier : History) (b i k : ℕ) (r : Result ℕ Refusal) → Given W full n (later ++ (Asked b i k r ∷ earlier))
      → 1 ≤ b → b ≤ n.count → i ≤ full → k ≤ full → ((j : ℕ) → station earlier j ≡ Out) → Spares b later
      → W.alone n.count + 5 ≤ own_steps b later → Shows later b
  served n later earlier b i k r k' p q small small' out quiet h =
      let gave = earlier_given W full K n later (Asked b i k r ∷ earlier) k' in
      let ok = accepted_ask n earlier b i k r gave p q small small' (out b) in
      shows_number n earlier b i k (bits (waiting earlier) n.count) (subst (λ y. Given W full n (Asked b i k y ∷ earlier)) ok gave) out later
      (subst (λ y. Given W full n (later ++ (Asked b i k y ∷ earlier))) ok k') quiet h
