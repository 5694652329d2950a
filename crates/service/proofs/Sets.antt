-- The sets ahead that the analyser keeps are those of the history.
use Rattle.std.proofs.Common.{◌≡◌, ℕ, zero, suc, ◌-◌, ◌<◌, Bool, true, false, cond, ◌&&◌, eqb, leb, List, [], ◌∷◌, length, get_or, set, replicate, Ok, Err, Result, sym, refl, ap, ◌∙◌, subst, inl, inr, arith}
use Rattle.std.proofs.lemmas.Bool.{cases_Bool, cases_eq, eq-eqb, ne_eqb, cond-true, cond-false}
use Rattle.std.proofs.lemmas.List.{length-set, length-map, get_or-map, get_or-set_same, get_or-set_other, get_or-replicate}
use Rattle.lock.specs.declared.boards.Boards.{Boards}
use Rattle.lock.specs.Most.{most}
use Rattle.lock.specs.Stations.{among}
use Rattle.lock.proofs.Stations.{among_from, from_among}
use Rattle.service.specs.declared.progress.Progress.{Progress}
use Rattle.service.specs.declared.progress.Progress.TheVariants.{Idle, Working, Passed, Entered, Shown, CameOut}
use Rattle.service.specs.declared.refusal.Refusal.{Refusal}
use Rattle.service.specs.declared.refusal.Refusal.TheVariants.{NoSuchBoard}
use Rattle.service.specs.History.{Asked, Stepped, Pulled, History, station, waiting, ahead, ahead_step, ahead_at, bits, set_ahead}
use Rattle.service.specs.Law.{Rightly}
use Rattle.service.specs.Records.{waits}
use Rattle.service.specs.Rule.{Lockwork, marked, waiting_now, ahead_told, trace, Given}
use Rattle.service.proofs.Bits.{bits_same}
use Rattle.service.proofs.Reached.{Keeps}
use Rattle.service.proofs.Says.{same_cond}
use Rattle.service.proofs.Agrees.{Agrees}
use Rattle.service.proofs.Did.{strike, sets_by, did}
use Rattle.service.proofs.Answered.{ask_ok, pull_ok, agrees, answers, waiting_same, by_history}

-- the set of board b
abbrev pub row : List (List Bool) → ℕ → List Bool
row ss b = get_or ss (b - 1) []

none_at : (k i : ℕ) → get_or (replicate k false) i false ≡ false
none_at zero i = refl
none_at (suc k) zero = refl
none_at (suc k) (suc i) = none_at k i

-- f b j says whether j stands ahead of b
pub record Sets (n : ℕ) (f : ℕ → ℕ → Bool) (ss : List (List Bool)) : Type 0 where
  pub long : length ss ≡ most
  pub wide : (b : ℕ) → among n b ≡ true → length (row ss b) ≡ most
  pub same : (b j : ℕ) → among n b ≡ true → among n j ≡ true → marked (row ss b) j ≡ f b j

module _ (n : Boards) where
  within : (ss : List (List Bool)) (b : ℕ) → length ss ≡ most → among n.count b ≡ true → b - 1 < length ss
  within ss b len t = let r = from_among n.count b t in let low = r.0 in let high = r.1 in let few = n.few in omega arith

  apart : (b j : ℕ) → among n.count b ≡ true → among n.count j ≡ true → (b ≡ j → ⊥) → b - 1 ≡ j - 1 → ⊥
  apart b j t t' ne e = let low = (from_among n.count b t).0 in let low' = (from_among n.count j t').0 in ne (omega arith)

  -- nobody at first
  sets_none : Sets n.count (λ b j. false) (replicate most (replicate most false))
  sets_none =
      let at_row : (b : ℕ) → among n.count b ≡ true → row (replicate most (replicate most false)) b ≡ replicate most false =
      λ b t. get_or-replicate most (b - 1) (replicate most false) [] (let k = within (replicate most (replicate most false)) b refl t in omega arith) in
      record {
        long = refl;
        wide = λ b t. ap length (at_row b t);
        same = λ b j t t'. ap (λ xs. marked xs j) (at_row b t) ∙ none_at most (j - 1);
      }

  sets_as : (f g : ℕ → ℕ → Bool) (ss : List (List Bool)) → ((b j : ℕ) → f b j ≡ g b j) → Sets n.count f ss → Sets n.count g ss
  sets_as f g ss e k = record { long = k.long; wide = k.wide; same = λ b j t t'. k.same b j t t' ∙ e b j }

  -- board i gets a new set
  sets_put : (f g : ℕ → ℕ → Bool) (ss : List (List Bool)) (i : ℕ) (xs : List Bool) → among n.count i ≡ true → length xs ≡ most
      → ((j : ℕ) → among n.count j ≡ true → marked xs j ≡ g i j) → ((b j : ℕ) → (b ≡ i → ⊥) → f b j ≡ g b j)
      → Sets n.count f ss → Sets n.count g (set ss (i - 1) xs)
  sets_put f g ss i xs ti len mine others k = record {
    long = length-set ss (i - 1) xs ∙ k.long;
    wide = λ b t. elim (cases_eq b i) [
      | inl e ↦ ap length (own_row b e) ∙ len
      | inr ne ↦ ap length (other_row b t ne) ∙ k.wide b t
    ];
    same = λ b j t t'. elim (cases_eq b i) [
      | inl e ↦ ap (λ ys. marked ys j) (own_row b e) ∙ mine j t' ∙ ap (λ y. g y j) (sym e)
      | inr ne ↦ ap (λ ys. marked ys j) (other_row b t ne) ∙ k.same b j t t' ∙ others b j ne
    ];
  }
    where
      own_row : (b : ℕ) → b ≡ i → row (set ss (i - 1) xs) b ≡ xs
      own_row b e = ap (row (set ss (i - 1) xs)) e ∙ get_or-set_same ss (i - 1) xs [] (within ss i k.long ti)

      other_row : (b : ℕ) → among n.count b ≡ true → (b ≡ i → ⊥) → row (set ss (i - 1) xs) b ≡ row ss b
      other_row b t ne = get_or-set_other ss (i - 1) (b - 1) xs [] (apart b i t ti ne)

  -- board i is struck off every set
  sets_strike : (f g : ℕ → ℕ → Bool) (ss : List (List Bool)) (i : ℕ) → among n.count i ≡ true
      → ((b : ℕ) → g b i ≡ false) → ((b j : ℕ) → (j ≡ i → ⊥) → f b j ≡ g b j)
      → Sets n.count f ss → Sets n.count g (strike i ss)
  sets_strike f g ss i ti gone others k = record {
    long = length-map ss (λ r. set r (i - 1) false) ∙ k.long;
    wide = λ b t. ap length (struck_row b t) ∙ length-set (row ss b) (i - 1) false ∙ k.wide b t;
    same = λ b j t t'. ap (λ ys. marked ys j) (struck_row b t) ∙ elim (cases_eq j i) [
      | inl e ↦ ap (marked (set (row ss b) (i - 1) false)) e ∙ get_or-set_same (row ss b) (i - 1) false false (within_row b t) ∙ sym (gone b) ∙ ap (g b) (sym e)
      | inr ne ↦ get_or-set_other (row ss b) (i - 1) (j - 1) false false (apart j i t' ti ne) ∙ k.same b j t t' ∙ others b j ne
    ];
  }
    where
      struck_row : (b : ℕ) → among n.count b ≡ true → row (strike i ss) b ≡ set (row ss b) (i - 1) false
      struck_row b t = get_or-map (λ r. set r (i - 1) false) ss (b - 1) [] [] (within ss b k.long t)

      within_row : (b : ℕ) → among n.count b ≡ true → i - 1 < length (row ss b)
      within_row b t = let w = k.wide b t in let r = from_among n.count i ti in let low = r.0 in let high = r.1 in let few = n.few in omega arith

module _ {S : Type 0} (W : Lockwork S) (full : ℕ) (K : Keeps W) where
  pub sets : (n : Boards) (h : History) → Given W full n h → Sets n.count (ahead h) (trace W full n h).sets
  sets n [] k = sets_none n
  sets n (Asked i m m' (Err e) ∷ h) k =
      sets_as n (ahead h) (ahead (Asked i m m' (Err e) ∷ h)) _ (λ b j. sym (same_cond (eqb i b) (ahead h b j))) (sets n h k.1)
  sets n (Asked i m m' (Ok x) ∷ h) k =
      let v = trace W full n h in
      let g = agrees W full K n h k.1 in
      let t = (ask_ok (among n.count i) (station h i) (leb m full && leb m' full) (bits (waiting h) n.count) x (answers W full K n (Asked i m m' (Ok x)) h k)).0 in
      sets_put n (ahead h) (ahead (Asked i m m' (Ok x) ∷ h)) v.sets i (waiting_now v) t (length-map v.records waits ∙ g.long)
      (λ j tj. waiting_same W full K n h v j g tj ∙ sym (cond-true (eqb i i) (waiting h j) (ahead h i j) (eq-eqb i i refl)))
      (λ b j ne. sym (cond-false (eqb i b) (waiting h j) (ahead h b j) (ne_eqb i b (λ e. ne (sym e)))))
      (sets n h k.1)
  sets n (Pulled i (Err e) ∷ h) k = sets_as n (ahead h) (ahead (Pulled i (Err e) ∷ h)) _ (λ b j. sym (same_cond (eqb i j) (ahead h b j))) (sets n h k.1)
  sets n (Pulled i (Ok u) ∷ h) k =
      let t = (pull_ok (among n.count i) (station h i) u (answers W full K n (Pulled i (Ok u)) h k)).0 in
      sets_strike n (ahead h) (ahead (Pulled i (Ok u) ∷ h)) (trace W full n h).sets i t
      (λ b. cond-true (eqb i i) false (ahead h b i) (eq-eqb i i refl))
      (λ b j ne. sym (cond-false (eqb i j) false (ahead h b j) (ne_eqb i j (λ e. ne (sym e)))))
      (sets n h k.1)
  sets n (Stepped i bit r ∷ h) k =
      subst (Sets n.count (ahead (Stepped i bit r ∷ h))) (sym (did W full (trace W full n h) i bit r k.0).sets)
      (by_answer (sets n h k.1) r (answers W full K n (Stepped i bit r) h k))
    where
      kept : Sets n.count (ahead h) (trace W full n h).sets → (y : Result Progress Refusal) → ((was : Bool) → ahead_step y was ≡ was) → Sets n.count (ahead (Stepped i bit y ∷ h)) (trace W full n h).sets
      kept ih y same = sets_as n (ahead h) (ahead (Stepped i bit y ∷ h)) _ (λ b j. sym (ap (λ x. cond (eqb i j) x (ahead h b j)) (same (ahead h b j)) ∙ same_cond (eqb i j) (ahead h b j))) ih

      by_answer : Sets n.count (ahead h) (trace W full n h).sets → (y : Result Progress Refusal) → Rightly n.count full h (Stepped i bit y)
          → Sets n.count (ahead (Stepped i bit y ∷ h)) (sets_by y i (trace W full n h).sets)
      by_answer ih (Ok Idle) a = kept ih (Ok Idle) (λ _. refl)
      by_answer ih (Ok Working) a = kept ih (Ok Working) (λ _. refl)
      by_answer ih (Ok Passed) a = kept ih (Ok Passed) (λ _. refl)
      by_answer ih (Ok Entered) a =
          sets_strike n (ahead h) (ahead (Stepped i bit (Ok Entered) ∷ h)) (trace W full n h).sets i a.0
          (λ b. cond-true (eqb i i) false (ahead h b i) (eq-eqb i i refl))
          (λ b j ne. sym (cond-false (eqb i j) false (ahead h b j) (ne_eqb i j (λ e. ne (sym e)))))
          ih
      by_answer ih (Ok (Shown z)) a = kept ih (Ok (Shown z)) (λ _. refl)
      by_answer ih (Ok CameOut) a = kept ih (Ok CameOut) (λ _. refl)
      by_answer ih (Err e) a = kept ih (Err e) (λ _. refl)

  -- what is told of the set ahead is what the history says
  pub told_ahead : (n : Boards) (h : History) (b : ℕ) → Given W full n h
      → ahead_told (trace W full n h) b ≡ cond (among n.count b) (Ok (set_ahead n.count h b)) (Err NoSuchBoard)
  told_ahead n h b k =
      by_history W full K n h (trace W full n h) b (λ s. Ok (ahead_at s (bits (marked (row (trace W full n h).sets b)) (trace W full n h).boards.count))) (Err NoSuchBoard) g
      ∙ elim (cases_Bool (among n.count b)) [
        | inl t ↦ ap (λ y. cond (among n.count b) (Ok (ahead_at (station h b) y)) (Err NoSuchBoard)) (same_bits t)
        | inr f ↦ cond-false (among n.count b) _ _ f ∙ sym (cond-false (among n.count b) _ _ f)
      ]
    where
      g : Agrees W full n h (trace W full n h)
      g = agrees W full K n h k

      same_bits : among n.count b ≡ true → bits (marked (row (trace W full n h).sets b)) (trace W full n h).boards.count ≡ bits (ahead h b) n.count
      same_bits t =
          ap (λ y. bits (marked (row (trace W full n h).sets b)) y.count) g.boards
          ∙ bits_same (marked (row (trace W full n h).sets b)) (ahead h b) n.count (λ j p q. (sets n h k).same b j t (among_from n.count j p q))
