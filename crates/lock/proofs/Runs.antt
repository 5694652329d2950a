-- From facts of single calls to whole runs, for any kind of state.
use Rattle.std.proofs.Common.{◌≡◌, ℕ, zero, suc, ◌+◌, ◌<◌, ◌≤◌, ◌⊎◌, List, [], ◌∷◌, ◌++◌, length, get_or, drop, sym, refl, ap, ◌∙◌, subst, inl, inr, arith}
use Rattle.std.proofs.lemmas.List.{at_drop_more}
use Rattle.std.proofs.lemmas.Bool.{cases_eq}
use Rattle.lock.specs.declared.station.Call.{Call}
use Rattle.lock.specs.declared.station.Call.TheVariants.{Start}
use Rattle.lock.specs.Runs.{run, Sometime, Each, own, steps}
use Rattle.lock.proofs.Stations.{own_most}

module _ {L : Type 0} (after : L → Call → L) where
  -- the calls from place i on, one of them made
  pub run_next : (l m end : L) (cs : List Call) (i : ℕ) → i < length cs → m ≡ after l (get_or cs i (Start 0))
      → run after l (drop i cs) ≡ end → run after m (drop (i + 1) cs) ≡ end
  run_next l m end cs i lt e h = ap (λ x. run after x (drop (i + 1) cs)) e ∙ sym (at_drop_more (run after l) cs i (Start 0) lt) ∙ h

  pub run_append : (l : L) (cs ds : List Call) → run after l (cs ++ ds) ≡ run after (run after l cs) ds
  run_append l [] ds = refl
  run_append l (c ∷ cs) ds = run_append (after l c) cs ds

  -- one call more
  pub run_more : (l : L) (cs : List Call) (c : Call) → run after l (cs ++ (c ∷ [])) ≡ after (run after l cs) c
  run_more l cs c = run_append l cs (c ∷ [])

  -- P holds after every run that begins where it holds, if each call keeps it
  pub always : (P : L → Type 0) → ((l : L) (c : Call) → P l → P (after l c)) → (l : L) (cs : List Call) → P l → P (run after l cs)
  always P keep l [] h = h
  always P keep l (c ∷ cs) h = always P keep (after l c) cs (keep l c h)

  pub at_once : (P : L → Type 0) (l : L) (cs : List Call) → P l → Sometime after P l cs
  at_once P l [] h = h
  at_once P l (c ∷ cs) h = inl h

  pub each_any : (P : L → Call → Type 0) → ((l : L) (c : Call) → P l c) → (l : L) (cs : List Call) → Each after P l cs
  each_any P h l [] = tt
  each_any P h l (c ∷ cs) = (h l c, each_any P h (after l c) cs)

  -- Inv holds until Mid comes, and μ bounds the own steps of b until then; from Mid on B own steps suffice
  module _ (b B : ℕ) (μ : L → ℕ) (Inv Mid Goal : L → Type 0) (Ok : L → Call → Type 0)
      (left : (l : L) → Inv l → 1 ≤ μ l)
      (falls : (l : L) (c : Call) → Inv l → Ok l c → Mid (after l c) ⊎ (Inv (after l c) × (own b c + μ (after l c) ≤ μ l)))
      (on : (l : L) (cs : List Call) → Mid l → Each after Ok l cs → B ≤ steps b cs → Sometime after Goal l cs) where
    pub arrives_then : (l : L) (cs : List Call) → Inv l → Each after Ok l cs → μ l + B ≤ steps b cs → Sometime after Goal l cs
    arrives_then l [] i e h = let k = left l i in absurd (omega arith)
    arrives_then l (c ∷ cs) i e h =
        let k = left l i in
        let most = own_most b c in
        elim (falls l c i e.0) [
          | inl m ↦ inr (on (after l c) cs m e.1 (omega arith))
          | inr f ↦ inr (arrives_then (after l c) cs f.0 e.1 (let g = f.1 in omega arith))
        ]

  -- the same where Mid is what is wanted
  pub arrives : (b : ℕ) (μ : L → ℕ) (Inv Goal : L → Type 0) (Ok : L → Call → Type 0)
      → ((l : L) → Inv l → 1 ≤ μ l)
      → ((l : L) (c : Call) → Inv l → Ok l c → Goal (after l c) ⊎ (Inv (after l c) × (own b c + μ (after l c) ≤ μ l)))
      → (l : L) (cs : List Call) → Inv l → Each after Ok l cs → μ l ≤ steps b cs → Sometime after Goal l cs
  arrives b μ Inv Goal Ok left falls l cs i e h =
      arrives_then b 0 μ Inv Goal Goal Ok left falls (λ l' cs' g _ _. at_once Goal l' cs' g) l cs i e (omega arith)

  -- a list with k + B own steps, cut where k are done
  pub cut : (b k B : ℕ) (cs : List Call) → k + B ≤ steps b cs
      → (ds : List Call) × (es : List Call) × (cs ≡ ds ++ es) × (k ≤ steps b ds) × (B ≤ steps b es)
  cut b zero B cs h = ([], cs, refl, omega arith, omega arith)
  cut b (suc k) B [] h = absurd (omega arith)
  cut b (suc k) B (c ∷ cs) h =
      elim (cases_eq (own b c) 0) [
        | inl none ↦
            let r = cut b (suc k) B cs (omega arith) in
            let s = r.3 in
            (c ∷ r.0, r.1, ap (λ x. c ∷ x) r.2, omega arith, r.4)
        | inr some ↦
            let r = cut b k B cs (let most = own_most b c in omega arith) in
            let s = r.3 in
            (c ∷ r.0, r.1, ap (λ x. c ∷ x) r.2, (let most = own_most b c in let one : own b c ≡ 1 = omega arith in omega arith), r.4)
      ]

  pub each_append : (P : L → Call → Type 0) (l : L) (cs ds : List Call) → Each after P l (cs ++ ds) → Each after P l cs
  each_append P l [] ds e = tt
  each_append P l (c ∷ cs) ds e = (e.0, each_append P (after l c) cs ds e.1)

  -- from the moment at which Mid comes, the rest of the list suffices
  pub sometime_then : (b B : ℕ) (Mid Goal : L → Type 0) (Ok : L → Call → Type 0)
      → ((l : L) (cs : List Call) → Mid l → Each after Ok l cs → B ≤ steps b cs → Sometime after Goal l cs)
      → (l : L) (ds es : List Call) → Each after Ok l (ds ++ es) → B ≤ steps b es → Sometime after Mid l ds → Sometime after Goal l (ds ++ es)
  sometime_then b B Mid Goal Ok on l [] es e h m = on l es m e h
  sometime_then b B Mid Goal Ok on l (d ∷ ds) es e h m =
      elim m [
        | inl now_it ↦ on l (d ∷ (ds ++ es)) now_it e (let more = steps_append b ds es in omega arith)
        | inr later ↦ inr (sometime_then b B Mid Goal Ok on (after l d) ds es e.1 h later)
      ]
    where
      steps_append : (b' : ℕ) (xs ys : List Call) → steps b' (xs ++ ys) ≡ steps b' xs + steps b' ys
      steps_append b' [] ys = omega arith
      steps_append b' (x ∷ xs) ys = let ih = steps_append b' xs ys in omega arith

-- U stands on L: one call above makes at most one below
module _ {U L : Type 0} (up : U → Call → U) (down : L → Call → L) (below : U → L) (b : ℕ) where
  -- a call above passes nothing, or one call, on; b's own steps are the same in both
  abbrev pub Passes : (L → Call → Type 0) → U → Call → Type 0
  Passes Ok u c = ((own b c ≡ 0) × (below (up u c) ≡ below u))
      ⊎ ((d : Call) × (own b d ≡ own b c) × Ok (below u) d × (below (up u c) ≡ down (below u) d))

  module _ (Inv Goal : U → Type 0) (Ok : U → Call → Type 0) (Low : L → Type 0) (OkLow : L → Call → Type 0)
      (shows : (u : U) → Inv u → Low (below u) → Goal u)
      (goes : (u : U) (c : Call) → Inv u → Ok u c → Goal (up u c) ⊎ (Inv (up u c) × Passes OkLow u c)) where
    -- Goal comes above, or the calls that were passed on bring it once Low has come below
    pub descends : (u : U) (cs : List Call) → Inv u → Each up Ok u cs
        → Sometime up Goal u cs
        ⊎ ((ds : List Call) × Each down OkLow (below u) ds × (steps b ds ≡ steps b cs) × (Sometime down Low (below u) ds → Sometime up Goal u cs))
    descends u [] i e = inr ([], tt, refl, shows u i)
    descends u (c ∷ cs) i e =
        elim (goes u c i e.0) [
          | inl g ↦ inl (inr (at_once up Goal (up u c) cs g))
          | inr (i', p) ↦ go i' p (descends (up u c) cs i' e.1)
        ]
      where
        go : Inv (up u c) → Passes OkLow u c
            → Sometime up Goal (up u c) cs
            ⊎ ((ds : List Call) × Each down OkLow (below (up u c)) ds × (steps b ds ≡ steps b cs) × (Sometime down Low (below (up u c)) ds → Sometime up Goal (up u c) cs))
            → Sometime up Goal u (c ∷ cs)
            ⊎ ((ds : List Call) × Each down OkLow (below u) ds × (steps b ds ≡ steps b (c ∷ cs)) × (Sometime down Low (below u) ds → Sometime up Goal u (c ∷ cs)))
        go i' p (inl s) = inl (inr s)
        go i' (inl (none, same)) (inr (ds, es, k, f)) =
            inr (ds, subst (λ l. Each down OkLow l ds) same es, (omega arith), λ s. inr (f (subst (λ l. Sometime down Low l ds) (sym same) s)))
        go i' (inr (d, k', ok, moved)) (inr (ds, es, k, f)) =
            inr (
              d ∷ ds,
              (ok, subst (λ l. Each down OkLow l ds) moved es),
              (omega arith),
              λ s. elim s [
                | inl h ↦ inl (shows u i h)
                | inr later ↦ inr (f (subst (λ l. Sometime down Low l ds) (sym moved) later))
              ],
            )

    pub descends_within : (B : ℕ) (u : U) (cs : List Call) → Inv u → Each up Ok u cs → B ≤ steps b cs
        → ((ds : List Call) → Each down OkLow (below u) ds → B ≤ steps b ds → Sometime down Low (below u) ds)
        → Sometime up Goal u cs
    descends_within B u cs i e h low =
        elim (descends u cs i e) [
          | inl s ↦ s
          | inr (ds, es, k, f) ↦ f (low ds es (omega arith))
        ]
