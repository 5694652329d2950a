-- What a lock shows of each single call, and that it then keeps the laws of a lock over whole runs.
use Rattle.std.proofs.Common.{◌≡◌, ℕ, ◌+◌, ◌-◌, ◌≤◌, Bool, true, false, ◌⊎◌, List, length, is_ok, Result, sym, refl, ap, ◌∙◌, subst, inl, inr, arith}
use Rattle.std.proofs.lemmas.Bool.{cases_eq, cases_Bool}
use Rattle.std.proofs.lemmas.List.{length-set}
use Rattle.lock.specs.declared.boards.Boards.{Boards}
use Rattle.lock.specs.declared.station.Call.{Call}
use Rattle.lock.specs.declared.station.Call.TheVariants.{Start, Step, Leave, Pull}
use Rattle.lock.specs.declared.station.Refusal.{Refusal}
use Rattle.lock.specs.declared.station.Station.{Station}
use Rattle.lock.specs.declared.station.Station.TheVariants.{Out, Trying, Inside, Leaving}
use Rattle.lock.specs.Stations.{board, at, with, answer, accepted, Stands, AtMostOne, Moves}
use Rattle.lock.specs.Runs.{own, Spares, OthersOut, run, AllOut, MovesAt, CallsMove, Exclusive, EntersWithin, OutWithin}
use Rattle.lock.proofs.Stations.{out≢trying, out≢inside, out≢leaving, trying≢inside, trying≢leaving, inside≢leaving, start_accepted, leave_accepted, pull_accepted, step_accepted, accepted_step, board_there, stands_with, other_with, stands_other, still_out, replicate_at, moved_to, one_inside, own_same, own_other, no_own}
use Rattle.lock.proofs.Runs.{always, each_any, arrives}

module _ {L : Type 0} (fresh : Boards → L) (after : L → Call → L) (stations : L → List Station) where
  -- what the contract of a call owes beside its answer and the state m that it leaves
  pub owed : (l m : L) (c : Call) (r : Result Unit Refusal) → MovesAt fresh after stations l c → r ≡ answer (stations l) c → m ≡ after l c
      → (is_ok r ≡ true → Moves (stations l) c (stations m)) × (is_ok r ≡ false → m ≡ l)
  owed l m c r moved answers leaves = (
    λ ok. subst (λ x. Moves (stations l) c (stations x)) (sym leaves) (moved.1 (sym (ap is_ok answers) ∙ ok)),
    λ bad. leaves ∙ moved.0 (sym (ap is_ok answers) ∙ bad),
  )

module _ {L : Type 0} (fresh : Boards → L) (after : L → Call → L) (stations : L → List Station) (Good : Boards → L → Type 0) where
  -- Good holds of every lock for n boards that calls on a new one lead to.
  pub record Calls : Type 0 where
    pub new : AllOut fresh stations
    pub first : (n : Boards) → Good n (fresh n)
    pub next : (n : Boards) (l : L) (c : Call) → Good n l → accepted (stations l) c ≡ true → Good n (after l c)
    pub moved : (n : Boards) (l : L) (c : Call) → Good n l → MovesAt fresh after stations l c

  -- b is trying and all others are out; b is leaving
  abbrev pub Clear : Boards → ℕ → L → Type 0
  Clear n b l = Good n l × Stands (stations l) b Trying × OthersOut (stations l) b

  abbrev pub Going : Boards → ℕ → L → Type 0
  Going n b l = Good n l × Stands (stations l) b Leaving

  module _ (k : Calls) where
    pub good_after : (n : Boards) (l : L) (c : Call) → Good n l → Good n (after l c)
    good_after n l c g =
        elim (cases_Bool (accepted (stations l) c)) [
          | inl t ↦ k.next n l c g t
          | inr f ↦ subst (Good n) (sym ((k.moved n l c g).0 f)) g
        ]

    pub reached : (n : Boards) (cs : List Call) → Good n (run after (fresh n) cs)
    reached n cs = always after (Good n) (good_after n) (fresh n) cs (k.first n)

    pub calls_move : CallsMove fresh after stations
    calls_move n cs c = k.moved n _ c (reached n cs)

    pub exclusive : Exclusive fresh after stations
    exclusive n cs = (always after (λ l. Good n l × AtMostOne (stations l)) keep (fresh n) cs (k.first n, none)).1
      where
        none : AtMostOne (stations (fresh n))
        none i j hi hj = absurd (out≢inside (sym (ap (λ ss. at ss i) (k.new n) ∙ replicate_at Out n.count (i - 1)) ∙ hi.2))

        keep : (l : L) (c : Call) → Good n l × AtMostOne (stations l) → Good n (after l c) × AtMostOne (stations (after l c))
        keep l c (g, one) = (
          good_after n l c g,
          elim (cases_Bool (accepted (stations l) c)) [
            | inl t ↦ one_inside (stations l) (stations (after l c)) c one t ((k.moved n l c g).1 t)
            | inr f ↦ subst (λ m. AtMostOne (stations m)) (sym ((k.moved n l c g).0 f)) one
          ],
        )

    -- a call of another board leaves b where it stands
    kept : (n : Boards) (l : L) (b : ℕ) (c : Call) (s : Station) → Good n l → accepted (stations l) c ≡ true → (board c ≡ b → ⊥) → Stands (stations l) b s → Stands (stations (after l c)) b s
    kept n l b c s g acc ne h =
        let m = moved_to (stations l) (stations (after l c)) c ((k.moved n l c g).1 acc) in
        subst (λ us. Stands us b s) (sym m.1) (stands_other (stations l) (board c) b m.0 s (board_there (stations l) c acc).0 (λ e. ne (sym e)) h)

    -- a start while all others are out makes it clear for b
    pub clear_start : (n : Boards) (l : L) (b : ℕ) → Good n l → accepted (stations l) (Start b) ≡ true → OthersOut (stations l) b → Clear n b (after l (Start b))
    clear_start n l b g acc o =
        let was = start_accepted (stations l) b acc in
        let m = (k.moved n l (Start b) g).1 acc in (
          good_after n l (Start b) g,
          subst (λ us. Stands us b Trying) (sym m) (stands_with (stations l) b Trying was.0 was.1),
          subst (λ us. OthersOut us b) (sym m) (still_out (stations l) b Trying was.0 o),
        )

    -- While it is clear for b, only b's own step changes that. Q is what is known of a call that keeps it clear.
    module _ (n : Boards) (b : ℕ) (Q : L → Call → Type 0)
        (by_own : (l : L) (bit : Bool) → Clear n b l → Stands (stations (after l (Step b bit))) b Inside ⊎ Q l (Step b bit))
        (by_other : (l : L) (j : ℕ) (bit : Bool) → Clear n b l → (j ≡ b → ⊥) → Stands (stations l) j Out → Q l (Step j bit))
        (by_none : (l : L) (c : Call) → Clear n b l → after l c ≡ l → own b c ≡ 0 → Q l c) where
      clear_own : (l : L) (bit : Bool) → Clear n b l
          → Stands (stations (after l (Step b bit))) b Inside ⊎ (Clear n b (after l (Step b bit)) × Q l (Step b bit))
      clear_own l bit (g, s, o) = elim (by_own l bit (g, s, o)) [ inl h ↦ inl h | inr q ↦ go q ((k.moved n l (Step b bit) g).1 (accepted_step (stations l) b bit s.0 s.1)) ]
        where
          go : Q l (Step b bit) → Moves (stations l) (Step b bit) (stations (after l (Step b bit)))
              → Stands (stations (after l (Step b bit))) b Inside ⊎ (Clear n b (after l (Step b bit)) × Q l (Step b bit))
          go q (t, e, ways) =
              let there = subst (λ us. Stands us b t) (sym e) (stands_with (stations l) b t s.0 s.1) in
              elim ways [
                | inl same ↦ inr (
                  (
                    good_after n l (Step b bit) g,
                    subst (Stands (stations (after l (Step b bit))) b) (same ∙ s.2) there,
                    subst (λ us. OthersOut us b) (sym e) (still_out (stations l) b t s.0 o),
                  ),
                  q,
                )
                | inr (inl w) ↦ inl (subst (Stands (stations (after l (Step b bit))) b) w.1 there)
                | inr (inr w) ↦ absurd (trying≢leaving (sym s.2 ∙ w.0))
              ]

      clear_other : (l : L) (j : ℕ) (bit : Bool) → Clear n b l → (j ≡ b → ⊥) → accepted (stations l) (Step j bit) ≡ true
          → Clear n b (after l (Step j bit)) × Q l (Step j bit)
      clear_other l j bit (g, s, o) ne acc = go (step_accepted (stations l) j bit acc) ((k.moved n l (Step j bit) g).1 acc)
        where
          go : (1 ≤ j) × (j ≤ length (stations l)) → Moves (stations l) (Step j bit) (stations (after l (Step j bit))) → Clear n b (after l (Step j bit)) × Q l (Step j bit)
          go (p, q) (t, e, ways) =
              let out = o j ne p q in
              let stays : t ≡ Out = elim ways [
                | inl same ↦ same ∙ out
                | inr (inl w) ↦ absurd (out≢trying (sym out ∙ w.0))
                | inr (inr w) ↦ absurd (out≢leaving (sym out ∙ w.0))
              ] in
              let len = length-set (stations l) (j - 1) t in
              let others : OthersOut (with (stations l) j t) b = λ i ne' p' q'.
              elim (cases_eq i j) [
                | inl same ↦ subst (λ x. at (with (stations l) j t) x ≡ Out) (sym same) ((stands_with (stations l) j t p q).2 ∙ stays)
                | inr other ↦ other_with (stations l) j i t p p' other ∙ o i ne' p' (omega arith)
              ] in (
                (good_after n l (Step j bit) g, kept n l b (Step j bit) Trying g acc ne s, subst (λ us. OthersOut us b) (sym e) others),
                by_other l j bit (g, s, o) ne (p, q, out),
              )

      clear_on : (l : L) (c : Call) → Clear n b l → (accepted (stations l) c ≡ true → Spares b c) → accepted (stations l) c ≡ true
          → Stands (stations (after l c)) b Inside ⊎ (Clear n b (after l c) × Q l c)
      clear_on l (Start j) (g, s, o) ok acc = absurd (out≢trying (sym (start_accepted (stations l) j acc).2 ∙ ap (at (stations l)) (ok acc) ∙ s.2))
      clear_on l (Step j bit) (g, s, o) ok acc =
          elim (cases_eq j b) [
            | inl same ↦ subst
                (λ i. Stands (stations (after l (Step i bit))) b Inside ⊎ (Clear n b (after l (Step i bit)) × Q l (Step i bit)))
                (sym same) (clear_own l bit (g, s, o))
            | inr ne ↦ inr (clear_other l j bit (g, s, o) ne acc)
          ]
      clear_on l (Leave j) (g, s, o) ok acc =
          let h = leave_accepted (stations l) j acc in
          elim (cases_eq j b) [
            | inl same ↦ absurd (trying≢inside (sym s.2 ∙ ap (at (stations l)) (sym same) ∙ h.2))
            | inr ne ↦ absurd (out≢inside (sym (o j ne h.0 h.1) ∙ h.2))
          ]
      clear_on l (Pull j) (g, s, o) ok acc =
          elim (pull_accepted (stations l) j acc) [
            | inl h ↦ absurd (out≢trying (sym (o j (ok acc) h.0 h.1) ∙ h.2))
            | inr h ↦ absurd (out≢inside (sym (o j (ok acc) h.0 h.1) ∙ h.2))
          ]

      pub clear_falls : (l : L) (c : Call) → Clear n b l → (accepted (stations l) c ≡ true → Spares b c)
          → Stands (stations (after l c)) b Inside ⊎ (Clear n b (after l c) × Q l c)
      clear_falls l c (g, s, o) ok =
          elim (cases_Bool (accepted (stations l) c)) [
            | inl t ↦ clear_on l c (g, s, o) ok t
            | inr f ↦
                let same = (k.moved n l c g).0 f in
                inr (subst (Clear n b) (sym same) (g, s, o), by_none l c (g, s, o) same (no_own (stations l) b c s.0 s.1 f))
          ]

    -- While b is leaving, only its own step changes that.
    module _ (n : Boards) (b : ℕ) (Q : L → Call → Type 0)
        (by_own : (l : L) (bit : Bool) → Going n b l → Stands (stations (after l (Step b bit))) b Out ⊎ Q l (Step b bit))
        (by_other : (l : L) (c : Call) → Going n b l → own b c ≡ 0 → (board c ≡ b → ⊥) → accepted (stations l) c ≡ true → Q l c)
        (by_none : (l : L) (c : Call) → Going n b l → after l c ≡ l → own b c ≡ 0 → Q l c) where
      going_own : (l : L) (bit : Bool) → Going n b l → Stands (stations (after l (Step b bit))) b Out ⊎ (Going n b (after l (Step b bit)) × Q l (Step b bit))
      going_own l bit (g, s) = elim (by_own l bit (g, s)) [ inl h ↦ inl h | inr q ↦ go q ((k.moved n l (Step b bit) g).1 (accepted_step (stations l) b bit s.0 s.1)) ]
        where
          go : Q l (Step b bit) → Moves (stations l) (Step b bit) (stations (after l (Step b bit)))
              → Stands (stations (after l (Step b bit))) b Out ⊎ (Going n b (after l (Step b bit)) × Q l (Step b bit))
          go q (t, e, ways) =
              let there = subst (λ us. Stands us b t) (sym e) (stands_with (stations l) b t s.0 s.1) in
              elim ways [
                | inl same ↦ inr ((good_after n l (Step b bit) g, subst (Stands (stations (after l (Step b bit))) b) (same ∙ s.2) there), q)
                | inr (inl w) ↦ absurd (trying≢leaving (sym w.0 ∙ s.2))
                | inr (inr w) ↦ inl (subst (Stands (stations (after l (Step b bit))) b) w.1 there)
              ]

      -- a start, leave or pull is accepted of no leaving board
      going_other : (l : L) (c : Call) → Going n b l → own b c ≡ 0 → (board c ≡ b → ⊥) → accepted (stations l) c ≡ true
          → Stands (stations (after l c)) b Out ⊎ (Going n b (after l c) × Q l c)
      going_other l c (g, s) none ne acc = inr ((good_after n l c g, kept n l b c Leaving g acc ne s), by_other l c (g, s) none ne acc)

      apart : (l : L) (j : ℕ) (t : Station) → Going n b l → Stands (stations l) j t → (t ≡ Leaving → ⊥) → j ≡ b → ⊥
      apart l j t (g, s) h ne e = ne (sym h.2 ∙ ap (at (stations l)) e ∙ s.2)

      going_on : (l : L) (c : Call) → Going n b l → accepted (stations l) c ≡ true
          → Stands (stations (after l c)) b Out ⊎ (Going n b (after l c) × Q l c)
      going_on l (Start j) g acc = going_other l (Start j) g refl (apart l j Out g (start_accepted (stations l) j acc) out≢leaving) acc
      going_on l (Step j bit) g acc =
          elim (cases_eq j b) [
            | inl same ↦ subst
                (λ i. Stands (stations (after l (Step i bit))) b Out ⊎ (Going n b (after l (Step i bit)) × Q l (Step i bit)))
                (sym same) (going_own l bit g)
            | inr ne ↦ going_other l (Step j bit) g (own_other b j bit ne) ne acc
          ]
      going_on l (Leave j) g acc = going_other l (Leave j) g refl (apart l j Inside g (leave_accepted (stations l) j acc) inside≢leaving) acc
      going_on l (Pull j) g acc =
          going_other l (Pull j) g refl (elim (pull_accepted (stations l) j acc) [
            | inl h ↦ apart l j Trying g h trying≢leaving
            | inr h ↦ apart l j Inside g h inside≢leaving
          ]) acc

      pub going_falls : (l : L) (c : Call) → Going n b l → Stands (stations (after l c)) b Out ⊎ (Going n b (after l c) × Q l c)
      going_falls l c (g, s) =
          elim (cases_Bool (accepted (stations l) c)) [
            | inl t ↦ going_on l c (g, s) t
            | inr f ↦
                let same = (k.moved n l c g).0 f in
                inr (subst (Going n b) (sym same) (g, s), by_none l c (g, s) same (no_own (stations l) b c s.0 s.1 f))
          ]

module _ {L : Type 0} (fresh : Boards → L) (after : L → Call → L) (stations : L → List Station) (alone settle : ℕ → ℕ)
    (Good : Boards → L → Type 0) (to_enter to_settle : L → ℕ → ℕ) where
  -- to_enter and to_settle bound the own steps that a board still needs
  pub record Local : Type 0 where
    pub calls : Calls fresh after stations Good
    -- once b is started while all others are out
    pub enter_most : (n : Boards) (l : L) (b : ℕ) → Good n l → Stands (stations l) b Out → OthersOut (stations l) b
        → to_enter (after l (Start b)) b ≤ alone n.count
    pub enter_left : (n : Boards) (l : L) (b : ℕ) → Good n l → Stands (stations l) b Trying → OthersOut (stations l) b → 1 ≤ to_enter l b
    pub enter_own : (n : Boards) (l : L) (b : ℕ) (bit : Bool) → Good n l → Stands (stations l) b Trying → OthersOut (stations l) b
        → Stands (stations (after l (Step b bit))) b Inside ⊎ (1 + to_enter (after l (Step b bit)) b ≤ to_enter l b)
    pub enter_other : (n : Boards) (l : L) (b j : ℕ) (bit : Bool) → Good n l → Stands (stations l) b Trying → OthersOut (stations l) b
        → (j ≡ b → ⊥) → Stands (stations l) j Out → to_enter (after l (Step j bit)) b ≤ to_enter l b
    -- while b is leaving
    pub settle_most : (n : Boards) (l : L) (b : ℕ) → Good n l → Stands (stations l) b Leaving → to_settle l b ≤ settle n.count
    pub settle_left : (n : Boards) (l : L) (b : ℕ) → Good n l → Stands (stations l) b Leaving → 1 ≤ to_settle l b
    pub settle_own : (n : Boards) (l : L) (b : ℕ) (bit : Bool) → Good n l → Stands (stations l) b Leaving
        → Stands (stations (after l (Step b bit))) b Out ⊎ (1 + to_settle (after l (Step b bit)) b ≤ to_settle l b)
    pub settle_other : (n : Boards) (l : L) (b : ℕ) (c : Call) → Good n l → Stands (stations l) b Leaving
        → (board c ≡ b → ⊥) → accepted (stations l) c ≡ true → to_settle (after l c) b ≤ to_settle l b

  module _ (k : Local) where
    pub enters_within : EntersWithin fresh after stations alone
    enters_within n cs ds b acc o e h =
        let l = run after (fresh n) cs in
        let g = reached fresh after stations Good k.calls n cs in
        let most = k.enter_most n l b g (start_accepted (stations l) b acc) o in
        arrives after b (λ m. to_enter m b) (Clear fresh after stations Good n b) (λ m. Stands (stations m) b Inside) (λ m c. accepted (stations m) c ≡ true → Spares b c)
        (λ m (g', s', o'). k.enter_left n m b g' s' o')
        (clear_falls fresh after stations Good k.calls n b (λ m c. own b c + to_enter (after m c) b ≤ to_enter m b)
        (λ m bit (g', s', o'). elim (k.enter_own n m b bit g' s' o') [ inl x ↦ inl x | inr x ↦ inr (let one = own_same b bit in rw one x) ])
        (λ m j bit (g', s', o') ne out. let x = k.enter_other n m b j bit g' s' o' ne out in let none = own_other b j bit ne in rw none (omega arith))
        (λ m c _ same none. let x : to_enter (after m c) b ≡ to_enter m b = ap (λ y. to_enter y b) same in omega arith))
        (after l (Start b)) ds (clear_start fresh after stations Good k.calls n l b g acc o) e (omega arith)

    pub out_within : OutWithin fresh after stations settle
    out_within n cs ds b s h =
        let l = run after (fresh n) cs in
        let g = reached fresh after stations Good k.calls n cs in
        let most = k.settle_most n l b g s in
        arrives after b (λ m. to_settle m b) (Going fresh after stations Good n b) (λ m. Stands (stations m) b Out) (λ m c. Unit {0})
        (λ m (g', s'). k.settle_left n m b g' s')
        (λ m c i _. going_falls fresh after stations Good k.calls n b (λ m' c'. own b c' + to_settle (after m' c') b ≤ to_settle m' b)
        (λ m' bit (g', s'). elim (k.settle_own n m' b bit g' s') [ inl x ↦ inl x | inr x ↦ inr (let one = own_same b bit in rw one x) ])
        (λ m' c' (g', s') none ne acc. let x = k.settle_other n m' b c' g' s' ne acc in omega arith)
        (λ m' c' _ same none. let x : to_settle (after m' c') b ≡ to_settle m' b = ap (λ y. to_settle y b) same in omega arith) m c i)
        l ds (g, s) (each_any after _ (λ _ _. tt) l ds) (omega arith)
