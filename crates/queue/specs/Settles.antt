-- A leaving board is out within two steps more than the lock below needs.
use Rattle.std.specs.Prelude.{◌≡◌, ℕ, ◌+◌, ◌≤◌, Bool, true, false, cond, ◌⊎◌, List, ◌++◌, Some, None, Option, ◌≢◌, refl}
use Rattle.std.proofs.Common.{sym, ap, subst, ◌∙◌, inl, inr, arith}
use Rattle.std.proofs.lemmas.Bool.{cases_eq, cases_Bool}
use Rattle.line.specs.Rule.{high}
use Rattle.line.specs.declared.Line.{Line}
use Rattle.line.specs.declared.Line.TheVariants.{Low, Rising, High, Falling}
use Rattle.lock.specs.declared.boards.Boards.{Boards}
use Rattle.lock.specs.declared.station.Call.{Call}
use Rattle.lock.specs.declared.station.Call.TheVariants.{Start, Step, Leave, Pull}
use Rattle.lock.specs.declared.station.Station.{Station}
use Rattle.lock.specs.declared.station.Station.TheVariants as at
use Rattle.lock.specs.Runs.{own, steps, run, Sometime, Each, AllOut, CallsMove, OutWithin}
use Rattle.lock.specs.Stations.{board, accepted, Stands}
use Rattle.lock.specs.Stations as stations
use Rattle.lock.proofs.Runs.{each_any, arrives, cut, sometime_then, Passes, descends_within}
use Rattle.lock.proofs.Stations.{out≢leaving, trying≢leaving, inside≢leaving, start_accepted, leave_accepted, pull_accepted, accepted_step, own_same, own_other, no_own}
use Rattle.lock.proofs.Local.{reached, good_after}
use Rattle.queue.specs.declared.state.Phase.{Phase}
use Rattle.queue.specs.declared.state.Phase.TheVariants.{Out, Pairing, Turning, Noting, Raising, Watching, Comparing, Below, Leaving}
use Rattle.queue.specs.declared.state.Queue.{Queue}
use Rattle.queue.specs.Rule.{door, lowered, station, sent_step, door_step, seen, shown, door_at, row_at, out_below, sent, passed_on, done, new_queue, queue_after}
use Rattle.queue.specs.Shown.{There, length_shown, at_shown}
use Rattle.queue.specs.Moves.{sent_board, others_below, there_done, door_done, door_other, call_there, took, stayed}
use Rattle.queue.specs.Fits.{never, engaged, going, fits_below, steps_below, can_start}
use Rattle.queue.specs.Keeps.{Good, moved_below, moved_real, known_below, row_other, calls}

-- a call of another board is no own step
pub own_not : (b : ℕ) (c : Call) → (board c ≢ b) → own b c ≡ 0
own_not b (Start j) ne = refl
own_not b (Step j bit) ne = own_other b j bit ne
own_not b (Leave j) ne = refl
own_not b (Pull j) ne = refl

leaving_phase : (s : Station) (p : Phase) → station s p ≡ at.Leaving → (p ≡ Leaving) ⊎ ((p ≡ Below) × (s ≡ at.Leaving))
leaving_phase s Out e = inl (cc)
leaving_phase s (Pairing j) e = inl (cc)
leaving_phase s (Turning j) e = inl (cc)
leaving_phase s (Noting j) e = inl (cc)
leaving_phase s Raising e = inl (cc)
leaving_phase s Watching e = inl (cc)
leaving_phase s Comparing e = inl (cc)
leaving_phase s Below e = inr (refl, e)
leaving_phase s Leaving e = inl refl

-- how many own steps a leaving board that is out below still needs
abbrev to_low : Line → ℕ
to_low y = cond (high y) 2 1

module _ {L : Type 0} (fresh : Boards → L) (after : L → Call → L) (below : L → List Station)
    (begins : AllOut fresh below) (moves : CallsMove fresh after below) where
  abbrev Ok : Boards → Queue L → Type 0
  Ok = Good fresh after below begins moves

  abbrev up : Queue L → Call → Queue L
  up = queue_after after below

  abbrev low_at : Queue L → ℕ → Station
  low_at q b = stations.at (below q.below) b

  -- a call of another board leaves b as it is, above and below
  pub record Left (q r : Queue L) (b : ℕ) : Type 0 where
    pub there : There below r b
    pub door_same : door_at r b ≡ door_at q b
    pub row_same : row_at r b ≡ row_at q b
    pub low_same : low_at r b ≡ low_at q b

  pub left_alone : (n : Boards) (q : Queue L) (c : Call) (b : ℕ) → Ok n q → There below q b → (board c ≢ b) → Left q (up q c) b
  left_alone n q c b g h ne =
      elim (cases_Bool (accepted (shown below q) c)) [
        | inl t ↦
            let w = call_there fresh after below q c t in
            let ne' : b ≡ board c → ⊥ = λ e. ne (sym e) in
            subst (λ r. Left q r b) (sym (took fresh after below q c t)) (record {
              there = there_done fresh after below q c w b h;
              door_same = door_other fresh after below q c w b h ne';
              row_same = row_other fresh after below begins moves n q g c w b ne';
              low_same = others_below fresh after below q.below (sent below q c) (board c) b (moved_below fresh after below begins moves n q (sent below q c) g) (sent_board fresh after below q c) h.0 ne';
            })
        | inr f ↦ subst (λ r. Left q r b) (sym (stayed fresh after below q c f)) (record { there = h; door_same = refl; row_same = refl; low_same = refl })
      ]

  -- what a call of another board passes on is no own step of b
  pub passes_other : (n : Boards) (q : Queue L) (c : Call) (b : ℕ) (OkLow : L → Call → Type 0) → (board c ≢ b)
      → ((d : Call) → accepted (shown below q) c ≡ true → sent below q c ≡ Some d → OkLow q.below d)
      → Passes up after (λ u. u.below) b OkLow q c
  passes_other n q c b OkLow ne ok =
      elim (cases_Bool (accepted (shown below q) c)) [
        | inl t ↦ go (sent below q c) refl t
        | inr f ↦ inl (own_not b c ne, ap (λ u. u.below) (stayed fresh after below q c f))
      ]
    where
      go : (o : Option Call) → sent below q c ≡ o → accepted (shown below q) c ≡ true → Passes up after (λ u. u.below) b OkLow q c
      go None e t = inl (own_not b c ne, ap (λ u. u.below) (took fresh after below q c t) ∙ ap (passed_on after below q.below) e)
      go (Some d) e t =
          inr (
            d,
            own_not b d (λ x. ne (sym (sent_board fresh after below q c d e) ∙ x)) ∙ sym (own_not b c ne),
            ok d t e,
            ap (λ u. u.below) (took fresh after below q c t) ∙ ap (passed_on after below q.below) e,
          )

  -- an own step, as the definition has it
  pub own_step : (q : Queue L) (b : ℕ) (bit : Bool) → There below q b → up q (Step b bit) ≡ done after below q (Step b bit)
  own_step q b bit h = let len = length_shown below q in let k = h.1 in took fresh after below q (Step b bit) (accepted_step (shown below q) b bit h.0 (omega arith))

  good_up : (n : Boards) (q : Queue L) (c : Call) → Ok n q → Ok n (up q c)
  good_up n q c g = good_after (new_queue fresh) up (shown below) Ok (calls fresh after below begins moves) n q c g

  pub shows_as : (q : Queue L) (b : ℕ) (s : Station) → There below q b → station (low_at q b) (door_at q b).phase ≡ s → Stands (shown below q) b s
  shows_as q b s h e = let len = length_shown below q in let k = h.1 in (h.0, omega arith, at_shown below q b h ∙ e)

  -- b is leaving, and is leaving below; b is leaving, and is out below
  abbrev First : Boards → ℕ → Queue L → Type 0
  First n b q = Ok n q × There below q b × ((door_at q b).phase ≡ Leaving) × (low_at q b ≡ at.Leaving)

  abbrev Second : Boards → ℕ → Queue L → Type 0
  Second n b q = Ok n q × There below q b × ((door_at q b).phase ≡ Leaving) × (low_at q b ≡ at.Out)

  -- a call of a leaving board that is accepted is a step
  is_step : (q : Queue L) (b : ℕ) (c : Call) → There below q b → (door_at q b).phase ≡ Leaving → board c ≡ b → accepted (shown below q) c ≡ true → (bit : Bool) × (c ≡ Step b bit)
  is_step q b c h p same = go c same
    where
      leaves_now : (j : ℕ) (s : Station) → j ≡ b → stations.at (shown below q) j ≡ s → s ≡ at.Leaving
      leaves_now j s e k = sym k ∙ ap (stations.at (shown below q)) e ∙ at_shown below q b h ∙ ap (station (low_at q b)) p

      go : (d : Call) → board d ≡ b → accepted (shown below q) d ≡ true → (bit : Bool) × (d ≡ Step b bit)
      go (Start j) e acc = absurd (out≢leaving (leaves_now j at.Out e (start_accepted (shown below q) j acc).2))
      go (Step j bit) e acc = (bit, ap (λ i. Step i bit) e)
      go (Leave j) e acc = absurd (inside≢leaving (leaves_now j at.Inside e (leave_accepted (shown below q) j acc).2))
      go (Pull j) e acc =
          elim (pull_accepted (shown below q) j acc) [
            | inl k ↦ absurd (trying≢leaving (leaves_now j at.Trying e k.2))
            | inr k ↦ absurd (inside≢leaving (leaves_now j at.Inside e k.2))
          ]

  -- an own step of a board that is leaving below goes below
  first_own : (n : Boards) (b : ℕ) (q : Queue L) (bit : Bool) → First n b q
      → Second n b (up q (Step b bit)) ⊎ (First n b (up q (Step b bit)) × Passes up after (λ u. u.below) b (λ _ _. Unit {0}) q (Step b bit))
  first_own n b q bit (g, h, p, s) =
      let not_out : out_below below q b ≡ false = refused (out_below below q b) refl in
      let goes : sent below q (Step b bit) ≡ Some (Step b bit) = ap (sent_step b bit (out_below below q b) (door_at q b).notes) p ∙ ap (λ t. cond t None (Some (Step b bit))) not_out in
      let e = own_step q b bit h in
      let lower : (up q (Step b bit)).below ≡ after q.below (Step b bit) = ap (λ u. u.below) e ∙ ap (passed_on after below q.below) goes in
      let there : There below (up q (Step b bit)) b = subst (λ u. There below u b) (sym e) (there_done fresh after below q (Step b bit) h b h) in
      let phase : (door_at (up q (Step b bit)) b).phase ≡ Leaving =
      ap (λ u. (door_at u b).phase) e ∙ ap (λ d. d.phase) (door_done fresh after below q (Step b bit) h)
      ∙ ap (λ x. (door_step q.doors.boards.count b (row_at q b) (seen q b bit (door_at q b).notes x) (out_below below q b) (door_at q b).y (door_at q b).notes x).phase) p
      ∙ ap (λ t. (cond t (lowered (door_at q b).y (door_at q b).notes) (door (door_at q b).y Leaving (door_at q b).notes)).phase) not_out in
      let at_low : low_at (up q (Step b bit)) b ≡ stations.at (below (after q.below (Step b bit))) b = ap (λ l. stations.at (below l) b) lower in
      elim (steps_below fresh after below q.below b bit (moved_real fresh after below begins moves n q.below (Step b bit) g.real)) [
        | inl same ↦ inr ((good_up n q (Step b bit) g, there, phase, at_low ∙ same ∙ s), inr (Step b bit, refl, tt, lower))
        | inr (inl w) ↦ absurd (trying≢leaving (sym w.0 ∙ s))
        | inr (inr w) ↦ inl (good_up n q (Step b bit) g, there, phase, at_low ∙ w.1)
      ]
    where
      refused : (t : Bool) → out_below below q b ≡ t → t ≡ false
      refused true e = absurd (out≢leaving (sym (start_accepted (below q.below) b e).2 ∙ s))
      refused false e = refl

  -- a refused call of b leaves all as it is
  first_goes : (n : Boards) (b : ℕ) (q : Queue L) (c : Call) → First n b q
      → Second n b (up q c) ⊎ (First n b (up q c) × Passes up after (λ u. u.below) b (λ _ _. Unit {0}) q c)
  first_goes n b q c (g, h, p, s) =
      elim (cases_eq (board c) b) [
        | inr ne ↦
            let l = left_alone n q c b g h ne in
            inr ((good_up n q c g, l.there, ap (λ d. d.phase) l.door_same ∙ p, l.low_same ∙ s), passes_other n q c b (λ _ _. Unit {0}) ne (λ d _ _. tt))
        | inl same ↦ elim (cases_Bool (accepted (shown below q) c)) [
          | inl t ↦
              let w = is_step q b c h p same t in
              subst (λ d. Second n b (up q d) ⊎ (First n b (up q d) × Passes up after (λ u. u.below) b (λ _ _. Unit {0}) q d)) (sym w.1) (first_own n b q w.0 (g, h, p, s))
          | inr f ↦
              let e = stayed fresh after below q c f in
              let len = length_shown below q in let k = h.1 in
              inr (subst (First n b) (sym e) (g, h, p, s), inl (no_own (shown below q) b c h.0 (omega arith) f, ap (λ u. u.below) e))
        ]
      ]

  -- an own step of a board that is out below lowers y
  second_own : (n : Boards) (b : ℕ) (q : Queue L) (bit : Bool) → Second n b q
      → Stands (shown below (up q (Step b bit))) b at.Out ⊎ (Second n b (up q (Step b bit)) × (1 + to_low (door_at (up q (Step b bit)) b).y ≤ to_low (door_at q b).y))
  second_own n b q bit (g, h, p, s) =
      let known = known_below fresh after below begins moves n q b g h in
      let is_free : out_below below q b ≡ true = can_start fresh after below q.below b h.0 known s in
      let stays : sent below q (Step b bit) ≡ None = ap (sent_step b bit (out_below below q b) (door_at q b).notes) p ∙ ap (λ t. cond t None (Some (Step b bit))) is_free in
      let e = own_step q b bit h in
      let lower : (up q (Step b bit)).below ≡ q.below = ap (λ u. u.below) e ∙ ap (passed_on after below q.below) stays in
      let there : There below (up q (Step b bit)) b = subst (λ u. There below u b) (sym e) (there_done fresh after below q (Step b bit) h b h) in
      let next : door_at (up q (Step b bit)) b ≡ lowered (door_at q b).y (door_at q b).notes =
      ap (λ u. door_at u b) e ∙ door_done fresh after below q (Step b bit) h
      ∙ ap (λ x. door_step q.doors.boards.count b (row_at q b) (seen q b bit (door_at q b).notes x) (out_below below q b) (door_at q b).y (door_at q b).notes x) p
      ∙ ap (λ t. cond t (lowered (door_at q b).y (door_at q b).notes) (door (door_at q b).y Leaving (door_at q b).notes)) is_free in
      let at_low : low_at (up q (Step b bit)) b ≡ at.Out = ap (λ l. stations.at (below l) b) lower ∙ s in
      elim (lower_y (door_at q b).y (door_at q b).notes) [
        | inl out ↦ inl (shows_as (up q (Step b bit)) b at.Out there (ap (λ d. station (low_at (up q (Step b bit)) b) d.phase) next ∙ ap (station (low_at (up q (Step b bit)) b)) out))
        | inr w ↦ inr ((good_up n q (Step b bit) g, there, ap (λ d. d.phase) next ∙ w.0, at_low), subst (λ d. 1 + to_low d.y ≤ to_low (door_at q b).y) (sym next) w.1)
      ]
    where
      lower_y : (y : Line) (notes : List Bool) → ((lowered y notes).phase ≡ Out) ⊎ (((lowered y notes).phase ≡ Leaving) × (1 + to_low (lowered y notes).y ≤ to_low y))
      lower_y Low notes = inl refl
      lower_y Rising notes = inl refl
      lower_y High notes = inr (refl, omega arith)
      lower_y Falling notes = inl refl

  second_falls : (n : Boards) (b : ℕ) (q : Queue L) (c : Call) → Second n b q
      → Stands (shown below (up q c)) b at.Out ⊎ (Second n b (up q c) × (own b c + to_low (door_at (up q c) b).y ≤ to_low (door_at q b).y))
  second_falls n b q c (g, h, p, s) =
      elim (cases_eq (board c) b) [
        | inr ne ↦
            let l = left_alone n q c b g h ne in
            let none = own_not b c ne in
            let same_y = ap (λ d. to_low d.y) l.door_same in
            inr ((good_up n q c g, l.there, ap (λ d. d.phase) l.door_same ∙ p, l.low_same ∙ s), omega arith)
        | inl same ↦ elim (cases_Bool (accepted (shown below q) c)) [
          | inl t ↦
              let w = is_step q b c h p same t in
              subst (λ d. Stands (shown below (up q d)) b at.Out ⊎ (Second n b (up q d) × (own b d + to_low (door_at (up q d) b).y ≤ to_low (door_at q b).y))) (sym w.1)
              (elim (second_own n b q w.0 (g, h, p, s)) [ inl out ↦ inl out | inr x ↦ inr (x.0, (let one = own_same b w.0 in rw one x.1)) ])
          | inr f ↦
              let e = stayed fresh after below q c f in
              let len = length_shown below q in let k = h.1 in
              let none = no_own (shown below q) b c h.0 (omega arith) f in
              let same_y = ap (λ u. to_low (door_at u b).y) e in
              inr (subst (Second n b) (sym e) (g, h, p, s), omega arith)
        ]
      ]

  low_some : (y : Line) → (1 ≤ to_low y) × (to_low y ≤ 2)
  low_some Low = (omega arith, omega arith)
  low_some Rising = (omega arith, omega arith)
  low_some High = (omega arith, omega arith)
  low_some Falling = (omega arith, omega arith)

  -- from the moment at which b is out below, two own steps suffice
  second_out : (n : Boards) (b : ℕ) (q : Queue L) (cs : List Call) → Second n b q → Each up (λ _ _. Unit {0}) q cs → 2 ≤ steps b cs → Sometime up (λ u. Stands (shown below u) b at.Out) q cs
  second_out n b q cs i e h =
      let most = (low_some (door_at q b).y).1 in
      arrives up b (λ u. to_low (door_at u b).y) (Second n b) (λ u. Stands (shown below u) b at.Out) (λ _ _. Unit {0})
      (λ u _. (low_some (door_at u b).y).0) (λ u c k _. second_falls n b u c k) q cs i e (omega arith)

  module _ (settle : ℕ → ℕ) (settles : OutWithin fresh after below settle) where
    first_out : (n : Boards) (b : ℕ) (q : Queue L) (ds : List Call) → First n b q → settle n.count ≤ steps b ds → Sometime up (Second n b) q ds
    first_out n b q ds i enough =
        descends_within up after (λ u. u.below) b (First n b) (Second n b) (λ _ _. Unit {0}) (λ l. Stands (below l) b at.Out) (λ _ _. Unit {0})
        (λ u (g, h, p, s) low. (g, h, p, low.2)) (λ u c k _. first_goes n b u c k)
        (settle n.count) q ds i (each_any up (λ _ _. Unit {0}) (λ _ _. tt) q ds) enough (lower i)
      where
        lower : First n b q → (es : List Call) → Each after (λ _ _. Unit {0}) q.below es → settle n.count ≤ steps b es → Sometime after (λ l. Stands (below l) b at.Out) q.below es
        lower (g, h, p, s) es _ k =
            subst (λ l. Stands (below l) b at.Leaving → Sometime after (λ x. Stands (below x) b at.Out) l es) (sym g.real.1) (λ st. settles n g.real.0 es b st k)
            (h.0, known_below fresh after below begins moves n q b g h, s)

    pub out_within : OutWithin (new_queue fresh) up (shown below) (λ n. 2 + settle n)
    out_within n cs ds b st h =
        let q = run up (new_queue fresh n) cs in
        let g = reached (new_queue fresh) up (shown below) Ok (calls fresh after below begins moves) n cs in
        let len = length_shown below q in let k = st.1 in
        let w : There below q b = (st.0, omega arith) in
        go q g w (leaving_phase (low_at q b) (door_at q b).phase (sym (at_shown below q b w) ∙ st.2)) (g.fit b w).below
      where
        from : (q : Queue L) → Ok n q → There below q b → (door_at q b).phase ≡ Leaving → going (low_at q b) ≡ true → Sometime up (λ u. Stands (shown below u) b at.Out) q ds
        from q g w p k = split (low_at q b) refl k
          where
            split : (s : Station) → low_at q b ≡ s → going s ≡ true → Sometime up (λ u. Stands (shown below u) b at.Out) q ds
            split at.Out e x = second_out n b q ds (g, w, p, e) (each_any up (λ _ _. Unit {0}) (λ _ _. tt) q ds) (omega arith)
            split at.Trying e x = never x
            split at.Inside e x = never x
            split at.Leaving e x =
                let r = cut up b (settle n.count) 2 ds (omega arith) in
                subst (λ xs. Sometime up (λ u. Stands (shown below u) b at.Out) q xs) (sym r.2)
                (sometime_then up b 2 (Second n b) (λ u. Stands (shown below u) b at.Out) (λ _ _. Unit {0}) (second_out n b) q r.0 r.1
                (each_any up (λ _ _. Unit {0}) (λ _ _. tt) q (r.0 ++ r.1)) r.4 (first_out n b q r.0 (g, w, p, e) r.3))

        go : (q : Queue L) → Ok n q → There below q b → ((door_at q b).phase ≡ Leaving) ⊎ (((door_at q b).phase ≡ Below) × (low_at q b ≡ at.Leaving)) → fits_below (door_at q b).phase (low_at q b) ≡ true
            → Sometime up (λ u. Stands (shown below u) b at.Out) q ds
        go q g w (inl p) f = from q g w p (sym (ap (λ x. fits_below x (low_at q b)) p) ∙ f)
        go q g w (inr x) f = never (sym (ap (λ y. fits_below y (low_at q b)) x.0 ∙ ap engaged x.1) ∙ f)
