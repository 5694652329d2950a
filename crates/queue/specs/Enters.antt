-- A board that is started while all others are out is inside within 4 N - 1 steps more than the lock below needs.
use Rattle.std.specs.Prelude.{◌≡◌, ℕ, ◌+◌, ◌-◌, ◌*◌, ◌≤◌, Bool, true, false, cond, not, ◌⊎◌, List, Some, None, Option, ◌==◌, ◌≢◌, refl}
use Rattle.std.proofs.Common.{sym, ap, subst, ◌∙◌, inl, inr, arith}
use Rattle.std.proofs.lemmas.Bool.{eq-eqb, and_parts}
use Rattle.line.specs.declared.Level.TheVariants as to
use Rattle.line.specs.declared.Line.{Line}
use Rattle.line.specs.declared.Line.TheVariants.{Low, Rising, High, Falling}
use Rattle.line.specs.Rule.{begun, ended, moving, reading, low}
use Rattle.lock.specs.declared.boards.Boards.{Boards}
use Rattle.lock.specs.declared.station.Call.{Call}
use Rattle.lock.specs.declared.station.Call.TheVariants.{Start, Step}
use Rattle.lock.specs.declared.station.Station.{Station}
use Rattle.lock.specs.declared.station.Station.TheVariants as at
use Rattle.lock.specs.Others.{other_after}
use Rattle.lock.specs.Runs.{own, steps, Spares, OthersOut, run, Sometime, Each, AllOut, CallsMove, EntersWithin}
use Rattle.lock.specs.Stations.{among, board, accepted, Stands}
use Rattle.lock.specs.Stations as stations
use Rattle.lock.proofs.Runs.{at_once, arrives_then, Passes, descends_within}
use Rattle.lock.proofs.Stations.{true≢false, start_accepted, from_among, own_same, own_other}
use Rattle.lock.proofs.Local.{Clear, reached, clear_start, clear_falls}
use Rattle.queue.specs.declared.state.Phase.{Phase}
use Rattle.queue.specs.declared.state.Phase.TheVariants.{Out, Pairing, Turning, Noting, Raising, Watching, Comparing, Below, Leaving}
use Rattle.queue.specs.declared.state.Queue.{Queue}
use Rattle.queue.specs.Rule.{door, watched, started, read_y, none, lowest, pairing, noted, station, sent_step, door_step, shown, door_at, row_at, seen, out_below, sent, next_door, next_row, passed_on, new_queue, queue_after}
use Rattle.queue.specs.Shown.{There, length_shown, at_shown}
use Rattle.queue.specs.Moves.{there_done, door_done, call_there, took}
use Rattle.queue.specs.Fits.{never, engaged, out_station, fits_below, fits_y, names, can_start}
use Rattle.queue.specs.Keeps.{Real, Good, count_doors, known_below, length_real, row_done, calls, out_phase}
use Rattle.queue.specs.Settles.{Left, left_alone, passes_other, own_step}
use Rattle.queue.specs.Doorway.{left_first, to_go, pairing_go, doorway, on_way, pairing_way, some_left, nearer}

low_is : (y : Line) → low y ≡ true → y ≡ Low
low_is Low e = refl
low_is Rising e = never e
low_is High e = never e
low_is Falling e = never e

-- a board on its way is in its doorway, or has passed it
pub way_cases : (p : Phase) → on_way p ≡ true → (doorway p ≡ true) ⊎ (p ≡ Watching)
way_cases Out e = never e
way_cases (Pairing j) e = inl refl
way_cases (Turning j) e = inl refl
way_cases (Noting j) e = inl refl
way_cases Raising e = inl refl
way_cases Watching e = inr refl
way_cases Comparing e = never e
way_cases Below e = never e
way_cases Leaving e = never e

module _ {L : Type 0} (fresh : Boards → L) (after : L → Call → L) (below : L → List Station)
    (begins : AllOut fresh below) (moves : CallsMove fresh after below) where
  abbrev Ok : Boards → Queue L → Type 0
  Ok = Good fresh after below begins moves

  abbrev up : Queue L → Call → Queue L
  up = queue_after after below

  abbrev low_at : Queue L → ℕ → Station
  low_at q b = stations.at (below q.below) b

  abbrev ClearUp : Boards → ℕ → Queue L → Type 0
  ClearUp = Clear (new_queue fresh) up (shown below) Ok

  stands_there : (q : Queue L) (b : ℕ) (s : Station) → Stands (shown below q) b s → There below q b
  stands_there q b s h = let len = length_shown below q in let k = h.1 in (h.0, omega arith)

  -- a board that is shown out is out, and its y is low
  pub out_there : (n : Boards) (q : Queue L) (j : ℕ) → Ok n q → There below q j → stations.at (shown below q) j ≡ at.Out → ((door_at q j).phase ≡ Out) × ((door_at q j).y ≡ Low) × (low_at q j ≡ at.Out)
  out_there n q j g h e =
      let f = g.fit j h in
      let p = is_it (out_phase (low_at q j) (door_at q j).phase (sym (at_shown below q j h) ∙ e)) f.below in
      (p, low_is (door_at q j).y (sym (ap (λ x. fits_y x (door_at q j).y) p) ∙ f.line), out_station (low_at q j) (sym (ap (λ x. fits_below x (low_at q j)) p) ∙ f.below))
    where
      is_it : ((door_at q j).phase ≡ Out) ⊎ (((door_at q j).phase ≡ Below) × (low_at q j ≡ at.Out)) → fits_below (door_at q j).phase (low_at q j) ≡ true → (door_at q j).phase ≡ Out
      is_it (inl p) k = p
      is_it (inr w) k = never (sym (ap (λ x. fits_below x (low_at q j)) w.0 ∙ ap engaged w.1) ∙ k)

  others_low : (n : Boards) (q : Queue L) (b : ℕ) → Ok n q → OthersOut (shown below q) b → OthersOut (below q.below) b
  others_low n q b g o j ne p r =
      let a = count_doors fresh after below begins moves n q g in
      let c = length_real fresh after below begins moves n q.below g.real in
      let len = length_shown below q in
      let h : There below q j = (p, omega arith) in
      (out_there n q j g h (o j ne p (omega arith))).2

  -- b is on its way below, and has noted nobody
  abbrev Extra : ℕ → Queue L → Type 0
  Extra b q = There below q b × (on_way (door_at q b).phase ≡ true) × ((door_at q b).notes ≡ none)

  -- b has just been started below, with all others out there
  abbrev Started : Boards → ℕ → Queue L → Type 0
  Started n b q = (l : L) × Real fresh after below begins moves n l × (accepted (below l) (Start b) ≡ true) × OthersOut (below l) b × (q.below ≡ after l (Start b)) × ((door_at q b).phase ≡ Below)

  abbrev μ : Boards → ℕ → Queue L → ℕ
  μ n b q = to_go n.count b (door_at q b).y (row_at q b) (door_at q b).phase

  -- with all others out, whoever is read has a low y
  reads_low : (n : Boards) (q : Queue L) (b : ℕ) (bit : Bool) (notes : List Bool) (p : Phase) → Ok n q → OthersOut (shown below q) b → doorway p ≡ true → names n.count b p ≡ true
      → (y : Line) → notes ≡ none → (door_step n.count b (row_at q b) (seen q b bit notes p) (out_below below q b) y notes p).notes ≡ none
  reads_low n q b bit notes Out g o d m y e = never d
  reads_low n q b bit notes (Pairing j) g o d m y e = e
  reads_low n q b bit notes (Turning j) g o d m y e = e
  reads_low n q b bit notes (Noting j) g o d m y e =
      let parts = and_parts (among n.count j) (not (j == b)) m in
      let r = from_among n.count j parts.0 in
      let a = count_doors fresh after below begins moves n q g in
      let len = length_shown below q in let high_j = r.1 in
      let h : There below q j = (r.0, omega arith) in
      let ne : j ≡ b → ⊥ = λ x. true≢false (not (j == b)) parts.1 (ap not (eq-eqb j b x)) in
      let quiet = (out_there n q j g h (o j ne r.0 (omega arith))).1 in
      ap (λ z. noted notes j (reading z bit)) quiet ∙ e
  reads_low n q b bit notes Raising g o d m y e = go (moving y)
    where
      go : (t : Bool) → (cond t (door (ended y) Watching notes) (door (begun y to.High) Raising notes)).notes ≡ none
      go true = e
      go false = e
  reads_low n q b bit notes Watching g o d m y e = never d
  reads_low n q b bit notes Comparing g o d m y e = never d
  reads_low n q b bit notes Below g o d m y e = never d
  reads_low n q b bit notes Leaving g o d m y e = never d

  -- an own step on the way
  way_own : (n : Boards) (b : ℕ) (q : Queue L) (bit : Bool) → ClearUp n b q → Extra b q
      → Started n b (up q (Step b bit)) ⊎ (Extra b (up q (Step b bit)) × (1 + μ n b (up q (Step b bit)) ≤ μ n b q))
  way_own n b q bit (g, s, o) (h, w, none_noted) =
      let e = own_step fresh after below begins moves q b bit h in
      let f = g.fit b h in
      let there : There below (up q (Step b bit)) b = subst (λ u. There below u b) (sym e) (there_done fresh after below q (Step b bit) h b h) in
      let doors : door_at (up q (Step b bit)) b ≡ next_door below q (Step b bit) = ap (λ u. door_at u b) e ∙ door_done fresh after below q (Step b bit) h in
      let rows : row_at (up q (Step b bit)) b ≡ next_row below q (Step b bit) = ap (λ u. row_at u b) e ∙ row_done fresh after below begins moves n q g (Step b bit) h in
      let a = count_doors fresh after below begins moves n q g in let k = h.1 in
      elim (way_cases (door_at q b).phase w) [
        | inl d ↦
            let counted : next_door below q (Step b bit) ≡ door_step n.count b (row_at q b) (seen q b bit (door_at q b).notes (door_at q b).phase) (out_below below q b) (door_at q b).y (door_at q b).notes (door_at q b).phase =
            ap (λ m. door_step m.count b (row_at q b) (seen q b bit (door_at q b).notes (door_at q b).phase) (out_below below q b) (door_at q b).y (door_at q b).notes (door_at q b).phase) g.doors_of in
            let near = nearer n.count b (low_at q b) (row_at q b) (seen q b bit (door_at q b).notes (door_at q b).phase) (out_below below q b) (door_at q b).y (door_at q b).notes (door_at q b).phase n.few h.0 (omega arith) f d in
            inr (
              (
                there,
                ap (λ x. on_way x.phase) (doors ∙ counted) ∙ near.0,
                ap (λ x. x.notes) (doors ∙ counted) ∙ reads_low n q b bit (door_at q b).notes (door_at q b).phase g o d f.named (door_at q b).y none_noted,
              ),
              subst (λ x. 1 + to_go n.count b x.y (row_at (up q (Step b bit)) b) x.phase ≤ μ n b q) (sym (doors ∙ counted))
                  (subst (λ r. 1 + to_go n.count b (door_step n.count b (row_at q b) (seen q b bit (door_at q b).notes (door_at q b).phase) (out_below below q b) (door_at q b).y (door_at q b).notes (door_at q b).phase).y r
                  (door_step n.count b (row_at q b) (seen q b bit (door_at q b).notes (door_at q b).phase) (out_below below q b) (door_at q b).y (door_at q b).notes (door_at q b).phase).phase ≤ μ n b q) (sym rows) near.1),
            )
        | inr p ↦
            let known = known_below fresh after below begins moves n q b g h in
            let f' = subst (λ x. fits_below x (low_at q b) ≡ true) p f.below in
            let free : out_below below q b ≡ true = can_start fresh after below q.below b h.0 known (out_station (low_at q b) f') in
            let nobody : lowest (door_at q b).notes ≡ None = ap lowest none_noted in
            let starts : sent below q (Step b bit) ≡ Some (Start b) = ap (sent_step b bit (out_below below q b) (door_at q b).notes) p ∙ ap (started b) nobody in
            inl (
              q.below,
              g.real,
              free,
              others_low n q b g o,
              ap (λ u. u.below) e ∙ ap (passed_on after below q.below) starts,
              ap (λ x. x.phase) doors
                  ∙ ap (λ x. (door_step q.doors.boards.count b (row_at q b) (seen q b bit (door_at q b).notes x) (out_below below q b) (door_at q b).y (door_at q b).notes x).phase) p
                  ∙ ap (λ x. (watched (door_at q b).y (door_at q b).notes (out_below below q b) (read_y q bit x) x).phase) nobody
                  ∙ ap (λ t. cond t Below Watching) free,
            )
      ]

  -- what b is told while it is clear for it, over a call of another board or a refused one
  extra_left : (n : Boards) (b : ℕ) (q r : Queue L) → Left fresh after below begins moves q r b → Extra b q → Extra b r × (μ n b r ≡ μ n b q)
  extra_left n b q r l (h, w, m) = (
    (l.there, ap (λ d. on_way d.phase) l.door_same ∙ w, ap (λ d. d.notes) l.door_same ∙ m),
    ap (λ d. to_go n.count b d.y (row_at r b) d.phase) l.door_same ∙ ap (λ x. to_go n.count b (door_at q b).y x (door_at q b).phase) l.row_same,
  )

  abbrev OkUp : ℕ → Queue L → Call → Type 0
  OkUp b q c = accepted (shown below q) c ≡ true → Spares b c

  abbrev OkLow : ℕ → L → Call → Type 0
  OkLow b l c = accepted (below l) c ≡ true → Spares b c

  -- b is clear and on its way; b is clear and has started below, or is inside
  abbrev Way : Boards → ℕ → Queue L → Type 0
  Way n b q = ClearUp n b q × Extra b q

  abbrev Mid : Boards → ℕ → Queue L → Type 0
  Mid n b q = (ClearUp n b q × Started n b q) ⊎ Stands (shown below q) b at.Inside

  -- what a call does to a board on its way
  abbrev OnWay : Boards → ℕ → Queue L → Call → Type 0
  OnWay n b u d = Extra b u → Started n b (up u d) ⊎ (Extra b (up u d) × (own b d + μ n b (up u d) ≤ μ n b u))

  way_falls : (n : Boards) (b : ℕ) (q : Queue L) (c : Call) → Way n b q → OkUp b q c → Mid n b (up q c) ⊎ (Way n b (up q c) × (own b c + μ n b (up q c) ≤ μ n b q))
  way_falls n b q c (k, x) ok =
      elim (clear_falls (new_queue fresh) up (shown below) Ok (calls fresh after below begins moves) n b (OnWay n b) by_own by_other by_none q c k ok) [
        | inl inside ↦ inl (inr inside)
        | inr (k', y) ↦ elim (y x) [ inl m ↦ inl (inl (k', m)) | inr w ↦ inr ((k', w.0), w.1) ]
      ]
    where
      by_own : (u : Queue L) (bit : Bool) → ClearUp n b u → Stands (shown below (up u (Step b bit))) b at.Inside ⊎ OnWay n b u (Step b bit)
      by_own u bit cl = inr (λ y. elim (way_own n b u bit cl y) [ inl m ↦ inl m | inr w ↦ inr (w.0, (let one = own_same b bit in rw one w.1)) ])

      by_other : (u : Queue L) (j : ℕ) (bit : Bool) → ClearUp n b u → (j ≢ b) → Stands (shown below u) j at.Out → OnWay n b u (Step j bit)
      by_other u j bit cl ne out y =
          let r = extra_left n b u (up u (Step j bit)) (left_alone fresh after below begins moves n u (Step j bit) b cl.0 y.0 ne) y in
          let zero_own = own_other b j bit ne in let same = r.1 in
          inr (r.0, omega arith)

      by_none : (u : Queue L) (d : Call) → ClearUp n b u → up u d ≡ u → own b d ≡ 0 → OnWay n b u d
      by_none u d cl e zero_own y = let same = ap (μ n b) e in inr (subst (Extra b) (sym e) y, omega arith)

  -- b is clear, and its steps go below
  abbrev Under : Boards → ℕ → Queue L → Type 0
  Under n b q = ClearUp n b q × There below q b × ((door_at q b).phase ≡ Below)

  -- what a call does to a board whose steps go below
  abbrev OnDown : ℕ → Queue L → Call → Type 0
  OnDown b u d = There below u b → (door_at u b).phase ≡ Below → There below (up u d) b × ((door_at (up u d) b).phase ≡ Below) × Passes up after (λ v. v.below) b (OkLow b) u d

  under_goes : (n : Boards) (b : ℕ) (q : Queue L) (c : Call) → Under n b q → OkUp b q c
      → Stands (shown below (up q c)) b at.Inside ⊎ (Under n b (up q c) × Passes up after (λ u. u.below) b (OkLow b) q c)
  under_goes n b q c (k, h, p) ok =
      elim (clear_falls (new_queue fresh) up (shown below) Ok (calls fresh after below begins moves) n b (OnDown b) by_own by_other by_none q c k ok) [
        | inl inside ↦ inl inside
        | inr (k', y) ↦ (let w = y h p in inr ((k', w.0, w.1), w.2))
      ]
    where
      by_own : (u : Queue L) (bit : Bool) → ClearUp n b u → Stands (shown below (up u (Step b bit))) b at.Inside ⊎ OnDown b u (Step b bit)
      by_own u bit cl = inr (λ w x.
          let e = own_step fresh after below begins moves u b bit w in (
            subst (λ v. There below v b) (sym e) (there_done fresh after below u (Step b bit) w b w),
            ap (λ v. (door_at v b).phase) e ∙ ap (λ d. d.phase) (door_done fresh after below u (Step b bit) w)
                ∙ ap (λ y. (door_step u.doors.boards.count b (row_at u b) (seen u b bit (door_at u b).notes y) (out_below below u b) (door_at u b).y (door_at u b).notes y).phase) x,
            inr (Step b bit, refl, λ _. tt, ap (λ v. v.below) e ∙ ap (passed_on after below u.below) (ap (sent_step b bit (out_below below u b) (door_at u b).notes) x)),
          ))

      by_other : (u : Queue L) (j : ℕ) (bit : Bool) → ClearUp n b u → (j ≢ b) → Stands (shown below u) j at.Out → OnDown b u (Step j bit)
      by_other u j bit cl ne out w x =
          let l = left_alone fresh after below begins moves n u (Step j bit) b cl.0 w ne in
          let q_out = (out_there n u j cl.0 (stands_there u j at.Out out) out.2).0 in (
            l.there,
            ap (λ d. d.phase) l.door_same ∙ x,
            passes_other fresh after below begins moves n u (Step j bit) b (OkLow b) ne (λ d _ e. absurd (nothing d (sym (ap (sent_step j bit (out_below below u j) (door_at u j).notes) q_out) ∙ e))),
          )
        where
          nothing : (d : Call) → ◌≡◌ {A = Option Call} None (Some d) → ⊥
          nothing d z = let o : ◌≡◌ {A = ℕ} 0 1 = cc in omega arith

      by_none : (u : Queue L) (d : Call) → ClearUp n b u → up u d ≡ u → own b d ≡ 0 → OnDown b u d
      by_none u d cl e zero_own w x = (subst (λ v. There below v b) (sym e) w, ap (λ v. (door_at v b).phase) e ∙ x, inl (zero_own, ap (λ v. v.below) e))

  module _ (alone : ℕ → ℕ) (enters : EntersWithin fresh after below alone) where
    -- once b has started below, the lock below brings it inside
    below_in : (n : Boards) (b : ℕ) (q : Queue L) (cs : List Call) → Mid n b q → Each up (OkUp b) q cs → alone n.count ≤ steps b cs → Sometime up (λ u. Stands (shown below u) b at.Inside) q cs
    below_in n b q cs (inr inside) e h = at_once up (λ u. Stands (shown below u) b at.Inside) q cs inside
    below_in n b q cs (inl (k, (l, real, acc, others, lower, p))) e h =
        descends_within up after (λ u. u.below) b (Under n b) (λ u. Stands (shown below u) b at.Inside) (OkUp b) (λ x. Stands (below x) b at.Inside) (OkLow b)
        (λ u (cl, w, x) inside. let len = length_shown below u in let m = w.1 in (w.0, omega arith, at_shown below u b w ∙ ap (station (low_at u b)) x ∙ inside.2))
        (under_goes n b) (alone n.count) q cs (k, stands_there q b at.Trying k.1, p) e h
        (λ ds each enough.
        subst (λ x. Each after (OkLow b) x ds → Sometime after (λ y. Stands (below y) b at.Inside) x ds) (sym lower)
        (subst (λ x. accepted (below x) (Start b) ≡ true → OthersOut (below x) b → Each after (OkLow b) (after x (Start b)) ds → Sometime after (λ y. Stands (below y) b at.Inside) (after x (Start b)) ds) (sym real.1)
        (λ a o w. enters n real.0 ds b a o w enough) acc others)
        each)

    pub enters_within : EntersWithin (new_queue fresh) up (shown below) (λ n. 4 * n - 1 + alone n)
    enters_within n cs ds b acc o e h =
        let q = run up (new_queue fresh n) cs in
        let g = reached (new_queue fresh) up (shown below) Ok (calls fresh after below begins moves) n cs in
        go q g acc o e
      where
        go : (q : Queue L) → Ok n q → accepted (shown below q) (Start b) ≡ true → OthersOut (shown below q) b → Each up (OkUp b) (up q (Start b)) ds
            → Sometime up (λ u. Stands (shown below u) b at.Inside) (up q (Start b)) ds
        go q g a others each =
            let cl = clear_start (new_queue fresh) up (shown below) Ok (calls fresh after below begins moves) n q b g a others in
            let w = call_there fresh after below q (Start b) a in
            let t = took fresh after below q (Start b) a in
            let was = out_there n q b g w (start_accepted (shown below q) b a).2 in
            let doors : door_at (up q (Start b)) b ≡ next_door below q (Start b) = ap (λ u. door_at u b) t ∙ door_done fresh after below q (Start b) w in
            let known = count_doors fresh after below begins moves n q g in let k = w.1 in
            let there : There below (up q (Start b)) b = subst (λ u. There below u b) (sym t) (there_done fresh after below q (Start b) w b w) in
            let first = left_first n.count b w.0 in
            let most_go = pairing_go n.count b 0 (row_at (up q (Start b)) b) w.0 (omega arith) in
            let counted : μ n b (up q (Start b)) ≡ to_go n.count b Low (row_at (up q (Start b)) b) (pairing n.count b (other_after n.count b 0)) =
            ap (λ d. to_go n.count b d.y (row_at (up q (Start b)) b) d.phase) doors
            ∙ ap (λ y. to_go n.count b y (row_at (up q (Start b)) b) (pairing q.doors.boards.count b (other_after q.doors.boards.count b 0))) was.1
            ∙ ap (λ m. to_go n.count b Low (row_at (up q (Start b)) b) (pairing m.count b (other_after m.count b 0))) g.doors_of in
            let some = n.some in
            arrives_then up b (alone n.count) (μ n b) (Way n b) (Mid n b) (λ u. Stands (shown below u) b at.Inside) (OkUp b)
            (λ u _. some_left n.count b (door_at u b).y (row_at u b) (door_at u b).phase) (way_falls n b) (below_in n b)
            (up q (Start b)) ds
            (cl, (there, ap (λ d. on_way d.phase) doors ∙ pairing_way q.doors.boards.count b (other_after q.doors.boards.count b 0), ap (λ d. d.notes) doors))
            each (omega arith)
