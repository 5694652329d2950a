-- What the records of boards 1 to N have to do with the whole table.
use Rattle.std.proofs.Common.{◌≡◌, ℕ, ◌-◌, ◌<◌, ◌≤◌, Bool, true, false, cond, map, length, get_or, set, Ok, Err, Result, refl, ap, ◌∙◌, arith}
use lib.Seq.{take-set-lt}
use Rattle.std.proofs.lemmas.List.{length-set, length-take, length-take-le, length-map, get_or-take, get_or-map, get_or_default, get_or-set_same, get_or-set_other}
use Rattle.lock.specs.declared.station.Refusal.{Refusal}
use Rattle.lock.specs.declared.station.Refusal.TheVariants.{NoSuchBoard}
use Rattle.lock.specs.declared.station.Station.{Station}
use Rattle.lock.specs.declared.station.Station.TheVariants.{Out}
use Rattle.lock.specs.declared.table.Table.{Table}
use Rattle.lock.specs.Most.{most}
use Rattle.lock.specs.Stations.{among, at, told}
use Rattle.lock.specs.Tables.{listed, kept_for, asked, written}
use Rattle.lock.proofs.Stations.{among_from, from_among}

module _ {T : Type 0} where
  -- every record that is in use stands in the table
  pub listed_length : (t : Table T) → length t.records ≡ most → length (listed t) ≡ t.boards.count
  listed_length t e = let few = t.boards.few in length-take-le t.boards.count t.records (omega arith)

  pub listed_most : (t : Table T) → length (listed t) ≤ t.boards.count
  listed_most t = let e = length-take t.boards.count t.records in omega arith

  pub listed_at : (t : Table T) (b : ℕ) (d : T) → 1 ≤ b → b ≤ length (listed t) → get_or (listed t) (b - 1) d ≡ get_or t.records (b - 1) d
  listed_at t b d p q = let most = listed_most t in let h : b - 1 < t.boards.count = omega arith in get_or-take t.boards.count t.records (b - 1) d h

  pub listed_written : (t : Table T) (b : ℕ) (x : T) → 1 ≤ b → b ≤ length (listed t) → listed (written t b x) ≡ set (listed t) (b - 1) x
  listed_written t b x p q =
      let k = among_from (length (listed t)) b p q in
      let most = listed_most t in
      let h : b - 1 < t.boards.count = omega arith in
      rw k (take-set-lt t.boards.count t.records (b - 1) x h)

  -- a record that is there is told, whatever stands for one that is not
  pub asked_there : (t : Table T) (b : ℕ) (x d : T) → kept_for t b ≡ true → asked t b d ≡ Ok (get_or t.records (b - 1) x)
  asked_there t b x d k =
      let r = from_among (length (listed t)) b k in
      let low = r.0 in let high = r.1 in
      let h : b - 1 < length (listed t) = omega arith in
      rw k (ap Ok (get_or_default (listed t) (b - 1) d x h ∙ listed_at t b x low high))

  pub asked_at : (t : Table T) (b : ℕ) (d : T) → 1 ≤ b → b ≤ length (listed t) → asked t b d ≡ Ok (get_or (listed t) (b - 1) d)
  asked_at t b d p q = let k = among_from (length (listed t)) b p q in rw k

  -- a writing for board b, as far as b is asked for, and as far as others are
  pub length_written : (t : Table T) (b : ℕ) (x : T) → 1 ≤ b → b ≤ length (listed t) → length (listed (written t b x)) ≡ length (listed t)
  length_written t b x p q = ap length (listed_written t b x p q) ∙ length-set (listed t) (b - 1) x

  pub asked_same : (t : Table T) (b : ℕ) (x d : T) → 1 ≤ b → b ≤ length (listed t) → asked (written t b x) b d ≡ Ok x
  asked_same t b x d p q =
      let len = length_written t b x p q in
      asked_at (written t b x) b d p (omega arith)
      ∙ ap (λ xs. Ok (get_or xs (b - 1) d)) (listed_written t b x p q)
      ∙ ap Ok (get_or-set_same (listed t) (b - 1) x d (omega arith))

  pub asked_other : (t : Table T) (b j : ℕ) (x d : T) → 1 ≤ b → b ≤ length (listed t) → (j ≡ b → ⊥) → asked (written t b x) j d ≡ asked t j d
  asked_other t b j x d p q ne =
      ap (λ n. cond (among n j) (Ok (get_or (listed (written t b x)) (j - 1) d)) (Err NoSuchBoard)) (length_written t b x p q) ∙ go (kept_for t j) refl
    where
      go : (k : Bool) → kept_for t j ≡ k → cond k (Ok (get_or (listed (written t b x)) (j - 1) d)) (Err NoSuchBoard) ≡ cond k (Ok (get_or (listed t) (j - 1) d)) (Err NoSuchBoard)
      go true e =
          let r = from_among (length (listed t)) j e in let low = r.0 in
          ap (λ xs. Ok (get_or xs (j - 1) d)) (listed_written t b x p q) ∙ ap Ok (get_or-set_other (listed t) (b - 1) (j - 1) x d (λ z. ne (omega arith)))
      go false e = refl

  pub written_boards : (t : Table T) (b : ℕ) (x : T) → 1 ≤ b → b ≤ length (listed t) → (written t b x).boards ≡ t.boards
  written_boards t b x p q = let k = among_from (length (listed t)) b p q in rw k

  pub written_long : (t : Table T) (b : ℕ) (x : T) → 1 ≤ b → b ≤ length (listed t) → length (written t b x).records ≡ length t.records
  written_long t b x p q = let k = among_from (length (listed t)) b p q in rw k (length-set t.records (b - 1) x)

  -- what is told of a station that the record says
  abbrev pub through : (T → Station) → Result T Refusal → Result Station Refusal
  through f (Ok x) = Ok (f x)
  through f (Err e) = Err e

  pub told_through : (f : T → Station) (t : Table T) (b : ℕ) (d : T) → told (map f (listed t)) b ≡ through f (asked t b d)
  told_through f t b d = ap (λ n. cond (among n b) (Ok (at (map f (listed t)) b)) (Err NoSuchBoard)) (length-map (listed t) f) ∙ go (kept_for t b) refl
    where
      go : (k : Bool) → kept_for t b ≡ k → cond k (Ok (at (map f (listed t)) b)) (Err NoSuchBoard) ≡ through f (cond k (Ok (get_or (listed t) (b - 1) d)) (Err NoSuchBoard))
      go true e =
          let r = from_among (length (listed t)) b e in
          let low = r.0 in let high = r.1 in
          let h : b - 1 < length (listed t) = omega arith in
          ap Ok (get_or-map f (listed t) (b - 1) d Out h)
      go false e = refl
