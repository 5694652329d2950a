-- Each board is marked if it waits.
use Rattle.std.proofs.Common.{◌≡◌, ℕ, ◌<◌, Bool, List, map, length, get_or, false, sym, ◌∙◌, arith, rules}
use Rattle.std.proofs.lemmas.List.{same_lists, length-map, get_or-map, get_or_default}
use Rattle.service.specs.declared.record.Record.{Record}
use Rattle.service.specs.Records.{blank, waits}
use Rattle.analyser.proofs.state.Desk.waiting.Goals as goal

-- a list that has at each place what the other list's record makes of it
mapped : (rs : List Record) (ms : List Bool) (n : ℕ) → length rs ≡ n → length ms ≡ n
    → ((i : ℕ) → i < n → get_or ms i false ≡ waits (get_or rs i blank)) → ms ≡ map waits rs
mapped rs ms n p q at =
    same_lists ms (map waits rs) (q ∙ sym p ∙ sym (length-map rs waits))
    (λ k d h. get_or_default ms k d false h ∙ at k (omega arith) ∙ sym (get_or-map waits rs k blank d (omega arith)))

pub returns : goal.returns
returns c = mapped c.args.self.records c.map.result 8 (search rules) c.map.ensures.items.long (λ i h. let k = (c.map.ensures.items.at i blank false h).2 in search (rules, k))
