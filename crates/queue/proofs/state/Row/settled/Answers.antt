-- Each line has got its new level.
use Rattle.std.proofs.Common.{◌≡◌, map, length, get_or, sym, ap, ◌∙◌, arith, rules}
use Rattle.std.proofs.lemmas.List.{same_lists, length-map, get_or-map}
use Rattle.line.specs.Rule.{ended}
use Rattle.lock.specs.Most.{most}
use Rattle.queue.proofs.state.Row.settled.Goals as goal

pub returns : goal.returns
returns c =
    let z = c.args.self.z in let made = c.map.ensures.items in
    let whole : length z ≡ most = search rules in
    let long : length c.map.result ≡ most = made.long in
    ap (λ lines. record { z = lines }) (same_lists c.map.result (map ended z) (omega (arith, length-map z ended)) (λ k d h.
    let called = made.at k d d (omega arith) in
    let gives : get_or c.map.result k d ≡ ended (get_or z k d) = search rules in
    gives ∙ sym (get_or-map ended z k d d (omega arith))))
