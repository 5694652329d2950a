-- The names by which stations, letters and signs are printed.
use Rattle.std.specs.Prelude.{ℕ, List, codes}
use Rattle.service.specs.declared.answer.Letter.{Letter}
use Rattle.service.specs.declared.answer.Letter.TheVariants.{A, S, P}
use Rattle.service.specs.declared.answer.Sign.{Sign}
use Rattle.service.specs.declared.answer.Sign.TheVariants.{Plus, Minus}
use Rattle.service.specs.declared.standing.Standing.{Standing}
use Rattle.service.specs.declared.standing.Standing.TheVariants.{Out, Doorway, Waiting, Inside, Leaving}

abbrev pub standing_name : Standing → List ℕ
standing_name Out = codes "out"
standing_name Doorway = codes "doorway"
standing_name Waiting = codes "waiting"
standing_name Inside = codes "inside"
standing_name Leaving = codes "leaving"

abbrev pub letter_name : Letter → List ℕ
letter_name A = codes "A"
letter_name S = codes "S"
letter_name P = codes "P"

abbrev pub sign_name : Sign → List ℕ
sign_name Plus = codes "+"
sign_name Minus = codes "-"
