-- Answers as they are printed.
use Rattle.std.specs.Prelude.{ℕ, ℤ, pos, Ok, Err, Result}
use Rattle.service.specs.declared.answer.Answer.{Answer}
use Rattle.service.specs.declared.answer.Letter.{Letter}
use Rattle.service.specs.declared.answer.Letter.TheVariants.{A, S, P}
use Rattle.service.specs.declared.answer.Sign.TheVariants.{Plus, Minus}
use Rattle.service.specs.declared.progress.Progress.{Progress}
use Rattle.service.specs.declared.refusal.Refusal.{Refusal}
use Rattle.service.specs.Numbers.{told_by, value_of, refused_by}

abbrev pub accepted : Letter → ℕ → ℕ → ℤ → Answer
accepted l b k z = record { letter = l; board = b; sign = Plus; number = k; value = z }

abbrev pub refused : Letter → ℕ → Refusal → Answer
refused l b e = record { letter = l; board = b; sign = Minus; number = refused_by e; value = pos 0 }

-- the answer to a call that is told by a number and a value, or refused
abbrev pub printed : Letter → ℕ → Result (ℕ × ℤ) Refusal → Answer
printed l b (Ok (k, z)) = accepted l b k z
printed l b (Err e) = refused l b e

-- an accepted ask tells the boards ahead
abbrev pub of_ask : ℕ → Result ℕ Refusal → Answer
of_ask b (Ok boards) = accepted A b 0 (pos boards)
of_ask b (Err e) = refused A b e

abbrev pub of_step : ℕ → Result Progress Refusal → Answer
of_step b (Ok p) = accepted S b (told_by p) (value_of p)
of_step b (Err e) = refused S b e

abbrev pub of_pull : ℕ → Result Unit Refusal → Answer
of_pull b (Ok u) = accepted P b 0 (pos 0)
of_pull b (Err e) = refused P b e
