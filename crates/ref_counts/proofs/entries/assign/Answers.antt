use Rattle.std.proofs.Common.{◌≡◌, ◌∙◌, ℕ, sym, Some, None}
use Rattle.ref_counts.proofs.SeatLaws.{refs-set, kept-set, ascend-set, none-here}
use Rattle.ref_counts.proofs.entries.assign.Goals as goal

pub returns-in-Ok-clause-ascend : goal.returns-in-Ok-clause-ascend
returns-in-Ok-clause-ascend c = ascend-set c.args.entries.now c.args.key c.in-Ok.at c.in-Ok.ensures.there c.args.number

pub returns-in-Ok-clause-number : goal.returns-in-Ok-clause-number
returns-in-Ok-clause-number c = λ has other. refs-set c.args.entries.now c.args.key c.in-Ok.at c.in-Ok.ensures.there other c.args.number

pub returns-in-Ok-clause-kept : goal.returns-in-Ok-clause-kept
returns-in-Ok-clause-kept c = λ other has. kept-set c.args.entries.now c.args.key c.in-Ok.at c.in-Ok.ensures.there other c.args.number has

pub returns-in-Err-clause-number : goal.returns-in-Err-clause-number
returns-in-Err-clause-number c = λ has other. absurd (never has.0 (sym (none-here c.args.entries.now c.args.key c.in-Err.field-0 c.in-Err.ensures.missing) ∙ has.1))
  where
    never : (e : ℕ × ℕ) → None ≡ Some e → ⊥
    never e h = cc
