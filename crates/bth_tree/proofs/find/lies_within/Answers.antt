use Rattle.std.proofs.Common.{◌∙◌, ◌&&◌, ◌^◌, ℕ, Bool, nat_lt, sym, ap, arith}
use Rattle.std.proofs.lemmas.Bool.{le-leb}
use Rattle.bth_tree.specs.Find.{last_key}
use Rattle.bth_tree.specs.Tree.{end_of}
use Rattle.bth_tree.proofs.FindLaws.{ends-within}
use Rattle.bth_tree.proofs.find.lies_within.Goals as goal

pub returns-then-low-sum : goal.returns-then-low-sum
returns-then-low-sum c = λ key rs s w.
    ap (λ (n : ℕ). nat_lt n c.args.end) (c.from.ensures ∙ s.last)
    ∙ ap (λ (b : Bool). b && nat_lt (last_key rs) c.args.end) (sym (le-leb c.args.low (end_of rs) (omega (arith, s.first))))
    ∙ ends-within c.args.low c.args.end 0 (2 ^ 32) rs s.some w
