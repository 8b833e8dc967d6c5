use Rattle.std.proofs.Common.{◌≡◌, ℕ, sym, subst}
use Rattle.tree_edit.proofs.page.child_seat.Goals as goal

pub returns-then-next-count-clause-key : goal.returns-then-next-count-clause-key
returns-then-next-count-clause-key g c = subst (λ (k : ℕ). g.E.Entry.rule k ≡ k) (sym c.rule-key.ensures) (g.met.E.Entry.steady _)

pub returns-else-next-count-clause-key : goal.returns-else-next-count-clause-key
returns-else-next-count-clause-key g c = subst (λ (k : ℕ). g.E.Entry.rule k ≡ k) (sym c.rule-key.ensures) (g.met.E.Entry.steady _)
