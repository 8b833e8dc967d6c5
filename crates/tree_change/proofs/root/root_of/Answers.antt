use Rattle.std.proofs.Common.{◌≡◌, length, ℕ, List, sym, ap, subst, map, ◌*◌, ◌≤◌, ◌^◌, arith, rules}
use Rattle.tree_edit.specs.declared.plan.Child.{Child}
use Rattle.tree_edit.specs.declared.plan.Child.TheVariants.{New}
use Rattle.tree_edit.specs.Shapes.{leaf, RiseIn}
use Rattle.tree_edit.specs.Plans.{AreWritable}
use Rattle.tree_edit.proofs.WriteLaws.{writable-push}
use Rattle.tree_change.proofs.root.root_of.Goals as goal

pub returns-clause-top : goal.returns-clause-top
returns-clause-top g c =
    let none = c.if-children-gt0.false in
    let number : c.len.result ≡ length c.args.pages.now.items = search rules in
    record {
      of_one = λ d e. absurd (let f = ap (λ (x : List (ℕ × Child)). length x) e in omega (arith, f, none));
      of_none = λ e. record { page = _; grown = c.in_ok-push.ensures.items; is = ap New number; shows = λ name. ap leaf c.new.ensures.items };
    }

pub returns-clause-writable : goal.returns-clause-writable
returns-clause-writable g c = λ h.
    subst (AreWritable g.E.Entry.key g.E.Entry.rule g.E.Entry.size) (sym c.in_ok-push.ensures.items) (writable-push g.E.Entry.key g.E.Entry.rule g.E.Entry.size c.args.pages.now.items _ h
    (subst (λ (l : List _). (length l * g.E.Entry.size ≤ 488) × RiseIn 0 (2 ^ 64) (map g.E.Entry.key l)) (sym c.new.ensures.items) (omega arith, tt)))
