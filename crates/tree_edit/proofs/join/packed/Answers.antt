use Rattle.std.proofs.Common.{◌≡◌, ◌-◌, ℕ, List, suc, length, ap, subst, arith}
use Rattle.tree_edit.specs.declared.plan.Child.{Child}
use Rattle.tree_edit.specs.Steps.{Lays, Packs}
use Rattle.tree_edit.proofs.JoinLaws.{leaves-make, inners-make}
use Rattle.tree_edit.proofs.join.packed.Goals as goal

pub returns-then-level-eq0-clause-makes : goal.returns-then-level-eq0-clause-makes
returns-then-level-eq0-clause-makes g c =
    let value = ap (λ (l : List _). length l) c.as_slice.ensures.value in
    leaves-make g.E.Entry.key g.E.Entry.rule g.E.Entry.size c.args.level c.args.pages.now.items c.pack_leaves.new.pages.items c.args.content.now.entries.items c.args.content.now.children.items c.in_ok-leaves.leaves.items c.if-level-eq0.true
    (subst (λ (l : List _). Lays g.E.Entry.key c.args.pages.now.items c.pack_leaves.new.pages.items c.in_ok-leaves.leaves.items l) c.as_slice.ensures.value c.in_ok-leaves.ensures.lays) c.in_ok-leaves.ensures.keys c.in_ok-leaves.ensures.grows
    (λ n k e fits le. c.in_ok-leaves.ensures.few n k e fits (omega (arith, le, value)))

pub returns-clause-makes : goal.returns-clause-makes
returns-clause-makes g c =
    let value = ap (λ (l : List (ℕ × Child)). length l) c.as_slice-2.ensures.value in
    let low = c.if-level-eq0.false in
    let n : ℕ = c.args.level - 1 in
    let level : c.args.level ≡ suc n = omega (arith, low) in
    inners-make g.E.Entry.key g.E.Entry.rule g.E.Entry.size c.args.level n c.args.pages.now.items c.pack_inners.new.pages.items c.args.content.now.entries.items c.args.content.now.children.items c.in_ok-inners.inners.items level
    (subst (λ (l : List (ℕ × Child)). Packs g.E.Entry.key n c.args.pages.now.items c.pack_inners.new.pages.items l c.in_ok-inners.inners.items) c.as_slice-2.ensures.value (c.in_ok-inners.ensures.packs n (omega (arith, low)))) c.in_ok-inners.ensures.keys c.in_ok-inners.ensures.grows
    (λ k e le. c.in_ok-inners.ensures.few k e (omega (arith, le, value)))
