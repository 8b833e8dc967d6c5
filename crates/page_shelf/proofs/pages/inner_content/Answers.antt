use Rattle.std.proofs.Common.{◌≡◌, ◌≤◌, ℕ, true, List, length, map, get_or, refl, sym, subst, arith}
use Rattle.std.proofs.lemmas.List.{get_or_default}
use Rattle.tree_edit.specs.declared.plan.Child.{Child}
use Rattle.tree_edit.specs.declared.plan.Child.TheVariants.{Old}
use Rattle.pst_base.specs.Ids.{key_of}
use Rattle.btree_pages.specs.declared.inner.Inner.{Inner}
use Rattle.btree_pages.specs.Pages.{ascend}
use Rattle.page_shelf.proofs.ShelfLaws.{keys-next, keys-all, keys-few, keys-ascend}
use Rattle.page_shelf.proofs.pages.inner_content.Goals as goal

pub loop-i-preserved : goal.loop-i-preserved
loop-i-preserved c =
    let test = c.loop-i-test.true in
    let none : ℕ × Child = (0, Old (record { bid = record { bits = 0 }; ib = 0 })) in
    let item = get_or c.args.children.now c.loop-i.i none in
    keys-next c.args.children.now c.loop-i.entries.items c.push.new.self.items c.loop-i.i _ item (omega (arith, test)) c.loop-i.invariant c.in_ok-push.ensures.items refl (get_or_default c.args.children.now c.loop-i.i none item (omega (arith, test)))

pub write_inner-requires-clause-few : goal.write_inner-requires-clause-few
write_inner-requires-clause-few c =
    let test = c.loop-i-test.false in
    let same = keys-all c.args.children.now c.loop-i.entries.items c.loop-i.i (omega (arith, test)) c.loop-i.invariant in
    subst (λ (l : List Inner). length l ≤ 20) (sym c.as_slice.ensures.value) (keys-few c.args.children.now c.loop-i.entries.items same c.requires.few)

pub write_inner-requires-clause-ascend : goal.write_inner-requires-clause-ascend
write_inner-requires-clause-ascend c =
    let test = c.loop-i-test.false in
    let same = keys-all c.args.children.now c.loop-i.entries.items c.loop-i.i (omega (arith, test)) c.loop-i.invariant in
    subst (λ (l : List Inner). ascend (map (λ (x : Inner). key_of x.key) l) ≡ true) (sym c.as_slice.ensures.value) (keys-ascend c.args.children.now c.loop-i.entries.items same c.requires.rises c.requires.keys)
