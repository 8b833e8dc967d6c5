use Rattle.std.proofs.Common.{true, ◌≡◌, ◌∙◌, ◌^◌, List, Some, map, sym, ap, subst}
use Rattle.btree_pages.specs.declared.inner.Inner.{Inner}
use Rattle.btree_pages.specs.Pages.{ascend}
use Rattle.tree_edit.specs.declared.plan.PlanPage.{PlanPage}
use Rattle.tree_edit.specs.Plans.{keys_of, shape_in}
use Rattle.tree_edit.specs.Shapes.{leaf}
use Rattle.plan_pieces.specs.Names.{inner_entries, named}
use Rattle.plan_pieces.proofs.PageLaws.{inner-body, leaf-body, rise-ascends, rule-keys}
use Rattle.plan_pieces.proofs.pages.body_of.Goals as goal

pub write_leaf-requires-clause-ascend : goal.write_leaf-requires-clause-ascend
write_leaf-requires-clause-ascend g c =
    let w = rw c.in-Leaf.is at c.requires.writable in
    subst (λ (l : List _). ascend (map g.E.Entry.key l) ≡ true) (sym c.as_slice.ensures.value) (rise-ascends 0 (2 ^ 64) (map g.E.Entry.key c.in-Leaf.entries.items) w.1)

pub write_inner-requires-clause-ascend : goal.write_inner-requires-clause-ascend
write_inner-requires-clause-ascend g c =
    let w = rw c.in-Inner.is at c.requires.writable in
    let name = named c.args.first c.args.places.now in
    let is : c.as_slice-in-Inner-2.result.now ≡ inner_entries name c.in-Inner.children.items = c.as_slice-in-Inner-2.ensures.value ∙ c.in_ok-entries-in-Inner.ensures ∙ ap (inner_entries name) c.as_slice-in-Inner.ensures.value in
    subst (λ (l : List Inner). ascend (map (λ (e : Inner). g.E.Entry.rule e.key) l) ≡ true) (sym is)
    (ap ascend (rule-keys g.E.Entry.rule name c.in-Inner.children.items w.4) ∙ rise-ascends 0 (2 ^ 64) (keys_of c.in-Inner.children.items) w.3)

pub returns-in-Leaf : goal.returns-in-Leaf
returns-in-Leaf g c =
    leaf-body g.E.Entry.rule g.E.Entry.size g.E.Entry.bytes g.E.Entry.entry_of g.E.Entry.fits g.met.E.Entry.reads_back c.write_leaf.result c.as_slice.result.now c.write_leaf.ensures.fits c.write_leaf.ensures.reads_back
    ∙ ap (λ (l : List _). Some (leaf l)) c.as_slice.ensures.value ∙ ap (λ (p : PlanPage _). Some (shape_in (named c.args.first c.args.places.now) p)) (sym c.in-Leaf.is)

pub returns-in_ok-entries-in-Inner : goal.returns-in_ok-entries-in-Inner
returns-in_ok-entries-in-Inner g c =
    let w = rw c.in-Inner.is at c.requires.writable in
    let name = named c.args.first c.args.places.now in
    let is : c.as_slice-in-Inner-2.result.now ≡ inner_entries name c.in-Inner.children.items = c.as_slice-in-Inner-2.ensures.value ∙ c.in_ok-entries-in-Inner.ensures ∙ ap (inner_entries name) c.as_slice-in-Inner.ensures.value in
    inner-body g.E.Entry.rule g.E.Entry.size g.E.Entry.entry_of c.write_inner.result c.in-Inner.level name c.in-Inner.children.items c.as_slice-in-Inner-2.result.now w.0 w.4 is c.write_inner.ensures.fits c.write_inner.ensures.reads_back
    ∙ ap (λ (p : PlanPage _). Some (shape_in name p)) (sym c.in-Inner.is)
