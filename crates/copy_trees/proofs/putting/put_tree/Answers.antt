use Rattle.std.proofs.Common.{◌≡◌, ◌∙◌, ◌/◌, ◌^◌, List, map, get_or, sym, subst, ap, arith}
use Rattle.std.proofs.lemmas.List.{length-map}
use Rattle.pst_base.specs.declared.ids.Bref.{Bref}
use Rattle.btree_pages.specs.declared.inner.Inner.{Inner}
use Rattle.copy_part.proofs.Keeping.{keeps_along}
use Rattle.tree_edit.specs.Plans.{AreKeys}
use Rattle.tree_edit.specs.Shapes.{RiseIn, inner}
use Rattle.packed_tree.specs.Packed.{children, groups, head}
use Rattle.packed_tree.specs.Shown.{keys, kids}
use Rattle.copy_trees.specs.Writes.{AddsPages, form}
use Rattle.copy_trees.proofs.WriteLaws.{head-kids, kid, written-all, written-here, written-leaves, written-more}
use Rattle.copy_trees.proofs.putting.put_tree.Goals as goal

pub loop-level-init : goal.loop-level-init
loop-level-init g c =
    let most = 488 / g.E.Entry.size in
    let rows = c.args.pages.now.levels.items in
    let row : List Bref = c.as_slice.result.now in
    let row_is : row ≡ get_or rows 0 row = subst (λ (r : List Bref). r ≡ get_or rows 0 r) (sym c.as_slice.ensures.value) c.index.ensures in
    let own = c.in_ok-children.ensures in
    let cs = c.in_ok-children.children.items in
    let old = g.W.Outside.view c.args.w.now in
    let new = g.W.Outside.view c.put_leaves.new.w in
    let size = length-map cs kid in
    record {
      keeps = own.keeps;
      written = written-leaves (form g.E.Entry.rule g.E.Entry.size g.E.Entry.entry_of g.E.Entry.key c.args.kind) most c.args.entries.now rows c.args.pages.now.root new.tells old.here.copy new.here.copy row (kids cs)
          c.requires.planned row_is own.named (size ∙ own.count) (subst (RiseIn 0 (2 ^ 64)) (sym (head-kids cs)) own.rises)
          (λ two. subst (AreKeys g.E.Entry.rule) (sym (head-kids cs)) (own.steady (omega (arith, two, size)))) own.copy;
    }

pub put_inners-requires-clause-rises : goal.put_inners-requires-clause-rises
put_inners-requires-clause-rises g c =
    let cs = c.loop-level.children.items in
    subst (λ (l : List Inner). RiseIn 0 (2 ^ 64) (keys l)) (sym c.as_slice-in-loop-level.ensures.value) (subst (RiseIn 0 (2 ^ 64)) (head-kids cs) c.loop-level.invariant.written.rises)

pub put_inners-requires-clause-steady : goal.put_inners-requires-clause-steady
put_inners-requires-clause-steady g c =
    let rows = c.args.pages.now.levels.items in
    let row : List Bref = c.as_slice-ats.result.now in
    let row_is : row ≡ get_or rows c.loop-level.level row = subst (λ (r : List Bref). r ≡ get_or rows c.loop-level.level r) (sym c.as_slice-ats.ensures.value) c.index-in-loop-level.ensures in
    let cs = c.loop-level.children.items in
    let test = c.loop-level-test.true in
    let end = c.len-level-end.ensures in
    let here = written-here _ _ _ rows _ _ _ c.loop-level.level (kids cs) row c.loop-level.invariant.written (omega (arith, test, end)) row_is in
    subst (λ (l : List Inner). AreKeys g.E.Entry.rule (keys l)) (sym c.as_slice-in-loop-level.ensures.value) (subst (AreKeys g.E.Entry.rule) (head-kids cs) (c.loop-level.invariant.written.steady here.0))

pub returns-in_err-children-2-clause-keeps : goal.returns-in_err-children-2-clause-keeps
returns-in_err-children-2-clause-keeps g c = keeps_along c.loop-level.invariant.keeps c.in_err-children-2.ensures.keeps

pub loop-level-preserved : goal.loop-level-preserved
loop-level-preserved g c =
    let inv = c.loop-level.invariant in
    let most = 488 / g.E.Entry.size in
    let rows = c.args.pages.now.levels.items in
    let level = c.loop-level.level in
    let row : List Bref = c.as_slice-ats.result.now in
    let row_is : row ≡ get_or rows level row = subst (λ (r : List Bref). r ≡ get_or rows level r) (sym c.as_slice-ats.ensures.value) c.index-in-loop-level.ensures in
    let cs = c.loop-level.children.items in
    let own = c.in_ok-children-2.ensures in
    let same = c.as_slice-in-loop-level.ensures.value in
    let test = c.loop-level-test.true in
    let end = c.len-level-end.ensures in
    let old = g.W.Outside.view c.args.w.now in
    let mid = g.W.Outside.view c.loop-level.w in
    let new = g.W.Outside.view c.put_inners.new.w in
    let f = form g.E.Entry.rule g.E.Entry.size g.E.Entry.entry_of g.E.Entry.key c.args.kind in
    let keeps = own.keeps in
    record {
      keeps = keeps_along inv.keeps keeps;
      written = written-more f most c.args.entries.now rows mid.tells new.tells old.here.copy mid.here.copy new.here.copy level (kids cs) (kids c.in_ok-children-2.children.items) row inv.written (omega (arith, test, end)) row_is
          (own.named ∙ ap (λ (l : List Inner). children head (groups 20 (kids l)) row) same)
          (λ told. (keeps.told told, subst (λ (l : List Inner). AddsPages f (map (inner level) (groups 20 (kids l))) row mid.here.copy new.here.copy) same (own.copy told)));
    }

pub returns-clause-copy : goal.returns-clause-copy
returns-clause-copy g c = λ told.
    let test = c.loop-level-test.false in
    let end = c.len-level-end.ensures in
    written-all _ _ c.args.entries.now c.args.pages.now.levels.items _ _ _ c.loop-level.level (kids c.loop-level.children.items) c.loop-level.invariant.written (omega (arith, test, end)) told
