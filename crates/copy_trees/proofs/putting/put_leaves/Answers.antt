use Rattle.std.proofs.Common.{◌∙◌, ◌/◌, ◌<◌, ◌++◌, ◌∷◌, ◌^◌, [], ℕ, List, length, map, get_or, refl, sym, subst, ap, arith}
use Rattle.pst_base.specs.declared.ids.Bref.{Bref}
use Rattle.btree_pages.specs.declared.inner.Inner.{Inner}
use Rattle.copy_part.proofs.Keeping.{keeps_along, keeps_started}
use Rattle.tree_edit.specs.Plans.{AreKeys}
use Rattle.tree_edit.specs.Shapes.{RiseIn, leaf}
use Rattle.packed_tree.specs.Shown.{keys, kids}
use Rattle.copy_trees.specs.Writes.{form}
use Rattle.copy_trees.proofs.LevelLaws.{no_page}
use Rattle.copy_trees.proofs.WriteLaws.{back-is, begun-more, begun-none, begun-some, front-is, groups-count, keys-more, kids-more, leaves-all, rise-left, rise-take}
use Rattle.copy_trees.proofs.putting.put_leaves.Goals as goal

pub loop-at-init : goal.loop-at-init
loop-at-init g c =
    let old = g.W.Outside.view c.args.w.now in
    let none = c.new-children.ensures.items in
    record {
      keeps = keeps_started old;
      rises = c.requires.rises;
      steady = λ some. subst (λ (l : List Inner). AreKeys g.E.Entry.rule (keys l)) (sym none) tt;
      begun = begun-none (form g.E.Entry.rule g.E.Entry.size g.E.Entry.entry_of g.E.Entry.key c.args.kind) leaf g.E.Entry.key (488 / g.E.Entry.size) c.args.entries.now c.args.ats.now old.tells old.here.copy c.new-children.result.items none;
    }

pub leaf_page-page-requires-clause-rises : goal.leaf_page-page-requires-clause-rises
leaf_page-page-requires-clause-rises g c =
    let rest = c.loop-at.rest.now in
    let group = c.split_at.result.0.now in
    let is = front-is group rest c.min.result c.leaf_room-most.result c.leaf_room-most.result c.split_at.ensures.front c.min.ensures refl in
    subst (λ (l : List _). RiseIn 0 (2 ^ 64) (map g.E.Entry.key l)) (sym is) (rise-take g.E.Entry.key 0 (2 ^ 64) c.leaf_room-most.result rest c.loop-at.invariant.rises)

pub returns-in_err-put-clause-keeps : goal.returns-in_err-put-clause-keeps
returns-in_err-put-clause-keeps g c = keeps_along c.loop-at.invariant.keeps c.in_err-put.ensures.keeps

pub returns-in_err-push-clause-keeps : goal.returns-in_err-push-clause-keeps
returns-in_err-push-clause-keeps g c = keeps_along c.loop-at.invariant.keeps c.in_ok-put.ensures.keeps

pub loop-at-preserved : goal.loop-at-preserved
loop-at-preserved g c =
    let inv = c.loop-at.invariant in
    let key = g.E.Entry.key in
    let most = 488 / g.E.Entry.size in
    let es = c.args.entries.now in
    let ats = c.args.ats.now in
    let i = c.loop-at.at-index in
    let at : Bref = get_or ats i no_page in
    let rest = c.loop-at.rest.now in
    let cs = c.loop-at.children.items in
    let group = c.split_at.result.0.now in
    let back = c.split_at.result.1.now in
    let room = c.leaf_room-most.ensures.value in
    let low = c.leaf_room-most.ensures.low in
    let some : 0 < most = omega (arith, room, low) in
    let group_is = front-is group rest c.min.result c.leaf_room-most.result most c.split_at.ensures.front c.min.ensures room in
    let back_is = back-is back rest c.min.result c.leaf_room-most.result most c.split_at.ensures.back c.min.ensures room in
    let count = groups-count most es some ∙ sym c.requires.count in
    let test = c.loop-at-test.true in
    let within : i < length ats = omega (arith, test) in
    let child : Inner = record { key = c.first_key.result; page = at } in
    let items = c.in_ok-push.ensures.items in
    let named = ap kids items ∙ kids-more cs child ∙ ap (λ (k : ℕ). kids cs ++ (k, at) ∷ []) c.first_key.ensures.value in
    let keeps = c.in_ok-put.ensures.keeps in
    let old = g.W.Outside.view c.args.w.now in
    let mid = g.W.Outside.view c.loop-at.w in
    let new = g.W.Outside.view c.put.new.w in
    record {
      keeps = keeps_along inv.keeps keeps;
      rises = subst (λ (l : List _). RiseIn 0 (2 ^ 64) (map key l)) (sym back_is) (rise-left key 0 (2 ^ 64) most rest inv.rises);
      steady = λ has.
          let full = subst (λ (l : List _). 0 < length l) (sym group_is) (begun-some most es i rest inv.begun.cuts (omega (arith, within, count)) some has) in
          subst (λ (l : List Inner). AreKeys g.E.Entry.rule (keys l)) (sym items) (keys-more g.E.Entry.rule cs child (inv.steady has) (c.first_key.ensures.steady full));
      begun = begun-more (form g.E.Entry.rule g.E.Entry.size g.E.Entry.entry_of key c.args.kind) leaf key most es ats mid.tells new.tells old.here.copy mid.here.copy new.here.copy i rest back (kids cs) (kids c.push.new.self.items)
          group no_page at c.leaf_page-page.result inv.begun count within refl group_is back_is named c.leaf_page-page.ensures (λ told. (keeps.told told, c.in_ok-put.ensures.copy told));
    }

pub returns-clause-named : goal.returns-clause-named
returns-clause-named g c =
    let room = c.leaf_room-most.ensures.value in
    let low = c.leaf_room-most.ensures.low in
    let test = c.loop-at-test.false in
    let all = leaves-all (form g.E.Entry.rule g.E.Entry.size g.E.Entry.entry_of g.E.Entry.key c.args.kind) (488 / g.E.Entry.size) c.args.entries.now c.args.ats.now _ _ _ c.loop-at.at-index c.loop-at.rest.now c.loop-at.children.items
    c.loop-at.invariant.begun (omega (arith, room, low)) c.requires.count c.requires.rises (omega (arith, test))
    in
    all.named

pub returns-clause-count : goal.returns-clause-count
returns-clause-count g c =
    let room = c.leaf_room-most.ensures.value in
    let low = c.leaf_room-most.ensures.low in
    let test = c.loop-at-test.false in
    let all = leaves-all (form g.E.Entry.rule g.E.Entry.size g.E.Entry.entry_of g.E.Entry.key c.args.kind) (488 / g.E.Entry.size) c.args.entries.now c.args.ats.now _ _ _ c.loop-at.at-index c.loop-at.rest.now c.loop-at.children.items
    c.loop-at.invariant.begun (omega (arith, room, low)) c.requires.count c.requires.rises (omega (arith, test))
    in
    all.count

pub returns-clause-rises : goal.returns-clause-rises
returns-clause-rises g c =
    let room = c.leaf_room-most.ensures.value in
    let low = c.leaf_room-most.ensures.low in
    let test = c.loop-at-test.false in
    let all = leaves-all (form g.E.Entry.rule g.E.Entry.size g.E.Entry.entry_of g.E.Entry.key c.args.kind) (488 / g.E.Entry.size) c.args.entries.now c.args.ats.now _ _ _ c.loop-at.at-index c.loop-at.rest.now c.loop-at.children.items
    c.loop-at.invariant.begun (omega (arith, room, low)) c.requires.count c.requires.rises (omega (arith, test))
    in
    all.rises

pub returns-clause-steady : goal.returns-clause-steady
returns-clause-steady g c = λ two.
    let room = c.leaf_room-most.ensures.value in
    let low = c.leaf_room-most.ensures.low in
    let test = c.loop-at-test.false in
    let all = leaves-all (form g.E.Entry.rule g.E.Entry.size g.E.Entry.entry_of g.E.Entry.key c.args.kind) (488 / g.E.Entry.size) c.args.entries.now c.args.ats.now _ _ _ c.loop-at.at-index c.loop-at.rest.now c.loop-at.children.items
    c.loop-at.invariant.begun (omega (arith, room, low)) c.requires.count c.requires.rises (omega (arith, test))
    in
    c.loop-at.invariant.steady (all.some two)

pub returns-clause-copy : goal.returns-clause-copy
returns-clause-copy g c =
    let room = c.leaf_room-most.ensures.value in
    let low = c.leaf_room-most.ensures.low in
    let test = c.loop-at-test.false in
    let all = leaves-all (form g.E.Entry.rule g.E.Entry.size g.E.Entry.entry_of g.E.Entry.key c.args.kind) (488 / g.E.Entry.size) c.args.entries.now c.args.ats.now _ _ _ c.loop-at.at-index c.loop-at.rest.now c.loop-at.children.items
    c.loop-at.invariant.begun (omega (arith, room, low)) c.requires.count c.requires.rises (omega (arith, test))
    in
    all.copy
