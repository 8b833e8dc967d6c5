use Rattle.std.proofs.Common.{◌∙◌, ◌<◌, ◌++◌, ◌∷◌, ◌^◌, [], ℕ, List, length, get_or, refl, sym, subst, ap, arith}
use Rattle.pst_base.specs.declared.ids.Bref.{Bref}
use Rattle.btree_pages.specs.declared.inner.Inner.{Inner}
use Rattle.copy_part.proofs.Keeping.{keeps_along, keeps_started}
use Rattle.tree_edit.specs.Plans.{AreKeys}
use Rattle.tree_edit.specs.Shapes.{RiseIn, Shape}
use Rattle.packed_tree.specs.Shown.{keys, kids}
use Rattle.copy_trees.specs.Writes.{AddsPages, form}
use Rattle.copy_trees.proofs.LevelLaws.{no_page}
use Rattle.copy_trees.proofs.WriteLaws.{back-is, begun-all, begun-more, begun-none, begun-some, front-is, groups-count, key_of, keys-left, keys-take, kids-more, kids-named, kids-shown, rise-left, rise-take, shows_inner}
use Rattle.copy_trees.proofs.putting.put_inners.Goals as goal

pub loop-at-init : goal.loop-at-init
loop-at-init g c =
    let old = g.W.Outside.view c.args.w.now in
    record {
      keeps = keeps_started old;
      rises = c.requires.rises;
      steady = c.requires.steady;
      begun = begun-none (form g.E.Entry.rule g.E.Entry.size g.E.Entry.entry_of g.E.Entry.key c.args.kind) (shows_inner c.args.level) key_of 20 c.args.below.now c.args.ats.now old.tells old.here.copy c.new-children.result.items c.new-children.ensures.items;
    }

pub inner_page-page-requires-clause-rises : goal.inner_page-page-requires-clause-rises
inner_page-page-requires-clause-rises g c =
    let rest = c.loop-at.rest.now in
    let group = c.split_at.result.0.now in
    let is = front-is group rest c.min.result 20 20 c.split_at.ensures.front c.min.ensures refl in
    subst (λ (l : List Inner). RiseIn 0 (2 ^ 64) (keys l)) (sym is) (rise-take key_of 0 (2 ^ 64) 20 rest c.loop-at.invariant.rises)

pub inner_page-page-requires-clause-keys : goal.inner_page-page-requires-clause-keys
inner_page-page-requires-clause-keys g c =
    let rest = c.loop-at.rest.now in
    let group = c.split_at.result.0.now in
    let is = front-is group rest c.min.result 20 20 c.split_at.ensures.front c.min.ensures refl in
    subst (λ (l : List Inner). AreKeys g.E.Entry.rule (keys l)) (sym is) (keys-take g.E.Entry.rule key_of 20 rest c.loop-at.invariant.steady)

pub returns-in_err-put-clause-keeps : goal.returns-in_err-put-clause-keeps
returns-in_err-put-clause-keeps g c = keeps_along c.loop-at.invariant.keeps c.in_err-put.ensures.keeps

pub least_key-requires : goal.least_key-requires
least_key-requires g c =
    let xs = c.args.below.now in
    let rest = c.loop-at.rest.now in
    let is = front-is c.split_at.result.0.now rest c.min.result 20 20 c.split_at.ensures.front c.min.ensures refl in
    let count = groups-count 20 xs (omega arith) ∙ sym c.requires.count in
    let test = c.loop-at-test.true in
    subst (λ (l : List Inner). 0 < length l) (sym is) (begun-some 20 xs c.loop-at.at-index rest c.loop-at.invariant.begun.cuts (omega (arith, test, count)) (omega arith) c.requires.some)

pub returns-in_err-push-clause-keeps : goal.returns-in_err-push-clause-keeps
returns-in_err-push-clause-keeps g c = keeps_along c.loop-at.invariant.keeps c.in_ok-put.ensures.keeps

pub loop-at-preserved : goal.loop-at-preserved
loop-at-preserved g c =
    let inv = c.loop-at.invariant in
    let xs = c.args.below.now in
    let ats = c.args.ats.now in
    let i = c.loop-at.at-index in
    let at : Bref = get_or ats i no_page in
    let rest = c.loop-at.rest.now in
    let cs = c.loop-at.children.items in
    let group = c.split_at.result.0.now in
    let back = c.split_at.result.1.now in
    let group_is = front-is group rest c.min.result 20 20 c.split_at.ensures.front c.min.ensures refl in
    let back_is = back-is back rest c.min.result 20 20 c.split_at.ensures.back c.min.ensures refl in
    let count = groups-count 20 xs (omega arith) ∙ sym c.requires.count in
    let test = c.loop-at-test.true in
    let within : i < length ats = omega (arith, test) in
    let child : Inner = record { key = c.least_key.result; page = at } in
    let items = c.in_ok-push.ensures.items in
    let named = ap kids items ∙ kids-more cs child ∙ ap (λ (k : ℕ). kids cs ++ (k, at) ∷ []) c.least_key.ensures in
    let keeps = c.in_ok-put.ensures.keeps in
    let old = g.W.Outside.view c.args.w.now in
    let mid = g.W.Outside.view c.loop-at.w in
    let new = g.W.Outside.view c.put.new.w in
    record {
      keeps = keeps_along inv.keeps keeps;
      rises = subst (λ (l : List Inner). RiseIn 0 (2 ^ 64) (keys l)) (sym back_is) (rise-left key_of 0 (2 ^ 64) 20 rest inv.rises);
      steady = subst (λ (l : List Inner). AreKeys g.E.Entry.rule (keys l)) (sym back_is) (keys-left g.E.Entry.rule key_of 20 rest inv.steady);
      begun = begun-more (form g.E.Entry.rule g.E.Entry.size g.E.Entry.entry_of g.E.Entry.key c.args.kind) (shows_inner c.args.level) key_of 20 xs ats mid.tells new.tells old.here.copy mid.here.copy new.here.copy i rest back (kids cs) (kids c.push.new.self.items)
          group no_page at c.inner_page-page.result inv.begun count within refl group_is back_is named c.inner_page-page.ensures (λ told. (keeps.told told, c.in_ok-put.ensures.copy told));
    }

pub returns-clause-named : goal.returns-clause-named
returns-clause-named g c =
    let xs = c.args.below.now in
    let test = c.loop-at-test.false in
    let done = begun-all _ _ _ 20 xs c.args.ats.now _ _ _ c.loop-at.at-index c.loop-at.rest.now (kids c.loop-at.children.items) c.loop-at.invariant.begun (groups-count 20 xs (omega arith) ∙ sym c.requires.count) (omega (arith, test)) in
    done.named ∙ kids-named xs c.args.ats.now

pub returns-clause-copy : goal.returns-clause-copy
returns-clause-copy g c = λ told.
    let xs = c.args.below.now in
    let test = c.loop-at-test.false in
    let old = g.W.Outside.view c.args.w.now in
    let new = g.W.Outside.view c.loop-at.w in
    let done = begun-all _ _ _ 20 xs c.args.ats.now _ _ _ c.loop-at.at-index c.loop-at.rest.now (kids c.loop-at.children.items) c.loop-at.invariant.begun (groups-count 20 xs (omega arith) ∙ sym c.requires.count) (omega (arith, test)) in
    subst (λ (l : List (Shape _)). AddsPages (form g.E.Entry.rule g.E.Entry.size g.E.Entry.entry_of g.E.Entry.key c.args.kind) l c.args.ats.now old.here.copy new.here.copy) (kids-shown c.args.level xs) (done.copy told)
