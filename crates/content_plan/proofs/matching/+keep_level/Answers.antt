use Rattle.std.proofs.Common.{◌≡◌, ◌++◌, List, length, get_or, ap, sym, subst, ◌∙◌, arith}
use Rattle.pst_base.specs.declared.subs.Sub.{Sub}
use Rattle.pst_base.specs.Flat.{Flat}
use Rattle.pst_base.specs.Subs.{flattened}
use Rattle.data_tree.proofs.PieceLaws.{all_from-each, each-from_all}
use Rattle.subnode_tree.specs.Plan.{IsForm, paired}
use Rattle.subnode_tree.proofs.FormLaws.{fewer-inner, form-inner}
use Rattle.subnode_tree.proofs.PairLaws.{Keep}
use Rattle.content_plan.proofs.KeepLaws.{PairKeeps}
use Rattle.content_plan.proofs.MatchLaws.{level-next, level-start, level-whole, one-is}
use Rattle.content_plan.proofs.matching.+keep_level.Goals as goal

pub keep_level-requires : goal.keep_level-requires
keep_level-requires t c =
    let xs = c.as_slice-sub-items.result.now in
    let x = c.sub-item.result in
    let i = c.loop-sub.sub-index in
    let fewer = fewer-inner xs i x c.loop-sub-test.true in
    let same : length x.subs ≡ length (get_or xs i x).subs = ap (λ (s : Sub). length s.subs) c.sub-item.is in
    let whole : length (flattened xs) ≡ length c.args.new.now = ap length c.as_slice-sub-items.ensures in
    let least = c.decreases in
    let form : IsForm (flattened xs) = subst (λ (l : List Flat). IsForm l) (sym c.as_slice-sub-items.ensures) c.requires.form in
    (omega (arith, fewer, same, whole, least), subst (λ (s : Sub). IsForm s.subs) (sym c.sub-item.is) (form-inner xs i x c.loop-sub-test.true form))

pub loop-sub-init : goal.loop-sub-init
loop-sub-init t c = rw c.new-keep.ensures.items (level-start c.args.next c.args.old.subs.now c.args.old.ids.now c.as_slice-sub-items.result.now c.args.new.now c.as_slice-sub-items.ensures c.requires.form)

pub loop-sub-preserved : goal.loop-sub-preserved
loop-sub-preserved t c =
    let next = c.args.next in
    let y = c.sub-item.result in
    let was = c.first_with-was.result in
    let own = c.from_vec.result in
    let deeper = c.in_ok-below.below.items in
    let one = one-is next y was.ids.now was.blocks.now c.as_slice.result.now was.below.subs.now was.below.ids.now c.in_ok-own.own.items own deeper c.in_ok-own.ensures c.as_slice.ensures.value c.from_vec.ensures
    c.in_ok-below.ensures.count (each-from_all (PairKeeps next) (paired deeper y.subs) c.in_ok-below.ensures.keeps) c.in_ok-below.ensures.kept in
    level-next next c.args.old.subs.now c.args.old.ids.now c.loop-sub.left.subs.now c.loop-sub.left.ids.now c.from_id-left.result.subs.now c.from_id-left.result.ids.now c.as_slice-sub-items.result.now c.loop-sub.sub-index y
    was.ids.now was.blocks.now was.below.subs.now was.below.ids.now own deeper c.loop-sub.keep.items c.append.new.self.items c.loop-sub-test.true c.sub-item.is
    (c.in_ok-append.ensures.items ∙ ap (λ (l : Keep). l ++ deeper) c.in_ok-push.ensures.items) c.from_id-left.ensures.passes c.from_id-left.ensures.begins c.first_with-was.ensures one c.loop-sub.invariant

pub returns : goal.returns
returns t c =
    let whole = level-whole c.args.next c.args.old.subs.now c.args.old.ids.now c.loop-sub.left.subs.now c.loop-sub.left.ids.now c.as_slice-sub-items.result.now c.loop-sub.sub-index c.loop-sub.keep.items c.args.new.now c.as_slice-sub-items.ensures c.loop-sub-test.false c.loop-sub.invariant in
    record { count = whole.0; keeps = all_from-each (PairKeeps c.args.next) (paired c.loop-sub.keep.items c.args.new.now) whole.1; kept = whole.2 }
