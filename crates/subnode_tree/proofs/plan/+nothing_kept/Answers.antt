use Rattle.std.proofs.Common.{◌≡◌, ◌+◌, List, [], ◌∷◌, ◌++◌, take, length, get_or, sym, ap, ◌∙◌, arith, Option}
use Rattle.std.proofs.lemmas.List.{take_more}
use Rattle.pst_base.specs.declared.ids.Bid.{Bid}
use Rattle.pst_base.specs.declared.subs.Sub.{Sub}
use Rattle.pst_base.specs.Subs.{flattened}
use Rattle.subnode_tree.specs.Plan.{nothing}
use Rattle.subnode_tree.proofs.FormLaws.{fewer-inner}
use Rattle.subnode_tree.proofs.PairLaws.{Keep, nothing-more}
use Rattle.subnode_tree.proofs.plan.+nothing_kept.Goals as goal

pub nothing_kept-requires : goal.nothing_kept-requires
nothing_kept-requires t c =
    let xs = c.as_slice-sub-items.result.now in
    let x = c.sub-item.result in
    let i = c.loop-sub.sub-index in
    let fewer = fewer-inner xs i x c.loop-sub-test.true in
    let same : length x.subs ≡ length (get_or xs i x).subs = ap (λ (s : Sub). length s.subs) c.sub-item.is in
    let whole : length (flattened xs) ≡ length c.args.s.now = ap length c.as_slice-sub-items.ensures in
    let least = c.decreases in
    (omega (arith, fewer, same, whole, least), tt)

pub loop-sub-preserved : goal.loop-sub-preserved
loop-sub-preserved t c =
    let xs = c.as_slice-sub-items.result.now in
    let x = c.sub-item.result in
    let i = c.loop-sub.sub-index in
    let e : take i xs ++ x ∷ [] ≡ take (i + 1) xs = ap (λ (y : Sub). take i xs ++ y ∷ []) c.sub-item.is ∙ sym (take_more xs i x c.loop-sub-test.true) in
    let pushed : c.push.new.self.items ≡ c.loop-sub.keep.items ++ [] ∷ [] = c.in_ok-push.ensures.items ∙ ap (λ (own : List (Option Bid)). c.loop-sub.keep.items ++ own ∷ []) c.new.ensures in
    let made : c.append.new.self.items ≡ (c.loop-sub.keep.items ++ [] ∷ []) ++ c.in_ok-below.below.items = c.in_ok-append.ensures.items ∙ ap (λ (l : Keep). l ++ c.in_ok-below.below.items) pushed in
    nothing-more c.loop-sub.keep.items c.in_ok-below.below.items c.append.new.self.items (take i xs) x c.loop-sub.invariant c.in_ok-below.ensures made
    ∙ ap (λ (ys : List Sub). nothing (length (flattened ys))) e
