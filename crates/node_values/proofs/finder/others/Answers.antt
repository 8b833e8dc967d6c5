use Rattle.std.proofs.Common.{◌≡◌, ◌∙◌, ◌++◌, ◌∷◌, [], List, sym, ap, arith}
use Rattle.std.specs.Ordering.{nat_cmp}
use Rattle.std.specs.BTreeSet.{contains}
use Rattle.pst_base.specs.Flat.{Flat}
use Rattle.pst_base.specs.Subs.{flattened}
use Rattle.pst_base.specs.declared.subs.Sub.{Sub}
use Rattle.node_values.proofs.SubLaws.{without-goes, without-stays}
use Rattle.node_values.proofs.finder.others.Goals.{then-not-contains+in_ok-copy_sub+in_ok-push, else-not-contains}
use Rattle.node_values.proofs.finder.others.Goals as goal

pub loop-sub-preserved : goal.loop-sub-preserved
loop-sub-preserved c = elim c.if-not-contains.branch [
  | then-not-contains+in_ok-copy_sub+in_ok-push w ↦
      let pushed : w.push.new.self.items ≡ c.loop-sub.out.items ++ c.sub-item.result ∷ [] =
      w.in_ok-push.ensures.items ∙ ap (λ (s : Sub). c.loop-sub.out.items ++ s ∷ []) w.in_ok-copy_sub.ensures in
      rw (w.out-is, pushed)
      (without-stays (contains nat_cmp c.args.ids.now) c.loop-sub.sub-index c.args.subs.now c.loop-sub.out.items c.sub-item.result c.sub-item.result (omega arith) c.sub-item.is
      (sym c.contains.ensures ∙ w.if-not-contains.true) ∙ c.loop-sub.invariant)
  | else-not-contains w ↦
      rw w.out-is
      (ap (λ (fs : List Flat). flattened c.loop-sub.out.items ++ fs)
      (without-goes (contains nat_cmp c.args.ids.now) c.loop-sub.sub-index c.args.subs.now c.sub-item.result c.sub-item.result (omega arith) c.sub-item.is
      (sym c.contains.ensures ∙ w.if-not-contains.false)) ∙ c.loop-sub.invariant)
]
