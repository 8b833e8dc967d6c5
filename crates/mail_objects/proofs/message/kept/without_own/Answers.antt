use Rattle.std.proofs.Common.{◌∙◌, false, sym}
use Rattle.std.specs.Vec.Iter.{into_iter_items}
use Rattle.mapi_values.specs.Messages.{is_own}
use Rattle.node_values.specs.Subnodes.{without}
use Rattle.mail_objects.proofs.KeptLaws.{one-goes, one-stays}
use Rattle.mail_objects.proofs.message.kept.without_own.Goals as goal

pub loop-sub-preserved-in-Continue-branch-2 : goal.loop-sub-preserved-in-Continue-branch-2
loop-sub-preserved-in-Continue-branch-2 c = record {
  can_next = tt;
  is_finite = tt;
  so_far = rw c.in_ok-push.ensures.items
      (one-stays (is_own c.args.parts.now) c.loop-sub.kept.items (into_iter_items c.loop-sub.sub-iterator) (into_iter_items c.next.new.self) c.in-Some.sub (without (is_own c.args.parts.now) false c.args.rest) c.in-Some.ensures.steps.0
      (sym (c.in_ok-own.ensures c.in-Some.sub.nid.bits) ∙ sym c.contains.ensures ∙ c.if-not-contains.true) c.loop-sub.invariant.so_far);
}

pub loop-sub-preserved : goal.loop-sub-preserved
loop-sub-preserved c = record {
  can_next = tt;
  is_finite = tt;
  so_far = one-goes (is_own c.args.parts.now) c.loop-sub.kept.items (into_iter_items c.loop-sub.sub-iterator) (into_iter_items c.next.new.self) c.in-Some.sub (without (is_own c.args.parts.now) false c.args.rest) c.in-Some.ensures.steps.0
      (sym (c.in_ok-own.ensures c.in-Some.sub.nid.bits) ∙ sym c.contains.ensures ∙ c.if-not-contains.false) c.loop-sub.invariant.so_far;
}
