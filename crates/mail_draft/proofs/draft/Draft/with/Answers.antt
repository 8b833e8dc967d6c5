use Rattle.std.proofs.Common.{◌≡◌, true, Option, ap, sym, subst}
use Rattle.mail_objects.specs.declared.object.Object.{Object}
use Rattle.mail_tree.specs.Changing.{Changed}
use Rattle.std.specs.Ordering.{nat_cmp}
use Rattle.std.specs.FinMap as map
use Rattle.mail_draft.specs.Placed.{are_placed}
use Rattle.mail_draft.proofs.DraftLaws.{entry_put, put_placed}
use Rattle.mail_draft.proofs.draft.Draft.with.Goals as goal

pub invariant_of-result : goal.invariant_of-result
invariant_of-result c = record {
  placed = subst (λ es. are_placed es ≡ true) (sym c.in_ok-_replaced.ensures.entries)
      (put_placed c.args.nid.bits c.args.object c.args.self.objects.entries c.requires c.args.self.placed);
}

pub returns : goal.returns
returns c =
    let changed : map.FinMap nat_cmp (Option Object) → Changed = λ objects. record { objects = objects } in
    ap changed (entry_put c.args.nid.bits c.args.object c.args.self.objects.entries c.insert.new.self.entries c.in_ok-_replaced.ensures.updates.0)
