use Rattle.std.proofs.Common.{◌≡◌, ◌∙◌, true, Option, ap, sym, subst}
use Rattle.std.specs.Cmp.{nat_cmp_total}
use Rattle.std.specs.FinMap as map
use Rattle.std.specs.Ordering.{nat_cmp}
use Rattle.mail_objects.specs.declared.object.Object.{Object}
use Rattle.mail_tree.specs.Changing.{Changed}
use Rattle.mail_draft.specs.Placed.{are_placed}
use Rattle.mail_draft.proofs.DraftLaws.{found_is, put_again, rest_placed}
use Rattle.mail_draft.proofs.draft.Draft.take.Goals as goal

pub invariant_of-result : goal.invariant_of-result
invariant_of-result c = record {
  placed = subst (λ es. are_placed es ≡ true) (sym c.remove-taken.ensures.entries) (rest_placed c.args.nid.bits c.args.self.objects.entries c.args.self.placed);
}

pub returns-clause-rest : goal.returns-clause-rest
returns-clause-rest c = λ object.
    let changed : map.FinMap nat_cmp (Option Object) → Changed = λ objects. record { objects = objects } in
    ap changed (put_again c.args.nid.bits object c.args.self.objects.entries c.remove-taken.new.self.entries c.remove-taken.ensures.updates.0)

pub returns-clause-taken : goal.returns-clause-taken
returns-clause-taken c = c.remove-taken.ensures.value ∙ found_is c.args.nid.bits c.args.self.objects.entries ∙ sym (map.get-from_entries nat_cmp_total c.args.self.objects.entries c.args.nid.bits)
