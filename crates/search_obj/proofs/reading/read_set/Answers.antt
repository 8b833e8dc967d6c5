use Rattle.std.proofs.Common.{map, arith, sym}
use Rattle.std.proofs.lemmas.List.{length-map}
use Rattle.pst_base.specs.declared.ids.Nid.{Nid}
use Rattle.search_obj.proofs.FoundLaws.{allowed_found, says_set}
use Rattle.search_obj.proofs.reading.read_set.Goals as goal

pub invariant_of-result : goal.invariant_of-result
invariant_of-result c =
    let len = length-map c.in-Some-2.scope.items (λ (n : Nid). n.bits) in
    let fits = rw c.in-Some-2.is at c.in_ok-scope.ensures.fits in
    record {
      allowed = allowed_found c.args.props.now c.in-Some.flags (sym c.in-Some.ensures);
      scope_fits = omega (arith, len, fits);
      spelled = rw c.in-Some-3.is at c.in_ok-restriction.ensures.spelled;
      restriction_fits = rw c.in-Some-3.is at c.in_ok-restriction.ensures.fits;
      builds_fit = c.in-Some-builds_at.ensures.fit;
    }

pub returns-clause-sound : goal.returns-clause-sound
returns-clause-sound c = invariant_of-result c

pub returns-clause-says : goal.returns-clause-says
returns-clause-says c =
    says_set c.args.version c.args.props.now c.in-Some.flags (map (λ (n : Nid). n.bits) c.in-Some-2.scope.items) c.in-Some-3.restriction c.in-Some-builds_at.builds (sym c.in-Some.ensures)
    (sym (rw c.in-Some-2.is at c.in_ok-scope.ensures.scope)) (rw c.in-Some-3.is at c.in_ok-restriction.ensures.bytes) (sym c.in-Some-builds_at.ensures.builds)
