use Rattle.std.proofs.Common.{ap, arith, map, refl, ◌∙◌}
use Rattle.mapi_values.proofs.KeyedLaws.{put-ascends}
use Rattle.pst_base.specs.declared.ids.Nid.{Nid}
use Rattle.search_obj.specs.Crits.{CritSet}
use Rattle.search_obj.specs.Scope.{member_id}
use Rattle.search_obj.proofs.ScopeLaws.{place_left, place_put, taken_is}
use Rattle.search_obj.proofs.scoping.members_in_scope.Goals as goal
use Rattle.search_obj.proofs.scoping.members_in_scope.Goals.{then-is_taken+in_ok-put_keyed, else-is_taken}

pub loop-place-preserved : goal.loop-place-preserved
loop-place-preserved c =
    let test = taken_is _ _ _ _ _ _ _ _ _ _ c.is_taken.result (ap (λ (s : CritSet). s.flags.recursive) c.set.view_is)
    (ap (map (λ (n : Nid). n.bits)) c.as_slice.ensures.value ∙ ap (λ (s : CritSet). s.scope) c.set.view_is)
    c.as_slice-in-loop-place.ensures.value c.as_slice-in-loop-place-2.ensures.value c.in_ok-given.ensures.exact c.is_taken.ensures in
    elim c.if-is_taken.branch [
      | then-is_taken+in_ok-put_keyed w ↦ rw (w.members-is, w.in_ok-put_keyed.ensures.ok) (record {
        ascend = put-ascends member_id 0 _ c.loop-place.members.items (omega arith) c.loop-place.invariant.ascend;
        exact = place_put c.args.set.now.flags.recursive c.args.set.now.scope c.args.plain.now c.loop-place.place-index _ _ _ _ c.loop-place.members.items (omega arith) c.loop-place-test.true
            refl refl c.loop-place.invariant.exact (test ∙ w.if-is_taken.true);
      })
      | else-is_taken w ↦ rw w.members-is (record {
        ascend = c.loop-place.invariant.ascend;
        exact = place_left c.args.set.now.flags.recursive c.args.set.now.scope c.args.plain.now c.loop-place.place-index _ _ _ c.loop-place.members.items (omega arith) c.loop-place-test.true
            refl c.loop-place.invariant.exact (test ∙ w.if-is_taken.false);
      })
    ]
