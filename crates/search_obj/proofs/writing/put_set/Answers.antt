use Rattle.std.proofs.Common.{ap, arith, length, map}
use Rattle.pst_base.specs.declared.ids.Nid.{Nid}
use Rattle.search_obj.proofs.ValueLaws.{binary_fits}
use Rattle.search_obj.proofs.WriteLaws.{length_ids}
use Rattle.search_obj.proofs.writing.put_set.Goals as goal

pub put_bytes-requires : goal.put_bytes-requires
put_bytes-requires c =
    let ids = map (λ (n : Nid). n.bits) c.as_slice.result.now in
    let given = ap length c.from_vec.ensures in
    let bytes = ap length c.in_ok-scope.ensures.bytes in
    let whole = ap (λ ns. length (map (λ (n : Nid). n.bits) ns)) c.as_slice.ensures.value in
    binary_fits _ (omega (arith, given, bytes, length_ids ids, whole, c.set.invariant.scope_fits))

pub put_bytes-requires-2 : goal.put_bytes-requires-2
put_bytes-requires-2 c =
    let bytes = ap length c.in_ok-restriction.ensures in
    binary_fits _ (omega (arith, bytes, c.set.invariant.restriction_fits))
