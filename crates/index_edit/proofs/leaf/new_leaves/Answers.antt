use Rattle.std.proofs.Common.{◌≡◌, ◌∙◌, ◌^◌, ℕ, List, Some, arith}
use Rattle.std.proofs.lemmas.Result.{IfOk-weaker}
use Rattle.byteorder.specs.Endian.{little_bytes}
use Rattle.bth_tree.specs.Records.{ordered}
use Rattle.index_edit.specs.Edits.{CutsHalves, HoldLeaves}
use Rattle.index_edit.proofs.LeafLaws.{cut-holds, leaf-behind, leaf-first, leaf-put, ordered-parts, put-length}
use Rattle.index_edit.proofs.leaf.new_leaves.Goals as goal

pub returns-then-len-le-MOST-clause-hold : goal.returns-then-len-le-MOST-clause-hold
returns-then-len-le-MOST-clause-hold c = λ rs o.
    let s = c.span_of-span in
    leaf-put c.args.key (little_bytes 4 c.args.entry) c.args.x.now c.row.result c.in_ok-y.y.items rs s.result.from s.result.to (ordered-parts c.args.x.now rs o).0 s.ensures.span c.row.ensures.row c.in_ok-y.ensures

pub returns-then-span-x-clause-hold : goal.returns-then-span-x-clause-hold
returns-then-span-x-clause-hold c = λ rs o.
    let s = c.span_of-span in
    let h = (ordered-parts c.args.x.now rs o).0 in
    let long = c.if-len-le-MOST.false in
    let size = c.len.ensures in
    let len = put-length c.args.x.now c.row.result c.in_ok-y.y.items s.result.from s.result.to c.row.ensures.size s.ensures.order s.ensures.within c.in_ok-y.ensures in
    let first = leaf-first c.args.x.now rs h (omega (arith, len.0, size, long, s.ensures.order, s.ensures.within)) in
    (leaf-behind c.args.key (little_bytes 4 c.args.entry) c.args.x.now rs s.result.from s.result.to h s.ensures.span c.if-span-x.true, c.u32_at.ensures ∙ first.0, first.1)

pub returns-clause-hold : goal.returns-clause-hold
returns-clause-hold c =
    let s = c.span_of-span in
    IfOk-weaker c.halves.result (CutsHalves c.as_slice.result.now)
    (λ leaves. (rs : List (ℕ × List ℕ)) → ordered 4 4 0 (2 ^ 32) c.args.x.now ≡ Some rs → HoldLeaves (c.args.key, little_bytes 4 c.args.entry) rs leaves)
    (λ leaves cut rs o. cut-holds c.args.key (little_bytes 4 c.args.entry) c.as_slice.result.now rs leaves
    (leaf-put c.args.key (little_bytes 4 c.args.entry) c.args.x.now c.row.result c.as_slice.result.now rs s.result.from s.result.to (ordered-parts c.args.x.now rs o).0 s.ensures.span c.row.ensures.row (c.as_slice.ensures.value ∙ c.in_ok-y.ensures))
    cut) c.halves.ensures.cut
