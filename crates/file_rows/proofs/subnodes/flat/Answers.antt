use Rattle.std.proofs.Common.{◌+◌, ◌*◌, ◌%◌, List, [], length, ap, subst, sym, ◌∙◌, arith}
use Rattle.std.proofs.lemmas.List.{length_push}
use Rattle.pst_base.specs.declared.subs.Sub.{Sub}
use Rattle.pst_base.specs.Flat.{Flat}
use Rattle.subnode_tree.specs.Plan.{IsForm}
use Rattle.subnode_tree.proofs.MadeLaws.{Made, form-made, form-none, made-none, made-push, none-shallow, sub-fits}
use Rattle.file_rows.proofs.subnodes.flat.Goals as goal

pub loop-i-init : goal.loop-i-init
loop-i-init c =
    let P : List Sub → Type 0 = λ xs. Made 0 xs 33 in
    record { made = subst P (sym c.new-subs.ensures.items) (made-none 0 33); count = ap length c.new-subs.ensures.items }

pub loop-i-preserved : goal.loop-i-preserved
loop-i-preserved c =
    let inv = c.loop-i.invariant in
    let xs = c.loop-i.subs.items in
    let x = c.in_ok-next.next in
    let nid = c.in_ok-next.ensures.nid in
    let fits = sub-fits 0 (c.loop-i.i % 251) x [] c.in_ok-next.ensures.blocks c.in_ok-next.ensures.subs form-none (none-shallow 0) in
    let count = inv.count in
    let pushed = length_push xs x in
    record {
      made = rw c.in_ok-push.ensures.items (made-push 0 (33 + 32 * c.loop-i.i) (33 + 32 * (c.loop-i.i + 1)) xs x inv.made (omega arith) (omega arith) fits);
      count = rw c.in_ok-push.ensures.items (omega arith);
    }

pub returns : goal.returns
returns c =
    let P : List Flat → Type 0 = λ flats. IsForm flats in
    let count = c.loop-i.invariant.count in
    let end = c.loop-i.auto.i-end in
    let few = c.requires in
    subst P (sym c.from_vec.ensures) (form-made 0 (33 + 32 * c.loop-i.i) c.loop-i.subs.items (omega arith) (omega arith) c.loop-i.invariant.made)
