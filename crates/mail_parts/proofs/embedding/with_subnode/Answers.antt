use Rattle.std.proofs.Common.{◌∙◌, ap, arith, length, set, sym, List}
use Rattle.std.proofs.lemmas.Iterator.Adapters.{position_from-zero}
use Rattle.std.proofs.lemmas.List.Quantifiers.{position-Some}
use Rattle.pst_base.specs.Subs.{flattened}
use Rattle.pst_base.specs.declared.subs.Sub.{Sub}
use Rattle.mail_tree.specs.Parts.{with_subnode}
use Rattle.mail_parts.proofs.Subnodes.{has_id, none_replaced, replaced}
use Rattle.mail_parts.proofs.embedding.with_subnode.Goals as goal

pub put_at-requires : goal.put_at-requires
put_at-requires c =
    let at = position-Some (has_id c.args.node.now) c.as_slice.result.now c.in-Some.i c.args.node.now (sym c.in-Some.ensures) in
    omega (arith, at.0, ap length c.as_slice.ensures.value)

pub returns-in_ok-copy_sub-in-Some : goal.returns-in_ok-copy_sub-in-Some
returns-in_ok-copy_sub-in-Some c =
    let node = c.args.node.now in let old = c.as_slice.result.now in let i = c.in-Some.i in
    let at = position-Some (has_id node) old i node (sym c.in-Some.ensures) in
    c.from_vec.ensures ∙ ap flattened (c.put_at.ensures ∙ ap (λ (s : Sub). set c.into_vec-entries.result.items i s) c.in_ok-copy_sub-in-Some.ensures ∙ ap (λ (ss : List Sub). set ss i node) (sym c.as_slice.ensures.value))
    ∙ replaced node old i at.0 at.1 at.2 ∙ ap (λ (ss : List Sub). with_subnode node (flattened ss)) c.as_slice.ensures.value ∙ ap (with_subnode node) c.into_vec-entries.ensures

pub returns-in-None : goal.returns-in-None
returns-in-None c =
    let node = c.args.node.now in let old = c.as_slice.result.now in
    c.from_vec-in-None.ensures ∙ ap flattened (sym c.as_slice.ensures.value) ∙ none_replaced node old 0 (sym (position_from-zero (has_id node) old) ∙ sym c.in-None.ensures)
    ∙ ap (λ (ss : List Sub). with_subnode node (flattened ss)) c.as_slice.ensures.value ∙ ap (with_subnode node) c.into_vec-entries.ensures
