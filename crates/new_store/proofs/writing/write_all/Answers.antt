use Rattle.std.proofs.Common.{◌≡◌, ◌∙◌, ◌++◌, ◌∷◌, [], true, ap, refl, sym, subst, take}
use Rattle.std.proofs.lemmas.Bool.{and_parts}
use Rattle.std.proofs.lemmas.List.{take_more}
use Rattle.new_store.specs.Entries.{AreNodesOf, can_write, entry_fits, stands_here}
use Rattle.new_store.proofs.EntryLaws.{one-can, one_node_more}
use Rattle.new_store.proofs.writing.write_all.Goals as goal

pub write_entry-requires : goal.write_entry-requires
write_entry-requires c =
    let e = c.entry-item.result in
    let can : can_write e ≡ true = ap can_write c.entry-item.is ∙ one-can c.args.entries.now c.loop-entry.entry-index e c.requires c.loop-entry-test.true in
    (and_parts (entry_fits e.1) (stands_here (e.0).bits e.1) can).0

pub loop-entry-preserved : goal.loop-entry-preserved
loop-entry-preserved c =
    let e = c.entry-item.result in
    let es = c.args.entries.now in
    let before = take c.loop-entry.entry-index es in
    let can : can_write e ≡ true = ap can_write c.entry-item.is ∙ one-can es c.loop-entry.entry-index e c.requires c.loop-entry-test.true in
    let stands : stands_here (e.0).bits e.1 ≡ true = (and_parts (entry_fits e.1) (stands_here (e.0).bits e.1) can).1 in
    let more : AreNodesOf (before ++ e ∷ []) c.push.new.self.items =
    subst (AreNodesOf (before ++ e ∷ [])) (sym c.in_ok-push.ensures.items)
    (one_node_more before c.loop-entry.nodes.items e _ c.loop-entry.invariant refl (c.in_ok-node.node, refl, c.in_ok-node.ensures (e.0).bits stands)) in
    subst (λ xs. AreNodesOf xs c.push.new.self.items)
    (ap (λ x. before ++ x ∷ []) c.entry-item.is ∙ sym (take_more es c.loop-entry.entry-index e c.loop-entry-test.true)) more
