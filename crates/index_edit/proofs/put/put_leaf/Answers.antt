use Rattle.index_edit.proofs.put.put_leaf.Goals as goal

pub returns-in-Ok-add_leaves-clause-adds : goal.returns-in-Ok-add_leaves-clause-adds
returns-in-Ok-add_leaves-clause-adds g c = λ was get told rs h. c.in-Ok-add_leaves.ensures.adds was get told rs h (c.in-Ok.ensures.hold was get told rs h)
