use Rattle.std.proofs.Common.{◌∙◌}
use Rattle.file_laying.proofs.LayingLaws.{none_there, ok_so, ok_then, rose_since}
use Rattle.file_laying.proofs.lay.lay_nodes.Goals as goal

pub returns-clause-made : goal.returns-clause-made
returns-clause-made g c = ok_then c.put_nodes.result _ _ (λ made tells. record {
  empty = (g.W.Outside.view c.lay_empty.new.w).here;
  found = c.in_ok-found.found;
  is = c.in_ok-found.ensures.laid (c.put_nodes.ensures.told tells);
  becomes_it = made tells;
}) c.put_nodes.ensures.made

pub returns-clause-rests : goal.returns-clause-rests
returns-clause-rests g c = λ settled. c.put_nodes.ensures.rests (c.in_ok-found.ensures.settled settled)

pub returns-clause-said : goal.returns-clause-said
returns-clause-said g c = λ settled tells. c.put_nodes.ensures.said (c.in_ok-found.ensures.settled settled) tells ∙ c.in_ok-found.ensures.said (c.put_nodes.ensures.told tells)

pub returns-clause-empty : goal.returns-clause-empty
returns-clause-empty g c = ok_so c.put_nodes.result _ c.in_ok-found.ensures.empty

pub returns-clause-kept : goal.returns-clause-kept
returns-clause-kept g c = λ told has. absurd (none_there (g.W.Outside.view c.args.w.now).here (c.in_ok-found.ensures.empty told) has)

pub returns-clause-fault : goal.returns-clause-fault
returns-clause-fault g c = λ is. rose_since (g.W.Outside.view c.args.w.now).disk_faults (g.W.Outside.view c.lay_empty.new.w).disk_faults (g.W.Outside.view c.put_nodes.new.w).disk_faults c.in_ok-found.ensures.counts.disk_faults (c.put_nodes.ensures.fault is)

pub returns-clause-plan_fault : goal.returns-clause-plan_fault
returns-clause-plan_fault g c = λ is. rose_since (g.W.Outside.view c.args.w.now).disk_faults (g.W.Outside.view c.lay_empty.new.w).disk_faults (g.W.Outside.view c.put_nodes.new.w).disk_faults c.in_ok-found.ensures.counts.disk_faults (c.put_nodes.ensures.plan_fault is)

pub returns-clause-told : goal.returns-clause-told
returns-clause-told g c = λ t. c.in_ok-found.ensures.told (c.put_nodes.ensures.told t)

pub returns-clause-input : goal.returns-clause-input
returns-clause-input g c = λ t. c.put_nodes.ensures.input t ∙ c.in_ok-found.ensures.input (c.put_nodes.ensures.told t)
