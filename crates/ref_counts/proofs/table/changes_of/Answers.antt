use Rattle.std.proofs.Common.{ap, ◌∙◌, ◌++◌, arith, option_to_list}
use Rattle.ref_counts.specs.declared.table.RefChange.{RefChange}
use Rattle.ref_counts.specs.Tables.{refs_in}
use Rattle.ref_counts.specs.Changes.{listed_of}
use Rattle.ref_counts.proofs.ChangeLaws.{more-listed}
use Rattle.ref_counts.proofs.table.changes_of.Goals as goal

pub loop-entry-preserved : goal.loop-entry-preserved
loop-entry-preserved c =
    more-listed (refs_in c.args.refs.now) (refs_in c.args.taken.now) (refs_in c.args.put.now) c.args.touched.now c.loop-entry.entry-index (0, 0) c.loop-entry.changes.items c.list_change.new.changes.items c.requires.touched (omega arith) c.loop-entry.invariant
    (c.in_ok-list_change.ensures ∙ ap (λ (x : RefChange). c.loop-entry.changes.items ++ option_to_list (listed_of x)) c.in_ok-change.ensures)
