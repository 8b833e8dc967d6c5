use Rattle.std.proofs.Common.{subst, ◌∙◌, List, All, arith}
use Rattle.std.proofs.lemmas.List.{take_all}
use Rattle.ref_counts.specs.declared.table.RefChange.{RefChange}
use Rattle.ref_counts.specs.Tables.{HasKey}
use Rattle.ref_counts.proofs.ChangeLaws.{more-here}
use Rattle.ref_counts.proofs.table.add_keys.Goals as goal

pub loop-change-preserved : goal.loop-change-preserved
loop-change-preserved c = (
  c.in_ok-add_key.ensures.ascend,
  λ key. c.in_ok-add_key.ensures.keeps.same key ∙ c.loop-change.invariant.1 key,
  more-here c.loop-change.entries.items c.add_key.new.entries.items c.args.changes.now c.loop-change.change-index _ (omega arith) c.in_ok-add_key.ensures.keeps.kept c.loop-change.invariant.2 c.in_ok-add_key.ensures.has,
)

pub returns-clause-here : goal.returns-clause-here
returns-clause-here c = subst (λ (xs : List RefChange). All (λ (x : RefChange). HasKey c.loop-change.entries.items x.key) xs) (take_all c.loop-change.change-index c.args.changes.now (omega arith)) c.loop-change.invariant.2
