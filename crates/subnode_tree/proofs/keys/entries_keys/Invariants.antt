use Rattle.std.proofs.Common.{drop}
use Rattle.data_tree.proofs.Steps.{Along}
use Rattle.subnode_tree.specs.KeyReads.{entries_keys_read}
use Rattle.subnode_tree.proofs.keys.entries_keys.Given as goal

abbrev pub invariant-loop-entry : goal.invariant-loop-entry
invariant-loop-entry g l =
    Along (g.S.BlockSource.view l.initial.s) (g.S.BlockSource.view l.s) l.keys.items (λ find. entries_keys_read find (drop l.entry-index l.entries)) (λ find. entries_keys_read find l.entries)
