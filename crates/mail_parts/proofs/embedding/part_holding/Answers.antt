use Rattle.std.proofs.lemmas.Bool.{and_from, and_parts}
use Rattle.node_values.specs.Subnodes.{ids_ascend}
use Rattle.mail_tree.specs.Parts.{with_subnode}
use Rattle.mail_parts.proofs.Subnodes.{with_ascends}
use Rattle.mail_parts.proofs.embedding.part_holding.Goals as goal

pub returns-clause-formed : goal.returns-clause-formed
returns-clause-formed c =
    let parts = and_parts (ids_ascend 0 c.args.part.kept) _ c.requires in
    rw c.in_ok-with_subnode.ensures (and_from (ids_ascend 0 (with_subnode c.args.node.now c.args.part.kept)) _ (with_ascends c.args.node.now 0 c.args.part.kept parts.0) parts.1)
