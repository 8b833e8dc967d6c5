use Rattle.data_tree.proofs.Steps.{later-same, reads-after}
use Rattle.subnode_tree.specs.KeyReads.{sub_keys_read, walked_keys}
use Rattle.subnode_tree.proofs.WalkLaws.{walk-keys}
use Rattle.subnode_tree.proofs.keys.read_sub_keys.Goals as goal

pub returns-clause-reads : goal.returns-clause-reads
returns-clause-reads g c =
    let old = g.S.BlockSource.view c.args.s.now in
    reads-after (λ keys. keys.items) old old (g.S.BlockSource.view c.walked_keys.new.s) (λ find. walked_keys find old.eof c.args.bid) (λ find. sub_keys_read find old.eof c.args.bid) (later-same old)
    (λ find h. walk-keys find old.eof c.args.bid) c.walked_keys.result c.walked_keys.ensures.reads
