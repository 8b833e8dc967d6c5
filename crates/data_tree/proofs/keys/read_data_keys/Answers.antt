use Rattle.std.proofs.Common.{◌≡◌, ℕ, List, [], ◌∷◌, ◌++◌, Ok, sym, ap, ◌∙◌}
use Rattle.pst_base.specs.Ids.{key_of}
use Rattle.data_tree.specs.Keys.{data_keys_read, marked_keys}
use Rattle.data_tree.proofs.KeySteps.{keys-marked, keys-none, keys-plain}
use Rattle.data_tree.proofs.Steps.{reads-after, later-same}
use Rattle.data_tree.proofs.keys.read_data_keys.Goals as goal

pub returns-then-bid-eq0-clause-reads : goal.returns-then-bid-eq0-clause-reads
returns-then-bid-eq0-clause-reads g c = λ find h. keys-none find c.args.bid c.if-bid-eq0.true ∙ ap Ok (sym c.new-keys.ensures.items)

pub returns-then-not-is_internal-clause-reads : goal.returns-then-not-is_internal-clause-reads
returns-then-not-is_internal-clause-reads g c = λ find h.
    let pushed : c.push.new.self.items ≡ key_of c.args.bid.bits ∷ [] = c.in_ok-push.ensures.items ∙ ap (λ (l : List ℕ). l ++ c.key.result ∷ []) c.new-keys.ensures.items ∙ ap (λ (n : ℕ). n ∷ []) c.key.ensures in
    keys-plain find c.args.bid c.if-bid-eq0.false (sym c.is_internal.ensures ∙ c.if-not-is_internal.true) ∙ ap Ok (sym pushed)

pub returns-clause-reads : goal.returns-clause-reads
returns-clause-reads g c =
    let old = g.S.BlockSource.view c.args.s.now in
    reads-after (λ keys. keys.items) old old (g.S.BlockSource.view c.marked_keys.new.s) (λ find. marked_keys find c.args.bid) (λ find. data_keys_read find c.args.bid) (later-same old)
    (λ find h. keys-marked find c.args.bid c.if-bid-eq0.false (sym c.is_internal.ensures ∙ c.if-not-is_internal.false)) c.marked_keys.result c.marked_keys.ensures.reads
