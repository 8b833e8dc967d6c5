use Rattle.std.proofs.Common.{◌≡◌, ◌≤◌, ◌++◌, ◌∷◌, ◌∙◌, [], Some, length, sym, ap, length-append, arith}
use Rattle.std.proofs.lemmas.List.{append-nil}
use Rattle.std.proofs.lemmas.Result.{IfOk-weaker}
use Rattle.bth_tree.specs.Records.{whole}
use Rattle.index_edit.specs.Pairs.{pair_of, pairs_of}
use Rattle.index_edit.specs.declared.pairs.Pairs.{Pairs}
use Rattle.index_edit.proofs.RowLaws.{whole-append}
use Rattle.index_edit.proofs.pairs.spell.Goals as goal

pub returns-in-Single-clause-pairs : goal.returns-in-Single-clause-pairs
returns-in-Single-clause-pairs c =
    IfOk-weaker c.both.result (λ z. z.items ≡ c.row.result ++ []) (λ z. whole 4 4 z.items ≡ Some (pairs_of c.args.pairs))
    (λ z is. ap (whole 4 4) (is ∙ append-nil c.row.result) ∙ c.row.ensures.row ∙ ap (λ (ps : Pairs). Some (pairs_of ps)) (sym c.in-Single.is)) c.both.ensures

pub returns-in-Single-clause-low : goal.returns-in-Single-clause-low
returns-in-Single-clause-low c =
    IfOk-weaker c.both.result (λ z. z.items ≡ c.row.result ++ []) (λ z. 8 ≤ length z.items) (λ z is. omega (arith, ap length is, length-append c.row.result [], c.row.ensures.size)) c.both.ensures

pub returns-in-Single-clause-high : goal.returns-in-Single-clause-high
returns-in-Single-clause-high c =
    IfOk-weaker c.both.result (λ z. z.items ≡ c.row.result ++ []) (λ z. length z.items ≤ 16) (λ z is. omega (arith, ap length is, length-append c.row.result [], c.row.ensures.size)) c.both.ensures

pub returns-in-Double-clause-pairs : goal.returns-in-Double-clause-pairs
returns-in-Double-clause-pairs c =
    IfOk-weaker c.both-in-Double.result (λ z. z.items ≡ c.row-in-Double.result ++ c.row-in-Double-2.result) (λ z. whole 4 4 z.items ≡ Some (pairs_of c.args.pairs))
    (λ z is. ap (whole 4 4) is ∙ whole-append c.row-in-Double.result c.row-in-Double-2.result (pair_of c.in-Double.p ∷ []) (pair_of c.in-Double.q ∷ []) c.row-in-Double.ensures.row c.row-in-Double-2.ensures.row
    ∙ ap (λ (ps : Pairs). Some (pairs_of ps)) (sym c.in-Double.is)) c.both-in-Double.ensures
