use Rattle.std.proofs.Common.{◌∙◌, ℕ, ap, arith}
use Rattle.std.proofs.lemmas.Result.{err_from_is_err_and}
use Rattle.subnode_tree.specs.Subnodes.{subs_of}
use Rattle.node_needs.proofs.StopLaws.{data-stop, node-parts, same-len, subs-stop}
use Rattle.node_needs.proofs.need.node_need.Goals as goal

pub returns-in_err-own-clause-stops : goal.returns-in_err-own-clause-stops
returns-in_err-own-clause-stops g c =
    let p = err_from_is_err_and c.from_residual.result c.from_residual.ensures.1 in
    rw (p.1, p.2) (data-stop c.in_err-own.field-0.0 (g.S.BlockSource.view c.args.s.now) (g.S.BlockSource.view c.measure_data.new.s) c.args.entry c.in_err-own.ensures.reads)

pub returns-in_err-subs-clause-stops : goal.returns-in_err-subs-clause-stops
returns-in_err-subs-clause-stops g c =
    let p = err_from_is_err_and c.from_residual-in_err-subs.result c.from_residual-in_err-subs.ensures.1 in
    rw (p.1, p.2) (subs-stop c.in_err-subs.field-0.0 (g.S.BlockSource.view c.args.s.now) (g.S.BlockSource.view c.measure_data.new.s) (g.S.BlockSource.view c.subs_need.new.s) c.args.entry c.in_ok-own.ensures.later c.in_err-subs.ensures.stops)

pub returns-clause-need : goal.returns-clause-need
returns-clause-need g c = λ find n holds is.
    let s = g.S.BlockSource.view c.args.s.now in
    let parts = node-parts find s.eof c.args.entry n is in
    let own = same-len parts.own (c.in_ok-own.ensures.reads find holds) in
    let later = c.in_ok-own.ensures.later in
    let there = ap (λ (e : ℕ). subs_of find e c.args.entry.subnodes) later.eof ∙ parts.subs in
    let subs = c.in_ok-subs.ensures.need find n.subs (later.told find holds) there in
    let max = c.max.ensures in
    omega (arith, own, subs, max)
