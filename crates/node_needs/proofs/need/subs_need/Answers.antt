use Rattle.std.proofs.Common.{◌∙◌, ℕ, List, Option, sym, subst, arith}
use Rattle.std.proofs.lemmas.Result.{err_from_is_err_and}
use Rattle.pst_base.specs.declared.ids.Bid.{Bid}
use Rattle.node_needs.specs.Named.{EachNamed}
use Rattle.node_needs.proofs.NamedLaws.{named-count, same-ids, subs-named}
use Rattle.node_needs.proofs.StopLaws.{bids-stop}
use Rattle.node_needs.proofs.need.subs_need.Goals as goal

pub returns-in_err-all-clause-stops : goal.returns-in_err-all-clause-stops
returns-in_err-all-clause-stops g c =
    let p = err_from_is_err_and c.from_residual.result c.from_residual.ensures.1 in
    rw (p.1, p.2) (bids-stop c.in_err-all.field-0.0 (g.S.BlockSource.view c.args.s.now) (g.S.BlockSource.view c.read_sub_bids.new.s) c.args.bid c.in_err-all.ensures.reads)

pub returns-then-many-limit-clause-stops : goal.returns-then-many-limit-clause-stops
returns-then-many-limit-clause-stops g c = λ find fs holds reads.
    let s = g.S.BlockSource.view c.args.s.now in
    let named = subs-named find s.eof c.args.bid fs reads in
    let same = same-ids named.are (c.in_ok-all.ensures.reads find holds) in
    let count = named-count find s.eof c.in_ok-all.all.items fs (subst (λ (l : List (List (Option Bid))). EachNamed find s.eof l fs) same named.named) in
    let few = named.few in
    let many = c.if-many-limit.true in
    let len = c.len-many.ensures in
    let limit = c.limit.ensures in
    let eof = c.in_ok-all.ensures.later.eof in
    omega (arith, count, few, many, len, limit, eof)

pub returns-in_default-clause-stops : goal.returns-in_default-clause-stops
returns-in_default-clause-stops g c = λ find fs holds reads.
    let s = g.S.BlockSource.view c.args.s.now in
    let new = g.S.BlockSource.view c.read_sub_bids.new.s in
    let named = subs-named find s.eof c.args.bid fs reads in
    let same = same-ids named.are (c.in_ok-all.ensures.reads find holds) ∙ sym c.as_slice.ensures.value in
    let later = c.in_ok-all.ensures.later in
    let own : EachNamed find new.eof c.as_slice.result.now fs = subst (λ (n : ℕ). EachNamed find n c.as_slice.result.now fs) (sym later.eof) (subst (λ (l : List (List (Option Bid))). EachNamed find s.eof l fs) same named.named) in
    c.in_default.ensures.none find fs (later.told find holds) own

pub returns-clause-need : goal.returns-clause-need
returns-clause-need g c = λ find fs holds reads.
    let s = g.S.BlockSource.view c.args.s.now in
    let new = g.S.BlockSource.view c.read_sub_bids.new.s in
    let named = subs-named find s.eof c.args.bid fs reads in
    let ids = same-ids named.are (c.in_ok-all.ensures.reads find holds) in
    let same = ids ∙ sym c.as_slice.ensures.value in
    let later = c.in_ok-all.ensures.later in
    let own : EachNamed find new.eof c.as_slice.result.now fs = subst (λ (n : ℕ). EachNamed find n c.as_slice.result.now fs) (sym later.eof) (subst (λ (l : List (List (Option Bid))). EachNamed find s.eof l fs) same named.named) in
    let most = c.in-Some.ensures.some find fs (later.told find holds) own in
    let count = named-count find s.eof c.in_ok-all.all.items fs (subst (λ (l : List (List (Option Bid))). EachNamed find s.eof l fs) ids named.named) in
    let len = c.len-many.ensures in
    let max = c.max.ensures in
    omega (arith, most, count, len, max)
