use Rattle.std.proofs.Common.{◌≡◌, ℕ, ◌+◌, ◌-◌, drop, sym, subst, ◌∙◌, arith}
use Rattle.pst_base.specs.declared.ids.Bid.{Bid}
use Rattle.data_tree.specs.Measure.{bytes_in}
use Rattle.data_tree.specs.Tree.{blocks_from}
use Rattle.data_tree.proofs.BlockSteps.{blocks_left, sizes-next, bytes-sum}
use Rattle.data_tree.proofs.CountSteps.{Counting, counting-next}
use Rattle.data_tree.proofs.Steps.{later-same}
use Rattle.data_tree.proofs.measure.measure_blocks.Goals as goal

pub loop-bid-preserved : goal.loop-bid-preserved
loop-bid-preserved g c =
    let zero_bid : Bid = record { bits = 0 } in
    let s = g.S.BlockSource.view c.args.s.now in
    let eof = s.eof in
    let bids = c.args.bids.now in
    let i = c.loop-bid.bid-index in
    let left = c.loop-bid.left in
    let len = c.in-Some.len in
    let test = c.loop-bid-test.true in
    let within = c.loop-bid.invariant.0 in
    let fit = c.if-len-left.false in
    let one = counting-next bytes_in s s s (eof - left) len (λ find. blocks_left find eof left (drop i bids)) (λ find. blocks_left find eof (left - len) (drop (i + 1) bids)) (λ find. blocks_from find eof 0 bids)
    bytes-sum c.loop-bid.invariant.1 (later-same s)
    (λ find h. sizes-next find eof left bids i zero_bid len (omega (arith, test)) within fit (sym (c.size.ensures find h) ∙ c.in-Some.is)) in
    let count : eof - left + len ≡ eof - (left - len) = omega (arith, within, fit) in (
      omega (arith, within),
      let at : ℕ → Type 0 = λ n. Counting bytes_in s s n (λ find. blocks_left find eof (left - len) (drop (i + 1) bids)) (λ find. blocks_from find eof 0 bids) in
          subst at count one,
    )
