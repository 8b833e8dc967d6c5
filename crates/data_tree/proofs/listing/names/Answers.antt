use Rattle.std.proofs.Common.{◌≡◌, ℕ, ◌+◌, ◌-◌, ◌*◌, ◌++◌, [], ◌∷◌, List, drop, ap, ◌∙◌, arith}
use Rattle.pst_base.specs.declared.ids.Bid.{Bid}
use Rattle.pst_base.specs.Fields.{number_at}
use Rattle.data_tree.specs.Tree.{ids}
use Rattle.data_tree.proofs.ListingLaws.{is_laid_out, names-start, names-next}
use Rattle.data_tree.proofs.listing.names.Goals as goal

pub u16_at-requires : goal.u16_at-requires
u16_at-requires c = let begins = (is_laid_out c.args.level c.args.b.now c.requires).begins in omega (arith, begins)

pub u64_at-requires : goal.u64_at-requires
u64_at-requires c =
    let ends = (is_laid_out c.args.level c.args.b.now c.requires).ends in
    let count = c.u16_at.ensures in
    let same = c.from-count.ensures in
    let test = c.loop-i-test.true in
    omega (arith, ends, count, same, test)

pub loop-i-init : goal.loop-i-init
loop-i-init c =
    let empty = c.in_ok-bids.ensures.items in
    ap (λ (bids : List Bid). bids ++ ids (number_at 2 2 c.args.b.now - 0) (drop (8 + 8 * 0) c.args.b.now)) empty ∙ names-start c.args.b.now

pub loop-i-preserved : goal.loop-i-preserved
loop-i-preserved c =
    let count = c.u16_at.ensures in
    let same = c.from-count.ensures in
    let test = c.loop-i-test.true in
    let b = c.args.b.now in
    let pushed : c.push.new.self.items ≡ c.loop-i.bids.items ++ record { bits = number_at 8 (8 + 8 * c.loop-i.i) b } ∷ [] =
    c.in_ok-push.ensures.items ∙ ap (λ (n : ℕ). c.loop-i.bids.items ++ record { bits = n } ∷ []) c.u64_at.ensures in
    ap (λ (bids : List Bid). bids ++ ids (number_at 2 2 b - (c.loop-i.i + 1)) (drop (8 + 8 * (c.loop-i.i + 1)) b)) pushed
    ∙ names-next c.loop-i.bids.items c.loop-i.i b (omega (arith, count, same, test)) c.loop-i.invariant
