use Rattle.std.proofs.Common.{◌≡◌, true, false, sym, ap, ◌∙◌}
use Rattle.data_tree.specs.Keys.{leaf_keys, led_keys, under_keys}
use Rattle.data_tree.proofs.KeySteps.{led-form, led-leaves, led-under}
use Rattle.data_tree.proofs.Steps.{reads-after, reads-alone, later-same}
use Rattle.data_tree.proofs.keys.led_keys.Goals as goal

pub returns-then-is_listing-clause-reads : goal.returns-then-is_listing-clause-reads
returns-then-is_listing-clause-reads g c =
    let listing = sym c.is_listing.ensures ∙ c.if-is_listing.true in
    reads-alone (λ keys. keys.items) (g.S.BlockSource.view c.args.s.now) (g.S.BlockSource.view c.args.s.now) (leaf_keys c.args.bid c.args.b.now)
    (λ find. led_keys find c.args.bid c.args.b.now) (λ find h. led-leaves find c.args.bid c.args.b.now listing) c.leaf_keys.result c.leaf_keys.ensures

pub returns-then-not-is_listing-clause-reads : goal.returns-then-not-is_listing-clause-reads
returns-then-not-is_listing-clause-reads g c = λ find h. led-form find c.args.bid c.args.b.now (sym c.is_listing.ensures ∙ c.if-is_listing.false) (sym c.is_listing-2.ensures ∙ c.if-not-is_listing.true)

pub returns-clause-reads : goal.returns-clause-reads
returns-clause-reads g c =
    let first = sym c.is_listing.ensures ∙ c.if-is_listing.false in
    let second = sym c.is_listing-2.ensures ∙ c.if-not-is_listing.false in
    let old = g.S.BlockSource.view c.args.s.now in
    reads-after (λ keys. keys.items) old old (g.S.BlockSource.view c.under_keys.new.s) (λ find. under_keys find c.args.bid c.as_slice.result.now) (λ find. led_keys find c.args.bid c.args.b.now) (later-same old)
    (λ find h. led-under find c.args.bid c.args.b.now first second ∙ ap (under_keys find c.args.bid) (sym (c.as_slice.ensures.value ∙ c.in_ok-names.ensures))) c.under_keys.result c.under_keys.ensures.reads
