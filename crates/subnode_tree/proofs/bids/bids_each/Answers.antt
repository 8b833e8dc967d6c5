use Rattle.std.proofs.Common.{◌+◌, List, [], ◌∷◌, Option, drop, get_or, sym, subst}
use Rattle.std.proofs.lemmas.Result.{err_from_is_err_and}
use Rattle.pst_base.specs.declared.ids.Bid.{Bid}
use Rattle.data_tree.proofs.Steps.{Along, along-next, along-stop}
use Rattle.subnode_tree.specs.declared.blocks.SubEntry.{SubEntry}
use Rattle.subnode_tree.specs.Bids.{bids_each, entry_bids}
use Rattle.subnode_tree.proofs.BidSteps.{bids-next, bids-stop}
use Rattle.subnode_tree.proofs.bids.bids_each.Goals as goal

abbrev no_entry : SubEntry
no_entry = record { level = 0; nid = record { bits = 0 }; content = record { bits = 0 }; subnodes = record { bits = 0 } }

pub returns-in_err-here-clause-reads : goal.returns-in_err-here-clause-reads
returns-in_err-here-clause-reads g c =
    let es = c.args.entries.now in
    let i = c.loop-entry.entry-index in
    let p = err_from_is_err_and c.from_residual.result c.from_residual.ensures.1 in
    rw (p.1, p.2) (along-stop (g.S.BlockSource.view c.args.s.now) (g.S.BlockSource.view c.loop-entry.s) (g.S.BlockSource.view c.entry_bids.new.s) c.loop-entry.all.items
    (λ find. entry_bids find (get_or es i no_entry)) (λ find. bids_each find (drop i es)) (λ find. bids_each find es)
    c.loop-entry.invariant (λ find h fault e. bids-stop find es i no_entry fault c.loop-entry-test.true e) c.in_err-here.field-0.0 c.in_err-here.ensures.reads)

pub loop-entry-preserved : goal.loop-entry-preserved
loop-entry-preserved g c =
    let es = c.args.entries.now in
    let i = c.loop-entry.entry-index in
    let out = c.loop-entry.all.items in
    let old = g.S.BlockSource.view c.args.s.now in
    let new = g.S.BlockSource.view c.entry_bids.new.s in
    let here : List (Option Bid) = c.in_ok-here.here in
    let step = along-next old (g.S.BlockSource.view c.loop-entry.s) new out (here ∷ []) (λ find. bids_each find (drop i es)) (λ find. bids_each find (drop (i + 1) es)) (λ find. bids_each find es)
    c.loop-entry.invariant c.entry_bids.ensures.later (λ find h. bids-next find es here i no_entry c.loop-entry-test.true (c.in_ok-here.ensures.reads find h)) in
    let P : List (List (Option Bid)) → Type 0 = λ l. Along old new l (λ find. bids_each find (drop (i + 1) es)) (λ find. bids_each find es) in
    subst P (sym c.in_ok-push.ensures.items) step
