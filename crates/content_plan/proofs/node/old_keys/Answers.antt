use Rattle.std.proofs.Common.{ap, refl, sym, subst, ◌∙◌, arith}
use Rattle.node_port.specs.declared.keeper.KeepStop.{KeepStop}
use Rattle.node_store.specs.Told.{StopsKeeping}
use Rattle.node_store.proofs.BlockLaws.{tree-stops}
use Rattle.content_plan.specs.Told.{HasEntry, blocks_tree, keys_at, keys_read}
use Rattle.content_plan.proofs.ReadLaws.{keys-are, keys-no-fault, led-entry}
use Rattle.content_plan.proofs.TellLaws.{keeps-blocks}
use Rattle.content_plan.proofs.node.old_keys.Goals as goal

pub returns-in-Ok-clause-keys : goal.returns-in-Ok-clause-keys
returns-in-Ok-clause-keys g c = λ find es told there.
    keys-are find c.args.header.now.eof c.in-Some.there c.in-Ok.keys.items (c.in-Ok.ensures.reads find told.blocks) ∙ ap (keys_at find) (sym c.in-Some.is)

pub returns-in-Ok-clause-keeps : goal.returns-in-Ok-clause-keeps
returns-in-Ok-clause-keeps g c = keeps-blocks {header = c.args.header.now} {caches = c.args.caches.now} {now = record { blocks = c.read_keys.new.cache; nodes = c.args.caches.now.nodes }} c.read_keys.ensures.asks refl

pub returns-in-Err-clause-keeps : goal.returns-in-Err-clause-keeps
returns-in-Err-clause-keeps g c = keeps-blocks {header = c.args.header.now} {caches = c.args.caches.now} {now = record { blocks = c.read_keys.new.cache; nodes = c.args.caches.now.nodes }} c.read_keys.ensures.asks refl

pub returns-in-Err-clause-stops : goal.returns-in-Err-clause-stops
returns-in-Err-clause-stops g c =
    let old = g.W.Outside.view c.args.w.now in
    let new = g.W.Outside.view c.read_keys.new.w in
    let header = c.args.header.now in
    let there = c.in-Some.there in
    let Whole : Type 0 = HasEntry old header c.args.caches.now c.args.nid.bits c.args.entry in
    let P : KeepStop → Type 0 = λ stop. StopsKeeping old new Whole stop in
    subst P (sym c.tree_stop.ensures)
    (tree-stops old old new (blocks_tree header) c.args.caches.now.blocks (λ find. keys_read find header.eof there) Whole header.bbt.ib (omega arith)
    (λ is. (
      is.0,
      is.2.blocks,
      (λ fault bad. let led = led-entry is.0 header.eof c.args.nid.bits is.1 there is.2.lead (is.3 ∙ c.in-Some.is) in keys-no-fault is.0 header.eof there led.0 fault led.1 bad),
    )) c.in-Err.stop c.in-Err.ensures.stops)
