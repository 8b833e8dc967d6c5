use Rattle.std.proofs.Common.{◌<◌, ℕ, ◌+◌, ◌-◌, ◌/◌, length, sym, ap, ◌∙◌, arith}
use Rattle.std.proofs.lemmas.List.{get_or_default}
use Rattle.btree_pages.specs.declared.entry.BlockEntry.{BlockEntry}
use Rattle.file_blocks.specs.Blocks.{entry_key}
use Rattle.file_blocks.proofs.EntryLaws.{go-up, go-down}
use Rattle.file_blocks.proofs.entries.entry_index.Goals as goal

abbrev no_entry : BlockEntry
no_entry = record { at = record { bid = record { bits = 0 }; ib = 0 }; cb = 0; refs = 0 }

pub loop-low-init : goal.loop-low-init
loop-low-init c = (omega arith, λ rise i d within same. (omega arith, within))

pub returns-then-here-key-clause-found : goal.returns-then-here-key-clause-found
returns-then-here-key-clause-found c = λ d.
    let entries = c.args.entries.now in
    let middle : ℕ = c.loop-low.low + (c.loop-low.high - c.loop-low.low) / 2 in
    let high = c.loop-low.invariant.0 in
    let test = c.loop-low-test.true in
    let within : middle < length entries = omega (arith, high, test) in
    ap entry_key (get_or_default entries middle d no_entry within) ∙ sym c.key-here.ensures ∙ c.if-here-key.true

pub loop-low-preserved-then-here-key-2 : goal.loop-low-preserved-then-here-key-2
loop-low-preserved-then-here-key-2 c =
    let middle : ℕ = c.loop-low.low + (c.loop-low.high - c.loop-low.low) / 2 in
    let high = c.loop-low.invariant.0 in
    let test = c.loop-low-test.true in
    let here = c.key-here.ensures in
    let below = c.if-here-key-2.true in
    (high, λ rise. go-up c.args.entries.now c.args.key c.loop-low.low c.loop-low.high middle no_entry rise (c.loop-low.invariant.1 rise) (omega (arith, high, test)) (omega (arith, here, below)))

pub loop-low-preserved : goal.loop-low-preserved
loop-low-preserved c =
    let middle : ℕ = c.loop-low.low + (c.loop-low.high - c.loop-low.low) / 2 in
    let high = c.loop-low.invariant.0 in
    let test = c.loop-low-test.true in
    let here = c.key-here.ensures in
    let other = c.if-here-key.false in
    let over = c.if-here-key-2.false in
    (omega (arith, high, test), λ rise. go-down c.args.entries.now c.args.key c.loop-low.low c.loop-low.high middle no_entry rise (c.loop-low.invariant.1 rise) (omega (arith, high, test)) (omega (arith, here, over, other)))

pub returns-clause-none : goal.returns-clause-none
returns-clause-none c = λ rise i within holds.
    let test = c.loop-low-test.false in
    let between = c.loop-low.invariant.1 rise i no_entry within (holds no_entry) in
    let a = between.0 in
    let b = between.1 in
    omega (arith, a, b, test)
