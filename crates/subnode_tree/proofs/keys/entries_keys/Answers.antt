use Rattle.std.proofs.Common.{◌≡◌, ℕ, ◌+◌, List, ◌++◌, drop, get_or, sym, ap, subst, ◌∙◌}
use Rattle.std.proofs.lemmas.Result.{err_from_is_err_and}
use Rattle.data_tree.proofs.Steps.{Along, along-next, along-stop}
use Rattle.subnode_tree.specs.declared.blocks.SubEntry.{SubEntry}
use Rattle.subnode_tree.specs.KeyReads.{entries_keys_read, entry_keys_read}
use Rattle.subnode_tree.proofs.WalkLaws.{keys-next, keys-stop}
use Rattle.subnode_tree.proofs.keys.entries_keys.Goals as goal

abbrev no_entry : SubEntry
no_entry = record { level = 0; nid = record { bits = 0 }; content = record { bits = 0 }; subnodes = record { bits = 0 } }

pub returns-in_err-here-clause-reads : goal.returns-in_err-here-clause-reads
returns-in_err-here-clause-reads g c =
    let es = c.args.entries.now in
    let i = c.loop-entry.entry-index in
    let p = err_from_is_err_and c.from_residual.result c.from_residual.ensures.1 in
    rw (p.1, p.2) (along-stop (g.S.BlockSource.view c.args.s.now) (g.S.BlockSource.view c.loop-entry.s) (g.S.BlockSource.view c.entry_keys.new.s) c.loop-entry.keys.items
    (λ find. entry_keys_read find (get_or es i no_entry)) (λ find. entries_keys_read find (drop i es)) (λ find. entries_keys_read find es)
    c.loop-entry.invariant (λ find h fault e. keys-stop find es i no_entry fault c.loop-entry-test.true e) c.in_err-here.field-0.0 c.in_err-here.ensures.reads)

pub loop-entry-preserved : goal.loop-entry-preserved
loop-entry-preserved g c =
    let es = c.args.entries.now in
    let i = c.loop-entry.entry-index in
    let out = c.loop-entry.keys.items in
    let here = c.in_ok-here.here.items in
    let old = g.S.BlockSource.view c.args.s.now in
    let new = g.S.BlockSource.view c.entry_keys.new.s in
    let step = along-next old (g.S.BlockSource.view c.loop-entry.s) new out here (λ find. entries_keys_read find (drop i es)) (λ find. entries_keys_read find (drop (i + 1) es)) (λ find. entries_keys_read find es)
    c.loop-entry.invariant c.entry_keys.ensures.later (λ find h. keys-next find es here i no_entry c.loop-entry-test.true (c.in_ok-here.ensures.reads find h)) in
    let made : c.extend_from_slice.new.self.items ≡ out ++ here = c.in_ok-extend_from_slice.ensures.items ∙ ap (λ (l : List ℕ). out ++ l) c.as_slice.ensures.value in
    let P : List ℕ → Type 0 = λ l. Along old new l (λ find. entries_keys_read find (drop (i + 1) es)) (λ find. entries_keys_read find es) in
    subst P (sym made) step
