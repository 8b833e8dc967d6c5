use Rattle.std.proofs.Common.{ℕ, sym, ap, ◌∙◌}
use Rattle.std.proofs.lemmas.List.{get_or_default}
use Rattle.btree_pages.specs.declared.entry.BlockEntry.{BlockEntry}
use Rattle.file_blocks.specs.Blocks.{entry_key, entry_with}
use Rattle.file_blocks.proofs.EntryLaws.{with-key, none-with}
use Rattle.file_blocks.proofs.entries.find_entry.Goals as goal

abbrev no_entry : BlockEntry
no_entry = record { at = record { bid = record { bits = 0 }; ib = 0 }; cb = 0; refs = 0 }

pub returns-in-Some : goal.returns-in-Some
returns-in-Some c = λ rise.
    let entries = c.args.entries.now in
    let key = sym c.key.ensures ∙ sym (c.in-Some.ensures.found no_entry) in
    sym (ap (λ (k : ℕ). entry_with k entries) key ∙ with-key 0 entries c.in-Some.index no_entry rise c.in-Some.ensures.within)

pub returns-in-None : goal.returns-in-None
returns-in-None c = λ rise.
    let entries = c.args.entries.now in
    sym (ap (λ (k : ℕ). entry_with k entries) (sym c.key.ensures)
    ∙ none-with entries c.key.result (λ i d within same. c.in-None.ensures.none rise i within (λ e. ap entry_key (get_or_default entries i e d within) ∙ same)))
