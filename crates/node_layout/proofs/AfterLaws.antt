-- The references after a commit, and the blocks that it frees.
use Rattle.std.proofs.Common.{Bool, true, ◌≡◌, ◌∙◌, ℕ, ◌^◌, ltb, List, [], ◌∷◌, Option, Some, None, sym}
use Rattle.std.proofs.lemmas.Bool.{lt-ltb}
use Rattle.btree_pages.specs.declared.entry.BlockEntry.{BlockEntry}
use Rattle.btree_pages.specs.declared.entry.NodeEntry.{NodeEntry}
use Rattle.file_blocks.specs.Blocks.{entry_key}
use Rattle.lays_kept.specs.Renewed.{EachLeads}
use Rattle.tree_edit.specs.Edits.{edited, AreEdits, entry_with}
use Rattle.node_layout.specs.Lookups.{edit_at, Each, sum_of, AllIn}
use Rattle.node_reach.specs.Reach.{node_keys}
use Rattle.node_layout.specs.Counts.{uses, AreRefs, taken, put, refs_after, FreesUnused}
use Rattle.node_layout.specs.Joined.{node_id}
use Rattle.node_layout.proofs.CountLaws.{left-reach, counted-after, none-unused}
use Rattle.node_layout.proofs.ReachLaws.{keys-same}
use Rattle.node_layout.proofs.FoundLaws.{node-found, still-agree}

-- the nodes that are left reach what they reached
reach-same : (find after : ℕ → Option (List ℕ)) (eof : ℕ) (some : ℕ → Bool) (ds : List (ℕ × Option NodeEntry)) (es : List NodeEntry) → ((key : ℕ) (b : List ℕ) → some key ≡ true → find key ≡ Some b → after key ≡ Some b) → EachLeads find eof es
    → Each (λ e. edit_at (node_id e) ds ≡ None → AllIn some (node_keys find e)) es → Each (λ e. edit_at (node_id e) ds ≡ None → node_keys after e ≡ node_keys find e) es
reach-same find after eof some ds [] still lead reach = tt
reach-same find after eof some ds (e ∷ es) still lead reach =
    ((λ none. keys-same find after e (still-agree find after some still (node_keys find e) (reach.0 none) (node-found find eof e lead.0.0 lead.0.1))), reach-same find after eof some ds es still lead.1 reach.1)

-- The numbers that a planner keeps are those of the new file's references.
pub refs-kept : (find after : ℕ → Option (List ℕ)) (eof : ℕ) (es : List NodeEntry) (ds : List (ℕ × Option NodeEntry)) (refs : ℕ → ℕ) → AreEdits node_id 0 (2 ^ 64) ds → AreRefs find es refs → EachLeads find eof es
    → ((key : ℕ) (b : List ℕ) → ltb 0 (refs_after refs (taken find es ds) (put after ds) key) ≡ true → find key ≡ Some b → after key ≡ Some b)
    → AreRefs after (edited node_id es ds) (refs_after refs (taken find es ds) (put after ds))
refs-kept find after eof es ds refs d are lead still =
    let next : ℕ → ℕ = refs_after refs (taken find es ds) (put after ds) in
    counted-after find after es ds refs d are
    (reach-same find after eof (λ key. ltb 0 (next key)) ds es still lead (left-reach find es ds refs (put after ds) (λ key. ltb 0 (next key)) are (λ key one. lt-ltb 0 (next key) one)))

-- A block that no node of the new file reaches is in its block tree only where the old one had it, and no node of the old file reached it.
pub freed-right : (find after : ℕ → Option (List ℕ)) (old : List BlockEntry) (bd : List (ℕ × Option BlockEntry)) (es new : List NodeEntry) (refs next : ℕ → ℕ) → AreEdits entry_key 0 (2 ^ 64) bd → FreesUnused old bd refs next → AreRefs find es refs → AreRefs after new next
    → (key : ℕ) (e : BlockEntry) → entry_with entry_key key (edited entry_key old bd) ≡ Some e → sum_of (uses after key) new ≡ 0 → (sum_of (uses find key) es ≡ 0) × ((f : BlockEntry) × (entry_with entry_key key old ≡ Some f))
freed-right find after old bd es new refs next d frees are now key e found none =
    let r = none-unused old bd refs next d frees key e found (now key ∙ none) in
    (sym (are key) ∙ r.0, r.1)
