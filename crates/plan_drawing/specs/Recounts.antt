-- The edits of a block tree where numbers of references change and blocks are new.
use Rattle.std.specs.Prelude.{◌==◌, nat_lt, min, ℕ, ◌+◌, if◌then◌else◌, List, [], ◌∷◌, ◌++◌, map, Option, None, Some}
use Rattle.pst_base.specs.declared.places.Place.{Place}
use Rattle.btree_pages.specs.declared.entry.BlockEntry.{BlockEntry}
use Rattle.file_blocks.specs.Blocks.{entry_key}
use Rattle.file_layout.specs.Nodes.{place_of}
use Rattle.tree_edit.specs.Edits.{entry_with}
use Rattle.ref_counts.specs.declared.table.RefChange.{RefChange}

-- an entry with a number of references, which is stored as one more, and stays at the greatest of 16 bits
abbrev pub with_refs : BlockEntry → ℕ → BlockEntry
with_refs e n = record { at = e.at; cb = e.cb; refs = min (n + 1) 0xffff }

-- the entry after a change; a block to which nothing refers is to go
abbrev pub recounted : BlockEntry → ℕ → Option BlockEntry
recounted e n = if n == 0 then None else Some (with_refs e n)

-- the edit of an old block whose number changes
abbrev pub edit_of : Option BlockEntry → RefChange → List (ℕ × Option BlockEntry)
edit_of None c = []
edit_of (Some e) c = (c.key, recounted e c.after) ∷ []

-- where a block stood that is to go
abbrev pub place_left : Option BlockEntry → RefChange → List Place
place_left None c = []
place_left (Some e) c = if c.after == 0 then place_of e ∷ [] else []

-- the edits of blocks with keys below a number
abbrev pub recounts : List BlockEntry → ℕ → List RefChange → List (ℕ × Option BlockEntry)
recounts es next [] = []
recounts es next (c ∷ cs) = if nat_lt c.key next then edit_of (entry_with entry_key c.key es) c ++ recounts es next cs else recounts es next cs

-- and where those stood that are to go
abbrev pub left_places : List BlockEntry → ℕ → List RefChange → List Place
left_places es next [] = []
left_places es next (c ∷ cs) = if nat_lt c.key next then place_left (entry_with entry_key c.key es) c ++ left_places es next cs else left_places es next cs

-- the edits that put new entries
abbrev pub puts_of : List BlockEntry → List (ℕ × Option BlockEntry)
puts_of es = map (λ e. (entry_key e, Some e)) es
