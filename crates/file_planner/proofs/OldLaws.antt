-- The edits of old blocks, one by one.
use Rattle.std.proofs.Common.{◌≡◌, ◌∙◌, inl, inr, ℕ, suc, ◌+◌, ◌<◌, ◌≤◌, get_or, List, [], ◌∷◌, ◌++◌, length, take, Option, refl, sym, ap, subst, arith, append_assoc, append-nil}
use Rattle.std.proofs.Math.Seq.{take-suc}
use Rattle.std.proofs.lemmas.Bool.{cases_lt, le-ltb, lt-ltb}
use Rattle.pst_base.specs.declared.places.Place.{Place}
use Rattle.pst_base.specs.Ids.{key_of}
use Rattle.pst_outside.specs.World.{Image, World}
use Rattle.pst_outside.specs.Calls.{Untouched}
use Rattle.btree_pages.specs.declared.entry.BlockEntry.{BlockEntry}
use Rattle.btree_pages.specs.Entries.{block_of}
use Rattle.file_blocks.specs.Blocks.{entry_key, file_of}
use Rattle.file_layout.proofs.Underway.{untouched_then}
use Rattle.file_pages.specs.declared.search.FileTree.{FileTree}
use Rattle.file_pages.specs.Told.{Caches, HasTree}
use Rattle.page_cache.specs.declared.cache.Cached.{Cached}
use Rattle.tree_edit.specs.Edits.{entry_with}
use Rattle.ref_counts.specs.declared.table.RefChange.{RefChange}
use Rattle.plan_drawing.specs.Recounts.{edit_of, left_places, place_left, recounts}

-- the entries of the block tree under a root
abbrev pub HasEntries : World → FileTree → List BlockEntry → Type 0
HasEntries world tree es = HasTree key_of 24 block_of entry_key (file_of world.here) tree.eof tree.kind tree.root es

-- some of the changes are edited
pub record Editing (first now : World) (tree : FileTree) (cached here : List (ℕ × Cached)) (next : ℕ) (cs : List RefChange) (edits : List (ℕ × Option BlockEntry)) (left : List Place) : Type 0 where
  pub same : Untouched first now
  pub caches : Caches first tree.eof tree.kind cached → Caches now tree.eof tree.kind here
  pub made : Caches first tree.eof tree.kind cached → (es : List BlockEntry) → HasEntries first tree es → (edits ≡ recounts es next cs) × (left ≡ left_places es next cs)

recounts-more : (es : List BlockEntry) (next : ℕ) (cs : List RefChange) (c : RefChange)
    → (recounts es next (cs ++ c ∷ []) ≡ recounts es next cs ++ recounts es next (c ∷ [])) × (left_places es next (cs ++ c ∷ []) ≡ left_places es next cs ++ left_places es next (c ∷ []))
recounts-more es next [] c = (refl, refl)
recounts-more es next (x ∷ cs) c =
    let h = recounts-more es next cs c in
    elim (cases_lt x.key next) [
      | inl here ↦ rw (lt-ltb x.key next here) (
        ap (λ (l : List (ℕ × Option BlockEntry)). edit_of (entry_with entry_key x.key es) x ++ l) h.0 ∙ sym (append_assoc (edit_of (entry_with entry_key x.key es) x) (recounts es next cs) (recounts es next (c ∷ []))),
        ap (λ (l : List Place). place_left (entry_with entry_key x.key es) x ++ l) h.1 ∙ sym (append_assoc (place_left (entry_with entry_key x.key es) x) (left_places es next cs) (left_places es next (c ∷ []))),
      )
      | inr past ↦ rw (le-ltb x.key next past) h
    ]

-- one change alone
pub one-skip : (es : List BlockEntry) (next : ℕ) (c : RefChange) (edits : List (ℕ × Option BlockEntry)) (left : List Place) → next ≤ c.key → (edits ≡ edits ++ recounts es next (c ∷ [])) × (left ≡ left ++ left_places es next (c ∷ []))
one-skip es next c edits left le = rw (le-ltb c.key next le) (sym (append-nil edits), sym (append-nil left))

pub one-edit : (es : List BlockEntry) (next : ℕ) (c : RefChange) (found : Option BlockEntry) (edits new : List (ℕ × Option BlockEntry)) (left more : List Place) → c.key < next → found ≡ entry_with entry_key c.key es → new ≡ edits ++ edit_of found c → more ≡ left ++ place_left found c
    → (new ≡ edits ++ recounts es next (c ∷ [])) × (more ≡ left ++ left_places es next (c ∷ []))
one-edit es next c found edits new left more lt is one two = rw (lt-ltb c.key next lt) (
  one ∙ ap (λ (o : Option BlockEntry). edits ++ edit_of o c) is ∙ ap (λ (l : List (ℕ × Option BlockEntry)). edits ++ l) (sym (append-nil (edit_of (entry_with entry_key c.key es) c))),
  two ∙ ap (λ (o : Option BlockEntry). left ++ place_left o c) is ∙ ap (λ (l : List Place). left ++ l) (sym (append-nil (place_left (entry_with entry_key c.key es) c))),
)

take-next : (cs : List RefChange) (i : ℕ) (c d : RefChange) → i < length cs → c ≡ get_or cs i d → take (i + 1) cs ≡ take i cs ++ c ∷ []
take-next cs i c d lt is =
    let e : i + 1 ≡ suc i = omega arith in
    ap (λ (k : ℕ). take k cs) e ∙ take-suc cs i d lt ∙ ap (λ (x : RefChange). take i cs ++ x ∷ []) (sym is)

-- the file is as it was
pub entries-still : {first now : World} (tree : FileTree) (es : List BlockEntry) → Untouched first now → now.tells → HasEntries first tree es → HasEntries now tree es
entries-still {first} {now} tree es same tells has = subst (λ (i : Image). HasTree key_of 24 block_of entry_key (file_of i) tree.eof tree.kind tree.root es) (sym (same.stays.here tells)) has

-- one change more
pub editing-more : (first mid now : World) (tree : FileTree) (cached old here : List (ℕ × Cached)) (next i : ℕ) (cs : List RefChange) (c d : RefChange) (edits new : List (ℕ × Option BlockEntry)) (left more : List Place)
    → i < length cs → c ≡ get_or cs i d → Untouched mid now → (Caches mid tree.eof tree.kind old → Caches now tree.eof tree.kind here)
    → (Caches mid tree.eof tree.kind old → (es : List BlockEntry) → HasEntries mid tree es → (new ≡ edits ++ recounts es next (c ∷ [])) × (more ≡ left ++ left_places es next (c ∷ [])))
    → Editing first mid tree cached old next (take i cs) edits left → Editing first now tree cached here next (take (i + 1) cs) new more
editing-more first mid now tree cached old here next i cs c d edits new left more lt is same on makes so_far = record {
  same = untouched_then so_far.same same;
  caches = λ caches. on (so_far.caches caches);
  made = λ caches es has.
      let made = so_far.made caches es has in
      let there = so_far.caches caches in
      let one = makes there es (entries-still tree es so_far.same there.told.tells has) in
      let step = recounts-more es next (take i cs) c in
      let grown = take-next cs i c d lt is in (
        one.0 ∙ ap (λ (l : List (ℕ × Option BlockEntry)). l ++ recounts es next (c ∷ [])) made.0 ∙ sym step.0 ∙ ap (recounts es next) (sym grown),
        one.1 ∙ ap (λ (l : List Place). l ++ left_places es next (c ∷ [])) made.1 ∙ sym step.1 ∙ ap (left_places es next) (sym grown),
      );
}
