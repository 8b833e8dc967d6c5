-- The keys of all entries of a whole tree ascend strictly.
use Rattle.std.proofs.Common.{Bool, true, false, not, ◌≡◌, ℕ, zero, suc, ◌+◌, ◌-◌, ◌<◌, ◌≤◌, ltb, leb, ◌&&◌, List, [], ◌∷◌, ◌++◌, map, Ok, Err, refl, sym, ap, subst, arith, if◌then◌else◌, ◌||◌}
use Rattle.std.proofs.lemmas.Bool.{and_parts, leb-true, ltb-true, le-leb}
use Rattle.pst_base.specs.Ids.{key_of}
use Rattle.pst_base.specs.Fields.{number_at}
use Rattle.pst_base.specs.declared.ids.Bref.{Bref}
use Rattle.pst_base.specs.declared.stops.PageFault.TheVariants.{Count, Level, Key}
use Rattle.btree_pages.specs.Entries.{inner_of, block_of}
use Rattle.btree_pages.specs.Pages.{Page, pieces, size_at, key_in, keys, rise_above, ascend, is_counted}
use Rattle.file_blocks.specs.Blocks as blocks
use Rattle.file_layout.specs.declared.tree_pages.Seat.{Seat}
use Rattle.file_layout.specs.Trees.{in_span, may_have, is_wanted, page_with, page_in, FileTree, Found, key_below, child_of, AreChildren, IsTree, root_seat, IsWhole, rise_from}

-- ---- entries in a span

-- each entry's key is one from low to high, and they ascend strictly
abbrev Spans : (ℕ → ℕ) → ℕ → ℕ → List (List ℕ) → Type 0
Spans rule low high [] = Unit {0}
Spans rule low high (b ∷ bs) = (low ≤ key_in rule b) × (key_in rule b ≤ high) × Spans rule (key_in rule b + 1) high bs

spans-lower : (rule : ℕ → ℕ) (low from high : ℕ) (bs : List (List ℕ)) → low ≤ from → Spans rule from high bs → Spans rule low high bs
spans-lower rule low from high [] h s = tt
spans-lower rule low from high (b ∷ bs) h s = let above : from ≤ key_in rule b = s.0 in (omega (arith, h, above), s.1, s.2)

-- entries of a span, and behind them those of a later one
spans-join : (rule : ℕ → ℕ) (low middle from high : ℕ) (xs ys : List (List ℕ)) → low ≤ from → middle < from → middle ≤ high → Spans rule low middle xs → Spans rule from high ys
    → Spans rule low high (xs ++ ys)
spans-join rule low middle from high [] ys h apart under first later = spans-lower rule low from high ys h later
spans-join rule low middle from high (x ∷ xs) ys h apart under first later =
    let within : key_in rule x ≤ middle = first.1 in
    (first.0, omega (arith, within, under), spans-join rule (key_in rule x + 1) middle from high xs ys (omega (arith, within, apart)) apart under first.2 later)

spans-rise : (rule : ℕ → ℕ) (low high : ℕ) (bs : List (List ℕ)) → Spans rule low high bs → rise_from rule low bs ≡ true
spans-rise rule low high [] s = refl
spans-rise rule low high (b ∷ bs) s = rw (le-leb low (key_in rule b) s.0, spans-rise rule (key_in rule b + 1) high bs s.2) refl

-- ---- a page's entries

above-spans : (rule : ℕ → ℕ) (low high last : ℕ) (bs : List (List ℕ)) → rise_above last (keys rule bs) ≡ true → in_span low high (keys rule bs) ≡ true → Spans rule (last + 1) high bs
above-spans rule low high last [] rises within = tt
above-spans rule low high last (b ∷ bs) rises within =
    let up : (ltb last (key_in rule b) ≡ true) × (rise_above (key_in rule b) (keys rule bs) ≡ true) = and_parts _ _ rises in
    let here : (leb low (key_in rule b) && leb (key_in rule b) high ≡ true) × (in_span low high (keys rule bs) ≡ true) = and_parts _ _ within in
    let ends : (leb low (key_in rule b) ≡ true) × (leb (key_in rule b) high ≡ true) = and_parts _ _ here.0 in
    let above : last < key_in rule b = ltb-true last (key_in rule b) up.0 in
    (omega (arith, above), leb-true (key_in rule b) high ends.1, above-spans rule low high (key_in rule b) bs up.1 here.1)

keys-span : (rule : ℕ → ℕ) (low high : ℕ) (bs : List (List ℕ)) → ascend (keys rule bs) ≡ true → in_span low high (keys rule bs) ≡ true → Spans rule low high bs
keys-span rule low high [] rises within = tt
keys-span rule low high (b ∷ bs) rises within =
    let here : (leb low (key_in rule b) && leb (key_in rule b) high ≡ true) × (in_span low high (keys rule bs) ≡ true) = and_parts _ _ within in
    let ends : (leb low (key_in rule b) ≡ true) × (leb (key_in rule b) high ≡ true) = and_parts _ _ here.0 in
    (leb-true low (key_in rule b) ends.0, leb-true (key_in rule b) high ends.1, above-spans rule low high (key_in rule b) bs rises here.1)

-- a page that has passed the test of its keys
past_key : (counted deep placed : Bool) (page got : Page) → (if not counted then Err Count else (if deep then Err Level else (if not placed then Err Key else Ok page))) ≡ Ok got
    → (placed ≡ true) × (page ≡ got)
past_key false deep placed page got e = absurd (cc)
past_key true true placed page got e = absurd (cc)
past_key true false false page got e = absurd (cc)
past_key true false true page got e = (refl, cc)

page-spans : (rule : ℕ → ℕ) (leaf : ℕ) (seat : Seat) (b : List ℕ) (page : Page) → page_in rule leaf seat b ≡ Ok page → Spans rule seat.low seat.high page.entries
unfolding page_in page_with
page-spans rule leaf seat b page e =
    let size : ℕ = size_at leaf (number_at 1 491 b) in
    let entries : List (List ℕ) = pieces size (number_at 1 488 b) b in
    let placed : Bool = ascend (keys rule entries) && in_span seat.low seat.high (keys rule entries) in
    let parts : (placed ≡ true) × (record { level = number_at 1 491 b; entries = entries } ≡ page) =
    past_key (is_counted size b && may_have seat.level (number_at 1 488 b)) (ltb 7 (number_at 1 491 b) || not (is_wanted seat.level (number_at 1 491 b))) placed _ page e in
    let both_are : (ascend (keys rule entries) ≡ true) × (in_span seat.low seat.high (keys rule entries) ≡ true) = and_parts _ _ parts.0 in
    subst (λ (q : Page). Spans rule seat.low seat.high q.entries) parts.1 (keys-span rule seat.low seat.high entries both_are.0 both_are.1)

-- ---- a tree's entries

below-key : (rule : ℕ → ℕ) (entry : List ℕ) → key_below rule entry ≡ key_in rule entry
unfolding inner_of
below-key rule entry = refl

-- what the children of ascending entries give lies in the span of the entries
children-span : (P : Seat → Found → Type 0) (rule : ℕ → ℕ) (n high : ℕ) → ((seat : Seat) (found : Found) → P seat found → Spans rule seat.low seat.high found.entries)
    → (low : ℕ) (entries : List (List ℕ)) (found : Found) → Spans rule low high entries → AreChildren P rule n high entries found → Spans rule low high found.entries
children-span P rule n high each low [] found s are = subst (λ (f : Found). Spans rule low high f.entries) (sym are) tt
children-span P rule n high each low (entry ∷ []) found s are =
    let key : key_below rule entry ≡ key_in rule entry = below-key rule entry in
    let above : low ≤ key_in rule entry = s.0 in
    let under : key_in rule entry ≤ high = s.1 in
    let first : Spans rule (key_below rule entry) high are.0.entries = each (child_of rule n high entry []) are.0 are.2 in
    let later : Spans rule (high + 1) high are.1.entries = subst (λ (f : Found). Spans rule (high + 1) high f.entries) (sym are.3) tt in
    let whole : Spans rule low high (are.0.entries ++ are.1.entries) =
    spans-join rule low high (high + 1) high are.0.entries are.1.entries (omega (arith, above, under)) (omega arith) (omega arith)
    (spans-lower rule low (key_below rule entry) high are.0.entries (omega (arith, key, above)) first) later in
    subst (λ (f : Found). Spans rule low high f.entries) (sym are.4) whole
children-span P rule n high each low (entry ∷ next ∷ rest) found s are =
    let key : key_below rule entry ≡ key_in rule entry = below-key rule entry in
    let later_key : key_below rule next ≡ key_in rule next = below-key rule next in
    let above : low ≤ key_in rule entry = s.0 in
    let between : key_in rule entry + 1 ≤ key_in rule next = s.2.0 in
    let under : key_in rule next ≤ high = s.2.1 in
    let first : Spans rule (key_below rule entry) (key_below rule next - 1) are.0.entries = each (child_of rule n high entry (next ∷ rest)) are.0 are.2 in
    let later : Spans rule (key_in rule next) high are.1.entries =
    children-span P rule n high each (key_in rule next) (next ∷ rest) are.1 (omega arith, under, s.2.2) are.3 in
    let whole : Spans rule low high (are.0.entries ++ are.1.entries) =
    spans-join rule low (key_below rule next - 1) (key_in rule next) high are.0.entries are.1.entries (omega (arith, above, between)) (omega (arith, later_key, between)) (omega (arith, later_key, under))
    (spans-lower rule low (key_below rule entry) (key_below rule next - 1) are.0.entries (omega (arith, key, above)) first) later in
    subst (λ (f : Found). Spans rule low high f.entries) (sym are.4) whole

-- what a seat's tree gives lies in the seat's span
tree-spans : (t : FileTree) (n : ℕ) (seat : Seat) (found : Found) → IsTree t n seat found → Spans t.rule seat.low seat.high found.entries
tree-spans t zero seat found tree =
    let page : Page = tree.0 in
    let here : Spans t.rule seat.low seat.high page.entries = page-spans t.rule t.leaf seat tree.1.body page tree.1.content in
    subst (λ (f : Found). Spans t.rule seat.low seat.high f.entries) (sym tree.3) here
tree-spans t (suc n) seat found tree =
    let page : Page = tree.0 in
    let here : Spans t.rule seat.low seat.high page.entries = page-spans t.rule t.leaf seat tree.2.body page tree.2.content in
    let lower : Spans t.rule seat.low seat.high tree.1.entries =
    children-span (IsTree t n) t.rule n seat.high (λ child given is. tree-spans t n child given is) seat.low page.entries tree.1 here tree.4 in
    subst (λ (f : Found). Spans t.rule seat.low seat.high f.entries) (sym tree.5) lower

-- the keys of what a whole tree gives ascend strictly
pub whole-rises : (t : FileTree) (root : Bref) (found : Found) → IsWhole t root found → rise_from t.rule 0 found.entries ≡ true
whole-rises t root found whole =
    let seat : Seat = root_seat root in
    spans-rise t.rule 0 seat.high found.entries (tree-spans t whole.level seat found whole.tree)

-- ---- the block tree's entries

block-key : (b : List ℕ) → blocks.entry_key (block_of b) ≡ key_in key_of b
unfolding block_of
block-key b = refl

-- the entries of blocks ascend as their bytes do
pub blocks-rise : (es : List (List ℕ)) (low : ℕ) → rise_from key_of low es ≡ blocks.rise_from low (map block_of es)
blocks-rise [] low = refl
blocks-rise (b ∷ bs) low = rw (block-key b) (ap (λ (rest : Bool). leb low (key_in key_of b) && rest) (blocks-rise bs (key_in key_of b + 1)))
