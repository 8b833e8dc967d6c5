-- Blocks that were made to list subnodes read as the entries in them.
use Rattle.std.proofs.Common.{Bool, true, false, ◌≡◌, ℕ, suc, ◌+◌, ◌*◌, ◌/◌, ◌%◌, ◌^◌, ◌<◌, ◌≤◌, inl, inr, leb, ltb, ◌&&◌, List, [], ◌∷◌, ◌++◌, length, map, Option, Some, Result, Ok, refl, sym, ap, subst, ◌∙◌, arith, length-append, append_assoc, append-nil}
use Rattle.std.proofs.lemmas.Bool.{and_from, and_parts, le-leb, lt-ltb, le-ltb, eq-eqb, ltb-true, cases_lt}
use Rattle.std.proofs.lemmas.List.{length-map, map-append}
use Rattle.byteorder.specs.Endian.{little_bytes}
use Rattle.byteorder.specs.Numbers.{little_number-reads_back}
use Rattle.pst_base.specs.declared.ids.Bid.{Bid}
use Rattle.pst_base.specs.Fields.{number_at}
use Rattle.pst_base.specs.Ids.{key_of}
use Rattle.pst_base.proofs.Numbers.{number_at-first, number_at-next, number_at-behind}
use Rattle.data_tree.specs.declared.source.TreeStop.{TreeStop}
use Rattle.data_tree.specs.Tree.{and_then, named}
use Rattle.data_tree.specs.Plan.{IsFound, Rise, bids_in, bytes_in, contents, cut, last_id, numbered, plain}
use Rattle.data_tree.specs.Keys.{count_of, keys_of}
use Rattle.data_tree.proofs.KeyLaws.{count-blocks}
use Rattle.data_tree.proofs.SizeLaws.{Short, Small, small-numbered}
use Rattle.data_tree.proofs.PieceLaws.{Each, each-append, each-left, each-right, joined, cut-one, length-cut, joined-cut, cut-short, cut-some, cut-each}
use Rattle.data_tree.proofs.PlanLaws.{last-append, length-numbered, plain-append, plain-marked, rise-append, rise-numbered}
use Rattle.subnode_tree.specs.declared.blocks.Listed.{Listed}
use Rattle.subnode_tree.specs.declared.blocks.SubEntry.{SubEntry}
use Rattle.subnode_tree.specs.declared.tables.Row.{Row}
use Rattle.subnode_tree.specs.Keys.{listed_in}
use Rattle.subnode_tree.specs.Plan.{ascending, rise_from}
use Rattle.subnode_tree.specs.Subnodes.{ascend, entries_from, entries_of, entry_at, is_inner, is_laid, is_leaf, level_in, level_of, listed_at, listed_from, listed_of, listed_ascend, listed_rise, ordered, part_in, part_of, parts_of, reach, rise_above}
use Rattle.subnode_tree.specs.Tables.{Fits, first_nid, inner, leaf, leaves, listed_as, listed_bytes, rows_bytes, table, tables, top}
use Rattle.subnode_tree.proofs.TableSteps.{leaves-is}

-- ---- what a block says of itself

kind-table : (level count : ℕ) (bytes : List ℕ) → number_at 1 0 (table level count bytes) ≡ 2
unfolding table number_at
kind-table level count bytes = refl

level-table : (level count : ℕ) (bytes : List ℕ) → number_at 1 1 (table level count bytes) ≡ level
unfolding table number_at
level-table level count bytes = omega arith

count-table : (level count : ℕ) (bytes : List ℕ) → count ≤ 510 → number_at 2 2 (table level count bytes) ≡ count
unfolding table number_at
count-table level count bytes few = little_number-reads_back 2 count (little_bytes 4 0 ++ bytes) (omega arith)

length-table : (level count : ℕ) (bytes : List ℕ) → length (table level count bytes) ≡ 8 + length bytes
unfolding table
length-table level count bytes = omega arith

front_of : ℕ → ℕ → List ℕ
front_of level count = 2 ∷ level ∷ (little_bytes 2 count ++ little_bytes 4 0)

front-table : (level count : ℕ) (bytes : List ℕ) → table level count bytes ≡ front_of level count ++ bytes
unfolding table front_of
front-table level count bytes = refl

length-front : (level count : ℕ) → length (front_of level count) ≡ 8
unfolding front_of
length-front level count = refl

is_laid-table : (level most size count : ℕ) (bytes : List ℕ) → count ≤ most → most ≤ 510 → length bytes ≡ size * count → is_laid level most size (table level count bytes) ≡ true
unfolding is_laid
is_laid-table level most size count bytes few top size_is =
    let b = table level count bytes in
    let whole : length b ≡ 8 + length bytes = length-table level count bytes in
    let read : number_at 2 2 b ≡ count = count-table level count bytes (omega arith) in
    let all : length b ≡ 8 + size * number_at 2 2 b = whole ∙ ap (λ (n : ℕ). 8 + n) size_is ∙ ap (λ (n : ℕ). 8 + size * n) (sym read) in
    and_from _ _ (le-leb 8 (length b) (omega arith))
    (and_from _ _ (eq-eqb (number_at 1 0 b) 2 (kind-table level count bytes))
    (and_from _ _ (eq-eqb (number_at 1 1 b) level (level-table level count bytes))
    (and_from _ _ (le-leb (number_at 2 2 b) most (omega arith)) (eq-eqb (length b) (8 + size * number_at 2 2 b) all))))

length-rows_bytes : (rows : List Row) → length (rows_bytes rows) ≡ 24 * length rows
length-rows_bytes [] = refl
length-rows_bytes (row ∷ rows) = let rest = length-rows_bytes rows in omega arith

length-listed_bytes : (listed : List Listed) → length (listed_bytes listed) ≡ 16 * length listed
length-listed_bytes [] = refl
length-listed_bytes (entry ∷ listed) = let rest = length-listed_bytes listed in omega arith

is_leaf-leaf : (rows : List Row) → length rows ≤ 340 → is_leaf (leaf rows) ≡ true
is_leaf-leaf rows few = is_laid-table 0 340 24 (length rows) (rows_bytes rows) few (omega arith) (length-rows_bytes rows)

is_inner-inner : (listed : List Listed) → length listed ≤ 510 → is_inner (inner listed) ≡ true
is_inner-inner listed few = is_laid-table 1 510 16 (length listed) (listed_bytes listed) few (omega arith) (length-listed_bytes listed)

is_leaf-inner : (listed : List Listed) → is_leaf (inner listed) ≡ false
unfolding is_laid
is_leaf-inner listed =
    let b = inner listed in
    let whole = length-table 1 (length listed) (listed_bytes listed) in
    let begins : leb 8 (length b) ≡ true = le-leb 8 (length b) (omega arith) in
    let kind = kind-table 1 (length listed) (listed_bytes listed) in
    let level = level-table 1 (length listed) (listed_bytes listed) in
    rw (begins, kind, level) refl

-- ---- the entries in it

-- an entry of a subnode at a level
abbrev pub entry_as : ℕ → Row → SubEntry
entry_as level row = record { level = level; nid = row.nid; content = row.content; subnodes = row.subnodes }

number-here : (n at : ℕ) (front ys : List ℕ) → length front ≡ at → number_at n at (front ++ ys) ≡ number_at n 0 ys
number-here n at front ys len =
    let e : at ≡ at + 0 = omega arith in
    ap (λ (k : ℕ). number_at n k (front ++ ys)) e ∙ number_at-behind n 0 at front ys len

entry-here : (level at : ℕ) (front rest : List ℕ) (row : Row) → length front ≡ at → Fits row
    → entry_at level at (front ++ (little_bytes 8 (row.nid).bits ++ (little_bytes 8 (row.content).bits ++ (little_bytes 8 (row.subnodes).bits ++ rest)))) ≡ entry_as level row
unfolding entry_at
entry-here level at front rest row len fits =
    let nid = (row.nid).bits in
    let content = (row.content).bits in
    let subnodes = (row.subnodes).bits in
    let third = little_bytes 8 subnodes ++ rest in
    let second = little_bytes 8 content ++ third in
    let b = front ++ (little_bytes 8 nid ++ second) in
    let low = fits.nid in
    let one : number_at 8 at b % 2 ^ 32 ≡ nid =
    let whole : nid % 2 ^ 32 ≡ nid = omega arith in
    ap (λ (n : ℕ). n % 2 ^ 32) (number-here 8 at front (little_bytes 8 nid ++ second) len ∙ number_at-first 8 nid second (omega arith)) ∙ whole in
    let two : number_at 8 (at + 8) b ≡ content =
    number_at-behind 8 8 at front (little_bytes 8 nid ++ second) len ∙ number_at-next 8 0 8 nid second ∙ number_at-first 8 content third fits.content in
    let three : number_at 8 (at + 16) b ≡ subnodes =
    number_at-behind 8 16 at front (little_bytes 8 nid ++ second) len ∙ number_at-next 8 8 8 nid second ∙ number_at-next 8 0 8 content third ∙ number_at-first 8 subnodes rest fits.subnodes in
    ap (λ (n : ℕ). record { level = level; nid = record { bits = n }; content = record { bits = number_at 8 (at + 8) b }; subnodes = record { bits = number_at 8 (at + 16) b } }) one
    ∙ ap (λ (n : ℕ). record { level = level; nid = row.nid; content = record { bits = n }; subnodes = record { bits = number_at 8 (at + 16) b } }) two
    ∙ ap (λ (n : ℕ). record { level = level; nid = row.nid; content = row.content; subnodes = record { bits = n } }) three

entries-read : (level at : ℕ) (front : List ℕ) (rows : List Row) → length front ≡ at → Each Fits rows → entries_from level (length rows) at (front ++ rows_bytes rows) ≡ map (entry_as level) rows
entries-read level at front [] len fits = refl
entries-read level at front (row ∷ rows) len fits =
    let here = little_bytes 8 (row.nid).bits ++ (little_bytes 8 (row.content).bits ++ little_bytes 8 (row.subnodes).bits) in
    let b = front ++ rows_bytes (row ∷ rows) in
    let both : (front ++ here) ++ rows_bytes rows ≡ b = append_assoc front here (rows_bytes rows) in
    let size : length here ≡ 24 = refl in
    let more : length (front ++ here) ≡ at + 24 = length-append front here ∙ ap (λ (n : ℕ). n + length here) len ∙ ap (λ (n : ℕ). at + n) size in
    ap (λ (first : SubEntry). first ∷ entries_from level (length rows) (at + 24) b) (entry-here level at front (rows_bytes rows) row len fits.0)
    ∙ ap (λ (l : List ℕ). entry_as level row ∷ entries_from level (length rows) (at + 24) l) (sym both)
    ∙ ap (λ (rest : List SubEntry). entry_as level row ∷ rest) (entries-read level (at + 24) (front ++ here) rows more fits.1)

entries_of-leaf : (level : ℕ) (rows : List Row) → length rows ≤ 340 → Each Fits rows → entries_of level (leaf rows) ≡ map (entry_as level) rows
unfolding entries_of
entries_of-leaf level rows few fits =
    let n = length rows in
    ap (λ (m : ℕ). entries_from level m 8 (leaf rows)) (count-table 0 n (rows_bytes rows) (omega arith))
    ∙ ap (entries_from level n 8) (front-table 0 n (rows_bytes rows)) ∙ entries-read level 8 (front_of 0 n) rows (length-front 0 n) fits

pub record ListedFits (entry : Listed) : Type 0 where
  pub nid : (entry.nid).bits < 2 ^ 32
  pub block : (entry.block).bits < 2 ^ 64

listed-here : (at : ℕ) (front rest : List ℕ) (entry : Listed) → length front ≡ at → ListedFits entry
    → listed_at at (front ++ (little_bytes 8 (entry.nid).bits ++ (little_bytes 8 (entry.block).bits ++ rest))) ≡ entry
unfolding listed_at
listed-here at front rest entry len fits =
    let nid = (entry.nid).bits in
    let block = (entry.block).bits in
    let second = little_bytes 8 block ++ rest in
    let b = front ++ (little_bytes 8 nid ++ second) in
    let low = fits.nid in
    let one : number_at 8 at b % 2 ^ 32 ≡ nid =
    let whole : nid % 2 ^ 32 ≡ nid = omega arith in
    ap (λ (n : ℕ). n % 2 ^ 32) (number-here 8 at front (little_bytes 8 nid ++ second) len ∙ number_at-first 8 nid second (omega arith)) ∙ whole in
    let two : number_at 8 (at + 8) b ≡ block =
    number_at-behind 8 8 at front (little_bytes 8 nid ++ second) len ∙ number_at-next 8 0 8 nid second ∙ number_at-first 8 block rest fits.block in
    ap (λ (n : ℕ). record { nid = record { bits = n }; block = record { bits = number_at 8 (at + 8) b } }) one
    ∙ ap (λ (n : ℕ). record { nid = entry.nid; block = record { bits = n } }) two

listed-read : (at : ℕ) (front : List ℕ) (listed : List Listed) → length front ≡ at → Each ListedFits listed → listed_from (length listed) at (front ++ listed_bytes listed) ≡ listed
listed-read at front [] len fits = refl
listed-read at front (entry ∷ listed) len fits =
    let here = little_bytes 8 (entry.nid).bits ++ little_bytes 8 (entry.block).bits in
    let b = front ++ listed_bytes (entry ∷ listed) in
    let both : (front ++ here) ++ listed_bytes listed ≡ b = append_assoc front here (listed_bytes listed) in
    let size : length here ≡ 16 = refl in
    let more : length (front ++ here) ≡ at + 16 = length-append front here ∙ ap (λ (n : ℕ). n + length here) len ∙ ap (λ (n : ℕ). at + n) size in
    ap (λ (first : Listed). first ∷ listed_from (length listed) (at + 16) b) (listed-here at front (listed_bytes listed) entry len fits.0)
    ∙ ap (λ (l : List ℕ). entry ∷ listed_from (length listed) (at + 16) l) (sym both)
    ∙ ap (λ (rest : List Listed). entry ∷ rest) (listed-read (at + 16) (front ++ here) listed more fits.1)

listed_of-inner : (listed : List Listed) → length listed ≤ 510 → Each ListedFits listed → listed_of (inner listed) ≡ listed
unfolding listed_of
listed_of-inner listed few fits =
    let n = length listed in
    ap (λ (m : ℕ). listed_from m 8 (inner listed)) (count-table 1 n (listed_bytes listed) few)
    ∙ ap (listed_from n 8) (front-table 1 n (listed_bytes listed)) ∙ listed-read 8 (front_of 1 n) listed (length-front 1 n) fits

-- ---- their order

-- the NIDs of entries
abbrev pub row_nids : List Row → List ℕ
row_nids rows = map (λ row. (row.nid).bits) rows

rise-as : (level last : ℕ) (rows : List Row) → rise_above last (map (entry_as level) rows) ≡ rise_from last (row_nids rows)
rise-as level last [] = refl
rise-as level last (row ∷ rows) = ap (λ (t : Bool). ltb last (row.nid).bits && t) (rise-as level (row.nid).bits rows)

ascend-as : (level : ℕ) (rows : List Row) → ascend (map (entry_as level) rows) ≡ ascending (row_nids rows)
ascend-as level [] = refl
ascend-as level (row ∷ rows) = rise-as level (row.nid).bits rows

rise-left : (last : ℕ) (xs ys : List ℕ) → rise_from last (xs ++ ys) ≡ true → rise_from last xs ≡ true
rise-left last [] ys h = refl
rise-left last (x ∷ xs) ys h =
    let both = and_parts (ltb last x) (rise_from x (xs ++ ys)) h in
    and_from (ltb last x) (rise_from x xs) both.0 (rise-left x xs ys both.1)

pub ascending-left : (xs ys : List ℕ) → ascending (xs ++ ys) ≡ true → ascending xs ≡ true
ascending-left [] ys h = refl
ascending-left (x ∷ xs) ys h = rise-left x xs ys h

rise-ascending : (last : ℕ) (xs : List ℕ) → rise_from last xs ≡ true → ascending xs ≡ true
rise-ascending last [] h = refl
rise-ascending last (x ∷ xs) h = (and_parts (ltb last x) (rise_from x xs) h).1

rise-right : (last : ℕ) (xs ys : List ℕ) → rise_from last (xs ++ ys) ≡ true → ascending ys ≡ true
rise-right last [] ys h = rise-ascending last ys h
rise-right last (x ∷ xs) ys h = rise-right x xs ys (and_parts (ltb last x) (rise_from x (xs ++ ys)) h).1

pub ascending-right : (xs ys : List ℕ) → ascending (xs ++ ys) ≡ true → ascending ys ≡ true
ascending-right [] ys h = h
ascending-right (x ∷ xs) ys h = rise-right x xs ys h

rise-lower : (low last : ℕ) (xs : List ℕ) → low ≤ last → rise_from last xs ≡ true → rise_from low xs ≡ true
rise-lower low last [] h rise = refl
rise-lower low last (x ∷ xs) h rise =
    let both = and_parts (ltb last x) (rise_from x xs) rise in
    let above = ltb-true last x both.0 in
    and_from (ltb low x) (rise_from x xs) (lt-ltb low x (omega arith)) both.1

rise-behind : (last : ℕ) (xs ys : List ℕ) → rise_from last (xs ++ ys) ≡ true → rise_from last ys ≡ true
rise-behind last [] ys rise = rise
rise-behind last (x ∷ xs) ys rise =
    let both = and_parts (ltb last x) (rise_from x (xs ++ ys)) rise in
    let above = ltb-true last x both.0 in
    rise-lower last x ys (omega arith) (rise-behind x xs ys both.1)

-- the first NIDs of some parts ascend
listed-rise-as : (last next : ℕ) (parts : List (List Row)) → Each (λ (part : List Row). 0 < length part) parts → rise_from last (row_nids (joined parts)) ≡ true → listed_rise last (listed_as next parts) ≡ true
listed-rise-as last next [] some rise = refl
listed-rise-as last next ([] ∷ parts) some rise = let none = some.0 in absurd (omega arith)
listed-rise-as last next ((row ∷ rows) ∷ parts) some rise =
    let nid_of = λ (row : Row). (row.nid).bits in
    let nid = (row.nid).bits in
    let both = and_parts (ltb last nid) (rise_from nid (row_nids (rows ++ joined parts))) rise in
    let after : rise_from nid (row_nids rows ++ row_nids (joined parts)) ≡ true = ap (rise_from nid) (sym (map-append nid_of rows (joined parts))) ∙ both.1 in
    and_from (ltb last nid) (listed_rise nid (listed_as (next + 4) parts)) both.0
    (listed-rise-as nid (next + 4) parts some.1 (rise-behind nid (row_nids rows) (row_nids (joined parts)) after))

listed-ascend-as : (next : ℕ) (parts : List (List Row)) → Each (λ (part : List Row). 0 < length part) parts → ascending (row_nids (joined parts)) ≡ true → listed_ascend (listed_as next parts) ≡ true
listed-ascend-as next [] some rise = refl
listed-ascend-as next ([] ∷ parts) some rise = let none = some.0 in absurd (omega arith)
listed-ascend-as next ((row ∷ rows) ∷ parts) some rise =
    let nid_of = λ (row : Row). (row.nid).bits in
    let nid = (row.nid).bits in
    let after : rise_from nid (row_nids rows ++ row_nids (joined parts)) ≡ true = ap (rise_from nid) (sym (map-append nid_of rows (joined parts))) ∙ rise in
    listed-rise-as nid (next + 4) parts some.1 (rise-behind nid (row_nids rows) (row_nids (joined parts)) after)

-- none is below the first
reach-rise : (level low last : ℕ) (rows : List Row) → low ≤ last → rise_from last (row_nids rows) ≡ true → reach low (map (entry_as level) rows) ≡ true
reach-rise level low last [] h rise = refl
reach-rise level low last (row ∷ rows) h rise =
    let both = and_parts (ltb last (row.nid).bits) (rise_from (row.nid).bits (row_nids rows)) rise in
    let above = ltb-true last (row.nid).bits both.0 in
    and_from (leb low (row.nid).bits) (reach low (map (entry_as level) rows)) (le-leb low (row.nid).bits (omega arith)) (reach-rise level low (row.nid).bits rows (omega arith) both.1)

reach-first : (level : ℕ) (rows : List Row) → ascending (row_nids rows) ≡ true → reach (first_nid rows) (map (entry_as level) rows) ≡ true
reach-first level [] rise = refl
reach-first level (row ∷ rows) rise =
    and_from (leb (row.nid).bits (row.nid).bits) (reach (row.nid).bits (map (entry_as level) rows)) (le-leb (row.nid).bits (row.nid).bits (omega arith))
    (reach-rise level (row.nid).bits (row.nid).bits rows (omega arith) rise)

-- ---- reading them

part_in-leaf : (level : ℕ) (listed : Listed) (rows : List Row) → length rows ≤ 340 → Each Fits rows → reach (listed.nid).bits (map (entry_as level) rows) ≡ true
    → part_in level listed (leaf rows) ≡ Ok (map (entry_as level) rows)
unfolding part_in
part_in-leaf level listed rows few fits reached =
    let laid = is_leaf-leaf rows few in
    let entries = entries_of-leaf level rows few fits in
    rw (laid, entries, reached) refl

parts-read : (find : ℕ → Option (List ℕ)) (level next : ℕ) (parts : List (List Row)) → Each (λ (part : List Row). length part ≤ 340) parts → Each (Each Fits) parts
    → ascending (row_nids (joined parts)) ≡ true → Each (IsFound find) (numbered 2 next (map leaf parts))
    → parts_of find level (listed_as next parts) ≡ Ok (map (entry_as level) (joined parts))
parts-read find level next [] short fits rise found = refl
parts-read find level next (part ∷ parts) short fits rise found =
    let listed : Listed = record { nid = record { bits = first_nid part }; block = record { bits = next + 2 } } in
    let nid_of = λ (row : Row). (row.nid).bits in
    let whole : ascending (row_nids part ++ row_nids (joined parts)) ≡ true = subst (λ (nids : List ℕ). ascending nids ≡ true) (map-append nid_of part (joined parts)) rise in
    let here : part_of find level listed ≡ Ok (map (entry_as level) part) =
    ap (λ (r : Result (List ℕ) TreeStop). and_then r (part_in level listed)) (ap (named listed.block) found.0)
    ∙ part_in-leaf level listed part short.0 fits.0 (reach-first level part (ascending-left (row_nids part) (row_nids (joined parts)) whole)) in
    let more = parts-read find level (next + 4) parts short.1 fits.1 (ascending-right (row_nids part) (row_nids (joined parts)) whole) found.1 in
    ap (λ (r : Result (List SubEntry) TreeStop). and_then r (λ here. and_then (parts_of find level (listed_as (next + 4) parts)) (λ rest. Ok (here ++ rest)))) here
    ∙ ap (λ (r : Result (List SubEntry) TreeStop). and_then r (λ rest. Ok (map (entry_as level) part ++ rest))) more
    ∙ ap Ok (sym (map-append (entry_as level) part (joined parts)))

ordered-as : (level : ℕ) (bid : Bid) (rows : List Row) → ascending (row_nids rows) ≡ true → ordered bid (map (entry_as level) rows) ≡ Ok (map (entry_as level) rows)
ordered-as level bid rows rise = rw (ascend-as level rows ∙ rise) refl

level_in-leaf : (find : ℕ → Option (List ℕ)) (level : ℕ) (bid : Bid) (rows : List Row) → length rows ≤ 340 → Each Fits rows → ascending (row_nids rows) ≡ true
    → level_in find level bid (leaf rows) ≡ Ok (map (entry_as level) rows)
unfolding level_in
level_in-leaf find level bid rows few fits rise =
    let laid = is_leaf-leaf rows few in
    let entries = entries_of-leaf level rows few fits in
    rw (laid, entries) (ordered-as level bid rows rise)

level_in-inner : (find : ℕ → Option (List ℕ)) (level : ℕ) (bid : Bid) (listed : List Listed) (rows : List Row) → length listed ≤ 510 → Each ListedFits listed
    → listed_ascend listed ≡ true → parts_of find level listed ≡ Ok (map (entry_as level) rows) → ascending (row_nids rows) ≡ true → level_in find level bid (inner listed) ≡ Ok (map (entry_as level) rows)
unfolding level_in
level_in-inner find level bid listed rows few fits firsts parts rise =
    let other = is_leaf-inner listed in
    let laid = is_inner-inner listed few in
    let all = listed_of-inner listed few fits in
    rw (other, laid, all, firsts, parts) (ordered-as level bid rows rise)

-- ---- the blocks

pub length-leaves : (next : ℕ) (rows : List Row) → length (leaves next rows) ≡ (length rows + 339) / 340
length-leaves next rows = ap length (leaves-is next rows) ∙ length-numbered 2 next (map leaf (cut 340 rows)) ∙ length-map (cut 340 rows) leaf ∙ length-cut 340 rows

length-listed_as : (next : ℕ) (parts : List (List Row)) → length (listed_as next parts) ≡ length parts
length-listed_as next [] = refl
length-listed_as next (part ∷ parts) = ap suc (length-listed_as (next + 4) parts)

length-listed : (next : ℕ) (rows : List Row) → length (listed_as next (cut 340 rows)) ≡ (length rows + 339) / 340
length-listed next rows = length-listed_as next (cut 340 rows) ∙ length-cut 340 rows

pub few-listed : (next : ℕ) (rows : List Row) → length rows ≤ 173400 → length (listed_as next (cut 340 rows)) ≤ 510
few-listed next rows few = let e = length-listed next rows in omega arith

top-some : (next : ℕ) (listed : List Listed) → 1 < length listed → top next listed ≡ numbered 2 next (inner listed ∷ [])
unfolding top
top-some next listed some = rw (lt-ltb 1 (length listed) some) refl

top-none : (next : ℕ) (listed : List Listed) → length listed ≤ 1 → top next listed ≡ []
unfolding top
top-none next listed few = rw (le-ltb 1 (length listed) few) refl

rise-top : (next : ℕ) (listed : List Listed) → Rise next (top next listed)
rise-top next listed = elim (cases_lt 1 (length listed)) [
  | inl some ↦ rw (top-some next listed some) (rise-numbered 2 next (inner listed ∷ []) (inr refl))
  | inr none ↦ rw (top-none next listed none) tt
]

plain-top : (next : ℕ) (listed : List Listed) → next % 4 ≡ 0 → plain (top next listed) ≡ []
plain-top next listed apart = elim (cases_lt 1 (length listed)) [
  | inl some ↦ rw (top-some next listed some) (plain-marked next (inner listed ∷ []) apart)
  | inr none ↦ rw (top-none next listed none) refl
]

few-top : (next : ℕ) (listed : List Listed) → length (top next listed) ≤ 1
few-top next listed = elim (cases_lt 1 (length listed)) [
  | inl some ↦ let e = ap length (top-some next listed some) in omega arith
  | inr none ↦ let e = ap length (top-none next listed none) in omega arith
]

rise-leaves : (next : ℕ) (rows : List Row) → Rise next (leaves next rows)
rise-leaves next rows = rw (leaves-is next rows) (rise-numbered 2 next (map leaf (cut 340 rows)) (inr refl))

pub rise-tables : (next : ℕ) (rows : List Row) → Rise next (tables next rows)
unfolding tables
rise-tables next rows =
    let ls = leaves next rows in
    rise-append next ls (top (next + 4 * length ls) (listed_as next (cut 340 rows))) (rise-leaves next rows) (rise-top (next + 4 * length ls) (listed_as next (cut 340 rows)))

pub plain-tables : (next : ℕ) (rows : List Row) → next % 4 ≡ 0 → plain (tables next rows) ≡ []
unfolding tables
plain-tables next rows apart =
    let ls = leaves next rows in
    let over = top (next + 4 * length ls) (listed_as next (cut 340 rows)) in
    let none : plain ls ≡ [] = ap plain (leaves-is next rows) ∙ plain-marked next (map leaf (cut 340 rows)) apart in
    plain-append ls over ∙ ap (λ (first : List (List ℕ)). first ++ plain over) none ∙ plain-top (next + 4 * length ls) (listed_as next (cut 340 rows)) (omega arith)

pub few-tables : (next : ℕ) (rows : List Row) → length rows ≤ 173400 → length (tables next rows) ≤ 511
unfolding tables
few-tables next rows few =
    let ls = leaves next rows in
    let over = top (next + 4 * length ls) (listed_as next (cut 340 rows)) in
    let both = length-append ls over in
    let count = length-leaves next rows in
    let one = few-top (next + 4 * length ls) (listed_as next (cut 340 rows)) in
    omega arith

-- ---- the root

first-fit : (rows : List Row) → Each Fits rows → first_nid rows < 2 ^ 32
first-fit [] fits = omega arith
first-fit (row ∷ rows) fits = fits.0.nid

listed-fit : (next : ℕ) (parts : List (List Row)) → next + 4 * length parts + 2 ≤ 2 ^ 64 → Each (Each Fits) parts → Each ListedFits (listed_as next parts)
listed-fit next [] room fits = tt
listed-fit next (part ∷ parts) room fits =
    (record { nid = first-fit part fits.0; block = omega arith }, listed-fit (next + 4) parts (omega arith) fits.1)

pub last-high : (next : ℕ) (blocks : List (Bid × List ℕ)) → Rise next blocks → last_id blocks ≤ next + 4 * length blocks
last-high next [] rise = omega arith
last-high next (block ∷ []) rise = elim (rise.0) [ inl same ↦ omega arith | inr two ↦ omega arith ]
last-high next (block ∷ (other ∷ blocks)) rise = let rest = last-high (next + 4) (other ∷ blocks) rise.1 in omega arith

last-low : (next : ℕ) (blocks : List (Bid × List ℕ)) → Rise next blocks → 0 < length blocks → next ≤ last_id blocks
last-low next [] rise some = absurd (omega arith)
last-low next (block ∷ []) rise some = elim (rise.0) [ inl same ↦ omega arith | inr two ↦ omega arith ]
last-low next (block ∷ (other ∷ blocks)) rise some = let rest = last-low (next + 4) (other ∷ blocks) rise.1 (omega arith) in omega arith

some-tables : (next : ℕ) (rows : List Row) → 0 < length rows → 0 < length (tables next rows)
unfolding tables
some-tables next rows some =
    let ls = leaves next rows in
    let both = length-append ls (top (next + 4 * length ls) (listed_as next (cut 340 rows))) in
    let count = length-leaves next rows in
    omega arith

pub root-some : (next : ℕ) (rows : List Row) → 0 < next → 0 < length rows → last_id (tables next rows) ≡ 0 → ⊥
root-some next rows low some none =
    let count : 0 < length (tables next rows) = some-tables next rows some in
    let least = last-low next (tables next rows) (rise-tables next rows) count in
    absurd (omega arith)

pub root-none : (next : ℕ) (rows : List Row) → length rows ≡ 0 → last_id (tables next rows) ≡ 0
unfolding tables leaves cut top
root-none next [] none = refl
root-none next (row ∷ rows) none = absurd (omega arith)

level_of-found : (find : ℕ → Option (List ℕ)) (level : ℕ) (bid : Bid) (b : List ℕ) → find (key_of bid.bits) ≡ Some b → level_of find level bid ≡ level_in find level bid b
level_of-found find level bid b found = ap (λ (r : Result (List ℕ) TreeStop). and_then r (level_in find level bid)) (ap (named bid) found)

pub tables-read : (find : ℕ → Option (List ℕ)) (level next : ℕ) (rows : List Row) → next ≤ 2 ^ 63 → 0 < length rows → length rows ≤ 173400 → Each Fits rows → ascending (row_nids rows) ≡ true
    → Each (IsFound find) (tables next rows) → level_of find level (record { bits = last_id (tables next rows) }) ≡ Ok (map (entry_as level) rows)
unfolding tables
tables-read find level next rows high some few fits rise found =
    let parts = cut 340 rows in
    let ls = leaves next rows in
    let listed = listed_as next parts in
    let at = next + 4 * length ls in
    let count = length-listed next rows in
    let number = length-leaves next rows in
    let made = length-cut 340 rows in
    let least = length-listed_as next parts in
    elim (cases_lt 1 (length listed)) [
      | inl more ↦
          let bid : Bid = record { bits = at + 2 } in
          let over : top at listed ≡ (bid, inner listed) ∷ [] = top-some at listed more in
          let all : Each (IsFound find) (ls ++ (bid, inner listed) ∷ []) = subst (λ (blocks : List (Bid × List ℕ)). Each (IsFound find) (ls ++ blocks)) over found in
          let below : Each (IsFound find) (numbered 2 next (map leaf parts)) =
          subst (λ (blocks : List (Bid × List ℕ)). Each (IsFound find) blocks) (leaves-is next rows) (each-left (IsFound find) ls ((bid, inner listed) ∷ []) all) in
          let whole : joined parts ≡ rows = joined-cut 340 rows (omega arith) in
          let rising : ascending (row_nids (joined parts)) ≡ true = ap (λ (rs : List Row). ascending (row_nids rs)) whole ∙ rise in
          let read : parts_of find level listed ≡ Ok (map (entry_as level) rows) =
          parts-read find level next parts (cut-short 340 rows) (cut-each Fits 340 rows fits) rising below ∙ ap (λ (rs : List Row). Ok (map (entry_as level) rs)) whole in
          ap (λ (blocks : List (Bid × List ℕ)). level_of find level (record { bits = last_id (ls ++ blocks) })) over
          ∙ ap (λ (n : ℕ). level_of find level (record { bits = n })) (last-append ls (bid, inner listed) [])
          ∙ level_of-found find level bid (inner listed) (each-right (IsFound find) ls ((bid, inner listed) ∷ []) all).0
          ∙ level_in-inner find level bid listed rows (omega arith) (listed-fit next parts (omega arith) (cut-each Fits 340 rows fits)) (listed-ascend-as next parts (cut-some 340 rows (omega arith)) rising) read rise
      | inr one ↦
          let bid : Bid = record { bits = next + 2 } in
          let short : length rows ≤ 340 = omega arith in
          let alone : ls ++ top at listed ≡ (bid, leaf rows) ∷ [] =
          ap (λ (blocks : List (Bid × List ℕ)). ls ++ blocks) (top-none at listed one) ∙ append-nil ls ∙ leaves-is next rows
          ∙ ap (λ (ps : List (List Row)). numbered 2 next (map leaf ps)) (cut-one 340 rows some short) in
          let all : Each (IsFound find) ((bid, leaf rows) ∷ []) = subst (λ (blocks : List (Bid × List ℕ)). Each (IsFound find) blocks) alone found in
          ap (λ (blocks : List (Bid × List ℕ)). level_of find level (record { bits = last_id blocks })) alone
          ∙ level_of-found find level bid (leaf rows) all.0 ∙ level_in-leaf find level bid rows short fits rise
    ]

-- ---- how many there are, and how large

pub fewer-tables : (next : ℕ) (rows : List Row) → length (tables next rows) ≤ length rows
unfolding tables
fewer-tables next rows =
    let ls = leaves next rows in
    let listed = listed_as next (cut 340 rows) in
    let at = next + 4 * length ls in
    let both = length-append ls (top at listed) in
    let count = length-leaves next rows in
    let width = length-listed next rows in
    elim (cases_lt 1 (length listed)) [
      | inl more ↦ let one = few-top at listed in omega arith
      | inr none ↦ let one = ap length (top-none at listed none) in omega arith
    ]

small-leaf : (rows : List Row) → length rows ≤ 340 → Short (leaf rows)
small-leaf rows few = let whole = length-table 0 (length rows) (rows_bytes rows) in let size = length-rows_bytes rows in omega arith

small-inner : (listed : List Listed) → length listed ≤ 510 → Short (inner listed)
small-inner listed few = let whole = length-table 1 (length listed) (listed_bytes listed) in let size = length-listed_bytes listed in omega arith

small-leaves : (parts : List (List Row)) → Each (λ (part : List Row). length part ≤ 340) parts → Each Short (map leaf parts)
small-leaves [] all = tt
small-leaves (part ∷ parts) all = (small-leaf part all.0, small-leaves parts all.1)

small-top : (next : ℕ) (listed : List Listed) → length listed ≤ 510 → Each Small (top next listed)
small-top next listed few = elim (cases_lt 1 (length listed)) [
  | inl some ↦ rw (top-some next listed some) (small-numbered 2 next (inner listed ∷ []) (small-inner listed few, tt))
  | inr none ↦ rw (top-none next listed none) tt
]

pub small-tables : (next : ℕ) (rows : List Row) → length rows ≤ 173400 → Each Small (tables next rows)
unfolding tables
small-tables next rows few =
    let ls = leaves next rows in
    let listed = listed_as next (cut 340 rows) in
    let small : Each Small ls = subst (λ (l : List (Bid × List ℕ)). Each Small l) (sym (leaves-is next rows)) (small-numbered 2 next (map leaf (cut 340 rows)) (small-leaves (cut 340 rows) (cut-short 340 rows))) in
    each-append Small ls (top (next + 4 * length ls) listed) small (small-top (next + 4 * length ls) listed (few-listed next rows few))

-- ---- their keys

listed-keys : (next : ℕ) (parts : List (List Row)) → map (λ (l : Listed). key_of (l.block).bits) (listed_as next parts) ≡ keys_of (bids_in (numbered 2 next (map leaf parts)))
listed-keys next [] = refl
listed-keys next (part ∷ parts) = ap (λ (ks : List ℕ). key_of (next + 2) ∷ ks) (listed-keys (next + 4) parts)

in-leaf : (rows : List Row) → length rows ≤ 340 → listed_in (Some (leaf rows)) ≡ []
in-leaf rows few = rw (is_leaf-leaf rows few) refl

in-inner : (listed : List Listed) → length listed ≤ 510 → Each ListedFits listed → listed_in (Some (inner listed)) ≡ map (λ (l : Listed). key_of (l.block).bits) listed
in-inner listed few fits = rw (is_leaf-inner listed, is_inner-inner listed few, listed_of-inner listed few fits) refl

pub tables-keys : (find : ℕ → Option (List ℕ)) (key next bits : ℕ) (rows : List Row) → next ≤ 2 ^ 63 → 0 < length rows → length rows ≤ 173400 → Each Fits rows → bits ≡ last_id (tables next rows)
    → Each (IsFound find) (tables next rows) → count_of key (key_of bits ∷ listed_in (find (key_of bits))) ≡ count_of key (keys_of (bids_in (tables next rows)))
unfolding tables
tables-keys find key next bits rows high some few fits is found =
    let ls = leaves next rows in
    let parts = cut 340 rows in
    let listed = listed_as next parts in
    let at = next + 4 * length ls in
    let count = length-listed next rows in
    let number = length-leaves next rows in
    let made = length-cut 340 rows in
    let least = length-listed_as next parts in
    elim (cases_lt 1 (length listed)) [
      | inl more ↦
          let bid : Bid = record { bits = at + 2 } in
          let over : top at listed ≡ (bid, inner listed) ∷ [] = top-some at listed more in
          let all : Each (IsFound find) (ls ++ (bid, inner listed) ∷ []) = subst (λ (blocks : List (Bid × List ℕ)). Each (IsFound find) (ls ++ blocks)) over found in
          let root : bits ≡ at + 2 = is ∙ ap (λ (blocks : List (Bid × List ℕ)). last_id (ls ++ blocks)) over ∙ last-append ls (bid, inner listed) [] in
          let block : find (key_of bits) ≡ Some (inner listed) = ap (λ (n : ℕ). find (key_of n)) root ∙ (each-right (IsFound find) ls ((bid, inner listed) ∷ []) all).0 in
          let names : listed_in (find (key_of bits)) ≡ keys_of (bids_in ls) =
          ap listed_in block ∙ in-inner listed (omega arith) (listed-fit next parts (omega arith) (cut-each Fits 340 rows fits)) ∙ listed-keys next parts ∙ ap (λ (l : List (Bid × List ℕ)). keys_of (bids_in l)) (sym (leaves-is next rows)) in
          let whole = ap (λ (ks : List ℕ). count_of key (key_of bits ∷ ks)) names in
          let first = ap (λ (n : ℕ). count_of key (key_of n ∷ [])) root in
          let both = count-blocks key ls ((bid, inner listed) ∷ []) in
          let tops = ap (λ (l : List (Bid × List ℕ)). count_of key (keys_of (bids_in (ls ++ l)))) over in
          omega (arith, whole, first, both, tops)
      | inr one ↦
          let bid : Bid = record { bits = next + 2 } in
          let short : length rows ≤ 340 = omega arith in
          let alone : ls ++ top at listed ≡ (bid, leaf rows) ∷ [] =
          ap (λ (blocks : List (Bid × List ℕ)). ls ++ blocks) (top-none at listed one) ∙ append-nil ls ∙ leaves-is next rows
          ∙ ap (λ (ps : List (List Row)). numbered 2 next (map leaf ps)) (cut-one 340 rows some short) in
          let all : Each (IsFound find) ((bid, leaf rows) ∷ []) = subst (λ (blocks : List (Bid × List ℕ)). Each (IsFound find) blocks) alone found in
          let root : bits ≡ next + 2 = is ∙ ap last_id alone in
          let block : find (key_of bits) ≡ Some (leaf rows) = ap (λ (n : ℕ). find (key_of n)) root ∙ all.0 in
          let names : listed_in (find (key_of bits)) ≡ [] = ap listed_in block ∙ in-leaf rows short in
          ap (λ (ks : List ℕ). count_of key (key_of bits ∷ ks)) names ∙ ap (λ (n : ℕ). count_of key (key_of n ∷ [])) root ∙ ap (λ (l : List (Bid × List ℕ)). count_of key (keys_of (bids_in l))) (sym alone)
    ]

-- ---- how many bytes they have

pub bytes-more : (xs ys : List (Bid × List ℕ)) → bytes_in (contents (xs ++ ys)) ≡ bytes_in (contents xs) + bytes_in (contents ys)
bytes-more [] ys = omega arith
bytes-more (x ∷ xs) ys = let rest = bytes-more xs ys in omega (arith, rest)

room-leaves : (next : ℕ) (parts : List (List Row)) → 24 * length (joined parts) ≤ bytes_in (contents (numbered 2 next (map leaf parts)))
room-leaves next [] = omega arith
room-leaves next (part ∷ parts) =
    let whole = length-table 0 (length part) (rows_bytes part) in
    let size = length-rows_bytes part in
    let both = length-append part (joined parts) in
    let rest = room-leaves (next + 4) parts in
    omega (arith, whole, size, both, rest)

-- each entry stands in 24 bytes
pub room-tables : (next : ℕ) (rows : List Row) → 24 * length rows ≤ bytes_in (contents (tables next rows))
unfolding tables
room-tables next rows =
    let ls = leaves next rows in
    let over = top (next + 4 * length ls) (listed_as next (cut 340 rows)) in
    let both = bytes-more ls over in
    let here = room-leaves next (cut 340 rows) in
    let same = ap length (joined-cut 340 rows (omega arith)) in
    let is = ap (λ (l : List (Bid × List ℕ)). bytes_in (contents l)) (leaves-is next rows) in
    omega (arith, both, here, same, is)
