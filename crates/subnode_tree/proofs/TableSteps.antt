-- The steps of the making of blocks that list subnodes.
use Rattle.std.proofs.Common.{◌≡◌, ℕ, ◌+◌, ◌<◌, ◌≤◌, min, List, [], ◌∷◌, ◌++◌, length, map, take, drop, get_or, refl, sym, ap, ◌∙◌, arith, append_assoc, append-nil}
use Rattle.std.proofs.lemmas.List.{drop_more}
use Rattle.byteorder.specs.Endian.{little_bytes}
use Rattle.pst_base.specs.declared.ids.Bid.{Bid}
use Rattle.data_tree.specs.Plan.{cut, numbered}
use Rattle.data_tree.proofs.PieceLaws.{cut-none, cut-front}
use Rattle.subnode_tree.specs.declared.blocks.Listed.{Listed}
use Rattle.subnode_tree.specs.declared.tables.Row.{Row}
use Rattle.subnode_tree.specs.Tables.{first_nid, leaf, leaves, listed_as, listed_bytes, rows_bytes}

pub leaves-is : (next : ℕ) (rows : List Row) → leaves next rows ≡ numbered 2 next (map leaf (cut 340 rows))
unfolding leaves
leaves-is next rows = refl

-- one entry more in a block of level 0
pub row-step : (i : ℕ) (rows : List Row) (d : Row) (out a b e : List ℕ) → i < length rows → a ≡ little_bytes 8 ((get_or rows i d).nid).bits → b ≡ little_bytes 8 ((get_or rows i d).content).bits
    → e ≡ little_bytes 8 ((get_or rows i d).subnodes).bits → ((out ++ a) ++ b) ++ e ++ rows_bytes (drop (i + 1) rows) ≡ out ++ rows_bytes (drop i rows)
row-step i rows d out a b e within is_a is_b is_e =
    let rest = rows_bytes (drop (i + 1) rows) in
    let all : a ++ (b ++ (e ++ rest)) ≡ rows_bytes (drop i rows) =
    ap (λ (x : List ℕ). x ++ (b ++ (e ++ rest))) is_a ∙ ap (λ (x : List ℕ). little_bytes 8 ((get_or rows i d).nid).bits ++ (x ++ (e ++ rest))) is_b
    ∙ ap (λ (x : List ℕ). little_bytes 8 ((get_or rows i d).nid).bits ++ (little_bytes 8 ((get_or rows i d).content).bits ++ (x ++ rest))) is_e
    ∙ ap rows_bytes (sym (drop_more rows i d within)) in
    append_assoc ((out ++ a) ++ b) e rest ∙ append_assoc (out ++ a) b (e ++ rest) ∙ append_assoc out a (b ++ (e ++ rest)) ∙ ap (λ (x : List ℕ). out ++ x) all

-- one entry more in a block of level 1
pub entry-step : (i : ℕ) (listed : List Listed) (d : Listed) (out a b : List ℕ) → i < length listed → a ≡ little_bytes 8 ((get_or listed i d).nid).bits → b ≡ little_bytes 8 ((get_or listed i d).block).bits
    → (out ++ a) ++ b ++ listed_bytes (drop (i + 1) listed) ≡ out ++ listed_bytes (drop i listed)
entry-step i listed d out a b within is_a is_b =
    let rest = listed_bytes (drop (i + 1) listed) in
    let all : a ++ (b ++ rest) ≡ listed_bytes (drop i listed) =
    ap (λ (x : List ℕ). x ++ (b ++ rest)) is_a ∙ ap (λ (x : List ℕ). little_bytes 8 ((get_or listed i d).nid).bits ++ (x ++ rest)) is_b
    ∙ ap listed_bytes (sym (drop_more listed i d within)) in
    append_assoc (out ++ a) b rest ∙ append_assoc out a (b ++ rest) ∙ ap (λ (x : List ℕ). out ++ x) all

-- one block of level 0 more
pub leaves-step : (bits n : ℕ) (rest here others : List Row) (out : List (Bid × List ℕ)) (block : List ℕ) (whole : List (Bid × List ℕ))
    → 0 < length rest → n ≡ min 340 (length rest) → here ≡ take n rest → others ≡ drop n rest → block ≡ leaf here
    → out ++ numbered 2 bits (map leaf (cut 340 rest)) ≡ whole
    → (out ++ (record { bits = bits + 2 }, block) ∷ []) ++ numbered 2 (bits + 4) (map leaf (cut 340 others)) ≡ whole
leaves-step bits n rest here others out block whole some is first later made so_far =
    let all : cut 340 rest ≡ here ∷ cut 340 others = cut-front 340 n rest here others (omega arith) some is first later in
    append_assoc out ((record { bits = bits + 2 }, block) ∷ []) (numbered 2 (bits + 4) (map leaf (cut 340 others)))
    ∙ ap (λ (b : List ℕ). out ++ (record { bits = bits + 2 }, b) ∷ numbered 2 (bits + 4) (map leaf (cut 340 others))) made
    ∙ ap (λ (parts : List (List Row)). out ++ numbered 2 bits (map leaf parts)) (sym all) ∙ so_far

first-at : (rows : List Row) (d : Row) → 0 < length rows → ((get_or rows 0 d).nid).bits ≡ first_nid rows
first-at [] d some = absurd (omega arith)
first-at (row ∷ rows) d some = refl

-- how it is listed
pub listed-step : (bits n : ℕ) (rest here others : List Row) (out : List Listed) (d : Row) (whole : List Listed)
    → 0 < length rest → 0 < length here → n ≡ min 340 (length rest) → here ≡ take n rest → others ≡ drop n rest
    → out ++ listed_as bits (cut 340 rest) ≡ whole
    → (out ++ record { nid = (get_or here 0 d).nid; block = record { bits = bits + 2 } } ∷ []) ++ listed_as (bits + 4) (cut 340 others) ≡ whole
listed-step bits n rest here others out d whole some begun is first later so_far =
    let all : cut 340 rest ≡ here ∷ cut 340 others = cut-front 340 n rest here others (omega arith) some is first later in
    append_assoc out (record { nid = (get_or here 0 d).nid; block = record { bits = bits + 2 } } ∷ []) (listed_as (bits + 4) (cut 340 others))
    ∙ ap (λ (nid : ℕ). out ++ record { nid = record { bits = nid }; block = record { bits = bits + 2 } } ∷ listed_as (bits + 4) (cut 340 others)) (first-at here d begun)
    ∙ ap (λ (parts : List (List Row)). out ++ listed_as bits parts) (sym all) ∙ so_far

pub leaves-end : (bits : ℕ) (out whole : List (Bid × List ℕ)) (rest : List Row) → length rest ≤ 0 → out ++ numbered 2 bits (map leaf (cut 340 rest)) ≡ whole → out ≡ whole
leaves-end bits out whole rest none so_far =
    sym (append-nil out) ∙ ap (λ (parts : List (List Row)). out ++ numbered 2 bits (map leaf parts)) (sym (cut-none 340 rest (omega arith) none)) ∙ so_far

pub listed-end : (bits : ℕ) (out whole : List Listed) (rest : List Row) → length rest ≤ 0 → out ++ listed_as bits (cut 340 rest) ≡ whole → out ≡ whole
listed-end bits out whole rest none so_far =
    sym (append-nil out) ∙ ap (λ (parts : List (List Row)). out ++ listed_as bits parts) (sym (cut-none 340 rest (omega arith) none)) ∙ so_far
