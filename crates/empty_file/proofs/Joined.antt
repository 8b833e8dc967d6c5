-- The parts of a file without nodes, put together one by one.
use Rattle.std.proofs.Common.{◌≡◌, ◌∙◌, ℕ, List, [], ◌∷◌, ◌++◌, replicate, Ok, ap, subst}
use Rattle.pst_base.specs.declared.ids.Bref.{Bref}
use Rattle.pst_base.specs.Ids.{key_of}
use Rattle.pst_header.specs.declared.header.Header.{Header}
use Rattle.btree_pages.specs.Entries.{node_key}
use Rattle.btree_pages.specs.Pages.{page_of}
use Rattle.lays_kept.specs.declared.Piece.{Piece}
use Rattle.empty_file.specs.Empty.{AddsPage, AreParts, IsHeaderPart, block_root, dense_at, last_part, map_at, node_root}

-- one page more, under an id and at a place that are known
pub adds-at : {kind : ℕ} {at known : Bref} {body : List ℕ} {old new : List Piece} → at ≡ known → AddsPage kind at body old new → AddsPage kind known body old new
adds-at {kind} {at} {known} {body} {old} {new} is adds = subst (λ (a : Bref). AddsPage kind a body old new) is adds

-- and behind parts that are known
behind : (old new known : List Piece) (part : Piece) → new ≡ old ++ part ∷ [] → old ≡ known → new ≡ known ++ part ∷ []
behind old new known part added is = added ∙ ap (λ (l : List Piece). l ++ part ∷ []) is

pub all-parts : (header : Header) (head : Piece) (none first a b c d e all : List Piece) (bs ns : List ℕ) → IsHeaderPart header head → none ≡ [] → first ≡ none ++ head ∷ []
    → AddsPage 0x86 dense_at (replicate 496 0) first a → AddsPage 0x84 (map_at 0x4400) (replicate 496 0xff) a b → AddsPage 0x83 (map_at 0x4600) (replicate 496 0xff) b c
    → AddsPage 0x80 block_root bs c d → page_of key_of 24 bs ≡ Ok (record { level = 0; entries = [] }) → AddsPage 0x81 node_root ns d e → page_of node_key 32 ns ≡ Ok (record { level = 0; entries = [] })
    → all ≡ e ++ last_part ∷ [] → AreParts header all
all-parts header head none first a b c d e all bs ns is_head no_parts one dense map page_map blocks no_blocks nodes no_nodes last =
    let f1 : first ≡ head ∷ [] = behind none first [] head one no_parts in
    let f2 : a ≡ head ∷ dense.part ∷ [] = behind first a (head ∷ []) dense.part dense.added f1 in
    let f3 : b ≡ head ∷ dense.part ∷ map.part ∷ [] = behind a b (head ∷ dense.part ∷ []) map.part map.added f2 in
    let f4 : c ≡ head ∷ dense.part ∷ map.part ∷ page_map.part ∷ [] = behind b c (head ∷ dense.part ∷ map.part ∷ []) page_map.part page_map.added f3 in
    let f5 : d ≡ head ∷ dense.part ∷ map.part ∷ page_map.part ∷ blocks.part ∷ [] = behind c d (head ∷ dense.part ∷ map.part ∷ page_map.part ∷ []) blocks.part blocks.added f4 in
    let f6 : e ≡ head ∷ dense.part ∷ map.part ∷ page_map.part ∷ blocks.part ∷ nodes.part ∷ [] = behind d e (head ∷ dense.part ∷ map.part ∷ page_map.part ∷ blocks.part ∷ []) nodes.part nodes.added f5 in
    record {
      head = head;
      dense = dense.part;
      map = map.part;
      page_map = page_map.part;
      blocks = blocks.part;
      nodes = nodes.part;
      are = behind e all (head ∷ dense.part ∷ map.part ∷ page_map.part ∷ blocks.part ∷ nodes.part ∷ []) last_part last f6;
      is_head = is_head;
      is_dense = dense.is;
      is_map = map.is;
      is_page_map = page_map.is;
      is_blocks = record { body = bs; page = blocks.is; reads = no_blocks };
      is_nodes = record { body = ns; page = nodes.is; reads = no_nodes };
    }
