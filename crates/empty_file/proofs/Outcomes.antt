-- What is found of a file without nodes once it is laid, over a world that was only looked at before.
use Rattle.std.proofs.Common.{◌≡◌, ◌∙◌, ℕ, ◌-◌, ◌%◌, max, List, [], ◌∷◌, ◌++◌, length, inl, inr, sym, ap, subst, arith}
use Rattle.pst_base.specs.declared.ids.Bref.{Bref}
use Rattle.pst_outside.specs.World.{Image, World}
use Rattle.pst_outside.specs.Calls.{NeverFall, Untouched}
use Rattle.alloc_map.specs.Standing.{occupied, IsCovered}
use Rattle.file_blocks.specs.Blocks.{file_of, found_in}
use Rattle.file_layout.specs.Nodes.{blocks_in, nodes_in, places_of}
use Rattle.file_layout.specs.Numbers.{counted_to, next_block, next_page, past_pages}
use Rattle.file_layout.specs.Trees.{Found}
use Rattle.file_scan.specs.declared.scan.FoundFile.{FoundFile}
use Rattle.node_reach.specs.Reach.{uses_of}
use Rattle.empty_file.specs.Empty.{HasBytes, IsVacant, LaysNothing, alone, block_root, node_root}
use Rattle.empty_file.specs.Known.{IsFoundEmpty, IsKnown}

pub found-none : (image : Image) (found : FoundFile) → IsKnown found → LaysNothing found.header image → IsFoundEmpty image found
found-none image found known laid =
    let blocks : Found = laid.lays.blocks in
    let nodes : Found = laid.lays.nodes in
    let one : blocks ≡ alone block_root = laid.blocks in
    let two : nodes ≡ alone node_root = laid.roots in
    let pages : blocks.pages ++ nodes.pages ≡ block_root ∷ node_root ∷ [] = ap (λ (b : Found). b.pages ++ nodes.pages) one ∙ ap (λ (n : Found). block_root ∷ n.pages) two in
    record {
      is = record {
        opened = laid.opened;
        nodes = laid.nodes;
        lays = laid.lays;
        size = known.size;
        used = subst (λ (n : Found). IsCovered (occupied (places_of blocks n) 8192) found.slots) (sym two) (subst (λ (b : Found). IsCovered (occupied (places_of b (alone node_root)) 8192) found.slots) (sym one) known.used);
        pages = known.pages ∙ sym (ap (λ (l : List Bref). length l) pages);
        next_block = known.next_block ∙ sym (ap (λ (b : Found). next_block found.header (blocks_in b)) one ∙ ap (λ (n : ℕ). counted_to (max n 4) - counted_to (max n 4) % 4) known.first.next_block);
        next_page = known.next_page ∙ sym (ap (λ (l : List Bref). next_page found.header l) pages ∙ ap (λ (n : ℕ). counted_to (past_pages n (block_root ∷ node_root ∷ []))) known.first.next_page);
        refs = λ key. known.refs key ∙ sym (ap (λ (n : Found). uses_of (found_in (file_of image) (blocks_in blocks)) key (nodes_in n)) two);
      };
      none = laid.none;
    }

-- no bytes were there before
pub vacant-before : {old new : World} → Untouched old new → (new.tells → IsVacant new.here) → old.tells → IsVacant old.here
vacant-before same vacant told = let now = same.keeps_told told in subst IsVacant (same.stays.here now) (vacant now)

pub no-bytes : (image : Image) → IsVacant image → HasBytes image → ⊥
no-bytes image vacant (inl some) = let e = ap length vacant.main in omega (arith, e, some)
no-bytes image vacant (inr some) = let e = ap length vacant.side in omega (arith, e, some)

pub never-fall : {old mid new : World} → NeverFall old mid → NeverFall mid new → NeverFall old new
never-fall one two = record {
  in_faults = let a = one.in_faults in let b = two.in_faults in omega (arith, a, b);
  out_faults = let a = one.out_faults in let b = two.out_faults in omega (arith, a, b);
  disk_faults = let a = one.disk_faults in let b = two.disk_faults in omega (arith, a, b);
}
