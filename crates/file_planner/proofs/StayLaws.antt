-- What a planner knows once a plan was adopted, and while the trees stay.
use Rattle.std.proofs.Common.{Bool, ◌≡◌, ◌∙◌, ℕ, ◌-◌, ◌%◌, List, [], ◌++◌, length, Option, max, sym, ap, subst}
use Rattle.pst_header.specs.declared.header.Header.{Header}
use Rattle.alloc_map.specs.Standing.{IsCovered, occupied}
use Rattle.alloc_map.specs.Taken.{Taken}
use Rattle.file_blocks.specs.Blocks.{found_in}
use Rattle.file_layout.specs.Nodes.{block_tree, blocks_in, node_tree, nodes_in, places_of}
use Rattle.file_layout.specs.Numbers.{counted_to, past_blocks, past_pages}
use Rattle.file_layout.specs.Trees.{Found}
use Rattle.file_pages.specs.InFile.{bodies}
use Rattle.file_scan.proofs.ScanLaws.{whole-once}
use Rattle.lays_kept.specs.Kept.{SameAt}
use Rattle.lays_kept.specs.Saved.{LaysSame}
use Rattle.lays_kept.proofs.Kept.{each_back, found_kept}
use Rattle.node_layout.specs.Counts.{AreRefs}
use Rattle.ref_counts.specs.Tables.{refs_in}
use Rattle.ref_counts.specs.Changes.{HasRoomFor}
use Rattle.plan_drawing.specs.declared.effects.PlanEffects.{PlanEffects}
use Rattle.plan_placing.specs.Known.{IsKnownBy}
use Rattle.file_planner.specs.declared.planner.FilePlanner.{FilePlanner}
use Rattle.file_planner.specs.Knowing.{Knows, KnowsAfter, number_now, placing}
use Rattle.file_planner.specs.Holding.{IsHolding}
use Rattle.file_planner.proofs.ComesLaws.{SameNumbers, holding-on, none-wrong}

-- the effects of a plan are taken over, and the caches emptied
pub adopted : (p q : FilePlanner) (e : PlanEffects) (header : Header) (file : List ℕ) → q.caches.blocks ≡ [] → q.caches.nodes ≡ [] → ((mid after : List Bool) → Taken p.slots mid e.taken.items → Taken after mid e.freed.items → q.slots ≡ after)
    → ((mid after united : List Bool) → IsHolding p.slots p.held.pins.items p.held.all → Taken p.slots mid e.taken.items → Taken (placing p) united e.taken.items → Taken after mid e.freed.items → IsHolding after q.held.pins.items q.held.all)
    → (HasRoomFor p.refs e.refs.items → (key : ℕ) → refs_in q.refs key ≡ number_now key p e) → q.pages ≡ e.pages → q.next_block ≡ e.next_block → q.next_page ≡ e.next_page → KnowsAfter p e header file → Knows q header file
adopted p q e header file no_blocks no_nodes slots_are holds refs_are pages block page after =
    let slots = slots_are after.mid after.after after.takes after.frees in
    let refs = refs_are after.room in
    record {
      cached = record { blocks = none-wrong (bodies file header.eof 0x80) q.caches.blocks no_blocks; nodes = none-wrong (bodies file header.eof 0x81) q.caches.nodes no_nodes };
      known = λ m is.
          let known = after.known m is in
          record {
            size = ap (λ (s : List Bool). length s) slots ∙ known.size;
            used = subst (IsCovered (occupied (places_of is.blocks is.nodes) 8192)) (sym slots) known.used;
            refs = λ key. refs key ∙ known.refs key;
            pages = pages ∙ known.pages;
            next_block = block ∙ known.next_block;
            next_page = page ∙ known.next_page;
          };
      holding = subst (λ (s : List Bool). IsHolding s q.held.pins.items q.held.all) (sym slots) (holds after.mid after.after after.united after.holding after.takes after.takes_united after.frees);
    }

-- numbers that stay where changes are planned
pub planned : (p q : FilePlanner) → q.slots ≡ p.slots → q.held.pins ≡ p.held.pins → q.held.all ≡ p.held.all → ((key : ℕ) → refs_in q.refs key ≡ refs_in p.refs key) → q.pages ≡ p.pages → q.next_block ≡ p.next_block → q.next_page ≡ p.next_page → SameNumbers p q
planned p q slots pins union refs pages block page = record { slots = slots; pins = ap (λ v. v.items) pins; union = union; refs = refs; pages = pages; block = block; page = page }

-- and where both caches are emptied
pub emptied : (p q : FilePlanner) → q.slots ≡ p.slots → q.held.pins ≡ p.held.pins → q.held.all ≡ p.held.all → q.refs ≡ p.refs → q.pages ≡ p.pages → q.next_block ≡ p.next_block → q.next_page ≡ p.next_page → SameNumbers p q
emptied p q slots pins union refs pages block page = planned p q slots pins union (λ key. ap (λ r. refs_in r key) refs) pages block page

-- the trees stay under another header, and the caches were emptied
pub stayed : (p q : FilePlanner) (old new : Header) (file other : List ℕ) → q.caches.blocks ≡ [] → q.caches.nodes ≡ [] → SameNumbers p q
    → LaysSame old new file other → Knows p old file → Knows q new other
stayed p q old new file other no_blocks no_nodes same s knows = record {
  cached = record { blocks = none-wrong (bodies other new.eof 0x80) q.caches.blocks no_blocks; nodes = none-wrong (bodies other new.eof 0x81) q.caches.nodes no_nodes };
  known = λ m is.
      let known = knows.known s.m s.was in
      let b : Found = s.was.blocks in
      let n : Found = s.was.nodes in
      let kept = each_back (SameAt file other) _ _ s.bytes in
      let find : found_in other (blocks_in b) ≡ found_in file (blocks_in b) = λ i key. found_kept file other (blocks_in b) kept key i in
      let by : IsKnownBy new other b n q.slots (refs_in q.refs) q.pages q.next_block q.next_page = record {
        size = ap (λ (x : List Bool). length x) same.slots ∙ known.size;
        used = subst (IsCovered (occupied (places_of b n) 8192)) (sym same.slots) known.used;
        refs = subst (λ (f : ℕ → Option (List ℕ)). AreRefs f (nodes_in n) (refs_in q.refs)) (sym find) (λ key. same.refs key ∙ known.refs key);
        pages = same.pages ∙ known.pages;
        next_block = same.block ∙ known.next_block ∙ ap (λ (k : ℕ). counted_to (past_blocks (max k 4) (blocks_in b)) - counted_to (past_blocks (max k 4) (blocks_in b)) % 4) (sym s.trees.next_block);
        next_page = same.page ∙ known.next_page ∙ ap (λ (k : ℕ). counted_to (past_pages k (b.pages ++ n.pages))) (sym s.trees.next_page);
      } in
      let one : is.blocks ≡ b = whole-once (block_tree other new.eof) new.bbt is.blocks s.is.blocks is.block_pages s.is.block_pages ∙ s.blocks in
      let two : is.nodes ≡ n = whole-once (node_tree other new.eof) new.nbt is.nodes s.is.nodes is.node_pages s.is.node_pages ∙ s.nodes in
      subst (λ (f : Found). IsKnownBy new other f is.nodes q.slots (refs_in q.refs) q.pages q.next_block q.next_page) (sym one)
      (subst (λ (f : Found). IsKnownBy new other b f q.slots (refs_in q.refs) q.pages q.next_block q.next_page) (sym two) by);
  holding = holding-on p.slots q.slots p.held.pins.items q.held.pins.items p.held.all q.held.all same.slots same.pins same.union knows.holding;
}
