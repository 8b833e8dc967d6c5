-- What a drawn plan comes to, for what holds a file.
use Rattle.std.proofs.Common.{Bool, true, ◌≡◌, ◌∙◌, ℕ, ◌+◌, ◌^◌, ◌<◌, ◌≤◌, List, [], ◌++◌, length, drop, Option, refl, sym, ap, subst, arith, length-append, length-drop, length-take}
use Rattle.std.proofs.lemmas.List.{length-map}
use Rattle.pst_base.specs.declared.ids.Nid.{Nid}
use Rattle.lru.proofs.Splits.{Contains-nil}
use Rattle.pst_base.specs.declared.ids.Bref.{Bref}
use Rattle.pst_outside.specs.World.{Image, World}
use Rattle.pst_outside.specs.Calls.{Untouched}
use Rattle.alloc_map.specs.Cells.{free_cells_of}
use Rattle.alloc_map.specs.Standing.{IsCovered, occupied}
use Rattle.file_pages.specs.InFile.{bodies}
use Rattle.page_cache.specs.declared.cache.Cached.{Cached}
use Rattle.page_cache.specs.Cache.{Holds as PagesHold}
use Rattle.pst_header.specs.declared.header.Header.{Header}
use Rattle.alloc_map.specs.Taken.{Taken}
use Rattle.file_blocks.specs.Blocks.{file_of}
use Rattle.file_blocks.specs.Stops.{Tells}
use Rattle.file_blocks.proofs.FileLaws.{behind_header, same_length}
use Rattle.file_layout.specs.Nodes.{Lays, NodeMap, nodes_in, places_of}
use Rattle.lays_kept.specs.declared.Piece.{Piece}
use Rattle.lays_kept.specs.Kept.{HoldsEach, Scattered}
use Rattle.lays_kept.specs.Renewed.{Renews}
use Rattle.lays_kept.specs.Stands.{FileStands, IsPlan}
use Rattle.lays_kept.proofs.Renewing.{led}
use Rattle.node_port.specs.declared.node.NodeRec.{NodeRec}
use Rattle.node_port.specs.Nodes as port
use Rattle.node_layout.proofs.JoinLaws.{joined}
use Rattle.node_layout.proofs.PlannedLaws.{planned-commits}
use Rattle.node_store.specs.declared.node.PageCaches.{PageCaches}
use Rattle.node_store.specs.Told.{KeepsTelling, TellsNodes}
use Rattle.pst_commit.specs.declared.store.Pin.{Pin}
use Rattle.pst_commit.specs.Held.{opened_of}
use Rattle.pst_commit.specs.Keeping.{Comes, Holds, LooksOn, PlansFor, ReadsAs}
use Rattle.pst_commit.proofs.HeldLaws.{trees_kept}
use Rattle.ref_counts.specs.Tables.{refs_in}
use Rattle.ref_counts.specs.Changes.{HasRoomFor}
use Rattle.plan_drawing.specs.declared.effects.PlanEffects.{PlanEffects}
use Rattle.plan_drawing.specs.Drawn.{IsDrawn, blocks_drawn, nodes_drawn}
use Rattle.plan_drawing.proofs.NewLaws.{sealed-count}
use Rattle.plan_drawing.proofs.FileLaws.{laid-high}
use Rattle.plan_placing.specs.Places.{placing_over}
use Rattle.plan_placing.specs.Known.{IsKnown}
use Rattle.file_planner.specs.declared.planner.FilePlanner.{FilePlanner}
use Rattle.file_planner.specs.Becomes.{IsMade}
use Rattle.file_planner.specs.Cost.{IsWithin}
use Rattle.file_planner.specs.Holding.{IsHolding, IsOver}
use Rattle.file_planner.specs.Knowing.{AreCached, Knows, KnowsAfter, cells_of, placing, spent}
use Rattle.file_planner.proofs.CostLaws
use Rattle.file_planner.proofs.DrawnLaws
use Rattle.file_planner.proofs.FollowLaws
use Rattle.file_planner.proofs.GrownLaws
use Rattle.file_planner.proofs.KnownLaws
use Rattle.file_planner.proofs.OverLaws.{keep-each, over-own, over-pin}

-- a file that was renewed lays nodes
lays-renewed : {next : Header} {bytes : List ℕ} {N : port.Nodes} → Renews next bytes N → (n : NodeMap) × Lays next bytes n
lays-renewed {next} {bytes} {N} r =
    let nodes = led _ next.eof (nodes_in r.nodes) r.lead in (
      record { counters = next.indexes; nodes = nodes.0 },
      record {
        long_enough = r.long_enough;
        small_enough = r.small_enough;
        blocks = r.blocks;
        block_pages = r.block_pages;
        stand = r.stand;
        nodes = r.nodes;
        node_pages = r.node_pages;
        are = nodes.1;
        apart = r.apart;
        counters = refl;
      },
    )

-- a drawn plan can be committed, and the planner knows what it makes
pub comes : (p : FilePlanner) (found file : List ℕ) (N : port.Nodes) (old : Header) (stands : FileStands found file N old.indexes) → stands.header ≡ old → (cs : List (Nid × Option NodeRec)) (pieces : List Piece) (sealed : List ℕ) (next : Header) (e : PlanEffects)
    → port.ascend 0 cs ≡ true → (known : IsKnown stands.lays p.slots (refs_in p.refs) p.pages p.next_block p.next_page) → IsHolding p.slots p.held.pins.items p.held.all → p.next_block < 2 ^ 61 → p.next_page < 2 ^ 61 → HasRoomFor p.refs e.refs.items
    → IsDrawn stands.lays (placing p) (refs_in p.refs) p.pages p.next_block p.next_page cs pieces sealed next e
    → Comes (KnowsAfter p e) (IsMade (opened_of p.held.pins.items)) IsWithin p.held.pins.items found old file pieces sealed next cs N
comes p found file N old stands own cs pieces sealed next e up known holding low page_low room d =
    let over : IsOver p.slots (placing p) = over-own p.slots (placing p) (opened_of p.held.pins.items) holding.with_held in
    let is : Lays stands.header file stands.m = stands.lays in
    let all : List Piece = d.growth ++ DrawnLaws.drawn_pieces is known over low d in
    let are : pieces ≡ all = d.pieces_are in
    let renews : (mid : List ℕ) → Scattered all file mid → HoldsEach mid all → Renews next (sealed ++ drop 564 mid) (port.changed N cs) = λ mid writes holds.
    joined stands.header next file (sealed ++ drop 564 mid) stands.m N is (blocks_drawn d) (nodes_drawn d) cs stands.those up (DrawnLaws.planned is known over low d) (KnownLaws.has is known over low page_low d stands.long mid writes holds) in
    record {
      plan = subst (λ (ps : List Piece). IsPlan found file ps sealed N old.indexes (port.changed N cs) next.indexes) (sym are)
          (planned-commits found file N old.indexes stands next sealed d.growth (DrawnLaws.drawn_pieces is known over low d) (blocks_drawn d) (nodes_drawn d) cs up (DrawnLaws.planned is known over low d) (DrawnLaws.next-header is known over low d) (DrawnLaws.has-room is known over low d)
          (λ bytes long kept stood. DrawnLaws.shows is known over low d bytes kept stood));
      read = d.read;
      cost = λ mid scattered each.
          let writes : Scattered all file mid = subst (λ (ps : List Piece). Scattered ps file mid) are scattered in
          let holds : HoldsEach mid all = subst (HoldsEach mid) are each in
          let later = lays-renewed (renews mid writes holds) in
          CostLaws.drawn-within is known over low page_low d stands.long mid writes holds later.1 up stands.read (KnownLaws.has is known over low page_low d stands.long mid writes holds).read;
      known = λ mid scattered each.
          let writes : Scattered all file mid = subst (λ (ps : List Piece). Scattered ps file mid) are scattered in
          let holds : HoldsEach mid all = subst (HoldsEach mid) are each in
          let here = lays-renewed (renews mid writes holds) in
          let later = KnownLaws.slots-now is known over low page_low d stands.long mid writes holds here.1 in
          record {
            mid = (DrawnLaws.own is known over low d).0;
            after = later.0;
            takes = subst (Taken p.slots (DrawnLaws.own is known over low d).0) (sym d.taken) (DrawnLaws.own is known over low d).1;
            frees = later.1;
            room = room;
            holding = holding;
            united = (d.placed).now;
            takes_united = subst (Taken (placing p) (d.placed).now) (sym d.taken) (DrawnLaws.taken-all is known over low d);
            known = λ n now. KnownLaws.known-now is known over low page_low d stands.long mid writes holds now later.0 later.1 later.2;
          };
      made = λ mid scattered each.
          let writes : Scattered all file mid = subst (λ (ps : List Piece). Scattered ps file mid) are scattered in
          let holds : HoldsEach mid all = subst (HoldsEach mid) are each in
          let has = KnownLaws.has is known over low page_low d stands.long mid writes holds in
          let later = lays-renewed (renews mid writes holds) in
          let block_count : length d.block_places ≡ length d.blocks = ap length (sym d.of_entries) ∙ length-map d.entries _ ∙ sealed-count d.blocks d.entries d.block_pieces d.sealed_blocks in
          let page_count : length (d.first_places ++ d.last_places) ≡ length d.block_pages + length d.node_pages =
          let a = length-append d.first_places d.last_places in let b = (d.block_tree).count in let c = (d.node_tree).count in omega (arith, a, b, c) in
          record {
            before = stands.header;
            was = stands.read;
            m = stands.m;
            lays = is;
            after = next;
            is = has.read;
            blocks = d.block_places;
            pages = d.first_places ++ d.last_places;
            used = p.slots;
            size = known.size;
            covered = known.used;
            all = placing p;
            with_held = holding.with_held;
            mid = (d.placed).mid;
            place_blocks = (d.placed).least_blocks;
            now = (d.placed).now;
            place_pages = (d.placed).least_pages;
            end = d.end;
            grown = GrownLaws.grown is known over low d mid holds;
            unmapped = d.unmapped;
            map_page = d.map_page;
            unique = d.unique;
            kept = d.kept;
            next_block = let a = d.next_block in let b = known.next_block in omega (arith, a, b, block_count);
            next_page = let a = d.next_page in let b = known.next_page in omega (arith, a, b, page_count);
            n = later.0;
            now_lays = later.1;
            follows = FollowLaws.follows is known over low page_low d stands.long mid writes holds later.1 up;
            own_block = (KnownLaws.numbers-now is known over low page_low d stands.long mid writes holds later.1).0;
            own_page = (KnownLaws.numbers-now is known over low page_low d stands.long mid writes holds later.1).1;
            new_blocks = KnownLaws.new-blocks is known over low page_low d stands.long mid writes holds later.1;
            renewed = KnownLaws.pages-renewed is known over low page_low d stands.long mid writes holds later.1;
          };
      keeps = λ mid scattered each.
          let writes : Scattered all file mid = subst (λ (ps : List Piece). Scattered ps file mid) are scattered in
          let holds : HoldsEach mid all = subst (HoldsEach mid) are each in
          let here = renews mid writes holds in
          let same : stands.header.eof ≡ old.eof = ap (λ (h : Header). h.eof) own in
          let grows : old.eof ≤ next.eof = let a = ((d.end).reaches).longer in omega (arith, a, same) in
          keep-each old next file (sealed ++ drop 564 mid) p.held.pins.items (λ used held nbt bbt M trees.
          let more = over-pin p.slots (placing p) used (opened_of p.held.pins.items) holding.with_held (trees.size ∙ sym known.size) held in
          trees_kept old next file (sealed ++ drop 564 mid) nbt bbt used M trees grows here.long_enough here.small_enough
          (DrawnLaws.kept-over is known over low d trees.lays (sym same) used trees.size trees.covered more mid writes));
    }

-- ---- reading

-- where a file is longer than its header its main part has one
main-long : (image : Image) → 564 < length (file_of image) → 564 ≤ length image.main
main-long image long =
    let same = ap length (behind_header image.main image.side 564 1 (omega arith)) in
    omega (arith, same, long, length-take 1 (drop 564 image.main), length-drop 564 image.main, length-take 1 (drop 564 (file_of image)), length-drop 564 (file_of image))

-- a world that tells a file which lays nodes has all its bytes
told-of : {header : Header} {world : World} {m : NodeMap} → world.tells → Lays header (file_of world.here) m → Tells world header.eof
told-of {header} {world} {m} tells lays =
    let high = laid-high lays in
    let long = lays.long_enough in
    let same = same_length world.here.main world.here.side (main-long world.here (omega (arith, high, long))) in
    record { tells = tells; whole = omega (arith, long, same) }

-- the caches of a file that is read under a header have its pages alone
pub read-tells : {p : FilePlanner} {header present : Header} {world : World} {m : NodeMap} → world.tells → Lays header (file_of world.here) m → header.eof ≡ present.eof → Knows p present (file_of world.here) → TellsNodes world header p.caches m
read-tells {p} {header} {present} {world} {m} tells lays end knows =
    let told = told-of tells lays in
    record {
      cached = record {
        blocks = record { told = told; kept = subst (λ (n : ℕ). PagesHold (bodies (file_of world.here) n 0x80) p.caches.blocks) (sym end) knows.cached.blocks };
        nodes = record { told = told; kept = subst (λ (n : ℕ). PagesHold (bodies (file_of world.here) n 0x81) p.caches.nodes) (sym end) knows.cached.nodes };
      };
      lays = lays;
    }

-- and a world that is read tells its nodes
pub reads-tells : {p : FilePlanner} {header : Header} {world : World} {N : port.Nodes} → (reads : ReadsAs (Knows p) header world N) → TellsNodes world header p.caches reads.m
reads-tells {p} {header} {world} {N} reads = read-tells reads.told reads.lays reads.end reads.known

-- nothing in a cache is wrong where nothing is in it
pub none-wrong : (find : Bref → Option (List ℕ)) (cached : List (ℕ × Cached)) → cached ≡ [] → PagesHold find cached
none-wrong find cached none = subst (PagesHold find) (sym none) (λ ib page has. absurd (Contains-nil (ib, page) has))

-- empty caches have no other pages than those of a file
pub empty-reads : {header : Header} {world : World} {m : NodeMap} (caches : PageCaches) → caches.blocks ≡ [] → caches.nodes ≡ [] → world.tells → Lays header (file_of world.here) m → TellsNodes world header caches m
empty-reads {header} {world} {m} caches no_blocks no_nodes tells lays =
    let told = told-of tells lays in
    let file : List ℕ = file_of world.here in
    record {
      cached = record {
        blocks = record { told = told; kept = none-wrong (bodies file header.eof 0x80) caches.blocks no_blocks };
        nodes = record { told = told; kept = none-wrong (bodies file header.eof 0x81) caches.nodes no_nodes };
      };
      lays = lays;
    }

-- ---- what is held

-- what is so of each reading of a file under a header
abbrev pub Drawing : FilePlanner → List ℕ → List (Nid × Option NodeRec) → List Piece → List ℕ → Header → PlanEffects → Header → Type 0
Drawing p file cs pieces sealed next e h = (m : NodeMap) (is : Lays h file m) → IsKnown is p.slots (refs_in p.refs) p.pages p.next_block p.next_page
    → IsDrawn is (placing p) (refs_in p.refs) p.pages p.next_block p.next_page cs pieces sealed next e

-- a plan that was drawn through empty caches is one for all nodes that are held then
pub plans-when : (p : FilePlanner) (found : List ℕ) (header : Header) (v w : World) (caches : PageCaches) (cs : List (Nid × Option NodeRec)) (pieces : List Piece) (sealed : List ℕ) (next : Header) (e : PlanEffects)
    → caches.blocks ≡ [] → caches.nodes ≡ [] → Untouched v w → port.ascend 0 cs ≡ true → p.next_block < 2 ^ 61 → p.next_page < 2 ^ 61 → HasRoomFor p.refs e.refs.items
    → ((m : NodeMap) (tells : TellsNodes v header caches m) → IsDrawn tells.lays (placing p) (refs_in p.refs) p.pages p.next_block p.next_page cs pieces sealed next e)
    → PlansFor (Knows p) (KnowsAfter p e) (IsMade (opened_of p.held.pins.items)) IsWithin p.held.pins.items found header w pieces sealed next cs
plans-when p found header v w caches cs pieces sealed next e no_blocks no_nodes same up low page_low room drawn N held =
    let file : List ℕ = file_of w.here in
    let is : FileStands found file N header.indexes = (held.1.stands).file in
    let own : is.header ≡ header = held.1.own in
    let there : Drawing p (file_of v.here) cs pieces sealed next e header = λ m lays known. drawn m (record { cached = (empty-reads caches no_blocks no_nodes (same.stays.told held.0) lays).cached; lays = lays }) in
    let all : Drawing p file cs pieces sealed next e header = subst (λ (i : Image). Drawing p (file_of i) cs pieces sealed next e header) (sym (same.stays.here held.0)) there in
    let here : Drawing p file cs pieces sealed next e is.header = subst (Drawing p file cs pieces sealed next e) (sym own) all in
    let knows : Knows p is.header file = subst (λ (h : Header). Knows p h file) (sym own) held.1.known in
    let known = knows.known is.m is.lays in
    comes p found file N header is own cs pieces sealed next e up known knows.holding low page_low room (here is.m is.lays known)

-- what is told through empty caches, of what is held
pub empty-tells : {p : FilePlanner} {found : List ℕ} {header : Header} {world : World} {N : port.Nodes} (caches : PageCaches) → caches.blocks ≡ [] → caches.nodes ≡ [] → Holds (Knows p) found header world N
    → (m : NodeMap) × (tells : TellsNodes world header caches m) × (length (placing p) ≡ length p.slots) × IsKnown tells.lays p.slots (refs_in p.refs) p.pages p.next_block p.next_page
empty-tells {p} {found} {header} {world} {N} caches no_blocks no_nodes held =
    let is = (held.1.stands).file in
    let lays : Lays header (file_of world.here) is.m = subst (λ (h : Header). Lays h (file_of world.here) is.m) held.1.own is.lays in
    (is.m, record { cached = (empty-reads caches no_blocks no_nodes held.0 lays).cached; lays = lays }, (held.1.known).holding.sized.whole, (held.1.known).known is.m lays)

-- ---- knowledge through other caches

-- the same numbers
pub record SameNumbers (p q : FilePlanner) : Type 0 where
  pub slots : q.slots ≡ p.slots
  pub pins : q.held.pins.items ≡ p.held.pins.items
  pub union : q.held.all ≡ p.held.all
  pub refs : (key : ℕ) → refs_in q.refs key ≡ refs_in p.refs key
  pub pages : q.pages ≡ p.pages
  pub block : q.next_block ≡ p.next_block
  pub page : q.next_page ≡ p.next_page

-- other caches are no other numbers
pub other-caches : (p : FilePlanner) (caches : PageCaches) → SameNumbers p (record p { caches = caches })
other-caches p caches = record { slots = refl; pins = refl; union = refl; refs = λ key. refl; pages = refl; block = refl; page = refl }

pub both-same : {p q r : FilePlanner} → SameNumbers p q → SameNumbers q r → SameNumbers p r
both-same one two = record {
  slots = two.slots ∙ one.slots;
  pins = two.pins ∙ one.pins;
  union = two.union ∙ one.union;
  refs = λ key. two.refs key ∙ one.refs key;
  pages = two.pages ∙ one.pages;
  block = two.block ∙ one.block;
  page = two.page ∙ one.page;
}

-- what pins hold is as it was
pub holding-on : (own own' : List Bool) (pins pins' : List (Pin × List Bool)) (all all' : Option (List Bool)) → own' ≡ own → pins' ≡ pins → all' ≡ all → IsHolding own pins all → IsHolding own' pins' all'
holding-on own own' pins pins' all all' slots held union is =
    subst (λ (s : List Bool). IsHolding s pins' all') (sym slots) (subst (λ (ps : List (Pin × List Bool)). IsHolding own ps all') (sym held) (subst (λ (o : Option (List Bool)). IsHolding own pins o) (sym union) is))

-- the same numbers, and caches that are right for the file
pub knows-on : (p q : FilePlanner) (header : Header) (file : List ℕ) → SameNumbers p q → AreCached header file q.caches → Knows p header file → Knows q header file
knows-on p q header file same cached knows = record {
  cached = cached;
  known = λ m is.
      let known = knows.known m is in
      record {
        size = ap length same.slots ∙ known.size;
        used = subst (IsCovered (occupied (places_of is.blocks is.nodes) 8192)) (sym same.slots) known.used;
        refs = λ key. same.refs key ∙ known.refs key;
        pages = same.pages ∙ known.pages;
        next_block = same.block ∙ known.next_block;
        next_page = same.page ∙ known.next_page;
      };
  holding = holding-on p.slots q.slots p.held.pins.items q.held.pins.items p.held.all q.held.all same.slots same.pins same.union knows.holding;
}

-- the pages of a cache are those under any header that ends the file at the same byte
cached-at : (header present : Header) (file : List ℕ) (caches : PageCaches) → header.eof ≡ present.eof → AreCached header file caches → AreCached present file caches
cached-at header present file caches end cached = record {
  blocks = subst (λ (n : ℕ). PagesHold (bodies file n 0x80) caches.blocks) end cached.blocks;
  nodes = subst (λ (n : ℕ). PagesHold (bodies file n 0x81) caches.nodes) end cached.nodes;
}

-- a call that looks through caches, which tell of the file still
pub looks-on : (p q : FilePlanner) (header : Header) (v w : World) → SameNumbers p q → Untouched v w
    → ((m : NodeMap) (present : Header) → v.tells → Lays header (file_of v.here) m → header.eof ≡ present.eof → Knows p present (file_of v.here) → AreCached header (file_of v.here) q.caches)
    → LooksOn (Knows p) (Knows q) header p.slots q.slots p.held.pins.items q.held.pins.items (cells_of p) (cells_of q) v w
looks-on p q header v w same world cached = record {
  known = λ m tells lays present end knows. knows-on p q present (file_of v.here) same (cached-at header present (file_of v.here) q.caches end (cached m present tells lays end knows)) knows;
  slots = same.slots;
  pins = same.pins;
  room = λ i. (free_cells_of (placing_over (same.slots i) (same.union i)), same.pages i, spent (same.block i) (same.page i));
  world = world;
}

-- the caches after a call, of what was held
pub cached-after : {header : Header} {v w : World} {caches now : PageCaches} → Untouched v w → KeepsTelling v w header caches now → (m : NodeMap) → TellsNodes v header caches m → AreCached header (file_of v.here) now
cached-after {header} {v} {w} {caches} {now} same keeps m tells =
    let after = keeps m tells in
    let here = same.stays.here (after.cached.blocks.told.tells) in
    record {
      blocks = subst (λ (i : Image). PagesHold (bodies (file_of i) header.eof 0x80) now.blocks) here after.cached.blocks.kept;
      nodes = subst (λ (i : Image). PagesHold (bodies (file_of i) header.eof 0x81) now.nodes) here after.cached.nodes.kept;
    }

-- a plan that is drawn with the same numbers
pub drawn-on : {header : Header} {file : List ℕ} {m : NodeMap} (is : Lays header file m) (p q : FilePlanner) (cs : List (Nid × Option NodeRec)) (pieces : List Piece) (sealed : List ℕ) (next : Header) (e : PlanEffects)
    → SameNumbers p q → IsDrawn is (placing p) (refs_in p.refs) p.pages p.next_block p.next_page cs pieces sealed next e → IsDrawn is (placing q) (refs_in q.refs) q.pages q.next_block q.next_page cs pieces sealed next e
drawn-on {header} {file} {m} is p q cs pieces sealed next e same d =
    let numbers : (λ (key : ℕ). refs_in p.refs key) ≡ (λ (key : ℕ). refs_in q.refs key) = λ i key. sym (same.refs key) i in
    let over : placing q ≡ placing p = λ i. placing_over (same.slots i) (same.union i) in
    let one : IsDrawn is (placing q) (refs_in p.refs) p.pages p.next_block p.next_page cs pieces sealed next e = subst (λ (s : List Bool). IsDrawn is s (refs_in p.refs) p.pages p.next_block p.next_page cs pieces sealed next e) (sym over) d in
    let two : IsDrawn is (placing q) (refs_in q.refs) p.pages p.next_block p.next_page cs pieces sealed next e = subst (λ (f : ℕ → ℕ). IsDrawn is (placing q) f p.pages p.next_block p.next_page cs pieces sealed next e) numbers one in
    let three : IsDrawn is (placing q) (refs_in q.refs) q.pages p.next_block p.next_page cs pieces sealed next e = subst (λ (n : ℕ). IsDrawn is (placing q) (refs_in q.refs) n p.next_block p.next_page cs pieces sealed next e) (sym same.pages) two in
    let four : IsDrawn is (placing q) (refs_in q.refs) q.pages q.next_block p.next_page cs pieces sealed next e = subst (λ (n : ℕ). IsDrawn is (placing q) (refs_in q.refs) q.pages n p.next_page cs pieces sealed next e) (sym same.block) three in
    subst (λ (n : ℕ). IsDrawn is (placing q) (refs_in q.refs) q.pages q.next_block n cs pieces sealed next e) (sym same.page) four

-- what is held is held after both caches were emptied
pub held-emptied : (p q : FilePlanner) (found : List ℕ) (header : Header) (world : World) {N : port.Nodes} → SameNumbers p q → q.caches.blocks ≡ [] → q.caches.nodes ≡ [] → Holds (Knows p) found header world N → Holds (Knows q) found header world N
held-emptied p q found header world {N} same no_blocks no_nodes held =
    let file : List ℕ = file_of world.here in
    let cached : AreCached header file q.caches = record { blocks = none-wrong (bodies file header.eof 0x80) q.caches.blocks no_blocks; nodes = none-wrong (bodies file header.eof 0x81) q.caches.nodes no_nodes } in
    (held.0, record { stands = held.1.stands; own = held.1.own; known = knows-on p q header file same cached held.1.known })
