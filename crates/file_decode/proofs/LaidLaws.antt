-- A decoded copy lays the nodes that its blocks make.
use Rattle.std.proofs.Common.{Bool, true, false, ◌≡◌, ◌∙◌, ℕ, ◌+◌, ◌≤◌, List, [], ◌∷◌, ◌++◌, length, take, drop, map, if◌then◌else◌, eqb, Option, Some, None, Ok, refl, sym, ap, subst, arith, append_assoc, length-append, length-drop}
use Rattle.std.proofs.lemmas.List.{take-take, length-take}
use Rattle.pst_base.specs.declared.places.Place.{Place}
use Rattle.pst_header.specs.declared.header.Header.{Header}
use Rattle.pst_header.specs.Format.{reading as header_reading}
use Rattle.alloc_map.specs.Covered.{Once}
use Rattle.alloc_map.specs.Standing.{amap_places}
use Rattle.block_frame.specs.Block.{reading}
use Rattle.block_frame.specs.Size.{disk_size_of}
use Rattle.block_encoding.specs.declared.decoding.Method.{Method}
use Rattle.block_encoding.specs.Encoding.{decoded}
use Rattle.btree_pages.specs.declared.entry.BlockEntry.{BlockEntry}
use Rattle.file_blocks.specs.Blocks.{AllStand, Stands, data_of, entry_key, entry_with, faulty, found_in, misplaced, unless, data_at}
use Rattle.file_layout.specs.Nodes.{AreNodes, Lays, Node, NodeMap, block_tree, blocks_in, node_tree, nodes_in, place_of, regions_to}
use Rattle.file_layout.specs.Trees.{IsPlace, page_place, root_seat}
use Rattle.lays_kept.specs.Kept.{Each, SameAt}
use Rattle.lays_kept.proofs.Beside.{IsWhole}
use Rattle.lays_kept.proofs.Kept.{all_kept, each_back, each_front, pages_back, pages_front, tree_kept, unless_parts}
use Rattle.lays_kept.proofs.Once.{apart_once}
use Rattle.lays_kept.proofs.Places.{lays_places, lays_wholes}
use Rattle.lays_kept.proofs.Renewed.{behind_all}
use Rattle.file_decode.specs.Decoding.{bytes_at, decoded_block, decoded_blocks, is_data}
use Rattle.file_decode.specs.Laid.{LaysNodes, decoded_data, decoded_in, decoded_of}
use Rattle.file_decode.proofs.BlockLaws.{frame-holds}
use Rattle.file_decode.proofs.CrcLaws.{crc-small}
use Rattle.file_decode.proofs.DataLaws.{decoded-bytes, decoded-length}
use Rattle.file_decode.proofs.FrameLaws.{body-with, reads-with}
use Rattle.file_decode.proofs.HeaderLaws.{opens-behind}
use Rattle.file_decode.proofs.Standing.{AreDecoded, AreWithin, IsClearOf, any-decoded, any-kept, any-length, blocks-apart, bytes_now, places-clear, rest-once}

-- ---- one block

-- the data of a block are the front of its bytes
front-is : (e : BlockEntry) (file : List ℕ) → take e.cb (drop e.at.ib file) ≡ take e.cb (bytes_at e file)
front-is e file = let least : e.cb ≤ disk_size_of e.cb = omega arith in sym (take-take e.cb (disk_size_of e.cb) (drop e.at.ib file) least)

module _ (m : Method) (file copy : List ℕ) (eof : ℕ) (e : BlockEntry) (within : e.at.ib + disk_size_of e.cb ≤ length file) where
  abbrev own : List ℕ
  own = decoded m e.at.bid.bits (take e.cb (bytes_at e file))

  size : length (bytes_at e file) ≡ disk_size_of e.cb
  size = omega (arith, length-take (disk_size_of e.cb) (drop e.at.ib file), length-drop e.at.ib file, within)

  own-size : length own ≡ e.cb
  own-size = decoded-length m e.at.bid.bits (take e.cb (bytes_at e file)) ∙ omega (arith, length-take e.cb (bytes_at e file), size)

  data-stands : bytes_at e copy ≡ decoded_block m e (bytes_at e file) → Stands file eof e → Stands copy eof e
  unfolding data_at decoded_block
  data-stands now st =
      let parts = unless_parts (misplaced eof e) (faulty (reading e.cb e.at (bytes_at e file))) st.0 st.1 in
      let read = reads-with e.cb own (bytes_at e file) size own-size (crc-small own (decoded-bytes m e.at.bid.bits (take e.cb (bytes_at e file)))) e.at st.0 (frame-holds file eof e st.0 st.1) in
      (own, ap (λ o. unless o (faulty (reading e.cb e.at (bytes_at e copy)))) parts.0 ∙ ap (λ (b : List ℕ). faulty (reading e.cb e.at b)) now ∙ ap faulty read)

  data-found : bytes_at e copy ≡ decoded_block m e (bytes_at e file) → take e.cb (drop e.at.ib copy) ≡ decoded m e.at.bid.bits (take e.cb (drop e.at.ib file))
  unfolding decoded_block
  data-found now =
      front-is e copy ∙ ap (take e.cb) now ∙ body-with e.cb own (bytes_at e file) size own-size ∙ ap (decoded m e.at.bid.bits) (sym (front-is e file))

  some-stands : (is : Bool) → bytes_at e copy ≡ (if is then decoded_block m e (bytes_at e file) else bytes_at e file) → Stands file eof e → Stands copy eof e
  some-stands true now st = data-stands now st
  some-stands false now st = (all_kept file copy eof eof (omega arith) (e ∷ []) (now, tt) (st, tt)).0

  some-found : (is : Bool) → bytes_at e copy ≡ (if is then decoded_block m e (bytes_at e file) else bytes_at e file)
      → take e.cb (drop e.at.ib copy) ≡ (if is then decoded m e.at.bid.bits (take e.cb (drop e.at.ib file)) else take e.cb (drop e.at.ib file))
  some-found true now = data-found now
  some-found false now = front-is e copy ∙ ap (take e.cb) now ∙ sym (front-is e file)

any-stands : (method : Option Method) (file copy : List ℕ) (eof : ℕ) (e : BlockEntry) → e.at.ib + disk_size_of e.cb ≤ length file → bytes_at e copy ≡ bytes_now method file e → Stands file eof e → Stands copy eof e
any-stands None file copy eof e within now st = (all_kept file copy eof eof (omega arith) (e ∷ []) (now, tt) (st, tt)).0
any-stands (Some m) file copy eof e within now st = some-stands m file copy eof e within (is_data e) now st

any-found : (method : Option Method) (file copy : List ℕ) (e : BlockEntry) → e.at.ib + disk_size_of e.cb ≤ length file → bytes_at e copy ≡ bytes_now method file e
    → take e.cb (drop e.at.ib copy) ≡ decoded_data method e (take e.cb (drop e.at.ib file))
any-found None file copy e within now = front-is e copy ∙ ap (take e.cb) now ∙ sym (front-is e file)
any-found (Some m) file copy e within now = some-found m file copy 0 e within (is_data e) now

-- ---- all of them

all-stand : (method : Option Method) (file copy : List ℕ) (eof : ℕ) (es : List BlockEntry) → AreWithin file es → AreDecoded method file copy es → AllStand file eof es → AllStand copy eof es
all-stand method file copy eof [] within now all = tt
all-stand method file copy eof (e ∷ es) within now all = (any-stands method file copy eof e within.0 now.0 all.0, all-stand method file copy eof es within.1 now.1 all.1)

all-found : (method : Option Method) (file copy : List ℕ) (es : List BlockEntry) → AreWithin file es → AreDecoded method file copy es → (key : ℕ) → found_in copy es key ≡ decoded_in method file es key
all-found method file copy [] within now key = refl
all-found method file copy (e ∷ es) within now key = by_key (all-found method file copy es within.1 now.1 key) (eqb (entry_key e) key)
  where
    by_key : found_in copy es key ≡ decoded_in method file es key → (b : Bool) → data_of copy (if b then Some e else entry_with key es) ≡ decoded_of method file (if b then Some e else entry_with key es)
    by_key rest true = ap Some (any-found method file copy e within.0 now.0)
    by_key rest false = rest

within-eof : (file : List ℕ) (eof : ℕ) (es : List BlockEntry) → eof ≤ length file → Each (IsPlace eof) (map place_of es) → AreWithin file es
within-eof file eof [] long places = tt
within-eof file eof (e ∷ es) long places = (omega (arith, places.0.before, long), within-eof file eof es long places.1)

-- what stands in a file stands in one that is the same there
decoded-moved : (method : Option Method) (file copy other : List ℕ) (es : List BlockEntry) → Each (SameAt copy other) (map place_of es) → AreDecoded method file copy es → AreDecoded method file other es
decoded-moved method file copy other [] same now = tt
decoded-moved method file copy other (e ∷ es) same now = (same.0 ∙ now.0, decoded-moved method file copy other es same.1 now.1)

-- pages that are clear of all blocks have their bytes in the copy
clear-same : (method : Option Method) (file copy : List ℕ) (eof : ℕ) (es : List BlockEntry) (ps : List Place) → eof ≤ length file → AreWithin file es → Each (IsPlace eof) ps → Each (λ p. IsClearOf p es) ps
    → Each (SameAt (decoded_blocks method file es file) copy) ps → Each (SameAt file copy) ps
clear-same method file copy eof es [] long within places clear same = tt
clear-same method file copy eof es (p ∷ ps) long within places clear same = (
  same.0 ∙ any-kept method file es p within (omega (arith, places.0.before, long)) clear.0,
  clear-same method file copy eof es ps long within places.1 clear.1 same.1,
)

-- ---- the copy

module _ (method : Option Method) (h : Header) (header file : List ℕ) (was : NodeMap) (is : Lays h file was) (size : length header ≡ 564) (reads : header_reading header ≡ Ok h) where
  abbrev es : List BlockEntry
  es = blocks_in is.blocks

  abbrev pages : List Place
  pages = map page_place (is.blocks.pages ++ is.nodes.pages)

  abbrev now : List ℕ
  now = decoded_blocks method file es file

  abbrev copy : List ℕ
  copy = header ++ drop 564 now

  places : Each (IsPlace h.eof) (pages ++ map place_of es)
  places = lays_places h file was is

  wholes : Each IsWhole (pages ++ map place_of es)
  wholes = lays_wholes h file was is

  once : Once (pages ++ (map place_of es ++ amap_places (regions_to h.eof)))
  once = subst Once (append_assoc pages (map place_of es) (amap_places (regions_to h.eof))) (apart_once ((pages ++ map place_of es) ++ amap_places (regions_to h.eof)) is.apart)

  within : AreWithin file es
  within = within-eof file h.eof es is.long_enough (each_back (IsPlace h.eof) pages (map place_of es) places)

  moved-all : Each (SameAt now copy) (pages ++ map place_of es)
  moved-all = behind_all header now h.eof size (pages ++ map place_of es) places

  stand-decoded : AreDecoded method file copy es
  stand-decoded =
      decoded-moved method file now copy es (each_back (SameAt now copy) pages (map place_of es) moved-all)
      (any-decoded method file es within (blocks-apart es (amap_places (regions_to h.eof)) (each_back IsWhole pages (map place_of es) wholes) (rest-once pages (map place_of es ++ amap_places (regions_to h.eof)) once)))

  same-pages : Each (SameAt file copy) pages
  same-pages =
      clear-same method file copy h.eof es pages is.long_enough within (each_front (IsPlace h.eof) pages (map place_of es) places)
      (places-clear pages es (amap_places (regions_to h.eof)) (each_front IsWhole pages (map place_of es) wholes) (each_back IsWhole pages (map place_of es) wholes) once)
      (each_front (SameAt now copy) pages (map place_of es) moved-all)

  long : h.eof ≤ length copy
  long = omega (arith, length-append header (drop 564 now), length-drop 564 now, size, any-length method file es within, is.long_enough)

  pub copy-lays : (nodes : List Node) → AreNodes (decoded_in method file es) h.eof (nodes_in is.nodes) nodes → LaysNodes h nodes copy
  copy-lays nodes are = record {
    opened = opens-behind header (drop 564 now) h size reads;
    lays = record {
      long_enough = long;
      small_enough = is.small_enough;
      blocks = is.blocks;
      block_pages = record {
        level = is.block_pages.level;
        low_enough = is.block_pages.low_enough;
        tree = tree_kept (block_tree file h.eof) copy h.eof (omega arith) is.block_pages.level (root_seat h.bbt) is.blocks (pages_front (SameAt file copy) is.blocks.pages is.nodes.pages same-pages) is.block_pages.tree;
      };
      stand = all-stand method file copy h.eof es within stand-decoded is.stand;
      nodes = is.nodes;
      node_pages = record {
        level = is.node_pages.level;
        low_enough = is.node_pages.low_enough;
        tree = tree_kept (node_tree file h.eof) copy h.eof (omega arith) is.node_pages.level (root_seat h.nbt) is.nodes (pages_back (SameAt file copy) is.blocks.pages is.nodes.pages same-pages) is.node_pages.tree;
      };
      are = subst (λ (find : ℕ → Option (List ℕ)). AreNodes find h.eof (nodes_in is.nodes) nodes) (λ i key. sym (all-found method file copy es within stand-decoded key) i) are;
      apart = is.apart;
      counters = refl;
    };
  }
