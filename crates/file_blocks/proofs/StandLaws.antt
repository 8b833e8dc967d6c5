-- What a block that stands holds, and worlds that go on telling.
use Rattle.std.proofs.Common.{Bool, Err, List, None, Ok, Option, Result, Some, ap, arith, drop, eqb, false, if◌then◌else◌, length, length-drop, ltb, not, refl, subst, sym, take, true, ℕ, ◌+◌, ◌∙◌, ◌≡◌, ◌≤◌}
use Rattle.std.proofs.lemmas.List.{take-take, length-take-le}
use Rattle.pst_base.specs.declared.ids.Bref.{Bref}
use Rattle.pst_outside.specs.World.{Image, World}
use Rattle.pst_outside.specs.Calls.{Untouched}
use Rattle.block_frame.specs.declared.block.BlockFault.{BlockFault}
use Rattle.block_frame.specs.declared.block.BlockFault.TheVariants.{Length, Crc, Sig}
use Rattle.block_frame.specs.declared.block.BlockFault.TheVariants as faults
use Rattle.block_frame.specs.Block.{reading, trailer_at}
use Rattle.block_frame.specs.pst_checksum.Crc.{crc_of}
use Rattle.pst_base.specs.Fields.{number_at}
use Rattle.pst_base.specs.Ids.{key_of}
use Rattle.block_frame.specs.pst_checksum.Sig.{sig_of}
use Rattle.block_frame.specs.Size.{disk_size_of}
use Rattle.btree_pages.specs.declared.entry.BlockEntry.{BlockEntry}
use Rattle.file_blocks.specs.declared.check.BlockRefusal.{BlockRefusal}
use Rattle.file_blocks.specs.declared.check.BlockRefusal.TheVariants.{Outside}
use Rattle.file_blocks.specs.declared.check.BlockRefusal.TheVariants as refusals
use Rattle.file_blocks.specs.Blocks.{unless, faulty, has_room, misplaced, data_at, Stands}
use Rattle.file_blocks.proofs.RoomLaws.{room-before}
use Rattle.file_blocks.specs.Stops.{Tells, StopsRead}
use Rattle.pst_base.specs.declared.stops.MemOr.{MemOr}
use Rattle.pst_base.specs.declared.stops.MemOr.TheVariants.{Refused}
use Rattle.file_blocks.specs.declared.check.BlockStop.{BlockStop}
use Rattle.file_blocks.specs.declared.check.BlockStop.TheVariants.{Refused as Faults}

ok_same : {E Y : Type 0} (x y : Y) → ◌≡◌ {A = Result Y E} (Ok x) (Ok y) → x ≡ y
ok_same x y h = cc

-- four tests that were passed
four : (p q r s : Bool) (a b c d : BlockFault) (x y : List ℕ) → (if not p then Err a else if not q then Err b else if not r then Err c else if not s then Err d else Ok x) ≡ Ok y → x ≡ y
four false q r s a b c d x y h = absurd (cc)
four true false r s a b c d x y h = absurd (cc)
four true true false s a b c d x y h = absurd (cc)
four true true true false a b c d x y h = absurd (cc)
four true true true true a b c d x y h = ok_same {E = BlockFault} x y h

-- a frame's reading gives the front of its bytes
pub reading-front : (cb : ℕ) (at : Bref) (b content : List ℕ) → reading cb at b ≡ Ok content → content ≡ take cb b
unfolding reading
reading-front cb at b content h =
    let t = trailer_at cb in
    let id = number_at 8 (t + 8) b in
    sym (four (eqb (number_at 2 t b) cb) (eqb (number_at 4 (t + 4) b) (crc_of (take cb b))) (eqb (number_at 2 (t + 2) b) (sig_of at.ib id)) (eqb (key_of id) (key_of at.bid.bits))
    (Length (number_at 2 t b) cb) (Crc (number_at 4 (t + 4) b) (crc_of (take cb b))) (Sig (number_at 2 (t + 2) b) (sig_of at.ib id)) (faults.Bid (key_of id) (key_of at.bid.bits)) (take cb b) content h)

unfaulty : (r : Result (List ℕ) BlockFault) (content : List ℕ) → faulty r ≡ Ok content → r ≡ Ok content
unfaulty (Ok got) content h = ap Ok (ok_same {E = BlockRefusal} got content h)
unfaulty (Err fault) content h = absurd (cc)

unless-none : (o : Option BlockRefusal) (r : Result (List ℕ) BlockRefusal) (content : List ℕ) → unless o r ≡ Ok content → (o ≡ None) × (r ≡ Ok content)
unless-none None r content h = (refl, h)
unless-none (Some refusal) r content h = absurd (cc)

-- a block that stands: nothing is wrong with its entry, and its data are the bytes at its place
pub content-is : (file : List ℕ) (eof : ℕ) (e : BlockEntry) (content : List ℕ) → data_at file eof e ≡ Ok content → content ≡ take e.cb (drop e.at.ib file)
unfolding data_at
content-is file eof e content h =
    let parts = unless-none (misplaced eof e) (faulty (reading e.cb e.at (take (disk_size_of e.cb) (drop e.at.ib file)))) content h in
    reading-front e.cb e.at (take (disk_size_of e.cb) (drop e.at.ib file)) content (unfaulty _ content parts.1)
    ∙ take-take e.cb (disk_size_of e.cb) (drop e.at.ib file) (omega arith)

-- a call that changes nothing leaves what the world tells
pub tells-still : {old new : World} {eof : ℕ} → Untouched old new → Tells old eof → Tells new eof
tells-still {old} {new} {eof} same told =
    let now : new.tells = same.keeps_told told.tells in
    record { tells = now; whole = subst (λ (i : Image). eof ≤ length i.main) (sym (same.stays.here now)) told.whole }

-- a block can't be whole and at fault
pub never-both : (r : Result (List ℕ) BlockRefusal) (content : List ℕ) (refusal : BlockRefusal) → r ≡ Ok content → r ≡ Err refusal → ⊥
never-both r content refusal ok err = apart (sym ok ∙ err)
  where
    apart : ◌≡◌ {A = Result (List ℕ) BlockRefusal} (Ok content) (Err refusal) → ⊥
    apart h = cc

-- a refusal, read off an answer's variants
pub stop-is : (e : MemOr BlockStop) (s : BlockStop) (refusal : BlockRefusal) (r : Result (List ℕ) BlockRefusal) → e ≡ Refused s → s ≡ Faults refusal → StopsRead e r → r ≡ Err refusal
stop-is e s refusal r one two stops =
    let at : e ≡ Refused (Faults refusal) = one ∙ ap Refused two in
    let P : MemOr BlockStop → Type 0 = λ x. StopsRead x r in
    let h : StopsRead (Refused (Faults refusal)) r = subst P at stops in
    h

-- two tests that found nothing wrong
none-room : (long room : Bool) (a b : BlockRefusal) → (if long then Some a else (if room then None else Some b)) ≡ None → room ≡ true
none-room true room a b h = absurd (cc)
none-room false true a b h = refl
none-room false false a b h = absurd (cc)

-- a block that stands has the length that its entry says
pub stands-size : (file : List ℕ) (eof : ℕ) (e : BlockEntry) → Stands file eof e → eof ≤ length file → length (take e.cb (drop e.at.ib file)) ≡ e.cb
unfolding data_at misplaced
stands-size file eof e stands whole =
    let size = disk_size_of e.cb in
    let parts = unless-none (misplaced eof e) (faulty (reading e.cb e.at (take size (drop e.at.ib file)))) stands.0 stands.1 in
    let room = none-room (ltb 8176 e.cb) (has_room eof size e.at.ib) refusals.Length Outside parts.0 in
    let ends = room-before eof size e.at.ib room in
    let least : e.cb ≤ size = omega arith in
    length-take-le e.cb (drop e.at.ib file) (omega (arith, length-drop e.at.ib file, ends, whole, least))
