-- Runs of a file, and the blocks that stand in them.
use Rattle.std.proofs.Common.{None, List, Result, ap, arith, drop, false, ltb, refl, sym, take, ℕ, ◌%◌, ◌+◌, ◌-◌, ◌∙◌, ◌≡◌, ◌≤◌}
use Rattle.std.proofs.lemmas.Bool.{eq-eqb, le-leb, le-ltb}
use Rattle.std.proofs.lemmas.List.{drop-drop, drop-take, take-take}
use Rattle.block_frame.specs.Size.{disk_size_of}
use Rattle.block_frame.specs.Block.{reading}
use Rattle.btree_pages.specs.declared.entry.BlockEntry.{BlockEntry}
use Rattle.file_blocks.specs.declared.check.BlockRefusal.{BlockRefusal}
use Rattle.file_blocks.specs.declared.runs.Run.{Run}
use Rattle.file_blocks.specs.Blocks.{misplaced, data_at, faulty, unless}
use Rattle.file_blocks.specs.Runs.{IsIn, IsOf}
use Rattle.file_blocks.specs.Stops.{IsPlaced}

not-long : (cb : ℕ) → cb ≤ 8176 → ltb 8176 cb ≡ false
not-long cb short = le-ltb 8176 cb short

-- nothing is wrong with an entry whose block may stand where it says
pub placed-fits : (eof : ℕ) (e : BlockEntry) → IsPlaced eof e → misplaced eof e ≡ None
unfolding misplaced
placed-fits eof e placed =
    rw (not-long e.cb placed.short, le-leb 0x4400 e.at.ib placed.above, eq-eqb (e.at.ib % 64) 0 placed.start, le-leb (e.at.ib + disk_size_of e.cb) eof placed.before) refl

-- the block's bytes stand in those of the run
run-bytes : (file bytes : List ℕ) (run : Run) (e : BlockEntry) → IsIn run e → IsOf file run bytes → take (disk_size_of e.cb) (drop (e.at.ib - run.from) bytes) ≡ take (disk_size_of e.cb) (drop e.at.ib file)
run-bytes file bytes run e is of =
    let size : ℕ = disk_size_of e.cb in
    let start : ℕ = e.at.ib - run.from in
    let begins = is.begins in
    let ends : e.at.ib + size ≤ run.from + run.len = is.ends in
    let parts : run.len ≡ start + (run.len - start) = omega (arith, begins, ends) in
    let place : run.from + start ≡ e.at.ib = omega (arith, begins) in
    let front : size ≤ run.len - start = omega (arith, begins, ends) in
    ap (λ (bs : List ℕ). take size (drop start bs)) of
    ∙ ap (λ (n : ℕ). take size (drop start (take n (drop run.from file)))) parts
    ∙ ap (take size) (drop-take start (run.len - start) (drop run.from file))
    ∙ take-take size (run.len - start) (drop start (drop run.from file)) front
    ∙ ap (take size) (drop-drop start run.from file)
    ∙ ap (λ (n : ℕ). take size (drop n file)) place

-- what is read of them is what the file has
pub read-in : (file bytes : List ℕ) (eof : ℕ) (run : Run) (e : BlockEntry) (size : ℕ) (read : Result (List ℕ) BlockRefusal) → IsIn run e → IsPlaced eof e → IsOf file run bytes → size ≡ disk_size_of e.cb
    → read ≡ faulty (reading e.cb e.at (take size (drop (e.at.ib - run.from) bytes))) → data_at file eof e ≡ read
unfolding data_at
read-in file bytes eof run e size read is placed of is_size is_read =
    let whole : List ℕ = take (disk_size_of e.cb) (drop e.at.ib file) in
    ap (λ o. unless o (faulty (reading e.cb e.at whole))) (placed-fits eof e placed)
    ∙ sym (is_read
    ∙ ap (λ (n : ℕ). faulty (reading e.cb e.at (take n (drop (e.at.ib - run.from) bytes)))) is_size
    ∙ ap (λ (bs : List ℕ). faulty (reading e.cb e.at bs)) (run-bytes file bytes run e is of))
