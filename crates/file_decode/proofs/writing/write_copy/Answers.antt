use Rattle.std.proofs.Common.{◌≡◌, ◌∙◌, ◌++◌, ℕ, List, Option, drop, ap, arith}
use Rattle.pst_outside.specs.World.{Image}
use Rattle.block_encoding.specs.declared.decoding.Method.{Method}
use Rattle.file_blocks.specs.Blocks.{file_of}
use Rattle.file_blocks.proofs.FileLaws.{same_length}
use Rattle.file_layout.specs.Opening.{opening}
use Rattle.file_decode.specs.Decoding.{decoded_blocks, decoded_count, decoded_file, method_in, no_header, plain_header}
use Rattle.file_decode.specs.Source.{header_in}
use Rattle.file_decode.proofs.BlockLaws.{same-file, whole-behind}
use Rattle.file_decode.proofs.CopyLaws.{copy-decoded}
use Rattle.copy_part.proofs.Keeping.{keeps_along}
use Rattle.file_decode.proofs.writing.write_copy.Goals as goal

pub returns-in_err-count-clause-keeps : goal.returns-in_err-count-clause-keeps
returns-in_err-count-clause-keeps g c = keeps_along c.in_ok-copy_bytes.ensures.keeps c.in_err-count.ensures.keeps

pub returns-in_err-settle-clause-keeps : goal.returns-in_err-settle-clause-keeps
returns-in_err-settle-clause-keeps g c = keeps_along (keeps_along c.in_ok-copy_bytes.ensures.keeps c.in_ok-count.ensures.keeps) c.in_err-settle.ensures.keeps

pub returns-in_err-put-clause-keeps : goal.returns-in_err-put-clause-keeps
returns-in_err-put-clause-keeps g c = keeps_along (keeps_along (keeps_along c.in_ok-copy_bytes.ensures.keeps c.in_ok-count.ensures.keeps) c.in_ok-settle.ensures.keeps) c.in_err-put.ensures.keeps

pub returns-in_err-settle-2-clause-keeps : goal.returns-in_err-settle-2-clause-keeps
returns-in_err-settle-2-clause-keeps g c =
    keeps_along (keeps_along (keeps_along (keeps_along c.in_ok-copy_bytes.ensures.keeps c.in_ok-count.ensures.keeps) c.in_ok-settle.ensures.keeps) c.in_ok-put.ensures.keeps) c.in_err-settle-2.ensures.keeps

pub returns-clause-keeps : goal.returns-clause-keeps
returns-clause-keeps g c =
    keeps_along (keeps_along (keeps_along (keeps_along c.in_ok-copy_bytes.ensures.keeps c.in_ok-count.ensures.keeps) c.in_ok-settle.ensures.keeps) c.in_ok-put.ensures.keeps) c.in_ok-settle-2.ensures.keeps

pub returns-clause-decoded : goal.returns-clause-decoded
returns-clause-decoded g c = λ told.
    let put = c.in_ok-settle-2.ensures.keeps.told told in
    let settled = c.in_ok-put.ensures.keeps.told put in
    let made = c.in_ok-settle.ensures.keeps.told settled in
    let copied = c.in_ok-count.ensures.keeps.told made in
    let start = c.in_ok-copy_bytes.ensures.keeps.told copied in
    let image : Image = (g.W.Outside.view c.args.w.now).here in
    let source = c.args.source.now in
    let blocks = c.args.blocks.now in
    let is = c.requires.source start in
    let file : List ℕ = file_of image in
    let copy : List ℕ = (g.W.Outside.view c.settle-2.new.w).here.copy in
    let decoded : (g.W.Outside.view c.settle.new.w).here.copy ≡ decoded_blocks source.method file blocks (no_header ++ drop 564 image.main) =
    c.in_ok-settle.ensures.copy settled ∙ c.in_ok-count.ensures.copy made
    ∙ (λ i. decoded_blocks source.method (same-file (c.in_ok-copy_bytes.ensures.keeps.same copied) i) blocks (c.in_ok-copy_bytes.ensures.copy copied i)) in
    let whole : copy ≡ decoded_file source.method source.bytes file blocks =
    copy-decoded source.method file image.main source.bytes _ copy source.header.eof blocks is.long (same_length image.main image.side is.long) (whole-behind image.main image.side is.long) (omega arith) (c.requires.whole start) c.requires.placed decoded
    (c.in_ok-settle-2.ensures.copy told ∙ c.in_ok-put.ensures.copy put) in
    record {
      header = source.header;
      opened = is.opened;
      blocks = blocks;
      laid = c.requires.laid start;
      count_is = c.in_ok-count.ensures.count ∙ ap (λ (m : Option Method). decoded_count m blocks) is.method;
      copy_is = whole ∙ (λ i. decoded_file (is.method i) (is.bytes i) file blocks) ∙ ap (λ (m : Option Method). decoded_file (method_in (opening image.main image.side)) (plain_header m (header_in image)) file blocks) is.method;
    }
