use Rattle.std.proofs.Common.{List, ◌≡◌, ◌∙◌, sym, ap, subst}
use Rattle.btree_pages.specs.declared.entry.BlockEntry.{BlockEntry}
use Rattle.file_layout.specs.Nodes.{AreNodes, blocks_in, nodes_in}
use Rattle.file_layout.specs.Opening.{opening}
use Rattle.file_layout.specs.Trees.{file_of}
use Rattle.file_decode.specs.Decoding.{decoded_file, method_in, plain_header}
use Rattle.file_decode.specs.Laid.{LaysNodes, decoded_in}
use Rattle.file_decode.specs.Source.{header_in}
use Rattle.file_decode.proofs.HeaderLaws.{source-reads, source-size}
use Rattle.file_decode.proofs.LaidLaws.{copy-lays}
use Rattle.file_decode.proofs.law.lays_decoded.Goals as goal

pub returns : goal.returns
returns c = λ image count copy is nodes are.
    let method = method_in (opening image.main image.side) in
    let header = plain_header method (header_in image) in
    let file = file_of image in
    let laid = is.laid in
    let made : copy ≡ decoded_file method header file (blocks_in laid.lays.blocks) = is.copy_is ∙ ap (decoded_file method header file) laid.blocks_are in
    let lead = subst (λ (es : List BlockEntry). AreNodes (decoded_in method file es) is.header.eof (nodes_in laid.lays.nodes) nodes) laid.blocks_are are in
    subst (LaysNodes is.header nodes) (sym made)
    (copy-lays method is.header header file laid.nodes laid.lays (source-size image.main image.side is.header is.opened) (source-reads image.main image.side is.header is.opened) nodes lead)
