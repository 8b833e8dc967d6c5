use Rattle.std.proofs.Common.{◌≡◌, Ok, Err, subst, sym}
use Rattle.std.proofs.lemmas.Result.{IfOk-weaker}
use Rattle.pst_outside.specs.World.{Image}
use Rattle.pst_header.specs.declared.header.HeaderRefusal.TheVariants.{Encoded}
use Rattle.file_layout.specs.declared.stops.OpenRefusal.TheVariants as refusals
use Rattle.file_layout.specs.Opening.{opening}
use Rattle.file_scan.proofs.OpeningLaws.{opened-long}
use Rattle.file_decode.proofs.SourceLaws.{refused-long, source-encoded, source-plain}
use Rattle.file_decode.proofs.source.open_source.Goals as goal

pub counted_header-requires : goal.counted_header-requires
counted_header-requires g c = λ told. opened-long _ _ c.in-Ok.opened.header (c.in-Ok.ensures.opens told).0

pub encoded_source-requires : goal.encoded_source-requires
encoded_source-requires g c = λ told.
    let it = c.in-Err-Refused-Header-Encoded in
    let e = rw (it.field-0-is, it.field-0-0-is, it.field-0-0-0-is) at (it.ensures.opens told) in
    refused-long _ _ (Encoded it.method) e

pub returns-in_ok-counted_header-in-Ok-clause-source :
    goal.returns-in_ok-counted_header-in-Ok-clause-source
returns-in_ok-counted_header-in-Ok-clause-source g c = λ told.
    let it = c.in_ok-counted_header-in-Ok in
    let same = it.ensures.same.stays in
    let header = c.in-Ok.opened.header in
    let new = (g.W.Outside.view c.counted_header.new.w).here in
    source-plain new header it.field-0 (subst (λ (i : Image). opening i.main i.side ≡ Ok header) (sym (same.here told)) (c.in-Ok.ensures.opens (same.told told)).0) (it.ensures.bytes told)

pub returns-in-Err-Refused-Header-Encoded-clause-source :
    goal.returns-in-Err-Refused-Header-Encoded-clause-source
returns-in-Err-Refused-Header-Encoded-clause-source g c =
    let it = c.in-Err-Refused-Header-Encoded in
    let new = (g.W.Outside.view c.encoded_source.new.w).here in
    let same = c.encoded_source.ensures.same.stays in
    IfOk-weaker c.encoded_source.result _ _
    (λ source is told.
    let e = rw (it.field-0-is, it.field-0-0-is, it.field-0-0-0-is) at (it.ensures.opens (same.told told)) in
    source-encoded new it.method source (subst (λ (i : Image). opening i.main i.side ≡ Err (refusals.Header (Encoded it.method))) (sym (same.here told)) e) (is told))
    c.encoded_source.ensures.source
