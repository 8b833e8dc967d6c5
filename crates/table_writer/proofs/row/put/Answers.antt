use Rattle.std.proofs.Common.{◌≡◌, ◌∙◌, ◌+◌, ◌-◌, ◌++◌, ℕ, List, length, take, ap, arith}
use Rattle.std.proofs.lemmas.List.{drop-drop}
use borrow.Rule.Slice.PartMut.{put_mid}
use Rattle.pst_base.specs.Fields.{replaced}
use Rattle.table_writer.proofs.row.put.Goals as goal

pub returns : goal.returns
unfolding replaced
returns c =
    let at = c.args.at in
    let row = c.args.row.now in
    let bytes = c.args.bytes.now in
    let k : at + length bytes - at ≡ length bytes = omega arith in
    ap (λ (n : ℕ). put_mid at n row c.copy_from_slice.new.self) k
    ∙ ap (λ (ys : List ℕ). put_mid at (length bytes) row ys) c.copy_from_slice.ensures.after
    ∙ ap (λ (zs : List ℕ). take at row ++ (bytes ++ zs)) (drop-drop (length bytes) at row)
