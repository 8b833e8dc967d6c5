use Rattle.std.proofs.Common.{◌≡◌, ◌∙◌, ◌+◌, ◌-◌, ◌++◌, ℕ, List, length, take, ap, arith}
use Rattle.std.proofs.lemmas.List.{drop-drop}
use borrow.Rule.Slice.PartMut.{put_mid}
use Rattle.pst_base.specs.Fields.{replaced}
use Rattle.case_lines.proofs.edits.put.Goals as goal

pub returns-clause-put : goal.returns-clause-put
unfolding replaced
returns-clause-put c =
    let at = c.args.at in
    let old = c.args.bytes.now in
    let more = c.args.more.now in
    let k : at + length more - at ≡ length more = omega arith in
    ap (λ (n : ℕ). put_mid at n old c.copy_from_slice.new.self) k
    ∙ ap (λ (ys : List ℕ). put_mid at (length more) old ys) c.copy_from_slice.ensures.after
    ∙ ap (λ (zs : List ℕ). take at old ++ (more ++ zs)) (drop-drop (length more) at old)
