use Rattle.std.proofs.Common.{rules, ◌≡◌, ◌∙◌, ℕ, List, [], ◌∷◌, ◌++◌, length, refl, ap}
use Rattle.pst_header.specs.Format.{reading}
use Rattle.empty_file.proofs.Joined.{adds-at, all-parts}
use Rattle.empty_file.proofs.parts.parts.Goals as goal

pub returns : goal.returns
returns c =
    let size : length c.write.result ≡ 564 = search rules in
    let bytes : c.in_ok-bytes.bytes ≡ c.write.result = c.in_ok-bytes.ensures in
    all-parts c.args.header.now (record { at = 0; bytes = c.in_ok-bytes.bytes }) _ _ _ _ _ _ _ _ _ _
    (record { place = refl; size = ap length bytes ∙ size; reads = ap reading bytes ∙ c.write.ensures.back }) c.new-parts.ensures.items c.in_ok-push.ensures.items
    (adds-at c.page_at.ensures c.in_ok-push_page.ensures)
    (adds-at c.page_at-2.ensures c.in_ok-push_page-2.ensures)
    (adds-at c.page_at-3.ensures c.in_ok-push_page-3.ensures)
    (adds-at c.page_at-4.ensures c.in_ok-push_page-4.ensures) c.write_leaf-blocks.ensures.reads_back
    (adds-at c.page_at-5.ensures c.in_ok-push_page-5.ensures) c.write_leaf-nodes.ensures.reads_back
    (c.in_ok-push-2.ensures.items ∙ ap (λ (l : List ℕ). c.push_page-5.new.parts.items ++ record { at = 271359; bytes = l } ∷ []) c.in_ok-bytes-2.ensures)
