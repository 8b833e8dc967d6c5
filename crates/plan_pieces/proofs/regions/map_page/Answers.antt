use Rattle.std.proofs.Common.{rules, ◌∙◌, ℕ, List, replicate, ap}
use Rattle.pst_base.specs.declared.ids.Bref.{Bref}
use Rattle.page_frame.proofs.PageLaws.{page_only}
use Rattle.plan_pieces.specs.Growth.{map_page}
use Rattle.plan_pieces.proofs.regions.map_page.Goals as goal

pub returns : goal.returns
unfolding map_page
returns c =
    let at : Bref = record { bid = record { bits = c.args.at }; ib = c.args.at } in
    let page = page_only c.args.kind at (replicate 496 c.args.fill) c.seal-page.result c.seal-page.ensures.page (λ i. search (rules, c.seal-page.type_inv)) in
    ap (λ (b : List ℕ). record { at = c.args.at; bytes = b }) (c.in_ok-bytes.ensures ∙ page)
