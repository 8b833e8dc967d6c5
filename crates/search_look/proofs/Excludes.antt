-- A fault excludes that there are searches.
use Rattle.std.proofs.Common.{◌≡◌, ⊎_elim, ◌∙◌, ℕ, List, Some, IsSome, sym, ap, subst}
use Rattle.std.proofs.lemmas.Option.{none-some, same_Some}
use Rattle.mapi_values.specs.Tables.{find_row}
use Rattle.mail_objects.specs.Forms.{Ctx, Tbl}
use Rattle.mail_objects.specs.Objects.{ShowsTable}
use Rattle.mail_tree.specs.Standing.{HasContext}
use Rattle.mail_tree.specs.declared.places.FolderPlace.{FolderPlace}
use Rattle.node_port.specs.Nodes.{Nodes, node_at}
use Rattle.node_port.specs.declared.node.NodeRec.{NodeRec}
use Rattle.mail_searches.specs.Searches.{Search, criteria_node, criteria_of, results}
use Rattle.tree_look.proofs.Found.{one_table_at}
use Rattle.search_look.specs.Having.{HasSearches}
use Rattle.search_look.specs.Faults.{HasSearchFault}
use Rattle.search_look.specs.declared.stops.SearchRefusal.{SearchRefusal}
use Rattle.search_look.specs.declared.stops.SearchRefusal.TheVariants as refusals
use Rattle.search_look.proofs.OneAt.{none_shown, one_context_at}

pub excludes : (N : Nodes) (places : List FolderPlace) (refusal : SearchRefusal) → HasSearchFault N places refusal → (own : List ℕ) (searches : List Search) → HasSearches N places own searches → ⊥
excludes N places (refusals.Node q fault) is own searches has =
    let t = has.tables is.0 (has.all is.0 is.1 is.2) in
    let same = same_Some t.1.0 is.4.0 (sym t.1.1 ∙ subst (λ k. node_at N k ≡ Some is.4.0) is.3 is.4.1) in
    is.4.2.0 t.0 (subst (λ (n : NodeRec). ShowsTable n t.0) same t.1.2)
excludes N places (refusals.Criteria q) is own searches has =
    let shown = has.criteria is.0 (has.all is.0 is.1 is.2) in
    let same = one_context_at N q.bits is.4.0 shown.0 is.4.1 (subst (λ k. HasContext N k shown.0) (sym is.3) shown.1) in
    none-some shown.2.0 (sym is.4.2 ∙ ap (λ (c : Ctx). criteria_of c.props) same ∙ shown.2.1)
excludes N places (refusals.Stale f) is own searches has = absurd is
