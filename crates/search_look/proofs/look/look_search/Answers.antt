use Rattle.std.proofs.Common.{◌≡◌, ◌∙◌, Some, sym, ap, subst}
use Rattle.node_port.specs.Nodes.{node_at}
use Rattle.mail_searches.specs.Searches.{results}
use Rattle.search_look.specs.Faults.{HasSearchFault}
use Rattle.search_look.specs.Looking.{TellsOwnAt}
use Rattle.search_look.proofs.Keeping.{finds_on, refuses_as}
use Rattle.search_look.proofs.Places.{found_at, list_fault}
use Rattle.search_look.proofs.look.look_search.Goals as goal

pub returns-in_err-check_list-clause-found : goal.returns-in_err-check_list-clause-found
returns-in_err-check_list-clause-found g c = λ N places held search.
    let held2 = c.in_ok-is_there.ensures.looks.stays N held in
    let held3 = c.in_ok-criteria.ensures.looks.stays N held2 in
    let told : TellsOwnAt N c.args.folder.bits (Some c.in-Some.criteria) = subst (TellsOwnAt N c.args.folder.bits) c.in-Some.is (c.in_ok-criteria.ensures.found N held2) in
    let at : node_at N (results c.args.folder.bits) ≡ Some c.in-Some-2.node = ap (node_at N) (sym c.beside-nid.ensures) ∙ sym (c.in_ok-node.ensures.found N held3) ∙ c.in-Some-2.is in
    finds_on _ _ c.in_err-check_list.field-0.0 _ c.from_residual-in_err-check_list.ensures.1
    (refuses_as _ (HasSearchFault N places) c.in_err-check_list.field-0.0
    (λ refusal wrong. list_fault N places c.args.folder c.beside-nid.result c.in-Some-2.node c.in-Some.criteria refusal search c.beside-nid.ensures at told wrong) c.in_err-check_list.ensures.found)

pub returns-clause-found : goal.returns-clause-found
returns-clause-found g c = λ N places held search.
    let held2 = c.in_ok-is_there.ensures.looks.stays N held in
    let held3 = c.in_ok-criteria.ensures.looks.stays N held2 in
    let told : TellsOwnAt N c.args.folder.bits (Some c.in-Some.criteria) = subst (TellsOwnAt N c.args.folder.bits) c.in-Some.is (c.in_ok-criteria.ensures.found N held2) in
    let at : node_at N (results c.args.folder.bits) ≡ Some c.in-Some-2.node = ap (node_at N) (sym c.beside-nid.ensures) ∙ sym (c.in_ok-node.ensures.found N held3) ∙ c.in-Some-2.is in
    found_at N c.args.folder.bits c.in-Some-2.node c.in-Some.criteria at told c.in_ok-check_list.ensures.found
