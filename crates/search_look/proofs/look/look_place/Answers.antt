use Rattle.std.proofs.Common.{Some, ap, subst}
use Rattle.search_obj.specs.Crits.{Crit}
use Rattle.search_look.specs.Having.{IsSearchIn}
use Rattle.search_look.specs.Looking.{FoundAt}
use Rattle.search_look.proofs.Parts.{keep_part}
use Rattle.search_look.proofs.look.look_place.Goals as goal

pub returns-clause-found : goal.returns-clause-found
returns-clause-found g c = λ N places rest held there part.
    let search : IsSearchIn places c.args.place.nid.bits = (there, c.if-place-ne3.false) in
    let found : FoundAt N c.args.place.nid.bits (Some c.in-Some.criteria) = subst (FoundAt N c.args.place.nid.bits) c.in-Some.is (c.in_ok-criteria.ensures.found N places held search) in
    keep_part N places rest c.args.place c.args.own.now c.keep_search.new.own c.args.searches.now c.keep_search.new.searches c.in-Some.criteria _ search found (ap (λ (k : Crit). k.set) c.criteria.view_is) c.in_ok-keep_search.ensures part
