-- What nodes say is said once.
use Rattle.std.proofs.Common.{◌≡◌, ◌∙◌, ℕ, List, None, sym, ap, subst}
use Rattle.std.proofs.lemmas.Option.{same_Some}
use Rattle.std.specs.Option.{option_map}
use Rattle.mail_objects.specs.Forms.{Ctx}
use Rattle.mail_objects.specs.Objects.{ShowsContext}
use Rattle.mail_objects.proofs.OneLaws.{one-context}
use Rattle.mail_tree.specs.Standing.{HasContext}
use Rattle.node_port.specs.Nodes.{Nodes}
use Rattle.node_port.specs.declared.node.NodeRec.{NodeRec}
use Rattle.search_obj.specs.Crits.{Crit}
use Rattle.search_obj.specs.Objects.{Says}
use Rattle.mail_searches.specs.Searches.{Search, ShowsCriteria, criteria_of, find_search, search_of}
use Rattle.mail_searches.proofs.CriteriaLaws.{says-found}

pub one_context_at : (N : Nodes) (q : ℕ) (a b : Ctx) → HasContext N q a → HasContext N q b → a ≡ b
one_context_at N q a b s t = one-context s.0 a b s.2 (subst (λ (n : NodeRec). ShowsContext n b) (same_Some t.0 s.0 (sym t.1 ∙ s.1)) t.2)

-- the search that is shown is the one of the criteria that are said
pub said_shown : (N : Nodes) (q f : ℕ) (searches : List Search) (k : Crit) → ((c : Ctx) × HasContext N q c × Says c.props k) → ((c : Ctx) × HasContext N q c × ShowsCriteria searches f c.props)
    → find_search f searches ≡ option_map (search_of f) k.set
said_shown N q f searches k said shown =
    let props = ap (λ (x : Ctx). x.props) (one_context_at N q shown.0 said.0 shown.1 said.1) in
    let same : shown.2.0 ≡ k = same_Some shown.2.0 k (sym shown.2.1 ∙ ap criteria_of props ∙ says-found (said.0).props k said.2) in
    shown.2.2 ∙ ap (λ (x : Crit). option_map (search_of f) x.set) same

-- where none are set there is no search
pub none_shown : (N : Nodes) (q f : ℕ) (searches : List Search) (k : Crit) → ((c : Ctx) × HasContext N q c × Says c.props k) → ((c : Ctx) × HasContext N q c × ShowsCriteria searches f c.props)
    → k.set ≡ None → find_search f searches ≡ None
none_shown N q f searches k said shown none = said_shown N q f searches k said shown ∙ ap (option_map (search_of f)) none
