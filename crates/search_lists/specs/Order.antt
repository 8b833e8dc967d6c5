-- What keeps a tree with its searches in order.
use Rattle.std.specs.Prelude.{◌≡◌, ℕ, ◌%◌, Bool, true, false, IsSome, Option, Some}
use Rattle.pst_base.specs.declared.ids.Nid.{Nid}
use Rattle.node_port.specs.Nodes.{node_at}
use Rattle.node_port.specs.declared.node.NodeRec.{NodeRec}
use Rattle.mail_objects.specs.Forms.{Ctx}
use Rattle.mail_objects.specs.Objects.{ShowsBare, ShowsContext}
use Rattle.mail_tree.specs.Found.{IsFoundBeside}
use Rattle.mail_tree.specs.Places.{find_place}
use Rattle.mail_tree.specs.Whole.{IsWhole}
use Rattle.mail_laws.specs.AttachmentLaws.{AllMirrorAttachments}
use Rattle.mail_laws.specs.Laws.{Counts, Mirrors}
use Rattle.search_obj.specs.Objects.{IsMarked}
use Rattle.search_obj.specs.declared.criteria.Version.{Version}
use Rattle.mail_searches.specs.Searches.{criteria_node, results, updates}
use Rattle.mail_searches.specs.Searching.{AllFresh, AreSearches, IsOfSearch, Searching, is_own}
use Rattle.search_lists.specs.Laws.{AllShow}

-- these nodes are the list and the criteria object of a search of the store's own: the list is there, and the object's values are marked
abbrev pub AreOwn : Option NodeRec → Option NodeRec → Type 0
AreOwn list criteria = IsSome list × ((node : NodeRec) × (c : Ctx) × (criteria ≡ Some node) × ShowsContext node c × ((version : Version) × IsMarked c.props version))

-- The own search folders are just those whose nodes say so: beside no other search folder such nodes stand. A node of updates is kept as another program's only where it has data or subnodes.
pub record AreMarked (X : Searching) : Type 0 where
  pub foreign : (f : ℕ) → IsSome (find_place f X.tree.places) → f % 32 ≡ 3 → is_own X.own f ≡ false → AreOwn (node_at X.tree.others (results f)) (node_at X.tree.others (criteria_node f)) → ⊥
  pub updates : (f : ℕ) (node : NodeRec) (parent : Nid) → is_own X.own f ≡ true → node_at X.tree.others (updates f) ≡ Some node → ShowsBare node parent → ⊥

-- A tree with its searches is in order: it is whole, an opening finds it in its nodes, the searches are those that its nodes say, and each running one lists what filtering lists. Where it is tidy its rows mirror what they show, those of attachments and of running searches too, and its counts are right, those of running searches too, which may not be so in a file of another program.
pub record InOrder (tidy : Bool) (X : Searching) : Type 0 where
  pub whole : IsWhole X.tree
  pub found : IsFoundBeside (IsOfSearch X.own) X.tree
  pub mirrors : tidy ≡ true → Mirrors X.tree
  pub counts : tidy ≡ true → Counts X.tree
  pub attachments : tidy ≡ true → AllMirrorAttachments X.tree
  pub lists : tidy ≡ true → AllShow X.tree X.searches
  pub searches : AreSearches X
  pub fresh : AllFresh X.tree X.searches
  pub marked : AreMarked X

-- it is in order, whether tidy or not
abbrev pub IsSound : Searching → Type 0
IsSound X = InOrder false X
