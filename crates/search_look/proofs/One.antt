-- Nodes show at most one tree with searches.
use Rattle.std.proofs.Common.{◌≡◌, inl, inr, ◌∙◌, ℕ, ◌%◌, ◌==◌, true, List, [], ◌∷◌, Option, None, Some, is_some, option_map, arith, refl, sym, subst, ap}
use Rattle.std.proofs.lemmas.Bool.{cases_Bool, eqb-true, false≢true, or_left, or_right}
use Rattle.std.proofs.lemmas.Option.{none-some, same_Some}
use Rattle.std.specs.Cmp.{nat_cmp_total}
use Rattle.std.specs.FinMap as map
use Rattle.mapi_values.specs.Keyed.{find_key}
use Rattle.search_obj.specs.Crits.{Crit}
use Rattle.mail_objects.specs.Forms.{Ctx}
use Rattle.mail_objects.specs.Objects.{ShowsBare, ShowsObject}
use Rattle.mail_objects.specs.declared.object.Object.{Object}
use Rattle.mail_objects.specs.declared.object.Object.TheVariants.{Bare, Context, Message, Table}
use Rattle.mail_tree.specs.declared.places.FolderPlace.{FolderPlace}
use Rattle.mail_tree.specs.Tree.{StandsAt, Tree, object_at}
use Rattle.mail_tree.specs.Whole.{fits_id}
use Rattle.mail_tree.proofs.KindsOfPuts.{beside_kind}
use Rattle.mail_tree.proofs.Nearly.{message_id}
use Rattle.mail_tree.proofs.OneList.{one_list}
use Rattle.mail_searches.specs.Searches.{Search, criteria_of, find_search, search_id, search_of}
use Rattle.mail_searches.specs.Searching.{IsOfSearch, Searching, is_own}
use Rattle.node_port.specs.Nodes.{Nodes, node_at}
use Rattle.node_port.specs.declared.node.NodeRec.{NodeRec}
use Rattle.pst_base.specs.declared.ids.Nid.{Nid}
use Rattle.search_look.specs.Having.{HasSearches}
use Rattle.tree_look.proofs.Made.{context_apart, table_id}
use Rattle.tree_look.proofs.One.{one_object, one_tree}
use Rattle.tree_look.proofs.Owned.{one_context_at}
use Rattle.search_look.specs.Showing.{ShowsSearches}
use Rattle.search_look.proofs.Alike.{is_beside, node_of, other_node}
use Rattle.search_look.proofs.Has.{has_searches, of_search}
use Rattle.search_look.proofs.Without.{left_alike, shows_without, without}

found_own : (f x : ℕ) (own : List ℕ) → find_key (λ k. k) f own ≡ Some x → (f ≡ x) × (is_own own f ≡ true)
found_own f x [] e = absurd (none-some x e)
found_own f x (g ∷ gs) e = elim (cases_Bool (g == f)) [
  | inl t ↦ (sym (eqb-true g f t) ∙ same_Some g x (rw t at e), or_left (g == f) (is_own gs f) t)
  | inr t ↦ let rest = found_own f x gs (rw t at e) in (rest.0, or_right (g == f) (is_own gs f) rest.1)
]

own_found : (f : ℕ) (own : List ℕ) → is_own own f ≡ true → find_key (λ k. k) f own ≡ Some f
own_found f [] is = absurd (false≢true is)
own_found f (g ∷ gs) is = elim (cases_Bool (g == f)) [
  | inl t ↦ rw t (ap Some (eqb-true g f t))
  | inr t ↦ rw t (own_found f gs (rw t at is))
]

module _ (N : Nodes) (places : List FolderPlace) (own own' : List ℕ) (searches searches' : List Search) (h : HasSearches N places own searches) (k : HasSearches N places own' searches') where
  -- each own search folder is one by what its nodes say
  still_own : (f x : ℕ) → find_key (λ g. g) f own ≡ Some x → find_key (λ g. g) f own' ≡ Some x
  still_own f x e =
      let is = found_own f x own e in
      let there = h.are_own f is.1 in
      own_found f own' (k.all f there.0 there.1) ∙ ap Some is.0

  -- and its criteria are those that its object says
  still_search : (f : ℕ) (x : Search) → find_search f searches ≡ Some x → is_own own' f ≡ true → find_search f searches' ≡ Some x
  still_search f x e is =
      let c = h.criteria f (h.among f x e) in
      let d = k.criteria f is in
      let values : c.0 ≡ d.0 = one_context_at N _ c.0 d.0 c.1 d.1 in
      let same : d.2.0 ≡ c.2.0 = same_Some d.2.0 c.2.0 (sym d.2.1 ∙ ap (λ (v : Ctx). criteria_of v.props) (sym values) ∙ c.2.1) in
      d.2.2 ∙ ap (λ (y : Crit). option_map (search_of f) y.set) same ∙ sym c.2.2 ∙ e

-- nodes have one list of own search folders at most, and one list of searches with criteria
one_own : (N : Nodes) (places : List FolderPlace) (own own' : List ℕ) (searches searches' : List Search) → HasSearches N places own searches → HasSearches N places own' searches' → own ≡ own'
one_own N places own own' ss ss' h k = one_list (λ g. g) 0 0 own own' h.own_ascend k.own_ascend (still_own N places own own' ss ss' h k) (still_own N places own' own ss' ss k h)

one_searches : (N : Nodes) (places : List FolderPlace) (own own' : List ℕ) (searches searches' : List Search) → HasSearches N places own searches → HasSearches N places own' searches' → searches ≡ searches'
one_searches N places own own' ss ss' h k =
    let same = one_own N places own own' ss ss' h k in
    one_list search_id 0 0 ss ss' h.ascend k.ascend
    (λ f x e. still_search N places own own' ss ss' h k f x e (subst (λ fs. is_own fs f ≡ true) same (h.among f x e)))
    (λ f x e. still_search N places own' own ss' ss k h f x e (subst (λ fs. is_own fs f ≡ true) (sym same) (k.among f x e)))

-- what stands at the id of a node of updates has neither data nor subnodes
bare_of : (q : ℕ) (o : Object) (node : NodeRec) → fits_id q o ≡ true → q % 32 ≡ 6 → ShowsObject q node o → (parent : Nid) × ShowsBare node parent
bare_of q (Bare parent) node fits six shows = (parent, shows)
bare_of q (Context c) node fits six shows = absurd (context_apart q c fits (inr six))
bare_of q (Table t) node fits six shows = let high = table_id q t fits in absurd (omega arith)
bare_of q (Message m) node fits six shows = let four = (message_id q m fits).0 in absurd (omega arith)

-- an object of a search stands in each tree that has this search
module _ (N : Nodes) (X Y : Searching) (s : ShowsSearches N X) (t : ShowsSearches N Y) (same : X.own ≡ Y.own) where
  lacks_none : (q : ℕ) (o : Object) → object_at X.tree q ≡ Some o → IsOfSearch Y.own q → object_at Y.tree q ≡ None → ⊥
  lacks_none q o e (f, is, inl at) none = none-some _ (sym none ∙ ap (object_at Y.tree) at ∙ (t.searches.tables f is).1)
  lacks_none q o e (f, is, inr (inl at)) none = none-some _ (sym none ∙ ap (object_at Y.tree) at ∙ (t.searches.criteria f is).1)
  lacks_none q o e (f, is, inr (inr at)) none =
      let node = node_of N X.tree s.at q o e in
      let bare = bare_of q o node.0 (s.whole.objects.typed q o e) (ap (λ x. x % 32) at ∙ beside_kind f 6 (omega arith)) node.2 in
      t.marked.updates f node.0 bare.0 is (ap (node_at Y.tree.others) (sym at) ∙ sym (other_node N Y.tree t.at q none) ∙ node.1) bare.1

  pub has_too : (q : ℕ) (o : Object) → is_beside (q % 32) ≡ true → object_at X.tree q ≡ Some o → object_at Y.tree q ≡ None → ⊥
  has_too q o kind e = lacks_none q o e (subst (λ own. IsOfSearch own q) same (of_search N X s q o e kind))

module _ (N : Nodes) (X Y : Searching) (s : ShowsSearches N X) (t : ShowsSearches N Y) (counters : X.tree.last ≡ Y.tree.last) where
  -- without their searches the trees are one
  trees : without N X ≡ without N Y
  trees = one_tree N (without N X) (without N Y) (shows_without N X s) (shows_without N Y t) counters

  places : X.tree.places ≡ Y.tree.places
  places = ap (λ (T : Tree). T.places) trees

  have : HasSearches N X.tree.places Y.own Y.searches
  have = subst (λ ps. HasSearches N ps Y.own Y.searches) (sym places) (has_searches N Y t)

  own : X.own ≡ Y.own
  own = one_own N X.tree.places X.own Y.own X.searches Y.searches (has_searches N X s) have

  searches : X.searches ≡ Y.searches
  searches = one_searches N X.tree.places X.own Y.own X.searches Y.searches (has_searches N X s) have

  object_same : (q : ℕ) → object_at X.tree q ≡ object_at Y.tree q
  object_same q = elim (cases_Bool (is_beside (q % 32))) [
    | inr other ↦ sym (left_alike N X q other) ∙ ap (λ (T : Tree). object_at T q) trees ∙ left_alike N Y q other
    | inl kind ↦ go kind (object_at X.tree q) (object_at Y.tree q) refl refl
  ]
    where
      go : is_beside (q % 32) ≡ true → (a b : Option Object) → object_at X.tree q ≡ a → object_at Y.tree q ≡ b → object_at X.tree q ≡ object_at Y.tree q
      go kind None None e e' = e ∙ sym e'
      go kind (Some x) None e e' = absurd (has_too N X Y s t own q x kind e e')
      go kind None (Some y) e e' = absurd (has_too N Y X t s (sym own) q y kind e' e)
      go kind (Some x) (Some y) e e' =
          e ∙ ap Some (one_object N q x y (node_of N X.tree s.at q x e, s.whole.objects.typed q x e) (node_of N Y.tree t.at q y e', t.whole.objects.typed q y e')) ∙ sym e'

  other_same : (q : ℕ) → node_at X.tree.others q ≡ node_at Y.tree.others q
  other_same q = go (object_at X.tree q) (object_at Y.tree q) (object_same q) (s.at q) (t.at q)
    where
      go : (a b : Option Object) → a ≡ b → StandsAt q (node_at N q) a (node_at X.tree.others q) → StandsAt q (node_at N q) b (node_at Y.tree.others q) → node_at X.tree.others q ≡ node_at Y.tree.others q
      go None None e x y = sym x ∙ y
      go (Some a) (Some b) e x y = x.0 ∙ sym y.0
      go (Some a) None e x y = absurd (false≢true (sym (ap is_some e)))
      go None (Some b) e x y = absurd (false≢true (ap is_some e))

-- nodes show one tree with searches and these counters at most
pub one_searching : (N : Nodes) (X Y : Searching) → ShowsSearches N X → ShowsSearches N Y → X.tree.last ≡ Y.tree.last → X ≡ Y
one_searching N X Y s t counters =
    let ps = places N X Y s t counters in
    let os = map.same_map nat_cmp_total map.nat_cmp-IsAntisymmetric X.tree.objects Y.tree.objects (object_same N X Y s t counters) in
    let ns = map.same_map nat_cmp_total map.nat_cmp-IsAntisymmetric X.tree.others Y.tree.others (other_same N X Y s t counters) in
    let fs = own N X Y s t counters in
    let ss = searches N X Y s t counters in
    λ i. record { tree = record { places = ps i; objects = os i; others = ns i; last = counters i }; own = fs i; searches = ss i }
