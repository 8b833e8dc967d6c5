-- The tree with searches that is made from nodes.
use Rattle.std.proofs.Common.{◌≡◌, ◌⊎◌, inl, inr, ◌∙◌, ℕ, ◌%◌, ◌==◌, true, List, [], ◌∷◌, Option, None, Some, IsSome, is_some, arith, refl, sym, subst, ap}
use Rattle.std.proofs.lemmas.Bool.{and_from, eq-eqb, eqb-true, false≢true, or_cases, or_left, or_right}
use Rattle.std.proofs.lemmas.Option.{none-some, same_Some}
use Rattle.mapi_values.specs.Messages.{Mes}
use Rattle.mapi_values.specs.Tables.{find_row}
use Rattle.mail_objects.specs.Forms.{Ctx, Tbl}
use Rattle.mail_objects.specs.Objects.{ShowsBare}
use Rattle.mail_objects.specs.declared.object.Object.{Object}
use Rattle.mail_objects.specs.declared.object.Object.TheVariants.{Bare, Context, Message, Table}
use Rattle.mail_tree.specs.declared.places.FolderPlace.{FolderPlace}
use Rattle.mail_tree.specs.Changing.{as_message}
use Rattle.mail_tree.specs.Found.{IsFound, IsFoundBeside}
use Rattle.mail_tree.specs.Standing.{HasContext, HasMail, HasTable, HasTree}
use Rattle.mail_tree.specs.Tree.{StandsAt, Tree, object_at}
use Rattle.mail_tree.specs.Whole.{IsWhole, fits_id}
use Rattle.mail_tree.proofs.FineLaws.{cases_Option}
use Rattle.mail_tree.proofs.KindsOfPuts.{beside_kind}
use Rattle.mail_searches.specs.Searches.{Search, criteria_node, results, updates}
use Rattle.mail_searches.specs.Searching.{AreSearches, IsOfSearch, Searching, is_own}
use Rattle.node_port.specs.Nodes.{Nodes, node_at}
use Rattle.node_port.specs.declared.node.NodeRec.{NodeRec}
use Rattle.pst_base.specs.declared.ids.Nid.{Nid}
use Rattle.search_look.specs.Having.{HasSearches, IsMessageIn}
use Rattle.search_lists.specs.Order.{AreMarked}
use Rattle.tree_look.specs.Shows.{IsOwned, Shows}
use Rattle.tree_look.proofs.Gather.{Gathered, gather}
use Rattle.tree_look.proofs.Ids.{IsIn, Lists, each, either, like, nothing, one}
use Rattle.tree_look.proofs.Made.{shows_tree}
use Rattle.tree_look.proofs.One.{is_at, one_object}
use Rattle.tree_look.proofs.Owned.{IsAt, one_table_at, owned}
use Rattle.tree_look.proofs.Rows.{rows_rise}
use Rattle.search_look.specs.Showing.{ShowsSearches}
use Rattle.search_look.proofs.Alike.{AreAlike, Stands, alike_folders, alike_whole, no_other, no_stray, of_search_kind, other_node, same_names}

-- the node is one that has neither data nor subnodes
abbrev IsBareAt : Nodes → ℕ → Type 0
IsBareAt N q = (parent : Nid) × ((node : NodeRec) × (node_at N q ≡ Some node) × ShowsBare node parent)

-- an object of the folder's search stands at the id
abbrev IsAtSearch : Nodes → ℕ → ℕ → Type 0
IsAtSearch N f q = (q ≡ results f) ⊎ ((q ≡ criteria_node f) ⊎ ((q ≡ updates f) × IsBareAt N q))

in_own : (f : ℕ) (own : List ℕ) → is_own own f ≡ true → IsIn f own
in_own f [] is = false≢true is
in_own f (g ∷ gs) is = elim (or_cases (g == f) (is_own gs f) is) [ inl t ↦ inl (sym (eqb-true g f t)) | inr rest ↦ inr (in_own f gs rest) ]

own_in : (f : ℕ) (own : List ℕ) → IsIn f own → is_own own f ≡ true
own_in f [] is = absurd is
own_in f (g ∷ gs) (inl same) = or_left (g == f) (is_own gs f) (eq-eqb g f (sym same))
own_in f (g ∷ gs) (inr rest) = or_right (g == f) (is_own gs f) (own_in f gs rest)

criteria_fit : (q : ℕ) (c : Ctx) → q % 32 ≡ 7 → fits_id q (Context c) ≡ true
criteria_fit q c e = or_right (q == 0x21) _ (or_right (q == 0x61) _ (or_right (q % 32 == 2) _ (or_right (q % 32 == 3) (q % 32 == 7) (eq-eqb (q % 32) 7 e))))

results_fit : (q : ℕ) (t : Tbl) → q % 32 ≡ 16 → fits_id q (Table t) ≡ true
results_fit q t e = or_right (q % 32 == 13) _ (or_right (q % 32 == 14) _ (or_right (q % 32 == 15) (q % 32 == 16) (eq-eqb (q % 32) 16 e)))

context_is : (N : Nodes) (f : ℕ) (c : Ctx) → HasContext N (criteria_node f) c → IsAt N (criteria_node f) (Context c)
context_is N f c has = (has, criteria_fit (criteria_node f) c (beside_kind f 7 (omega arith)))

table_is : (N : Nodes) (f : ℕ) (t : Tbl) → HasTable N (results f) t → IsAt N (results f) (Table t)
table_is N f t has = (has, results_fit (results f) t (beside_kind f 16 (omega arith)))

mail_is : (N : Nodes) (m : ℕ) (M : Mes) → m % 32 ≡ 4 → HasMail N m M → IsAt N m (Message M)
mail_is N m M four has = (has, and_from (m % 32 == 4) (M.nid == m) (eq-eqb (m % 32) 4 four) (eq-eqb M.nid m (has.2).message.id))

-- an id, if the node there has neither data nor subnodes
module _ (N : Nodes) (k : ℕ) where
  same_node : (node : NodeRec) (q : ℕ) → node_at N k ≡ Some node → (x : (q ≡ k) × IsBareAt N q) → ShowsBare node x.1.0
  same_node node q e x = subst (λ (n : NodeRec). ShowsBare n x.1.0) (same_Some x.1.1.0 node (sym x.1.1.1 ∙ ap (node_at N) x.0 ∙ e)) x.1.1.2

  bare_node : (node : NodeRec) (blocks : List (List ℕ)) (subs : List _) → node_at N k ≡ Some node → node.blocks ≡ blocks → node.subs ≡ subs → Lists (λ q. (q ≡ k) × IsBareAt N q)
  bare_node node [] [] e b s =
      like (λ q. q ≡ k) (λ q. (q ≡ k) × IsBareAt N q) (λ q same. (same, (node.parent, (node, ap (node_at N) same ∙ e, record { parent = refl; blocks = b; subs = s })))) (λ q x. x.0) (one k)
  bare_node node (x ∷ xs) subs e b s = nothing (λ q. (q ≡ k) × IsBareAt N q) (λ q is. let none : x ∷ xs ≡ [] = sym b ∙ (same_node node q e is).blocks in cc)
  bare_node node [] (x ∷ xs) e b s = nothing (λ q. (q ≡ k) × IsBareAt N q) (λ q is. let none : x ∷ xs ≡ [] = sym s ∙ (same_node node q e is).subs in cc)

  bare_there : Lists (λ q. (q ≡ k) × IsBareAt N q)
  bare_there = elim (cases_Option (node_at N k)) [
    | inl none ↦ nothing (λ q. (q ≡ k) × IsBareAt N q) (λ q x. none-some x.1.1.0 (sym none ∙ ap (node_at N) (sym x.0) ∙ x.1.1.1))
    | inr node ↦ bare_node node.0 node.0.blocks node.0.subs node.1 refl refl
  ]

module _ (N : Nodes) (T : Tree) (own : List ℕ) (searches : List Search) (s : Shows N T) (w : IsWhole T) (found : IsFound T) (h : HasSearches N T.places own searches) where
  searched : Lists (λ q. (f : ℕ) × IsIn f own × IsAtSearch N f q)
  searched = each (λ f q. IsAtSearch N f q) own (λ f is.
      either (λ q. q ≡ results f) (λ q. (q ≡ criteria_node f) ⊎ ((q ≡ updates f) × IsBareAt N q)) (one (results f))
      (either (λ q. q ≡ criteria_node f) (λ q. (q ≡ updates f) × IsBareAt N q) (one (criteria_node f)) (bare_there N (updates f))))

  ids : Lists (λ q. IsOwned N T.places q ⊎ ((f : ℕ) × IsIn f own × IsAtSearch N f q))
  ids = either (IsOwned N T.places) (λ q. (f : ℕ) × IsIn f own × IsAtSearch N f q) (owned N T.places s.tree) searched

  -- an object is one of the tree, or one of a search, and shows the node
  abbrev IsObject : ℕ → Object → Type 0
  IsObject q o = ((object_at T q ≡ Some o) ⊎ ((f : ℕ) × (is_own own f ≡ true) × IsAtSearch N f q)) × IsAt N q o

  of_search : (f q : ℕ) → is_own own f ≡ true → IsAtSearch N f q → (o : Object) × IsAt N q o
  of_search f q is (inl same) = let t = h.tables f is in (Table t.0, subst (λ x. IsAt N x (Table t.0)) (sym same) (table_is N f t.0 t.1))
  of_search f q is (inr (inl same)) = let c = h.criteria f is in (Context c.0, subst (λ x. IsAt N x (Context c.0)) (sym same) (context_is N f c.0 c.1))
  of_search f q is (inr (inr x)) = (Bare x.1.0, (x.1.1, eq-eqb (q % 32) 6 (ap (λ y. y % 32) x.0 ∙ beside_kind f 6 (omega arith))))

  object_of : (q : ℕ) → IsOwned N T.places q ⊎ ((f : ℕ) × IsIn f own × IsAtSearch N f q) → (o : Object) × IsObject q o
  object_of q (inr (f, is, there)) = let o = of_search f q (own_in f own is) there in (o.0, (inr (f, own_in f own is, there), o.1))
  object_of q (inl is) = elim (cases_Option (object_at T q)) [
    | inl none ↦ absurd (false≢true (sym (ap is_some none) ∙ (s.owned q).1 is))
    | inr o ↦ (o.0, (inl o.1, is_at N T s q o.0 o.1))
  ]

  made : Gathered N IsObject ids.ids
  made = gather N IsObject ids.ids (λ q is. object_of q (ids.are q is))

  abbrev tree : Tree
  tree = record { places = T.places; objects = made.objects; others = made.others; last = T.last }

  stands : (q : ℕ) (o : Object) → object_at tree q ≡ Some o → IsAt N q o
  stands q o e = (made.is q o e).0.1

  at : Stands N tree
  at q = go (object_at tree q) refl
    where
      go : (o : Option Object) → object_at tree q ≡ o → StandsAt q (node_at N q) o (node_at tree.others q)
      go None e = sym (made.not q e)
      go (Some o) e = ((made.is q o e).2, (stands q o e).0)

  has_search : (f q : ℕ) → is_own own f ≡ true → IsAtSearch N f q → IsSome (object_at tree q)
  has_search f q is there = made.all q (ids.all q (inr (f, in_own f own is, there)))

  has_owned : (q : ℕ) → IsOwned N T.places q → IsSome (object_at tree q)
  has_owned q is = made.all q (ids.all q (inl is))

  -- what shows the node at an id is the object there
  object_is : (q : ℕ) (o : Object) → IsSome (object_at tree q) → IsAt N q o → object_at tree q ≡ Some o
  object_is q o some is = elim (cases_Option (object_at tree q)) [
    | inl none ↦ absurd (false≢true (sym (ap is_some none) ∙ some))
    | inr x ↦ x.1 ∙ ap Some (one_object N q x.0 o (stands q x.0 x.1) is)
  ]

  beside_search : (f q : ℕ) → is_own own f ≡ true → IsAtSearch N f q → IsOfSearch own q
  beside_search f q is (inl same) = (f, is, inl same)
  beside_search f q is (inr (inl same)) = (f, is, inr (inl same))
  beside_search f q is (inr (inr x)) = (f, is, inr (inr x.0))

  alike : AreAlike (object_at T) (object_at tree)
  alike q other = go (object_at tree q) (object_at T q) refl refl
    where
      go : (x y : Option Object) → object_at tree q ≡ x → object_at T q ≡ y → object_at tree q ≡ object_at T q
      go (Some o) y e e' = elim (made.is q o e).0.0 [
        | inl same ↦ e ∙ sym same
        | inr of ↦ absurd (false≢true (sym other ∙ of_search_kind own q (beside_search of.0 q of.1 of.2)))
      ]
      go None None e e' = e ∙ sym e'
      go None (Some o) e e' = absurd (false≢true (sym (ap is_some e) ∙ has_owned q ((s.owned q).0 (subst IsSome (sym e') refl))))

  whole : IsWhole tree
  whole = record {
    objects = alike_whole (object_at T) (object_at tree) alike T.places w.objects (λ q o e. (stands q o e).1) (λ q t e. let is = (stands q (Table t) e).0 in rows_rise is.0.blocks is.0.subs t.table (is.2).table);
    no_stray = λ f p e plain. no_stray N T tree s.at at alike f (w.no_stray f p e plain);
  }

  is_found : IsFoundBeside (IsOfSearch own) tree
  is_found = record {
    listed = λ f p t r sort e plain is row names. found.listed f p t r sort e plain (sym (alike_folders (object_at T) (object_at tree) alike f) ∙ is) row (same_names N T tree s.at at alike r ∙ names);
    reached = found.reached;
    owned = λ q o e. elim (made.is q o e).0.0 [
      | inl same ↦ inr (found.owned q o same)
      | inr of ↦ inl (beside_search of.0 q of.1 of.2)
    ];
  }

  abbrev all : Searching
  all = record { tree = tree; own = own; searches = searches }

  table_at : (f : ℕ) (is : is_own own f ≡ true) → object_at tree (results f) ≡ Some (Table (h.tables f is).0)
  table_at f is = let t = h.tables f is in object_is (results f) (Table t.0) (has_search f (results f) is (inl refl)) (table_is N f t.0 t.1)

  are_searches : AreSearches all
  are_searches = record {
    own_ascend = h.own_ascend;
    ascend = h.ascend;
    among = h.among;
    kinds = λ f is. (h.are_own f is).0.1;
    placed = λ f is. (h.are_own f is).0.0;
    criteria = λ f is. let c = h.criteria f is in (c.0, object_is (criteria_node f) (Context c.0) (has_search f (criteria_node f) is (inr (inl refl))) (context_is N f c.0 c.1), c.2);
    tables = λ f is. ((h.tables f is).0, table_at f is);
  }

  -- another node stands there as it is
  as_it_is : (q : ℕ) (node : NodeRec) → node_at tree.others q ≡ Some node → (object_at tree q ≡ None) × (node_at N q ≡ Some node)
  as_it_is q node e = elim (cases_Option (object_at tree q)) [
    | inl none ↦ (none, other_node N tree at q none ∙ e)
    | inr o ↦ absurd (none-some node (sym (no_other N tree at q o.0 o.1) ∙ e))
  ]

  are_marked : AreMarked all
  are_marked = record {
    foreign = λ f placed three other is.
        let list : IsSome (node_at N (results f)) = elim (cases_Option (node_at tree.others (results f))) [
          | inl none ↦ absurd (false≢true (sym (ap is_some none) ∙ is.0))
          | inr node ↦ subst IsSome (sym (as_it_is (results f) node.0 node.1).1) refl
        ] in
        let c = is.1 in
        false≢true (sym other ∙ h.all f (placed, three) (list, (c.0, c.1, (as_it_is (criteria_node f) c.0 c.2).1, c.3, c.4)));
    updates = λ f node parent is e bare.
        let there = as_it_is (updates f) node e in
        false≢true (sym (ap is_some there.0) ∙ has_search f (updates f) is (inr (inr (refl, (parent, (node, there.1, bare))))));
  }

  made_so : ShowsSearches N all
  made_so = record { at = at; whole = whole; found = is_found; searches = are_searches; marked = are_marked }

-- nodes that have a tree and searches show a tree with them
pub shows_searches : (N : Nodes) (places : List FolderPlace) (last : List ℕ) (own : List ℕ) (searches : List Search) → HasTree N places → HasSearches N places own searches
    → (X : Searching) × (X.tree.places ≡ places) × (X.tree.last ≡ last) × (X.own ≡ own) × (X.searches ≡ searches) × ShowsSearches N X
shows_searches N places last own searches h k =
    let T = shows_tree N places last h in
    let have = subst (λ ps. HasSearches N ps own searches) (sym T.1) k in
    (all N T.0 own searches T.3 T.4 T.5 have, T.1, T.2, refl, refl, made_so N T.0 own searches T.3 T.4 T.5 have)
