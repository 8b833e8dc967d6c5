-- Nodes that show a tree with searches have its searches.
use Rattle.std.proofs.Common.{◌≡◌, inl, inr, ◌∙◌, ℕ, ◌<◌, ◌%◌, true, List, Option, None, Some, IsSome, is_some, arith, refl, sym, subst, ap}
use Rattle.std.proofs.lemmas.Bool.{cases_Bool, false≢true}
use Rattle.std.proofs.lemmas.Option.{option_and_then_some}
use Rattle.mapi_values.specs.Messages.{Mes}
use Rattle.mapi_values.specs.Values.{Val}
use Rattle.search_obj.specs.Crits.{Crit}
use Rattle.search_obj.specs.Found.{crit_found, version_found}
use Rattle.search_obj.specs.Objects.{IsMarked}
use Rattle.search_obj.specs.declared.criteria.Version.{Version}
use Rattle.search_obj.proofs.FoundLaws.{marked_found}
use Rattle.mail_objects.specs.declared.object.Object.{Object}
use Rattle.mail_objects.specs.declared.object.Object.TheVariants.{Bare, Context, Message, Table}
use Rattle.mail_tree.specs.declared.places.FolderPlace.{FolderPlace}
use Rattle.mail_tree.specs.Changing.{as_message, beside, contents}
use Rattle.mail_tree.specs.Found.{BelongsAt}
use Rattle.mail_tree.specs.Places.{find_place}
use Rattle.mail_tree.specs.Tree.{object_at}
use Rattle.mail_tree.specs.Whole.{fits_id, kind_of_sort}
use Rattle.mail_tree.proofs.FineLaws.{cases_Option}
use Rattle.mail_tree.proofs.KindsOfPuts.{beside_kind}
use Rattle.mail_tree.proofs.Nearly.{folder_kind, message_id}
use Rattle.mail_searches.specs.Searches.{criteria_node, criteria_of, results}
use Rattle.mail_searches.specs.Searching.{IsOfSearch, Searching, is_own}
use Rattle.node_port.specs.Nodes.{Nodes, node_at}
use Rattle.search_look.specs.Having.{HasSearches, IsMessageIn, IsOwnIn, IsSearchIn}
use Rattle.search_lists.specs.Order.{AreOwn}
use Rattle.search_look.specs.Showing.{ShowsSearches}
use Rattle.mail_searches.specs.Searches.{KnowsMessages}
use Rattle.mail_tree.specs.Flags.{FlagList}
use Rattle.tree_look.specs.Seeing.{AreKnown}
use Rattle.search_look.proofs.Alike.{is_beside, no_beside, node_of, other_node}

-- search folders beside which a node stands are one
one_folder : (f g k l : ℕ) → k < 32 → l < 32 → f % 32 ≡ 3 → g % 32 ≡ 3 → beside f k ≡ beside g l → f ≡ g
one_folder f g k l less less' a b e = omega arith

-- criteria that values say are marked
marked : (props : List Val) (c : Crit) → criteria_of props ≡ Some c → (version : Version) × IsMarked props version
unfolding criteria_of
marked props c e = option_and_then_some (λ version. crit_found version props) (version_found props) c e (λ version is rest. (version, marked_found props version is))

message_of : (o : Option Object) → IsSome (as_message o) → (M : Mes) × (o ≡ Some (Message M))
message_of None is = absurd (false≢true is)
message_of (Some (Context c)) is = absurd (false≢true is)
message_of (Some (Table t)) is = absurd (false≢true is)
message_of (Some (Message M)) is = (M, refl)
message_of (Some (Bare parent)) is = absurd (false≢true is)

-- at the id of a node of a search belongs nothing that an opening of folders finds
not_found : (places : List FolderPlace) (q : ℕ) (o : Object) → ((f : ℕ) (p : FolderPlace) → find_place f places ≡ Some p → f % 32 ≡ kind_of_sort p.sort) → fits_id q o ≡ true → is_beside (q % 32) ≡ true → BelongsAt places q o → ⊥
not_found places q (Context c) kinds fits is (inl same) = no_beside q 1 (ap (λ x. x % 32) same) refl is
not_found places q (Context c) kinds fits is (inr (inl same)) = no_beside q 1 (ap (λ x. x % 32) same) refl is
not_found places q (Context c) kinds fits is (inr (inr placed)) = elim (cases_Option (find_place q places)) [
  | inl none ↦ false≢true (sym (ap is_some none) ∙ placed)
  | inr p ↦ elim (folder_kind p.0.sort q (kinds q p.0 p.1)) [ inl two ↦ no_beside q 2 two refl is | inr three ↦ no_beside q 3 three refl is ]
]
not_found places q (Table t) kinds fits is (f, p, inl same) = no_beside q 13 (ap (λ x. x % 32) same ∙ beside_kind f 13 (omega arith)) refl is
not_found places q (Table t) kinds fits is (f, p, inr (inl same)) = no_beside q 14 (ap (λ x. x % 32) same ∙ beside_kind f 14 (omega arith)) refl is
not_found places q (Table t) kinds fits is (f, p, inr (inr same)) = no_beside q 15 (ap (λ x. x % 32) same ∙ beside_kind f 15 (omega arith)) refl is
not_found places q (Message m) kinds fits is belongs = no_beside q 4 (message_id q m fits).0 refl is
not_found places q (Bare parent) kinds fits is belongs = belongs

module _ (N : Nodes) (X : Searching) (s : ShowsSearches N X) where
  -- an object at the id of a node of a search is one of the tree's own searches
  pub of_search : (q : ℕ) (o : Object) → object_at X.tree q ≡ Some o → is_beside (q % 32) ≡ true → IsOfSearch X.own q
  of_search q o e kind = elim (s.found.owned q o e) [
    | inl of ↦ of
    | inr belongs ↦ absurd (not_found X.tree.places q o s.whole.objects.kinds (s.whole.objects.typed q o e) kind belongs)
  ]

  own_of : (f q k : ℕ) → k < 32 → f % 32 ≡ 3 → q ≡ beside f k → IsOfSearch X.own q → is_own X.own f ≡ true
  own_of f q k less three e (g, is, inl same) = subst (λ x. is_own X.own x ≡ true) (one_folder g f 16 k (omega arith) less (s.searches.kinds g is) three (sym same ∙ e)) is
  own_of f q k less three e (g, is, inr (inl same)) = subst (λ x. is_own X.own x ≡ true) (one_folder g f 7 k (omega arith) less (s.searches.kinds g is) three (sym same ∙ e)) is
  own_of f q k less three e (g, is, inr (inr same)) = subst (λ x. is_own X.own x ≡ true) (one_folder g f 6 k (omega arith) less (s.searches.kinds g is) three (sym same ∙ e)) is

  -- beside another search folder stand other nodes alone
  others_beside : (f k : ℕ) → f % 32 ≡ 3 → (is_own X.own f ≡ true → ⊥) → k < 32 → is_beside k ≡ true → node_at N (beside f k) ≡ node_at X.tree.others (beside f k)
  others_beside f k three foreign less kind = go (object_at X.tree (beside f k)) refl
    where
      go : (x : Option Object) → object_at X.tree (beside f k) ≡ x → node_at N (beside f k) ≡ node_at X.tree.others (beside f k)
      go None e = other_node N X.tree s.at (beside f k) e
      go (Some o) e = absurd (foreign (own_of f (beside f k) k less three refl (of_search (beside f k) o e (ap is_beside (beside_kind f k less) ∙ kind))))

  own_is : (f : ℕ) → is_own X.own f ≡ true → IsSearchIn X.tree.places f × IsOwnIn N f
  own_is f own =
      let t = s.searches.tables f own in
      let c = s.searches.criteria f own in
      let list = node_of N X.tree s.at (results f) (Table t.0) t.1 in
      let criteria = node_of N X.tree s.at (criteria_node f) (Context c.0) c.1 in
      ((s.searches.placed f own, s.searches.kinds f own), (subst IsSome (sym list.1) refl, (criteria.0, c.0, criteria.1, criteria.2, marked c.0.props c.2.0 c.2.1)))

  is_all : (f : ℕ) → IsSearchIn X.tree.places f → IsOwnIn N f → is_own X.own f ≡ true
  is_all f stands own = elim (cases_Bool (is_own X.own f)) [
    | inl is ↦ is
    | inr other ↦
        let foreign : is_own X.own f ≡ true → ⊥ = λ is. false≢true (sym other ∙ is) in
        let list = others_beside f 16 stands.1 foreign (omega arith) refl in
        let criteria = others_beside f 7 stands.1 foreign (omega arith) refl in
        absurd (s.marked.foreign f stands.0 stands.1 other (subst (λ x. AreOwn x (node_at X.tree.others (criteria_node f))) list (subst (λ x. AreOwn (node_at N (results f)) x) criteria own)))
  ]

  -- a message of the tree is one that a plain folder lists
  pub is_message : (m : ℕ) → IsSome (as_message (object_at X.tree m)) → IsMessageIn N X.tree.places m
  is_message m is =
      let M = message_of (object_at X.tree m) is in
      let v = s.whole.objects.held m M.0 M.1 in
      (M.0.folder, (v.0, v.1, v.2), (v.3.0, node_of N X.tree s.at (contents M.0.folder) (Table v.3.0) v.3.1, v.3.2, (message_id m M.0 (s.whole.objects.typed m (Message M.0) M.1)).0))

  searches : HasSearches N X.tree.places X.own X.searches
  searches = record {
    own_ascend = s.searches.own_ascend;
    ascend = s.searches.ascend;
    among = s.searches.among;
    are_own = own_is;
    all = is_all;
    criteria = λ f own. let c = s.searches.criteria f own in (c.0, node_of N X.tree s.at (criteria_node f) (Context c.0) c.1, c.2);
    tables = λ f own.
        let t = s.searches.tables f own in
        (t.0, node_of N X.tree s.at (results f) (Table t.0) t.1);
  }

pub has_searches : (N : Nodes) (X : Searching) → ShowsSearches N X → HasSearches N X.tree.places X.own X.searches
has_searches N X s = searches N X s

-- where something is known of each message that is listed, something is of each message of the tree
pub knows_messages : (N : Nodes) (X : Searching) (flags : FlagList) → ShowsSearches N X → AreKnown N X.tree.places flags → KnowsMessages X.tree flags
knows_messages N X flags s known m is =
    let listed = is_message N X s m is in
    let told = known listed.0 m listed.1 listed.2 in
    subst IsSome (sym told.1) refl
