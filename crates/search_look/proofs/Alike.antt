-- Trees that differ at the ids of nodes of searches alone.
use Rattle.std.proofs.Common.{◌≡◌, inl, inr, ◌∙◌, ℕ, ◌%◌, ◌==◌, Bool, true, false, List, Option, None, Some, IsSome, is_some, arith, refl, sym, subst, ap, ◌||◌}
use Rattle.std.proofs.lemmas.Bool.{false≢true}
use Rattle.mapi_values.specs.Keyed.{keys_ascend}
use Rattle.mail_objects.specs.Forms.{Tbl}
use Rattle.mail_objects.specs.Objects.{ShowsObject}
use Rattle.mail_objects.specs.declared.object.Object.{Object}
use Rattle.mail_objects.specs.declared.object.Object.TheVariants.{Message, Table}
use Rattle.mail_tree.specs.declared.places.FolderPlace.{FolderPlace}
use Rattle.mail_tree.specs.Changing.{associated, contents, hierarchy}
use Rattle.mail_tree.specs.Found.{named_sort}
use Rattle.mail_tree.specs.Ids.{is_taken}
use Rattle.mail_tree.specs.Names.{HoldsNames}
use Rattle.mail_tree.specs.Standing.{names_sort}
use Rattle.mail_tree.specs.Tree.{StandsAt, Tree, object_at}
use Rattle.mail_tree.specs.Whole.{AreWhole, HasRow, fits_id}
use Rattle.mail_tree.proofs.KindsOfPuts.{beside_kind}
use Rattle.mail_tree.proofs.Nearly.{folder_kind, message_id}
use Rattle.mail_searches.specs.Searching.{IsOfSearch}
use Rattle.node_port.specs.Nodes.{Nodes, node_at}
use Rattle.node_port.specs.declared.node.NodeRec.{NodeRec}

-- a kind of a node that stands beside a search folder
abbrev pub is_beside : ℕ → Bool
is_beside kind = (kind == 6) || ((kind == 7) || (kind == 16))

-- an id of another kind is none of such a node
pub no_beside : (q kind : ℕ) → q % 32 ≡ kind → is_beside kind ≡ false → is_beside (q % 32) ≡ true → ⊥
no_beside q kind e other is = false≢true (sym (ap is_beside e ∙ other) ∙ is)

-- the ids of nodes of searches are of such a kind
pub of_search_kind : (own : List ℕ) (q : ℕ) → IsOfSearch own q → is_beside (q % 32) ≡ true
of_search_kind own q (f, is, inl same) = ap (λ x. is_beside (x % 32)) same ∙ ap is_beside (beside_kind f 16 (omega arith))
of_search_kind own q (f, is, inr (inl same)) = ap (λ x. is_beside (x % 32)) same ∙ ap is_beside (beside_kind f 7 (omega arith))
of_search_kind own q (f, is, inr (inr same)) = ap (λ x. is_beside (x % 32)) same ∙ ap is_beside (beside_kind f 6 (omega arith))

-- each id shows the object of the tree, or is another node
abbrev pub Stands : Nodes → Tree → Type 0
Stands N T = (q : ℕ) → StandsAt q (node_at N q) (object_at T q) (node_at T.others q)

module _ (N : Nodes) (T : Tree) (at : Stands N T) where
  -- the node of an object
  pub node_of : (q : ℕ) (o : Object) → object_at T q ≡ Some o → (node : NodeRec) × (node_at N q ≡ Some node) × ShowsObject q node o
  node_of q o e = (subst (λ x. StandsAt q (node_at N q) x (node_at T.others q)) e (at q)).1

  -- no other node stands where an object does
  pub no_other : (q : ℕ) (o : Object) → object_at T q ≡ Some o → node_at T.others q ≡ None
  no_other q o e = (subst (λ x. StandsAt q (node_at N q) x (node_at T.others q)) e (at q)).0

  -- the node where no object stands is another one
  pub other_node : (q : ℕ) → object_at T q ≡ None → node_at N q ≡ node_at T.others q
  other_node q e = subst (λ x. StandsAt q (node_at N q) x (node_at T.others q)) e (at q)

  taken : (q : ℕ) → is_taken T q ≡ is_some (node_at N q)
  taken q = go (object_at T q) (at q)
    where
      go : (o : Option Object) → StandsAt q (node_at N q) o (node_at T.others q) → (is_some o || is_some (node_at T.others q)) ≡ is_some (node_at N q)
      go None e = sym (ap is_some e)
      go (Some o) e = sym (ap is_some e.1.1)

  -- a row names what the nodes say
  pub named : (r : ℕ) → named_sort T r ≡ names_sort N r
  named r = rw (taken r) refl

-- the same stands at ids of other kinds
abbrev pub AreAlike : (ℕ → Option Object) → (ℕ → Option Object) → Type 0
AreAlike at at' = (q : ℕ) → is_beside (q % 32) ≡ false → at' q ≡ at q

module _ (at at' : ℕ → Option Object) (alike : AreAlike at at') where
  alike_kind : (q kind : ℕ) → q % 32 ≡ kind → is_beside kind ≡ false → at' q ≡ at q
  alike_kind q kind e other = alike q (ap is_beside e ∙ other)

  pub alike_folders : (f : ℕ) → at' (hierarchy f) ≡ at (hierarchy f)
  alike_folders f = alike_kind (hierarchy f) 13 (beside_kind f 13 (omega arith)) refl

  pub alike_messages : (f : ℕ) → at' (contents f) ≡ at (contents f)
  alike_messages f = alike_kind (contents f) 14 (beside_kind f 14 (omega arith)) refl

  -- objects are whole where those are that are alike
  pub alike_whole : (places : List FolderPlace) → AreWhole places at → ((q : ℕ) (o : Object) → at' q ≡ Some o → fits_id q o ≡ true)
      → ((q : ℕ) (t : Tbl) → at' q ≡ Some (Table t) → keys_ascend (λ r. r.0) 0 t.table.rows ≡ true) → AreWhole places at'
  alike_whole places w typed ascend = record {
    ascend = w.ascend;
    root = w.root;
    kinds = w.kinds;
    parents = λ f p e no_root. let v = w.parents f p e no_root in (v.0, v.1, v.2, subst (λ x. HasRow x f) (sym (alike_folders p.parent.bits)) v.3);
    typed = typed;
    rows_ascend = ascend;
    store = subst IsSome (sym (alike 0x21 refl)) w.store;
    names = subst HoldsNames (sym (alike 0x61 refl)) w.names;
    contexts = λ f p e.
        let c = w.contexts f p e in
        let same : at' f ≡ at f = elim (folder_kind p.sort f (w.kinds f p e)) [ inl two ↦ alike_kind f 2 two refl | inr three ↦ alike_kind f 3 three refl ] in
        (c.0, same ∙ c.1, c.2);
    tables = λ f p e plain. let t = w.tables f p e plain in (subst IsSome (sym (alike_folders f)) t.0, subst IsSome (sym (alike_messages f)) t.1);
    listed = λ f p t m e plain is row four. let M = w.listed f p t m e plain (sym (alike_messages f) ∙ is) row four in (M.0, alike_kind m 4 four refl ∙ M.1, M.2);
    held = λ m M is.
        let v = w.held m M (sym (alike_kind m 4 (message_id m M (typed m (Message M) is)).0 refl) ∙ is) in
        (v.0, v.1, v.2, subst (λ x. HasRow x m) (sym (alike_messages M.folder)) v.3);
  }

-- in trees that are alike the same names stand, and the same nodes beside plain folders
module _ (N : Nodes) (T U : Tree) (at : Stands N T) (at' : Stands N U) (alike : AreAlike (object_at T) (object_at U)) where
  pub same_names : (r : ℕ) → named_sort T r ≡ named_sort U r
  same_names r = named N T at r ∙ sym (named N U at' r)

  pub no_stray : (f : ℕ) → node_at T.others (associated f) ≡ None → node_at U.others (associated f) ≡ None
  no_stray f none = go (object_at U (associated f)) refl
    where
      go : (x : Option Object) → object_at U (associated f) ≡ x → node_at U.others (associated f) ≡ None
      go (Some o) e = no_other N U at' (associated f) o e
      go None e =
          let was : object_at T (associated f) ≡ None = sym (alike_kind (object_at T) (object_at U) alike (associated f) 15 (beside_kind f 15 (omega arith)) refl) ∙ e in
          sym (other_node N U at' (associated f) e) ∙ other_node N T at (associated f) was ∙ none
