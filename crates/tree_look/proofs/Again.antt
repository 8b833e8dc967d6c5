-- A tree that an opening finds is the one that its nodes show.
use Rattle.std.proofs.Common.{◌≡◌, ◌⊎◌, inl, inr, ◌∙◌, ℕ, ◌==◌, true, List, [], ◌∷◌, Option, None, Some, IsSome, is_some, arith, refl, sym, subst, ap, ◌||◌}
use Rattle.std.proofs.lemmas.Bool.{cases_Bool, eqb-true, false≢true}
use Rattle.std.proofs.lemmas.Option.{none-some, same_Some}
use Rattle.mapi_values.specs.Messages.{Mes}
use Rattle.mapi_values.specs.Tables.{find_row}
use Rattle.mail_objects.specs.Forms.{Tbl}
use Rattle.mail_objects.specs.Objects.{ShowsObject}
use Rattle.mail_objects.specs.declared.object.Object.{Object}
use Rattle.mail_objects.specs.declared.object.Object.TheVariants.{Context, Table, Message, Bare}
use Rattle.node_port.specs.Nodes.{Nodes, node_at}
use Rattle.node_port.specs.declared.node.NodeRec.{NodeRec}
use Rattle.mail_tree.specs.declared.places.FolderPlace.{FolderPlace}
use Rattle.mail_tree.specs.declared.places.Sort.{Sort}
use Rattle.mail_tree.specs.declared.places.Sort.TheVariants.{Plain, Foreign}
use Rattle.mail_tree.specs.Changing.{associated, contents, hierarchy}
use Rattle.mail_tree.specs.Folders.{place}
use Rattle.mail_tree.specs.Found.{BelongsAt, IsFound, named_sort}
use Rattle.mail_tree.specs.Ids.{is_taken}
use Rattle.mail_tree.specs.Places.{ROOT, find_place, is_plain, is_plain_sort, place_id}
use Rattle.mail_tree.specs.Standing.{HasTable, HasTables, HasTree, ListsFolder, ListsMessage, names_sort}
use Rattle.mail_tree.specs.Tree.{StandsAt, Tree, object_at}
use Rattle.mail_tree.specs.Whole.{IsWhole}
use Rattle.mail_tree.proofs.KindsOfPuts.{beside_kind}
use Rattle.mail_tree.proofs.Nearly.{message_id, table_of}
use Rattle.mail_tree.proofs.Settles.{folders_of, messages_of, store_of}
use Rattle.tree_look.specs.Shows.{IsOwned, Shows}
use Rattle.tree_look.proofs.Owned.{one_table_at}

-- the place of an id tells it
placed_id : (f : ℕ) (places : List FolderPlace) (p : FolderPlace) → find_place f places ≡ Some p → p.nid.bits ≡ f
placed_id f [] p e = absurd (none-some p e)
placed_id f (q ∷ qs) p e = elim (cases_Bool (place_id q == f)) [
  | inl t ↦ subst (λ (x : FolderPlace). x.nid.bits ≡ f) (same_Some q p (rw t at e)) (eqb-true (place_id q) f t)
  | inr t ↦ placed_id f qs p (rw t at e)
]

plain_place : (p : FolderPlace) (f parent : ℕ) → p.nid.bits ≡ f → p.parent.bits ≡ parent → is_plain p ≡ true → p ≡ place f parent
plain_place p f parent n m plain i = record { nid = record { bits = n i }; parent = record { bits = m i }; sort = sort p.sort plain i }
  where
    sort : (s : Sort) → is_plain_sort s ≡ true → s ≡ Plain
    sort Plain t = refl
    sort Foreign t = cc

module _ (N : Nodes) (T : Tree) (w : IsWhole T) (h : IsFound T) (at : (q : ℕ) → StandsAt q (node_at N q) (object_at T q) (node_at T.others q)) where
  -- the node of an object
  node_of : (q : ℕ) (o : Object) → object_at T q ≡ Some o → (node : NodeRec) × (node_at N q ≡ Some node) × ShowsObject q node o
  node_of q o e = (subst (λ x. StandsAt q (node_at N q) x (node_at T.others q)) e (at q)).1

  some_node : (q : ℕ) → IsSome (object_at T q) → IsSome (node_at N q)
  some_node q is = go (object_at T q) refl is
    where
      go : (x : Option Object) → object_at T q ≡ x → IsSome x → IsSome (node_at N q)
      go None e is = absurd (false≢true is)
      go (Some o) e is = subst IsSome (sym (node_of q o e).1) refl

  other_node : (q : ℕ) → object_at T q ≡ None → node_at N q ≡ node_at T.others q
  other_node q e = subst (λ x. StandsAt q (node_at N q) x (node_at T.others q)) e (at q)

  -- beside a plain folder stands its table of associated messages, or no node
  associated_at : (f : ℕ) (p : FolderPlace) → find_place f T.places ≡ Some p → is_plain p ≡ true → (x : Option Object) → object_at T (associated f) ≡ x → (node_at N (associated f) ≡ None) ⊎ ((t : Tbl) × HasTable N (associated f) t)
  associated_at f p e plain None none = inl (other_node (associated f) none ∙ w.no_stray f p e plain)
  associated_at f p e plain (Some o) is =
      let t = table_of (associated f) (object_at T (associated f)) (w.objects.typed (associated f)) (inr (inr (beside_kind f 15 (omega arith)))) (subst IsSome (sym is) refl) in
      inr (t.0, node_of (associated f) (Table t.0) t.1)

  listed_at : (f : ℕ) (p : FolderPlace) → find_place f T.places ≡ Some p → is_plain p ≡ true → (m : ℕ) → ListsMessage N f m → (M : Mes) × (object_at T m ≡ Some (Message M)) × (M.folder ≡ f)
  listed_at f p e plain m x =
      let t = messages_of w.objects f p e plain in
      let same = one_table_at N (contents f) x.0 t.0 x.1 (node_of (contents f) (Table t.0) t.1) in
      w.objects.listed f p t.0 m e plain t.1 (subst (λ (u : Tbl). IsSome (find_row m u.table.rows)) same x.2) x.3

  tables_at : (f : ℕ) (p : FolderPlace) → find_place f T.places ≡ Some p → is_plain p ≡ true → HasTables N f
  tables_at f p e plain = record {
    folders = let t = folders_of w.objects f p e plain in (t.0, node_of (hierarchy f) (Table t.0) t.1);
    messages = let t = messages_of w.objects f p e plain in (t.0, node_of (contents f) (Table t.0) t.1);
    others = associated_at f p e plain (object_at T (associated f)) refl;
    listed = λ m x. let M = listed_at f p e plain m x in (M.0, node_of m (Message M.0) M.1, M.2);
  }

  taken : (q : ℕ) → is_taken T q ≡ is_some (node_at N q)
  taken q = go (object_at T q) (at q)
    where
      go : (o : Option Object) → StandsAt q (node_at N q) o (node_at T.others q) → (is_some o || is_some (node_at T.others q)) ≡ is_some (node_at N q)
      go None e = sym (ap is_some e)
      go (Some o) e = sym (ap is_some (e.1).1)

  named : (r : ℕ) → named_sort T r ≡ names_sort N r
  named r = rw (taken r) refl

  folder_listed : (f : ℕ) (p : FolderPlace) (r : ℕ) (s : Sort) → find_place f T.places ≡ Some p → is_plain p ≡ true → ListsFolder N f r → names_sort N r ≡ Some s
      → (r ≡ ROOT → ⊥) × (find_place r T.places ≡ Some (record { nid = record { bits = r }; parent = record { bits = f }; sort = s }))
  folder_listed f p r s e plain x names =
      let t = folders_of w.objects f p e plain in
      let same = one_table_at N (hierarchy f) x.0 t.0 x.1 (node_of (hierarchy f) (Table t.0) t.1) in
      h.listed f p t.0 r s e plain t.1 (subst (λ (u : Tbl). IsSome (find_row r u.table.rows)) same x.2) (named r ∙ names)

  has_tree : HasTree N T.places
  has_tree = record {
    store = let c = store_of w.objects in (c.0, node_of 0x21 (Context c.0) c.1);
    names = let c = w.objects.names in (c.0, node_of 0x61 (Context c.0) c.1, c.2);
    ascend = w.objects.ascend;
    root = let p = w.objects.root in p.1 ∙ ap (λ (x : FolderPlace). Some x) (plain_place p.0 ROOT ROOT (placed_id ROOT T.places p.0 p.1) p.3 p.2);
    kinds = w.objects.kinds;
    contexts = λ f p e. let c = w.objects.contexts f p e in (c.0, node_of f (Context c.0) c.1, c.2);
    tables = tables_at;
    parents = λ f p e no_root. let v = w.objects.parents f p e no_root in (v.0, v.1, v.2, (v.3.0, node_of (hierarchy p.parent.bits) (Table v.3.0) v.3.1, v.3.2));
    listed = λ f p r e plain x s names. folder_listed f p r s e plain x names;
    reached = h.reached;
  }

  owned_is : (q : ℕ) (o : Object) → object_at T q ≡ Some o → BelongsAt T.places q o → IsOwned N T.places q
  owned_is q (Context c) e (inl same) = inl (inl same)
  owned_is q (Context c) e (inr (inl same)) = inl (inr same)
  owned_is q (Context c) e (inr (inr placed)) = inr (inl placed)
  owned_is q (Table t) e (f, p, inl same) = inr (inr (f, p, inl same))
  owned_is q (Table t) e (f, p, inr (inl same)) = inr (inr (f, p, inr (inl same)))
  owned_is q (Table t) e (f, p, inr (inr same)) = inr (inr (f, p, inr (inr (inl (same, some_node q (subst IsSome (sym e) refl))))))
  owned_is q (Bare parent) e b = absurd b
  owned_is q (Message m) e b =
      let v = w.objects.held q m e in
      let four = (message_id q m (w.objects.typed q (Message m) e)).0 in
      inr (inr (m.folder, (v.0, v.1, v.2), inr (inr (inr (v.3.0, node_of (contents m.folder) (Table v.3.0) v.3.1, v.3.2, four)))))

  is_owned : (q : ℕ) → IsOwned N T.places q → IsSome (object_at T q)
  is_owned q (inl (inl same)) = subst (λ x. IsSome (object_at T x)) (sym same) w.objects.store
  is_owned q (inl (inr same)) = subst (λ x. IsSome (object_at T x)) (sym same) (subst IsSome (sym w.objects.names.1) refl)
  is_owned q (inr (inl placed)) = go (find_place q T.places) refl placed
    where
      go : (x : Option FolderPlace) → find_place q T.places ≡ x → IsSome x → IsSome (object_at T q)
      go None e is = absurd (false≢true is)
      go (Some p) e is = subst IsSome (sym (w.objects.contexts q p e).1) refl
  is_owned q (inr (inr (f, p, inl same))) = subst (λ x. IsSome (object_at T x)) (sym same) (w.objects.tables f p.0 p.1 p.2).0
  is_owned q (inr (inr (f, p, inr (inl same)))) = subst (λ x. IsSome (object_at T x)) (sym same) (w.objects.tables f p.0 p.1 p.2).1
  is_owned q (inr (inr (f, p, inr (inr (inl x))))) = go (object_at T q) refl
    where
      go : (y : Option Object) → object_at T q ≡ y → IsSome (object_at T q)
      go (Some o) e = subst IsSome (sym e) refl
      go None e =
          let free : node_at T.others q ≡ None = ap (node_at T.others) x.0 ∙ w.no_stray f p.0 p.1 p.2 in
          absurd (false≢true (sym (ap is_some (other_node q e ∙ free)) ∙ x.1))
  is_owned q (inr (inr (f, p, inr (inr (inr x))))) = subst IsSome (sym (listed_at f p.0 p.1 p.2 q x).1) refl

  owns : (q : ℕ) → IsSome (object_at T q) → IsOwned N T.places q
  owns q is = go (object_at T q) refl is
    where
      go : (x : Option Object) → object_at T q ≡ x → IsSome x → IsOwned N T.places q
      go None e is = absurd (false≢true is)
      go (Some o) e is = owned_is q o e (h.owned q o e)

-- nodes that show a whole tree that an opening finds show that one by what an opening finds
pub shows_found : (N : Nodes) (T : Tree) → IsWhole T → IsFound T → ((q : ℕ) → StandsAt q (node_at N q) (object_at T q) (node_at T.others q)) → Shows N T
shows_found N T w h at = record {
  tree = has_tree N T w h at;
  at = at;
  typed = w.objects.typed;
  owned = λ q. (owns N T w h at q, is_owned N T w h at q);
}
